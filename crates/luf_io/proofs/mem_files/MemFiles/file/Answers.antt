use Rattle.std.proofs.Common.{rules, Some, sym, ap, ◌∙◌}
use Rattle.luf_io.specs.MemFiles.{FilesState}
use Rattle.luf_io.proofs.FileMaps.{file_there, file_missing}
use Rattle.luf_io.proofs.mem_files.MemFiles.file.Goals as goal

pub returns-in-Some : goal.returns-in-Some
returns-in-Some c = ap Some c.as_slice.ensures.value ∙ sym (file_there _ c.self.inside.files.entries c.args.name.now c.in-Some.bytes.now (ap (λ (s : FilesState). s.files) (sym c.self.view_is)) (search rules))

pub returns-in-None : goal.returns-in-None
returns-in-None c = sym (file_missing _ c.self.inside.files.entries c.args.name.now (ap (λ (s : FilesState). s.files) (sym c.self.view_is)) (search rules))
