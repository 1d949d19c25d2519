use Rattle.std.proofs.Common.{rules, ◌≡◌, string_bytes, ap, ap₂, ◌∙◌}
use Rattle.std.specs.BTreeMap.{insert_entry}
use Rattle.std.specs.String.{string_cmp}
use Rattle.std.specs.FinMap.{insert}
use Rattle.luf_io.specs.Count.{next_count}
use Rattle.luf_io.specs.Files.{FileMap}
use Rattle.luf_io.specs.MemFiles.{FilesState, files_in}
use Rattle.luf_io.proofs.FileMaps.{files_insert, same_state}
use Rattle.luf_io.proofs.mem_files.MemFilesFiles.replace.Goals as goal

pub returns-in-Ok-insert-clause-ok : goal.returns-in-Ok-insert-clause-ok
returns-in-Ok-insert-clause-ok c =
    let before : files_in c.self.inside.files.entries ≡ c.args.self.now.files = ap (λ (s : FilesState). s.files) c.self.view_is in
    let key : string_bytes c.in-Ok.key ≡ c.args.name.now = c.in-Ok.ensures.ok in
    let value : c.in-Ok-from_slice.value.items ≡ c.args.bytes.now = c.in-Ok-from_slice.ensures.items in
    let entries : c.insert.new.self.entries ≡ insert_entry string_cmp c.self.inside.files.entries c.in-Ok.key c.in-Ok-from_slice.value = c.in-Ok-insert.ensures.entries in
    let calls : c.saturating_add-self-inside.result ≡ next_count c.args.self.now.calls = search rules in
    let after : files_in c.insert.new.self.entries ≡ insert c.args.self.now.files c.args.name.now c.args.bytes.now =
    ap files_in entries
    ∙ files_insert c.in-Ok.key c.in-Ok-from_slice.value c.self.inside.files.entries
    ∙ ap (λ (files : FileMap). insert files (string_bytes c.in-Ok.key) c.in-Ok-from_slice.value.items) before
    ∙ ap₂ (insert c.args.self.now.files) key value in
    same_state after (ap (λ (s : FilesState). s.fails) c.self.view_is) calls (ap (λ (s : FilesState). s.fetches) c.self.view_is) (ap (λ (s : FilesState). s.replaces) c.self.view_is)
