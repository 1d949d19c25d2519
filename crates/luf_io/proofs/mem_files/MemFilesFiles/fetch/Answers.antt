use Rattle.std.proofs.Common.{rules, ◌≡◌, inl, inr, Contains, Some, None, refl, sym, ap}
use Rattle.std.specs.FinMap.{get}
use Rattle.luf_io.specs.Count.{next_count}
use Rattle.luf_io.specs.MemFiles.{FilesState, files_in}
use Rattle.luf_io.proofs.FileMaps.{file_there, file_missing, not_both, kept_file}
use Rattle.luf_io.proofs.mem_files.MemFilesFiles.fetch.Goals as goal

pub returns-in_default-clause-refused : goal.returns-in_default-clause-refused
returns-in_default-clause-refused c =
    let files : c.args.self.now.files ≡ files_in c.self.inside.files.entries = ap (λ (s : FilesState). s.files) (sym c.self.view_is) in
    let missing : get c.args.self.now.files c.args.name.now ≡ None = file_missing _ c.self.inside.files.entries c.args.name.now files (search rules) in
    (λ _. inr missing, λ _. refl)

pub returns-in_default-clause-counted : goal.returns-in_default-clause-counted
returns-in_default-clause-counted c =
    let files : c.args.self.now.files ≡ files_in c.self.inside.files.entries = ap (λ (s : FilesState). s.files) (sym c.self.view_is) in
    let missing : get c.args.self.now.files c.args.name.now ≡ None = file_missing _ c.self.inside.files.entries c.args.name.now files (search rules) in
    inl ((c.args.self.now.files, refl, missing), ap (λ (s : FilesState). s.fetches) c.self.view_is)

pub returns-then-contains-clause-counted : goal.returns-then-contains-clause-counted
returns-then-contains-clause-counted c =
    let files : c.args.self.now.files ≡ files_in c.self.inside.files.entries = ap (λ (s : FilesState). s.files) (sym c.self.view_is) in
    let found : get c.args.self.now.files c.args.name.now ≡ Some c.in-Some.bytes.now.items = file_there _ c.self.inside.files.entries c.args.name.now c.in-Some.bytes.now files (search rules) in
    inr (λ m. not_both (kept_file _ m.0 _ _ m.1 found) m.2, search rules)

pub returns-then-len-most-clause-refused : goal.returns-then-len-most-clause-refused
returns-then-len-most-clause-refused c =
    let files : c.args.self.now.files ≡ files_in c.self.inside.files.entries = ap (λ (s : FilesState). s.files) (sym c.self.view_is) in
    let found : get c.args.self.now.files c.args.name.now ≡ Some c.in-Some.bytes.now.items = file_there _ c.self.inside.files.entries c.args.name.now c.in-Some.bytes.now files (search rules) in
    let unlisted : Contains c.args.self.now.fails (next_count c.args.self.now.calls) → ⊥ = search rules in
    (λ e. absurd cc, λ h. absurd (elim h [ inl listed ↦ unlisted listed | inr missing ↦ not_both found missing ]))

pub returns-then-len-most-clause-long : goal.returns-then-len-most-clause-long
returns-then-len-most-clause-long c = λ files e.
    let seen : c.args.self.now.files ≡ files_in c.self.inside.files.entries = ap (λ (s : FilesState). s.files) (sym c.self.view_is) in
    let found : get c.args.self.now.files c.args.name.now ≡ Some c.in-Some.bytes.now.items = file_there _ c.self.inside.files.entries c.args.name.now c.in-Some.bytes.now seen (search rules) in
    (c.in-Some.bytes.now.items, kept_file _ files _ _ e found, search rules)

pub returns-in-Ok-clause-refused : goal.returns-in-Ok-clause-refused
returns-in-Ok-clause-refused c =
    let files : c.args.self.now.files ≡ files_in c.self.inside.files.entries = ap (λ (s : FilesState). s.files) (sym c.self.view_is) in
    let found : get c.args.self.now.files c.args.name.now ≡ Some c.in-Some.bytes.now.items = file_there _ c.self.inside.files.entries c.args.name.now c.in-Some.bytes.now files (search rules) in
    let unlisted : Contains c.args.self.now.fails (next_count c.args.self.now.calls) → ⊥ = search rules in
    (λ e. absurd cc, λ h. absurd (elim h [ inl listed ↦ unlisted listed | inr missing ↦ not_both found missing ]))

pub returns-in-Ok-clause-whole : goal.returns-in-Ok-clause-whole
returns-in-Ok-clause-whole c =
    let files : c.args.self.now.files ≡ files_in c.self.inside.files.entries = ap (λ (s : FilesState). s.files) (sym c.self.view_is) in
    let found : get c.args.self.now.files c.args.name.now ≡ Some c.in-Some.bytes.now.items = file_there _ c.self.inside.files.entries c.args.name.now c.in-Some.bytes.now files (search rules) in
    record {
      bytes = c.in-Some.bytes.now.items;
      appended = search rules;
      within = search rules;
      of_file = λ others e. kept_file _ others _ _ e found;
    }

pub returns-in-Err-clause-refused : goal.returns-in-Err-clause-refused
returns-in-Err-clause-refused c =
    let files : c.args.self.now.files ≡ files_in c.self.inside.files.entries = ap (λ (s : FilesState). s.files) (sym c.self.view_is) in
    let found : get c.args.self.now.files c.args.name.now ≡ Some c.in-Some.bytes.now.items = file_there _ c.self.inside.files.entries c.args.name.now c.in-Some.bytes.now files (search rules) in
    let unlisted : Contains c.args.self.now.fails (next_count c.args.self.now.calls) → ⊥ = search rules in
    (λ e. absurd cc, λ h. absurd (elim h [ inl listed ↦ unlisted listed | inr missing ↦ not_both found missing ]))
