-- Where comments lie.
use Rattle.std.specs.Prelude.{ℕ, ◌≤◌, List, length}
use Rattle.luf_lex.specs.declared.note.Note.{Note}

-- a comment lies in a source
abbrev pub LiesIn : List ℕ → Note → Type 0
LiesIn source note = (note.span.from ≤ note.span.to) × (note.span.to ≤ length source)
