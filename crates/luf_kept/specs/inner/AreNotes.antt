-- Notes that are comments: each is spelled as one, and a short one ends its line.
use Rattle.std.specs.Prelude.{◌≡◌, true, false, List, [], ◌∷◌, drop}
use Rattle.luf_str.specs.LongEnd.{opens_long}
use Rattle.luf_lex.specs.Spelling.{Spells}
use Rattle.luf_lex.specs.declared.token.Kind.TheVariants.{Comment}
use Rattle.luf_doc.specs.declared.doc.Remark.{Remark}
use Rattle.luf_gaps.specs.declared.notes.GapNotes.{GapNotes}

pub record IsNote (note : Remark) : Type 0 where
  pub spelled : Spells Comment note.text
  pub ends : opens_long (drop 2 note.text) ≡ false → note.ends_line ≡ true

abbrev pub AreNotes : List Remark → Type 0
AreNotes [] = Unit {0}
AreNotes (note ∷ notes) = IsNote note × AreNotes notes

abbrev pub AllNotes : List GapNotes → Type 0
AllNotes [] = Unit {0}
AllNotes (gap ∷ gaps) = AreNotes gap.notes × AllNotes gaps
