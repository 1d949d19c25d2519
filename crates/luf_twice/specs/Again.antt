-- The gaps of a document that is read again, in order, and what fills a draft with them. Rules of our own.
use Rattle.std.specs.Prelude.{◌≡◌, ℕ, Bool, false, true, List, [], ◌∷◌, ◌++◌}
use Rattle.luf_doc.specs.declared.doc.Gap.{Gap}
use Rattle.luf_doc.specs.declared.page.Page.{Page}
use Rattle.luf_doc.specs.Document.{Document, Documents, text, between, trail, nest, group, sequence, nothing, also}
use Rattle.luf_draft.specs.Draft.{Draft}
use Rattle.luf_gaps.specs.Gaps.{trimmed, is_short, gaps}
use Rattle.luf_gaps.specs.declared.notes.GapNotes.{GapNotes}
use Rattle.luf_doc.specs.declared.doc.Remark.{Remark}
use Rattle.luf_doc.specs.Layout.{pieces}
use Rattle.luf_lex.specs.declared.token.Piece.{Piece}
use Rattle.luf_style.specs.Filled.{IsFilled}
use Rattle.luf_again.specs.Formed.{IsFormed}
use Rattle.luf_again.specs.Apart.{IsApart, IsClosed}
use Rattle.luf_again.specs.Lexed.{Lexed, IsHead}
use Rattle.luf_again.specs.Reread.{reread_whole}
use Rattle.luf_again.specs.Shown.{shown}
use Rattle.luf_again.specs.Tells.{untold}
use Rattle.luf_twice.specs.Chooses.{Chooses}

abbrev pub notes_of_gap : Gap → GapNotes
notes_of_gap gap = record { notes = gap.notes; blank = gap.blank }

-- what stands in the gaps of a document, in order, and then in others
abbrev mutual
  pub gaps_of : Document → List GapNotes → List GapNotes
  gaps_of (text bytes) more = more
  gaps_of (between gap) more = notes_of_gap gap ∷ more
  gaps_of trail more = more
  gaps_of (nest inner) more = gaps_of inner more
  gaps_of (group inner) more = gaps_of inner more
  gaps_of (sequence items) more = all_gaps items more

  pub all_gaps : Documents → List GapNotes → List GapNotes
  all_gaps nothing more = more
  all_gaps (also first rest) more = gaps_of first (all_gaps rest more)

abbrev pub FilledAgain : Type 0
FilledAgain = (short : List ℕ → Bool) (page : Page) (draft : Draft) (gaps left : List GapNotes) (d : Document) → IsFormed short false false d → IsFilled [] [] draft gaps left d
    → IsFilled [] [] draft (gaps_of (reread_whole short page d) []) [] (reread_whole short page d)

-- ---- the gaps of the text

abbrev pub AreTrimmed : List Remark → Type 0
AreTrimmed [] = Unit {0}
AreTrimmed (note ∷ notes) = (trimmed note.text ≡ note.text) × AreTrimmed notes

-- no note ends in blanks
abbrev mutual
  pub IsTrimmed : Document → Type 0
  IsTrimmed (text bytes) = Unit {0}
  IsTrimmed (between gap) = AreTrimmed gap.notes
  IsTrimmed trail = Unit {0}
  IsTrimmed (nest inner) = IsTrimmed inner
  IsTrimmed (group inner) = IsTrimmed inner
  IsTrimmed (sequence items) = AllTrimmed items

  pub AllTrimmed : Documents → Type 0
  AllTrimmed nothing = Unit {0}
  AllTrimmed (also first rest) = IsTrimmed first × AllTrimmed rest

-- Where a cut has the pieces of a layout, the gaps of its program are those of the document that is read again.
abbrev pub GapsAgain : Type 0
GapsAgain = (page : Page) (d : Document) (source : List ℕ) (head body : List Piece) (dropped : List ℕ) → IsFormed is_short false false d → IsApart true d → IsClosed d → IsTrimmed d
    → IsHead head → Lexed source [] (pieces page d) body → Chooses dropped (reread_whole is_short page d) untold (shown is_short (pieces page d)) false true
    → gaps source (head ++ body) dropped ≡ gaps_of (reread_whole is_short page d) []
