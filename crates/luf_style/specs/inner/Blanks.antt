-- Where the empty lines before the notes of a gap are left out.
use Rattle.std.specs.Prelude.{ℕ, zero, suc, Bool, true, false, ◌||◌, List, [], ◌∷◌, cond}
use Rattle.luf_doc.specs.declared.doc.Remark.{Remark}
use Rattle.luf_draft.specs.Draft.{Border}
use Rattle.luf_draft.specs.Draft as draft
use Rattle.luf_style.specs.Filled.{without_blank}

-- the first note before which a break stands, counted from 0, where the note before these ends its line or does not
abbrev pub first_break : Bool → List Remark → ℕ
first_break ends [] = 0
first_break ends (note ∷ notes) = cond (note.own_line || ends) 0 (suc (first_break note.ends_line notes))

-- without the empty lines before the notes of so many, from one on
abbrev pub cleared : ℕ → ℕ → List Remark → List Remark
cleared from count [] = []
cleared zero zero (note ∷ notes) = note ∷ notes
cleared zero (suc count) (note ∷ notes) = without_blank note ∷ cleared zero count notes
cleared (suc from) count (note ∷ notes) = note ∷ cleared from count notes

-- whether note n is none of them
abbrev pub is_outside : ℕ → ℕ → ℕ → Bool
is_outside zero zero zero = true
is_outside zero zero (suc count) = false
is_outside zero (suc from) count = true
is_outside (suc n) zero zero = true
is_outside (suc n) zero (suc count) = is_outside n zero count
is_outside (suc n) (suc from) count = is_outside n from count

-- before a later statement of a block
abbrev pub is_later : Border → Bool
is_later draft.later_statement = true
is_later _ = false
