-- The gaps of a program from a token on, where a mask marks the tokens that are dropped.
use Rattle.std.specs.Prelude.{ℕ, zero, suc, ◌+◌, ◌-◌, Bool, false, cond, List, [], ◌∷◌, length, slice_index_or}
use Rattle.luf_lex.specs.declared.token.Piece.{Piece}
use Rattle.luf_gaps.specs.Gaps.{and_before, empty_gap, last_ends}
use Rattle.luf_gaps.specs.declared.notes.GapNotes.{GapNotes}

module _ (source : List ℕ) (pieces : List Piece) (mask : List Bool) where
  -- the gaps from token n on, of so many places with the one at the end, where this stands in the first of them already
  abbrev pub left_from : ℕ → ℕ → GapNotes → List GapNotes
  left_from n zero gap = []
  left_from n (suc zero) gap = record { notes = last_ends (and_before source pieces n gap).notes; blank = (and_before source pieces n gap).blank } ∷ []
  left_from n (suc (suc places)) gap = cond (slice_index_or mask n false)
      (left_from (n + 1) (suc places) (and_before source pieces n gap))
      (and_before source pieces n gap ∷ left_from (n + 1) (suc places) empty_gap)

  -- the gaps from token n on; none where n is behind the end
  abbrev pub left_at : ℕ → List GapNotes
  left_at n = left_from n (suc (length mask) - n) empty_gap
