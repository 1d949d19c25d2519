-- The gaps of a program are as many as its significant tokens, and one more.
use Rattle.std.proofs.Common.{◌≡◌, ℕ, zero, suc, ◌+◌, Bool, true, false, cond, List, ◌∷◌, length, refl, arith}
use Rattle.luf_lex.specs.Tokens.{toks_of}
use Rattle.luf_lex.specs.declared.token.Piece.{Piece}
use Rattle.luf_bare.specs.Significant.{is_among, places_but}
use Rattle.luf_gaps.specs.Gaps.{gaps_from, gaps, empty_gap, and_before}
use Rattle.luf_gaps.specs.declared.notes.GapNotes.{GapNotes}

by_place : (dropped : Bool) (n : ℕ) (gap : GapNotes) (after before : List GapNotes) (places : List ℕ) → length after ≡ length places + 1 → length before ≡ length places + 1
    → length (cond dropped after (gap ∷ before)) ≡ length (cond dropped places (n ∷ places)) + 1
by_place true n gap after before places is_after is_before = is_after
by_place false n gap after before places is_after is_before = omega (arith, is_before)

module _ (source : List ℕ) (pieces : List Piece) (dropped : List ℕ) where
  counted_from : (n left : ℕ) (gap : GapNotes) → length (gaps_from source pieces dropped n left gap) ≡ length (places_but dropped n left) + 1
  counted_from n zero gap = refl
  counted_from n (suc left) gap = by_place (is_among n dropped) n (and_before source pieces n gap) _ _ (places_but dropped (n + 1) left) (counted_from (n + 1) left (and_before source pieces n gap)) (counted_from (n + 1) left empty_gap)

  pub gaps_are_counted : length (gaps source pieces dropped) ≡ length (places_but dropped 0 (length (toks_of pieces))) + 1
  gaps_are_counted = counted_from 0 (length (toks_of pieces)) empty_gap
