use Rattle.std.proofs.Common.{◌-◌, ◌≤◌, length}
use Rattle.luf_lex.specs.inner.Growing.{IsGrown}
use Rattle.luf_lex.proofs.CutLemmas.{IsCutSoFar}
use Rattle.luf_lex.proofs.cutting.cut.Given as goal

-- the pieces so far are the source so far
abbrev pub invariant-loop-at : goal.invariant-loop-at
invariant-loop-at l = record {
  so_far : IsCutSoFar l.src l.at l.growing.pieces.items;
  within : l.at ≤ length l.src;
  few : length l.growing.pieces.items ≤ l.at;
  grown : IsGrown l.growing.tokens.items l.growing.comments.items l.growing.pieces.items;
}

abbrev pub decreases-loop-at : goal.decreases-loop-at
decreases-loop-at l = length l.src - l.at
