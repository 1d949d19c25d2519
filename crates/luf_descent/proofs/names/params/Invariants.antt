use Rattle.std.proofs.Common.{◌-◌, ◌≤◌, length}
use Rattle.luf_lex.specs.Tokens.{toks_of}
use Rattle.luf_descent.proofs.KnownNames.{ParamsSoFar}
use Rattle.luf_descent.proofs.names.params.Given as goal

-- the names so far stand before those of the rest
abbrev pub invariant-loop-found : goal.invariant-loop-found
invariant-loop-found l = record {
  read : ParamsSoFar (toks_of l.cut) l.fn.at l.at l.found;
  within : l.fn.at ≤ length (toks_of l.cut) → l.at ≤ length (toks_of l.cut);
}

abbrev pub decreases-loop-found : goal.decreases-loop-found
decreases-loop-found l = length (toks_of l.cut) - l.at
