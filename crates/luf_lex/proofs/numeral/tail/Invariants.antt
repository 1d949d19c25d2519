use Rattle.std.proofs.Common.{◌≡◌, ◌+◌, ◌-◌, ◌≤◌, length, drop}
use Rattle.luf_lex.specs.First.{numeral_tail}
use Rattle.luf_lex.specs.inner.Scan.{mark_of}
use Rattle.luf_lex.proofs.numeral.tail.Given as goal

-- the bytes so far and what the scan takes of the rest are what it takes of all
abbrev pub invariant-loop-lower : goal.invariant-loop-lower
invariant-loop-lower l = record {
  within : l.at ≤ length l.text;
  whole : l.at + numeral_tail (mark_of l.lower) (drop l.at l.text) ≡ numeral_tail (mark_of l.lower) l.text;
}

abbrev pub decreases-loop-lower : goal.decreases-loop-lower
decreases-loop-lower l = length l.text - l.at
