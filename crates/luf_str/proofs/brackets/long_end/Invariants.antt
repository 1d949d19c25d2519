use Rattle.std.proofs.Common.{◌-◌, ◌≤◌, length}
use Rattle.luf_str.proofs.BracketLaws.{NoneBelow}
use Rattle.luf_str.proofs.brackets.long_end.Given as goal

abbrev pub invariant-closings : goal.invariant-closings
invariant-closings l = (l.at ≤ length l.inner) × NoneBelow l.level l.inner l.at

abbrev pub decreases-closings : goal.decreases-closings
decreases-closings l = length l.inner - l.at
