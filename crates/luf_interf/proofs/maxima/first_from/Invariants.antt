use Rattle.std.proofs.Common.{ℕ, ◌<◌, length, get_or}
use Rattle.luf_interf.proofs.maxima.first_from.Given as goal

abbrev pub invariant-loop-i : goal.invariant-loop-i
invariant-loop-i l = (k : ℕ) → k < l.i → k < length l.numbers → get_or l.numbers k 0 < l.bound
