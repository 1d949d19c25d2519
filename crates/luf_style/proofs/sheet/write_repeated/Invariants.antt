use Rattle.std.proofs.Common.{◌≡◌, ◌++◌, replicate}
use Rattle.luf_style.proofs.sheet.write_repeated.Given as goal

abbrev pub invariant-loop-i : goal.invariant-loop-i
invariant-loop-i l = record {
  behind : l.into.behind ≡ l.initial.into.behind ++ replicate l._i l.byte;
  before : l.into.before ≡ l.initial.into.before;
}
