use Rattle.std.proofs.Common.{◌≡◌, map, take}
use Rattle.luf_proto.specs.inner.Level.{stripped}
use Rattle.luf_proto.proofs.same.+same.Given as goal

abbrev pub invariant-same_subs-loop-i : goal.invariant-same_subs-loop-i
invariant-same_subs-loop-i l = take l.i (map stripped l.a) ≡ take l.i (map stripped l.b)
