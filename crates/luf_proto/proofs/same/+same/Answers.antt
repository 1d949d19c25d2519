use Rattle.std.proofs.Common.{◌∙◌, ap, sym, refl, map, add-one}
use Rattle.luf_proto.specs.inner.Level.{stripped}
use Rattle.luf_proto.proofs.Stripped.{stripped_same, stripped_inner}
use Rattle.luf_proto.proofs.Compared.{take-map_more, get_or-map_same}
use Rattle.luf_proto.proofs.same.+same.Goals as goal

pub same_stripped-returns-then-same_level : goal.same_stripped-returns-then-same_level
same_stripped-returns-then-same_level t c =
    let a_subs = ap (map stripped) c.as_slice.ensures in
    let b_subs = ap (map stripped) c.as_slice-then-same_level.ensures in (
      (λ same. stripped_same c.args.a.now c.args.b.now (c.if-same_level.ensures.0 refl) (sym a_subs ∙ c.same_subs.ensures.0 same ∙ b_subs)),
      (λ equal. c.same_subs.ensures.1 (a_subs ∙ stripped_inner c.args.a.now c.args.b.now equal ∙ sym b_subs)),
    )

pub same_subs-returns-then-not-same_stripped : goal.same_subs-returns-then-not-same_stripped
same_subs-returns-then-not-same_stripped t c =
    ((λ wrong. cc), λ same. c.if-not-same_stripped.ensures.1 (get_or-map_same stripped _ _ _ _ _ c.loop-i-test.true c.index-a-i.is c.index-b-i.is same))

pub same_subs-loop-i-preserved : goal.same_subs-loop-i-preserved
same_subs-loop-i-preserved t c =
    rw add-one (take-map_more stripped _ _ _ _ _ c.loop-i-test.true c.if-a-b.false c.index-a-i.is c.index-b-i.is (c.if-not-same_stripped.ensures.0 refl) c.loop-i.invariant)
