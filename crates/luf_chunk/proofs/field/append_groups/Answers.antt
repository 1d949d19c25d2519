-- The highest group that is left is written, or is a zero in front.
use Rattle.std.proofs.Common.{◌≡◌, ◌-◌, ◌*◌, ◌^◌, ◌/◌, ◌%◌, ◌++◌, ◌∷◌, [], suc, sym, ap, ◌∙◌, append_assoc, append-nil, arith}
use Rattle.luf_proto.specs.Chunk.{groups}
use Rattle.luf_chunk.proofs.Groups.{groups_end, groups_more, groups_skip}
use Rattle.luf_chunk.proofs.Kept.{kept_more, on_err}
use Rattle.luf_chunk.proofs.field.append_groups.Goals as goal

pub loop-left-preserved-in-Continue-1 : goal.loop-left-preserved-in-Continue-1
loop-left-preserved-in-Continue-1 c =
    let k = c.loop-left.left - 1 in
    let is : c.loop-left.left ≡ suc k = omega arith in
    let more = groups_more k c.loop-left.left c.args.n is c.if-high-gt0.true in
    record {
      few = omega arith;
      whole = ap (λ t. t ++ groups k c.args.n) c.in_ok-push.ensures.items ∙ append_assoc c.loop-left.into.items (c.args.n / 2 ^ (7 * k) % 128 ∷ []) (groups k c.args.n)
          ∙ ap (λ t. c.loop-left.into.items ++ t) (sym more) ∙ c.loop-left.invariant.whole;
      kept = kept_more c.args.into.now.items c.loop-left.into.items c.push.new.self.items (c.args.n / 2 ^ (7 * k) % 128 ∷ []) c.loop-left.invariant.kept c.in_ok-push.ensures.items;
    }

pub returns-in_err-push-clause-err : goal.returns-in_err-push-clause-err
returns-in_err-push-clause-err c = on_err c.from_residual.result _ (rw c.in_err-push.ensures.items c.loop-left.invariant.kept)

pub loop-left-preserved : goal.loop-left-preserved
loop-left-preserved c =
    let k = c.loop-left.left - 1 in
    let is : c.loop-left.left ≡ suc k = omega arith in
    let skip = groups_skip k c.loop-left.left c.args.n is (omega arith) in
    record { few = omega arith; whole = ap (λ t. c.loop-left.into.items ++ t) (sym skip) ∙ c.loop-left.invariant.whole; kept = c.loop-left.invariant.kept }

pub returns-clause-ok : goal.returns-clause-ok
returns-clause-ok c =
    sym (append-nil c.loop-left.into.items) ∙ ap (λ t. c.loop-left.into.items ++ t) (sym (groups_end c.loop-left.left c.args.n (omega arith))) ∙ c.loop-left.invariant.whole
