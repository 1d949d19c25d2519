use Rattle.std.proofs.Common.{eq-eqb, refl}
use Rattle.std.proofs.lemmas.Bool.{eqb-true, false≢true}
use Rattle.luf_str.proofs.BracketLaws.{closes_iff}
use Rattle.luf_str.proofs.brackets.closes.Goals as goal

pub returns-then-leading_equals-level : goal.returns-then-leading_equals-level
returns-then-leading_equals-level c =
    let iff = closes_iff c.args.text.now c.tail-rest.result.now c.args.level c.leading_equals.result _ c.if-text-ne93.false c.tail-rest.ensures c.leading_equals.ensures.count refl in
    (λ t. absurd (false≢true t), λ h. absurd (c.if-leading_equals-level.true (iff.1 h).0))

pub returns : goal.returns
returns c =
    let iff = closes_iff c.args.text.now c.tail-rest.result.now c.args.level c.leading_equals.result c.byte_at.result c.if-text-ne93.false c.tail-rest.ensures c.leading_equals.ensures.count c.byte_at.ensures in
    (λ t. iff.0 (c.if-leading_equals-level.false, eqb-true _ 93 t), λ h. eq-eqb _ 93 (iff.1 h).1)
