-- A text's bytes are what its row has.
use Rattle.std.proofs.Common.{◌≡◌, ◌∙◌, ◌+◌, min, Bool, cond, ap, sym, arith}
use Rattle.luf_doc.specs.Flat.{flat}
use Rattle.luf_style.specs.inner.Leads.{own_lead}
use Rattle.luf_style.proofs.AheadLaws.{text_lead}
use Rattle.luf_style.proofs.lead.lead_before.Goals as goal

pub returns-then-node : goal.returns-then-node
returns-then-node c = λ id d n is behind.
    let known = text_lead c.args.node.now c.in-Text.field-0 c.in-Text.is id d n is in
    known.0 ∙ ap (λ m. min m 4294967295) (sym (known.1 ∙ ap (λ (e : Bool). cond e (flat d 0) (flat d 0 + n)) c.if-node.true))

pub returns-else-node : goal.returns-else-node
returns-else-node c = λ id d n is behind.
    let known = text_lead c.args.node.now c.in-Text.field-0 c.in-Text.is id d n is in
    let bytes : c.args.node.now.flat ≡ min (flat d 0) 4294967295 = known.0 in
    let own : own_lead d n ≡ flat d 0 + n = known.1 ∙ ap (λ (e : Bool). cond e (flat d 0) (flat d 0 + n)) c.if-node.false in
    let sum = c.saturating_add.ensures in
    omega (arith, bytes, own, sum, behind)
