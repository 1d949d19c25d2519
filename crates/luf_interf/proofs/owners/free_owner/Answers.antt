use Rattle.std.proofs.Common.{arith, sym, ◌∙◌}
use Rattle.std.proofs.lemmas.Bool.{false≢true}
use Rattle.luf_interf.specs.inner.Owners.{a_number, no_number}
use Rattle.luf_interf.proofs.OwnersMade.{past_all}
use Rattle.luf_interf.proofs.owners.free_owner.Goals as goal

pub returns-then-is_barred : goal.returns-then-is_barred
returns-then-is_barred c = no_number (λ k small nth. c.is_barred.ensures.0 c.if-is_barred.true)

pub returns-then-number-size : goal.returns-then-number-size
returns-then-number-size c = a_number c.in-Some.ensures.some c.if-number-size.true (λ barred. false≢true (sym c.if-is_barred.false ∙ c.is_barred.ensures.1 barred))

pub returns-else-number-size : goal.returns-else-number-size
returns-else-number-size c = past_all c.args.size c.args.name.now c.in-Some.number c.in-Some.ensures.some (omega arith)

pub returns-in-None : goal.returns-in-None
returns-in-None c = no_number (λ k small nth. absurd (c.number_of.ensures.none c.in-None.is k (let few = c.requires in omega (arith, few, small)) nth))
