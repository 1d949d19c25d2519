use Rattle.std.proofs.Common.{IfSome, sym, subst}
use Rattle.luf_name.specs.Order.{IsName}
use Rattle.luf_name.specs.Barred.{IsBarred}
use Rattle.luf_interf.proofs.GivenNames.{mark_fits}
use Rattle.luf_interf.proofs.name_marks.Names.name_of.Goals as goal

pub returns-clause-name : goal.returns-clause-name
returns-clause-name c = subst (λ o. IfSome o (λ name. IsName name × (IsBarred name → ⊥))) (sym c.at.ensures) (mark_fits (λ name. IsName name × (IsBarred name → ⊥)) c.self.inside.marks c.self.invariant c.args.token)
