use Rattle.std.proofs.Common.{ap}
use Rattle.luf_doc.specs.Layout.{Mode, lay}
use Rattle.luf_doc.proofs.LayoutLaws.{breaks}
use Rattle.luf_doc.proofs.laws.broken_elsewhere.Goals as goal

pub returns-clause-outside : goal.returns-clause-outside
returns-clause-outside c = λ page level after inner done why. ap (λ (m : Mode). lay page m level after inner done) (breaks page inner _ why)

pub returns-clause-broken : goal.returns-clause-broken
returns-clause-broken c = λ page level after inner done why. ap (λ (m : Mode). lay page m level after inner done) (breaks page inner _ why)
