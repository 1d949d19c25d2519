use Rattle.luf_style.proofs.FillSteps.{last_doc}
use Rattle.luf_style.proofs.filling.last_of.Goals as goal

pub returns-in-Some : goal.returns-in-Some
returns-in-Some c = last_doc c.args.docs.now.items c.pop.new.self.items c.in-Some.doc c.in-Some.ensures.items
