use Rattle.luf_again.proofs.SameLayout as law
use Rattle.luf_again.proofs.laws.layout_again.Goals as goal

pub returns-clause-pieces : goal.returns-clause-pieces
returns-clause-pieces c = law.same_pieces

pub returns-clause-layout : goal.returns-clause-layout
returns-clause-layout c = law.same_bytes
