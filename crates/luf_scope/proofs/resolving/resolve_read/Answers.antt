use Rattle.std.proofs.Common.{◌≡◌, Some, None, IfOk, IfErr, length, sym, subst}
use Rattle.luf_lex.specs.Tokens.{toks_of}
use Rattle.luf_scope.specs.Fault.{first_fault, name_faults}
use Rattle.luf_scope.specs.Links.{spelling_in, AreLinks, IfBad}
use Rattle.luf_scope.specs.Order.{AreOrdered}
use Rattle.luf_scope.proofs.Places.{block_lies}
use Rattle.luf_scope.proofs.resolving.resolve_read.Goals as goal

pub links_of-requires-clause-order : goal.links_of-requires-clause-order
links_of-requires-clause-order c = subst (λ os. AreOrdered 0 (length (toks_of c.args.cut.now)) (length (toks_of c.args.cut.now)) os) (sym c.requires.read) (block_lies c.requires.tree)

pub returns-clause-ok : goal.returns-clause-ok
returns-clause-ok c = subst (λ os. IfOk c.links_of.result (λ links. AreLinks (spelling_in c.args.src.now c.args.cut.now) os (length (toks_of c.args.cut.now)) links)) c.requires.read c.links_of.ensures.ok

pub returns-clause-accepted : goal.returns-clause-accepted
returns-clause-accepted c = subst (λ os. IfOk c.links_of.result (λ _. first_fault (name_faults (spelling_in c.args.src.now c.args.cut.now) os) ≡ None)) c.requires.read c.links_of.ensures.accepted

pub returns-clause-bad : goal.returns-clause-bad
returns-clause-bad c = subst (λ os. IfErr c.links_of.result (λ e. IfBad e (λ b. first_fault (name_faults (spelling_in c.args.src.now c.args.cut.now) os) ≡ Some b))) c.requires.read c.links_of.ensures.bad
