use Rattle.std.proofs.Common.{◌≡◌, Some, None, List, IfOk, IfErr, length, ap, ◌∙◌, subst, arith}
use Rattle.std.proofs.lemmas.Result.{IfOk-weaker}
use Rattle.luf_lex.specs.Tokens.{toks_of}
use Rattle.luf_scope.specs.Fault.{first_fault}
use Rattle.luf_scope.specs.Links.{spelling_in, occurrences_of, IfBad}
use Rattle.luf_scope.specs.declared.fault.ScopeBad.{ScopeBad}
use Rattle.luf_scope.proofs.Places.{block_lies}
use Rattle.luf_goto.specs.Jumps.{AreJumps}
use Rattle.luf_goto.specs.inner.Sites.{IsInOrder}
use Rattle.luf_goto.proofs.Outlined.{in_order, jumps_read, roles_read}
use Rattle.luf_goto.proofs.labelling.labels_read.Goals as goal

pub jumps_of-requires-clause-order : goal.jumps_of-requires-clause-order
jumps_of-requires-clause-order c =
    let count = c.tokens-tokens.ensures.count in
    let few = c.tokens-tokens.ensures.few in
    let order : IsInOrder (occurrences_of c.args.c.now) = record { tokens = length (toks_of c.args.cut.now); few = omega (arith, count, few); order = block_lies c.requires.tree } in
    in_order c.args.c.now c.args.os.now c.requires.read order

pub returns-clause-ok : goal.returns-clause-ok
returns-clause-ok c =
    let spelled = spelling_in c.args.src.now c.args.cut.now in
    IfOk-weaker c.jumps_of.result (λ j. AreJumps spelled c.args.os.now j) (λ j. AreJumps spelled (occurrences_of c.args.c.now) j) (λ j are. λ token. are token ∙ roles_read spelled c.args.c.now c.args.os.now c.requires.read token) c.jumps_of.ensures.ok

pub returns-clause-accepted : goal.returns-clause-accepted
returns-clause-accepted c = subst (λ (faults : List ScopeBad). IfOk c.jumps_of.result (λ _. first_fault faults ≡ None)) (jumps_read (spelling_in c.args.src.now c.args.cut.now) c.args.c.now c.args.os.now c.requires.read) c.jumps_of.ensures.accepted

pub returns-clause-bad : goal.returns-clause-bad
returns-clause-bad c = subst (λ (faults : List ScopeBad). IfErr c.jumps_of.result (λ e. IfBad e (λ b. first_fault faults ≡ Some b))) (jumps_read (spelling_in c.args.src.now c.args.cut.now) c.args.c.now c.args.os.now c.requires.read) c.jumps_of.ensures.bad
