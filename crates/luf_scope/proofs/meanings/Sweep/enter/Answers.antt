use Rattle.std.proofs.Common.{get_or}
use Rattle.std.proofs.lemmas.List.{get_or_default}
use Rattle.luf_scope.specs.declared.scopes.Scope.{Scope}
use Rattle.luf_scope.proofs.Swept.{entered_one}
use Rattle.luf_scope.proofs.meanings.Sweep.enter.Goals as goal

pub loop-self-preserved : goal.loop-self-preserved
loop-self-preserved c =
    let at = c.loop-self.self.entered in
    let scopes = c.args.scopes.now in
    let none : Scope = record { name = 0; local = 0; from = 0; to = 0 } in
    let s : Scope = get_or scopes at none in
    entered_one scopes c.args.place at c.loop-self.self.stacks.items c.loop-self.invariant s c.index_mut.result.now c.push.new.self c.loop-self-test.true (get_or_default scopes at none s c.loop-self-test.true) (c.requires.names at none c.loop-self-test.true) c.index_mut.ensures.value c.in_ok-push.ensures.items c.if-scopes-self.true
