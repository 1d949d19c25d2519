use Rattle.std.proofs.Common.{◌+◌, Some, None, drop, sym, subst}
use Rattle.luf_scope.specs.Links.{spelling_in}
use Rattle.luf_scope.specs.Local.{locals_of}
use Rattle.luf_scope.specs.inner.Scopes.{local_of}
use Rattle.luf_scope.specs.declared.variables.Variables.{Variables}
use Rattle.luf_scope.proofs.Varied.{AreRead, read_one, left_at}
use Rattle.luf_scope.proofs.variables.variables_of.Goals as goal
use Rattle.luf_scope.proofs.variables.variables_of.Goals.{in-Some+in_ok-add, in_default}

pub loop-o-preserved : goal.loop-o-preserved
loop-o-preserved c =
    let spelled = spelling_in c.args.src.now c.args.cut.now in
    let os = c.args.os.now in
    let at = c.loop-o.o-index in
    let all = locals_of spelled os in
    let rest = locals_of spelled (drop (at + 1) os) in
    let old = c.loop-o.found in
    elim c.match-declared_by.branch [
      | in-Some+in_ok-add w ↦
          let was = subst (λ left. AreRead all left c.loop-o.local old.names.buckets.items old.binders.items old.scopes.items) (left_at spelled os at _ (Some (local_of w.in-Some.v)) c.loop-o-test.true w.in-Some.ensures) c.loop-o.invariant in
          let is = read_one all rest (local_of w.in-Some.v) c.loop-o.local old.names.buckets.items w.add.new.self.names.buckets.items old.binders.items w.add.new.self.binders.items old.scopes.items w.add.new.self.scopes.items was w.in_ok-add.ensures.count w.in_ok-add.ensures.binders w.in_ok-add.ensures.names w.in_ok-add.ensures.scopes in
          subst (λ n. AreRead all rest n c.match-declared_by.found.names.buckets.items c.match-declared_by.found.binders.items c.match-declared_by.found.scopes.items) (sym w.local-is)
          (subst (λ (f : Variables). AreRead all rest (c.loop-o.local + 1) f.names.buckets.items f.binders.items f.scopes.items) (sym w.found-is) is)
      | in_default w ↦
          let was = subst (λ left. AreRead all left c.loop-o.local old.names.buckets.items old.binders.items old.scopes.items) (left_at spelled os at _ None c.loop-o-test.true w.in_default.ensures) c.loop-o.invariant in
          subst (λ n. AreRead all rest n c.match-declared_by.found.names.buckets.items c.match-declared_by.found.binders.items c.match-declared_by.found.scopes.items) (sym w.local-is)
          (subst (λ (f : Variables). AreRead all rest c.loop-o.local f.names.buckets.items f.binders.items f.scopes.items) (sym w.found-is) was)
    ]
