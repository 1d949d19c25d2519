use Rattle.std.proofs.Common.{◌≡◌, ◌+◌, None, cond, get_or, ap, ◌∙◌, arith}
use Rattle.luf_scope.specs.Order.{declares}
use Rattle.luf_scope.specs.declared.occurrence.Occurrence.{Occurrence}
use Rattle.luf_scope.specs.declared.occurrence.Occurrence.TheVariants.{Local}
use Rattle.luf_scope.proofs.Mapped.{given_at}
use Rattle.luf_scope.proofs.Roled.{counted_on, role_more, low_on}
use Rattle.luf_scope.proofs.roles.roles_of.Goals as goal
use Rattle.luf_scope.proofs.roles.roles_of.Goals.{then-declares, else-declares}

pub loop-i-preserved : goal.loop-i-preserved
loop-i-preserved c =
    let os = c.args.os.now in
    let i = c.loop-i.i in
    let n = c.loop-i.number in
    let next = c.if-declares.number in
    let none : Occurrence = Local 0 None 0 0 in
    let counted : next ≡ cond (declares (get_or os i none)) (n + 1) n = elim c.if-declares.branch [
      | then-declares w ↦ w.number-is ∙ ap (λ b. cond b (n + 1) n) w.if-declares.ensures
      | else-declares w ↦ w.number-is ∙ ap (λ b. cond b (n + 1) n) w.if-declares.ensures
    ] in
    record {
      number = counted_on os i none c.loop-i-test.true n next counted c.loop-i.invariant.number;
      low = λ j e le within. low_on os i none c.loop-i-test.true n next counted c.requires.laid c.meaning_at.result c.loop-i.roles c.add_role.new.roles j e (omega arith) within (c.loop-i.invariant.low j e (omega arith) within) c.in_ok-add_role.ensures;
      roles = λ means are. role_more os i none c.loop-i-test.true n next counted means c.meaning_at.result c.loop-i.roles c.add_role.new.roles _ (given_at means os c.args.meanings.now i none c.meaning_at.result are c.loop-i-test.true c.meaning_at.ensures) (c.loop-i.invariant.roles means are) c.in_ok-add_role.ensures;
    }
