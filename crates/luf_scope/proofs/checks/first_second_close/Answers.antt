use Rattle.std.proofs.Common.{◌≡◌, None, take, get_or, sym, ◌∙◌, subst}
use Rattle.std.proofs.lemmas.List.{take_more}
use Rattle.luf_scope.specs.Fault as fault
use Rattle.luf_scope.specs.Links.{spelling_in}
use Rattle.luf_scope.specs.declared.fault.ScopeWhat.TheVariants.{TwoClose}
use Rattle.luf_scope.specs.declared.occurrence.Occurrence.{Occurrence}
use Rattle.luf_scope.specs.declared.occurrence.Occurrence.TheVariants.{Local}
use Rattle.luf_scope.specs.inner.Laid.{AreEnds, second_among}
use Rattle.luf_scope.proofs.Closes.{close_here}
use Rattle.luf_scope.proofs.Firsts.{found_here, not_here}
use Rattle.luf_scope.proofs.checks.first_second_close.Goals as goal

none : Occurrence
none = Local 0 None 0 0

pub returns-in-Some : goal.returns-in-Some
unfolding none
returns-in-Some c =
    let os = c.args.os.now in
    let i = c.loop-o.o-index in
    let spelled = spelling_in c.args.src.now c.args.cut.now in
    let told : c.in_ok-token.field-0 ≡ second_among spelled (take i os) (get_or os i none) = c.in_ok-token.ensures.found (take i os) c.loop-o.invariant.ends in
    found_here TwoClose (fault.second_close spelled os) os i none c.in-Some.token c.loop-o-test.true (sym c.in-Some.is ∙ told ∙ close_here spelled os i c.requires.laid c.loop-o-test.true none) c.loop-o.invariant.found

pub loop-o-preserved : goal.loop-o-preserved
unfolding none
loop-o-preserved c =
    let os = c.args.os.now in
    let i = c.loop-o.o-index in
    let spelled = spelling_in c.args.src.now c.args.cut.now in
    let told : c.in_ok-token.field-0 ≡ second_among spelled (take i os) (get_or os i none) = c.in_ok-token.ensures.found (take i os) c.loop-o.invariant.ends in
    record {
      ends = subst (AreEnds spelled c.close_again.new.ends) (sym (take_more os i none c.loop-o-test.true)) (c.in_ok-token.ensures.kept (take i os) c.loop-o.invariant.ends);
      found = not_here TwoClose (fault.second_close spelled os) os i none c.loop-o-test.true (sym c.in_default.is ∙ told ∙ close_here spelled os i c.requires.laid c.loop-o-test.true none) c.loop-o.invariant.found;
    }
