use Rattle.std.proofs.Common.{◌≡◌, ◌≤◌, None, take, get_or, sym, ◌∙◌, subst}
use Rattle.luf_scope.specs.Fault as fault
use Rattle.luf_scope.specs.Local.{functions_of}
use Rattle.luf_scope.specs.Order.{place}
use Rattle.luf_scope.specs.declared.fault.ScopeWhat.TheVariants.{VarargOutside}
use Rattle.luf_scope.specs.declared.occurrence.Occurrence.{Occurrence}
use Rattle.luf_scope.specs.declared.occurrence.Occurrence.TheVariants.{Local}
use Rattle.luf_scope.specs.inner.Laid.{Tells, varargs_among}
use Rattle.luf_scope.proofs.Firsts.{found_here, not_here, nowhere}
use Rattle.luf_scope.proofs.Functions.{varargs_here, functions_more}
use Rattle.luf_scope.proofs.Laying.{all_before, all_fewer, all_latest}
use Rattle.luf_scope.proofs.checks.first_varargs.Goals as goal

none : Occurrence
none = Local 0 None 0 0

pub returns-in-Some : goal.returns-in-Some
unfolding none
returns-in-Some c =
    let os = c.args.os.now in
    let i = c.loop-o.o-index in
    let told : c.in_ok-token.field-0 ≡ varargs_among (functions_of (take i os)) (get_or os i none) = c.in_ok-token.ensures.found (functions_of (take i os)) (c.loop-o.invariant.tells (place (get_or os i none)) (all_before os i c.requires c.loop-o-test.true none)) in
    λ spelled. found_here VarargOutside (fault.varargs_outside spelled os) os i none c.in-Some.token c.loop-o-test.true (sym c.in-Some.is ∙ told ∙ varargs_here os i c.requires c.loop-o-test.true spelled none) (c.loop-o.invariant.found spelled)

pub loop-o-preserved : goal.loop-o-preserved
unfolding none
loop-o-preserved c =
    let os = c.args.os.now in
    let i = c.loop-o.o-index in
    let told : c.in_ok-token.field-0 ≡ varargs_among (functions_of (take i os)) (get_or os i none) = c.in_ok-token.ensures.found (functions_of (take i os)) (c.loop-o.invariant.tells (place (get_or os i none)) (all_before os i c.requires c.loop-o-test.true none)) in
    record {
      tells = λ later all. subst (λ fs. Tells c.varargs_outside.new.functions.items fs later) (sym (functions_more os i c.requires c.loop-o-test.true none))
          (c.in_ok-token.ensures.kept (functions_of (take i os)) later (all_latest (λ u. place u ≤ later) os i none c.loop-o-test.true all) (c.loop-o.invariant.tells later (all_fewer (λ u. place u ≤ later) os i c.loop-o-test.true all)));
      found = λ spelled. not_here VarargOutside (fault.varargs_outside spelled os) os i none c.loop-o-test.true (sym c.in_default.is ∙ told ∙ varargs_here os i c.requires c.loop-o-test.true spelled none) (c.loop-o.invariant.found spelled);
    }

pub returns : goal.returns
returns c = λ spelled. nowhere VarargOutside (fault.varargs_outside spelled c.args.os.now) c.args.os.now c.loop-o.o-index c.loop-o-test.false (c.loop-o.invariant.found spelled)
