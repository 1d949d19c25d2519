use Rattle.std.proofs.Common.{arith, ◌∙◌}
use Rattle.luf_descent.proofs.Exactness.{is_at, not_at}
use Rattle.luf_descent.proofs.Knowing.{stopped}
use Rattle.luf_descent.proofs.KnownNames.{params_start, params_next, params_known, params_dots_known, params_found, params_dots_found, params_stop, dots_known, dots_found, no_params_known, no_params_found}
use Rattle.luf_descent.proofs.names.params.Goals as goal

pub loop-found-init : goal.loop-found-init
loop-found-init c = record { read = params_start (is_at _ c.is_at.ensures c.if-not-is_at.false) c.new-found.ensures; within = λ w. w }

pub loop-found-preserved : goal.loop-found-preserved
loop-found-preserved c = record { read = params_next c.loop-found.invariant.read c.in_ok-push.ensures.ok c.in_ok-to.ensures.token c.in-Some-eat.ensures.token c.in_default-eat-2.ensures.other; within = λ w. c.in-Some-eat.ensures.within }

pub loop-found-smaller : goal.loop-found-smaller
loop-found-smaller c =
    let h0 = c.in_ok-to.ensures in
    let h1 = c.in-Some-eat.ensures in
    omega arith

pub returns-in-Some-clause-ok : goal.returns-in-Some-clause-ok
returns-in-Some-clause-ok c = dots_found c.new.ensures c.in-Some.ensures.token c.in-Some.ensures.within

pub returns-in-Some-clause-known : goal.returns-in-Some-clause-known
returns-in-Some-clause-known c = dots_known c.new.ensures c.in-Some.ensures.token

pub returns-then-not-is_at-clause-ok : goal.returns-then-not-is_at-clause-ok
returns-then-not-is_at-clause-ok c = no_params_found c.new-then-not-is_at.ensures c.requires

pub returns-then-not-is_at-clause-known : goal.returns-then-not-is_at-clause-known
returns-then-not-is_at-clause-known c = no_params_known c.new-then-not-is_at.ensures c.in_default.ensures.other (not_at _ c.is_at.ensures c.if-not-is_at.true)

pub returns-in_default-eat-clause-ok : goal.returns-in_default-eat-clause-ok
returns-in_default-eat-clause-ok c = params_found c.loop-found.invariant.read (c.exact.ensures ∙ c.in_ok-push.ensures.ok) c.in_ok-to.ensures.token c.in_ok-to.ensures.within

pub returns-in_default-eat-clause-known : goal.returns-in_default-eat-clause-known
returns-in_default-eat-clause-known c = params_known c.loop-found.invariant.read (c.exact.ensures ∙ c.in_ok-push.ensures.ok) c.in_ok-to.ensures.token c.in_default-eat.ensures.other

pub returns-in-Some-eat-2-clause-ok : goal.returns-in-Some-eat-2-clause-ok
returns-in-Some-eat-2-clause-ok c = params_dots_found c.loop-found.invariant.read (c.exact-in-Some-eat-2.ensures ∙ c.in_ok-push.ensures.ok) c.in_ok-to.ensures.token c.in-Some-eat.ensures.token c.in-Some-eat-2.ensures.token c.in-Some-eat-2.ensures.within

pub returns-in-Some-eat-2-clause-known : goal.returns-in-Some-eat-2-clause-known
returns-in-Some-eat-2-clause-known c = params_dots_known c.loop-found.invariant.read (c.exact-in-Some-eat-2.ensures ∙ c.in_ok-push.ensures.ok) c.in_ok-to.ensures.token c.in-Some-eat.ensures.token c.in-Some-eat-2.ensures.token

pub returns-in_err-to-clause-stops : goal.returns-in_err-to-clause-stops
returns-in_err-to-clause-stops c = λ left. let w = c.loop-found.invariant.within c.requires in stopped _ c.from_residual.ensures.1 (params_stop c.loop-found.invariant.read w (c.in_err-to.ensures.missing w))
