use Rattle.std.proofs.Common.{◌∙◌}
use Rattle.luf_descent.proofs.Knowing.{stopped}
use Rattle.luf_descent.proofs.SoFar.{so_far_start}
use Rattle.luf_descent.proofs.KnownNames.{declared_more, declared_known, declared_found, declared_stop, declared_stops}
use Rattle.luf_descent.proofs.names.declared.Goals as goal

pub loop-found-init : goal.loop-found-init
loop-found-init c = record { read = so_far_start c.new-found.ensures; within = λ w. w }

pub loop-found-preserved : goal.loop-found-preserved
loop-found-preserved c = record { read = declared_more c.loop-found.invariant.read c.in_ok-push.ensures.ok c.in_ok-after.ensures.token c.in_ok-attribute.ensures.ok c.in_ok-attribute.ensures.known c.in-Some.ensures.token; within = λ w. c.in-Some.ensures.within }

pub returns-in_err-after-clause-stops : goal.returns-in_err-after-clause-stops
returns-in_err-after-clause-stops c = λ left within. let w = c.loop-found.invariant.within within in stopped _ c.from_residual.ensures.1 (declared_stop c.loop-found.invariant.read w (c.in_err-after.ensures.missing w))

pub returns-in_err-attribute-clause-stops : goal.returns-in_err-attribute-clause-stops
returns-in_err-attribute-clause-stops c = λ left within. stopped _ c.from_residual-in_err-attribute.ensures.1 (declared_stops c.loop-found.invariant.read c.in_ok-after.ensures.token (c.in_err-attribute.ensures.stops left))

pub returns-in-None-clause-ok : goal.returns-in-None-clause-ok
returns-in-None-clause-ok c = declared_found c.loop-found.invariant.read (c.exact.ensures ∙ c.in_ok-push.ensures.ok) c.in_ok-after.ensures.token c.in_ok-attribute.ensures.ok

pub returns-in-None-clause-known : goal.returns-in-None-clause-known
returns-in-None-clause-known c = declared_known c.loop-found.invariant.read (c.exact.ensures ∙ c.in_ok-push.ensures.ok) c.in_ok-after.ensures.token c.in_ok-attribute.ensures.ok c.in_ok-attribute.ensures.known c.in-None.ensures.other
