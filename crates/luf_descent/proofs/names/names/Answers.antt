use Rattle.std.proofs.Common.{arith, ◌∙◌}
use Rattle.luf_descent.proofs.Knowing.{stopped}
use Rattle.luf_descent.proofs.SoFar.{so_far_start}
use Rattle.luf_descent.proofs.KnownNames.{names_more, names_known, names_found, names_stop}
use Rattle.luf_descent.proofs.names.names.Goals as goal

pub loop-found-init : goal.loop-found-init
loop-found-init c = record { read = so_far_start c.new-found.ensures; within = λ w. w }

pub loop-found-preserved : goal.loop-found-preserved
loop-found-preserved c = record { read = names_more c.loop-found.invariant.read c.in_ok-push.ensures.ok c.in_ok-to.ensures.token c.in-Some.ensures.token; within = λ w. c.in-Some.ensures.within }

pub loop-found-smaller : goal.loop-found-smaller
loop-found-smaller c =
    let h0 = c.in_ok-to.ensures in
    let h1 = c.in-Some.ensures in
    omega arith

pub returns-in_err-to-clause-stops : goal.returns-in_err-to-clause-stops
returns-in_err-to-clause-stops c = λ left within. let w = c.loop-found.invariant.within within in stopped _ c.from_residual.ensures.1 (names_stop c.loop-found.invariant.read w (c.in_err-to.ensures.missing w))

pub returns-in-None-clause-ok : goal.returns-in-None-clause-ok
returns-in-None-clause-ok c = names_found c.loop-found.invariant.read (c.exact.ensures ∙ c.in_ok-push.ensures.ok) c.in_ok-to.ensures.token c.in_ok-to.ensures.within

pub returns-in-None-clause-known : goal.returns-in-None-clause-known
returns-in-None-clause-known c = names_known c.loop-found.invariant.read (c.exact.ensures ∙ c.in_ok-push.ensures.ok) c.in_ok-to.ensures.token c.in-None.ensures.other
