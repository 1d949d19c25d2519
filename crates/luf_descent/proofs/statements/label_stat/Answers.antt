use Rattle.std.proofs.Common.{arith}
use Rattle.luf_tree.specs.Grammar.{label_stat}
use Rattle.luf_tree.proofs.LevelEquations.{label_levels}
use Rattle.luf_descent.proofs.Knowing.{stopped, token_stops}
use Rattle.luf_descent.proofs.BlockStops.{label_name, label_close}
use Rattle.luf_descent.proofs.KnownStats.{label_known}
use Rattle.luf_descent.proofs.statements.label_stat.Goals as goal

pub returns-clause-ok : goal.returns-clause-ok
returns-clause-ok c =
    let h0 = c.in_ok-close.ensures in
    let h1 = c.in_ok-to.ensures in
    let h = c.requires in
    record { is = label_stat c.requires h0.token h1.token; ends = record { forward = omega arith; within = omega arith }; level = omega (arith, label_levels c.args.at c.in_ok-to.to c.args.name) }

pub returns-clause-known : goal.returns-clause-known
returns-clause-known c = label_known c.in_ok-close.ensures.token c.in_ok-to.ensures.token

pub returns-in_err-close-clause-stops : goal.returns-in_err-close-clause-stops
returns-in_err-close-clause-stops c = λ left within. stopped _ c.from_residual.ensures.1 (label_name c.requires (token_stops within (c.in_err-close.ensures.missing within)))

pub returns-in_err-to-clause-stops : goal.returns-in_err-to-clause-stops
returns-in_err-to-clause-stops c = λ left within.
    stopped _ c.from_residual-in_err-to.ensures.1 (label_close c.requires c.in_ok-close.ensures.token (token_stops c.in_ok-close.ensures.within (c.in_err-to.ensures.missing c.in_ok-close.ensures.within)))
