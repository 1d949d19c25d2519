use Rattle.std.proofs.Common.{arith}
use Rattle.luf_tree.specs.Grammar.{goto_stat}
use Rattle.luf_tree.proofs.LevelEquations.{goto_levels}
use Rattle.luf_descent.proofs.Knowing.{stopped, token_stops}
use Rattle.luf_descent.proofs.BlockStops.{goto_name}
use Rattle.luf_descent.proofs.KnownStats.{goto_known}
use Rattle.luf_descent.proofs.statements.goto_stat.Goals as goal

pub returns-clause-ok : goal.returns-clause-ok
returns-clause-ok c =
    let h0 = c.in_ok-to.ensures in
    let h = c.requires in
    record { is = goto_stat c.requires h0.token; ends = record { forward = omega arith; within = omega arith }; level = omega (arith, goto_levels c.args.at c.in_ok-to.to c.args.name) }

pub returns-clause-known : goal.returns-clause-known
returns-clause-known c = goto_known c.in_ok-to.ensures.token

pub returns-in_err-to-clause-stops : goal.returns-in_err-to-clause-stops
returns-in_err-to-clause-stops c = λ left within. stopped _ c.from_residual.ensures.1 (goto_name c.requires (token_stops within (c.in_err-to.ensures.missing within)))
