use Rattle.std.proofs.Common.{arith}
use Rattle.luf_tree.specs.Grammar.{no_method, a_method}
use Rattle.luf_descent.proofs.Knowing.{name_stopped}
use Rattle.luf_descent.proofs.FunctionStops.{method_item}
use Rattle.luf_descent.proofs.KnownNames.{method_known, no_method_known}
use Rattle.luf_descent.proofs.names.method.Goals as goal

pub returns-in_ok-to-in-Some-clause-ok : goal.returns-in_ok-to-in-Some-clause-ok
returns-in_ok-to-in-Some-clause-ok c =
    let h0 = c.in-Some.ensures in
    let h1 = c.in_ok-to-in-Some.ensures in
    record { is = a_method h0.token h1.token; ends = record { forward = omega arith; within = omega arith }; level = omega arith }

pub returns-in-None-clause-ok : goal.returns-in-None-clause-ok
returns-in-None-clause-ok c =
    record { is = no_method; ends = record { forward = omega arith; within = omega arith }; level = omega arith }

pub returns-in_ok-to-in-Some-clause-known : goal.returns-in_ok-to-in-Some-clause-known
returns-in_ok-to-in-Some-clause-known c = method_known c.in-Some.ensures.token c.in_ok-to-in-Some.ensures.token

pub returns-in-None-clause-known : goal.returns-in-None-clause-known
returns-in-None-clause-known c = no_method_known c.in-None.ensures.other

pub returns-in_err-to-in-Some-clause-stops : goal.returns-in_err-to-in-Some-clause-stops
returns-in_err-to-in-Some-clause-stops c = name_stopped _ c.from_residual.ensures.1 (method_item c.in-Some.ensures.token c.in-Some.ensures.within (c.in_err-to-in-Some.ensures.missing c.in-Some.ensures.within))
