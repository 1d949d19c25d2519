use Rattle.std.proofs.Common.{arith}
use Rattle.luf_tree.specs.Grammar.{no_semicolon, a_semicolon}
use Rattle.luf_descent.proofs.KnownStats.{semicolon_known, no_semicolon_known}
use Rattle.luf_descent.proofs.blocks.semicolon.Goals as goal

pub returns-in-Some-clause-found : goal.returns-in-Some-clause-found
returns-in-Some-clause-found c =
    let h0 = c.in-Some.ensures in
    record { is = a_semicolon h0.token; ends = record { forward = omega arith; within = omega arith }; level = omega arith }

pub returns-in-None-clause-found : goal.returns-in-None-clause-found
returns-in-None-clause-found c = record { is = no_semicolon; ends = record { forward = omega arith; within = omega arith }; level = omega arith }

pub returns-in-Some-clause-known : goal.returns-in-Some-clause-known
returns-in-Some-clause-known c = semicolon_known c.in-Some.ensures.token

pub returns-in-None-clause-known : goal.returns-in-None-clause-known
returns-in-None-clause-known c = no_semicolon_known c.in-None.ensures.other
