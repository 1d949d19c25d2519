use Rattle.std.proofs.Common.{arith}
use Rattle.luf_tree.specs.Grammar.{an_attribute, no_attribute}
use Rattle.luf_descent.proofs.Knowing.{stopped, token_stops}
use Rattle.luf_descent.proofs.NameStops.{attribute_name, attribute_close}
use Rattle.luf_descent.proofs.KnownNames.{attribute_known, no_attribute_known}
use Rattle.luf_descent.proofs.names.attribute.Goals as goal

pub returns-in_err-close-in-Some-clause-stops : goal.returns-in_err-close-in-Some-clause-stops
returns-in_err-close-in-Some-clause-stops c = λ left. stopped _ c.from_residual.ensures.1 (attribute_name c.in-Some.ensures.token (token_stops c.in-Some.ensures.within (c.in_err-close-in-Some.ensures.missing c.in-Some.ensures.within)))

pub returns-in-None-clause-known : goal.returns-in-None-clause-known
returns-in-None-clause-known c = no_attribute_known c.in-None.ensures.other

pub returns-in_ok-to-in-Some-clause-ok : goal.returns-in_ok-to-in-Some-clause-ok
returns-in_ok-to-in-Some-clause-ok c =
    let h0 = c.in-Some.ensures in
    let h1 = c.in_ok-close-in-Some.ensures in
    let h2 = c.in_ok-to-in-Some.ensures in
    record { is = an_attribute h0.token h1.token h2.token; ends = record { forward = omega arith; within = omega arith }; level = omega arith }

pub returns-in_ok-to-in-Some-clause-known : goal.returns-in_ok-to-in-Some-clause-known
returns-in_ok-to-in-Some-clause-known c = attribute_known c.in-Some.ensures.token c.in_ok-close-in-Some.ensures.token c.in_ok-to-in-Some.ensures.token

pub returns-in-None-clause-ok : goal.returns-in-None-clause-ok
returns-in-None-clause-ok c =
    record { is = no_attribute; ends = record { forward = omega arith; within = omega arith }; level = omega arith }

pub returns-in_err-to-in-Some-clause-stops : goal.returns-in_err-to-in-Some-clause-stops
returns-in_err-to-in-Some-clause-stops c =
    λ left. stopped _ c.from_residual-in_err-to-in-Some.ensures.1 (attribute_close c.in-Some.ensures.token c.in_ok-close-in-Some.ensures.token (token_stops c.in_ok-close-in-Some.ensures.within (c.in_err-to-in-Some.ensures.missing c.in_ok-close-in-Some.ensures.within)))
