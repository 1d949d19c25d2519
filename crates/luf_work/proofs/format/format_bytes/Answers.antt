use Rattle.std.proofs.Common.{Err, length, length-append, ap, arith}
use Rattle.luf_work.specs.declared.refusal.Refusal.TheVariants.{ResultTooLarge}
use Rattle.luf_work.proofs.FormatLemmas.{keeps_source, passed, passed_on, answered, told, accepted_not_refused}
use Rattle.luf_work.proofs.RefusalLemmas.{accepted_of}
use Rattle.luf_work.proofs.format.format_bytes.Goals as goal

-- ---- it is not accepted

pub returns-in_err-source-clause-refused : goal.returns-in_err-source-clause-refused
returns-in_err-source-clause-refused c = passed_on c.args.o.now c.args.src.now _ c.from_residual.ensures.1 c.in_err-source.ensures.refused

pub returns-in_err-source-clause-complete : goal.returns-in_err-source-clause-complete
returns-in_err-source-clause-complete c = answered c.args.o.now c.args.src.now _ (passed c.args.o.now c.args.src.now _ c.from_residual.ensures.1 c.in_err-source.ensures.refused)

pub returns-in_err-source-clause-exact : goal.returns-in_err-source-clause-exact
returns-in_err-source-clause-exact c = told c.args.o.now c.args.src.now _ (passed c.args.o.now c.args.src.now _ c.from_residual.ensures.1 c.in_err-source.ensures.refused)

-- ---- its text is too large

pub returns-then-len-gt-TEXT_LIMIT-clause-refused : goal.returns-then-len-gt-TEXT_LIMIT-clause-refused
returns-then-len-gt-TEXT_LIMIT-clause-refused c = λ other.
    let written = c.in_default.ensures.ok in (
      accepted_of c.args.src.now c.in_ok-source.source c.in_ok-source.ensures.within c.in_ok-source.ensures.ok,
      record {
        text = written.0;
        formatted = written.1;
        large = omega (arith, c.if-len-gt-TEXT_LIMIT.true, ap length written.2, length-append c.args.into.now.items written.0, c.len-len.ensures);
      },
    )

pub returns-then-len-gt-TEXT_LIMIT-clause-complete : goal.returns-then-len-gt-TEXT_LIMIT-clause-complete
returns-then-len-gt-TEXT_LIMIT-clause-complete c = answered c.args.o.now c.args.src.now (Err ResultTooLarge) (returns-then-len-gt-TEXT_LIMIT-clause-refused c)

pub returns-then-len-gt-TEXT_LIMIT-clause-exact : goal.returns-then-len-gt-TEXT_LIMIT-clause-exact
returns-then-len-gt-TEXT_LIMIT-clause-exact c = told c.args.o.now c.args.src.now (Err ResultTooLarge) (returns-then-len-gt-TEXT_LIMIT-clause-refused c)

-- ---- it is accepted

pub returns-clause-accepted : goal.returns-clause-accepted
returns-clause-accepted c =
    let written = c.in_default.ensures.ok in
    record {
      accepted = accepted_of c.args.src.now c.in_ok-source.source c.in_ok-source.ensures.within c.in_ok-source.ensures.ok;
      text = written.0;
      formatted = written.1;
      fits = omega (arith, c.if-len-gt-TEXT_LIMIT.false, ap length written.2, length-append c.args.into.now.items written.0, c.len-len.ensures);
    }

pub returns-clause-exact : goal.returns-clause-exact
returns-clause-exact c = λ refusal cause. absurd (accepted_not_refused c.args.o.now c.args.src.now refusal (returns-clause-accepted c) cause)

pub returns-clause-ok : goal.returns-clause-ok
unfolding returns-clause-accepted
returns-clause-ok c =
    let written = c.in_default.ensures.ok in
    let accepted = returns-clause-accepted c in (
      written.0,
      written.1,
      keeps_source c.args.o.now c.args.src.now written.0 accepted.accepted written.1 accepted.fits,
      accepted.fits,
      written.2,
    )
