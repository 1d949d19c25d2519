use Rattle.std.proofs.Common.{arith}
use Rattle.luf_proto.specs.FunctionOf.{function_of}
use Rattle.luf_work.proofs.ListLemmas.{list_accepted_not_refused, list_answered, list_passed, list_passed_on, list_told}
use Rattle.luf_work.proofs.list.list_bytes.Goals as goal

-- ---- the input is too large

pub returns-then-src-gt-SOURCE_LIMIT-clause-exact : goal.returns-then-src-gt-SOURCE_LIMIT-clause-exact
returns-then-src-gt-SOURCE_LIMIT-clause-exact c = list_told c.args.src.now _ (λ other. c.if-src-gt-SOURCE_LIMIT.true)

-- ---- it is no chunk

pub returns-in_err-main-clause-refused : goal.returns-in_err-main-clause-refused
returns-in_err-main-clause-refused c = list_passed_on c.args.src.now _ c.from_residual.ensures.1 c.in_err-main.ensures.refused

pub returns-in_err-main-clause-complete : goal.returns-in_err-main-clause-complete
returns-in_err-main-clause-complete c = list_answered c.args.src.now _ (list_passed c.args.src.now _ c.from_residual.ensures.1 c.in_err-main.ensures.refused)

pub returns-in_err-main-clause-exact : goal.returns-in_err-main-clause-exact
returns-in_err-main-clause-exact c = list_told c.args.src.now _ (list_passed c.args.src.now _ c.from_residual.ensures.1 c.in_err-main.ensures.refused)

-- ---- it is listed

pub returns-clause-exact : goal.returns-clause-exact
returns-clause-exact c = λ refusal cause.
    absurd (list_accepted_not_refused c.args.src.now refusal
    (record { within = omega (arith, c.if-src-gt-SOURCE_LIMIT.false); main = function_of c.in_ok-main.main; is = c.in_ok-main.ensures.ok })
    cause)
