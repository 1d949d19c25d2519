use Rattle.luf_work.proofs.RefusalLemmas.{accepted_of, source_answered, source_told, source_not_refused, passed_source}
use Rattle.luf_work.proofs.check.check_bytes.Goals as goal

pub returns-in_err-source-clause-complete : goal.returns-in_err-source-clause-complete
returns-in_err-source-clause-complete c = source_answered c.args.src.now _ (passed_source c.args.src.now _ c.from_residual.ensures.1 c.in_err-source.ensures.refused)

pub returns-in_err-source-clause-exact : goal.returns-in_err-source-clause-exact
returns-in_err-source-clause-exact c = source_told c.args.src.now _ (passed_source c.args.src.now _ c.from_residual.ensures.1 c.in_err-source.ensures.refused)

pub returns-clause-exact : goal.returns-clause-exact
returns-clause-exact c = λ refusal cause. absurd (source_not_refused c.args.src.now refusal (accepted_of c.args.src.now _ c.in_ok-source.ensures.within c.in_ok-source.ensures.ok) cause)
