use Rattle.std.proofs.Common.{rules, ◌≡◌, refl, ◌∙◌, subst}
use Rattle.luf_plan.specs.Plan.{planned}
use Rattle.luafmt.specs.inner.Ended.{by_fetch, by_memory}
use Rattle.luafmt.specs.inner.NoJob.{IsNoJob}
use Rattle.luafmt.proofs.Configs.{same_world, turned, told_config, untold_config}
use Rattle.luafmt.proofs.Runs.{turns_no_config}
use Rattle.luafmt.proofs.Sources.{same_counts}
use Rattle.luafmt.proofs.run.run_plan.Goals as goal

pub returns-in-Ok-clause-ended : goal.returns-in-Ok-clause-ended
returns-in-Ok-clause-ended g c =
    turned (planned c.args.plan.now.command c.args.plan.now.manner c.args.plan.now.config c.args.plan.now.files.items) (g.I.Source.left c.args.input.now) _ _ _ c.in-Ok.job _ c.in-Ok.ensures.job
    (same_world c.in-Ok.ensures.kept.0 (same_counts refl c.in-Ok.ensures.calm c.in-Ok.ensures.kept.1 refl refl)) c.take_turns.ensures.ended

pub returns-in-Ok-clause-config : goal.returns-in-Ok-clause-config
returns-in-Ok-clause-config g c = λ e. absurd (turns_no_config _ _ _ _ _ _ c.take_turns.ensures.ended e)

pub returns-in-Ok-write_all-clause-ended : goal.returns-in-Ok-write_all-clause-ended
returns-in-Ok-write_all-clause-ended g c =
    let why = subst (IsNoJob _ _ _ _) c.in-Err-Refused.field-0-is c.in-Err-Refused.ensures.none in
    let bytes : c.deref.result.now ≡ c.in-Err-Refused.line.items = search rules in
    told_config _ _ _ _ why.0 c.deref.result.now why.1 (bytes ∙ why.2) c.in-Err-Refused.ensures.kept.0 refl c.in-Ok-write_all.ensures.ok
    (same_counts refl why.3 c.in-Err-Refused.ensures.kept.1 refl c.in-Ok-write_all.ensures.calm)

pub returns-in-Err-Refused-clause-ended : goal.returns-in-Err-Refused-clause-ended
returns-in-Err-Refused-clause-ended g c =
    let why = subst (IsNoJob _ _ _ _) c.in-Err-Refused.field-0-is c.in-Err-Refused.ensures.none in
    let bytes : c.deref.result.now ≡ c.in-Err-Refused.line.items = search rules in
    let part = c.in-Err-Fault-write_all.ensures.part in
    untold_config _ _ _ _ why.0 c.deref.result.now part.0 why.1 (bytes ∙ why.2) c.in-Err-Refused.ensures.kept.0 refl part.2 (refl, why.3) c.in-Err-Fault-write_all.ensures.fault

pub returns-in-Err-Fault-clause-ended : goal.returns-in-Err-Fault-clause-ended
returns-in-Err-Fault-clause-ended g c =
    let why = subst (IsNoJob _ _ _ _) c.in-Err-Fault.field-0-is c.in-Err-Fault.ensures.none in
    by_fetch (record {
      name = why.0;
      is = why.1;
      told = c.in-Err-Fault.ensures.kept.0;
      out = refl;
      errs = refl;
      calm = (c.in-Err-Fault.ensures.kept.1, refl, refl);
      cause = why.2;
    })

pub returns-clause-ended : goal.returns-clause-ended
returns-clause-ended g c =
    let calm = subst (IsNoJob _ _ _ _) c.in-Err-NoMemory.field-0-is c.in-Err-NoMemory.ensures.none in
    by_memory (same_world c.in-Err-NoMemory.ensures.kept.0 (same_counts refl calm c.in-Err-NoMemory.ensures.kept.1 refl refl))
