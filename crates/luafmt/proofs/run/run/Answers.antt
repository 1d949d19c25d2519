use Rattle.std.proofs.Common.{inl, [], Err, refl, ap, ◌∙◌}
use Rattle.luf_plan.specs.Plan.{planned}
use Rattle.luafmt.specs.Outcome.{outcome_of, usage_outcome, of_usage, begun_nothing, begun_usage}
use Rattle.luafmt.proofs.Turns.{nothing_put}
use Rattle.luafmt.proofs.Keeping.{keeps_turn, formatted_ended}
use Rattle.luafmt.proofs.Runs.{outcome_ended, no_usage, read_fault_ended, write_fault_ended, read_calm_ended, write_calm_ended, stopped_ended, part_ended, complete_ended, missing_ended, text_ended, usage_complete, usage_missing}
use Rattle.luafmt.proofs.run.run.Goals as goal

pub returns-in-Ok-clause-outcome : goal.returns-in-Ok-clause-outcome
returns-in-Ok-clause-outcome g c = outcome_ended _ _ (planned c.in-Ok.plan.command c.in-Ok.plan.manner c.in-Ok.plan.config c.in-Ok.plan.files.items) _ _ c.in-Ok.ensures.plan _ c.run_plan.ensures.ended

pub returns-in-Ok-clause-text : goal.returns-in-Ok-clause-text
returns-in-Ok-clause-text g c = text_ended _ _ (planned c.in-Ok.plan.command c.in-Ok.plan.manner c.in-Ok.plan.config c.in-Ok.plan.files.items) _ _ _ c.in-Ok.ensures.plan c.run_plan.ensures.ended

pub returns-in-Ok-clause-formatted : goal.returns-in-Ok-clause-formatted
returns-in-Ok-clause-formatted g c = formatted_ended _ _ (planned c.in-Ok.plan.command c.in-Ok.plan.manner c.in-Ok.plan.config c.in-Ok.plan.files.items) _ _ _ c.in-Ok.ensures.plan c.run_plan.ensures.ended

pub returns-in-Ok-clause-kept : goal.returns-in-Ok-clause-kept
returns-in-Ok-clause-kept g c = keeps_turn

pub returns-in-Ok-clause-usage : goal.returns-in-Ok-clause-usage
returns-in-Ok-clause-usage g c = λ e. absurd (no_usage (planned c.in-Ok.plan.command c.in-Ok.plan.manner c.in-Ok.plan.config c.in-Ok.plan.files.items) _ _ _ _ c.run_plan.ensures.ended e)

pub returns-in-Ok-clause-read_fault : goal.returns-in-Ok-clause-read_fault
returns-in-Ok-clause-read_fault g c = read_fault_ended _ _ (planned c.in-Ok.plan.command c.in-Ok.plan.manner c.in-Ok.plan.config c.in-Ok.plan.files.items) _ _ c.in-Ok.ensures.plan _ c.run_plan.ensures.ended

pub returns-in-Ok-clause-write_fault : goal.returns-in-Ok-clause-write_fault
returns-in-Ok-clause-write_fault g c = write_fault_ended _ _ (planned c.in-Ok.plan.command c.in-Ok.plan.manner c.in-Ok.plan.config c.in-Ok.plan.files.items) _ _ c.in-Ok.ensures.plan _ c.run_plan.ensures.ended

pub returns-in-Ok-clause-read_calm : goal.returns-in-Ok-clause-read_calm
returns-in-Ok-clause-read_calm g c = read_calm_ended (planned c.in-Ok.plan.command c.in-Ok.plan.manner c.in-Ok.plan.config c.in-Ok.plan.files.items) _ _ _ _ c.run_plan.ensures.ended

pub returns-in-Ok-clause-write_calm : goal.returns-in-Ok-clause-write_calm
returns-in-Ok-clause-write_calm g c = write_calm_ended (planned c.in-Ok.plan.command c.in-Ok.plan.manner c.in-Ok.plan.config c.in-Ok.plan.files.items) _ _ _ _ c.run_plan.ensures.ended

pub returns-in-Ok-clause-stopped : goal.returns-in-Ok-clause-stopped
returns-in-Ok-clause-stopped g c = stopped_ended _ _ (planned c.in-Ok.plan.command c.in-Ok.plan.manner c.in-Ok.plan.config c.in-Ok.plan.files.items) _ _ c.in-Ok.ensures.plan _ c.run_plan.ensures.ended

pub returns-in-Ok-clause-part : goal.returns-in-Ok-clause-part
returns-in-Ok-clause-part g c = part_ended _ _ (planned c.in-Ok.plan.command c.in-Ok.plan.manner c.in-Ok.plan.config c.in-Ok.plan.files.items) _ _ c.in-Ok.ensures.plan _ c.run_plan.ensures.ended

pub returns-in-Ok-clause-complete : goal.returns-in-Ok-clause-complete
returns-in-Ok-clause-complete g c = λ w is told calm. complete_ended _ _ (planned c.in-Ok.plan.command c.in-Ok.plan.manner c.in-Ok.plan.config c.in-Ok.plan.files.items) _ _ c.in-Ok.ensures.plan calm _ c.run_plan.ensures.ended w is told

pub returns-in-Ok-clause-missing : goal.returns-in-Ok-clause-missing
returns-in-Ok-clause-missing g c = λ at_turn calm. missing_ended _ _ (planned c.in-Ok.plan.command c.in-Ok.plan.manner c.in-Ok.plan.config c.in-Ok.plan.files.items) _ _ c.in-Ok.ensures.plan calm _ c.run_plan.ensures.ended at_turn

pub returns-in-Ok-write_all-clause-outcome : goal.returns-in-Ok-write_all-clause-outcome
returns-in-Ok-write_all-clause-outcome g c = λ _.
    let other = c.plan_of.ensures.usage (c.in-Err-Usage.is ∙ ap Err c.in-Err-Usage.field-0-is) in
    (usage_outcome (g.F.Files.told c.args.files.now), of_usage _ _ _ other, refl, nothing_put _ _ refl, c.in-Ok-write_all.ensures.ok, refl)

pub returns-in-Ok-write_all-clause-kept : goal.returns-in-Ok-write_all-clause-kept
returns-in-Ok-write_all-clause-kept g c = keeps_turn

pub returns-in-Ok-write_all-clause-usage : goal.returns-in-Ok-write_all-clause-usage
returns-in-Ok-write_all-clause-usage g c = λ _. c.plan_of.ensures.usage (c.in-Err-Usage.is ∙ ap Err c.in-Err-Usage.field-0-is)

pub returns-in-Ok-write_all-clause-complete : goal.returns-in-Ok-write_all-clause-complete
returns-in-Ok-write_all-clause-complete g c = λ w is told calm.
    inl (usage_complete _ _ _ w (c.plan_of.ensures.usage (c.in-Err-Usage.is ∙ ap Err c.in-Err-Usage.field-0-is)) is)

pub returns-in-Ok-write_all-clause-missing : goal.returns-in-Ok-write_all-clause-missing
returns-in-Ok-write_all-clause-missing g c = λ at_turn calm.
    absurd (usage_missing _ _ _ (c.plan_of.ensures.usage (c.in-Err-Usage.is ∙ ap Err c.in-Err-Usage.field-0-is)) at_turn)

pub returns-in-Err-Fault-clause-kept : goal.returns-in-Err-Fault-clause-kept
returns-in-Err-Fault-clause-kept g c = keeps_turn

pub returns-in-Err-Fault-clause-part : goal.returns-in-Err-Fault-clause-part
returns-in-Err-Fault-clause-part g c = λ _.
    let other = c.plan_of.ensures.usage (c.in-Err-Usage.is ∙ ap Err c.in-Err-Usage.field-0-is) in
    let part = c.in-Err-Fault.ensures.part in
    (usage_outcome (g.F.Files.told c.args.files.now), 0, part.0, begun_usage _ _ _ other, nothing_put _ _ refl, part.2, refl)

pub returns-in-Err-NoMemory-clause-kept : goal.returns-in-Err-NoMemory-clause-kept
returns-in-Err-NoMemory-clause-kept g c = keeps_turn

pub returns-in-Err-NoMemory-clause-stopped : goal.returns-in-Err-NoMemory-clause-stopped
returns-in-Err-NoMemory-clause-stopped g c = λ _.
    (outcome_of [] (g.F.Files.told c.args.files.now), begun_nothing _ _ _, nothing_put _ _ refl, nothing_put _ _ refl, refl)
