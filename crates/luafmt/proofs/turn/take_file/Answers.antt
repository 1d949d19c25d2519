use Rattle.std.proofs.Common.{rules, ◌≡◌, ◌⊎◌, inr, ℕ, refl, ap, ◌∙◌, subst}
use Rattle.luf_io.specs.Count.{Rose}
use Rattle.luf_io.specs.Files.{IsMissing}
use Rattle.luafmt.specs.Outcome.{file, rewritten_by, Turn}
use Rattle.luafmt.proofs.Sources.{same_counts, first_two, rewrites}
use Rattle.luafmt.proofs.Turns.{one_through, one_unread, one_starved, one_unwritten, one_unreplaced}
use Rattle.luafmt.proofs.turn.take_file.Goals as goal

pub returns-in-Ok-write-clause-ok : goal.returns-in-Ok-write-clause-ok
returns-in-Ok-write-clause-ok g c = λ left faults.
    let comes = c.in-Ok.ensures.comes in
    let calm = c.in-Ok-write.ensures.calm in
    let replaces : g.F.Files.replace_faults c.rewrite.new.files ≡ g.F.Files.replace_faults c.answer_file.new.files = search rules in
    one_through c.args.job left (file c.args.name.now) comes.0 c.in-Ok.answer _ _ _ (ap (λ (t : Turn). t.status) c.answer.view_is) comes.1 comes.2
    (c.in-Ok-rewrite.ensures.ok ∙ ap (rewritten_by (file c.args.name.now) c.in-Ok.answer.rewritten) c.in-Ok.ensures.kept.0) (search rules) (search rules)
    (same_counts refl (c.rewrite.ensures.other ∙ c.in-Ok.ensures.calm) (replaces ∙ c.in-Ok.ensures.kept.1) calm.0 calm.1)

pub returns-in-Ok-rewrite-clause-err : goal.returns-in-Ok-rewrite-clause-err
returns-in-Ok-rewrite-clause-err g c = λ left faults.
    let comes = c.in-Ok.ensures.comes in
    let part = c.in-Err-Fault-write.ensures.part in
    one_unwritten c.args.job left (file c.args.name.now) comes.0 c.in-Ok.answer _ _ part.0 part.1 comes.1 comes.2
    (c.in-Ok-rewrite.ensures.ok ∙ ap (rewritten_by (file c.args.name.now) c.in-Ok.answer.rewritten) c.in-Ok.ensures.kept.0) (search rules) (search rules)
    (refl, c.rewrite.ensures.other ∙ c.in-Ok.ensures.calm) (first_two c.in-Err-Fault-write.ensures.fault)

pub returns-in-Err-Failed-clause-err : goal.returns-in-Err-Failed-clause-err
returns-in-Err-Failed-clause-err g c = λ left faults.
    let comes = c.in-Ok.ensures.comes in
    let rose : Rose (g.F.Files.replace_faults c.answer_file.new.files) (g.F.Files.replace_faults c.rewrite.new.files) = search rules in
    one_unreplaced c.args.job left (file c.args.name.now) _ _ (c.in-Err-Failed.ensures.err ∙ c.in-Ok.ensures.kept.0) refl refl (refl, c.rewrite.ensures.other ∙ c.in-Ok.ensures.calm)
    (inr (inr (rewrites c.args.job c.args.name.now comes.0 c.in-Ok.answer comes.2 (c.rewrite.ensures.failed (search rules)), subst (λ (k : ℕ). Rose k (g.F.Files.replace_faults c.rewrite.new.files)) c.in-Ok.ensures.kept.1 rose)))

pub returns-in-Err-Fault-clause-err : goal.returns-in-Err-Fault-clause-err
returns-in-Err-Fault-clause-err g c = λ left faults.
    let cause : IsMissing (g.F.Files.told c.args.files.now) c.args.name.now ⊎ Rose (g.F.Files.fetch_faults c.args.files.now) (g.F.Files.fetch_faults c.answer_file.new.files) = search rules in
    one_unread c.args.job left (file c.args.name.now) _ _ c.in-Err-Fault.ensures.kept.0 refl refl (c.in-Err-Fault.ensures.kept.1, refl, refl) cause

pub returns-in-Err-NoMemory-clause-err : goal.returns-in-Err-NoMemory-clause-err
returns-in-Err-NoMemory-clause-err g c = λ left faults.
    let calm : g.F.Files.fetch_faults c.answer_file.new.files ≡ g.F.Files.fetch_faults c.args.files.now = search rules in
    one_starved c.args.job left (file c.args.name.now) _ _ c.in-Err-NoMemory.ensures.kept.0 refl refl (same_counts refl calm c.in-Err-NoMemory.ensures.kept.1 refl refl)

pub returns-clause-err : goal.returns-clause-err
returns-clause-err g c = λ left faults.
    let replaces : g.F.Files.replace_faults c.rewrite.new.files ≡ g.F.Files.replace_faults c.answer_file.new.files = search rules in
    one_starved c.args.job left (file c.args.name.now) _ _ (c.in-Err-Memory.ensures.err ∙ c.in-Ok.ensures.kept.0) refl refl
    (same_counts refl (c.rewrite.ensures.other ∙ c.in-Ok.ensures.calm) (replaces ∙ c.in-Ok.ensures.kept.1) refl refl)
