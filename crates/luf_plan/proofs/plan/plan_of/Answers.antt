use Rattle.std.proofs.Common.{rules, ◌≡◌, true, length, vec_len, string_bytes, sym, ap, ◌∙◌, subst}
use Rattle.std.specs.Option.{option_copied}
use Rattle.luf_plan.specs.Command.{TakesFiles}
use Rattle.luf_plan.proofs.PlanLemmas.{meant, not_taken, true_false, words_begin}
use Rattle.luf_plan.proofs.plan.plan_of.Goals as goal

pub returns-then-takes_files-clause-plan : goal.returns-then-takes_files-clause-plan
returns-then-takes_files-clause-plan c =
    let count : vec_len c.in-Ok.args.files ≡ length c.in-Ok.args.files.items = search rules in
    let first = words_begin string_bytes c.args.words.now c.in-Some.word.now _ (ap option_copied (sym c.in-Some.is) ∙ c.first.ensures.value) (sym c.as_bytes.ensures.value ∙ sym c.in-Some-named.ensures) in
    meant _ _ c.in-Some-named.command c.in-Ok.args.check c.in-Ok.args.write first c.in-Ok.ensures.check c.in-Ok.ensures.write
    c.in-Some-chosen.manner c.in-Ok.args.config c.in-Ok.args.files.items c.in-Ok.ensures.taken c.in-Some-chosen.ensures c.in-Ok.ensures.config c.in-Ok.ensures.files
    (subst (TakesFiles c.in-Some-named.command c.in-Some-chosen.manner) (c.len.ensures ∙ count) (c.takes_files.ensures.0 c.if-takes_files.true))

pub returns-clause-usage : goal.returns-clause-usage
returns-clause-usage c = λ is.
    let count : vec_len c.in-Ok.args.files ≡ length c.in-Ok.args.files.items = search rules in
    let first = words_begin string_bytes c.args.words.now c.in-Some.word.now _ (ap option_copied (sym c.in-Some.is) ∙ c.first.ensures.value) (sym c.as_bytes.ensures.value ∙ sym c.in-Some-named.ensures) in
    not_taken _ _ c.in-Some-named.command c.in-Ok.args.check c.in-Ok.args.write first c.in-Ok.ensures.check c.in-Ok.ensures.write
    c.in-Some-chosen.manner c.in-Ok.args.files.items c.in-Some-chosen.ensures c.in-Ok.ensures.files
    (λ takes. let t : c.takes_files.result ≡ true = c.takes_files.ensures.1 (subst (TakesFiles c.in-Some-named.command c.in-Some-chosen.manner) (sym (c.len.ensures ∙ count)) takes) in true_false _ t c.if-takes_files.false)
