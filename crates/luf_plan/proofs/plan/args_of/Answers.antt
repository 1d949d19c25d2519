use Rattle.std.proofs.Common.{◌≡◌, codes, refl, ap, ◌∙◌}
use Rattle.clap.specs.Simple.{App, app_of, new_app, with_rule}
use Rattle.luf_plan.specs.Plan.{file_rule, simple_command, with_flags}
use Rattle.luf_plan.proofs.SimpleCommand.{taken_by, refused_by, files_by, value_by, flag_by}
use Rattle.luf_plan.proofs.plan.args_of.Goals as goal

pub returns-in-Err-clause-usage : goal.returns-in-Err-clause-usage
returns-in-Err-clause-usage c = λ is.
    let app : app_of c.in_ok-simple.simple ≡ simple_command c.args.command = c.in_ok-simple.ensures ∙ ap (λ (a : App). with_rule (with_flags c.args.command a) file_rule) (c.new.ensures.app ∙ ap new_app c.word.ensures) in
    refused_by c.args.command _ _ c.in-Err.e app c.in-Err.ensures.kinds (λ memory. let same = c.from.ensures.1 memory in absurd cc)

pub returns-clause-taken : goal.returns-clause-taken
returns-clause-taken c =
    let app : app_of c.in_ok-simple.simple ≡ simple_command c.args.command = c.in_ok-simple.ensures ∙ ap (λ (a : App). with_rule (with_flags c.args.command a) file_rule) (c.new.ensures.app ∙ ap new_app c.word.ensures) in
    taken_by c.args.command _ _ app c.in-Ok.ensures.kinds

pub returns-clause-check : goal.returns-clause-check
returns-clause-check c =
    let app : app_of c.in_ok-simple.simple ≡ simple_command c.args.command = c.in_ok-simple.ensures ∙ ap (λ (a : App). with_rule (with_flags c.args.command a) file_rule) (c.new.ensures.app ∙ ap new_app c.word.ensures) in
    flag_by c.args.command _ _ c.in-Ok.matches (codes "check") _ c.is_true.result app c.in-Ok.ensures.matches c.value_of.ensures c.is_true.ensures

pub returns-clause-write : goal.returns-clause-write
returns-clause-write c =
    let app : app_of c.in_ok-simple.simple ≡ simple_command c.args.command = c.in_ok-simple.ensures ∙ ap (λ (a : App). with_rule (with_flags c.args.command a) file_rule) (c.new.ensures.app ∙ ap new_app c.word.ensures) in
    flag_by c.args.command _ _ c.in-Ok.matches (codes "write") _ c.is_true-2.result app c.in-Ok.ensures.matches c.value_of-2.ensures c.is_true-2.ensures

pub returns-clause-config : goal.returns-clause-config
returns-clause-config c =
    let app : app_of c.in_ok-simple.simple ≡ simple_command c.args.command = c.in_ok-simple.ensures ∙ ap (λ (a : App). with_rule (with_flags c.args.command a) file_rule) (c.new.ensures.app ∙ ap new_app c.word.ensures) in
    value_by c.args.command _ _ c.in-Ok.matches (codes "config") _ app c.in-Ok.ensures.matches c.value_of-3.ensures

pub returns-clause-files : goal.returns-clause-files
returns-clause-files c =
    let app : app_of c.in_ok-simple.simple ≡ simple_command c.args.command = c.in_ok-simple.ensures ∙ ap (λ (a : App). with_rule (with_flags c.args.command a) file_rule) (c.new.ensures.app ∙ ap new_app c.word.ensures) in
    c.in_ok-files.ensures ∙ files_by c.args.command _ _ c.in-Ok.matches _ app c.in-Ok.ensures.matches refl
