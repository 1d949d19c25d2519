use Rattle.std.proofs.Common.{rules}
use Rattle.luf_plan.proofs.SimpleCommand.{ranged, flags_and_files}
use Rattle.luf_plan.proofs.plan.with_rules.Goals as goal

pub returns-in_ok-with_flags-in-Format : goal.returns-in_ok-with_flags-in-Format
returns-in_ok-with_flags-in-Format c =
    let file = ranged c.new.result c.num_args-file.result c.new.ensures.rule c.num_args-file.ensures.0 c.num_args-file.ensures.1 in
    flags_and_files c.args.command c.arg.result c.args.simple c.in_ok-with_flags-in-Format.field-0 c.num_args-file.result c.in-Format.is c.in_ok-with_flags-in-Format.ensures file (search rules) c.arg.ensures
