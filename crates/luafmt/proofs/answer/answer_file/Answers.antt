use Rattle.std.proofs.Common.{rules}
use Rattle.luf_io.specs.Files.{IsTooLong}
use Rattle.luf_work.specs.Limits.{source_limit}
use Rattle.luf_work.specs.declared.refusal.Refusal.TheVariants.{TooLarge}
use Rattle.luafmt.proofs.Sources.{too_large, too_long_file, refused_comes}
use Rattle.luafmt.proofs.answer.answer_file.Goals as goal

pub returns-in-Ok-false-clause-comes : goal.returns-in-Ok-false-clause-comes
returns-in-Ok-false-clause-comes g c =
    let long : IsTooLong (g.F.Files.told c.args.files.now) c.args.name.now source_limit = search rules in
    let found = too_long_file (g.F.Files.told c.args.files.now) c.args.name.now source_limit long in
    (found.0, found.1, refused_comes c.args.job c.args.name.now found.0 _ TooLarge (λ _. too_large c.args.job found.0 found.2) c.in_ok-refused-in-Ok-false.ensures)
