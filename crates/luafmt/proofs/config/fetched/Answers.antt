use Rattle.std.proofs.Common.{rules, ◌≡◌, codes}
use Rattle.luf_io.specs.Files.{AppendsFile, IsTooLong}
use Rattle.luafmt.specs.Config.{options_limit, too_large}
use Rattle.luafmt.specs.Line.{named}
use Rattle.luafmt.proofs.Configs.{told_no_job}
use Rattle.luafmt.proofs.Sources.{too_long_file}
use Rattle.luafmt.proofs.config.fetched.Goals as goal

pub returns-in-Ok-true-clause-none : goal.returns-in-Ok-true-clause-none
returns-in-Ok-true-clause-none g c =
    let whole : AppendsFile (g.F.Files.told c.args.files.now) c.args.name.now options_limit c.new-text.result.items c.fetch.new.into.items = search rules in
    let calm : g.F.Files.fetch_faults c.fetch.new.self ≡ g.F.Files.fetch_faults c.args.files.now = search rules in
    told_no_job c.told.result (g.F.Files.told c.args.files.now) c.args.name.now c.new-text.result.items c.fetch.new.into.items _ _ _ whole c.new-text.ensures.items c.deref.ensures.value calm c.told.ensures.none

pub returns-in-Ok-false-clause-none : goal.returns-in-Ok-false-clause-none
returns-in-Ok-false-clause-none g c =
    let long : IsTooLong (g.F.Files.told c.args.files.now) c.args.name.now options_limit = search rules in
    let calm : g.F.Files.fetch_faults c.fetch.new.self ≡ g.F.Files.fetch_faults c.args.files.now = search rules in
    let found = too_long_file (g.F.Files.told c.args.files.now) c.args.name.now options_limit long in
    (named c.args.name.now (codes "TooLarge"), too_large c.args.name.now found.0 found.1 found.2, c.in_ok-large_line-in-Ok-false.ensures, calm)
