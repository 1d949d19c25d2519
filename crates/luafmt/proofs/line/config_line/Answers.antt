use Rattle.std.proofs.Common.{◌++◌, ℕ, List, Some, codes, sym, ap, ◌∙◌}
use Rattle.luafmt.specs.Line.{named, config_line as spec_config_line}
use Rattle.luafmt.proofs.Configs.{config_said}
use Rattle.luafmt.proofs.line.config_line.Goals as goal

pub returns-in-UnknownKey : goal.returns-in-UnknownKey
returns-in-UnknownKey c =
    config_said (λ line. line.items) _ c.args.name.now (named c.args.name.now (codes "UnknownKey " ++ c.as_slice.result.now)) c.args.refusal.now
    (ap (spec_config_line c.args.name.now) c.in-UnknownKey.is ∙ ap (λ (key : List ℕ). Some (named c.args.name.now (codes "UnknownKey " ++ key))) (sym c.as_slice.ensures)) c.key_line-in-UnknownKey.ensures
