use Rattle.std.proofs.Common.{Some}
use Rattle.luf_conf.proofs.OneAnswer.{options_in_range}
use Rattle.luafmt.proofs.Configs.{all_in_range}
use Rattle.luafmt.proofs.config.options_of.Goals as goal

pub returns-in-Some-clause-range : goal.returns-in-Some-clause-range
returns-in-Some-clause-range g c = all_in_range (Some c.in-Some.name.now) _ c.fetched.result c.fetched.ensures.ok

pub returns-in-None-clause-range : goal.returns-in-None-clause-range
returns-in-None-clause-range g c = options_in_range _ c.usual.result c.usual.ensures
