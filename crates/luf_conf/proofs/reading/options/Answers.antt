use Rattle.std.proofs.Common.{Err}
use Rattle.toml.specs.View.{table_view}
use Rattle.luf_conf.proofs.OneAnswer.{complete, exact, refused_by, tells_by}
use Rattle.luf_conf.proofs.reading.options.Goals as goal

pub returns-in-Ok-clause-refused : goal.returns-in-Ok-clause-refused
returns-in-Ok-clause-refused c = refused_by c.args.text.now (table_view c.in-Ok.table) c.options_of.result c.in-Ok.ensures.ok c.options_of.ensures.refused

pub returns-in-Ok-clause-complete : goal.returns-in-Ok-clause-complete
returns-in-Ok-clause-complete c =
    complete c.args.text.now c.options_of.result (tells_by c.args.text.now (table_view c.in-Ok.table) c.options_of.result c.in-Ok.ensures.ok c.options_of.ensures.ok)
    (refused_by c.args.text.now (table_view c.in-Ok.table) c.options_of.result c.in-Ok.ensures.ok c.options_of.ensures.refused)

pub returns-in-Ok-clause-exact : goal.returns-in-Ok-clause-exact
returns-in-Ok-clause-exact c =
    exact c.args.text.now c.options_of.result (tells_by c.args.text.now (table_view c.in-Ok.table) c.options_of.result c.in-Ok.ensures.ok c.options_of.ensures.ok)
    (refused_by c.args.text.now (table_view c.in-Ok.table) c.options_of.result c.in-Ok.ensures.ok c.options_of.ensures.refused)

pub returns-in-Err-clause-exact : goal.returns-in-Err-clause-exact
returns-in-Err-clause-exact c = exact c.args.text.now (Err c.in-Err.e) tt c.in-Err.ensures.refused
