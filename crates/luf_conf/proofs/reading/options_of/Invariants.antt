use Rattle.std.proofs.Common.{◌≡◌, ◌++◌, List}
use Rattle.toml.proofs.Views.{Entry}
use Rattle.toml.specs.View.{members_view}
use Rattle.luf_conf.specs.Answers.{AreOptions}
use Rattle.luf_conf.proofs.reading.options_of.Given as goal

abbrev pub invariant-loop-name : goal.invariant-loop-name
invariant-loop-name l = (done : List Entry) × (l.fn.table.entries ≡ done ++ l.name-iterator) × AreOptions (members_view done) l.options
