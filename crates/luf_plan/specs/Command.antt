-- The commands: the word of each, and how many files it takes. Our own rules.
use Rattle.std.specs.Prelude.{ℕ, ◌≤◌, List, codes}
use Rattle.luf_plan.specs.declared.command.Command.{Command}
use Rattle.luf_plan.specs.declared.command.Command.TheVariants as command
use Rattle.luf_plan.specs.declared.command.Manner.{Manner}
use Rattle.luf_plan.specs.declared.command.Manner.TheVariants as manner

abbrev pub command_word : Command → List ℕ
command_word command.Format = codes "format"
command_word command.Minify = codes "minify"
command_word command.Check = codes "check"
command_word command.List = codes "list"

-- How many files may be named behind the word, by what becomes of their texts: any number, one at most, or one at least.
abbrev pub TakesFiles : Command → Manner → ℕ → Type 0
TakesFiles command.Format manner.Show count = count ≤ 1
TakesFiles command.Format manner.Compare count = 1 ≤ count
TakesFiles command.Format manner.Rewrite count = 1 ≤ count
TakesFiles command.Minify _ count = count ≤ 1
TakesFiles command.Check _ count = Unit {0}
TakesFiles command.List _ count = count ≤ 1
