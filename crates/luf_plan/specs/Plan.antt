-- What the words of a run mean: a command, what becomes of its texts, its file of options, and the files that it is to
-- read. Our own rules.
use Rattle.std.specs.Prelude.{◌≡◌, ℕ, List, [], ◌∷◌, length, map, codes, Option, Some, None, option_map, unwrap_or}
use Rattle.std.specs.Borrow.{Bor}
use Rattle.clap.specs.Lexer.{usize_max}
use Rattle.clap.specs.Walk.{Rule, all_of, first_of}
use Rattle.clap.specs.Simple.{App, matches_of, new_app, new_rule, with_rule}
use Rattle.clap.specs.Faults.{fault_of}
use Rattle.clap.specs.declared.builder.action.ArgAction.TheVariants.{SetTrue}
use Rattle.luf_plan.specs.Command.{command_word, TakesFiles}
use Rattle.luf_plan.specs.declared.command.Command.{Command}
use Rattle.luf_plan.specs.declared.command.Command.TheVariants as command
use Rattle.luf_plan.specs.declared.command.Manner.{Manner}
use Rattle.luf_plan.specs.declared.command.Manner.TheVariants.{Show, Compare, Rewrite}

-- A command, what becomes of its texts, the name of a file of options, and the names of its files: where none is named, it
-- reads the input.
pub record Plan : Type 0 where
  pub command : Command
  pub manner : Manner
  pub config : Option (List ℕ)
  pub files : List (List ℕ)

-- a plan as the program holds it
abbrev pub planned : Command → Manner → Option (Bor (List ℕ)) → List (Bor (List ℕ)) → Plan
planned command manner config files = record {
  command = command;
  manner = manner;
  config = option_map (λ s. s.now) config;
  files = map (λ s. s.now) files;
}

-- the option --config, with one value
abbrev pub config_rule : Rule
config_rule = record (new_rule (codes "config")) { long = Some (codes "config") }

-- the flags --check and --write
abbrev pub flag_rule : List ℕ → Rule
flag_rule name = record (new_rule name) { long = Some name; action = Some SetTrue }

-- the positional FILE, with any number of values
abbrev pub file_rule : Rule
file_rule = record (new_rule (codes "FILE")) { range = Some (record { start_inclusive = 0; end_inclusive = usize_max }) }

-- the rules that a command has beside FILE
abbrev pub with_flags : Command → App → App
with_flags command.Format app = with_rule (with_rule (with_rule app config_rule) (flag_rule (codes "check"))) (flag_rule (codes "write"))
with_flags command.Minify app = app
with_flags command.Check app = app
with_flags command.List app = app

-- What `clap` is told of a command: its word, which stands where a program's name stands, its option and flags, and FILE.
-- Beside the help that `clap` adds it has nothing else.
abbrev pub simple_command : Command → App
simple_command command = with_rule (with_flags command (new_app (command_word command))) file_rule

-- the values of FILE that `clap` reads in the words
abbrev pub files_in : Command → List (List ℕ) → List (List ℕ)
files_in command words = unwrap_or (all_of (codes "FILE") (matches_of (simple_command command) words)) []

-- only `format` has an option and flags
abbrev pub of_format : Command → Option (List ℕ) → Option (List ℕ)
of_format command.Format value = value
of_format command.Minify value = None
of_format command.Check value = None
of_format command.List value = None

-- the value of an option or a flag, that of a flag being `true` where it is given
abbrev pub value_in : Command → List (List ℕ) → List ℕ → Option (List ℕ)
value_in command words id = of_format command (first_of id (matches_of (simple_command command) words))

-- the value of --config
abbrev pub config_in : Command → List (List ℕ) → Option (List ℕ)
config_in command words = value_in command words (codes "config")

-- a flag is given
abbrev pub HasFlag : Command → List (List ℕ) → List ℕ → Type 0
HasFlag command words flag = value_in command words flag ≡ Some (codes "true")

-- the words say what becomes of the texts: one of the two flags is given at most
pub data IsManner (command : Command) (words : List (List ℕ)) : Manner → Type 0 where
  shows : (HasFlag command words (codes "check") → ⊥) → (HasFlag command words (codes "write") → ⊥) → IsManner command words Show
  compares : HasFlag command words (codes "check") → (HasFlag command words (codes "write") → ⊥) → IsManner command words Compare
  rewrites : (HasFlag command words (codes "check") → ⊥) → HasFlag command words (codes "write") → IsManner command words Rewrite

-- The words mean a plan: the first is the word of its command, `clap` finds no fault in them, one flag is given at most,
-- --config has the name of the file of options, FILE has the names of the files, and the command takes so many.
pub record Mean (words : List (List ℕ)) (plan : Plan) : Type 0 where
  pub rest : List (List ℕ)
  pub first : words ≡ command_word plan.command ∷ rest
  pub taken : fault_of (simple_command plan.command) words ≡ []
  pub manner : IsManner plan.command words plan.manner
  pub config : plan.config ≡ config_in plan.command words
  pub files : plan.files ≡ files_in plan.command words
  pub allowed : TakesFiles plan.command plan.manner (length plan.files)

-- they mean no plan
abbrev pub AreNoCommand : List (List ℕ) → Type 0
AreNoCommand words = (plan : Plan) → Mean words plan → ⊥
