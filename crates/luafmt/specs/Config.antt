-- The options of a run: those of the file of options that its words name, or the usual ones. Our own rules.
use Rattle.std.specs.Prelude.{◌≡◌, ℕ, ◌<◌, ◌≤◌, List, length, codes, Option, Some, None}
use Rattle.std.specs.Option.{ForSome}
use Rattle.std.specs.FinMap.{get}
use Rattle.toml.specs.Data.{no_members}
use Rattle.luf_conf.specs.Answers.{AreOptions, TellsOptions, IsRefused}
use Rattle.luf_conf.specs.declared.error.ConfErr.{ConfErr}
use Rattle.luf_conf.specs.declared.settings.Options.{Options}
use Rattle.luf_io.specs.Files.{FileMap}
use Rattle.luf_plan.specs.Plan.{Plan}
use Rattle.luf_plan.specs.declared.command.Command.TheVariants as command
use Rattle.luafmt.specs.Line.{named, config_line}
use Rattle.luafmt.specs.declared.job.Job.{Job}
use Rattle.luafmt.specs.declared.job.Job.TheVariants as job

-- the most bytes of a file of options
abbrev pub options_limit : ℕ
options_limit = 65536

-- these are the contents of a file, where files are told
abbrev pub HoldsFile : Option FileMap → List ℕ → List ℕ → Type 0
HoldsFile told name contents = ForSome told (λ files. get files name ≡ Some contents)

-- these are the options, by the name of a file of options, if one is named
abbrev pub AreOptionsOf : Option (List ℕ) → Option FileMap → Options → Type 0
AreOptionsOf None told o = AreOptions no_members o
AreOptionsOf (Some name) told o = (contents : List ℕ) × HoldsFile told name contents × (length contents ≤ options_limit) × TellsOptions contents o

-- the file of options is refused, as this line tells
pub data IsRefusedConfig (told : Option FileMap) : Option (List ℕ) → List ℕ → Type 0 where
  too_large : (name contents : List ℕ) → HoldsFile told name contents → options_limit < length contents → IsRefusedConfig told (Some name) (named name (codes "TooLarge"))
  no_options : (name contents line : List ℕ) (e : ConfErr) → HoldsFile told name contents → length contents ≤ options_limit → IsRefused contents e → config_line name e ≡ Some line
      → IsRefusedConfig told (Some name) line

-- what a plan does with each of its sources
abbrev pub IsJob : Plan → Option FileMap → Job → Type 0
IsJob plan told (job.Format o m) = (plan.command ≡ command.Format) × (plan.manner ≡ m) × AreOptionsOf plan.config told o
IsJob plan told job.Minify = plan.command ≡ command.Minify
IsJob plan told job.Check = plan.command ≡ command.Check
IsJob plan told job.List = plan.command ≡ command.List
