-- Why a plan has no job, as the program holds it.
use Rattle.std.specs.Prelude.{◌≡◌, ◌⊎◌, ℕ, List, Option, Some}
use Rattle.luf_conf.specs.Answers.{IsRefused}
use Rattle.luf_conf.specs.declared.error.ConfErr.{ConfErr}
use Rattle.luf_io.specs.Count.{Rose}
use Rattle.luf_io.specs.Files.{FileMap, IsMissing}
use Rattle.luafmt.specs.Config.{IsRefusedConfig}
use Rattle.luafmt.specs.Line.{line_of, config_line}
use Rattle.luafmt.specs.declared.config.NoJob.{NoJob}
use Rattle.luafmt.specs.declared.config.NoJob.TheVariants.{Refused, Fault, NoMemory}

-- by the files that are told, the name of the file of options, and the count of fetches before and after
abbrev pub IsNoJob : Option FileMap → Option (List ℕ) → ℕ → ℕ → NoJob → Type 0
IsNoJob told config before after (Refused bytes) = (line : List ℕ) × IsRefusedConfig told config line × (bytes.items ≡ line_of line) × (after ≡ before)
IsNoJob told config before after Fault = (name : List ℕ) × (config ≡ Some name) × (IsMissing told name ⊎ Rose before after)
IsNoJob told config before after NoMemory = after ≡ before

-- by the name of the file of options, and its text
abbrev pub IsToldWhy : List ℕ → List ℕ → NoJob → Type 0
IsToldWhy name text (Refused bytes) = (line : List ℕ) × (e : ConfErr) × IsRefused text e × (config_line name e ≡ Some line) × (bytes.items ≡ line_of line)
IsToldWhy name text Fault = ⊥
IsToldWhy name text NoMemory = Unit {0}
