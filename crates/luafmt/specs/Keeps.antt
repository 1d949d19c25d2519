-- What a turn of `format` keeps. Our own rule.
use Rattle.std.specs.Prelude.{◌≡◌, ◌⊎◌, ℕ, List, [], Some}
use Rattle.luf_conf.specs.declared.settings.Options.{Options}
use Rattle.luf_work.specs.Format.{KeepsSource}
use Rattle.luafmt.specs.Outcome.{Turn}

-- whatever it shows, or puts in the place of its file, keeps its source
pub record Keeps (o : Options) (contents : List ℕ) (turn : Turn) : Type 0 where
  pub shown : (turn.out ≡ []) ⊎ KeepsSource o contents turn.out
  pub placed : (text : List ℕ) → turn.rewritten ≡ Some text → KeepsSource o contents text
