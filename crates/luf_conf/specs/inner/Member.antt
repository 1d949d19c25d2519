-- Options after one more member of a table.
use Rattle.std.specs.Prelude.{◌≡◌, ◌≢◌, ℕ, List}
use Rattle.toml.specs.Data.{Data}
use Rattle.luf_conf.specs.Settings.{Sets, key_name}
use Rattle.luf_conf.specs.declared.keys.Key.{Key}
use Rattle.luf_conf.specs.declared.settings.Options.{Options}

-- the name is a key, which says its value of the new options, and all other keys say of them what they said of the old ones
pub record IsWithMember (name : List ℕ) (d : Data) (old new : Options) : Type 0 where
  pub key : Key
  pub named : key_name key ≡ name
  pub said : Sets key d new
  pub others : (other : Key) → other ≢ key → (x : Data) → Sets other x old → Sets other x new
