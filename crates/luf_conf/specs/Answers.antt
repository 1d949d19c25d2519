-- The options that a text tells, or why it tells none. What the table of a text is, is told by the crate that reads TOML.
use Rattle.std.specs.Prelude.{◌≡◌, ◌≢◌, ℕ, List, Some, unwrap_or, IsUtf8}
use Rattle.std.specs.Cmp.Lexicographic.{slice_cmp}
use Rattle.std.specs.Ordering.{nat_cmp}
use Rattle.std.specs.declared.cmp.Ordering.TheVariants.{Less}
use Rattle.toml.specs.Data.{Data, Members, get_member}
use Rattle.toml.specs.Parse.{parse_document}
use Rattle.luf_conf.specs.Settings.{IsKnown, Sets, key_name, usual_value}
use Rattle.luf_conf.specs.declared.error.ConfErr.{ConfErr}
use Rattle.luf_conf.specs.declared.error.ConfErr.TheVariants.{NotToml, UnknownKey, BadValue}
use Rattle.luf_conf.specs.declared.keys.Key.{Key}
use Rattle.luf_conf.specs.declared.settings.Options.{Options}

-- the text is UTF-8, and TOML of this table
abbrev pub IsTable : List ℕ → Members → Type 0
IsTable text table = IsUtf8 text × (parse_document text ≡ Some table)

-- The options of a table: it has known keys alone, and each key says its value there, or what is usual where it is missing.
pub record AreOptions (table : Members) (o : Options) : Type 0 where
  pub known : (name : List ℕ) (d : Data) → get_member name table ≡ Some d → IsKnown name
  pub told : (k : Key) → Sets k (unwrap_or (get_member (key_name k) table) (usual_value k)) o

-- why a name with its value is refused: it is no key, or it is a key that says nothing by this value
pub data IsWrong (name : List ℕ) (d : Data) : ConfErr → Type 0 where
  unknown_key : (IsKnown name → ⊥) → IsWrong name d (UnknownKey name)
  bad_value : (k : Key) → key_name k ≡ name → ((o : Options) → Sets k d o → ⊥) → IsWrong name d (BadValue name)

-- the cause at the first name of a table, in the order of bytes, that is refused
pub record IsFirstWrong (table : Members) (e : ConfErr) : Type 0 where
  pub name : List ℕ
  pub value : Data
  pub there : get_member name table ≡ Some value
  pub wrong : IsWrong name value e
  pub first : (other : List ℕ) (d : Data) (cause : ConfErr) → get_member other table ≡ Some d → IsWrong other d cause → slice_cmp nat_cmp other name ≢ Less

-- the text tells these options
abbrev pub TellsOptions : List ℕ → Options → Type 0
TellsOptions text o = (table : Members) × IsTable text table × AreOptions table o

-- the text tells none: it has no table, or one that is refused
pub data IsRefused (text : List ℕ) : ConfErr → Type 0 where
  not_toml : ((table : Members) → IsTable text table → ⊥) → IsRefused text NotToml
  wrong_table : (table : Members) (e : ConfErr) → IsTable text table → IsFirstWrong table e → IsRefused text e
