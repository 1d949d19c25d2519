-- Files by name. They may be told, as a map from the bytes of a name to the bytes of the file; a clause on
-- their content holds where they are told. Our own rule.
use Rattle.std.specs.Prelude.{◌≡◌, ℕ, ◌<◌, ◌≤◌, ◌⊎◌, Bool, List, ◌++◌, length, Option, Some, None}
use Rattle.std.specs.Prelude.{Result, Ok, Err}
use Rattle.std.specs.Option.{ForSome}
use Rattle.std.specs.Ordering.{nat_cmp}
use Rattle.std.specs.Cmp.Lexicographic.{slice_cmp}
use Rattle.std.specs.FinMap.{FinMap, get}
use Rattle.luf_io.specs.Count.{Rose}
use Rattle.luf_io.specs.declared.files.FileFault.{FileFault}
use Rattle.luf_io.specs.declared.files.FileFault.TheVariants.{Failed, Memory}

-- from the bytes of each name to the bytes of its file
abbrev pub FileMap : Type 0
FileMap = FinMap (slice_cmp nat_cmp) (List ℕ)

-- some bytes were appended to a buffer, at most `most`; where the files are told, they are the file's
pub record AppendsFile (told : Option FileMap) (name : List ℕ) (most : ℕ) (before after : List ℕ) : Type 0 where
  pub bytes : List ℕ
  pub appended : after ≡ before ++ bytes
  pub within : length bytes ≤ most
  pub of_file : ForSome told (λ files. get files name ≡ Some bytes)

-- where the files are told, this one is there and has more than `most` bytes
abbrev pub IsTooLong : Option FileMap → List ℕ → ℕ → Type 0
IsTooLong told name most =
    ForSome told (λ files. (bytes : List ℕ) × (get files name ≡ Some bytes) × (most < length bytes))

-- the files are told, and none has this name
abbrev pub IsMissing : Option FileMap → List ℕ → Type 0
IsMissing told name = (files : FileMap) × (told ≡ Some files) × (get files name ≡ None)

-- The count of failed calls of `replace` rises where a call answers `Failed`, and stays at every other
-- answer.
abbrev pub CountsReplace : Result (Unit {0}) FileFault → ℕ → ℕ → Type 0
CountsReplace (Ok _) before after = after ≡ before
CountsReplace (Err Failed) before after = Rose before after
CountsReplace (Err Memory) before after = after ≡ before

-- The count of failed calls of `fetch` does the same, but that it stays where a file is missing, and only there.
abbrev pub CountsFetch : Result Bool FileFault → Option FileMap → List ℕ → ℕ → ℕ → Type 0
CountsFetch (Ok _) told name before after = after ≡ before
CountsFetch (Err Failed) told name before after =
    (IsMissing told name × (after ≡ before)) ⊎ ((IsMissing told name → ⊥) × Rose before after)
CountsFetch (Err Memory) told name before after = after ≡ before
