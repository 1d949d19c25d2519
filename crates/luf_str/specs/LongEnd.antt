-- Whether a text begins with a long bracket, and where the long string ends (Lua 5.4 manual, 3.1).
use Rattle.std.specs.Prelude.{ℕ, ◌≤◌, Bool, false, ◌==◌, ◌&&◌, List, [], ◌∷◌, length, take, drop, Option, Some, None, IsTrue}
use Rattle.std.specs.List.{prefix_len}
use Rattle.std.specs.Str.{byte}
use Rattle.luf_byte.specs.Front.{begins}
use Rattle.luf_str.specs.Spelling.{IsLongSpelling}

-- whether a text begins with a long bracket: `[`, any number of `=`, and `[`
abbrev pub opens_long : List ℕ → Bool
opens_long [] = false
opens_long (b ∷ text) = b == byte "[" && begins (λ c. c == byte "[") (drop (prefix_len (λ c. c == byte "=") text) text)

-- the text begins with a long bracket, and no front of it is a long string
abbrev pub IsOpenLong : List ℕ → Type 0
IsOpenLong text = IsTrue (opens_long text) × ((n : ℕ) → IsLongSpelling (take n text) → ⊥)

-- what `long_end` answers
abbrev pub IsLongEnd : List ℕ → Option ℕ → Type 0
IsLongEnd text (Some n) = (n ≤ length text) × IsLongSpelling (take n text)
IsLongEnd text None = IsOpenLong text
