-- The spellings of strings, escapes unchecked (Lua 5.4 manual, 3.1).
use Rattle.std.specs.Prelude.{◌≡◌, ◌≢◌, ◌⊎◌, ℕ, List, [], ◌∷◌, ◌++◌, IsTrue, IsFalse, replicate}
use Rattle.std.specs.List.{AllByRecursion, flat_map}
use Rattle.std.specs.Str.{byte}
use Rattle.luf_byte.specs.Class.{is_line_byte, is_whitespace}
use Rattle.luf_byte.specs.Front.{NoneAtFront}
use Rattle.luf_byte.specs.LineEnd.{IsLineEndBefore}
use Rattle.luf_str.specs.Bytes.{is_quote, is_plain}
use Rattle.luf_str.specs.Pieces.{AllInPlace}

-- A unit of a short string in the quotes q, where next follows.
pub data IsUnit : ℕ → List ℕ → List ℕ → Type 0 where
  plain : (q b : ℕ) (next : List ℕ) → IsTrue (is_plain q b) → IsUnit q (b ∷ []) next
  -- \z and all the white space behind it
  skip : (q : ℕ) (spaces next : List ℕ) → AllByRecursion (λ b. IsTrue (is_whitespace b)) spaces → NoneAtFront is_whitespace next → IsUnit q (byte "\\" ∷ byte "z" ∷ spaces) next
  -- a backslash and a line end
  line_end : (q : ℕ) (line next : List ℕ) → IsLineEndBefore line next → IsUnit q (byte "\\" ∷ line) next
  -- a backslash and one other byte, also the quote, also a letter that is no escape
  other : (q b : ℕ) (next : List ℕ) → b ≢ byte "z" → IsFalse (is_line_byte b) → IsUnit q (byte "\\" ∷ b ∷ []) next

-- the bytes of units
abbrev pub unit_bytes : List (List ℕ) → List ℕ
unit_bytes units = flat_map (λ unit. unit) units

-- a short string in the quotes q that is cut into these units
abbrev pub IsCutIntoUnits : ℕ → List (List ℕ) → List ℕ → Type 0
IsCutIntoUnits q units spelling = AllInPlace (IsUnit q) (λ unit. unit) units (q ∷ []) × (spelling ≡ q ∷ (unit_bytes units ++ q ∷ []))

-- a short string in the quotes q
abbrev pub IsShortIn : ℕ → List ℕ → Type 0
IsShortIn q spelling = (units : List (List ℕ)) × IsCutIntoUnits q units spelling

-- a quote, units, and the same quote
abbrev pub IsShortSpelling : List ℕ → Type 0
IsShortSpelling spelling = (q : ℕ) × IsTrue (is_quote q) × IsShortIn q spelling

-- the long brackets of level n
abbrev pub opening : ℕ → List ℕ
opening n = byte "[" ∷ (replicate n (byte "=") ++ byte "[" ∷ [])

abbrev pub closing : ℕ → List ℕ
closing n = byte "]" ∷ (replicate n (byte "=") ++ byte "]" ∷ [])

-- A long string of level n with this body: the closing bracket ends it where it first stands.
abbrev pub IsLongOf : ℕ → List ℕ → List ℕ → Type 0
IsLongOf n body spelling = (spelling ≡ opening n ++ (body ++ closing n))
    × ((before after : List ℕ) → body ++ closing n ≡ before ++ (closing n ++ after) → after ≡ [])

abbrev pub IsLongSpelling : List ℕ → Type 0
IsLongSpelling spelling = (n : ℕ) × (body : List ℕ) × IsLongOf n body spelling

abbrev pub IsStringSpelling : List ℕ → Type 0
IsStringSpelling spelling = IsShortSpelling spelling ⊎ IsLongSpelling spelling
