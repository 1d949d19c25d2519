-- A short string in other quotes (our own rule).
use Rattle.std.specs.Prelude.{◌≡◌, ◌⊎◌, ◌↔◌, ℕ, ◌-◌, ◌==◌, List, [], ◌∷◌, ◌++◌, map, length, take, drop, IsTrue, if◌then◌else◌}
use Rattle.std.specs.Str.{byte}
use Rattle.luf_str.specs.declared.quoting.Quote.{Quote}
use Rattle.luf_str.specs.declared.quoting.Quote.TheVariants.{Single, Double}
use Rattle.luf_str.specs.Bytes.{is_quote}
use Rattle.luf_str.specs.Spelling.{unit_bytes, IsCutIntoUnits, IsShortIn, IsShortSpelling, IsLongSpelling}
use Rattle.luf_str.specs.Value.{IsValue}

abbrev pub quote_byte : Quote → ℕ
quote_byte Single = byte "'"
quote_byte Double = byte "\""

-- what stands between the quotes of a short string
abbrev pub inside : List ℕ → List ℕ
inside spelling = take (length spelling - 2) (drop 1 spelling)

-- the other of the two quotes
abbrev pub other_quote : ℕ → ℕ
other_quote q = if q == byte "\"" then byte "'" else byte "\""

-- a unit in the quotes q: the quote q is written with a backslash and the other quote without, all else is kept
abbrev pub requoted_unit : ℕ → List ℕ → List ℕ
requoted_unit q (b ∷ []) = if b == q then byte "\\" ∷ b ∷ [] else b ∷ []
requoted_unit q (b ∷ c ∷ []) = if c == other_quote q then c ∷ [] else b ∷ c ∷ []
requoted_unit q unit = unit

-- a short string whose units are requoted, between the quotes q
abbrev pub IsShortRequoted : List ℕ → ℕ → List ℕ → Type 0
IsShortRequoted spelling q requoted = (from : ℕ) × (units : List (List ℕ)) × IsTrue (is_quote from) × IsCutIntoUnits from units spelling
    × (requoted ≡ q ∷ (unit_bytes (map (requoted_unit q) units) ++ q ∷ []))

-- a long string is kept
abbrev pub IsRequoted : List ℕ → ℕ → List ℕ → Type 0
IsRequoted spelling q requoted = IsShortRequoted spelling q requoted ⊎ (IsLongSpelling spelling × (requoted ≡ spelling))

-- another spelling of the same string, of a short one in the quotes q
abbrev pub IsSameString : List ℕ → ℕ → List ℕ → Type 0
IsSameString spelling q other = (IsShortSpelling spelling → IsShortIn q other) × ((value : List ℕ) → IsValue spelling value ↔ IsValue other value)
