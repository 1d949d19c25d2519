-- The value of a string (Lua 5.4 manual, 3.1).
use Rattle.std.specs.Prelude.{◌≡◌, ◌⊎◌, ℕ, ◌+◌, List, [], ◌∷◌, ◌++◌, length, codes, IsTrue, IsFalse}
use Rattle.std.specs.List.{flat_map}
use Rattle.std.specs.Str.{byte}
use Rattle.luf_byte.specs.Class.{is_line_byte}
use Rattle.luf_byte.specs.Front.{NoneAtFront}
use Rattle.luf_byte.specs.LineEnd.{IsLineEndBefore}
use Rattle.luf_str.specs.Bytes.{is_quote, is_plain}
use Rattle.luf_str.specs.Pieces.{AllInPlace}
use Rattle.luf_str.specs.Escape.{IsEscape, IsBadEscape}
use Rattle.luf_str.specs.Spelling.{IsLongOf}

-- A part of a short string in the quotes q, where next follows, and what it stands for.
pub data IsPart : ℕ → List ℕ → List ℕ → List ℕ → Type 0 where
  plain : (q b : ℕ) (next : List ℕ) → IsTrue (is_plain q b) → IsPart q (b ∷ []) next (b ∷ [])
  escape : (q : ℕ) (escape next value : List ℕ) → IsEscape escape next value → IsPart q (byte "\\" ∷ escape) next value

-- A part of a long string: nothing is an escape, and each line end stands for LF.
pub data IsLongPart : List ℕ → List ℕ → List ℕ → Type 0 where
  in_line : (b : ℕ) (next : List ℕ) → IsFalse (is_line_byte b) → IsLongPart (b ∷ []) next (b ∷ [])
  line_end : (line next : List ℕ) → IsLineEndBefore line next → IsLongPart line next (codes "\n")

-- a part with what it stands for
pub record Part : Type 0 where
  pub spelling : List ℕ
  pub value : List ℕ

abbrev pub spelling_of : List Part → List ℕ
spelling_of parts = flat_map (λ (p : Part). p.spelling) parts

abbrev pub meaning_of : List Part → List ℕ
meaning_of parts = flat_map (λ (p : Part). p.value) parts

-- each of these is a part, before what follows it
abbrev pub AreParts : ℕ → List Part → List ℕ → Type 0
AreParts q parts next = AllInPlace (λ (p : Part) following. IsPart q p.spelling following p.value) (λ (p : Part). p.spelling) parts next

abbrev pub AreLongParts : List Part → List ℕ → Type 0
AreLongParts parts next = AllInPlace (λ (p : Part) following. IsLongPart p.spelling following p.value) (λ (p : Part). p.spelling) parts next

-- a short string: the parts between the quotes, each with its value
abbrev pub IsShortValue : List ℕ → List ℕ → Type 0
IsShortValue spelling value = (q : ℕ) × (parts : List Part) × IsTrue (is_quote q)
    × AreParts q parts (q ∷ []) × (spelling ≡ q ∷ (spelling_of parts ++ q ∷ [])) × (value ≡ meaning_of parts)

-- what stands before the first byte of a long string's value: its first line end, or nothing where it does not begin with one
abbrev pub IsDropped : List ℕ → List ℕ → Type 0
IsDropped [] next = NoneAtFront is_line_byte next
IsDropped line next = IsLineEndBefore line next

-- the body of a long string, without a line end at its front, and its value
abbrev pub IsLongText : List ℕ → List ℕ → Type 0
IsLongText body value = (dropped : List ℕ) × (parts : List Part) × (body ≡ dropped ++ spelling_of parts)
    × IsDropped dropped (spelling_of parts) × AreLongParts parts [] × (value ≡ meaning_of parts)

abbrev pub IsLongValue : List ℕ → List ℕ → Type 0
IsLongValue spelling value = (n : ℕ) × (body : List ℕ) × IsLongOf n body spelling × IsLongText body value

abbrev pub IsValue : List ℕ → List ℕ → Type 0
IsValue spelling value = IsShortValue spelling value ⊎ IsLongValue spelling value

-- the place of the first bad escape's backslash: all before it are parts
abbrev pub FirstBad : List ℕ → ℕ → Type 0
FirstBad spelling at = (q : ℕ) × (parts : List Part) × (next : List ℕ) × IsTrue (is_quote q)
    × AreParts q parts (byte "\\" ∷ next) × IsBadEscape next × (spelling ≡ q ∷ (spelling_of parts ++ byte "\\" ∷ next)) × (at ≡ 1 + length (spelling_of parts))
