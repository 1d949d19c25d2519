-- What a text begins with, read as the inside of a short string in the quotes q.
use Rattle.std.specs.Prelude.{◌≡◌, ℕ, ◌<◌, ◌≤◌, List, [], ◌∷◌, length, take, drop, codes, ⊤, IsTrue}
use Rattle.std.specs.Str.{byte}
use Rattle.luf_byte.specs.Class.{is_line_byte}
use Rattle.luf_str.specs.declared.fronts.Front.{Front}
use Rattle.luf_str.specs.declared.fronts.Front.TheVariants as front
use Rattle.luf_str.specs.Escape.{IsBadEscape}
use Rattle.luf_str.specs.Value.{IsPart}
use Rattle.luf_str.specs.Meaning.{bytes_of}

-- the text's end, or a line end
abbrev pub IsEnd : List ℕ → Type 0
IsEnd [] = ⊤
IsEnd (b ∷ text) = IsTrue (is_line_byte b)

-- what `front_of` answers
abbrev pub IsFront : ℕ → List ℕ → Front → Type 0
IsFront q text (front.Part n meaning) = (0 < n) × (n ≤ length text) × IsPart q (take n text) (drop n text) (bytes_of meaning)
IsFront q text front.BadEscape = (next : List ℕ) × (text ≡ byte "\\" ∷ next) × IsBadEscape next
IsFront q text front.LoneBackslash = text ≡ codes "\\"
IsFront q text front.Quote = (next : List ℕ) × (text ≡ q ∷ next)
IsFront q text front.End = IsEnd text
