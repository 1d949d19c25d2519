-- Where a short string ends that a text begins with.
use Rattle.std.specs.Prelude.{◌≡◌, ◌⊎◌, ℕ, ◌≤◌, List, ◌∷◌, ◌++◌, length, take, codes, IsTrue}
use Rattle.luf_str.specs.declared.ends.ShortEnd.{ShortEnd}
use Rattle.luf_str.specs.declared.ends.ShortEnd.TheVariants as end
use Rattle.luf_str.specs.Bytes.{is_quote}
use Rattle.luf_str.specs.Value.{Part, spelling_of, AreParts, IsShortValue, FirstBad}
use Rattle.luf_str.specs.Front.{IsEnd}

-- The quote and parts, and then a line end or the text's end; a backslash may stand before the text's end.
abbrev pub IsOpen : List ℕ → Type 0
IsOpen text = (q : ℕ) × (parts : List Part) × (next : List ℕ) × IsTrue (is_quote q)
    × AreParts q parts next × (text ≡ q ∷ (spelling_of parts ++ next)) × (IsEnd next ⊎ (next ≡ codes "\\"))

-- what `short_end` answers
abbrev pub IsShortEnd : List ℕ → ShortEnd → Type 0
IsShortEnd text (end.Closed n) = (n ≤ length text) × ((value : List ℕ) × IsShortValue (take n text) value)
IsShortEnd text (end.Bad at) = FirstBad text at
IsShortEnd text end.Open = IsOpen text
