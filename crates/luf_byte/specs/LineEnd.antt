-- Line ends (Lua 5.4 manual, 3.1).
use Rattle.std.specs.Prelude.{◌≡◌, ℕ, Bool, not, ◌&&◌, ◌==◌, ◌⊎◌, List, [], ◌∷◌, slice_index, codes, IsTrue, if◌then◌else◌}
use Rattle.luf_byte.specs.Class.{is_line_byte}
use Rattle.luf_byte.specs.Front.{NoneAtFront}

-- two bytes of one line end: CR LF or LF CR
abbrev pub is_line_pair : ℕ → ℕ → Bool
is_line_pair a b = is_line_byte a && is_line_byte b && not (a == b)

-- a line end
abbrev pub IsLineEnd : List ℕ → Type 0
IsLineEnd line = (line ≡ codes "\n") ⊎ (line ≡ codes "\r") ⊎ (line ≡ codes "\n\r") ⊎ (line ≡ codes "\r\n")

-- a line end where next follows: the longest that stands there
abbrev pub IsLineEndBefore : List ℕ → List ℕ → Type 0
IsLineEndBefore (a ∷ []) next = IsTrue (is_line_byte a) × NoneAtFront (is_line_pair a) next
IsLineEndBefore (a ∷ b ∷ []) next = IsTrue (is_line_pair a b)
IsLineEndBefore _ next = ⊥

-- how many bytes the line end has that a text begins with, the longest; 0 where it begins with none
abbrev pub line_end_length : List ℕ → ℕ
line_end_length text = if is_line_byte (slice_index text 0) then (if is_line_pair (slice_index text 0) (slice_index text 1) then 2 else 1) else 0
