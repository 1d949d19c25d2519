-- One step of the scan of a numeral.
use Rattle.std.specs.Prelude.{ℕ, ◌-◌, Bool, ◌==◌, ◌&&◌, ◌||◌, List, [], ◌∷◌, if◌then◌else◌}
use Rattle.std.specs.Str.{byte}
use Rattle.luf_byte.specs.Class.{is_hex_digit}

-- a mark of an exponent, by its small letter
abbrev pub mark_of : ℕ → ℕ → Bool
mark_of lower b = b == lower || b == lower - 32

-- what the scan goes on over
abbrev pub is_scanned : (ℕ → Bool) → ℕ → Bool
is_scanned mark b = mark b || (is_hex_digit b || b == byte ".")

-- how many bytes one step takes: a mark with a sign, or one byte
abbrev pub step_of : (ℕ → Bool) → List ℕ → ℕ
step_of mark [] = 0
step_of mark (b ∷ []) = if is_scanned mark b then 1 else 0
step_of mark (b ∷ c ∷ rest) = if mark b && (c == byte "+" || c == byte "-") then 2 else (if is_scanned mark b then 1 else 0)
