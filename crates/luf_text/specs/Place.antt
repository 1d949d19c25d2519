-- Lines and columns of a text.
use Rattle.std.specs.Prelude.{ℕ, ◌+◌, ◌-◌, nat_le, List, [], ◌∷◌, length, filter, if◌then◌else◌}
use Rattle.luf_byte.specs.Class.{is_line_byte}
use Rattle.luf_byte.specs.LineEnd.{is_line_pair}
use Rattle.luf_text.specs.declared.place.Place.{Place}

-- The places directly after each line end, in order, for bytes of which the first stands at place `at`. CR, LF, CR LF
-- and LF CR are each one line end, and the longest is taken, from the left (after the sequences of line ends that the
-- Lua 5.4 manual, 3.1, names for long brackets).
abbrev pub line_starts_from : ℕ → List ℕ → List ℕ
line_starts_from at [] = []
line_starts_from at (a ∷ []) = if is_line_byte a then (at + 1) ∷ [] else []
line_starts_from at (a ∷ b ∷ rest) =
    if is_line_pair a b then (at + 2) ∷ line_starts_from (at + 2) rest
    else if is_line_byte a then (at + 1) ∷ line_starts_from (at + 1) (b ∷ rest)
    else line_starts_from (at + 1) (b ∷ rest)

-- the places at which the lines of a text after the first begin
abbrev pub line_starts : List ℕ → List ℕ
line_starts text = line_starts_from 0 text

-- those of some places in order that are `at` at most
abbrev pub begun_by : ℕ → List ℕ → List ℕ
begun_by at starts = filter (λ start. nat_le start at) starts

-- the last of a list of numbers, or `none` where it has none
abbrev pub last_or : ℕ → List ℕ → ℕ
last_or none [] = none
last_or none (x ∷ xs) = last_or x xs

-- The place of byte `at`: its line is 1 more than the lines that have begun after a line end by then, and its column
-- counts from 1 at the beginning of the last of these lines, or of the text (our own rule).
abbrev pub place_in : List ℕ → ℕ → Place
place_in text at =
    let begun = begun_by at (line_starts text) in
    record { line = 1 + length begun; column = 1 + at - last_or 0 begun }
