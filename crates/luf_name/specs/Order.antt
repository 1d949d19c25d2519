-- Names in their order: the shorter first, and of one length by their letters.
use Rattle.std.specs.Prelude.{◌≡◌, ℕ, ◌+◌, ◌*◌, ◌<◌, ◌==◌, ◌⊎◌, List, [], ◌∷◌, length, codes}
use Rattle.std.specs.List.{All, position_or_len}

-- the letters of names, in their order
unfoldable pub alphabet : List ℕ
alphabet = codes "abcdefghijklmnopqrstuvwxyzABCDEFGHIJKLMNOPQRSTUVWXYZ_0123456789"

-- the place of a letter in the alphabet, from 0; 63 for what is no letter of it
unfoldable pub rank : ℕ → ℕ
rank letter = position_or_len (λ other. other == letter) alphabet

abbrev pub IsLetter : ℕ → Type 0
IsLetter letter = rank letter < 63

-- a name: at least one letter, and the first is no digit
abbrev pub IsName : List ℕ → Type 0
IsName [] = ⊥
IsName (first ∷ rest) = (rank first < 53) × All IsLetter rest

-- of two texts of one length: at the first place where they differ, the first has the lower letter
abbrev pub IsLower : List ℕ → List ℕ → Type 0
IsLower (a ∷ name) (b ∷ other) = (rank a < rank b) ⊎ ((a ≡ b) × IsLower name other)
IsLower _ _ = ⊥

-- the order of names
abbrev pub IsBefore : List ℕ → List ℕ → Type 0
IsBefore name other = (length name < length other) ⊎ ((length name ≡ length other) × IsLower name other)

-- the number of a name to which letters are added, where n is the number of what stands before them
abbrev pub number_from : ℕ → List ℕ → ℕ
number_from n [] = n
number_from n (letter ∷ rest) = number_from (n * 63 + 53 + rank letter) rest

-- How many names come before a name. Before one of more letters come the 53 of one letter, the 63 that go on with a
-- letter behind each name before its front (the name without its last letter), and those of its own front that end
-- lower. That this counts them is the laws: numbers rise with the names, and none is left out.
abbrev pub number_of : List ℕ → ℕ
number_of [] = 0
number_of (first ∷ rest) = number_from (rank first) rest

-- the name of a number
abbrev pub IsNth : List ℕ → ℕ → Type 0
IsNth name n = IsName name × (number_of name ≡ n)
