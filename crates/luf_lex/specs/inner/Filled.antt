-- The pieces of a cut are kept without its blanks: these lie where no other piece does.
use Rattle.std.specs.Prelude.{ℕ, ◌==◌, List, [], ◌∷◌, ◌++◌, if◌then◌else◌}
use Rattle.luf_lex.specs.declared.token.Kind.TheVariants.{Blank}
use Rattle.luf_lex.specs.declared.token.Piece.{Piece}

-- the blanks from one place to another, if the two differ
abbrev pub blank_between : ℕ → ℕ → List Piece
blank_between from to = if from == to then [] else record { kind = Blank; span = record { from = from; to = to } } ∷ []

-- these pieces with the blanks before, between and behind them, from a place on up to an end
abbrev pub filled : ℕ → List Piece → ℕ → List Piece
filled at [] end = blank_between at end
filled at (p ∷ pieces) end = blank_between at p.span.from ++ p ∷ filled p.span.to pieces end

-- where the last of these pieces ends; the place from which they begin, where there is none
abbrev pub last_end : ℕ → List Piece → ℕ
last_end at [] = at
last_end at (p ∷ pieces) = last_end p.span.to pieces
