-- The significant tokens of a chunk: all but the dropped ones.
use Rattle.std.specs.Prelude.{ℕ, zero, suc, ◌+◌, Bool, false, ◌||◌, cond, eqb, List, [], ◌∷◌}
use Rattle.luf_lex.specs.declared.token.Tok.{Tok}
use Rattle.luf_lex.specs.declared.token.Tok.TheVariants as tok
use Rattle.luf_tree.specs.TokenSyntax as tokens
use Rattle.luf_bare.specs.Dropped.{dropped_block}

abbrev pub is_among : ℕ → List ℕ → Bool
is_among i [] = false
is_among i (d ∷ ds) = eqb i d || is_among i ds

-- of so many places from one on, those that are not among some
abbrev pub places_but : List ℕ → ℕ → ℕ → List ℕ
places_but ds i zero = []
places_but ds i (suc n) = cond (is_among i ds) (places_but ds (i + 1) n) (i ∷ places_but ds (i + 1) n)

-- the significant tokens of a chunk of so many tokens, in order
abbrev pub significant : tokens.Block → ℕ → List ℕ
significant chunk n = places_but (dropped_block chunk []) 0 n

-- a keyword or a sign: the token has one spelling
abbrev pub IsFixed : Tok → Type 0
IsFixed (tok.Word _) = Unit {0}
IsFixed (tok.Sign _) = Unit {0}
IsFixed _ = ⊥
