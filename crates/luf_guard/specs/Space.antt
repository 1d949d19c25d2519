-- Whether two tokens need a space between them (our own rule over the cut of a source).
use Rattle.std.specs.Prelude.{◌≡◌, ℕ, ◌+◌, List, [], ◌∷◌, ◌++◌, length, map, codes}
use Rattle.luf_text.specs.declared.Span.{Span}
use Rattle.luf_lex.specs.Spelling.{Spells}
use Rattle.luf_lex.specs.Cut.{IsCut}
use Rattle.luf_lex.specs.declared.token.Tok.{Tok}
use Rattle.luf_lex.specs.declared.token.Kind.TheVariants.{Token}
use Rattle.luf_lex.specs.declared.token.Piece.{Piece}

-- the spelling of some token
abbrev pub IsTokenSpelling : List ℕ → Type 0
IsTokenSpelling a = (t : Tok) × Spells (Token t) a

abbrev pub span_between : ℕ → ℕ → Span
span_between from to = record { from = from; to = to }

-- Two spellings stand apart: a blank and the two, one after another, are cut into just these three. The blank keeps
-- a `#` from beginning a `#` line.
pub record StandApart (a b : List ℕ) : Type 0 where
  pub pieces : List Piece
  pub cut : IsCut (codes " " ++ a ++ b) pieces
  pub three : map (λ p. p.span) pieces ≡ span_between 0 1 ∷ span_between 1 (1 + length a) ∷ span_between (1 + length a) (1 + length a + length b) ∷ []

-- two spellings need a space between them
abbrev pub NeedSpace : List ℕ → List ℕ → Type 0
NeedSpace a b = StandApart a b → ⊥
