-- The tokens of a cut, numbered from 0.
use Rattle.std.specs.Prelude.{ℕ, ◌+◌, Bool, true, false, Option, Some, None, List, [], ◌∷◌, ◌++◌, if◌then◌else◌, map, slice_range}
use Rattle.std.specs.Option.{option_to_list}
use Rattle.luf_lex.specs.declared.token.Kind.{Kind}
use Rattle.luf_lex.specs.declared.token.Kind.TheVariants.{Token}
use Rattle.luf_lex.specs.declared.token.Tok.{Tok}
use Rattle.luf_text.specs.declared.Span.{Span}
use Rattle.luf_lex.specs.declared.token.Piece.{Piece}

-- the token that a kind is, if it is one
abbrev pub tok_of : Kind → Option Tok
tok_of (Token t) = Some t
tok_of _ = None

abbrev pub is_token : Kind → Bool
is_token (Token t) = true
is_token _ = false

-- the pieces that are tokens, in order
abbrev pub tokens_of : List Piece → List Piece
tokens_of [] = []
tokens_of (p ∷ pieces) = if is_token p.kind then p ∷ tokens_of pieces else tokens_of pieces

-- the tokens alone
abbrev pub toks_of : List Piece → List Tok
toks_of [] = []
toks_of (p ∷ pieces) = option_to_list (tok_of p.kind) ++ toks_of pieces

-- where the tokens lie in the source
abbrev pub spans_of : List Piece → List Span
spans_of pieces = map (λ p. p.span) (tokens_of pieces)

-- how they are spelled
abbrev pub spellings_of : List ℕ → List Piece → List (List ℕ)
spellings_of source pieces = map (λ p. slice_range source p.span.from p.span.to) (tokens_of pieces)

-- where the tokens stand among the pieces, the first of which has this place
abbrev pub token_places : ℕ → List Piece → List ℕ
token_places at [] = []
token_places at (p ∷ pieces) = if is_token p.kind then at ∷ token_places (at + 1) pieces else token_places (at + 1) pieces
