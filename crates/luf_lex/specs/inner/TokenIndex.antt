-- The index of the tokens of a cut.
use Rattle.std.specs.Prelude.{◌≡◌, ℕ, ◌≤◌, List, length}
use Rattle.luf_lex.specs.Tokens.{token_places}
use Rattle.luf_lex.specs.declared.token.Piece.{Piece}

-- an index of the tokens of these pieces
pub record IsTokenIndex (tokens : List ℕ) (pieces : List Piece) : Type 0 where
  pub places : tokens ≡ token_places 0 pieces
  pub few : length pieces ≤ 16777216
