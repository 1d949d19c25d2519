-- Each token of a cut has the spelling of a token.
use Rattle.std.proofs.Common.{◌≡◌, ℕ, Some, List}
use Rattle.std.specs.Prelude.{slice_get}
use Rattle.luf_lex.specs.Cut.{IsCut}
use Rattle.luf_lex.specs.Tokens.{spellings_of}
use Rattle.luf_lex.specs.declared.token.Piece.{Piece}
use Rattle.luf_lex.proofs.PieceSpellings.{spelled_at}
use Rattle.luf_guard.specs.Space.{IsTokenSpelling}

pub spelling_at : (source : List ℕ) (pieces : List Piece) → IsCut source pieces → (n : ℕ) (a : List ℕ) → slice_get (spellings_of source pieces) n ≡ Some a → IsTokenSpelling a
spelling_at source pieces cut n a found = let h = spelled_at source pieces cut n a found in (h.0, h.2)
