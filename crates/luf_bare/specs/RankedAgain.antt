-- Chunks of one bare program have one bare program by ranks.
use Rattle.std.specs.Prelude.{◌≡◌, ℕ, List, map}
use Rattle.luf_lex.specs.declared.token.Tok.{Tok}
use Rattle.luf_tree.specs.declared.tree.Chunk.{Chunk}
use Rattle.luf_tree.specs.Grammar.{IsChunk}
use Rattle.luf_tree.specs.SyntaxOf.{syntax_of}
use Rattle.luf_bare.specs.Bare.{words_of, bare_block}
use Rattle.luf_bare.specs.Rank.{ranked}
use Rattle.luf_bare.specs.ReadBack.{SpelledToken, TextWord, IsReadBack}

-- of two chunks, whatever their tokens are and whatever stands for their words
abbrev pub OneRanking : Type 0
OneRanking =
    (toks others : List Tok) (chunk other : Chunk) (says tells : ℕ → SpelledToken) → IsChunk toks chunk → IsChunk others other
    → bare_block (words_of says) (syntax_of chunk) ≡ bare_block (words_of tells) (syntax_of other) → ranked (syntax_of chunk) ≡ ranked (syntax_of other)

-- of a chunk, and of one that is read of what is written of it
abbrev pub RankedAgain : Type 0
RankedAgain =
    (source : List SpelledToken) (chunk : Chunk) (text : List TextWord) → IsChunk (map (λ (w : SpelledToken). w.token) source) chunk
    → (back : IsReadBack source chunk text) → ranked (syntax_of back.read.tree) ≡ ranked (syntax_of chunk)
