-- What a source resolves to is one, and depends on its bare program alone.
use Rattle.std.specs.Prelude.{◌≡◌, ℕ, None, List, [], map, length, slice_get, unwrap_or}
use Rattle.std.specs.Option.{option_map}
use Rattle.luf_lex.specs.Cut.{IsCut}
use Rattle.luf_lex.specs.Tokens.{toks_of}
use Rattle.luf_lex.specs.declared.token.Tok.{Tok}
use Rattle.luf_lex.specs.declared.token.Piece.{Piece}
use Rattle.luf_tree.specs.declared.tree.Chunk.{Chunk}
use Rattle.luf_tree.specs.Grammar.{IsChunk}
use Rattle.luf_tree.specs.SyntaxOf.{syntax_of}
use Rattle.luf_tree.specs.TokenSyntax as tokens
use Rattle.luf_bare.specs.Rank.{ranked}
use Rattle.luf_bare.specs.ReadBack.{SpelledToken, TextWord, IsReadBack, spelled_at, word_at}
use Rattle.luf_bare.specs.Significant.{significant}
use Rattle.luf_scope.specs.Fault.{scope_fault}
use Rattle.luf_scope.specs.Links.{spelling_in, occurrences_of}
use Rattle.luf_scope.specs.Local.{Spelling}
use Rattle.luf_resolved.specs.Resolved.{ResolvedProgram, resolved}

-- a source resolves to this, by a tree of its tokens
pub record ResolvesTo (source : List ℕ) (chunk : Chunk) (program : ResolvedProgram) : Type 0 where
  pub pieces : List Piece
  pub cut : IsCut source pieces
  pub tree : IsChunk (toks_of pieces) chunk
  pub is : resolved (spelling_in source pieces) (syntax_of chunk) ≡ program

-- with one tree a source resolves to one program
abbrev pub OneMeaning : Type 0
OneMeaning = (source : List ℕ) (chunk : Chunk) (program other : ResolvedProgram) → ResolvesTo source chunk program → ResolvesTo source chunk other → program ≡ other

-- by rank how the significant tokens of a chunk of so many tokens are spelled
abbrev pub by_rank : Spelling → tokens.Block → ℕ → Spelling
by_rank spelled chunk n rank = unwrap_or (option_map spelled (slice_get (significant chunk n) rank)) []

-- a chunk resolves to what its bare program by ranks resolves to
abbrev pub BareResolvesAlike : Type 0
BareResolvesAlike =
    (toks : List Tok) (chunk : Chunk) (spelled : Spelling) → IsChunk toks chunk
    → resolved spelled (syntax_of chunk) ≡ resolved (by_rank spelled (syntax_of chunk) (length toks)) (ranked (syntax_of chunk))

-- a text that is written of a chunk resolves, as it is read, to what the chunk resolves to
abbrev pub WrittenResolvesAlike : Type 0
WrittenResolvesAlike =
    (source : List SpelledToken) (chunk : Chunk) (text : List TextWord) → IsChunk (map (λ (w : SpelledToken). w.token) source) chunk → (back : IsReadBack source chunk text)
    → resolved (λ i. (word_at text i).spelled.spelling) (syntax_of back.read.tree) ≡ resolved (λ i. (spelled_at source i).spelling) (syntax_of chunk)

-- a text that is written of a chunk without scope faults has none, as it is read
abbrev pub WrittenHasNoFault : Type 0
WrittenHasNoFault =
    (source : List SpelledToken) (chunk : Chunk) (text : List TextWord) → IsChunk (map (λ (w : SpelledToken). w.token) source) chunk → (back : IsReadBack source chunk text)
    → scope_fault (λ i. (spelled_at source i).spelling) (occurrences_of chunk) ≡ None
    → scope_fault (λ i. (word_at text i).spelled.spelling) (occurrences_of back.read.tree) ≡ None
