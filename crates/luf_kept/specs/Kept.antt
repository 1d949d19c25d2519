-- The formatted text of a source is the same program, with the same comments. Rules of our own.
use Rattle.std.specs.Prelude.{◌≡◌, ◌↔◌, ℕ, Some, None, List, [], ◌∷◌, if◌then◌else◌, length, get_or, slice_get, map, slice_range}
use Rattle.luf_str.specs.Value.{IsValue}
use Rattle.luf_conf.specs.declared.settings.Options.{Options}
use Rattle.luf_lex.specs.Note.{is_comment}
use Rattle.luf_lex.specs.Tokens.{toks_of, spellings_of}
use Rattle.luf_lex.specs.declared.token.Piece.{Piece}
use Rattle.luf_lex.specs.declared.token.Tok.{Tok}
use Rattle.luf_lex.specs.declared.token.Tok.TheVariants.{Short}
use Rattle.luf_tree.specs.declared.tree.Chunk.{Chunk}
use Rattle.luf_tree.specs.SyntaxOf.{syntax_of}
use Rattle.luf_bare.specs.ReadBack.{spelled_at, significant_words}
use Rattle.luf_scope.specs.Links.{spelling_in}
use Rattle.luf_scope.specs.Local.{Spelling}
use Rattle.luf_resolved.specs.Resolved.{resolved}
use Rattle.luf_resolved.specs.Source.{IsSource, scope_fault_of}
use Rattle.luf_min.specs.Minified.{spelled_tokens}
use Rattle.luf_min.specs.Text.{hash_text}
use Rattle.luf_gaps.specs.Gaps.{trimmed}
use Rattle.luf_style.specs.Styled.{AreWritten, choices_of}

-- how each token is written
abbrev pub spelled_so : List (List ℕ) → Spelling
spelled_so written token = get_or written token []

-- the comments among pieces, in order
abbrev pub comments_in : List ℕ → List Piece → List (List ℕ)
comments_in text [] = []
comments_in text (p ∷ pieces) = if is_comment p.kind then slice_range text p.span.from p.span.to ∷ comments_in text pieces else comments_in text pieces

-- each short string has the value that it has as it is spelled
abbrev pub KeepValues : List Tok → List (List ℕ) → List (List ℕ) → Type 0
KeepValues toks spellings written =
    (i : ℕ) → slice_get toks i ≡ Some Short → (value : List ℕ) → IsValue (get_or spellings i []) value ↔ IsValue (get_or written i []) value

-- The text has a tree and no scope fault, what it resolves to is what the source resolves to, and its significant tokens are
-- those of the source, in order. Only short strings may be spelled otherwise, in the chosen quotes, and have the values that
-- they had. Its `#` line is that of the source. Its comments are those of the source, in order, each without the blanks at its end.
pub record IsKept (o : Options) (source text : List ℕ) : Type 0 where
  pub pieces : List Piece
  pub chunk : Chunk
  pub is : IsSource source pieces chunk
  pub written : List (List ℕ)
  pub are_written : AreWritten (choices_of o).quote (toks_of pieces) (spellings_of source pieces) written
  pub values : KeepValues (toks_of pieces) (spellings_of source pieces) written
  pub others : List Piece
  pub other : Chunk
  pub read : IsSource text others other
  pub no_fault : scope_fault_of text others other ≡ None
  pub same : resolved (spelling_in text others) (syntax_of other) ≡ resolved (spelled_so written) (syntax_of chunk)
  pub significant : significant_words (spelled_at (spelled_tokens (spelling_in text others) 0 (toks_of others))) (length (toks_of others)) other
      ≡ significant_words (spelled_at (spelled_tokens (spelled_so written) 0 (toks_of pieces))) (length (toks_of pieces)) chunk
  pub hash : hash_text text others ≡ hash_text source pieces
  pub comments : comments_in text others ≡ map trimmed (comments_in source pieces)
