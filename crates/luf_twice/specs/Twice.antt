-- What is formatted twice is formatted once, where its text is read as what it was written of. Rules of our own.
use Rattle.std.specs.Prelude.{◌≡◌, ℕ, true, false, List, [], ◌++◌}
use Rattle.luf_doc.specs.Document.{Document}
use Rattle.luf_doc.specs.Layout.{layout}
use Rattle.luf_doc.specs.Layout as layout
use Rattle.luf_lex.specs.Cut.{IsCut}
use Rattle.luf_lex.specs.Tokens.{toks_of, spellings_of}
use Rattle.luf_lex.specs.declared.token.Piece.{Piece}
use Rattle.luf_tree.specs.declared.tree.Chunk.{Chunk}
use Rattle.luf_tree.specs.Grammar.{IsChunk}
use Rattle.luf_tree.specs.SyntaxOf.{syntax_of}
use Rattle.luf_bare.specs.Dropped.{dropped_block}
use Rattle.luf_draft.specs.Draft.{Draft}
use Rattle.luf_draft.specs.Form.{main, written_program}
use Rattle.luf_gaps.specs.Gaps.{is_short}
use Rattle.luf_style.specs.Styled.{Choices, AreWritten, IsStyled, IsFormatted, hash_text}
use Rattle.luf_kept.specs.inner.Steps.{Steps, begun, free}
use Rattle.luf_again.specs.Lexed.{Lexed, IsHead}
use Rattle.luf_again.specs.Reread.{reread_whole}
use Rattle.luf_again.specs.Shown.{shown}
use Rattle.luf_again.specs.Tells.{untold}
use Rattle.luf_twice.specs.Chooses.{Chooses}
use Rattle.luf_twice.specs.Ready.{HasWords}

-- the draft of a chunk whose tokens are written so
abbrev pub draft_of : Choices → List (List ℕ) → Chunk → Draft
draft_of choices written chunk = main choices.string_has choices.table_has (written_program written chunk)

-- The text of a document is cut where its layout has its pieces, it has a tree, whose draft is the draft again; each gap
-- stands before one token that is kept; and it has the same `#` line.
pub record IsReadAgain (choices : Choices) (source text : List ℕ) (draft : Draft) (d : Document) : Type 0 where
  pub head : List Piece
  pub body : List Piece
  pub is_head : IsHead head
  pub lexed : Lexed text [] (layout.pieces choices.page d) body
  pub cut : IsCut text (head ++ body)
  pub chunk : Chunk
  pub tree : IsChunk (toks_of (head ++ body)) chunk
  pub written : List (List ℕ)
  pub are_written : AreWritten choices.quote (toks_of (head ++ body)) (spellings_of text (head ++ body)) written
  pub same : draft_of choices written chunk ≡ draft
  pub chosen : Chooses (dropped_block (syntax_of chunk) []) (reread_whole is_short choices.page d) untold (shown is_short (layout.pieces choices.page d)) false true
  pub hash : hash_text text ≡ hash_text source

abbrev pub TwiceIsOnce : Type 0
TwiceIsOnce = (choices : Choices) (source text : List ℕ) (pieces : List Piece) (chunk : Chunk) (d : Document) → IsCut source pieces → (styled : IsStyled choices source pieces chunk d)
    → text ≡ hash_text source ++ layout choices.page d → Steps (draft_of choices styled.written chunk) begun free → HasWords (draft_of choices styled.written chunk)
    → IsReadAgain choices source text (draft_of choices styled.written chunk) d → IsFormatted choices text text
