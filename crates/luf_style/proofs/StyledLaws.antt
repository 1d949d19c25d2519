-- A source has one formatted text at most: one cut, one tree, one requoted spelling of each string, one filled draft.
use Rattle.std.proofs.Common.{◌≡◌, ℕ, List, [], ◌∷◌, ◌++◌, refl, sym, ap, ◌∙◌, subst}
use Rattle.luf_str.proofs.Unique.{one_requoted}
use Rattle.luf_lex.specs.Tokens.{toks_of}
use Rattle.luf_lex.specs.declared.token.Piece.{Piece}
use Rattle.luf_lex.specs.declared.token.Tok.{Tok}
use Rattle.luf_lex.proofs.OneCut.{one_cut}
use Rattle.luf_tree.specs.declared.tree.Chunk.{Chunk}
use Rattle.luf_tree.specs.Grammar.{IsChunk}
use Rattle.luf_tree.specs.SyntaxOf.{syntax_of}
use Rattle.luf_parse.proofs.OneTree.{one_tree}
use Rattle.luf_bare.specs.Dropped.{dropped_block}
use Rattle.luf_doc.specs.Document.{Document}
use Rattle.luf_doc.specs.Layout.{layout}
use Rattle.luf_draft.specs.Form.{main, written_program}
use Rattle.luf_gaps.specs.Gaps.{gaps}
use Rattle.luf_style.specs.Filled.{IsFilled}
use Rattle.luf_style.specs.Styled.{Choices, AreWritten, nothing, requoted, kept, IsStyled, IsFormatted, hash_text}
use Rattle.luf_style.proofs.FilledLaws.{one_filled}

pub one_written : (quote : List ℕ → ℕ) {toks : List Tok} {spellings all_written other : List (List ℕ)} → AreWritten quote toks spellings all_written
    → AreWritten quote toks spellings other → all_written ≡ other
one_written quote nothing nothing = refl
one_written quote (requoted {spelling} {written = first} r more) (requoted {written = second} s rest) =
    let same : first ≡ second = one_requoted spelling (quote spelling) first second r s in
    let later = one_written quote more rest in
    λ i. same i ∷ later i
one_written quote (requoted r more) (kept other rest) = absurd (other refl)
one_written quote (kept other more) (requoted r rest) = absurd (other refl)
one_written quote (kept {spelling} h more) (kept k rest) = ap (λ ss. spelling ∷ ss) (one_written quote more rest)

module _ (choices : Choices) (source : List ℕ) where
  pub one_styled : (pieces : List Piece) (chunk : Chunk) (d e : Document) → IsStyled choices source pieces chunk d → IsStyled choices source pieces chunk e → d ≡ e
  one_styled pieces chunk d e a b =
      let same : a.written ≡ b.written = one_written choices.quote a.are_written b.are_written in
      let one = one_filled
      (subst (λ (w : List (List ℕ)). IsFilled [] [] (main choices.string_has choices.table_has (written_program w chunk)) (gaps source pieces (dropped_block (syntax_of chunk) [])) [] d) same a.filled)
      b.filled in
      one.same

  -- a text by these pieces and this tree
  record By (pieces : List Piece) (chunk : Chunk) (text : List ℕ) : Type 0 where
    document : Document
    styled : IsStyled choices source pieces chunk document
    is : text ≡ hash_text source ++ layout choices.page document

  one_by : (pieces : List Piece) (chunk : Chunk) (text other : List ℕ) → By pieces chunk text → By pieces chunk other → text ≡ other
  one_by pieces chunk text other a b =
      a.is ∙ ap (λ d. hash_text source ++ layout choices.page d) (one_styled pieces chunk a.document b.document a.styled b.styled) ∙ sym b.is

  pub one_formatted : (text other : List ℕ) → IsFormatted choices source text → IsFormatted choices source other → text ≡ other
  one_formatted text other a b =
      let pieces : a.pieces ≡ b.pieces = one_cut source a.pieces b.pieces a.cut b.cut in
      let chunk : a.chunk ≡ b.chunk = one_tree (toks_of b.pieces) a.chunk b.chunk (subst (λ (ps : List Piece). IsChunk (toks_of ps) a.chunk) pieces a.tree) b.tree in
      let first : By a.pieces a.chunk text = record { document = a.document; styled = a.styled; is = a.is } in
      one_by b.pieces b.chunk text other (subst (λ (c : Chunk). By b.pieces c text) chunk (subst (λ (ps : List Piece). By ps a.chunk text) pieces first))
      (record { document = b.document; styled = b.styled; is = b.is })
