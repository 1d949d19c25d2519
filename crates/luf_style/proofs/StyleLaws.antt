-- A document that is filled from what is written of the tokens of a source is its document.
use Rattle.std.proofs.Common.{◌≡◌, ℕ, ◌<◌, ◌^◌, List, [], length, map, ap, sym, ◌∙◌, subst}
use Rattle.luf_quote.specs.Parens.{keeps_round_string, keeps_round_table}
use Rattle.luf_conf.specs.declared.settings.Options.{Options}
use Rattle.luf_lex.specs.Cut.{IsCut}
use Rattle.luf_lex.specs.Tokens.{toks_of, spellings_of}
use Rattle.luf_lex.specs.declared.token.Piece.{Piece}
use Rattle.luf_tree.specs.declared.tree.Chunk.{Chunk}
use Rattle.luf_tree.specs.Grammar.{IsChunk}
use Rattle.luf_tree.specs.SyntaxOf.{syntax_of}
use Rattle.luf_bare.specs.Dropped.{dropped_block}
use Rattle.luf_doc.specs.Document.{Document}
use Rattle.luf_doc.specs.Table.{node_count}
use Rattle.luf_draft.specs.Draft.{Draft}
use Rattle.luf_draft.specs.Flat.{AreAlike, flat, shown}
use Rattle.luf_draft.specs.Form.{main, written_program}
use Rattle.luf_draft.specs.Openings.{openings}
use Rattle.luf_draft.specs.declared.mark.Mark.{Mark}
use Rattle.luf_gaps.specs.Gaps.{gaps}
use Rattle.luf_gaps.specs.declared.notes.GapNotes.{GapNotes}
use Rattle.luf_style.specs.Filled.{IsFilled}
use Rattle.luf_style.specs.Styled.{AreWritten, IsStyled, choices_of}
use Rattle.luf_style.specs.inner.Written.{quote_in}
use Rattle.luf_style.proofs.EnoughGaps.{enough_gaps}
use Rattle.luf_style.proofs.NodeLaws.{few_nodes}
use Rattle.luf_style.proofs.WrittenLaws.{written_alike}

module _ (source : List ℕ) (pieces : List Piece) (chunk : Chunk) (options : Options) (cut : IsCut source pieces) (tree : IsChunk (toks_of pieces) chunk) where
  pub is_styled : (written given : List (List ℕ)) (marks lent : List Mark) (notes : List GapNotes) (d : Document) → AreWritten (quote_in options.quotes) (toks_of pieces) (spellings_of source pieces) written
      → given ≡ written → lent ≡ marks
      → ((others : List (List ℕ)) → AreAlike (toks_of pieces) others → map (shown others) marks ≡ flat (main (keeps_round_string options.calls) (keeps_round_table options.calls) (written_program others chunk)))
      → notes ≡ gaps source pieces (dropped_block (syntax_of chunk) [])
      → ((draft : Draft) → map (shown given) lent ≡ flat draft → length notes ≡ openings draft → IsFilled [] [] draft notes [] d)
      → IsStyled (choices_of options) source pieces chunk d
  is_styled written given marks lent notes d are given_is lent_is marks_are notes_are filled =
      let draft = main (keeps_round_string options.calls) (keeps_round_table options.calls) (written_program written chunk) in
      let shown_so : map (shown given) lent ≡ flat draft = (λ i. map (shown (given_is i)) (lent_is i)) ∙ marks_are written (written_alike source pieces cut options.quotes written are) in
      let enough : length notes ≡ openings draft = ap length notes_are ∙ enough_gaps source pieces (keeps_round_string options.calls) (keeps_round_table options.calls) written chunk tree in
      record {
        written = written;
        are_written = are;
        filled = subst (λ (ns : List GapNotes). IsFilled [] [] draft ns [] d) notes_are (filled draft shown_so enough);
      }

  pub is_small : (written given : List (List ℕ)) (marks lent : List Mark) (notes : List GapNotes) (d : Document) → AreWritten (quote_in options.quotes) (toks_of pieces) (spellings_of source pieces) written
      → given ≡ written → lent ≡ marks
      → ((others : List (List ℕ)) → AreAlike (toks_of pieces) others → map (shown others) marks ≡ flat (main (keeps_round_string options.calls) (keeps_round_table options.calls) (written_program others chunk)))
      → notes ≡ gaps source pieces (dropped_block (syntax_of chunk) [])
      → ((draft : Draft) → map (shown given) lent ≡ flat draft → length notes ≡ openings draft → IsFilled [] [] draft notes [] d)
      → length marks < 2 ^ 32 → node_count d < 2 ^ 32
  is_small written given marks lent notes d are given_is lent_is marks_are notes_are filled few =
      let draft = main (keeps_round_string options.calls) (keeps_round_table options.calls) (written_program written chunk) in
      let shown_so : map (shown given) lent ≡ flat draft = (λ i. map (shown (given_is i)) (lent_is i)) ∙ marks_are written (written_alike source pieces cut options.quotes written are) in
      let enough : length notes ≡ openings draft = ap length notes_are ∙ enough_gaps source pieces (keeps_round_string options.calls) (keeps_round_table options.calls) written chunk tree in
      few_nodes given lent draft shown_so (filled draft shown_so enough) (subst (λ (ms : List Mark). length ms < 2 ^ 32) (sym lent_is) few)
