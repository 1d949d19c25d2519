-- What is laid straight from the marks of a source is the layout of its document.
use Rattle.std.proofs.Common.{◌≡◌, ℕ, ◌≤◌, List, [], ◌++◌, length, map, reverse, ap, ◌∙◌, subst}
use Rattle.luf_quote.specs.Parens.{keeps_round_string, keeps_round_table}
use Rattle.luf_conf.specs.declared.settings.Options.{Options}
use Rattle.luf_lex.specs.Cut.{IsCut}
use Rattle.luf_lex.specs.Tokens.{toks_of, spellings_of}
use Rattle.luf_lex.specs.declared.token.Piece.{Piece}
use Rattle.luf_tree.specs.declared.tree.Chunk.{Chunk}
use Rattle.luf_tree.specs.Grammar.{IsChunk}
use Rattle.luf_tree.specs.SyntaxOf.{syntax_of}
use Rattle.luf_bare.specs.Dropped.{dropped_block}
use Rattle.luf_doc.specs.declared.doc.Gap.{Gap}
use Rattle.luf_doc.specs.declared.page.Page.{Page}
use Rattle.luf_doc.specs.Document.{Document}
use Rattle.luf_doc.specs.Layout.{joined, layout, lay, outside}
use Rattle.luf_draft.specs.Flat.{AreAlike, Flat, flat, shown}
use Rattle.luf_draft.specs.Form.{main, written_program}
use Rattle.luf_draft.specs.Openings.{openings}
use Rattle.luf_draft.specs.declared.mark.Mark.{Mark}
use Rattle.luf_gaps.specs.Gaps.{gaps}
use Rattle.luf_gaps.specs.declared.notes.GapNotes.{GapNotes}
use Rattle.luf_style.specs.Filled.{IsFilled}
use Rattle.luf_style.specs.Styled.{AreWritten, IsStyled, choices_of}
use Rattle.luf_style.specs.inner.Measured.{measured, needs_of}
use Rattle.luf_style.specs.inner.Straight.{Place, run}
use Rattle.luf_style.specs.inner.Tape.{AreGaps, Tape, tape, with_gaps}
use Rattle.luf_style.specs.inner.Written.{quote_in}
use Rattle.luf_style.proofs.EnoughGaps.{enough_gaps}
use Rattle.luf_style.proofs.MeasuredLaws.{needs_of_whole}
use Rattle.luf_style.proofs.StraightLaws.{run_whole}
use Rattle.luf_style.proofs.TapeLaws.{with_document}
use Rattle.luf_style.proofs.WrittenLaws.{written_alike}

module _ (source : List ℕ) (pieces : List Piece) (chunk : Chunk) (options : Options) (cut : IsCut source pieces) (tree : IsChunk (toks_of pieces) chunk) where
  pub straight_written : (written given : List (List ℕ)) (marks lent : List Mark) (notes : List GapNotes) (filled : List Gap) (needs : List ℕ) (page : Page) (old new : List ℕ)
      → AreWritten (quote_in options.quotes) (toks_of pieces) (spellings_of source pieces) written
      → given ≡ written → lent ≡ marks
      → ((others : List (List ℕ)) → AreAlike (toks_of pieces) others → map (shown others) marks ≡ flat (main (keeps_round_string options.calls) (keeps_round_table options.calls) (written_program others chunk)))
      → notes ≡ gaps source pieces (dropped_block (syntax_of chunk) [])
      → AreGaps [] (map (shown given) lent) notes filled
      → needs ≡ (measured (with_gaps (map (shown given) lent) filled)).needs
      → page ≡ (choices_of options).page → page.width ≤ 10000
      → new ≡ old ++ joined page (reverse (run page (with_gaps (map (shown given) lent) filled) needs [] (record { mode = outside; level = 0 }) []))
      → (d : Document) × IsStyled (choices_of options) source pieces chunk d × (new ≡ old ++ layout (choices_of options).page d)
  straight_written written given marks lent notes filled needs page old new are given_is lent_is marks_are notes_are are_gaps needs_are page_is width new_is =
      let draft = main (keeps_round_string options.calls) (keeps_round_table options.calls) (written_program written chunk) in
      let flats : List Flat = map (shown given) lent in
      let shown_so : flats ≡ flat draft = (λ i. map (shown (given_is i)) (lent_is i)) ∙ marks_are written (written_alike source pieces cut options.quotes written are) in
      let enough : length notes ≡ openings draft = ap length notes_are ∙ enough_gaps source pieces (keeps_round_string options.calls) (keeps_round_table options.calls) written chunk tree in
      let found = with_document draft flats notes filled shown_so enough are_gaps in
      let d = found.document in
      let tape_is : with_gaps flats filled ≡ tape d [] = found.is in
      let needs_is : needs ≡ needs_of d 0 [] = needs_are ∙ ap (λ (t : List Tape). (measured t).needs) tape_is ∙ needs_of_whole d in
      let at : Place = record { mode = outside; level = 0 } in
      let laid : run page (with_gaps flats filled) needs [] at [] ≡ lay page outside 0 0 d [] = (λ i. run page (tape_is i) (needs_is i) [] at []) ∙ run_whole page width d in (
        d,
        record { written = written; are_written = are; filled = subst (λ (ns : List GapNotes). IsFilled [] [] draft ns [] d) notes_are found.filled },
        new_is ∙ ap (λ ps. old ++ joined page (reverse ps)) laid ∙ ap (λ (p : Page). old ++ layout p d) page_is,
      )
