-- What is formatted twice is formatted once.
use Rattle.std.proofs.Common.{ℕ, Bool, true, false, cond, None, List, [], ◌∷◌, ◌++◌, codes, refl, sym, ◌∙◌, subst}
use Rattle.luf_doc.specs.Document.{Document}
use Rattle.luf_lex.specs.Cut.{IsCut}
use Rattle.luf_lex.specs.declared.token.Piece.{Piece}
use Rattle.luf_tree.specs.declared.tree.Chunk.{Chunk}
use Rattle.luf_tree.specs.Syntax as syntax
use Rattle.luf_tree.specs.SyntaxOf.{syntax_of}
use Rattle.luf_bare.specs.Dropped.{dropped_block}
use Rattle.luf_draft.specs.Draft.{Draft, Drafts, word, nothing, also, drafts, before_statement, source_ends}
use Rattle.luf_draft.specs.Form.{Words, main, written_program, statements, guarded, statement, opens, first_word}
use Rattle.luf_gaps.specs.Gaps.{is_short, gaps}
use Rattle.luf_gaps.specs.declared.notes.GapNotes.{GapNotes}
use Rattle.luf_style.specs.Filled.{IsFilled}
use Rattle.luf_style.specs.Styled.{Choices, IsStyled}
use Rattle.luf_kept.specs.inner.Steps.{Steps, begun, free}
use Rattle.luf_again.specs.Reread.{reread_whole}
use Rattle.luf_again.proofs.SameLayout.{same_bytes}
use Rattle.luf_twice.specs.Ready.{HasWords, OpensFirst, EndsHard, LastEndsHard, IsReady}
use Rattle.luf_twice.specs.Twice.{draft_of, TwiceIsOnce}
use Rattle.luf_twice.proofs.FilledAgain.{filled_again}
use Rattle.luf_twice.proofs.GapsAgain.{gaps_again}
use Rattle.luf_twice.proofs.ReadyLaws.{document_is_ready}

-- ---- the draft of a program begins with a gap and ends with a Hard one

module _ (string_has table_has : Bool → Bool) where
  main_opens : (b : syntax.Block Words) → OpensFirst (main string_has table_has b)
  main_opens (syntax.block _ syntax.no_statements) = tt
  main_opens (syntax.block _ (syntax.more_statements s rest)) = tt

  one_more : (first : Draft) (ds : Drafts) → LastEndsHard ds → LastEndsHard (also first ds)
  one_more first nothing is = absurd is
  one_more first (also second rest) is = is

  guarded_ends : (b : Bool) (s : Draft) (more : List Draft) → LastEndsHard (drafts more) → LastEndsHard (drafts (cond b (word (codes ";") ∷ s ∷ more) (s ∷ more)))
  guarded_ends true s more is = one_more (word (codes ";")) (also s (drafts more)) (one_more s (drafts more) is)
  guarded_ends false s more is = one_more s (drafts more) is

  statements_end : (rest : syntax.Statements Words) → LastEndsHard (drafts (statements string_has table_has rest (source_ends ∷ [])))
  statements_end syntax.no_statements = refl
  statements_end (syntax.more_statements s rest) =
      one_more (before_statement false) (drafts (guarded (statement string_has table_has s) (statements string_has table_has rest (source_ends ∷ []))))
      (guarded_ends (opens (first_word (statement string_has table_has s) None)) (statement string_has table_has s) (statements string_has table_has rest (source_ends ∷ [])) (statements_end rest))

  main_ends : (b : syntax.Block Words) → EndsHard (main string_has table_has b)
  main_ends (syntax.block _ syntax.no_statements) = refl
  main_ends (syntax.block _ (syntax.more_statements s rest)) =
      one_more (before_statement true) (also (statement string_has table_has s) (drafts (statements string_has table_has rest (source_ends ∷ []))))
      (one_more (statement string_has table_has s) (drafts (statements string_has table_has rest (source_ends ∷ []))) (statements_end rest))

-- the document of a source has what its layout needs
pub styled_is_ready : (choices : Choices) (source : List ℕ) (pieces : List Piece) (chunk : Chunk) (d : Document) → IsCut source pieces → (styled : IsStyled choices source pieces chunk d)
    → Steps (draft_of choices styled.written chunk) begun free → HasWords (draft_of choices styled.written chunk) → IsReady d
styled_is_ready choices source pieces chunk d cut styled steps has =
    document_is_ready source pieces (dropped_block (syntax_of chunk) []) (draft_of choices styled.written chunk) d cut steps
    (main_opens choices.string_has choices.table_has (written_program styled.written chunk)) (main_ends choices.string_has choices.table_has (written_program styled.written chunk)) has styled.filled

pub twice_is_once : TwiceIsOnce
twice_is_once choices source text pieces chunk d cut styled is steps has again = record {
  pieces = again.head ++ again.body;
  chunk = again.chunk;
  cut = again.cut;
  tree = again.tree;
  document = reread_whole is_short choices.page d;
  styled = record { written = again.written; are_written = again.are_written; filled = filled };
  is = is ∙ (λ i. sym again.hash i ++ sym (same_bytes is_short choices.page d ready.formed) i);
}
  where
    ready : IsReady d
    ready = styled_is_ready choices source pieces chunk d cut styled steps has

    filled : IsFilled [] [] (draft_of choices again.written again.chunk) (gaps text (again.head ++ again.body) (dropped_block (syntax_of again.chunk) [])) [] (reread_whole is_short choices.page d)
    filled = subst (λ (x : Draft). IsFilled [] [] x (gaps text (again.head ++ again.body) (dropped_block (syntax_of again.chunk) [])) [] (reread_whole is_short choices.page d)) (sym again.same)
        (subst (λ (g : List GapNotes). IsFilled [] [] (draft_of choices styled.written chunk) g [] (reread_whole is_short choices.page d))
        (sym (gaps_again choices.page d text again.head again.body (dropped_block (syntax_of again.chunk) []) ready.formed ready.apart ready.closed ready.trimmed again.is_head again.lexed again.chosen))
        (filled_again is_short choices.page (draft_of choices styled.written chunk) (gaps source pieces (dropped_block (syntax_of chunk) [])) [] d ready.formed styled.filled))
