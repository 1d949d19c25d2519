-- The formatted text of a source without scope faults is the same program, with the same comments.
use Rattle.std.proofs.Common.{◌≡◌, ℕ, ◌≤◌, Some, None, List, [], ◌∷◌, slice_get, get_or, length, map, sym, ap, subst, ◌∙◌, zero-add, arith}
use Rattle.std.specs.Prelude.{unwrap_or}
use Rattle.std.proofs.lemmas.List.{length-map}
use Rattle.std.proofs.lemmas.Option.{slice_get_within, slice_get-get_or}
use Rattle.luf_quote.specs.Parens.{keeps_round_string, keeps_round_table}
use Rattle.luf_conf.specs.declared.settings.Options.{Options}
use Rattle.luf_lex.specs.Spelling.{Spells}
use Rattle.luf_lex.specs.Tokens.{toks_of, spellings_of}
use Rattle.luf_lex.specs.declared.token.Tok.{Tok}
use Rattle.luf_lex.specs.declared.token.Tok.TheVariants.{Name}
use Rattle.luf_lex.specs.declared.token.Kind.TheVariants.{Token}
use Rattle.luf_tree.specs.Grammar.{At, IsChunk}
use Rattle.luf_tree.specs.Level.{level_limit, depth_of}
use Rattle.luf_tree.specs.SyntaxOf.{syntax_of}
use Rattle.luf_tree.proofs.TokenLaws.{chunk_no_hash, bracket_no_equal}
use Rattle.luf_bare.specs.Dropped.{dropped_block}
use Rattle.luf_bare.specs.ReadBack.{SpelledToken, TextWord, token_of, spelled_at, word_at, significant_words, IsReadBack}
use Rattle.luf_bare.proofs.ReadBackLaws.{depth_alike}
use Rattle.luf_scope.specs.Fault.{scope_fault}
use Rattle.luf_scope.specs.Links.{spelling_in, occurrences_of}
use Rattle.luf_scope.specs.Local.{Spelling}
use Rattle.luf_resolved.specs.Resolved.{resolved}
use Rattle.luf_resolved.specs.Source.{IsSource, scope_fault_of}
use Rattle.luf_resolved.proofs.ResolvedAlike.{written_resolves_alike}
use Rattle.luf_resolved.proofs.WrittenFaults.{written_has_no_fault}
use Rattle.luf_min.specs.Minified.{spelled_tokens, spellings}
use Rattle.luf_min.proofs.Same.{words_at, read_tokens, spelled_words}
use Rattle.luf_min.proofs.SpelledTokens.{length_spelled, tokens_of_spelled}
use Rattle.luf_min.proofs.TextAgain.{TextAgain, length_spellings}
use Rattle.luf_min.proofs.TokensCut.{Spelled}
use Rattle.luf_doc.specs.Layout.{pieces as laid_pieces}
use Rattle.luf_draft.specs.Draft.{Draft}
use Rattle.luf_draft.specs.Form.{main, written_program}
use Rattle.luf_gaps.specs.Gaps.{trimmed}
use Rattle.luf_style.specs.Styled.{IsFormatted, choices_of}
use Rattle.luf_style.proofs.WrittenLaws.{token_spelled, tokens_written, as_many_written, names_written, values_written, quote_in_is_quote}
use Rattle.luf_kept.specs.Kept.{IsKept, spelled_so, comments_in}
use Rattle.luf_kept.specs.inner.DraftText.{IsWritten, AreTokens, DraftText}
use Rattle.luf_kept.specs.inner.LaidWords.{words_of}
use Rattle.luf_kept.proofs.GapComments.{gap_comments}
use Rattle.luf_kept.proofs.LayAgain.{LaidAgain, laid_again}
use Rattle.luf_kept.proofs.LayNotes.{laid_gap_notes}
use Rattle.luf_kept.proofs.LayWords.{laid_takes}
use Rattle.luf_kept.proofs.NotesOfGaps.{gaps_are_notes}
use Rattle.luf_kept.proofs.SameFaults.{same_faults}
use Rattle.luf_kept.proofs.SnugChunk.{chunk_steps}
use Rattle.luf_kept.proofs.TextOfDraft.{draft_is_text, all_bytes}

-- the words of a text, each spelled as its token
text_spelled : (text : List TextWord) → AreTokens text → Spelled (map token_of text) (spellings text)
text_spelled [] is = tt
text_spelled (w ∷ text) is = (is.0, text_spelled text is.1)

module _ (o : Options) (source text : List ℕ) (f : IsFormatted (choices_of o) source text) where
  abbrev pub toks : List Tok
  toks = toks_of f.pieces

  abbrev pub told : Spelling
  told = spelled_so f.styled.written

  abbrev pub source_words : List SpelledToken
  source_words = spelled_tokens told 0 toks

  abbrev pub words : List (List ℕ)
  words = words_of (laid_pieces (choices_of o).page f.document)

  as_many : length (spellings_of source f.pieces) ≡ length toks
  as_many = length_spellings source f.pieces

  source_spelled : (i : ℕ) (t : Tok) → slice_get toks i ≡ Some t → Spells (Token t) (get_or (spellings_of source f.pieces) i [])
  source_spelled i t there =
      let here = slice_get-get_or (spellings_of source f.pieces) i [] (omega (arith, as_many, slice_get_within toks i t there)) in
      token_spelled source f.pieces f.cut i t (get_or (spellings_of source f.pieces) i []) (sym there) (sym here)

  pub is_written : IsWritten toks f.styled.written
  is_written = record {
    spelled = tokens_written (choices_of o).quote (quote_in_is_quote o.quotes) toks (spellings_of source f.pieces) f.styled.written f.styled.are_written source_spelled;
    as_many = as_many_written f.styled.are_written;
  }

  -- the draft that is filled
  abbrev pub filled_draft : Draft
  filled_draft = main (keeps_round_string o.calls) (keeps_round_table o.calls) (written_program f.styled.written f.chunk)

  pub draft_text : DraftText toks f.styled.written (keeps_round_string o.calls) (keeps_round_table o.calls) f.chunk filled_draft words (laid_takes (choices_of o).page f.styled.filled)
  draft_text = draft_is_text toks f.styled.written (keeps_round_string o.calls) (keeps_round_table o.calls) f.chunk f.tree is_written words (laid_takes (choices_of o).page f.styled.filled)

  abbrev pub text_words : List TextWord
  text_words = draft_text.text

  abbrev pub back : IsReadBack source_words f.chunk text_words
  back = draft_text.back

  pub spelled : Spelled (map token_of text_words) words
  spelled = subst (λ (ws : List (List ℕ)). Spelled (map token_of text_words) ws) draft_text.words_are (text_spelled text_words draft_text.spelled)

  pub laid : LaidAgain source f.pieces (map token_of text_words) (choices_of o).page f.document text
  laid = subst (λ t. LaidAgain source f.pieces (map token_of text_words) (choices_of o).page f.document t) (sym f.is)
      (laid_again source f.pieces (choices_of o).page (map token_of text_words) f.cut f.styled.filled
      (chunk_steps toks f.chunk f.tree f.styled.written (keeps_round_string o.calls) (keeps_round_table o.calls))
      (gaps_are_notes source f.pieces (dropped_block (syntax_of f.chunk) []) f.cut) spelled
      (bracket_no_equal (map token_of text_words) back.read.tree back.read.is_tree) (chunk_no_hash (map token_of text_words) back.read.tree back.read.is_tree))

  abbrev pub again : TextAgain source f.pieces (map token_of text_words) words text
  again = laid.again

  comments_same : comments_in text again.others ≡ map trimmed (comments_in source f.pieces)
  comments_same = laid.comments_are ∙ laid_gap_notes (choices_of o).page f.styled.filled ∙ gap_comments source f.pieces (dropped_block (syntax_of f.chunk) [])

  read_so : (i : ℕ) → spelling_in text again.others i ≡ (word_at text_words i).spelled.spelling
  read_so i = ap (λ ss. unwrap_or (slice_get ss i) []) (again.spellings_are ∙ sym draft_text.words_are) ∙ words_at text_words i

  pub named_so : (i : ℕ) → (spelled_at source_words i).spelling ≡ told i
  named_so i = all_bytes toks f.styled.written is_written i

  derived : IsChunk (map (λ (w : SpelledToken). w.token) source_words) f.chunk
  derived = subst (λ (ts : List Tok). IsChunk ts f.chunk) (sym (tokens_of_spelled told 0 toks)) f.tree

  module _ (levels : depth_of f.chunk ≤ level_limit) where
    source_read : IsSource text again.others back.read.tree
    source_read = record {
      cut = again.cut;
      tree = subst (λ (ts : List Tok). IsChunk ts back.read.tree) (sym again.toks_are) back.read.is_tree;
      levels = subst (λ d. d ≤ level_limit) (sym (depth_alike source_words f.chunk text_words back.read)) levels;
    }

  token_read : (i : ℕ) → spelled_at (spelled_tokens (spelling_in text again.others) 0 (toks_of again.others)) i ≡ (word_at text_words i).spelled
  token_read i =
      ap (λ (ts : List Tok). spelled_at (spelled_tokens (spelling_in text again.others) 0 ts) i) again.toks_are
      ∙ ap (λ (ws : List SpelledToken). spelled_at ws i) (read_tokens (spelling_in text again.others) 0 text_words (λ k within. ap (spelling_in text again.others) (zero-add k) ∙ read_so k))
      ∙ spelled_words text_words i

  significant_same : significant_words (spelled_at (spelled_tokens (spelling_in text again.others) 0 (toks_of again.others))) (length (toks_of again.others)) back.read.tree
      ≡ significant_words (spelled_at source_words) (length toks) f.chunk
  significant_same =
      let many : length (toks_of again.others) ≡ length text_words = ap length again.toks_are ∙ length-map text_words token_of in
      (λ j. significant_words (λ i. token_read i j) (many j) back.read.tree) ∙ back.significant
      ∙ ap (λ n. significant_words (spelled_at source_words) n f.chunk) (length_spelled told 0 toks)

  names_same : (i : ℕ) → At toks i Name → spelling_in source f.pieces i ≡ told i
  names_same i there =
      let here = slice_get-get_or (spellings_of source f.pieces) i [] (omega (arith, as_many, slice_get_within toks i Name there)) in
      ap (λ o. unwrap_or o []) here ∙ names_written f.styled.are_written i there

  no_fault_read : scope_fault_of source f.pieces f.chunk ≡ None → scope_fault_of text again.others back.read.tree ≡ None
  no_fault_read none =
      (λ j. scope_fault (λ i. read_so i j) (occurrences_of back.read.tree))
      ∙ written_has_no_fault source_words f.chunk text_words derived back
      ((λ j. scope_fault (λ i. named_so i j) (occurrences_of f.chunk)) ∙ sym (same_faults toks (spelling_in source f.pieces) told names_same f.chunk f.tree) ∙ none)

  same_read : resolved (spelling_in text again.others) (syntax_of back.read.tree) ≡ resolved told (syntax_of f.chunk)
  same_read =
      (λ j. resolved (λ i. read_so i j) (syntax_of back.read.tree)) ∙ written_resolves_alike source_words f.chunk text_words derived back
      ∙ (λ j. resolved (λ i. named_so i j) (syntax_of f.chunk))

  pub is_kept : depth_of f.chunk ≤ level_limit → scope_fault_of source f.pieces f.chunk ≡ None → IsKept o source text
  is_kept levels none = record {
    pieces = f.pieces;
    chunk = f.chunk;
    is = record { cut = f.cut; tree = f.tree; levels = levels };
    written = f.styled.written;
    are_written = f.styled.are_written;
    values = values_written (choices_of o).quote (quote_in_is_quote o.quotes) toks (spellings_of source f.pieces) f.styled.written f.styled.are_written;
    others = again.others;
    other = back.read.tree;
    read = source_read levels;
    no_fault = no_fault_read none;
    same = same_read;
    significant = significant_same;
    hash = again.hash;
    comments = comments_same;
  }
