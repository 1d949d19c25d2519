-- The formatted text of a source is read as the program that it was written of: it has a tree, whose draft is the same.
use Rattle.std.proofs.Common.{◌≡◌, ℕ, zero, suc, Bool, List, [], ◌∷◌, get_or, map, refl, sym, ap, subst, ◌∙◌}
use Rattle.luf_quote.specs.Parens.{keeps_round_string, keeps_round_table}
use Rattle.luf_quote.specs.declared.calls.CallStyle.{CallStyle}
use Rattle.luf_quote.specs.declared.calls.CallStyle.TheVariants as style
use Rattle.luf_conf.specs.declared.settings.Options.{Options}
use Rattle.luf_lex.specs.Cut.{IsCut}
use Rattle.luf_lex.specs.Tokens.{toks_of, spellings_of}
use Rattle.luf_lex.specs.declared.token.Piece.{Piece}
use Rattle.luf_lex.specs.declared.token.Tok.{Tok}
use Rattle.luf_lex.proofs.OneCut.{one_cut}
use Rattle.luf_tree.specs.declared.tree.Chunk.{Chunk}
use Rattle.luf_tree.specs.Grammar.{IsChunk}
use Rattle.luf_tree.specs.Syntax as syntax
use Rattle.luf_tree.specs.SyntaxMap.{ShapeMap, map_block}
use Rattle.luf_tree.specs.SyntaxOf.{syntax_of}
use Rattle.luf_tree.specs.TokenSyntax as tokens
use Rattle.luf_bare.specs.Bare.{Bare, words_of, as_here, chosen_block}
use Rattle.luf_bare.specs.Lone.{by_kind}
use Rattle.luf_bare.specs.ReadBack.{SpelledToken, TextWord, token_of, spelled_at, word_at, own_word}
use Rattle.luf_bare.proofs.BareMap.{block_after}
use Rattle.luf_min.specs.Minified.{spelled_tokens, spellings}
use Rattle.luf_draft.specs.Draft.{Draft}
use Rattle.luf_draft.specs.Form.{Words, main}
use Rattle.luf_style.specs.Styled.{Choices, AreWritten, IsFormatted, choices_of}
use Rattle.luf_kept.specs.inner.DraftText.{IsWritten, drafted_program}
use Rattle.luf_kept.proofs.KeptLaws.{draft_text, text_words, back, again, is_written}
use Rattle.luf_kept.proofs.TextOfDraft.{all_bytes}
use Rattle.luf_twice.specs.Twice.{draft_of}
use Rattle.luf_twice.proofs.SameDraft.{main_same}
use Rattle.luf_twice.proofs.WrittenAgain.{written_again}

-- a style that is given its own answer gives it again
string_again : (calls : CallStyle) (had : Bool) → keeps_round_string calls (keeps_round_string calls had) ≡ keeps_round_string calls had
string_again style.Always had = refl
string_again style.NoSingleString had = refl
string_again style.NoSingleTable had = refl
string_again style.None had = refl
string_again style.Input had = refl

table_again : (calls : CallStyle) (had : Bool) → keeps_round_table calls (keeps_round_table calls had) ≡ keeps_round_table calls had
table_again style.Always had = refl
table_again style.NoSingleString had = refl
table_again style.NoSingleTable had = refl
table_again style.None had = refl
table_again style.Input had = refl

-- ---- the programs by spellings

spelling_at : (text : List TextWord) (n : ℕ) → (word_at text n).spelled.spelling ≡ get_or (spellings text) n []
spelling_at [] n = refl
spelling_at (w ∷ text) zero = refl
spelling_at (w ∷ text) (suc n) = spelling_at text n

-- a word by its bytes
abbrev to_bytes : ShapeMap (Bare TextWord) Words
to_bytes = record { span = λ s. s; name = λ w. w.spelled.spelling; label = λ w. w.spelled.spelling; leaf = λ w. w.spelled.spelling }

-- the program of a chunk whose tokens are spelled so
abbrev program_words : (tokens.Expressions → Bool → Bool) → (ℕ → List ℕ) → Chunk → syntax.Block Words
program_words encloses says chunk = chosen_block (words_of says) encloses (syntax_of chunk)

module _ (o : Options) (toks : List Tok) (written : List (List ℕ)) (is : IsWritten toks written) (chunk : Chunk) (text : List TextWord) where
  abbrev source : List SpelledToken
  source = spelled_tokens (λ i. get_or written i []) 0 toks

  abbrev standing : tokens.Expressions → Bool → Bool
  standing = by_kind (keeps_round_string o.calls) (keeps_round_table o.calls)

  same_program : (tree : Chunk) → chosen_block (words_of (word_at text)) as_here (syntax_of tree) ≡ drafted_program toks written (keeps_round_string o.calls) (keeps_round_table o.calls) chunk
      → program_words as_here (λ n. get_or (spellings text) n []) tree ≡ program_words standing (λ n. get_or written n []) chunk
  same_program tree same =
      (λ i. program_words as_here (λ n. sym (spelling_at text n) i) tree)
      ∙ sym (block_after to_bytes (words_of (word_at text)) as_here (syntax_of tree))
      ∙ ap (map_block to_bytes) same
      ∙ block_after to_bytes (words_of (λ n. own_word (spelled_at source n))) standing (syntax_of chunk)
      ∙ (λ i. program_words standing (λ n. all_bytes toks written is n i) chunk)

  pub same_draft : (tree : Chunk) → chosen_block (words_of (word_at text)) as_here (syntax_of tree) ≡ drafted_program toks written (keeps_round_string o.calls) (keeps_round_table o.calls) chunk
      → draft_of (choices_of o) (spellings text) tree ≡ draft_of (choices_of o) written chunk
  same_draft tree same =
      ap (main (keeps_round_string o.calls) (keeps_round_table o.calls)) (same_program tree same)
      ∙ main_same (keeps_round_string o.calls) (keeps_round_table o.calls) (string_again o.calls) (table_again o.calls) (words_of (λ n. get_or written n [])) (syntax_of chunk)

-- ---- the text

-- its cut has this tree, and the draft of it is this
pub record ReadsAgain (choices : Choices) (text : List ℕ) (pieces : List Piece) (chunk : Chunk) (draft : Draft) : Type 0 where
  pub tree : IsChunk (toks_of pieces) chunk
  pub written : List (List ℕ)
  pub are_written : AreWritten choices.quote (toks_of pieces) (spellings_of text pieces) written
  pub same : draft_of choices written chunk ≡ draft

module _ (o : Options) (source text : List ℕ) (f : IsFormatted (choices_of o) source text) where
  own_cut : ReadsAgain (choices_of o) text (again o source text f).others (back o source text f).read.tree (draft_of (choices_of o) f.styled.written f.chunk)
  own_cut =
      let words : List TextWord = text_words o source text f in
      let cut = again o source text f in
      let read = (back o source text f).read in
      record {
        tree = subst (λ (ts : List Tok). IsChunk ts read.tree) (sym cut.toks_are) read.is_tree;
        written = spellings words;
        are_written =
            subst (λ (ts : List Tok). AreWritten (choices_of o).quote ts (spellings_of text cut.others) (spellings words)) (sym cut.toks_are)
            (subst (λ (ss : List (List ℕ)). AreWritten (choices_of o).quote (map token_of words) ss (spellings words)) ((draft_text o source text f).words_are ∙ sym cut.spellings_are)
            (written_again o.quotes (toks_of f.pieces) (spellings_of source f.pieces) f.styled.written f.styled.are_written (is_written o source text f) f.chunk words (back o source text f) (draft_text o source text f).wrote));
        same = same_draft o (toks_of f.pieces) f.styled.written (is_written o source text f) f.chunk words read.tree (draft_text o source text f).same;
      }

  -- each cut of the text is read so
  pub read_again : (pieces : List Piece) → IsCut text pieces
      → ReadsAgain (choices_of o) text pieces (back o source text f).read.tree (draft_of (choices_of o) f.styled.written f.chunk)
  read_again pieces cut =
      subst (λ (ps : List Piece). ReadsAgain (choices_of o) text ps (back o source text f).read.tree (draft_of (choices_of o) f.styled.written f.chunk))
      (one_cut text (again o source text f).others pieces (again o source text f).cut cut) own_cut
