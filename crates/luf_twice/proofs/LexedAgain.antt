-- A formatted text is cut where its layout has its pieces, behind the `#` line of its source; and its draft has its words.
use Rattle.std.proofs.Common.{◌≡◌, ℕ, ◌+◌, inl, inr, true, List, [], ◌∷◌, ◌++◌, length, drop, refl, sym, ap, ◌∙◌, subst, arith}
use Rattle.std.specs.Prelude.{map}
use Rattle.luf_quote.specs.Parens.{keeps_round_string, keeps_round_table}
use Rattle.luf_conf.specs.declared.settings.Options.{Options}
use Rattle.luf_lex.specs.Cut.{IsCut}
use Rattle.luf_lex.specs.Tokens.{toks_of, spellings_of}
use Rattle.luf_lex.specs.declared.token.Piece.{Piece}
use Rattle.luf_lex.specs.declared.token.Tok.{Tok}
use Rattle.luf_guard.specs.Space.{IsTokenSpelling}
use Rattle.luf_guard.proofs.Before.{spelled_some}
use Rattle.luf_neat.specs.Pieces.{Bit, joined, pieces_at}
use Rattle.luf_bare.specs.ReadBack.{token_of}
use Rattle.luf_doc.specs.declared.page.Page.{Page}
use Rattle.luf_doc.specs.Document.{Document}
use Rattle.luf_doc.specs.Layout as layout
use Rattle.luf_doc.specs.Layout.{has_bytes}
use Rattle.luf_draft.specs.Draft.{Draft, Drafts, word, opening, trail, nest, group, sequence, nothing, also}
use Rattle.luf_style.specs.Styled.{IsFormatted, choices_of, hash_text}
use Rattle.luf_kept.specs.inner.LaidWords.{AreSpellings, AllSpellings, words_of}
use Rattle.luf_kept.specs.inner.Steps.{Steps, begun, free}
use Rattle.luf_kept.proofs.KeptLaws as kept
use Rattle.luf_kept.proofs.LayAgain as lay
use Rattle.luf_kept.proofs.LayAgain.{LaidAgain, source_hash}
use Rattle.luf_kept.proofs.LayRows.{Shows, no_bits, word_bit, note_bit, space_bit, line_bit, empty_bit, blank_bit, no_blank}
use Rattle.luf_kept.proofs.LayTokens.{taken_spelled, tokens_spelled}
use Rattle.luf_kept.proofs.LayWords.{laid_takes}
use Rattle.luf_kept.proofs.NeatComments.{drop_front, take_front}
use Rattle.luf_kept.proofs.SnugChunk.{chunk_steps}
use Rattle.luf_again.specs.Lexed.{Lexed, IsHead, no_head, hash_line}
use Rattle.luf_again.specs.Lexed as lexed
use Rattle.luf_twice.specs.Ready.{HasWords, AllHaveWords}
use Rattle.luf_twice.specs.Twice.{draft_of}

-- ---- the cut

-- the bits of a layout, at their places in a text
pub lexed_at : (text : List ℕ) (at : ℕ) {ps : List layout.Piece} {bits : List Bit} → Shows ps bits → drop at text ≡ joined bits → Lexed text [] ps (pieces_at at bits)
lexed_at text at no_bits e = lexed.none
lexed_at text at (word_bit {bits} t bytes is) e = lexed.a_word bytes _ _ _ refl (lexed_at text (at + length bytes) is (drop_front text bytes (joined bits) at e))
lexed_at text at (note_bit {bits} bytes is) e =
    lexed.a_note bytes _ _ _ refl (take_front text bytes (joined bits) at e) (lexed_at text (at + length bytes) is (drop_front text bytes (joined bits) at e))
lexed_at text at (space_bit {bits} bytes is) e = lexed.a_space _ _ _ refl (lexed_at text (at + length bytes) is (drop_front text bytes (joined bits) at e))
lexed_at text at (line_bit {bits} bytes is) e = lexed.a_line_end _ _ _ refl (lexed_at text (at + length bytes) is (drop_front text bytes (joined bits) at e))
lexed_at text at (empty_bit {bits} bytes is) e = lexed.an_empty_line _ _ _ refl (lexed_at text (at + length bytes) is (drop_front text bytes (joined bits) at e))
lexed_at text at (blank_bit {bits} level bytes is) e = lexed.indented level _ _ _ refl (lexed_at text (at + length bytes) is (drop_front text bytes (joined bits) at e))
lexed_at text at (no_blank level is) e = lexed.not_indented level _ _ (lexed_at text at is e)

is_head : (head : List Piece) → lay.IsHead head → IsHead head
is_head head (inl none) = subst IsHead (sym none) no_head
is_head head (inr some) = subst IsHead (sym some.2) (hash_line some.0 some.1 some.3 some.4)

-- The cut of a text: a head, and the pieces of the layout with these tokens. It has the `#` line of the source.
pub record LexedAgain (source text : List ℕ) (toks : List Tok) (page : Page) (doc : Document) : Type 0 where
  pub head : List Piece
  pub body : List Piece
  pub is_head : IsHead head
  pub lexed : Lexed text [] (layout.pieces page doc) body
  pub cut : IsCut text (head ++ body)
  pub toks_are : toks_of (head ++ body) ≡ toks
  pub spellings_are : spellings_of text (head ++ body) ≡ words_of (layout.pieces page doc)
  pub hash : hash_text text ≡ hash_text source

pub lexed_again : (source : List ℕ) (pieces : List Piece) (toks : List Tok) (page : Page) (doc : Document) (text : List ℕ) → IsCut source pieces → LaidAgain source pieces toks page doc text
    → LexedAgain source text toks page doc
lexed_again source pieces toks page doc text cut laid = record {
  head = laid.head;
  body = pieces_at laid.at laid.bits;
  is_head = is_head laid.head laid.is_head;
  lexed = lexed_at text laid.at laid.shows laid.behind_head;
  cut = subst (λ (ps : List Piece). IsCut text ps) laid.others_are laid.again.cut;
  toks_are = ap toks_of (sym laid.others_are) ∙ laid.again.toks_are;
  spellings_are = ap (spellings_of text) (sym laid.others_are) ∙ laid.again.spellings_are;
  hash = sym (source_hash text laid.again.others laid.again.cut) ∙ laid.again.hash ∙ source_hash source pieces cut;
}

-- ---- the words of a draft

spelling_has : (bytes : List ℕ) → IsTokenSpelling bytes → has_bytes bytes ≡ true
spelling_has [] is = let some = spelled_some is.0 [] is.1 in absurd (omega (arith, some))
spelling_has (b ∷ bytes) is = refl

-- a token has bytes
mutual
  pub has_words : (d : Draft) → AreSpellings d → HasWords d
  has_words (word bytes) is = spelling_has bytes is
  has_words (opening gap) is = tt
  has_words trail is = tt
  has_words (nest inner) is = has_words inner is
  has_words (group inner) is = has_words inner is
  has_words (sequence items) is = all_have items is

  all_have : (items : Drafts) → AllSpellings items → AllHaveWords items
  all_have nothing are = tt
  all_have (also first rest) are = (has_words first are.0, all_have rest are.1)

-- ---- of a formatted text

module _ (o : Options) (source text : List ℕ) (f : IsFormatted (choices_of o) source text) where
  abbrev draft : Draft
  draft = draft_of (choices_of o) f.styled.written f.chunk

  pub formatted_lexed : LexedAgain source text (map token_of (kept.text_words o source text f)) (choices_of o).page f.document
  formatted_lexed = lexed_again source f.pieces (map token_of (kept.text_words o source text f)) (choices_of o).page f.document text f.cut (kept.laid o source text f)

  pub formatted_steps : Steps draft begun free
  formatted_steps = chunk_steps (toks_of f.pieces) f.chunk f.tree f.styled.written (keeps_round_string o.calls) (keeps_round_table o.calls)

  pub formatted_has : HasWords draft
  formatted_has =
      has_words draft (taken_spelled draft (kept.words o source text f) [] (laid_takes (choices_of o).page f.styled.filled)
      (tokens_spelled (map token_of (kept.text_words o source text f)) (kept.words o source text f) (kept.spelled o source text f))).0
