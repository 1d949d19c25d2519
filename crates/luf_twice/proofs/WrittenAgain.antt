-- The tokens of a formatted text are written as they are spelled.
use Rattle.std.proofs.Common.{◌≡◌, ℕ, zero, suc, ◌+◌, ◌<◌, ◌⊎◌, inl, inr, true, false, ◌||◌, ne_eqb, Some, List, [], ◌∷◌, slice_get, get_or, length, map, refl, sym, ap, subst, ◌∙◌, arith, zero-add}
use Rattle.std.specs.Option.{option_map}
use Rattle.std.proofs.lemmas.List.{length-map}
use Rattle.std.proofs.lemmas.Option.{same_Some, slice_get-map}
use Rattle.luf_str.specs.Requote.{IsRequoted}
use Rattle.luf_quote.specs.declared.quotes.QuoteStyle.{QuoteStyle}
use Rattle.luf_lex.specs.declared.token.Tok.{Tok}
use Rattle.luf_lex.specs.declared.token.Tok.TheVariants.{Name, Short}
use Rattle.luf_tree.specs.declared.tree.Chunk.{Chunk}
use Rattle.luf_tree.specs.SyntaxOf.{syntax_of}
use Rattle.luf_tree.specs.Syntax as syntax
use Rattle.luf_bare.specs.Bare.{Bare}
use Rattle.luf_bare.specs.Dropped.{if_dropped, dropped_block}
use Rattle.luf_bare.specs.Rank.{rank}
use Rattle.luf_bare.specs.ReadBack.{SpelledToken, TextWord, token_of, is_added, spelled_at, word_at, own_word, additions, IsReadBack}
use Rattle.luf_bare.specs.Significant.{is_among, places_but, significant}
use Rattle.luf_bare.specs.Texts.{WritesBlock}
use Rattle.luf_bare.proofs.EachWritten.{each_at}
use Rattle.luf_resolved.proofs.Ranking.{Solid}
use Rattle.luf_resolved.proofs.RankOrder.{significant_at_rank}
use Rattle.luf_min.specs.Minified.{spelled_tokens, spellings}
use Rattle.luf_min.proofs.SpelledTokens.{tokens_of_spelled}
use Rattle.luf_style.specs.Styled.{AreWritten}
use Rattle.luf_style.specs.Styled as styled
use Rattle.luf_style.specs.inner.Written.{quote_in}
use Rattle.luf_kept.specs.inner.DraftText.{IsWritten}
use Rattle.luf_kept.proofs.TextOfDraft.{all_bytes}
use Rattle.luf_twice.proofs.RequotedAgain.{requoted_again}
use Rattle.luf_twice.proofs.ShortWords.{each_block}

-- ---- words that are not added are words of the source

all_later : (text : List TextWord) (n at : ℕ) → at < n → is_among at (additions is_added n text) ≡ false
all_later [] n at before = refl
all_later (w ∷ text) n at before =
    let rest = all_later text (n + 1) at (omega (arith, before)) in
    elim (is_added w) as (λ b. is_among at (if_dropped b n (additions is_added (n + 1) text)) ≡ false) [
      | true ↦ ap (λ b. b || is_among at (additions is_added (n + 1) text)) (ne_eqb at n (λ same. omega (arith, before, same))) ∙ rest
      | false ↦ rest
    ]

not_among : (text : List TextWord) (n i at : ℕ) → at ≡ n + i → is_added (word_at text i) ≡ false → is_among at (additions is_added n text) ≡ false
not_among [] n i at is own = refl
not_among (w ∷ text) n zero at is own =
    ap (λ b. is_among at (if_dropped b n (additions is_added (n + 1) text))) own ∙ all_later text (n + 1) at (omega (arith, is))
not_among (w ∷ text) n (suc i) at is own =
    let rest = not_among text (n + 1) i at (omega (arith, is)) own in
    elim (is_added w) as (λ b. is_among at (if_dropped b n (additions is_added (n + 1) text)) ≡ false) [
      | true ↦ ap (λ b. b || is_among at (additions is_added (n + 1) text)) (ne_eqb at n (λ same. omega (arith, is, same))) ∙ rest
      | false ↦ rest
    ]

from_map : {A B : Type 0} (f : A → B) (xs : List A) (i : ℕ) (y : B) → slice_get (map f xs) i ≡ Some y → (x : A) × (f x ≡ y)
from_map f [] i y is = absurd cc
from_map f (x ∷ xs) zero y is = (x, same_Some (f x) y is)
from_map f (x ∷ xs) (suc i) y is = from_map f xs i y is

own_at : (source : List SpelledToken) (chunk : Chunk) (text : List TextWord) → IsReadBack source chunk text → (i : ℕ) → i < length text → is_added (word_at text i) ≡ false
    → (j : ℕ) × (spelled_at source j ≡ (word_at text i).spelled)
own_at source chunk text back i within own =
    let all : List ℕ = dropped_block (syntax_of back.read.tree) [] in
    let says : ℕ → SpelledToken = λ k. (word_at text k).spelled in
    let solid : Solid (map token_of text) all i = record { kept = ap (is_among i) back.read.drops ∙ not_among text 0 i i (sym (zero-add i)) own; within = omega (arith, within, length-map text token_of) } in
    let at : slice_get (places_but all 0 (length text)) (rank all i) ≡ Some i = ap (λ n. slice_get (places_but all 0 n) (rank all i)) (sym (length-map text token_of)) ∙ significant_at_rank solid in
    from_map (spelled_at source) (significant (syntax_of chunk) (length source)) (rank all i) (says i)
    (ap (λ (ws : List SpelledToken). slice_get ws (rank all i)) (sym back.significant) ∙ slice_get-map says (places_but all 0 (length text)) (rank all i) ∙ ap (option_map says) at)

-- ---- short strings

token_there : (ws : List SpelledToken) (j : ℕ) → (spelled_at ws j).token ≡ Short → slice_get (map (λ (w : SpelledToken). w.token) ws) j ≡ Some Short
token_there [] j is = absurd cc
token_there (w ∷ ws) zero is = ap Some is
token_there (w ∷ ws) (suc j) is = token_there ws j is

requoted_at : {quote : List ℕ → ℕ} {toks : List Tok} {ss written : List (List ℕ)} → AreWritten quote toks ss written → (j : ℕ) → slice_get toks j ≡ Some Short
    → (s : List ℕ) × IsRequoted s (quote s) (get_or written j [])
requoted_at styled.nothing j there = absurd cc
requoted_at (styled.requoted {spelling} is rest) zero there = (spelling, is)
requoted_at (styled.requoted is rest) (suc j) there = requoted_at rest j there
requoted_at (styled.kept {t} other rest) zero there = absurd (other (same_Some t Short there))
requoted_at (styled.kept other rest) (suc j) there = requoted_at rest j there

short_or_not : (t : Tok) → (t ≡ Short) ⊎ (t ≡ Short → ⊥)
short_or_not Short = inl refl
short_or_not _ = inr (λ e. absurd cc)

-- ---- all words, where each short string stands as it is requoted

module _ (style : QuoteStyle) where
  abbrev Stays : TextWord → Type 0
  Stays w = token_of w ≡ Short → IsRequoted w.spelled.spelling (quote_in style w.spelled.spelling) w.spelled.spelling

  one_stays : (w : TextWord) (toks : List Tok) (ss : List (List ℕ)) → Stays w → (token_of w ≡ Short) ⊎ (token_of w ≡ Short → ⊥) → AreWritten (quote_in style) toks ss ss
      → AreWritten (quote_in style) (token_of w ∷ toks) (w.spelled.spelling ∷ ss) (w.spelled.spelling ∷ ss)
  one_stays w toks ss stays (inl short) rest =
      subst (λ t. AreWritten (quote_in style) (t ∷ toks) (w.spelled.spelling ∷ ss) (w.spelled.spelling ∷ ss)) (sym short) (styled.requoted (stays short) rest)
  one_stays w toks ss stays (inr other) rest = styled.kept other rest

  all_stay : (text : List TextWord) → ((i : ℕ) → i < length text → Stays (word_at text i)) → AreWritten (quote_in style) (map token_of text) (spellings text) (spellings text)
  all_stay [] each = styled.nothing
  all_stay (w ∷ text) each = one_stays w (map token_of text) (spellings text) (each 0 (omega arith)) (short_or_not (token_of w)) (all_stay text (λ i within. each (suc i) (omega (arith, within))))

  module _ (toks : List Tok) (ss written : List (List ℕ)) (are : AreWritten (quote_in style) toks ss written) (is : IsWritten toks written) where
    abbrev source : List SpelledToken
    source = spelled_tokens (λ i. get_or written i []) 0 toks

    word_stays : {b : syntax.Block (Bare TextWord)} (chunk : Chunk) (text : List TextWord) → IsReadBack source chunk text → WritesBlock token_of is_added b text → (i : ℕ) → i < length text → Stays (word_at text i)
    word_stays chunk text back wrote i within short =
        let own : is_added (word_at text i) ≡ false = each_at (each_block token_of is_added wrote) (own_word (record { token = Name; spelling = [] })) i within short in
        let from = own_at source chunk text back i within own in
        let there : slice_get toks from.0 ≡ Some Short =
        ap (λ (ts : List Tok). slice_get ts from.0) (sym (tokens_of_spelled (λ k. get_or written k []) 0 toks)) ∙ token_there source from.0 (ap (λ (w : SpelledToken). w.token) from.1 ∙ short) in
        let requoted = requoted_at are from.0 there in
        let spelling : get_or written from.0 [] ≡ (word_at text i).spelled.spelling = sym (all_bytes toks written is from.0) ∙ ap (λ (w : SpelledToken). w.spelling) from.1 in
        requoted_again style requoted.0 (word_at text i).spelled.spelling (subst (λ (w : List ℕ). IsRequoted requoted.0 (quote_in style requoted.0) w) spelling requoted.1)

    pub written_again : {b : syntax.Block (Bare TextWord)} (chunk : Chunk) (text : List TextWord) → IsReadBack source chunk text → WritesBlock token_of is_added b text
        → AreWritten (quote_in style) (map token_of text) (spellings text) (spellings text)
    written_again chunk text back wrote = all_stay text (word_stays chunk text back wrote)
