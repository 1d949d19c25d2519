-- Tokens with their spellings, and the words of the minified text: each is spelled as its token.
use Rattle.std.proofs.Common.{◌≡◌, ℕ, zero, suc, ◌+◌, ◌<◌, ◌≤◌, Bool, true, false, cond, ◌||◌, Option, Some, None, List, [], ◌∷◌, slice_get, get_or, length, map, refl, sym, ap, subst, ◌∙◌, zero-add, ne_eqb, arith, ⊎_elim}
use Rattle.std.specs.Option.{option_map}
use Rattle.std.proofs.lemmas.Bool.{false≢true}
use Rattle.std.proofs.lemmas.List.{length-map}
use Rattle.std.proofs.lemmas.Option.{same_Some, none-some, slice_get-map, slice_get_within, slice_get_cases, get_or_from_slice_get}
use Rattle.luf_lex.specs.Spelling.{Spells}
use Rattle.luf_lex.specs.declared.token.Tok.{Tok}
use Rattle.luf_lex.specs.declared.token.Tok.TheVariants.{Name, Word, Sign}
use Rattle.luf_lex.specs.declared.token.Kind.TheVariants.{Token}
use Rattle.luf_tree.specs.declared.tree.Chunk.{Chunk}
use Rattle.luf_tree.specs.Grammar.{IsChunk}
use Rattle.luf_tree.specs.SyntaxOf.{syntax_of}
use Rattle.luf_bare.specs.Dropped.{if_dropped, dropped_block}
use Rattle.luf_bare.specs.Rank.{rank}
use Rattle.luf_bare.specs.Significant.{IsFixed, is_among, places_but, significant}
use Rattle.luf_bare.specs.ReadBack.{SpelledToken, TextWord, token_of, is_added, spelled_at, own_word, added_word, word_at, additions, significant_words, AreSpelled, spelled_by, IsReadBack}
use Rattle.luf_bare.proofs.EachWritten.{Each, all_none, all_more, each_at, each_block}
use Rattle.luf_bare.proofs.ReadBackLaws.{written_is_read}
use Rattle.luf_scope.specs.Local.{Spelling}
use Rattle.luf_resolved.proofs.Ranking.{Solid}
use Rattle.luf_resolved.proofs.RankOrder.{significant_at_rank}
use Rattle.luf_min.specs.Minified.{fixed_spelling, spelled_tokens, minified_words, spellings}
use Rattle.luf_min.proofs.TokensCut.{Spelled}

-- ---- tokens with their spellings

pub tokens_of_spelled : (told : Spelling) (n : ℕ) (toks : List Tok) → map (λ (w : SpelledToken). w.token) (spelled_tokens told n toks) ≡ toks
tokens_of_spelled told n [] = refl
tokens_of_spelled told n (t ∷ toks) = λ i. t ∷ tokens_of_spelled told (n + 1) toks i

pub length_spelled : (told : Spelling) (n : ℕ) (toks : List Tok) → length (spelled_tokens told n toks) ≡ length toks
length_spelled told n toks = sym (length-map (spelled_tokens told n toks) (λ (w : SpelledToken). w.token)) ∙ ap length (tokens_of_spelled told n toks)

told_there : (told : Spelling) (n : ℕ) (toks : List Tok) (i : ℕ) (t : Tok) → slice_get toks i ≡ Some t → spelled_at (spelled_tokens told n toks) i ≡ record { token = t; spelling = told (n + i) }
told_there told n [] i t is = absurd (none-some _ is)
told_there told n (u ∷ toks) zero t is = let at : n ≡ n + 0 = omega arith in λ j. record { token = same_Some u t is j; spelling = told (at j) }
told_there told n (u ∷ toks) (suc i) t is = let at : (n + 1) + i ≡ n + suc i = omega arith in told_there told (n + 1) toks i t is ∙ (λ j. record { token = t; spelling = told (at j) })

told_beyond : (told : Spelling) (n : ℕ) (toks : List Tok) (i : ℕ) → length toks ≤ i → spelled_at (spelled_tokens told n toks) i ≡ record { token = Name; spelling = [] }
told_beyond told n [] i past = refl
told_beyond told n (u ∷ toks) zero past = absurd (omega (arith, past))
told_beyond told n (u ∷ toks) (suc i) past = told_beyond told (n + 1) toks i (omega (arith, past))

fixed_told : (t : Tok) (a : List ℕ) → Spells (Token t) a → IsFixed t → a ≡ fixed_spelling t
fixed_told (Word w) a h fixed = sym h
fixed_told (Sign s) a h fixed = sym h
fixed_told _ a h fixed = absurd fixed

-- ---- the words of a text that are not added stand in the source

before_additions : (p b : ℕ) (text : List TextWord) → p < b → is_among p (additions is_added b text) ≡ false
before_additions p b [] low = refl
before_additions p b (w ∷ text) low = by (is_added w) (before_additions p (b + 1) text (omega (arith, low)))
  where
    by : (added : Bool) → is_among p (additions is_added (b + 1) text) ≡ false → is_among p (if_dropped added b (additions is_added (b + 1) text)) ≡ false
    by true rest = ap (λ v. v || is_among p (additions is_added (b + 1) text)) (ne_eqb p b (λ e. omega (arith, e, low))) ∙ rest
    by false rest = rest

own_not_among : (b : ℕ) (text : List TextWord) (j : ℕ) (w : TextWord) → slice_get text j ≡ Some w → is_added w ≡ false → is_among (b + j) (additions is_added b text) ≡ false
own_not_among b [] j w is own = absurd (none-some _ is)
own_not_among b (v ∷ text) zero w is own =
    ap (λ c. is_among (b + 0) (if_dropped c b (additions is_added (b + 1) text))) (ap is_added (same_Some v w is) ∙ own) ∙ before_additions (b + 0) (b + 1) text (omega arith)
own_not_among b (v ∷ text) (suc j) w is own =
    let at : (b + 1) + j ≡ b + suc j = omega arith in
    by (is_added v) (ap (λ p. is_among p (additions is_added (b + 1) text)) (sym at) ∙ own_not_among (b + 1) text j w is own)
  where
    by : (added : Bool) → is_among (b + suc j) (additions is_added (b + 1) text) ≡ false → is_among (b + suc j) (if_dropped added b (additions is_added (b + 1) text)) ≡ false
    by true rest = ap (λ c. c || is_among (b + suc j) (additions is_added (b + 1) text)) (ne_eqb (b + suc j) b (λ e. omega (arith, e))) ∙ rest
    by false rest = rest

places_within : (ds : List ℕ) (i n r p : ℕ) → slice_get (places_but ds i n) r ≡ Some p → p < i + n
places_within ds i zero r p is = absurd (none-some _ is)
places_within ds i (suc n) r p is = by (is_among i ds) r is (λ s there. let h = places_within ds (i + 1) n s p there in omega (arith, h))
  where
    by : (b : Bool) (s : ℕ) → slice_get (cond b (places_but ds (i + 1) n) (i ∷ places_but ds (i + 1) n)) s ≡ Some p → ((q : ℕ) → slice_get (places_but ds (i + 1) n) q ≡ Some p → p < i + suc n) → p < i + suc n
    by true s there later = later s there
    by false zero there later = let same = same_Some i p there in omega (arith, same)
    by false (suc s) there later = later s there

told_from : (says : ℕ → SpelledToken) (n : ℕ) (o : Option ℕ) (w : SpelledToken) → option_map says o ≡ Some w → ((i : ℕ) → o ≡ Some i → i < n) → (i : ℕ) × (i < n) × (says i ≡ w)
told_from says n None w is lies = absurd (none-some _ is)
told_from says n (Some i) w is lies = (i, lies i refl, same_Some _ _ is)

-- such a word is one of the source
own_word_there : (source : List SpelledToken) (chunk : Chunk) (text : List TextWord) (back : IsReadBack source chunk text) (j : ℕ) (w : TextWord) → slice_get text j ≡ Some w → is_added w ≡ false
    → (i : ℕ) × (i < length source) × (spelled_at source i ≡ w.spelled)
own_word_there source chunk text back j w is own =
    let all : List ℕ = dropped_block (syntax_of back.read.tree) [] in
    let at : j ≡ 0 + j = omega arith in
    let free : is_among j all ≡ false = ap (is_among j) back.read.drops ∙ ap (λ p. is_among p (additions is_added 0 text)) at ∙ own_not_among 0 text j w is own in
    let within = slice_get_within text j w is in
    let solid : Solid (map token_of text) all j = record { kept = free; within = omega (arith, within, length-map text token_of) } in
    let r : ℕ = rank all j in
    let there : slice_get (significant (syntax_of back.read.tree) (length text)) r ≡ Some j = ap (λ n. slice_get (places_but all 0 n) r) (sym (length-map text token_of)) ∙ significant_at_rank solid in
    let said : slice_get (significant_words (spelled_at source) (length source) chunk) r ≡ Some w.spelled =
    ap (λ ws. slice_get ws r) (sym back.significant) ∙ slice_get-map (λ i. (word_at text i).spelled) (significant (syntax_of back.read.tree) (length text)) r
    ∙ ap (option_map (λ i. (word_at text i).spelled)) there ∙ ap (λ (v : TextWord). Some v.spelled) (get_or_from_slice_get text j w (own_word (record { token = Name; spelling = [] })) is) in
    told_from (spelled_at source) (length source) (slice_get (significant (syntax_of chunk) (length source)) r) w.spelled (sym (slice_get-map (spelled_at source) (significant (syntax_of chunk) (length source)) r) ∙ said)
    (λ i found. let h = places_within (dropped_block (syntax_of chunk) []) 0 (length source) r i found in omega (arith, h))

-- ---- the words of the minified text

-- a word is spelled as its token
abbrev pub IsRight : TextWord → Type 0
IsRight w = Spells (Token (token_of w)) w.spelled.spelling

words_spelled : (text : List TextWord) → ((j : ℕ) (w : TextWord) → slice_get text j ≡ Some w → IsRight w) → Spelled (map token_of text) (spellings text)
words_spelled [] each = tt
words_spelled (w ∷ text) each = (each 0 w refl, words_spelled text (λ j. each (suc j)))

-- tokens that are spelled so; behind the last nothing is
module _ (toks : List Tok) (told : Spelling) (fits : (i : ℕ) (t : Tok) → slice_get toks i ≡ Some t → Spells (Token t) (told i)) (beyond : (i : ℕ) → length toks ≤ i → told i ≡ []) where
  abbrev pub source_of : List SpelledToken
  source_of = spelled_tokens told 0 toks

  pub spelling_is : (i : ℕ) → (spelled_at source_of i).spelling ≡ told i
  spelling_is i = ⊎_elim
      (λ (found : (t : Tok) × (i < length toks) × (slice_get toks i ≡ Some t) × (get_or toks i t ≡ t)). ap (λ (w : SpelledToken). w.spelling) (told_there told 0 toks i found.0 found.2) ∙ ap told (zero-add i))
      (λ (past : (length toks ≤ i) × (slice_get toks i ≡ None)). ap (λ (w : SpelledToken). w.spelling) (told_beyond told 0 toks i past.0) ∙ sym (beyond i past.0)) (slice_get_cases toks i).1

  pub are_spelled : AreSpelled fixed_spelling source_of
  are_spelled i = ⊎_elim
      (λ (found : (t : Tok) × (i < length toks) × (slice_get toks i ≡ Some t) × (get_or toks i t ≡ t)).
      subst (λ (w : SpelledToken). IsFixed w.token → w.spelling ≡ fixed_spelling w.token) (sym (told_there told 0 toks i found.0 found.2)) (λ fixed. ap told (zero-add i) ∙ fixed_told found.0 (told i) (fits i found.0 found.2) fixed))
      (λ (past : (length toks ≤ i) × (slice_get toks i ≡ None)). subst (λ (w : SpelledToken). IsFixed w.token → w.spelling ≡ fixed_spelling w.token) (sym (told_beyond told 0 toks i past.0)) (λ fixed. absurd fixed)) (slice_get_cases toks i).1

  source_right : (i : ℕ) → i < length source_of → Spells (Token (spelled_at source_of i).token) (spelled_at source_of i).spelling
  source_right i within = ⊎_elim
      (λ (found : (t : Tok) × (i < length toks) × (slice_get toks i ≡ Some t) × (get_or toks i t ≡ t)).
      subst (λ (w : SpelledToken). Spells (Token w.token) w.spelling) (sym (told_there told 0 toks i found.0 found.2)) (subst (λ k. Spells (Token found.0) (told k)) (sym (zero-add i)) (fits i found.0 found.2)))
      (λ (past : (length toks ≤ i) × (slice_get toks i ≡ None)). let h = past.0 in absurd (omega (arith, h, within, length_spelled told 0 toks))) (slice_get_cases toks i).1

  module _ (chunk : Chunk) (derived : IsChunk toks chunk) where
    pub source_derived : IsChunk (map (λ (w : SpelledToken). w.token) source_of) chunk
    source_derived = subst (λ (ts : List Tok). IsChunk ts chunk) (sym (tokens_of_spelled told 0 toks)) derived

    pub words_back : IsReadBack source_of chunk (minified_words told toks chunk)
    words_back = written_is_read fixed_spelling source_of chunk (λ _. false) (λ _ _. false) source_derived are_spelled

    added_right : Each (λ w. is_added w ≡ true → IsRight w) (minified_words told toks chunk)
    added_right =
        each_block token_of (λ t. own_word (spelled_by fixed_spelling t)) (λ t. added_word (spelled_by fixed_spelling t) ∷ []) (λ _. false) (λ _ _. false) (λ i. own_word (spelled_at source_of i)) (λ w. is_added w ≡ true → IsRight w)
        (λ t is. absurd (false≢true is)) (λ s. all_more (λ _. refl) all_none) (λ i is. absurd (false≢true is)) (syntax_of chunk)

    word_right : (j : ℕ) (w : TextWord) → slice_get (minified_words told toks chunk) j ≡ Some w → IsRight w
    word_right j w is = by (is_added w) refl
      where
        by : (added : Bool) → is_added w ≡ added → IsRight w
        by true added =
            let within = slice_get_within (minified_words told toks chunk) j w is in
            subst (λ (v : TextWord). is_added v ≡ true → IsRight v) (get_or_from_slice_get (minified_words told toks chunk) j w w is) (each_at added_right w j within) added
        by false own =
            let there = own_word_there source_of chunk (minified_words told toks chunk) words_back j w is own in
            subst (λ (v : SpelledToken). Spells (Token v.token) v.spelling) there.2 (source_right there.0 there.1)

    -- each word is spelled as its token
    pub minified_spelled : Spelled (map token_of (minified_words told toks chunk)) (spellings (minified_words told toks chunk))
    minified_spelled = words_spelled (minified_words told toks chunk) word_right
