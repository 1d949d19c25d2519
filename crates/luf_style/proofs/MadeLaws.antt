-- What is made for the tokens of a source, and how they are written then.
use Rattle.std.proofs.Common.{◌≡◌, ℕ, zero, suc, ◌+◌, ◌<◌, ◌≤◌, true, Some, None, Ok, Err, List, [], ◌∷◌, ◌++◌, length, get_or, slice_get, refl, sym, ap, ◌∙◌, subst, arith, ◌⊎◌, inl, inr}
use Rattle.std.proofs.lemmas.List.{get_or_past}
use Rattle.std.proofs.lemmas.Bool.{cases_lt}
use Rattle.std.proofs.lemmas.Option.{get_or_from_slice_get, same_Some, slice_get_cases, slice_get_within}
use Rattle.std.specs.Result.{OnOk}
use Rattle.std.specs.declared.result.Result.{Result}
use Rattle.luf_str.specs.Bytes.{is_quote}
use Rattle.luf_str.specs.Requote.{IsRequoted}
use Rattle.luf_str.proofs.Apart.{short_is_spelled}
use Rattle.luf_str.proofs.Requoting.{same_string}
use Rattle.luf_lex.specs.Spelling.{IsShortString}
use Rattle.luf_lex.specs.declared.token.Tok.{Tok}
use Rattle.luf_lex.specs.declared.token.Tok.TheVariants.{Short}
use Rattle.luf_style.specs.Styled.{AreWritten}
use Rattle.luf_style.specs.Styled as styled
use Rattle.luf_style.specs.inner.Written.{IsWritten, IsMade, or_spelled, over}
use Rattle.luf_style.specs.inner.Written as one
use Rattle.luf_style.proofs.WrittenLaws.{with_one}

-- ---- outcomes

pub on_ok_three : {T E P Q R S : Type 0} (r : Result T E) → (P → Q → R → S) → OnOk r P → OnOk r Q → OnOk r R → OnOk r S
on_ok_three (Ok _) f p q r = f p q r
on_ok_three (Err _) f p q r = tt

-- ---- texts by their numbers

-- an empty text behind others is as none
pub nothing_more : (texts : List (List ℕ)) (i : ℕ) → get_or (texts ++ [] ∷ []) i [] ≡ get_or texts i []
nothing_more [] zero = refl
nothing_more [] (suc i) = get_or_past [] i [] (omega arith)
nothing_more (text ∷ texts) zero = refl
nothing_more (text ∷ texts) (suc i) = nothing_more texts i

-- ---- one of them

none_made : (text : List ℕ) → text ≡ or_spelled text []
none_made [] = refl
none_made (b ∷ text) = refl

pub over_at : (made spellings : List (List ℕ)) (n : ℕ) → get_or (over made spellings) n [] ≡ or_spelled (get_or made n []) (get_or spellings n [])
over_at [] spellings zero = refl
over_at [] spellings (suc n) = refl
over_at (text ∷ made) [] zero = none_made text
over_at (text ∷ made) [] (suc n) = none_made (get_or made n [])
over_at (text ∷ made) (spelling ∷ spellings) zero = refl
over_at (text ∷ made) (spelling ∷ spellings) (suc n) = over_at made spellings n

made_there : (text spelling : List ℕ) → (text ≡ [] → ⊥) → text ≡ or_spelled text spelling
made_there [] spelling some = absurd (some refl)
made_there (b ∷ text) spelling some = refl

made_nowhere : (text spelling : List ℕ) → text ≡ [] → spelling ≡ or_spelled text spelling
made_nowhere text spelling none = ap (λ t. or_spelled t spelling) (sym none)

module _ (made spellings : List (List ℕ)) (n : ℕ) (text : List ℕ) (is : text ≡ get_or made n []) where
  pub made_at : (text ≡ [] → ⊥) → text ≡ get_or (over made spellings) n []
  made_at some = made_there text (get_or spellings n []) some ∙ ap (λ t. or_spelled t (get_or spellings n [])) is ∙ sym (over_at made spellings n)

  spelled_at : text ≡ [] → get_or spellings n [] ≡ get_or (over made spellings) n []
  spelled_at none = made_nowhere (get_or made n []) (get_or spellings n []) (sym is ∙ none) ∙ sym (over_at made spellings n)

  pub spelled_there : (spelling : List ℕ) → text ≡ [] → Some spelling ≡ slice_get spellings n → spelling ≡ get_or (over made spellings) n []
  spelled_there spelling none there = sym (get_or_from_slice_get spellings n spelling [] (sym there)) ∙ spelled_at none

  pub spelled_nowhere : text ≡ [] → None ≡ slice_get spellings n → [] ≡ get_or (over made spellings) n []
  spelled_nowhere none nowhere = past (slice_get_cases spellings n).1
    where
      past : ((x : List ℕ) × (n < length spellings) × (slice_get spellings n ≡ Some x) × (get_or spellings n x ≡ x)) ⊎ ((length spellings ≤ n) × (slice_get spellings n ≡ None)) → [] ≡ get_or (over made spellings) n []
      past (inl (x, within, there, at)) = let wrong : None ≡ Some x = nowhere ∙ there in absurd cc
      past (inr (high, there)) = sym (get_or_past spellings n [] high) ∙ spelled_at none

-- ---- one token

-- nothing was made for it
pub not_made : (quote : List ℕ → ℕ) (toks : List Tok) (spellings before : List (List ℕ)) (n : ℕ) → length before ≤ n
    → ((t : Tok) (s : List ℕ) → slice_get toks n ≡ Some t → slice_get spellings n ≡ Some s → IsWritten quote t s s) → IsMade quote toks spellings n before before
not_made quote toks spellings before n few is = record {
  few = omega (arith, few);
  same = λ i less. refl;
  is = λ t s tok spelling. subst (λ (w : List ℕ). IsWritten quote t s w) (made_nowhere (get_or before n []) s (get_or_past before n [] few)) (is t s tok spelling);
}

-- a token that is no short string, and a short string that is written as it is spelled
pub other_token : (quote : List ℕ → ℕ) (toks : List Tok) (spellings : List (List ℕ)) (n : ℕ) → ((t : Tok) (s : List ℕ) → slice_get toks n ≡ Some t → slice_get spellings n ≡ Some s → t ≡ Short → ⊥)
    → (t : Tok) (s : List ℕ) → slice_get toks n ≡ Some t → slice_get spellings n ≡ Some s → IsWritten quote t s s
other_token quote toks spellings n other t s tok spelling = one.kept (other t s tok spelling)

pub same_string_token : (quote : List ℕ → ℕ) (toks : List Tok) (spellings : List (List ℕ)) (n : ℕ) (s w : List ℕ) → slice_get toks n ≡ Some Short → slice_get spellings n ≡ Some s → IsRequoted s (quote s) w → w ≡ s
    → (t : Tok) (u : List ℕ) → slice_get toks n ≡ Some t → slice_get spellings n ≡ Some u → IsWritten quote t u u
same_string_token quote toks spellings n s w tok spelling is same t u tok_is spelling_is =
    subst (λ k. IsWritten quote k u u) (same_Some Short t (sym tok ∙ tok_is))
    (subst (λ (v : List ℕ). IsWritten quote Short v v) (same_Some s u (sym spelling ∙ spelling_is))
    (one.requoted (subst (λ (v : List ℕ). IsRequoted s (quote s) v) same is)))

-- a short string that is written as another text
pub is_made : (quote : List ℕ → ℕ) → ((s : List ℕ) → is_quote (quote s) ≡ true) → (toks : List Tok) (spellings before behind : List (List ℕ)) (n : ℕ) (s w : List ℕ)
    → slice_get toks n ≡ Some Short → slice_get spellings n ≡ Some s → IsShortString s → IsRequoted s (quote s) w
    → length behind ≡ n + 1 → ((i : ℕ) → i < n → get_or behind i [] ≡ get_or before i []) → get_or behind n [] ≡ w → IsMade quote toks spellings n before behind
is_made quote quotes toks spellings before behind n s w tok spelling (value, sv) is count same text = record {
  few = omega (arith, count);
  same = same;
  is = λ t u tok_is spelling_is.
      subst (λ k. IsWritten quote k u (or_spelled (get_or behind n []) u)) (same_Some Short t (sym tok ∙ tok_is))
      (subst (λ (v : List ℕ). IsWritten quote Short v (or_spelled (get_or behind n []) v)) (same_Some s u (sym spelling ∙ spelling_is))
      (subst (λ (v : List ℕ). IsWritten quote Short s v) (made_there w s some ∙ ap (λ v. or_spelled v s) (sym text)) (one.requoted is)));
}
  where
    begun : {b : ℕ} {next v : List ℕ} → v ≡ b ∷ next → v ≡ [] → ⊥
    begun front none = absurd cc

    some : w ≡ [] → ⊥
    some = begun (((same_string s (quote s) w (quotes s) is).0 (short_is_spelled s value sv)).1.1)

-- ---- all tokens before one

pub record AreMade (quote : List ℕ → ℕ) (toks : List Tok) (spellings : List (List ℕ)) (n : ℕ) (made : List (List ℕ)) : Type 0 where
  pub few : length made ≤ n
  pub each : (i : ℕ) → i < n → (t : Tok) (s : List ℕ) → slice_get toks i ≡ Some t → slice_get spellings i ≡ Some s → IsWritten quote t s (or_spelled (get_or made i []) s)

pub made_first : (quote : List ℕ → ℕ) (toks : List Tok) (spellings made : List (List ℕ)) → made ≡ [] → AreMade quote toks spellings 0 made
made_first quote toks spellings made none = record {
  few = omega (arith, ap length none);
  each = λ i less. absurd (omega (arith, less));
}

pub made_more : (quote : List ℕ → ℕ) (toks : List Tok) (spellings before behind : List (List ℕ)) (n : ℕ) → AreMade quote toks spellings n before → IsMade quote toks spellings n before behind
    → AreMade quote toks spellings (n + 1) behind
made_more quote toks spellings before behind n so_far here = record {
  few = here.few;
  each = λ i less t s tok spelling. at i t s less tok spelling (cases_lt i n);
}
  where
    at : (i : ℕ) (t : Tok) (s : List ℕ) → i < n + 1 → slice_get toks i ≡ Some t → slice_get spellings i ≡ Some s → (i < n) ⊎ (n ≤ i) → IsWritten quote t s (or_spelled (get_or behind i []) s)
    at i t s less tok spelling (inl low) =
        subst (λ (w : List ℕ). IsWritten quote t s (or_spelled w s)) (sym (here.same i low)) (so_far.each i low t s tok spelling)
    at i t s less tok spelling (inr high) =
        let last : n ≡ i = omega (arith, less, high) in
        subst (λ k. IsWritten quote t s (or_spelled (get_or behind k []) s)) last
        (here.is t s (ap (slice_get toks) last ∙ tok) (ap (slice_get spellings) last ∙ spelling))

are_over : (quote : List ℕ → ℕ) (toks : List Tok) (spellings made : List (List ℕ)) → length made ≤ length toks → length spellings ≡ length toks
    → ((i : ℕ) (t : Tok) (s : List ℕ) → slice_get toks i ≡ Some t → slice_get spellings i ≡ Some s → IsWritten quote t s (or_spelled (get_or made i []) s)) → AreWritten quote toks spellings (over made spellings)
are_over quote [] [] [] few same each = styled.nothing
are_over quote [] [] (text ∷ made) few same each = absurd (omega (arith, few))
are_over quote [] (s ∷ spellings) made few same each = absurd (omega (arith, same))
are_over quote (t ∷ toks) [] made few same each = absurd (omega (arith, same))
are_over quote (t ∷ toks) (s ∷ spellings) [] few same each =
    with_one quote (each 0 t s refl refl) (are_over quote toks spellings [] (omega arith) (omega (arith, same)) (λ i u v tok spelling.
    subst (λ (w : List ℕ). IsWritten quote u v (or_spelled w v)) (get_or_past [] (suc i) [] (omega arith) ∙ sym (get_or_past [] i [] (omega arith))) (each (suc i) u v tok spelling)))
are_over quote (t ∷ toks) (s ∷ spellings) (text ∷ made) few same each =
    with_one quote (each 0 t s refl refl) (are_over quote toks spellings made (omega (arith, few)) (omega (arith, same)) (λ i. each (suc i)))

pub made_all : (quote : List ℕ → ℕ) (toks : List Tok) (spellings made : List (List ℕ)) (n : ℕ) → AreMade quote toks spellings n made → n ≡ length toks → length spellings ≡ length toks
    → AreWritten quote toks spellings (over made spellings)
made_all quote toks spellings made n so_far all same =
    are_over quote toks spellings made (omega (arith, so_far.few, all)) same (λ i t s tok. so_far.each i (omega (arith, all, slice_get_within toks i t tok)) t s tok)
