-- A table of next uses, when a reference is passed.
use Rattle.std.proofs.Common.{◌≡◌, ℕ, ◌<◌, ◌≤◌, inl, inr, false, List, [], ◌∷◌, length, get_or, set, reverse, ◌++◌, is_some, slice_get, All, append_assoc, sym, ap, subst, ◌∙◌, ⊎_elim, arith, get_or-set_other, get_or-set_same}
use Rattle.std.proofs.lemmas.List.{length-set, reverse-append}
use Rattle.std.proofs.lemmas.Bool.{cases_eq, cases_lt, ne_eqb, true≢false}
use Rattle.std.proofs.lemmas.Option.{slice_get-get_or}
use Rattle.luf_interf.specs.declared.uses.Use.{Use}
use Rattle.luf_interf.specs.inner.Uses.{IsBarredNumber, number_of, has_number, next_of, following, AreLinked, IsHead, IsTable, IsPassed, first_token}
use Rattle.std.proofs.lemmas.List.Elements.{All-nil, All-cons, All-push, All-weaker}
use Rattle.luf_interf.proofs.Nexts.{next_later}

head_later : (names : List ℕ) (u : Use) (us : List Use) (k head : ℕ) → (number_of names u.owner ≡ k → ⊥) → IsHead names (u ∷ us) k head → IsHead names us k head
head_later names u us k head other (inl barred) = inl barred
head_later names u us k head other (inr apart) = inr (apart.0, apart.1 ∙ next_later (has_number names k) u us (ne_eqb (number_of names u.owner) k other))

module _ (names behind heads : List ℕ) (u : Use) (us : List Use) (table : IsTable names behind heads (u ∷ us)) where
  -- one of no name yet
  pub passed_over : length heads ≤ number_of names u.owner → IsTable names behind heads us
  passed_over high = record {
    small = table.small;
    tells = λ k below. head_later names u us k (get_or heads k 0) (λ e. omega (arith, e, below, high)) (table.tells k below);
    linked = table.linked.1;
  }

  -- one of a name: what follows it is the next use of the name
  pub passed : number_of names u.owner < length heads → IsTable names behind (set heads (number_of names u.owner) (following behind u)) us
  passed below =
      let n = number_of names u.owner in
      let count = length-set heads n (following behind u) in
      record {
        small = let small = table.small in omega (arith, small, count);
        tells = λ k within. ⊎_elim
            (λ same. inr (
              subst (λ j. IsBarredNumber j → ⊥) (sym same) (table.linked.0.allowed below),
              ap (λ j. get_or (set heads n (following behind u)) j 0) same ∙ get_or-set_same heads n (following behind u) 0 below ∙ table.linked.0.follows below ∙ ap (λ j. next_of (has_number names j) us) (sym same),
            ))
            (λ other. subst (IsHead names us k) (sym (get_or-set_other heads n k (following behind u) 0 other)) (head_later names u us k (get_or heads k 0) (λ e. other (sym e)) (table.tells k (omega (arith, within, count)))))
            (cases_eq k n);
        linked = subst (λ m. AreLinked m names behind us) (sym count) table.linked.1;
      }

-- the last of a list kept in reverse is the next one
pub next_is : (items rest : List Use) (u : Use) → items ≡ rest ++ u ∷ [] → reverse items ≡ u ∷ reverse rest
next_is items rest u is = ap reverse is ∙ reverse-append rest (u ∷ [])

pub passed_over_at : (names behind heads : List ℕ) (items rest : List Use) (u : Use) → items ≡ rest ++ u ∷ [] → IsTable names behind heads (reverse items) → length heads ≤ number_of names u.owner → IsTable names behind heads (reverse rest)
passed_over_at names behind heads items rest u is table high = passed_over names behind heads u (reverse rest) (subst (IsTable names behind heads) (next_is items rest u is) table) high

pub passed_at : (names behind heads : List ℕ) (items rest : List Use) (u : Use) → items ≡ rest ++ u ∷ [] → IsTable names behind heads (reverse items) → number_of names u.owner < length heads
    → IsTable names behind (set heads (number_of names u.owner) (following behind u)) (reverse rest)
passed_at names behind heads items rest u is table below = passed names behind heads u (reverse rest) (subst (IsTable names behind heads) (next_is items rest u is) table) below

pub past_end : (xs : List ℕ) (n : ℕ) → is_some (slice_get xs n) ≡ false → length xs ≤ n
past_end xs n none = ⊎_elim (λ below. absurd (true≢false (sym (ap is_some (slice_get-get_or xs n 0 below)) ∙ none))) (λ past. past) (cases_lt n (length xs))

-- ---- up to a place

pub one_passed : (place : ℕ) (uses rest after : List Use) (u : Use) → rest ≡ u ∷ after → u.token < place → IsPassed place uses rest → IsPassed place uses after
one_passed place uses rest after u is low passed = record {
  done = passed.done ++ u ∷ [];
  whole = append_assoc passed.done (u ∷ []) after ∙ ap (λ us. passed.done ++ us) (sym is) ∙ passed.whole;
  before = All-push (λ w. w.token < place) passed.done u passed.before low;
}

pub ahead_of : (names behind heads : List ℕ) (place : ℕ) (us : List Use) → IsTable names behind heads us → place ≤ first_token us → All (λ u. place ≤ u.token) us
ahead_of names behind heads place [] table high = All-nil (λ u. place ≤ u.token)
ahead_of names behind heads place (u ∷ us) table high = All-cons (λ w. place ≤ w.token) u us high (All-weaker (λ w. u.token < w.token) (λ w. place ≤ w.token) (λ w less. omega (arith, less, high)) us table.linked.0.rising)

pub first_token_is : (us rest : List Use) (u : Use) → us ≡ u ∷ rest → first_token us ≡ u.token
first_token_is us rest u is = ap first_token is
