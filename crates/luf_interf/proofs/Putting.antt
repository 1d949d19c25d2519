-- A table of next uses before any local variable has a number, when a reference is put in front.
use Rattle.std.proofs.Common.{◌≡◌, ℕ, ◌<◌, inl, inr, Bool, true, false, cond, nat_eq, Some, List, [], ◌∷◌, ◌++◌, length, get_or, set, slice_get, reverse, All, refl, sym, ap, subst, ◌∙◌, ⊎_elim, arith, get_or-set_other, get_or-set_same}
use Rattle.std.proofs.lemmas.List.{length-set, reverse-append}
use Rattle.std.proofs.lemmas.Option.{get_or_from_slice_get}
use Rattle.std.proofs.lemmas.Bool.{cases_eq, ne_eqb, eq-eqb, eqb-true}
use Rattle.luf_interf.specs.declared.uses.Owner.TheVariants as owner
use Rattle.luf_interf.specs.declared.uses.Use.{Use}
use Rattle.luf_interf.specs.inner.Uses.{nowhere, IsBarredNumber, number_of, has_number, is_of, next_of, AreLinked, IsHead, IsTable}
use Rattle.luf_interf.proofs.Nexts.{next_here, next_later}

pub in_front : (items rest : List Use) (u : Use) → items ≡ rest ++ u ∷ [] → reverse items ≡ u ∷ reverse rest
in_front items rest u is = ap reverse is ∙ reverse-append rest (u ∷ [])

head_behind : (names : List ℕ) (u : Use) (us : List Use) (k head : ℕ) → (number_of names u.owner ≡ k → ⊥) → IsHead names us k head → IsHead names (u ∷ us) k head
head_behind names u us k head other (inl barred) = inl barred
head_behind names u us k head other (inr apart) = inr (apart.0, apart.1 ∙ sym (next_later (has_number names k) u us (ne_eqb (number_of names u.owner) k other)))

-- of a number that is not barred the table tells the next use
pub open_tells : (names : List ℕ) (us : List Use) (k head : ℕ) → (IsBarredNumber k → ⊥) → IsHead names us k head → head ≡ next_of (has_number names k) us
open_tells names us k head free (inl barred) = absurd (free barred.0)
open_tells names us k head free (inr apart) = apart.1

module _ (names behind heads : List ℕ) (token next : ℕ) (us : List Use) (table : IsTable names behind heads us) (before : token < nowhere) (rising : All (λ w. token < w.token) us) where
  pub put_local : (n : ℕ) → get_or names n nowhere ≡ nowhere → next ≡ next_of (is_of n) us → IsTable names behind heads (record { token = token; owner = owner.Local n; next = next } ∷ us)
  put_local n unnamed is =
      let few = table.small in
      let u : Use = record { token = token; owner = owner.Local n; next = next } in
      record {
        small = few;
        tells = λ k below. head_behind names u us k (get_or heads k 0) (λ e. omega (arith, e, unnamed, below, few)) (table.tells k below);
        linked = (
          record {
            rising = rising;
            before = before;
            next = λ m its. is ∙ ap (λ j. next_of (is_of j) us) (eqb-true n m its);
            follows = λ small. absurd (omega (arith, small, unnamed, few));
            allowed = λ small. absurd (omega (arith, small, unnamed, few));
          },
          table.linked,
        );
      }

  pub put_free : (k : ℕ) (after : List ℕ) → k < length heads → (IsBarredNumber k → ⊥) → slice_get heads k ≡ Some next → after ≡ set heads k token → IsTable names behind after (record { token = token; owner = owner.Free k; next = next } ∷ us)
  put_free k after below free at is =
      let few = table.small in
      let u : Use = record { token = token; owner = owner.Free k; next = next } in
      let count = length-set heads k token in
      let told = sym (get_or_from_slice_get heads k next 0 at) ∙ open_tells names us k (get_or heads k 0) free (table.tells k below) in
      subst (λ hs. IsTable names behind hs (u ∷ us)) (sym is) (record {
        small = omega (arith, count, few);
        tells = λ j small. ⊎_elim
            (λ same. inr (
              subst (λ m. IsBarredNumber m → ⊥) (sym same) free,
              ap (λ m. get_or (set heads k token) m 0) same ∙ get_or-set_same heads k token 0 below ∙ sym (next_here (has_number names j) u us (eq-eqb k j (sym same))),
            ))
            (λ other. subst (IsHead names (u ∷ us) j) (sym (get_or-set_other heads k j token 0 other)) (head_behind names u us j (get_or heads j 0) (λ e. other (sym e)) (table.tells j (omega (arith, small, count)))))
            (cases_eq j k);
        linked = (
          record {
            rising = rising;
            before = before;
            next = λ m its. absurd cc;
            follows = λ small. follow (nat_eq next nowhere) refl told;
            allowed = λ small. free;
          },
          subst (λ m. AreLinked m names behind us) (sym count) table.linked,
        );
      })
    where
      follow : (b : Bool) → nat_eq next nowhere ≡ b → next ≡ next_of (has_number names k) us → cond b nowhere next ≡ next_of (has_number names k) us
      follow true same told = sym (eqb-true next nowhere same) ∙ told
      follow false differs told = told
