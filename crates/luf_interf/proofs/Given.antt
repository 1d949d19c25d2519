-- A table of next uses, when a local variable is given a number.
use Rattle.std.proofs.Common.{◌≡◌, ℕ, ◌<◌, ◌≤◌, ◌⊎◌, inl, inr, Bool, true, false, ◌||◌, cond, nat_eq, List, [], ◌∷◌, length, get_or, set, refl, sym, ap, subst, ◌∙◌, ⊎_elim, arith, get_or-set_other, get_or-set_same}
use Rattle.std.proofs.lemmas.List.{length-set}
use Rattle.std.proofs.lemmas.Bool.{cases_Bool, cases_eq, ne_eqb, eq-eqb, eqb-true, eqb-false, false_from_ne_true}
use Rattle.luf_interf.specs.declared.uses.Owner.{Owner}
use Rattle.luf_interf.specs.declared.uses.Owner.TheVariants as owner
use Rattle.luf_interf.specs.declared.uses.Use.{Use}
use Rattle.luf_interf.specs.inner.Uses.{nowhere, IsBarredNumber, number_of, has_number, is_local, is_of, next_of, behind_of, following, IsLinked, AreLinked, IsHead, IsTable}
use Rattle.luf_interf.specs.inner.Among.{Among, here, there}
use Rattle.luf_interf.proofs.Among.{all_among}
use Rattle.luf_interf.proofs.Nexts.{Rising, next_here, next_later, next_same, next_joined}

pub rising : (size : ℕ) (names behind : List ℕ) (us : List Use) → AreLinked size names behind us → Rising us
rising size names behind [] linked = tt
rising size names behind (u ∷ us) linked = (linked.0.rising, linked.0.before, rising size names behind us linked.1)

-- of those whose tokens rise from one that is no earlier than a place, none stands before it
none_before : (test : Use → Bool) (to : ℕ) (u : Use) (us : List Use) → Rising (u ∷ us) → ((w : Use) → Among w (u ∷ us) → test w ≡ true → w.token < to) → to ≤ u.token → (w : Use) → Among w (u ∷ us) → test w ≡ false
none_before test to u us rises inside high u' here = false_from_ne_true (test u) (λ is. let low = inside u here is in omega (arith, low, high))
none_before test to u us rises inside high w (there m) = false_from_ne_true (test w) (λ is. let low = inside w (there m) is in let less = all_among (λ v. u.token < v.token) us w rises.0 m in omega (arith, low, high, less))

-- the local variable n is given the number k, of whose name the next use is h
module _ (names behind : List ℕ) (n k h : ℕ) (within : n < length names) (also : n < length behind) (unnamed : get_or names n nowhere ≡ nowhere) where
  number_now : (o : Owner) → is_local n o ≡ true → number_of (set names n k) o ≡ k
  number_now (owner.Local m) is = ap (λ j. get_or (set names n k) j nowhere) (eqb-true m n is) ∙ get_or-set_same names n k nowhere within
  number_now (owner.Free j) is = absurd cc

  number_then : (o : Owner) → is_local n o ≡ true → number_of names o ≡ nowhere
  number_then (owner.Local m) is = ap (λ j. get_or names j nowhere) (eqb-true m n is) ∙ unnamed
  number_then (owner.Free j) is = absurd cc

  number_other : (o : Owner) → is_local n o ≡ false → number_of (set names n k) o ≡ number_of names o
  number_other (owner.Local m) is = get_or-set_other names n m k nowhere (eqb-false m n is)
  number_other (owner.Free j) is = refl

  behind_now : (o : Owner) → is_local n o ≡ true → behind_of (set behind n h) o ≡ h
  behind_now (owner.Local m) is = ap (λ j. get_or (set behind n h) j nowhere) (eqb-true m n is) ∙ get_or-set_same behind n h nowhere also
  behind_now (owner.Free j) is = absurd cc

  behind_other : (o : Owner) → is_local n o ≡ false → behind_of (set behind n h) o ≡ behind_of behind o
  behind_other (owner.Local m) is = get_or-set_other behind n m h nowhere (eqb-false m n is)
  behind_other (owner.Free j) is = refl

  -- no other number is used more or less
  same_other : (j : ℕ) → j < nowhere → (j ≡ k → ⊥) → (u : Use) → has_number (set names n k) j u ≡ has_number names j u
  same_other j small other u = by (cases_Bool (is_of n u))
    where
      by : (is_of n u ≡ true) ⊎ (is_of n u ≡ false) → has_number (set names n k) j u ≡ has_number names j u
      by (inl is) =
          let now = number_now u.owner is in let then = number_then u.owner is in
          ne_eqb (number_of (set names n k) u.owner) j (λ e. other (sym e ∙ now)) ∙ sym (ne_eqb (number_of names u.owner) j (λ e. omega (arith, e, then, small)))
      by (inr is) = ap (λ m. nat_eq m j) (number_other u.owner is)

  -- and this one is used where it was, and by n
  joined : k < nowhere → (u : Use) → has_number (set names n k) k u ≡ (is_of n u || has_number names k u)
  joined small u = by (is_of n u) refl
    where
      by : (b : Bool) → is_of n u ≡ b → has_number (set names n k) k u ≡ (b || has_number names k u)
      by true is = eq-eqb (number_of (set names n k) u.owner) k (number_now u.owner is)
      by false is = ap (λ m. nat_eq m k) (number_other u.owner is)

  same_away : (u : Use) → is_of n u ≡ false → (j : ℕ) → has_number (set names n k) j u ≡ has_number names j u
  same_away u is j = ap (λ m. nat_eq m j) (number_other u.owner is)

  same_following : (u : Use) → is_of n u ≡ false → following (set behind n h) u ≡ following behind u
  same_following u is = λ i. cond (nat_eq u.next nowhere) (behind_other u.owner is i) u.next

  module _ (size to : ℕ) (few : size < nowhere) (below : k < size) (free : IsBarredNumber k → ⊥) where
    -- one of another local variable, or of a free name
    link_other : (u : Use) (us : List Use) → is_of n u ≡ false → IsLinked size names behind u us
        → (number_of names u.owner < size → next_of (has_number (set names n k) (number_of names u.owner)) us ≡ next_of (has_number names (number_of names u.owner)) us) → IsLinked size (set names n k) (set behind n h) u us
    link_other u us is link same =
        let number = number_other u.owner is in
        record {
          rising = link.rising;
          before = link.before;
          next = link.next;
          follows = λ small. same_following u is ∙ link.follows (omega (arith, number, small)) ∙ sym (same (omega (arith, number, small))) ∙ ap (λ m. next_of (has_number (set names n k) m) us) (sym number);
          allowed = λ small barred. link.allowed (omega (arith, number, small)) (subst IsBarredNumber number barred);
        }

    -- where n is nowhere
    linked_away : (us : List Use) → ((u : Use) → Among u us → is_of n u ≡ false) → AreLinked size names behind us → AreLinked size (set names n k) (set behind n h) us
    linked_away [] none linked = tt
    linked_away (u ∷ us) none linked = (
      link_other u us (none u here) linked.0 (λ _. next_same (has_number (set names n k) (number_of names u.owner)) (has_number names (number_of names u.owner)) us (λ w m. same_away w (none w (there m)) (number_of names u.owner))),
      linked_away us (λ w m. none w (there m)) linked.1,
    )

    -- the next use of k, where n has it too
    next_now : (us : List Use) → AreLinked size names behind us → ((u : Use) → Among u us → is_of n u ≡ true → u.token < to) → to ≤ next_of (has_number names k) us
        → next_of (has_number (set names n k) k) us ≡ cond (nat_eq (next_of (is_of n) us) nowhere) (next_of (has_number names k) us) (next_of (is_of n) us)
    next_now us linked inside high = next_joined (is_of n) (has_number names k) (has_number (set names n k) k) (joined (omega arith)) to us (rising size names behind us linked) inside high

    link_now : (u : Use) (us : List Use) → is_of n u ≡ true → IsLinked size names behind u us → AreLinked size names behind us → ((w : Use) → Among w us → is_of n w ≡ true → w.token < to)
        → to ≤ h → h ≡ next_of (has_number names k) us → IsLinked size (set names n k) (set behind n h) u us
    link_now u us is link linked inside high same =
        let number = number_now u.owner is in
        let next = link.next n is in
        record {
          rising = link.rising;
          before = link.before;
          next = link.next;
          follows = λ small. (λ i. cond (nat_eq (next i) nowhere) ((behind_now u.owner is ∙ same) i) (next i)) ∙ sym (next_now us linked inside (omega (arith, high, same))) ∙ ap (λ m. next_of (has_number (set names n k) m) us) (sym number);
          allowed = λ small barred. free (subst IsBarredNumber number barred);
        }

    -- where the next use of k is h, not before n ends
    linked_now : (us : List Use) → AreLinked size names behind us → ((u : Use) → Among u us → is_of n u ≡ true → u.token < to) → to ≤ h → h ≡ next_of (has_number names k) us
        → AreLinked size (set names n k) (set behind n h) us
    linked_now [] linked inside high same = tt
    linked_now (u ∷ us) linked inside high same = by (cases_Bool (has_number names k u)) (cases_Bool (is_of n u)) (linked_now us linked.1 (λ w m. inside w (there m)) high)
      where
        by : (has_number names k u ≡ true) ⊎ (has_number names k u ≡ false) → (is_of n u ≡ true) ⊎ (is_of n u ≡ false)
            → (h ≡ next_of (has_number names k) us → AreLinked size (set names n k) (set behind n h) us) → AreLinked size (set names n k) (set behind n h) (u ∷ us)
        by (inl used) is rest = let at = next_here (has_number names k) u us used in
            linked_away (u ∷ us) (none_before (is_of n) to u us (rising size names behind (u ∷ us) linked) inside (omega (arith, high, same, at))) linked
        by (inr unused) (inl is) rest = let later = same ∙ next_later (has_number names k) u us unused in
            (link_now u us is linked.0 linked.1 (λ w m. inside w (there m)) high later, rest later)
        by (inr unused) (inr other) rest = let later = same ∙ next_later (has_number names k) u us unused in
            (link_other u us other linked.0 (λ small. next_same (has_number (set names n k) (number_of names u.owner)) (has_number names (number_of names u.owner)) us (λ w m. same_other (number_of names u.owner) (omega (arith, small, few)) (eqb-false (number_of names u.owner) k unused) w)), rest later)

    head_other : (us : List Use) (j head : ℕ) → j < nowhere → (j ≡ k → ⊥) → IsHead names us j head → IsHead (set names n k) us j head
    head_other us j head small other (inl barred) = inl barred
    head_other us j head small other (inr apart) = inr (apart.0, apart.1 ∙ next_same (has_number names j) (has_number (set names n k) j) us (λ u m. sym (same_other j small other u)))

open_head : (names : List ℕ) (us : List Use) (k head : ℕ) → 0 < head → IsHead names us k head → (IsBarredNumber k → ⊥) × (head ≡ next_of (has_number names k) us)
open_head names us k head some (inl barred) = let none = barred.1 in absurd (omega (arith, some, none))
open_head names us k head some (inr apart) = apart

-- The local variable n, which is first used there and of which all references stand before a place, is given a number
-- whose name is not used before that place.
pub given : (names behind heads : List ℕ) (us : List Use) (n k to first : ℕ) → n < length names → n < length behind → get_or names n nowhere ≡ nowhere → k < length heads → 0 < to → to ≤ get_or heads k 0
    → ((u : Use) → Among u us → is_of n u ≡ true → u.token < to) → first ≡ next_of (is_of n) us → IsTable names behind heads us
    → IsTable (set names n k) (set behind n (get_or heads k 0)) (set heads k (cond (nat_eq first nowhere) (get_or heads k 0) first)) us
given names behind heads us n k to first within also unnamed below some high inside same table =
    let h = get_or heads k 0 in
    let few = table.small in
    let now = open_head names us k (get_or heads k 0) (omega (arith, some, high)) (table.tells k below) in
    let next = now.1 in
    let put = cond (nat_eq first nowhere) (get_or heads k 0) first in
    let count = length-set heads k put in
    record {
      small = omega (arith, few, count);
      tells = λ j small. ⊎_elim
          (λ e. inr (
            subst (λ m. IsBarredNumber m → ⊥) (sym e) now.0,
            ap (λ m. get_or (set heads k put) m 0) e ∙ get_or-set_same heads k put 0 below
                ∙ (λ i. cond (nat_eq (same i) nowhere) (next i) (same i))
                ∙ sym (next_now names behind n k h within also unnamed (length heads) to few below now.0 us table.linked inside (omega (arith, high, next)))
                ∙ ap (λ m. next_of (has_number (set names n k) m) us) (sym e),
          ))
          (λ other. subst (IsHead (set names n k) us j) (sym (get_or-set_other heads k j put 0 other))
          (head_other names behind n k h within also unnamed (length heads) to few below now.0 us j (get_or heads j 0) (omega (arith, small, count, few)) other (table.tells j (omega (arith, small, count)))))
          (cases_eq j k);
      linked = subst (λ m. AreLinked m (set names n k) (set behind n h) us) (sym count)
          (linked_now names behind n k h within also unnamed (length heads) to few below now.0 us table.linked inside high next);
    }
