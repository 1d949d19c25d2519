-- The first number whose name is not used where a local variable is active.
use Rattle.std.proofs.Common.{◌≡◌, ℕ, zero, suc, ◌+◌, ◌<◌, ◌≤◌, ◌⊎◌, inl, inr, Bool, true, false, ◌&&◌, cond, nat_le, nat_lt, Some, None, List, [], ◌∷◌, ◌++◌, length, get_or, refl, sym, subst, ⊎_elim, arith}
use Rattle.std.specs.List.{position_from}
use Rattle.std.proofs.lemmas.Option.{none-some, same_Some}
use Rattle.std.proofs.lemmas.Bool.{ltb-true, lt-ltb, le-leb, leb-true, leb-false, and_parts, and_from}
use Rattle.luf_interf.specs.declared.uses.Scope.{Scope}
use Rattle.luf_interf.specs.declared.uses.Use.{Use}
use Rattle.luf_interf.specs.inner.Uses.{nowhere, has_number, IsHead, IsTable, is_used, IsTaken, IsChoice}
use Rattle.luf_interf.specs.inner.Among.{Among, here, there}
use Rattle.luf_interf.proofs.Among.{any_among, any_of}
use Rattle.luf_interf.proofs.Nexts.{next_first, next_passes}
use Rattle.luf_interf.proofs.Given.{rising}

-- ---- the first place of a list where a test passes

-- it passes there, and nowhere before
pub record IsFirstAt (test : ℕ → Bool) (xs : List ℕ) (k : ℕ) : Type 0 where
  pub below : k < length xs
  pub passes : test (get_or xs k 0) ≡ true
  pub none : (j : ℕ) → j < k → test (get_or xs j 0) ≡ false

first_found : (test : ℕ → Bool) (xs : List ℕ) (i k : ℕ) → position_from test i xs ≡ Some k → (m : ℕ) × (k ≡ i + m) × IsFirstAt test xs m
first_found test [] i k is = absurd (none-some k is)
first_found test (x ∷ xs) i k is = by (test x) refl is (first_found test xs (i + 1) k)
  where
    by : (b : Bool) → test x ≡ b → cond b (Some i) (position_from test (i + 1) xs) ≡ Some k → (position_from test (i + 1) xs ≡ Some k → (m : ℕ) × (k ≡ i + 1 + m) × IsFirstAt test xs m) → (m : ℕ) × (k ≡ i + m) × IsFirstAt test (x ∷ xs) m
    by true now at rest = let same = same_Some i k at in (0, omega (arith, same), record { below = omega arith; passes = now; none = λ j less. absurd (omega (arith, less)) })
    by false not_now at rest =
        let found = rest at in let place = found.1 in let below = found.2.below in
        (suc found.0, omega (arith, place), record { below = omega (arith, below); passes = found.2.passes; none = none_below found.0 found.2.none })
      where
        none_below : (m : ℕ) → ((j : ℕ) → j < m → test (get_or xs j 0) ≡ false) → (j : ℕ) → j < suc m → test (get_or (x ∷ xs) j 0) ≡ false
        none_below m none zero less = not_now
        none_below m none (suc j) less = none j (omega (arith, less))

pub first_at : (test : ℕ → Bool) (xs : List ℕ) (k : ℕ) → position_from test 0 xs ≡ Some k → IsFirstAt test xs k
first_at test xs k is = let found = first_found test xs 0 k is in let place = found.1 in subst (IsFirstAt test xs) (omega (arith, place)) found.2

pub nowhere_at : (test : ℕ → Bool) (xs : List ℕ) (i : ℕ) → position_from test i xs ≡ None → (j : ℕ) → j < length xs → test (get_or xs j 0) ≡ false
nowhere_at test [] i is j below = absurd (omega (arith, below))
nowhere_at test (x ∷ xs) i is j below = by (test x) refl is j below (nowhere_at test xs (i + 1))
  where
    by : (b : Bool) → test x ≡ b → cond b (Some i) (position_from test (i + 1) xs) ≡ None → (j : ℕ) → j < length (x ∷ xs) → (position_from test (i + 1) xs ≡ None → (m : ℕ) → m < length xs → test (get_or xs m 0) ≡ false) → test (get_or (x ∷ xs) j 0) ≡ false
    by true now at j below rest = absurd (none-some i (sym at))
    by false not_now at zero below rest = not_now
    by false not_now at (suc j) below rest = rest at j (omega (arith, below))

-- ---- which names are used where a local variable is active

pub parts : (names : List ℕ) (s : Scope) (k : ℕ) (u : Use) → is_used names s k u ≡ true → (s.from ≤ u.token) × (u.token < s.to) × (has_number names k u ≡ true)
parts names s k u is =
    let both = and_parts (nat_le s.from u.token && nat_lt u.token s.to) (has_number names k u) is in
    let inside = and_parts (nat_le s.from u.token) (nat_lt u.token s.to) both.0 in
    (leb-true s.from u.token inside.0, ltb-true u.token s.to inside.1, both.1)

pub used_there : (names : List ℕ) (s : Scope) (k : ℕ) (u : Use) → s.from ≤ u.token → u.token < s.to → has_number names k u ≡ true → is_used names s k u ≡ true
used_there names s k u low high is =
    and_from (nat_le s.from u.token && nat_lt u.token s.to) (has_number names k u) (and_from (nat_le s.from u.token) (nat_lt u.token s.to) (le-leb s.from u.token low) (lt-ltb u.token s.to high)) is

pub either : {X : Type 0} {x : X} (xs ys : List X) → Among x (xs ++ ys) → Among x xs ⊎ Among x ys
either [] ys m = inr m
either (y ∷ xs) ys here = inl here
either (y ∷ xs) ys (there m) = ⊎_elim (λ left. inl (there left)) (λ right. inr right) (either xs ys m)

pub behind_all : {X : Type 0} {x : X} (xs : List X) {ys : List X} → Among x ys → Among x (xs ++ ys)
behind_all [] m = m
behind_all (y ∷ xs) m = there (behind_all xs m)

module _ (names behind heads : List ℕ) (s : Scope) (done us : List Use) (table : IsTable names behind heads us) (some : 0 < s.to) (last : s.to ≤ nowhere)
    (passed : (u : Use) → Among u done → u.token < s.from) (ahead : (u : Use) → Among u us → s.from ≤ u.token) where
  -- a number whose name is used next before the variable ends is taken, and any other is free
  taken : (j head : ℕ) → head < s.to → IsHead names us j head → IsTaken (done ++ us) names s j
  taken j head low (inl barred) = inl barred.0
  taken j head low (inr apart) =
      let at = apart.1 in
      let found = next_passes (has_number names j) us (omega (arith, at, low, last)) in
      let place = found.3 in
      inr (any_of (is_used names s j) (done ++ us) found.0 (behind_all done found.1) (used_there names s j found.0 (ahead found.0 found.1) (omega (arith, place, at, low)) found.2))

  not_taken : (j head : ℕ) → s.to ≤ head → IsHead names us j head → IsTaken (done ++ us) names s j → ⊥
  not_taken j head high (inl barred) is = let none = barred.1 in omega (arith, none, high, some)
  not_taken j head high (inr apart) (inl barred) = apart.0 barred
  not_taken j head high (inr apart) (inr is) =
      let found = any_among (is_used names s j) (done ++ us) is in
      let inside = parts names s j found.0 found.2 in
      let low = inside.0 in let before = inside.1 in let at = apart.1 in
      ⊎_elim (λ m. let gone = passed found.0 m in omega (arith, gone, low))
      (λ m. let first = next_first (has_number names j) us (rising (length heads) names behind us table.linked) found.0 m inside.2 in omega (arith, first, at, high, before))
      (either done us found.1)

  pub choice : (k : ℕ) → position_from (λ n. nat_le s.to n) 0 heads ≡ Some k → IsChoice (done ++ us) names s k
  choice k is =
      let at = first_at (λ n. nat_le s.to n) heads k is in
      record {
        free = not_taken k (get_or heads k 0) (leb-true s.to (get_or heads k 0) at.passes) (table.tells k at.below);
        first = λ j less. let below = at.below in taken j (get_or heads j 0) (leb-false s.to (get_or heads j 0) (at.none j less)) (table.tells j (omega (arith, less, below)));
      }
