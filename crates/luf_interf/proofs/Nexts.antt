-- The next reference of a kind, in a list whose tokens rise.
use Rattle.std.proofs.Common.{◌≡◌, ℕ, ◌<◌, ◌≤◌, ◌⊎◌, inl, inr, Bool, true, false, ◌||◌, cond, nat_eq, List, [], ◌∷◌, ◌++◌, All, refl, sym, ap, ◌∙◌, arith}
use Rattle.std.proofs.lemmas.Bool.{cases_Bool, cond-true, cond-false, ne_eqb, eq-eqb, or_left, or_from, false_from_ne_true}
use Rattle.luf_interf.specs.declared.uses.Use.{Use}
use Rattle.luf_interf.specs.inner.Uses.{nowhere, next_of}
use Rattle.luf_interf.specs.inner.Among.{Among, here, there}
use Rattle.luf_interf.proofs.Among.{all_among}

-- each token before all later ones
abbrev pub Rising : List Use → Type 0
Rising [] = Unit {0}
Rising (u ∷ us) = All (λ w. u.token < w.token) us × (u.token < nowhere) × Rising us

pub next_here : (test : Use → Bool) (u : Use) (us : List Use) → test u ≡ true → next_of test (u ∷ us) ≡ u.token
next_here test u us is = cond-true (test u) u.token (next_of test us) is

pub next_later : (test : Use → Bool) (u : Use) (us : List Use) → test u ≡ false → next_of test (u ∷ us) ≡ next_of test us
next_later test u us is = cond-false (test u) u.token (next_of test us) is

pub next_none : (test : Use → Bool) (us : List Use) → ((u : Use) → Among u us → test u ≡ false) → next_of test us ≡ nowhere
next_none test [] none = refl
next_none test (u ∷ us) none = next_later test u us (none u here) ∙ next_none test us (λ w m. none w (there m))

pub next_same : (test other : Use → Bool) (us : List Use) → ((u : Use) → Among u us → test u ≡ other u) → next_of test us ≡ next_of other us
next_same test other [] same = refl
next_same test other (u ∷ us) same = λ i. cond (same u here i) u.token (next_same test other us (λ w m. same w (there m)) i)

-- those that do not pass in front are of no account
pub next_behind : (test : Use → Bool) (front us : List Use) → ((u : Use) → Among u front → test u ≡ false) → next_of test (front ++ us) ≡ next_of test us
next_behind test [] us none = refl
next_behind test (u ∷ front) us none = next_later test u (front ++ us) (none u here) ∙ next_behind test front us (λ w m. none w (there m))

-- one that passes stands no earlier
pub next_first : (test : Use → Bool) (us : List Use) → Rising us → (u : Use) → Among u us → test u ≡ true → next_of test us ≤ u.token
next_first test [] rises u m is = elim m [ ]
next_first test (u ∷ us) rises u' here is = let same = next_here test u us is in omega (arith, same)
next_first test (v ∷ us) rises u (there m) is = by (cases_Bool (test v)) (next_first test us rises.2 u m is) (all_among (λ w. v.token < w.token) us u rises.0 m)
  where
    by : (test v ≡ true) ⊎ (test v ≡ false) → next_of test us ≤ u.token → v.token < u.token → next_of test (v ∷ us) ≤ u.token
    by (inl now) rest less = let same = next_here test v us now in omega (arith, same, less)
    by (inr later) rest less = let same = next_later test v us later in omega (arith, same, rest)

-- where one stands next, one passes there
pub next_passes : (test : Use → Bool) (us : List Use) → next_of test us < nowhere → (u : Use) × Among u us × (test u ≡ true) × (u.token ≡ next_of test us)
next_passes test [] some = absurd (omega (arith, some))
next_passes test (u ∷ us) some = by (cases_Bool (test u)) (next_passes test us)
  where
    by : (test u ≡ true) ⊎ (test u ≡ false) → (next_of test us < nowhere → (w : Use) × Among w us × (test w ≡ true) × (w.token ≡ next_of test us)) → (w : Use) × Among w (u ∷ us) × (test w ≡ true) × (w.token ≡ next_of test (u ∷ us))
    by (inl now) rest = (u, here, now, sym (next_here test u us now))
    by (inr later) rest =
        let same = next_later test u us later in
        let found = rest (omega (arith, some, same)) in
        (found.0, there found.1, found.2, found.3 ∙ sym same)

-- The next of two kinds, where all of the first stand before a place, and the next of the second does not.
module _ (first second both : Use → Bool) (joined : (u : Use) → both u ≡ (first u || second u)) (to : ℕ) where
  pub next_joined : (us : List Use) → Rising us → ((u : Use) → Among u us → first u ≡ true → u.token < to) → to ≤ next_of second us
      → next_of both us ≡ cond (nat_eq (next_of first us) nowhere) (next_of second us) (next_of first us)
  next_joined [] rises inside later = refl
  next_joined (u ∷ us) rises inside later = by (cases_Bool (first u)) (cases_Bool (second u)) (next_joined us rises.2 (λ w m. inside w (there m)))
    where
      no_first : to ≤ u.token → (w : Use) → Among w us → first w ≡ false
      no_first high w m = false_from_ne_true (first w) (λ is. let low = inside w (there m) is in let less = all_among (λ v. u.token < v.token) us w rises.0 m in omega (arith, low, less, high))

      by : (first u ≡ true) ⊎ (first u ≡ false) → (second u ≡ true) ⊎ (second u ≡ false) → (to ≤ next_of second us → next_of both us ≡ cond (nat_eq (next_of first us) nowhere) (next_of second us) (next_of first us))
          → next_of both (u ∷ us) ≡ cond (nat_eq (next_of first (u ∷ us)) nowhere) (next_of second (u ∷ us)) (next_of first (u ∷ us))
      by (inl now) s rest =
          let is = next_here first u us now in
          let low = rises.1 in
          next_here both u us (joined u ∙ or_left (first u) (second u) now) ∙ sym is
          ∙ sym (cond-false (nat_eq (next_of first (u ∷ us)) nowhere) (next_of second (u ∷ us)) (next_of first (u ∷ us)) (ne_eqb (next_of first (u ∷ us)) nowhere (λ e. omega (arith, e, is, low))))
      by (inr none) (inl now) rest =
          let is = next_here second u us now in
          let gone = next_later first u us none ∙ next_none first us (no_first (omega (arith, is, later))) in
          next_here both u us (joined u ∙ ap (λ b. b || second u) none ∙ now) ∙ sym is
          ∙ sym (cond-true (nat_eq (next_of first (u ∷ us)) nowhere) (next_of second (u ∷ us)) (next_of first (u ∷ us)) (eq-eqb (next_of first (u ∷ us)) nowhere gone))
      by (inr none) (inr neither) rest =
          let f = next_later first u us none in
          let s = next_later second u us neither in
          next_later both u us (joined u ∙ or_from (first u) (second u) none neither) ∙ rest (omega (arith, s, later))
          ∙ (λ i. cond (nat_eq (sym f i) nowhere) (sym s i) (sym f i))
