-- How what parts say lies, from how what they are made of does.
use Rattle.std.proofs.Common.{◌≡◌, ℕ, suc, ◌<◌, ◌≤◌, ◌⊎◌, true, false, List, [], ◌∷◌, ◌++◌, All, AllPairs, get_or, sym, ◌∙◌, arith, inl, inr, ⊎_elim, true≢false}
use Rattle.std.proofs.lemmas.List.Elements.{All-head, All-tail, All-cons, All-nil, All-append, All-weaker}
use Rattle.std.proofs.lemmas.List.Kept.{AllPairs-cons}
use Rattle.luf_scope.specs.declared.occurrence.Occurrence.{Occurrence}
use Rattle.luf_scope.specs.Order.{place, behind, declares, from_of, to_of, is_loop, is_label, AttributeBehind, IsPlaced, AreNested, Follows, Opens, Within, AreOrdered}

pub pairs_head : {X : Type 0} (R : X → X → Type 0) (x : X) (xs : List X) → AllPairs R (x ∷ xs) → All (R x) xs
pairs_head R x xs pairs k d within = pairs 0 (suc k) d (omega arith) (omega arith)

pub pairs_tail : {X : Type 0} (R : X → X → Type 0) (x : X) (xs : List X) → AllPairs R (x ∷ xs) → AllPairs R xs
pairs_tail R x xs pairs i j d below within = pairs (suc i) (suc j) d (omega arith) (omega arith)

pub pairs_append : {X : Type 0} (R : X → X → Type 0) (xs ys : List X) → AllPairs R xs → AllPairs R ys → All (λ x. All (R x) ys) xs → AllPairs R (xs ++ ys)
pairs_append R [] ys first second across = second
pairs_append R (x ∷ xs) ys first second across =
    AllPairs-cons R x (xs ++ ys) (All-append (R x) xs ys (pairs_head R x xs first) (All-head (λ u. All (R u) ys) x xs across))
    (pairs_append R xs ys (pairs_tail R x xs first) second (All-tail (λ u. All (R u) ys) x xs across))

pub nothing_lies : (a e c : ℕ) → a ≤ e → e ≤ c → AreOrdered a e c []
nothing_lies a e c on up = record { on = on; up_to = up; pairs = λ i j d below inside. absurd (omega arith); within = All-nil (Within a e c) }

-- a part of a larger one, in the same block
opens_more : (e f c : ℕ) (u : Occurrence) → e ≤ f → Opens e c u → Opens f c u
opens_more e f c u up o = record { after = o.after; within = let h = o.within in omega (arith, h); forward = o.forward; ends = ⊎_elim (λ h. inl h) (λ (h : to_of u ≤ e). inr (omega (arith, h))) o.ends }

within_more : (a b e f c : ℕ) (u : Occurrence) → a ≤ b → e ≤ f → Within b e c u → Within a f c u
within_more a b e f c u down up w = record { own = w.own; low = let h = w.low in omega (arith, h); high = let h = w.high in omega (arith, h); opens = λ is. opens_more e f c u up (w.opens is) }

pub wider : (a b e f c : ℕ) (os : List Occurrence) → a ≤ b → e ≤ f → f ≤ c → AreOrdered b e c os → AreOrdered a f c os
wider a b e f c os down up last l = record { on = let h = l.on in omega (arith, h); up_to = last; pairs = l.pairs; within = All-weaker (Within b e c) (Within a f c) (λ u w. within_more a b e f c u down up w) os l.within }

-- a part whose scopes end in it, in a block
opens_out : (e c : ℕ) (u : Occurrence) → Opens e e u → Opens e c u
opens_out e c u o = record { after = o.after; within = o.within; forward = o.forward; ends = inr (⊎_elim (λ (h : to_of u ≡ e). omega (arith, h)) (λ h. h) o.ends) }

pub out : (a e c : ℕ) (os : List Occurrence) → e ≤ c → AreOrdered a e e os → AreOrdered a e c os
out a e c os up l = record { on = l.on; up_to = up; pairs = l.pairs; within = All-weaker (Within a e e) (Within a e c) (λ u w. record { own = w.own; low = w.low; high = w.high; opens = λ is. opens_out e c u (w.opens is) }) os l.within }

-- what is declared in a part, and what is declared behind it in the same block
nested_behind : (m e c : ℕ) (u v : Occurrence) → m ≤ place v → e ≤ c → Opens m c u → Opens e c v → AreNested u v
nested_behind m e c u v low up o p =
    let at = o.within in let after = p.after in let last = p.ends in
    record {
      before = λ h. absurd (omega (arith, at, after, h));
      inside = λ _. ⊎_elim
          (λ (same : to_of u ≡ c). inl (⊎_elim (λ (h : to_of v ≡ c). omega (arith, h, same)) (λ (h : to_of v ≤ e). omega (arith, h, same)) last))
          (λ (short : to_of u ≤ m). inr (omega (arith, short, after))) o.ends;
    }

-- a part, and one behind it
pub joins : (a m e c : ℕ) (xs ys : List Occurrence) → AreOrdered a m c xs → AreOrdered m e c ys → AreOrdered a e c (xs ++ ys)
joins a m e c xs ys first second =
    let below = first.on in let above = second.on in let up = second.up_to in
    record {
      on = omega arith;
      up_to = up;
      pairs = pairs_append Follows xs ys first.pairs second.pairs (λ i p one j q two. let u = first.within i p one in let v = second.within j q two in
          record { later = let h = u.high in let k = v.low in omega (arith, h, k); nested = λ du dv. nested_behind m e c (get_or xs i p) (get_or ys j q) v.low up (u.opens du) (v.opens dv) });
      within = All-append (Within a e c) xs ys (wider a a m e c xs (omega arith) above up first).within (wider a m e e c ys below (omega arith) up second).within;
    }

-- one that declares nothing, in front
pub one_first : (a m e c : ℕ) (u : Occurrence) (os : List Occurrence) → declares u ≡ false → IsPlaced u → a ≤ place u → behind u ≤ m → AreOrdered m e c os → AreOrdered a e c (u ∷ os)
one_first a m e c u os none own low high rest =
    let on = rest.on in
    let long = own.long in
    record {
      on = omega arith;
      up_to = rest.up_to;
      pairs = AllPairs-cons Follows u os (λ j q two. let v = rest.within j q two in record { later = let h = v.low in omega (arith, h); nested = λ du dv. absurd cc }) rest.pairs;
      within = All-cons (Within a e c) u os (record { own = own; low = low; high = omega arith; opens = λ du. absurd cc }) (wider a m e e c os (omega arith) (omega arith) rest.up_to rest).within;
    }

-- one by itself
pub one_alone : (a e c : ℕ) (u : Occurrence) → declares u ≡ false → IsPlaced u → a ≤ place u → behind u ≤ e → e ≤ c → AreOrdered a e c (u ∷ [])
one_alone a e c u none own low high up = one_first a e e c u [] none own low high (nothing_lies e e c (omega arith) up)

-- one that declares a variable, in front
pub declared_first : (a m e c : ℕ) (u : Occurrence) (os : List Occurrence) → IsPlaced u → a ≤ place u → behind u ≤ m → Opens e c u → All (λ v. declares v ≡ true → AreNested u v) os → AreOrdered m e c os → AreOrdered a e c (u ∷ os)
declared_first a m e c u os own low high opens nested rest =
    let on = rest.on in
    let long = own.long in
    record {
      on = omega arith;
      up_to = rest.up_to;
      pairs = AllPairs-cons Follows u os (λ j q two. let v = rest.within j q two in record { later = let h = v.low in omega (arith, h); nested = λ du dv. nested j q two dv }) rest.pairs;
      within = All-cons (Within a e c) u os (record { own = own; low = low; high = omega arith; opens = λ du. opens }) (wider a m e e c os (omega arith) (omega arith) rest.up_to rest).within;
    }

-- what is no loop and no label, with its attribute behind it
abbrev pub IsPlain : Occurrence → Type 0
IsPlain u = (is_loop u ≡ false) × (is_label u ≡ false) × AttributeBehind u

pub plain_placed : (u : Occurrence) → IsPlain u → place u < behind u → IsPlaced u
plain_placed u plain some = record { long = omega (arith, some); some = λ _. some; attribute = plain.2; block = λ is. absurd (true≢false (sym is ∙ plain.1)) }

-- names in a row, of one scope
pub data Row (f t : ℕ) : ℕ → ℕ → List Occurrence → Type 0 where
  no_row : {i j : ℕ} → i ≤ j → Row f t i j []
  in_row : {i m j : ℕ} {u : Occurrence} {us : List Occurrence} → IsPlain u → i ≤ place u → place u < behind u → behind u ≤ m → from_of u ≡ f → to_of u ≡ t → Row f t m j us → Row f t i j (u ∷ us)

pub row_on : {f t i j : ℕ} {us : List Occurrence} → Row f t i j us → i ≤ j
row_on (no_row on) = on
row_on (in_row _ low some high _ _ rest) = let on = row_on rest in omega (arith, on, low, some, high)

abbrev pub HasScope : ℕ → ℕ → Occurrence → Type 0
HasScope f t u = (from_of u ≡ f) × (to_of u ≡ t)

pub row_scope : {f t i j : ℕ} {us : List Occurrence} → Row f t i j us → All (HasScope f t) us
row_scope {f} {t} (no_row on) = All-nil (HasScope f t)
row_scope {f} {t} (in_row {u = u} {us = us} plain low some high from to rest) = All-cons (HasScope f t) u us (from, to) (row_scope rest)

same_nested : (f t : ℕ) (u v : Occurrence) → HasScope f t u → HasScope f t v → AreNested u v
same_nested f t u v a b = let af = a.0 in let at = a.1 in let bf = b.0 in let bt = b.1 in record { before = λ h. absurd (omega (arith, h, af, bf)); inside = λ h. inl (omega (arith, at, bt)) }

inner_nested : (m n f t : ℕ) (u v : Occurrence) → n ≤ f → f ≤ t → HasScope f t u → Within m n n v → declares v ≡ true → AreNested u v
inner_nested m n f t u v up last a w dv =
    let o = w.opens dv in let af = a.0 in let at = a.1 in let bw = o.within in
    let ends : to_of v ≤ n = ⊎_elim (λ (h : to_of v ≡ n). omega (arith, h)) (λ h. h) o.ends in
    record { before = λ h. omega (arith, ends, up, af); inside = λ h. inl (omega (arith, ends, up, last, at)) }

-- names of one scope, what stands between them and it, and where it begins
pub row_lies : {f t i j n : ℕ} {us os : List Occurrence} → Row f t i j us → AreOrdered j n n os → n ≤ f → f ≤ t → AreOrdered i f t (us ++ os)
row_lies {f} {t} {i} {j} {n} {os = os} (no_row on) inner up last = wider i j n f t os on up last (out j n t os (omega arith) inner)
row_lies {f} {t} {i} {j} {n} {os = os} (in_row {m = m} {u = u} {us = us} plain low some high from to rest) inner up last =
    let on = row_on rest in
    let below = inner.on in
    declared_first i m f t u (us ++ os) (plain_placed u plain some) low high
    (record { after = omega (arith, some, high, on, below, up, from); within = omega (arith, from); forward = omega (arith, from, to, last); ends = inl to })
    (All-append (λ v. declares v ≡ true → AreNested u v) us os
    (All-weaker (HasScope f t) (λ v. declares v ≡ true → AreNested u v) (λ v is _. same_nested f t u v (from, to) is) us (row_scope rest))
    (All-weaker (Within j n n) (λ v. declares v ≡ true → AreNested u v) (λ v w dv. inner_nested j n f t u v up last (from, to) w dv) os inner.within))
    (row_lies rest inner up last)

-- one whose scope holds all that is declared behind it
pub round_first : (a m e f t c : ℕ) (u : Occurrence) (os : List Occurrence) → IsPlain u → a ≤ place u → place u < behind u → behind u ≤ m → m ≤ f → HasScope f t u → f ≤ e → e ≤ t → t ≤ c → (t ≡ c) ⊎ (t ≤ e)
    → All (λ v. declares v ≡ true → f ≤ from_of v) os → AreOrdered m e e os → AreOrdered a e c (u ∷ os)
round_first a m e f t c u os plain low some high begins scope up last top ends behind_all inner =
    let uf = scope.0 in let ut = scope.1 in
    declared_first a m e c u os (plain_placed u plain some) low high
    (record { after = omega (arith, some, high, begins, uf); within = omega (arith, uf, up); forward = omega (arith, uf, ut, up, last); ends = ⊎_elim (λ (h : t ≡ c). inl (ut ∙ h)) (λ (h : t ≤ e). inr (omega (arith, h, ut))) ends })
    (λ k d two dv. let o = (inner.within k d two).opens dv in let first = behind_all k d two dv in
    let last_of : to_of (get_or os k d) ≤ e = ⊎_elim (λ (h : to_of (get_or os k d) ≡ e). omega (arith, h)) (λ h. h) o.ends in
    record { before = λ h. absurd (omega (arith, h, first, uf)); inside = λ h. inl (omega (arith, last_of, last, ut)) })
    (out m e c os (omega (arith, last, top)) inner)

-- what is declared in a part begins behind where the part begins
pub begin_in : (m e c : ℕ) (os : List Occurrence) → AreOrdered m e c os → All (λ v. declares v ≡ true → m ≤ from_of v) os
begin_in m e c os l k d two dv = let w = l.within k d two in let low = w.low in let o = w.opens dv in let after = o.after in omega (arith, low, after)
