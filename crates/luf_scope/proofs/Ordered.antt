-- What the order of occurrences tells of them, by their places in the list, and of the local variables among them.
use Rattle.std.proofs.Common.{◌≡◌, ℕ, ◌<◌, ◌≤◌, ◌⊎◌, true, false, Option, Some, None, List, [], ◌∷◌, All, AllPairs, length, get_or, refl, sym, ap, ◌∙◌, arith, inl, inr, ⊎_elim}
use Rattle.std.specs.List.{filter_map, cons_option}
use Rattle.std.specs.Option.{option_map_or}
use Rattle.std.proofs.lemmas.List.Elements.{All-nil, All-cons, All-head, All-tail}
use Rattle.std.proofs.lemmas.List.Kept.{AllPairs-cons}
use Rattle.luf_scope.specs.declared.occurrence.Occurrence.{Occurrence}
use Rattle.luf_scope.specs.declared.occurrence.Occurrence.TheVariants.{Local, LocalFunction, Parameter, ImplicitSelf, LoopVariable}
use Rattle.luf_scope.specs.Local.{Spelling, LocalVariable, declared_by, locals_of}
use Rattle.luf_scope.proofs.Lying.{pairs_head, pairs_tail}
use Rattle.luf_scope.specs.Order.{place, behind, declares, from_of, to_of, is_loop, is_label, StandsInBlock, AreNested, Follows, Opens, Within, AreOrdered}

module _ (a e c : ℕ) (os : List Occurrence) (lies : AreOrdered a e c os) where
  -- of two, the earlier one
  pub stands_before : (i j : ℕ) (d : Occurrence) → i < j → j < length os → behind (get_or os i d) ≤ place (get_or os j d)
  stands_before i j d below within = (lies.pairs i j d below within).later

  pub scopes_nest : (i j : ℕ) (d : Occurrence) → i < j → j < length os → declares (get_or os i d) ≡ true → declares (get_or os j d) ≡ true → AreNested (get_or os i d) (get_or os j d)
  scopes_nest i j d below within = (lies.pairs i j d below within).nested

  -- of one
  pub stands_in : (i : ℕ) (d : Occurrence) → i < length os → (a ≤ place (get_or os i d)) × (place (get_or os i d) ≤ behind (get_or os i d)) × (behind (get_or os i d) ≤ e)
  stands_in i d within = let w = lies.within i d within in (w.low, w.own.long, w.high)

  pub stands_at : (i : ℕ) (d : Occurrence) → i < length os → is_loop (get_or os i d) ≡ false → place (get_or os i d) < behind (get_or os i d)
  stands_at i d within = (lies.within i d within).own.some

  pub stands_in_block : (i : ℕ) (d : Occurrence) → i < length os → is_label (get_or os i d) ≡ true → StandsInBlock (get_or os i d)
  stands_in_block i d within = (lies.within i d within).own.block

  pub opens_at : (i : ℕ) (d : Occurrence) → i < length os → declares (get_or os i d) ≡ true → Opens e c (get_or os i d)
  opens_at i d within is = (lies.within i d within).opens is

  pub scope_behind : (i : ℕ) (d : Occurrence) → i < length os → declares (get_or os i d) ≡ true → place (get_or os i d) < from_of (get_or os i d)
  scope_behind i d within is = (opens_at i d within is).after

  pub scope_forward : (i : ℕ) (d : Occurrence) → i < length os → declares (get_or os i d) ≡ true → from_of (get_or os i d) ≤ to_of (get_or os i d)
  scope_forward i d within is = (opens_at i d within is).forward

-- ---- of what a list gives

all_more : {Y : Type 0} (Q : Y → Type 0) (o : Option Y) (ys : List Y) → ((y : Y) → o ≡ Some y → Q y) → All Q ys → All Q (cons_option o ys)
all_more Q None ys first rest = rest
all_more Q (Some y) ys first rest = All-cons Q y ys (first y refl) rest

pairs_more : {Y : Type 0} (S : Y → Y → Type 0) (o : Option Y) (ys : List Y) → ((y : Y) → o ≡ Some y → All (S y) ys) → AllPairs S ys → AllPairs S (cons_option o ys)
pairs_more S None ys first rest = rest
pairs_more S (Some y) ys first rest = AllPairs-cons S y ys (first y refl) rest

pub all_given : {X Y : Type 0} (P : X → Type 0) (Q : Y → Type 0) (h : X → Option Y) → ((x : X) (y : Y) → P x → h x ≡ Some y → Q y) → (xs : List X) → All P xs → All Q (filter_map h xs)
all_given P Q h each [] all = All-nil Q
all_given P Q h each (x ∷ xs) all = all_more Q (h x) (filter_map h xs) (λ y given. each x y (All-head P x xs all) given) (all_given P Q h each xs (All-tail P x xs all))

pub pairs_given : {X Y : Type 0} (R : X → X → Type 0) (S : Y → Y → Type 0) (h : X → Option Y) → ((x y : X) (u v : Y) → R x y → h x ≡ Some u → h y ≡ Some v → S u v) → (xs : List X) → AllPairs R xs → AllPairs S (filter_map h xs)
pairs_given R S h each [] pairs = λ i j d below within. absurd (omega arith)
pairs_given R S h each (x ∷ xs) pairs =
    pairs_more S (h x) (filter_map h xs) (λ u is. all_given (R x) (S u) h (λ y v r given. each x y u v r is given) xs (pairs_head R x xs pairs)) (pairs_given R S h each xs (pairs_tail R x xs pairs))

-- ---- the local variables

pub record IsDeclaredBy (u : Occurrence) (v : LocalVariable) : Type 0 where
  pub is : declares u ≡ true
  pub no_loop : is_loop u ≡ false
  pub token : v.token ≡ place u
  pub from : v.from ≡ from_of u
  pub to : v.to ≡ to_of u

field_of : (f : LocalVariable → ℕ) (a b : LocalVariable) → Some a ≡ Some b → f b ≡ f a
field_of f a b is = sym (ap (λ o. option_map_or f o 0) is)

of_local : (u : Occurrence) (a v : LocalVariable) → declares u ≡ true → is_loop u ≡ false → a.token ≡ place u → a.from ≡ from_of u → a.to ≡ to_of u → Some a ≡ Some v → IsDeclaredBy u v
of_local u a v is no_loop token from to same =
    record { is = is; no_loop = no_loop; token = field_of (λ x. x.token) a v same ∙ token; from = field_of (λ x. x.from) a v same ∙ from; to = field_of (λ x. x.to) a v same ∙ to }

pub declared_is : (spelled : Spelling) (u : Occurrence) (v : LocalVariable) → declared_by spelled u ≡ Some v → IsDeclaredBy u v
declared_is spelled (Local name attribute from to) v is = of_local (Local name attribute from to) _ v refl refl refl refl refl is
declared_is spelled (LocalFunction name from to) v is = of_local (LocalFunction name from to) _ v refl refl refl refl refl is
declared_is spelled (Parameter name from to) v is = of_local (Parameter name from to) _ v refl refl refl refl refl is
declared_is spelled (ImplicitSelf colon from to) v is = of_local (ImplicitSelf colon from to) _ v refl refl refl refl refl is
declared_is spelled (LoopVariable name from to) v is = of_local (LoopVariable name from to) _ v refl refl refl refl refl is
declared_is spelled _ v is = absurd cc

-- of a local variable: it is declared before it is active
pub record IsOpened (e : ℕ) (v : LocalVariable) : Type 0 where
  pub after : v.token < v.from
  pub within : v.from ≤ e
  pub forward : v.from ≤ v.to

-- of two, the earlier one first
pub record LocalsNest (u v : LocalVariable) : Type 0 where
  pub later : u.token < v.token
  pub before : v.from < u.from → v.to ≤ u.from
  pub inside : u.from ≤ v.from → (v.to ≤ u.to) ⊎ (u.to ≤ v.from)

opened : (e c : ℕ) (u : Occurrence) (v : LocalVariable) → Opens e c u → IsDeclaredBy u v → IsOpened e v
opened e c u v o d = let token = d.token in let from = d.from in let to = d.to in let after = o.after in let within = o.within in let forward = o.forward in
    record { after = omega (arith, token, from, after); within = omega (arith, from, within); forward = omega (arith, from, to, forward) }

pub locals_opened : (a e c : ℕ) (os : List Occurrence) (spelled : Spelling) → AreOrdered a e c os → All (IsOpened e) (locals_of spelled os)
locals_opened a e c os spelled lies = all_given (Within a e c) (IsOpened e) (declared_by spelled) (λ u v w given. let d = declared_is spelled u v given in opened e c u v (w.opens d.is) d) os lies.within

-- what both of two occurrences tell
record Both (u v : Occurrence) : Type 0 where
  follows : Follows u v
  stands : is_loop u ≡ false → place u < behind u

nest : (x y : Occurrence) (u v : LocalVariable) → Both x y → IsDeclaredBy x u → IsDeclaredBy y v → LocalsNest u v
nest x y u v b d f =
    let later = b.follows.later in let nested = b.follows.nested d.is f.is in let stands = b.stands d.no_loop in
    let ut = d.token in let uf = d.from in let ue = d.to in let vt = f.token in let vf = f.from in let ve = f.to in
    record {
      later = omega (arith, later, stands, ut, vt);
      before = λ h. let k = nested.before (omega (arith, h, uf, vf)) in omega (arith, k, uf, ve);
      inside = λ h. ⊎_elim (λ (k : to_of y ≤ to_of x). inl (omega (arith, k, ue, ve))) (λ (k : to_of x ≤ from_of y). inr (omega (arith, k, ue, vf))) (nested.inside (omega (arith, h, uf, vf)));
    }

pub locals_nest : (a e c : ℕ) (os : List Occurrence) (spelled : Spelling) → AreOrdered a e c os → AllPairs LocalsNest (locals_of spelled os)
locals_nest a e c os spelled lies =
    pairs_given Both LocalsNest (declared_by spelled) (λ x y u v b one two. nest x y u v b (declared_is spelled x u one) (declared_is spelled y v two)) os
    (λ i j d below within. record { follows = lies.pairs i j d below within; stands = (lies.within i d (omega (arith, below, within))).own.some })
