-- The first fault of all is the first of those that are first of their words.
use Rattle.std.proofs.Common.{◌≡◌, ℕ, ◌<◌, ◌≤◌, inl, inr, Bool, true, false, ◌&&◌, ◌||◌, cond, nat_eq, nat_lt, Option, Some, None, IfSome, List, [], ◌∷◌, ◌++◌, map, get_or, refl, sym, ap, ◌∙◌, subst, arith, All}
use Rattle.std.specs.List.{filter_map, cons_option}
use Rattle.std.specs.Option.{option_or, option_map}
use Rattle.std.proofs.lemmas.Bool.{cases_lt}
use Rattle.std.proofs.lemmas.Bool.Decides.{nat_tests}
use Rattle.std.proofs.lemmas.List.Elements.{All-head, All-tail, All-append, All-map}
use Rattle.luf_scope.specs.Fault.{earlier, first_fault, first_of, rank, name_faults, unknown_attribute, second_close, constant_assigned, varargs_outside}
use Rattle.luf_scope.specs.Local.{Spelling}
use Rattle.luf_scope.specs.Order.{place, behind, is_loop}
use Rattle.luf_scope.specs.declared.fault.ScopeBad.{ScopeBad}
use Rattle.luf_scope.specs.declared.fault.ScopeWhat.{ScopeWhat}
use Rattle.luf_scope.specs.declared.fault.ScopeWhat.TheVariants.{UnknownAttribute, TwoClose, ConstAssign, VarargOutside}
use Rattle.luf_scope.specs.declared.occurrence.Occurrence.{Occurrence}
use Rattle.luf_scope.specs.declared.occurrence.Occurrence.TheVariants.{Local, Assigns, Varargs}
use Rattle.luf_scope.specs.inner.Laid.{AreLaid, first_at}
use Rattle.luf_scope.proofs.Counted.{laid_tail}
use Rattle.luf_scope.proofs.Laying.{all_filter_map}
use Rattle.luf_scope.proofs.Marked.{pairs_head}

joined : Option ScopeBad → Option ScopeBad → Option ScopeBad
joined None o = o
joined (Some a) o = Some (earlier a o)

keep : (a b : ScopeBad) → a.token ≤ b.token → cond (nat_lt b.token a.token) b a ≡ a
keep a b le = let no_lt : nat_lt b.token a.token ≡ false = grind (arith, nat_tests) in ap (λ t. cond t b a) no_lt

change : (a b : ScopeBad) → b.token < a.token → cond (nat_lt b.token a.token) b a ≡ b
change a b less = let yes_lt : nat_lt b.token a.token ≡ true = grind (arith, nat_tests) in ap (λ t. cond t b a) yes_lt

least : (x a b : ScopeBad) → earlier x (Some (earlier a (Some b))) ≡ earlier (earlier x (Some a)) (Some b)
least x a b = elim (cases_lt b.token a.token) [
  | inl b_a ↦ elim (cases_lt a.token x.token) [
    | inl a_x ↦ ap (λ y. earlier x (Some y)) (change a b b_a) ∙ change x b (omega arith) ∙ sym (ap (λ y. earlier y (Some b)) (change x a a_x) ∙ change a b b_a)
    | inr x_a ↦ ap (λ y. earlier x (Some y)) (change a b b_a) ∙ sym (ap (λ y. earlier y (Some b)) (keep x a x_a))
  ]
  | inr a_b ↦ elim (cases_lt a.token x.token) [
    | inl a_x ↦ ap (λ y. earlier x (Some y)) (keep a b a_b) ∙ change x a a_x ∙ sym (ap (λ y. earlier y (Some b)) (change x a a_x) ∙ keep a b a_b)
    | inr x_a ↦ ap (λ y. earlier x (Some y)) (keep a b a_b) ∙ keep x a x_a ∙ sym (ap (λ y. earlier y (Some b)) (keep x a x_a) ∙ keep x b (omega arith))
  ]
]

in_turn : (x : ScopeBad) (o p : Option ScopeBad) → Some (earlier x (joined o p)) ≡ joined (Some (earlier x o)) p
unfolding joined
in_turn x None p = refl
in_turn x (Some a) None = refl
in_turn x (Some a) (Some b) = ap Some (least x a b)

both : (xs ys : List ScopeBad) → first_fault (xs ++ ys) ≡ joined (first_fault xs) (first_fault ys)
unfolding joined
both [] ys = refl
both (x ∷ xs) ys = ap (λ o. Some (earlier x o)) (both xs ys) ∙ in_turn x (first_fault xs) (first_fault ys)

-- this word at these tokens
abbrev pub faults_at : ScopeWhat → List ℕ → List ScopeBad
faults_at what tokens = map (λ token. record { token = token; what = what }) tokens

abbrev pub RanksTo : ℕ → ScopeBad → Type 0
RanksTo r a = rank a.what ≤ r

abbrev pub RanksFrom : ℕ → ScopeBad → Type 0
RanksFrom r a = r < rank a.what

by_rank : (r : ℕ) (o p : Option ScopeBad) → IfSome o (RanksTo r) → IfSome p (RanksFrom r) → joined o p ≡ first_of o p
unfolding joined
by_rank r None p low high = refl
by_rank r (Some a) None low high = refl
by_rank r (Some a) (Some b) low high =
    let no_lt : nat_lt (rank b.what) (rank a.what) ≡ false = grind (arith, nat_tests) in
    ap (λ t. Some (cond t b a)) (sym (either (nat_lt b.token a.token) (nat_eq b.token a.token) (nat_lt (rank b.what) (rank a.what)) no_lt))
  where
    either : (s t u : Bool) → u ≡ false → (s || (t && u)) ≡ s
    either true t u is = refl
    either false true u is = is
    either false false u is = refl

earlier_keeps : (P : ScopeBad → Type 0) (a : ScopeBad) (o : Option ScopeBad) → P a → IfSome o P → P (earlier a o)
earlier_keeps P a None here there = here
earlier_keeps P a (Some b) here there = either (nat_lt b.token a.token)
  where
    either : (t : Bool) → P (cond t b a)
    either true = there
    either false = here

first_keeps : (P : ScopeBad → Type 0) (xs : List ScopeBad) → All P xs → IfSome (first_fault xs) P
first_keeps P [] all = tt
first_keeps P (x ∷ xs) all = earlier_keeps P x (first_fault xs) (All-head P x xs all) (first_keeps P xs (All-tail P x xs all))

-- the first of two lists of which the words of the one come before those of the other
pub first_of_both : (r : ℕ) (xs ys : List ScopeBad) → All (RanksTo r) xs → All (RanksFrom r) ys → first_fault (xs ++ ys) ≡ first_of (first_fault xs) (first_fault ys)
first_of_both r xs ys low high = both xs ys ∙ by_rank r (first_fault xs) (first_fault ys) (first_keeps (RanksTo r) xs low) (first_keeps (RanksFrom r) ys high)

-- the faults of one word are found in their order, where each stands where its occurrence does
pub record StandsAt (token : ℕ) (o : Occurrence) : Type 0 where
  pub low : place o ≤ token
  pub high : token < behind o

module _ (what : ScopeWhat) (test : Occurrence → Option ℕ) (stands : (o : Occurrence) → (is_loop o ≡ false → place o < behind o) → IfSome (test o) (λ t. StandsAt t o)) where
  least_first : (t : ℕ) (ts : List ℕ) → All (λ u. t ≤ u) ts → earlier (record { token = t; what = what }) (first_fault (faults_at what ts)) ≡ record { token = t; what = what }
  least_first t ts above = kept (first_fault (faults_at what ts)) (first_keeps (λ b. t ≤ b.token) (faults_at what ts) (All-map (λ b. t ≤ b.token) (λ token. record { token = token; what = what }) ts above))
    where
      kept : (o : Option ScopeBad) → IfSome o (λ b. t ≤ b.token) → earlier (record { token = t; what = what }) o ≡ record { token = t; what = what }
      kept None le = refl
      kept (Some b) le = keep (record { token = t; what = what }) b le

  one_word : (o : Occurrence) (os : List Occurrence) (r : Option ℕ) → test o ≡ r → AreLaid (o ∷ os)
      → first_fault (faults_at what (filter_map test os)) ≡ first_at what test os
      → first_fault (faults_at what (cons_option r (filter_map test os))) ≡ option_or (option_map (λ t. record { token = t; what = what }) r) (first_at what test os)
  one_word o os None is laid rest = rest
  one_word o os (Some t) is laid rest = ap Some (least_first t (filter_map test os) (all_filter_map test (λ u. t ≤ u) os (λ j d inside. above (get_or os j d) (All-head (λ u. is_loop u ≡ false → place u < behind u) o os laid.stands) (All-tail (λ u. is_loop u ≡ false → place u < behind u) o os laid.stands j d inside) (pairs_head (λ u v. behind u ≤ place v) o os laid.later j d inside))))
    where
      above : (v : Occurrence) → (is_loop o ≡ false → place o < behind o) → (is_loop v ≡ false → place v < behind v) → behind o ≤ place v → IfSome (test v) (λ u. t ≤ u)
      above v here there le = weaker (test v) (stands v there)
        where
          at : StandsAt t o
          at = subst (λ x. IfSome x (λ u. StandsAt u o)) is (stands o here)

          weaker : (x : Option ℕ) → IfSome x (λ u. StandsAt u v) → IfSome x (λ u. t ≤ u)
          weaker None h = tt
          weaker (Some u) h = omega (arith, at.high, h.low)

  pub first_of_word : (os : List Occurrence) → AreLaid os → first_fault (faults_at what (filter_map test os)) ≡ first_at what test os
  first_of_word [] laid = refl
  first_of_word (o ∷ os) laid = one_word o os (test o) refl laid (first_of_word os (laid_tail o os laid))

when_stands : (b : Bool) (t : ℕ) (o : Occurrence) → place o ≤ t → t < behind o → IfSome (cond b (Some t) None) (λ u. StandsAt u o)
when_stands true t o low high = record { low = low; high = high }
when_stands false t o low high = tt

module _ (spelled : Spelling) (os : List Occurrence) where
  unknown_stands : (o : Occurrence) → (is_loop o ≡ false → place o < behind o) → IfSome (unknown_attribute spelled os o) (λ t. StandsAt t o)
  unknown_stands (Local name (Some a) from to) stands = when_stands _ a (Local name (Some a) from to) (omega (arith, stands refl)) (omega arith)
  unknown_stands (Local name None from to) stands = tt
  unknown_stands o stands = tt

  second_stands : (o : Occurrence) → (is_loop o ≡ false → place o < behind o) → IfSome (second_close spelled os o) (λ t. StandsAt t o)
  second_stands (Local name (Some a) from to) stands = when_stands _ a (Local name (Some a) from to) (omega (arith, stands refl)) (omega arith)
  second_stands (Local name None from to) stands = tt
  second_stands o stands = tt

  constant_stands : (o : Occurrence) → (is_loop o ≡ false → place o < behind o) → IfSome (constant_assigned spelled os o) (λ t. StandsAt t o)
  constant_stands (Assigns name) stands = when_stands _ name (Assigns name) (omega arith) (omega arith)
  constant_stands o stands = tt

  varargs_stands : (o : Occurrence) → (is_loop o ≡ false → place o < behind o) → IfSome (varargs_outside spelled os o) (λ t. StandsAt t o)
  varargs_stands (Varargs token) stands = when_stands _ token (Varargs token) (omega arith) (omega arith)
  varargs_stands o stands = tt

  all_ranked : (P : ScopeBad → Type 0) (what : ScopeWhat) (ts : List ℕ) → ((t : ℕ) → P (record { token = t; what = what })) → All P (faults_at what ts)
  all_ranked P what ts each = All-map P (λ token. record { token = token; what = what }) ts (λ i d inside. each (get_or ts i d))

  -- the first fault of a name, by its words
  pub first_name_fault : AreLaid os → first_of (first_of (first_of (first_at UnknownAttribute (unknown_attribute spelled os) os) (first_at TwoClose (second_close spelled os) os)) (first_at ConstAssign (constant_assigned spelled os) os)) (first_at VarargOutside (varargs_outside spelled os) os) ≡ first_fault (name_faults spelled os)
  first_name_fault laid =
      let us : List ScopeBad = faults_at UnknownAttribute (filter_map (unknown_attribute spelled os) os) in
      let ss : List ScopeBad = faults_at TwoClose (filter_map (second_close spelled os) os) in
      let cs : List ScopeBad = faults_at ConstAssign (filter_map (constant_assigned spelled os) os) in
      let vs : List ScopeBad = faults_at VarargOutside (filter_map (varargs_outside spelled os) os) in
      let u : All (RanksTo 0) us = all_ranked (RanksTo 0) UnknownAttribute (filter_map (unknown_attribute spelled os) os) (λ t. omega arith) in
      let u1 : All (RanksTo 1) us = all_ranked (RanksTo 1) UnknownAttribute (filter_map (unknown_attribute spelled os) os) (λ t. omega arith) in
      let u2 : All (RanksTo 2) us = all_ranked (RanksTo 2) UnknownAttribute (filter_map (unknown_attribute spelled os) os) (λ t. omega arith) in
      let s : All (RanksFrom 0) ss = all_ranked (RanksFrom 0) TwoClose (filter_map (second_close spelled os) os) (λ t. omega arith) in
      let s1 : All (RanksTo 1) ss = all_ranked (RanksTo 1) TwoClose (filter_map (second_close spelled os) os) (λ t. omega arith) in
      let s2 : All (RanksTo 2) ss = all_ranked (RanksTo 2) TwoClose (filter_map (second_close spelled os) os) (λ t. omega arith) in
      let c : All (RanksFrom 1) cs = all_ranked (RanksFrom 1) ConstAssign (filter_map (constant_assigned spelled os) os) (λ t. omega arith) in
      let c2 : All (RanksTo 2) cs = all_ranked (RanksTo 2) ConstAssign (filter_map (constant_assigned spelled os) os) (λ t. omega arith) in
      let v : All (RanksFrom 2) vs = all_ranked (RanksFrom 2) VarargOutside (filter_map (varargs_outside spelled os) os) (λ t. omega arith) in
      let fu = first_of_word UnknownAttribute (unknown_attribute spelled os) unknown_stands os laid in
      let fs = first_of_word TwoClose (second_close spelled os) second_stands os laid in
      let fc = first_of_word ConstAssign (constant_assigned spelled os) constant_stands os laid in
      let fv = first_of_word VarargOutside (varargs_outside spelled os) varargs_stands os laid in
      sym (first_of_both 2 ((us ++ ss) ++ cs) vs (All-append (RanksTo 2) (us ++ ss) cs (All-append (RanksTo 2) us ss u2 s2) c2) v
      ∙ ap (λ o. first_of o (first_fault vs)) (first_of_both 1 (us ++ ss) cs (All-append (RanksTo 1) us ss u1 s1) c
      ∙ ap (λ o. first_of o (first_fault cs)) (first_of_both 0 us ss u s ∙ ap (λ o. first_of o (first_fault ss)) fu ∙ ap (first_of (first_at UnknownAttribute (unknown_attribute spelled os) os)) fs)
      ∙ ap (first_of (first_of (first_at UnknownAttribute (unknown_attribute spelled os) os) (first_at TwoClose (second_close spelled os) os))) fc)
      ∙ ap (first_of (first_of (first_of (first_at UnknownAttribute (unknown_attribute spelled os) os) (first_at TwoClose (second_close spelled os) os)) (first_at ConstAssign (constant_assigned spelled os) os))) fv)
