-- The roles of tokens, one occurrence after another.
use Rattle.std.proofs.Common.{◌≡◌, ℕ, ◌+◌, ◌<◌, ◌≤◌, Bool, true, false, cond, Option, Some, None, List, [], ◌∷◌, ◌++◌, length, get_or, drop, append_assoc, refl, sym, ap, ◌∙◌, arith, All}
use Rattle.std.specs.List.{cons_option, count_by}
use Rattle.std.specs.Option.{option_to_list}
use Rattle.std.proofs.lemmas.List.Elements.{All-cons, All-nil, All-append, All-same}
use Rattle.std.proofs.lemmas.List.Sums.{sum_by-drop_more}
use Rattle.luf_scope.specs.Order.{place, behind, is_loop, declares}
use Rattle.luf_scope.specs.declared.binder.Role.{Role}
use Rattle.luf_scope.specs.declared.occurrence.Occurrence.{Occurrence}
use Rattle.luf_scope.specs.declared.occurrence.Occurrence.TheVariants.{Local, LocalFunction, Parameter, ImplicitSelf, LoopVariable, Reads, Assigns, Field}
use Rattle.luf_scope.specs.inner.Laid.{AreLaid, role_here, roles_from}
use Rattle.luf_scope.proofs.Mapped.{dropped, pair_at}

cons_is : {A : Type 0} (o : Option A) (xs : List A) → cons_option o xs ≡ option_to_list o ++ xs
cons_is None xs = refl
cons_is (Some x) xs = refl

alone_low : (p token : ℕ) (r : Role) → token < p → All (λ (m : ℕ × Role). m.0 < p) ((token, r) ∷ [])
alone_low p token r low = All-cons (λ (m : ℕ × Role). m.0 < p) (token, r) [] low (All-nil (λ (m : ℕ × Role). m.0 < p))

-- the token of a role is where its occurrence stands
pub role_low : (n : ℕ) (m : Option ℕ) (o : Occurrence) (p : ℕ) → behind o ≤ p → (is_loop o ≡ false → place o < behind o) → All (λ (m : ℕ × Role). m.0 < p) (option_to_list (role_here n m o))
role_low n m (Local name (Some a) from to) p le stands = alone_low p name _ (omega (arith, stands refl))
role_low n m (Local name None from to) p le stands = alone_low p name _ (omega (arith, stands refl))
role_low n m (LocalFunction name from to) p le stands = alone_low p name _ (omega (arith, stands refl))
role_low n m (Parameter name from to) p le stands = alone_low p name _ (omega (arith, stands refl))
role_low n m (ImplicitSelf name from to) p le stands = alone_low p name _ (omega (arith, stands refl))
role_low n m (LoopVariable name from to) p le stands = alone_low p name _ (omega (arith, stands refl))
role_low n m (Reads name) p le stands = alone_low p name _ (omega (arith, stands refl))
role_low n m (Assigns name) p le stands = alone_low p name _ (omega (arith, stands refl))
role_low n m (Field name) p le stands = alone_low p name _ (omega (arith, stands refl))
role_low n m o p le stands = All-nil (λ (r : ℕ × Role). r.0 < p)

module _ (os : List Occurrence) (i : ℕ) (d : Occurrence) (inside : i < length os) (n next : ℕ) (counted : next ≡ cond (declares (get_or os i d)) (n + 1) n) where
  count_step : (b : Bool) (left right total : ℕ) → next ≡ cond b (n + 1) n → n + left ≡ total → left ≡ cond b 1 0 + right → next + right ≡ total
  count_step true left right total is before step = omega arith
  count_step false left right total is before step = omega arith

  pub counted_on : n + count_by declares (drop i os) ≡ count_by declares os → next + count_by declares (drop (i + 1) os) ≡ count_by declares os
  counted_on before = count_step (declares (get_or os i d)) (count_by declares (drop i os)) (count_by declares (drop (i + 1) os)) (count_by declares os) counted before (sum_by-drop_more (λ o. cond (declares o) 1 0) os i d inside)

  -- one more role
  pub role_more : (means : Occurrence → Option ℕ) (m : Option ℕ) (old new all : List (ℕ × Role)) → m ≡ means (get_or os i d) → old ++ roles_from means n (drop i os) ≡ all → new ≡ old ++ option_to_list (role_here n m (get_or os i d)) → new ++ roles_from means next (drop (i + 1) os) ≡ all
  role_more means m old new all is before added =
      let o = get_or os i d in
      let rest = drop (i + 1) os in
      ap (λ rs. rs ++ roles_from means next rest) added
      ∙ append_assoc old (option_to_list (role_here n m o)) (roles_from means next rest)
      ∙ ap (λ k. old ++ (option_to_list (role_here n m o) ++ roles_from means k rest)) counted
      ∙ ap (λ k. old ++ (option_to_list (role_here n k o) ++ roles_from means (cond (declares o) (n + 1) n) rest)) is
      ∙ ap (λ rs. old ++ rs) (sym (cons_is (role_here n (means o) o) (roles_from means (cond (declares o) (n + 1) n) rest)))
      ∙ ap (λ us. old ++ roles_from means n us) (sym (dropped os i d inside))
      ∙ before

  pub low_on : (laid : AreLaid os) (m : Option ℕ) (old new : List (ℕ × Role)) (j : ℕ) (e : Occurrence) → i < j → j < length os → All (λ (r : ℕ × Role). r.0 < place (get_or os j e)) old → new ≡ old ++ option_to_list (role_here n m (get_or os i d)) → All (λ (r : ℕ × Role). r.0 < place (get_or os j e)) new
  low_on laid m old new j e less within low added =
      let all : All (λ (r : ℕ × Role). r.0 < place (get_or os j e)) (old ++ option_to_list (role_here n m (get_or os i d))) = All-append (λ (r : ℕ × Role). r.0 < place (get_or os j e)) old (option_to_list (role_here n m (get_or os i d))) low
      (role_low n m (get_or os i d) (place (get_or os j e)) (pair_at (λ u v. behind u ≤ place v) os i j d e laid.later less within) (laid.stands i d inside)) in
      All-same (λ (r : ℕ × Role). r.0 < place (get_or os j e)) new (old ++ option_to_list (role_here n m (get_or os i d))) added all
