-- What local variables are named from: the table behind all references, and the scopes in order.
use Rattle.std.proofs.Common.{◌≡◌, ℕ, ◌+◌, ◌<◌, ◌≤◌, inl, inr, Bool, true, false, cond, Option, Some, is_some, List, [], ◌∷◌, length, get_or, replicate, slice_get, All, AllPairs, refl, sym, ap, subst, ◌∙◌, ⊎_elim, arith}
use Rattle.std.specs.List.{count_by, cons_option}
use Rattle.std.specs.List.Sorted.{IsPermutation}
use Rattle.std.proofs.lemmas.Bool.{cases_lt, and_parts, eqb-true, leb-true, ltb-true}
use Rattle.std.proofs.lemmas.List.{get_or-replicate, length-replicate, get_or_past, length-map, drop_all}
use Rattle.std.proofs.lemmas.List.Elements.{All-nil, All-cons, All-head, All-tail, All-weaker}
use Rattle.std.proofs.lemmas.List.Kept.{AllPairs-cons}
use Rattle.std.proofs.lemmas.List.Sums.{sum_by-cons}
use Rattle.std.proofs.lemmas.Option.{same_Some, slice_get_within}
use Rattle.luf_scope.specs.Local.{Spelling, LocalVariable, binder_of, locals_of, is_active}
use Rattle.luf_scope.specs.Links.{NameTable, AreLinks}
use Rattle.luf_scope.specs.Order.{place, behind, is_loop, AreOrdered}
use Rattle.luf_scope.specs.declared.occurrence.Occurrence.{Occurrence}
use Rattle.luf_scope.specs.declared.occurrence.Occurrence.TheVariants.{Reads, Assigns}
use Rattle.luf_scope.specs.inner.Laid.{AreLaid}
use Rattle.luf_scope.specs.inner.Scopes.{used_by}
use Rattle.luf_scope.proofs.Counted.{laid_from_order, laid_tail}
use Rattle.luf_scope.proofs.Laying.{place_le_behind}
use Rattle.luf_scope.proofs.Lying.{pairs_head}
use Rattle.luf_scope.proofs.Ordered.{IsOpened, locals_opened}
use Rattle.luf_interf.specs.NewNames.{is_fixed}
use Rattle.luf_interf.specs.declared.uses.Owner.{Owner}
use Rattle.luf_interf.specs.declared.uses.Owner.TheVariants as owner
use Rattle.luf_interf.specs.declared.uses.Scope.{Scope}
use Rattle.luf_interf.specs.declared.uses.Use.{Use}
use Rattle.luf_interf.specs.inner.Owners.{IsOwner, renamed, free, AreUses, no_uses, no_name, no_owner, a_use, IsReading, scope_at, scopes_from, Begins}
use Rattle.luf_interf.specs.inner.Uses.{nowhere, is_local, is_of, IsHead, AreBarred, IsScope, AreScopes}
use Rattle.luf_interf.specs.inner.Among.{Among}
use Rattle.luf_interf.proofs.Among.{all_among, all_from, among_at}
use Rattle.luf_interf.proofs.OwnersFound.{use_owner, meant_active}
use Rattle.luf_interf.proofs.LeastLocals.{scope_sorted, sorted_apart}

-- ---- how many references there are

abbrev is_reference : Occurrence → Bool
is_reference o = is_some (used_by o)

not_loop : (o : Occurrence) → is_reference o ≡ true → is_loop o ≡ false
not_loop (Reads name) is = refl
not_loop (Assigns name) is = refl
not_loop o is = absurd cc

one_step : (b : Bool) (a p q e n : ℕ) → a ≤ p → p ≤ q → (b ≡ true → p < q) → q + n ≤ e → a + (cond b 1 0 + n) ≤ e
one_step true a p q e n low long more rest = omega (arith, more refl)
one_step false a p q e n low long more rest = omega arith

few_from : (os : List Occurrence) (a e : ℕ) → a ≤ e → AreLaid os → All (λ u. a ≤ place u) os → All (λ u. behind u ≤ e) os → a + count_by is_reference os ≤ e
few_from [] a e le laid low high = omega arith
few_from (o ∷ os) a e le laid low high =
    let stands : is_loop o ≡ false → place o < behind o = All-head (λ u. is_loop u ≡ false → place u < behind u) o os laid.stands in
    let end : behind o ≤ e = All-head (λ u. behind u ≤ e) o os high in
    let rest : behind o + count_by is_reference os ≤ e = few_from os (behind o) e end (laid_tail o os laid) (pairs_head (λ u v. behind u ≤ place v) o os laid.later) (All-tail (λ u. behind u ≤ e) o os high) in
    let step : a + (cond (is_reference o) 1 0 + count_by is_reference os) ≤ e = one_step (is_reference o) a (place o) (behind o) e (count_by is_reference os) (All-head (λ u. a ≤ place u) o os low) (place_le_behind o stands) (λ is. stands (not_loop o is)) rest in
    omega (arith, sum_by-cons (λ u. cond (is_reference u) 1 0) o os)

pub few_references : (e : ℕ) (os : List Occurrence) → AreOrdered 0 e e os → count_by (λ o. is_some (used_by o)) os ≤ e
few_references e os order = omega (arith, few_from os 0 e (omega arith) (laid_from_order 0 e e os order) (λ i d inside. (order.within i d inside).low) (λ i d inside. (order.within i d inside).high))

counts : (o : Occurrence) (t : ℕ) → used_by o ≡ Some t → (cond {A = ℕ} (is_some (used_by o)) 1 0) ≡ 1
counts o t used = let f : Option ℕ → ℕ = λ r. cond (is_some r) 1 0 in ap f used

pub few_uses : (spelled : Spelling) (all : List Occurrence) (size : ℕ) (os : List Occurrence) (uses : List Use) → AreUses spelled all size os uses → length uses ≤ count_by (λ o. is_some (used_by o)) os
few_uses spelled all size [] us no_uses = omega arith
few_uses spelled all size (o ∷ os) us (no_name none rest) = let few = few_uses spelled all size os us rest in let more = sum_by-cons (λ u. cond (is_some (used_by u)) 1 0) o os in omega (arith, few, more)
few_uses spelled all size (o ∷ os) us (no_owner used none rest) = let few = few_uses spelled all size os us rest in let more = sum_by-cons (λ u. cond (is_some (used_by u)) 1 0) o os in omega (arith, few, more)
few_uses spelled all size (o ∷ os) (u ∷ us) (a_use used owned rest) =
    let few = few_uses spelled all size os us rest in
    let more = sum_by-cons (λ w. cond (is_some (used_by w)) 1 0) o os in
    let one = counts o u.token used in
    omega (arith, few, more, one)

-- ---- the table before any reference is read

nowhere_all : (count n : ℕ) → get_or (replicate count nowhere) n nowhere ≡ nowhere
nowhere_all count n = ⊎_elim (λ below. get_or-replicate count n nowhere nowhere below) (λ past. get_or_past (replicate count nowhere) n nowhere (let l = length-replicate count nowhere in omega (arith, l, past))) (cases_lt n count)

pub reading_none : (e : ℕ) (os : List Occurrence) (spelled : Spelling) (links : NameTable) (count size : ℕ) (names behind firsts heads : List ℕ) → AreLinks spelled os e links → count ≡ length links.binders → size < nowhere
    → names ≡ replicate count nowhere → firsts ≡ replicate count nowhere → AreBarred size heads → IsReading spelled os (length os) names behind heads firsts []
reading_none e os spelled links count size names behind firsts heads are counted few names_are firsts_are barred = record {
  are = subst (λ xs. AreUses spelled os (length heads) xs []) (sym (drop_all (length os) os (omega arith))) no_uses;
  table = record {
    small = let n = barred.count in omega (arith, n, few);
    tells = λ k below. let n = barred.count in told k (barred.told k (omega (arith, n, below)));
    linked = tt;
  };
  first = λ n below. ap (λ xs. get_or xs n nowhere) firsts_are ∙ nowhere_all count n;
  count = ap length firsts_are ∙ length-replicate count nowhere ∙ counted ∙ ap length are.binders ∙ length-map (locals_of spelled os) binder_of;
  unnamed = λ n. ap (λ xs. get_or xs n nowhere) names_are ∙ nowhere_all count n;
}
  where
    told : (k : ℕ) → IsHead [] [] k (get_or heads k 0) → IsHead names [] k (get_or heads k 0)
    told k is = is

-- ---- the scopes

above_from : (n : ℕ) (vs : List LocalVariable) → All (λ s. n ≤ s.local) (scopes_from n vs)
above_from n [] = All-nil (λ s. n ≤ s.local)
above_from n (v ∷ vs) = by (is_fixed v) (All-weaker (λ s. n + 1 ≤ s.local) (λ s. n ≤ s.local) (λ s more. omega (arith, more)) (scopes_from (n + 1) vs) (above_from (n + 1) vs))
  where
    by : (b : Bool) → All (λ s. n ≤ s.local) (scopes_from (n + 1) vs) → All (λ s. n ≤ s.local) (cons_option (scope_at b n v.from v.to) (scopes_from (n + 1) vs))
    by true rest = rest
    by false rest = All-cons (λ s. n ≤ s.local) (record { local = n; from = v.from; to = v.to }) (scopes_from (n + 1) vs) (omega arith) rest

pub scopes_rise : (n : ℕ) (vs : List LocalVariable) → AllPairs (λ s t. s.local < t.local) (scopes_from n vs)
scopes_rise n [] = λ i j d less within. absurd (omega (arith, less, within))
scopes_rise n (v ∷ vs) = by (is_fixed v) (scopes_rise (n + 1) vs)
  where
    by : (b : Bool) → AllPairs (λ s t. s.local < t.local) (scopes_from (n + 1) vs) → AllPairs (λ s t. s.local < t.local) (cons_option (scope_at b n v.from v.to) (scopes_from (n + 1) vs))
    by true later = later
    by false later =
        let s : Scope = record { local = n; from = v.from; to = v.to } in
        AllPairs-cons (λ s t. s.local < t.local) s (scopes_from (n + 1) vs)
        (All-weaker (λ t. n + 1 ≤ t.local) (λ t. n < t.local) (λ t more. omega (arith, more)) (scopes_from (n + 1) vs) (above_from (n + 1) vs))
        later

module _ (e : ℕ) (os : List Occurrence) (lies : AreOrdered 0 e e os) (spelled : Spelling) (sorted : List Scope) (permutation : IsPermutation (scopes_from 0 (locals_of spelled os)) sorted) (order : AllPairs Begins sorted)
    (names behind heads firsts : List ℕ) (uses : List Use) (reading : IsReading spelled os 0 names behind heads firsts uses) (count : length names ≡ length firsts) where
  begins_rising : (s t : Scope) → Begins s t → s.from ≤ t.from
  begins_rising s t (inl less) = omega (arith, less)
  begins_rising s t (inr tie) = let same = tie.0 in omega (arith, same)

  local_of : (n : ℕ) (s : Scope) (o : Owner) (t : ℕ) → IsOwner spelled os (length heads) t (Some o) → is_local n o ≡ true → (v : LocalVariable) × (slice_get (locals_of spelled os) n ≡ Some v) × (is_active t v ≡ true)
  local_of n s (owner.Local m) t (renamed {v = v} means is free_v) same =
      let one = eqb-true m n same in
      (v, subst (λ j. slice_get (locals_of spelled os) j ≡ Some v) one is, meant_active spelled os (length heads) t m v means is)
  local_of n s (owner.Local m) t (free none x) same = elim x [ ]
  local_of n s (owner.Free k) t owned same = absurd cc

  one_scope : (s : Scope) → Among s sorted → IsScope uses names firsts s
  one_scope s m =
      let own = scope_sorted 0 e e os lies spelled sorted permutation order s m in
      let number = own.number in
      let within = slice_get_within (locals_of spelled os) own.place own.local own.is in
      let opened = all_among (IsOpened e) (locals_of spelled os) own.local (locals_opened 0 e e os spelled lies) (among_at (locals_of spelled os) own.place own.local own.is) in
      let after = opened.after in let forward = opened.forward in let sf = own.from in let st = own.to in
      let all = reading.count in
      record {
        some = omega (arith, after, forward, st);
        within = omega (arith, number, within, all, count);
        unnamed = reading.unnamed s.local;
        holds = all_from (λ u. is_of s.local u ≡ true → (s.from ≤ u.token) × (u.token < s.to)) uses (λ u n its.
            let found = local_of s.local s u.owner u.token (use_owner spelled os (length heads) uses reading.are u n) its in
            let same = same_Some found.0 own.local (sym found.1 ∙ ap (slice_get (locals_of spelled os)) (omega (arith, number)) ∙ own.is) in
            let bounds = and_parts _ _ found.2 in
            let low = leb-true found.0.from u.token bounds.0 in let high = ltb-true u.token found.0.to bounds.1 in
            let f = ap (λ v. v.from) same in let t = ap (λ v. v.to) same in
            (omega (arith, low, f, sf), omega (arith, high, t, st)));
        first = reading.first s.local (omega (arith, number, within, all));
      }

  pub are_scopes : AreScopes uses names firsts sorted
  are_scopes = record {
    rising = λ i j d less within. begins_rising (get_or sorted i d) (get_or sorted j d) (order i j d less within);
    apart = sorted_apart 0 e e os lies spelled sorted permutation order;
    each = all_from (IsScope uses names firsts) sorted one_scope;
  }
