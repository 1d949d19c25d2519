-- Occurrences in order lie one behind another, so that they declare no more variables than there are tokens.
use Rattle.std.proofs.Common.{◌≡◌, ℕ, ◌+◌, ◌<◌, ◌≤◌, Bool, true, false, cond, List, [], ◌∷◌, length, get_or, refl, sym, ap, ◌∙◌, arith, All, AllPairs}
use Rattle.std.specs.List.{count_by, cons_option}
use Rattle.std.proofs.lemmas.List.Elements.{All-head, All-tail}
use Rattle.std.proofs.lemmas.List.Sums.{sum_by-cons}
use Rattle.luf_scope.specs.Local.{Spelling, LocalVariable, declared_by, locals_of}
use Rattle.luf_scope.specs.Order.{place, behind, is_loop, declares, AreOrdered}
use Rattle.luf_scope.specs.declared.occurrence.Occurrence.{Occurrence}
use Rattle.luf_scope.specs.declared.occurrence.Occurrence.TheVariants.{Local, LocalFunction, Parameter, ImplicitSelf, LoopVariable}
use Rattle.luf_scope.specs.inner.Laid.{AreLaid}
use Rattle.luf_scope.proofs.Laying.{place_le_behind}
use Rattle.luf_scope.proofs.Marked.{pairs_head, pairs_tail}

pub laid_from_order : (a e c : ℕ) (os : List Occurrence) → AreOrdered a e c os → AreLaid os
laid_from_order a e c os order = record {
  later = λ i j d less inside. (order.pairs i j d less inside).later;
  stands = λ i d inside. (order.within i d inside).own.some;
}

pub laid_tail : (o : Occurrence) (os : List Occurrence) → AreLaid (o ∷ os) → AreLaid os
laid_tail o os laid = record {
  later = pairs_tail (λ u v. behind u ≤ place v) o os laid.later;
  stands = All-tail (λ u. is_loop u ≡ false → place u < behind u) o os laid.stands;
}

pub places_from_order : (a e c : ℕ) (os : List Occurrence) → AreOrdered a e c os → AllPairs (λ u v. place u ≤ place v) os
places_from_order a e c os order i j d less inside =
    let long : place (get_or os i d) ≤ behind (get_or os i d) = (order.within i d (omega arith)).own.long in
    let on : behind (get_or os i d) ≤ place (get_or os j d) = (order.pairs i j d less inside).later in
    omega arith

not_loop : (o : Occurrence) → declares o ≡ true → is_loop o ≡ false
not_loop (Local name attribute from to) is = refl
not_loop (LocalFunction name from to) is = refl
not_loop (Parameter name from to) is = refl
not_loop (ImplicitSelf colon from to) is = refl
not_loop (LoopVariable name from to) is = refl
not_loop o is = absurd cc

one_step : (b : Bool) (a p q e n : ℕ) → a ≤ p → p ≤ q → (b ≡ true → p < q) → q + n ≤ e → a + (cond b 1 0 + n) ≤ e
one_step true a p q e n low long more rest = omega (arith, more refl)
one_step false a p q e n low long more rest = omega arith

pub few_declared : (os : List Occurrence) (a e : ℕ) → a ≤ e → AreLaid os → All (λ u. a ≤ place u) os → All (λ u. behind u ≤ e) os → a + count_by declares os ≤ e
few_declared [] a e le laid low high = omega arith
few_declared (o ∷ os) a e le laid low high =
    let stands : is_loop o ≡ false → place o < behind o = All-head (λ u. is_loop u ≡ false → place u < behind u) o os laid.stands in
    let end : behind o ≤ e = All-head (λ u. behind u ≤ e) o os high in
    let rest : behind o + count_by declares os ≤ e = few_declared os (behind o) e end (laid_tail o os laid) (pairs_head (λ u v. behind u ≤ place v) o os laid.later) (All-tail (λ u. behind u ≤ e) o os high) in
    let step : a + (cond (declares o) 1 0 + count_by declares os) ≤ e = one_step (declares o) a (place o) (behind o) e (count_by declares os) (All-head (λ u. a ≤ place u) o os low) (place_le_behind o stands) (λ is. stands (not_loop o is)) rest in
    omega (arith, sum_by-cons (λ u. cond (declares u) 1 0) o os)

pub count_from_order : (e : ℕ) (os : List Occurrence) → AreOrdered 0 e e os → count_by declares os ≤ e
count_from_order e os order = omega (arith, few_declared os 0 e (omega arith) (laid_from_order 0 e e os order) (λ i d inside. (order.within i d inside).low) (λ i d inside. (order.within i d inside).high))

one_local : (spelled : Spelling) (o : Occurrence) (vs : List LocalVariable) → length (cons_option (declared_by spelled o) vs) ≡ cond (declares o) 1 0 + length vs
one_local spelled (Local name attribute from to) vs = omega arith
one_local spelled (LocalFunction name from to) vs = omega arith
one_local spelled (Parameter name from to) vs = omega arith
one_local spelled (ImplicitSelf colon from to) vs = omega arith
one_local spelled (LoopVariable name from to) vs = omega arith
one_local spelled o vs = omega arith

pub locals_counted : (spelled : Spelling) (os : List Occurrence) → length (locals_of spelled os) ≡ count_by declares os
locals_counted spelled [] = refl
locals_counted spelled (o ∷ os) = one_local spelled o (locals_of spelled os) ∙ ap (λ n. cond (declares o) 1 0 + n) (locals_counted spelled os) ∙ sym (sum_by-cons (λ u. cond (declares u) 1 0) o os)

pub few_locals : (spelled : Spelling) (e : ℕ) (os : List Occurrence) → AreOrdered 0 e e os → length (locals_of spelled os) ≤ e
few_locals spelled e os order = omega (arith, locals_counted spelled os, count_from_order e os order)
