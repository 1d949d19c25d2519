-- A `close` behind another of its statement, read off those before it.
use Rattle.std.proofs.Common.{◌≡◌, ℕ, ◌+◌, ◌<◌, ◌≤◌, Bool, true, false, ◌&&◌, ◌||◌, cond, nat_eq, nat_lt, bytes_eq, codes, Some, None, List, [], ◌∷◌, ◌++◌, length, get_or, take, drop, refl, sym, ap, ◌∙◌, arith, All}
use Rattle.std.specs.List.{list_any}
use Rattle.std.specs.Option.{option_map_or, option_and_then}
use Rattle.std.proofs.lemmas.Bool.Decides.{nat_tests}
use Rattle.std.proofs.lemmas.List.{take-append-drop}
use Rattle.std.proofs.lemmas.List.Elements.{All-head, All-tail, All-cons}
use Rattle.std.proofs.lemmas.List.Folds.{list_any-append}
use Rattle.luf_scope.specs.Fault as fault
use Rattle.luf_scope.specs.Local.{Spelling}
use Rattle.luf_scope.specs.Order.{place, behind, is_loop}
use Rattle.luf_scope.specs.declared.occurrence.Occurrence.{Occurrence}
use Rattle.luf_scope.specs.declared.occurrence.Occurrence.TheVariants.{Local}
use Rattle.luf_scope.specs.inner.Laid.{AreLaid, closes_at, second_among}
use Rattle.luf_scope.proofs.Laying.{all_ended, all_behind, all_stand}
use Rattle.luf_scope.proofs.Mapped.{dropped}

any_same : {X : Type 0} (p q : X → Bool) (xs : List X) → All (λ x. p x ≡ q x) xs → list_any p xs ≡ list_any q xs
any_same p q [] same = refl
any_same p q (x ∷ xs) same = ap (λ b. b || list_any p xs) (All-head (λ y. p y ≡ q y) x xs same) ∙ ap (λ b. q x || b) (any_same p q xs (All-tail (λ y. p y ≡ q y) x xs same))

pub any_none : {X : Type 0} (p : X → Bool) (xs : List X) → All (λ x. p x ≡ false) xs → list_any p xs ≡ false
any_none p [] none = refl
any_none p (x ∷ xs) none = ap (λ b. b || list_any p xs) (All-head (λ y. p y ≡ false) x xs none) ∙ any_none p xs (All-tail (λ y. p y ≡ false) x xs none)

or_false : (b : Bool) → (b || false) ≡ b
or_false true = refl
or_false false = refl

earlier_close : (close : Bool) (from end a token : ℕ) → nat_lt a token ≡ true → ((nat_eq from end && nat_lt a token) && close) ≡ option_map_or (λ (c : ℕ × ℕ). nat_eq c.1 end) (cond close (Some (a, from)) None) false
earlier_close true from end a token low = ap (λ b. (nat_eq from end && b) && true) low ∙ and_true (nat_eq from end)
  where
    and_true : (b : Bool) → ((b && true) && true) ≡ b
    and_true true = refl
    and_true false = refl
earlier_close false from end a token low = and_false (nat_eq from end && nat_lt a token)
  where
    and_false : (b : Bool) → (b && false) ≡ false
    and_false true = refl
    and_false false = refl

later_close : (close b : Bool) (a token : ℕ) → nat_lt a token ≡ false → ((b && nat_lt a token) && close) ≡ false
later_close close true a token high = ap (λ c. c && close) high
later_close close false a token high = refl

module _ (spelled : Spelling) (os : List Occurrence) (end token : ℕ) where
  before_here : (u : Occurrence) (p : ℕ) → behind u ≤ p → p ≤ token → fault.closes_before spelled os end token u ≡ closes_at spelled end u
  before_here (Local name (Some a) from to) p ended le = earlier_close (bytes_eq (spelled a) (codes "close")) from end a token (let low : a < token = omega arith in grind (arith, nat_tests))
  before_here (Local name None from to) p ended le = refl
  before_here u p ended le = refl

  not_behind : (u : Occurrence) → token + 1 ≤ place u → (is_loop u ≡ false → place u < behind u) → fault.closes_before spelled os end token u ≡ false
  not_behind (Local name (Some a) from to) le stands = later_close (bytes_eq (spelled a) (codes "close")) (nat_eq from end) a token (let high : token ≤ a = omega (arith, stands refl) in grind (arith, nat_tests))
  not_behind (Local name None from to) le stands = refl
  not_behind u le stands = refl

module _ (spelled : Spelling) (os : List Occurrence) (i : ℕ) (laid : AreLaid os) (inside : i < length os) (d : Occurrence) where
  closed_before : (name a from to : ℕ) → get_or os i d ≡ Local name (Some a) from to → list_any (fault.closes_before spelled os from a) os ≡ list_any (closes_at spelled from) (take i os)
  closed_before name a from to here =
      let test : Occurrence → Bool = fault.closes_before spelled os from a in
      let stands : place (get_or os i d) < behind (get_or os i d) = laid.stands i d inside (ap is_loop here) in
      let at : place (get_or os i d) ≡ name = ap place here in
      let on : behind (get_or os i d) ≡ a + 1 = ap behind here in
      let split : os ≡ take i os ++ get_or os i d ∷ drop (i + 1) os = sym (take-append-drop i os) ∙ ap (λ r. take i os ++ r) (dropped os i d inside) in
      let self : test (get_or os i d) ≡ false = ap test here ∙ later_close (bytes_eq (spelled a) (codes "close")) (nat_eq from from) a a (let low : a ≤ a = omega arith in grind (arith, nat_tests)) in
      let none : list_any test (get_or os i d ∷ drop (i + 1) os) ≡ false = any_none test (get_or os i d ∷ drop (i + 1) os) (All-cons (λ u. test u ≡ false) (get_or os i d) (drop (i + 1) os) self
      (λ j e within. not_behind spelled os from a (get_or (drop (i + 1) os) j e) (let b : behind (get_or os i d) ≤ place (get_or (drop (i + 1) os) j e) = all_behind os i laid inside d j e within in omega arith) (all_stand os i laid inside j e within))) in
      ap (list_any test) split
      ∙ list_any-append test (take i os) (get_or os i d ∷ drop (i + 1) os)
      ∙ ap (λ b. list_any test (take i os) || b) none
      ∙ or_false (list_any test (take i os))
      ∙ any_same test (closes_at spelled from) (take i os) (λ j e within. before_here spelled os from a (get_or (take i os) j e) (place (get_or os i d)) (all_ended os i laid inside d j e within) (omega arith))

  by_word : (close : Bool) (a from : ℕ) (test : Occurrence → Bool) → list_any test os ≡ list_any (closes_at spelled from) (take i os) → option_and_then (λ (c : ℕ × ℕ). cond (list_any (closes_at spelled c.1) (take i os)) (Some c.0) None) (cond close (Some (a, from)) None) ≡ cond (close && list_any test os) (Some a) None
  by_word true a from test same = ap (λ b. cond b (Some a) None) (sym same)
  by_word false a from test same = refl

  close_at : (o : Occurrence) → get_or os i d ≡ o → second_among spelled (take i os) o ≡ fault.second_close spelled os o
  close_at (Local name (Some a) from to) here = by_word (bytes_eq (spelled a) (codes "close")) a from (fault.closes_before spelled os from a) (closed_before name a from to here)
  close_at (Local name None from to) here = refl
  close_at o here = refl

  pub close_here : second_among spelled (take i os) (get_or os i d) ≡ fault.second_close spelled os (get_or os i d)
  close_here = close_at (get_or os i d) refl
