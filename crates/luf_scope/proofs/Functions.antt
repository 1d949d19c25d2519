-- The function that holds a `...`, read off a stack of those that have begun.
use Rattle.std.proofs.Common.{◌≡◌, ℕ, suc, ◌+◌, ◌-◌, ◌<◌, ◌≤◌, Bool, true, false, ◌&&◌, not, cond, nat_le, nat_lt, Option, Some, None, IfSome, List, [], ◌∷◌, ◌++◌, length, get_or, slice_get, take, drop, refl, sym, ap, ◌∙◌, subst, arith}
use Rattle.std.specs.List.{cons_option}
use Rattle.std.specs.Option.{option_or, option_map, option_map_or, option_and_then, option_to_list}
use Rattle.std.proofs.lemmas.Bool.Decides.{nat_tests}
use Rattle.std.proofs.lemmas.List.{take_more, take-append-drop}
use Rattle.std.proofs.lemmas.List.Elements.{filter_map-append}
use Rattle.luf_scope.specs.Fault as fault
use Rattle.luf_scope.specs.Local.{Spelling, FunctionAt, function_by, functions_of, is_held, last_passing}
use Rattle.luf_scope.specs.Order.{place, behind}
use Rattle.luf_scope.specs.declared.occurrence.Occurrence.{Occurrence}
use Rattle.luf_scope.specs.declared.occurrence.Occurrence.TheVariants.{Function, Varargs}
use Rattle.luf_scope.specs.declared.stacks.Held.{Held}
use Rattle.luf_scope.specs.inner.Last.{last_such, outlasts}
use Rattle.luf_scope.specs.inner.Laid.{AreLaid, Tells, varargs_among}
use Rattle.luf_scope.proofs.Lasts.{last_append, last_snoc, last_none, last_same, map_cond}
use Rattle.luf_scope.proofs.Laying.{all_filter_map, all_before, all_behind}
use Rattle.luf_scope.proofs.Mapped.{dropped}

-- one more function
pub tells_more : (stack new : List (Held Bool)) (begun : List FunctionAt) (later from to : ℕ) (vararg : Bool) → new ≡ stack ++ record { what = vararg; to = to } ∷ [] → Tells stack begun later → Tells new (begun ++ record { from = from; to = to; vararg = vararg } ∷ []) later
tells_more stack new begun later from to vararg is tells =
    ap (λ items. option_map (λ h. h.what) (last_such (outlasts later) items)) is
    ∙ ap (option_map (λ h. h.what)) (last_snoc (outlasts later) stack (record { what = vararg; to = to }))
    ∙ map_cond (λ h. h.what) (nat_lt later to) (record { what = vararg; to = to }) (last_such (outlasts later) stack)
    ∙ ap (cond (nat_lt later to) (Some vararg)) tells
    ∙ sym (map_cond (λ f. f.vararg) (nat_lt later to) (record { from = from; to = to; vararg = vararg }) (last_such (λ f. nat_lt later f.to) begun))
    ∙ sym (ap (option_map (λ f. f.vararg)) (last_snoc (λ f. nat_lt later f.to) begun (record { from = from; to = to; vararg = vararg })))

pub tells_function : (stack new : List (Held Bool)) (begun : List FunctionAt) (later from to : ℕ) (vararg : Bool) (o : Occurrence) → o ≡ Function from to vararg → new ≡ stack ++ record { what = vararg; to = to } ∷ [] → Tells stack begun later → Tells new (begun ++ option_to_list (function_by o)) later
tells_function stack new begun later from to vararg o is pushed tells = subst (λ u. Tells new (begun ++ option_to_list (function_by u)) later) (sym is) (tells_more stack new begun later from to vararg pushed tells)

-- the last that passes, by its number and by itself
data LastAt {A : Type 0} (n : ℕ) (xs : List A) : Option ℕ → Option A → Type 0 where
  none_last : LastAt n xs None None
  some_last : (k : ℕ) (y : A) → n ≤ k → slice_get xs (k - n) ≡ Some y → LastAt n xs (Some k) (Some y)

one_before : {A : Type 0} (n : ℕ) (x : A) (xs : List A) (b : Bool) (r : Option ℕ) (s : Option A) → LastAt (n + 1) xs r s → LastAt n (x ∷ xs) (option_or r (cond b (Some n) None)) (option_or s (cond b (Some x) None))
one_before n x xs true r s none_last = some_last n x (omega arith) (let e : n - n ≡ 0 = omega arith in ap (slice_get (x ∷ xs)) e)
one_before n x xs false r s none_last = none_last
one_before n x xs b r s (some_last k y le at) = some_last k y (omega arith) (let e : k - n ≡ suc (k - (n + 1)) = omega arith in ap (slice_get (x ∷ xs)) e ∙ at)

last_at : {A : Type 0} (test : A → Bool) (n : ℕ) (xs : List A) → LastAt n xs (last_passing test n xs) (last_such test xs)
last_at test n [] = none_last
last_at test n (x ∷ xs) = one_before n x xs (test x) (last_passing test (n + 1) xs) (last_such test xs) (last_at test (n + 1) xs)

read_last : {A : Type 0} (xs : List A) (r : Option ℕ) (s : Option A) → LastAt 0 xs r s → option_and_then (slice_get xs) r ≡ s
read_last xs r s none_last = refl
read_last xs r s (some_last k y le at) = let e : k ≡ k - 0 = omega arith in ap (slice_get xs) e ∙ at

pub last_by_number : {A : Type 0} (test : A → Bool) (xs : List A) → option_and_then (slice_get xs) (last_passing test 0 xs) ≡ last_such test xs
last_by_number test xs = read_last xs (last_passing test 0 xs) (last_such test xs) (last_at test 0 xs)

module _ (os : List Occurrence) (i : ℕ) (laid : AreLaid os) (inside : i < length os) where
  -- the function that holds a `...` has begun
  module _ (d : Occurrence) (token : ℕ) (here : get_or os i d ≡ Varargs token) where
    begun : (u : Occurrence) → place u ≤ token → IfSome (function_by u) (λ f. is_held token f ≡ nat_lt token f.to)
    begun (Function from to vararg) le = let yes_le : nat_le from token ≡ true = grind (arith, nat_tests) in ap (λ b. b && nat_lt token to) yes_le
    begun u le = tt

    unbegun : (u : Occurrence) → token + 1 ≤ place u → IfSome (function_by u) (λ f. is_held token f ≡ false)
    unbegun (Function from to vararg) le = let no_le : nat_le from token ≡ false = grind (arith, nat_tests) in ap (λ b. b && nat_lt token to) no_le
    unbegun u le = tt

    held_by_begun : last_such (is_held token) (functions_of os) ≡ last_such (λ f. nat_lt token f.to) (functions_of (take i os))
    held_by_begun =
        let split : functions_of os ≡ functions_of (take i os) ++ functions_of (drop i os) = ap functions_of (sym (take-append-drop i os)) ∙ filter_map-append function_by (take i os) (drop i os) in
        let after : functions_of (drop i os) ≡ functions_of (drop (i + 1) os) = ap functions_of (dropped os i d inside ∙ ap (λ u. u ∷ drop (i + 1) os) here) in
        let none : last_such (is_held token) (functions_of (drop (i + 1) os)) ≡ None = last_none (is_held token) (functions_of (drop (i + 1) os)) (all_filter_map function_by (λ f. is_held token f ≡ false) (drop (i + 1) os)
        (λ j e within. unbegun (get_or (drop (i + 1) os) j e) (let b : behind (get_or os i d) ≤ place (get_or (drop (i + 1) os) j e) = all_behind os i laid inside d j e within in let n : behind (get_or os i d) ≡ token + 1 = ap behind here in omega arith))) in
        ap (last_such (is_held token)) split
        ∙ last_append (is_held token) (functions_of (take i os)) (functions_of (drop i os))
        ∙ ap (λ fs. option_or (last_such (is_held token) fs) (last_such (is_held token) (functions_of (take i os)))) after
        ∙ ap (λ o. option_or o (last_such (is_held token) (functions_of (take i os)))) none
        ∙ last_same (is_held token) (λ f. nat_lt token f.to) (functions_of (take i os)) (all_filter_map function_by (λ f. is_held token f ≡ nat_lt token f.to) (take i os)
        (λ j e within. begun (get_or (take i os) j e) (let b : place (get_or (take i os) j e) ≤ place (get_or os i d) = all_before os i laid inside d j e within in let n : place (get_or os i d) ≡ token = ap place here in omega arith)))

  same_at : (spelled : Spelling) (d o : Occurrence) → get_or os i d ≡ o → varargs_among (functions_of (take i os)) o ≡ fault.varargs_outside spelled os o
  same_at spelled d (Varargs token) here = ap (λ f. cond (option_map_or (λ f. not f.vararg) f false) (Some token) None) (sym (held_by_begun d token here) ∙ sym (last_by_number (is_held token) (functions_of os)))
  same_at spelled d o here = refl

  -- what the stack tells of a `...` is what the definition says
  pub varargs_here : (spelled : Spelling) (d : Occurrence) → varargs_among (functions_of (take i os)) (get_or os i d) ≡ fault.varargs_outside spelled os (get_or os i d)
  varargs_here spelled d = same_at spelled d (get_or os i d) refl

  pub functions_more : (d : Occurrence) → functions_of (take (i + 1) os) ≡ functions_of (take i os) ++ option_to_list (function_by (get_or os i d))
  functions_more d = ap functions_of (take_more os i d inside) ∙ filter_map-append function_by (take i os) (get_or os i d ∷ []) ∙ ap (λ fs. functions_of (take i os) ++ fs) (one (function_by (get_or os i d)))
    where
      one : (o : Option FunctionAt) → cons_option o [] ≡ option_to_list o
      one None = refl
      one (Some f) = refl
