-- The function that holds a label, read off a stack of those that have begun.
use Rattle.std.proofs.Common.{◌≡◌, ℕ, ◌+◌, ◌-◌, ◌<◌, ◌≤◌, Bool, true, false, ◌&&◌, cond, nat_le, nat_lt, Option, Some, None, IfSome, List, [], ◌∷◌, ◌++◌, length, get_or, take, drop, refl, sym, ap, ◌∙◌, subst, arith}
use Rattle.std.specs.List.{filter_map, cons_option, All}
use Rattle.std.specs.Option.{option_or, option_to_list}
use Rattle.std.proofs.lemmas.Bool.Decides.{nat_tests}
use Rattle.std.proofs.lemmas.List.{take_more, take-append-drop, get_or-take, get_or_default}
use Rattle.std.proofs.lemmas.List.Elements.{filter_map-append, All-head, All-tail}
use Rattle.luf_scope.specs.Local.{FunctionAt, function_by, functions_of, function_of, is_held, last_passing}
use Rattle.luf_scope.specs.Order.{place, behind}
use Rattle.luf_scope.specs.declared.occurrence.Occurrence.{Occurrence}
use Rattle.luf_scope.specs.declared.occurrence.Occurrence.TheVariants.{Function, Label}
use Rattle.luf_scope.specs.inner.Last.{last_such}
use Rattle.luf_scope.specs.inner.Laid.{AreLaid}
use Rattle.luf_scope.proofs.Lasts.{last_snoc, last_take}
use Rattle.luf_scope.proofs.Laying.{all_filter_map, all_before, all_behind}
use Rattle.luf_scope.proofs.Mapped.{dropped}
use Rattle.luf_interf.specs.declared.label_rows.Holder.{Holder}
use Rattle.luf_interf.specs.inner.LabelRows.{class_of, row_in, row_of, reaches, class_in, Tells}

-- ---- the last by its number

or_none : {A : Type 0} (o : Option A) → option_or o None ≡ o
or_none None = refl
or_none (Some x) = refl

or_or : {A : Type 0} (a b c : Option A) → option_or (option_or a b) c ≡ option_or a (option_or b c)
or_or None b c = refl
or_or (Some x) b c = refl

module _ {A : Type 0} (test : A → Bool) where
  passing_append : (n : ℕ) (xs ys : List A) → last_passing test n (xs ++ ys) ≡ option_or (last_passing test (n + length xs) ys) (last_passing test n xs)
  passing_append n [] ys = let same : n ≡ n + 0 = omega arith in ap (λ k. last_passing test k ys) same ∙ sym (or_none (last_passing test (n + 0) ys))
  passing_append n (x ∷ xs) ys =
      let same : n + 1 + length xs ≡ n + length (x ∷ xs) = omega arith in
      ap (λ o. option_or o (cond (test x) (Some n) None)) (passing_append (n + 1) xs ys ∙ ap (λ k. option_or (last_passing test k ys) (last_passing test (n + 1) xs)) same)
      ∙ or_or (last_passing test (n + length (x ∷ xs)) ys) (last_passing test (n + 1) xs) (cond (test x) (Some n) None)

  or_here : (b : Bool) (n : ℕ) (o : Option ℕ) → option_or (cond b (Some n) None) o ≡ cond b (Some n) o
  or_here true n o = refl
  or_here false n o = refl

  pub passing_snoc : (xs : List A) (x : A) → last_passing test 0 (xs ++ x ∷ []) ≡ cond (test x) (Some (length xs)) (last_passing test 0 xs)
  passing_snoc xs x =
      let same : 0 + length xs ≡ length xs = omega arith in
      passing_append 0 xs (x ∷ []) ∙ ap (λ k. option_or (cond (test x) (Some k) None) (last_passing test 0 xs)) same ∙ or_here (test x) (length xs) (last_passing test 0 xs)

  passing_none : (n : ℕ) (xs : List A) → All (λ x. test x ≡ false) xs → last_passing test n xs ≡ None
  passing_none n [] none = refl
  passing_none n (x ∷ xs) none =
      ap (λ o. option_or o (cond (test x) (Some n) None)) (passing_none (n + 1) xs (All-tail (λ y. test y ≡ false) x xs none))
      ∙ ap (λ b. cond b (Some n) None) (All-head (λ y. test y ≡ false) x xs none)

passing_same : {A : Type 0} (test other : A → Bool) (n : ℕ) (xs : List A) → All (λ x. test x ≡ other x) xs → last_passing test n xs ≡ last_passing other n xs
passing_same test other n [] same = refl
passing_same test other n (x ∷ xs) same =
    ap (λ o. option_or o (cond (test x) (Some n) None)) (passing_same test other (n + 1) xs (All-tail (λ y. test y ≡ other y) x xs same))
    ∙ ap (λ b. option_or (last_passing other (n + 1) xs) (cond b (Some n) None)) (All-head (λ y. test y ≡ other y) x xs same)

-- ---- the stack

class_cond : (b : Bool) (h : Holder) (o : Option Holder) → class_in (cond b (Some h) o) ≡ cond b h.class (class_in o)
class_cond true h o = refl
class_cond false h o = refl

number_cond : (b : Bool) (n : ℕ) (o : Option ℕ) → class_of (cond b (Some n) o) ≡ cond b (n + 1) (class_of o)
number_cond true n o = refl
number_cond false n o = refl

module _ (holders new : List Holder) (begun : List FunctionAt) (later class to : ℕ) (pushed : new ≡ holders ++ record { class = class; to = to } ∷ []) (class_is : class ≡ length begun + 1) (tells : Tells holders begun later) where
  tells_more : (from : ℕ) (vararg : Bool) → Tells new (begun ++ record { from = from; to = to; vararg = vararg } ∷ []) later
  tells_more from vararg =
      ap (λ items. class_in (last_such (reaches later) items)) pushed
      ∙ ap class_in (last_snoc (reaches later) holders (record { class = class; to = to }))
      ∙ class_cond (nat_lt later to) (record { class = class; to = to }) (last_such (reaches later) holders)
      ∙ ap (cond (nat_lt later to) class) tells
      ∙ ap (λ k. cond (nat_lt later to) k (class_of (last_passing (λ f. nat_lt later f.to) 0 begun))) class_is
      ∙ sym (number_cond (nat_lt later to) (length begun) (last_passing (λ f. nat_lt later f.to) 0 begun))
      ∙ sym (ap class_of (passing_snoc (λ f. nat_lt later f.to) begun (record { from = from; to = to; vararg = vararg })))

  pub tells_function : (from : ℕ) (vararg : Bool) (o : Occurrence) → o ≡ Function from to vararg → Tells new (begun ++ option_to_list (function_by o)) later
  tells_function from vararg o is = subst (λ u. Tells new (begun ++ option_to_list (function_by u)) later) (sym is) (tells_more from vararg)

cond_no : {A : Type 0} (b : Bool) (x y : A) → b ≡ false → cond b x y ≡ y
cond_no b x y is = ap (λ v. cond v x y) is

cond_yes : {A : Type 0} (b : Bool) (x y : A) → b ≡ true → cond b x y ≡ x
cond_yes b x y is = ap (λ v. cond v x y) is

not_lt : (a b : ℕ) → b ≤ a → nat_lt a b ≡ false
not_lt a b le = grind (arith, nat_tests)

is_lt : (a b : ℕ) → a < b → nat_lt a b ≡ true
is_lt a b lt = grind (arith, nat_tests)

module _ (items : List Holder) (left place : ℕ) (holder : Holder) (some : 0 < left) (within : left ≤ length items) (is : holder ≡ get_or items (left - 1) holder) where
  last_left : (later : ℕ) → last_such (reaches later) (take left items) ≡ cond (nat_lt later holder.to) (Some holder) (last_such (reaches later) (take (left - 1) items))
  last_left later = last_take (reaches later) items (left - 1) left holder (omega arith) (omega arith) is

  -- what has ended is of no account
  pub passed_over : holder.to ≤ place → ((later : ℕ) → place ≤ later → last_such (reaches later) (take left items) ≡ last_such (reaches later) items) → (later : ℕ) → place ≤ later → last_such (reaches later) (take (left - 1) items) ≡ last_such (reaches later) items
  passed_over ended kept later le = sym (cond_no (nat_lt later holder.to) (Some holder) (last_such (reaches later) (take (left - 1) items)) (not_lt later holder.to (omega arith))) ∙ sym (last_left later) ∙ kept later le

  -- and what has not is the last
  found_on_top : place < holder.to → ((later : ℕ) → place ≤ later → last_such (reaches later) (take left items) ≡ last_such (reaches later) items) → holder.class ≡ class_in (last_such (reaches place) items)
  found_on_top holds kept = ap class_in (sym (cond_yes (nat_lt place holder.to) (Some holder) (last_such (reaches place) (take (left - 1) items)) (is_lt place holder.to holds)) ∙ sym (last_left place) ∙ kept place (omega arith))

  -- read again where those above it are taken off
  pub found_again : (taken : List Holder) (again : Holder) → taken ≡ take left items → again ≡ get_or taken (left - 1) again → place < holder.to → ((later : ℕ) → place ≤ later → last_such (reaches later) (take left items) ≡ last_such (reaches later) items) → again.class ≡ class_in (last_such (reaches place) items)
  found_again taken again are read holds kept =
      let same : again ≡ holder = read ∙ ap (λ xs. get_or xs (left - 1) again) are ∙ get_or-take left items (left - 1) again (omega arith) ∙ get_or_default items (left - 1) again holder (omega arith) ∙ sym is in
      ap (λ h. h.class) same ∙ found_on_top holds kept

-- ---- one occurrence more

list_of : {X : Type 0} (o : Option X) → cons_option o [] ≡ option_to_list o
list_of None = refl
list_of (Some x) = refl

pub given_more : {X Y : Type 0} (f : X → Option Y) (xs : List X) (i : ℕ) (d : X) → i < length xs → filter_map f (take (i + 1) xs) ≡ filter_map f (take i xs) ++ option_to_list (f (get_or xs i d))
given_more f xs i d inside = ap (filter_map f) (take_more xs i d inside) ∙ filter_map-append f (take i xs) (get_or xs i d ∷ []) ∙ ap (λ ys. filter_map f (take i xs) ++ ys) (list_of (f (get_or xs i d)))

begun_by : (token : ℕ) (u : Occurrence) → place u ≤ token → IfSome (function_by u) (λ f. is_held token f ≡ nat_lt token f.to)
begun_by token (Function from to vararg) le = let yes_le : nat_le from token ≡ true = grind (arith, nat_tests) in ap (λ b. b && nat_lt token to) yes_le
begun_by token u le = tt

unbegun : (token : ℕ) (u : Occurrence) → token < place u → IfSome (function_by u) (λ f. is_held token f ≡ false)
unbegun token (Function from to vararg) lt = let no_le : nat_le from token ≡ false = grind (arith, nat_tests) in ap (λ b. b && nat_lt token to) no_le
unbegun token u lt = tt

module _ (os : List Occurrence) (i : ℕ) (laid : AreLaid os) (inside : i < length os) (d : Occurrence) where
  -- the function that holds a label has begun
  held_by_begun : (token : ℕ) → function_by (get_or os i d) ≡ None → place (get_or os i d) ≡ token → behind (get_or os i d) ≡ token + 1 → last_passing (λ f. nat_lt token f.to) 0 (functions_of (take i os)) ≡ function_of (functions_of os) token
  held_by_begun token no_function here end =
      let split : functions_of os ≡ functions_of (take i os) ++ functions_of (drop i os) = ap functions_of (sym (take-append-drop i os)) ∙ filter_map-append function_by (take i os) (drop i os) in
      let after : functions_of (drop i os) ≡ functions_of (drop (i + 1) os) = ap functions_of (dropped os i d inside) ∙ ap (λ o. cons_option o (functions_of (drop (i + 1) os))) no_function in
      let none : last_passing (is_held token) (0 + length (functions_of (take i os))) (functions_of (drop (i + 1) os)) ≡ None =
      passing_none (is_held token) (0 + length (functions_of (take i os))) (functions_of (drop (i + 1) os)) (all_filter_map function_by (λ f. is_held token f ≡ false) (drop (i + 1) os)
      (λ j e within. unbegun token (get_or (drop (i + 1) os) j e) (let b : behind (get_or os i d) ≤ place (get_or (drop (i + 1) os) j e) = all_behind os i laid inside d j e within in omega (arith, b, end)))) in
      sym (ap (last_passing (is_held token) 0) (split ∙ ap (λ fs. functions_of (take i os) ++ fs) after)
      ∙ passing_append (is_held token) 0 (functions_of (take i os)) (functions_of (drop (i + 1) os))
      ∙ ap (λ o. option_or o (last_passing (is_held token) 0 (functions_of (take i os)))) none
      ∙ passing_same (is_held token) (λ f. nat_lt token f.to) 0 (functions_of (take i os)) (all_filter_map function_by (λ f. is_held token f ≡ nat_lt token f.to) (take i os)
      (λ j e within. begun_by token (get_or (take i os) j e) (let b : place (get_or (take i os) j e) ≤ place (get_or os i d) = all_before os i laid inside d j e within in omega (arith, b, here)))))

  same_at : (o : Occurrence) → get_or os i d ≡ o → row_in (class_of (last_passing (λ f. nat_lt (place o) f.to) 0 (functions_of (take i os)))) o ≡ row_of (functions_of os) o
  same_at (Label name from to at_end) here =
      ap (λ n. Some (record { class = class_of n; from = from; to = to })) (held_by_begun name (ap function_by here) (ap place here) (ap behind here))
  same_at o here = refl

  pub row_here : row_in (class_of (last_passing (λ f. nat_lt (place (get_or os i d)) f.to) 0 (functions_of (take i os)))) (get_or os i d) ≡ row_of (functions_of os) (get_or os i d)
  row_here = same_at (get_or os i d) refl
