-- The last of a list that passes a test.
use Rattle.std.proofs.Common.{◌≡◌, ℕ, ◌+◌, ◌-◌, ◌<◌, ◌≤◌, Bool, true, false, cond, nat_lt, Option, Some, None, List, [], ◌∷◌, ◌++◌, length, get_or, take, refl, sym, ap, ◌∙◌, arith, All}
use Rattle.std.specs.Option.{option_or, option_map}
use Rattle.std.proofs.lemmas.List.{take_more, get_or-take, get_or_default}
use Rattle.std.proofs.lemmas.List.Elements.{All-head, All-tail}
use Rattle.std.proofs.lemmas.Bool.Decides.{nat_tests}
use Rattle.luf_scope.specs.declared.stacks.Held.{Held}
use Rattle.luf_scope.specs.inner.Last.{last_such, outlasts}

or_none : {A : Type 0} (o : Option A) → option_or o None ≡ o
or_none None = refl
or_none (Some x) = refl

or_or : {A : Type 0} (a b c : Option A) → option_or (option_or a b) c ≡ option_or a (option_or b c)
or_or None b c = refl
or_or (Some x) b c = refl

or_here : {A : Type 0} (b : Bool) (x : A) (o : Option A) → option_or (cond b (Some x) None) o ≡ cond b (Some x) o
or_here true x o = refl
or_here false x o = refl

pub last_append : {A : Type 0} (test : A → Bool) (xs ys : List A) → last_such test (xs ++ ys) ≡ option_or (last_such test ys) (last_such test xs)
last_append test [] ys = sym (or_none (last_such test ys))
last_append test (x ∷ xs) ys = ap (λ o. option_or o (cond (test x) (Some x) None)) (last_append test xs ys) ∙ or_or (last_such test ys) (last_such test xs) (cond (test x) (Some x) None)

pub last_snoc : {A : Type 0} (test : A → Bool) (xs : List A) (x : A) → last_such test (xs ++ x ∷ []) ≡ cond (test x) (Some x) (last_such test xs)
last_snoc test xs x = last_append test xs (x ∷ []) ∙ or_here (test x) x (last_such test xs)

pub last_take : {A : Type 0} (test : A → Bool) (xs : List A) (i j : ℕ) (x : A) → j ≡ i + 1 → i < length xs → x ≡ get_or xs i x → last_such test (take j xs) ≡ cond (test x) (Some x) (last_such test (take i xs))
last_take test xs i j x next inside is =
    ap (λ n. last_such test (take n xs)) next ∙ ap (last_such test) (take_more xs i x inside ∙ ap (λ y. take i xs ++ y ∷ []) (sym is)) ∙ last_snoc test (take i xs) x

cond_no : {A : Type 0} (b : Bool) (x y : A) → b ≡ false → cond b x y ≡ y
cond_no b x y is = ap (λ v. cond v x y) is

cond_yes : {A : Type 0} (b : Bool) (x y : A) → b ≡ true → cond b x y ≡ x
cond_yes b x y is = ap (λ v. cond v x y) is

not_lt : (a b : ℕ) → b ≤ a → nat_lt a b ≡ false
not_lt a b le = grind (arith, nat_tests)

is_lt : (a b : ℕ) → a < b → nat_lt a b ≡ true
is_lt a b lt = grind (arith, nat_tests)

module _ {T : Type 0} (items : List (Held T)) (left place : ℕ) (held : Held T) (some : 0 < left) (within : left ≤ length items) (is : held ≡ get_or items (left - 1) held) where
  last_left : (later : ℕ) → last_such (outlasts later) (take left items) ≡ cond (nat_lt later held.to) (Some held) (last_such (outlasts later) (take (left - 1) items))
  last_left later = last_take (outlasts later) items (left - 1) left held (omega arith) (omega arith) is

  -- what has ended is of no account
  pub passed_over : held.to ≤ place → ((later : ℕ) → place ≤ later → last_such (outlasts later) (take left items) ≡ last_such (outlasts later) items) → (later : ℕ) → place ≤ later → last_such (outlasts later) (take (left - 1) items) ≡ last_such (outlasts later) items
  passed_over ended kept later le = sym (cond_no (nat_lt later held.to) (Some held) (last_such (outlasts later) (take (left - 1) items)) (not_lt later held.to (omega arith))) ∙ sym (last_left later) ∙ kept later le

  -- and what has not is the last
  pub found_on_top : place < held.to → ((later : ℕ) → place ≤ later → last_such (outlasts later) (take left items) ≡ last_such (outlasts later) items) → Some held.what ≡ option_map (λ h. h.what) (last_such (outlasts place) items)
  found_on_top holds kept = ap (option_map (λ h. h.what)) (sym (cond_yes (nat_lt place held.to) (Some held) (last_such (outlasts place) (take (left - 1) items)) (is_lt place held.to holds)) ∙ sym (last_left place) ∙ kept place (omega arith))

  -- read again where those above it are taken off
  pub found_again : (taken : List (Held T)) (again : Held T) → taken ≡ take left items → again ≡ get_or taken (left - 1) again → place < held.to → ((later : ℕ) → place ≤ later → last_such (outlasts later) (take left items) ≡ last_such (outlasts later) items) → Some again.what ≡ option_map (λ h. h.what) (last_such (outlasts place) items)
  found_again taken again are read holds kept =
      let same : again ≡ held = read ∙ ap (λ xs. get_or xs (left - 1) again) are ∙ get_or-take left items (left - 1) again (omega arith) ∙ get_or_default items (left - 1) again held (omega arith) ∙ sym is in
      ap (λ h. Some h.what) same ∙ found_on_top holds kept

pub last_none : {A : Type 0} (test : A → Bool) (xs : List A) → All (λ x. test x ≡ false) xs → last_such test xs ≡ None
last_none test [] none = refl
last_none test (x ∷ xs) none = ap (λ o. option_or o (cond (test x) (Some x) None)) (last_none test xs (All-tail (λ y. test y ≡ false) x xs none)) ∙ cond_no (test x) (Some x) None (All-head (λ y. test y ≡ false) x xs none)

pub last_same : {A : Type 0} (test other : A → Bool) (xs : List A) → All (λ x. test x ≡ other x) xs → last_such test xs ≡ last_such other xs
last_same test other [] same = refl
last_same test other (x ∷ xs) same = ap (λ o. option_or o (cond (test x) (Some x) None)) (last_same test other xs (All-tail (λ y. test y ≡ other y) x xs same)) ∙ ap (λ b. option_or (last_such other xs) (cond b (Some x) None)) (All-head (λ y. test y ≡ other y) x xs same)

pub map_cond : {A B : Type 0} (f : A → B) (b : Bool) (x : A) (o : Option A) → option_map f (cond b (Some x) o) ≡ cond b (Some (f x)) (option_map f o)
map_cond f true x o = refl
map_cond f false x o = refl
