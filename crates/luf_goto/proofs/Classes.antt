-- Two names in functions have one number where they are the same.
use Rattle.std.proofs.Common.{◌≡◌, ℕ, ◌+◌, ◌<◌, ◌≤◌, Bool, true, false, ◌&&◌, nat_eq, nat_le, nat_lt, bytes_eq, List, [], ◌∷◌, ◌++◌, Option, Some, None, unwrap_or, length, get_or, map, zero, suc, zero-add, refl, sym, ap, ◌∙◌, inl, inr, min, arith}
use Rattle.std.proofs.lemmas.Bool.{cases_Bool, cond-true, cond-false, eq-eqb, eqb-true, false_from_ne_true, le-leb, ltb-true, false≢true}
use Rattle.std.proofs.lemmas.Bool.Decides.{nat_tests}
use Rattle.std.proofs.lemmas.List.{get_or_default}
use Rattle.std.specs.List.{Contains, position_from}
use Rattle.std.specs.Option.{option_eq}
use Rattle.luf_scope.specs.Jump.{LabelAt, GotoAt, is_seen}
use Rattle.luf_goto.specs.inner.Holders.{holds, one_higher}
use Rattle.luf_goto.specs.declared.sites.LabelRow.{LabelRow}
use Rattle.luf_goto.specs.declared.sites.GotoRow.{GotoRow}
use Rattle.luf_goto.specs.inner.Names.{same_name, first_place}
use Rattle.luf_goto.specs.inner.Rows.{seen_extent, name_spot, goto_spot, sees}
use Rattle.luf_goto.proofs.Numbers.{same_is, same_if}

abbrev Name : Type 0
Name = ℕ × List ℕ

-- the first that is the same as a name which is there
abbrev IsFirst : Name → ℕ → List Name → Option ℕ → Type 0
IsFirst a n names o = (i : ℕ) × (o ≡ Some (n + i)) × (i < length names) × ((d : Name) → get_or names i d ≡ a)

first_is : (a : Name) (n : ℕ) (names : List Name) (k : ℕ) → k < length names → ((d : Name) → get_or names k d ≡ a) → IsFirst a n names (position_from (same_name a) n names)
first_is a n [] k inside at = absurd (omega arith)
first_is a n (x ∷ names) k inside at = elim (cases_Bool (same_name a x)) [
  | inl is ↦ (0, cond-true (same_name a x) _ _ is ∙ ap Some (let e : n ≡ n + 0 = omega arith in e), omega arith, (λ d. sym (same_is a x is)))
  | inr apart ↦ later (λ j h. first_is a (n + 1) names j h) k inside at apart
]
  where
    later : ((j : ℕ) → j < length names → ((d : Name) → get_or names j d ≡ a) → IsFirst a (n + 1) names (position_from (same_name a) (n + 1) names)) → (k : ℕ) → k < length (x ∷ names) → ((d : Name) → get_or (x ∷ names) k d ≡ a) → same_name a x ≡ false → IsFirst a n (x ∷ names) (position_from (same_name a) n (x ∷ names))
    later rest zero inside at apart = absurd (false≢true (sym apart ∙ same_if a x (sym (at a))))
    later rest (suc k) inside at apart =
        let r = rest k (omega arith) at in
        (suc r.0, cond-false (same_name a x) _ _ apart ∙ r.1 ∙ ap Some (let e : n + 1 + r.0 ≡ n + suc r.0 = omega arith in e), omega (arith, r.2), r.3)

-- the number of a name that is there has that name at its place
abbrev HasPlace : List Name → Name → Type 0
HasPlace names a = (i : ℕ) × (first_place names a ≡ i) × ((d : Name) → get_or names i d ≡ a) × (i < length names)

pub placed : (names : List Name) (a : Name) → Contains names a → HasPlace names a
placed names a (k, inside, at) =
    let r = first_is a 0 names k inside (λ d. sym (get_or_default names k a d inside) ∙ at) in
    (r.0, ap (λ o. unwrap_or o 0) r.1 ∙ zero-add r.0, r.3, r.2)

pub class_is : (names : List Name) (a b : Name) → Contains names a → Contains names b → nat_eq (first_place names a) (first_place names b) ≡ same_name a b
class_is names a b here there = elim (cases_Bool (same_name a b)) [
  | inl is ↦ eq-eqb (first_place names a) (first_place names b) (ap (first_place names) (same_is a b is)) ∙ sym is
  | inr apart ↦
      let p = placed names a here in
      let q = placed names b there in
      false_from_ne_true _ (λ h.
      let one : p.0 ≡ q.0 = sym p.1 ∙ eqb-true (first_place names a) (first_place names b) h ∙ q.1 in
      false≢true (sym apart ∙ same_if a b (sym (p.2 a) ∙ ap (λ i. get_or names i a) one ∙ q.2 a)))
      ∙ sym apart
]

pub same_function : (f g : Option ℕ) → nat_eq (one_higher f) (one_higher g) ≡ option_eq nat_eq f g
same_function None None = refl
same_function None (Some m) = grind (arith, nat_tests)
same_function (Some n) None = grind (arith, nat_tests)
same_function (Some n) (Some m) = grind (arith, nat_tests)

-- a label and a goto by their names
abbrev pub label_key : LabelAt → Name
label_key l = (one_higher l.function, l.name)

abbrev pub goto_key : GotoAt → Name
goto_key g = (one_higher g.function, g.name)

abbrev pub names_of : List LabelAt → List GotoAt → List Name
names_of labels gotos = map label_key labels ++ map goto_key gotos

-- as the code has them
abbrev pub row_of : List Name → LabelAt → LabelRow
row_of names l = record { name = l.token; class = first_place names (label_key l); from = l.from; to = l.to; at_end = l.at_end }

abbrev pub goto_row_of : List Name → GotoAt → GotoRow
goto_row_of names g = record { token = g.token; name = g.label; class = first_place names (goto_key g) }

regroup : (f d b c : Bool) → ((f && d) && (b && c)) ≡ (((f && b) && c) && d)
regroup true true true c = and_true c
  where
    and_true : (x : Bool) → x ≡ (x && true)
    and_true true = refl
    and_true false = refl
regroup true true false c = refl
regroup true false true true = refl
regroup true false true false = refl
regroup true false false c = refl
regroup false d b c = refl

-- a goto sees a label, as the code tests it
pub seen_is : (names : List Name) (l : LabelAt) (g : GotoAt) → Contains names (label_key l) → Contains names (goto_key g) → sees (goto_spot (goto_row_of names g)) (row_of names l) ≡ is_seen g.function g.token g.name l
seen_is names l g here there =
    ap (λ t. t && (nat_le l.from g.token && nat_lt g.token l.to)) (class_is names (label_key l) (goto_key g) here there ∙ ap (λ t. t && bytes_eq l.name g.name) (same_function l.function g.function))
    ∙ regroup (option_eq nat_eq l.function g.function) (bytes_eq l.name g.name) (nat_le l.from g.token) (nat_lt g.token l.to)

before_regroup : (f d p q b : Bool) → (p ≡ true → b ≡ true) → ((f && d) && (p && q)) ≡ (p && (((f && b) && q) && d))
before_regroup f d true q b up = regroup f d true q ∙ ap (λ x. ((f && x) && q) && d) (sym (up refl))
before_regroup true true false q b up = refl
before_regroup true false false q b up = refl
before_regroup false d false q b up = refl

-- an earlier label is seen at a later one
pub seen_before :
    (names : List Name) (u l : LabelAt) → Contains names (label_key u) → Contains names (label_key l) → u.from ≤ u.token → u.token + 1 ≤ 4294967295
    → holds (name_spot (row_of names l)) (seen_extent (row_of names u)) ≡ (nat_lt u.token l.token && is_seen l.function l.token l.name u)
seen_before names u l here there begun few =
    ap (λ t. t && (nat_le (min (u.token + 1) 4294967295) l.token && nat_lt l.token u.to)) (class_is names (label_key u) (label_key l) here there ∙ ap (λ t. t && bytes_eq u.name l.name) (same_function u.function l.function))
    ∙ ap (λ t. (option_eq nat_eq u.function l.function && bytes_eq u.name l.name) && (t && nat_lt l.token u.to)) (let e : nat_le (min (u.token + 1) 4294967295) l.token ≡ nat_lt u.token l.token = grind (arith, nat_tests) in e)
    ∙ before_regroup (option_eq nat_eq u.function l.function) (bytes_eq u.name l.name) (nat_lt u.token l.token) (nat_lt l.token u.to) (nat_le u.from l.token) (λ h. le-leb u.from l.token (omega (arith, ltb-true u.token l.token h)))
