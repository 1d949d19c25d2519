-- How names are numbered one after another: each has the place of the first one that is the same.
use Rattle.std.proofs.Common.{◌≡◌, ℕ, ◌+◌, ◌<◌, ◌≤◌, Bool, true, cond, ◌&&◌, List, [], ◌∷◌, ◌++◌, Option, Some, None, Ordering, Less, Equal, Greater, length, get_or, take, drop, map, suc, eqb, inl, inr, unwrap_or, bytes_eq, refl, sym, ap, ◌∙◌, subst, arith, add-zero, zero-add}
use Rattle.std.proofs.lemmas.Bool.{and_parts, and_from, eqb-true, eq-eqb, cases_Bool, cond-true, cond-false}
use Rattle.std.proofs.lemmas.Bool.Decides.{same_from_decides, nat_tests}
use Rattle.std.proofs.lemmas.List.{map-append, map_push, take-append-drop, drop_more, map_more, length-map, length-take-le, length-append, length_push, append_assoc, append-nil, get_or_at}
use Rattle.std.proofs.lemmas.Map.Text.{is_eq-slice_cmp}
use Rattle.std.proofs.lemmas.Slice.Eq.{bytes_eq-Decides}
use Rattle.std.specs.Cmp.Lexicographic.{slice_cmp}
use Rattle.std.specs.List.{position_from}
use Rattle.std.specs.Option.{option_or}
use Rattle.std.specs.Ordering.{is_eq, nat_cmp, ordering_then}
use Rattle.luf_scope.specs.Local.{Spelling}
use Rattle.luf_goto.specs.declared.sites.LabelRow.{LabelRow}
use Rattle.luf_goto.specs.declared.sites.GotoRow.{GotoRow}
use Rattle.luf_goto.specs.inner.Names.{same_name, first_place, label_name, goto_name, names_in, numbered_label, numbered_goto, labels_numbered, gotos_numbered}
use Rattle.luf_goto.proofs.Lists.{map_through}

abbrev Name : Type 0
Name = ℕ × List ℕ

bytes_same : (a b : List ℕ) → bytes_eq a b ≡ true → a ≡ b
bytes_same a b h = (bytes_eq-Decides a b).0 h

pub bytes_itself : (a : List ℕ) → bytes_eq a a ≡ true
bytes_itself a = (bytes_eq-Decides a a).1 refl

pub same_is : (a b : Name) → same_name a b ≡ true → a ≡ b
same_is a b h =
    let p = and_parts _ _ h in
    let e : a.0 ≡ b.0 = eqb-true a.0 b.0 p.0 in
    let f : a.1 ≡ b.1 = bytes_same a.1 b.1 p.1 in
    let first : (a.0, a.1) ≡ (b.0, a.1) = ap (λ n. (n, a.1)) e in
    let second : (b.0, a.1) ≡ (b.0, b.1) = ap (λ s. (b.0, s)) f in
    first ∙ second

pub same_itself : (a : Name) → same_name a a ≡ true
same_itself a = and_from _ _ (eq-eqb a.0 a.0 refl) (bytes_itself a.1)

pub same_if : (a b : Name) → a ≡ b → same_name a b ≡ true
same_if a b e = subst (λ x. same_name a x ≡ true) e (same_itself a)

-- ---- in a map

is_eq_then : (x y : Ordering) → is_eq (ordering_then x y) ≡ (is_eq x && is_eq y)
is_eq_then Less y = refl
is_eq_then Equal y = refl
is_eq_then Greater y = refl

is_eq_number : (a b : ℕ) → is_eq (nat_cmp a b) ≡ eqb b a
is_eq_number a b = grind (arith, nat_tests)

bytes_turned : (a b : List ℕ) → bytes_eq a b ≡ bytes_eq b a
bytes_turned a b = same_from_decides (bytes_eq a b) (bytes_eq b a) (bytes_eq-Decides a b) ((λ h. sym (bytes_same b a h)), (λ e. (bytes_eq-Decides b a).1 (sym e)))

pub test_is : (a b : Name) → is_eq (ordering_then (nat_cmp a.0 b.0) (slice_cmp nat_cmp a.1 b.1)) ≡ same_name b a
test_is a b =
    is_eq_then (nat_cmp a.0 b.0) (slice_cmp nat_cmp a.1 b.1)
    ∙ ap (λ t. t && is_eq (slice_cmp nat_cmp a.1 b.1)) (is_eq_number a.0 b.0)
    ∙ ap (λ t. eqb b.0 a.0 && t) (is_eq-slice_cmp a.1 b.1 ∙ bytes_turned a.1 b.1)

-- a name gets a number that had none
pub kept_is : (name other : Name) (old new : Option ℕ) (next : ℕ) → new ≡ cond (is_eq (ordering_then (nat_cmp name.0 other.0) (slice_cmp nat_cmp name.1 other.1))) (Some next) old → (same_name other name ≡ true → old ≡ None) → new ≡ option_or old (cond (same_name other name) (Some next) None)
kept_is name other old new next is none =
    is ∙ ap (λ t. cond t (Some next) old) (test_is name other)
    ∙ elim (cases_Bool (same_name other name)) [
      | inl same ↦ cond-true (same_name other name) _ _ same ∙ sym (ap (λ o. option_or o (cond (same_name other name) (Some next) None)) (none same) ∙ cond-true (same_name other name) _ _ same)
      | inr apart ↦ cond-false (same_name other name) _ _ apart ∙ kept_none old ∙ sym (ap (λ o. option_or old o) (cond-false (same_name other name) (Some next) None apart))
    ]
  where
    kept_none : (o : Option ℕ) → o ≡ option_or o None
    kept_none None = refl
    kept_none (Some n) = refl

-- ---- in a list

pub position_append : {K : Type 0} (t : K → Bool) (n : ℕ) (xs ys : List K) → position_from t n (xs ++ ys) ≡ option_or (position_from t n xs) (position_from t (n + length xs) ys)
position_append t n [] ys = ap (λ m. position_from t m ys) (sym (add-zero n))
position_append t n (x ∷ xs) ys = elim (cases_Bool (t x)) [
  | inl is ↦ cond-true (t x) _ _ is ∙ sym (ap (λ o. option_or o (position_from t (n + length (x ∷ xs)) ys)) (cond-true (t x) (Some n) (position_from t (n + 1) xs) is))
  | inr no_match ↦
      cond-false (t x) _ _ no_match ∙ position_append t (n + 1) xs ys
      ∙ ap (λ m. option_or (position_from t (n + 1) xs) (position_from t m ys)) (let e : n + 1 + length xs ≡ n + suc (length xs) = omega arith in e)
      ∙ sym (ap (λ o. option_or o (position_from t (n + length (x ∷ xs)) ys)) (cond-false (t x) (Some n) (position_from t (n + 1) xs) no_match))
]

module _ {A : Type 0} (f : A → Name) (names : List A) (i : ℕ) (d : A) (y : Name) (inside : i < length names) (is : y ≡ f (get_or names i d)) where
  so_far : length (map f (take i names)) ≡ i
  so_far = length-map (take i names) f ∙ length-take-le i names (omega arith)

  pub numbered_more : (old new : Name → Option ℕ) → ((q : Name) → old q ≡ position_from (same_name q) 0 (map f (take i names))) → ((q : Name) → new q ≡ option_or (old q) (cond (same_name q y) (Some i) None)) → (q : Name) → new q ≡ position_from (same_name q) 0 (map f (take (i + 1) names))
  numbered_more old new before now q =
      now q ∙ ap (λ o. option_or o (cond (same_name q y) (Some i) None)) (before q)
      ∙ ap (λ n. option_or (position_from (same_name q) 0 (map f (take i names))) (cond (same_name q y) (Some n) None)) (sym (zero-add (length (map f (take i names))) ∙ so_far))
      ∙ sym (position_append (same_name q) 0 (map f (take i names)) (y ∷ []))
      ∙ ap (λ z. position_from (same_name q) 0 (map f (take i names) ++ z ∷ [])) is
      ∙ ap (position_from (same_name q) 0) (sym (map_more f names i d inside))

  whole : map f names ≡ map f (take i names) ++ (y ∷ map f (drop (i + 1) names))
  whole =
      ap (map f) (sym (take-append-drop i names)) ∙ map-append f (take i names) (drop i names)
      ∙ ap (λ ys. map f (take i names) ++ map f ys) (drop_more names i d inside)
      ∙ ap (λ z. map f (take i names) ++ (z ∷ map f (drop (i + 1) names))) (sym is)

  pub number_is : (old : Name → Option ℕ) → ((q : Name) → old q ≡ position_from (same_name q) 0 (map f (take i names))) → unwrap_or (old y) i ≡ first_place (map f names) y
  number_is old before =
      ap (λ o. unwrap_or o i) (before y)
      ∙ unwrapped (position_from (same_name y) 0 (map f (take i names)))
      ∙ ap (λ o. unwrap_or (option_or (position_from (same_name y) 0 (map f (take i names))) o) 0)
      (ap Some (sym (zero-add (length (map f (take i names))) ∙ so_far)) ∙ sym (cond-true (same_name y y) _ _ (same_itself y)))
      ∙ ap (λ o. unwrap_or o 0) (sym (position_append (same_name y) 0 (map f (take i names)) (y ∷ map f (drop (i + 1) names))))
      ∙ ap (λ ys. unwrap_or (position_from (same_name y) 0 ys) 0) (sym whole)
    where
      unwrapped : (o : Option ℕ) → unwrap_or o i ≡ unwrap_or (option_or o (Some i)) 0
      unwrapped None = refl
      unwrapped (Some n) = refl

  pub numbers_more : (old new : List ℕ) (n : ℕ) (F : Name → ℕ) → new ≡ old ++ n ∷ [] → n ≡ F y → old ≡ map F (map f (take i names)) → new ≡ map F (map f (take (i + 1) names))
  numbers_more old new n F added one before =
      added ∙ ap (λ xs. xs ++ n ∷ []) before
      ∙ ap (λ m. map F (map f (take i names)) ++ m ∷ []) (one ∙ ap F is)
      ∙ sym (map_push F (map f (take i names)) (f (get_or names i d)))
      ∙ ap (map F) (sym (map_more f names i d inside))

-- ---- rows with the numbers of their names

abbrev label_with : ℕ → LabelRow → LabelRow
label_with n l = record l { class = n }

abbrev goto_with : ℕ → GotoRow → GotoRow
goto_with n g = record g { class = n }

labels_are : (G : LabelRow → ℕ) (before after numbers : List ℕ) (n : ℕ) (labels : List LabelRow) → length before ≡ n → numbers ≡ before ++ (map G labels ++ after) → labels_numbered numbers n labels ≡ map (λ l. label_with (G l) l) labels
labels_are G before after numbers n [] long is = refl
labels_are G before after numbers n (l ∷ labels) long is =
    ap (λ c. label_with c l ∷ labels_numbered numbers (n + 1) labels) (ap (λ xs. get_or xs n 0) is ∙ get_or_at before (G l) (map G labels ++ after) 0 n long)
    ∙ ap (λ rows. label_with (G l) l ∷ rows)
    (labels_are G (before ++ G l ∷ []) after numbers (n + 1) labels (length_push before (G l) ∙ ap (λ m. m + 1) long) (is ∙ sym (append_assoc before (G l ∷ []) (map G labels ++ after))))

gotos_are : (G : GotoRow → ℕ) (before after numbers : List ℕ) (n : ℕ) (gotos : List GotoRow) → length before ≡ n → numbers ≡ before ++ (map G gotos ++ after) → gotos_numbered numbers n gotos ≡ map (λ g. goto_with (G g) g) gotos
gotos_are G before after numbers n [] long is = refl
gotos_are G before after numbers n (g ∷ gotos) long is =
    ap (λ c. goto_with c g ∷ gotos_numbered numbers (n + 1) gotos) (ap (λ xs. get_or xs n 0) is ∙ get_or_at before (G g) (map G gotos ++ after) 0 n long)
    ∙ ap (λ rows. goto_with (G g) g ∷ rows)
    (gotos_are G (before ++ G g ∷ []) after numbers (n + 1) gotos (length_push before (G g) ∙ ap (λ m. m + 1) long) (is ∙ sym (append_assoc before (G g ∷ []) (map G gotos ++ after))))

module _ (spelled : Spelling) (labels : List LabelRow) (gotos : List GotoRow) (numbers : List ℕ) (is : numbers ≡ map (first_place (names_in spelled labels gotos)) (names_in spelled labels gotos)) where
  N : List Name
  N = names_in spelled labels gotos

  G : LabelRow → ℕ
  G l = first_place (names_in spelled labels gotos) (label_name spelled l)

  H : GotoRow → ℕ
  H g = first_place (names_in spelled labels gotos) (goto_name spelled g)

  parted : numbers ≡ map G labels ++ map H gotos
  unfolding N G H
  parted =
      is ∙ map-append (first_place (names_in spelled labels gotos)) (map (label_name spelled) labels) (map (goto_name spelled) gotos)
      ∙ ap (λ xs. xs ++ map (first_place (names_in spelled labels gotos)) (map (goto_name spelled) gotos)) (map_through (label_name spelled) (first_place (names_in spelled labels gotos)) G (λ l. refl) labels)
      ∙ ap (λ xs. map G labels ++ xs) (map_through (goto_name spelled) (first_place (names_in spelled labels gotos)) H (λ g. refl) gotos)

  pub room_for : length labels + length gotos ≤ length numbers
  room_for = omega (arith, ap length parted ∙ length-append (map G labels) (map H gotos), length-map labels G, length-map gotos H)

  pub labels_named : labels_numbered numbers 0 labels ≡ map (numbered_label spelled (names_in spelled labels gotos)) labels
  unfolding G
  labels_named = labels_are G [] (map H gotos) numbers 0 labels refl parted

  pub gotos_named : gotos_numbered numbers (length labels) gotos ≡ map (numbered_goto spelled (names_in spelled labels gotos)) gotos
  unfolding H
  gotos_named = gotos_are H (map G labels) [] numbers (length labels) gotos (length-map labels G) (parted ∙ ap (λ xs. map G labels ++ xs) (sym (append-nil (map H gotos))))
