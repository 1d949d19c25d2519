-- Each source has least names: of the names in their order only so many are taken.
use Rattle.std.proofs.Common.{◌≡◌, ℕ, zero, suc, ◌+◌, ◌<◌, ◌≤◌, ◌⊎◌, inl, inr, Bool, true, false, cond, eqb, nat_eq, nat_le, Option, Some, None, List, [], ◌∷◌, ◌++◌, map, length, slice_get, bytes_eq, refl, sym, ap, subst, ◌∙◌, ⊎_elim, arith}
use Rattle.std.specs.List.{list_any}
use Rattle.std.specs.Cmp.Lexicographic.{bytes_decides}
use Rattle.std.proofs.lemmas.Option.{none-some, same_Some}
use Rattle.std.proofs.lemmas.List.{length-map}
use Rattle.std.proofs.lemmas.Map.Steps.{le-length_from_below}
use Rattle.std.proofs.lemmas.Bool.{cond-true, cond-false, cases_Bool, cases_order, both_ways, eq-eqb, eqb-true, ne_eqb, leb-true, le-leb, or_left, or_right, false≢true}
use Rattle.luf_name.specs.Barred.{IsBarred}
use Rattle.luf_name.specs.Order.{IsNth, number_of}
use Rattle.luf_name.proofs.Rising.{names_rise, one_name}
use Rattle.luf_name.proofs.Naming.{none_left_out}
use Rattle.luf_scope.specs.declared.occurrence.Occurrence.{Occurrence}
use Rattle.luf_scope.specs.declared.occurrence.Occurrence.TheVariants.{Reads, Assigns}
use Rattle.luf_scope.specs.Local.{Spelling, LocalVariable, is_active, locals_of}
use Rattle.luf_scope.specs.Jump.{LabelAt, labels_of}
use Rattle.luf_scope.specs.Role.{is_variable}
use Rattle.luf_scope.specs.Order.{place}
use Rattle.luf_interf.specs.Interference.{IsLocal, IsLabel, IsReference, meant, Interferes, IsGlobalAt, LabelsInterfere}
use Rattle.luf_interf.specs.NewNames.{Naming, is_fixed, IsFirstFree, IsFree, IsFreeLabel, AreLeast}
use Rattle.luf_interf.specs.RenamingLaws.{LeastNamesExist}
use Rattle.luf_interf.specs.inner.Among.{Among, here, there}
use Rattle.luf_interf.proofs.Among.{any_among, any_of}
use Rattle.luf_interf.proofs.BarredWords.{barred_words, barred_among, among_barred}
use Rattle.luf_interf.proofs.Says.{among_left, among_right}
use Rattle.luf_interf.proofs.OneNaming.{free_alike, free_label_alike}

-- ---- the first name that is free, where those that are not are among so many

abbrev pub Either : Type 0 → Type 0
Either P = P ⊎ (P → ⊥)

abbrev FreeOrTaken : (List ℕ → Type 0) → List (List ℕ) → Type 0
FreeOrTaken Free taken = (name : List ℕ) → Free name ⊎ ((Free name → ⊥) × Among name taken)

nth : ℕ → List ℕ
nth n = (none_left_out n).0

nth_is : (n : ℕ) → IsNth (nth n) n
unfolding nth
nth_is n = (none_left_out n).1

number_among : (taken : List (List ℕ)) (name : List ℕ) (n : ℕ) → number_of name ≡ n → Among name taken → list_any (eqb n) (map number_of taken) ≡ true
number_among [] name n is m = elim m [ ]
number_among (t ∷ taken) t' n is here = or_left (eqb n (number_of t)) (list_any (eqb n) (map number_of taken)) (eq-eqb n (number_of t) (sym is))
number_among (t ∷ taken) name n is (there m) = or_right (eqb n (number_of t)) (list_any (eqb n) (map number_of taken)) (number_among taken name n is m)

module _ (Free : List ℕ → Type 0) (taken : List (List ℕ)) (decide : FreeOrTaken Free taken) where
  NoneBelow : ℕ → Type 0
  NoneBelow n = (j : ℕ) → j < n → (Free (nth j) → ⊥) × Among (nth j) taken

  few : (n : ℕ) → NoneBelow n → n ≤ length taken
  unfolding NoneBelow
  few n none = subst (λ k. n ≤ k) (length-map taken number_of) (le-length_from_below (map number_of taken) n (λ q below. number_among taken (nth q) q (nth_is q).1 (none q below).1))

  first_here : (n : ℕ) → NoneBelow n → Free (nth n) → IsFirstFree Free (nth n)
  unfolding NoneBelow
  first_here n none free = record {
    is_name = (nth_is n).0;
    free = free;
    first = λ other its before it. let below = (names_rise other (nth n) its (nth_is n).0).0 before in let number = (nth_is n).1 in
        (none (number_of other) (omega (arith, below, number))).0 (subst Free (one_name (number_of other) other (nth (number_of other)) (its, refl) (nth_is (number_of other))) it);
  }

  one_more : (n : ℕ) → NoneBelow n → (Free (nth n) → ⊥) × Among (nth n) taken → NoneBelow (suc n)
  unfolding NoneBelow
  one_more n none now j below = ⊎_elim (λ same. subst (λ k. (Free (nth k) → ⊥) × Among (nth k) taken) (sym same) now)
      (⊎_elim (λ less. none j less) (λ above. absurd (omega (arith, below, above)))) (cases_order j n)

  search : (fuel n : ℕ) → length taken < n + fuel → NoneBelow n → (name : List ℕ) × IsFirstFree Free name
  search zero n enough none = let most = few n none in absurd (omega (arith, enough, most))
  search (suc fuel) n enough none = by (decide (nth n)) (λ now. search fuel (suc n) (omega (arith, enough)) (one_more n none now))
    where
      by : Free (nth n) ⊎ ((Free (nth n) → ⊥) × Among (nth n) taken) → ((Free (nth n) → ⊥) × Among (nth n) taken → (name : List ℕ) × IsFirstFree Free name) → (name : List ℕ) × IsFirstFree Free name
      by (inl free) rest = (nth n, first_here n none free)
      by (inr now) rest = rest now

  pub first_exists : (name : List ℕ) × IsFirstFree Free name
  unfolding NoneBelow
  first_exists = search (suc (length taken)) 0 (omega arith) (λ j below. absurd (omega (arith, below)))

pub first_alike : (Free Same : List ℕ → Type 0) → ((name : List ℕ) → Free name → Same name) → ((name : List ℕ) → Same name → Free name) → (name : List ℕ) → IsFirstFree Free name → IsFirstFree Same name
first_alike Free Same to back name f = record { is_name = f.is_name; free = to name f.free; first = λ other its before same. f.first other its before (back other same) }

-- ---- names one after another

module _ (pick : Naming → ℕ → List ℕ) where
  pub named_below : ℕ → Naming
  named_below zero m = []
  named_below (suc n) m = cond (nat_eq m n) (pick (named_below n) n) (named_below n m)

  abbrev pub all_named : Naming
  all_named n = pick (named_below n) n

  pub named_alike : (n m : ℕ) → m < n → named_below n m ≡ all_named m
  unfolding named_below
  named_alike zero m below = absurd (omega (arith, below))
  named_alike (suc n) m below = ⊎_elim
      (λ same. cond-true (nat_eq m n) (pick (named_below n) n) (named_below n m) (eq-eqb m n same) ∙ ap (λ k. pick (named_below k) k) (sym same))
      (⊎_elim (λ less. cond-false (nat_eq m n) (pick (named_below n) n) (named_below n m) (ne_eqb m n (λ e. omega (arith, e, less))) ∙ named_alike n m less) (λ above. absurd (omega (arith, below, above))))
      (cases_order m n)

-- ---- which names are free

same_or_not : (a b : List ℕ) → Either (a ≡ b)
same_or_not a b = ⊎_elim (λ is. inl ((bytes_decides a b).0 is)) (λ is. inr (λ same. both_ways (bytes_eq a b) is ((bytes_decides a b).1 same))) (cases_Bool (bytes_eq a b))

not_first : {X : Type 0} (P : X → Type 0) (x : X) (xs : List X) → (P x → ⊥) → ((y : X) → Among y xs → P y → ⊥) → (y : X) → Among y (x ∷ xs) → P y → ⊥
not_first P x xs now rest x' here p = now p
not_first P x xs now rest y (there m) p = rest y m p

-- one of a list of which this holds
abbrev OneOrNone : {X : Type 0} → (X → Type 0) → List X → Type 0
OneOrNone {X} P xs = ((x : X) × Among x xs × P x) ⊎ ((x : X) → Among x xs → P x → ⊥)

one_or_none : {X : Type 0} (P : X → Type 0) → ((x : X) → Either (P x)) → (xs : List X) → OneOrNone P xs
one_or_none P decide [] = inr (λ x m p. elim m [ ])
one_or_none P decide (x ∷ xs) = by (decide x) (one_or_none P decide xs)
  where
    by : Either (P x) → OneOrNone P xs → OneOrNone P (x ∷ xs)
    by (inl p) rest = inl (x, here, p)
    by (inr now) (inl found) = inl (found.0, there found.1, found.2)
    by (inr now) (inr none) = inr (not_first P x xs now none)

barred_or_not : (name : List ℕ) → Either (IsBarred name)
barred_or_not name = ⊎_elim (λ found. inl (subst IsBarred found.2 (among_barred found.0 found.1))) (λ none. inr (λ is. none name (barred_among name is) refl)) (one_or_none (λ word. word ≡ name) (λ word. same_or_not word name) barred_words)

below_or_not : (B : ℕ → Type 0) → ((m : ℕ) → Either (B m)) → (n : ℕ) → ((m : ℕ) × (m < n) × B m) ⊎ ((m : ℕ) → m < n → B m → ⊥)
below_or_not B decide zero = inr (λ m below b. omega (arith, below))
below_or_not B decide (suc n) = by (decide n) (below_or_not B decide n)
  where
    by : Either (B n) → ((m : ℕ) × (m < n) × B m) ⊎ ((m : ℕ) → m < n → B m → ⊥) → ((m : ℕ) × (m < suc n) × B m) ⊎ ((m : ℕ) → m < suc n → B m → ⊥)
    by (inl b) rest = inl (n, omega arith, b)
    by (inr none) (inl found) = inl (found.0, let less = found.1 in omega (arith, less), found.2)
    by (inr none) (inr no_less) = inr (λ m below b. ⊎_elim (λ same. none (subst B same b)) (⊎_elim (λ less. no_less m less b) (λ above. omega (arith, below, above))) (cases_order m n))

names_below : Naming → ℕ → List (List ℕ)
names_below naming zero = []
names_below naming (suc n) = naming n ∷ names_below naming n

named_among : (naming : Naming) (n m : ℕ) → m < n → Among (naming m) (names_below naming n)
unfolding names_below
named_among naming zero m below = absurd (omega (arith, below))
named_among naming (suc n) m below = ⊎_elim (λ same. subst (λ k. Among (naming k) (naming n ∷ names_below naming n)) (sym same) here)
    (⊎_elim (λ less. there (named_among naming n m less)) (λ above. absurd (omega (arith, below, above)))) (cases_order m n)

abbrev Both : Type 0 → Type 0 → Type 0
Both P Q = P × Q

both_or_not : {P Q : Type 0} → Either P → Either Q → Either (Both P Q)
both_or_not (inl p) (inl q) = inl (p, q)
both_or_not (inl p) (inr none) = inr (λ b. none b.1)
both_or_not (inr none) q = inr (λ b. none b.0)

either_or_not : {P Q : Type 0} → Either P → Either Q → Either (P ⊎ Q)
either_or_not (inl p) q = inl (inl p)
either_or_not (inr none) (inl q) = inl (inr q)
either_or_not (inr none) (inr neither) = inr (⊎_elim none neither)

true_or_not : (b : Bool) → Either (b ≡ true)
true_or_not true = inl refl
true_or_not false = inr (λ is. false≢true is)

false_or_not : (b : Bool) → Either (b ≡ false)
false_or_not true = inr (λ is. false≢true (sym is))
false_or_not false = inl refl

number_or_not : (a b : ℕ) → Either (a ≡ b)
number_or_not a b = ⊎_elim (λ is. inl (eqb-true a b is)) (λ is. inr (λ same. both_ways (nat_eq a b) is (eq-eqb a b same))) (cases_Bool (nat_eq a b))

reaches_or_not : (a b : ℕ) → Either (a ≤ b)
reaches_or_not a b = ⊎_elim (λ is. inl (leb-true a b is)) (λ is. inr (λ on. both_ways (nat_le a b) is (le-leb a b on))) (cases_Bool (nat_le a b))

option_or_not : (o p : Option ℕ) → Either (o ≡ p)
option_or_not None None = inl refl
option_or_not None (Some b) = inr (λ is. none-some b is)
option_or_not (Some a) None = inr (λ is. none-some a (sym is))
option_or_not (Some a) (Some b) = ⊎_elim (λ same. inl (ap Some same)) (λ differ. inr (λ is. differ (same_Some a b is))) (number_or_not a b)

-- ---- of a source

module _ (spelled : Spelling) (os : List Occurrence) where
  variable_at : (t : ℕ) (u : Occurrence) → is_variable t u ≡ true → place u ≡ t
  variable_at t (Reads name) is = sym (eqb-true t name is)
  variable_at t (Assigns name) is = sym (eqb-true t name is)
  variable_at t _ is = absurd cc

  abbrev words_said : List Occurrence → List (List ℕ)
  words_said us = map (λ x. spelled (place x)) us

  said_among : (us : List Occurrence) (u : Occurrence) → Among u us → Among (spelled (place u)) (words_said us)
  said_among [] u m = elim m [ ]
  said_among (x ∷ us) x' here = here
  said_among (x ∷ us) u (there m) = there (said_among us u m)

  reference_spelled : (t : ℕ) → IsReference spelled os t → Among (spelled t) (words_said os)
  reference_spelled t is = let found = any_among (is_variable t) os is in subst (λ k. Among (spelled k) (words_said os)) (variable_at t found.0 found.2) (said_among os found.0 found.1)

  -- a reference of which this holds
  reference_or_not : (B : ℕ → Type 0) → ((t : ℕ) → Either (B t)) → ((t : ℕ) × IsReference spelled os t × B t) ⊎ ((t : ℕ) → IsReference spelled os t → B t → ⊥)
  reference_or_not B decide = ⊎_elim
      (λ found. inl (place found.0, any_of (is_variable (place found.0)) os found.0 found.1 found.2.0, found.2.1))
      (λ none. inr (λ t is b. let f = any_among (is_variable t) os is in let at = variable_at t f.0 f.2 in
      none f.0 f.1 (subst (λ k. is_variable k f.0 ≡ true) (sym at) f.2, subst B (sym at) b)))
      (one_or_none (λ u. Both (is_variable (place u) u ≡ true) (B (place u))) (λ u. both_or_not (true_or_not (is_variable (place u) u)) (decide (place u))) os)

  interferes_or_not : (m : ℕ) (v : LocalVariable) → Either (Interferes spelled os m v)
  interferes_or_not m v = ⊎_elim
      (λ found. inl (record { token = found.0; reference = found.1; means = found.2.0; active = found.2.1 }))
      (λ none. inr (λ i. none i.token i.reference (i.means, i.active)))
      (reference_or_not (λ t. Both (meant spelled os t ≡ Some m) (is_active t v ≡ true)) (λ t. both_or_not (option_or_not (meant spelled os t) (Some m)) (true_or_not (is_active t v))))

  global_or_not : (v : LocalVariable) (name : List ℕ) → Either (IsGlobalAt spelled os v name)
  global_or_not v name = ⊎_elim
      (λ found. inl (record { token = found.0; reference = found.1; free = found.2.0; active = found.2.1.0; spelling = found.2.1.1 }))
      (λ none. inr (λ g. none g.token g.reference (g.free, (g.active, g.spelling))))
      (reference_or_not (λ t. Both (meant spelled os t ≡ None) (Both (is_active t v ≡ true) (spelled t ≡ name)))
      (λ t. both_or_not (option_or_not (meant spelled os t) None) (both_or_not (true_or_not (is_active t v)) (same_or_not (spelled t) name))))

  labels_or_not : (k l : LabelAt) → Either (LabelsInterfere k l)
  labels_or_not k l = ⊎_elim (λ b. inl (record { function = b.0; blocks = b.1 })) (λ none. inr (λ i. none (i.function, i.blocks)))
      (both_or_not (option_or_not k.function l.function)
      (either_or_not (both_or_not (reaches_or_not k.from l.from) (reaches_or_not l.to k.to)) (both_or_not (reaches_or_not l.from k.from) (reaches_or_not k.to l.to))))

  -- an earlier one that has the name
  record HasName (naming : Naming) (v : LocalVariable) (name : List ℕ) (m : ℕ) : Type 0 where
    local : LocalVariable
    is : IsLocal spelled os m local
    renames : is_fixed local ≡ false
    meets : Interferes spelled os m v
    same : naming m ≡ name

  record HasLabelName (naming : Naming) (l : LabelAt) (name : List ℕ) (m : ℕ) : Type 0 where
    label : LabelAt
    is : IsLabel spelled os m label
    meets : LabelsInterfere label l
    same : naming m ≡ name

  has_or_not : (naming : Naming) (v : LocalVariable) (name : List ℕ) (m : ℕ) → Either (HasName naming v name m)
  has_or_not naming v name m = by (slice_get (locals_of spelled os) m) refl
    where
      by : (o : Option LocalVariable) → slice_get (locals_of spelled os) m ≡ o → Either (HasName naming v name m)
      by None at = inr (λ h. none-some h.local (sym at ∙ h.is))
      by (Some u) at = ⊎_elim
          (λ b. inl (record { local = u; is = at; renames = b.0; meets = b.1.0; same = b.1.1 }))
          (λ none. inr (λ h. none (ap is_fixed (same_Some u h.local (sym at ∙ h.is)) ∙ h.renames, (h.meets, h.same))))
          (both_or_not (false_or_not (is_fixed u)) (both_or_not (interferes_or_not m v) (same_or_not (naming m) name)))

  has_label_or_not : (naming : Naming) (l : LabelAt) (name : List ℕ) (m : ℕ) → Either (HasLabelName naming l name m)
  has_label_or_not naming l name m = by (slice_get (labels_of spelled os) m) refl
    where
      by : (o : Option LabelAt) → slice_get (labels_of spelled os) m ≡ o → Either (HasLabelName naming l name m)
      by None at = inr (λ h. none-some h.label (sym at ∙ h.is))
      by (Some k) at = ⊎_elim
          (λ b. inl (record { label = k; is = at; meets = b.0; same = b.1 }))
          (λ none. inr (λ h. none (subst (λ x. LabelsInterfere x l) (sym (same_Some k h.label (sym at ∙ h.is))) h.meets, h.same)))
          (both_or_not (labels_or_not k l) (same_or_not (naming m) name))

  abbrev taken_names : Naming → ℕ → List (List ℕ)
  taken_names naming n = barred_words ++ (words_said os ++ names_below naming n)

  free_or_taken : (naming : Naming) (n : ℕ) (v : LocalVariable) → FreeOrTaken (IsFree spelled os naming n v) (taken_names naming n)
  free_or_taken naming n v name = by (barred_or_not name) (global_or_not v name) (below_or_not (HasName naming v name) (has_or_not naming v name) n)
    where
      by : Either (IsBarred name) → Either (IsGlobalAt spelled os v name) → ((m : ℕ) × (m < n) × HasName naming v name m) ⊎ ((m : ℕ) → m < n → HasName naming v name m → ⊥)
          → IsFree spelled os naming n v name ⊎ ((IsFree spelled os naming n v name → ⊥) × Among name (taken_names naming n))
      by (inl barred) global earlier = inr ((λ f. f.allowed barred), among_left (words_said os ++ names_below naming n) (barred_among name barred))
      by (inr allowed) (inl g) earlier = inr ((λ f. f.no_global g), among_right barred_words (among_left (names_below naming n) (subst (λ k. Among k (words_said os)) g.spelling (reference_spelled g.token g.reference))))
      by (inr allowed) (inr no_global) (inl (m, below, h)) =
          inr ((λ f. f.no_earlier m h.local below h.is h.renames h.meets h.same), among_right barred_words (among_right (words_said os) (subst (λ k. Among k (names_below naming n)) h.same (named_among naming n m below))))
      by (inr allowed) (inr no_global) (inr none) = inl (record {
        allowed = allowed;
        no_global = no_global;
        no_earlier = λ m u below is renames meets same. none m below (record { local = u; is = is; renames = renames; meets = meets; same = same });
      })

  free_label_or_taken : (naming : Naming) (n : ℕ) (l : LabelAt) → FreeOrTaken (IsFreeLabel spelled os naming n l) (barred_words ++ names_below naming n)
  free_label_or_taken naming n l name = by (barred_or_not name) (below_or_not (HasLabelName naming l name) (has_label_or_not naming l name) n)
    where
      by : Either (IsBarred name) → ((m : ℕ) × (m < n) × HasLabelName naming l name m) ⊎ ((m : ℕ) → m < n → HasLabelName naming l name m → ⊥)
          → IsFreeLabel spelled os naming n l name ⊎ ((IsFreeLabel spelled os naming n l name → ⊥) × Among name (barred_words ++ names_below naming n))
      by (inl barred) earlier = inr ((λ f. f.allowed barred), among_left (names_below naming n) (barred_among name barred))
      by (inr allowed) (inl (m, below, h)) = inr ((λ f. f.no_earlier m h.label below h.is h.meets h.same), among_right barred_words (subst (λ k. Among k (names_below naming n)) h.same (named_among naming n m below)))
      by (inr allowed) (inr none) = inl (record { allowed = allowed; no_earlier = λ m k below is meets same. none m below (record { label = k; is = is; meets = meets; same = same }) })

  -- ---- the first one for each

  abbrev chosen : Naming → ℕ → Option LocalVariable → List ℕ
  chosen naming n None = []
  chosen naming n (Some v) = (first_exists (IsFree spelled os naming n v) (taken_names naming n) (free_or_taken naming n v)).0

  chosen_first : (naming : Naming) (n : ℕ) (o : Option LocalVariable) (v : LocalVariable) → o ≡ Some v → IsFirstFree (IsFree spelled os naming n v) (chosen naming n o)
  chosen_first naming n None v is = absurd (none-some v is)
  chosen_first naming n (Some u) v is = subst (λ k. IsFirstFree (IsFree spelled os naming n k) (chosen naming n (Some u))) (same_Some u v is) (first_exists (IsFree spelled os naming n u) (taken_names naming n) (free_or_taken naming n u)).1

  abbrev chosen_label : Naming → ℕ → Option LabelAt → List ℕ
  chosen_label naming n None = []
  chosen_label naming n (Some l) = (first_exists (IsFreeLabel spelled os naming n l) (barred_words ++ names_below naming n) (free_label_or_taken naming n l)).0

  chosen_label_first : (naming : Naming) (n : ℕ) (o : Option LabelAt) (l : LabelAt) → o ≡ Some l → IsFirstFree (IsFreeLabel spelled os naming n l) (chosen_label naming n o)
  chosen_label_first naming n None l is = absurd (none-some l is)
  chosen_label_first naming n (Some k) l is = subst (λ x. IsFirstFree (IsFreeLabel spelled os naming n x) (chosen_label naming n (Some k))) (same_Some k l is) (first_exists (IsFreeLabel spelled os naming n k) (barred_words ++ names_below naming n) (free_label_or_taken naming n k)).1

  pick_local : Naming → ℕ → List ℕ
  pick_local naming n = chosen naming n (slice_get (locals_of spelled os) n)

  pick_label : Naming → ℕ → List ℕ
  pick_label naming n = chosen_label naming n (slice_get (labels_of spelled os) n)

  pub least_of : (naming : Naming) × (label_naming : Naming) × AreLeast spelled os naming label_naming
  unfolding pick_local pick_label
  least_of = (
    all_named pick_local,
    all_named pick_label,
    record {
      locals = λ n v is renames. first_alike (IsFree spelled os (named_below pick_local n) n v) (IsFree spelled os (all_named pick_local) n v)
          (free_alike spelled os (named_below pick_local n) (all_named pick_local) n v (λ m u below other its. named_alike pick_local n m below))
          (free_alike spelled os (all_named pick_local) (named_below pick_local n) n v (λ m u below other its. sym (named_alike pick_local n m below)))
          (all_named pick_local n) (chosen_first (named_below pick_local n) n (slice_get (locals_of spelled os) n) v is);
      labels = λ n l is. first_alike (IsFreeLabel spelled os (named_below pick_label n) n l) (IsFreeLabel spelled os (all_named pick_label) n l)
          (free_label_alike spelled os (named_below pick_label n) (all_named pick_label) n l (λ m k below other. named_alike pick_label n m below))
          (free_label_alike spelled os (all_named pick_label) (named_below pick_label n) n l (λ m k below other. sym (named_alike pick_label n m below)))
          (all_named pick_label n) (chosen_label_first (named_below pick_label n) n (slice_get (labels_of spelled os) n) l is);
    },
  )

pub least_names_exist : LeastNamesExist
least_names_exist spelled os = least_of spelled os
