-- The numbers that local variables are given, in the order in which their scopes begin, are those of least names.
--
-- Of two local variables that are active at one place, the one whose scope begins first is declared first: one that is
-- declared first and active later ends where the other begins, as one in whose initialiser the other stands.
use Rattle.std.proofs.Common.{◌≡◌, ℕ, zero, suc, ◌<◌, ◌≤◌, ◌⊎◌, inl, inr, true, false, Some, None, List, [], ◌∷◌, ◌++◌, length, get_or, set, slice_get, AllPairs, refl, sym, ap, subst, ◌∙◌, ⊎_elim, arith, append_assoc, get_or-set_same, get_or-set_other}
use Rattle.std.proofs.lemmas.Option.{none-some, same_Some, slice_get_within, get_or_from_slice_get}
use Rattle.std.specs.List.{Contains}
use Rattle.std.specs.List.Sorted.{IsPermutation}
use Rattle.std.proofs.lemmas.List.Elements.{Contains-from_at, at_from_Contains}
use Rattle.std.proofs.lemmas.List.Sorted.{All-permutation, Contains-permutation}
use Rattle.std.proofs.lemmas.List.{length-set}
use Rattle.std.proofs.lemmas.Bool.{eqb-true, eq-eqb, leb-true, ltb-true, le-leb, lt-ltb, and_parts, and_from, cases_order, both_ways}
use Rattle.luf_name.specs.Barred.{IsBarred}
use Rattle.luf_name.specs.Order.{IsName, IsNth, number_of}
use Rattle.luf_name.proofs.Rising.{names_rise, one_name}
use Rattle.luf_scope.specs.Local.{Spelling, LocalVariable, is_active, locals_of}
use Rattle.luf_scope.specs.Order.{AreOrdered}
use Rattle.luf_scope.specs.declared.occurrence.Occurrence.{Occurrence}
use Rattle.luf_scope.proofs.Lying.{pairs_head, pairs_tail}
use Rattle.luf_scope.proofs.Ordered.{LocalsNest, locals_nest}
use Rattle.luf_interf.specs.Interference.{IsLocal, IsReference, meant}
use Rattle.luf_interf.specs.NewNames.{Naming, is_fixed, IsFirstFree, IsFree}
use Rattle.luf_interf.specs.declared.uses.Owner.{Owner}
use Rattle.luf_interf.specs.declared.uses.Owner.TheVariants as owner
use Rattle.luf_interf.specs.declared.uses.Use.{Use}
use Rattle.luf_interf.specs.declared.uses.Scope.{Scope}
use Rattle.luf_interf.specs.inner.Owners.{a_number, no_number, IsOwner, renamed, fixed, free, AreUses, AreLocalNames, scopes_from, Begins}
use Rattle.luf_interf.specs.inner.Uses as uses
use Rattle.luf_interf.specs.inner.Uses.{nowhere, IsBarredNumber, has_number, is_used, IsTaken, IsChoice, AreNamed, named, name_next}
use Rattle.luf_interf.specs.inner.Among.{Among, here, there}
use Rattle.luf_interf.proofs.Among.{all_among, all_from, any_among, any_of, index_of, pairs_at}
use Rattle.luf_interf.proofs.Choice.{either, behind_all, parts, used_there}
use Rattle.luf_interf.proofs.OwnersFound.{use_reference, use_owner, reference_use, meant_active, IsScopeOf, scope_is, scope_there}

-- ---- what one run tells of each

across : {X : Type 0} (R : X → X → Type 0) (xs ys : List X) (x y : X) → AllPairs R (xs ++ ys) → Among x xs → Among y ys → R x y
across R [] ys x y pairs m n = elim m [ ]
across R (z ∷ xs) ys z' y pairs here n = all_among (R z) (xs ++ ys) y (pairs_head R z (xs ++ ys) pairs) (behind_all xs n)
across R (z ∷ xs) ys x y pairs (there m) n = across R xs ys x y (pairs_tail R z (xs ++ ys) pairs) m n

module _ (size : ℕ) (all : List Use) (final : List ℕ) (sorted : List Scope) (apart : AllPairs (λ s t. s.local ≡ t.local → ⊥) sorted) where
  -- when s was given its number, those before it had theirs, and it and those behind it had none
  pub record IsGiven (s : Scope) : Type 0 where
    pub before : List Scope
    pub after : List Scope
    pub split : before ++ s ∷ after ≡ sorted
    pub names : List ℕ
    pub choice : IsChoice all names s (get_or final s.local nowhere)
    pub below : get_or final s.local nowhere < size
    pub kept : (t : Scope) → Among t before → get_or names t.local nowhere ≡ get_or final t.local nowhere
    pub none : (t : Scope) → Among t (s ∷ after) → get_or names t.local nowhere ≡ nowhere

  split_apart : (before after : List Scope) (s t : Scope) → before ++ s ∷ after ≡ sorted → Among t after → s.local ≡ t.local → ⊥
  split_apart before after s t split m =
      all_among (λ u. s.local ≡ u.local → ⊥) after t (pairs_head (λ u v. u.local ≡ v.local → ⊥) s after (behind_pairs before (subst (AllPairs (λ u v. u.local ≡ v.local → ⊥)) (sym split) apart))) m
    where
      behind_pairs : (xs : List Scope) → AllPairs (λ u v. u.local ≡ v.local → ⊥) (xs ++ s ∷ after) → AllPairs (λ u v. u.local ≡ v.local → ⊥) (s ∷ after)
      behind_pairs [] pairs = pairs
      behind_pairs (x ∷ xs) pairs = behind_pairs xs (pairs_tail (λ u v. u.local ≡ v.local → ⊥) x (xs ++ s ∷ after) pairs)

  -- the numbers of those that are named already stay
  stays : (names : List ℕ) (rest : List Scope) → AreNamed size all names rest final → (n : ℕ) → ((t : Scope) → Among t rest → t.local ≡ n → ⊥) → get_or final n nowhere ≡ get_or names n nowhere
  stays names [] named n away = refl
  stays names (s ∷ rest) (name_next {k = k} small choice run) n away =
      stays (set names s.local k) rest run n (λ t m. away t (there m)) ∙ get_or-set_other names s.local n k nowhere (λ e. away s here (sym e))

  each_given : (before : List Scope) (names : List ℕ) (rest : List Scope) → AreNamed size all names rest final → before ++ rest ≡ sorted
      → ((t : Scope) → Among t before → get_or names t.local nowhere ≡ get_or final t.local nowhere) → ((t : Scope) → Among t rest → get_or names t.local nowhere ≡ nowhere)
      → ((t : Scope) → Among t rest → t.local < length names) → (s : Scope) → Among s rest → IsGiven s
  each_given before names [] run split kept none within s m = elim m [ ]
  each_given before names (s ∷ rest) (name_next {k = k} small choice run) split kept none within t m =
      by t m
      (each_given (before ++ s ∷ []) (set names s.local k) rest run (append_assoc before (s ∷ []) rest ∙ split) kept_on none_on (λ u n. let w = within u (there n) in let count = length-set names s.local k in omega (arith, w, count)))
    where
      number : get_or final s.local nowhere ≡ k
      number = stays (set names s.local k) rest run s.local (λ u n e. split_apart before rest s u split n (sym e)) ∙ get_or-set_same names s.local k nowhere (within s here)

      kept_on : (u : Scope) → Among u (before ++ s ∷ []) → get_or (set names s.local k) u.local nowhere ≡ get_or final u.local nowhere
      kept_on u n = ⊎_elim
          (λ left. get_or-set_other names s.local u.local k nowhere (λ e. across (λ x y. x.local ≡ y.local → ⊥) before (s ∷ rest) u s (subst (AllPairs (λ x y. x.local ≡ y.local → ⊥)) (sym split) apart) left here e) ∙ kept u left)
          (λ right. last u right) (either before (s ∷ []) n)
        where
          last : (u : Scope) → Among u (s ∷ []) → get_or (set names s.local k) u.local nowhere ≡ get_or final u.local nowhere
          last u' here = get_or-set_same names s.local k nowhere (within s here) ∙ sym number
          last u (there n) = elim n [ ]

      none_on : (u : Scope) → Among u rest → get_or (set names s.local k) u.local nowhere ≡ nowhere
      none_on u n = get_or-set_other names s.local u.local k nowhere (λ e. split_apart before rest s u split n (sym e)) ∙ none u (there n)

      by : (t : Scope) → Among t (s ∷ rest) → ((t : Scope) → Among t rest → IsGiven t) → IsGiven t
      by t' here later = record {
        before = before;
        after = rest;
        split = split;
        names = names;
        choice = subst (IsChoice all names s) (sym number) choice;
        below = subst (λ n. n < size) (sym number) small;
        kept = kept;
        none = none;
      }
      by t (there n) later = later t n

-- ---- what it comes to

module _ (a e c : ℕ) (os : List Occurrence) (lies : AreOrdered a e c os) (spelled : Spelling) (size : ℕ) (few : size < nowhere) (all : List Use) (are : AreUses spelled os size os all)
    (final : List ℕ) (sorted : List Scope) (order : AllPairs Begins sorted)
    (scope : (s : Scope) → Among s sorted → IsScopeOf (locals_of spelled os) 0 s) (scoped : (n : ℕ) (v : LocalVariable) → IsLocal spelled os n v → is_fixed v ≡ false → (s : Scope) × Among s sorted × (s.local ≡ n))
    (apart : AllPairs (λ s t. s.local ≡ t.local → ⊥) sorted) (naming : Naming) (numbered : (n : ℕ) → IsNth (naming n) (get_or final n nowhere)) where
  nests : (n m : ℕ) (u v : LocalVariable) → n < m → IsLocal spelled os n u → IsLocal spelled os m v → LocalsNest u v
  nests n m u v below one two = pairs_at LocalsNest (locals_of spelled os) n m u v (locals_nest a e c os spelled lies) below one two

  -- the scope that a local variable has
  pub record Has (n : ℕ) (v : LocalVariable) (s : Scope) : Type 0 where
    pub number : s.local ≡ n
    pub from : s.from ≡ v.from
    pub to : s.to ≡ v.to

  has_scope : (n : ℕ) (v : LocalVariable) (s : Scope) → IsLocal spelled os n v → Among s sorted → s.local ≡ n → Has n v s
  has_scope n v s is m number =
      let own = scope s m in
      let place = own.number in
      let same = same_Some own.local v (sym own.is ∙ ap (slice_get (locals_of spelled os)) (omega (arith, place, number)) ∙ is) in
      record { number = number; from = own.from ∙ ap (λ x. x.from) same; to = own.to ∙ ap (λ x. x.to) same }

  bounds : (p : ℕ) (v : LocalVariable) → is_active p v ≡ true → (v.from ≤ p) × (p < v.to)
  bounds p v active = let both = and_parts _ _ active in (leb-true v.from p both.0, ltb-true p v.to both.1)

  module _ (n : ℕ) (v : LocalVariable) (is : IsLocal spelled os n v) (free_v : is_fixed v ≡ false) (s : Scope) (among : Among s sorted) (own : Has n v s) (given : IsGiven size all final sorted apart s) where
    k : ℕ
    k = get_or final s.local nowhere

    k_is : k ≡ get_or final n nowhere
    unfolding k
    k_is = ap (λ m. get_or final m nowhere) own.number

    names : List ℕ
    names = given.names

    choice : IsChoice all names s k
    unfolding names k
    choice = given.choice

    named_k : IsNth (naming n) k
    named_k = ((numbered n).0, (numbered n).1 ∙ sym k_is)

    -- where another local variable stands that is active where v is
    module _ (m : ℕ) (u : LocalVariable) (there_u : IsLocal spelled os m u) (t : Scope) (among_t : Among t sorted) (own_t : Has m u t) (p : ℕ) (active_u : is_active p u ≡ true) (active_v : is_active p v ≡ true) where
      -- behind it in the order of scopes, it is not declared before it
      not_behind : Begins s t → m < n → ⊥
      not_behind (inl less) below =
          let nest = nests m n u v below there_u is in
          let low = (bounds p u active_u).0 in let high = (bounds p v active_v).1 in
          let sf = own.from in let tf = own_t.from in
          let ends = nest.before (omega (arith, less, sf, tf)) in
          omega (arith, ends, low, high)
      not_behind (inr tie) below = let sn = own.number in let tn = own_t.number in let less = tie.1 in omega (arith, sn, tn, less, below)

      -- before it in the order of scopes, it is declared before it
      is_before : Begins t s → m < n
      is_before (inl less) = ⊎_elim (λ same. let sf = own.from in let tf = own_t.from in let one = ap (λ x. x.from) (same_Some u v (sym there_u ∙ ap (slice_get (locals_of spelled os)) same ∙ is)) in absurd (omega (arith, less, sf, tf, one)))
          (⊎_elim (λ below. below) (λ above.
          let nest = nests n m v u above is there_u in
          let low = (bounds p v active_v).0 in let high = (bounds p u active_u).1 in
          let sf = own.from in let tf = own_t.from in
          let ends = nest.before (omega (arith, less, sf, tf)) in
          absurd (omega (arith, ends, low, high))))
          (cases_order m n)
      is_before (inr tie) = let sn = own.number in let tn = own_t.number in let less = tie.1 in omega (arith, sn, tn, less)

    sides : (t : Scope) → Among t sorted → Among t given.before ⊎ Among t (s ∷ given.after)
    sides t m = either given.before (s ∷ given.after) (subst (λ xs. Among t xs) (sym given.split) m)

    before_begins : (t : Scope) → Among t given.before → Begins t s
    before_begins t m = across Begins given.before (s ∷ given.after) t s (subst (AllPairs Begins) (sym given.split) order) m here

    after_begins : (t : Scope) → Among t given.after → Begins s t
    after_begins t m = all_among (Begins s) given.after t (pairs_head Begins s given.after (behind_pairs given.before (subst (AllPairs Begins) (sym given.split) order))) m
      where
        behind_pairs : (xs : List Scope) → AllPairs Begins (xs ++ s ∷ given.after) → AllPairs Begins (s ∷ given.after)
        behind_pairs [] pairs = pairs
        behind_pairs (x ∷ xs) pairs = behind_pairs xs (pairs_tail Begins x (xs ++ s ∷ given.after) pairs)

    used : (u : Use) → Among u all → is_active u.token v ≡ true → uses.number_of names u.owner ≡ k → IsTaken all names s k
    used u m active number =
        let b = bounds u.token v active in let low = b.0 in let high = b.1 in let sf = own.from in let st = own.to in
        inr (any_of (is_used names s k) all u m (used_there names s k u (omega (arith, low, sf)) (omega (arith, high, st)) (eq-eqb (uses.number_of names u.owner) k number)))

    not_barred : IsBarred (naming n) → ⊥
    not_barred barred = choice.free (inl (record { name = naming n; is = named_k; barred = barred }))

    -- no free name where v is active is its name
    module _ (p : ℕ) (reference : IsReference spelled os p) (free_p : meant spelled os p ≡ None) (active : is_active p v ≡ true) (spelling : spelled p ≡ naming n) where
      from_use : (o : Owner) → IsOwner spelled os size p (Some o) → (u : Use) → Among u all → u.token ≡ p → u.owner ≡ o → ⊥
      from_use (owner.Local m) (renamed means at free_m) u among_u token owned = none-some m (sym free_p ∙ means)
      from_use (owner.Local m) (free none x) u among_u token owned = elim x [ ]
      from_use (owner.Free j) (free none (a_number nth small apart_of)) u among_u token owned =
          let number : j ≡ k = sym nth.1 ∙ ap number_of spelling ∙ named_k.1 in
          choice.free (used u among_u (subst (λ t. is_active t v ≡ true) (sym token) active) (ap (uses.number_of names) owned ∙ number))

      from_none : IsOwner spelled os size p None → ⊥
      unfolding k
      from_none (fixed means at fixed_m) = none-some _ (sym free_p ∙ means)
      from_none (free none (no_number barred)) = not_barred (subst IsBarred spelling (barred k given.below (subst (λ w. IsNth w k) (sym spelling) named_k)))

      no_global : ⊥
      no_global = ⊎_elim (λ h. from_use h.one.owner h.owned h.one h.among h.token refl) from_none (reference_use spelled os size all are p reference)

    -- no local variable before it that interferes has its name
    module _ (m : ℕ) (u : LocalVariable) (below : m < n) (at : IsLocal spelled os m u) (free_u : is_fixed u ≡ false) (p : ℕ) (reference : IsReference spelled os p) (means : meant spelled os p ≡ Some m) (active : is_active p v ≡ true) (same : naming m ≡ naming n) where
      has_k : get_or final m nowhere ≡ k
      has_k = sym (numbered m).1 ∙ ap number_of same ∙ named_k.1

      before_has : get_or names m nowhere ≡ k
      unfolding names
      before_has =
          let t = scoped m u at free_u in
          let own_t = has_scope m u t.0 at t.1 t.2 in
          let beside = not_behind m u at t.0 t.1 own_t p (meant_active spelled os size p m u means at) active in
          ⊎_elim (λ left. ap (λ j. get_or given.names j nowhere) (sym t.2) ∙ given.kept t.0 left ∙ ap (λ j. get_or final j nowhere) t.2 ∙ has_k)
          (λ right. absurd (not_right t.0 t.2 beside right)) (sides t.0 t.1)
        where
          not_right : (t : Scope) → t.local ≡ m → (Begins s t → m < n → ⊥) → Among t (s ∷ given.after) → ⊥
          not_right t' number beside here = let sn = own.number in omega (arith, sn, number, below)
          not_right t number beside (there right) = beside (after_begins t right) below

      from_earlier : (o : Owner) → IsOwner spelled os size p (Some o) → (w : Use) → Among w all → w.token ≡ p → w.owner ≡ o → ⊥
      from_earlier (owner.Local j) (renamed means_j at_j free_j) w among_w token owned =
          let one = same_Some j m (sym means_j ∙ means) in
          choice.free (used w among_w (subst (λ t. is_active t v ≡ true) (sym token) active) (ap (uses.number_of names) owned ∙ ap (λ i. get_or names i nowhere) one ∙ before_has))
      from_earlier (owner.Local j) (free none x) w among_w token owned = elim x [ ]
      from_earlier (owner.Free j) (free none (a_number nth small apart_of)) w among_w token owned = none-some m (sym none ∙ means)

      from_fixed : IsOwner spelled os size p None → ⊥
      from_fixed (fixed {n = j} means_j at_j fixed_j) =
          let one = same_Some j m (sym means_j ∙ means) in
          both_ways (is_fixed u) free_u (ap is_fixed (same_Some _ _ (sym at ∙ ap (slice_get (locals_of spelled os)) (sym one) ∙ at_j)) ∙ fixed_j)
      from_fixed (free none (no_number barred)) = none-some m (sym none ∙ means)

      no_earlier : ⊥
      no_earlier = ⊎_elim (λ h. from_earlier h.one.owner h.owned h.one h.among h.token refl) from_fixed (reference_use spelled os size all are p reference)

    -- and each name before it is not free
    module _ (name : List ℕ) (named_so : IsName name) (it : IsFree spelled os naming n v name) where
      j : ℕ
      j = number_of name

      not_used : (w : Use) → Among w all → is_active w.token v ≡ true → j < size → (o : Owner) → w.owner ≡ o → IsOwner spelled os size w.token (Some o) → uses.number_of names o ≡ j → ⊥
      unfolding names j
      not_used w among_w active small (owner.Free i) owned (free none (a_number nth below apart_of)) number =
          it.no_global (record { token = w.token; reference = use_reference spelled os size all are w among_w; free = none; active = active; spelling = one_name j (spelled w.token) name (nth.0, nth.1 ∙ number) (named_so, refl) })
      not_used w among_w active small (owner.Local m) owned (free none x) number = elim x [ ]
      not_used w among_w active small (owner.Local m) owned (renamed {v = u} means at free_u) number =
          let t = scoped m u at free_u in
          let own_t = has_scope m u t.0 at t.1 t.2 in
          ⊎_elim
          (λ left.
          let below = is_before m u at t.0 t.1 own_t w.token (meant_active spelled os size w.token m u means at) active (before_begins t.0 left) in
          let last = ap (λ i. get_or final i nowhere) (sym t.2) ∙ sym (given.kept t.0 left) ∙ ap (λ i. get_or given.names i nowhere) t.2 ∙ number in
          it.no_earlier m u below at free_u (record { token = w.token; reference = use_reference spelled os size all are w among_w; means = means; active = active }) (one_name j (naming m) name ((numbered m).0, (numbered m).1 ∙ last) (named_so, refl)))
          (λ right. let none = sym (given.none t.0 right) ∙ ap (λ i. get_or given.names i nowhere) t.2 ∙ number in omega (arith, none, small, few))
          (sides t.0 t.1)

      not_free : j < k → ⊥
      unfolding j k names
      not_free below = by (choice.first (number_of name) below)
        where
          by : IsTaken all given.names s (number_of name) → ⊥
          by (inl barred) = it.allowed (subst IsBarred (one_name (number_of name) barred.name name barred.is (named_so, refl)) barred.barred)
          by (inr is_taken) =
              let found = any_among (is_used given.names s (number_of name)) all is_taken in
              let p = parts given.names s (number_of name) found.0 found.2 in
              let low = p.0 in let high = p.1 in let sf = own.from in let st = own.to in let less = given.below in
              let active = and_from _ _ (le-leb v.from found.0.token (omega (arith, low, sf))) (lt-ltb found.0.token v.to (omega (arith, high, st))) in
              not_used found.0 found.1 active (omega (arith, below, less)) found.0.owner refl (use_owner spelled os size all are found.0 found.1) (eqb-true (uses.number_of given.names found.0.owner) (number_of name) p.2)

    pub first_free : IsFirstFree (IsFree spelled os naming n v) (naming n)
    unfolding j
    first_free = record {
      is_name = (numbered n).0;
      free = record {
        allowed = not_barred;
        no_global = λ g. no_global g.token g.reference g.free g.active g.spelling;
        no_earlier = λ m u below at free_u meets same. no_earlier m u below at free_u meets.token meets.reference meets.means meets.active same;
      };
      first = λ name its before it. let less = (names_rise name (naming n) its (numbered n).0).0 before in let number = named_k.1 in
          not_free name its it (subst (λ i. number_of name < i) number less);
    }

-- ---- of all of them

any_at : {X : Type 0} (xs : List X) (i : ℕ) (x : X) → i < length xs → get_or xs i x ≡ x → Among x xs
any_at [] i x below is = absurd (omega (arith, below))
any_at (y ∷ xs) zero x below is = subst (λ z. Among z (y ∷ xs)) is here
any_at (y ∷ xs) (suc i) x below is = there (any_at xs i x (omega (arith, below)) is)

contained : {X : Type 0} (xs : List X) (x : X) → Among x xs → Contains xs x
contained xs x m = let found = index_of xs x m in Contains-from_at xs x (found.0, slice_get_within xs found.0 x found.1, λ d. get_or_from_slice_get xs found.0 x d found.1)

among_contained : {X : Type 0} (xs : List X) (x : X) → Contains xs x → Among x xs
among_contained xs x has = let found = at_from_Contains xs x has in any_at xs found.0 x found.1 (found.2 x)

module _ (a e c : ℕ) (os : List Occurrence) (lies : AreOrdered a e c os) (spelled : Spelling) (sorted : List Scope) (permutation : IsPermutation (scopes_from 0 (locals_of spelled os)) sorted) (order : AllPairs Begins sorted) where
  pub scope_sorted : (s : Scope) → Among s sorted → IsScopeOf (locals_of spelled os) 0 s
  scope_sorted s m = all_among (IsScopeOf (locals_of spelled os) 0) sorted s
      (All-permutation (IsScopeOf (locals_of spelled os) 0) (scopes_from 0 (locals_of spelled os)) sorted permutation (all_from (IsScopeOf (locals_of spelled os) 0) (scopes_from 0 (locals_of spelled os)) (scope_is (locals_of spelled os) 0))) m

  pub scoped_sorted : (n : ℕ) (v : LocalVariable) → IsLocal spelled os n v → is_fixed v ≡ false → (s : Scope) × Among s sorted × (s.local ≡ n)
  scoped_sorted n v is free_v =
      let found = scope_there (locals_of spelled os) 0 n v is free_v in
      let number = found.2 in
      (found.0, among_contained sorted found.0 (Contains-permutation (scopes_from 0 (locals_of spelled os)) sorted found.0 permutation (contained (scopes_from 0 (locals_of spelled os)) found.0 found.1)), omega (arith, number))

  pub sorted_apart : AllPairs (λ s t. s.local ≡ t.local → ⊥) sorted
  sorted_apart i j d less within same = by (get_or sorted i d) (get_or sorted j d) (scope_sorted (get_or sorted i d) (any_place sorted i d (omega (arith, less, within)))) (scope_sorted (get_or sorted j d) (any_place sorted j d within)) same (order i j d less within)
    where
      any_place : (xs : List Scope) (k : ℕ) (d : Scope) → k < length xs → Among (get_or xs k d) xs
      any_place [] k d below = absurd (omega (arith, below))
      any_place (x ∷ xs) zero d below = here
      any_place (x ∷ xs) (suc k) d below = there (any_place xs k d (omega (arith, below)))

      by : (s t : Scope) → IsScopeOf (locals_of spelled os) 0 s → IsScopeOf (locals_of spelled os) 0 t → s.local ≡ t.local → Begins s t → ⊥
      by s t one two same (inl less) =
          let sn = one.number in let tn = two.number in
          let local = same_Some one.local two.local (sym one.is ∙ ap (slice_get (locals_of spelled os)) (omega (arith, sn, tn, same)) ∙ two.is) in
          let sf = one.from in let tf = two.from in let from = ap (λ v. v.from) local in
          omega (arith, sf, tf, from, less)
      by s t one two same (inr tie) = let less = tie.1 in omega (arith, same, less)

  pub local_names : (size : ℕ) → size < nowhere → (all : List Use) → AreUses spelled os size os all → (start final : List ℕ) → length start ≡ length (locals_of spelled os) → ((n : ℕ) → get_or start n nowhere ≡ nowhere)
      → AreNamed size all start sorted final → AreLocalNames spelled os final
  local_names size few all are start final count unnamed run naming numbered n v is free_v =
      let found = scoped_sorted n v is free_v in
      first_free a e c os lies spelled size few all are final sorted order scope_sorted scoped_sorted sorted_apart naming numbered n v is free_v found.0 found.1
      (has_scope a e c os lies spelled size few all are final sorted order scope_sorted scoped_sorted sorted_apart naming numbered n v found.0 is found.1 found.2)
      (each_given size all final sorted sorted_apart [] start sorted run refl (λ t m. elim m [ ]) (λ t m. unnamed t.local)
      (λ t m. let own = scope_sorted t m in let number = own.number in let within = slice_get_within (locals_of spelled os) own.place own.local own.is in omega (arith, number, within, count)) found.0 found.1)
