-- A sweep over scopes: one scope is entered, a name is looked up.
use Rattle.std.proofs.Common.{◌≡◌, ℕ, ◌+◌, ◌<◌, ◌≤◌, ◌≢◌, ◌⊎◌, inl, inr, true, false, ◌&&◌, cond, nat_eq, nat_lt, Option, Some, List, [], ◌∷◌, ◌++◌, length, get_or, slice_set, take, drop, refl, sym, ap, ◌∙◌, subst, arith, All, AllPairs}
use Rattle.std.specs.Global.{Vec}
use Rattle.std.specs.Option.{option_or, option_map, option_map_or}
use Rattle.std.proofs.lemmas.Bool.{cases_lt}
use Rattle.std.proofs.lemmas.Bool.Decides.{nat_tests}
use Rattle.std.proofs.lemmas.List.{take-append-drop, get_or-drop, length-drop, length-set, get_or-set_same, get_or-set_other}
use Rattle.std.proofs.lemmas.List.Elements.{All-more}
use Rattle.std.proofs.lemmas.Option.{slice_get-get_or, slice_get_past}
use Rattle.luf_scope.specs.declared.scopes.Scope.{Scope}
use Rattle.luf_scope.specs.declared.stacks.Held.{Held}
use Rattle.luf_scope.specs.inner.Last.{last_such, outlasts}
use Rattle.luf_scope.specs.inner.Scopes.{is_meant}
use Rattle.luf_scope.specs.inner.Sweep.{IsSweep, stack_at, reaches}
use Rattle.luf_scope.proofs.Lasts.{last_append, last_snoc, last_take, last_none, last_same, map_cond}

pub stack_read : (stacks : List (Vec (Held ℕ))) (k : ℕ) (d : Vec (Held ℕ)) → k < length stacks → stack_at stacks k ≡ (get_or stacks k d).items
stack_read stacks k d inside = ap (λ o. option_map_or (λ v. v.items) o []) (slice_get-get_or stacks k d inside)

pub stack_past : (stacks : List (Vec (Held ℕ))) (k : ℕ) → length stacks ≤ k → stack_at stacks k ≡ []
stack_past stacks k past = ap (λ o. option_map_or (λ v. v.items) o []) (slice_get_past stacks k past)

stack_written : (stacks : List (Vec (Held ℕ))) (k : ℕ) (new : Vec (Held ℕ)) → k < length stacks → stack_at (slice_set stacks k new) k ≡ new.items
stack_written stacks k new inside = stack_read (slice_set stacks k new) k new (omega (arith, length-set stacks k new)) ∙ ap (λ v. v.items) (get_or-set_same stacks k new new inside)

stack_kept : (stacks : List (Vec (Held ℕ))) (n k : ℕ) (new : Vec (Held ℕ)) → k ≢ n → stack_at (slice_set stacks n new) k ≡ stack_at stacks k
stack_kept stacks n k new apart = elim (cases_lt k (length stacks)) [
  | inl inside ↦ stack_read (slice_set stacks n new) k new (omega (arith, length-set stacks n new)) ∙ ap (λ v. v.items) (get_or-set_other stacks n k new new apart) ∙ sym (stack_read stacks k new inside)
  | inr past ↦ stack_past (slice_set stacks n new) k (omega (arith, length-set stacks n new)) ∙ sym (stack_past stacks k past)
]

equal_or_not : (a b : ℕ) → (a ≡ b) ⊎ (a ≢ b)
equal_or_not a b = elim (cases_lt a b) [
  | inl less ↦ inr (λ e. omega arith)
  | inr more ↦ elim (cases_lt b a) [
    | inl less ↦ inr (λ e. omega arith)
    | inr same ↦ inl (omega arith)
  ]
]

reaches_same : (k later : ℕ) (s : Scope) → k ≡ s.name → reaches k later s ≡ nat_lt later s.to
reaches_same k later s is = let yes_eq : nat_eq s.name k ≡ true = grind (arith, nat_tests) in ap (λ b. b && nat_lt later s.to) yes_eq

reaches_other : (k later : ℕ) (s : Scope) → k ≢ s.name → reaches k later s ≡ false
reaches_other k later s apart = let no_eq : nat_eq s.name k ≡ false = grind (arith, nat_tests) in ap (λ b. b && nat_lt later s.to) no_eq

module _ (scopes : List Scope) (place entered : ℕ) (stacks : List (Vec (Held ℕ))) (sweep : IsSweep scopes place entered stacks) where
  module _ (s : Scope) (old new : Vec (Held ℕ)) (inside : entered < length scopes) (is : s ≡ get_or scopes entered s) (ranged : s.name < length scopes) (was : old ≡ get_or stacks s.name old) (pushed : new.items ≡ old.items ++ record { what = s.local; to = s.to } ∷ []) where
    told : (later : ℕ) → Option ℕ
    told later = option_map (λ t. t.local) (last_such (reaches s.name later) (take entered scopes))

    scopes_tell : (k later : ℕ) → option_map (λ t. t.local) (last_such (reaches k later) (take (entered + 1) scopes)) ≡ cond (reaches k later s) (Some s.local) (option_map (λ t. t.local) (last_such (reaches k later) (take entered scopes)))
    scopes_tell k later = ap (option_map (λ t. t.local)) (last_take (reaches k later) scopes entered (entered + 1) s refl inside is)
        ∙ map_cond (λ t. t.local) (reaches k later s) s (last_such (reaches k later) (take entered scopes))

    stack_tells : (later : ℕ) → option_map (λ h. h.what) (last_such (outlasts later) (stack_at (slice_set stacks s.name new) s.name)) ≡ cond (nat_lt later s.to) (Some s.local) (option_map (λ h. h.what) (last_such (outlasts later) (stack_at stacks s.name)))
    stack_tells later =
        let there : s.name < length stacks = omega (arith, sweep.count) in
        ap (λ items. option_map (λ h. h.what) (last_such (outlasts later) items)) (stack_written stacks s.name new there ∙ pushed)
        ∙ ap (option_map (λ h. h.what)) (last_snoc (outlasts later) old.items (record { what = s.local; to = s.to }))
        ∙ map_cond (λ h. h.what) (nat_lt later s.to) (record { what = s.local; to = s.to }) (last_such (outlasts later) old.items)
        ∙ ap (λ items. cond (nat_lt later s.to) (Some s.local) (option_map (λ h. h.what) (last_such (outlasts later) items))) (ap (λ v. v.items) was ∙ sym (stack_read stacks s.name old there))

    -- one more scope has begun
    pub entered_one : s.from ≤ place → IsSweep scopes place (entered + 1) (slice_set stacks s.name new)
    entered_one begun = record {
      within = omega arith;
      begun = All-more (λ t. t.from ≤ place) scopes entered s inside sweep.begun (subst (λ t. t.from ≤ place) is begun);
      count = length-set stacks s.name new ∙ sweep.count;
      tell = λ k later le. elim (equal_or_not k s.name) [
        | inl same ↦ subst (λ n. option_map (λ h. h.what) (last_such (outlasts later) (stack_at (slice_set stacks s.name new) n)) ≡ option_map (λ t. t.local) (last_such (reaches n later) (take (entered + 1) scopes))) (sym same)
            (stack_tells later ∙ ap (λ o. cond (nat_lt later s.to) (Some s.local) o) (sweep.tell s.name later le)
            ∙ ap (λ b. cond b (Some s.local) (option_map (λ t. t.local) (last_such (reaches s.name later) (take entered scopes)))) (sym (reaches_same s.name later s refl))
            ∙ sym (scopes_tell s.name later))
        | inr apart ↦ ap (λ items. option_map (λ h. h.what) (last_such (outlasts later) items)) (stack_kept stacks s.name k new apart)
            ∙ sweep.tell k later le
            ∙ ap (λ b. cond b (Some s.local) (option_map (λ t. t.local) (last_such (reaches k later) (take entered scopes)))) (sym (reaches_other k later s apart))
            ∙ sym (scopes_tell k later)
      ];
    }

  -- what is read off a stack stays true where what has ended is taken off it
  pub swept_on : (n : ℕ) (old new : Vec (Held ℕ)) → n < length scopes → old ≡ get_or stacks n old → ((later : ℕ) → place ≤ later → last_such (outlasts later) new.items ≡ last_such (outlasts later) old.items) → IsSweep scopes place entered (slice_set stacks n new)
  swept_on n old new ranged was kept = record {
    within = sweep.within;
    begun = sweep.begun;
    count = length-set stacks n new ∙ sweep.count;
    tell = λ k later le. elim (equal_or_not k n) [
      | inl same ↦ let there : n < length stacks = omega (arith, sweep.count) in
          subst (λ m. option_map (λ h. h.what) (last_such (outlasts later) (stack_at (slice_set stacks n new) m)) ≡ option_map (λ t. t.local) (last_such (reaches m later) (take entered scopes))) (sym same)
          (ap (λ items. option_map (λ h. h.what) (last_such (outlasts later) items)) (stack_written stacks n new there)
          ∙ ap (option_map (λ h. h.what)) (kept later le)
          ∙ ap (λ items. option_map (λ h. h.what) (last_such (outlasts later) items)) (ap (λ v. v.items) was ∙ sym (stack_read stacks n old there))
          ∙ sweep.tell n later le)
      | inr apart ↦ ap (λ items. option_map (λ h. h.what) (last_such (outlasts later) items)) (stack_kept stacks n k new apart) ∙ sweep.tell k later le
    ];
  }

  module _ (rising : AllPairs (λ s t. s.from ≤ t.from) scopes) (done : (d : Scope) → entered < length scopes → place < (get_or scopes entered d).from) where
    later_begins : (j : ℕ) (d : Scope) → entered ≤ j → j < length scopes → place < (get_or scopes j d).from
    later_begins j d le inside = elim (cases_lt entered j) [
      | inl more ↦ let up : (get_or scopes entered d).from ≤ (get_or scopes j d).from = rising entered j d more inside in let low : place < (get_or scopes entered d).from = done d (omega arith) in omega arith
      | inr same ↦ let eq : entered ≡ j = omega arith in subst (λ n. place < (get_or scopes n d).from) eq (done d (omega arith))
    ]

    none_behind : (k : ℕ) → All (λ s. is_meant k place s ≡ false) (drop entered scopes)
    none_behind k j d inside =
        let far : entered + j < length scopes = omega (arith, length-drop entered scopes) in
        let at : get_or (drop entered scopes) j d ≡ get_or scopes (entered + j) d = get_or-drop entered scopes j d in
        subst (λ s. is_meant k place s ≡ false) (sym at) (unbegun k (get_or scopes (entered + j) d) (later_begins (entered + j) d (omega arith) far))
      where
        unbegun : (k : ℕ) (s : Scope) → place < s.from → is_meant k place s ≡ false
        unbegun k s behind = grind (arith, nat_tests)

    same_before : (k : ℕ) → All (λ s. is_meant k place s ≡ reaches k place s) (take entered scopes)
    same_before k j d inside = begun_already k (get_or (take entered scopes) j d) (sweep.begun j d inside)
      where
        begun_already : (k : ℕ) (s : Scope) → s.from ≤ place → is_meant k place s ≡ reaches k place s
        begun_already k s begun = grind (arith, nat_tests)

    -- what a name means is on top of its stack
    pub told_of : (k : ℕ) (old : Vec (Held ℕ)) → k < length scopes → old ≡ get_or stacks k old → option_map (λ h. h.what) (last_such (outlasts place) old.items) ≡ option_map (λ s. s.local) (last_such (is_meant k place) scopes)
    told_of k old ranged was =
        let there : k < length stacks = omega (arith, sweep.count) in
        ap (λ items. option_map (λ h. h.what) (last_such (outlasts place) items)) (ap (λ v. v.items) was ∙ sym (stack_read stacks k old there))
        ∙ sweep.tell k place (omega arith)
        ∙ ap (option_map (λ s. s.local))
        (sym (ap (last_such (is_meant k place)) (sym (take-append-drop entered scopes))
        ∙ last_append (is_meant k place) (take entered scopes) (drop entered scopes)
        ∙ ap (λ o. option_or o (last_such (is_meant k place) (take entered scopes))) (last_none (is_meant k place) (drop entered scopes) (none_behind k))
        ∙ last_same (is_meant k place) (reaches k place) (take entered scopes) (same_before k)))
