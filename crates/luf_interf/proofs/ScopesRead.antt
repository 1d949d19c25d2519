-- Scopes of local variables, read one after another.
use Rattle.std.proofs.Common.{◌≡◌, ℕ, zero, suc, ◌+◌, ◌<◌, true, false, cond, count_by, Option, Some, None, option_map, List, [], ◌∷◌, ◌++◌, map, length, get_or, drop, slice_get, refl, sym, ap, ◌∙◌, arith, append_assoc}
use Rattle.std.specs.List.{cons_option}
use Rattle.std.specs.Option.{option_map_or, option_to_list}
use Rattle.std.proofs.lemmas.List.{append-nil, drop_more, drop-drop}
use Rattle.std.proofs.lemmas.Option.{none-some, same_Some, slice_get-map}
use Rattle.std.proofs.lemmas.List.Sums.{sum_by-cons}
use Rattle.luf_scope.specs.Local.{Spelling, LocalVariable, binder_of, declared_by, locals_of}
use Rattle.luf_scope.specs.Order.{declares}
use Rattle.luf_scope.specs.declared.binder.Binder.{Binder}
use Rattle.luf_scope.specs.declared.occurrence.Occurrence.{Occurrence}
use Rattle.luf_interf.specs.NewNames.{is_fixed}
use Rattle.luf_interf.specs.declared.scoping.Extent.{Extent}
use Rattle.luf_interf.specs.declared.uses.Scope.{Scope}
use Rattle.luf_interf.specs.inner.Owners.{scope_at, scopes_from}

added_option : {X : Type 0} (xs : List X) (o : Option X) (ys : List X) → (xs ++ option_to_list o) ++ ys ≡ xs ++ cons_option o ys
added_option xs None ys = ap (λ zs. zs ++ ys) (append-nil xs)
added_option xs (Some x) ys = append_assoc xs (x ∷ []) ys

at_drop : {X : Type 0} (xs : List X) (n : ℕ) (x : X) (ys : List X) → drop n xs ≡ x ∷ ys → slice_get xs n ≡ Some x
at_drop xs zero x ys is = ap (λ zs. slice_get zs 0) is
at_drop [] (suc n) x ys is = absurd cc
at_drop (z ∷ xs) (suc n) x ys is = at_drop xs n x ys is

drop_next : {X : Type 0} (xs : List X) (n : ℕ) (x : X) (ys : List X) → drop n xs ≡ x ∷ ys → drop (n + 1) xs ≡ ys
drop_next xs n x ys is = sym (drop-drop 1 n xs) ∙ ap (drop 1) is

module _ (os : List Occurrence) (i : ℕ) (d : Occurrence) (below : i < length os) where
  abbrev now : Occurrence
  now = get_or os i d

  abbrev rest : List Occurrence
  rest = drop (i + 1) os

  split : drop i os ≡ get_or os i d ∷ drop (i + 1) os
  split = drop_more os i d below

  counted : count_by declares (drop i os) ≡ cond (declares (get_or os i d)) 1 0 + count_by declares (drop (i + 1) os)
  counted = ap (count_by declares) split ∙ sum_by-cons (λ u. cond (declares u) 1 0) (get_or os i d) (drop (i + 1) os)

  pub count_none : (n total : ℕ) → declares (get_or os i d) ≡ false → n + count_by declares (drop i os) ≡ total → n + count_by declares (drop (i + 1) os) ≡ total
  count_none n total none is =
      let all : count_by declares (drop i os) ≡ 0 + count_by declares (drop (i + 1) os) = counted ∙ ap (λ b. cond b 1 0 + count_by declares (drop (i + 1) os)) none in
      omega (arith, all, is)

  pub count_some : (n total : ℕ) → declares (get_or os i d) ≡ true → n + count_by declares (drop i os) ≡ total → n + 1 + count_by declares (drop (i + 1) os) ≡ total
  count_some n total one is =
      let all : count_by declares (drop i os) ≡ 1 + count_by declares (drop (i + 1) os) = counted ∙ ap (λ b. cond b 1 0 + count_by declares (drop (i + 1) os)) one in
      omega (arith, all, is)

  module _ (spelled : Spelling) (n : ℕ) (ahead : drop n (locals_of spelled os) ≡ locals_of spelled (drop i os)) where
    locals_split : (o : Option LocalVariable) → declared_by spelled (get_or os i d) ≡ o → locals_of spelled (drop i os) ≡ cons_option o (locals_of spelled (drop (i + 1) os))
    locals_split o is = ap (locals_of spelled) split ∙ ap (λ r. cons_option r (locals_of spelled (drop (i + 1) os))) is

    pub ahead_none : declared_by spelled (get_or os i d) ≡ None → drop n (locals_of spelled os) ≡ locals_of spelled (drop (i + 1) os)
    ahead_none none = ahead ∙ locals_split None none

    pub ahead_some : (v : LocalVariable) → declared_by spelled (get_or os i d) ≡ Some v → drop (n + 1) (locals_of spelled os) ≡ locals_of spelled (drop (i + 1) os)
    ahead_some v is = drop_next (locals_of spelled os) n v (locals_of spelled (drop (i + 1) os)) (ahead ∙ locals_split (Some v) is)

    pub added_none : (found total : List Scope) → declared_by spelled (get_or os i d) ≡ None → found ++ scopes_from n (locals_of spelled (drop i os)) ≡ total → found ++ scopes_from n (locals_of spelled (drop (i + 1) os)) ≡ total
    added_none found total none is = ap (λ vs. found ++ scopes_from n vs) (sym (locals_split None none)) ∙ is

    pub added_some : (found after total : List Scope) (binders : List Binder) (from to : ℕ) (v : LocalVariable) → declared_by spelled (get_or os i d) ≡ Some v → from ≡ v.from → to ≡ v.to → binders ≡ map binder_of (locals_of spelled os)
        → after ≡ found ++ option_to_list (scope_at (option_map_or (λ b. b.fixed) (slice_get binders n) true) n from to)
        → found ++ scopes_from n (locals_of spelled (drop i os)) ≡ total → after ++ scopes_from (n + 1) (locals_of spelled (drop (i + 1) os)) ≡ total
    added_some found after total binders from to v is begins ends are added so_far =
        let locals = locals_of spelled (drop (i + 1) os) in
        let there = at_drop (locals_of spelled os) n v locals (ahead ∙ locals_split (Some v) is) in
        let kept : option_map_or (λ b. b.fixed) (slice_get binders n) true ≡ is_fixed v =
        ap (λ o. option_map_or (λ b. b.fixed) o true) (ap (λ bs. slice_get bs n) are ∙ slice_get-map binder_of (locals_of spelled os) n ∙ ap (option_map binder_of) there) in
        ap (λ xs. xs ++ scopes_from (n + 1) locals) added
        ∙ added_option found (scope_at (option_map_or (λ b. b.fixed) (slice_get binders n) true) n from to) (scopes_from (n + 1) locals)
        ∙ (λ j. found ++ cons_option (scope_at (kept j) n (begins j) (ends j)) (scopes_from (n + 1) locals))
        ∙ ap (λ vs. found ++ scopes_from n vs) (sym (locals_split (Some v) is))
        ∙ so_far

-- ---- what an extent tells of what is declared

abbrev pub extent : LocalVariable → Extent
extent v = record { from = v.from; to = v.to }

pub none_declared : (o : Option LocalVariable) → None ≡ option_map extent o → o ≡ None
none_declared None is = refl
none_declared (Some v) is = absurd (none-some _ is)

pub one_declared : (o : Option LocalVariable) (e : Extent) → Some e ≡ option_map extent o → (v : LocalVariable) × (o ≡ Some v) × (e.from ≡ v.from) × (e.to ≡ v.to)
one_declared None e is = absurd (none-some _ (sym is))
one_declared (Some v) e is = let same = same_Some e (extent v) is in (v, refl, ap (λ x. x.from) same, ap (λ x. x.to) same)
