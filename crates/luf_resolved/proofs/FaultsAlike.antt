-- Of occurrences and the same by ranks, where the tokens are spelled alike: there is a scope fault in both or in neither.
use Rattle.std.proofs.Common.{◌≡◌, ℕ, not, ◌&&◌, ◌||◌, Bool, true, false, cond, ◌⊎◌, inl, inr, Option, Some, None, List, [], All, is_none, slice_get, nat_le, nat_lt, nat_eq, bytes_eq, codes, ap, refl, sym, subst, ◌∙◌, eq-eqb, ne_eqb}
use Rattle.std.specs.List.{filter_map, list_any}
use Rattle.std.specs.Option.{option_map_or, option_and_then, option_eq}
use Rattle.std.proofs.lemmas.Bool.{cases_eq}
use Rattle.luf_lex.specs.declared.token.Tok.{Tok}
use Rattle.luf_bare.specs.Rank.{rank}
use Rattle.luf_scope.specs.Local.{Spelling, LocalVariable, FunctionAt, is_active, locals_of, meaning, functions_of, function_of}
use Rattle.luf_scope.specs.Jump.{LabelAt, GotoAt, labels_of, is_seen, target}
use Rattle.luf_scope.specs.Fault.{is_constant, unknown_attribute, closes_before, second_close, constant_assigned, varargs_outside, label_twice, without_label, enters, into_scope, loops_round, break_outside, name_faults, jump_faults, first_fault, first_of, scope_fault}
use Rattle.luf_scope.specs.Order.{from_of}
use Rattle.luf_scope.specs.declared.binder.BinderKind.{BinderKind}
use Rattle.luf_scope.specs.declared.fault.ScopeBad.{ScopeBad}
use Rattle.luf_scope.specs.declared.occurrence.Occurrence.{Occurrence}
use Rattle.luf_scope.specs.declared.occurrence.Occurrence.TheVariants.{Local, Assigns, Varargs, Loop, Break}
use Rattle.luf_resolved.proofs.Paired.{Paired, PairedOption, Any, nothing, more, neither, both, joined, filtered, mapped, paired_with, paired_option, same_any}
use Rattle.luf_resolved.proofs.Ranking.{Solid, Sound, ranked_occurrence, Ranked}
use Rattle.luf_resolved.proofs.RankOrder.{before_alike, reached_alike}
use Rattle.luf_resolved.proofs.LocalEnds.{is_local, OneEnd}
use Rattle.luf_resolved.proofs.MeaningsAlike.{RankedLocal, RankedFunction, RankedLabel, RankedGoto, NumberedAlike, innermost_alike, locals_alike, functions_alike, labels_alike, gotos_alike, holder_alike, meaning_alike}

when_alike : (b c : Bool) (t r : ℕ) → c ≡ b → PairedOption Any (cond b (Some t) None) (cond c (Some r) None)
when_alike b c t r same = subst (λ z. PairedOption Any (cond b (Some t) None) (cond z (Some r) None)) (sym same) (by_case b)
  where
    by_case : (d : Bool) → PairedOption Any (cond d (Some t) None) (cond d (Some r) None)
    by_case true = both tt
    by_case false = neither

first_alike : {xs ys : List ScopeBad} → Paired Any xs ys → PairedOption Any (first_fault xs) (first_fault ys)
first_alike nothing = neither
first_alike (more _ rest) = both tt

first_of_alike : {o p q r : Option ScopeBad} → PairedOption Any o p → PairedOption Any q r → PairedOption Any (first_of o q) (first_of p r)
first_of_alike neither second = second
first_of_alike (both _) neither = both tt
first_of_alike (both _) (both _) = both tt

pub none_in_second : {A : Type 0} {o p : Option A} → PairedOption Any o p → o ≡ None → p ≡ None
none_in_second neither is = refl
none_in_second (both _) is = absurd cc

pub none_in_first : {A : Type 0} {o p : Option A} → PairedOption Any o p → p ≡ None → o ≡ None
none_in_first neither is = refl
none_in_first (both _) is = absurd cc

kind_constant : (v w : LocalVariable) → w.kind ≡ v.kind → is_constant w ≡ is_constant v
kind_constant v w same = ap (λ (k : BinderKind). is_constant (record { token = 0; name = []; kind = k; from = 0; to = 0 })) same

module _ (toks : List Tok) (all : List ℕ) (spelled told : Spelling) (tells : (i : ℕ) → Solid toks all i → told (rank all i) ≡ spelled i) {us vs : List Occurrence} (ranked : Ranked toks all us vs) (one_end : All (λ u. All (OneEnd toks all u) us) us) where
  locals : Paired (RankedLocal toks all spelled told tells) (locals_of spelled us) (locals_of told vs)
  locals = locals_alike toks all spelled told tells ranked

  functions : Paired (RankedFunction toks all spelled told tells) (functions_of us) (functions_of vs)
  functions = functions_alike toks all spelled told tells ranked

  labels : Paired (RankedLabel toks all spelled told tells) (labels_of spelled us) (labels_of told vs)
  labels = labels_alike toks all spelled told tells ranked

  -- what one occurrence tells
  each_alike : (f g : Occurrence → Option ℕ) → ((u : Occurrence) → Sound toks all u → PairedOption Any (f u) (g (ranked_occurrence toks all u))) → Paired Any (filter_map f us) (filter_map g vs)
  each_alike f g one = filtered f g (λ u v r. subst (λ z. PairedOption Any (f u) (g z)) (sym r.is) (one u r.sound)) ranked

  -- ---- names

  unknown_alike : (u : Occurrence) → Sound toks all u → PairedOption Any (unknown_attribute spelled us u) (unknown_attribute told vs (ranked_occurrence toks all u))
  unknown_alike (Local name (Some a) from to) s = when_alike _ _ a (rank all a) (λ i. not (bytes_eq (tells a s.1 i) (codes "const") || bytes_eq (tells a s.1 i) (codes "close")))
  unknown_alike (Local name None from to) s = neither
  unknown_alike _ s = neither

  -- a statement that ends at one place by rank ends there
  end_alike : (f e : ℕ) → (rank all f ≡ rank all e → f ≡ e) → nat_eq (rank all f) (rank all e) ≡ nat_eq f e
  end_alike f e only = by_case (cases_eq f e)
    where
      by_case : (f ≡ e) ⊎ (f ≡ e → ⊥) → nat_eq (rank all f) (rank all e) ≡ nat_eq f e
      by_case (inl same) = eq-eqb (rank all f) (rank all e) (ap (rank all) same) ∙ sym (eq-eqb f e same)
      by_case (inr differ) = ne_eqb (rank all f) (rank all e) (λ same. differ (only same)) ∙ sym (ne_eqb f e differ)

  closes_alike : (from a : ℕ) → Solid toks all a → (u : Occurrence) → Sound toks all u → (is_local u ≡ true → rank all (from_of u) ≡ rank all from → from_of u ≡ from)
      → closes_before told vs (rank all from) (rank all a) (ranked_occurrence toks all u) ≡ closes_before spelled us from a u
  closes_alike from a at (Local name (Some b) f t) s only = λ i. end_alike f from (only refl) i && before_alike s.1 a i && bytes_eq (tells b s.1 i) (codes "close")
  closes_alike from a at (Local name None f t) s only = refl
  closes_alike from a at _ s only = refl

  second_alike : (u : Occurrence) → Sound toks all u → All (OneEnd toks all u) us → PairedOption Any (second_close spelled us u) (second_close told vs (ranked_occurrence toks all u))
  second_alike (Local name (Some a) from to) s its =
      let others : list_any (closes_before told vs (rank all from) (rank all a)) vs ≡ list_any (closes_before spelled us from a) us =
      same_any (closes_before spelled us from a) (closes_before told vs (rank all from) (rank all a)) (λ u v r.
      ap (closes_before told vs (rank all from) (rank all a)) r.0.is ∙ closes_alike from a s.1 u r.0.sound (λ is same. sym (r.1 refl is (sym same)))) (paired_with (OneEnd toks all (Local name (Some a) from to)) its ranked) in
      when_alike _ _ a (rank all a) (λ i. bytes_eq (tells a s.1 i) (codes "close") && others i)
  second_alike (Local name None from to) s its = neither
  second_alike _ s its = neither

  seconds_alike : Paired Any (filter_map (second_close spelled us) us) (filter_map (second_close told vs) vs)
  seconds_alike =
      filtered (second_close spelled us) (second_close told vs) (λ u v r. subst (λ z. PairedOption Any (second_close spelled us u) (second_close told vs z)) (sym r.0.is) (second_alike u r.0.sound r.1))
      (paired_with (λ u. All (OneEnd toks all u) us) one_end ranked)

  one_constant : {o p : Option LocalVariable} → PairedOption (RankedLocal toks all spelled told tells) o p → option_map_or is_constant p false ≡ option_map_or is_constant o false
  one_constant neither = refl
  one_constant (both {x} {y} r) = kind_constant x y r.kind

  constant_at : (o : Option ℕ) → option_map_or is_constant (option_and_then (slice_get (locals_of told vs)) o) false ≡ option_map_or is_constant (option_and_then (slice_get (locals_of spelled us)) o) false
  constant_at None = refl
  constant_at (Some n) = one_constant (paired_option locals n)

  constant_alike : (u : Occurrence) → Sound toks all u → PairedOption Any (constant_assigned spelled us u) (constant_assigned told vs (ranked_occurrence toks all u))
  constant_alike (Assigns name) s =
      let means : meaning (locals_of told vs) (rank all name) (told (rank all name)) ≡ meaning (locals_of spelled us) name (spelled name) =
      ap (meaning (locals_of told vs) (rank all name)) (tells name s) ∙ meaning_alike toks all spelled told tells ranked s (spelled name) in
      when_alike _ _ name (rank all name)
      (ap (λ o. option_map_or is_constant (option_and_then (slice_get (locals_of told vs)) o) false) means ∙ constant_at (meaning (locals_of spelled us) name (spelled name)))
  constant_alike _ s = neither

  one_vararg : {o p : Option FunctionAt} → PairedOption (RankedFunction toks all spelled told tells) o p → option_map_or (λ f. not f.vararg) p false ≡ option_map_or (λ f. not f.vararg) o false
  one_vararg neither = refl
  one_vararg (both r) = ap not r.vararg

  vararg_at : (o : Option ℕ) → option_map_or (λ f. not f.vararg) (option_and_then (slice_get (functions_of vs)) o) false ≡ option_map_or (λ f. not f.vararg) (option_and_then (slice_get (functions_of us)) o) false
  vararg_at None = refl
  vararg_at (Some n) = one_vararg (paired_option functions n)

  varargs_alike : (u : Occurrence) → Sound toks all u → PairedOption Any (varargs_outside spelled us u) (varargs_outside told vs (ranked_occurrence toks all u))
  varargs_alike (Varargs token) s =
      when_alike _ _ token (rank all token)
      (ap (λ o. option_map_or (λ f. not f.vararg) (option_and_then (slice_get (functions_of vs)) o) false) (holder_alike toks all spelled told tells ranked token) ∙ vararg_at (function_of (functions_of us) token))
  varargs_alike _ s = neither

  names_alike : Paired Any (name_faults spelled us) (name_faults told vs)
  names_alike =
      joined (joined (joined (mapped _ _ (each_alike (unknown_attribute spelled us) (unknown_attribute told vs) unknown_alike)) (mapped _ _ seconds_alike))
      (mapped _ _ (each_alike (constant_assigned spelled us) (constant_assigned told vs) constant_alike))) (mapped _ _ (each_alike (varargs_outside spelled us) (varargs_outside told vs) varargs_alike))

  -- ---- jumps

  abbrev SameLabel : LabelAt → LabelAt → Type 0
  SameLabel = RankedLabel toks all spelled told tells

  abbrev SameGoto : GotoAt → GotoAt → Type 0
  SameGoto = RankedGoto toks all spelled told tells

  earlier_alike : (l m : LabelAt) → SameLabel l m → (k n : LabelAt) → SameLabel k n
      → (nat_lt n.token m.token && is_seen m.function m.token m.name n) ≡ (nat_lt k.token l.token && is_seen l.function l.token l.name k)
  earlier_alike l m q k n r =
      (λ t. nat_lt (r.token t) (q.token t) && (option_eq nat_eq (r.function t) (q.function t) && nat_le (r.from t) (q.token t) && nat_lt (q.token t) (r.to t) && bytes_eq (r.name t) (q.name t)))
      ∙ (λ t. before_alike r.solid l.token t && (option_eq nat_eq k.function l.function && reached_alike q.solid k.from t && before_alike q.solid k.to t && bytes_eq k.name l.name))

  twice_alike : (l m : LabelAt) → SameLabel l m → PairedOption Any (label_twice spelled us l) (label_twice told vs m)
  twice_alike l m q =
      when_alike _ _ l.token m.token (same_any (λ u. nat_lt u.token l.token && is_seen l.function l.token l.name u) (λ u. nat_lt u.token m.token && is_seen m.function m.token m.name u) (earlier_alike l m q) labels)

  target_alike : (g h : GotoAt) → SameGoto g h → PairedOption (NumberedAlike toks all spelled told tells) (target (labels_of spelled us) g) (target (labels_of told vs) h)
  target_alike g h q = innermost_alike toks all spelled told tells q labels 0

  none_alike : {o p : Option (ℕ × LabelAt)} → PairedOption (NumberedAlike toks all spelled told tells) o p → is_none p ≡ is_none o
  none_alike neither = refl
  none_alike (both _) = refl

  without_alike : (g h : GotoAt) → SameGoto g h → PairedOption Any (without_label spelled us g) (without_label told vs h)
  without_alike g h q = when_alike _ _ g.token h.token (none_alike (target_alike g h q))

  active_at : {p : ℕ} → Solid toks all p → (v w : LocalVariable) → RankedLocal toks all spelled told tells v w → is_active (rank all p) w ≡ is_active p v
  active_at {p} at v w r = (λ t. nat_le (r.from t) (rank all p) && nat_lt (rank all p) (r.to t)) ∙ (λ t. reached_alike at v.from t && before_alike at v.to t)

  enters_alike : (g h : GotoAt) → SameGoto g h → (l m : LabelAt) → SameLabel l m → (v w : LocalVariable) → RankedLocal toks all spelled told tells v w → enters told vs h m w ≡ enters spelled us g l v
  enters_alike g h q l m p v w r =
      (λ t. not (p.at_end t) && is_active (p.token t) w && not (is_active (q.token t) w)) ∙ (λ t. not l.at_end && active_at p.solid v w r t && not (active_at q.solid v w r t))

  entered_alike : (g h : GotoAt) → SameGoto g h → {o p : Option (ℕ × LabelAt)} → PairedOption (NumberedAlike toks all spelled told tells) o p
      → option_map_or (λ l. list_any (enters told vs h l.1) (locals_of told vs)) p false ≡ option_map_or (λ l. list_any (enters spelled us g l.1) (locals_of spelled us)) o false
  entered_alike g h q neither = refl
  entered_alike g h q (both {x} {y} r) = same_any (enters spelled us g x.1) (enters told vs h y.1) (enters_alike g h q x.1 y.1 r.label) locals

  into_alike : (g h : GotoAt) → SameGoto g h → PairedOption Any (into_scope spelled us g) (into_scope told vs h)
  into_alike g h q = when_alike _ _ g.token h.token (entered_alike g h q (target_alike g h q))

  loop_alike : {p : ℕ} → Solid toks all p → (u : Occurrence) → loops_round told vs (rank all p) (ranked_occurrence toks all u) ≡ loops_round spelled us p u
  loop_alike {p} at (Loop from to) = λ t. reached_alike at from t && before_alike at to t && option_eq nat_eq (holder_alike toks all spelled told tells ranked from t) (holder_alike toks all spelled told tells ranked p t)
  loop_alike at _ = refl

  break_alike : (u : Occurrence) → Sound toks all u → PairedOption Any (break_outside spelled us u) (break_outside told vs (ranked_occurrence toks all u))
  break_alike (Break token) s =
      when_alike _ _ token (rank all token)
      (ap not (same_any (loops_round spelled us token) (loops_round told vs (rank all token)) (λ u v r. ap (loops_round told vs (rank all token)) r.is ∙ loop_alike s u) ranked))
  break_alike _ s = neither

  jumps_alike : Paired Any (jump_faults spelled us) (jump_faults told vs)
  jumps_alike =
      let gotos = gotos_alike toks all spelled told tells ranked in
      joined (joined (joined (mapped _ _ (filtered (label_twice spelled us) (label_twice told vs) twice_alike labels)) (mapped _ _ (filtered (without_label spelled us) (without_label told vs) without_alike gotos)))
      (mapped _ _ (filtered (into_scope spelled us) (into_scope told vs) into_alike gotos))) (mapped _ _ (each_alike (break_outside spelled us) (break_outside told vs) break_alike))

  pub fault_alike : PairedOption Any (scope_fault spelled us) (scope_fault told vs)
  fault_alike = first_of_alike (first_alike names_alike) (first_alike jumps_alike)
