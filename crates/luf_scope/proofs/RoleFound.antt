-- The role of a token, found among the roles of occurrences, is what the definition says.
use Rattle.std.proofs.Common.{◌≡◌, ℕ, ◌+◌, ◌<◌, ◌≤◌, ◌≢◌, Bool, true, false, ◌||◌, cond, nat_eq, nat_lt, Option, Some, None, IfSome, unwrap_or, List, [], ◌∷◌, map, get_or, refl, sym, ap, ◌∙◌, arith, All}
use Rattle.std.specs.List.{position_from, list_any}
use Rattle.std.proofs.lemmas.Bool.Decides.{nat_tests}
use Rattle.std.proofs.lemmas.List.Elements.{All-head, All-tail}
use Rattle.luf_scope.specs.Links.{NameTable, AreLinks}
use Rattle.luf_scope.specs.Local.{Spelling, LocalVariable, declared_by, locals_of, binder_of, meaning}
use Rattle.luf_scope.specs.Marks.{mark_at}
use Rattle.luf_scope.specs.Order.{place, behind, is_loop}
use Rattle.luf_scope.specs.Role.{is_variable, is_field, reference, declaration}
use Rattle.luf_scope.specs.declared.binder.Role.{Role}
use Rattle.luf_scope.specs.declared.binder.Role.TheVariants as role
use Rattle.luf_scope.specs.declared.occurrence.Occurrence.{Occurrence}
use Rattle.luf_scope.specs.declared.occurrence.Occurrence.TheVariants.{Local, LocalFunction, Parameter, ImplicitSelf, LoopVariable, Reads, Assigns, Field}
use Rattle.luf_scope.specs.inner.Laid.{AreLaid, roles_from}
use Rattle.luf_scope.specs.inner.Scopes.{meaning_of}
use Rattle.luf_scope.proofs.Closes.{any_none}
use Rattle.luf_scope.proofs.Counted.{laid_tail}
use Rattle.luf_scope.proofs.Laying.{all_filter_map}
use Rattle.luf_scope.proofs.Marked.{pairs_head}

position_of_none : (test : LocalVariable → Bool) (n : ℕ) (vs : List LocalVariable) → All (λ v. test v ≡ false) vs → position_from test n vs ≡ None
position_of_none test n [] none = refl
position_of_none test n (v ∷ vs) none = ap (λ b. cond b (Some n) (position_from test (n + 1) vs)) (All-head (λ u. test u ≡ false) v vs none) ∙ position_of_none test (n + 1) vs (All-tail (λ u. test u ≡ false) v vs none)

apart : (a b : ℕ) → a ≢ b → nat_eq a b ≡ false
apart a b no_eq = grind (arith, nat_tests)

-- what stands behind a token says nothing of it
declared_later : (spelled : Spelling) (token : ℕ) (u : Occurrence) → token < place u → IfSome (declared_by spelled u) (λ v. nat_eq v.token token ≡ false)
declared_later spelled token (Local name attribute from to) less = apart name token (λ e. omega arith)
declared_later spelled token (LocalFunction name from to) less = apart name token (λ e. omega arith)
declared_later spelled token (Parameter name from to) less = apart name token (λ e. omega arith)
declared_later spelled token (ImplicitSelf colon from to) less = apart colon token (λ e. omega arith)
declared_later spelled token (LoopVariable name from to) less = apart name token (λ e. omega arith)
declared_later spelled token u less = tt

variable_later : (token : ℕ) (u : Occurrence) → token < place u → is_variable token u ≡ false
variable_later token (Reads name) less = apart token name (λ e. omega arith)
variable_later token (Assigns name) less = apart token name (λ e. omega arith)
variable_later token u less = refl

module _ (spelled : Spelling) (locals : List LocalVariable) (token : ℕ) where
  -- the role of the token, of occurrences of which the first variable has the number n
  abbrev role_among : ℕ → List Occurrence → Role
  role_among n os = declaration (position_from (λ v. nat_eq v.token token) n (locals_of spelled os)) (cond (list_any (is_variable token) os) (reference (meaning locals token (spelled token))) (cond (list_any (is_field token) os) role.Field role.Plain))

  abbrev role_found : ℕ → List Occurrence → Role
  role_found n os = unwrap_or (mark_at (roles_from (meaning_of spelled locals) n os) token) role.Plain

  none_declared : (n : ℕ) (os : List Occurrence) → All (λ u. token < place u) os → position_from (λ v. nat_eq v.token token) n (locals_of spelled os) ≡ None
  none_declared n os later = position_of_none (λ v. nat_eq v.token token) n (locals_of spelled os) (all_filter_map (declared_by spelled) (λ v. nat_eq v.token token ≡ false) os (λ j d inside. declared_later spelled token (get_or os j d) (later j d inside)))

  none_named : (os : List Occurrence) → All (λ u. token < place u) os → list_any (is_variable token) os ≡ false
  none_named os later = any_none (is_variable token) os (λ j d inside. variable_later token (get_or os j d) (later j d inside))

  -- a token that declares a variable, or does not
  declared_here : (b : Bool) (n : ℕ) (found : Option Role) (position : Option ℕ) (other : Role) → unwrap_or found role.Plain ≡ declaration position other → unwrap_or (cond b (Some (role.Declares n)) found) role.Plain ≡ declaration (cond b (Some n) position) other
  declared_here true n found position other rest = refl
  declared_here false n found position other rest = rest

  -- a token that names a variable, or does not
  variable_here : (b c some any : Bool) (name : ℕ) (found : Option Role) (position : Option ℕ) (other : Role) → b ≡ c → (b ≡ true → name ≡ token) → (b ≡ true → position ≡ None)
      → unwrap_or found role.Plain ≡ declaration position (cond some (reference (meaning locals token (spelled token))) other)
      → unwrap_or (cond b (Some (reference (meaning locals name (spelled name)))) found) role.Plain ≡ declaration position (cond (c || some) (reference (meaning locals token (spelled token))) other)
  variable_here true true some any name found position other same at none rest =
      ap (λ t. reference (meaning locals t (spelled t))) (at refl) ∙ ap (λ p. declaration p (reference (meaning locals token (spelled token)))) (sym (none refl))
  variable_here true false some any name found position other same at none rest = absurd cc
  variable_here false true some any name found position other same at none rest = absurd cc
  variable_here false false some any name found position other same at none rest = rest

  -- a token that names a field, or does not
  field_here : (b c some any : Bool) (found : Option Role) (position : Option ℕ) (mean : Role) → b ≡ c → (b ≡ true → some ≡ false) → (b ≡ true → position ≡ None)
      → unwrap_or found role.Plain ≡ declaration position (cond some mean (cond any role.Field role.Plain))
      → unwrap_or (cond b (Some role.Field) found) role.Plain ≡ declaration position (cond some mean (cond (c || any) role.Field role.Plain))
  field_here true true some any found position mean same no_name none rest = ap (λ p. declaration p (cond false mean role.Field)) (sym (none refl)) ∙ ap (λ s. declaration position (cond s mean role.Field)) (sym (no_name refl))
  field_here true false some any found position mean same no_name none rest = absurd cc
  field_here false true some any found position mean same no_name none rest = absurd cc
  field_here false false some any found position mean same no_name none rest = rest

  turned : (a b : ℕ) → nat_eq a b ≡ nat_eq b a
  turned a b = grind (arith, nat_tests)

  is_at : (a b : ℕ) → nat_eq a b ≡ true → a ≡ b
  is_at a b is = grind (arith, nat_tests)

  one_role : (o : Occurrence) (n : ℕ) (os : List Occurrence) → (is_loop o ≡ false → place o < behind o) → All (λ u. behind o ≤ place u) os → ((m : ℕ) → role_found m os ≡ role_among m os) → role_found n (o ∷ os) ≡ role_among n (o ∷ os)
  one_role (Local name attribute from to) n os stands later rest = declared_here (nat_eq name token) n _ _ _ (rest (n + 1))
  one_role (LocalFunction name from to) n os stands later rest = declared_here (nat_eq name token) n _ _ _ (rest (n + 1))
  one_role (Parameter name from to) n os stands later rest = declared_here (nat_eq name token) n _ _ _ (rest (n + 1))
  one_role (ImplicitSelf name from to) n os stands later rest = declared_here (nat_eq name token) n _ _ _ (rest (n + 1))
  one_role (LoopVariable name from to) n os stands later rest = declared_here (nat_eq name token) n _ _ _ (rest (n + 1))
  one_role (Reads name) n os stands later rest = variable_here (nat_eq name token) (nat_eq token name) (list_any (is_variable token) os) false name _ _ _ (turned name token) (is_at name token)
      (λ is. none_declared n os (λ j d inside. omega (arith, is_at name token is, later j d inside))) (rest n)
  one_role (Assigns name) n os stands later rest = variable_here (nat_eq name token) (nat_eq token name) (list_any (is_variable token) os) false name _ _ _ (turned name token) (is_at name token)
      (λ is. none_declared n os (λ j d inside. omega (arith, is_at name token is, later j d inside))) (rest n)
  one_role (Field name) n os stands later rest = field_here (nat_eq name token) (nat_eq token name) (list_any (is_variable token) os) (list_any (is_field token) os) _ _ _ (turned name token)
      (λ is. none_named os (λ j d inside. omega (arith, is_at name token is, later j d inside)))
      (λ is. none_declared n os (λ j d inside. omega (arith, is_at name token is, later j d inside))) (rest n)
  one_role o n os stands later rest = rest n

  pub role_is_found : (os : List Occurrence) → AreLaid os → (n : ℕ) → role_found n os ≡ role_among n os
  role_is_found [] laid n = refl
  role_is_found (o ∷ os) laid n = one_role o n os (All-head (λ u. is_loop u ≡ false → place u < behind u) o os laid.stands) (pairs_head (λ u v. behind u ≤ place v) o os laid.later) (role_is_found os (laid_tail o os laid))

-- so the roles that are found are those of the definition
pub links_found : (spelled : Spelling) (os : List Occurrence) (tokens : ℕ) (links : NameTable) → AreLaid os → links.tokens ≡ tokens → links.roles ≡ roles_from (meaning_of spelled (locals_of spelled os)) 0 os → links.binders ≡ map binder_of (locals_of spelled os) → AreLinks spelled os tokens links
links_found spelled os tokens links laid count roles binders = record {
  roles = λ n inside. ap (λ b. cond b (Some (unwrap_or (mark_at links.roles n) role.Plain)) None) (let yes_lt : nat_lt n links.tokens ≡ true = grind (arith, nat_tests) in yes_lt)
      ∙ ap (λ ms. Some (unwrap_or (mark_at ms n) role.Plain)) roles
      ∙ ap Some (role_is_found spelled (locals_of spelled os) n os laid 0);
  no_more = λ n past. ap (λ b. cond b (Some (unwrap_or (mark_at links.roles n) role.Plain)) None) (let no_lt : nat_lt n links.tokens ≡ false = grind (arith, nat_tests) in no_lt);
  binders = binders;
}
