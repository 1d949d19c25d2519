-- Which occurrence has a token: at most one has it.
use Rattle.std.proofs.Common.{◌≡◌, ℕ, ◌+◌, ◌<◌, ◌≤◌, true, false, Some, None, List, [], ◌∷◌, AllPairs, slice_get, nat_eq, refl, sym, ap, ◌∙◌, zero-add, arith}
use Rattle.std.specs.List.{list_any}
use Rattle.std.proofs.lemmas.Bool.{both_ways, eqb-true, eq-eqb, ne_eqb}
use Rattle.luf_scope.specs.declared.occurrence.Occurrence.{Occurrence}
use Rattle.luf_scope.specs.declared.occurrence.Occurrence.TheVariants.{Reads, Assigns, Field}
use Rattle.luf_scope.specs.Local.{Spelling, LocalVariable, declared_by, locals_of}
use Rattle.luf_scope.specs.Role.{is_variable, is_field, declared_at}
use Rattle.luf_scope.specs.Order.{place, behind, declares, is_loop, is_label, StandsInBlock, AttributeBehind, Follows, Within, AreOrdered}
use Rattle.luf_scope.proofs.Lying.{pairs_head, pairs_tail}
use Rattle.luf_scope.proofs.Ordered.{declared_is, LocalsNest, locals_nest}
use Rattle.luf_interf.specs.inner.Among.{Among, here, there}
use Rattle.luf_interf.proofs.Among.{all_among, among_at, any_among, given_by, pairs_at}
use Rattle.luf_interf.proofs.Last.{first_is, first_none}

abbrev pub Has : ℕ → Occurrence → Type 0
Has t u = (place u ≤ t) × (t < behind u)

follower : (os : List Occurrence) (u v : Occurrence) → AllPairs Follows (u ∷ os) → Among v os → behind u ≤ place v
follower os u v pairs m = (all_among (Follows u) os v (pairs_head Follows u os pairs) m).later

pub one_has : (os : List Occurrence) (t : ℕ) (u v : Occurrence) → AllPairs Follows os → Among u os → Among v os → Has t u → Has t v → u ≡ v
one_has [] t u v pairs m n a b = elim m [ ]
one_has (w ∷ os) t u v pairs here here a b = refl
one_has (w ∷ os) t u v pairs here (there n) a b = let later = follower os w v pairs n in absurd (omega (arith, later, a, b))
one_has (w ∷ os) t u v pairs (there m) here a b = let later = follower os w u pairs m in absurd (omega (arith, later, a, b))
one_has (w ∷ os) t u v pairs (there m) (there n) a b = one_has os t u v (pairs_tail Follows w os pairs) m n a b

-- ---- what has its own token

-- the name of a variable declares nothing, and has its token
pub record IsNamed (t : ℕ) (u : Occurrence) : Type 0 where
  pub has : Has t u
  pub silent : declares u ≡ false

named : (name t : ℕ) (u : Occurrence) → place u ≡ name → behind u ≡ name + 1 → declares u ≡ false → nat_eq t name ≡ true → IsNamed t u
named name t u at last silent is = let same : t ≡ name = eqb-true t name is in record { has = (omega (arith, at, same), omega (arith, last, same)); silent = silent }

pub variable_named : (t : ℕ) (u : Occurrence) → is_variable t u ≡ true → IsNamed t u
variable_named t (Reads name) is = named name t (Reads name) refl refl refl is
variable_named t (Assigns name) is = named name t (Assigns name) refl refl refl is
variable_named t _ is = absurd cc

pub field_named : (t : ℕ) (u : Occurrence) → is_field t u ≡ true → IsNamed t u
field_named t (Field name) is = named name t (Field name) refl refl refl is
field_named t _ is = absurd cc

module _ (a e c : ℕ) (os : List Occurrence) (lies : AreOrdered a e c os) where
  pub placed : (u : Occurrence) → Among u os → is_loop u ≡ false → place u < behind u
  placed u m is = (all_among (Within a e c) os u lies.within m).own.some is

  pub attribute_behind : (u : Occurrence) → Among u os → AttributeBehind u
  attribute_behind u m = (all_among (Within a e c) os u lies.within m).own.attribute

  pub own_block : (u : Occurrence) → Among u os → is_label u ≡ true → StandsInBlock u
  own_block u m is = (all_among (Within a e c) os u lies.within m).own.block is

  pub one : (t : ℕ) (u v : Occurrence) → Among u os → Among v os → Has t u → Has t v → u ≡ v
  one t u v m n a b = one_has os t u v lies.pairs m n a b

  module _ (spelled : Spelling) where
    pub rises : (n m : ℕ) (u v : LocalVariable) → n < m → slice_get (locals_of spelled os) n ≡ Some u → slice_get (locals_of spelled os) m ≡ Some v → u.token < v.token
    rises n m u v below one two = (pairs_at LocalsNest (locals_of spelled os) n m u v (locals_nest a e c os spelled lies) below one two).later

    -- a local variable is declared at its own token
    pub declared_there : (n : ℕ) (v : LocalVariable) → slice_get (locals_of spelled os) n ≡ Some v → declared_at (locals_of spelled os) v.token ≡ Some n
    declared_there n v is =
        first_is (λ u. nat_eq u.token v.token) 0 (locals_of spelled os) n v is (eq-eqb v.token v.token refl)
        (λ m u below found. let order = rises m n u v below found is in ne_eqb u.token v.token (λ same. omega (arith, order, same)))
        ∙ ap Some (zero-add n)

    -- at the token of what declares nothing there, nothing is declared
    pub none_declared : (t : ℕ) (u : Occurrence) → Among u os → Has t u → (declares u ≡ true → place u ≡ t → ⊥) → declared_at (locals_of spelled os) t ≡ None
    none_declared t u m has silent =
        first_none (λ v. nat_eq v.token t) 0 (locals_of spelled os) (λ n v found. ne_eqb v.token t (λ same.
        let from = given_by (declared_by spelled) os v (among_at (locals_of spelled os) n v found) in
        let d = declared_is spelled from.0 v from.2 in
        let token = d.token in
        let long = placed from.0 from.1 d.no_loop in
        let is : from.0 ≡ u = one t from.0 u from.1 m (omega (arith, token, same), omega (arith, token, same, long)) has in
        silent (ap declares (sym is) ∙ d.is) (ap place (sym is) ∙ sym token ∙ same)))

    -- a name that is read or assigned declares nothing
    pub reference_undeclared : (t : ℕ) → list_any (is_variable t) os ≡ true → declared_at (locals_of spelled os) t ≡ None
    reference_undeclared t is =
        let found = any_among (is_variable t) os is in
        let n = variable_named t found.0 found.2 in
        none_declared t found.0 found.1 n.has (λ declaring _. both_ways (declares found.0) n.silent declaring)
