-- The first fault of a word, found in the order of a list.
use Rattle.std.proofs.Common.{◌≡◌, ℕ, ◌+◌, ◌<◌, ◌≤◌, Bool, false, cond, Option, Some, None, List, length, get_or, slice_get, drop, sym, ap, ◌∙◌}
use Rattle.std.specs.Option.{option_or, option_map, option_map_or, option_and_then}
use Rattle.std.proofs.lemmas.List.{drop_all}
use Rattle.luf_scope.specs.Fault as fault
use Rattle.luf_scope.specs.Local.{Spelling, locals_of}
use Rattle.luf_scope.specs.declared.fault.ScopeWhat.{ScopeWhat}
use Rattle.luf_scope.specs.declared.occurrence.Occurrence.{Occurrence}
use Rattle.luf_scope.specs.declared.occurrence.Occurrence.TheVariants.{Assigns}
use Rattle.luf_scope.specs.inner.Laid.{first_at}
use Rattle.luf_scope.specs.inner.Scopes.{meaning_of}
use Rattle.luf_scope.proofs.Mapped.{dropped}

module _ (what : ScopeWhat) (test : Occurrence → Option ℕ) (os : List Occurrence) (i : ℕ) where
  one_turn : (d : Occurrence) (r : Option ℕ) → i < length os → r ≡ test (get_or os i d) → first_at what test (drop i os) ≡ option_or (option_map (λ t. record { token = t; what = what }) r) (first_at what test (drop (i + 1) os))
  one_turn d r inside is = ap (first_at what test) (dropped os i d inside) ∙ ap (λ o. option_or (option_map (λ t. record { token = t; what = what }) o) (first_at what test (drop (i + 1) os))) (sym is)

  pub found_here : (d : Occurrence) (token : ℕ) → i < length os → Some token ≡ test (get_or os i d) → first_at what test (drop i os) ≡ first_at what test os → Some (record { token = token; what = what }) ≡ first_at what test os
  found_here d token inside is before = sym (one_turn d (Some token) inside is) ∙ before

  pub not_here : (d : Occurrence) → i < length os → None ≡ test (get_or os i d) → first_at what test (drop i os) ≡ first_at what test os → first_at what test (drop (i + 1) os) ≡ first_at what test os
  not_here d inside is before = sym (one_turn d None inside is) ∙ before

  pub nowhere : length os ≤ i → first_at what test (drop i os) ≡ first_at what test os → None ≡ first_at what test os
  nowhere past before = ap (first_at what test) (sym (drop_all i os past)) ∙ before

-- a name that is assigned, by what it means
pub assigned_constant : (spelled : Spelling) (all : List Occurrence) (o : Occurrence) (token : ℕ) (meaning : Option ℕ) (r : Bool) → o ≡ Assigns token → meaning ≡ meaning_of spelled (locals_of spelled all) o → r ≡ option_map_or fault.is_constant (option_and_then (slice_get (locals_of spelled all)) meaning) false → cond r (Some token) None ≡ fault.constant_assigned spelled all o
assigned_constant spelled all o token meaning r is means says =
    ap (λ b. cond b (Some token) None) (says ∙ ap (λ m. option_map_or fault.is_constant (option_and_then (slice_get (locals_of spelled all)) m) false) (means ∙ ap (meaning_of spelled (locals_of spelled all)) is))
    ∙ sym (ap (fault.constant_assigned spelled all) is)
