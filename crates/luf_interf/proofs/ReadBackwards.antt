-- References read from the last one on.
use Rattle.std.proofs.Common.{◌≡◌, ℕ, zero, suc, ◌+◌, ◌<◌, Some, None, List, [], ◌∷◌, length, get_or, drop, All, AllPairs, sym, ap, subst, ◌∙◌, arith}
use Rattle.std.proofs.lemmas.List.{drop_more}
use Rattle.std.proofs.lemmas.Option.{none-some, same_Some, slice_get_within}
use Rattle.luf_name.specs.Barred.{IsBarred}
use Rattle.luf_name.proofs.Rising.{one_name}
use Rattle.luf_scope.specs.Local.{Spelling, locals_of}
use Rattle.luf_scope.specs.Order.{place, behind, AreOrdered, Follows}
use Rattle.luf_scope.specs.Role.{is_variable}
use Rattle.luf_scope.specs.declared.occurrence.Occurrence.{Occurrence}
use Rattle.luf_scope.specs.declared.occurrence.Occurrence.TheVariants.{Reads, Assigns}
use Rattle.luf_scope.specs.inner.Scopes.{used_by}
use Rattle.luf_scope.proofs.Lying.{pairs_head, pairs_tail}
use Rattle.luf_interf.specs.Interference.{IsReference}
use Rattle.luf_interf.specs.declared.uses.Owner.{Owner}
use Rattle.luf_interf.specs.declared.uses.Owner.TheVariants as owner
use Rattle.luf_interf.specs.declared.uses.Use.{Use}
use Rattle.luf_interf.specs.inner.Owners.{a_number, IsOwner, renamed, free, AreUses, no_name, no_owner, a_use, IsReading}
use Rattle.luf_interf.specs.inner.Uses.{nowhere, AreFirsts, CanStand, IsTable, IsPut}
use Rattle.luf_interf.specs.inner.Among.{Among, here, there}
use Rattle.luf_interf.proofs.Among.{all_among, all_from, any_of}
use Rattle.luf_interf.proofs.OwnersFound.{use_is, used_variable}

used_place : (o : Occurrence) (t : ℕ) → used_by o ≡ Some t → (place o ≡ t) × (behind o ≡ t + 1)
used_place (Reads name) t is = let same = same_Some name t is in (same, ap (λ n. n + 1) same)
used_place (Assigns name) t is = let same = same_Some name t is in (same, ap (λ n. n + 1) same)
used_place _ t is = absurd (none-some t is)

pairs_drop : {X : Type 0} (R : X → X → Type 0) (xs : List X) (n : ℕ) → AllPairs R xs → AllPairs R (drop n xs)
pairs_drop R xs zero pairs = pairs
pairs_drop R [] (suc n) pairs = pairs
pairs_drop R (x ∷ xs) (suc n) pairs = pairs_drop R xs n (pairs_tail R x xs pairs)

among_place : {X : Type 0} (xs : List X) (i : ℕ) (d : X) → i < length xs → Among (get_or xs i d) xs
among_place [] i d below = absurd (omega (arith, below))
among_place (x ∷ xs) zero d below = here
among_place (x ∷ xs) (suc i) d below = there (among_place xs i d (omega (arith, below)))

pub owner_stands : (spelled : Spelling) (os : List Occurrence) (size t : ℕ) (o : Owner) (names firsts : List ℕ) → length firsts ≡ length (locals_of spelled os) → ((n : ℕ) → get_or names n nowhere ≡ nowhere)
    → IsOwner spelled os size t (Some o) → CanStand names size (length firsts) o
owner_stands spelled os size t (owner.Local n) names firsts count unnamed (renamed {v = v} means is free_v) = let within = slice_get_within (locals_of spelled os) n v is in (omega (arith, within, count), unnamed n)
owner_stands spelled os size t (owner.Local n) names firsts count unnamed (free none x) = elim x [ ]
owner_stands spelled os size t (owner.Free k) names firsts count unnamed (free none (a_number nth below apart)) = (below, λ barred. apart (subst IsBarred (one_name k barred.name (spelled t) barred.is nth) barred.barred))

module _ (e : ℕ) (os : List Occurrence) (lies : AreOrdered 0 e e os) (spelled : Spelling) (i : ℕ) (d : Occurrence) (below : i < length os) where
  split : drop i os ≡ get_or os i d ∷ drop (i + 1) os
  split = drop_more os i d below

  pub reference_at : (t : ℕ) → used_by (get_or os i d) ≡ Some t → IsReference spelled os t
  reference_at t is = any_of (is_variable t) os (get_or os i d) (among_place os i d below) (used_variable t (get_or os i d) is)

  pub rises_before : (size t : ℕ) (uses : List Use) → used_by (get_or os i d) ≡ Some t → AreUses spelled os size (drop (i + 1) os) uses → All (λ u. t < u.token) uses
  rises_before size t uses is are = all_from (λ u. t < u.token) uses (λ u m.
      let one = use_is spelled os size (drop (i + 1) os) uses are u m in
      let later = (all_among (Follows (get_or os i d)) (drop (i + 1) os) one.occurrence (pairs_head Follows (get_or os i d) (drop (i + 1) os) (subst (AllPairs Follows) split (pairs_drop Follows os i lies.pairs))) one.among).later in
      let mine = used_place (get_or os i d) t is in let other = used_place one.occurrence u.token one.used in
      omega (arith, later, mine, other))

  module _ (names behind heads firsts : List ℕ) (uses : List Use) (reading : IsReading spelled os (i + 1) names behind heads firsts uses) where
    pub read_nothing : used_by (get_or os i d) ≡ None → IsReading spelled os i names behind heads firsts uses
    read_nothing none = record {
      are = subst (λ xs. AreUses spelled os (length heads) xs uses) (sym split) (no_name none reading.are);
      table = reading.table;
      first = reading.first;
      count = reading.count;
      unnamed = reading.unnamed;
    }

    pub read_kept : (t : ℕ) → used_by (get_or os i d) ≡ Some t → IsOwner spelled os (length heads) t None → IsReading spelled os i names behind heads firsts uses
    read_kept t used none = record {
      are = subst (λ xs. AreUses spelled os (length heads) xs uses) (sym split) (no_owner used none reading.are);
      table = reading.table;
      first = reading.first;
      count = reading.count;
      unnamed = reading.unnamed;
    }

    pub read_put : (t : ℕ) (o : Owner) (after_heads after_firsts : List ℕ) (more : List Use) → used_by (get_or os i d) ≡ Some t → IsOwner spelled os (length heads) t (Some o) → IsPut t o uses more
        → IsTable names behind after_heads more → AreFirsts after_firsts more → length after_heads ≡ length heads → length after_firsts ≡ length firsts → IsReading spelled os i names behind after_heads after_firsts more
    read_put t o after_heads after_firsts more used owned put table first size same = record {
      are = subst (λ us. AreUses spelled os (length after_heads) (drop i os) us) (sym put.is) (subst (λ n. AreUses spelled os n (drop i os) (put.first ∷ uses)) (sym size)
          (subst (λ xs. AreUses spelled os (length heads) xs (put.first ∷ uses)) (sym split)
          (a_use (used ∙ ap Some (sym put.token_is)) (subst (λ n. IsOwner spelled os (length heads) n (Some put.first.owner)) (sym put.token_is) (subst (λ w. IsOwner spelled os (length heads) t (Some w)) (sym put.owner_is) owned)) reading.are)));
      table = table;
      first = first;
      count = same ∙ reading.count;
      unnamed = reading.unnamed;
    }
