-- A reference means what it meant exactly where nothing captures it.
use Rattle.std.proofs.Common.{◌≡◌, ℕ, Bool, true, false, ◌&&◌, Option, Some, None, List, slice_get, length, refl, sym, ap, subst, ◌∙◌, nat_le, nat_lt, bytes_eq}
use Rattle.std.specs.Cmp.Lexicographic.{bytes_decides}
use Rattle.std.proofs.lemmas.Bool.{and_parts, and_from, both_ways, false_from_ne_true}
use Rattle.luf_scope.specs.Local.{Spelling, LocalVariable, is_active, locals_of}
use Rattle.luf_scope.specs.Order.{AreOrdered}
use Rattle.luf_scope.specs.declared.occurrence.Occurrence.{Occurrence}
use Rattle.luf_scope.proofs.Places.{block_lies}
use Rattle.luf_interf.specs.Interference.{IsReference, meant}
use Rattle.luf_interf.specs.NewNames.{Naming, new_name}
use Rattle.luf_interf.specs.RenamingLaws.{said_in, IsLater, IsCaptured, CapturedOrAlike}
use Rattle.luf_interf.proofs.Last.{IsLast, last_is, one_last}
use Rattle.luf_interf.proofs.NewLocals.{told, word_of, told_reference, IsNew, new_at, old_at}

-- a local variable is meant at this place, by this name
abbrev pub is_meant : ℕ → List ℕ → LocalVariable → Bool
is_meant t name v = is_active t v && bytes_eq v.name name

pub same_name : (a b : List ℕ) → bytes_eq a b ≡ true → a ≡ b
same_name a b is = (bytes_decides a b).0 is

pub by_name : (a b : List ℕ) → a ≡ b → bytes_eq a b ≡ true
by_name a b is = (bytes_decides a b).1 is

module _ (a e c : ℕ) (os : List Occurrence) (lies : AreOrdered a e c os) (spelled : Spelling) (naming label_naming : Naming) where
  abbrev new_spelled : Spelling
  new_spelled = told a e c os lies spelled naming label_naming

  active_alike : (t n : ℕ) (v w : LocalVariable) → IsNew a e c os lies spelled naming label_naming n v w → is_active t w ≡ is_active t v
  active_alike t n v w new = λ i. nat_le (new.from i) t && nat_lt t (new.to i)

  -- what takes a name there would capture it
  taker : (t : ℕ) (name : List ℕ) → name ≡ new_spelled t → (n : ℕ) (w : LocalVariable) → slice_get (locals_of new_spelled os) n ≡ Some w → is_meant t name w ≡ true → IsLater (meant spelled os t) n → IsCaptured spelled os naming label_naming t
  taker t name is n w found passes later =
      let old = old_at a e c os lies spelled naming label_naming n w found in
      let parts = and_parts (is_active t w) (bytes_eq w.name name) passes in
      record {
        number = n;
        local = old.0;
        is = old.1;
        active = sym (active_alike t n old.0 w old.2) ∙ parts.0;
        later = later;
        taken = sym old.2.name ∙ same_name w.name name parts.1 ∙ is;
      }

  -- nothing captures it: it means what it meant
  kept_last : (t : ℕ) → IsReference spelled os t → (IsCaptured spelled os naming label_naming t → ⊥) → (o : Option ℕ) → meant spelled os t ≡ o → IsLast (is_meant t (spelled t)) (locals_of spelled os) o → IsLast (is_meant t (new_spelled t)) (locals_of new_spelled os) o
  kept_last t is free None means old = λ n w found. false_from_ne_true (is_meant t (new_spelled t) w) (λ passes. free (taker t (new_spelled t) refl n w found passes (subst (λ o. IsLater o n) (sym means) tt)))
  kept_last t is free (Some m) means (u, at, passes, none) =
      let new = new_at a e c os lies spelled naming label_naming m u at in
      let parts = and_parts (is_active t u) (bytes_eq u.name (spelled t)) passes in
      let word : new_spelled t ≡ new_name spelled os naming label_naming m (spelled t) =
      told_reference a e c os lies spelled naming label_naming t is ∙ ap (λ o. word_of a e c os lies spelled naming label_naming o (spelled t)) means in
      let name : new.0.name ≡ new_spelled t = new.2.name ∙ ap (new_name spelled os naming label_naming m) (same_name u.name (spelled t) parts.1) ∙ sym word in (
        new.0,
        new.1,
        and_from (is_active t new.0) (bytes_eq new.0.name (new_spelled t)) (active_alike t m u new.0 new.2 ∙ parts.0) (by_name new.0.name (new_spelled t) name),
        λ n w below found. false_from_ne_true (is_meant t (new_spelled t) w) (λ passes. free (taker t (new_spelled t) refl n w found passes (subst (λ o. IsLater o n) (sym means) below))),
      )

  pub alike : (t : ℕ) → IsReference spelled os t → (IsCaptured spelled os naming label_naming t → ⊥) → meant new_spelled os t ≡ meant spelled os t
  alike t is free =
      one_last (is_meant t (new_spelled t)) (locals_of new_spelled os) (meant new_spelled os t) (meant spelled os t)
      (last_is (is_meant t (new_spelled t)) (locals_of new_spelled os))
      (kept_last t is free (meant spelled os t) refl (last_is (is_meant t (spelled t)) (locals_of spelled os)))

  -- what captures it is what it means then
  passed_over : (t : ℕ) (name : List ℕ) (n : ℕ) (w : LocalVariable) (o : Option ℕ) → IsLast (is_meant t name) (locals_of new_spelled os) o → slice_get (locals_of new_spelled os) n ≡ Some w → IsLater o n → is_meant t name w ≡ false
  passed_over t name n w None none found later = none n w found
  passed_over t name n w (Some m) (u, at, passes, none) found later = none n w later found

  pub not_captured : (t : ℕ) → meant new_spelled os t ≡ meant spelled os t → IsCaptured spelled os naming label_naming t → ⊥
  not_captured t same captured =
      let new = new_at a e c os lies spelled naming label_naming captured.number captured.local captured.is in
      let last : IsLast (is_meant t (new_spelled t)) (locals_of new_spelled os) (meant spelled os t) =
      subst (IsLast (is_meant t (new_spelled t)) (locals_of new_spelled os)) same (last_is (is_meant t (new_spelled t)) (locals_of new_spelled os)) in
      let none = passed_over t (new_spelled t) captured.number new.0 (meant spelled os t) last new.1 captured.later in
      let active : is_active t new.0 ≡ true = active_alike t captured.number captured.local new.0 new.2 ∙ captured.active in
      both_ways (is_meant t (new_spelled t) new.0) none (and_from (is_active t new.0) (bytes_eq new.0.name (new_spelled t)) active (by_name new.0.name (new_spelled t) (new.2.name ∙ captured.taken)))

pub captured_or_alike : CapturedOrAlike
captured_or_alike toks chunk spelled naming label_naming token derived is =
    let lies = block_lies derived in (
      not_captured 0 (length toks) (length toks) (said_in chunk) lies spelled naming label_naming token,
      alike 0 (length toks) (length toks) (said_in chunk) lies spelled naming label_naming token is,
    )
