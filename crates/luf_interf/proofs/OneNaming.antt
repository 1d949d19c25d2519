-- The least names of a source are one.
use Rattle.std.proofs.Common.{◌≡◌, ℕ, zero, suc, ◌<◌, false, List, refl, sym, ◌∙◌, ⊎_elim, arith}
use Rattle.std.proofs.lemmas.Bool.{cases_order}
use Rattle.luf_name.specs.Order.{number_of}
use Rattle.luf_name.proofs.Rising.{names_rise, one_name}
use Rattle.luf_scope.specs.Local.{Spelling, LocalVariable}
use Rattle.luf_scope.specs.Jump.{LabelAt}
use Rattle.luf_scope.specs.declared.occurrence.Occurrence.{Occurrence}
use Rattle.luf_interf.specs.Interference.{IsLocal, IsLabel}
use Rattle.luf_interf.specs.NewNames.{Naming, is_fixed, IsFirstFree, IsFree, IsFreeLabel, AreLeast}
use Rattle.luf_interf.specs.RenamingLaws.{OneNaming}

-- of two first free names, where what is free is alike, none comes before the other
pub one_first : (Free Same : List ℕ → Type 0) → ((name : List ℕ) → Free name → Same name) → ((name : List ℕ) → Same name → Free name) → (name other : List ℕ) → IsFirstFree Free name → IsFirstFree Same other → name ≡ other
one_first Free Same to back name other a b =
    ⊎_elim (λ same. one_name (number_of name) name other (a.is_name, refl) (b.is_name, sym same))
    (⊎_elim (λ below. absurd (b.first name a.is_name ((names_rise name other a.is_name b.is_name).1 below) (to name a.free)))
    (λ above. absurd (a.first other b.is_name ((names_rise other name b.is_name a.is_name).1 above) (back other b.free))))
    (cases_order (number_of name) (number_of other))

module _ (spelled : Spelling) (os : List Occurrence) where
  -- what is free hangs on the names of those before alone
  pub free_alike : (naming other : Naming) (n : ℕ) (v : LocalVariable) → ((m : ℕ) (u : LocalVariable) → m < n → IsLocal spelled os m u → is_fixed u ≡ false → naming m ≡ other m) → (name : List ℕ) → IsFree spelled os naming n v name → IsFree spelled os other n v name
  free_alike naming other n v agree name f = record {
    allowed = f.allowed;
    no_global = f.no_global;
    no_earlier = λ m u below is free meets same. f.no_earlier m u below is free meets (agree m u below is free ∙ same);
  }

  pub free_label_alike : (naming other : Naming) (n : ℕ) (l : LabelAt) → ((m : ℕ) (k : LabelAt) → m < n → IsLabel spelled os m k → naming m ≡ other m) → (name : List ℕ) → IsFreeLabel spelled os naming n l name → IsFreeLabel spelled os other n l name
  free_label_alike naming other n l agree name f = record {
    allowed = f.allowed;
    no_earlier = λ m k below is meets same. f.no_earlier m k below is meets (agree m k below is ∙ same);
  }

  module _ (naming label_naming other other_labels : Naming) (least : AreLeast spelled os naming label_naming) (also_least : AreLeast spelled os other other_labels) where
    locals_below : (bound n : ℕ) (v : LocalVariable) → n < bound → IsLocal spelled os n v → is_fixed v ≡ false → naming n ≡ other n
    locals_below zero n v below is free = absurd (omega (arith, below))
    locals_below (suc bound) n v below is free =
        one_first (IsFree spelled os naming n v) (IsFree spelled os other n v)
        (free_alike naming other n v (λ m u less there renamed. locals_below bound m u (omega (arith, below, less)) there renamed))
        (free_alike other naming n v (λ m u less there renamed. sym (locals_below bound m u (omega (arith, below, less)) there renamed)))
        (naming n) (other n) (least.locals n v is free) (also_least.locals n v is free)

    labels_below : (bound n : ℕ) (l : LabelAt) → n < bound → IsLabel spelled os n l → label_naming n ≡ other_labels n
    labels_below zero n l below is = absurd (omega (arith, below))
    labels_below (suc bound) n l below is =
        one_first (IsFreeLabel spelled os label_naming n l) (IsFreeLabel spelled os other_labels n l)
        (free_label_alike label_naming other_labels n l (λ m k less there. labels_below bound m k (omega (arith, below, less)) there))
        (free_label_alike other_labels label_naming n l (λ m k less there. sym (labels_below bound m k (omega (arith, below, less)) there)))
        (label_naming n) (other_labels n) (least.labels n l is) (also_least.labels n l is)

pub one_naming : OneNaming
one_naming spelled os naming label_naming other other_labels least also_least = record {
  locals = λ n v is free. locals_below spelled os naming label_naming other other_labels least also_least (suc n) n v (omega arith) is free;
  labels = λ n l is. labels_below spelled os naming label_naming other other_labels least also_least (suc n) n l (omega arith) is;
}
