-- New names of labels from their numbers.
use Rattle.std.specs.Prelude.{◌≡◌, ℕ, List, All, length, slice_index}
use Rattle.luf_name.proofs.Naming.{none_left_out}
use Rattle.luf_scope.specs.Jump.{LabelAt, labels_of}
use Rattle.luf_scope.specs.Local.{Spelling}
use Rattle.luf_scope.specs.Nesting.{AreNestedBlocks}
use Rattle.luf_scope.specs.Order.{AreOrdered}
use Rattle.luf_scope.specs.declared.occurrence.Occurrence.{Occurrence}
use Rattle.luf_interf.specs.Interference.{IsLabel}
use Rattle.luf_interf.specs.NewNames.{Naming, IsFirstFree, IsFreeLabel}

-- the name of a number
unfoldable pub name_of_number : ℕ → List ℕ
name_of_number n = (none_left_out n).0

-- the names of numbers in a list
abbrev pub naming_by : List ℕ → Naming
naming_by numbers n = name_of_number (slice_index numbers n)

-- occurrences in their order, of which the blocks of labels nest
pub record LabelsLie (occurrences : List Occurrence) : Type 0 where
  pub tokens : ℕ
  pub order : AreOrdered 0 tokens tokens occurrences
  pub nested : All (λ u. All (AreNestedBlocks u) occurrences) occurrences

-- the numbers name each label by the first name that it may have
pub record AreLabelNames (spelled : Spelling) (occurrences : List Occurrence) (numbers : List ℕ) : Type 0 where
  pub count : length numbers ≡ length (labels_of spelled occurrences)
  pub least : (n : ℕ) (l : LabelAt) → IsLabel spelled occurrences n l → IsFirstFree (IsFreeLabel spelled occurrences (naming_by numbers) n l) (naming_by numbers n)
