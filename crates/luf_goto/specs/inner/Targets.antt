-- The number of the label that each goto goes to.
use Rattle.std.specs.Prelude.{ℕ, Option, List, map}
use Rattle.std.specs.Option.{option_map}
use Rattle.luf_scope.specs.Local.{Spelling}
use Rattle.luf_scope.specs.Jump.{LabelAt, labels_of, gotos_of, target}
use Rattle.luf_scope.specs.declared.occurrence.Occurrence.{Occurrence}

abbrev pub targets_in : Spelling → List Occurrence → List (Option ℕ)
targets_in spelled occurrences = map (λ g. option_map (λ (t : ℕ × LabelAt). t.0) (target (labels_of spelled occurrences) g)) (gotos_of spelled occurrences)
