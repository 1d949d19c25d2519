-- What a reading adds of a part: all that it says, or its outline.
use Rattle.std.specs.Prelude.{◌≡◌, Bool, ◌||◌, List, ◌++◌}
use Rattle.std.specs.List.{filter}
use Rattle.luf_scope.specs.Outline.{is_outline}
use Rattle.luf_scope.specs.declared.occurrence.Occurrence.{Occurrence}

abbrev pub is_kept : Bool → Occurrence → Bool
is_kept all o = is_outline o || all

abbrev pub kept : Bool → List Occurrence → List Occurrence
kept all occurrences = filter (is_kept all) occurrences

pub record Adds (all : Bool) (old new part : List Occurrence) : Type 0 where
  pub is : new ≡ old ++ kept all part
