-- Whether an attribute stands anywhere.
use Rattle.std.specs.Prelude.{Bool, true, false, Some}
use Rattle.luf_scope.specs.declared.occurrence.Occurrence.{Occurrence}
use Rattle.luf_scope.specs.declared.occurrence.Occurrence.TheVariants.{Local}

abbrev pub has_attribute : Occurrence → Bool
has_attribute (Local name (Some attribute) from to) = true
has_attribute _ = false
