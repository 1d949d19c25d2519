-- What becomes of texts by two flags.
use Rattle.std.specs.Prelude.{◌≡◌, Bool, true, false}
use Rattle.luf_plan.specs.declared.command.Manner.{Manner}
use Rattle.luf_plan.specs.declared.command.Manner.TheVariants.{Show, Compare, Rewrite}

-- what becomes of the texts, where --check and --write are given or not
abbrev pub IsChosen : Bool → Bool → Manner → Type 0
IsChosen check write Show = (check ≡ false) × (write ≡ false)
IsChosen check write Compare = (check ≡ true) × (write ≡ false)
IsChosen check write Rewrite = (check ≡ false) × (write ≡ true)

-- both are given
abbrev pub NothingChosen : Bool → Bool → Type 0
NothingChosen check write = (check ≡ true) × (write ≡ true)
