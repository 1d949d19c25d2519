-- The labels of a chunk as rows, each with the function that holds it, and a stack of functions from which that is read.
use Rattle.std.specs.Prelude.{◌≡◌, ℕ, ◌+◌, Bool, Option, Some, None, List, nat_lt}
use Rattle.luf_scope.specs.Local.{FunctionAt, function_of, last_passing}
use Rattle.luf_scope.specs.Order.{place}
use Rattle.luf_scope.specs.declared.occurrence.Occurrence.{Occurrence}
use Rattle.luf_scope.specs.declared.occurrence.Occurrence.TheVariants.{Label}
use Rattle.luf_scope.specs.inner.Last.{last_such}
use Rattle.luf_interf.specs.declared.label_rows.LabelRow.{LabelRow}
use Rattle.luf_interf.specs.declared.label_rows.Holder.{Holder}

-- a function by a number that is one higher; 0 is the main function
abbrev pub class_of : Option ℕ → ℕ
class_of None = 0
class_of (Some n) = n + 1

abbrev pub row_in : ℕ → Occurrence → Option LabelRow
row_in class (Label name from to at_end) = Some (record { class = class; from = from; to = to })
row_in class _ = None

-- a label with the function that holds it
abbrev pub row_of : List FunctionAt → Occurrence → Option LabelRow
row_of functions o = row_in (class_of (function_of functions (place o))) o

-- it reaches beyond this place
abbrev pub reaches : ℕ → Holder → Bool
reaches place holder = nat_lt place holder.to

abbrev pub class_in : Option Holder → ℕ
class_in None = 0
class_in (Some holder) = holder.class

-- of the functions that reach beyond a place, a stack tells the last
abbrev pub Tells : List Holder → List FunctionAt → ℕ → Type 0
Tells holders functions place = class_in (last_such (reaches place) holders) ≡ class_of (last_passing (λ f. nat_lt place f.to) 0 functions)
