-- The labels, gotos, loops and breaks of a chunk, each with the function that holds it, as the code has them.
use Rattle.std.specs.Prelude.{ℕ, ◌^◌, ◌<◌, Option, Some, None, List}
use Rattle.luf_scope.specs.Local.{functions_of, function_of}
use Rattle.luf_scope.specs.Order.{place, AreOrdered}
use Rattle.luf_scope.specs.declared.occurrence.Occurrence.{Occurrence}
use Rattle.luf_scope.specs.declared.occurrence.Occurrence.TheVariants.{Function, Loop, Label, Goto, Break}
use Rattle.luf_goto.specs.declared.holders.Extent.{Extent}
use Rattle.luf_goto.specs.declared.holders.Spot.{Spot}
use Rattle.luf_goto.specs.declared.sites.LabelRow.{LabelRow}
use Rattle.luf_goto.specs.declared.sites.GotoRow.{GotoRow}
use Rattle.luf_goto.specs.inner.Holders.{one_higher}

-- the occurrences of a chunk of so many tokens, in order
pub record IsInOrder (occurrences : List Occurrence) : Type 0 where
  pub tokens : ℕ
  pub few : tokens < 2 ^ 32
  pub order : AreOrdered 0 tokens tokens occurrences

-- the number of the function that holds a place; 0 is the main function
abbrev pub home_of : List Occurrence → ℕ → ℕ
home_of occurrences token = one_higher (function_of (functions_of occurrences) token)

-- where the function is looked for that holds an occurrence
abbrev pub stop_at : Occurrence → Spot
stop_at o = record { class = 0; place = place o }

abbrev pub function_extent : Occurrence → Option Extent
function_extent (Function from to vararg) = Some (record { class = 0; from = from; to = to; rank = 0 })
function_extent _ = None

-- what is looked at of a chunk
abbrev pub jump_of : Occurrence → Option Occurrence
jump_of (Label name from to at_end) = Some (Label name from to at_end)
jump_of (Goto token name) = Some (Goto token name)
jump_of (Loop from to) = Some (Loop from to)
jump_of (Break token) = Some (Break token)
jump_of _ = None

abbrev pub label_in : ℕ → Occurrence → Option LabelRow
label_in home (Label name from to at_end) = Some (record { name = name; class = home; from = from; to = to; at_end = at_end })
label_in home _ = None

abbrev pub goto_in : ℕ → Occurrence → Option GotoRow
goto_in home (Goto token name) = Some (record { token = token; name = name; class = home })
goto_in home _ = None

abbrev pub loop_in : ℕ → Occurrence → Option Extent
loop_in home (Loop from to) = Some (record { class = home; from = from; to = to; rank = 0 })
loop_in home _ = None

abbrev pub break_in : ℕ → Occurrence → Option Spot
break_in home (Break token) = Some (record { class = home; place = token })
break_in home _ = None

-- each with the function that holds its place
abbrev pub label_row : List Occurrence → Occurrence → Option LabelRow
label_row occurrences o = label_in (home_of occurrences (place o)) o

abbrev pub goto_row : List Occurrence → Occurrence → Option GotoRow
goto_row occurrences o = goto_in (home_of occurrences (place o)) o

abbrev pub loop_extent : List Occurrence → Occurrence → Option Extent
loop_extent occurrences o = loop_in (home_of occurrences (place o)) o

abbrev pub break_spot : List Occurrence → Occurrence → Option Spot
break_spot occurrences o = break_in (home_of occurrences (place o)) o
