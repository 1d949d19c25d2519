use Rattle.std.proofs.Common.{ℕ, ◌<◌, get_or}
use Rattle.luf_interf.specs.declared.label_rows.LabelRow.{LabelRow}
use Rattle.luf_interf.proofs.label_names.classes_of.Given as goal

abbrev pub invariant-loop-row : goal.invariant-loop-row
invariant-loop-row l = (k : ℕ) (d : LabelRow) → k < l.row-index → (get_or l.rows k d).class < l.classes
