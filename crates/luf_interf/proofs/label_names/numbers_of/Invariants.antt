use Rattle.std.proofs.Common.{◌≡◌, ℕ, ◌<◌, Some, [], length, get_or, slice_get}
use Rattle.luf_interf.specs.declared.label_rows.LabelRow.{LabelRow}
use Rattle.luf_interf.specs.inner.LabelNumbers.{IsTable, IsLeastNumber}
use Rattle.luf_interf.proofs.label_names.numbers_of.Given as goal

abbrev pub invariant-loop-row : goal.invariant-loop-row
invariant-loop-row l = record {
  count : length l.numbers.items ≡ l.row-index;
  classes : length l.tables.items ≡ l.fn.classes;
  tables : (c : ℕ) → c < l.fn.classes → IsTable l.rows l.numbers.items c (get_or l.tables.items c []);
  least : (n : ℕ) (row : LabelRow) → n < l.row-index → slice_get l.rows n ≡ Some row → IsLeastNumber l.rows l.numbers.items n row (get_or l.numbers.items n 0);
}
