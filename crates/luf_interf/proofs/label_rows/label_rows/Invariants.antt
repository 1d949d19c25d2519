use Rattle.std.proofs.Common.{◌≡◌, ℕ, ◌≤◌, length, take, All}
use Rattle.std.specs.List.{filter_map}
use Rattle.luf_scope.specs.Local.{functions_of}
use Rattle.luf_scope.specs.Order.{place}
use Rattle.luf_interf.specs.inner.LabelRows.{row_of, Tells}
use Rattle.luf_interf.proofs.label_rows.label_rows.Given as goal

abbrev pub invariant-loop-o : goal.invariant-loop-o
invariant-loop-o l = record {
  functions : l.reading.functions ≡ length (functions_of (take l.o-index l.os));
  tells : (later : ℕ) → All (λ u. place u ≤ later) (take l.o-index l.os) → Tells l.reading.holders.items (functions_of (take l.o-index l.os)) later;
  rows : l.reading.rows.items ≡ filter_map (row_of (functions_of l.os)) (take l.o-index l.os);
}
