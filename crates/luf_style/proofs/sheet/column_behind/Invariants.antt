use Rattle.std.proofs.Common.{◌≡◌, ◌≤◌, ℕ, min, drop}
use Rattle.luf_doc.specs.Layout.{column_after}
use Rattle.luf_style.proofs.sheet.column_behind.Given as goal

abbrev pub invariant-loop-b : goal.invariant-loop-b
invariant-loop-b l = record {
  fits : l.reached ≤ 4294967295;
  column : (c : ℕ) → l.column ≡ min c 4294967295 → min (column_after l.bytes c) 4294967295 ≡ min (column_after (drop l.b-index l.bytes) l.reached) 4294967295;
}
