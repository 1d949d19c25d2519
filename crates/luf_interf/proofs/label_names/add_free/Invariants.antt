use Rattle.std.proofs.Common.{◌≡◌, ℕ, ◌<◌, ◌≤◌, length, get_or}
use Rattle.luf_interf.specs.inner.LabelNumbers.{IsBarredNumber}
use Rattle.luf_interf.proofs.label_names.add_free.Given as goal

abbrev pub invariant-loop-place : goal.invariant-loop-place
invariant-loop-place l = record {
  long : length l.table ≡ l.place;
  behind : length l.initial.table ≤ l.place;
  kept : (j : ℕ) → j < length l.initial.table → get_or l.table j 0 ≡ get_or l.initial.table j 0;
  skipped : (j : ℕ) → length l.initial.table ≤ j → j < l.place → IsBarredNumber j × (get_or l.table j 0 ≡ 0);
}
