use Rattle.std.proofs.Common.{◌≡◌, [], replicate}
use Rattle.luf_interf.proofs.label_names.tables_of.Given as goal

abbrev pub invariant-loop : goal.invariant-loop
invariant-loop l = l.tables.items ≡ replicate l.counter []
