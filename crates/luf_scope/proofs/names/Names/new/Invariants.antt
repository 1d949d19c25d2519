use Rattle.std.proofs.Common.{◌≡◌, ℕ, List, length, None, All}
use Rattle.luf_scope.specs.inner.Buckets.{number_among}
use Rattle.luf_scope.proofs.names.Names.new.Given as goal

abbrev pub invariant-loop : goal.invariant-loop
invariant-loop l = record {
  count : length l.buckets.items ≡ l.counter;
  none : All (λ b. (name : List ℕ) → number_among b.numbers name ≡ None) l.buckets.items;
}
