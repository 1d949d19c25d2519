use Rattle.std.proofs.Common.{◌≡◌, [], length, All}
use Rattle.luf_scope.proofs.meanings.empty_stacks.Given as goal

abbrev pub invariant-loop : goal.invariant-loop
invariant-loop l = record {
  count : length l.stacks.items ≡ l.counter;
  empty : All (λ s. s.items ≡ []) l.stacks.items;
}
