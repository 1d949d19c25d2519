use Rattle.std.proofs.Common.{ℕ, ◌<◌, ◌≤◌, ltb, ltb-true, ltb-false, sym, subst, rules}
use Rattle.std.specs.List.Sorted.{IsNonDecreasingBy, IsPartitionPoint}
use Rattle.std.proofs.lemmas.List.Sorted.{IsPartitionPoint-from_clause, IsPartitionedBy-ltb}
use Rattle.luf_lex.proofs.note.Leads.count_before.Goals as goal

pub returns-clause-point : goal.returns-clause-point
returns-clause-point c =
    let rising = subst (IsNonDecreasingBy (λ (i : ℕ). i)) (sym c.deref.ensures.value) c.requires.rising in
    let parted = IsPartitionedBy-ltb (λ (i : ℕ). i) c.deref.result.now c.args.end rising in
    let point = IsPartitionPoint-from_clause (λ i. ltb i c.args.end) _ _ c.partition_point.ensures.partitioned parted (λ a r q k. search rules) in
    subst (λ places. IsPartitionPoint (λ (i : ℕ). i < c.args.end) (λ (i : ℕ). c.args.end ≤ i) places c.partition_point.result) c.deref.ensures.value
    (λ k d low high. ltb-true _ _ (point.0 k d low high), λ k d low high. ltb-false _ _ (point.1 k d low high))
