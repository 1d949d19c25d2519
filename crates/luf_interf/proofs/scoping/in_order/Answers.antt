use Rattle.std.proofs.Common.{rules}
use Rattle.std.proofs.lemmas.List.Sorted.{answers_always}
use Rattle.luf_interf.proofs.Begun.{begins_all}
use Rattle.luf_interf.proofs.scoping.in_order.Goals as goal

pub returns-clause-order : goal.returns-clause-order
returns-clause-order c =
    begins_all c.args.scopes.items c.sort_by_key.new.self.items c.requires c.in_ok-sort_by_key.ensures.permutation
    (c.in_ok-sort_by_key.ensures.sorted (λ s. s.from) (answers_always _ _ _ (λ f a r g called. search rules)))
    (c.in_ok-sort_by_key.ensures.stable (λ s. s.from) (answers_always _ _ _ (λ f a r g called. search rules)))
