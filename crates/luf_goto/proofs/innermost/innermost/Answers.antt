use Rattle.std.proofs.Common.{◌≡◌, ◌<◌, ◌∙◌, ◌^◌, map}
use Rattle.std.proofs.lemmas.Result.{IfOk-weaker}
use Rattle.std.proofs.lemmas.List.Sorted.{All-permutation}
use Rattle.luf_goto.specs.declared.holders.Extent.{Extent}
use Rattle.luf_goto.specs.inner.Innermost.{extent_numbered}
use Rattle.luf_goto.proofs.Inner.{sorted_by_from, innermost_is}
use Rattle.luf_goto.proofs.innermost.innermost.Goals as goal

pub last_holders-requires-clause-sorted : goal.last_holders-requires-clause-sorted
last_holders-requires-clause-sorted c =
    sorted_by_from c.sort.new.extents (All-permutation (λ e. e.rank < 2 ^ 32) _ _ c.sort.ensures.permutation c.requires.ranks) c.sort.ensures.sorted

pub last_holders-requires-clause-extents_in : goal.last_holders-requires-clause-extents_in
last_holders-requires-clause-extents_in c =
    All-permutation (λ (e : Extent). e.class < c.args.classes) _ _ c.sort.ensures.permutation c.requires.extents_in

pub returns : goal.returns
returns c =
    IfOk-weaker c.extents_at.result _ _
    (λ at (is : at.items ≡ map (extent_numbered c.sort.new.extents) c.as_slice.result.now).
    innermost_is c.args.extents.now c.sort.new.extents c.args.spots.now c.as_slice.result.now at.items c.sort.ensures.permutation c.sort.ensures.sorted (c.as_slice.ensures.value ∙ c.in_ok-found.ensures.found) is)
    c.extents_at.ensures
