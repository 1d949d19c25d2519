use Rattle.std.proofs.Common.{◌∙◌, arith}
use Rattle.luf_interf.proofs.Above.{passed_before, none_of_blocks, none_of_groups, none_of_tops}
use Rattle.luf_interf.proofs.maxima.Maxima.first.Goals as goal

pub returns-in_err-top : goal.returns-in_err-top
returns-in_err-top c =
    c.from_residual.ensures ∙ none_of_tops c.args.self.now c.self.inside.numbers.items c.self.inside.blocks.items c.self.inside.groups.items c.self.inside.tops.items c.self.invariant c.self.view_is c.args.bound c.as_slice.result.now c.as_slice.ensures.value c.in_err-top.ensures

pub first_from-requires-2 : goal.first_from-requires-2
first_from-requires-2 c = let far = c.saturating_mul.ensures in
    passed_before c.self.inside.groups.items c.args.bound c.self.inside.tops.items c.self.invariant.third c.as_slice.result.now c.as_slice-2.result.now c.as_slice.ensures.value c.as_slice-2.ensures.value
    c.in_ok-top.top c.saturating_mul.result c.in_ok-top.ensures (omega (arith, far))

pub returns-in_err-group : goal.returns-in_err-group
returns-in_err-group c =
    c.from_residual-in_err-group.ensures ∙ none_of_groups c.args.self.now c.self.inside.numbers.items c.self.inside.blocks.items c.self.inside.groups.items c.self.inside.tops.items c.self.invariant c.self.view_is c.args.bound c.as_slice-2.result.now c.as_slice-2.ensures.value c.in_err-group.ensures

pub first_from-requires-3 : goal.first_from-requires-3
first_from-requires-3 c = let far = c.saturating_mul-2.ensures in
    passed_before c.self.inside.blocks.items c.args.bound c.self.inside.groups.items c.self.invariant.second c.as_slice-2.result.now c.as_slice-3.result.now c.as_slice-2.ensures.value c.as_slice-3.ensures.value
    c.in_ok-group.group c.saturating_mul-2.result c.in_ok-group.ensures (omega (arith, far))

pub returns-in_err-block : goal.returns-in_err-block
returns-in_err-block c =
    c.from_residual-in_err-block.ensures ∙ none_of_blocks c.args.self.now c.self.inside.numbers.items c.self.inside.blocks.items c.self.inside.groups.items c.self.inside.tops.items c.self.invariant c.self.view_is c.args.bound c.as_slice-3.result.now c.as_slice-3.ensures.value c.in_err-block.ensures

pub first_from-requires-4 : goal.first_from-requires-4
first_from-requires-4 c = let far = c.saturating_mul-3.ensures in
    passed_before c.self.inside.numbers.items c.args.bound c.self.inside.blocks.items c.self.invariant.first c.as_slice-3.result.now c.as_slice-4.result.now c.as_slice-3.ensures.value c.as_slice-4.ensures.value
    c.in_ok-block.block c.saturating_mul-3.result c.in_ok-block.ensures (omega (arith, far))
