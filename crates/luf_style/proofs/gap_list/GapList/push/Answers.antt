-- What stood at a number stands there still, and the gap at its own.
use Rattle.std.proofs.Common.{◌++◌, ◌∷◌, [], length, ap, sym, subst, ◌∙◌}
use Rattle.luf_style.specs.inner.GapList.{AreRows}
use Rattle.luf_style.proofs.GapListLaws.{kept_rows, pushed_rows, pushed_gaps}
use Rattle.luf_style.proofs.gap_list.GapList.push.Goals as goal

pub invariant_of-self : goal.invariant_of-self
invariant_of-self c = kept_rows c.self.inside.kinds.items c.row_of.new.kinds.items c.self.inside.rows.items c.row_of.ensures.before c.self.invariant

pub invariant_of-self-in_err-push : goal.invariant_of-self-in_err-push
invariant_of-self-in_err-push c =
    subst (AreRows (length c.row_of.new.kinds.items)) (sym c.in_err-push.ensures.items)
    (kept_rows c.self.inside.kinds.items c.row_of.new.kinds.items c.self.inside.rows.items c.row_of.ensures.before c.self.invariant)

pub invariant_of-self-2 : goal.invariant_of-self-2
invariant_of-self-2 c =
    pushed_rows c.self.inside.kinds.items c.row_of.new.kinds.items c.self.inside.rows.items c.push.new.self.items c.in_ok-row.row
    c.row_of.ensures.before c.self.invariant c.in_ok-row.ensures.row.0 c.in_ok-push.ensures.items

pub returns : goal.returns
returns c =
    pushed_gaps c.self.inside.kinds.items c.row_of.new.kinds.items c.self.inside.rows.items c.push.new.self.items c.in_ok-row.row c.args.gap
    c.row_of.ensures.before c.self.invariant c.in_ok-row.ensures.row.0 c.in_ok-row.ensures.row.1 c.in_ok-push.ensures.items
    ∙ ap (λ gaps. gaps ++ c.args.gap ∷ []) c.self.view_is
