use Rattle.std.proofs.Common.{◌≤◌, ◌++◌, length, None, take, get_or, sym, ap, ◌∙◌, subst}
use Rattle.std.specs.Option.{option_to_list}
use Rattle.luf_scope.specs.Local.{function_by, functions_of}
use Rattle.luf_scope.specs.Order.{place}
use Rattle.luf_scope.specs.declared.occurrence.Occurrence.{Occurrence}
use Rattle.luf_scope.specs.declared.occurrence.Occurrence.TheVariants.{Local}
use Rattle.luf_scope.proofs.Laying.{all_before, all_fewer, all_latest}
use Rattle.luf_interf.specs.inner.LabelRows.{row_of, Tells}
use Rattle.luf_interf.proofs.Rows.{given_more, row_here}
use Rattle.luf_interf.proofs.label_rows.label_rows.Goals as goal

none : Occurrence
none = Local 0 None 0 0

pub loop-o-preserved : goal.loop-o-preserved
unfolding none
loop-o-preserved c =
    let os = c.args.os.now in
    let i = c.loop-o.o-index in
    let within = c.loop-o-test.true in
    let begun = functions_of (take i os) in
    let more = given_more function_by os i none within in
    record {
      functions = c.in_ok-add.ensures.functions begun c.loop-o.invariant.functions ∙ sym (ap length more);
      tells = λ later all. subst (λ fs. Tells c.add.new.self.holders.items fs later) (sym more)
          (c.in_ok-add.ensures.tells begun later c.loop-o.invariant.functions (all_latest (λ u. place u ≤ later) os i none within all) (c.loop-o.invariant.tells later (all_fewer (λ u. place u ≤ later) os i within all)));
      rows = c.in_ok-add.ensures.rows begun (c.loop-o.invariant.tells (place (get_or os i none)) (all_before os i c.requires within none))
          ∙ ap (λ o. c.loop-o.reading.rows.items ++ option_to_list o) (row_here os i c.requires within none)
          ∙ ap (λ rows. rows ++ option_to_list (row_of (functions_of os) (get_or os i none))) c.loop-o.invariant.rows
          ∙ sym (given_more (row_of (functions_of os)) os i none within);
    }
