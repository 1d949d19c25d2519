use Rattle.std.proofs.Common.{map, sym, ap, ◌∙◌, arith}
use Rattle.std.proofs.lemmas.List.{get_or_default}
use Rattle.luf_scope.specs.Order.{place}
use Rattle.luf_goto.specs.inner.Sites.{home_of, label_in, goto_in, loop_in, break_in, label_row, goto_row, loop_extent, break_spot}
use Rattle.luf_goto.proofs.Places.{row_more, all_rows, no_label, no_goto, no_loop, no_break}
use Rattle.luf_goto.proofs.sites.sites_of.Goals as goal

pub loop-i-preserved : goal.loop-i-preserved
loop-i-preserved c =
    let os = c.args.os.now in
    let items = c.deref-o-items.result.now in
    let homes = c.in_ok-homes.ensures ∙ ap (map (λ o. home_of os (place o))) (c.as_slice.ensures.value ∙ sym c.deref-o-items.ensures.value) in
    record {
      labels = row_more label_in os items c.in_ok-homes.homes.items c.loop-i.i c.index.result.now _ _ _ homes (omega arith) (get_or_default items c.loop-i.i _ _ (omega arith)) c.index.ensures c.in_ok-add.ensures.labels c.loop-i.invariant.labels;
      gotos = row_more goto_in os items c.in_ok-homes.homes.items c.loop-i.i c.index.result.now _ _ _ homes (omega arith) (get_or_default items c.loop-i.i _ _ (omega arith)) c.index.ensures c.in_ok-add.ensures.gotos c.loop-i.invariant.gotos;
      loops = row_more loop_in os items c.in_ok-homes.homes.items c.loop-i.i c.index.result.now _ _ _ homes (omega arith) (get_or_default items c.loop-i.i _ _ (omega arith)) c.index.ensures c.in_ok-add.ensures.loops c.loop-i.invariant.loops;
      breaks = row_more break_in os items c.in_ok-homes.homes.items c.loop-i.i c.index.result.now _ _ _ homes (omega arith) (get_or_default items c.loop-i.i _ _ (omega arith)) c.index.ensures c.in_ok-add.ensures.breaks c.loop-i.invariant.breaks;
    }

pub returns-clause-labels : goal.returns-clause-labels
returns-clause-labels c = all_rows (label_row c.args.os.now) (λ o. no_label (home_of c.args.os.now (place o)) o) c.args.os.now c.deref-o-items.result.now c.in_ok-jumps.jumps.items c.loop-i.i c.loop-i.s.labels.items c.loop-i.invariant.labels (omega arith) c.deref-o-items.ensures.value c.in_ok-jumps.ensures

pub returns-clause-gotos : goal.returns-clause-gotos
returns-clause-gotos c = all_rows (goto_row c.args.os.now) (λ o. no_goto (home_of c.args.os.now (place o)) o) c.args.os.now c.deref-o-items.result.now c.in_ok-jumps.jumps.items c.loop-i.i c.loop-i.s.gotos.items c.loop-i.invariant.gotos (omega arith) c.deref-o-items.ensures.value c.in_ok-jumps.ensures

pub returns-clause-loops : goal.returns-clause-loops
returns-clause-loops c = all_rows (loop_extent c.args.os.now) (λ o. no_loop (home_of c.args.os.now (place o)) o) c.args.os.now c.deref-o-items.result.now c.in_ok-jumps.jumps.items c.loop-i.i c.loop-i.s.loops.items c.loop-i.invariant.loops (omega arith) c.deref-o-items.ensures.value c.in_ok-jumps.ensures

pub returns-clause-breaks : goal.returns-clause-breaks
returns-clause-breaks c = all_rows (break_spot c.args.os.now) (λ o. no_break (home_of c.args.os.now (place o)) o) c.args.os.now c.deref-o-items.result.now c.in_ok-jumps.jumps.items c.loop-i.i c.loop-i.s.breaks.items c.loop-i.invariant.breaks (omega arith) c.deref-o-items.ensures.value c.in_ok-jumps.ensures
