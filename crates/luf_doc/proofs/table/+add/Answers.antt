-- One document more is added, and in the end the row is put in its place.
use Rattle.std.proofs.Common.{rules, List, ◌∙◌, ◌++◌, ap, sym, take, arith}
use Rattle.luf_doc.specs.declared.doc.Doc.{Doc}
use Rattle.luf_doc.specs.Document.{also, document_of}
use Rattle.luf_doc.specs.Table.{rows_from}
use Rattle.luf_doc.specs.inner.Above.{above}
use Rattle.luf_doc.proofs.AboveLaws.{none_above, all_around, next_above, rest_around}
use Rattle.luf_doc.proofs.AddLoop.{adding_first, adding_more, added_size, added_rows}
use Rattle.luf_doc.proofs.table.+add.Goals as goal

pub loop-child-init : goal.loop-child-init
loop-child-init t c = record {
  first = c.len-at.ensures;
  around = (λ i. take (c.len-around.ensures i) c.opened.new.left.items) ∙ c.in_ok-kind.ensures.around;
  adding = adding_first _ _ _ _ _ _ _ (search rules) c.in_ok-children.ensures.items c.of_own-size.ensures ((λ i. above (c.len-around.ensures i) c.opened.new.left.items) ∙ c.in_ok-kind.ensures.inside);
}

pub loop-child-preserved : goal.loop-child-preserved
loop-child-preserved t c = record {
  first = c.loop-child.invariant.first;
  around =
      ap (take c.len-around.result) c.in_ok-more.ensures.left
      ∙ sym (rest_around c.loop-child.left.items c.next_above.new.left.items c.in-Some.child c.len-around.result c.in-Some.ensures.0 c.in-Some.ensures.1)
      ∙ c.loop-child.invariant.around;
  adding = adding_more _ _ _ _ _ _ _ _ c.loop-child.invariant.adding (document_of c.in-Some.child) (above c.len-around.result c.add.new.left.items)
      (next_above c.loop-child.left.items c.next_above.new.left.items c.in-Some.child c.len-around.result c.in-Some.ensures.0 c.in-Some.ensures.1
      ∙ ap (λ (ds : List Doc). also (document_of c.in-Some.child) (above c.len-around.result ds)) (sym c.in_ok-more.ensures.left)) _ _ _ _ (omega arith) (omega arith) c.in_ok-more.ensures.rows (search rules) (search rules);
}

pub returns-clause-size : goal.returns-clause-size
returns-clause-size t c = added_size _ _ _ _ _ _ _ _ c.loop-child.invariant.adding (none_above c.loop-child.left.items c.len-around.result c.in_default.ensures.0)

pub returns-clause-rows : goal.returns-clause-rows
returns-clause-rows t c =
    added_rows _ _ _ _ _ _ _ _ c.loop-child.invariant.adding (none_above c.loop-child.left.items c.len-around.result c.in_default.ensures.0) c.args.rows.now.items _ c.in_ok-push.ensures.items c.in_ok-kind.ensures.kind (omega arith)
    c.index_mut-row.result.now c.index_mut-row.ensures.value c.from_vec.result c.from_vec.ensures
    ∙ ap (λ at. c.args.rows.now.items ++ rows_from at (document_of c.args.doc)) c.len-at.ensures

pub returns-clause-left : goal.returns-clause-left
returns-clause-left t c = c.in_default.ensures.1 ∙ sym (all_around c.loop-child.left.items c.len-around.result c.in_default.ensures.0) ∙ c.loop-child.invariant.around
