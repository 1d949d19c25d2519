use Rattle.std.proofs.Common.{◌+◌, length, get_or, ap, ◌∙◌, arith}
use Rattle.std.proofs.Math.ListN.{length-set}
use Rattle.std.proofs.lemmas.Option.{slice_get-get_or, slice_get_within}
use Rattle.luf_interf.specs.declared.label_rows.LabelRow.{LabelRow}
use Rattle.luf_interf.proofs.Tables.{tables_more, least_more, longer}
use Rattle.luf_interf.proofs.label_names.numbers_of.Goals as goal

blank : LabelRow
blank = record { class = 0; from = 0; to = 0 }

pub loop-row-preserved : goal.loop-row-preserved
unfolding blank
loop-row-preserved c =
    let rows = c.args.rows.now in
    let i = c.loop-row.row-index in
    let row = get_or rows i blank in
    let within = c.loop-row-test.true in
    let here = slice_get-get_or rows i blank within in
    let some = c.requires.blocks i blank within in
    let class = c.requires.classes i blank within in
    let count = c.loop-row.invariant.count in
    let pushed = c.in_ok-push.ensures.items in
    record {
      count = ap length pushed ∙ longer c.loop-row.numbers.items c.in_ok-number.number ∙ ap (λ k. k + 1) count;
      classes = length-set c.loop-row.tables.items row.class c.pick.new.table ∙ c.loop-row.invariant.classes;
      tables = tables_more rows c.loop-row.numbers.items c.loop-row.tables.items c.args.classes i row c.in_ok-number.number c.index_mut.result.now c.pick.new.table c.push.new.self.items
          pushed count here some (let now = c.in_ok-number.ensures.at in omega (arith, now)) class c.loop-row.invariant.classes c.loop-row.invariant.tables c.index_mut.ensures.value c.in_ok-number.ensures;
      least = least_more rows c.loop-row.numbers.items c.loop-row.tables.items c.args.classes i row c.in_ok-number.number c.index_mut.result.now c.pick.new.table c.push.new.self.items
          pushed count here some (let now = c.in_ok-number.ensures.at in omega (arith, now)) class c.loop-row.invariant.classes c.loop-row.invariant.tables c.index_mut.ensures.value c.in_ok-number.ensures c.loop-row.invariant.least;
    }

pub returns : goal.returns
returns c = record {
  count = let done = c.loop-row-test.false in let end = c.loop-row.auto.row-index-end in let count = c.loop-row.invariant.count in omega (arith, done, end, count);
  each = λ n row is. c.loop-row.invariant.least n row (let within = slice_get_within c.args.rows.now n row is in let done = c.loop-row-test.false in omega (arith, within, done)) is;
}
