use Rattle.std.proofs.Common.{map}
use Rattle.luf_scope.specs.Links.{spelling_in}
use Rattle.luf_min.specs.Minified.{spelled_under}
use Rattle.luf_min.specs.inner.Items.{spelling_of}
use Rattle.luf_min.proofs.TextLemmas.{written_none, written_more, words_next, front_kept}
use Rattle.luf_min.proofs.text.write_items.Goals as goal

pub loop-item-init : goal.loop-item-init
loop-item-init c = written_none (map (spelling_of (spelled_under c.args.names.now (spelling_in c.args.src.now c.args.cut.now))) c.args.items.now) c.args.into.now.items

pub returns-in-Err-clause-err : goal.returns-in-Err-clause-err
returns-in-Err-clause-err c = front_kept c.args.into.now.items c.loop-item.invariant.text c.loop-item.into.items _ c.loop-item.invariant.written c.in-Err.ensures.err

pub loop-item-preserved : goal.loop-item-preserved
loop-item-preserved c =
    let says = spelling_of (spelled_under c.args.names.now (spelling_in c.args.src.now c.args.cut.now)) in
    written_more (map says c.args.items.now) c.loop-item.item-index c.args.into.now.items c.loop-item.into.items c.write_item.new.into.items (says c.item-item.result) c.loop-item.last c.in-Ok.from c.loop-item.invariant
    (words_next says c.args.items.now c.loop-item.item-index c.item-item.result c.loop-item-test.true c.item-item.is) c.in-Ok.ensures.ok
