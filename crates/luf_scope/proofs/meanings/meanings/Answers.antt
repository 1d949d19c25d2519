use Rattle.std.proofs.Common.{◌≤◌, None, get_or, arith}
use Rattle.luf_scope.specs.Links.{spelling_in}
use Rattle.luf_scope.specs.Order.{place}
use Rattle.luf_scope.specs.declared.occurrence.Occurrence.{Occurrence}
use Rattle.luf_scope.specs.declared.occurrence.Occurrence.TheVariants.{Local}
use Rattle.luf_scope.specs.inner.Buckets.{number_in}
use Rattle.luf_scope.specs.inner.Scopes.{meant_by}
use Rattle.luf_scope.proofs.Mapped.{map_more, pair_at}
use Rattle.luf_scope.proofs.meanings.meanings.Goals as goal

pub loop-o-preserved : goal.loop-o-preserved
loop-o-preserved c =
    let i = c.loop-o.o-index in
    let os = c.args.os.now in
    let none : Occurrence = Local 0 None 0 0 in
    record {
      sweep = c.in_ok-meaning_of.ensures.sweep;
      ahead = λ j d le inside.
          let later : place (get_or os i none) ≤ place (get_or os j d) = pair_at (λ u v. place u ≤ place v) os i j none d c.requires.order (omega arith) inside in
          let here : c.meaning_of.new.self.place ≤ place (get_or os i none) = c.in_ok-meaning_of.ensures.place in
          omega arith;
      found = map_more (meant_by (spelling_in c.args.src.now c.args.cut.now) (number_in c.args.names.now.buckets.items) c.args.scopes.now) os i none c.in_ok-meaning_of.field-0 c.loop-o.found.items c.push.new.self.items _ c.loop-o-test.true c.in_ok-meaning_of.ensures.meaning c.loop-o.invariant.found c.in_ok-push.ensures.items;
    }
