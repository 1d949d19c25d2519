use Rattle.std.proofs.Common.{length, sym, ◌<◌, ◌∙◌, arith}
use Rattle.std.proofs.lemmas.Bool.{ltb-true, lt-ltb}
use Rattle.luf_gaps.proofs.LeftLaws.{none_at, past_end}
use Rattle.luf_gaps.proofs.reader.GapReader.is_over.Goals as goal

pub returns : goal.returns
returns c = (
  λ over.
      let behind : c.tokens.result < c.self.inside.next = ltb-true c.tokens.result c.self.inside.next over in
      sym c.self.view_is ∙ sym (past_end c.self.inside.src.now c.self.inside.cut.now c.self.inside.dropped.items c.self.inside.next (omega (arith, behind, c.self.invariant.1, c.tokens.ensures.count))),
  λ none.
      let behind : length c.self.inside.dropped.items < c.self.inside.next = none_at c.self.inside.src.now c.self.inside.cut.now c.self.inside.dropped.items c.self.inside.next (c.self.view_is ∙ none) in
      lt-ltb c.tokens.result c.self.inside.next (omega (arith, behind, c.self.invariant.1, c.tokens.ensures.count)),
)
