use Rattle.std.proofs.Common.{◌∙◌, map, arith, refl, [], ℕ, List, Bor}
use Rattle.luf_goto.specs.inner.Names.{name_of, place_in, first_place}
use Rattle.luf_goto.proofs.Numbers.{numbered_more, number_is, numbers_more}
use Rattle.luf_goto.proofs.names.number_names.Goals as goal

pub loop-i-preserved : goal.loop-i-preserved
loop-i-preserved c =
    let blank : ℕ × Bor (List ℕ) = (0, record { ref_ptr = (0, 0); now = [] }) in
    record {
      first = numbered_more name_of c.args.names.now c.loop-i.i blank _ (omega arith) refl (place_in c.loop-i.first) (place_in c.number.new.first) c.loop-i.invariant.first c.in_ok-number.ensures.kept;
      numbers = numbers_more name_of c.args.names.now c.loop-i.i blank _ (omega arith) refl _ _ _ (first_place (map name_of c.args.names.now)) c.in_ok-push.ensures.items
          (c.in_ok-number.ensures.number ∙ number_is name_of c.args.names.now c.loop-i.i blank _ (omega arith) refl (place_in c.loop-i.first) c.loop-i.invariant.first)
          c.loop-i.invariant.numbers;
    }
