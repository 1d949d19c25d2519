use Rattle.std.proofs.Common.{arith, length-drop, ◌∙◌}
use Rattle.std.proofs.lemmas.List.{take_rest}
use Rattle.luf_io.proofs.Pieces.{Appends-take}
use Rattle.luf_io.proofs.write.write_all.Goals as goal

pub loop-done-preserved : goal.loop-done-preserved
loop-done-preserved g c =
    let w = c.loop-done.invariant in
    let e = c.in-Ok.ensures in
    let bytes = c.args.bytes.now in
    let done = c.loop-done.done in
    record {
      within = omega (arith, simp (take_rest, length-drop) at e.count);
      put = Appends-take _ bytes done c.in-Ok.taken _ _ w.put (simp take_rest at e.taken);
      calm = e.calm ∙ w.calm;
    }
