use Rattle.std.proofs.Common.{◌≡◌, take}
use Rattle.std.specs.List.{filter_map}
use Rattle.luf_goto.specs.inner.Sites.{label_row, goto_row, loop_extent, break_spot}
use Rattle.luf_goto.proofs.sites.sites_of.Given as goal

abbrev pub invariant-loop-i : goal.invariant-loop-i
invariant-loop-i l = record {
  labels : l.s.labels.items ≡ filter_map (label_row l.os) (take l.i l.o-items);
  gotos : l.s.gotos.items ≡ filter_map (goto_row l.os) (take l.i l.o-items);
  loops : l.s.loops.items ≡ filter_map (loop_extent l.os) (take l.i l.o-items);
  breaks : l.s.breaks.items ≡ filter_map (break_spot l.os) (take l.i l.o-items);
}
