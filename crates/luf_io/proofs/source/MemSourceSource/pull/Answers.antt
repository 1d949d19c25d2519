use Rattle.std.proofs.Common.{◌≡◌, ◌+◌, ◌-◌, arith}
use Rattle.luf_io.proofs.Pieces.{drop-part}
use Rattle.luf_io.proofs.source.MemSourceSource.pull.Goals as goal

pub returns-clause-given : goal.returns-clause-given
returns-clause-given c =
    let at = c.self.inside.at in
    let count = c.min-count.result in
    let width : at + count - at ≡ count = omega arith in
    rw (← c.self.view_is)
    (drop-part c.self.inside.bytes.items c.copy_from_slice.new.self _ at count (omega arith) (rw (width, c.deref-2.ensures.value) at c.copy_from_slice.ensures.after))
