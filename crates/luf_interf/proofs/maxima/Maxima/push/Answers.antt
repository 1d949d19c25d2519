use Rattle.std.proofs.Common.{◌≡◌, length, arith}
use Rattle.luf_interf.proofs.Above.{roomy, pushed, pushed_is}
use Rattle.luf_interf.proofs.maxima.Maxima.push.Goals as goal

pub invariant_of-self-in_err-make_room-3 : goal.invariant_of-self-in_err-make_room-3
invariant_of-self-in_err-make_room-3 c =
    let groups = c.len.ensures in
    let blocks = c.len-2.ensures in
    let room = c.in_ok-make_room.ensures.room in
    let more = c.in_ok-make_room-2.ensures.room in
    roomy c.self.inside.numbers.items c.self.inside.blocks.items c.make_room-3.new.above.items c.self.inside.groups.items c.make_room-2.new.above.items c.self.inside.tops.items c.make_room.new.above.items c.self.invariant
    c.make_room.ensures.longer (omega (arith, groups, room)) c.make_room-2.ensures.longer (omega (arith, blocks, more)) c.make_room-3.ensures.longer

pub invariant_of-self-in_err-push : goal.invariant_of-self-in_err-push
invariant_of-self-in_err-push c =
    let groups = c.len.ensures in
    let blocks = c.len-2.ensures in
    let room = c.in_ok-make_room.ensures.room in
    let more = c.in_ok-make_room-2.ensures.room in
    rw c.in_err-push.ensures.items
    (roomy c.self.inside.numbers.items c.self.inside.blocks.items c.make_room-3.new.above.items c.self.inside.groups.items c.make_room-2.new.above.items c.self.inside.tops.items c.make_room.new.above.items c.self.invariant
    c.make_room.ensures.longer (omega (arith, groups, room)) c.make_room-2.ensures.longer (omega (arith, blocks, more)) c.make_room-3.ensures.longer)

pub invariant_of-self-2 : goal.invariant_of-self-2
invariant_of-self-2 c =
    let numbers = c.len-place.ensures in
    let groups = c.len.ensures in
    let blocks = c.len-2.ensures in
    let room = c.in_ok-make_room.ensures.room in
    let more = c.in_ok-make_room-2.ensures.room in
    let most = c.in_ok-make_room-3.ensures.room in
    pushed c.self.inside.numbers.items c.self.inside.blocks.items c.make_room-3.new.above.items c.self.inside.groups.items c.make_room-2.new.above.items c.self.inside.tops.items c.make_room.new.above.items c.self.invariant
    c.make_room.ensures.longer (omega (arith, groups, room)) c.make_room-2.ensures.longer (omega (arith, blocks, more)) c.make_room-3.ensures.longer
    c.push.new.self.items c.in_ok-push.ensures.items (omega (arith, numbers, most))

pub returns-clause-ok : goal.returns-clause-ok
returns-clause-ok c =
    let at : c.len-place.result ≡ length c.self.inside.numbers.items = omega arith in
    pushed_is c.args.self.now c.self.inside.numbers.items c.push.new.self.items c.set.new.self c.len-place.result c.args.number c.self.view_is c.in_ok-push.ensures.items at c.set.ensures
