-- The groups behind make the number no less.
use Rattle.std.proofs.Common.{◌+◌, ◌<◌, length, arith}
use Rattle.luf_undump.proofs.Groups.{value_more, value_take_le}
use Rattle.luf_undump.proofs.size.groups_value.Goals as goal

pub returns-then-value : goal.returns-then-value
returns-then-value c =
    let groups = c.args.groups.now in
    let index = c.loop-group.group-index in
    let within : index < length groups = omega arith in
    let more = value_more groups index within in
    let grows = value_take_le groups (index + 1) in
    omega arith
