use Rattle.std.proofs.Common.{◌≡◌, ◌^◌, ◌<◌, take}
use Rattle.luf_undump.specs.Reading.{value_of_groups}
use Rattle.luf_undump.proofs.size.groups_value.Given as goal

-- the value of the groups so far
abbrev pub invariant-loop-group : goal.invariant-loop-group
invariant-loop-group l = record {
  value : l.value ≡ value_of_groups (take l.group-index l.groups);
  small : l.value < 2 ^ 57;
}
