use Rattle.std.proofs.Common.{◌≡◌, ℕ, List, map, take}
use Rattle.std.specs.List.{position_from}
use Rattle.luf_goto.specs.inner.Names.{name_of, same_name, place_in, first_place}
use Rattle.luf_goto.proofs.names.number_names.Given as goal

abbrev pub invariant-loop-i : goal.invariant-loop-i
invariant-loop-i l = record {
  first : (q : ℕ × List ℕ) → place_in l.first q ≡ position_from (same_name q) 0 (map name_of (take l.i l.names));
  numbers : l.numbers.items ≡ map (first_place (map name_of l.names)) (map name_of (take l.i l.names));
}
