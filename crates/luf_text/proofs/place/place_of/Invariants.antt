use Rattle.std.proofs.Common.{◌≡◌, ◌-◌, ◌≤◌, ◌+◌, drop}
use Rattle.luf_text.specs.Place.{line_starts_from, place_in}
use Rattle.luf_text.proofs.Places.{place_from}
use Rattle.luf_text.proofs.place.place_of.Given as goal

-- the line and the beginnings of lines after it give the place
abbrev pub invariant-loop-next : goal.invariant-loop-next
invariant-loop-next l = record {
  place : place_in l.src l.at ≡ place_from l.line l.start l.at (line_starts_from l.start (drop l.start l.src));
  begun : l.start ≤ l.at;
  counted : l.line ≤ l.start + 1;
  positive : 1 ≤ l.line;
}

abbrev pub decreases-loop-next : goal.decreases-loop-next
decreases-loop-next l = l.at - l.start
