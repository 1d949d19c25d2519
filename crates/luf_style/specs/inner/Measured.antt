-- What is measured of a document that is written flat, from its end to its start. What only private functions cite.
use Rattle.std.specs.Prelude.{◌≡◌, ℕ, ◌+◌, min, Bool, false, ◌||◌, cond, List, [], ◌∷◌, drop, length, map, reverse}
use Rattle.std.specs.List.{list_any}
use Rattle.luf_doc.specs.declared.doc.Gap.{Gap}
use Rattle.luf_doc.specs.Document.{Document, Documents, text, between, trail, nest, group, sequence, nothing, also}
use Rattle.luf_doc.specs.Flat.{is_line_end, is_hard, is_forcing, is_note_ended, counted, flat_gap, flat, lead_gap, all_lead, forces}
use Rattle.luf_draft.specs.Flat.{Flat}
use Rattle.luf_draft.specs.declared.mark.Part.{Part}
use Rattle.luf_draft.specs.declared.mark.Part.TheVariants.{Nest, Group, Sequence}
use Rattle.luf_style.specs.inner.Tape.{Tape, tape_word, tape_gap, tape_trail, tape_open, tape_close, with_gaps, gap_count}
use Rattle.luf_style.specs.declared.measuring.Measuring.{Measuring}
use Rattle.luf_style.specs.declared.measuring.Stretch.{Stretch as Counted}

-- The end of a part: its bytes up to the first line end, whether one stands in it, whether something forces, and the
-- lead of what follows the part.
pub record Stretch : Type 0 where
  pub bytes : ℕ
  pub ended : Bool
  pub forced : Bool
  pub behind : ℕ

-- nothing of a part
abbrev pub unmeasured : ℕ → Stretch
unmeasured lead = record { bytes = 0; ended = false; forced = false; behind = lead }

-- The lead of what has been measured; the innermost part that goes on before it, and those around that one; and what the
-- groups need that begin in it, the first one first.
pub record Measured : Type 0 where
  pub lead : ℕ
  pub now : Stretch
  pub outer : List Stretch
  pub needs : List ℕ

-- What a group needs of a line: its bytes and its lead, or more than any line has where something forces.
abbrev pub need : Stretch → ℕ
need s = cond s.forced 4294967295 (min (cond s.ended s.bytes (s.bytes + s.behind)) 4294967295)

-- a part that is whole stands before what has been measured of the one around it
abbrev pub before_outer : Stretch → Stretch → Stretch
before_outer s outer = record {
  bytes = cond s.ended s.bytes (s.bytes + outer.bytes);
  ended = s.ended || outer.ended;
  forced = s.forced || outer.forced;
  behind = outer.behind;
}

abbrev pub word_before : List ℕ → Measured → Measured
word_before bytes m = record {
  lead = counted bytes m.lead;
  now = record { bytes = counted bytes m.now.bytes; ended = list_any is_line_end bytes || m.now.ended; forced = m.now.forced; behind = m.now.behind };
  outer = m.outer;
  needs = m.needs;
}

abbrev pub gap_before : Gap → Measured → Measured
gap_before gap m = record {
  lead = lead_gap gap.chance gap.notes m.lead;
  now = record {
    bytes = flat_gap gap.chance gap.notes m.now.bytes;
    ended = list_any is_note_ended gap.notes || m.now.ended;
    forced = (is_hard gap.chance || list_any is_forcing gap.notes) || m.now.forced;
    behind = m.now.behind;
  };
  outer = m.outer;
  needs = m.needs;
}

abbrev pub trail_before : Measured → Measured
trail_before m = record { lead = 1 + m.lead; now = m.now; outer = m.outer; needs = m.needs }

abbrev pub close_before : Measured → Measured
close_before m = record { lead = m.lead; now = unmeasured m.lead; outer = m.now ∷ m.outer; needs = m.needs }

abbrev pub need_of_part : Part → Stretch → List ℕ → List ℕ
need_of_part Nest s needs = needs
need_of_part Group s needs = need s ∷ needs
need_of_part Sequence s needs = needs

-- one that opens nothing is passed over
abbrev pub open_before : Part → Measured → List Stretch → Measured
open_before part m [] = m
open_before part m (o ∷ outer) = record { lead = m.lead; now = before_outer m.now o; outer = outer; needs = need_of_part part m.now m.needs }

abbrev pub one_before : Tape → Measured → Measured
one_before (tape_word bytes) m = word_before bytes m
one_before (tape_gap gap) m = gap_before gap m
one_before tape_trail m = trail_before m
one_before (tape_open part) m = open_before part m m.outer
one_before tape_close m = close_before m

abbrev pub measured : List Tape → Measured
measured [] = record { lead = 0; now = unmeasured 0; outer = []; needs = [] }
measured (x ∷ rest) = one_before x (measured rest)

-- ---- what the groups of a document need, in order

-- what a group needs with this inside
abbrev pub need_of : Document → ℕ → ℕ
need_of inner after = cond (forces inner) 4294967295 (min (flat inner after) 4294967295)

-- each list goes on with what the groups behind the document need
abbrev mutual
  pub needs_of : Document → ℕ → List ℕ → List ℕ
  needs_of (text bytes) after more = more
  needs_of (between gap) after more = more
  needs_of trail after more = more
  needs_of (nest inner) after more = needs_of inner after more
  needs_of (group inner) after more = need_of inner after ∷ needs_of inner after more
  needs_of (sequence items) after more = all_needs items after more

  pub all_needs : Documents → ℕ → List ℕ → List ℕ
  all_needs nothing after more = more
  all_needs (also first rest) after more = needs_of first (all_lead rest after) (all_needs rest after more)

-- ---- what the program holds: each number, or the greatest of its type

abbrev pub capped : Stretch → Counted
capped s = record { size = record { flat = min s.bytes 4294967295; ended = s.ended; forced = s.forced }; behind = min s.behind 4294967295 }

pub record Holds (m : Measured) (held : Measuring) : Type 0 where
  pub lead : held.lead ≡ min m.lead 4294967295
  pub now : held.now ≡ capped m.now
  pub outer : reverse held.outer.items ≡ map capped m.outer
  pub needs : reverse held.needs.items ≡ m.needs

-- What stands behind a place of marks has been measured, and of the gaps so many are left.
pub record IsMeasured (rest : List Flat) (gaps : List Gap) (left : ℕ) (held : Measuring) : Type 0 where
  pub holds : Holds (measured (with_gaps rest (drop left gaps))) held
  pub count : gap_count rest + left ≡ length gaps
