-- The size of a document: what its row says of it, but for its kind and the nodes inside. Sizes are counted from the left.
use Rattle.std.specs.Prelude.{◌+◌, min, true, false, cond, ◌||◌}
use Rattle.luf_doc.specs.declared.doc.Remark.{Remark}
use Rattle.luf_doc.specs.declared.size.Size.{Size}
use Rattle.luf_doc.specs.declared.doc.Chance.{Chance}
use Rattle.luf_doc.specs.declared.doc.Chance.TheVariants.{Tight, Space, Soft, Line, Hard}
use Rattle.luf_doc.specs.Document.{Document, text, between, trail, nest, group, sequence}
use Rattle.luf_doc.specs.Flat.{counted, flat, is_note_ended, is_ended, is_forcing, forces}

abbrev pub none : Size
none = record { flat = 0; ended = false; forced = false }

-- the part of a document's row that is counted
abbrev pub size_of : Document → Size
size_of d = record { flat = min (flat d 0) 4294967295; ended = is_ended d; forced = forces d }

-- the size of a gap without notes
abbrev pub size_of_chance : Chance → Size
size_of_chance Tight = none
size_of_chance Space = record { flat = 1; ended = false; forced = false }
size_of_chance Soft = none
size_of_chance Line = record { flat = 1; ended = false; forced = false }
size_of_chance Hard = record { flat = 0; ended = false; forced = true }

abbrev pub size_of_note : Remark → Size
size_of_note note = record { flat = min (counted note.text 0) 4294967295; ended = is_note_ended note; forced = is_forcing note }

abbrev pub own_size : Document → Size
own_size (text bytes) = size_of (text bytes)
own_size (between gap) = size_of (between gap)
own_size trail = none
own_size (nest inner) = none
own_size (group inner) = none
own_size (sequence items) = none

abbrev pub then : Size → Size → Size
then a b = record {
  flat = cond a.ended a.flat (min (a.flat + b.flat) 4294967295);
  ended = a.ended || b.ended;
  forced = a.forced || b.forced;
}
