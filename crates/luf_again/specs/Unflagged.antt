-- A document without its flags. Rules of our own.
use Rattle.std.specs.Prelude.{false, map}
use Rattle.luf_doc.specs.declared.doc.Gap.{Gap}
use Rattle.luf_doc.specs.declared.doc.Remark.{Remark}
use Rattle.luf_doc.specs.Document.{Document, Documents, text, between, trail, nest, group, sequence, nothing, also}

abbrev pub bare_note : Remark → Remark
bare_note note = record { text = note.text; own_line = false; ends_line = false; blank = false }

abbrev pub bare_gap : Gap → Gap
bare_gap gap = record { chance = gap.chance; notes = map bare_note gap.notes; blank = false; deeper = gap.deeper }

-- the flags of its notes, and the empty lines of its gaps, are none
abbrev mutual
  pub unflagged : Document → Document
  unflagged (text bytes) = text bytes
  unflagged (between gap) = between (bare_gap gap)
  unflagged trail = trail
  unflagged (nest inner) = nest (unflagged inner)
  unflagged (group inner) = group (unflagged inner)
  unflagged (sequence items) = sequence (all_unflagged items)

  pub all_unflagged : Documents → Documents
  all_unflagged nothing = nothing
  all_unflagged (also first rest) = also (unflagged first) (all_unflagged rest)
