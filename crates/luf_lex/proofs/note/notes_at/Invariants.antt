use Rattle.std.proofs.Common.{◌≡◌, take}
use Rattle.luf_lex.proofs.NoteLemmas.{noted}
use Rattle.luf_lex.proofs.note.notes_at.Given as goal

-- the notes of the places so far
abbrev pub invariant-loop-place : goal.invariant-loop-place
invariant-loop-place l = l.found.items ≡ noted l.pieces (take l.place-index l.comments)
