-- One note more.
use Rattle.std.proofs.Common.{◌≡◌, ◌+◌, ◌∙◌, ◌∷◌, ap, sym, subst, arith, length, drop, get_or}
use Rattle.std.proofs.lemmas.List.{drop_more}
use Rattle.luf_doc.specs.declared.size.Size.{Size}
use Rattle.luf_doc.specs.Sizes.{size_of_note, then}
use Rattle.luf_doc.proofs.SizeLoop.{CountsNotes, counts_note_more, blank}
use Rattle.luf_doc.proofs.size.Size.of_gap.Goals as goal

pub loop-note-preserved : goal.loop-note-preserved
loop-note-preserved c =
    let notes = c.args.gap.now.notes in
    let at = c.loop-note.note-index in
    let note = c.note-item.result in
    let count = ap length c.as_slice-note-items.ensures in
    let left : drop at notes ≡ note ∷ drop (at + 1) notes = drop_more notes at note (omega (arith, count)) ∙ ap (λ n. n ∷ drop (at + 1) notes) (sym (c.note-item.is ∙ ap (λ ns. get_or ns at note) c.as_slice-note-items.ensures)) in
    let size_is : c.then-size.result ≡ then (then c.loop-note.size blank) (size_of_note note) = c.then-size.ensures ∙ (λ i. then (c.then.ensures i) (c.of_note.ensures i)) in
    subst (λ (s : Size). CountsNotes c.args.gap.now.chance notes s (drop (at + 1) notes)) (sym size_is)
    (counts_note_more _ _ _ _ _ (subst (CountsNotes c.args.gap.now.chance notes c.loop-note.size) left c.loop-note.invariant))
