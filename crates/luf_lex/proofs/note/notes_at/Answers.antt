use Rattle.std.proofs.Common.{◌∙◌, ap, get_or, arith}
use Rattle.std.proofs.lemmas.List.{length-take-le, take_all}
use Rattle.luf_lex.proofs.GrowingLemmas.{comment_inside}
use Rattle.luf_lex.proofs.NoteLemmas.{noted, noted_more, noted_notes}
use Rattle.luf_lex.proofs.note.notes_at.Goals as goal

pub slice_bounds-note_of-end : goal.slice_bounds-note_of-end
slice_bounds-note_of-end c =
    let inside = comment_inside c.args.comments.now c.args.pieces.now c.loop-place.place-index c.requires.comments c.loop-place-test.true in
    omega (arith, inside, length-take-le (get_or c.args.comments.now c.loop-place.place-index 0) c.args.pieces.now (omega (arith, inside)))

pub bounds-pieces-place : goal.bounds-pieces-place
bounds-pieces-place c = comment_inside c.args.comments.now c.args.pieces.now c.loop-place.place-index c.requires.comments c.loop-place-test.true

pub slice_bounds-note_of-count : goal.slice_bounds-note_of-count
slice_bounds-note_of-count c = omega (arith, comment_inside c.args.comments.now c.args.pieces.now c.loop-place.place-index c.requires.comments c.loop-place-test.true)

pub slice_bounds-note_of-start : goal.slice_bounds-note_of-start
slice_bounds-note_of-start c = omega (arith, comment_inside c.args.comments.now c.args.pieces.now c.loop-place.place-index c.requires.comments c.loop-place-test.true)

pub loop-place-preserved : goal.loop-place-preserved
loop-place-preserved c =
    noted_more c.args.pieces.now c.args.comments.now c.loop-place.place-index _ c.note_of.result _ _ c.loop-place-test.true
    (comment_inside c.args.comments.now c.args.pieces.now c.loop-place.place-index c.requires.comments c.loop-place-test.true)
    c.note_of.ensures c.in_ok-push.ensures.items c.loop-place.invariant

pub returns : goal.returns
returns c =
    noted_notes c.loop-place.found.items c.args.comments.now c.args.pieces.now c.requires.comments
    (c.loop-place.invariant ∙ ap (noted c.args.pieces.now) (take_all c.loop-place.place-index c.args.comments.now (omega arith)))
