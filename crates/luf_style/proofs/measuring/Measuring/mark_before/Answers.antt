-- The mark at a place stands before what is measured behind it; where it is a gap, some gap is left.
use Rattle.std.proofs.Common.{ap, sym, ◌∙◌, arith}
use Rattle.luf_draft.specs.Flat.{flat_close, flat_gap, flat_open, flat_trail, flat_word, gap_of_kind, shown}
use Rattle.luf_style.proofs.MeasureSteps.{mark_at, gap_left, word_shown, word_mark, gap_mark, trail_mark, open_mark, close_mark}
use Rattle.luf_style.proofs.measuring.Measuring.mark_before.Goals as goal

pub overflow_sub-left : goal.overflow_sub-left
overflow_sub-left c =
    let here = mark_at c.args.written.now c.args.marks.now c.args.n (flat_gap (gap_of_kind c.in-Gap.field-0)) c.requires.within (ap (shown c.args.written.now) c.in-Gap.is) in
    (gap_left c.args.written.now c.args.marks.now c.args.n (gap_of_kind c.in-Gap.field-0) c.args.gaps.now c.args.left c.args.self.now here c.requires.count c.requires.measured).0

pub get-requires : goal.get-requires
get-requires c =
    let here = mark_at c.args.written.now c.args.marks.now c.args.n (flat_gap (gap_of_kind c.in-Gap.field-0)) c.requires.within (ap (shown c.args.written.now) c.in-Gap.is) in
    let some = gap_left c.args.written.now c.args.marks.now c.args.n (gap_of_kind c.in-Gap.field-0) c.args.gaps.now c.args.left c.args.self.now here c.requires.count c.requires.measured in
    omega (arith, some.0, some.1)

pub overflow_sub-result : goal.overflow_sub-result
overflow_sub-result c =
    let here = mark_at c.args.written.now c.args.marks.now c.args.n (flat_gap (gap_of_kind c.in-Gap.field-0)) c.requires.within (ap (shown c.args.written.now) c.in-Gap.is) in
    (gap_left c.args.written.now c.args.marks.now c.args.n (gap_of_kind c.in-Gap.field-0) c.args.gaps.now c.args.left c.args.self.now here c.requires.count c.requires.measured).0

pub returns-in-Token : goal.returns-in-Token
returns-in-Token c =
    let here = mark_at c.args.written.now c.args.marks.now c.args.n (flat_word c.text_of.result.now) c.requires.within (word_shown c.args.written.now _ c.in-Token.is ∙ ap flat_word (sym c.text_of.ensures)) in
    word_mark _ _ c.args.gaps.now c.args.left c.args.self.now c.text_before.new.self c.text_of.result.now here c.requires.measured c.text_before.ensures

pub returns-in-Gap : goal.returns-in-Gap
returns-in-Gap c =
    let here = mark_at c.args.written.now c.args.marks.now c.args.n (flat_gap (gap_of_kind c.in-Gap.field-0)) c.requires.within (ap (shown c.args.written.now) c.in-Gap.is) in
    let some = gap_left c.args.written.now c.args.marks.now c.args.n (gap_of_kind c.in-Gap.field-0) c.args.gaps.now c.args.left c.args.self.now here c.requires.count c.requires.measured in
    gap_mark _ _ c.args.gaps.now c.args.left c.args.self.now c.gap_before.new.self (gap_of_kind c.in-Gap.field-0) c.get.result.now here some
    c.get.ensures c.requires.measured c.gap_before.ensures

pub returns-in-Trail : goal.returns-in-Trail
returns-in-Trail c =
    trail_mark _ _ c.args.gaps.now c.args.left c.args.self.now c.trail_before.new.self
    (mark_at c.args.written.now c.args.marks.now c.args.n flat_trail c.requires.within (ap (shown c.args.written.now) c.in-Trail.is)) c.requires.measured c.trail_before.ensures

pub returns-in_ok-open_before-in-Open : goal.returns-in_ok-open_before-in-Open
returns-in_ok-open_before-in-Open c =
    open_mark _ _ c.args.gaps.now c.args.left c.args.self.now c.open_before.new.self c.in-Open.part
    (mark_at c.args.written.now c.args.marks.now c.args.n (flat_open c.in-Open.part) c.requires.within (ap (shown c.args.written.now) c.in-Open.is)) c.requires.measured c.in_ok-open_before-in-Open.ensures

pub returns-in_ok-close_before-in-Close : goal.returns-in_ok-close_before-in-Close
returns-in_ok-close_before-in-Close c =
    close_mark _ _ c.args.gaps.now c.args.left c.args.self.now c.close_before.new.self
    (mark_at c.args.written.now c.args.marks.now c.args.n flat_close c.requires.within (ap (shown c.args.written.now) c.in-Close.is)) c.requires.measured c.in_ok-close_before-in-Close.ensures
