use Rattle.std.proofs.Common.{◌≡◌, drop, Some, ap, sym, ◌∙◌, arith}
use Rattle.luf_str.specs.inner.Reading.{escape_at}
use Rattle.luf_str.proofs.FrontLaws.{escape_front, bad_front}
use Rattle.luf_str.proofs.fronts.front_of.Goals as goal
use Rattle.luf_str.proofs.fronts.front_of.Goals.{In-Some}

read : (c : In-Some) → escape_at (drop 1 c.args.text.now) ≡ Some (c.in-Some.length, c.in-Some.meaning)
read c = ap escape_at (sym c.tail.ensures) ∙ sym c.in-Some.ensures

pub overflow_add-result : goal.overflow_add-result
overflow_add-result c =
    let within = (escape_front c.args.quote c.args.text.now _ _ c.if-first-ne92.false (read ((goal.at.overflow_add-result c).In-Some))).1 in omega arith

pub returns-in-Some : goal.returns-in-Some
returns-in-Some c = escape_front c.args.quote c.args.text.now _ _ c.if-first-ne92.false (read ((goal.at.returns-in-Some c).In-Some))

pub returns-in-None-2 : goal.returns-in-None-2
returns-in-None-2 c = bad_front c.args.quote c.args.text.now c.if-first-ne92.false c.if-text-eq1.false (ap escape_at (sym c.tail.ensures) ∙ sym c.in-None-2.ensures)
