use Rattle.std.proofs.Common.{◌+◌, ◌++◌, ℕ, List, take, sym, ◌∙◌}
use Rattle.luf_str.specs.Meaning.{bytes_of}
use Rattle.luf_str.proofs.PartLaws.{run_read, part_read, closes_at, is_bad, stays_open}
use Rattle.luf_str.proofs.ends.short_end.Goals as goal

pub parts-preserved : goal.parts-preserved
parts-preserved c =
    let text : List ℕ = c.args.text.now in
    let n : ℕ = c.leading_ordinary-at.result in
    let state = c.parts.invariant.1 in
    let done : List ℕ = state.0 ++ take n c.tail.result.now in
    let here = run_read _ text c.parts.at state.0 c.tail.result.now n state.1 c.parts.invariant.0 c.tail.ensures c.leading_ordinary-at.ensures.count in
    let more = part_read _ text (c.parts.at + n) done c.tail-in-parts.result.now c.in-Part.length c.in-Part.meaning here.1 here.0 c.tail-in-parts.ensures c.in-Part.ensures in
    (more.0, (done ++ bytes_of c.in-Part.meaning, more.1))

pub returns-in-Quote : goal.returns-in-Quote
returns-in-Quote c =
    let text : List ℕ = c.args.text.now in
    let n : ℕ = c.leading_ordinary-at.result in
    let state = c.parts.invariant.1 in
    let done : List ℕ = state.0 ++ take n c.tail.result.now in
    let here = run_read _ text c.parts.at state.0 c.tail.result.now n state.1 c.parts.invariant.0 c.tail.ensures c.leading_ordinary-at.ensures.count in
    let closed = closes_at _ text (c.parts.at + n) _ done c.in-Quote.ensures.0 here.1 (sym c.tail-in-parts.ensures ∙ c.in-Quote.ensures.1) in
    (closed.0, (done, closed.1))

pub returns-in-BadEscape : goal.returns-in-BadEscape
returns-in-BadEscape c =
    let text : List ℕ = c.args.text.now in
    let n : ℕ = c.leading_ordinary-at.result in
    let state = c.parts.invariant.1 in
    let here = run_read _ text c.parts.at state.0 c.tail.result.now n state.1 c.parts.invariant.0 c.tail.ensures c.leading_ordinary-at.ensures.count in
    let bad = c.in-BadEscape.ensures in
    is_bad _ text (c.parts.at + n) _ _ bad.0 here.1 (sym c.tail-in-parts.ensures ∙ bad.1) bad.2

pub returns-in-LoneBackslash : goal.returns-in-LoneBackslash
returns-in-LoneBackslash c =
    let text : List ℕ = c.args.text.now in
    let n : ℕ = c.leading_ordinary-at.result in
    let state = c.parts.invariant.1 in
    let here = run_read _ text c.parts.at state.0 c.tail.result.now n state.1 c.parts.invariant.0 c.tail.ensures c.leading_ordinary-at.ensures.count in
    stays_open _ text (c.parts.at + n) c.tail-in-parts.result.now _ c.front_of.result here.1 c.tail-in-parts.ensures c.front_of.ensures c.in-LoneBackslash.is
