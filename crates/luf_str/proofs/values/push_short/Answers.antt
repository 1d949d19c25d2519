use Rattle.std.proofs.Common.{◌≡◌, ◌+◌, ◌++◌, ℕ, List, take, sym, subst, ◌∙◌}
use Rattle.luf_str.specs.Meaning.{bytes_of}
use Rattle.luf_str.specs.Value.{FirstBad}
use Rattle.luf_str.proofs.InPlace.{appended}
use Rattle.luf_str.proofs.PartLaws.{run_read, part_read, ends, is_bad, stays_open, short_is_not_open}
use Rattle.luf_str.proofs.values.push_short.Goals as goal

pub parts-preserved : goal.parts-preserved
parts-preserved c =
    let spelling : List ℕ = c.args.spelling.now in
    let n : ℕ = c.in_ok-at.field-0 in
    let run : List ℕ = take n c.tail.result.now in
    let state = c.parts.invariant.1 in
    let done : List ℕ = state.0 ++ run in
    let value : List ℕ = bytes_of c.in-Part.meaning in
    let here = run_read _ spelling c.parts.at state.0 c.tail.result.now n state.1 c.parts.invariant.0 c.tail.ensures c.in_ok-at.ensures.count in
    let more = part_read _ spelling (c.parts.at + n) done c.tail-in-parts.result.now c.in-Part.length c.in-Part.meaning here.1 here.0 c.tail-in-parts.ensures c.in-Part.ensures in
    let pushed = appended _ state.0 _ _ run state.2 c.in_ok-at.ensures.ok in
    (more.0, (done ++ value, more.1, appended _ done _ _ value pushed c.in_ok-push_meaning-in-Part.ensures.ok))

pub returns-in-Quote-clause-ok : goal.returns-in-Quote-clause-ok
returns-in-Quote-clause-ok c =
    let spelling : List ℕ = c.args.spelling.now in
    let n : ℕ = c.in_ok-at.field-0 in
    let run : List ℕ = take n c.tail.result.now in
    let state = c.parts.invariant.1 in
    let done : List ℕ = state.0 ++ run in
    let here = run_read _ spelling c.parts.at state.0 c.tail.result.now n state.1 c.parts.invariant.0 c.tail.ensures c.in_ok-at.ensures.count in
    let value = ends _ spelling (c.parts.at + n) _ done c.in-Quote.ensures.0 c.requires.short here.1 (sym c.tail-in-parts.ensures ∙ c.in-Quote.ensures.1) in
    (done, value, appended _ state.0 _ _ run state.2 c.in_ok-at.ensures.ok)

pub unreachable-requires : goal.unreachable-requires
unreachable-requires c =
    let spelling : List ℕ = c.args.spelling.now in
    let n : ℕ = c.in_ok-at.field-0 in
    let state = c.parts.invariant.1 in
    let here = run_read _ spelling c.parts.at state.0 c.tail.result.now n state.1 c.parts.invariant.0 c.tail.ensures c.in_ok-at.ensures.count in
    short_is_not_open spelling c.requires.short (stays_open _ spelling (c.parts.at + n) c.tail-in-parts.result.now _ c.front_of.result here.1 c.tail-in-parts.ensures c.front_of.ensures c.in-LoneBackslash.is)

pub returns-in-BadEscape-clause-bad : goal.returns-in-BadEscape-clause-bad
returns-in-BadEscape-clause-bad c = λ at is.
    let spelling : List ℕ = c.args.spelling.now in
    let n : ℕ = c.in_ok-at.field-0 in
    let state = c.parts.invariant.1 in
    let here = run_read _ spelling c.parts.at state.0 c.tail.result.now n state.1 c.parts.invariant.0 c.tail.ensures c.in_ok-at.ensures.count in
    let bad = c.in-BadEscape.ensures in
    let same : c.parts.at + n ≡ at = cc in
    subst (FirstBad spelling) same (is_bad _ spelling (c.parts.at + n) _ _ bad.0 here.1 (sym c.tail-in-parts.ensures ∙ bad.1) bad.2)
