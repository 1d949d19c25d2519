use Rattle.std.proofs.Common.{◌≡◌, ◌+◌, ◌++◌, ◌∷◌, [], length, take, drop, ℕ, List, ap, ◌∙◌, arith}
use Rattle.luf_str.specs.inner.Reading.{unit_length}
use Rattle.luf_str.specs.Requote.{quote_byte, requoted_unit}
use Rattle.luf_str.proofs.InPlace.{appended}
use Rattle.luf_str.proofs.Requoting.{quote_byte_is_quote}
use Rattle.luf_str.proofs.UnitReading.{cut_starts, cut_goes_on, cut_ends, run_cut}
use Rattle.luf_str.proofs.quoting.push_short.Goals as goal

-- the byte that was pushed is this one
pushed_as : (old new : List ℕ) (b q : ℕ) → new ≡ old ++ b ∷ [] → b ≡ q → new ≡ old ++ q ∷ []
pushed_as old new b q e is = e ∙ ap (λ x. old ++ x ∷ []) is

pub head-requires : goal.head-requires
head-requires c =
    let step = cut_goes_on _ _ c.args.spelling.now c.loop-at.at c.unit_length-length.result _ c.loop-at.invariant.1.1 c.loop-at-test.true (c.unit_length-length.ensures ∙ ap unit_length c.tail-rest.ensures) in
    omega (arith, step.0, ap length c.tail-rest.ensures)

pub loop-at-init : goal.loop-at-init
loop-at-init c =
    let spelling : List ℕ = c.args.spelling.now in
    let q : ℕ = quote_byte c.args.quotes in
    let n : ℕ = c.in_ok-at.field-0 in
    let run : List ℕ = take n c.tail.result.now in
    let start = run_cut _ q spelling 1 n (q ∷ []) c.tail.result.now (quote_byte_is_quote c.args.quotes) (cut_starts q spelling c.requires) c.tail.ensures c.in_ok-at.ensures.count in
    let opened = pushed_as _ _ _ q c.in_ok-push.ensures.items c.byte.ensures in
    (start.0, (q ∷ run, start.1, appended _ (q ∷ []) _ _ run opened c.in_ok-at.ensures.ok))

pub overflow_add-at-in-loop-at : goal.overflow_add-at-in-loop-at
overflow_add-at-in-loop-at c =
    let step = cut_goes_on _ _ c.args.spelling.now c.loop-at.at c.unit_length-length.result _ c.loop-at.invariant.1.1 c.loop-at-test.true (c.unit_length-length.ensures ∙ ap unit_length c.tail-rest.ensures) in
    omega (arith, step.2)

pub tail-requires-in-loop-at : goal.tail-requires-in-loop-at
tail-requires-in-loop-at c =
    let step = cut_goes_on _ _ c.args.spelling.now c.loop-at.at c.unit_length-length.result _ c.loop-at.invariant.1.1 c.loop-at-test.true (c.unit_length-length.ensures ∙ ap unit_length c.tail-rest.ensures) in
    omega (arith, step.2)

pub overflow_add-at-in-loop-at-2 : goal.overflow_add-at-in-loop-at-2
overflow_add-at-in-loop-at-2 c =
    let at : ℕ = c.loop-at.at + c.unit_length-length.result in
    let step = cut_goes_on _ _ c.args.spelling.now c.loop-at.at c.unit_length-length.result _ c.loop-at.invariant.1.1 c.loop-at-test.true (c.unit_length-length.ensures ∙ ap unit_length c.tail-rest.ensures) in
    let behind = run_cut _ _ c.args.spelling.now at c.in_ok-at-2.field-0 _ c.tail-in-loop-at.result.now (quote_byte_is_quote c.args.quotes) step.3 c.tail-in-loop-at.ensures c.in_ok-at-2.ensures.count in
    omega (arith, behind.0)

pub loop-at-preserved : goal.loop-at-preserved
loop-at-preserved c =
    let spelling : List ℕ = c.args.spelling.now in
    let q : ℕ = quote_byte c.args.quotes in
    let n : ℕ = c.unit_length-length.result in
    let rest : List ℕ = drop c.loop-at.at spelling in
    let state = c.loop-at.invariant.1 in
    let step = cut_goes_on _ _ spelling c.loop-at.at n _ state.1 c.loop-at-test.true (c.unit_length-length.ensures ∙ ap unit_length c.tail-rest.ensures) in
    let new : List ℕ = requoted_unit q (take n rest) in
    let unit : c.head.result.now ≡ take n rest = c.head.ensures ∙ ap (take n) c.tail-rest.ensures in
    let pushed : c.push_unit.new.into.items ≡ c.loop-at.into.items ++ new = c.in_ok-push_unit.ensures.ok ∙ ap (λ u. c.loop-at.into.items ++ requoted_unit q u) unit in
    let done : List ℕ = state.0 ++ new in
    let m : ℕ = c.in_ok-at-2.field-0 in
    let run : List ℕ = take m c.tail-in-loop-at.result.now in
    let behind = run_cut _ q spelling (c.loop-at.at + n) m done c.tail-in-loop-at.result.now (quote_byte_is_quote c.args.quotes) step.3 c.tail-in-loop-at.ensures c.in_ok-at-2.ensures.count in
    (behind.0, (done ++ run, behind.1, appended _ done _ _ run (appended _ state.0 _ _ new state.2 pushed) c.in_ok-at-2.ensures.ok))

pub returns-clause-ok : goal.returns-clause-ok
returns-clause-ok c =
    let state = c.loop-at.invariant.1 in
    let close : List ℕ = quote_byte c.args.quotes ∷ [] in
    let pushed = pushed_as _ _ _ _ c.in_ok-push-2.ensures.items c.byte-2.ensures in
    (state.0 ++ close, cut_ends _ _ c.args.spelling.now c.loop-at.at state.0 state.1 c.loop-at-test.false, appended _ state.0 _ _ close state.2 pushed)
