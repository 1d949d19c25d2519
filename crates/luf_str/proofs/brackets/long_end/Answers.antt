use Rattle.std.proofs.Common.{◌≡◌, ℕ, ◌+◌, ◌≤◌, true, List, ◌++◌, length, drop, sym, ap, subst, ◌∙◌, arith, length-drop}
use Rattle.std.specs.List.{prefix_len}
use Rattle.std.specs.Prelude.{◌==◌}
use Rattle.std.proofs.lemmas.Bool.{false≢true}
use Rattle.luf_str.specs.Spelling.{opening}
use Rattle.luf_str.specs.LongEnd.{opens_long}
use Rattle.luf_str.proofs.BracketLaws.{NoneBelow, bracket_cut, none_found, none_here, closed_at, never_closed}
use Rattle.luf_str.proofs.brackets.long_end.Goals as goal

-- the text is the opening bracket and what stands behind it
cut : (text rest inner : List ℕ) (level : ℕ) → opens_long text ≡ true → rest ≡ drop 1 text → level ≡ prefix_len (λ b. b == 61) rest → inner ≡ drop (level + 2) text → text ≡ opening level ++ inner
cut text rest inner level opens behind count is =
    bracket_cut text level opens (count ∙ ap (prefix_len (λ b. b == 61)) behind) ∙ ap (λ t. opening level ++ t) (sym is)

pub returns-in_default : goal.returns-in_default
returns-in_default c =
    let text : List ℕ = c.args.text.now in
    let level : ℕ = c.leading_equals-level.result in
    let inner : List ℕ = c.tail-inner.result.now in
    let hay : List ℕ = c.tail-in-closings.result.now in
    let e = cut text c.tail.result.now inner level c.requires c.tail.ensures c.leading_equals-level.ensures.count c.tail-inner.ensures in
    let none = none_found level inner hay c.closings.at (length hay) c.tail-in-closings.ensures c.closings.invariant.1 c.in_default.ensures in
    let all : c.closings.at + length hay ≡ length inner = omega (arith, ap length c.tail-in-closings.ensures, length-drop c.closings.at inner, c.closings.invariant.0) in
    never_closed text inner level c.requires e (subst (NoneBelow level inner) all none)

pub returns-then-closes : goal.returns-then-closes
returns-then-closes c =
    let text : List ℕ = c.args.text.now in
    let level : ℕ = c.leading_equals-level.result in
    let inner : List ℕ = c.tail-inner.result.now in
    let e = cut text c.tail.result.now inner level c.requires c.tail.ensures c.leading_equals-level.ensures.count c.tail-inner.ensures in
    let found = c.in-Some.ensures in
    let none = none_found level inner _ c.closings.at c.in-Some.passed c.tail-in-closings.ensures c.closings.invariant.1 found.0.before in
    let closes = c.closes.ensures.0 c.if-closes.true in
    let within : c.closings.at + c.in-Some.passed ≤ length inner = omega (arith, found.0.high, ap length c.tail-in-closings.ensures, length-drop c.closings.at inner, c.closings.invariant.0) in
    closed_at text inner closes.0 level (c.closings.at + c.in-Some.passed) e within (sym c.tail-in-closings-2.ensures ∙ closes.1) none

pub closings-preserved : goal.closings-preserved
closings-preserved c =
    let level : ℕ = c.leading_equals-level.result in
    let inner : List ℕ = c.tail-inner.result.now in
    let found = c.in-Some.ensures in
    let none = none_found level inner _ c.closings.at c.in-Some.passed c.tail-in-closings.ensures c.closings.invariant.1 found.0.before in (
      omega (arith, found.0.high, ap length c.tail-in-closings.ensures, length-drop c.closings.at inner, c.closings.invariant.0),
      none_here level inner (c.closings.at + c.in-Some.passed) none (λ behind is. false≢true (sym c.if-closes.false ∙ c.closes.ensures.1 (behind, c.tail-in-closings-2.ensures ∙ is))),
    )
