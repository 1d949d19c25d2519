use Rattle.std.proofs.Common.{◌≡◌, ◌+◌, ◌-◌, length, take, drop, ℕ, List, ap, ◌∙◌, arith, length-drop}
use Rattle.luf_str.proofs.LongLaws.{level_fits}
use Rattle.luf_str.proofs.values.long_body.Goals as goal

pub overflow_add-bracket : goal.overflow_add-bracket
overflow_add-bracket c = let fits = (level_fits c.args.spelling.now _ _ c.requires c.tail.ensures c.leading_equals-bracket.ensures.count).0 in omega arith

pub tail-inner-requires : goal.tail-inner-requires
tail-inner-requires c = let fits = (level_fits c.args.spelling.now _ _ c.requires c.tail.ensures c.leading_equals-bracket.ensures.count).0 in omega arith

pub overflow_sub-inner : goal.overflow_sub-inner
overflow_sub-inner c =
    let fits = (level_fits c.args.spelling.now _ _ c.requires c.tail.ensures c.leading_equals-bracket.ensures.count).0 in
    omega (arith, ap length c.tail-inner.ensures, length-drop (c.leading_equals-bracket.result + 2) c.args.spelling.now)

pub returns : goal.returns
returns c = λ n body long.
    let bracket : ℕ = c.leading_equals-bracket.result + 2 in
    let spelling : List ℕ = c.args.spelling.now in
    let short : length c.tail-inner.result.now ≡ length spelling - bracket = ap length c.tail-inner.ensures ∙ length-drop bracket spelling in
    c.head.ensures ∙ ap (λ t. take (length c.tail-inner.result.now - bracket) t) c.tail-inner.ensures ∙ ap (λ k. take (k - bracket) (drop bracket spelling)) short
    ∙ (level_fits spelling _ _ c.requires c.tail.ensures c.leading_equals-bracket.ensures.count).1 n body long
