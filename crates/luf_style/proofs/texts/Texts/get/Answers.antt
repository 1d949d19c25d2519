use Rattle.std.proofs.Common.{◌≤◌, ◌-◌, [], ap, sym, ◌∙◌, drop, get_or, length, take, arith}
use Rattle.std.proofs.lemmas.List.{length-take}
use Rattle.luf_style.proofs.TextsLaws.{no_text, text_first, text_behind, first_end, ends_rise}
use Rattle.luf_style.proofs.texts.Texts.get.Goals as goal

pub returns-then-n-len : goal.returns-then-n-len
returns-then-n-len c = sym (no_text 0 c.self.inside.ends.items c.self.inside.bytes.items c.args.n (omega (arith, c.if-n-len.true, c.len.ensures))) ∙ ap (λ ts. get_or ts c.args.n []) c.self.view_is

pub slice_bounds-result-end-then-n-eq0 : goal.slice_bounds-result-end-then-n-eq0
slice_bounds-result-end-then-n-eq0 c =
    let bytes = c.self.inside.bytes.items in
    let fits : c.index.result.now ≤ length bytes = first_end c.self.inside.ends.items (length bytes) c.index.result.now c.self.invariant (omega (arith, c.if-n-len.false, c.len.ensures)) c.index.ensures in
    let same = ap length c.deref.ensures.value in
    omega (arith, fits, same, length-take c.index.result.now c.deref.result.now)

pub returns-then-n-eq0 : goal.returns-then-n-eq0
returns-then-n-eq0 c =
    ap (take c.index.result.now) c.deref.ensures.value
    ∙ text_first c.self.inside.ends.items c.self.inside.bytes.items c.args.n c.index.result.now (omega (arith, c.if-n-eq0.true)) (omega (arith, c.if-n-len.false, c.len.ensures)) c.index.ensures
    ∙ ap (λ ts. get_or ts c.args.n []) c.self.view_is

pub slice_bounds-result-count : goal.slice_bounds-result-count
slice_bounds-result-count c =
    (ends_rise c.self.inside.ends.items (length c.self.inside.bytes.items) c.args.n c.index-2.result.now c.index-3.result.now c.self.invariant (omega (arith, c.if-n-eq0.false)) (omega (arith, c.if-n-len.false, c.len.ensures)) c.index-2.ensures c.index-3.ensures).0

pub slice_bounds-result-start : goal.slice_bounds-result-start
slice_bounds-result-start c =
    let rise = ends_rise c.self.inside.ends.items (length c.self.inside.bytes.items) c.args.n c.index-2.result.now c.index-3.result.now c.self.invariant (omega (arith, c.if-n-eq0.false)) (omega (arith, c.if-n-len.false, c.len.ensures)) c.index-2.ensures c.index-3.ensures in
    let first = rise.0 in
    let second = rise.1 in
    let same = ap length c.deref-2.ensures.value in
    omega (arith, first, second, same)

pub slice_bounds-result-end-2 : goal.slice_bounds-result-end-2
slice_bounds-result-end-2 c =
    let rise = ends_rise c.self.inside.ends.items (length c.self.inside.bytes.items) c.args.n c.index-2.result.now c.index-3.result.now c.self.invariant (omega (arith, c.if-n-eq0.false)) (omega (arith, c.if-n-len.false, c.len.ensures)) c.index-2.ensures c.index-3.ensures in
    let first = rise.0 in
    let second = rise.1 in
    let same = ap length c.deref-2.ensures.value in
    omega (arith, first, second, same)

pub returns : goal.returns
returns c =
    ap (λ bs. take (c.index-3.result.now - c.index-2.result.now) (drop c.index-2.result.now bs)) c.deref-2.ensures.value
    ∙ text_behind c.self.inside.ends.items c.self.inside.bytes.items c.args.n c.index-2.result.now c.index-3.result.now (omega (arith, c.if-n-eq0.false)) (omega (arith, c.if-n-len.false, c.len.ensures)) c.index-2.ensures c.index-3.ensures
    ∙ ap (λ ts. get_or ts c.args.n []) c.self.view_is
