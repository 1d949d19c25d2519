use Rattle.std.proofs.Common.{arith}
use Rattle.luf_lex.proofs.SpellingLemmas.{span_within, spelling_from}
use Rattle.luf_style.proofs.writing.short_spelling.Goals as goal

pub slice_bounds-result-count : goal.slice_bounds-result-count
slice_bounds-result-count c = (span_within c.args.src.now c.args.cut.now c.args.n c.in_ok-span.span c.requires c.in_ok-span.ensures).0

pub slice_bounds-result-start : goal.slice_bounds-result-start
slice_bounds-result-start c =
    let inside = span_within c.args.src.now c.args.cut.now c.args.n c.in_ok-span.span c.requires c.in_ok-span.ensures in
    omega arith

pub slice_bounds-result-end : goal.slice_bounds-result-end
slice_bounds-result-end c =
    let inside = span_within c.args.src.now c.args.cut.now c.args.n c.in_ok-span.span c.requires c.in_ok-span.ensures in
    omega arith

pub returns-clause-spelling : goal.returns-clause-spelling
returns-clause-spelling c = spelling_from c.args.src.now c.args.cut.now c.args.n _ c.in_ok-span.ensures
