use Rattle.std.proofs.Common.{arith}
use Rattle.luf_lex.proofs.SpellingLemmas.{span_within, spelling_from}
use Rattle.luf_lex.proofs.pieces.Cut.spelling.Goals as goal

pub slice_bounds-result-count : goal.slice_bounds-result-count
slice_bounds-result-count c = (span_within c.args.src.now c.args.self.now c.args.n c.in_ok-span.span c.requires c.in_ok-span.ensures).0

pub slice_bounds-result-start : goal.slice_bounds-result-start
slice_bounds-result-start c =
    let inside = span_within c.args.src.now c.args.self.now c.args.n c.in_ok-span.span c.requires c.in_ok-span.ensures in
    omega arith

pub slice_bounds-result-end : goal.slice_bounds-result-end
slice_bounds-result-end c =
    let inside = span_within c.args.src.now c.args.self.now c.args.n c.in_ok-span.span c.requires c.in_ok-span.ensures in
    omega arith

pub returns : goal.returns
returns c = spelling_from c.args.src.now c.args.self.now c.args.n _ c.in_ok-span.ensures
