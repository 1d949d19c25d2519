use Rattle.std.proofs.Common.{refl, arith}
use Rattle.std.proofs.lemmas.Result.{IfOk-weaker}
use Rattle.luf_doc.specs.Document.{document_of}
use Rattle.luf_style.proofs.StyleLaws.{is_styled, is_small}
use Rattle.luf_style.proofs.WrittenLaws.{written_texts}
use Rattle.luf_style.proofs.styling.style.Goals as goal

pub fill-requires : goal.fill-requires
fill-requires c = written_texts c.args.src.now c.args.cut.now c.requires.cut c.args.o.now.quotes c.in_ok-written.written c.in_ok-written.ensures

pub returns-clause-ok : goal.returns-clause-ok
returns-clause-ok c =
    IfOk-weaker c.fill.result _ _
    (λ d h. is_styled c.args.src.now c.args.cut.now c.args.c.now c.args.o.now c.requires.cut c.requires.tree c.in_ok-written.written c.in_ok-written.written c.in_ok-found.found.items c.as_slice.result.now
    c.in_ok-left.left.items (document_of d) c.in_ok-written.ensures refl c.as_slice.ensures.value c.in_ok-found.ensures c.in_ok-left.ensures h)
    c.fill.ensures

pub returns-clause-small : goal.returns-clause-small
returns-clause-small c =
    IfOk-weaker c.fill.result _ _
    (λ d h. is_small c.args.src.now c.args.cut.now c.args.c.now c.args.o.now c.requires.cut c.requires.tree c.in_ok-written.written c.in_ok-written.written c.in_ok-found.found.items c.as_slice.result.now
    c.in_ok-left.left.items (document_of d) c.in_ok-written.ensures refl c.as_slice.ensures.value c.in_ok-found.ensures c.in_ok-left.ensures h
    (omega (arith, c.if-len-gt-MOST_MARKS.false, c.len.ensures, c.in_ok-found.found.ok)))
    c.fill.ensures
