use Rattle.luf_min.proofs.MinifiedUnder.{minified_under}
use Rattle.luf_work.proofs.MinifyLemmas.{said_otherwise}
use Rattle.luf_work.proofs.minify.write_text.Goals as goal

pub returns-clause-ok : goal.returns-clause-ok
returns-clause-ok c =
    let source = c.args.source in
    said_otherwise c.minify.result (λ w. (w.0, minified_under c.args.src.now source.source.pieces source.source.chunk c.in_ok-names.names w.0 c.requires.is.is c.in_ok-names.ensures w.1, w.2)) c.minify.ensures.ok
