use Rattle.std.proofs.Common.{subst, sym, arith}
use Rattle.luf_lex.specs.Tokens.{toks_of, spellings_of}
use Rattle.luf_style.specs.Styled.{AreWritten}
use Rattle.luf_style.specs.inner.Written.{quote_in}
use Rattle.luf_style.proofs.MadeLaws.{made_all, made_first, made_more}
use Rattle.luf_style.proofs.WrittenLaws.{as_many}
use Rattle.luf_style.proofs.writing.write_tokens.Goals as goal

pub loop-n-init : goal.loop-n-init
loop-n-init c = made_first (quote_in c.args.style) (toks_of c.args.cut.now) (spellings_of c.args.src.now c.args.cut.now) _ c.in_ok-made.ensures

pub make_text-requires-clause-few : goal.make_text-requires-clause-few
make_text-requires-clause-few c = c.loop-n.invariant.few

pub loop-n-preserved : goal.loop-n-preserved
loop-n-preserved c =
    made_more (quote_in c.args.style) (toks_of c.args.cut.now) (spellings_of c.args.src.now c.args.cut.now) c.loop-n.made c.make_text.new.into c.loop-n.n c.loop-n.invariant c.in_ok-make_text.ensures

pub returns : goal.returns
returns c =
    let count = c.tokens-n-end.ensures.count in
    subst (AreWritten (quote_in c.args.style) (toks_of c.args.cut.now) (spellings_of c.args.src.now c.args.cut.now)) (sym c.new-2.ensures)
    (made_all (quote_in c.args.style) (toks_of c.args.cut.now) (spellings_of c.args.src.now c.args.cut.now) c.loop-n.made c.loop-n.n c.loop-n.invariant (omega arith) (as_many c.args.src.now c.args.cut.now))
