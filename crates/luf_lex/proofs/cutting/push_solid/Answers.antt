use Rattle.luf_lex.proofs.CutLemmas.{pushed_first}
use Rattle.luf_lex.proofs.cutting.push_solid.Goals as goal

pub returns-in_ok-push-in-Ok-clause-pushed : goal.returns-in_ok-push-in-Ok-clause-pushed
returns-in_ok-push-in-Ok-clause-pushed c = record {
  kind = c.in-Ok.kind;
  pieces = c.in_ok-push-in-Ok.ensures.pieces;
  first = pushed_first c.args.src.now c.args.at c.in-Ok.kind c.in-Ok.len c.in-Ok.ensures;
}
