use Rattle.std.proofs.Common.{subst, arith}
use Rattle.luf_lex.specs.Cut.{IsCause}
use Rattle.luf_work.proofs.source.pieces_of.Goals as goal

pub place_of-requires-clause-within : goal.place_of-requires-clause-within
place_of-requires-clause-within c = omega (arith, (subst (IsCause c.args.src.now) c.in-Err-Bad.field-0-is c.in-Err-Bad.ensures.bad).inside)
