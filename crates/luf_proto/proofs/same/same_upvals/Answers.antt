use Rattle.std.proofs.Common.{arith}
use Rattle.std.proofs.lemmas.Grind.{common_steps}
use Rattle.std.proofs.lemmas.Slice.Eq.{slice_eq-Decides}
use Rattle.luf_proto.proofs.same.same_upvals.Goals as goal

pub returns : goal.returns
returns c = slice_eq-Decides (λ a b. grind (arith, common_steps)) _ _ _ c.eq.ensures
