-- The place is counted from the front.
use Rattle.std.proofs.Common.{arith}
use Rattle.luf_undump.proofs.Complete.{chunk_complete}
use Rattle.luf_undump.proofs.OneAnswer.{same_value, never_both}
use Rattle.luf_undump.proofs.Sound.{chunk_sound, refused_within}
use Rattle.luf_undump.proofs.chunk.read_chunk.Goals as goal

pub returns-in-Ok-clause-ok : goal.returns-in-Ok-clause-ok
returns-in-Ok-clause-ok c = chunk_sound _ _ c.in-Ok.ensures

pub returns-in-Ok-clause-exact : goal.returns-in-Ok-clause-exact
returns-in-Ok-clause-exact c = λ f is. same_value _ f _ c.in-Ok.ensures (chunk_complete _ f is)

pub returns-in-Err-Bad-clause-exact : goal.returns-in-Err-Bad-clause-exact
returns-in-Err-Bad-clause-exact c = λ f is. absurd (never_both f _ _ (chunk_complete _ f is) (rw c.in-Err-Bad.field-0-is at c.in-Err-Bad.ensures))

pub returns-in-Err-Bad-clause-cause : goal.returns-in-Err-Bad-clause-cause
returns-in-Err-Bad-clause-cause c =
    let is = rw c.in-Err-Bad.field-0-is at c.in-Err-Bad.ensures in
    let within = refused_within _ _ is in
    let at = c.saturating_sub.ensures in
    (c.in-Err-Bad.left, omega (arith, within, at), is)
