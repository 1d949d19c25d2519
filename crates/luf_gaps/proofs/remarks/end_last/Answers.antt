use Rattle.luf_gaps.proofs.ReadingLaws.{ended}
use Rattle.luf_gaps.proofs.remarks.end_last.Goals as goal

pub returns-in_ok-push-in-Some : goal.returns-in_ok-push-in-Some
returns-in_ok-push-in-Some c = ended _ _ _ _ _ c.in-Some.ensures c.ending.ensures c.in_ok-push-in-Some.ensures.ok
