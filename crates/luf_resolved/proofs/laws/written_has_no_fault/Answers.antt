use Rattle.luf_resolved.proofs.WrittenFaults as law
use Rattle.luf_resolved.proofs.laws.written_has_no_fault.Goals as goal

pub returns : goal.returns
returns c = law.written_has_no_fault
