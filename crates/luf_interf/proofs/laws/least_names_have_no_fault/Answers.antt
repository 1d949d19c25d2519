use Rattle.luf_interf.proofs.Faults as law
use Rattle.luf_interf.proofs.laws.least_names_have_no_fault.Goals as goal

pub returns : goal.returns
returns c = law.least_names_have_no_fault
