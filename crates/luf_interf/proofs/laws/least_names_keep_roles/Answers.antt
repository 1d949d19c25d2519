use Rattle.luf_interf.proofs.Roles as law
use Rattle.luf_interf.proofs.laws.least_names_keep_roles.Goals as goal

pub returns : goal.returns
returns c = law.least_names_keep_roles
