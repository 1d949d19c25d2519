use Rattle.luf_exact.proofs.ExactLaws as law
use Rattle.luf_exact.proofs.laws.one_cause.Goals as goal

pub returns-clause-once : goal.returns-clause-once
returns-clause-once c = law.one_cause

pub returns-clause-within : goal.returns-clause-within
returns-clause-within c = law.cause_within

pub returns-clause-no_tree : goal.returns-clause-no_tree
returns-clause-no_tree c = law.cause_no_tree
