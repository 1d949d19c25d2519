use Rattle.luf_lex.proofs.ExactlyOne.{cut_or_fault}
use Rattle.luf_lex.proofs.OneCut.{cut_excludes_fault}
use Rattle.luf_lex.proofs.laws.one_of_cut_and_fault.Goals as goal

pub returns-clause-some : goal.returns-clause-some
returns-clause-some c = cut_or_fault

pub returns-clause-never_both : goal.returns-clause-never_both
returns-clause-never_both c = cut_excludes_fault
