use Rattle.luf_lex.proofs.CutLemmas.{blanks_cut, blanks_stop}
use Rattle.luf_lex.proofs.cutting.behind_blanks.Goals as goal

pub returns-clause-cut : goal.returns-clause-cut
returns-clause-cut c = blanks_cut c.args.src.now c.args.at c.blank_run.result c.blank_run.ensures.run

pub returns-clause-stops : goal.returns-clause-stops
returns-clause-stops c = blanks_stop c.args.src.now c.args.at c.blank_run.result c.blank_run.ensures.run
