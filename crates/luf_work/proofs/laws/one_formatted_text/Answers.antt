use Rattle.luf_work.proofs.FormatLemmas as law
use Rattle.luf_work.proofs.laws.one_formatted_text.Goals as goal

pub returns : goal.returns
returns c = law.one_formatted_text
