use Rattle.luf_list.proofs.Kept.{kept_on_err}
use Rattle.luf_list.proofs.constants.write_constant.Goals as goal

pub returns-in-Word-clause-err : goal.returns-in-Word-clause-err
returns-in-Word-clause-err c = kept_on_err c.write_hex.result _ _ _ _ c.in_ok-extend_from_slice-in-Word.ensures.items c.write_hex.ensures.err
