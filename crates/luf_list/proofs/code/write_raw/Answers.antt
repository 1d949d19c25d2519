use Rattle.luf_list.proofs.Kept.{kept_behind, on_err}
use Rattle.luf_list.proofs.code.write_raw.Goals as goal

pub returns-in_err-write_hex-clause-err : goal.returns-in_err-write_hex-clause-err
returns-in_err-write_hex-clause-err c =
    on_err c.from_residual-in_err-write_hex.result _ (kept_behind _ _ _ _ c.in_ok-extend_from_slice.ensures.items c.in_err-write_hex.ensures.err)
