use Rattle.luf_interf.proofs.Picked.{barred_by_name}
use Rattle.luf_interf.proofs.label_names.is_barred_number.Goals as goal

pub returns : goal.returns
returns c = barred_by_name c.args.number c.nth-name.result c.as_slice.result.now c.is_barred.result c.nth-name.ensures.name c.as_slice.ensures c.is_barred.ensures
