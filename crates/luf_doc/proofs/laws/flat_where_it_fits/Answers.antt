use Rattle.luf_doc.proofs.LayoutLaws.{fits}
use Rattle.luf_doc.proofs.laws.flat_where_it_fits.Goals as goal

pub returns : goal.returns
returns c = fits
