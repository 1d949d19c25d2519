use Rattle.luf_draft.proofs.StatementLaws.{paren_is}
use Rattle.luf_draft.proofs.starts.opens_statement.Goals as goal

pub returns : goal.returns
returns c = paren_is _ _ _ c.is_paren.ensures c.statement_start.ensures
