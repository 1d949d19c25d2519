use Rattle.luf_draft.proofs.Added.{ends, then, all_of, lent, lent_on}
use Rattle.luf_draft.proofs.ListedLaws.{parameters_are}
use Rattle.luf_draft.specs.inner.Runs.{no_parameters, parameters_opened, parameters_closed}
use Rattle.luf_draft.proofs.lists.add_parameters.Goals as goal

pub returns : goal.returns
returns c = all_of _ _ _ _ _ (parameters_are c.args.names.now c.args.vararg) (then _ _ _ _ _ _ (lent_on parameters_opened (no_parameters c.args.names.now c.args.vararg) _ _ _ c.has_none-none.ensures c.in_ok-open_parameters.ensures) (then _ _ _ _ _ _ c.in_ok-add_names.ensures (then _ _ _ _ _ _ c.in_ok-add_dots.ensures (ends _ _ _ _ (lent parameters_closed (no_parameters c.args.names.now c.args.vararg) _ _ _ _ c.has_none-none.ensures c.close_parameters.ensures)))))
