use Rattle.std.proofs.Common.{refl}
use Rattle.luf_style.proofs.TextLaws.{none_before, none_behind, token_text, is_nothing, is_something}
use Rattle.luf_style.proofs.word.needs_blank.Goals as goal

pub returns-then-is_empty-clause-exact : goal.returns-then-is_empty-clause-exact
returns-then-is_empty-clause-exact c = (λ t. none_before _ _ (is_nothing c.args.before.now _ c.is_empty.ensures c.if-is_empty.true), λ n. refl)

pub returns-then-is_empty-2-clause-exact : goal.returns-then-is_empty-2-clause-exact
returns-then-is_empty-2-clause-exact c = (λ t. none_behind _ _ (is_nothing c.args.after.now _ c.is_empty-2.ensures c.if-is_empty-2.true), λ n. refl)

pub needs_space-requires-clause-left : goal.needs_space-requires-clause-left
needs_space-requires-clause-left c = token_text _ c.requires.before (is_something c.args.before.now _ c.is_empty.ensures c.if-is_empty.false)

pub needs_space-requires-clause-right : goal.needs_space-requires-clause-right
needs_space-requires-clause-right c = token_text _ c.requires.after (is_something c.args.after.now _ c.is_empty-2.ensures c.if-is_empty-2.false)
