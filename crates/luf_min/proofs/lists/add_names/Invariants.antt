use Rattle.std.proofs.Common.{◌≡◌, ◌++◌, drop, true}
use Rattle.luf_lex.specs.declared.token.Sign.TheVariants.{Comma}
use Rattle.luf_min.specs.declared.item.Item.TheVariants.{Sign}
use Rattle.luf_min.specs.inner.Listed.{listed, token_item}
use Rattle.luf_min.proofs.lists.add_names.Given as goal

abbrev pub invariant-loop-name : goal.invariant-loop-name
invariant-loop-name l = l.into.items ++ listed (Sign Comma) token_item l.first (drop l.name-index l.names) ≡ l.fn.into.items ++ listed (Sign Comma) token_item true l.names
