use Rattle.std.proofs.Common.{◌≡◌, ◌++◌, drop, true}
use Rattle.luf_lex.specs.declared.token.Sign.TheVariants.{Comma}
use Rattle.luf_min.specs.declared.item.Item.TheVariants.{Sign}
use Rattle.luf_min.specs.inner.Listed.{listed, declared_item}
use Rattle.luf_min.proofs.lists.add_all_declared.Given as goal

abbrev pub invariant-loop-d : goal.invariant-loop-d
invariant-loop-d l = l.into.items ++ listed (Sign Comma) declared_item l.first (drop l.d-index l.names) ≡ l.fn.into.items ++ listed (Sign Comma) declared_item true l.names
