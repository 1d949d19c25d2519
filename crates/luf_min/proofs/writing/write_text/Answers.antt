use Rattle.std.proofs.Common.{List, All, ◌++◌, length, ◌∙◌, ap, sym, subst}
use Rattle.luf_lex.specs.Tokens.{toks_of}
use Rattle.luf_scope.specs.Links.{spelling_in}
use Rattle.luf_min.specs.Minified.{spelled_under}
use Rattle.luf_min.specs.declared.item.Item.{Item}
use Rattle.luf_min.specs.inner.Items.{IsWithin}
use Rattle.luf_min.proofs.ItemsWithin.{items_within}
use Rattle.luf_min.proofs.ItemsSpelled.{text_written}
use Rattle.luf_min.proofs.TextAgain.{hash_text_is}
use Rattle.luf_min.proofs.writing.write_text.Goals as goal

pub write_items-requires-clause-within : goal.write_items-requires-clause-within
write_items-requires-clause-within c =
    subst (λ (items : List Item). All (IsWithin (length (toks_of c.args.cut.now))) items) (sym (c.as_slice.ensures.value ∙ c.in_ok-found.ensures)) (items_within (toks_of c.args.cut.now) c.args.c.now c.requires.tree)

pub returns-clause-ok : goal.returns-clause-ok
returns-clause-ok c =
    text_written c.args.src.now c.args.cut.now c.args.c.now (spelled_under c.args.n.now (spelling_in c.args.src.now c.args.cut.now)) c.as_slice.result.now c.args.into.now.items _ _ _ c.requires.tree
    (c.as_slice.ensures.value ∙ c.in_ok-found.ensures) (c.in_default.ensures.ok ∙ ap (λ t. c.args.into.now.items ++ t) (hash_text_is c.args.src.now c.args.cut.now c.requires.cut)) c.write_items.ensures.ok
