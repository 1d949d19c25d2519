use Rattle.std.proofs.Common.{◌≡◌, false, ap, sym, ◌∙◌, subst, length}
use Rattle.std.specs.List.{list_any}
use Rattle.luf_lex.specs.Tokens.{toks_of}
use Rattle.luf_scope.specs.Fault.{first_fault, name_faults}
use Rattle.luf_scope.specs.Links.{spelling_in, occurrences_of}
use Rattle.luf_scope.specs.Order.{AreOrdered}
use Rattle.luf_scope.specs.inner.Attributes.{has_attribute}
use Rattle.luf_scope.proofs.Counted.{laid_from_order}
use Rattle.luf_scope.proofs.Outlined.{outline_ordered, outline_names}
use Rattle.luf_scope.proofs.Places.{block_lies}
use Rattle.luf_scope.proofs.resolving.check_names.Goals as goal

pub plain_name_fault-requires-clause-laid : goal.plain_name_fault-requires-clause-laid
plain_name_fault-requires-clause-laid c =
    let tokens = length (toks_of c.args.cut.now) in
    laid_from_order 0 tokens tokens c.args.os.now
    (subst (λ os. AreOrdered 0 tokens tokens os) (sym c.requires.read) (outline_ordered 0 tokens tokens (occurrences_of c.args.c.now) (block_lies c.requires.tree)))

pub returns-in-Some-clause-bad : goal.returns-in-Some-clause-bad
returns-in-Some-clause-bad c =
    let spelled = spelling_in c.args.src.now c.args.cut.now in
    let tokens = length (toks_of c.args.cut.now) in
    let plain : list_any has_attribute c.args.os.now ≡ false = sym c.any_attribute.ensures ∙ c.if-any_attribute.false in
    sym (outline_names spelled (occurrences_of c.args.c.now) 0 tokens tokens (block_lies c.requires.tree) (ap (list_any has_attribute) (sym c.requires.read) ∙ plain))
    ∙ ap (λ os. first_fault (name_faults spelled os)) (sym c.requires.read) ∙ sym (c.in_ok-bad.ensures spelled) ∙ c.in-Some.is

pub returns-in-None-clause-accepted : goal.returns-in-None-clause-accepted
returns-in-None-clause-accepted c =
    let spelled = spelling_in c.args.src.now c.args.cut.now in
    let tokens = length (toks_of c.args.cut.now) in
    let plain : list_any has_attribute c.args.os.now ≡ false = sym c.any_attribute.ensures ∙ c.if-any_attribute.false in
    sym (outline_names spelled (occurrences_of c.args.c.now) 0 tokens tokens (block_lies c.requires.tree) (ap (list_any has_attribute) (sym c.requires.read) ∙ plain))
    ∙ ap (λ os. first_fault (name_faults spelled os)) (sym c.requires.read) ∙ sym (c.in_ok-bad.ensures spelled) ∙ c.in-None.is
