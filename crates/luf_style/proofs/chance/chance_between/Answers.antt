use Rattle.std.proofs.Common.{◌≡◌, true, false, rules, sym, ◌∙◌, subst}
use Rattle.std.proofs.lemmas.Bool.{false≢true}
use Rattle.luf_style.specs.inner.Written.{IsText}
use Rattle.luf_style.proofs.ChanceLaws.{noted_is, other_chance}
use Rattle.luf_style.proofs.TextLaws.{text_is, first_is, is_nothing, is_something}
use Rattle.luf_style.proofs.chance.chance_between.Goals as goal

pub returns-then-not-is_empty : goal.returns-then-not-is_empty
returns-then-not-is_empty c =
    let some : c.is_empty.result ≡ false = search rules in
    noted_is _ _ c.args.notes.now _ _ c.chance_with_notes.result (is_something c.args.notes.now c.is_empty.result c.is_empty.ensures some) c.chance_with_notes.ensures

pub chance_of_tight-requires-clause-before : goal.chance_of_tight-requires-clause-before
chance_of_tight-requires-clause-before c = subst IsText (sym c.text_of.ensures) (text_is c.args.written.now c.requires c.args.last)

pub chance_of_tight-requires-clause-after : goal.chance_of_tight-requires-clause-after
chance_of_tight-requires-clause-after c = subst IsText (sym c.first_text.ensures) (first_is c.args.written.now c.requires c.args.rest.now)

pub returns : goal.returns
returns c =
    let none : c.is_empty.result ≡ true = search rules in
    other_chance _ _ c.args.notes.now _ _ c.chance_of-chance.result (is_nothing c.args.notes.now c.is_empty.result c.is_empty.ensures none)
    (λ t. false≢true (sym c.if-is_tight.false ∙ c.is_tight.ensures.1 (c.chance_of-chance.ensures ∙ t))) c.chance_of-chance.ensures
