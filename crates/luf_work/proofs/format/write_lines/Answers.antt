use Rattle.std.proofs.Common.{refl, ◌++◌, ◌∙◌, ap, append_assoc}
use Rattle.std.proofs.lemmas.Result.{on_ok_weaker}
use Rattle.luf_doc.specs.Layout.{layout}
use Rattle.luf_style.specs.Styled.{choices_of, hash_text}
use Rattle.luf_work.proofs.FormatLemmas.{formatted_of}
use Rattle.luf_work.proofs.format.write_lines.Goals as goal

pub returns-clause-ok : goal.returns-clause-ok
returns-clause-ok c =
    let choices = choices_of c.args.o.now in
    on_ok_weaker c.write_styled.result
    (λ styled. let text = hash_text c.args.src.now ++ layout choices.page styled.0 in (
      text,
      formatted_of choices c.args.src.now text c.args.source.now styled.0 c.requires.read styled.1 refl,
      styled.2 ∙ ap (λ bs. bs ++ layout choices.page styled.0) c.in_default.ensures.ok ∙ append_assoc c.args.into.now.items (hash_text c.args.src.now) (layout choices.page styled.0),
    ))
    c.write_styled.ensures.ok
