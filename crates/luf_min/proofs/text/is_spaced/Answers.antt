use Rattle.std.proofs.Common.{sym, subst}
use Rattle.luf_min.specs.inner.Next.{IsNext, first, last_word, spaced}
use Rattle.luf_min.proofs.TextLemmas.{spaced_next}
use Rattle.luf_min.proofs.text.is_spaced.Goals as goal

pub returns-in-Some : goal.returns-in-Some
returns-in-Some c =
    subst (λ o. IsNext (last_word o c.args.text.now) c.args.spelling.now (spaced c.needs_space.result c.args.spelling.now)) (sym c.in-Some.is)
    (spaced_next c.args.text.now c.in-Some.from c.tail.result.now c.args.spelling.now c.needs_space.result c.tail.ensures c.needs_space.ensures.exact c.needs_space.ensures.apart)

pub returns-in-None : goal.returns-in-None
returns-in-None c = subst (λ o. IsNext (last_word o c.args.text.now) c.args.spelling.now c.args.spelling.now) (sym c.in-None.is) first
