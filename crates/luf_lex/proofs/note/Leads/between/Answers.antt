use Rattle.std.proofs.Common.{◌-◌, take, drop, sym, ◌∙◌, ap, arith}
use Rattle.luf_lex.proofs.NoteLemmas.{none_between, range_between}
use Rattle.luf_lex.proofs.note.Leads.between.Goals as goal

pub returns-then-to-from : goal.returns-then-to-from
returns-then-to-from c = sym (none_between c.args.self.now.notes.items c.args.self.now.places.items c.args.from c.args.to (omega arith))

pub returns-else-to-from : goal.returns-else-to-from
returns-else-to-from c =
    ap (λ ns. take (c.count_before-end.result - c.count_before-first.result) (drop c.count_before-first.result ns)) c.deref-else-to-from.ensures.value
    ∙ range_between c.args.self.now.notes.items c.args.self.now.places.items c.args.from c.args.to c.count_before-first.result c.count_before-end.result
    c.requires.count c.count_before-first.ensures.within c.count_before-end.ensures.within c.count_before-first.ensures.point c.count_before-end.ensures.point
