use Rattle.std.proofs.Common.{◌≤◌, length, ap, ◌∙◌, subst, arith}
use Rattle.std.proofs.lemmas.Bool.Decides.{nat_tests}
use Rattle.luf_scope.specs.Marks.{mark_at}
use Rattle.luf_scope.proofs.Started.{none_started}
use Rattle.luf_scope.proofs.marks.Marks.at.Goals as goal

pub returns-in-None : goal.returns-in-None
returns-in-None g c =
    let past : length c.deref.result.now ≤ c.block_of.result = grind (arith, nat_tests, c.in-None.ensures.lookup.0) in
    none_started c.self.inside.marks.items c.self.inside.starts.items c.args.token c.block_of.result c.self.invariant.1 c.block_of.ensures.from (subst (λ ss. length ss ≤ c.block_of.result) c.deref.ensures.value past)
    ∙ ap (λ ms. mark_at ms c.args.token) c.self.view_is
