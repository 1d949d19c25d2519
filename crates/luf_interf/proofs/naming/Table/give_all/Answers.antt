use Rattle.std.proofs.Common.{◌≡◌, ◌+◌, ◌++◌, get_or, set, length, reverse, sym, ap, ◌∙◌, subst, arith}
use Rattle.std.proofs.lemmas.List.{get_or_default, drop_all}
use Rattle.luf_interf.specs.declared.uses.Scope.{Scope}
use Rattle.luf_interf.specs.inner.Uses.{IsChoice, AreNamed, named}
use Rattle.luf_interf.proofs.Reached.{IsReached, reached_next, ready}
use Rattle.luf_interf.proofs.naming.Table.give_all.Goals as goal

pub give-requires-clause-inside : goal.give-requires-clause-inside
give-requires-clause-inside c =
    let own = c.args.self.now in
    let at = c.loop-s.self in
    let scopes = c.args.scopes.now in
    let i = c.loop-s.s-index in
    let s : Scope = get_or scopes i (record { local = 0; from = 0; to = 0 }) in
    let is : s ≡ get_or scopes i s = get_or_default scopes i (record { local = 0; from = 0; to = 0 }) s c.loop-s-test.true in
    (ready (length own.heads) (reverse own.uses.items) own.names.items c.args.firsts.now scopes c.requires.scopes i at.names.items at.behind.items (reverse at.uses.items) c.loop-s.invariant.reached s c.loop-s-test.true is (reverse c.pass_to.new.self.uses.items) c.pass_to.ensures.passed).inside

pub give-requires-clause-first : goal.give-requires-clause-first
give-requires-clause-first c =
    let own = c.args.self.now in
    let at = c.loop-s.self in
    let scopes = c.args.scopes.now in
    let i = c.loop-s.s-index in
    let s : Scope = get_or scopes i (record { local = 0; from = 0; to = 0 }) in
    let is : s ≡ get_or scopes i s = get_or_default scopes i (record { local = 0; from = 0; to = 0 }) s c.loop-s-test.true in
    c.number_at-first.ensures
    ∙ (ready (length own.heads) (reverse own.uses.items) own.names.items c.args.firsts.now scopes c.requires.scopes i at.names.items at.behind.items (reverse at.uses.items) c.loop-s.invariant.reached s c.loop-s-test.true is (reverse c.pass_to.new.self.uses.items) c.pass_to.ensures.passed).first

pub loop-s-preserved : goal.loop-s-preserved
loop-s-preserved c =
    let own = c.args.self.now in
    let at = c.loop-s.self in
    let scopes = c.args.scopes.now in
    let i = c.loop-s.s-index in
    let s : Scope = get_or scopes i (record { local = 0; from = 0; to = 0 }) in
    let is : s ≡ get_or scopes i s = get_or_default scopes i (record { local = 0; from = 0; to = 0 }) s c.loop-s-test.true in
    let after = reverse c.pass_to.new.self.uses.items in
    let names : c.pass_to.new.self.names.items ≡ at.names.items = ap (λ v. v.items) c.pass_to.ensures.names in
    let behind : c.pass_to.new.self.behind.items ≡ at.behind.items = ap (λ v. v.items) c.pass_to.ensures.behind in
    let heads : length c.pass_to.new.self.heads ≡ length own.heads = c.pass_to.ensures.heads ∙ c.loop-s.invariant.heads in
    let below = c.give.ensures.below in
    record {
      table = c.give.ensures.table;
      heads = c.give.ensures.heads ∙ heads;
      reached = subst (λ v. IsReached (length own.heads) (reverse own.uses.items) own.names.items c.args.firsts.now scopes (i + 1) c.give.new.self.names.items c.give.new.self.behind.items (reverse v.items)) (sym c.give.ensures.uses)
          (reached_next (length own.heads) (reverse own.uses.items) own.names.items c.args.firsts.now scopes c.requires.scopes i at.names.items at.behind.items (reverse at.uses.items) c.loop-s.invariant.reached s c.loop-s-test.true is after c.pass_to.ensures.passed
          c.give.result c.give.new.self.names.items c.give.new.self.behind.items (omega (arith, below, heads))
          (λ d before. subst (λ ns. IsChoice (d ++ after) ns s c.give.result) names (c.give.ensures.choice d before))
          (c.give.ensures.names ∙ ap (λ ns. set ns s.local c.give.result) names) (c.give.ensures.behind ∙ ap length behind));
    }

pub returns : goal.returns
returns c =
    let own = c.args.self.now in
    let r = c.loop-s.invariant.reached in
    let none = drop_all c.loop-s.s-index c.args.scopes.now (omega arith) in
    r.goes_on c.loop-s.self.names.items (subst (λ ss. AreNamed (length own.heads) (reverse own.uses.items) c.loop-s.self.names.items ss c.loop-s.self.names.items) (sym none) named)
