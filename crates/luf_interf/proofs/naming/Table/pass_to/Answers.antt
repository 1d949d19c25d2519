use Rattle.std.proofs.Common.{◌∙◌, reverse, arith}
use Rattle.luf_interf.proofs.Passing.{one_passed, first_token_is}
use Rattle.luf_interf.proofs.naming.Table.pass_to.Goals as goal

pub loop-self-preserved : goal.loop-self-preserved
loop-self-preserved c =
    let i = c.loop-self.invariant in
    let next = c.pass.ensures.uses in
    let at = first_token_is (reverse c.loop-self.self.uses.items) (reverse c.pass.new.self.uses.items) next.0 next.1 in
    let token = c.next_token.ensures in
    let low = c.loop-self-test.true in
    record {
      table = c.pass.ensures.table;
      passed = one_passed c.args.place (reverse c.args.self.now.uses.items) (reverse c.loop-self.self.uses.items) (reverse c.pass.new.self.uses.items) next.0 next.1 (omega (arith, at, token, low)) i.passed;
      names = c.pass.ensures.names ∙ i.names;
      behind = c.pass.ensures.behind ∙ i.behind;
      heads = c.pass.ensures.heads ∙ i.heads;
    }
