use Rattle.std.proofs.Common.{rules, ◌≡◌, ◌≢◌, inr}
use Rattle.luafmt.proofs.Sources.{unchanged_comes, replaced_comes}
use Rattle.luafmt.proofs.answer.rewritten.Goals as goal

pub returns-then-same : goal.returns-then-same
returns-then-same c =
    let same : c.args.text.items ≡ c.args.source.now = search rules in
    unchanged_comes c.args.job c.args.name.now c.args.source.now c.args.text.items c.new.result.items _ (inr c.requires.manner) c.requires.written same c.new.ensures.items c.done.ensures

pub returns-else-same : goal.returns-else-same
returns-else-same c =
    let other : c.args.text.items ≢ c.args.source.now = search rules in
    replaced_comes c.args.job c.args.name.now c.args.source.now c.args.text.items c.new-else-same.result.items _ c.requires.manner c.requires.written other c.new-else-same.ensures.items c.done-else-same.ensures
