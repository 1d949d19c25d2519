use Rattle.std.proofs.Common.{rules, ◌≡◌, ◌≢◌, string_bytes, inl}
use Rattle.luafmt.proofs.Sources.{unchanged_comes, differs_comes}
use Rattle.luafmt.proofs.answer.compared.Goals as goal

pub returns-then-eq : goal.returns-then-eq
returns-then-eq c =
    let same : c.args.text.now ≡ c.args.source.now = search rules in
    unchanged_comes c.args.job c.args.name.now c.args.source.now c.args.text.now c.new.result.items _ (inl c.requires.manner) c.requires.written same c.new.ensures.items c.done.ensures

pub returns : goal.returns
returns c =
    let other : c.args.text.now ≢ c.args.source.now = search rules in
    differs_comes c.args.job c.args.name.now c.args.source.now c.args.text.now c.new-2.result.items (string_bytes c.in_ok-differs_line.field-0) c.requires.manner c.requires.written other c.new-2.ensures.items c.in_ok-differs_line.ensures
