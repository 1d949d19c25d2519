use Rattle.std.proofs.Common.{◌≡◌, None, sym, subst, arith}
use Rattle.std.proofs.lemmas.Grind.{common_steps}
use Rattle.toml.specs.View.{view}
use Rattle.luf_conf.specs.Answers.{IsWrong, unknown_key, bad_value}
use Rattle.luf_conf.specs.inner.Named.{key_named}
use Rattle.luf_conf.proofs.Named.{key_found, no_key}
use Rattle.luf_conf.proofs.reading.with_member.Goals as goal

pub returns-in_default-clause-refused : goal.returns-in_default-clause-refused
returns-in_default-clause-refused c =
    let none : None ≡ key_named c.args.name.now = grind (arith, common_steps) in
    λ other. subst (λ e. IsWrong c.args.name.now (view c.args.value.now) e) (sym (c.unknown_key.ensures other)) (unknown_key (no_key c.args.name.now none))

pub returns-in-None-clause-refused : goal.returns-in-None-clause-refused
returns-in-None-clause-refused c =
    let named = key_found c.args.name.now c.in-Some.key c.in-Some.ensures in
    λ other. subst (λ e. IsWrong c.args.name.now (view c.args.value.now) e) (sym (c.bad_value.ensures other)) (bad_value c.in-Some.key named c.in-None.ensures.sets)
