use Rattle.std.proofs.Common.{◌≡◌, Some, sym, ap, ◌∙◌, subst, slice_set}
use Rattle.std.specs.Option.{option_and_then, option_map}
use Rattle.luf_scope.specs.inner.Last.{last_such}
use Rattle.luf_scope.specs.inner.Buckets.{number_in}
use Rattle.luf_scope.specs.inner.Scopes.{is_meant}
use Rattle.luf_scope.specs.inner.Sweep.{IsSweep}
use Rattle.luf_scope.proofs.Swept.{told_of, swept_on}
use Rattle.luf_scope.proofs.meanings.Sweep.look_up.Goals as goal

pub returns-in-Some-clause-meaning : goal.returns-in-Some-clause-meaning
returns-in-Some-clause-meaning c =
    let scopes = c.args.scopes.now in
    let place = c.args.token in
    let numbers = number_in c.args.names.now.buckets.items in
    let numbered : Some c.in-Some.name ≡ numbers c.spelled.result.now = c.in-Some.ensures in
    let told : c.top.result ≡ option_map (λ s. s.local) (last_such (is_meant c.in-Some.name place) scopes) = c.top.ensures.found ∙ told_of scopes place c.enter.new.self.entered c.enter.new.self.stacks.items c.in_ok-enter.ensures.sweep c.requires.scopes.rising c.in_ok-enter.ensures.done c.in-Some.name c.index_mut.result.now (c.requires.scopes.numbers c.spelled.result.now _ (sym numbered)) c.index_mut.ensures.value in
    told ∙ ap (option_and_then (λ k. option_map (λ s. s.local) (last_such (is_meant k place) scopes))) (numbered ∙ ap numbers c.spelled.ensures)

pub returns-in-Some-clause-sweep : goal.returns-in-Some-clause-sweep
returns-in-Some-clause-sweep c =
    let numbers = number_in c.args.names.now.buckets.items in
    let numbered : Some c.in-Some.name ≡ numbers c.spelled.result.now = c.in-Some.ensures in
    subst (λ p. IsSweep c.args.scopes.now p c.enter.new.self.entered (slice_set c.enter.new.self.stacks.items c.in-Some.name c.top.new.stack)) (sym c.in_ok-enter.ensures.place)
    (swept_on c.args.scopes.now c.args.token c.enter.new.self.entered c.enter.new.self.stacks.items c.in_ok-enter.ensures.sweep c.in-Some.name c.index_mut.result.now c.top.new.stack (c.requires.scopes.numbers c.spelled.result.now _ (sym numbered)) c.index_mut.ensures.value c.top.ensures.kept)
