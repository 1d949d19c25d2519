use Rattle.std.proofs.Common.{◌+◌, ◌++◌, None, get_or, drop, sym, ap, ◌∙◌, arith}
use Rattle.std.proofs.lemmas.List.{append-nil, drop_all}
use Rattle.luf_scope.specs.Local.{Spelling, declared_by, locals_of}
use Rattle.luf_scope.specs.declared.occurrence.Occurrence.{Occurrence}
use Rattle.luf_scope.specs.declared.occurrence.Occurrence.TheVariants.{Local}
use Rattle.luf_interf.specs.inner.Owners.{scopes_from}
use Rattle.luf_interf.proofs.ScopesRead.{count_none, count_some, ahead_none, ahead_some, added_none, added_some, none_declared, one_declared}
use Rattle.luf_interf.proofs.scoping.scopes_of.Goals as goal
use Rattle.luf_interf.proofs.scoping.scopes_of.Goals.{in-Some+in_ok-add_scope, in_default}

pub loop-o-preserved : goal.loop-o-preserved
loop-o-preserved c =
    let os = c.args.os.now in
    let i = c.loop-o.o-index in
    let d : Occurrence = Local 0 None 0 0 in
    let n = c.loop-o.local in
    let so_far = c.loop-o.invariant in
    elim c.match-extent_of.branch [
      | in-Some+in_ok-add_scope w ↦
          let one = λ (spelled : Spelling). one_declared (declared_by spelled (get_or os i d)) w.in-Some.extent (sym w.in-Some.is ∙ c.extent_of.ensures.of spelled) in
          let next = w.local-is in
          record {
            count = let all = count_some os i d c.loop-o-test.true n _ (sym w.in-Some.ensures.some) so_far.count in omega (arith, all, next);
            ahead = λ spelled. ap (λ m. drop m (locals_of spelled os)) next ∙ ahead_some os i d c.loop-o-test.true spelled n (so_far.ahead spelled) (one spelled).0 (one spelled).1;
            added = λ spelled are. (λ j. (w.found-is j).items ++ scopes_from (next j) (locals_of spelled (drop (i + 1) os)))
                ∙ added_some os i d c.loop-o-test.true spelled n (so_far.ahead spelled) c.loop-o.found.items w.add_scope.new.found.items (scopes_from 0 (locals_of spelled os)) c.args.binders.now w.in-Some.extent.from w.in-Some.extent.to
                (one spelled).0 (one spelled).1 (one spelled).2 (one spelled).3 are w.in_ok-add_scope.ensures (so_far.added spelled are);
          }
      | in_default w ↦
          let none = λ (spelled : Spelling). none_declared (declared_by spelled (get_or os i d)) (sym w.in_default.is ∙ c.extent_of.ensures.of spelled) in
          let same = w.local-is in
          record {
            count = let all = count_none os i d c.loop-o-test.true n _ (sym w.in_default.ensures.some) so_far.count in omega (arith, all, same);
            ahead = λ spelled. ap (λ m. drop m (locals_of spelled os)) same ∙ ahead_none os i d c.loop-o-test.true spelled n (so_far.ahead spelled) (none spelled);
            added = λ spelled are. (λ j. (w.found-is j).items ++ scopes_from (same j) (locals_of spelled (drop (i + 1) os)))
                ∙ added_none os i d c.loop-o-test.true spelled n (so_far.ahead spelled) c.loop-o.found.items (scopes_from 0 (locals_of spelled os)) (none spelled) (so_far.added spelled are);
          }
    ]

pub returns : goal.returns
returns c spelled are =
    let gone = drop_all c.loop-o.o-index c.args.os.now (omega arith) in
    sym (append-nil c.loop-o.found.items) ∙ ap (λ xs. c.loop-o.found.items ++ scopes_from c.loop-o.local (locals_of spelled xs)) (sym gone) ∙ c.loop-o.invariant.added spelled are
