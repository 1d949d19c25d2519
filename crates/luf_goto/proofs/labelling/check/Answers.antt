use Rattle.std.proofs.Common.{◌∙◌, ◌+◌, ◌<◌, ℕ, Option, List, All, IfSome, length, sym, ap, subst}
use Rattle.std.specs.List.Sorted.{IsNonDecreasingBy}
use Rattle.luf_scope.specs.Links.{spelling_in}
use Rattle.luf_goto.specs.declared.holders.Extent.{Extent}
use Rattle.luf_goto.specs.declared.holders.Spot.{Spot}
use Rattle.luf_goto.specs.inner.Leaps.{first_failing, has_none, enters_scope}
use Rattle.luf_goto.proofs.Final.{given, gotos_up, labels_up, labels_classed, gotos_classed, loops_sorted, breaks_rise, loops_low, breaks_low, numbers_low, targets_found, bad_found}
use Rattle.luf_goto.proofs.labelling.check.Goals as goal

pub targets_of-requires-clause-rising : goal.targets_of-requires-clause-rising
targets_of-requires-clause-rising c = gotos_up (spelling_in c.args.src.now c.args.cut.now) c.args.os.now c.requires.order c.as_slice-labels.result.now c.as_slice-gotos.result.now (given (spelling_in c.args.src.now c.args.cut.now) c.args.os.now c.as_slice.result.now c.as_slice-labels.result.now c.as_slice-2.result.now c.as_slice-gotos.result.now (c.as_slice.ensures.value ∙ c.in_ok-s.ensures.labels) (c.as_slice-2.ensures.value ∙ c.in_ok-s.ensures.gotos) (c.as_slice-labels.ensures.value ∙ c.in_ok-named.ensures.labels) (c.as_slice-gotos.ensures.value ∙ c.in_ok-named.ensures.gotos))

pub targets_of-requires-clause-labels_in : goal.targets_of-requires-clause-labels_in
targets_of-requires-clause-labels_in c = labels_classed (spelling_in c.args.src.now c.args.cut.now) c.args.os.now c.requires.order c.as_slice-labels.result.now c.as_slice-gotos.result.now (given (spelling_in c.args.src.now c.args.cut.now) c.args.os.now c.as_slice.result.now c.as_slice-labels.result.now c.as_slice-2.result.now c.as_slice-gotos.result.now (c.as_slice.ensures.value ∙ c.in_ok-s.ensures.labels) (c.as_slice-2.ensures.value ∙ c.in_ok-s.ensures.gotos) (c.as_slice-labels.ensures.value ∙ c.in_ok-named.ensures.labels) (c.as_slice-gotos.ensures.value ∙ c.in_ok-named.ensures.gotos))

pub targets_of-requires-clause-gotos_in : goal.targets_of-requires-clause-gotos_in
targets_of-requires-clause-gotos_in c = gotos_classed (spelling_in c.args.src.now c.args.cut.now) c.args.os.now c.requires.order c.as_slice-labels.result.now c.as_slice-gotos.result.now (given (spelling_in c.args.src.now c.args.cut.now) c.args.os.now c.as_slice.result.now c.as_slice-labels.result.now c.as_slice-2.result.now c.as_slice-gotos.result.now (c.as_slice.ensures.value ∙ c.in_ok-s.ensures.labels) (c.as_slice-2.ensures.value ∙ c.in_ok-s.ensures.gotos) (c.as_slice-labels.ensures.value ∙ c.in_ok-named.ensures.labels) (c.as_slice-gotos.ensures.value ∙ c.in_ok-named.ensures.gotos))

pub scopes_of-requires : goal.scopes_of-requires
scopes_of-requires c = labels_up (spelling_in c.args.src.now c.args.cut.now) c.args.os.now c.requires.order c.as_slice-labels.result.now c.as_slice-gotos.result.now (given (spelling_in c.args.src.now c.args.cut.now) c.args.os.now c.as_slice.result.now c.as_slice-labels.result.now c.as_slice-2.result.now c.as_slice-gotos.result.now (c.as_slice.ensures.value ∙ c.in_ok-s.ensures.labels) (c.as_slice-2.ensures.value ∙ c.in_ok-s.ensures.gotos) (c.as_slice-labels.ensures.value ∙ c.in_ok-named.ensures.labels) (c.as_slice-gotos.ensures.value ∙ c.in_ok-named.ensures.gotos))

pub first_twice-requires-clause-rising : goal.first_twice-requires-clause-rising
first_twice-requires-clause-rising c = labels_up (spelling_in c.args.src.now c.args.cut.now) c.args.os.now c.requires.order c.as_slice-labels.result.now c.as_slice-gotos.result.now (given (spelling_in c.args.src.now c.args.cut.now) c.args.os.now c.as_slice.result.now c.as_slice-labels.result.now c.as_slice-2.result.now c.as_slice-gotos.result.now (c.as_slice.ensures.value ∙ c.in_ok-s.ensures.labels) (c.as_slice-2.ensures.value ∙ c.in_ok-s.ensures.gotos) (c.as_slice-labels.ensures.value ∙ c.in_ok-named.ensures.labels) (c.as_slice-gotos.ensures.value ∙ c.in_ok-named.ensures.gotos))

pub first_twice-requires-clause-classes : goal.first_twice-requires-clause-classes
first_twice-requires-clause-classes c = labels_classed (spelling_in c.args.src.now c.args.cut.now) c.args.os.now c.requires.order c.as_slice-labels.result.now c.as_slice-gotos.result.now (given (spelling_in c.args.src.now c.args.cut.now) c.args.os.now c.as_slice.result.now c.as_slice-labels.result.now c.as_slice-2.result.now c.as_slice-gotos.result.now (c.as_slice.ensures.value ∙ c.in_ok-s.ensures.labels) (c.as_slice-2.ensures.value ∙ c.in_ok-s.ensures.gotos) (c.as_slice-labels.ensures.value ∙ c.in_ok-named.ensures.labels) (c.as_slice-gotos.ensures.value ∙ c.in_ok-named.ensures.gotos))

pub first_outside-requires-clause-sorted : goal.first_outside-requires-clause-sorted
first_outside-requires-clause-sorted c = subst (λ (es : List Extent). IsNonDecreasingBy (λ e. e.from) es) (sym (c.as_slice-3.ensures.value ∙ c.in_ok-s.ensures.loops)) (loops_sorted c.args.os.now c.requires.order)

pub first_outside-requires-clause-rising : goal.first_outside-requires-clause-rising
first_outside-requires-clause-rising c = subst (λ (ss : List Spot). IsNonDecreasingBy (λ s. s.place) ss) (sym (c.as_slice-4.ensures.value ∙ c.in_ok-s.ensures.breaks)) (breaks_rise c.args.os.now c.requires.order)

pub first_outside-requires-clause-loops_in : goal.first_outside-requires-clause-loops_in
first_outside-requires-clause-loops_in c = subst (λ (es : List Extent). All (λ e. e.class < length c.args.os.now + 1) es) (sym (c.as_slice-3.ensures.value ∙ c.in_ok-s.ensures.loops)) (loops_low c.args.os.now)

pub first_outside-requires-clause-breaks_in : goal.first_outside-requires-clause-breaks_in
first_outside-requires-clause-breaks_in c = subst (λ (ss : List Spot). All (λ s. s.class < length c.args.os.now + 1) ss) (sym (c.as_slice-4.ensures.value ∙ c.in_ok-s.ensures.breaks)) (breaks_low c.args.os.now)

pub first_entering-entering-requires-clause-numbers : goal.first_entering-entering-requires-clause-numbers
first_entering-entering-requires-clause-numbers c = subst (λ (ts : List (Option ℕ)). All (λ t. IfSome t (λ n. n < length c.as_slice-labels.result.now)) ts) (sym c.as_slice-6.ensures.value) (numbers_low c.as_slice-labels.result.now c.as_slice-gotos.result.now c.in_ok-targets.targets.items c.in_ok-targets.ensures)

pub returns-clause-targets : goal.returns-clause-targets
returns-clause-targets c = targets_found (spelling_in c.args.src.now c.args.cut.now) c.args.os.now c.requires.order c.as_slice-labels.result.now c.as_slice-gotos.result.now (given (spelling_in c.args.src.now c.args.cut.now) c.args.os.now c.as_slice.result.now c.as_slice-labels.result.now c.as_slice-2.result.now c.as_slice-gotos.result.now (c.as_slice.ensures.value ∙ c.in_ok-s.ensures.labels) (c.as_slice-2.ensures.value ∙ c.in_ok-s.ensures.gotos) (c.as_slice-labels.ensures.value ∙ c.in_ok-named.ensures.labels) (c.as_slice-gotos.ensures.value ∙ c.in_ok-named.ensures.gotos)) c.in_ok-targets.targets.items c.in_ok-targets.ensures

pub returns-clause-bad : goal.returns-clause-bad
returns-clause-bad c = bad_found (spelling_in c.args.src.now c.args.cut.now) c.args.os.now c.requires.order c.as_slice-labels.result.now c.as_slice-gotos.result.now (given (spelling_in c.args.src.now c.args.cut.now) c.args.os.now c.as_slice.result.now c.as_slice-labels.result.now c.as_slice-2.result.now c.as_slice-gotos.result.now (c.as_slice.ensures.value ∙ c.in_ok-s.ensures.labels) (c.as_slice-2.ensures.value ∙ c.in_ok-s.ensures.gotos) (c.as_slice-labels.ensures.value ∙ c.in_ok-named.ensures.labels) (c.as_slice-gotos.ensures.value ∙ c.in_ok-named.ensures.gotos)) c.as_slice-3.result.now c.as_slice-4.result.now c.in_ok-targets.targets.items c.in_ok-scopes.scopes.items c.in_ok-twice.twice c.first_missing-missing.result c.first_entering-entering.result c.in_ok-outside.outside c.first_bad-bad.result (c.as_slice-3.ensures.value ∙ c.in_ok-s.ensures.loops) (c.as_slice-4.ensures.value ∙ c.in_ok-s.ensures.breaks) c.in_ok-targets.ensures c.in_ok-scopes.ensures c.in_ok-twice.ensures (c.first_missing-missing.ensures ∙ ap (first_failing has_none c.as_slice-gotos.result.now) c.as_slice-5.ensures.value) (c.first_entering-entering.ensures ∙ ap (first_failing (enters_scope c.as_slice-labels.result.now c.as_slice-7.result.now) c.as_slice-gotos.result.now) c.as_slice-6.ensures.value ∙ ap (λ ss. first_failing (enters_scope c.as_slice-labels.result.now ss) c.as_slice-gotos.result.now c.in_ok-targets.targets.items) c.as_slice-7.ensures.value) c.in_ok-outside.ensures c.first_bad-bad.ensures
