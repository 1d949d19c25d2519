use Rattle.std.proofs.Common.{◌≡◌, ◌+◌, ◌<◌, ◌≤◌, Some, length, reverse, sym, ◌∙◌, subst, IsSome, arith, cond, nat_eq, nat_le, eq-eqb, refl}
use Rattle.std.specs.List.{position_from}
use Rattle.std.proofs.lemmas.List.{length-reverse}
use Rattle.std.proofs.lemmas.Option.{slice_get-get_or}
use Rattle.std.proofs.lemmas.Bool.{cond-true, cond-false, ne_eqb}
use Rattle.luf_interf.specs.inner.Uses.{nowhere}
use Rattle.luf_interf.proofs.Giving.{found_below, given_at, choice_at}
use Rattle.luf_interf.proofs.Room.{has_room}
use Rattle.luf_interf.proofs.naming.Table.give.Goals as goal
use Rattle.luf_interf.proofs.naming.Table.give.Goals.{then-first-eq4294967295, else-first-eq4294967295}

pub unwrap-number-requires : goal.unwrap-number-requires
unwrap-number-requires c =
    let own = c.args.self.now in
    let last : c.args.s.to ≤ nowhere = omega arith in
    let room : 24 + length (reverse own.uses.items) < length own.heads = let many = length-reverse own.uses.items in let few = c.requires.room in omega (arith, many, few) in
    subst IsSome (sym c.first.ensures) (has_room own.names.items own.behind.items own.heads c.args.s.to (reverse own.uses.items) c.requires.table last room)

pub unwrap-next-requires : goal.unwrap-next-requires
unwrap-next-requires c =
    let heads = c.args.self.now.heads in
    let found : position_from (λ n. nat_le c.args.s.to n) 0 heads ≡ Some c.unwrap-number.result = sym c.first.ensures ∙ c.unwrap-number.ensures in
    subst IsSome (sym (c.at.ensures ∙ slice_get-get_or heads c.unwrap-number.result 0 (found_below heads c.args.s.to c.unwrap-number.result found))) refl

pub overflow_cast-number : goal.overflow_cast-number
overflow_cast-number c =
    let heads = c.args.self.now.heads in
    let found : position_from (λ n. nat_le c.args.s.to n) 0 heads ≡ Some c.unwrap-number.result = sym c.first.ensures ∙ c.unwrap-number.ensures in
    let below = found_below heads c.args.s.to c.unwrap-number.result found in
    let small = c.requires.table.small in
    omega (arith, below, small)

pub set-requires : goal.set-requires
set-requires c =
    let heads = c.args.self.now.heads in
    let found : position_from (λ n. nat_le c.args.s.to n) 0 heads ≡ Some c.unwrap-number.result = sym c.first.ensures ∙ c.unwrap-number.ensures in
    found_below heads c.args.s.to c.unwrap-number.result found

pub returns-clause-table : goal.returns-clause-table
returns-clause-table c =
    let own = c.args.self.now in
    let s = c.args.s in
    let next = c.unwrap-next.result in
    let found : position_from (λ n. nat_le s.to n) 0 own.heads ≡ Some c.unwrap-number.result = sym c.first.ensures ∙ c.unwrap-number.ensures in
    let head : c.if-first-eq4294967295.head ≡ cond (nat_eq c.args.first nowhere) next c.args.first = elim c.if-first-eq4294967295.branch [
      | then-first-eq4294967295 w ↦ w.head-is ∙ sym (cond-true (nat_eq c.args.first nowhere) next c.args.first (eq-eqb c.args.first nowhere w.if-first-eq4294967295.true))
      | else-first-eq4294967295 w ↦ w.head-is ∙ sym (cond-false (nat_eq c.args.first nowhere) next c.args.first (ne_eqb c.args.first nowhere w.if-first-eq4294967295.false))
    ] in
    given_at own.names.items own.behind.items own.heads c.set.new.self (reverse own.uses.items) s.local c.unwrap-number.result s.to c.args.first next c.if-first-eq4294967295.head
    c.requires.named c.requires.behind c.requires.unnamed c.requires.some found (sym c.at.ensures ∙ c.unwrap-next.ensures) head c.set.ensures c.requires.inside c.requires.first c.requires.table

pub returns-clause-below : goal.returns-clause-below
returns-clause-below c =
    let heads = c.args.self.now.heads in
    let found : position_from (λ n. nat_le c.args.s.to n) 0 heads ≡ Some c.unwrap-number.result = sym c.first.ensures ∙ c.unwrap-number.ensures in
    found_below heads c.args.s.to c.unwrap-number.result found

pub returns-clause-choice : goal.returns-clause-choice
returns-clause-choice c =
    let own = c.args.self.now in
    let last : c.args.s.to ≤ nowhere = omega arith in
    let found : position_from (λ n. nat_le c.args.s.to n) 0 own.heads ≡ Some c.unwrap-number.result = sym c.first.ensures ∙ c.unwrap-number.ensures in
    choice_at own.names.items own.behind.items own.heads c.args.s (reverse own.uses.items) c.unwrap-number.result c.requires.table c.requires.some last c.requires.ahead found
