use Rattle.std.proofs.Common.{◌≡◌, ℕ, ◌+◌, ◌≤◌, nat_cmp, get_or, ap, ◌∙◌, ⊎_elim, arith}
use Rattle.std.specs.Ordering.{ord_max}
use Rattle.std.proofs.lemmas.Bool.{cases_lt}
use Rattle.std.proofs.lemmas.Bool.Decides.{nat_tests}
use Rattle.std.proofs.lemmas.List.{get_or_default}
use Rattle.luf_interf.specs.declared.label_rows.LabelRow.{LabelRow}
use Rattle.luf_interf.proofs.label_names.classes_of.Goals as goal

blank : LabelRow
blank = record { class = 0; from = 0; to = 0 }

left_on : (a b m : ℕ) → m ≡ ord_max nat_cmp a b → a ≤ m
left_on a b m is = grind (arith, nat_tests, is)

right_on : (a b m : ℕ) → m ≡ ord_max nat_cmp a b → b ≤ m
right_on a b m is = grind (arith, nat_tests, is)

pub loop-row-preserved : goal.loop-row-preserved
unfolding blank
loop-row-preserved c = λ k d below.
    let rows = c.args.rows.now in
    let i = c.loop-row.row-index in
    let left = left_on c.loop-row.classes ((get_or rows i blank).class + 1) c.max-classes.result c.max-classes.ensures in
    let right = right_on c.loop-row.classes ((get_or rows i blank).class + 1) c.max-classes.result c.max-classes.ensures in
    ⊎_elim
    (λ less. let low = c.loop-row.invariant k d less in omega (arith, low, left))
    (λ past. let same : k ≡ i = omega (arith, below, past) in
    let e = get_or_default rows i d blank c.loop-row-test.true in
    let row : (get_or rows k d).class ≡ (get_or rows i blank).class = ap (λ n. (get_or rows n d).class) same ∙ ap (λ r. r.class) e in
    omega (arith, row, right))
    (cases_lt k i)

pub returns : goal.returns
returns c = λ k d within. c.loop-row.invariant k d (let done = c.loop-row-test.false in omega (arith, within, done))
