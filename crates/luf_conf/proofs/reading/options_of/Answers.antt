-- The members that are left are the next one and those behind it.
use Rattle.std.proofs.Common.{◌≡◌, [], ◌∷◌, ◌++◌, sym, ap, subst, ◌∙◌, arith, append_assoc}
use Rattle.std.proofs.lemmas.Grind.{common_steps}
use Rattle.std.specs.List.Sorted.{IsStrictlySortedBy}
use Rattle.std.specs.Map.{keys_of}
use Rattle.std.specs.String.{string_cmp}
use Rattle.toml.proofs.Views.{Entry}
use Rattle.toml.specs.View.{members_view, view}
use Rattle.luf_conf.specs.Answers.{IsFirstWrong, IsWrong}
use Rattle.luf_conf.specs.inner.Member.{IsWithMember}
use Rattle.luf_conf.proofs.Entries.{fresh}
use Rattle.luf_conf.proofs.Growing.{grown}
use Rattle.luf_conf.proofs.Refusals.{first_wrong}
use Rattle.luf_conf.proofs.reading.options_of.Goals as goal

pub loop-name-preserved : goal.loop-name-preserved
loop-name-preserved c =
    let (done, whole, told) = c.loop-name.invariant in
    let rest = c.next.new.self in
    let e : Entry = (c.in-Some.name.now, c.in-Some.value.now) in
    let next : c.loop-name.name-iterator ≡ e ∷ rest = grind (arith, common_steps) in
    let parted : c.args.table.now.entries ≡ done ++ e ∷ rest = whole ∙ ap (λ t. done ++ t) next in
    let sorted = subst (λ t. IsStrictlySortedBy string_cmp (keys_of t)) parted c.iter-name-items.ensures.ordered in
    let more = subst (λ n. IsWithMember n (view e.1) c.loop-name.options c.in-Ok.more) c.as_bytes.ensures.value c.in-Ok.ensures.ok in
    (done ++ e ∷ [], parted ∙ sym (append_assoc done (e ∷ []) rest), grown done e c.loop-name.options c.in-Ok.more told (fresh done e rest sorted) more)

pub returns-in-Err-clause-refused : goal.returns-in-Err-clause-refused
returns-in-Err-clause-refused c =
    let (done, whole, told) = c.loop-name.invariant in
    let rest = c.next.new.self in
    let e : Entry = (c.in-Some.name.now, c.in-Some.value.now) in
    let next : c.loop-name.name-iterator ≡ e ∷ rest = grind (arith, common_steps) in
    let parted : c.args.table.now.entries ≡ done ++ e ∷ rest = whole ∙ ap (λ t. done ++ t) next in
    let sorted = subst (λ t. IsStrictlySortedBy string_cmp (keys_of t)) parted c.iter-name-items.ensures.ordered in
    λ other.
    let wrong = subst (λ n. IsWrong n (view e.1) c.in-Err.e) c.as_bytes.ensures.value (c.in-Err.ensures.refused other) in
    subst (λ t. IsFirstWrong (members_view t) c.in-Err.e) (sym parted) (first_wrong done e rest c.loop-name.options c.in-Err.e told sorted wrong)
