-- What is refused in a table, and that a table that tells options is not.
use Rattle.std.proofs.Common.{◌≡◌, ℕ, List, ◌∷◌, ◌++◌, Some, Less, Equal, Greater, Ordering, string_bytes, nat_cmp, refl, sym, ap, subst, ◌∙◌}
use Rattle.std.proofs.lemmas.Cmp.{nat_list_cmp_total}
use Rattle.std.proofs.lemmas.Option.{same_Some}
use Rattle.std.specs.Cmp.Lexicographic.{slice_cmp}
use Rattle.std.specs.List.Sorted.{IsStrictlySortedBy}
use Rattle.std.specs.Map.{keys_of}
use Rattle.std.specs.Ordering.{ordering_reverse}
use Rattle.std.specs.Prelude.{unwrap_or}
use Rattle.std.specs.String.{string_cmp}
use Rattle.toml.proofs.Views.{Entry}
use Rattle.toml.specs.Data.{Data, Members, get_member}
use Rattle.toml.specs.View.{members_view, view}
use Rattle.luf_conf.proofs.Entries.{same_bytes, found_before, found_here}
use Rattle.luf_conf.specs.Answers.{AreOptions, IsFirstWrong, IsWrong, unknown_key, bad_value}
use Rattle.luf_conf.specs.Settings.{Sets, usual_value}
use Rattle.luf_conf.specs.declared.error.ConfErr.{ConfErr}
use Rattle.luf_conf.specs.declared.settings.Options.{Options}

pub not_wrong : (table : Members) (o : Options) (name : List ℕ) (d : Data) (e : ConfErr) → AreOptions table o → get_member name table ≡ Some d → IsWrong name d e → ⊥
not_wrong table o name d _ are there (unknown_key unknown) = unknown (are.known name d there)
not_wrong table o name d _ are there (bad_value k same bad) =
    bad o (subst (λ x. Sets k (unwrap_or x (usual_value k)) o) (ap (λ n. get_member n table) same ∙ there) (are.told k))

-- the first name that is refused, behind members that tell options
pub first_wrong : (done : List Entry) (e : Entry) (rest : List Entry) (o : Options) (cause : ConfErr) → AreOptions (members_view done) o → IsStrictlySortedBy string_cmp (keys_of (done ++ e ∷ rest))
    → IsWrong (string_bytes e.0) (view e.1) cause → IsFirstWrong (members_view (done ++ e ∷ rest)) cause
first_wrong done e rest o cause are sorted wrong = record {
  name = string_bytes e.0;
  value = view e.1;
  there = found_here done e rest sorted;
  wrong = wrong;
  first = λ other d other_cause there refused less. not_wrong (members_view done) o other d other_cause are (found_before other done e rest d sorted less there) refused;
}

wrong_once : (name : List ℕ) (d : Data) (e f : ConfErr) → IsWrong name d e → IsWrong name d f → e ≡ f
wrong_once name d _ _ (unknown_key unknown) (unknown_key other) = refl
wrong_once name d _ _ (unknown_key unknown) (bad_value k same bad) = absurd (unknown (k, same))
wrong_once name d _ _ (bad_value k same bad) (unknown_key unknown) = absurd (unknown (k, same))
wrong_once name d _ _ (bad_value k same bad) (bad_value l other worse) = refl

one_by : (table : Members) (e f : ConfErr) (a : IsFirstWrong table e) (b : IsFirstWrong table f) (r : Ordering) → slice_cmp nat_cmp a.name b.name ≡ r → e ≡ f
one_by table e f a b Less at = absurd (b.first a.name a.value e a.there a.wrong at)
one_by table e f a b Greater at = absurd (a.first b.name b.value f b.there b.wrong (nat_list_cmp_total.antisymm b.name a.name ∙ ap ordering_reverse at))
one_by table e f a b Equal at =
    let name : a.name ≡ b.name = same_bytes _ _ at in
    let value : a.value ≡ b.value = same_Some _ _ (sym a.there ∙ ap (λ n. get_member n table) name ∙ b.there) in
    wrong_once b.name b.value e f (subst (λ d. IsWrong b.name d e) value (subst (λ n. IsWrong n a.value e) name a.wrong)) b.wrong

pub one_first_wrong : (table : Members) (e f : ConfErr) → IsFirstWrong table e → IsFirstWrong table f → e ≡ f
one_first_wrong table e f a b = one_by table e f a b (slice_cmp nat_cmp a.name b.name) refl

pub options_not_wrong : (table : Members) (o : Options) (e : ConfErr) → AreOptions table o → IsFirstWrong table e → ⊥
options_not_wrong table o e are wrong = not_wrong table o wrong.name wrong.value e are wrong.there wrong.wrong
