-- Options of some members, and of one more.
use Rattle.std.proofs.Common.{◌≡◌, ◌≢◌, ℕ, List, [], ◌∷◌, ◌++◌, Option, Some, None, Less, Equal, Greater, Ordering, string_bytes, nat_cmp, refl, sym, ap, subst, ◌∙◌, arith}
use Rattle.std.specs.Prelude.{unwrap_or}
use Rattle.std.proofs.lemmas.Cmp.{nat_list_cmp_total, tied_itself}
use Rattle.std.specs.Cmp.Lexicographic.{slice_cmp}
use Rattle.std.specs.Option.{option_or}
use Rattle.std.specs.Ordering.{match_ordering}
use Rattle.toml.proofs.Views.{Entry}
use Rattle.toml.specs.Data.{Data, get_member}
use Rattle.toml.specs.View.{members_view, view}
use Rattle.luf_conf.proofs.Entries.{same_bytes, or_none, get_joined}
use Rattle.luf_conf.proofs.Named.{one_key}
use Rattle.luf_conf.specs.Answers.{AreOptions}
use Rattle.luf_conf.specs.Settings.{IsKnown, Sets, key_name, usual_value}
use Rattle.luf_conf.specs.declared.keys.Key.{Key}
use Rattle.luf_conf.specs.declared.settings.Options.{Options}
use Rattle.luf_conf.specs.inner.Member.{IsWithMember}

known_by : (name : List ℕ) (e : Entry) (d : Data) (before : Option Data) (o : Ordering) → slice_cmp nat_cmp name (string_bytes e.0) ≡ o → ((x : Data) → before ≡ Some x → IsKnown name) → IsKnown (string_bytes e.0)
    → option_or before (match_ordering o None (Some (view e.1)) None) ≡ Some d → IsKnown name
known_by name e d (Some x) o at known here found = known x refl
known_by name e d None Less at known here found = absurd (grind (arith, found))
known_by name e d None Equal at known here found = (here.0, here.1 ∙ sym (same_bytes _ _ at))
known_by name e d None Greater at known here found = absurd (grind (arith, found))

-- a key whose name is another says of the new options what it said
told_apart : (k : Key) (done : List Entry) (e : Entry) (o p : Options) (r : Ordering) → slice_cmp nat_cmp (key_name k) (string_bytes e.0) ≡ r → r ≢ Equal → match_ordering r None (Some (view e.1)) None ≡ None
    → Sets k (unwrap_or (get_member (key_name k) (members_view done)) (usual_value k)) o → IsWithMember (string_bytes e.0) (view e.1) o p
    → Sets k (unwrap_or (get_member (key_name k) (members_view (done ++ e ∷ []))) (usual_value k)) p
told_apart k done e o p r at other none told more =
    let got : get_member (key_name k) (members_view (done ++ e ∷ [])) ≡ get_member (key_name k) (members_view done) =
    get_joined (key_name k) done (e ∷ []) ∙ ap (option_or (get_member (key_name k) (members_view done))) (ap (λ x. match_ordering x None (Some (view e.1)) None) at ∙ none) ∙ or_none _ in
    let apart : k ≢ more.key = λ same. other (sym at ∙ ap (λ x. slice_cmp nat_cmp x (string_bytes e.0)) (ap key_name same ∙ more.named) ∙ tied_itself nat_list_cmp_total (string_bytes e.0)) in
    rw got (more.others k apart _ told)

told_by : (k : Key) (done : List Entry) (e : Entry) (o p : Options) (r : Ordering) → slice_cmp nat_cmp (key_name k) (string_bytes e.0) ≡ r → get_member (string_bytes e.0) (members_view done) ≡ None
    → Sets k (unwrap_or (get_member (key_name k) (members_view done)) (usual_value k)) o → IsWithMember (string_bytes e.0) (view e.1) o p
    → Sets k (unwrap_or (get_member (key_name k) (members_view (done ++ e ∷ []))) (usual_value k)) p
told_by k done e o p Less at new told more = told_apart k done e o p Less at (λ same. grind (arith, same)) refl told more
told_by k done e o p Greater at new told more = told_apart k done e o p Greater at (λ same. grind (arith, same)) refl told more
told_by k done e o p Equal at new told more =
    let name : key_name k ≡ string_bytes e.0 = same_bytes _ _ at in
    let got : get_member (key_name k) (members_view (done ++ e ∷ [])) ≡ Some (view e.1) =
    get_joined (key_name k) done (e ∷ []) ∙ rw (at, ap (λ n. get_member n (members_view done)) name ∙ new) refl in
    rw got (subst (λ x. Sets x (view e.1) p) (sym (one_key k more.key (name ∙ sym more.named))) more.said)

pub grown : (done : List Entry) (e : Entry) (o p : Options) → AreOptions (members_view done) o → get_member (string_bytes e.0) (members_view done) ≡ None → IsWithMember (string_bytes e.0) (view e.1) o p
    → AreOptions (members_view (done ++ e ∷ [])) p
grown done e o p are new more = record {
  known = λ name d found. known_by name e d (get_member name (members_view done)) (slice_cmp nat_cmp name (string_bytes e.0)) refl (are.known name) (more.key, more.named) (sym (get_joined name done (e ∷ [])) ∙ found);
  told = λ k. told_by k done e o p (slice_cmp nat_cmp (key_name k) (string_bytes e.0)) refl new (are.told k) more;
}
