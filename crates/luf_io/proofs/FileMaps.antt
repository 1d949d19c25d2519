-- The map that files in memory are, and the list of entries that keeps it.
use Rattle.std.proofs.Common.{◌≡◌, ℕ, Bool, true, false, cond, List, [], ◌∷◌, map, Option, Some, None, option_map, string_bytes, String, Vec, Ordering, refl, sym, ap, ◌∙◌}
use Rattle.std.specs.Ordering.{nat_cmp, is_eq, eq_by_cmp, match_ordering}
use Rattle.std.specs.Cmp.Lexicographic.{slice_cmp, nat_list_cmp_total}
use Rattle.std.specs.FinMap.{find, put, get, insert, get-from_entries, get-insert, same_map, nat_cmp-IsAntisymmetric, slice_cmp-IsAntisymmetric}
use Rattle.std.specs.FinMap.Entries.{by_order, find-put}
use Rattle.std.specs.declared.cmp.Ordering.TheVariants.{Less, Equal, Greater}
use Rattle.std.specs.String.{string_cmp}
use Rattle.std.specs.BTreeMap.{insert_entry}
use Rattle.std.specs.Map.{lookup}
use Rattle.luf_io.specs.Files.{FileMap}
use Rattle.luf_io.specs.MemFiles.{FilesState, files_in}

module _ {Y Z : Type 0} where
  abbrev seen : String Y × Vec ℕ Z → List ℕ × List ℕ
  seen e = (string_bytes e.0, e.1.items)

  found : (q : List ℕ) (es : List (String Y × Vec ℕ Z)) → find (slice_cmp nat_cmp) q (map seen es) ≡ option_map (λ v. v.items) (lookup (λ k. is_eq (slice_cmp nat_cmp q (string_bytes k))) es)
  found q [] = refl
  found q (e ∷ es) = by (is_eq (slice_cmp nat_cmp q (string_bytes e.0))) (found q es)
    where
      by : (b : Bool) → find (slice_cmp nat_cmp) q (map seen es) ≡ option_map (λ v. v.items) (lookup (λ k. is_eq (slice_cmp nat_cmp q (string_bytes k))) es)
          → cond b (Some e.1.items) (find (slice_cmp nat_cmp) q (map seen es)) ≡ option_map (λ v. v.items) (cond b (Some e.1) (lookup (λ k. is_eq (slice_cmp nat_cmp q (string_bytes k))) es))
      by true later = refl
      by false later = later

  -- a name is looked up among the entries
  pub file_found : (q : List ℕ) (es : List (String Y × Vec ℕ Z)) → get (files_in es) q ≡ option_map (λ v. v.items) (lookup (λ k. is_eq (slice_cmp nat_cmp q (string_bytes k))) es)
  file_found q es = get-from_entries nat_list_cmp_total _ q ∙ found q es

  pub file_there : (files : FileMap) (es : List (String Y × Vec ℕ Z)) (q : List ℕ) (v : Vec ℕ Z) → files ≡ files_in es → Some v ≡ lookup (λ k. is_eq (slice_cmp nat_cmp q (string_bytes k))) es → get files q ≡ Some v.items
  file_there files es q v is at = ap (λ (f : FileMap). get f q) is ∙ file_found q es ∙ ap (option_map (λ v. v.items)) (sym at)

  pub file_missing : (files : FileMap) (es : List (String Y × Vec ℕ Z)) (q : List ℕ) → files ≡ files_in es → None ≡ lookup (λ k. is_eq (slice_cmp nat_cmp q (string_bytes k))) es → get files q ≡ None
  file_missing files es q is at = ap (λ (f : FileMap). get f q) is ∙ file_found q es ∙ ap (option_map (λ v. v.items)) (sym at)

  put_seen : (k : String Y) (v : Vec ℕ Z) (es : List (String Y × Vec ℕ Z)) → map seen (insert_entry string_cmp es k v) ≡ put (slice_cmp nat_cmp) (string_bytes k) v.items (map seen es)
  put_seen k v [] = refl
  put_seen k v (e ∷ es) = by (slice_cmp nat_cmp (string_bytes k) (string_bytes e.0)) (put_seen k v es)
    where
      by : (r : Ordering) → map seen (insert_entry string_cmp es k v) ≡ put (slice_cmp nat_cmp) (string_bytes k) v.items (map seen es)
          → map seen (match_ordering r ((k, v) ∷ e ∷ es) ((e.0, v) ∷ es) (e ∷ insert_entry string_cmp es k v)) ≡ by_order r ((string_bytes k, v.items) ∷ seen e ∷ map seen es) ((string_bytes e.0, v.items) ∷ map seen es) (seen e ∷ put (slice_cmp nat_cmp) (string_bytes k) v.items (map seen es))
      by Less later = refl
      by Equal later = refl
      by Greater later = ap (λ xs. seen e ∷ xs) later

  -- an entry that is put in sets the file of that name
  pub files_insert : (k : String Y) (v : Vec ℕ Z) (es : List (String Y × Vec ℕ Z)) → files_in (insert_entry string_cmp es k v) ≡ insert (files_in es) (string_bytes k) v.items
  files_insert k v es = same_map nat_list_cmp_total (slice_cmp-IsAntisymmetric nat_cmp-IsAntisymmetric) _ _ (λ q.
      get-from_entries nat_list_cmp_total _ q
      ∙ ap (find (slice_cmp nat_cmp) q) (put_seen k v es)
      ∙ find-put (slice_cmp nat_cmp) nat_list_cmp_total q (string_bytes k) v.items (map seen es)
      ∙ ap (cond (eq_by_cmp (slice_cmp nat_cmp) q (string_bytes k)) (Some v.items)) (sym (get-from_entries nat_list_cmp_total _ q))
      ∙ sym (get-insert nat_list_cmp_total _ _ _ q))

pub not_both : {o : Option (List ℕ)} {bytes : List ℕ} → o ≡ Some bytes → o ≡ None → ⊥
not_both found missing = absurd cc

pub kept_file : (files others : FileMap) (name bytes : List ℕ) → Some files ≡ Some others → get files name ≡ Some bytes → get others name ≡ Some bytes
kept_file files others name bytes same found = cc

-- a state by its fields
pub same_state : {files others : FileMap} {fails fails_too : List ℕ} {calls calls_too fetches fetches_too replaces replaces_too : ℕ} → files ≡ others → fails ≡ fails_too → calls ≡ calls_too → fetches ≡ fetches_too → replaces ≡ replaces_too
    → ◌≡◌ {A = FilesState} (record { files = files; fails = fails; calls = calls; fetches = fetches; replaces = replaces }) (record { files = others; fails = fails_too; calls = calls_too; fetches = fetches_too; replaces = replaces_too })
same_state f a c d e = λ i. record { files = f i; fails = a i; calls = c i; fetches = d i; replaces = e i }
