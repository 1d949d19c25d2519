-- The numbers of names.
use Rattle.std.proofs.Common.{◌≡◌, ◌≢◌, ℕ, ◌<◌, Bool, true, false, cond, nat_eq, Option, Some, None, Result, Ok, Err, OnOk, inl, inr, List, length, get_or, slice_get, slice_set, bytes_eq, refl, sym, ap, ◌∙◌, arith, Bor}
use Rattle.std.specs.BTreeMap.{BTreeMap, UpdatesBy}
use Rattle.std.specs.Cmp.Lexicographic.{slice_cmp}
use Rattle.std.specs.Option.{option_or, option_and_then}
use Rattle.std.specs.Ordering.{nat_cmp}
use Rattle.std.proofs.lemmas.Bool.{cases_lt}
use Rattle.std.proofs.lemmas.Bool.Decides.{nat_tests}
use Rattle.std.proofs.lemmas.List.{length-set, get_or-set_same, get_or-set_other}
use Rattle.std.proofs.lemmas.Map.Text.{btree_map_updates_str}
use Rattle.std.proofs.lemmas.Option.{slice_get-get_or, slice_get_past, slice_get_read}
use Rattle.std.proofs.lemmas.Slice.Eq.{bytes_eq-Decides}
use Rattle.luf_scope.specs.declared.names.Bucket.{Bucket}
use Rattle.luf_scope.specs.inner.Buckets.{bucket_from, number_among, number_in}

or_none : (o : Option ℕ) → option_or o None ≡ o
or_none None = refl
or_none (Some x) = refl

new_at : (b : Bool) (o : Option ℕ) (n : ℕ) → (b ≡ true → o ≡ None) → cond b (Some n) o ≡ option_or o (cond b (Some n) None)
new_at true o n none = sym (ap (λ x. option_or x (Some n)) (none refl))
new_at false None n none = refl
new_at false (Some x) n none = refl

-- a name that has no number yet is given one
pub added : (bs : List ℕ) (old new : BTreeMap (Bor (List ℕ)) ℕ) (n : ℕ) → number_among old bs ≡ None → UpdatesBy (λ x y. slice_cmp nat_cmp x.now y.now) (λ k. slice_cmp nat_cmp bs k.now) old new (Some n) → (other : List ℕ) → number_among new other ≡ option_or (number_among old other) (cond (bytes_eq bs other) (Some n) None)
added bs old new n none updates other =
    btree_map_updates_str bs old new (Some n) updates other
    ∙ new_at (bytes_eq bs other) (number_among old other) n (λ same. ap (number_among old) (sym ((bytes_eq-Decides bs other).0 same)) ∙ none)

-- and one that has a number keeps it
pub kept : (bs : List ℕ) (numbers : BTreeMap (Bor (List ℕ)) ℕ) (n found : ℕ) → number_among numbers bs ≡ Some found → (other : List ℕ) → number_among numbers other ≡ option_or (number_among numbers other) (cond (bytes_eq bs other) (Some n) None)
kept bs numbers n found is other = by (bytes_eq bs other) refl
  where
    some : (o : Option ℕ) → o ≡ Some found → o ≡ option_or o (Some n)
    some None is = absurd cc
    some (Some x) is = refl

    by : (b : Bool) → bytes_eq bs other ≡ b → number_among numbers other ≡ option_or (number_among numbers other) (cond b (Some n) None)
    by true same = some (number_among numbers other) (ap (number_among numbers) (sym ((bytes_eq-Decides bs other).0 same)) ∙ is)
    by false apart = sym (or_none (number_among numbers other))

away : {A : Type 0} (xs : List A) (i j : ℕ) (a : A) → j ≢ i → slice_get (slice_set xs i a) j ≡ slice_get xs j
away xs i j a apart = elim (cases_lt j (length xs)) [
  | inl within ↦ slice_get-get_or (slice_set xs i a) j a (omega (arith, length-set xs i a)) ∙ ap Some (get_or-set_other xs i j a a apart) ∙ sym (slice_get-get_or xs j a within)
  | inr past ↦ slice_get_past (slice_set xs i a) j (omega (arith, length-set xs i a)) ∙ sym (slice_get_past xs j past)
]

-- a change of one bucket is one of the names of that bucket
module _ (bs : List ℕ) (old : List Bucket) (before after : Bucket) (n k : ℕ) (at : k ≡ bucket_from 0 bs) (inside : k < length old) (is : before ≡ get_or old k before) where
  here_new : slice_get (slice_set old k after) k ≡ Some after
  here_new = slice_get-get_or (slice_set old k after) k after (omega (arith, length-set old k after)) ∙ ap Some (get_or-set_same old k after after inside)

  here_old : slice_get old k ≡ Some before
  here_old = slice_get_read old (length old) k before refl inside is

  pub changed : ((other : List ℕ) → number_among after.numbers other ≡ option_or (number_among before.numbers other) (cond (bytes_eq bs other) (Some n) None)) → (other : List ℕ) → number_in (slice_set old k after) other ≡ option_or (number_in old other) (cond (bytes_eq bs other) (Some n) None)
  changed numbers other = by (nat_eq (bucket_from 0 other) k) refl
    where
      unlike : (b : Bool) → bytes_eq bs other ≡ b → nat_eq (bucket_from 0 other) k ≡ false → (o : Option ℕ) → o ≡ option_or o (cond b (Some n) None)
      unlike true same apart o = let one : bucket_from 0 other ≡ k = ap (bucket_from 0) (sym ((bytes_eq-Decides bs other).0 same)) ∙ sym at in absurd (grind (arith, nat_tests))
      unlike false same apart o = sym (or_none o)

      by : (b : Bool) → nat_eq (bucket_from 0 other) k ≡ b → number_in (slice_set old k after) other ≡ option_or (number_in old other) (cond (bytes_eq bs other) (Some n) None)
      by true eq =
          let one : bucket_from 0 other ≡ k = grind (arith, nat_tests) in
          ap (λ r. option_and_then (λ (b : Bucket). number_among b.numbers other) r) (ap (slice_get (slice_set old k after)) one ∙ here_new)
          ∙ numbers other
          ∙ ap (λ r. option_or (option_and_then (λ (b : Bucket). number_among b.numbers other) r) (cond (bytes_eq bs other) (Some n) None)) (sym (ap (slice_get old) one ∙ here_old))
      by false apart =
          let further : bucket_from 0 other ≢ k = λ eq. grind (arith, nat_tests) in
          ap (λ r. option_and_then (λ (b : Bucket). number_among b.numbers other) r) (away old k (bucket_from 0 other) after further)
          ∙ unlike (bytes_eq bs other) refl apart (number_in old other)

on_ok : {A E : Type 0} (r : Result A E) (P Q : Type 0) → (P → Q) → OnOk r P → OnOk r Q
on_ok (Ok x) P Q then given = then given
on_ok (Err e) P Q then given = tt

pub changed_if : {E : Type 0} (r : Result ℕ E) (bs : List ℕ) (old : List Bucket) (before after : Bucket) (n k : ℕ) → k ≡ bucket_from 0 bs → k < length old → before ≡ get_or old k before
    → OnOk r ((other : List ℕ) → number_among after.numbers other ≡ option_or (number_among before.numbers other) (cond (bytes_eq bs other) (Some n) None))
    → OnOk r ((other : List ℕ) → number_in (slice_set old k after) other ≡ option_or (number_in old other) (cond (bytes_eq bs other) (Some n) None))
changed_if r bs old before after n k at inside is = on_ok r
    ((other : List ℕ) → number_among after.numbers other ≡ option_or (number_among before.numbers other) (cond (bytes_eq bs other) (Some n) None))
    ((other : List ℕ) → number_in (slice_set old k after) other ≡ option_or (number_in old other) (cond (bytes_eq bs other) (Some n) None))
    (changed bs old before after n k at inside is)
