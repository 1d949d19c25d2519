-- A table with more names than are barred or used has one that is free.
use Rattle.std.proofs.Common.{◌≡◌, ℕ, ◌+◌, ◌<◌, ◌≤◌, inl, inr, eqb, nat_le, Option, Some, None, List, [], ◌∷◌, ◌++◌, length, get_or, map, refl, subst, arith, IsSome}
use Rattle.std.specs.List.{position_from}
use Rattle.std.proofs.lemmas.List.{length-map, length-append}
use Rattle.std.proofs.lemmas.Map.Steps.{le-length_from_below}
use Rattle.std.proofs.lemmas.Bool.{leb-false, eqb-true, eq-eqb}
use Rattle.luf_name.specs.Order as order
use Rattle.luf_interf.specs.declared.uses.Use.{Use}
use Rattle.luf_interf.specs.inner.Uses.{nowhere, number_of, has_number, IsHead, IsTable}
use Rattle.luf_interf.specs.inner.Among.{Among, here, there}
use Rattle.luf_interf.proofs.Among.{any_of}
use Rattle.luf_interf.proofs.BarredWords.{barred_words, barred_among}
use Rattle.luf_interf.proofs.Choice.{nowhere_at, behind_all}
use Rattle.luf_interf.proofs.Nexts.{next_passes}

mapped : {X : Type 0} (f : X → ℕ) (xs : List X) (x : X) → Among x xs → Among (f x) (map f xs)
mapped f [] x m = elim m [ ]
mapped f (y ∷ xs) y' here = here
mapped f (y ∷ xs) x (there m) = there (mapped f xs x m)

front_all : {x : ℕ} {xs : List ℕ} (ys : List ℕ) → Among x xs → Among x (xs ++ ys)
front_all ys here = here
front_all ys (there m) = there (front_all ys m)

barred_numbers : List ℕ
barred_numbers = map order.number_of barred_words

barred_count : length barred_numbers ≡ 24
unfolding barred_numbers
barred_count = length-map barred_words order.number_of

module _ (names behind heads : List ℕ) (to : ℕ) (us : List Use) (table : IsTable names behind heads us) (last : to ≤ nowhere) where
  numbers : List ℕ
  numbers = barred_numbers ++ map (λ u. number_of names u.owner) us

  number_there : (k head : ℕ) → head < to → IsHead names us k head → Among k numbers
  unfolding numbers barred_numbers
  number_there k head low (inl barred) =
      let b = barred.0 in
      front_all (map (λ u. number_of names u.owner) us) (subst (λ n. Among n (map order.number_of barred_words)) b.is.1 (mapped order.number_of barred_words b.name (barred_among b.name b.barred)))
  number_there k head low (inr apart) =
      let at = apart.1 in
      let found = next_passes (has_number names k) us (omega (arith, at, low, last)) in
      behind_all (map order.number_of barred_words) (subst (λ n. Among n (map (λ u. number_of names u.owner) us)) (eqb-true (number_of names found.0.owner) k found.2) (mapped (λ u. number_of names u.owner) us found.0 found.1))

  full : position_from (λ n. nat_le to n) 0 heads ≡ None → length heads ≤ length numbers
  full none = le-length_from_below numbers (length heads) (λ k below.
      any_of (eqb k) numbers k (number_there k (get_or heads k 0) (leb-false to (get_or heads k 0) (nowhere_at (λ n. nat_le to n) heads 0 none k below)) (table.tells k below)) (eq-eqb k k refl))

  count : length numbers ≡ 24 + length us
  unfolding numbers
  count = let a = length-append barred_numbers (map (λ u. number_of names u.owner) us) in let b = length-map us (λ u. number_of names u.owner) in let c = barred_count in omega (arith, a, b, c)

  pub has_room : 24 + length us < length heads → IsSome (position_from (λ n. nat_le to n) 0 heads)
  has_room room = by (position_from (λ n. nat_le to n) 0 heads) refl
    where
      by : (o : Option ℕ) → position_from (λ n. nat_le to n) 0 heads ≡ o → IsSome o
      by None is = let most = full is in let many = count in absurd (omega (arith, most, many, room))
      by (Some k) is = refl
