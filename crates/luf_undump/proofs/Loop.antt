-- Reading so many of one kind one after the other, as a loop does.
use Rattle.std.proofs.Common.{◌≡◌, ℕ, suc, ◌-◌, ◌+◌, ◌≤◌, ◌<◌, List, [], ◌∷◌, ◌++◌, Result, Ok, Err, refl, sym, ap, ◌∙◌, append_assoc, arith}
use Rattle.std.proofs.lemmas.List.{append-nil}
use Rattle.luf_undump.specs.declared.error.Stop.{Stop}
use Rattle.luf_undump.specs.declared.error.Stop.TheVariants.{Bad, Memory}
use Rattle.luf_undump.specs.Reading.{◌>>=◌, Wrong, many_at, skip_at}
use Rattle.luf_undump.specs.inner.Gives.{Fails}

-- what was read before, and what is still read
abbrev pub with_front : {A : Type 0} → List A → Result (List A × List ℕ) Wrong → Result (List A × List ℕ) Wrong
with_front front read = read >>= λ x. Ok (front ++ x.0, x.1)

module _ {A : Type 0} (item_at : List ℕ → Result (A × List ℕ) Wrong) where
  regroup : (front : List A) (x : A) (read : Result (List A × List ℕ) Wrong) → with_front front (read >>= λ y. Ok (x ∷ y.0, y.1)) ≡ with_front (front ++ x ∷ []) read
  regroup front x (Ok y) = ap (λ (xs : List A). Ok (xs, y.1)) (simp append_assoc)
  regroup front x (Err f) = refl

  pub goes_on : (front : List A) (count i : ℕ) (bytes : List ℕ) (x : A) (after : List ℕ) (total : Result (List A × List ℕ) Wrong) → i < count → item_at bytes ≡ Ok (x, after)
      → with_front front (many_at item_at (count - i) bytes) ≡ total → with_front (front ++ x ∷ []) (many_at item_at (count - (i + 1)) after) ≡ total
  unfolding many_at
  goes_on front count i bytes x after total lt h so_far =
      let k : count - i ≡ suc (count - (i + 1)) = omega arith in
      let one : with_front front (many_at item_at (count - i) bytes) ≡ with_front (front ++ x ∷ []) (many_at item_at (count - (i + 1)) after) =
      rw (k, h) (regroup front x (many_at item_at (count - (i + 1)) after)) in
      sym one ∙ so_far

  pub ends : (e : Stop) (front : List A) (count i : ℕ) (bytes : List ℕ) (total : Result (List A × List ℕ) Wrong) → i < count → Fails e (item_at bytes)
      → with_front front (many_at item_at (count - i) bytes) ≡ total → Fails e total
  unfolding many_at
  ends Memory front count i bytes total lt h so_far = tt
  ends (Bad left what) front count i bytes total lt h so_far =
      let k : count - i ≡ suc (count - (i + 1)) = omega arith in
      let one : with_front front (many_at item_at (count - i) bytes) ≡ Err (record { left = left; what = what }) = rw (k, h) refl in
      sym so_far ∙ one

  pub is_done : (front : List A) (count i : ℕ) (bytes : List ℕ) (total : Result (List A × List ℕ) Wrong) → count ≤ i → with_front front (many_at item_at (count - i) bytes) ≡ total → total ≡ Ok (front, bytes)
  unfolding many_at
  is_done front count i bytes total le so_far =
      let k : count - i ≡ 0 = omega arith in
      let one : with_front front (many_at item_at (count - i) bytes) ≡ Ok (front, bytes) = rw k (ap (λ (xs : List A). Ok (xs, bytes)) (append-nil front)) in
      sym so_far ∙ one

module _ (item_at : List ℕ → Result (List ℕ) Wrong) where
  pub skips_on : (count i : ℕ) (bytes after : List ℕ) (total : Result (List ℕ) Wrong) → i < count → item_at bytes ≡ Ok after
      → skip_at item_at (count - i) bytes ≡ total → skip_at item_at (count - (i + 1)) after ≡ total
  unfolding skip_at
  skips_on count i bytes after total lt h so_far =
      let k : count - i ≡ suc (count - (i + 1)) = omega arith in
      let one : skip_at item_at (count - i) bytes ≡ skip_at item_at (count - (i + 1)) after = rw (k, h) refl in
      sym one ∙ so_far

  pub skip_ends : (e : Stop) (count i : ℕ) (bytes : List ℕ) (total : Result (List ℕ) Wrong) → i < count → Fails e (item_at bytes) → skip_at item_at (count - i) bytes ≡ total → Fails e total
  unfolding skip_at
  skip_ends Memory count i bytes total lt h so_far = tt
  skip_ends (Bad left what) count i bytes total lt h so_far =
      let k : count - i ≡ suc (count - (i + 1)) = omega arith in
      let one : skip_at item_at (count - i) bytes ≡ Err (record { left = left; what = what }) = rw (k, h) refl in
      sym so_far ∙ one

  pub skip_done : (count i : ℕ) (bytes : List ℕ) (total : Result (List ℕ) Wrong) → count ≤ i → skip_at item_at (count - i) bytes ≡ total → total ≡ Ok bytes
  unfolding skip_at
  skip_done count i bytes total le so_far =
      let k : count - i ≡ 0 = omega arith in
      let one : skip_at item_at (count - i) bytes ≡ Ok bytes = rw k refl in
      sym so_far ∙ one
