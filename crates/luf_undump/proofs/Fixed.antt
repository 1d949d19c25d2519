-- Bytes that must be these, one by one.
use Rattle.std.proofs.Common.{◌≡◌, ℕ, zero, suc, ◌<◌, ◌≤◌, List, [], ◌∷◌, length, drop, get_or, Result, Ok, Err, refl, sym, ◌∙◌, arith}
use Rattle.luf_undump.specs.Reading.{Wrong, fixed_at, fixed_byte_at}
use Rattle.luf_undump.specs.declared.error.Stop.{Stop}
use Rattle.luf_undump.specs.declared.error.Stop.TheVariants.{Bad, Memory}
use Rattle.luf_undump.specs.inner.Gives.{Fails}

pub drop_item : (xs : List ℕ) (i : ℕ) → i < length xs → drop i xs ≡ get_or xs i 0 ∷ drop (suc i) xs
drop_item [] i within = absurd (omega arith)
drop_item (x ∷ xs) zero within = refl
drop_item (x ∷ xs) (suc i) within = drop_item xs i (omega arith)

drop_all : (xs : List ℕ) (i : ℕ) → length xs ≤ i → drop i xs ≡ []
drop_all [] zero done = refl
drop_all [] (suc i) done = refl
drop_all (x ∷ xs) zero done = absurd (omega arith)
drop_all (x ∷ xs) (suc i) done = drop_all xs i (omega arith)

module _ (wanted : List ℕ) (i : ℕ) (rest : List ℕ) (total : Result (List ℕ) Wrong) (within : i < length wanted) (so_far : fixed_at (drop i wanted) rest ≡ total) where
  pub fixed_more : (after : List ℕ) → fixed_byte_at (get_or wanted i 0) rest ≡ Ok after → fixed_at (drop (suc i) wanted) after ≡ total
  unfolding fixed_at
  fixed_more after is = let one : fixed_at (drop i wanted) rest ≡ fixed_at (drop (suc i) wanted) after = rw (drop_item wanted i within, is) refl in sym one ∙ so_far

  pub fixed_ends : (e : Stop) → Fails e (fixed_byte_at (get_or wanted i 0) rest) → Fails e total
  unfolding fixed_at
  fixed_ends Memory is = tt
  fixed_ends (Bad left what) is =
      let one : fixed_at (drop i wanted) rest ≡ Err (record { left = left; what = what }) = rw (drop_item wanted i within, is) refl in sym so_far ∙ one

pub fixed_done : (wanted : List ℕ) (i : ℕ) (rest : List ℕ) (total : Result (List ℕ) Wrong) → length wanted ≤ i → fixed_at (drop i wanted) rest ≡ total → total ≡ Ok rest
unfolding fixed_at
fixed_done wanted i rest total done so_far = let one : fixed_at (drop i wanted) rest ≡ Ok rest = rw (drop_all wanted i done) refl in sym so_far ∙ one
