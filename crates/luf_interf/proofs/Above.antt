-- Numbers in a row under the greatest of each 64, and the first that reaches a bound.
use Rattle.std.proofs.Common.{◌≡◌, ℕ, zero, suc, ◌+◌, ◌*◌, ◌/◌, ◌<◌, ◌≤◌, Bool, true, false, cond, nat_le, Some, None, List, [], ◌∷◌, ◌++◌, inl, inr, length, get_or, slice_get, replicate, refl, sym, ap, subst, ◌∙◌, ⊎_elim, zero-add, arith}
use Rattle.std.specs.List.{position_from}
use Rattle.std.proofs.Math.ListN.{set, length-set}
use Rattle.std.proofs.Math.Seq.{get_or-append_seam, set-append_seam}
use Rattle.std.proofs.lemmas.Option.{none-some, same_Some, slice_get-get_or, get_or_from_slice_get, slice_get_within}
use Rattle.std.proofs.lemmas.List.{length-append, get_or_append_left, length-replicate, get_or-replicate, get_or-set_same, get_or-set_other}
use Rattle.std.proofs.lemmas.Bool.{both_ways, cases_order, le-leb}
use Rattle.std.proofs.lemmas.Bool.Decides.{nat_tests}
use Rattle.luf_interf.specs.inner.Maxima.{IsAbove, AreLevels, IsLonger}
use Rattle.luf_interf.proofs.Last.{first_is, first_none}

-- ---- the first that passes

module _ {X : Type 0} (test : X → Bool) where
  pub before_first : (n : ℕ) (xs : List X) (k : ℕ) (d : X) → position_from test n xs ≡ Some k → (i : ℕ) → n + i < k → test (get_or xs i d) ≡ false
  before_first n [] k d is i below = absurd (none-some k is)
  before_first n (x ∷ xs) k d is i below = by (test x) refl is i below (before_first (n + 1) xs k d)
    where
      by : (b : Bool) → test x ≡ b → cond b (Some n) (position_from test (n + 1) xs) ≡ Some k → (j : ℕ) → n + j < k
          → (position_from test (n + 1) xs ≡ Some k → (i : ℕ) → n + 1 + i < k → test (get_or xs i d) ≡ false) → test (get_or (x ∷ xs) j d) ≡ false
      by true passes at j less rest = let same : n ≡ k = same_Some n k at in absurd (omega (arith, same, less))
      by false fails at zero less rest = fails
      by false fails at (suc j) less rest = rest at j (omega (arith, less))

  pub none_first : (n : ℕ) (xs : List X) (d : X) → position_from test n xs ≡ None → (i : ℕ) → i < length xs → test (get_or xs i d) ≡ false
  none_first n [] d is i below = absurd (omega (arith, below))
  none_first n (x ∷ xs) d is i below = by (test x) refl is i below (none_first (n + 1) xs d)
    where
      by : (b : Bool) → test x ≡ b → cond b (Some n) (position_from test (n + 1) xs) ≡ None → (j : ℕ) → j < length (x ∷ xs)
          → (position_from test (n + 1) xs ≡ None → (i : ℕ) → i < length xs → test (get_or xs i d) ≡ false) → test (get_or (x ∷ xs) j d) ≡ false
      by true passes at j less rest = absurd (none-some n (sym at))
      by false fails at zero less rest = fails
      by false fails at (suc j) less rest = rest at j (omega (arith, less))

  -- and it passes
  pub record FirstAt (n : ℕ) (xs : List X) (k : ℕ) (d : X) : Type 0 where
    pub index : ℕ
    pub at : k ≡ n + index
    pub within : index < length xs
    pub passes : test (get_or xs index d) ≡ true

  pub first_at : (n : ℕ) (xs : List X) (k : ℕ) (d : X) → position_from test n xs ≡ Some k → FirstAt n xs k d
  first_at n [] k d is = absurd (none-some k is)
  first_at n (x ∷ xs) k d is = by (test x) refl is (first_at (n + 1) xs k d)
    where
      by : (b : Bool) → test x ≡ b → cond b (Some n) (position_from test (n + 1) xs) ≡ Some k → (position_from test (n + 1) xs ≡ Some k → FirstAt (n + 1) xs k d) → FirstAt n (x ∷ xs) k d
      by true passes at rest = let same : n ≡ k = same_Some n k at in record { index = 0; at = omega (arith, same); within = omega arith; passes = passes }
      by false fails at rest = let found = rest at in let is_at = found.at in let within = found.within in
          record { index = suc found.index; at = omega (arith, is_at); within = omega (arith, within); passes = found.passes }

below_fails : (bound n : ℕ) → n < bound → nat_le bound n ≡ false
below_fails bound n below = grind (arith, nat_tests)

pub fails_below : (bound n : ℕ) → nat_le bound n ≡ false → n < bound
fails_below bound n fails = ⊎_elim (λ same. absurd (both_ways (nat_le bound n) fails (le-leb bound n (omega (arith, same)))))
    (⊎_elim (λ less. absurd (both_ways (nat_le bound n) fails (le-leb bound n (omega (arith, less))))) (λ above. above)) (cases_order bound n)

module _ (xs : List ℕ) (bound : ℕ) where
  at_is : (i x : ℕ) → slice_get xs i ≡ Some x → get_or xs i 0 ≡ x
  at_is i x is = get_or_from_slice_get xs i x 0 is

  pub first_reaches : (i : ℕ) → i < length xs → bound ≤ get_or xs i 0 → ((k : ℕ) → k < i → k < length xs → get_or xs k 0 < bound) → position_from (λ n. nat_le bound n) 0 xs ≡ Some i
  first_reaches i within reaches before =
      first_is (λ n. nat_le bound n) 0 xs i (get_or xs i 0) (slice_get-get_or xs i 0 within) (le-leb bound (get_or xs i 0) reaches)
      (λ m y less is. let e : get_or xs m 0 ≡ y = at_is m y is in let low = before m less (omega (arith, less, within)) in below_fails bound y (omega (arith, e, low)))
      ∙ ap Some (zero-add i)

  pub none_reaches : ((k : ℕ) → k < length xs → get_or xs k 0 < bound) → position_from (λ n. nat_le bound n) 0 xs ≡ None
  none_reaches low = first_none (λ n. nat_le bound n) 0 xs
      (λ m y is. let e : get_or xs m 0 ≡ y = at_is m y is in let less = low m (slice_get_within xs m y is) in below_fails bound y (omega (arith, e, less)))

  module _ (tops : List ℕ) (above : IsAbove xs tops) where
    -- what stands under a number that is less is less
    passed : (i : ℕ) → i < length xs → nat_le bound (get_or tops (i / 64) 0) ≡ false → get_or xs i 0 < bound
    passed i within fails = let high = above.high i within in let low = fails_below bound (get_or tops (i / 64) 0) fails in omega (arith, high, low)

    pub passed_before : (seen now : List ℕ) → seen ≡ tops → now ≡ xs → (k to : ℕ) → Some k ≡ position_from (λ n. nat_le bound n) 0 seen → to ≤ k * 64 → (i : ℕ) → i < to → i < length now → get_or now i 0 < bound
    passed_before seen now same this k to is far i before within =
        let at : Some k ≡ position_from (λ n. nat_le bound n) 0 tops = is ∙ ap (position_from (λ n. nat_le bound n) 0) same in
        let inside : i < length xs = subst (λ l. i < length l) this within in
        subst (λ l. get_or l i 0 < bound) (sym this) (passed i inside (before_first (λ n. nat_le bound n) 0 tops k 0 (sym at) (i / 64) (omega (arith, before, far))))

    pub passed_all : position_from (λ n. nat_le bound n) 0 tops ≡ None → position_from (λ n. nat_le bound n) 0 xs ≡ None
    passed_all is = none_reaches (λ i within. passed i within (none_first (λ n. nat_le bound n) 0 tops 0 is (i / 64) (let room = above.room in omega (arith, within, room))))

none_seen : (xs seen : List ℕ) (bound : ℕ) → seen ≡ xs → None ≡ position_from (λ n. nat_le bound n) 0 seen → position_from (λ n. nat_le bound n) 0 xs ≡ None
none_seen xs seen bound same is = sym (is ∙ ap (position_from (λ n. nat_le bound n) 0) same)

-- where nothing above reaches the bound, nothing below does
module _ (row numbers blocks groups tops : List ℕ) (levels : AreLevels numbers blocks groups tops) (is_row : numbers ≡ row) (bound : ℕ) (seen : List ℕ) where
  of_row : position_from (λ n. nat_le bound n) 0 numbers ≡ None → None ≡ position_from (λ n. nat_le bound n) 0 row
  of_row none = sym none ∙ ap (position_from (λ n. nat_le bound n) 0) is_row

  pub none_of_blocks : seen ≡ blocks → None ≡ position_from (λ n. nat_le bound n) 0 seen → None ≡ position_from (λ n. nat_le bound n) 0 row
  none_of_blocks same is = of_row (passed_all numbers bound blocks levels.first (none_seen blocks seen bound same is))

  pub none_of_groups : seen ≡ groups → None ≡ position_from (λ n. nat_le bound n) 0 seen → None ≡ position_from (λ n. nat_le bound n) 0 row
  none_of_groups same is = of_row (passed_all numbers bound blocks levels.first (passed_all blocks bound groups levels.second (none_seen groups seen bound same is)))

  pub none_of_tops : seen ≡ tops → None ≡ position_from (λ n. nat_le bound n) 0 seen → None ≡ position_from (λ n. nat_le bound n) 0 row
  none_of_tops same is = of_row (passed_all numbers bound blocks levels.first (passed_all blocks bound groups levels.second (passed_all groups bound tops levels.third (none_seen tops seen bound same is))))

-- ---- numbers as they change

pub above_of : (n m v : ℕ) → n ≤ m * 64 → IsAbove (replicate n v) (replicate m v)
above_of n m v few =
    let long : length (replicate n v) ≡ n = length-replicate n v in
    let wide : length (replicate m v) ≡ m = length-replicate m v in
    record {
      room = omega (arith, long, wide, few);
      high = λ i within.
          let one : get_or (replicate n v) i 0 ≡ v = get_or-replicate n i v 0 (omega (arith, within, long)) in
          let other : get_or (replicate m v) (i / 64) 0 ≡ v = get_or-replicate m (i / 64) v 0 (omega (arith, within, long, few)) in
          omega (arith, one, other);
    }

pub above_set : (xs tops seen : List ℕ) (p v w : ℕ) → p < length xs → seen ≡ set xs p v → ((i : ℕ) → i < length seen → i / 64 ≡ p / 64 → get_or seen i 0 ≤ w) → IsAbove xs tops → IsAbove (set xs p v) (set tops (p / 64) w)
above_set xs tops seen p v w within is most above =
    let room = above.room in
    let long : length (set xs p v) ≡ length xs = length-set xs p v in
    let wide : length (set tops (p / 64) w) ≡ length tops = length-set tops (p / 64) w in
    record {
      room = omega (arith, room, long, wide);
      high = λ i inside. ⊎_elim
          (λ same. let e : get_or (set tops (p / 64) w) (i / 64) 0 ≡ w = ap (λ k. get_or (set tops (p / 64) w) k 0) same ∙ get_or-set_same tops (p / 64) w 0 (omega (arith, within, room)) in
          let low = subst (λ l. get_or l i 0 ≤ w) is (most i (subst (λ l. i < length l) (sym is) inside) same) in omega (arith, e, low))
          (λ differs. let other : i / 64 ≡ p / 64 → ⊥ = λ same. ⊎_elim (λ less. omega (arith, less, same)) (λ more. omega (arith, more, same)) differs in
          let e : get_or (set tops (p / 64) w) (i / 64) 0 ≡ get_or tops (i / 64) 0 = get_or-set_other tops (p / 64) (i / 64) w 0 other in
          let d : get_or (set xs p v) i 0 ≡ get_or xs i 0 = get_or-set_other xs p i v 0 (λ one. other (ap (λ k. k / 64) one)) in
          let high = above.high i (omega (arith, inside, long)) in omega (arith, e, d, high))
          (cases_order (i / 64) (p / 64));
    }

-- ---- one number more

more_above : (xs tops : List ℕ) (w : ℕ) → IsAbove xs tops → IsAbove xs (tops ++ w ∷ [])
more_above xs tops w above = let room = above.room in let long = length-append tops (w ∷ []) in record {
  room = omega (arith, room, long);
  high = λ i within. let same = get_or_append_left tops (w ∷ []) 0 (i / 64) (omega (arith, within, room)) in let high = above.high i within in omega (arith, same, high);
}

none_under : (xs tops : List ℕ) → IsAbove xs tops → length xs < length tops * 64 → IsAbove (xs ++ 0 ∷ []) tops
none_under xs tops above more = let long = length-append xs (0 ∷ []) in record {
  room = omega (arith, more, long);
  high = λ i within. ⊎_elim
      (λ same. let last : get_or (xs ++ 0 ∷ []) i 0 ≡ 0 = ap (λ k. get_or (xs ++ 0 ∷ []) k 0) same ∙ get_or-append_seam xs 0 [] 0 in omega (arith, last))
      (⊎_elim (λ less. let old = get_or_append_left xs (0 ∷ []) 0 i less in let high = above.high i less in omega (arith, old, high)) (λ past. absurd (omega (arith, within, long, past))))
      (cases_order i (length xs));
}

pub longer_above : (xs old new : List ℕ) → IsLonger old new → IsAbove xs old → IsAbove xs new
longer_above xs old new (inl same) above = subst (IsAbove xs) (sym same) above
longer_above xs old new (inr more) above = subst (IsAbove xs) (sym more) (more_above xs old 0 above)

pub longer_under : (old new tops : List ℕ) → IsLonger old new → length old < length tops * 64 → IsAbove old tops → IsAbove new tops
longer_under old new tops (inl same) room above = subst (λ l. IsAbove l tops) (sym same) above
longer_under old new tops (inr more) room above = subst (λ l. IsAbove l tops) (sym more) (none_under old tops above room)

module _ (numbers b more_b g more_g t more_t : List ℕ) (levels : AreLevels numbers b g t) (longer_t : IsLonger t more_t) (room_g : length g < length more_t * 64) (longer_g : IsLonger g more_g) (room_b : length b < length more_g * 64) (longer_b : IsLonger b more_b) where
  pub roomy : AreLevels numbers more_b more_g more_t
  roomy = record {
    first = longer_above numbers b more_b longer_b levels.first;
    second = longer_under b more_b more_g longer_b room_b (longer_above b g more_g longer_g levels.second);
    third = longer_under g more_g more_t longer_g room_g (longer_above g t more_t longer_t levels.third);
  }

  pub pushed : (new : List ℕ) → new ≡ numbers ++ 0 ∷ [] → length numbers < length more_b * 64 → AreLevels new more_b more_g more_t
  pushed new is room = record { first = longer_under numbers new more_b (inr is) room roomy.first; second = roomy.second; third = roomy.third }

-- a 0 at the end, replaced
pub pushed_is : (row old new last : List ℕ) (place number : ℕ) → old ≡ row → new ≡ old ++ 0 ∷ [] → place ≡ length old → last ≡ set new place number → last ≡ row ++ number ∷ []
pushed_is row old new last place number is_row is at then =
    then ∙ ap (λ l. set l place number) is ∙ ap (λ k. set (old ++ 0 ∷ []) k number) at ∙ set-append_seam old 0 [] number ∙ ap (λ l. l ++ number ∷ []) is_row
