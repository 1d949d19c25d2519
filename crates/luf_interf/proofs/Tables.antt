-- The table of a function's labels, and what it tells of the numbers that are free.
use Rattle.std.proofs.Common.{◌≡◌, ℕ, ◌+◌, ◌<◌, ◌≤◌, ◌⊎◌, inl, inr, Some, List, [], ◌∷◌, ◌++◌, length, get_or, slice_get, refl, sym, ap, subst, ◌∙◌, ⊎_elim, arith}
use Rattle.std.proofs.Math.Seq.{get_or-append_seam}
use Rattle.std.proofs.lemmas.Option.{same_Some}
use Rattle.std.proofs.Math.ListN.{set}
use Rattle.std.proofs.lemmas.List.{length-append, get_or_append_left, get_or_default, get_or-set_same, get_or-set_other}
use Rattle.std.proofs.lemmas.Bool.{cases_order, cases_lt}
use Rattle.luf_interf.specs.declared.label_rows.LabelRow.{LabelRow}
use Rattle.luf_interf.specs.inner.LabelNumbers.{IsBarredNumber, IsTaken, IsLeastNumber, HasReach, IsNoted, IsTable, IsPicked}

-- a number among those before, or the last
module _ (numbers : List ℕ) (k : ℕ) where
  pub longer : length (numbers ++ k ∷ []) ≡ length numbers + 1
  longer = let long = length-append numbers (k ∷ []) in omega (arith, long)

  pub before : (n : ℕ) → n < length numbers → get_or (numbers ++ k ∷ []) n 0 ≡ get_or numbers n 0
  before n within = get_or_append_left numbers (k ∷ []) 0 n within

  pub last : get_or (numbers ++ k ∷ []) (length numbers) 0 ≡ k
  last = get_or-append_seam numbers k [] 0

module _ (rows : List LabelRow) (numbers : List ℕ) (p : ℕ) where
  taken_later : (n : ℕ) (row : LabelRow) (k : ℕ) → n ≤ length numbers → IsTaken rows numbers n row k → IsTaken rows (numbers ++ p ∷ []) n row k
  taken_later n row k on t = let earlier = t.earlier in
      record { number = t.number; other = t.other; earlier = t.earlier; is = t.is; class = t.class; reaches = t.reaches; same = before numbers p t.number (omega (arith, earlier, on)) ∙ t.same }

  taken_before : (n : ℕ) (row : LabelRow) (k : ℕ) → n ≤ length numbers → IsTaken rows (numbers ++ p ∷ []) n row k → IsTaken rows numbers n row k
  taken_before n row k on t = let earlier = t.earlier in
      record { number = t.number; other = t.other; earlier = t.earlier; is = t.is; class = t.class; reaches = t.reaches; same = sym (before numbers p t.number (omega (arith, earlier, on))) ∙ t.same }

  -- what is least stays so with a number more
  pub least_later : (n : ℕ) (row : LabelRow) (k : ℕ) → n ≤ length numbers → IsLeastNumber rows numbers n row k → IsLeastNumber rows (numbers ++ p ∷ []) n row k
  least_later n row k on l = record {
    allowed = l.allowed;
    free = λ t. l.free (taken_before n row k on t);
    least = λ j below. ⊎_elim (λ b. inl b) (λ t. inr (taken_later n row j on t)) (l.least j below);
  }

  reach_later : (class : ℕ) (old new : List ℕ) (k : ℕ) → get_or new k 0 ≡ get_or old k 0 → HasReach rows numbers class old k → HasReach rows (numbers ++ p ∷ []) class new k
  reach_later class old new k same h = let done = h.done in let far = h.far in let long = longer numbers p in record {
    number = h.number;
    other = h.other;
    done = omega (arith, done, long);
    is = h.is;
    class_is = h.class_is;
    same = before numbers p h.number h.done ∙ h.same;
    far = omega (arith, far, same);
  }

  -- the table of another function
  pub table_later : (class : ℕ) (table : List ℕ) (row : LabelRow) → slice_get rows (length numbers) ≡ Some row → (row.class ≡ class → ⊥) → IsTable rows numbers class table → IsTable rows (numbers ++ p ∷ []) class table
  table_later class table row here other t = record {
    barred = t.barred;
    noted = λ n r within is same. ⊎_elim
        (λ less. subst (λ k. IsNoted table k r.to) (sym (before numbers p n less)) (t.noted n r less is same))
        (λ past. let long = longer numbers p in let at : n ≡ length numbers = omega (arith, within, long, past) in
        absurd (other (ap (λ x. x.class) (same_Some row r (sym here ∙ ap (slice_get rows) (sym at) ∙ is)) ∙ same)))
        (cases_lt n (length numbers));
    met = λ k within. ⊎_elim (λ b. inl b) (λ h. inr (reach_later class table table k refl h)) (t.met k within);
  }

  module _ (old new : List ℕ) (row : LabelRow) (here : slice_get rows (length numbers) ≡ Some row) (some : row.from < row.to) (fits : row.to ≤ 4294967295) (t : IsTable rows numbers row.class old) (picked : IsPicked old row p new) where
    not_barred : IsBarredNumber p → ⊥
    not_barred b = ⊎_elim
        (λ inside. let zero = t.barred p inside b in let reached = picked.reached inside in omega (arith, zero, reached, some, fits))
        (λ past. picked.allowed past b)
        (cases_lt p (length old))

    pub picked_least : IsLeastNumber rows numbers (length numbers) row p
    picked_least = record {
      allowed = not_barred;
      free = λ k. let note = subst (λ q. IsNoted old q k.other.to) k.same (t.noted k.number k.other k.earlier k.is k.class) in
          let inside = note.within in let low = note.low in let reached = picked.reached inside in let reaches = k.reaches in omega (arith, low, reached, reaches);
      least = λ j below. ⊎_elim
          (λ inside. ⊎_elim (λ b. inl b)
          (λ h. let far = h.far in let passed = picked.passed j below inside in
          inr (record { number = h.number; other = h.other; earlier = h.done; is = h.is; class = h.class_is; reaches = omega (arith, far, passed); same = h.same }))
          (t.met j inside))
          (λ past. inl (picked.skipped j past below).0)
          (cases_lt j (length old));
    }

    -- where a number of the new table stands
    where_is : (j : ℕ) → j < length new → (j ≡ p) ⊎ (((j ≡ p → ⊥) × (j < length old)) ⊎ ((length old ≤ j) × (j < p)))
    where_is j within = ⊎_elim
        (λ same. inl same)
        (λ differ. let other : j ≡ p → ⊥ = λ same. ⊎_elim (λ less. omega (arith, less, same)) (λ more. omega (arith, more, same)) differ in
        ⊎_elim (λ inside. inr (inl (other, inside))) (λ past. inr (inr (
          past,
          ⊎_elim (λ less. less) (λ more. absurd (⊎_elim (λ inside. let long = picked.inside inside in omega (arith, long, within, past)) (λ out. let long = picked.outside out in omega (arith, long, within, more)) (cases_lt p (length old)))) differ,
        )))
        (cases_lt j (length old)))
        (cases_order j p)

    wider : (j : ℕ) → j < length old → j < length new
    wider j inside = ⊎_elim (λ p_inside. let long = picked.inside p_inside in omega (arith, long, inside)) (λ out. let long = picked.outside out in omega (arith, long, inside, out)) (cases_lt p (length old))

    has : p < length new
    has = ⊎_elim (λ inside. let long = picked.inside inside in omega (arith, long, inside)) (λ out. let long = picked.outside out in omega (arith, long)) (cases_lt p (length old))

    -- what was noted is noted still
    noted_still : (k to : ℕ) → IsNoted old k to → IsNoted new k to
    noted_still k to note = let within = note.within in let low = note.low in record {
      within = wider k note.within;
      low = ⊎_elim
          (λ same. let now : get_or new k 0 + row.to ≡ 4294967295 = subst (λ q. get_or new q 0 + row.to ≡ 4294967295) (sym same) picked.at in
          let reached : 4294967295 ≤ get_or old k 0 + row.from = subst (λ q. 4294967295 ≤ get_or old q 0 + row.from) (sym same) (picked.reached (subst (λ q. q < length old) same note.within)) in
          omega (arith, now, reached, low, some))
          (λ differ. let kept = picked.kept k note.within (λ same. ⊎_elim (λ less. omega (arith, less, same)) (λ more. omega (arith, more, same)) differ) in omega (arith, kept, low))
          (cases_order k p);
    }

    pub picked_table : IsTable rows (numbers ++ p ∷ []) row.class new
    picked_table = record {
      barred = λ k within b. ⊎_elim
          (λ same. absurd (not_barred (subst IsBarredNumber same b)))
          (⊎_elim (λ inside. picked.kept k inside.1 inside.0 ∙ t.barred k inside.1 b) (λ past. (picked.skipped k past.0 past.1).1))
          (where_is k within);
      noted = λ n r within is same. ⊎_elim
          (λ less. subst (λ k. IsNoted new k r.to) (sym (before numbers p n less)) (noted_still (get_or numbers n 0) r.to (t.noted n r less is same)))
          (λ past. let long = longer numbers p in let at : n ≡ length numbers = omega (arith, within, long, past) in
          let one : row ≡ r = same_Some row r (sym here ∙ ap (slice_get rows) (sym at) ∙ is) in
          let now = picked.at in
          subst (λ k. IsNoted new k r.to) (sym (ap (λ q. get_or (numbers ++ p ∷ []) q 0) at ∙ last numbers p))
          (subst (λ x. IsNoted new p x.to) one (record { within = has; low = omega (arith, now) })))
          (cases_lt n (length numbers));
      met = λ k within. ⊎_elim
          (λ same. let long = longer numbers p in let now = picked.at in
          inr (subst (HasReach rows (numbers ++ p ∷ []) row.class new) (sym same)
          (record { number = length numbers; other = row; done = omega (arith, long); is = here; class_is = refl; same = last numbers p; far = omega (arith, now) })))
          (⊎_elim
          (λ inside. ⊎_elim (λ b. inl b) (λ h. inr (reach_later row.class old new k (picked.kept k inside.1 inside.0) h)) (t.met k inside.1))
          (λ past. inl (picked.skipped k past.0 past.1).0))
          (where_is k within);
    }

-- one label more
module _ (rows : List LabelRow) (numbers : List ℕ) (tables : List (List ℕ)) (classes i : ℕ) (row : LabelRow) (p : ℕ) (seen new more : List ℕ)
    (more_is : more ≡ numbers ++ p ∷ []) (count : length numbers ≡ i) (here : slice_get rows i ≡ Some row) (some : row.from < row.to) (fits : row.to ≤ 4294967295) (class : row.class < classes) (all : length tables ≡ classes)
    (each : (c : ℕ) → c < classes → IsTable rows numbers c (get_or tables c [])) (seen_is : seen ≡ get_or tables row.class seen) (picked : IsPicked seen row p new) where
  there : slice_get rows (length numbers) ≡ Some row
  there = ap (slice_get rows) count ∙ here

  own : IsTable rows numbers row.class seen
  own = subst (IsTable rows numbers row.class) (sym (seen_is ∙ get_or_default tables row.class seen [] (omega (arith, class, all)))) (each row.class class)

  pub tables_more : (c : ℕ) → c < classes → IsTable rows more c (get_or (set tables row.class new) c [])
  tables_more c within = subst (λ ns. IsTable rows ns c (get_or (set tables row.class new) c [])) (sym more_is) (⊎_elim
      (λ same. subst (λ k. IsTable rows (numbers ++ p ∷ []) k (get_or (set tables row.class new) k [])) (sym same)
      (subst (IsTable rows (numbers ++ p ∷ []) row.class) (sym (get_or-set_same tables row.class new [] (omega (arith, class, all)))) (picked_table rows numbers p seen new row there some fits own picked)))
      (λ differ. let other : c ≡ row.class → ⊥ = λ same. ⊎_elim (λ less. omega (arith, less, same)) (λ above. omega (arith, above, same)) differ in
      subst (IsTable rows (numbers ++ p ∷ []) c) (sym (get_or-set_other tables row.class c new [] other)) (table_later rows numbers p c (get_or tables c []) row there (λ same. other (sym same)) (each c within)))
      (cases_order c row.class))

  pub least_more : ((n : ℕ) (r : LabelRow) → n < i → slice_get rows n ≡ Some r → IsLeastNumber rows numbers n r (get_or numbers n 0))
      → (n : ℕ) (r : LabelRow) → n < i + 1 → slice_get rows n ≡ Some r → IsLeastNumber rows more n r (get_or more n 0)
  least_more least n r within is = subst (λ ns. IsLeastNumber rows ns n r (get_or ns n 0)) (sym more_is) (⊎_elim
      (λ less. subst (IsLeastNumber rows (numbers ++ p ∷ []) n r) (sym (before numbers p n (omega (arith, less, count)))) (least_later rows numbers p n r (get_or numbers n 0) (omega (arith, less, count)) (least n r less is)))
      (λ past. let at : n ≡ length numbers = omega (arith, within, past, count) in
      let one : row ≡ r = same_Some row r (sym there ∙ ap (slice_get rows) (sym at) ∙ is) in
      subst (λ k. IsLeastNumber rows (numbers ++ p ∷ []) k r (get_or (numbers ++ p ∷ []) k 0)) (sym at)
      (subst (IsLeastNumber rows (numbers ++ p ∷ []) (length numbers) r) (sym (last numbers p))
      (subst (λ x. IsLeastNumber rows (numbers ++ p ∷ []) (length numbers) x p) one
      (least_later rows numbers p (length numbers) row p (omega arith) (picked_least rows numbers p seen new row there some fits own picked)))))
      (cases_lt n i))
