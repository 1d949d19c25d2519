-- The number that a label gets, from the table and from behind it.
use Rattle.std.proofs.Common.{◌≡◌, ℕ, ◌+◌, ◌-◌, ◌<◌, ◌≤◌, ◌↔◌, Bool, true, false, nat_le, Some, None, List, length, get_or, IsTrue, sym, subst, ◌∙◌, arith}
use Rattle.std.specs.List.{position_from}
use Rattle.std.proofs.Math.ListN.{set, length-set}
use Rattle.std.proofs.lemmas.List.{get_or-set_same, get_or-set_other}
use Rattle.std.proofs.lemmas.Bool.{leb-true}
use Rattle.luf_name.specs.Barred.{IsBarred}
use Rattle.luf_name.specs.Order.{IsNth}
use Rattle.luf_name.proofs.Rising.{one_name}
use Rattle.luf_interf.specs.declared.label_rows.LabelRow.{LabelRow}
use Rattle.luf_interf.specs.inner.LabelNumbers.{IsBarredNumber, IsAdded, IsPicked}
use Rattle.luf_interf.proofs.Above.{FirstAt, first_at, before_first, none_first, fails_below}

-- the name of a number is one, so the number is barred where that name is
pub barred_by_name : (n : ℕ) (name seen : List ℕ) (b : Bool) → IsNth name n → seen ≡ name → (IsTrue b ↔ IsBarred seen) → (IsTrue b ↔ IsBarredNumber n)
barred_by_name n name seen b is_nth is barred = (
  λ yes. record { name = name; is_nth = is_nth; barred = subst IsBarred is (barred.0 yes) },
  λ number. barred.1 (subst IsBarred (one_name n number.name name number.is_nth is_nth ∙ sym is) number.barred),
)

module _ (old : List ℕ) (row : LabelRow) (bound end : ℕ) (is_bound : bound ≡ 4294967295 - row.from) (is_end : end ≡ 4294967295 - row.to) (some : row.from < row.to) (fits : row.to ≤ 4294967295) where
  low : (i : ℕ) → nat_le bound (get_or old i 0) ≡ false → get_or old i 0 + row.from < 4294967295
  low i fails = let below = fails_below bound (get_or old i 0) fails in omega (arith, below, is_bound, some, fits)

  pub picked_found : (place : ℕ) → Some place ≡ position_from (λ n. nat_le bound n) 0 old → IsPicked old row place (set old place end)
  picked_found place is =
      let found : FirstAt (λ n. nat_le bound n) 0 old place 0 = first_at (λ n. nat_le bound n) 0 old place 0 (sym is) in
      let here : place ≡ found.index = let at = found.at in omega (arith, at) in
      let within : place < length old = subst (λ k. k < length old) (sym here) found.within in
      let reaches : bound ≤ get_or old place 0 = leb-true bound (get_or old place 0) (subst (λ k. nat_le bound (get_or old k 0) ≡ true) (sym here) found.passes) in
      let now : get_or (set old place end) place 0 ≡ end = get_or-set_same old place end 0 within in
      record {
        inside = λ _. length-set old place end;
        outside = λ past. absurd (omega (arith, within, past));
        kept = λ j inside other. get_or-set_other old place j end 0 other;
        at = omega (arith, now, is_end, fits);
        passed = λ j below inside. low j (before_first (λ n. nat_le bound n) 0 old place 0 (sym is) j (omega (arith, below)));
        skipped = λ j past below. absurd (omega (arith, within, past, below));
        reached = λ _. omega (arith, reaches, is_bound, some, fits);
        allowed = λ past. absurd (omega (arith, within, past));
      }

  pub picked_added : None ≡ position_from (λ n. nat_le bound n) 0 old → (k : ℕ) (new : List ℕ) → IsAdded old end k new → IsPicked old row k new
  picked_added none k new added =
      let behind = added.behind in
      let now = added.at in
      record {
        inside = λ within. absurd (omega (arith, within, behind));
        outside = λ _. added.long;
        kept = λ j inside other. added.kept j inside;
        at = omega (arith, now, is_end, fits);
        passed = λ j below inside. low j (none_first (λ n. nat_le bound n) 0 old 0 (sym none) j inside);
        skipped = added.skipped;
        reached = λ within. absurd (omega (arith, within, behind));
        allowed = λ _. added.allowed;
      }

  pub picked_at : (place number : ℕ) (new : List ℕ) → Some place ≡ position_from (λ n. nat_le bound n) 0 old → number ≡ place → new ≡ set old place end → IsPicked old row number new
  picked_at place number new is at then = subst (λ k. IsPicked old row k new) (sym at) (subst (IsPicked old row place) (sym then) (picked_found place is))

pub found_within : (old : List ℕ) (bound place : ℕ) → Some place ≡ position_from (λ n. nat_le bound n) 0 old → place < length old
found_within old bound place is = let found : FirstAt (λ n. nat_le bound n) 0 old place 0 = first_at (λ n. nat_le bound n) 0 old place 0 (sym is) in
    let at = found.at in let within = found.within in omega (arith, at, within)
