-- Requoting a short string unit by unit.
use Rattle.std.proofs.Common.{◌≡◌, ◌≢◌, ℕ, ◌+◌, ◌<◌, ◌≤◌, true, false, eqb, List, [], ◌∷◌, ◌++◌, length, get_or, take, drop, map, refl, sym, ap, subst, add-zero, ◌∙◌, arith, append_assoc}
use Rattle.std.proofs.lemmas.Grind.{flat_map-append}
use Rattle.std.proofs.lemmas.List.{append-nil, take-append-drop, length-append, drop-drop, take_at, drop_at, map_push, get_or-drop, length-drop}
use Rattle.std.specs.List.{prefix_len}
use Rattle.std.proofs.lemmas.Bool.Decides.{nat_tests}
use Rattle.luf_str.specs.Bytes.{is_quote}
use Rattle.luf_str.specs.Spelling.{IsUnit, unit_bytes, IsShortSpelling}
use Rattle.luf_str.specs.Requote.{requoted_unit, IsShortRequoted}
use Rattle.luf_str.specs.inner.Reading.{unit_length, is_ordinary}
use Rattle.luf_str.specs.Spelling as unit_rule
use Rattle.luf_str.proofs.Leading.{all_leading}
use Rattle.luf_str.proofs.InPlace.{in_place_push}
use Rattle.luf_str.proofs.UnitLaws.{AllOrdinary, ordinary_is_plain, rest_behind_unit, AreUnits, IsRest, unit_length-is, unit_some, rest_some, only_quote}

-- The short string in the quotes q is cut into units up to next; in the quotes p these units are done.
pub record IsCutTo (q p : ℕ) (spelling : List ℕ) (next done : List ℕ) : Type 0 where
  pub units : List (List ℕ)
  pub quote : is_quote q ≡ true
  pub are : AreUnits q units next
  pub text : spelling ≡ q ∷ (unit_bytes units ++ next)
  pub value : done ≡ p ∷ unit_bytes (map (requoted_unit p) units)
  pub rest : IsRest q next

pub cut_starts : (p : ℕ) (spelling : List ℕ) → IsShortSpelling spelling → IsCutTo (get_or spelling 0 0) p spelling (drop 1 spelling) (p ∷ [])
cut_starts p spelling (q, quote, (units, cut)) =
    subst (λ (t : List ℕ). IsCutTo (get_or t 0 0) p t (drop 1 t) (p ∷ [])) (sym cut.1) (record { units = []; quote = quote; are = tt; text = refl; value = refl; rest = (units, cut.0, refl) })

one_more : (q p : ℕ) (spelling done unit next : List ℕ) → IsCutTo q p spelling (unit ++ next) done → IsUnit q unit next → IsRest q next → IsCutTo q p spelling next (done ++ requoted_unit p unit)
one_more q p spelling done unit next r is rest =
    let spelled : unit_bytes (r.units ++ unit ∷ []) ≡ unit_bytes r.units ++ unit = flat_map-append (λ (u : List ℕ). u) r.units (unit ∷ []) ∙ ap (λ t. unit_bytes r.units ++ t) (append-nil unit) in
    let new : List ℕ = requoted_unit p unit in
    let meant : unit_bytes (map (requoted_unit p) (r.units ++ unit ∷ [])) ≡ unit_bytes (map (requoted_unit p) r.units) ++ new
    = ap unit_bytes (map_push (requoted_unit p) r.units unit) ∙ flat_map-append (λ (u : List ℕ). u) (map (requoted_unit p) r.units) (new ∷ []) ∙ ap (λ t. unit_bytes (map (requoted_unit p) r.units) ++ t) (append-nil new) in
    record {
      units = r.units ++ unit ∷ [];
      quote = r.quote;
      are = in_place_push (IsUnit q) (λ u. u) r.units unit next r.are is;
      text = r.text ∙ ap (λ t. q ∷ t) (sym (append_assoc (unit_bytes r.units) unit next) ∙ ap (λ t. t ++ next) (sym spelled));
      value = ap (λ t. t ++ new) r.value ∙ ap (λ t. p ∷ t) (sym meant);
      rest = rest;
    }

ordinary_is_kept : (p b : ℕ) → is_quote p ≡ true → is_ordinary b ≡ true → requoted_unit p (b ∷ []) ≡ b ∷ []
ordinary_is_kept p b quote h =
    let plain = ordinary_is_plain p b quote h in
    let differs : eqb b p ≡ false = grind (arith, nat_tests) in
    rw differs refl

-- each byte of an ordinary run is a unit, and kept
over_run : (q p : ℕ) (spelling done run next : List ℕ) → is_quote p ≡ true → IsCutTo q p spelling (run ++ next) done → AllOrdinary run → IsCutTo q p spelling next (done ++ run)
over_run q p spelling done [] next quote r all = subst (IsCutTo q p spelling next) (sym (append-nil done)) r
over_run q p spelling done (b ∷ run) next quote r all =
    let unit = unit_rule.plain q b (run ++ next) (ordinary_is_plain q b r.quote all.0) in
    let first = one_more q p spelling done (b ∷ []) (run ++ next) r unit (rest_behind_unit q (b ∷ []) (run ++ next) r.quote unit r.rest) in
    let kept = subst (λ u. IsCutTo q p spelling (run ++ next) (done ++ u)) (ordinary_is_kept p b quote all.0) first in
    subst (IsCutTo q p spelling next) (append_assoc done (b ∷ []) run) (over_run q p spelling (done ++ b ∷ []) run next quote kept all.1)

-- the ordinary bytes at the front are requoted
pub run_cut : (q p : ℕ) (spelling : List ℕ) (at n : ℕ) (done rest : List ℕ) → is_quote p ≡ true → IsCutTo q p spelling (drop at spelling) done → rest ≡ drop at spelling → n ≡ prefix_len is_ordinary rest
    → (at + n < length spelling) × IsCutTo q p spelling (drop (at + n) spelling) (done ++ take n rest)
run_cut q p spelling at n done rest quote r is count =
    let cut : drop at spelling ≡ take n rest ++ drop n rest = sym is ∙ sym (take-append-drop n rest) in
    let all : AllOrdinary (take n rest) = subst (λ k. AllOrdinary (take k rest)) (sym count) (all_leading is_ordinary rest) in
    let more = over_run q p spelling done (take n rest) (drop n rest) quote (subst (λ t. IsCutTo q p spelling t done) cut r) all in
    let behind : drop n rest ≡ drop (at + n) spelling = ap (drop n) is ∙ drop-drop n at spelling in
    let moved = subst (λ t. IsCutTo q p spelling t (done ++ take n rest)) behind more in
    (omega (arith, rest_some q (drop (at + n) spelling) moved.rest, length-drop (at + n) spelling), moved)

-- what is left begins with the unit of this length, where it does not begin with the quote
abbrev StepsOver : ℕ → ℕ → List ℕ → List ℕ → List ℕ → Type 0
StepsOver q p spelling done next = (unit_length next ≤ length next) × (0 < unit_length next)
    × IsCutTo q p spelling (drop (unit_length next) next) (done ++ requoted_unit p (take (unit_length next) next))

over_unit : (q p : ℕ) (spelling done unit next : List ℕ) → IsCutTo q p spelling (unit ++ next) done → IsUnit q unit next → IsRest q next → StepsOver q p spelling done (unit ++ next)
over_unit q p spelling done unit next r is rest =
    let k : unit_length (unit ++ next) ≡ length unit = unit_length-is is in
    let behind : drop (length unit) (unit ++ next) ≡ next = drop_at unit next _ refl in
    let front : take (length unit) (unit ++ next) ≡ unit = take_at unit next _ refl in
    let whole : IsCutTo q p spelling (drop (length unit) (unit ++ next)) (done ++ requoted_unit p (take (length unit) (unit ++ next)))
    = subst (λ t. IsCutTo q p spelling t (done ++ requoted_unit p (take (length unit) (unit ++ next)))) (sym behind) (subst (λ u. IsCutTo q p spelling next (done ++ requoted_unit p u)) (sym front) (one_more q p spelling done unit next r is rest)) in
    subst (λ n. (n ≤ length (unit ++ next)) × (0 < n) × IsCutTo q p spelling (drop n (unit ++ next)) (done ++ requoted_unit p (take n (unit ++ next)))) (sym k) (omega (arith, length-append unit next), unit_some is, whole)

next_unit : (q p : ℕ) (spelling next done : List ℕ) (units : List (List ℕ)) → AreUnits q units (q ∷ []) → next ≡ unit_bytes units ++ q ∷ [] → IsCutTo q p spelling next done → get_or next 0 0 ≢ q → StepsOver q p spelling done next
next_unit q p spelling next done [] all e r no_quote = absurd (no_quote (ap (λ t. get_or t 0 0) e))
next_unit q p spelling next done (u ∷ units) all e r no_quote =
    let cut : next ≡ u ++ (unit_bytes units ++ q ∷ []) = e ∙ append_assoc u (unit_bytes units) (q ∷ []) in
    subst (StepsOver q p spelling done) (sym cut) (over_unit q p spelling done u (unit_bytes units ++ q ∷ []) (subst (λ t. IsCutTo q p spelling t done) cut r) all.0 (units, all.1, refl))

pub cut_goes_on : (q p : ℕ) (spelling : List ℕ) (at n : ℕ) (done : List ℕ) → IsCutTo q p spelling (drop at spelling) done → get_or spelling at 0 ≢ q → n ≡ unit_length (drop at spelling)
    → (n ≤ length (drop at spelling)) × (0 < n) × (at + n < length spelling) × IsCutTo q p spelling (drop (at + n) spelling) (done ++ requoted_unit p (take n (drop at spelling)))
cut_goes_on q p spelling at n done r no_quote is =
    let first : get_or (drop at spelling) 0 0 ≡ get_or spelling at 0 = get_or-drop at spelling 0 0 ∙ ap (λ i. get_or spelling i 0) (add-zero at) in
    let stepped = next_unit q p spelling (drop at spelling) done r.rest.0 r.rest.1 r.rest.2 r (λ e. no_quote (sym first ∙ e)) in
    let step : (n ≤ length (drop at spelling)) × (0 < n) × IsCutTo q p spelling (drop n (drop at spelling)) (done ++ requoted_unit p (take n (drop at spelling)))
    = subst (λ k. (k ≤ length (drop at spelling)) × (0 < k) × IsCutTo q p spelling (drop k (drop at spelling)) (done ++ requoted_unit p (take k (drop at spelling)))) (sym is) stepped in
    let cut : IsCutTo q p spelling (drop (at + n) spelling) (done ++ requoted_unit p (take n (drop at spelling))) = subst (λ t. IsCutTo q p spelling t (done ++ requoted_unit p (take n (drop at spelling)))) (drop-drop n at spelling) step.2 in
    (step.0, step.1, omega (arith, rest_some q (drop (at + n) spelling) cut.rest, length-drop (at + n) spelling), cut)

pub cut_ends : (q p : ℕ) (spelling : List ℕ) (at : ℕ) (done : List ℕ) → IsCutTo q p spelling (drop at spelling) done → get_or spelling at 0 ≡ q → IsShortRequoted spelling p (done ++ p ∷ [])
cut_ends q p spelling at done r quote =
    let next : List ℕ = drop at spelling in
    let first : get_or next 0 0 ≡ get_or spelling at 0 = get_or-drop at spelling 0 0 ∙ ap (λ i. get_or spelling i 0) (add-zero at) in
    let close : next ≡ q ∷ [] = only_quote q next r.quote r.rest (first ∙ quote) in
    (q, r.units, r.quote, (subst (AreUnits q r.units) close r.are, r.text ∙ ap (λ t. q ∷ (unit_bytes r.units ++ t)) close), ap (λ t. t ++ p ∷ []) r.value)
