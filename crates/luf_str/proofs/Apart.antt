-- No spelling is a front of another, and what has a value is a spelling.
use Rattle.std.proofs.Common.{◌≡◌, ℕ, ◌+◌, ◌<◌, true, List, [], ◌∷◌, ◌++◌, length, get_or, drop, refl, sym, ap, subst, ◌∙◌, arith, inl, inr, append_assoc}
use Rattle.std.specs.Prelude.{◌==◌}
use Rattle.std.specs.List.{prefix_len}
use Rattle.std.proofs.lemmas.List.{drop_at}
use Rattle.luf_str.specs.Bytes.{is_quote}
use Rattle.luf_str.specs.Spelling.{unit_bytes, opening, closing, IsShortSpelling, IsLongOf, IsLongSpelling, IsStringSpelling}
use Rattle.luf_str.specs.Value.{IsShortValue, IsValue}
use Rattle.luf_str.proofs.InPlace.{behind_first}
use Rattle.luf_str.proofs.Follows.{unit_again}
use Rattle.luf_str.proofs.UnitLaws.{AreUnits, IsRest, unit_begins, rest_some, rest_behind_unit, parts_units, quote_is_no_bracket}
use Rattle.luf_str.proofs.LongLaws.{level_front, level_is, opening_length}
use Rattle.luf_str.proofs.Unique.{first_is, long_is_not_short}

front_of_some : (m more : List ℕ) → 0 < length m → get_or m 0 0 ≡ get_or (m ++ more) 0 0
front_of_some [] more some = absurd (omega arith)
front_of_some (b ∷ m) more some = refl

behind_quote : (q : ℕ) (more : List ℕ) (units : List (List ℕ)) → is_quote q ≡ true → AreUnits q units (q ∷ []) → q ∷ more ≡ unit_bytes units ++ q ∷ [] → more ≡ []
behind_quote q more [] quote all e = cc
behind_quote q more (u ∷ units) quote all e = absurd (unit_begins quote all.0 (ap (λ t. get_or t 0 0) (sym (append_assoc u (unit_bytes units) (q ∷ [])) ∙ sym e)))

nothing_behind : (q : ℕ) (units : List (List ℕ)) (more : List ℕ) → is_quote q ≡ true → AreUnits q units (q ∷ []) → IsRest q ((unit_bytes units ++ q ∷ []) ++ more) → more ≡ []
nothing_behind q [] more quote all rest = behind_quote q more rest.0 quote rest.1 rest.2
nothing_behind q (u ∷ units) more quote all rest =
    let next : List ℕ = unit_bytes units ++ q ∷ [] in
    let regrouped : ((u ++ unit_bytes units) ++ q ∷ []) ++ more ≡ u ++ (next ++ more) = ap (λ t. t ++ more) (append_assoc u (unit_bytes units) (q ∷ [])) ∙ append_assoc u next more in
    let is = unit_again (next ++ more) (inl (front_of_some next more (rest_some q next (units, all.1, refl)))) all.0 in
    nothing_behind q units more quote all.1 (rest_behind_unit q u (next ++ more) quote is (subst (IsRest q) regrouped rest))

pub short_apart : (s more : List ℕ) → IsShortSpelling s → IsShortSpelling (s ++ more) → more ≡ []
short_apart s more (q, hq, (us, cut)) (p, hp, (ws, cut')) =
    let whole : s ++ more ≡ q ∷ ((unit_bytes us ++ q ∷ []) ++ more) = ap (λ t. t ++ more) cut.1 in
    let same : p ≡ q = sym (first_is p (s ++ more) _ cut'.1) ∙ first_is q (s ++ more) _ whole in
    let moved = subst (λ x. AreUnits x ws (x ∷ []) × (s ++ more ≡ x ∷ (unit_bytes ws ++ x ∷ []))) same cut' in
    nothing_behind q us more hq cut.0 (ws, moved.0, behind_first q _ _ (sym whole ∙ moved.1))

long_apart : (s more : List ℕ) → IsLongSpelling s → IsLongSpelling (s ++ more) → more ≡ []
long_apart s more (n, body, long) (m, other, long') =
    let whole : s ++ more ≡ opening n ++ (body ++ (closing n ++ more)) = ap (λ t. t ++ more) long.0 ∙ append_assoc (opening n) (body ++ closing n) more ∙ ap (λ t. opening n ++ t) (append_assoc body (closing n) more) in
    let level : m ≡ n = sym (level_is m other (s ++ more) long') ∙ ap (λ t. prefix_len (λ b. b == 61) (drop 1 t)) whole ∙ level_front n (body ++ (closing n ++ more)) in
    let moved = subst (λ k. IsLongOf k other (s ++ more)) level long' in
    let inner : other ++ closing n ≡ body ++ (closing n ++ more)
    = sym (drop_at (opening n) (other ++ closing n) (n + 2) (opening_length n)) ∙ ap (drop (n + 2)) (sym moved.0 ∙ whole) ∙ drop_at (opening n) (body ++ (closing n ++ more)) (n + 2) (opening_length n) in
    moved.1 body more inner

pub apart : (s more : List ℕ) → IsStringSpelling s → IsStringSpelling (s ++ more) → more ≡ []
apart s more (inl x) (inl y) = short_apart s more x y
apart s more (inl x) (inr y) = absurd (long_is_not_short x.0 (s ++ more) _ y.0 y.1 x.1 (ap (λ t. t ++ more) x.2.1.1) y.2)
apart s more (inr x) (inl y) = absurd (quote_is_no_bracket y.0 y.1 (sym (first_is 91 (s ++ more) _ (ap (λ t. t ++ more) x.2.0)) ∙ first_is y.0 (s ++ more) _ y.2.1.1))
apart s more (inr x) (inr y) = long_apart s more x y

pub short_is_spelled : (s v : List ℕ) → IsShortValue s v → IsShortSpelling s
short_is_spelled s v (q, parts, quote, all, e, is) = let u = parts_units q parts (q ∷ []) quote all in (q, quote, (u.0, (u.1, e ∙ ap (λ t. q ∷ (t ++ q ∷ [])) u.2)))

pub valued_is_spelled : (s v : List ℕ) → IsValue s v → IsStringSpelling s
valued_is_spelled s v (inl x) = inl (short_is_spelled s v x)
valued_is_spelled s v (inr x) = inr (x.0, x.1, x.2)
