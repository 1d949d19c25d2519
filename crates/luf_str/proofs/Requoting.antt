-- A short string in other quotes has the same value.
use Rattle.std.proofs.Common.{◌≡◌, ◌≢◌, ℕ, ◌<◌, ◌⊎◌, ◌↔◌, true, false, cond, eqb, List, [], ◌∷◌, ◌++◌, length, get_or, map, Some, refl, sym, ap, subst, ◌∙◌, arith, inl, inr, append_assoc}
use Rattle.std.specs.Prelude.{IsTrue}
use Rattle.std.specs.List.{AllByRecursion}
use Rattle.std.proofs.lemmas.Grind.{flat_map-append}
use Rattle.std.proofs.lemmas.List.{append-nil}
use Rattle.std.proofs.lemmas.Bool.{eqb-true, false≢true}
use Rattle.std.proofs.lemmas.Bool.Decides.{nat_tests}
use Rattle.luf_byte.specs.Class.{is_line_byte, is_whitespace}
use Rattle.luf_str.specs.Bytes.{is_quote, is_plain}
use Rattle.luf_byte.specs.LineEnd.{IsLineEndBefore}
use Rattle.luf_str.specs.Escape.{IsEscape, letter_value}
use Rattle.luf_str.specs.Escape as escape_rule
use Rattle.luf_str.specs.Spelling.{IsUnit, unit_bytes, IsCutIntoUnits, IsShortIn, IsLongSpelling}
use Rattle.luf_str.specs.Spelling as unit_rule
use Rattle.luf_str.specs.Value.{IsPart, Part, spelling_of, meaning_of, AreParts, IsShortValue, IsValue}
use Rattle.luf_str.specs.Value as part_rule
use Rattle.luf_str.specs.inner.Reading.{unit_length, is_ordinary}
use Rattle.luf_str.specs.declared.quoting.Quote.{Quote}
use Rattle.luf_str.specs.declared.quoting.Quote.TheVariants.{Single, Double}
use Rattle.luf_str.specs.Requote.{quote_byte, other_quote, requoted_unit, IsShortRequoted, IsRequoted, IsSameString}
use Rattle.luf_str.proofs.InPlace.{same_cut, behind_first}
use Rattle.luf_str.proofs.Follows.{is_quote_like, HasSameFront, none_again, spaces_apart, line_end_again, escape_again}
use Rattle.luf_str.proofs.Leading.{first_line_byte}
use Rattle.luf_str.proofs.UnitLaws.{AreUnits, unit_length-is, unit_begins, unit_some, quote_cases, ordinary_is_plain, AllOrdinary, singles, unit_bytes-singles, singles_in_place, Shape, shape, one_byte, line_end, skip}
use Rattle.luf_str.proofs.Unique.{first_is, same_escape, long_is_not_short}

-- ---- units that stand for the same

-- the unit is this quote, raw or behind a backslash
abbrev IsQuoteUnit : ℕ → List ℕ → Type 0
IsQuoteUnit c unit = (unit ≡ c ∷ []) ⊎ (unit ≡ 92 ∷ c ∷ [])

-- the units are one, or both are one quote
abbrev IsAlike : List ℕ → List ℕ → Type 0
IsAlike u w = (u ≡ w) ⊎ ((c : ℕ) × IsTrue (is_quote c) × IsQuoteUnit c u × IsQuoteUnit c w)

abbrev AreAlike : List (List ℕ) → List (List ℕ) → Type 0
AreAlike [] [] = Unit {0}
AreAlike (u ∷ us) (w ∷ ws) = IsAlike u w × AreAlike us ws
AreAlike _ _ = ⊥

alike_back : (us ws : List (List ℕ)) → AreAlike us ws → AreAlike ws us
alike_back [] [] h = tt
alike_back [] (w ∷ ws) h = absurd h
alike_back (u ∷ us) [] h = absurd h
alike_back (u ∷ us) (w ∷ ws) h = (elim h.0 [ inl e ↦ inl (sym e) | inr q ↦ inr (q.0, q.1, q.3, q.2) ], alike_back us ws h.1)

-- ---- what stands at the front of alike units

quote_is_like : (q : ℕ) → is_quote q ≡ true → is_quote_like q ≡ true
quote_is_like q h = rw h refl

quote_unit_front : (c : ℕ) (u rest : List ℕ) → is_quote c ≡ true → IsQuoteUnit c u → is_quote_like (get_or (u ++ rest) 0 0) ≡ true
quote_unit_front c u rest quote (inl e) = subst (λ x. is_quote_like (get_or (x ++ rest) 0 0) ≡ true) (sym e) (quote_is_like c quote)
quote_unit_front c u rest quote (inr e) = subst (λ x. is_quote_like (get_or (x ++ rest) 0 0) ≡ true) (sym e) refl

same_unit_front : (u m n : List ℕ) → 0 < length u → get_or (u ++ m) 0 0 ≡ get_or (u ++ n) 0 0
same_unit_front [] m n some = absurd (omega arith)
same_unit_front (b ∷ u) m n some = refl

alike_front : (p q : ℕ) (us ws : List (List ℕ)) → is_quote p ≡ true → is_quote q ≡ true → AreUnits p us (p ∷ []) → AreAlike us ws → HasSameFront (unit_bytes us ++ p ∷ []) (unit_bytes ws ++ q ∷ [])
alike_front p q [] [] hp hq all alike = inr (quote_is_like p hp, quote_is_like q hq)
alike_front p q [] (w ∷ ws) hp hq all alike = absurd alike
alike_front p q (u ∷ us) [] hp hq all alike = absurd alike
alike_front p q (u ∷ us) (w ∷ ws) hp hq all alike =
    let left : (u ++ unit_bytes us) ++ p ∷ [] ≡ u ++ (unit_bytes us ++ p ∷ []) = append_assoc u (unit_bytes us) (p ∷ []) in
    let right : (w ++ unit_bytes ws) ++ q ∷ [] ≡ w ++ (unit_bytes ws ++ q ∷ []) = append_assoc w (unit_bytes ws) (q ∷ []) in
    elim alike.0 [
      | inl e ↦ inl (ap (λ t. get_or t 0 0) left ∙ same_unit_front u (unit_bytes us ++ p ∷ []) (unit_bytes ws ++ q ∷ []) (unit_some all.0) ∙ ap (λ x. get_or (x ++ (unit_bytes ws ++ q ∷ [])) 0 0) e ∙ ap (λ t. get_or t 0 0) (sym right))
      | inr c ↦ inr (ap (λ t. is_quote_like (get_or t 0 0)) left ∙ quote_unit_front c.0 u _ c.1 c.2, ap (λ t. is_quote_like (get_or t 0 0)) right ∙ quote_unit_front c.0 w _ c.1 c.3)
    ]

-- ---- a part and its units

-- units that are no quotes are alike to themselves alone
abbrev AreFixed : List (List ℕ) → Type 0
AreFixed units = AllByRecursion (λ u. (c : ℕ) → is_quote c ≡ true → IsQuoteUnit c u → ⊥) units

-- either the part is a quote, and stands for it, or its units are kept and it stands for the same in other quotes
abbrev Carries : ℕ → ℕ → List ℕ → List ℕ → List ℕ → Type 0
Carries p q part next value =
    ((c : ℕ) × IsTrue (is_quote c) × IsQuoteUnit c part × IsUnit p part next × (value ≡ c ∷ []))
    ⊎ ((units : List (List ℕ)) × AreUnits p units next × (part ≡ unit_bytes units) × AreFixed units × ((n : List ℕ) → HasSameFront next n → IsPart q part n value))

single_is_fixed : (b : ℕ) → is_quote b ≡ false → (c : ℕ) → is_quote c ≡ true → IsQuoteUnit c (b ∷ []) → ⊥
single_is_fixed b h c quote (inl e) = let same : b ≡ c = cc in false≢true (sym h ∙ ap is_quote same ∙ quote)
single_is_fixed b h c quote (inr e) = absurd cc

pair_is_fixed : (b : ℕ) → is_quote b ≡ false → (c : ℕ) → is_quote c ≡ true → IsQuoteUnit c (92 ∷ b ∷ []) → ⊥
pair_is_fixed b h c quote (inl e) = absurd cc
pair_is_fixed b h c quote (inr e) = let same : b ≡ c = cc in false≢true (sym h ∙ ap is_quote same ∙ quote)

ordinary_is_no_quote : (b : ℕ) → is_ordinary b ≡ true → is_quote b ≡ false
ordinary_is_no_quote b h = grind (arith, nat_tests)

singles_are_fixed : (bytes : List ℕ) → AllOrdinary bytes → AreFixed (singles bytes)
singles_are_fixed [] all = tt
singles_are_fixed (b ∷ bytes) all = (single_is_fixed b (ordinary_is_no_quote b all.0), singles_are_fixed bytes all.1)

plain_is_ordinary : (p b : ℕ) → is_plain p b ≡ true → is_quote b ≡ false → is_ordinary b ≡ true
plain_is_ordinary p b h other = grind (arith, nat_tests)

plain_carries : (p q b : ℕ) (next : List ℕ) → is_quote q ≡ true → is_plain p b ≡ true → Carries p q (b ∷ []) next (b ∷ [])
plain_carries p q b next quote h =
    elim (is_quote b) as (λ t. is_quote b ≡ t → Carries p q (b ∷ []) next (b ∷ [])) [
      | true ↦ λ yes. inl (b, yes, inl refl, unit_rule.plain p b next h, refl)
      | false ↦ λ no. inr ((b ∷ []) ∷ [], (unit_rule.plain p b next h, tt), refl, (single_is_fixed b no, tt), λ n same. part_rule.plain q b n (ordinary_is_plain q b quote (plain_is_ordinary p b h no)))
    ] refl

line_is_fixed : (line next : List ℕ) → IsLineEndBefore line next → (c : ℕ) → is_quote c ≡ true → IsQuoteUnit c (92 ∷ line) → ⊥
line_is_fixed [] next h c quote e = absurd h
line_is_fixed (a ∷ line) next h c quote (inl e) = absurd cc
line_is_fixed (a ∷ line) next h c quote (inr e) = let first = first_line_byte a line next h in let same : a ≡ c = cc in grind (arith, nat_tests)

skip_is_fixed : (spaces : List ℕ) (c : ℕ) → is_quote c ≡ true → IsQuoteUnit c (92 ∷ 122 ∷ spaces) → ⊥
skip_is_fixed spaces c quote (inl e) = absurd cc
skip_is_fixed spaces c quote (inr e) = let same : 122 ≡ c = cc in false≢true (ap is_quote same ∙ quote)

-- an escape of which the units are these is kept
kept : (p q : ℕ) (escape next value : List ℕ) (units : List (List ℕ)) → IsEscape escape next value → AreUnits p units next → 92 ∷ escape ≡ unit_bytes units → AreFixed units → Carries p q (92 ∷ escape) next value
kept p q escape next value units is all e fixed = inr (units, all, e, fixed, λ n same. part_rule.escape q escape n value (escape_again n same is))

-- the escape of a quote stands for the quote
letter_of_quote : (c : ℕ) (others next value : List ℕ) → is_quote c ≡ true → IsEscape (c ∷ others) next value → (others ≡ []) × (value ≡ c ∷ [])
letter_of_quote c others next value quote is =
    let quoted : letter_value c ≡ Some c = elim (quote_cases c quote) [ inl e ↦ subst (λ x. letter_value x ≡ Some x) (sym e) refl | inr e ↦ subst (λ x. letter_value x ≡ Some x) (sym e) refl ] in
    let same = same_escape is (escape_rule.letter c c (others ++ next) quoted) refl in
    let one : c ∷ others ≡ c ∷ [] = same.0 in
    (cc, same.2)

shape_carries : {escape next : List ℕ} (p q : ℕ) (value : List ℕ) → is_quote p ≡ true → IsEscape escape next value → Shape escape next → Carries p q (92 ∷ escape) next value
shape_carries p q value quote is (one_byte c others next no_z no_line all) =
    elim (is_quote c) as (λ t. is_quote c ≡ t → Carries p q (92 ∷ c ∷ others) next value) [
      | true ↦ λ yes. let l = letter_of_quote c others next value yes is in
          inl (c, yes, inr (ap (λ t. 92 ∷ c ∷ t) l.0), subst (λ t. IsUnit p (92 ∷ c ∷ t) next) (sym l.0) (unit_rule.other p c next no_z no_line), l.1)
      | false ↦ λ plain. kept p q (c ∷ others) next value ((92 ∷ c ∷ []) ∷ singles others) is (unit_rule.other p c _ no_z no_line, singles_in_place p others next quote all)
          (ap (λ t. 92 ∷ c ∷ t) (sym (unit_bytes-singles others))) (pair_is_fixed c plain, singles_are_fixed others all)
    ] refl
shape_carries p q value quote is (line_end line next h) =
    kept p q line next value ((92 ∷ line) ∷ []) is (unit_rule.line_end p line next h, tt) (ap (λ t. 92 ∷ t) (sym (append-nil line))) (line_is_fixed line next h, tt)
shape_carries p q value quote is (skip spaces next all none) =
    kept p q (122 ∷ spaces) next value ((92 ∷ 122 ∷ spaces) ∷ []) is (unit_rule.skip p spaces next all none, tt) (ap (λ t. 92 ∷ 122 ∷ t) (sym (append-nil spaces))) (skip_is_fixed spaces, tt)

part_carries : {p : ℕ} {part next value : List ℕ} (q : ℕ) → is_quote p ≡ true → is_quote q ≡ true → IsPart p part next value → Carries p q part next value
part_carries q hp hq (part_rule.plain p b next h) = plain_carries p q b next hq h
part_carries q hp hq (part_rule.escape p escape next value h) = shape_carries p q value hp h (shape h)

-- ---- cutting the units behind those of a part

units_are : (u k : List ℕ) (us ks : List (List ℕ)) → u ≡ k → us ≡ ks → u ∷ us ≡ k ∷ ks
units_are u k us ks e f = cc

-- the units that are left behind some units
split_units : (q : ℕ) (ks us : List (List ℕ)) (next : List ℕ) → is_quote q ≡ true → AreUnits q ks next → AreUnits q us (q ∷ []) → unit_bytes us ++ q ∷ [] ≡ unit_bytes ks ++ next
    → (rest : List (List ℕ)) × (us ≡ ks ++ rest) × AreUnits q rest (q ∷ []) × (unit_bytes rest ++ q ∷ [] ≡ next)
split_units q [] us next quote kept all e = (us, refl, all, e)
split_units q (k ∷ ks) [] next quote kept all e = absurd (unit_begins quote kept.0 (ap (λ t. get_or t 0 0) (sym (append_assoc k (unit_bytes ks) next) ∙ sym e)))
split_units q (k ∷ ks) (u ∷ us) next quote kept all e =
    let cut : u ++ (unit_bytes us ++ q ∷ []) ≡ k ++ (unit_bytes ks ++ next) = sym (append_assoc u (unit_bytes us) (q ∷ [])) ∙ e ∙ append_assoc k (unit_bytes ks) next in
    let lengths : length u ≡ length k = sym (unit_length-is all.0) ∙ ap unit_length cut ∙ unit_length-is kept.0 in
    let same = same_cut u (unit_bytes us ++ q ∷ []) k (unit_bytes ks ++ next) cut lengths in
    let r = split_units q ks us next quote kept.1 all.1 same.1 in
    (r.0, units_are u k us (ks ++ r.0) same.0 r.1, r.2, r.3)

-- what is alike to fixed units begins with them
split_alike : (ks us ws : List (List ℕ)) → AreFixed ks → AreAlike (ks ++ us) ws → (rest : List (List ℕ)) × (ws ≡ ks ++ rest) × AreAlike us rest
split_alike [] us ws fixed alike = (ws, refl, alike)
split_alike (k ∷ ks) us [] fixed alike = absurd alike
split_alike (k ∷ ks) us (w ∷ ws) fixed alike =
    let r = split_alike ks us ws fixed.1 alike.1 in
    let same : w ≡ k = elim alike.0 [ inl e ↦ sym e | inr c ↦ absurd (fixed.0 c.0 c.1 c.2) ] in
    (r.0, units_are w k ws (ks ++ r.0) same r.1, r.2)

-- units behind others are in place
units_behind : (q : ℕ) (ks us : List (List ℕ)) (next : List ℕ) → AreUnits q (ks ++ us) next → AreUnits q us next
units_behind q [] us next all = all
units_behind q (k ∷ ks) us next all = units_behind q ks us next all.1

-- ---- a string with alike units has the same value

-- the quote in other quotes is a part too
quote_part : (q c : ℕ) (w next : List ℕ) → is_quote q ≡ true → is_quote c ≡ true → IsQuoteUnit c w → IsUnit q w next → IsPart q w next (c ∷ [])
quote_part q c w next hq hc (inl e) is =
    let other : c ≢ q = λ same. unit_begins hq is (ap (λ t. get_or (t ++ next) 0 0) e ∙ same) in
    let plain : is_plain q c ≡ true = elim (quote_cases c hc) [ inl x ↦ grind (arith, nat_tests) | inr x ↦ grind (arith, nat_tests) ] in
    subst (λ t. IsPart q t next (c ∷ [])) (sym e) (part_rule.plain q c next plain)
quote_part q c w next hq hc (inr e) is =
    let quoted : letter_value c ≡ Some c = elim (quote_cases c hc) [ inl x ↦ subst (λ y. letter_value y ≡ Some y) (sym x) refl | inr x ↦ subst (λ y. letter_value y ≡ Some y) (sym x) refl ] in
    subst (λ t. IsPart q t next (c ∷ [])) (sym e) (part_rule.escape q (c ∷ []) next (c ∷ []) (escape_rule.letter c c next quoted))

-- two quotes of one unit are one
same_quote : (c d : ℕ) (u : List ℕ) → is_quote c ≡ true → is_quote d ≡ true → IsQuoteUnit c u → IsQuoteUnit d u → c ≡ d
same_quote c d u hc hd (inl e) (inl f) = cc
same_quote c d u hc hd (inl e) (inr f) = absurd cc
same_quote c d u hc hd (inr e) (inl f) = absurd cc
same_quote c d u hc hd (inr e) (inr f) = cc

-- the parts of a string with these units
abbrev Reads : ℕ → List (List ℕ) → List ℕ → Type 0
Reads q ws value = (rs : List Part) × AreParts q rs (q ∷ []) × (unit_bytes ws ++ q ∷ [] ≡ spelling_of rs ++ q ∷ []) × (value ≡ meaning_of rs)

part_first : (q : ℕ) (units ws : List (List ℕ)) (part value rest : List ℕ) → IsPart q part (unit_bytes ws ++ q ∷ []) value → part ≡ unit_bytes units → Reads q ws rest → Reads q (units ++ ws) (value ++ rest)
part_first q units ws part value rest is e (rs, all, text, v) =
    let p : Part = record { spelling = part; value = value } in
    let cut : unit_bytes (units ++ ws) ++ q ∷ [] ≡ part ++ (unit_bytes ws ++ q ∷ []) = ap (λ t. t ++ q ∷ []) (flat_map-append (λ (u : List ℕ). u) units ws) ∙ append_assoc (unit_bytes units) (unit_bytes ws) (q ∷ []) ∙ ap (λ t. t ++ (unit_bytes ws ++ q ∷ [])) (sym e) in
    (p ∷ rs, (subst (λ t. IsPart q part t value) text is, all), cut ∙ ap (λ t. part ++ t) text ∙ sym (append_assoc part (spelling_of rs) (q ∷ [])), ap (λ t. value ++ t) v)

-- a quote comes first
carry_quote : (q c : ℕ) (part : List ℕ) (us ws : List (List ℕ)) (rest : List ℕ) → is_quote q ≡ true → is_quote c ≡ true → IsQuoteUnit c part → AreAlike (part ∷ us) ws → AreUnits q ws (q ∷ [])
    → ((behind : List (List ℕ)) → AreAlike us behind → AreUnits q behind (q ∷ []) → Reads q behind rest) → Reads q ws (c ∷ rest)
carry_quote q c part us [] rest hq hc unit alike others continue = absurd alike
carry_quote q c part us (w ∷ ws) rest hq hc unit alike others continue =
    let quoted : IsQuoteUnit c w = elim alike.0 [ inl e ↦ subst (IsQuoteUnit c) e unit | inr d ↦ subst (λ x. IsQuoteUnit x w) (sym (same_quote c d.0 part hc d.1 unit d.2)) d.3 ] in
    part_first q (w ∷ []) ws w (c ∷ []) rest (quote_part q c w (unit_bytes ws ++ q ∷ []) hq hc quoted others.0) (sym (append-nil w)) (continue ws alike.1 others.1)

carry : (p q : ℕ) (ps : List Part) (us ws : List (List ℕ)) → is_quote p ≡ true → is_quote q ≡ true → AreParts p ps (p ∷ []) → AreUnits p us (p ∷ []) → AreUnits q ws (q ∷ []) → AreAlike us ws
    → unit_bytes us ++ p ∷ [] ≡ spelling_of ps ++ p ∷ [] → Reads q ws (meaning_of ps)
carry p q [] [] [] hp hq parts all others alike e = ([], tt, refl, refl)
carry p q [] [] (w ∷ ws) hp hq parts all others alike e = absurd alike
carry p q [] (u ∷ us) ws hp hq parts all others alike e = absurd (unit_begins hp all.0 (ap (λ t. get_or t 0 0) (sym (append_assoc u (unit_bytes us) (p ∷ [])) ∙ e)))
carry p q (x ∷ ps) us ws hp hq parts all others alike e =
    let next : List ℕ = spelling_of ps ++ p ∷ [] in
    let cut : unit_bytes us ++ p ∷ [] ≡ x.spelling ++ next = e ∙ append_assoc x.spelling (spelling_of ps) (p ∷ []) in
    elim (part_carries q hp hq parts.0) [
      | inl (c, hc, unit, is, value) ↦
          let s = split_units p (x.spelling ∷ []) us next hp (is, tt) all (cut ∙ ap (λ t. t ++ next) (sym (append-nil x.spelling))) in
          let read = carry_quote q c x.spelling s.0 ws (meaning_of ps) hq hc unit (subst (λ t. AreAlike t ws) s.1 alike) others (λ behind alike' others'. carry p q ps s.0 behind hp hq parts.1 s.2 others' alike' s.3) in
          subst (λ v. Reads q ws (v ++ meaning_of ps)) (sym value) read
      | inr (units, are, spelled, fixed, again) ↦
          let s = split_units p units us next hp are all (cut ∙ ap (λ t. t ++ next) spelled) in
          let a = split_alike units s.0 ws fixed (subst (λ t. AreAlike t ws) s.1 alike) in
          let behind = units_behind q units a.0 (q ∷ []) (subst (λ t. AreUnits q t (q ∷ [])) a.1 others) in
          let rest = carry p q ps s.0 a.0 hp hq parts.1 s.2 behind a.2 s.3 in
          let front = alike_front p q s.0 a.0 hp hq s.2 a.2 in
          let is = again (unit_bytes a.0 ++ q ∷ []) (subst (λ t. HasSameFront t (unit_bytes a.0 ++ q ∷ [])) s.3 front) in
          subst (λ t. Reads q t (x.value ++ meaning_of ps)) (sym a.1) (part_first q units a.0 x.spelling x.value (meaning_of ps) is spelled rest)
    ]

-- ---- requoted units

quote_facts : (b : ℕ) → is_quote b ≡ true → (b ≢ 122) × (is_line_byte b ≡ false)
quote_facts b h = elim (quote_cases b h) [ inl e ↦ subst (λ x. (x ≢ 122) × (is_line_byte x ≡ false)) (sym e) (omega arith, refl) | inr e ↦ subst (λ x. (x ≢ 122) × (is_line_byte x ≡ false)) (sym e) (omega arith, refl) ]

-- the other quote is a quote, plain here, and neither z nor in a line end
other_facts : (q : ℕ) → is_quote q ≡ true → (is_quote (other_quote q) ≡ true) × (is_plain q (other_quote q) ≡ true)
other_facts q h =
    elim (quote_cases q h) [
      | inl e ↦ subst (λ x. (is_quote (other_quote x) ≡ true) × (is_plain x (other_quote x) ≡ true)) (sym e) (refl, refl)
      | inr e ↦ subst (λ x. (is_quote (other_quote x) ≡ true) × (is_plain x (other_quote x) ≡ true)) (sym e) (refl, refl)
    ]

is_no_other_quote : (q b : ℕ) → is_quote q ≡ true → is_quote b ≡ false → eqb b (other_quote q) ≡ false
is_no_other_quote q b hq h =
    elim (eqb b (other_quote q)) as (λ t. eqb b (other_quote q) ≡ t → t ≡ false) [
      | true ↦ λ yes. absurd (false≢true (sym h ∙ ap is_quote (eqb-true b (other_quote q) yes) ∙ (other_facts q hq).0))
      | false ↦ λ differs. refl
    ] refl

line_is_no_quote : (a : ℕ) → is_line_byte a ≡ true → is_quote a ≡ false
line_is_no_quote a h = grind (arith, nat_tests)

still_plain : (p q b : ℕ) → is_plain p b ≡ true → eqb b q ≡ false → is_plain q b ≡ true
still_plain p q b h differs = grind (arith, nat_tests)

requoted_plain : (p q b : ℕ) → is_quote q ≡ true → is_plain p b ≡ true → IsAlike (b ∷ []) (requoted_unit q (b ∷ [])) × ((n : List ℕ) → IsUnit q (requoted_unit q (b ∷ [])) n)
requoted_plain p q b hq h =
    elim (eqb b q) as (λ t. eqb b q ≡ t → IsAlike (b ∷ []) (cond t (92 ∷ b ∷ []) (b ∷ [])) × ((n : List ℕ) → IsUnit q (cond t (92 ∷ b ∷ []) (b ∷ [])) n)) [
      | true ↦ λ yes. let quoted : is_quote b ≡ true = ap is_quote (eqb-true b q yes) ∙ hq in (inr (b, quoted, inl refl, inr refl), λ n. unit_rule.other q b n (quote_facts b quoted).0 (quote_facts b quoted).1)
      | false ↦ λ differs. (inl refl, λ n. unit_rule.plain q b n (still_plain p q b h differs))
    ] refl

requoted_other : (q b : ℕ) → is_quote q ≡ true → b ≢ 122 → is_line_byte b ≡ false → IsAlike (92 ∷ b ∷ []) (requoted_unit q (92 ∷ b ∷ [])) × ((n : List ℕ) → IsUnit q (requoted_unit q (92 ∷ b ∷ [])) n)
requoted_other q b hq no_z no_line =
    elim (eqb b (other_quote q)) as (λ t. eqb b (other_quote q) ≡ t → IsAlike (92 ∷ b ∷ []) (cond t (b ∷ []) (92 ∷ b ∷ [])) × ((n : List ℕ) → IsUnit q (cond t (b ∷ []) (92 ∷ b ∷ [])) n)) [
      | true ↦ λ yes. let o = other_facts q hq in let same : b ≡ other_quote q = eqb-true b (other_quote q) yes in
          (inr (b, ap is_quote same ∙ o.0, inr refl, inl refl), λ n. unit_rule.plain q b n (ap (is_plain q) same ∙ o.1))
      | false ↦ λ differs. (inl refl, λ n. unit_rule.other q b n no_z no_line)
    ] refl

skip_is_kept : (q : ℕ) (spaces : List ℕ) → is_quote q ≡ true → requoted_unit q (92 ∷ 122 ∷ spaces) ≡ 92 ∷ 122 ∷ spaces
skip_is_kept q [] hq = rw (is_no_other_quote q 122 hq refl) refl
skip_is_kept q (a ∷ spaces) hq = refl

line_is_kept : (q : ℕ) (line m : List ℕ) → is_quote q ≡ true → IsLineEndBefore line m → requoted_unit q (92 ∷ line) ≡ 92 ∷ line
line_is_kept q [] m hq h = absurd h
line_is_kept q (a ∷ []) m hq h = rw (is_no_other_quote q a hq (line_is_no_quote a h.0)) refl
line_is_kept q (a ∷ b ∷ []) m hq h = refl
line_is_kept q (a ∷ b ∷ c ∷ line) m hq h = absurd h

-- a unit of one string, and its requoted unit, where the same follows
requoted_alike : {p : ℕ} {u m : List ℕ} (q : ℕ) → is_quote q ≡ true → IsUnit p u m → IsAlike u (requoted_unit q u) × ((n : List ℕ) → HasSameFront m n → IsUnit q (requoted_unit q u) n)
requoted_alike q hq (unit_rule.plain p b m h) = let r = requoted_plain p q b hq h in (r.0, λ n _. r.1 n)
requoted_alike q hq (unit_rule.skip p spaces m all none) =
    let kept = skip_is_kept q spaces hq in
    (inl (sym kept), λ n same. subst (λ u. IsUnit q u n) (sym kept) (unit_rule.skip q spaces n all (none_again is_whitespace m n spaces_apart same none)))
requoted_alike q hq (unit_rule.line_end p line m h) =
    let kept = line_is_kept q line m hq h in
    (inl (sym kept), λ n same. subst (λ u. IsUnit q u n) (sym kept) (unit_rule.line_end q line n (line_end_again line m n same h)))
requoted_alike q hq (unit_rule.other p b m no_z no_line) = let r = requoted_other q b hq no_z no_line in (r.0, λ n _. r.1 n)

are_alike : (p q : ℕ) (us : List (List ℕ)) (m : List ℕ) → is_quote q ≡ true → AreUnits p us m → AreAlike us (map (requoted_unit q) us)
are_alike p q [] m hq all = tt
are_alike p q (u ∷ us) m hq all = ((requoted_alike q hq all.0).0, are_alike p q us m hq all.1)

are_units : (p q : ℕ) (us : List (List ℕ)) → is_quote p ≡ true → is_quote q ≡ true → AreUnits p us (p ∷ []) → AreUnits q (map (requoted_unit q) us) (q ∷ [])
are_units p q [] hp hq all = tt
are_units p q (u ∷ us) hp hq all =
    ((requoted_alike q hq all.0).1 (unit_bytes (map (requoted_unit q) us) ++ q ∷ []) (alike_front p q us (map (requoted_unit q) us) hp hq all.1 (are_alike p q us (p ∷ []) hq all.1)), are_units p q us hp hq all.1)

-- a string with alike units has each value of the other
short_value_carries : (p q : ℕ) (s t : List ℕ) (us ws : List (List ℕ)) (value : List ℕ) → is_quote p ≡ true → is_quote q ≡ true → IsCutIntoUnits p us s → IsCutIntoUnits q ws t → AreAlike us ws → IsShortValue s value → IsShortValue t value
short_value_carries p q s t us ws value hp hq cut cut' alike (r, parts, hr, all, e, is) =
    let same : r ≡ p = sym (first_is r s _ e) ∙ first_is p s _ cut.1 in
    let moved = subst (λ x. AreParts x parts (x ∷ []) × (s ≡ x ∷ (spelling_of parts ++ x ∷ []))) same (all, e) in
    let inner : unit_bytes us ++ p ∷ [] ≡ spelling_of parts ++ p ∷ [] = behind_first p (unit_bytes us ++ p ∷ []) (spelling_of parts ++ p ∷ []) (sym cut.1 ∙ moved.1) in
    let r = carry p q parts us ws hp hq moved.0 cut.0 cut'.0 alike inner in
    (q, r.0, hq, r.1, cut'.1 ∙ ap (λ x. q ∷ x) r.2, is ∙ r.3)

value_carries : (p q : ℕ) (s t : List ℕ) (us ws : List (List ℕ)) (value : List ℕ) → is_quote p ≡ true → is_quote q ≡ true → IsCutIntoUnits p us s → IsCutIntoUnits q ws t → AreAlike us ws → IsValue s value → IsValue t value
value_carries p q s t us ws value hp hq cut cut' alike (inl x) = inl (short_value_carries p q s t us ws value hp hq cut cut' alike x)
value_carries p q s t us ws value hp hq cut cut' alike (inr x) = absurd (long_is_not_short p s _ x.0 x.1 hp cut.1 x.2)

-- what requoting gives: a short string in these quotes, of the same value
pub short_requoted : (s : List ℕ) (q : ℕ) (t : List ℕ) → is_quote q ≡ true → IsShortRequoted s q t → IsShortIn q t × ((value : List ℕ) → IsValue s value ↔ IsValue t value)
short_requoted s q t hq (p, us, hp, cut, e) =
    let ws : List (List ℕ) = map (requoted_unit q) us in
    let cut' : IsCutIntoUnits q ws t = (are_units p q us hp hq cut.0, e) in
    let alike = are_alike p q us (p ∷ []) hq cut.0 in
    ((ws, cut'), λ value. (value_carries p q s t us ws value hp hq cut cut' alike, value_carries q p t s ws us value hq hp cut' cut (alike_back us ws alike)))

same_long : (s : List ℕ) (q : ℕ) (t : List ℕ) → IsLongSpelling s → t ≡ s → IsSameString s q t
same_long s q t (n, body, long) e =
    subst (IsSameString s q) (sym e) ((λ short. absurd (long_is_not_short short.0 s _ n body short.1 short.2.1.1 long)), λ value. (λ h. h, λ h. h))

-- what requoting gives is the same string
pub same_string : (s : List ℕ) (q : ℕ) (t : List ℕ) → is_quote q ≡ true → IsRequoted s q t → IsSameString s q t
same_string s q t hq (inl x) = let r = short_requoted s q t hq x in (λ _. r.0, r.1)
same_string s q t hq (inr x) = same_long s q t x.0 x.1

pub quote_byte_is_quote : (q : Quote) → is_quote (quote_byte q) ≡ true
quote_byte_is_quote Single = refl
quote_byte_is_quote Double = refl
