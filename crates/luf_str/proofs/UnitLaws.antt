-- The units of a short string: which one stands at the front, and what parts have to do with them.
use Rattle.std.proofs.Common.{◌≡◌, ◌≢◌, ℕ, suc, ◌+◌, ◌<◌, ◌≤◌, ◌⊎◌, Bool, true, false, cond, eqb, List, [], ◌∷◌, ◌++◌, length, get_or, map, refl, sym, ap, subst, ◌∙◌, arith, inl, inr, append_assoc}
use Rattle.std.specs.Prelude.{IsTrue, IsFalse}
use Rattle.std.specs.List.{AllByRecursion, prefix_len}
use Rattle.std.proofs.lemmas.Bool.{eqb-true, false≢true}
use Rattle.std.proofs.lemmas.List.{append-nil, length-append}
use Rattle.std.proofs.lemmas.Bool.Decides.{nat_tests}
use Rattle.luf_byte.specs.Class.{is_line_byte, is_whitespace, is_digit, is_hex_digit}
use Rattle.luf_str.specs.Bytes.{is_quote, is_plain}
use Rattle.luf_byte.specs.Front.{NoneAtFront}
use Rattle.luf_byte.specs.LineEnd.{IsLineEndBefore, line_end_length}
use Rattle.luf_str.specs.Pieces.{AllInPlace}
use Rattle.luf_str.specs.Escape.{IsEscape, letter_value}
use Rattle.luf_str.specs.Escape as escape_rule
use Rattle.luf_str.specs.Spelling.{IsUnit, unit_bytes, IsShortIn, IsShortSpelling}
use Rattle.luf_str.specs.Spelling as unit_rule
use Rattle.luf_str.specs.Value.{IsPart, Part, spelling_of, AreParts}
use Rattle.luf_str.specs.Value as part_rule
use Rattle.luf_str.specs.inner.Reading.{unit_length, is_ordinary}
use Rattle.luf_str.specs.Front.{IsEnd}
use Rattle.luf_str.proofs.Leading.{prefix_len-whole, first_line_byte, line_end_length-is}
use Rattle.std.proofs.lemmas.Grind.{flat_map-append}
use Rattle.luf_str.proofs.InPlace.{same_cut, in_place_join}
use Rattle.luf_str.proofs.EscapeLaws.{for_letters}

pub quote_cases : (q : ℕ) → is_quote q ≡ true → (q ≡ 34) ⊎ (q ≡ 39)
quote_cases q h =
    elim (eqb q 34) as (λ t. eqb q 34 ≡ t → (q ≡ 34) ⊎ (q ≡ 39)) [
      | true ↦ λ yes. inl (eqb-true q 34 yes)
      | false ↦ λ no. inr (grind (arith, nat_tests))
    ] refl

-- a line end does not begin with z
line_is_no_z : (line next : List ℕ) → IsLineEndBefore line next → eqb (get_or (line ++ next) 0 0) 122 ≡ false
line_is_no_z [] next h = absurd h
line_is_no_z (a ∷ line) next h = let first = first_line_byte a line next h in grind (arith, nat_tests)

first_is : (line next : List ℕ) → IsLineEndBefore line next → is_line_byte (get_or (line ++ next) 0 0) ≡ true
first_is [] next h = absurd h
first_is (a ∷ line) next h = first_line_byte a line next h

pub when_true : (b : Bool) (x y : ℕ) → b ≡ true → cond b x y ≡ x
when_true b x y h = rw h refl

pub unit_length-is : {q : ℕ} {unit next : List ℕ} → IsUnit q unit next → unit_length (unit ++ next) ≡ length unit
unit_length-is (unit_rule.plain q b next h) = let no : eqb b 92 ≡ false = grind (arith, nat_tests) in rw no refl
unit_length-is (unit_rule.skip q spaces next all none) = let n : prefix_len is_whitespace (spaces ++ next) ≡ length spaces = prefix_len-whole is_whitespace spaces next all none in omega arith
unit_length-is (unit_rule.line_end q line next h) =
    let n : line_end_length (line ++ next) ≡ length line = line_end_length-is line next h in
    let more : 1 + line_end_length (line ++ next) ≡ suc (length line) = omega arith in
    rw (line_is_no_z line next h) (when_true _ _ _ (first_is line next h) ∙ more)
unit_length-is (unit_rule.other q b next no_z no_line) = let no : eqb b 122 ≡ false = grind (arith, nat_tests) in rw (no, no_line) refl

pub backslash_is_no_quote : (q : ℕ) → is_quote q ≡ true → 92 ≢ q
backslash_is_no_quote q h e = elim (quote_cases q h) [ inl x ↦ omega arith | inr x ↦ omega arith ]

pub quote_is_no_bracket : (q : ℕ) → is_quote q ≡ true → 91 ≢ q
quote_is_no_bracket q h e = elim (quote_cases q h) [ inl x ↦ omega arith | inr x ↦ omega arith ]

pub plain_is_no_quote : (q b : ℕ) → is_plain q b ≡ true → b ≢ q
plain_is_no_quote q b h e = grind (arith, nat_tests)

pub plain_is_no_line : (q b : ℕ) → is_plain q b ≡ true → is_line_byte b ≡ true → ⊥
plain_is_no_line q b h line = grind (arith, nat_tests)

-- a unit does not begin with the quote
pub unit_begins : {q : ℕ} {unit next : List ℕ} → is_quote q ≡ true → IsUnit q unit next → get_or (unit ++ next) 0 0 ≢ q
unit_begins quote (unit_rule.plain q b next h) e = plain_is_no_quote q b h e
unit_begins quote (unit_rule.skip q spaces next all none) e = backslash_is_no_quote q quote e
unit_begins quote (unit_rule.line_end q line next h) e = backslash_is_no_quote q quote e
unit_begins quote (unit_rule.other q b next no_z no_line) e = backslash_is_no_quote q quote e

-- nor does it stand where a string ends
unit_is_no_end : {q : ℕ} {unit next : List ℕ} → IsUnit q unit next → IsEnd (unit ++ next) → ⊥
unit_is_no_end (unit_rule.plain q b next h) end = plain_is_no_line q b h end
unit_is_no_end (unit_rule.skip q spaces next all none) end = false≢true end
unit_is_no_end (unit_rule.line_end q line next h) end = false≢true end
unit_is_no_end (unit_rule.other q b next no_z no_line) end = false≢true end

abbrev pub AreUnits : ℕ → List (List ℕ) → List ℕ → Type 0
AreUnits q units next = AllInPlace (IsUnit q) (λ unit. unit) units next

-- what is left of a short string in the quotes q: units, and the quote
abbrev pub IsRest : ℕ → List ℕ → Type 0
IsRest q text = (units : List (List ℕ)) × AreUnits q units (q ∷ []) × (text ≡ unit_bytes units ++ q ∷ [])

pub unit_some : {q : ℕ} {unit next : List ℕ} → IsUnit q unit next → 0 < length unit
unit_some (unit_rule.plain q b next h) = omega arith
unit_some (unit_rule.skip q spaces next all none) = omega arith
unit_some (unit_rule.line_end q line next h) = omega arith
unit_some (unit_rule.other q b next no_z no_line) = omega arith

pub rest_some : (q : ℕ) (next : List ℕ) → IsRest q next → 0 < length next
rest_some q next rest = omega (arith, ap length rest.2, length-append (unit_bytes rest.0) (q ∷ []))

behind_unit : (q : ℕ) (unit next : List ℕ) (units : List (List ℕ)) → is_quote q ≡ true → IsUnit q unit next → AreUnits q units (q ∷ []) → unit ++ next ≡ unit_bytes units ++ q ∷ [] → IsRest q next
behind_unit q unit next [] quote is all e = absurd (unit_begins quote is (ap (λ t. get_or t 0 0) e))
behind_unit q unit next (u ∷ units) quote is all e =
    let cut : unit ++ next ≡ u ++ (unit_bytes units ++ q ∷ []) = e ∙ append_assoc u (unit_bytes units) (q ∷ []) in
    let lengths : length unit ≡ length u = sym (unit_length-is is) ∙ ap unit_length cut ∙ unit_length-is all.0 in
    (units, all.1, (same_cut unit next u (unit_bytes units ++ q ∷ []) cut lengths).1)

pub rest_behind_unit : (q : ℕ) (unit next : List ℕ) → is_quote q ≡ true → IsUnit q unit next → IsRest q (unit ++ next) → IsRest q next
rest_behind_unit q unit next quote is rest = behind_unit q unit next rest.0 quote is rest.1 rest.2

pub rest_behind : (q : ℕ) (units : List (List ℕ)) (next : List ℕ) → is_quote q ≡ true → AreUnits q units next → IsRest q (unit_bytes units ++ next) → IsRest q next
rest_behind q [] next quote all rest = rest
rest_behind q (u ∷ units) next quote all rest =
    rest_behind q units next quote all.1 (rest_behind_unit q u (unit_bytes units ++ next) quote all.0 (subst (IsRest q) (append_assoc u (unit_bytes units) next) rest))

pub ordinary_is_plain : (q b : ℕ) → is_quote q ≡ true → is_ordinary b ≡ true → is_plain q b ≡ true
ordinary_is_plain q b quote h =
    elim (quote_cases q quote) [
      | inl e ↦ subst (λ x. is_plain x b ≡ true) (sym e) (grind (arith, nat_tests))
      | inr e ↦ subst (λ x. is_plain x b ≡ true) (sym e) (grind (arith, nat_tests))
    ]

abbrev pub AllOrdinary : List ℕ → Type 0
AllOrdinary bytes = AllByRecursion (λ b. IsTrue (is_ordinary b)) bytes

-- each byte a unit of its own
abbrev pub singles : List ℕ → List (List ℕ)
singles bytes = map (λ b. b ∷ []) bytes

pub unit_bytes-singles : (bytes : List ℕ) → unit_bytes (singles bytes) ≡ bytes
unit_bytes-singles [] = refl
unit_bytes-singles (b ∷ bytes) = ap (λ t. b ∷ t) (unit_bytes-singles bytes)

pub singles_in_place : (q : ℕ) (bytes next : List ℕ) → is_quote q ≡ true → AllOrdinary bytes → AreUnits q (singles bytes) next
singles_in_place q [] next quote all = tt
singles_in_place q (b ∷ bytes) next quote all = (unit_rule.plain q b _ (ordinary_is_plain q b quote all.0), singles_in_place q bytes next quote all.1)

-- how an escape is cut into units
pub data Shape : List ℕ → List ℕ → Type 0 where
  one_byte : (c : ℕ) (others next : List ℕ) → c ≢ 122 → IsFalse (is_line_byte c) → AllOrdinary others → Shape (c ∷ others) next
  line_end : (line next : List ℕ) → IsLineEndBefore line next → Shape line next
  skip : (spaces next : List ℕ) → AllByRecursion (λ b. IsTrue (is_whitespace b)) spaces → NoneAtFront is_whitespace next → Shape (122 ∷ spaces) next

hex_is_ordinary : (b : ℕ) → is_hex_digit b ≡ true → is_ordinary b ≡ true
hex_is_ordinary b h = grind (arith, nat_tests)

digit_is_ordinary : (b : ℕ) → is_digit b ≡ true → (is_ordinary b ≡ true) × (b ≢ 122) × (is_line_byte b ≡ false)
digit_is_ordinary b h = (grind (arith, nat_tests), grind (arith, nat_tests), grind (arith, nat_tests))

all_map : (P Q : ℕ → Type 0) → ((b : ℕ) → P b → Q b) → (bytes : List ℕ) → AllByRecursion P bytes → AllByRecursion Q bytes
all_map P Q f [] all = tt
all_map P Q f (b ∷ bytes) all = (f b all.0, all_map P Q f bytes all.1)

all_push : (P : ℕ → Type 0) (bytes : List ℕ) (b : ℕ) → AllByRecursion P bytes → P b → AllByRecursion P (bytes ++ b ∷ [])
all_push P [] b all last = (last, tt)
all_push P (a ∷ bytes) b all last = (all.0, all_push P bytes b all.1 last)

decimal_shape : (digits next : List ℕ) → 1 ≤ length digits → AllByRecursion (λ b. IsTrue (is_digit b)) digits → Shape digits next
decimal_shape [] next some all = absurd (omega arith)
decimal_shape (a ∷ digits) next some all = let first = digit_is_ordinary a all.0 in one_byte a digits next first.1 first.2 (all_map (λ b. IsTrue (is_digit b)) (λ b. IsTrue (is_ordinary b)) (λ b h. (digit_is_ordinary b h).0) digits all.1)

pub shape : {escape next value : List ℕ} → IsEscape escape next value → Shape escape next
shape (escape_rule.letter c byte next h) = let p = for_letters (λ c _. (c ≢ 122) × (is_line_byte c ≡ false)) (omega arith, refl) (omega arith, refl) (omega arith, refl) (omega arith, refl) (omega arith, refl) (omega arith, refl) (omega arith, refl) (omega arith, refl) (omega arith, refl) (omega arith, refl) c byte h in one_byte c [] next p.0 p.1 tt
shape (escape_rule.line_end line next h) = line_end line next h
shape (escape_rule.skip spaces next all none) = skip spaces next all none
shape (escape_rule.hexadecimal high low next h l) = one_byte 120 (high ∷ low ∷ []) next (omega arith) refl (hex_is_ordinary high h, (hex_is_ordinary low l, tt))
shape (escape_rule.decimal digits next some most all none small) = decimal_shape digits next some all
shape (escape_rule.code digits next some all small) =
    one_byte 117 (123 ∷ (digits ++ 125 ∷ [])) next (omega arith) refl (refl, all_push _ digits 125 (all_map (λ b. IsTrue (is_hex_digit b)) (λ b. IsTrue (is_ordinary b)) hex_is_ordinary digits all) refl)

-- the units of an escape
abbrev pub HasUnits : ℕ → List ℕ → List ℕ → Type 0
HasUnits q part next = (units : List (List ℕ)) × AreUnits q units next × (part ≡ unit_bytes units)

escape_units : {escape next : List ℕ} → (q : ℕ) → is_quote q ≡ true → Shape escape next → HasUnits q (92 ∷ escape) next
escape_units q quote (one_byte c others next no_z no_line all) =
    ((92 ∷ c ∷ []) ∷ singles others, (unit_rule.other q c _ no_z no_line, singles_in_place q others next quote all), ap (λ t. 92 ∷ c ∷ t) (sym (unit_bytes-singles others)))
escape_units q quote (line_end line next h) = ((92 ∷ line) ∷ [], (unit_rule.line_end q line next h, tt), ap (λ t. 92 ∷ t) (sym (append-nil line)))
escape_units q quote (skip spaces next all none) = ((92 ∷ 122 ∷ spaces) ∷ [], (unit_rule.skip q spaces next all none, tt), ap (λ t. 92 ∷ 122 ∷ t) (sym (append-nil spaces)))

pub part_units : {q : ℕ} {part next value : List ℕ} → is_quote q ≡ true → IsPart q part next value → HasUnits q part next
part_units quote (part_rule.plain q b next h) = ((b ∷ []) ∷ [], (unit_rule.plain q b next h, tt), refl)
part_units quote (part_rule.escape q escape next value h) = escape_units q quote (shape h)

-- the units of parts
pub parts_units : (q : ℕ) (parts : List Part) (next : List ℕ) → is_quote q ≡ true → AreParts q parts next → (units : List (List ℕ)) × AreUnits q units next × (spelling_of parts ≡ unit_bytes units)
parts_units q [] next quote all = ([], tt, refl)
parts_units q (p ∷ parts) next quote all =
    let first = part_units quote all.0 in
    let rest = parts_units q parts next quote all.1 in (
      first.0 ++ rest.0,
      in_place_join (IsUnit q) (λ u. u) first.0 rest.0 next (subst (λ t. AreUnits q first.0 (t ++ next)) rest.2 first.1) rest.1,
      ap (λ t. t ++ spelling_of parts) first.2 ∙ ap (λ t. unit_bytes first.0 ++ t) rest.2 ∙ sym (flat_map-append (λ (u : List ℕ). u) first.0 rest.0),
    )

-- where the quote comes, it alone is left
pub only_quote : (q : ℕ) (next : List ℕ) → is_quote q ≡ true → IsRest q next → get_or next 0 0 ≡ q → next ≡ q ∷ []
only_quote q next quote ([], all, e) at = e
only_quote q next quote (u ∷ units, all, e) at = absurd (unit_begins quote all.0 (ap (λ t. get_or t 0 0) (sym (e ∙ append_assoc u (unit_bytes units) (q ∷ []))) ∙ at))

pub quote_is_no_line : (q : ℕ) → is_quote q ≡ true → is_line_byte q ≡ true → ⊥
quote_is_no_line q quote line = elim (quote_cases q quote) [ inl e ↦ false≢true (ap is_line_byte (sym e) ∙ line) | inr e ↦ false≢true (ap is_line_byte (sym e) ∙ line) ]

-- what is left of a short string does not end before its quote
pub rest_is_no_end : (q : ℕ) (next : List ℕ) → is_quote q ≡ true → IsRest q next → IsEnd next ⊎ (next ≡ 92 ∷ []) → ⊥
rest_is_no_end q next quote ([], all, e) (inl end) = quote_is_no_line q quote (subst IsEnd e end)
rest_is_no_end q next quote ([], all, e) (inr lone) = backslash_is_no_quote q quote (ap (λ t. get_or t 0 0) (sym lone ∙ e))
rest_is_no_end q next quote (u ∷ units, all, e) (inl end) = unit_is_no_end all.0 (subst IsEnd (e ∙ append_assoc u (unit_bytes units) (q ∷ [])) end)
rest_is_no_end q next quote (u ∷ units, all, e) (inr lone) =
    let some = unit_some all.0 in
    let rest : List ℕ = unit_bytes units ++ q ∷ [] in
    omega (arith, ap length (sym lone ∙ e ∙ append_assoc u (unit_bytes units) (q ∷ [])), length-append u rest, length-append (unit_bytes units) (q ∷ []))
