-- Long brackets, and where a long string ends.
use Rattle.std.proofs.Common.{◌≡◌, ◌≢◌, ◌↔◌, ℕ, zero, suc, ◌+◌, ◌-◌, ◌<◌, ◌≤◌, Bool, true, false, cond, eqb, List, [], ◌∷◌, ◌++◌, length, get_or, take, drop, replicate, refl, sym, ap, subst, ◌∙◌, arith, inl, inr, append_assoc, length-append}
use Rattle.std.specs.Prelude.{◌==◌}
use Rattle.std.specs.List.{prefix_len}
use Rattle.std.proofs.lemmas.Bool.{and_parts, eqb-true, eq-eqb, cases_lt, false≢true}
use Rattle.std.proofs.lemmas.List.{take-append-drop, take_at, drop_at, drop_more, get_or-drop, get_or_at, get_or_past, nil_from_length, length-replicate, length-take-le}
use Rattle.memchr.specs.Find.{Nowhere, Passes, is_byte}
use Rattle.luf_str.specs.Spelling.{opening, closing, IsLongSpelling}
use Rattle.luf_str.proofs.Leading.{prefix_len-whole}
use Rattle.luf_str.proofs.LongLaws.{all_equals, level_front, opening_length, closing_length}
use Rattle.luf_byte.specs.Front.{begins}
use Rattle.luf_str.specs.LongEnd.{opens_long, IsOpenLong}

-- ---- where a long bracket opens

equals_front : (text : List ℕ) → take (prefix_len (λ b. b == 61) text) text ≡ replicate (prefix_len (λ b. b == 61) text) 61
equals_front [] = refl
equals_front (b ∷ text) =
    elim (eqb b 61) as (λ t. eqb b 61 ≡ t → take (cond t (1 + prefix_len (λ b. b == 61) text) 0) (b ∷ text) ≡ replicate (cond t (1 + prefix_len (λ b. b == 61) text) 0) 61) [
      | true ↦ λ yes. let e : 1 + prefix_len (λ b. b == 61) text ≡ suc (prefix_len (λ b. b == 61) text) = omega arith in
          rw e (ap (λ x. x ∷ take (prefix_len (λ b. b == 61) text) text) (eqb-true b 61 yes) ∙ ap (λ xs. 61 ∷ xs) (equals_front text))
      | false ↦ λ differs. refl
    ] refl

-- the signs and the byte behind them
pub bracket_front : (text : List ℕ) (level c : ℕ) → level ≡ prefix_len (λ b. b == 61) text → get_or text level 0 ≡ suc c → text ≡ (replicate level 61 ++ suc c ∷ []) ++ drop (level + 1) text
bracket_front text level c is at =
    let inside : level < length text = elim (cases_lt level (length text)) [ inl lt ↦ lt | inr le ↦ absurd (omega (arith, get_or_past text level 0 le)) ] in
    let front : take level text ≡ replicate level 61 = subst (λ k. take k text ≡ replicate k 61) (sym is) (equals_front text) in
    let behind : drop level text ≡ suc c ∷ drop (level + 1) text = drop_more text level 0 inside ∙ ap (λ x. x ∷ drop (level + 1) text) at in
    sym (take-append-drop level text) ∙ ap (λ t. t ++ drop level text) front ∙ ap (λ t. replicate level 61 ++ t) behind ∙ sym (append_assoc (replicate level 61) (suc c ∷ []) (drop (level + 1) text))

pub cons_back : (text : List ℕ) (b : ℕ) → 0 < length text → get_or text 0 0 ≡ b → text ≡ b ∷ drop 1 text
cons_back [] b some e = absurd (omega arith)
cons_back (a ∷ text) b some e = ap (λ x. x ∷ text) e

-- how many `=` stand behind the first byte
abbrev pub level_of : List ℕ → ℕ
level_of text = prefix_len (λ b. b == 61) (drop 1 text)

-- the first byte behind some
pub begins_at : (p : ℕ → Bool) (text : List ℕ) (k : ℕ) → begins p (drop k text) ≡ true → (k < length text) × (p (get_or text k 0) ≡ true)
begins_at p [] zero h = absurd (false≢true h)
begins_at p [] (suc k) h = absurd (false≢true h)
begins_at p (b ∷ text) zero h = (omega arith, h)
begins_at p (b ∷ text) (suc k) h = let rest = begins_at p text k h in (omega arith, rest.1)

-- a text that opens one is the opening bracket and the rest
pub bracket_cut : (text : List ℕ) (level : ℕ) → opens_long text ≡ true → level ≡ level_of text → text ≡ opening level ++ drop (level + 2) text
bracket_cut [] level h is = absurd (false≢true h)
bracket_cut (b ∷ rest) level h is =
    let parts = and_parts _ _ h in
    let first : b ≡ 91 = eqb-true b 91 parts.0 in
    let last : get_or rest level 0 ≡ 91 = eqb-true _ 91 (begins_at (λ c. c == 91) rest level (subst (λ k. begins (λ c. c == 91) (drop k rest) ≡ true) (sym is) parts.1)).1 in
    let e : level + 2 ≡ suc (level + 1) = omega arith in
    let behind : drop (level + 2) (b ∷ rest) ≡ drop (level + 1) rest = ap (λ k. drop k (b ∷ rest)) e in
    ap (λ x. x ∷ rest) first ∙ ap (λ t. 91 ∷ t) (bracket_front rest level 90 is last) ∙ ap (λ t. opening level ++ t) (sym behind)

pub opening_opens : (n : ℕ) (inner : List ℕ) → opens_long (opening n ++ inner) ≡ true
opening_opens n inner =
    let rest : List ℕ = (replicate n 61 ++ 91 ∷ []) ++ inner in
    let level : prefix_len (λ c. c == 61) rest ≡ n = level_front n inner in
    let behind : drop n rest ≡ 91 ∷ inner = ap (drop n) (append_assoc (replicate n 61) (91 ∷ []) inner) ∙ drop_at (replicate n 61) (91 ∷ inner) n (length-replicate {A = ℕ} n 61) in
    ap (λ k. begins (λ c. c == 91) (drop k rest)) level ∙ ap (begins (λ c. c == 91)) behind

-- what goes on behind an opening bracket still opens one
pub opens_more : (text more : List ℕ) → opens_long text ≡ true → opens_long (text ++ more) ≡ true
opens_more text more h =
    let level : ℕ = level_of text in
    let cut = bracket_cut text level h refl in
    ap (λ t. opens_long (t ++ more)) cut ∙ ap opens_long (append_assoc (opening level) (drop (level + 2) text) more) ∙ opening_opens level (drop (level + 2) text ++ more)

pub long_opens : (text : List ℕ) → IsLongSpelling text → opens_long text ≡ true
long_opens text (n, body, long) = ap opens_long long.0 ∙ opening_opens n (body ++ closing n)

-- ---- where it closes

-- what closes has the signs and the byte
closes_front : (text : List ℕ) (level : ℕ) (behind : List ℕ) → text ≡ closing level ++ behind → (get_or text 0 0 ≡ 93) × (prefix_len (λ b. b == 61) (drop 1 text) ≡ level) × (get_or (drop 1 text) level 0 ≡ 93)
closes_front text level behind e =
    let regrouped : drop 1 text ≡ replicate level 61 ++ 93 ∷ behind = ap (drop 1) e ∙ append_assoc (replicate level 61) (93 ∷ []) behind in (
      ap (λ t. get_or t 0 0) e,
      ap (prefix_len (λ b. b == 61)) regrouped ∙ prefix_len-whole (λ b. b == 61) (replicate level 61) (93 ∷ behind) (all_equals level) refl ∙ length-replicate {A = ℕ} level 61,
      ap (λ t. get_or t level 0) regrouped ∙ get_or_at (replicate level 61) 93 behind 0 level (length-replicate {A = ℕ} level 61),
    )

-- whether a closing bracket of the level stands at the front
pub closes_iff : (text behind : List ℕ) (level count last : ℕ) → get_or text 0 0 ≡ 93 → behind ≡ drop 1 text → count ≡ prefix_len (λ b. b == 61) behind → last ≡ get_or behind level 0
    → ((count ≡ level) × (last ≡ 93)) ↔ ((rest : List ℕ) × (text ≡ closing level ++ rest))
closes_iff text behind level count last first e n l = (
  λ h. let some : 0 < length text = elim (cases_lt 0 (length text)) [ inl lt ↦ lt | inr le ↦ absurd (omega (arith, get_or_past text 0 0 le)) ] in
      let front = bracket_front (drop 1 text) level 92 (sym h.0 ∙ n ∙ ap (prefix_len (λ b. b == 61)) e) (ap (λ t. get_or t level 0) (sym e) ∙ sym l ∙ h.1) in
      (drop (level + 1) (drop 1 text), cons_back text 93 some first ∙ ap (λ t. 93 ∷ t) front),
  λ h. let f = closes_front text level h.0 h.1 in (n ∙ ap (prefix_len (λ b. b == 61)) e ∙ f.1, l ∙ ap (λ t. get_or t level 0) e ∙ f.2),
)

-- no closing bracket of the level begins before a place
abbrev pub NoneBelow : ℕ → List ℕ → ℕ → Type 0
NoneBelow level inner at = (k : ℕ) → k < at → (rest : List ℕ) → drop k inner ≡ closing level ++ rest → ⊥

-- one begins only at its first byte
pub none_passed : (level : ℕ) (inner : List ℕ) (at n : ℕ) → NoneBelow level inner at → ((k : ℕ) → k < n → get_or inner (at + k) 0 ≢ 93) → NoneBelow level inner (at + n)
none_passed level inner at n none plain k below rest e =
    elim (cases_lt k at) [
      | inl lt ↦ none k lt rest e
      | inr le ↦
          let there : at + (k - at) ≡ k + 0 = omega arith in
          let byte : get_or inner (at + (k - at)) 0 ≡ 93 = ap (λ i. get_or inner i 0) there ∙ sym (get_or-drop k inner 0 0) ∙ ap (λ t. get_or t 0 0) e in
          plain (k - at) (omega arith) byte
    ]

-- a search for the byte passes none
pub none_found : (level : ℕ) (inner hay : List ℕ) (at n : ℕ) → hay ≡ drop at inner → NoneBelow level inner at → Nowhere (Passes (is_byte 93) hay) 0 n → NoneBelow level inner (at + n)
none_found level inner hay at n is none nowhere =
    none_passed level inner at n none (λ k below e. nowhere k (omega arith) below (eq-eqb _ 93 (ap (λ t. get_or t k 0) is ∙ get_or-drop at inner k 0 ∙ e)))

-- and none begins at the byte that is found
pub none_here : (level : ℕ) (inner : List ℕ) (at : ℕ) → NoneBelow level inner at → ((behind : List ℕ) → drop at inner ≡ closing level ++ behind → ⊥) → NoneBelow level inner (at + 1)
none_here level inner at none here k below rest e =
    elim (cases_lt k at) [
      | inl lt ↦ none k lt rest e
      | inr le ↦ let same : at ≡ k = omega arith in here rest (ap (λ i. drop i inner) same ∙ e)
    ]

-- the first closing bracket ends the long string
pub long_at : (text inner body behind : List ℕ) (level n : ℕ) → text ≡ opening level ++ inner → inner ≡ body ++ (closing level ++ behind) → NoneBelow level inner (length body)
    → n ≡ level + 2 + length body + level + 2 → (n ≤ length text) × IsLongSpelling (take n text)
long_at text inner body behind level n e cut none is =
    let long : List ℕ = opening level ++ (body ++ closing level) in
    let whole : text ≡ long ++ behind = e ∙ ap (λ t. opening level ++ t) (cut ∙ sym (append_assoc body (closing level) behind)) ∙ sym (append_assoc (opening level) (body ++ closing level) behind) in
    let size : length long ≡ n = omega (arith, length-append (opening level) (body ++ closing level), length-append body (closing level), opening_length level, closing_length level) in
    let front : take n text ≡ long = ap (take n) whole ∙ take_at long behind n size in
    let first : (before after : List ℕ) → body ++ closing level ≡ before ++ (closing level ++ after) → after ≡ [] = λ before after f.
    let again : inner ≡ before ++ (closing level ++ (after ++ behind))
    = cut ∙ sym (append_assoc body (closing level) behind) ∙ ap (λ t. t ++ behind) f ∙ append_assoc before (closing level ++ after) behind ∙ ap (λ t. before ++ t) (append_assoc (closing level) after behind) in
    elim (cases_lt (length before) (length body)) [
      | inl lt ↦ absurd (none (length before) lt (after ++ behind) (ap (drop (length before)) again ∙ drop_at before (closing level ++ (after ++ behind)) _ refl))
      | inr le ↦ nil_from_length after (omega (arith, ap length f, length-append body (closing level), length-append before (closing level ++ after), length-append (closing level) after, closing_length level))
    ] in
    (omega (arith, ap length whole, length-append long behind), (level, body, (front, first)))

-- the code's place of the closing bracket
pub closed_at : (text inner behind : List ℕ) (level at : ℕ) → text ≡ opening level ++ inner → at ≤ length inner → drop at inner ≡ closing level ++ behind → NoneBelow level inner at
    → (level + 2 + at + level + 2 ≤ length text) × IsLongSpelling (take (level + 2 + at + level + 2) text)
closed_at text inner behind level at e within closes none =
    let size : length (take at inner) ≡ at = length-take-le at inner within in
    let cut : inner ≡ take at inner ++ (closing level ++ behind) = sym (take-append-drop at inner) ∙ ap (λ t. take at inner ++ t) closes in
    long_at text inner (take at inner) behind level _ e cut (subst (NoneBelow level inner) (sym size) none) (omega (arith, size))

-- where none closes, no front of the text is a long string
pub never_closed : (text inner : List ℕ) (level : ℕ) → opens_long text ≡ true → text ≡ opening level ++ inner → NoneBelow level inner (length inner) → IsOpenLong text
never_closed text inner level opens e none = (
  opens,
  λ n long.
      let m : ℕ = long.0 in
      let body : List ℕ = long.1 in
      let whole : text ≡ opening m ++ (body ++ (closing m ++ drop n text))
      = sym (take-append-drop n text) ∙ ap (λ t. t ++ drop n text) long.2.0 ∙ append_assoc (opening m) (body ++ closing m) (drop n text) ∙ ap (λ t. opening m ++ t) (append_assoc body (closing m) (drop n text)) in
      let same : level ≡ m = sym (level_front level inner) ∙ ap level_of (sym e ∙ whole) ∙ level_front m (body ++ (closing m ++ drop n text)) in
      let again : text ≡ opening level ++ (body ++ (closing level ++ drop n text)) = subst (λ k. text ≡ opening k ++ (body ++ (closing k ++ drop n text))) (sym same) whole in
      let cut : inner ≡ body ++ (closing level ++ drop n text)
      = sym (drop_at (opening level) inner (level + 2) (opening_length level)) ∙ ap (drop (level + 2)) (sym e ∙ again) ∙ drop_at (opening level) (body ++ (closing level ++ drop n text)) (level + 2) (opening_length level) in
      none (length body) (omega (arith, ap length cut, length-append body (closing level ++ drop n text), length-append (closing level) (drop n text), closing_length level)) (drop n text) (ap (drop (length body)) cut ∙ drop_at body (closing level ++ drop n text) _ refl),
)
