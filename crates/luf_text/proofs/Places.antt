-- Where the lines of a text begin, a stretch at a time.
use Rattle.std.proofs.Common.{◌≡◌, ℕ, zero, suc, ◌+◌, ◌-◌, ◌<◌, ◌≤◌, true, false, nat_le, List, [], ◌∷◌, length, drop, get_or, refl, ap, ◌∙◌, arith, ⊎_elim, take, drop-drop, length-drop, get_or-drop}
use Rattle.std.proofs.lemmas.List.{drop_more, drop_all, get_or-take, length-take-le}
use Rattle.std.proofs.lemmas.Bool.{cases_Bool, cond-false, lt-leb, false_from_ne_true}
use Rattle.memchr.specs.Find.{Nowhere, NoneBefore, Passes}
use Rattle.luf_byte.specs.Class.{is_line_byte}
use Rattle.luf_byte.specs.LineEnd.{is_line_pair}
use Rattle.luf_text.specs.Place.{line_starts_from, begun_by, last_or}
use Rattle.luf_text.specs.declared.place.Place.{Place}

-- no line ends at a byte that is no break
pub past_byte : (at a : ℕ) (rest : List ℕ) → is_line_byte a ≡ false → line_starts_from at (a ∷ rest) ≡ line_starts_from (at + 1) rest
past_byte at a [] plain = rw plain refl
past_byte at a (b ∷ rest) plain =
    let single : is_line_pair a b ≡ false = rw plain refl in
    rw single (rw plain refl)

-- nor in a stretch of such bytes
pub past_bytes : (at n : ℕ) (rest : List ℕ) → n ≤ length rest → ((j : ℕ) → j < n → is_line_byte (get_or rest j 0) ≡ false) → line_starts_from at rest ≡ line_starts_from (at + n) (drop n rest)
past_bytes at zero rest within none = ap (λ n. line_starts_from n rest) (omega arith)
past_bytes at (suc n) [] within none = refl
past_bytes at (suc n) (a ∷ rest) within none =
    past_byte at a rest (none 0 (omega arith)) ∙ past_bytes (at + 1) n rest (omega arith) (λ j below. none (suc j) (omega arith))
    ∙ ap (λ place. line_starts_from place (drop n rest)) (omega arith)

-- two bytes that are one line end
pub past_pair : (at a b : ℕ) (rest : List ℕ) → is_line_pair a b ≡ true → line_starts_from at (a ∷ b ∷ rest) ≡ (at + 2) ∷ line_starts_from (at + 2) rest
past_pair at a b rest pair = rw pair refl

-- one byte that is a line end
pub past_end : (at a : ℕ) → is_line_byte a ≡ true → line_starts_from at (a ∷ []) ≡ (at + 1) ∷ []
past_end at a one = rw one refl

pub past_single : (at a b : ℕ) (rest : List ℕ) → is_line_byte a ≡ true → is_line_pair a b ≡ false → line_starts_from at (a ∷ b ∷ rest) ≡ (at + 1) ∷ line_starts_from (at + 1) (b ∷ rest)
past_single at a b rest one single = rw single (rw one refl)

none_first : (at start : ℕ) (starts : List ℕ) → at < start → begun_by at starts ≡ [] → begun_by at (start ∷ starts) ≡ []
none_first at start starts later none = cond-false (nat_le start at) _ _ (lt-leb start at later) ∙ none

-- each line begins after the place from which its text is taken
pub none_begun : (at from : ℕ) (rest : List ℕ) → at ≤ from → begun_by at (line_starts_from from rest) ≡ []
none_begun at from [] le = refl
none_begun at from (a ∷ []) le = ⊎_elim
    (λ one. rw one (none_first at (from + 1) [] (omega arith) refl))
    (λ plain. rw plain refl) (cases_Bool (is_line_byte a))
none_begun at from (a ∷ b ∷ rest) le = ⊎_elim
    (λ pair. rw pair (none_first at (from + 2) (line_starts_from (from + 2) rest) (omega arith) (none_begun at (from + 2) rest (omega arith))))
    (λ single. rw single (⊎_elim
    (λ one. rw one (none_first at (from + 1) (line_starts_from (from + 1) (b ∷ rest)) (omega arith) (none_begun at (from + 1) (b ∷ rest) (omega arith))))
    (λ plain. rw plain (none_begun at (from + 1) (b ∷ rest) (omega arith))) (cases_Bool (is_line_byte a)))) (cases_Bool (is_line_pair a b))

-- the line end at an index of a text
pub at_pair : (src : List ℕ) (first : ℕ) → first + 1 < length src → is_line_pair (get_or src first 0) (get_or src (first + 1) 0) ≡ true
    → line_starts_from first (drop first src) ≡ (first + 2) ∷ line_starts_from (first + 2) (drop (first + 2) src)
at_pair src first within pair =
    let next : first + 1 + 1 ≡ first + 2 = omega arith in
    let here : drop first src ≡ get_or src first 0 ∷ (get_or src (first + 1) 0 ∷ drop (first + 2) src) =
    drop_more src first 0 (omega arith) ∙ ap (λ rest. get_or src first 0 ∷ rest) (drop_more src (first + 1) 0 within ∙ ap (λ n. get_or src (first + 1) 0 ∷ drop n src) next) in
    rw here (past_pair first (get_or src first 0) (get_or src (first + 1) 0) (drop (first + 2) src) pair)

pub at_single : (src : List ℕ) (first : ℕ) → first + 1 < length src → is_line_byte (get_or src first 0) ≡ true
    → is_line_pair (get_or src first 0) (get_or src (first + 1) 0) ≡ false
    → line_starts_from first (drop first src) ≡ (first + 1) ∷ line_starts_from (first + 1) (drop (first + 1) src)
at_single src first within one single =
    let later = drop_more src (first + 1) 0 within in
    let here : drop first src ≡ get_or src first 0 ∷ (get_or src (first + 1) 0 ∷ drop (first + 1 + 1) src) =
    drop_more src first 0 (omega arith) ∙ ap (λ rest. get_or src first 0 ∷ rest) later in
    rw (here, later) (past_single first (get_or src first 0) (get_or src (first + 1) 0) (drop (first + 1 + 1) src) one single)

pub at_last : (src : List ℕ) (first : ℕ) → first + 1 ≡ length src → is_line_byte (get_or src first 0) ≡ true
    → line_starts_from first (drop first src) ≡ (first + 1) ∷ line_starts_from (first + 1) (drop (first + 1) src)
at_last src first last one =
    let gone : drop (first + 1) src ≡ [] = drop_all (first + 1) src (omega arith) in
    let here : drop first src ≡ get_or src first 0 ∷ [] = drop_more src first 0 (omega arith) ∙ ap (λ rest. get_or src first 0 ∷ rest) gone in
    rw (here, gone) (past_end first (get_or src first 0) one)

-- a stretch of a text without line ends
pub past_stretch : (src : List ℕ) (from n : ℕ) → from + n ≤ length src → ((j : ℕ) → j < n → is_line_byte (get_or src (from + j) 0) ≡ false)
    → line_starts_from from (drop from src) ≡ line_starts_from (from + n) (drop (from + n) src)
past_stretch src from n within none =
    past_bytes from n (drop from src) (rw length-drop (omega arith)) (λ j below. rw get_or-drop (none j below))
    ∙ ap (line_starts_from (from + n)) (drop-drop n from src)

-- the place of byte `at` on a line or after it: the line's number, where it begins, and where later lines begin
abbrev pub place_from : ℕ → ℕ → ℕ → List ℕ → Place
place_from line start at starts =
    let begun = begun_by at starts in
    record { line = line + length begun; column = 1 + at - last_or start begun }

-- no line has begun where the next begins later
pub none_begun_before : (at next : ℕ) (rest : List ℕ) → at < next → begun_by at (next ∷ line_starts_from next rest) ≡ []
none_begun_before at next rest later = none_first at next (line_starts_from next rest) later (none_begun at next rest (omega arith))

-- what a search for a break says of the lines that begin
module _ (src : List ℕ) (from at : ℕ) (order : from ≤ at) (within : at ≤ length src) where
  read_in_stretch : (j : ℕ) → from + j < at → get_or (take (at - from) (drop from src)) j 0 ≡ get_or src (from + j) 0
  read_in_stretch j below = get_or-take (at - from) (drop from src) j 0 (omega arith) ∙ get_or-drop from src j 0

  no_break : (j : ℕ) → from + j < at → ¬ (Passes is_line_byte (take (at - from) (drop from src)) j) → is_line_byte (get_or src (from + j) 0) ≡ false
  no_break j below none = rw (← read_in_stretch j below) (false_from_ne_true (is_line_byte (get_or (take (at - from) (drop from src)) j 0)) none)

  stretch_len : length (take (at - from) (drop from src)) ≡ at - from
  stretch_len = length-take-le (at - from) (drop from src) (rw length-drop (omega arith))

  -- up to the first break
  pub past_to_first : (found : ℕ) → NoneBefore (Passes is_line_byte (take (at - from) (drop from src))) 0 (length (take (at - from) (drop from src))) found
      → line_starts_from from (drop from src) ≡ line_starts_from (from + found) (drop (from + found) src)
  past_to_first found first = past_stretch src from found (omega (arith, first.high, stretch_len))
      (λ j below. no_break j (omega (arith, first.high, stretch_len)) (first.before j (omega arith) below))

  -- where there is none
  pub none_begun_in : Nowhere (Passes is_line_byte (take (at - from) (drop from src))) 0 (length (take (at - from) (drop from src)))
      → begun_by at (line_starts_from from (drop from src)) ≡ []
  none_begun_in nowhere =
      let all : line_starts_from from (drop from src) ≡ line_starts_from (from + (at - from)) (drop (from + (at - from)) src) =
      past_stretch src from (at - from) (omega arith) (λ j below. no_break j (omega arith) (nowhere j (omega arith) (omega (arith, stretch_len)))) in
      rw all (none_begun at (from + (at - from)) (drop (from + (at - from)) src) (omega arith))
