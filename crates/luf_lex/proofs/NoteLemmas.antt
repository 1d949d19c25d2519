-- The comments of a cut, by their places, and the last gap.
use Rattle.std.proofs.Common.{◌≡◌, ℕ, zero, suc, ◌+◌, ◌-◌, ◌<◌, ◌≤◌, Some, Bool, true, false, ◌&&◌, ◌==◌, ltb, leb, cond, List, [], ◌∷◌, ◌++◌, length, take, drop, get_or, refl, sym, ap, ◌∙◌, subst, arith, append_assoc, append-nil, length-append, length-drop, ltb-true, ltb-false, leb-true, lt-ltb, le-ltb, le-leb, eq-eqb, ne_eqb}
use Rattle.std.specs.Prelude.{slice_range, slice_get}
use Rattle.std.specs.Option.{option_to_list, option_map}
use Rattle.std.specs.List.Sorted.{IsNonDecreasingBy, IsPartitionPoint}
use Rattle.std.proofs.Math.Seq.{take-length, take-append_seam, drop-append-add}
use Rattle.std.proofs.lemmas.Bool.{lt-leb}
use Rattle.std.proofs.lemmas.List.{take_more}
use Rattle.std.proofs.lemmas.Option.{slice_get-get_or}
use Rattle.luf_lex.specs.inner.Leads.{notes_from, notes_between, gap_start, IsLeadIndex}
use Rattle.luf_lex.specs.inner.Growing.{comment_places}
use Rattle.luf_lex.specs.Note.{is_comment, note_of, lead_from, lead_of}
use Rattle.luf_lex.specs.Tokens.{is_token, tokens_of, token_places}
use Rattle.luf_lex.specs.declared.note.Note.{Note}
use Rattle.luf_lex.specs.declared.token.Kind.{Kind}
use Rattle.luf_lex.specs.declared.token.Kind.TheVariants.{Token, Comment}
use Rattle.luf_lex.specs.declared.token.Piece.{Piece}
use Rattle.luf_lex.proofs.TokenLemmas.{at_seam}

-- ---- the notes of the comments
-- the notes at these places of the pieces
abbrev pub note_at : List Piece → ℕ → List Note
note_at pieces i = option_to_list (option_map (λ p. note_of (take i pieces) p (drop (i + 1) pieces)) (slice_get pieces i))

abbrev pub noted : List Piece → List ℕ → List Note
noted pieces [] = []
noted pieces (i ∷ places) = note_at pieces i ++ noted pieces places

noted_push : (pieces : List Piece) (places : List ℕ) (i : ℕ) → noted pieces (places ++ i ∷ []) ≡ noted pieces places ++ note_at pieces i
noted_push pieces [] i = append-nil (note_at pieces i)
noted_push pieces (j ∷ places) i = ap (λ ns. note_at pieces j ++ ns) (noted_push pieces places i) ∙ sym (append_assoc (note_at pieces j) (noted pieces places) (note_at pieces i))

seam_note : (before : List Piece) (p : Piece) (after : List Piece) → note_at (before ++ p ∷ after) (length before) ≡ note_of before p after ∷ []
seam_note before p after =
    ap (λ o. option_to_list (option_map (λ q. note_of (take (length before) (before ++ p ∷ after)) q (drop (length before + 1) (before ++ p ∷ after))) o)) (at_seam before p after)
    ∙ ap (λ front. note_of front p (drop (length before + 1) (before ++ p ∷ after)) ∷ []) (take-append_seam before (p ∷ after))
    ∙ ap (λ rest. note_of before p rest ∷ []) (drop-append-add before (p ∷ after) 1)

noted_all : (before after : List Piece) → noted (before ++ after) (comment_places (length before) after) ≡ notes_from before after
noted_all before [] = refl
noted_all before (p ∷ after) =
    by_kind (is_comment p.kind) (ap (λ n. noted (before ++ p ∷ after) (comment_places n after)) (sym (length-append before (p ∷ []))) ∙ ap (λ ps. noted ps (comment_places (length (before ++ p ∷ [])) after)) (sym (append_assoc before (p ∷ []) after)) ∙ noted_all (before ++ p ∷ []) after)
  where
    by_kind : (b : Bool) → noted (before ++ p ∷ after) (comment_places (length before + 1) after) ≡ notes_from (before ++ p ∷ []) after
        → noted (before ++ p ∷ after) (cond b (length before ∷ comment_places (length before + 1) after) (comment_places (length before + 1) after)) ≡ cond b (note_of before p after ∷ notes_from (before ++ p ∷ []) after) (notes_from (before ++ p ∷ []) after)
    by_kind true later = ap (λ ns. ns ++ noted (before ++ p ∷ after) (comment_places (length before + 1) after)) (seam_note before p after) ∙ ap (λ ns. note_of before p after ∷ ns) later
    by_kind false later = later

-- all that is left from a place on
tail_is : (pieces : List Piece) (i : ℕ) → take (length pieces - i) (drop i pieces) ≡ drop i pieces
tail_is pieces i = ap (λ n. take n (drop i pieces)) (sym (length-drop i pieces)) ∙ take-length (drop i pieces)

-- one more note
note_here : (pieces : List Piece) (i : ℕ) (p : Piece) (x : Note) → slice_get pieces i ≡ Some p → x ≡ note_of (take i pieces) p (take (length pieces - (i + 1)) (drop (i + 1) pieces)) → note_at pieces i ≡ x ∷ []
note_here pieces i p x found is =
    ap (λ o. option_to_list (option_map (λ q. note_of (take i pieces) q (drop (i + 1) pieces)) o)) found
    ∙ ap (λ rest. note_of (take i pieces) p rest ∷ []) (sym (tail_is pieces (i + 1)))
    ∙ ap (λ y. y ∷ []) (sym is)

pub noted_more : (pieces : List Piece) (places : List ℕ) (k : ℕ) (d : Piece) (x : Note) (old new : List Note) → k < length places → get_or places k 0 < length pieces
    → x ≡ note_of (take (get_or places k 0) pieces) (get_or pieces (get_or places k 0) d) (take (length pieces - (get_or places k 0 + 1)) (drop (get_or places k 0 + 1) pieces))
    → new ≡ old ++ x ∷ [] → old ≡ noted pieces (take k places) → new ≡ noted pieces (take (k + 1) places)
noted_more pieces places k d x old new within inside is next so_far =
    next ∙ ap (λ ns. ns ++ x ∷ []) so_far
    ∙ ap (λ ns. noted pieces (take k places) ++ ns) (sym (note_here pieces (get_or places k 0) (get_or pieces (get_or places k 0) d) x (slice_get-get_or pieces (get_or places k 0) d inside) is))
    ∙ sym (noted_push pieces (take k places) (get_or places k 0))
    ∙ ap (noted pieces) (sym (take_more places k 0 within))

pub noted_notes : (notes : List Note) (places : List ℕ) (pieces : List Piece) → places ≡ comment_places 0 pieces → notes ≡ noted pieces places → notes ≡ notes_from [] pieces
noted_notes notes places pieces at are = are ∙ ap (noted pieces) at ∙ noted_all [] pieces

-- ---- there are as many as places, and these rise
count_notes_step : (b : Bool) (x : Note) (i : ℕ) (notes : List Note) (places : List ℕ) → length notes ≡ length places → length (cond b (x ∷ notes) notes) ≡ length (cond b (i ∷ places) places)
count_notes_step true x i notes places e = ap suc e
count_notes_step false x i notes places e = e

count_notes : (before after : List Piece) (at : ℕ) → length (notes_from before after) ≡ length (comment_places at after)
count_notes before [] at = refl
count_notes before (p ∷ after) at = count_notes_step (is_comment p.kind) _ at _ _ (count_notes (before ++ p ∷ []) after (at + 1))

pub lead_count : (notes : List Note) (places : List ℕ) (pieces : List Piece) → IsLeadIndex notes places pieces → length notes ≡ length places
lead_count notes places pieces h = ap length h.notes_at ∙ count_notes [] pieces 0 ∙ sym (ap length h.places_at)

from_step : (b : Bool) (at : ℕ) (places : List ℕ) → ((k d : ℕ) → k < length places → at + 1 ≤ get_or places k d) → (k d : ℕ) → k < length (cond b (at ∷ places) places) → at ≤ get_or (cond b (at ∷ places) places) k d
from_step true at places later zero d within = omega arith
from_step true at places later (suc k) d within = omega (arith, later k d (omega arith))
from_step false at places later k d within = omega (arith, later k d within)

places_from : (pieces : List Piece) (at k d : ℕ) → k < length (comment_places at pieces) → at ≤ get_or (comment_places at pieces) k d
places_from [] at k d within = absurd (omega arith)
places_from (p ∷ pieces) at k d within = from_step (is_comment p.kind) at (comment_places (at + 1) pieces) (places_from pieces (at + 1)) k d within

rise_step : (b : Bool) (at : ℕ) (places : List ℕ) → ((k d : ℕ) → k < length places → at + 1 ≤ get_or places k d) → IsNonDecreasingBy (λ (i : ℕ). i) places → IsNonDecreasingBy (λ (i : ℕ). i) (cond b (at ∷ places) places)
rise_step true at places above later zero zero d le within = omega arith
rise_step true at places above later zero (suc j) d le within = omega (arith, above j d (omega arith))
rise_step true at places above later (suc i) zero d le within = absurd (omega arith)
rise_step true at places above later (suc i) (suc j) d le within = later i j d (omega arith) (omega arith)
rise_step false at places above later i j d le within = later i j d le within

places_rise : (pieces : List Piece) (at : ℕ) → IsNonDecreasingBy (λ (i : ℕ). i) (comment_places at pieces)
places_rise [] at i j d le within = absurd (omega arith)
places_rise (p ∷ pieces) at i j d le within = rise_step (is_comment p.kind) at (comment_places (at + 1) pieces) (places_from pieces (at + 1)) (places_rise pieces (at + 1)) i j d le within

pub lead_rising : (notes : List Note) (places : List ℕ) (pieces : List Piece) → IsLeadIndex notes places pieces → IsNonDecreasingBy (λ (i : ℕ). i) places
lead_rising notes places pieces h = subst (IsNonDecreasingBy (λ (i : ℕ). i)) (sym h.places_at) (places_rise pieces 0)

-- ---- the notes between two places, as they are found
abbrev Point : ℕ → List ℕ → ℕ → Type 0
Point end places n = IsPartitionPoint (λ (i : ℕ). i < end) (λ (i : ℕ). end ≤ i) places n

test_false : (i from to : ℕ) → to ≤ from → (leb from i && ltb i to) ≡ false
test_false i from to le = by_test (leb from i) refl
  where
    by_test : (b : Bool) → leb from i ≡ b → (b && ltb i to) ≡ false
    by_test true e = le-ltb i to (omega (arith, leb-true from i e))
    by_test false e = refl

below_false : (i from to : ℕ) → i < from → (leb from i && ltb i to) ≡ false
below_false i from to lt = ap (λ b. b && ltb i to) (lt-leb from i lt)

and_false : (b c : Bool) → c ≡ false → (b && c) ≡ false
and_false true c e = e
and_false false c e = refl

above_false : (i from to : ℕ) → to ≤ i → (leb from i && ltb i to) ≡ false
above_false i from to le = and_false (leb from i) (ltb i to) (le-ltb i to le)

both_true : (i from to : ℕ) → from ≤ i → i < to → (leb from i && ltb i to) ≡ true
both_true i from to le lt = ap (λ b. b && ltb i to) (le-leb from i le) ∙ lt-ltb i to lt

left_out : (b : Bool) (x : Note) (ns : List Note) → b ≡ false → cond b (x ∷ []) [] ++ ns ≡ ns
left_out b x ns e = ap (λ t. cond t (x ∷ []) [] ++ ns) e

put_in : (b : Bool) (x : Note) (ns : List Note) → b ≡ true → cond b (x ∷ []) [] ++ ns ≡ x ∷ ns
put_in b x ns e = ap (λ t. cond t (x ∷ []) [] ++ ns) e

-- none where the one place is not before the other
pub none_between : (notes : List Note) (places : List ℕ) (from to : ℕ) → to ≤ from → notes_between notes places from to ≡ []
none_between [] places from to le = refl
none_between (x ∷ notes) [] from to le = refl
none_between (x ∷ notes) (i ∷ places) from to le = left_out _ x _ (test_false i from to le) ∙ none_between notes places from to le

pub points_rise : (places : List ℕ) (from to a b : ℕ) → from < to → a ≤ length places → Point from places a → Point to places b → a ≤ b
points_rise places from to a b lt within h k = by_test (ltb b a) refl
  where
    by_test : (t : Bool) → ltb b a ≡ t → a ≤ b
    by_test true e = let less = ltb-true b a e in absurd (omega (arith, h.0 b 0 (omega arith) less, k.1 b 0 (omega arith) (omega arith)))
    by_test false e = ltb-false b a e

tail_zero : (end i : ℕ) (places : List ℕ) → Point end (i ∷ places) 0 → Point end places 0
tail_zero end i places h = (λ k d low high. absurd (omega arith), λ k d low high. h.1 (suc k) d (omega arith) (omega arith))

tail_suc : (end i : ℕ) (places : List ℕ) (n : ℕ) → Point end (i ∷ places) (suc n) → Point end places n
tail_suc end i places n h = (λ k d low high. h.0 (suc k) d (omega arith) (omega arith), λ k d low high. h.1 (suc k) d (omega arith) (omega arith))

-- the first place is before the end just where it is among those counted
at_zero : (end i : ℕ) (places : List ℕ) → Point end (i ∷ places) 0 → end ≤ i
at_zero end i places h = h.1 0 0 (omega arith) (omega arith)

at_suc : (end i : ℕ) (places : List ℕ) (n : ℕ) → Point end (i ∷ places) (suc n) → i < end
at_suc end i places n h = h.0 0 0 (omega arith) (omega arith)

range_to_zero : (notes : List Note) (a : ℕ) → slice_range notes a 0 ≡ []
range_to_zero notes a = let none : 0 - a ≡ 0 = omega arith in ap (λ n. take n (drop a notes)) none

range_first : (x : Note) (notes : List Note) (b : ℕ) → slice_range (x ∷ notes) 0 (suc b) ≡ x ∷ slice_range notes 0 b
range_first x notes b = let one_more : suc b - 0 ≡ suc (b - 0) = omega arith in ap (λ n. take n (x ∷ notes)) one_more

range_later : (x : Note) (notes : List Note) (a b : ℕ) → slice_range (x ∷ notes) (suc a) (suc b) ≡ slice_range notes a b
range_later x notes a b = let same : suc b - suc a ≡ b - a = omega arith in ap (λ n. take n (drop a notes)) same

pub range_between : (notes : List Note) (places : List ℕ) (from to a b : ℕ) → length notes ≡ length places → a ≤ length places → b ≤ length places → Point from places a → Point to places b → slice_range notes a b ≡ notes_between notes places from to
range_between [] [] from to zero zero same low high h k = refl
range_between [] [] from to (suc a) b same low high h k = absurd (omega arith)
range_between [] [] from to zero (suc b) same low high h k = absurd (omega arith)
range_between [] (i ∷ places) from to a b same low high h k = absurd (omega arith)
range_between (x ∷ notes) [] from to a b same low high h k = absurd (omega arith)
range_between (x ∷ notes) (i ∷ places) from to zero zero same low high h k =
    range_to_zero (x ∷ notes) 0 ∙ sym (range_to_zero notes 0)
    ∙ range_between notes places from to 0 0 (omega arith) (omega arith) (omega arith) (tail_zero from i places h) (tail_zero to i places k)
    ∙ sym (left_out _ x _ (above_false i from to (at_zero to i places k)))
range_between (x ∷ notes) (i ∷ places) from to zero (suc b) same low high h k =
    range_first x notes b
    ∙ ap (λ ns. x ∷ ns) (range_between notes places from to 0 b (omega arith) (omega arith) (omega arith) (tail_zero from i places h) (tail_suc to i places b k))
    ∙ sym (put_in _ x _ (both_true i from to (at_zero from i places h) (at_suc to i places b k)))
range_between (x ∷ notes) (i ∷ places) from to (suc a) zero same low high h k =
    range_to_zero (x ∷ notes) (suc a) ∙ sym (range_to_zero notes a)
    ∙ range_between notes places from to a 0 (omega arith) (omega arith) (omega arith) (tail_suc from i places a h) (tail_zero to i places k)
    ∙ sym (left_out _ x _ (above_false i from to (at_zero to i places k)))
range_between (x ∷ notes) (i ∷ places) from to (suc a) (suc b) same low high h k =
    range_later x notes a b
    ∙ range_between notes places from to a b (omega arith) (omega arith) (omega arith) (tail_suc from i places a h) (tail_suc to i places b k)
    ∙ sym (left_out _ x _ (below_false i from to (at_suc from i places a h)))

-- ---- one more piece, by its kind
count_step : (b : Bool) (q : Piece) (n : ℕ) (xs ys : List Piece) → length xs ≡ length ys + n → length (cond b (q ∷ xs) xs) ≡ length (cond b (q ∷ ys) ys) + n
count_step true q n xs ys e = omega arith
count_step false q n xs ys e = e

abbrev one : Bool → ℕ
one true = 1
one false = 0

count_piece : (before : List Piece) (p : Piece) → length (tokens_of (before ++ p ∷ [])) ≡ length (tokens_of before) + one (is_token p.kind)
count_piece [] p = by_kind (is_token p.kind)
  where
    by_kind : (b : Bool) → length (cond b (p ∷ []) []) ≡ 0 + one b
    by_kind true = refl
    by_kind false = refl
count_piece (q ∷ before) p = count_step (is_token q.kind) q _ _ _ (count_piece before p)

-- none of the comments stands before their first place
none_step : (b : Bool) (x : Note) (notes : List Note) (at : ℕ) (places : List ℕ) (from to : ℕ) → to ≤ at → notes_between notes places from to ≡ [] → notes_between (cond b (x ∷ notes) notes) (cond b (at ∷ places) places) from to ≡ []
none_step true x notes at places from to le later = left_out _ x _ (above_false at from to le) ∙ later
none_step false x notes at places from to le later = later

none_before : (before after : List Piece) (at from to : ℕ) → to ≤ at → notes_between (notes_from before after) (comment_places at after) from to ≡ []
none_before before [] at from to le = refl
none_before before (p ∷ after) at from to le = none_step (is_comment p.kind) _ _ at _ from to le (none_before (before ++ p ∷ []) after (at + 1) from to (omega arith))

-- none of the comments of the later pieces leads a token that stands before them
past_step : (b : Bool) (count n : ℕ) (x : Note) (notes : List Note) → n < count → notes ≡ [] → cond (b && count == n) (x ∷ []) [] ++ notes ≡ []
past_step b count n x notes lt later = left_out _ x notes (and_false b (count == n) (ne_eqb count n (λ e. omega arith))) ∙ later

past_lead : (before after : List Piece) (n : ℕ) → n < length (tokens_of before) → lead_from n before after ≡ []
past_lead before [] n lt = refl
past_lead before (p ∷ after) n lt = past_step (is_comment p.kind) (length (tokens_of before)) n _ _ lt (past_lead (before ++ p ∷ []) after n (omega (arith, count_piece before p)))

-- no token of the later pieces stands before the first of them
token_step : (b : Bool) (at end : ℕ) (places : List ℕ) (m : ℕ) → at ≤ end → ((j : ℕ) → at + 1 ≤ end → at + 1 ≤ get_or places j end) → at + 1 ≤ end → at ≤ get_or (cond b (at ∷ places) places) m end
token_step true at end places zero le later more = omega arith
token_step true at end places (suc m) le later more = omega (arith, later m more)
token_step false at end places m le later more = omega (arith, later m more)

tokens_from : (pieces : List Piece) (at end m : ℕ) → end ≡ at + length pieces → at ≤ get_or (token_places at pieces) m end
tokens_from [] at end m e = omega arith
tokens_from (p ∷ pieces) at end m e = token_step (is_token p.kind) at end (token_places (at + 1) pieces) m (omega arith) (λ j more. tokens_from pieces (at + 1) end j (omega arith)) (omega arith)

-- where what leads a token begins, where it begins at a place for the first
abbrev start : ℕ → List ℕ → ℕ → ℕ → ℕ
start low tokens end zero = low
start low tokens end (suc m) = get_or tokens m end + 1

-- what one piece brings, by its kind: the notes, places and tokens behind it are known
lead_step : (k : Kind) (x : Note) (notes : List Note) (places tokens : List ℕ) (rest : ℕ → List Note) (at count end low m : ℕ) → low ≤ at
    → ((j : ℕ) → at + 1 ≤ get_or tokens j end)
    → ((from to : ℕ) → to ≤ at + 1 → notes_between notes places from to ≡ [])
    → ((n : ℕ) → n < count + one (is_token k) → rest n ≡ [])
    → ((low j : ℕ) → low ≤ at + 1 → notes_between notes places (start low tokens end j) (get_or tokens j end) ≡ rest (count + one (is_token k) + j))
    → notes_between (cond (is_comment k) (x ∷ notes) notes) (cond (is_comment k) (at ∷ places) places) (start low (cond (is_token k) (at ∷ tokens) tokens) end m) (get_or (cond (is_token k) (at ∷ tokens) tokens) m end)
    ≡ cond (is_comment k && count == count + m) (x ∷ []) [] ++ rest (count + m)
lead_step (Token t) x notes places tokens rest at count end low zero le later none past known = none low at (omega arith) ∙ sym (past (count + 0) (omega arith))
lead_step (Token t) x notes places tokens rest at count end low (suc zero) le later none past known = known (at + 1) 0 (omega arith) ∙ ap rest (omega arith)
lead_step (Token t) x notes places tokens rest at count end low (suc (suc m)) le later none past known = known (at + 1) (suc m) (omega arith) ∙ ap rest (omega arith)
lead_step Comment x notes places tokens rest at count end low zero le later none past known =
    put_in _ x _ (both_true at low (get_or tokens 0 end) le (omega (arith, later 0)))
    ∙ ap (λ ns. x ∷ ns) (known low 0 (omega arith) ∙ ap rest (omega arith))
    ∙ sym (put_in (count == count + 0) x _ (eq-eqb count (count + 0) (omega arith)))
lead_step Comment x notes places tokens rest at count end low (suc m) le later none past known =
    left_out _ x _ (below_false at (get_or tokens m end + 1) (get_or tokens (suc m) end) (omega (arith, later m)))
    ∙ known low (suc m) (omega arith) ∙ ap rest (omega arith)
    ∙ sym (left_out (count == count + suc m) x _ (ne_eqb count (count + suc m) (λ e. omega arith)))
lead_step _ x notes places tokens rest at count end low m le later none past known = known low m (omega arith) ∙ ap rest (omega arith)

lead_later : (before after : List Piece) (at count end low m : ℕ) → count ≡ length (tokens_of before) → end ≡ at + length after → low ≤ at
    → notes_between (notes_from before after) (comment_places at after) (start low (token_places at after) end m) (get_or (token_places at after) m end) ≡ lead_from (count + m) before after
lead_later before [] at count end low m counted ends le = refl
lead_later before (p ∷ after) at count end low m counted ends le =
    lead_step p.kind (note_of before p after) (notes_from (before ++ p ∷ []) after) (comment_places (at + 1) after) (token_places (at + 1) after) (λ n. lead_from n (before ++ p ∷ []) after) at count end low m le
    (λ j. tokens_from after (at + 1) end j (omega arith))
    (none_before (before ++ p ∷ []) after (at + 1))
    (λ n lt. past_lead (before ++ p ∷ []) after n (omega (arith, count_piece before p)))
    (λ low2 j le2. lead_later (before ++ p ∷ []) after (at + 1) (count + one (is_token p.kind)) end low2 j (omega (arith, count_piece before p)) (omega arith) le2)
    ∙ ap (λ c. cond (is_comment p.kind && c == count + m) (note_of before p after ∷ []) [] ++ lead_from (count + m) (before ++ p ∷ []) after) counted

same_start : (tokens : List ℕ) (end n : ℕ) → gap_start tokens end n ≡ start 0 tokens end n
same_start tokens end zero = refl
same_start tokens end (suc n) = refl

-- what leads token n stands from the place behind token n - 1 up to its own
pub lead_between : (notes : List Note) (places tokens : List ℕ) (pieces : List Piece) (n from to : ℕ) → IsLeadIndex notes places pieces → tokens ≡ token_places 0 pieces
    → from ≡ gap_start tokens (length pieces) n → to ≡ get_or tokens n (length pieces) → notes_between notes places from to ≡ lead_of pieces n
lead_between notes places tokens pieces n from to h e begins ends =
    ap (λ ns. notes_between ns places from to) h.notes_at
    ∙ ap (λ is. notes_between (notes_from [] pieces) is from to) h.places_at
    ∙ ap (λ i. notes_between (notes_from [] pieces) (comment_places 0 pieces) i to) (begins ∙ same_start tokens (length pieces) n ∙ ap (λ ts. start 0 ts (length pieces) n) e)
    ∙ ap (λ i. notes_between (notes_from [] pieces) (comment_places 0 pieces) (start 0 (token_places 0 pieces) (length pieces) n) i) (ends ∙ ap (λ ts. get_or ts n (length pieces)) e)
    ∙ lead_later [] pieces 0 0 (length pieces) 0 n refl (omega arith) (omega arith)
    ∙ ap (λ k. lead_from k [] pieces) (omega arith)

-- ---- the last gap, told from its end
