-- The gaps of a cut are those that its sights tell.
use Rattle.std.proofs.Common.{◌≡◌, ℕ, zero, suc, ◌+◌, Bool, true, false, ◌||◌, cond, List, [], ◌∷◌, ◌++◌, map, refl, sym, ap, ◌∙◌, append-nil, arith}
use Rattle.std.proofs.lemmas.List.{append_assoc}
use Rattle.luf_bare.specs.Significant.{is_among}
use Rattle.luf_doc.specs.declared.doc.Remark.{Remark}
use Rattle.luf_lex.specs.Note.{lead_of, blank_of}
use Rattle.luf_lex.specs.declared.note.Note.{Note}
use Rattle.luf_lex.specs.declared.token.Piece.{Piece}
use Rattle.luf_gaps.specs.Gaps.{trimmed, comment_bytes, is_short, remarks, untold, and_before, empty_gap, last_ends, gaps_from}
use Rattle.luf_gaps.specs.declared.notes.GapNotes.{GapNotes}
use Rattle.luf_again.specs.Lexed.{read_note, notes_before, blank_before}
use Rattle.luf_again.specs.Tells.{Sight, token, comment}
use Rattle.luf_twice.specs.Chooses.{tokens_told}
use Rattle.luf_twice.proofs.Gathered.{and_comment, and_blank, Found, found, onto}

-- comments without blanks at their ends
abbrev pub NotesTrimmed : List ℕ → List Note → Type 0
NotesTrimmed source [] = Unit {0}
NotesTrimmed source (n ∷ notes) = (trimmed (comment_bytes source n) ≡ comment_bytes source n) × NotesTrimmed source notes

-- comments and then a place behind an empty line, or not
abbrev and_told : GapNotes → List Remark → Bool → GapNotes
and_told gap [] blank = and_blank gap blank
and_told gap (r ∷ notes) blank = and_told (and_comment r gap) notes blank

untold_none : (notes : List Note) → untold false notes ≡ false
untold_none [] = refl
untold_none (n ∷ notes) = refl

told_same : (source : List ℕ) (gap : GapNotes) (notes : List Note) (blank : Bool) → NotesTrimmed source notes
    → record { notes = gap.notes ++ remarks source gap.blank notes; blank = untold gap.blank notes || blank } ≡ and_told gap (map (read_note is_short source) notes) blank
told_same source gap [] blank trim = λ i. record { notes = append-nil gap.notes i; blank = gap.blank || blank }
told_same source gap (n ∷ notes) blank trim =
    (λ i. record {
      notes = ((λ j. gap.notes ++ record {
        text = trim.0 j;
        own_line = n.own_line;
        ends_line = is_short (comment_bytes source n) || n.line_after;
        blank = gap.blank || n.blank_before;
      } ∷ remarks source false notes) ∙ sym (append_assoc gap.notes (record {
        text = comment_bytes source n;
        own_line = n.own_line;
        ends_line = is_short (comment_bytes source n) || n.line_after;
        blank = gap.blank || n.blank_before;
      } ∷ []) (remarks source false notes))) i;
      blank = sym (untold_none notes) i || blank;
    })
    ∙ told_same source (and_comment (read_note is_short source n) gap) notes blank trim.1

abbrev after_token : List Sight → List Sight
after_token [] = []
after_token (token bytes blank ∷ sights) = sights
after_token (comment r ∷ sights) = after_token sights

shift_notes : (k : ℕ) (sights : List Sight) → notes_before (suc k) sights ≡ notes_before k (after_token sights)
shift_notes k [] = refl
shift_notes k (token bytes blank ∷ sights) = refl
shift_notes k (comment r ∷ sights) = shift_notes k sights

shift_blank : (k : ℕ) (sights : List Sight) (last : Bool) → blank_before (suc k) sights last ≡ blank_before k (after_token sights) last
shift_blank k [] last = refl
shift_blank k (token bytes blank ∷ sights) last = refl
shift_blank k (comment r ∷ sights) last = shift_blank k sights last

abbrev pub closed : GapNotes → GapNotes
closed gap = record { notes = last_ends gap.notes; blank = gap.blank }

module _ (dropped : List ℕ) where
  -- by tokens
  abbrev told_gaps : ℕ → ℕ → List Sight → Bool → GapNotes → List GapNotes
  told_gaps n zero sights last gap = closed (and_told gap (notes_before 0 sights) (blank_before 0 sights last)) ∷ []
  told_gaps n (suc left) sights last gap = cond (is_among n dropped)
      (told_gaps (n + 1) left (after_token sights) last (and_told gap (notes_before 0 sights) (blank_before 0 sights last)))
      (and_told gap (notes_before 0 sights) (blank_before 0 sights last) ∷ told_gaps (n + 1) left (after_token sights) last empty_gap)

module _ (source : List ℕ) (pieces : List Piece) (dropped : List ℕ) where
  here : (n : ℕ) (sights : List Sight) (last : Bool) (gap : GapNotes) → ((k : ℕ) → map (read_note is_short source) (lead_of pieces (n + k)) ≡ notes_before k sights)
      → ((k : ℕ) → blank_of pieces (n + k) ≡ blank_before k sights last) → ((k : ℕ) → NotesTrimmed source (lead_of pieces k))
      → and_before source pieces n gap ≡ and_told gap (notes_before 0 sights) (blank_before 0 sights last)
  here n sights last gap notes blanks trim =
      let same : n + 0 ≡ n = omega arith in
      told_same source gap (lead_of pieces n) (blank_of pieces n) (trim n)
      ∙ (λ i. and_told gap (((λ j. map (read_note is_short source) (lead_of pieces (sym same j))) ∙ notes 0) i) (((λ j. blank_of pieces (sym same j)) ∙ blanks 0) i))

  from_cut : (n left : ℕ) (sights : List Sight) (last : Bool) (gap : GapNotes) → ((k : ℕ) → map (read_note is_short source) (lead_of pieces (n + k)) ≡ notes_before k sights)
      → ((k : ℕ) → blank_of pieces (n + k) ≡ blank_before k sights last) → ((k : ℕ) → NotesTrimmed source (lead_of pieces k))
      → gaps_from source pieces dropped n left gap ≡ told_gaps dropped n left sights last gap
  from_cut n zero sights last gap notes blanks trim = ap (λ (g : GapNotes). closed g ∷ []) (here n sights last gap notes blanks trim)
  from_cut n (suc left) sights last gap notes blanks trim =
      let is = here n sights last gap notes blanks trim in
      let later_notes : ((k : ℕ) → map (read_note is_short source) (lead_of pieces (n + 1 + k)) ≡ notes_before k (after_token sights)) =
      λ k. let e : n + 1 + k ≡ n + suc k = omega arith in ap (λ m. map (read_note is_short source) (lead_of pieces m)) e ∙ notes (suc k) ∙ shift_notes k sights in
      let later_blanks : ((k : ℕ) → blank_of pieces (n + 1 + k) ≡ blank_before k (after_token sights) last) =
      λ k. let e : n + 1 + k ≡ n + suc k = omega arith in ap (λ m. blank_of pieces m) e ∙ blanks (suc k) ∙ shift_blank k sights last in
      (λ i. cond (is_among n dropped) (gaps_from source pieces dropped (n + 1) left (is i)) (is i ∷ gaps_from source pieces dropped (n + 1) left empty_gap))
      ∙ (λ i. cond (is_among n dropped)
      (from_cut (n + 1) left (after_token sights) last (and_told gap (notes_before 0 sights) (blank_before 0 sights last)) later_notes later_blanks trim i)
      (and_told gap (notes_before 0 sights) (blank_before 0 sights last) ∷ from_cut (n + 1) left (after_token sights) last empty_gap later_notes later_blanks trim i))

-- ---- by sights

module _ (dropped : List ℕ) where
  abbrev walk : ℕ → List Sight → Bool → GapNotes → List GapNotes
  walk n [] last gap = closed (and_blank gap last) ∷ []
  walk n (comment r ∷ sights) last gap = walk n sights last (and_comment r gap)
  walk n (token bytes blank ∷ sights) last gap = cond (is_among n dropped) (walk (suc n) sights last (and_blank gap blank)) (and_blank gap blank ∷ walk (suc n) sights last empty_gap)

  one_comment : (n left : ℕ) (r : Remark) (sights : List Sight) (last : Bool) (gap : GapNotes) → told_gaps dropped n left (comment r ∷ sights) last gap ≡ told_gaps dropped n left sights last (and_comment r gap)
  one_comment n zero r sights last gap = refl
  one_comment n (suc left) r sights last gap = refl

  by_sights : (n : ℕ) (sights : List Sight) (last : Bool) (gap : GapNotes) → told_gaps dropped n (tokens_told sights) sights last gap ≡ walk n sights last gap
  by_sights n [] last gap = refl
  by_sights n (comment r ∷ sights) last gap = one_comment n (tokens_told sights) r sights last gap ∙ by_sights n sights last (and_comment r gap)
  by_sights n (token bytes blank ∷ sights) last gap =
      let next : n + 1 ≡ suc n = omega arith in
      (λ i. cond (is_among n dropped) (told_gaps dropped (next i) (tokens_told sights) sights last (and_blank gap blank)) (and_blank gap blank ∷ told_gaps dropped (next i) (tokens_told sights) sights last empty_gap))
      ∙ (λ i. cond (is_among n dropped) (by_sights (suc n) sights last (and_blank gap blank) i) (and_blank gap blank ∷ by_sights (suc n) sights last empty_gap i))

  abbrev pub behind : List Sight → List Sight → List Sight
  behind [] before = before
  behind (s ∷ sights) before = behind sights (s ∷ before)

  -- all gaps, where the last stands open
  abbrev pub finished : List Sight → Bool → List GapNotes
  finished all last = onto dropped (found dropped all).gaps (closed (and_blank (found dropped all).now last) ∷ [])

  walked : (sights before : List Sight) (last : Bool) → onto dropped (found dropped before).gaps (walk (tokens_told before) sights last (found dropped before).now) ≡ finished (behind sights before) last
  walked [] before last = refl
  walked (comment r ∷ sights) before last = walked sights (comment r ∷ before) last
  walked (token bytes blank ∷ sights) before last = by (is_among (tokens_told before) dropped) ∙ walked sights (token bytes blank ∷ before) last
    where
      by : (b : Bool) → onto dropped (found dropped before).gaps (cond b (walk (suc (tokens_told before)) sights last (and_blank (found dropped before).now blank))
          (and_blank (found dropped before).now blank ∷ walk (suc (tokens_told before)) sights last empty_gap))
          ≡ onto dropped (cond {A = Found} b (record { gaps = (found dropped before).gaps; now = and_blank (found dropped before).now blank })
          (record { gaps = and_blank (found dropped before).now blank ∷ (found dropped before).gaps; now = empty_gap })).gaps
          (walk (suc (tokens_told before)) sights last (cond {A = Found} b (record { gaps = (found dropped before).gaps; now = and_blank (found dropped before).now blank })
          (record { gaps = and_blank (found dropped before).now blank ∷ (found dropped before).gaps; now = empty_gap })).now)
      by true = refl
      by false = refl

pub cut_gaps : (source : List ℕ) (pieces : List Piece) (dropped : List ℕ) (left : ℕ) (sights : List Sight) (last : Bool) → left ≡ tokens_told sights
    → ((k : ℕ) → map (read_note is_short source) (lead_of pieces k) ≡ notes_before k sights) → ((k : ℕ) → blank_of pieces k ≡ blank_before k sights last) → ((k : ℕ) → NotesTrimmed source (lead_of pieces k))
    → gaps_from source pieces dropped 0 left empty_gap ≡ finished dropped (behind dropped sights []) last
cut_gaps source pieces dropped left sights last count notes blanks trim =
    ap (λ n. gaps_from source pieces dropped 0 n empty_gap) count
    ∙ from_cut source pieces dropped 0 (tokens_told sights) sights last empty_gap
    (λ k. let e : 0 + k ≡ k = omega arith in ap (λ m. map (read_note is_short source) (lead_of pieces m)) e ∙ notes k)
    (λ k. let e : 0 + k ≡ k = omega arith in ap (λ m. blank_of pieces m) e ∙ blanks k) trim
    ∙ by_sights dropped 0 sights last empty_gap ∙ walked dropped sights [] last
