-- The notes of the gaps of a source are comments.
use Rattle.std.proofs.Common.{◌≡◌, ℕ, zero, suc, ◌+◌, ◌-◌, inl, inr, Bool, true, false, cond, eqb, not, ◌||◌, ◌&&◌, List, [], ◌∷◌, ◌++◌, length, take, drop, reverse, replicate, append_assoc, refl, sym, ap, ◌∙◌, subst, arith}
use Rattle.std.specs.Prelude.{slice_range, map}
use Rattle.std.specs.List.{All, list_all, prefix_len, suffix_len}
use Rattle.std.proofs.lemmas.Bool.{false≢true, and_parts, cond-false}
use Rattle.std.proofs.lemmas.Bool.Decides.{nat_tests}
use Rattle.std.proofs.lemmas.List.{reverse-append, take-append-drop, take_all}
use Rattle.std.proofs.lemmas.List.Folds.{prefix_len-append, list_all-append}
use Rattle.std.proofs.lemmas.List.Sums.{suffix_len-le-length}
use Rattle.luf_byte.specs.Class.{is_blank, in_line}
use Rattle.luf_str.specs.LongEnd.{opens_long}
use Rattle.luf_str.specs.Spelling.{opening}
use Rattle.luf_str.proofs.BracketLaws.{opens_more}
use Rattle.luf_lex.specs.Spelling.{Spells, IsShortComment, IsLongComment}
use Rattle.luf_lex.specs.Cut.{IsCut}
use Rattle.luf_lex.specs.Tokens.{tokens_of, toks_of}
use Rattle.luf_lex.specs.Note.{is_comment, note_of, lead_from, lead_of}
use Rattle.luf_lex.specs.declared.note.Note.{Note}
use Rattle.luf_lex.specs.declared.token.Kind.{Kind}
use Rattle.luf_lex.specs.declared.token.Kind.TheVariants.{Comment}
use Rattle.luf_lex.specs.declared.token.Piece.{Piece}
use Rattle.luf_lex.proofs.PieceSpellings.{IsSpelledIn, spelled as pieces_spelled}
use Rattle.luf_bare.specs.Significant.{is_among}
use Rattle.luf_doc.specs.declared.doc.Remark.{Remark}
use Rattle.luf_gaps.specs.declared.notes.GapNotes.{GapNotes}
use Rattle.luf_gaps.specs.Gaps.{trimmed, comment_bytes, remark, remarks, and_before, empty_gap, last_ends, gaps_from, gaps}
use Rattle.luf_draft.specs.Draft.{Border}
use Rattle.luf_draft.specs.Draft as draft
use Rattle.luf_style.specs.Filled.{without_blank, first_unspaced, bordered}
use Rattle.luf_kept.specs.inner.AreNotes.{IsNote, AreNotes, AllNotes}

-- ---- a comment without the blanks at its end

-- in front of these, a byte that does not count changes nothing
front_stops : (p : ℕ → Bool) (b : ℕ) (bytes : List ℕ) → p b ≡ false → suffix_len p (b ∷ bytes) ≡ suffix_len p bytes
front_stops p b bytes stop =
    ap (prefix_len p) (reverse-append (b ∷ []) bytes) ∙ prefix_len-append p (reverse bytes) (b ∷ []) ∙ by_all (prefix_len p (reverse bytes)) (length (reverse bytes)) (cond-false (p b) 1 0 stop)
  where
    by_all : (n m : ℕ) → prefix_len p (b ∷ []) ≡ 0 → cond (eqb n m) (m + prefix_len p (b ∷ [])) n ≡ n
    by_all n m none = grind (arith, nat_tests)

-- a last byte that does not count stays
last_stops : (p : ℕ → Bool) (b : ℕ) (bytes : List ℕ) → p b ≡ false → suffix_len p (bytes ++ b ∷ []) ≡ 0
last_stops p b bytes stop = ap (prefix_len p) (reverse-append bytes (b ∷ [])) ∙ cond-false (p b) _ 0 stop

-- what is left of a text behind two dashes
dashes_stay : (rest : List ℕ) → trimmed (45 ∷ 45 ∷ rest) ≡ 45 ∷ 45 ∷ trimmed rest
dashes_stay rest =
    let same : suffix_len is_blank (45 ∷ 45 ∷ rest) ≡ suffix_len is_blank rest = front_stops is_blank 45 (45 ∷ rest) refl ∙ front_stops is_blank 45 rest refl in
    let size : length (45 ∷ 45 ∷ rest) - suffix_len is_blank (45 ∷ 45 ∷ rest) ≡ suc (suc (length rest - suffix_len is_blank rest)) = omega (arith, same, suffix_len-le-length is_blank rest) in
    ap (λ n. take n (45 ∷ 45 ∷ rest)) size

front_opens : (text : List ℕ) (n : ℕ) → opens_long text ≡ false → opens_long (take n text) ≡ false
front_opens text n plain = by_front (opens_long (take n text)) refl
  where
    by_front : (v : Bool) → opens_long (take n text) ≡ v → v ≡ false
    by_front false e = refl
    by_front true e = sym (opens_more (take n text) (drop n text) e) ∙ ap opens_long (take-append-drop n text) ∙ plain

front_all : (p : ℕ → Bool) (text : List ℕ) (n : ℕ) → list_all p text ≡ true → list_all p (take n text) ≡ true
front_all p text n each =
    (and_parts (list_all p (take n text)) (list_all p (drop n text)) (sym (list_all-append p (take n text) (drop n text)) ∙ ap (list_all p) (take-append-drop n text) ∙ each)).0

-- the bytes of a comment, trimmed: still a comment, and short where it was
pub record IsTrimmed (bytes : List ℕ) : Type 0 where
  pub spelled : Spells Comment (trimmed bytes)
  pub same : opens_long (drop 2 (trimmed bytes)) ≡ opens_long (drop 2 bytes)

short_trimmed : (bytes : List ℕ) → IsShortComment bytes → IsTrimmed bytes
short_trimmed bytes c =
    subst IsTrimmed (sym c.spelled) (record {
      spelled = inl (record { rest = trimmed c.rest; spelled = dashes_stay c.rest; plain = front_opens c.rest _ c.plain; each = front_all in_line c.rest _ c.each });
      same = ap (λ t. opens_long (drop 2 t)) (dashes_stay c.rest) ∙ front_opens c.rest _ c.plain ∙ sym c.plain;
    })

-- a long comment ends with a bracket
long_stays : (bytes : List ℕ) → IsLongComment bytes → trimmed bytes ≡ bytes
long_stays bytes c =
    let n = c.long.0 in
    let body = c.long.1 in
    let before : List ℕ = 45 ∷ 45 ∷ (opening n ++ (body ++ (93 ∷ replicate n 61))) in
    let is : bytes ≡ before ++ 93 ∷ [] =
    c.spelled ∙ ap (λ (t : List ℕ). 45 ∷ 45 ∷ t) (c.long.2.0
    ∙ ap (λ (t : List ℕ). opening n ++ t) (sym (append_assoc body (93 ∷ replicate n 61) (93 ∷ [])))
    ∙ sym (append_assoc (opening n) (body ++ (93 ∷ replicate n 61)) (93 ∷ []))) in
    let none : suffix_len is_blank bytes ≡ 0 = ap (suffix_len is_blank) is ∙ last_stops is_blank 93 before refl in
    take_all (length bytes - suffix_len is_blank bytes) bytes (omega (arith, none))

pub comment_trimmed : (bytes : List ℕ) → Spells Comment bytes → IsTrimmed bytes
comment_trimmed bytes (inl c) = short_trimmed bytes c
comment_trimmed bytes (inr c) = record { spelled = subst (λ t. Spells Comment t) (sym (long_stays bytes c)) (inr c); same = ap (λ t. opens_long (drop 2 t)) (long_stays bytes c) }

-- ---- the notes of a gap

abbrev IsComment : List ℕ → Note → Type 0
IsComment source note = Spells Comment (comment_bytes source note)

abbrev AreComments : List ℕ → List Note → Type 0
AreComments source [] = Unit {0}
AreComments source (note ∷ notes) = IsComment source note × AreComments source notes

comments_append : (source : List ℕ) (xs ys : List Note) → AreComments source xs → AreComments source ys → AreComments source (xs ++ ys)
comments_append source [] ys a b = b
comments_append source (x ∷ xs) ys a b = (a.0, comments_append source xs ys a.1 b)

-- the comments among pieces are spelled so
abbrev CommentsSpelled : List ℕ → List Piece → Type 0
CommentsSpelled source [] = Unit {0}
CommentsSpelled source (p ∷ pieces) = (is_comment p.kind ≡ true → Spells Comment (slice_range source p.span.from p.span.to)) × CommentsSpelled source pieces

kind_is : (k : Kind) (bytes : List ℕ) → Spells k bytes → is_comment k ≡ true → Spells Comment bytes
kind_is Comment bytes h is = h
kind_is _ bytes h is = absurd (false≢true is)

leads : (source : List ℕ) (n : ℕ) (before after : List Piece) → CommentsSpelled source after → AreComments source (lead_from n before after)
leads source n before [] spelled = tt
leads source n before (p ∷ after) spelled =
    comments_append source _ (lead_from n (before ++ p ∷ []) after) (by_kind (is_comment p.kind) (eqb (length (tokens_of before)) n) spelled.0) (leads source n (before ++ p ∷ []) after spelled.1)
  where
    by_kind : (v w : Bool) → (v ≡ true → Spells Comment (slice_range source p.span.from p.span.to)) → AreComments source (cond (v && w) (note_of before p after ∷ []) [])
    by_kind true true h = (h refl, tt)
    by_kind true false h = tt
    by_kind false w h = tt

one_note : (source : List ℕ) (blank : Bool) (note : Note) → IsComment source note → IsNote (remark source blank note)
one_note source blank note c =
    let t = comment_trimmed (comment_bytes source note) c in
    record { spelled = t.spelled; ends = λ plain. by_short (opens_long (drop 2 (comment_bytes source note))) note.line_after (sym t.same ∙ plain) }
  where
    by_short : (v w : Bool) → v ≡ false → (not v || w) ≡ true
    by_short true w e = absurd (false≢true (sym e))
    by_short false w e = refl

are_notes : (source : List ℕ) (blank : Bool) (notes : List Note) → AreComments source notes → AreNotes (remarks source blank notes)
are_notes source blank [] c = tt
are_notes source blank (note ∷ notes) c = (one_note source blank note c.0, are_notes source false notes c.1)

pub notes_append : (xs ys : List Remark) → AreNotes xs → AreNotes ys → AreNotes (xs ++ ys)
notes_append [] ys a b = b
notes_append (x ∷ xs) ys a b = (a.0, notes_append xs ys a.1 b)

last_notes : (notes : List Remark) → AreNotes notes → AreNotes (last_ends notes)
last_notes [] a = tt
last_notes (note ∷ []) a = (record { spelled = a.0.spelled; ends = λ plain. refl }, tt)
last_notes (note ∷ other ∷ notes) a = (a.0, last_notes (other ∷ notes) a.1)

module _ (source : List ℕ) (pieces : List Piece) (dropped : List ℕ) (spelled : CommentsSpelled source pieces) where
  more_notes : (n : ℕ) (gap : GapNotes) → AreNotes gap.notes → AreNotes (and_before source pieces n gap).notes
  more_notes n gap a = notes_append gap.notes (remarks source gap.blank (lead_of pieces n)) a (are_notes source gap.blank (lead_of pieces n) (leads source n [] pieces spelled))

  notes_from : (n left : ℕ) (gap : GapNotes) → AreNotes gap.notes → AllNotes (gaps_from source pieces dropped n left gap)
  notes_from n zero gap a = (last_notes (and_before source pieces n gap).notes (more_notes n gap a), tt)
  notes_from n (suc left) gap a =
      by_dropped _ _ (is_among n dropped) (notes_from (n + 1) left (and_before source pieces n gap) (more_notes n gap a)) (notes_from (n + 1) left empty_gap tt) (more_notes n gap a)
    where
      by_dropped : (xs ys : List GapNotes) (v : Bool) → AllNotes xs → AllNotes ys → AreNotes (and_before source pieces n gap).notes → AllNotes (cond v xs (and_before source pieces n gap ∷ ys))
      by_dropped xs ys true more fresh a = more
      by_dropped xs ys false more fresh a = (a, fresh)

-- ---- the comments of a cut

all_spelled : (source : List ℕ) (pieces : List Piece) → All (IsSpelledIn source) pieces → CommentsSpelled source pieces
all_spelled source [] each = tt
all_spelled source (p ∷ pieces) each =
    (kind_is p.kind (slice_range source p.span.from p.span.to) (each 0 p (omega arith)), all_spelled source pieces (λ k d below. each (suc k) d (omega (arith, below))))

pub gaps_are_notes : (source : List ℕ) (pieces : List Piece) (dropped : List ℕ) → IsCut source pieces → AllNotes (gaps source pieces dropped)
gaps_are_notes source pieces dropped cut = notes_from source pieces dropped (all_spelled source pieces (pieces_spelled source pieces cut)) 0 (length (toks_of pieces)) empty_gap tt

-- ---- the flags of a border change no note

same_note : (note : Remark) → IsNote note → IsNote (without_blank note)
same_note note a = record { spelled = a.spelled; ends = a.ends }

unspaced_notes : (notes : List Remark) → AreNotes notes → AreNotes (map without_blank notes)
unspaced_notes [] a = tt
unspaced_notes (note ∷ notes) a = (same_note note a.0, unspaced_notes notes a.1)

first_notes : (ends : Bool) (notes : List Remark) → AreNotes notes → AreNotes (first_unspaced ends notes)
first_notes ends [] a = tt
first_notes ends (note ∷ notes) a = by_break (note.own_line || ends) (first_notes note.ends_line notes a.1)
  where
    by_break : (v : Bool) → AreNotes (first_unspaced note.ends_line notes) → AreNotes (cond v (without_blank note ∷ notes) (note ∷ first_unspaced note.ends_line notes))
    by_break true more = (same_note note a.0, a.1)
    by_break false more = (a.0, more)

pub bordered_notes : (border : Border) (gap : GapNotes) → AreNotes gap.notes → AreNotes (bordered border gap).notes
bordered_notes draft.inside gap a = unspaced_notes gap.notes a
bordered_notes draft.first_statement gap a = first_notes false gap.notes a
bordered_notes draft.later_statement gap a = a
bordered_notes draft.block_end gap a = a
bordered_notes draft.empty_block gap a = first_notes false gap.notes a
