-- What the notes of a source's gaps are: comments, trimmed, of which the last ends its line.
use Rattle.std.specs.Prelude.{map}
use Rattle.std.specs.List.{prefix_len, suffix_len}
use Rattle.std.proofs.Common.{◌≡◌, inl, inr, ℕ, zero, suc, ◌+◌, ◌-◌, ◌≤◌, Bool, true, false, not, ◌||◌, cond, List, [], ◌∷◌, ◌++◌, All, length, take, drop, reverse, refl, sym, ap, ◌∙◌, subst, arith, length-append}
use Rattle.std.proofs.lemmas.Bool.{false≢true}
use Rattle.std.proofs.lemmas.List.{reverse-append, reverse-reverse, take-append-le}
use Rattle.std.proofs.lemmas.List.Elements.{All-cons, All-nil}
use Rattle.std.proofs.lemmas.List.Sums.{suffix_len-le-length}
use Rattle.std.proofs.Math.Seq.{take-length}
use Rattle.luf_byte.specs.Class.{is_blank}
use Rattle.luf_str.specs.LongEnd.{opens_long}
use Rattle.luf_doc.specs.declared.doc.Remark.{Remark}
use Rattle.luf_doc.specs.Layout.{has_bytes}
use Rattle.luf_draft.specs.Draft.{Border}
use Rattle.luf_draft.specs.Draft as draft
use Rattle.luf_lex.specs.Note.{lead_of}
use Rattle.luf_lex.specs.Tokens.{toks_of}
use Rattle.luf_lex.specs.declared.note.Note.{Note}
use Rattle.luf_lex.specs.declared.token.Kind.TheVariants.{Comment}
use Rattle.luf_lex.specs.declared.token.Piece.{Piece}
use Rattle.luf_lex.specs.Spelling.{Spells}
use Rattle.luf_bare.specs.Significant.{is_among}
use Rattle.luf_gaps.specs.Gaps.{trimmed, comment_bytes, is_short, remarks, and_before, empty_gap, last_ends, gaps_from, gaps}
use Rattle.luf_gaps.specs.declared.notes.GapNotes.{GapNotes}
use Rattle.luf_style.specs.Filled.{without_blank, first_unspaced, bordered}
use Rattle.luf_kept.specs.inner.AreNotes.{AreNotes}
use Rattle.luf_again.specs.Apart.{HasBytes, ends_last}
use Rattle.luf_again.specs.Formed.{ShortEnds}
use Rattle.luf_twice.specs.Again.{AreTrimmed}

-- ---- comments have bytes, and short ones end their lines

comment_bytes_has : (bytes : List ℕ) → Spells Comment bytes → has_bytes bytes ≡ true
comment_bytes_has bytes (inl c) = ap has_bytes c.spelled
comment_bytes_has bytes (inr c) = ap has_bytes c.spelled

plain_where : (b : Bool) → not b ≡ true → b ≡ false
plain_where true is = absurd (false≢true is)
plain_where false is = refl

pub have_bytes : (notes : List Remark) → AreNotes notes → All HasBytes notes
have_bytes [] are = All-nil HasBytes
have_bytes (r ∷ notes) are = All-cons HasBytes r notes (comment_bytes_has r.text are.0.spelled) (have_bytes notes are.1)

pub short_end : (notes : List Remark) → AreNotes notes → All (ShortEnds is_short) notes
short_end [] are = All-nil (ShortEnds is_short)
short_end (r ∷ notes) are = All-cons (ShortEnds is_short) r notes (λ is. are.0.ends (plain_where (opens_long (drop 2 r.text)) is)) (short_end notes are.1)

-- ---- trimmed once

trim_more : (before : List ℕ) (b : ℕ) → trimmed (before ++ b ∷ []) ≡ cond (is_blank b) (trimmed before) (before ++ b ∷ [])
trim_more before b =
    ap (λ n. take (n - suffix_len is_blank (before ++ b ∷ [])) (before ++ b ∷ [])) (length-append before (b ∷ []))
    ∙ ap (λ n. take ((length before + 1) - n) (before ++ b ∷ [])) measured ∙ by (is_blank b)
  where
    measured : suffix_len is_blank (before ++ b ∷ []) ≡ cond (is_blank b) (1 + suffix_len is_blank before) 0
    measured = ap (prefix_len is_blank) (reverse-append before (b ∷ []))

    within : suffix_len is_blank before ≤ length before
    within = suffix_len-le-length is_blank before

    kept : (length before + 1) - (1 + suffix_len is_blank before) ≡ length before - suffix_len is_blank before
    kept = omega (arith, within)

    whole : (length before + 1) - 0 ≡ length (before ++ b ∷ [])
    whole = omega (arith, length-append before (b ∷ []))

    by : (v : Bool) → take ((length before + 1) - cond v (1 + suffix_len is_blank before) 0) (before ++ b ∷ []) ≡ cond v (trimmed before) (before ++ b ∷ [])
    by true = ap (λ n. take n (before ++ b ∷ [])) kept ∙ take-append-le (length before - suffix_len is_blank before) before (b ∷ []) (omega arith)
    by false = ap (λ n. take n (before ++ b ∷ [])) whole ∙ take-length (before ++ b ∷ [])

trim_back : (back : List ℕ) → trimmed (trimmed (reverse back)) ≡ trimmed (reverse back)
trim_back [] = refl
trim_back (b ∷ back) =
    (λ i. trimmed (here i)) ∙ by (is_blank b) refl (trim_back back) ∙ sym here
  where
    here : trimmed (reverse (b ∷ back)) ≡ cond (is_blank b) (trimmed (reverse back)) (reverse back ++ b ∷ [])
    here = ap trimmed (reverse-append (b ∷ []) back) ∙ trim_more (reverse back) b

    by : (v : Bool) → is_blank b ≡ v → trimmed (trimmed (reverse back)) ≡ trimmed (reverse back) → trimmed (cond v (trimmed (reverse back)) (reverse back ++ b ∷ [])) ≡ cond v (trimmed (reverse back)) (reverse back ++ b ∷ [])
    by true is rest = rest
    by false is rest = trim_more (reverse back) b ∙ ap (λ (v : Bool). cond v (trimmed (reverse back)) (reverse back ++ b ∷ [])) is

trim_once : (bytes : List ℕ) → trimmed (trimmed bytes) ≡ trimmed bytes
trim_once bytes = subst (λ (l : List ℕ). trimmed (trimmed l) ≡ trimmed l) (reverse-reverse bytes) (trim_back (reverse bytes))

remarks_trimmed : (source : List ℕ) (blank : Bool) (notes : List Note) → AreTrimmed (remarks source blank notes)
remarks_trimmed source blank [] = tt
remarks_trimmed source blank (n ∷ notes) = (trim_once (comment_bytes source n), remarks_trimmed source false notes)

append_trimmed : (xs ys : List Remark) → AreTrimmed xs → AreTrimmed ys → AreTrimmed (xs ++ ys)
append_trimmed [] ys a b = b
append_trimmed (x ∷ xs) ys a b = (a.0, append_trimmed xs ys a.1 b)

last_trimmed : (notes : List Remark) → AreTrimmed notes → AreTrimmed (last_ends notes)
last_trimmed [] a = tt
last_trimmed (r ∷ []) a = a
last_trimmed (r ∷ next ∷ notes) a = (a.0, last_trimmed (next ∷ notes) a.1)

last_is : (notes : List Remark) → ends_last (last_ends notes) ≡ true
last_is [] = refl
last_is (r ∷ []) = refl
last_is (r ∷ next ∷ []) = refl
last_is (r ∷ next ∷ other ∷ notes) = last_is (next ∷ other ∷ notes)

-- ---- the gaps of a source

-- the notes of each are trimmed, and the last note of the last gap ends its line
abbrev pub AreEnded : List GapNotes → Type 0
AreEnded [] = Unit {0}
AreEnded (gap ∷ rest) = AreTrimmed gap.notes × (rest ≡ [] → ends_last gap.notes ≡ true) × AreEnded rest

abbrev is_some : List GapNotes → Bool
is_some [] = false
is_some (gap ∷ rest) = true

module _ (source : List ℕ) (pieces : List Piece) (dropped : List ℕ) where
  some_from : (n left : ℕ) (gap : GapNotes) → is_some (gaps_from source pieces dropped n left gap) ≡ true
  some_from n zero gap = refl
  some_from n (suc left) gap = by (is_among n dropped) (some_from (n + 1) left (and_before source pieces n gap))
    where
      by : (v : Bool) → is_some (gaps_from source pieces dropped (n + 1) left (and_before source pieces n gap)) ≡ true
          → is_some (cond v (gaps_from source pieces dropped (n + 1) left (and_before source pieces n gap)) (and_before source pieces n gap ∷ gaps_from source pieces dropped (n + 1) left empty_gap)) ≡ true
      by true rest = rest
      by false rest = refl

  more_trimmed : (n : ℕ) (gap : GapNotes) → AreTrimmed gap.notes → AreTrimmed (and_before source pieces n gap).notes
  more_trimmed n gap are = append_trimmed gap.notes (remarks source gap.blank (lead_of pieces n)) are (remarks_trimmed source gap.blank (lead_of pieces n))

  ended_from : (n left : ℕ) (gap : GapNotes) → AreTrimmed gap.notes → AreEnded (gaps_from source pieces dropped n left gap)
  ended_from n zero gap are = (last_trimmed (and_before source pieces n gap).notes (more_trimmed n gap are), (λ _. last_is (and_before source pieces n gap).notes), tt)
  ended_from n (suc left) gap are =
      by (is_among n dropped) (ended_from (n + 1) left (and_before source pieces n gap) (more_trimmed n gap are)) (ended_from (n + 1) left empty_gap tt) (some_from (n + 1) left empty_gap)
    where
      by : (v : Bool) → AreEnded (gaps_from source pieces dropped (n + 1) left (and_before source pieces n gap)) → AreEnded (gaps_from source pieces dropped (n + 1) left empty_gap)
          → is_some (gaps_from source pieces dropped (n + 1) left empty_gap) ≡ true
          → AreEnded (cond v (gaps_from source pieces dropped (n + 1) left (and_before source pieces n gap)) (and_before source pieces n gap ∷ gaps_from source pieces dropped (n + 1) left empty_gap))
      by true joined fresh some = joined
      by false joined fresh some = (more_trimmed n gap are, (λ none. absurd (false≢true (sym (ap is_some none) ∙ some))), fresh)

pub gaps_are_ended : (source : List ℕ) (pieces : List Piece) (dropped : List ℕ) → AreEnded (gaps source pieces dropped)
gaps_are_ended source pieces dropped = ended_from source pieces dropped 0 (length (toks_of pieces)) empty_gap tt

-- ---- the flags of a border

unspaced_trimmed : (notes : List Remark) → AreTrimmed notes → AreTrimmed (map without_blank notes)
unspaced_trimmed [] are = tt
unspaced_trimmed (r ∷ notes) are = (are.0, unspaced_trimmed notes are.1)

first_trimmed : (e : Bool) (notes : List Remark) → AreTrimmed notes → AreTrimmed (first_unspaced e notes)
first_trimmed e [] are = tt
first_trimmed e (r ∷ notes) are = by (r.own_line || e) (first_trimmed r.ends_line notes are.1)
  where
    by : (v : Bool) → AreTrimmed (first_unspaced r.ends_line notes) → AreTrimmed (cond v (without_blank r ∷ notes) (r ∷ first_unspaced r.ends_line notes))
    by true rest = are
    by false rest = (are.0, rest)

pub border_trimmed : (border : Border) (gap : GapNotes) → AreTrimmed gap.notes → AreTrimmed (bordered border gap).notes
border_trimmed draft.inside gap are = unspaced_trimmed gap.notes are
border_trimmed draft.first_statement gap are = first_trimmed false gap.notes are
border_trimmed draft.later_statement gap are = are
border_trimmed draft.block_end gap are = are
border_trimmed draft.empty_block gap are = first_trimmed false gap.notes are

unspaced_last : (notes : List Remark) → ends_last (map without_blank notes) ≡ ends_last notes
unspaced_last [] = refl
unspaced_last (r ∷ []) = refl
unspaced_last (r ∷ next ∷ notes) = unspaced_last (next ∷ notes)

first_last : (e : Bool) (notes : List Remark) → ends_last (first_unspaced e notes) ≡ ends_last notes
first_last e [] = refl
first_last e (r ∷ []) = by (r.own_line || e)
  where
    by : (v : Bool) → ends_last (cond v (without_blank r ∷ []) (r ∷ [])) ≡ r.ends_line
    by true = refl
    by false = refl
first_last e (r ∷ next ∷ notes) = by (r.own_line || e) (next.own_line || r.ends_line) (first_last r.ends_line (next ∷ notes))
  where
    by : (v w : Bool) → ends_last (cond w (without_blank next ∷ notes) (next ∷ first_unspaced next.ends_line notes)) ≡ ends_last (next ∷ notes)
        → ends_last (cond v (without_blank r ∷ next ∷ notes) (r ∷ cond w (without_blank next ∷ notes) (next ∷ first_unspaced next.ends_line notes))) ≡ ends_last (next ∷ notes)
    by true w rest = refl
    by false true rest = rest
    by false false rest = rest

pub border_last : (border : Border) (gap : GapNotes) → ends_last (bordered border gap).notes ≡ ends_last gap.notes
border_last draft.inside gap = unspaced_last gap.notes
border_last draft.first_statement gap = first_last false gap.notes
border_last draft.later_statement gap = refl
border_last draft.block_end gap = refl
border_last draft.empty_block gap = first_last false gap.notes
