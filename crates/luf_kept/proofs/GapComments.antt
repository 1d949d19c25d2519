-- The comments of a source are the notes of its gaps, in order.
use Rattle.std.proofs.Common.{◌≡◌, ℕ, zero, suc, ◌+◌, ◌<◌, ◌≤◌, Bool, true, false, cond, eqb, ◌&&◌, List, [], ◌∷◌, ◌++◌, length, append-nil, append_assoc, refl, sym, ap, ◌∙◌, arith}
use Rattle.std.specs.Prelude.{map, slice_range}
use Rattle.std.proofs.lemmas.Bool.Decides.{nat_tests}
use Rattle.std.proofs.lemmas.List.{map-append}
use Rattle.luf_lex.specs.Note.{is_comment, note_of, lead_from, lead_of}
use Rattle.luf_lex.specs.Tokens.{is_token, tokens_of, toks_of}
use Rattle.luf_lex.specs.declared.note.Note.{Note}
use Rattle.luf_lex.specs.declared.token.Kind.{Kind}
use Rattle.luf_lex.specs.declared.token.Kind.TheVariants.{Token, Comment}
use Rattle.luf_lex.specs.declared.token.Piece.{Piece}
use Rattle.luf_lex.proofs.TokenLemmas.{length_tokens}
use Rattle.luf_bare.specs.Significant.{is_among}
use Rattle.luf_doc.specs.declared.doc.Remark.{Remark}
use Rattle.luf_gaps.specs.declared.notes.GapNotes.{GapNotes}
use Rattle.luf_gaps.specs.Gaps.{trimmed, comment_bytes, remarks, and_before, empty_gap, last_ends, gaps_from, gaps}
use Rattle.luf_kept.specs.Kept.{comments_in}
use Rattle.luf_kept.specs.inner.LaidNotes.{texts_of, gap_texts}

-- ---- what f gives for n, for n + 1 and so on, for so many numbers behind n

abbrev run : (ℕ → List (List ℕ)) → ℕ → ℕ → List (List ℕ)
run f n zero = f n
run f n (suc left) = f n ++ run f (n + 1) left

run_same : (f g : ℕ → List (List ℕ)) (n left : ℕ) → ((i : ℕ) → n ≤ i → f i ≡ g i) → run f n left ≡ run g n left
run_same f g n zero same = same n (omega arith)
run_same f g n (suc left) same =
    ap (λ t. t ++ run f (n + 1) left) (same n (omega arith)) ∙ ap (λ t. g n ++ t) (run_same f g (n + 1) left (λ i within. same i (omega (arith, within))))

run_none : (f : ℕ → List (List ℕ)) (n left : ℕ) → ((i : ℕ) → f i ≡ []) → run f n left ≡ []
run_none f n zero none = none n
run_none f n (suc left) none = ap (λ t. t ++ run f (n + 1) left) (none n) ∙ run_none f (n + 1) left none

-- one text more for the first of them
run_more : (f g : ℕ → List (List ℕ)) (text : List ℕ) (n left : ℕ) → f n ≡ text ∷ g n → ((i : ℕ) → n < i → f i ≡ g i) → run f n left ≡ text ∷ run g n left
run_more f g text n zero first later = first
run_more f g text n (suc left) first later =
    ap (λ t. t ++ run f (n + 1) left) first ∙ ap (λ t. text ∷ (g n ++ t)) (run_same f g (n + 1) left (λ i within. later i (omega (arith, within))))

-- ---- how many tokens stand before a piece

abbrev one : Bool → ℕ
one true = 1
one false = 0

count_piece : (before : List Piece) (p : Piece) → length (tokens_of (before ++ p ∷ [])) ≡ length (tokens_of before) + one (is_token p.kind)
count_piece [] p = by_kind (is_token p.kind)
  where
    by_kind : (v : Bool) → length (cond v (p ∷ []) []) ≡ 0 + one v
    by_kind true = refl
    by_kind false = refl
count_piece (q ∷ before) p = by_kind (is_token q.kind) (tokens_of (before ++ p ∷ [])) (tokens_of before) (count_piece before p)
  where
    by_kind : (v : Bool) (xs ys : List Piece) → length xs ≡ length ys + one (is_token p.kind) → length (cond v (q ∷ xs) xs) ≡ length (cond v (q ∷ ys) ys) + one (is_token p.kind)
    by_kind true xs ys same = omega (arith, same)
    by_kind false xs ys same = same

count_first : (p : Piece) (after : List Piece) → length (tokens_of (p ∷ after)) ≡ length (tokens_of after) + one (is_token p.kind)
count_first p after = by_kind (is_token p.kind)
  where
    by_kind : (v : Bool) → length (cond v (p ∷ tokens_of after) (tokens_of after)) ≡ length (tokens_of after) + one v
    by_kind true = omega arith
    by_kind false = omega arith

-- ---- the comments before each token

module _ (source : List ℕ) where
  abbrev text_of : Note → List ℕ
  text_of note = trimmed (comment_bytes source note)

  abbrev piece_text : Piece → List ℕ
  piece_text p = trimmed (slice_range source p.span.from p.span.to)

  abbrev texts_before : List Piece → List Piece → ℕ → List (List ℕ)
  texts_before before after n = map text_of (lead_from n before after)

  first_texts : (n : ℕ) (before : List Piece) (p : Piece) (after : List Piece)
      → texts_before before (p ∷ after) n ≡ cond (is_comment p.kind && eqb (length (tokens_of before)) n) (piece_text p ∷ []) [] ++ texts_before (before ++ p ∷ []) after n
  first_texts n before p after = by_test (is_comment p.kind && eqb (length (tokens_of before)) n)
    where
      by_test : (v : Bool) → map text_of (cond v (note_of before p after ∷ []) [] ++ lead_from n (before ++ p ∷ []) after) ≡ cond v (piece_text p ∷ []) [] ++ texts_before (before ++ p ∷ []) after n
      by_test true = refl
      by_test false = refl

  other_texts : (n : ℕ) (before : List Piece) (p : Piece) (after : List Piece) → (is_comment p.kind && eqb (length (tokens_of before)) n) ≡ false
      → texts_before before (p ∷ after) n ≡ texts_before (before ++ p ∷ []) after n
  other_texts n before p after other = first_texts n before p after ∙ ap (λ v. cond v (piece_text p ∷ []) [] ++ texts_before (before ++ p ∷ []) after n) other

  own_texts : (n : ℕ) (before : List Piece) (p : Piece) (after : List Piece) → (is_comment p.kind && eqb (length (tokens_of before)) n) ≡ true
      → texts_before before (p ∷ after) n ≡ piece_text p ∷ texts_before (before ++ p ∷ []) after n
  own_texts n before p after own = first_texts n before p after ∙ ap (λ v. cond v (piece_text p ∷ []) [] ++ texts_before (before ++ p ∷ []) after n) own

  -- none is told of a token that came before
  early_none : (n : ℕ) (before after : List Piece) → n < length (tokens_of before) → texts_before before after n ≡ []
  early_none n before [] early = refl
  early_none n before (p ∷ after) early = other_texts n before p after (by_kind (is_comment p.kind)) ∙ early_none n (before ++ p ∷ []) after (omega (arith, early, count_piece before p))
    where
      by_kind : (v : Bool) → (v && eqb (length (tokens_of before)) n) ≡ false
      by_kind true = grind (arith, nat_tests)
      by_kind false = refl

  -- a piece that is no comment
  none_is : (i : ℕ) (before : List Piece) (p : Piece) → is_comment p.kind ≡ false → (is_comment p.kind && eqb (length (tokens_of before)) i) ≡ false
  none_is i before p other = ap (λ v. v && eqb (length (tokens_of before)) i) other

  none_in : (p : Piece) (after : List Piece) → is_comment p.kind ≡ false → map trimmed (comments_in source after) ≡ map trimmed (comments_in source (p ∷ after))
  none_in p after other = sym (ap (λ v. map trimmed (cond v (slice_range source p.span.from p.span.to ∷ comments_in source after) (comments_in source after))) other)

  -- the texts of the comments from token n on, where n tokens stand before them
  abbrev AreTold : List Piece → List Piece → Type 0
  AreTold before after = (n left : ℕ) → length (tokens_of before) ≡ n → length (tokens_of after) ≤ left → run (texts_before before after) n left ≡ map trimmed (comments_in source after)

  with_other : (before : List Piece) (p : Piece) (after : List Piece) → is_comment p.kind ≡ false → one (is_token p.kind) ≡ 0 → AreTold (before ++ p ∷ []) after → AreTold before (p ∷ after)
  with_other before p after no_comment none told n left at enough =
      run_same (texts_before before (p ∷ after)) (texts_before (before ++ p ∷ []) after) n left (λ i within. other_texts i before p after (none_is i before p no_comment))
      ∙ told n left (omega (arith, count_piece before p, none, at)) (omega (arith, count_first p after, none, enough)) ∙ none_in p after no_comment

  with_token : (before : List Piece) (p : Piece) (after : List Piece) → is_comment p.kind ≡ false → one (is_token p.kind) ≡ 1 → AreTold (before ++ p ∷ []) after → AreTold before (p ∷ after)
  with_token before p after no_comment token told n zero at enough = absurd (omega (arith, count_first p after, token, enough))
  with_token before p after no_comment token told n (suc left) at enough =
      let next : length (tokens_of (before ++ p ∷ [])) ≡ n + 1 = omega (arith, count_piece before p, token, at) in
      let same : (i : ℕ) → texts_before before (p ∷ after) i ≡ texts_before (before ++ p ∷ []) after i = λ i. other_texts i before p after (none_is i before p no_comment) in
      ap (λ t. t ++ run (texts_before before (p ∷ after)) (n + 1) left) (same n ∙ early_none n (before ++ p ∷ []) after (omega (arith, next)))
      ∙ run_same (texts_before before (p ∷ after)) (texts_before (before ++ p ∷ []) after) (n + 1) left (λ i within. same i)
      ∙ told (n + 1) left next (omega (arith, count_first p after, token, enough)) ∙ none_in p after no_comment

  with_comment : (before : List Piece) (p : Piece) (after : List Piece) → is_comment p.kind ≡ true → one (is_token p.kind) ≡ 0 → AreTold (before ++ p ∷ []) after → AreTold before (p ∷ after)
  with_comment before p after comment none told n left at enough =
      run_more (texts_before before (p ∷ after)) (texts_before (before ++ p ∷ []) after) (piece_text p) n left
      (own_texts n before p after (ap (λ v. v && eqb (length (tokens_of before)) n) comment ∙ grind (arith, nat_tests, at)))
      (λ i later. other_texts i before p after (ap (λ v. v && eqb (length (tokens_of before)) i) comment ∙ grind (arith, nat_tests, at, later)))
      ∙ ap (λ t. piece_text p ∷ t) (told n left (omega (arith, count_piece before p, none, at)) (omega (arith, count_first p after, none, enough)))
      ∙ sym (ap (λ v. map trimmed (cond v (slice_range source p.span.from p.span.to ∷ comments_in source after) (comments_in source after))) comment)

  -- token after token, and at the end
  all_told : (before after : List Piece) → AreTold before after
  all_told before [] = λ n left at enough. run_none (texts_before before []) n left (λ i. refl)
  all_told before (p ∷ after) = by_kind p.kind refl (all_told (before ++ p ∷ []) after)
    where
      by_kind : (k : Kind) → p.kind ≡ k → AreTold (before ++ p ∷ []) after → AreTold before (p ∷ after)
      by_kind (Token t) e told = with_token before p after (ap is_comment e) (ap (λ k. one (is_token k)) e) told
      by_kind Comment e told = with_comment before p after (ap is_comment e) (ap (λ k. one (is_token k)) e) told
      by_kind _ e told = with_other before p after (ap is_comment e) (ap (λ k. one (is_token k)) e) told

-- ---- the gaps

remark_texts : (source : List ℕ) (blank : Bool) (notes : List Note) → texts_of (remarks source blank notes) ≡ map (text_of source) notes
remark_texts source blank [] = refl
remark_texts source blank (note ∷ notes) = ap (λ ts. text_of source note ∷ ts) (remark_texts source false notes)

last_texts : (notes : List Remark) → texts_of (last_ends notes) ≡ texts_of notes
last_texts [] = refl
last_texts (note ∷ []) = refl
last_texts (note ∷ other ∷ notes) = ap (λ ts. note.text ∷ ts) (last_texts (other ∷ notes))

module _ (source : List ℕ) (pieces : List Piece) (dropped : List ℕ) where
  abbrev lead_texts : ℕ → List (List ℕ)
  lead_texts = texts_before source [] pieces

  more_texts : (n : ℕ) (gap : GapNotes) → texts_of (and_before source pieces n gap).notes ≡ texts_of gap.notes ++ lead_texts n
  more_texts n gap =
      map-append (λ note. note.text) gap.notes (remarks source gap.blank (lead_of pieces n)) ∙ ap (λ ts. texts_of gap.notes ++ ts) (remark_texts source gap.blank (lead_of pieces n))

  texts_from : (n left : ℕ) (gap : GapNotes) → gap_texts (gaps_from source pieces dropped n left gap) ≡ texts_of gap.notes ++ run lead_texts n left
  texts_from n zero gap =
      append-nil (texts_of (last_ends (and_before source pieces n gap).notes)) ∙ last_texts (and_before source pieces n gap).notes ∙ more_texts n gap
  texts_from n (suc left) gap =
      by_dropped (is_among n dropped) _ _ (texts_from (n + 1) left (and_before source pieces n gap)) (texts_from (n + 1) left empty_gap)
    where
      joins : (texts_of (and_before source pieces n gap).notes ++ run lead_texts (n + 1) left) ≡ texts_of gap.notes ++ (lead_texts n ++ run lead_texts (n + 1) left)
      joins = ap (λ ts. ts ++ run lead_texts (n + 1) left) (more_texts n gap) ∙ append_assoc (texts_of gap.notes) (lead_texts n) (run lead_texts (n + 1) left)

      by_dropped : (v : Bool) (xs ys : List GapNotes) → gap_texts xs ≡ texts_of (and_before source pieces n gap).notes ++ run lead_texts (n + 1) left → gap_texts ys ≡ run lead_texts (n + 1) left
          → gap_texts (cond v xs (and_before source pieces n gap ∷ ys)) ≡ texts_of gap.notes ++ (lead_texts n ++ run lead_texts (n + 1) left)
      by_dropped true xs ys more fresh = more ∙ joins
      by_dropped false xs ys more fresh = ap (λ ts. texts_of (and_before source pieces n gap).notes ++ ts) fresh ∙ joins

-- each in one gap, in order
pub gap_comments : (source : List ℕ) (pieces : List Piece) (dropped : List ℕ) → gap_texts (gaps source pieces dropped) ≡ map trimmed (comments_in source pieces)
gap_comments source pieces dropped =
    texts_from source pieces dropped 0 (length (toks_of pieces)) empty_gap
    ∙ all_told source [] pieces 0 (length (toks_of pieces)) refl (omega (arith, length_tokens pieces))
