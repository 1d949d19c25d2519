-- The pieces of a gap show the flags of the gap that is read again.
use Rattle.std.proofs.Common.{◌≡◌, ℕ, ◌+◌, Bool, true, false, not, ◌&&◌, ◌||◌, cond, List, [], ◌∷◌, All, refl, sym, ap, ◌∙◌, nat_le}
use Rattle.std.proofs.lemmas.Bool.{false≢true}
use Rattle.std.proofs.lemmas.List.Elements.{All-head, All-tail}
use Rattle.luf_doc.specs.declared.doc.Chance.{Chance}
use Rattle.luf_doc.specs.declared.doc.Chance.TheVariants.{Tight, Space, Soft, Line, Hard}
use Rattle.luf_doc.specs.declared.doc.Gap.{Gap}
use Rattle.luf_doc.specs.declared.doc.Remark.{Remark}
use Rattle.luf_doc.specs.Layout.{Piece, word, note, space, line_end, empty_line, indentation, Mode, is_begun, has_bytes, spaced, broken, must_break, unbroken, next_break, lay_notes, lay_gap}
use Rattle.luf_again.specs.Reread.{reread_notes, last_break, begun_after}
use Rattle.luf_again.specs.Apart.{HasBytes, ends_last}
use Rattle.luf_again.specs.Tells.{Told, comment, and_notes}
use Rattle.luf_again.specs.Shown.{is_line_start, line_ends, has_blank, shown_before}
use Rattle.luf_again.proofs.Truth.{or_at}
use Rattle.luf_again.proofs.SameGap.{begun_break}

-- nothing, or a text or note with bytes stands last
abbrev pub is_settled : List Piece → Bool
is_settled [] = true
is_settled (word bytes ∷ done) = has_bytes bytes
is_settled (note bytes ∷ done) = has_bytes bytes
is_settled (space ∷ done) = false
is_settled (line_end ∷ done) = false
is_settled (empty_line ∷ done) = false
is_settled (indentation level ∷ done) = false

-- nothing, or a text with bytes stands last
abbrev pub is_worded : List Piece → Bool
is_worded [] = true
is_worded (word bytes ∷ done) = has_bytes bytes
is_worded (note bytes ∷ done) = false
is_worded (space ∷ done) = false
is_worded (line_end ∷ done) = false
is_worded (empty_line ∷ done) = false
is_worded (indentation level ∷ done) = false

pub worded_settled : (done : List Piece) → is_worded done ≡ true → is_settled done ≡ true
worded_settled [] is = refl
worded_settled (word bytes ∷ done) is = is
worded_settled (note bytes ∷ done) is = absurd (false≢true is)
worded_settled (space ∷ done) is = absurd (false≢true is)
worded_settled (line_end ∷ done) is = absurd (false≢true is)
worded_settled (empty_line ∷ done) is = absurd (false≢true is)
worded_settled (indentation level ∷ done) is = absurd (false≢true is)

-- ---- a break or a space behind what is settled

record Put (short : List ℕ → Bool) (b blank : Bool) (done : List Piece) (put : List Piece) : Type 0 where
  first : is_line_start put ≡ (b || not (is_begun done))
  empty : has_blank put ≡ (is_begun done && (b && blank))
  before : shown_before short false put ≡ shown_before short b done

-- what is written behind the pieces `done`, which end in bytes
module _ (short : List ℕ → Bool) (level : ℕ) (done : List Piece) where
  put : Bool → Bool → Bool → List Piece
  put g b blank = cond b (cond g (indentation level ∷ cond blank (empty_line ∷ line_end ∷ done) (line_end ∷ done)) done) (cond g (space ∷ done) done)

  put_behind : is_line_start done ≡ false → line_ends done ≡ 0 → (g b blank : Bool) → is_begun done ≡ g → g ≡ true → Put short b blank done (put g b blank)
  unfolding put
  put_behind inside none true true true is at = record {
    first = sym (ap (λ (x : Bool). true || not x) is);
    empty = (λ i. nat_le 2 (1 + (1 + none i))) ∙ sym (ap (λ (x : Bool). x && (true && true)) is);
    before = refl;
  }
  put_behind inside none true true false is at = record {
    first = sym (ap (λ (x : Bool). true || not x) is);
    empty = (λ i. nat_le 2 (1 + none i)) ∙ sym (ap (λ (x : Bool). x && (true && false)) is);
    before = refl;
  }
  put_behind inside none true false blank is at = record {
    first = inside ∙ sym (ap (λ (x : Bool). false || not x) is);
    empty = (λ i. nat_le 2 (none i)) ∙ sym (ap (λ (x : Bool). x && (false && blank)) is);
    before = refl;
  }
  put_behind inside none false b blank is at = absurd (false≢true at)

put_settled : (short : List ℕ → Bool) (level : ℕ) (b blank : Bool) (done : List Piece) → is_settled done ≡ true → Put short b blank done (cond b (broken level blank done) (spaced done))
unfolding put
put_settled short level true blank [] is = record { first = refl; empty = refl; before = refl }
put_settled short level false blank [] is = record { first = refl; empty = refl; before = refl }
put_settled short level b blank (word bytes ∷ done) is =
    put_behind short level (word bytes ∷ done) refl refl (is_begun (word bytes ∷ done)) b blank refl (or_at (has_bytes bytes) (is_begun done) is)
put_settled short level b blank (note bytes ∷ done) is =
    put_behind short level (note bytes ∷ done) refl refl (is_begun (note bytes ∷ done)) b blank refl (or_at (has_bytes bytes) (is_begun done) is)
put_settled short level b blank (space ∷ done) is = absurd (false≢true is)
put_settled short level b blank (line_end ∷ done) is = absurd (false≢true is)
put_settled short level b blank (empty_line ∷ done) is = absurd (false≢true is)
put_settled short level b blank (indentation n ∷ done) is = absurd (false≢true is)

-- ---- the notes of a gap

module _ (short : List ℕ → Bool) where
  notes_shown : (gap : Gap) (level : ℕ) (m h e : Bool) (notes : List Remark) (done : List Piece) → All HasBytes notes → is_settled done ≡ true
      → shown_before short false (lay_notes gap level m h e notes done) ≡ and_notes (reread_notes short m (is_begun done) h e notes) (shown_before short (next_break m h e notes) done)
  notes_shown gap level m h e [] done has is = (put_settled short level (e || (m && not h)) gap.blank done is).before
  notes_shown gap level m h e (r ∷ notes) done has is =
      notes_shown gap level m (h || (r.own_line || e)) r.ends_line notes (note r.text ∷ cond (r.own_line || e) (broken inner r.blank done) (spaced done)) (All-tail HasBytes r notes has) (All-head HasBytes r notes has)
      ∙ (λ i. and_notes (reread_notes short m (has_bytes r.text || begun_break (r.own_line || e) inner r.blank done i) (h || (r.own_line || e)) r.ends_line notes)
      (comment (record {
        text = r.text;
        own_line = at.first i;
        ends_line = short r.text || next_break m (h || (r.own_line || e)) r.ends_line notes;
        blank = at.empty i;
      }) ∷ at.before i))
    where
      inner : ℕ
      inner = level + cond gap.deeper 1 0

      at : Put short (r.own_line || e) r.blank done (cond (r.own_line || e) (broken inner r.blank done) (spaced done))
      at = put_settled short inner (r.own_line || e) r.blank done is

  notes_blank : (gap : Gap) (level : ℕ) (m h e : Bool) (notes : List Remark) (done : List Piece) → All HasBytes notes → is_settled done ≡ true
      → has_blank (lay_notes gap level m h e notes done) ≡ (begun_after (is_begun done) notes && (last_break m h e notes && gap.blank))
  notes_blank gap level m h e [] done has is = (put_settled short level (e || (m && not h)) gap.blank done is).empty
  notes_blank gap level m h e (r ∷ notes) done has is =
      notes_blank gap level m (h || (r.own_line || e)) r.ends_line notes (note r.text ∷ cond (r.own_line || e) (broken (level + cond gap.deeper 1 0) r.blank done) (spaced done))
      (All-tail HasBytes r notes has) (All-head HasBytes r notes has)
      ∙ ap (λ (g : Bool). begun_after (has_bytes r.text || g) notes && (last_break m (h || (r.own_line || e)) r.ends_line notes && gap.blank))
      (begun_break (r.own_line || e) (level + cond gap.deeper 1 0) r.blank done)

  -- ---- a gap, behind a text or nothing

  -- what has been shown, once more pieces follow
  abbrev pub now : List Piece → Told
  now done = record { sights = shown_before short false done; blank = has_blank done }

  worded_same : (b : Bool) (done : List Piece) → is_worded done ≡ true → shown_before short b done ≡ shown_before short false done
  worded_same b [] is = refl
  worded_same b (word bytes ∷ done) is = refl
  worded_same b (note bytes ∷ done) is = absurd (false≢true is)
  worded_same b (space ∷ done) is = absurd (false≢true is)
  worded_same b (line_end ∷ done) is = absurd (false≢true is)
  worded_same b (empty_line ∷ done) is = absurd (false≢true is)
  worded_same b (indentation level ∷ done) is = absurd (false≢true is)

  worded_blank : (done : List Piece) → is_worded done ≡ true → has_blank done ≡ false
  worded_blank [] is = refl
  worded_blank (word bytes ∷ done) is = refl
  worded_blank (note bytes ∷ done) is = absurd (false≢true is)
  worded_blank (space ∷ done) is = absurd (false≢true is)
  worded_blank (line_end ∷ done) is = absurd (false≢true is)
  worded_blank (empty_line ∷ done) is = absurd (false≢true is)
  worded_blank (indentation level ∷ done) is = absurd (false≢true is)

  none_and : (g : Bool) → false ≡ (g && false)
  none_and true = refl
  none_and false = refl

  -- a gap without notes, which breaks or not
  plain_shown : (gap : Gap) (level : ℕ) (done : List Piece) → is_worded done ≡ true → (m : Bool) (chance : Chance)
      → now (cond m (broken level gap.blank done) (unbroken chance done)) ≡ record { sights = shown_before short false done; blank = is_begun done && ((m && true) && gap.blank) }
  plain_shown gap level done is true chance =
      let at = put_settled short level true gap.blank done (worded_settled done is) in
      λ i. record { sights = (at.before ∙ worded_same true done is) i; blank = at.empty i }
  plain_shown gap level done is false Tight = λ i. record { sights = shown_before short false done; blank = (worded_blank done is ∙ none_and (is_begun done)) i }
  plain_shown gap level done is false Soft = λ i. record { sights = shown_before short false done; blank = (worded_blank done is ∙ none_and (is_begun done)) i }
  plain_shown gap level done is false Hard = λ i. record { sights = shown_before short false done; blank = (worded_blank done is ∙ none_and (is_begun done)) i }
  plain_shown gap level done is false Space =
      let at = put_settled short level false gap.blank done (worded_settled done is) in
      λ i. record { sights = at.before i; blank = at.empty i }
  plain_shown gap level done is false Line =
      let at = put_settled short level false gap.blank done (worded_settled done is) in
      λ i. record { sights = at.before i; blank = at.empty i }

  pub gap_shown : (gap : Gap) (mode : Mode) (level : ℕ) (notes : List Remark) (done : List Piece) → All HasBytes notes → is_worded done ≡ true
      → now (lay_gap gap mode level notes done)
      ≡ record {
        sights = and_notes (reread_notes short (must_break gap.chance mode) (is_begun done) false false notes) (shown_before short false done);
        blank = begun_after (is_begun done) notes && (last_break (must_break gap.chance mode) false false notes && gap.blank);
      }
  gap_shown gap mode level [] done has is = plain_shown gap level done is (must_break gap.chance mode) gap.chance
  gap_shown gap mode level (r ∷ notes) done has is =
      let settled = worded_settled done is in
      let sights = notes_shown gap level (must_break gap.chance mode) false false (r ∷ notes) done has settled
      ∙ ap (and_notes (reread_notes short (must_break gap.chance mode) (is_begun done) false false (r ∷ notes))) (worded_same (r.own_line || false) done is) in
      λ i. record { sights = sights i; blank = notes_blank gap level (must_break gap.chance mode) false false (r ∷ notes) done has settled i }

-- ---- the last gap: a line end or nothing stands last, so that the end counts as a line end

module _ (short : List ℕ → Bool) where
  break_last : (level : ℕ) (blank : Bool) (done : List Piece) → is_settled done ≡ true → (b : Bool) → b ≡ true
      → shown_before short true (cond b (broken level blank done) (spaced done)) ≡ shown_before short false (cond b (broken level blank done) (spaced done))
  break_last level blank done settled false is = absurd (false≢true is)
  break_last level blank done settled true is = by done (is_begun done) blank settled refl
    where
      by : (done : List Piece) (g x : Bool) → is_settled done ≡ true → is_begun done ≡ g
          → shown_before short true (cond g (indentation level ∷ cond x (empty_line ∷ line_end ∷ done) (line_end ∷ done)) done)
          ≡ shown_before short false (cond g (indentation level ∷ cond x (empty_line ∷ line_end ∷ done) (line_end ∷ done)) done)
      by done true true is at = refl
      by done true false is at = refl
      by [] false x is at = refl
      by (word bytes ∷ done) false x is at = refl
      by (note bytes ∷ done) false x is at = absurd (false≢true (sym at ∙ or_at (has_bytes bytes) (is_begun done) is))
      by (space ∷ done) false x is at = absurd (false≢true is)
      by (line_end ∷ done) false x is at = absurd (false≢true is)
      by (empty_line ∷ done) false x is at = absurd (false≢true is)
      by (indentation n ∷ done) false x is at = absurd (false≢true is)

  -- the last note ends its line, or the one before these does
  notes_last : (gap : Gap) (level : ℕ) (m h e : Bool) (first : Remark) (notes : List Remark) (done : List Piece) → All HasBytes (first ∷ notes) → is_settled done ≡ true → ends_last (first ∷ notes) ≡ true
      → shown_before short true (lay_notes gap level m h e (first ∷ notes) done) ≡ shown_before short false (lay_notes gap level m h e (first ∷ notes) done)
  notes_last gap level m h e r [] done has is ends =
      break_last level gap.blank (note r.text ∷ cond (r.own_line || e) (broken (level + cond gap.deeper 1 0) r.blank done) (spaced done)) (All-head HasBytes r [] has)
      (r.ends_line || (m && not (h || (r.own_line || e)))) (or_at r.ends_line (m && not (h || (r.own_line || e))) ends)
  notes_last gap level m h e r (next ∷ notes) done has is ends =
      notes_last gap level m (h || (r.own_line || e)) r.ends_line next notes (note r.text ∷ cond (r.own_line || e) (broken (level + cond gap.deeper 1 0) r.blank done) (spaced done))
      (All-tail HasBytes r (next ∷ notes) has) (All-head HasBytes r (next ∷ notes) has) ends

  pub gap_last : (gap : Gap) (mode : Mode) (level : ℕ) (notes : List Remark) (done : List Piece) → All HasBytes notes → is_settled done ≡ true → gap.chance ≡ Hard → ends_last notes ≡ true
      → shown_before short true (lay_gap gap mode level notes done) ≡ shown_before short false (lay_gap gap mode level notes done)
  gap_last gap mode level [] done has is hard ends =
      (λ i. shown_before short true (cond (must_break (hard i) mode) (broken level gap.blank done) (unbroken (hard i) done)))
      ∙ break_last level gap.blank done is true refl
      ∙ (λ i. shown_before short false (cond (must_break (back i) mode) (broken level gap.blank done) (unbroken (back i) done)))
    where
      back : Hard ≡ gap.chance
      back = sym hard
  gap_last gap mode level (r ∷ notes) done has is hard ends = notes_last gap level (must_break gap.chance mode) false false r notes done has is ends
