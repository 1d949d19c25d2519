-- A gap that is read again writes what it wrote.
use Rattle.std.proofs.Common.{◌≡◌, ℕ, ◌+◌, Bool, true, false, not, ◌&&◌, ◌||◌, cond, List, [], ◌∷◌, All, refl, sym, ap, ◌∙◌}
use Rattle.std.proofs.lemmas.List.Elements.{All-head, All-tail}
use Rattle.luf_doc.specs.declared.doc.Gap.{Gap}
use Rattle.luf_doc.specs.declared.doc.Remark.{Remark}
use Rattle.luf_doc.specs.Layout.{Piece, note, space, line_end, empty_line, indentation, Mode, is_begun, has_bytes, spaced, broken, must_break, unbroken, next_break, lay_notes, lay_gap}
use Rattle.luf_again.specs.Reread.{reread_notes, last_break, begun_after}
use Rattle.luf_again.specs.Formed.{ShortEnds}
use Rattle.luf_again.proofs.FlagLaws.{next_ends}

-- a blank flag counts only where something was written and a break stands
shared : (g b blank : Bool) (X : Bool → List Piece) (Y Z : List Piece) → cond ((b || not g) || b) (cond g (X (g && (b && blank))) Y) (cond g Z Y) ≡ cond b (cond g (X blank) Y) (cond g Z Y)
shared true true blank X Y Z = refl
shared true false blank X Y Z = refl
shared false true blank X Y Z = refl
shared false false blank X Y Z = refl

last_shared : (m h e x g blank : Bool) (X : Bool → List Piece) (Y Z : List Piece)
    → cond ((e || (m && not h)) || (m && not (h || x))) (cond g (X (g && ((e || (m && not h)) && blank))) Y) Z ≡ cond (e || (m && not h)) (cond g (X blank) Y) Z
last_shared true true true x true blank X Y Z = refl
last_shared true true true x false blank X Y Z = refl
last_shared true true false x g blank X Y Z = refl
last_shared true false true x true blank X Y Z = refl
last_shared true false true x false blank X Y Z = refl
last_shared true false false x true blank X Y Z = refl
last_shared true false false x false blank X Y Z = refl
last_shared false h true x true blank X Y Z = refl
last_shared false h true x false blank X Y Z = refl
last_shared false h false x g blank X Y Z = refl

had_more : (h x b g : Bool) → ((h || x) || ((b || not g) || b)) ≡ ((h || b) || (x || not g))
had_more true x b g = refl
had_more false true true g = refl
had_more false true false g = refl
had_more false false true g = refl
had_more false false false true = refl
had_more false false false false = refl

pub short_next : (m h s e : Bool) (notes : List Remark) → (s ≡ true → e ≡ true) → (s || next_break m h e notes) ≡ next_break m h e notes
short_next m h true e notes ends = sym (ap (λ (x : Bool). next_break m h x notes) (ends refl) ∙ next_ends m h notes)
short_next m h false e notes ends = refl

pub begun_break : (b : Bool) (level : ℕ) (blank : Bool) (done : List Piece) → is_begun (cond b (broken level blank done) (spaced done)) ≡ is_begun done
begun_break b level blank done = by b (is_begun done) refl
  where
    by : (b g : Bool) → is_begun done ≡ g → is_begun (cond b (cond g (indentation level ∷ cond blank (empty_line ∷ line_end ∷ done) (line_end ∷ done)) done) (cond g (space ∷ done) done)) ≡ g
    by true true is = refl
    by true false is = is
    by false true is = refl
    by false false is = is

gap_shared : (m g blank : Bool) (X : Bool → List Piece) (Y Z : List Piece) → cond m (cond g (X (g && ((m && true) && blank))) Y) Z ≡ cond m (cond g (X blank) Y) Z
gap_shared true true blank X Y Z = refl
gap_shared true false blank X Y Z = refl
gap_shared false g blank X Y Z = refl

first_own : (b g : Bool) → ((b || not g) || false) ≡ ((b || not g) || b)
first_own true g = refl
first_own false g = refl

-- the gap with these notes and this flag
abbrev with_flags : Gap → List Remark → Bool → Gap
with_flags gap notes blank = record { chance = gap.chance; notes = notes; blank = blank; deeper = gap.deeper }

module _ (short : List ℕ → Bool) where
  -- `x`: a break has been written that wrote nothing before
  notes_same : (gap : Gap) (n : List Remark) (bl : Bool) (level : ℕ) (m h x e g : Bool) (notes : List Remark) (done : List Piece)
      → All (ShortEnds short) notes → is_begun done ≡ g → bl ≡ (begun_after g notes && (last_break m h e notes && gap.blank))
      → lay_notes (with_flags gap n bl) level m (h || x) (next_break m h e notes) (reread_notes short m g h e notes) done ≡ lay_notes gap level m h e notes done
  notes_same gap n bl level m h x e g [] done ends begun flags =
      ap (λ (b : Bool). cond ((e || (m && not h)) || (m && not (h || x))) (broken level b done) (spaced done)) (flags ∙ ap (λ (y : Bool). y && ((e || (m && not h)) && gap.blank)) (sym begun))
      ∙ last_shared m h e x (is_begun done) gap.blank (λ b. indentation level ∷ cond b (empty_line ∷ line_end ∷ done) (line_end ∷ done)) done (spaced done)
  notes_same gap n bl level m h x e g (r ∷ notes) done ends begun flags =
      (λ i. lay_notes (with_flags gap n bl) level m (had_more h x (r.own_line || e) g i)
      (short_next m (h || (r.own_line || e)) (short r.text) r.ends_line notes (All-head (ShortEnds short) r notes ends) i)
      (reread_notes short m (has_bytes r.text || g) (h || (r.own_line || e)) r.ends_line notes)
      (note r.text ∷ before i))
      ∙ notes_same gap n bl level m (h || (r.own_line || e)) (x || not g) r.ends_line (has_bytes r.text || g) notes
      (note r.text ∷ cond (r.own_line || e) (broken (level + cond gap.deeper 1 0) r.blank done) (spaced done))
      (All-tail (ShortEnds short) r notes ends)
      (ap (λ (y : Bool). has_bytes r.text || y) (begun_break (r.own_line || e) (level + cond gap.deeper 1 0) r.blank done ∙ begun))
      flags
    where
      before : cond (((r.own_line || e) || not g) || (r.own_line || e)) (broken (level + cond gap.deeper 1 0) (g && ((r.own_line || e) && r.blank)) done) (spaced done) ≡ cond (r.own_line || e) (broken (level + cond gap.deeper 1 0) r.blank done) (spaced done)
      before = ap (λ (y : Bool). cond (((r.own_line || e) || not y) || (r.own_line || e)) (broken (level + cond gap.deeper 1 0) (y && ((r.own_line || e) && r.blank)) done) (spaced done)) (sym begun)
          ∙ shared (is_begun done) (r.own_line || e) r.blank (λ b. indentation (level + cond gap.deeper 1 0) ∷ cond b (empty_line ∷ line_end ∷ done) (line_end ∷ done)) done (space ∷ done)

  pub gap_same : (gap : Gap) (n : List Remark) (bl : Bool) (mode : Mode) (level : ℕ) (notes : List Remark) (done : List Piece)
      → All (ShortEnds short) notes → bl ≡ (begun_after (is_begun done) notes && (last_break (must_break gap.chance mode) false false notes && gap.blank))
      → lay_gap (with_flags gap n bl) mode level (reread_notes short (must_break gap.chance mode) (is_begun done) false false notes) done ≡ lay_gap gap mode level notes done
  gap_same gap n bl mode level [] done ends flags =
      ap (λ (b : Bool). cond (must_break gap.chance mode) (broken level b done) (unbroken gap.chance done)) flags
      ∙ gap_shared (must_break gap.chance mode) (is_begun done) gap.blank (λ b. indentation level ∷ cond b (empty_line ∷ line_end ∷ done) (line_end ∷ done)) done (unbroken gap.chance done)
  gap_same gap n bl mode level (r ∷ notes) done ends flags =
      ap (λ (b : Bool). lay_notes (with_flags gap n bl) level (must_break gap.chance mode) b again
      (reread_notes short (must_break gap.chance mode) (has_bytes r.text || is_begun done) (r.own_line || false) r.ends_line notes)
      (note r.text ∷ cond b (broken (level + cond gap.deeper 1 0) (is_begun done && ((r.own_line || false) && r.blank)) done) (spaced done))) (first_own (r.own_line || false) (is_begun done))
      ∙ notes_same gap n bl level (must_break gap.chance mode) false false false (is_begun done) (r ∷ notes) done ends refl flags
    where
      again : Bool
      again = short r.text || next_break (must_break gap.chance mode) (r.own_line || false) r.ends_line notes
