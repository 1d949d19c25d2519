-- What a gap holds that is read again is bordered already.
use Rattle.std.proofs.Common.{◌≡◌, ℕ, Bool, true, false, not, ◌&&◌, ◌||◌, cond, List, [], ◌∷◌, All, map, refl, sym, ap, ◌∙◌, subst}
use Rattle.std.proofs.lemmas.Bool.{false≢true}
use Rattle.std.proofs.lemmas.List.Elements.{All-head, All-tail}
use Rattle.luf_doc.specs.declared.doc.Chance.{Chance}
use Rattle.luf_doc.specs.declared.doc.Gap.{Gap}
use Rattle.luf_doc.specs.declared.doc.Remark.{Remark}
use Rattle.luf_doc.specs.Layout.{has_bytes, next_break}
use Rattle.luf_draft.specs.Draft.{Border, Opening}
use Rattle.luf_draft.specs.Draft as draft
use Rattle.luf_gaps.specs.declared.notes.GapNotes.{GapNotes}
use Rattle.luf_style.specs.Filled.{without_blank, first_unspaced, breaks_early, bordered, IsChance, apart, spaced, noted, hard, kept, IsGap}
use Rattle.luf_again.specs.Formed.{ShortEnds}
use Rattle.luf_again.specs.Reread.{reread_notes, reread_gap, last_break, begun_after}
use Rattle.luf_again.proofs.FlagLaws.{next_ends}
use Rattle.luf_again.proofs.Truth.{or_at, or_both}
use Rattle.luf_twice.specs.Again.{notes_of_gap}

-- ---- what a gap writes without notes depends on whether there are notes alone

abbrev has : List Remark → Bool
has [] = false
has (r ∷ notes) = true

has_none : (notes : List Remark) → has notes ≡ false → notes ≡ []
has_none [] is = refl
has_none (r ∷ notes) is = absurd (false≢true (sym is))

chance_again : (before after : List ℕ) (xs ys : List Remark) (border : Border) (chance result : Chance) → has ys ≡ has xs → IsChance before after xs border chance result → IsChance before after ys border chance result
chance_again before after xs ys _ _ _ same (apart border none stand) = apart border (has_none ys (same ∙ ap has none)) stand
chance_again before after xs ys _ _ _ same (spaced border none need) = spaced border (has_none ys (same ∙ ap has none)) need
chance_again before after xs ys _ _ _ same (noted border inside some) = noted border inside (λ none. some (has_none xs (sym same ∙ ap has none)))
chance_again before after xs ys _ _ _ same (hard chance some) = hard chance (λ none. some (has_none xs (sym same ∙ ap has none)))
chance_again before after xs ys _ _ _ same (kept border chance not_tight none) = kept border chance not_tight (λ e. has_none ys (same ∙ ap has (none e)))

bare_has : (xs : List Remark) → has (map without_blank xs) ≡ has xs
bare_has [] = refl
bare_has (r ∷ xs) = refl

first_has : (e : Bool) (xs : List Remark) → has (first_unspaced e xs) ≡ has xs
first_has e [] = refl
first_has e (r ∷ xs) = by (r.own_line || e)
  where
    by : (b : Bool) → has (cond b (without_blank r ∷ xs) (r ∷ first_unspaced r.ends_line xs)) ≡ true
    by true = refl
    by false = refl

border_has : (border : Border) (gap : GapNotes) → has (bordered border gap).notes ≡ has gap.notes
border_has draft.inside gap = bare_has gap.notes
border_has draft.first_statement gap = first_has false gap.notes
border_has draft.later_statement gap = refl
border_has draft.block_end gap = refl
border_has draft.empty_block gap = first_has false gap.notes

-- ---- notes that are read again

and_none : (g b : Bool) → (g && (b && false)) ≡ false
and_none true true = refl
and_none true false = refl
and_none false b = refl

-- the first note that a break stands before has no blank flag
abbrev first_bare : Bool → List Remark → Bool
first_bare e [] = true
first_bare e (r ∷ notes) = cond (r.own_line || e) (not r.blank) (first_bare r.ends_line notes)

unspaced_bare : (e : Bool) (notes : List Remark) → first_bare e (first_unspaced e notes) ≡ true
unspaced_bare e [] = refl
unspaced_bare e (r ∷ notes) = by (r.own_line || e) refl (unspaced_bare r.ends_line notes)
  where
    by : (b : Bool) → (r.own_line || e) ≡ b → first_bare r.ends_line (first_unspaced r.ends_line notes) ≡ true → first_bare e (cond b (without_blank r ∷ notes) (r ∷ first_unspaced r.ends_line notes)) ≡ true
    by true is rest = ap (λ (b : Bool). cond b true (first_bare r.ends_line notes)) is
    by false is rest = ap (λ (b : Bool). cond b (not r.blank) (first_bare r.ends_line (first_unspaced r.ends_line notes))) is ∙ rest

no_blank : (b blank : Bool) (rest : Bool) → cond b (not blank) rest ≡ true → b ≡ true → blank ≡ false
no_blank true true rest is at = absurd (false≢true is)
no_blank true false rest is at = refl
no_blank false blank rest is at = absurd (false≢true at)

bare_behind : (b blank : Bool) (rest : Bool) → cond b (not blank) rest ≡ true → b ≡ false → rest ≡ true
bare_behind true blank rest is at = absurd (false≢true (sym at))
bare_behind false blank rest is at = is

unspaced_breaks : (e : Bool) (notes : List Remark) → breaks_early e (first_unspaced e notes) ≡ breaks_early e notes
unspaced_breaks e [] = refl
unspaced_breaks e (r ∷ notes) = by (r.own_line || e) refl (unspaced_breaks r.ends_line notes)
  where
    by : (b : Bool) → (r.own_line || e) ≡ b → breaks_early r.ends_line (first_unspaced r.ends_line notes) ≡ breaks_early r.ends_line notes
        → breaks_early e (cond b (without_blank r ∷ notes) (r ∷ first_unspaced r.ends_line notes)) ≡ ((r.own_line || e) || breaks_early r.ends_line notes)
    by true is rest = refl
    by false is rest = ap (λ (x : Bool). (r.own_line || e) || x) rest

up : (m h s e : Bool) (notes : List Remark) → (s ≡ true → e ≡ true) → (s || next_break m h e notes) ≡ true → next_break m h e notes ≡ true
up m h true e notes ends is = ap (λ (x : Bool). next_break m h x notes) (ends refl) ∙ next_ends m h notes
up m h false e notes ends is = is

module _ (short : List ℕ → Bool) where
  read_has : (m g h e : Bool) (notes : List Remark) → has (reread_notes short m g h e notes) ≡ has notes
  read_has m g h e [] = refl
  read_has m g h e (r ∷ notes) = refl

  bare_again : (m g h e : Bool) (notes : List Remark) → reread_notes short m g h e (map without_blank notes) ≡ map without_blank (reread_notes short m g h e (map without_blank notes))
  bare_again m g h e [] = refl
  bare_again m g h e (r ∷ notes) =
      let rest = bare_again m (has_bytes r.text || g) (h || (r.own_line || e)) r.ends_line notes in
      let none = and_none g (r.own_line || e) in
      λ i. record {
        text = r.text;
        own_line = (r.own_line || e) || not g;
        ends_line = short r.text || next_break m (h || (r.own_line || e)) r.ends_line (map without_blank notes);
        blank = none i;
      } ∷ rest i

  first_again : (m g h e before : Bool) (notes : List Remark) → All (ShortEnds short) notes → (before ≡ true → next_break m h e notes ≡ true) → first_bare e notes ≡ true
      → first_unspaced before (reread_notes short m g h e notes) ≡ reread_notes short m g h e notes
  first_again m g h e before [] ends below bare = refl
  first_again m g h e before (r ∷ notes) ends below bare =
      by (r.own_line || e) g before (short r.text || next_break m (h || (r.own_line || e)) r.ends_line notes)
      (reread_notes short m (has_bytes r.text || g) (h || (r.own_line || e)) r.ends_line notes)
      (no_blank (r.own_line || e) r.blank (first_bare r.ends_line notes) bare) below
      (λ at. first_again m (has_bytes r.text || g) (h || (r.own_line || e)) r.ends_line (short r.text || next_break m (h || (r.own_line || e)) r.ends_line notes) notes
      (All-tail (ShortEnds short) r notes ends) (up m (h || (r.own_line || e)) (short r.text) r.ends_line notes (All-head (ShortEnds short) r notes ends))
      (bare_behind (r.own_line || e) r.blank (first_bare r.ends_line notes) bare at))
    where
      by : (b g before x : Bool) (rest : List Remark) → (b ≡ true → r.blank ≡ false) → (before ≡ true → b ≡ true) → (b ≡ false → first_unspaced x rest ≡ rest)
          → cond ((b || not g) || before) (record { text = r.text; own_line = b || not g; ends_line = x; blank = false } ∷ rest)
          (record { text = r.text; own_line = b || not g; ends_line = x; blank = g && (b && r.blank) } ∷ first_unspaced x rest)
          ≡ record { text = r.text; own_line = b || not g; ends_line = x; blank = g && (b && r.blank) } ∷ rest
      by true true before x rest none below same = λ i. record { text = r.text; own_line = true; ends_line = x; blank = sym (none refl) i } ∷ rest
      by true false before x rest none below same = refl
      by false false before x rest none below same = refl
      by false true true x rest none below same = absurd (false≢true (below refl))
      by false true false x rest none below same = ap (λ (l : List Remark). record { text = r.text; own_line = false; ends_line = x; blank = false } ∷ l) (same refl)

  breaks_again : (m g h e before : Bool) (notes : List Remark) → breaks_early e notes ≡ true → breaks_early before (reread_notes short m g h e notes) ≡ true
  breaks_again m g h e before [] is = absurd (false≢true is)
  breaks_again m g h e before (r ∷ notes) is =
      or_both (r.own_line || e) (breaks_early r.ends_line notes) _ _
      (λ own. or_at _ before (or_at (r.own_line || e) (not g) own))
      (breaks_again m (has_bytes r.text || g) (h || (r.own_line || e)) r.ends_line _ notes) is

  -- ---- a gap

  notes_again : (border : Border) (gap : GapNotes) (blank m g : Bool) (notes : List Remark) → notes ≡ (bordered border gap).notes → All (ShortEnds short) notes
      → reread_notes short m g false false notes ≡ (bordered border (record { notes = reread_notes short m g false false notes; blank = blank })).notes
  notes_again draft.inside gap blank m g notes are ends =
      subst (λ (l : List Remark). reread_notes short m g false false l ≡ map without_blank (reread_notes short m g false false l)) (sym are) (bare_again m g false false gap.notes)
  notes_again draft.first_statement gap blank m g notes are ends =
      sym (first_again m g false false false notes ends (λ h. absurd (false≢true h)) (subst (λ (l : List Remark). first_bare false l ≡ true) (sym are) (unspaced_bare false gap.notes)))
  notes_again draft.later_statement gap blank m g notes are ends = refl
  notes_again draft.block_end gap blank m g notes are ends = refl
  notes_again draft.empty_block gap blank m g notes are ends =
      sym (first_again m g false false false notes ends (λ h. absurd (false≢true h)) (subst (λ (l : List Remark). first_bare false l ≡ true) (sym are) (unspaced_bare false gap.notes)))

  none_there : (g b blank : Bool) → blank ≡ false → (g && (b && blank)) ≡ false
  none_there g b blank is = ap (λ (x : Bool). g && (b && x)) is ∙ and_none g b

  where_broken : (c x : Bool) → (c ≡ false → x ≡ false) → x ≡ cond c x false
  where_broken true x none = refl
  where_broken false x none = none refl

  blank_again : (border : Border) (gap : GapNotes) (blank m g : Bool) (notes : List Remark) → notes ≡ (bordered border gap).notes → blank ≡ (bordered border gap).blank
      → (begun_after g notes && (last_break m false false notes && blank))
      ≡ (bordered border (record { notes = reread_notes short m g false false notes; blank = begun_after g notes && (last_break m false false notes && blank) })).blank
  blank_again draft.inside gap blank m g notes are is = none_there (begun_after g notes) (last_break m false false notes) blank is
  blank_again draft.first_statement gap blank m g notes are is =
      where_broken (breaks_early false (reread_notes short m g false false notes)) (begun_after g notes && (last_break m false false notes && blank))
      (λ calm. none_there (begun_after g notes) (last_break m false false notes) blank (is ∙ ap (λ (b : Bool). cond b gap.blank false) (early calm (breaks_early false gap.notes) refl)))
    where
      early : breaks_early false (reread_notes short m g false false notes) ≡ false → (b : Bool) → breaks_early false gap.notes ≡ b → b ≡ false
      early calm true at = absurd (false≢true (sym calm ∙ breaks_again m g false false false notes (ap (breaks_early false) are ∙ unspaced_breaks false gap.notes ∙ at)))
      early calm false at = refl
  blank_again draft.later_statement gap blank m g notes are is = refl
  blank_again draft.block_end gap blank m g notes are is = none_there (begun_after g notes) (last_break m false false notes) blank is
  blank_again draft.empty_block gap blank m g notes are is = none_there (begun_after g notes) (last_break m false false notes) blank is

  pub gap_again : (before after : List ℕ) (opening : Opening) (notes : GapNotes) (gap : Gap) (m g : Bool) → All (ShortEnds short) gap.notes → IsGap before after opening notes gap
      → IsGap before after opening (notes_of_gap (reread_gap short gap m g)) (reread_gap short gap m g)
  gap_again before after opening notes gap m g ends at = record {
    chance = chance_again before after notes.notes (reread_notes short m g false false gap.notes) opening.border opening.chance gap.chance
        (read_has m g false false gap.notes ∙ ap has at.notes_are ∙ border_has opening.border notes) at.chance;
    notes_are = notes_again opening.border notes (begun_after g gap.notes && (last_break m false false gap.notes && gap.blank)) m g gap.notes at.notes_are ends;
    blank = blank_again opening.border notes gap.blank m g gap.notes at.notes_are at.blank;
    deeper = at.deeper;
  }
