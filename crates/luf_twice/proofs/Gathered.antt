-- The gaps that sights tell, one sight after another, the last first.
use Rattle.std.proofs.Common.{◌≡◌, ◌⊎◌, inl, inr, ℕ, Bool, true, false, ◌||◌, cond, List, [], ◌∷◌, ◌++◌, refl, sym, ap, ◌∙◌, subst, append-nil}
use Rattle.std.proofs.Math.Bool.{or-false}
use Rattle.std.proofs.lemmas.Bool.{false≢true}
use Rattle.std.proofs.lemmas.List.{append_assoc}
use Rattle.luf_bare.specs.Significant.{is_among}
use Rattle.luf_doc.specs.declared.doc.Gap.{Gap}
use Rattle.luf_doc.specs.declared.doc.Remark.{Remark}
use Rattle.luf_doc.specs.Document.{Document, Documents, text, between, trail, nest, group, sequence, nothing, also}
use Rattle.luf_doc.specs.Layout.{comma}
use Rattle.luf_gaps.specs.Gaps.{empty_gap}
use Rattle.luf_gaps.specs.declared.notes.GapNotes.{GapNotes}
use Rattle.luf_again.specs.Tells.{Sight, Told, token, comment, and_token, and_notes, and_gap}
use Rattle.luf_twice.specs.Again.{notes_of_gap, gaps_of, all_gaps}
use Rattle.luf_twice.specs.Chooses.{tokens_told, Chooses, AllChoose}

-- a comment behind what was kept before
abbrev pub and_comment : Remark → GapNotes → GapNotes
and_comment r gap = record { notes = gap.notes ++ record { text = r.text; own_line = r.own_line; ends_line = r.ends_line; blank = gap.blank || r.blank } ∷ []; blank = false }

-- a token behind an empty line, or not
abbrev pub and_blank : GapNotes → Bool → GapNotes
and_blank gap blank = record { notes = gap.notes; blank = gap.blank || blank }

-- the gaps that stand before a token that was kept, the last first, and what has been found since
pub record Found : Type 0 where
  pub gaps : List GapNotes
  pub now : GapNotes

module _ (dropped : List ℕ) where
  abbrev pub found : List Sight → Found
  found [] = record { gaps = []; now = empty_gap }
  found (token bytes blank ∷ before) = cond (is_among (tokens_told before) dropped)
      (record { gaps = (found before).gaps; now = and_blank (found before).now blank })
      (record { gaps = and_blank (found before).now blank ∷ (found before).gaps; now = empty_gap })
  found (comment r ∷ before) = record { gaps = (found before).gaps; now = and_comment r (found before).now }

  -- all gaps up to a place, the last first
  abbrev pub opened : Bool → Told → List GapNotes
  opened true at = and_blank (found at.sights).now at.blank ∷ (found at.sights).gaps
  opened false at = (found at.sights).gaps

  -- where none is open nothing was found
  pub record Settled (open_now : Bool) (at : Told) : Type 0 where
    pub none : open_now ≡ false → (found at.sights).now ≡ empty_gap
    pub calm : open_now ≡ false → at.blank ≡ false

  abbrev pub onto : List GapNotes → List GapNotes → List GapNotes
  onto [] before = before
  onto (g ∷ gs) before = onto gs (g ∷ before)

  record Step (gs : List GapNotes) (from to : Told) (was is : Bool) : Type 0 where
    gaps : opened is to ≡ onto gs (opened was from)
    settled : Settled is to

  -- ---- a token

  blank_settled : (gap : GapNotes) (blank : Bool) → and_blank (and_blank gap blank) false ≡ and_blank gap blank
  blank_settled gap blank = ap (λ (b : Bool). record { notes = gap.notes; blank = b }) (or-false (gap.blank || blank))

  dropped_token : (bytes : List ℕ) (from : Told) (is : Bool) → is_among (tokens_told from.sights) dropped ≡ true → Settled is from → Step [] from (and_token bytes from) is is
  dropped_token bytes from is among at = record { gaps = by is; settled = record { none = λ e. ap (λ (f : Found). f.now) same ∙ still e; calm = λ _. refl } }
    where
      same : found (token bytes from.blank ∷ from.sights) ≡ record { gaps = (found from.sights).gaps; now = and_blank (found from.sights).now from.blank }
      same = ap (λ (b : Bool). cond b (record { gaps = (found from.sights).gaps; now = and_blank (found from.sights).now from.blank })
          (record { gaps = and_blank (found from.sights).now from.blank ∷ (found from.sights).gaps; now = empty_gap })) among

      still : is ≡ false → and_blank (found from.sights).now from.blank ≡ empty_gap
      still e = λ i. and_blank (at.none e i) (at.calm e i)

      by : (b : Bool) → opened b (and_token bytes from) ≡ opened b from
      by true = (λ i. and_blank (same i).now false ∷ (same i).gaps) ∙ ap (λ (g : GapNotes). g ∷ (found from.sights).gaps) (blank_settled (found from.sights).now from.blank)
      by false = ap (λ (f : Found). f.gaps) same

  kept_token : (bytes : List ℕ) (from : Told) → is_among (tokens_told from.sights) dropped ≡ false → Step [] from (and_token bytes from) true false
  kept_token bytes from among = record { gaps = ap (λ (f : Found). f.gaps) same; settled = record { none = λ _. ap (λ (f : Found). f.now) same; calm = λ _. refl } }
    where
      same : found (token bytes from.blank ∷ from.sights) ≡ record { gaps = and_blank (found from.sights).now from.blank ∷ (found from.sights).gaps; now = empty_gap }
      same = ap (λ (b : Bool). cond b (record { gaps = (found from.sights).gaps; now = and_blank (found from.sights).now from.blank })
          (record { gaps = and_blank (found from.sights).now from.blank ∷ (found from.sights).gaps; now = empty_gap })) among

  -- ---- a gap

  notes_found : (notes : List Remark) (before : List Sight) → (found before).now.blank ≡ false
      → found (and_notes notes before) ≡ record { gaps = (found before).gaps; now = record { notes = (found before).now.notes ++ notes; blank = false } }
  notes_found [] before calm = λ i. record { gaps = (found before).gaps; now = record { notes = sym (append-nil (found before).now.notes) i; blank = calm i } }
  notes_found (r ∷ notes) before calm =
      notes_found notes (comment r ∷ before) refl
      ∙ (λ i. record {
        gaps = (found before).gaps;
        now = record {
          notes = ((λ j. (found before).now.notes ++ record { text = r.text; own_line = r.own_line; ends_line = r.ends_line; blank = calm j || r.blank } ∷ [] ++ notes) ∙ append_assoc (found before).now.notes (r ∷ []) notes) i;
          blank = false;
        };
      })

  pub gap_found : (notes : List Remark) (from : Told) → Settled false from
      → found (and_notes notes from.sights) ≡ record { gaps = (found from.sights).gaps; now = record { notes = notes; blank = false } }
  gap_found notes from at = notes_found notes from.sights (ap (λ (g : GapNotes). g.blank) (at.none refl))
      ∙ (λ i. record { gaps = (found from.sights).gaps; now = record { notes = (at.none refl i).notes ++ notes; blank = false } })

  gap_step : (gap : Gap) (from : Told) → Settled false from → Step (notes_of_gap gap ∷ []) from (and_gap gap from) false true
  gap_step gap from at =
      let all = gap_found gap.notes from at in
      record { gaps = λ i. and_blank (all i).now gap.blank ∷ (all i).gaps; settled = record { none = λ e. absurd (false≢true (sym e)); calm = λ e. absurd (false≢true (sym e)) } }

  -- ---- a document

  text_step : (bytes : List ℕ) (from to : Told) (was is : Bool) → Chooses dropped (text bytes) from to was is → Settled was from → Step [] from to was is
  text_step bytes from to was is chosen at = by chosen.1
    where
      there : Step [] from (and_token bytes from) was is → Step [] from to was is
      there step = subst (λ (t : Told). Step [] from t was is) (sym chosen.0) step

      by : ((is_among (tokens_told from.sights) dropped ≡ true) × (is ≡ was)) ⊎ ((is_among (tokens_told from.sights) dropped ≡ false) × (was ≡ true) × (is ≡ false)) → Step [] from to was is
      by (inl h) = there (subst (λ (b : Bool). Step [] from (and_token bytes from) was b) (sym h.1) (dropped_token bytes from was h.0 at))
      by (inr h) = there (subst (λ (b : Bool). Step [] from (and_token bytes from) b is) (sym h.1) (subst (λ (b : Bool). Step [] from (and_token bytes from) true b) (sym h.2) (kept_token bytes from h.0)))

  none_step : (at : Told) (is : Bool) → Settled is at → Step [] at at is is
  none_step at is settled = record { gaps = refl; settled = settled }

  trail_step : (from to : Told) (was is : Bool) → Chooses dropped trail from to was is → Settled was from → Step [] from to was is
  trail_step from to was is chosen at = subst (λ (b : Bool). Step [] from to was b) (sym chosen.0) (by chosen.1)
    where
      by : (to ≡ from) ⊎ ((to ≡ and_token comma from) × (is_among (tokens_told from.sights) dropped ≡ true)) → Step [] from to was was
      by (inl h) = subst (λ (t : Told). Step [] from t was was) (sym h) (none_step from was at)
      by (inr h) = subst (λ (t : Told). Step [] from t was was) (sym h.0) (dropped_token comma from was h.1 at)

  -- what a document opens, and what stands in its gaps
  pub record Opens (d : Document) (from to : Told) (was is : Bool) : Type 0 where
    pub gaps : (more : List GapNotes) → onto more (opened is to) ≡ onto (gaps_of d more) (opened was from)
    pub settled : Settled is to

  pub record AllOpen (ds : Documents) (from to : Told) (was is : Bool) : Type 0 where
    pub gaps : (more : List GapNotes) → onto more (opened is to) ≡ onto (all_gaps ds more) (opened was from)
    pub settled : Settled is to

  mutual
    pub opens : (d : Document) (from to : Told) (was is : Bool) → Chooses dropped d from to was is → Settled was from → Opens d from to was is
    opens (text bytes) from to was is chosen at =
        let step = text_step bytes from to was is chosen at in
        record { gaps = λ more. ap (onto more) step.gaps; settled = step.settled }
    opens (between gap) from to was is chosen at =
        let step = subst (λ (t : Told). Step (notes_of_gap gap ∷ []) from t was is) (sym chosen.0)
        (subst (λ (b : Bool). Step (notes_of_gap gap ∷ []) from (and_gap gap from) b is) (sym chosen.1)
        (subst (λ (b : Bool). Step (notes_of_gap gap ∷ []) from (and_gap gap from) false b) (sym chosen.2) (gap_step gap from (subst (λ (b : Bool). Settled b from) chosen.1 at)))) in
        record { gaps = λ more. ap (onto more) step.gaps; settled = step.settled }
    opens trail from to was is chosen at =
        let step = trail_step from to was is chosen at in
        record { gaps = λ more. ap (onto more) step.gaps; settled = step.settled }
    opens (nest inner) from to was is chosen at =
        let step = opens inner from to was is chosen at in
        record { gaps = step.gaps; settled = step.settled }
    opens (group inner) from to was is chosen at =
        let step = opens inner from to was is chosen at in
        record { gaps = step.gaps; settled = step.settled }
    opens (sequence items) from to was is chosen at =
        let step = all_open items from to was is chosen at in
        record { gaps = step.gaps; settled = step.settled }

    pub all_open : (ds : Documents) (from to : Told) (was is : Bool) → AllChoose dropped ds from to was is → Settled was from → AllOpen ds from to was is
    all_open nothing from to was is chosen at =
        let step = subst (λ (b : Bool). Step [] from to was b) (sym chosen.1) (subst (λ (t : Told). Step [] from t was was) (sym chosen.0) (none_step from was at)) in
        record { gaps = λ more. ap (onto more) step.gaps; settled = step.settled }
    all_open (also first rest) from to was is chosen at =
        let front = opens first from chosen.0 was chosen.1 chosen.2 at in
        let back = all_open rest chosen.0 to chosen.1 is chosen.3 front.settled in
        record { gaps = λ more. back.gaps more ∙ front.gaps (all_gaps rest more); settled = back.settled }
