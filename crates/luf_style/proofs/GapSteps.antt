-- The gaps with one mark more.
use Rattle.std.proofs.Common.{◌≡◌, ℕ, ◌+◌, ◌<◌, ◌≤◌, true, List, [], ◌∷◌, ◌++◌, length, drop, get_or, drop-cons, add-one, map, sym, ap, ◌∙◌, subst, append-nil, append_assoc, ◌⊎◌, inl, inr}
use Rattle.std.proofs.lemmas.List.{drop_all}
use Rattle.luf_doc.specs.declared.doc.Gap.{Gap}
use Rattle.luf_draft.specs.Flat.{Flat, gap_of_kind, shown}
use Rattle.luf_draft.specs.declared.mark.GapKind.{GapKind}
use Rattle.luf_draft.specs.declared.mark.Mark.{Mark}
use Rattle.luf_draft.specs.declared.mark.Mark.TheVariants as mark
use Rattle.luf_draft.specs.declared.mark.Part.{Part}
use Rattle.luf_gaps.specs.Gaps.{next_gap}
use Rattle.luf_gaps.specs.declared.notes.GapNotes.{GapNotes}
use Rattle.luf_style.specs.Filled.{IsGap}
use Rattle.luf_style.specs.inner.Openings.{GoesOn, AddsGaps}
use Rattle.luf_style.specs.inner.Running.{has_text, text_of, first_flat}
use Rattle.luf_style.specs.inner.Tape.{AreGaps}
use Rattle.luf_style.specs.inner.Tape as gaps_are
use Rattle.luf_style.specs.declared.openings.Openings.{Openings}
use Rattle.luf_style.proofs.FillSteps.{text_shown}

module _ (written : List (List ℕ)) (rest : List Flat) where
  pub text_adds : (before behind : Openings) (m : Mark) → has_text m ≡ true → behind.left ≡ before.left → behind.last ≡ m
      → behind.gaps ≡ before.gaps → AddsGaps written m rest before behind
  text_adds before behind m has left last gaps = record {
    goes = λ all notes so_far. record {
      goes = λ more r. subst (λ (gs : List Gap). AreGaps [] all notes (gs ++ more)) (sym gaps)
          (so_far.goes more (subst (λ (f : Flat). AreGaps (text_of (shown written before.last)) (f ∷ rest) before.left more) (sym (text_shown written m has))
          (gaps_are.word (subst (λ (ns : List GapNotes). AreGaps (text_of (shown written m)) rest ns more) left
          (subst (λ (n : Mark). AreGaps (text_of (shown written n)) rest behind.left more) last r)))));
    };
  }

  pub gap_adds : (before behind : Openings) (m : Mark) (kind : GapKind) (gap : Gap) → m ≡ mark.Gap kind
      → IsGap (text_of (shown written before.last)) (first_flat rest) (gap_of_kind kind) (next_gap before.left) gap
      → behind.left ≡ drop 1 before.left → behind.last ≡ before.last → behind.gaps ≡ before.gaps ++ gap ∷ []
      → AddsGaps written m rest before behind
  gap_adds before behind m kind gap m_is is left last gaps = subst (λ (n : Mark). AddsGaps written n rest before behind) (sym m_is) (record {
    goes = λ all notes so_far. record {
      goes = λ more r. subst (λ (gs : List Gap). AreGaps [] all notes gs) (sym (ap (λ (gs : List Gap). gs ++ more) gaps ∙ append_assoc before.gaps (gap ∷ []) more))
          (so_far.goes (gap ∷ more) (gaps_are.gap is
          (subst (λ (ns : List GapNotes). AreGaps (text_of (shown written before.last)) rest ns more) left
          (subst (λ (n : Mark). AreGaps (text_of (shown written n)) rest behind.left more) last r))));
    };
  })

  -- a mark that neither is a gap nor has a text
  pub none_adds : (o : Openings) (m : Mark) → (m ≡ mark.Trail) ⊎ (((part : Part) × m ≡ mark.Open part) ⊎ (m ≡ mark.Close)) → AddsGaps written m rest o o
  none_adds o m (inl is) = subst (λ (n : Mark). AddsGaps written n rest o o) (sym is) (record { goes = λ all notes so_far. record { goes = λ more r. so_far.goes more (gaps_are.trail r) } })
  none_adds o m (inr (inl (part, is))) = subst (λ (n : Mark). AddsGaps written n rest o o) (sym is) (record { goes = λ all notes so_far. record { goes = λ more r. so_far.goes more (gaps_are.open_part r) } })
  none_adds o m (inr (inr is)) = subst (λ (n : Mark). AddsGaps written n rest o o) (sym is) (record { goes = λ all notes so_far. record { goes = λ more r. so_far.goes more (gaps_are.close_part r) } })

-- ---- the loop

pub goes_first : (written : List (List ℕ)) (flats : List Flat) (notes : List GapNotes) (o : Openings) → o.left ≡ notes → o.last ≡ mark.Trail → o.gaps ≡ []
    → GoesOn written flats notes flats o
goes_first written flats notes o left last gaps = record {
  goes = λ more r. subst (λ (gs : List Gap). AreGaps [] flats notes (gs ++ more)) (sym gaps)
      (subst (λ (n : Mark). AreGaps (text_of (shown written n)) flats notes more) last
      (subst (λ (ns : List GapNotes). AreGaps (text_of (shown written o.last)) flats ns more) left r));
}

pub goes_more : (written : List (List ℕ)) (marks : List Mark) (notes : List GapNotes) (n : ℕ) (none : Mark) (rest : List Mark) (o p : Openings)
    → GoesOn written (map (shown written) marks) notes (map (shown written) (drop n marks)) o → n < length marks → rest ≡ drop (n + 1) marks
    → AddsGaps written (get_or marks n none) (map (shown written) rest) o p → GoesOn written (map (shown written) marks) notes (map (shown written) (drop (n + 1) marks)) p
goes_more written marks notes n none rest o p so_far within rest_is step =
    let all : List Flat = map (shown written) marks in
    let is : drop n marks ≡ get_or marks n none ∷ drop (n + 1) marks = rw (add-one, drop-cons marks n none) in
    subst (λ (ms : List Mark). GoesOn written all notes (map (shown written) ms) p) rest_is
    (step.goes all notes (subst (λ (ms : List Mark). GoesOn written all notes (shown written (get_or marks n none) ∷ map (shown written) ms) o) (sym rest_is)
    (subst (λ (ms : List Mark). GoesOn written all notes (map (shown written) ms) o) is so_far)))

pub goes_end : (written : List (List ℕ)) (marks : List Mark) (notes : List GapNotes) (n : ℕ) (o : Openings)
    → GoesOn written (map (shown written) marks) notes (map (shown written) (drop n marks)) o → length marks ≤ n → AreGaps [] (map (shown written) marks) notes o.gaps
goes_end written marks notes n o so_far past =
    subst (λ (gs : List Gap). AreGaps [] (map (shown written) marks) notes gs) (append-nil o.gaps)
    (so_far.goes [] (subst (λ (ms : List Mark). AreGaps (text_of (shown written o.last)) (map (shown written) ms) o.left []) (sym (drop_all n marks past)) gaps_are.ended))
