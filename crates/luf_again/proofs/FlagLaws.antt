-- Flat bytes and lead do not see the flags; what forces does so when it is read again.
use Rattle.std.specs.List.{list_any}
use Rattle.std.proofs.Common.{◌≡◌, ℕ, ◌+◌, Bool, true, false, not, ◌||◌, List, [], ◌∷◌, All, refl, sym, ap, ◌∙◌}
use Rattle.std.proofs.Math.Bool.{or-true}
use Rattle.std.proofs.lemmas.Bool.{false≢true, or_parts}
use Rattle.std.proofs.lemmas.List.Elements.{All-head, All-tail}
use Rattle.luf_doc.specs.declared.doc.Chance.{Chance}
use Rattle.luf_doc.specs.declared.doc.Chance.TheVariants.{Tight, Space, Soft, Line, Hard}
use Rattle.luf_doc.specs.declared.doc.Remark.{Remark}
use Rattle.luf_doc.specs.declared.page.Page.{Page}
use Rattle.luf_doc.specs.Document.{Document, Documents, text, between, trail, nest, group, sequence, nothing, also}
use Rattle.luf_doc.specs.Flat.{forces, any_forces, is_forcing, is_hard, flat, all_flat, flat_gap, lead, all_lead, lead_gap, counted, counted_notes}
use Rattle.luf_doc.specs.Layout.{Piece, Mode, flat_group, is_begun, has_bytes, column_of, must_break, next_break, mode_of, lay}
use Rattle.luf_again.specs.Reread.{reread_notes, reread, reread_all}
use Rattle.luf_again.specs.Formed.{ShortEnds}
use Rattle.luf_again.proofs.Truth.{or_at, or_on, or_both, none_or}

pub next_ends : (m h : Bool) (notes : List Remark) → next_break m h true notes ≡ true
next_ends m h [] = refl
next_ends m h (r ∷ notes) = or-true r.own_line

pub must_flat : (c : Chance) → is_hard c ≡ false → must_break c flat_group ≡ false
must_flat Hard is = absurd (false≢true (sym is))
must_flat Tight is = refl
must_flat Space is = refl
must_flat Soft is = refl
must_flat Line is = refl

-- where no break must stand and no note forces, none does
next_none : (h : Bool) (notes : List Remark) → list_any is_forcing notes ≡ false → next_break false h false notes ≡ false
next_none h [] is = refl
next_none h (r ∷ notes) is = none_or r.own_line false (or_parts r.own_line r.ends_line (or_parts (is_forcing r) (list_any is_forcing notes) is).0).0 refl

not_short : (s e : Bool) → (s ≡ true → e ≡ true) → e ≡ false → s ≡ false
not_short true e h is = absurd (false≢true (sym is ∙ h refl))
not_short false e h is = refl

module _ (short : List ℕ → Bool) where
  -- ---- the notes of a gap: `m` it must break, `g` something was written, `h` a break stood, `e` the note before ends

  counted_same : (m g h e : Bool) (notes : List Remark) (after : ℕ) → counted_notes (reread_notes short m g h e notes) after ≡ counted_notes notes after
  counted_same m g h e [] after = refl
  counted_same m g h e (r ∷ notes) after = ap (λ n. 1 + counted r.text n) (counted_same m (has_bytes r.text || g) (h || (r.own_line || e)) r.ends_line notes after)

  flat_gap_same : (c : Chance) (m g h e : Bool) (notes : List Remark) (after : ℕ) → flat_gap c (reread_notes short m g h e notes) after ≡ flat_gap c notes after
  flat_gap_same c m g h e [] after = refl
  flat_gap_same c m g h e (r ∷ notes) after = counted_same m g h e (r ∷ notes) after

  lead_gap_same : (c : Chance) (m g h e : Bool) (notes : List Remark) (after : ℕ) → lead_gap c (reread_notes short m g h e notes) after ≡ lead_gap c notes after
  lead_gap_same c m g h e [] after = refl
  lead_gap_same c m g h e (r ∷ notes) after = refl

  -- a note that forces does so read again
  note_forces : (m g h e : Bool) (notes : List Remark) → list_any is_forcing notes ≡ true → list_any is_forcing (reread_notes short m g h e notes) ≡ true
  note_forces m g h e [] is = is
  note_forces m g h e (r ∷ notes) is =
      or_both (r.own_line || r.ends_line) (list_any is_forcing notes) _ _
      (or_both r.own_line r.ends_line _ _
      (λ own. or_at _ (not g) (or_at r.own_line e own))
      (λ ends. ap (λ (x : Bool). short r.text || next_break m (h || (r.own_line || e)) x notes) ends
      ∙ ap (λ (x : Bool). short r.text || x) (next_ends m (h || (r.own_line || e)) notes) ∙ or-true (short r.text)))
      (note_forces m (has_bytes r.text || g) (h || (r.own_line || e)) r.ends_line notes) is

  -- where no break must stand and none of them forces, none forces read again
  pub no_note_forces : (m g h e : Bool) (notes : List Remark) → m ≡ false → g ≡ true → e ≡ false → All (ShortEnds short) notes → list_any is_forcing notes ≡ false
      → list_any is_forcing (reread_notes short m g h e notes) ≡ false
  no_note_forces m g h e [] free begun last ends_short is = refl
  no_note_forces m g h e (r ∷ notes) free begun last ends_short is =
      let own = (or_parts r.own_line r.ends_line (or_parts (is_forcing r) (list_any is_forcing notes) is).0).0 in
      let ends = (or_parts r.own_line r.ends_line (or_parts (is_forcing r) (list_any is_forcing notes) is).0).1 in
      let rest = (or_parts (is_forcing r) (list_any is_forcing notes) is).1 in
      let still : next_break m (h || (r.own_line || e)) r.ends_line notes ≡ next_break false (h || (r.own_line || e)) false notes = (λ i. next_break (free i) (h || (r.own_line || e)) (ends i) notes) in
      none_or _ _
      (none_or _ _
      (none_or (r.own_line || e) (not g) (none_or r.own_line e own last) (ap not begun))
      (none_or (short r.text) _ (not_short (short r.text) r.ends_line (All-head (ShortEnds short) r notes ends_short) ends) (still ∙ next_none (h || (r.own_line || e)) notes rest)))
      (no_note_forces m (has_bytes r.text || g) (h || (r.own_line || e)) r.ends_line notes free (ap (λ (x : Bool). has_bytes r.text || x) begun ∙ or-true (has_bytes r.text)) ends
      (All-tail (ShortEnds short) r notes ends_short) rest)

  module _ (page : Page) where
    -- ---- a document

    mutual
      pub flat_same : (mode : Mode) (level before after : ℕ) (d : Document) (done : List Piece) → flat (reread short page mode level before d done) after ≡ flat d after
      flat_same mode level before after (text bytes) done = refl
      flat_same mode level before after (between gap) done = flat_gap_same gap.chance (must_break gap.chance mode) (is_begun done) false false gap.notes after
      flat_same mode level before after trail done = refl
      flat_same mode level before after (nest inner) done = flat_same mode (level + 1) before after inner done
      flat_same mode level before after (group inner) done =
          flat_same (mode_of page mode (forces inner) (column_of page done + flat inner before)) level before after inner done
      flat_same mode level before after (sequence items) done = all_flat_same mode level before after items done

      all_flat_same : (mode : Mode) (level before after : ℕ) (ds : Documents) (done : List Piece) → all_flat (reread_all short page mode level before ds done) after ≡ all_flat ds after
      all_flat_same mode level before after nothing done = refl
      all_flat_same mode level before after (also first rest) done =
          ap (λ n. flat (reread short page mode level (all_lead rest before) first done) n) (all_flat_same mode level before after rest (lay page mode level (all_lead rest before) first done))
          ∙ flat_same mode level (all_lead rest before) (all_flat rest after) first done

    mutual
      lead_same : (mode : Mode) (level before after : ℕ) (d : Document) (done : List Piece) → lead (reread short page mode level before d done) after ≡ lead d after
      lead_same mode level before after (text bytes) done = refl
      lead_same mode level before after (between gap) done = lead_gap_same gap.chance (must_break gap.chance mode) (is_begun done) false false gap.notes after
      lead_same mode level before after trail done = refl
      lead_same mode level before after (nest inner) done = lead_same mode (level + 1) before after inner done
      lead_same mode level before after (group inner) done =
          lead_same (mode_of page mode (forces inner) (column_of page done + flat inner before)) level before after inner done
      lead_same mode level before after (sequence items) done = all_lead_same mode level before after items done

      pub all_lead_same : (mode : Mode) (level before after : ℕ) (ds : Documents) (done : List Piece) → all_lead (reread_all short page mode level before ds done) after ≡ all_lead ds after
      all_lead_same mode level before after nothing done = refl
      all_lead_same mode level before after (also first rest) done =
          ap (λ n. lead (reread short page mode level (all_lead rest before) first done) n) (all_lead_same mode level before after rest (lay page mode level (all_lead rest before) first done))
          ∙ lead_same mode level (all_lead rest before) (all_lead rest after) first done

    mutual
      pub forces_still : (mode : Mode) (level after : ℕ) (d : Document) (done : List Piece) → forces d ≡ true → forces (reread short page mode level after d done) ≡ true
      forces_still mode level after (text bytes) done is = is
      forces_still mode level after (between gap) done is =
          or_on (is_hard gap.chance) _ _ (note_forces (must_break gap.chance mode) (is_begun done) false false gap.notes) is
      forces_still mode level after trail done is = is
      forces_still mode level after (nest inner) done is = forces_still mode (level + 1) after inner done is
      forces_still mode level after (group inner) done is =
          forces_still (mode_of page mode (forces inner) (column_of page done + flat inner after)) level after inner done is
      forces_still mode level after (sequence items) done is = any_forces_still mode level after items done is

      any_forces_still : (mode : Mode) (level after : ℕ) (ds : Documents) (done : List Piece) → any_forces ds ≡ true → any_forces (reread_all short page mode level after ds done) ≡ true
      any_forces_still mode level after nothing done is = is
      any_forces_still mode level after (also first rest) done is =
          or_both (forces first) (any_forces rest) _ _ (forces_still mode level (all_lead rest after) first done)
          (any_forces_still mode level after rest (lay page mode level (all_lead rest after) first done)) is
