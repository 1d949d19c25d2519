-- A document that is read again has the layout that it had.
use Rattle.std.specs.List.{list_any}
use Rattle.std.proofs.Common.{◌≡◌, ℕ, ◌+◌, Bool, true, false, ◌||◌, cond, List, [], refl, ap, ◌∙◌, nat_lt, reverse}
use Rattle.std.proofs.Math.Bool.{or-true}
use Rattle.std.proofs.lemmas.Bool.{false≢true, or_parts}
use Rattle.luf_doc.specs.declared.page.Page.{Page}
use Rattle.luf_doc.specs.Document.{Document, Documents, text, between, trail, nest, group, sequence, nothing, also}
use Rattle.luf_doc.specs.Flat.{forces, any_forces, is_forcing, is_hard, flat, all_lead}
use Rattle.luf_doc.specs.Layout.{Piece, Mode, outside, flat_group, broken_group, is_begun, column_of, must_break, mode_of, lay, lay_all, pieces, joined, layout}
use Rattle.luf_again.specs.Reread.{reread_gap, reread, reread_all, reread_whole}
use Rattle.luf_again.specs.Formed.{writes, IsFormed, AreFormed}
use Rattle.luf_again.proofs.Truth.{none_or}
use Rattle.luf_again.proofs.FlagLaws.{must_flat, no_note_forces, flat_same, all_lead_same, forces_still}
use Rattle.luf_again.proofs.SameGap.{gap_same}
use Rattle.luf_again.proofs.Begun.{begun_on}

-- ---- a group is laid as it was: what forced it does so still, and where nothing did and it was flat nothing does

wide : (w : Bool) (F : Mode → Bool) → F flat_group ≡ false → cond (F (cond w broken_group flat_group) || w) broken_group flat_group ≡ cond w broken_group flat_group
wide true F none = ap (λ (b : Bool). cond b broken_group flat_group) (or-true (F broken_group))
wide false F none = ap (λ (b : Bool). cond (b || false) broken_group flat_group) none

mode_kept : (page : Page) (mode : Mode) (f : Bool) (F : Mode → Bool) (end : ℕ) → ((m : Mode) → f ≡ true → F m ≡ true) → (f ≡ false → F flat_group ≡ false)
    → mode_of page mode (F (mode_of page mode f end)) end ≡ mode_of page mode f end
mode_kept page flat_group f F end still none = refl
mode_kept page outside true F end still none = ap (λ (b : Bool). cond (b || nat_lt page.width end) broken_group flat_group) (still broken_group refl)
mode_kept page broken_group true F end still none = ap (λ (b : Bool). cond (b || nat_lt page.width end) broken_group flat_group) (still broken_group refl)
mode_kept page outside false F end still none = wide (nat_lt page.width end) F (none refl)
mode_kept page broken_group false F end still none = wide (nat_lt page.width end) F (none refl)

module _ (short : List ℕ → Bool) (page : Page) where
  -- in a flat group in which nothing forces, nothing does when it is read again
  mutual
    forces_not : (begun : Bool) (level after : ℕ) (d : Document) (done : List Piece) → (begun ≡ true → is_begun done ≡ true) → IsFormed short true begun d → forces d ≡ false
        → forces (reread short page flat_group level after d done) ≡ false
    forces_not begun level after (text bytes) done was formed is = is
    forces_not begun level after (between gap) done was formed is =
        let parts = or_parts (is_hard gap.chance) (list_any is_forcing gap.notes) is in
        none_or _ _ parts.0
        (no_note_forces short (must_break gap.chance flat_group) (is_begun done) false false gap.notes (must_flat gap.chance parts.0) (was (formed.0 refl)) refl formed.1 parts.1)
    forces_not begun level after trail done was formed is = is
    forces_not begun level after (nest inner) done was formed is = forces_not begun (level + 1) after inner done was formed is
    forces_not begun level after (group inner) done was formed is = forces_not begun level after inner done was formed is
    forces_not begun level after (sequence items) done was formed is = any_forces_not begun level after items done was formed is

    any_forces_not : (begun : Bool) (level after : ℕ) (ds : Documents) (done : List Piece) → (begun ≡ true → is_begun done ≡ true) → AreFormed short true begun ds → any_forces ds ≡ false
        → any_forces (reread_all short page flat_group level after ds done) ≡ false
    any_forces_not begun level after nothing done was formed is = is
    any_forces_not begun level after (also first rest) done was formed is =
        let parts = or_parts (forces first) (any_forces rest) is in
        none_or _ _ (forces_not begun level (all_lead rest after) first done was formed.0 parts.0)
        (any_forces_not (writes first || begun) level after rest (lay page flat_group level (all_lead rest after) first done)
        (begun_on page begun flat_group level (all_lead rest after) first done was) formed.1 parts.1)

  mutual
    same : (grouped begun : Bool) (mode : Mode) (level after : ℕ) (d : Document) (done : List Piece) → IsFormed short grouped begun d → (begun ≡ true → is_begun done ≡ true)
        → lay page mode level after (reread short page mode level after d done) done ≡ lay page mode level after d done
    same grouped begun mode level after (text bytes) done formed was = refl
    same grouped begun mode level after (between gap) done formed was =
        gap_same short gap (reread_gap short gap (must_break gap.chance mode) (is_begun done)).notes (reread_gap short gap (must_break gap.chance mode) (is_begun done)).blank mode level gap.notes done formed.1 refl
    same grouped begun mode level after trail done formed was = refl
    same grouped begun mode level after (nest inner) done formed was = same grouped begun mode (level + 1) after inner done formed was
    same grouped begun mode level after (group inner) done formed was =
        (λ i. lay page (kept i) level after (reread short page laid level after inner done) done)
        ∙ same true begun laid level after inner done formed was
      where
        end : ℕ
        end = column_of page done + flat inner after

        laid : Mode
        laid = mode_of page mode (forces inner) end

        kept : mode_of page mode (forces (reread short page laid level after inner done)) (column_of page done + flat (reread short page laid level after inner done) after) ≡ laid
        kept = ap (λ n. mode_of page mode (forces (reread short page laid level after inner done)) (column_of page done + n)) (flat_same short page laid level after after inner done)
            ∙ mode_kept page mode (forces inner) (λ m. forces (reread short page m level after inner done)) end
            (λ m. forces_still short page m level after inner done) (forces_not begun level after inner done was formed)
    same grouped begun mode level after (sequence items) done formed was = all_same grouped begun mode level after items done formed was

    all_same : (grouped begun : Bool) (mode : Mode) (level after : ℕ) (ds : Documents) (done : List Piece) → AreFormed short grouped begun ds → (begun ≡ true → is_begun done ≡ true)
        → lay_all page mode level after (reread_all short page mode level after ds done) done ≡ lay_all page mode level after ds done
    all_same grouped begun mode level after nothing done formed was = refl
    all_same grouped begun mode level after (also first rest) done formed was =
        ap (λ n. lay_all page mode level after (reread_all short page mode level after rest (lay page mode level (all_lead rest after) first done)) (lay page mode level n (reread short page mode level (all_lead rest after) first done) done))
        (all_lead_same short page mode level after after rest (lay page mode level (all_lead rest after) first done))
        ∙ ap (lay_all page mode level after (reread_all short page mode level after rest (lay page mode level (all_lead rest after) first done)))
        (same grouped begun mode level (all_lead rest after) first done formed.0 was)
        ∙ all_same grouped (writes first || begun) mode level after rest (lay page mode level (all_lead rest after) first done) formed.1
        (begun_on page begun mode level (all_lead rest after) first done was)

pub same_pieces : (short : List ℕ → Bool) (page : Page) (d : Document) → IsFormed short false false d → pieces page (reread_whole short page d) ≡ pieces page d
same_pieces short page d formed = ap reverse (same short page false false outside 0 0 d [] formed (λ h. absurd (false≢true h)))

pub same_bytes : (short : List ℕ → Bool) (page : Page) (d : Document) → IsFormed short false false d → layout page (reread_whole short page d) ≡ layout page d
same_bytes short page d formed = ap (joined page) (same_pieces short page d formed)
