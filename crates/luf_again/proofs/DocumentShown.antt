-- The pieces of a layout show what the document that is read again tells.
use Rattle.std.proofs.Common.{◌≡◌, inl, inr, ℕ, ◌+◌, Bool, true, false, cond, List, [], ◌∷◌, refl, sym, ap, ◌∙◌, subst}
use Rattle.std.proofs.lemmas.Bool.{false≢true}
use Rattle.std.proofs.lemmas.List.{reverse-reverse}
use Rattle.luf_doc.specs.declared.page.Page.{Page}
use Rattle.luf_doc.specs.Document.{Document, Documents, text, between, trail, nest, group, sequence, nothing, also}
use Rattle.luf_doc.specs.Flat.{forces, flat, all_lead}
use Rattle.luf_doc.specs.Layout.{Piece, word, Mode, outside, is_broken, column_of, mode_of, lay, lay_all, pieces, comma}
use Rattle.luf_again.specs.Reread.{reread, reread_all, reread_whole}
use Rattle.luf_again.specs.Apart.{settles, all_settle, IsApart, AreApart, IsClosed, AreClosed}
use Rattle.luf_again.specs.Tells.{Sight, untold, Tells, AllTell}
use Rattle.luf_again.specs.Shown.{has_blank, shown_before, shown}
use Rattle.luf_again.proofs.GapShown.{is_worded, worded_settled, now, gap_shown, gap_last}

trail_worded : (s b : Bool) (done : List Piece) → (s ≡ true → is_worded done ≡ true) → s ≡ true → is_worded (cond b (word comma ∷ done) done) ≡ true
trail_worded s true done was is = refl
trail_worded s false done was is = was is

module _ (page : Page) where
  -- where a text stands last or nothing is written
  mutual
    pub worded : (s : Bool) (mode : Mode) (level after : ℕ) (d : Document) (done : List Piece) → IsApart s d → (s ≡ true → is_worded done ≡ true)
        → settles s d ≡ true → is_worded (lay page mode level after d done) ≡ true
    worded s mode level after (text bytes) done apart was is = apart
    worded s mode level after (between gap) done apart was is = absurd (false≢true is)
    worded s mode level after trail done apart was is = trail_worded s (is_broken mode) done was is
    worded s mode level after (nest inner) done apart was is = worded s mode (level + 1) after inner done apart was is
    worded s mode level after (group inner) done apart was is =
        worded s (mode_of page mode (forces inner) (column_of page done + flat inner after)) level after inner done apart was is
    worded s mode level after (sequence items) done apart was is = all_worded s mode level after items done apart was is

    all_worded : (s : Bool) (mode : Mode) (level after : ℕ) (ds : Documents) (done : List Piece) → AreApart s ds → (s ≡ true → is_worded done ≡ true)
        → all_settle s ds ≡ true → is_worded (lay_all page mode level after ds done) ≡ true
    all_worded s mode level after nothing done apart was is = was is
    all_worded s mode level after (also first rest) done apart was is =
        all_worded (settles s first) mode level after rest (lay page mode level (all_lead rest after) first done) apart.1 (worded s mode level (all_lead rest after) first done apart.0 was) is

module _ (short : List ℕ → Bool) (page : Page) where
  trail_told : (b : Bool) (done : List Piece) → Tells trail (now short done) (now short (cond b (word comma ∷ done) done))
  trail_told true done = inr refl
  trail_told false done = inl refl

  mutual
    told : (s : Bool) (mode : Mode) (level after : ℕ) (d : Document) (done : List Piece) → IsApart s d → (s ≡ true → is_worded done ≡ true)
        → Tells (reread short page mode level after d done) (now short done) (now short (lay page mode level after d done))
    told s mode level after (text bytes) done apart was = refl
    told s mode level after (between gap) done apart was = gap_shown short gap mode level gap.notes done apart.1 (was apart.0)
    told s mode level after trail done apart was = trail_told (is_broken mode) done
    told s mode level after (nest inner) done apart was = told s mode (level + 1) after inner done apart was
    told s mode level after (group inner) done apart was =
        told s (mode_of page mode (forces inner) (column_of page done + flat inner after)) level after inner done apart was
    told s mode level after (sequence items) done apart was = all_told s mode level after items done apart was

    all_told : (s : Bool) (mode : Mode) (level after : ℕ) (ds : Documents) (done : List Piece) → AreApart s ds → (s ≡ true → is_worded done ≡ true)
        → AllTell (reread_all short page mode level after ds done) (now short done) (now short (lay_all page mode level after ds done))
    all_told s mode level after nothing done apart was = refl
    all_told s mode level after (also first rest) done apart was = (
      now short (lay page mode level (all_lead rest after) first done),
      told s mode level (all_lead rest after) first done apart.0 was,
      all_told (settles s first) mode level after rest (lay page mode level (all_lead rest after) first done) apart.1 (worded page s mode level (all_lead rest after) first done apart.0 was),
    )

  -- ---- at the end

  mutual
    closed : (s : Bool) (mode : Mode) (level after : ℕ) (d : Document) (done : List Piece) → IsApart s d → (s ≡ true → is_worded done ≡ true) → IsClosed d
        → shown_before short true (lay page mode level after d done) ≡ shown_before short false (lay page mode level after d done)
    closed s mode level after (text bytes) done apart was ends = absurd ends
    closed s mode level after (between gap) done apart was ends =
        gap_last short gap mode level gap.notes done apart.1 (worded_settled done (was apart.0)) ends.0 ends.1
    closed s mode level after trail done apart was ends = absurd ends
    closed s mode level after (nest inner) done apart was ends = closed s mode (level + 1) after inner done apart was ends
    closed s mode level after (group inner) done apart was ends =
        closed s (mode_of page mode (forces inner) (column_of page done + flat inner after)) level after inner done apart was ends
    closed s mode level after (sequence items) done apart was ends = all_closed s mode level after items done apart was ends

    all_closed : (s : Bool) (mode : Mode) (level after : ℕ) (ds : Documents) (done : List Piece) → AreApart s ds → (s ≡ true → is_worded done ≡ true) → AreClosed ds
        → shown_before short true (lay_all page mode level after ds done) ≡ shown_before short false (lay_all page mode level after ds done)
    all_closed s mode level after nothing done apart was ends = absurd ends
    all_closed s mode level after (also first nothing) done apart was ends = closed s mode level after first done apart.0 was ends
    all_closed s mode level after (also first (also second rest)) done apart was ends =
        all_closed (settles s first) mode level after (also second rest) (lay page mode level (all_lead (also second rest) after) first done) apart.1
        (worded page s mode level (all_lead (also second rest) after) first done apart.0 was) ends

-- at the end the layout has shown all of its pieces
pub end_shown : (short : List ℕ → Bool) (page : Page) (d : Document) → IsApart true d → IsClosed d → now short (lay page outside 0 0 d []) ≡ shown short (pieces page d)
end_shown short page d apart ends =
    ap (λ (s : List Sight). record { sights = s; blank = has_blank done }) (sym (closed short page true outside 0 0 d [] apart (λ _. refl) ends))
    ∙ ap (λ (ps : List Piece). record { sights = shown_before short true ps; blank = has_blank ps }) (sym (reverse-reverse done))
  where
    done : List Piece
    done = lay page outside 0 0 d []

pub text_tells : (short : List ℕ → Bool) (page : Page) (d : Document) → IsApart true d → IsClosed d → Tells (reread_whole short page d) untold (shown short (pieces page d))
text_tells short page d apart ends =
    subst (Tells (reread_whole short page d) untold) (end_shown short page d apart ends) (told short page true outside 0 0 d [] apart (λ _. refl))
