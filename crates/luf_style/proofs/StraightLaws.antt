-- A document that is written flat is laid, with what its groups need, as the document is laid.
use Rattle.std.proofs.Common.{◌≡◌, ℕ, ◌+◌, ◌≤◌, min, Bool, true, false, cond, List, [], ◌∷◌, ltb, refl, ap, ◌∙◌, arith}
use Rattle.luf_doc.specs.declared.page.Page.{Page}
use Rattle.luf_doc.specs.Document.{Document, Documents, text, between, trail, nest, group, sequence, nothing, also}
use Rattle.luf_doc.specs.Flat.{flat, forces, all_lead}
use Rattle.luf_doc.specs.Layout.{Piece, Mode, outside, flat_group, broken_group, column_of, mode_of, lay, lay_all}
use Rattle.luf_style.specs.inner.Measured.{need_of, needs_of, all_needs}
use Rattle.luf_style.specs.inner.Straight.{Place, mode_for, run}
use Rattle.luf_style.specs.inner.Tape.{Tape, tape_close, tape, all_tape}

-- A number that is cut off at the greatest of its type is past a width just where the number is.
cut_past : (width column size : ℕ) → width ≤ 10000 → ltb width (column + min size 4294967295) ≡ ltb width (column + size)
cut_past width column size narrow = grind arith

most_past : (width column : ℕ) → width ≤ 10000 → ltb width (column + 4294967295) ≡ true
most_past width column narrow = grind arith

-- how a group is laid that is measured
group_mode : (page : Page) → page.width ≤ 10000 → (mode : Mode) (forced : Bool) (column size : ℕ) → mode_for page mode column (cond forced 4294967295 (min size 4294967295)) ≡ mode_of page mode forced (column + size)
group_mode page narrow flat_group forced column size = refl
group_mode page narrow outside true column size = ap (λ (past : Bool). cond past broken_group flat_group) (most_past page.width column narrow)
group_mode page narrow outside false column size = ap (λ (past : Bool). cond past broken_group flat_group) (cut_past page.width column size narrow)
group_mode page narrow broken_group true column size = ap (λ (past : Bool). cond past broken_group flat_group) (most_past page.width column narrow)
group_mode page narrow broken_group false column size = ap (λ (past : Bool). cond past broken_group flat_group) (cut_past page.width column size narrow)

mutual
  pub run_tape : (page : Page) → page.width ≤ 10000 → (d : Document) (rest : List Tape) (after : ℕ) (more : List ℕ) (outer : List Place) (at : Place) (done : List Piece)
      → run page (tape d rest) (needs_of d after more) outer at done ≡ run page rest more outer at (lay page at.mode at.level after d done)
  run_tape page narrow (text bytes) rest after more outer at done = refl
  run_tape page narrow (between gap) rest after more outer at done = refl
  run_tape page narrow trail rest after more outer at done = refl
  run_tape page narrow (nest inner) rest after more outer at done = run_tape page narrow inner (tape_close ∷ rest) after more (at ∷ outer) (record { mode = at.mode; level = at.level + 1 }) done
  run_tape page narrow (group inner) rest after more outer at done =
      run_tape page narrow inner (tape_close ∷ rest) after more (at ∷ outer) (record { mode = mode_for page at.mode (column_of page done) (need_of inner after); level = at.level }) done
      ∙ ap (λ (mode : Mode). run page rest more outer at (lay page mode at.level after inner done)) (group_mode page narrow at.mode (forces inner) (column_of page done) (flat inner after))
  run_tape page narrow (sequence items) rest after more outer at done = run_all_tape page narrow items (tape_close ∷ rest) after more (at ∷ outer) at done

  pub run_all_tape : (page : Page) → page.width ≤ 10000 → (ds : Documents) (rest : List Tape) (after : ℕ) (more : List ℕ) (outer : List Place) (at : Place) (done : List Piece)
      → run page (all_tape ds rest) (all_needs ds after more) outer at done ≡ run page rest more outer at (lay_all page at.mode at.level after ds done)
  run_all_tape page narrow nothing rest after more outer at done = refl
  run_all_tape page narrow (also first others) rest after more outer at done =
      run_tape page narrow first (all_tape others rest) (all_lead others after) (all_needs others after more) outer at done
      ∙ run_all_tape page narrow others rest after more outer at (lay page at.mode at.level (all_lead others after) first done)

-- the whole of it
pub run_whole : (page : Page) → page.width ≤ 10000 → (d : Document) → run page (tape d []) (needs_of d 0 []) [] (record { mode = outside; level = 0 }) [] ≡ lay page outside 0 0 d []
run_whole page narrow d = run_tape page narrow d [] 0 [] [] (record { mode = outside; level = 0 }) []
