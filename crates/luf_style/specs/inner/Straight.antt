-- How a document that is written flat is laid, from its start to its end. What only private functions cite.
use Rattle.std.specs.Prelude.{◌≡◌, ◌≤◌, ℕ, ◌+◌, false, cond, List, [], ◌∷◌, drop, map, reverse}
use Rattle.std.specs.List.{All}
use Rattle.luf_doc.specs.declared.page.Page.{Page}
use Rattle.luf_doc.specs.Layout.{Piece, word, comma, Mode, is_broken, column_of, lay_gap, mode_of}
use Rattle.luf_draft.specs.Flat.{Flat}
use Rattle.luf_draft.specs.declared.mark.Part.{Part}
use Rattle.luf_draft.specs.declared.mark.Part.TheVariants.{Nest, Group, Sequence}
use Rattle.luf_style.specs.declared.lay.Setting.{Setting}
use Rattle.luf_style.specs.declared.straight.Laying.{Laying}
use Rattle.luf_style.specs.declared.straight.Lines.{Lines}
use Rattle.luf_style.specs.inner.Modes.{mode_as}
use Rattle.luf_style.specs.inner.Shows.{Shows}
use Rattle.luf_style.specs.inner.Tape.{Tape, tape_word, tape_gap, tape_trail, tape_open, tape_close, with_gaps}

-- the group and the level in which a place stands
pub record Place : Type 0 where
  pub mode : Mode
  pub level : ℕ

abbrev pub first_need : List ℕ → ℕ
first_need [] = 0
first_need (need ∷ needs) = need

-- how a group is laid that needs so much of a line
abbrev pub mode_for : Page → Mode → ℕ → ℕ → Mode
mode_for page mode column need = mode_of page mode false (column + need)

-- the place inside a part that begins at this column
abbrev pub inside_of : Page → Part → Place → ℕ → List ℕ → Place
inside_of page Nest at column needs = record { mode = at.mode; level = at.level + 1 }
inside_of page Group at column needs = record { mode = mode_for page at.mode column (first_need needs); level = at.level }
inside_of page Sequence at column needs = at

-- the needs that are left inside a part
abbrev pub needs_inside : Part → List ℕ → List ℕ
needs_inside Nest needs = needs
needs_inside Group needs = drop 1 needs
needs_inside Sequence needs = needs

-- What has been written once this is laid, with these needs of its groups, within these parts, the innermost first.
abbrev pub run : Page → List Tape → List ℕ → List Place → Place → List Piece → List Piece
run page [] needs outer at done = done
run page (tape_word bytes ∷ rest) needs outer at done = run page rest needs outer at (word bytes ∷ done)
run page (tape_gap gap ∷ rest) needs outer at done = run page rest needs outer at (lay_gap gap at.mode at.level gap.notes done)
run page (tape_trail ∷ rest) needs outer at done = run page rest needs outer at (cond (is_broken at.mode) (word comma ∷ done) done)
run page (tape_open part ∷ rest) needs outer at done = run page rest (needs_inside part needs) (at ∷ outer) (inside_of page part at (column_of page done) needs) done
run page (tape_close ∷ rest) needs [] at done = run page rest needs [] at done
run page (tape_close ∷ rest) needs (o ∷ outer) at done = run page rest needs outer o done

-- ---- what the program holds

abbrev pub place_as : Setting → Place
place_as s = record { mode = mode_as s.mode; level = s.level }

-- what is laid in the end, if this is still to be laid here, where these pieces have been written
abbrev pub run_from : Lines → List Flat → Laying → List Piece → List Piece
run_from lines rest l done = run lines.page.now (with_gaps rest (drop l.gaps lines.gaps.now)) (reverse l.needs.items) (reverse (map place_as l.outer.items)) (place_as l.at) done

-- what stands on a sheet, from which the rest comes to what it comes to from the start
pub record GoesTo (lines : Lines) (rest : List Flat) (behind : Laying) (all : List Piece) : Type 0 where
  pub done : List Piece
  pub shows : Shows lines.page.now behind.sheet done
  pub same : run_from lines rest behind done ≡ all

-- Of this flat draft the first part has been laid between the one and the other, and the rest is still to be laid.
pub record Lays (lines : Lines) (flats rest : List Flat) (before behind : Laying) : Type 0 where
  pub goes : (done : List Piece) → Shows lines.page.now before.sheet done → GoesTo lines rest behind (run_from lines flats before done)

-- no place is deeper
pub record AreWithin (n : ℕ) (l : Laying) : Type 0 where
  pub here : l.at.level ≤ n
  pub outer : All (λ (s : Setting). s.level ≤ n) l.outer.items
