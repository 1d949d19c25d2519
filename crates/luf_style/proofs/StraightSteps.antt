-- One mark more is laid, and then all are.
use Rattle.std.proofs.Common.{◌≡◌, ℕ, ◌+◌, ◌<◌, ◌≤◌, List, [], ◌∷◌, length, drop, get_or, drop-cons, add-one, map, reverse, sym, ap, ◌∙◌, subst, arith}
use Rattle.std.proofs.lemmas.List.Elements.{All-weaker}
use Rattle.luf_doc.specs.Layout.{Piece, outside, joined}
use Rattle.luf_draft.specs.Flat.{Flat, shown}
use Rattle.luf_draft.specs.declared.mark.Mark.{Mark}
use Rattle.luf_style.specs.declared.lay.Setting.{Setting}
use Rattle.luf_style.specs.declared.straight.Laying.{Laying}
use Rattle.luf_style.specs.declared.straight.Lines.{Lines}
use Rattle.luf_style.specs.inner.Shows.{Shows}
use Rattle.luf_style.specs.inner.Straight.{place_as, run, Lays, AreWithin}
use Rattle.luf_style.specs.inner.Tape.{with_gaps}
use Rattle.luf_style.proofs.SheetLaws.{written_joined}

-- what is no deeper than one level is no deeper than the next
pub within_more : (n : ℕ) (l : Laying) → AreWithin n l → AreWithin (n + 1) l
within_more n l within =
    let here = within.here in
    record {
      here = omega (arith, here);
      outer = All-weaker (λ (s : Setting). s.level ≤ n) (λ (s : Setting). s.level ≤ n + 1) (λ s low. omega (arith, low)) l.outer.items within.outer;
    }

-- what has been laid, and what is laid next
lays_then : (lines : Lines) (flats mid rest : List Flat) (before between behind : Laying) → Lays lines flats mid before between → Lays lines mid rest between behind → Lays lines flats rest before behind
lays_then lines flats mid rest before between behind first next = record {
  goes = λ done shown.
      let a = first.goes done shown in
      let b = next.goes a.done a.shows in
      record { done = b.done; shows = b.shows; same = b.same ∙ a.same };
}

-- one mark more
pub lays_more : (lines : Lines) (text : List (List ℕ)) (marks : List Mark) (n : ℕ) (none : Mark) (before now behind : Laying) → Lays lines (map (shown text) marks) (map (shown text) (drop n marks)) before now → n < length marks
    → ((rest : List Flat) → Lays lines (shown text (get_or marks n none) ∷ rest) rest now behind) → Lays lines (map (shown text) marks) (map (shown text) (drop (n + 1) marks)) before behind
lays_more lines text marks n none before now behind so_far within step =
    let is : drop n marks ≡ get_or marks n none ∷ drop (n + 1) marks = rw (add-one, drop-cons marks n none) in
    lays_then lines (map (shown text) marks) (map (shown text) (drop n marks)) (map (shown text) (drop (n + 1) marks)) before now behind so_far
    (subst (λ (ms : List Mark). Lays lines (map (shown text) ms) (map (shown text) (drop (n + 1) marks)) now behind) (sym is) (step (map (shown text) (drop (n + 1) marks))))

-- all of them, where nothing was laid before
pub lays_all : (lines : Lines) (flats : List Flat) (before behind : Laying) → Lays lines flats [] before behind → Shows lines.page.now before.sheet [] → before.gaps ≡ 0 → before.outer.items ≡ []
    → place_as before.at ≡ record { mode = outside; level = 0 }
    → behind.sheet.bytes.behind ≡ joined lines.page.now (reverse (run lines.page.now (with_gaps flats lines.gaps.now) (reverse before.needs.items) [] (record { mode = outside; level = 0 }) []))
lays_all lines flats before behind lays shown gaps outer at =
    let all = lays.goes [] shown in
    all.shows.bytes ∙ written_joined lines.page.now all.done
    ∙ ap (λ (done : List Piece). joined lines.page.now (reverse done))
    (all.same ∙ (λ i. run lines.page.now (with_gaps flats (drop (gaps i) lines.gaps.now)) (reverse before.needs.items) (reverse (map place_as (outer i))) (at i) []))
