-- A draft that was filled from its start to its end is filled.
use Rattle.std.proofs.Common.{◌≡◌, ℕ, ◌+◌, ◌≤◌, List, [], ◌∷◌, ◌++◌, length, drop, refl, sym, ap, ◌∙◌, subst, arith, append-nil, append_assoc, length-drop, drop-drop}
use Rattle.std.proofs.Math.Seq.{drop-length}
use Rattle.luf_doc.specs.Document.{Document, documents}
use Rattle.luf_doc.specs.Document as document
use Rattle.luf_draft.specs.Draft.{Draft, Drafts}
use Rattle.luf_draft.specs.Draft as draft
use Rattle.luf_draft.specs.Flat.{Flat, flat_close, flat, all_flat}
use Rattle.luf_draft.specs.Openings.{openings, all_openings}
use Rattle.luf_draft.specs.declared.mark.Part.{Part}
use Rattle.luf_draft.specs.declared.mark.Part.TheVariants.{Nest, Group, Sequence}
use Rattle.luf_gaps.specs.declared.notes.GapNotes.{GapNotes}
use Rattle.luf_style.specs.Filled.{IsFilled, AreFilled, first_text, first_of_all, last_text, last_of_all}
use Rattle.luf_style.specs.Filled as filled
use Rattle.luf_style.specs.inner.Running.{Runs, Open, first_flat, closed, last_of}
use Rattle.luf_style.specs.inner.Running as running

-- ---- the first text

mutual
  pub first_of_flat : (d : Draft) (rest : List Flat) → first_flat (flat d ++ rest) ≡ first_text d (first_flat rest)
  first_of_flat (draft.word bytes) rest = refl
  first_of_flat (draft.opening gap) rest = refl
  first_of_flat draft.trail rest = refl
  first_of_flat (draft.nest inner) rest = ap first_flat (append_assoc (flat inner) (flat_close ∷ []) rest) ∙ first_of_flat inner (flat_close ∷ rest)
  first_of_flat (draft.group inner) rest = ap first_flat (append_assoc (flat inner) (flat_close ∷ []) rest) ∙ first_of_flat inner (flat_close ∷ rest)
  first_of_flat (draft.sequence items) rest = ap first_flat (append_assoc (all_flat items) (flat_close ∷ []) rest) ∙ first_of_items items (flat_close ∷ rest)

  pub first_of_items : (ds : Drafts) (rest : List Flat) → first_flat (all_flat ds ++ rest) ≡ first_of_all ds (first_flat rest)
  first_of_items draft.nothing rest = refl
  first_of_items (draft.also first more) rest =
      ap first_flat (append_assoc (flat first) (all_flat more) rest) ∙ first_of_flat first (all_flat more ++ rest) ∙ ap (first_text first) (first_of_items more rest)

-- ---- a draft within a whole

-- the draft is filled, and what follows goes on from there
record Fills (d : Draft) (rest : List Flat) (last : List ℕ) (gaps : List GapNotes) (opens : List Open) (docs all : List Document) : Type 0 where
  doc : Document
  filled : IsFilled last (first_flat rest) d gaps (drop (openings d) gaps) doc
  runs : Runs rest (last_text d last) (drop (openings d) gaps) opens (docs ++ doc ∷ []) all

record FillAll (ds : Drafts) (rest : List Flat) (last : List ℕ) (gaps : List GapNotes) (opens : List Open) (docs all : List Document) : Type 0 where
  more : List Document
  filled : AreFilled last (first_flat rest) ds gaps (drop (all_openings ds) gaps) (documents more)
  runs : Runs rest (last_of_all ds last) (drop (all_openings ds) gaps) opens (docs ++ more) all

closing : {part : Part} {before : List Document} {rest : List Flat} {last : List ℕ} {gaps : List GapNotes} {opens : List Open} {docs all : List Document}
    → Runs (flat_close ∷ rest) last gaps (record { part = part; before = before } ∷ opens) docs all → Runs rest last gaps opens (before ++ closed part docs ∷ []) all
closing (running.close_part r) = r

mutual
  run_fills : (d : Draft) (rest : List Flat) (last : List ℕ) (gaps : List GapNotes) (opens : List Open) (docs all : List Document) → openings d ≤ length gaps
      → Runs (flat d ++ rest) last gaps opens docs all → Fills d rest last gaps opens docs all
  run_fills (draft.word bytes) rest last gaps opens docs all enough (running.word r) = record { doc = document.text bytes; filled = filled.word last (first_flat rest) bytes gaps; runs = r }
  run_fills (draft.opening o) rest last [] opens docs all enough r = absurd (omega arith)
  run_fills (draft.opening o) rest last (g ∷ gaps) opens docs all enough (running.gap {gap = x} is r) =
      record { doc = document.between x; filled = filled.opening last (first_flat rest) o g gaps x is; runs = r }
  run_fills draft.trail rest last gaps opens docs all enough (running.trail r) = record { doc = document.trail; filled = filled.trail last (first_flat rest) gaps; runs = r }
  run_fills (draft.nest inner) rest last gaps opens docs all enough (running.open_part r) =
      let f = run_fills inner (flat_close ∷ rest) last gaps (record { part = Nest; before = docs } ∷ opens) [] all enough
      (subst (λ (fs : List Flat). Runs fs last gaps (record { part = Nest; before = docs } ∷ opens) [] all) (append_assoc (flat inner) (flat_close ∷ []) rest) r) in
      record { doc = document.nest f.doc; filled = filled.nest last (first_flat rest) inner gaps (drop (openings inner) gaps) f.doc f.filled; runs = closing f.runs }
  run_fills (draft.group inner) rest last gaps opens docs all enough (running.open_part r) =
      let f = run_fills inner (flat_close ∷ rest) last gaps (record { part = Group; before = docs } ∷ opens) [] all enough
      (subst (λ (fs : List Flat). Runs fs last gaps (record { part = Group; before = docs } ∷ opens) [] all) (append_assoc (flat inner) (flat_close ∷ []) rest) r) in
      record { doc = document.group f.doc; filled = filled.group last (first_flat rest) inner gaps (drop (openings inner) gaps) f.doc f.filled; runs = closing f.runs }
  run_fills (draft.sequence items) rest last gaps opens docs all enough (running.open_part r) =
      let f = run_fill_all items (flat_close ∷ rest) last gaps (record { part = Sequence; before = docs } ∷ opens) [] all enough
      (subst (λ (fs : List Flat). Runs fs last gaps (record { part = Sequence; before = docs } ∷ opens) [] all) (append_assoc (all_flat items) (flat_close ∷ []) rest) r) in
      record { doc = document.sequence (documents f.more); filled = filled.sequence last (first_flat rest) items gaps (drop (all_openings items) gaps) (documents f.more) f.filled; runs = closing f.runs }

  run_fill_all : (ds : Drafts) (rest : List Flat) (last : List ℕ) (gaps : List GapNotes) (opens : List Open) (docs all : List Document) → all_openings ds ≤ length gaps
      → Runs (all_flat ds ++ rest) last gaps opens docs all → FillAll ds rest last gaps opens docs all
  run_fill_all draft.nothing rest last gaps opens docs all enough r =
      record { more = []; filled = filled.nothing last (first_flat rest) gaps; runs = subst (λ (ds : List Document). Runs rest last gaps opens ds all) (sym (append-nil docs)) r }
  run_fill_all (draft.also first more) rest last gaps opens docs all enough r =
      let behind : List GapNotes = drop (openings first) gaps in
      let enough_first : openings first ≤ length gaps = omega (arith, enough) in
      let enough_more : all_openings more ≤ length behind = omega (arith, enough, length-drop (openings first) gaps) in
      let f = run_fills first (all_flat more ++ rest) last gaps opens docs all enough_first
      (subst (λ (fs : List Flat). Runs fs last gaps opens docs all) (append_assoc (flat first) (all_flat more) rest) r) in
      let g = run_fill_all more rest (last_text first last) behind opens (docs ++ f.doc ∷ []) all enough_more f.runs in
      let drops : drop (all_openings more) behind ≡ drop (openings first + all_openings more) gaps = drop-drop (all_openings more) (openings first) gaps in
      record {
        more = f.doc ∷ g.more;
        filled = subst (λ left. AreFilled last (first_flat rest) (draft.also first more) gaps left (documents (f.doc ∷ g.more))) drops
            (filled.also last (first_flat rest) first more gaps behind (drop (all_openings more) behind) f.doc (documents g.more)
            (subst (λ after. IsFilled last after first gaps behind f.doc) (first_of_items more rest) f.filled) g.filled);
        runs = subst (λ left. Runs rest (last_of_all more (last_text first last)) left opens (docs ++ f.doc ∷ g.more) all) drops
            (subst (λ (ds : List Document). Runs rest (last_of_all more (last_text first last)) (drop (all_openings more) behind) opens ds all) (append_assoc docs (f.doc ∷ []) g.more) g.runs);
      }

-- ---- a whole draft

ending : {last : List ℕ} {gaps : List GapNotes} {opens : List Open} {docs all : List Document} → Runs [] last gaps opens docs all → docs ≡ all
ending running.ended = refl

pub whole_filled : (flats : List Flat) (gaps : List GapNotes) (all : List Document) → Runs flats [] gaps [] [] all
    → (d : Draft) → flats ≡ flat d → length gaps ≡ openings d → IsFilled [] [] d gaps [] (last_of all)
whole_filled flats gaps all r d is count =
    let f = run_fills d [] [] gaps [] [] all (omega (arith, count)) (subst (λ (fs : List Flat). Runs fs [] gaps [] [] all) (is ∙ sym (append-nil (flat d))) r) in
    let none_left : drop (openings d) gaps ≡ [] = ap (λ n. drop n gaps) (sym count) ∙ drop-length gaps in
    subst (λ x. IsFilled [] [] d gaps [] x) (ap last_of (ending f.runs)) (subst (λ left. IsFilled [] [] d gaps left f.doc) none_left f.filled)
