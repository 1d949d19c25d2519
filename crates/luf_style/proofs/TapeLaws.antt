-- The gaps of a flat draft make a document of the draft.
use Rattle.std.proofs.Common.{◌≡◌, ℕ, ◌+◌, ◌≤◌, List, [], ◌∷◌, ◌++◌, length, drop, refl, sym, ap, ◌∙◌, subst, arith, append-nil, append_assoc, length-drop, drop-drop}
use Rattle.std.proofs.Math.Seq.{drop-length}
use Rattle.luf_doc.specs.declared.doc.Gap.{Gap}
use Rattle.luf_doc.specs.Document.{Document, Documents}
use Rattle.luf_doc.specs.Document as document
use Rattle.luf_draft.specs.Draft.{Draft, Drafts}
use Rattle.luf_draft.specs.Draft as draft
use Rattle.luf_draft.specs.Flat.{Flat, flat_word, flat_gap, flat_trail, flat_open, flat_close, flat, all_flat}
use Rattle.luf_draft.specs.Openings.{openings, all_openings}
use Rattle.luf_draft.specs.declared.mark.Part.TheVariants.{Nest, Group, Sequence}
use Rattle.luf_gaps.specs.declared.notes.GapNotes.{GapNotes}
use Rattle.luf_style.specs.Filled.{IsFilled, AreFilled, last_text, last_of_all}
use Rattle.luf_style.specs.Filled as filled
use Rattle.luf_style.specs.inner.Running.{first_flat}
use Rattle.luf_style.specs.inner.Tape.{AreGaps, Tape, tape_open, tape, all_tape, with_gaps, gap_count}
use Rattle.luf_style.specs.inner.Tape as gaps_are
use Rattle.luf_style.proofs.RunLaws.{first_of_items}

-- as many gaps as the flat draft has
pub gaps_counted : (last : List ℕ) (flats : List Flat) (notes : List GapNotes) (gaps : List Gap) → AreGaps last flats notes gaps → gap_count flats ≡ length gaps
gaps_counted last [] notes gaps gaps_are.ended = refl
gaps_counted last (flat_word bytes ∷ rest) notes gaps (gaps_are.word r) = gaps_counted bytes rest notes gaps r
gaps_counted last (flat_gap opening ∷ rest) notes gaps (gaps_are.gap {gap = g} {gaps = more} is r) =
    let counted : gap_count rest ≡ length more = gaps_counted last rest (drop 1 notes) more r in
    omega (arith, counted)
gaps_counted last (flat_trail ∷ rest) notes gaps (gaps_are.trail r) = gaps_counted last rest notes gaps r
gaps_counted last (flat_open part ∷ rest) notes gaps (gaps_are.open_part r) = gaps_counted last rest notes gaps r
gaps_counted last (flat_close ∷ rest) notes gaps (gaps_are.close_part r) = gaps_counted last rest notes gaps r

-- ---- a draft within a whole

-- The draft is filled, its document is what the gaps make of it, and those that are left are the gaps of what follows.
record Told (d : Draft) (rest : List Flat) (last : List ℕ) (notes : List GapNotes) (gaps : List Gap) : Type 0 where
  doc : Document
  left : List Gap
  filled : IsFilled last (first_flat rest) d notes (drop (openings d) notes) doc
  is : with_gaps (flat d ++ rest) gaps ≡ tape doc (with_gaps rest left)
  behind : AreGaps (last_text d last) rest (drop (openings d) notes) left

record AllTold (ds : Drafts) (rest : List Flat) (last : List ℕ) (notes : List GapNotes) (gaps : List Gap) : Type 0 where
  docs : Documents
  left : List Gap
  filled : AreFilled last (first_flat rest) ds notes (drop (all_openings ds) notes) docs
  is : with_gaps (all_flat ds ++ rest) gaps ≡ all_tape docs (with_gaps rest left)
  behind : AreGaps (last_of_all ds last) rest (drop (all_openings ds) notes) left

closing : {rest : List Flat} {last : List ℕ} {notes : List GapNotes} {gaps : List Gap} → AreGaps last (flat_close ∷ rest) notes gaps → AreGaps last rest notes gaps
closing (gaps_are.close_part r) = r

mutual
  told : (d : Draft) (rest : List Flat) (last : List ℕ) (notes : List GapNotes) (gaps : List Gap) → openings d ≤ length notes
      → AreGaps last (flat d ++ rest) notes gaps → Told d rest last notes gaps
  told (draft.word bytes) rest last notes gaps enough (gaps_are.word r) =
      record { doc = document.text bytes; left = gaps; filled = filled.word last (first_flat rest) bytes notes; is = refl; behind = r }
  told (draft.opening o) rest last [] gaps enough r = absurd (omega arith)
  told (draft.opening o) rest last (note ∷ notes) gaps enough (gaps_are.gap {gap = g} {gaps = more} is r) =
      record { doc = document.between g; left = more; filled = filled.opening last (first_flat rest) o note notes g is; is = refl; behind = r }
  told draft.trail rest last notes gaps enough (gaps_are.trail r) =
      record { doc = document.trail; left = gaps; filled = filled.trail last (first_flat rest) notes; is = refl; behind = r }
  told (draft.nest inner) rest last notes gaps enough (gaps_are.open_part r) =
      let within : (flat inner ++ (flat_close ∷ [])) ++ rest ≡ flat inner ++ (flat_close ∷ rest) = append_assoc (flat inner) (flat_close ∷ []) rest in
      let t = told inner (flat_close ∷ rest) last notes gaps enough (subst (λ (fs : List Flat). AreGaps last fs notes gaps) within r) in
      record {
        doc = document.nest t.doc;
        left = t.left;
        filled = filled.nest last (first_flat rest) inner notes (drop (openings inner) notes) t.doc t.filled;
        is = ap (λ (fs : List Flat). tape_open Nest ∷ with_gaps fs gaps) within ∙ ap (λ (ts : List Tape). tape_open Nest ∷ ts) t.is;
        behind = closing t.behind;
      }
  told (draft.group inner) rest last notes gaps enough (gaps_are.open_part r) =
      let within : (flat inner ++ (flat_close ∷ [])) ++ rest ≡ flat inner ++ (flat_close ∷ rest) = append_assoc (flat inner) (flat_close ∷ []) rest in
      let t = told inner (flat_close ∷ rest) last notes gaps enough (subst (λ (fs : List Flat). AreGaps last fs notes gaps) within r) in
      record {
        doc = document.group t.doc;
        left = t.left;
        filled = filled.group last (first_flat rest) inner notes (drop (openings inner) notes) t.doc t.filled;
        is = ap (λ (fs : List Flat). tape_open Group ∷ with_gaps fs gaps) within ∙ ap (λ (ts : List Tape). tape_open Group ∷ ts) t.is;
        behind = closing t.behind;
      }
  told (draft.sequence items) rest last notes gaps enough (gaps_are.open_part r) =
      let within : (all_flat items ++ (flat_close ∷ [])) ++ rest ≡ all_flat items ++ (flat_close ∷ rest) = append_assoc (all_flat items) (flat_close ∷ []) rest in
      let t = all_told items (flat_close ∷ rest) last notes gaps enough (subst (λ (fs : List Flat). AreGaps last fs notes gaps) within r) in
      record {
        doc = document.sequence t.docs;
        left = t.left;
        filled = filled.sequence last (first_flat rest) items notes (drop (all_openings items) notes) t.docs t.filled;
        is = ap (λ (fs : List Flat). tape_open Sequence ∷ with_gaps fs gaps) within ∙ ap (λ (ts : List Tape). tape_open Sequence ∷ ts) t.is;
        behind = closing t.behind;
      }

  all_told : (ds : Drafts) (rest : List Flat) (last : List ℕ) (notes : List GapNotes) (gaps : List Gap) → all_openings ds ≤ length notes
      → AreGaps last (all_flat ds ++ rest) notes gaps → AllTold ds rest last notes gaps
  all_told draft.nothing rest last notes gaps enough r =
      record { docs = document.nothing; left = gaps; filled = filled.nothing last (first_flat rest) notes; is = refl; behind = r }
  all_told (draft.also first more) rest last notes gaps enough r =
      let behind : List GapNotes = drop (openings first) notes in
      let enough_first : openings first ≤ length notes = omega (arith, enough) in
      let enough_more : all_openings more ≤ length behind = omega (arith, enough, length-drop (openings first) notes) in
      let within : (flat first ++ all_flat more) ++ rest ≡ flat first ++ (all_flat more ++ rest) = append_assoc (flat first) (all_flat more) rest in
      let t = told first (all_flat more ++ rest) last notes gaps enough_first (subst (λ (fs : List Flat). AreGaps last fs notes gaps) within r) in
      let u = all_told more rest (last_text first last) behind t.left enough_more t.behind in
      let drops : drop (all_openings more) behind ≡ drop (openings first + all_openings more) notes = drop-drop (all_openings more) (openings first) notes in
      record {
        docs = document.also t.doc u.docs;
        left = u.left;
        filled = subst (λ after. AreFilled last (first_flat rest) (draft.also first more) notes after (document.also t.doc u.docs)) drops
            (filled.also last (first_flat rest) first more notes behind (drop (all_openings more) behind) t.doc u.docs
            (subst (λ after. IsFilled last after first notes behind t.doc) (first_of_items more rest) t.filled) u.filled);
        is = ap (λ (fs : List Flat). with_gaps fs gaps) within ∙ t.is ∙ ap (tape t.doc) u.is;
        behind = subst (λ after. AreGaps (last_of_all more (last_text first last)) rest after u.left) drops u.behind;
      }

-- ---- a whole draft

-- a document of the draft, which the gaps make of it
pub record WithDocument (draft : Draft) (flats : List Flat) (notes : List GapNotes) (gaps : List Gap) : Type 0 where
  pub document : Document
  pub filled : IsFilled [] [] draft notes [] document
  pub is : with_gaps flats gaps ≡ tape document []

pub with_document : (draft : Draft) (flats : List Flat) (notes : List GapNotes) (gaps : List Gap) → flats ≡ flat draft → length notes ≡ openings draft
    → AreGaps [] flats notes gaps → WithDocument draft flats notes gaps
with_document d flats notes gaps flats_are count r =
    let whole : flats ≡ flat d ++ [] = flats_are ∙ sym (append-nil (flat d)) in
    let t = told d [] [] notes gaps (omega (arith, count)) (subst (λ (fs : List Flat). AreGaps [] fs notes gaps) whole r) in
    let none_left : drop (openings d) notes ≡ [] = ap (λ n. drop n notes) (sym count) ∙ drop-length notes in
    record {
      document = t.doc;
      filled = subst (λ left. IsFilled [] [] d notes left t.doc) none_left t.filled;
      is = ap (λ (fs : List Flat). with_gaps fs gaps) whole ∙ t.is;
    }
