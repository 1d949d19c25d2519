-- One mark more is filled.
use Rattle.std.proofs.Common.{◌≡◌, ℕ, ◌+◌, ◌<◌, ◌≤◌, true, List, [], ◌∷◌, ◌++◌, length, drop, get_or, drop-cons, add-one, map, reverse, refl, sym, ap, ◌∙◌, subst}
use Rattle.std.proofs.lemmas.Bool.{false≢true}
use Rattle.std.proofs.lemmas.List.{drop_all, reverse-append, map-append}
use Rattle.luf_doc.specs.declared.doc.Doc.{Doc}
use Rattle.luf_doc.specs.declared.doc.Doc.TheVariants as doc
use Rattle.luf_doc.specs.declared.doc.Gap.{Gap}
use Rattle.luf_doc.specs.Document.{Document, documents, document_of}
use Rattle.luf_doc.specs.Document as document
use Rattle.luf_doc.proofs.DocumentLaws.{text_document, gap_document, trail_document}
use Rattle.luf_draft.specs.Draft.{Draft}
use Rattle.luf_draft.specs.Flat.{Flat, flat_word, flat_close, flat, gap_of_kind, shown}
use Rattle.luf_draft.specs.Openings.{openings}
use Rattle.luf_draft.specs.declared.mark.GapKind.{GapKind}
use Rattle.luf_draft.specs.declared.mark.Mark.{Mark}
use Rattle.luf_draft.specs.declared.mark.Mark.TheVariants as mark
use Rattle.luf_draft.specs.declared.mark.Part.{Part}
use Rattle.luf_gaps.specs.Gaps.{next_gap}
use Rattle.luf_gaps.specs.declared.notes.GapNotes.{GapNotes}
use Rattle.luf_style.specs.Filled.{IsFilled, IsGap}
use Rattle.luf_style.specs.inner.Running.{Runs, Open, Steps, Goes, open_of, has_text, text_of, first_flat, closed, last_of}
use Rattle.luf_style.specs.inner.Running as running
use Rattle.luf_style.specs.declared.filling.Filling.{Filling}
use Rattle.luf_style.specs.declared.filling.Frame.{Frame}
use Rattle.luf_style.proofs.RunLaws.{whole_filled}

-- the last of them
last_behind : (ds : List Document) (d : Document) → last_of (ds ++ d ∷ []) ≡ d
last_behind [] d = refl
last_behind (x ∷ []) d = refl
last_behind (x ∷ y ∷ ds) d = last_behind (y ∷ ds) d

pub last_doc : (docs rest : List Doc) (d : Doc) → docs ≡ rest ++ d ∷ [] → document_of d ≡ last_of (map document_of docs)
last_doc docs rest d is = sym (ap (λ (ds : List Doc). last_of (map document_of ds)) is ∙ ap last_of (map-append document_of rest (d ∷ [])) ∙ last_behind (map document_of rest) (document_of d))

-- the documents with one more
one_more : (docs more : List Doc) (d : Doc) (x : Document) → more ≡ docs ++ d ∷ [] → document_of d ≡ x → map document_of more ≡ map document_of docs ++ x ∷ []
one_more docs more d x is d_is = ap (map document_of) is ∙ map-append document_of docs (d ∷ []) ∙ ap (λ y. map document_of docs ++ y ∷ []) d_is

pub text_shown : (written : List (List ℕ)) (m : Mark) → has_text m ≡ true → shown written m ≡ flat_word (text_of (shown written m))
text_shown written (mark.Token n) h = refl
text_shown written (mark.Word w) h = refl
text_shown written (mark.Sign s) h = refl
text_shown written (mark.Gap g) h = absurd (false≢true h)
text_shown written mark.Trail h = absurd (false≢true h)
text_shown written (mark.Open part) h = absurd (false≢true h)
text_shown written mark.Close h = absurd (false≢true h)

module _ (written : List (List ℕ)) (rest : List Flat) (before behind : Filling) where
  pub text_step : (m : Mark) (bytes : List ℕ) → has_text m ≡ true → bytes ≡ text_of (shown written m) → behind.gaps.items ≡ before.gaps.items → behind.last ≡ m
      → behind.frames.items ≡ before.frames.items → behind.docs.items ≡ before.docs.items ++ doc.Text bytes ∷ [] → Steps written m rest before behind
  text_step m bytes has bytes_are gaps last frames docs = record {
    goes = λ all r. subst (λ (f : Flat). Runs (f ∷ rest) (text_of (shown written before.last)) (reverse before.gaps.items) (reverse (map open_of before.frames.items)) (map document_of before.docs.items) all)
        (sym (text_shown written m has))
        (running.word (subst (λ (ds : List Document). Runs rest (text_of (shown written m)) (reverse before.gaps.items) (reverse (map open_of before.frames.items)) ds all)
        (one_more before.docs.items behind.docs.items (doc.Text bytes) (document.text (text_of (shown written m))) docs (text_document bytes ∙ ap document.text bytes_are))
        (subst (λ (fs : List Frame). Runs rest (text_of (shown written m)) (reverse before.gaps.items) (reverse (map open_of fs)) (map document_of behind.docs.items) all) frames
        (subst (λ (n : Mark). Runs rest (text_of (shown written n)) (reverse before.gaps.items) (reverse (map open_of behind.frames.items)) (map document_of behind.docs.items) all) last
        (subst (λ (gs : List GapNotes). Runs rest (text_of (shown written behind.last)) (reverse gs) (reverse (map open_of behind.frames.items)) (map document_of behind.docs.items) all) gaps r)))));
  }

  pub gap_step : (kind : GapKind) (gap : Gap) → IsGap (text_of (shown written before.last)) (first_flat rest) (gap_of_kind kind) (next_gap (reverse before.gaps.items)) gap
      → reverse behind.gaps.items ≡ drop 1 (reverse before.gaps.items) → behind.last ≡ before.last → behind.frames.items ≡ before.frames.items
      → behind.docs.items ≡ before.docs.items ++ doc.Gap gap ∷ [] → Steps written (mark.Gap kind) rest before behind
  gap_step kind gap is gaps last frames docs = record {
    goes = λ all r. running.gap is
        (subst (λ (ds : List Document). Runs rest (text_of (shown written before.last)) (drop 1 (reverse before.gaps.items)) (reverse (map open_of before.frames.items)) ds all)
        (one_more before.docs.items behind.docs.items (doc.Gap gap) (document.between gap) docs (gap_document gap))
        (subst (λ (fs : List Frame). Runs rest (text_of (shown written before.last)) (drop 1 (reverse before.gaps.items)) (reverse (map open_of fs)) (map document_of behind.docs.items) all) frames
        (subst (λ (n : Mark). Runs rest (text_of (shown written n)) (drop 1 (reverse before.gaps.items)) (reverse (map open_of behind.frames.items)) (map document_of behind.docs.items) all) last
        (subst (λ (gs : List GapNotes). Runs rest (text_of (shown written behind.last)) gs (reverse (map open_of behind.frames.items)) (map document_of behind.docs.items) all) gaps r))));
  }

  pub trail_step : behind.gaps.items ≡ before.gaps.items → behind.last ≡ before.last → behind.frames.items ≡ before.frames.items
      → behind.docs.items ≡ before.docs.items ++ doc.Trail ∷ [] → Steps written mark.Trail rest before behind
  trail_step gaps last frames docs = record {
    goes = λ all r. running.trail
        (subst (λ (ds : List Document). Runs rest (text_of (shown written before.last)) (reverse before.gaps.items) (reverse (map open_of before.frames.items)) ds all)
        (one_more before.docs.items behind.docs.items doc.Trail document.trail docs trail_document)
        (subst (λ (fs : List Frame). Runs rest (text_of (shown written before.last)) (reverse before.gaps.items) (reverse (map open_of fs)) (map document_of behind.docs.items) all) frames
        (subst (λ (n : Mark). Runs rest (text_of (shown written n)) (reverse before.gaps.items) (reverse (map open_of behind.frames.items)) (map document_of behind.docs.items) all) last
        (subst (λ (gs : List GapNotes). Runs rest (text_of (shown written behind.last)) (reverse gs) (reverse (map open_of behind.frames.items)) (map document_of behind.docs.items) all) gaps r))));
  }

  -- a part more is open, with nothing inside
  pub open_step : (part : Part) (frame : Frame) → frame.part ≡ part → frame.before.items ≡ before.docs.items → behind.gaps.items ≡ before.gaps.items → behind.last ≡ before.last
      → behind.frames.items ≡ before.frames.items ++ frame ∷ [] → behind.docs.items ≡ [] → Steps written (mark.Open part) rest before behind
  open_step part frame part_is docs_are gaps last frames docs =
      let opened : reverse (map open_of behind.frames.items) ≡ record { part = part; before = map document_of before.docs.items } ∷ reverse (map open_of before.frames.items) =
      ap (λ (fs : List Frame). reverse (map open_of fs)) frames ∙ ap reverse (map-append open_of before.frames.items (frame ∷ [])) ∙ reverse-append (map open_of before.frames.items) (open_of frame ∷ [])
      ∙ (λ i. record { part = part_is i; before = map document_of (docs_are i) } ∷ reverse (map open_of before.frames.items)) in
      record {
        goes = λ all r. running.open_part
            (subst (λ (ds : List Doc). Runs rest (text_of (shown written before.last)) (reverse before.gaps.items) (record { part = part; before = map document_of before.docs.items } ∷ reverse (map open_of before.frames.items)) (map document_of ds) all) docs
            (subst (λ (os : List Open). Runs rest (text_of (shown written before.last)) (reverse before.gaps.items) os (map document_of behind.docs.items) all) opened
            (subst (λ (n : Mark). Runs rest (text_of (shown written n)) (reverse before.gaps.items) (reverse (map open_of behind.frames.items)) (map document_of behind.docs.items) all) last
            (subst (λ (gs : List GapNotes). Runs rest (text_of (shown written behind.last)) (reverse gs) (reverse (map open_of behind.frames.items)) (map document_of behind.docs.items) all) gaps r))));
      }

  -- the innermost part is closed
  pub close_step : (frame : Frame) (d : Doc) (inside : List Doc) → document_of d ≡ closed frame.part (map document_of inside) → inside ≡ before.docs.items → behind.gaps.items ≡ before.gaps.items → behind.last ≡ before.last
      → before.frames.items ≡ behind.frames.items ++ frame ∷ [] → behind.docs.items ≡ frame.before.items ++ d ∷ [] → Steps written mark.Close rest before behind
  close_step frame d inside d_is inside_is gaps last frames docs =
      let same : document_of d ≡ closed frame.part (map document_of before.docs.items) = d_is ∙ ap (λ (ds : List Doc). closed frame.part (map document_of ds)) inside_is in
      let opened : reverse (map open_of before.frames.items) ≡ open_of frame ∷ reverse (map open_of behind.frames.items) =
      ap (λ (fs : List Frame). reverse (map open_of fs)) frames ∙ ap reverse (map-append open_of behind.frames.items (frame ∷ [])) ∙ reverse-append (map open_of behind.frames.items) (open_of frame ∷ []) in
      record {
        goes = λ all r. subst (λ (os : List Open). Runs (flat_close ∷ rest) (text_of (shown written before.last)) (reverse before.gaps.items) os (map document_of before.docs.items) all) (sym opened)
            (running.close_part
            (subst (λ (ds : List Document). Runs rest (text_of (shown written before.last)) (reverse before.gaps.items) (reverse (map open_of behind.frames.items)) ds all)
            (one_more frame.before.items behind.docs.items d (closed frame.part (map document_of before.docs.items)) docs same)
            (subst (λ (n : Mark). Runs rest (text_of (shown written n)) (reverse before.gaps.items) (reverse (map open_of behind.frames.items)) (map document_of behind.docs.items) all) last
            (subst (λ (gs : List GapNotes). Runs rest (text_of (shown written behind.last)) (reverse gs) (reverse (map open_of behind.frames.items)) (map document_of behind.docs.items) all) gaps r))));
      }

  -- nothing is to be closed
  pub stray_step : behind.gaps.items ≡ before.gaps.items → behind.last ≡ before.last → before.frames.items ≡ [] → behind.frames.items ≡ []
      → behind.docs.items ≡ before.docs.items → Steps written mark.Close rest before behind
  stray_step gaps last had frames docs = record {
    goes = λ all r. subst (λ (fs : List Frame). Runs (flat_close ∷ rest) (text_of (shown written before.last)) (reverse before.gaps.items) (reverse (map open_of fs)) (map document_of before.docs.items) all) (sym had)
        (running.stray
        (subst (λ (ds : List Doc). Runs rest (text_of (shown written before.last)) (reverse before.gaps.items) [] (map document_of ds) all) docs
        (subst (λ (fs : List Frame). Runs rest (text_of (shown written before.last)) (reverse before.gaps.items) (reverse (map open_of fs)) (map document_of behind.docs.items) all) frames
        (subst (λ (n : Mark). Runs rest (text_of (shown written n)) (reverse before.gaps.items) (reverse (map open_of behind.frames.items)) (map document_of behind.docs.items) all) last
        (subst (λ (gs : List GapNotes). Runs rest (text_of (shown written behind.last)) (reverse gs) (reverse (map open_of behind.frames.items)) (map document_of behind.docs.items) all) gaps r)))));
  }

-- the gap that is taken next
pub gap_like : (written : List (List ℕ)) (last other : Mark) (kind : GapKind) (notes next : GapNotes) {after : List ℕ} {gap : Gap} → last ≡ other → notes ≡ next
    → IsGap (text_of (shown written last)) after (gap_of_kind kind) notes gap → IsGap (text_of (shown written other)) after (gap_of_kind kind) next gap
gap_like written last other kind notes next {after} {gap} last_is notes_are is =
    subst (λ (m : Mark). IsGap (text_of (shown written m)) after (gap_of_kind kind) next gap) last_is (subst (λ (n : GapNotes). IsGap (text_of (shown written last)) after (gap_of_kind kind) n gap) notes_are is)

-- ---- the loop

-- what goes on from here goes on from the start
pub record Leads (written : List (List ℕ)) (marks : List Mark) (gaps : List GapNotes) (left : List Mark) (f : Filling) : Type 0 where
  pub goes : (all : List Document) → Goes written (map (shown written) left) f all → Runs (map (shown written) marks) [] gaps [] [] all

pub leads_first : (written : List (List ℕ)) (marks : List Mark) (gaps : List GapNotes) (f : Filling) → reverse f.gaps.items ≡ gaps → f.last ≡ mark.Trail → f.frames.items ≡ [] → f.docs.items ≡ []
    → Leads written marks gaps marks f
leads_first written marks gaps f gaps_are last frames docs = record {
  goes = λ all r.
      subst (λ (ds : List Doc). Runs (map (shown written) marks) [] gaps [] (map document_of ds) all) docs
      (subst (λ (fs : List Frame). Runs (map (shown written) marks) [] gaps (reverse (map open_of fs)) (map document_of f.docs.items) all) frames
      (subst (λ (n : Mark). Runs (map (shown written) marks) (text_of (shown written n)) gaps (reverse (map open_of f.frames.items)) (map document_of f.docs.items) all) last
      (subst (λ (gs : List GapNotes). Runs (map (shown written) marks) (text_of (shown written f.last)) gs (reverse (map open_of f.frames.items)) (map document_of f.docs.items) all) gaps_are r)));
}

pub leads_more : (written : List (List ℕ)) (marks : List Mark) (gaps : List GapNotes) (n : ℕ) (none : Mark) (rest : List Mark) (f g : Filling) → Leads written marks gaps (drop n marks) f → n < length marks
    → rest ≡ drop (n + 1) marks → Steps written (get_or marks n none) (map (shown written) rest) f g → Leads written marks gaps (drop (n + 1) marks) g
leads_more written marks gaps n none rest f g so_far within rest_is step =
    let is : drop n marks ≡ get_or marks n none ∷ drop (n + 1) marks = rw (add-one, drop-cons marks n none) in
    record {
      goes = λ all r. so_far.goes all (subst (λ (ms : List Mark). Goes written (map (shown written) ms) f all) (sym is)
          (subst (λ (ms : List Mark). Runs (shown written (get_or marks n none) ∷ map (shown written) ms) (text_of (shown written f.last)) (reverse f.gaps.items) (reverse (map open_of f.frames.items)) (map document_of f.docs.items) all) rest_is
          (step.goes all (subst (λ (ms : List Mark). Goes written (map (shown written) ms) g all) (sym rest_is) r))));
    }

pub fill_end : (written : List (List ℕ)) (marks : List Mark) (gaps : List GapNotes) (n : ℕ) (f : Filling) → Leads written marks gaps (drop n marks) f → length marks ≤ n
    → (d : Doc) → document_of d ≡ last_of (map document_of f.docs.items)
    → (draft : Draft) → map (shown written) marks ≡ flat draft → length gaps ≡ openings draft → IsFilled [] [] draft gaps [] (document_of d)
fill_end written marks gaps n f so_far past d d_is draft is count =
    let all : List Document = map document_of f.docs.items in
    let whole : Runs (map (shown written) marks) [] gaps [] [] all =
    so_far.goes all (subst (λ (ms : List Mark). Goes written (map (shown written) ms) f all) (sym (drop_all n marks past)) running.ended) in
    subst (λ x. IsFilled [] [] draft gaps [] x) (sym d_is) (whole_filled (map (shown written) marks) gaps all whole draft is count)
