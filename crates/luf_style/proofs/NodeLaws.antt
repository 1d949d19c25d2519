-- A document has at most as many nodes as its draft, written flat, has items.
use Rattle.std.proofs.Common.{◌≡◌, ℕ, ◌≤◌, ◌<◌, ◌^◌, List, [], ◌∷◌, length, length-append, map, ap, arith}
use Rattle.std.proofs.lemmas.List.{length-map}
use Rattle.luf_doc.specs.Document.{Document, Documents}
use Rattle.luf_doc.specs.Table.{node_count, all_count}
use Rattle.luf_draft.specs.Draft.{Draft, Drafts}
use Rattle.luf_draft.specs.Flat.{flat, all_flat, flat_close, shown}
use Rattle.luf_draft.specs.declared.mark.Mark.{Mark}
use Rattle.luf_gaps.specs.declared.notes.GapNotes.{GapNotes}
use Rattle.luf_style.specs.Filled.{IsFilled, AreFilled}
use Rattle.luf_style.specs.Filled as filled

mutual
  filled_nodes : {before after : List ℕ} {d : Draft} {gaps left : List GapNotes} {x : Document} → IsFilled before after d gaps left x → node_count x ≤ length (flat d)
  filled_nodes (filled.word _ _ bytes gaps) = omega arith
  filled_nodes (filled.opening _ _ o notes gaps gap a) = omega arith
  filled_nodes (filled.trail _ _ gaps) = omega arith
  filled_nodes (filled.nest _ _ inner _ _ _ a) = let more = filled_nodes a in omega (arith, more, length-append (flat inner) (flat_close ∷ []))
  filled_nodes (filled.group _ _ inner _ _ _ a) = let more = filled_nodes a in omega (arith, more, length-append (flat inner) (flat_close ∷ []))
  filled_nodes (filled.sequence _ _ items _ _ _ a) = let more = all_nodes a in omega (arith, more, length-append (all_flat items) (flat_close ∷ []))

  all_nodes : {before after : List ℕ} {items : Drafts} {gaps left : List GapNotes} {xs : Documents} → AreFilled before after items gaps left xs → all_count xs ≤ length (all_flat items)
  all_nodes (filled.nothing _ _ gaps) = omega arith
  all_nodes (filled.also _ _ first rest _ _ _ _ _ a as_all) = let one = filled_nodes a in let more = all_nodes as_all in omega (arith, one, more, length-append (flat first) (all_flat rest))

-- so it has few where its marks are few
pub few_nodes : (written : List (List ℕ)) (marks : List Mark) (draft : Draft) {gaps left : List GapNotes} {x : Document} → map (shown written) marks ≡ flat draft → IsFilled [] [] draft gaps left x
    → length marks < 2 ^ 32 → node_count x < 2 ^ 32
few_nodes written marks draft shown_so is few =
    let nodes = filled_nodes is in
    omega (arith, nodes, few, ap length shown_so, length-map marks (shown written))
