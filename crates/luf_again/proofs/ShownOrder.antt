-- What pieces show, from a place on in order.
use Rattle.std.proofs.Common.{◌≡◌, ℕ, Bool, true, ◌||◌, List, [], ◌∷◌, ◌++◌, reverse, refl, sym, ap, ◌∙◌, append-nil}
use Rattle.std.proofs.lemmas.List.{reverse-append, reverse-reverse, append_assoc}
use Rattle.luf_doc.specs.Layout.{Piece, word, note, space, line_end, empty_line, indentation}
use Rattle.luf_again.specs.Beside.{AllBeside}
use Rattle.luf_again.specs.Tells.{Sight, token, comment}
use Rattle.luf_again.specs.Shown.{is_line_start, has_blank, shown_before, shown}
use Rattle.luf_again.proofs.LexedPlaces.{is_line_after, rest_of}

abbrev pub onto : {X : Type 0} → List X → List X → List X
onto [] done = done
onto (p ∷ ps) done = onto ps (p ∷ done)

onto_append : {X : Type 0} (ps done : List X) → onto ps done ≡ reverse ps ++ done
onto_append {X = X} [] done = refl
onto_append {X = X} (p ∷ ps) done = onto_append ps (p ∷ done) ∙ sym (append_assoc (reverse ps) (p ∷ []) done) ∙ ap (λ (l : List X). l ++ done) (sym (reverse-append (p ∷ []) ps))

pub onto_reverse : {X : Type 0} (ps : List X) → onto ps [] ≡ reverse ps
onto_reverse ps = onto_append ps [] ∙ append-nil (reverse ps)

pub below : (short : List ℕ → Bool) (ps done : List Piece) → AllBeside short (onto ps done) → AllBeside short done
below short [] done beside = beside
below short (p ∷ ps) done beside = rest_of short p done (below short ps (p ∷ done) beside)

module _ (short : List ℕ → Bool) where
  abbrev pub shown_from : List Piece → List Piece → List Sight
  shown_from done [] = []
  shown_from done (word bytes ∷ ps) = token bytes (has_blank done) ∷ shown_from (word bytes ∷ done) ps
  shown_from done (note bytes ∷ ps) =
      comment (record { text = bytes; own_line = is_line_start done; ends_line = short bytes || is_line_after ps; blank = has_blank done }) ∷ shown_from (note bytes ∷ done) ps
  shown_from done (space ∷ ps) = shown_from (space ∷ done) ps
  shown_from done (line_end ∷ ps) = shown_from (line_end ∷ done) ps
  shown_from done (empty_line ∷ ps) = shown_from (empty_line ∷ done) ps
  shown_from done (indentation level ∷ ps) = shown_from (indentation level ∷ done) ps

  from_before : (ps done : List Piece) → onto (shown_from done ps) (shown_before short (is_line_after ps) done) ≡ shown_before short true (onto ps done)
  from_before [] done = refl
  from_before (word bytes ∷ ps) done = from_before ps (word bytes ∷ done)
  from_before (note bytes ∷ ps) done = from_before ps (note bytes ∷ done)
  from_before (space ∷ ps) done = from_before ps (space ∷ done)
  from_before (line_end ∷ ps) done = from_before ps (line_end ∷ done)
  from_before (empty_line ∷ ps) done = from_before ps (empty_line ∷ done)
  from_before (indentation level ∷ ps) done = from_before ps (indentation level ∷ done)

  pub in_order : (ps : List Piece) → reverse (shown short ps).sights ≡ shown_from [] ps
  in_order ps =
      ap reverse (sym (sym (onto_reverse (shown_from [] ps)) ∙ from_before ps [] ∙ ap (shown_before short true) (onto_reverse ps)))
      ∙ reverse-reverse (shown_from [] ps)
