-- Drafts written flat before what follows them, and marks that show so.
use Rattle.std.proofs.Common.{◌≡◌, ℕ, List, [], ◌∷◌, ◌++◌, map, append_assoc, refl, sym, ap, ◌∙◌}
use Rattle.std.proofs.lemmas.List.{map-append, append-nil}
use Rattle.luf_draft.specs.Draft.{Draft, Drafts, word, opening, trail, nest, group, sequence, nothing, also, drafts}
use Rattle.luf_draft.specs.Flat.{Flat, flat_word, flat_gap, flat_trail, flat_open, flat_close, flat, all_flat, shown}
use Rattle.luf_draft.specs.declared.mark.Mark.{Mark}
use Rattle.luf_draft.specs.declared.mark.Part.TheVariants.{Nest, Group, Sequence}

abbrev mutual
  pub onto : Draft → List Flat → List Flat
  onto (word bytes) t = flat_word bytes ∷ t
  onto (opening gap) t = flat_gap gap ∷ t
  onto trail t = flat_trail ∷ t
  onto (nest inner) t = flat_open Nest ∷ onto inner (flat_close ∷ t)
  onto (group inner) t = flat_open Group ∷ onto inner (flat_close ∷ t)
  onto (sequence items) t = flat_open Sequence ∷ all_onto items (flat_close ∷ t)

  pub all_onto : Drafts → List Flat → List Flat
  all_onto nothing t = t
  all_onto (also first rest) t = onto first (all_onto rest t)

mutual
  pub onto_flat : (d : Draft) (t : List Flat) → onto d t ≡ flat d ++ t
  onto_flat (word bytes) t = refl
  onto_flat (opening gap) t = refl
  onto_flat trail t = refl
  onto_flat (nest inner) t = ap (λ l. flat_open Nest ∷ l) (onto_flat inner (flat_close ∷ t) ∙ sym (append_assoc (flat inner) (flat_close ∷ []) t))
  onto_flat (group inner) t = ap (λ l. flat_open Group ∷ l) (onto_flat inner (flat_close ∷ t) ∙ sym (append_assoc (flat inner) (flat_close ∷ []) t))
  onto_flat (sequence items) t = ap (λ l. flat_open Sequence ∷ l) (all_onto_flat items (flat_close ∷ t) ∙ sym (append_assoc (all_flat items) (flat_close ∷ []) t))

  pub all_onto_flat : (ds : Drafts) (t : List Flat) → all_onto ds t ≡ all_flat ds ++ t
  all_onto_flat nothing t = refl
  all_onto_flat (also first rest) t = onto_flat first (all_onto rest t) ∙ ap (λ l. flat first ++ l) (all_onto_flat rest t) ∙ sym (append_assoc (flat first) (all_flat rest) t)

-- the marks, before what follows them
pub record Shows (written : List (List ℕ)) (ms : List Mark) (t u : List Flat) : Type 0 where
  pub same : map (shown written) ms ++ t ≡ u

pub none : {written : List (List ℕ)} {t : List Flat} → Shows written [] t t
none = record { same = refl }

pub one : {written : List (List ℕ)} {m : Mark} {ms : List Mark} {t u : List Flat} → Shows written ms t u → Shows written (m ∷ ms) t (shown written m ∷ u)
one {written} {m} rest = record { same = ap (λ l. shown written m ∷ l) rest.same }

pub joins : {written : List (List ℕ)} {xs ys : List Mark} {t u v : List Flat} → Shows written xs u v → Shows written ys t u → Shows written (xs ++ ys) t v
joins {written} {xs} {ys} {t} first rest = record {
  same =
      ap (λ l. l ++ t) (map-append (shown written) xs ys) ∙ append_assoc (map (shown written) xs) (map (shown written) ys) t
      ∙ ap (λ l. map (shown written) xs ++ l) rest.same ∙ first.same;
}

-- the marks of a draft of its own, whatever follows it
abbrev pub Stands : List (List ℕ) → List Mark → Draft → Type 0
Stands written ms d = (t : List Flat) → Shows written ms t (onto d t)

-- the marks of a form that is put before the drafts that follow it
abbrev pub Leads : List (List ℕ) → List Mark → (List Draft → List Draft) → Type 0
Leads written ms form = (more : List Draft) (t : List Flat) → Shows written ms (all_onto (drafts more) t) (all_onto (drafts (form more)) t)

pub stands_alone : (written : List (List ℕ)) (ms : List Mark) (d : Draft) → Stands written ms d → map (shown written) ms ≡ flat d
stands_alone written ms d stands = sym (append-nil (map (shown written) ms)) ∙ (stands []).same ∙ onto_flat d [] ∙ append-nil (flat d)
