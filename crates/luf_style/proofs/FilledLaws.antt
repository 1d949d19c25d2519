-- A draft with enough gaps is filled in exactly one way, and takes as many gaps as it has.
use Rattle.std.proofs.Common.{◌≡◌, ℕ, ◌+◌, ◌≤◌, Bool, true, false, List, [], ◌∷◌, length, drop, refl, sym, ap, ◌∙◌, subst, arith, length-drop, drop-drop}
use Rattle.luf_doc.specs.declared.doc.Chance.{Chance}
use Rattle.luf_doc.specs.declared.doc.Chance.TheVariants.{Tight, Space, Soft, Line, Hard}
use Rattle.luf_doc.specs.declared.doc.Gap.{Gap}
use Rattle.luf_doc.specs.declared.doc.Remark.{Remark}
use Rattle.luf_doc.specs.Document.{Document, Documents}
use Rattle.luf_doc.specs.Document as document
use Rattle.luf_guard.specs.Space.{StandApart, NeedSpace}
use Rattle.luf_draft.specs.Draft.{Draft, Drafts, Border, Opening}
use Rattle.luf_draft.specs.Draft as draft
use Rattle.luf_gaps.specs.declared.notes.GapNotes.{GapNotes}
use Rattle.luf_style.specs.Filled.{Has, IsChance, IsGap, IsFilled, AreFilled, first_of_all, last_text}
use Rattle.luf_style.specs.Filled as filled
use Rattle.luf_draft.specs.Openings.{openings, all_openings}
use Rattle.luf_style.proofs.ChanceLaws.{with_notes}
use Rattle.luf_style.proofs.Fill.{plain_chance, chance_of, filled_gap, fill, fill_all}

module _ (needs : List ℕ → List ℕ → Bool) (apart : (a b : List ℕ) → needs a b ≡ false → StandApart a b) (need : (a b : List ℕ) → needs a b ≡ true → NeedSpace a b) where
  -- ---- there is one

  is_plain : (before after : List ℕ) (border : Border) (v : Bool) → needs before after ≡ v → (chance : Chance) → IsChance before after [] border chance (plain_chance v chance)
  is_plain before after border true is Tight = filled.spaced border refl (need before after is)
  is_plain before after border false is Tight = filled.apart border refl (apart before after is)
  is_plain before after border v is Space = filled.kept border Space (λ p. cc) (λ p. refl)
  is_plain before after border v is Soft = filled.kept border Soft (λ p. cc) (λ p. refl)
  is_plain before after border v is Line = filled.kept border Line (λ p. cc) (λ p. refl)
  is_plain before after border v is Hard = filled.kept border Hard (λ p. cc) (λ p. refl)

  has_first : (note : Remark) (notes : List Remark) → Has (note ∷ notes)
  has_first note notes = λ p. cc

  is_chance : (before after : List ℕ) (notes : List Remark) (border : Border) (chance : Chance)
      → IsChance before after notes border chance (chance_of (needs before after) notes border chance)
  is_chance before after [] border chance = is_plain before after border (needs before after) refl chance
  is_chance before after (note ∷ notes) border chance = with_notes before after (note ∷ notes) border chance (has_first note notes)

  is_gap : (before after : List ℕ) (opening : Opening) (gap : GapNotes) → IsGap before after opening gap (filled_gap needs before after opening gap)
  is_gap before after opening gap = record { chance = is_chance before after gap.notes opening.border opening.chance; notes_are = refl; blank = refl; deeper = refl }

  mutual
    pub is_filled : (before after : List ℕ) (d : Draft) (gaps : List GapNotes) → openings d ≤ length gaps
        → IsFilled before after d gaps (drop (openings d) gaps) (fill needs before after d gaps)
    is_filled before after (draft.word bytes) gaps enough = filled.word before after bytes gaps
    is_filled before after (draft.opening opening) [] enough = absurd (omega arith)
    is_filled before after (draft.opening opening) (gap ∷ gaps) enough =
        filled.opening before after opening gap gaps (filled_gap needs before after opening gap) (is_gap before after opening gap)
    is_filled before after draft.trail gaps enough = filled.trail before after gaps
    is_filled before after (draft.nest inner) gaps enough =
        filled.nest before after inner gaps (drop (openings inner) gaps) (fill needs before after inner gaps) (is_filled before after inner gaps enough)
    is_filled before after (draft.group inner) gaps enough =
        filled.group before after inner gaps (drop (openings inner) gaps) (fill needs before after inner gaps) (is_filled before after inner gaps enough)
    is_filled before after (draft.sequence items) gaps enough =
        filled.sequence before after items gaps (drop (all_openings items) gaps) (fill_all needs before after items gaps) (are_filled before after items gaps enough)

    pub are_filled : (before after : List ℕ) (items : Drafts) (gaps : List GapNotes) → all_openings items ≤ length gaps
        → AreFilled before after items gaps (drop (all_openings items) gaps) (fill_all needs before after items gaps)
    are_filled before after draft.nothing gaps enough = filled.nothing before after gaps
    are_filled before after (draft.also first rest) gaps enough =
        let behind = drop (openings first) gaps in
        let enough_first : openings first ≤ length gaps = omega (arith, enough) in
        let enough_rest : all_openings rest ≤ length behind = omega (arith, enough, length-drop (openings first) gaps) in
        subst (λ left. AreFilled before after (draft.also first rest) gaps left (fill_all needs before after (draft.also first rest) gaps))
        (drop-drop (all_openings rest) (openings first) gaps)
        (filled.also before after first rest gaps behind (drop (all_openings rest) behind)
        (fill needs before (first_of_all rest after) first gaps) (fill_all needs (last_text first before) after rest behind)
        (is_filled before (first_of_all rest after) first gaps enough_first)
        (are_filled (last_text first before) after rest behind enough_rest))

-- ---- there is no other

one_chance : {before after : List ℕ} {notes : List Remark} {border : Border} {chance c d : Chance} → IsChance before after notes border chance c → IsChance before after notes border chance d → c ≡ d
one_chance (filled.apart _ none a) (filled.apart _ _ _) = refl
one_chance (filled.apart _ none a) (filled.spaced _ _ n) = absurd (n a)
one_chance (filled.apart _ none a) (filled.noted _ _ has) = absurd (has none)
one_chance (filled.apart _ none a) (filled.hard _ has) = absurd (has none)
one_chance (filled.apart _ none a) (filled.kept _ _ not_tight _) = absurd (not_tight refl)
one_chance (filled.spaced _ none n) (filled.apart _ _ a) = absurd (n a)
one_chance (filled.spaced _ none n) (filled.spaced _ _ _) = refl
one_chance (filled.spaced _ none n) (filled.noted _ _ has) = absurd (has none)
one_chance (filled.spaced _ none n) (filled.hard _ has) = absurd (has none)
one_chance (filled.spaced _ none n) (filled.kept _ _ not_tight _) = absurd (not_tight refl)
one_chance (filled.noted _ other has) (filled.apart _ none _) = absurd (has none)
one_chance (filled.noted _ other has) (filled.spaced _ none _) = absurd (has none)
one_chance (filled.noted _ other has) (filled.noted _ _ _) = refl
one_chance (filled.noted _ other has) (filled.hard _ _) = absurd (other refl)
one_chance (filled.noted _ other has) (filled.kept _ _ not_tight _) = absurd (not_tight refl)
one_chance (filled.hard _ has) (filled.apart _ none _) = absurd (has none)
one_chance (filled.hard _ has) (filled.spaced _ none _) = absurd (has none)
one_chance (filled.hard _ has) (filled.noted _ other _) = absurd (other refl)
one_chance (filled.hard _ has) (filled.hard _ _) = refl
one_chance (filled.hard _ has) (filled.kept _ _ _ none) = absurd (has (none refl))
one_chance (filled.kept _ _ not_tight none) (filled.apart _ _ _) = absurd (not_tight refl)
one_chance (filled.kept _ _ not_tight none) (filled.spaced _ _ _) = absurd (not_tight refl)
one_chance (filled.kept _ _ not_tight none) (filled.noted _ _ _) = absurd (not_tight refl)
one_chance (filled.kept _ _ not_tight none) (filled.hard _ has) = absurd (has (none refl))
one_chance (filled.kept _ _ not_tight none) (filled.kept _ _ _ _) = refl

one_gap : {before after : List ℕ} {opening : Opening} {notes : GapNotes} {g h : Gap} → IsGap before after opening notes g → IsGap before after opening notes h → g ≡ h
one_gap a b =
    λ i. record { chance = one_chance a.chance b.chance i; notes = (a.notes_are ∙ sym b.notes_are) i; blank = (a.blank ∙ sym b.blank) i; deeper = (a.deeper ∙ sym b.deeper) i }

-- what is left behind, and the document
pub record AreSame {A : Type 0} (left others : List GapNotes) (d e : A) : Type 0 where
  pub left_same : left ≡ others
  pub same : d ≡ e

mutual
  pub one_filled : {before after : List ℕ} {d : Draft} {gaps left others : List GapNotes} {x y : Document}
      → IsFilled before after d gaps left x → IsFilled before after d gaps others y → AreSame left others x y
  one_filled (filled.word _ _ bytes gaps) (filled.word _ _ _ _) = record { left_same = refl; same = refl }
  one_filled (filled.opening _ _ o notes gaps gap a) (filled.opening _ _ _ _ _ _ b) = record { left_same = refl; same = ap document.between (one_gap a b) }
  one_filled (filled.trail _ _ gaps) (filled.trail _ _ _) = record { left_same = refl; same = refl }
  one_filled (filled.nest _ _ _ _ _ _ a) (filled.nest _ _ _ _ _ _ b) = let one = one_filled a b in record { left_same = one.left_same; same = ap document.nest one.same }
  one_filled (filled.group _ _ _ _ _ _ a) (filled.group _ _ _ _ _ _ b) = let one = one_filled a b in record { left_same = one.left_same; same = ap document.group one.same }
  one_filled (filled.sequence _ _ _ _ _ _ a) (filled.sequence _ _ _ _ _ _ b) = let one = are_one a b in record { left_same = one.left_same; same = ap document.sequence one.same }

  pub are_one : {before after : List ℕ} {items : Drafts} {gaps left others : List GapNotes} {xs ys : Documents}
      → AreFilled before after items gaps left xs → AreFilled before after items gaps others ys → AreSame left others xs ys
  are_one (filled.nothing _ _ gaps) (filled.nothing _ _ _) = record { left_same = refl; same = refl }
  are_one (filled.also before after first rest gaps mid left d ds a as_all) (filled.also _ _ _ _ _ other_mid others e es b bs_all) =
      let one = one_filled a b in
      let more = are_one as_all (subst (λ (m : List GapNotes). AreFilled (last_text first before) after rest m others es) (sym one.left_same) bs_all) in
      record { left_same = more.left_same; same = λ i. document.also (one.same i) (more.same i) }

-- ---- it takes as many gaps as the draft has

mutual
  pub filled_count : {before after : List ℕ} {d : Draft} {gaps left : List GapNotes} {x : Document} → IsFilled before after d gaps left x → length gaps ≡ openings d + length left
  filled_count (filled.word _ _ bytes gaps) = omega arith
  filled_count (filled.opening _ _ o notes gaps gap a) = omega arith
  filled_count (filled.trail _ _ gaps) = omega arith
  filled_count (filled.nest _ _ _ _ _ _ a) = filled_count a
  filled_count (filled.group _ _ _ _ _ _ a) = filled_count a
  filled_count (filled.sequence _ _ _ _ _ _ a) = all_filled_count a

  pub all_filled_count : {before after : List ℕ} {items : Drafts} {gaps left : List GapNotes} {xs : Documents} → AreFilled before after items gaps left xs → length gaps ≡ all_openings items + length left
  all_filled_count (filled.nothing _ _ gaps) = omega arith
  all_filled_count (filled.also _ _ _ _ _ _ _ _ _ a as_all) = let one = filled_count a in let more = all_filled_count as_all in omega (arith, one, more)
