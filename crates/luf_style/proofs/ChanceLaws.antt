-- The chances of gaps with notes and without.
use Rattle.std.proofs.Common.{◌≡◌, ℕ, List, [], sym, subst}
use Rattle.luf_doc.specs.declared.doc.Chance.{Chance}
use Rattle.luf_doc.specs.declared.doc.Chance.TheVariants.{Tight, Space, Soft, Line, Hard}
use Rattle.luf_doc.specs.declared.doc.Remark.{Remark}
use Rattle.luf_draft.specs.Draft.{Border}
use Rattle.luf_draft.specs.Draft as draft
use Rattle.luf_style.specs.Filled.{Has, IsChance}
use Rattle.luf_style.specs.Filled as filled
use Rattle.luf_style.specs.inner.Chances.{noted_chance}

module _ (before after : List ℕ) (notes : List Remark) where
  not_empty_block : (border : Border) → (border ≡ draft.empty_block → ⊥) → (chance : Chance) → Has notes → IsChance before after notes border chance chance
  not_empty_block border other Tight has = filled.noted border other has
  not_empty_block border other Space has = filled.kept border Space (λ p. cc) (λ p. absurd (other p))
  not_empty_block border other Soft has = filled.kept border Soft (λ p. cc) (λ p. absurd (other p))
  not_empty_block border other Line has = filled.kept border Line (λ p. cc) (λ p. absurd (other p))
  not_empty_block border other Hard has = filled.kept border Hard (λ p. cc) (λ p. absurd (other p))

  -- with notes
  pub with_notes : (border : Border) (chance : Chance) → Has notes → IsChance before after notes border chance (noted_chance border chance)
  with_notes draft.inside chance has = not_empty_block draft.inside (λ p. cc) chance has
  with_notes draft.first_statement chance has = not_empty_block draft.first_statement (λ p. cc) chance has
  with_notes draft.later_statement chance has = not_empty_block draft.later_statement (λ p. cc) chance has
  with_notes draft.block_end chance has = not_empty_block draft.block_end (λ p. cc) chance has
  with_notes draft.empty_block chance has = filled.hard chance has

  pub noted_is : (border : Border) (chance found : Chance) → Has notes → found ≡ noted_chance border chance → IsChance before after notes border chance found
  noted_is border chance found has is = subst (λ c. IsChance before after notes border chance c) (sym is) (with_notes border chance has)

  -- a tight one without
  pub tight_between : (border : Border) (chance found : Chance) → notes ≡ [] → chance ≡ Tight → IsChance before after [] border Tight found → IsChance before after notes border chance found
  tight_between border chance found none tight is =
      subst (λ (ns : List Remark). IsChance before after ns border chance found) (sym none) (subst (λ c. IsChance before after [] border c found) (sym tight) is)

  -- any other without
  pub other_chance : (border : Border) (chance found : Chance) → notes ≡ [] → (chance ≡ Tight → ⊥) → found ≡ chance → IsChance before after notes border chance found
  other_chance border chance found none other is = subst (λ c. IsChance before after notes border chance c) (sym is) (filled.kept border chance other (λ p. none))
