-- How words and gaps follow each other in a draft: without a gap between, only a `(`, a `)` or a `,` follows a word; no gap
-- follows a gap; and a gap that may be nothing stands behind a `(` or before a `)`.
use Rattle.std.specs.Prelude.{◌≢◌, ℕ, List, codes}
use Rattle.luf_doc.specs.declared.doc.Chance.{Chance}
use Rattle.luf_doc.specs.declared.doc.Chance.TheVariants.{Soft, Line}
use Rattle.luf_draft.specs.Draft.{Draft, Drafts, Opening, word, opening, trail, nest, group, sequence, nothing, also}

-- What stands before a place: nothing; a gap behind which every word may stand, or a `)` alone; this word; or a trail.
pub data Place : Type 0 where
  begun : Place
  free : Place
  closing : Place
  behind : (bytes : List ℕ) → Place
  trailed : Place

pub data Word : Place → List ℕ → Type 0 where
  any : (bytes : List ℕ) → Word free bytes
  closes : Word closing (codes ")")
  comma : (before : List ℕ) → Word (behind before) (codes ",")
  opens : (before : List ℕ) → Word (behind before) (codes "(")
  ends : (before : List ℕ) → Word (behind before) (codes ")")

pub data Gap : Place → Chance → Place → Type 0 where
  first : (chance : Chance) → chance ≢ Soft → Gap begun chance free
  apart : (before : List ℕ) (chance : Chance) → chance ≢ Soft → Gap (behind before) chance free
  opened : Gap (behind (codes "(")) Soft free
  soft : (before : List ℕ) → Gap (behind before) Soft closing
  line : Gap trailed Line free

mutual
  pub data Steps : Draft → Place → Place → Type 0 where
    a_word : {bytes : List ℕ} {from : Place} → Word from bytes → Steps (word bytes) from (behind bytes)
    a_gap : {gap : Opening} {from to : Place} → Gap from gap.chance to → Steps (opening gap) from to
    a_trail : {before : List ℕ} → Steps trail (behind before) trailed
    a_nest : {inner : Draft} {from to : Place} → Steps inner from to → Steps (nest inner) from to
    a_group : {inner : Draft} {from to : Place} → Steps inner from to → Steps (group inner) from to
    a_sequence : {items : Drafts} {from to : Place} → AllStep items from to → Steps (sequence items) from to

  pub data AllStep : Drafts → Place → Place → Type 0 where
    none : {at : Place} → AllStep nothing at at
    some : {first : Draft} {rest : Drafts} {from mid to : Place} → Steps first from mid → AllStep rest mid to → AllStep (also first rest) from to
