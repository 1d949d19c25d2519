-- Drafts that step from one place to another, one after another.
use Rattle.std.proofs.Common.{◌≡◌, ◌≢◌, ℕ, Bool, true, false, Option, None, List, codes, bytes_eq, refl, sym, subst}
use Rattle.std.proofs.lemmas.Bool.{false≢true}
use Rattle.std.proofs.lemmas.Slice.Eq.{bytes_eq-Decides}
use Rattle.luf_doc.specs.declared.doc.Chance.{Chance}
use Rattle.luf_doc.specs.declared.doc.Chance.TheVariants.{Soft}
use Rattle.luf_doc.specs.declared.doc.Chance.TheVariants as chance_is
use Rattle.luf_draft.specs.Draft.{Draft, Drafts, Opening, word, opening, trail, nest, group, sequence, nothing, also, drafts, soft, soft_end, line, line_end}
use Rattle.luf_draft.specs.Form.{first_word, first_word_of, opens}
use Rattle.luf_kept.specs.inner.Steps.{Place, begun, free, closing, behind, trailed, Word, any, closes, comma, ends, Gap, apart, opened, Steps, a_word, a_gap, a_trail, a_nest, a_group, a_sequence, AllStep, none, some}
use Rattle.luf_kept.specs.inner.Steps as step

abbrev pub may_vanish : Chance → Bool
may_vanish Soft = true
may_vanish _ = false

stays : (c : Chance) → may_vanish c ≡ false → c ≢ Soft
stays Soft h e = false≢true (sym h)
stays chance_is.Tight h e = cc
stays chance_is.Space h e = cc
stays chance_is.Line h e = cc
stays chance_is.Hard h e = cc

-- where drafts are to end: behind some word, or at this place
pub data Goal : Type 0 where
  at_word : Goal
  exactly : (place : Place) → Goal

pub data Meets : Goal → Place → Type 0 where
  some_word : (bytes : List ℕ) → Meets at_word (behind bytes)
  there : (place : Place) → Meets (exactly place) place

pub record Runs (items : Drafts) (from : Place) (goal : Goal) : Type 0 where
  pub to : Place
  pub meets : Meets goal to
  pub steps : AllStep items from to

-- behind whatever word
pub record Follows (items : Drafts) (goal : Goal) : Type 0 where
  pub behind_each : (before : List ℕ) → Runs items (behind before) goal

-- one draft, from where every word may stand to some word
pub record Whole (d : Draft) : Type 0 where
  pub last : List ℕ
  pub steps : Steps d free (behind last)

-- a form that is put before the drafts that follow it: it begins behind a word, or where every word may stand
abbrev pub Leads : (List Draft → List Draft) → Type 0
Leads form = (more : List Draft) (goal : Goal) → Follows (drafts more) goal → Follows (drafts (form more)) goal

abbrev pub Starts : (List Draft → List Draft) → Type 0
Starts form = (more : List Draft) (goal : Goal) → Follows (drafts more) goal → Runs (drafts (form more)) free goal

-- a form that ends where every word may stand
abbrev pub Encloses : (List Draft → List Draft) → Type 0
Encloses form = (more : List Draft) (goal : Goal) → Runs (drafts more) free goal → Follows (drafts (form more)) goal

-- ---- one more draft

pub then : {d : Draft} {rest : Drafts} {from mid : Place} {goal : Goal} → Steps d from mid → Runs rest mid goal → Runs (also d rest) from goal
then one rest = record { to = rest.to; meets = rest.meets; steps = some one rest.steps }

pub stops : Follows nothing at_word
stops = record { behind_each = λ before. record { to = behind before; meets = some_word before; steps = none } }

pub stops_at : {place : Place} → Runs nothing place (exactly place)
stops_at {place} = record { to = place; meets = there place; steps = none }

pub gap : {g : Opening} {rest : Drafts} {goal : Goal} → may_vanish g.chance ≡ false → Runs rest free goal → Follows (also (opening g) rest) goal
gap {g} h rest = record { behind_each = λ before. then (a_gap (apart before g.chance (stays g.chance h))) rest }

pub text : {bytes : List ℕ} {rest : Drafts} {goal : Goal} → Follows rest goal → Runs (also (word bytes) rest) free goal
text {bytes} rest = then (a_word (any bytes)) (rest.behind_each bytes)

pub part : {d : Draft} {rest : Drafts} {goal : Goal} → Whole d → Follows rest goal → Runs (also d rest) free goal
part d rest = then d.steps (rest.behind_each d.last)

pub comma_next : {rest : Drafts} {goal : Goal} → Follows rest goal → Follows (also (word (codes ",")) rest) goal
comma_next rest = record { behind_each = λ before. then (a_word (comma before)) (rest.behind_each (codes ",")) }

pub open_next : {rest : Drafts} {goal : Goal} → Follows rest goal → Follows (also (word (codes "(")) rest) goal
open_next rest = record { behind_each = λ before. then (a_word (step.opens before)) (rest.behind_each (codes "(")) }

pub close_next : {rest : Drafts} {goal : Goal} → Follows rest goal → Follows (also (word (codes ")")) rest) goal
close_next rest = record { behind_each = λ before. then (a_word (ends before)) (rest.behind_each (codes ")")) }

pub trails : Follows (also trail nothing) (exactly trailed)
trails = record { behind_each = λ before. then a_trail stops_at }

-- ---- drafts that hold others

whole_run : {items : Drafts} {from to : Place} → Meets at_word to → AllStep items from to → (last : List ℕ) × AllStep items from (behind last)
whole_run (some_word bytes) steps = (bytes, steps)

nested_run : {items rest : Drafts} {from to : Place} {goal : Goal} → Meets at_word to → AllStep items from to → Follows rest goal → Runs (also (nest (sequence items)) rest) from goal
nested_run (some_word bytes) steps rest = then (a_nest (a_sequence steps)) (rest.behind_each bytes)

trailed_run : {items rest : Drafts} {from to : Place} {goal : Goal} → Meets (exactly trailed) to → AllStep items from to → Runs rest trailed goal → Runs (also (nest (sequence items)) rest) from goal
trailed_run (there _) steps rest = then (a_nest (a_sequence steps)) rest

pub whole_word : (bytes : List ℕ) → Whole (word bytes)
whole_word bytes = record { last = bytes; steps = a_word (any bytes) }

pub whole : {items : Drafts} → Runs items free at_word → Whole (sequence items)
whole run = let last = whole_run run.meets run.steps in record { last = last.0; steps = a_sequence last.1 }

pub whole_group : {d : Draft} → Whole d → Whole (group d)
whole_group d = record { last = d.last; steps = a_group d.steps }

-- what is one level deeper
pub nested : {items rest : Drafts} {goal : Goal} → Follows items at_word → Follows rest goal → Follows (also (nest (sequence items)) rest) goal
nested inner rest = record { behind_each = λ before. let run = inner.behind_each before in nested_run run.meets run.steps rest }

-- a group in parentheses, whose gaps inside may be nothing
pub parenthesised : {items : Drafts} → Runs items free at_word
    → Whole (group (sequence (also (word (codes "(")) (also (nest (sequence (also soft items))) (also soft_end (also (word (codes ")")) nothing))))))
parenthesised {items} inner = whole_group (whole (then (a_word (any (codes "("))) (closed (then (a_gap opened) inner))))
  where
    closed : Runs (also soft items) (behind (codes "(")) at_word → Runs (also (nest (sequence (also soft items))) (also soft_end (also (word (codes ")")) nothing))) (behind (codes "(")) at_word
    closed run = nested_run run.meets run.steps (record { behind_each = λ before. then (a_gap (step.soft before)) (then (a_word closes) (stops.behind_each (codes ")"))) })

-- a group in braces, which ends with a trail
pub braced : {items : Drafts} → Runs items free (exactly trailed)
    → Whole (group (sequence (also (word (codes "{")) (also (nest (sequence (also line items))) (also line_end (also (word (codes "}")) nothing))))))
braced {items} inner = whole_group (whole (then (a_word (any (codes "{"))) (closed (then (a_gap (apart (codes "{") chance_is.Line (stays chance_is.Line refl))) inner))))
  where
    closed : Runs (also line items) (behind (codes "{")) (exactly trailed) → Runs (also (nest (sequence (also line items))) (also line_end (also (word (codes "}")) nothing))) (behind (codes "{")) at_word
    closed run = trailed_run run.meets run.steps (then (a_gap step.line) (text stops))

-- ---- the first gap of all

begun_run : {g : Opening} {items : Drafts} {to : Place} → may_vanish g.chance ≡ false → Meets (exactly free) to → AllStep items free to → Steps (sequence (also (opening g) items)) begun free
begun_run {g} h (there _) steps = a_sequence (some (a_gap (step.first g.chance (stays g.chance h))) steps)

pub begins : {g : Opening} {items : Drafts} → may_vanish g.chance ≡ false → Runs items free (exactly free) → Steps (sequence (also (opening g) items)) begun free
begins h run = begun_run h run.meets run.steps

pub begins_alone : {g : Opening} → may_vanish g.chance ≡ false → Steps (opening g) begun free
begins_alone {g} h = a_gap (step.first g.chance (stays g.chance h))

-- ---- what begins with a `(` stands behind whatever word

no_gap : {c : Chance} {from to : Place} → Gap from c to → from ≡ free → ⊥
no_gap (step.first _ _) e = cc
no_gap (apart _ _ _) e = cc
no_gap opened e = cc
no_gap (step.soft _) e = cc
no_gap step.line e = cc

-- it has a text, or has none and what comes next begins so
pub data Moved (d : Draft) (other : Option (List ℕ)) (before : List ℕ) : Place → Type 0 where
  with_text : {to : Place} → Steps d (behind before) to → Moved d other before to
  without : Steps d (behind before) (behind before) → opens other ≡ true → Moved d other before free

pub data AllMoved (ds : Drafts) (other : Option (List ℕ)) (before : List ℕ) : Place → Type 0 where
  with_texts : {to : Place} → AllStep ds (behind before) to → AllMoved ds other before to
  without_any : AllStep ds (behind before) (behind before) → opens other ≡ true → AllMoved ds other before free

move_word : (bytes : List ℕ) (other : Option (List ℕ)) (before : List ℕ) → bytes_eq bytes (codes "(") ≡ true → Moved (word bytes) other before (behind bytes)
move_word bytes other before h = with_text (subst (λ b. Steps (word b) (behind before) (behind b)) (sym ((bytes_eq-Decides bytes (codes "(")).0 h)) (a_word (step.opens before)))

move_nest : {inner : Draft} {other : Option (List ℕ)} {before : List ℕ} {to : Place} → Moved inner other before to → Moved (nest inner) other before to
move_nest (with_text steps) = with_text (a_nest steps)
move_nest (without steps h) = without (a_nest steps) h

move_group : {inner : Draft} {other : Option (List ℕ)} {before : List ℕ} {to : Place} → Moved inner other before to → Moved (group inner) other before to
move_group (with_text steps) = with_text (a_group steps)
move_group (without steps h) = without (a_group steps) h

move_sequence : {items : Drafts} {other : Option (List ℕ)} {before : List ℕ} {to : Place} → AllMoved items other before to → Moved (sequence items) other before to
move_sequence (with_texts steps) = with_text (a_sequence steps)
move_sequence (without_any steps h) = without (a_sequence steps) h

-- the rest, where the first has no text
move_rest : {first : Draft} {rest : Drafts} {other : Option (List ℕ)} {before : List ℕ} {to : Place} → Steps first (behind before) (behind before) → AllMoved rest other before to → AllMoved (also first rest) other before to
move_rest one (with_texts steps) = with_texts (some one steps)
move_rest one (without_any steps h) = without_any (some one steps) h

move_both : {first : Draft} {rest : Drafts} {other : Option (List ℕ)} {before : List ℕ} {mid to : Place} → Moved first (first_word_of rest other) before mid → AllStep rest mid to
    → (mid ≡ free → opens (first_word_of rest other) ≡ true → AllMoved rest other before to) → AllMoved (also first rest) other before to
move_both (with_text one) steps later = with_texts (some one steps)
move_both (without one h) steps later = move_rest one (later refl h)

mutual
  move : (d : Draft) (other : Option (List ℕ)) (before : List ℕ) {from to : Place} → Steps d from to → from ≡ free → opens (first_word d other) ≡ true → Moved d other before to
  move (word bytes) other before (a_word _) at h = move_word bytes other before h
  move (opening g) other before (a_gap step) at h = absurd (no_gap step at)
  move trail other before a_trail at h = absurd cc
  move (nest inner) other before (a_nest steps) at h = move_nest (move inner other before steps at h)
  move (group inner) other before (a_group steps) at h = move_group (move inner other before steps at h)
  move (sequence items) other before (a_sequence steps) at h = move_sequence (move_all items other before steps at h)

  move_all : (ds : Drafts) (other : Option (List ℕ)) (before : List ℕ) {from to : Place} → AllStep ds from to → from ≡ free → opens (first_word_of ds other) ≡ true → AllMoved ds other before to
  move_all nothing other before none at h = subst (AllMoved nothing other before) (sym at) (without_any none h)
  move_all (also first rest) other before (some {mid} one steps) at h = move_both (move first (first_word_of rest other) before one at h) steps (λ is more. move_all rest other before steps is more)

guard_from : {d : Draft} {before last : List ℕ} {to : Place} → Moved d None before to → to ≡ behind last → Steps d (behind before) (behind last)
guard_from {d} {before} (with_text steps) is = subst (Steps d (behind before)) is steps
guard_from (without steps h) is = absurd (false≢true h)

-- a draft behind a word that is to stand before what begins with a `(`
pub behind_guard : {d : Draft} {rest : Drafts} {goal : Goal} → Whole d → opens (first_word d None) ≡ true → Follows rest goal → Follows (also d rest) goal
behind_guard {d} one h rest = record { behind_each = λ before. then (guard_from (move d None before one.steps refl h) refl) (rest.behind_each one.last) }
