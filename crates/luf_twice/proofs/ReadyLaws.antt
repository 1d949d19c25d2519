-- A draft that is filled with the gaps of a source is ready.
use Rattle.std.proofs.Common.{◌≡◌, ℕ, Bool, true, false, ◌||◌, List, [], refl, sym, ap, ◌∙◌, subst}
use Rattle.std.proofs.lemmas.Bool.{false≢true}
use Rattle.luf_doc.specs.declared.doc.Chance.{Chance}
use Rattle.luf_doc.specs.declared.doc.Chance.TheVariants.{Tight, Hard}
use Rattle.luf_doc.specs.declared.doc.Gap.{Gap}
use Rattle.luf_doc.specs.declared.doc.Remark.{Remark}
use Rattle.luf_doc.specs.Document.{Document, Documents}
use Rattle.luf_doc.specs.Document as document
use Rattle.luf_draft.specs.Draft.{Draft, Drafts, Border, Opening, word, opening, trail, nest, group, sequence, nothing, also}
use Rattle.luf_gaps.specs.Gaps.{is_short, gaps}
use Rattle.luf_gaps.specs.declared.notes.GapNotes.{GapNotes}
use Rattle.luf_style.specs.Filled.{IsFilled, AreFilled, IsGap, IsChance, first_of_all, last_text, bordered}
use Rattle.luf_style.specs.Filled as filled
use Rattle.luf_kept.specs.inner.AreNotes.{AreNotes, AllNotes}
use Rattle.luf_kept.specs.inner.Steps.{Place, Steps, AllStep, begun, free, closing, behind, trailed}
use Rattle.luf_kept.specs.inner.Steps as step
use Rattle.luf_kept.proofs.NotesOfGaps.{gaps_are_notes, bordered_notes}
use Rattle.luf_again.specs.Apart.{settles, all_settle, IsApart, AreApart, IsClosed, AreClosed, ends_last}
use Rattle.luf_again.specs.Formed.{writes, any_writes, IsFormed, AreFormed}
use Rattle.luf_twice.specs.Again.{AreTrimmed, IsTrimmed, AllTrimmed}
use Rattle.luf_twice.specs.Ready.{HasWords, AllHaveWords, OpensFirst, FirstIsOpening, EndsHard, LastEndsHard, DocumentIsReady}
use Rattle.luf_twice.proofs.NoteFacts.{have_bytes, short_end, AreEnded, gaps_are_ended, border_trimmed, border_last}

-- ---- places

-- a word was written before
abbrev written : Place → Bool
written begun = false
written free = false
written closing = false
written (behind bytes) = true
written trailed = true

-- nothing, a word or a trail stands last
abbrev rests : Place → Bool
rests begun = true
rests free = false
rests closing = false
rests (behind bytes) = true
rests trailed = true

abbrev is_start : Place → Bool
is_start begun = true
is_start free = false
is_start closing = false
is_start (behind bytes) = false
is_start trailed = false

gap_rests : (from to : Place) (chance : Chance) → step.Gap from chance to → rests from ≡ true
gap_rests _ _ _ (step.first chance not_soft) = refl
gap_rests _ _ _ (step.apart before chance not_soft) = refl
gap_rests _ _ _ step.opened = refl
gap_rests _ _ _ (step.soft before) = refl
gap_rests _ _ _ step.line = refl

gap_written : (from to : Place) (chance : Chance) → step.Gap from chance to → is_start from ≡ false → written from ≡ true
gap_written _ _ _ (step.first chance not_soft) is = absurd (false≢true (sym is))
gap_written _ _ _ (step.apart before chance not_soft) is = refl
gap_written _ _ _ step.opened is = refl
gap_written _ _ _ (step.soft before) is = refl
gap_written _ _ _ step.line is = refl

-- behind a gap nothing is known
record AfterGap (to : Place) : Type 0 where
  loose : rests to ≡ false
  bare : written to ≡ false
  on : is_start to ≡ false

after_gap : (from to : Place) (chance : Chance) → step.Gap from chance to → AfterGap to
after_gap _ _ _ (step.first chance not_soft) = record { loose = refl; bare = refl; on = refl }
after_gap _ _ _ (step.apart before chance not_soft) = record { loose = refl; bare = refl; on = refl }
after_gap _ _ _ step.opened = record { loose = refl; bare = refl; on = refl }
after_gap _ _ _ (step.soft before) = record { loose = refl; bare = refl; on = refl }
after_gap _ _ _ step.line = record { loose = refl; bare = refl; on = refl }

-- ---- the notes of a gap

-- what holds of the gaps of a source
abbrev AreKept : List GapNotes → Type 0
AreKept gaps = AllNotes gaps × AreEnded gaps

notes_of_it : (before after : List ℕ) (opening : Opening) (notes : GapNotes) (gap : Gap) → IsGap before after opening notes gap → AreNotes notes.notes → AreNotes gap.notes
notes_of_it before after o notes gap at are = subst AreNotes (sym at.notes_are) (bordered_notes o.border notes are)

-- the gaps that are left are kept too
mutual
  left_kept : (before after : List ℕ) (d : Draft) (gaps left : List GapNotes) (doc : Document) → IsFilled before after d gaps left doc → AreKept gaps → AreKept left
  left_kept before after _ had left _ (filled.word _ _ bytes _) kept = kept
  left_kept before after _ _ left _ (filled.opening _ _ o notes _ gap at) kept = (kept.0.1, kept.1.2)
  left_kept before after _ had left _ (filled.trail _ _ _) kept = kept
  left_kept before after _ had left _ (filled.nest _ _ inner _ _ d at) kept = left_kept before after inner had left d at kept
  left_kept before after _ had left _ (filled.group _ _ inner _ _ d at) kept = left_kept before after inner had left d at kept
  left_kept before after _ had left _ (filled.sequence _ _ items _ _ ds at) kept = all_left_kept before after items had left ds at kept

  all_left_kept : (before after : List ℕ) (items : Drafts) (gaps left : List GapNotes) (docs : Documents) → AreFilled before after items gaps left docs → AreKept gaps → AreKept left
  all_left_kept before after _ had left _ (filled.nothing _ _ _) kept = kept
  all_left_kept before after _ had left _ (filled.also _ _ first rest _ mid _ d ds at more) kept =
      all_left_kept (last_text first before) after rest mid left ds more (left_kept before (first_of_all rest after) first had mid d at kept)

-- ---- apart

record Apart (s : Bool) (to : Place) (d : Document) : Type 0 where
  is : IsApart s d
  settled : rests to ≡ true → settles s d ≡ true

record AllApart (s : Bool) (to : Place) (ds : Documents) : Type 0 where
  are : AreApart s ds
  settled : rests to ≡ true → all_settle s ds ≡ true

mutual
  apart : (before after : List ℕ) (d : Draft) (gaps left : List GapNotes) (doc : Document) (from to : Place) (s : Bool) → IsFilled before after d gaps left doc → Steps d from to → HasWords d → AreKept gaps
      → (rests from ≡ true → s ≡ true) → Apart s to doc
  apart before after _ had left _ from to s (filled.word _ _ bytes _) steps has kept was = record { is = has; settled = λ _. refl }
  apart before after _ _ left _ from to s (filled.opening _ _ gap notes _ g at) (step.a_gap can) has kept was = record {
    is = (was (gap_rests from to gap.chance can), have_bytes g.notes (notes_of_it before after gap notes g at kept.0.0));
    settled = λ h. absurd (false≢true (sym (after_gap from to gap.chance can).loose ∙ h));
  }
  apart before after _ had left _ _ _ s (filled.trail _ _ _) step.a_trail has kept was = record { is = tt; settled = λ _. was refl }
  apart before after _ had left _ from to s (filled.nest _ _ inner _ _ d at) (step.a_nest steps) has kept was =
      let inside = apart before after inner had left d from to s at steps has kept was in
      record { is = inside.is; settled = inside.settled }
  apart before after _ had left _ from to s (filled.group _ _ inner _ _ d at) (step.a_group steps) has kept was =
      let inside = apart before after inner had left d from to s at steps has kept was in
      record { is = inside.is; settled = inside.settled }
  apart before after _ had left _ from to s (filled.sequence _ _ items _ _ ds at) (step.a_sequence steps) has kept was =
      let inside = all_apart before after items had left ds from to s at steps has kept was in
      record { is = inside.are; settled = inside.settled }

  all_apart : (before after : List ℕ) (items : Drafts) (gaps left : List GapNotes) (docs : Documents) (from to : Place) (s : Bool) → AreFilled before after items gaps left docs → AllStep items from to → AllHaveWords items
      → AreKept gaps → (rests from ≡ true → s ≡ true) → AllApart s to docs
  all_apart before after _ had left _ _ _ s (filled.nothing _ _ _) step.none has kept was = record { are = tt; settled = was }
  all_apart before after _ had left _ from to s (filled.also _ _ first rest _ mid _ d ds at more) (step.some {mid = place} one others) has kept was =
      let front = apart before (first_of_all rest after) first had mid d from place s at one has.0 kept was in
      let back = all_apart (last_text first before) after rest mid left ds place to (settles s d) more others has.1 (left_kept before (first_of_all rest after) first had mid d at kept) front.settled in
      record { are = (front.is, back.are); settled = back.settled }

-- ---- formed

or_past : (a b c : Bool) → (b || (a || c)) ≡ true → ((a || b) || c) ≡ true
or_past true b c is = refl
or_past false b c is = is

record Formed (grouped was_begun : Bool) (to : Place) (d : Document) : Type 0 where
  is : IsFormed is_short grouped was_begun d
  begun_on : written to ≡ true → (writes d || was_begun) ≡ true
  on : is_start to ≡ false

record AllFormed (grouped was_begun : Bool) (to : Place) (ds : Documents) : Type 0 where
  are : AreFormed is_short grouped was_begun ds
  begun_on : written to ≡ true → (any_writes ds || was_begun) ≡ true
  on : is_start to ≡ false

mutual
  formed : (before after : List ℕ) (d : Draft) (gaps left : List GapNotes) (doc : Document) (from to : Place) (grouped was_begun : Bool) → IsFilled before after d gaps left doc → Steps d from to → HasWords d → AreKept gaps
      → is_start from ≡ false → (written from ≡ true → was_begun ≡ true) → Formed grouped was_begun to doc
  formed before after _ had left _ from _ grouped was_begun (filled.word _ _ bytes _) (step.a_word may) has kept on was = record { is = tt; begun_on = λ _. ap (λ (b : Bool). b || was_begun) has; on = refl }
  formed before after _ _ left _ from to grouped was_begun (filled.opening _ _ gap notes _ g at) (step.a_gap can) has kept on was = record {
    is = ((λ _. was (gap_written from to gap.chance can on)), short_end g.notes (notes_of_it before after gap notes g at kept.0.0));
    begun_on = λ h. absurd (false≢true (sym (after_gap from to gap.chance can).bare ∙ h));
    on = (after_gap from to gap.chance can).on;
  }
  formed before after _ had left _ _ _ grouped was_begun (filled.trail _ _ _) step.a_trail has kept on was = record { is = tt; begun_on = λ _. was refl; on = refl }
  formed before after _ had left _ from to grouped was_begun (filled.nest _ _ inner _ _ d at) (step.a_nest steps) has kept on was =
      let inside = formed before after inner had left d from to grouped was_begun at steps has kept on was in
      record { is = inside.is; begun_on = inside.begun_on; on = inside.on }
  formed before after _ had left _ from to grouped was_begun (filled.group _ _ inner _ _ d at) (step.a_group steps) has kept on was =
      let inside = formed before after inner had left d from to true was_begun at steps has kept on was in
      record { is = inside.is; begun_on = inside.begun_on; on = inside.on }
  formed before after _ had left _ from to grouped was_begun (filled.sequence _ _ items _ _ ds at) (step.a_sequence steps) has kept on was =
      let inside = all_formed before after items had left ds from to grouped was_begun at steps has kept on was in
      record { is = inside.are; begun_on = inside.begun_on; on = inside.on }

  all_formed : (before after : List ℕ) (items : Drafts) (gaps left : List GapNotes) (docs : Documents) (from to : Place) (grouped was_begun : Bool) → AreFilled before after items gaps left docs → AllStep items from to
      → AllHaveWords items → AreKept gaps → is_start from ≡ false → (written from ≡ true → was_begun ≡ true) → AllFormed grouped was_begun to docs
  all_formed before after _ had left _ _ _ grouped was_begun (filled.nothing _ _ _) step.none has kept on was = record { are = tt; begun_on = was; on = on }
  all_formed before after _ had left _ from to grouped was_begun (filled.also _ _ first rest _ mid _ d ds at more) (step.some {mid = place} one others) has kept on was =
      let front = formed before (first_of_all rest after) first had mid d from place grouped was_begun at one has.0 kept on was in
      let back = all_formed (last_text first before) after rest mid left ds place to grouped (writes d || was_begun) more others has.1 (left_kept before (first_of_all rest after) first had mid d at kept) front.on front.begun_on in
      record { are = (front.is, back.are); begun_on = λ h. or_past (writes d) (any_writes ds) was_begun (back.begun_on h); on = back.on }

-- ---- trimmed

mutual
  trimmed : (before after : List ℕ) (d : Draft) (gaps left : List GapNotes) (doc : Document) → IsFilled before after d gaps left doc → AreKept gaps → IsTrimmed doc
  trimmed before after _ had left _ (filled.word _ _ bytes _) kept = tt
  trimmed before after _ _ left _ (filled.opening _ _ o notes _ gap at) kept = subst AreTrimmed (sym at.notes_are) (border_trimmed o.border notes kept.1.0)
  trimmed before after _ had left _ (filled.trail _ _ _) kept = tt
  trimmed before after _ had left _ (filled.nest _ _ inner _ _ d at) kept = trimmed before after inner had left d at kept
  trimmed before after _ had left _ (filled.group _ _ inner _ _ d at) kept = trimmed before after inner had left d at kept
  trimmed before after _ had left _ (filled.sequence _ _ items _ _ ds at) kept = all_trimmed before after items had left ds at kept

  all_trimmed : (before after : List ℕ) (items : Drafts) (gaps left : List GapNotes) (docs : Documents) → AreFilled before after items gaps left docs → AreKept gaps → AllTrimmed docs
  all_trimmed before after _ had left _ (filled.nothing _ _ _) kept = tt
  all_trimmed before after _ had left _ (filled.also _ _ first rest _ mid _ d ds at more) kept =
      (trimmed before (first_of_all rest after) first had mid d at kept, all_trimmed (last_text first before) after rest mid left ds more (left_kept before (first_of_all rest after) first had mid d at kept))

-- ---- closed

hard_stays : (before after : List ℕ) (notes : List Remark) (border : Border) (chance result : Chance) → IsChance before after notes border chance result → chance ≡ Hard → result ≡ Hard
hard_stays before after notes _ _ _ (filled.apart border none stand) is = is
hard_stays before after notes _ _ _ (filled.spaced border none need) is = absurd (no_tight is)
  where
    is_tight : Chance → Bool
    is_tight Tight = true
    is_tight _ = false

    no_tight : Tight ≡ Hard → ⊥
    no_tight e = absurd (false≢true (sym (ap is_tight e)))
hard_stays before after notes _ _ _ (filled.noted border other some) is = is
hard_stays before after notes _ _ _ (filled.hard chance some) is = refl
hard_stays before after notes _ _ _ (filled.kept border chance not_tight none) is = is

one_more : (before after : List ℕ) (second : Draft) (rest : Drafts) (had left : List GapNotes) (d : Document) (docs : Documents) → AreFilled before after (also second rest) had left docs → AreClosed docs → AreClosed (document.also d docs)
one_more before after _ _ had left d _ (filled.also _ _ second rest _ mid _ e ds at more) is = is

mutual
  closed : (before after : List ℕ) (d : Draft) (gaps left : List GapNotes) (doc : Document) → IsFilled before after d gaps left doc → left ≡ [] → EndsHard d → AreKept gaps → IsClosed doc
  closed before after _ had left _ (filled.word _ _ bytes _) none ends kept = absurd ends
  closed before after _ _ left _ (filled.opening _ _ o notes _ gap at) none ends kept = (
    hard_stays before after notes.notes o.border o.chance gap.chance at.chance ends,
    ap ends_last at.notes_are ∙ border_last o.border notes ∙ kept.1.1 none,
  )
  closed before after _ had left _ (filled.trail _ _ _) none ends kept = absurd ends
  closed before after _ had left _ (filled.nest _ _ inner _ _ d at) none ends kept = closed before after inner had left d at none ends kept
  closed before after _ had left _ (filled.group _ _ inner _ _ d at) none ends kept = closed before after inner had left d at none ends kept
  closed before after _ had left _ (filled.sequence _ _ items _ _ ds at) none ends kept = all_closed before after items had left ds at none ends kept

  all_closed : (before after : List ℕ) (items : Drafts) (gaps left : List GapNotes) (docs : Documents) → AreFilled before after items gaps left docs → left ≡ [] → LastEndsHard items → AreKept gaps → AreClosed docs
  all_closed before after _ had left _ (filled.nothing _ _ _) none ends kept = absurd ends
  all_closed before after (also first nothing) had left _ (filled.also _ _ _ _ _ _ _ d _ at (filled.nothing _ _ _)) none ends kept = closed before after first had left d at none ends kept
  all_closed before after (also first (also second rest)) had left _ (filled.also _ _ _ _ _ mid _ d ds at more) none ends kept =
      one_more (last_text first before) after second rest mid left d ds more
      (all_closed (last_text first before) after (also second rest) mid left ds more none ends (left_kept before (first_of_all (also second rest) after) first had mid d at kept))

-- ---- the whole draft: its first gap stands in no group

all_first : (items : Drafts) (had left : List GapNotes) (ds : Documents) → AreFilled [] [] items had left ds → AllStep items begun free → FirstIsOpening items → AllHaveWords items → AreKept had → AreFormed is_short false false ds
all_first _ had left _ (filled.nothing _ _ _) steps first has kept = absurd first
all_first _ _ left _ (filled.also _ _ (opening gap) rest _ mid _ _ ds (filled.opening _ _ _ notes _ g at) more) (step.some {mid = place} (step.a_gap can) others) first has kept = (
  ((λ h. h), short_end g.notes (notes_of_it [] (first_of_all rest []) gap notes g at kept.0.0)),
  (all_formed (last_text (opening gap) []) [] rest mid left ds place free false (writes (document.between g) || false) more others has.1 (kept.0.1, kept.1.2)
      (after_gap begun place gap.chance can).on (λ h. absurd (false≢true (sym (after_gap begun place gap.chance can).bare ∙ h)))).are,
)
all_first _ had left _ (filled.also _ _ (word bytes) rest _ mid _ d ds at more) steps first has kept = absurd first
all_first _ had left _ (filled.also _ _ trail rest _ mid _ d ds at more) steps first has kept = absurd first
all_first _ had left _ (filled.also _ _ (nest inner) rest _ mid _ d ds at more) steps first has kept = absurd first
all_first _ had left _ (filled.also _ _ (group inner) rest _ mid _ d ds at more) steps first has kept = absurd first
all_first _ had left _ (filled.also _ _ (sequence items) rest _ mid _ d ds at more) steps first has kept = absurd first

whole_formed : (d : Draft) (gaps left : List GapNotes) (doc : Document) → IsFilled [] [] d gaps left doc → Steps d begun free → OpensFirst d → HasWords d → AreKept gaps → IsFormed is_short false false doc
whole_formed _ had left _ (filled.word _ _ bytes _) steps first has kept = absurd first
whole_formed _ _ left _ (filled.opening _ _ gap notes _ g at) steps first has kept = ((λ h. h), short_end g.notes (notes_of_it [] [] gap notes g at kept.0.0))
whole_formed _ had left _ (filled.trail _ _ _) steps first has kept = absurd first
whole_formed _ had left _ (filled.nest _ _ inner _ _ d at) steps first has kept = absurd first
whole_formed _ had left _ (filled.group _ _ inner _ _ d at) steps first has kept = absurd first
whole_formed _ had left _ (filled.sequence _ _ items _ _ ds at) (step.a_sequence steps) first has kept = all_first items had left ds at steps first has kept

pub document_is_ready : DocumentIsReady
document_is_ready source pieces dropped draft d cut steps first ends has at =
    let kept : AreKept (gaps source pieces dropped) = (gaps_are_notes source pieces dropped cut, gaps_are_ended source pieces dropped) in
    record {
      formed = whole_formed draft (gaps source pieces dropped) [] d at steps first has kept;
      apart = (apart [] [] draft (gaps source pieces dropped) [] d begun free true at steps has kept (λ _. refl)).is;
      closed = closed [] [] draft (gaps source pieces dropped) [] d at refl ends kept;
      trimmed = trimmed [] [] draft (gaps source pieces dropped) [] d at kept;
    }
