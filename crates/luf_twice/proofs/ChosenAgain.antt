-- Which tokens of the text are dropped: the added words of the draft, as the layout has them.
use Rattle.std.proofs.Common.{◌≡◌, ℕ, ◌+◌, ◌<◌, ◌⊎◌, inl, inr, Bool, true, false, ◌||◌, cond, ne_eqb, eq-eqb, List, [], ◌∷◌, ◌++◌, length, refl, sym, ap, subst, ◌∙◌, append_assoc, arith}
use Rattle.std.proofs.lemmas.List.{length-append}
use Rattle.luf_bare.specs.Dropped.{if_dropped, dropped_block}
use Rattle.luf_bare.specs.ReadBack.{TextWord, is_added, additions}
use Rattle.luf_bare.specs.Significant.{is_among}
use Rattle.luf_conf.specs.declared.settings.Options.{Options}
use Rattle.luf_doc.specs.declared.doc.Gap.{Gap}
use Rattle.luf_doc.specs.declared.doc.Remark.{Remark}
use Rattle.luf_doc.specs.declared.page.Page.{Page}
use Rattle.luf_doc.specs.Document.{Document, Documents, text, between, trail}
use Rattle.luf_doc.specs.Flat.{forces, flat, all_lead}
use Rattle.luf_doc.specs.Layout.{Piece, word, Mode, outside, is_broken, must_break, is_begun, column_of, mode_of, lay, lay_all, lay_gap, pieces, comma}
use Rattle.luf_draft.specs.Draft.{Draft, Drafts}
use Rattle.luf_gaps.specs.Gaps.{is_short}
use Rattle.luf_gaps.specs.declared.notes.GapNotes.{GapNotes}
use Rattle.luf_style.specs.Filled.{IsFilled, AreFilled}
use Rattle.luf_style.specs.Filled as filled
use Rattle.luf_style.specs.Styled.{IsFormatted, choices_of}
use Rattle.luf_lex.specs.Tokens.{toks_of}
use Rattle.luf_quote.specs.Parens.{keeps_round_string, keeps_round_table}
use Rattle.luf_tree.specs.SyntaxOf.{syntax_of}
use Rattle.luf_kept.specs.inner.Marks.{Turns, MarksTrail, Marks, MarkAll}
use Rattle.luf_kept.proofs.KeptLaws.{text_words, back, draft_text}
use Rattle.luf_kept.proofs.SnugChunk.{chunk_steps}
use Rattle.luf_kept.proofs.LayWords.{took_trail, took, took_all, laid_marks}
use Rattle.luf_again.specs.Apart.{settles, IsApart, AreApart}
use Rattle.luf_again.specs.Reread.{reread, reread_all, reread_gap, reread_notes, reread_whole}
use Rattle.luf_again.specs.Shown.{shown}
use Rattle.luf_again.specs.Tells.{Sight, Told, untold, comment, and_notes, and_gap}
use Rattle.luf_again.proofs.DocumentShown.{worded, end_shown}
use Rattle.luf_again.proofs.GapShown.{is_worded, now, gap_shown}
use Rattle.luf_twice.specs.Ready.{HasWords, IsReady}
use Rattle.luf_twice.specs.Twice.{draft_of}
use Rattle.luf_twice.proofs.TwiceIsOnce.{styled_is_ready}
use Rattle.luf_twice.specs.Chooses.{tokens_told, Chooses, AllChoose}

-- ---- the added words of a text, by their places

skipped : (n place : ℕ) (b : Bool) (ds : List ℕ) → (n ≡ place → ⊥) → is_among n (if_dropped b place ds) ≡ is_among n ds
skipped n place true ds other = ap (λ (x : Bool). x || is_among n ds) (ne_eqb n place other)
skipped n place false ds other = refl

not_before : (n place : ℕ) (words : List TextWord) → n < place → is_among n (additions is_added place words) ≡ false
not_before n place [] less = refl
not_before n place (w ∷ words) less =
    skipped n place w.added (additions is_added (place + 1) words) (λ same. omega (arith, less, same)) ∙ not_before n (place + 1) words (omega (arith, less))

first_place : (n : ℕ) (b : Bool) (words : List TextWord) → is_among n (if_dropped b n (additions is_added (n + 1) words)) ≡ b
first_place n true words = ap (λ (x : Bool). x || is_among n (additions is_added (n + 1) words)) (eq-eqb n n refl)
first_place n false words = not_before n (n + 1) words (omega arith)

-- the place of a word is among them where it is added
place_of : (n place : ℕ) (front : List TextWord) (w : TextWord) (words : List TextWord) → place ≡ n + length front → is_among place (additions is_added n (front ++ (w ∷ words))) ≡ w.added
place_of n place [] w words at =
    let same : place ≡ n = omega (arith, at) in
    subst (λ m. is_among m (if_dropped w.added n (additions is_added (n + 1) words)) ≡ w.added) (sym same) (first_place n w.added words)
place_of n place (x ∷ front) w words at =
    let next : place ≡ n + 1 + length front = omega (arith, at) in
    skipped place n x.added (additions is_added (n + 1) (front ++ (w ∷ words))) (λ same. omega (arith, next, same)) ∙ place_of (n + 1) place front w words next

-- ---- the words of the text behind what was laid

told_notes : (notes : List Remark) (before : List Sight) → tokens_told (and_notes notes before) ≡ tokens_told before
told_notes [] before = refl
told_notes (note ∷ notes) before = told_notes notes (comment note ∷ before)

module _ (page : Page) (all : List TextWord) where
  abbrev dropped : List ℕ
  dropped = additions is_added 0 all

  -- These words stand behind the tokens that were laid.
  record Behind (words : List TextWord) (done : List Piece) : Type 0 where
    front : List TextWord
    same : all ≡ front ++ words
    counted : length front ≡ tokens_told (now is_short done).sights

  place_behind : {w : TextWord} {words : List TextWord} {done : List Piece} → Behind (w ∷ words) done → is_among (tokens_told (now is_short done).sights) dropped ≡ w.added
  place_behind {w} {words} {done} at =
      let counted = at.counted in
      subst (λ (l : List TextWord). is_among (tokens_told (now is_short done).sights) (additions is_added 0 l) ≡ w.added) (sym at.same)
      (place_of 0 (tokens_told (now is_short done).sights) at.front w words (omega (arith, counted)))

  one_behind : {w : TextWord} {words : List TextWord} {done : List Piece} (bytes : List ℕ) → Behind (w ∷ words) done → Behind words (word bytes ∷ done)
  one_behind {w} {words} bytes at = record {
    front = at.front ++ (w ∷ []);
    same = at.same ∙ sym (append_assoc at.front (w ∷ []) words);
    counted = let more : length (at.front ++ (w ∷ [])) ≡ length at.front + 1 = length-append at.front (w ∷ []) in
        let counted = at.counted in
        omega (arith, more, counted);
  }

  same_behind : {words : List TextWord} {done after : List Piece} → tokens_told (now is_short after).sights ≡ tokens_told (now is_short done).sights → Behind words done → Behind words after
  same_behind same at = record { front = at.front; same = at.same; counted = at.counted ∙ sym same }

  -- A part of the document is chosen so, and these words stand behind it.
  record Chosen (d : Document) (done after : List Piece) (was is : Bool) (words : List TextWord) : Type 0 where
    chosen : Chooses dropped d (now is_short done) (now is_short after) was is
    behind : Behind words after

  record AllChosen (ds : Documents) (done after : List Piece) (was is : Bool) (words : List TextWord) : Type 0 where
    chosen : AllChoose dropped ds (now is_short done) (now is_short after) was is
    behind : Behind words after

  turned : (place : ℕ) (added was is : Bool) → is_among place dropped ≡ added → Turns added was is
      → ((is_among place dropped ≡ true) × (is ≡ was)) ⊎ ((is_among place dropped ≡ false) × (was ≡ true) × (is ≡ false))
  turned place added was is here (inl turns) = inl (here ∙ turns.0, turns.1)
  turned place added was is here (inr turns) = inr (here ∙ turns.0, turns.1, turns.2)

  word_chosen : (bytes : List ℕ) (done : List Piece) (w : TextWord) (words more : List TextWord) (was is : Bool) → words ≡ w ∷ more → Turns w.added was is → Behind words done
      → Chosen (text bytes) done (word bytes ∷ done) was is more
  word_chosen bytes done w words more was is same turns at =
      let here : Behind (w ∷ more) done = subst (λ (l : List TextWord). Behind l done) same at in
      record { chosen = (refl, turned (tokens_told (now is_short done).sights) w.added was is (place_behind here) turns); behind = one_behind bytes here }

  gap_chosen : (gap : Gap) (mode : Mode) (level : ℕ) (done : List Piece) (words more : List TextWord) (was is : Bool) → (words ≡ more) × (was ≡ false) × (is ≡ true)
      → now is_short (lay_gap gap mode level gap.notes done) ≡ and_gap (reread_gap is_short gap (must_break gap.chance mode) (is_begun done)) (now is_short done) → Behind words done
      → Chosen (between (reread_gap is_short gap (must_break gap.chance mode) (is_begun done))) done (lay_gap gap mode level gap.notes done) was is more
  gap_chosen gap mode level done words more was is marks shows at = record {
    chosen = (shows, marks.1, marks.2);
    behind = same_behind (ap (λ (t : Told). tokens_told t.sights) shows ∙ told_notes (reread_notes is_short (must_break gap.chance mode) (is_begun done) false false gap.notes) (now is_short done).sights)
        (subst (λ (l : List TextWord). Behind l done) marks.0 at);
  }

  trail_chosen : (done : List Piece) (rest : List (List ℕ)) (v : Bool) (words more : List TextWord) (was is : Bool)
      → MarksTrail (took_trail done rest v).0 rest (took_trail done rest v).2 words more × (is ≡ was) → Behind words done
      → Chosen trail done (cond v (word comma ∷ done) done) was is more
  trail_chosen done rest true words more was is marks at =
      let here : Behind (marks.0.0 ∷ more) done = subst (λ (l : List TextWord). Behind l done) marks.0.1 at in
      record { chosen = (marks.1, inr (refl, place_behind here ∙ marks.0.3)); behind = one_behind comma here }
  trail_chosen done rest false words more was is marks at = record { chosen = (marks.1, inl refl); behind = subst (λ (l : List TextWord). Behind l done) marks.0 at }

  mutual
    unfolding took

    part_chosen : (s : Bool) (mode : Mode) (level lead : ℕ) (done : List Piece) (rest : List (List ℕ)) {before after : List ℕ} {d : Draft} {gaps left : List GapNotes} {doc : Document}
        → (fills : IsFilled before after d gaps left doc) → IsApart s doc → (s ≡ true → is_worded done ≡ true) → (words more : List TextWord) (was is : Bool)
        → Marks d (took page mode level lead done rest fills).0 rest (took page mode level lead done rest fills).2 words more was is → Behind words done
        → Chosen (reread is_short page mode level lead doc done) done (lay page mode level lead doc done) was is more
    part_chosen s mode level lead done rest (filled.word before after bytes gaps) apart settled words more was is marks at = word_chosen bytes done marks.0 words more was is marks.1 marks.3 at
    part_chosen s mode level lead done rest (filled.opening before after opening notes gaps gap fills) apart settled words more was is marks at =
        gap_chosen gap mode level done words more was is marks (gap_shown is_short gap mode level gap.notes done apart.1 (settled apart.0)) at
    part_chosen s mode level lead done rest (filled.trail before after gaps) apart settled words more was is marks at = trail_chosen done rest (is_broken mode) words more was is marks at
    part_chosen s mode level lead done rest (filled.nest before after inner gaps left d fills) apart settled words more was is marks at =
        let one = part_chosen s mode (level + 1) lead done rest fills apart settled words more was is marks at in
        record { chosen = one.chosen; behind = one.behind }
    part_chosen s mode level lead done rest (filled.group before after inner gaps left d fills) apart settled words more was is marks at =
        let one = part_chosen s (mode_of page mode (forces d) (column_of page done + flat d lead)) level lead done rest fills apart settled words more was is marks at in
        record { chosen = one.chosen; behind = one.behind }
    part_chosen s mode level lead done rest (filled.sequence before after items gaps left ds fills) apart settled words more was is marks at =
        let one = all_chosen s mode level lead done rest fills apart settled words more was is marks at in
        record { chosen = one.chosen; behind = one.behind }

    all_chosen : (s : Bool) (mode : Mode) (level lead : ℕ) (done : List Piece) (rest : List (List ℕ)) {before after : List ℕ} {items : Drafts} {gaps left : List GapNotes} {docs : Documents}
        → (fills : AreFilled before after items gaps left docs) → AreApart s docs → (s ≡ true → is_worded done ≡ true) → (words more : List TextWord) (was is : Bool)
        → MarkAll items (took_all page mode level lead done rest fills).0 rest (took_all page mode level lead done rest fills).2 words more was is → Behind words done
        → AllChosen (reread_all is_short page mode level lead docs done) done (lay_all page mode level lead docs done) was is more
    all_chosen s mode level lead done rest (filled.nothing before after gaps) apart settled words more was is marks at =
        record { chosen = (refl, marks.1); behind = subst (λ (l : List TextWord). Behind l done) marks.0 at }
    all_chosen s mode level lead done rest (filled.also before after first items gaps mid left d ds fills are) apart settled words more was is marks at =
        let middle : List Piece = lay page mode level (all_lead ds lead) d done in
        let one = part_chosen s mode level (all_lead ds lead) done (took_all page mode level lead middle rest are).0 fills apart.0 settled words marks.0 was marks.1 marks.2 at in
        let others = all_chosen (settles s d) mode level lead middle rest are apart.1 (worded page s mode level (all_lead ds lead) d done apart.0 settled) marks.0 more marks.1 is marks.3 one.behind in
        record { chosen = (now is_short middle, marks.1, one.chosen, others.chosen); behind = others.behind }

-- ---- the whole text

module _ (o : Options) (source text : List ℕ) (f : IsFormatted (choices_of o) source text) where
  abbrev here : List TextWord
  here = text_words o source text f

  abbrev IsChosen : Type 0
  IsChosen = Chooses (dropped_block (syntax_of (back o source text f).read.tree) []) (reread_whole is_short (choices_of o).page f.document) untold (shown is_short (pieces (choices_of o).page f.document)) false true

  chosen_where : IsReady f.document → IsChosen
  chosen_where ready =
      let page : Page = (choices_of o).page in
      let marks = laid_marks page f.styled.filled here false true (draft_text o source text f).marked in
      let found = part_chosen page here true outside 0 0 [] [] f.styled.filled ready.apart (λ _. refl) here [] false true marks (record { front = []; same = refl; counted = refl }) in
      subst (λ (ds : List ℕ). Chooses ds (reread_whole is_short page f.document) untold (shown is_short (pieces page f.document)) false true) (sym (back o source text f).read.drops)
      (subst (λ (to : Told). Chooses (additions is_added 0 here) (reread_whole is_short page f.document) untold to false true) (end_shown is_short page f.document ready.apart ready.closed) found.chosen)

  -- what the tree of the text drops is what the document chooses
  pub chosen_again : HasWords (draft_of (choices_of o) f.styled.written f.chunk) → IsChosen
  chosen_again has =
      chosen_where (styled_is_ready (choices_of o) source f.pieces f.chunk f.document f.cut f.styled
      (chunk_steps (toks_of f.pieces) f.chunk f.tree f.styled.written (keeps_round_string o.calls) (keeps_round_table o.calls)) has)
