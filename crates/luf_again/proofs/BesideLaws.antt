-- The pieces of a layout stand side by side as they should.
use Rattle.std.proofs.Common.{◌≡◌, ℕ, ◌+◌, Bool, true, false, not, ◌&&◌, ◌||◌, cond, List, [], ◌∷◌, All, refl, sym, ap, ◌∙◌, subst, reverse}
use Rattle.std.proofs.lemmas.Bool.{false≢true}
use Rattle.std.proofs.lemmas.List.{reverse-reverse}
use Rattle.std.proofs.lemmas.List.Elements.{All-head, All-tail}
use Rattle.luf_doc.specs.declared.doc.Chance.{Chance}
use Rattle.luf_doc.specs.declared.doc.Chance.TheVariants.{Tight, Space, Soft, Line, Hard}
use Rattle.luf_doc.specs.declared.doc.Gap.{Gap}
use Rattle.luf_doc.specs.declared.doc.Remark.{Remark}
use Rattle.luf_doc.specs.declared.page.Page.{Page}
use Rattle.luf_doc.specs.Document.{Document, Documents, text, between, trail, nest, group, sequence, nothing, also}
use Rattle.luf_doc.specs.Flat.{forces, flat, all_lead}
use Rattle.luf_doc.specs.Layout.{Piece, word, note, space, line_end, empty_line, indentation, Mode, outside, is_broken, is_begun, has_bytes, column_of, spaced, broken, must_break, unbroken, next_break, lay_notes, lay_gap, mode_of, lay, lay_all, pieces, comma}
use Rattle.luf_again.specs.Formed.{ShortEnds, writes, IsFormed, AreFormed}
use Rattle.luf_again.specs.Apart.{HasBytes, settles, IsApart, AreApart}
use Rattle.luf_again.specs.Beside.{Beside, two_words, word_space, note_space, word_line_end, note_line_end, empty_line_next, line_indented, empty_line_indented, space_word, space_note, indented_word, indented_note, word_first, note_first, Fits, alone, behind, AllBeside, none, more}
use Rattle.luf_again.proofs.Truth.{or_at}
use Rattle.luf_again.proofs.FlagLaws.{next_ends}
use Rattle.luf_again.proofs.GapShown.{is_settled, is_worded, worded_settled}
use Rattle.luf_again.proofs.DocumentShown.{worded}

-- nothing, a space, an indentation or a word stands last, so that a word may follow
abbrev is_open : List Piece → Bool
is_open [] = true
is_open (word bytes ∷ done) = true
is_open (note bytes ∷ done) = false
is_open (space ∷ done) = true
is_open (line_end ∷ done) = false
is_open (empty_line ∷ done) = false
is_open (indentation level ∷ done) = true

-- nothing, a space or an indentation stands last, so that a note may follow
abbrev is_blank : List Piece → Bool
is_blank [] = true
is_blank (word bytes ∷ done) = false
is_blank (note bytes ∷ done) = false
is_blank (space ∷ done) = true
is_blank (line_end ∷ done) = false
is_blank (empty_line ∷ done) = false
is_blank (indentation level ∷ done) = true

-- a short note stands last
abbrev is_cut_off : (List ℕ → Bool) → List Piece → Bool
is_cut_off short [] = false
is_cut_off short (word bytes ∷ done) = false
is_cut_off short (note bytes ∷ done) = short bytes
is_cut_off short (space ∷ done) = false
is_cut_off short (line_end ∷ done) = false
is_cut_off short (empty_line ∷ done) = false
is_cut_off short (indentation level ∷ done) = false

blank_open : (done : List Piece) → is_blank done ≡ true → is_open done ≡ true
blank_open [] is = refl
blank_open (word bytes ∷ done) is = absurd (false≢true is)
blank_open (note bytes ∷ done) is = absurd (false≢true is)
blank_open (space ∷ done) is = refl
blank_open (line_end ∷ done) is = absurd (false≢true is)
blank_open (empty_line ∷ done) is = absurd (false≢true is)
blank_open (indentation level ∷ done) is = refl

worded_open : (done : List Piece) → is_worded done ≡ true → is_open done ≡ true
worded_open [] is = refl
worded_open (word bytes ∷ done) is = refl
worded_open (note bytes ∷ done) is = absurd (false≢true is)
worded_open (space ∷ done) is = absurd (false≢true is)
worded_open (line_end ∷ done) is = absurd (false≢true is)
worded_open (empty_line ∷ done) is = absurd (false≢true is)
worded_open (indentation level ∷ done) is = absurd (false≢true is)

worded_free : (short : List ℕ → Bool) (done : List Piece) → is_worded done ≡ true → is_cut_off short done ≡ false
worded_free short [] is = refl
worded_free short (word bytes ∷ done) is = refl
worded_free short (note bytes ∷ done) is = absurd (false≢true is)
worded_free short (space ∷ done) is = absurd (false≢true is)
worded_free short (line_end ∷ done) is = absurd (false≢true is)
worded_free short (empty_line ∷ done) is = absurd (false≢true is)
worded_free short (indentation level ∷ done) is = absurd (false≢true is)

module _ (short : List ℕ → Bool) where
  word_fits : (bytes : List ℕ) (done : List Piece) → is_open done ≡ true → Fits short (word bytes) done
  word_fits bytes [] is = alone (word bytes) (word_first bytes)
  word_fits bytes (word other ∷ done) is = behind (word other) (word bytes) done (two_words other bytes)
  word_fits bytes (note other ∷ done) is = absurd (false≢true is)
  word_fits bytes (space ∷ done) is = behind space (word bytes) done (space_word bytes)
  word_fits bytes (line_end ∷ done) is = absurd (false≢true is)
  word_fits bytes (empty_line ∷ done) is = absurd (false≢true is)
  word_fits bytes (indentation level ∷ done) is = behind (indentation level) (word bytes) done (indented_word level bytes)

  note_fits : (bytes : List ℕ) (done : List Piece) → is_blank done ≡ true → Fits short (note bytes) done
  note_fits bytes [] is = alone (note bytes) (note_first bytes)
  note_fits bytes (word other ∷ done) is = absurd (false≢true is)
  note_fits bytes (note other ∷ done) is = absurd (false≢true is)
  note_fits bytes (space ∷ done) is = behind space (note bytes) done (space_note bytes)
  note_fits bytes (line_end ∷ done) is = absurd (false≢true is)
  note_fits bytes (empty_line ∷ done) is = absurd (false≢true is)
  note_fits bytes (indentation level ∷ done) is = behind (indentation level) (note bytes) done (indented_note level bytes)

  -- ---- a break or a space behind what is settled

  -- pieces that stand as they should, and behind which a note may follow
  record Ready (done : List Piece) : Type 0 where
    neat : AllBeside short done
    ready : is_blank done ≡ true

  put_behind : (level : ℕ) (b blank : Bool) (p : Piece) (done : List Piece) → Beside short p line_end → (b ≡ false → Beside short p space) → is_begun (p ∷ done) ≡ true → AllBeside short (p ∷ done)
      → Ready (cond b (broken level blank (p ∷ done)) (spaced (p ∷ done)))
  put_behind level b blank p done ended spaces begun neat = by b (is_begun (p ∷ done)) blank begun spaces
    where
      line : AllBeside short (line_end ∷ p ∷ done)
      line = more line_end (p ∷ done) (behind p line_end done ended) tt neat

      by : (b g x : Bool) → g ≡ true → (b ≡ false → Beside short p space)
          → Ready (cond b (cond g (indentation level ∷ cond x (empty_line ∷ line_end ∷ p ∷ done) (line_end ∷ p ∷ done)) (p ∷ done)) (cond g (space ∷ p ∷ done) (p ∷ done)))
      by true true true at spaces = record {
        neat = more (indentation level) (empty_line ∷ line_end ∷ p ∷ done) (behind empty_line (indentation level) (line_end ∷ p ∷ done) (empty_line_indented level)) tt
            (more empty_line (line_end ∷ p ∷ done) (behind line_end empty_line (p ∷ done) empty_line_next) tt line);
        ready = refl;
      }
      by true true false at spaces = record { neat = more (indentation level) (line_end ∷ p ∷ done) (behind line_end (indentation level) (p ∷ done) (line_indented level)) tt line; ready = refl }
      by false true x at spaces = record { neat = more space (p ∷ done) (behind p space done (spaces refl)) tt neat; ready = refl }
      by b false x at spaces = absurd (false≢true at)

  put_ready : (level : ℕ) (b blank : Bool) (done : List Piece) → is_settled done ≡ true → (b ≡ false → is_cut_off short done ≡ false) → AllBeside short done
      → Ready (cond b (broken level blank done) (spaced done))
  put_ready level true blank [] settled free neat = record { neat = none; ready = refl }
  put_ready level false blank [] settled free neat = record { neat = none; ready = refl }
  put_ready level b blank (word bytes ∷ done) settled free neat =
      put_behind level b blank (word bytes) done (word_line_end bytes) (λ _. word_space bytes) (or_at (has_bytes bytes) (is_begun done) settled) neat
  put_ready level b blank (note bytes ∷ done) settled free neat =
      put_behind level b blank (note bytes) done (note_line_end bytes) (λ is. note_space bytes (free is)) (or_at (has_bytes bytes) (is_begun done) settled) neat
  put_ready level b blank (space ∷ done) settled free neat = absurd (false≢true settled)
  put_ready level b blank (line_end ∷ done) settled free neat = absurd (false≢true settled)
  put_ready level b blank (empty_line ∷ done) settled free neat = absurd (false≢true settled)
  put_ready level b blank (indentation n ∷ done) settled free neat = absurd (false≢true settled)

  -- ---- a gap

  -- a short note ends its line, so that a break follows
  short_breaks : (m h s e : Bool) (notes : List Remark) → (s ≡ true → e ≡ true) → next_break m h e notes ≡ false → s ≡ false
  short_breaks m h true e notes ends is = absurd (false≢true (sym is ∙ ap (λ (x : Bool). next_break m h x notes) (ends refl) ∙ next_ends m h notes))
  short_breaks m h false e notes ends is = refl

  notes_ready : (gap : Gap) (level : ℕ) (m h e : Bool) (notes : List Remark) (done : List Piece) → All HasBytes notes → All (ShortEnds short) notes → is_settled done ≡ true
      → (next_break m h e notes ≡ false → is_cut_off short done ≡ false) → AllBeside short done → Ready (lay_notes gap level m h e notes done)
  notes_ready gap level m h e [] done has ends settled free neat = put_ready level (e || (m && not h)) gap.blank done settled free neat
  notes_ready gap level m h e (r ∷ notes) done has ends settled free neat =
      let put = put_ready (level + cond gap.deeper 1 0) (r.own_line || e) r.blank done settled free neat in
      notes_ready gap level m (h || (r.own_line || e)) r.ends_line notes (note r.text ∷ cond (r.own_line || e) (broken (level + cond gap.deeper 1 0) r.blank done) (spaced done))
      (All-tail HasBytes r notes has) (All-tail (ShortEnds short) r notes ends) (All-head HasBytes r notes has)
      (short_breaks m (h || (r.own_line || e)) (short r.text) r.ends_line notes (All-head (ShortEnds short) r notes ends))
      (more (note r.text) (cond (r.own_line || e) (broken (level + cond gap.deeper 1 0) r.blank done) (spaced done))
      (note_fits r.text (cond (r.own_line || e) (broken (level + cond gap.deeper 1 0) r.blank done) (spaced done)) put.ready) (All-head HasBytes r notes has) put.neat)

  -- pieces that stand as they should, and behind which a word may follow
  record Ended (done : List Piece) : Type 0 where
    neat : AllBeside short done
    open_end : is_open done ≡ true

  ready_ended : (done : List Piece) → Ready done → Ended done
  ready_ended done at = record { neat = at.neat; open_end = blank_open done at.ready }

  -- a gap without notes, which breaks or not
  plain_ended : (gap : Gap) (level : ℕ) (done : List Piece) → is_worded done ≡ true → AllBeside short done → (m : Bool) (chance : Chance) → Ended (cond m (broken level gap.blank done) (unbroken chance done))
  plain_ended gap level done is neat true chance =
      ready_ended _ (put_ready level true gap.blank done (worded_settled done is) (λ _. worded_free short done is) neat)
  plain_ended gap level done is neat false Tight = record { neat = neat; open_end = worded_open done is }
  plain_ended gap level done is neat false Soft = record { neat = neat; open_end = worded_open done is }
  plain_ended gap level done is neat false Hard = record { neat = neat; open_end = worded_open done is }
  plain_ended gap level done is neat false Space = ready_ended _ (put_ready level false gap.blank done (worded_settled done is) (λ _. worded_free short done is) neat)
  plain_ended gap level done is neat false Line = ready_ended _ (put_ready level false gap.blank done (worded_settled done is) (λ _. worded_free short done is) neat)

  gap_ended : (gap : Gap) (mode : Mode) (level : ℕ) (notes : List Remark) (done : List Piece) → All HasBytes notes → All (ShortEnds short) notes → is_worded done ≡ true → AllBeside short done
      → Ended (lay_gap gap mode level notes done)
  gap_ended gap mode level [] done has ends is neat = plain_ended gap level done is neat (must_break gap.chance mode) gap.chance
  gap_ended gap mode level (r ∷ notes) done has ends is neat =
      ready_ended (lay_notes gap level (must_break gap.chance mode) false false (r ∷ notes) done)
      (notes_ready gap level (must_break gap.chance mode) false false (r ∷ notes) done has ends (worded_settled done is) (λ _. worded_free short done is) neat)

  -- ---- a document

  word_ended : (bytes : List ℕ) (done : List Piece) → has_bytes bytes ≡ true → Ended done → Ended (word bytes ∷ done)
  word_ended bytes done has at = record { neat = more (word bytes) done (word_fits bytes done at.open_end) has at.neat; open_end = refl }

  trail_ended : (b : Bool) (done : List Piece) → Ended done → Ended (cond b (word comma ∷ done) done)
  trail_ended true done at = word_ended comma done refl at
  trail_ended false done at = at

  module _ (page : Page) where
    mutual
      ended : (s grouped begun : Bool) (mode : Mode) (level after : ℕ) (d : Document) (done : List Piece) → IsApart s d → IsFormed short grouped begun d → (s ≡ true → is_worded done ≡ true) → Ended done
          → Ended (lay page mode level after d done)
      ended s grouped begun mode level after (text bytes) done apart formed was at = word_ended bytes done apart at
      ended s grouped begun mode level after (between gap) done apart formed was at = gap_ended gap mode level gap.notes done apart.1 formed.1 (was apart.0) at.neat
      ended s grouped begun mode level after trail done apart formed was at = trail_ended (is_broken mode) done at
      ended s grouped begun mode level after (nest inner) done apart formed was at = ended s grouped begun mode (level + 1) after inner done apart formed was at
      ended s grouped begun mode level after (group inner) done apart formed was at =
          ended s true begun (mode_of page mode (forces inner) (column_of page done + flat inner after)) level after inner done apart formed was at
      ended s grouped begun mode level after (sequence items) done apart formed was at = all_ended s grouped begun mode level after items done apart formed was at

      all_ended : (s grouped begun : Bool) (mode : Mode) (level after : ℕ) (ds : Documents) (done : List Piece) → AreApart s ds → AreFormed short grouped begun ds → (s ≡ true → is_worded done ≡ true) → Ended done
          → Ended (lay_all page mode level after ds done)
      all_ended s grouped begun mode level after nothing done apart formed was at = at
      all_ended s grouped begun mode level after (also first rest) done apart formed was at =
          all_ended (settles s first) grouped (writes first || begun) mode level after rest (lay page mode level (all_lead rest after) first done) apart.1 formed.1
          (worded page s mode level (all_lead rest after) first done apart.0 was)
          (ended s grouped begun mode level (all_lead rest after) first done apart.0 formed.0 was at)

pub all_beside : (short : List ℕ → Bool) (page : Page) (d : Document) → IsApart true d → IsFormed short false false d → AllBeside short (reverse (pieces page d))
all_beside short page d apart formed =
    subst (AllBeside short) (sym (reverse-reverse (lay page outside 0 0 d [])))
    (ended short page true false false outside 0 0 d [] apart formed (λ _. refl) (record { neat = none; open_end = refl })).neat
