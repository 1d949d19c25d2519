-- The gaps of the text are those of the document that is read again.
use Rattle.std.proofs.Common.{◌≡◌, ℕ, zero, suc, ◌+◌, Bool, true, false, ◌||◌, List, [], ◌∷◌, ◌++◌, length, map, reverse, refl, sym, ap, ◌∙◌, subst, append-nil, arith, length-append}
use Rattle.std.specs.Option.{option_to_list}
use Rattle.std.proofs.Math.Bool.{or-true}
use Rattle.std.proofs.lemmas.Bool.{false≢true}
use Rattle.std.proofs.lemmas.List.{reverse-append, reverse-reverse, append_assoc}
use Rattle.luf_doc.specs.declared.doc.Remark.{Remark}
use Rattle.luf_doc.specs.declared.page.Page.{Page}
use Rattle.luf_doc.specs.Document.{Document, Documents, text, between, trail, nest, group, sequence, nothing, also}
use Rattle.luf_doc.specs.Flat.{forces, flat, all_lead}
use Rattle.luf_doc.specs.Layout.{Piece, word, note, space, line_end, empty_line, indentation, Mode, outside, is_begun, has_bytes, column_of, must_break, mode_of, lay, pieces}
use Rattle.luf_lex.specs.Note.{lead_of}
use Rattle.luf_lex.specs.Tokens.{is_token, tok_of, toks_of}
use Rattle.luf_lex.specs.declared.note.Note.{Note}
use Rattle.luf_lex.specs.declared.token.Kind.{Kind}
use Rattle.luf_lex.specs.declared.token.Kind.TheVariants.{Token, Comment, Blank, LineEnd, HashLine, Mark}
use Rattle.luf_lex.specs.declared.token.Piece as lexed
use Rattle.luf_gaps.specs.Gaps.{trimmed, is_short, last_ends}
use Rattle.luf_gaps.specs.declared.notes.GapNotes.{GapNotes}
use Rattle.luf_again.specs.Apart.{IsClosed, AreClosed}
use Rattle.luf_again.specs.Lexed.{Lexed, IsHead, no_head, hash_line, read_note, notes_before, ReadsAt}
use Rattle.luf_again.specs.Lexed as lex
use Rattle.luf_again.specs.Reread.{reread_notes, reread, reread_all, reread_whole}
use Rattle.luf_again.specs.Shown.{shown_before, shown}
use Rattle.luf_again.specs.Tells.{Sight, Told, token, comment, untold, and_notes, notes_of, all_notes, notes_told}
use Rattle.luf_again.proofs.BesideLaws.{all_beside}
use Rattle.luf_again.proofs.FlagsAlone.{notes_again}
use Rattle.luf_again.proofs.LexedWalk.{cut_reads}
use Rattle.luf_again.proofs.ShownOrder.{shown_from, in_order}
use Rattle.luf_twice.specs.Again.{gaps_of, AreTrimmed, IsTrimmed, AllTrimmed, GapsAgain}
use Rattle.luf_twice.specs.Chooses.{tokens_told, Chooses, AllChoose}
use Rattle.luf_twice.proofs.Gathered.{Found, found, onto, Settled, gap_found, Opens, opens}
use Rattle.luf_twice.proofs.GapWalk.{NotesTrimmed, behind, finished, cut_gaps}

-- ---- as many tokens are told as the cut has

words_in : List Piece → ℕ
words_in [] = 0
words_in (word bytes ∷ ps) = suc (words_in ps)
words_in (note bytes ∷ ps) = words_in ps
words_in (space ∷ ps) = words_in ps
words_in (line_end ∷ ps) = words_in ps
words_in (empty_line ∷ ps) = words_in ps
words_in (indentation level ∷ ps) = words_in ps

token_one : (k : Kind) → is_token k ≡ true → length (option_to_list (tok_of k)) ≡ 1
token_one (Token t) is = refl
token_one Comment is = absurd (false≢true is)
token_one Blank is = absurd (false≢true is)
token_one LineEnd is = absurd (false≢true is)
token_one HashLine is = absurd (false≢true is)
token_one Mark is = absurd (false≢true is)

one_more : (k : Kind) (pieces : List lexed.Piece) → is_token k ≡ true → length (option_to_list (tok_of k) ++ toks_of pieces) ≡ suc (length (toks_of pieces))
one_more k pieces is = let all = length-append (option_to_list (tok_of k)) (toks_of pieces) in let one = token_one k is in omega (arith, all, one)

no_more : (k : Kind) (pieces : List lexed.Piece) → tok_of k ≡ tok_of Blank → length (option_to_list (tok_of k) ++ toks_of pieces) ≡ length (toks_of pieces)
no_more k pieces is = λ i. length (option_to_list (is i) ++ toks_of pieces)

cut_count : (source : List ℕ) (ps : List Piece) (body : List lexed.Piece) → Lexed source [] ps body → length (toks_of body) ≡ words_in ps
unfolding words_in
cut_count source _ _ lex.none = refl
cut_count source _ _ (lex.a_word bytes p ps body is rest) = one_more p.kind body is ∙ ap suc (cut_count source ps body rest)
cut_count source _ _ (lex.a_note bytes p ps body is same rest) = no_more p.kind body (ap tok_of is) ∙ cut_count source ps body rest
cut_count source _ _ (lex.a_space p ps body is rest) = no_more p.kind body (ap tok_of is) ∙ cut_count source ps body rest
cut_count source _ _ (lex.a_line_end p ps body is rest) = no_more p.kind body (ap tok_of is) ∙ cut_count source ps body rest
cut_count source _ _ (lex.an_empty_line p ps body is rest) = no_more p.kind body (ap tok_of is) ∙ cut_count source ps body rest
cut_count source _ _ (lex.indented level p ps body is rest) = no_more p.kind body (ap tok_of is) ∙ cut_count source ps body rest
cut_count source _ _ (lex.not_indented level ps body rest) = cut_count source ps body rest

head_count : (head body : List lexed.Piece) → IsHead head → length (toks_of (head ++ body)) ≡ length (toks_of body)
head_count _ body no_head = refl
head_count _ body (hash_line p q hash end) = no_more p.kind (q ∷ body) (ap tok_of hash) ∙ no_more q.kind body (ap tok_of end)

shown_count : (short : List ℕ → Bool) (done ps : List Piece) → tokens_told (shown_from short done ps) ≡ words_in ps
unfolding words_in
shown_count short done [] = refl
shown_count short done (word bytes ∷ ps) = ap suc (shown_count short (word bytes ∷ done) ps)
shown_count short done (note bytes ∷ ps) = shown_count short (note bytes ∷ done) ps
shown_count short done (space ∷ ps) = shown_count short (space ∷ done) ps
shown_count short done (line_end ∷ ps) = shown_count short (line_end ∷ done) ps
shown_count short done (empty_line ∷ ps) = shown_count short (empty_line ∷ done) ps
shown_count short done (indentation level ∷ ps) = shown_count short (indentation level ∷ done) ps

-- ---- notes without blanks at their ends

trimmed_append : (xs ys : List Remark) → AreTrimmed xs → AreTrimmed ys → AreTrimmed (xs ++ ys)
trimmed_append [] ys a b = b
trimmed_append (x ∷ xs) ys a b = (a.0, trimmed_append xs ys a.1 b)

mutual
  trimmed_of : (d : Document) (more : List Remark) → IsTrimmed d → AreTrimmed more → AreTrimmed (notes_of d more)
  trimmed_of (text bytes) more is rest = rest
  trimmed_of (between gap) more is rest = trimmed_append gap.notes more is rest
  trimmed_of trail more is rest = rest
  trimmed_of (nest inner) more is rest = trimmed_of inner more is rest
  trimmed_of (group inner) more is rest = trimmed_of inner more is rest
  trimmed_of (sequence items) more is rest = all_trimmed items more is rest

  all_trimmed : (ds : Documents) (more : List Remark) → AllTrimmed ds → AreTrimmed more → AreTrimmed (all_notes ds more)
  all_trimmed nothing more is rest = rest
  all_trimmed (also first items) more is rest = trimmed_of first (all_notes items more) is.0 (all_trimmed items more is.1 rest)

module _ (short : List ℕ → Bool) where
  notes_trimmed : (m g h e : Bool) (notes : List Remark) → AreTrimmed notes → AreTrimmed (reread_notes short m g h e notes)
  notes_trimmed m g h e [] is = tt
  notes_trimmed m g h e (r ∷ notes) is = (is.0, notes_trimmed m (has_bytes r.text || g) (h || (r.own_line || e)) r.ends_line notes is.1)

  module _ (page : Page) where
    mutual
      reread_trimmed : (mode : Mode) (level lead : ℕ) (d : Document) (done : List Piece) → IsTrimmed d → IsTrimmed (reread short page mode level lead d done)
      reread_trimmed mode level lead (text bytes) done is = tt
      reread_trimmed mode level lead (between gap) done is = notes_trimmed (must_break gap.chance mode) (is_begun done) false false gap.notes is
      reread_trimmed mode level lead trail done is = tt
      reread_trimmed mode level lead (nest inner) done is = reread_trimmed mode (level + 1) lead inner done is
      reread_trimmed mode level lead (group inner) done is = reread_trimmed (mode_of page mode (forces inner) (column_of page done + flat inner lead)) level lead inner done is
      reread_trimmed mode level lead (sequence items) done is = reread_all_trimmed mode level lead items done is

      reread_all_trimmed : (mode : Mode) (level lead : ℕ) (ds : Documents) (done : List Piece) → AllTrimmed ds → AllTrimmed (reread_all short page mode level lead ds done)
      reread_all_trimmed mode level lead nothing done is = tt
      reread_all_trimmed mode level lead (also first rest) done is =
          (reread_trimmed mode level (all_lead rest lead) first done is.0, reread_all_trimmed mode level lead rest (lay page mode level (all_lead rest lead) first done) is.1)

abbrev SightsTrimmed : List Sight → Type 0
SightsTrimmed [] = Unit {0}
SightsTrimmed (token bytes blank ∷ sights) = SightsTrimmed sights
SightsTrimmed (comment r ∷ sights) = (trimmed r.text ≡ r.text) × SightsTrimmed sights

-- what is told in order: those of a list of which the last stands first, put before those
told_trimmed : (dropped : List ℕ) (before sights : List Sight) (more : List Remark) → AreTrimmed (notes_told before more) → (AreTrimmed more → SightsTrimmed sights) → SightsTrimmed (behind dropped before sights)
told_trimmed dropped [] sights more is rest = rest is
told_trimmed dropped (token bytes blank ∷ before) sights more is rest = told_trimmed dropped before (token bytes blank ∷ sights) more is rest
told_trimmed dropped (comment r ∷ before) sights more is rest = told_trimmed dropped before (comment r ∷ sights) (r ∷ more) is (λ all. (all.0, rest all.1))

before_trimmed : (k : ℕ) (sights : List Sight) → SightsTrimmed sights → AreTrimmed (notes_before k sights)
before_trimmed k [] is = tt
before_trimmed zero (token bytes blank ∷ sights) is = tt
before_trimmed (suc k) (token bytes blank ∷ sights) is = before_trimmed k sights is
before_trimmed zero (comment r ∷ sights) is = (is.0, before_trimmed zero sights is.1)
before_trimmed (suc k) (comment r ∷ sights) is = before_trimmed (suc k) sights is.1

lead_trimmed : (source : List ℕ) (notes : List Note) → AreTrimmed (map (read_note is_short source) notes) → NotesTrimmed source notes
lead_trimmed source [] is = tt
lead_trimmed source (n ∷ notes) is = (is.0, lead_trimmed source notes is.1)

behind_append : (dropped : List ℕ) (xs ys : List Sight) → behind dropped xs ys ≡ reverse xs ++ ys
behind_append dropped [] ys = refl
behind_append dropped (x ∷ xs) ys = behind_append dropped xs (x ∷ ys) ∙ sym (append_assoc (reverse xs) (x ∷ []) ys) ∙ ap (λ (l : List Sight). l ++ ys) (sym (reverse-append (x ∷ []) xs))

-- ---- the last note ends its line

abbrev HeadEnds : List Sight → Type 0
HeadEnds [] = Unit {0}
HeadEnds (token bytes blank ∷ sights) = Unit {0}
HeadEnds (comment r ∷ sights) = r.ends_line ≡ true

shown_ends : (short : List ℕ → Bool) (done : List Piece) → HeadEnds (shown_before short true done)
shown_ends short [] = tt
shown_ends short (word bytes ∷ done) = tt
shown_ends short (note bytes ∷ done) = or-true (short bytes)
shown_ends short (space ∷ done) = shown_ends short done
shown_ends short (line_end ∷ done) = shown_ends short done
shown_ends short (empty_line ∷ done) = shown_ends short done
shown_ends short (indentation level ∷ done) = shown_ends short done

notes_end : (notes : List Remark) (before : List Sight) → HeadEnds (and_notes notes before) → last_ends notes ≡ notes
notes_end [] before is = refl
notes_end (r ∷ []) before is = λ i. record { text = r.text; own_line = r.own_line; ends_line = sym is i; blank = r.blank } ∷ []
notes_end (r ∷ next ∷ notes) before is = ap (λ (l : List Remark). r ∷ l) (notes_end (next ∷ notes) (comment r ∷ before) is)

module _ (dropped : List ℕ) (page : Page) where
  abbrev Ends : Told → Type 0
  Ends at = HeadEnds at.sights → last_ends (found dropped at.sights).now.notes ≡ (found dropped at.sights).now.notes

  mutual
    ends : (mode : Mode) (level lead : ℕ) (d : Document) (done : List Piece) (from to : Told) (was is : Bool) → IsClosed d
        → Chooses dropped (reread is_short page mode level lead d done) from to was is → Settled dropped was from → Ends to
    ends mode level lead (text bytes) done from to was is closed_at chosen at = absurd closed_at
    ends mode level lead (between gap) done from to was is closed_at chosen at =
        subst Ends (sym chosen.0)
        (λ head. let all = gap_found dropped (reread_notes is_short (must_break gap.chance mode) (is_begun done) false false gap.notes) from (subst (λ (b : Bool). Settled dropped b from) chosen.1 at) in
        ap (λ (f : Found). last_ends f.now.notes) all
        ∙ notes_end (reread_notes is_short (must_break gap.chance mode) (is_begun done) false false gap.notes) from.sights head
        ∙ sym (ap (λ (f : Found). f.now.notes) all))
    ends mode level lead trail done from to was is closed_at chosen at = absurd closed_at
    ends mode level lead (nest inner) done from to was is closed_at chosen at = ends mode (level + 1) lead inner done from to was is closed_at chosen at
    ends mode level lead (group inner) done from to was is closed_at chosen at =
        ends (mode_of page mode (forces inner) (column_of page done + flat inner lead)) level lead inner done from to was is closed_at chosen at
    ends mode level lead (sequence items) done from to was is closed_at chosen at = all_end mode level lead items done from to was is closed_at chosen at

    all_end : (mode : Mode) (level lead : ℕ) (ds : Documents) (done : List Piece) (from to : Told) (was is : Bool) → AreClosed ds
        → AllChoose dropped (reread_all is_short page mode level lead ds done) from to was is → Settled dropped was from → Ends to
    all_end mode level lead nothing done from to was is closed_at chosen at = absurd closed_at
    all_end mode level lead (also first nothing) done from to was is closed_at chosen at =
        subst Ends (sym chosen.3.0) (ends mode level lead first done from chosen.0 was chosen.1 closed_at chosen.2 at)
    all_end mode level lead (also first (also second rest)) done from to was is closed_at chosen at =
        all_end mode level lead (also second rest) (lay page mode level (all_lead (also second rest) lead) first done) chosen.0 to chosen.1 is closed_at chosen.3
        (opens dropped (reread is_short page mode level (all_lead (also second rest) lead) first done) from chosen.0 was chosen.1 chosen.2 at).settled

-- ---- the whole text

twice : (dropped : List ℕ) (xs ys zs : List GapNotes) → onto dropped (onto dropped xs ys) zs ≡ onto dropped ys (xs ++ zs)
twice dropped [] ys zs = refl
twice dropped (x ∷ xs) ys zs = twice dropped xs (x ∷ ys) zs

pub gaps_again : GapsAgain
gaps_again page d source head body dropped formed apart is_closed trim is_head at chosen =
    cut_gaps source (head ++ body) dropped (length (toks_of (head ++ body))) (reverse told.sights) told.blank count (λ k. (reads k).notes) (λ k. (reads k).blank) leads
    ∙ ap (λ (l : List Sight). finished dropped l told.blank) (behind_append dropped (reverse told.sights) [] ∙ append-nil (reverse (reverse told.sights)) ∙ reverse-reverse told.sights)
    ∙ (λ i. onto dropped (found dropped told.sights).gaps (record { notes = last i; blank = (found dropped told.sights).now.blank || told.blank } ∷ []))
    ∙ ap (λ (l : List GapNotes). onto dropped l []) (step.gaps [])
    ∙ twice dropped (gaps_of e []) [] [] ∙ append-nil (gaps_of e [])
  where
    e : Document
    e = reread_whole is_short page d

    told : Told
    told = shown is_short (pieces page d)

    reads : (k : ℕ) → ReadsAt is_short source (head ++ body) k told
    reads k = cut_reads is_short source head body (pieces page d) k is_head at (all_beside is_short page d apart formed)

    count : length (toks_of (head ++ body)) ≡ tokens_told (reverse told.sights)
    count = head_count head body is_head ∙ cut_count source (pieces page d) body at ∙ sym (ap tokens_told (in_order is_short (pieces page d)) ∙ shown_count is_short [] (pieces page d))

    notes : AreTrimmed (notes_told told.sights [])
    notes = subst AreTrimmed (sym (notes_again is_short page d apart is_closed)) (trimmed_of e [] (reread_trimmed is_short page outside 0 0 d [] trim) tt)

    sights : SightsTrimmed (reverse told.sights)
    sights = subst SightsTrimmed (behind_append dropped told.sights [] ∙ append-nil (reverse told.sights)) (told_trimmed dropped told.sights [] [] notes (λ all. tt))

    leads : (k : ℕ) → NotesTrimmed source (lead_of (head ++ body) k)
    leads k = lead_trimmed source (lead_of (head ++ body) k) (subst AreTrimmed (sym (reads k).notes) (before_trimmed k (reverse told.sights) sights))

    start : Settled dropped false untold
    start = record { none = λ _. refl; calm = λ _. refl }

    step : Opens dropped e untold told false true
    step = opens dropped e untold told false true chosen start

    last : last_ends (found dropped told.sights).now.notes ≡ (found dropped told.sights).now.notes
    last = ends dropped page outside 0 0 d [] untold told false true is_closed chosen start (shown_ends is_short (reverse (pieces page d)))
