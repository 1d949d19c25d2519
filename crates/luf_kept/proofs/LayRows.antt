-- What a layout has written, as a row in which each piece may stand behind the one before: its bits are neat.
use mathlib.Core.List.{reverse_aux}
use Rattle.std.proofs.Common.{◌≡◌, ℕ, zero, suc, ◌*◌, inl, Bool, true, false, cond, List, [], ◌∷◌, ◌++◌, replicate, refl, sym, ap, subst}
use Rattle.std.specs.List.{list_all}
use Rattle.std.proofs.lemmas.Bool.{and_from, and_parts}
use Rattle.luf_byte.specs.Class.{is_blank}
use Rattle.luf_lex.specs.Spelling.{Spells, IsLongComment}
use Rattle.luf_lex.specs.Note.{is_comment}
use Rattle.luf_lex.specs.Tokens.{is_token}
use Rattle.luf_lex.specs.declared.token.Tok.{Tok}
use Rattle.luf_lex.specs.declared.token.Kind.{Kind}
use Rattle.luf_lex.specs.declared.token.Kind.TheVariants.{Token, Comment, Blank, LineEnd}
use Rattle.luf_guard.specs.Space.{IsTokenSpelling, StandApart}
use Rattle.luf_neat.specs.Pieces.{Bit, is_loose, joined}
use Rattle.luf_neat.proofs.NeatCut.{bit_spellings}
use Rattle.luf_neat.proofs.NeatFits.{Fits, EachSpelled, EachFits}
use Rattle.luf_doc.specs.declared.page.Page.{Page}
use Rattle.luf_doc.specs.Layout.{Piece, word, note, space, line_end, empty_line, indentation, bytes_of, written_indentation}
use Rattle.luf_kept.specs.inner.LaidWords.{BracketsApart}
use Rattle.luf_kept.proofs.NeatComments.{bit_comments}

-- ---- rows

-- what was written last: nothing yet; a space or a break; this word; this note
pub data Last : Type 0 where
  at_start : Last
  at_gap : Last
  at_word : (bytes : List ℕ) → Last
  at_note : (bytes : List ℕ) → Last

abbrev pub MayWord : Last → List ℕ → Type 0
MayWord at_start b = Unit {0}
MayWord at_gap b = Unit {0}
MayWord (at_word a) b = StandApart a b
MayWord (at_note a) b = ⊥

abbrev pub MayNote : Last → Type 0
MayNote at_start = Unit {0}
MayNote at_gap = Unit {0}
MayNote _ = ⊥

abbrev pub MaySpace : Last → Type 0
MaySpace (at_word a) = Unit {0}
MaySpace (at_note a) = IsLongComment a
MaySpace _ = ⊥

abbrev pub MayBreak : Last → Type 0
MayBreak (at_word a) = Unit {0}
MayBreak (at_note a) = Unit {0}
MayBreak _ = ⊥

-- the last piece first, as a layout makes it
pub data Row : List Piece → Last → Type 0 where
  no_row : Row [] at_start
  word_row : {bytes : List ℕ} {done : List Piece} {l : Last} (t : Tok) → Spells (Token t) bytes → MayWord l bytes → Row done l → Row (word bytes ∷ done) (at_word bytes)
  note_row : {bytes : List ℕ} {done : List Piece} {l : Last} → Spells Comment bytes → MayNote l → Row done l → Row (note bytes ∷ done) (at_note bytes)
  space_row : {done : List Piece} {l : Last} → MaySpace l → Row done l → Row (space ∷ done) at_gap
  break_row : {done : List Piece} {l : Last} (level : ℕ) → MayBreak l → Row done l → Row (indentation level ∷ line_end ∷ done) at_gap
  wide_row : {done : List Piece} {l : Last} (level : ℕ) → MayBreak l → Row done l → Row (indentation level ∷ empty_line ∷ line_end ∷ done) at_gap

pub last_word : {done : List Piece} {bytes : List ℕ} → Row done (at_word bytes) → IsTokenSpelling bytes
last_word (word_row t h may row) = (t, h)

-- ---- what was written, and then these words, notes and bytes

abbrev pub words_onto : List Piece → List (List ℕ) → List (List ℕ)
words_onto [] words = words
words_onto (word bytes ∷ done) words = words_onto done (bytes ∷ words)
words_onto (_ ∷ done) words = words_onto done words

abbrev pub notes_onto : List Piece → List (List ℕ) → List (List ℕ)
notes_onto [] notes = notes
notes_onto (note bytes ∷ done) notes = notes_onto done (bytes ∷ notes)
notes_onto (_ ∷ done) notes = notes_onto done notes

abbrev pub bytes_onto : Page → List Piece → List ℕ → List ℕ
bytes_onto page [] x = x
bytes_onto page (p ∷ done) x = bytes_onto page done (bytes_of page p ++ x)

brackets_next : (a : List ℕ) (words : List (List ℕ)) → BracketsApart (a ∷ words) → BracketsApart words
brackets_next a [] h = tt
brackets_next a (b ∷ words) h = h.1

brackets_behind : (done : List Piece) (words : List (List ℕ)) → BracketsApart (words_onto done words) → BracketsApart words
brackets_behind [] words h = h
brackets_behind (word bytes ∷ done) words h = brackets_next bytes words (brackets_behind done (bytes ∷ words) h)
brackets_behind (_ ∷ done) words h = brackets_behind done words h

-- ---- the bits of what follows

-- One bit for each piece, of its kind, with the bytes of a word and of a note. An indentation is one blank, or none.
pub data Shows : List Piece → List Bit → Type 0 where
  no_bits : Shows [] []
  word_bit : {ps : List Piece} {bits : List Bit} (t : Tok) (bytes : List ℕ) → Shows ps bits → Shows (word bytes ∷ ps) (record { kind = Token t; bytes = bytes } ∷ bits)
  note_bit : {ps : List Piece} {bits : List Bit} (bytes : List ℕ) → Shows ps bits → Shows (note bytes ∷ ps) (record { kind = Comment; bytes = bytes } ∷ bits)
  space_bit : {ps : List Piece} {bits : List Bit} (bytes : List ℕ) → Shows ps bits → Shows (space ∷ ps) (record { kind = Blank; bytes = bytes } ∷ bits)
  line_bit : {ps : List Piece} {bits : List Bit} (bytes : List ℕ) → Shows ps bits → Shows (line_end ∷ ps) (record { kind = LineEnd; bytes = bytes } ∷ bits)
  empty_bit : {ps : List Piece} {bits : List Bit} (bytes : List ℕ) → Shows ps bits → Shows (empty_line ∷ ps) (record { kind = LineEnd; bytes = bytes } ∷ bits)
  blank_bit : {ps : List Piece} {bits : List Bit} (level : ℕ) (bytes : List ℕ) → Shows ps bits → Shows (indentation level ∷ ps) (record { kind = Blank; bytes = bytes } ∷ bits)
  no_blank : {ps : List Piece} {bits : List Bit} (level : ℕ) → Shows ps bits → Shows (indentation level ∷ ps) bits

pub record Tail (ps : List Piece) (x : List ℕ) (words notes : List (List ℕ)) : Type 0 where
  pub bits : List Bit
  pub spelled : EachSpelled bits
  pub fits : EachFits bits
  pub joined_is : joined bits ≡ x
  pub spellings_are : bit_spellings bits ≡ words
  pub comments_are : bit_comments bits ≡ notes
  pub shows : Shows ps bits

-- a word or a note, or nothing
abbrev pub IsSolid : Kind → Type 0
IsSolid (Token t) = Unit {0}
IsSolid Comment = Unit {0}
IsSolid _ = ⊥

abbrev pub Solid : List Bit → Type 0
Solid [] = Unit {0}
Solid (p ∷ bits) = IsSolid p.kind

abbrev pub FollowsWord : List ℕ → Kind → List ℕ → Type 0
FollowsWord a (Token t) b = StandApart a b
FollowsWord a Blank b = Unit {0}
FollowsWord a LineEnd b = Unit {0}
FollowsWord a _ b = ⊥

abbrev pub FollowsNote : List ℕ → Kind → Type 0
FollowsNote a Blank = IsLongComment a
FollowsNote a LineEnd = Unit {0}
FollowsNote a _ = ⊥

-- these may follow what was written last
abbrev pub Links : Last → List Bit → Type 0
Links at_start bits = Solid bits
Links at_gap bits = Solid bits
Links (at_word a) [] = Unit {0}
Links (at_word a) (p ∷ bits) = FollowsWord a p.kind p.bytes
Links (at_note a) [] = Unit {0}
Links (at_note a) (p ∷ bits) = FollowsNote a p.kind

abbrev pub FitsFirst : Kind → List ℕ → List Bit → Type 0
FitsFirst k a [] = Unit {0}
FitsFirst k a (p ∷ bits) = Fits k a p.kind p.bytes

pub fits_more : (p : Bit) (bits : List Bit) → FitsFirst p.kind p.bytes bits → EachFits bits → EachFits (p ∷ bits)
fits_more p [] fit fits = tt
fits_more p (q ∷ bits) fit fits = (fit, fits)

-- one bit more
abbrev put : {ps now : List Piece} {x : List ℕ} {words notes : List (List ℕ)} (k : Kind) (a : List ℕ) → is_loose k ≡ true → Spells k a → (t : Tail ps x words notes) → FitsFirst k a t.bits
    → Shows now (record { kind = k; bytes = a } ∷ t.bits) → Tail now (a ++ x) (cond (is_token k) (a ∷ words) words) (cond (is_comment k) (a ∷ notes) notes)
put k a loose h t fit shows = record {
  bits = record { kind = k; bytes = a } ∷ t.bits;
  spelled = (loose, h, t.spelled);
  fits = fits_more (record { kind = k; bytes = a }) t.bits fit t.fits;
  joined_is = ap (λ (b : List ℕ). a ++ b) t.joined_is;
  spellings_are = ap (λ (ws : List (List ℕ)). cond (is_token k) (a ∷ ws) ws) t.spellings_are;
  comments_are = ap (λ (cs : List (List ℕ)). cond (is_comment k) (a ∷ cs) cs) t.comments_are;
  shows = shows;
}

-- ---- each piece of a row

follows_fits : (t : Tok) (a : List ℕ) (k : Kind) (b : List ℕ) (words : List (List ℕ)) → Spells (Token t) a → FollowsWord a k b → BracketsApart (a ∷ cond (is_token k) (b ∷ words) words) → Fits (Token t) a k b
follows_fits t a (Token u) b words h follows apart = (follows, λ is. apart.0 (sym (subst (λ v. Spells (Token v) a) is h)))
follows_fits t a Blank b words h follows apart = tt
follows_fits t a LineEnd b words h follows apart = tt
follows_fits t a _ b words h follows apart = absurd follows

word_fits : (t : Tok) (a : List ℕ) (bits : List Bit) → Spells (Token t) a → Links (at_word a) bits → BracketsApart (a ∷ bit_spellings bits) → FitsFirst (Token t) a bits
word_fits t a [] h links apart = tt
word_fits t a (p ∷ bits) h links apart = follows_fits t a p.kind p.bytes (bit_spellings bits) h links apart

note_follows : (a : List ℕ) (k : Kind) (b : List ℕ) → FollowsNote a k → Fits Comment a k b
note_follows a Blank b follows = follows
note_follows a LineEnd b follows = tt
note_follows a _ b follows = absurd follows

note_fits : (a : List ℕ) (bits : List Bit) → Links (at_note a) bits → FitsFirst Comment a bits
note_fits a [] links = tt
note_fits a (p ∷ bits) links = note_follows a p.kind p.bytes links

blank_solid : (a : List ℕ) (k : Kind) (b : List ℕ) → IsSolid k → Fits Blank a k b
blank_solid a (Token t) b is = tt
blank_solid a Comment b is = tt
blank_solid a _ b is = absurd is

blank_fits : (a : List ℕ) (bits : List Bit) → Solid bits → FitsFirst Blank a bits
blank_fits a [] is = tt
blank_fits a (p ∷ bits) is = blank_solid a p.kind p.bytes is

line_solid : (a : List ℕ) (k : Kind) (b : List ℕ) → IsSolid k → Fits LineEnd a k b
line_solid a (Token t) b is = tt
line_solid a Comment b is = tt
line_solid a _ b is = absurd is

pub line_fits : (a : List ℕ) (bits : List Bit) → Solid bits → FitsFirst LineEnd a bits
line_fits a [] is = tt
line_fits a (p ∷ bits) is = line_solid a p.kind p.bytes is

word_links : (l : Last) (t : Tok) (b : List ℕ) (bits : List Bit) → MayWord l b → Links l (record { kind = Token t; bytes = b } ∷ bits)
word_links at_start t b bits may = tt
word_links at_gap t b bits may = tt
word_links (at_word a) t b bits may = may
word_links (at_note a) t b bits may = absurd may

note_links : (l : Last) (b : List ℕ) (bits : List Bit) → MayNote l → Links l (record { kind = Comment; bytes = b } ∷ bits)
note_links at_start b bits may = tt
note_links at_gap b bits may = tt
note_links (at_word a) b bits may = absurd may
note_links (at_note a) b bits may = absurd may

space_links : (l : Last) (b : List ℕ) (bits : List Bit) → MaySpace l → Links l (record { kind = Blank; bytes = b } ∷ bits)
space_links at_start b bits may = absurd may
space_links at_gap b bits may = absurd may
space_links (at_word a) b bits may = tt
space_links (at_note a) b bits may = may

break_links : (l : Last) (b : List ℕ) (bits : List Bit) → MayBreak l → Links l (record { kind = LineEnd; bytes = b } ∷ bits)
break_links at_start b bits may = absurd may
break_links at_gap b bits may = absurd may
break_links (at_word a) b bits may = tt
break_links (at_note a) b bits may = tt

-- ---- an indentation: a blank, or nothing

all_blank : (n b : ℕ) → is_blank b ≡ true → list_all is_blank (replicate n b) ≡ true
all_blank zero b is = refl
all_blank (suc n) b is = and_from (is_blank b) _ is (all_blank n b is)

indented : (page : Page) (level : ℕ) → list_all is_blank (written_indentation page level) ≡ true
indented page level = by_tabs page.tabs
  where
    by_tabs : (v : Bool) → list_all is_blank (cond v (replicate level 9) (replicate (page.unit * level) 32)) ≡ true
    by_tabs true = all_blank level 9 refl
    by_tabs false = all_blank (page.unit * level) 32 refl

-- a tail that may stand behind a line feed
pub record Broken (ps : List Piece) (x : List ℕ) (words notes : List (List ℕ)) : Type 0 where
  pub tail : Tail ps x words notes
  pub fit : FitsFirst LineEnd (10 ∷ []) tail.bits

indent : {ps : List Piece} {x : List ℕ} {words notes : List (List ℕ)} (level : ℕ) (w : List ℕ) → list_all is_blank w ≡ true → (t : Tail ps x words notes) → Solid t.bits
    → Broken (indentation level ∷ ps) (w ++ x) words notes
indent level [] each t is = record {
  tail = record {
    bits = t.bits;
    spelled = t.spelled;
    fits = t.fits;
    joined_is = t.joined_is;
    spellings_are = t.spellings_are;
    comments_are = t.comments_are;
    shows = no_blank level t.shows;
  };
  fit = line_fits (10 ∷ []) t.bits is;
}
indent level (b ∷ w) each t is = record {
  tail = put Blank (b ∷ w) refl (record { first = (and_parts (is_blank b) _ each).0; each = each }) t (blank_fits (b ∷ w) t.bits is) (blank_bit level (b ∷ w) t.shows);
  fit = tt;
}

abbrev feed : {ps now : List Piece} {x : List ℕ} {words notes : List (List ℕ)} (b : Broken ps x words notes) → Shows now (record { kind = LineEnd; bytes = 10 ∷ [] } ∷ b.tail.bits)
    → Tail now (10 ∷ x) words notes
feed b shows = put LineEnd (10 ∷ []) refl (inl refl) b.tail b.fit shows

-- ---- the bits of a row

pub record Whole (ps : List Piece) (x : List ℕ) (words notes : List (List ℕ)) : Type 0 where
  pub tail : Tail ps x words notes
  pub solid : Solid tail.bits

pub row_bits : (page : Page) {done : List Piece} {l : Last} → Row done l → {ps : List Piece} {x : List ℕ} {words notes : List (List ℕ)} → (t : Tail ps x words notes) → Links l t.bits
    → BracketsApart (words_onto done words) → Whole (reverse_aux done ps) (bytes_onto page done x) (words_onto done words) (notes_onto done notes)
row_bits page no_row t links apart = record { tail = t; solid = links }
row_bits page (word_row {bytes} {done} {l} u h may row) {ps} {x} {words} t links apart =
    let next : BracketsApart (bytes ∷ bit_spellings t.bits) = subst (λ (ws : List (List ℕ)). BracketsApart (bytes ∷ ws)) (sym t.spellings_are) (brackets_behind done (bytes ∷ words) apart) in
    row_bits page row (put (Token u) bytes refl h t (word_fits u bytes t.bits h links next) (word_bit u bytes t.shows)) (word_links l u bytes t.bits may) apart
row_bits page (note_row {bytes} {done} {l} h may row) t links apart =
    row_bits page row (put Comment bytes refl h t (note_fits bytes t.bits links) (note_bit bytes t.shows)) (note_links l bytes t.bits may) apart
row_bits page (space_row {done} {l} may row) t links apart =
    row_bits page row (put Blank (32 ∷ []) refl (record { first = refl; each = refl }) t (blank_fits (32 ∷ []) t.bits links) (space_bit (32 ∷ []) t.shows)) (space_links l (32 ∷ []) t.bits may) apart
row_bits page (break_row {done} {l} level may row) t links apart =
    let one = indent level (written_indentation page level) (indented page level) t links in
    row_bits page row (feed one (line_bit (10 ∷ []) one.tail.shows)) (break_links l (10 ∷ []) one.tail.bits may) apart
row_bits page (wide_row {done} {l} level may row) t links apart =
    let one = indent level (written_indentation page level) (indented page level) t links in
    let wide = feed one (empty_bit (10 ∷ []) one.tail.shows) in
    row_bits page row (feed (record { tail = wide; fit = refl }) (line_bit (10 ∷ []) wide.shows)) (break_links l (10 ∷ []) wide.bits may) apart
