-- Which neighbours fit: a table by their kinds.
use Rattle.std.proofs.Common.{◌≡◌, ℕ, ◌-◌, inl, inr, Bool, true, false, not, eqb, ◌||◌, ◌&&◌, List, [], ◌∷◌, take, drop, refl, sym, ap, ◌∙◌, subst, arith}
use Rattle.std.proofs.lemmas.Bool.{false≢true, false_from_ne_true}
use Rattle.std.proofs.lemmas.Bool.Decides.{nat_tests}
use Rattle.std.specs.Prelude.{slice_range}
use Rattle.luf_byte.specs.LineEnd.{IsLineEnd}
use Rattle.luf_byte.specs.Class.{is_line_byte}
use Rattle.luf_byte.specs.Class.{is_blank, in_line}
use Rattle.luf_byte.specs.Front.{begins}
use Rattle.luf_lex.specs.Spelling.{Spells, IsLongComment}
use Rattle.luf_str.specs.LongEnd.{opens_long}
use Rattle.luf_lex.specs.First.{IsFirst, is_tried, group_of}
use Rattle.luf_lex.specs.declared.group.Group.{Group}
use Rattle.luf_lex.specs.declared.group.Group.TheVariants.{Quoted}
use Rattle.luf_lex.specs.Cut.{Cuts}
use Rattle.luf_lex.specs.declared.token.Tok.{Tok}
use Rattle.luf_lex.specs.declared.token.Tok.TheVariants.{Name, Sign}
use Rattle.luf_lex.specs.declared.token.Sign.{Sign as Mark}
use Rattle.luf_lex.specs.declared.token.Sign.TheVariants.{Minus, Slash, Tilde, Less, Greater, Assign, LeftBracket, Colon, Dot, DotDot}
use Rattle.luf_lex.specs.declared.token.Kind.{Kind}
use Rattle.luf_lex.specs.declared.token.Kind.TheVariants.{Token, Comment, Blank, LineEnd}
use Rattle.luf_lex.specs.declared.token.Piece.{Piece}
use Rattle.luf_lex.proofs.RunLemmas.{begins_weaker, begins_apart}
use Rattle.luf_lex.proofs.PlainLemmas.{blank_is_no_line}
use Rattle.luf_str.proofs.BracketLaws.{long_opens}
use Rattle.luf_guard.specs.Space.{StandApart}
use Rattle.luf_guard.specs.inner.Joins.{goes_on}
use Rattle.luf_guard.proofs.Before.{token_ends}
use Rattle.luf_guard.proofs.Three.{apart_first}
use Rattle.luf_guard.proofs.Needed.{needed_apart}
use Rattle.luf_neat.proofs.FirstByte.{no_blank, no_line}
use Rattle.luf_neat.specs.Pieces.{lengthens, line_goes_on, is_bracket, is_loose}
use Rattle.luf_neat.specs.Pieces.{Bit, Neat}
use Rattle.luf_neat.proofs.NeatCut.{comment_front, line_front}

-- A piece may stand directly before the next one.
abbrev pub Fits : Kind → List ℕ → Kind → List ℕ → Type 0
Fits (Token t) a (Token u) b = StandApart a b × (t ≡ Sign LeftBracket → begins (λ c. eqb c 61) b ≡ false)
Fits (Token t) a Comment b = t ≡ Sign Minus → ⊥
Fits (Token t) a k b = Unit {0}
Fits Comment a LineEnd b = Unit {0}
Fits Comment a k b = IsLongComment a
Fits Blank a Blank b = ⊥
Fits Blank a k b = Unit {0}
Fits LineEnd a LineEnd b = begins (line_goes_on a) b ≡ false
Fits LineEnd a k b = Unit {0}
Fits j a k b = ⊥

both_none : (p q : ℕ → Bool) (x : List ℕ) → begins p x ≡ false → begins q x ≡ false → begins (λ c. p c || q c) x ≡ false
both_none p q [] hp hq = refl
both_none p q (c ∷ x) hp hq = grind (arith, nat_tests)

and_none : (v : Bool) (p : ℕ → Bool) (x : List ℕ) → begins p x ≡ false → begins (λ c. v && p c) x ≡ false
and_none true p [] h = refl
and_none true p (c ∷ x) h = h
and_none false p [] h = refl
and_none false p (c ∷ x) h = refl

never : (v : Bool) (p : ℕ → Bool) (x : List ℕ) → v ≡ false → begins (λ c. v && p c) x ≡ false
never true p x h = absurd (false≢true (sym h))
never false p [] h = refl
never false p (c ∷ x) h = refl

bracket_none : (t : Tok) (b : List ℕ) → (t ≡ Sign LeftBracket → begins (λ c. eqb c 61) b ≡ false) → begins (λ c. is_bracket t && eqb c 61) b ≡ false
bracket_none (Sign LeftBracket) b h = and_none true (λ c. eqb c 61) b (h refl)
bracket_none _ b h = never false (λ c. eqb c 61) b refl

apart_none : (t u : Tok) (a b : List ℕ) → Spells (Token t) a → StandApart a b → (t ≡ Sign LeftBracket → begins (λ c. eqb c 61) b ≡ false) → begins (lengthens (Token t) a) b ≡ false
apart_none t u a b h apart bracket =
    let first = apart_first a b apart in
    both_none (goes_on t) (λ c. is_bracket t && eqb c 61) b (false_from_ne_true _ (λ more. token_ends t first.0 a b h more first.1)) (bracket_none t b bracket)

-- a blank and a byte of a line end lengthen no token
is_gap : ℕ → Bool
is_gap c = is_blank c || is_line_byte c

gap_sign : (s : Mark) (a : List ℕ) (c : ℕ) → is_gap c ≡ true → lengthens (Token (Sign s)) a c ≡ false
unfolding is_gap
gap_sign Minus a c h = grind (arith, nat_tests)
gap_sign Slash a c h = grind (arith, nat_tests)
gap_sign Tilde a c h = grind (arith, nat_tests)
gap_sign Less a c h = grind (arith, nat_tests)
gap_sign Greater a c h = grind (arith, nat_tests)
gap_sign Assign a c h = grind (arith, nat_tests)
gap_sign LeftBracket a c h = grind (arith, nat_tests)
gap_sign Colon a c h = grind (arith, nat_tests)
gap_sign Dot a c h = grind (arith, nat_tests)
gap_sign DotDot a c h = grind (arith, nat_tests)
gap_sign _ a c h = refl

word_gap : (c : ℕ) → is_gap c ≡ true → lengthens (Token Name) [] c ≡ false
unfolding is_gap
word_gap c h = grind (arith, nat_tests)

gap_token : (t : Tok) (a : List ℕ) (c : ℕ) → is_gap c ≡ true → lengthens (Token t) a c ≡ false
unfolding is_gap
gap_token (Sign s) a c h = gap_sign s a c h
gap_token Name a c h = grind (arith, nat_tests)
gap_token _ a c h = grind (arith, nat_tests)

gap_none : (t : Tok) (a b : List ℕ) → begins is_gap b ≡ true → begins (lengthens (Token t) a) b ≡ false
gap_none t a [] h = refl
gap_none t a (c ∷ b) h = gap_token t a c h

-- nor does `-`, but for a `-`
dash_token : (t : Tok) (a : List ℕ) → (t ≡ Sign Minus → ⊥) → lengthens (Token t) a 45 ≡ false
dash_token (Sign Minus) a other = absurd (other refl)
dash_token (Sign Slash) a other = refl
dash_token (Sign _) a other = refl
dash_token Name a other = refl
dash_token _ a other = refl

blank_gap : (b : ℕ) → is_blank b ≡ true → is_gap b ≡ true
unfolding is_gap
blank_gap b h = grind (arith, nat_tests)

line_gap : (b : List ℕ) → IsLineEnd b → begins is_gap b ≡ true
unfolding is_gap
line_gap b (inl e) = ap (begins is_gap) e
line_gap b (inr (inl e)) = ap (begins is_gap) e
line_gap b (inr (inr (inl e))) = ap (begins is_gap) e
line_gap b (inr (inr (inr e))) = ap (begins is_gap) e

-- only a byte of a line end lengthens a line end
line_byte : (a : List ℕ) (c : ℕ) → line_goes_on a c ≡ true → is_line_byte c ≡ true
line_byte [] c h = absurd (false≢true h)
line_byte (x ∷ []) c h = grind (arith, nat_tests)
line_byte (x ∷ y ∷ a) c h = absurd (false≢true h)

line_none : (a b : List ℕ) → begins is_line_byte b ≡ false → begins (line_goes_on a) b ≡ false
line_none a b h = false_from_ne_true _ (λ e. false≢true (sym h ∙ begins_weaker (line_goes_on a) is_line_byte (line_byte a) b e))

long_none : (a b : List ℕ) → IsLongComment a → begins (lengthens Comment a) b ≡ false
long_none a b c = never (not (opens_long (drop 2 a))) in_line b (ap (λ t. not (opens_long (drop 2 t))) c.spelled ∙ ap not (long_opens c.rest c.long))

-- of two that fit the first is not lengthened by the second
pub fits_stops : (j k : Kind) (a b : List ℕ) → is_loose k ≡ true → Spells j a → Spells k b → Fits j a k b → begins (lengthens j a) b ≡ false
fits_stops (Token t) (Token u) a b loose h g fits = apart_none t u a b h fits.0 fits.1
fits_stops (Token t) Comment a b loose h g fits = comment_front (lengthens (Token t) a) b (dash_token t a fits) g
fits_stops (Token t) Blank a b loose h g fits = gap_none t a b (begins_weaker is_blank is_gap blank_gap b g.first)
fits_stops (Token t) LineEnd a b loose h g fits = gap_none t a b (line_gap b g)
fits_stops (Token t) _ a b loose h g fits = absurd (false≢true loose)
fits_stops Comment LineEnd a b loose h g fits = and_none (not (opens_long (drop 2 a))) in_line b (line_front in_line b refl refl g)
fits_stops Comment (Token u) a b loose h g fits = long_none a b fits
fits_stops Comment Comment a b loose h g fits = long_none a b fits
fits_stops Comment Blank a b loose h g fits = long_none a b fits
fits_stops Comment _ a b loose h g fits = absurd (false≢true loose)
fits_stops Blank (Token u) a b loose h g fits = no_blank u b g
fits_stops Blank Comment a b loose h g fits = comment_front is_blank b refl g
fits_stops Blank Blank a b loose h g fits = absurd fits
fits_stops Blank LineEnd a b loose h g fits = line_front is_blank b refl refl g
fits_stops Blank _ a b loose h g fits = absurd (false≢true loose)
fits_stops LineEnd (Token u) a b loose h g fits = line_none a b (no_line u b g)
fits_stops LineEnd Comment a b loose h g fits = line_none a b (comment_front is_line_byte b refl g)
fits_stops LineEnd Blank a b loose h g fits = line_none a b (false_from_ne_true _ (λ e. begins_apart is_blank is_line_byte blank_is_no_line b g.first e))
fits_stops LineEnd LineEnd a b loose h g fits = fits
fits_stops LineEnd _ a b loose h g fits = absurd (false≢true loose)
fits_stops _ k a b loose h g fits = absurd fits

-- each is spelled as its kind is
abbrev pub EachSpelled : List Bit → Type 0
EachSpelled [] = Unit {0}
EachSpelled (p ∷ bits) = (is_loose p.kind ≡ true) × Spells p.kind p.bytes × EachSpelled bits

-- and each fits the next one
abbrev pub EachFits : List Bit → Type 0
EachFits [] = Unit {0}
EachFits (p ∷ []) = Unit {0}
EachFits (p ∷ q ∷ bits) = Fits p.kind p.bytes q.kind q.bytes × EachFits (q ∷ bits)

pub fits_neat : (bits : List Bit) → EachSpelled bits → EachFits bits → Neat bits
fits_neat [] h fits = tt
fits_neat (p ∷ []) h fits = (h.0, h.1, refl, tt)
fits_neat (p ∷ q ∷ bits) h fits = (h.0, h.1, fits_stops p.kind q.kind p.bytes q.bytes h.2.0 h.1 h.2.1 fits.0, fits_neat (q ∷ bits) h.2 fits.1)

-- ---- pieces of a source

tried_loose : (g : Group) (k : Kind) → is_tried g k ≡ true → is_loose k ≡ true
tried_loose g (Token t) h = refl
tried_loose g Comment h = refl
tried_loose g Blank h = refl
tried_loose g LineEnd h = refl
tried_loose Quoted _ h = absurd (false≢true h)
tried_loose _ _ h = absurd (false≢true h)

-- a piece of a source is spelled there as its kind is
pub source_bit : (source : List ℕ) (at : ℕ) (p : Piece) (rest : List Piece) (to : ℕ) → Cuts source at (p ∷ rest) to → (is_loose p.kind ≡ true) × Spells p.kind (slice_range source p.span.from p.span.to)
source_bit source at p rest to cut =
    (tried_loose (group_of (drop at source)) p.kind cut.2.tried, subst (λ i. Spells p.kind (take (p.span.to - p.span.from) (drop i source))) (sym cut.0) cut.2.spelled)

-- ---- why a `[` is kept from `=`

-- each of `[`, `=` and `[` stands apart from the next, and yet no `[` begins `[=[`
pub bracket_equal : StandApart (91 ∷ []) (61 ∷ [])
bracket_equal = needed_apart (91 ∷ []) (61 ∷ []) false (Sign LeftBracket, refl) (Sign Assign, refl) refl refl

pub equal_bracket : StandApart (61 ∷ []) (91 ∷ [])
equal_bracket = needed_apart (61 ∷ []) (91 ∷ []) false (Sign Assign, refl) (Sign LeftBracket, refl) refl refl

pub not_three : IsFirst (91 ∷ 61 ∷ 91 ∷ []) (Token (Sign LeftBracket)) 1 → ⊥
not_three first = false≢true first.tried
