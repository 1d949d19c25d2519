-- A source has at most one cut and at most one fault, and never both.
use Rattle.std.proofs.Common.{◌≡◌, ℕ, ◌-◌, true, List, [], ◌∷◌, ◌++◌, length, take, drop, length-drop, refl, sym, ap, ◌∙◌, subst, arith}
use Rattle.std.proofs.lemmas.Bool.{false≢true}
use Rattle.luf_byte.specs.Class.{is_line_byte, is_letter, is_word_byte, is_blank}
use Rattle.luf_byte.specs.Front.{begins}
use Rattle.luf_lex.specs.Word.{word_spelling}
use Rattle.luf_lex.specs.Sign.{sign_spelling}
use Rattle.luf_lex.specs.Spelling.{Spells, IsName}
use Rattle.luf_lex.specs.First.{group_of, is_tried, IsFirst, IsFault, HasNone}
use Rattle.luf_lex.specs.declared.group.Group.{Group}
use Rattle.luf_lex.specs.declared.group.Group.TheVariants.{Quoted, Bracketed, Commented, Numeric, Other}
use Rattle.luf_lex.specs.Cut.{Cuts, IsCut, IsLexFault, head_of, head_end}
use Rattle.luf_lex.specs.declared.fault.LexWhat.{LexWhat}
use Rattle.luf_lex.specs.declared.token.Word.{Word as Keyword}
use Rattle.luf_lex.specs.declared.token.Sign.{Sign as Mark}
use Rattle.luf_lex.specs.declared.token.Tok.TheVariants.{Name, Word, Sign}
use Rattle.luf_lex.specs.declared.token.Kind.{Kind}
use Rattle.luf_lex.specs.declared.token.Kind.TheVariants.{Token, Blank, LineEnd}
use Rattle.luf_lex.specs.declared.token.Piece.{Piece}
use Rattle.luf_lex.proofs.RunLemmas.{begins_apart, begins_weaker}
use Rattle.luf_lex.proofs.PlainLemmas.{letter_is_word, letter_is_no_blank, letter_is_no_line, blank_is_no_line, keyword_letter, sign_apart, sign_no_word, sign_no_blank, sign_no_line, line_end_is_line}
use Rattle.luf_lex.proofs.WordsAndSigns.{word_is_one, sign_is_one}
use Rattle.luf_lex.proofs.LoneKind.{quoted_kind, bracketed_kind, commented_kind}
use Rattle.luf_lex.proofs.FaultLaws.{numeric_kind, one_length, fault_has_none, one_fault as one_cause}

-- ---- where nothing else begins, a text is spelled by one kind

letter_kind : (text : List ℕ) (k : Kind) → is_tried Other k ≡ true → begins is_letter text ≡ true → Spells k text → (P : Kind → Type 0) → (IsName text → P (Token Name)) → ((w : Keyword) → word_spelling w ≡ text → P (Token (Word w))) → P k
letter_kind text (Token Name) tried l h P name word = name h
letter_kind text (Token (Word w)) tried l h P name word = word w h
letter_kind text (Token (Sign s)) tried l h P name word = absurd (sign_apart is_word_byte s text (sign_no_word s) h (begins_weaker is_letter is_word_byte letter_is_word text l))
letter_kind text Blank tried l h P name word = absurd (begins_apart is_letter is_blank letter_is_no_blank text l h.first)
letter_kind text LineEnd tried l h P name word = absurd (begins_apart is_letter is_line_byte letter_is_no_line text l (line_end_is_line text h))
letter_kind text _ tried l h P name word = absurd (false≢true tried)

sign_kind : (text : List ℕ) (s : Mark) (k : Kind) → is_tried Other k ≡ true → sign_spelling s ≡ text → Spells k text → Token (Sign s) ≡ k
sign_kind text s (Token Name) tried e h = absurd (sign_apart is_word_byte s text (sign_no_word s) e (begins_weaker is_letter is_word_byte letter_is_word text h.first))
sign_kind text s (Token (Word w)) tried e h = absurd (sign_apart is_word_byte s text (sign_no_word s) e (begins_weaker is_letter is_word_byte letter_is_word text (keyword_letter text w h)))
sign_kind text s (Token (Sign r)) tried e h = ap (λ x. Token (Sign x)) (sign_is_one s r (e ∙ sym h))
sign_kind text s Blank tried e h = absurd (sign_apart is_blank s text (sign_no_blank s) e h.first)
sign_kind text s LineEnd tried e h = absurd (sign_apart is_line_byte s text (sign_no_line s) e (line_end_is_line text h))
sign_kind text s _ tried e h = absurd (false≢true tried)

blank_kind : (text : List ℕ) (k : Kind) → is_tried Other k ≡ true → begins is_blank text ≡ true → Spells k text → Blank ≡ k
blank_kind text (Token Name) tried b h = absurd (begins_apart is_letter is_blank letter_is_no_blank text h.first b)
blank_kind text (Token (Word w)) tried b h = absurd (begins_apart is_letter is_blank letter_is_no_blank text (keyword_letter text w h) b)
blank_kind text (Token (Sign s)) tried b h = absurd (sign_apart is_blank s text (sign_no_blank s) h b)
blank_kind text Blank tried b h = refl
blank_kind text LineEnd tried b h = absurd (begins_apart is_blank is_line_byte blank_is_no_line text b (line_end_is_line text h))
blank_kind text _ tried b h = absurd (false≢true tried)

line_kind : (text : List ℕ) (k : Kind) → is_tried Other k ≡ true → begins is_line_byte text ≡ true → Spells k text → LineEnd ≡ k
line_kind text (Token Name) tried b h = absurd (begins_apart is_letter is_line_byte letter_is_no_line text h.first b)
line_kind text (Token (Word w)) tried b h = absurd (begins_apart is_letter is_line_byte letter_is_no_line text (keyword_letter text w h) b)
line_kind text (Token (Sign s)) tried b h = absurd (sign_apart is_line_byte s text (sign_no_line s) h b)
line_kind text Blank tried b h = absurd (begins_apart is_blank is_line_byte blank_is_no_line text h.first b)
line_kind text LineEnd tried b h = refl
line_kind text _ tried b h = absurd (false≢true tried)

plain_kind : (text : List ℕ) (k j : Kind) → is_tried Other k ≡ true → is_tried Other j ≡ true → Spells k text → Spells j text → k ≡ j
plain_kind text (Token Name) j tried also h g = letter_kind text j also h.first g (λ i. Token Name ≡ i) (λ _. refl) (λ w e. absurd (h.no_keyword w e))
plain_kind text (Token (Word w)) j tried also h g = letter_kind text j also (keyword_letter text w h) g (λ i. Token (Word w) ≡ i) (λ n. absurd (n.no_keyword w h)) (λ v e. ap (λ x. Token (Word x)) (word_is_one w v (h ∙ sym e)))
plain_kind text (Token (Sign s)) j tried also h g = sign_kind text s j also h g
plain_kind text Blank j tried also h g = blank_kind text j also h.first g
plain_kind text LineEnd j tried also h g = line_kind text j also (line_end_is_line text h) g
plain_kind text _ j tried also h g = absurd (false≢true tried)

-- of the kinds that are tried at a place, one at most spells a text
pub one_kind : (group : Group) (text : List ℕ) (k j : Kind) → is_tried group k ≡ true → is_tried group j ≡ true → Spells k text → Spells j text → k ≡ j
one_kind Quoted text k j tried also h g = quoted_kind k tried ∙ sym (quoted_kind j also)
one_kind Bracketed text k j tried also h g = bracketed_kind k tried ∙ sym (bracketed_kind j also)
one_kind Commented text k j tried also h g = commented_kind k tried ∙ sym (commented_kind j also)
one_kind Numeric text k j tried also h g = numeric_kind k tried ∙ sym (numeric_kind j also)
one_kind Other text k j tried also h g = plain_kind text k j tried also h g

-- ---- a text has one first piece

pub one_first : (text : List ℕ) (k j : Kind) (m n : ℕ) → IsFirst text k m → IsFirst text j n → (k ≡ j) × (m ≡ n)
one_first text k j m n a b =
    let size : m ≡ n = one_length text k j m n a b in
    (one_kind (group_of text) (take m text) k j a.tried b.tried a.spelled (subst (λ i. Spells j (take i text)) (sym size) b.spelled), size)

abbrev made : Kind → ℕ → ℕ → Piece
made kind from to = record { kind = kind; span = record { from = from; to = to } }

piece_is : (p q : Piece) → p.kind ≡ q.kind → p.span.from ≡ q.span.from → p.span.to ≡ q.span.to → p ≡ q
piece_is p q k f t =
    ap (λ x. made x p.span.from p.span.to) k ∙ ap (λ x. made q.kind x p.span.to) f ∙ ap (λ x. made q.kind q.span.from x) t

-- two cuts from one place go on alike
step : (source : List ℕ) (at : ℕ) (p q : Piece) (pieces others : List Piece) (m n : ℕ) → Cuts source at (p ∷ pieces) m → Cuts source at (q ∷ others) n → p ≡ q
step source at p q pieces others m n cut whole =
    let first = one_first (drop at source) p.kind q.kind _ _ cut.2 whole.2 in
    piece_is p q first.0 (cut.0 ∙ sym whole.0) (omega (arith, cut.0, cut.1, whole.0, whole.1, first.1))

-- and end alike, where no piece begins behind them
same_stop : (source : List ℕ) (at : ℕ) (pieces others : List Piece) (m n : ℕ) → Cuts source at pieces m → Cuts source at others n → HasNone (drop m source) → HasNone (drop n source) → (pieces ≡ others) × (m ≡ n)
same_stop source at [] [] m n cut whole none nor = (refl, sym cut ∙ whole)
same_stop source at [] (q ∷ others) m n cut whole none nor = absurd (none q.kind (q.span.to - q.span.from) (subst (λ i. IsFirst (drop i source) q.kind (q.span.to - q.span.from)) cut whole.2))
same_stop source at (p ∷ pieces) [] m n cut whole none nor = absurd (nor p.kind (p.span.to - p.span.from) (subst (λ i. IsFirst (drop i source) p.kind (p.span.to - p.span.from)) whole cut.2))
same_stop source at (p ∷ pieces) (q ∷ others) m n cut whole none nor =
    let same : p ≡ q = step source at p q pieces others m n cut whole in
    let rest = same_stop source p.span.to pieces others m n cut.3 (subst (λ (x : Piece). Cuts source x.span.to others n) (sym same) whole.3) none nor in
    (ap (λ (x : Piece). x ∷ pieces) same ∙ ap (λ (xs : List Piece). q ∷ xs) rest.0, rest.1)

-- no piece begins at the end
none_at_end : (source : List ℕ) → HasNone (drop (length source) source)
none_at_end source kind n h = omega (arith, h.some, h.within, length-drop (length source) source)

-- ---- the laws

pub one_cut : (source : List ℕ) (pieces others : List Piece) → IsCut source pieces → IsCut source others → pieces ≡ others
one_cut source pieces others cut whole =
    let rest = same_stop source (head_end source) cut.rest whole.rest (length source) (length source) cut.cut whole.cut (none_at_end source) (none_at_end source) in
    cut.head ∙ ap (λ ps. head_of source ++ ps) rest.0 ∙ sym whole.head

pub cut_excludes_fault : (source : List ℕ) (pieces : List Piece) (at : ℕ) (what : LexWhat) → IsCut source pieces → IsLexFault source at what → ⊥
cut_excludes_fault source pieces at what cut fault =
    let stop = same_stop source (head_end source) cut.rest fault.pieces (length source) at cut.cut fault.before (none_at_end source) (fault_has_none fault.fault) in
    omega (arith, stop.1, fault.inside)

pub one_fault : (source : List ℕ) (at else_at : ℕ) (what other : LexWhat) → IsLexFault source at what → IsLexFault source else_at other → (at ≡ else_at) × (what ≡ other)
one_fault source at else_at what other fault also =
    let stop = same_stop source (head_end source) fault.pieces also.pieces at else_at fault.before also.before (fault_has_none fault.fault) (fault_has_none also.fault) in
    (stop.1, one_cause (drop at source) what other fault.fault (subst (λ i. IsFault (drop i source) other) (sym stop.1) also.fault))
