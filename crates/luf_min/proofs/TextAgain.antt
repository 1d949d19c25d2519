-- The text of tokens has them, behind the `#` line of a source.
use Rattle.std.proofs.Common.{◌≡◌, ℕ, zero, suc, ◌+◌, ◌-◌, ◌<◌, Bool, true, false, cond, eqb, not, ◌&&◌, List, [], ◌∷◌, ◌++◌, Option, None, Some, length, length-append, append-nil, append_assoc, take, drop, codes, refl, sym, ap, ◌∙◌, subst, arith}
use Rattle.std.specs.List.{prefix_len}
use Rattle.std.specs.Prelude.{slice_range, slice_get, map}
use Rattle.std.proofs.Math.Seq.{take-append_seam, drop-append_seam, drop-drop}
use Rattle.std.proofs.lemmas.Bool.{cond-true, cond-false, and_left, false≢true}
use Rattle.std.proofs.lemmas.Bool.Decides.{nat_tests}
use Rattle.std.proofs.lemmas.List.{length-map}
use Rattle.luf_byte.specs.Class.{is_line_byte, in_line}
use Rattle.luf_byte.specs.Front.{begins}
use Rattle.luf_lex.specs.Spelling.{Spells, IsHashLine}
use Rattle.luf_byte.specs.LineEnd.{line_end_length}
use Rattle.luf_lex.specs.First.{IsFirst, is_tried, group_of}
use Rattle.luf_lex.specs.declared.group.Group.{Group}
use Rattle.luf_lex.specs.declared.group.Group.TheVariants.{Quoted}
use Rattle.luf_lex.specs.Cut.{Cuts, IsCut, mark_length, hash_length, head_of, head_end, hash_line_of}
use Rattle.luf_lex.specs.Tokens.{tokens_of, toks_of, spellings_of}
use Rattle.luf_lex.specs.declared.token.Tok.{Tok}
use Rattle.luf_lex.specs.declared.token.Tok.TheVariants.{Sign}
use Rattle.luf_lex.specs.declared.token.Sign.TheVariants.{Hash}
use Rattle.luf_lex.specs.declared.token.Kind.{Kind}
use Rattle.luf_lex.specs.declared.token.Kind.TheVariants.{Token, LineEnd, HashLine, Mark}
use Rattle.luf_lex.specs.declared.token.Piece.{Piece}
use Rattle.luf_lex.proofs.RunLemmas.{front_passes, begins_take}
use Rattle.luf_lex.proofs.TokenLemmas.{length_tokens}
use Rattle.luf_lex.proofs.PlainLemmas.{line_end_first}
use Rattle.luf_tree.specs.Grammar.{At}
use Rattle.luf_min.specs.Text.{IsJoined, nothing, alone, apart, spaced, is_hash_line, hash_text}
use Rattle.luf_min.specs.inner.Line.{line_text}
use Rattle.luf_guard.proofs.Before.{spelled_some}
use Rattle.luf_lex.proofs.PieceSpellings.{SpelledAt, spelled_at}
use Rattle.luf_guard.proofs.Words.{run_before, begins_some, begins_front}
use Rattle.luf_neat.proofs.FirstByte.{no_line, no_mark, no_hash}
use Rattle.luf_min.proofs.TokensCut.{Spelled, BracketsStop, TextCut, with_other, text_cut}

-- ---- the tokens of a cut

abbrev bytes_of : List ℕ → Piece → List ℕ
bytes_of source p = slice_range source p.span.from p.span.to

-- each is spelled as it is in the source
pub length_spellings : (source : List ℕ) (pieces : List Piece) → length (spellings_of source pieces) ≡ length (toks_of pieces)
length_spellings source pieces = length-map (tokens_of pieces) (bytes_of source) ∙ length_tokens pieces

all_spelled : (toks : List Tok) (spellings : List (List ℕ)) → length spellings ≡ length toks → ((n : ℕ) (a : List ℕ) → slice_get spellings n ≡ Some a → SpelledAt toks n a) → Spelled toks spellings
all_spelled [] [] size each = tt
all_spelled [] (a ∷ spellings) size each = absurd (omega (arith, size))
all_spelled (t ∷ toks) [] size each = absurd (omega (arith, size))
all_spelled (t ∷ toks) (a ∷ spellings) size each =
    let one = each 0 a refl in
    let same : one.0 ≡ t = cc (one.1) in
    (subst (λ (u : Tok). Spells (Token u) a) same one.2, all_spelled toks spellings (omega (arith, size)) (λ n b found. each (suc n) b found))

pub spelled_in : (source : List ℕ) (pieces : List Piece) → IsCut source pieces → Spelled (toks_of pieces) (spellings_of source pieces)
spelled_in source pieces cut = all_spelled (toks_of pieces) (spellings_of source pieces) (length_spellings source pieces) (spelled_at source pieces cut)

-- ---- the head of a cut

-- what stands at the head of a source, where a mark ends at m and a `#` line at n
abbrev pub marked : Bool → ℕ → List Piece
marked none m = cond none [] (record { kind = Mark; span = record { from = 0; to = m } } ∷ [])

abbrev pub hashed : Bool → ℕ → ℕ → List Piece
hashed none m n = cond none [] (record { kind = HashLine; span = record { from = m; to = n } } ∷ [])

-- the pieces of the head are no tokens
head_tokens : (v w : Bool) (m n : ℕ) (rest : List Piece) → (toks_of ((marked v m ++ hashed w m n) ++ rest) ≡ toks_of rest) × (tokens_of ((marked v m ++ hashed w m n) ++ rest) ≡ tokens_of rest)
head_tokens true true m n rest = (refl, refl)
head_tokens true false m n rest = (refl, refl)
head_tokens false true m n rest = (refl, refl)
head_tokens false false m n rest = (refl, refl)

toks_behind : (source : List ℕ) (rest : List Piece) → (toks_of (head_of source ++ rest) ≡ toks_of rest) × (spellings_of source (head_of source ++ rest) ≡ spellings_of source rest)
toks_behind source rest =
    let tokens = head_tokens (eqb (mark_length source) 0) (eqb (head_end source) (mark_length source)) (mark_length source) (head_end source) rest in
    (tokens.0, ap (map (bytes_of source)) tokens.1)

-- ---- the `#` line of a cut

no_hash_tried : (g : Group) → is_tried g HashLine ≡ true → ⊥
no_hash_tried Quoted h = false≢true h
no_hash_tried _ h = false≢true h

tried_no_hash : (g : Group) (k : Kind) → is_tried g k ≡ true → is_hash_line k ≡ false
tried_no_hash g HashLine h = absurd (no_hash_tried g h)
tried_no_hash g _ h = refl

-- no `#` line stands behind the head
no_hash_behind : (source : List ℕ) (at : ℕ) (pieces : List Piece) (to : ℕ) → Cuts source at pieces to → hash_text source pieces ≡ []
no_hash_behind source at [] to cut = refl
no_hash_behind source at (p ∷ pieces) to cut =
    ap (λ v. cond v (bytes_of source p ++ codes "\n") [] ++ hash_text source pieces) (tried_no_hash (group_of (drop at source)) p.kind cut.2.tried)
    ∙ no_hash_behind source p.span.to pieces to cut.3

-- nor among the first pieces behind it
hash_none : (source : List ℕ) (v : Bool) (m n : ℕ) (rest : List Piece) → hash_text source ((marked v m ++ hashed true m n) ++ rest) ≡ hash_text source rest
hash_none source true m n rest = refl
hash_none source false m n rest = refl

hash_there : (source : List ℕ) (v : Bool) (m n : ℕ) (rest : List Piece) → hash_text source ((marked v m ++ hashed false m n) ++ rest) ≡ (slice_range source m n ++ codes "\n") ++ hash_text source rest
hash_there source true m n rest = refl
hash_there source false m n rest = refl

-- so its text is nothing where the head has none, and else the line and a line feed
hash_text_none : (source : List ℕ) (pieces : List Piece) → IsCut source pieces → eqb (head_end source) (mark_length source) ≡ true → hash_text source pieces ≡ []
hash_text_none source pieces cut none =
    ap (hash_text source) cut.head
    ∙ ap (λ w. hash_text source ((marked (eqb (mark_length source) 0) (mark_length source) ++ hashed w (mark_length source) (head_end source)) ++ cut.rest)) none
    ∙ hash_none source (eqb (mark_length source) 0) (mark_length source) (head_end source) cut.rest
    ∙ no_hash_behind source (head_end source) cut.rest (length source) cut.cut

hash_text_there : (source : List ℕ) (pieces : List Piece) → IsCut source pieces → eqb (head_end source) (mark_length source) ≡ false → hash_text source pieces ≡ slice_range source (mark_length source) (head_end source) ++ codes "\n"
hash_text_there source pieces cut some =
    ap (hash_text source) cut.head
    ∙ ap (λ w. hash_text source ((marked (eqb (mark_length source) 0) (mark_length source) ++ hashed w (mark_length source) (head_end source)) ++ cut.rest)) some
    ∙ hash_there source (eqb (mark_length source) 0) (mark_length source) (head_end source) cut.rest
    ∙ ap (λ t. (slice_range source (mark_length source) (head_end source) ++ codes "\n") ++ t) (no_hash_behind source (head_end source) cut.rest (length source) cut.cut)
    ∙ append-nil (slice_range source (mark_length source) (head_end source) ++ codes "\n")

-- that is what is written of the source's own
pub hash_text_is : (source : List ℕ) (pieces : List Piece) → IsCut source pieces → line_text (hash_line_of source) ≡ hash_text source pieces
hash_text_is source pieces cut = by_head (eqb (head_end source) (mark_length source)) refl
  where
    by_head : (w : Bool) → eqb (head_end source) (mark_length source) ≡ w → line_text (cond w None (Some (slice_range source (mark_length source) (head_end source)))) ≡ hash_text source pieces
    by_head true e = sym (hash_text_none source pieces cut e)
    by_head false e = sym (hash_text_there source pieces cut e)

-- what the head counts as a `#` line is one
hash_front : (text : List ℕ) (v : Bool) → begins (λ b. eqb b 35) text ≡ v → 0 < cond v (prefix_len in_line text) 0 → IsHashLine (take (cond v (prefix_len in_line text) 0) text)
hash_front text true e some = record { first = begins_take (λ b. eqb b 35) text (prefix_len in_line text) some ∙ e; each = front_passes in_line text }
hash_front text false e some = absurd (omega (arith, some))

hash_line_in : (source : List ℕ) → eqb (head_end source) (mark_length source) ≡ false → IsHashLine (slice_range source (mark_length source) (head_end source))
hash_line_in source some =
    let text : List ℕ = drop (mark_length source) source in
    let more : 0 < hash_length text = grind (arith, nat_tests) in
    subst (λ n. IsHashLine (take n text)) (omega arith) (hash_front text (begins (λ b. eqb b 35) text) refl more)

-- ---- the head of a text

-- what tokens are joined to begins as the first of them does
joined_apart : (p : ℕ → Bool) (toks : List Tok) {spellings : List (List ℕ)} {text : List ℕ} → IsJoined spellings text → Spelled toks spellings
    → ((t : Tok) (a : List ℕ) → At toks 0 t → Spells (Token t) a → begins p a ≡ false) → begins p text ≡ false
joined_apart p toks nothing h none = refl
joined_apart p [] alone h none = absurd h
joined_apart p (t ∷ toks) (alone {a}) h none = none t a refl h.0
joined_apart p [] (apart s j) h none = absurd h
joined_apart p (t ∷ toks) (apart {a} {text} s j) h none = begins_front p a text (spelled_some t a h.0) ∙ none t a refl h.0
joined_apart p [] (spaced s j) h none = absurd h
joined_apart p (t ∷ toks) (spaced {a} {text} s j) h none = begins_front p a (codes " " ++ text) (spelled_some t a h.0) ∙ none t a refl h.0

no_mark_length : (text : List ℕ) → begins (λ b. eqb 239 b) text ≡ false → mark_length text ≡ 0
no_mark_length [] h = refl
no_mark_length (b ∷ text) h = cond-false _ _ _ (and_left _ _ h)

no_hash_length : (text : List ℕ) → begins (λ b. eqb b 35) text ≡ false → hash_length text ≡ 0
no_hash_length text h = cond-false _ _ _ h

-- where the head ends
end_of : (text : List ℕ) (n : ℕ) → mark_length text ≡ 0 → hash_length text ≡ n → head_end text ≡ n
end_of text n mark hash =
    let behind : hash_length (drop (mark_length text) text) ≡ n = ap (λ i. hash_length (drop i text)) mark ∙ hash in
    omega (arith, mark, behind)

hash_no_mark : (a : List ℕ) → begins (λ b. eqb b 35) a ≡ true → begins (λ b. eqb 239 b) a ≡ false
hash_no_mark [] h = refl
hash_no_mark (b ∷ a) h = grind (arith, nat_tests)

-- a text that begins with a `#` line has no mark
hash_mark : (a x : List ℕ) → IsHashLine a → mark_length (a ++ 10 ∷ x) ≡ 0
hash_mark a x h =
    no_mark_length (a ++ 10 ∷ x) (begins_front (λ b. eqb 239 b) a (10 ∷ x) (begins_some (λ b. eqb b 35) a h.first) ∙ hash_no_mark a h.first)

-- a `#` line and a line feed end the head behind the line
hash_end : (a x : List ℕ) → IsHashLine a → head_end (a ++ 10 ∷ x) ≡ length a
hash_end a x h =
    let some = begins_some (λ b. eqb b 35) a h.first in
    end_of (a ++ 10 ∷ x) (length a) (hash_mark a x h)
    (cond-true _ _ _ (begins_front (λ b. eqb b 35) a (10 ∷ x) some ∙ h.first) ∙ run_before in_line a (10 ∷ x) h.each refl)

-- a text without a head has no `#` line
hash_text_plain : (text : List ℕ) (pieces : List Piece) → IsCut text pieces → mark_length text ≡ 0 → head_end text ≡ 0 → hash_text text pieces ≡ []
hash_text_plain text pieces cut mark end = hash_text_none text pieces cut (ap (λ i. eqb i (mark_length text)) end ∙ ap (λ i. eqb 0 i) mark)

not_empty : (a : List ℕ) → begins (λ b. eqb b 35) a ≡ true → eqb (length a) 0 ≡ false
not_empty a h =
    let some = begins_some (λ b. eqb b 35) a h in
    grind (arith, nat_tests)

-- the `#` line of a text that begins with one
hash_text_front : (a x : List ℕ) (pieces : List Piece) → IsHashLine a → IsCut (a ++ 10 ∷ x) pieces → hash_text (a ++ 10 ∷ x) pieces ≡ a ++ codes "\n"
hash_text_front a x pieces h cut =
    let text : List ℕ = a ++ 10 ∷ x in
    let mark : mark_length text ≡ 0 = hash_mark a x h in
    let end : head_end text ≡ length a = hash_end a x h in
    let size : head_end text - 0 ≡ length a = omega (arith, end) in
    hash_text_there text pieces cut (ap (λ i. eqb i (mark_length text)) end ∙ ap (λ i. eqb (length a) i) mark ∙ not_empty a h.first)
    ∙ ap (λ i. slice_range text i (head_end text) ++ codes "\n") mark
    ∙ ap (λ i. take i text ++ codes "\n") size
    ∙ ap (λ t. t ++ codes "\n") (take-append_seam a (10 ∷ x))

-- a line feed before what begins with no byte of a line end is a piece
feed_length : (x : List ℕ) → begins is_line_byte x ≡ false → 1 ≡ line_end_length (10 ∷ x)
feed_length [] stop = refl
feed_length (c ∷ x) stop = sym (ap (λ v. cond (v && not (eqb 10 c)) 2 1) stop)

feed_first : (x : List ℕ) → begins is_line_byte x ≡ false → IsFirst (10 ∷ x) LineEnd 1
feed_first x stop = line_end_first (10 ∷ x) 1 refl refl (feed_length x stop)

-- ---- the tokens of the text

-- a text with these tokens, spelled so, and the `#` line of a source
pub record TextAgain (source : List ℕ) (pieces : List Piece) (toks : List Tok) (spellings : List (List ℕ)) (text : List ℕ) : Type 0 where
  pub others : List Piece
  pub cut : IsCut text others
  pub toks_are : toks_of others ≡ toks
  pub spellings_are : spellings_of text others ≡ spellings
  pub hash : hash_text text others ≡ hash_text source pieces

-- a text that is cut into tokens behind its own head
whole : (source text : List ℕ) (pieces : List Piece) (toks : List Tok) (spellings : List (List ℕ)) → TextCut text (head_end text) toks spellings
    → ((others : List Piece) → IsCut text others → hash_text text others ≡ hash_text source pieces) → TextAgain source pieces toks spellings text
whole source text pieces toks spellings again hash =
    let behind = toks_behind text again.pieces in
    let cut : IsCut text (head_of text ++ again.pieces) = record { rest = again.pieces; head = refl; cut = again.cut } in
    record { others = head_of text ++ again.pieces; cut = cut; toks_are = behind.0 ∙ again.toks_are; spellings_are = behind.1 ∙ again.spellings_are; hash = hash (head_of text ++ again.pieces) cut }

pub text_again : (source : List ℕ) (pieces : List Piece) (toks : List Tok) (spellings : List (List ℕ)) (tokens : List ℕ) → IsCut source pieces → Spelled toks spellings → BracketsStop toks → (At toks 0 (Sign Hash) → ⊥) → IsJoined spellings tokens
    → TextAgain source pieces toks spellings (hash_text source pieces ++ tokens)
text_again source pieces toks spellings tokens is_cut spelled brackets no_hash_first joined = by_head (eqb (head_end source) (mark_length source)) refl
  where
    mark : begins (λ b. eqb 239 b) tokens ≡ false
    mark = joined_apart (λ b. eqb 239 b) toks joined spelled (λ t a at h. no_mark t a h)

    hash : begins (λ b. eqb b 35) tokens ≡ false
    hash = joined_apart (λ b. eqb b 35) toks joined spelled (λ t a at h. no_hash t a h (λ e. no_hash_first (at ∙ ap Some e)))

    line : begins is_line_byte tokens ≡ false
    line = joined_apart is_line_byte toks joined spelled (λ t a at h. no_line t a h)

    by_head : (v : Bool) → eqb (head_end source) (mark_length source) ≡ v → TextAgain source pieces toks spellings (hash_text source pieces ++ tokens)
    by_head true none =
        let text : hash_text source pieces ++ tokens ≡ tokens = ap (λ h. h ++ tokens) (hash_text_none source pieces is_cut none) in
        let no_mark : mark_length tokens ≡ 0 = no_mark_length tokens mark in
        let end : head_end tokens ≡ 0 = end_of tokens 0 no_mark (no_hash_length tokens hash) in
        subst (λ t. TextAgain source pieces toks spellings t) (sym text) (whole source tokens pieces toks spellings
        (subst (λ i. TextCut tokens i toks spellings) (sym end)
        (text_cut tokens 0 toks joined spelled brackets (omega arith) refl))
        (λ others cut. hash_text_plain tokens others cut no_mark end ∙ sym (hash_text_none source pieces is_cut none)))
    by_head false some =
        let front : List ℕ = slice_range source (mark_length source) (head_end source) in
        let all : List ℕ = front ++ 10 ∷ tokens in
        let text : hash_text source pieces ++ tokens ≡ all = ap (λ h. h ++ tokens) (hash_text_there source pieces is_cut some) ∙ append_assoc front (codes "\n") tokens in
        let behind : drop (length front) all ≡ 10 ∷ tokens = drop-append_seam front (10 ∷ tokens) in
        let line_in : IsHashLine front = hash_line_in source some in
        let end : head_end all ≡ length front = hash_end front tokens line_in in
        subst (λ t. TextAgain source pieces toks spellings t) (sym text) (whole source all pieces toks spellings
        (subst (λ i. TextCut all i toks spellings) (sym end)
        (with_other all (length front) LineEnd (codes "\n") tokens toks spellings refl refl behind (feed_first tokens line)
        (text_cut all (length front + 1) toks joined spelled brackets (omega (arith, length-append front (10 ∷ tokens)))
        (sym (drop-drop 1 (length front) all) ∙ ap (drop 1) behind))))
        (λ others cut. hash_text_front front tokens others line_in cut ∙ sym (hash_text_there source pieces is_cut some)))
