-- A neat list of pieces is the cut of its text.
use Rattle.std.proofs.Common.{◌≡◌, ℕ, ◌+◌, ◌-◌, ◌≤◌, inl, inr, Bool, true, false, cond, eqb, List, [], ◌∷◌, ◌++◌, length, length-append, length-drop, take, drop, refl, sym, ap, ◌∙◌, subst, arith}
use Rattle.std.specs.Prelude.{map, slice_range}
use Rattle.std.specs.Option.{option_to_list}
use Rattle.std.proofs.Math.Seq.{take-append_seam, drop-append_seam, drop-drop}
use Rattle.std.proofs.lemmas.Bool.{and_left, cond-true, cond-false, false≢true}
use Rattle.std.proofs.lemmas.Bool.Decides.{nat_tests}
use Rattle.luf_byte.specs.LineEnd.{IsLineEnd}
use Rattle.luf_byte.specs.Class.{is_blank, in_line}
use Rattle.luf_byte.specs.Front.{begins}
use Rattle.luf_lex.specs.Spelling.{Spells, IsHashLine}
use Rattle.luf_lex.specs.First.{IsFirst}
use Rattle.luf_lex.specs.Cut.{Cuts, IsCut, mark_length, hash_length, head_end, head_of}
use Rattle.luf_lex.specs.Tokens.{is_token, tok_of, tokens_of, toks_of, spellings_of}
use Rattle.luf_lex.specs.declared.token.Tok.{Tok}
use Rattle.luf_lex.specs.declared.token.Tok.TheVariants.{Sign}
use Rattle.luf_lex.specs.declared.token.Sign.TheVariants.{Hash}
use Rattle.luf_lex.specs.declared.token.Kind.{Kind}
use Rattle.luf_lex.specs.declared.token.Kind.TheVariants.{Token, Comment, Blank, LineEnd, HashLine, Mark}
use Rattle.luf_lex.specs.declared.token.Piece.{Piece}
use Rattle.luf_guard.proofs.Words.{run_before, begins_some, begins_front}
use Rattle.luf_neat.proofs.FirstByte.{no_mark, no_hash}
use Rattle.luf_neat.specs.Pieces.{lengthens, is_loose, Bit, joined, next_bytes, Neat, pieces_at, NoHashFirst}
use Rattle.luf_neat.proofs.Neat.{piece_some, piece_first}

-- a text begins as its first piece does
pub joined_front : (test : ℕ → Bool) (bits : List Bit) → Neat bits → begins test (joined bits) ≡ begins test (next_bytes bits)
joined_front test [] neat = refl
joined_front test (p ∷ bits) neat = begins_front test p.bytes (joined bits) (piece_some p.kind p.bytes neat.0 neat.1)

pub neat_cuts : (source : List ℕ) (at : ℕ) (bits : List Bit) → Neat bits → at ≤ length source → drop at source ≡ joined bits → Cuts source at (pieces_at at bits) (length source)
neat_cuts source at [] neat within e = omega (arith, length-drop at source, ap length e)
neat_cuts source at (p ∷ bits) neat within e =
    let first : IsFirst (p.bytes ++ joined bits) p.kind (length p.bytes) = piece_first p.kind p.bytes (joined bits) neat.0 neat.1 (joined_front (lengthens p.kind p.bytes) bits neat.3 ∙ neat.2) in
    let size : length p.bytes ≡ at + length p.bytes - at = omega arith in
    let behind : drop (at + length p.bytes) source ≡ joined bits = sym (drop-drop (length p.bytes) at source) ∙ ap (drop (length p.bytes)) e ∙ drop-append_seam p.bytes (joined bits) in (
      refl,
      omega arith,
      subst (λ n. IsFirst (drop at source) p.kind n) size (subst (λ s. IsFirst s p.kind (length p.bytes)) (sym e) first),
      neat_cuts source (at + length p.bytes) bits neat.3 (omega (arith, length-drop at source, ap length e, length-append p.bytes (joined bits))) behind,
    )

-- ---- the head

pub comment_front : (test : ℕ → Bool) (a : List ℕ) → test 45 ≡ false → Spells Comment a → begins test a ≡ false
comment_front test a dash (inl c) = ap (begins test) c.spelled ∙ dash
comment_front test a dash (inr c) = ap (begins test) c.spelled ∙ dash

pub line_front : (test : ℕ → Bool) (a : List ℕ) → test 10 ≡ false → test 13 ≡ false → IsLineEnd a → begins test a ≡ false
line_front test a feed return (inl e) = ap (begins test) e ∙ feed
line_front test a feed return (inr (inl e)) = ap (begins test) e ∙ return
line_front test a feed return (inr (inr (inl e))) = ap (begins test) e ∙ feed
line_front test a feed return (inr (inr (inr e))) = ap (begins test) e ∙ return

blank_no_mark : (a : List ℕ) → begins is_blank a ≡ true → begins (λ b. eqb 239 b) a ≡ false
blank_no_mark [] h = refl
blank_no_mark (b ∷ a) h = grind (arith, nat_tests)

blank_no_hash : (a : List ℕ) → begins is_blank a ≡ true → begins (λ b. eqb b 35) a ≡ false
blank_no_hash [] h = refl
blank_no_hash (b ∷ a) h = grind (arith, nat_tests)

-- no piece begins as a mark does, and only the sign `#` as a `#` line
piece_no_mark : (k : Kind) (a : List ℕ) → is_loose k ≡ true → Spells k a → begins (λ b. eqb 239 b) a ≡ false
piece_no_mark (Token t) a loose h = no_mark t a h
piece_no_mark Comment a loose h = comment_front (λ b. eqb 239 b) a refl h
piece_no_mark Blank a loose h = blank_no_mark a h.first
piece_no_mark LineEnd a loose h = line_front (λ b. eqb 239 b) a refl refl h
piece_no_mark _ a loose h = absurd (false≢true loose)

piece_no_hash : (k : Kind) (a : List ℕ) → is_loose k ≡ true → Spells k a → (k ≡ Token (Sign Hash) → ⊥) → begins (λ b. eqb b 35) a ≡ false
piece_no_hash (Token t) a loose h other = no_hash t a h (λ e. other (ap Token e))
piece_no_hash Comment a loose h other = comment_front (λ b. eqb b 35) a refl h
piece_no_hash Blank a loose h other = blank_no_hash a h.first
piece_no_hash LineEnd a loose h other = line_front (λ b. eqb b 35) a refl refl h
piece_no_hash _ a loose h other = absurd (false≢true loose)

neat_no_mark : (bits : List Bit) → Neat bits → begins (λ b. eqb 239 b) (next_bytes bits) ≡ false
neat_no_mark [] neat = refl
neat_no_mark (p ∷ bits) neat = piece_no_mark p.kind p.bytes neat.0 neat.1

neat_no_hash : (bits : List Bit) → Neat bits → NoHashFirst bits → begins (λ b. eqb b 35) (next_bytes bits) ≡ false
neat_no_hash [] neat other = refl
neat_no_hash (p ∷ bits) neat other = piece_no_hash p.kind p.bytes neat.0 neat.1 other

no_mark_length : (text : List ℕ) → begins (λ b. eqb 239 b) text ≡ false → mark_length text ≡ 0
no_mark_length [] h = refl
no_mark_length (b ∷ text) h = cond-false _ _ _ (and_left _ _ h)

end_of : (text : List ℕ) (n : ℕ) → mark_length text ≡ 0 → hash_length text ≡ n → head_end text ≡ n
end_of text n mark hash =
    let behind : hash_length (drop (mark_length text) text) ≡ n = ap (λ i. hash_length (drop i text)) mark ∙ hash in
    omega (arith, mark, behind)

-- what the head is, where a mark ends at m and a `#` line at n
abbrev head_at : ℕ → ℕ → List Piece
head_at m n =
    cond (eqb m 0) [] (record { kind = Mark; span = record { from = 0; to = m } } ∷ [])
    ++ cond (eqb n m) [] (record { kind = HashLine; span = record { from = m; to = n } } ∷ [])

head_is : (text : List ℕ) (n : ℕ) → mark_length text ≡ 0 → head_end text ≡ n → head_of text ≡ head_at 0 n
head_is text n mark end = ap (λ m. head_at m (head_end text)) mark ∙ ap (λ i. head_at 0 i) end

pub neat_cut : (bits : List Bit) → Neat bits → NoHashFirst bits → IsCut (joined bits) (pieces_at 0 bits)
neat_cut bits neat other =
    let mark : mark_length (joined bits) ≡ 0 = no_mark_length (joined bits) (joined_front (λ b. eqb 239 b) bits neat ∙ neat_no_mark bits neat) in
    let hash : hash_length (joined bits) ≡ 0 = cond-false _ _ _ (joined_front (λ b. eqb b 35) bits neat ∙ neat_no_hash bits neat other) in
    let end : head_end (joined bits) ≡ 0 = end_of (joined bits) 0 mark hash in
    record {
      rest = pieces_at 0 bits;
      head = ap (λ h. h ++ pieces_at 0 bits) (sym (head_is (joined bits) 0 mark end));
      cut = subst (λ i. Cuts (joined bits) i (pieces_at 0 bits) (length (joined bits))) (sym end) (neat_cuts (joined bits) 0 bits neat (omega arith) refl);
    }

-- ---- behind a `#` line

hash_no_mark : (a : List ℕ) → begins (λ b. eqb b 35) a ≡ true → begins (λ b. eqb 239 b) a ≡ false
hash_no_mark [] h = refl
hash_no_mark (b ∷ a) h = grind (arith, nat_tests)

not_empty : (a : List ℕ) → begins (λ b. eqb b 35) a ≡ true → eqb (length a) 0 ≡ false
not_empty a h =
    let some = begins_some (λ b. eqb b 35) a h in
    grind (arith, nat_tests)

abbrev hash_piece : ℕ → Piece
hash_piece n = record { kind = HashLine; span = record { from = 0; to = n } }

pub neat_hash_cut : (a : List ℕ) (bits : List Bit) → IsHashLine a → begins in_line (next_bytes bits) ≡ false → Neat bits → IsCut (a ++ joined bits) (record { kind = HashLine; span = record { from = 0; to = length a } } ∷ pieces_at (length a) bits)
neat_hash_cut a bits h stop neat =
    let text : List ℕ = a ++ joined bits in
    let some = begins_some (λ b. eqb b 35) a h.first in
    let mark : mark_length text ≡ 0 = no_mark_length text (begins_front (λ b. eqb 239 b) a (joined bits) some ∙ hash_no_mark a h.first) in
    let hash : hash_length text ≡ length a =
    cond-true _ _ _ (begins_front (λ b. eqb b 35) a (joined bits) some ∙ h.first) ∙ run_before in_line a (joined bits) h.each (joined_front in_line bits neat ∙ stop) in
    let end : head_end text ≡ length a = end_of text (length a) mark hash in
    let front : head_of text ≡ hash_piece (length a) ∷ [] = head_is text (length a) mark end ∙ ap (λ v. cond v [] (hash_piece (length a) ∷ [])) (not_empty a h.first) in
    record {
      rest = pieces_at (length a) bits;
      head = ap (λ h. h ++ pieces_at (length a) bits) (sym front);
      cut = subst (λ i. Cuts text i (pieces_at (length a) bits) (length text)) (sym end)
          (neat_cuts text (length a) bits neat (omega (arith, length-append a (joined bits))) (drop-append_seam a (joined bits)));
    }

-- ---- its tokens

abbrev pub bit_toks : List Bit → List Tok
bit_toks [] = []
bit_toks (p ∷ bits) = option_to_list (tok_of p.kind) ++ bit_toks bits

abbrev pub bit_spellings : List Bit → List (List ℕ)
bit_spellings [] = []
bit_spellings (p ∷ bits) = cond (is_token p.kind) (p.bytes ∷ bit_spellings bits) (bit_spellings bits)

pub neat_toks : (at : ℕ) (bits : List Bit) → toks_of (pieces_at at bits) ≡ bit_toks bits
neat_toks at [] = refl
neat_toks at (p ∷ bits) = ap (λ ts. option_to_list (tok_of p.kind) ++ ts) (neat_toks (at + length p.bytes) bits)

abbrev bytes_of : List ℕ → Piece → List ℕ
bytes_of source p = slice_range source p.span.from p.span.to

map_cond : (source : List ℕ) (v : Bool) (p : Piece) (rest : List Piece) → map (bytes_of source) (cond v (p ∷ rest) rest) ≡ cond v (bytes_of source p ∷ map (bytes_of source) rest) (map (bytes_of source) rest)
map_cond source true p rest = refl
map_cond source false p rest = refl

take_front : (source a x : List ℕ) (at : ℕ) → drop at source ≡ a ++ x → slice_range source at (at + length a) ≡ a
take_front source a x at e = ap (λ n. take n (drop at source)) (omega arith) ∙ ap (take (length a)) e ∙ take-append_seam a x

pub neat_spellings : (source : List ℕ) (at : ℕ) (bits : List Bit) → drop at source ≡ joined bits → spellings_of source (pieces_at at bits) ≡ bit_spellings bits
neat_spellings source at [] e = refl
neat_spellings source at (p ∷ bits) e =
    let behind : drop (at + length p.bytes) source ≡ joined bits = sym (drop-drop (length p.bytes) at source) ∙ ap (drop (length p.bytes)) e ∙ drop-append_seam p.bytes (joined bits) in
    let piece : Piece = record { kind = p.kind; span = record { from = at; to = at + length p.bytes } } in
    map_cond source (is_token p.kind) piece (tokens_of (pieces_at (at + length p.bytes) bits))
    ∙ ap (λ (b : List ℕ). cond (is_token p.kind) (b ∷ spellings_of source (pieces_at (at + length p.bytes) bits)) (spellings_of source (pieces_at (at + length p.bytes) bits))) (take_front source p.bytes (joined bits) at e)
    ∙ ap (λ (ss : List (List ℕ)). cond (is_token p.kind) (p.bytes ∷ ss) ss) (neat_spellings source (at + length p.bytes) bits behind)
