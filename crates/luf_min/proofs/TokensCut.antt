-- The text of tokens is cut into them again.
use Rattle.std.proofs.Common.{◌≡◌, ℕ, suc, ◌+◌, ◌<◌, ◌≤◌, false, cond, eqb, List, [], ◌∷◌, ◌++◌, Some, None, length, length-append, length-drop, append-nil, take, drop, refl, sym, ap, ◌∙◌, subst, arith}
use Rattle.std.specs.List.{prefix_len}
use Rattle.std.specs.Prelude.{slice_range, slice_get, map}
use Rattle.std.specs.Option.{option_to_list}
use Rattle.std.proofs.Math.Seq.{take-append_seam, drop-append_seam, drop-drop}
use Rattle.std.proofs.lemmas.Bool.{cond-false}
use Rattle.luf_byte.specs.Class.{is_blank}
use Rattle.luf_byte.specs.Front.{begins}
use Rattle.luf_lex.specs.Spelling.{Spells}
use Rattle.luf_lex.specs.First.{IsFirst}
use Rattle.luf_lex.specs.Cut.{Cuts}
use Rattle.luf_lex.specs.Tokens.{is_token, tok_of, tokens_of, toks_of, spellings_of}
use Rattle.luf_lex.specs.declared.token.Tok.{Tok}
use Rattle.luf_lex.specs.declared.token.Tok.TheVariants.{Sign}
use Rattle.luf_lex.specs.declared.token.Sign.TheVariants.{Assign, Equal, LeftBracket}
use Rattle.luf_lex.specs.declared.token.Kind.{Kind}
use Rattle.luf_lex.specs.declared.token.Kind.TheVariants.{Token, Blank}
use Rattle.luf_lex.specs.declared.token.Piece.{Piece}
use Rattle.luf_lex.proofs.PlainLemmas.{blank_first}
use Rattle.luf_tree.specs.Grammar.{At}
use Rattle.luf_min.specs.Text.{IsJoined, nothing, alone, apart, spaced}
use Rattle.luf_guard.proofs.Before.{Stops, first_before, spelled_some, apart_stops, stops_space, stops_nothing}
use Rattle.luf_neat.proofs.FirstByte.{no_blank, no_equal}

-- each of these tokens is spelled so
abbrev pub Spelled : List Tok → List (List ℕ) → Type 0
Spelled [] [] = Unit {0}
Spelled (t ∷ toks) (a ∷ spellings) = Spells (Token t) a × Spelled toks spellings
Spelled [] (a ∷ spellings) = ⊥
Spelled (t ∷ toks) [] = ⊥

-- no `=` or `==` follows a `[`
abbrev pub BracketsStop : List Tok → Type 0
BracketsStop toks = (k : ℕ) → At toks k (Sign LeftBracket) → (At toks (k + 1) (Sign Assign) → ⊥) × (At toks (k + 1) (Sign Equal) → ⊥)

behind_first : (t : Tok) (toks : List Tok) → BracketsStop (t ∷ toks) → BracketsStop toks
behind_first t toks h k bracket =
    let next : suc k + 1 ≡ suc (k + 1) = omega arith in
    let none = h (suc k) bracket in
    (λ assign. none.0 (ap (λ i. slice_get (t ∷ toks) i) next ∙ assign), λ equal. none.1 (ap (λ i. slice_get (t ∷ toks) i) next ∙ equal))

no_equal_next : (t u : Tok) (toks : List Tok) (b : List ℕ) → Spells (Token u) b → BracketsStop (t ∷ u ∷ toks) → t ≡ Sign LeftBracket → begins (λ c. eqb c 61) b ≡ false
no_equal_next t u toks b spelled h bracket =
    let none = h 0 (ap Some bracket) in
    no_equal u b spelled (λ e. none.0 (ap Some e)) (λ e. none.1 (ap Some e))

-- what tokens are joined to begins with the first of them
pub joined_begins : {b text : List ℕ} {rest : List (List ℕ)} → IsJoined (b ∷ rest) text → (x : List ℕ) × (text ≡ b ++ x)
joined_begins (alone {a}) = ([], sym (append-nil a))
joined_begins (apart {text} s j) = (text, refl)
joined_begins (spaced {text} s j) = (32 ∷ text, refl)

-- one space before what begins with no blank is a piece
space_before : (b x : List ℕ) → 0 < length b → begins is_blank b ≡ false → IsFirst (32 ∷ (b ++ x)) Blank 1
space_before [] x some stop = absurd (omega arith)
space_before (c ∷ b) x some stop =
    let end : prefix_len is_blank (c ∷ (b ++ x)) ≡ 0 = cond-false (is_blank c) _ _ stop in
    blank_first (32 ∷ c ∷ (b ++ x)) 1 refl refl (omega (arith, end))

-- what the text of tokens is cut into
pub record TextCut (source : List ℕ) (at : ℕ) (toks : List Tok) (spellings : List (List ℕ)) : Type 0 where
  pub pieces : List Piece
  pub cut : Cuts source at pieces (length source)
  pub toks_are : toks_of pieces ≡ toks
  pub spellings_are : spellings_of source pieces ≡ spellings

drop_past : (source a x : List ℕ) (at : ℕ) → drop at source ≡ a ++ x → drop (at + length a) source ≡ x
drop_past source a x at e = sym (drop-drop (length a) at source) ∙ ap (drop (length a)) e ∙ drop-append_seam a x

take_front : (source a x : List ℕ) (at : ℕ) → drop at source ≡ a ++ x → slice_range source at (at + length a) ≡ a
take_front source a x at e = ap (λ n. take n (drop at source)) (omega arith) ∙ ap (take (length a)) e ∙ take-append_seam a x

-- a token, and then what is cut behind it
with_token : (source : List ℕ) (at : ℕ) (t : Tok) (a x : List ℕ) (toks : List Tok) (spellings : List (List ℕ)) → drop at source ≡ a ++ x → IsFirst (a ++ x) (Token t) (length a) → TextCut source (at + length a) toks spellings → TextCut source at (t ∷ toks) (a ∷ spellings)
with_token source at t a x toks spellings e first rest = record {
  pieces = record { kind = Token t; span = record { from = at; to = at + length a } } ∷ rest.pieces;
  cut = (refl, omega arith, subst (λ n. IsFirst (drop at source) (Token t) n) (omega arith) (subst (λ s. IsFirst s (Token t) (length a)) (sym e) first), rest.cut);
  toks_are = ap (λ (ts : List Tok). t ∷ ts) rest.toks_are;
  spellings_are = ap (λ (s : List ℕ). s ∷ spellings_of source rest.pieces) (take_front source a x at e) ∙ ap (λ (ss : List (List ℕ)). a ∷ ss) rest.spellings_are;
}

-- a piece that is no token, and then what is cut behind it
pub with_other : (source : List ℕ) (at : ℕ) (kind : Kind) (a x : List ℕ) (toks : List Tok) (spellings : List (List ℕ)) → is_token kind ≡ false → tok_of kind ≡ None → drop at source ≡ a ++ x → IsFirst (a ++ x) kind (length a) → TextCut source (at + length a) toks spellings → TextCut source at toks spellings
with_other source at kind a x toks spellings plain none e first rest = record {
  pieces = record { kind = kind; span = record { from = at; to = at + length a } } ∷ rest.pieces;
  cut = (refl, omega arith, subst (λ n. IsFirst (drop at source) kind n) (omega arith) (subst (λ s. IsFirst s kind (length a)) (sym e) first), rest.cut);
  toks_are = ap (λ o. option_to_list o ++ toks_of rest.pieces) none ∙ rest.toks_are;
  spellings_are = ap (λ v. map (λ p. slice_range source p.span.from p.span.to) (cond v (record { kind = kind; span = record { from = at; to = at + length a } } ∷ tokens_of rest.pieces) (tokens_of rest.pieces))) plain ∙ rest.spellings_are;
}

pub text_cut : (source : List ℕ) (at : ℕ) (toks : List Tok) {spellings : List (List ℕ)} {text : List ℕ} → IsJoined spellings text → Spelled toks spellings → BracketsStop toks → at ≤ length source → drop at source ≡ text → TextCut source at toks spellings
text_cut source at [] nothing h brackets within e = record { pieces = []; cut = omega (arith, length-drop at source, ap length e); toks_are = refl; spellings_are = refl }
text_cut source at (t ∷ toks) nothing h brackets within e = absurd h
text_cut source at [] alone h brackets within e = absurd h
text_cut source at (t ∷ []) (alone {a}) h brackets within e =
    let all : drop at source ≡ a ++ [] = e ∙ sym (append-nil a) in
    with_token source at t a [] [] [] all (first_before t a [] h.0 (stops_nothing t a h.0))
    (text_cut source (at + length a) [] nothing tt (λ k is. cc) (omega (arith, length-drop at source, ap length e)) (drop_past source a [] at all))
text_cut source at (t ∷ u ∷ toks) alone h brackets within e = absurd h.1
text_cut source at [] (apart s j) h brackets within e = absurd h
text_cut source at (t ∷ []) (apart s j) h brackets within e = absurd h.1
text_cut source at (t ∷ u ∷ toks) (apart {a} {b} {text} {rest} s j) h brackets within e =
    let start = joined_begins j in
    let stop : Stops t a text = subst (Stops t a) (sym start.1) (apart_stops t u a b start.0 h.0 h.1.0 s (no_equal_next t u toks b h.1.0 brackets)) in
    with_token source at t a text (u ∷ toks) (b ∷ rest) e (first_before t a text h.0 stop)
    (text_cut source (at + length a) (u ∷ toks) j h.1 (behind_first t (u ∷ toks) brackets) (omega (arith, length-drop at source, ap length e, length-append a text)) (drop_past source a text at e))
text_cut source at [] (spaced s j) h brackets within e = absurd h
text_cut source at (t ∷ []) (spaced s j) h brackets within e = absurd h.1
text_cut source at (t ∷ u ∷ toks) (spaced {a} {b} {text} {rest} s j) h brackets within e =
    let start = joined_begins j in
    let behind : drop (at + length a) source ≡ 32 ∷ text = drop_past source a (32 ∷ text) at e in
    let space : IsFirst (32 ∷ text) Blank 1 = subst (λ x. IsFirst (32 ∷ x) Blank 1) (sym start.1) (space_before b start.0 (spelled_some u b h.1.0) (no_blank u b h.1.0)) in
    with_token source at t a (32 ∷ text) (u ∷ toks) (b ∷ rest) e (first_before t a (32 ∷ text) h.0 (stops_space t a text h.0))
    (with_other source (at + length a) Blank (32 ∷ []) text (u ∷ toks) (b ∷ rest) refl refl behind space
    (text_cut source (at + length a + 1) (u ∷ toks) j h.1 (behind_first t (u ∷ toks) brackets) (omega (arith, length-drop (at + length a) source, ap length behind)) (drop_past source (32 ∷ []) text (at + length a) behind)))
