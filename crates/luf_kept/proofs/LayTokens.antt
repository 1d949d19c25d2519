-- The tokens of words, for what a layout wants of its words.
use Rattle.std.proofs.Common.{◌≡◌, ℕ, suc, ◌+◌, inl, inr, false, cond, ◌==◌, List, [], ◌∷◌, ◌++◌, Some, length, codes, refl, sym, ap, ◌∙◌, subst, arith}
use Rattle.std.specs.Prelude.{slice_get}
use Rattle.std.specs.Option.{option_to_list}
use Rattle.luf_byte.specs.Front.{begins}
use Rattle.luf_lex.specs.Spelling.{Spells}
use Rattle.luf_lex.specs.declared.token.Tok.{Tok}
use Rattle.luf_lex.specs.declared.token.Tok.TheVariants.{Sign}
use Rattle.luf_lex.specs.declared.token.Sign.TheVariants.{LeftBracket, Hash}
use Rattle.luf_lex.specs.declared.token.Kind.{Kind}
use Rattle.luf_lex.specs.declared.token.Kind.TheVariants.{Token, Comment}
use Rattle.luf_lex.proofs.OneCut.{one_first}
use Rattle.luf_lex.specs.Tokens.{is_token, tok_of}
use Rattle.luf_guard.specs.Space.{IsTokenSpelling}
use Rattle.luf_guard.proofs.Before.{first_before, stops_nothing}
use Rattle.luf_tree.specs.Grammar.{At}
use Rattle.luf_neat.specs.Pieces.{Bit}
use Rattle.luf_neat.proofs.FirstByte.{no_equal}
use Rattle.luf_neat.proofs.NeatCut.{bit_toks, bit_spellings}
use Rattle.luf_neat.proofs.NeatFits.{EachSpelled}
use Rattle.luf_min.proofs.TokensCut.{Spelled, BracketsStop}
use Rattle.luf_draft.specs.Draft.{Draft, Drafts}
use Rattle.luf_draft.specs.Draft as draft
use Rattle.luf_kept.specs.inner.LaidWords.{AreSpellings, AllSpellings, BracketsApart, NoHashWord}
use Rattle.luf_kept.specs.inner.Takes.{Takes, TakeAll}

-- ---- a spelling has one token

abbrev tok_or : Tok → Kind → Tok
tok_or t (Token u) = u
tok_or t _ = t

pub one_token : (t u : Tok) (a : List ℕ) → Spells (Token t) a → Spells (Token u) a → t ≡ u
one_token t u a h g =
    ap (tok_or t) (one_first (a ++ []) (Token t) (Token u) (length a) (length a) (first_before t a [] h (stops_nothing t a h)) (first_before u a [] g (stops_nothing u a g))).0

bracket_is : (t : Tok) (a : List ℕ) → Spells (Token t) a → a ≡ codes "[" → t ≡ Sign LeftBracket
bracket_is t a h e = one_token t (Sign LeftBracket) a h (sym e)

hash_is : (t : Tok) (a : List ℕ) → Spells (Token t) a → a ≡ codes "#" → t ≡ Sign Hash
hash_is t a h e = one_token t (Sign Hash) a h (sym e)

-- ---- no `[` before a `=`, and no `#` first

behind_first : (t : Tok) (toks : List Tok) → BracketsStop (t ∷ toks) → BracketsStop toks
behind_first t toks h k bracket =
    let next : suc k + 1 ≡ suc (k + 1) = omega arith in
    let none = h (suc k) bracket in
    (λ assign. none.0 (ap (λ i. slice_get (t ∷ toks) i) next ∙ assign), λ equal. none.1 (ap (λ i. slice_get (t ∷ toks) i) next ∙ equal))

pub brackets_apart : (toks : List Tok) (words : List (List ℕ)) → Spelled toks words → BracketsStop toks → BracketsApart words
brackets_apart [] [] h stop = tt
brackets_apart [] (a ∷ words) h stop = absurd h
brackets_apart (t ∷ toks) [] h stop = absurd h
brackets_apart (t ∷ []) (a ∷ []) h stop = tt
brackets_apart (t ∷ []) (a ∷ b ∷ words) h stop = absurd h.1
brackets_apart (t ∷ u ∷ toks) (a ∷ []) h stop = absurd h.1
brackets_apart (t ∷ u ∷ toks) (a ∷ b ∷ words) h stop = (λ is. next (bracket_is t a h.0 is), brackets_apart (u ∷ toks) (b ∷ words) h.1 (behind_first t (u ∷ toks) stop))
  where
    next : t ≡ Sign LeftBracket → begins (λ c. c == 61) b ≡ false
    next is = let none = stop 0 (ap Some is) in no_equal u b h.1.0 (λ e. none.0 (ap Some e)) (λ e. none.1 (ap Some e))

pub no_hash_word : (toks : List Tok) (words : List (List ℕ)) → Spelled toks words → (At toks 0 (Sign Hash) → ⊥) → NoHashWord words
no_hash_word [] [] h none = tt
no_hash_word [] (a ∷ words) h none = absurd h
no_hash_word (t ∷ toks) [] h none = absurd h
no_hash_word (t ∷ toks) (a ∷ words) h none = λ is. none (ap Some (hash_is t a h.0 is))

-- ---- the words of a draft

-- each word is the spelling of a token
abbrev pub AreTokenSpellings : List (List ℕ) → Type 0
AreTokenSpellings [] = Unit {0}
AreTokenSpellings (a ∷ words) = IsTokenSpelling a × AreTokenSpellings words

pub tokens_spelled : (toks : List Tok) (words : List (List ℕ)) → Spelled toks words → AreTokenSpellings words
tokens_spelled [] [] h = tt
tokens_spelled [] (a ∷ words) h = absurd h
tokens_spelled (t ∷ toks) [] h = absurd h
tokens_spelled (t ∷ toks) (a ∷ words) h = ((t, h.0), tokens_spelled toks words h.1)

-- the words that a draft takes are its own, and a `,` for some trails
mutual
  pub taken_spelled : (d : Draft) (words rest : List (List ℕ)) → Takes d words rest → AreTokenSpellings words → AreSpellings d × AreTokenSpellings rest
  taken_spelled (draft.word bytes) words rest takes each = subst AreTokenSpellings takes each
  taken_spelled (draft.opening gap) words rest takes each = (tt, subst AreTokenSpellings takes each)
  taken_spelled draft.trail words rest (inl same) each = (tt, subst AreTokenSpellings same each)
  taken_spelled draft.trail words rest (inr comma) each = (tt, (subst AreTokenSpellings comma each).1)
  taken_spelled (draft.nest inner) words rest takes each = taken_spelled inner words rest takes each
  taken_spelled (draft.group inner) words rest takes each = taken_spelled inner words rest takes each
  taken_spelled (draft.sequence items) words rest takes each = all_taken items words rest takes each

  all_taken : (items : Drafts) (words rest : List (List ℕ)) → TakeAll items words rest → AreTokenSpellings words → AllSpellings items × AreTokenSpellings rest
  all_taken draft.nothing words rest takes each = (tt, subst AreTokenSpellings takes each)
  all_taken (draft.also first items) words rest takes each =
      let one = taken_spelled first words takes.0 takes.1 each in
      let more = all_taken items takes.0 rest takes.2 one.1 in
      ((one.0, more.0), more.1)

-- ---- the tokens of bits

pub tokens_of_bits : (toks : List Tok) (bits : List Bit) → EachSpelled bits → Spelled toks (bit_spellings bits) → bit_toks bits ≡ toks
tokens_of_bits [] [] h g = refl
tokens_of_bits (t ∷ toks) [] h g = absurd g
tokens_of_bits toks (p ∷ bits) h g = by_kind p.kind p.bytes (bit_spellings bits) toks h.1 g (λ rest more. tokens_of_bits rest bits h.2 more)
  where
    by_kind : (k : Kind) (a : List ℕ) (words : List (List ℕ)) (toks : List Tok) → Spells k a → Spelled toks (cond (is_token k) (a ∷ words) words)
        → ((rest : List Tok) → Spelled rest words → bit_toks bits ≡ rest) → option_to_list (tok_of k) ++ bit_toks bits ≡ toks
    by_kind (Token t) a words [] h g more = absurd g
    by_kind (Token t) a words (u ∷ toks) h g more = ap (λ v. v ∷ bit_toks bits) (one_token t u a h g.0) ∙ ap (λ (ts : List Tok). u ∷ ts) (more toks g.1)
    by_kind Comment a words toks h g more = more toks g
    by_kind _ a words toks h g more = more toks g
