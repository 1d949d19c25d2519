-- What marks and drafts begin with.
use Rattle.std.proofs.Common.{◌≡◌, ℕ, false, Option, Some, None, List, [], ◌∷◌, map, codes, bytes_eq, refl, sym, ap, ◌∙◌}
use Rattle.std.proofs.lemmas.List.{append-nil}
use Rattle.luf_lex.specs.Word.{word_spelling}
use Rattle.luf_lex.specs.Sign.{sign_spelling}
use Rattle.luf_lex.specs.declared.token.Tok.{Tok}
use Rattle.luf_lex.specs.declared.token.Tok.TheVariants as tok
use Rattle.luf_lex.specs.declared.token.Word as token_word
use Rattle.luf_lex.specs.declared.token.Word.TheVariants as word_is
use Rattle.luf_lex.specs.declared.token.Sign as token_sign
use Rattle.luf_lex.specs.declared.token.Sign.TheVariants as sign_is
use Rattle.luf_bare.specs.Writing.{opens as token_opens}
use Rattle.luf_draft.specs.Draft.{Draft, Drafts, word, opening, trail, nest, group, sequence, nothing, also}
use Rattle.luf_draft.specs.Flat.{Flat, flat_word, flat_gap, flat_trail, flat_open, flat_close, shown, AreAlike}
use Rattle.luf_draft.specs.Form.{first_word, first_word_of, opens}
use Rattle.luf_draft.specs.inner.Marks.{opens_first}
use Rattle.luf_draft.specs.declared.mark.Mark.{Mark}
use Rattle.luf_draft.specs.declared.mark.Mark.TheVariants.{Token, Word, Sign, Gap, Trail, Open, Close}
use Rattle.luf_draft.proofs.FlatShows.{onto, all_onto, Stands}

-- the first word of what is written flat
abbrev first_flat : List Flat → Option (List ℕ)
first_flat [] = None
first_flat (flat_word bytes ∷ rest) = Some bytes
first_flat (flat_gap gap ∷ rest) = first_flat rest
first_flat (flat_trail ∷ rest) = first_flat rest
first_flat (flat_open part ∷ rest) = first_flat rest
first_flat (flat_close ∷ rest) = first_flat rest

mutual
  first_onto : (d : Draft) (t : List Flat) → first_flat (onto d t) ≡ first_word d (first_flat t)
  first_onto (word bytes) t = refl
  first_onto (opening gap) t = refl
  first_onto trail t = refl
  first_onto (nest inner) t = first_onto inner (flat_close ∷ t)
  first_onto (group inner) t = first_onto inner (flat_close ∷ t)
  first_onto (sequence items) t = first_all_onto items (flat_close ∷ t)

  first_all_onto : (ds : Drafts) (t : List Flat) → first_flat (all_onto ds t) ≡ first_word_of ds (first_flat t)
  first_all_onto nothing t = refl
  first_all_onto (also first rest) t = first_onto first (all_onto rest t) ∙ ap (first_word first) (first_all_onto rest t)

word_opens : (w : token_word.Word) → false ≡ bytes_eq (word_spelling w) (codes "(")
word_opens word_is.And = refl
word_opens _ = refl

sign_opens_same : (s : token_sign.Sign) → token_opens (tok.Sign s) ≡ bytes_eq (sign_spelling s) (codes "(")
sign_opens_same sign_is.LeftParen = refl
sign_opens_same _ = refl

opens_shown : (toks : List Tok) (written : List (List ℕ)) → AreAlike toks written → (ms : List Mark) → opens_first toks ms ≡ opens (first_flat (map (shown written) ms))
opens_shown toks written alike [] = refl
opens_shown toks written alike (Token n ∷ ms) = sym (alike.same_opens n)
opens_shown toks written alike (Word w ∷ ms) = word_opens w
opens_shown toks written alike (Sign s ∷ ms) = sign_opens_same s
opens_shown toks written alike (Gap g ∷ ms) = opens_shown toks written alike ms
opens_shown toks written alike (Trail ∷ ms) = opens_shown toks written alike ms
opens_shown toks written alike (Open part ∷ ms) = opens_shown toks written alike ms
opens_shown toks written alike (Close ∷ ms) = opens_shown toks written alike ms

pub opens_alike : (toks : List Tok) (written : List (List ℕ)) → AreAlike toks written → (ms : List Mark) (d : Draft) → Stands written ms d → opens_first toks ms ≡ opens (first_word d None)
opens_alike toks written alike ms d stands =
    opens_shown toks written alike ms ∙ ap (λ l. opens (first_flat l)) (sym (append-nil (map (shown written) ms)) ∙ (stands []).same) ∙ ap opens (first_onto d [])
