-- The words of the draft of a chunk are a text that is read as the program of its source.
use Rattle.std.proofs.Common.{◌≡◌, ℕ, zero, suc, ◌+◌, ◌≤◌, ◌⊎◌, inl, inr, Bool, false, true, Some, List, [], ◌∷◌, slice_get, get_or, length, map, ap, sym, refl, subst, ◌∙◌, arith}
use Rattle.std.proofs.lemmas.List.{append-nil, length-map, get_or_past}
use Rattle.std.proofs.lemmas.Option.{same_Some, slice_get_within}
use Rattle.luf_lex.specs.declared.token.Tok.{Tok}
use Rattle.luf_lex.specs.declared.token.Tok.TheVariants as tok
use Rattle.luf_tree.specs.declared.tree.Chunk.{Chunk}
use Rattle.luf_tree.specs.Grammar.{IsChunk}
use Rattle.luf_tree.specs.SyntaxOf.{syntax_of}
use Rattle.luf_scope.specs.Local.{Spelling}
use Rattle.luf_tree.specs.TokenSyntax as tokens
use Rattle.luf_bare.specs.Bare.{words_of, as_here, bare_block, chosen_block}
use Rattle.luf_bare.specs.Lone.{by_kind}
use Rattle.luf_bare.specs.ReadBack.{SpelledToken, TextWord, token_of, is_added, spelled_at, word_at, program, program_with, significant_words, AreSpelled, spelled_by, IsRead, IsReadAs, IsReadBack}
use Rattle.luf_lex.specs.Spelling.{Spells}
use Rattle.luf_lex.specs.declared.token.Kind.TheVariants.{Token}
use Rattle.luf_bare.specs.Significant.{IsFixed}
use Rattle.luf_bare.specs.Texts.{WritesBlock}
use Rattle.luf_bare.specs.Writing.{written_block}
use Rattle.luf_bare.proofs.EachWritten.{Each, all_none, all_more}
use Rattle.luf_bare.proofs.ReadBackLaws.{text_is_read, read_as_bare, significant_are_written, spelled_alike}
use Rattle.luf_min.specs.Minified.{fixed_spelling, spelled_tokens, spellings}
use Rattle.luf_min.proofs.SpelledTokens.{tokens_of_spelled}
use Rattle.luf_draft.specs.Draft.{Draft}
use Rattle.luf_draft.specs.Form.{main}
use Rattle.luf_kept.specs.inner.Marks.{Marks}
use Rattle.luf_kept.specs.inner.Takes.{Takes}
use Rattle.luf_kept.specs.inner.DraftText.{IsWritten, IsSpelled, AreTokens, drafted_program, DraftText, DraftIsText}
use Rattle.luf_kept.proofs.TextParts.{fixed_so, Told, Stood, Stands}
use Rattle.luf_kept.proofs.TextNames.{Source}
use Rattle.luf_kept.proofs.TextForms.{tell_main}

-- ---- a text of the program is read back

abbrev unflagged : List TextWord → List SpelledToken
unflagged text = map (λ (w : TextWord). w.spelled) text

spelled_words : (text : List TextWord) (i : ℕ) → spelled_at (unflagged text) i ≡ (word_at text i).spelled
spelled_words [] i = refl
spelled_words (w ∷ text) zero = refl
spelled_words (w ∷ text) (suc i) = spelled_words text i

same_tokens : (text : List TextWord) → map token_of text ≡ map (λ (w : SpelledToken). w.token) (unflagged text)
same_tokens [] = refl
same_tokens (w ∷ text) = ap (λ l. token_of w ∷ l) (same_tokens text)

each_fixed : {text : List TextWord} → Each IsSpelled text → (i : ℕ) → IsFixed (token_of (word_at text i)) → (word_at text i).spelled.spelling ≡ fixed_spelling (token_of (word_at text i))
each_fixed all_none i fixed = absurd fixed
each_fixed (all_more {x} is all) zero fixed = fixed_so (token_of x) x.spelled.spelling is fixed
each_fixed (all_more is all) (suc i) fixed = each_fixed all i fixed

each_spelled : {text : List TextWord} → Each IsSpelled text → AreTokens text
each_spelled all_none = tt
each_spelled (all_more is all) = (is, each_spelled all)

-- what is written of a chunk with nothing added, where this stands at its places
abbrev own_words : (ℕ → SpelledToken) → Chunk → List SpelledToken
own_words says chunk = written_block (λ w. w.token) (spelled_by fixed_spelling) (λ _. []) (λ _. false) (bare_block (words_of says) (syntax_of chunk))

text_significant : (text : List TextWord) (tree : Chunk) → Each IsSpelled text → IsChunk (map token_of text) tree
    → significant_words (λ i. (word_at text i).spelled) (length text) tree ≡ own_words (λ i. (word_at text i).spelled) tree
text_significant text tree all derived =
    let alike : spelled_at (unflagged text) ≡ (λ i. (word_at text i).spelled) = λ k i. spelled_words text i k in
    ap (λ n. significant_words (λ i. (word_at text i).spelled) n tree) (sym (length-map text (λ (w : TextWord). w.spelled)))
    ∙ ap (λ (says : ℕ → SpelledToken). significant_words says (length (unflagged text)) tree) (sym alike)
    ∙ significant_are_written fixed_spelling (unflagged text) tree (subst (λ toks. IsChunk toks tree) (same_tokens text) derived)
    (λ i. subst (λ (w : SpelledToken). IsFixed w.token → w.spelling ≡ fixed_spelling w.token) (sym (spelled_words text i)) (each_fixed all i))
    ∙ ap (λ (says : ℕ → SpelledToken). own_words says tree) alike

abbrev text_is_back : (encloses : tokens.Expressions → Bool → Bool) (source : List SpelledToken) (chunk : Chunk) (text : List TextWord) → IsChunk (map (λ (w : SpelledToken). w.token) source) chunk
    → AreSpelled fixed_spelling source → Each IsSpelled text → IsReadAs text (program_with encloses source chunk) → IsReadBack source chunk text
text_is_back encloses source chunk text derived are_spelled all found =
    let read : IsRead text (program source chunk) = read_as_bare encloses source chunk text found in
    record {
      read = read;
      significant = text_significant text read.tree all read.is_tree
          ∙ ap (written_block (λ w. w.token) (spelled_by fixed_spelling) (λ _. []) (λ _. false)) (spelled_alike source chunk text read)
          ∙ sym (significant_are_written fixed_spelling source chunk derived are_spelled);
    }

-- ---- tokens with their spellings

-- what stands at a place: the token with its spelling, or behind the last a name without letters
abbrev ToldAt : Spelling → ℕ → List Tok → ℕ → SpelledToken → Type 0
ToldAt told n toks i w = ((w ≡ record { token = tok.Name; spelling = [] }) × (length toks ≤ i)) ⊎ ((slice_get toks i ≡ Some w.token) × (w.spelling ≡ told (n + i)))

told_later : (told : Spelling) (n : ℕ) (t : Tok) (toks : List Tok) (i : ℕ) (w : SpelledToken) → ToldAt told (n + 1) toks i w → ToldAt told n (t ∷ toks) (suc i) w
told_later told n t toks i w (inl past) = let beyond = past.1 in inl (past.0, omega (arith, beyond))
told_later told n t toks i w (inr there) = let at : (n + 1) + i ≡ n + suc i = omega arith in inr (there.0, there.1 ∙ ap told at)

told_at : (told : Spelling) (n : ℕ) (toks : List Tok) (i : ℕ) → ToldAt told n toks i (spelled_at (spelled_tokens told n toks) i)
told_at told n [] i = inl (refl, omega arith)
told_at told n (t ∷ toks) zero = let at : n ≡ n + 0 = omega arith in inr (refl, ap told at)
told_at told n (t ∷ toks) (suc i) = told_later told n t toks i _ (told_at told (n + 1) toks i)

-- with nothing behind it
marked_alone : {from to : Bool} {Kind : List TextWord → Type 0} {d : Draft} {words rest : List (List ℕ)} {takes : Takes d words rest} → (stood : Stood from to Kind d words rest takes)
    → Marks d words rest takes stood.told.text [] from to
marked_alone {from} {to} {d} {words} {rest} {takes} stood = subst (λ (l : List TextWord). Marks d words rest takes l [] from to) (append-nil stood.told.text) (stood.marked [])

-- a draft as it stands for words that are alike
told_along : {Kind : List TextWord → Type 0} {a b : ℕ → List ℕ} (draft : (ℕ → List ℕ) → Draft) (alike : a ≡ b) → Stands false true Kind (draft b) → (words : List (List ℕ)) (takes : Takes (draft a) words [])
    → (told : Told Kind words []) × Marks (draft a) words [] takes told.text [] false true
told_along draft alike stands words takes =
    let stood = stands.at words [] (coe 0 1 (i. Takes (draft (alike i)) words []) takes) in
    (stood.told, coe 1 0 (i. Marks (draft (alike i)) words [] (coe 0 i (j. Takes (draft (alike j)) words []) takes) stood.told.text [] false true) (marked_alone stood))

module _ (toks : List Tok) (written : List (List ℕ)) (is : IsWritten toks written) where
  abbrev told : Spelling
  told i = get_or written i []

  abbrev source_words : List SpelledToken
  source_words = spelled_tokens told 0 toks

  kind_at : (i : ℕ) (t : Tok) (w : SpelledToken) → slice_get toks i ≡ Some t → ToldAt told 0 toks i w → w.token ≡ t
  kind_at i t w there (inl past) = let beyond = past.1 in absurd (omega (arith, beyond, slice_get_within toks i t there))
  kind_at i t w there (inr at) = same_Some w.token t (sym at.0 ∙ there)

  bytes_at : (i : ℕ) (w : SpelledToken) → ToldAt told 0 toks i w → w.spelling ≡ told i
  bytes_at i w (inl past) = let beyond = past.1 in ap (λ (v : SpelledToken). v.spelling) past.0 ∙ sym (get_or_past written i [] (omega (arith, beyond, is.as_many)))
  bytes_at i w (inr at) = let same : 0 + i ≡ i = omega arith in at.1 ∙ ap told same

  fixed_at : (i : ℕ) (w : SpelledToken) → ToldAt told 0 toks i w → IsFixed w.token → w.spelling ≡ fixed_spelling w.token
  fixed_at i w (inl past) fixed = absurd (subst (λ (v : SpelledToken). IsFixed v.token) past.0 fixed)
  fixed_at i w (inr at) fixed = bytes_at i w (inr at) ∙ fixed_so w.token (told i) (is.spelled i w.token at.0) fixed

  abbrev source : Source toks
  source = record {
    bytes = λ i. (spelled_at source_words i).spelling;
    token = λ i. (spelled_at source_words i).token;
    kinds = λ i t there. kind_at i t (spelled_at source_words i) there (told_at told 0 toks i);
    spelled = λ i t there. subst (λ bytes. Spells (Token t) bytes) (sym (bytes_at i (spelled_at source_words i) (told_at told 0 toks i))) (is.spelled i t there);
  }

  pub all_bytes : (i : ℕ) → (spelled_at source_words i).spelling ≡ told i
  all_bytes i = bytes_at i (spelled_at source_words i) (told_at told 0 toks i)

  all_fixed : (i : ℕ) → IsFixed (spelled_at source_words i).token → (spelled_at source_words i).spelling ≡ fixed_spelling (spelled_at source_words i).token
  all_fixed i = fixed_at i (spelled_at source_words i) (told_at told 0 toks i)

  derived_words : (chunk : Chunk) → IsChunk toks chunk → IsChunk (map (λ (w : SpelledToken). w.token) source_words) chunk
  derived_words chunk derived = subst (λ ts. IsChunk ts chunk) (sym (tokens_of_spelled told 0 toks)) derived

  from_text : (string_has table_has : Bool → Bool) (chunk : Chunk) → IsChunk toks chunk → (draft : Draft) (words : List (List ℕ)) (takes : Takes draft words [])
      → (found : Told (WritesBlock token_of is_added (drafted_program toks written string_has table_has chunk)) words []) × Marks draft words [] takes found.text [] false true
      → DraftText toks written string_has table_has chunk draft words takes
  from_text string_has table_has chunk derived draft words takes found =
      let read : IsReadAs found.0.text (drafted_program toks written string_has table_has chunk) = text_is_read (drafted_program toks written string_has table_has chunk) found.0.text found.0.wrote in
      record {
        text = found.0.text;
        words_are = sym (append-nil (spellings found.0.text)) ∙ sym found.0.spelled.same;
        wrote = found.0.wrote;
        back = text_is_back (by_kind string_has table_has) source_words chunk found.0.text (derived_words chunk derived) all_fixed found.0.spelled.each read;
        same = read.same;
        spelled = each_spelled found.0.spelled.each;
        marked = found.1;
      }

  text_of_words : (string_has table_has : Bool → Bool) (chunk : Chunk) → IsChunk toks chunk → (words : List (List ℕ)) → (takes : Takes (main string_has table_has (chosen_block (words_of told) as_here (syntax_of chunk))) words [])
      → DraftText toks written string_has table_has chunk (main string_has table_has (chosen_block (words_of told) as_here (syntax_of chunk))) words takes
  text_of_words string_has table_has chunk derived words takes =
      let alike : told ≡ source.bytes = λ k i. sym (bytes_at i (spelled_at source_words i) (told_at told 0 toks i)) k in
      from_text string_has table_has chunk derived (main string_has table_has (chosen_block (words_of told) as_here (syntax_of chunk))) words takes
      (told_along (λ bytes. main string_has table_has (chosen_block (words_of bytes) as_here (syntax_of chunk))) alike (tell_main toks source string_has table_has derived) words takes)

pub draft_is_text : DraftIsText
draft_is_text toks written string_has table_has chunk derived is words takes = text_of_words toks written is string_has table_has chunk derived words takes
