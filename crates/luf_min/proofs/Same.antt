-- The minified text of a source without scope faults is the same program.
use Rattle.std.proofs.Common.{◌≡◌, ℕ, zero, suc, ◌+◌, ◌<◌, ◌≤◌, ◌⊎◌, inl, inr, Some, None, List, [], ◌∷◌, ◌++◌, slice_get, get_or, length, map, refl, sym, ap, subst, ◌∙◌, zero-add, arith, ⊎_elim}
use Rattle.std.specs.Prelude.{unwrap_or}
use Rattle.std.proofs.lemmas.List.{length-map}
use Rattle.std.proofs.lemmas.Option.{same_Some, slice_get_past, slice_get_within, slice_get-get_or}
use Rattle.luf_lex.specs.Spelling.{Spells}
use Rattle.luf_lex.specs.Cut.{IsCut}
use Rattle.luf_lex.specs.Tokens.{toks_of, spellings_of}
use Rattle.luf_lex.specs.declared.token.Tok.{Tok}
use Rattle.luf_lex.specs.declared.token.Tok.TheVariants.{Name}
use Rattle.luf_lex.specs.declared.token.Kind.TheVariants.{Token}
use Rattle.luf_lex.specs.declared.token.Piece.{Piece}
use Rattle.luf_lex.proofs.PieceSpellings.{spelled_at as piece_at}
use Rattle.luf_tree.specs.declared.tree.Chunk.{Chunk}
use Rattle.luf_tree.specs.Grammar.{IsChunk}
use Rattle.luf_tree.specs.Level.{level_limit}
use Rattle.luf_tree.specs.SyntaxOf.{syntax_of}
use Rattle.luf_tree.proofs.TokenLaws.{chunk_no_hash, bracket_no_equal}
use Rattle.luf_bare.specs.ReadBack.{SpelledToken, TextWord, token_of, spelled_at, word_at, significant_words, IsReadBack}
use Rattle.luf_bare.proofs.ReadBackLaws.{depth_alike}
use Rattle.luf_scope.specs.Fault.{scope_fault}
use Rattle.luf_scope.specs.Links.{spelling_in, occurrences_of}
use Rattle.luf_scope.specs.Local.{Spelling}
use Rattle.luf_resolved.specs.Resolved.{resolved}
use Rattle.luf_resolved.specs.Source.{IsSource, scope_fault_of}
use Rattle.luf_resolved.proofs.ResolvedAlike.{written_resolves_alike}
use Rattle.luf_resolved.proofs.WrittenFaults.{written_has_no_fault}
use Rattle.luf_interf.specs.NewNames.{Naming, AreLeast}
use Rattle.luf_interf.proofs.Faults.{least_names_have_no_fault, have_labels}
use Rattle.luf_interf.proofs.NewWords.{others_kept, good_words}
use Rattle.luf_interf.proofs.Resolve.{least_names_resolve_alike}
use Rattle.luf_min.specs.Minified.{spelled_tokens, minified_words, spellings, renamed_in, IsSameProgram}
use Rattle.luf_min.specs.MinifiedLaws.{MinifiedIsSame}
use Rattle.luf_min.specs.Text.{IsJoined, hash_text}
use Rattle.luf_min.proofs.NewSpelling.{name_spelling}
use Rattle.luf_min.proofs.SpelledTokens.{length_spelled, spelling_is, source_derived, words_back, minified_spelled}
use Rattle.luf_min.proofs.TextAgain.{TextAgain, length_spellings, text_again}
use Rattle.luf_min.proofs.TokensCut.{Spelled}

-- ---- the tokens of a source are spelled so

source_spelled : (source : List ℕ) (pieces : List Piece) → IsCut source pieces → (i : ℕ) (t : Tok) → slice_get (toks_of pieces) i ≡ Some t → Spells (Token t) (spelling_in source pieces i)
source_spelled source pieces cut i t is =
    let there = slice_get-get_or (spellings_of source pieces) i [] (omega (arith, length_spellings source pieces, slice_get_within (toks_of pieces) i t is)) in
    let one = piece_at source pieces cut i (get_or (spellings_of source pieces) i []) there in
    let same : one.0 ≡ t = same_Some one.0 t (sym one.1 ∙ is) in
    subst (λ o. Spells (Token t) (unwrap_or o [])) (sym there) (subst (λ (u : Tok). Spells (Token u) (get_or (spellings_of source pieces) i [])) same one.2)

nothing_beyond : (source : List ℕ) (pieces : List Piece) (i : ℕ) → length (toks_of pieces) ≤ i → spelling_in source pieces i ≡ []
nothing_beyond source pieces i past = ap (λ o. unwrap_or o []) (slice_get_past (spellings_of source pieces) i (omega (arith, length_spellings source pieces, past)))

name_or_not : (t : Tok) → (t ≡ Name) ⊎ (t ≡ Name → ⊥)
name_or_not Name = inl refl
name_or_not _ = inr (λ e. absurd cc)

-- ---- and so they are under least names

module _ (source : List ℕ) (pieces : List Piece) (chunk : Chunk) (is : IsSource source pieces chunk) (naming label_naming : Naming) (least : AreLeast (spelling_in source pieces) (occurrences_of chunk) naming label_naming) where
  abbrev pub told : Spelling
  told = renamed_in source pieces chunk naming label_naming

  pub fits : (i : ℕ) (t : Tok) → slice_get (toks_of pieces) i ≡ Some t → Spells (Token t) (told i)
  fits i t there = ⊎_elim
      (λ name. subst (λ (u : Tok). Spells (Token u) (told i)) (sym name) (⊎_elim
      (λ same. subst (λ a. Spells (Token Name) a) (sym same) (source_spelled source pieces is.cut i Name (there ∙ ap Some name)))
      (λ good. name_spelling (told i) good.0 good.1) (good_words (spelling_in source pieces) (occurrences_of chunk) naming label_naming least i)))
      (λ other. subst (λ a. Spells (Token t) a) (sym (others_kept (toks_of pieces) chunk (spelling_in source pieces) naming label_naming i is.tree (λ name. other (same_Some t Name (sym there ∙ name)))))
      (source_spelled source pieces is.cut i t there)) (name_or_not t)

  pub beyond : (i : ℕ) → length (toks_of pieces) ≤ i → told i ≡ []
  beyond i past =
      others_kept (toks_of pieces) chunk (spelling_in source pieces) naming label_naming i is.tree (λ name. let within = slice_get_within (toks_of pieces) i Name name in omega (arith, within, past)) ∙ nothing_beyond source pieces i past

-- ---- the text that is read

pub words_at : (words : List TextWord) (i : ℕ) → unwrap_or (slice_get (spellings words) i) [] ≡ (word_at words i).spelled.spelling
words_at [] i = refl
words_at (w ∷ words) zero = refl
words_at (w ∷ words) (suc i) = words_at words i

-- tokens by their spellings are the words without flags
pub read_tokens : (told : Spelling) (n : ℕ) (words : List TextWord) → ((i : ℕ) → i < length words → told (n + i) ≡ (word_at words i).spelled.spelling) → spelled_tokens told n (map token_of words) ≡ map (λ (w : TextWord). w.spelled) words
read_tokens told n [] same = refl
read_tokens told n (w ∷ words) same =
    let at : n ≡ n + 0 = omega arith in
    let here : told n ≡ w.spelled.spelling = ap told at ∙ same 0 (omega arith) in
    let rest = read_tokens told (n + 1) words (λ i within. let next : (n + 1) + i ≡ n + suc i = omega arith in ap told next ∙ same (suc i) (omega (arith, within))) in
    λ j. record { token = token_of w; spelling = here j } ∷ rest j

pub spelled_words : (words : List TextWord) (i : ℕ) → spelled_at (map (λ (w : TextWord). w.spelled) words) i ≡ (word_at words i).spelled
spelled_words [] i = refl
spelled_words (w ∷ words) zero = refl
spelled_words (w ∷ words) (suc i) = spelled_words words i

module _ (source : List ℕ) (pieces : List Piece) (chunk : Chunk) (is : IsSource source pieces chunk) (naming label_naming : Naming) (least : AreLeast (spelling_in source pieces) (occurrences_of chunk) naming label_naming) where
  abbrev words : List TextWord
  words = minified_words (renamed_in source pieces chunk naming label_naming) (toks_of pieces) chunk

  abbrev renamed_source : List SpelledToken
  renamed_source = spelled_tokens (renamed_in source pieces chunk naming label_naming) 0 (toks_of pieces)

  derived : IsChunk (map (λ (w : SpelledToken). w.token) renamed_source) chunk
  derived = source_derived (toks_of pieces) (told source pieces chunk is naming label_naming least) (fits source pieces chunk is naming label_naming least) (beyond source pieces chunk is naming label_naming least) chunk is.tree

  back : IsReadBack renamed_source chunk words
  back = words_back (toks_of pieces) (told source pieces chunk is naming label_naming least) (fits source pieces chunk is naming label_naming least) (beyond source pieces chunk is naming label_naming least) chunk is.tree

  named_so : (i : ℕ) → (spelled_at renamed_source i).spelling ≡ renamed_in source pieces chunk naming label_naming i
  named_so = spelling_is (toks_of pieces) (told source pieces chunk is naming label_naming least) (fits source pieces chunk is naming label_naming least) (beyond source pieces chunk is naming label_naming least)

  pub words_spelled : Spelled (map token_of words) (spellings words)
  words_spelled = minified_spelled (toks_of pieces) (told source pieces chunk is naming label_naming least) (fits source pieces chunk is naming label_naming least) (beyond source pieces chunk is naming label_naming least) chunk is.tree

  text_read : (tokens : List ℕ) → IsJoined (spellings words) tokens → TextAgain source pieces (map token_of words) (spellings words) (hash_text source pieces ++ tokens)
  text_read tokens joined =
      text_again source pieces (map token_of words) (spellings words) tokens is.cut words_spelled (bracket_no_equal (map token_of words) back.read.tree back.read.is_tree) (chunk_no_hash (map token_of words) back.read.tree back.read.is_tree) joined

  module _ (text : List ℕ) (again : TextAgain source pieces (map token_of words) (spellings words) text) where
    read_so : (i : ℕ) → spelling_in text again.others i ≡ (word_at words i).spelled.spelling
    read_so i = ap (λ ss. unwrap_or (slice_get ss i) []) again.spellings_are ∙ words_at words i

    source_read : IsSource text again.others back.read.tree
    source_read = record {
      cut = again.cut;
      tree = subst (λ (ts : List Tok). IsChunk ts back.read.tree) (sym again.toks_are) back.read.is_tree;
      levels = subst (λ d. d ≤ level_limit) (sym (depth_alike renamed_source chunk words back.read)) is.levels;
    }

    token_read : (i : ℕ) → spelled_at (spelled_tokens (spelling_in text again.others) 0 (toks_of again.others)) i ≡ (word_at words i).spelled
    token_read i =
        ap (λ (ts : List Tok). spelled_at (spelled_tokens (spelling_in text again.others) 0 ts) i) again.toks_are
        ∙ ap (λ (ws : List SpelledToken). spelled_at ws i) (read_tokens (spelling_in text again.others) 0 words (λ k within. ap (spelling_in text again.others) (zero-add k) ∙ read_so k))
        ∙ spelled_words words i

    significant_same : significant_words (spelled_at (spelled_tokens (spelling_in text again.others) 0 (toks_of again.others))) (length (toks_of again.others)) back.read.tree
        ≡ significant_words (spelled_at renamed_source) (length (toks_of pieces)) chunk
    significant_same =
        let many : length (toks_of again.others) ≡ length words = ap length again.toks_are ∙ length-map words token_of in
        (λ j. significant_words (λ i. token_read i j) (many j) back.read.tree) ∙ back.significant
        ∙ ap (λ n. significant_words (spelled_at renamed_source) n chunk) (length_spelled (renamed_in source pieces chunk naming label_naming) 0 (toks_of pieces))

    no_fault_read : scope_fault_of source pieces chunk ≡ None → scope_fault_of text again.others back.read.tree ≡ None
    no_fault_read none =
        let renamed_none = least_names_have_no_fault (toks_of pieces) chunk (spelling_in source pieces) naming label_naming is.tree least none in
        (λ j. scope_fault (λ i. read_so i j) (occurrences_of back.read.tree))
        ∙ written_has_no_fault renamed_source chunk words derived back ((λ j. scope_fault (λ i. named_so i j) (occurrences_of chunk)) ∙ renamed_none)

    same_read : scope_fault_of source pieces chunk ≡ None → resolved (spelling_in text again.others) (syntax_of back.read.tree) ≡ resolved (spelling_in source pieces) (syntax_of chunk)
    same_read none =
        (λ j. resolved (λ i. read_so i j) (syntax_of back.read.tree)) ∙ written_resolves_alike renamed_source chunk words derived back
        ∙ (λ j. resolved (λ i. named_so i j) (syntax_of chunk))
        ∙ least_names_resolve_alike (toks_of pieces) chunk (spelling_in source pieces) naming label_naming is.tree least (have_labels (spelling_in source pieces) (occurrences_of chunk) none)

    same_program : scope_fault_of source pieces chunk ≡ None → IsSameProgram source text
    same_program none = record {
      pieces = pieces;
      chunk = chunk;
      is = is;
      naming = naming;
      label_naming = label_naming;
      least = least;
      others = again.others;
      other = back.read.tree;
      read = source_read;
      no_fault = no_fault_read none;
      same = same_read none;
      significant = significant_same;
      hash = again.hash;
    }

pub minified_is_same : MinifiedIsSame
minified_is_same source text m none =
    subst (λ t. IsSameProgram source t) (sym m.minified.is)
    (same_program source m.pieces m.chunk m.is m.naming m.label_naming m.least (hash_text source m.pieces ++ m.minified.tokens)
    (text_read source m.pieces m.chunk m.is m.naming m.label_naming m.least m.minified.tokens m.minified.joined) none)
