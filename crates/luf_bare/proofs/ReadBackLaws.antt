-- What is written of a chunk is read as the same program.
use Rattle.std.proofs.Common.{◌≡◌, ℕ, zero, suc, ◌+◌, ◌<◌, ◌||◌, Bool, true, false, Some, List, [], ◌∷◌, ◌++◌, length, slice_get, get_or, map, cond, ne_eqb, eq-eqb, ap, sym, refl, subst, ◌∙◌, arith}
use Rattle.std.proofs.lemmas.List.{append-nil, append_assoc, length-append, length-map}
use Rattle.std.proofs.lemmas.Option.{slice_get_within, slice_get-map, slice_get-get_or}
use Rattle.std.proofs.Math.Seq.{get_or-append_seam}
use Rattle.std.specs.Option.{option_map}
use Rattle.luf_lex.specs.declared.token.Tok.{Tok}
use Rattle.luf_tree.specs.declared.tree.Chunk.{Chunk}
use Rattle.luf_tree.specs.Grammar.{IsToken, NoParenFollows, IsBlock, IsChunk}
use Rattle.luf_tree.specs.SyntaxMap.{ShapeMap, map_block}
use Rattle.luf_tree.specs.SyntaxOf.{syntax_of}
use Rattle.luf_tree.specs.Level.{levels_of_block, depth_of}
use Rattle.luf_tree.specs.TokenSyntax as tokens
use Rattle.luf_bare.specs.Bare.{Bare, always, as_here, bare_block, bare_of, words_of}
use Rattle.luf_bare.specs.Lone.{where_lone}
use Rattle.luf_bare.specs.Dropped.{if_dropped}
use Rattle.luf_bare.specs.Significant.{IsFixed, is_among, places_but}
use Rattle.luf_bare.specs.Writing.{written_block}
use Rattle.luf_bare.specs.ReadBack.{SpelledToken, TextWord, token_of, is_added, spelled_at, own_word, added_word, word_at, additions, program, program_with, significant_words, AreSpelled, spelled_by, text_of, IsRead, IsReadAs, TextIsRead, IsReadBack, WrittenIsRead, SignificantAreWritten, OneDepth}
use Rattle.luf_bare.proofs.Reading.{Stand, none, kept, lost, read_block, some_is}
use Rattle.luf_bare.proofs.Written.{tell_block}
use Rattle.luf_bare.proofs.Significant as s
use Rattle.luf_bare.proofs.Significant.{AreSignificant, in_order, keep_block}
use Rattle.luf_bare.proofs.EachWritten.{Each, all_none, all_more, each_at, each_block}
use Rattle.luf_bare.proofs.BareLevels.{block_levels}
use Rattle.luf_bare.proofs.BareMap.{block_after}
use Rattle.luf_bare.proofs.BareAgain.{block_again}

-- ---- a text is read

abbrev same_words : (X : Type 0) → ShapeMap (Bare X) (Bare X)
same_words X = record { span = λ s. s; name = λ x. x; label = λ x. x; leaf = λ x. x }

end_closed : (toks : List Tok) (i : ℕ) → i ≡ length toks → NoParenFollows toks i
end_closed toks i last paren = omega (arith, slice_get_within toks i _ paren)

module _ {X : Type 0} (kind : X → Tok) (added : X → Bool) (other : X) where
  seam_token : (done : List X) (x : X) (rest : List X) → slice_get (map kind (done ++ (x ∷ rest))) (length done) ≡ Some (kind x)
  seam_token done x rest =
      slice_get-map kind (done ++ (x ∷ rest)) (length done)
      ∙ ap (option_map kind) (slice_get-get_or (done ++ (x ∷ rest)) (length done) other (within done x rest) ∙ ap Some (get_or-append_seam done x rest other))
    where
      within : (done : List X) (x : X) (rest : List X) → length done < length (done ++ (x ∷ rest))
      within done x rest = omega (arith, length-append done (x ∷ rest))

  stand_one : (b : Bool) {x : X} {words : List X} {toks : List Tok} {says : ℕ → X} {i j k : ℕ} {ds : List ℕ} → added x ≡ b → IsToken toks i (kind x) j → says i ≡ x → Stand kind added toks says words j k ds [] → Stand kind added toks says (x ∷ words) i k (if_dropped b i ds) []
  stand_one true is token told rest = lost token told is rest
  stand_one false is token told rest = kept token told is rest

  pub stand_from : (all done rest : List X) → all ≡ done ++ rest → Stand kind added (map kind all) (λ i. get_or all i other) rest (length done) (length all) (additions added (length done) rest) []
  stand_from all done [] is = subst (λ k. Stand kind added (map kind all) (λ i. get_or all i other) [] (length done) k [] []) (sym (ap length (is ∙ append-nil done))) none
  stand_from all done (x ∷ rest) is =
      stand_one (added x) refl (record { there = ap (λ z. slice_get (map kind z) (length done)) is ∙ seam_token done x rest; next = length-append done (x ∷ []) })
      (ap (λ z. get_or z (length done) other) is ∙ get_or-append_seam done x rest other)
      (subst (λ n. Stand kind added (map kind all) (λ i. get_or all i other) rest (length (done ++ (x ∷ []))) (length all) (additions added n rest) []) (length-append done (x ∷ []))
      (stand_from all (done ++ (x ∷ [])) rest (is ∙ sym (append_assoc done (x ∷ []) rest))))

pub text_is_read : TextIsRead
text_is_read written text writes =
    let found = read_block token_of is_added (map token_of text) (word_at text) writes (stand_from token_of is_added _ text [] text refl) (end_closed (map token_of text) (length text) (sym (length-map text token_of))) in
    let tree : Chunk = record { block = found.tree } in
    record {
      read = record {
        tree = tree;
        is_tree = subst (λ k. IsBlock (map token_of text) 0 k found.tree) (sym (length-map text token_of)) found.derived;
        same = sym (block_again (same_words TextWord) (words_of (word_at text)) as_here (syntax_of tree)) ∙ ap bare_of found.same;
        drops = found.drops;
      };
      same = found.same;
    }

-- a text of the program of a chunk, whichever of its arguments stand in parentheses, is read as its bare program
abbrev pub read_as_bare : (encloses : tokens.Expressions → Bool → Bool) (source : List SpelledToken) (chunk : Chunk) (text : List TextWord) → IsReadAs text (program_with encloses source chunk) → IsRead text (program source chunk)
read_as_bare encloses source chunk text found = record {
  tree = found.read.tree;
  is_tree = found.read.is_tree;
  same = found.read.same ∙ block_again (same_words TextWord) (words_of (λ i. own_word (spelled_at source i))) encloses (syntax_of chunk);
  drops = found.read.drops;
}

-- ---- significant tokens as a list

among_later : (d i : ℕ) (ds : List ℕ) → d < i → is_among i (d ∷ ds) ≡ is_among i ds
among_later d i ds less = ap (λ b. b || is_among i ds) (ne_eqb i d (λ same. omega (arith, less, same)))

but_later : (d : ℕ) (ds : List ℕ) (i n : ℕ) → d < i → places_but (d ∷ ds) i n ≡ places_but ds i n
but_later d ds i zero less = refl
but_later d ds i (suc n) less =
    ap (λ b. cond b (places_but (d ∷ ds) (i + 1) n) (i ∷ places_but (d ∷ ds) (i + 1) n)) (among_later d i ds less)
    ∙ ap (λ z. cond (is_among i ds) z (i ∷ z)) (but_later d ds (i + 1) n (omega (arith, less)))

module _ {X : Type 0} {toks : List Tok} {says : ℕ → X} where
  before_all : {words : List X} {i j k : ℕ} {ds : List ℕ} → AreSignificant toks says words j k ds [] → i < j → is_among i ds ≡ false
  before_all s.none less = refl
  before_all (s.kept t _ rest) less = before_all rest (omega (arith, less, t.next))
  before_all {i} {j} (s.lost {ds} t rest) less = ap (λ b. b || is_among i ds) (ne_eqb i j (λ same. omega (arith, less, same))) ∙ before_all rest (omega (arith, less, t.next))

  significant_list : {words : List X} {i k : ℕ} {ds : List ℕ} (n : ℕ) → AreSignificant toks says words i k ds [] → k ≡ i + n → map says (places_but ds i n) ≡ words
  significant_list zero s.none is = refl
  significant_list (suc n) s.none is = absurd (omega (arith, is))
  significant_list zero (s.kept t _ rest) is = absurd (omega (arith, is, t.next, in_order rest))
  significant_list zero (s.lost t rest) is = absurd (omega (arith, is, t.next, in_order rest))
  significant_list {i} (suc n) (s.kept {words} {ds} t told rest) is =
      ap (λ b. map says (cond b (places_but ds (i + 1) n) (i ∷ places_but ds (i + 1) n))) (before_all rest (omega (arith, t.next)))
      ∙ (λ k. told k ∷ (ap (λ j. map says (places_but ds j n)) (sym t.next) ∙ significant_list {words = words} n rest (omega (arith, is, t.next))) k)
  significant_list {i} (suc n) (s.lost {words} {ds} t rest) is =
      ap (λ b. map says (cond (b || is_among i ds) (places_but (i ∷ ds) (i + 1) n) (i ∷ places_but (i ∷ ds) (i + 1) n))) (eq-eqb i i refl)
      ∙ ap (map says) (but_later i ds (i + 1) n (omega arith))
      ∙ ap (λ j. map says (places_but ds j n)) (sym t.next) ∙ significant_list {words = words} n rest (omega (arith, is, t.next))

-- ---- the words of a source and of a text

token_at : {A : Type 0} (kind : A → Tok) (words : List A) (other : A) (i : ℕ) (t : Tok) → slice_get (map kind words) i ≡ Some t → kind (get_or words i other) ≡ t
token_at kind words other i t there =
    some_is (sym (slice_get-map kind words i ∙ ap (option_map kind) (slice_get-get_or words i other (omega (arith, slice_get_within (map kind words) i t there, length-map words kind)))) ∙ there)

fixed_is : (spell : Tok → List ℕ) (x : SpelledToken) (t : Tok) → x.token ≡ t → IsFixed t → (IsFixed x.token → x.spelling ≡ spell x.token) → x ≡ spelled_by spell t
fixed_is spell x t is fixed spelled =
    let spelling : x.spelling ≡ spell t = spelled (subst IsFixed (sym is) fixed) ∙ ap spell is in
    λ k. record { token = is k; spelling = spelling k }

abbrev spelled_token : SpelledToken → Tok
spelled_token w = w.token

-- what is written of a program with nothing added
abbrev own_words : (Tok → List ℕ) → (ℕ → SpelledToken) → Chunk → List SpelledToken
own_words spell says chunk = written_block spelled_token (spelled_by spell) (λ _. []) (λ _. false) (bare_block (words_of says) (syntax_of chunk))

significant_of : (spell : Tok → List ℕ) (toks : List Tok) (says : ℕ → SpelledToken) → ((i : ℕ) (t : Tok) → IsFixed t → slice_get toks i ≡ Some t → says i ≡ spelled_by spell t) → (chunk : Chunk) → IsChunk toks chunk
    → (n : ℕ) → length toks ≡ n → significant_words says n chunk ≡ own_words spell says chunk
significant_of spell toks says fixed_says chunk derived n is = significant_list {words = own_words spell says chunk} n (keep_block spelled_token (spelled_by spell) toks says fixed_says derived []) (omega (arith, is))

pub significant_are_written : SignificantAreWritten
significant_are_written spell source chunk derived are_spelled =
    significant_of spell (map spelled_token source) (spelled_at source)
    (λ i t fixed there. fixed_is spell (spelled_at source i) t (token_at spelled_token source _ i t there) fixed (are_spelled i)) chunk derived (length source) (length-map source spelled_token)

pub one_depth : OneDepth
one_depth f g chunk other same = sym (block_levels f always (syntax_of chunk)) ∙ ap levels_of_block same ∙ block_levels g always (syntax_of other)

-- ---- what is written

-- the words without their flags
abbrev unflagged : ShapeMap (Bare TextWord) (Bare SpelledToken)
unflagged = record { span = λ s. s; name = λ w. w.spelled; label = λ w. w.spelled; leaf = λ w. w.spelled }

-- a text is read as the program, without flags too
pub spelled_alike : (source : List SpelledToken) (chunk : Chunk) (text : List TextWord) (read : IsRead text (program source chunk))
    → bare_block (words_of (λ i. (word_at text i).spelled)) (syntax_of read.tree) ≡ bare_block (words_of (spelled_at source)) (syntax_of chunk)
spelled_alike source chunk text read =
    sym (block_after unflagged (words_of (word_at text)) always (syntax_of read.tree)) ∙ ap (map_block unflagged) read.same ∙ block_after unflagged (words_of (λ i. own_word (spelled_at source i))) always (syntax_of chunk)

-- and it is as deep
pub depth_alike : (source : List SpelledToken) (chunk : Chunk) (text : List TextWord) (read : IsRead text (program source chunk)) → depth_of read.tree ≡ depth_of chunk
depth_alike source chunk text read = one_depth (words_of (λ i. (word_at text i).spelled)) (words_of (spelled_at source)) read.tree chunk (spelled_alike source chunk text read)

-- what stands at each place of a text is its token, and the keywords and signs are spelled so
module _ (spell : Tok → List ℕ) (source : List SpelledToken) (are_spelled : AreSpelled spell source) where
  abbrev IsSpelled : TextWord → Type 0
  IsSpelled word = IsFixed (token_of word) → word.spelled.spelling ≡ spell (token_of word)

  text_spelled : (trails : tokens.Span → Bool) (encloses : tokens.Expressions → Bool → Bool) (chunk : Chunk) → Each IsSpelled (text_of spell source trails encloses chunk)
  text_spelled trails encloses chunk =
      each_block token_of (λ t. own_word (spelled_by spell t)) (λ t. added_word (spelled_by spell t) ∷ []) trails encloses (λ i. own_word (spelled_at source i)) IsSpelled
      (λ t _. refl) (λ s. all_more (λ _. refl) all_none) are_spelled (syntax_of chunk)

  -- the significant tokens of a text of which a chunk is read
  text_significant : (text : List TextWord) (tree : Chunk) → Each IsSpelled text → IsChunk (map token_of text) tree → significant_words (λ i. (word_at text i).spelled) (length text) tree ≡ own_words spell (λ i. (word_at text i).spelled) tree
  text_significant text tree all derived =
      significant_of spell (map token_of text) (λ i. (word_at text i).spelled)
      (λ i t fixed there. fixed_is spell (word_at text i).spelled t (token_at token_of text _ i t there) fixed (each_at all _ i (omega (arith, slice_get_within (map token_of text) i t there, length-map text token_of))))
      tree derived (length text) (length-map text token_of)

  pub read_back : (trails : tokens.Span → Bool) (encloses : tokens.Expressions → Bool → Bool) (chunk : Chunk) → IsChunk (map spelled_token source) chunk → IsReadBack source chunk (text_of spell source trails encloses chunk)
  read_back trails encloses chunk derived =
      let text : List TextWord = text_of spell source trails encloses chunk in
      let read : IsRead text (program source chunk) =
      read_as_bare (where_lone encloses) source chunk text
      (text_is_read (program_with (where_lone encloses) source chunk) text
      (tell_block token_of is_added (λ t. own_word (spelled_by spell t)) (λ t. added_word (spelled_by spell t)) (λ t. (refl, refl)) (λ t. (refl, refl)) (map spelled_token source) (λ i. own_word (spelled_at source i))
      (λ i t there. token_at spelled_token source _ i t there) (λ i. refl) trails encloses derived)) in
      record {
        read = read;
        significant = text_significant text read.tree (text_spelled trails encloses chunk) read.is_tree
            ∙ ap (written_block spelled_token (spelled_by spell) (λ _. []) (λ _. false)) (spelled_alike source chunk text read)
            ∙ sym (significant_are_written spell source chunk derived are_spelled);
      }

pub written_is_read : WrittenIsRead
written_is_read spell source chunk trails encloses derived are_spelled = read_back spell source are_spelled trails encloses chunk derived
