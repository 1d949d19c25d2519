-- The items of a chunk are spelled as the words of its minified text.
use Rattle.std.proofs.Common.{◌≡◌, ℕ, zero, suc, ◌+◌, ◌<◌, List, [], ◌∷◌, ◌++◌, map, length, All, append_assoc, refl, sym, ap, ◌∙◌, subst, arith}
use Rattle.std.specs.Prelude.{OnOk}
use Rattle.std.proofs.lemmas.List.Elements.{All-head, All-tail}
use Rattle.luf_lex.specs.Tokens.{toks_of}
use Rattle.luf_lex.specs.declared.token.Tok.{Tok}
use Rattle.luf_lex.specs.declared.token.Tok.TheVariants as tok
use Rattle.luf_lex.specs.declared.token.Piece.{Piece}
use Rattle.luf_tree.specs.declared.tree.Chunk.{Chunk}
use Rattle.luf_tree.specs.Grammar.{IsChunk}
use Rattle.luf_tree.specs.SyntaxOf.{syntax_of}
use Rattle.luf_bare.specs.Significant.{IsFixed}
use Rattle.luf_bare.specs.Writing.{opens}
use Rattle.luf_bare.specs.ReadBack.{SpelledToken, TextWord, token_of, spelled_at, own_word, added_word, spelled_by}
use Rattle.luf_resolved.proofs.Paired.{Paired, nothing, more}
use Rattle.luf_scope.specs.Local.{Spelling}
use Rattle.luf_min.specs.Minified.{fixed_spelling, spelled_tokens, minified_words, spellings, IsMinifiedSo}
use Rattle.luf_min.specs.Text.{IsJoined, hash_text}
use Rattle.luf_min.specs.declared.item.Item.{Item}
use Rattle.luf_min.specs.declared.item.Item.TheVariants.{Token, Word, Sign}
use Rattle.luf_min.specs.inner.Items.{token_at, kind_of, item_of, added_items, never_trails, never_encloses, items_in_block, spelling_of, IsWithin}
use Rattle.luf_min.proofs.Added.{Done, on_ok}
use Rattle.luf_min.proofs.ItemsWithin.{items_within}
use Rattle.luf_min.proofs.PairedWritten.{paired_block}

told_token : (spelled : Spelling) (n : ℕ) (toks : List Tok) (i : ℕ) → (spelled_at (spelled_tokens spelled n toks) i).token ≡ token_at toks i
told_token spelled n [] i = refl
told_token spelled n (t ∷ toks) zero = refl
told_token spelled n (t ∷ toks) (suc i) = told_token spelled (n + 1) toks i

told_spelling : (spelled : Spelling) (n : ℕ) (toks : List Tok) (i : ℕ) → i < length toks → (spelled_at (spelled_tokens spelled n toks) i).spelling ≡ spelled (n + i)
told_spelling spelled n [] i within = absurd (omega (arith, within))
told_spelling spelled n (t ∷ toks) zero within = let at : n ≡ n + 0 = omega arith in ap spelled at
told_spelling spelled n (t ∷ toks) (suc i) within = let at : (n + 1) + i ≡ n + suc i = omega arith in told_spelling spelled (n + 1) toks i (omega (arith, within)) ∙ ap spelled at

module _ (spelled : Spelling) (toks : List Tok) where
  abbrev spelled_item : Item → SpelledToken
  spelled_item (Token n) = spelled_at (spelled_tokens spelled 0 toks) n
  spelled_item (Word w) = spelled_by fixed_spelling (tok.Word w)
  spelled_item (Sign s) = spelled_by fixed_spelling (tok.Sign s)

  -- the word of an item
  abbrev IsWord : Item → TextWord → Type 0
  IsWord x word = spelled_item x ≡ word.spelled

  item_opens : (x : Item) → opens (kind_of toks x) ≡ opens (spelled_item x).token
  item_opens (Token n) = ap opens (sym (told_token spelled 0 toks n))
  item_opens (Word w) = refl
  item_opens (Sign s) = refl

  item_put : (t : Tok) → IsFixed t → spelled_item (item_of t) ≡ spelled_by fixed_spelling t
  item_put (tok.Word w) fixed = refl
  item_put (tok.Sign s) fixed = refl
  item_put tok.Name fixed = absurd fixed
  item_put tok.Number fixed = absurd fixed
  item_put tok.Short fixed = absurd fixed
  item_put tok.Long fixed = absurd fixed

  item_spelled : (x : Item) → IsWithin (length toks) x → spelling_of spelled x ≡ (spelled_item x).spelling
  item_spelled (Token n) within = let at : 0 + n ≡ n = omega arith in sym (told_spelling spelled 0 toks n within ∙ ap spelled at)
  item_spelled (Word w) within = refl
  item_spelled (Sign s) within = refl

  all_spelled : {items : List Item} {words : List TextWord} → Paired IsWord items words → All (IsWithin (length toks)) items → map (spelling_of spelled) items ≡ spellings words
  all_spelled nothing within = refl
  all_spelled (more {x} {xs} is there) within =
      let here : spelling_of spelled x ≡ (spelled_item x).spelling = item_spelled x (All-head (IsWithin (length toks)) x xs within) in
      let rest = all_spelled there (All-tail (IsWithin (length toks)) x xs within) in
      λ i. (here ∙ ap (λ (w : SpelledToken). w.spelling) is) i ∷ rest i

  pub items_spelled : (chunk : Chunk) → IsChunk toks chunk → map (spelling_of spelled) (items_in_block toks (syntax_of chunk)) ≡ spellings (minified_words spelled toks chunk)
  items_spelled chunk derived =
      all_spelled
      (paired_block (kind_of toks) item_of added_items token_of (λ t. own_word (spelled_by fixed_spelling t)) (λ t. added_word (spelled_by fixed_spelling t) ∷ []) never_trails never_encloses Token (λ i. own_word (spelled_at (spelled_tokens spelled 0 toks) i)) IsWord
      (λ x word is. item_opens x ∙ ap (λ (w : SpelledToken). opens w.token) is) (λ t fixed. item_put t fixed) (λ t fixed. more (item_put t fixed) nothing) (λ i. refl) (syntax_of chunk))
      (items_within toks chunk derived)

pub minified_so : (source : List ℕ) (pieces : List Piece) (chunk : Chunk) (spelled : Spelling) (items : List Item) (tokens : List ℕ) → IsChunk (toks_of pieces) chunk → items ≡ items_in_block (toks_of pieces) (syntax_of chunk) → IsJoined (map (spelling_of spelled) items) tokens → IsMinifiedSo source pieces chunk spelled (hash_text source pieces ++ tokens)
minified_so source pieces chunk spelled items tokens derived is joined = record {
  tokens = tokens;
  joined = subst (λ words. IsJoined words tokens) (ap (map (spelling_of spelled)) is ∙ items_spelled spelled (toks_of pieces) chunk derived) joined;
  is = refl;
}

-- what is written of the items, behind the `#` line
pub text_written : (source : List ℕ) (pieces : List Piece) (chunk : Chunk) (spelled : Spelling) (items : List Item) (old mid new : List ℕ) (r : Done) → IsChunk (toks_of pieces) chunk → items ≡ items_in_block (toks_of pieces) (syntax_of chunk) → mid ≡ old ++ hash_text source pieces
    → OnOk r ((tokens : List ℕ) × IsJoined (map (spelling_of spelled) items) tokens × (new ≡ mid ++ tokens)) → OnOk r ((text : List ℕ) × IsMinifiedSo source pieces chunk spelled text × (new ≡ old ++ text))
text_written source pieces chunk spelled items old mid new r derived is hash =
    on_ok r (λ (w : (tokens : List ℕ) × IsJoined (map (spelling_of spelled) items) tokens × (new ≡ mid ++ tokens)).
    (hash_text source pieces ++ w.0, minified_so source pieces chunk spelled items w.0 derived is w.1, w.2 ∙ ap (λ t. t ++ w.0) hash ∙ append_assoc old (hash_text source pieces) w.0))
