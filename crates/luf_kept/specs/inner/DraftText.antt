-- The words of a draft as a text of the program: read back, they are the program of the source, with parentheses round the
-- arguments that have them in the draft.
use Rattle.std.specs.Prelude.{◌≡◌, ℕ, Bool, false, true, Some, List, [], ◌∷◌, slice_get, get_or, length}
use Rattle.luf_lex.specs.Spelling.{Spells}
use Rattle.luf_lex.specs.declared.token.Kind.TheVariants.{Token}
use Rattle.luf_lex.specs.declared.token.Tok.{Tok}
use Rattle.luf_tree.specs.declared.tree.Chunk.{Chunk}
use Rattle.luf_tree.specs.Grammar.{IsChunk}
use Rattle.luf_tree.specs.SyntaxOf.{syntax_of}
use Rattle.luf_tree.specs.Syntax as syntax
use Rattle.luf_bare.specs.Bare.{Bare, words_of, as_here, chosen_block}
use Rattle.luf_bare.specs.Lone.{by_kind}
use Rattle.luf_bare.specs.ReadBack.{TextWord, token_of, is_added, word_at, program_with, IsReadBack}
use Rattle.luf_bare.specs.Texts.{WritesBlock}
use Rattle.luf_min.specs.Minified.{spelled_tokens, spellings}
use Rattle.luf_draft.specs.Draft.{Draft}
use Rattle.luf_draft.specs.Form.{main, written_program}
use Rattle.luf_kept.specs.inner.Marks.{Marks}
use Rattle.luf_kept.specs.inner.Takes.{Takes}

-- where the tokens of a chunk are written so: each as its kind is spelled
pub record IsWritten (toks : List Tok) (written : List (List ℕ)) : Type 0 where
  pub spelled : (i : ℕ) (t : Tok) → slice_get toks i ≡ Some t → Spells (Token t) (get_or written i [])
  pub as_many : length written ≡ length toks

-- a word is spelled as its token is
abbrev pub IsSpelled : TextWord → Type 0
IsSpelled w = Spells (Token (token_of w)) w.spelled.spelling

abbrev pub AreTokens : List TextWord → Type 0
AreTokens [] = Unit {0}
AreTokens (w ∷ text) = IsSpelled w × AreTokens text

-- the program of the tokens, with the parentheses that the draft has
abbrev pub drafted_program : List Tok → List (List ℕ) → (Bool → Bool) → (Bool → Bool) → Chunk → syntax.Block (Bare TextWord)
drafted_program toks written string_has table_has = program_with (by_kind string_has table_has) (spelled_tokens (λ i. get_or written i []) 0 toks)

-- words that a draft takes, as those of a text, which is read as the program of the tokens
pub record DraftText (toks : List Tok) (written : List (List ℕ)) (string_has table_has : Bool → Bool) (chunk : Chunk) (draft : Draft) (words : List (List ℕ)) (takes : Takes draft words []) : Type 0 where
  pub text : List TextWord
  pub words_are : spellings text ≡ words
  pub wrote : WritesBlock token_of is_added (drafted_program toks written string_has table_has chunk) text
  pub back : IsReadBack (spelled_tokens (λ i. get_or written i []) 0 toks) chunk text
  pub same : chosen_block (words_of (word_at text)) as_here (syntax_of back.read.tree) ≡ drafted_program toks written string_has table_has chunk
  pub spelled : AreTokens text
  pub marked : Marks draft words [] takes text [] false true

abbrev pub DraftIsText : Type 0
DraftIsText =
    (toks : List Tok) (written : List (List ℕ)) (string_has table_has : Bool → Bool) (chunk : Chunk) → IsChunk toks chunk → IsWritten toks written → (words : List (List ℕ))
    → (takes : Takes (main string_has table_has (written_program written chunk)) words []) → DraftText toks written string_has table_has chunk (main string_has table_has (written_program written chunk)) words takes
