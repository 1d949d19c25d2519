-- What is written of a program is read as the same program.
use Rattle.std.specs.Prelude.{◌≡◌, ℕ, ◌+◌, Bool, true, false, List, [], ◌∷◌, map, length, get_or}
use Rattle.luf_lex.specs.declared.token.Tok.{Tok}
use Rattle.luf_lex.specs.declared.token.Tok.TheVariants.{Name}
use Rattle.luf_tree.specs.declared.tree.Chunk.{Chunk}
use Rattle.luf_tree.specs.Grammar.{IsChunk}
use Rattle.luf_tree.specs.Level.{depth_of}
use Rattle.luf_tree.specs.Syntax as syntax
use Rattle.luf_tree.specs.SyntaxMap.{ShapeMap}
use Rattle.luf_tree.specs.TokenSyntax as tokens
use Rattle.luf_tree.specs.SyntaxOf.{syntax_of}
use Rattle.luf_bare.specs.Bare.{Bare, words_of, words_at, as_here, bare_block, bare_of, chosen_block}
use Rattle.luf_bare.specs.Dropped.{if_dropped, dropped_block}
use Rattle.luf_bare.specs.Significant.{IsFixed, significant}
use Rattle.luf_bare.specs.Writing.{written_block}
use Rattle.luf_bare.specs.Texts.{WritesBlock}

-- a token and how it is spelled
pub record SpelledToken : Type 0 where
  pub token : Tok
  pub spelling : List ℕ

-- a word of a text, and whether it is added to those of the program
pub record TextWord : Type 0 where
  pub spelled : SpelledToken
  pub added : Bool

abbrev pub token_of : TextWord → Tok
token_of word = word.spelled.token

abbrev pub is_added : TextWord → Bool
is_added word = word.added

-- the token at a place; behind the last stands a name without letters
abbrev pub spelled_at : List SpelledToken → ℕ → SpelledToken
spelled_at source i = get_or source i (record { token = Name; spelling = [] })

abbrev pub own_word : SpelledToken → TextWord
own_word spelled = record { spelled = spelled; added = false }

abbrev pub added_word : SpelledToken → TextWord
added_word spelled = record { spelled = spelled; added = true }

abbrev pub word_at : List TextWord → ℕ → TextWord
word_at text i = get_or text i (own_word (record { token = Name; spelling = [] }))

-- the places of the added words, of which the first stands at a place
abbrev pub additions : {X : Type 0} → (X → Bool) → ℕ → List X → List ℕ
additions added i [] = []
additions added i (word ∷ text) = if_dropped (added word) i (additions added (i + 1) text)

-- the bare program of a chunk, with the words of its text
abbrev pub program : List SpelledToken → Chunk → syntax.Block (Bare TextWord)
program source chunk = bare_block (words_of (λ i. own_word (spelled_at source i))) (syntax_of chunk)

-- with parentheses round the arguments that are enclosed, by the items and by whether they stand in parentheses in the source
abbrev pub program_with : (tokens.Expressions → Bool → Bool) → List SpelledToken → Chunk → syntax.Block (Bare TextWord)
program_with encloses source chunk = chosen_block (words_of (λ i. own_word (spelled_at source i))) encloses (syntax_of chunk)

-- the significant tokens of a chunk of so many tokens, with what stands at each place
abbrev pub significant_words : (ℕ → SpelledToken) → ℕ → Chunk → List SpelledToken
significant_words says n chunk = map says (significant (syntax_of chunk) n)

-- each keyword and each sign is spelled in its one way
abbrev pub AreSpelled : (Tok → List ℕ) → List SpelledToken → Type 0
AreSpelled spell source = (i : ℕ) → IsFixed (spelled_at source i).token → (spelled_at source i).spelling ≡ spell (spelled_at source i).token

-- a word for a token, in its one spelling
abbrev pub spelled_by : (Tok → List ℕ) → Tok → SpelledToken
spelled_by spell token = record { token = token; spelling = spell token }

-- What is written of a chunk: with a separator behind the last field of the tables that trail, and parentheses round
-- the lone arguments that are enclosed.
abbrev pub text_of : (Tok → List ℕ) → List SpelledToken → (tokens.Span → Bool) → (tokens.Expressions → Bool → Bool) → Chunk → List TextWord
text_of spell source trails encloses chunk =
    written_block token_of (λ t. own_word (spelled_by spell t)) (λ t. added_word (spelled_by spell t) ∷ []) trails (chosen_block (words_at (λ i. own_word (spelled_at source i))) encloses (syntax_of chunk))

-- the tokens of a text have a tree, it is of this bare program, and what it drops are the added words
pub record IsRead (text : List TextWord) (bare : syntax.Block (Bare TextWord)) : Type 0 where
  pub tree : Chunk
  pub is_tree : IsChunk (map token_of text) tree
  pub same : bare_block (words_of (word_at text)) (syntax_of tree) ≡ bare
  pub drops : dropped_block (syntax_of tree) [] ≡ additions is_added 0 text

-- and the arguments of the tree stand in parentheses where those of this program do: this is the program of the tree
pub record IsReadAs (text : List TextWord) (written : syntax.Block (Bare TextWord)) : Type 0 where
  pub read : IsRead text (bare_of written)
  pub same : chosen_block (words_of (word_at text)) as_here (syntax_of read.tree) ≡ written

abbrev pub TextIsRead : Type 0
TextIsRead = (written : syntax.Block (Bare TextWord)) (text : List TextWord) → WritesBlock token_of is_added written text → IsReadAs text written

-- the text is read as the program of the source, and the significant tokens of both are the same, in order and in
-- spelling
pub record IsReadBack (source : List SpelledToken) (chunk : Chunk) (text : List TextWord) : Type 0 where
  pub read : IsRead text (program source chunk)
  pub significant : significant_words (λ i. (word_at text i).spelled) (length text) read.tree ≡ significant_words (spelled_at source) (length source) chunk

abbrev pub WrittenIsRead : Type 0
WrittenIsRead =
    (spell : Tok → List ℕ) (source : List SpelledToken) (chunk : Chunk) (trails : tokens.Span → Bool) (encloses : tokens.Expressions → Bool → Bool)
    → IsChunk (map (λ (w : SpelledToken). w.token) source) chunk → AreSpelled spell source → IsReadBack source chunk (text_of spell source trails encloses chunk)

-- the significant tokens are what is written of the bare program with nothing added
abbrev pub SignificantAreWritten : Type 0
SignificantAreWritten =
    (spell : Tok → List ℕ) (source : List SpelledToken) (chunk : Chunk) → IsChunk (map (λ (w : SpelledToken). w.token) source) chunk → AreSpelled spell source
    → significant_words (spelled_at source) (length source) chunk ≡ written_block (λ w. w.token) (spelled_by spell) (λ _. []) (λ _. false) (bare_block (words_of (spelled_at source)) (syntax_of chunk))

-- of one bare program: one depth
abbrev pub OneDepth : Type 0
OneDepth = (f g : ShapeMap tokens.Tokens (Bare SpelledToken)) (chunk other : Chunk) → bare_block f (syntax_of chunk) ≡ bare_block g (syntax_of other) → depth_of chunk ≡ depth_of other
