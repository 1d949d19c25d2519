-- The minified text of a source, and what is read of it. Our own rules.
use Rattle.std.specs.Prelude.{◌≡◌, ℕ, ◌+◌, false, None, List, [], ◌∷◌, ◌++◌, map, length, unwrap_or}
use Rattle.luf_lex.specs.Word.{word_spelling}
use Rattle.luf_lex.specs.Sign.{sign_spelling}
use Rattle.luf_lex.specs.Tokens.{toks_of}
use Rattle.luf_lex.specs.declared.token.Piece.{Piece}
use Rattle.luf_lex.specs.declared.token.Tok.{Tok}
use Rattle.luf_lex.specs.declared.token.Tok.TheVariants as tok
use Rattle.luf_tree.specs.declared.tree.Chunk.{Chunk}
use Rattle.luf_tree.specs.SyntaxOf.{syntax_of}
use Rattle.luf_bare.specs.ReadBack.{SpelledToken, TextWord, spelled_at, significant_words, text_of}
use Rattle.luf_scope.specs.Links.{spelling_in, occurrences_of}
use Rattle.luf_scope.specs.Local.{Spelling}
use Rattle.luf_scope.specs.Marks.{mark_at}
use Rattle.luf_resolved.specs.Resolved.{resolved}
use Rattle.luf_resolved.specs.Source.{IsSource, scope_fault_of}
use Rattle.luf_interf.specs.NewNames.{Naming, AreLeast, renamed}
use Rattle.luf_min.specs.Text.{IsJoined, hash_text}

-- the one spelling of a keyword or a sign
abbrev pub fixed_spelling : Tok → List ℕ
fixed_spelling (tok.Word w) = word_spelling w
fixed_spelling (tok.Sign s) = sign_spelling s
fixed_spelling _ = []

-- tokens with their spellings, of which the first has this number
abbrev pub spelled_tokens : Spelling → ℕ → List Tok → List SpelledToken
spelled_tokens spelled n [] = []
spelled_tokens spelled n (t ∷ toks) = record { token = t; spelling = spelled n } ∷ spelled_tokens spelled (n + 1) toks

-- the words of the minified text, where the tokens are spelled so: those of the program, with `,` between fields and none
-- behind the last, no parentheses round lone arguments, and `;` where a statement could be read as going on
abbrev pub minified_words : Spelling → List Tok → Chunk → List TextWord
minified_words spelled toks chunk = text_of fixed_spelling (spelled_tokens spelled 0 toks) (λ _. false) (λ _ _. false) chunk

abbrev pub spellings : List TextWord → List (List ℕ)
spellings words = map (λ w. w.spelled.spelling) words

-- the minified text of a source whose tokens are spelled so: its `#` line, and the words with the fewest spaces
pub record IsMinifiedSo (source : List ℕ) (pieces : List Piece) (chunk : Chunk) (spelled : Spelling) (text : List ℕ) : Type 0 where
  pub tokens : List ℕ
  pub joined : IsJoined (spellings (minified_words spelled (toks_of pieces) chunk)) tokens
  pub is : text ≡ hash_text source pieces ++ tokens

-- how tokens are spelled under these new names
abbrev pub spelled_under : List (ℕ × List ℕ) → Spelling → Spelling
spelled_under names spelled token = unwrap_or (mark_at names token) (spelled token)

-- the spellings of a source under a naming
abbrev pub renamed_in : List ℕ → List Piece → Chunk → Naming → Naming → Spelling
renamed_in source pieces chunk naming label_naming = renamed (spelling_in source pieces) (occurrences_of chunk) naming label_naming

-- The minified text of a source: each renamed local variable and each label has its least free name.
pub record IsMinified (source text : List ℕ) : Type 0 where
  pub pieces : List Piece
  pub chunk : Chunk
  pub is : IsSource source pieces chunk
  pub naming : Naming
  pub label_naming : Naming
  pub least : AreLeast (spelling_in source pieces) (occurrences_of chunk) naming label_naming
  pub minified : IsMinifiedSo source pieces chunk (renamed_in source pieces chunk naming label_naming) text

-- The text of a source is read as the same program: it has a tree and no scope fault, what it resolves to is what the
-- source resolves to, and its significant tokens are those of the source, in order, each renamed local variable and each
-- label under its least free name and all others as they were. Its `#` line is that of the source.
pub record IsSameProgram (source text : List ℕ) : Type 0 where
  pub pieces : List Piece
  pub chunk : Chunk
  pub is : IsSource source pieces chunk
  pub naming : Naming
  pub label_naming : Naming
  pub least : AreLeast (spelling_in source pieces) (occurrences_of chunk) naming label_naming
  pub others : List Piece
  pub other : Chunk
  pub read : IsSource text others other
  pub no_fault : scope_fault_of text others other ≡ None
  pub same : resolved (spelling_in text others) (syntax_of other) ≡ resolved (spelling_in source pieces) (syntax_of chunk)
  pub significant : significant_words (spelled_at (spelled_tokens (spelling_in text others) 0 (toks_of others))) (length (toks_of others)) other
      ≡ significant_words (spelled_at (spelled_tokens (renamed_in source pieces chunk naming label_naming) 0 (toks_of pieces))) (length (toks_of pieces)) chunk
  pub hash : hash_text text others ≡ hash_text source pieces
