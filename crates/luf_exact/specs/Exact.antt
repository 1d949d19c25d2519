-- The exact token of a refusal, in terms of the lists of tokens that the grammar derives. These need not keep to the
-- limit of levels.
use Rattle.std.specs.Prelude.{ℕ, ◌+◌, ◌<◌, List, length, Contains}
use Rattle.luf_lex.specs.declared.token.Tok.{Tok}
use Rattle.luf_tree.specs.declared.tree.Chunk.{Chunk}
use Rattle.luf_tree.specs.Agree.{AgreeBefore}
use Rattle.luf_tree.specs.Entry.{entries}
use Rattle.luf_tree.specs.Grammar.{IsChunk}
use Rattle.luf_tree.specs.Level.{level_limit}
use Rattle.luf_descent.specs.declared.error.ParseErr.{ParseErr}
use Rattle.luf_descent.specs.declared.error.ParseErr.TheVariants as error

-- The tokens before a place begin a list that the grammar derives. Where the place is behind the end, they are all of it.
pub record Begins (toks : List Tok) (place : ℕ) : Type 0 where
  pub other : List Tok
  pub agrees : AgreeBefore toks other place
  pub chunk : Chunk
  pub derived : IsChunk other chunk

-- the tokens up to and with this one begin such a list, in which it enters the first level behind the limit
pub record EntersTooDeep (toks : List Tok) (token : ℕ) : Type 0 where
  pub within : token < length toks
  pub begins : Begins toks (token + 1)
  pub enters : Contains (entries begins.chunk) (record { token = token; level = level_limit + 1 })

-- the first token that enters a level too many
pub record IsTooDeepAt (toks : List Tok) (token : ℕ) : Type 0 where
  pub enters : EntersTooDeep toks token
  pub first : (k : ℕ) → k < token → EntersTooDeep toks k → ⊥

-- no tree, no such token, and the first token with which those up to it begin no list that the grammar derives, or the end
pub record IsSyntaxAt (toks : List Tok) (token : ℕ) : Type 0 where
  pub no_tree : (chunk : Chunk) → IsChunk toks chunk → ⊥
  pub not_deep : (k : ℕ) → EntersTooDeep toks k → ⊥
  pub stops : Begins toks (token + 1) → ⊥
  pub first : (k : ℕ) → k < token → Begins toks (k + 1)

-- the exact cause of an error
abbrev pub IsExactCause : List Tok → ParseErr → Type 0
IsExactCause toks (error.Syntax token) = IsSyntaxAt toks token
IsExactCause toks (error.TooDeep token) = IsTooDeepAt toks token
IsExactCause toks error.Memory = Unit {0}
