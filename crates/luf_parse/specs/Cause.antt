-- Why tokens are refused.
use Rattle.std.specs.Prelude.{◌≤◌, List, length}
use Rattle.luf_lex.specs.declared.token.Tok.{Tok}
use Rattle.luf_tree.specs.declared.tree.Chunk.{Chunk}
use Rattle.luf_tree.specs.Grammar.{IsChunk}
use Rattle.luf_tree.specs.Level.{depth_of, level_limit}
use Rattle.luf_descent.specs.Exact.{OfToken}
use Rattle.luf_descent.specs.declared.error.ParseErr.{ParseErr}

-- the grammar derives no tree from these tokens that is nested within the limit of levels
abbrev pub HasNoTree : List Tok → Type 0
HasNoTree toks = (chunk : Chunk) → IsChunk toks chunk → depth_of chunk ≤ level_limit → ⊥

-- The cause of an error, without the token that it names: that is said by `IsExactCause` of luf_exact. The token is one
-- of the list, or the end.
abbrev pub IsCause : List Tok → ParseErr → Type 0
IsCause toks e = OfToken (λ token. (token ≤ length toks) × HasNoTree toks) e
