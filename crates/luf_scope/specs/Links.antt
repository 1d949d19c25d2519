-- What `resolve` answers: of each token what it is to the names of a chunk, and the local variables.
use Rattle.std.specs.Prelude.{◌≡◌, ℕ, ◌<◌, ◌≤◌, cond, Option, Some, None, List, [], map, slice_get, unwrap_or, nat_lt}
use Rattle.luf_lex.specs.declared.token.Piece.{Piece}
use Rattle.luf_lex.specs.Tokens.{spellings_of}
use Rattle.luf_tree.specs.declared.tree.Chunk.{Chunk}
use Rattle.luf_tree.specs.SyntaxOf.{syntax_of}
use Rattle.luf_scope.specs.Local.{Spelling, locals_of, binder_of}
use Rattle.luf_scope.specs.Marks.{mark_at}
use Rattle.luf_scope.specs.Occurrences.{occurrences_in_block}
use Rattle.luf_scope.specs.Role.{role_of}
use Rattle.luf_scope.specs.declared.binder.Binder.{Binder}
use Rattle.luf_scope.specs.declared.binder.Role.{Role}
use Rattle.luf_scope.specs.declared.binder.Role.TheVariants as role
use Rattle.luf_scope.specs.declared.fault.ScopeBad.{ScopeBad}
use Rattle.luf_scope.specs.declared.fault.ScopeErr.{ScopeErr}
use Rattle.luf_scope.specs.declared.fault.ScopeErr.TheVariants as err
use Rattle.luf_scope.specs.declared.occurrence.Occurrence.{Occurrence}

-- how the tokens of a source are spelled; beyond the last one nothing is
abbrev pub spelling_in : List ℕ → List Piece → Spelling
spelling_in source pieces n = unwrap_or (slice_get (spellings_of source pieces) n) []

-- all that a chunk says of names
abbrev pub occurrences_of : Chunk → List Occurrence
occurrences_of chunk = occurrences_in_block (syntax_of chunk)

-- what is said of a chunk: how many tokens it has, the roles of those that are not plain, and the local variables by
-- their numbers
pub record NameTable : Type 0 where
  pub tokens : ℕ
  pub roles : List (ℕ × Role)
  pub binders : List Binder

-- the role of a token; none from the number of tokens on
abbrev pub role_at : NameTable → ℕ → Option Role
role_at links n = cond (nat_lt n links.tokens) (Some (unwrap_or (mark_at links.roles n) role.Plain)) None

-- each role is as the scopes of the chunk have it
pub record AreLinks (spelled : Spelling) (occurrences : List Occurrence) (tokens : ℕ) (links : NameTable) : Type 0 where
  pub roles : (n : ℕ) → n < tokens → role_at links n ≡ Some (role_of spelled occurrences n)
  pub no_more : (n : ℕ) → tokens ≤ n → role_at links n ≡ None
  pub binders : links.binders ≡ map binder_of (locals_of spelled occurrences)

-- a fact of the fault that an error tells; none is asked of a want of memory
abbrev pub IfBad : ScopeErr → (ScopeBad → Type 0) → Type 0
IfBad (err.Bad bad) P = P bad
IfBad err.Memory P = Unit {0}
