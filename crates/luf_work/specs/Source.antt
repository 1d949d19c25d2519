-- What every job accepts. The limits are our own.
use Rattle.std.specs.Prelude.{◌≡◌, ℕ, ◌≤◌, None, List, length}
use Rattle.luf_lex.specs.declared.token.Piece.{Piece}
use Rattle.luf_tree.specs.declared.tree.Chunk.{Chunk}
use Rattle.luf_resolved.specs.Source.{IsSource, scope_fault_of}
use Rattle.luf_work.specs.Limits.{source_limit}

-- what every job accepts: a source within the limit of 4 MiB, without a scope fault
pub record IsAccepted (source : List ℕ) : Type 0 where
  pub within : length source ≤ source_limit
  pub pieces : List Piece
  pub chunk : Chunk
  pub is : IsSource source pieces chunk
  pub scopes : scope_fault_of source pieces chunk ≡ None
