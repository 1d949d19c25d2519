-- A source with its tree, and the first fault of its names and jumps. The limit of levels is our own.
use Rattle.std.specs.Prelude.{ℕ, ◌≤◌, Option, List}
use Rattle.luf_lex.specs.Cut.{IsCut}
use Rattle.luf_lex.specs.Tokens.{toks_of}
use Rattle.luf_lex.specs.declared.token.Piece.{Piece}
use Rattle.luf_tree.specs.declared.tree.Chunk.{Chunk}
use Rattle.luf_tree.specs.Grammar.{IsChunk}
use Rattle.luf_tree.specs.Level.{level_limit, depth_of}
use Rattle.luf_scope.specs.Fault.{scope_fault}
use Rattle.luf_scope.specs.Links.{spelling_in, occurrences_of}
use Rattle.luf_scope.specs.declared.fault.ScopeBad.{ScopeBad}

-- a source: its pieces, and a tree of its tokens that is nested at most 200 levels deep
pub record IsSource (source : List ℕ) (pieces : List Piece) (chunk : Chunk) : Type 0 where
  pub cut : IsCut source pieces
  pub tree : IsChunk (toks_of pieces) chunk
  pub levels : depth_of chunk ≤ level_limit

-- the first fault of its names and jumps, if it has one
abbrev pub scope_fault_of : List ℕ → List Piece → Chunk → Option ScopeBad
scope_fault_of source pieces chunk = scope_fault (spelling_in source pieces) (occurrences_of chunk)
