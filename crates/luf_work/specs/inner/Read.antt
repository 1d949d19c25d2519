-- What is found of a source: its names and its jumps, or the first fault of each.
use Rattle.std.specs.Prelude.{◌≡◌, ℕ, Some, None, List, length, Result, Ok, Err}
use Rattle.luf_lex.specs.Tokens.{toks_of}
use Rattle.luf_lex.specs.declared.token.Piece.{Piece}
use Rattle.luf_tree.specs.declared.tree.Chunk.{Chunk}
use Rattle.luf_scope.specs.Fault.{first_fault, name_faults, jump_faults}
use Rattle.luf_scope.specs.Links.{NameTable, spelling_in, occurrences_of, AreLinks}
use Rattle.luf_scope.specs.declared.fault.ScopeBad.{ScopeBad}
use Rattle.luf_scope.specs.declared.jump.JumpRole.{JumpRole}
use Rattle.luf_goto.specs.Jumps.{AreJumps}
use Rattle.luf_resolved.specs.Source.{IsSource, scope_fault_of}
use Rattle.luf_work.specs.declared.source.NamedSource.{NamedSource}
use Rattle.luf_work.specs.declared.source.ReadSource.{ReadSource}

module _ (source : List ℕ) (pieces : List Piece) (chunk : Chunk) where
  abbrev pub AreFoundNames : Result NameTable ScopeBad → Type 0
  AreFoundNames (Ok links) = AreLinks (spelling_in source pieces) (occurrences_of chunk) (length (toks_of pieces)) links
      × (first_fault (name_faults (spelling_in source pieces) (occurrences_of chunk)) ≡ None)
  AreFoundNames (Err bad) = first_fault (name_faults (spelling_in source pieces) (occurrences_of chunk)) ≡ Some bad

  abbrev pub AreFoundJumps : Result (List (ℕ × JumpRole)) ScopeBad → Type 0
  AreFoundJumps (Ok jumps) = AreJumps (spelling_in source pieces) (occurrences_of chunk) jumps
      × (first_fault (jump_faults (spelling_in source pieces) (occurrences_of chunk)) ≡ None)
  AreFoundJumps (Err bad) = first_fault (jump_faults (spelling_in source pieces) (occurrences_of chunk)) ≡ Some bad

-- an accepted source as it was read
pub record IsRead (source : List ℕ) (a : ReadSource) : Type 0 where
  pub is : IsSource source a.pieces a.chunk
  pub scopes : scope_fault_of source a.pieces a.chunk ≡ None

-- and what its names and labels are
pub record IsNamed (source : List ℕ) (a : NamedSource) : Type 0 where
  pub is : IsRead source a.source
  pub links : AreLinks (spelling_in source a.source.pieces) (occurrences_of a.source.chunk) (length (toks_of a.source.pieces)) a.links
  pub jumps : AreJumps (spelling_in source a.source.pieces) (occurrences_of a.source.chunk) a.jumps
  pub read : a.occurrences.items ≡ occurrences_of a.source.chunk
