-- Laws of minified text.
use Rattle.std.specs.Prelude.{◌≡◌, ℕ, None, List}
use Rattle.luf_lex.specs.declared.token.Piece.{Piece}
use Rattle.luf_tree.specs.declared.tree.Chunk.{Chunk}
use Rattle.luf_resolved.specs.Source.{IsSource, scope_fault_of}
use Rattle.luf_min.specs.Minified.{IsMinified, IsSameProgram}

-- a source without scope faults has a minified text
abbrev pub MinifiedExists : Type 0
MinifiedExists = (source : List ℕ) (pieces : List Piece) (chunk : Chunk) → IsSource source pieces chunk → scope_fault_of source pieces chunk ≡ None → (text : List ℕ) × IsMinified source text

-- with one tree a source has one minified text
abbrev pub OneMinified : Type 0
OneMinified =
    (source text other_text : List ℕ) → (minified : IsMinified source text) → (other : IsMinified source other_text) → minified.chunk ≡ other.chunk
    → text ≡ other_text

-- the minified text of a source without scope faults is the same program
abbrev pub MinifiedIsSame : Type 0
MinifiedIsSame =
    (source text : List ℕ) → (minified : IsMinified source text) → scope_fault_of source minified.pieces minified.chunk ≡ None
    → IsSameProgram source text
