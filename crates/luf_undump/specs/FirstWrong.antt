-- The first field with which no chunk goes on, by the grammar of chunks alone: what stands before the field begins some chunk.
use Rattle.std.specs.Prelude.{◌≡◌, ℕ, suc, ◌<◌, ◌≤◌, List, [], ◌∷◌, ◌++◌, length, Some}
use Rattle.std.specs.List.{AllByRecursion}
use Rattle.luf_proto.specs.Chunk.{header}
use Rattle.luf_proto.specs.Function.{Function}
use Rattle.luf_undump.specs.Field.{InChunk, a_size, some_bytes}
use Rattle.luf_undump.specs.Grammar.{IsChunkOf, IsCountOf, IsFunctionOf}
use Rattle.luf_undump.specs.Reading.{most_levels}
use Rattle.luf_undump.specs.declared.error.ChunkWhat.{ChunkWhat}
use Rattle.luf_undump.specs.declared.error.ChunkWhat.TheVariants.{BadHeader, Short, BadSize, BadTag, Nested, Trailing}

abbrev pub AreBytes : List ℕ → Type 0
AreBytes bytes = AllByRecursion (λ byte. byte < 256) bytes

-- groups of 7 bits that are not the last of their size
abbrev pub AreGroups : List ℕ → Type 0
AreGroups bytes = AllByRecursion (λ byte. byte < 128) bytes

-- ---- what goes on to a chunk

-- some chunk begins so
abbrev pub Begins : List ℕ → Type 0
Begins front = (more : List ℕ) × (f : Function) × AreBytes more × IsChunkOf (front ++ more) f

-- no chunk begins so
abbrev pub BeginsNone : List ℕ → Type 0
BeginsNone front = (more : List ℕ) (f : Function) → IsChunkOf (front ++ more) f → ⊥

-- a chunk, but that functions may stand one level deeper
pub data IsDeeperChunkOf : List ℕ → Function → Type 0 where
  deeper_chunk : (upvalues : ℕ) (main : List ℕ) (f : Function) → IsFunctionOf (suc most_levels) (Some upvalues) main f → IsDeeperChunkOf (header ++ upvalues ∷ main) f

abbrev pub BeginsDeeper : List ℕ → Type 0
BeginsDeeper front = (more : List ℕ) × (f : Function) × AreBytes more × IsDeeperChunkOf (front ++ more) f

-- ---- the field

-- of these bytes the first wrong field begins at this one, and is wrong so
pub data IsFirstWrong : List ℕ → ℕ → ChunkWhat → Type 0 where
  -- a byte that is not the header's
  bad_header : (front others rest : List ℕ) (byte wanted : ℕ) → header ≡ front ++ wanted ∷ others → (byte ≡ wanted → ⊥) → Begins front → BeginsNone (front ++ byte ∷ [])
      → IsFirstWrong (front ++ byte ∷ rest) (length front) BadHeader
  -- a tag, a flag or a kind, which all could be 0
  bad_tag : (front rest : List ℕ) (byte : ℕ) → length header ≤ length front → InChunk front (some_bytes 1) → Begins (front ++ 0 ∷ []) → BeginsNone (front ++ byte ∷ [])
      → IsFirstWrong (front ++ byte ∷ rest) (length front) BadTag
  -- a size as far as its mark
  bad_size : (front groups rest : List ℕ) (last : ℕ) → AreGroups groups → 128 ≤ last → InChunk front a_size → Begins front → BeginsNone (front ++ groups ++ last ∷ [])
      → IsFirstWrong (front ++ groups ++ last ∷ rest) (length front) BadSize
  -- a size that the bytes end in
  short_size : (front groups : List ℕ) → AreGroups groups → InChunk front a_size → Begins front → IsFirstWrong (front ++ groups) (length front) Short
  -- another field that the bytes end in: whatever stands there in place of what is left of it, a chunk begins so
  short_bytes : (front rest : List ℕ) (n : ℕ) → length rest < n → InChunk front (some_bytes n) → ((others : List ℕ) → length others ≤ length rest → Begins (front ++ others))
      → ((others : List ℕ) (f : Function) → length others ≤ length rest → IsChunkOf (front ++ others) f → ⊥) → IsFirstWrong (front ++ rest) (length front) Short
  -- a count of functions where none may be: they would be too deep, by one level. Nested is told behind the count, where the first of them is to begin
  too_deep : (front count rest : List ℕ) (n : ℕ) → IsCountOf count (suc n) → InChunk front a_size → Begins front → BeginsNone (front ++ count) → BeginsDeeper (front ++ count)
      → IsFirstWrong (front ++ count ++ rest) (length (front ++ count)) Nested
  -- a byte behind a chunk
  byte_behind : (front rest : List ℕ) (byte : ℕ) (f : Function) → IsChunkOf front f → BeginsNone (front ++ byte ∷ []) → IsFirstWrong (front ++ byte ∷ rest) (length front) Trailing
