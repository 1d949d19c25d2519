-- The bare program by ranks. The rank of a place is how many significant tokens stand before it, so a program and a
-- text of it have the same ranks where they have the same significant tokens.
use Rattle.std.specs.Prelude.{◌≡◌, ℕ, ◌<◌, ◌↔◌, false, Some, List, [], length, slice_get}
use Rattle.luf_tree.specs.SyntaxMap.{ShapeMap}
use Rattle.luf_tree.specs.TokenSyntax as tokens
use Rattle.luf_tree.specs.TokenSyntax.{from_to}
use Rattle.luf_bare.specs.Bare.{bare_block}
use Rattle.luf_bare.specs.Dropped.{dropped_block}
use Rattle.luf_bare.specs.Significant.{is_among, places_but, significant}

-- by the dropped tokens
abbrev pub rank : List ℕ → ℕ → ℕ
rank dropped place = length (places_but dropped 0 place)

-- ranks for places
abbrev pub ranks : List ℕ → ShapeMap tokens.Tokens tokens.Tokens
ranks dropped = record { span = λ s. from_to (rank dropped s.from) (rank dropped s.to); name = rank dropped; label = rank dropped; leaf = rank dropped }

-- the bare program of a chunk, with ranks for places
abbrev pub ranked : tokens.Block → tokens.Block
ranked chunk = bare_block (ranks (dropped_block chunk [])) chunk

-- a significant token stands before a place exactly where its rank is less
abbrev pub RanksInOrder : Type 0
RanksInOrder = (dropped : List ℕ) (token place : ℕ) → is_among token dropped ≡ false → (token < place) ↔ (rank dropped token < rank dropped place)

-- the significant token number r, from 0 on, has rank r
abbrev pub RanksCount : Type 0
RanksCount = (chunk : tokens.Block) (n r token : ℕ) → slice_get (significant chunk n) r ≡ Some token → rank (dropped_block chunk []) token ≡ r
