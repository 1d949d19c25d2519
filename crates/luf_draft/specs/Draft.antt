-- The draft of a document: its texts in order, and where a gap between two tokens stands, what kind of gap it is. What
-- a document adds to it are the notes of its gaps. Rules of our own.
use Rattle.std.specs.Prelude.{ℕ, Bool, true, false, List, [], ◌∷◌}
use Rattle.luf_doc.specs.declared.doc.Chance.{Chance}
use Rattle.luf_doc.specs.declared.doc.Chance.TheVariants.{Tight, Space, Soft, Line, Hard}

-- Where a gap stands in its block: inside a statement; before the first statement of a block or before a later one; before
-- the word that ends a block, or the end; or in a block without statements.
pub data Border : Type 0 where
  inside first_statement later_statement block_end empty_block : Border

pub record Opening : Type 0 where
  pub chance : Chance
  pub deeper : Bool
  pub border : Border

mutual
  pub data Draft : Type 0 where
    word : (bytes : List ℕ) → Draft
    opening : (gap : Opening) → Draft
    trail : Draft
    nest : (inner : Draft) → Draft
    group : (inner : Draft) → Draft
    sequence : (items : Drafts) → Draft

  pub data Drafts : Type 0 where
    nothing : Drafts
    also : (first : Draft) (rest : Drafts) → Drafts

abbrev pub drafts : List Draft → Drafts
drafts [] = nothing
drafts (d ∷ ds) = also d (drafts ds)

-- the pieces of one construct, in order
abbrev pub pieces : List Draft → Draft
pieces ds = sequence (drafts ds)

abbrev gap_of : Chance → Draft
gap_of chance = opening (record { chance = chance; deeper = false; border = inside })

abbrev closing_of : Chance → Draft
closing_of chance = opening (record { chance = chance; deeper = true; border = inside })

abbrev pub tight : Draft
tight = gap_of Tight

abbrev pub space : Draft
space = gap_of Space

abbrev pub soft : Draft
soft = gap_of Soft

abbrev pub line : Draft
line = gap_of Line

-- the gap before what ends parameters, arguments or a table: its notes stand one level deeper
abbrev pub tight_end : Draft
tight_end = closing_of Tight

abbrev pub soft_end : Draft
soft_end = closing_of Soft

abbrev pub line_end : Draft
line_end = closing_of Line

-- the gap before a statement
abbrev pub before_statement : Bool → Draft
before_statement true = opening (record { chance = Hard; deeper = false; border = first_statement })
before_statement false = opening (record { chance = Hard; deeper = false; border = later_statement })

-- the gap before the word that ends a block with statements, and the one of a block without
abbrev pub block_ends : Draft
block_ends = opening (record { chance = Hard; deeper = true; border = block_end })

abbrev pub nothing_inside : Draft
nothing_inside = opening (record { chance = Space; deeper = true; border = empty_block })

-- the same of the main block, at the end of the source
abbrev pub source_ends : Draft
source_ends = opening (record { chance = Hard; deeper = false; border = block_end })

abbrev pub nothing_at_all : Draft
nothing_at_all = opening (record { chance = Hard; deeper = false; border = empty_block })
