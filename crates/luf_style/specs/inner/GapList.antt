-- Gaps by the numbers of their kinds. What only private functions cite.
use Rattle.std.specs.Prelude.{ℕ, ◌<◌, false, List, [], ◌∷◌, get_or}
use Rattle.std.specs.Bool.{⊤}
use Rattle.luf_doc.specs.declared.doc.Chance.TheVariants.{Tight}
use Rattle.luf_doc.specs.declared.doc.Gap.{Gap}

-- what a number stands for that no kind has
abbrev pub plain : Gap
plain = record { chance = Tight; notes = []; blank = false; deeper = false }

-- the gaps of which these are the numbers
abbrev pub gaps_at : List Gap → List ℕ → List Gap
gaps_at kinds [] = []
gaps_at kinds (row ∷ rows) = get_or kinds row plain ∷ gaps_at kinds rows

-- each is a number of so many kinds
abbrev pub AreRows : ℕ → List ℕ → Type 0
AreRows count [] = ⊤
AreRows count (row ∷ rows) = (row < count) × AreRows count rows
