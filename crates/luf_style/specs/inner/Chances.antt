-- What a gap with notes writes.
use Rattle.luf_doc.specs.declared.doc.Chance.{Chance}
use Rattle.luf_doc.specs.declared.doc.Chance.TheVariants.{Hard}
use Rattle.luf_draft.specs.Draft.{Border}
use Rattle.luf_draft.specs.Draft as draft

-- the chance of a gap with notes
abbrev pub noted_chance : Border → Chance → Chance
noted_chance draft.inside chance = chance
noted_chance draft.first_statement chance = chance
noted_chance draft.later_statement chance = chance
noted_chance draft.block_end chance = chance
noted_chance draft.empty_block chance = Hard
