-- How many gaps a draft has.
use Rattle.std.specs.Prelude.{ℕ, ◌+◌}
use Rattle.luf_draft.specs.Draft.{Draft, Drafts, word, opening, trail, nest, group, sequence, nothing, also}

abbrev mutual
  pub openings : Draft → ℕ
  openings (word bytes) = 0
  openings (opening gap) = 1
  openings trail = 0
  openings (nest inner) = openings inner
  openings (group inner) = openings inner
  openings (sequence items) = all_openings items

  pub all_openings : Drafts → ℕ
  all_openings nothing = 0
  all_openings (also first rest) = openings first + all_openings rest
