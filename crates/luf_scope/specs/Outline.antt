-- What a chunk says without the names that are used: what is declared, functions, loops, jumps and `...`. All faults of
-- jumps are read off it, and where no local variable has an attribute those of names too.
use Rattle.std.specs.Prelude.{◌≡◌, ◌⊎◌, Bool, true, false, List}
use Rattle.std.specs.List.{filter}
use Rattle.luf_tree.specs.declared.tree.Chunk.{Chunk}
use Rattle.luf_scope.specs.Links.{occurrences_of}
use Rattle.luf_scope.specs.declared.occurrence.Occurrence.{Occurrence}
use Rattle.luf_scope.specs.declared.occurrence.Occurrence.TheVariants.{Reads, Assigns, Field}

abbrev pub is_outline : Occurrence → Bool
is_outline (Reads name) = false
is_outline (Assigns name) = false
is_outline (Field name) = false
is_outline _ = true

abbrev pub outlined : List Occurrence → List Occurrence
outlined occurrences = filter is_outline occurrences

abbrev pub outline_of : Chunk → List Occurrence
outline_of chunk = outlined (occurrences_of chunk)

-- all that a chunk says, or its outline
abbrev pub AreReadOf : List Occurrence → Chunk → Type 0
AreReadOf occurrences chunk = (occurrences ≡ occurrences_of chunk) ⊎ (occurrences ≡ outline_of chunk)
