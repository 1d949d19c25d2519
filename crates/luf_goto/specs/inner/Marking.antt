-- The roles of the names of labels, in the order of their tokens.
use Rattle.std.specs.Prelude.{ℕ, ◌+◌, ◌≤◌, Option, Some, None, List, [], ◌∷◌, ◌++◌, slice_index_or}
use Rattle.std.specs.Option.{option_to_list}
use Rattle.luf_scope.specs.declared.jump.JumpRole.{JumpRole}
use Rattle.luf_scope.specs.declared.jump.JumpRole.TheVariants as jump
use Rattle.luf_scope.specs.declared.occurrence.Occurrence.{Occurrence}
use Rattle.luf_scope.specs.declared.occurrence.Occurrence.TheVariants.{Local, Label, Goto}

abbrev pub occurrence_at : List Occurrence → ℕ → Occurrence
occurrence_at occurrences i = slice_index_or occurrences i (Local 0 None 0 0)

-- a goto stands before the name of its label
abbrev pub IsMarkable : Occurrence → Type 0
IsMarkable (Goto token name) = token ≤ name
IsMarkable _ = Unit {0}

abbrev pub going_to : ℕ → Option ℕ → Option (ℕ × JumpRole)
going_to name None = None
going_to name (Some n) = Some (name, jump.Goto n)

-- the role that an occurrence says, where so many labels and gotos are before it
abbrev pub mark_of : List (Option ℕ) → ℕ → ℕ → Occurrence → Option (ℕ × JumpRole)
mark_of targets labels gotos (Label name from to at_end) = Some (name, jump.Label labels)
mark_of targets labels gotos (Goto token name) = going_to name (slice_index_or targets gotos None)
mark_of targets labels gotos _ = None

abbrev pub label_after : ℕ → Occurrence → ℕ
label_after labels (Label name from to at_end) = labels + 1
label_after labels _ = labels

abbrev pub goto_after : ℕ → Occurrence → ℕ
goto_after gotos (Goto token name) = gotos + 1
goto_after gotos _ = gotos

abbrev pub marks_from : List (Option ℕ) → ℕ → ℕ → List Occurrence → List (ℕ × JumpRole)
marks_from targets labels gotos [] = []
marks_from targets labels gotos (o ∷ occurrences) = option_to_list (mark_of targets labels gotos o) ++ marks_from targets (label_after labels o) (goto_after gotos o) occurrences
