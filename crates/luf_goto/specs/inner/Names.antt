-- Numbers for names, each of which is in a function.
use Rattle.std.specs.Prelude.{ℕ, ◌+◌, Bool, ◌&&◌, Option, List, [], ◌∷◌, ◌++◌, map, slice_index, nat_eq, bytes_eq, unwrap_or}
use Rattle.std.specs.BTreeMap.{BTreeMap, get_by}
use Rattle.std.specs.Cmp.Lexicographic.{slice_cmp}
use Rattle.std.specs.List.{position_from}
use Rattle.std.specs.Ordering.{nat_cmp, ordering_then}
use denote.Ref.{Bor}
use Rattle.luf_scope.specs.Local.{Spelling}
use Rattle.luf_goto.specs.declared.sites.LabelRow.{LabelRow}
use Rattle.luf_goto.specs.declared.sites.GotoRow.{GotoRow}

-- a name by the number of its function and its bytes, without the place where it lies in memory
abbrev pub name_of : ℕ × Bor (List ℕ) → ℕ × List ℕ
name_of name = (name.0, name.1.now)

abbrev pub same_name : ℕ × List ℕ → ℕ × List ℕ → Bool
same_name a b = nat_eq a.0 b.0 && bytes_eq a.1 b.1

-- the number that a map has for a name
abbrev pub place_in : BTreeMap (ℕ × Bor (List ℕ)) ℕ → ℕ × List ℕ → Option ℕ
place_in first name = get_by (λ k. ordering_then (nat_cmp name.0 k.0) (slice_cmp nat_cmp name.1 k.1.now)) first

-- the place of the first name that is the same
abbrev pub first_place : List (ℕ × List ℕ) → ℕ × List ℕ → ℕ
first_place names name = unwrap_or (position_from (same_name name) 0 names) 0

-- the names of labels and of gotos, each in its function
abbrev pub label_name : Spelling → LabelRow → ℕ × List ℕ
label_name spelled l = (l.class, spelled l.name)

abbrev pub goto_name : Spelling → GotoRow → ℕ × List ℕ
goto_name spelled g = (g.class, spelled g.name)

abbrev pub names_in : Spelling → List LabelRow → List GotoRow → List (ℕ × List ℕ)
names_in spelled labels gotos = map (label_name spelled) labels ++ map (goto_name spelled) gotos

-- each with the place of its name in place of the function
abbrev pub numbered_label : Spelling → List (ℕ × List ℕ) → LabelRow → LabelRow
numbered_label spelled names l = record l { class = first_place names (label_name spelled l) }

abbrev pub numbered_goto : Spelling → List (ℕ × List ℕ) → GotoRow → GotoRow
numbered_goto spelled names g = record g { class = first_place names (goto_name spelled g) }

-- the same, with the numbers from a list, from place n on
abbrev pub labels_numbered : List ℕ → ℕ → List LabelRow → List LabelRow
labels_numbered numbers n [] = []
labels_numbered numbers n (l ∷ labels) = record l { class = slice_index numbers n } ∷ labels_numbered numbers (n + 1) labels

abbrev pub gotos_numbered : List ℕ → ℕ → List GotoRow → List GotoRow
gotos_numbered numbers n [] = []
gotos_numbered numbers n (g ∷ gotos) = record g { class = slice_index numbers n } ∷ gotos_numbered numbers (n + 1) gotos
