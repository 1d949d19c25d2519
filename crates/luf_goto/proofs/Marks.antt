-- The roles of the names of labels, one occurrence after another.
use Rattle.std.proofs.Common.{◌≡◌, ℕ, ◌+◌, ◌<◌, ◌≤◌, List, [], ◌++◌, Option, Some, None, All, length, get_or, drop, refl, sym, ap, ◌∙◌, subst, arith}
use Rattle.std.proofs.lemmas.List.{append_assoc, at_drop_more}
use Rattle.std.proofs.lemmas.List.Elements.{All-nil, All-cons, All-append}
use Rattle.std.specs.Option.{option_to_list, option_map_or}
use Rattle.luf_scope.specs.Order.{place, behind}
use Rattle.luf_scope.specs.declared.jump.JumpRole.{JumpRole}
use Rattle.luf_scope.specs.declared.occurrence.Occurrence.{Occurrence}
use Rattle.luf_scope.specs.declared.occurrence.Occurrence.TheVariants.{Local, Label, Goto}
use Rattle.luf_goto.specs.inner.Marking.{occurrence_at, going_to, mark_of, label_after, goto_after, marks_from}
use Rattle.luf_goto.specs.inner.Sites.{IsInOrder}

abbrev Mark : Type 0
Mark = ℕ × JumpRole

pub going_at : (name : ℕ) (o : Option ℕ) (m : Mark) → going_to name o ≡ Some m → m.0 ≡ name
going_at name None m is = absurd cc
going_at name (Some n) m is = sym (ap (λ x. option_map_or (λ (y : Mark). y.0) x 0) is)

-- a role stands at the last token of what says it
pub mark_last : (targets : List (Option ℕ)) (labels gotos : ℕ) (o : Occurrence) (m : Mark) → mark_of targets labels gotos o ≡ Some m → m.0 + 1 ≡ behind o
mark_last targets labels gotos (Label name from to at_end) m is = ap (λ n. n + 1) (sym (ap (λ x. option_map_or (λ (y : Mark). y.0) x 0) is))
mark_last targets labels gotos (Goto token name) m is = ap (λ n. n + 1) (going_at name (get_or targets gotos None) m is)
mark_last targets labels gotos _ m is = absurd cc

pub goto_after_up : (gotos : ℕ) (o : Occurrence) → goto_after gotos o ≤ gotos + 1
goto_after_up gotos (Goto token name) = omega arith
goto_after_up gotos _ = omega arith

all_of_one : (P : Mark → Type 0) (o : Option Mark) → ((m : Mark) → o ≡ Some m → P m) → All P (option_to_list o)
all_of_one P None each = All-nil P
all_of_one P (Some m) each = All-cons P m [] (each m refl) (All-nil P)

module _ (targets : List (Option ℕ)) (os : List Occurrence) (i : ℕ) (inside : i < length os) (old new : List Mark) (labels gotos labels' gotos' : ℕ)
    (added : new ≡ old ++ option_to_list (mark_of targets labels gotos (occurrence_at os i))) where
  pub marks_more : (all : List Mark) → labels' ≡ label_after labels (occurrence_at os i) → gotos' ≡ goto_after gotos (occurrence_at os i) → old ++ marks_from targets labels gotos (drop i os) ≡ all → new ++ marks_from targets labels' gotos' (drop (i + 1) os) ≡ all
  marks_more all label goto before =
      ap (λ n. new ++ marks_from targets n gotos' (drop (i + 1) os)) label ∙ ap (λ n. new ++ marks_from targets (label_after labels (occurrence_at os i)) n (drop (i + 1) os)) goto
      ∙ ap (λ xs. xs ++ marks_from targets (label_after labels (occurrence_at os i)) (goto_after gotos (occurrence_at os i)) (drop (i + 1) os)) added
      ∙ append_assoc old _ _
      ∙ ap (λ xs. old ++ xs) (sym (at_drop_more (marks_from targets labels gotos) os i _ inside))
      ∙ before

  pub marks_behind : IsInOrder os → ((k : ℕ) → i ≤ k → k < length os → All (λ m. m.0 < place (occurrence_at os k)) old) → (k : ℕ) → i + 1 ≤ k → k < length os → All (λ m. m.0 < place (occurrence_at os k)) new
  marks_behind lies before k over within =
      subst (All (λ m. m.0 < place (occurrence_at os k))) (sym added)
      (All-append (λ m. m.0 < place (occurrence_at os k)) old (option_to_list (mark_of targets labels gotos (occurrence_at os i))) (before k (omega arith) within)
      (all_of_one (λ m. m.0 < place (occurrence_at os k)) (mark_of targets labels gotos (occurrence_at os i))
      (λ m is. let last = mark_last targets labels gotos (occurrence_at os i) m is in let later = (lies.order.pairs i k (Local 0 None 0 0) (omega arith) within).later in omega arith)))
