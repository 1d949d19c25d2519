-- What marks a whole, part by part.
use Rattle.std.proofs.Common.{◌≡◌, ℕ, suc, ◌+◌, ◌-◌, ◌<◌, ◌≤◌, Bool, List, [], ◌∷◌, length, get_or, drop, map, refl, sym, ap, subst, ◌∙◌, add-one, drop-cons}
use Rattle.std.proofs.lemmas.List.{drop_all}
use Rattle.luf_tree.specs.declared.tree.Expr.{Expr}
use Rattle.luf_tree.specs.Syntax as syntax
use Rattle.luf_tree.specs.TokenSyntax.{from_to}
use Rattle.luf_tree.specs.SyntaxOf.{expressions_of, syntax_of_expr}
use Rattle.luf_bare.specs.Lone.{is_lone}
use Rattle.luf_bare.specs.Dropped.{both, if_dropped, dropped_expressions, dropped_arguments}
use Rattle.luf_gaps.specs.inner.Marked.{marked, Marks}

-- nothing is marked where a part puts nothing in front
pub nothing : (mask : List Bool) → Marks (λ more. more) mask mask
nothing mask = record { each = λ more. refl }

-- a part, and what is behind it
pub then : {f g : List ℕ → List ℕ} {old mid new : List Bool} → Marks f old mid → Marks g mid new → Marks (λ more. f (g more)) old new
then {f} {g} first last = record { each = λ more. first.each (g more) ∙ last.each more }

-- what marks the one marks the other
pub same : {X : Type 0} (f : X → List ℕ → List ℕ) {x y : X} {old new : List Bool} → x ≡ y → Marks (f y) old new → Marks (f x) old new
same f {x} {y} {old} {new} is marks = subst (λ v. Marks (f v) old new) (sym is) marks

pub lent : {X : Type 0} (f : X → List ℕ → List ℕ) {x y : X} {old new : List Bool} → y ≡ x → Marks (f y) old new → Marks (f x) old new
lent f {x} {y} {old} {new} is marks = subst (λ v. Marks (f v) old new) is marks

-- Whatever marks the rest then marks the whole.
pub record Leaves (whole rest : List ℕ → List ℕ) (old new : List Bool) : Type 0 where
  pub each : (more : List ℕ) → marked (whole more) old ≡ marked (rest more) new

front : {X : Type 0} (xs : List X) (i : ℕ) (x : X) → i < length xs → x ≡ get_or xs i x → drop i xs ≡ x ∷ drop (i + 1) xs
front xs i x inside is = drop-cons xs i x inside ∙ ap (λ y. y ∷ drop (suc i) xs) (sym is) ∙ ap (λ n. x ∷ drop n xs) (sym (add-one i))

-- a loop over parts: one step
pub one_more : {X : Type 0} (F : List X → List ℕ → List ℕ) (xs : List X) (i : ℕ) (x : X) {part : List ℕ → List ℕ} {old mid new : List Bool} → ((more : List ℕ) → F (x ∷ drop (i + 1) xs) more ≡ part (F (drop (i + 1) xs) more)) → i < length xs → x ≡ get_or xs i x → Leaves (F xs) (F (drop i xs)) old mid → Marks part mid new → Leaves (F xs) (F (drop (i + 1) xs)) old new
one_more F xs i x {part} {old} {mid} {new} parted inside is before marks = record {
  each = λ more.
      before.each more
      ∙ ap (λ ys. marked (F ys more) mid) (front xs i x inside is)
      ∙ ap (λ ds. marked ds mid) (parted more)
      ∙ marks.each (F (drop (i + 1) xs) more);
}

-- and its end
pub all_done : {X : Type 0} (F : List X → List ℕ → List ℕ) (xs : List X) (i : ℕ) {old new : List Bool} → ((more : List ℕ) → F [] more ≡ more) → length xs ≤ i → Leaves (F xs) (F (drop i xs)) old new → Marks (F xs) old new
all_done F xs i {old} {new} ends behind before = record {
  each = λ more. before.each more ∙ ap (λ ys. marked (F ys more) new) (drop_all i xs behind) ∙ ap (λ ds. marked ds new) (ends more);
}

-- arguments: their parentheses, where they are dropped, and what stands between
pub args_marked : (from to : ℕ) (parens drops : Bool) (last : ℕ) (items read : List Expr) {old first mid new : List Bool} → read ≡ items → drops ≡ both parens (is_lone (expressions_of (map syntax_of_expr read))) → last ≡ to - 1 → Marks (if_dropped drops from) old first → Marks (dropped_expressions (expressions_of (map syntax_of_expr read))) first mid → Marks (if_dropped drops last) mid new → Marks (dropped_arguments (syntax.arguments (from_to from to) parens (expressions_of (map syntax_of_expr items)))) old new
args_marked from to parens drops last items read {old} {first} {mid} {new} is_read is_drops is_last opened inside closed =
    let now : drops ≡ both parens (is_lone (expressions_of (map syntax_of_expr items))) = is_drops ∙ ap (λ es. both parens (is_lone (expressions_of (map syntax_of_expr es)))) is_read in
    then (lent (λ d. if_dropped d from) now opened)
    (then (lent (λ es. dropped_expressions (expressions_of (map syntax_of_expr es))) is_read inside)
    (lent (λ d. if_dropped d (to - 1)) now (lent (λ n. if_dropped drops n) is_last closed)))
