-- Only labels and `;` are left exactly where no statement is left that does something.
use Rattle.std.proofs.Common.{◌≡◌, ℕ, suc, ◌+◌, ◌-◌, ◌<◌, Bool, true, false, not, ◌&&◌, cond, nat_eq, List, [], ◌∷◌, ◌++◌, map, length, get_or, drop, refl, sym, ap, ◌∙◌, zero-add, arith}
use Rattle.std.specs.List.{count_by}
use Rattle.std.proofs.lemmas.List.Sums.{sum_by-cons, sum_by-drop_more}
use Rattle.std.proofs.Math.Dec.{eqb-suc-zero}
use Rattle.luf_tree.specs.declared.tree.Stat.{Stat}
use Rattle.luf_tree.specs.SyntaxOf.{statements_of, syntax_of_stat}
use Rattle.luf_scope.specs.Occurrences.{Holder, is_void, are_void, occurrences_in_statement, occurrences_in_statements}
use Rattle.luf_scope.specs.declared.occurrence.Occurrence.{Occurrence}
use Rattle.luf_scope.specs.inner.Kept.{kept, Adds}
use Rattle.luf_scope.specs.inner.Parts.{is_solid}
use Rattle.luf_scope.proofs.Added.{one_more, lent_on}

one : (v w : Bool) (n : ℕ) → w ≡ nat_eq n 0 → (v && w) ≡ nat_eq (cond (not v) 1 0 + n) 0
one true w n is = is ∙ ap (λ m. nat_eq m 0) (sym (zero-add n))
one false w n is = let e : 1 + n ≡ suc n = omega arith in sym (eqb-suc-zero n) ∙ ap (λ m. nat_eq m 0) (sym e)

pub ended_is : (xs : List Stat) → are_void (statements_of (map syntax_of_stat xs)) ≡ nat_eq (count_by is_solid xs) 0
ended_is [] = refl
ended_is (x ∷ xs) = one (is_void (syntax_of_stat x)) (are_void (statements_of (map syntax_of_stat xs))) (count_by is_solid xs) (ended_is xs)
    ∙ ap (λ n. nat_eq n 0) (sym (sum_by-cons (λ y. cond (is_solid y) 1 0) x xs))

-- one statement of a block
pub one_statement : {k : Bool} (h : Holder) (stats : List Stat) (i : ℕ) (s : Stat) (solid : ℕ) (old new all : List Occurrence) → i < length stats → s ≡ get_or stats i s → old ++ kept k (occurrences_in_statements h (statements_of (map syntax_of_stat (drop i stats)))) ≡ all → solid ≡ count_by is_solid (drop (i + 1) stats) → Adds k old new (occurrences_in_statement h (nat_eq solid 0) (syntax_of_stat s)) → new ++ kept k (occurrences_in_statements h (statements_of (map syntax_of_stat (drop (i + 1) stats)))) ≡ all
one_statement h stats i s solid old new all inside is before left added =
    let rest = drop (i + 1) stats in
    let ended : nat_eq solid 0 ≡ are_void (statements_of (map syntax_of_stat rest)) = ap (λ n. nat_eq n 0) left ∙ sym (ended_is rest) in
    one_more (λ xs. occurrences_in_statements h (statements_of (map syntax_of_stat xs))) stats i s
    (occurrences_in_statement h (are_void (statements_of (map syntax_of_stat rest))) (syntax_of_stat s)) old new all refl inside is before
    (lent_on (λ b. occurrences_in_statement h b (syntax_of_stat s)) _ _ old new ended added)

-- how many statements are left that do something, behind one
left_by : (v : Bool) (m n k : ℕ) → m ≡ cond v 1 0 + n → k ≡ cond v (m - 1) m → k ≡ n
left_by true m n k is after = omega (arith, is, after)
left_by false m n k is after = omega (arith, is, after)

pub solid_left : (stats : List Stat) (i : ℕ) (s : Stat) (m k : ℕ) → i < length stats → s ≡ get_or stats i s → m ≡ count_by is_solid (drop i stats) → k ≡ cond (is_solid s) (m - 1) m → k ≡ count_by is_solid (drop (i + 1) stats)
solid_left stats i s m k inside is left after =
    left_by (is_solid s) m (count_by is_solid (drop (i + 1) stats)) k (left ∙ sum_by-drop_more (λ x. cond (is_solid x) 1 0) stats i s inside ∙ ap (λ x. cond (is_solid x) 1 0 + count_by is_solid (drop (i + 1) stats)) (sym is)) after
