-- Where expressions end, and arguments that do not stand alone.
use Rattle.std.proofs.Common.{◌≡◌, ℕ, suc, ◌-◌, ◌<◌, ◌≤◌, false, List, [], ◌∷◌, length, get_or, map, refl, sym, ap, ◌∙◌, arith}
use Rattle.luf_tree.specs.declared.tree.Expr.{Expr}
use Rattle.luf_tree.specs.declared.tree.ExprKind.{ExprKind, fold-ExprKind}
use Rattle.luf_tree.specs.declared.tree.ExprKind.TheOpen.{ExprKind-F}
use Rattle.luf_tree.specs.declared.tree.ExprKind.TheFolds.{fold_out-Expr, fold_out-ExprKind}
use Rattle.luf_tree.specs.declared.tree.ExprKind.TheViews.{out-Expr}
use Rattle.luf_tree.specs.TokenSyntax as tokens
use Rattle.luf_tree.specs.SyntaxOf.{expressions_of, syntax_of_expr, expression_kind, field_kind, statement_kind, suffix_kind, arguments_layer, arm_layer, block_layer, expression_layer, body_layer, statement_layer, operation_layer}
use Rattle.luf_bare.specs.Lone.{is_lone}
use Rattle.luf_bare.specs.Dropped.{end_of_expression, end_of_expressions}

pub many_not_lone : (es : List Expr) → 1 < length es → false ≡ is_lone (expressions_of (map syntax_of_expr es))
many_not_lone [] many = absurd (omega (arith, many))
many_not_lone (e ∷ []) many = absurd (omega (arith, many))
many_not_lone (e ∷ f ∷ es) many = refl

-- ---- where one expression ends
abbrev kind_of : ExprKind → ℕ → ℕ → tokens.Expression
kind_of = fold-ExprKind (ℕ → ℕ → tokens.Expression) tokens.Field (ℕ → ℕ → tokens.Statement) tokens.Suffix tokens.Arguments tokens.Arm tokens.Block tokens.Expression tokens.FunctionBody tokens.Statement tokens.Operation expression_kind field_kind statement_kind suffix_kind arguments_layer arm_layer block_layer expression_layer body_layer statement_layer operation_layer

layer_end : (i j : ℕ) (layer : ExprKind-F (ℕ → ℕ → tokens.Expression) tokens.Field (ℕ → ℕ → tokens.Statement) tokens.Suffix tokens.Arguments tokens.Arm tokens.Block tokens.Expression tokens.FunctionBody tokens.Statement tokens.Operation) → end_of_expression (expression_kind layer i j) ≡ j
layer_end i j ExprKind-F.Nil = refl
layer_end i j ExprKind-F.True = refl
layer_end i j ExprKind-F.False = refl
layer_end i j ExprKind-F.Number = refl
layer_end i j ExprKind-F.Str = refl
layer_end i j ExprKind-F.Vararg = refl
layer_end i j ExprKind-F.Name = refl
layer_end i j (ExprKind-F.Paren inner) = refl
layer_end i j (ExprKind-F.ExprKind::Function body) = refl
layer_end i j (ExprKind-F.Table fields) = refl
layer_end i j (ExprKind-F.Unary operand) = refl
layer_end i j (ExprKind-F.Chain first rest) = refl
layer_end i j (ExprKind-F.Power base sign exponent) = refl
layer_end i j (ExprKind-F.NameSuffixed suffixes) = refl
layer_end i j (ExprKind-F.Suffixed head suffixes) = refl

kind_end : (i j : ℕ) (what : ExprKind) → end_of_expression (kind_of what i j) ≡ j
kind_end i j what =
    ap (λ (f : ℕ → ℕ → tokens.Expression). end_of_expression (f i j)) (fold_out-ExprKind (ℕ → ℕ → tokens.Expression) tokens.Field (ℕ → ℕ → tokens.Statement) tokens.Suffix tokens.Arguments tokens.Arm tokens.Block tokens.Expression tokens.FunctionBody tokens.Statement tokens.Operation expression_kind field_kind statement_kind suffix_kind arguments_layer arm_layer block_layer expression_layer body_layer statement_layer operation_layer what)
    ∙ layer_end i j _

pub expr_end : (e : Expr) → end_of_expression (syntax_of_expr e) ≡ (out-Expr e).to
expr_end e =
    ap end_of_expression (fold_out-Expr (ℕ → ℕ → tokens.Expression) tokens.Field (ℕ → ℕ → tokens.Statement) tokens.Suffix tokens.Arguments tokens.Arm tokens.Block tokens.Expression tokens.FunctionBody tokens.Statement tokens.Operation expression_kind field_kind statement_kind suffix_kind arguments_layer arm_layer block_layer expression_layer body_layer statement_layer operation_layer e)
    ∙ kind_end (out-Expr e).from (out-Expr e).to (out-Expr e).what

-- several expressions end where the last one does
pub last_end : (other : ℕ) (es : List Expr) (last : Expr) → 1 ≤ length es → last ≡ get_or es (length es - 1) last → end_of_expressions other (expressions_of (map syntax_of_expr es)) ≡ end_of_expression (syntax_of_expr last)
last_end other [] last some is = absurd (omega (arith, some))
last_end other (e ∷ []) last some is = ap (λ x. end_of_expression (syntax_of_expr x)) (sym is)
last_end other (e ∷ f ∷ es) last some is =
    let one : suc (suc (length es)) - 1 ≡ suc (suc (length es) - 1) = omega arith in
    last_end (end_of_expression (syntax_of_expr e)) (f ∷ es) last (omega arith) (is ∙ ap (λ k. get_or (e ∷ f ∷ es) k last) one)
