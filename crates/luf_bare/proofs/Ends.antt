-- Where the parts of a tree end, and the token between two places.
use Rattle.std.proofs.Common.{◌≡◌, ℕ, suc, ◌+◌, ◌-◌, ◌<◌, List, ◌∷◌, map, ap, ◌∙◌, arith}
use Rattle.luf_lex.specs.declared.token.Tok.{Tok}
use Rattle.luf_tree.specs.declared.tree.Expr.{Expr}
use Rattle.luf_tree.specs.declared.tree.Field.{Field}
use Rattle.luf_tree.specs.Grammar as g
use Rattle.luf_tree.specs.Grammar.{At, IsToken, IsString, NoParenFollows, expression, statement, AreNames, AreParams, IsAttribute, AreDeclared, IsPath, IsMethod, IsSemicolon, IsExpr, AreSteps, IsOperand, IsSimple, IsPrefix, IsVariable, IsCall, IsParen, IsHead, AreSuffixes, IsSuffix, IsArgs, AreExprs, IsTable, AreFields, IsField, IsFuncBody, IsBlock, AreStats, IsReturn, IsStat, AreTargets, IsArm, AreArms, IsElse, IsForStep, IsChunk}
use Rattle.luf_tree.specs.SyntaxOf.{expressions_of, syntax_of_expr, syntax_of_field}
use Rattle.luf_bare.specs.Dropped.{if_room, between, end_of_expression, end_of_expressions, end_of_field}
use Rattle.luf_tree.proofs.SyntaxEquations.{nil_syntax, true_syntax, false_syntax, number_syntax, string_syntax, vararg_syntax, name_syntax, paren_syntax, function_syntax, table_syntax, unary_syntax, chain_syntax, power_syntax, suffixed_syntax, item_syntax, named_syntax, keyed_syntax}

pub between_none : (k : ℕ) (more : List ℕ) → between k k more ≡ more
between_none k more = let none : k - k ≡ 0 = omega arith in ap (λ z. if_room z k more) none

pub between_one : (i k : ℕ) (more : List ℕ) → i < k → between i k more ≡ i ∷ more
between_one i k more room = let one : k - i ≡ suc (k - i - 1) = omega arith in ap (λ z. if_room z i more) one

pub place_before : {i k : ℕ} → k ≡ i + 1 → k - 1 ≡ i
place_before next = omega arith

-- where parts of the tree end
mutual
  expr_end : {toks : List Tok} {n i k : ℕ} {e : Expr} → IsExpr toks n i k e → end_of_expression (syntax_of_expr e) ≡ k
  expr_end (g.operand_expr d) = operand_end d
  expr_end (g.chain_expr {i} {k} {first} {rest} _ _ _ _) = ap end_of_expression (chain_syntax i k first rest)

  operand_end : {toks : List Tok} {i k : ℕ} {e : Expr} → IsOperand toks i k e → end_of_expression (syntax_of_expr e) ≡ k
  operand_end (g.unary_operand {i} {k} {e} _ _ _) = ap end_of_expression (unary_syntax i k e)
  operand_end (g.power_operand {i} {j} {l} {base} {exponent} _ _ _) = ap end_of_expression (power_syntax i l base j exponent)
  operand_end (g.simple_operand d) = simple_end d

  simple_end : {toks : List Tok} {i k : ℕ} {e : Expr} → IsSimple toks i k e → end_of_expression (syntax_of_expr e) ≡ k
  simple_end (g.nil_simple {i} {j} _) = ap end_of_expression (nil_syntax i j)
  simple_end (g.true_simple {i} {j} _) = ap end_of_expression (true_syntax i j)
  simple_end (g.false_simple {i} {j} _) = ap end_of_expression (false_syntax i j)
  simple_end (g.number_simple {i} {j} _) = ap end_of_expression (number_syntax i j)
  simple_end (g.string_simple {i} {j} _) = ap end_of_expression (string_syntax i j)
  simple_end (g.vararg_simple {i} {j} _) = ap end_of_expression (vararg_syntax i j)
  simple_end (g.function_simple {i} {k} {f} _ _) = ap end_of_expression (function_syntax i k f)
  simple_end (g.table_simple {i} {j} {fields} _) = ap end_of_expression (table_syntax i j fields)
  simple_end (g.prefix_simple d _) = prefix_end d

  prefix_end : {toks : List Tok} {i k : ℕ} {e : Expr} → IsPrefix toks i k e → end_of_expression (syntax_of_expr e) ≡ k
  prefix_end (g.variable_prefix (g.name_variable {i} {j} _)) = ap end_of_expression (name_syntax i j)
  prefix_end (g.variable_prefix (g.suffixed_variable {i} {k} {head} {suffixes} _ _)) = ap end_of_expression (suffixed_syntax i k head suffixes)
  prefix_end (g.call_prefix (g.suffixed_call {i} {k} {head} {suffixes} _ _)) = ap end_of_expression (suffixed_syntax i k head suffixes)
  prefix_end (g.paren_prefix (g.paren {i} {l} {e} _ _ _)) = ap end_of_expression (paren_syntax i l e)

pub exprs_end : {toks : List Tok} {i k : ℕ} {es : List Expr} (other : ℕ) → AreExprs toks i k es → end_of_expressions other (expressions_of (map syntax_of_expr es)) ≡ k
exprs_end other (g.one_expr d) = expr_end d
exprs_end other (g.more_exprs d _ rest) = exprs_end _ rest

pub field_end : {toks : List Tok} {i k : ℕ} {f : Field} → IsField toks i k f → end_of_field (syntax_of_field f) ≡ k
field_end (g.keyed_field {key} {value} _ _ _ _ d) = ap end_of_field (keyed_syntax key value) ∙ expr_end d
field_end (g.named_field {i} {value} _ _ d) = ap end_of_field (named_syntax i value) ∙ expr_end d
field_end (g.item_field {e} d) = ap end_of_field (item_syntax e) ∙ expr_end d
