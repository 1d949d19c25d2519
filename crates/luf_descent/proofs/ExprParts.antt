-- Each part of an expression, and each block, is found where its parts are.
use Rattle.std.proofs.Common.{◌≡◌, ℕ, ◌+◌, ◌<◌, ◌≤◌, Bool, true, false, Option, List, [], map, length, sym, subst, ap, arith}
use Rattle.luf_lex.specs.declared.token.Tok.{Tok}
use Rattle.luf_lex.specs.declared.token.Tok.TheVariants.{Name, Word, Sign}
use Rattle.luf_lex.specs.declared.token.Word.TheVariants as word
use Rattle.luf_lex.specs.declared.token.Sign.TheVariants as sign
use Rattle.luf_tree.specs.declared.tree.Block.{Block, roll-Block, out-Block}
use Rattle.luf_tree.specs.declared.tree.ExprKind.TheViews.{out-roll-Block, out-roll-FuncBody, out-roll-Args}
use Rattle.luf_tree.specs.declared.tree.Stat.{Stat}
use Rattle.luf_tree.specs.declared.tree.StatKind.TheVariants as stat
use Rattle.luf_tree.specs.declared.tree.FuncBody.{FuncBody, roll-FuncBody, out-FuncBody}
use Rattle.luf_tree.specs.declared.tree.Expr.{Expr}
use Rattle.luf_tree.specs.declared.tree.ExprKind.TheVariants as expr
use Rattle.luf_tree.specs.declared.tree.Step.{Step}
use Rattle.luf_tree.specs.declared.tree.Suffix.{Suffix}
use Rattle.luf_tree.specs.declared.tree.Suffix.TheVariants as suffix
use Rattle.luf_tree.specs.declared.tree.Args.{Args, roll-Args, out-Args}
use Rattle.luf_tree.specs.declared.tree.Field.{Field}
use Rattle.luf_tree.specs.declared.tree.Field.TheVariants as field
use Rattle.luf_tree.specs.Operator.{binary_precedence, is_unary}
use Rattle.luf_tree.specs.Level.{deepest, expr_levels, block_levels, stat_levels, field_levels, suffix_levels, step_levels, args_levels, body_levels}
use Rattle.luf_tree.specs.Grammar as g
use Rattle.luf_tree.specs.Grammar.{expression, statement, IsToken, IsString, NoParenFollows, IsExpr, AreSteps, IsOperand, IsSimple, IsPrefix, IsVariable, IsCall, IsParen, IsHead, AreSuffixes, IsSuffix, IsArgs, AreExprs, IsTable, AreFields, IsField, IsFuncBody, IsBlock, AreStats, IsReturn, IsStat, AreTargets, IsArm, AreArms, IsElse, IsForStep, IsSemicolon, AreNames, AreParams, AreDeclared, IsPath, IsMethod, suffixed}
use Rattle.luf_tree.proofs.LevelEquations as lv
use Rattle.luf_descent.specs.Reads.{Found}
use Rattle.luf_descent.specs.Follow.{precedence_at, precedence_of}
use Rattle.luf_descent.specs.Shapes.{IsShaped, suffixed_shape, lone_args}
use Rattle.luf_descent.specs.declared.prefixes.Shape.{Shape}
use Rattle.luf_descent.specs.declared.prefixes.Shape.TheVariants as shape

pub unary_found : {toks : List Tok} {i j k left inner : ℕ} {tok : Tok} {e : Expr}
    → IsToken toks i tok j
    → is_unary tok ≡ true
    → left ≡ inner + 1
    → Found toks (j + 1) k inner (expr_levels e) (IsOperand toks j k e)
    → Found toks (i + 1) k left (expr_levels (expression i k (expr.Unary e))) (IsOperand toks i k (expression i k (expr.Unary e)))
unary_found {toks} {i} {j} {k} {left} {inner} {tok} {e} t u lev h =
    let next = t.next in record { is = g.unary_operand t u h.is; ends = record { forward = omega arith; within = omega arith }; level = omega (arith, lv.unary_levels i k e) }

pub power_found : {toks : List Tok} {i j k l left inner : ℕ} {a x : Expr}
    → Found toks (i + 1) j left (expr_levels a) (IsSimple toks i j a)
    → IsToken toks j (Sign sign.Caret) k
    → left ≡ inner + 1
    → Found toks (k + 1) l inner (expr_levels x) (IsOperand toks k l x)
    → Found toks (i + 1) l left (expr_levels (expression i l (expr.Power a j x))) (IsOperand toks i l (expression i l (expr.Power a j x)))
power_found {toks} {i} {j} {k} {l} {left} {inner} {a} {x} h t lev h2 =
    let next = t.next in record { is = g.power_operand h.is t h2.is; ends = record { forward = omega arith; within = omega arith }; level = omega (arith, lv.power_levels i l a j x) }

pub simple_found : {toks : List Tok} {i j left : ℕ} {e : Expr}
    → Found toks (i + 1) j left (expr_levels e) (IsSimple toks i j e)
    → Found toks (i + 1) j left (expr_levels e) (IsOperand toks i j e)
simple_found {toks} {i} {j} {left} {e} h =
    record { is = g.simple_operand h.is; ends = h.ends; level = h.level }

pub operand_found : {toks : List Tok} {n i j left : ℕ} {e : Expr}
    → Found toks (i + 1) j left (expr_levels e) (IsOperand toks i j e)
    → Found toks (i + 1) j left (expr_levels e) (IsExpr toks n i j e)
operand_found {toks} {n} {i} {j} {left} {e} h =
    record { is = g.operand_expr h.is; ends = h.ends; level = h.level }

-- an expression of a level is one of each lower level
pub weaken : {toks : List Tok} {n i j : ℕ} {e : Expr} (m : ℕ) → m ≤ n → IsExpr toks n i j e → IsExpr toks m i j e
weaken m le (g.operand_expr h) = g.operand_expr h
weaken m le (g.chain_expr positive least first rest) = g.chain_expr positive (omega arith) first rest

pub weaken_found : {toks : List Tok} {m n i j left : ℕ} {e : Expr}
    → m ≤ n
    → Found toks (i + 1) j left (expr_levels e) (IsExpr toks n i j e)
    → Found toks (i + 1) j left (expr_levels e) (IsExpr toks m i j e)
weaken_found {toks} {m} {n} {i} {j} {left} {e} le h =
    record { is = weaken m le h.is; ends = h.ends; level = h.level }

pub chain_found : {toks : List Tok} {level i j k left : ℕ} {a : Expr} {rest : List Step}
    → 0 < level
    → Found toks (i + 1) j left (expr_levels a) (IsExpr toks (level + 1) i j a)
    → AreSteps toks level j k rest
    → j ≤ k
    → k ≤ length toks
    → deepest (map step_levels rest) ≤ left
    → Found toks (i + 1) k left (expr_levels (expression i k (expr.Chain a rest))) (IsExpr toks level i k (expression i k (expr.Chain a rest)))
chain_found {toks} {level} {i} {j} {k} {left} {a} {rest} pos h d fw w ls =
    record { is = g.chain_expr pos (omega arith) h.is d; ends = record { forward = omega arith; within = omega arith }; level = omega (arith, lv.chain_levels i k a rest) }

-- no operator of a level stands at a place; so if one stood there, it was of another
pub operator_at : {toks : List Tok} {i j : ℕ} {tok : Tok} (level : ℕ) → IsToken toks i tok j → precedence_at toks i ≡ level → binary_precedence tok ≡ level
operator_at {i = i} {tok = tok} level t is = subst (λ (o : Option Tok). precedence_of o ≡ level) t.there is

pub function_found : {toks : List Tok} {i j k left inner : ℕ} {f : FuncBody}
    → IsToken toks i (Word word.Function) j
    → left ≡ inner + 1
    → Found toks (j + 1) k inner (body_levels f) (IsFuncBody toks j k f)
    → Found toks (i + 1) k left (expr_levels (expression i k (expr.Function f))) (IsSimple toks i k (expression i k (expr.Function f)))
function_found {toks} {i} {j} {k} {left} {inner} {f} t lev h =
    let next = t.next in record { is = g.function_simple t h.is; ends = record { forward = omega arith; within = omega arith }; level = omega (arith, lv.function_levels i k f) }

pub table_expr_found : {toks : List Tok} {i j left : ℕ} {fields : List Field}
    → Found toks (i + 1) j left (deepest (map field_levels fields) + 1) (IsTable toks i j fields)
    → Found toks (i + 1) j left (expr_levels (expression i j (expr.Table fields))) (IsSimple toks i j (expression i j (expr.Table fields)))
table_expr_found {toks} {i} {j} {left} {fields} h =
    record { is = g.table_simple h.is; ends = record { forward = omega arith; within = omega arith }; level = omega (arith, lv.table_levels i j fields) }

pub table_found : {toks : List Tok} {i j k l left inner : ℕ} {fields : List Field}
    → IsToken toks i (Sign sign.LeftBrace) j
    → left ≡ inner + 1
    → Found toks j k inner (deepest (map field_levels fields)) (AreFields toks j k fields)
    → IsToken toks k (Sign sign.RightBrace) l
    → l ≤ length toks
    → Found toks (i + 1) l left (deepest (map field_levels fields) + 1) (IsTable toks i l fields)
table_found {toks} {i} {j} {k} {l} {left} {inner} {fields} t lev h t2 w =
    let n = t.next in let n2 = t2.next in record { is = g.table t h.is t2; ends = record { forward = omega arith; within = omega arith }; level = omega arith }

pub keyed_found : {toks : List Tok} {i j k l o p left inner : ℕ} {key value : Expr} {box : Expr}
    → IsToken toks i (Sign sign.LeftBracket) j
    → left ≡ inner + 1
    → Found toks (j + 1) k inner (expr_levels key) (IsExpr toks 1 j k key)
    → IsToken toks k (Sign sign.RightBracket) l
    → IsToken toks l (Sign sign.Assign) o
    → Found toks (o + 1) p left (expr_levels value) (IsExpr toks 1 o p value)
    → box ≡ key
    → Found toks (i + 1) p left (field_levels (field.Keyed box value)) (IsField toks i p (field.Keyed box value))
keyed_found {toks} {i} {j} {k} {l} {o} {p} {left} {inner} {key} {value} {box} t lev h t2 t3 h2 e0 =
    subst (λ (z : Expr). Found toks (i + 1) p left (field_levels (field.Keyed z value)) (IsField toks i p (field.Keyed z value))) (sym e0)
    (let n = t.next in let n2 = t2.next in let n3 = t3.next in record { is = g.keyed_field t h.is t2 t3 h2.is; ends = record { forward = omega arith; within = omega arith }; level = omega (arith, lv.keyed_levels key value) })

pub named_found : {toks : List Tok} {i j k l left : ℕ} {value : Expr}
    → IsToken toks i Name j
    → IsToken toks j (Sign sign.Assign) k
    → Found toks (k + 1) l left (expr_levels value) (IsExpr toks 1 k l value)
    → Found toks (i + 1) l left (field_levels (field.Named i value)) (IsField toks i l (field.Named i value))
named_found {toks} {i} {j} {k} {l} {left} {value} t t2 h =
    let n = t.next in let n2 = t2.next in record { is = g.named_field t t2 h.is; ends = record { forward = omega arith; within = omega arith }; level = omega (arith, lv.named_levels i value) }

pub item_found : {toks : List Tok} {i j left : ℕ} {value : Expr}
    → Found toks (i + 1) j left (expr_levels value) (IsExpr toks 1 i j value)
    → Found toks (i + 1) j left (field_levels (field.Item value)) (IsField toks i j (field.Item value))
item_found {toks} {i} {j} {left} {value} h =
    record { is = g.item_field h.is; ends = record { forward = omega arith; within = omega arith }; level = omega (arith, lv.item_levels value) }

pub paren_found : {toks : List Tok} {i j k l left inner : ℕ} {e : Expr}
    → IsToken toks i (Sign sign.LeftParen) j
    → left ≡ inner + 1
    → Found toks (j + 1) k inner (expr_levels e) (IsExpr toks 1 j k e)
    → IsToken toks k (Sign sign.RightParen) l
    → l ≤ length toks
    → Found toks (i + 1) l left (expr_levels (expression i l (expr.Paren e))) (IsParen toks i l (expression i l (expr.Paren e)))
paren_found {toks} {i} {j} {k} {l} {left} {inner} {e} t lev h t2 w =
    let n = t.next in let n2 = t2.next in record { is = g.paren t h.is t2; ends = record { forward = omega arith; within = omega arith }; level = omega (arith, lv.paren_levels i l e) }

pub name_found : {toks : List Tok} {i j left : ℕ}
    → IsToken toks i Name j
    → j ≤ length toks
    → Found toks (i + 1) j left (expr_levels (expression i j (expr.Name))) (IsVariable toks i j (expression i j (expr.Name)))
name_found {toks} {i} {j} {left} t w =
    let n = t.next in record { is = g.name_variable t; ends = record { forward = omega arith; within = omega arith }; level = omega (arith, lv.name_levels i j) }

suffixed_shaped : {toks : List Tok} {i j k : ℕ} {head : Expr} {suffixes : List Suffix} (calls : Bool) → IsHead toks i j head → AreSuffixes toks calls j k suffixes
    → IsShaped toks i k (suffixed_shape calls) (suffixed i k head suffixes)
suffixed_shaped true head rest = g.suffixed_call head rest
suffixed_shaped false head rest = g.suffixed_variable head rest

pub suffixed_found : {toks : List Tok} {i j k left : ℕ} {a : Expr} {suffixes : List Suffix} (calls : Bool) {D : Type 0}
    → Found toks (i + 1) j left (expr_levels a) (D) → IsHead toks i j a → Found toks (j + 1) k left (deepest (map suffix_levels suffixes)) (AreSuffixes toks calls j k suffixes)
    → Found toks (i + 1) k left (expr_levels (suffixed i k a suffixes)) (IsShaped toks i k (suffixed_shape calls) (suffixed i k a suffixes))
suffixed_found {toks} {i} {j} {k} {left} {a} {suffixes} calls h head h2 =
    record { is = suffixed_shaped calls head h2.is; ends = record { forward = omega arith; within = omega arith }; level = omega (arith, lv.suffixed_levels i k a suffixes) }

pub shaped_prefix : {toks : List Tok} {i j : ℕ} {e : Expr} (shape : Shape) → IsShaped toks i j shape e → IsPrefix toks i j e
shaped_prefix shape.Variable h = g.variable_prefix h
shaped_prefix shape.Call h = g.call_prefix h
shaped_prefix shape.Paren h = g.paren_prefix h

pub prefix_found : {toks : List Tok} {i j left : ℕ} {e : Expr} (shape : Shape) → Found toks (i + 1) j left (expr_levels e) (IsShaped toks i j shape e) → NoParenFollows toks j → Found toks (i + 1) j left (expr_levels e) (IsSimple toks i j e)
prefix_found shape h closed = record { is = g.prefix_simple (shaped_prefix shape h.is) closed; ends = h.ends; level = h.level }

pub dot_found : {toks : List Tok} {i j k left : ℕ}
    → IsToken toks i (Sign sign.Dot) j
    → IsToken toks j Name k
    → k ≤ length toks
    → Found toks (i + 1) k left (suffix_levels (suffix.Dot j)) (IsSuffix toks false i k (suffix.Dot j))
dot_found {toks} {i} {j} {k} {left} t t2 w =
    let n = t.next in let n2 = t2.next in record { is = g.dot_suffix t t2; ends = record { forward = omega arith; within = omega arith }; level = omega (arith, lv.dot_levels j) }

pub index_found : {toks : List Tok} {i j k l left inner : ℕ} {e : Expr} {box : Expr}
    → IsToken toks i (Sign sign.LeftBracket) j
    → left ≡ inner + 1
    → Found toks (j + 1) k inner (expr_levels e) (IsExpr toks 1 j k e)
    → IsToken toks k (Sign sign.RightBracket) l
    → l ≤ length toks
    → box ≡ e
    → Found toks (i + 1) l left (suffix_levels (suffix.Index box)) (IsSuffix toks false i l (suffix.Index box))
index_found {toks} {i} {j} {k} {l} {left} {inner} {e} {box} t lev h t2 w e0 =
    subst (λ (z : Expr). Found toks (i + 1) l left (suffix_levels (suffix.Index z)) (IsSuffix toks false i l (suffix.Index z))) (sym e0)
    (let n = t.next in let n2 = t2.next in record { is = g.index_suffix t h.is t2; ends = record { forward = omega arith; within = omega arith }; level = omega (arith, lv.index_levels e) })

pub call_found : {toks : List Tok} {i j left : ℕ} {args : Args}
    → Found toks (i + 1) j left (args_levels args) (IsArgs toks i j args)
    → Found toks (i + 1) j left (suffix_levels (suffix.Call args)) (IsSuffix toks true i j (suffix.Call args))
call_found {toks} {i} {j} {left} {args} h =
    record { is = g.call_suffix h.is; ends = record { forward = omega arith; within = omega arith }; level = omega (arith, lv.call_suffix_levels args) }

pub method_found : {toks : List Tok} {i j k l left : ℕ} {args : Args}
    → IsToken toks i (Sign sign.Colon) j
    → IsToken toks j Name k
    → Found toks (k + 1) l left (args_levels args) (IsArgs toks k l args)
    → Found toks (i + 1) l left (suffix_levels (suffix.Method j args)) (IsSuffix toks true i l (suffix.Method j args))
method_found {toks} {i} {j} {k} {l} {left} {args} t t2 h =
    let n = t.next in let n2 = t2.next in record { is = g.method_suffix t t2 h.is; ends = record { forward = omega arith; within = omega arith }; level = omega (arith, lv.method_levels j args) }

pub no_args_found : {toks : List Tok} {i j k left : ℕ} (inner : ℕ) {none : List Expr}
    → IsToken toks i (Sign sign.LeftParen) j
    → left ≡ inner + 1
    → IsToken toks j (Sign sign.RightParen) k
    → k ≤ length toks
    → none ≡ []
    → Found toks (i + 1) k left (args_levels (roll-Args (record { from = i; to = k; parens = true; items = none }))) (IsArgs toks i k (roll-Args (record { from = i; to = k; parens = true; items = none })))
no_args_found {toks} {i} {j} {k} {left} inner {none} t lev t2 w en =
    subst (λ (z : List Expr). Found toks (i + 1) k left (args_levels (roll-Args (record { from = i; to = k; parens = true; items = z }))) (IsArgs toks i k (roll-Args (record { from = i; to = k; parens = true; items = z })))) (sym en)
    (let n = t.next in let n2 = t2.next in record { is = g.no_args t t2; ends = record { forward = omega arith; within = omega arith }; level = omega (arith, lv.args_of_levels i k true []) })

pub list_args_found : {toks : List Tok} {i j k l left inner : ℕ} {es : List Expr}
    → IsToken toks i (Sign sign.LeftParen) j
    → left ≡ inner + 1
    → Found toks (j + 1) k inner (deepest (map expr_levels es)) (AreExprs toks j k es)
    → IsToken toks k (Sign sign.RightParen) l
    → l ≤ length toks
    → Found toks (i + 1) l left (args_levels (roll-Args (record { from = i; to = l; parens = true; items = es }))) (IsArgs toks i l (roll-Args (record { from = i; to = l; parens = true; items = es })))
list_args_found {toks} {i} {j} {k} {l} {left} {inner} {es} t lev h t2 w =
    let n = t.next in let n2 = t2.next in record { is = g.list_args t h.is t2; ends = record { forward = omega arith; within = omega arith }; level = omega (arith, lv.args_of_levels i l true es) }

pub string_arg_found : {toks : List Tok} {i j left : ℕ} (inner : ℕ)
    → IsString toks i j
    → j ≡ i + 1
    → left ≡ inner + 1
    → j ≤ length toks
    → Found toks (i + 1) j left (expr_levels (expression i j (expr.Str)) + 1) (IsArgs toks i j (lone_args i (expression i j (expr.Str))))
string_arg_found {toks} {i} {j} {left} inner t n lev w =
    record { is = g.string_args t; ends = record { forward = omega arith; within = omega arith }; level = omega (arith, lv.string_levels i j) }

pub table_arg_found : {toks : List Tok} {i j left inner : ℕ} {fields : List Field}
    → left ≡ inner + 1
    → Found toks (i + 1) j inner (deepest (map field_levels fields) + 1) (IsTable toks i j fields)
    → Found toks (i + 1) j left (expr_levels (expression i j (expr.Table fields)) + 1) (IsArgs toks i j (lone_args i (expression i j (expr.Table fields))))
table_arg_found {toks} {i} {j} {left} {inner} {fields} lev h =
    record { is = g.table_args h.is; ends = record { forward = omega arith; within = omega arith }; level = omega (arith, lv.table_levels i j fields) }

pub func_body_found : {toks : List Tok} {i j k l o p left : ℕ} {body : Block} {params : List ℕ} {vararg : Bool}
    → IsToken toks i (Sign sign.LeftParen) j
    → Found toks j k 0 (0) (AreParams toks j k params vararg)
    → IsToken toks k (Sign sign.RightParen) l
    → Found toks l o left (block_levels body) (IsBlock toks l o body)
    → IsToken toks o (Word word.End) p
    → p ≤ length toks
    → Found toks (i + 1) p left (body_levels (roll-FuncBody (record { from = i; to = p; params = params; vararg = vararg; body = body }))) (IsFuncBody toks i p (roll-FuncBody (record { from = i; to = p; params = params; vararg = vararg; body = body })))
func_body_found {toks} {i} {j} {k} {l} {o} {p} {left} {body} {params} {vararg} t h t2 h2 t3 w =
    let n = t.next in let n2 = t2.next in let n3 = t3.next in record { is = g.func_body t h.is t2 h2.is t3; ends = record { forward = omega arith; within = omega arith }; level = omega (arith, lv.body_of_levels i p params vararg body) }

pub block_found : {toks : List Tok} {i j left : ℕ} {stats : List Stat}
    → AreStats toks i j stats
    → i ≤ j
    → j ≤ length toks
    → deepest (map stat_levels stats) ≤ left
    → Found toks i j left (block_levels (roll-Block (record { from = i; to = j; stats = stats }))) (IsBlock toks i j (roll-Block (record { from = i; to = j; stats = stats })))
block_found {toks} {i} {j} {left} {stats} h fw w ls =
    record { is = g.block h; ends = record { forward = omega arith; within = omega arith }; level = omega (arith, lv.block_of_levels i j stats) }

pub return_nothing_found : {toks : List Tok} {i j k left : ℕ} {none : List Expr}
    → IsToken toks i (Word word.Return) j
    → Found toks j k 0 (0) (IsSemicolon toks j k)
    → none ≡ []
    → Found toks (i + 1) k left (stat_levels (statement i k (stat.Return none))) (IsReturn toks i k (statement i k (stat.Return none)))
return_nothing_found {toks} {i} {j} {k} {left} {none} t h en =
    subst (λ (z : List Expr). Found toks (i + 1) k left (stat_levels (statement i k (stat.Return z))) (IsReturn toks i k (statement i k (stat.Return z)))) (sym en)
    (let n = t.next in record { is = g.return_nothing t h.is; ends = record { forward = omega arith; within = omega arith }; level = omega (arith, lv.return_levels i k []) })

pub return_values_found : {toks : List Tok} {i j k l left : ℕ} {es : List Expr}
    → IsToken toks i (Word word.Return) j
    → Found toks (j + 1) k left (deepest (map expr_levels es)) (AreExprs toks j k es)
    → Found toks k l 0 (0) (IsSemicolon toks k l)
    → Found toks (i + 1) l left (stat_levels (statement i l (stat.Return es))) (IsReturn toks i l (statement i l (stat.Return es)))
return_values_found {toks} {i} {j} {k} {l} {left} {es} t h h2 =
    let n = t.next in record { is = g.return_values t h.is h2.is; ends = record { forward = omega arith; within = omega arith }; level = omega (arith, lv.return_levels i l es) }

-- its end is the one that it was made with
pub made_block : {toks : List Tok} {from left : ℕ} (i j : ℕ) (stats : List Stat) → Found toks from j left (block_levels (roll-Block (record { from = i; to = j; stats = stats }))) (IsBlock toks i j (roll-Block (record { from = i; to = j; stats = stats })))
    → Found toks from (out-Block (roll-Block (record { from = i; to = j; stats = stats }))).to left (block_levels (roll-Block (record { from = i; to = j; stats = stats }))) (IsBlock toks i (out-Block (roll-Block (record { from = i; to = j; stats = stats }))).to (roll-Block (record { from = i; to = j; stats = stats })))
made_block {toks} {from} {left} i j stats h =
    subst (λ (z : ℕ). Found toks from z left (block_levels (roll-Block (record { from = i; to = j; stats = stats }))) (IsBlock toks i z (roll-Block (record { from = i; to = j; stats = stats })))) (sym (ap (λ r. r.to) (out-roll-Block (record { from = i; to = j; stats = stats })))) h

-- its end is the one that it was made with
pub made_body : {toks : List Tok} {from left : ℕ} (i j : ℕ) (params : List ℕ) (vararg : Bool) (body : Block) → Found toks from j left (body_levels (roll-FuncBody (record { from = i; to = j; params = params; vararg = vararg; body = body }))) (IsFuncBody toks i j (roll-FuncBody (record { from = i; to = j; params = params; vararg = vararg; body = body })))
    → Found toks from (out-FuncBody (roll-FuncBody (record { from = i; to = j; params = params; vararg = vararg; body = body }))).to left (body_levels (roll-FuncBody (record { from = i; to = j; params = params; vararg = vararg; body = body }))) (IsFuncBody toks i (out-FuncBody (roll-FuncBody (record { from = i; to = j; params = params; vararg = vararg; body = body }))).to (roll-FuncBody (record { from = i; to = j; params = params; vararg = vararg; body = body })))
made_body {toks} {from} {left} i j params vararg body h =
    subst (λ (z : ℕ). Found toks from z left (body_levels (roll-FuncBody (record { from = i; to = j; params = params; vararg = vararg; body = body }))) (IsFuncBody toks i z (roll-FuncBody (record { from = i; to = j; params = params; vararg = vararg; body = body })))) (sym (ap (λ r. r.to) (out-roll-FuncBody (record { from = i; to = j; params = params; vararg = vararg; body = body })))) h

-- its end is the one that it was made with
pub made_args : {toks : List Tok} {from left : ℕ} (i j : ℕ) (parens : Bool) (items : List Expr) → Found toks from j left (args_levels (roll-Args (record { from = i; to = j; parens = parens; items = items }))) (IsArgs toks i j (roll-Args (record { from = i; to = j; parens = parens; items = items })))
    → Found toks from (out-Args (roll-Args (record { from = i; to = j; parens = parens; items = items }))).to left (args_levels (roll-Args (record { from = i; to = j; parens = parens; items = items }))) (IsArgs toks i (out-Args (roll-Args (record { from = i; to = j; parens = parens; items = items }))).to (roll-Args (record { from = i; to = j; parens = parens; items = items })))
made_args {toks} {from} {left} i j parens items h =
    subst (λ (z : ℕ). Found toks from z left (args_levels (roll-Args (record { from = i; to = j; parens = parens; items = items }))) (IsArgs toks i z (roll-Args (record { from = i; to = j; parens = parens; items = items })))) (sym (ap (λ r. r.to) (out-roll-Args (record { from = i; to = j; parens = parens; items = items })))) h
