-- Each statement is found where its parts are.
use Rattle.std.proofs.Common.{◌≡◌, ℕ, ◌+◌, ◌≤◌, Option, Some, List, [], map, length, sym, subst, arith}
use Rattle.std.specs.Option.{option_map}
use Rattle.luf_lex.specs.declared.token.Tok.{Tok}
use Rattle.luf_lex.specs.declared.token.Tok.TheVariants.{Name, Word, Sign}
use Rattle.luf_lex.specs.declared.token.Word.TheVariants as word
use Rattle.luf_lex.specs.declared.token.Sign.TheVariants as sign
use Rattle.luf_tree.specs.declared.tree.Declared.{Declared}
use Rattle.luf_tree.specs.declared.tree.Block.{Block, out-Block}
use Rattle.luf_tree.specs.declared.tree.StatKind.TheVariants as stat
use Rattle.luf_tree.specs.declared.tree.Arm.{Arm, roll-Arm}
use Rattle.luf_tree.specs.declared.tree.FuncBody.{FuncBody}
use Rattle.luf_tree.specs.declared.tree.Expr.{Expr}
use Rattle.luf_tree.specs.Level.{deepest, if_there, block_if_there, expr_levels, block_levels, stat_levels, arm_levels, body_levels}
use Rattle.luf_tree.specs.Grammar as g
use Rattle.luf_tree.specs.Grammar.{expression, statement, IsToken, IsString, NoParenFollows, IsExpr, AreSteps, IsOperand, IsSimple, IsPrefix, IsVariable, IsCall, IsParen, IsHead, AreSuffixes, IsSuffix, IsArgs, AreExprs, IsTable, AreFields, IsField, IsFuncBody, IsBlock, AreStats, IsReturn, IsStat, AreTargets, IsArm, AreArms, IsElse, IsForStep, IsSemicolon, AreNames, AreParams, AreDeclared, IsPath, IsMethod}
use Rattle.luf_tree.proofs.LevelEquations as lv
use Rattle.luf_descent.specs.Reads.{Found}
use Rattle.luf_descent.specs.declared.prefixes.Shape.{Shape}
use Rattle.luf_descent.specs.declared.prefixes.Shape.TheVariants as shape
use Rattle.luf_descent.specs.Shapes.{IsShaped}

pub break_found : {toks : List Tok} {i j left : ℕ}
    → IsToken toks i (Word word.Break) j
    → j ≤ length toks
    → Found toks (i + 1) j left (stat_levels (statement i j (stat.Break))) (IsStat toks i j (statement i j (stat.Break)))
break_found {toks} {i} {j} {left} t w =
    let n = t.next in record { is = g.break_stat t; ends = record { forward = omega arith; within = omega arith }; level = omega (arith, lv.break_levels i j) }

pub empty_found : {toks : List Tok} {i j left : ℕ}
    → IsToken toks i (Sign sign.Semicolon) j
    → j ≤ length toks
    → Found toks (i + 1) j left (stat_levels (statement i j (stat.Empty))) (IsStat toks i j (statement i j (stat.Empty)))
empty_found {toks} {i} {j} {left} t w =
    let n = t.next in record { is = g.empty_stat t; ends = record { forward = omega arith; within = omega arith }; level = omega (arith, lv.empty_levels i j) }

-- a block that a token enters, and its `end`
pub ended_found : {toks : List Tok} {i k left inner : ℕ} {body box : Block}
    → left ≡ inner + 1
    → Found toks i (out-Block body).to inner (block_levels body) (IsBlock toks i (out-Block body).to body)
    → IsToken toks (out-Block body).to (Word word.End) k
    → k ≤ length toks
    → box ≡ body
    → Found toks (i + 1) k left (block_levels box + 1) (IsBlock toks i (out-Block box).to box × IsToken toks (out-Block box).to (Word word.End) k)
ended_found {toks} {i} {k} {left} {inner} {body} {box} lev h t w e0 =
    subst (λ (z : Block). Found toks (i + 1) k left (block_levels z + 1) (IsBlock toks i (out-Block z).to z × IsToken toks (out-Block z).to (Word word.End) k)) (sym e0)
    (let n = t.next in record { is = (h.is, t); ends = record { forward = omega arith; within = w }; level = omega arith })

pub do_found : {toks : List Tok} {i j k l left : ℕ} {body : Block}
    → IsToken toks i (Word word.Do) j
    → Found toks (j + 1) l left (block_levels body + 1) (IsBlock toks j k body × IsToken toks k (Word word.End) l)
    → Found toks (i + 1) l left (stat_levels (statement i l (stat.Do body))) (IsStat toks i l (statement i l (stat.Do body)))
do_found {toks} {i} {j} {k} {l} {left} {body} t h =
    let n = t.next in record { is = g.do_stat t h.is.0 h.is.1; ends = record { forward = omega arith; within = omega arith }; level = omega (arith, lv.do_levels i l body) }

pub while_found : {toks : List Tok} {i j k l o p left : ℕ} {e : Expr} {body : Block}
    → IsToken toks i (Word word.While) j
    → Found toks (j + 1) k left (expr_levels e) (IsExpr toks 1 j k e)
    → IsToken toks k (Word word.Do) l
    → Found toks (l + 1) p left (block_levels body + 1) (IsBlock toks l o body × IsToken toks o (Word word.End) p)
    → Found toks (i + 1) p left (stat_levels (statement i p (stat.While e body))) (IsStat toks i p (statement i p (stat.While e body)))
while_found {toks} {i} {j} {k} {l} {o} {p} {left} {e} {body} t h t2 h2 =
    let n = t.next in let n2 = t2.next in record { is = g.while_stat t h.is t2 h2.is.0 h2.is.1; ends = record { forward = omega arith; within = omega arith }; level = omega (arith, lv.while_levels i p e body) }

pub repeat_found : {toks : List Tok} {i j k l o left inner : ℕ} {e : Expr} {body : Block}
    → IsToken toks i (Word word.Repeat) j
    → left ≡ inner + 1
    → Found toks j k inner (block_levels body) (IsBlock toks j k body)
    → IsToken toks k (Word word.Until) l
    → Found toks (l + 1) o left (expr_levels e) (IsExpr toks 1 l o e)
    → Found toks (i + 1) o left (stat_levels (statement i o (stat.Repeat body e))) (IsStat toks i o (statement i o (stat.Repeat body e)))
repeat_found {toks} {i} {j} {k} {l} {o} {left} {inner} {e} {body} t lev h t2 h2 =
    let n = t.next in let n2 = t2.next in record { is = g.repeat_stat t h.is t2 h2.is; ends = record { forward = omega arith; within = omega arith }; level = omega (arith, lv.repeat_levels i o body e) }

pub if_found : {toks : List Tok} {i j k l o left : ℕ} {arms : List Arm} {last : Option Block}
    → IsToken toks i (Word word.If) j
    → Found toks (j + 1) k left (deepest (map arm_levels arms)) (AreArms toks j k arms)
    → Found toks k l left (block_if_there (option_map block_levels last)) (IsElse toks k l last)
    → IsToken toks l (Word word.End) o
    → o ≤ length toks
    → Found toks (i + 1) o left (stat_levels (statement i o (stat.If arms last))) (IsStat toks i o (statement i o (stat.If arms last)))
if_found {toks} {i} {j} {k} {l} {o} {left} {arms} {last} t h h2 t2 w =
    let n = t.next in let n2 = t2.next in record { is = g.if_stat t h.is h2.is t2; ends = record { forward = omega arith; within = omega arith }; level = omega (arith, lv.if_levels i o arms last) }

pub arm_found : {toks : List Tok} {i j k l left inner : ℕ} {e : Expr} {body : Block}
    → Found toks (i + 1) j left (expr_levels e) (IsExpr toks 1 i j e)
    → IsToken toks j (Word word.Then) k
    → left ≡ inner + 1
    → Found toks k l inner (block_levels body) (IsBlock toks k l body)
    → Found toks (i + 1) l left (arm_levels (roll-Arm (record { test = e; body = body }))) (IsArm toks i l (roll-Arm (record { test = e; body = body })))
arm_found {toks} {i} {j} {k} {l} {left} {inner} {e} {body} h t lev h2 =
    let n = t.next in record { is = g.arm h.is t h2.is; ends = record { forward = omega arith; within = omega arith }; level = omega (arith, lv.arm_of_levels e body) }

pub else_found : {toks : List Tok} {i j k left inner : ℕ} {body : Block} {box : Block}
    → IsToken toks i (Word word.Else) j
    → left ≡ inner + 1
    → Found toks j k inner (block_levels body) (IsBlock toks j k body)
    → box ≡ body
    → Found toks i k left (block_levels box + 1) (IsElse toks i k (Some box))
else_found {toks} {i} {j} {k} {left} {inner} {body} {box} t lev h e0 =
    subst (λ (z : Block). Found toks i k left (block_levels z + 1) (IsElse toks i k (Some z))) (sym e0)
    (let n = t.next in record { is = g.an_else t h.is; ends = record { forward = omega arith; within = omega arith }; level = omega arith })

pub for_step_found : {toks : List Tok} {i j k left : ℕ} {e : Expr} {box : Expr}
    → IsToken toks i (Sign sign.Comma) j
    → Found toks (j + 1) k left (expr_levels e) (IsExpr toks 1 j k e)
    → box ≡ e
    → Found toks i k left (expr_levels box) (IsForStep toks i k (Some box))
for_step_found {toks} {i} {j} {k} {left} {e} {box} t h e0 =
    subst (λ (z : Expr). Found toks i k left (expr_levels z) (IsForStep toks i k (Some z))) (sym e0)
    (let n = t.next in record { is = g.a_for_step t h.is; ends = record { forward = omega arith; within = omega arith }; level = omega arith })

pub for_in_found : {toks : List Tok} {i j k l o p q r left : ℕ} {es : List Expr} {names : List ℕ} {body : Block}
    → IsToken toks i (Word word.For) j
    → Found toks (j + 1) k 0 (0) (AreNames toks j k names)
    → IsToken toks k (Word word.In) l
    → Found toks (l + 1) o left (deepest (map expr_levels es)) (AreExprs toks l o es)
    → IsToken toks o (Word word.Do) p
    → Found toks (p + 1) r left (block_levels body + 1) (IsBlock toks p q body × IsToken toks q (Word word.End) r)
    → Found toks (i + 1) r left (stat_levels (statement i r (stat.ForIn names es body))) (IsStat toks i r (statement i r (stat.ForIn names es body)))
for_in_found {toks} {i} {j} {k} {l} {o} {p} {q} {r} {left} {es} {names} {body} t h t2 h2 t3 h3 =
    let n = t.next in let n2 = t2.next in let n3 = t3.next in record { is = g.for_in_stat t h.is t2 h2.is t3 h3.is.0 h3.is.1; ends = record { forward = omega arith; within = omega arith }; level = omega (arith, lv.for_in_levels i r names es body) }

pub for_found : {toks : List Tok} {i j k l m n o p q r s left : ℕ} {first limit : Expr} {step : Option Expr} {body : Block}
    → IsToken toks i (Word word.For) j
    → IsToken toks j Name k
    → IsToken toks k (Sign sign.Assign) l
    → Found toks (l + 1) m left (expr_levels first) (IsExpr toks 1 l m first)
    → IsToken toks m (Sign sign.Comma) n
    → Found toks (n + 1) o left (expr_levels limit) (IsExpr toks 1 n o limit)
    → Found toks o p left (if_there (option_map expr_levels step)) (IsForStep toks o p step)
    → IsToken toks p (Word word.Do) q
    → Found toks (q + 1) s left (block_levels body + 1) (IsBlock toks q r body × IsToken toks r (Word word.End) s)
    → Found toks (i + 1) s left (stat_levels (statement i s (stat.For j first limit step body))) (IsStat toks i s (statement i s (stat.For j first limit step body)))
for_found {toks} {i} {j} {k} {l} {m} {n} {o} {p} {q} {r} {s} {left} {first} {limit} {step} {body} t t2 t3 h t4 h2 h3 t5 h4 =
    let n1 = t.next in let n2 = t2.next in let n3 = t3.next in let n4 = t4.next in let n5 = t5.next in record { is = g.for_stat t t2 t3 h.is t4 h2.is h3.is t5 h4.is.0 h4.is.1; ends = record { forward = omega arith; within = omega arith }; level = omega (arith, lv.for_levels i s j first limit step body) }

pub function_stat_found : {toks : List Tok} {i j k l o left inner : ℕ} {path : List ℕ} {method : Option ℕ} {f : FuncBody}
    → IsToken toks i (Word word.Function) j
    → left ≡ inner + 1
    → Found toks (j + 1) k 0 (0) (IsPath toks j k path)
    → Found toks k l 0 (0) (IsMethod toks k l method)
    → Found toks (l + 1) o inner (body_levels f) (IsFuncBody toks l o f)
    → Found toks (i + 1) o left (stat_levels (statement i o (stat.Function path method f))) (IsStat toks i o (statement i o (stat.Function path method f)))
function_stat_found {toks} {i} {j} {k} {l} {o} {left} {inner} {path} {method} {f} t lev h h2 h3 =
    let n = t.next in record { is = g.function_stat t h.is h2.is h3.is; ends = record { forward = omega arith; within = omega arith }; level = omega (arith, lv.function_stat_levels i o path method f) }

pub local_function_found : {toks : List Tok} {i j k l o left inner : ℕ} {f : FuncBody}
    → IsToken toks i (Word word.Local) j
    → IsToken toks j (Word word.Function) k
    → IsToken toks k Name l
    → left ≡ inner + 1
    → Found toks (l + 1) o inner (body_levels f) (IsFuncBody toks l o f)
    → Found toks (i + 1) o left (stat_levels (statement i o (stat.LocalFunction k f))) (IsStat toks i o (statement i o (stat.LocalFunction k f)))
local_function_found {toks} {i} {j} {k} {l} {o} {left} {inner} {f} t t2 t3 lev h =
    let n = t.next in let n2 = t2.next in let n3 = t3.next in record { is = g.local_function_stat t t2 t3 h.is; ends = record { forward = omega arith; within = omega arith }; level = omega (arith, lv.local_function_levels i o k f) }

pub local_found : {toks : List Tok} {i j k left : ℕ} {declared : List Declared} {none : List Expr}
    → IsToken toks i (Word word.Local) j
    → Found toks (j + 1) k 0 (0) (AreDeclared toks j k declared)
    → none ≡ []
    → Found toks (i + 1) k left (stat_levels (statement i k (stat.Local declared none))) (IsStat toks i k (statement i k (stat.Local declared none)))
local_found {toks} {i} {j} {k} {left} {declared} {none} t h en =
    subst (λ (z : List Expr). Found toks (i + 1) k left (stat_levels (statement i k (stat.Local declared z))) (IsStat toks i k (statement i k (stat.Local declared z)))) (sym en)
    (let n = t.next in record { is = g.local_stat t h.is; ends = record { forward = omega arith; within = omega arith }; level = omega (arith, lv.local_levels i k declared []) })

pub local_values_found : {toks : List Tok} {i j k l o left : ℕ} {declared : List Declared} {es : List Expr}
    → IsToken toks i (Word word.Local) j
    → Found toks (j + 1) k 0 (0) (AreDeclared toks j k declared)
    → IsToken toks k (Sign sign.Assign) l
    → Found toks (l + 1) o left (deepest (map expr_levels es)) (AreExprs toks l o es)
    → Found toks (i + 1) o left (stat_levels (statement i o (stat.Local declared es))) (IsStat toks i o (statement i o (stat.Local declared es)))
local_values_found {toks} {i} {j} {k} {l} {o} {left} {declared} {es} t h t2 h2 =
    let n = t.next in let n2 = t2.next in record { is = g.local_values_stat t h.is t2 h2.is; ends = record { forward = omega arith; within = omega arith }; level = omega (arith, lv.local_levels i o declared es) }

pub call_stat_found : {toks : List Tok} {i j left : ℕ} {e : Expr}
    → Found toks (i + 1) j left (expr_levels e) (IsCall toks i j e)
    → NoParenFollows toks j
    → Found toks (i + 1) j left (stat_levels (statement i j (stat.Call e))) (IsStat toks i j (statement i j (stat.Call e)))
call_stat_found {toks} {i} {j} {left} {e} h closed =
    record { is = g.call_stat h.is closed; ends = record { forward = omega arith; within = omega arith }; level = omega (arith, lv.call_levels i j e) }

pub assign_found : {toks : List Tok} {i j k l left : ℕ} {targets es : List Expr}
    → Found toks (i + 1) j left (deepest (map expr_levels targets)) (AreTargets toks i j targets)
    → IsToken toks j (Sign sign.Assign) k
    → Found toks (k + 1) l left (deepest (map expr_levels es)) (AreExprs toks k l es)
    → Found toks (i + 1) l left (stat_levels (statement i l (stat.Assign targets es))) (IsStat toks i l (statement i l (stat.Assign targets es)))
assign_found {toks} {i} {j} {k} {l} {left} {targets} {es} h t h2 =
    let n = t.next in record { is = g.assign_stat h.is t h2.is; ends = record { forward = omega arith; within = omega arith }; level = omega (arith, lv.assign_levels i l targets es) }

pub call_shaped : {toks : List Tok} {i j left : ℕ} {e : Expr} (s : Shape) → s ≡ shape.Call → Found toks (i + 1) j left (expr_levels e) (IsShaped toks i j s e) → NoParenFollows toks j
    → Found toks (i + 1) j left (stat_levels (statement i j (stat.Call e))) (IsStat toks i j (statement i j (stat.Call e)))
call_shaped {toks} {i} {j} {left} {e} s is h closed =
    call_stat_found (record { is = subst (λ (z : Shape). IsShaped toks i j z e) is h.is; ends = h.ends; level = h.level }) closed
