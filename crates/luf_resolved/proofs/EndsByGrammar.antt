-- Where the `local` statements of a chunk end, by ranks: those of each part, by the grammar.
use Rattle.std.proofs.Common.{◌≡◌, ℕ, ◌-◌, ◌≤◌, Bool, false, true, not, ◌&&◌, Option, Some, None, List, [], ◌∷◌, ◌++◌, All, map, refl, sym, ap, ◌∙◌, subst, arith, inl, inr}
use Rattle.luf_lex.specs.declared.token.Tok.{Tok}
use Rattle.luf_tree.specs.declared.tree.Declared.{Declared}
use Rattle.luf_tree.specs.declared.tree.Expr.{Expr}
use Rattle.luf_tree.specs.declared.tree.Stat.{Stat}
use Rattle.luf_tree.specs.declared.tree.Block.{Block}
use Rattle.luf_tree.specs.declared.tree.Arm.{Arm}
use Rattle.luf_tree.specs.declared.tree.Args.{Args}
use Rattle.luf_tree.specs.declared.tree.Step.{Step}
use Rattle.luf_tree.specs.declared.tree.Suffix.{Suffix}
use Rattle.luf_tree.specs.declared.tree.Field.{Field}
use Rattle.luf_tree.specs.declared.tree.FuncBody.{FuncBody}
use Rattle.luf_tree.specs.TokenSyntax.{from_to}
use Rattle.luf_tree.specs.TokenSyntax as tokens
use Rattle.luf_tree.specs.SyntaxOf.{declared_of, first_of_path, rest_of_path, expressions_of, operations_of, suffixes_of, fields_of, statements_of, arms_of, optional_expression_of, optional_block_of, syntax_of_expr, syntax_of_field, syntax_of_suffix, syntax_of_step, syntax_of_stat, syntax_of_arm, syntax_of_block, syntax_of_body, syntax_of_args}
use Rattle.luf_tree.specs.Grammar as g
use Rattle.luf_tree.specs.Grammar.{IsToken, IsString, AreNames, AreParams, IsAttribute, AreDeclared, IsPath, IsMethod, IsSemicolon, IsExpr, AreSteps, IsOperand, IsSimple, IsPrefix, IsVariable, IsCall, IsParen, IsHead, AreSuffixes, IsSuffix, IsArgs, AreExprs, IsTable, AreFields, IsField, IsFuncBody, IsBlock, AreStats, IsReturn, IsStat, AreTargets, IsArm, AreArms, IsElse, IsForStep, IsChunk}
use Rattle.luf_tree.proofs.SyntaxEquations as eq
use Rattle.std.specs.Option.{option_map}
use Rattle.luf_scope.specs.Occurrences.{Holder, span_of, body_of, span_of_body, loop_of, declared_locals, parameters_of, path_of, method_of, target_of, occurrences_in_expression, occurrences_in_optional_expression, occurrences_in_expressions, occurrences_in_targets, occurrences_in_operation, occurrences_in_operations, occurrences_in_suffix, occurrences_in_suffixes, occurrences_in_field, occurrences_in_fields, occurrences_in_statement, occurrences_in_statements, occurrences_in_arm, occurrences_in_arms, occurrences_in_block, occurrences_in_repeated, occurrences_in_optional_block, occurrences_in_body, occurrences_in_arguments, are_void}
use Rattle.luf_scope.specs.declared.occurrence.Occurrence.{Occurrence}
use Rattle.luf_scope.specs.declared.occurrence.Occurrence.TheVariants as occurrence
use Rattle.luf_scope.specs.declared.occurrence.Occurrence.TheVariants.{Local, LocalFunction, Parameter, ImplicitSelf, LoopVariable, Reads, Assigns, Varargs, Function, Loop, Label, Goto, Break}
use Rattle.luf_scope.proofs.Places.{body_at, declared_on, names_on, parameters_on, path_on, method_on, semicolon_on}
use Rattle.luf_resolved.proofs.Ranking.{Sound}
use Rattle.luf_resolved.proofs.LocalEnds.{is_local, OneEnd, Ends, Names, nothing, wider, looser, joins, silent_alone, no_names, name_first, names_from, local_round, function_round}

-- the same, of a part that equals it
by : {toks : List Tok} {all : List ℕ} {k a e : ℕ} {os others : List Occurrence} → others ≡ os → Ends toks all k a e os → Ends toks all k a e others
by {toks} {all} {k} {a} {e} is ends = subst (λ (x : List Occurrence). Ends toks all k a e x) (sym is) ends

skip : {toks : List Tok} {all : List ℕ} {t : Tok} {k i j e : ℕ} {os : List Occurrence} → IsToken toks i t j → Ends toks all k j e os → Ends toks all k i e os
skip {toks} {all} {k = k} {i = i} {j = j} {e = e} {os = os} t ends = let next = t.next in wider toks all k i j e e os (omega arith) (omega arith) ends

longer : {toks : List Tok} {all : List ℕ} {k i j e : ℕ} {os : List Occurrence} → j ≤ e → Ends toks all k i j os → Ends toks all k i e os
longer {toks} {all} {k} {i} {j} {e} {os} up ends = wider toks all k i i j e os (omega arith) up ends

end : {toks : List Tok} {all : List ℕ} {t : Tok} {k i j e : ℕ} {os : List Occurrence} → Ends toks all k i j os → IsToken toks j t e → Ends toks all k i e os
end ends t = let next = t.next in longer (omega arith) ends

-- of an expression, as a part of a statement
loose : {toks : List Tok} {all : List ℕ} {i j : ℕ} {os : List Occurrence} → Ends toks all 1 i j os → Ends toks all 0 i j os
loose {toks} {all} {i} {j} {os} ends = looser toks all 1 i j os ends

empty : {toks : List Tok} {all : List ℕ} {k a e : ℕ} → a ≤ e → Ends toks all k a e []
empty {toks} {all} {k} {a} {e} on = nothing toks all k a e on

none : {toks : List Tok} {all : List ℕ} {k a : ℕ} → Ends toks all k a a []
none = empty (omega arith)

lone : {toks : List Tok} {all : List ℕ} {t : Tok} {k i j : ℕ} → IsToken toks i t j → Ends toks all k i j []
lone t = skip t none

string_lone : {toks : List Tok} {all : List ℕ} {k i j : ℕ} → IsString toks i j → Ends toks all k i j []
string_lone (inl t) = lone t
string_lone (inr t) = lone t

infixr 5 ◌⨾◌
◌⨾◌ : {toks : List Tok} {all : List ℕ} {k i m e : ℕ} {xs ys : List Occurrence} → Ends toks all k i m xs → Ends toks all k m e ys → Ends toks all k i e (xs ++ ys)
◌⨾◌ {toks} {all} {k} {i} {m} {e} {xs} {ys} a b = joins toks all k i m e xs ys a b

-- what is no name of a `local` statement
alone : {toks : List Tok} {all : List ℕ} {k a e : ℕ} (u : Occurrence) → is_local u ≡ false → a ≤ e → Ends toks all k a e (u ∷ [])
alone {toks} {all} {k} {a} {e} u silent on = silent_alone toks all k a e u on silent

says : {toks : List Tok} {all : List ℕ} {t : Tok} {k i j : ℕ} (u : Occurrence) → is_local u ≡ false → IsToken toks i t j → Ends toks all k i j (u ∷ [])
says u silent t = let next = t.next in alone u silent (omega arith)

first : {toks : List Tok} {all : List ℕ} {k a e : ℕ} {os : List Occurrence} (u : Occurrence) → is_local u ≡ false → Ends toks all k a e os → Ends toks all k a e (u ∷ os)
first u silent ends = alone u silent (omega arith) ⨾ ends

-- names in a row
names_end : {toks : List Tok} {all : List ℕ} {A : Type 0} {k a e : ℕ} (f : A → Occurrence) → ((x : A) → is_local (f x) ≡ false) → a ≤ e → (xs : List A) → Ends toks all k a e (map f xs)
names_end f silent on [] = empty on
names_end f silent on (x ∷ xs) = first (f x) (silent x) (names_end f silent on xs)

path_ends : {toks : List Tok} {all : List ℕ} {k a e : ℕ} (path : List ℕ) (method : Option ℕ) → a ≤ e → Ends toks all k a e (path_of (first_of_path path) (rest_of_path path) method)
path_ends [] method on = empty on
path_ends (name ∷ []) None on = alone (Assigns name) refl on
path_ends (name ∷ []) (Some m) on = alone (Reads name) refl on
path_ends (name ∷ field ∷ rest) None on = first (Reads name) refl (names_end occurrence.Field (λ _. refl) on (field ∷ rest))
path_ends (name ∷ field ∷ rest) (Some m) on = first (Reads name) refl (names_end occurrence.Field (λ _. refl) on (field ∷ rest))

method_ends : {toks : List Tok} {all : List ℕ} {k a e : ℕ} (s : tokens.Span) (method : Option ℕ) → a ≤ e → Ends toks all k a e (method_of s method)
method_ends s None on = empty on
method_ends s (Some name) on = first (ImplicitSelf (name - 1) s.from s.to) refl (alone (occurrence.Field name) refl on)

body_round : {toks : List Tok} {all : List ℕ} {i j k l o p : ℕ} {params : List ℕ} {vararg : Bool} {w x y : Tok} (body : Block) → IsToken toks i w j → AreParams toks j k params vararg → IsToken toks k x l → IsToken toks o y p → Ends toks all 0 l o (occurrences_in_block (syntax_of_block body)) → Ends toks all 1 i p (occurrences_in_body (syntax_of_body (body_at i p params vararg body)))
body_round {toks} {all} {i = i} {j = j} {k = k} {l = l} {o = o} {p = p} {params = params} {vararg = vararg} body t d u v block =
    let next = t.next in
    let on = parameters_on d in
    let more = u.next in
    let ends = v.next in
    let s : tokens.Span = span_of (syntax_of_block body) in
    let row : Ends toks all 1 i l (parameters_of s params) = names_end (λ name. Parameter name s.from s.to) (λ _. refl) (omega (arith, next, on, more)) params in
    by (ap occurrences_in_body (eq.body_of_syntax i p params vararg body))
    (function_round toks all i l o p vararg (parameters_of s params) (occurrences_in_block (syntax_of_block body)) (omega (arith, ends)) (first (Function i p vararg) refl row) block)

attribute_on : {toks : List Tok} {i j : ℕ} {a : Option ℕ} → IsAttribute toks i j a → i ≤ j
attribute_on g.no_attribute = omega arith
attribute_on (g.an_attribute t u v) = let a = t.next in let b = u.next in let c = v.next in omega (arith, a, b, c)

local_reaches : {toks : List Tok} {all : List ℕ} {i j f : ℕ} (t : ℕ) {declared : List Declared} → AreDeclared toks i j declared → j ≤ f → Names toks all i f (declared_locals f t (map declared_of declared))
local_reaches {toks} {all} {f = f} t (g.one_declared {i = i} {k = k} {a = a} n at) up =
    let next = n.next in let on = attribute_on at in
    name_first toks all i i f t a [] (omega arith) (omega (arith, next, on, up)) (no_names toks all i f (omega (arith, next, on, up)))
local_reaches {toks} {all} {f = f} t (g.more_declared {i = i} {l = l} {a = a} {declared = ds} n at c d) up =
    let next = n.next in let on = attribute_on at in let more = c.next in let rest = local_reaches {toks = toks} {all = all} t d up in let above = rest.on in
    name_first toks all i i f t a (declared_locals f t (map declared_of ds)) (omega arith) (omega (arith, next, on, more, above)) (names_from toks all i l f (declared_locals f t (map declared_of ds)) (omega (arith, next, on, more)) rest)

loop_round : {toks : List Tok} {all : List ℕ} {k i j : ℕ} {os : List Occurrence} (s : tokens.Span) → Ends toks all k i j os → Ends toks all k i j (loop_of s ∷ os)
loop_round s ends = first (Loop s.from s.to) refl ends

mutual
  expr_ends : {toks : List Tok} {all : List ℕ} {n i j : ℕ} {e : Expr} → IsExpr toks n i j e → Ends toks all 1 i j (occurrences_in_expression (syntax_of_expr e))
  expr_ends (g.operand_expr d) = operand_ends d
  expr_ends (g.chain_expr _ _ d steps) = by (ap occurrences_in_expression (eq.chain_syntax _ _ _ _)) (expr_ends d ⨾ steps_end steps)

  steps_end : {toks : List Tok} {all : List ℕ} {m i j : ℕ} {steps : List Step} → AreSteps toks m i j steps → Ends toks all 1 i j (occurrences_in_operations (operations_of (map syntax_of_step steps)))
  steps_end (g.one_step op _ d) = by (ap (λ o. occurrences_in_operation o ++ []) (eq.step_of_syntax _ _)) (skip op (expr_ends d) ⨾ none)
  steps_end (g.more_steps {rest = rest} op _ d more) = by (ap (λ o. occurrences_in_operation o ++ occurrences_in_operations (operations_of (map syntax_of_step rest))) (eq.step_of_syntax _ _)) (skip op (expr_ends d) ⨾ steps_end more)

  operand_ends : {toks : List Tok} {all : List ℕ} {i j : ℕ} {e : Expr} → IsOperand toks i j e → Ends toks all 1 i j (occurrences_in_expression (syntax_of_expr e))
  operand_ends (g.unary_operand op _ d) = by (ap occurrences_in_expression (eq.unary_syntax _ _ _)) (skip op (operand_ends d))
  operand_ends (g.power_operand base t d) = by (ap occurrences_in_expression (eq.power_syntax _ _ _ _ _)) (simple_ends base ⨾ skip t (operand_ends d))
  operand_ends (g.simple_operand d) = simple_ends d

  simple_ends : {toks : List Tok} {all : List ℕ} {i j : ℕ} {e : Expr} → IsSimple toks i j e → Ends toks all 1 i j (occurrences_in_expression (syntax_of_expr e))
  simple_ends (g.nil_simple t) = by (ap occurrences_in_expression (eq.nil_syntax _ _)) (lone t)
  simple_ends (g.true_simple t) = by (ap occurrences_in_expression (eq.true_syntax _ _)) (lone t)
  simple_ends (g.false_simple t) = by (ap occurrences_in_expression (eq.false_syntax _ _)) (lone t)
  simple_ends (g.number_simple t) = by (ap occurrences_in_expression (eq.number_syntax _ _)) (lone t)
  simple_ends (g.string_simple d) = by (ap occurrences_in_expression (eq.string_syntax _ _)) (string_lone d)
  simple_ends (g.vararg_simple {i = i} t) = by (ap occurrences_in_expression (eq.vararg_syntax _ _)) (says (Varargs i) refl t)
  simple_ends (g.function_simple t d) = by (ap occurrences_in_expression (eq.function_syntax _ _ _)) (skip t (body_ends d))
  simple_ends (g.table_simple d) = by (ap occurrences_in_expression (eq.table_syntax _ _ _)) (table_ends d)
  simple_ends (g.prefix_simple d _) = prefix_ends d

  prefix_ends : {toks : List Tok} {all : List ℕ} {i j : ℕ} {e : Expr} → IsPrefix toks i j e → Ends toks all 1 i j (occurrences_in_expression (syntax_of_expr e))
  prefix_ends (g.variable_prefix d) = variable_ends d
  prefix_ends (g.call_prefix d) = call_ends d
  prefix_ends (g.paren_prefix d) = paren_ends d

  variable_ends : {toks : List Tok} {all : List ℕ} {i j : ℕ} {e : Expr} → IsVariable toks i j e → Ends toks all 1 i j (occurrences_in_expression (syntax_of_expr e))
  variable_ends (g.name_variable {i = i} t) = by (ap occurrences_in_expression (eq.name_syntax _ _)) (says (Reads i) refl t)
  variable_ends (g.suffixed_variable d suffixes) = by (ap occurrences_in_expression (eq.suffixed_syntax _ _ _ _)) (head_ends d ⨾ suffixes_end suffixes)

  call_ends : {toks : List Tok} {all : List ℕ} {i j : ℕ} {e : Expr} → IsCall toks i j e → Ends toks all 1 i j (occurrences_in_expression (syntax_of_expr e))
  call_ends (g.suffixed_call d suffixes) = by (ap occurrences_in_expression (eq.suffixed_syntax _ _ _ _)) (head_ends d ⨾ suffixes_end suffixes)

  paren_ends : {toks : List Tok} {all : List ℕ} {i j : ℕ} {e : Expr} → IsParen toks i j e → Ends toks all 1 i j (occurrences_in_expression (syntax_of_expr e))
  paren_ends (g.paren t d u) = by (ap occurrences_in_expression (eq.paren_syntax _ _ _)) (skip t (end (expr_ends d) u))

  head_ends : {toks : List Tok} {all : List ℕ} {i j : ℕ} {e : Expr} → IsHead toks i j e → Ends toks all 1 i j (occurrences_in_expression (syntax_of_expr e))
  head_ends (g.name_head {i = i} t) = by (ap occurrences_in_expression (eq.name_syntax _ _)) (says (Reads i) refl t)
  head_ends (g.paren_head d) = paren_ends d

  suffixes_end : {toks : List Tok} {all : List ℕ} {calls : Bool} {i j : ℕ} {suffixes : List Suffix} → AreSuffixes toks calls i j suffixes → Ends toks all 1 i j (occurrences_in_suffixes (suffixes_of (map syntax_of_suffix suffixes)))
  suffixes_end (g.one_suffix d) = suffix_ends d ⨾ none
  suffixes_end (g.more_suffixes d rest) = suffix_ends d ⨾ suffixes_end rest

  suffix_ends : {toks : List Tok} {all : List ℕ} {calls : Bool} {i j : ℕ} {s : Suffix} → IsSuffix toks calls i j s → Ends toks all 1 i j (occurrences_in_suffix (syntax_of_suffix s))
  suffix_ends (g.dot_suffix {j = j} t u) = by (ap occurrences_in_suffix (eq.dot_syntax _)) (skip t (says (occurrence.Field j) refl u))
  suffix_ends (g.index_suffix t d u) = by (ap occurrences_in_suffix (eq.index_syntax _)) (skip t (end (expr_ends d) u))
  suffix_ends (g.call_suffix d) = by (ap occurrences_in_suffix (eq.call_suffix_syntax _)) (args_end d)
  suffix_ends (g.method_suffix {j = j} t u d) = by (ap occurrences_in_suffix (eq.method_syntax _ _)) (skip t (says (occurrence.Field j) refl u ⨾ args_end d))

  args_end : {toks : List Tok} {all : List ℕ} {i j : ℕ} {args : Args} → IsArgs toks i j args → Ends toks all 1 i j (occurrences_in_arguments (syntax_of_args args))
  args_end (g.no_args t u) = by (ap occurrences_in_arguments (eq.args_of_syntax _ _ _ _)) (skip t (lone u))
  args_end (g.list_args t d u) = by (ap occurrences_in_arguments (eq.args_of_syntax _ _ _ _)) (skip t (end (exprs_end d) u))
  args_end (g.string_args d) = by (ap occurrences_in_arguments (eq.args_of_syntax _ _ _ _) ∙ ap (λ x. occurrences_in_expression x ++ []) (eq.string_syntax _ _)) (string_lone d)
  args_end (g.table_args d) = by (ap occurrences_in_arguments (eq.args_of_syntax _ _ _ _) ∙ ap (λ x. occurrences_in_expression x ++ []) (eq.table_syntax _ _ _)) (table_ends d ⨾ none)

  exprs_end : {toks : List Tok} {all : List ℕ} {i j : ℕ} {es : List Expr} → AreExprs toks i j es → Ends toks all 1 i j (occurrences_in_expressions (expressions_of (map syntax_of_expr es)))
  exprs_end (g.one_expr d) = expr_ends d ⨾ none
  exprs_end (g.more_exprs d t rest) = expr_ends d ⨾ skip t (exprs_end rest)

  table_ends : {toks : List Tok} {all : List ℕ} {i j : ℕ} {fields : List Field} → IsTable toks i j fields → Ends toks all 1 i j (occurrences_in_fields (fields_of (map syntax_of_field fields)))
  table_ends (g.table t d u) = skip t (end (table_fields_end d) u)

  table_fields_end : {toks : List Tok} {all : List ℕ} {i j : ℕ} {fields : List Field} → AreFields toks i j fields → Ends toks all 1 i j (occurrences_in_fields (fields_of (map syntax_of_field fields)))
  table_fields_end g.no_fields = none
  table_fields_end (g.last_field d) = field_ends d ⨾ none
  table_fields_end (g.more_fields d (inl t) rest) = field_ends d ⨾ skip t (table_fields_end rest)
  table_fields_end (g.more_fields d (inr t) rest) = field_ends d ⨾ skip t (table_fields_end rest)

  field_ends : {toks : List Tok} {all : List ℕ} {i j : ℕ} {f : Field} → IsField toks i j f → Ends toks all 1 i j (occurrences_in_field (syntax_of_field f))
  field_ends (g.keyed_field t key u v value) = by (ap occurrences_in_field (eq.keyed_syntax _ _)) (skip t (expr_ends key) ⨾ skip u (skip v (expr_ends value)))
  field_ends (g.named_field {i = i} t u value) = by (ap occurrences_in_field (eq.named_syntax _ _)) (says (occurrence.Field i) refl t ⨾ skip u (expr_ends value))
  field_ends (g.item_field d) = by (ap occurrences_in_field (eq.item_syntax _)) (expr_ends d)

  body_ends : {toks : List Tok} {all : List ℕ} {i j : ℕ} {f : FuncBody} → IsFuncBody toks i j f → Ends toks all 1 i j (occurrences_in_body (syntax_of_body f))
  body_ends (g.func_body {body = body} t d u b v) = body_round body t d u v (block_ends b)

  pub block_ends : {toks : List Tok} {all : List ℕ} {i j : ℕ} {b : Block} → IsBlock toks i j b → Ends toks all 0 i j (occurrences_in_block (syntax_of_block b))
  block_ends (g.block {i = i} {j = j} {stats = stats} d) = by (ap occurrences_in_block (eq.block_of_syntax i j stats)) (stats_end (record { span = from_to i j; end = j; until = false }) d)

  repeated_ends : {toks : List Tok} {all : List ℕ} {i j : ℕ} {b : Block} (e : ℕ) → IsBlock toks i j b → Ends toks all 0 i j (occurrences_in_repeated e (syntax_of_block b))
  repeated_ends e (g.block {i = i} {j = j} {stats = stats} d) = by (ap (occurrences_in_repeated e) (eq.block_of_syntax i j stats)) (stats_end (record { span = from_to i j; end = e; until = true }) d)

  stats_end : {toks : List Tok} {all : List ℕ} {i j : ℕ} {stats : List Stat} (h : Holder) → AreStats toks i j stats → Ends toks all 0 i j (occurrences_in_statements h (statements_of (map syntax_of_stat stats)))
  stats_end h g.no_stats = none
  stats_end h (g.last_stat d) = return_ends h true d ⨾ none
  stats_end h (g.more_stats {stats = rest} d more) = stat_ends h (are_void (statements_of (map syntax_of_stat rest))) d ⨾ stats_end h more

  return_ends : {toks : List Tok} {all : List ℕ} {i j : ℕ} {s : Stat} (h : Holder) (ended : Bool) → IsReturn toks i j s → Ends toks all 0 i j (occurrences_in_statement h ended (syntax_of_stat s))
  return_ends h ended (g.return_nothing t s) = by (ap (occurrences_in_statement h ended) (eq.return_syntax _ _ _)) (longer (semicolon_on s) (lone t))
  return_ends h ended (g.return_values t es s) = by (ap (occurrences_in_statement h ended) (eq.return_syntax _ _ _)) (longer (semicolon_on s) (skip t (loose (exprs_end es))))

  stat_ends : {toks : List Tok} {all : List ℕ} {i j : ℕ} {s : Stat} (h : Holder) (ended : Bool) → IsStat toks i j s → Ends toks all 0 i j (occurrences_in_statement h ended (syntax_of_stat s))
  stat_ends h ended (g.empty_stat t) = by (ap (occurrences_in_statement h ended) (eq.empty_syntax _ _)) (lone t)
  stat_ends {toks} {all} h ended (g.local_stat {i = i} {j = j} {k = k} {declared = declared} t d) =
      by (ap (occurrences_in_statement h ended) (eq.local_syntax _ _ _ _))
      (skip t (local_round toks all j k k (declared_locals k h.end (map declared_of declared)) [] (declared_on d) (local_reaches h.end d (omega arith)) none))
  stat_ends {toks} {all} h ended (g.local_values_stat {i = i} {j = j} {k = k} {l = l} {o = o} {declared = declared} {es = es} t d u values) =
      let next = u.next in
      let inner : Ends toks all 1 l o (occurrences_in_expressions (expressions_of (map syntax_of_expr es))) = exprs_end values in
      let on = inner.on in
      let high = declared_on d in
      by (ap (occurrences_in_statement h ended) (eq.local_syntax _ _ _ _))
      (skip t (local_round toks all j l o (declared_locals o h.end (map declared_of declared)) (occurrences_in_expressions (expressions_of (map syntax_of_expr es))) (omega (arith, next, high)) (local_reaches h.end d (omega (arith, next, on))) inner))
  stat_ends h ended (g.assign_stat d t es) = by (ap (occurrences_in_statement h ended) (eq.assign_syntax _ _ _ _)) (loose (targets_end d ⨾ skip t (exprs_end es)))
  stat_ends h ended (g.call_stat d _) = by (ap (occurrences_in_statement h ended) (eq.call_syntax _ _ _)) (loose (call_ends d))
  stat_ends h ended (g.do_stat t d u) = by (ap (occurrences_in_statement h ended) (eq.do_syntax _ _ _)) (skip t (end (block_ends d) u))
  stat_ends h ended (g.while_stat {body = body} t d u b v) = by (ap (occurrences_in_statement h ended) (eq.while_syntax _ _ _ _)) (skip t (loose (expr_ends d) ⨾ skip u (end (loop_round (span_of (syntax_of_block body)) (block_ends b)) v)))
  stat_ends h ended (g.repeat_stat {o = o} {body = body} t b u d) =
      by (ap (occurrences_in_statement h ended) (eq.repeat_syntax _ _ _ _)) (skip t (loop_round (span_of (syntax_of_block body)) (repeated_ends o b ⨾ skip u (loose (expr_ends d)))))
  stat_ends h ended (g.if_stat t arms last u) = by (ap (occurrences_in_statement h ended) (eq.if_syntax _ _ _ _)) (skip t (end (arms_end arms ⨾ else_ends last) u))
  stat_ends h ended (g.for_stat {j = j} {body = body} t n a x c y z d b e) =
      let s : tokens.Span = span_of (syntax_of_block body) in
      by (ap (occurrences_in_statement h ended) (eq.for_syntax _ _ _ _ _ _ _))
      (skip t (end (loose (((says (LoopVariable j s.from s.to) refl n ⨾ skip a (expr_ends x)) ⨾ skip c (expr_ends y)) ⨾ step_ends z) ⨾ skip d (loop_round s (block_ends b))) e))
  stat_ends h ended (g.for_in_stat {names = names} {body = body} t n a x d b e) =
      let s : tokens.Span = span_of (syntax_of_block body) in
      by (ap (occurrences_in_statement h ended) (eq.for_in_syntax _ _ _ _ _))
      (skip t (end (loose (names_end (λ name. LoopVariable name s.from s.to) (λ _. refl) (names_on n) names ⨾ skip a (exprs_end x)) ⨾ skip d (loop_round s (block_ends b))) e))
  stat_ends h ended (g.function_stat {path = path} {method = method} {f = f} t p m d) =
      by (ap (occurrences_in_statement h ended) (eq.function_stat_syntax _ _ _ _ _))
      (skip t (loose ((path_ends path method (path_on p) ⨾ method_ends (span_of (body_of (syntax_of_body f))) method (method_on m)) ⨾ body_ends d)))
  stat_ends h ended (g.local_function_stat {k = k} {f = f} t u n d) =
      by (ap (occurrences_in_statement h ended) (eq.local_function_syntax _ _ _ _)) (skip t (skip u (loose (says (LocalFunction k (span_of_body (syntax_of_body f)).from h.end) refl n ⨾ body_ends d))))
  stat_ends h ended (g.label_stat {i = i} {j = j} {l = l} t n u) =
      let a = t.next in let b = n.next in let c = u.next in
      by (ap (occurrences_in_statement h ended) (eq.label_syntax _ _ _)) (alone (Label j h.span.from h.span.to (not h.until && ended)) refl (omega (arith, a, b, c)))
  stat_ends h ended (g.goto_stat {i = i} {j = j} t n) =
      let a = t.next in let b = n.next in
      by (ap (occurrences_in_statement h ended) (eq.goto_syntax _ _ _)) (alone (Goto i j) refl (omega (arith, a, b)))
  stat_ends h ended (g.break_stat {i = i} t) = by (ap (occurrences_in_statement h ended) (eq.break_syntax _ _)) (says (Break i) refl t)

  targets_end : {toks : List Tok} {all : List ℕ} {i j : ℕ} {es : List Expr} → AreTargets toks i j es → Ends toks all 1 i j (occurrences_in_targets (expressions_of (map syntax_of_expr es)))
  targets_end (g.one_target d) = target_ends d ⨾ none
  targets_end (g.more_targets d t rest) = target_ends d ⨾ skip t (targets_end rest)

  target_ends : {toks : List Tok} {all : List ℕ} {i j : ℕ} {e : Expr} → IsVariable toks i j e → Ends toks all 1 i j (target_of (syntax_of_expr e) (occurrences_in_expression (syntax_of_expr e)))
  target_ends (g.name_variable {i = i} t) = by (ap (λ x. target_of x (occurrences_in_expression x)) (eq.name_syntax _ _)) (says (Assigns i) refl t)
  target_ends (g.suffixed_variable d suffixes) = by (ap (λ x. target_of x (occurrences_in_expression x)) (eq.suffixed_syntax _ _ _ _)) (head_ends d ⨾ suffixes_end suffixes)

  arms_end : {toks : List Tok} {all : List ℕ} {i j : ℕ} {arms : List Arm} → AreArms toks i j arms → Ends toks all 0 i j (occurrences_in_arms (arms_of (map syntax_of_arm arms)))
  arms_end (g.one_arm d) = arm_ends d ⨾ none
  arms_end (g.more_arms d t rest) = arm_ends d ⨾ skip t (arms_end rest)

  arm_ends : {toks : List Tok} {all : List ℕ} {i j : ℕ} {a : Arm} → IsArm toks i j a → Ends toks all 0 i j (occurrences_in_arm (syntax_of_arm a))
  arm_ends (g.arm d t b) = by (ap occurrences_in_arm (eq.arm_of_syntax _ _)) (loose (expr_ends d) ⨾ skip t (block_ends b))

  else_ends : {toks : List Tok} {all : List ℕ} {i j : ℕ} {last : Option Block} → IsElse toks i j last → Ends toks all 0 i j (occurrences_in_optional_block (optional_block_of (option_map syntax_of_block last)))
  else_ends g.no_else = none
  else_ends (g.an_else t b) = skip t (block_ends b)

  step_ends : {toks : List Tok} {all : List ℕ} {i j : ℕ} {step : Option Expr} → IsForStep toks i j step → Ends toks all 1 i j (occurrences_in_optional_expression (optional_expression_of (option_map syntax_of_expr step)))
  step_ends g.no_for_step = none
  step_ends (g.a_for_step t d) = skip t (expr_ends d)

-- of a chunk whose occurrences are sound, any two statements
pub one_end : {toks : List Tok} (all : List ℕ) {i j : ℕ} {b : Block} → IsBlock toks i j b → All (Sound toks all) (occurrences_in_block (syntax_of_block b)) → All (λ u. All (OneEnd toks all u) (occurrences_in_block (syntax_of_block b))) (occurrences_in_block (syntax_of_block b))
one_end all d given = ((block_ends {all = all} d).told given).pairs
