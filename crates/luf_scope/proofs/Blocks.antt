-- How the blocks of the labels of a chunk lie: those of each part, by the grammar.
use Rattle.std.proofs.Common.{◌≡◌, ℕ, ◌-◌, ◌≤◌, Bool, true, false, not, ◌&&◌, Option, Some, None, List, [], ◌∷◌, ◌++◌, map, refl, sym, ap, ◌∙◌, subst, arith, inl, inr}
use Rattle.luf_lex.specs.declared.token.Tok.{Tok}
use Rattle.luf_tree.specs.declared.tree.Declared.{Declared}
use Rattle.luf_tree.specs.declared.tree.Expr.{Expr}
use Rattle.luf_tree.specs.declared.tree.Stat.{Stat}
use Rattle.luf_tree.specs.declared.tree.Block.{Block}
use Rattle.luf_tree.specs.declared.tree.Arm.{Arm}
use Rattle.luf_tree.specs.declared.tree.Args.{Args}
use Rattle.luf_tree.specs.declared.tree.Step.{Step}
use Rattle.luf_tree.specs.declared.tree.Suffix.{Suffix}
use Rattle.luf_tree.specs.declared.tree.Field.{Field}
use Rattle.luf_tree.specs.declared.tree.FuncBody.{FuncBody}
use Rattle.luf_tree.specs.TokenSyntax.{from_to}
use Rattle.luf_tree.specs.TokenSyntax as tokens
use Rattle.luf_tree.specs.SyntaxOf.{declared_of, first_of_path, rest_of_path, expressions_of, operations_of, suffixes_of, fields_of, statements_of, arms_of, optional_expression_of, optional_block_of, syntax_of_expr, syntax_of_field, syntax_of_suffix, syntax_of_step, syntax_of_stat, syntax_of_arm, syntax_of_block, syntax_of_body, syntax_of_args}
use Rattle.luf_tree.specs.Grammar as g
use Rattle.luf_tree.specs.Grammar.{IsToken, IsString, AreNames, AreParams, IsAttribute, AreDeclared, IsPath, IsMethod, IsSemicolon, IsExpr, AreSteps, IsOperand, IsSimple, IsPrefix, IsVariable, IsCall, IsParen, IsHead, AreSuffixes, IsSuffix, IsArgs, AreExprs, IsTable, AreFields, IsField, IsFuncBody, IsBlock, AreStats, IsReturn, IsStat, AreTargets, IsArm, AreArms, IsElse, IsForStep, IsChunk}
use Rattle.luf_tree.proofs.SyntaxEquations as eq
use Rattle.std.specs.Option.{option_map}
use Rattle.luf_scope.specs.Occurrences.{Holder, span_of, body_of, span_of_body, loop_of, declared_locals, parameters_of, path_of, method_of, target_of, occurrences_in_expression, occurrences_in_optional_expression, occurrences_in_expressions, occurrences_in_targets, occurrences_in_operation, occurrences_in_operations, occurrences_in_suffix, occurrences_in_suffixes, occurrences_in_field, occurrences_in_fields, occurrences_in_statement, occurrences_in_statements, occurrences_in_arm, occurrences_in_arms, occurrences_in_block, occurrences_in_repeated, occurrences_in_optional_block, occurrences_in_body, occurrences_in_arguments, are_void}
use Rattle.luf_scope.specs.declared.occurrence.Occurrence.{Occurrence}
use Rattle.luf_scope.specs.declared.occurrence.Occurrence.TheVariants as occurrence
use Rattle.luf_scope.specs.declared.occurrence.Occurrence.TheVariants.{Local, LocalFunction, Parameter, ImplicitSelf, LoopVariable, Reads, Assigns, Varargs, Function, Loop, Label, Goto, Break}
use Rattle.luf_scope.specs.Order.{is_label}
use Rattle.luf_scope.specs.Nesting.{is_function}
use Rattle.luf_scope.proofs.Holding.{Blocks, IsSilent, nothing, wider, out, joins, silent_alone, label_alone, function_round}
use Rattle.luf_scope.proofs.Places.{body_at, declared_on, names_on, parameters_on, path_on, method_on, semicolon_on, stat_on, stats_on}

-- the same, of a part that equals it
by : {f t a e : ℕ} {os all : List Occurrence} → all ≡ os → Blocks f t a e os → Blocks f t a e all
by {f} {t} {a} {e} {os} {all} is lies = subst (λ (x : List Occurrence). Blocks f t a e x) (sym is) lies

-- a part from i to e, with what it holds from j on
after : {i j e : ℕ} {os : List Occurrence} → i ≤ j → Blocks j e j e os → Blocks i e i e os
after {i} {j} {e} {os} on lies = let up = lies.on in wider i e i j e e os (omega arith) on (omega arith) (omega arith) (out i e j e os on (omega arith) lies)

longer : {i j e : ℕ} {os : List Occurrence} → j ≤ e → Blocks i j i j os → Blocks i e i e os
longer {i} {j} {e} {os} up lies = let on = lies.on in wider i e i i j e os (omega arith) (omega arith) up (omega arith) (out i e i j os (omega arith) up lies)

skip : {toks : List Tok} {t : Tok} {i j e : ℕ} {os : List Occurrence} → IsToken toks i t j → Blocks j e j e os → Blocks i e i e os
skip t lies = let next = t.next in after (omega arith) lies

end : {toks : List Tok} {t : Tok} {i j e : ℕ} {os : List Occurrence} → Blocks i j i j os → IsToken toks j t e → Blocks i e i e os
end lies t = let next = t.next in longer (omega arith) lies

empty : {a e : ℕ} → a ≤ e → Blocks a e a e []
empty {a} {e} on = nothing a e a e (omega arith) on (omega arith)

none : {a : ℕ} → Blocks a a a a []
none = empty (omega arith)

lone : {toks : List Tok} {t : Tok} {i j : ℕ} → IsToken toks i t j → Blocks i j i j []
lone t = skip t none

string_lone : {toks : List Tok} {i j : ℕ} → IsString toks i j → Blocks i j i j []
string_lone (inl t) = lone t
string_lone (inr t) = lone t

infixr 5 ◌⨾◌
◌⨾◌ : {i m e : ℕ} {xs ys : List Occurrence} → Blocks i m i m xs → Blocks m e m e ys → Blocks i e i e (xs ++ ys)
◌⨾◌ {i} {m} {e} {xs} {ys} a b = let on = a.on in let up = b.on in joins i e i m e xs ys (out i e i m xs (omega arith) up a) (out i e m e ys on (omega arith) b)

-- what is no label and no function
silent : (u : Occurrence) → is_label u ≡ false → is_function u ≡ false → IsSilent u
silent u label function = record { no_label = label; no_function = function }

alone : {a e : ℕ} (u : Occurrence) → is_label u ≡ false → is_function u ≡ false → a ≤ e → Blocks a e a e (u ∷ [])
alone {a} {e} u label function on = silent_alone a e a e u (omega arith) on (omega arith) (silent u label function)

says : {toks : List Tok} {t : Tok} {i j : ℕ} (u : Occurrence) → is_label u ≡ false → is_function u ≡ false → IsToken toks i t j → Blocks i j i j (u ∷ [])
says u label function t = let next = t.next in alone u label function (omega arith)

first : {a e : ℕ} {os : List Occurrence} (u : Occurrence) → is_label u ≡ false → is_function u ≡ false → Blocks a e a e os → Blocks a e a e (u ∷ os)
first u label function lies = alone u label function (omega arith) ⨾ lies

-- names in a row
names_lie : {A : Type 0} {a e : ℕ} (f : A → Occurrence) → ((x : A) → is_label (f x) ≡ false) → ((x : A) → is_function (f x) ≡ false) → a ≤ e → (xs : List A) → Blocks a e a e (map f xs)
names_lie f labels functions on [] = empty on
names_lie f labels functions on (x ∷ xs) = first (f x) (labels x) (functions x) (names_lie f labels functions on xs)

path_lies : {a e : ℕ} (path : List ℕ) (method : Option ℕ) → a ≤ e → Blocks a e a e (path_of (first_of_path path) (rest_of_path path) method)
path_lies [] method on = empty on
path_lies (name ∷ []) None on = alone (Assigns name) refl refl on
path_lies (name ∷ []) (Some m) on = alone (Reads name) refl refl on
path_lies (name ∷ field ∷ rest) None on = first (Reads name) refl refl (names_lie occurrence.Field (λ _. refl) (λ _. refl) on (field ∷ rest))
path_lies (name ∷ field ∷ rest) (Some m) on = first (Reads name) refl refl (names_lie occurrence.Field (λ _. refl) (λ _. refl) on (field ∷ rest))

method_lies : {a e : ℕ} (s : tokens.Span) (method : Option ℕ) → a ≤ e → Blocks a e a e (method_of s method)
method_lies s None on = empty on
method_lies s (Some name) on = first (ImplicitSelf (name - 1) s.from s.to) refl refl (alone (occurrence.Field name) refl refl on)

body_round : {toks : List Tok} {i j k l o p : ℕ} {params : List ℕ} {vararg : Bool} {w x y : Tok} (body : Block) → IsToken toks i w j → AreParams toks j k params vararg → IsToken toks k x l → IsToken toks o y p → Blocks l o l o (occurrences_in_block (syntax_of_block body)) → Blocks i p i p (occurrences_in_body (syntax_of_body (body_at i p params vararg body)))
body_round {i = i} {j = j} {k = k} {l = l} {o = o} {p = p} {params = params} {vararg = vararg} body t d u v block =
    let next = t.next in
    let on = parameters_on d in
    let more = u.next in
    let ends = v.next in
    let s : tokens.Span = span_of (syntax_of_block body) in
    by (ap occurrences_in_body (eq.body_of_syntax i p params vararg body))
    (function_round i l o p vararg (parameters_of s params ++ occurrences_in_block (syntax_of_block body)) (omega arith) (omega arith)
    (names_lie (λ name. Parameter name s.from s.to) (λ _. refl) (λ _. refl) (omega arith) params ⨾ block))

-- a part that a block holds
in_block : {f t a e : ℕ} {os : List Occurrence} → f ≤ a → e ≤ t → Blocks a e a e os → Blocks f t a e os
in_block {f} {t} {a} {e} {os} low up lies = out f t a e os low up lies

declared_lie : {toks : List Tok} {i j : ℕ} {declared : List Declared} (f t : ℕ) → AreDeclared toks i j declared → Blocks i j i j (declared_locals f t (map declared_of declared))
declared_lie {declared = declared} f t d = names_lie (λ d. Local d.name d.attribute f t) (λ _. refl) (λ _. refl) (declared_on d) (map declared_of declared)

loop_round : {i j : ℕ} {os : List Occurrence} (s : tokens.Span) → Blocks i j i j os → Blocks i j i j (loop_of s ∷ os)
loop_round s lies = first (Loop s.from s.to) refl refl lies

mutual
  expr_lies : {toks : List Tok} {n i j : ℕ} {e : Expr} → IsExpr toks n i j e → Blocks i j i j (occurrences_in_expression (syntax_of_expr e))
  expr_lies (g.operand_expr d) = operand_lies d
  expr_lies (g.chain_expr _ _ d steps) = by (ap occurrences_in_expression (eq.chain_syntax _ _ _ _)) (expr_lies d ⨾ steps_lie steps)

  steps_lie : {toks : List Tok} {m i j : ℕ} {steps : List Step} → AreSteps toks m i j steps → Blocks i j i j (occurrences_in_operations (operations_of (map syntax_of_step steps)))
  steps_lie (g.one_step op _ d) = by (ap (λ o. occurrences_in_operation o ++ []) (eq.step_of_syntax _ _)) (skip op (expr_lies d) ⨾ none)
  steps_lie (g.more_steps {rest = rest} op _ d more) = by (ap (λ o. occurrences_in_operation o ++ occurrences_in_operations (operations_of (map syntax_of_step rest))) (eq.step_of_syntax _ _)) (skip op (expr_lies d) ⨾ steps_lie more)

  operand_lies : {toks : List Tok} {i j : ℕ} {e : Expr} → IsOperand toks i j e → Blocks i j i j (occurrences_in_expression (syntax_of_expr e))
  operand_lies (g.unary_operand op _ d) = by (ap occurrences_in_expression (eq.unary_syntax _ _ _)) (skip op (operand_lies d))
  operand_lies (g.power_operand base t d) = by (ap occurrences_in_expression (eq.power_syntax _ _ _ _ _)) (simple_lies base ⨾ skip t (operand_lies d))
  operand_lies (g.simple_operand d) = simple_lies d

  simple_lies : {toks : List Tok} {i j : ℕ} {e : Expr} → IsSimple toks i j e → Blocks i j i j (occurrences_in_expression (syntax_of_expr e))
  simple_lies (g.nil_simple t) = by (ap occurrences_in_expression (eq.nil_syntax _ _)) (lone t)
  simple_lies (g.true_simple t) = by (ap occurrences_in_expression (eq.true_syntax _ _)) (lone t)
  simple_lies (g.false_simple t) = by (ap occurrences_in_expression (eq.false_syntax _ _)) (lone t)
  simple_lies (g.number_simple t) = by (ap occurrences_in_expression (eq.number_syntax _ _)) (lone t)
  simple_lies (g.string_simple d) = by (ap occurrences_in_expression (eq.string_syntax _ _)) (string_lone d)
  simple_lies (g.vararg_simple {i = i} t) = by (ap occurrences_in_expression (eq.vararg_syntax _ _)) (says (Varargs i) refl refl t)
  simple_lies (g.function_simple t d) = by (ap occurrences_in_expression (eq.function_syntax _ _ _)) (skip t (body_lies d))
  simple_lies (g.table_simple d) = by (ap occurrences_in_expression (eq.table_syntax _ _ _)) (table_lies d)
  simple_lies (g.prefix_simple d _) = prefix_lies d

  prefix_lies : {toks : List Tok} {i j : ℕ} {e : Expr} → IsPrefix toks i j e → Blocks i j i j (occurrences_in_expression (syntax_of_expr e))
  prefix_lies (g.variable_prefix d) = variable_lies d
  prefix_lies (g.call_prefix d) = call_lies d
  prefix_lies (g.paren_prefix d) = paren_lies d

  variable_lies : {toks : List Tok} {i j : ℕ} {e : Expr} → IsVariable toks i j e → Blocks i j i j (occurrences_in_expression (syntax_of_expr e))
  variable_lies (g.name_variable {i = i} t) = by (ap occurrences_in_expression (eq.name_syntax _ _)) (says (Reads i) refl refl t)
  variable_lies (g.suffixed_variable d suffixes) = by (ap occurrences_in_expression (eq.suffixed_syntax _ _ _ _)) (head_lies d ⨾ suffixes_lie suffixes)

  call_lies : {toks : List Tok} {i j : ℕ} {e : Expr} → IsCall toks i j e → Blocks i j i j (occurrences_in_expression (syntax_of_expr e))
  call_lies (g.suffixed_call d suffixes) = by (ap occurrences_in_expression (eq.suffixed_syntax _ _ _ _)) (head_lies d ⨾ suffixes_lie suffixes)

  paren_lies : {toks : List Tok} {i j : ℕ} {e : Expr} → IsParen toks i j e → Blocks i j i j (occurrences_in_expression (syntax_of_expr e))
  paren_lies (g.paren t d u) = by (ap occurrences_in_expression (eq.paren_syntax _ _ _)) (skip t (end (expr_lies d) u))

  head_lies : {toks : List Tok} {i j : ℕ} {e : Expr} → IsHead toks i j e → Blocks i j i j (occurrences_in_expression (syntax_of_expr e))
  head_lies (g.name_head {i = i} t) = by (ap occurrences_in_expression (eq.name_syntax _ _)) (says (Reads i) refl refl t)
  head_lies (g.paren_head d) = paren_lies d

  suffixes_lie : {toks : List Tok} {calls : Bool} {i j : ℕ} {suffixes : List Suffix} → AreSuffixes toks calls i j suffixes → Blocks i j i j (occurrences_in_suffixes (suffixes_of (map syntax_of_suffix suffixes)))
  suffixes_lie (g.one_suffix d) = suffix_lies d ⨾ none
  suffixes_lie (g.more_suffixes d rest) = suffix_lies d ⨾ suffixes_lie rest

  suffix_lies : {toks : List Tok} {calls : Bool} {i j : ℕ} {s : Suffix} → IsSuffix toks calls i j s → Blocks i j i j (occurrences_in_suffix (syntax_of_suffix s))
  suffix_lies (g.dot_suffix {j = j} t u) = by (ap occurrences_in_suffix (eq.dot_syntax _)) (skip t (says (occurrence.Field j) refl refl u))
  suffix_lies (g.index_suffix t d u) = by (ap occurrences_in_suffix (eq.index_syntax _)) (skip t (end (expr_lies d) u))
  suffix_lies (g.call_suffix d) = by (ap occurrences_in_suffix (eq.call_suffix_syntax _)) (args_lie d)
  suffix_lies (g.method_suffix {j = j} t u d) = by (ap occurrences_in_suffix (eq.method_syntax _ _)) (skip t (says (occurrence.Field j) refl refl u ⨾ args_lie d))

  args_lie : {toks : List Tok} {i j : ℕ} {args : Args} → IsArgs toks i j args → Blocks i j i j (occurrences_in_arguments (syntax_of_args args))
  args_lie (g.no_args t u) = by (ap occurrences_in_arguments (eq.args_of_syntax _ _ _ _)) (skip t (lone u))
  args_lie (g.list_args t d u) = by (ap occurrences_in_arguments (eq.args_of_syntax _ _ _ _)) (skip t (end (exprs_lie d) u))
  args_lie (g.string_args d) = by (ap occurrences_in_arguments (eq.args_of_syntax _ _ _ _) ∙ ap (λ x. occurrences_in_expression x ++ []) (eq.string_syntax _ _)) (string_lone d)
  args_lie (g.table_args d) = by (ap occurrences_in_arguments (eq.args_of_syntax _ _ _ _) ∙ ap (λ x. occurrences_in_expression x ++ []) (eq.table_syntax _ _ _)) (table_lies d ⨾ none)

  exprs_lie : {toks : List Tok} {i j : ℕ} {es : List Expr} → AreExprs toks i j es → Blocks i j i j (occurrences_in_expressions (expressions_of (map syntax_of_expr es)))
  exprs_lie (g.one_expr d) = expr_lies d ⨾ none
  exprs_lie (g.more_exprs d t rest) = expr_lies d ⨾ skip t (exprs_lie rest)

  table_lies : {toks : List Tok} {i j : ℕ} {fields : List Field} → IsTable toks i j fields → Blocks i j i j (occurrences_in_fields (fields_of (map syntax_of_field fields)))
  table_lies (g.table t d u) = skip t (end (table_fields_lie d) u)

  table_fields_lie : {toks : List Tok} {i j : ℕ} {fields : List Field} → AreFields toks i j fields → Blocks i j i j (occurrences_in_fields (fields_of (map syntax_of_field fields)))
  table_fields_lie g.no_fields = none
  table_fields_lie (g.last_field d) = field_lies d ⨾ none
  table_fields_lie (g.more_fields d (inl t) rest) = field_lies d ⨾ skip t (table_fields_lie rest)
  table_fields_lie (g.more_fields d (inr t) rest) = field_lies d ⨾ skip t (table_fields_lie rest)

  field_lies : {toks : List Tok} {i j : ℕ} {f : Field} → IsField toks i j f → Blocks i j i j (occurrences_in_field (syntax_of_field f))
  field_lies (g.keyed_field t key u v value) = by (ap occurrences_in_field (eq.keyed_syntax _ _)) (skip t (expr_lies key) ⨾ skip u (skip v (expr_lies value)))
  field_lies (g.named_field {i = i} t u value) = by (ap occurrences_in_field (eq.named_syntax _ _)) (says (occurrence.Field i) refl refl t ⨾ skip u (expr_lies value))
  field_lies (g.item_field d) = by (ap occurrences_in_field (eq.item_syntax _)) (expr_lies d)

  body_lies : {toks : List Tok} {i j : ℕ} {f : FuncBody} → IsFuncBody toks i j f → Blocks i j i j (occurrences_in_body (syntax_of_body f))
  body_lies (g.func_body {body = body} t d u b v) = body_round body t d u v (block_lies b)

  pub block_lies : {toks : List Tok} {i j : ℕ} {b : Block} → IsBlock toks i j b → Blocks i j i j (occurrences_in_block (syntax_of_block b))
  block_lies (g.block {i = i} {j = j} {stats = stats} d) = by (ap occurrences_in_block (eq.block_of_syntax i j stats)) (stats_lie (record { span = from_to i j; end = j; until = false }) d (omega arith) (omega arith))

  repeated_lies : {toks : List Tok} {i j : ℕ} {b : Block} (e : ℕ) → IsBlock toks i j b → Blocks i j i j (occurrences_in_repeated e (syntax_of_block b))
  repeated_lies e (g.block {i = i} {j = j} {stats = stats} d) = by (ap (occurrences_in_repeated e) (eq.block_of_syntax i j stats)) (stats_lie (record { span = from_to i j; end = e; until = true }) d (omega arith) (omega arith))

  stats_lie : {toks : List Tok} {i j : ℕ} {stats : List Stat} (h : Holder) → AreStats toks i j stats → h.span.from ≤ i → j ≤ h.span.to → Blocks h.span.from h.span.to i j (occurrences_in_statements h (statements_of (map syntax_of_stat stats)))
  stats_lie {i = i} h g.no_stats low up = nothing h.span.from h.span.to i i low (omega arith) up
  stats_lie {i = i} {j = j} h (g.last_stat {s = s} d) low up =
      let stat = return_lies h true d low up in
      let on = stat.on in
      joins h.span.from h.span.to i j j (occurrences_in_statement h true (syntax_of_stat s)) [] stat (nothing h.span.from h.span.to j j (omega (arith, low, on)) (omega arith) up)
  stats_lie {i = i} {j = e} h (g.more_stats {j = m} {s = s} {stats = rest} d more) low up =
      let on = stat_on d in
      let above = stats_on more in
      joins h.span.from h.span.to i m e (occurrences_in_statement h (are_void (statements_of (map syntax_of_stat rest))) (syntax_of_stat s)) (occurrences_in_statements h (statements_of (map syntax_of_stat rest)))
      (stat_lies h (are_void (statements_of (map syntax_of_stat rest))) d low (omega (arith, above, up))) (stats_lie h more (omega (arith, low, on)) up)

  return_lies : {toks : List Tok} {i j : ℕ} {s : Stat} (h : Holder) (ended : Bool) → IsReturn toks i j s → h.span.from ≤ i → j ≤ h.span.to → Blocks h.span.from h.span.to i j (occurrences_in_statement h ended (syntax_of_stat s))
  return_lies h ended (g.return_nothing t s) low up = by (ap (occurrences_in_statement h ended) (eq.return_syntax _ _ _)) (in_block low up (longer (semicolon_on s) (lone t)))
  return_lies h ended (g.return_values t es s) low up = by (ap (occurrences_in_statement h ended) (eq.return_syntax _ _ _)) (in_block low up (longer (semicolon_on s) (skip t (exprs_lie es))))

  stat_lies : {toks : List Tok} {i j : ℕ} {s : Stat} (h : Holder) (ended : Bool) → IsStat toks i j s → h.span.from ≤ i → j ≤ h.span.to → Blocks h.span.from h.span.to i j (occurrences_in_statement h ended (syntax_of_stat s))
  stat_lies h ended (g.empty_stat t) low up = by (ap (occurrences_in_statement h ended) (eq.empty_syntax _ _)) (in_block low up (lone t))
  stat_lies h ended (g.local_stat {k = k} t d) low up = by (ap (occurrences_in_statement h ended) (eq.local_syntax _ _ _ _)) (in_block low up (skip t (declared_lie k h.end d ⨾ none)))
  stat_lies h ended (g.local_values_stat {o = o} t d u es) low up = by (ap (occurrences_in_statement h ended) (eq.local_syntax _ _ _ _)) (in_block low up (skip t (declared_lie o h.end d ⨾ skip u (exprs_lie es))))
  stat_lies h ended (g.assign_stat d t es) low up = by (ap (occurrences_in_statement h ended) (eq.assign_syntax _ _ _ _)) (in_block low up (targets_lie d ⨾ skip t (exprs_lie es)))
  stat_lies h ended (g.call_stat d _) low up = by (ap (occurrences_in_statement h ended) (eq.call_syntax _ _ _)) (in_block low up (call_lies d))
  stat_lies h ended (g.do_stat t d u) low up = by (ap (occurrences_in_statement h ended) (eq.do_syntax _ _ _)) (in_block low up (skip t (end (block_lies d) u)))
  stat_lies h ended (g.while_stat {body = body} t d u b v) low up = by (ap (occurrences_in_statement h ended) (eq.while_syntax _ _ _ _)) (in_block low up (skip t (expr_lies d ⨾ skip u (end (loop_round (span_of (syntax_of_block body)) (block_lies b)) v))))
  stat_lies h ended (g.repeat_stat {o = o} {body = body} t b u d) low up =
      by (ap (occurrences_in_statement h ended) (eq.repeat_syntax _ _ _ _)) (in_block low up (skip t (loop_round (span_of (syntax_of_block body)) (repeated_lies o b ⨾ skip u (expr_lies d)))))
  stat_lies h ended (g.if_stat t arms last u) low up = by (ap (occurrences_in_statement h ended) (eq.if_syntax _ _ _ _)) (in_block low up (skip t (end (arms_lie arms ⨾ else_lies last) u)))
  stat_lies h ended (g.for_stat {j = j} {body = body} t n a x c y z d b e) low up =
      let s : tokens.Span = span_of (syntax_of_block body) in
      by (ap (occurrences_in_statement h ended) (eq.for_syntax _ _ _ _ _ _ _))
      (in_block low up (skip t (end
      ((((says (LoopVariable j s.from s.to) refl refl n ⨾ skip a (expr_lies x)) ⨾ skip c (expr_lies y)) ⨾ step_lies z) ⨾ skip d (loop_round s (block_lies b))) e)))
  stat_lies h ended (g.for_in_stat {names = names} {body = body} t n a x d b e) low up =
      let s : tokens.Span = span_of (syntax_of_block body) in
      by (ap (occurrences_in_statement h ended) (eq.for_in_syntax _ _ _ _ _))
      (in_block low up (skip t (end
      ((names_lie (λ name. LoopVariable name s.from s.to) (λ _. refl) (λ _. refl) (names_on n) names ⨾ skip a (exprs_lie x)) ⨾ skip d (loop_round s (block_lies b))) e)))
  stat_lies h ended (g.function_stat {path = path} {method = method} {f = f} t p m d) low up =
      by (ap (occurrences_in_statement h ended) (eq.function_stat_syntax _ _ _ _ _))
      (in_block low up (skip t ((path_lies path method (path_on p) ⨾ method_lies (span_of (body_of (syntax_of_body f))) method (method_on m)) ⨾ body_lies d)))
  stat_lies h ended (g.local_function_stat {k = k} {f = f} t u n d) low up =
      by (ap (occurrences_in_statement h ended) (eq.local_function_syntax _ _ _ _))
      (in_block low up (skip t (skip u (says (LocalFunction k (span_of_body (syntax_of_body f)).from h.end) refl refl n ⨾ body_lies d))))
  stat_lies h ended (g.label_stat {i = i} {j = j} {l = l} t n u) low up =
      let a = t.next in let b = n.next in let c = u.next in
      by (ap (occurrences_in_statement h ended) (eq.label_syntax _ _ _)) (label_alone h.span.from h.span.to i l j (not h.until && ended) low (omega arith) (omega arith) up)
  stat_lies h ended (g.goto_stat {i = i} {j = j} t n) low up =
      let a = t.next in let b = n.next in
      by (ap (occurrences_in_statement h ended) (eq.goto_syntax _ _ _)) (in_block low up (alone (Goto i j) refl refl (omega arith)))
  stat_lies h ended (g.break_stat {i = i} t) low up = by (ap (occurrences_in_statement h ended) (eq.break_syntax _ _)) (in_block low up (says (Break i) refl refl t))

  targets_lie : {toks : List Tok} {i j : ℕ} {es : List Expr} → AreTargets toks i j es → Blocks i j i j (occurrences_in_targets (expressions_of (map syntax_of_expr es)))
  targets_lie (g.one_target d) = target_lies d ⨾ none
  targets_lie (g.more_targets d t rest) = target_lies d ⨾ skip t (targets_lie rest)

  target_lies : {toks : List Tok} {i j : ℕ} {e : Expr} → IsVariable toks i j e → Blocks i j i j (target_of (syntax_of_expr e) (occurrences_in_expression (syntax_of_expr e)))
  target_lies (g.name_variable {i = i} t) = by (ap (λ x. target_of x (occurrences_in_expression x)) (eq.name_syntax _ _)) (says (Assigns i) refl refl t)
  target_lies (g.suffixed_variable d suffixes) = by (ap (λ x. target_of x (occurrences_in_expression x)) (eq.suffixed_syntax _ _ _ _)) (head_lies d ⨾ suffixes_lie suffixes)

  arms_lie : {toks : List Tok} {i j : ℕ} {arms : List Arm} → AreArms toks i j arms → Blocks i j i j (occurrences_in_arms (arms_of (map syntax_of_arm arms)))
  arms_lie (g.one_arm d) = arm_lies d ⨾ none
  arms_lie (g.more_arms d t rest) = arm_lies d ⨾ skip t (arms_lie rest)

  arm_lies : {toks : List Tok} {i j : ℕ} {a : Arm} → IsArm toks i j a → Blocks i j i j (occurrences_in_arm (syntax_of_arm a))
  arm_lies (g.arm d t b) = by (ap occurrences_in_arm (eq.arm_of_syntax _ _)) (expr_lies d ⨾ skip t (block_lies b))

  else_lies : {toks : List Tok} {i j : ℕ} {last : Option Block} → IsElse toks i j last → Blocks i j i j (occurrences_in_optional_block (optional_block_of (option_map syntax_of_block last)))
  else_lies g.no_else = none
  else_lies (g.an_else t b) = skip t (block_lies b)

  step_lies : {toks : List Tok} {i j : ℕ} {step : Option Expr} → IsForStep toks i j step → Blocks i j i j (occurrences_in_optional_expression (optional_expression_of (option_map syntax_of_expr step)))
  step_lies g.no_for_step = none
  step_lies (g.a_for_step t d) = skip t (expr_lies d)
