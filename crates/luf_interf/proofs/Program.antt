-- Two maps of words that agree on what a chunk says, and on its literals and operators, give one bare program; and what
-- stands at the tokens of all that it says. By the grammar.
use Rattle.std.proofs.Common.{◌≡◌, ℕ, ◌<◌, inl, inr, Bool, true, false, Option, Some, List, [], ◌∷◌, map, refl, sym, ap, subst, ◌∙◌}
use Rattle.std.specs.Option.{option_map}
use Rattle.luf_lex.specs.declared.token.Tok.{Tok}
use Rattle.luf_tree.specs.declared.tree.Block.{Block}
use Rattle.luf_tree.specs.declared.tree.Stat.{Stat}
use Rattle.luf_tree.specs.declared.tree.Arm.{Arm}
use Rattle.luf_tree.specs.declared.tree.FuncBody.{FuncBody}
use Rattle.luf_tree.specs.declared.tree.Expr.{Expr}
use Rattle.luf_tree.specs.declared.tree.ExprKind.TheVariants as expr
use Rattle.luf_tree.specs.declared.tree.Step.{Step}
use Rattle.luf_tree.specs.declared.tree.Suffix.{Suffix}
use Rattle.luf_tree.specs.declared.tree.Args.{Args}
use Rattle.luf_tree.specs.declared.tree.Field.{Field}
use Rattle.luf_tree.specs.Grammar as grammar
use Rattle.luf_tree.specs.Grammar.{At, IsToken, IsString, expression, IsExpr, AreSteps, IsOperand, IsSimple, IsPrefix, IsVariable, IsCall, IsParen, IsHead, AreSuffixes, IsSuffix, IsArgs, AreExprs, IsTable, AreFields, IsField, IsFuncBody, IsBlock, AreStats, IsReturn, IsStat, AreTargets, IsArm, AreArms, IsElse, IsForStep}
use Rattle.luf_tree.specs.Syntax as syntax
use Rattle.luf_tree.specs.TokenSyntax as tokens
use Rattle.luf_tree.specs.TokenSyntax.{from_to}
use Rattle.luf_tree.specs.SyntaxOf.{expressions_of, operations_of, suffixes_of, fields_of, statements_of, arms_of, optional_expression_of, optional_block_of, syntax_of_expr, syntax_of_block, syntax_of_stat, syntax_of_field, syntax_of_suffix, syntax_of_step, syntax_of_arm, syntax_of_args, syntax_of_body}
use Rattle.luf_tree.specs.SyntaxMap.{ShapeMap}
use Rattle.luf_bare.specs.Bare.{before, bare_expression, bare_optional_expression, bare_expressions, bare_operations, bare_suffix, bare_suffixes, bare_arguments, bare_field, bare_fields, bare_statement, bare_statements, bare_arm, bare_arms, bare_block, bare_optional_block, bare_function_body}
use Rattle.luf_tree.proofs.SyntaxEquations.{nil_syntax, true_syntax, false_syntax, number_syntax, string_syntax, vararg_syntax, name_syntax, paren_syntax, function_syntax, table_syntax, unary_syntax, chain_syntax, power_syntax, suffixed_syntax, empty_syntax, local_syntax, assign_syntax, call_syntax, do_syntax, while_syntax, repeat_syntax, if_syntax, for_syntax, for_in_syntax, function_stat_syntax, local_function_syntax, label_syntax, goto_syntax, break_syntax, return_syntax, item_syntax, named_syntax, keyed_syntax, dot_syntax, index_syntax, call_suffix_syntax, method_syntax, step_of_syntax, arm_of_syntax, args_of_syntax, block_of_syntax, body_of_syntax}
use Rattle.luf_scope.specs.Occurrences.{Holder, span_of, body_of, are_void, target_of, occurrences_in_expression, occurrences_in_optional_expression, occurrences_in_expressions, occurrences_in_targets, occurrences_in_operations, occurrences_in_suffix, occurrences_in_suffixes, occurrences_in_arguments, occurrences_in_field, occurrences_in_fields, occurrences_in_statement, occurrences_in_statements, occurrences_in_arm, occurrences_in_arms, occurrences_in_block, occurrences_in_repeated, occurrences_in_optional_block, occurrences_in_body}
use Rattle.luf_interf.proofs.Says.{is_word, unary_sign, binary_sign, Says, none, nothing, to, ◌⨾◌, first, loop_names, parameters, declared_names, path, method}

module _ (toks : List Tok) {M : syntax.Shape} (f g : ShapeMap tokens.Tokens M) (spans : (s : tokens.Span) → f.span s ≡ g.span s) (literals : (i : ℕ) (t : Tok) → At toks i t → is_word t ≡ false → f.leaf i ≡ g.leaf i) where
  string_leaf : {i j : ℕ} → IsString toks i j → f.leaf i ≡ g.leaf i
  string_leaf {i} (inl t) = literals i _ t.there refl
  string_leaf {i} (inr t) = literals i _ t.there refl

  abbrev ExpressionSays : tokens.Expression → Type 0
  ExpressionSays s = Says toks f g (occurrences_in_expression s) (bare_expression f s ≡ bare_expression g s)

  abbrev OperationsSays : tokens.Operations → Type 0
  OperationsSays s = Says toks f g (occurrences_in_operations s) (bare_operations f s ≡ bare_operations g s)

  abbrev SuffixSays : tokens.Suffix → Type 0
  SuffixSays s = Says toks f g (occurrences_in_suffix s) (bare_suffix f s ≡ bare_suffix g s)

  abbrev SuffixesSays : tokens.Suffixes → Type 0
  SuffixesSays s = Says toks f g (occurrences_in_suffixes s) (bare_suffixes f s ≡ bare_suffixes g s)

  abbrev ArgumentsSays : tokens.Arguments → Type 0
  ArgumentsSays s = Says toks f g (occurrences_in_arguments s) (bare_arguments f s ≡ bare_arguments g s)

  abbrev ExpressionsSays : tokens.Expressions → Type 0
  ExpressionsSays s = Says toks f g (occurrences_in_expressions s) (bare_expressions f s ≡ bare_expressions g s)

  abbrev TargetsSays : tokens.Expressions → Type 0
  TargetsSays s = Says toks f g (occurrences_in_targets s) (bare_expressions f s ≡ bare_expressions g s)

  abbrev FieldSays : tokens.Field → Type 0
  FieldSays s = Says toks f g (occurrences_in_field s) (bare_field f s ≡ bare_field g s)

  abbrev FieldsSays : tokens.Fields → Type 0
  FieldsSays s = Says toks f g (occurrences_in_fields s) (bare_fields f s ≡ bare_fields g s)

  abbrev BodySays : tokens.FunctionBody → Type 0
  BodySays s = Says toks f g (occurrences_in_body s) (bare_function_body f s ≡ bare_function_body g s)

  abbrev ArmSays : tokens.Arm → Type 0
  ArmSays s = Says toks f g (occurrences_in_arm s) (bare_arm f s ≡ bare_arm g s)

  abbrev ArmsSays : tokens.Arms → Type 0
  ArmsSays s = Says toks f g (occurrences_in_arms s) (bare_arms f s ≡ bare_arms g s)

  abbrev ElseSays : tokens.OptionalBlock → Type 0
  ElseSays s = Says toks f g (occurrences_in_optional_block s) (bare_optional_block f s ≡ bare_optional_block g s)

  abbrev StepSays : tokens.OptionalExpression → Type 0
  StepSays s = Says toks f g (occurrences_in_optional_expression s) (bare_optional_expression f s ≡ bare_optional_expression g s)

  abbrev TargetSays : tokens.Expression → Type 0
  TargetSays s = Says toks f g (target_of s (occurrences_in_expression s)) (bare_expression f s ≡ bare_expression g s)

  -- of a block whose names are active up to its end, and of that of `repeat`
  abbrev BlockSays : tokens.Block → Type 0
  BlockSays s = Says toks f g (occurrences_in_block s) (bare_block f s ≡ bare_block g s) × ((end : ℕ) → Says toks f g (occurrences_in_repeated end s) (bare_block f s ≡ bare_block g s))

  abbrev StatementSays : tokens.Statement → Type 0
  StatementSays s = (holder : Holder) (ended : Bool) → Says toks f g (occurrences_in_statement holder ended s) (bare_statement f s ≡ bare_statement g s)

  abbrev StatementsSays : tokens.Statements → Type 0
  StatementsSays s = (holder : Holder) → Says toks f g (occurrences_in_statements holder s) (bare_statements f s ≡ bare_statements g s)

  mutual
    expr_says : {m i k : ℕ} {x : Expr} → IsExpr toks m i k x → ExpressionSays (syntax_of_expr x)
    expr_says (grammar.operand_expr d) = operand_says d
    expr_says (grammar.chain_expr {i} {k} {first = head} {rest} some _ d d_rest) = subst ExpressionSays (sym (chain_syntax i k head rest)) (to (expr_says d ⨾ steps_say d_rest some) (λ c j. syntax.chain (spans (from_to i k) j) (c.0 j) (c.1 j)))

    steps_say : {m i k : ℕ} {x : List Step} → AreSteps toks m i k x → 0 < m → OperationsSays (operations_of (map syntax_of_step x))
    steps_say (grammar.one_step {m} {i} {tok} {e} t p d) some = subst (λ z. OperationsSays (syntax.more_operations z syntax.no_operations)) (sym (step_of_syntax i e)) (to (expr_says d ⨾ nothing) (λ c j. syntax.more_operations (syntax.operation (literals i tok t.there (binary_sign tok m p some) j) (c.0 j)) syntax.no_operations))
    steps_say (grammar.more_steps {m} {i} {tok} {e} {rest} t p d d_rest) some = subst (λ z. OperationsSays (syntax.more_operations z (operations_of (map syntax_of_step rest)))) (sym (step_of_syntax i e)) (to (expr_says d ⨾ steps_say d_rest some) (λ c j. syntax.more_operations (syntax.operation (literals i tok t.there (binary_sign tok m p some) j) (c.0 j)) (c.1 j)))

    operand_says : {i k : ℕ} {x : Expr} → IsOperand toks i k x → ExpressionSays (syntax_of_expr x)
    operand_says (grammar.unary_operand {i} {k} {tok} {e} t p d) = subst ExpressionSays (sym (unary_syntax i k e)) (to (operand_says d) (λ c j. syntax.unary (spans (from_to i k) j) (literals i tok t.there (unary_sign tok p) j) (c j)))
    operand_says (grammar.power_operand {i} {j} {l} {base} {exponent} d t d_exponent) = subst ExpressionSays (sym (power_syntax i l base j exponent)) (to (simple_says d ⨾ operand_says d_exponent) (λ c n. syntax.power (spans (from_to i l) n) (c.0 n) (literals j _ t.there refl n) (c.1 n)))
    operand_says (grammar.simple_operand d) = simple_says d

    simple_says : {i k : ℕ} {x : Expr} → IsSimple toks i k x → ExpressionSays (syntax_of_expr x)
    simple_says (grammar.nil_simple {i} {j} t) = subst ExpressionSays (sym (nil_syntax i j)) (none (λ n. syntax.nil_value (spans (from_to i j) n)))
    simple_says (grammar.true_simple {i} {j} t) = subst ExpressionSays (sym (true_syntax i j)) (none (λ n. syntax.true_value (spans (from_to i j) n)))
    simple_says (grammar.false_simple {i} {j} t) = subst ExpressionSays (sym (false_syntax i j)) (none (λ n. syntax.false_value (spans (from_to i j) n)))
    simple_says (grammar.vararg_simple {i} {j} t) = subst ExpressionSays (sym (vararg_syntax i j)) (to (first tt nothing) (λ c n. syntax.varargs (spans (from_to i j) n)))
    simple_says (grammar.number_simple {i} {j} t) = subst ExpressionSays (sym (number_syntax i j)) (none (λ n. syntax.numeral (spans (from_to i j) n) (literals i _ t.there refl n)))
    simple_says (grammar.string_simple {i} {j} t) = subst ExpressionSays (sym (string_syntax i j)) (none (λ n. syntax.string (spans (from_to i j) n) (string_leaf t n)))
    simple_says (grammar.function_simple {i} {k} {f = body} t d) = subst ExpressionSays (sym (function_syntax i k body)) (to (body_says d) (λ c n. syntax.function (spans (from_to i k) n) (c n)))
    simple_says (grammar.table_simple {i} {j} {fields} d) = subst ExpressionSays (sym (table_syntax i j fields)) (table_says d)
    simple_says (grammar.prefix_simple d _) = prefix_says d

    prefix_says : {i k : ℕ} {x : Expr} → IsPrefix toks i k x → ExpressionSays (syntax_of_expr x)
    prefix_says (grammar.variable_prefix d) = variable_says d
    prefix_says (grammar.call_prefix d) = call_says d
    prefix_says (grammar.paren_prefix d) = paren_says d

    variable_says : {i k : ℕ} {x : Expr} → IsVariable toks i k x → ExpressionSays (syntax_of_expr x)
    variable_says (grammar.name_variable {i} {j} t) = subst ExpressionSays (sym (name_syntax i j)) (to (first t.there nothing) (λ c n. syntax.variable (spans (from_to i j) n) (c.0 n)))
    variable_says (grammar.suffixed_variable {i} {k} {head} {suffixes} d d_suffixes) = subst ExpressionSays (sym (suffixed_syntax i k head suffixes)) (to (head_says d ⨾ suffixes_say d_suffixes) (λ c n. syntax.suffixed (spans (from_to i k) n) (c.0 n) (c.1 n)))

    target_says : {i k : ℕ} {x : Expr} → IsVariable toks i k x → TargetSays (syntax_of_expr x)
    target_says (grammar.name_variable {i} {j} t) = subst TargetSays (sym (name_syntax i j)) (to (first t.there nothing) (λ c n. syntax.variable (spans (from_to i j) n) (c.0 n)))
    target_says (grammar.suffixed_variable {i} {k} {head} {suffixes} d d_suffixes) = subst TargetSays (sym (suffixed_syntax i k head suffixes)) (to (head_says d ⨾ suffixes_say d_suffixes) (λ c n. syntax.suffixed (spans (from_to i k) n) (c.0 n) (c.1 n)))

    call_says : {i k : ℕ} {x : Expr} → IsCall toks i k x → ExpressionSays (syntax_of_expr x)
    call_says (grammar.suffixed_call {i} {k} {head} {suffixes} d d_suffixes) = subst ExpressionSays (sym (suffixed_syntax i k head suffixes)) (to (head_says d ⨾ suffixes_say d_suffixes) (λ c n. syntax.suffixed (spans (from_to i k) n) (c.0 n) (c.1 n)))

    paren_says : {i k : ℕ} {x : Expr} → IsParen toks i k x → ExpressionSays (syntax_of_expr x)
    paren_says (grammar.paren {i} {l} {e} _ d _) = subst ExpressionSays (sym (paren_syntax i l e)) (to (expr_says d) (λ c n. syntax.parenthesised (spans (from_to i l) n) (c n)))

    head_says : {i k : ℕ} {x : Expr} → IsHead toks i k x → ExpressionSays (syntax_of_expr x)
    head_says (grammar.name_head {i} {j} t) = subst ExpressionSays (sym (name_syntax i j)) (to (first t.there nothing) (λ c n. syntax.variable (spans (from_to i j) n) (c.0 n)))
    head_says (grammar.paren_head d) = paren_says d

    suffixes_say : {calls : Bool} {i k : ℕ} {x : List Suffix} → AreSuffixes toks calls i k x → SuffixesSays (suffixes_of (map syntax_of_suffix x))
    suffixes_say (grammar.one_suffix d) = to (suffix_says d ⨾ nothing) (λ c n. syntax.more_suffixes (c.0 n) syntax.no_suffixes)
    suffixes_say (grammar.more_suffixes d d_rest) = to (suffix_says d ⨾ suffixes_say d_rest) (λ c n. syntax.more_suffixes (c.0 n) (c.1 n))

    suffix_says : {calls : Bool} {i k : ℕ} {x : Suffix} → IsSuffix toks calls i k x → SuffixSays (syntax_of_suffix x)
    suffix_says (grammar.dot_suffix {j} _ t) = subst SuffixSays (sym (dot_syntax j)) (to (first t.there nothing) (λ c n. syntax.name_suffix (c.0 n)))
    suffix_says (grammar.index_suffix {e} _ d _) = subst SuffixSays (sym (index_syntax e)) (to (expr_says d) (λ c n. syntax.index_suffix (c n)))
    suffix_says (grammar.call_suffix {args} d) = subst SuffixSays (sym (call_suffix_syntax args)) (to (args_say d) (λ c n. syntax.call_suffix (c n)))
    suffix_says (grammar.method_suffix {j} {args} _ t d) = subst SuffixSays (sym (method_syntax j args)) (to (first t.there (args_say d)) (λ c n. syntax.method_suffix (c.0 n) (c.1 n)))

    args_say : {i k : ℕ} {x : Args} → IsArgs toks i k x → ArgumentsSays (syntax_of_args x)
    args_say (grammar.no_args {i} {k} _ _) = subst ArgumentsSays (sym (args_of_syntax i k true [])) (none (λ n. syntax.arguments (spans (from_to i k) n) true syntax.no_expressions))
    args_say (grammar.list_args {i} {l} {es} _ d _) = subst ArgumentsSays (sym (args_of_syntax i l true es)) (to (exprs_say d) (λ c n. syntax.arguments (spans (from_to i l) n) true (c n)))
    args_say (grammar.string_args {i} {j} t) = subst ArgumentsSays (sym (args_of_syntax i j false (expression i j expr.Str ∷ []) ∙ ap (λ z. syntax.arguments (from_to i j) false (syntax.more_expressions z syntax.no_expressions)) (string_syntax i j))) (none (λ n. syntax.arguments (spans (from_to i j) n) true (syntax.more_expressions (syntax.string (spans (from_to i j) n) (string_leaf t n)) syntax.no_expressions)))
    args_say (grammar.table_args {i} {j} {fields} d) = subst ArgumentsSays (sym (args_of_syntax i j false (expression i j (expr.Table fields) ∷ []) ∙ ap (λ z. syntax.arguments (from_to i j) false (syntax.more_expressions z syntax.no_expressions)) (table_syntax i j fields))) (to (table_says d ⨾ nothing) (λ c n. syntax.arguments (spans (from_to i j) n) true (syntax.more_expressions (c.0 n) syntax.no_expressions)))

    exprs_say : {i k : ℕ} {x : List Expr} → AreExprs toks i k x → ExpressionsSays (expressions_of (map syntax_of_expr x))
    exprs_say (grammar.one_expr d) = to (expr_says d ⨾ nothing) (λ c n. syntax.more_expressions (c.0 n) syntax.no_expressions)
    exprs_say (grammar.more_exprs d _ d_rest) = to (expr_says d ⨾ exprs_say d_rest) (λ c n. syntax.more_expressions (c.0 n) (c.1 n))

    table_says : {i k : ℕ} {x : List Field} → IsTable toks i k x → ExpressionSays (syntax.table (from_to i k) (fields_of (map syntax_of_field x)))
    table_says (grammar.table {i} {l} _ d _) = to (fields_say d) (λ c n. syntax.table (spans (from_to i l) n) (c n))

    fields_say : {i k : ℕ} {x : List Field} → AreFields toks i k x → FieldsSays (fields_of (map syntax_of_field x))
    fields_say grammar.no_fields = none refl
    fields_say (grammar.last_field d) = to (field_says d ⨾ nothing) (λ c n. syntax.more_fields (c.0 n) syntax.no_fields)
    fields_say (grammar.more_fields d _ d_rest) = to (field_says d ⨾ fields_say d_rest) (λ c n. syntax.more_fields (c.0 n) (c.1 n))

    field_says : {i k : ℕ} {x : Field} → IsField toks i k x → FieldSays (syntax_of_field x)
    field_says (grammar.keyed_field {key} {value} _ d_key _ _ d) = subst FieldSays (sym (keyed_syntax key value)) (to (expr_says d_key ⨾ expr_says d) (λ c n. syntax.keyed_field (c.0 n) (c.1 n)))
    field_says (grammar.named_field {i} {value} t _ d) = subst FieldSays (sym (named_syntax i value)) (to (first t.there (expr_says d)) (λ c n. syntax.named_field (c.0 n) (c.1 n)))
    field_says (grammar.item_field {e} d) = subst FieldSays (sym (item_syntax e)) (to (expr_says d) (λ c n. syntax.item_field (c n)))

    body_says : {i k : ℕ} {x : FuncBody} → IsFuncBody toks i k x → BodySays (syntax_of_body x)
    body_says (grammar.func_body {i} {p} {params} {vararg} {body} _ d_params _ d _) = subst BodySays (sym (body_of_syntax i p params vararg body))
        (to (first tt (parameters d_params (span_of (syntax_of_block body)) ⨾ (block_says d).0)) (λ c n. syntax.function_body (spans (from_to i p) n) (c.1.0 n) vararg (c.1.1 n)))

    pub block_says : {i k : ℕ} {x : Block} → IsBlock toks i k x → BlockSays (syntax_of_block x)
    block_says (grammar.block {i} {j} {stats} d) = subst BlockSays (sym (block_of_syntax i j stats)) (
      to (stats_say d (record { span = from_to i j; end = j; until = false })) (λ c n. syntax.block (spans (from_to i j) n) (c n)),
      λ end. to (stats_say d (record { span = from_to i j; end = end; until = true })) (λ c n. syntax.block (spans (from_to i j) n) (c n)),
    )

    stats_say : {i k : ℕ} {x : List Stat} → AreStats toks i k x → StatementsSays (statements_of (map syntax_of_stat x))
    stats_say grammar.no_stats = λ holder. none refl
    stats_say (grammar.last_stat {s} d) = λ holder. to (return_says d holder true ⨾ nothing) (λ c n. before (c.0 n) syntax.no_statements)
    stats_say (grammar.more_stats {s} {stats} d d_rest) = λ holder. to (stat_says d holder (are_void (statements_of (map syntax_of_stat stats))) ⨾ stats_say d_rest holder) (λ c n. before (c.0 n) (c.1 n))

    return_says : {i k : ℕ} {x : Stat} → IsReturn toks i k x → StatementSays (syntax_of_stat x)
    return_says (grammar.return_nothing {i} {k} _ _) = subst StatementSays (sym (return_syntax i k [])) (λ holder ended. none (λ n. Some (syntax.return_statement (spans (from_to i k) n) syntax.no_expressions)))
    return_says (grammar.return_values {i} {l} {es} _ d _) = subst StatementSays (sym (return_syntax i l es)) (λ holder ended. to (exprs_say d) (λ c n. Some (syntax.return_statement (spans (from_to i l) n) (c n))))

    stat_says : {i k : ℕ} {x : Stat} → IsStat toks i k x → StatementSays (syntax_of_stat x)
    stat_says (grammar.local_stat {i} {k} {declared} _ d) = subst StatementSays (sym (local_syntax i k declared [])) (λ holder ended. to (declared_names d k holder.end ⨾ nothing) (λ c n. Some (syntax.local_statement (spans (from_to i k) n) (c.0 n) syntax.no_expressions)))
    stat_says (grammar.local_values_stat {i} {o} {declared} {es} _ d _ d_es) = subst StatementSays (sym (local_syntax i o declared es)) (λ holder ended. to (declared_names d o holder.end ⨾ exprs_say d_es) (λ c n. Some (syntax.local_statement (spans (from_to i o) n) (c.0 n) (c.1 n))))
    stat_says (grammar.assign_stat {i} {l} {targets} {es} d _ d_es) = subst StatementSays (sym (assign_syntax i l targets es)) (λ holder ended. to (targets_say d ⨾ exprs_say d_es) (λ c n. Some (syntax.assignment (spans (from_to i l) n) (c.0 n) (c.1 n))))
    stat_says (grammar.call_stat {i} {j} {e} d _) = subst StatementSays (sym (call_syntax i j e)) (λ holder ended. to (call_says d) (λ c n. Some (syntax.call_statement (spans (from_to i j) n) (c n))))
    stat_says (grammar.do_stat {i} {l} {body} _ d _) = subst StatementSays (sym (do_syntax i l body)) (λ holder ended. to (block_says d).0 (λ c n. Some (syntax.do_statement (spans (from_to i l) n) (c n))))
    stat_says (grammar.while_stat {i} {p} {e} {body} _ d_e _ d _) = subst StatementSays (sym (while_syntax i p e body)) (λ holder ended. to (expr_says d_e ⨾ first tt (block_says d).0) (λ c n. Some (syntax.while_statement (spans (from_to i p) n) (c.0 n) (c.1.1 n))))
    stat_says (grammar.repeat_stat {i} {o} {body} {e} _ d _ d_e) = subst StatementSays (sym (repeat_syntax i o body e)) (λ holder ended. to (first tt ((block_says d).1 o) ⨾ expr_says d_e) (λ c n. Some (syntax.repeat_statement (spans (from_to i o) n) (c.0.1 n) (c.1 n))))
    stat_says (grammar.if_stat {i} {o} {arms} {last} _ d d_other _) = subst StatementSays (sym (if_syntax i o arms last)) (λ holder ended. to (arms_say d ⨾ else_says d_other) (λ c n. Some (syntax.if_statement (spans (from_to i o) n) (c.0 n) (c.1 n))))
    stat_says (grammar.for_stat {i} {j} {s} {first = low} {limit} {step} {body} _ t _ d_low _ d_limit d_step _ d _) = subst StatementSays (sym (for_syntax i s j low limit step body))
        (λ holder ended. to ((((first t.there nothing ⨾ expr_says d_low) ⨾ expr_says d_limit) ⨾ for_step_says d_step) ⨾ first tt (block_says d).0)
        (λ c n. Some (syntax.for_statement (spans (from_to i s) n) (c.0.0.0.0.0 n) (c.0.0.0.1 n) (c.0.0.1 n) (c.0.1 n) (c.1.1 n))))
    stat_says (grammar.for_in_stat {i} {r} {names} {es} {body} _ d_names _ d_es _ d _) = subst StatementSays (sym (for_in_syntax i r names es body))
        (λ holder ended. to ((loop_names d_names (span_of (syntax_of_block body)) ⨾ exprs_say d_es) ⨾ first tt (block_says d).0) (λ c n. Some (syntax.for_in_statement (spans (from_to i r) n) (c.0.0 n) (c.0.1 n) (c.1.1 n))))
    stat_says (grammar.function_stat {i} {o} {path = names} {method = own} {f = body} _ d_path d_method d) = subst StatementSays (sym (function_stat_syntax i o names own body))
        (λ holder ended. to ((path own d_path ⨾ method d_method (span_of (body_of (syntax_of_body body)))) ⨾ body_says d) (λ c n. Some (syntax.function_statement (spans (from_to i o) n) (c.0.0.0 n) (c.0.0.1 n) (c.0.1 n) (c.1 n))))
    stat_says (grammar.local_function_stat {i} {k} {o} {f = body} _ _ t d) = subst StatementSays (sym (local_function_syntax i o k body)) (λ holder ended. to (first t.there (body_says d)) (λ c n. Some (syntax.local_function_statement (spans (from_to i o) n) (c.0 n) (c.1 n))))
    stat_says (grammar.label_stat {i} {j} {l} _ t _) = subst StatementSays (sym (label_syntax i l j)) (λ holder ended. to (first t.there nothing) (λ c n. Some (syntax.label (spans (from_to i l) n) (c.0 n))))
    stat_says (grammar.goto_stat {i} {j} {k} _ t) = subst StatementSays (sym (goto_syntax i k j)) (λ holder ended. to (first t.there nothing) (λ c n. Some (syntax.goto_statement (spans (from_to i k) n) (c.0 n))))
    stat_says (grammar.break_stat {i} {j} _) = subst StatementSays (sym (break_syntax i j)) (λ holder ended. to (first tt nothing) (λ c n. Some (syntax.break_statement (spans (from_to i j) n))))
    stat_says (grammar.empty_stat {i} {j} _) = subst StatementSays (sym (empty_syntax i j)) (λ holder ended. none refl)

    targets_say : {i k : ℕ} {x : List Expr} → AreTargets toks i k x → TargetsSays (expressions_of (map syntax_of_expr x))
    targets_say (grammar.one_target d) = to (target_says d ⨾ nothing) (λ c n. syntax.more_expressions (c.0 n) syntax.no_expressions)
    targets_say (grammar.more_targets d _ d_rest) = to (target_says d ⨾ targets_say d_rest) (λ c n. syntax.more_expressions (c.0 n) (c.1 n))

    arm_says : {i k : ℕ} {x : Arm} → IsArm toks i k x → ArmSays (syntax_of_arm x)
    arm_says (grammar.arm {e} {body} d_e _ d) = subst ArmSays (sym (arm_of_syntax e body)) (to (expr_says d_e ⨾ (block_says d).0) (λ c n. syntax.arm (c.0 n) (c.1 n)))

    arms_say : {i k : ℕ} {x : List Arm} → AreArms toks i k x → ArmsSays (arms_of (map syntax_of_arm x))
    arms_say (grammar.one_arm d) = to (arm_says d ⨾ nothing) (λ c n. syntax.more_arms (c.0 n) syntax.no_arms)
    arms_say (grammar.more_arms d _ d_rest) = to (arm_says d ⨾ arms_say d_rest) (λ c n. syntax.more_arms (c.0 n) (c.1 n))

    else_says : {i k : ℕ} {x : Option Block} → IsElse toks i k x → ElseSays (optional_block_of (option_map syntax_of_block x))
    else_says grammar.no_else = none refl
    else_says (grammar.an_else _ d) = to (block_says d).0 (λ c n. syntax.a_block (c n))

    for_step_says : {i k : ℕ} {x : Option Expr} → IsForStep toks i k x → StepSays (optional_expression_of (option_map syntax_of_expr x))
    for_step_says grammar.no_for_step = none refl
    for_step_says (grammar.a_for_step _ d) = to (expr_says d) (λ c n. syntax.an_expression (c n))
