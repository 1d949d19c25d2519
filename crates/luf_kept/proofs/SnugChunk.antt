-- The program of a chunk is drafted: by recursion over its derivation, for the grammar leaves no list empty that a form needs.
use Rattle.std.proofs.Common.{ℕ, Bool, true, false, Option, Some, None, List, [], ◌∷◌, map, ap, sym, subst}
use Rattle.std.specs.Option.{option_map}
use Rattle.luf_lex.specs.declared.token.Tok.{Tok}
use Rattle.luf_tree.specs.declared.tree.Chunk.{Chunk}
use Rattle.luf_tree.specs.declared.tree.Block.{Block}
use Rattle.luf_tree.specs.declared.tree.Stat.{Stat}
use Rattle.luf_tree.specs.declared.tree.Declared.{Declared}
use Rattle.luf_tree.specs.declared.tree.Arm.{Arm}
use Rattle.luf_tree.specs.declared.tree.FuncBody.{FuncBody}
use Rattle.luf_tree.specs.declared.tree.Expr.{Expr}
use Rattle.luf_tree.specs.declared.tree.ExprKind.TheVariants as expr
use Rattle.luf_tree.specs.declared.tree.Step.{Step}
use Rattle.luf_tree.specs.declared.tree.Suffix.{Suffix}
use Rattle.luf_tree.specs.declared.tree.Args.{Args}
use Rattle.luf_tree.specs.declared.tree.Field.{Field}
use Rattle.luf_tree.specs.Grammar as g
use Rattle.luf_tree.specs.Grammar.{expression, AreNames, AreDeclared, IsPath, IsExpr, AreSteps, IsOperand, IsSimple, IsPrefix, IsVariable, IsCall, IsParen, IsHead, AreSuffixes, IsSuffix, IsArgs, AreExprs, IsTable, AreFields, IsField, IsFuncBody, IsBlock, AreStats, IsReturn, IsStat, AreTargets, IsArm, AreArms, IsElse, IsForStep, IsChunk}
use Rattle.luf_tree.specs.Syntax as syntax
use Rattle.luf_tree.specs.TokenSyntax as tokens
use Rattle.luf_tree.specs.TokenSyntax.{from_to}
use Rattle.luf_tree.specs.SyntaxOf.{expressions_of, operations_of, suffixes_of, fields_of, statements_of, arms_of, optional_expression_of, optional_block_of, declared_of, first_of_path, syntax_of_expr, syntax_of_block, syntax_of_stat, syntax_of_field, syntax_of_suffix, syntax_of_step, syntax_of_arm, syntax_of_args, syntax_of_body}
use Rattle.luf_bare.specs.Bare.{words_of, as_here, before, chosen_declared, chosen_expression, chosen_optional_expression, chosen_expressions, chosen_operations, chosen_suffix, chosen_suffixes, chosen_arguments, chosen_field, chosen_fields, chosen_statement, chosen_statements, chosen_arm, chosen_arms, chosen_block, chosen_optional_block, chosen_function_body}
use Rattle.luf_draft.specs.Form.{Words, main, written_program}
use Rattle.luf_draft.proofs.FlatLists.{says}
use Rattle.luf_tree.proofs.SyntaxEquations.{nil_syntax, true_syntax, false_syntax, number_syntax, string_syntax, vararg_syntax, name_syntax, paren_syntax, function_syntax, table_syntax, unary_syntax, chain_syntax, power_syntax, suffixed_syntax, empty_syntax, local_syntax, assign_syntax, call_syntax, do_syntax, while_syntax, repeat_syntax, if_syntax, for_syntax, for_in_syntax, function_stat_syntax, local_function_syntax, label_syntax, goto_syntax, break_syntax, return_syntax, item_syntax, named_syntax, keyed_syntax, dot_syntax, index_syntax, call_suffix_syntax, method_syntax, step_of_syntax, arm_of_syntax, args_of_syntax, block_of_syntax, body_of_syntax}
use Rattle.luf_kept.specs.inner.Steps.{begun, free, Steps}
use Rattle.luf_kept.proofs.SnugDraft.{draft_steps}
use Rattle.luf_kept.proofs.SnugDrafted.{IsFilled, IsGiven, IsDraftedExpression, IsDraftedStep, AreDraftedExpressions, SomeDraftedExpressions, AreDraftedOperations, IsDraftedSuffix, AreDraftedSuffixes, AreDraftedArguments, IsDraftedField, AreDraftedFields, IsDraftedStatement, AreDraftedStatements, IsDraftedArm, AreDraftedArms, SomeDraftedArms, IsDraftedElse, IsDraftedFunction, IsDrafted}

each_expression : (es : syntax.Expressions Words) → SomeDraftedExpressions es → AreDraftedExpressions es
each_expression syntax.no_expressions are = absurd are
each_expression (syntax.more_expressions first rest) are = are

each_arm : (parts : syntax.Arms Words) → SomeDraftedArms parts → AreDraftedArms parts
each_arm syntax.no_arms are = absurd are
each_arm (syntax.more_arms first rest) are = are

-- a statement, if it is one of the program
abbrev IsDraftedIf : Option (syntax.Statement Words) → Type 0
IsDraftedIf None = Unit {0}
IsDraftedIf (Some s) = IsDraftedStatement s

drafted_before : (s : Option (syntax.Statement Words)) (rest : syntax.Statements Words) → IsDraftedIf s → AreDraftedStatements rest → AreDraftedStatements (before s rest)
drafted_before None rest is are = are
drafted_before (Some s) rest is are = (is, are)

module _ (toks : List Tok) (written : List (List ℕ)) where
  abbrev ToldExpr : tokens.Expression → Type 0
  ToldExpr s = IsDraftedExpression (chosen_expression (words_of (says written)) as_here s)

  abbrev ToldSteps : tokens.Operations → Type 0
  ToldSteps s = AreDraftedOperations (chosen_operations (words_of (says written)) as_here s)

  abbrev ToldSuffix : tokens.Suffix → Type 0
  ToldSuffix s = IsDraftedSuffix (chosen_suffix (words_of (says written)) as_here s)

  abbrev ToldSuffixes : tokens.Suffixes → Type 0
  ToldSuffixes s = AreDraftedSuffixes (chosen_suffixes (words_of (says written)) as_here s)

  abbrev ToldArgs : tokens.Arguments → Type 0
  ToldArgs s = AreDraftedArguments (chosen_arguments (words_of (says written)) as_here s)

  abbrev ToldExprs : tokens.Expressions → Type 0
  ToldExprs s = SomeDraftedExpressions (chosen_expressions (words_of (says written)) as_here s)

  abbrev ToldFields : tokens.Fields → Type 0
  ToldFields s = AreDraftedFields (chosen_fields (words_of (says written)) as_here s)

  abbrev ToldField : tokens.Field → Type 0
  ToldField s = IsDraftedField (chosen_field (words_of (says written)) as_here s)

  abbrev ToldFuncBody : tokens.FunctionBody → Type 0
  ToldFuncBody s = IsDraftedFunction (chosen_function_body (words_of (says written)) as_here s)

  abbrev ToldBlock : tokens.Block → Type 0
  ToldBlock s = IsDrafted (chosen_block (words_of (says written)) as_here s)

  abbrev ToldStats : tokens.Statements → Type 0
  ToldStats s = AreDraftedStatements (chosen_statements (words_of (says written)) as_here s)

  abbrev ToldStat : tokens.Statement → Type 0
  ToldStat s = IsDraftedIf (chosen_statement (words_of (says written)) as_here s)

  abbrev ToldArm : tokens.Arm → Type 0
  ToldArm s = IsDraftedArm (chosen_arm (words_of (says written)) as_here s)

  abbrev ToldArms : tokens.Arms → Type 0
  ToldArms s = SomeDraftedArms (chosen_arms (words_of (says written)) as_here s)

  abbrev ToldElse : tokens.OptionalBlock → Type 0
  ToldElse s = IsDraftedElse (chosen_optional_block (words_of (says written)) as_here s)

  abbrev ToldForStep : tokens.OptionalExpression → Type 0
  ToldForStep s = IsDraftedStep (chosen_optional_expression (words_of (says written)) as_here s)

  filled_names : {i k : ℕ} {names : List ℕ} → AreNames toks i k names → IsFilled (map (says written) names)
  filled_names (g.one_name _) = tt
  filled_names (g.more_names _ _ _) = tt

  filled_declared : {i k : ℕ} {ds : List Declared} → AreDeclared toks i k ds → IsFilled (map (chosen_declared (words_of (says written)) as_here) (map declared_of ds))
  filled_declared (g.one_declared _ _) = tt
  filled_declared (g.more_declared _ _ _ _) = tt

  given_name : {i k : ℕ} {path : List ℕ} → IsPath toks i k path → IsGiven (option_map (says written) (first_of_path path))
  given_name (g.path_end _) = tt
  given_name (g.path_more _ _ _) = tt

  each_of : (es : tokens.Expressions) → ToldExprs es → AreDraftedExpressions (chosen_expressions (words_of (says written)) as_here es)
  each_of es are = each_expression (chosen_expressions (words_of (says written)) as_here es) are

  drafted_next : (s : tokens.Statement) (rest : tokens.Statements) → ToldStat s → ToldStats rest → ToldStats (syntax.more_statements s rest)
  drafted_next s rest is are = drafted_before (chosen_statement (words_of (says written)) as_here s) (chosen_statements (words_of (says written)) as_here rest) is are

  mutual
    drafted_expr : {n i k : ℕ} {x : Expr} → IsExpr toks n i k x → ToldExpr (syntax_of_expr x)
    drafted_expr (g.operand_expr d_e) = drafted_operand d_e
    drafted_expr (g.chain_expr {i} {k} {first} {rest} _ _ d_e d_rest) = subst ToldExpr (sym (chain_syntax i k first rest)) (drafted_expr d_e, drafted_steps d_rest)

    drafted_steps : {m i k : ℕ} {x : List Step} → AreSteps toks m i k x → ToldSteps (operations_of (map syntax_of_step x))
    drafted_steps (g.one_step {i} {e} _ _ d_e) = subst ToldSteps (ap (λ z. syntax.more_operations z syntax.no_operations) (sym (step_of_syntax i e))) (drafted_expr d_e, tt)
    drafted_steps (g.more_steps {i} {e} {rest} _ _ d_e d_rest) = subst ToldSteps (ap (λ z. syntax.more_operations z (operations_of (map syntax_of_step rest))) (sym (step_of_syntax i e))) (drafted_expr d_e, drafted_steps d_rest)

    drafted_operand : {i k : ℕ} {x : Expr} → IsOperand toks i k x → ToldExpr (syntax_of_expr x)
    drafted_operand (g.unary_operand {i} {k} {e} _ _ d_e) = subst ToldExpr (sym (unary_syntax i k e)) (drafted_operand d_e)
    drafted_operand (g.power_operand {i} {j} {l} {base} {exponent} d_e _ d_exponent) = subst ToldExpr (sym (power_syntax i l base j exponent)) (drafted_simple d_e, drafted_operand d_exponent)
    drafted_operand (g.simple_operand d_e) = drafted_simple d_e

    drafted_simple : {i k : ℕ} {x : Expr} → IsSimple toks i k x → ToldExpr (syntax_of_expr x)
    drafted_simple (g.nil_simple {i} {j} _) = subst ToldExpr (sym (nil_syntax i j)) tt
    drafted_simple (g.true_simple {i} {j} _) = subst ToldExpr (sym (true_syntax i j)) tt
    drafted_simple (g.false_simple {i} {j} _) = subst ToldExpr (sym (false_syntax i j)) tt
    drafted_simple (g.number_simple {i} {j} _) = subst ToldExpr (sym (number_syntax i j)) tt
    drafted_simple (g.string_simple {i} {j} _) = subst ToldExpr (sym (string_syntax i j)) tt
    drafted_simple (g.vararg_simple {i} {j} _) = subst ToldExpr (sym (vararg_syntax i j)) tt
    drafted_simple (g.function_simple {i} {k} {f} _ d_f) = subst ToldExpr (sym (function_syntax i k f)) (drafted_func_body d_f)
    drafted_simple (g.table_simple {i} {j} {fields} d_fields) = subst ToldExpr (sym (table_syntax i j fields)) (drafted_table d_fields)
    drafted_simple (g.prefix_simple d_e _) = drafted_prefix d_e

    drafted_prefix : {i k : ℕ} {x : Expr} → IsPrefix toks i k x → ToldExpr (syntax_of_expr x)
    drafted_prefix (g.variable_prefix d_e) = drafted_variable d_e
    drafted_prefix (g.call_prefix d_e) = drafted_call d_e
    drafted_prefix (g.paren_prefix d_e) = drafted_paren d_e

    drafted_variable : {i k : ℕ} {x : Expr} → IsVariable toks i k x → ToldExpr (syntax_of_expr x)
    drafted_variable (g.name_variable {i} {j} _) = subst ToldExpr (sym (name_syntax i j)) tt
    drafted_variable (g.suffixed_variable {i} {k} {head} {suffixes} d_e d_suffixes) = subst ToldExpr (sym (suffixed_syntax i k head suffixes)) (drafted_head d_e, drafted_suffixes d_suffixes)

    drafted_call : {i k : ℕ} {x : Expr} → IsCall toks i k x → ToldExpr (syntax_of_expr x)
    drafted_call (g.suffixed_call {i} {k} {head} {suffixes} d_e d_suffixes) = subst ToldExpr (sym (suffixed_syntax i k head suffixes)) (drafted_head d_e, drafted_suffixes d_suffixes)

    drafted_paren : {i k : ℕ} {x : Expr} → IsParen toks i k x → ToldExpr (syntax_of_expr x)
    drafted_paren (g.paren {i} {l} {e} _ d_e _) = subst ToldExpr (sym (paren_syntax i l e)) (drafted_expr d_e)

    drafted_head : {i k : ℕ} {x : Expr} → IsHead toks i k x → ToldExpr (syntax_of_expr x)
    drafted_head (g.name_head {i} {j} _) = subst ToldExpr (sym (name_syntax i j)) tt
    drafted_head (g.paren_head d_e) = drafted_paren d_e

    drafted_suffixes : {calls : Bool} {i k : ℕ} {x : List Suffix} → AreSuffixes toks calls i k x → ToldSuffixes (suffixes_of (map syntax_of_suffix x))
    drafted_suffixes (g.one_suffix d_s) = (drafted_suffix d_s, tt)
    drafted_suffixes (g.more_suffixes d_s d_rest) = (drafted_suffix d_s, drafted_suffixes d_rest)

    drafted_suffix : {calls : Bool} {i k : ℕ} {x : Suffix} → IsSuffix toks calls i k x → ToldSuffix (syntax_of_suffix x)
    drafted_suffix (g.dot_suffix {j} _ _) = subst ToldSuffix (sym (dot_syntax j)) tt
    drafted_suffix (g.index_suffix {e} _ d_e _) = subst ToldSuffix (sym (index_syntax e)) (drafted_expr d_e)
    drafted_suffix (g.call_suffix {args} d_args) = subst ToldSuffix (sym (call_suffix_syntax args)) (drafted_args d_args)
    drafted_suffix (g.method_suffix {j} {args} _ _ d_args) = subst ToldSuffix (sym (method_syntax j args)) (drafted_args d_args)

    drafted_args : {i k : ℕ} {x : Args} → IsArgs toks i k x → ToldArgs (syntax_of_args x)
    drafted_args (g.no_args {i} {k} _ _) = subst ToldArgs (sym (args_of_syntax i k true [])) tt
    drafted_args (g.list_args {i} {l} {es} _ d_es _) = subst ToldArgs (sym (args_of_syntax i l true es)) (each_of _ (drafted_exprs d_es))
    drafted_args (g.string_args {i} {j} _) =
        subst ToldArgs (sym (args_of_syntax i j false (expression i j expr.Str ∷ []))) (subst ToldExpr (sym (string_syntax i j)) tt, tt)
    drafted_args (g.table_args {i} {j} {fields} d) =
        subst ToldArgs (sym (args_of_syntax i j false (expression i j (expr.Table fields) ∷ []))) (subst ToldExpr (sym (table_syntax i j fields)) (drafted_table d), tt)

    drafted_exprs : {i k : ℕ} {x : List Expr} → AreExprs toks i k x → ToldExprs (expressions_of (map syntax_of_expr x))
    drafted_exprs (g.one_expr d_e) = (drafted_expr d_e, tt)
    drafted_exprs (g.more_exprs d_e _ d_es) = (drafted_expr d_e, each_of _ (drafted_exprs d_es))

    drafted_table : {i k : ℕ} {x : List Field} → IsTable toks i k x → ToldFields (fields_of (map syntax_of_field x))
    drafted_table (g.table _ d_fields _) = drafted_fields d_fields

    drafted_fields : {i k : ℕ} {x : List Field} → AreFields toks i k x → ToldFields (fields_of (map syntax_of_field x))
    drafted_fields g.no_fields = tt
    drafted_fields (g.last_field d_f) = (drafted_field d_f, tt)
    drafted_fields (g.more_fields d_f _ d_fields) = (drafted_field d_f, drafted_fields d_fields)

    drafted_field : {i k : ℕ} {x : Field} → IsField toks i k x → ToldField (syntax_of_field x)
    drafted_field (g.keyed_field {key} {value} _ d_key _ _ d_value) = subst ToldField (sym (keyed_syntax key value)) (drafted_expr d_key, drafted_expr d_value)
    drafted_field (g.named_field {i} {value} _ _ d_value) = subst ToldField (sym (named_syntax i value)) (drafted_expr d_value)
    drafted_field (g.item_field {e} d_e) = subst ToldField (sym (item_syntax e)) (drafted_expr d_e)

    drafted_func_body : {i k : ℕ} {x : FuncBody} → IsFuncBody toks i k x → ToldFuncBody (syntax_of_body x)
    drafted_func_body (g.func_body {i} {p} {params} {vararg} {body} _ _ _ d_body _) = subst ToldFuncBody (sym (body_of_syntax i p params vararg body)) (drafted_block d_body)

    drafted_block : {i k : ℕ} {x : Block} → IsBlock toks i k x → ToldBlock (syntax_of_block x)
    drafted_block (g.block {i} {j} {stats} d_stats) = subst ToldBlock (sym (block_of_syntax i j stats)) (drafted_stats d_stats)

    drafted_stats : {i k : ℕ} {x : List Stat} → AreStats toks i k x → ToldStats (statements_of (map syntax_of_stat x))
    drafted_stats g.no_stats = tt
    drafted_stats (g.last_stat {s} d_s) = drafted_next (syntax_of_stat s) syntax.no_statements (drafted_return d_s) tt
    drafted_stats (g.more_stats {s} {stats} d_s d_stats) = drafted_next (syntax_of_stat s) (statements_of (map syntax_of_stat stats)) (drafted_stat d_s) (drafted_stats d_stats)

    drafted_return : {i k : ℕ} {x : Stat} → IsReturn toks i k x → ToldStat (syntax_of_stat x)
    drafted_return (g.return_nothing {i} {k} _ _) = subst ToldStat (sym (return_syntax i k [])) tt
    drafted_return (g.return_values {i} {l} {es} _ d_es _) = subst ToldStat (sym (return_syntax i l es)) (each_of _ (drafted_exprs d_es))

    drafted_stat : {i k : ℕ} {x : Stat} → IsStat toks i k x → ToldStat (syntax_of_stat x)
    drafted_stat (g.local_stat {i} {k} {declared} _ d_declared) = subst ToldStat (sym (local_syntax i k declared [])) (filled_declared d_declared, tt)
    drafted_stat (g.local_values_stat {i} {o} {declared} {es} _ d_declared _ d_es) = subst ToldStat (sym (local_syntax i o declared es)) (filled_declared d_declared, each_of _ (drafted_exprs d_es))
    drafted_stat (g.assign_stat {i} {l} {targets} {es} d_targets _ d_es) = subst ToldStat (sym (assign_syntax i l targets es)) (drafted_targets d_targets, each_of _ (drafted_exprs d_es))
    drafted_stat (g.call_stat {i} {j} {e} d_e _) = subst ToldStat (sym (call_syntax i j e)) (drafted_call d_e)
    drafted_stat (g.do_stat {i} {l} {body} _ d_body _) = subst ToldStat (sym (do_syntax i l body)) (drafted_block d_body)
    drafted_stat (g.while_stat {i} {p} {e} {body} _ d_e _ d_body _) = subst ToldStat (sym (while_syntax i p e body)) (drafted_expr d_e, drafted_block d_body)
    drafted_stat (g.repeat_stat {i} {o} {body} {e} _ d_body _ d_e) = subst ToldStat (sym (repeat_syntax i o body e)) (drafted_block d_body, drafted_expr d_e)
    drafted_stat (g.if_stat {i} {o} {arms} {last} _ d_arms d_other _) = subst ToldStat (sym (if_syntax i o arms last)) (drafted_arms d_arms, drafted_else d_other)
    drafted_stat (g.for_stat {i} {j} {s} {first} {limit} {step} {body} _ _ _ d_start _ d_limit d_step _ d_body _) =
        subst ToldStat (sym (for_syntax i s j first limit step body)) (drafted_expr d_start, drafted_expr d_limit, drafted_for_step d_step, drafted_block d_body)
    drafted_stat (g.for_in_stat {i} {r} {names} {es} {body} _ d_names _ d_es _ d_body _) =
        subst ToldStat (sym (for_in_syntax i r names es body)) (filled_names d_names, drafted_exprs d_es, drafted_block d_body)
    drafted_stat (g.function_stat {i} {o} {path} {method} {f} _ d_path _ d_f) = subst ToldStat (sym (function_stat_syntax i o path method f)) (given_name d_path, drafted_func_body d_f)
    drafted_stat (g.local_function_stat {i} {k} {o} {f} _ _ _ d_f) = subst ToldStat (sym (local_function_syntax i o k f)) (drafted_func_body d_f)
    drafted_stat (g.label_stat {i} {j} {l} _ _ _) = subst ToldStat (sym (label_syntax i l j)) tt
    drafted_stat (g.goto_stat {i} {j} {k} _ _) = subst ToldStat (sym (goto_syntax i k j)) tt
    drafted_stat (g.break_stat {i} {j} _) = subst ToldStat (sym (break_syntax i j)) tt
    drafted_stat (g.empty_stat {i} {j} _) = subst ToldStat (sym (empty_syntax i j)) tt

    drafted_targets : {i k : ℕ} {x : List Expr} → AreTargets toks i k x → ToldExprs (expressions_of (map syntax_of_expr x))
    drafted_targets (g.one_target d_e) = (drafted_variable d_e, tt)
    drafted_targets (g.more_targets d_e _ d_es) = (drafted_variable d_e, each_of _ (drafted_targets d_es))

    drafted_arm : {i k : ℕ} {x : Arm} → IsArm toks i k x → ToldArm (syntax_of_arm x)
    drafted_arm (g.arm {e} {body} d_e _ d_body) = subst ToldArm (sym (arm_of_syntax e body)) (drafted_expr d_e, drafted_block d_body)

    drafted_arms : {i k : ℕ} {x : List Arm} → AreArms toks i k x → ToldArms (arms_of (map syntax_of_arm x))
    drafted_arms (g.one_arm d_e) = (drafted_arm d_e, tt)
    drafted_arms (g.more_arms d_e _ d_es) = (drafted_arm d_e, each_arm _ (drafted_arms d_es))

    drafted_else : {i k : ℕ} {x : Option Block} → IsElse toks i k x → ToldElse (optional_block_of (option_map syntax_of_block x))
    drafted_else g.no_else = tt
    drafted_else (g.an_else _ d_body) = drafted_block d_body

    drafted_for_step : {i k : ℕ} {x : Option Expr} → IsForStep toks i k x → ToldForStep (optional_expression_of (option_map syntax_of_expr x))
    drafted_for_step g.no_for_step = tt
    drafted_for_step (g.a_for_step _ d_e) = drafted_expr d_e

pub chunk_is_drafted : (toks : List Tok) (chunk : Chunk) → IsChunk toks chunk → (written : List (List ℕ)) → IsDrafted (written_program written chunk)
chunk_is_drafted toks chunk is written = drafted_block toks written is

pub chunk_steps : (toks : List Tok) (chunk : Chunk) → IsChunk toks chunk → (written : List (List ℕ)) (string_has table_has : Bool → Bool) → Steps (main string_has table_has (written_program written chunk)) begun free
chunk_steps toks chunk is written string_has table_has = draft_steps string_has table_has (written_program written chunk) (chunk_is_drafted toks chunk is written)
