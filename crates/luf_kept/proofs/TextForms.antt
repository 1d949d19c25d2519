-- The words of the draft of a chunk are a text of its program, whose lone arguments stand in parentheses as the draft has
-- them: by recursion over the derivation, one line for each production.
use Rattle.std.proofs.Common.{◌≡◌, ℕ, inl, inr, Bool, true, false, Option, List, [], ◌∷◌, ◌++◌, codes, bytes_eq, map, ap, sym, refl, subst, ◌∙◌}
use Rattle.std.specs.Option.{option_map}
use Rattle.luf_lex.specs.declared.token.Tok.{Tok}
use Rattle.luf_lex.specs.declared.token.Tok.TheVariants as tok
use Rattle.luf_lex.specs.declared.token.Word.TheVariants as word_is
use Rattle.luf_lex.specs.declared.token.Sign.TheVariants as sign_is
use Rattle.luf_tree.specs.declared.tree.Block.{Block}
use Rattle.luf_tree.specs.declared.tree.Stat.{Stat}
use Rattle.luf_tree.specs.declared.tree.Arm.{Arm}
use Rattle.luf_tree.specs.declared.tree.FuncBody.{FuncBody}
use Rattle.luf_tree.specs.declared.tree.Expr.{Expr}
use Rattle.luf_tree.specs.declared.tree.ExprKind.TheVariants as expr
use Rattle.luf_tree.specs.declared.tree.Step.{Step}
use Rattle.luf_tree.specs.declared.tree.Suffix.{Suffix}
use Rattle.luf_tree.specs.declared.tree.Args.{Args}
use Rattle.luf_tree.specs.declared.tree.Field.{Field}
use Rattle.luf_tree.specs.Operator.{binary_precedence, is_unary}
use Rattle.luf_tree.specs.Grammar as g
use Rattle.luf_tree.specs.Grammar.{IsToken, IsString, IsExpr, AreSteps, IsOperand, IsSimple, IsPrefix, IsVariable, IsCall, IsParen, IsHead, AreSuffixes, IsSuffix, IsArgs, AreExprs, IsTable, AreFields, IsField, IsFuncBody, IsBlock, AreStats, IsReturn, IsStat, AreTargets, IsArm, AreArms, IsElse, IsForStep, expression as expression_at}
use Rattle.luf_tree.specs.Syntax as syntax
use Rattle.luf_tree.specs.TokenSyntax as tokens
use Rattle.luf_tree.specs.TokenSyntax.{from_to}
use Rattle.luf_tree.specs.SyntaxOf.{expressions_of, operations_of, suffixes_of as syntax_suffixes_of, fields_of, statements_of, arms_of, optional_expression_of, optional_block_of, first_of_path, rest_of_path, syntax_of_expr, syntax_of_block, syntax_of_stat, syntax_of_field, syntax_of_suffix, syntax_of_step, syntax_of_arm, syntax_of_args, syntax_of_body}
use Rattle.luf_tree.proofs.SyntaxEquations.{nil_syntax, true_syntax, false_syntax, number_syntax, string_syntax, vararg_syntax, name_syntax, paren_syntax, function_syntax, table_syntax, unary_syntax, chain_syntax, power_syntax, suffixed_syntax, empty_syntax, local_syntax, assign_syntax, call_syntax, do_syntax, while_syntax, repeat_syntax, if_syntax, for_syntax, for_in_syntax, function_stat_syntax, local_function_syntax, label_syntax, goto_syntax, break_syntax, return_syntax, item_syntax, named_syntax, keyed_syntax, dot_syntax, index_syntax, call_suffix_syntax, method_syntax, step_of_syntax, arm_of_syntax, args_of_syntax, block_of_syntax, body_of_syntax}
use Rattle.luf_bare.specs.Bare.{Bare, words_of, as_here, chosen_expression, chosen_optional_expression, chosen_expressions, chosen_operations, chosen_suffix, chosen_suffixes, chosen_arguments, chosen_statement, chosen_statements, chosen_arm, chosen_arms, chosen_block, chosen_optional_block, chosen_function_body}
use Rattle.luf_bare.specs.Lone.{by_kind}
use Rattle.luf_bare.specs.ReadBack.{TextWord, token_of, is_added}
use Rattle.luf_bare.specs.Texts as w
use Rattle.luf_bare.specs.Texts.{IsStringWord, WritesExpr, WritesSteps, WritesOperand, WritesSimple, WritesPrefix, WritesVariable, WritesCall, WritesParen, WritesHead, WritesSuffixes, WritesSuffix, WritesArgs, WritesExprs, WritesFuncBody, WritesBlock, WritesStat, WritesTargets, WritesArm, WritesArms, WritesElse, WritesForStep}
use Rattle.luf_draft.specs.Draft.{Draft, Drafts, word, nothing, also, drafts, tight, space, line}
use Rattle.luf_draft.specs.Form.{Words, expression, expressions, more_expressions, broken_expressions, more_broken, operations, suffix, suffixes_of, arguments, function_body, assigned, for_step, arm, arms, more_arms, otherwise, statement, body, main}
use Rattle.luf_kept.proofs.TextParts.{own, Stands, Reads, done, keyword, sign, gap, behind_sign, part, lead, follow, last, as_well, whole, grouped, nested, lone, lone_keyword, lone_sign}
use Rattle.luf_kept.proofs.TextNames.{Source, Leads, says as says_of, says_keeps as says_keeps_of, says_spelled as says_spelled_of, leaf as leaf_of, tell_names, tell_params, tell_declared, tell_path, tell_method}
use Rattle.luf_kept.proofs.TextItems.{fits, tell_items, TellsField, TellsFields, TellsTable, tell_more_fields, tell_table_of, TellsStat, silent, tells, TellsReturn, tells_return, TellsFirst, TellsLater, tell_last_first, tell_last_later, tell_more_first, tell_more_later, tell_inner, tell_source, TellsElse, else_end}

module _ (toks : List Tok) (source : Source toks) (string_has table_has : Bool → Bool) where
  abbrev says : ℕ → TextWord
  says = says_of toks source

  abbrev standing : tokens.Expressions → Bool → Bool
  standing = by_kind string_has table_has

  says_keeps : {i j : ℕ} {t : Tok} → IsToken toks i t j → (token_of (says i) ≡ t) × (is_added (says i) ≡ false)
  says_keeps t = says_keeps_of toks source t

  leaf : {to : Bool} {Kind : List TextWord → Type 0} {ds more : Drafts} {i j : ℕ} {t : Tok} → IsToken toks i t j → Reads false to (λ t. Kind (says i ∷ t)) ds more → Reads true to Kind (also (word (source.bytes i)) ds) more
  leaf token next = leaf_of toks source token next

  lone_leaf : {Kind : List TextWord → Type 0} {i j : ℕ} {t : Tok} → IsToken toks i t j → Kind (says i ∷ []) → Stands true false Kind (word (source.bytes i))
  lone_leaf {i} token wrote = lone (says i) (says_spelled_of toks source token) refl wrote

  lone_string : {Kind : List TextWord → Type 0} {i j : ℕ} → IsString toks i j → Kind (says i ∷ []) → Stands true false Kind (word (source.bytes i))
  lone_string (inl token) wrote = lone_leaf token wrote
  lone_string (inr token) wrote = lone_leaf token wrote

  string_says : {i j : ℕ} → IsString toks i j → IsStringWord token_of is_added (says i)
  string_says {i} (inl t) = (inl (source.kinds i tok.Short t.there), refl)
  string_says {i} (inr t) = (inr (source.kinds i tok.Long t.there), refl)

  -- ---- what is told of each family

  abbrev ToldExpr : ℕ → tokens.Expression → Type 0
  ToldExpr n s = Stands true false (WritesExpr token_of is_added n (chosen_expression (words_of says) standing s)) (expression string_has table_has (chosen_expression (words_of source.bytes) as_here s))

  abbrev ToldSteps : ℕ → tokens.Operations → Type 0
  ToldSteps m s = Reads false false (WritesSteps token_of is_added m (chosen_operations (words_of says) standing s)) (drafts (operations string_has table_has (chosen_operations (words_of source.bytes) as_here s))) nothing

  abbrev ToldOperand : tokens.Expression → Type 0
  ToldOperand s = Stands true false (WritesOperand token_of is_added (chosen_expression (words_of says) standing s)) (expression string_has table_has (chosen_expression (words_of source.bytes) as_here s))

  abbrev ToldSimple : tokens.Expression → Type 0
  ToldSimple s = Stands true false (WritesSimple token_of is_added (chosen_expression (words_of says) standing s)) (expression string_has table_has (chosen_expression (words_of source.bytes) as_here s))

  abbrev ToldPrefix : tokens.Expression → Type 0
  ToldPrefix s = Stands true false (WritesPrefix token_of is_added (chosen_expression (words_of says) standing s)) (expression string_has table_has (chosen_expression (words_of source.bytes) as_here s))

  abbrev ToldVariable : tokens.Expression → Type 0
  ToldVariable s = Stands true false (WritesVariable token_of is_added (chosen_expression (words_of says) standing s)) (expression string_has table_has (chosen_expression (words_of source.bytes) as_here s))

  abbrev ToldCall : tokens.Expression → Type 0
  ToldCall s = Stands true false (WritesCall token_of is_added (chosen_expression (words_of says) standing s)) (expression string_has table_has (chosen_expression (words_of source.bytes) as_here s))

  abbrev ToldParen : tokens.Expression → Type 0
  ToldParen s = Stands true false (WritesParen token_of is_added (chosen_expression (words_of says) standing s)) (expression string_has table_has (chosen_expression (words_of source.bytes) as_here s))

  abbrev ToldHead : tokens.Expression → Type 0
  ToldHead s = Stands true false (WritesHead token_of is_added (chosen_expression (words_of says) standing s)) (expression string_has table_has (chosen_expression (words_of source.bytes) as_here s))

  abbrev ToldSuffixes : Bool → tokens.Suffixes → Type 0
  ToldSuffixes calls s = Reads false false (WritesSuffixes token_of is_added calls (chosen_suffixes (words_of says) standing s)) (drafts (suffixes_of string_has table_has (chosen_suffixes (words_of source.bytes) as_here s))) nothing

  abbrev ToldSuffix : Bool → tokens.Suffix → Type 0
  ToldSuffix calls s = Leads false false (WritesSuffix token_of is_added calls (chosen_suffix (words_of says) standing s)) (suffix string_has table_has (chosen_suffix (words_of source.bytes) as_here s))

  abbrev ToldArgs : tokens.Arguments → Type 0
  ToldArgs s = Leads false false (WritesArgs token_of is_added (chosen_arguments (words_of says) standing s)) (arguments string_has table_has (chosen_arguments (words_of source.bytes) as_here s))

  abbrev ToldExprs : tokens.Expressions → Type 0
  ToldExprs s = Leads true false (WritesExprs token_of is_added (chosen_expressions (words_of says) standing s)) (expressions string_has table_has (chosen_expressions (words_of source.bytes) as_here s))

  abbrev ToldBroken : tokens.Expressions → Type 0
  ToldBroken s = Leads true false (WritesExprs token_of is_added (chosen_expressions (words_of says) standing s)) (broken_expressions string_has table_has (chosen_expressions (words_of source.bytes) as_here s))

  abbrev ToldField : tokens.Field → Type 0
  ToldField = TellsField string_has table_has source.bytes says

  abbrev ToldFields : tokens.Fields → Type 0
  ToldFields = TellsFields string_has table_has source.bytes says

  abbrev ToldTable : tokens.Fields → Type 0
  ToldTable = TellsTable string_has table_has source.bytes says

  abbrev ToldFuncBody : tokens.FunctionBody → Type 0
  ToldFuncBody s = Reads false false (WritesFuncBody token_of is_added (chosen_function_body (words_of says) standing s)) (drafts (function_body string_has table_has (chosen_function_body (words_of source.bytes) as_here s))) nothing

  abbrev ToldBody : tokens.Block → Type 0
  ToldBody s = Leads false true (WritesBlock token_of is_added (chosen_block (words_of says) standing s)) (body string_has table_has (chosen_block (words_of source.bytes) as_here s))

  abbrev ToldMain : tokens.Block → Type 0
  ToldMain s = Stands false true (WritesBlock token_of is_added (chosen_block (words_of says) standing s)) (main string_has table_has (chosen_block (words_of source.bytes) as_here s))

  abbrev ToldFirst : tokens.Statements → Type 0
  ToldFirst s = TellsFirst string_has table_has (chosen_statements (words_of says) standing s) (chosen_statements (words_of source.bytes) as_here s)

  abbrev ToldLater : tokens.Statements → Type 0
  ToldLater s = TellsLater string_has table_has (chosen_statements (words_of says) standing s) (chosen_statements (words_of source.bytes) as_here s)

  abbrev ToldStat : tokens.Statement → Type 0
  ToldStat s = TellsStat string_has table_has (chosen_statement (words_of says) standing s) (chosen_statement (words_of source.bytes) as_here s)

  abbrev ToldReturn : tokens.Statement → Type 0
  ToldReturn s = TellsReturn string_has table_has (chosen_statement (words_of says) standing s) (chosen_statement (words_of source.bytes) as_here s)

  abbrev ToldTargets : tokens.Expressions → Type 0
  ToldTargets s = Leads true false (WritesTargets token_of is_added (chosen_expressions (words_of says) standing s)) (expressions string_has table_has (chosen_expressions (words_of source.bytes) as_here s))

  abbrev ToldArm : tokens.Arm → Type 0
  ToldArm s = Leads false true (WritesArm token_of is_added (chosen_arm (words_of says) standing s)) (arm string_has table_has (chosen_arm (words_of source.bytes) as_here s))

  abbrev ToldArms : tokens.Arms → Type 0
  ToldArms s = Leads false true (WritesArms token_of is_added (chosen_arms (words_of says) standing s)) (arms string_has table_has (chosen_arms (words_of source.bytes) as_here s))

  abbrev ToldElse : tokens.OptionalBlock → Type 0
  ToldElse s = Reads true false (TellsElse string_has table_has (chosen_optional_block (words_of says) standing s)) (drafts (otherwise string_has table_has (chosen_optional_block (words_of source.bytes) as_here s))) nothing

  abbrev ToldForStep : tokens.OptionalExpression → Type 0
  ToldForStep s = Leads false false (WritesForStep token_of is_added (chosen_optional_expression (words_of says) standing s)) (for_step string_has table_has (chosen_optional_expression (words_of source.bytes) as_here s))

  -- ---- lists with separators

  abbrev written_expressions : List Expr → syntax.Expressions Words
  written_expressions es = chosen_expressions (words_of source.bytes) as_here (expressions_of (map syntax_of_expr es))

  abbrev written_arms : List Arm → syntax.Arms Words
  written_arms those = chosen_arms (words_of source.bytes) as_here (arms_of (map syntax_of_arm those))

  behind_comma : {from to : Bool} {Kind : List TextWord → Type 0} {after : Drafts} {i k : ℕ} {es : List Expr} → AreExprs toks i k es → (more : List Draft)
      → Reads from to Kind (drafts (tight ∷ word (codes ",") ∷ space ∷ expressions string_has table_has (written_expressions es) more)) after → Reads from to Kind (drafts (more_expressions string_has table_has (written_expressions es) more)) after
  behind_comma (g.one_expr _) more reads = reads
  behind_comma (g.more_exprs _ _ _) more reads = reads

  behind_target : {from to : Bool} {Kind : List TextWord → Type 0} {after : Drafts} {i k : ℕ} {es : List Expr} → AreTargets toks i k es → (more : List Draft)
      → Reads from to Kind (drafts (tight ∷ word (codes ",") ∷ space ∷ expressions string_has table_has (written_expressions es) more)) after → Reads from to Kind (drafts (more_expressions string_has table_has (written_expressions es) more)) after
  behind_target (g.one_target _) more reads = reads
  behind_target (g.more_targets _ _ _) more reads = reads

  behind_break : {from to : Bool} {Kind : List TextWord → Type 0} {after : Drafts} {i k : ℕ} {es : List Expr} → AreExprs toks i k es → (more : List Draft)
      → Reads from to Kind (drafts (tight ∷ word (codes ",") ∷ line ∷ broken_expressions string_has table_has (written_expressions es) more)) after → Reads from to Kind (drafts (more_broken string_has table_has (written_expressions es) more)) after
  behind_break (g.one_expr _) more reads = reads
  behind_break (g.more_exprs _ _ _) more reads = reads

  behind_assign : {from to : Bool} {Kind : List TextWord → Type 0} {after : Drafts} {i k : ℕ} {es : List Expr} → AreExprs toks i k es
      → Reads from to Kind (drafts (space ∷ word (codes "=") ∷ space ∷ expressions string_has table_has (written_expressions es) [])) after → Reads from to Kind (drafts (assigned string_has table_has (written_expressions es))) after
  behind_assign (g.one_expr _) reads = reads
  behind_assign (g.more_exprs _ _ _) reads = reads

  behind_return : {Kind : List TextWord → Type 0} {i k : ℕ} {es : List Expr} → AreExprs toks i k es
      → Reads true false Kind (drafts (word (codes "return") ∷ space ∷ expressions string_has table_has (written_expressions es) [])) nothing
      → Stands true false Kind (statement string_has table_has (syntax.return_statement tt (written_expressions es)))
  behind_return (g.one_expr _) reads = whole reads
  behind_return (g.more_exprs _ _ _) reads = whole reads

  behind_arm : {from to : Bool} {Kind : List TextWord → Type 0} {after : Drafts} {i k : ℕ} {those : List Arm} → AreArms toks i k those → (more : List Draft)
      → Reads from to Kind (drafts (word (codes "elseif") ∷ arms string_has table_has (written_arms those) more)) after → Reads from to Kind (drafts (more_arms string_has table_has (written_arms those) more)) after
  behind_arm (g.one_arm _) more reads = reads
  behind_arm (g.more_arms _ _ _) more reads = reads

  -- ---- what holds others

  list_told : {i k : ℕ} {es : List Expr} (had : Bool) → AreExprs toks i k es → ToldExprs (expressions_of (map syntax_of_expr es)) → ToldBroken (expressions_of (map syntax_of_expr es))
      → Leads false false (WritesArgs token_of is_added (syntax.arguments tt (standing (expressions_of (map syntax_of_expr es)) had) (chosen_expressions (words_of says) standing (expressions_of (map syntax_of_expr es))))) (arguments string_has table_has (syntax.arguments tt had (written_expressions es)))
  list_told had (g.one_expr {e} _) told told_broken = tell_items string_has table_has _ (fits source.bytes says standing (syntax_of_expr e) syntax.no_expressions) had _ _ refl told told_broken
  list_told had (g.more_exprs {e} {es} _ _ _) told told_broken = tell_items string_has table_has _ (fits source.bytes says standing (syntax_of_expr e) (expressions_of (map syntax_of_expr es))) had _ _ refl told told_broken

  alone_told : (had : Bool) (s : tokens.Expression) → ToldExpr 1 s
      → Leads false false (WritesArgs token_of is_added (syntax.arguments tt (standing (syntax.more_expressions s syntax.no_expressions) had) (syntax.more_expressions (chosen_expression (words_of says) standing s) syntax.no_expressions))) (arguments string_has table_has (syntax.arguments tt had (syntax.more_expressions (chosen_expression (words_of source.bytes) as_here s) syntax.no_expressions)))
  alone_told had s told =
      tell_items string_has table_has _ (fits source.bytes says standing s syntax.no_expressions) had _ _ refl (λ more. last told (λ t wrote. w.one_expr wrote)) (λ more. last told (λ t wrote. w.one_expr wrote))

  function_told : (path : List ℕ) {method : Option TextWord} {f : syntax.FunctionBody (Bare TextWord)} {words : List TextWord} → WritesStat token_of is_added (syntax.function_statement tt (first_of_path (map says path)) (rest_of_path (map says path)) method f) words
      → WritesStat token_of is_added (syntax.function_statement tt (option_map says (first_of_path path)) (map says (rest_of_path path)) method f) words
  function_told [] told = told
  function_told (name ∷ names) told = told

  if_told : {those : syntax.Arms (Bare TextWord)} {other : syntax.OptionalBlock (Bare TextWord)} {arms_words : List TextWord} → WritesArms token_of is_added those arms_words → (u : List TextWord) → TellsElse string_has table_has other u
      → WritesStat token_of is_added (syntax.if_statement tt those other) (own (tok.Word word_is.If) ∷ (arms_words ++ u))
  if_told wrote u (else_end wrote_else) = w.if_stat (refl, refl) wrote wrote_else (refl, refl)

  -- ---- the recursion

  mutual
    tell_expr : {n : ℕ} {i k : ℕ} {x : Expr} → IsExpr toks n i k x → ToldExpr n (syntax_of_expr x)
    tell_expr (g.operand_expr d_e) = as_well (tell_operand d_e) (λ t told. w.operand_expr told)
    tell_expr (g.chain_expr {n} {i} {k} {first} {rest} pos le d_e d_rest) =
        subst (ToldExpr n) (sym (chain_syntax i k first rest)) (grouped (whole (part (tell_expr d_e) (λ t told. last (nested (whole (tell_steps d_rest))) (λ u told_rest. w.chain_expr pos le told told_rest)))))

    tell_steps : {m : ℕ} {i k : ℕ} {x : List Step} → AreSteps toks m i k x → ToldSteps m (operations_of (map syntax_of_step x))
    tell_steps (g.one_step {m} {i} {e} t_x operator_x d_e) =
        subst (ToldSteps m) (ap (λ z. syntax.more_operations z syntax.no_operations) (sym (step_of_syntax i e)))
        (gap (leaf t_x (gap (last (tell_expr d_e) (λ t told. w.one_step (ap binary_precedence (says_keeps t_x).0 ∙ operator_x, refl) told)))))
    tell_steps (g.more_steps {m} {i} {e} {rest} t_x operator_x d_e d_rest) =
        subst (ToldSteps m) (ap (λ z. syntax.more_operations z (operations_of (map syntax_of_step rest))) (sym (step_of_syntax i e)))
        (gap (leaf t_x (gap (part (tell_expr d_e) (λ t told. follow (tell_steps d_rest) (λ u told_rest. w.more_steps (ap binary_precedence (says_keeps t_x).0 ∙ operator_x, refl) told told_rest))))))

    tell_operand : {i k : ℕ} {x : Expr} → IsOperand toks i k x → ToldOperand (syntax_of_expr x)
    tell_operand (g.unary_operand {i} {k} {e} t_x operator_x d_e) =
        subst ToldOperand (sym (unary_syntax i k e))
        (whole (leaf t_x (behind_sign (bytes_eq (source.bytes i) (codes "not")) (last (tell_operand d_e) (λ t told. w.unary_operand (ap is_unary (says_keeps t_x).0 ∙ operator_x, refl) told)))))
    tell_operand (g.power_operand {i} {j} {l} {base} {exponent} d_e t_x d_exponent) =
        subst ToldOperand (sym (power_syntax i l base j exponent))
        (whole (part (tell_simple d_e) (λ t told. gap (leaf t_x (gap (last (tell_operand d_exponent) (λ u told_exponent. w.power_operand told (says_keeps t_x) told_exponent)))))))
    tell_operand (g.simple_operand d_e) = as_well (tell_simple d_e) (λ t told. w.simple_operand told)

    tell_simple : {i k : ℕ} {x : Expr} → IsSimple toks i k x → ToldSimple (syntax_of_expr x)
    tell_simple (g.nil_simple {i} {j} _) = subst ToldSimple (sym (nil_syntax i j)) (lone_keyword word_is.Nil (w.nil_simple (refl, refl)))
    tell_simple (g.true_simple {i} {j} _) = subst ToldSimple (sym (true_syntax i j)) (lone_keyword word_is.True (w.true_simple (refl, refl)))
    tell_simple (g.false_simple {i} {j} _) = subst ToldSimple (sym (false_syntax i j)) (lone_keyword word_is.False (w.false_simple (refl, refl)))
    tell_simple (g.number_simple {i} {j} t_x) = subst ToldSimple (sym (number_syntax i j)) (lone_leaf t_x (w.number_simple (says_keeps t_x)))
    tell_simple (g.string_simple {i} {j} t_x) = subst ToldSimple (sym (string_syntax i j)) (lone_string t_x (w.string_simple (string_says t_x)))
    tell_simple (g.vararg_simple {i} {j} _) = subst ToldSimple (sym (vararg_syntax i j)) (lone_sign sign_is.Dots (w.vararg_simple (refl, refl)))
    tell_simple (g.function_simple {i} {k} {f} _ d_f) =
        subst ToldSimple (sym (function_syntax i k f)) (whole (keyword word_is.Function (follow (tell_func_body d_f) (λ t told. w.function_simple (refl, refl) told))))
    tell_simple (g.table_simple {i} {j} {fields} d_fields) = subst ToldSimple (sym (table_syntax i j fields)) (as_well (tell_table d_fields) (λ t told. w.table_simple told))
    tell_simple (g.prefix_simple d_e _) = as_well (tell_prefix d_e) (λ t told. w.prefix_simple told)

    tell_prefix : {i k : ℕ} {x : Expr} → IsPrefix toks i k x → ToldPrefix (syntax_of_expr x)
    tell_prefix (g.variable_prefix d_e) = as_well (tell_variable d_e) (λ t told. w.variable_prefix told)
    tell_prefix (g.call_prefix d_e) = as_well (tell_call d_e) (λ t told. w.call_prefix told)
    tell_prefix (g.paren_prefix d_e) = as_well (tell_paren d_e) (λ t told. w.paren_prefix told)

    tell_variable : {i k : ℕ} {x : Expr} → IsVariable toks i k x → ToldVariable (syntax_of_expr x)
    tell_variable (g.name_variable {i} {j} t_x) = subst ToldVariable (sym (name_syntax i j)) (lone_leaf t_x (w.name_variable (says_keeps t_x)))
    tell_variable (g.suffixed_variable {i} {k} {head} {suffixes} d_e d_suffixes) =
        subst ToldVariable (sym (suffixed_syntax i k head suffixes)) (whole (part (tell_head d_e) (λ t told. follow (tell_suffixes d_suffixes) (λ u told_suffixes. w.suffixed_variable told told_suffixes))))

    tell_call : {i k : ℕ} {x : Expr} → IsCall toks i k x → ToldCall (syntax_of_expr x)
    tell_call (g.suffixed_call {i} {k} {head} {suffixes} d_e d_suffixes) =
        subst ToldCall (sym (suffixed_syntax i k head suffixes)) (whole (part (tell_head d_e) (λ t told. follow (tell_suffixes d_suffixes) (λ u told_suffixes. w.suffixed_call told told_suffixes))))

    tell_paren : {i k : ℕ} {x : Expr} → IsParen toks i k x → ToldParen (syntax_of_expr x)
    tell_paren (g.paren {i} {l} {e} _ d_e _) =
        subst ToldParen (sym (paren_syntax i l e)) (whole (sign sign_is.LeftParen (gap (part (tell_expr d_e) (λ t told. gap (sign sign_is.RightParen (done (w.paren (refl, refl) told (refl, refl)))))))))

    tell_head : {i k : ℕ} {x : Expr} → IsHead toks i k x → ToldHead (syntax_of_expr x)
    tell_head (g.name_head {i} {j} t_x) = subst ToldHead (sym (name_syntax i j)) (lone_leaf t_x (w.name_head (says_keeps t_x)))
    tell_head (g.paren_head d_e) = as_well (tell_paren d_e) (λ t told. w.paren_head told)

    tell_suffixes : {calls : Bool} {i k : ℕ} {x : List Suffix} → AreSuffixes toks calls i k x → ToldSuffixes calls (syntax_suffixes_of (map syntax_of_suffix x))
    tell_suffixes (g.one_suffix d_s) = follow (tell_suffix d_s []) (λ t told. w.one_suffix told)
    tell_suffixes (g.more_suffixes d_s d_rest) = lead (tell_suffix d_s _) (λ t told. follow (tell_suffixes d_rest) (λ u told_rest. w.more_suffixes told told_rest))

    tell_suffix : {calls : Bool} {i k : ℕ} {x : Suffix} → IsSuffix toks calls i k x → ToldSuffix calls (syntax_of_suffix x)
    tell_suffix (g.dot_suffix {j} _ t_x) = subst (ToldSuffix false) (sym (dot_syntax j)) (λ more. gap (sign sign_is.Dot (gap (leaf t_x (done (w.dot_suffix (refl, refl) (says_keeps t_x)))))))
    tell_suffix (g.index_suffix {e} _ d_e _) =
        subst (ToldSuffix false) (sym (index_syntax e)) (λ more. gap (sign sign_is.LeftBracket (gap (part (tell_expr d_e) (λ t told. gap (sign sign_is.RightBracket (done (w.index_suffix (refl, refl) told (refl, refl)))))))))
    tell_suffix (g.call_suffix {args} d_args) = subst (ToldSuffix true) (sym (call_suffix_syntax args)) (λ more. follow (tell_args d_args more) (λ t told. w.call_suffix told))
    tell_suffix (g.method_suffix {j} {args} _ t_x d_args) =
        subst (ToldSuffix true) (sym (method_syntax j args)) (λ more. gap (sign sign_is.Colon (gap (leaf t_x (follow (tell_args d_args more) (λ t told. w.method_suffix (refl, refl) (says_keeps t_x) told))))))

    tell_args : {i k : ℕ} {x : Args} → IsArgs toks i k x → ToldArgs (syntax_of_args x)
    tell_args (g.no_args {i} {k} _ _) = subst ToldArgs (sym (args_of_syntax i k true [])) (λ more. gap (sign sign_is.LeftParen (gap (sign sign_is.RightParen (done (w.no_args (refl, refl) (refl, refl)))))))
    tell_args (g.list_args {i} {l} {es} _ d_es _) = subst ToldArgs (sym (args_of_syntax i l true es)) (list_told true d_es (tell_exprs d_es) (tell_broken d_es))
    tell_args (g.string_args {i} {j} t_x) =
        subst ToldArgs (sym (args_of_syntax i j false (expression_at i j expr.Str ∷ []) ∙ ap (λ z. syntax.arguments (from_to i j) false (syntax.more_expressions z syntax.no_expressions)) (string_syntax i j)))
        (alone_told false (syntax.string (from_to i j) i) (lone_string t_x (w.operand_expr (w.simple_operand (w.string_simple (string_says t_x))))))
    tell_args (g.table_args {i} {j} {fields} d) =
        subst ToldArgs (sym (args_of_syntax i j false (expression_at i j (expr.Table fields) ∷ []) ∙ ap (λ z. syntax.arguments (from_to i j) false (syntax.more_expressions z syntax.no_expressions)) (table_syntax i j fields)))
        (alone_told false (syntax.table (from_to i j) (fields_of (map syntax_of_field fields))) (as_well (tell_table d) (λ t told. w.operand_expr (w.simple_operand (w.table_simple told)))))

    tell_exprs : {i k : ℕ} {x : List Expr} → AreExprs toks i k x → ToldExprs (expressions_of (map syntax_of_expr x))
    tell_exprs (g.one_expr d_e) = λ more. last (tell_expr d_e) (λ t told. w.one_expr told)
    tell_exprs (g.more_exprs d_e _ d_es) =
        λ more. part (tell_expr d_e) (λ t told. behind_comma d_es more (gap (sign sign_is.Comma (gap (follow (tell_exprs d_es more) (λ u told_rest. w.more_exprs told (refl, refl) told_rest))))))

    tell_broken : {i k : ℕ} {x : List Expr} → AreExprs toks i k x → ToldBroken (expressions_of (map syntax_of_expr x))
    tell_broken (g.one_expr d_e) = λ more. last (tell_expr d_e) (λ t told. w.one_expr told)
    tell_broken (g.more_exprs d_e _ d_es) =
        λ more. part (tell_expr d_e) (λ t told. behind_break d_es more (gap (sign sign_is.Comma (gap (follow (tell_broken d_es more) (λ u told_rest. w.more_exprs told (refl, refl) told_rest))))))

    tell_table : {i k : ℕ} {x : List Field} → IsTable toks i k x → ToldTable (fields_of (map syntax_of_field x))
    tell_table (g.table {fields} _ d_fields _) = tell_table_of string_has table_has source.bytes says (fields_of (map syntax_of_field fields)) (tell_fields d_fields)

    tell_fields : {i k : ℕ} {x : List Field} → AreFields toks i k x → ToldFields (fields_of (map syntax_of_field x))
    tell_fields g.no_fields = tt
    tell_fields (g.last_field {f} d_f) = tell_more_fields string_has table_has source.bytes says (syntax_of_field f) syntax.no_fields (tell_field d_f) tt
    tell_fields (g.more_fields {f} {fields} d_f _ d_fields) =
        tell_more_fields string_has table_has source.bytes says (syntax_of_field f) (fields_of (map syntax_of_field fields)) (tell_field d_f) (tell_fields d_fields)

    tell_field : {i k : ℕ} {x : Field} → IsField toks i k x → ToldField (syntax_of_field x)
    tell_field (g.keyed_field {key} {value} _ d_key _ _ d_value) =
        subst ToldField (sym (keyed_syntax key value))
        (λ more. sign sign_is.LeftBracket (gap (part (tell_expr d_key) (λ t told. gap (sign sign_is.RightBracket (gap (sign sign_is.Assign (gap (last (tell_expr d_value) (λ u told_value. w.keyed_field (refl, refl) told (refl, refl) (refl, refl) told_value))))))))))
    tell_field (g.named_field {i} {value} t_x _ d_value) =
        subst ToldField (sym (named_syntax i value)) (λ more. leaf t_x (gap (sign sign_is.Assign (gap (last (tell_expr d_value) (λ t told. w.named_field (says_keeps t_x) (refl, refl) told))))))
    tell_field (g.item_field {e} d_e) = subst ToldField (sym (item_syntax e)) (λ more. last (tell_expr d_e) (λ t told. w.item_field told))

    tell_func_body : {i k : ℕ} {x : FuncBody} → IsFuncBody toks i k x → ToldFuncBody (syntax_of_body x)
    tell_func_body (g.func_body {i} {p} {params} {vararg} {body} _ d_params _ d_body _) =
        subst ToldFuncBody (sym (body_of_syntax i p params vararg body))
        (gap (tell_params toks source d_params _ (λ t told. lead (tell_body d_body _) (λ u told_body. keyword word_is.End (done (w.func_body (refl, refl) told (refl, refl) told_body (refl, refl)))))))

    tell_body : {i k : ℕ} {x : Block} → IsBlock toks i k x → ToldBody (syntax_of_block x)
    tell_body (g.block {i} {j} {stats} d_stats) = subst ToldBody (sym (block_of_syntax i j stats)) (tell_inner string_has table_has (chosen_statements (words_of source.bytes) as_here (statements_of (map syntax_of_stat stats))) (tell_first d_stats))

    tell_first : {i k : ℕ} {x : List Stat} → AreStats toks i k x → ToldFirst (statements_of (map syntax_of_stat x))
    tell_first g.no_stats = w.no_stats
    tell_first (g.last_stat d_s) = tell_last_first string_has table_has (tell_return d_s)
    tell_first (g.more_stats {stats} d_s d_stats) = tell_more_first string_has table_has (chosen_statements (words_of source.bytes) as_here (statements_of (map syntax_of_stat stats))) (tell_stat d_s) (tell_first d_stats) (tell_later d_stats)

    tell_later : {i k : ℕ} {x : List Stat} → AreStats toks i k x → ToldLater (statements_of (map syntax_of_stat x))
    tell_later g.no_stats = λ more. done (record { wrote = w.no_stats; shut = tt })
    tell_later (g.last_stat d_s) = tell_last_later string_has table_has (tell_return d_s)
    tell_later (g.more_stats {stats} d_s d_stats) = tell_more_later string_has table_has (chosen_statements (words_of source.bytes) as_here (statements_of (map syntax_of_stat stats))) (tell_stat d_s) (tell_later d_stats)

    tell_return : {i k : ℕ} {x : Stat} → IsReturn toks i k x → ToldReturn (syntax_of_stat x)
    tell_return (g.return_nothing {i} {k} _ _) = subst ToldReturn (sym (return_syntax i k [])) (tells_return (lone_keyword word_is.Return (w.return_nothing (refl, refl) w.no_semicolon)))
    tell_return (g.return_values {i} {l} {es} _ d_es _) =
        subst ToldReturn (sym (return_syntax i l es)) (tells_return (behind_return d_es (keyword word_is.Return (gap (lead (tell_exprs d_es []) (λ t told. done (w.return_values (refl, refl) told w.no_semicolon)))))))

    tell_stat : {i k : ℕ} {x : Stat} → IsStat toks i k x → ToldStat (syntax_of_stat x)
    tell_stat (g.local_stat {i} {k} {declared} _ d_declared) =
        subst ToldStat (sym (local_syntax i k declared [])) (tells (whole (keyword word_is.Local (gap (follow (tell_declared toks source d_declared []) (λ t told. w.local_stat (refl, refl) told))))))
    tell_stat (g.local_values_stat {i} {o} {declared} {es} _ d_declared _ d_es) =
        subst ToldStat (sym (local_syntax i o declared es))
        (tells (whole (keyword word_is.Local (gap (lead (tell_declared toks source d_declared _) (λ t told. behind_assign d_es (gap (sign sign_is.Assign (gap (follow (tell_exprs d_es []) (λ u told_values. w.local_values_stat (refl, refl) told (refl, refl) told_values)))))))))))
    tell_stat (g.assign_stat {i} {l} {targets} {es} d_targets _ d_es) =
        subst ToldStat (sym (assign_syntax i l targets es))
        (tells (whole (lead (tell_targets d_targets _) (λ t told. behind_assign d_es (gap (sign sign_is.Assign (gap (follow (tell_exprs d_es []) (λ u told_values. w.assign_stat told (refl, refl) told_values)))))))))
    tell_stat (g.call_stat {i} {j} {e} d_e _) = subst ToldStat (sym (call_syntax i j e)) (tells (as_well (tell_call d_e) (λ t told. w.call_stat told)))
    tell_stat (g.do_stat {i} {l} {body} _ d_body _) =
        subst ToldStat (sym (do_syntax i l body)) (tells (whole (keyword word_is.Do (lead (tell_body d_body _) (λ t told. keyword word_is.End (done (w.do_stat (refl, refl) told (refl, refl))))))))
    tell_stat (g.while_stat {i} {p} {e} {body} _ d_e _ d_body _) =
        subst ToldStat (sym (while_syntax i p e body))
        (tells (whole (keyword word_is.While (gap (part (tell_expr d_e) (λ t told. gap (keyword word_is.Do (lead (tell_body d_body _) (λ u told_body. keyword word_is.End (done (w.while_stat (refl, refl) told (refl, refl) told_body (refl, refl))))))))))))
    tell_stat (g.repeat_stat {i} {o} {body} {e} _ d_body _ d_e) =
        subst ToldStat (sym (repeat_syntax i o body e))
        (tells (whole (keyword word_is.Repeat (lead (tell_body d_body _) (λ t told. keyword word_is.Until (gap (last (tell_expr d_e) (λ u told_test. w.repeat_stat (refl, refl) told (refl, refl) told_test))))))))
    tell_stat (g.if_stat {i} {o} {arms} {last} _ d_arms d_other _) =
        subst ToldStat (sym (if_syntax i o arms last)) (tells (whole (keyword word_is.If (lead (tell_arms d_arms _) (λ t told. follow (tell_else d_other) (λ u told_else. if_told told u told_else))))))
    tell_stat (g.for_stat {i} {j} {s} {first} {limit} {step} {body} _ t_name _ d_start _ d_limit d_step _ d_body _) =
        subst ToldStat (sym (for_syntax i s j first limit step body))
        (tells (whole (keyword word_is.For (gap (leaf t_name (gap (sign sign_is.Assign (gap (part (tell_expr d_start) (λ t told. gap (sign sign_is.Comma (gap (part (tell_expr d_limit) (λ u told_limit. lead (tell_for_step d_step _) (λ v told_step.
        gap (keyword word_is.Do (lead (tell_body d_body _) (λ b told_body. keyword word_is.End (done (w.for_stat (refl, refl) (says_keeps t_name) (refl, refl) told (refl, refl) told_limit told_step (refl, refl) told_body (refl, refl)))))))))))))))))))))
    tell_stat (g.for_in_stat {i} {r} {names} {es} {body} _ d_names _ d_es _ d_body _) =
        subst ToldStat (sym (for_in_syntax i r names es body))
        (tells (whole (keyword word_is.For (gap (lead (tell_names toks source d_names _) (λ t told. gap (keyword word_is.In (gap (lead (tell_exprs d_es _) (λ u told_values.
        gap (keyword word_is.Do (lead (tell_body d_body _) (λ b told_body. keyword word_is.End (done (w.for_in_stat (refl, refl) told (refl, refl) told_values (refl, refl) told_body (refl, refl))))))))))))))))
    tell_stat (g.function_stat {i} {o} {path} {method} {f} _ d_path d_method d_f) =
        subst ToldStat (sym (function_stat_syntax i o path method f))
        (tells (whole (keyword word_is.Function (gap (lead (tell_path toks source d_path _) (λ t told. lead (tell_method toks source d_method _) (λ u told_method. follow (tell_func_body d_f) (λ v told_body. function_told path (w.function_stat (refl, refl) told told_method told_body)))))))))
    tell_stat (g.local_function_stat {i} {k} {o} {f} _ _ t_name d_f) =
        subst ToldStat (sym (local_function_syntax i o k f))
        (tells (whole (keyword word_is.Local (gap (keyword word_is.Function (gap (leaf t_name (follow (tell_func_body d_f) (λ t told. w.local_function_stat (refl, refl) (refl, refl) (says_keeps t_name) told)))))))))
    tell_stat (g.label_stat {i} {j} {l} _ t_name _) =
        subst ToldStat (sym (label_syntax i l j)) (tells (whole (sign sign_is.DoubleColon (gap (leaf t_name (gap (sign sign_is.DoubleColon (done (w.label_stat (refl, refl) (says_keeps t_name) (refl, refl))))))))))
    tell_stat (g.goto_stat {i} {j} {k} _ t_name) = subst ToldStat (sym (goto_syntax i k j)) (tells (whole (keyword word_is.Goto (gap (leaf t_name (done (w.goto_stat (refl, refl) (says_keeps t_name))))))))
    tell_stat (g.break_stat {i} {j} _) = subst ToldStat (sym (break_syntax i j)) (tells (lone_keyword word_is.Break (w.break_stat (refl, refl))))
    tell_stat (g.empty_stat {i} {j} _) = subst ToldStat (sym (empty_syntax i j)) silent

    tell_targets : {i k : ℕ} {x : List Expr} → AreTargets toks i k x → ToldTargets (expressions_of (map syntax_of_expr x))
    tell_targets (g.one_target d_e) = λ more. last (tell_variable d_e) (λ t told. w.one_target told)
    tell_targets (g.more_targets d_e _ d_es) =
        λ more. part (tell_variable d_e) (λ t told. behind_target d_es more (gap (sign sign_is.Comma (gap (follow (tell_targets d_es more) (λ u told_rest. w.more_targets told (refl, refl) told_rest))))))

    tell_arm : {i k : ℕ} {x : Arm} → IsArm toks i k x → ToldArm (syntax_of_arm x)
    tell_arm (g.arm {e} {body} d_e _ d_body) =
        subst ToldArm (sym (arm_of_syntax e body)) (λ more. gap (part (tell_expr d_e) (λ t told. gap (keyword word_is.Then (follow (tell_body d_body more) (λ u told_body. w.arm told (refl, refl) told_body))))))

    tell_arms : {i k : ℕ} {x : List Arm} → AreArms toks i k x → ToldArms (arms_of (map syntax_of_arm x))
    tell_arms (g.one_arm d_e) = λ more. follow (tell_arm d_e more) (λ t told. w.one_arm told)
    tell_arms (g.more_arms d_e _ d_es) = λ more. lead (tell_arm d_e _) (λ t told. behind_arm d_es more (keyword word_is.ElseIf (follow (tell_arms d_es more) (λ u told_rest. w.more_arms told (refl, refl) told_rest))))

    tell_else : {i k : ℕ} {x : Option Block} → IsElse toks i k x → ToldElse (optional_block_of (option_map syntax_of_block x))
    tell_else g.no_else = keyword word_is.End (done (else_end w.no_else))
    tell_else (g.an_else _ d_body) = keyword word_is.Else (lead (tell_body d_body _) (λ t told. keyword word_is.End (done (else_end (w.an_else (refl, refl) told)))))

    tell_for_step : {i k : ℕ} {x : Option Expr} → IsForStep toks i k x → ToldForStep (optional_expression_of (option_map syntax_of_expr x))
    tell_for_step g.no_for_step = λ more. done w.no_for_step
    tell_for_step (g.a_for_step _ d_e) = λ more. gap (sign sign_is.Comma (gap (last (tell_expr d_e) (λ t told. w.a_for_step (refl, refl) told))))

  pub tell_main : {i k : ℕ} {x : Block} → IsBlock toks i k x → ToldMain (syntax_of_block x)
  tell_main (g.block {i} {j} {stats} d_stats) = subst ToldMain (sym (block_of_syntax i j stats)) (tell_source string_has table_has (chosen_statements (words_of source.bytes) as_here (statements_of (map syntax_of_stat stats))) (tell_first d_stats))
