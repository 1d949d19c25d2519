-- Each part of a chunk is alike by ranks: its words are significant tokens, and its occurrences are those of its bare part
-- by ranks, with ranks for places.
use Rattle.std.proofs.Common.{◌≡◌, ℕ, ◌+◌, ◌-◌, Bool, true, false, ◌&&◌, Option, Some, None, List, [], ◌∷◌, ◌++◌, map, ap, sym, refl, subst, ◌∙◌, arith}
use Rattle.std.specs.Option.{option_map}
use Rattle.luf_lex.specs.declared.token.Tok.{Tok}
use Rattle.luf_tree.specs.declared.tree.Block.{Block}
use Rattle.luf_tree.specs.declared.tree.Stat.{Stat}
use Rattle.luf_tree.specs.declared.tree.Declared.{Declared}
use Rattle.luf_tree.specs.declared.tree.Arm.{Arm}
use Rattle.luf_tree.specs.declared.tree.FuncBody.{FuncBody}
use Rattle.luf_tree.specs.declared.tree.Expr.{Expr}
use Rattle.luf_tree.specs.declared.tree.ExprKind.TheVariants as expr
use Rattle.luf_tree.specs.declared.tree.Step.{Step}
use Rattle.luf_tree.specs.declared.tree.Suffix.{Suffix}
use Rattle.luf_tree.specs.declared.tree.Args.{Args}
use Rattle.luf_tree.specs.declared.tree.Field.{Field}
use Rattle.luf_tree.specs.Grammar as grammar
use Rattle.luf_tree.specs.Grammar.{At, IsToken, IsString, NoParenFollows, expression, statement, AreNames, AreParams, IsAttribute, AreDeclared, IsPath, IsMethod, IsSemicolon, IsExpr, AreSteps, IsOperand, IsSimple, IsPrefix, IsVariable, IsCall, IsParen, IsHead, AreSuffixes, IsSuffix, IsArgs, AreExprs, IsTable, AreFields, IsField, IsFuncBody, IsBlock, AreStats, IsReturn, IsStat, AreTargets, IsArm, AreArms, IsElse, IsForStep, IsChunk}
use Rattle.luf_tree.specs.Syntax as syntax
use Rattle.luf_tree.specs.TokenSyntax as tokens
use Rattle.luf_tree.specs.TokenSyntax.{from_to}
use Rattle.luf_tree.specs.SyntaxOf.{expressions_of, operations_of, suffixes_of, fields_of, statements_of, arms_of, optional_expression_of, optional_block_of, declared_of, first_of_path, rest_of_path, syntax_of_expr, syntax_of_block, syntax_of_stat, syntax_of_field, syntax_of_suffix, syntax_of_step, syntax_of_arm, syntax_of_args, syntax_of_body}
use Rattle.luf_tree.specs.SyntaxMap.{ShapeMap}
use Rattle.luf_bare.proofs.Ends.{between_none, between_one, place_before, exprs_end, field_end}
use Rattle.luf_bare.specs.Bare.{before, bare_declared, bare_expression, bare_optional_expression, bare_expressions, bare_operations, bare_suffix, bare_suffixes, bare_arguments, bare_field, bare_fields, bare_statement, bare_statements, bare_arm, bare_arms, bare_block, bare_optional_block, bare_function_body}
use Rattle.luf_bare.specs.Dropped.{between, if_dropped, dropped_expression, dropped_for_step, dropped_expressions, dropped_operations, dropped_suffix, dropped_suffixes, dropped_arguments, dropped_field, dropped_fields, dropped_statement, dropped_statements, dropped_arm, dropped_arms, dropped_block, dropped_else, dropped_body}
use Rattle.luf_tree.proofs.SyntaxEquations.{nil_syntax, true_syntax, false_syntax, number_syntax, string_syntax, vararg_syntax, name_syntax, paren_syntax, function_syntax, table_syntax, unary_syntax, chain_syntax, power_syntax, suffixed_syntax, empty_syntax, local_syntax, assign_syntax, call_syntax, do_syntax, while_syntax, repeat_syntax, if_syntax, for_syntax, for_in_syntax, function_stat_syntax, local_function_syntax, label_syntax, goto_syntax, break_syntax, return_syntax, item_syntax, named_syntax, keyed_syntax, dot_syntax, index_syntax, call_suffix_syntax, method_syntax, step_of_syntax, arm_of_syntax, args_of_syntax, block_of_syntax, body_of_syntax}
use Rattle.luf_bare.specs.Lone.{is_lone}
use Rattle.luf_bare.specs.Rank.{rank, ranks}
use Rattle.luf_bare.proofs.EachWritten.{Each, all_none, all_more}
use Rattle.luf_bare.proofs.RankedParts.{Step as Kept, Part, to, none, seq, kept, lost, kept_string, lost_one, between_room, separator_next}
use Rattle.luf_scope.specs.Occurrences.{Holder, span_of, is_void, are_void, declared_locals, loop_variables_of, parameters_of, loop_of, path_of, method_of, body_of, span_of_body, target_of, occurrences_in_expression, occurrences_in_optional_expression, occurrences_in_expressions, occurrences_in_targets, occurrences_in_operations, occurrences_in_suffix, occurrences_in_suffixes, occurrences_in_arguments, occurrences_in_field, occurrences_in_fields, occurrences_in_statement, occurrences_in_statements, occurrences_in_arm, occurrences_in_arms, occurrences_in_block, occurrences_in_repeated, occurrences_in_optional_block, occurrences_in_body}
use Rattle.luf_scope.specs.declared.occurrence.Occurrence.{Occurrence}
use Rattle.luf_scope.specs.declared.occurrence.Occurrence.TheVariants.{Local, LocalFunction, Parameter, ImplicitSelf, LoopVariable, Field as FieldName, Loop}
use Rattle.luf_resolved.proofs.Paired.{nothing, joined}
use Rattle.luf_resolved.proofs.Ranking.{Solid, SolidOption, Opened, Ranked, ranked_option, ranked_holder, more, solid, solid_string, opened}

-- ---- spans, and what is void, of a bare part

block_span : (f : ShapeMap tokens.Tokens tokens.Tokens) (b : tokens.Block) → span_of (bare_block f b) ≡ f.span (span_of b)
block_span f (syntax.block span body) = refl

body_span : (f : ShapeMap tokens.Tokens tokens.Tokens) (b : tokens.FunctionBody) → span_of_body (bare_function_body f b) ≡ f.span (span_of_body b)
body_span f (syntax.function_body span parameters vararg body) = refl

inner_span : (f : ShapeMap tokens.Tokens tokens.Tokens) (b : tokens.FunctionBody) → span_of (body_of (bare_function_body f b)) ≡ f.span (span_of (body_of b))
inner_span f (syntax.function_body span parameters vararg body) = block_span f body

void_before : (f : ShapeMap tokens.Tokens tokens.Tokens) (s : tokens.Statement) (rest : tokens.Statements) → are_void (before (bare_statement f s) rest) ≡ is_void s && are_void rest
void_before f (syntax.empty_statement span) rest = refl
void_before f (syntax.label span name) rest = refl
void_before f _ rest = refl

void_bare : (f : ShapeMap tokens.Tokens tokens.Tokens) (ss : tokens.Statements) → are_void (bare_statements f ss) ≡ are_void ss
void_bare f syntax.no_statements = refl
void_bare f (syntax.more_statements first rest) = void_before f first (bare_statements f rest) ∙ ap (λ v. is_void first && v) (void_bare f rest)

-- a statement in its block, if it is one of the program
abbrev occurs_if : Holder → Bool → Option tokens.Statement → List Occurrence
occurs_if holder ended None = []
occurs_if holder ended (Some s) = occurrences_in_statement holder ended s

occurs_before : (holder : Holder) (s : Option tokens.Statement) (rest : tokens.Statements) → occurrences_in_statements holder (before s rest) ≡ occurs_if holder (are_void rest) s ++ occurrences_in_statements holder rest
occurs_before holder None rest = refl
occurs_before holder (Some s) rest = refl

module _ (toks : List Tok) (all : List ℕ) {M : syntax.Shape} (f g : ShapeMap tokens.Tokens M) (spans : (s : tokens.Span) → f.span s ≡ g.span ((ranks all).span s))
    (names : (i : ℕ) → Solid toks all i → f.name i ≡ g.name (rank all i)) (labels : (i : ℕ) → Solid toks all i → f.label i ≡ g.label (rank all i)) (leaves : (i : ℕ) → Solid toks all i → f.leaf i ≡ g.leaf (rank all i)) where
  abbrev SolidAt : ℕ → Type 0
  SolidAt = Solid toks all

  abbrev SolidDeclared : tokens.DeclaredName → Type 0
  SolidDeclared d = Solid toks all d.name × SolidOption toks all d.attribute

  -- of a method its name and the `:` before it
  abbrev SolidMethod : Option ℕ → Type 0
  SolidMethod None = Unit {0}
  SolidMethod (Some name) = Solid toks all name × (Solid toks all (name - 1) × (rank all name - 1 ≡ rank all (name - 1)))

  name_at : {i : ℕ} → Solid toks all i → f.name i ≡ g.name (rank all i)
  name_at {i} s = names i s

  label_at : {i : ℕ} → Solid toks all i → f.label i ≡ g.label (rank all i)
  label_at {i} s = labels i s

  leaf_at : {i : ℕ} → Solid toks all i → f.leaf i ≡ g.leaf (rank all i)
  leaf_at {i} s = leaves i s

  colon_before : {t : Tok} {i j : ℕ} → IsToken toks i t j → Kept all i j → Solid toks all (j - 1) × (rank all j - 1 ≡ rank all (j - 1))
  colon_before {t} {i} {j} token s =
      let at : i ≡ j - 1 = omega (arith, token.next) in
      let one : rank all j - 1 ≡ rank all i = omega (arith, s.next) in
      (subst (Solid toks all) at (solid token s), one ∙ ap (rank all) at)

  -- ---- lists of words

  names_agree : {ts : List ℕ} → Each SolidAt ts → map f.name ts ≡ map g.name (map (rank all) ts)
  names_agree all_none = refl
  names_agree (all_more {x} s rest) = λ t. names x s t ∷ names_agree rest t

  leaves_agree : {ts : List ℕ} → Each SolidAt ts → map f.leaf ts ≡ map g.leaf (map (rank all) ts)
  leaves_agree all_none = refl
  leaves_agree (all_more {x} s rest) = λ t. leaves x s t ∷ leaves_agree rest t

  first_agrees : {ts : List ℕ} → Each SolidAt ts → option_map f.name (first_of_path ts) ≡ option_map g.name (option_map (rank all) (first_of_path ts))
  first_agrees all_none = refl
  first_agrees (all_more {x} s rest) = λ t. Some (names x s t)

  rest_agrees : {ts : List ℕ} → Each SolidAt ts → map f.leaf (rest_of_path ts) ≡ map g.leaf (map (rank all) (rest_of_path ts))
  rest_agrees all_none = refl
  rest_agrees (all_more s rest) = leaves_agree rest

  option_agrees : (a : Option ℕ) → SolidOption toks all a → option_map f.leaf a ≡ option_map g.leaf (option_map (rank all) a)
  option_agrees None s = refl
  option_agrees (Some x) s = λ t. Some (leaves x s t)

  method_agrees : (m : Option ℕ) → SolidMethod m → option_map f.leaf m ≡ option_map g.leaf (option_map (rank all) m)
  method_agrees None s = refl
  method_agrees (Some x) s = λ t. Some (leaves x s.0 t)

  declared_agree : {ds : List tokens.DeclaredName} → Each SolidDeclared ds → map (bare_declared f) ds ≡ map (bare_declared g) (map (bare_declared (ranks all)) ds)
  declared_agree all_none = refl
  declared_agree (all_more {x} s rest) = λ t. record { name = names x.name s.0 t; attribute = option_agrees x.attribute s.1 t } ∷ declared_agree rest t

  attribute_ranked : (a : Option ℕ) → option_map (rank all) a ≡ ranked_option toks all a
  attribute_ranked None = refl
  attribute_ranked (Some x) = refl

  declared_alike : {ds : List tokens.DeclaredName} → Each SolidDeclared ds → (from end : ℕ) → Ranked toks all (declared_locals from end ds) (declared_locals (rank all from) (rank all end) (map (bare_declared (ranks all)) ds))
  declared_alike all_none from end = nothing
  declared_alike (all_more {x} s rest) from end = more s (λ t. Local (rank all x.name) (attribute_ranked x.attribute t) (rank all from) (rank all end)) (declared_alike rest from end)

  variables_alike : {ts : List ℕ} → Each SolidAt ts → (b r : tokens.Span) → r ≡ (ranks all).span b → Ranked toks all (loop_variables_of b ts) (loop_variables_of r (map (rank all) ts))
  variables_alike all_none b r is = nothing
  variables_alike (all_more {x} s rest) b r is = more s (λ t. LoopVariable (rank all x) (is t).from (is t).to) (variables_alike rest b r is)

  parameters_alike : {ts : List ℕ} → Each SolidAt ts → (b r : tokens.Span) → r ≡ (ranks all).span b → Ranked toks all (parameters_of b ts) (parameters_of r (map (rank all) ts))
  parameters_alike all_none b r is = nothing
  parameters_alike (all_more {x} s rest) b r is = more s (λ t. Parameter (rank all x) (is t).from (is t).to) (parameters_alike rest b r is)

  fields_alike : {ts : List ℕ} → Each SolidAt ts → Ranked toks all (map FieldName ts) (map FieldName (map (rank all) ts))
  fields_alike all_none = nothing
  fields_alike (all_more s rest) = more s refl (fields_alike rest)

  path_alike : {ts : List ℕ} (m : Option ℕ) → Each SolidAt ts → SolidMethod m → Ranked toks all (path_of (first_of_path ts) (rest_of_path ts) m) (path_of (option_map (rank all) (first_of_path ts)) (map (rank all) (rest_of_path ts)) (option_map (rank all) m))
  path_alike m all_none s_m = nothing
  path_alike None (all_more s all_none) s_m = more s refl nothing
  path_alike (Some name) (all_more s all_none) s_m = more s refl nothing
  path_alike None (all_more s (all_more u rest)) s_m = more s refl (more u refl (fields_alike rest))
  path_alike (Some name) (all_more s (all_more u rest)) s_m = more s refl (more u refl (fields_alike rest))

  method_alike : (m : Option ℕ) → SolidMethod m → (b r : tokens.Span) → r ≡ (ranks all).span b → Ranked toks all (method_of b m) (method_of r (option_map (rank all) m))
  method_alike None s b r is = nothing
  method_alike (Some name) s b r is = more s.1.0 (λ t. ImplicitSelf (s.1.1 t) (is t).from (is t).to) (more s.0 refl nothing)

  -- ---- statements

  abbrev again : Option tokens.Statement → Option (syntax.Statement M)
  again None = None
  again (Some s) = bare_statement g s

  again_before : (s : Option tokens.Statement) (rest : tokens.Statements) → bare_statements g (before s rest) ≡ before (again s) (bare_statements g rest)
  again_before None rest = refl
  again_before (Some s) rest = refl

  more_alike : (s : tokens.Statement) (rest : tokens.Statements) (holder : Holder)
      → Ranked toks all (occurrences_in_statement holder (are_void rest) s) (occurs_if (ranked_holder toks all holder) (are_void rest) (bare_statement (ranks all) s))
      → Ranked toks all (occurrences_in_statements holder rest) (occurrences_in_statements (ranked_holder toks all holder) (bare_statements (ranks all) rest))
      → Ranked toks all (occurrences_in_statements holder (syntax.more_statements s rest)) (occurrences_in_statements (ranked_holder toks all holder) (before (bare_statement (ranks all) s) (bare_statements (ranks all) rest)))
  more_alike s rest holder first later =
      subst (λ z. Ranked toks all (occurrences_in_statements holder (syntax.more_statements s rest)) z) (sym (occurs_before (ranked_holder toks all holder) (bare_statement (ranks all) s) (bare_statements (ranks all) rest)))
      (joined (subst (λ v. Ranked toks all (occurrences_in_statement holder (are_void rest) s) (occurs_if (ranked_holder toks all holder) v (bare_statement (ranks all) s))) (sym (void_bare (ranks all) rest)) first) later)

  -- ---- parts

  abbrev ExpressionAlike : tokens.Expression → Type 0
  ExpressionAlike s = (bare_expression f s ≡ bare_expression g (bare_expression (ranks all) s)) × Ranked toks all (occurrences_in_expression s) (occurrences_in_expression (bare_expression (ranks all) s))

  abbrev ExpressionPart : ℕ → ℕ → List ℕ → tokens.Expression → Type 0
  ExpressionPart i k after s = Part all i k (dropped_expression s after) after (ExpressionAlike s)

  abbrev OperationsAlike : tokens.Operations → Type 0
  OperationsAlike s = (bare_operations f s ≡ bare_operations g (bare_operations (ranks all) s)) × Ranked toks all (occurrences_in_operations s) (occurrences_in_operations (bare_operations (ranks all) s))

  abbrev OperationsPart : ℕ → ℕ → List ℕ → tokens.Operations → Type 0
  OperationsPart i k after s = Part all i k (dropped_operations s after) after (OperationsAlike s)

  abbrev SuffixAlike : tokens.Suffix → Type 0
  SuffixAlike s = (bare_suffix f s ≡ bare_suffix g (bare_suffix (ranks all) s)) × Ranked toks all (occurrences_in_suffix s) (occurrences_in_suffix (bare_suffix (ranks all) s))

  abbrev SuffixPart : ℕ → ℕ → List ℕ → tokens.Suffix → Type 0
  SuffixPart i k after s = Part all i k (dropped_suffix s after) after (SuffixAlike s)

  abbrev SuffixesAlike : tokens.Suffixes → Type 0
  SuffixesAlike s = (bare_suffixes f s ≡ bare_suffixes g (bare_suffixes (ranks all) s)) × Ranked toks all (occurrences_in_suffixes s) (occurrences_in_suffixes (bare_suffixes (ranks all) s))

  abbrev SuffixesPart : ℕ → ℕ → List ℕ → tokens.Suffixes → Type 0
  SuffixesPart i k after s = Part all i k (dropped_suffixes s after) after (SuffixesAlike s)

  abbrev ArgumentsAlike : tokens.Arguments → Type 0
  ArgumentsAlike s = (bare_arguments f s ≡ bare_arguments g (bare_arguments (ranks all) s)) × Ranked toks all (occurrences_in_arguments s) (occurrences_in_arguments (bare_arguments (ranks all) s))

  abbrev ArgumentsPart : ℕ → ℕ → List ℕ → tokens.Arguments → Type 0
  ArgumentsPart i k after s = Part all i k (dropped_arguments s after) after (ArgumentsAlike s)

  abbrev ExpressionsAlike : tokens.Expressions → Type 0
  ExpressionsAlike s = (bare_expressions f s ≡ bare_expressions g (bare_expressions (ranks all) s)) × Ranked toks all (occurrences_in_expressions s) (occurrences_in_expressions (bare_expressions (ranks all) s))

  abbrev ExpressionsPart : ℕ → ℕ → List ℕ → tokens.Expressions → Type 0
  ExpressionsPart i k after s = Part all i k (dropped_expressions s after) after (ExpressionsAlike s)

  abbrev FieldAlike : tokens.Field → Type 0
  FieldAlike s = (bare_field f s ≡ bare_field g (bare_field (ranks all) s)) × Ranked toks all (occurrences_in_field s) (occurrences_in_field (bare_field (ranks all) s))

  abbrev FieldPart : ℕ → ℕ → List ℕ → tokens.Field → Type 0
  FieldPart i k after s = Part all i k (dropped_field s after) after (FieldAlike s)

  -- behind `function` or the name of a function
  abbrev BodyAlike : ℕ → tokens.FunctionBody → Type 0
  BodyAlike i s = (bare_function_body f s ≡ bare_function_body g (bare_function_body (ranks all) s)) × (Opened toks all i → Ranked toks all (occurrences_in_body s) (occurrences_in_body (bare_function_body (ranks all) s)))

  abbrev BodyPart : ℕ → ℕ → List ℕ → tokens.FunctionBody → Type 0
  BodyPart i k after s = Part all i k (dropped_body s after) after (BodyAlike i s)

  abbrev ArmAlike : tokens.Arm → Type 0
  ArmAlike s = (bare_arm f s ≡ bare_arm g (bare_arm (ranks all) s)) × Ranked toks all (occurrences_in_arm s) (occurrences_in_arm (bare_arm (ranks all) s))

  abbrev ArmPart : ℕ → ℕ → List ℕ → tokens.Arm → Type 0
  ArmPart i k after s = Part all i k (dropped_arm s after) after (ArmAlike s)

  abbrev ArmsAlike : tokens.Arms → Type 0
  ArmsAlike s = (bare_arms f s ≡ bare_arms g (bare_arms (ranks all) s)) × Ranked toks all (occurrences_in_arms s) (occurrences_in_arms (bare_arms (ranks all) s))

  abbrev ArmsPart : ℕ → ℕ → List ℕ → tokens.Arms → Type 0
  ArmsPart i k after s = Part all i k (dropped_arms s after) after (ArmsAlike s)

  abbrev ElseAlike : tokens.OptionalBlock → Type 0
  ElseAlike s = (bare_optional_block f s ≡ bare_optional_block g (bare_optional_block (ranks all) s)) × Ranked toks all (occurrences_in_optional_block s) (occurrences_in_optional_block (bare_optional_block (ranks all) s))

  abbrev ElsePart : ℕ → ℕ → List ℕ → tokens.OptionalBlock → Type 0
  ElsePart i k after s = Part all i k (dropped_else s after) after (ElseAlike s)

  abbrev ForStepAlike : tokens.OptionalExpression → Type 0
  ForStepAlike s = (bare_optional_expression f s ≡ bare_optional_expression g (bare_optional_expression (ranks all) s)) × Ranked toks all (occurrences_in_optional_expression s) (occurrences_in_optional_expression (bare_optional_expression (ranks all) s))

  abbrev ForStepPart : ℕ → ℕ → List ℕ → tokens.OptionalExpression → Type 0
  ForStepPart i k after s = Part all i k (dropped_for_step s after) after (ForStepAlike s)

  abbrev FieldsAlike : tokens.Fields → Type 0
  FieldsAlike s = (bare_fields f s ≡ bare_fields g (bare_fields (ranks all) s)) × Ranked toks all (occurrences_in_fields s) (occurrences_in_fields (bare_fields (ranks all) s))

  abbrev TargetPart : ℕ → ℕ → List ℕ → tokens.Expression → Type 0
  TargetPart i k after s = Part all i k (dropped_expression s after) after ((bare_expression f s ≡ bare_expression g (bare_expression (ranks all) s)) × Ranked toks all (target_of s (occurrences_in_expression s)) (target_of (bare_expression (ranks all) s) (occurrences_in_expression (bare_expression (ranks all) s))))

  abbrev TargetsPart : ℕ → ℕ → List ℕ → tokens.Expressions → Type 0
  TargetsPart i k after s = Part all i k (dropped_expressions s after) after ((bare_expressions f s ≡ bare_expressions g (bare_expressions (ranks all) s)) × Ranked toks all (occurrences_in_targets s) (occurrences_in_targets (bare_expressions (ranks all) s)))

  abbrev BlockPart : ℕ → ℕ → List ℕ → tokens.Block → Type 0
  BlockPart i k after s = Part all i k (dropped_block s after) after ((bare_block f s ≡ bare_block g (bare_block (ranks all) s)) × (Opened toks all i → Ranked toks all (occurrences_in_block s) (occurrences_in_block (bare_block (ranks all) s))) × (Opened toks all i → (end : ℕ) → Ranked toks all (occurrences_in_repeated end s) (occurrences_in_repeated (rank all end) (bare_block (ranks all) s))))

  abbrev StatementAlike : tokens.Statement → Type 0
  StatementAlike s = (bare_statement f s ≡ again (bare_statement (ranks all) s)) × ((holder : Holder) (ended : Bool) → Opened toks all holder.span.from → Ranked toks all (occurrences_in_statement holder ended s) (occurs_if (ranked_holder toks all holder) ended (bare_statement (ranks all) s)))

  abbrev StatementPart : ℕ → ℕ → List ℕ → tokens.Statement → Type 0
  StatementPart i k after s = Part all i k (dropped_statement s after) after (StatementAlike s)

  abbrev StatementsPart : ℕ → ℕ → List ℕ → tokens.Statements → Type 0
  StatementsPart i k after s = Part all i k (dropped_statements s after) after ((bare_statements f s ≡ bare_statements g (bare_statements (ranks all) s)) × ((holder : Holder) → Opened toks all holder.span.from → Ranked toks all (occurrences_in_statements holder s) (occurrences_in_statements (ranked_holder toks all holder) (bare_statements (ranks all) s))))

  -- arguments in parentheses, which are dropped round a lone one
  enclosed_by : (lone : Bool) {i j k l : ℕ} {t u : Tok} {C : Type 0} (items : tokens.Expressions) → IsToken toks i t j → ((more : List ℕ) → Part all j k (dropped_expressions items more) more C) → IsToken toks k u l
      → (after : List ℕ) → Part all i l (if_dropped lone i (dropped_expressions items (if_dropped lone k after))) after C
  enclosed_by true items t_l inner t_r after = to (lost t_l (seq (inner _) (lost t_r none))) (λ c. c.1.0)
  enclosed_by false items t_l inner t_r after = to (kept t_l (seq (inner _) (kept t_r none))) (λ c. c.1.0)

  enclosed_part : {i j k l : ℕ} {t u : Tok} {C : Type 0} (items : tokens.Expressions) → IsToken toks i t j → ((more : List ℕ) → Part all j k (dropped_expressions items more) more C) → IsToken toks k u l → (after : List ℕ) → Part all i l (dropped_arguments (syntax.arguments (from_to i l) true items) after) after C
  enclosed_part {i} {j} {k} {l} {t} {u} {C} items t_l inner t_r after =
      subst (λ z. Part all i l (if_dropped (is_lone items) i (dropped_expressions items (if_dropped (is_lone items) z after))) after C) (sym (place_before t_r.next))
      (enclosed_by (is_lone items) items t_l inner t_r after)

  names_part : {i k : ℕ} {names : List ℕ} → AreNames toks i k names → (after : List ℕ) → Part all i k after after (Each SolidAt names)
  names_part (grammar.one_name t) after = to (kept t none) (λ c. all_more (solid t c.0) all_none)
  names_part (grammar.more_names t c d) after = to (kept t (kept c (names_part d after))) (λ c. all_more (solid t c.0) c.1.1)

  params_part : {i k : ℕ} {names : List ℕ} {vararg : Bool} → AreParams toks i k names vararg → (after : List ℕ) → Part all i k after after (Each SolidAt names)
  params_part grammar.no_params after = to none (λ c. all_none)
  params_part (grammar.dots_alone t) after = to (kept t none) (λ c. all_none)
  params_part (grammar.names_alone d) after = names_part d after
  params_part (grammar.names_and_dots d c t) after = to (seq (names_part d _) (kept c (kept t none))) (λ c. c.0)

  attribute_part : {i k : ℕ} {a : Option ℕ} → IsAttribute toks i k a → (after : List ℕ) → Part all i k after after (SolidOption toks all a)
  attribute_part grammar.no_attribute after = to none (λ c. tt)
  attribute_part (grammar.an_attribute l t r) after = to (kept l (kept t (kept r none))) (λ c. solid t c.1.0)

  declared_part : {i k : ℕ} {ds : List Declared} → AreDeclared toks i k ds → (after : List ℕ) → Part all i k after after (Each SolidDeclared (map declared_of ds))
  declared_part (grammar.one_declared t d_a) after = to (kept t (attribute_part d_a after)) (λ c. all_more (solid t c.0, c.1) all_none)
  declared_part (grammar.more_declared t d_a c d) after = to (kept t (seq (attribute_part d_a _) (kept c (declared_part d after)))) (λ c. all_more (solid t c.0, c.1.0) c.1.1.1)

  path_part : {i k : ℕ} {path : List ℕ} → IsPath toks i k path → (after : List ℕ) → Part all i k after after (Each SolidAt path × Opened toks all k)
  path_part (grammar.path_end t) after = to (kept t none) (λ c. (all_more (solid t c.0) all_none, opened t c.0))
  path_part (grammar.path_more t c d) after = to (kept t (kept c (path_part d after))) (λ c. (all_more (solid t c.0) c.1.1.0, c.1.1.1))

  method_part : {i k : ℕ} {m : Option ℕ} → IsMethod toks i k m → (after : List ℕ) → Part all i k after after (SolidMethod m × (Opened toks all i → Opened toks all k))
  method_part grammar.no_method after = to none (λ c. (tt, (λ o. o)))
  method_part (grammar.a_method c t) after = to (kept c (kept t none)) (λ s. ((solid t s.1.0, colon_before c s.0), (λ _. opened t s.1.0)))

  semicolon_part : {i k : ℕ} → IsSemicolon toks i k → (after : List ℕ) → Part all i k (between i k after) after (Unit {0})
  semicolon_part (grammar.no_semicolon {i}) after = subst (λ z. Part all i i z after (Unit {0})) (sym (between_none i after)) none
  semicolon_part (grammar.a_semicolon {i} {j} t) after = subst (λ z. Part all i j z after (Unit {0})) (sym (between_one i j after (omega (arith, t.next)))) (to (lost t none) (λ c. tt))

  mutual
    expr_part : {m i k : ℕ} {x : Expr} → IsExpr toks m i k x → (after : List ℕ) → ExpressionPart i k after (syntax_of_expr x)
    expr_part (grammar.operand_expr d) after = operand_part d after
    expr_part (grammar.chain_expr {i} {k} {first} {rest} _ _ d d_rest) after = subst (ExpressionPart i k after) (sym (chain_syntax i k first rest)) (to (seq (expr_part d _) (steps_part d_rest after)) (λ c. let e = c.0 in let r = c.1 in ((λ t. syntax.chain (spans (from_to i k) t) (e.0 t) (r.0 t)), joined e.1 r.1)))

    steps_part : {m i k : ℕ} {x : List Step} → AreSteps toks m i k x → (after : List ℕ) → OperationsPart i k after (operations_of (map syntax_of_step x))
    steps_part (grammar.one_step {i} {k} {e} t_x _ d) after = subst (λ z. OperationsPart i k after (syntax.more_operations z syntax.no_operations)) (sym (step_of_syntax i e)) (to (kept t_x (expr_part d after)) (λ c. let s1 = c.0 in let o = c.1 in ((λ t. syntax.more_operations (syntax.operation (leaf_at (solid t_x s1) t) (o.0 t)) syntax.no_operations), joined o.1 nothing)))
    steps_part (grammar.more_steps {i} {l} {e} {rest} t_x _ d d_rest) after = subst (λ z. OperationsPart i l after (syntax.more_operations z (operations_of (map syntax_of_step rest)))) (sym (step_of_syntax i e)) (to (kept t_x (seq (expr_part d _) (steps_part d_rest after))) (λ c. let s1 = c.0 in let o = c.1.0 in let r = c.1.1 in ((λ t. syntax.more_operations (syntax.operation (leaf_at (solid t_x s1) t) (o.0 t)) (r.0 t)), joined o.1 r.1)))

    operand_part : {i k : ℕ} {x : Expr} → IsOperand toks i k x → (after : List ℕ) → ExpressionPart i k after (syntax_of_expr x)
    operand_part (grammar.unary_operand {i} {k} {e} t_x _ d) after = subst (ExpressionPart i k after) (sym (unary_syntax i k e)) (to (kept t_x (operand_part d after)) (λ c. let s1 = c.0 in let o = c.1 in ((λ t. syntax.unary (spans (from_to i k) t) (leaf_at (solid t_x s1) t) (o.0 t)), o.1)))
    operand_part (grammar.power_operand {i} {j} {l} {base} {exponent} d t_x d_exponent) after = subst (ExpressionPart i l after) (sym (power_syntax i l base j exponent)) (to (seq (simple_part d _) (kept t_x (operand_part d_exponent after))) (λ c. let b = c.0 in let s1 = c.1.0 in let r = c.1.1 in ((λ t. syntax.power (spans (from_to i l) t) (b.0 t) (leaf_at (solid t_x s1) t) (r.0 t)), joined b.1 r.1)))
    operand_part (grammar.simple_operand d) after = simple_part d after

    simple_part : {i k : ℕ} {x : Expr} → IsSimple toks i k x → (after : List ℕ) → ExpressionPart i k after (syntax_of_expr x)
    simple_part (grammar.nil_simple {i} {j} t_x) after = subst (ExpressionPart i j after) (sym (nil_syntax i j)) (to (kept t_x none) (λ c. ((λ t. syntax.nil_value (spans (from_to i j) t)), nothing)))
    simple_part (grammar.true_simple {i} {j} t_x) after = subst (ExpressionPart i j after) (sym (true_syntax i j)) (to (kept t_x none) (λ c. ((λ t. syntax.true_value (spans (from_to i j) t)), nothing)))
    simple_part (grammar.false_simple {i} {j} t_x) after = subst (ExpressionPart i j after) (sym (false_syntax i j)) (to (kept t_x none) (λ c. ((λ t. syntax.false_value (spans (from_to i j) t)), nothing)))
    simple_part (grammar.vararg_simple {i} {j} t_x) after = subst (ExpressionPart i j after) (sym (vararg_syntax i j)) (to (kept t_x none) (λ c. ((λ t. syntax.varargs (spans (from_to i j) t)), more (solid t_x c.0) refl nothing)))
    simple_part (grammar.number_simple {i} {j} t_x) after = subst (ExpressionPart i j after) (sym (number_syntax i j)) (to (kept t_x none) (λ c. let s1 = c.0 in ((λ t. syntax.numeral (spans (from_to i j) t) (leaf_at (solid t_x s1) t)), nothing)))
    simple_part (grammar.string_simple {i} {j} t_x) after = subst (ExpressionPart i j after) (sym (string_syntax i j)) (to (kept_string t_x none) (λ c. let s1 = c.0 in ((λ t. syntax.string (spans (from_to i j) t) (leaf_at (solid_string t_x s1) t)), nothing)))
    simple_part (grammar.function_simple {i} {k} {f} t_x d) after = subst (ExpressionPart i k after) (sym (function_syntax i k f)) (to (kept t_x (func_body_part d after)) (λ c. let s1 = c.0 in let b = c.1 in ((λ t. syntax.function (spans (from_to i k) t) (b.0 t)), b.1 (opened t_x s1))))
    simple_part (grammar.table_simple {i} {j} {fields} d) after = subst (ExpressionPart i j after) (sym (table_syntax i j fields)) (table_part d after)
    simple_part (grammar.prefix_simple d _) after = prefix_part d after

    prefix_part : {i k : ℕ} {x : Expr} → IsPrefix toks i k x → (after : List ℕ) → ExpressionPart i k after (syntax_of_expr x)
    prefix_part (grammar.variable_prefix d) after = variable_part d after
    prefix_part (grammar.call_prefix d) after = call_part d after
    prefix_part (grammar.paren_prefix d) after = paren_part d after

    variable_part : {i k : ℕ} {x : Expr} → IsVariable toks i k x → (after : List ℕ) → ExpressionPart i k after (syntax_of_expr x)
    variable_part (grammar.name_variable {i} {j} t_x) after = subst (ExpressionPart i j after) (sym (name_syntax i j)) (to (kept t_x none) (λ c. let s1 = c.0 in ((λ t. syntax.variable (spans (from_to i j) t) (name_at (solid t_x s1) t)), more (solid t_x s1) refl nothing)))
    variable_part (grammar.suffixed_variable {i} {k} {head} {suffixes} d d_suffixes) after = subst (ExpressionPart i k after) (sym (suffixed_syntax i k head suffixes)) (to (seq (head_part d _) (suffixes_part d_suffixes after)) (λ c. let e = c.0 in let r = c.1 in ((λ t. syntax.suffixed (spans (from_to i k) t) (e.0 t) (r.0 t)), joined e.1 r.1)))

    target_part : {i k : ℕ} {x : Expr} → IsVariable toks i k x → (after : List ℕ) → TargetPart i k after (syntax_of_expr x)
    target_part (grammar.name_variable {i} {j} t_x) after = subst (TargetPart i j after) (sym (name_syntax i j)) (to (kept t_x none) (λ c. let s1 = c.0 in ((λ t. syntax.variable (spans (from_to i j) t) (name_at (solid t_x s1) t)), more (solid t_x s1) refl nothing)))
    target_part (grammar.suffixed_variable {i} {k} {head} {suffixes} d d_suffixes) after = subst (TargetPart i k after) (sym (suffixed_syntax i k head suffixes)) (to (seq (head_part d _) (suffixes_part d_suffixes after)) (λ c. let e = c.0 in let r = c.1 in ((λ t. syntax.suffixed (spans (from_to i k) t) (e.0 t) (r.0 t)), joined e.1 r.1)))

    call_part : {i k : ℕ} {x : Expr} → IsCall toks i k x → (after : List ℕ) → ExpressionPart i k after (syntax_of_expr x)
    call_part (grammar.suffixed_call {i} {k} {head} {suffixes} d d_suffixes) after = subst (ExpressionPart i k after) (sym (suffixed_syntax i k head suffixes)) (to (seq (head_part d _) (suffixes_part d_suffixes after)) (λ c. let e = c.0 in let r = c.1 in ((λ t. syntax.suffixed (spans (from_to i k) t) (e.0 t) (r.0 t)), joined e.1 r.1)))

    paren_part : {i k : ℕ} {x : Expr} → IsParen toks i k x → (after : List ℕ) → ExpressionPart i k after (syntax_of_expr x)
    paren_part (grammar.paren {i} {l} {e} t_l d t_r) after = subst (ExpressionPart i l after) (sym (paren_syntax i l e)) (to (kept t_l (seq (expr_part d _) (kept t_r none))) (λ c. let o = c.1.0 in ((λ t. syntax.parenthesised (spans (from_to i l) t) (o.0 t)), o.1)))

    head_part : {i k : ℕ} {x : Expr} → IsHead toks i k x → (after : List ℕ) → ExpressionPart i k after (syntax_of_expr x)
    head_part (grammar.name_head {i} {j} t_x) after = subst (ExpressionPart i j after) (sym (name_syntax i j)) (to (kept t_x none) (λ c. let s1 = c.0 in ((λ t. syntax.variable (spans (from_to i j) t) (name_at (solid t_x s1) t)), more (solid t_x s1) refl nothing)))
    head_part (grammar.paren_head d) after = paren_part d after

    suffixes_part : {calls : Bool} {i k : ℕ} {x : List Suffix} → AreSuffixes toks calls i k x → (after : List ℕ) → SuffixesPart i k after (suffixes_of (map syntax_of_suffix x))
    suffixes_part (grammar.one_suffix d) after = to (suffix_part d after) (λ c. let e = c in ((λ t. syntax.more_suffixes (e.0 t) syntax.no_suffixes), joined e.1 nothing))
    suffixes_part (grammar.more_suffixes d d_rest) after = to (seq (suffix_part d _) (suffixes_part d_rest after)) (λ c. let e = c.0 in let r = c.1 in ((λ t. syntax.more_suffixes (e.0 t) (r.0 t)), joined e.1 r.1))

    suffix_part : {calls : Bool} {i k : ℕ} {x : Suffix} → IsSuffix toks calls i k x → (after : List ℕ) → SuffixPart i k after (syntax_of_suffix x)
    suffix_part (grammar.dot_suffix {i} {j} {k} t_d t_x) after = subst (SuffixPart i k after) (sym (dot_syntax j)) (to (kept t_d (kept t_x none)) (λ c. let s2 = c.1.0 in ((λ t. syntax.name_suffix (leaf_at (solid t_x s2) t)), more (solid t_x s2) refl nothing)))
    suffix_part (grammar.index_suffix {i} {l} {e} t_l d t_r) after = subst (SuffixPart i l after) (sym (index_syntax e)) (to (kept t_l (seq (expr_part d _) (kept t_r none))) (λ c. let o = c.1.0 in ((λ t. syntax.index_suffix (o.0 t)), o.1)))
    suffix_part (grammar.call_suffix {i} {j} {args} d) after = subst (SuffixPart i j after) (sym (call_suffix_syntax args)) (to (args_part d after) (λ c. let a = c in ((λ t. syntax.call_suffix (a.0 t)), a.1)))
    suffix_part (grammar.method_suffix {i} {j} {l} {args} t_c t_x d) after = subst (SuffixPart i l after) (sym (method_syntax j args)) (to (kept t_c (kept t_x (args_part d after))) (λ c. let s2 = c.1.0 in let a = c.1.1 in ((λ t. syntax.method_suffix (leaf_at (solid t_x s2) t) (a.0 t)), more (solid t_x s2) refl a.1)))

    args_part : {i k : ℕ} {x : Args} → IsArgs toks i k x → (after : List ℕ) → ArgumentsPart i k after (syntax_of_args x)
    args_part (grammar.no_args {i} {k} t_l t_r) after = subst (ArgumentsPart i k after) (sym (args_of_syntax i k true [])) (to (kept t_l (kept t_r none)) (λ c. ((λ t. syntax.arguments (spans (from_to i k) t) true syntax.no_expressions), nothing)))
    args_part (grammar.list_args {i} {l} {es} t_l d t_r) after = subst (ArgumentsPart i l after) (sym (args_of_syntax i l true es)) (to (enclosed_part (expressions_of (map syntax_of_expr es)) t_l (λ more. exprs_part d more) t_r after) (λ e. ((λ t. syntax.arguments (spans (from_to i l) t) true (e.0 t)), e.1)))
    args_part (grammar.string_args {i} {j} t_x) after = subst (ArgumentsPart i j after) (sym (args_of_syntax i j false (expression i j expr.Str ∷ []) ∙ ap (λ z. syntax.arguments (from_to i j) false (syntax.more_expressions z syntax.no_expressions)) (string_syntax i j))) (to (kept_string t_x none) (λ c. let s1 = c.0 in ((λ t. syntax.arguments (spans (from_to i j) t) true (syntax.more_expressions (syntax.string (spans (from_to i j) t) (leaf_at (solid_string t_x s1) t)) syntax.no_expressions)), nothing)))
    args_part (grammar.table_args {i} {j} {fields} d) after = subst (ArgumentsPart i j after) (sym (args_of_syntax i j false (expression i j (expr.Table fields) ∷ []) ∙ ap (λ z. syntax.arguments (from_to i j) false (syntax.more_expressions z syntax.no_expressions)) (table_syntax i j fields))) (to (table_part d after) (λ c. let e = c in ((λ t. syntax.arguments (spans (from_to i j) t) true (syntax.more_expressions (e.0 t) syntax.no_expressions)), joined e.1 nothing)))

    exprs_part : {i k : ℕ} {x : List Expr} → AreExprs toks i k x → (after : List ℕ) → ExpressionsPart i k after (expressions_of (map syntax_of_expr x))
    exprs_part (grammar.one_expr d) after = to (expr_part d after) (λ c. let e = c in ((λ t. syntax.more_expressions (e.0 t) syntax.no_expressions), joined e.1 nothing))
    exprs_part (grammar.more_exprs d t_c d_rest) after = to (seq (expr_part d _) (kept t_c (exprs_part d_rest after))) (λ c. let e = c.0 in let r = c.1.1 in ((λ t. syntax.more_expressions (e.0 t) (r.0 t)), joined e.1 r.1))

    table_part : {i k : ℕ} {x : List Field} → IsTable toks i k x → (after : List ℕ) → ExpressionPart i k after (syntax.table (from_to i k) (fields_of (map syntax_of_field x)))
    table_part (grammar.table {i} {k} {l} {fields} t_l d t_r) after = subst (λ z. Part all i l (dropped_fields (fields_of (map syntax_of_field fields)) z after) after (ExpressionAlike (syntax.table (from_to i l) (fields_of (map syntax_of_field fields))))) (sym (place_before t_r.next)) (to (kept t_l (seq (fields_part d _) (kept t_r none))) (λ c. let r = c.1.0 in ((λ t. syntax.table (spans (from_to i l) t) (r.0 t)), r.1)))

    fields_part : {i k : ℕ} {x : List Field} → AreFields toks i k x → (after : List ℕ) → Part all i k (dropped_fields (fields_of (map syntax_of_field x)) k after) after (FieldsAlike (fields_of (map syntax_of_field x)))
    fields_part grammar.no_fields after = to (none) (λ c. ((refl), nothing))
    fields_part (grammar.last_field {i} {j} {f} d) after = subst (λ z. Part all i j (dropped_field (syntax_of_field f) z) after (FieldsAlike (fields_of (map syntax_of_field (f ∷ []))))) (sym (ap (λ z. between z j after) (field_end d) ∙ between_none j after)) (to (field_part d after) (λ c. let e = c in ((λ t. syntax.more_fields (e.0 t) syntax.no_fields), joined e.1 nothing)))
    fields_part (grammar.more_fields {i} {j} {k} {l} {f} {fields} d t_s d_fields) after = subst (λ z. Part all i l (dropped_field (syntax_of_field f) z) after (FieldsAlike (fields_of (map syntax_of_field (f ∷ fields))))) (sym (ap (λ z. between z l (dropped_fields (fields_of (map syntax_of_field fields)) l after)) (field_end d) ∙ between_one j l _ (between_room (separator_next t_s) (fields_part d_fields after)))) (to (seq (field_part d _) (lost_one t_s (fields_part d_fields after))) (λ c. let e = c.0 in let r = c.1.1 in ((λ t. syntax.more_fields (e.0 t) (r.0 t)), joined e.1 r.1)))

    field_part : {i k : ℕ} {x : Field} → IsField toks i k x → (after : List ℕ) → FieldPart i k after (syntax_of_field x)
    field_part (grammar.keyed_field {i} {p} {key} {value} t_l d_key t_r t_a d) after = subst (FieldPart i p after) (sym (keyed_syntax key value)) (to (kept t_l (seq (expr_part d_key _) (kept t_r (kept t_a (expr_part d after))))) (λ c. let e = c.1.0 in let r = c.1.1.1.1 in ((λ t. syntax.keyed_field (e.0 t) (r.0 t)), joined e.1 r.1)))
    field_part (grammar.named_field {i} {l} {value} t_x t_a d) after = subst (FieldPart i l after) (sym (named_syntax i value)) (to (kept t_x (kept t_a (expr_part d after))) (λ c. let s1 = c.0 in let e = c.1.1 in ((λ t. syntax.named_field (leaf_at (solid t_x s1) t) (e.0 t)), more (solid t_x s1) refl e.1)))
    field_part (grammar.item_field {i} {j} {e} d) after = subst (FieldPart i j after) (sym (item_syntax e)) (to (expr_part d after) (λ c. let o = c in ((λ t. syntax.item_field (o.0 t)), o.1)))

    func_body_part : {i k : ℕ} {x : FuncBody} → IsFuncBody toks i k x → (after : List ℕ) → BodyPart i k after (syntax_of_body x)
    func_body_part (grammar.func_body {i} {p} {params} {vararg} {body} t_l d_params t_r d t_z) after = subst (BodyPart i p after) (sym (body_of_syntax i p params vararg body)) (to (kept t_l (seq (params_part d_params _) (kept t_r (seq (block_part d _) (kept t_z none))))) (λ c. let r = c.1.0 in let s2 = c.1.1.0 in let b = c.1.1.1.0 in let s3 = c.1.1.1.1.0 in ((λ t. syntax.function_body (spans (from_to i p) t) (names_agree r t) vararg (b.0 t)), (λ o. more (o, opened t_z s3) refl (joined (parameters_alike r (span_of (syntax_of_block body)) (span_of (bare_block (ranks all) (syntax_of_block body))) (block_span (ranks all) (syntax_of_block body))) (b.1 (opened t_r s2)))))))

    pub block_part : {i k : ℕ} {x : Block} → IsBlock toks i k x → (after : List ℕ) → BlockPart i k after (syntax_of_block x)
    block_part (grammar.block {i} {j} {stats} d) after = subst (BlockPart i j after) (sym (block_of_syntax i j stats)) (to (stats_part d after) (λ c. let r = c in ((λ t. syntax.block (spans (from_to i j) t) (r.0 t)), (λ o. r.1 (record { span = from_to i j; end = j; until = false }) o), (λ o end. r.1 (record { span = from_to i j; end = end; until = true }) o))))

    stats_part : {i k : ℕ} {x : List Stat} → AreStats toks i k x → (after : List ℕ) → StatementsPart i k after (statements_of (map syntax_of_stat x))
    stats_part grammar.no_stats after = to (none) (λ c. ((refl), (λ holder o. nothing)))
    stats_part (grammar.last_stat {s} d) after = to (return_part d after) (λ c. let e = c in (((λ t. before (e.0 t) syntax.no_statements) ∙ sym (again_before (bare_statement (ranks all) (syntax_of_stat s)) syntax.no_statements)), (λ holder o. more_alike (syntax_of_stat s) syntax.no_statements holder (e.1 holder true o) nothing)))
    stats_part (grammar.more_stats {s} {stats} d d_rest) after = to (seq (stat_part d _) (stats_part d_rest after)) (λ c. let e = c.0 in let r = c.1 in (((λ t. before (e.0 t) (r.0 t)) ∙ sym (again_before (bare_statement (ranks all) (syntax_of_stat s)) (bare_statements (ranks all) (statements_of (map syntax_of_stat stats))))), (λ holder o. more_alike (syntax_of_stat s) (statements_of (map syntax_of_stat stats)) holder (e.1 holder (are_void (statements_of (map syntax_of_stat stats))) o) (r.1 holder o))))

    return_part : {i k : ℕ} {x : Stat} → IsReturn toks i k x → (after : List ℕ) → StatementPart i k after (syntax_of_stat x)
    return_part (grammar.return_nothing {i} {j} {k} t s) after = subst (StatementPart i k after) (sym (return_syntax i k [])) (subst (λ z. Part all i k (between z k after) after (StatementAlike (syntax.return_statement (from_to i k) syntax.no_expressions))) t.next (to (kept t (semicolon_part s after)) (λ c. ((λ t. Some (syntax.return_statement (spans (from_to i k) t) syntax.no_expressions)), (λ holder ended o. nothing)))))
    return_part (grammar.return_values {i} {l} {es} t d s) after = subst (StatementPart i l after) (sym (return_syntax i l es)) (subst (λ z. Part all i l (dropped_expressions (expressions_of (map syntax_of_expr es)) (between z l after)) after (StatementAlike (syntax.return_statement (from_to i l) (expressions_of (map syntax_of_expr es))))) (sym (exprs_end (i + 1) d)) (to (kept t (seq (exprs_part d _) (semicolon_part s after))) (λ c. let e = c.1.0 in ((λ t. Some (syntax.return_statement (spans (from_to i l) t) (e.0 t))), (λ holder ended o. e.1)))))

    stat_part : {i k : ℕ} {x : Stat} → IsStat toks i k x → (after : List ℕ) → StatementPart i k after (syntax_of_stat x)
    stat_part (grammar.local_stat {i} {k} {declared} t_x d) after = subst (StatementPart i k after) (sym (local_syntax i k declared [])) (to (kept t_x (declared_part d after)) (λ c. let r = c.1 in ((λ t. Some (syntax.local_statement (spans (from_to i k) t) (declared_agree r t) syntax.no_expressions)), (λ holder ended o. joined (declared_alike r k holder.end) nothing))))
    stat_part (grammar.local_values_stat {i} {o} {declared} {es} t d t_a d_es) after = subst (StatementPart i o after) (sym (local_syntax i o declared es)) (to (kept t (seq (declared_part d _) (kept t_a (exprs_part d_es after)))) (λ c. let r = c.1.0 in let e = c.1.1.1 in ((λ t. Some (syntax.local_statement (spans (from_to i o) t) (declared_agree r t) (e.0 t))), (λ holder ended opening. joined (declared_alike r o holder.end) e.1))))
    stat_part (grammar.assign_stat {i} {l} {targets} {es} d t_a d_es) after = subst (StatementPart i l after) (sym (assign_syntax i l targets es)) (to (seq (targets_part d _) (kept t_a (exprs_part d_es after))) (λ c. let r = c.0 in let e = c.1.1 in ((λ t. Some (syntax.assignment (spans (from_to i l) t) (r.0 t) (e.0 t))), (λ holder ended o. joined r.1 e.1))))
    stat_part (grammar.call_stat {i} {j} {e} d _) after = subst (StatementPart i j after) (sym (call_syntax i j e)) (to (call_part d after) (λ c. let c_e = c in ((λ t. Some (syntax.call_statement (spans (from_to i j) t) (c_e.0 t))), (λ holder ended o. c_e.1))))
    stat_part (grammar.do_stat {i} {l} {body} t_x d t_z) after = subst (StatementPart i l after) (sym (do_syntax i l body)) (to (kept t_x (seq (block_part d _) (kept t_z none))) (λ c. let s1 = c.0 in let b = c.1.0 in ((λ t. Some (syntax.do_statement (spans (from_to i l) t) (b.0 t))), (λ holder ended o. b.1 (opened t_x s1)))))
    stat_part (grammar.while_stat {i} {p} {e} {body} t_x d_e t_y d t_z) after = subst (StatementPart i p after) (sym (while_syntax i p e body)) (to (kept t_x (seq (expr_part d_e _) (kept t_y (seq (block_part d _) (kept t_z none))))) (λ c. let test = c.1.0 in let s2 = c.1.1.0 in let b = c.1.1.1.0 in ((λ t. Some (syntax.while_statement (spans (from_to i p) t) (test.0 t) (b.0 t))), (λ holder ended o. joined test.1 (more {u = Loop (span_of (syntax_of_block body)).from (span_of (syntax_of_block body)).to} {v = loop_of (span_of (bare_block (ranks all) (syntax_of_block body)))} tt (λ t. loop_of (block_span (ranks all) (syntax_of_block body) t)) (b.1 (opened t_y s2)))))))
    stat_part (grammar.repeat_stat {i} {o} {body} {e} t_x d t_y d_e) after = subst (StatementPart i o after) (sym (repeat_syntax i o body e)) (to (kept t_x (seq (block_part d _) (kept t_y (expr_part d_e after)))) (λ c. let s1 = c.0 in let b = c.1.0 in let test = c.1.1.1 in ((λ t. Some (syntax.repeat_statement (spans (from_to i o) t) (b.0 t) (test.0 t))), (λ holder ended opening. joined (more {u = Loop (span_of (syntax_of_block body)).from (span_of (syntax_of_block body)).to} {v = loop_of (span_of (bare_block (ranks all) (syntax_of_block body)))} tt (λ t. loop_of (block_span (ranks all) (syntax_of_block body) t)) (b.2 (opened t_x s1) o)) test.1))))
    stat_part (grammar.if_stat {i} {o} {arms} {last} t_x d d_other t_z) after = subst (StatementPart i o after) (sym (if_syntax i o arms last)) (to (kept t_x (seq (arms_part d _) (seq (else_part d_other _) (kept t_z none)))) (λ c. let r = c.1.0 in let e = c.1.1.0 in ((λ t. Some (syntax.if_statement (spans (from_to i o) t) (r.0 t) (e.0 t))), (λ holder ended o. joined r.1 e.1))))
    stat_part (grammar.for_stat {i} {j} {s} {first} {limit} {step} {body} t_x t_name t_a d_first t_c d_limit d_step t_y d t_z) after = subst (StatementPart i s after) (sym (for_syntax i s j first limit step body)) (to (kept t_x (kept t_name (kept t_a (seq (expr_part d_first _) (kept t_c (seq (expr_part d_limit _) (seq (for_step_part d_step _) (kept t_y (seq (block_part d _) (kept t_z none)))))))))) (λ c. let s2 = c.1.0 in let u = c.1.1.1.0 in let v = c.1.1.1.1.1.0 in let w = c.1.1.1.1.1.1.0 in let s5 = c.1.1.1.1.1.1.1.0 in let b = c.1.1.1.1.1.1.1.1.0 in ((λ t. Some (syntax.for_statement (spans (from_to i s) t) (name_at (solid t_name s2) t) (u.0 t) (v.0 t) (w.0 t) (b.0 t))), (λ holder ended o. joined (joined (joined (joined (variables_alike (all_more (solid t_name s2) all_none) (span_of (syntax_of_block body)) (span_of (bare_block (ranks all) (syntax_of_block body))) (block_span (ranks all) (syntax_of_block body))) u.1) v.1) w.1) (more {u = Loop (span_of (syntax_of_block body)).from (span_of (syntax_of_block body)).to} {v = loop_of (span_of (bare_block (ranks all) (syntax_of_block body)))} tt (λ t. loop_of (block_span (ranks all) (syntax_of_block body) t)) (b.1 (opened t_y s5)))))))
    stat_part (grammar.for_in_stat {i} {r} {names} {es} {body} t_x d_names t_y d_es t_d d t_z) after = subst (StatementPart i r after) (sym (for_in_syntax i r names es body)) (to (kept t_x (seq (names_part d_names _) (kept t_y (seq (exprs_part d_es _) (kept t_d (seq (block_part d _) (kept t_z none))))))) (λ c. let vs = c.1.0 in let e = c.1.1.1.0 in let s3 = c.1.1.1.1.0 in let b = c.1.1.1.1.1.0 in ((λ t. Some (syntax.for_in_statement (spans (from_to i r) t) (names_agree vs t) (e.0 t) (b.0 t))), (λ holder ended o. joined (joined (variables_alike vs (span_of (syntax_of_block body)) (span_of (bare_block (ranks all) (syntax_of_block body))) (block_span (ranks all) (syntax_of_block body))) e.1) (more {u = Loop (span_of (syntax_of_block body)).from (span_of (syntax_of_block body)).to} {v = loop_of (span_of (bare_block (ranks all) (syntax_of_block body)))} tt (λ t. loop_of (block_span (ranks all) (syntax_of_block body) t)) (b.1 (opened t_d s3)))))))
    stat_part (grammar.function_stat {i} {o} {path} {method} {f} t_x d_path d_method d) after = subst (StatementPart i o after) (sym (function_stat_syntax i o path method f)) (to (kept t_x (seq (path_part d_path _) (seq (method_part d_method _) (func_body_part d after)))) (λ c. let p = c.1.0 in let m = c.1.1.0 in let b = c.1.1.1 in ((λ t. Some (syntax.function_statement (spans (from_to i o) t) (first_agrees p.0 t) (rest_agrees p.0 t) (method_agrees method m.0 t) (b.0 t))), (λ holder ended opening. joined (joined (path_alike method p.0 m.0) (method_alike method m.0 (span_of (body_of (syntax_of_body f))) (span_of (body_of (bare_function_body (ranks all) (syntax_of_body f)))) (inner_span (ranks all) (syntax_of_body f)))) (b.1 (m.1 p.1))))))
    stat_part (grammar.local_function_stat {i} {k} {o} {f} t_x t_y t_name d) after = subst (StatementPart i o after) (sym (local_function_syntax i o k f)) (to (kept t_x (kept t_y (kept t_name (func_body_part d after)))) (λ c. let s3 = c.1.1.0 in let b = c.1.1.1 in ((λ t. Some (syntax.local_function_statement (spans (from_to i o) t) (name_at (solid t_name s3) t) (b.0 t))), (λ holder ended opening. more (solid t_name s3) (λ t. LocalFunction (rank all k) (body_span (ranks all) (syntax_of_body f) t).from (rank all holder.end)) (b.1 (opened t_name s3))))))
    stat_part (grammar.label_stat {i} {j} {l} t_x t_name t_y) after = subst (StatementPart i l after) (sym (label_syntax i l j)) (to (kept t_x (kept t_name (kept t_y none))) (λ c. let s2 = c.1.0 in ((λ t. Some (syntax.label (spans (from_to i l) t) (label_at (solid t_name s2) t))), (λ holder ended o. more ((solid t_name s2), o) refl nothing))))
    stat_part (grammar.goto_stat {i} {j} {k} t_x t_name) after = subst (StatementPart i k after) (sym (goto_syntax i k j)) (to (kept t_x (kept t_name none)) (λ c. let s1 = c.0 in let s2 = c.1.0 in ((λ t. Some (syntax.goto_statement (spans (from_to i k) t) (label_at (solid t_name s2) t))), (λ holder ended o. more ((solid t_x s1), (solid t_name s2)) refl nothing))))
    stat_part (grammar.break_stat {i} {j} t_x) after = subst (StatementPart i j after) (sym (break_syntax i j)) (to (kept t_x none) (λ c. ((λ t. Some (syntax.break_statement (spans (from_to i j) t))), (λ holder ended o. more (solid t_x c.0) refl nothing))))
    stat_part (grammar.empty_stat {i} {j} t_x) after = subst (StatementPart i j after) (sym (empty_syntax i j)) (to (lost t_x none) (λ c. ((refl), (λ holder ended o. nothing))))

    targets_part : {i k : ℕ} {x : List Expr} → AreTargets toks i k x → (after : List ℕ) → TargetsPart i k after (expressions_of (map syntax_of_expr x))
    targets_part (grammar.one_target d) after = to (target_part d after) (λ c. let e = c in ((λ t. syntax.more_expressions (e.0 t) syntax.no_expressions), joined e.1 nothing))
    targets_part (grammar.more_targets d t_c d_rest) after = to (seq (target_part d _) (kept t_c (targets_part d_rest after))) (λ c. let e = c.0 in let r = c.1.1 in ((λ t. syntax.more_expressions (e.0 t) (r.0 t)), joined e.1 r.1))

    arm_part : {i k : ℕ} {x : Arm} → IsArm toks i k x → (after : List ℕ) → ArmPart i k after (syntax_of_arm x)
    arm_part (grammar.arm {i} {l} {e} {body} d_e t_x d) after = subst (ArmPart i l after) (sym (arm_of_syntax e body)) (to (seq (expr_part d_e _) (kept t_x (block_part d after))) (λ c. let test = c.0 in let s1 = c.1.0 in let b = c.1.1 in ((λ t. syntax.arm (test.0 t) (b.0 t)), joined test.1 (b.1 (opened t_x s1)))))

    arms_part : {i k : ℕ} {x : List Arm} → AreArms toks i k x → (after : List ℕ) → ArmsPart i k after (arms_of (map syntax_of_arm x))
    arms_part (grammar.one_arm d) after = to (arm_part d after) (λ c. let e = c in ((λ t. syntax.more_arms (e.0 t) syntax.no_arms), joined e.1 nothing))
    arms_part (grammar.more_arms d t_c d_rest) after = to (seq (arm_part d _) (kept t_c (arms_part d_rest after))) (λ c. let e = c.0 in let r = c.1.1 in ((λ t. syntax.more_arms (e.0 t) (r.0 t)), joined e.1 r.1))

    else_part : {i k : ℕ} {x : Option Block} → IsElse toks i k x → (after : List ℕ) → ElsePart i k after (optional_block_of (option_map syntax_of_block x))
    else_part grammar.no_else after = to (none) (λ c. ((refl), nothing))
    else_part (grammar.an_else t_x d) after = to (kept t_x (block_part d after)) (λ c. let s1 = c.0 in let b = c.1 in ((λ t. syntax.a_block (b.0 t)), b.1 (opened t_x s1)))

    for_step_part : {i k : ℕ} {x : Option Expr} → IsForStep toks i k x → (after : List ℕ) → ForStepPart i k after (optional_expression_of (option_map syntax_of_expr x))
    for_step_part grammar.no_for_step after = to (none) (λ c. ((refl), nothing))
    for_step_part (grammar.a_for_step t_c d) after = to (kept t_c (expr_part d after)) (λ c. let e = c.1 in ((λ t. syntax.an_expression (e.0 t)), e.1))
