-- What is written of a chunk is a text of its program, with parentheses round the lone arguments that are enclosed.
use Rattle.std.proofs.Common.{◌≡◌, ℕ, inl, inr, Bool, true, false, Option, Some, None, List, [], ◌∷◌, ◌++◌, slice_get, map, ap, sym, refl, subst, ◌∙◌}
use Rattle.std.specs.Option.{option_map}
use Rattle.luf_lex.specs.declared.token.Tok.{Tok}
use Rattle.luf_lex.specs.declared.token.Tok.TheVariants.{Word, Sign}
use Rattle.luf_lex.specs.declared.token.Word.TheVariants as word
use Rattle.luf_lex.specs.declared.token.Sign.TheVariants as sign
use Rattle.luf_tree.specs.declared.tree.Block.{Block}
use Rattle.luf_tree.specs.declared.tree.Stat.{Stat}
use Rattle.luf_tree.specs.declared.tree.Declared.{Declared}
use Rattle.luf_tree.specs.declared.tree.Arm.{Arm}
use Rattle.luf_tree.specs.declared.tree.FuncBody.{FuncBody}
use Rattle.luf_tree.specs.declared.tree.Expr.{Expr}
use Rattle.luf_tree.specs.declared.tree.ExprKind.TheVariants as expr
use Rattle.luf_tree.specs.declared.tree.Step.{Step}
use Rattle.luf_tree.specs.declared.tree.Suffix.{Suffix}
use Rattle.luf_tree.specs.declared.tree.Args.{Args}
use Rattle.luf_tree.specs.declared.tree.Field.{Field}
use Rattle.luf_tree.specs.Operator.{binary_precedence, is_unary}
use Rattle.luf_tree.specs.Grammar as g
use Rattle.luf_tree.specs.Grammar.{At, IsToken, IsString, NoParenFollows, expression, statement, AreNames, AreParams, IsAttribute, AreDeclared, IsPath, IsMethod, IsSemicolon, IsExpr, AreSteps, IsOperand, IsSimple, IsPrefix, IsVariable, IsCall, IsParen, IsHead, AreSuffixes, IsSuffix, IsArgs, AreExprs, IsTable, AreFields, IsField, IsFuncBody, IsBlock, AreStats, IsReturn, IsStat, AreTargets, IsArm, AreArms, IsElse, IsForStep, IsChunk}
use Rattle.luf_tree.specs.Syntax as syntax
use Rattle.luf_tree.specs.TokenSyntax as tokens
use Rattle.luf_tree.specs.TokenSyntax.{from_to}
use Rattle.std.proofs.lemmas.List.{append-nil}
use Rattle.luf_bare.specs.Lone.{is_lone, is_lone_item, items_enclosed, where_lone}
use Rattle.luf_bare.proofs.LoneLaws.{lone_chosen, lone_enclosed, others_enclosed}
use Rattle.luf_bare.specs.Writing.{opens, guarded, guarded_if, separated, enclosed, after_guard, written_more_names, written_names, written_parameters, written_attribute, written_declared, written_fields_of_path, written_path, written_method, written_expression, written_for_step, written_more_expressions, written_expressions, written_operations, written_suffix, written_suffixes, written_arguments, written_field, written_more_fields, written_fields, written_statement, written_statements, written_arm, written_more_arms, written_arms, written_block, written_else, written_body}
use Rattle.luf_tree.specs.SyntaxOf.{expressions_of, operations_of, suffixes_of, fields_of, statements_of, arms_of, optional_expression_of, optional_block_of, declared_of, first_of_path, rest_of_path, syntax_of_expr, syntax_of_block, syntax_of_stat, syntax_of_field, syntax_of_suffix, syntax_of_step, syntax_of_arm, syntax_of_args, syntax_of_body}
use Rattle.luf_bare.specs.Bare.{Bare, Worded, words_of, words_at, before, chosen_declared, chosen_expression, chosen_optional_expression, chosen_expressions, chosen_operations, chosen_suffix, chosen_suffixes, chosen_arguments, chosen_field, chosen_fields, chosen_statement, chosen_statements, chosen_arm, chosen_arms, chosen_block, chosen_optional_block, chosen_function_body}
use Rattle.luf_bare.specs.Texts as w
use Rattle.luf_bare.specs.Texts.{NoParenFirst, IsStringWord, WritesNames, WritesParams, WritesAttribute, WritesDeclared, WritesPath, WritesMethod, WritesSemicolon, WritesExpr, WritesSteps, WritesOperand, WritesSimple, WritesPrefix, WritesVariable, WritesCall, WritesParen, WritesHead, WritesSuffixes, WritesSuffix, WritesArgs, WritesExprs, WritesTable, WritesFields, WritesField, WritesFuncBody, WritesBlock, WritesStats, WritesReturn, WritesStat, WritesTargets, WritesArm, WritesArms, WritesElse, WritesForStep}
use Rattle.luf_tree.proofs.SyntaxEquations.{nil_syntax, true_syntax, false_syntax, number_syntax, string_syntax, vararg_syntax, name_syntax, paren_syntax, function_syntax, table_syntax, unary_syntax, chain_syntax, power_syntax, suffixed_syntax, empty_syntax, local_syntax, assign_syntax, call_syntax, do_syntax, while_syntax, repeat_syntax, if_syntax, for_syntax, for_in_syntax, function_stat_syntax, local_function_syntax, label_syntax, goto_syntax, break_syntax, return_syntax, item_syntax, named_syntax, keyed_syntax, dot_syntax, index_syntax, call_suffix_syntax, method_syntax, step_of_syntax, arm_of_syntax, args_of_syntax, block_of_syntax, body_of_syntax}

never : true ≡ false → ⊥
never e = cc

module _ {X : Type 0} (kind : X → Tok) (added : X → Bool) (put add : Tok → X) (keeps : (t : Tok) → (kind (put t) ≡ t) × (added (put t) ≡ false)) (adds : (t : Tok) → (kind (add t) ≡ t) × (added (add t) ≡ true)) (toks : List Tok) (says : ℕ → X) (kinds : (i : ℕ) (t : Tok) → slice_get toks i ≡ Some t → kind (says i) ≡ t) (says_kept : (i : ℕ) → added (says i) ≡ false) (trails : tokens.Span → Bool) (encloses : tokens.Expressions → Bool → Bool) where
  -- one word is added, and is a word of this token
  abbrev addition : Tok → List X
  addition t = add t ∷ []

  abbrev standing : tokens.Expressions → Bool → Bool
  standing = where_lone encloses

  abbrev decided_declared : List tokens.DeclaredName → List (syntax.DeclaredName (Worded tokens.Span X))
  decided_declared = map (chosen_declared (words_at says) encloses)

  abbrev text_expression : tokens.Expression → List X
  text_expression s = written_expression kind put addition trails (chosen_expression (words_at says) encloses s)

  abbrev text_for_step : tokens.OptionalExpression → List X
  text_for_step s = written_for_step kind put addition trails (chosen_optional_expression (words_at says) encloses s)

  abbrev text_more_expressions : tokens.Expressions → List X
  text_more_expressions s = written_more_expressions kind put addition trails (chosen_expressions (words_at says) encloses s)

  abbrev text_expressions : tokens.Expressions → List X
  text_expressions s = written_expressions kind put addition trails (chosen_expressions (words_at says) encloses s)

  abbrev text_operations : tokens.Operations → List X
  text_operations s = written_operations kind put addition trails (chosen_operations (words_at says) encloses s)

  abbrev text_suffix : tokens.Suffix → List X
  text_suffix s = written_suffix kind put addition trails (chosen_suffix (words_at says) encloses s)

  abbrev text_suffixes : tokens.Suffixes → List X
  text_suffixes s = written_suffixes kind put addition trails (chosen_suffixes (words_at says) encloses s)

  abbrev text_arguments : tokens.Arguments → List X
  text_arguments s = written_arguments kind put addition trails (chosen_arguments (words_at says) encloses s)

  abbrev text_field : tokens.Field → List X
  text_field s = written_field kind put addition trails (chosen_field (words_at says) encloses s)

  abbrev text_arm : tokens.Arm → List X
  text_arm s = written_arm kind put addition trails (chosen_arm (words_at says) encloses s)

  abbrev text_more_arms : tokens.Arms → List X
  text_more_arms s = written_more_arms kind put addition trails (chosen_arms (words_at says) encloses s)

  abbrev text_arms : tokens.Arms → List X
  text_arms s = written_arms kind put addition trails (chosen_arms (words_at says) encloses s)

  abbrev text_block : tokens.Block → List X
  text_block s = written_block kind put addition trails (chosen_block (words_at says) encloses s)

  abbrev text_else : tokens.OptionalBlock → List X
  text_else s = written_else kind put addition trails (chosen_optional_block (words_at says) encloses s)

  abbrev text_body : tokens.FunctionBody → List X
  text_body s = written_body kind put addition trails (chosen_function_body (words_at says) encloses s)

  abbrev text_more_fields : Bool → tokens.Fields → List X
  text_more_fields flag s = written_more_fields kind put addition trails flag (chosen_fields (words_at says) encloses s)

  abbrev text_fields : Bool → tokens.Fields → List X
  text_fields flag s = written_fields kind put addition trails flag (chosen_fields (words_at says) encloses s)

  abbrev text_statements : Bool → tokens.Statements → List X
  text_statements flag s = written_statements kind put addition trails flag (chosen_statements (words_at says) encloses s)

  abbrev text_more_names : List ℕ → List X
  text_more_names names = written_more_names kind put addition trails (map says names)

  abbrev text_names : List ℕ → List X
  text_names names = written_names kind put addition trails (map says names)

  abbrev text_parameters : List ℕ → Bool → List X
  text_parameters names vararg = written_parameters kind put addition trails (map says names) vararg

  abbrev text_attribute : Option ℕ → List X
  text_attribute a = written_attribute kind put addition trails (option_map says a)

  abbrev text_declared : List tokens.DeclaredName → List X
  text_declared ds = written_declared kind put addition trails (decided_declared ds)

  abbrev text_fields_of_path : List ℕ → List X
  text_fields_of_path names = written_fields_of_path kind put addition trails (map says names)

  abbrev text_path : Option ℕ → List ℕ → List X
  text_path name fields = written_path kind put addition trails (option_map says name) (map says fields)

  abbrev text_method : Option ℕ → List X
  text_method m = written_method kind put addition trails (option_map says m)

  pub data Said : Option (syntax.Statement (Bare X)) → Option (syntax.Statement (Worded tokens.Span X)) → Type 0 where
    silent : Said None None
    said : {b : syntax.Statement (Bare X)} {s : syntax.Statement (Worded tokens.Span X)} → WritesStat kind added b (written_statement kind put addition trails s) → Said (Some b) (Some s)

  pub data SaidReturn : Option (syntax.Statement (Bare X)) → Option (syntax.Statement (Worded tokens.Span X)) → Type 0 where
    said_return : {b : syntax.Statement (Bare X)} {s : syntax.Statement (Worded tokens.Span X)} → WritesReturn kind added b (written_statement kind put addition trails s) → SaidReturn (Some b) (Some s)

  kind_says : {i j : ℕ} {t : Tok} → IsToken toks i t j → kind (says i) ≡ t
  kind_says {i} {t} token = kinds i t token.there

  says_keeps : {i j : ℕ} {t : Tok} → IsToken toks i t j → (kind (says i) ≡ t) × (added (says i) ≡ false)
  says_keeps {i} token = (kind_says token, says_kept i)

  abbrev ToldExpr : ℕ → tokens.Expression → Type 0
  ToldExpr n s = WritesExpr kind added n (chosen_expression (words_of says) standing s) (text_expression s)

  abbrev ToldSteps : ℕ → tokens.Operations → Type 0
  ToldSteps m s = WritesSteps kind added m (chosen_operations (words_of says) standing s) (text_operations s)

  abbrev ToldOperand : tokens.Expression → Type 0
  ToldOperand s = WritesOperand kind added (chosen_expression (words_of says) standing s) (text_expression s)

  abbrev ToldSimple : tokens.Expression → Type 0
  ToldSimple s = WritesSimple kind added (chosen_expression (words_of says) standing s) (text_expression s)

  abbrev ToldPrefix : tokens.Expression → Type 0
  ToldPrefix s = WritesPrefix kind added (chosen_expression (words_of says) standing s) (text_expression s)

  abbrev ToldVariable : tokens.Expression → Type 0
  ToldVariable s = WritesVariable kind added (chosen_expression (words_of says) standing s) (text_expression s)

  abbrev ToldCall : tokens.Expression → Type 0
  ToldCall s = WritesCall kind added (chosen_expression (words_of says) standing s) (text_expression s)

  abbrev ToldParen : tokens.Expression → Type 0
  ToldParen s = WritesParen kind added (chosen_expression (words_of says) standing s) (text_expression s)

  abbrev ToldHead : tokens.Expression → Type 0
  ToldHead s = WritesHead kind added (chosen_expression (words_of says) standing s) (text_expression s)

  abbrev ToldSuffixes : Bool → tokens.Suffixes → Type 0
  ToldSuffixes calls s = WritesSuffixes kind added calls (chosen_suffixes (words_of says) standing s) (text_suffixes s)

  abbrev ToldSuffix : Bool → tokens.Suffix → Type 0
  ToldSuffix calls s = WritesSuffix kind added calls (chosen_suffix (words_of says) standing s) (text_suffix s)

  abbrev ToldArgs : tokens.Arguments → Type 0
  ToldArgs s = WritesArgs kind added (chosen_arguments (words_of says) standing s) (text_arguments s)

  abbrev ToldExprs : tokens.Expressions → Type 0
  ToldExprs s = WritesExprs kind added (chosen_expressions (words_of says) standing s) (text_expressions s)

  abbrev ToldTable : Bool → tokens.Fields → Type 0
  ToldTable trailing s = WritesTable kind added (chosen_fields (words_of says) standing s) (put (Sign sign.LeftBrace) ∷ (text_fields trailing s ++ (put (Sign sign.RightBrace) ∷ [])))

  abbrev ToldFields : Bool → tokens.Fields → Type 0
  ToldFields flag s = WritesFields kind added (chosen_fields (words_of says) standing s) (text_fields flag s)

  abbrev ToldField : tokens.Field → Type 0
  ToldField s = WritesField kind added (chosen_field (words_of says) standing s) (text_field s)

  abbrev ToldFuncBody : tokens.FunctionBody → Type 0
  ToldFuncBody s = WritesFuncBody kind added (chosen_function_body (words_of says) standing s) (text_body s)

  abbrev ToldBlock : tokens.Block → Type 0
  ToldBlock s = WritesBlock kind added (chosen_block (words_of says) standing s) (text_block s)

  abbrev ToldStats : Bool → tokens.Statements → Type 0
  ToldStats flag s = WritesStats kind added (chosen_statements (words_of says) standing s) (text_statements flag s)

  abbrev ToldReturn : tokens.Statement → Type 0
  ToldReturn s = SaidReturn (chosen_statement (words_of says) standing s) (chosen_statement (words_at says) encloses s)

  abbrev ToldStat : tokens.Statement → Type 0
  ToldStat s = Said (chosen_statement (words_of says) standing s) (chosen_statement (words_at says) encloses s)

  abbrev ToldTargets : tokens.Expressions → Type 0
  ToldTargets s = WritesTargets kind added (chosen_expressions (words_of says) standing s) (text_expressions s)

  abbrev ToldArm : tokens.Arm → Type 0
  ToldArm s = WritesArm kind added (chosen_arm (words_of says) standing s) (text_arm s)

  abbrev ToldArms : tokens.Arms → Type 0
  ToldArms s = WritesArms kind added (chosen_arms (words_of says) standing s) (text_arms s)

  abbrev ToldElse : tokens.OptionalBlock → Type 0
  ToldElse s = WritesElse kind added (chosen_optional_block (words_of says) standing s) (text_else s)

  abbrev ToldForStep : tokens.OptionalExpression → Type 0
  ToldForStep s = WritesForStep kind added (chosen_optional_expression (words_of says) standing s) (text_for_step s)

  string_says : {i j : ℕ} → IsString toks i j → IsStringWord kind added (says i)
  string_says {i} (inl t) = (inl (kind_says t), says_kept i)
  string_says {i} (inr t) = (inr (kind_says t), says_kept i)

  -- ---- lists with separators

  comma_names : {i k : ℕ} {names : List ℕ} → AreNames toks i k names → text_more_names names ≡ put (Sign sign.Comma) ∷ text_names names
  comma_names (g.one_name _) = refl
  comma_names (g.more_names _ _ _) = refl

  comma_exprs : {i k : ℕ} {es : List Expr} → AreExprs toks i k es → text_more_expressions (expressions_of (map syntax_of_expr es)) ≡ put (Sign sign.Comma) ∷ text_expressions (expressions_of (map syntax_of_expr es))
  comma_exprs (g.one_expr _) = refl
  comma_exprs (g.more_exprs _ _ _) = refl

  comma_targets : {i k : ℕ} {es : List Expr} → AreTargets toks i k es → text_more_expressions (expressions_of (map syntax_of_expr es)) ≡ put (Sign sign.Comma) ∷ text_expressions (expressions_of (map syntax_of_expr es))
  comma_targets (g.one_target _) = refl
  comma_targets (g.more_targets _ _ _) = refl

  elseif_arms : {i k : ℕ} {arms : List Arm} → AreArms toks i k arms → text_more_arms (arms_of (map syntax_of_arm arms)) ≡ put (Word word.ElseIf) ∷ text_arms (arms_of (map syntax_of_arm arms))
  elseif_arms (g.one_arm _) = refl
  elseif_arms (g.more_arms _ _ _) = refl

  dot_path : {i k : ℕ} {path : List ℕ} → IsPath toks i k path → text_fields_of_path path ≡ put (Sign sign.Dot) ∷ text_path (first_of_path path) (rest_of_path path)
  dot_path (g.path_end _) = refl
  dot_path (g.path_more _ _ _) = refl

  comma_declared : (d : tokens.DeclaredName) {i k : ℕ} {ds : List Declared} → AreDeclared toks i k ds → text_declared (d ∷ map declared_of ds) ≡ says d.name ∷ (text_attribute d.attribute ++ (put (Sign sign.Comma) ∷ text_declared (map declared_of ds)))
  comma_declared d (g.one_declared _ _) = refl
  comma_declared d (g.more_declared _ _ _ _) = refl

  local_values : (span : tokens.Span) (names : List (syntax.DeclaredName (Worded tokens.Span X))) {i k : ℕ} {es : List Expr} → AreExprs toks i k es → written_statement kind put addition trails (syntax.local_statement span names (chosen_expressions (words_at says) encloses (expressions_of (map syntax_of_expr es)))) ≡ put (Word word.Local) ∷ (written_declared kind put addition trails names ++ (put (Sign sign.Assign) ∷ text_expressions (expressions_of (map syntax_of_expr es))))
  local_values span names (g.one_expr _) = refl
  local_values span names (g.more_exprs _ _ _) = refl

  -- ---- names

  tell_names : {i k : ℕ} {names : List ℕ} → AreNames toks i k names → WritesNames kind added (map says names) (text_names names)
  tell_names (g.one_name t) = w.one_name (says_keeps t)
  tell_names (g.more_names {i} {names} t _ d) = subst (λ z. WritesNames kind added (map says (i ∷ names)) (says i ∷ z)) (sym (comma_names d)) (w.more_names (says_keeps t) (keeps _) (tell_names d))

  alone_parameters : {i k : ℕ} {names : List ℕ} → AreNames toks i k names → text_parameters names false ≡ text_names names
  alone_parameters (g.one_name _) = refl
  alone_parameters (g.more_names _ _ _) = refl

  dotted_parameters : {i k : ℕ} {names : List ℕ} → AreNames toks i k names → text_parameters names true ≡ text_names names ++ (put (Sign sign.Comma) ∷ put (Sign sign.Dots) ∷ [])
  dotted_parameters (g.one_name _) = refl
  dotted_parameters (g.more_names _ _ _) = refl

  tell_params : {i k : ℕ} {names : List ℕ} {vararg : Bool} → AreParams toks i k names vararg → WritesParams kind added (map says names) vararg (text_parameters names vararg)
  tell_params g.no_params = w.no_params
  tell_params (g.dots_alone _) = w.dots_alone (keeps _)
  tell_params (g.names_alone {names} d) = subst (λ z. WritesParams kind added (map says names) false z) (sym (alone_parameters d)) (w.names_alone (tell_names d))
  tell_params (g.names_and_dots {names} d _ _) = subst (λ z. WritesParams kind added (map says names) true z) (sym (dotted_parameters d)) (w.names_and_dots (tell_names d) (keeps _) (keeps _))

  tell_attribute : {i k : ℕ} {a : Option ℕ} → IsAttribute toks i k a → WritesAttribute kind added (option_map says a) (text_attribute a)
  tell_attribute g.no_attribute = w.no_attribute
  tell_attribute (g.an_attribute _ t _) = w.an_attribute (keeps _) (says_keeps t) (keeps _)

  tell_declared : {i k : ℕ} {ds : List Declared} → AreDeclared toks i k ds → WritesDeclared kind added (map (chosen_declared (words_of says) standing) (map declared_of ds)) (text_declared (map declared_of ds))
  tell_declared (g.one_declared t a) = w.one_declared (says_keeps t) (tell_attribute a)
  tell_declared (g.more_declared {i} {a} {declared} t d_a _ d) = subst (λ z. WritesDeclared kind added (map (chosen_declared (words_of says) standing) (map declared_of (record { name = i; attribute = a } ∷ declared))) z) (sym (comma_declared (record { name = i; attribute = a }) d)) (w.more_declared (says_keeps t) (tell_attribute d_a) (keeps _) (tell_declared d))

  tell_path : {i k : ℕ} {path : List ℕ} → IsPath toks i k path → WritesPath kind added (map says path) (text_path (first_of_path path) (rest_of_path path))
  tell_path (g.path_end t) = w.path_end (says_keeps t)
  tell_path (g.path_more {i} {path} t _ d) = subst (λ z. WritesPath kind added (map says (i ∷ path)) (says i ∷ z)) (sym (dot_path d)) (w.path_more (says_keeps t) (keeps _) (tell_path d))

  tell_method : {i k : ℕ} {m : Option ℕ} → IsMethod toks i k m → WritesMethod kind added (option_map says m) (text_method m)
  tell_method g.no_method = w.no_method
  tell_method (g.a_method _ t) = w.a_method (keeps _) (says_keeps t)

  function_told : (path : List ℕ) {method : Option X} {f : syntax.FunctionBody (Bare X)} {words : List X} → WritesStat kind added (syntax.function_statement tt (first_of_path (map says path)) (rest_of_path (map says path)) method f) words → WritesStat kind added (syntax.function_statement tt (option_map says (first_of_path path)) (map says (rest_of_path path)) method f) words
  function_told [] told = told
  function_told (name ∷ fields) told = told

  -- ---- fields

  last_told : (trailing : Bool) {f : syntax.Field (Bare X)} {words : List X} → WritesField kind added f words → WritesFields kind added (syntax.more_fields f syntax.no_fields) (words ++ separated kind put addition trails trailing)
  last_told true told = w.more_fields told (inl (adds _).0, (adds _).1) w.no_fields
  last_told false {f} told = subst (WritesFields kind added (syntax.more_fields f syntax.no_fields)) (sym (append-nil _)) (w.last_field told)

  more_told : (trailing : Bool) (fields : tokens.Fields) {f : syntax.Field (Bare X)} {words : List X} → WritesField kind added f words → WritesFields kind added (chosen_fields (words_of says) standing fields) (text_fields trailing fields) → WritesFields kind added (syntax.more_fields f (chosen_fields (words_of says) standing fields)) (words ++ text_more_fields trailing fields)
  more_told trailing syntax.no_fields told rest = last_told trailing told
  more_told trailing (syntax.more_fields first others) told rest = w.more_fields told (inl (adds _).0, (adds _).1) rest

  -- ---- lone arguments

  lone_simple : {b : syntax.Expression (Bare X)} {words : List X} → WritesSimple kind added b words → is_lone_item b ≡ true → WritesArgs kind added (syntax.arguments tt false (syntax.more_expressions b syntax.no_expressions)) words
  lone_simple (w.string_simple t) lone = w.string_args t
  lone_simple (w.table_simple t) lone = w.table_args t
  lone_simple (w.prefix_simple (w.variable_prefix (w.name_variable _))) lone = absurd cc
  lone_simple (w.prefix_simple (w.variable_prefix (w.suffixed_variable _ _))) lone = absurd cc
  lone_simple (w.prefix_simple (w.call_prefix (w.suffixed_call _ _))) lone = absurd cc
  lone_simple (w.prefix_simple (w.paren_prefix (w.paren _ _ _))) lone = absurd cc
  lone_simple _ lone = absurd cc

  lone_expr : {n : ℕ} {b : syntax.Expression (Bare X)} {words : List X} → WritesExpr kind added n b words → is_lone_item b ≡ true → WritesArgs kind added (syntax.arguments tt false (syntax.more_expressions b syntax.no_expressions)) words
  lone_expr (w.operand_expr (w.simple_operand e)) lone = lone_simple e lone
  lone_expr (w.operand_expr (w.unary_operand _ _)) lone = absurd cc
  lone_expr (w.operand_expr (w.power_operand _ _ _)) lone = absurd cc
  lone_expr (w.chain_expr _ _ _ _) lone = absurd cc

  lone_words : {b : syntax.Expressions (Bare X)} {words : List X} → WritesExprs kind added b words → is_lone b ≡ true → WritesArgs kind added (syntax.arguments tt false b) words
  lone_words (w.one_expr e) lone = lone_expr e lone
  lone_words (w.more_exprs _ _ (w.one_expr _)) lone = absurd cc
  lone_words (w.more_exprs _ _ (w.more_exprs _ _ _)) lone = absurd cc

  enclose_by : (items : tokens.Expressions) (wanted lone : Bool) → is_lone items ≡ lone → ToldExprs items
      → WritesArgs kind added (syntax.arguments tt (items_enclosed wanted wanted items) (chosen_expressions (words_of says) standing items)) (enclosed kind put addition trails lone wanted (text_expressions items))
  enclose_by items wanted false is told =
      subst (λ b. WritesArgs kind added (syntax.arguments tt b (chosen_expressions (words_of says) standing items)) (enclosed kind put addition trails false wanted (text_expressions items))) (sym (others_enclosed wanted wanted items is))
      (w.list_args (keeps _) told (keeps _) (lone_chosen (words_of says) standing items ∙ is))
  enclose_by items true true is told =
      subst (λ b. WritesArgs kind added (syntax.arguments tt b (chosen_expressions (words_of says) standing items)) (enclosed kind put addition trails true true (text_expressions items))) (sym (lone_enclosed true items is))
      (w.lone_args (adds _) told (adds _) (lone_chosen (words_of says) standing items ∙ is))
  enclose_by items false true is told =
      subst (λ b. WritesArgs kind added (syntax.arguments tt b (chosen_expressions (words_of says) standing items)) (enclosed kind put addition trails true false (text_expressions items))) (sym (lone_enclosed false items is))
      (lone_words told (lone_chosen (words_of says) standing items ∙ is))

  enclose : (items : tokens.Expressions) (had : Bool) → ToldExprs items
      → WritesArgs kind added (syntax.arguments tt (standing items had) (chosen_expressions (words_of says) standing items)) (enclosed kind put addition trails (is_lone (chosen_expressions (words_at says) encloses items)) (encloses items had) (text_expressions items))
  enclose items had told =
      subst (λ b. WritesArgs kind added (syntax.arguments tt (standing items had) (chosen_expressions (words_of says) standing items)) (enclosed kind put addition trails b (encloses items had) (text_expressions items))) (sym (lone_chosen (words_at says) encloses items))
      (enclose_by items (encloses items had) (is_lone items) refl told)

  -- ---- guards

  guard_if : (paren : Bool) (words rest : List X) {b : syntax.Statements (Bare X)} → WritesStats kind added b (words ++ rest) → WritesStats kind added b (guarded_if kind put addition trails paren words ++ rest)
  guard_if true words rest told = w.empty_stat (adds _) told
  guard_if false words rest told = told

  guard_stats : (words rest : List X) {b : syntax.Statements (Bare X)} → WritesStats kind added b (words ++ rest) → WritesStats kind added b (guarded kind put addition trails words ++ rest)
  guard_stats [] rest told = told
  guard_stats (x ∷ words) rest told = guard_if (opens (kind x)) (x ∷ words) rest told

  after_guard_stats : (others : Bool) (words rest : List X) {b : syntax.Statements (Bare X)} → WritesStats kind added b (words ++ rest) → WritesStats kind added b (after_guard kind put addition trails others words ++ rest)
  after_guard_stats true words rest told = guard_stats words rest told
  after_guard_stats false words rest told = told

  guard_if_shut : (x : X) (words rest : List X) (paren : Bool) → opens (kind x) ≡ paren → NoParenFirst kind added (guarded_if kind put addition trails paren (x ∷ words) ++ rest)
  guard_if_shut x words rest true is = λ open_paren. never (sym (ap opens open_paren) ∙ ap opens ((adds (Sign sign.Semicolon)).0))
  guard_if_shut x words rest false is = λ open_paren. never (sym (ap opens open_paren) ∙ is)

  guard_shut : (words rest : List X) → NoParenFirst kind added rest → NoParenFirst kind added (guarded kind put addition trails words ++ rest)
  guard_shut [] rest shut = shut
  guard_shut (x ∷ words) rest shut = guard_if_shut x words rest (opens (kind x)) refl

  before_shut : (s : Option (syntax.Statement (Worded tokens.Span X))) (rest : syntax.Statements (Worded tokens.Span X)) → NoParenFirst kind added (written_statements kind put addition trails true rest) → NoParenFirst kind added (written_statements kind put addition trails true (before s rest))
  before_shut None rest shut = shut
  before_shut (Some s) rest shut = guard_shut (written_statement kind put addition trails s) (written_statements kind put addition trails true rest) shut

  later_shut : (ss : tokens.Statements) → NoParenFirst kind added (text_statements true ss)
  later_shut syntax.no_statements = tt
  later_shut (syntax.more_statements first rest) = before_shut (chosen_statement (words_at says) encloses first) (chosen_statements (words_at says) encloses rest) (later_shut rest)

  last_said : (others : Bool) {b : Option (syntax.Statement (Bare X))} {s : Option (syntax.Statement (Worded tokens.Span X))} → SaidReturn b s → WritesStats kind added (before b syntax.no_statements) (written_statements kind put addition trails others (before s syntax.no_statements))
  last_said others (said_return {b} {s} told) = after_guard_stats others (written_statement kind put addition trails s) _ (subst (WritesStats kind added (syntax.more_statements b syntax.no_statements)) (sym (append-nil (written_statement kind put addition trails s))) (w.last_stat told))

  then_said : (others : Bool) (rest : tokens.Statements) {b : Option (syntax.Statement (Bare X))} {s : Option (syntax.Statement (Worded tokens.Span X))} → Said b s → ((before_rest : Bool) → WritesStats kind added (chosen_statements (words_of says) standing rest) (text_statements before_rest rest)) → WritesStats kind added (before b (chosen_statements (words_of says) standing rest)) (written_statements kind put addition trails others (before s (chosen_statements (words_at says) encloses rest)))
  then_said others rest silent told = told others
  then_said others rest (said {s} stat) told = after_guard_stats others (written_statement kind put addition trails s) _ (w.more_stats stat (later_shut rest) (told true))

  mutual
    tell_expr : {n : ℕ} {i k : ℕ} {x : Expr} → IsExpr toks n i k x → ToldExpr n (syntax_of_expr x)
    tell_expr (g.operand_expr d_e) = w.operand_expr (tell_operand d_e)
    tell_expr (g.chain_expr {n} {i} {k} {first} {rest} pos le d_e d_rest) = subst (ToldExpr n) (sym (chain_syntax i k first rest)) (w.chain_expr pos le (tell_expr d_e) (tell_steps d_rest))

    tell_steps : {m : ℕ} {i k : ℕ} {x : List Step} → AreSteps toks m i k x → ToldSteps m (operations_of (map syntax_of_step x))
    tell_steps (g.one_step {m} {i} {e} t_x operator_x d_e) = subst (ToldSteps m) (ap (λ z. syntax.more_operations z syntax.no_operations) (sym (step_of_syntax i e))) (subst (λ z. WritesSteps kind added m (syntax.more_operations (syntax.operation (says i) (chosen_expression (words_of says) standing (syntax_of_expr e))) syntax.no_operations) (says i ∷ z)) (sym (append-nil _)) (w.one_step (ap binary_precedence (kind_says t_x) ∙ operator_x, says_kept _) (tell_expr d_e)))
    tell_steps (g.more_steps {m} {i} {e} {rest} t_x operator_x d_e d_rest) = subst (ToldSteps m) (ap (λ z. syntax.more_operations z (operations_of (map syntax_of_step rest))) (sym (step_of_syntax i e))) (w.more_steps (ap binary_precedence (kind_says t_x) ∙ operator_x, says_kept _) (tell_expr d_e) (tell_steps d_rest))

    tell_operand : {i k : ℕ} {x : Expr} → IsOperand toks i k x → ToldOperand (syntax_of_expr x)
    tell_operand (g.unary_operand {i} {k} {e} t_x operator_x d_e) = subst (ToldOperand) (sym (unary_syntax i k e)) (w.unary_operand (ap is_unary (kind_says t_x) ∙ operator_x, says_kept _) (tell_operand d_e))
    tell_operand (g.power_operand {i} {j} {l} {base} {exponent} d_e t_x d_exponent) = subst (ToldOperand) (sym (power_syntax i l base j exponent)) (w.power_operand (tell_simple d_e) (says_keeps t_x) (tell_operand d_exponent))
    tell_operand (g.simple_operand d_e) = w.simple_operand (tell_simple d_e)

    tell_simple : {i k : ℕ} {x : Expr} → IsSimple toks i k x → ToldSimple (syntax_of_expr x)
    tell_simple (g.nil_simple {i} {j} _) = subst (ToldSimple) (sym (nil_syntax i j)) (w.nil_simple (keeps _))
    tell_simple (g.true_simple {i} {j} _) = subst (ToldSimple) (sym (true_syntax i j)) (w.true_simple (keeps _))
    tell_simple (g.false_simple {i} {j} _) = subst (ToldSimple) (sym (false_syntax i j)) (w.false_simple (keeps _))
    tell_simple (g.number_simple {i} {j} t_x) = subst (ToldSimple) (sym (number_syntax i j)) (w.number_simple (says_keeps t_x))
    tell_simple (g.string_simple {i} {j} t_x) = subst (ToldSimple) (sym (string_syntax i j)) (w.string_simple (string_says t_x))
    tell_simple (g.vararg_simple {i} {j} _) = subst (ToldSimple) (sym (vararg_syntax i j)) (w.vararg_simple (keeps _))
    tell_simple (g.function_simple {i} {k} {f} _ d_f) = subst (ToldSimple) (sym (function_syntax i k f)) (w.function_simple (keeps _) (tell_func_body d_f))
    tell_simple (g.table_simple {i} {j} {fields} d_fields) = subst (ToldSimple) (sym (table_syntax i j fields)) (w.table_simple (tell_table (trails (from_to i j)) d_fields))
    tell_simple (g.prefix_simple d_e _) = w.prefix_simple (tell_prefix d_e)

    tell_prefix : {i k : ℕ} {x : Expr} → IsPrefix toks i k x → ToldPrefix (syntax_of_expr x)
    tell_prefix (g.variable_prefix d_e) = w.variable_prefix (tell_variable d_e)
    tell_prefix (g.call_prefix d_e) = w.call_prefix (tell_call d_e)
    tell_prefix (g.paren_prefix d_e) = w.paren_prefix (tell_paren d_e)

    tell_variable : {i k : ℕ} {x : Expr} → IsVariable toks i k x → ToldVariable (syntax_of_expr x)
    tell_variable (g.name_variable {i} {j} t_x) = subst (ToldVariable) (sym (name_syntax i j)) (w.name_variable (says_keeps t_x))
    tell_variable (g.suffixed_variable {i} {k} {head} {suffixes} d_e d_suffixes) = subst (ToldVariable) (sym (suffixed_syntax i k head suffixes)) (w.suffixed_variable (tell_head d_e) (tell_suffixes d_suffixes))

    tell_call : {i k : ℕ} {x : Expr} → IsCall toks i k x → ToldCall (syntax_of_expr x)
    tell_call (g.suffixed_call {i} {k} {head} {suffixes} d_e d_suffixes) = subst (ToldCall) (sym (suffixed_syntax i k head suffixes)) (w.suffixed_call (tell_head d_e) (tell_suffixes d_suffixes))

    tell_paren : {i k : ℕ} {x : Expr} → IsParen toks i k x → ToldParen (syntax_of_expr x)
    tell_paren (g.paren {i} {l} {e} _ d_e _) = subst (ToldParen) (sym (paren_syntax i l e)) (w.paren (keeps _) (tell_expr d_e) (keeps _))

    tell_head : {i k : ℕ} {x : Expr} → IsHead toks i k x → ToldHead (syntax_of_expr x)
    tell_head (g.name_head {i} {j} t_x) = subst (ToldHead) (sym (name_syntax i j)) (w.name_head (says_keeps t_x))
    tell_head (g.paren_head d_e) = w.paren_head (tell_paren d_e)

    tell_suffixes : {calls : Bool} {i k : ℕ} {x : List Suffix} → AreSuffixes toks calls i k x → ToldSuffixes calls (suffixes_of (map syntax_of_suffix x))
    tell_suffixes (g.one_suffix {calls} {s} d_s) = subst (λ z. WritesSuffixes kind added calls (syntax.more_suffixes (chosen_suffix (words_of says) standing (syntax_of_suffix s)) syntax.no_suffixes) z) (sym (append-nil _)) (w.one_suffix (tell_suffix d_s))
    tell_suffixes (g.more_suffixes d_s d_rest) = w.more_suffixes (tell_suffix d_s) (tell_suffixes d_rest)

    tell_suffix : {calls : Bool} {i k : ℕ} {x : Suffix} → IsSuffix toks calls i k x → ToldSuffix calls (syntax_of_suffix x)
    tell_suffix (g.dot_suffix {j} _ t_x) = subst (ToldSuffix false) (sym (dot_syntax j)) (w.dot_suffix (keeps _) (says_keeps t_x))
    tell_suffix (g.index_suffix {e} _ d_e _) = subst (ToldSuffix false) (sym (index_syntax e)) (w.index_suffix (keeps _) (tell_expr d_e) (keeps _))
    tell_suffix (g.call_suffix {args} d_args) = subst (ToldSuffix true) (sym (call_suffix_syntax args)) (w.call_suffix (tell_args d_args))
    tell_suffix (g.method_suffix {j} {args} _ t_x d_args) = subst (ToldSuffix true) (sym (method_syntax j args)) (w.method_suffix (keeps _) (says_keeps t_x) (tell_args d_args))

    tell_args : {i k : ℕ} {x : Args} → IsArgs toks i k x → ToldArgs (syntax_of_args x)
    tell_args (g.no_args {i} {k} _ _) = subst ToldArgs (sym (args_of_syntax i k true [])) (w.no_args (keeps _) (keeps _))
    tell_args (g.list_args {i} {l} {es} _ d_es _) = subst ToldArgs (sym (args_of_syntax i l true es)) (enclose (expressions_of (map syntax_of_expr es)) true (tell_exprs d_es))
    tell_args (g.string_args {i} {j} t_x) = subst ToldArgs (sym (args_of_syntax i j false (expression i j expr.Str ∷ []) ∙ ap (λ z. syntax.arguments (from_to i j) false (syntax.more_expressions z syntax.no_expressions)) (string_syntax i j))) (enclose (syntax.more_expressions (syntax.string (from_to i j) i) syntax.no_expressions) false (w.one_expr (w.operand_expr (w.simple_operand (w.string_simple (string_says t_x))))))
    tell_args (g.table_args {i} {j} {fields} d) = subst ToldArgs (sym (args_of_syntax i j false (expression i j (expr.Table fields) ∷ []) ∙ ap (λ z. syntax.arguments (from_to i j) false (syntax.more_expressions z syntax.no_expressions)) (table_syntax i j fields))) (enclose (syntax.more_expressions (syntax.table (from_to i j) (fields_of (map syntax_of_field fields))) syntax.no_expressions) false (subst (λ z. WritesExprs kind added (syntax.more_expressions (syntax.table tt (chosen_fields (words_of says) standing (fields_of (map syntax_of_field fields)))) syntax.no_expressions) z) (sym (append-nil _)) (w.one_expr (w.operand_expr (w.simple_operand (w.table_simple (tell_table (trails (from_to i j)) d)))))))

    tell_exprs : {i k : ℕ} {x : List Expr} → AreExprs toks i k x → ToldExprs (expressions_of (map syntax_of_expr x))
    tell_exprs (g.one_expr {e} d_e) = subst (λ z. WritesExprs kind added (syntax.more_expressions (chosen_expression (words_of says) standing (syntax_of_expr e)) syntax.no_expressions) z) (sym (append-nil _)) (w.one_expr (tell_expr d_e))
    tell_exprs (g.more_exprs {e} {es} d_e _ d_es) = subst (λ z. WritesExprs kind added (chosen_expressions (words_of says) standing (expressions_of (map syntax_of_expr (e ∷ es)))) (text_expression (syntax_of_expr e) ++ z)) (sym (comma_exprs d_es)) (w.more_exprs (tell_expr d_e) (keeps _) (tell_exprs d_es))

    tell_table : {i k : ℕ} {x : List Field} → (flag : Bool) → IsTable toks i k x → ToldTable flag (fields_of (map syntax_of_field x))
    tell_table flag (g.table _ d_fields _) = w.table (keeps _) (tell_fields flag d_fields) (keeps _)

    tell_fields : {i k : ℕ} {x : List Field} → (flag : Bool) → AreFields toks i k x → ToldFields flag (fields_of (map syntax_of_field x))
    tell_fields flag g.no_fields = w.no_fields
    tell_fields flag (g.last_field d_f) = last_told flag (tell_field d_f)
    tell_fields flag (g.more_fields {fields} d_f _ d_fields) = more_told flag (fields_of (map syntax_of_field fields)) (tell_field d_f) (tell_fields flag d_fields)

    tell_field : {i k : ℕ} {x : Field} → IsField toks i k x → ToldField (syntax_of_field x)
    tell_field (g.keyed_field {key} {value} _ d_key _ _ d_value) = subst (ToldField) (sym (keyed_syntax key value)) (w.keyed_field (keeps _) (tell_expr d_key) (keeps _) (keeps _) (tell_expr d_value))
    tell_field (g.named_field {i} {value} t_x _ d_value) = subst (ToldField) (sym (named_syntax i value)) (w.named_field (says_keeps t_x) (keeps _) (tell_expr d_value))
    tell_field (g.item_field {e} d_e) = subst (ToldField) (sym (item_syntax e)) (w.item_field (tell_expr d_e))

    tell_func_body : {i k : ℕ} {x : FuncBody} → IsFuncBody toks i k x → ToldFuncBody (syntax_of_body x)
    tell_func_body (g.func_body {i} {p} {params} {vararg} {body} _ d_params _ d_body _) = subst (ToldFuncBody) (sym (body_of_syntax i p params vararg body)) (w.func_body (keeps _) (tell_params d_params) (keeps _) (tell_block d_body) (keeps _))

    pub tell_block : {i k : ℕ} {x : Block} → IsBlock toks i k x → ToldBlock (syntax_of_block x)
    tell_block (g.block {i} {j} {stats} d_stats) = subst (ToldBlock) (sym (block_of_syntax i j stats)) (w.block (tell_stats false d_stats))

    tell_stats : {i k : ℕ} {x : List Stat} → (flag : Bool) → AreStats toks i k x → ToldStats flag (statements_of (map syntax_of_stat x))
    tell_stats flag g.no_stats = w.no_stats
    tell_stats flag (g.last_stat d_s) = last_said flag (tell_return d_s)
    tell_stats flag (g.more_stats {stats} d_s d_stats) = then_said flag (statements_of (map syntax_of_stat stats)) (tell_stat d_s) (λ others. tell_stats others d_stats)

    tell_return : {i k : ℕ} {x : Stat} → IsReturn toks i k x → ToldReturn (syntax_of_stat x)
    tell_return (g.return_nothing {i} {k} _ _) = subst (ToldReturn) (sym (return_syntax i k [])) (said_return (w.return_nothing (keeps _) w.no_semicolon))
    tell_return (g.return_values {i} {l} {es} _ d_es _) = subst ToldReturn (sym (return_syntax i l es)) (said_return (subst (λ z. WritesReturn kind added (syntax.return_statement tt (chosen_expressions (words_of says) standing (expressions_of (map syntax_of_expr es)))) (put (Word word.Return) ∷ z)) (append-nil _) (w.return_values (keeps _) (tell_exprs d_es) w.no_semicolon)))

    tell_stat : {i k : ℕ} {x : Stat} → IsStat toks i k x → ToldStat (syntax_of_stat x)
    tell_stat (g.local_stat {i} {k} {declared} _ d_declared) = subst (ToldStat) (sym (local_syntax i k declared [])) (said (w.local_stat (keeps _) (tell_declared d_declared)))
    tell_stat (g.local_values_stat {i} {o} {declared} {es} _ d_declared _ d_es) = subst ToldStat (sym (local_syntax i o declared es)) (said (subst (λ z. WritesStat kind added (syntax.local_statement tt (map (chosen_declared (words_of says) standing) (map declared_of declared)) (chosen_expressions (words_of says) standing (expressions_of (map syntax_of_expr es)))) z) (sym (local_values (from_to i o) (decided_declared (map declared_of declared)) d_es)) (w.local_values_stat (keeps _) (tell_declared d_declared) (keeps _) (tell_exprs d_es))))
    tell_stat (g.assign_stat {i} {l} {targets} {es} d_targets _ d_es) = subst (ToldStat) (sym (assign_syntax i l targets es)) (said (w.assign_stat (tell_targets d_targets) (keeps _) (tell_exprs d_es)))
    tell_stat (g.call_stat {i} {j} {e} d_e _) = subst (ToldStat) (sym (call_syntax i j e)) (said (w.call_stat (tell_call d_e)))
    tell_stat (g.do_stat {i} {l} {body} _ d_body _) = subst (ToldStat) (sym (do_syntax i l body)) (said (w.do_stat (keeps _) (tell_block d_body) (keeps _)))
    tell_stat (g.while_stat {i} {p} {e} {body} _ d_e _ d_body _) = subst (ToldStat) (sym (while_syntax i p e body)) (said (w.while_stat (keeps _) (tell_expr d_e) (keeps _) (tell_block d_body) (keeps _)))
    tell_stat (g.repeat_stat {i} {o} {body} {e} _ d_body _ d_e) = subst (ToldStat) (sym (repeat_syntax i o body e)) (said (w.repeat_stat (keeps _) (tell_block d_body) (keeps _) (tell_expr d_e)))
    tell_stat (g.if_stat {i} {o} {arms} {last} _ d_arms d_other _) = subst (ToldStat) (sym (if_syntax i o arms last)) (said (w.if_stat (keeps _) (tell_arms d_arms) (tell_else d_other) (keeps _)))
    tell_stat (g.for_stat {i} {j} {s} {first} {limit} {step} {body} _ t_name _ d_start _ d_limit d_step _ d_body _) = subst (ToldStat) (sym (for_syntax i s j first limit step body)) (said (w.for_stat (keeps _) (says_keeps t_name) (keeps _) (tell_expr d_start) (keeps _) (tell_expr d_limit) (tell_for_step d_step) (keeps _) (tell_block d_body) (keeps _)))
    tell_stat (g.for_in_stat {i} {r} {names} {es} {body} _ d_names _ d_es _ d_body _) = subst (ToldStat) (sym (for_in_syntax i r names es body)) (said (w.for_in_stat (keeps _) (tell_names d_names) (keeps _) (tell_exprs d_es) (keeps _) (tell_block d_body) (keeps _)))
    tell_stat (g.function_stat {i} {o} {path} {method} {f} _ d_path d_method d_f) = subst ToldStat (sym (function_stat_syntax i o path method f)) (said (function_told path (w.function_stat (keeps _) (tell_path d_path) (tell_method d_method) (tell_func_body d_f))))
    tell_stat (g.local_function_stat {i} {k} {o} {f} _ _ t_name d_f) = subst (ToldStat) (sym (local_function_syntax i o k f)) (said (w.local_function_stat (keeps _) (keeps _) (says_keeps t_name) (tell_func_body d_f)))
    tell_stat (g.label_stat {i} {j} {l} _ t_name _) = subst (ToldStat) (sym (label_syntax i l j)) (said (w.label_stat (keeps _) (says_keeps t_name) (keeps _)))
    tell_stat (g.goto_stat {i} {j} {k} _ t_name) = subst (ToldStat) (sym (goto_syntax i k j)) (said (w.goto_stat (keeps _) (says_keeps t_name)))
    tell_stat (g.break_stat {i} {j} _) = subst (ToldStat) (sym (break_syntax i j)) (said (w.break_stat (keeps _)))
    tell_stat (g.empty_stat {i} {j} _) = subst ToldStat (sym (empty_syntax i j)) silent

    tell_targets : {i k : ℕ} {x : List Expr} → AreTargets toks i k x → ToldTargets (expressions_of (map syntax_of_expr x))
    tell_targets (g.one_target {e} d_e) = subst (λ z. WritesTargets kind added (syntax.more_expressions (chosen_expression (words_of says) standing (syntax_of_expr e)) syntax.no_expressions) z) (sym (append-nil _)) (w.one_target (tell_variable d_e))
    tell_targets (g.more_targets {e} {targets} d_e _ d_es) = subst (λ z. WritesTargets kind added (chosen_expressions (words_of says) standing (expressions_of (map syntax_of_expr (e ∷ targets)))) (text_expression (syntax_of_expr e) ++ z)) (sym (comma_targets d_es)) (w.more_targets (tell_variable d_e) (keeps _) (tell_targets d_es))

    tell_arm : {i k : ℕ} {x : Arm} → IsArm toks i k x → ToldArm (syntax_of_arm x)
    tell_arm (g.arm {e} {body} d_e _ d_body) = subst (ToldArm) (sym (arm_of_syntax e body)) (w.arm (tell_expr d_e) (keeps _) (tell_block d_body))

    tell_arms : {i k : ℕ} {x : List Arm} → AreArms toks i k x → ToldArms (arms_of (map syntax_of_arm x))
    tell_arms (g.one_arm {first} d_e) = subst (λ z. WritesArms kind added (syntax.more_arms (chosen_arm (words_of says) standing (syntax_of_arm first)) syntax.no_arms) z) (sym (append-nil _)) (w.one_arm (tell_arm d_e))
    tell_arms (g.more_arms {first} {arms} d_e _ d_es) = subst (λ z. WritesArms kind added (chosen_arms (words_of says) standing (arms_of (map syntax_of_arm (first ∷ arms)))) (text_arm (syntax_of_arm first) ++ z)) (sym (elseif_arms d_es)) (w.more_arms (tell_arm d_e) (keeps _) (tell_arms d_es))

    tell_else : {i k : ℕ} {x : Option Block} → IsElse toks i k x → ToldElse (optional_block_of (option_map syntax_of_block x))
    tell_else g.no_else = w.no_else
    tell_else (g.an_else _ d_body) = w.an_else (keeps _) (tell_block d_body)

    tell_for_step : {i k : ℕ} {x : Option Expr} → IsForStep toks i k x → ToldForStep (optional_expression_of (option_map syntax_of_expr x))
    tell_for_step g.no_for_step = w.no_for_step
    tell_for_step (g.a_for_step _ d_e) = w.a_for_step (keeps _) (tell_expr d_e)
