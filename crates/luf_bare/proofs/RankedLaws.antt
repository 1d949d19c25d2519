-- The bare part by ranks is that of the bare program, placed on from the rank at which it begins.
use Rattle.std.proofs.Common.{◌≡◌, ℕ, ◌+◌, ◌-◌, Bool, true, false, Option, Some, None, List, [], ◌∷◌, map, ap, sym, refl, subst, ◌∙◌, arith}
use Rattle.std.specs.Option.{option_map}
use Rattle.luf_lex.specs.declared.token.Tok.{Tok}
use Rattle.luf_tree.specs.declared.tree.Block.{Block}
use Rattle.luf_tree.specs.declared.tree.Stat.{Stat}
use Rattle.luf_tree.specs.declared.tree.Declared.{Declared}
use Rattle.luf_tree.specs.declared.tree.Arm.{Arm}
use Rattle.luf_tree.specs.declared.tree.FuncBody.{FuncBody}
use Rattle.luf_tree.specs.declared.tree.Expr.{Expr}
use Rattle.luf_tree.specs.declared.tree.ExprKind.TheVariants as expr
use Rattle.luf_tree.specs.declared.tree.Step.{Step}
use Rattle.luf_tree.specs.declared.tree.Suffix.{Suffix}
use Rattle.luf_tree.specs.declared.tree.Args.{Args}
use Rattle.luf_tree.specs.declared.tree.Field.{Field}
use Rattle.luf_tree.specs.Grammar as g
use Rattle.luf_tree.specs.Grammar.{At, IsToken, IsString, NoParenFollows, expression, statement, AreNames, AreParams, IsAttribute, AreDeclared, IsPath, IsMethod, IsSemicolon, IsExpr, AreSteps, IsOperand, IsSimple, IsPrefix, IsVariable, IsCall, IsParen, IsHead, AreSuffixes, IsSuffix, IsArgs, AreExprs, IsTable, AreFields, IsField, IsFuncBody, IsBlock, AreStats, IsReturn, IsStat, AreTargets, IsArm, AreArms, IsElse, IsForStep, IsChunk}
use Rattle.luf_tree.specs.Syntax as syntax
use Rattle.luf_tree.specs.TokenSyntax as tokens
use Rattle.luf_tree.specs.TokenSyntax.{from_to}
use Rattle.luf_tree.specs.SyntaxOf.{expressions_of, operations_of, suffixes_of, fields_of, statements_of, arms_of, optional_expression_of, optional_block_of, declared_of, first_of_path, rest_of_path, syntax_of_expr, syntax_of_block, syntax_of_stat, syntax_of_field, syntax_of_suffix, syntax_of_step, syntax_of_arm, syntax_of_args, syntax_of_body}
use Rattle.luf_tree.specs.SyntaxOf.{syntax_of}
use Rattle.luf_tree.specs.declared.tree.Chunk.{Chunk}
use Rattle.luf_bare.proofs.Ends.{between_none, between_one, place_before, exprs_end, field_end}
use Rattle.luf_bare.specs.Bare.{Bare, words_of, always, before, bare_declared, bare_expression, bare_optional_expression, bare_expressions, bare_operations, bare_suffix, bare_suffixes, bare_arguments, bare_field, bare_fields, bare_statement, bare_statements, bare_arm, bare_arms, bare_block, bare_optional_block, bare_function_body}
use Rattle.luf_bare.specs.Lone.{is_lone}
use Rattle.luf_bare.proofs.LoneLaws.{lone_chosen}
use Rattle.luf_bare.specs.Dropped.{between, if_dropped, dropped_expression, dropped_for_step, dropped_expressions, dropped_operations, dropped_suffix, dropped_suffixes, dropped_arguments, dropped_field, dropped_fields, dropped_statement, dropped_statements, dropped_arm, dropped_arms, dropped_block, dropped_else, dropped_body}
use Rattle.luf_tree.proofs.SyntaxEquations.{nil_syntax, true_syntax, false_syntax, number_syntax, string_syntax, vararg_syntax, name_syntax, paren_syntax, function_syntax, table_syntax, unary_syntax, chain_syntax, power_syntax, suffixed_syntax, empty_syntax, local_syntax, assign_syntax, call_syntax, do_syntax, while_syntax, repeat_syntax, if_syntax, for_syntax, for_in_syntax, function_stat_syntax, local_function_syntax, label_syntax, goto_syntax, break_syntax, return_syntax, item_syntax, named_syntax, keyed_syntax, dot_syntax, index_syntax, call_suffix_syntax, method_syntax, step_of_syntax, arm_of_syntax, args_of_syntax, block_of_syntax, body_of_syntax}
use Rattle.luf_bare.specs.Rank.{rank, ranks, ranked}
use Rattle.luf_bare.specs.ReadBack.{own_word, spelled_at, word_at}
use Rattle.luf_bare.specs.RankedAgain.{OneRanking, RankedAgain}
use Rattle.luf_bare.proofs.Placed.{Placed, placed, path_of, placed_names, placed_parameters, placed_attribute, placed_declared, placed_method, placed_enclosed, placed_expression, placed_for_step, placed_expressions, placed_operations, placed_suffix, placed_suffixes, placed_list, placed_arguments, placed_field, placed_fields, placed_statement, placed_statements, placed_arm, placed_arms, placed_block, placed_else, placed_body}
use Rattle.luf_bare.proofs.RankedParts.{Step as Kept, Same, Part, to, none, seq, kept, lost, kept_string, lost_one, between_room, separator_next, claimed}

module _ {all : List ℕ} where
  up : {i j n : ℕ} → Kept all i j → rank all i ≡ n → rank all j ≡ n + 1
  up kept at = kept.next ∙ ap (λ z. z + 1) at

  over : {i j n : ℕ} → Same all i j → rank all i ≡ n → rank all j ≡ n
  over dropped at = dropped.same ∙ at

ends : {A : Type 0} {x y : Placed A} → x ≡ y → x.end ≡ y.end
ends e = ap (λ z. z.end) e

less_one : {m n : ℕ} → m ≡ n → m ≡ (n + 1) - 1
less_one e = omega (arith, e)

module _ {X : Type 0} where
  -- a statement, if it is one of the program
  abbrev placed_if : ℕ → Option (syntax.Statement (Bare X)) → Placed (Option tokens.Statement)
  placed_if n None = placed None n
  placed_if n (Some s) = placed (Some (placed_statement n s).part) (placed_statement n s).end

  placed_before : (n : ℕ) (s : Option (syntax.Statement (Bare X))) (rest : syntax.Statements (Bare X))
      → placed (before (placed_if n s).part (placed_statements (placed_if n s).end rest).part) (placed_statements (placed_if n s).end rest).end ≡ placed_statements n (before s rest)
  placed_before n None rest = refl
  placed_before n (Some s) rest = refl

first_named : {A B : Type 0} (f : A → B) (path : List A) → option_map f (first_of_path path) ≡ first_of_path (map f path)
first_named f [] = refl
first_named f (name ∷ fields) = refl

rest_named : {A B : Type 0} (f : A → B) (path : List A) → map f (rest_of_path path) ≡ rest_of_path (map f path)
rest_named f [] = refl
rest_named f (name ∷ fields) = refl

path_named : {A B : Type 0} (f : A → B) (path : List A) → path_of (option_map f (first_of_path path)) (map f (rest_of_path path)) ≡ map f path
path_named f [] = refl
path_named f (name ∷ fields) = refl

module _ (all : List ℕ) {X : Type 0} (toks : List Tok) (says : ℕ → X) where
  -- this part is what is placed from the rank of i on, and ends at the rank of k
  abbrev IsPlaced : {A : Type 0} → ℕ → ℕ → A → (ℕ → Placed A) → Type 0
  IsPlaced i k part place = (n : ℕ) → rank all i ≡ n → placed part (rank all k) ≡ place n

  abbrev word_expressions : tokens.Expressions → syntax.Expressions (Bare X)
  word_expressions es = bare_expressions (words_of says) es

  abbrev ExpressionPart : ℕ → ℕ → List ℕ → tokens.Expression → Type 0
  ExpressionPart i k after s = Part all i k (dropped_expression s after) after (IsPlaced i k (bare_expression (ranks all) s) (λ n. placed_expression n (bare_expression (words_of says) s)))

  abbrev OperationsPart : ℕ → ℕ → List ℕ → tokens.Operations → Type 0
  OperationsPart i k after s = Part all i k (dropped_operations s after) after (IsPlaced i k (bare_operations (ranks all) s) (λ n. placed_operations n (bare_operations (words_of says) s)))

  abbrev SuffixPart : ℕ → ℕ → List ℕ → tokens.Suffix → Type 0
  SuffixPart i k after s = Part all i k (dropped_suffix s after) after (IsPlaced i k (bare_suffix (ranks all) s) (λ n. placed_suffix n (bare_suffix (words_of says) s)))

  abbrev SuffixesPart : ℕ → ℕ → List ℕ → tokens.Suffixes → Type 0
  SuffixesPart i k after s = Part all i k (dropped_suffixes s after) after (IsPlaced i k (bare_suffixes (ranks all) s) (λ n. placed_suffixes n (bare_suffixes (words_of says) s)))

  abbrev ArgumentsPart : ℕ → ℕ → List ℕ → tokens.Arguments → Type 0
  ArgumentsPart i k after s = Part all i k (dropped_arguments s after) after (IsPlaced i k (bare_arguments (ranks all) s) (λ n. placed_arguments n (bare_arguments (words_of says) s)))

  abbrev ExpressionsPart : ℕ → ℕ → List ℕ → tokens.Expressions → Type 0
  ExpressionsPart i k after s = Part all i k (dropped_expressions s after) after (IsPlaced i k (bare_expressions (ranks all) s) (λ n. placed_expressions n (bare_expressions (words_of says) s)))

  abbrev FieldPart : ℕ → ℕ → List ℕ → tokens.Field → Type 0
  FieldPart i k after s = Part all i k (dropped_field s after) after (IsPlaced i k (bare_field (ranks all) s) (λ n. placed_field n (bare_field (words_of says) s)))

  abbrev BodyPart : ℕ → ℕ → List ℕ → tokens.FunctionBody → Type 0
  BodyPart i k after s = Part all i k (dropped_body s after) after (IsPlaced i k (bare_function_body (ranks all) s) (λ n. placed_body n (bare_function_body (words_of says) s)))

  abbrev BlockPart : ℕ → ℕ → List ℕ → tokens.Block → Type 0
  BlockPart i k after s = Part all i k (dropped_block s after) after (IsPlaced i k (bare_block (ranks all) s) (λ n. placed_block n (bare_block (words_of says) s)))

  abbrev StatementsPart : ℕ → ℕ → List ℕ → tokens.Statements → Type 0
  StatementsPart i k after s = Part all i k (dropped_statements s after) after (IsPlaced i k (bare_statements (ranks all) s) (λ n. placed_statements n (bare_statements (words_of says) s)))

  abbrev ArmPart : ℕ → ℕ → List ℕ → tokens.Arm → Type 0
  ArmPart i k after s = Part all i k (dropped_arm s after) after (IsPlaced i k (bare_arm (ranks all) s) (λ n. placed_arm n (bare_arm (words_of says) s)))

  abbrev ArmsPart : ℕ → ℕ → List ℕ → tokens.Arms → Type 0
  ArmsPart i k after s = Part all i k (dropped_arms s after) after (IsPlaced i k (bare_arms (ranks all) s) (λ n. placed_arms n (bare_arms (words_of says) s)))

  abbrev ElsePart : ℕ → ℕ → List ℕ → tokens.OptionalBlock → Type 0
  ElsePart i k after s = Part all i k (dropped_else s after) after (IsPlaced i k (bare_optional_block (ranks all) s) (λ n. placed_else n (bare_optional_block (words_of says) s)))

  abbrev ForStepPart : ℕ → ℕ → List ℕ → tokens.OptionalExpression → Type 0
  ForStepPart i k after s = Part all i k (dropped_for_step s after) after (IsPlaced i k (bare_optional_expression (ranks all) s) (λ n. placed_for_step n (bare_optional_expression (words_of says) s)))

  abbrev ListPart : ℕ → ℕ → List ℕ → tokens.Expressions → Type 0
  ListPart i k after s = Part all i k (dropped_expressions s after) after (IsPlaced i k (bare_expressions (ranks all) s) (λ n. placed_list n (bare_expressions (words_of says) s)))

  abbrev FieldsClaim : ℕ → ℕ → tokens.Fields → Type 0
  FieldsClaim i k s = IsPlaced i k (bare_fields (ranks all) s) (λ n. placed_fields n (bare_fields (words_of says) s))

  abbrev FieldsPart : ℕ → ℕ → ℕ → List ℕ → tokens.Fields → Type 0
  FieldsPart end i k after s = Part all i k (dropped_fields s end after) after (FieldsClaim i k s)

  abbrev TableClaim : ℕ → ℕ → tokens.Fields → Type 0
  TableClaim i k s = IsPlaced i k (bare_expression (ranks all) (syntax.table (from_to i k) s)) (λ n. placed_expression n (bare_expression (words_of says) (syntax.table (from_to i k) s)))

  abbrev StatementClaim : ℕ → ℕ → tokens.Statement → Type 0
  StatementClaim i k s = IsPlaced i k (bare_statement (ranks all) s) (λ n. placed_if n (bare_statement (words_of says) s))

  abbrev StatementPart : ℕ → ℕ → List ℕ → tokens.Statement → Type 0
  StatementPart i k after s = Part all i k (dropped_statement s after) after (StatementClaim i k s)

  abbrev NamesPart : ℕ → ℕ → List ℕ → List ℕ → Type 0
  NamesPart i k after names = Part all i k after after (IsPlaced i k (map (rank all) names) (λ n. placed_names n (map says names)))

  abbrev ParamsPart : ℕ → ℕ → List ℕ → List ℕ → Bool → Type 0
  ParamsPart i k after names vararg = Part all i k after after (IsPlaced i k (map (rank all) names) (λ n. placed_parameters n (map says names) vararg))

  abbrev AttributePart : ℕ → ℕ → List ℕ → Option ℕ → Type 0
  AttributePart i k after a = Part all i k after after (IsPlaced i k (option_map (rank all) a) (λ n. placed_attribute n (option_map says a)))

  abbrev MethodPart : ℕ → ℕ → List ℕ → Option ℕ → Type 0
  MethodPart i k after m = Part all i k after after (IsPlaced i k (option_map (rank all) m) (λ n. placed_method n (option_map says m)))

  abbrev DeclaredPart : ℕ → ℕ → List ℕ → List tokens.DeclaredName → Type 0
  DeclaredPart i k after ds = Part all i k after after (IsPlaced i k (map (bare_declared (ranks all)) ds) (λ n. placed_declared n (map (bare_declared (words_of says)) ds)))

  function_named : (i o : ℕ) (path : List ℕ) (method : Option ℕ) (body : tokens.FunctionBody)
      → placed (bare_statement (ranks all) (syntax.function_statement (from_to i o) (first_of_path path) (rest_of_path path) method body)) (rank all o)
      ≡ placed (Some (syntax.function_statement (from_to (rank all i) (rank all o)) (first_of_path (map (rank all) path)) (rest_of_path (map (rank all) path)) (option_map (rank all) method) (bare_function_body (ranks all) body))) (rank all o)
  function_named i o path method body = λ t. placed (Some (syntax.function_statement (from_to (rank all i) (rank all o)) (first_named (rank all) path t) (rest_named (rank all) path t) (option_map (rank all) method) (bare_function_body (ranks all) body))) (rank all o)

  -- arguments in parentheses, which are dropped round a lone one
  abbrev Enclosed : Bool → ℕ → ℕ → tokens.Expressions → Type 0
  Enclosed lone i l items = IsPlaced i l (syntax.arguments (from_to (rank all i) (rank all l)) true (bare_expressions (ranks all) items)) (λ n. placed_enclosed lone n (placed_list n (word_expressions items)) (placed_list (n + 1) (word_expressions items)))

  enclosed_by : (lone : Bool) {i j k l : ℕ} {t u : Tok} (items : tokens.Expressions) → IsToken toks i t j → ((more : List ℕ) → ListPart j k more items) → IsToken toks k u l
      → (after : List ℕ) → Part all i l (if_dropped lone i (dropped_expressions items (if_dropped lone k after))) after (Enclosed lone i l items)
  enclosed_by true items t_l inner t_r after = to (lost t_l (seq (inner _) (lost t_r none))) (λ c n h. let h1 = over c.0 h in let e = c.1.0 _ h1 in let h2 = over c.1.1.0 (ends e) in (λ t. placed (syntax.arguments (from_to (h t) (h2 t)) true (e t).part) (h2 t)))
  enclosed_by false items t_l inner t_r after = to (kept t_l (seq (inner _) (kept t_r none))) (λ c n h. let h1 = up c.0 h in let e = c.1.0 _ h1 in let h2 = up c.1.1.0 (ends e) in (λ t. placed (syntax.arguments (from_to (h t) (h2 t)) true (e t).part) (h2 t)))

  enclosed_part : {i j k l : ℕ} {t u : Tok} (items : tokens.Expressions) → IsToken toks i t j → ((more : List ℕ) → ListPart j k more items) → IsToken toks k u l → (after : List ℕ) → ArgumentsPart i l after (syntax.arguments (from_to i l) true items)
  enclosed_part {i} {j} {k} {l} items t_l inner t_r after =
      subst (λ z. Part all i l (if_dropped (is_lone items) i (dropped_expressions items (if_dropped (is_lone items) (l - 1) after))) after (Enclosed z i l items)) (sym (lone_chosen (words_of says) always items))
      (subst (λ z. Part all i l (if_dropped (is_lone items) i (dropped_expressions items (if_dropped (is_lone items) z after))) after (Enclosed (is_lone items) i l items)) (sym (place_before t_r.next))
      (enclosed_by (is_lone items) items t_l inner t_r after))

  names_part : {i k : ℕ} {names : List ℕ} → AreNames toks i k names → (after : List ℕ) → NamesPart i k after names
  names_part (g.one_name t) after = to (kept t none) (λ c n h. let h1 = up c.0 h in (λ t. placed (h t ∷ []) (less_one h1 t)))
  names_part (g.more_names t c d) after = to (kept t (kept c (names_part d after))) (λ c n h. let h1 = up c.0 h in let h2 = up c.1.0 h1 in let r = c.1.1 _ h2 in (λ t. placed (h t ∷ (r t).part) ((ends r) t)))

  alone_names : {i k : ℕ} {names : List ℕ} → AreNames toks i k names → (n : ℕ) → placed_names n (map says names) ≡ placed_parameters n (map says names) false
  alone_names (g.one_name _) n = refl
  alone_names (g.more_names _ _ _) n = refl

  dotted_names : {i k : ℕ} {names : List ℕ} → AreNames toks i k names → (n : ℕ) → placed (placed_names n (map says names)).part ((placed_names n (map says names)).end + 1 + 1) ≡ placed_parameters n (map says names) true
  dotted_names (g.one_name _) n = refl
  dotted_names (g.more_names _ _ _) n = refl

  params_part : {i k : ℕ} {names : List ℕ} {vararg : Bool} → AreParams toks i k names vararg → (after : List ℕ) → ParamsPart i k after names vararg
  params_part g.no_params after = to none (λ c n h. (λ t. placed ([]) (h t)))
  params_part (g.dots_alone t) after = to (kept t none) (λ c n h. let h1 = up c.0 h in (λ t. placed ([]) (h1 t)))
  params_part (g.names_alone d) after = to (names_part d after) (λ c n h. c n h ∙ alone_names d n)
  params_part (g.names_and_dots d c t) after = to (seq (names_part d _) (kept c (kept t none))) (λ c n h. let r = c.0 _ h in let h1 = up c.1.0 (ends r) in let h2 = up c.1.1.0 h1 in (λ t. placed ((r t).part) (h2 t)) ∙ dotted_names d n)

  attribute_part : {i k : ℕ} {a : Option ℕ} → IsAttribute toks i k a → (after : List ℕ) → AttributePart i k after a
  attribute_part g.no_attribute after = to none (λ c n h. (λ t. placed (None) (h t)))
  attribute_part (g.an_attribute l t r) after = to (kept l (kept t (kept r none))) (λ c n h. let h1 = up c.0 h in let h2 = up c.1.0 h1 in let h3 = up c.1.1.0 h2 in (λ t. placed (Some (h1 t)) (h3 t)))

  declared_part : {i k : ℕ} {ds : List Declared} → AreDeclared toks i k ds → (after : List ℕ) → DeclaredPart i k after (map declared_of ds)
  declared_part (g.one_declared t d_a) after = to (kept t (attribute_part d_a after)) (λ c n h. let h1 = up c.0 h in let a = c.1 _ h1 in (λ t. placed (record { name = h t; attribute = (a t).part } ∷ []) (less_one (ends a) t)))
  declared_part (g.more_declared t d_a c d) after = to (kept t (seq (attribute_part d_a _) (kept c (declared_part d after)))) (λ c n h. let h1 = up c.0 h in let a = c.1.0 _ h1 in let h2 = up c.1.1.0 (ends a) in let r = c.1.1.1 _ h2 in (λ t. placed (record { name = h t; attribute = (a t).part } ∷ (r t).part) ((ends r) t)))

  path_part : {i k : ℕ} {path : List ℕ} → IsPath toks i k path → (after : List ℕ) → NamesPart i k after path
  path_part (g.path_end t) after = to (kept t none) (λ c n h. let h1 = up c.0 h in (λ t. placed (h t ∷ []) (less_one h1 t)))
  path_part (g.path_more t c d) after = to (kept t (kept c (path_part d after))) (λ c n h. let h1 = up c.0 h in let h2 = up c.1.0 h1 in let r = c.1.1 _ h2 in (λ t. placed (h t ∷ (r t).part) ((ends r) t)))

  function_path_part : {i k : ℕ} {path : List ℕ} → IsPath toks i k path → (after : List ℕ) → Part all i k after after (IsPlaced i k (map (rank all) path) (λ n. placed_names n (path_of (option_map says (first_of_path path)) (map says (rest_of_path path)))))
  function_path_part {path} d after = to (path_part d after) (λ c n h. c n h ∙ ap (placed_names n) (sym (path_named says path)))

  method_part : {i k : ℕ} {m : Option ℕ} → IsMethod toks i k m → (after : List ℕ) → MethodPart i k after m
  method_part g.no_method after = to none (λ c n h. (λ t. placed (None) (h t)))
  method_part (g.a_method c t) after = to (kept c (kept t none)) (λ c n h. let h1 = up c.0 h in let h2 = up c.1.0 h1 in (λ t. placed (Some (h1 t)) (h2 t)))

  semicolon_part : {i k : ℕ} → IsSemicolon toks i k → (after : List ℕ) → Part all i k (between i k after) after (Same all i k)
  semicolon_part (g.no_semicolon {i}) after = subst (λ z. Part all i i z after (Same all i i)) (sym (between_none i after)) (to none (λ c. record { same = refl }))
  semicolon_part (g.a_semicolon {i} {j} t) after = subst (λ z. Part all i j z after (Same all i j)) (sym (between_one i j after (omega (arith, t.next)))) (to (lost t none) (λ c. c.0))

  listed : {i k : ℕ} {es : List Expr} → AreExprs toks i k es → (n : ℕ) → placed_expressions n (word_expressions (expressions_of (map syntax_of_expr es))) ≡ placed_list n (word_expressions (expressions_of (map syntax_of_expr es)))
  listed (g.one_expr _) n = refl
  listed (g.more_exprs _ _ _) n = refl

  as_list : {i k : ℕ} {es : List Expr} {after : List ℕ} → AreExprs toks i k es → ExpressionsPart i k after (expressions_of (map syntax_of_expr es)) → ListPart i k after (expressions_of (map syntax_of_expr es))
  as_list d part = to part (λ c n h. c n h ∙ listed d n)

  mutual
    expr_part : {m i k : ℕ} {x : Expr} → IsExpr toks m i k x → (after : List ℕ) → ExpressionPart i k after (syntax_of_expr x)
    expr_part (g.operand_expr d) after = operand_part d after
    expr_part (g.chain_expr {i} {k} {first} {rest} _ _ d d_rest) after = subst (ExpressionPart i k after) (sym (chain_syntax i k first rest)) (to (seq (expr_part d _) (steps_part d_rest after)) (λ c n h. let e = c.0 _ h in let r = c.1 _ (ends e) in (λ t. placed (syntax.chain (from_to (h t) ((ends r) t)) (e t).part (r t).part) ((ends r) t))))

    steps_part : {m i k : ℕ} {x : List Step} → AreSteps toks m i k x → (after : List ℕ) → OperationsPart i k after (operations_of (map syntax_of_step x))
    steps_part (g.one_step {i} {k} {e} t_x _ d) after = subst (λ z. OperationsPart i k after (syntax.more_operations z syntax.no_operations)) (sym (step_of_syntax i e)) (to (kept t_x (expr_part d after)) (λ c n h. let h1 = up c.0 h in let e = c.1 _ h1 in (λ t. placed (syntax.more_operations (syntax.operation (h t) (e t).part) syntax.no_operations) ((ends e) t))))
    steps_part (g.more_steps {i} {l} {e} {rest} t_x _ d d_rest) after = subst (λ z. OperationsPart i l after (syntax.more_operations z (operations_of (map syntax_of_step rest)))) (sym (step_of_syntax i e)) (to (kept t_x (seq (expr_part d _) (steps_part d_rest after))) (λ c n h. let h1 = up c.0 h in let e = c.1.0 _ h1 in let r = c.1.1 _ (ends e) in (λ t. placed (syntax.more_operations (syntax.operation (h t) (e t).part) (r t).part) ((ends r) t))))

    operand_part : {i k : ℕ} {x : Expr} → IsOperand toks i k x → (after : List ℕ) → ExpressionPart i k after (syntax_of_expr x)
    operand_part (g.unary_operand {i} {k} {e} t_x _ d) after = subst (ExpressionPart i k after) (sym (unary_syntax i k e)) (to (kept t_x (operand_part d after)) (λ c n h. let h1 = up c.0 h in let e = c.1 _ h1 in (λ t. placed (syntax.unary (from_to (h t) ((ends e) t)) (h t) (e t).part) ((ends e) t))))
    operand_part (g.power_operand {i} {j} {l} {base} {exponent} d t_x d_exponent) after = subst (ExpressionPart i l after) (sym (power_syntax i l base j exponent)) (to (seq (simple_part d _) (kept t_x (operand_part d_exponent after))) (λ c n h. let e = c.0 _ h in let h1 = up c.1.0 (ends e) in let r = c.1.1 _ h1 in (λ t. placed (syntax.power (from_to (h t) ((ends r) t)) (e t).part ((ends e) t) (r t).part) ((ends r) t))))
    operand_part (g.simple_operand d) after = simple_part d after

    simple_part : {i k : ℕ} {x : Expr} → IsSimple toks i k x → (after : List ℕ) → ExpressionPart i k after (syntax_of_expr x)
    simple_part (g.nil_simple {i} {j} t_x) after = subst (ExpressionPart i j after) (sym (nil_syntax i j)) (to (kept t_x none) (λ c n h. let h1 = up c.0 h in (λ t. placed (syntax.nil_value (from_to (h t) (h1 t))) (h1 t))))
    simple_part (g.true_simple {i} {j} t_x) after = subst (ExpressionPart i j after) (sym (true_syntax i j)) (to (kept t_x none) (λ c n h. let h1 = up c.0 h in (λ t. placed (syntax.true_value (from_to (h t) (h1 t))) (h1 t))))
    simple_part (g.false_simple {i} {j} t_x) after = subst (ExpressionPart i j after) (sym (false_syntax i j)) (to (kept t_x none) (λ c n h. let h1 = up c.0 h in (λ t. placed (syntax.false_value (from_to (h t) (h1 t))) (h1 t))))
    simple_part (g.vararg_simple {i} {j} t_x) after = subst (ExpressionPart i j after) (sym (vararg_syntax i j)) (to (kept t_x none) (λ c n h. let h1 = up c.0 h in (λ t. placed (syntax.varargs (from_to (h t) (h1 t))) (h1 t))))
    simple_part (g.number_simple {i} {j} t_x) after = subst (ExpressionPart i j after) (sym (number_syntax i j)) (to (kept t_x none) (λ c n h. let h1 = up c.0 h in (λ t. placed (syntax.numeral (from_to (h t) (h1 t)) (h t)) (h1 t))))
    simple_part (g.string_simple {i} {j} t_x) after = subst (ExpressionPart i j after) (sym (string_syntax i j)) (to (kept_string t_x none) (λ c n h. let h1 = up c.0 h in (λ t. placed (syntax.string (from_to (h t) (h1 t)) (h t)) (h1 t))))
    simple_part (g.function_simple {i} {k} {f} t_x d) after = subst (ExpressionPart i k after) (sym (function_syntax i k f)) (to (kept t_x (func_body_part d after)) (λ c n h. let h1 = up c.0 h in let b = c.1 _ h1 in (λ t. placed (syntax.function (from_to (h t) ((ends b) t)) (b t).part) ((ends b) t))))
    simple_part (g.table_simple {i} {j} {fields} d) after = subst (ExpressionPart i j after) (sym (table_syntax i j fields)) (table_part d after)
    simple_part (g.prefix_simple d _) after = prefix_part d after

    prefix_part : {i k : ℕ} {x : Expr} → IsPrefix toks i k x → (after : List ℕ) → ExpressionPart i k after (syntax_of_expr x)
    prefix_part (g.variable_prefix d) after = variable_part d after
    prefix_part (g.call_prefix d) after = call_part d after
    prefix_part (g.paren_prefix d) after = paren_part d after

    variable_part : {i k : ℕ} {x : Expr} → IsVariable toks i k x → (after : List ℕ) → ExpressionPart i k after (syntax_of_expr x)
    variable_part (g.name_variable {i} {j} t_x) after = subst (ExpressionPart i j after) (sym (name_syntax i j)) (to (kept t_x none) (λ c n h. let h1 = up c.0 h in (λ t. placed (syntax.variable (from_to (h t) (h1 t)) (h t)) (h1 t))))
    variable_part (g.suffixed_variable {i} {k} {head} {suffixes} d d_suffixes) after = subst (ExpressionPart i k after) (sym (suffixed_syntax i k head suffixes)) (to (seq (head_part d _) (suffixes_part d_suffixes after)) (λ c n h. let e = c.0 _ h in let r = c.1 _ (ends e) in (λ t. placed (syntax.suffixed (from_to (h t) ((ends r) t)) (e t).part (r t).part) ((ends r) t))))

    call_part : {i k : ℕ} {x : Expr} → IsCall toks i k x → (after : List ℕ) → ExpressionPart i k after (syntax_of_expr x)
    call_part (g.suffixed_call {i} {k} {head} {suffixes} d d_suffixes) after = subst (ExpressionPart i k after) (sym (suffixed_syntax i k head suffixes)) (to (seq (head_part d _) (suffixes_part d_suffixes after)) (λ c n h. let e = c.0 _ h in let r = c.1 _ (ends e) in (λ t. placed (syntax.suffixed (from_to (h t) ((ends r) t)) (e t).part (r t).part) ((ends r) t))))

    paren_part : {i k : ℕ} {x : Expr} → IsParen toks i k x → (after : List ℕ) → ExpressionPart i k after (syntax_of_expr x)
    paren_part (g.paren {i} {l} {e} t_l d t_r) after = subst (ExpressionPart i l after) (sym (paren_syntax i l e)) (to (kept t_l (seq (expr_part d _) (kept t_r none))) (λ c n h. let h1 = up c.0 h in let e = c.1.0 _ h1 in let h2 = up c.1.1.0 (ends e) in (λ t. placed (syntax.parenthesised (from_to (h t) (h2 t)) (e t).part) (h2 t))))

    head_part : {i k : ℕ} {x : Expr} → IsHead toks i k x → (after : List ℕ) → ExpressionPart i k after (syntax_of_expr x)
    head_part (g.name_head {i} {j} t_x) after = subst (ExpressionPart i j after) (sym (name_syntax i j)) (to (kept t_x none) (λ c n h. let h1 = up c.0 h in (λ t. placed (syntax.variable (from_to (h t) (h1 t)) (h t)) (h1 t))))
    head_part (g.paren_head d) after = paren_part d after

    suffixes_part : {calls : Bool} {i k : ℕ} {x : List Suffix} → AreSuffixes toks calls i k x → (after : List ℕ) → SuffixesPart i k after (suffixes_of (map syntax_of_suffix x))
    suffixes_part (g.one_suffix d) after = to (suffix_part d after) (λ c n h. let s = c _ h in (λ t. placed (syntax.more_suffixes (s t).part syntax.no_suffixes) ((ends s) t)))
    suffixes_part (g.more_suffixes d d_rest) after = to (seq (suffix_part d _) (suffixes_part d_rest after)) (λ c n h. let s = c.0 _ h in let r = c.1 _ (ends s) in (λ t. placed (syntax.more_suffixes (s t).part (r t).part) ((ends r) t)))

    suffix_part : {calls : Bool} {i k : ℕ} {x : Suffix} → IsSuffix toks calls i k x → (after : List ℕ) → SuffixPart i k after (syntax_of_suffix x)
    suffix_part (g.dot_suffix {i} {j} {k} t_d t_x) after = subst (SuffixPart i k after) (sym (dot_syntax j)) (to (kept t_d (kept t_x none)) (λ c n h. let h1 = up c.0 h in let h2 = up c.1.0 h1 in (λ t. placed (syntax.name_suffix (h1 t)) (h2 t))))
    suffix_part (g.index_suffix {i} {l} {e} t_l d t_r) after = subst (SuffixPart i l after) (sym (index_syntax e)) (to (kept t_l (seq (expr_part d _) (kept t_r none))) (λ c n h. let h1 = up c.0 h in let e = c.1.0 _ h1 in let h2 = up c.1.1.0 (ends e) in (λ t. placed (syntax.index_suffix (e t).part) (h2 t))))
    suffix_part (g.call_suffix {i} {j} {args} d) after = subst (SuffixPart i j after) (sym (call_suffix_syntax args)) (to (args_part d after) (λ c n h. let a = c _ h in (λ t. placed (syntax.call_suffix (a t).part) ((ends a) t))))
    suffix_part (g.method_suffix {i} {j} {l} {args} t_c t_x d) after = subst (SuffixPart i l after) (sym (method_syntax j args)) (to (kept t_c (kept t_x (args_part d after))) (λ c n h. let h1 = up c.0 h in let h2 = up c.1.0 h1 in let a = c.1.1 _ h2 in (λ t. placed (syntax.method_suffix (h1 t) (a t).part) ((ends a) t))))

    args_part : {i k : ℕ} {x : Args} → IsArgs toks i k x → (after : List ℕ) → ArgumentsPart i k after (syntax_of_args x)
    args_part (g.no_args {i} {k} t_l t_r) after = subst (ArgumentsPart i k after) (sym (args_of_syntax i k true [])) (to (kept t_l (kept t_r none)) (λ c n h. let h1 = up c.0 h in let h2 = up c.1.0 h1 in (λ t. placed (syntax.arguments (from_to (h t) (h2 t)) true syntax.no_expressions) (h2 t))))
    args_part (g.list_args {i} {l} {es} t_l d t_r) after = subst (ArgumentsPart i l after) (sym (args_of_syntax i l true es)) (enclosed_part (expressions_of (map syntax_of_expr es)) t_l (λ more. as_list d (exprs_part d more)) t_r after)
    args_part (g.string_args {i} {j} t_x) after = subst (ArgumentsPart i j after) (sym (args_of_syntax i j false (expression i j expr.Str ∷ []) ∙ ap (λ z. syntax.arguments (from_to i j) false (syntax.more_expressions z syntax.no_expressions)) (string_syntax i j))) (to (kept_string t_x none) (λ c n h. let h1 = up c.0 h in (λ t. placed (syntax.arguments (from_to (h t) (less_one h1 t)) true (syntax.more_expressions (syntax.string (from_to (h t) (h1 t)) (h t)) syntax.no_expressions)) (less_one h1 t))))
    args_part (g.table_args {i} {j} {fields} d) after = subst (ArgumentsPart i j after) (sym (args_of_syntax i j false (expression i j (expr.Table fields) ∷ []) ∙ ap (λ z. syntax.arguments (from_to i j) false (syntax.more_expressions z syntax.no_expressions)) (table_syntax i j fields))) (to (table_part d after) (λ c n h. let s = c _ h in (λ t. placed (syntax.arguments (from_to (h t) (less_one (ends s) t)) true (syntax.more_expressions (s t).part syntax.no_expressions)) (less_one (ends s) t))))

    exprs_part : {i k : ℕ} {x : List Expr} → AreExprs toks i k x → (after : List ℕ) → ExpressionsPart i k after (expressions_of (map syntax_of_expr x))
    exprs_part (g.one_expr d) after = to (expr_part d after) (λ c n h. let e = c _ h in (λ t. placed (syntax.more_expressions (e t).part syntax.no_expressions) (less_one (ends e) t)))
    exprs_part (g.more_exprs d c d_rest) after = to (seq (expr_part d _) (kept c (exprs_part d_rest after))) (λ c n h. let e = c.0 _ h in let h1 = up c.1.0 (ends e) in let r = c.1.1 _ h1 in (λ t. placed (syntax.more_expressions (e t).part (r t).part) ((ends r) t)))

    table_part : {i k : ℕ} {x : List Field} → IsTable toks i k x → (after : List ℕ) → ExpressionPart i k after (syntax.table (from_to i k) (fields_of (map syntax_of_field x)))
    table_part (g.table {i} {k} {l} {fields} t_l d t_r) after = subst (λ z. Part all i l (dropped_fields (fields_of (map syntax_of_field fields)) z after) after (TableClaim i l (fields_of (map syntax_of_field fields)))) (sym (place_before t_r.next)) (to (kept t_l (seq (fields_part d _) (kept t_r none))) (λ c n h. let h1 = up c.0 h in let r = c.1.0 _ h1 in let h2 = up c.1.1.0 (ends r) in (λ t. placed (syntax.table (from_to (h t) (h2 t)) (r t).part) (h2 t))))

    fields_part : {i k : ℕ} {x : List Field} → AreFields toks i k x → (after : List ℕ) → FieldsPart k i k after (fields_of (map syntax_of_field x))
    fields_part g.no_fields after = to none (λ c n h. (λ t. placed (syntax.no_fields) (h t)))
    fields_part (g.last_field {i} {j} {f} d) after = subst (λ z. Part all i j (dropped_field (syntax_of_field f) z) after (FieldsClaim i j (fields_of (map syntax_of_field (f ∷ []))))) (sym (ap (λ z. between z j after) (field_end d) ∙ between_none j after)) (to (field_part d after) (λ c n h. let e = c _ h in (λ t. placed (syntax.more_fields (e t).part syntax.no_fields) ((ends e) t))))
    fields_part (g.more_fields {i} {j} {k} {l} {f} {fields} d t d_fields) after = subst (λ z. Part all i l (dropped_field (syntax_of_field f) z) after (FieldsClaim i l (fields_of (map syntax_of_field (f ∷ fields))))) (sym (ap (λ z. between z l (dropped_fields (fields_of (map syntax_of_field fields)) l after)) (field_end d) ∙ between_one j l _ (between_room (separator_next t) (fields_part d_fields after)))) (to (seq (field_part d _) (lost_one t (fields_part d_fields after))) (λ c n h. let e = c.0 _ h in let h1 = over c.1.0 (ends e) in let r = c.1.1 _ h1 in (λ t. placed (syntax.more_fields (e t).part (r t).part) ((ends r) t))))

    field_part : {i k : ℕ} {x : Field} → IsField toks i k x → (after : List ℕ) → FieldPart i k after (syntax_of_field x)
    field_part (g.keyed_field {i} {p} {key} {value} t_l d_key t_r t_a d) after = subst (FieldPart i p after) (sym (keyed_syntax key value)) (to (kept t_l (seq (expr_part d_key _) (kept t_r (kept t_a (expr_part d after))))) (λ c n h. let h1 = up c.0 h in let e = c.1.0 _ h1 in let h2 = up c.1.1.0 (ends e) in let h3 = up c.1.1.1.0 h2 in let r = c.1.1.1.1 _ h3 in (λ t. placed (syntax.keyed_field (e t).part (r t).part) ((ends r) t))))
    field_part (g.named_field {i} {l} {value} t_x t_a d) after = subst (FieldPart i l after) (sym (named_syntax i value)) (to (kept t_x (kept t_a (expr_part d after))) (λ c n h. let h1 = up c.0 h in let h2 = up c.1.0 h1 in let e = c.1.1 _ h2 in (λ t. placed (syntax.named_field (h t) (e t).part) ((ends e) t))))
    field_part (g.item_field {i} {j} {e} d) after = subst (FieldPart i j after) (sym (item_syntax e)) (to (expr_part d after) (λ c n h. let e = c _ h in (λ t. placed (syntax.item_field (e t).part) ((ends e) t))))

    func_body_part : {i k : ℕ} {x : FuncBody} → IsFuncBody toks i k x → (after : List ℕ) → BodyPart i k after (syntax_of_body x)
    func_body_part (g.func_body {i} {p} {params} {vararg} {body} t_l d_params t_r d t_z) after = subst (BodyPart i p after) (sym (body_of_syntax i p params vararg body)) (to (kept t_l (seq (params_part d_params _) (kept t_r (seq (block_part d _) (kept t_z none))))) (λ c n h. let h1 = up c.0 h in let r = c.1.0 _ h1 in let h2 = up c.1.1.0 (ends r) in let b = c.1.1.1.0 _ h2 in let h3 = up c.1.1.1.1.0 (ends b) in (λ t. placed (syntax.function_body (from_to (h t) (h3 t)) (r t).part vararg (b t).part) (h3 t))))

    pub block_part : {i k : ℕ} {x : Block} → IsBlock toks i k x → (after : List ℕ) → BlockPart i k after (syntax_of_block x)
    block_part (g.block {i} {j} {stats} d) after = subst (BlockPart i j after) (sym (block_of_syntax i j stats)) (to (stats_part d after) (λ c n h. let r = c _ h in (λ t. placed (syntax.block (from_to (h t) ((ends r) t)) (r t).part) ((ends r) t))))

    stats_part : {i k : ℕ} {x : List Stat} → AreStats toks i k x → (after : List ℕ) → StatementsPart i k after (statements_of (map syntax_of_stat x))
    stats_part g.no_stats after = to none (λ c n h. (λ t. placed (syntax.no_statements) (h t)))
    stats_part (g.last_stat {s} d) after = to (return_part d after) (λ c n h. let e = c _ h in (λ t. placed (before (e t).part syntax.no_statements) ((ends e) t)) ∙ placed_before n (bare_statement (words_of says) (syntax_of_stat s)) syntax.no_statements)
    stats_part (g.more_stats {s} {stats} d d_rest) after = to (seq (stat_part d _) (stats_part d_rest after)) (λ c n h. let e = c.0 _ h in let r = c.1 _ (ends e) in (λ t. placed (before (e t).part (r t).part) ((ends r) t)) ∙ placed_before n (bare_statement (words_of says) (syntax_of_stat s)) (bare_statements (words_of says) (statements_of (map syntax_of_stat stats))))

    return_part : {i k : ℕ} {x : Stat} → IsReturn toks i k x → (after : List ℕ) → StatementPart i k after (syntax_of_stat x)
    return_part (g.return_nothing {i} {j} {k} t s) after = subst (StatementPart i k after) (sym (return_syntax i k [])) (subst (λ z. Part all i k (between z k after) after (StatementClaim i k (syntax.return_statement (from_to i k) syntax.no_expressions))) t.next (to (kept t (semicolon_part s after)) (λ c n h. let h1 = up c.0 h in let h2 = over (c.1) h1 in (λ t. placed (Some (syntax.return_statement (from_to (h t) (h2 t)) syntax.no_expressions)) (h2 t)))))
    return_part (g.return_values {i} {l} {es} t d s) after = subst (StatementPart i l after) (sym (return_syntax i l es)) (subst (λ z. Part all i l (dropped_expressions (expressions_of (map syntax_of_expr es)) (between z l after)) after (StatementClaim i l (syntax.return_statement (from_to i l) (expressions_of (map syntax_of_expr es))))) (sym (exprs_end (i + 1) d)) (to (kept t (seq (as_list d (exprs_part d _)) (semicolon_part s after))) (λ c n h. let h1 = up c.0 h in let e = c.1.0 _ h1 in let h2 = over (c.1.1) (ends e) in (λ t. placed (Some (syntax.return_statement (from_to (h t) (h2 t)) (e t).part)) (h2 t)))))

    stat_part : {i k : ℕ} {x : Stat} → IsStat toks i k x → (after : List ℕ) → StatementPart i k after (syntax_of_stat x)
    stat_part (g.local_stat {i} {k} {declared} t_x d) after = subst (StatementPart i k after) (sym (local_syntax i k declared [])) (to (kept t_x (declared_part d after)) (λ c n h. let h1 = up c.0 h in let r = c.1 _ h1 in (λ t. placed (Some (syntax.local_statement (from_to (h t) (less_one (ends r) t)) (r t).part syntax.no_expressions)) (less_one (ends r) t))))
    stat_part (g.local_values_stat {i} {o} {declared} {es} t d t_a d_es) after = subst (StatementPart i o after) (sym (local_syntax i o declared es)) (to (kept t (seq (declared_part d _) (kept t_a (exprs_part d_es after)))) (λ c n h. let h1 = up c.0 h in let r = c.1.0 _ h1 in let h2 = up c.1.1.0 (ends r) in let e = c.1.1.1 _ h2 in (λ t. placed (Some (syntax.local_statement (from_to (h t) ((ends e) t)) (r t).part (e t).part)) ((ends e) t))))
    stat_part (g.assign_stat {i} {l} {targets} {es} d t_a d_es) after = subst (StatementPart i l after) (sym (assign_syntax i l targets es)) (to (seq (targets_part d _) (kept t_a (exprs_part d_es after))) (λ c n h. let r = c.0 _ h in let h1 = up c.1.0 (ends r) in let e = c.1.1 _ h1 in (λ t. placed (Some (syntax.assignment (from_to (h t) ((ends e) t)) (r t).part (e t).part)) ((ends e) t))))
    stat_part (g.call_stat {i} {j} {e} d _) after = subst (StatementPart i j after) (sym (call_syntax i j e)) (to (call_part d after) (λ c n h. let e = c _ h in (λ t. placed (Some (syntax.call_statement (from_to (h t) ((ends e) t)) (e t).part)) ((ends e) t))))
    stat_part (g.do_stat {i} {l} {body} t_x d t_z) after = subst (StatementPart i l after) (sym (do_syntax i l body)) (to (kept t_x (seq (block_part d _) (kept t_z none))) (λ c n h. let h1 = up c.0 h in let b = c.1.0 _ h1 in let h2 = up c.1.1.0 (ends b) in (λ t. placed (Some (syntax.do_statement (from_to (h t) (h2 t)) (b t).part)) (h2 t))))
    stat_part (g.while_stat {i} {p} {e} {body} t_x d_e t_y d t_z) after = subst (StatementPart i p after) (sym (while_syntax i p e body)) (to (kept t_x (seq (expr_part d_e _) (kept t_y (seq (block_part d _) (kept t_z none))))) (λ c n h. let h1 = up c.0 h in let e = c.1.0 _ h1 in let h2 = up c.1.1.0 (ends e) in let b = c.1.1.1.0 _ h2 in let h3 = up c.1.1.1.1.0 (ends b) in (λ t. placed (Some (syntax.while_statement (from_to (h t) (h3 t)) (e t).part (b t).part)) (h3 t))))
    stat_part (g.repeat_stat {i} {o} {body} {e} t_x d t_y d_e) after = subst (StatementPart i o after) (sym (repeat_syntax i o body e)) (to (kept t_x (seq (block_part d _) (kept t_y (expr_part d_e after)))) (λ c n h. let h1 = up c.0 h in let b = c.1.0 _ h1 in let h2 = up c.1.1.0 (ends b) in let e = c.1.1.1 _ h2 in (λ t. placed (Some (syntax.repeat_statement (from_to (h t) ((ends e) t)) (b t).part (e t).part)) ((ends e) t))))
    stat_part (g.if_stat {i} {o} {arms} {last} t_x d d_other t_z) after = subst (StatementPart i o after) (sym (if_syntax i o arms last)) (to (kept t_x (seq (arms_part d _) (seq (else_part d_other _) (kept t_z none)))) (λ c n h. let h1 = up c.0 h in let r = c.1.0 _ h1 in let e = c.1.1.0 _ (ends r) in let h2 = up c.1.1.1.0 (ends e) in (λ t. placed (Some (syntax.if_statement (from_to (h t) (h2 t)) (r t).part (e t).part)) (h2 t))))
    stat_part (g.for_stat {i} {j} {s} {first} {limit} {step} {body} t_x t_name t_a d_first t_c d_limit d_step t_y d t_z) after = subst (StatementPart i s after) (sym (for_syntax i s j first limit step body)) (to (kept t_x (kept t_name (kept t_a (seq (expr_part d_first _) (kept t_c (seq (expr_part d_limit _) (seq (for_step_part d_step _) (kept t_y (seq (block_part d _) (kept t_z none)))))))))) (λ c n h. let h1 = up c.0 h in let h2 = up c.1.0 h1 in let h3 = up c.1.1.0 h2 in let e = c.1.1.1.0 _ h3 in let h4 = up c.1.1.1.1.0 (ends e) in let l = c.1.1.1.1.1.0 _ h4 in let s = c.1.1.1.1.1.1.0 _ (ends l) in let h5 = up c.1.1.1.1.1.1.1.0 (ends s) in let b = c.1.1.1.1.1.1.1.1.0 _ h5 in let h6 = up c.1.1.1.1.1.1.1.1.1.0 (ends b) in (λ t. placed (Some (syntax.for_statement (from_to (h t) (h6 t)) (h1 t) (e t).part (l t).part (s t).part (b t).part)) (h6 t))))
    stat_part (g.for_in_stat {i} {r} {names} {es} {body} t_x d_names t_y d_es t_d d t_z) after = subst (StatementPart i r after) (sym (for_in_syntax i r names es body)) (to (kept t_x (seq (names_part d_names _) (kept t_y (seq (exprs_part d_es _) (kept t_d (seq (block_part d _) (kept t_z none))))))) (λ c n h. let h1 = up c.0 h in let r = c.1.0 _ h1 in let h2 = up c.1.1.0 (ends r) in let e = c.1.1.1.0 _ h2 in let h3 = up c.1.1.1.1.0 (ends e) in let b = c.1.1.1.1.1.0 _ h3 in let h4 = up c.1.1.1.1.1.1.0 (ends b) in (λ t. placed (Some (syntax.for_in_statement (from_to (h t) (h4 t)) (r t).part (e t).part (b t).part)) (h4 t))))
    stat_part (g.function_stat {i} {o} {path} {method} {f} t d_path d_method d) after = subst (StatementPart i o after) (sym (function_stat_syntax i o path method f)) (to (kept t (seq (function_path_part d_path _) (seq (method_part d_method _) (func_body_part d after)))) (λ c n h. let h1 = up c.0 h in let p = c.1.0 _ h1 in let r = c.1.1.0 _ (ends p) in let b = c.1.1.1 _ (ends r) in function_named i o path method (syntax_of_body f) ∙ (λ t. placed (Some (syntax.function_statement (from_to (h t) ((ends b) t)) (first_of_path (p t).part) (rest_of_path (p t).part) (r t).part (b t).part)) ((ends b) t))))
    stat_part (g.local_function_stat {i} {k} {o} {f} t_x t_y t_name d) after = subst (StatementPart i o after) (sym (local_function_syntax i o k f)) (to (kept t_x (kept t_y (kept t_name (func_body_part d after)))) (λ c n h. let h1 = up c.0 h in let h2 = up c.1.0 h1 in let h3 = up c.1.1.0 h2 in let b = c.1.1.1 _ h3 in (λ t. placed (Some (syntax.local_function_statement (from_to (h t) ((ends b) t)) (h2 t) (b t).part)) ((ends b) t))))
    stat_part (g.label_stat {i} {j} {l} t_x t_name t_y) after = subst (StatementPart i l after) (sym (label_syntax i l j)) (to (kept t_x (kept t_name (kept t_y none))) (λ c n h. let h1 = up c.0 h in let h2 = up c.1.0 h1 in let h3 = up c.1.1.0 h2 in (λ t. placed (Some (syntax.label (from_to (h t) (h3 t)) (h1 t))) (h3 t))))
    stat_part (g.goto_stat {i} {j} {k} t_x t_name) after = subst (StatementPart i k after) (sym (goto_syntax i k j)) (to (kept t_x (kept t_name none)) (λ c n h. let h1 = up c.0 h in let h2 = up c.1.0 h1 in (λ t. placed (Some (syntax.goto_statement (from_to (h t) (h2 t)) (h1 t))) (h2 t))))
    stat_part (g.break_stat {i} {j} t_x) after = subst (StatementPart i j after) (sym (break_syntax i j)) (to (kept t_x none) (λ c n h. let h1 = up c.0 h in (λ t. placed (Some (syntax.break_statement (from_to (h t) (h1 t)))) (h1 t))))
    stat_part (g.empty_stat {i} {j} t) after = subst (StatementPart i j after) (sym (empty_syntax i j)) (to (lost t none) (λ c n h. let h1 = over c.0 h in (λ t. placed (None) (h1 t))))

    targets_part : {i k : ℕ} {x : List Expr} → AreTargets toks i k x → (after : List ℕ) → ExpressionsPart i k after (expressions_of (map syntax_of_expr x))
    targets_part (g.one_target d) after = to (variable_part d after) (λ c n h. let e = c _ h in (λ t. placed (syntax.more_expressions (e t).part syntax.no_expressions) (less_one (ends e) t)))
    targets_part (g.more_targets d c d_rest) after = to (seq (variable_part d _) (kept c (targets_part d_rest after))) (λ c n h. let e = c.0 _ h in let h1 = up c.1.0 (ends e) in let r = c.1.1 _ h1 in (λ t. placed (syntax.more_expressions (e t).part (r t).part) ((ends r) t)))

    arm_part : {i k : ℕ} {x : Arm} → IsArm toks i k x → (after : List ℕ) → ArmPart i k after (syntax_of_arm x)
    arm_part (g.arm {i} {l} {e} {body} d_e t_x d) after = subst (ArmPart i l after) (sym (arm_of_syntax e body)) (to (seq (expr_part d_e _) (kept t_x (block_part d after))) (λ c n h. let e = c.0 _ h in let h1 = up c.1.0 (ends e) in let b = c.1.1 _ h1 in (λ t. placed (syntax.arm (e t).part (b t).part) ((ends b) t))))

    arms_part : {i k : ℕ} {x : List Arm} → AreArms toks i k x → (after : List ℕ) → ArmsPart i k after (arms_of (map syntax_of_arm x))
    arms_part (g.one_arm d) after = to (arm_part d after) (λ c n h. let e = c _ h in (λ t. placed (syntax.more_arms (e t).part syntax.no_arms) (less_one (ends e) t)))
    arms_part (g.more_arms d c d_rest) after = to (seq (arm_part d _) (kept c (arms_part d_rest after))) (λ c n h. let e = c.0 _ h in let h1 = up c.1.0 (ends e) in let r = c.1.1 _ h1 in (λ t. placed (syntax.more_arms (e t).part (r t).part) ((ends r) t)))

    else_part : {i k : ℕ} {x : Option Block} → IsElse toks i k x → (after : List ℕ) → ElsePart i k after (optional_block_of (option_map syntax_of_block x))
    else_part g.no_else after = to none (λ c n h. (λ t. placed (syntax.no_block) (h t)))
    else_part (g.an_else t_x d) after = to (kept t_x (block_part d after)) (λ c n h. let h1 = up c.0 h in let b = c.1 _ h1 in (λ t. placed (syntax.a_block (b t).part) ((ends b) t)))

    for_step_part : {i k : ℕ} {x : Option Expr} → IsForStep toks i k x → (after : List ℕ) → ForStepPart i k after (optional_expression_of (option_map syntax_of_expr x))
    for_step_part g.no_for_step after = to none (λ c n h. (λ t. placed (syntax.no_expression) (h t)))
    for_step_part (g.a_for_step t_c d) after = to (kept t_c (expr_part d after)) (λ c n h. let h1 = up c.0 h in let e = c.1 _ h1 in (λ t. placed (syntax.an_expression (e t).part) ((ends e) t)))

-- the bare program by ranks, by the bare program alone
ranked_is_placed : {X : Type 0} (toks : List Tok) (says : ℕ → X) (chunk : Chunk) → IsChunk toks chunk → ranked (syntax_of chunk) ≡ (placed_block 0 (bare_block (words_of says) (syntax_of chunk))).part
ranked_is_placed toks says chunk derived = ap (λ z. z.part) (claimed (block_part (dropped_block (syntax_of chunk) []) toks says derived []) 0 refl)

one_ranking_of : {X : Type 0} (toks others : List Tok) (chunk other : Chunk) (says tells : ℕ → X) → IsChunk toks chunk → IsChunk others other
    → bare_block (words_of says) (syntax_of chunk) ≡ bare_block (words_of tells) (syntax_of other) → ranked (syntax_of chunk) ≡ ranked (syntax_of other)
one_ranking_of toks others chunk other says tells derived also same = ranked_is_placed toks says chunk derived ∙ ap (λ z. (placed_block 0 z).part) same ∙ sym (ranked_is_placed others tells other also)

pub one_ranking : OneRanking
one_ranking toks others chunk other says tells derived also same = one_ranking_of toks others chunk other says tells derived also same

pub ranked_again : RankedAgain
ranked_again source chunk text derived back = one_ranking_of _ _ back.read.tree chunk (word_at text) (λ i. own_word (spelled_at source i)) back.read.is_tree derived back.read.same
