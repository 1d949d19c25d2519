-- The bare program of one that is chosen is the bare program of what that was chosen from.
use Rattle.std.proofs.Common.{◌≡◌, ◌∙◌, Bool, true, List, [], ◌∷◌, Option, Some, None, map, refl}
use Rattle.luf_tree.specs.Syntax as syntax
use Rattle.luf_tree.specs.SyntaxMap.{ShapeMap, after}
use Rattle.luf_tree.proofs.SyntaxMapLaws.{map_after, option_after}
use Rattle.luf_bare.specs.Bare.{before, chosen_declared, chosen_expression, chosen_optional_expression, chosen_expressions, chosen_operation, chosen_operations, chosen_suffix, chosen_suffixes, chosen_arguments, chosen_field, chosen_fields, chosen_statement, chosen_statements, chosen_arm, chosen_arms, chosen_block, chosen_optional_block, chosen_function_body, bare_declared, bare_expression, bare_optional_expression, bare_expressions, bare_operation, bare_operations, bare_suffix, bare_suffixes, bare_arguments, bare_field, bare_fields, bare_statement, bare_statements, bare_arm, bare_arms, bare_block, bare_optional_block, bare_function_body}

-- a statement, if it is one of the program
abbrev bare_if : {M N : syntax.Shape} → ShapeMap M N → Option (syntax.Statement M) → Option (syntax.Statement N)
bare_if g None = None
bare_if g (Some s) = bare_statement g s

before_again : {M N : syntax.Shape} (g : ShapeMap M N) (s : Option (syntax.Statement M)) (rest : syntax.Statements M) → bare_statements g (before s rest) ≡ before (bare_if g s) (bare_statements g rest)
before_again g None rest = refl
before_again g (Some s) rest = refl

declared_again : {K M N : syntax.Shape} (g : ShapeMap M N) (f : ShapeMap K M) (encloses : syntax.Expressions K → Bool → Bool) (ds : List (syntax.DeclaredName K)) → map (bare_declared g) (map (chosen_declared f encloses) ds) ≡ map (bare_declared (after g f)) ds
declared_again g f encloses [] = refl
declared_again g f encloses (d ∷ ds) = λ i. (record { name = g.name (f.name d.name); attribute = option_after f.leaf g.leaf d.attribute i }) ∷ declared_again g f encloses ds i

module _ {K M N : syntax.Shape} (g : ShapeMap M N) (f : ShapeMap K M) (encloses : syntax.Expressions K → Bool → Bool) where
  mutual
    pub expression_again : (x : syntax.Expression K) → bare_expression g (chosen_expression f encloses x) ≡ bare_expression (after g f) x
    expression_again (syntax.nil_value span) = refl
    expression_again (syntax.true_value span) = refl
    expression_again (syntax.false_value span) = refl
    expression_again (syntax.numeral span value) = refl
    expression_again (syntax.string span value) = refl
    expression_again (syntax.varargs span) = refl
    expression_again (syntax.variable span name) = refl
    expression_again (syntax.parenthesised span inner) = λ i. syntax.parenthesised (g.span (f.span span)) (expression_again inner i)
    expression_again (syntax.function span body) = λ i. syntax.function (g.span (f.span span)) (function_body_again body i)
    expression_again (syntax.table span fields) = λ i. syntax.table (g.span (f.span span)) (fields_again fields i)
    expression_again (syntax.unary span sign operand) = λ i. syntax.unary (g.span (f.span span)) (g.leaf (f.leaf sign)) (expression_again operand i)
    expression_again (syntax.chain span first rest) = λ i. syntax.chain (g.span (f.span span)) (expression_again first i) (operations_again rest i)
    expression_again (syntax.power span base sign exponent) = λ i. syntax.power (g.span (f.span span)) (expression_again base i) (g.leaf (f.leaf sign)) (expression_again exponent i)
    expression_again (syntax.suffixed span head suffixes) = λ i. syntax.suffixed (g.span (f.span span)) (expression_again head i) (suffixes_again suffixes i)

    pub optional_expression_again : (x : syntax.OptionalExpression K) → bare_optional_expression g (chosen_optional_expression f encloses x) ≡ bare_optional_expression (after g f) x
    optional_expression_again syntax.no_expression = refl
    optional_expression_again (syntax.an_expression e) = λ i. syntax.an_expression (expression_again e i)

    pub expressions_again : (x : syntax.Expressions K) → bare_expressions g (chosen_expressions f encloses x) ≡ bare_expressions (after g f) x
    expressions_again syntax.no_expressions = refl
    expressions_again (syntax.more_expressions first rest) = λ i. syntax.more_expressions (expression_again first i) (expressions_again rest i)

    pub operation_again : (x : syntax.Operation K) → bare_operation g (chosen_operation f encloses x) ≡ bare_operation (after g f) x
    operation_again (syntax.operation sign right) = λ i. syntax.operation (g.leaf (f.leaf sign)) (expression_again right i)

    pub operations_again : (x : syntax.Operations K) → bare_operations g (chosen_operations f encloses x) ≡ bare_operations (after g f) x
    operations_again syntax.no_operations = refl
    operations_again (syntax.more_operations first rest) = λ i. syntax.more_operations (operation_again first i) (operations_again rest i)

    pub suffix_again : (x : syntax.Suffix K) → bare_suffix g (chosen_suffix f encloses x) ≡ bare_suffix (after g f) x
    suffix_again (syntax.name_suffix name) = refl
    suffix_again (syntax.index_suffix index) = λ i. syntax.index_suffix (expression_again index i)
    suffix_again (syntax.call_suffix args) = λ i. syntax.call_suffix (arguments_again args i)
    suffix_again (syntax.method_suffix name args) = λ i. syntax.method_suffix (g.leaf (f.leaf name)) (arguments_again args i)

    pub suffixes_again : (x : syntax.Suffixes K) → bare_suffixes g (chosen_suffixes f encloses x) ≡ bare_suffixes (after g f) x
    suffixes_again syntax.no_suffixes = refl
    suffixes_again (syntax.more_suffixes first rest) = λ i. syntax.more_suffixes (suffix_again first i) (suffixes_again rest i)

    pub arguments_again : (x : syntax.Arguments K) → bare_arguments g (chosen_arguments f encloses x) ≡ bare_arguments (after g f) x
    arguments_again (syntax.arguments span parentheses items) = λ i. syntax.arguments (g.span (f.span span)) true (expressions_again items i)

    pub field_again : (x : syntax.Field K) → bare_field g (chosen_field f encloses x) ≡ bare_field (after g f) x
    field_again (syntax.item_field value) = λ i. syntax.item_field (expression_again value i)
    field_again (syntax.named_field name value) = λ i. syntax.named_field (g.leaf (f.leaf name)) (expression_again value i)
    field_again (syntax.keyed_field key value) = λ i. syntax.keyed_field (expression_again key i) (expression_again value i)

    pub fields_again : (x : syntax.Fields K) → bare_fields g (chosen_fields f encloses x) ≡ bare_fields (after g f) x
    fields_again syntax.no_fields = refl
    fields_again (syntax.more_fields first rest) = λ i. syntax.more_fields (field_again first i) (fields_again rest i)

    pub statement_again : (x : syntax.Statement K) → bare_if g (chosen_statement f encloses x) ≡ bare_statement (after g f) x
    statement_again (syntax.empty_statement span) = refl
    statement_again (syntax.local_statement span names values) = λ i. Some (syntax.local_statement (g.span (f.span span)) (declared_again g f encloses names i) (expressions_again values i))
    statement_again (syntax.assignment span targets values) = λ i. Some (syntax.assignment (g.span (f.span span)) (expressions_again targets i) (expressions_again values i))
    statement_again (syntax.call_statement span call) = λ i. Some (syntax.call_statement (g.span (f.span span)) (expression_again call i))
    statement_again (syntax.do_statement span body) = λ i. Some (syntax.do_statement (g.span (f.span span)) (block_again body i))
    statement_again (syntax.while_statement span test body) = λ i. Some (syntax.while_statement (g.span (f.span span)) (expression_again test i) (block_again body i))
    statement_again (syntax.repeat_statement span body test) = λ i. Some (syntax.repeat_statement (g.span (f.span span)) (block_again body i) (expression_again test i))
    statement_again (syntax.if_statement span arms last) = λ i. Some (syntax.if_statement (g.span (f.span span)) (arms_again arms i) (optional_block_again last i))
    statement_again (syntax.for_statement span name first limit step body) = λ i. Some (syntax.for_statement (g.span (f.span span)) (g.name (f.name name)) (expression_again first i) (expression_again limit i) (optional_expression_again step i) (block_again body i))
    statement_again (syntax.for_in_statement span names values body) = λ i. Some (syntax.for_in_statement (g.span (f.span span)) (map_after f.name g.name names i) (expressions_again values i) (block_again body i))
    statement_again (syntax.function_statement span name fields method body) = λ i. Some (syntax.function_statement (g.span (f.span span)) (option_after f.name g.name name i) (map_after f.leaf g.leaf fields i) (option_after f.leaf g.leaf method i) (function_body_again body i))
    statement_again (syntax.local_function_statement span name body) = λ i. Some (syntax.local_function_statement (g.span (f.span span)) (g.name (f.name name)) (function_body_again body i))
    statement_again (syntax.label span name) = refl
    statement_again (syntax.goto_statement span name) = refl
    statement_again (syntax.break_statement span) = refl
    statement_again (syntax.return_statement span values) = λ i. Some (syntax.return_statement (g.span (f.span span)) (expressions_again values i))

    pub statements_again : (x : syntax.Statements K) → bare_statements g (chosen_statements f encloses x) ≡ bare_statements (after g f) x
    statements_again syntax.no_statements = refl
    statements_again (syntax.more_statements first rest) = before_again g (chosen_statement f encloses first) (chosen_statements f encloses rest) ∙ (λ i. before (statement_again first i) (statements_again rest i))

    pub arm_again : (x : syntax.Arm K) → bare_arm g (chosen_arm f encloses x) ≡ bare_arm (after g f) x
    arm_again (syntax.arm test body) = λ i. syntax.arm (expression_again test i) (block_again body i)

    pub arms_again : (x : syntax.Arms K) → bare_arms g (chosen_arms f encloses x) ≡ bare_arms (after g f) x
    arms_again syntax.no_arms = refl
    arms_again (syntax.more_arms first rest) = λ i. syntax.more_arms (arm_again first i) (arms_again rest i)

    pub block_again : (x : syntax.Block K) → bare_block g (chosen_block f encloses x) ≡ bare_block (after g f) x
    block_again (syntax.block span statements) = λ i. syntax.block (g.span (f.span span)) (statements_again statements i)

    pub optional_block_again : (x : syntax.OptionalBlock K) → bare_optional_block g (chosen_optional_block f encloses x) ≡ bare_optional_block (after g f) x
    optional_block_again syntax.no_block = refl
    optional_block_again (syntax.a_block body) = λ i. syntax.a_block (block_again body i)

    pub function_body_again : (x : syntax.FunctionBody K) → bare_function_body g (chosen_function_body f encloses x) ≡ bare_function_body (after g f) x
    function_body_again (syntax.function_body span parameters vararg body) = λ i. syntax.function_body (g.span (f.span span)) (map_after f.name g.name parameters i) vararg (block_again body i)
