-- One map after the bare program of another is the bare program of both.
use Rattle.std.proofs.Common.{◌≡◌, ◌∙◌, Bool, List, [], ◌∷◌, Option, Some, None, map, refl}
use Rattle.std.specs.Option.{option_map}
use Rattle.luf_tree.specs.Syntax as syntax
use Rattle.luf_tree.specs.SyntaxMap.{ShapeMap, after, map_declared, map_expression, map_optional_expression, map_expressions, map_operation, map_operations, map_suffix, map_suffixes, map_arguments, map_field, map_fields, map_statement, map_statements, map_arm, map_arms, map_block, map_optional_block, map_function_body}
use Rattle.luf_tree.proofs.SyntaxMapLaws.{map_after, option_after}
use Rattle.luf_bare.specs.Bare.{before, chosen_declared, chosen_expression, chosen_optional_expression, chosen_expressions, chosen_operation, chosen_operations, chosen_suffix, chosen_suffixes, chosen_arguments, chosen_field, chosen_fields, chosen_statement, chosen_statements, chosen_arm, chosen_arms, chosen_block, chosen_optional_block, chosen_function_body}

before_after : {M N : syntax.Shape} (g : ShapeMap M N) (s : Option (syntax.Statement M)) (rest : syntax.Statements M) → map_statements g (before s rest) ≡ before (option_map (map_statement g) s) (map_statements g rest)
before_after g None rest = refl
before_after g (Some s) rest = refl

declared_after : {K M N : syntax.Shape} (g : ShapeMap M N) (f : ShapeMap K M) (encloses : syntax.Expressions K → Bool → Bool) (ds : List (syntax.DeclaredName K)) → map (map_declared g) (map (chosen_declared f encloses) ds) ≡ map (chosen_declared (after g f) encloses) ds
declared_after g f encloses [] = refl
declared_after g f encloses (d ∷ ds) = λ i. (record { name = g.name (f.name d.name); attribute = option_after f.leaf g.leaf d.attribute i }) ∷ declared_after g f encloses ds i

module _ {K M N : syntax.Shape} (g : ShapeMap M N) (f : ShapeMap K M) (encloses : syntax.Expressions K → Bool → Bool) where
  mutual
    pub expression_after : (x : syntax.Expression K) → map_expression g (chosen_expression f encloses x) ≡ chosen_expression (after g f) encloses x
    expression_after (syntax.nil_value span) = refl
    expression_after (syntax.true_value span) = refl
    expression_after (syntax.false_value span) = refl
    expression_after (syntax.numeral span value) = refl
    expression_after (syntax.string span value) = refl
    expression_after (syntax.varargs span) = refl
    expression_after (syntax.variable span name) = refl
    expression_after (syntax.parenthesised span inner) = λ i. syntax.parenthesised (g.span (f.span span)) (expression_after inner i)
    expression_after (syntax.function span body) = λ i. syntax.function (g.span (f.span span)) (function_body_after body i)
    expression_after (syntax.table span fields) = λ i. syntax.table (g.span (f.span span)) (fields_after fields i)
    expression_after (syntax.unary span sign operand) = λ i. syntax.unary (g.span (f.span span)) (g.leaf (f.leaf sign)) (expression_after operand i)
    expression_after (syntax.chain span first rest) = λ i. syntax.chain (g.span (f.span span)) (expression_after first i) (operations_after rest i)
    expression_after (syntax.power span base sign exponent) = λ i. syntax.power (g.span (f.span span)) (expression_after base i) (g.leaf (f.leaf sign)) (expression_after exponent i)
    expression_after (syntax.suffixed span head suffixes) = λ i. syntax.suffixed (g.span (f.span span)) (expression_after head i) (suffixes_after suffixes i)

    pub optional_expression_after : (x : syntax.OptionalExpression K) → map_optional_expression g (chosen_optional_expression f encloses x) ≡ chosen_optional_expression (after g f) encloses x
    optional_expression_after syntax.no_expression = refl
    optional_expression_after (syntax.an_expression e) = λ i. syntax.an_expression (expression_after e i)

    pub expressions_after : (x : syntax.Expressions K) → map_expressions g (chosen_expressions f encloses x) ≡ chosen_expressions (after g f) encloses x
    expressions_after syntax.no_expressions = refl
    expressions_after (syntax.more_expressions first rest) = λ i. syntax.more_expressions (expression_after first i) (expressions_after rest i)

    pub operation_after : (x : syntax.Operation K) → map_operation g (chosen_operation f encloses x) ≡ chosen_operation (after g f) encloses x
    operation_after (syntax.operation sign right) = λ i. syntax.operation (g.leaf (f.leaf sign)) (expression_after right i)

    pub operations_after : (x : syntax.Operations K) → map_operations g (chosen_operations f encloses x) ≡ chosen_operations (after g f) encloses x
    operations_after syntax.no_operations = refl
    operations_after (syntax.more_operations first rest) = λ i. syntax.more_operations (operation_after first i) (operations_after rest i)

    pub suffix_after : (x : syntax.Suffix K) → map_suffix g (chosen_suffix f encloses x) ≡ chosen_suffix (after g f) encloses x
    suffix_after (syntax.name_suffix name) = refl
    suffix_after (syntax.index_suffix index) = λ i. syntax.index_suffix (expression_after index i)
    suffix_after (syntax.call_suffix args) = λ i. syntax.call_suffix (arguments_after args i)
    suffix_after (syntax.method_suffix name args) = λ i. syntax.method_suffix (g.leaf (f.leaf name)) (arguments_after args i)

    pub suffixes_after : (x : syntax.Suffixes K) → map_suffixes g (chosen_suffixes f encloses x) ≡ chosen_suffixes (after g f) encloses x
    suffixes_after syntax.no_suffixes = refl
    suffixes_after (syntax.more_suffixes first rest) = λ i. syntax.more_suffixes (suffix_after first i) (suffixes_after rest i)

    pub arguments_after : (x : syntax.Arguments K) → map_arguments g (chosen_arguments f encloses x) ≡ chosen_arguments (after g f) encloses x
    arguments_after (syntax.arguments span parentheses items) = λ i. syntax.arguments (g.span (f.span span)) (encloses items parentheses) (expressions_after items i)

    pub field_after : (x : syntax.Field K) → map_field g (chosen_field f encloses x) ≡ chosen_field (after g f) encloses x
    field_after (syntax.item_field value) = λ i. syntax.item_field (expression_after value i)
    field_after (syntax.named_field name value) = λ i. syntax.named_field (g.leaf (f.leaf name)) (expression_after value i)
    field_after (syntax.keyed_field key value) = λ i. syntax.keyed_field (expression_after key i) (expression_after value i)

    pub fields_after : (x : syntax.Fields K) → map_fields g (chosen_fields f encloses x) ≡ chosen_fields (after g f) encloses x
    fields_after syntax.no_fields = refl
    fields_after (syntax.more_fields first rest) = λ i. syntax.more_fields (field_after first i) (fields_after rest i)

    pub statement_after : (x : syntax.Statement K) → option_map (map_statement g) (chosen_statement f encloses x) ≡ chosen_statement (after g f) encloses x
    statement_after (syntax.empty_statement span) = refl
    statement_after (syntax.local_statement span names values) = λ i. Some (syntax.local_statement (g.span (f.span span)) (declared_after g f encloses names i) (expressions_after values i))
    statement_after (syntax.assignment span targets values) = λ i. Some (syntax.assignment (g.span (f.span span)) (expressions_after targets i) (expressions_after values i))
    statement_after (syntax.call_statement span call) = λ i. Some (syntax.call_statement (g.span (f.span span)) (expression_after call i))
    statement_after (syntax.do_statement span body) = λ i. Some (syntax.do_statement (g.span (f.span span)) (block_after body i))
    statement_after (syntax.while_statement span test body) = λ i. Some (syntax.while_statement (g.span (f.span span)) (expression_after test i) (block_after body i))
    statement_after (syntax.repeat_statement span body test) = λ i. Some (syntax.repeat_statement (g.span (f.span span)) (block_after body i) (expression_after test i))
    statement_after (syntax.if_statement span arms last) = λ i. Some (syntax.if_statement (g.span (f.span span)) (arms_after arms i) (optional_block_after last i))
    statement_after (syntax.for_statement span name first limit step body) = λ i. Some (syntax.for_statement (g.span (f.span span)) (g.name (f.name name)) (expression_after first i) (expression_after limit i) (optional_expression_after step i) (block_after body i))
    statement_after (syntax.for_in_statement span names values body) = λ i. Some (syntax.for_in_statement (g.span (f.span span)) (map_after f.name g.name names i) (expressions_after values i) (block_after body i))
    statement_after (syntax.function_statement span name fields method body) = λ i. Some (syntax.function_statement (g.span (f.span span)) (option_after f.name g.name name i) (map_after f.leaf g.leaf fields i) (option_after f.leaf g.leaf method i) (function_body_after body i))
    statement_after (syntax.local_function_statement span name body) = λ i. Some (syntax.local_function_statement (g.span (f.span span)) (g.name (f.name name)) (function_body_after body i))
    statement_after (syntax.label span name) = refl
    statement_after (syntax.goto_statement span name) = refl
    statement_after (syntax.break_statement span) = refl
    statement_after (syntax.return_statement span values) = λ i. Some (syntax.return_statement (g.span (f.span span)) (expressions_after values i))

    pub statements_after : (x : syntax.Statements K) → map_statements g (chosen_statements f encloses x) ≡ chosen_statements (after g f) encloses x
    statements_after syntax.no_statements = refl
    statements_after (syntax.more_statements first rest) = before_after g (chosen_statement f encloses first) (chosen_statements f encloses rest) ∙ (λ i. before (statement_after first i) (statements_after rest i))

    pub arm_after : (x : syntax.Arm K) → map_arm g (chosen_arm f encloses x) ≡ chosen_arm (after g f) encloses x
    arm_after (syntax.arm test body) = λ i. syntax.arm (expression_after test i) (block_after body i)

    pub arms_after : (x : syntax.Arms K) → map_arms g (chosen_arms f encloses x) ≡ chosen_arms (after g f) encloses x
    arms_after syntax.no_arms = refl
    arms_after (syntax.more_arms first rest) = λ i. syntax.more_arms (arm_after first i) (arms_after rest i)

    pub block_after : (x : syntax.Block K) → map_block g (chosen_block f encloses x) ≡ chosen_block (after g f) encloses x
    block_after (syntax.block span statements) = λ i. syntax.block (g.span (f.span span)) (statements_after statements i)

    pub optional_block_after : (x : syntax.OptionalBlock K) → map_optional_block g (chosen_optional_block f encloses x) ≡ chosen_optional_block (after g f) encloses x
    optional_block_after syntax.no_block = refl
    optional_block_after (syntax.a_block body) = λ i. syntax.a_block (block_after body i)

    pub function_body_after : (x : syntax.FunctionBody K) → map_function_body g (chosen_function_body f encloses x) ≡ chosen_function_body (after g f) encloses x
    function_body_after (syntax.function_body span parameters vararg body) = λ i. syntax.function_body (g.span (f.span span)) (map_after f.name g.name parameters i) vararg (block_after body i)
