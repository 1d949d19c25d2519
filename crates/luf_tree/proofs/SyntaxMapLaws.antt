-- The laws of maps of syntax: the map that changes nothing, and one map after another.
use Rattle.std.proofs.Common.{◌≡◌, List, [], ◌∷◌, Option, Some, None, map, refl, map-id}
use Rattle.std.specs.Option.{option_map}
use Rattle.std.proofs.lemmas.Iterator.Adapters.{option_map_id}
use Rattle.luf_tree.specs.Syntax as syntax
use Rattle.luf_tree.specs.SyntaxMap.{ShapeMap, unchanged, after, map_declared, map_expression, map_optional_expression, map_expressions, map_operation, map_operations, map_suffix, map_suffixes, map_arguments, map_field, map_fields, map_statement, map_statements, map_arm, map_arms, map_block, map_optional_block, map_function_body}

declared_id : {K : syntax.Shape} (ds : List (syntax.DeclaredName K)) → map (map_declared unchanged) ds ≡ ds
declared_id [] = refl
declared_id (d ∷ ds) = λ i. (record { name = d.name; attribute = option_map_id d.attribute i }) ∷ declared_id ds i

module _ {K : syntax.Shape} where
  mutual
    pub expression_id : (x : syntax.Expression K) → map_expression unchanged x ≡ x
    expression_id (syntax.nil_value span) = refl
    expression_id (syntax.true_value span) = refl
    expression_id (syntax.false_value span) = refl
    expression_id (syntax.numeral span value) = refl
    expression_id (syntax.string span value) = refl
    expression_id (syntax.varargs span) = refl
    expression_id (syntax.variable span name) = refl
    expression_id (syntax.parenthesised span inner) = λ i. syntax.parenthesised span (expression_id inner i)
    expression_id (syntax.function span body) = λ i. syntax.function span (function_body_id body i)
    expression_id (syntax.table span fields) = λ i. syntax.table span (fields_id fields i)
    expression_id (syntax.unary span sign operand) = λ i. syntax.unary span sign (expression_id operand i)
    expression_id (syntax.chain span first rest) = λ i. syntax.chain span (expression_id first i) (operations_id rest i)
    expression_id (syntax.power span base sign exponent) = λ i. syntax.power span (expression_id base i) sign (expression_id exponent i)
    expression_id (syntax.suffixed span head suffixes) = λ i. syntax.suffixed span (expression_id head i) (suffixes_id suffixes i)

    pub optional_expression_id : (x : syntax.OptionalExpression K) → map_optional_expression unchanged x ≡ x
    optional_expression_id syntax.no_expression = refl
    optional_expression_id (syntax.an_expression e) = λ i. syntax.an_expression (expression_id e i)

    pub expressions_id : (x : syntax.Expressions K) → map_expressions unchanged x ≡ x
    expressions_id syntax.no_expressions = refl
    expressions_id (syntax.more_expressions first rest) = λ i. syntax.more_expressions (expression_id first i) (expressions_id rest i)

    pub operation_id : (x : syntax.Operation K) → map_operation unchanged x ≡ x
    operation_id (syntax.operation sign right) = λ i. syntax.operation sign (expression_id right i)

    pub operations_id : (x : syntax.Operations K) → map_operations unchanged x ≡ x
    operations_id syntax.no_operations = refl
    operations_id (syntax.more_operations first rest) = λ i. syntax.more_operations (operation_id first i) (operations_id rest i)

    pub suffix_id : (x : syntax.Suffix K) → map_suffix unchanged x ≡ x
    suffix_id (syntax.name_suffix name) = refl
    suffix_id (syntax.index_suffix index) = λ i. syntax.index_suffix (expression_id index i)
    suffix_id (syntax.call_suffix args) = λ i. syntax.call_suffix (arguments_id args i)
    suffix_id (syntax.method_suffix name args) = λ i. syntax.method_suffix name (arguments_id args i)

    pub suffixes_id : (x : syntax.Suffixes K) → map_suffixes unchanged x ≡ x
    suffixes_id syntax.no_suffixes = refl
    suffixes_id (syntax.more_suffixes first rest) = λ i. syntax.more_suffixes (suffix_id first i) (suffixes_id rest i)

    pub arguments_id : (x : syntax.Arguments K) → map_arguments unchanged x ≡ x
    arguments_id (syntax.arguments span parentheses items) = λ i. syntax.arguments span parentheses (expressions_id items i)

    pub field_id : (x : syntax.Field K) → map_field unchanged x ≡ x
    field_id (syntax.item_field value) = λ i. syntax.item_field (expression_id value i)
    field_id (syntax.named_field name value) = λ i. syntax.named_field name (expression_id value i)
    field_id (syntax.keyed_field key value) = λ i. syntax.keyed_field (expression_id key i) (expression_id value i)

    pub fields_id : (x : syntax.Fields K) → map_fields unchanged x ≡ x
    fields_id syntax.no_fields = refl
    fields_id (syntax.more_fields first rest) = λ i. syntax.more_fields (field_id first i) (fields_id rest i)

    pub statement_id : (x : syntax.Statement K) → map_statement unchanged x ≡ x
    statement_id (syntax.empty_statement span) = refl
    statement_id (syntax.local_statement span names values) = λ i. syntax.local_statement span (declared_id names i) (expressions_id values i)
    statement_id (syntax.assignment span targets values) = λ i. syntax.assignment span (expressions_id targets i) (expressions_id values i)
    statement_id (syntax.call_statement span call) = λ i. syntax.call_statement span (expression_id call i)
    statement_id (syntax.do_statement span body) = λ i. syntax.do_statement span (block_id body i)
    statement_id (syntax.while_statement span test body) = λ i. syntax.while_statement span (expression_id test i) (block_id body i)
    statement_id (syntax.repeat_statement span body test) = λ i. syntax.repeat_statement span (block_id body i) (expression_id test i)
    statement_id (syntax.if_statement span arms last) = λ i. syntax.if_statement span (arms_id arms i) (optional_block_id last i)
    statement_id (syntax.for_statement span name first limit step body) = λ i. syntax.for_statement span name (expression_id first i) (expression_id limit i) (optional_expression_id step i) (block_id body i)
    statement_id (syntax.for_in_statement span names values body) = λ i. syntax.for_in_statement span (map-id names i) (expressions_id values i) (block_id body i)
    statement_id (syntax.function_statement span name fields method body) = λ i. syntax.function_statement span (option_map_id name i) (map-id fields i) (option_map_id method i) (function_body_id body i)
    statement_id (syntax.local_function_statement span name body) = λ i. syntax.local_function_statement span name (function_body_id body i)
    statement_id (syntax.label span name) = refl
    statement_id (syntax.goto_statement span name) = refl
    statement_id (syntax.break_statement span) = refl
    statement_id (syntax.return_statement span values) = λ i. syntax.return_statement span (expressions_id values i)

    pub statements_id : (x : syntax.Statements K) → map_statements unchanged x ≡ x
    statements_id syntax.no_statements = refl
    statements_id (syntax.more_statements first rest) = λ i. syntax.more_statements (statement_id first i) (statements_id rest i)

    pub arm_id : (x : syntax.Arm K) → map_arm unchanged x ≡ x
    arm_id (syntax.arm test body) = λ i. syntax.arm (expression_id test i) (block_id body i)

    pub arms_id : (x : syntax.Arms K) → map_arms unchanged x ≡ x
    arms_id syntax.no_arms = refl
    arms_id (syntax.more_arms first rest) = λ i. syntax.more_arms (arm_id first i) (arms_id rest i)

    pub block_id : (x : syntax.Block K) → map_block unchanged x ≡ x
    block_id (syntax.block span statements) = λ i. syntax.block span (statements_id statements i)

    pub optional_block_id : (x : syntax.OptionalBlock K) → map_optional_block unchanged x ≡ x
    optional_block_id syntax.no_block = refl
    optional_block_id (syntax.a_block body) = λ i. syntax.a_block (block_id body i)

    pub function_body_id : (x : syntax.FunctionBody K) → map_function_body unchanged x ≡ x
    function_body_id (syntax.function_body span parameters vararg body) = λ i. syntax.function_body span (map-id parameters i) vararg (block_id body i)

pub map_after : {A B C : Type 0} (f : A → B) (g : B → C) (xs : List A) → map g (map f xs) ≡ map (λ x. g (f x)) xs
map_after f g [] = refl
map_after f g (x ∷ xs) = λ i. g (f x) ∷ map_after f g xs i

pub option_after : {A B C : Type 0} (f : A → B) (g : B → C) (x : Option A) → option_map g (option_map f x) ≡ option_map (λ x. g (f x)) x
option_after f g None = refl
option_after f g (Some x) = refl

declared_after : {K M N : syntax.Shape} (g : ShapeMap M N) (f : ShapeMap K M) (ds : List (syntax.DeclaredName K)) → map (map_declared g) (map (map_declared f) ds) ≡ map (map_declared (after g f)) ds
declared_after g f [] = refl
declared_after g f (d ∷ ds) = λ i. (record { name = g.name (f.name d.name); attribute = option_after f.leaf g.leaf d.attribute i }) ∷ declared_after g f ds i

module _ {K M N : syntax.Shape} (g : ShapeMap M N) (f : ShapeMap K M) where
  mutual
    pub expression_after : (x : syntax.Expression K) → map_expression g (map_expression f x) ≡ map_expression (after g f) x
    expression_after (syntax.nil_value span) = refl
    expression_after (syntax.true_value span) = refl
    expression_after (syntax.false_value span) = refl
    expression_after (syntax.numeral span value) = refl
    expression_after (syntax.string span value) = refl
    expression_after (syntax.varargs span) = refl
    expression_after (syntax.variable span name) = refl
    expression_after (syntax.parenthesised span inner) = λ i. syntax.parenthesised (g.span (f.span span)) (expression_after inner i)
    expression_after (syntax.function span body) = λ i. syntax.function (g.span (f.span span)) (function_body_after body i)
    expression_after (syntax.table span fields) = λ i. syntax.table (g.span (f.span span)) (fields_after fields i)
    expression_after (syntax.unary span sign operand) = λ i. syntax.unary (g.span (f.span span)) (g.leaf (f.leaf sign)) (expression_after operand i)
    expression_after (syntax.chain span first rest) = λ i. syntax.chain (g.span (f.span span)) (expression_after first i) (operations_after rest i)
    expression_after (syntax.power span base sign exponent) = λ i. syntax.power (g.span (f.span span)) (expression_after base i) (g.leaf (f.leaf sign)) (expression_after exponent i)
    expression_after (syntax.suffixed span head suffixes) = λ i. syntax.suffixed (g.span (f.span span)) (expression_after head i) (suffixes_after suffixes i)

    pub optional_expression_after : (x : syntax.OptionalExpression K) → map_optional_expression g (map_optional_expression f x) ≡ map_optional_expression (after g f) x
    optional_expression_after syntax.no_expression = refl
    optional_expression_after (syntax.an_expression e) = λ i. syntax.an_expression (expression_after e i)

    pub expressions_after : (x : syntax.Expressions K) → map_expressions g (map_expressions f x) ≡ map_expressions (after g f) x
    expressions_after syntax.no_expressions = refl
    expressions_after (syntax.more_expressions first rest) = λ i. syntax.more_expressions (expression_after first i) (expressions_after rest i)

    pub operation_after : (x : syntax.Operation K) → map_operation g (map_operation f x) ≡ map_operation (after g f) x
    operation_after (syntax.operation sign right) = λ i. syntax.operation (g.leaf (f.leaf sign)) (expression_after right i)

    pub operations_after : (x : syntax.Operations K) → map_operations g (map_operations f x) ≡ map_operations (after g f) x
    operations_after syntax.no_operations = refl
    operations_after (syntax.more_operations first rest) = λ i. syntax.more_operations (operation_after first i) (operations_after rest i)

    pub suffix_after : (x : syntax.Suffix K) → map_suffix g (map_suffix f x) ≡ map_suffix (after g f) x
    suffix_after (syntax.name_suffix name) = refl
    suffix_after (syntax.index_suffix index) = λ i. syntax.index_suffix (expression_after index i)
    suffix_after (syntax.call_suffix args) = λ i. syntax.call_suffix (arguments_after args i)
    suffix_after (syntax.method_suffix name args) = λ i. syntax.method_suffix (g.leaf (f.leaf name)) (arguments_after args i)

    pub suffixes_after : (x : syntax.Suffixes K) → map_suffixes g (map_suffixes f x) ≡ map_suffixes (after g f) x
    suffixes_after syntax.no_suffixes = refl
    suffixes_after (syntax.more_suffixes first rest) = λ i. syntax.more_suffixes (suffix_after first i) (suffixes_after rest i)

    pub arguments_after : (x : syntax.Arguments K) → map_arguments g (map_arguments f x) ≡ map_arguments (after g f) x
    arguments_after (syntax.arguments span parentheses items) = λ i. syntax.arguments (g.span (f.span span)) parentheses (expressions_after items i)

    pub field_after : (x : syntax.Field K) → map_field g (map_field f x) ≡ map_field (after g f) x
    field_after (syntax.item_field value) = λ i. syntax.item_field (expression_after value i)
    field_after (syntax.named_field name value) = λ i. syntax.named_field (g.leaf (f.leaf name)) (expression_after value i)
    field_after (syntax.keyed_field key value) = λ i. syntax.keyed_field (expression_after key i) (expression_after value i)

    pub fields_after : (x : syntax.Fields K) → map_fields g (map_fields f x) ≡ map_fields (after g f) x
    fields_after syntax.no_fields = refl
    fields_after (syntax.more_fields first rest) = λ i. syntax.more_fields (field_after first i) (fields_after rest i)

    pub statement_after : (x : syntax.Statement K) → map_statement g (map_statement f x) ≡ map_statement (after g f) x
    statement_after (syntax.empty_statement span) = refl
    statement_after (syntax.local_statement span names values) = λ i. syntax.local_statement (g.span (f.span span)) (declared_after g f names i) (expressions_after values i)
    statement_after (syntax.assignment span targets values) = λ i. syntax.assignment (g.span (f.span span)) (expressions_after targets i) (expressions_after values i)
    statement_after (syntax.call_statement span call) = λ i. syntax.call_statement (g.span (f.span span)) (expression_after call i)
    statement_after (syntax.do_statement span body) = λ i. syntax.do_statement (g.span (f.span span)) (block_after body i)
    statement_after (syntax.while_statement span test body) = λ i. syntax.while_statement (g.span (f.span span)) (expression_after test i) (block_after body i)
    statement_after (syntax.repeat_statement span body test) = λ i. syntax.repeat_statement (g.span (f.span span)) (block_after body i) (expression_after test i)
    statement_after (syntax.if_statement span arms last) = λ i. syntax.if_statement (g.span (f.span span)) (arms_after arms i) (optional_block_after last i)
    statement_after (syntax.for_statement span name first limit step body) = λ i. syntax.for_statement (g.span (f.span span)) (g.name (f.name name)) (expression_after first i) (expression_after limit i) (optional_expression_after step i) (block_after body i)
    statement_after (syntax.for_in_statement span names values body) = λ i. syntax.for_in_statement (g.span (f.span span)) (map_after f.name g.name names i) (expressions_after values i) (block_after body i)
    statement_after (syntax.function_statement span name fields method body) = λ i. syntax.function_statement (g.span (f.span span)) (option_after f.name g.name name i) (map_after f.leaf g.leaf fields i) (option_after f.leaf g.leaf method i) (function_body_after body i)
    statement_after (syntax.local_function_statement span name body) = λ i. syntax.local_function_statement (g.span (f.span span)) (g.name (f.name name)) (function_body_after body i)
    statement_after (syntax.label span name) = refl
    statement_after (syntax.goto_statement span name) = refl
    statement_after (syntax.break_statement span) = refl
    statement_after (syntax.return_statement span values) = λ i. syntax.return_statement (g.span (f.span span)) (expressions_after values i)

    pub statements_after : (x : syntax.Statements K) → map_statements g (map_statements f x) ≡ map_statements (after g f) x
    statements_after syntax.no_statements = refl
    statements_after (syntax.more_statements first rest) = λ i. syntax.more_statements (statement_after first i) (statements_after rest i)

    pub arm_after : (x : syntax.Arm K) → map_arm g (map_arm f x) ≡ map_arm (after g f) x
    arm_after (syntax.arm test body) = λ i. syntax.arm (expression_after test i) (block_after body i)

    pub arms_after : (x : syntax.Arms K) → map_arms g (map_arms f x) ≡ map_arms (after g f) x
    arms_after syntax.no_arms = refl
    arms_after (syntax.more_arms first rest) = λ i. syntax.more_arms (arm_after first i) (arms_after rest i)

    pub block_after : (x : syntax.Block K) → map_block g (map_block f x) ≡ map_block (after g f) x
    block_after (syntax.block span statements) = λ i. syntax.block (g.span (f.span span)) (statements_after statements i)

    pub optional_block_after : (x : syntax.OptionalBlock K) → map_optional_block g (map_optional_block f x) ≡ map_optional_block (after g f) x
    optional_block_after syntax.no_block = refl
    optional_block_after (syntax.a_block body) = λ i. syntax.a_block (block_after body i)

    pub function_body_after : (x : syntax.FunctionBody K) → map_function_body g (map_function_body f x) ≡ map_function_body (after g f) x
    function_body_after (syntax.function_body span parameters vararg body) = λ i. syntax.function_body (g.span (f.span span)) (map_after f.name g.name parameters i) vararg (block_after body i)
