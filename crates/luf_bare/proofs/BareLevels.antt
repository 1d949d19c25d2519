-- The bare program of a part has its levels.
use Rattle.std.proofs.Common.{◌≡◌, ◌+◌, ◌∙◌, ℕ, Bool, Option, Some, None, max, refl, arith}
use Rattle.luf_tree.specs.Syntax as syntax
use Rattle.luf_tree.specs.SyntaxMap.{ShapeMap}
use Rattle.luf_bare.specs.Bare.{before, chosen_expression, chosen_optional_expression, chosen_expressions, chosen_operation, chosen_operations, chosen_suffix, chosen_suffixes, chosen_arguments, chosen_field, chosen_fields, chosen_statement, chosen_statements, chosen_arm, chosen_arms, chosen_block, chosen_optional_block, chosen_function_body}
use Rattle.luf_tree.specs.Level.{levels_of_expression, levels_of_optional_expression, levels_of_expressions, levels_of_operation, levels_of_operations, levels_of_suffix, levels_of_suffixes, levels_of_arguments, levels_of_field, levels_of_fields, levels_of_statement, levels_of_statements, levels_of_arm, levels_of_arms, levels_of_block, levels_of_optional_block, levels_of_function_body}

abbrev levels_if_any : {M : syntax.Shape} → Option (syntax.Statement M) → ℕ
levels_if_any None = 0
levels_if_any (Some s) = levels_of_statement s

before_levels : {M : syntax.Shape} (s : Option (syntax.Statement M)) (rest : syntax.Statements M) → levels_of_statements (before s rest) ≡ max (levels_if_any s) (levels_of_statements rest)
before_levels None rest = omega arith
before_levels (Some s) rest = refl

module _ {K M : syntax.Shape} (f : ShapeMap K M) (encloses : syntax.Expressions K → Bool → Bool) where
  mutual
    pub expression_levels : (x : syntax.Expression K) → levels_of_expression (chosen_expression f encloses x) ≡ levels_of_expression x
    expression_levels (syntax.nil_value span) = refl
    expression_levels (syntax.true_value span) = refl
    expression_levels (syntax.false_value span) = refl
    expression_levels (syntax.numeral span value) = refl
    expression_levels (syntax.string span value) = refl
    expression_levels (syntax.varargs span) = refl
    expression_levels (syntax.variable span name) = refl
    expression_levels (syntax.parenthesised span inner) = λ i. expression_levels inner i + 1
    expression_levels (syntax.function span body) = λ i. function_body_levels body i + 1
    expression_levels (syntax.table span fields) = λ i. fields_levels fields i + 1
    expression_levels (syntax.unary span sign operand) = λ i. expression_levels operand i + 1
    expression_levels (syntax.chain span first rest) = λ i. max (expression_levels first i) (operations_levels rest i)
    expression_levels (syntax.power span base sign exponent) = λ i. max (expression_levels base i) (expression_levels exponent i + 1)
    expression_levels (syntax.suffixed span head suffixes) = λ i. max (expression_levels head i) (suffixes_levels suffixes i)

    pub optional_expression_levels : (x : syntax.OptionalExpression K) → levels_of_optional_expression (chosen_optional_expression f encloses x) ≡ levels_of_optional_expression x
    optional_expression_levels syntax.no_expression = refl
    optional_expression_levels (syntax.an_expression e) = λ i. expression_levels e i

    pub expressions_levels : (x : syntax.Expressions K) → levels_of_expressions (chosen_expressions f encloses x) ≡ levels_of_expressions x
    expressions_levels syntax.no_expressions = refl
    expressions_levels (syntax.more_expressions first rest) = λ i. max (expression_levels first i) (expressions_levels rest i)

    pub operation_levels : (x : syntax.Operation K) → levels_of_operation (chosen_operation f encloses x) ≡ levels_of_operation x
    operation_levels (syntax.operation sign right) = λ i. expression_levels right i

    pub operations_levels : (x : syntax.Operations K) → levels_of_operations (chosen_operations f encloses x) ≡ levels_of_operations x
    operations_levels syntax.no_operations = refl
    operations_levels (syntax.more_operations first rest) = λ i. max (operation_levels first i) (operations_levels rest i)

    pub suffix_levels : (x : syntax.Suffix K) → levels_of_suffix (chosen_suffix f encloses x) ≡ levels_of_suffix x
    suffix_levels (syntax.name_suffix name) = refl
    suffix_levels (syntax.index_suffix index) = λ i. expression_levels index i + 1
    suffix_levels (syntax.call_suffix args) = λ i. arguments_levels args i
    suffix_levels (syntax.method_suffix name args) = λ i. arguments_levels args i

    pub suffixes_levels : (x : syntax.Suffixes K) → levels_of_suffixes (chosen_suffixes f encloses x) ≡ levels_of_suffixes x
    suffixes_levels syntax.no_suffixes = refl
    suffixes_levels (syntax.more_suffixes first rest) = λ i. max (suffix_levels first i) (suffixes_levels rest i)

    pub arguments_levels : (x : syntax.Arguments K) → levels_of_arguments (chosen_arguments f encloses x) ≡ levels_of_arguments x
    arguments_levels (syntax.arguments span parentheses items) = λ i. expressions_levels items i + 1

    pub field_levels : (x : syntax.Field K) → levels_of_field (chosen_field f encloses x) ≡ levels_of_field x
    field_levels (syntax.item_field value) = λ i. expression_levels value i
    field_levels (syntax.named_field name value) = λ i. expression_levels value i
    field_levels (syntax.keyed_field key value) = λ i. max (expression_levels key i + 1) (expression_levels value i)

    pub fields_levels : (x : syntax.Fields K) → levels_of_fields (chosen_fields f encloses x) ≡ levels_of_fields x
    fields_levels syntax.no_fields = refl
    fields_levels (syntax.more_fields first rest) = λ i. max (field_levels first i) (fields_levels rest i)

    pub statement_levels : (x : syntax.Statement K) → levels_if_any (chosen_statement f encloses x) ≡ levels_of_statement x
    statement_levels (syntax.empty_statement span) = refl
    statement_levels (syntax.local_statement span names values) = λ i. expressions_levels values i
    statement_levels (syntax.assignment span targets values) = λ i. max (expressions_levels targets i) (expressions_levels values i)
    statement_levels (syntax.call_statement span call) = λ i. expression_levels call i
    statement_levels (syntax.do_statement span body) = λ i. block_levels body i + 1
    statement_levels (syntax.while_statement span test body) = λ i. max (expression_levels test i) (block_levels body i + 1)
    statement_levels (syntax.repeat_statement span body test) = λ i. max (block_levels body i + 1) (expression_levels test i)
    statement_levels (syntax.if_statement span arms last) = λ i. max (arms_levels arms i) (optional_block_levels last i)
    statement_levels (syntax.for_statement span name first limit step body) = λ i. max (max (expression_levels first i) (expression_levels limit i)) (max (optional_expression_levels step i) (block_levels body i + 1))
    statement_levels (syntax.for_in_statement span names values body) = λ i. max (expressions_levels values i) (block_levels body i + 1)
    statement_levels (syntax.function_statement span name fields method body) = λ i. function_body_levels body i + 1
    statement_levels (syntax.local_function_statement span name body) = λ i. function_body_levels body i + 1
    statement_levels (syntax.label span name) = refl
    statement_levels (syntax.goto_statement span name) = refl
    statement_levels (syntax.break_statement span) = refl
    statement_levels (syntax.return_statement span values) = λ i. expressions_levels values i

    pub statements_levels : (x : syntax.Statements K) → levels_of_statements (chosen_statements f encloses x) ≡ levels_of_statements x
    statements_levels syntax.no_statements = refl
    statements_levels (syntax.more_statements first rest) = before_levels (chosen_statement f encloses first) (chosen_statements f encloses rest) ∙ λ i. max (statement_levels first i) (statements_levels rest i)

    pub arm_levels : (x : syntax.Arm K) → levels_of_arm (chosen_arm f encloses x) ≡ levels_of_arm x
    arm_levels (syntax.arm test body) = λ i. max (expression_levels test i) (block_levels body i + 1)

    pub arms_levels : (x : syntax.Arms K) → levels_of_arms (chosen_arms f encloses x) ≡ levels_of_arms x
    arms_levels syntax.no_arms = refl
    arms_levels (syntax.more_arms first rest) = λ i. max (arm_levels first i) (arms_levels rest i)

    pub block_levels : (x : syntax.Block K) → levels_of_block (chosen_block f encloses x) ≡ levels_of_block x
    block_levels (syntax.block span statements) = λ i. statements_levels statements i

    pub optional_block_levels : (x : syntax.OptionalBlock K) → levels_of_optional_block (chosen_optional_block f encloses x) ≡ levels_of_optional_block x
    optional_block_levels syntax.no_block = refl
    optional_block_levels (syntax.a_block body) = λ i. block_levels body i + 1

    pub function_body_levels : (x : syntax.FunctionBody K) → levels_of_function_body (chosen_function_body f encloses x) ≡ levels_of_function_body x
    function_body_levels (syntax.function_body span parameters vararg body) = λ i. block_levels body i
