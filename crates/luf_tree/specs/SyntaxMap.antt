-- The same syntax with other spans, names, labels and leaves.
use Rattle.std.specs.Prelude.{map}
use Rattle.std.specs.Option.{option_map}
use Rattle.luf_tree.specs.Syntax as syntax

-- what stands for each span, name, label and leaf
pub record ShapeMap (K M : syntax.Shape) : Type 0 where
  pub span : K.Span → M.Span
  pub name : K.Name → M.Name
  pub label : K.Label → M.Label
  pub leaf : K.Leaf → M.Leaf

-- each stands for itself
abbrev pub unchanged : {K : syntax.Shape} → ShapeMap K K
unchanged = record { span = λ s. s; name = λ n. n; label = λ l. l; leaf = λ w. w }

-- the second map after the first
abbrev pub after : {K M N : syntax.Shape} → ShapeMap M N → ShapeMap K M → ShapeMap K N
after g f = record { span = λ s. g.span (f.span s); name = λ n. g.name (f.name n); label = λ l. g.label (f.label l); leaf = λ w. g.leaf (f.leaf w) }

module _ {K M : syntax.Shape} (f : ShapeMap K M) where
  abbrev pub map_declared : syntax.DeclaredName K → syntax.DeclaredName M
  map_declared d = record { name = f.name d.name; attribute = option_map f.leaf d.attribute }

  abbrev mutual
    pub map_expression : syntax.Expression K → syntax.Expression M
    map_expression (syntax.nil_value span) = syntax.nil_value (f.span span)
    map_expression (syntax.true_value span) = syntax.true_value (f.span span)
    map_expression (syntax.false_value span) = syntax.false_value (f.span span)
    map_expression (syntax.numeral span value) = syntax.numeral (f.span span) (f.leaf value)
    map_expression (syntax.string span value) = syntax.string (f.span span) (f.leaf value)
    map_expression (syntax.varargs span) = syntax.varargs (f.span span)
    map_expression (syntax.variable span name) = syntax.variable (f.span span) (f.name name)
    map_expression (syntax.parenthesised span inner) = syntax.parenthesised (f.span span) (map_expression inner)
    map_expression (syntax.function span body) = syntax.function (f.span span) (map_function_body body)
    map_expression (syntax.table span fields) = syntax.table (f.span span) (map_fields fields)
    map_expression (syntax.unary span sign operand) = syntax.unary (f.span span) (f.leaf sign) (map_expression operand)
    map_expression (syntax.chain span first rest) = syntax.chain (f.span span) (map_expression first) (map_operations rest)
    map_expression (syntax.power span base sign exponent) = syntax.power (f.span span) (map_expression base) (f.leaf sign) (map_expression exponent)
    map_expression (syntax.suffixed span head suffixes) = syntax.suffixed (f.span span) (map_expression head) (map_suffixes suffixes)

    pub map_optional_expression : syntax.OptionalExpression K → syntax.OptionalExpression M
    map_optional_expression syntax.no_expression = syntax.no_expression
    map_optional_expression (syntax.an_expression e) = syntax.an_expression (map_expression e)

    pub map_expressions : syntax.Expressions K → syntax.Expressions M
    map_expressions syntax.no_expressions = syntax.no_expressions
    map_expressions (syntax.more_expressions first rest) = syntax.more_expressions (map_expression first) (map_expressions rest)

    pub map_operation : syntax.Operation K → syntax.Operation M
    map_operation (syntax.operation sign right) = syntax.operation (f.leaf sign) (map_expression right)

    pub map_operations : syntax.Operations K → syntax.Operations M
    map_operations syntax.no_operations = syntax.no_operations
    map_operations (syntax.more_operations first rest) = syntax.more_operations (map_operation first) (map_operations rest)

    pub map_suffix : syntax.Suffix K → syntax.Suffix M
    map_suffix (syntax.name_suffix name) = syntax.name_suffix (f.leaf name)
    map_suffix (syntax.index_suffix index) = syntax.index_suffix (map_expression index)
    map_suffix (syntax.call_suffix args) = syntax.call_suffix (map_arguments args)
    map_suffix (syntax.method_suffix name args) = syntax.method_suffix (f.leaf name) (map_arguments args)

    pub map_suffixes : syntax.Suffixes K → syntax.Suffixes M
    map_suffixes syntax.no_suffixes = syntax.no_suffixes
    map_suffixes (syntax.more_suffixes first rest) = syntax.more_suffixes (map_suffix first) (map_suffixes rest)

    pub map_arguments : syntax.Arguments K → syntax.Arguments M
    map_arguments (syntax.arguments span parentheses items) = syntax.arguments (f.span span) parentheses (map_expressions items)

    pub map_field : syntax.Field K → syntax.Field M
    map_field (syntax.item_field value) = syntax.item_field (map_expression value)
    map_field (syntax.named_field name value) = syntax.named_field (f.leaf name) (map_expression value)
    map_field (syntax.keyed_field key value) = syntax.keyed_field (map_expression key) (map_expression value)

    pub map_fields : syntax.Fields K → syntax.Fields M
    map_fields syntax.no_fields = syntax.no_fields
    map_fields (syntax.more_fields first rest) = syntax.more_fields (map_field first) (map_fields rest)

    pub map_statement : syntax.Statement K → syntax.Statement M
    map_statement (syntax.empty_statement span) = syntax.empty_statement (f.span span)
    map_statement (syntax.local_statement span names values) = syntax.local_statement (f.span span) (map map_declared names) (map_expressions values)
    map_statement (syntax.assignment span targets values) = syntax.assignment (f.span span) (map_expressions targets) (map_expressions values)
    map_statement (syntax.call_statement span call) = syntax.call_statement (f.span span) (map_expression call)
    map_statement (syntax.do_statement span body) = syntax.do_statement (f.span span) (map_block body)
    map_statement (syntax.while_statement span test body) = syntax.while_statement (f.span span) (map_expression test) (map_block body)
    map_statement (syntax.repeat_statement span body test) = syntax.repeat_statement (f.span span) (map_block body) (map_expression test)
    map_statement (syntax.if_statement span arms last) = syntax.if_statement (f.span span) (map_arms arms) (map_optional_block last)
    map_statement (syntax.for_statement span name first limit step body) = syntax.for_statement (f.span span) (f.name name) (map_expression first) (map_expression limit) (map_optional_expression step) (map_block body)
    map_statement (syntax.for_in_statement span names values body) = syntax.for_in_statement (f.span span) (map f.name names) (map_expressions values) (map_block body)
    map_statement (syntax.function_statement span name fields method body) = syntax.function_statement (f.span span) (option_map f.name name) (map f.leaf fields) (option_map f.leaf method) (map_function_body body)
    map_statement (syntax.local_function_statement span name body) = syntax.local_function_statement (f.span span) (f.name name) (map_function_body body)
    map_statement (syntax.label span name) = syntax.label (f.span span) (f.label name)
    map_statement (syntax.goto_statement span name) = syntax.goto_statement (f.span span) (f.label name)
    map_statement (syntax.break_statement span) = syntax.break_statement (f.span span)
    map_statement (syntax.return_statement span values) = syntax.return_statement (f.span span) (map_expressions values)

    pub map_statements : syntax.Statements K → syntax.Statements M
    map_statements syntax.no_statements = syntax.no_statements
    map_statements (syntax.more_statements first rest) = syntax.more_statements (map_statement first) (map_statements rest)

    pub map_arm : syntax.Arm K → syntax.Arm M
    map_arm (syntax.arm test body) = syntax.arm (map_expression test) (map_block body)

    pub map_arms : syntax.Arms K → syntax.Arms M
    map_arms syntax.no_arms = syntax.no_arms
    map_arms (syntax.more_arms first rest) = syntax.more_arms (map_arm first) (map_arms rest)

    pub map_block : syntax.Block K → syntax.Block M
    map_block (syntax.block span statements) = syntax.block (f.span span) (map_statements statements)

    pub map_optional_block : syntax.OptionalBlock K → syntax.OptionalBlock M
    map_optional_block syntax.no_block = syntax.no_block
    map_optional_block (syntax.a_block body) = syntax.a_block (map_block body)

    pub map_function_body : syntax.FunctionBody K → syntax.FunctionBody M
    map_function_body (syntax.function_body span parameters vararg body) = syntax.function_body (f.span span) (map f.name parameters) vararg (map_block body)
