-- The bare program: the syntax without what a text is free to choose. Empty statements are gone, and arguments have
-- one form, in parentheses; a `;` behind a `return` and the separators of fields are no part of the syntax (a rule of
-- our own). A map says what stands for the spans and words of the program: token numbers, spellings, meanings.
use Rattle.std.specs.Prelude.{ℕ, Bool, true, Option, Some, None, map}
use Rattle.std.specs.Option.{option_map}
use Rattle.luf_tree.specs.Syntax as syntax
use Rattle.luf_tree.specs.SyntaxMap.{ShapeMap}
use Rattle.luf_tree.specs.TokenSyntax as tokens

-- one type of words for all names, labels and leaves
abbrev pub Worded : Type 0 → Type 0 → syntax.Shape
Worded S X = record { Span = S; Name = X; Label = X; Leaf = X }

-- words, and no places
abbrev pub Bare : Type 0 → syntax.Shape
Bare X = Worded (Unit {0}) X

-- for each token its word
abbrev pub words_of : {X : Type 0} → (ℕ → X) → ShapeMap tokens.Tokens (Bare X)
words_of says = record { span = λ _. tt; name = says; label = says; leaf = says }

-- the same, and the places kept
abbrev pub words_at : {X : Type 0} → (ℕ → X) → ShapeMap tokens.Tokens (Worded tokens.Span X)
words_at says = record { span = λ s. s; name = says; label = says; leaf = says }

abbrev pub always : {S : Type 0} → S → Bool → Bool
always _ _ = true

-- as it is here
abbrev pub as_here : {S : Type 0} → S → Bool → Bool
as_here _ had = had

-- a statement, if it is one of the program, and those behind it
abbrev pub before : {M : syntax.Shape} → Option (syntax.Statement M) → syntax.Statements M → syntax.Statements M
before None rest = rest
before (Some s) rest = syntax.more_statements s rest

-- ---- with a choice for each list of arguments whether it stands in parentheses, by its items and by whether it does
-- so here

module _ {K M : syntax.Shape} (f : ShapeMap K M) (encloses : syntax.Expressions K → Bool → Bool) where
  abbrev pub chosen_declared : syntax.DeclaredName K → syntax.DeclaredName M
  chosen_declared d = record { name = f.name d.name; attribute = option_map f.leaf d.attribute }

  abbrev mutual
    pub chosen_expression : syntax.Expression K → syntax.Expression M
    chosen_expression (syntax.nil_value span) = syntax.nil_value (f.span span)
    chosen_expression (syntax.true_value span) = syntax.true_value (f.span span)
    chosen_expression (syntax.false_value span) = syntax.false_value (f.span span)
    chosen_expression (syntax.numeral span value) = syntax.numeral (f.span span) (f.leaf value)
    chosen_expression (syntax.string span value) = syntax.string (f.span span) (f.leaf value)
    chosen_expression (syntax.varargs span) = syntax.varargs (f.span span)
    chosen_expression (syntax.variable span name) = syntax.variable (f.span span) (f.name name)
    chosen_expression (syntax.parenthesised span inner) = syntax.parenthesised (f.span span) (chosen_expression inner)
    chosen_expression (syntax.function span body) = syntax.function (f.span span) (chosen_function_body body)
    chosen_expression (syntax.table span fields) = syntax.table (f.span span) (chosen_fields fields)
    chosen_expression (syntax.unary span sign operand) = syntax.unary (f.span span) (f.leaf sign) (chosen_expression operand)
    chosen_expression (syntax.chain span first rest) = syntax.chain (f.span span) (chosen_expression first) (chosen_operations rest)
    chosen_expression (syntax.power span base sign exponent) =
        syntax.power (f.span span) (chosen_expression base) (f.leaf sign) (chosen_expression exponent)
    chosen_expression (syntax.suffixed span head suffixes) = syntax.suffixed (f.span span) (chosen_expression head) (chosen_suffixes suffixes)

    pub chosen_optional_expression : syntax.OptionalExpression K → syntax.OptionalExpression M
    chosen_optional_expression syntax.no_expression = syntax.no_expression
    chosen_optional_expression (syntax.an_expression e) = syntax.an_expression (chosen_expression e)

    pub chosen_expressions : syntax.Expressions K → syntax.Expressions M
    chosen_expressions syntax.no_expressions = syntax.no_expressions
    chosen_expressions (syntax.more_expressions first rest) = syntax.more_expressions (chosen_expression first) (chosen_expressions rest)

    pub chosen_operation : syntax.Operation K → syntax.Operation M
    chosen_operation (syntax.operation sign right) = syntax.operation (f.leaf sign) (chosen_expression right)

    pub chosen_operations : syntax.Operations K → syntax.Operations M
    chosen_operations syntax.no_operations = syntax.no_operations
    chosen_operations (syntax.more_operations first rest) = syntax.more_operations (chosen_operation first) (chosen_operations rest)

    pub chosen_suffix : syntax.Suffix K → syntax.Suffix M
    chosen_suffix (syntax.name_suffix name) = syntax.name_suffix (f.leaf name)
    chosen_suffix (syntax.index_suffix index) = syntax.index_suffix (chosen_expression index)
    chosen_suffix (syntax.call_suffix args) = syntax.call_suffix (chosen_arguments args)
    chosen_suffix (syntax.method_suffix name args) = syntax.method_suffix (f.leaf name) (chosen_arguments args)

    pub chosen_suffixes : syntax.Suffixes K → syntax.Suffixes M
    chosen_suffixes syntax.no_suffixes = syntax.no_suffixes
    chosen_suffixes (syntax.more_suffixes first rest) = syntax.more_suffixes (chosen_suffix first) (chosen_suffixes rest)

    pub chosen_arguments : syntax.Arguments K → syntax.Arguments M
    chosen_arguments (syntax.arguments span parentheses items) = syntax.arguments (f.span span) (encloses items parentheses) (chosen_expressions items)

    pub chosen_field : syntax.Field K → syntax.Field M
    chosen_field (syntax.item_field value) = syntax.item_field (chosen_expression value)
    chosen_field (syntax.named_field name value) = syntax.named_field (f.leaf name) (chosen_expression value)
    chosen_field (syntax.keyed_field key value) = syntax.keyed_field (chosen_expression key) (chosen_expression value)

    pub chosen_fields : syntax.Fields K → syntax.Fields M
    chosen_fields syntax.no_fields = syntax.no_fields
    chosen_fields (syntax.more_fields first rest) = syntax.more_fields (chosen_field first) (chosen_fields rest)

    pub chosen_statement : syntax.Statement K → Option (syntax.Statement M)
    chosen_statement (syntax.empty_statement span) = None
    chosen_statement (syntax.local_statement span names values) =
        Some (syntax.local_statement (f.span span) (map chosen_declared names) (chosen_expressions values))
    chosen_statement (syntax.assignment span targets values) =
        Some (syntax.assignment (f.span span) (chosen_expressions targets) (chosen_expressions values))
    chosen_statement (syntax.call_statement span call) = Some (syntax.call_statement (f.span span) (chosen_expression call))
    chosen_statement (syntax.do_statement span body) = Some (syntax.do_statement (f.span span) (chosen_block body))
    chosen_statement (syntax.while_statement span test body) =
        Some (syntax.while_statement (f.span span) (chosen_expression test) (chosen_block body))
    chosen_statement (syntax.repeat_statement span body test) =
        Some (syntax.repeat_statement (f.span span) (chosen_block body) (chosen_expression test))
    chosen_statement (syntax.if_statement span arms last) = Some (syntax.if_statement (f.span span) (chosen_arms arms) (chosen_optional_block last))
    chosen_statement (syntax.for_statement span name first limit step body) =
        Some (syntax.for_statement (f.span span) (f.name name) (chosen_expression first) (chosen_expression limit) (chosen_optional_expression step) (chosen_block body))
    chosen_statement (syntax.for_in_statement span names values body) =
        Some (syntax.for_in_statement (f.span span) (map f.name names) (chosen_expressions values) (chosen_block body))
    chosen_statement (syntax.function_statement span name fields method body) =
        Some (syntax.function_statement (f.span span) (option_map f.name name) (map f.leaf fields) (option_map f.leaf method) (chosen_function_body body))
    chosen_statement (syntax.local_function_statement span name body) =
        Some (syntax.local_function_statement (f.span span) (f.name name) (chosen_function_body body))
    chosen_statement (syntax.label span name) = Some (syntax.label (f.span span) (f.label name))
    chosen_statement (syntax.goto_statement span name) = Some (syntax.goto_statement (f.span span) (f.label name))
    chosen_statement (syntax.break_statement span) = Some (syntax.break_statement (f.span span))
    chosen_statement (syntax.return_statement span values) = Some (syntax.return_statement (f.span span) (chosen_expressions values))

    pub chosen_statements : syntax.Statements K → syntax.Statements M
    chosen_statements syntax.no_statements = syntax.no_statements
    chosen_statements (syntax.more_statements first rest) = before (chosen_statement first) (chosen_statements rest)

    pub chosen_arm : syntax.Arm K → syntax.Arm M
    chosen_arm (syntax.arm test body) = syntax.arm (chosen_expression test) (chosen_block body)

    pub chosen_arms : syntax.Arms K → syntax.Arms M
    chosen_arms syntax.no_arms = syntax.no_arms
    chosen_arms (syntax.more_arms first rest) = syntax.more_arms (chosen_arm first) (chosen_arms rest)

    pub chosen_block : syntax.Block K → syntax.Block M
    chosen_block (syntax.block span statements) = syntax.block (f.span span) (chosen_statements statements)

    pub chosen_optional_block : syntax.OptionalBlock K → syntax.OptionalBlock M
    chosen_optional_block syntax.no_block = syntax.no_block
    chosen_optional_block (syntax.a_block body) = syntax.a_block (chosen_block body)

    pub chosen_function_body : syntax.FunctionBody K → syntax.FunctionBody M
    chosen_function_body (syntax.function_body span parameters vararg body) =
        syntax.function_body (f.span span) (map f.name parameters) vararg (chosen_block body)

-- ---- with parentheses round all arguments: the bare program itself

module _ {K M : syntax.Shape} (f : ShapeMap K M) where
  abbrev pub bare_declared : syntax.DeclaredName K → syntax.DeclaredName M
  bare_declared = chosen_declared f always

  abbrev pub bare_expression : syntax.Expression K → syntax.Expression M
  bare_expression = chosen_expression f always

  abbrev pub bare_optional_expression : syntax.OptionalExpression K → syntax.OptionalExpression M
  bare_optional_expression = chosen_optional_expression f always

  abbrev pub bare_expressions : syntax.Expressions K → syntax.Expressions M
  bare_expressions = chosen_expressions f always

  abbrev pub bare_operation : syntax.Operation K → syntax.Operation M
  bare_operation = chosen_operation f always

  abbrev pub bare_operations : syntax.Operations K → syntax.Operations M
  bare_operations = chosen_operations f always

  abbrev pub bare_suffix : syntax.Suffix K → syntax.Suffix M
  bare_suffix = chosen_suffix f always

  abbrev pub bare_suffixes : syntax.Suffixes K → syntax.Suffixes M
  bare_suffixes = chosen_suffixes f always

  abbrev pub bare_arguments : syntax.Arguments K → syntax.Arguments M
  bare_arguments = chosen_arguments f always

  abbrev pub bare_field : syntax.Field K → syntax.Field M
  bare_field = chosen_field f always

  abbrev pub bare_fields : syntax.Fields K → syntax.Fields M
  bare_fields = chosen_fields f always

  abbrev pub bare_statement : syntax.Statement K → Option (syntax.Statement M)
  bare_statement = chosen_statement f always

  abbrev pub bare_statements : syntax.Statements K → syntax.Statements M
  bare_statements = chosen_statements f always

  abbrev pub bare_arm : syntax.Arm K → syntax.Arm M
  bare_arm = chosen_arm f always

  abbrev pub bare_arms : syntax.Arms K → syntax.Arms M
  bare_arms = chosen_arms f always

  abbrev pub bare_block : syntax.Block K → syntax.Block M
  bare_block = chosen_block f always

  abbrev pub bare_optional_block : syntax.OptionalBlock K → syntax.OptionalBlock M
  bare_optional_block = chosen_optional_block f always

  abbrev pub bare_function_body : syntax.FunctionBody K → syntax.FunctionBody M
  bare_function_body = chosen_function_body f always

-- the bare program of a program whose words stand in it
abbrev pub bare_of : {X : Type 0} → syntax.Block (Bare X) → syntax.Block (Bare X)
bare_of program = bare_block (record { span = λ s. s; name = λ x. x; label = λ x. x; leaf = λ x. x }) program
