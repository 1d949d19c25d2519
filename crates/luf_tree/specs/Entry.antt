-- The tokens that enter a level, each with that level, in their order: the list of entries. A level is entered by the
-- token that opens what is one level deeper (a rule of our own): `do`, `then`, `else`, `repeat` and `function`, each
-- `(`, `{` and `[`, a unary operator, `^`, and a lone string. A lone table enters two at its `{`, that of the argument
-- list and that of the table.
--
-- `entries_of_.. level part` are those of a part that stands at a level.
use Rattle.std.specs.Prelude.{ℕ, ◌+◌, ◌-◌, List, [], ◌∷◌, ◌++◌, max}
use Rattle.luf_tree.specs.Syntax as syntax
use Rattle.luf_tree.specs.TokenSyntax as tokens
use Rattle.luf_tree.specs.Span.{span_of}
use Rattle.luf_tree.specs.SyntaxOf.{syntax_of}
use Rattle.luf_tree.specs.declared.tree.Chunk.{Chunk}

pub record Entry : Type 0 where
  pub token : ℕ
  pub level : ℕ

-- a token enters the level behind this one, and inside it are these entries
abbrev pub entered : ℕ → ℕ → List Entry → List Entry
entered token level inside = record { token = token; level = level + 1 } ∷ inside

-- the token before an expression, and the one before a block
abbrev pub opener_of_expression : tokens.Expression → ℕ
opener_of_expression e = (span_of e).from - 1

abbrev pub opener_of_block : tokens.Block → ℕ
opener_of_block (syntax.block span _) = span.from - 1

abbrev mutual
  pub entries_of_expression : ℕ → tokens.Expression → List Entry
  entries_of_expression level (syntax.nil_value span) = []
  entries_of_expression level (syntax.true_value span) = []
  entries_of_expression level (syntax.false_value span) = []
  entries_of_expression level (syntax.numeral span value) = []
  entries_of_expression level (syntax.string span value) = []
  entries_of_expression level (syntax.varargs span) = []
  entries_of_expression level (syntax.variable span name) = []
  entries_of_expression level (syntax.parenthesised span inner) = entered span.from level (entries_of_expression (level + 1) inner)
  entries_of_expression level (syntax.function span body) = entered span.from level (entries_of_function_body (level + 1) body)
  entries_of_expression level (syntax.table span fields) = entered span.from level (entries_of_fields (level + 1) fields)
  entries_of_expression level (syntax.unary span sign operand) = entered sign level (entries_of_expression (level + 1) operand)
  entries_of_expression level (syntax.chain span first rest) = entries_of_expression level first ++ entries_of_operations level rest
  entries_of_expression level (syntax.power span base sign exponent) = entries_of_expression level base ++ entered sign level (entries_of_expression (level + 1) exponent)
  entries_of_expression level (syntax.suffixed span head suffixes) = entries_of_expression level head ++ entries_of_suffixes level suffixes

  pub entries_of_optional_expression : ℕ → tokens.OptionalExpression → List Entry
  entries_of_optional_expression level syntax.no_expression = []
  entries_of_optional_expression level (syntax.an_expression e) = entries_of_expression level e

  pub entries_of_expressions : ℕ → tokens.Expressions → List Entry
  entries_of_expressions level syntax.no_expressions = []
  entries_of_expressions level (syntax.more_expressions first rest) = entries_of_expression level first ++ entries_of_expressions level rest

  pub entries_of_operation : ℕ → tokens.Operation → List Entry
  entries_of_operation level (syntax.operation sign right) = entries_of_expression level right

  pub entries_of_operations : ℕ → tokens.Operations → List Entry
  entries_of_operations level syntax.no_operations = []
  entries_of_operations level (syntax.more_operations first rest) = entries_of_operation level first ++ entries_of_operations level rest

  pub entries_of_suffix : ℕ → tokens.Suffix → List Entry
  entries_of_suffix level (syntax.name_suffix name) = []
  entries_of_suffix level (syntax.index_suffix index) = entered (opener_of_expression index) level (entries_of_expression (level + 1) index)
  entries_of_suffix level (syntax.call_suffix args) = entries_of_arguments level args
  entries_of_suffix level (syntax.method_suffix name args) = entries_of_arguments level args

  pub entries_of_suffixes : ℕ → tokens.Suffixes → List Entry
  entries_of_suffixes level syntax.no_suffixes = []
  entries_of_suffixes level (syntax.more_suffixes first rest) = entries_of_suffix level first ++ entries_of_suffixes level rest

  pub entries_of_arguments : ℕ → tokens.Arguments → List Entry
  entries_of_arguments level (syntax.arguments span parentheses items) = entered span.from level (entries_of_expressions (level + 1) items)

  pub entries_of_field : ℕ → tokens.Field → List Entry
  entries_of_field level (syntax.item_field value) = entries_of_expression level value
  entries_of_field level (syntax.named_field name value) = entries_of_expression level value
  entries_of_field level (syntax.keyed_field key value) = entered (opener_of_expression key) level (entries_of_expression (level + 1) key) ++ entries_of_expression level value

  pub entries_of_fields : ℕ → tokens.Fields → List Entry
  entries_of_fields level syntax.no_fields = []
  entries_of_fields level (syntax.more_fields first rest) = entries_of_field level first ++ entries_of_fields level rest

  pub entries_of_statement : ℕ → tokens.Statement → List Entry
  entries_of_statement level (syntax.empty_statement span) = []
  entries_of_statement level (syntax.local_statement span names values) = entries_of_expressions level values
  entries_of_statement level (syntax.assignment span targets values) = entries_of_expressions level targets ++ entries_of_expressions level values
  entries_of_statement level (syntax.call_statement span call) = entries_of_expression level call
  entries_of_statement level (syntax.do_statement span body) = entered span.from level (entries_of_block (level + 1) body)
  entries_of_statement level (syntax.while_statement span test body) = entries_of_expression level test ++ entered (opener_of_block body) level (entries_of_block (level + 1) body)
  entries_of_statement level (syntax.repeat_statement span body test) = entered span.from level (entries_of_block (level + 1) body) ++ entries_of_expression level test
  entries_of_statement level (syntax.if_statement span arms last) = entries_of_arms level arms ++ entries_of_optional_block level last
  entries_of_statement level (syntax.for_statement span name first limit step body) = (entries_of_expression level first ++ entries_of_expression level limit) ++ (entries_of_optional_expression level step ++ entered (opener_of_block body) level (entries_of_block (level + 1) body))
  entries_of_statement level (syntax.for_in_statement span names values body) = entries_of_expressions level values ++ entered (opener_of_block body) level (entries_of_block (level + 1) body)
  entries_of_statement level (syntax.function_statement span name fields method body) = entered span.from level (entries_of_function_body (level + 1) body)
  entries_of_statement level (syntax.local_function_statement span name body) = entered (span.from + 1) level (entries_of_function_body (level + 1) body)
  entries_of_statement level (syntax.label span name) = []
  entries_of_statement level (syntax.goto_statement span name) = []
  entries_of_statement level (syntax.break_statement span) = []
  entries_of_statement level (syntax.return_statement span values) = entries_of_expressions level values

  pub entries_of_statements : ℕ → tokens.Statements → List Entry
  entries_of_statements level syntax.no_statements = []
  entries_of_statements level (syntax.more_statements first rest) = entries_of_statement level first ++ entries_of_statements level rest

  pub entries_of_arm : ℕ → tokens.Arm → List Entry
  entries_of_arm level (syntax.arm test body) = entries_of_expression level test ++ entered (opener_of_block body) level (entries_of_block (level + 1) body)

  pub entries_of_arms : ℕ → tokens.Arms → List Entry
  entries_of_arms level syntax.no_arms = []
  entries_of_arms level (syntax.more_arms first rest) = entries_of_arm level first ++ entries_of_arms level rest

  pub entries_of_block : ℕ → tokens.Block → List Entry
  entries_of_block level (syntax.block span statements) = entries_of_statements level statements

  pub entries_of_optional_block : ℕ → tokens.OptionalBlock → List Entry
  entries_of_optional_block level syntax.no_block = []
  entries_of_optional_block level (syntax.a_block body) = entered (opener_of_block body) level (entries_of_block (level + 1) body)

  pub entries_of_function_body : ℕ → tokens.FunctionBody → List Entry
  entries_of_function_body level (syntax.function_body span parameters vararg body) = entries_of_block level body

-- the greatest level that is entered; 0 where none is
abbrev pub greatest_level : List Entry → ℕ
greatest_level [] = 0
greatest_level (entry ∷ entries) = max entry.level (greatest_level entries)

-- the entries of a chunk, whose main block has level 0
abbrev pub entries : Chunk → List Entry
entries chunk = entries_of_block 0 (syntax_of chunk)
