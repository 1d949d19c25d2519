-- The depth of a chunk is the greatest level that is entered.
use Rattle.std.proofs.Common.{◌≡◌, ℕ, ◌+◌, List, [], ◌∷◌, ◌++◌, max, arith}
use Rattle.luf_tree.specs.Syntax as syntax
use Rattle.luf_tree.specs.TokenSyntax as tokens
use Rattle.luf_tree.specs.declared.tree.Chunk.{Chunk}
use Rattle.luf_tree.specs.SyntaxOf.{syntax_of}
use Rattle.luf_tree.specs.Level.{depth_of, levels_of_expression, levels_of_optional_expression, levels_of_expressions, levels_of_operation, levels_of_operations, levels_of_suffix, levels_of_suffixes, levels_of_arguments, levels_of_field, levels_of_fields, levels_of_statement, levels_of_statements, levels_of_arm, levels_of_arms, levels_of_block, levels_of_optional_block, levels_of_function_body}
use Rattle.luf_tree.specs.Entry.{Entry, greatest_level, entries, entries_of_expression, entries_of_optional_expression, entries_of_expressions, entries_of_operation, entries_of_operations, entries_of_suffix, entries_of_suffixes, entries_of_arguments, entries_of_field, entries_of_fields, entries_of_statement, entries_of_statements, entries_of_arm, entries_of_arms, entries_of_block, entries_of_optional_block, entries_of_function_body}

greatest_append : (xs ys : List Entry) → greatest_level (xs ++ ys) ≡ max (greatest_level xs) (greatest_level ys)
greatest_append [] ys = omega arith
greatest_append (x ∷ xs) ys = omega (arith, greatest_append xs ys)

-- from a level on, entries reach so many levels deeper
pub record Reaches (level : ℕ) (es : List Entry) (deeper : ℕ) : Type 0 where
  pub is : max level (greatest_level es) ≡ level + deeper

reach_none : (level : ℕ) → Reaches level [] 0
reach_none level = record { is = omega arith }

reach_both : {level a b : ℕ} {xs ys : List Entry} → Reaches level xs a → Reaches level ys b → Reaches level (xs ++ ys) (max a b)
reach_both {xs} {ys} first second = record { is = omega (arith, greatest_append xs ys, first.is, second.is) }

reach_entered : {level token a : ℕ} {es : List Entry} → Reaches (level + 1) es a → Reaches level (record { token = token; level = level + 1 } ∷ es) (a + 1)
reach_entered inside = record { is = omega (arith, inside.is) }

mutual
  pub reach_expression : (level : ℕ) (x : tokens.Expression) → Reaches level (entries_of_expression level x) (levels_of_expression x)
  reach_expression level (syntax.nil_value span) = reach_none level
  reach_expression level (syntax.true_value span) = reach_none level
  reach_expression level (syntax.false_value span) = reach_none level
  reach_expression level (syntax.numeral span value) = reach_none level
  reach_expression level (syntax.string span value) = reach_none level
  reach_expression level (syntax.varargs span) = reach_none level
  reach_expression level (syntax.variable span name) = reach_none level
  reach_expression level (syntax.parenthesised span inner) = reach_entered (reach_expression (level + 1) inner)
  reach_expression level (syntax.function span body) = reach_entered (reach_function_body (level + 1) body)
  reach_expression level (syntax.table span fields) = reach_entered (reach_fields (level + 1) fields)
  reach_expression level (syntax.unary span sign operand) = reach_entered (reach_expression (level + 1) operand)
  reach_expression level (syntax.chain span first rest) = reach_both (reach_expression level first) (reach_operations level rest)
  reach_expression level (syntax.power span base sign exponent) = reach_both (reach_expression level base) (reach_entered (reach_expression (level + 1) exponent))
  reach_expression level (syntax.suffixed span head suffixes) = reach_both (reach_expression level head) (reach_suffixes level suffixes)

  pub reach_optional_expression : (level : ℕ) (x : tokens.OptionalExpression) → Reaches level (entries_of_optional_expression level x) (levels_of_optional_expression x)
  reach_optional_expression level syntax.no_expression = reach_none level
  reach_optional_expression level (syntax.an_expression e) = reach_expression level e

  pub reach_expressions : (level : ℕ) (x : tokens.Expressions) → Reaches level (entries_of_expressions level x) (levels_of_expressions x)
  reach_expressions level syntax.no_expressions = reach_none level
  reach_expressions level (syntax.more_expressions first rest) = reach_both (reach_expression level first) (reach_expressions level rest)

  pub reach_operation : (level : ℕ) (x : tokens.Operation) → Reaches level (entries_of_operation level x) (levels_of_operation x)
  reach_operation level (syntax.operation sign right) = reach_expression level right

  pub reach_operations : (level : ℕ) (x : tokens.Operations) → Reaches level (entries_of_operations level x) (levels_of_operations x)
  reach_operations level syntax.no_operations = reach_none level
  reach_operations level (syntax.more_operations first rest) = reach_both (reach_operation level first) (reach_operations level rest)

  pub reach_suffix : (level : ℕ) (x : tokens.Suffix) → Reaches level (entries_of_suffix level x) (levels_of_suffix x)
  reach_suffix level (syntax.name_suffix name) = reach_none level
  reach_suffix level (syntax.index_suffix index) = reach_entered (reach_expression (level + 1) index)
  reach_suffix level (syntax.call_suffix args) = reach_arguments level args
  reach_suffix level (syntax.method_suffix name args) = reach_arguments level args

  pub reach_suffixes : (level : ℕ) (x : tokens.Suffixes) → Reaches level (entries_of_suffixes level x) (levels_of_suffixes x)
  reach_suffixes level syntax.no_suffixes = reach_none level
  reach_suffixes level (syntax.more_suffixes first rest) = reach_both (reach_suffix level first) (reach_suffixes level rest)

  pub reach_arguments : (level : ℕ) (x : tokens.Arguments) → Reaches level (entries_of_arguments level x) (levels_of_arguments x)
  reach_arguments level (syntax.arguments span parentheses items) = reach_entered (reach_expressions (level + 1) items)

  pub reach_field : (level : ℕ) (x : tokens.Field) → Reaches level (entries_of_field level x) (levels_of_field x)
  reach_field level (syntax.item_field value) = reach_expression level value
  reach_field level (syntax.named_field name value) = reach_expression level value
  reach_field level (syntax.keyed_field key value) = reach_both (reach_entered (reach_expression (level + 1) key)) (reach_expression level value)

  pub reach_fields : (level : ℕ) (x : tokens.Fields) → Reaches level (entries_of_fields level x) (levels_of_fields x)
  reach_fields level syntax.no_fields = reach_none level
  reach_fields level (syntax.more_fields first rest) = reach_both (reach_field level first) (reach_fields level rest)

  pub reach_statement : (level : ℕ) (x : tokens.Statement) → Reaches level (entries_of_statement level x) (levels_of_statement x)
  reach_statement level (syntax.empty_statement span) = reach_none level
  reach_statement level (syntax.local_statement span names values) = reach_expressions level values
  reach_statement level (syntax.assignment span targets values) = reach_both (reach_expressions level targets) (reach_expressions level values)
  reach_statement level (syntax.call_statement span call) = reach_expression level call
  reach_statement level (syntax.do_statement span body) = reach_entered (reach_block (level + 1) body)
  reach_statement level (syntax.while_statement span test body) = reach_both (reach_expression level test) (reach_entered (reach_block (level + 1) body))
  reach_statement level (syntax.repeat_statement span body test) = reach_both (reach_entered (reach_block (level + 1) body)) (reach_expression level test)
  reach_statement level (syntax.if_statement span arms last) = reach_both (reach_arms level arms) (reach_optional_block level last)
  reach_statement level (syntax.for_statement span name first limit step body) = reach_both (reach_both (reach_expression level first) (reach_expression level limit)) (reach_both (reach_optional_expression level step) (reach_entered (reach_block (level + 1) body)))
  reach_statement level (syntax.for_in_statement span names values body) = reach_both (reach_expressions level values) (reach_entered (reach_block (level + 1) body))
  reach_statement level (syntax.function_statement span name fields method body) = reach_entered (reach_function_body (level + 1) body)
  reach_statement level (syntax.local_function_statement span name body) = reach_entered (reach_function_body (level + 1) body)
  reach_statement level (syntax.label span name) = reach_none level
  reach_statement level (syntax.goto_statement span name) = reach_none level
  reach_statement level (syntax.break_statement span) = reach_none level
  reach_statement level (syntax.return_statement span values) = reach_expressions level values

  pub reach_statements : (level : ℕ) (x : tokens.Statements) → Reaches level (entries_of_statements level x) (levels_of_statements x)
  reach_statements level syntax.no_statements = reach_none level
  reach_statements level (syntax.more_statements first rest) = reach_both (reach_statement level first) (reach_statements level rest)

  pub reach_arm : (level : ℕ) (x : tokens.Arm) → Reaches level (entries_of_arm level x) (levels_of_arm x)
  reach_arm level (syntax.arm test body) = reach_both (reach_expression level test) (reach_entered (reach_block (level + 1) body))

  pub reach_arms : (level : ℕ) (x : tokens.Arms) → Reaches level (entries_of_arms level x) (levels_of_arms x)
  reach_arms level syntax.no_arms = reach_none level
  reach_arms level (syntax.more_arms first rest) = reach_both (reach_arm level first) (reach_arms level rest)

  pub reach_block : (level : ℕ) (x : tokens.Block) → Reaches level (entries_of_block level x) (levels_of_block x)
  reach_block level (syntax.block span statements) = reach_statements level statements

  pub reach_optional_block : (level : ℕ) (x : tokens.OptionalBlock) → Reaches level (entries_of_optional_block level x) (levels_of_optional_block x)
  reach_optional_block level syntax.no_block = reach_none level
  reach_optional_block level (syntax.a_block body) = reach_entered (reach_block (level + 1) body)

  pub reach_function_body : (level : ℕ) (x : tokens.FunctionBody) → Reaches level (entries_of_function_body level x) (levels_of_function_body x)
  reach_function_body level (syntax.function_body span parameters vararg body) = reach_block level body

pub depth_is_greatest : (chunk : Chunk) → depth_of chunk ≡ greatest_level (entries chunk)
depth_is_greatest chunk = omega (arith, (reach_block 0 (syntax_of chunk)).is)
