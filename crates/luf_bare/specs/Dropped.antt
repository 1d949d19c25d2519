-- The tokens of a chunk that its bare program has not, in order: the `;` of empty statements and of returns,
-- separators of fields, and the parentheses of a lone argument. All others are significant. `dropped_.. part more`
-- are those of the part, and then these more.
use Rattle.std.specs.Prelude.{ℕ, zero, suc, ◌+◌, ◌-◌, Bool, true, false, List, ◌∷◌}
use Rattle.luf_tree.specs.Syntax as syntax
use Rattle.luf_tree.specs.Span.{span_of}
use Rattle.luf_tree.specs.TokenSyntax as tokens
use Rattle.luf_bare.specs.Lone.{is_lone}

abbrev pub if_room : ℕ → ℕ → List ℕ → List ℕ
if_room zero place more = more
if_room (suc n) place more = place ∷ more

-- the token between two places, if there is one
abbrev pub between : ℕ → ℕ → List ℕ → List ℕ
between i k more = if_room (k - i) i more

abbrev pub end_of_expression : tokens.Expression → ℕ
end_of_expression e = (span_of e).to

-- where several end, or another place if there are none
abbrev pub end_of_expressions : ℕ → tokens.Expressions → ℕ
end_of_expressions other syntax.no_expressions = other
end_of_expressions other (syntax.more_expressions e rest) = end_of_expressions (end_of_expression e) rest

abbrev pub end_of_field : tokens.Field → ℕ
end_of_field (syntax.item_field value) = end_of_expression value
end_of_field (syntax.named_field name value) = end_of_expression value
end_of_field (syntax.keyed_field key value) = end_of_expression value

abbrev pub if_dropped : Bool → ℕ → List ℕ → List ℕ
if_dropped true place more = place ∷ more
if_dropped false place more = more

abbrev pub both : Bool → Bool → Bool
both true other = other
both false other = false

abbrev mutual
  pub dropped_expression : tokens.Expression → List ℕ → List ℕ
  dropped_expression (syntax.nil_value span) more = more
  dropped_expression (syntax.true_value span) more = more
  dropped_expression (syntax.false_value span) more = more
  dropped_expression (syntax.numeral span value) more = more
  dropped_expression (syntax.string span value) more = more
  dropped_expression (syntax.varargs span) more = more
  dropped_expression (syntax.variable span name) more = more
  dropped_expression (syntax.parenthesised span inner) more = dropped_expression inner more
  dropped_expression (syntax.function span body) more = dropped_body body more
  dropped_expression (syntax.table span fields) more = dropped_fields fields (span.to - 1) more
  dropped_expression (syntax.unary span sign operand) more = dropped_expression operand more
  dropped_expression (syntax.chain span first rest) more = dropped_expression first (dropped_operations rest more)
  dropped_expression (syntax.power span base sign exponent) more = dropped_expression base (dropped_expression exponent more)
  dropped_expression (syntax.suffixed span head suffixes) more = dropped_expression head (dropped_suffixes suffixes more)

  pub dropped_for_step : tokens.OptionalExpression → List ℕ → List ℕ
  dropped_for_step syntax.no_expression more = more
  dropped_for_step (syntax.an_expression e) more = dropped_expression e more

  pub dropped_expressions : tokens.Expressions → List ℕ → List ℕ
  dropped_expressions syntax.no_expressions more = more
  dropped_expressions (syntax.more_expressions e rest) more = dropped_expression e (dropped_expressions rest more)

  pub dropped_operation : tokens.Operation → List ℕ → List ℕ
  dropped_operation (syntax.operation sign right) more = dropped_expression right more

  pub dropped_operations : tokens.Operations → List ℕ → List ℕ
  dropped_operations syntax.no_operations more = more
  dropped_operations (syntax.more_operations first rest) more = dropped_operation first (dropped_operations rest more)

  pub dropped_suffix : tokens.Suffix → List ℕ → List ℕ
  dropped_suffix (syntax.name_suffix name) more = more
  dropped_suffix (syntax.index_suffix index) more = dropped_expression index more
  dropped_suffix (syntax.call_suffix args) more = dropped_arguments args more
  dropped_suffix (syntax.method_suffix name args) more = dropped_arguments args more

  pub dropped_suffixes : tokens.Suffixes → List ℕ → List ℕ
  dropped_suffixes syntax.no_suffixes more = more
  dropped_suffixes (syntax.more_suffixes first rest) more = dropped_suffix first (dropped_suffixes rest more)

  pub dropped_arguments : tokens.Arguments → List ℕ → List ℕ
  dropped_arguments (syntax.arguments span parentheses items) more =
      if_dropped (both parentheses (is_lone items)) span.from (dropped_expressions items (if_dropped (both parentheses (is_lone items)) (span.to - 1) more))

  pub dropped_field : tokens.Field → List ℕ → List ℕ
  dropped_field (syntax.item_field value) more = dropped_expression value more
  dropped_field (syntax.named_field name value) more = dropped_expression value more
  dropped_field (syntax.keyed_field key value) more = dropped_expression key (dropped_expression value more)

  -- fields, and where the `}` stands
  pub dropped_fields : tokens.Fields → ℕ → List ℕ → List ℕ
  dropped_fields syntax.no_fields last more = more
  dropped_fields (syntax.more_fields first rest) last more = dropped_field first (between (end_of_field first) last (dropped_fields rest last more))

  pub dropped_statement : tokens.Statement → List ℕ → List ℕ
  dropped_statement (syntax.empty_statement span) more = span.from ∷ more
  dropped_statement (syntax.local_statement span names values) more = dropped_expressions values more
  dropped_statement (syntax.assignment span targets values) more = dropped_expressions targets (dropped_expressions values more)
  dropped_statement (syntax.call_statement span call) more = dropped_expression call more
  dropped_statement (syntax.do_statement span body) more = dropped_block body more
  dropped_statement (syntax.while_statement span test body) more = dropped_expression test (dropped_block body more)
  dropped_statement (syntax.repeat_statement span body test) more = dropped_block body (dropped_expression test more)
  dropped_statement (syntax.if_statement span arms last) more = dropped_arms arms (dropped_else last more)
  dropped_statement (syntax.for_statement span name first limit step body) more =
      dropped_expression first (dropped_expression limit (dropped_for_step step (dropped_block body more)))
  dropped_statement (syntax.for_in_statement span names values body) more = dropped_expressions values (dropped_block body more)
  dropped_statement (syntax.function_statement span name fields method body) more = dropped_body body more
  dropped_statement (syntax.local_function_statement span name body) more = dropped_body body more
  dropped_statement (syntax.label span name) more = more
  dropped_statement (syntax.goto_statement span name) more = more
  dropped_statement (syntax.break_statement span) more = more
  dropped_statement (syntax.return_statement span values) more =
      dropped_expressions values (between (end_of_expressions (span.from + 1) values) span.to more)

  pub dropped_statements : tokens.Statements → List ℕ → List ℕ
  dropped_statements syntax.no_statements more = more
  dropped_statements (syntax.more_statements first rest) more = dropped_statement first (dropped_statements rest more)

  pub dropped_arm : tokens.Arm → List ℕ → List ℕ
  dropped_arm (syntax.arm test body) more = dropped_expression test (dropped_block body more)

  pub dropped_arms : tokens.Arms → List ℕ → List ℕ
  dropped_arms syntax.no_arms more = more
  dropped_arms (syntax.more_arms first rest) more = dropped_arm first (dropped_arms rest more)

  pub dropped_block : tokens.Block → List ℕ → List ℕ
  dropped_block (syntax.block span statements) more = dropped_statements statements more

  pub dropped_else : tokens.OptionalBlock → List ℕ → List ℕ
  dropped_else syntax.no_block more = more
  dropped_else (syntax.a_block body) more = dropped_block body more

  pub dropped_body : tokens.FunctionBody → List ℕ → List ℕ
  dropped_body (syntax.function_body span parameters vararg body) more = dropped_block body more
