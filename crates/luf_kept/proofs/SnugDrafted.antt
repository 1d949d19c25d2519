-- What a form needs of the syntax so that its words and gaps follow each other: lists that the grammar never leaves empty are
-- not empty, and no empty statement stands in a block.
use Rattle.std.proofs.Common.{Option, Some, None, List, [], ◌∷◌}
use Rattle.luf_tree.specs.Syntax as syntax
use Rattle.luf_draft.specs.Form.{Words}

abbrev pub IsFilled : {A : Type 0} → List A → Type 0
IsFilled [] = ⊥
IsFilled (x ∷ xs) = Unit {0}

abbrev pub IsGiven : {A : Type 0} → Option A → Type 0
IsGiven None = ⊥
IsGiven (Some x) = Unit {0}

abbrev mutual
  pub IsDraftedExpression : syntax.Expression Words → Type 0
  IsDraftedExpression (syntax.parenthesised _ inner) = IsDraftedExpression inner
  IsDraftedExpression (syntax.function _ inner) = IsDraftedFunction inner
  IsDraftedExpression (syntax.table _ fields) = AreDraftedFields fields
  IsDraftedExpression (syntax.unary _ sign operand) = IsDraftedExpression operand
  IsDraftedExpression (syntax.chain _ first rest) = IsDraftedExpression first × AreDraftedOperations rest
  IsDraftedExpression (syntax.power _ base sign exponent) = IsDraftedExpression base × IsDraftedExpression exponent
  IsDraftedExpression (syntax.suffixed _ head suffixes) = IsDraftedExpression head × AreDraftedSuffixes suffixes
  IsDraftedExpression _ = Unit {0}

  pub IsDraftedStep : syntax.OptionalExpression Words → Type 0
  IsDraftedStep syntax.no_expression = Unit {0}
  IsDraftedStep (syntax.an_expression e) = IsDraftedExpression e

  pub AreDraftedExpressions : syntax.Expressions Words → Type 0
  AreDraftedExpressions syntax.no_expressions = Unit {0}
  AreDraftedExpressions (syntax.more_expressions first rest) = IsDraftedExpression first × AreDraftedExpressions rest

  -- at least one
  pub SomeDraftedExpressions : syntax.Expressions Words → Type 0
  SomeDraftedExpressions syntax.no_expressions = ⊥
  SomeDraftedExpressions (syntax.more_expressions first rest) = IsDraftedExpression first × AreDraftedExpressions rest

  pub AreDraftedOperations : syntax.Operations Words → Type 0
  AreDraftedOperations syntax.no_operations = Unit {0}
  AreDraftedOperations (syntax.more_operations (syntax.operation sign right) rest) = IsDraftedExpression right × AreDraftedOperations rest

  pub IsDraftedSuffix : syntax.Suffix Words → Type 0
  IsDraftedSuffix (syntax.name_suffix name) = Unit {0}
  IsDraftedSuffix (syntax.index_suffix index) = IsDraftedExpression index
  IsDraftedSuffix (syntax.call_suffix args) = AreDraftedArguments args
  IsDraftedSuffix (syntax.method_suffix name args) = AreDraftedArguments args

  pub AreDraftedSuffixes : syntax.Suffixes Words → Type 0
  AreDraftedSuffixes syntax.no_suffixes = Unit {0}
  AreDraftedSuffixes (syntax.more_suffixes first rest) = IsDraftedSuffix first × AreDraftedSuffixes rest

  pub AreDraftedArguments : syntax.Arguments Words → Type 0
  AreDraftedArguments (syntax.arguments _ had items) = AreDraftedExpressions items

  pub IsDraftedField : syntax.Field Words → Type 0
  IsDraftedField (syntax.item_field value) = IsDraftedExpression value
  IsDraftedField (syntax.named_field name value) = IsDraftedExpression value
  IsDraftedField (syntax.keyed_field key value) = IsDraftedExpression key × IsDraftedExpression value

  pub AreDraftedFields : syntax.Fields Words → Type 0
  AreDraftedFields syntax.no_fields = Unit {0}
  AreDraftedFields (syntax.more_fields first rest) = IsDraftedField first × AreDraftedFields rest

  pub IsDraftedStatement : syntax.Statement Words → Type 0
  IsDraftedStatement (syntax.empty_statement _) = ⊥
  IsDraftedStatement (syntax.local_statement _ names values) = IsFilled names × AreDraftedExpressions values
  IsDraftedStatement (syntax.assignment _ targets values) = SomeDraftedExpressions targets × AreDraftedExpressions values
  IsDraftedStatement (syntax.call_statement _ call) = IsDraftedExpression call
  IsDraftedStatement (syntax.do_statement _ inner) = IsDrafted inner
  IsDraftedStatement (syntax.while_statement _ test inner) = IsDraftedExpression test × IsDrafted inner
  IsDraftedStatement (syntax.repeat_statement _ inner test) = IsDrafted inner × IsDraftedExpression test
  IsDraftedStatement (syntax.if_statement _ parts last) = SomeDraftedArms parts × IsDraftedElse last
  IsDraftedStatement (syntax.for_statement _ name first limit step inner) = IsDraftedExpression first × IsDraftedExpression limit × IsDraftedStep step × IsDrafted inner
  IsDraftedStatement (syntax.for_in_statement _ names values inner) = IsFilled names × SomeDraftedExpressions values × IsDrafted inner
  IsDraftedStatement (syntax.function_statement _ name fields method inner) = IsGiven name × IsDraftedFunction inner
  IsDraftedStatement (syntax.local_function_statement _ name inner) = IsDraftedFunction inner
  IsDraftedStatement (syntax.label _ name) = Unit {0}
  IsDraftedStatement (syntax.goto_statement _ name) = Unit {0}
  IsDraftedStatement (syntax.break_statement _) = Unit {0}
  IsDraftedStatement (syntax.return_statement _ values) = AreDraftedExpressions values

  pub AreDraftedStatements : syntax.Statements Words → Type 0
  AreDraftedStatements syntax.no_statements = Unit {0}
  AreDraftedStatements (syntax.more_statements first rest) = IsDraftedStatement first × AreDraftedStatements rest

  pub IsDraftedArm : syntax.Arm Words → Type 0
  IsDraftedArm (syntax.arm test inner) = IsDraftedExpression test × IsDrafted inner

  pub AreDraftedArms : syntax.Arms Words → Type 0
  AreDraftedArms syntax.no_arms = Unit {0}
  AreDraftedArms (syntax.more_arms first rest) = IsDraftedArm first × AreDraftedArms rest

  -- at least one
  pub SomeDraftedArms : syntax.Arms Words → Type 0
  SomeDraftedArms syntax.no_arms = ⊥
  SomeDraftedArms (syntax.more_arms first rest) = IsDraftedArm first × AreDraftedArms rest

  pub IsDraftedElse : syntax.OptionalBlock Words → Type 0
  IsDraftedElse syntax.no_block = Unit {0}
  IsDraftedElse (syntax.a_block inner) = IsDrafted inner

  pub IsDraftedFunction : syntax.FunctionBody Words → Type 0
  IsDraftedFunction (syntax.function_body _ names vararg inner) = IsDrafted inner

  pub IsDrafted : syntax.Block Words → Type 0
  IsDrafted (syntax.block _ inner) = AreDraftedStatements inner
