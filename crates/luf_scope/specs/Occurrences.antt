-- What a chunk says of names, functions, loops and jumps, as one list in the order of its tokens: all that scopes and
-- labels are read off. Which tokens a name is active between is the Lua 5.4 manual, 3.5: after its `local` statement,
-- before the body of its `local function`, and in the body of its `for` or of its function; up to the end of the
-- block that holds it, which for the block of `repeat` is the end of its condition (3.3.4).
--
-- It speaks of any syntax whose words are numbered in order, as the tokens of a source are, where a `:` stands directly
-- before the name of its method.
use Rattle.std.specs.Prelude.{ℕ, ◌-◌, Bool, true, false, ◌&&◌, not, Option, Some, None, List, [], ◌∷◌, ◌++◌, map}
use Rattle.luf_tree.specs.Syntax as syntax
use Rattle.luf_tree.specs.TokenSyntax as tokens
use Rattle.luf_scope.specs.declared.occurrence.Occurrence.{Occurrence}
use Rattle.luf_scope.specs.declared.occurrence.Occurrence.TheVariants.{Local, LocalFunction, Parameter, ImplicitSelf, LoopVariable, Reads, Assigns, Field, Varargs, Function, Loop, Label, Goto, Break}

-- the block that holds a statement: what it reaches from and to, up to where its names are active, and whether it is
-- that of `repeat`
pub record Holder : Type 0 where
  pub span : tokens.Span
  pub end : ℕ
  pub until : Bool

abbrev pub span_of : tokens.Block → tokens.Span
span_of (syntax.block span _) = span

-- labels and `;`, which do nothing
abbrev pub is_void : tokens.Statement → Bool
is_void (syntax.empty_statement _) = true
is_void (syntax.label _ _) = true
is_void _ = false

abbrev pub are_void : tokens.Statements → Bool
are_void syntax.no_statements = true
are_void (syntax.more_statements first rest) = is_void first && are_void rest

abbrev pub declared_locals : ℕ → ℕ → List tokens.DeclaredName → List Occurrence
declared_locals from to names = map (λ d. Local d.name d.attribute from to) names

abbrev pub loop_variables_of : tokens.Span → List ℕ → List Occurrence
loop_variables_of body names = map (λ name. LoopVariable name body.from body.to) names

abbrev pub parameters_of : tokens.Span → List ℕ → List Occurrence
parameters_of body names = map (λ name. Parameter name body.from body.to) names

abbrev pub loop_of : tokens.Span → Occurrence
loop_of body = Loop body.from body.to

-- `function a.b` reads `a`, and `function a` assigns it; the grammar gives each path a first name
abbrev pub path_of : Option ℕ → List ℕ → Option ℕ → List Occurrence
path_of None fields method = map Field fields
path_of (Some name) [] None = Assigns name ∷ []
path_of (Some name) fields method = Reads name ∷ map Field fields

-- the `:` stands directly before the name of the method
abbrev pub method_of : tokens.Span → Option ℕ → List Occurrence
method_of body None = []
method_of body (Some name) = ImplicitSelf (name - 1) body.from body.to ∷ Field name ∷ []

abbrev pub body_of : tokens.FunctionBody → tokens.Block
body_of (syntax.function_body _ _ _ body) = body

abbrev pub span_of_body : tokens.FunctionBody → tokens.Span
span_of_body (syntax.function_body span _ _ _) = span

-- a variable by itself is assigned; in any other target, as `a` in `a.b`, variables are read
abbrev pub target_of : tokens.Expression → List Occurrence → List Occurrence
target_of (syntax.variable span name) read = Assigns name ∷ []
target_of _ read = read

abbrev mutual
  pub occurrences_in_expression : tokens.Expression → List Occurrence
  occurrences_in_expression (syntax.nil_value span) = []
  occurrences_in_expression (syntax.true_value span) = []
  occurrences_in_expression (syntax.false_value span) = []
  occurrences_in_expression (syntax.numeral span value) = []
  occurrences_in_expression (syntax.string span value) = []
  occurrences_in_expression (syntax.varargs span) = Varargs span.from ∷ []
  occurrences_in_expression (syntax.variable span name) = Reads name ∷ []
  occurrences_in_expression (syntax.parenthesised span inner) = occurrences_in_expression inner
  occurrences_in_expression (syntax.function span body) = occurrences_in_body body
  occurrences_in_expression (syntax.table span fields) = occurrences_in_fields fields
  occurrences_in_expression (syntax.unary span sign operand) = occurrences_in_expression operand
  occurrences_in_expression (syntax.chain span first rest) = occurrences_in_expression first ++ occurrences_in_operations rest
  occurrences_in_expression (syntax.power span base sign exponent) = occurrences_in_expression base ++ occurrences_in_expression exponent
  occurrences_in_expression (syntax.suffixed span head suffixes) = occurrences_in_expression head ++ occurrences_in_suffixes suffixes

  pub occurrences_in_optional_expression : tokens.OptionalExpression → List Occurrence
  occurrences_in_optional_expression syntax.no_expression = []
  occurrences_in_optional_expression (syntax.an_expression e) = occurrences_in_expression e

  pub occurrences_in_expressions : tokens.Expressions → List Occurrence
  occurrences_in_expressions syntax.no_expressions = []
  occurrences_in_expressions (syntax.more_expressions first rest) = occurrences_in_expression first ++ occurrences_in_expressions rest

  -- of the expressions that an assignment assigns
  pub occurrences_in_targets : tokens.Expressions → List Occurrence
  occurrences_in_targets syntax.no_expressions = []
  occurrences_in_targets (syntax.more_expressions first rest) = target_of first (occurrences_in_expression first) ++ occurrences_in_targets rest

  pub occurrences_in_operation : tokens.Operation → List Occurrence
  occurrences_in_operation (syntax.operation sign right) = occurrences_in_expression right

  pub occurrences_in_operations : tokens.Operations → List Occurrence
  occurrences_in_operations syntax.no_operations = []
  occurrences_in_operations (syntax.more_operations first rest) = occurrences_in_operation first ++ occurrences_in_operations rest

  pub occurrences_in_suffix : tokens.Suffix → List Occurrence
  occurrences_in_suffix (syntax.name_suffix name) = Field name ∷ []
  occurrences_in_suffix (syntax.index_suffix index) = occurrences_in_expression index
  occurrences_in_suffix (syntax.call_suffix args) = occurrences_in_arguments args
  occurrences_in_suffix (syntax.method_suffix name args) = Field name ∷ occurrences_in_arguments args

  pub occurrences_in_suffixes : tokens.Suffixes → List Occurrence
  occurrences_in_suffixes syntax.no_suffixes = []
  occurrences_in_suffixes (syntax.more_suffixes first rest) = occurrences_in_suffix first ++ occurrences_in_suffixes rest

  pub occurrences_in_arguments : tokens.Arguments → List Occurrence
  occurrences_in_arguments (syntax.arguments span parentheses items) = occurrences_in_expressions items

  pub occurrences_in_field : tokens.Field → List Occurrence
  occurrences_in_field (syntax.item_field value) = occurrences_in_expression value
  occurrences_in_field (syntax.named_field name value) = Field name ∷ occurrences_in_expression value
  occurrences_in_field (syntax.keyed_field key value) = occurrences_in_expression key ++ occurrences_in_expression value

  pub occurrences_in_fields : tokens.Fields → List Occurrence
  occurrences_in_fields syntax.no_fields = []
  occurrences_in_fields (syntax.more_fields first rest) = occurrences_in_field first ++ occurrences_in_fields rest

  -- of a statement in this block, and whether only labels and `;` follow it there
  pub occurrences_in_statement : Holder → Bool → tokens.Statement → List Occurrence
  occurrences_in_statement holder ended (syntax.empty_statement span) = []
  occurrences_in_statement holder ended (syntax.local_statement span names values) = declared_locals span.to holder.end names ++ occurrences_in_expressions values
  occurrences_in_statement holder ended (syntax.assignment span targets values) = occurrences_in_targets targets ++ occurrences_in_expressions values
  occurrences_in_statement holder ended (syntax.call_statement span call) = occurrences_in_expression call
  occurrences_in_statement holder ended (syntax.do_statement span body) = occurrences_in_block body
  occurrences_in_statement holder ended (syntax.while_statement span test body) = occurrences_in_expression test ++ loop_of (span_of body) ∷ occurrences_in_block body
  occurrences_in_statement holder ended (syntax.repeat_statement span body test) = loop_of (span_of body) ∷ occurrences_in_repeated span.to body ++ occurrences_in_expression test
  occurrences_in_statement holder ended (syntax.if_statement span arms last) = occurrences_in_arms arms ++ occurrences_in_optional_block last
  occurrences_in_statement holder ended (syntax.for_statement span name first limit step body) =
      loop_variables_of (span_of body) (name ∷ []) ++ occurrences_in_expression first ++ occurrences_in_expression limit ++ occurrences_in_optional_expression step
      ++ loop_of (span_of body) ∷ occurrences_in_block body
  occurrences_in_statement holder ended (syntax.for_in_statement span names values body) =
      loop_variables_of (span_of body) names ++ occurrences_in_expressions values ++ loop_of (span_of body) ∷ occurrences_in_block body
  occurrences_in_statement holder ended (syntax.function_statement span name fields method body) =
      path_of name fields method ++ method_of (span_of (body_of body)) method ++ occurrences_in_body body
  occurrences_in_statement holder ended (syntax.local_function_statement span name body) = LocalFunction name (span_of_body body).from holder.end ∷ occurrences_in_body body
  occurrences_in_statement holder ended (syntax.label span name) = Label name holder.span.from holder.span.to (not holder.until && ended) ∷ []
  occurrences_in_statement holder ended (syntax.goto_statement span name) = Goto span.from name ∷ []
  occurrences_in_statement holder ended (syntax.break_statement span) = Break span.from ∷ []
  occurrences_in_statement holder ended (syntax.return_statement span values) = occurrences_in_expressions values

  pub occurrences_in_statements : Holder → tokens.Statements → List Occurrence
  occurrences_in_statements holder syntax.no_statements = []
  occurrences_in_statements holder (syntax.more_statements first rest) = occurrences_in_statement holder (are_void rest) first ++ occurrences_in_statements holder rest

  pub occurrences_in_arm : tokens.Arm → List Occurrence
  occurrences_in_arm (syntax.arm test body) = occurrences_in_expression test ++ occurrences_in_block body

  pub occurrences_in_arms : tokens.Arms → List Occurrence
  occurrences_in_arms syntax.no_arms = []
  occurrences_in_arms (syntax.more_arms first rest) = occurrences_in_arm first ++ occurrences_in_arms rest

  -- of a block whose names are active up to its own end
  pub occurrences_in_block : tokens.Block → List Occurrence
  occurrences_in_block (syntax.block span statements) = occurrences_in_statements (record { span = span; end = span.to; until = false }) statements

  -- of the block of `repeat`, whose names are active up to the end of the condition
  pub occurrences_in_repeated : ℕ → tokens.Block → List Occurrence
  occurrences_in_repeated end (syntax.block span statements) = occurrences_in_statements (record { span = span; end = end; until = true }) statements

  pub occurrences_in_optional_block : tokens.OptionalBlock → List Occurrence
  occurrences_in_optional_block syntax.no_block = []
  occurrences_in_optional_block (syntax.a_block body) = occurrences_in_block body

  pub occurrences_in_body : tokens.FunctionBody → List Occurrence
  occurrences_in_body (syntax.function_body span parameters vararg body) = Function span.from span.to vararg ∷ parameters_of (span_of body) parameters ++ occurrences_in_block body
