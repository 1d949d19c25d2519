-- A bare part with places, counted on from the first: what `ranked` gives, as a function of the bare program alone.
use Rattle.std.specs.Prelude.{ℕ, ◌+◌, ◌-◌, Bool, true, false, Option, Some, None, List, [], ◌∷◌}
use Rattle.luf_tree.specs.Syntax as syntax
use Rattle.luf_tree.specs.TokenSyntax as tokens
use Rattle.luf_tree.specs.TokenSyntax.{from_to}
use Rattle.luf_tree.specs.SyntaxOf.{first_of_path, rest_of_path}
use Rattle.luf_bare.specs.Bare.{Bare}
use Rattle.luf_bare.specs.Lone.{is_lone}

-- a part with places, and the place behind it
pub record Placed (A : Type 0) : Type 0 where
  pub part : A
  pub end : ℕ

abbrev pub placed : {A : Type 0} → A → ℕ → Placed A
placed part end = record { part = part; end = end }

abbrev pub path_of : {X : Type 0} → Option X → List X → List X
path_of None fields = fields
path_of (Some name) fields = name ∷ fields

-- arguments, from where they are alone and where they stand in parentheses
abbrev pub placed_enclosed : Bool → ℕ → Placed tokens.Expressions → Placed tokens.Expressions → Placed tokens.Arguments
placed_enclosed true n alone inside = placed (syntax.arguments (from_to n alone.end) true alone.part) alone.end
placed_enclosed false n alone inside = placed (syntax.arguments (from_to n (inside.end + 1)) true inside.part) (inside.end + 1)

-- constructs of many parts, with each part where the one before it ends
abbrev pub placed_for : ℕ → Placed tokens.Expression → Placed tokens.Expression → Placed tokens.OptionalExpression → Placed tokens.Block → Placed tokens.Statement
placed_for n first limit step body = placed (syntax.for_statement (from_to n (body.end + 1)) (n + 1) first.part limit.part step.part body.part) (body.end + 1)

abbrev pub placed_for_in : ℕ → Placed (List ℕ) → Placed tokens.Expressions → Placed tokens.Block → Placed tokens.Statement
placed_for_in n names values body = placed (syntax.for_in_statement (from_to n (body.end + 1)) names.part values.part body.part) (body.end + 1)

abbrev pub placed_function : ℕ → Placed (List ℕ) → Placed (Option ℕ) → Placed tokens.FunctionBody → Placed tokens.Statement
placed_function n path method body = placed (syntax.function_statement (from_to n body.end) (first_of_path path.part) (rest_of_path path.part) method.part body.part) body.end

abbrev pub placed_function_body : ℕ → Bool → Placed (List ℕ) → Placed tokens.Block → Placed tokens.FunctionBody
placed_function_body n vararg parameters body = placed (syntax.function_body (from_to n (body.end + 1)) parameters.part vararg body.part) (body.end + 1)

module _ {X : Type 0} where
  -- names, with one word behind each, of which the last is none of theirs
  abbrev pub placed_names : ℕ → List X → Placed (List ℕ)
  placed_names n [] = placed [] (n - 1)
  placed_names n (x ∷ names) = placed (n ∷ (placed_names (n + 1 + 1) names).part) (placed_names (n + 1 + 1) names).end

  abbrev pub placed_parameters : ℕ → List X → Bool → Placed (List ℕ)
  placed_parameters n [] false = placed [] n
  placed_parameters n [] true = placed [] (n + 1)
  placed_parameters n (x ∷ names) false = placed_names n (x ∷ names)
  placed_parameters n (x ∷ names) true = placed (placed_names n (x ∷ names)).part ((placed_names n (x ∷ names)).end + 1 + 1)

  abbrev pub placed_attribute : ℕ → Option X → Placed (Option ℕ)
  placed_attribute n None = placed None n
  placed_attribute n (Some x) = placed (Some (n + 1)) (n + 1 + 1 + 1)

  abbrev pub placed_declared : ℕ → List (syntax.DeclaredName (Bare X)) → Placed (List tokens.DeclaredName)
  placed_declared n [] = placed [] (n - 1)
  placed_declared n (d ∷ ds) =
      placed (record { name = n; attribute = (placed_attribute (n + 1) d.attribute).part } ∷ (placed_declared ((placed_attribute (n + 1) d.attribute).end + 1) ds).part)
      (placed_declared ((placed_attribute (n + 1) d.attribute).end + 1) ds).end

  abbrev pub placed_method : ℕ → Option X → Placed (Option ℕ)
  placed_method n None = placed None n
  placed_method n (Some x) = placed (Some (n + 1)) (n + 1 + 1)

  abbrev mutual
    pub placed_expression : ℕ → syntax.Expression (Bare X) → Placed tokens.Expression
    placed_expression n (syntax.nil_value span) = placed (syntax.nil_value (from_to n (n + 1))) (n + 1)
    placed_expression n (syntax.true_value span) = placed (syntax.true_value (from_to n (n + 1))) (n + 1)
    placed_expression n (syntax.false_value span) = placed (syntax.false_value (from_to n (n + 1))) (n + 1)
    placed_expression n (syntax.numeral span value) = placed (syntax.numeral (from_to n (n + 1)) n) (n + 1)
    placed_expression n (syntax.string span value) = placed (syntax.string (from_to n (n + 1)) n) (n + 1)
    placed_expression n (syntax.varargs span) = placed (syntax.varargs (from_to n (n + 1))) (n + 1)
    placed_expression n (syntax.variable span name) = placed (syntax.variable (from_to n (n + 1)) n) (n + 1)
    placed_expression n (syntax.parenthesised span inner) = placed (syntax.parenthesised (from_to n ((placed_expression (n + 1) inner).end + 1)) (placed_expression (n + 1) inner).part) ((placed_expression (n + 1) inner).end + 1)
    placed_expression n (syntax.function span body) = placed (syntax.function (from_to n (placed_body (n + 1) body).end) (placed_body (n + 1) body).part) (placed_body (n + 1) body).end
    placed_expression n (syntax.table span fields) = placed (syntax.table (from_to n ((placed_fields (n + 1) fields).end + 1)) (placed_fields (n + 1) fields).part) ((placed_fields (n + 1) fields).end + 1)
    placed_expression n (syntax.unary span sign operand) = placed (syntax.unary (from_to n (placed_expression (n + 1) operand).end) n (placed_expression (n + 1) operand).part) (placed_expression (n + 1) operand).end
    placed_expression n (syntax.chain span first rest) =
        placed (syntax.chain (from_to n (placed_operations (placed_expression n first).end rest).end) (placed_expression n first).part (placed_operations (placed_expression n first).end rest).part)
        (placed_operations (placed_expression n first).end rest).end
    placed_expression n (syntax.power span base sign exponent) =
        placed (syntax.power (from_to n (placed_expression ((placed_expression n base).end + 1) exponent).end) (placed_expression n base).part (placed_expression n base).end (placed_expression ((placed_expression n base).end + 1) exponent).part)
        (placed_expression ((placed_expression n base).end + 1) exponent).end
    placed_expression n (syntax.suffixed span head suffixes) =
        placed (syntax.suffixed (from_to n (placed_suffixes (placed_expression n head).end suffixes).end) (placed_expression n head).part (placed_suffixes (placed_expression n head).end suffixes).part)
        (placed_suffixes (placed_expression n head).end suffixes).end

    pub placed_for_step : ℕ → syntax.OptionalExpression (Bare X) → Placed tokens.OptionalExpression
    placed_for_step n syntax.no_expression = placed syntax.no_expression n
    placed_for_step n (syntax.an_expression e) = placed (syntax.an_expression (placed_expression (n + 1) e).part) (placed_expression (n + 1) e).end

    -- expressions, with one word behind each, of which the last is none of theirs
    pub placed_expressions : ℕ → syntax.Expressions (Bare X) → Placed tokens.Expressions
    placed_expressions n syntax.no_expressions = placed syntax.no_expressions (n - 1)
    placed_expressions n (syntax.more_expressions e rest) =
        placed (syntax.more_expressions (placed_expression n e).part (placed_expressions ((placed_expression n e).end + 1) rest).part) (placed_expressions ((placed_expression n e).end + 1) rest).end

    pub placed_operation : ℕ → syntax.Operation (Bare X) → Placed tokens.Operation
    placed_operation n (syntax.operation sign right) = placed (syntax.operation n (placed_expression (n + 1) right).part) (placed_expression (n + 1) right).end

    pub placed_operations : ℕ → syntax.Operations (Bare X) → Placed tokens.Operations
    placed_operations n syntax.no_operations = placed syntax.no_operations n
    placed_operations n (syntax.more_operations first rest) =
        placed (syntax.more_operations (placed_operation n first).part (placed_operations (placed_operation n first).end rest).part) (placed_operations (placed_operation n first).end rest).end

    pub placed_suffix : ℕ → syntax.Suffix (Bare X) → Placed tokens.Suffix
    placed_suffix n (syntax.name_suffix name) = placed (syntax.name_suffix (n + 1)) (n + 1 + 1)
    placed_suffix n (syntax.index_suffix index) = placed (syntax.index_suffix (placed_expression (n + 1) index).part) ((placed_expression (n + 1) index).end + 1)
    placed_suffix n (syntax.call_suffix args) = placed (syntax.call_suffix (placed_arguments n args).part) (placed_arguments n args).end
    placed_suffix n (syntax.method_suffix name args) = placed (syntax.method_suffix (n + 1) (placed_arguments (n + 1 + 1) args).part) (placed_arguments (n + 1 + 1) args).end

    pub placed_suffixes : ℕ → syntax.Suffixes (Bare X) → Placed tokens.Suffixes
    placed_suffixes n syntax.no_suffixes = placed syntax.no_suffixes n
    placed_suffixes n (syntax.more_suffixes first rest) =
        placed (syntax.more_suffixes (placed_suffix n first).part (placed_suffixes (placed_suffix n first).end rest).part) (placed_suffixes (placed_suffix n first).end rest).end

    pub placed_list : ℕ → syntax.Expressions (Bare X) → Placed tokens.Expressions
    placed_list n syntax.no_expressions = placed syntax.no_expressions n
    placed_list n (syntax.more_expressions e rest) =
        placed (syntax.more_expressions (placed_expression n e).part (placed_expressions ((placed_expression n e).end + 1) rest).part) (placed_expressions ((placed_expression n e).end + 1) rest).end

    pub placed_arguments : ℕ → syntax.Arguments (Bare X) → Placed tokens.Arguments
    placed_arguments n (syntax.arguments span parentheses items) = placed_enclosed (is_lone items) n (placed_list n items) (placed_list (n + 1) items)

    pub placed_field : ℕ → syntax.Field (Bare X) → Placed tokens.Field
    placed_field n (syntax.item_field value) = placed (syntax.item_field (placed_expression n value).part) (placed_expression n value).end
    placed_field n (syntax.named_field name value) = placed (syntax.named_field n (placed_expression (n + 1 + 1) value).part) (placed_expression (n + 1 + 1) value).end
    placed_field n (syntax.keyed_field key value) =
        placed (syntax.keyed_field (placed_expression (n + 1) key).part (placed_expression ((placed_expression (n + 1) key).end + 1 + 1) value).part) (placed_expression ((placed_expression (n + 1) key).end + 1 + 1) value).end

    pub placed_fields : ℕ → syntax.Fields (Bare X) → Placed tokens.Fields
    placed_fields n syntax.no_fields = placed syntax.no_fields n
    placed_fields n (syntax.more_fields first rest) =
        placed (syntax.more_fields (placed_field n first).part (placed_fields (placed_field n first).end rest).part) (placed_fields (placed_field n first).end rest).end

    pub placed_statement : ℕ → syntax.Statement (Bare X) → Placed tokens.Statement
    placed_statement n (syntax.empty_statement span) = placed (syntax.empty_statement (from_to n n)) n
    placed_statement n (syntax.local_statement span names values) =
        placed (syntax.local_statement (from_to n (placed_expressions ((placed_declared (n + 1) names).end + 1) values).end) (placed_declared (n + 1) names).part (placed_expressions ((placed_declared (n + 1) names).end + 1) values).part)
        (placed_expressions ((placed_declared (n + 1) names).end + 1) values).end
    placed_statement n (syntax.assignment span targets values) =
        placed (syntax.assignment (from_to n (placed_expressions ((placed_expressions n targets).end + 1) values).end) (placed_expressions n targets).part (placed_expressions ((placed_expressions n targets).end + 1) values).part)
        (placed_expressions ((placed_expressions n targets).end + 1) values).end
    placed_statement n (syntax.call_statement span call) = placed (syntax.call_statement (from_to n (placed_expression n call).end) (placed_expression n call).part) (placed_expression n call).end
    placed_statement n (syntax.do_statement span body) = placed (syntax.do_statement (from_to n ((placed_block (n + 1) body).end + 1)) (placed_block (n + 1) body).part) ((placed_block (n + 1) body).end + 1)
    placed_statement n (syntax.while_statement span test body) =
        placed (syntax.while_statement (from_to n ((placed_block ((placed_expression (n + 1) test).end + 1) body).end + 1)) (placed_expression (n + 1) test).part (placed_block ((placed_expression (n + 1) test).end + 1) body).part)
        ((placed_block ((placed_expression (n + 1) test).end + 1) body).end + 1)
    placed_statement n (syntax.repeat_statement span body test) =
        placed (syntax.repeat_statement (from_to n (placed_expression ((placed_block (n + 1) body).end + 1) test).end) (placed_block (n + 1) body).part (placed_expression ((placed_block (n + 1) body).end + 1) test).part)
        (placed_expression ((placed_block (n + 1) body).end + 1) test).end
    placed_statement n (syntax.if_statement span arms last) =
        placed (syntax.if_statement (from_to n ((placed_else (placed_arms (n + 1) arms).end last).end + 1)) (placed_arms (n + 1) arms).part (placed_else (placed_arms (n + 1) arms).end last).part)
        ((placed_else (placed_arms (n + 1) arms).end last).end + 1)
    placed_statement n (syntax.for_statement span name first limit step body) =
        placed_for n (placed_expression (n + 1 + 1 + 1) first) (placed_expression ((placed_expression (n + 1 + 1 + 1) first).end + 1) limit) (placed_for_step (placed_expression ((placed_expression (n + 1 + 1 + 1) first).end + 1) limit).end step)
        (placed_block ((placed_for_step (placed_expression ((placed_expression (n + 1 + 1 + 1) first).end + 1) limit).end step).end + 1) body)
    placed_statement n (syntax.for_in_statement span names values body) =
        placed_for_in n (placed_names (n + 1) names) (placed_expressions ((placed_names (n + 1) names).end + 1) values) (placed_block ((placed_expressions ((placed_names (n + 1) names).end + 1) values).end + 1) body)
    placed_statement n (syntax.function_statement span name fields method body) =
        placed_function n (placed_names (n + 1) (path_of name fields)) (placed_method (placed_names (n + 1) (path_of name fields)).end method) (placed_body (placed_method (placed_names (n + 1) (path_of name fields)).end method).end body)
    placed_statement n (syntax.local_function_statement span name body) =
        placed (syntax.local_function_statement (from_to n (placed_body (n + 1 + 1 + 1) body).end) (n + 1 + 1) (placed_body (n + 1 + 1 + 1) body).part) (placed_body (n + 1 + 1 + 1) body).end
    placed_statement n (syntax.label span name) = placed (syntax.label (from_to n (n + 1 + 1 + 1)) (n + 1)) (n + 1 + 1 + 1)
    placed_statement n (syntax.goto_statement span name) = placed (syntax.goto_statement (from_to n (n + 1 + 1)) (n + 1)) (n + 1 + 1)
    placed_statement n (syntax.break_statement span) = placed (syntax.break_statement (from_to n (n + 1))) (n + 1)
    placed_statement n (syntax.return_statement span values) = placed (syntax.return_statement (from_to n (placed_list (n + 1) values).end) (placed_list (n + 1) values).part) (placed_list (n + 1) values).end

    pub placed_statements : ℕ → syntax.Statements (Bare X) → Placed tokens.Statements
    placed_statements n syntax.no_statements = placed syntax.no_statements n
    placed_statements n (syntax.more_statements first rest) =
        placed (syntax.more_statements (placed_statement n first).part (placed_statements (placed_statement n first).end rest).part) (placed_statements (placed_statement n first).end rest).end

    pub placed_arm : ℕ → syntax.Arm (Bare X) → Placed tokens.Arm
    placed_arm n (syntax.arm test body) =
        placed (syntax.arm (placed_expression n test).part (placed_block ((placed_expression n test).end + 1) body).part) (placed_block ((placed_expression n test).end + 1) body).end

    -- arms, with one word behind each, of which the last is none of theirs
    pub placed_arms : ℕ → syntax.Arms (Bare X) → Placed tokens.Arms
    placed_arms n syntax.no_arms = placed syntax.no_arms (n - 1)
    placed_arms n (syntax.more_arms first rest) =
        placed (syntax.more_arms (placed_arm n first).part (placed_arms ((placed_arm n first).end + 1) rest).part) (placed_arms ((placed_arm n first).end + 1) rest).end

    pub placed_block : ℕ → syntax.Block (Bare X) → Placed tokens.Block
    placed_block n (syntax.block span statements) = placed (syntax.block (from_to n (placed_statements n statements).end) (placed_statements n statements).part) (placed_statements n statements).end

    pub placed_else : ℕ → syntax.OptionalBlock (Bare X) → Placed tokens.OptionalBlock
    placed_else n syntax.no_block = placed syntax.no_block n
    placed_else n (syntax.a_block body) = placed (syntax.a_block (placed_block (n + 1) body).part) (placed_block (n + 1) body).end

    pub placed_body : ℕ → syntax.FunctionBody (Bare X) → Placed tokens.FunctionBody
    placed_body n (syntax.function_body span parameters vararg body) = placed_function_body n vararg (placed_parameters (n + 1) parameters vararg) (placed_block ((placed_parameters (n + 1) parameters vararg).end + 1) body)
