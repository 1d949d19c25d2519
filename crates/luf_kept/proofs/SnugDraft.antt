-- The words and gaps of each draft follow each other: by recursion over the syntax, one line for each construct.
use Rattle.std.proofs.Common.{Bool, List, [], refl}
use Rattle.luf_tree.specs.Syntax as syntax
use Rattle.luf_draft.specs.Draft.{Draft, drafts}
use Rattle.luf_draft.specs.Form.{Words, with_dots, items_of, expression, expressions, more_expressions, broken_expressions, more_broken, operations, suffix, suffixes_of, arguments, field, more_fields, function_body, assigned, statement, for_step, arm, arms, more_arms, otherwise, statements, body, main}
use Rattle.luf_kept.specs.inner.Steps.{begun, free, trailed, Steps}
use Rattle.luf_kept.proofs.SnugRuns.{Goal, at_word, exactly, Runs, Follows, Whole, Leads, Starts, Encloses, stops, stops_at, gap, text, part, comma_next, trails, whole_word, whole, whole_group, nested, braced, begins, begins_alone}
use Rattle.luf_kept.proofs.SnugDrafted.{IsDraftedExpression, IsDraftedStep, AreDraftedExpressions, SomeDraftedExpressions, AreDraftedOperations, IsDraftedSuffix, AreDraftedSuffixes, AreDraftedArguments, IsDraftedField, AreDraftedFields, IsDraftedStatement, AreDraftedStatements, IsDraftedArm, AreDraftedArms, SomeDraftedArms, IsDraftedElse, IsDraftedFunction, IsDrafted}
use Rattle.luf_kept.proofs.SnugLists.{starts_words, starts_parameters, starts_declared, starts_path, leads_method, follows_sign, starts_guarded, leads_arguments_as}

module _ (string_has table_has : Bool → Bool) where
  mutual
    whole_expression : (e : syntax.Expression Words) → IsDraftedExpression e → Whole (expression string_has table_has e)
    whole_expression (syntax.nil_value _) is = whole_word _
    whole_expression (syntax.true_value _) is = whole_word _
    whole_expression (syntax.false_value _) is = whole_word _
    whole_expression (syntax.numeral _ value) is = whole_word _
    whole_expression (syntax.string _ value) is = whole_word _
    whole_expression (syntax.varargs _) is = whole_word _
    whole_expression (syntax.variable _ name) is = whole_word _
    whole_expression (syntax.parenthesised _ inner) is = whole (text (gap refl (part (whole_expression inner is) (gap refl (text stops)))))
    whole_expression (syntax.function _ inner) is = whole (text (follows_function inner is))
    whole_expression (syntax.table _ syntax.no_fields) is = whole (text (gap refl (text stops)))
    whole_expression (syntax.table _ (syntax.more_fields first rest)) is = braced (starts_field first is.0 _ _ (follows_more_fields rest is.1))
    whole_expression (syntax.unary _ sign operand) is = whole (text (follows_sign _ (part (whole_expression operand is) stops)))
    whole_expression (syntax.chain _ first rest) is = whole_group (whole (part (whole_expression first is.0) (nested (follows_operations rest is.1) stops)))
    whole_expression (syntax.power _ base sign exponent) is = whole (part (whole_expression base is.0) (gap refl (text (gap refl (part (whole_expression exponent is.1) stops)))))
    whole_expression (syntax.suffixed _ head suffixes) is = whole (part (whole_expression head is.0) (follows_suffixes suffixes is.1))

    starts_expressions : (es : syntax.Expressions Words) → SomeDraftedExpressions es → Starts (expressions string_has table_has es)
    starts_expressions syntax.no_expressions are more goal rest = absurd are
    starts_expressions (syntax.more_expressions e es) are more goal rest = part (whole_expression e are.0) (leads_more es are.1 more goal rest)

    leads_more : (es : syntax.Expressions Words) → AreDraftedExpressions es → Leads (more_expressions string_has table_has es)
    leads_more syntax.no_expressions are more goal rest = rest
    leads_more (syntax.more_expressions e es) are more goal rest = gap refl (text (gap refl (part (whole_expression e are.0) (leads_more es are.1 more goal rest))))

    starts_broken : (es : syntax.Expressions Words) → SomeDraftedExpressions es → Starts (broken_expressions string_has table_has es)
    starts_broken syntax.no_expressions are more goal rest = absurd are
    starts_broken (syntax.more_expressions e es) are more goal rest = part (whole_expression e are.0) (leads_more_broken es are.1 more goal rest)

    leads_more_broken : (es : syntax.Expressions Words) → AreDraftedExpressions es → Leads (more_broken string_has table_has es)
    leads_more_broken syntax.no_expressions are more goal rest = rest
    leads_more_broken (syntax.more_expressions e es) are more goal rest = gap refl (text (gap refl (part (whole_expression e are.0) (leads_more_broken es are.1 more goal rest))))

    follows_operations : (os : syntax.Operations Words) → AreDraftedOperations os → Follows (drafts (operations string_has table_has os)) at_word
    follows_operations syntax.no_operations are = stops
    follows_operations (syntax.more_operations (syntax.operation sign right) os) are = gap refl (text (gap refl (part (whole_expression right are.0) (follows_operations os are.1))))

    leads_suffix : (s : syntax.Suffix Words) → IsDraftedSuffix s → Leads (suffix string_has table_has s)
    leads_suffix (syntax.name_suffix name) is more goal rest = gap refl (text (gap refl (text rest)))
    leads_suffix (syntax.index_suffix index) is more goal rest = gap refl (text (gap refl (part (whole_expression index is) (gap refl (text rest)))))
    leads_suffix (syntax.call_suffix args) is more goal rest = leads_arguments args is more goal rest
    leads_suffix (syntax.method_suffix name args) is more goal rest = gap refl (text (gap refl (text (leads_arguments args is more goal rest))))

    follows_suffixes : (ss : syntax.Suffixes Words) → AreDraftedSuffixes ss → Follows (drafts (suffixes_of string_has table_has ss)) at_word
    follows_suffixes syntax.no_suffixes are = stops
    follows_suffixes (syntax.more_suffixes s ss) are = leads_suffix s are.0 _ _ (follows_suffixes ss are.1)

    leads_arguments : (args : syntax.Arguments Words) → AreDraftedArguments args → Leads (arguments string_has table_has args)
    leads_arguments (syntax.arguments _ had syntax.no_expressions) are more goal rest = gap refl (text (gap refl (text rest)))
    leads_arguments (syntax.arguments _ had (syntax.more_expressions e es)) are more goal rest =
        leads_arguments_as string_has table_has (items_of (syntax.more_expressions e es)) had
        (λ ds. expressions string_has table_has (syntax.more_expressions e es) ds) (λ ds. broken_expressions string_has table_has (syntax.more_expressions e es) ds)
        (λ ds to next. part (whole_expression e are.0) (leads_more es are.1 ds to next))
        (λ ds to next. part (whole_expression e are.0) (leads_more_broken es are.1 ds to next)) more goal rest

    starts_field : (f : syntax.Field Words) → IsDraftedField f → Starts (field string_has table_has f)
    starts_field (syntax.item_field value) is more goal rest = part (whole_expression value is) rest
    starts_field (syntax.named_field name value) is more goal rest = text (gap refl (text (gap refl (part (whole_expression value is) rest))))
    starts_field (syntax.keyed_field key value) is more goal rest =
        text (gap refl (part (whole_expression key is.0) (gap refl (text (gap refl (text (gap refl (part (whole_expression value is.1) rest))))))))

    follows_more_fields : (fs : syntax.Fields Words) → AreDraftedFields fs → Follows (drafts (more_fields string_has table_has fs)) (exactly trailed)
    follows_more_fields syntax.no_fields are = trails
    follows_more_fields (syntax.more_fields f fs) are = comma_next (gap refl (starts_field f are.0 _ _ (follows_more_fields fs are.1)))

    follows_function : (f : syntax.FunctionBody Words) → IsDraftedFunction f → Follows (drafts (function_body string_has table_has f)) at_word
    follows_function (syntax.function_body _ names vararg inner) is = gap refl (starts_parameters (with_dots vararg names) _ _ (encloses_body inner is _ _ (text stops)))

    follows_values : (es : syntax.Expressions Words) → AreDraftedExpressions es → Follows (drafts (assigned string_has table_has es)) at_word
    follows_values syntax.no_expressions are = stops
    follows_values (syntax.more_expressions e es) are = gap refl (text (gap refl (part (whole_expression e are.0) (leads_more es are.1 [] at_word stops))))

    whole_statement : (s : syntax.Statement Words) → IsDraftedStatement s → Whole (statement string_has table_has s)
    whole_statement (syntax.empty_statement _) is = absurd is
    whole_statement (syntax.local_statement _ names values) is = whole (text (gap refl (starts_declared names is.0 _ _ (follows_values values is.1))))
    whole_statement (syntax.assignment _ targets values) is = whole (starts_expressions targets is.0 _ _ (follows_values values is.1))
    whole_statement (syntax.call_statement _ call) is = whole_expression call is
    whole_statement (syntax.do_statement _ inner) is = whole (text (encloses_body inner is _ _ (text stops)))
    whole_statement (syntax.while_statement _ test inner) is =
        whole (text (gap refl (part (whole_expression test is.0) (gap refl (text (encloses_body inner is.1 _ _ (text stops)))))))
    whole_statement (syntax.repeat_statement _ inner test) is = whole (text (encloses_body inner is.0 _ _ (text (gap refl (part (whole_expression test is.1) stops)))))
    whole_statement (syntax.if_statement _ parts last) is = whole (text (encloses_arms parts is.0 _ _ (runs_otherwise last is.1)))
    whole_statement (syntax.for_statement _ name first limit step inner) is =
        whole (text (gap refl (text (gap refl (text (gap refl (part (whole_expression first is.0) (gap refl (text (gap refl (part (whole_expression limit is.1) (leads_step step is.2 _ _ (gap refl (text (encloses_body inner is.3 _ _ (text stops))))))))))))))))
    whole_statement (syntax.for_in_statement _ names values inner) is =
        whole (text (gap refl (starts_words names is.0 _ _ (gap refl (text (gap refl (starts_expressions values is.1 _ _ (gap refl (text (encloses_body inner is.2 _ _ (text stops)))))))))))
    whole_statement (syntax.function_statement _ name fields named inner) is =
        whole (text (gap refl (starts_path name fields is.0 _ _ (leads_method named _ _ (follows_function inner is.1)))))
    whole_statement (syntax.local_function_statement _ name inner) is = whole (text (gap refl (text (gap refl (text (follows_function inner is))))))
    whole_statement (syntax.label _ name) is = whole (text (gap refl (text (gap refl (text stops)))))
    whole_statement (syntax.goto_statement _ name) is = whole (text (gap refl (text stops)))
    whole_statement (syntax.break_statement _) is = whole_word _
    whole_statement (syntax.return_statement _ syntax.no_expressions) is = whole_word _
    whole_statement (syntax.return_statement _ (syntax.more_expressions e es)) is = whole (text (gap refl (part (whole_expression e is.0) (leads_more es is.1 [] at_word stops))))

    leads_step : (step : syntax.OptionalExpression Words) → IsDraftedStep step → Leads (for_step string_has table_has step)
    leads_step syntax.no_expression is more goal rest = rest
    leads_step (syntax.an_expression e) is more goal rest = gap refl (text (gap refl (part (whole_expression e is) rest)))

    encloses_arm : (a : syntax.Arm Words) → IsDraftedArm a → Encloses (arm string_has table_has a)
    encloses_arm (syntax.arm test inner) is more goal rest = gap refl (part (whole_expression test is.0) (gap refl (text (encloses_body inner is.1 more goal rest))))

    encloses_arms : (parts : syntax.Arms Words) → SomeDraftedArms parts → Encloses (arms string_has table_has parts)
    encloses_arms syntax.no_arms are more goal rest = absurd are
    encloses_arms (syntax.more_arms a parts) are more goal rest = encloses_arm a are.0 _ goal (runs_more_arms parts are.1 more goal rest)

    runs_more_arms : (parts : syntax.Arms Words) → AreDraftedArms parts → (more : List Draft) (goal : Goal) → Runs (drafts more) free goal → Runs (drafts (more_arms string_has table_has parts more)) free goal
    runs_more_arms syntax.no_arms are more goal rest = rest
    runs_more_arms (syntax.more_arms a parts) are more goal rest = text (encloses_arm a are.0 _ goal (runs_more_arms parts are.1 more goal rest))

    runs_otherwise : (last : syntax.OptionalBlock Words) → IsDraftedElse last → Runs (drafts (otherwise string_has table_has last)) free at_word
    runs_otherwise syntax.no_block is = text stops
    runs_otherwise (syntax.a_block inner) is = text (encloses_body inner is _ _ (text stops))

    leads_statements : (ss : syntax.Statements Words) → AreDraftedStatements ss → Leads (statements string_has table_has ss)
    leads_statements syntax.no_statements are more goal rest = rest
    leads_statements (syntax.more_statements s ss) are more goal rest = gap refl (starts_guarded _ (whole_statement s are.0) _ goal (leads_statements ss are.1 more goal rest))

    encloses_body : (b : syntax.Block Words) → IsDrafted b → Encloses (body string_has table_has b)
    encloses_body (syntax.block _ syntax.no_statements) is more goal rest = gap refl rest
    encloses_body (syntax.block _ (syntax.more_statements s ss)) is more goal rest =
        nested (gap refl (part (whole_statement s is.0) (leads_statements ss is.1 [] at_word stops))) (gap refl rest)

  pub draft_steps : (b : syntax.Block Words) → IsDrafted b → Steps (main string_has table_has b) begun free
  draft_steps (syntax.block _ syntax.no_statements) is = begins_alone refl
  draft_steps (syntax.block _ (syntax.more_statements s ss)) is = begins refl (part (whole_statement s is.0) (leads_statements ss is.1 _ _ (gap refl stops_at)))
