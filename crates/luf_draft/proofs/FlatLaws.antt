-- The marks of a chunk are its draft written flat: by recursion over the syntax, one line for each construct.
use Rattle.std.proofs.Common.{◌≡◌, ℕ, Bool, true, false, List, [], ◌∷◌, map, codes, get_or}
use Rattle.luf_lex.specs.declared.token.Tok.{Tok}
use Rattle.luf_tree.specs.Syntax as syntax
use Rattle.luf_tree.specs.TokenSyntax as tokens
use Rattle.luf_bare.specs.Bare.{words_of, as_here, chosen_expression, chosen_optional_expression, chosen_expressions, chosen_operations, chosen_suffix, chosen_suffixes, chosen_arguments, chosen_field, chosen_fields, chosen_statement, chosen_statements, chosen_arm, chosen_arms, chosen_block, chosen_optional_block, chosen_function_body}
use Rattle.luf_draft.specs.Draft.{word, drafts}
use Rattle.luf_draft.specs.Flat.{Flat, flat, flat_trail, shown, AreAlike, token_at, is_not}
use Rattle.luf_draft.specs.Form.{items_of, expression, expressions, more_expressions, broken_expressions, more_broken, operations, suffix, suffixes_of, arguments, field, more_fields, function_body, assigned, for_step, arm, arms, more_arms, otherwise, statements, body, main}
use Rattle.luf_draft.specs.inner.Marks.{is_empty, are_empty, marks_in_expression, marks_in_expressions, marks_in_more, marks_in_operations, marks_in_suffix, marks_in_suffixes, marks_in_arguments, marks_in_field, marks_in_more_fields, marks_in_function, marks_in_values, marks_in_statement, marks_in_step, marks_in_arm, marks_in_arms, marks_in_more_arms, marks_in_else, marks_in_statements, marks_in_body, marks_in_main}
use Rattle.luf_draft.specs.declared.mark.GapKind.TheVariants as kind
use Rattle.luf_draft.proofs.FlatShows.{all_onto, Shows, none, one, joins, Stands, Leads, stands_alone}
use Rattle.luf_draft.proofs.FlatLists.{says, shows_names, shows_parameters, shows_declared, shows_path, shows_method}
use Rattle.luf_draft.proofs.FlatItems.{same_items, same_empty, shows_behind, shows_items, ShowsIf, starting, shows_later, shows_first, shows_inner, shows_source}

module _ (toks : List Tok) (string_has table_has : Bool → Bool) (written : List (List ℕ)) (alike : AreAlike toks written) where
  mutual
    shows_expression : (s : tokens.Expression) → Stands written (marks_in_expression toks string_has table_has s) (expression string_has table_has (chosen_expression (words_of (says written)) as_here s))
    shows_expression (syntax.nil_value span) t = one none
    shows_expression (syntax.true_value span) t = one none
    shows_expression (syntax.false_value span) t = one none
    shows_expression (syntax.numeral span value) t = one none
    shows_expression (syntax.string span value) t = one none
    shows_expression (syntax.varargs span) t = one none
    shows_expression (syntax.variable span name) t = one none
    shows_expression (syntax.parenthesised span inner) t = one (one (one (joins (shows_expression inner _) (one (one (one none))))))
    shows_expression (syntax.function span inner) t = one (one (joins (shows_function inner _) (one none)))
    shows_expression (syntax.table span syntax.no_fields) t = one (one (one (one (one none))))
    shows_expression (syntax.table span (syntax.more_fields first rest)) t =
        one (one (one (one (one (one (joins (joins (shows_field first _ _) (shows_more_fields rest _)) (one (one (one (one (one (one (one none)))))))))))))
    shows_expression (syntax.unary span sign operand) t =
        one (one (shows_behind _ (is_not (token_at toks sign)) (alike.same_not sign) (joins (shows_expression operand _) (one none))))
    shows_expression (syntax.chain span first rest) t =
        one (one (joins (shows_expression first _) (one (one (joins (shows_operations rest _) (one (one (one (one none)))))))))
    shows_expression (syntax.power span base sign exponent) t =
        one (joins (shows_expression base _) (one (one (one (joins (shows_expression exponent _) (one none))))))
    shows_expression (syntax.suffixed span head suffixes) t = one (joins (shows_expression head _) (joins (shows_suffixes suffixes _) (one none)))

    shows_expressions : (s : tokens.Expressions) → Leads written (marks_in_expressions toks string_has table_has kind.Space s) (expressions string_has table_has (chosen_expressions (words_of (says written)) as_here s))
    shows_expressions syntax.no_expressions more t = none
    shows_expressions (syntax.more_expressions e rest) more t = joins (shows_expression e _) (shows_more rest more t)

    shows_more : (s : tokens.Expressions) → Leads written (marks_in_more toks string_has table_has kind.Space s) (more_expressions string_has table_has (chosen_expressions (words_of (says written)) as_here s))
    shows_more syntax.no_expressions more t = none
    shows_more (syntax.more_expressions e rest) more t = one (one (one (joins (shows_expression e _) (shows_more rest more t))))

    shows_broken : (s : tokens.Expressions) → Leads written (marks_in_expressions toks string_has table_has kind.Line s) (broken_expressions string_has table_has (chosen_expressions (words_of (says written)) as_here s))
    shows_broken syntax.no_expressions more t = none
    shows_broken (syntax.more_expressions e rest) more t = joins (shows_expression e _) (shows_more_broken rest more t)

    shows_more_broken : (s : tokens.Expressions) → Leads written (marks_in_more toks string_has table_has kind.Line s) (more_broken string_has table_has (chosen_expressions (words_of (says written)) as_here s))
    shows_more_broken syntax.no_expressions more t = none
    shows_more_broken (syntax.more_expressions e rest) more t = one (one (one (joins (shows_expression e _) (shows_more_broken rest more t))))

    shows_operations : (s : tokens.Operations) (t : List Flat)
        → Shows written (marks_in_operations toks string_has table_has s) t (all_onto (drafts (operations string_has table_has (chosen_operations (words_of (says written)) as_here s))) t)
    shows_operations syntax.no_operations t = none
    shows_operations (syntax.more_operations (syntax.operation sign right) rest) t = one (one (one (joins (shows_expression right _) (shows_operations rest t))))

    shows_suffix : (s : tokens.Suffix) → Leads written (marks_in_suffix toks string_has table_has s) (suffix string_has table_has (chosen_suffix (words_of (says written)) as_here s))
    shows_suffix (syntax.name_suffix name) more t = one (one (one (one none)))
    shows_suffix (syntax.index_suffix index) more t = one (one (one (joins (shows_expression index _) (one (one none)))))
    shows_suffix (syntax.call_suffix args) more t = shows_arguments args more t
    shows_suffix (syntax.method_suffix name args) more t = one (one (one (one (shows_arguments args more t))))

    shows_suffixes : (s : tokens.Suffixes) (t : List Flat)
        → Shows written (marks_in_suffixes toks string_has table_has s) t (all_onto (drafts (suffixes_of string_has table_has (chosen_suffixes (words_of (says written)) as_here s))) t)
    shows_suffixes syntax.no_suffixes t = none
    shows_suffixes (syntax.more_suffixes first rest) t = joins (shows_suffix first _ _) (shows_suffixes rest t)

    shows_arguments : (s : tokens.Arguments) → Leads written (marks_in_arguments toks string_has table_has s) (arguments string_has table_has (chosen_arguments (words_of (says written)) as_here s))
    shows_arguments (syntax.arguments span had items) =
        shows_items toks string_has table_has written (items_of items) (items_of (chosen_expressions (words_of (says written)) as_here items)) (same_items written items) had
        (marks_in_expressions toks string_has table_has kind.Space items) (marks_in_expressions toks string_has table_has kind.Line items)
        (λ ds. expressions string_has table_has (chosen_expressions (words_of (says written)) as_here items) ds)
        (λ ds. broken_expressions string_has table_has (chosen_expressions (words_of (says written)) as_here items) ds)
        (shows_expressions items) (shows_broken items)

    shows_field : (s : tokens.Field) → Leads written (marks_in_field toks string_has table_has s) (field string_has table_has (chosen_field (words_of (says written)) as_here s))
    shows_field (syntax.item_field value) more t = shows_expression value _
    shows_field (syntax.named_field name value) more t = one (one (one (one (shows_expression value _))))
    shows_field (syntax.keyed_field key value) more t =
        one (one (joins (joins (shows_expression key _) (one (one none))) (one (one (one (shows_expression value _))))))

    -- with what stands behind the last field where the table is broken
    shows_more_fields : (s : tokens.Fields) (t : List Flat)
        → Shows written (marks_in_more_fields toks string_has table_has s) (flat_trail ∷ t) (all_onto (drafts (more_fields string_has table_has (chosen_fields (words_of (says written)) as_here s))) t)
    shows_more_fields syntax.no_fields t = none
    shows_more_fields (syntax.more_fields first rest) t = one (one (joins (shows_field first _ _) (shows_more_fields rest t)))

    shows_function : (s : tokens.FunctionBody) (t : List Flat)
        → Shows written (marks_in_function toks string_has table_has s) t (all_onto (drafts (function_body string_has table_has (chosen_function_body (words_of (says written)) as_here s))) t)
    shows_function (syntax.function_body span names vararg inner) t =
        one (joins (shows_parameters written names vararg _ _) (joins (shows_body inner (word (codes "end") ∷ []) t) (one none)))

    shows_values : (s : tokens.Expressions) (t : List Flat)
        → Shows written (marks_in_values toks string_has table_has s) t (all_onto (drafts (assigned string_has table_has (chosen_expressions (words_of (says written)) as_here s))) t)
    shows_values syntax.no_expressions t = none
    shows_values (syntax.more_expressions e rest) t = one (one (one (joins (shows_expression e _) (shows_more rest [] t))))

    shows_statement : (s : tokens.Statement) → ShowsIf toks string_has table_has written (is_empty s) (marks_in_statement toks string_has table_has s) (chosen_statement (words_of (says written)) as_here s)
    shows_statement (syntax.empty_statement span) = tt
    shows_statement (syntax.local_statement span names values) = λ t. one (one (one (joins (shows_declared written names _ _) (joins (shows_values values _) (one none)))))
    shows_statement (syntax.assignment span targets values) = λ t. one (joins (shows_expressions targets _ _) (joins (shows_values values _) (one none)))
    shows_statement (syntax.call_statement span call) = shows_expression call
    shows_statement (syntax.do_statement span inner) = λ t. one (one (joins (shows_body inner (word (codes "end") ∷ []) _) (one (one none))))
    shows_statement (syntax.while_statement span test inner) = λ t. one (one (one (joins (shows_expression test _) (one (one (joins (shows_body inner (word (codes "end") ∷ []) _) (one (one none))))))))
    shows_statement (syntax.repeat_statement span inner test) = λ t. one (one (joins (shows_body inner _ _) (one (one (joins (shows_expression test _) (one none))))))
    shows_statement (syntax.if_statement span parts last) = λ t. one (one (joins (shows_arms parts _ _) (joins (shows_else last _) (one none))))
    shows_statement (syntax.for_statement span name first limit step inner) =
        λ t. one (one (one (one (one (one (one (joins (shows_expression first _) (one (one (one (joins (shows_expression limit _) (joins (shows_step step _ _) (one (one (joins (shows_body inner (word (codes "end") ∷ []) _) (one (one none)))))))))))))))))
    shows_statement (syntax.for_in_statement span names values inner) =
        λ t. one (one (one (joins (shows_names written names _ _) (one (one (one (joins (shows_expressions values _ _) (one (one (joins (shows_body inner (word (codes "end") ∷ []) _) (one (one none))))))))))))
    shows_statement (syntax.function_statement span name fields method inner) =
        λ t. one (one (one (joins (shows_path written name fields _ _) (joins (shows_method written method _ _) (joins (shows_function inner _) (one none))))))
    shows_statement (syntax.local_function_statement span name inner) = λ t. one (one (one (one (one (one (joins (shows_function inner _) (one none)))))))
    shows_statement (syntax.label span name) = λ t. one (one (one (one (one (one (one none))))))
    shows_statement (syntax.goto_statement span name) = λ t. one (one (one (one (one none))))
    shows_statement (syntax.break_statement span) = λ t. one none
    shows_statement (syntax.return_statement span syntax.no_expressions) = λ t. one none
    shows_statement (syntax.return_statement span (syntax.more_expressions e rest)) = λ t. one (one (one (joins (joins (shows_expression e _) (shows_more rest [] _)) (one none))))

    shows_step : (s : tokens.OptionalExpression) → Leads written (marks_in_step toks string_has table_has s) (for_step string_has table_has (chosen_optional_expression (words_of (says written)) as_here s))
    shows_step syntax.no_expression more t = none
    shows_step (syntax.an_expression e) more t = one (one (one (shows_expression e _)))

    shows_arm : (s : tokens.Arm) → Leads written (marks_in_arm toks string_has table_has s) (arm string_has table_has (chosen_arm (words_of (says written)) as_here s))
    shows_arm (syntax.arm test inner) more t = one (joins (shows_expression test _) (one (one (shows_body inner more t))))

    shows_arms : (s : tokens.Arms) → Leads written (marks_in_arms toks string_has table_has s) (arms string_has table_has (chosen_arms (words_of (says written)) as_here s))
    shows_arms syntax.no_arms more t = none
    shows_arms (syntax.more_arms first rest) more t = joins (shows_arm first _ _) (shows_more_arms rest more t)

    shows_more_arms : (s : tokens.Arms) → Leads written (marks_in_more_arms toks string_has table_has s) (more_arms string_has table_has (chosen_arms (words_of (says written)) as_here s))
    shows_more_arms syntax.no_arms more t = none
    shows_more_arms (syntax.more_arms first rest) more t = one (joins (shows_arm first _ _) (shows_more_arms rest more t))

    shows_else : (s : tokens.OptionalBlock) (t : List Flat)
        → Shows written (marks_in_else toks string_has table_has s) t (all_onto (drafts (otherwise string_has table_has (chosen_optional_block (words_of (says written)) as_here s))) t)
    shows_else syntax.no_block t = one none
    shows_else (syntax.a_block inner) t = one (joins (shows_body inner (word (codes "end") ∷ []) t) (one none))

    -- the statements behind others
    shows_statements : (s : tokens.Statements) → Leads written (marks_in_statements toks string_has table_has true s) (statements string_has table_has (chosen_statements (words_of (says written)) as_here s))
    shows_statements syntax.no_statements = λ more t. none
    shows_statements (syntax.more_statements s rest) =
        shows_later toks string_has table_has written alike (is_empty s) (marks_in_statement toks string_has table_has s) (chosen_statement (words_of (says written)) as_here s) (shows_statement s)
        (marks_in_statements toks string_has table_has true rest) (chosen_statements (words_of (says written)) as_here rest) (shows_statements rest)

    -- the statements of a block
    shows_starting : (s : tokens.Statements) → Leads written (marks_in_statements toks string_has table_has false s) (starting toks string_has table_has written (chosen_statements (words_of (says written)) as_here s))
    shows_starting syntax.no_statements = λ more t. none
    shows_starting (syntax.more_statements s rest) =
        shows_first toks string_has table_has written (is_empty s) (marks_in_statement toks string_has table_has s) (chosen_statement (words_of (says written)) as_here s) (shows_statement s)
        (marks_in_statements toks string_has table_has false rest) (marks_in_statements toks string_has table_has true rest) (chosen_statements (words_of (says written)) as_here rest)
        (shows_starting rest) (shows_statements rest)

    shows_body : (s : tokens.Block) → Leads written (marks_in_body toks string_has table_has s) (body string_has table_has (chosen_block (words_of (says written)) as_here s))
    shows_body (syntax.block span inner) =
        shows_inner toks string_has table_has written (are_empty inner) (chosen_statements (words_of (says written)) as_here inner) (same_empty written inner)
        (marks_in_statements toks string_has table_has false inner) (shows_starting inner)

  shows_main : (s : tokens.Block) → Stands written (marks_in_main toks string_has table_has s) (main string_has table_has (chosen_block (words_of (says written)) as_here s))
  shows_main (syntax.block span inner) =
      shows_source toks string_has table_has written (are_empty inner) (chosen_statements (words_of (says written)) as_here inner) (same_empty written inner)
      (marks_in_statements toks string_has table_has false inner) (shows_starting inner)

pub marks_are_flat : (toks : List Tok) (string_has table_has : Bool → Bool) (written : List (List ℕ)) → AreAlike toks written → (chunk : tokens.Block)
    → map (shown written) (marks_in_main toks string_has table_has chunk) ≡ flat (main string_has table_has (chosen_block (words_of (λ n. get_or written n [])) as_here chunk))
marks_are_flat toks string_has table_has written alike chunk =
    stands_alone written (marks_in_main toks string_has table_has chunk) (main string_has table_has (chosen_block (words_of (says written)) as_here chunk))
    (shows_main toks string_has table_has written alike chunk)
