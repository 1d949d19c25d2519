-- What holds of each word of a program, and of what is put and added, holds of each word that is written.
use Rattle.std.proofs.Common.{ℕ, Bool, true, false, Option, Some, None, List, [], ◌∷◌, ◌++◌, map, length, get_or, zero, suc, ◌<◌, arith}
use Rattle.std.specs.Option.{option_map}
use Rattle.luf_lex.specs.declared.token.Tok.{Tok}
use Rattle.luf_lex.specs.declared.token.Tok.TheVariants.{Word, Sign}
use Rattle.luf_lex.specs.declared.token.Word.TheVariants as word
use Rattle.luf_lex.specs.declared.token.Sign.{Sign as Mark}
use Rattle.luf_lex.specs.declared.token.Sign.TheVariants as sign
use Rattle.luf_tree.specs.Syntax as syntax
use Rattle.luf_tree.specs.TokenSyntax as tokens
use Rattle.luf_bare.specs.Lone.{is_lone}
use Rattle.luf_bare.specs.Bare.{Worded, words_at, before, chosen_declared, chosen_expression, chosen_optional_expression, chosen_expressions, chosen_operation, chosen_operations, chosen_suffix, chosen_suffixes, chosen_arguments, chosen_field, chosen_fields, chosen_statement, chosen_statements, chosen_arm, chosen_arms, chosen_block, chosen_optional_block, chosen_function_body}
use Rattle.luf_bare.specs.Writing.{opens, guarded, guarded_if, separated, after_guard, enclosed, written_more_names, written_names, written_parameters, written_attribute, written_declared, written_fields_of_path, written_path, written_method, written_expression, written_for_step, written_more_expressions, written_expressions, written_operation, written_operations, written_suffix, written_suffixes, written_arguments, written_field, written_more_fields, written_fields, written_statement, written_statements, written_arm, written_more_arms, written_arms, written_block, written_else, written_body}

pub data Each {X : Type 0} (Fits : X → Type 0) : List X → Type 0 where
  all_none : Each Fits []
  all_more : {x : X} {xs : List X} → Fits x → Each Fits xs → Each Fits (x ∷ xs)

each_append : {X : Type 0} {Fits : X → Type 0} {xs ys : List X} → Each Fits xs → Each Fits ys → Each Fits (xs ++ ys)
each_append all_none more = more
each_append (all_more fits all) more = all_more fits (each_append all more)

-- what holds of each holds of the one at a place
pub each_at : {X : Type 0} {Fits : X → Type 0} {xs : List X} → Each Fits xs → (other : X) (i : ℕ) → i < length xs → Fits (get_or xs i other)
each_at all_none other i within = absurd (omega (arith, within))
each_at (all_more fits all) other zero within = fits
each_at (all_more fits all) other (suc i) within = each_at all other i (omega (arith, within))

module _ {X : Type 0} (kind : X → Tok) (put : Tok → X) (add : Tok → List X) (trails : tokens.Span → Bool) (encloses : tokens.Expressions → Bool → Bool) (says : ℕ → X) (Fits : X → Type 0) (puts : (t : Tok) → Fits (put t)) (additions : (s : Mark) → Each Fits (add (Sign s))) (fits : (i : ℕ) → Fits (says i)) where
  each_more_names : (names : List ℕ) → Each Fits (written_more_names kind put add trails (map says names))
  each_more_names [] = all_none
  each_more_names (name ∷ names) = all_more (puts (Sign sign.Comma)) (all_more (fits _) (each_more_names names))

  each_names : (names : List ℕ) → Each Fits (written_names kind put add trails (map says names))
  each_names [] = all_none
  each_names (name ∷ names) = all_more (fits _) (each_more_names names)

  each_parameters : (names : List ℕ) (vararg : Bool) → Each Fits (written_parameters kind put add trails (map says names) vararg)
  each_parameters [] false = all_none
  each_parameters [] true = all_more (puts (Sign sign.Dots)) all_none
  each_parameters (name ∷ names) false = each_names (name ∷ names)
  each_parameters (name ∷ names) true = each_append (each_names (name ∷ names)) (all_more (puts (Sign sign.Comma)) (all_more (puts (Sign sign.Dots)) all_none))

  each_attribute : (a : Option ℕ) → Each Fits (written_attribute kind put add trails (option_map says a))
  each_attribute None = all_none
  each_attribute (Some name) = all_more (puts (Sign sign.Less)) (all_more (fits _) (all_more (puts (Sign sign.Greater)) all_none))

  each_declared : (ds : List tokens.DeclaredName) → Each Fits (written_declared kind put add trails (map (chosen_declared (words_at says) encloses) ds))
  each_declared [] = all_none
  each_declared (d ∷ []) = all_more (fits _) (each_attribute d.attribute)
  each_declared (d ∷ e ∷ ds) = all_more (fits _) (each_append (each_attribute d.attribute) (all_more (puts (Sign sign.Comma)) (each_declared (e ∷ ds))))

  each_fields_of_path : (names : List ℕ) → Each Fits (written_fields_of_path kind put add trails (map says names))
  each_fields_of_path [] = all_none
  each_fields_of_path (name ∷ names) = all_more (puts (Sign sign.Dot)) (all_more (fits _) (each_fields_of_path names))

  each_path : (name : Option ℕ) (fields : List ℕ) → Each Fits (written_path kind put add trails (option_map says name) (map says fields))
  each_path None fields = each_fields_of_path fields
  each_path (Some name) fields = all_more (fits _) (each_fields_of_path fields)

  each_method : (m : Option ℕ) → Each Fits (written_method kind put add trails (option_map says m))
  each_method None = all_none
  each_method (Some name) = all_more (puts (Sign sign.Colon)) (all_more (fits _) all_none)

  abbrev EachIf : Option (syntax.Statement (Worded tokens.Span X)) → Type 0
  EachIf None = Unit {0}
  EachIf (Some s) = Each Fits (written_statement kind put add trails s)

  each_guarded_if : (paren : Bool) {words : List X} → Each Fits words → Each Fits (guarded_if kind put add trails paren words)
  each_guarded_if true all = each_append (additions sign.Semicolon) all
  each_guarded_if false all = all

  each_guarded : (words : List X) → Each Fits words → Each Fits (guarded kind put add trails words)
  each_guarded [] all = all_none
  each_guarded (x ∷ words) all = each_guarded_if (opens (kind x)) all

  each_after_guard : (others : Bool) (words : List X) → Each Fits words → Each Fits (after_guard kind put add trails others words)
  each_after_guard true words all = each_guarded words all
  each_after_guard false words all = all

  each_separated : (trailing : Bool) → Each Fits (separated kind put add trails trailing)
  each_separated true = additions sign.Comma
  each_separated false = all_none

  each_enclosed : (lone wanted : Bool) {words : List X} → Each Fits words → Each Fits (enclosed kind put add trails lone wanted words)
  each_enclosed false wanted all = all_more (puts (Sign sign.LeftParen)) (each_append all (all_more (puts (Sign sign.RightParen)) all_none))
  each_enclosed true true all = each_append (additions sign.LeftParen) (each_append all (additions sign.RightParen))
  each_enclosed true false all = all

  each_before : (others : Bool) (s : Option (syntax.Statement (Worded tokens.Span X))) → EachIf s → (rest : syntax.Statements (Worded tokens.Span X)) → ((later : Bool) → Each Fits (written_statements kind put add trails later rest)) → Each Fits (written_statements kind put add trails others (before s rest))
  each_before others None first rest each_rest = each_rest others
  each_before others (Some s) first rest each_rest = each_append (each_after_guard others _ first) (each_rest true)

  mutual
    each_expression : (s : tokens.Expression) → Each Fits (written_expression kind put add trails (chosen_expression (words_at says) encloses s))
    each_expression (syntax.nil_value span) = all_more (puts (Word word.Nil)) all_none
    each_expression (syntax.true_value span) = all_more (puts (Word word.True)) all_none
    each_expression (syntax.false_value span) = all_more (puts (Word word.False)) all_none
    each_expression (syntax.numeral span value) = all_more (fits _) all_none
    each_expression (syntax.string span value) = all_more (fits _) all_none
    each_expression (syntax.varargs span) = all_more (puts (Sign sign.Dots)) all_none
    each_expression (syntax.variable span name) = all_more (fits _) all_none
    each_expression (syntax.parenthesised span inner) = all_more (puts (Sign sign.LeftParen)) (each_append (each_expression inner) (all_more (puts (Sign sign.RightParen)) all_none))
    each_expression (syntax.function span body) = all_more (puts (Word word.Function)) (each_body body)
    each_expression (syntax.table span fields) = all_more (puts (Sign sign.LeftBrace)) (each_append (each_fields (trails span) fields) (all_more (puts (Sign sign.RightBrace)) all_none))
    each_expression (syntax.unary span sign operand) = all_more (fits _) (each_expression operand)
    each_expression (syntax.chain span first rest) = each_append (each_expression first) (each_operations rest)
    each_expression (syntax.power span base sign exponent) = each_append (each_expression base) (all_more (fits _) (each_expression exponent))
    each_expression (syntax.suffixed span head suffixes) = each_append (each_expression head) (each_suffixes suffixes)

    each_for_step : (s : tokens.OptionalExpression) → Each Fits (written_for_step kind put add trails (chosen_optional_expression (words_at says) encloses s))
    each_for_step syntax.no_expression = all_none
    each_for_step (syntax.an_expression e) = all_more (puts (Sign sign.Comma)) (each_expression e)

    each_more_expressions : (s : tokens.Expressions) → Each Fits (written_more_expressions kind put add trails (chosen_expressions (words_at says) encloses s))
    each_more_expressions syntax.no_expressions = all_none
    each_more_expressions (syntax.more_expressions e rest) = all_more (puts (Sign sign.Comma)) (each_append (each_expression e) (each_more_expressions rest))

    each_expressions : (s : tokens.Expressions) → Each Fits (written_expressions kind put add trails (chosen_expressions (words_at says) encloses s))
    each_expressions syntax.no_expressions = all_none
    each_expressions (syntax.more_expressions e rest) = each_append (each_expression e) (each_more_expressions rest)

    each_operation : (s : tokens.Operation) → Each Fits (written_operation kind put add trails (chosen_operation (words_at says) encloses s))
    each_operation (syntax.operation sign right) = all_more (fits _) (each_expression right)

    each_operations : (s : tokens.Operations) → Each Fits (written_operations kind put add trails (chosen_operations (words_at says) encloses s))
    each_operations syntax.no_operations = all_none
    each_operations (syntax.more_operations first rest) = each_append (each_operation first) (each_operations rest)

    each_suffix : (s : tokens.Suffix) → Each Fits (written_suffix kind put add trails (chosen_suffix (words_at says) encloses s))
    each_suffix (syntax.name_suffix name) = all_more (puts (Sign sign.Dot)) (all_more (fits _) all_none)
    each_suffix (syntax.index_suffix index) = all_more (puts (Sign sign.LeftBracket)) (each_append (each_expression index) (all_more (puts (Sign sign.RightBracket)) all_none))
    each_suffix (syntax.call_suffix args) = each_arguments args
    each_suffix (syntax.method_suffix name args) = all_more (puts (Sign sign.Colon)) (all_more (fits _) (each_arguments args))

    each_suffixes : (s : tokens.Suffixes) → Each Fits (written_suffixes kind put add trails (chosen_suffixes (words_at says) encloses s))
    each_suffixes syntax.no_suffixes = all_none
    each_suffixes (syntax.more_suffixes first rest) = each_append (each_suffix first) (each_suffixes rest)

    each_arguments : (s : tokens.Arguments) → Each Fits (written_arguments kind put add trails (chosen_arguments (words_at says) encloses s))
    each_arguments (syntax.arguments span parentheses items) = each_enclosed (is_lone (chosen_expressions (words_at says) encloses items)) (encloses items parentheses) (each_expressions items)

    each_field : (s : tokens.Field) → Each Fits (written_field kind put add trails (chosen_field (words_at says) encloses s))
    each_field (syntax.item_field value) = each_expression value
    each_field (syntax.named_field name value) = all_more (fits _) (all_more (puts (Sign sign.Assign)) (each_expression value))
    each_field (syntax.keyed_field key value) = all_more (puts (Sign sign.LeftBracket)) (each_append (each_expression key) (all_more (puts (Sign sign.RightBracket)) (all_more (puts (Sign sign.Assign)) (each_expression value))))

    each_more_fields : (flag : Bool) (s : tokens.Fields) → Each Fits (written_more_fields kind put add trails flag (chosen_fields (words_at says) encloses s))
    each_more_fields trailing syntax.no_fields = each_separated trailing
    each_more_fields trailing (syntax.more_fields first rest) = each_append (additions sign.Comma) (each_append (each_field first) (each_more_fields trailing rest))

    each_fields : (flag : Bool) (s : tokens.Fields) → Each Fits (written_fields kind put add trails flag (chosen_fields (words_at says) encloses s))
    each_fields trailing syntax.no_fields = all_none
    each_fields trailing (syntax.more_fields first rest) = each_append (each_field first) (each_more_fields trailing rest)

    each_statement : (s : tokens.Statement) → EachIf (chosen_statement (words_at says) encloses s)
    each_statement (syntax.empty_statement span) = tt
    each_statement (syntax.local_statement span names syntax.no_expressions) = all_more (puts (Word word.Local)) (each_declared names)
    each_statement (syntax.local_statement span names (syntax.more_expressions e rest)) = all_more (puts (Word word.Local)) (each_append (each_declared names) (all_more (puts (Sign sign.Assign)) (each_append (each_expression e) (each_more_expressions rest))))
    each_statement (syntax.assignment span targets values) = each_append (each_expressions targets) (all_more (puts (Sign sign.Assign)) (each_expressions values))
    each_statement (syntax.call_statement span call) = each_expression call
    each_statement (syntax.do_statement span body) = all_more (puts (Word word.Do)) (each_append (each_block body) (all_more (puts (Word word.End)) all_none))
    each_statement (syntax.while_statement span test body) = all_more (puts (Word word.While)) (each_append (each_expression test) (all_more (puts (Word word.Do)) (each_append (each_block body) (all_more (puts (Word word.End)) all_none))))
    each_statement (syntax.repeat_statement span body test) = all_more (puts (Word word.Repeat)) (each_append (each_block body) (all_more (puts (Word word.Until)) (each_expression test)))
    each_statement (syntax.if_statement span arms last) = all_more (puts (Word word.If)) (each_append (each_arms arms) (each_append (each_else last) (all_more (puts (Word word.End)) all_none)))
    each_statement (syntax.for_statement span name first limit step body) = all_more (puts (Word word.For)) (all_more (fits _) (all_more (puts (Sign sign.Assign)) (each_append (each_expression first) (all_more (puts (Sign sign.Comma)) (each_append (each_expression limit) (each_append (each_for_step step) (all_more (puts (Word word.Do)) (each_append (each_block body) (all_more (puts (Word word.End)) all_none)))))))))
    each_statement (syntax.for_in_statement span names values body) = all_more (puts (Word word.For)) (each_append (each_names names) (all_more (puts (Word word.In)) (each_append (each_expressions values) (all_more (puts (Word word.Do)) (each_append (each_block body) (all_more (puts (Word word.End)) all_none))))))
    each_statement (syntax.function_statement span name fields method body) = all_more (puts (Word word.Function)) (each_append (each_path name fields) (each_append (each_method method) (each_body body)))
    each_statement (syntax.local_function_statement span name body) = all_more (puts (Word word.Local)) (all_more (puts (Word word.Function)) (all_more (fits _) (each_body body)))
    each_statement (syntax.label span name) = all_more (puts (Sign sign.DoubleColon)) (all_more (fits _) (all_more (puts (Sign sign.DoubleColon)) all_none))
    each_statement (syntax.goto_statement span name) = all_more (puts (Word word.Goto)) (all_more (fits _) all_none)
    each_statement (syntax.break_statement span) = all_more (puts (Word word.Break)) all_none
    each_statement (syntax.return_statement span values) = all_more (puts (Word word.Return)) (each_expressions values)

    -- the statements of a block, and whether others are before them
    each_statements : (flag : Bool) (s : tokens.Statements) → Each Fits (written_statements kind put add trails flag (chosen_statements (words_at says) encloses s))
    each_statements others syntax.no_statements = all_none
    each_statements others (syntax.more_statements first rest) = each_before others (chosen_statement (words_at says) encloses first) (each_statement first) (chosen_statements (words_at says) encloses rest) (λ later. each_statements later rest)

    each_arm : (s : tokens.Arm) → Each Fits (written_arm kind put add trails (chosen_arm (words_at says) encloses s))
    each_arm (syntax.arm test body) = each_append (each_expression test) (all_more (puts (Word word.Then)) (each_block body))

    each_more_arms : (s : tokens.Arms) → Each Fits (written_more_arms kind put add trails (chosen_arms (words_at says) encloses s))
    each_more_arms syntax.no_arms = all_none
    each_more_arms (syntax.more_arms first rest) = all_more (puts (Word word.ElseIf)) (each_append (each_arm first) (each_more_arms rest))

    each_arms : (s : tokens.Arms) → Each Fits (written_arms kind put add trails (chosen_arms (words_at says) encloses s))
    each_arms syntax.no_arms = all_none
    each_arms (syntax.more_arms first rest) = each_append (each_arm first) (each_more_arms rest)

    pub each_block : (s : tokens.Block) → Each Fits (written_block kind put add trails (chosen_block (words_at says) encloses s))
    each_block (syntax.block span statements) = each_statements false statements

    each_else : (s : tokens.OptionalBlock) → Each Fits (written_else kind put add trails (chosen_optional_block (words_at says) encloses s))
    each_else syntax.no_block = all_none
    each_else (syntax.a_block body) = all_more (puts (Word word.Else)) (each_block body)

    each_body : (s : tokens.FunctionBody) → Each Fits (written_body kind put add trails (chosen_function_body (words_at says) encloses s))
    each_body (syntax.function_body span parameters vararg body) = all_more (puts (Sign sign.LeftParen)) (each_append (each_parameters parameters vararg) (all_more (puts (Sign sign.RightParen)) (each_append (each_block body) (all_more (puts (Word word.End)) all_none))))
