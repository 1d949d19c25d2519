-- What is written of a program in words of two kinds: where the words of the program, and those that are put and added,
-- are related, so are those that are written.
use Rattle.std.proofs.Common.{◌≡◌, ℕ, Bool, true, false, Option, Some, None, List, [], ◌∷◌, map, sym, subst, ◌∙◌}
use Rattle.std.specs.Option.{option_map}
use Rattle.luf_lex.specs.declared.token.Tok.{Tok}
use Rattle.luf_lex.specs.declared.token.Tok.TheVariants.{Word, Sign}
use Rattle.luf_lex.specs.declared.token.Word.TheVariants as word
use Rattle.luf_lex.specs.declared.token.Sign.TheVariants as sign
use Rattle.luf_tree.specs.Syntax as syntax
use Rattle.luf_tree.specs.TokenSyntax as tokens
use Rattle.luf_bare.specs.Lone.{is_lone}
use Rattle.luf_bare.proofs.LoneLaws.{lone_chosen}
use Rattle.luf_bare.specs.Significant.{IsFixed}
use Rattle.luf_bare.specs.Bare.{Worded, words_at, before, chosen_declared, chosen_expression, chosen_optional_expression, chosen_expressions, chosen_operation, chosen_operations, chosen_suffix, chosen_suffixes, chosen_arguments, chosen_field, chosen_fields, chosen_statement, chosen_statements, chosen_arm, chosen_arms, chosen_block, chosen_optional_block, chosen_function_body}
use Rattle.luf_bare.specs.Writing.{opens, guarded, guarded_if, separated, after_guard, enclosed, written_more_names, written_names, written_parameters, written_attribute, written_declared, written_fields_of_path, written_path, written_method, written_expression, written_for_step, written_more_expressions, written_expressions, written_operation, written_operations, written_suffix, written_suffixes, written_arguments, written_field, written_more_fields, written_fields, written_statement, written_statements, written_arm, written_more_arms, written_arms, written_block, written_else, written_body}
use Rattle.luf_resolved.proofs.Paired.{Paired, nothing, more, joined}

module _ {X Y : Type 0} (kind : X → Tok) (put : Tok → X) (add : Tok → List X) (other_kind : Y → Tok) (other_put : Tok → Y) (other_add : Tok → List Y) (trails : tokens.Span → Bool) (encloses : tokens.Expressions → Bool → Bool) (says : ℕ → X) (other_says : ℕ → Y) (R : X → Y → Type 0) (kinds : (x : X) (y : Y) → R x y → opens (kind x) ≡ opens (other_kind y)) (puts : (t : Tok) → IsFixed t → R (put t) (other_put t)) (additions : (t : Tok) → IsFixed t → Paired R (add t) (other_add t)) (fits : (i : ℕ) → R (says i) (other_says i)) where
  paired_more_names : (names : List ℕ) → Paired R (written_more_names kind put add trails (map says names)) (written_more_names other_kind other_put other_add trails (map other_says names))
  paired_more_names [] = nothing
  paired_more_names (name ∷ names) = more (puts (Sign sign.Comma) tt) (more (fits _) (paired_more_names names))

  paired_names : (names : List ℕ) → Paired R (written_names kind put add trails (map says names)) (written_names other_kind other_put other_add trails (map other_says names))
  paired_names [] = nothing
  paired_names (name ∷ names) = more (fits _) (paired_more_names names)

  paired_parameters : (names : List ℕ) (vararg : Bool) → Paired R (written_parameters kind put add trails (map says names) vararg) (written_parameters other_kind other_put other_add trails (map other_says names) vararg)
  paired_parameters [] false = nothing
  paired_parameters [] true = more (puts (Sign sign.Dots) tt) nothing
  paired_parameters (name ∷ names) false = paired_names (name ∷ names)
  paired_parameters (name ∷ names) true = joined (paired_names (name ∷ names)) (more (puts (Sign sign.Comma) tt) (more (puts (Sign sign.Dots) tt) nothing))

  paired_attribute : (a : Option ℕ) → Paired R (written_attribute kind put add trails (option_map says a)) (written_attribute other_kind other_put other_add trails (option_map other_says a))
  paired_attribute None = nothing
  paired_attribute (Some name) = more (puts (Sign sign.Less) tt) (more (fits _) (more (puts (Sign sign.Greater) tt) nothing))

  paired_declared : (ds : List tokens.DeclaredName) → Paired R (written_declared kind put add trails (map (chosen_declared (words_at says) encloses) ds)) (written_declared other_kind other_put other_add trails (map (chosen_declared (words_at other_says) encloses) ds))
  paired_declared [] = nothing
  paired_declared (d ∷ []) = more (fits _) (paired_attribute d.attribute)
  paired_declared (d ∷ e ∷ ds) = more (fits _) (joined (paired_attribute d.attribute) (more (puts (Sign sign.Comma) tt) (paired_declared (e ∷ ds))))

  paired_fields_of_path : (names : List ℕ) → Paired R (written_fields_of_path kind put add trails (map says names)) (written_fields_of_path other_kind other_put other_add trails (map other_says names))
  paired_fields_of_path [] = nothing
  paired_fields_of_path (name ∷ names) = more (puts (Sign sign.Dot) tt) (more (fits _) (paired_fields_of_path names))

  paired_path : (name : Option ℕ) (fields : List ℕ) → Paired R (written_path kind put add trails (option_map says name) (map says fields)) (written_path other_kind other_put other_add trails (option_map other_says name) (map other_says fields))
  paired_path None fields = paired_fields_of_path fields
  paired_path (Some name) fields = more (fits _) (paired_fields_of_path fields)

  paired_method : (m : Option ℕ) → Paired R (written_method kind put add trails (option_map says m)) (written_method other_kind other_put other_add trails (option_map other_says m))
  paired_method None = nothing
  paired_method (Some name) = more (puts (Sign sign.Colon) tt) (more (fits _) nothing)

  paired_guarded_if : (paren : Bool) {words : List X} {others_words : List Y} → Paired R words others_words → Paired R (guarded_if kind put add trails paren words) (guarded_if other_kind other_put other_add trails paren others_words)
  paired_guarded_if true all = joined (additions (Sign sign.Semicolon) tt) all
  paired_guarded_if false all = all

  paired_guarded : {words : List X} {others_words : List Y} → Paired R words others_words → Paired R (guarded kind put add trails words) (guarded other_kind other_put other_add trails others_words)
  paired_guarded nothing = nothing
  paired_guarded (more {x} {y} {xs} {ys} here there) = subst (λ b. Paired R (guarded_if kind put add trails (opens (kind x)) (x ∷ xs)) (guarded_if other_kind other_put other_add trails b (y ∷ ys))) (kinds x y here) (paired_guarded_if (opens (kind x)) (more here there))

  paired_after_guard : (others : Bool) {words : List X} {others_words : List Y} → Paired R words others_words → Paired R (after_guard kind put add trails others words) (after_guard other_kind other_put other_add trails others others_words)
  paired_after_guard true all = paired_guarded all
  paired_after_guard false all = all

  paired_separated : (trailing : Bool) → Paired R (separated kind put add trails trailing) (separated other_kind other_put other_add trails trailing)
  paired_separated true = additions (Sign sign.Comma) tt
  paired_separated false = nothing

  paired_enclosed : (lone wanted : Bool) {words : List X} {others_words : List Y} → Paired R words others_words → Paired R (enclosed kind put add trails lone wanted words) (enclosed other_kind other_put other_add trails lone wanted others_words)
  paired_enclosed false wanted all = more (puts (Sign sign.LeftParen) tt) (joined all (more (puts (Sign sign.RightParen) tt) nothing))
  paired_enclosed true true all = joined (additions (Sign sign.LeftParen) tt) (joined all (additions (Sign sign.RightParen) tt))
  paired_enclosed true false all = all

  paired_lone : (es : tokens.Expressions) (wanted : Bool) {words : List X} {others_words : List Y} → Paired R words others_words
      → Paired R (enclosed kind put add trails (is_lone (chosen_expressions (words_at says) encloses es)) wanted words) (enclosed other_kind other_put other_add trails (is_lone (chosen_expressions (words_at other_says) encloses es)) wanted others_words)
  paired_lone es wanted {words} {others_words} all = subst (λ b. Paired R (enclosed kind put add trails (is_lone (chosen_expressions (words_at says) encloses es)) wanted words) (enclosed other_kind other_put other_add trails b wanted others_words)) (lone_chosen (words_at says) encloses es ∙ sym (lone_chosen (words_at other_says) encloses es)) (paired_enclosed (is_lone (chosen_expressions (words_at says) encloses es)) wanted all)

  abbrev PairedIf : Option (syntax.Statement (Worded tokens.Span X)) → Option (syntax.Statement (Worded tokens.Span Y)) → Type 0
  PairedIf None None = Unit {0}
  PairedIf (Some s) (Some other) = Paired R (written_statement kind put add trails s) (written_statement other_kind other_put other_add trails other)
  PairedIf None (Some other) = ⊥
  PairedIf (Some s) None = ⊥

  paired_before : (others : Bool) (s : Option (syntax.Statement (Worded tokens.Span X))) (other : Option (syntax.Statement (Worded tokens.Span Y))) → PairedIf s other → (rest : syntax.Statements (Worded tokens.Span X)) (other_rest : syntax.Statements (Worded tokens.Span Y)) → ((later : Bool) → Paired R (written_statements kind put add trails later rest) (written_statements other_kind other_put other_add trails later other_rest)) → Paired R (written_statements kind put add trails others (before s rest)) (written_statements other_kind other_put other_add trails others (before other other_rest))
  paired_before others None None first rest other_rest paired_rest = paired_rest others
  paired_before others (Some s) (Some other) first rest other_rest paired_rest = joined (paired_after_guard others first) (paired_rest true)
  paired_before others None (Some other) first rest other_rest paired_rest = absurd first
  paired_before others (Some s) None first rest other_rest paired_rest = absurd first

  mutual
    paired_expression : (s : tokens.Expression) → Paired R (written_expression kind put add trails (chosen_expression (words_at says) encloses s)) (written_expression other_kind other_put other_add trails (chosen_expression (words_at other_says) encloses s))
    paired_expression (syntax.nil_value span) = more (puts (Word word.Nil) tt) nothing
    paired_expression (syntax.true_value span) = more (puts (Word word.True) tt) nothing
    paired_expression (syntax.false_value span) = more (puts (Word word.False) tt) nothing
    paired_expression (syntax.numeral span value) = more (fits _) nothing
    paired_expression (syntax.string span value) = more (fits _) nothing
    paired_expression (syntax.varargs span) = more (puts (Sign sign.Dots) tt) nothing
    paired_expression (syntax.variable span name) = more (fits _) nothing
    paired_expression (syntax.parenthesised span inner) = more (puts (Sign sign.LeftParen) tt) (joined (paired_expression inner) (more (puts (Sign sign.RightParen) tt) nothing))
    paired_expression (syntax.function span body) = more (puts (Word word.Function) tt) (paired_body body)
    paired_expression (syntax.table span fields) = more (puts (Sign sign.LeftBrace) tt) (joined (paired_fields (trails span) fields) (more (puts (Sign sign.RightBrace) tt) nothing))
    paired_expression (syntax.unary span sign operand) = more (fits _) (paired_expression operand)
    paired_expression (syntax.chain span first rest) = joined (paired_expression first) (paired_operations rest)
    paired_expression (syntax.power span base sign exponent) = joined (paired_expression base) (more (fits _) (paired_expression exponent))
    paired_expression (syntax.suffixed span head suffixes) = joined (paired_expression head) (paired_suffixes suffixes)

    paired_for_step : (s : tokens.OptionalExpression) → Paired R (written_for_step kind put add trails (chosen_optional_expression (words_at says) encloses s)) (written_for_step other_kind other_put other_add trails (chosen_optional_expression (words_at other_says) encloses s))
    paired_for_step syntax.no_expression = nothing
    paired_for_step (syntax.an_expression e) = more (puts (Sign sign.Comma) tt) (paired_expression e)

    paired_more_expressions : (s : tokens.Expressions) → Paired R (written_more_expressions kind put add trails (chosen_expressions (words_at says) encloses s)) (written_more_expressions other_kind other_put other_add trails (chosen_expressions (words_at other_says) encloses s))
    paired_more_expressions syntax.no_expressions = nothing
    paired_more_expressions (syntax.more_expressions e rest) = more (puts (Sign sign.Comma) tt) (joined (paired_expression e) (paired_more_expressions rest))

    paired_expressions : (s : tokens.Expressions) → Paired R (written_expressions kind put add trails (chosen_expressions (words_at says) encloses s)) (written_expressions other_kind other_put other_add trails (chosen_expressions (words_at other_says) encloses s))
    paired_expressions syntax.no_expressions = nothing
    paired_expressions (syntax.more_expressions e rest) = joined (paired_expression e) (paired_more_expressions rest)

    paired_operation : (s : tokens.Operation) → Paired R (written_operation kind put add trails (chosen_operation (words_at says) encloses s)) (written_operation other_kind other_put other_add trails (chosen_operation (words_at other_says) encloses s))
    paired_operation (syntax.operation sign right) = more (fits _) (paired_expression right)

    paired_operations : (s : tokens.Operations) → Paired R (written_operations kind put add trails (chosen_operations (words_at says) encloses s)) (written_operations other_kind other_put other_add trails (chosen_operations (words_at other_says) encloses s))
    paired_operations syntax.no_operations = nothing
    paired_operations (syntax.more_operations first rest) = joined (paired_operation first) (paired_operations rest)

    paired_suffix : (s : tokens.Suffix) → Paired R (written_suffix kind put add trails (chosen_suffix (words_at says) encloses s)) (written_suffix other_kind other_put other_add trails (chosen_suffix (words_at other_says) encloses s))
    paired_suffix (syntax.name_suffix name) = more (puts (Sign sign.Dot) tt) (more (fits _) nothing)
    paired_suffix (syntax.index_suffix index) = more (puts (Sign sign.LeftBracket) tt) (joined (paired_expression index) (more (puts (Sign sign.RightBracket) tt) nothing))
    paired_suffix (syntax.call_suffix args) = paired_arguments args
    paired_suffix (syntax.method_suffix name args) = more (puts (Sign sign.Colon) tt) (more (fits _) (paired_arguments args))

    paired_suffixes : (s : tokens.Suffixes) → Paired R (written_suffixes kind put add trails (chosen_suffixes (words_at says) encloses s)) (written_suffixes other_kind other_put other_add trails (chosen_suffixes (words_at other_says) encloses s))
    paired_suffixes syntax.no_suffixes = nothing
    paired_suffixes (syntax.more_suffixes first rest) = joined (paired_suffix first) (paired_suffixes rest)

    paired_arguments : (s : tokens.Arguments) → Paired R (written_arguments kind put add trails (chosen_arguments (words_at says) encloses s)) (written_arguments other_kind other_put other_add trails (chosen_arguments (words_at other_says) encloses s))
    paired_arguments (syntax.arguments span parentheses items) = paired_lone items (encloses items parentheses) (paired_expressions items)

    paired_field : (s : tokens.Field) → Paired R (written_field kind put add trails (chosen_field (words_at says) encloses s)) (written_field other_kind other_put other_add trails (chosen_field (words_at other_says) encloses s))
    paired_field (syntax.item_field value) = paired_expression value
    paired_field (syntax.named_field name value) = more (fits _) (more (puts (Sign sign.Assign) tt) (paired_expression value))
    paired_field (syntax.keyed_field key value) = more (puts (Sign sign.LeftBracket) tt) (joined (paired_expression key) (more (puts (Sign sign.RightBracket) tt) (more (puts (Sign sign.Assign) tt) (paired_expression value))))

    paired_more_fields : (flag : Bool) (s : tokens.Fields) → Paired R (written_more_fields kind put add trails flag (chosen_fields (words_at says) encloses s)) (written_more_fields other_kind other_put other_add trails flag (chosen_fields (words_at other_says) encloses s))
    paired_more_fields trailing syntax.no_fields = paired_separated trailing
    paired_more_fields trailing (syntax.more_fields first rest) = joined (additions (Sign sign.Comma) tt) (joined (paired_field first) (paired_more_fields trailing rest))

    paired_fields : (flag : Bool) (s : tokens.Fields) → Paired R (written_fields kind put add trails flag (chosen_fields (words_at says) encloses s)) (written_fields other_kind other_put other_add trails flag (chosen_fields (words_at other_says) encloses s))
    paired_fields trailing syntax.no_fields = nothing
    paired_fields trailing (syntax.more_fields first rest) = joined (paired_field first) (paired_more_fields trailing rest)

    paired_statement : (s : tokens.Statement) → PairedIf (chosen_statement (words_at says) encloses s) (chosen_statement (words_at other_says) encloses s)
    paired_statement (syntax.empty_statement span) = tt
    paired_statement (syntax.local_statement span names syntax.no_expressions) = more (puts (Word word.Local) tt) (paired_declared names)
    paired_statement (syntax.local_statement span names (syntax.more_expressions e rest)) = more (puts (Word word.Local) tt) (joined (paired_declared names) (more (puts (Sign sign.Assign) tt) (joined (paired_expression e) (paired_more_expressions rest))))
    paired_statement (syntax.assignment span targets values) = joined (paired_expressions targets) (more (puts (Sign sign.Assign) tt) (paired_expressions values))
    paired_statement (syntax.call_statement span call) = paired_expression call
    paired_statement (syntax.do_statement span body) = more (puts (Word word.Do) tt) (joined (paired_block body) (more (puts (Word word.End) tt) nothing))
    paired_statement (syntax.while_statement span test body) = more (puts (Word word.While) tt) (joined (paired_expression test) (more (puts (Word word.Do) tt) (joined (paired_block body) (more (puts (Word word.End) tt) nothing))))
    paired_statement (syntax.repeat_statement span body test) = more (puts (Word word.Repeat) tt) (joined (paired_block body) (more (puts (Word word.Until) tt) (paired_expression test)))
    paired_statement (syntax.if_statement span arms last) = more (puts (Word word.If) tt) (joined (paired_arms arms) (joined (paired_else last) (more (puts (Word word.End) tt) nothing)))
    paired_statement (syntax.for_statement span name first limit step body) = more (puts (Word word.For) tt) (more (fits _) (more (puts (Sign sign.Assign) tt) (joined (paired_expression first) (more (puts (Sign sign.Comma) tt) (joined (paired_expression limit) (joined (paired_for_step step) (more (puts (Word word.Do) tt) (joined (paired_block body) (more (puts (Word word.End) tt) nothing)))))))))
    paired_statement (syntax.for_in_statement span names values body) = more (puts (Word word.For) tt) (joined (paired_names names) (more (puts (Word word.In) tt) (joined (paired_expressions values) (more (puts (Word word.Do) tt) (joined (paired_block body) (more (puts (Word word.End) tt) nothing))))))
    paired_statement (syntax.function_statement span name fields method body) = more (puts (Word word.Function) tt) (joined (paired_path name fields) (joined (paired_method method) (paired_body body)))
    paired_statement (syntax.local_function_statement span name body) = more (puts (Word word.Local) tt) (more (puts (Word word.Function) tt) (more (fits _) (paired_body body)))
    paired_statement (syntax.label span name) = more (puts (Sign sign.DoubleColon) tt) (more (fits _) (more (puts (Sign sign.DoubleColon) tt) nothing))
    paired_statement (syntax.goto_statement span name) = more (puts (Word word.Goto) tt) (more (fits _) nothing)
    paired_statement (syntax.break_statement span) = more (puts (Word word.Break) tt) nothing
    paired_statement (syntax.return_statement span values) = more (puts (Word word.Return) tt) (paired_expressions values)

    -- the statements of a block, and whether others are before them
    paired_statements : (flag : Bool) (s : tokens.Statements) → Paired R (written_statements kind put add trails flag (chosen_statements (words_at says) encloses s)) (written_statements other_kind other_put other_add trails flag (chosen_statements (words_at other_says) encloses s))
    paired_statements others syntax.no_statements = nothing
    paired_statements others (syntax.more_statements first rest) = paired_before others (chosen_statement (words_at says) encloses first) (chosen_statement (words_at other_says) encloses first) (paired_statement first) (chosen_statements (words_at says) encloses rest) (chosen_statements (words_at other_says) encloses rest) (λ later. paired_statements later rest)

    paired_arm : (s : tokens.Arm) → Paired R (written_arm kind put add trails (chosen_arm (words_at says) encloses s)) (written_arm other_kind other_put other_add trails (chosen_arm (words_at other_says) encloses s))
    paired_arm (syntax.arm test body) = joined (paired_expression test) (more (puts (Word word.Then) tt) (paired_block body))

    paired_more_arms : (s : tokens.Arms) → Paired R (written_more_arms kind put add trails (chosen_arms (words_at says) encloses s)) (written_more_arms other_kind other_put other_add trails (chosen_arms (words_at other_says) encloses s))
    paired_more_arms syntax.no_arms = nothing
    paired_more_arms (syntax.more_arms first rest) = more (puts (Word word.ElseIf) tt) (joined (paired_arm first) (paired_more_arms rest))

    paired_arms : (s : tokens.Arms) → Paired R (written_arms kind put add trails (chosen_arms (words_at says) encloses s)) (written_arms other_kind other_put other_add trails (chosen_arms (words_at other_says) encloses s))
    paired_arms syntax.no_arms = nothing
    paired_arms (syntax.more_arms first rest) = joined (paired_arm first) (paired_more_arms rest)

    pub paired_block : (s : tokens.Block) → Paired R (written_block kind put add trails (chosen_block (words_at says) encloses s)) (written_block other_kind other_put other_add trails (chosen_block (words_at other_says) encloses s))
    paired_block (syntax.block span statements) = paired_statements false statements

    paired_else : (s : tokens.OptionalBlock) → Paired R (written_else kind put add trails (chosen_optional_block (words_at says) encloses s)) (written_else other_kind other_put other_add trails (chosen_optional_block (words_at other_says) encloses s))
    paired_else syntax.no_block = nothing
    paired_else (syntax.a_block body) = more (puts (Word word.Else) tt) (paired_block body)

    paired_body : (s : tokens.FunctionBody) → Paired R (written_body kind put add trails (chosen_function_body (words_at says) encloses s)) (written_body other_kind other_put other_add trails (chosen_function_body (words_at other_says) encloses s))
    paired_body (syntax.function_body span parameters vararg body) = more (puts (Sign sign.LeftParen) tt) (joined (paired_parameters parameters vararg) (more (puts (Sign sign.RightParen) tt) (joined (paired_block body) (more (puts (Word word.End) tt) nothing))))
