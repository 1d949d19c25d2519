-- What is written of a bare program, as a list of words, one for each token (a rule of our own). The words of the
-- program are put there. Added are a `,` between two fields, and one behind the last where the table trails; the
-- parentheses of a lone argument, where they are chosen; and a `;` before each statement that begins with `(` and is
-- not the first of its block.
use Rattle.std.specs.Prelude.{Bool, true, false, Option, Some, None, List, [], ◌∷◌, ◌++◌}
use Rattle.luf_lex.specs.declared.token.Tok.{Tok}
use Rattle.luf_lex.specs.declared.token.Tok.TheVariants.{Word, Sign}
use Rattle.luf_lex.specs.declared.token.Tok.TheVariants as tok
use Rattle.luf_lex.specs.declared.token.Word.TheVariants as word
use Rattle.luf_lex.specs.declared.token.Sign as token_sign
use Rattle.luf_lex.specs.declared.token.Sign.TheVariants as sign
use Rattle.luf_tree.specs.Syntax as syntax
use Rattle.luf_bare.specs.Bare.{Worded}
use Rattle.luf_bare.specs.Lone.{is_lone}

abbrev pub sign_opens : token_sign.Sign → Bool
sign_opens sign.LeftParen = true
sign_opens _ = false

-- this token is `(`
abbrev pub opens : Tok → Bool
opens (tok.Sign s) = sign_opens s
opens _ = false

module _ {S X : Type 0} (kind : X → Tok) (put : Tok → X) (add : Tok → List X) (trails : S → Bool) where
  -- a `;` before what begins with `(`
  abbrev pub guarded_if : Bool → List X → List X
  guarded_if true words = add (Sign sign.Semicolon) ++ words
  guarded_if false words = words

  abbrev pub guarded : List X → List X
  guarded [] = []
  guarded (x ∷ words) = guarded_if (opens (kind x)) (x ∷ words)

  abbrev pub separated : Bool → List X
  separated true = add (Sign sign.Comma)
  separated false = []

  -- arguments: whether they are lone, and whether parentheses are wanted then
  abbrev pub enclosed : Bool → Bool → List X → List X
  enclosed false wanted words = put (Sign sign.LeftParen) ∷ (words ++ (put (Sign sign.RightParen) ∷ []))
  enclosed true true words = add (Sign sign.LeftParen) ++ (words ++ add (Sign sign.RightParen))
  enclosed true false words = words

  abbrev pub after_guard : Bool → List X → List X
  after_guard true words = guarded words
  after_guard false words = words

  abbrev pub written_more_names : List X → List X
  written_more_names [] = []
  written_more_names (name ∷ names) = put (Sign sign.Comma) ∷ name ∷ written_more_names names

  abbrev pub written_names : List X → List X
  written_names [] = []
  written_names (name ∷ names) = name ∷ written_more_names names

  abbrev pub written_parameters : List X → Bool → List X
  written_parameters [] false = []
  written_parameters [] true = put (Sign sign.Dots) ∷ []
  written_parameters (name ∷ names) false = written_names (name ∷ names)
  written_parameters (name ∷ names) true = written_names (name ∷ names) ++ (put (Sign sign.Comma) ∷ put (Sign sign.Dots) ∷ [])

  abbrev pub written_attribute : Option X → List X
  written_attribute None = []
  written_attribute (Some name) = put (Sign sign.Less) ∷ name ∷ put (Sign sign.Greater) ∷ []

  abbrev pub written_declared : List (syntax.DeclaredName (Worded S X)) → List X
  written_declared [] = []
  written_declared (d ∷ []) = d.name ∷ written_attribute d.attribute
  written_declared (d ∷ e ∷ ds) = d.name ∷ (written_attribute d.attribute ++ (put (Sign sign.Comma) ∷ written_declared (e ∷ ds)))

  abbrev pub written_fields_of_path : List X → List X
  written_fields_of_path [] = []
  written_fields_of_path (name ∷ names) = put (Sign sign.Dot) ∷ name ∷ written_fields_of_path names

  abbrev pub written_path : Option X → List X → List X
  written_path None fields = written_fields_of_path fields
  written_path (Some name) fields = name ∷ written_fields_of_path fields

  abbrev pub written_method : Option X → List X
  written_method None = []
  written_method (Some name) = put (Sign sign.Colon) ∷ name ∷ []

  abbrev mutual
    pub written_expression : syntax.Expression (Worded S X) → List X
    written_expression (syntax.nil_value span) = put (Word word.Nil) ∷ []
    written_expression (syntax.true_value span) = put (Word word.True) ∷ []
    written_expression (syntax.false_value span) = put (Word word.False) ∷ []
    written_expression (syntax.numeral span value) = value ∷ []
    written_expression (syntax.string span value) = value ∷ []
    written_expression (syntax.varargs span) = put (Sign sign.Dots) ∷ []
    written_expression (syntax.variable span name) = name ∷ []
    written_expression (syntax.parenthesised span inner) = put (Sign sign.LeftParen) ∷ (written_expression inner ++ (put (Sign sign.RightParen) ∷ []))
    written_expression (syntax.function span body) = put (Word word.Function) ∷ written_body body
    written_expression (syntax.table span fields) =
        put (Sign sign.LeftBrace) ∷ (written_fields (trails span) fields ++ (put (Sign sign.RightBrace) ∷ []))
    written_expression (syntax.unary span sign operand) = sign ∷ written_expression operand
    written_expression (syntax.chain span first rest) = written_expression first ++ written_operations rest
    written_expression (syntax.power span base sign exponent) = written_expression base ++ (sign ∷ written_expression exponent)
    written_expression (syntax.suffixed span head suffixes) = written_expression head ++ written_suffixes suffixes

    pub written_for_step : syntax.OptionalExpression (Worded S X) → List X
    written_for_step syntax.no_expression = []
    written_for_step (syntax.an_expression e) = put (Sign sign.Comma) ∷ written_expression e

    pub written_more_expressions : syntax.Expressions (Worded S X) → List X
    written_more_expressions syntax.no_expressions = []
    written_more_expressions (syntax.more_expressions e rest) = put (Sign sign.Comma) ∷ (written_expression e ++ written_more_expressions rest)

    pub written_expressions : syntax.Expressions (Worded S X) → List X
    written_expressions syntax.no_expressions = []
    written_expressions (syntax.more_expressions e rest) = written_expression e ++ written_more_expressions rest

    pub written_operation : syntax.Operation (Worded S X) → List X
    written_operation (syntax.operation sign right) = sign ∷ written_expression right

    pub written_operations : syntax.Operations (Worded S X) → List X
    written_operations syntax.no_operations = []
    written_operations (syntax.more_operations first rest) = written_operation first ++ written_operations rest

    pub written_suffix : syntax.Suffix (Worded S X) → List X
    written_suffix (syntax.name_suffix name) = put (Sign sign.Dot) ∷ name ∷ []
    written_suffix (syntax.index_suffix index) = put (Sign sign.LeftBracket) ∷ (written_expression index ++ (put (Sign sign.RightBracket) ∷ []))
    written_suffix (syntax.call_suffix args) = written_arguments args
    written_suffix (syntax.method_suffix name args) = put (Sign sign.Colon) ∷ name ∷ written_arguments args

    pub written_suffixes : syntax.Suffixes (Worded S X) → List X
    written_suffixes syntax.no_suffixes = []
    written_suffixes (syntax.more_suffixes first rest) = written_suffix first ++ written_suffixes rest

    pub written_arguments : syntax.Arguments (Worded S X) → List X
    written_arguments (syntax.arguments span parentheses items) = enclosed (is_lone items) parentheses (written_expressions items)

    pub written_field : syntax.Field (Worded S X) → List X
    written_field (syntax.item_field value) = written_expression value
    written_field (syntax.named_field name value) = name ∷ put (Sign sign.Assign) ∷ written_expression value
    written_field (syntax.keyed_field key value) =
        put (Sign sign.LeftBracket) ∷ (written_expression key ++ (put (Sign sign.RightBracket) ∷ put (Sign sign.Assign) ∷ written_expression value))

    pub written_more_fields : Bool → syntax.Fields (Worded S X) → List X
    written_more_fields trailing syntax.no_fields = separated trailing
    written_more_fields trailing (syntax.more_fields first rest) = add (Sign sign.Comma) ++ (written_field first ++ written_more_fields trailing rest)

    pub written_fields : Bool → syntax.Fields (Worded S X) → List X
    written_fields trailing syntax.no_fields = []
    written_fields trailing (syntax.more_fields first rest) = written_field first ++ written_more_fields trailing rest

    pub written_statement : syntax.Statement (Worded S X) → List X
    written_statement (syntax.empty_statement span) = put (Sign sign.Semicolon) ∷ []
    written_statement (syntax.local_statement span names syntax.no_expressions) = put (Word word.Local) ∷ written_declared names
    written_statement (syntax.local_statement span names (syntax.more_expressions e rest)) =
        put (Word word.Local) ∷ (written_declared names ++ (put (Sign sign.Assign) ∷ (written_expression e ++ written_more_expressions rest)))
    written_statement (syntax.assignment span targets values) = written_expressions targets ++ (put (Sign sign.Assign) ∷ written_expressions values)
    written_statement (syntax.call_statement span call) = written_expression call
    written_statement (syntax.do_statement span body) = put (Word word.Do) ∷ (written_block body ++ (put (Word word.End) ∷ []))
    written_statement (syntax.while_statement span test body) =
        put (Word word.While) ∷ (written_expression test ++ (put (Word word.Do) ∷ (written_block body ++ (put (Word word.End) ∷ []))))
    written_statement (syntax.repeat_statement span body test) =
        put (Word word.Repeat) ∷ (written_block body ++ (put (Word word.Until) ∷ written_expression test))
    written_statement (syntax.if_statement span arms last) =
        put (Word word.If) ∷ (written_arms arms ++ (written_else last ++ (put (Word word.End) ∷ [])))
    written_statement (syntax.for_statement span name first limit step body) =
        put (Word word.For) ∷ name ∷ put (Sign sign.Assign) ∷ (written_expression first ++ (put (Sign sign.Comma) ∷ (written_expression limit ++ (written_for_step step ++ (put (Word word.Do) ∷ (written_block body ++ (put (Word word.End) ∷ [])))))))
    written_statement (syntax.for_in_statement span names values body) =
        put (Word word.For) ∷ (written_names names ++ (put (Word word.In) ∷ (written_expressions values ++ (put (Word word.Do) ∷ (written_block body ++ (put (Word word.End) ∷ []))))))
    written_statement (syntax.function_statement span name fields method body) =
        put (Word word.Function) ∷ (written_path name fields ++ (written_method method ++ written_body body))
    written_statement (syntax.local_function_statement span name body) = put (Word word.Local) ∷ put (Word word.Function) ∷ name ∷ written_body body
    written_statement (syntax.label span name) = put (Sign sign.DoubleColon) ∷ name ∷ put (Sign sign.DoubleColon) ∷ []
    written_statement (syntax.goto_statement span name) = put (Word word.Goto) ∷ name ∷ []
    written_statement (syntax.break_statement span) = put (Word word.Break) ∷ []
    written_statement (syntax.return_statement span values) = put (Word word.Return) ∷ written_expressions values

    -- the statements of a block, and whether others are before them
    pub written_statements : Bool → syntax.Statements (Worded S X) → List X
    written_statements others syntax.no_statements = []
    written_statements others (syntax.more_statements first rest) = after_guard others (written_statement first) ++ written_statements true rest

    pub written_arm : syntax.Arm (Worded S X) → List X
    written_arm (syntax.arm test body) = written_expression test ++ (put (Word word.Then) ∷ written_block body)

    pub written_more_arms : syntax.Arms (Worded S X) → List X
    written_more_arms syntax.no_arms = []
    written_more_arms (syntax.more_arms first rest) = put (Word word.ElseIf) ∷ (written_arm first ++ written_more_arms rest)

    pub written_arms : syntax.Arms (Worded S X) → List X
    written_arms syntax.no_arms = []
    written_arms (syntax.more_arms first rest) = written_arm first ++ written_more_arms rest

    pub written_block : syntax.Block (Worded S X) → List X
    written_block (syntax.block span statements) = written_statements false statements

    pub written_else : syntax.OptionalBlock (Worded S X) → List X
    written_else syntax.no_block = []
    written_else (syntax.a_block body) = put (Word word.Else) ∷ written_block body

    pub written_body : syntax.FunctionBody (Worded S X) → List X
    written_body (syntax.function_body span parameters vararg body) =
        put (Sign sign.LeftParen) ∷ (written_parameters parameters vararg ++ (put (Sign sign.RightParen) ∷ (written_block body ++ (put (Word word.End) ∷ []))))
