-- The texts of a program: the grammar once more, by joining and with no places. `Writes.. b words` says that these
-- words, one for each token, are a text of the part `b`, which is of a bare program but for its arguments: they tell
-- whether they stand in parentheses in this text, as all but a lone one have to. A text is free in what `b` leaves open:
-- empty statements, the `;` of a return, separators of fields and a last one.
-- No statement that others precede in its block begins with `(`: a `;` stands before it (Lua 5.4 manual, 3.3.1).
use Rattle.std.specs.Prelude.{◌≡◌, ℕ, ◌+◌, ◌<◌, ◌≤◌, ◌⊎◌, Bool, true, false, Option, Some, None, List, [], ◌∷◌, ◌++◌}
use Rattle.luf_lex.specs.declared.token.Tok.{Tok}
use Rattle.luf_lex.specs.declared.token.Tok.TheVariants.{Name, Number, Short, Long, Word, Sign}
use Rattle.luf_lex.specs.declared.token.Word.TheVariants as word
use Rattle.luf_lex.specs.declared.token.Sign.TheVariants as sign
use Rattle.luf_tree.specs.Syntax as syntax
use Rattle.luf_bare.specs.Bare.{Bare}
use Rattle.luf_tree.specs.SyntaxOf.{first_of_path, rest_of_path}
use Rattle.luf_bare.specs.Lone.{is_lone}
use Rattle.luf_tree.specs.Operator.{binary_precedence, is_unary}

module _ {X : Type 0} (kind : X → Tok) (added : X → Bool) where
  -- a word of the program, for this token
  abbrev pub Keeps : X → Tok → Type 0
  Keeps x t = (kind x ≡ t) × (added x ≡ false)

  -- a word that the program has not
  abbrev pub Adds : X → Tok → Type 0
  Adds x t = (kind x ≡ t) × (added x ≡ true)

  -- a string, in quotes or in long brackets
  abbrev pub IsStringWord : X → Type 0
  IsStringWord x = (kind x ≡ Short ⊎ kind x ≡ Long) × (added x ≡ false)

  -- these words do not begin with `(`
  abbrev pub NoParenFirst : List X → Type 0
  NoParenFirst [] = Unit {0}
  NoParenFirst (x ∷ words) = kind x ≡ Sign sign.LeftParen → ⊥

  -- namelist = Name {',' Name}
  pub data WritesNames : List X → List X → Type 0 where
    one_name : {name : X} → Keeps name Name → WritesNames (name ∷ []) (name ∷ [])
    more_names : {name comma : X} {names names_words : List X} → Keeps name Name → Keeps comma (Sign sign.Comma)
        → WritesNames names names_words → WritesNames (name ∷ names) (name ∷ comma ∷ names_words)

  -- parlist = [namelist [',' '...'] | '...']
  pub data WritesParams : List X → Bool → List X → Type 0 where
    no_params : WritesParams [] false []
    dots_alone : {dots : X} → Keeps dots (Sign sign.Dots) → WritesParams [] true (dots ∷ [])
    names_alone : {names names_words : List X} → WritesNames names names_words → WritesParams names false names_words
    names_and_dots : {comma dots : X} {names names_words : List X} → WritesNames names names_words → Keeps comma (Sign sign.Comma)
        → Keeps dots (Sign sign.Dots) → WritesParams names true (names_words ++ (comma ∷ dots ∷ []))

  -- attrib = ['<' Name '>']
  pub data WritesAttribute : Option X → List X → Type 0 where
    no_attribute : WritesAttribute None []
    an_attribute : {less name greater : X} → Keeps less (Sign sign.Less) → Keeps name Name → Keeps greater (Sign sign.Greater)
        → WritesAttribute (Some name) (less ∷ name ∷ greater ∷ [])

  -- attnamelist = Name attrib {',' Name attrib}
  pub data WritesDeclared : List (syntax.DeclaredName (Bare X)) → List X → Type 0 where
    one_declared : {name : X} {a : Option X} {a_words : List X} → Keeps name Name → WritesAttribute a a_words
        → WritesDeclared (record { name = name; attribute = a } ∷ []) (name ∷ a_words)
    more_declared : {name comma : X} {a : Option X} {declared : List (syntax.DeclaredName (Bare X))} {a_words declared_words : List X}
        → Keeps name Name → WritesAttribute a a_words → Keeps comma (Sign sign.Comma) → WritesDeclared declared declared_words
        → WritesDeclared (record { name = name; attribute = a } ∷ declared) (name ∷ (a_words ++ (comma ∷ declared_words)))

  -- Name {'.' Name}
  pub data WritesPath : List X → List X → Type 0 where
    path_end : {name : X} → Keeps name Name → WritesPath (name ∷ []) (name ∷ [])
    path_more : {name dot : X} {path path_words : List X} → Keeps name Name → Keeps dot (Sign sign.Dot) → WritesPath path path_words
        → WritesPath (name ∷ path) (name ∷ dot ∷ path_words)

  -- [':' Name]
  pub data WritesMethod : Option X → List X → Type 0 where
    no_method : WritesMethod None []
    a_method : {colon name : X} → Keeps colon (Sign sign.Colon) → Keeps name Name → WritesMethod (Some name) (colon ∷ name ∷ [])

  -- [';']
  pub data WritesSemicolon : List X → Type 0 where
    no_semicolon : WritesSemicolon []
    a_semicolon : {semicolon : X} → Adds semicolon (Sign sign.Semicolon) → WritesSemicolon (semicolon ∷ [])

  mutual
    -- an expression of a precedence or a higher one: an operand, or a chain of operators of one precedence between operands of higher ones
    pub data WritesExpr : ℕ → syntax.Expression (Bare X) → List X → Type 0 where
      operand_expr : {n : ℕ} {e : syntax.Expression (Bare X)} {e_words : List X} → WritesOperand e e_words → WritesExpr n e e_words
      chain_expr : {n m : ℕ} {e : syntax.Expression (Bare X)} {rest : syntax.Operations (Bare X)} {e_words rest_words : List X} → 0 < m → n ≤ m
          → WritesExpr (m + 1) e e_words → WritesSteps m rest rest_words → WritesExpr n (syntax.chain tt e rest) (e_words ++ rest_words)

    -- operators of one precedence, each with its right operand
    pub data WritesSteps : ℕ → syntax.Operations (Bare X) → List X → Type 0 where
      one_step : {m : ℕ} {sign_word : X} {e : syntax.Expression (Bare X)} {e_words : List X}
          → (binary_precedence (kind sign_word) ≡ m) × (added sign_word ≡ false) → WritesExpr (m + 1) e e_words
          → WritesSteps m (syntax.more_operations (syntax.operation sign_word e) syntax.no_operations) (sign_word ∷ e_words)
      more_steps : {m : ℕ} {sign_word : X} {e : syntax.Expression (Bare X)} {rest : syntax.Operations (Bare X)} {e_words rest_words : List X}
          → (binary_precedence (kind sign_word) ≡ m) × (added sign_word ≡ false) → WritesExpr (m + 1) e e_words → WritesSteps m rest rest_words
          → WritesSteps m (syntax.more_operations (syntax.operation sign_word e) rest) (sign_word ∷ (e_words ++ rest_words))

    -- what stands between binary operators: `^` binds tighter than a unary operator on its left, and groups to the right
    pub data WritesOperand : syntax.Expression (Bare X) → List X → Type 0 where
      unary_operand : {sign_word : X} {e : syntax.Expression (Bare X)} {e_words : List X}
          → (is_unary (kind sign_word) ≡ true) × (added sign_word ≡ false) → WritesOperand e e_words
          → WritesOperand (syntax.unary tt sign_word e) (sign_word ∷ e_words)
      power_operand : {caret : X} {e exponent : syntax.Expression (Bare X)} {e_words exponent_words : List X}
          → WritesSimple e e_words → Keeps caret (Sign sign.Caret) → WritesOperand exponent exponent_words
          → WritesOperand (syntax.power tt e caret exponent) (e_words ++ (caret ∷ exponent_words))
      simple_operand : {e : syntax.Expression (Bare X)} {e_words : List X} → WritesSimple e e_words → WritesOperand e e_words

    -- 'nil' | 'false' | 'true' | Numeral | String | '...' | 'function' body | prefix | table; a prefix is as long as calls go on
    pub data WritesSimple : syntax.Expression (Bare X) → List X → Type 0 where
      nil_simple : {nil_word : X} → Keeps nil_word (Word word.Nil) → WritesSimple (syntax.nil_value tt) (nil_word ∷ [])
      true_simple : {true_word : X} → Keeps true_word (Word word.True) → WritesSimple (syntax.true_value tt) (true_word ∷ [])
      false_simple : {false_word : X} → Keeps false_word (Word word.False) → WritesSimple (syntax.false_value tt) (false_word ∷ [])
      number_simple : {number : X} → Keeps number Number → WritesSimple (syntax.numeral tt number) (number ∷ [])
      string_simple : {string : X} → IsStringWord string → WritesSimple (syntax.string tt string) (string ∷ [])
      vararg_simple : {dots : X} → Keeps dots (Sign sign.Dots) → WritesSimple (syntax.varargs tt) (dots ∷ [])
      function_simple : {function_word : X} {f : syntax.FunctionBody (Bare X)} {f_words : List X} → Keeps function_word (Word word.Function)
          → WritesFuncBody f f_words → WritesSimple (syntax.function tt f) (function_word ∷ f_words)
      table_simple : {fields : syntax.Fields (Bare X)} {fields_words : List X} → WritesTable fields fields_words
          → WritesSimple (syntax.table tt fields) fields_words
      prefix_simple : {e : syntax.Expression (Bare X)} {e_words : List X} → WritesPrefix e e_words → WritesSimple e e_words

    -- prefix = var | call | '(' exp ')'
    pub data WritesPrefix : syntax.Expression (Bare X) → List X → Type 0 where
      variable_prefix : {e : syntax.Expression (Bare X)} {e_words : List X} → WritesVariable e e_words → WritesPrefix e e_words
      call_prefix : {e : syntax.Expression (Bare X)} {e_words : List X} → WritesCall e e_words → WritesPrefix e e_words
      paren_prefix : {e : syntax.Expression (Bare X)} {e_words : List X} → WritesParen e e_words → WritesPrefix e e_words

    -- var = Name | prefix '[' exp ']' | prefix '.' Name
    pub data WritesVariable : syntax.Expression (Bare X) → List X → Type 0 where
      name_variable : {name : X} → Keeps name Name → WritesVariable (syntax.variable tt name) (name ∷ [])
      suffixed_variable : {e : syntax.Expression (Bare X)} {suffixes : syntax.Suffixes (Bare X)} {e_words suffixes_words : List X}
          → WritesHead e e_words → WritesSuffixes false suffixes suffixes_words
          → WritesVariable (syntax.suffixed tt e suffixes) (e_words ++ suffixes_words)

    -- call = prefix [':' Name] args
    pub data WritesCall : syntax.Expression (Bare X) → List X → Type 0 where
      suffixed_call : {e : syntax.Expression (Bare X)} {suffixes : syntax.Suffixes (Bare X)} {e_words suffixes_words : List X}
          → WritesHead e e_words → WritesSuffixes true suffixes suffixes_words
          → WritesCall (syntax.suffixed tt e suffixes) (e_words ++ suffixes_words)

    -- '(' exp ')'
    pub data WritesParen : syntax.Expression (Bare X) → List X → Type 0 where
      paren : {left right : X} {e : syntax.Expression (Bare X)} {e_words : List X} → Keeps left (Sign sign.LeftParen) → WritesExpr 1 e e_words
          → Keeps right (Sign sign.RightParen) → WritesParen (syntax.parenthesised tt e) (left ∷ (e_words ++ (right ∷ [])))

    -- what suffixes follow: a name, or an expression in parentheses
    pub data WritesHead : syntax.Expression (Bare X) → List X → Type 0 where
      name_head : {name : X} → Keeps name Name → WritesHead (syntax.variable tt name) (name ∷ [])
      paren_head : {e : syntax.Expression (Bare X)} {e_words : List X} → WritesParen e e_words → WritesHead e e_words

    -- suffixes, and whether the last of them makes a call
    pub data WritesSuffixes : Bool → syntax.Suffixes (Bare X) → List X → Type 0 where
      one_suffix : {calls : Bool} {s : syntax.Suffix (Bare X)} {s_words : List X} → WritesSuffix calls s s_words
          → WritesSuffixes calls (syntax.more_suffixes s syntax.no_suffixes) s_words
      more_suffixes : {before calls : Bool} {s : syntax.Suffix (Bare X)} {rest : syntax.Suffixes (Bare X)} {s_words rest_words : List X}
          → WritesSuffix before s s_words → WritesSuffixes calls rest rest_words
          → WritesSuffixes calls (syntax.more_suffixes s rest) (s_words ++ rest_words)

    -- '.' Name | '[' exp ']' | [':' Name] args
    pub data WritesSuffix : Bool → syntax.Suffix (Bare X) → List X → Type 0 where
      dot_suffix : {dot name : X} → Keeps dot (Sign sign.Dot) → Keeps name Name → WritesSuffix false (syntax.name_suffix name) (dot ∷ name ∷ [])
      index_suffix : {left right : X} {e : syntax.Expression (Bare X)} {e_words : List X} → Keeps left (Sign sign.LeftBracket)
          → WritesExpr 1 e e_words → Keeps right (Sign sign.RightBracket)
          → WritesSuffix false (syntax.index_suffix e) (left ∷ (e_words ++ (right ∷ [])))
      call_suffix : {args : syntax.Arguments (Bare X)} {args_words : List X} → WritesArgs args args_words
          → WritesSuffix true (syntax.call_suffix args) args_words
      method_suffix : {colon name : X} {args : syntax.Arguments (Bare X)} {args_words : List X} → Keeps colon (Sign sign.Colon) → Keeps name Name
          → WritesArgs args args_words → WritesSuffix true (syntax.method_suffix name args) (colon ∷ name ∷ args_words)

    -- args = '(' [explist] ')' | table | String
    pub data WritesArgs : syntax.Arguments (Bare X) → List X → Type 0 where
      no_args : {left right : X} → Keeps left (Sign sign.LeftParen) → Keeps right (Sign sign.RightParen)
          → WritesArgs (syntax.arguments tt true syntax.no_expressions) (left ∷ right ∷ [])
      list_args : {left right : X} {es : syntax.Expressions (Bare X)} {es_words : List X} → Keeps left (Sign sign.LeftParen)
          → WritesExprs es es_words → Keeps right (Sign sign.RightParen) → is_lone es ≡ false
          → WritesArgs (syntax.arguments tt true es) (left ∷ (es_words ++ (right ∷ [])))
      lone_args : {left right : X} {es : syntax.Expressions (Bare X)} {es_words : List X} → Adds left (Sign sign.LeftParen)
          → WritesExprs es es_words → Adds right (Sign sign.RightParen) → is_lone es ≡ true
          → WritesArgs (syntax.arguments tt true es) (left ∷ (es_words ++ (right ∷ [])))
      string_args : {string : X} → IsStringWord string
          → WritesArgs (syntax.arguments tt false (syntax.more_expressions (syntax.string tt string) syntax.no_expressions)) (string ∷ [])
      table_args : {fields : syntax.Fields (Bare X)} {fields_words : List X} → WritesTable fields fields_words
          → WritesArgs (syntax.arguments tt false (syntax.more_expressions (syntax.table tt fields) syntax.no_expressions)) fields_words

    -- explist = exp {',' exp}
    pub data WritesExprs : syntax.Expressions (Bare X) → List X → Type 0 where
      one_expr : {e : syntax.Expression (Bare X)} {e_words : List X} → WritesExpr 1 e e_words
          → WritesExprs (syntax.more_expressions e syntax.no_expressions) e_words
      more_exprs : {comma : X} {e : syntax.Expression (Bare X)} {es : syntax.Expressions (Bare X)} {e_words es_words : List X}
          → WritesExpr 1 e e_words → Keeps comma (Sign sign.Comma) → WritesExprs es es_words
          → WritesExprs (syntax.more_expressions e es) (e_words ++ (comma ∷ es_words))

    -- table = '{' [field {sep field} [sep]] '}'
    pub data WritesTable : syntax.Fields (Bare X) → List X → Type 0 where
      table : {left right : X} {fields : syntax.Fields (Bare X)} {fields_words : List X} → Keeps left (Sign sign.LeftBrace)
          → WritesFields fields fields_words → Keeps right (Sign sign.RightBrace) → WritesTable fields (left ∷ (fields_words ++ (right ∷ [])))

    -- [field {sep field} [sep]], where sep = ',' | ';'
    pub data WritesFields : syntax.Fields (Bare X) → List X → Type 0 where
      no_fields : WritesFields syntax.no_fields []
      last_field : {f : syntax.Field (Bare X)} {f_words : List X} → WritesField f f_words
          → WritesFields (syntax.more_fields f syntax.no_fields) f_words
      more_fields : {separator : X} {f : syntax.Field (Bare X)} {fields : syntax.Fields (Bare X)} {f_words fields_words : List X} → WritesField f f_words
          → (kind separator ≡ Sign sign.Comma ⊎ kind separator ≡ Sign sign.Semicolon) × (added separator ≡ true) → WritesFields fields fields_words
          → WritesFields (syntax.more_fields f fields) (f_words ++ (separator ∷ fields_words))

    -- field = '[' exp ']' '=' exp | Name '=' exp | exp
    pub data WritesField : syntax.Field (Bare X) → List X → Type 0 where
      keyed_field : {left right assign : X} {key value : syntax.Expression (Bare X)} {key_words value_words : List X}
          → Keeps left (Sign sign.LeftBracket) → WritesExpr 1 key key_words → Keeps right (Sign sign.RightBracket)
          → Keeps assign (Sign sign.Assign) → WritesExpr 1 value value_words
          → WritesField (syntax.keyed_field key value) (left ∷ (key_words ++ (right ∷ assign ∷ value_words)))
      named_field : {name assign : X} {value : syntax.Expression (Bare X)} {value_words : List X} → Keeps name Name
          → Keeps assign (Sign sign.Assign) → WritesExpr 1 value value_words
          → WritesField (syntax.named_field name value) (name ∷ assign ∷ value_words)
      item_field : {e : syntax.Expression (Bare X)} {e_words : List X} → WritesExpr 1 e e_words → WritesField (syntax.item_field e) e_words

    -- body = '(' [parlist] ')' block 'end'
    pub data WritesFuncBody : syntax.FunctionBody (Bare X) → List X → Type 0 where
      func_body : {vararg : Bool} {left right end_word : X} {params : List X} {body : syntax.Block (Bare X)} {params_words body_words : List X}
          → Keeps left (Sign sign.LeftParen) → WritesParams params vararg params_words → Keeps right (Sign sign.RightParen)
          → WritesBlock body body_words → Keeps end_word (Word word.End)
          → WritesFuncBody (syntax.function_body tt params vararg body) (left ∷ (params_words ++ (right ∷ (body_words ++ (end_word ∷ [])))))

    -- block = {stat} ['return' [explist] [';']]
    pub data WritesBlock : syntax.Block (Bare X) → List X → Type 0 where
      block : {stats : syntax.Statements (Bare X)} {stats_words : List X} → WritesStats stats stats_words
          → WritesBlock (syntax.block tt stats) stats_words

    -- {stat} ['return' [explist] [';']]
    pub data WritesStats : syntax.Statements (Bare X) → List X → Type 0 where
      no_stats : WritesStats syntax.no_statements []
      last_stat : {s : syntax.Statement (Bare X)} {s_words : List X} → WritesReturn s s_words
          → WritesStats (syntax.more_statements s syntax.no_statements) s_words
      empty_stat : {semicolon : X} {stats : syntax.Statements (Bare X)} {stats_words : List X} → Adds semicolon (Sign sign.Semicolon)
          → WritesStats stats stats_words → WritesStats stats (semicolon ∷ stats_words)
      more_stats : {s : syntax.Statement (Bare X)} {stats : syntax.Statements (Bare X)} {s_words stats_words : List X} → WritesStat s s_words
          → NoParenFirst stats_words → WritesStats stats stats_words → WritesStats (syntax.more_statements s stats) (s_words ++ stats_words)

    -- 'return' [explist] [';'], the last statement of a block
    pub data WritesReturn : syntax.Statement (Bare X) → List X → Type 0 where
      return_nothing : {return_word : X} {semicolon_words : List X} → Keeps return_word (Word word.Return) → WritesSemicolon semicolon_words
          → WritesReturn (syntax.return_statement tt syntax.no_expressions) (return_word ∷ semicolon_words)
      return_values : {return_word : X} {es : syntax.Expressions (Bare X)} {es_words semicolon_words : List X} → Keeps return_word (Word word.Return)
          → WritesExprs es es_words → WritesSemicolon semicolon_words → WritesReturn (syntax.return_statement tt es) (return_word ∷ (es_words ++ semicolon_words))

    pub data WritesStat : syntax.Statement (Bare X) → List X → Type 0 where
      local_stat : {local_word : X} {declared : List (syntax.DeclaredName (Bare X))} {declared_words : List X}
          → Keeps local_word (Word word.Local) → WritesDeclared declared declared_words
          → WritesStat (syntax.local_statement tt declared syntax.no_expressions) (local_word ∷ declared_words)
      local_values_stat : {local_word assign : X} {declared : List (syntax.DeclaredName (Bare X))} {es : syntax.Expressions (Bare X)} {declared_words es_words : List X}
          → Keeps local_word (Word word.Local) → WritesDeclared declared declared_words → Keeps assign (Sign sign.Assign)
          → WritesExprs es es_words → WritesStat (syntax.local_statement tt declared es) (local_word ∷ (declared_words ++ (assign ∷ es_words)))
      assign_stat : {assign : X} {targets es : syntax.Expressions (Bare X)} {targets_words es_words : List X}
          → WritesTargets targets targets_words → Keeps assign (Sign sign.Assign) → WritesExprs es es_words
          → WritesStat (syntax.assignment tt targets es) (targets_words ++ (assign ∷ es_words))
      call_stat : {e : syntax.Expression (Bare X)} {e_words : List X} → WritesCall e e_words → WritesStat (syntax.call_statement tt e) e_words
      do_stat : {do_word end_word : X} {body : syntax.Block (Bare X)} {body_words : List X} → Keeps do_word (Word word.Do)
          → WritesBlock body body_words → Keeps end_word (Word word.End)
          → WritesStat (syntax.do_statement tt body) (do_word ∷ (body_words ++ (end_word ∷ [])))
      while_stat : {while_word do_word end_word : X} {e : syntax.Expression (Bare X)} {body : syntax.Block (Bare X)} {e_words body_words : List X}
          → Keeps while_word (Word word.While) → WritesExpr 1 e e_words → Keeps do_word (Word word.Do) → WritesBlock body body_words
          → Keeps end_word (Word word.End)
          → WritesStat (syntax.while_statement tt e body) (while_word ∷ (e_words ++ (do_word ∷ (body_words ++ (end_word ∷ [])))))
      repeat_stat : {repeat_word until_word : X} {body : syntax.Block (Bare X)} {e : syntax.Expression (Bare X)} {body_words e_words : List X}
          → Keeps repeat_word (Word word.Repeat) → WritesBlock body body_words → Keeps until_word (Word word.Until) → WritesExpr 1 e e_words
          → WritesStat (syntax.repeat_statement tt body e) (repeat_word ∷ (body_words ++ (until_word ∷ e_words)))
      if_stat : {if_word end_word : X} {arms : syntax.Arms (Bare X)} {other : syntax.OptionalBlock (Bare X)} {arms_words other_words : List X}
          → Keeps if_word (Word word.If) → WritesArms arms arms_words → WritesElse other other_words → Keeps end_word (Word word.End)
          → WritesStat (syntax.if_statement tt arms other) (if_word ∷ (arms_words ++ (other_words ++ (end_word ∷ []))))
      for_stat : {for_word name assign comma do_word end_word : X} {start limit : syntax.Expression (Bare X)} {step : syntax.OptionalExpression (Bare X)} {body : syntax.Block (Bare X)} {start_words limit_words step_words body_words : List X}
          → Keeps for_word (Word word.For) → Keeps name Name → Keeps assign (Sign sign.Assign) → WritesExpr 1 start start_words
          → Keeps comma (Sign sign.Comma) → WritesExpr 1 limit limit_words → WritesForStep step step_words → Keeps do_word (Word word.Do)
          → WritesBlock body body_words → Keeps end_word (Word word.End)
          → WritesStat (syntax.for_statement tt name start limit step body) (for_word ∷ name ∷ assign ∷ (start_words ++ (comma ∷ (limit_words ++ (step_words ++ (do_word ∷ (body_words ++ (end_word ∷ []))))))))
      for_in_stat : {for_word in_word do_word end_word : X} {names : List X} {es : syntax.Expressions (Bare X)} {body : syntax.Block (Bare X)} {names_words es_words body_words : List X}
          → Keeps for_word (Word word.For) → WritesNames names names_words → Keeps in_word (Word word.In) → WritesExprs es es_words
          → Keeps do_word (Word word.Do) → WritesBlock body body_words → Keeps end_word (Word word.End)
          → WritesStat (syntax.for_in_statement tt names es body) (for_word ∷ (names_words ++ (in_word ∷ (es_words ++ (do_word ∷ (body_words ++ (end_word ∷ [])))))))
      function_stat : {function_word : X} {path : List X} {method : Option X} {f : syntax.FunctionBody (Bare X)} {path_words method_words f_words : List X}
          → Keeps function_word (Word word.Function) → WritesPath path path_words → WritesMethod method method_words → WritesFuncBody f f_words
          → WritesStat (syntax.function_statement tt (first_of_path path) (rest_of_path path) method f) (function_word ∷ (path_words ++ (method_words ++ f_words)))
      local_function_stat : {local_word function_word name : X} {f : syntax.FunctionBody (Bare X)} {f_words : List X}
          → Keeps local_word (Word word.Local) → Keeps function_word (Word word.Function) → Keeps name Name → WritesFuncBody f f_words
          → WritesStat (syntax.local_function_statement tt name f) (local_word ∷ function_word ∷ name ∷ f_words)
      label_stat : {opening name closing : X} → Keeps opening (Sign sign.DoubleColon) → Keeps name Name → Keeps closing (Sign sign.DoubleColon)
          → WritesStat (syntax.label tt name) (opening ∷ name ∷ closing ∷ [])
      goto_stat : {goto_word name : X} → Keeps goto_word (Word word.Goto) → Keeps name Name
          → WritesStat (syntax.goto_statement tt name) (goto_word ∷ name ∷ [])
      break_stat : {break_word : X} → Keeps break_word (Word word.Break) → WritesStat (syntax.break_statement tt) (break_word ∷ [])

    -- varlist = var {',' var}
    pub data WritesTargets : syntax.Expressions (Bare X) → List X → Type 0 where
      one_target : {e : syntax.Expression (Bare X)} {e_words : List X} → WritesVariable e e_words
          → WritesTargets (syntax.more_expressions e syntax.no_expressions) e_words
      more_targets : {comma : X} {e : syntax.Expression (Bare X)} {targets : syntax.Expressions (Bare X)} {e_words targets_words : List X}
          → WritesVariable e e_words → Keeps comma (Sign sign.Comma) → WritesTargets targets targets_words
          → WritesTargets (syntax.more_expressions e targets) (e_words ++ (comma ∷ targets_words))

    -- exp 'then' block
    pub data WritesArm : syntax.Arm (Bare X) → List X → Type 0 where
      arm : {then_word : X} {e : syntax.Expression (Bare X)} {body : syntax.Block (Bare X)} {e_words body_words : List X} → WritesExpr 1 e e_words
          → Keeps then_word (Word word.Then) → WritesBlock body body_words → WritesArm (syntax.arm e body) (e_words ++ (then_word ∷ body_words))

    -- exp 'then' block {'elseif' exp 'then' block}
    pub data WritesArms : syntax.Arms (Bare X) → List X → Type 0 where
      one_arm : {head : syntax.Arm (Bare X)} {head_words : List X} → WritesArm head head_words
          → WritesArms (syntax.more_arms head syntax.no_arms) head_words
      more_arms : {elseif_word : X} {head : syntax.Arm (Bare X)} {arms : syntax.Arms (Bare X)} {head_words arms_words : List X}
          → WritesArm head head_words → Keeps elseif_word (Word word.ElseIf) → WritesArms arms arms_words
          → WritesArms (syntax.more_arms head arms) (head_words ++ (elseif_word ∷ arms_words))

    -- ['else' block]
    pub data WritesElse : syntax.OptionalBlock (Bare X) → List X → Type 0 where
      no_else : WritesElse syntax.no_block []
      an_else : {else_word : X} {body : syntax.Block (Bare X)} {body_words : List X} → Keeps else_word (Word word.Else)
          → WritesBlock body body_words → WritesElse (syntax.a_block body) (else_word ∷ body_words)

    -- [',' exp]
    pub data WritesForStep : syntax.OptionalExpression (Bare X) → List X → Type 0 where
      no_for_step : WritesForStep syntax.no_expression []
      a_for_step : {comma : X} {e : syntax.Expression (Bare X)} {e_words : List X} → Keeps comma (Sign sign.Comma) → WritesExpr 1 e e_words
          → WritesForStep (syntax.an_expression e) (comma ∷ e_words)
