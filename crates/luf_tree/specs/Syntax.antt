-- The syntax of a chunk as plain data (Lua 5.4 manual, 9). Before each constructor stands its form in Lua, where
-- [A] is an A or nothing and {A} any number of A.
--
-- One family serves every view of a program: its parts by the numbers of their tokens, by what they spell, by what
-- their names mean. A shape says what stands in its places.
use Rattle.std.specs.Prelude.{Bool, Option, List}

pub record Shape : Type 1 where
  -- where a part stands
  pub Span : Type 0
  -- the name of a variable, where it is declared or used
  pub Name : Type 0
  -- the name of a label, at the label or at a goto
  pub Label : Type 0
  -- every other word: a numeral, a string, the name of a field, a method or an attribute, the operator of a unary
  -- operation, of an operation in a chain or of a power
  pub Leaf : Type 0

-- Name [attrib]
pub record DeclaredName (K : Shape) : Type 0 where
  pub name : K.Name
  pub attribute : Option K.Leaf

mutual
  pub data Expression (K : Shape) : Type 0 where
    -- nil
    nil_value : (span : K.Span) → Expression K
    -- true
    true_value : (span : K.Span) → Expression K
    -- false
    false_value : (span : K.Span) → Expression K
    -- Numeral
    numeral : (span : K.Span) (value : K.Leaf) → Expression K
    -- LiteralString
    string : (span : K.Span) (value : K.Leaf) → Expression K
    -- ...
    varargs : (span : K.Span) → Expression K
    -- Name
    variable : (span : K.Span) (name : K.Name) → Expression K
    -- ( exp )
    parenthesised : (span : K.Span) (inner : Expression K) → Expression K
    -- function body
    function : (span : K.Span) (body : FunctionBody K) → Expression K
    -- '{' {field} '}'
    table : (span : K.Span) (fields : Fields K) → Expression K
    -- unop exp
    unary : (span : K.Span) (sign : K.Leaf) (operand : Expression K) → Expression K
    -- exp {binop exp}, with operators of one precedence
    chain : (span : K.Span) (first : Expression K) (rest : Operations K) → Expression K
    -- exp ^ exp
    power : (span : K.Span) (base : Expression K) (sign : K.Leaf) (exponent : Expression K) → Expression K
    -- Name suffix {suffix}, ( exp ) suffix {suffix}
    suffixed : (span : K.Span) (head : Expression K) (suffixes : Suffixes K) → Expression K

  -- [exp]
  pub data OptionalExpression (K : Shape) : Type 0 where
    no_expression : OptionalExpression K
    an_expression : (e : Expression K) → OptionalExpression K

  -- {exp}
  pub data Expressions (K : Shape) : Type 0 where
    no_expressions : Expressions K
    more_expressions : (first : Expression K) (rest : Expressions K) → Expressions K

  -- binop exp
  pub data Operation (K : Shape) : Type 0 where
    operation : (sign : K.Leaf) (right : Expression K) → Operation K

  -- {binop exp}
  pub data Operations (K : Shape) : Type 0 where
    no_operations : Operations K
    more_operations : (first : Operation K) (rest : Operations K) → Operations K

  pub data Suffix (K : Shape) : Type 0 where
    -- . Name
    name_suffix : (name : K.Leaf) → Suffix K
    -- '[' exp ']'
    index_suffix : (index : Expression K) → Suffix K
    -- args
    call_suffix : (arguments : Arguments K) → Suffix K
    -- : Name args
    method_suffix : (name : K.Leaf) (arguments : Arguments K) → Suffix K

  -- {suffix}
  pub data Suffixes (K : Shape) : Type 0 where
    no_suffixes : Suffixes K
    more_suffixes : (first : Suffix K) (rest : Suffixes K) → Suffixes K

  -- ( [explist] ), with parentheses; a table constructor or LiteralString, without
  pub data Arguments (K : Shape) : Type 0 where
    arguments : (span : K.Span) (parentheses : Bool) (items : Expressions K) → Arguments K

  pub data Field (K : Shape) : Type 0 where
    -- exp
    item_field : (value : Expression K) → Field K
    -- Name = exp
    named_field : (name : K.Leaf) (value : Expression K) → Field K
    -- '[' exp ']' = exp
    keyed_field : (key value : Expression K) → Field K

  -- {field}
  pub data Fields (K : Shape) : Type 0 where
    no_fields : Fields K
    more_fields : (first : Field K) (rest : Fields K) → Fields K

  pub data Statement (K : Shape) : Type 0 where
    -- ;
    empty_statement : (span : K.Span) → Statement K
    -- local attnamelist [= explist]
    local_statement : (span : K.Span) (names : List (DeclaredName K)) (values : Expressions K) → Statement K
    -- varlist = explist
    assignment : (span : K.Span) (targets values : Expressions K) → Statement K
    -- functioncall
    call_statement : (span : K.Span) (call : Expression K) → Statement K
    -- do block end
    do_statement : (span : K.Span) (body : Block K) → Statement K
    -- while exp do block end
    while_statement : (span : K.Span) (test : Expression K) (body : Block K) → Statement K
    -- repeat block until exp
    repeat_statement : (span : K.Span) (body : Block K) (test : Expression K) → Statement K
    -- if exp then block {elseif exp then block} [else block] end
    if_statement : (span : K.Span) (arms : Arms K) (last : OptionalBlock K) → Statement K
    -- for Name = exp , exp [, exp] do block end
    for_statement : (span : K.Span) (name : K.Name) (first limit : Expression K) (step : OptionalExpression K) (body : Block K) → Statement K
    -- for namelist in explist do block end
    for_in_statement : (span : K.Span) (names : List K.Name) (values : Expressions K) (body : Block K) → Statement K
    -- function Name {. Name} [: Name] body: a variable, the fields behind it, the method
    function_statement : (span : K.Span) (name : Option K.Name) (fields : List K.Leaf) (method : Option K.Leaf) (body : FunctionBody K) → Statement K
    -- local function Name body
    local_function_statement : (span : K.Span) (name : K.Name) (body : FunctionBody K) → Statement K
    -- :: Name ::
    label : (span : K.Span) (name : K.Label) → Statement K
    -- goto Name
    goto_statement : (span : K.Span) (name : K.Label) → Statement K
    -- break
    break_statement : (span : K.Span) → Statement K
    -- return [explist] [;]
    return_statement : (span : K.Span) (values : Expressions K) → Statement K

  -- {stat}
  pub data Statements (K : Shape) : Type 0 where
    no_statements : Statements K
    more_statements : (first : Statement K) (rest : Statements K) → Statements K

  -- exp then block
  pub data Arm (K : Shape) : Type 0 where
    arm : (test : Expression K) (body : Block K) → Arm K

  -- {exp then block}
  pub data Arms (K : Shape) : Type 0 where
    no_arms : Arms K
    more_arms : (first : Arm K) (rest : Arms K) → Arms K

  -- {stat} [retstat]
  pub data Block (K : Shape) : Type 0 where
    block : (span : K.Span) (statements : Statements K) → Block K

  -- [block]
  pub data OptionalBlock (K : Shape) : Type 0 where
    no_block : OptionalBlock K
    a_block : (body : Block K) → OptionalBlock K

  -- ( [parlist] ) block end
  pub data FunctionBody (K : Shape) : Type 0 where
    function_body : (span : K.Span) (parameters : List K.Name) (vararg : Bool) (body : Block K) → FunctionBody K
