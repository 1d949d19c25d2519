-- The grammar (Lua 5.4 manual, 9), one constructor for each production or alternative. A derivation of a family
-- says that the tokens from one place to another, which is excluded, form a part of the tree.
--
-- The manual leaves two things to its text, and here they are part of the grammar. Precedence (3.4.8): an
-- expression has a precedence, from 1 on, and operators of one precedence stand in one chain; `IsExpr toks 1` is any
-- expression. And a `(` that can continue a call continues it (after 3.3.1): no `(` follows a prefix expression
-- that is whole (`NoParenFollows`). So of two statements the first does not end in a prefix expression where the second
-- begins with `(`.
use Rattle.std.specs.Prelude.{◌≡◌, ℕ, ◌+◌, ◌<◌, ◌≤◌, ◌⊎◌, Bool, true, false, ◌&&◌, cond, nat_eq, Option, Some, None, List, [], ◌∷◌, length, slice_get}
use Rattle.luf_lex.specs.declared.token.Tok.{Tok}
use Rattle.luf_lex.specs.declared.token.Tok.TheVariants.{Name, Number, Short, Long, Word, Sign}
use Rattle.luf_lex.specs.declared.token.Word.TheVariants as word
use Rattle.luf_lex.specs.declared.token.Sign.TheVariants as sign
use Rattle.luf_tree.specs.declared.tree.Chunk.{Chunk}
use Rattle.luf_tree.specs.declared.tree.Block.{Block, roll-Block}
use Rattle.luf_tree.specs.declared.tree.Stat.{Stat, roll-Stat}
use Rattle.luf_tree.specs.declared.tree.StatKind.{StatKind}
use Rattle.luf_tree.specs.declared.tree.StatKind.TheVariants as stat
use Rattle.luf_tree.specs.declared.tree.Declared.{Declared}
use Rattle.luf_tree.specs.declared.tree.Arm.{Arm, roll-Arm}
use Rattle.luf_tree.specs.declared.tree.FuncBody.{FuncBody, roll-FuncBody}
use Rattle.luf_tree.specs.declared.tree.Expr.{Expr, roll-Expr}
use Rattle.luf_tree.specs.declared.tree.ExprKind.{ExprKind}
use Rattle.luf_tree.specs.declared.tree.ExprKind.TheOpen.{ExprKind-F}
use Rattle.luf_tree.specs.declared.tree.ExprKind.TheVariants as expr
use Rattle.luf_tree.specs.declared.tree.ExprKind.TheViews.{out-Expr, out-ExprKind}
use Rattle.luf_tree.specs.declared.tree.Step.{Step, roll-Step}
use Rattle.luf_tree.specs.declared.tree.Suffix.{Suffix}
use Rattle.luf_tree.specs.declared.tree.Suffix.TheVariants as suffix
use Rattle.luf_tree.specs.declared.tree.Args.{Args, roll-Args}
use Rattle.luf_tree.specs.declared.tree.Field.{Field}
use Rattle.luf_tree.specs.declared.tree.Field.TheVariants as field
use Rattle.luf_tree.specs.Operator.{binary_precedence, is_unary}

-- this token stands at this place
abbrev pub At : List Tok → ℕ → Tok → Type 0
At toks i tok = slice_get toks i ≡ Some tok

-- this token is the one from i to j
pub record IsToken (toks : List Tok) (i : ℕ) (tok : Tok) (j : ℕ) : Type 0 where
  pub there : At toks i tok
  pub next : j ≡ i + 1

-- a string, in quotes or in long brackets
abbrev pub IsString : List Tok → ℕ → ℕ → Type 0
IsString toks i j = IsToken toks i Short j ⊎ IsToken toks i Long j

-- no `(` stands there, which would continue a prefix expression that ends before it
abbrev pub NoParenFollows : List Tok → ℕ → Type 0
NoParenFollows toks i = At toks i (Sign sign.LeftParen) → ⊥

-- an expression or a statement of the tokens from i to j
abbrev pub expression : ℕ → ℕ → ExprKind → Expr
expression i j kind = roll-Expr (record { from = i; to = j; what = kind })

abbrev pub is_name_kind : {a b c d e f g h i j k : Type 0} → ExprKind-F a b c d e f g h i j k → Bool
is_name_kind ExprKind-F.Name = true
is_name_kind _ = false

-- this expression is the name from i on
abbrev pub is_name_from : ℕ → Expr → Bool
is_name_from i e = (nat_eq (out-Expr e).from i && nat_eq (out-Expr e).to (i + 1)) && is_name_kind (out-ExprKind (out-Expr e).what)

-- a head and its suffixes; a name needs no place of its own, since it begins where the whole does
abbrev pub suffixed : ℕ → ℕ → Expr → List Suffix → Expr
suffixed i j head suffixes = expression i j (cond (is_name_from i head) (expr.NameSuffixed suffixes) (expr.Suffixed head suffixes))

abbrev pub statement : ℕ → ℕ → StatKind → Stat
statement i j kind = roll-Stat (record { from = i; to = j; what = kind })

-- namelist = Name {',' Name}
pub data AreNames (toks : List Tok) : ℕ → ℕ → List ℕ → Type 0 where
  one_name : {i j : ℕ} → IsToken toks i Name j → AreNames toks i j (i ∷ [])
  more_names : {i j k l : ℕ} {names : List ℕ} → IsToken toks i Name j → IsToken toks j (Sign sign.Comma) k → AreNames toks k l names → AreNames toks i l (i ∷ names)

-- parlist = [namelist [',' '...'] | '...']
pub data AreParams (toks : List Tok) : ℕ → ℕ → List ℕ → Bool → Type 0 where
  no_params : {i : ℕ} → AreParams toks i i [] false
  dots_alone : {i j : ℕ} → IsToken toks i (Sign sign.Dots) j → AreParams toks i j [] true
  names_alone : {i j : ℕ} {names : List ℕ} → AreNames toks i j names → AreParams toks i j names false
  names_and_dots : {i j k l : ℕ} {names : List ℕ} → AreNames toks i j names → IsToken toks j (Sign sign.Comma) k → IsToken toks k (Sign sign.Dots) l
      → AreParams toks i l names true

-- attrib = ['<' Name '>']
pub data IsAttribute (toks : List Tok) : ℕ → ℕ → Option ℕ → Type 0 where
  no_attribute : {i : ℕ} → IsAttribute toks i i None
  an_attribute : {i j k l : ℕ} → IsToken toks i (Sign sign.Less) j → IsToken toks j Name k → IsToken toks k (Sign sign.Greater) l → IsAttribute toks i l (Some j)

-- attnamelist = Name attrib {',' Name attrib}
pub data AreDeclared (toks : List Tok) : ℕ → ℕ → List Declared → Type 0 where
  one_declared : {i j k : ℕ} {a : Option ℕ} → IsToken toks i Name j → IsAttribute toks j k a → AreDeclared toks i k (record { name = i; attribute = a } ∷ [])
  more_declared : {i j k l o : ℕ} {a : Option ℕ} {declared : List Declared} → IsToken toks i Name j → IsAttribute toks j k a → IsToken toks k (Sign sign.Comma) l
      → AreDeclared toks l o declared → AreDeclared toks i o (record { name = i; attribute = a } ∷ declared)

-- Name {'.' Name}
pub data IsPath (toks : List Tok) : ℕ → ℕ → List ℕ → Type 0 where
  path_end : {i j : ℕ} → IsToken toks i Name j → IsPath toks i j (i ∷ [])
  path_more : {i j k l : ℕ} {path : List ℕ} → IsToken toks i Name j → IsToken toks j (Sign sign.Dot) k → IsPath toks k l path → IsPath toks i l (i ∷ path)

-- [':' Name]
pub data IsMethod (toks : List Tok) : ℕ → ℕ → Option ℕ → Type 0 where
  no_method : {i : ℕ} → IsMethod toks i i None
  a_method : {i j k : ℕ} → IsToken toks i (Sign sign.Colon) j → IsToken toks j Name k → IsMethod toks i k (Some j)

-- [';']
pub data IsSemicolon (toks : List Tok) : ℕ → ℕ → Type 0 where
  no_semicolon : {i : ℕ} → IsSemicolon toks i i
  a_semicolon : {i j : ℕ} → IsToken toks i (Sign sign.Semicolon) j → IsSemicolon toks i j

mutual
  -- an expression of a precedence or a higher one: an operand, or a chain of operators of one precedence between operands of higher ones
  pub data IsExpr (toks : List Tok) : ℕ → ℕ → ℕ → Expr → Type 0 where
    operand_expr : {n i j : ℕ} {e : Expr} → IsOperand toks i j e → IsExpr toks n i j e
    chain_expr : {n m i j k : ℕ} {first : Expr} {rest : List Step} → 0 < m → n ≤ m → IsExpr toks (m + 1) i j first → AreSteps toks m j k rest
        → IsExpr toks n i k (expression i k (expr.Chain first rest))

  -- operators of one precedence, each with its right operand
  pub data AreSteps (toks : List Tok) : ℕ → ℕ → ℕ → List Step → Type 0 where
    one_step : {m i j k : ℕ} {tok : Tok} {e : Expr} → IsToken toks i tok j → binary_precedence tok ≡ m → IsExpr toks (m + 1) j k e
        → AreSteps toks m i k (roll-Step (record { sign = i; right = e }) ∷ [])
    more_steps : {m i j k l : ℕ} {tok : Tok} {e : Expr} {rest : List Step} → IsToken toks i tok j → binary_precedence tok ≡ m → IsExpr toks (m + 1) j k e
        → AreSteps toks m k l rest → AreSteps toks m i l (roll-Step (record { sign = i; right = e }) ∷ rest)

  -- what stands between binary operators: `^` binds tighter than a unary operator on its left, and groups to the right
  pub data IsOperand (toks : List Tok) : ℕ → ℕ → Expr → Type 0 where
    unary_operand : {i j k : ℕ} {tok : Tok} {e : Expr} → IsToken toks i tok j → is_unary tok ≡ true → IsOperand toks j k e
        → IsOperand toks i k (expression i k (expr.Unary e))
    power_operand : {i j k l : ℕ} {base exponent : Expr} → IsSimple toks i j base → IsToken toks j (Sign sign.Caret) k → IsOperand toks k l exponent
        → IsOperand toks i l (expression i l (expr.Power base j exponent))
    simple_operand : {i j : ℕ} {e : Expr} → IsSimple toks i j e → IsOperand toks i j e

  -- 'nil' | 'false' | 'true' | Numeral | String | '...' | 'function' body | prefix | table; a prefix is as long as calls go on
  pub data IsSimple (toks : List Tok) : ℕ → ℕ → Expr → Type 0 where
    nil_simple : {i j : ℕ} → IsToken toks i (Word word.Nil) j → IsSimple toks i j (expression i j expr.Nil)
    true_simple : {i j : ℕ} → IsToken toks i (Word word.True) j → IsSimple toks i j (expression i j expr.True)
    false_simple : {i j : ℕ} → IsToken toks i (Word word.False) j → IsSimple toks i j (expression i j expr.False)
    number_simple : {i j : ℕ} → IsToken toks i Number j → IsSimple toks i j (expression i j expr.Number)
    string_simple : {i j : ℕ} → IsString toks i j → IsSimple toks i j (expression i j expr.Str)
    vararg_simple : {i j : ℕ} → IsToken toks i (Sign sign.Dots) j → IsSimple toks i j (expression i j expr.Vararg)
    function_simple : {i j k : ℕ} {f : FuncBody} → IsToken toks i (Word word.Function) j → IsFuncBody toks j k f → IsSimple toks i k (expression i k (expr.Function f))
    table_simple : {i j : ℕ} {fields : List Field} → IsTable toks i j fields → IsSimple toks i j (expression i j (expr.Table fields))
    prefix_simple : {i j : ℕ} {e : Expr} → IsPrefix toks i j e → NoParenFollows toks j → IsSimple toks i j e

  -- prefix = var | call | '(' exp ')'
  pub data IsPrefix (toks : List Tok) : ℕ → ℕ → Expr → Type 0 where
    variable_prefix : {i j : ℕ} {e : Expr} → IsVariable toks i j e → IsPrefix toks i j e
    call_prefix : {i j : ℕ} {e : Expr} → IsCall toks i j e → IsPrefix toks i j e
    paren_prefix : {i j : ℕ} {e : Expr} → IsParen toks i j e → IsPrefix toks i j e

  -- var = Name | prefix '[' exp ']' | prefix '.' Name
  pub data IsVariable (toks : List Tok) : ℕ → ℕ → Expr → Type 0 where
    name_variable : {i j : ℕ} → IsToken toks i Name j → IsVariable toks i j (expression i j expr.Name)
    suffixed_variable : {i j k : ℕ} {head : Expr} {suffixes : List Suffix} → IsHead toks i j head → AreSuffixes toks false j k suffixes
        → IsVariable toks i k (suffixed i k head suffixes)

  -- call = prefix [':' Name] args
  pub data IsCall (toks : List Tok) : ℕ → ℕ → Expr → Type 0 where
    suffixed_call : {i j k : ℕ} {head : Expr} {suffixes : List Suffix} → IsHead toks i j head → AreSuffixes toks true j k suffixes
        → IsCall toks i k (suffixed i k head suffixes)

  -- '(' exp ')'
  pub data IsParen (toks : List Tok) : ℕ → ℕ → Expr → Type 0 where
    paren : {i j k l : ℕ} {e : Expr} → IsToken toks i (Sign sign.LeftParen) j → IsExpr toks 1 j k e → IsToken toks k (Sign sign.RightParen) l
        → IsParen toks i l (expression i l (expr.Paren e))

  -- what suffixes follow: a name, or an expression in parentheses
  pub data IsHead (toks : List Tok) : ℕ → ℕ → Expr → Type 0 where
    name_head : {i j : ℕ} → IsToken toks i Name j → IsHead toks i j (expression i j expr.Name)
    paren_head : {i j : ℕ} {e : Expr} → IsParen toks i j e → IsHead toks i j e

  -- suffixes, and whether the last of them makes a call
  pub data AreSuffixes (toks : List Tok) : Bool → ℕ → ℕ → List Suffix → Type 0 where
    one_suffix : {calls : Bool} {i j : ℕ} {s : Suffix} → IsSuffix toks calls i j s → AreSuffixes toks calls i j (s ∷ [])
    more_suffixes : {before calls : Bool} {i j k : ℕ} {s : Suffix} {rest : List Suffix} → IsSuffix toks before i j s → AreSuffixes toks calls j k rest
        → AreSuffixes toks calls i k (s ∷ rest)

  -- '.' Name | '[' exp ']' | [':' Name] args
  pub data IsSuffix (toks : List Tok) : Bool → ℕ → ℕ → Suffix → Type 0 where
    dot_suffix : {i j k : ℕ} → IsToken toks i (Sign sign.Dot) j → IsToken toks j Name k → IsSuffix toks false i k (suffix.Dot j)
    index_suffix : {i j k l : ℕ} {e : Expr} → IsToken toks i (Sign sign.LeftBracket) j → IsExpr toks 1 j k e → IsToken toks k (Sign sign.RightBracket) l
        → IsSuffix toks false i l (suffix.Index e)
    call_suffix : {i j : ℕ} {args : Args} → IsArgs toks i j args → IsSuffix toks true i j (suffix.Call args)
    method_suffix : {i j k l : ℕ} {args : Args} → IsToken toks i (Sign sign.Colon) j → IsToken toks j Name k → IsArgs toks k l args
        → IsSuffix toks true i l (suffix.Method j args)

  -- args = '(' [explist] ')' | table | String
  pub data IsArgs (toks : List Tok) : ℕ → ℕ → Args → Type 0 where
    no_args : {i j k : ℕ} → IsToken toks i (Sign sign.LeftParen) j → IsToken toks j (Sign sign.RightParen) k
        → IsArgs toks i k (roll-Args (record { from = i; to = k; parens = true; items = [] }))
    list_args : {i j k l : ℕ} {es : List Expr} → IsToken toks i (Sign sign.LeftParen) j → AreExprs toks j k es → IsToken toks k (Sign sign.RightParen) l
        → IsArgs toks i l (roll-Args (record { from = i; to = l; parens = true; items = es }))
    string_args : {i j : ℕ} → IsString toks i j → IsArgs toks i j (roll-Args (record { from = i; to = j; parens = false; items = expression i j expr.Str ∷ [] }))
    table_args : {i j : ℕ} {fields : List Field} → IsTable toks i j fields
        → IsArgs toks i j (roll-Args (record { from = i; to = j; parens = false; items = expression i j (expr.Table fields) ∷ [] }))

  -- explist = exp {',' exp}
  pub data AreExprs (toks : List Tok) : ℕ → ℕ → List Expr → Type 0 where
    one_expr : {i j : ℕ} {e : Expr} → IsExpr toks 1 i j e → AreExprs toks i j (e ∷ [])
    more_exprs : {i j k l : ℕ} {e : Expr} {es : List Expr} → IsExpr toks 1 i j e → IsToken toks j (Sign sign.Comma) k → AreExprs toks k l es → AreExprs toks i l (e ∷ es)

  -- table = '{' [field {sep field} [sep]] '}'
  pub data IsTable (toks : List Tok) : ℕ → ℕ → List Field → Type 0 where
    table : {i j k l : ℕ} {fields : List Field} → IsToken toks i (Sign sign.LeftBrace) j → AreFields toks j k fields → IsToken toks k (Sign sign.RightBrace) l
        → IsTable toks i l fields

  -- [field {sep field} [sep]], where sep = ',' | ';'
  pub data AreFields (toks : List Tok) : ℕ → ℕ → List Field → Type 0 where
    no_fields : {i : ℕ} → AreFields toks i i []
    last_field : {i j : ℕ} {f : Field} → IsField toks i j f → AreFields toks i j (f ∷ [])
    more_fields : {i j k l : ℕ} {f : Field} {fields : List Field} → IsField toks i j f → IsToken toks j (Sign sign.Comma) k ⊎ IsToken toks j (Sign sign.Semicolon) k
        → AreFields toks k l fields → AreFields toks i l (f ∷ fields)

  -- field = '[' exp ']' '=' exp | Name '=' exp | exp
  pub data IsField (toks : List Tok) : ℕ → ℕ → Field → Type 0 where
    keyed_field : {i j k l o p : ℕ} {key value : Expr} → IsToken toks i (Sign sign.LeftBracket) j → IsExpr toks 1 j k key → IsToken toks k (Sign sign.RightBracket) l
        → IsToken toks l (Sign sign.Assign) o → IsExpr toks 1 o p value → IsField toks i p (field.Keyed key value)
    named_field : {i j k l : ℕ} {value : Expr} → IsToken toks i Name j → IsToken toks j (Sign sign.Assign) k → IsExpr toks 1 k l value
        → IsField toks i l (field.Named i value)
    item_field : {i j : ℕ} {e : Expr} → IsExpr toks 1 i j e → IsField toks i j (field.Item e)

  -- body = '(' [parlist] ')' block 'end'
  pub data IsFuncBody (toks : List Tok) : ℕ → ℕ → FuncBody → Type 0 where
    func_body : {i j k l o p : ℕ} {params : List ℕ} {vararg : Bool} {body : Block} → IsToken toks i (Sign sign.LeftParen) j → AreParams toks j k params vararg
        → IsToken toks k (Sign sign.RightParen) l → IsBlock toks l o body → IsToken toks o (Word word.End) p
        → IsFuncBody toks i p (roll-FuncBody (record { from = i; to = p; params = params; vararg = vararg; body = body }))

  -- block = {stat} ['return' [explist] [';']]
  pub data IsBlock (toks : List Tok) : ℕ → ℕ → Block → Type 0 where
    block : {i j : ℕ} {stats : List Stat} → AreStats toks i j stats → IsBlock toks i j (roll-Block (record { from = i; to = j; stats = stats }))

  -- {stat} ['return' [explist] [';']]
  pub data AreStats (toks : List Tok) : ℕ → ℕ → List Stat → Type 0 where
    no_stats : {i : ℕ} → AreStats toks i i []
    last_stat : {i j : ℕ} {s : Stat} → IsReturn toks i j s → AreStats toks i j (s ∷ [])
    more_stats : {i j k : ℕ} {s : Stat} {stats : List Stat} → IsStat toks i j s → AreStats toks j k stats → AreStats toks i k (s ∷ stats)

  -- 'return' [explist] [';'], the last statement of a block
  pub data IsReturn (toks : List Tok) : ℕ → ℕ → Stat → Type 0 where
    return_nothing : {i j k : ℕ} → IsToken toks i (Word word.Return) j → IsSemicolon toks j k → IsReturn toks i k (statement i k (stat.Return []))
    return_values : {i j k l : ℕ} {es : List Expr} → IsToken toks i (Word word.Return) j → AreExprs toks j k es → IsSemicolon toks k l
        → IsReturn toks i l (statement i l (stat.Return es))

  pub data IsStat (toks : List Tok) : ℕ → ℕ → Stat → Type 0 where
    -- ';'
    empty_stat : {i j : ℕ} → IsToken toks i (Sign sign.Semicolon) j → IsStat toks i j (statement i j stat.Empty)
    -- 'local' attnamelist ['=' explist]
    local_stat : {i j k : ℕ} {declared : List Declared} → IsToken toks i (Word word.Local) j → AreDeclared toks j k declared
        → IsStat toks i k (statement i k (stat.Local declared []))
    local_values_stat : {i j k l o : ℕ} {declared : List Declared} {es : List Expr} → IsToken toks i (Word word.Local) j → AreDeclared toks j k declared
        → IsToken toks k (Sign sign.Assign) l → AreExprs toks l o es → IsStat toks i o (statement i o (stat.Local declared es))
    -- varlist '=' explist
    assign_stat : {i j k l : ℕ} {targets es : List Expr} → AreTargets toks i j targets → IsToken toks j (Sign sign.Assign) k → AreExprs toks k l es
        → IsStat toks i l (statement i l (stat.Assign targets es))
    -- call
    call_stat : {i j : ℕ} {e : Expr} → IsCall toks i j e → NoParenFollows toks j → IsStat toks i j (statement i j (stat.Call e))
    -- 'do' block 'end'
    do_stat : {i j k l : ℕ} {body : Block} → IsToken toks i (Word word.Do) j → IsBlock toks j k body → IsToken toks k (Word word.End) l
        → IsStat toks i l (statement i l (stat.Do body))
    -- 'while' exp 'do' block 'end'
    while_stat : {i j k l o p : ℕ} {e : Expr} {body : Block} → IsToken toks i (Word word.While) j → IsExpr toks 1 j k e → IsToken toks k (Word word.Do) l
        → IsBlock toks l o body → IsToken toks o (Word word.End) p → IsStat toks i p (statement i p (stat.While e body))
    -- 'repeat' block 'until' exp
    repeat_stat : {i j k l o : ℕ} {body : Block} {e : Expr} → IsToken toks i (Word word.Repeat) j → IsBlock toks j k body → IsToken toks k (Word word.Until) l
        → IsExpr toks 1 l o e → IsStat toks i o (statement i o (stat.Repeat body e))
    -- 'if' exp 'then' block {'elseif' exp 'then' block} ['else' block] 'end'
    if_stat : {i j k l o : ℕ} {arms : List Arm} {last : Option Block} → IsToken toks i (Word word.If) j → AreArms toks j k arms → IsElse toks k l last
        → IsToken toks l (Word word.End) o → IsStat toks i o (statement i o (stat.If arms last))
    -- 'for' Name '=' exp ',' exp [',' exp] 'do' block 'end'
    for_stat : {i j k l m n o p q r s : ℕ} {first limit : Expr} {step : Option Expr} {body : Block} → IsToken toks i (Word word.For) j → IsToken toks j Name k
        → IsToken toks k (Sign sign.Assign) l → IsExpr toks 1 l m first → IsToken toks m (Sign sign.Comma) n → IsExpr toks 1 n o limit → IsForStep toks o p step
        → IsToken toks p (Word word.Do) q → IsBlock toks q r body → IsToken toks r (Word word.End) s
        → IsStat toks i s (statement i s (stat.For j first limit step body))
    -- 'for' namelist 'in' explist 'do' block 'end'
    for_in_stat : {i j k l o p q r : ℕ} {names : List ℕ} {es : List Expr} {body : Block} → IsToken toks i (Word word.For) j → AreNames toks j k names
        → IsToken toks k (Word word.In) l → AreExprs toks l o es → IsToken toks o (Word word.Do) p → IsBlock toks p q body → IsToken toks q (Word word.End) r
        → IsStat toks i r (statement i r (stat.ForIn names es body))
    -- 'function' Name {'.' Name} [':' Name] body
    function_stat : {i j k l o : ℕ} {path : List ℕ} {method : Option ℕ} {f : FuncBody} → IsToken toks i (Word word.Function) j → IsPath toks j k path
        → IsMethod toks k l method → IsFuncBody toks l o f → IsStat toks i o (statement i o (stat.Function path method f))
    -- 'local' 'function' Name body
    local_function_stat : {i j k l o : ℕ} {f : FuncBody} → IsToken toks i (Word word.Local) j → IsToken toks j (Word word.Function) k → IsToken toks k Name l
        → IsFuncBody toks l o f → IsStat toks i o (statement i o (stat.LocalFunction k f))
    -- '::' Name '::'
    label_stat : {i j k l : ℕ} → IsToken toks i (Sign sign.DoubleColon) j → IsToken toks j Name k → IsToken toks k (Sign sign.DoubleColon) l
        → IsStat toks i l (statement i l (stat.Label j))
    -- 'goto' Name
    goto_stat : {i j k : ℕ} → IsToken toks i (Word word.Goto) j → IsToken toks j Name k → IsStat toks i k (statement i k (stat.Goto j))
    -- 'break'
    break_stat : {i j : ℕ} → IsToken toks i (Word word.Break) j → IsStat toks i j (statement i j stat.Break)

  -- varlist = var {',' var}
  pub data AreTargets (toks : List Tok) : ℕ → ℕ → List Expr → Type 0 where
    one_target : {i j : ℕ} {e : Expr} → IsVariable toks i j e → AreTargets toks i j (e ∷ [])
    more_targets : {i j k l : ℕ} {e : Expr} {targets : List Expr} → IsVariable toks i j e → IsToken toks j (Sign sign.Comma) k → AreTargets toks k l targets
        → AreTargets toks i l (e ∷ targets)

  -- exp 'then' block
  pub data IsArm (toks : List Tok) : ℕ → ℕ → Arm → Type 0 where
    arm : {i j k l : ℕ} {e : Expr} {body : Block} → IsExpr toks 1 i j e → IsToken toks j (Word word.Then) k → IsBlock toks k l body
        → IsArm toks i l (roll-Arm (record { test = e; body = body }))

  -- exp 'then' block {'elseif' exp 'then' block}
  pub data AreArms (toks : List Tok) : ℕ → ℕ → List Arm → Type 0 where
    one_arm : {i j : ℕ} {first : Arm} → IsArm toks i j first → AreArms toks i j (first ∷ [])
    more_arms : {i j k l : ℕ} {first : Arm} {arms : List Arm} → IsArm toks i j first → IsToken toks j (Word word.ElseIf) k → AreArms toks k l arms
        → AreArms toks i l (first ∷ arms)

  -- ['else' block]
  pub data IsElse (toks : List Tok) : ℕ → ℕ → Option Block → Type 0 where
    no_else : {i : ℕ} → IsElse toks i i None
    an_else : {i j k : ℕ} {body : Block} → IsToken toks i (Word word.Else) j → IsBlock toks j k body → IsElse toks i k (Some body)

  -- [',' exp]
  pub data IsForStep (toks : List Tok) : ℕ → ℕ → Option Expr → Type 0 where
    no_for_step : {i : ℕ} → IsForStep toks i i None
    a_for_step : {i j k : ℕ} {e : Expr} → IsToken toks i (Sign sign.Comma) j → IsExpr toks 1 j k e → IsForStep toks i k (Some e)

-- chunk = block: all tokens form a block
abbrev pub IsChunk : List Tok → Chunk → Type 0
IsChunk toks c = IsBlock toks 0 (length toks) c.block
