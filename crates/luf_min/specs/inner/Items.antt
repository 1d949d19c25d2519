-- The items of a text: its words as the program holds them, before they are spelled. What is written of a chunk is
-- written of it in items, by the same definition.
use Rattle.std.specs.Prelude.{ℕ, ◌<◌, Bool, false, ◌&&◌, if◌then◌else◌, Option, Some, None, List, [], ◌∷◌, ◌++◌, map, get_or}
use Rattle.std.specs.Option.{option_map}
use Rattle.luf_lex.specs.Word.{word_spelling}
use Rattle.luf_lex.specs.Sign.{sign_spelling}
use Rattle.luf_lex.specs.declared.token.Tok.{Tok}
use Rattle.luf_lex.specs.declared.token.Tok.TheVariants.{Name, Word, Sign}
use Rattle.luf_lex.specs.declared.token.Sign.TheVariants as sign
use Rattle.luf_lex.specs.declared.token.Word.TheVariants as word
use Rattle.luf_tree.specs.Syntax as syntax
use Rattle.luf_tree.specs.TokenSyntax as tokens
use Rattle.luf_bare.specs.Bare.{words_at, chosen_declared, chosen_expression, chosen_optional_expression, chosen_expressions, chosen_operation, chosen_operations, chosen_suffix, chosen_suffixes, chosen_arguments, chosen_field, chosen_fields, chosen_statement, chosen_statements, chosen_arm, chosen_arms, chosen_block, chosen_optional_block, chosen_function_body}
use Rattle.luf_bare.specs.Writing.{opens, written_names, written_parameters, written_attribute, written_declared, written_path, written_method, written_expression, written_for_step, written_expressions, written_operation, written_operations, written_suffix, written_suffixes, written_arguments, written_field, written_fields, written_statement, written_statements, written_arm, written_arms, written_block, written_else, written_body}
use Rattle.luf_scope.specs.Local.{Spelling}
use Rattle.luf_min.specs.declared.item.Item.{Item}
use Rattle.luf_min.specs.declared.item.Item.TheVariants as item

-- how an item is spelled, where the tokens are spelled so
abbrev pub spelling_of : Spelling → Item → List ℕ
spelling_of spelled (item.Token n) = spelled n
spelling_of spelled (item.Word w) = word_spelling w
spelling_of spelled (item.Sign s) = sign_spelling s

-- a token of the source, if it is one, is one of so many
abbrev pub IsWithin : ℕ → Item → Type 0
IsWithin count (item.Token n) = n < count
IsWithin count _ = Unit {0}

-- the token that stands there; behind the last stands a name
abbrev pub token_at : List Tok → ℕ → Tok
token_at toks n = get_or toks n Name

-- the token that an item is
abbrev pub kind_of : List Tok → Item → Tok
kind_of toks (item.Token n) = token_at toks n
kind_of toks (item.Word w) = Word w
kind_of toks (item.Sign s) = Sign s

-- the item of a keyword or a sign: no other token is put or added
abbrev pub item_of : Tok → Item
item_of (Word w) = item.Word w
item_of (Sign s) = item.Sign s
item_of _ = item.Sign sign.Semicolon

abbrev pub added_items : Tok → List Item
added_items t = item_of t ∷ []

-- no table ends with a separator
abbrev pub never_trails : tokens.Span → Bool
never_trails _ = false

-- no lone argument stands in parentheses
abbrev pub never_encloses : tokens.Expressions → Bool → Bool
never_encloses _ _ = false

abbrev pub of_statement : {M : syntax.Shape} → (syntax.Statement M → List Item) → Option (syntax.Statement M) → List Item
of_statement items None = []
of_statement items (Some s) = items s

-- whether the first of these items is `(`
abbrev pub opens_first : List Tok → List Item → Bool
opens_first toks [] = false
opens_first toks (x ∷ items) = opens (kind_of toks x)

-- the items of each part of a chunk that has these tokens
module _ (toks : List Tok) where
  abbrev pub items_in_names : List ℕ → List Item
  items_in_names names = written_names (kind_of toks) item_of added_items never_trails (map item.Token names)

  abbrev pub items_in_parameters : List ℕ → Bool → List Item
  items_in_parameters names vararg = written_parameters (kind_of toks) item_of added_items never_trails (map item.Token names) vararg

  abbrev pub items_in_attribute : Option ℕ → List Item
  items_in_attribute a = written_attribute (kind_of toks) item_of added_items never_trails (option_map item.Token a)

  abbrev pub items_in_declared : List tokens.DeclaredName → List Item
  items_in_declared ds = written_declared (kind_of toks) item_of added_items never_trails (map (chosen_declared (words_at item.Token) never_encloses) ds)

  abbrev pub items_in_path : Option ℕ → List ℕ → List Item
  items_in_path name fields = written_path (kind_of toks) item_of added_items never_trails (option_map item.Token name) (map item.Token fields)

  abbrev pub items_in_method : Option ℕ → List Item
  items_in_method m = written_method (kind_of toks) item_of added_items never_trails (option_map item.Token m)

  abbrev pub items_in_expression : tokens.Expression → List Item
  items_in_expression e = written_expression (kind_of toks) item_of added_items never_trails (chosen_expression (words_at item.Token) never_encloses e)

  abbrev pub items_in_for_step : tokens.OptionalExpression → List Item
  items_in_for_step e = written_for_step (kind_of toks) item_of added_items never_trails (chosen_optional_expression (words_at item.Token) never_encloses e)

  abbrev pub items_in_expressions : tokens.Expressions → List Item
  items_in_expressions es = written_expressions (kind_of toks) item_of added_items never_trails (chosen_expressions (words_at item.Token) never_encloses es)

  -- `=` and the values, if there are any
  abbrev pub items_in_values : tokens.Expressions → List Item
  items_in_values syntax.no_expressions = []
  items_in_values (syntax.more_expressions e es) = item.Sign sign.Assign ∷ items_in_expressions (syntax.more_expressions e es)

  abbrev pub items_in_operation : tokens.Operation → List Item
  items_in_operation o = written_operation (kind_of toks) item_of added_items never_trails (chosen_operation (words_at item.Token) never_encloses o)

  abbrev pub items_in_operations : tokens.Operations → List Item
  items_in_operations os = written_operations (kind_of toks) item_of added_items never_trails (chosen_operations (words_at item.Token) never_encloses os)

  abbrev pub items_in_suffix : tokens.Suffix → List Item
  items_in_suffix s = written_suffix (kind_of toks) item_of added_items never_trails (chosen_suffix (words_at item.Token) never_encloses s)

  abbrev pub items_in_suffixes : tokens.Suffixes → List Item
  items_in_suffixes ss = written_suffixes (kind_of toks) item_of added_items never_trails (chosen_suffixes (words_at item.Token) never_encloses ss)

  abbrev pub items_in_arguments : tokens.Arguments → List Item
  items_in_arguments a = written_arguments (kind_of toks) item_of added_items never_trails (chosen_arguments (words_at item.Token) never_encloses a)

  abbrev pub items_in_field : tokens.Field → List Item
  items_in_field f = written_field (kind_of toks) item_of added_items never_trails (chosen_field (words_at item.Token) never_encloses f)

  abbrev pub items_in_fields : tokens.Fields → List Item
  items_in_fields fs = written_fields (kind_of toks) item_of added_items never_trails false (chosen_fields (words_at item.Token) never_encloses fs)

  -- of a statement that is one of the program; an empty one has none
  abbrev pub items_in_statement : tokens.Statement → List Item
  items_in_statement s = of_statement (written_statement (kind_of toks) item_of added_items never_trails) (chosen_statement (words_at item.Token) never_encloses s)

  -- of statements, and whether others of their block are before them
  abbrev pub items_in_statements : Bool → tokens.Statements → List Item
  items_in_statements others ss = written_statements (kind_of toks) item_of added_items never_trails others (chosen_statements (words_at item.Token) never_encloses ss)

  -- the `;` before a statement that others precede
  abbrev pub guard_of : Bool → List Item → List Item
  guard_of others items = if others && opens_first toks items then item.Sign sign.Semicolon ∷ [] else []

  abbrev pub items_in_arm : tokens.Arm → List Item
  items_in_arm a = written_arm (kind_of toks) item_of added_items never_trails (chosen_arm (words_at item.Token) never_encloses a)

  abbrev pub items_in_arms : tokens.Arms → List Item
  items_in_arms arms = written_arms (kind_of toks) item_of added_items never_trails (chosen_arms (words_at item.Token) never_encloses arms)

  abbrev pub items_in_block : tokens.Block → List Item
  items_in_block b = written_block (kind_of toks) item_of added_items never_trails (chosen_block (words_at item.Token) never_encloses b)

  -- of a block and its `end`
  abbrev pub items_to_end : tokens.Block → List Item
  items_to_end b = items_in_block b ++ (item.Word word.End ∷ [])

  -- of a block between `do` and `end`
  abbrev pub items_in_do : tokens.Block → List Item
  items_in_do b = item.Word word.Do ∷ items_to_end b

  abbrev pub items_in_else : tokens.OptionalBlock → List Item
  items_in_else b = written_else (kind_of toks) item_of added_items never_trails (chosen_optional_block (words_at item.Token) never_encloses b)

  abbrev pub items_in_body : tokens.FunctionBody → List Item
  items_in_body f = written_body (kind_of toks) item_of added_items never_trails (chosen_function_body (words_at item.Token) never_encloses f)
