-- What is written of lists is what a loop writes, with something before each part but the first.
use Rattle.std.proofs.Common.{◌≡◌, ℕ, ◌<◌, Bool, true, false, Option, Some, None, List, [], ◌∷◌, ◌++◌, length, map, arith, refl, sym, ap, ◌∙◌, append_assoc, append-nil}
use Rattle.luf_lex.specs.declared.token.Tok.{Tok}
use Rattle.luf_lex.specs.declared.token.Sign.TheVariants as sign
use Rattle.luf_lex.specs.declared.token.Word.TheVariants as word
use Rattle.luf_tree.specs.declared.tree.Declared.{Declared}
use Rattle.luf_tree.specs.declared.tree.Expr.{Expr}
use Rattle.luf_tree.specs.declared.tree.Arm.{Arm}
use Rattle.luf_tree.specs.declared.tree.Field.{Field}
use Rattle.luf_tree.specs.Syntax as syntax
use Rattle.luf_tree.specs.TokenSyntax as tokens
use Rattle.luf_tree.specs.SyntaxOf.{declared_of, first_of_path, rest_of_path, expressions_of, fields_of, arms_of, syntax_of_expr, syntax_of_field, syntax_of_arm}
use Rattle.luf_bare.specs.Bare.{words_at, chosen_expressions, chosen_fields, chosen_arms}
use Rattle.luf_bare.specs.Writing.{written_more_names, written_fields_of_path, written_more_expressions, written_more_fields, written_more_arms}
use Rattle.luf_min.specs.declared.item.Item.TheVariants.{Token, Word, Sign}
use Rattle.luf_min.specs.inner.Items.{kind_of, item_of, added_items, never_trails, never_encloses, items_in_names, items_in_parameters, items_in_attribute, items_in_declared, items_in_path, items_in_method, items_in_expression, items_in_expressions, items_in_values, items_in_field, items_in_fields, items_in_arm, items_in_arms, items_in_body, items_to_end, items_in_statement, items_in_do}
use Rattle.luf_min.specs.inner.Listed.{listed, token_item, names_listed, parameters_listed, attribute_items, declared_item, declared_listed, method_items, path_listed}

module _ (toks : List Tok) where
  -- ---- names

  later_names : (names : List ℕ) → written_more_names (kind_of toks) item_of added_items never_trails (map Token names) ≡ listed (Sign sign.Comma) token_item false names
  later_names [] = refl
  later_names (name ∷ names) = λ i. Sign sign.Comma ∷ Token name ∷ later_names names i

  pub names_are : (names : List ℕ) → items_in_names toks names ≡ names_listed names
  names_are [] = refl
  names_are (name ∷ names) = λ i. Token name ∷ later_names names i

  pub parameters_are : (names : List ℕ) (vararg : Bool) → Sign sign.LeftParen ∷ (items_in_parameters toks names vararg ++ (Sign sign.RightParen ∷ [])) ≡ parameters_listed names vararg
  parameters_are [] false = refl
  parameters_are [] true = refl
  parameters_are (name ∷ names) false = λ i. Sign sign.LeftParen ∷ (names_are (name ∷ names) i ++ (Sign sign.RightParen ∷ []))
  parameters_are (name ∷ names) true =
      (λ i. Sign sign.LeftParen ∷ ((names_are (name ∷ names) i ++ (Sign sign.Comma ∷ Sign sign.Dots ∷ [])) ++ (Sign sign.RightParen ∷ [])))
      ∙ ap (λ x. Sign sign.LeftParen ∷ x) (append_assoc (names_listed (name ∷ names)) (Sign sign.Comma ∷ Sign sign.Dots ∷ []) (Sign sign.RightParen ∷ []))

  attribute_is : (a : Option ℕ) → items_in_attribute toks a ≡ attribute_items a
  attribute_is None = refl
  attribute_is (Some name) = refl

  pub declared_are : (ds : List Declared) → items_in_declared toks (map declared_of ds) ≡ declared_listed ds
  declared_are [] = refl
  declared_are (d ∷ []) = (λ i. Token d.name ∷ attribute_is d.attribute i) ∙ sym (append-nil (declared_item d))
  declared_are (d ∷ e ∷ ds) = λ i. Token d.name ∷ (attribute_is d.attribute i ++ (Sign sign.Comma ∷ declared_are (e ∷ ds) i))

  later_path : (names : List ℕ) → written_fields_of_path (kind_of toks) item_of added_items never_trails (map Token names) ≡ listed (Sign sign.Dot) token_item false names
  later_path [] = refl
  later_path (name ∷ names) = λ i. Sign sign.Dot ∷ Token name ∷ later_path names i

  name_is : (path : List ℕ) → items_in_path toks (first_of_path path) (rest_of_path path) ≡ listed (Sign sign.Dot) token_item true path
  name_is [] = refl
  name_is (name ∷ names) = λ i. Token name ∷ later_path names i

  method_is : (m : Option ℕ) → items_in_method toks m ≡ method_items m
  method_is None = refl
  method_is (Some name) = refl

  -- ---- parts of the tree

  later_exprs : (es : List Expr) → written_more_expressions (kind_of toks) item_of added_items never_trails (chosen_expressions (words_at Token) never_encloses (expressions_of (map syntax_of_expr es))) ≡ listed (Sign sign.Comma) (λ e. items_in_expression toks (syntax_of_expr e)) false es
  later_exprs [] = refl
  later_exprs (e ∷ es) = λ i. Sign sign.Comma ∷ (items_in_expression toks (syntax_of_expr e) ++ later_exprs es i)

  pub exprs_are : (es : List Expr) → items_in_expressions toks (expressions_of (map syntax_of_expr es)) ≡ listed (Sign sign.Comma) (λ e. items_in_expression toks (syntax_of_expr e)) true es
  exprs_are [] = refl
  exprs_are (e ∷ es) = λ i. items_in_expression toks (syntax_of_expr e) ++ later_exprs es i

  later_fields : (fs : List Field) → written_more_fields (kind_of toks) item_of added_items never_trails false (chosen_fields (words_at Token) never_encloses (fields_of (map syntax_of_field fs))) ≡ listed (Sign sign.Comma) (λ f. items_in_field toks (syntax_of_field f)) false fs
  later_fields [] = refl
  later_fields (f ∷ fs) = λ i. Sign sign.Comma ∷ (items_in_field toks (syntax_of_field f) ++ later_fields fs i)

  pub fields_are : (fs : List Field) → items_in_fields toks (fields_of (map syntax_of_field fs)) ≡ listed (Sign sign.Comma) (λ f. items_in_field toks (syntax_of_field f)) true fs
  fields_are [] = refl
  fields_are (f ∷ fs) = λ i. items_in_field toks (syntax_of_field f) ++ later_fields fs i

  later_arms : (arms : List Arm) → written_more_arms (kind_of toks) item_of added_items never_trails (chosen_arms (words_at Token) never_encloses (arms_of (map syntax_of_arm arms))) ≡ listed (Word word.ElseIf) (λ a. items_in_arm toks (syntax_of_arm a)) false arms
  later_arms [] = refl
  later_arms (a ∷ arms) = λ i. Word word.ElseIf ∷ (items_in_arm toks (syntax_of_arm a) ++ later_arms arms i)

  pub arms_are : (arms : List Arm) → items_in_arms toks (arms_of (map syntax_of_arm arms)) ≡ listed (Word word.ElseIf) (λ a. items_in_arm toks (syntax_of_arm a)) true arms
  arms_are [] = refl
  arms_are (a ∷ arms) = λ i. items_in_arm toks (syntax_of_arm a) ++ later_arms arms i

  -- ---- statements that begin with names

  values_are : (span : tokens.Span) (names : List tokens.DeclaredName) (values : tokens.Expressions) → items_in_statement toks (syntax.local_statement span names values) ≡ Word word.Local ∷ (items_in_declared toks names ++ items_in_values toks values)
  values_are span names syntax.no_expressions = ap (λ x. Word word.Local ∷ x) (sym (append-nil (items_in_declared toks names)))
  values_are span names (syntax.more_expressions e es) = refl

  pub values_some : (es : List Expr) → 0 < length es → items_in_values toks (expressions_of (map syntax_of_expr es)) ≡ Sign sign.Assign ∷ items_in_expressions toks (expressions_of (map syntax_of_expr es))
  values_some [] some = absurd (omega (arith, some))
  values_some (e ∷ es) some = refl

  pub local_is : (span : tokens.Span) (names : List Declared) (values : tokens.Expressions) → items_in_statement toks (syntax.local_statement span (map declared_of names) values) ≡ Word word.Local ∷ (declared_listed names ++ items_in_values toks values)
  local_is span names values = values_are span (map declared_of names) values ∙ (λ i. Word word.Local ∷ (declared_are names i ++ items_in_values toks values))

  pub function_is : (span : tokens.Span) (path : List ℕ) (method : Option ℕ) (body : tokens.FunctionBody) → items_in_statement toks (syntax.function_statement span (first_of_path path) (rest_of_path path) method body) ≡ Word word.Function ∷ (path_listed path method ++ items_in_body toks body)
  function_is span path method body =
      (λ i. Word word.Function ∷ (name_is path i ++ (method_is method i ++ items_in_body toks body)))
      ∙ ap (λ x. Word word.Function ∷ x) (sym (append_assoc (listed (Sign sign.Dot) token_item true path) (method_items method) (items_in_body toks body)))

  pub for_in_is : (span : tokens.Span) (names : List ℕ) (values : tokens.Expressions) (body : tokens.Block) → items_in_statement toks (syntax.for_in_statement span names values body) ≡ Word word.For ∷ ((names_listed names ++ (Word word.In ∷ [])) ++ (items_in_expressions toks values ++ items_in_do toks body))
  for_in_is span names values body =
      (λ i. Word word.For ∷ (names_are names i ++ (Word word.In ∷ (items_in_expressions toks values ++ items_in_do toks body))))
      ∙ ap (λ x. Word word.For ∷ x) (sym (append_assoc (names_listed names) (Word word.In ∷ []) (items_in_expressions toks values ++ items_in_do toks body)))

  pub body_is : (span : tokens.Span) (names : List ℕ) (vararg : Bool) (body : tokens.Block) → items_in_body toks (syntax.function_body span names vararg body) ≡ parameters_listed names vararg ++ items_to_end toks body
  body_is span names vararg body =
      ap (λ x. Sign sign.LeftParen ∷ x) (sym (append_assoc (items_in_parameters toks names vararg) (Sign sign.RightParen ∷ []) (items_to_end toks body)))
      ∙ ap (λ x. x ++ items_to_end toks body) (parameters_are names vararg)
