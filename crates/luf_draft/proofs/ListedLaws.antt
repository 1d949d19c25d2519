-- The marks of lists are what a loop adds, with something before each part but the first.
use Rattle.std.proofs.Common.{◌≡◌, ℕ, Bool, true, false, Option, List, [], ◌∷◌, ◌++◌, map, refl, ap, append_assoc}
use Rattle.luf_lex.specs.declared.token.Tok.{Tok}
use Rattle.luf_lex.specs.declared.token.Word.TheVariants as word
use Rattle.luf_tree.specs.declared.tree.Declared.{Declared}
use Rattle.luf_tree.specs.declared.tree.Expr.{Expr}
use Rattle.luf_tree.specs.declared.tree.Arm.{Arm}
use Rattle.luf_tree.specs.declared.tree.Field.{Field}
use Rattle.luf_tree.specs.Syntax as syntax
use Rattle.luf_tree.specs.TokenSyntax as tokens
use Rattle.luf_tree.specs.SyntaxOf.{declared_of, first_of_path, rest_of_path, expressions_of, fields_of, arms_of, syntax_of_expr, syntax_of_field, syntax_of_arm}
use Rattle.luf_draft.specs.declared.mark.Mark.{Mark}
use Rattle.luf_draft.specs.declared.mark.Mark.TheVariants.{Close}
use Rattle.luf_draft.specs.declared.mark.GapKind.{GapKind}
use Rattle.luf_draft.specs.declared.mark.GapKind.TheVariants as kind
use Rattle.luf_draft.specs.inner.Marks.{before_part, listed, comma_and, token_mark, declared_mark, declared_marks, path_marks, method_marks, dots_behind, marks_in_function, marks_in_statement, marks_in_values, marks_in_expression, marks_in_expressions, marks_in_more, marks_in_field, marks_in_fields, marks_in_more_fields, marks_in_arm, marks_in_arms, marks_in_more_arms}
use Rattle.luf_draft.specs.inner.Runs.{word_spaced, local_opened, function_opened, declared_listed, path_listed, comma_line, elseif_word, no_parameters, parameters_before, parameters_opened, parameters_closed}

-- ---- names

listed_map : {X Y : Type 0} (between : List Mark) (says : Y → List Mark) (f : X → Y) (first : Bool) (xs : List X) → listed between says first (map f xs) ≡ listed between (λ x. says (f x)) first xs
listed_map between says f first [] = refl
listed_map between says f first (x ∷ xs) = λ i. before_part between first ++ (says (f x) ++ listed_map between says f false xs i)

pub declared_are : (ds : List Declared) → declared_marks (map declared_of ds) ≡ declared_listed ds
declared_are ds = listed_map (comma_and kind.Space) declared_mark declared_of true ds

pub path_is : (path : List ℕ) → path_marks (first_of_path path) (rest_of_path path) ≡ path_listed path
path_is [] = refl
path_is (name ∷ names) = refl

pub parameters_are : (names : List ℕ) (vararg : Bool) → parameters_before names vararg ≡ parameters_opened (no_parameters names vararg) ++ (listed (comma_and kind.Line) token_mark true names ++ (dots_behind names vararg ++ parameters_closed (no_parameters names vararg)))
parameters_are [] false = refl
parameters_are [] true = refl
parameters_are (name ∷ names) vararg = ap (λ x. parameters_opened false ++ x) (append_assoc (listed (comma_and kind.Line) token_mark true (name ∷ names)) (dots_behind (name ∷ names) vararg) (parameters_closed false))

-- ---- parts of the tree

module _ (toks : List Tok) (string_has table_has : Bool → Bool) where
  later_exprs : (g : GapKind) (es : List Expr) → marks_in_more toks string_has table_has g (expressions_of (map syntax_of_expr es)) ≡ listed (comma_and g) (λ e. marks_in_expression toks string_has table_has (syntax_of_expr e)) false es
  later_exprs g [] = refl
  later_exprs g (e ∷ es) = λ i. comma_and g ++ (marks_in_expression toks string_has table_has (syntax_of_expr e) ++ later_exprs g es i)

  pub exprs_are : (g : GapKind) (es : List Expr) → marks_in_expressions toks string_has table_has g (expressions_of (map syntax_of_expr es)) ≡ listed (comma_and g) (λ e. marks_in_expression toks string_has table_has (syntax_of_expr e)) true es
  exprs_are g [] = refl
  exprs_are g (e ∷ es) = λ i. marks_in_expression toks string_has table_has (syntax_of_expr e) ++ later_exprs g es i

  later_fields : (fs : List Field) → marks_in_more_fields toks string_has table_has (fields_of (map syntax_of_field fs)) ≡ listed comma_line (λ f. marks_in_field toks string_has table_has (syntax_of_field f)) false fs
  later_fields [] = refl
  later_fields (f ∷ fs) = λ i. comma_line ++ (marks_in_field toks string_has table_has (syntax_of_field f) ++ later_fields fs i)

  pub fields_are : (fs : List Field) → marks_in_fields toks string_has table_has (fields_of (map syntax_of_field fs)) ≡ listed comma_line (λ f. marks_in_field toks string_has table_has (syntax_of_field f)) true fs
  fields_are [] = refl
  fields_are (f ∷ fs) = λ i. marks_in_field toks string_has table_has (syntax_of_field f) ++ later_fields fs i

  later_arms : (arms : List Arm) → marks_in_more_arms toks string_has table_has (arms_of (map syntax_of_arm arms)) ≡ listed elseif_word (λ a. marks_in_arm toks string_has table_has (syntax_of_arm a)) false arms
  later_arms [] = refl
  later_arms (a ∷ arms) = λ i. elseif_word ++ (marks_in_arm toks string_has table_has (syntax_of_arm a) ++ later_arms arms i)

  pub arms_are : (arms : List Arm) → marks_in_arms toks string_has table_has (arms_of (map syntax_of_arm arms)) ≡ listed elseif_word (λ a. marks_in_arm toks string_has table_has (syntax_of_arm a)) true arms
  arms_are [] = refl
  arms_are (a ∷ arms) = λ i. marks_in_arm toks string_has table_has (syntax_of_arm a) ++ later_arms arms i

  -- ---- statements that begin with names

  pub local_is : (span : tokens.Span) (names : List Declared) (values : tokens.Expressions) → marks_in_statement toks string_has table_has (syntax.local_statement span (map declared_of names) values) ≡ local_opened names ++ (marks_in_values toks string_has table_has values ++ (Close ∷ []))
  local_is span names values = ap (λ ds. word_spaced word.Local ++ (ds ++ (marks_in_values toks string_has table_has values ++ (Close ∷ [])))) (declared_are names)

  pub function_is : (span : tokens.Span) (path : List ℕ) (method : Option ℕ) (body : tokens.FunctionBody) → marks_in_statement toks string_has table_has (syntax.function_statement span (first_of_path path) (rest_of_path path) method body) ≡ function_opened path ++ (method_marks method ++ (marks_in_function toks string_has table_has body ++ (Close ∷ [])))
  function_is span path method body = ap (λ names. word_spaced word.Function ++ (names ++ (method_marks method ++ (marks_in_function toks string_has table_has body ++ (Close ∷ []))))) (path_is path)
