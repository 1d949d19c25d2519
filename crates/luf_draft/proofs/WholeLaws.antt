-- What opens a part and what closes it are its marks, whichever form it has.
use Rattle.std.proofs.Common.{◌≡◌, ℕ, suc, ◌+◌, ◌<◌, Bool, true, false, ◌&&◌, if◌then◌else◌, List, [], ◌∷◌, ◌++◌, length, get_or, map, arith, refl, sym, ap, ◌∙◌, append-nil}
use Rattle.std.proofs.lemmas.Bool.{false≢true}
use Rattle.luf_lex.specs.declared.token.Tok.{Tok}
use Rattle.luf_tree.specs.declared.tree.Expr.{Expr}
use Rattle.luf_tree.specs.declared.tree.Field.{Field}
use Rattle.luf_tree.specs.Syntax as syntax
use Rattle.luf_tree.specs.TokenSyntax as tokens
use Rattle.luf_tree.specs.SyntaxOf.{expressions_of, fields_of, syntax_of_expr, syntax_of_field}
use Rattle.luf_draft.specs.Form.{Items, no_items, lone_string, lone_table, with_block, plain_items, last_kind, kind_of_last, kind_of_one, items_of}
use Rattle.luf_draft.specs.declared.mark.Mark.{Mark}
use Rattle.luf_draft.specs.declared.mark.GapKind.TheVariants as kind
use Rattle.luf_draft.specs.declared.mark.Mark.TheVariants.{Gap}
use Rattle.luf_draft.specs.inner.Marks.{is_none, is_empty, are_empty, lone_marks, body_marks, source_marks, guarded_marks, argument_marks, marks_in_expression, marks_in_expressions, marks_in_arguments, marks_in_values, marks_in_statement, marks_in_statements, marks_in_body, marks_in_main}
use Rattle.luf_draft.specs.inner.Runs.{values_opened, body_opened, body_closed, source_opened, source_closed}
use Rattle.luf_draft.specs.inner.Wholes.{table_marks, return_marks}
use Rattle.luf_draft.specs.inner.Arguments.{lone_shape, last_shape, shape_of, arguments_opened, arguments_gap, arguments_closed}

-- ---- blocks

body_round : (b : Bool) (inner : List Mark) → (b ≡ true → inner ≡ []) → body_marks b inner ≡ body_opened b ++ (inner ++ body_closed b)
body_round true inner none = sym (ap (λ x. Gap kind.EmptyBlock ∷ (x ++ [])) (none refl))
body_round false inner none = refl

source_round : (b : Bool) (inner : List Mark) → (b ≡ true → inner ≡ []) → source_marks b inner ≡ source_opened b ++ (inner ++ source_closed b)
source_round true inner none = sym (ap (λ x. Gap kind.EmptySource ∷ (x ++ [])) (none refl))
source_round false inner none = refl

if_none : (b r : Bool) (x y : List Mark) → (b && r) ≡ true → (r ≡ true → x ≡ []) → (if b then x else y) ≡ []
if_none true r x y both none = none both
if_none false r x y both none = absurd (false≢true both)

-- ---- what the arguments of a call are

last_some : (e : tokens.Expression) → last_kind e ≡ no_items → ⊥
last_some (syntax.function _ _) is = cc
last_some (syntax.table _ _) is = cc
last_some _ is = cc

one_some : (e : tokens.Expression) → kind_of_one e ≡ no_items → ⊥
one_some (syntax.string _ _) is = cc
one_some (syntax.table _ _) is = cc
one_some _ is = cc

more_some : (e : tokens.Expression) (rest : tokens.Expressions) → kind_of_last e rest ≡ no_items → ⊥
more_some e syntax.no_expressions is = last_some e is
more_some e (syntax.more_expressions f rest) is = more_some f rest is

last_is : (e : Expr) (es : List Expr) (x : Expr) → x ≡ get_or (e ∷ es) (length es) x → kind_of_last (syntax_of_expr e) (expressions_of (map syntax_of_expr es)) ≡ last_kind (syntax_of_expr x)
last_is e [] x is = ap (λ y. last_kind (syntax_of_expr y)) (sym is)
last_is e (f ∷ es) x is = last_is f es x is

-- of several arguments neither style is asked
by_last : (string_has table_has : Bool → Bool) (had : Bool) (e : tokens.Expression) → shape_of string_has table_has had (last_kind e) ≡ last_shape (last_kind e)
by_last string_has table_has had (syntax.function _ _) = refl
by_last string_has table_has had (syntax.table _ _) = refl
by_last string_has table_has had _ = refl

-- two or more, of which this is the last
pub many_by_last : (string_has table_has : Bool → Bool) (had : Bool) (es : List Expr) (i : ℕ) (x : Expr) → 1 < length es → i + 1 ≡ length es → x ≡ get_or es i x → shape_of string_has table_has had (items_of (expressions_of (map syntax_of_expr es))) ≡ last_shape (last_kind (syntax_of_expr x))
many_by_last string_has table_has had [] i x many at is = absurd (omega (arith, many))
many_by_last string_has table_has had (e ∷ []) i x many at is = absurd (omega (arith, many))
many_by_last string_has table_has had (e ∷ f ∷ es) i x many at is =
    ap (shape_of string_has table_has had) (last_is f es x (is ∙ ap (λ n. get_or (e ∷ f ∷ es) n x) place)) ∙ by_last string_has table_has had (syntax_of_expr x)
  where
    place : i ≡ suc (length es)
    place = omega (arith, at)

module _ (toks : List Tok) (string_has table_has : Bool → Bool) where
  -- ---- lists that have an opening of their own where they are empty

  pub values_are : (es : List Expr) → marks_in_values toks string_has table_has (expressions_of (map syntax_of_expr es)) ≡ values_opened (is_none es) ++ marks_in_expressions toks string_has table_has kind.Space (expressions_of (map syntax_of_expr es))
  values_are [] = refl
  values_are (e ∷ es) = refl

  pub table_is : (span : tokens.Span) (fs : List Field) → marks_in_expression toks string_has table_has (syntax.table span (fields_of (map syntax_of_field fs))) ≡ table_marks toks string_has table_has fs
  table_is span [] = refl
  table_is span (f ∷ fs) = refl

  pub return_is : (span : tokens.Span) (es : List Expr) → marks_in_statement toks string_has table_has (syntax.return_statement span (expressions_of (map syntax_of_expr es))) ≡ return_marks toks string_has table_has es
  return_is span [] = refl
  return_is span (e ∷ es) = refl

  -- ---- blocks

  no_statements_written : (others : Bool) (ss : tokens.Statements) → are_empty ss ≡ true → marks_in_statements toks string_has table_has others ss ≡ []
  no_statements_written others syntax.no_statements none = refl
  no_statements_written others (syntax.more_statements s rest) none =
      if_none (is_empty s) (are_empty rest) (marks_in_statements toks string_has table_has others rest) (guarded_marks toks others (marks_in_statement toks string_has table_has s) ++ marks_in_statements toks string_has table_has true rest) none (λ tail. no_statements_written others rest tail)

  pub body_is : (span : tokens.Span) (ss : tokens.Statements) → marks_in_body toks string_has table_has (syntax.block span ss) ≡ body_opened (are_empty ss) ++ (marks_in_statements toks string_has table_has false ss ++ body_closed (are_empty ss))
  body_is span ss = body_round (are_empty ss) (marks_in_statements toks string_has table_has false ss) (no_statements_written false ss)

  pub source_is : (span : tokens.Span) (ss : tokens.Statements) → marks_in_main toks string_has table_has (syntax.block span ss) ≡ source_opened (are_empty ss) ++ (marks_in_statements toks string_has table_has false ss ++ source_closed (are_empty ss))
  source_is span ss = source_round (are_empty ss) (marks_in_statements toks string_has table_has false ss) (no_statements_written false ss)

  -- ---- arguments

  none_written : (es : tokens.Expressions) → items_of es ≡ no_items → marks_in_expressions toks string_has table_has kind.Space es ≡ []
  none_written syntax.no_expressions is = refl
  none_written (syntax.more_expressions e syntax.no_expressions) is = absurd (one_some e is)
  none_written (syntax.more_expressions e (syntax.more_expressions f rest)) is = absurd (more_some f rest is)

  lone_round : (b : Bool) (es : tokens.Expressions) → lone_marks b (marks_in_expressions toks string_has table_has kind.Space es) ≡ arguments_opened (lone_shape b) ++ (marks_in_expressions toks string_has table_has (arguments_gap (lone_shape b)) es ++ arguments_closed (lone_shape b))
  lone_round true es = refl
  lone_round false es = ap (λ x. Gap kind.Space ∷ x) (sym (append-nil (marks_in_expressions toks string_has table_has kind.Space es)))

  items_round : (items : Items) (had : Bool) (es : tokens.Expressions) → (items ≡ no_items → marks_in_expressions toks string_has table_has kind.Space es ≡ [])
      → argument_marks toks string_has table_has items had (marks_in_expressions toks string_has table_has kind.Space es) (marks_in_expressions toks string_has table_has kind.Line es) ≡ arguments_opened (shape_of string_has table_has had items) ++ (marks_in_expressions toks string_has table_has (arguments_gap (shape_of string_has table_has had items)) es ++ arguments_closed (shape_of string_has table_has had items))
  items_round no_items had es none = sym (ap (λ x. arguments_opened (shape_of string_has table_has had no_items) ++ (x ++ arguments_closed (shape_of string_has table_has had no_items))) (none refl))
  items_round lone_string had es none = lone_round (string_has had) es
  items_round lone_table had es none = lone_round (table_has had) es
  items_round with_block had es none = refl
  items_round plain_items had es none = refl

  pub arguments_are : (span : tokens.Span) (had : Bool) (es : tokens.Expressions) → marks_in_arguments toks string_has table_has (syntax.arguments span had es) ≡ arguments_opened (shape_of string_has table_has had (items_of es)) ++ (marks_in_expressions toks string_has table_has (arguments_gap (shape_of string_has table_has had (items_of es))) es ++ arguments_closed (shape_of string_has table_has had (items_of es)))
  arguments_are span had es = items_round (items_of es) had es (none_written es)
