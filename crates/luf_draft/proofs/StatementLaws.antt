-- What stands before a statement, as the functions decide it.
use Rattle.std.proofs.Common.{◌≡◌, ℕ, ◌+◌, ◌<◌, Bool, true, false, not, ◌&&◌, ◌↔◌, List, [], ◌∷◌, ◌++◌, length, get_or, drop, map, if◌then◌else◌, arith, refl, sym, ap, ◌∙◌, append_assoc, append-nil}
use Rattle.std.specs.Prelude.{IsTrue}
use Rattle.std.proofs.lemmas.Bool.{false≢true}
use Rattle.luf_lex.specs.declared.token.Tok.{Tok}
use Rattle.luf_lex.specs.declared.token.Tok.TheVariants as tok
use Rattle.luf_lex.specs.declared.token.Sign as token_sign
use Rattle.luf_lex.specs.declared.token.Sign.TheVariants as sign
use Rattle.luf_tree.specs.declared.tree.Expr.{Expr}
use Rattle.luf_tree.specs.declared.tree.Stat.{Stat}
use Rattle.luf_tree.specs.SyntaxOf.{expressions_of, statements_of, syntax_of_expr, syntax_of_stat}
use Rattle.luf_tree.specs.Syntax as syntax
use Rattle.luf_tree.specs.TokenSyntax as tokens
use Rattle.luf_bare.specs.Writing.{opens, sign_opens}
use Rattle.luf_draft.specs.declared.mark.Mark.{Mark}
use Rattle.luf_draft.specs.declared.mark.Mark.TheVariants.{Close}
use Rattle.luf_draft.specs.declared.mark.GapKind.TheVariants as kind
use Rattle.luf_draft.specs.inner.Marks.{is_empty, opens_first, guard_marks, marks_in_expression, marks_in_expressions, marks_in_values, marks_in_statement, marks_in_statements}
use Rattle.luf_draft.specs.inner.Starts.{opens_expression, opens_expressions, opens_statement, guard_of}
use Rattle.luf_draft.proofs.Added.{then_on, front}

-- ---- tokens

sign_opens_not : (s : token_sign.Sign) → (tok.Sign s ≡ tok.Sign sign.LeftParen → ⊥) → sign_opens s ≡ false
sign_opens_not sign.LeftParen other = absurd (other refl)
sign_opens_not _ other = refl

opens_not : (t : Tok) → (t ≡ tok.Sign sign.LeftParen → ⊥) → opens t ≡ false
opens_not (tok.Sign s) other = sign_opens_not s other
opens_not _ other = refl

-- a test for `(`
pub paren_is : (r : Bool) (t : Tok) (x : Bool) → (IsTrue r ↔ (t ≡ tok.Sign sign.LeftParen)) → opens t ≡ x → r ≡ x
paren_is true t x test is = sym (ap opens (test.0 refl)) ∙ is
paren_is false t x test is = sym (opens_not t (λ paren. false≢true (test.1 paren))) ∙ is

-- one statement more: skipped, or with what stands before it
join : (b first : Bool) (own guard : List Mark) (rests : Bool → List Mark) → (b ≡ true → own ≡ []) → (if b then rests (not first) else ((guard ++ own) ++ rests true)) ≡ (if b then [] else guard) ++ (own ++ rests (not (first && b)))
join true true own guard rests none = sym (ap (λ x. x ++ rests false) (none refl))
join true false own guard rests none = sym (ap (λ x. x ++ rests true) (none refl))
join false true own guard rests none = append_assoc guard own (rests true)
join false false own guard rests none = append_assoc guard own (rests true)

-- of targets the first one
pub targets_start : (toks : List Tok) (es : List Expr) (e : Expr) → 0 < length es → e ≡ get_or es 0 e → opens_expression toks (syntax_of_expr e) ≡ opens_expressions toks (expressions_of (map syntax_of_expr es))
targets_start toks [] e some is = absurd (omega (arith, some))
targets_start toks (f ∷ es) e some is = ap (λ x. opens_expression toks (syntax_of_expr x)) is

module _ (toks : List Tok) (string_has table_has : Bool → Bool) where
  -- ---- what a part begins with

  begins : (e : tokens.Expression) (more : List Mark) → opens_first toks (marks_in_expression toks string_has table_has e ++ more) ≡ opens_expression toks e
  begins (syntax.nil_value span) more = refl
  begins (syntax.true_value span) more = refl
  begins (syntax.false_value span) more = refl
  begins (syntax.numeral span value) more = refl
  begins (syntax.string span value) more = refl
  begins (syntax.varargs span) more = refl
  begins (syntax.variable span name) more = refl
  begins (syntax.parenthesised span inner) more = refl
  begins (syntax.function span body) more = refl
  begins (syntax.table span syntax.no_fields) more = refl
  begins (syntax.table span (syntax.more_fields first rest)) more = refl
  begins (syntax.unary span operator operand) more = refl
  begins (syntax.chain span first rest) more = ap (opens_first toks) (append_assoc (marks_in_expression toks string_has table_has first) _ more) ∙ begins first _
  begins (syntax.power span base operator exponent) more = ap (opens_first toks) (append_assoc (marks_in_expression toks string_has table_has base) _ more) ∙ begins base _
  begins (syntax.suffixed span head _) more = ap (opens_first toks) (append_assoc (marks_in_expression toks string_has table_has head) _ more) ∙ begins head _

  values_begin : (values : tokens.Expressions) → opens_first toks (marks_in_values toks string_has table_has values ++ (Close ∷ [])) ≡ false
  values_begin syntax.no_expressions = refl
  values_begin (syntax.more_expressions e rest) = refl

  targets_begin : (targets values : tokens.Expressions) → opens_first toks (marks_in_expressions toks string_has table_has kind.Space targets ++ (marks_in_values toks string_has table_has values ++ (Close ∷ []))) ≡ opens_expressions toks targets
  targets_begin syntax.no_expressions values = values_begin values
  targets_begin (syntax.more_expressions e rest) values = ap (opens_first toks) (append_assoc (marks_in_expression toks string_has table_has e) _ _) ∙ begins e _

  statement_begins : (s : tokens.Statement) → opens_first toks (marks_in_statement toks string_has table_has s) ≡ opens_statement toks s
  statement_begins (syntax.empty_statement span) = refl
  statement_begins (syntax.local_statement span names values) = refl
  statement_begins (syntax.assignment span targets values) = targets_begin targets values
  statement_begins (syntax.call_statement span call) = ap (opens_first toks) (sym (append-nil (marks_in_expression toks string_has table_has call))) ∙ begins call []
  statement_begins (syntax.do_statement span body) = refl
  statement_begins (syntax.while_statement span test body) = refl
  statement_begins (syntax.repeat_statement span body test) = refl
  statement_begins (syntax.if_statement span arms last) = refl
  statement_begins (syntax.for_statement span name first limit step body) = refl
  statement_begins (syntax.for_in_statement span names values body) = refl
  statement_begins (syntax.function_statement span name fields method body) = refl
  statement_begins (syntax.local_function_statement span name body) = refl
  statement_begins (syntax.label span name) = refl
  statement_begins (syntax.goto_statement span name) = refl
  statement_begins (syntax.break_statement span) = refl
  statement_begins (syntax.return_statement span syntax.no_expressions) = refl
  statement_begins (syntax.return_statement span (syntax.more_expressions e rest)) = refl

  -- ---- statements in order

  empty_marks : (s : tokens.Statement) → is_empty s ≡ true → marks_in_statement toks string_has table_has s ≡ []
  empty_marks (syntax.empty_statement span) is = refl
  empty_marks _ is = cc

  one_statement : (s : tokens.Statement) (first : Bool) (rest : tokens.Statements) → marks_in_statements toks string_has table_has (not first) (syntax.more_statements s rest) ≡ guard_of toks (not first) s ++ (marks_in_statement toks string_has table_has s ++ marks_in_statements toks string_has table_has (not (first && is_empty s)) rest)
  one_statement s first rest =
      join (is_empty s) first (marks_in_statement toks string_has table_has s) (guard_marks (not first) (opens_first toks (marks_in_statement toks string_has table_has s))) (λ others. marks_in_statements toks string_has table_has others rest) (empty_marks s)
      ∙ ap (λ opening. (if is_empty s then [] else guard_marks (not first) opening) ++ (marks_in_statement toks string_has table_has s ++ marks_in_statements toks string_has table_has (not (first && is_empty s)) rest)) (statement_begins s)

  -- one statement more in the list that the loop goes over
  pub one_guarded : (stats : List Stat) (i : ℕ) (s : Stat) (first later : Bool) (old mid new all : List Mark) → i < length stats → s ≡ get_or stats i s → old ++ marks_in_statements toks string_has table_has (not first) (statements_of (map syntax_of_stat (drop i stats))) ≡ all
      → mid ≡ old ++ guard_of toks (not first) (syntax_of_stat s) → new ≡ mid ++ marks_in_statement toks string_has table_has (syntax_of_stat s) → later ≡ (first && is_empty (syntax_of_stat s)) → new ++ marks_in_statements toks string_has table_has (not later) (statements_of (map syntax_of_stat (drop (i + 1) stats))) ≡ all
  one_guarded stats i s first later old mid new all inside is before guarded added later_is =
      ap (λ b. new ++ marks_in_statements toks string_has table_has (not b) rest) later_is
      ∙ ap (λ n. n ++ then_rest) (then_on old mid new (guard_of toks (not first) (syntax_of_stat s)) own guarded added)
      ∙ append_assoc old (guard_of toks (not first) (syntax_of_stat s) ++ own) then_rest
      ∙ ap (λ ys. old ++ ys) (append_assoc (guard_of toks (not first) (syntax_of_stat s)) own then_rest ∙ sym (one_statement (syntax_of_stat s) first rest))
      ∙ ap (λ ss. old ++ marks_in_statements toks string_has table_has (not first) (statements_of (map syntax_of_stat ss))) (sym (front stats i s inside is))
      ∙ before
    where
      own : List Mark
      own = marks_in_statement toks string_has table_has (syntax_of_stat s)

      rest : tokens.Statements
      rest = statements_of (map syntax_of_stat (drop (i + 1) stats))

      then_rest : List Mark
      then_rest = marks_in_statements toks string_has table_has (not (first && is_empty (syntax_of_stat s))) rest
