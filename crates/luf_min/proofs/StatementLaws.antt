-- What is written of statements and arguments, as the functions decide it.
use Rattle.std.proofs.Common.{◌≡◌, ℕ, ◌+◌, ◌<◌, Bool, true, false, cond, not, ◌&&◌, List, [], ◌∷◌, ◌++◌, length, get_or, drop, map, if◌then◌else◌, arith, refl, sym, ap, ◌∙◌, append_assoc}
use Rattle.luf_lex.specs.declared.token.Tok.{Tok}
use Rattle.luf_lex.specs.declared.token.Sign.TheVariants as sign
use Rattle.luf_lex.specs.declared.token.Tok.TheVariants as tok
use Rattle.luf_lex.specs.declared.token.Sign as token_sign
use Rattle.luf_guard.specs.Guard.{NeedsGuard}
use Rattle.luf_tree.specs.declared.tree.Expr.{Expr}
use Rattle.luf_tree.specs.declared.tree.Stat.{Stat}
use Rattle.luf_tree.specs.SyntaxOf.{expressions_of, statements_of, syntax_of_expr, syntax_of_stat}
use Rattle.luf_tree.specs.Syntax as syntax
use Rattle.luf_tree.specs.TokenSyntax as tokens
use Rattle.luf_bare.specs.Bare.{words_at, before}
use Rattle.luf_bare.specs.Lone.{is_lone}
use Rattle.luf_bare.proofs.LoneLaws.{lone_chosen}
use Rattle.luf_bare.specs.Writing.{opens, sign_opens, guarded_if, after_guard, enclosed}
use Rattle.luf_min.specs.declared.item.Item.{Item}
use Rattle.luf_min.specs.declared.item.Item.TheVariants.{Token, Sign}
use Rattle.luf_min.specs.inner.Items.{kind_of, item_of, added_items, never_trails, never_encloses, opens_first, guard_of, items_in_expression, items_in_expressions, items_in_operations, items_in_suffixes, items_in_arguments, items_in_statement, items_in_statements}
use Rattle.luf_min.specs.inner.Starts.{is_empty, opens_statement}
use Rattle.luf_min.proofs.Added.{then_on, front}

sign_opens_not : (s : token_sign.Sign) → (tok.Sign s ≡ tok.Sign sign.LeftParen → ⊥) → sign_opens s ≡ false
sign_opens_not sign.LeftParen other = absurd (other refl)
sign_opens_not _ other = refl

opens_not : (t : Tok) → (t ≡ tok.Sign sign.LeftParen → ⊥) → opens t ≡ false
opens_not (tok.Sign s) other = sign_opens_not s other
opens_not _ other = refl

-- two expressions are no lone argument
pub many_not_lone : (es : List Expr) → 1 < length es → false ≡ is_lone (expressions_of (map syntax_of_expr es))
many_not_lone [] many = absurd (omega (arith, many))
many_not_lone (e ∷ []) many = absurd (omega (arith, many))
many_not_lone (e ∷ f ∷ es) many = refl

module _ (toks : List Tok) where
  -- ---- the guard

  if_split : (b : Bool) (words more : List Item) → guarded_if (kind_of toks) item_of added_items never_trails b words ++ more ≡ (cond b (Sign sign.Semicolon ∷ []) []) ++ (words ++ more)
  if_split true words more = refl
  if_split false words more = refl

  guard_split : (others : Bool) (words more : List Item) → after_guard (kind_of toks) item_of added_items never_trails others words ++ more ≡ guard_of toks others words ++ (words ++ more)
  guard_split false words more = refl
  guard_split true [] more = refl
  guard_split true (x ∷ words) more = if_split (opens (kind_of toks x)) (x ∷ words) more

  -- a `;` by itself writes nothing
  skipped : (s : tokens.Statement) (others : Bool) (rest : tokens.Statements) → is_empty s ≡ true → items_in_statements toks others (syntax.more_statements s rest) ≡ items_in_statements toks others rest
  skipped (syntax.empty_statement span) others rest e = refl
  skipped _ others rest e = cc

  -- any other is written behind its guard
  one_more_statement : (s : tokens.Statement) (others : Bool) (rest : tokens.Statements) → is_empty s ≡ false → items_in_statements toks others (syntax.more_statements s rest) ≡ guard_of toks others (items_in_statement toks s) ++ (items_in_statement toks s ++ items_in_statements toks true rest)
  one_more_statement (syntax.empty_statement span) others rest e = cc
  one_more_statement (syntax.local_statement span names values) others rest e = guard_split others (items_in_statement toks (syntax.local_statement span names values)) (items_in_statements toks true rest)
  one_more_statement (syntax.assignment span targets values) others rest e = guard_split others (items_in_statement toks (syntax.assignment span targets values)) (items_in_statements toks true rest)
  one_more_statement (syntax.call_statement span call) others rest e = guard_split others (items_in_statement toks (syntax.call_statement span call)) (items_in_statements toks true rest)
  one_more_statement (syntax.do_statement span body) others rest e = guard_split others (items_in_statement toks (syntax.do_statement span body)) (items_in_statements toks true rest)
  one_more_statement (syntax.while_statement span test body) others rest e = guard_split others (items_in_statement toks (syntax.while_statement span test body)) (items_in_statements toks true rest)
  one_more_statement (syntax.repeat_statement span body test) others rest e = guard_split others (items_in_statement toks (syntax.repeat_statement span body test)) (items_in_statements toks true rest)
  one_more_statement (syntax.if_statement span arms last) others rest e = guard_split others (items_in_statement toks (syntax.if_statement span arms last)) (items_in_statements toks true rest)
  one_more_statement (syntax.for_statement span name first limit step body) others rest e = guard_split others (items_in_statement toks (syntax.for_statement span name first limit step body)) (items_in_statements toks true rest)
  one_more_statement (syntax.for_in_statement span names values body) others rest e = guard_split others (items_in_statement toks (syntax.for_in_statement span names values body)) (items_in_statements toks true rest)
  one_more_statement (syntax.function_statement span name fields method body) others rest e = guard_split others (items_in_statement toks (syntax.function_statement span name fields method body)) (items_in_statements toks true rest)
  one_more_statement (syntax.local_function_statement span name body) others rest e = guard_split others (items_in_statement toks (syntax.local_function_statement span name body)) (items_in_statements toks true rest)
  one_more_statement (syntax.label span name) others rest e = guard_split others (items_in_statement toks (syntax.label span name)) (items_in_statements toks true rest)
  one_more_statement (syntax.goto_statement span name) others rest e = guard_split others (items_in_statement toks (syntax.goto_statement span name)) (items_in_statements toks true rest)
  one_more_statement (syntax.break_statement span) others rest e = guard_split others (items_in_statement toks (syntax.break_statement span)) (items_in_statements toks true rest)
  one_more_statement (syntax.return_statement span values) others rest e = guard_split others (items_in_statement toks (syntax.return_statement span values)) (items_in_statements toks true rest)

  empty_items : (s : tokens.Statement) → is_empty s ≡ true → items_in_statement toks s ≡ []
  empty_items (syntax.empty_statement span) e = refl
  empty_items _ e = cc

  not_first : (first : Bool) → not (first && false) ≡ true
  not_first true = refl
  not_first false = refl

  still_first : (first : Bool) (rest : tokens.Statements) → items_in_statements toks (not first) rest ≡ guard_of toks (not first) [] ++ ([] ++ items_in_statements toks (not (first && true)) rest)
  still_first true rest = refl
  still_first false rest = refl

  -- one statement more, as the loop writes it
  pub one_statement : (s : tokens.Statement) (first : Bool) (rest : tokens.Statements) → items_in_statements toks (not first) (syntax.more_statements s rest) ≡ guard_of toks (not first) (items_in_statement toks s) ++ (items_in_statement toks s ++ items_in_statements toks (not (first && is_empty s)) rest)
  one_statement s first rest = by (is_empty s) refl
    where
      by : (b : Bool) → is_empty s ≡ b → items_in_statements toks (not first) (syntax.more_statements s rest) ≡ guard_of toks (not first) (items_in_statement toks s) ++ (items_in_statement toks s ++ items_in_statements toks (not (first && is_empty s)) rest)
      by true e =
          skipped s (not first) rest e ∙ still_first first rest
          ∙ ap (λ x. guard_of toks (not first) x ++ (x ++ items_in_statements toks (not (first && true)) rest)) (sym (empty_items s e))
          ∙ ap (λ b. guard_of toks (not first) (items_in_statement toks s) ++ (items_in_statement toks s ++ items_in_statements toks (not (first && b)) rest)) (sym e)
      by false e =
          one_more_statement s (not first) rest e
          ∙ ap (λ b. guard_of toks (not first) (items_in_statement toks s) ++ (items_in_statement toks s ++ items_in_statements toks b rest)) (sym (ap (λ b. not (first && b)) e ∙ not_first first))

  -- one statement more in the list that the loop goes over
  pub one_guarded : (stats : List Stat) (i : ℕ) (s : Stat) (first later : Bool) (old mid new all : List Item) → i < length stats → s ≡ get_or stats i s → old ++ items_in_statements toks (not first) (statements_of (map syntax_of_stat (drop i stats))) ≡ all
      → mid ≡ old ++ guard_of toks (not first) (items_in_statement toks (syntax_of_stat s)) → new ≡ mid ++ items_in_statement toks (syntax_of_stat s) → later ≡ (first && is_empty (syntax_of_stat s)) → new ++ items_in_statements toks (not later) (statements_of (map syntax_of_stat (drop (i + 1) stats))) ≡ all
  one_guarded stats i s first later old mid new all inside is before guarded added later_is =
      ap (λ b. new ++ items_in_statements toks (not b) rest) later_is
      ∙ ap (λ n. n ++ items_in_statements toks (not (first && is_empty (syntax_of_stat s))) rest) (then_on old mid new (guard_of toks (not first) own) own guarded added)
      ∙ append_assoc old (guard_of toks (not first) own ++ own) (items_in_statements toks (not (first && is_empty (syntax_of_stat s))) rest)
      ∙ ap (λ ys. old ++ ys) (append_assoc (guard_of toks (not first) own) own (items_in_statements toks (not (first && is_empty (syntax_of_stat s))) rest) ∙ sym (one_statement (syntax_of_stat s) first rest))
      ∙ ap (λ ss. old ++ items_in_statements toks (not first) (statements_of (map syntax_of_stat ss))) (sym (front stats i s inside is))
      ∙ before
    where
      own : List Item
      own = items_in_statement toks (syntax_of_stat s)

      rest : tokens.Statements
      rest = statements_of (map syntax_of_stat (drop (i + 1) stats))

  -- ---- what a statement starts with

  -- an expression has a first item
  pub begun : (e : tokens.Expression) (more : List Item) → opens_first toks (items_in_expression toks e ++ more) ≡ opens_first toks (items_in_expression toks e)
  begun (syntax.nil_value span) more = refl
  begun (syntax.true_value span) more = refl
  begun (syntax.false_value span) more = refl
  begun (syntax.numeral span value) more = refl
  begun (syntax.string span value) more = refl
  begun (syntax.varargs span) more = refl
  begun (syntax.variable span name) more = refl
  begun (syntax.parenthesised span inner) more = refl
  begun (syntax.function span body) more = refl
  begun (syntax.table span fields) more = refl
  begun (syntax.unary span sign operand) more = refl
  begun (syntax.chain span first rest) more =
      ap (opens_first toks) (append_assoc (items_in_expression toks first) (items_in_operations toks rest) more)
      ∙ begun first (items_in_operations toks rest ++ more) ∙ sym (begun first (items_in_operations toks rest))
  begun (syntax.power span base sign exponent) more =
      ap (opens_first toks) (append_assoc (items_in_expression toks base) (Token sign ∷ items_in_expression toks exponent) more)
      ∙ begun base (Token sign ∷ (items_in_expression toks exponent ++ more)) ∙ sym (begun base (Token sign ∷ items_in_expression toks exponent))
  begun (syntax.suffixed span head suffixes) more =
      ap (opens_first toks) (append_assoc (items_in_expression toks head) (items_in_suffixes toks suffixes) more)
      ∙ begun head (items_in_suffixes toks suffixes ++ more) ∙ sym (begun head (items_in_suffixes toks suffixes))

  pub chain_begun : (span : tokens.Span) (first : tokens.Expression) (rest : tokens.Operations) → opens_first toks (items_in_expression toks (syntax.chain span first rest)) ≡ opens_first toks (items_in_expression toks first)
  chain_begun span first rest = begun first (items_in_operations toks rest)

  pub power_begun : (span : tokens.Span) (base : tokens.Expression) (sign : ℕ) (exponent : tokens.Expression) → opens_first toks (items_in_expression toks (syntax.power span base sign exponent)) ≡ opens_first toks (items_in_expression toks base)
  power_begun span base sign exponent = begun base (Token sign ∷ items_in_expression toks exponent)

  pub suffixed_begun : (span : tokens.Span) (head : tokens.Expression) (suffixes : tokens.Suffixes) → opens_first toks (items_in_expression toks (syntax.suffixed span head suffixes)) ≡ opens_first toks (items_in_expression toks head)
  suffixed_begun span head suffixes = begun head (items_in_suffixes toks suffixes)

  pub exprs_begun : (e : tokens.Expression) (rest : tokens.Expressions) → opens_first toks (items_in_expressions toks (syntax.more_expressions e rest)) ≡ opens_first toks (items_in_expression toks e)
  exprs_begun e rest = begun e _

  targets_begun : (targets : tokens.Expressions) (more : List Item) → opens_first toks (items_in_expressions toks targets ++ (Sign sign.Assign ∷ more)) ≡ opens_first toks (items_in_expressions toks targets)
  targets_begun syntax.no_expressions more = refl
  targets_begun (syntax.more_expressions e rest) more =
      ap (opens_first toks) (append_assoc (items_in_expression toks e) _ (Sign sign.Assign ∷ more)) ∙ begun e _ ∙ sym (begun e _)

  pub statement_begun : (s : tokens.Statement) → opens_first toks (items_in_statement toks s) ≡ opens_statement toks s
  statement_begun (syntax.empty_statement span) = refl
  statement_begun (syntax.local_statement span names syntax.no_expressions) = refl
  statement_begun (syntax.local_statement span names (syntax.more_expressions e rest)) = refl
  statement_begun (syntax.assignment span targets values) = targets_begun targets (items_in_expressions toks values)
  statement_begun (syntax.call_statement span call) = refl
  statement_begun (syntax.do_statement span body) = refl
  statement_begun (syntax.while_statement span test body) = refl
  statement_begun (syntax.repeat_statement span body test) = refl
  statement_begun (syntax.if_statement span arms last) = refl
  statement_begun (syntax.for_statement span name first limit step body) = refl
  statement_begun (syntax.for_in_statement span names values body) = refl
  statement_begun (syntax.function_statement span name fields method body) = refl
  statement_begun (syntax.local_function_statement span name body) = refl
  statement_begun (syntax.label span name) = refl
  statement_begun (syntax.goto_statement span name) = refl
  statement_begun (syntax.break_statement span) = refl
  statement_begun (syntax.return_statement span values) = refl

  -- of targets the first one
  pub targets_start : (es : List Expr) (e : Expr) → 0 < length es → e ≡ get_or es 0 e → opens_first toks (items_in_expression toks (syntax_of_expr e)) ≡ opens_first toks (items_in_expressions toks (expressions_of (map syntax_of_expr es)))
  targets_start [] e some is = absurd (omega (arith, some))
  targets_start (f ∷ es) e some is = ap (λ x. opens_first toks (items_in_expression toks (syntax_of_expr x))) is ∙ sym (exprs_begun (syntax_of_expr f) (expressions_of (map syntax_of_expr es)))

  -- a `;` is due
  pub guard_there : (first : Bool) (starts : Tok) (s : tokens.Statement) → NeedsGuard first starts → opens starts ≡ opens_statement toks s → guard_of toks (not first) (items_in_statement toks s) ≡ Sign sign.Semicolon ∷ []
  guard_there first starts s needs is = λ i. if not (needs.0 i) && (statement_begun s ∙ sym is ∙ ap opens needs.1) i then Sign sign.Semicolon ∷ [] else []

  -- or not
  pub guard_none : (first : Bool) (starts : Tok) (s : tokens.Statement) → (NeedsGuard first starts → ⊥) → opens starts ≡ opens_statement toks s → guard_of toks (not first) (items_in_statement toks s) ≡ []
  guard_none true starts s free is = refl
  guard_none false starts s free is = λ i. if (statement_begun s ∙ sym is ∙ opens_not starts (λ paren. free (refl, paren))) i then Sign sign.Semicolon ∷ [] else []

  -- ---- arguments

  pub lone_arguments : (span : tokens.Span) (parentheses : Bool) (es : tokens.Expressions) → is_lone es ≡ true → items_in_arguments toks (syntax.arguments span parentheses es) ≡ items_in_expressions toks es
  lone_arguments span parentheses es lone = ap (λ b. enclosed (kind_of toks) item_of added_items never_trails b false (items_in_expressions toks es)) (lone_chosen (words_at Token) never_encloses es ∙ lone)

  pub listed_arguments : (span : tokens.Span) (parentheses : Bool) (es : tokens.Expressions) → is_lone es ≡ false → items_in_arguments toks (syntax.arguments span parentheses es) ≡ Sign sign.LeftParen ∷ (items_in_expressions toks es ++ (Sign sign.RightParen ∷ []))
  listed_arguments span parentheses es lone = ap (λ b. enclosed (kind_of toks) item_of added_items never_trails b false (items_in_expressions toks es)) (lone_chosen (words_at Token) never_encloses es ∙ lone)
