-- A draft has a gap before each significant token of its chunk, and one at the end. Of a part whose own gap stands before
-- it, as a suffix, the gaps are as many as its words; of one without, as an expression, they are one less.
use Rattle.std.proofs.Common.{◌≡◌, ℕ, zero, suc, ◌+◌, Bool, true, false, cond, bytes_eq, Option, Some, None, List, [], ◌∷◌, ◌++◌, codes, get_or, map, length, length-append, ap, sym, refl, subst, ◌∙◌, arith}
use Rattle.std.proofs.lemmas.List.{length-map, append-nil}
use Rattle.std.specs.Option.{option_map}
use Rattle.luf_lex.specs.declared.token.Tok.{Tok}
use Rattle.luf_lex.specs.declared.token.Tok.TheVariants.{Sign, Word}
use Rattle.luf_lex.specs.declared.token.Word.TheVariants as token_word
use Rattle.luf_lex.specs.declared.token.Sign.TheVariants as sign
use Rattle.luf_tree.specs.declared.tree.Block.{Block}
use Rattle.luf_tree.specs.declared.tree.Chunk.{Chunk}
use Rattle.luf_tree.specs.declared.tree.Stat.{Stat}
use Rattle.luf_tree.specs.declared.tree.Declared.{Declared}
use Rattle.luf_tree.specs.declared.tree.Arm.{Arm}
use Rattle.luf_tree.specs.declared.tree.FuncBody.{FuncBody}
use Rattle.luf_tree.specs.declared.tree.Expr.{Expr}
use Rattle.luf_tree.specs.declared.tree.ExprKind.TheVariants as expr
use Rattle.luf_tree.specs.declared.tree.Step.{Step}
use Rattle.luf_tree.specs.declared.tree.Suffix.{Suffix}
use Rattle.luf_tree.specs.declared.tree.Args.{Args}
use Rattle.luf_tree.specs.declared.tree.Field.{Field}
use Rattle.luf_tree.specs.Grammar as g
use Rattle.luf_tree.specs.Grammar.{expression, AreNames, AreDeclared, IsPath, IsExpr, AreSteps, IsOperand, IsSimple, IsPrefix, IsVariable, IsCall, IsParen, IsHead, AreSuffixes, IsSuffix, IsArgs, AreExprs, IsTable, AreFields, IsField, IsFuncBody, IsBlock, AreStats, IsReturn, IsStat, AreTargets, IsArm, AreArms, IsElse, IsForStep, IsChunk}
use Rattle.luf_tree.specs.Syntax as syntax
use Rattle.luf_tree.specs.TokenSyntax as tokens
use Rattle.luf_tree.specs.TokenSyntax.{from_to}
use Rattle.luf_tree.specs.SyntaxOf.{expressions_of, operations_of, suffixes_of, fields_of, statements_of, arms_of, optional_expression_of, optional_block_of, declared_of, first_of_path, rest_of_path, syntax_of, syntax_of_expr, syntax_of_block, syntax_of_stat, syntax_of_field, syntax_of_suffix, syntax_of_step, syntax_of_arm, syntax_of_args, syntax_of_body}
use Rattle.luf_tree.proofs.SyntaxEquations.{nil_syntax, true_syntax, false_syntax, number_syntax, string_syntax, vararg_syntax, name_syntax, paren_syntax, function_syntax, table_syntax, unary_syntax, chain_syntax, power_syntax, suffixed_syntax, empty_syntax, local_syntax, assign_syntax, call_syntax, do_syntax, while_syntax, repeat_syntax, if_syntax, for_syntax, for_in_syntax, function_stat_syntax, local_function_syntax, label_syntax, goto_syntax, break_syntax, return_syntax, item_syntax, named_syntax, keyed_syntax, dot_syntax, index_syntax, call_suffix_syntax, method_syntax, step_of_syntax, arm_of_syntax, args_of_syntax, block_of_syntax, body_of_syntax}
use Rattle.luf_bare.specs.Bare.{Bare, words_of, as_here, before, chosen_declared, chosen_expression, chosen_optional_expression, chosen_expressions, chosen_operations, chosen_suffix, chosen_suffixes, chosen_arguments, chosen_field, chosen_fields, chosen_statement, chosen_statements, chosen_arm, chosen_arms, chosen_block, chosen_optional_block, chosen_function_body, bare_declared, bare_expression, bare_optional_expression, bare_expressions, bare_operations, bare_suffix, bare_suffixes, bare_arguments, bare_field, bare_fields, bare_statement, bare_statements, bare_arm, bare_arms, bare_block, bare_optional_block, bare_function_body}
use Rattle.luf_bare.specs.Lone.{is_lone, is_lone_item}
use Rattle.luf_bare.specs.Writing.{opens, guarded_if, after_guard, enclosed, written_more_names, written_names, written_parameters, written_attribute, written_declared, written_fields_of_path, written_path, written_method, written_expression, written_for_step, written_more_expressions, written_expressions, written_operations, written_suffix, written_suffixes, written_arguments, written_field, written_more_fields, written_statement, written_statements, written_arm, written_more_arms, written_arms, written_block, written_else, written_body}
use Rattle.luf_bare.specs.Significant.{IsFixed, significant}
use Rattle.luf_bare.specs.ReadBack.{SpelledToken, spelled_at, spelled_by}
use Rattle.luf_bare.proofs.ReadBackLaws.{significant_are_written}
use Rattle.luf_draft.specs.Draft.{Draft, word, drafts, tight, space, tight_end, source_ends}
use Rattle.luf_draft.specs.Form as form
use Rattle.luf_draft.specs.Form.{Words, Items, no_items, lone_string, lone_table, with_block, plain_items, written_program}
use Rattle.luf_draft.specs.Openings.{openings, all_openings}

abbrev pub gaps : List Draft → ℕ
gaps ds = all_openings (drafts ds)

-- the words of arguments, by what they are and the words of their items
abbrev words_as : Items → ℕ → ℕ
words_as no_items n = 2
words_as lone_string n = n
words_as lone_table n = n
words_as with_block n = n + 2
words_as plain_items n = n + 2

-- the words of `...` behind a name
abbrev dots : Bool → ℕ
dots true = 2
dots false = 0

one_gap : (b : Bool) → openings (cond b space tight) ≡ 1
one_gap true = refl
one_gap false = refl

guard_gaps : (b : Bool) (statement : Draft) (more : List Draft) → gaps (cond b (word (codes ";") ∷ statement ∷ more) (statement ∷ more)) ≡ openings statement + gaps more
guard_gaps true statement more = omega arith
guard_gaps false statement more = omega arith

module _ {X : Type 0} (kind : X → Tok) (put : Tok → X) (toks : List Tok) (says : ℕ → List ℕ) (spells : ℕ → X) (string_has table_has : Bool → Bool) where
  -- what is written with nothing added
  abbrev nothing : Tok → List X
  nothing _ = []

  abbrev no_trail : Unit {0} → Bool
  no_trail _ = false

  abbrev drafted_declared : tokens.DeclaredName → syntax.DeclaredName Words
  drafted_declared = chosen_declared (words_of says) as_here

  abbrev drafted_expression : tokens.Expression → syntax.Expression Words
  drafted_expression = chosen_expression (words_of says) as_here

  abbrev drafted_expressions : tokens.Expressions → syntax.Expressions Words
  drafted_expressions = chosen_expressions (words_of says) as_here

  abbrev own_expression : tokens.Expression → List X
  own_expression e = written_expression kind put nothing no_trail (bare_expression (words_of spells) e)

  abbrev own_expressions : tokens.Expressions → List X
  own_expressions es = written_expressions kind put nothing no_trail (bare_expressions (words_of spells) es)

  abbrev own_more_expressions : tokens.Expressions → List X
  own_more_expressions es = written_more_expressions kind put nothing no_trail (bare_expressions (words_of spells) es)

  abbrev own_more_names : List ℕ → List X
  own_more_names names = written_more_names kind put nothing no_trail (map spells names)

  abbrev own_names : List ℕ → List X
  own_names names = written_names kind put nothing no_trail (map spells names)

  abbrev own_declared : List tokens.DeclaredName → List X
  own_declared ds = written_declared kind put nothing no_trail (map (bare_declared (words_of spells)) ds)

  abbrev own_path_fields : List ℕ → List X
  own_path_fields names = written_fields_of_path kind put nothing no_trail (map spells names)

  abbrev enclosed_own : Bool → List X → List X
  enclosed_own lone words = enclosed kind put nothing no_trail lone true words

  -- ---- names

  more_names_gaps : (names : List ℕ) (more : List Draft) → gaps (form.more_words (map says names) more) ≡ length (own_more_names names) + gaps more
  more_names_gaps [] more = omega arith
  more_names_gaps (name ∷ names) more = omega (arith, more_names_gaps names more)

  names_gaps : (name : ℕ) (names : List ℕ) (more : List Draft) → gaps (form.words (map says (name ∷ names)) more) + 1 ≡ length (own_names (name ∷ names)) + gaps more
  names_gaps name names more = omega (arith, more_names_gaps names more)

  count_names : {i k : ℕ} {names : List ℕ} → AreNames toks i k names → (more : List Draft) → gaps (form.words (map says names) more) + 1 ≡ length (own_names names) + gaps more
  count_names (g.one_name {i} _) more = names_gaps i [] more
  count_names (g.more_names {i} {names} _ _ _) more = names_gaps i names more

  more_parameters_gaps : (vararg : Bool) (names : List ℕ) → gaps (form.more_parameters (form.with_dots vararg (map says names))) ≡ length (own_more_names names) + dots vararg
  more_parameters_gaps true [] = refl
  more_parameters_gaps false [] = refl
  more_parameters_gaps true (name ∷ names) = omega (arith, more_parameters_gaps true names)
  more_parameters_gaps false (name ∷ names) = omega (arith, more_parameters_gaps false names)

  parameters_gaps : (vararg : Bool) (names : List ℕ) (more : List Draft) → gaps (form.parameters (form.with_dots vararg (map says names)) more) ≡ length (written_parameters kind put nothing no_trail (map spells names) vararg) + 1 + gaps more
  parameters_gaps true [] more = omega arith
  parameters_gaps false [] more = omega arith
  parameters_gaps true (name ∷ names) more = omega (arith, length-append (own_more_names names) (put (Sign sign.Comma) ∷ put (Sign sign.Dots) ∷ []), more_parameters_gaps true names)
  parameters_gaps false (name ∷ names) more = omega (arith, more_parameters_gaps false names)

  attribute_gaps : (a : Option ℕ) (more : List Draft) → gaps (form.attribute (option_map says a) more) ≡ length (written_attribute kind put nothing no_trail (option_map spells a)) + gaps more
  attribute_gaps None more = omega arith
  attribute_gaps (Some name) more = omega arith

  declared_gaps : (d : tokens.DeclaredName) (ds : List tokens.DeclaredName) (more : List Draft) → gaps (form.declared (map drafted_declared (d ∷ ds)) more) + 1 ≡ length (own_declared (d ∷ ds)) + gaps more
  declared_gaps d [] more = omega (arith, attribute_gaps d.attribute more)
  declared_gaps d (e ∷ ds) more =
      omega (arith, length-append {A = X}, attribute_gaps d.attribute (tight ∷ word (codes ",") ∷ space ∷ form.declared (map drafted_declared (e ∷ ds)) more), declared_gaps e ds more)

  count_declared : {i k : ℕ} {ds : List Declared} → AreDeclared toks i k ds → (more : List Draft) → gaps (form.declared (map drafted_declared (map declared_of ds)) more) + 1 ≡ length (own_declared (map declared_of ds)) + gaps more
  count_declared (g.one_declared {i} {a} _ _) more = declared_gaps (declared_of (record { name = i; attribute = a })) [] more
  count_declared (g.more_declared {i} {a} {declared} _ _ _ _) more = declared_gaps (declared_of (record { name = i; attribute = a })) (map declared_of declared) more

  path_fields_gaps : (names : List ℕ) (more : List Draft) → gaps (form.path_fields (map says names) more) ≡ length (own_path_fields names) + gaps more
  path_fields_gaps [] more = omega arith
  path_fields_gaps (name ∷ names) more = omega (arith, path_fields_gaps names more)

  count_path : {i k : ℕ} {path : List ℕ} → IsPath toks i k path → (more : List Draft)
      → gaps (form.path (option_map says (first_of_path path)) (map says (rest_of_path path)) more) + 1 ≡ length (written_path kind put nothing no_trail (option_map spells (first_of_path path)) (map spells (rest_of_path path))) + gaps more
  count_path (g.path_end _) more = omega arith
  count_path (g.path_more {path} _ _ _) more = omega (arith, path_fields_gaps path more)

  method_gaps : (m : Option ℕ) (more : List Draft) → gaps (form.method (option_map says m) more) ≡ length (written_method kind put nothing no_trail (option_map spells m)) + gaps more
  method_gaps None more = omega arith
  method_gaps (Some name) more = omega arith

  -- ---- arguments

  lone_gaps : (wanted : Bool) (item : List Draft → List Draft) (n : ℕ) → ((more : List Draft) → gaps (item more) + 1 ≡ n + gaps more) → (more : List Draft) → gaps (form.lone string_has table_has wanted item more) ≡ n + gaps more
  lone_gaps true item n counted more = omega (arith, counted (word (codes ")") ∷ more))
  lone_gaps false item n counted more = omega (arith, counted more)

  arguments_gaps : (what : Items) (had : Bool) (listed broken : List Draft → List Draft) (n : ℕ) → ((more : List Draft) → gaps (listed more) + 1 ≡ n + gaps more) → ((more : List Draft) → gaps (broken more) + 1 ≡ n + gaps more)
      → (more : List Draft) → gaps (form.arguments_as string_has table_has what had listed broken more) ≡ words_as what n + gaps more
  arguments_gaps no_items had listed broken n as_listed as_broken more = omega arith
  arguments_gaps lone_string had listed broken n as_listed as_broken more = lone_gaps (string_has had) listed n as_listed more
  arguments_gaps lone_table had listed broken n as_listed as_broken more = lone_gaps (table_has had) listed n as_listed more
  arguments_gaps with_block had listed broken n as_listed as_broken more = omega (arith, as_listed (tight_end ∷ word (codes ")") ∷ more))
  arguments_gaps plain_items had listed broken n as_listed as_broken more = omega (arith, as_broken [])

  last_kind_words : (e : tokens.Expression) (n : ℕ) → words_as (form.last_kind (drafted_expression e)) n ≡ n + 2
  last_kind_words (syntax.function _ _) n = refl
  last_kind_words (syntax.table _ _) n = refl
  last_kind_words _ n = refl

  last_words : (e : tokens.Expression) (es : tokens.Expressions) (n : ℕ) → words_as (form.kind_of_last (drafted_expression e) (drafted_expressions es)) n ≡ n + 2
  last_words e syntax.no_expressions n = last_kind_words e n
  last_words e (syntax.more_expressions f rest) n = last_words f rest n

  one_words : (e : tokens.Expression) (words : List X) → words_as (form.kind_of_one (drafted_expression e)) (length words) ≡ length (enclosed_own (is_lone_item (bare_expression (words_of spells) e)) words)
  one_words (syntax.string _ _) words = sym (ap length (append-nil words))
  one_words (syntax.table _ _) words = sym (ap length (append-nil words))
  one_words (syntax.function _ _) words = omega (arith, length-append {A = X})
  one_words _ words = omega (arith, length-append {A = X})

  arguments_words : (e : tokens.Expression) (es : tokens.Expressions) (words : List X)
      → words_as (form.items_of (drafted_expressions (syntax.more_expressions e es))) (length words) ≡ length (enclosed_own (is_lone (bare_expressions (words_of spells) (syntax.more_expressions e es))) words)
  arguments_words e syntax.no_expressions words = one_words e words
  arguments_words e (syntax.more_expressions f rest) words = omega (arith, length-append {A = X}, last_words f rest (length words))

  -- ---- lists, of which each part is counted

  abbrev CountedExpression : tokens.Expression → Type 0
  CountedExpression e = openings (form.expression string_has table_has (drafted_expression e)) + 1 ≡ length (own_expression e)

  -- expressions, at least one: as a list, with gaps that break, behind others, behind `=`, `return` and `local`, as arguments
  record CountedExpressions (es : tokens.Expressions) : Type 0 where
    listed : (more : List Draft) → gaps (form.expressions string_has table_has (drafted_expressions es) more) + 1 ≡ length (own_expressions es) + gaps more
    broken : (more : List Draft) → gaps (form.broken_expressions string_has table_has (drafted_expressions es) more) + 1 ≡ length (own_expressions es) + gaps more
    more_listed : (more : List Draft) → gaps (form.more_expressions string_has table_has (drafted_expressions es) more) ≡ length (own_expressions es) + 1 + gaps more
    more_broken : (more : List Draft) → gaps (form.more_broken string_has table_has (drafted_expressions es) more) ≡ length (own_expressions es) + 1 + gaps more
    more_words : length (own_more_expressions es) ≡ length (own_expressions es) + 1
    assigned : gaps (form.assigned string_has table_has (drafted_expressions es)) ≡ length (own_expressions es) + 1
    returned : openings (form.statement string_has table_has (syntax.return_statement tt (drafted_expressions es))) ≡ length (own_expressions es)
    local_words : (ds : List (syntax.DeclaredName (Bare X)))
        → length (written_statement kind put nothing no_trail (syntax.local_statement tt ds (bare_expressions (words_of spells) es))) ≡ length (written_declared kind put nothing no_trail ds) + length (own_expressions es) + 2
    as_arguments : length (enclosed_own (is_lone (bare_expressions (words_of spells) es)) (own_expressions es)) ≡ words_as (form.items_of (drafted_expressions es)) (length (own_expressions es))

  one_counted : (e : tokens.Expression) → CountedExpression e → CountedExpressions (syntax.more_expressions e syntax.no_expressions)
  one_counted e counted = record {
    listed = λ more. omega (arith, length-append {A = X}, counted);
    broken = λ more. omega (arith, length-append {A = X}, counted);
    more_listed = λ more. omega (arith, length-append {A = X}, counted);
    more_broken = λ more. omega (arith, length-append {A = X}, counted);
    more_words = omega (arith, length-append {A = X});
    assigned = omega (arith, length-append {A = X}, counted);
    returned = omega (arith, length-append {A = X}, counted);
    local_words = λ ds. omega (arith, length-append {A = X}, counted);
    as_arguments = sym (one_words e (own_expressions (syntax.more_expressions e syntax.no_expressions)));
  }

  more_counted : (e : tokens.Expression) (es : tokens.Expressions) → CountedExpression e → CountedExpressions es → CountedExpressions (syntax.more_expressions e es)
  more_counted e es counted rest = record {
    listed = λ more. omega (arith, length-append {A = X}, counted, rest.more_listed more, rest.more_words);
    broken = λ more. omega (arith, length-append {A = X}, counted, rest.more_broken more, rest.more_words);
    more_listed = λ more. omega (arith, length-append {A = X}, counted, rest.more_listed more, rest.more_words);
    more_broken = λ more. omega (arith, length-append {A = X}, counted, rest.more_broken more, rest.more_words);
    more_words = omega (arith, length-append {A = X});
    assigned = omega (arith, length-append {A = X}, counted, rest.more_listed [], rest.more_words);
    returned = omega (arith, length-append {A = X}, counted, rest.more_listed [], rest.more_words);
    local_words = λ ds. omega (arith, length-append {A = X}, rest.more_words);
    as_arguments = sym (arguments_words e es (own_expressions (syntax.more_expressions e es)));
  }

  abbrev CountedArguments : tokens.Arguments → Type 0
  CountedArguments args = (more : List Draft) → gaps (form.arguments string_has table_has (chosen_arguments (words_of says) as_here args) more) ≡ length (written_arguments kind put nothing no_trail (bare_arguments (words_of spells) args)) + gaps more

  arguments_counted : (span : tokens.Span) (had : Bool) (es : tokens.Expressions) → CountedExpressions es → CountedArguments (syntax.arguments span had es)
  arguments_counted span had es counted more =
      arguments_gaps (form.items_of (drafted_expressions es)) had (λ ds. form.expressions string_has table_has (drafted_expressions es) ds) (λ ds. form.broken_expressions string_has table_has (drafted_expressions es) ds) (length (own_expressions es)) counted.listed counted.broken more
      ∙ ap (λ n. n + gaps more) (sym counted.as_arguments)

  abbrev CountedOperations : tokens.Operations → Type 0
  CountedOperations os = gaps (form.operations string_has table_has (chosen_operations (words_of says) as_here os)) ≡ length (written_operations kind put nothing no_trail (bare_operations (words_of spells) os))

  operations_counted : (name : ℕ) (e : tokens.Expression) (os : tokens.Operations) → CountedExpression e → CountedOperations os → CountedOperations (syntax.more_operations (syntax.operation name e) os)
  operations_counted name e os counted rest =
      omega (arith, length-append (own_expression e) (written_operations kind put nothing no_trail (bare_operations (words_of spells) os)), counted, rest)

  abbrev CountedSuffix : tokens.Suffix → Type 0
  CountedSuffix s = (more : List Draft) → gaps (form.suffix string_has table_has (chosen_suffix (words_of says) as_here s) more) ≡ length (written_suffix kind put nothing no_trail (bare_suffix (words_of spells) s)) + gaps more

  abbrev CountedSuffixes : tokens.Suffixes → Type 0
  CountedSuffixes ss = gaps (form.suffixes_of string_has table_has (chosen_suffixes (words_of says) as_here ss)) ≡ length (written_suffixes kind put nothing no_trail (bare_suffixes (words_of spells) ss))

  abbrev CountedField : tokens.Field → Type 0
  CountedField f = (more : List Draft) → gaps (form.field string_has table_has (chosen_field (words_of says) as_here f) more) + 1 ≡ length (written_field kind put nothing no_trail (bare_field (words_of spells) f)) + gaps more

  -- fields: behind others, and as a table
  record CountedFields (fs : tokens.Fields) : Type 0 where
    behind : gaps (form.more_fields string_has table_has (chosen_fields (words_of says) as_here fs)) ≡ length (written_more_fields kind put nothing no_trail false (bare_fields (words_of spells) fs))
    whole : (span : tokens.Span) → CountedExpression (syntax.table span fs)

  no_field_counted : CountedFields syntax.no_fields
  no_field_counted = record { behind = refl; whole = λ span. refl }

  fields_counted : (f : tokens.Field) (fs : tokens.Fields) → CountedField f → CountedFields fs → CountedFields (syntax.more_fields f fs)
  fields_counted f fs counted rest = record {
    behind = omega (arith, length-append (written_field kind put nothing no_trail (bare_field (words_of spells) f)) (written_more_fields kind put nothing no_trail false (bare_fields (words_of spells) fs)), counted (form.more_fields string_has table_has (chosen_fields (words_of says) as_here fs)), rest.behind);
    whole = λ span. omega (arith, length-append {A = X}, counted (form.more_fields string_has table_has (chosen_fields (words_of says) as_here fs)), rest.behind);
  }

  -- ---- statements, of which the empty ones are left out

  data CountedBoth : Option (syntax.Statement Words) → Option (syntax.Statement (Bare X)) → Type 0 where
    left_out : CountedBoth None None
    counted_as : {s : syntax.Statement Words} {t : syntax.Statement (Bare X)} → openings (form.statement string_has table_has s) + 1 ≡ length (written_statement kind put nothing no_trail t) → CountedBoth (Some s) (Some t)

  abbrev CountedStatement : tokens.Statement → Type 0
  CountedStatement s = CountedBoth (chosen_statement (words_of says) as_here s) (bare_statement (words_of spells) s)

  -- statements: behind others, as a body, and as the main block
  record CountedStatements (ss : syntax.Statements Words) (ts : syntax.Statements (Bare X)) : Type 0 where
    behind : (more : List Draft) → gaps (form.statements string_has table_has ss more) ≡ length (written_statements kind put nothing no_trail true ts) + gaps more
    inside : (more : List Draft) → gaps (form.body string_has table_has (syntax.block tt ss) more) ≡ length (written_statements kind put nothing no_trail false ts) + 1 + gaps more
    whole : openings (form.main string_has table_has (syntax.block tt ss)) ≡ length (written_statements kind put nothing no_trail false ts) + 1

  no_guard_if : (paren : Bool) (words : List X) → length (guarded_if kind put nothing no_trail paren words) ≡ length words
  no_guard_if true words = refl
  no_guard_if false words = refl

  no_guard : (words : List X) → length (after_guard kind put nothing no_trail true words) ≡ length words
  no_guard [] = refl
  no_guard (x ∷ words) = no_guard_if (opens (kind x)) (x ∷ words)

  no_statement_counted : CountedStatements syntax.no_statements syntax.no_statements
  no_statement_counted = record { behind = λ more. omega arith; inside = λ more. omega arith; whole = refl }

  statements_counted : {s : Option (syntax.Statement Words)} {t : Option (syntax.Statement (Bare X))} {ss : syntax.Statements Words} {ts : syntax.Statements (Bare X)} → CountedBoth s t → CountedStatements ss ts → CountedStatements (before s ss) (before t ts)
  statements_counted left_out rest = rest
  statements_counted {ss} (counted_as {s} {t} counted) rest = record {
    behind = λ more. omega (
      arith,
      length-append {A = X},
      counted,
      no_guard (written_statement kind put nothing no_trail t),
      rest.behind more,
      guard_gaps (form.opens (form.first_word (form.statement string_has table_has s) None)) (form.statement string_has table_has s) (form.statements string_has table_has ss more),
    );
    inside = λ more. omega (arith, length-append {A = X}, counted, rest.behind []);
    whole = omega (arith, length-append {A = X}, counted, rest.behind (source_ends ∷ []));
  }

  abbrev CountedBlock : tokens.Block → Type 0
  CountedBlock b = (more : List Draft) → gaps (form.body string_has table_has (chosen_block (words_of says) as_here b) more) ≡ length (written_block kind put nothing no_trail (bare_block (words_of spells) b)) + 1 + gaps more

  abbrev CountedBody : tokens.FunctionBody → Type 0
  CountedBody b = gaps (form.function_body string_has table_has (chosen_function_body (words_of says) as_here b)) ≡ length (written_body kind put nothing no_trail (bare_function_body (words_of spells) b))

  abbrev CountedArm : tokens.Arm → Type 0
  CountedArm a = (more : List Draft) → gaps (form.arm string_has table_has (chosen_arm (words_of says) as_here a) more) ≡ length (written_arm kind put nothing no_trail (bare_arm (words_of spells) a)) + 1 + gaps more

  -- arms, at least one: behind `if`, and behind others
  record CountedArms (arms : tokens.Arms) : Type 0 where
    first : (more : List Draft) → gaps (form.arms string_has table_has (chosen_arms (words_of says) as_here arms) more) ≡ length (written_arms kind put nothing no_trail (bare_arms (words_of spells) arms)) + 1 + gaps more
    behind : (more : List Draft) → gaps (form.more_arms string_has table_has (chosen_arms (words_of says) as_here arms) more) ≡ length (written_more_arms kind put nothing no_trail (bare_arms (words_of spells) arms)) + gaps more

  one_arm_counted : (a : tokens.Arm) → CountedArm a → CountedArms (syntax.more_arms a syntax.no_arms)
  one_arm_counted a counted = record {
    first = λ more. omega (arith, length-append {A = X}, counted more);
    behind = λ more. omega (arith, length-append {A = X}, counted more);
  }

  arms_counted : (a : tokens.Arm) (arms : tokens.Arms) → CountedArm a → CountedArms arms → CountedArms (syntax.more_arms a arms)
  arms_counted a arms counted rest = record {
    first = λ more. omega (arith, length-append {A = X}, counted (form.more_arms string_has table_has (chosen_arms (words_of says) as_here arms) more), rest.behind more);
    behind = λ more. omega (arith, length-append {A = X}, counted (form.more_arms string_has table_has (chosen_arms (words_of says) as_here arms) more), rest.behind more);
  }

  abbrev CountedElse : tokens.OptionalBlock → Type 0
  CountedElse o = gaps (form.otherwise string_has table_has (chosen_optional_block (words_of says) as_here o)) ≡ length (written_else kind put nothing no_trail (bare_optional_block (words_of spells) o))

  abbrev CountedStep : tokens.OptionalExpression → Type 0
  CountedStep o = (more : List Draft) → gaps (form.for_step string_has table_has (chosen_optional_expression (words_of says) as_here o) more) ≡ length (written_for_step kind put nothing no_trail (bare_optional_expression (words_of spells) o)) + gaps more

  -- ---- statements, of which each part is counted

  abbrev own_block : tokens.Block → List X
  own_block b = written_block kind put nothing no_trail (bare_block (words_of spells) b)

  -- a statement, drafted and written
  abbrev CountedAs : syntax.Statement Words → syntax.Statement (Bare X) → Type 0
  CountedAs s t = openings (form.statement string_has table_has s) + 1 ≡ length (written_statement kind put nothing no_trail t)

  -- ... `end`
  abbrev and_end : List X
  and_end = put (Word token_word.End) ∷ []

  body_counted : (span : tokens.Span) (vararg : Bool) (names : List ℕ) (b : tokens.Block) → CountedBlock b → CountedBody (syntax.function_body span names vararg b)
  body_counted span vararg names b counted =
      omega (
        arith,
        parameters_gaps vararg names (form.body string_has table_has (chosen_block (words_of says) as_here b) (word (codes "end") ∷ [])),
        counted (word (codes "end") ∷ []),
        length-append (written_parameters kind put nothing no_trail (map spells names) vararg) (put (Sign sign.RightParen) ∷ (own_block b ++ and_end)),
        length-append (own_block b) and_end,
      )

  local_counted : (ds : List tokens.DeclaredName) (es : tokens.Expressions) → ((more : List Draft) → gaps (form.declared (map drafted_declared ds) more) + 1 ≡ length (own_declared ds) + gaps more) → CountedExpressions es
      → CountedAs (syntax.local_statement tt (map drafted_declared ds) (drafted_expressions es)) (syntax.local_statement tt (map (bare_declared (words_of spells)) ds) (bare_expressions (words_of spells) es))
  local_counted ds es declared counted = omega (arith, declared (form.assigned string_has table_has (drafted_expressions es)), counted.assigned, counted.local_words (map (bare_declared (words_of spells)) ds))

  assignment_counted : (targets es : tokens.Expressions) → CountedExpressions targets → CountedExpressions es
      → CountedAs (syntax.assignment tt (drafted_expressions targets) (drafted_expressions es)) (syntax.assignment tt (bare_expressions (words_of spells) targets) (bare_expressions (words_of spells) es))
  assignment_counted targets es of_targets counted =
      omega (arith, of_targets.listed (form.assigned string_has table_has (drafted_expressions es)), counted.assigned, length-append (own_expressions targets) (put (Sign sign.Assign) ∷ own_expressions es))

  abbrev drafted_block : tokens.Block → syntax.Block Words
  drafted_block = chosen_block (words_of says) as_here

  while_counted : (e : tokens.Expression) (b : tokens.Block) → CountedExpression e → CountedBlock b → CountedAs (syntax.while_statement tt (drafted_expression e) (drafted_block b)) (syntax.while_statement tt (bare_expression (words_of spells) e) (bare_block (words_of spells) b))
  while_counted e b test counted =
      omega (arith, test, counted (word (codes "end") ∷ []), length-append (own_expression e) (put (Word token_word.Do) ∷ (own_block b ++ and_end)), length-append (own_block b) and_end)

  repeat_counted : (e : tokens.Expression) (b : tokens.Block) → CountedExpression e → CountedBlock b → CountedAs (syntax.repeat_statement tt (drafted_block b) (drafted_expression e)) (syntax.repeat_statement tt (bare_block (words_of spells) b) (bare_expression (words_of spells) e))
  repeat_counted e b test counted =
      omega (arith, test, counted (word (codes "until") ∷ space ∷ form.expression string_has table_has (drafted_expression e) ∷ []), length-append (own_block b) (put (Word token_word.Until) ∷ own_expression e))

  if_counted : (arms : tokens.Arms) (other : tokens.OptionalBlock) → CountedArms arms → CountedElse other
      → CountedAs (syntax.if_statement tt (chosen_arms (words_of says) as_here arms) (chosen_optional_block (words_of says) as_here other)) (syntax.if_statement tt (bare_arms (words_of spells) arms) (bare_optional_block (words_of spells) other))
  if_counted arms other counted last =
      omega (
        arith,
        counted.first (form.otherwise string_has table_has (chosen_optional_block (words_of says) as_here other)),
        last,
        length-append (written_arms kind put nothing no_trail (bare_arms (words_of spells) arms)) (written_else kind put nothing no_trail (bare_optional_block (words_of spells) other) ++ and_end),
        length-append (written_else kind put nothing no_trail (bare_optional_block (words_of spells) other)) and_end,
      )

  -- behind the values of a `for`: do block end
  abbrev drafted_loop : tokens.Block → List Draft
  drafted_loop b = space ∷ word (codes "do") ∷ form.body string_has table_has (drafted_block b) (word (codes "end") ∷ [])

  abbrev own_loop : tokens.Block → List X
  own_loop b = put (Word token_word.Do) ∷ (own_block b ++ and_end)

  abbrev own_step : tokens.OptionalExpression → List X
  own_step step = written_for_step kind put nothing no_trail (bare_optional_expression (words_of spells) step)

  for_counted : (name : ℕ) (first limit : tokens.Expression) (step : tokens.OptionalExpression) (b : tokens.Block) → CountedExpression first → CountedExpression limit → CountedStep step → CountedBlock b
      → CountedAs (syntax.for_statement tt (says name) (drafted_expression first) (drafted_expression limit) (chosen_optional_expression (words_of says) as_here step) (drafted_block b))
      (syntax.for_statement tt (spells name) (bare_expression (words_of spells) first) (bare_expression (words_of spells) limit) (bare_optional_expression (words_of spells) step) (bare_block (words_of spells) b))
  for_counted name first limit step b of_first of_limit of_step counted =
      omega (
        arith,
        of_first,
        of_limit,
        of_step (drafted_loop b),
        counted (word (codes "end") ∷ []),
        length-append (own_expression first) (put (Sign sign.Comma) ∷ (own_expression limit ++ (own_step step ++ own_loop b))),
        length-append (own_expression limit) (own_step step ++ own_loop b),
        length-append (own_step step) (own_loop b),
        length-append (own_block b) and_end,
      )

  for_in_counted : (names : List ℕ) (es : tokens.Expressions) (b : tokens.Block) → ((more : List Draft) → gaps (form.words (map says names) more) + 1 ≡ length (own_names names) + gaps more) → CountedExpressions es → CountedBlock b
      → CountedAs (syntax.for_in_statement tt (map says names) (drafted_expressions es) (drafted_block b)) (syntax.for_in_statement tt (map spells names) (bare_expressions (words_of spells) es) (bare_block (words_of spells) b))
  for_in_counted names es b of_names of_values counted =
      omega (
        arith,
        of_names (space ∷ word (codes "in") ∷ space ∷ form.expressions string_has table_has (drafted_expressions es) (drafted_loop b)),
        of_values.listed (drafted_loop b),
        counted (word (codes "end") ∷ []),
        length-append (own_names names) (put (Word token_word.In) ∷ (own_expressions es ++ own_loop b)),
        length-append (own_expressions es) (own_loop b),
        length-append (own_block b) and_end,
      )

  abbrev own_path : List ℕ → List X
  own_path path = written_path kind put nothing no_trail (option_map spells (first_of_path path)) (map spells (rest_of_path path))

  abbrev own_method : Option ℕ → List X
  own_method m = written_method kind put nothing no_trail (option_map spells m)

  abbrev own_body : tokens.FunctionBody → List X
  own_body b = written_body kind put nothing no_trail (bare_function_body (words_of spells) b)

  abbrev drafted_body : tokens.FunctionBody → syntax.FunctionBody Words
  drafted_body = chosen_function_body (words_of says) as_here

  function_counted : (path : List ℕ) (m : Option ℕ) (b : tokens.FunctionBody)
      → ((more : List Draft) → gaps (form.path (option_map says (first_of_path path)) (map says (rest_of_path path)) more) + 1 ≡ length (own_path path) + gaps more) → CountedBody b
      → CountedAs (syntax.function_statement tt (option_map says (first_of_path path)) (map says (rest_of_path path)) (option_map says m) (drafted_body b))
      (syntax.function_statement tt (option_map spells (first_of_path path)) (map spells (rest_of_path path)) (option_map spells m) (bare_function_body (words_of spells) b))
  function_counted path m b of_path counted =
      omega (
        arith,
        of_path (form.method (option_map says m) (form.function_body string_has table_has (drafted_body b))),
        method_gaps m (form.function_body string_has table_has (drafted_body b)),
        counted,
        length-append (own_path path) (own_method m ++ own_body b),
        length-append (own_method m) (own_body b),
      )

  -- ---- by the grammar

  mutual
    count_expr : {n : ℕ} {i k : ℕ} {x : Expr} → IsExpr toks n i k x → CountedExpression (syntax_of_expr x)
    count_expr (g.operand_expr d_e) = count_operand d_e
    count_expr (g.chain_expr {i} {k} {first} {rest} _ _ d_e d_rest) = subst CountedExpression (sym (chain_syntax i k first rest)) (omega (arith, length-append {A = X}, count_expr d_e, count_steps d_rest))

    count_steps : {m : ℕ} {i k : ℕ} {x : List Step} → AreSteps toks m i k x → CountedOperations (operations_of (map syntax_of_step x))
    count_steps (g.one_step {i} {e} _ _ d_e) = subst (λ z. CountedOperations (syntax.more_operations z syntax.no_operations)) (sym (step_of_syntax i e)) (operations_counted i (syntax_of_expr e) syntax.no_operations (count_expr d_e) refl)
    count_steps (g.more_steps {i} {e} {rest} _ _ d_e d_rest) = subst (λ z. CountedOperations (syntax.more_operations z (operations_of (map syntax_of_step rest)))) (sym (step_of_syntax i e)) (operations_counted i (syntax_of_expr e) (operations_of (map syntax_of_step rest)) (count_expr d_e) (count_steps d_rest))

    count_operand : {i k : ℕ} {x : Expr} → IsOperand toks i k x → CountedExpression (syntax_of_expr x)
    count_operand (g.unary_operand {i} {k} {e} _ _ d_e) = subst CountedExpression (sym (unary_syntax i k e)) (omega (arith, one_gap (bytes_eq (says i) (codes "not")), count_operand d_e))
    count_operand (g.power_operand {i} {j} {l} {base} {exponent} d_e _ d_exponent) = subst CountedExpression (sym (power_syntax i l base j exponent)) (omega (arith, length-append {A = X}, count_simple d_e, count_operand d_exponent))
    count_operand (g.simple_operand d_e) = count_simple d_e

    count_simple : {i k : ℕ} {x : Expr} → IsSimple toks i k x → CountedExpression (syntax_of_expr x)
    count_simple (g.nil_simple {i} {j} _) = subst CountedExpression (sym (nil_syntax i j)) refl
    count_simple (g.true_simple {i} {j} _) = subst CountedExpression (sym (true_syntax i j)) refl
    count_simple (g.false_simple {i} {j} _) = subst CountedExpression (sym (false_syntax i j)) refl
    count_simple (g.number_simple {i} {j} _) = subst CountedExpression (sym (number_syntax i j)) refl
    count_simple (g.string_simple {i} {j} _) = subst CountedExpression (sym (string_syntax i j)) refl
    count_simple (g.vararg_simple {i} {j} _) = subst CountedExpression (sym (vararg_syntax i j)) refl
    count_simple (g.function_simple {i} {k} {f} _ d_f) = subst CountedExpression (sym (function_syntax i k f)) (omega (arith, count_func_body d_f))
    count_simple (g.table_simple {i} {j} {fields} d) = subst CountedExpression (sym (table_syntax i j fields)) ((count_table d).whole (from_to i j))
    count_simple (g.prefix_simple d_e _) = count_prefix d_e

    count_prefix : {i k : ℕ} {x : Expr} → IsPrefix toks i k x → CountedExpression (syntax_of_expr x)
    count_prefix (g.variable_prefix d_e) = count_variable d_e
    count_prefix (g.call_prefix d_e) = count_call d_e
    count_prefix (g.paren_prefix d_e) = count_paren d_e

    count_variable : {i k : ℕ} {x : Expr} → IsVariable toks i k x → CountedExpression (syntax_of_expr x)
    count_variable (g.name_variable {i} {j} _) = subst CountedExpression (sym (name_syntax i j)) refl
    count_variable (g.suffixed_variable {i} {k} {head} {suffixes} d_e d_suffixes) = subst CountedExpression (sym (suffixed_syntax i k head suffixes)) (omega (arith, length-append {A = X}, count_head d_e, count_suffixes d_suffixes))

    count_call : {i k : ℕ} {x : Expr} → IsCall toks i k x → CountedExpression (syntax_of_expr x)
    count_call (g.suffixed_call {i} {k} {head} {suffixes} d_e d_suffixes) = subst CountedExpression (sym (suffixed_syntax i k head suffixes)) (omega (arith, length-append {A = X}, count_head d_e, count_suffixes d_suffixes))

    count_paren : {i k : ℕ} {x : Expr} → IsParen toks i k x → CountedExpression (syntax_of_expr x)
    count_paren (g.paren {i} {l} {e} _ d_e _) = subst CountedExpression (sym (paren_syntax i l e)) (omega (arith, length-append {A = X}, count_expr d_e))

    count_head : {i k : ℕ} {x : Expr} → IsHead toks i k x → CountedExpression (syntax_of_expr x)
    count_head (g.name_head {i} {j} _) = subst CountedExpression (sym (name_syntax i j)) refl
    count_head (g.paren_head d_e) = count_paren d_e

    count_suffixes : {calls : Bool} {i k : ℕ} {x : List Suffix} → AreSuffixes toks calls i k x → CountedSuffixes (suffixes_of (map syntax_of_suffix x))
    count_suffixes (g.one_suffix d_s) = omega (arith, length-append {A = X}, count_suffix d_s [])
    count_suffixes (g.more_suffixes {rest} d_s d_rest) =
        omega (arith, length-append {A = X}, count_suffix d_s (form.suffixes_of string_has table_has (chosen_suffixes (words_of says) as_here (suffixes_of (map syntax_of_suffix rest)))), count_suffixes d_rest)

    count_suffix : {calls : Bool} {i k : ℕ} {x : Suffix} → IsSuffix toks calls i k x → CountedSuffix (syntax_of_suffix x)
    count_suffix (g.dot_suffix {j} _ _) = subst CountedSuffix (sym (dot_syntax j)) (λ more. omega arith)
    count_suffix (g.index_suffix {e} _ d_e _) = subst CountedSuffix (sym (index_syntax e)) (λ more. omega (arith, length-append {A = X}, count_expr d_e))
    count_suffix (g.call_suffix {args} d_args) = subst CountedSuffix (sym (call_suffix_syntax args)) (λ more. count_args d_args more)
    count_suffix (g.method_suffix {j} {args} _ _ d_args) = subst CountedSuffix (sym (method_syntax j args)) (λ more. omega (arith, count_args d_args more))

    count_args : {i k : ℕ} {x : Args} → IsArgs toks i k x → CountedArguments (syntax_of_args x)
    count_args (g.no_args {i} {k} _ _) = subst CountedArguments (sym (args_of_syntax i k true [])) (λ more. omega arith)
    count_args (g.list_args {i} {l} {es} _ d _) = subst CountedArguments (sym (args_of_syntax i l true es)) (arguments_counted (from_to i l) true (expressions_of (map syntax_of_expr es)) (count_exprs d))
    count_args (g.string_args {i} {j} _) = subst CountedArguments (sym (args_of_syntax i j false (expression i j expr.Str ∷ []) ∙ ap (λ z. syntax.arguments (from_to i j) false (syntax.more_expressions z syntax.no_expressions)) (string_syntax i j)))
        (arguments_counted (from_to i j) false _ (one_counted (syntax.string (from_to i j) i) refl))
    count_args (g.table_args {i} {j} {fields} d) = subst CountedArguments (sym (args_of_syntax i j false (expression i j (expr.Table fields) ∷ []) ∙ ap (λ z. syntax.arguments (from_to i j) false (syntax.more_expressions z syntax.no_expressions)) (table_syntax i j fields)))
        (arguments_counted (from_to i j) false _ (one_counted (syntax.table (from_to i j) (fields_of (map syntax_of_field fields))) ((count_table d).whole (from_to i j))))

    count_exprs : {i k : ℕ} {x : List Expr} → AreExprs toks i k x → CountedExpressions (expressions_of (map syntax_of_expr x))
    count_exprs (g.one_expr {e} d_e) = one_counted (syntax_of_expr e) (count_expr d_e)
    count_exprs (g.more_exprs {e} {es} d_e _ d_es) = more_counted (syntax_of_expr e) (expressions_of (map syntax_of_expr es)) (count_expr d_e) (count_exprs d_es)

    count_table : {i k : ℕ} {x : List Field} → IsTable toks i k x → CountedFields (fields_of (map syntax_of_field x))
    count_table (g.table _ d _) = count_fields d

    count_fields : {i k : ℕ} {x : List Field} → AreFields toks i k x → CountedFields (fields_of (map syntax_of_field x))
    count_fields g.no_fields = no_field_counted
    count_fields (g.last_field {f} d) = fields_counted (syntax_of_field f) syntax.no_fields (count_field d) no_field_counted
    count_fields (g.more_fields {f} {fields} d _ d_fields) = fields_counted (syntax_of_field f) (fields_of (map syntax_of_field fields)) (count_field d) (count_fields d_fields)

    count_field : {i k : ℕ} {x : Field} → IsField toks i k x → CountedField (syntax_of_field x)
    count_field (g.keyed_field {key} {value} _ d_key _ _ d_value) = subst CountedField (sym (keyed_syntax key value)) (λ more. omega (arith, length-append {A = X}, count_expr d_key, count_expr d_value))
    count_field (g.named_field {i} {value} _ _ d_value) = subst CountedField (sym (named_syntax i value)) (λ more. omega (arith, count_expr d_value))
    count_field (g.item_field {e} d_e) = subst CountedField (sym (item_syntax e)) (λ more. omega (arith, count_expr d_e))

    count_func_body : {i k : ℕ} {x : FuncBody} → IsFuncBody toks i k x → CountedBody (syntax_of_body x)
    count_func_body (g.func_body {i} {p} {params} {vararg} {body} _ _ _ d_body _) = subst CountedBody (sym (body_of_syntax i p params vararg body)) (body_counted (from_to i p) vararg params (syntax_of_block body) (count_block d_body))

    count_block : {i k : ℕ} {x : Block} → IsBlock toks i k x → CountedBlock (syntax_of_block x)
    count_block (g.block {i} {j} {stats} d) = subst CountedBlock (sym (block_of_syntax i j stats)) (count_stats d).inside

    count_stats : {i k : ℕ} {x : List Stat} → AreStats toks i k x → CountedStatements (chosen_statements (words_of says) as_here (statements_of (map syntax_of_stat x))) (bare_statements (words_of spells) (statements_of (map syntax_of_stat x)))
    count_stats g.no_stats = no_statement_counted
    count_stats (g.last_stat d) = statements_counted (count_return d) no_statement_counted
    count_stats (g.more_stats d rest) = statements_counted (count_stat d) (count_stats rest)

    count_return : {i k : ℕ} {x : Stat} → IsReturn toks i k x → CountedStatement (syntax_of_stat x)
    count_return (g.return_nothing {i} {k} _ _) = subst CountedStatement (sym (return_syntax i k [])) (counted_as refl)
    count_return (g.return_values {i} {l} {es} _ d _) = subst CountedStatement (sym (return_syntax i l es)) (counted_as (omega (arith, (count_exprs d).returned)))

    count_stat : {i k : ℕ} {x : Stat} → IsStat toks i k x → CountedStatement (syntax_of_stat x)
    count_stat (g.empty_stat {i} {j} _) = subst CountedStatement (sym (empty_syntax i j)) left_out
    count_stat (g.local_stat {i} {k} {declared} _ d) = subst CountedStatement (sym (local_syntax i k declared [])) (counted_as (omega (arith, count_declared d [])))
    count_stat (g.local_values_stat {i} {o} {declared} {es} _ d _ d_es) = subst CountedStatement (sym (local_syntax i o declared es)) (counted_as (local_counted (map declared_of declared) (expressions_of (map syntax_of_expr es)) (λ more. count_declared d more) (count_exprs d_es)))
    count_stat (g.assign_stat {i} {l} {targets} {es} d_targets _ d_es) = subst CountedStatement (sym (assign_syntax i l targets es)) (counted_as (assignment_counted (expressions_of (map syntax_of_expr targets)) (expressions_of (map syntax_of_expr es)) (count_targets d_targets) (count_exprs d_es)))
    count_stat (g.call_stat {i} {j} {e} d_e _) = subst CountedStatement (sym (call_syntax i j e)) (counted_as (count_call d_e))
    count_stat (g.do_stat {i} {l} {body} _ d _) = subst CountedStatement (sym (do_syntax i l body)) (counted_as (omega (arith, length-append {A = X}, count_block d (word (codes "end") ∷ []))))
    count_stat (g.while_stat {i} {p} {e} {body} _ d_e _ d _) = subst CountedStatement (sym (while_syntax i p e body)) (counted_as (while_counted (syntax_of_expr e) (syntax_of_block body) (count_expr d_e) (count_block d)))
    count_stat (g.repeat_stat {i} {o} {body} {e} _ d _ d_e) = subst CountedStatement (sym (repeat_syntax i o body e)) (counted_as (repeat_counted (syntax_of_expr e) (syntax_of_block body) (count_expr d_e) (count_block d)))
    count_stat (g.if_stat {i} {o} {arms} {last} _ d_arms d_other _) = subst CountedStatement (sym (if_syntax i o arms last)) (counted_as (if_counted (arms_of (map syntax_of_arm arms)) (optional_block_of (option_map syntax_of_block last)) (count_arms d_arms) (count_else d_other)))
    count_stat (g.for_stat {i} {j} {s} {first} {limit} {step} {body} _ _ _ d_start _ d_limit d_step _ d _) =
        subst CountedStatement (sym (for_syntax i s j first limit step body)) (counted_as (for_counted j (syntax_of_expr first) (syntax_of_expr limit) (optional_expression_of (option_map syntax_of_expr step)) (syntax_of_block body) (count_expr d_start) (count_expr d_limit) (count_for_step d_step) (count_block d)))
    count_stat (g.for_in_stat {i} {r} {names} {es} {body} _ d_names _ d_es _ d _) =
        subst CountedStatement (sym (for_in_syntax i r names es body)) (counted_as (for_in_counted names (expressions_of (map syntax_of_expr es)) (syntax_of_block body) (λ more. count_names d_names more) (count_exprs d_es) (count_block d)))
    count_stat (g.function_stat {i} {o} {path} {method} {f} _ d_path _ d_f) = subst CountedStatement (sym (function_stat_syntax i o path method f)) (counted_as (function_counted path method (syntax_of_body f) (λ more. count_path d_path more) (count_func_body d_f)))
    count_stat (g.local_function_stat {i} {k} {o} {f} _ _ _ d_f) = subst CountedStatement (sym (local_function_syntax i o k f)) (counted_as (omega (arith, count_func_body d_f)))
    count_stat (g.label_stat {i} {j} {l} _ _ _) = subst CountedStatement (sym (label_syntax i l j)) (counted_as refl)
    count_stat (g.goto_stat {i} {j} {k} _ _) = subst CountedStatement (sym (goto_syntax i k j)) (counted_as refl)
    count_stat (g.break_stat {i} {j} _) = subst CountedStatement (sym (break_syntax i j)) (counted_as refl)

    count_targets : {i k : ℕ} {x : List Expr} → AreTargets toks i k x → CountedExpressions (expressions_of (map syntax_of_expr x))
    count_targets (g.one_target {e} d_e) = one_counted (syntax_of_expr e) (count_variable d_e)
    count_targets (g.more_targets {e} {targets} d_e _ d_es) = more_counted (syntax_of_expr e) (expressions_of (map syntax_of_expr targets)) (count_variable d_e) (count_targets d_es)

    count_arm : {i k : ℕ} {x : Arm} → IsArm toks i k x → CountedArm (syntax_of_arm x)
    count_arm (g.arm {e} {body} d_e _ d_body) = subst CountedArm (sym (arm_of_syntax e body)) (λ more. omega (arith, length-append {A = X}, count_expr d_e, count_block d_body more))

    count_arms : {i k : ℕ} {x : List Arm} → AreArms toks i k x → CountedArms (arms_of (map syntax_of_arm x))
    count_arms (g.one_arm {first} d) = one_arm_counted (syntax_of_arm first) (count_arm d)
    count_arms (g.more_arms {first} {arms} d _ rest) = arms_counted (syntax_of_arm first) (arms_of (map syntax_of_arm arms)) (count_arm d) (count_arms rest)

    count_else : {i k : ℕ} {x : Option Block} → IsElse toks i k x → CountedElse (optional_block_of (option_map syntax_of_block x))
    count_else g.no_else = refl
    count_else (g.an_else _ d) = omega (arith, count_block d (word (codes "end") ∷ []))

    count_for_step : {i k : ℕ} {x : Option Expr} → IsForStep toks i k x → CountedStep (optional_expression_of (option_map syntax_of_expr x))
    count_for_step g.no_for_step = λ more. omega arith
    count_for_step (g.a_for_step _ d_e) = λ more. omega (arith, count_expr d_e)

  pub count_main : {i k : ℕ} {x : Block} → IsBlock toks i k x → openings (form.main string_has table_has (chosen_block (words_of says) as_here (syntax_of_block x))) ≡ length (written_block kind put nothing no_trail (bare_block (words_of spells) (syntax_of_block x))) + 1
  count_main (g.block {i} {j} {stats} d) =
      subst (λ z. openings (form.main string_has table_has (chosen_block (words_of says) as_here z)) ≡ length (written_block kind put nothing no_trail (bare_block (words_of spells) z)) + 1) (sym (block_of_syntax i j stats)) (count_stats d).whole

-- the tokens of a source, with no spelling
abbrev unspelled : Tok → SpelledToken
unspelled t = record { token = t; spelling = [] }

tokens_kept : (toks : List Tok) → map (λ (w : SpelledToken). w.token) (map unspelled toks) ≡ toks
tokens_kept [] = refl
tokens_kept (t ∷ toks) = ap (λ rest. t ∷ rest) (tokens_kept toks)

-- as many words are written of a bare program, with nothing added, as a chunk has significant tokens
significant_count : (toks : List Tok) (chunk : Chunk) → IsChunk toks chunk
    → length (written_block (λ (w : SpelledToken). w.token) (spelled_by (λ _. [])) (λ _. []) (λ _. false) (bare_block (words_of (spelled_at (map unspelled toks))) (syntax_of chunk))) ≡ length (significant (syntax_of chunk) (length toks))
significant_count toks chunk derived =
    ap length (sym (significant_are_written (λ _. []) (map unspelled toks) chunk (subst (λ z. IsChunk z chunk) (sym (tokens_kept toks)) derived) (no_spelling toks)))
    ∙ length-map (significant (syntax_of chunk) (length (map unspelled toks))) (spelled_at (map unspelled toks))
    ∙ ap (λ n. length (significant (syntax_of chunk) n)) (length-map toks unspelled)
  where
    no_spelling : (toks : List Tok) (i : ℕ) → IsFixed (spelled_at (map unspelled toks) i).token → (spelled_at (map unspelled toks) i).spelling ≡ []
    no_spelling [] i _ = refl
    no_spelling (t ∷ toks) zero _ = refl
    no_spelling (t ∷ toks) (suc i) fixed = no_spelling toks i fixed

pub gap_before_each_token : (toks : List Tok) (string_has table_has : Bool → Bool) (written : List (List ℕ)) (chunk : Chunk) → IsChunk toks chunk
    → openings (form.main string_has table_has (written_program written chunk)) ≡ length (significant (syntax_of chunk) (length toks)) + 1
gap_before_each_token toks string_has table_has written chunk derived =
    count_main (λ (w : SpelledToken). w.token) (spelled_by (λ _. [])) toks (λ n. get_or written n []) (spelled_at (map unspelled toks)) string_has table_has derived
    ∙ ap (λ n. n + 1) (significant_count toks chunk derived)
