-- A style that is given its own answer gives it again: where lone arguments stand in parentheses as the draft has them, the
-- draft is the same.
use Rattle.std.proofs.Common.{◌≡◌, Bool, true, false, Option, Some, None, List, [], ◌∷◌, codes, map, refl, sym, ap, ◌∙◌}
use Rattle.std.specs.Option.{option_map}
use Rattle.luf_tree.specs.Syntax as syntax
use Rattle.luf_tree.specs.SyntaxMap.{ShapeMap}
use Rattle.luf_bare.specs.Bare.{as_here, before, chosen_declared, chosen_expression, chosen_optional_expression, chosen_expressions, chosen_operations, chosen_suffix, chosen_suffixes, chosen_arguments, chosen_field, chosen_fields, chosen_statement, chosen_statements, chosen_arm, chosen_arms, chosen_block, chosen_optional_block, chosen_function_body}
use Rattle.luf_bare.specs.Lone.{item_enclosed, by_kind}
use Rattle.luf_draft.specs.Draft.{Draft, word, nest, group, pieces, tight, space, line, line_end, before_statement, block_ends, nothing_inside, source_ends, nothing_at_all}
use Rattle.luf_draft.specs.Form.{Words, guarded, words, parameters, with_dots, path, method, behind_sign, bracketed, declared, kind_of_last, kind_of_one, last_kind, items_of, lone, arguments_as, expression, expressions, more_expressions, broken_expressions, more_broken, operations, suffix, suffixes_of, arguments, field, more_fields, function_body, assigned, statement, for_step, arm, arms, more_arms, otherwise, statements, body, main}

module _ (string_has table_has : Bool → Bool) where
  -- ---- statements as a list of drafts

  abbrev each_statement : syntax.Statements Words → List Draft
  each_statement syntax.no_statements = []
  each_statement (syntax.more_statements s rest) = statement string_has table_has s ∷ each_statement rest

  abbrev follow : List Draft → List Draft → List Draft
  follow [] more = more
  follow (d ∷ ds) more = before_statement false ∷ guarded d (follow ds more)

  abbrev body_of : List Draft → List Draft → List Draft
  body_of [] more = nothing_inside ∷ more
  body_of (d ∷ ds) more = nest (pieces (before_statement true ∷ d ∷ follow ds [])) ∷ block_ends ∷ more

  abbrev main_of : List Draft → Draft
  main_of [] = nothing_at_all
  main_of (d ∷ ds) = pieces (before_statement true ∷ d ∷ follow ds (source_ends ∷ []))

  abbrev put_first : Option Draft → List Draft → List Draft
  put_first None ds = ds
  put_first (Some d) ds = d ∷ ds

  each_before : (s : Option (syntax.Statement Words)) (rest : syntax.Statements Words) → each_statement (before s rest) ≡ put_first (option_map (statement string_has table_has) s) (each_statement rest)
  each_before None rest = refl
  each_before (Some s) rest = refl

  statements_follow : (x : syntax.Statements Words) (more : List Draft) → statements string_has table_has x more ≡ follow (each_statement x) more
  statements_follow syntax.no_statements more = refl
  statements_follow (syntax.more_statements s rest) more = λ i. before_statement false ∷ guarded (statement string_has table_has s) (statements_follow rest more i)

  body_is : (x : syntax.Statements Words) (more : List Draft) → body string_has table_has (syntax.block tt x) more ≡ body_of (each_statement x) more
  body_is syntax.no_statements more = refl
  body_is (syntax.more_statements s rest) more = λ i. nest (pieces (before_statement true ∷ statement string_has table_has s ∷ statements_follow rest [] i)) ∷ block_ends ∷ more

  main_is : (x : syntax.Statements Words) → main string_has table_has (syntax.block tt x) ≡ main_of (each_statement x)
  main_is syntax.no_statements = refl
  main_is (syntax.more_statements s rest) = λ i. pieces (before_statement true ∷ statement string_has table_has s ∷ statements_follow rest (source_ends ∷ []) i)

  -- ---- as the program has its parentheses, and as the draft has them

  module _ (string_again : (had : Bool) → string_has (string_has had) ≡ string_has had) (table_again : (had : Bool) → table_has (table_has had) ≡ table_has had) where
    module _ {K : syntax.Shape} (f : ShapeMap K Words) where
      abbrev encloses : syntax.Expressions K → Bool → Bool
      encloses = by_kind string_has table_has

      abbrev others : syntax.Expressions K → Bool → Bool
      others = as_here

      last_kind_same : (x : syntax.Expression K) → last_kind (chosen_expression f encloses x) ≡ last_kind (chosen_expression f others x)
      last_kind_same (syntax.function span inner) = refl
      last_kind_same (syntax.table span _) = refl
      last_kind_same _ = refl

      kind_same : (x : syntax.Expression K) → kind_of_one (chosen_expression f encloses x) ≡ kind_of_one (chosen_expression f others x)
      kind_same (syntax.string span value) = refl
      kind_same (syntax.table span _) = refl
      kind_same (syntax.function span inner) = refl
      kind_same _ = refl

      last_same : (x : syntax.Expression K) (xs : syntax.Expressions K) → kind_of_last (chosen_expression f encloses x) (chosen_expressions f encloses xs) ≡ kind_of_last (chosen_expression f others x) (chosen_expressions f others xs)
      last_same x syntax.no_expressions = last_kind_same x
      last_same x (syntax.more_expressions y rest) = last_same y rest

      items_same : (xs : syntax.Expressions K) → items_of (chosen_expressions f encloses xs) ≡ items_of (chosen_expressions f others xs)
      items_same syntax.no_expressions = refl
      items_same (syntax.more_expressions x syntax.no_expressions) = kind_same x
      items_same (syntax.more_expressions x (syntax.more_expressions y rest)) = last_same y rest

      -- arguments that are not lone stand in parentheses anyhow
      last_alike : (x : syntax.Expression K) (had also : Bool) (l b : List Draft → List Draft) (more : List Draft)
          → arguments_as string_has table_has (last_kind (chosen_expression f others x)) had l b more ≡ arguments_as string_has table_has (last_kind (chosen_expression f others x)) also l b more
      last_alike (syntax.function span inner) had also l b more = refl
      last_alike (syntax.table span _) had also l b more = refl
      last_alike _ had also l b more = refl

      list_alike : (x : syntax.Expression K) (xs : syntax.Expressions K) (had also : Bool) (l b : List Draft → List Draft) (more : List Draft)
          → arguments_as string_has table_has (kind_of_last (chosen_expression f others x) (chosen_expressions f others xs)) had l b more
          ≡ arguments_as string_has table_has (kind_of_last (chosen_expression f others x) (chosen_expressions f others xs)) also l b more
      list_alike x syntax.no_expressions had also l b more = last_alike x had also l b more
      list_alike x (syntax.more_expressions y rest) had also l b more = list_alike y rest had also l b more

      one_alike : (x : syntax.Expression K) (had : Bool) (l b : List Draft → List Draft) (more : List Draft)
          → arguments_as string_has table_has (kind_of_one (chosen_expression f others x)) (item_enclosed (string_has had) (table_has had) x) l b more
          ≡ arguments_as string_has table_has (kind_of_one (chosen_expression f others x)) had l b more
      one_alike (syntax.string span value) had l b more = λ i. lone string_has table_has (string_again had i) l more
      one_alike (syntax.table span _) had l b more = λ i. lone string_has table_has (table_again had i) l more
      one_alike (syntax.function span inner) had l b more = refl
      one_alike _ had l b more = refl

      arguments_alike : (xs : syntax.Expressions K) (had : Bool) (l b : List Draft → List Draft) (more : List Draft)
          → arguments_as string_has table_has (items_of (chosen_expressions f others xs)) (encloses xs had) l b more ≡ arguments_as string_has table_has (items_of (chosen_expressions f others xs)) had l b more
      arguments_alike syntax.no_expressions had l b more = refl
      arguments_alike (syntax.more_expressions x syntax.no_expressions) had l b more = one_alike x had l b more
      arguments_alike (syntax.more_expressions x (syntax.more_expressions y rest)) had l b more = list_alike y rest true had l b more

      mutual
        expression_same : (x : syntax.Expression K) → expression string_has table_has (chosen_expression f encloses x) ≡ expression string_has table_has (chosen_expression f others x)
        expression_same (syntax.nil_value span) = refl
        expression_same (syntax.true_value span) = refl
        expression_same (syntax.false_value span) = refl
        expression_same (syntax.numeral span value) = refl
        expression_same (syntax.string span value) = refl
        expression_same (syntax.varargs span) = refl
        expression_same (syntax.variable span name) = refl
        expression_same (syntax.parenthesised span inner) = λ i. pieces (word (codes "(") ∷ tight ∷ expression_same inner i ∷ tight ∷ word (codes ")") ∷ [])
        expression_same (syntax.function span inner) = λ i. pieces (word (codes "function") ∷ function_body_same inner i)
        expression_same (syntax.table span syntax.no_fields) = refl
        expression_same (syntax.table span (syntax.more_fields first rest)) =
            λ i. group (pieces (word (codes "{") ∷ nest (pieces (line ∷ field_same first (more_fields_same rest) i)) ∷ line_end ∷ word (codes "}") ∷ []))
        expression_same (syntax.unary span sign operand) = λ i. pieces (word (f.leaf sign) ∷ behind_sign (f.leaf sign) ∷ expression_same operand i ∷ [])
        expression_same (syntax.chain span first rest) = λ i. group (pieces (expression_same first i ∷ nest (pieces (operations_same rest i)) ∷ []))
        expression_same (syntax.power span base sign exponent) = λ i. pieces (expression_same base i ∷ space ∷ word (f.leaf sign) ∷ space ∷ expression_same exponent i ∷ [])
        expression_same (syntax.suffixed span head suffixes) = λ i. pieces (expression_same head i ∷ suffixes_same suffixes i)

        expressions_same : (x : syntax.Expressions K) {m n : List Draft} → m ≡ n → expressions string_has table_has (chosen_expressions f encloses x) m ≡ expressions string_has table_has (chosen_expressions f others x) n
        expressions_same syntax.no_expressions same = same
        expressions_same (syntax.more_expressions first rest) same = λ i. expression_same first i ∷ more_expressions_same rest same i

        more_expressions_same : (x : syntax.Expressions K) {m n : List Draft} → m ≡ n → more_expressions string_has table_has (chosen_expressions f encloses x) m ≡ more_expressions string_has table_has (chosen_expressions f others x) n
        more_expressions_same syntax.no_expressions same = same
        more_expressions_same (syntax.more_expressions e rest) same = λ i. tight ∷ word (codes ",") ∷ space ∷ expression_same e i ∷ more_expressions_same rest same i

        broken_same : (x : syntax.Expressions K) {m n : List Draft} → m ≡ n → broken_expressions string_has table_has (chosen_expressions f encloses x) m ≡ broken_expressions string_has table_has (chosen_expressions f others x) n
        broken_same syntax.no_expressions same = same
        broken_same (syntax.more_expressions first rest) same = λ i. expression_same first i ∷ more_broken_same rest same i

        more_broken_same : (x : syntax.Expressions K) {m n : List Draft} → m ≡ n → more_broken string_has table_has (chosen_expressions f encloses x) m ≡ more_broken string_has table_has (chosen_expressions f others x) n
        more_broken_same syntax.no_expressions same = same
        more_broken_same (syntax.more_expressions e rest) same = λ i. tight ∷ word (codes ",") ∷ line ∷ expression_same e i ∷ more_broken_same rest same i

        operations_same : (x : syntax.Operations K) → operations string_has table_has (chosen_operations f encloses x) ≡ operations string_has table_has (chosen_operations f others x)
        operations_same syntax.no_operations = refl
        operations_same (syntax.more_operations (syntax.operation sign right) rest) = λ i. line ∷ word (f.leaf sign) ∷ space ∷ expression_same right i ∷ operations_same rest i

        suffix_same : (x : syntax.Suffix K) {m n : List Draft} → m ≡ n → suffix string_has table_has (chosen_suffix f encloses x) m ≡ suffix string_has table_has (chosen_suffix f others x) n
        suffix_same (syntax.name_suffix name) same = λ i. tight ∷ word (codes ".") ∷ tight ∷ word (f.leaf name) ∷ same i
        suffix_same (syntax.index_suffix index) same = λ i. tight ∷ bracketed (expression_same index i) (same i)
        suffix_same (syntax.call_suffix args) same = arguments_same args same
        suffix_same (syntax.method_suffix name args) same = λ i. tight ∷ word (codes ":") ∷ tight ∷ word (f.leaf name) ∷ arguments_same args same i

        suffixes_same : (x : syntax.Suffixes K) → suffixes_of string_has table_has (chosen_suffixes f encloses x) ≡ suffixes_of string_has table_has (chosen_suffixes f others x)
        suffixes_same syntax.no_suffixes = refl
        suffixes_same (syntax.more_suffixes first rest) = suffix_same first (suffixes_same rest)

        arguments_same : (x : syntax.Arguments K) {m n : List Draft} → m ≡ n → arguments string_has table_has (chosen_arguments f encloses x) m ≡ arguments string_has table_has (chosen_arguments f others x) n
        arguments_same (syntax.arguments span had items) {m} same =
            ap (λ k. arguments_as string_has table_has k (encloses items had) (λ ds. expressions string_has table_has (chosen_expressions f encloses items) ds) (λ ds. broken_expressions string_has table_has (chosen_expressions f encloses items) ds) m) (items_same items)
            ∙ arguments_alike items had (λ ds. expressions string_has table_has (chosen_expressions f encloses items) ds) (λ ds. broken_expressions string_has table_has (chosen_expressions f encloses items) ds) m
            ∙ (λ i. arguments_as string_has table_has (items_of (chosen_expressions f others items)) had (λ ds. expressions_same items {m = ds} refl i) (λ ds. broken_same items {m = ds} refl i) (same i))

        field_same : (x : syntax.Field K) {m n : List Draft} → m ≡ n → field string_has table_has (chosen_field f encloses x) m ≡ field string_has table_has (chosen_field f others x) n
        field_same (syntax.item_field value) same = λ i. expression_same value i ∷ same i
        field_same (syntax.named_field name value) same = λ i. word (f.leaf name) ∷ space ∷ word (codes "=") ∷ space ∷ expression_same value i ∷ same i
        field_same (syntax.keyed_field key value) same = λ i. bracketed (expression_same key i) (space ∷ word (codes "=") ∷ space ∷ expression_same value i ∷ same i)

        more_fields_same : (x : syntax.Fields K) → more_fields string_has table_has (chosen_fields f encloses x) ≡ more_fields string_has table_has (chosen_fields f others x)
        more_fields_same syntax.no_fields = refl
        more_fields_same (syntax.more_fields first rest) = λ i. word (codes ",") ∷ line ∷ field_same first (more_fields_same rest) i

        function_body_same : (x : syntax.FunctionBody K) → function_body string_has table_has (chosen_function_body f encloses x) ≡ function_body string_has table_has (chosen_function_body f others x)
        function_body_same (syntax.function_body span names vararg inner) = λ i. tight ∷ parameters (with_dots vararg (map f.name names)) (body_same inner {m = word (codes "end") ∷ []} refl i)

        assigned_same : (x : syntax.Expressions K) → assigned string_has table_has (chosen_expressions f encloses x) ≡ assigned string_has table_has (chosen_expressions f others x)
        assigned_same syntax.no_expressions = refl
        assigned_same (syntax.more_expressions e rest) = λ i. space ∷ word (codes "=") ∷ space ∷ expression_same e i ∷ more_expressions_same rest {m = []} refl i

        statement_same : (x : syntax.Statement K) → option_map (statement string_has table_has) (chosen_statement f encloses x) ≡ option_map (statement string_has table_has) (chosen_statement f others x)
        statement_same (syntax.empty_statement span) = refl
        statement_same (syntax.local_statement span names values) = λ i. Some (pieces (word (codes "local") ∷ space ∷ declared (map (chosen_declared f encloses) names) (assigned_same values i)))
        statement_same (syntax.assignment span targets values) = λ i. Some (pieces (expressions_same targets (assigned_same values) i))
        statement_same (syntax.call_statement span call) = λ i. Some (expression_same call i)
        statement_same (syntax.do_statement span inner) = λ i. Some (pieces (word (codes "do") ∷ body_same inner {m = word (codes "end") ∷ []} refl i))
        statement_same (syntax.while_statement span test inner) =
            λ i. Some (pieces (word (codes "while") ∷ space ∷ expression_same test i ∷ space ∷ word (codes "do") ∷ body_same inner {m = word (codes "end") ∷ []} refl i))
        statement_same (syntax.repeat_statement span inner test) =
            λ i. Some (pieces (word (codes "repeat") ∷ body_same inner (λ j. word (codes "until") ∷ space ∷ expression_same test j ∷ []) i))
        statement_same (syntax.if_statement span parts last) = λ i. Some (pieces (word (codes "if") ∷ arms_same parts (otherwise_same last) i))
        statement_same (syntax.for_statement span name first limit step inner) =
            λ i. Some (pieces (word (codes "for") ∷ space ∷ word (f.name name) ∷ space ∷ word (codes "=") ∷ space ∷ expression_same first i ∷ tight ∷ word (codes ",") ∷ space ∷ expression_same limit i
            ∷ for_step_same step (λ j. space ∷ word (codes "do") ∷ body_same inner {m = word (codes "end") ∷ []} refl j) i))
        statement_same (syntax.for_in_statement span names values inner) =
            λ i. Some (pieces (word (codes "for") ∷ space ∷ words (map f.name names) (space ∷ word (codes "in") ∷ space
            ∷ expressions_same values (λ j. space ∷ word (codes "do") ∷ body_same inner {m = word (codes "end") ∷ []} refl j) i)))
        statement_same (syntax.function_statement span name fields named inner) =
            λ i. Some (pieces (word (codes "function") ∷ space ∷ path (option_map f.name name) (map f.leaf fields) (method (option_map f.leaf named) (function_body_same inner i))))
        statement_same (syntax.local_function_statement span name inner) =
            λ i. Some (pieces (word (codes "local") ∷ space ∷ word (codes "function") ∷ space ∷ word (f.name name) ∷ function_body_same inner i))
        statement_same (syntax.label span name) = refl
        statement_same (syntax.goto_statement span name) = refl
        statement_same (syntax.break_statement span) = refl
        statement_same (syntax.return_statement span syntax.no_expressions) = refl
        statement_same (syntax.return_statement span (syntax.more_expressions e rest)) =
            λ i. Some (pieces (word (codes "return") ∷ space ∷ expression_same e i ∷ more_expressions_same rest {m = []} refl i))

        for_step_same : (x : syntax.OptionalExpression K) {m n : List Draft} → m ≡ n → for_step string_has table_has (chosen_optional_expression f encloses x) m ≡ for_step string_has table_has (chosen_optional_expression f others x) n
        for_step_same syntax.no_expression same = same
        for_step_same (syntax.an_expression e) same = λ i. tight ∷ word (codes ",") ∷ space ∷ expression_same e i ∷ same i

        arm_same : (x : syntax.Arm K) {m n : List Draft} → m ≡ n → arm string_has table_has (chosen_arm f encloses x) m ≡ arm string_has table_has (chosen_arm f others x) n
        arm_same (syntax.arm test inner) same = λ i. space ∷ expression_same test i ∷ space ∷ word (codes "then") ∷ body_same inner same i

        arms_same : (x : syntax.Arms K) {m n : List Draft} → m ≡ n → arms string_has table_has (chosen_arms f encloses x) m ≡ arms string_has table_has (chosen_arms f others x) n
        arms_same syntax.no_arms same = same
        arms_same (syntax.more_arms first rest) same = arm_same first (more_arms_same rest same)

        more_arms_same : (x : syntax.Arms K) {m n : List Draft} → m ≡ n → more_arms string_has table_has (chosen_arms f encloses x) m ≡ more_arms string_has table_has (chosen_arms f others x) n
        more_arms_same syntax.no_arms same = same
        more_arms_same (syntax.more_arms first rest) same = λ i. word (codes "elseif") ∷ arm_same first (more_arms_same rest same) i

        otherwise_same : (x : syntax.OptionalBlock K) → otherwise string_has table_has (chosen_optional_block f encloses x) ≡ otherwise string_has table_has (chosen_optional_block f others x)
        otherwise_same syntax.no_block = refl
        otherwise_same (syntax.a_block inner) = λ i. word (codes "else") ∷ body_same inner {m = word (codes "end") ∷ []} refl i

        statements_same : (x : syntax.Statements K) → each_statement (chosen_statements f encloses x) ≡ each_statement (chosen_statements f others x)
        statements_same syntax.no_statements = refl
        statements_same (syntax.more_statements first rest) =
            each_before (chosen_statement f encloses first) (chosen_statements f encloses rest) ∙ (λ i. put_first (statement_same first i) (statements_same rest i))
            ∙ sym (each_before (chosen_statement f others first) (chosen_statements f others rest))

        body_same : (x : syntax.Block K) {m n : List Draft} → m ≡ n → body string_has table_has (chosen_block f encloses x) m ≡ body string_has table_has (chosen_block f others x) n
        body_same (syntax.block span inner) {m} {n} same =
            body_is (chosen_statements f encloses inner) m ∙ (λ i. body_of (statements_same inner i) (same i)) ∙ sym (body_is (chosen_statements f others inner) n)

      pub main_same : (x : syntax.Block K) → main string_has table_has (chosen_block f encloses x) ≡ main string_has table_has (chosen_block f others x)
      main_same (syntax.block span inner) =
          main_is (chosen_statements f encloses inner) ∙ (λ i. main_of (statements_same inner i)) ∙ sym (main_is (chosen_statements f others inner))
