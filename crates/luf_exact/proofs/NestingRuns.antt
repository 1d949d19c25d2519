-- Each part runs over its tokens and enters its levels there: by recursion on the derivation.
use Rattle.std.proofs.Common.{◌≡◌, ℕ, zero, ◌+◌, ◌<◌, ◌⊎◌, inl, inr, Bool, true, false, Option, List, [], ◌∷◌, ◌++◌, map, refl, sym, ap, arith, append-nil}
use Rattle.std.specs.Option.{option_map}
use Rattle.luf_lex.specs.declared.token.Tok.{Tok}
use Rattle.luf_lex.specs.declared.token.Tok.TheVariants as tok
use Rattle.luf_lex.specs.declared.token.Sign.TheVariants as sign
use Rattle.luf_tree.specs.declared.tree.Block.{Block}
use Rattle.luf_tree.specs.declared.tree.Stat.{Stat}
use Rattle.luf_tree.specs.declared.tree.Declared.{Declared}
use Rattle.luf_tree.specs.declared.tree.Arm.{Arm}
use Rattle.luf_tree.specs.declared.tree.FuncBody.{FuncBody}
use Rattle.luf_tree.specs.declared.tree.Expr.{Expr}
use Rattle.luf_tree.specs.declared.tree.ExprKind.TheVariants as expr
use Rattle.luf_tree.specs.declared.tree.Step.{Step}
use Rattle.luf_tree.specs.declared.tree.Suffix.{Suffix}
use Rattle.luf_tree.specs.declared.tree.Args.{Args}
use Rattle.luf_tree.specs.declared.tree.Field.{Field}
use Rattle.luf_tree.specs.SyntaxOf.{syntax_of_expr, syntax_of_block, syntax_of_stat, syntax_of_field, syntax_of_suffix, syntax_of_step, syntax_of_arm, syntax_of_args, syntax_of_body, expressions_of, operations_of, suffixes_of, fields_of, statements_of, arms_of, optional_expression_of, optional_block_of}
use Rattle.luf_tree.specs.Grammar as g
use Rattle.luf_tree.specs.Grammar.{expression, IsToken, AreNames, AreParams, IsAttribute, AreDeclared, IsPath, IsMethod, IsSemicolon, IsExpr, AreSteps, IsOperand, IsSimple, IsPrefix, IsVariable, IsCall, IsParen, IsHead, AreSuffixes, IsSuffix, IsArgs, AreExprs, IsTable, AreFields, IsField, IsFuncBody, IsBlock, AreStats, IsReturn, IsStat, AreTargets, IsArm, AreArms, IsElse, IsForStep}
use Rattle.luf_tree.specs.Entry.{Entry, entered, entries_of_expression, entries_of_optional_expression, entries_of_expressions, entries_of_operation, entries_of_operations, entries_of_suffix, entries_of_suffixes, entries_of_arguments, entries_of_field, entries_of_fields, entries_of_statement, entries_of_statements, entries_of_arm, entries_of_arms, entries_of_block, entries_of_optional_block, entries_of_function_body}
use Rattle.luf_tree.proofs.SyntaxEquations as eq
use Rattle.luf_descent.proofs.EntryOpeners.{expr_opener, block_opener}
use Rattle.luf_exact.proofs.Nesting.{Before, fresh, prefix, whole, head, params, Hold, soft, hard, twin, Nest, nest, level, settle, entry_at, Runs, halt, runs_as, token_run, move_run, ◌⨾◌, ◌⊳◌}
use Rattle.luf_exact.proofs.NestingEnds.{Stops, prefix_stops, whole_stops, Ended, ended, Pending, clear, named, pending, Finishes, Passes, Simply, passing, ended_out, settled, closed, braced, twinned, opened, turned, function_opened, Starts, fresh_starts, pending_starts, operator_run, unary_softens}

-- the entries of each part at a level

abbrev in_expr : ℕ → Expr → List Entry
in_expr n e = entries_of_expression n (syntax_of_expr e)

abbrev in_exprs : ℕ → List Expr → List Entry
in_exprs n es = entries_of_expressions n (expressions_of (map syntax_of_expr es))

abbrev in_steps : ℕ → List Step → List Entry
in_steps n steps = entries_of_operations n (operations_of (map syntax_of_step steps))

abbrev in_suffixes : ℕ → List Suffix → List Entry
in_suffixes n suffixes = entries_of_suffixes n (suffixes_of (map syntax_of_suffix suffixes))

abbrev in_fields : ℕ → List Field → List Entry
in_fields n fields = entries_of_fields n (fields_of (map syntax_of_field fields))

abbrev in_stats : ℕ → List Stat → List Entry
in_stats n stats = entries_of_statements n (statements_of (map syntax_of_stat stats))

abbrev in_arms : ℕ → List Arm → List Entry
in_arms n arms = entries_of_arms n (arms_of (map syntax_of_arm arms))

abbrev in_block : ℕ → Block → List Entry
in_block n b = entries_of_block n (syntax_of_block b)

abbrev in_body : ℕ → FuncBody → List Entry
in_body n f = entries_of_function_body n (syntax_of_body f)

-- the same entries, of a part and of its syntax

spelled : {X : Type 0} {toks : List Tok} {i k : ℕ} {n m : Nest} {x y : X} (f : X → List Entry) → x ≡ y → Runs toks i n k m (f y) → Runs toks i n k m (f x)
spelled f e r = runs_as (sym (ap f e)) r

finishes : {X : Type 0} {toks : List Tok} {i j : ℕ} {n : Nest} {s : List Hold} {x y : X} (f : X → List Entry) → x ≡ y → Finishes toks i n j s (f y) → Finishes toks i n j s (f x)
finishes f e h = record { end = h.end; runs = spelled f e h.runs; ends = h.ends }

passes : {X : Type 0} {toks : List Tok} {i j : ℕ} {n : Nest} {s : List Hold} {x y : X} (f : X → List Entry) → x ≡ y → Passes toks i n j s (f y) → Passes toks i n j s (f x)
passes f e h = record { end = h.end; runs = spelled f e h.runs; ends = h.ends }

simply : {X : Type 0} {toks : List Tok} {i j : ℕ} {s : List Hold} {x y : X} (f : X → List Entry) → x ≡ y → Simply toks i j s (f y) → Simply toks i j s (f x)
simply f e h = record { before = h.before; runs = spelled f e h.runs; stops = h.stops }

-- the last part of a list

last_run : {toks : List Tok} {i k : ℕ} {n m : Nest} {es : List Entry} → Runs toks i n k m es → Runs toks i n k m (es ++ [])
last_run {es = es} r = runs_as (sym (append-nil es)) r

last_finishes : {toks : List Tok} {i j : ℕ} {n : Nest} {s : List Hold} {es : List Entry} → Finishes toks i n j s es → Finishes toks i n j s (es ++ [])
last_finishes h = record { end = h.end; runs = last_run h.runs; ends = h.ends }

last_passes : {toks : List Tok} {i j : ℕ} {n : Nest} {s : List Hold} {es : List Entry} → Passes toks i n j s es → Passes toks i n j s (es ++ [])
last_passes h = record { end = h.end; runs = last_run h.runs; ends = h.ends }

caret_run : {toks : List Tok} {i j : ℕ} {b : Before} (s : List Hold) → Stops toks i b → IsToken toks i (tok.Sign sign.Caret) j → Runs toks i (nest s b) j (nest (soft ∷ s) fresh) (entry_at i (level s) ∷ [])
caret_run s (prefix_stops none) t = token_run (nest s prefix) t
caret_run s whole_stops t = token_run (nest s whole) t

-- names

run_names : {toks : List Tok} {i j : ℕ} {names : List ℕ} → AreNames toks i j names → (s : List Hold) → settle s ≡ s → Runs toks i (nest s fresh) j (nest s prefix) []
run_names (g.one_name t) s base = token_run (nest s fresh) t
run_names (g.more_names t u d) s base = token_run (nest s fresh) t ⨾ (settled base named u refl refl refl ⨾ run_names d s base)

run_param_names : {toks : List Tok} {i j : ℕ} {names : List ℕ} → AreNames toks i j names → (s : List Hold) → Runs toks i (nest s params) j (nest s params) []
run_param_names (g.one_name t) s = token_run (nest s params) t
run_param_names (g.more_names t u d) s = token_run (nest s params) t ⨾ (token_run (nest s params) u ⨾ run_param_names d s)

run_params : {toks : List Tok} {i j : ℕ} {names : List ℕ} {vararg : Bool} → AreParams toks i j names vararg → (s : List Hold) → Runs toks i (nest s params) j (nest s params) []
run_params g.no_params s = halt
run_params (g.dots_alone t) s = token_run (nest s params) t
run_params (g.names_alone d) s = run_param_names d s
run_params (g.names_and_dots d t u) s = run_param_names d s ⨾ (token_run (nest s params) t ⨾ token_run (nest s params) u)

run_attribute : {toks : List Tok} {i j : ℕ} {a : Option ℕ} → IsAttribute toks i j a → (s : List Hold) → settle s ≡ s → Passes toks i (nest s prefix) j s []
run_attribute g.no_attribute s base = record { end = nest s prefix; runs = halt; ends = named }
run_attribute (g.an_attribute t n u) s base =
    record { end = nest s fresh; runs = settled base named t refl refl refl ⨾ (token_run (nest s fresh) n ⨾ settled base named u refl refl refl); ends = clear }

run_declared : {toks : List Tok} {i j : ℕ} {declared : List Declared} → AreDeclared toks i j declared → (s : List Hold) → settle s ≡ s → Passes toks i (nest s fresh) j s []
run_declared (g.one_declared t a) s base = let f = run_attribute a s base in record { end = f.end; runs = token_run (nest s fresh) t ⨾ f.runs; ends = f.ends }
run_declared (g.more_declared t a u d) s base =
    let f = run_attribute a s base in
    let h = run_declared d s base in
    record { end = h.end; runs = token_run (nest s fresh) t ⨾ (f.runs ⨾ (settled base f.ends u refl refl refl ⨾ h.runs)); ends = h.ends }

run_path : {toks : List Tok} {i j : ℕ} {path : List ℕ} → IsPath toks i j path → (s : List Hold) → Runs toks i (nest s head) j (nest s head) []
run_path (g.path_end t) s = token_run (nest s head) t
run_path (g.path_more t u d) s = token_run (nest s head) t ⨾ (token_run (nest s head) u ⨾ run_path d s)

run_method : {toks : List Tok} {i j : ℕ} {method : Option ℕ} → IsMethod toks i j method → (s : List Hold) → Runs toks i (nest s head) j (nest s head) []
run_method g.no_method s = halt
run_method (g.a_method t n) s = token_run (nest s head) t ⨾ token_run (nest s head) n

run_semicolon : {toks : List Tok} {i j : ℕ} {s : List Hold} {n : Nest} → IsSemicolon toks i j → settle s ≡ s → Pending toks s i n → Passes toks i n j s []
run_semicolon g.no_semicolon base p = record { end = _; runs = halt; ends = p }
run_semicolon {s = s} (g.a_semicolon t) base p = record { end = nest s fresh; runs = settled base p t refl refl refl; ends = clear }

separator_run : {toks : List Tok} {i j : ℕ} {s : List Hold} {n : Nest} → settle s ≡ s → Ended toks s i n → IsToken toks i (tok.Sign sign.Comma) j ⊎ IsToken toks i (tok.Sign sign.Semicolon) j → Runs toks i n j (nest s fresh) []
separator_run base p (inl t) = settled base (pending p) t refl refl refl
separator_run base p (inr t) = settled base (pending p) t refl refl refl

-- a statement that ends with a token of its own
done : {toks : List Tok} {i j : ℕ} {n : Nest} {s : List Hold} {es : List Entry} → Runs toks i n j (nest s whole) es → Passes toks i n j s es
done {s = s} r = record { end = nest s whole; runs = r; ends = pending (ended zero whole_stops) }

mutual
  run_expr : {toks : List Tok} {n i j : ℕ} {e : Expr} → IsExpr toks n i j e → (s : List Hold) → settle s ≡ s → Finishes toks i (nest s fresh) j s (in_expr (level s) e)
  run_expr (g.operand_expr d) s base = run_operand d s
  run_expr {i = i} {j = j} (g.chain_expr {first = first} {rest = rest} some above d steps) s base =
      let f = run_expr d s base in
      let h = run_steps steps some s base f.ends in
      finishes (entries_of_expression (level s)) (eq.chain_syntax i j first rest) (record { end = h.end; runs = f.runs ⨾ h.runs; ends = h.ends })

  run_steps : {toks : List Tok} {m i j : ℕ} {steps : List Step} {n : Nest} → AreSteps toks m i j steps → 0 < m → (s : List Hold) → settle s ≡ s → Ended toks s i n → Finishes toks i n j s (in_steps (level s) steps)
  run_steps {i = i} (g.one_step {e = e} t known d) some s base p =
      let f = run_expr d s base in
      finishes (λ o. entries_of_operation (level s) o ++ []) (eq.step_of_syntax i e) (last_finishes (record { end = f.end; runs = operator_run base p t (λ none. omega arith) ⨾ f.runs; ends = f.ends }))
  run_steps {i = i} (g.more_steps {e = e} {rest = rest} t known d steps) some s base p =
      let f = run_expr d s base in
      let h = run_steps steps some s base f.ends in
      finishes (λ o. entries_of_operation (level s) o ++ in_steps (level s) rest) (eq.step_of_syntax i e)
      (record { end = h.end; runs = operator_run base p t (λ none. omega arith) ⨾ (f.runs ⨾ h.runs); ends = h.ends })

  run_operand : {toks : List Tok} {i j : ℕ} {e : Expr} → IsOperand toks i j e → (s : List Hold) → Finishes toks i (nest s fresh) j s (in_expr (level s) e)
  run_operand {i = i} {j = j} (g.unary_operand {tok = t} {e = e} d u x) s =
      let f = run_operand x (soft ∷ s) in
      finishes (entries_of_expression (level s)) (eq.unary_syntax i j e) (record { end = f.end; runs = move_run (nest s fresh) d (unary_softens t u) ⨾ f.runs; ends = ended_out f.ends })
  run_operand {i = i} {j = j} (g.power_operand {j = k} {base = base} {exponent = exponent} d c x) s =
      let f = run_simple d s in
      let h = run_operand x (soft ∷ s) in
      finishes (entries_of_expression (level s)) (eq.power_syntax i j base k exponent) (record { end = h.end; runs = f.runs ⨾ (caret_run s f.stops c ⨾ h.runs); ends = ended_out h.ends })
  run_operand (g.simple_operand d) s = let f = run_simple d s in record { end = nest s f.before; runs = f.runs; ends = ended zero f.stops }

  run_simple : {toks : List Tok} {i j : ℕ} {e : Expr} → IsSimple toks i j e → (s : List Hold) → Simply toks i j s (in_expr (level s) e)
  run_simple {i = i} {j = j} (g.nil_simple t) s = simply (entries_of_expression (level s)) (eq.nil_syntax i j) (record { before = whole; runs = token_run (nest s fresh) t; stops = whole_stops })
  run_simple {i = i} {j = j} (g.true_simple t) s = simply (entries_of_expression (level s)) (eq.true_syntax i j) (record { before = whole; runs = token_run (nest s fresh) t; stops = whole_stops })
  run_simple {i = i} {j = j} (g.false_simple t) s = simply (entries_of_expression (level s)) (eq.false_syntax i j) (record { before = whole; runs = token_run (nest s fresh) t; stops = whole_stops })
  run_simple {i = i} {j = j} (g.number_simple t) s = simply (entries_of_expression (level s)) (eq.number_syntax i j) (record { before = whole; runs = token_run (nest s fresh) t; stops = whole_stops })
  run_simple {i = i} {j = j} (g.string_simple (inl t)) s = simply (entries_of_expression (level s)) (eq.string_syntax i j) (record { before = whole; runs = token_run (nest s fresh) t; stops = whole_stops })
  run_simple {i = i} {j = j} (g.string_simple (inr t)) s = simply (entries_of_expression (level s)) (eq.string_syntax i j) (record { before = whole; runs = token_run (nest s fresh) t; stops = whole_stops })
  run_simple {i = i} {j = j} (g.vararg_simple t) s = simply (entries_of_expression (level s)) (eq.vararg_syntax i j) (record { before = whole; runs = token_run (nest s fresh) t; stops = whole_stops })
  run_simple {i = i} {j = j} (g.function_simple {f = f} t d) s =
      simply (entries_of_expression (level s)) (eq.function_syntax i j f) (record { before = whole; runs = token_run (nest s fresh) t ⨾ run_body d s; stops = whole_stops })
  run_simple {i = i} {j = j} (g.table_simple {fields = fields} d) s = simply (entries_of_expression (level s)) (eq.table_syntax i j fields) (record { before = whole; runs = run_table d s; stops = whole_stops })
  run_simple {toks} {i = i} (g.prefix_simple d none) s = record { before = prefix; runs = run_prefix d s (fresh_starts toks s i); stops = prefix_stops none }

  run_prefix : {toks : List Tok} {i j : ℕ} {e : Expr} {n : Nest} → IsPrefix toks i j e → (s : List Hold) → Starts toks s i n → Runs toks i n j (nest s prefix) (in_expr (level s) e)
  run_prefix (g.variable_prefix d) s starts = run_variable d s starts
  run_prefix (g.call_prefix d) s starts = run_call d s starts
  run_prefix (g.paren_prefix d) s starts = run_paren d s starts

  run_variable : {toks : List Tok} {i j : ℕ} {e : Expr} {n : Nest} → IsVariable toks i j e → (s : List Hold) → Starts toks s i n → Runs toks i n j (nest s prefix) (in_expr (level s) e)
  run_variable {i = i} {j = j} (g.name_variable t) s starts = spelled (entries_of_expression (level s)) (eq.name_syntax i j) (starts.name t)
  run_variable {i = i} {j = j} (g.suffixed_variable {head = h} {suffixes = suffixes} d rest) s starts =
      spelled (entries_of_expression (level s)) (eq.suffixed_syntax i j h suffixes) (run_head d s starts ⨾ run_suffixes rest s)

  run_call : {toks : List Tok} {i j : ℕ} {e : Expr} {n : Nest} → IsCall toks i j e → (s : List Hold) → Starts toks s i n → Runs toks i n j (nest s prefix) (in_expr (level s) e)
  run_call {i = i} {j = j} (g.suffixed_call {head = h} {suffixes = suffixes} d rest) s starts =
      spelled (entries_of_expression (level s)) (eq.suffixed_syntax i j h suffixes) (run_head d s starts ⨾ run_suffixes rest s)

  run_paren : {toks : List Tok} {i j : ℕ} {e : Expr} {n : Nest} → IsParen toks i j e → (s : List Hold) → Starts toks s i n → Runs toks i n j (nest s prefix) (in_expr (level s) e)
  run_paren {i = i} {j = j} (g.paren {e = e} t d u) s starts =
      let f = run_expr d (hard ∷ s) refl in
      spelled (entries_of_expression (level s)) (eq.paren_syntax i j e) (starts.paren t ⨾ (f.runs ⊳ closed (pending f.ends) u refl refl refl))

  run_head : {toks : List Tok} {i j : ℕ} {e : Expr} {n : Nest} → IsHead toks i j e → (s : List Hold) → Starts toks s i n → Runs toks i n j (nest s prefix) (in_expr (level s) e)
  run_head {i = i} {j = j} (g.name_head t) s starts = spelled (entries_of_expression (level s)) (eq.name_syntax i j) (starts.name t)
  run_head (g.paren_head d) s starts = run_paren d s starts

  run_suffixes : {toks : List Tok} {calls : Bool} {i j : ℕ} {suffixes : List Suffix} → AreSuffixes toks calls i j suffixes → (s : List Hold) → Runs toks i (nest s prefix) j (nest s prefix) (in_suffixes (level s) suffixes)
  run_suffixes (g.one_suffix d) s = last_run (run_suffix d s)
  run_suffixes (g.more_suffixes d rest) s = run_suffix d s ⨾ run_suffixes rest s

  run_suffix : {toks : List Tok} {calls : Bool} {i j : ℕ} {x : Suffix} → IsSuffix toks calls i j x → (s : List Hold) → Runs toks i (nest s prefix) j (nest s prefix) (entries_of_suffix (level s) (syntax_of_suffix x))
  run_suffix (g.dot_suffix {j = j} t n) s = spelled (entries_of_suffix (level s)) (eq.dot_syntax j) (token_run (nest s prefix) t ⨾ token_run (nest s fresh) n)
  run_suffix (g.index_suffix {e = e} t d u) s =
      let f = run_expr d (hard ∷ s) refl in
      spelled (entries_of_suffix (level s)) (eq.index_syntax e)
      (spelled (λ p. entered p (level s) (in_expr (level s + 1) e)) (expr_opener t d) (token_run (nest s prefix) t ⨾ (f.runs ⊳ closed (pending f.ends) u refl refl refl)))
  run_suffix (g.call_suffix {args = args} d) s = spelled (entries_of_suffix (level s)) (eq.call_suffix_syntax args) (run_args d s)
  run_suffix (g.method_suffix {j = j} {args = args} t n d) s =
      spelled (entries_of_suffix (level s)) (eq.method_syntax j args) (token_run (nest s prefix) t ⨾ (token_run (nest s fresh) n ⨾ run_args d s))

  run_args : {toks : List Tok} {i j : ℕ} {a : Args} → IsArgs toks i j a → (s : List Hold) → Runs toks i (nest s prefix) j (nest s prefix) (entries_of_arguments (level s) (syntax_of_args a))
  run_args {i = i} {j = j} (g.no_args t u) s = spelled (entries_of_arguments (level s)) (eq.args_of_syntax i j true []) (token_run (nest s prefix) t ⊳ closed clear u refl refl refl)
  run_args {i = i} {j = j} (g.list_args {es = es} t d u) s =
      let f = run_exprs d (hard ∷ s) refl in
      spelled (entries_of_arguments (level s)) (eq.args_of_syntax i j true es) (token_run (nest s prefix) t ⨾ (f.runs ⊳ closed (pending f.ends) u refl refl refl))
  run_args {i = i} {j = j} (g.string_args (inl t)) s =
      spelled (entries_of_arguments (level s)) (eq.args_of_syntax i j false (expression i j expr.Str ∷ [])) (spelled (λ x. entered i (level s) (entries_of_expression (level s + 1) x ++ [])) (eq.string_syntax i j) (token_run (nest s prefix) t))
  run_args {i = i} {j = j} (g.string_args (inr t)) s =
      spelled (entries_of_arguments (level s)) (eq.args_of_syntax i j false (expression i j expr.Str ∷ [])) (spelled (λ x. entered i (level s) (entries_of_expression (level s + 1) x ++ [])) (eq.string_syntax i j) (token_run (nest s prefix) t))
  run_args {i = i} {j = j} (g.table_args {fields = fields} d) s =
      spelled (entries_of_arguments (level s)) (eq.args_of_syntax i j false (expression i j (expr.Table fields) ∷ []))
      (spelled (λ x. entered i (level s) (entries_of_expression (level s + 1) x ++ [])) (eq.table_syntax i j fields)
      (runs_as (ap (λ es. entered i (level s) (entered i (level s + 1) es)) (sym (append-nil (in_fields (level s + 1 + 1) fields)))) (run_lone_table d s)))

  run_exprs : {toks : List Tok} {i j : ℕ} {es : List Expr} → AreExprs toks i j es → (s : List Hold) → settle s ≡ s → Finishes toks i (nest s fresh) j s (in_exprs (level s) es)
  run_exprs (g.one_expr d) s base = last_finishes (run_expr d s base)
  run_exprs (g.more_exprs d t rest) s base =
      let f = run_expr d s base in
      let h = run_exprs rest s base in
      record { end = h.end; runs = f.runs ⨾ (settled base (pending f.ends) t refl refl refl ⨾ h.runs); ends = h.ends }

  run_table : {toks : List Tok} {i j : ℕ} {fields : List Field} → IsTable toks i j fields → (s : List Hold) → Runs toks i (nest s fresh) j (nest s whole) (entered i (level s) (in_fields (level s + 1) fields))
  run_table (g.table t d u) s = let f = run_fields d (hard ∷ s) refl in token_run (nest s fresh) t ⨾ (f.runs ⊳ braced f.ends u)

  run_lone_table : {toks : List Tok} {i j : ℕ} {fields : List Field} → IsTable toks i j fields → (s : List Hold)
      → Runs toks i (nest s prefix) j (nest s prefix) (entered i (level s) (entered i (level s + 1) (in_fields (level s + 1 + 1) fields)))
  run_lone_table (g.table t d u) s = let f = run_fields d (twin ∷ s) refl in token_run (nest s prefix) t ⨾ (f.runs ⊳ twinned f.ends u)

  run_fields : {toks : List Tok} {i j : ℕ} {fields : List Field} → AreFields toks i j fields → (s : List Hold) → settle s ≡ s → Passes toks i (nest s fresh) j s (in_fields (level s) fields)
  run_fields g.no_fields s base = record { end = nest s fresh; runs = halt; ends = clear }
  run_fields (g.last_field d) s base = last_passes (passing (run_field d s base))
  run_fields (g.more_fields d t rest) s base =
      let f = run_field d s base in
      let h = run_fields rest s base in
      record { end = h.end; runs = f.runs ⨾ (separator_run base f.ends t ⨾ h.runs); ends = h.ends }

  run_field : {toks : List Tok} {i j : ℕ} {x : Field} → IsField toks i j x → (s : List Hold) → settle s ≡ s → Finishes toks i (nest s fresh) j s (entries_of_field (level s) (syntax_of_field x))
  run_field (g.keyed_field {key = key} {value = value} t d u v x) s base =
      let f = run_expr d (hard ∷ s) refl in
      let h = run_expr x s base in
      finishes (entries_of_field (level s)) (eq.keyed_syntax key value) (finishes (λ p. entered p (level s) (in_expr (level s + 1) key) ++ in_expr (level s) value) (expr_opener t d)
      (record { end = h.end; runs = (token_run (nest s fresh) t ⨾ (f.runs ⊳ closed (pending f.ends) u refl refl refl)) ⨾ (settled base named v refl refl refl ⨾ h.runs); ends = h.ends }))
  run_field {i = i} (g.named_field {value = value} n t x) s base =
      let h = run_expr x s base in
      finishes (entries_of_field (level s)) (eq.named_syntax i value) (record { end = h.end; runs = token_run (nest s fresh) n ⨾ (settled base named t refl refl refl ⨾ h.runs); ends = h.ends })
  run_field (g.item_field {e = e} d) s base = finishes (entries_of_field (level s)) (eq.item_syntax e) (run_expr d s base)

  run_body : {toks : List Tok} {i j : ℕ} {f : FuncBody} → IsFuncBody toks i j f → (s : List Hold) → Runs toks i (nest (hard ∷ s) head) j (nest s whole) (in_body (level s + 1) f)
  run_body {i = i} {j = j} (g.func_body {params = names} {vararg = vararg} {body = body} t ps u d v) s =
      let b = run_block d (hard ∷ s) refl clear in
      spelled (entries_of_function_body (level s + 1)) (eq.body_of_syntax i j names vararg body)
      (token_run (nest (hard ∷ s) head) t ⨾ (run_params ps (hard ∷ s) ⨾ (token_run (nest (hard ∷ s) params) u ⨾ (b.runs ⊳ closed b.ends v refl refl refl))))

  run_block : {toks : List Tok} {i j : ℕ} {b : Block} {n : Nest} → IsBlock toks i j b → (s : List Hold) → settle s ≡ s → Pending toks s i n → Passes toks i n j s (in_block (level s) b)
  run_block {i = i} {j = j} (g.block {stats = stats} d) s base p = passes (entries_of_block (level s)) (eq.block_of_syntax i j stats) (run_stats d s base p)

  run_stats : {toks : List Tok} {i j : ℕ} {stats : List Stat} {n : Nest} → AreStats toks i j stats → (s : List Hold) → settle s ≡ s → Pending toks s i n → Passes toks i n j s (in_stats (level s) stats)
  run_stats {n = n} g.no_stats s base p = record { end = n; runs = halt; ends = p }
  run_stats (g.last_stat d) s base p = last_passes (run_return d s base p)
  run_stats (g.more_stats d rest) s base p =
      let f = run_stat d s base p in
      let h = run_stats rest s base f.ends in
      record { end = h.end; runs = f.runs ⨾ h.runs; ends = h.ends }

  run_return : {toks : List Tok} {i j : ℕ} {x : Stat} {n : Nest} → IsReturn toks i j x → (s : List Hold) → settle s ≡ s → Pending toks s i n → Passes toks i n j s (entries_of_statement (level s) (syntax_of_stat x))
  run_return {i = i} {j = j} (g.return_nothing t u) s base p =
      let q = run_semicolon u base clear in
      passes (entries_of_statement (level s)) (eq.return_syntax i j []) (record { end = q.end; runs = settled base p t refl refl refl ⨾ q.runs; ends = q.ends })
  run_return {i = i} {j = j} (g.return_values {es = es} t d u) s base p =
      let f = run_exprs d s base in
      let q = run_semicolon u base (pending f.ends) in
      passes (entries_of_statement (level s)) (eq.return_syntax i j es) (record { end = q.end; runs = settled base p t refl refl refl ⨾ (f.runs ⊳ q.runs); ends = q.ends })

  run_stat : {toks : List Tok} {i j : ℕ} {x : Stat} {n : Nest} → IsStat toks i j x → (s : List Hold) → settle s ≡ s → Pending toks s i n → Passes toks i n j s (entries_of_statement (level s) (syntax_of_stat x))
  run_stat {i = i} {j = j} (g.empty_stat t) s base p = passes (entries_of_statement (level s)) (eq.empty_syntax i j) (record { end = nest s fresh; runs = settled base p t refl refl refl; ends = clear })
  run_stat {i = i} {j = j} (g.local_stat {declared = names} t d) s base p =
      let f = run_declared d s base in
      passes (entries_of_statement (level s)) (eq.local_syntax i j names []) (record { end = f.end; runs = settled base p t refl refl refl ⨾ f.runs; ends = f.ends })
  run_stat {i = i} {j = j} (g.local_values_stat {declared = names} {es = es} t d u values) s base p =
      let f = run_declared d s base in
      let h = run_exprs values s base in
      passes (entries_of_statement (level s)) (eq.local_syntax i j names es)
      (record { end = h.end; runs = settled base p t refl refl refl ⨾ (f.runs ⨾ (settled base f.ends u refl refl refl ⨾ h.runs)); ends = pending h.ends })
  run_stat {i = i} {j = j} (g.assign_stat {targets = targets} {es = es} d t values) s base p =
      let h = run_exprs values s base in
      passes (entries_of_statement (level s)) (eq.assign_syntax i j targets es)
      (record { end = h.end; runs = run_targets d s base (pending_starts base p) ⨾ (settled base named t refl refl refl ⨾ h.runs); ends = pending h.ends })
  run_stat {i = i} {j = j} (g.call_stat {e = e} d none) s base p =
      passes (entries_of_statement (level s)) (eq.call_syntax i j e) (record { end = nest s prefix; runs = run_call d s (pending_starts base p); ends = named })
  run_stat {i = i} {j = j} (g.do_stat {body = body} t d u) s base p =
      let b = run_block d (hard ∷ s) refl clear in
      passes (entries_of_statement (level s)) (eq.do_syntax i j body) (done (opened base p t refl refl refl ⨾ (b.runs ⊳ closed b.ends u refl refl refl)))
  run_stat {i = i} {j = j} (g.while_stat {e = e} {body = body} t d u b v) s base p =
      let f = run_expr d s base in
      let h = run_block b (hard ∷ s) refl clear in
      passes (entries_of_statement (level s)) (eq.while_syntax i j e body) (passes (λ q. in_expr (level s) e ++ entered q (level s) (in_block (level s + 1) body)) (block_opener u b)
      (done (settled base p t refl refl refl ⨾ (f.runs ⨾ (opened base (pending f.ends) u refl refl refl ⨾ (h.runs ⊳ closed h.ends v refl refl refl))))))
  run_stat {i = i} {j = j} (g.repeat_stat {body = body} {e = e} t b u d) s base p =
      let h = run_block b (hard ∷ s) refl clear in
      let f = run_expr d s base in
      passes (entries_of_statement (level s)) (eq.repeat_syntax i j body e)
      (record { end = f.end; runs = (opened base p t refl refl refl ⨾ (h.runs ⊳ closed h.ends u refl refl refl)) ⨾ f.runs; ends = pending f.ends })
  run_stat {i = i} {j = j} (g.if_stat {arms = arms} {last = last} t d e u) s base p =
      let f = run_arms d s base in
      let h = run_else e s f.ends in
      passes (entries_of_statement (level s)) (eq.if_syntax i j arms last) (done (settled base p t refl refl refl ⨾ (f.runs ⨾ (h.runs ⊳ closed h.ends u refl refl refl))))
  run_stat {i = i} {j = j} (g.for_stat {j = name} {first = first} {limit = limit} {step = step} {body = body} t n a d c e x u b v) s base p =
      let f = run_expr d s base in
      let h = run_expr e s base in
      let q = run_step x s base h.ends in
      let r = run_block b (hard ∷ s) refl clear in
      passes (entries_of_statement (level s)) (eq.for_syntax i j name first limit step body)
      (passes (λ o. (in_expr (level s) first ++ in_expr (level s) limit) ++ (entries_of_optional_expression (level s) (optional_expression_of (option_map syntax_of_expr step)) ++ entered o (level s) (in_block (level s + 1) body))) (block_opener u b)
      (done (settled base p t refl refl refl ⨾ (token_run (nest s fresh) n ⨾ (settled base named a refl refl refl ⨾ ((f.runs ⨾ (settled base (pending f.ends) c refl refl refl ⨾ h.runs))
      ⨾ (q.runs ⨾ (opened base (pending q.ends) u refl refl refl ⨾ (r.runs ⊳ closed r.ends v refl refl refl)))))))))
  run_stat {i = i} {j = j} (g.for_in_stat {names = names} {es = es} {body = body} t d u values v b w) s base p =
      let f = run_exprs values s base in
      let h = run_block b (hard ∷ s) refl clear in
      passes (entries_of_statement (level s)) (eq.for_in_syntax i j names es body) (passes (λ o. in_exprs (level s) es ++ entered o (level s) (in_block (level s + 1) body)) (block_opener v b)
      (done (settled base p t refl refl refl ⨾ (run_names d s base ⨾ (settled base named u refl refl refl ⨾ (f.runs ⨾ (opened base (pending f.ends) v refl refl refl ⨾ (h.runs ⊳ closed h.ends w refl refl refl))))))))
  run_stat {i = i} {j = j} (g.function_stat {path = path} {method = method} {f = f} t d m b) s base p =
      passes (entries_of_statement (level s)) (eq.function_stat_syntax i j path method f) (done (function_opened base p t ⨾ (run_path d (hard ∷ s) ⨾ (run_method m (hard ∷ s) ⨾ run_body b s))))
  run_stat {i = i} {j = j} (g.local_function_stat {k = k} {f = f} t u n b) s base p =
      passes (entries_of_statement (level s)) (eq.local_function_syntax i j k f) (passes (λ q. entered q (level s) (in_body (level s + 1) f)) (sym t.next)
      (done (settled base p t refl refl refl ⨾ (token_run (nest s fresh) u ⨾ (token_run (nest (hard ∷ s) head) n ⨾ run_body b s)))))
  run_stat {i = i} {j = j} (g.label_stat {j = name} t n u) s base p =
      passes (entries_of_statement (level s)) (eq.label_syntax i j name)
      (record { end = nest s fresh; runs = settled base p t refl refl refl ⨾ (token_run (nest s fresh) n ⨾ settled base named u refl refl refl); ends = clear })
  run_stat {i = i} {j = j} (g.goto_stat {j = name} t n) s base p =
      passes (entries_of_statement (level s)) (eq.goto_syntax i j name) (record { end = nest s prefix; runs = settled base p t refl refl refl ⨾ token_run (nest s fresh) n; ends = named })
  run_stat {i = i} {j = j} (g.break_stat t) s base p = passes (entries_of_statement (level s)) (eq.break_syntax i j) (record { end = nest s fresh; runs = settled base p t refl refl refl; ends = clear })

  run_targets : {toks : List Tok} {i j : ℕ} {es : List Expr} {n : Nest} → AreTargets toks i j es → (s : List Hold) → settle s ≡ s → Starts toks s i n → Runs toks i n j (nest s prefix) (in_exprs (level s) es)
  run_targets (g.one_target d) s base starts = last_run (run_variable d s starts)
  run_targets {toks} (g.more_targets {k = k} d t rest) s base starts = run_variable d s starts ⨾ (settled base named t refl refl refl ⨾ run_targets rest s base (fresh_starts toks s k))

  run_arm : {toks : List Tok} {i j : ℕ} {x : Arm} → IsArm toks i j x → (s : List Hold) → settle s ≡ s → Passes toks i (nest s fresh) j (hard ∷ s) (entries_of_arm (level s) (syntax_of_arm x))
  run_arm (g.arm {e = e} {body = body} d t b) s base =
      let f = run_expr d s base in
      let h = run_block b (hard ∷ s) refl clear in
      passes (entries_of_arm (level s)) (eq.arm_of_syntax e body) (passes (λ q. in_expr (level s) e ++ entered q (level s) (in_block (level s + 1) body)) (block_opener t b)
      (record { end = h.end; runs = f.runs ⨾ (opened base (pending f.ends) t refl refl refl ⨾ h.runs); ends = h.ends }))

  run_arms : {toks : List Tok} {i j : ℕ} {arms : List Arm} → AreArms toks i j arms → (s : List Hold) → settle s ≡ s → Passes toks i (nest s fresh) j (hard ∷ s) (in_arms (level s) arms)
  run_arms (g.one_arm d) s base = last_passes (run_arm d s base)
  run_arms (g.more_arms d t rest) s base =
      let f = run_arm d s base in
      let h = run_arms rest s base in
      record { end = h.end; runs = f.runs ⨾ (closed f.ends t refl refl refl ⨾ h.runs); ends = h.ends }

  run_else : {toks : List Tok} {i j : ℕ} {last : Option Block} {n : Nest} → IsElse toks i j last → (s : List Hold) → Pending toks (hard ∷ s) i n
      → Passes toks i n j (hard ∷ s) (entries_of_optional_block (level s) (optional_block_of (option_map syntax_of_block last)))
  run_else {n = n} g.no_else s p = record { end = n; runs = halt; ends = p }
  run_else (g.an_else {body = body} t b) s p =
      let h = run_block b (hard ∷ s) refl clear in
      passes (λ q. entered q (level s) (in_block (level s + 1) body)) (block_opener t b) (record { end = h.end; runs = turned p t ⨾ h.runs; ends = h.ends })

  run_step : {toks : List Tok} {i j : ℕ} {step : Option Expr} {n : Nest} → IsForStep toks i j step → (s : List Hold) → settle s ≡ s → Ended toks s i n
      → Finishes toks i n j s (entries_of_optional_expression (level s) (optional_expression_of (option_map syntax_of_expr step)))
  run_step {n = n} g.no_for_step s base p = record { end = n; runs = halt; ends = p }
  run_step (g.a_for_step t d) s base p = let f = run_expr d s base in record { end = f.end; runs = settled base (pending p) t refl refl refl ⨾ f.runs; ends = f.ends }

-- the whole of a block, with nothing open before it
pub block_runs : {toks : List Tok} {j : ℕ} {b : Block} → IsBlock toks 0 j b → Passes toks 0 (nest [] fresh) j [] (in_block 0 b)
block_runs d = run_block d [] refl clear
