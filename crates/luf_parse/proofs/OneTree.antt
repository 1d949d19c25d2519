-- A list of tokens has at most one tree. A part is derived up to a place, and what stands there does not go on with
-- it: then from its first place on there is no other such part. By recursion on the derivation of the part; any other
-- one has the form in which it is read (NameForms, ExprForms, StatForms), and so the same parts.
use Rattle.std.proofs.Common.{◌≡◌, ℕ, ◌<◌, inl, inr, Bool, true, false, Option, Some, List, [], ◌∷◌, refl, sym, ap, subst, arith}
use Rattle.std.specs.Prelude.{slice_get}
use Rattle.luf_lex.specs.declared.token.Tok.{Tok}
use Rattle.luf_lex.specs.declared.token.Tok.TheVariants.{Word, Sign}
use Rattle.luf_lex.specs.declared.token.Word.TheVariants as word
use Rattle.luf_lex.specs.declared.token.Sign.TheVariants as sign
use Rattle.luf_tree.specs.declared.tree.Chunk.{Chunk}
use Rattle.luf_tree.specs.declared.tree.Block.{Block}
use Rattle.luf_tree.specs.declared.tree.Stat.{Stat}
use Rattle.luf_tree.specs.declared.tree.StatKind.TheVariants as stat
use Rattle.luf_tree.specs.declared.tree.Arm.{Arm, roll-Arm}
use Rattle.luf_tree.specs.declared.tree.FuncBody.{FuncBody}
use Rattle.luf_tree.specs.declared.tree.Expr.{Expr}
use Rattle.luf_tree.specs.declared.tree.ExprKind.TheVariants as expr
use Rattle.luf_tree.specs.declared.tree.Step.{Step}
use Rattle.luf_tree.specs.declared.tree.Suffix.{Suffix}
use Rattle.luf_tree.specs.declared.tree.Suffix.TheVariants as suffix
use Rattle.luf_tree.specs.declared.tree.Args.{Args}
use Rattle.luf_tree.specs.declared.tree.Field.{Field}
use Rattle.luf_tree.specs.declared.tree.Field.TheVariants as field
use Rattle.luf_tree.specs.First.{starts_expr}
use Rattle.luf_tree.specs.Level.{depth_of}
use Rattle.luf_tree.specs.Grammar as g
use Rattle.luf_tree.specs.Grammar.{At, expression, statement, IsToken, IsExpr, AreSteps, IsOperand, IsSimple, IsVariable, IsCall, IsParen, IsHead, AreSuffixes, IsSuffix, IsArgs, AreExprs, IsTable, AreFields, IsField, IsFuncBody, IsBlock, AreStats, IsReturn, IsStat, AreTargets, IsArm, AreArms, IsElse, IsForStep, IsChunk}
use Rattle.luf_tree.proofs.TokenLaws.{expr_starts}
use Rattle.luf_descent.specs.Exact.{Alone}
use Rattle.luf_descent.specs.Follow.{NotAt, continues_prefix, EndsOperand, EndsExpr, EndsExprs, ends_block, ends_arms, ends_field, EndsBlock, EndsStat, EndsArms, EndsField, precedence_at}
use Rattle.luf_descent.specs.Parts.{ReadSteps, ReadOperand, ReadSimple, ReadTable, ReadFields, ReadField, ReadExprs, ReadPrefix, ReadParen, ReadSuffix, ReadArgs, ReadFuncBody, ReadBlock, ReadStats, ReadReturn, ReadStat, ReadArms, ReadArm, ReadElse, ReadForStep}
use Rattle.luf_descent.specs.Reads.{token_begins_suffix, begins_suffix}
use Rattle.luf_descent.specs.declared.prefixes.Shape.TheVariants.{Variable, Call, Paren}
use Rattle.luf_exact.proofs.WholeBlock.{end_ends_block, chunk_read}
use Rattle.luf_descent.proofs.Begins.{table_begins, suffixes_begin, steps_begin, exprs_start, begins_args, args_begin, field_begins}
use Rattle.luf_descent.proofs.Ends.{moved, variable_to, call_to, simple_to, operand_to, expr_to, args_to, body_to, block_to, return_to, stat_to}
use Rattle.luf_descent.proofs.Exactness.{alone_form, alone_next, alone_is, token_only}
use Rattle.luf_descent.proofs.ExprForms.{unary_form, power_form, function_form, table_expr_form, leaf_only, table_form, fields_form, fields_end, keyed_form, named_form, item_form, exprs_form, head_name, paren_form, SuffixesRead, suffixes_form, dot_form, index_form, method_form, call_form, args_list, args_lone, lone_string, lone_table, steps_form}
use Rattle.luf_descent.proofs.Following.{not_at, token_closes, stat_ends_expr, stat_ends_exprs, arms_end_block, block_ends_stats, field_ends_expr, binary_ends_operand, closed_suffix}
use Rattle.luf_parse.proofs.OneNames.{names_only, path_only, method_only, params_only, declared_only}
use Rattle.luf_parse.proofs.OneExprs.{simple_first, OnlyExpr, operand_leads, chain_leads, leads_only, power_to, prefixed_only, OnlyHead, head_alone, paren_head_only, suffixed_only, paren_ends, string_no_paren, table_no_paren, table_no_string, brace_separates, separator_ends, item_assigned}
use Rattle.luf_parse.proofs.OneStats.{return_begins, semicolon_only, values_begin, else_ends_arms, step_ends_expr, stat_ends_declared, stat_no_assign, assign_ends_declared, declared_no_function, targets_begin, call_begins, moved_stats, moved_step, in_no_comma, do_ends, ended_only, no_else_only, no_step_only, OnlyTargets, one_target_only, more_targets_only}
use Rattle.luf_parse.proofs.Only.{before, alone_enters, rest_more, rest_last}
use Rattle.luf_descent.proofs.Reading.{stats_follow, stat_goes, semicolon_ends_return, semicolon_ends_exprs, stat_ends_prefix}
use Rattle.luf_descent.proofs.StatForms.{begins_word, begins_sign, expr_stat_form, func_body_form, block_form, stats_form, last_form, stats_end, return_form, arms_form, arm_form, else_form, for_step_form, names_assigned, body_begins, method_no_dot}

mutual
  expr_only : {toks : List Tok} {n i j : ℕ} {e : Expr} → IsExpr toks n i j e → EndsExpr toks n j → (left : ℕ) → OnlyExpr toks left i n e
  expr_only (g.operand_expr d) ends left = leads_only (g.operand_expr d) ends (operand_leads (operand_only d ends.operand left))
  expr_only (g.chain_expr some above d steps) ends left =
      let here = steps_begin steps in
      let low = ends.precedence in
      leads_only (g.chain_expr some above d steps) ends
      (chain_leads above d here (expr_only d (record { precedence = omega arith; operand = binary_ends_operand (omega arith) }) left).leads
      (steps_only steps some (record { precedence = omega arith; operand = ends.operand }) left))

  steps_only : {toks : List Tok} {m i j : ℕ} {steps : List Step} → AreSteps toks m i j steps → 0 < m → EndsExpr toks m j → (left : ℕ) → Alone (ReadSteps toks m left i) (steps, j)
  steps_only {toks} {m} (g.one_step t known d) some ends left =
      let low = ends.precedence in
      alone_form (steps_form some t) (alone_next (expr_only d (record { precedence = omega arith; operand = ends.operand }) left).alone
      (rest_last (expr_to d) (λ next sep. let here = subst (λ (p : ℕ). precedence_at toks p ≡ m) (expr_to d) sep.0 in absurd (omega arith))))
  steps_only {toks} {m} (g.more_steps t known d rest) some ends left =
      let here = steps_begin rest in
      alone_form (steps_form some t) (alone_next (expr_only d (record { precedence = omega arith; operand = binary_ends_operand (omega arith) }) left).alone
      (rest_more _ (subst (λ (p : ℕ). precedence_at toks p ≡ m) (sym (expr_to d)) here, sym (expr_to d)) (steps_only rest some ends left)))

  operand_only : {toks : List Tok} {i j : ℕ} {e : Expr} → IsOperand toks i j e → EndsOperand toks j → (left : ℕ) → Alone (ReadOperand toks left i) e
  operand_only {i = i} (g.unary_operand {e = operand} t unary d) ends left =
      alone_form (unary_form t unary) (alone_enters (λ inner. alone_next (operand_only d ends inner) (alone_is (ap (λ p. expression i p (expr.Unary operand)) (operand_to d)))))
  operand_only {toks} {i} (g.power_operand {j = j} {base = base} {exponent = exponent} d t x) ends left =
      let first = simple_first d in
      alone_form (power_form first.token first.other) (alone_next (simple_only d (ap continues_prefix t.there) left)
      (λ y h. alone_enters (λ inner. alone_next (operand_only x ends inner) (alone_is (power_to base exponent (simple_to d) (operand_to x)))) y (h.power _ (moved (simple_to d) t))))
  operand_only {toks} (g.simple_operand d) ends left =
      let first = simple_first d in
      alone_form (power_form first.token first.other) (alone_next (simple_only d ends.suffix left) (λ y h. h.none (subst (λ p. NotAt toks p (Sign sign.Caret)) (sym (simple_to d)) ends.power)))

  simple_only : {toks : List Tok} {i j : ℕ} {e : Expr} → IsSimple toks i j e → continues_prefix (slice_get toks j) ≡ false → (left : ℕ) → Alone (ReadSimple toks left i) e
  simple_only (g.nil_simple t) ends left = leaf_only t refl
  simple_only (g.true_simple t) ends left = leaf_only t refl
  simple_only (g.false_simple t) ends left = leaf_only t refl
  simple_only (g.number_simple t) ends left = leaf_only t refl
  simple_only (g.string_simple (inl t)) ends left = leaf_only t refl
  simple_only (g.string_simple (inr t)) ends left = leaf_only t refl
  simple_only (g.vararg_simple t) ends left = leaf_only t refl
  simple_only {i = i} (g.function_simple {f = f} t d) ends left = alone_form (function_form t) (alone_enters (λ inner. alone_next (body_only d inner) (alone_is (ap (λ p. expression i p (expr.Function f)) (body_to d)))))
  simple_only (g.table_simple d) ends left = alone_form (table_expr_form (table_begins d)) (alone_next (table_only d left) (alone_is refl))
  simple_only {toks} {i} {j} (g.prefix_simple (g.variable_prefix d) closed) ends left = prefixed_only (g.variable_prefix d) (variable_only d (closed_suffix toks j ends closed) left)
  simple_only {toks} {i} {j} (g.prefix_simple (g.call_prefix d) closed) ends left = prefixed_only (g.call_prefix d) (call_only d (closed_suffix toks j ends closed) left)
  simple_only {toks} {i} {j} (g.prefix_simple (g.paren_prefix d) closed) ends left = prefixed_only (g.paren_prefix d) (head_alone (g.paren_head d) (paren_head_only d (paren_only d left)) (closed_suffix toks j ends closed))

  variable_only : {toks : List Tok} {i j : ℕ} {e : Expr} → IsVariable toks i j e → begins_suffix toks j ≡ false → (left : ℕ) → Alone (ReadPrefix toks left i) (record { shape = Variable; expr = e })
  variable_only (g.name_variable t) ends left = head_alone (g.name_head t) (head_name t) ends
  variable_only (g.suffixed_variable d rest) ends left = suffixed_only d (head_only d left) (suffixes_begin rest) (suffixes_only rest ends left)

  call_only : {toks : List Tok} {i j : ℕ} {e : Expr} → IsCall toks i j e → begins_suffix toks j ≡ false → (left : ℕ) → Alone (ReadPrefix toks left i) (record { shape = Call; expr = e })
  call_only (g.suffixed_call d rest) ends left = suffixed_only d (head_only d left) (suffixes_begin rest) (suffixes_only rest ends left)

  head_only : {toks : List Tok} {i j : ℕ} {e : Expr} → IsHead toks i j e → (left : ℕ) → OnlyHead toks left i e
  head_only (g.name_head t) left = record { shape = Variable; alone = head_name t }
  head_only (g.paren_head d) left = record { shape = Paren; alone = paren_head_only d (paren_only d left) }

  paren_only : {toks : List Tok} {i j : ℕ} {e : Expr} → IsParen toks i j e → (left : ℕ) → Alone (ReadParen toks left i) e
  paren_only (g.paren t d u) left =
      alone_form paren_form (alone_next (token_only t) (alone_enters (λ inner. alone_next (expr_only d (token_closes u.there refl refl refl) inner).alone (alone_next (token_only (moved (expr_to d) u)) (alone_is refl)))))

  suffixes_only : {toks : List Tok} {calls : Bool} {i j : ℕ} {suffixes : List Suffix} → AreSuffixes toks calls i j suffixes → begins_suffix toks j ≡ false → (left : ℕ) → Alone (SuffixesRead toks left i) (suffixes, (calls, j))
  suffixes_only (g.one_suffix d) ends left = alone_form suffixes_form (alone_next (suffix_only d left) (rest_last refl (λ next some. let begins = some.0 in absurd cc)))
  suffixes_only (g.more_suffixes d rest) ends left = alone_form suffixes_form (alone_next (suffix_only d left) (rest_more _ (suffixes_begin rest, refl) (suffixes_only rest ends left)))

  suffix_only : {toks : List Tok} {calls : Bool} {i j : ℕ} {s : Suffix} → IsSuffix toks calls i j s → (left : ℕ) → Alone (ReadSuffix toks left i) (s, calls, j)
  suffix_only (g.dot_suffix t n) left = alone_form (dot_form t) (alone_next (token_only n) (alone_is refl))
  suffix_only (g.index_suffix t d u) left =
      alone_form (index_form t) (alone_enters (λ inner. alone_next (expr_only d (token_closes u.there refl refl refl) inner).alone (alone_next (token_only (moved (expr_to d) u)) (alone_is refl))))
  suffix_only {toks} {i = i} (g.call_suffix {args = args} d) left =
      alone_form (call_form (not_at toks i begins_args (args_begin d) refl) (not_at toks i begins_args (args_begin d) refl) (not_at toks i begins_args (args_begin d) refl))
      (alone_next (args_only d left) (alone_is (ap (λ p. (suffix.Call args, true, p)) (args_to d))))
  suffix_only (g.method_suffix {j = name} {args = args} t n d) left = alone_form (method_form t) (alone_next (token_only n) (alone_next (args_only d left) (alone_is (ap (λ p. (suffix.Method name args, true, p)) (args_to d)))))

  args_only : {toks : List Tok} {i j : ℕ} {a : Args} → IsArgs toks i j a → (left : ℕ) → Alone (ReadArgs toks left i) a
  args_only (g.no_args t u) left = alone_form (args_list t) (alone_enters (λ inner a h. h.empty _ u))
  args_only {toks} (g.list_args {j = j} t d u) left =
      alone_form (args_list t) (alone_enters (λ inner a h. alone_next (exprs_only d (paren_ends u.there) inner) (alone_next (token_only u) (alone_is refl)) a (h.list (not_at toks j starts_expr (exprs_start d) refl))))
  args_only (g.string_args d) left = alone_form (args_lone (string_no_paren d)) (alone_next (alone_form (lone_string d) (alone_enters (λ inner. alone_is refl))) (alone_is refl))
  args_only (g.table_args d) left =
      alone_form (args_lone (table_no_paren d)) (alone_next (alone_form (lone_table (table_no_string d)) (λ e h. alone_enters (λ inner. alone_next (table_only d inner) (alone_is refl)) e h.rest)) (alone_is refl))

  exprs_only : {toks : List Tok} {i j : ℕ} {es : List Expr} → AreExprs toks i j es → EndsExprs toks j → (left : ℕ) → Alone (ReadExprs toks left i) (es, j)
  exprs_only (g.one_expr d) ends left = alone_form exprs_form (alone_next (expr_only d ends.expr left).alone (rest_last (expr_to d) (λ next u. ends.comma (moved (sym (expr_to d)) u).there)))
  exprs_only (g.more_exprs d t rest) ends left =
      alone_form exprs_form (alone_next (expr_only d (token_closes t.there refl refl refl) left).alone (rest_more _ (moved (expr_to d) t) (exprs_only rest ends left)))

  table_only : {toks : List Tok} {i j : ℕ} {fields : List Field} → IsTable toks i j fields → (left : ℕ) → Alone (ReadTable toks left i) (fields, j)
  table_only (g.table t d u) left = alone_form table_form (alone_next (token_only t) (alone_enters (λ inner. alone_next (fields_only d u.there inner) (alone_next (token_only u) (alone_is refl)))))

  fields_only : {toks : List Tok} {i j : ℕ} {fields : List Field} → AreFields toks i j fields → At toks j (Sign sign.RightBrace) → (left : ℕ) → Alone (ReadFields toks left i) (fields, j)
  fields_only g.no_fields close left = fields_end close
  fields_only (g.last_field d) close left = alone_form (fields_form (field_begins d)) (alone_next (field_only d (ap ends_field close) left) (rest_last refl (λ next sep. brace_separates close sep)))
  fields_only (g.more_fields d sep rest) close left = alone_form (fields_form (field_begins d)) (alone_next (field_only d (separator_ends sep) left) (rest_more _ sep (fields_only rest close left)))

  field_only : {toks : List Tok} {i j : ℕ} {f : Field} → IsField toks i j f → EndsField toks j → (left : ℕ) → Alone (ReadField toks left i) (f, j)
  field_only (g.keyed_field {key = key} {value = value} t d u v x) ends left =
      alone_form (keyed_form t) (alone_enters (λ inner. alone_next (expr_only d (token_closes u.there refl refl refl) inner).alone (alone_next (token_only (moved (expr_to d) u)) (alone_next (token_only v)
      (alone_next (expr_only x (field_ends_expr ends) left).alone (alone_is (ap (λ p. (field.Keyed key value, p)) (expr_to x))))))))
  field_only {i = i} (g.named_field {value = value} n t x) ends left = alone_form (named_form n t) (alone_next (expr_only x (field_ends_expr ends) left).alone (alone_is (ap (λ p. (field.Named i value, p)) (expr_to x))))
  field_only {toks} {i} (g.item_field {e = e} d) ends left =
      alone_form (item_form (not_at toks i starts_expr (expr_starts d) refl) (item_assigned d ends)) (alone_next (expr_only d (field_ends_expr ends) left).alone (alone_is (ap (λ p. (field.Item e, p)) (expr_to d))))

  body_only : {toks : List Tok} {i j : ℕ} {f : FuncBody} → IsFuncBody toks i j f → (left : ℕ) → Alone (ReadFuncBody toks left i) f
  body_only (g.func_body t params u d v) left =
      alone_form func_body_form (alone_next (token_only t) (alone_next (params_only params u.there) (alone_next (token_only u) (alone_next (block_only d (ap ends_block v.there) left) (alone_next (token_only (moved (block_to d) v)) (alone_is refl))))))

  block_only : {toks : List Tok} {i j : ℕ} {b : Block} → IsBlock toks i j b → EndsBlock toks j → (left : ℕ) → Alone (ReadBlock toks left i) b
  block_only (g.block d) ends left = alone_form block_form (alone_next (stats_only d ends left) (alone_is refl))

  stats_only : {toks : List Tok} {i j : ℕ} {stats : List Stat} → AreStats toks i j stats → EndsBlock toks j → (left : ℕ) → Alone (ReadStats toks left i) (stats, j)
  stats_only {toks} {i} g.no_stats ends left = stats_end (block_ends_stats toks i ends) (not_at toks i ends_block ends refl)
  stats_only (g.last_stat {s = s} d) ends left = alone_form (last_form (return_begins d)) (alone_next (return_only d ends left) (alone_is (ap (λ p. (s ∷ [], p)) (return_to d))))
  stats_only (g.more_stats d rest) ends left =
      alone_form (stats_form (stat_goes d)) (alone_next (stat_only d (stats_follow rest ends) left) (λ r h. before (moved_stats (stat_to d) (stats_only rest ends left)) h))

  return_only : {toks : List Tok} {i j : ℕ} {s : Stat} → IsReturn toks i j s → EndsBlock toks j → (left : ℕ) → Alone (ReadReturn toks left i) s
  return_only (g.return_nothing t d) ends left = alone_form return_form (alone_next (token_only t) (λ s h. alone_next (semicolon_only d ends) (alone_is refl) s (h.empty (semicolon_ends_return d ends))))
  return_only (g.return_values t d u) ends left =
      alone_form return_form (alone_next (token_only t) (λ s h. alone_next (exprs_only d (semicolon_ends_exprs u ends) left) (alone_next (semicolon_only u ends) (alone_is refl)) s (h.values (values_begin d))))

  stat_only : {toks : List Tok} {i j : ℕ} {s : Stat} → IsStat toks i j s → EndsStat toks j → (left : ℕ) → Alone (ReadStat toks left i) s
  stat_only (g.empty_stat t) ends left = alone_form (begins_sign t) (alone_is refl)
  stat_only {toks} {j = k} (g.local_stat t d) ends left =
      alone_form (begins_word t) (λ s h. alone_next (declared_only d (stat_ends_declared ends)) (λ z v. v.none (stat_no_assign toks k ends)) s (h.named (declared_no_function d)))
  stat_only (g.local_values_stat t d u values) ends left =
      alone_form (begins_word t) (λ s h. alone_next (declared_only d (assign_ends_declared u.there)) (λ z v. alone_next (exprs_only values (stat_ends_exprs ends) left) (alone_is refl) z (v.values _ u)) s (h.named (declared_no_function d)))
  stat_only (g.assign_stat d t values) ends left =
      let targets = targets_only d t.there left in
      alone_form (expr_stat_form (targets_begin d)) (alone_next targets.first (alone_next targets.only (alone_next (token_only t) (alone_next (exprs_only values (stat_ends_exprs ends) left) (alone_is refl)))))
  stat_only {toks} {i} {j} (g.call_stat {e = e} d closed) ends left =
      alone_form (expr_stat_form (call_begins d)) (alone_next (call_only d (stat_ends_prefix toks j ends closed) left) (alone_is (ap (λ p. statement i p (stat.Call e)) (call_to d))))
  stat_only (g.do_stat t d u) ends left = alone_form (begins_word t) (alone_next (ended_only (block_only d (ap ends_block u.there)) (block_to d) u) (alone_is refl))
  stat_only (g.while_stat t d u b v) ends left =
      alone_form (begins_word t) (alone_next (expr_only d (token_closes u.there refl refl refl) left).alone (alone_next (token_only (moved (expr_to d) u)) (alone_next (ended_only (block_only b (ap ends_block v.there)) (block_to b) v) (alone_is refl))))
  stat_only {i = i} (g.repeat_stat {body = body} {e = e} t b u d) ends left =
      alone_form (begins_word t) (alone_enters (λ inner. alone_next (block_only b (ap ends_block u.there) inner) (alone_next (token_only (moved (block_to b) u))
      (alone_next (expr_only d (stat_ends_expr ends) left).alone (alone_is (ap (λ p. statement i p (stat.Repeat body e)) (expr_to d)))))))
  stat_only (g.if_stat t d e u) ends left =
      alone_form (begins_word t) (alone_next (arms_only d (else_ends_arms e u.there) left) (alone_next (else_only e u.there left) (alone_next (token_only u) (alone_is refl))))
  stat_only (g.for_stat t name assign a comma b c u d v) ends left =
      alone_form (begins_word t) (λ s h. alone_next (expr_only a (token_closes comma.there refl refl refl) left).alone (alone_next (token_only (moved (expr_to a) comma)) (alone_next (expr_only b (step_ends_expr c u.there) left).alone
      (alone_next (moved_step (expr_to b) (step_only c u.there left)) (alone_next (token_only u) (alone_next (ended_only (block_only d (ap ends_block v.there)) (block_to d) v) (alone_is refl))))))
      s (h.count _ (record { after = _; name = name; sign = assign })))
  stat_only (g.for_in_stat t d u values v b w) ends left =
      alone_form (begins_word t) (λ s h. alone_next (names_only d (in_no_comma u)) (alone_next (token_only u) (alone_next (exprs_only values (do_ends v.there) left) (alone_next (token_only v)
      (alone_next (ended_only (block_only b (ap ends_block w.there)) (block_to b) w) (alone_is refl)))))
      s (h.names (λ from a. names_assigned d u a.name a.sign)))
  stat_only {i = i} (g.function_stat {path = path} {method = method} {f = f} t d m b) ends left =
      alone_form (begins_word t) (alone_enters (λ inner. alone_next (path_only d (method_no_dot m (body_begins b))) (alone_next (method_only m (body_begins b)) (alone_next (body_only b inner)
      (alone_is (ap (λ p. statement i p (stat.Function path method f)) (body_to b)))))))
  stat_only {i = i} (g.local_function_stat {k = k} {f = f} t u n b) ends left =
      alone_form (begins_word t) (λ s h. alone_enters (λ inner. alone_next (token_only n) (alone_next (body_only b inner) (alone_is (ap (λ p. statement i p (stat.LocalFunction k f)) (body_to b))))) s (h.function _ u))
  stat_only (g.label_stat t n u) ends left = alone_form (begins_sign t) (alone_next (token_only n) (alone_next (token_only u) (alone_is refl)))
  stat_only (g.goto_stat t n) ends left = alone_form (begins_word t) (alone_next (token_only n) (alone_is refl))
  stat_only (g.break_stat t) ends left = alone_form (begins_word t) (alone_is refl)

  targets_only : {toks : List Tok} {i j : ℕ} {targets : List Expr} → AreTargets toks i j targets → At toks j (Sign sign.Assign) → (left : ℕ) → OnlyTargets toks left i j targets
  targets_only (g.one_target d) ends left = one_target_only (variable_only d (ap token_begins_suffix ends) left) (variable_to d) (λ comma. absurd cc)
  targets_only (g.more_targets d t rest) ends left = more_targets_only (variable_only d (ap token_begins_suffix t.there) left) (variable_to d) t (targets_only rest ends left)

  arm_only : {toks : List Tok} {i j : ℕ} {a : Arm} → IsArm toks i j a → EndsBlock toks j → (left : ℕ) → Alone (ReadArm toks left i) (a, j)
  arm_only (g.arm {e = e} {body = body} d t b) ends left =
      alone_form arm_form (alone_next (expr_only d (token_closes t.there refl refl refl) left).alone (alone_next (token_only (moved (expr_to d) t)) (alone_enters (λ inner. alone_next (block_only b ends inner)
      (alone_is (ap (λ p. (roll-Arm (record { test = e; body = body }), p)) (block_to b)))))))

  arms_only : {toks : List Tok} {i j : ℕ} {arms : List Arm} → AreArms toks i j arms → EndsArms toks j → (left : ℕ) → Alone (ReadArms toks left i) (arms, j)
  arms_only {toks} {j = j} (g.one_arm d) ends left = alone_form arms_form (alone_next (arm_only d (arms_end_block toks j ends) left) (rest_last refl (λ next u. not_at toks j ends_arms ends refl u.there)))
  arms_only (g.more_arms d t rest) ends left = alone_form arms_form (alone_next (arm_only d (ap ends_block t.there) left) (rest_more _ t (arms_only rest ends left)))

  else_only : {toks : List Tok} {i j : ℕ} {last : Option Block} → IsElse toks i j last → At toks j (Word word.End) → (left : ℕ) → Alone (ReadElse toks left i) (last, j)
  else_only g.no_else ends left = no_else_only (λ here. absurd cc)
  else_only (g.an_else {body = body} t b) ends left = alone_form (else_form t) (alone_enters (λ inner. alone_next (block_only b (ap ends_block ends) inner) (alone_is (ap (λ p. (Some body, p)) (block_to b)))))

  step_only : {toks : List Tok} {i j : ℕ} {step : Option Expr} → IsForStep toks i j step → At toks j (Word word.Do) → (left : ℕ) → Alone (ReadForStep toks left i) (step, j)
  step_only g.no_for_step ends left = no_step_only (λ here. absurd cc)
  step_only (g.a_for_step {e = e} t d) ends left = alone_form (for_step_form t) (alone_next (expr_only d (token_closes ends refl refl refl) left).alone (alone_is (ap (λ p. (Some e, p)) (expr_to d))))

pub one_tree : (toks : List Tok) (chunk other : Chunk) → IsChunk toks chunk → IsChunk toks other → chunk ≡ other
one_tree toks chunk other tree another =
    let same = block_only tree (end_ends_block toks) (depth_of other) other.block (chunk_read other another (omega arith)) in ap (λ (b : Block). record { block = b }) (sym same)
