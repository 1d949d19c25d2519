-- How all that a chunk says lies: each part of it from where it begins to where it ends, by the grammar.
use Rattle.std.proofs.Common.{◌≡◌, ℕ, ◌+◌, ◌-◌, ◌<◌, ◌≤◌, Bool, true, false, not, ◌&&◌, Option, Some, None, List, [], ◌∷◌, ◌++◌, All, map, refl, sym, ap, ◌∙◌, subst, arith, inl, inr, append_assoc}
use Rattle.std.proofs.lemmas.List.Elements.{All-append, All-weaker, All-cons}
use Rattle.std.proofs.lemmas.List.{append-nil}
use Rattle.luf_lex.specs.declared.token.Tok.{Tok}
use Rattle.luf_tree.specs.declared.tree.Declared.{Declared}
use Rattle.luf_tree.specs.declared.tree.Expr.{Expr}
use Rattle.luf_tree.specs.declared.tree.Stat.{Stat}
use Rattle.luf_tree.specs.declared.tree.Block.{Block}
use Rattle.luf_tree.specs.declared.tree.Arm.{Arm}
use Rattle.luf_tree.specs.declared.tree.Args.{Args}
use Rattle.luf_tree.specs.declared.tree.Step.{Step}
use Rattle.luf_tree.specs.declared.tree.Suffix.{Suffix}
use Rattle.luf_tree.specs.declared.tree.Field.{Field}
use Rattle.luf_tree.specs.declared.tree.FuncBody.{FuncBody, roll-FuncBody}
use Rattle.luf_tree.specs.TokenSyntax.{from_to}
use Rattle.luf_tree.specs.SyntaxOf.{declared_of, first_of_path, rest_of_path, expressions_of, operations_of, suffixes_of, fields_of, statements_of, arms_of, optional_expression_of, optional_block_of, syntax_of_expr, syntax_of_field, syntax_of_suffix, syntax_of_step, syntax_of_stat, syntax_of_arm, syntax_of_block, syntax_of_body, syntax_of_args}
use Rattle.luf_tree.specs.Grammar as g
use Rattle.luf_tree.specs.Grammar.{IsToken, IsString, AreNames, AreParams, IsAttribute, AreDeclared, IsPath, IsMethod, IsSemicolon, IsExpr, AreSteps, IsOperand, IsSimple, IsPrefix, IsVariable, IsCall, IsParen, IsHead, AreSuffixes, IsSuffix, IsArgs, AreExprs, IsTable, AreFields, IsField, IsFuncBody, IsBlock, AreStats, IsReturn, IsStat, AreTargets, IsArm, AreArms, IsElse, IsForStep, IsChunk}
use Rattle.luf_tree.proofs.SyntaxEquations as eq
use Rattle.std.specs.Option.{option_map}
use Rattle.luf_scope.specs.Occurrences.{Holder, span_of, body_of, span_of_body, loop_of, declared_locals, loop_variables_of, parameters_of, path_of, method_of, target_of, occurrences_in_expression, occurrences_in_optional_expression, occurrences_in_expressions, occurrences_in_targets, occurrences_in_operation, occurrences_in_operations, occurrences_in_suffix, occurrences_in_suffixes, occurrences_in_field, occurrences_in_fields, occurrences_in_statement, occurrences_in_statements, occurrences_in_arm, occurrences_in_arms, occurrences_in_block, occurrences_in_repeated, occurrences_in_optional_block, occurrences_in_body, occurrences_in_arguments, are_void}
use Rattle.luf_scope.specs.declared.occurrence.Occurrence.{Occurrence}
use Rattle.luf_scope.specs.declared.occurrence.Occurrence.TheVariants as occurrence
use Rattle.luf_scope.specs.declared.occurrence.Occurrence.TheVariants.{Local, LocalFunction, Parameter, ImplicitSelf, LoopVariable, Reads, Assigns, Varargs, Function, Loop, Label, Goto, Break}
use Rattle.luf_scope.specs.Order.{place, behind, declares, from_of, AttributeBehind, IsPlaced, AreOrdered}
use Rattle.luf_scope.proofs.Lying.{nothing_lies, wider, out, joins, one_first, one_alone, Row, no_row, in_row, row_on, row_scope, row_lies, round_first, begin_in, HasScope, IsPlain, plain_placed}

-- what lies in a part that equals it
by : {a e c : ℕ} {os all : List Occurrence} → all ≡ os → AreOrdered a e c os → AreOrdered a e c all
by {a} {e} {c} {os} {all} is lies = subst (λ (x : List Occurrence). AreOrdered a e c x) (sym is) lies

none : {a : ℕ} → AreOrdered a a a []
none {a} = nothing_lies a a a (omega arith) (omega arith)

-- a token, and what lies behind it
skip : {toks : List Tok} {t : Tok} {i j e c : ℕ} {os : List Occurrence} → IsToken toks i t j → AreOrdered j e c os → AreOrdered i e c os
skip {i = i} {j = j} {e = e} {c = c} {os = os} t lies = let next = t.next in wider i j e e c os (omega arith) (omega arith) lies.up_to lies

-- what lies in a part, and more tokens behind it
longer : {i j e : ℕ} {os : List Occurrence} → j ≤ e → AreOrdered i j j os → AreOrdered i e e os
longer {i} {j} {e} {os} up lies = wider i i j e e os (omega arith) up (omega arith) (out i j e os up lies)

end : {toks : List Tok} {t : Tok} {i j e : ℕ} {os : List Occurrence} → AreOrdered i j j os → IsToken toks j t e → AreOrdered i e e os
end lies t = let next = t.next in longer (omega arith) lies

-- only a token
lone : {toks : List Tok} {t : Tok} {i j : ℕ} → IsToken toks i t j → AreOrdered i j j []
lone t = skip t none

infixr 5 ◌⨾◌
◌⨾◌ : {i m e : ℕ} {xs ys : List Occurrence} → AreOrdered i m m xs → AreOrdered m e e ys → AreOrdered i e e (xs ++ ys)
◌⨾◌ {i} {m} {e} {xs} {ys} a b = joins i m e e xs ys (out i m e xs b.on a) b

-- one that declares nothing, at a token
says : {toks : List Tok} {t : Tok} {i j : ℕ} (u : Occurrence) → declares u ≡ false → IsPlain u → place u ≡ i → behind u ≡ i + 1 → IsToken toks i t j → AreOrdered i j j (u ∷ [])
says {i = i} {j = j} u silent plain at last t = let next = t.next in one_alone i j j u silent (plain_placed u plain (omega (arith, at, last))) (omega (arith, at)) (omega (arith, last)) (omega arith)

-- a loop stands in front of its block
loop_placed : (i j : ℕ) → IsPlaced (Loop i j)
loop_placed i j = record { long = omega arith; some = λ is. absurd cc; attribute = tt; block = λ is. absurd cc }

label_placed : (n i j : ℕ) (at_end : Bool) → i ≤ n → n < j → IsPlaced (Label n i j at_end)
label_placed n i j at_end begun ends = record { long = omega arith; some = λ _. omega arith; attribute = tt; block = λ _. record { begun = begun; ends = ends } }

-- a statement from i to j in a block, whose scopes may end behind it
record Fits (h : Holder) (i j : ℕ) : Type 0 where
  low : h.span.from ≤ i
  high : j ≤ h.span.to
  up : h.span.to ≤ h.end

-- a block of which nothing is told
abbrev loose : ℕ → Holder
loose j = record { span = from_to 0 j; end = j; until = false }

fits_loose : (i j : ℕ) → Fits (loose j) i j
fits_loose i j = record { low = omega arith; high = omega arith; up = omega arith }

fit_end : {h : Holder} {i j : ℕ} → Fits h i j → j ≤ h.end
fit_end f = let high = f.high in let up = f.up in omega (arith, high, up)

in_block : {i j c : ℕ} {os : List Occurrence} → j ≤ c → AreOrdered i j j os → AreOrdered i j c os
in_block {i} {j} {c} {os} up lies = out i j c os up lies

string_lone : {toks : List Tok} {i j : ℕ} → IsString toks i j → AreOrdered i j j []
string_lone (inl t) = lone t
string_lone (inr t) = lone t

-- ---- what is declared in a row

record Reaches (f t i k : ℕ) (a : Option ℕ) : Type 0 where
  long : i < behind (Local i a f t)
  within : behind (Local i a f t) ≤ k
  attribute : AttributeBehind (Local i a f t)

local_reaches : {toks : List Tok} {w : Tok} {i j k : ℕ} {a : Option ℕ} (f t : ℕ) → IsToken toks i w j → IsAttribute toks j k a → Reaches f t i k a
local_reaches f t n g.no_attribute = let a = n.next in record { long = omega arith; within = omega arith; attribute = tt }
local_reaches f t n (g.an_attribute u v w) = let a = n.next in let b = u.next in let c = v.next in let d = w.next in record { long = omega arith; within = omega arith; attribute = omega arith }

declared_row : {toks : List Tok} {i j : ℕ} {declared : List Declared} (f t : ℕ) → AreDeclared toks i j declared → Row f t i j (declared_locals f t (map declared_of declared))
declared_row f t (g.one_declared {k = k} n a) = let r = local_reaches f t n a in in_row {m = k} (refl, refl, r.attribute) (omega arith) r.long r.within refl refl (no_row (omega arith))
declared_row f t (g.more_declared {l = l} n a u d) = let r = local_reaches f t n a in let next = u.next in let h = r.within in in_row {m = l} (refl, refl, r.attribute) (omega arith) r.long (omega (arith, h)) refl refl (declared_row f t d)

loop_row : {toks : List Tok} {i j : ℕ} {names : List ℕ} (f t : ℕ) → AreNames toks i j names → Row f t i j (loop_variables_of (from_to f t) names)
loop_row f t (g.one_name {j = j} n) = let next = n.next in in_row {m = j} (refl, refl, tt) (omega arith) (omega arith) (omega arith) refl refl (no_row (omega arith))
loop_row f t (g.more_names {k = k} n u d) = let next = n.next in let more = u.next in in_row {m = k} (refl, refl, tt) (omega arith) (omega arith) (omega arith) refl refl (loop_row f t d)

parameter_row : {toks : List Tok} {i j e : ℕ} {names : List ℕ} (f t : ℕ) → AreNames toks i j names → j ≤ e → Row f t i e (parameters_of (from_to f t) names)
parameter_row f t (g.one_name {j = j} n) up = let next = n.next in in_row {m = j} (refl, refl, tt) (omega arith) (omega arith) (omega arith) refl refl (no_row up)
parameter_row f t (g.more_names {k = k} n u d) up = let next = n.next in let more = u.next in in_row {m = k} (refl, refl, tt) (omega arith) (omega arith) (omega arith) refl refl (parameter_row f t d up)

parameters_row : {toks : List Tok} {i j : ℕ} {names : List ℕ} {vararg : Bool} (f t : ℕ) → AreParams toks i j names vararg → Row f t i j (parameters_of (from_to f t) names)
parameters_row f t g.no_params = no_row (omega arith)
parameters_row f t (g.dots_alone u) = let next = u.next in no_row (omega arith)
parameters_row f t (g.names_alone d) = parameter_row f t d (omega arith)
parameters_row f t (g.names_and_dots d u v) = let a = u.next in let b = v.next in parameter_row f t d (omega arith)

-- ---- the path of a function's name

fields_lie : {toks : List Tok} {i j : ℕ} {path : List ℕ} → IsPath toks i j path → AreOrdered i j j (map occurrence.Field path)
fields_lie (g.path_end {i = i} t) = says (occurrence.Field i) refl (refl, refl, tt) refl refl t
fields_lie (g.path_more {i = i} t u d) = says (occurrence.Field i) refl (refl, refl, tt) refl refl t ⨾ skip u (fields_lie d)

path_lies : {toks : List Tok} {i j : ℕ} {path : List ℕ} (method : Option ℕ) → IsPath toks i j path → AreOrdered i j j (path_of (first_of_path path) (rest_of_path path) method)
path_lies None (g.path_end {i = i} t) = says (Assigns i) refl (refl, refl, tt) refl refl t
path_lies (Some name) (g.path_end {i = i} t) = says (Reads i) refl (refl, refl, tt) refl refl t
path_lies None (g.path_more {i = i} t u (g.path_end {i = k} v)) = says (Reads i) refl (refl, refl, tt) refl refl t ⨾ skip u (says (occurrence.Field k) refl (refl, refl, tt) refl refl v)
path_lies None (g.path_more {i = i} t u (g.path_more {i = k} v w d)) = says (Reads i) refl (refl, refl, tt) refl refl t ⨾ skip u (fields_lie (g.path_more {i = k} v w d))
path_lies (Some name) (g.path_more {i = i} t u (g.path_end {i = k} v)) = says (Reads i) refl (refl, refl, tt) refl refl t ⨾ skip u (says (occurrence.Field k) refl (refl, refl, tt) refl refl v)
path_lies (Some name) (g.path_more {i = i} t u (g.path_more {i = k} v w d)) = says (Reads i) refl (refl, refl, tt) refl refl t ⨾ skip u (fields_lie (g.path_more {i = k} v w d))

pub semicolon_on : {toks : List Tok} {i j : ℕ} → IsSemicolon toks i j → i ≤ j
semicolon_on g.no_semicolon = omega arith
semicolon_on (g.a_semicolon t) = let next = t.next in omega arith

abbrev pub body_at : ℕ → ℕ → List ℕ → Bool → Block → FuncBody
body_at i p params vararg body = roll-FuncBody (record { from = i; to = p; params = params; vararg = vararg; body = body })

block_span : {toks : List Tok} {i j : ℕ} {b : Block} → IsBlock toks i j b → span_of (syntax_of_block b) ≡ from_to i j
block_span (g.block {i = i} {j = j} {stats = stats} d) = ap span_of (eq.block_of_syntax i j stats)

whole_body_span : {toks : List Tok} {i j : ℕ} {f : FuncBody} → IsFuncBody toks i j f → (span_of_body (syntax_of_body f)).from ≡ i
whole_body_span (g.func_body {i = i} {p = p} {params = params} {vararg = vararg} {body = body} t d u b v) = ap (λ x. (span_of_body x).from) (eq.body_of_syntax i p params vararg body)

-- a body: its block, all it says up to the end of the block, and that no scope in it begins before the block
record BodyLies (i j : ℕ) (f : FuncBody) : Type 0 where
  first : ℕ
  last : ℕ
  span : span_of (body_of (syntax_of_body f)) ≡ from_to first last
  on : i ≤ first
  up : first ≤ last
  within : last ≤ j
  inner : AreOrdered i last last (occurrences_in_body (syntax_of_body f))
  begins : All (λ w. declares w ≡ true → first ≤ from_of w) (occurrences_in_body (syntax_of_body f))

body_round : {toks : List Tok} {i j k l o p : ℕ} {params : List ℕ} {vararg : Bool} {body : Block} {w x y : Tok} → IsToken toks i w j → AreParams toks j k params vararg → IsToken toks k x l → IsBlock toks l o body → IsToken toks o y p → AreOrdered l o o (occurrences_in_block (syntax_of_block body)) → BodyLies i p (body_at i p params vararg body)
body_round {i = i} {j = j} {k = k} {l = l} {o = o} {p = p} {params = params} {vararg = vararg} {body = body} t d u b v block =
    let next = t.next in
    let more = u.next in
    let ends = v.next in
    let forward = row_on (parameters_row l o d) in
    let above = block.on in
    let said : List Occurrence = occurrences_in_block (syntax_of_block body) in
    let names : List Occurrence = parameters_of (from_to l o) params in
    let row : AreOrdered j l o names = by (sym (append-nil names)) (row_lies (parameters_row l o d) (lone u) (omega arith) block.on) in
    let whole : AreOrdered i o o (Function i p vararg ∷ (names ++ said)) = one_first i j o o (Function i p vararg) (names ++ said) refl (plain_placed (Function i p vararg) (refl, refl, tt) (omega arith)) (omega arith) (omega arith) (joins j l o o names said row block) in
    let begin_all : All (λ w. declares w ≡ true → l ≤ from_of w) (Function i p vararg ∷ (names ++ said)) =
    All-cons (λ w. declares w ≡ true → l ≤ from_of w) (Function i p vararg) (names ++ said) (λ h. absurd cc)
    (All-append (λ w. declares w ≡ true → l ≤ from_of w) names said
    (All-weaker (HasScope l o) (λ w. declares w ≡ true → l ≤ from_of w) (λ w is _. let from = is.0 in omega (arith, from)) names (row_scope (parameters_row l o d)))
    (begin_in l o o said block)) in
    let same : occurrences_in_body (syntax_of_body (body_at i p params vararg body)) ≡ Function i p vararg ∷ (names ++ said) =
    ap occurrences_in_body (eq.body_of_syntax i p params vararg body) ∙ ap (λ s. Function i p vararg ∷ (parameters_of s params ++ said)) (block_span b) in
    record {
      first = l;
      last = o;
      span = ap (λ x. span_of (body_of x)) (eq.body_of_syntax i p params vararg body) ∙ block_span b;
      on = omega arith;
      up = above;
      within = omega arith;
      inner = by same whole;
      begins = subst (λ (os : List Occurrence). All (λ w. declares w ≡ true → l ≤ from_of w) os) (sym same) begin_all;
    }

body_whole : {i j : ℕ} {f : FuncBody} → BodyLies i j f → AreOrdered i j j (occurrences_in_body (syntax_of_body f))
body_whole b = longer b.within b.inner

-- the parameter `self` and the name of a method, and the body
method_round : {toks : List Tok} {k l o : ℕ} {method : Option ℕ} {f : FuncBody} → IsMethod toks k l method → BodyLies l o f → AreOrdered k o o (method_of (span_of (body_of (syntax_of_body f))) method ++ occurrences_in_body (syntax_of_body f))
method_round g.no_method b = body_whole b
method_round {f = f} (g.a_method {i = k} {j = n} {k = l} t u) b =
    let colon = t.next in
    let name = u.next in
    let on = b.on in
    let said : List Occurrence = occurrences_in_body (syntax_of_body f) in
    by (ap (λ s. method_of s (Some n) ++ said) b.span)
    (longer b.within (round_first k n b.last b.first b.last b.last (ImplicitSelf (n - 1) b.first b.last) (occurrence.Field n ∷ said) (refl, refl, tt) (omega arith) (omega arith) (omega arith) (omega arith) (refl, refl) b.up (omega arith) (omega arith) (inl refl)
    (All-cons (λ w. declares w ≡ true → b.first ≤ from_of w) (occurrence.Field n) said (λ h. absurd cc) b.begins)
    (says (occurrence.Field n) refl (refl, refl, tt) refl refl u ⨾ b.inner)))

loop_round : {toks : List Tok} {i j : ℕ} {b : Block} → IsBlock toks i j b → AreOrdered i j j (occurrences_in_block (syntax_of_block b)) → AreOrdered i j j (loop_of (span_of (syntax_of_block b)) ∷ occurrences_in_block (syntax_of_block b))
loop_round {i = i} {j = j} {b = b} d block = by (ap (λ s. loop_of s ∷ occurrences_in_block (syntax_of_block b)) (block_span d)) (one_first i i j j (Loop i j) (occurrences_in_block (syntax_of_block b)) refl (loop_placed i j) (omega arith) (omega arith) block)

swap3 : (us a b c : List Occurrence) → ((us ++ a) ++ b) ++ c ≡ us ++ ((a ++ b) ++ c)
swap3 us a b c = ap (λ x. x ++ c) (append_assoc us a b) ∙ append_assoc us (a ++ b) c

mutual
  expr_lies : {toks : List Tok} {n i j : ℕ} {e : Expr} → IsExpr toks n i j e → AreOrdered i j j (occurrences_in_expression (syntax_of_expr e))
  expr_lies (g.operand_expr d) = operand_lies d
  expr_lies (g.chain_expr _ _ d steps) = by (ap occurrences_in_expression (eq.chain_syntax _ _ _ _)) (expr_lies d ⨾ steps_lie steps)

  steps_lie : {toks : List Tok} {m i j : ℕ} {steps : List Step} → AreSteps toks m i j steps → AreOrdered i j j (occurrences_in_operations (operations_of (map syntax_of_step steps)))
  steps_lie (g.one_step op _ d) = by (ap (λ o. occurrences_in_operation o ++ []) (eq.step_of_syntax _ _)) (skip op (expr_lies d) ⨾ none)
  steps_lie (g.more_steps {rest = rest} op _ d more) = by (ap (λ o. occurrences_in_operation o ++ occurrences_in_operations (operations_of (map syntax_of_step rest))) (eq.step_of_syntax _ _)) (skip op (expr_lies d) ⨾ steps_lie more)

  operand_lies : {toks : List Tok} {i j : ℕ} {e : Expr} → IsOperand toks i j e → AreOrdered i j j (occurrences_in_expression (syntax_of_expr e))
  operand_lies (g.unary_operand op _ d) = by (ap occurrences_in_expression (eq.unary_syntax _ _ _)) (skip op (operand_lies d))
  operand_lies (g.power_operand base t d) = by (ap occurrences_in_expression (eq.power_syntax _ _ _ _ _)) (simple_lies base ⨾ skip t (operand_lies d))
  operand_lies (g.simple_operand d) = simple_lies d

  simple_lies : {toks : List Tok} {i j : ℕ} {e : Expr} → IsSimple toks i j e → AreOrdered i j j (occurrences_in_expression (syntax_of_expr e))
  simple_lies (g.nil_simple t) = by (ap occurrences_in_expression (eq.nil_syntax _ _)) (lone t)
  simple_lies (g.true_simple t) = by (ap occurrences_in_expression (eq.true_syntax _ _)) (lone t)
  simple_lies (g.false_simple t) = by (ap occurrences_in_expression (eq.false_syntax _ _)) (lone t)
  simple_lies (g.number_simple t) = by (ap occurrences_in_expression (eq.number_syntax _ _)) (lone t)
  simple_lies (g.string_simple d) = by (ap occurrences_in_expression (eq.string_syntax _ _)) (string_lone d)
  simple_lies (g.vararg_simple {i = i} t) = by (ap occurrences_in_expression (eq.vararg_syntax _ _)) (says (Varargs i) refl (refl, refl, tt) refl refl t)
  simple_lies (g.function_simple t d) = by (ap occurrences_in_expression (eq.function_syntax _ _ _)) (skip t (body_whole (body_lies d)))
  simple_lies (g.table_simple d) = by (ap occurrences_in_expression (eq.table_syntax _ _ _)) (table_lies d)
  simple_lies (g.prefix_simple d _) = prefix_lies d

  prefix_lies : {toks : List Tok} {i j : ℕ} {e : Expr} → IsPrefix toks i j e → AreOrdered i j j (occurrences_in_expression (syntax_of_expr e))
  prefix_lies (g.variable_prefix d) = variable_lies d
  prefix_lies (g.call_prefix d) = call_lies d
  prefix_lies (g.paren_prefix d) = paren_lies d

  variable_lies : {toks : List Tok} {i j : ℕ} {e : Expr} → IsVariable toks i j e → AreOrdered i j j (occurrences_in_expression (syntax_of_expr e))
  variable_lies (g.name_variable {i = i} t) = by (ap occurrences_in_expression (eq.name_syntax _ _)) (says (Reads i) refl (refl, refl, tt) refl refl t)
  variable_lies (g.suffixed_variable d suffixes) = by (ap occurrences_in_expression (eq.suffixed_syntax _ _ _ _)) (head_lies d ⨾ suffixes_lie suffixes)

  call_lies : {toks : List Tok} {i j : ℕ} {e : Expr} → IsCall toks i j e → AreOrdered i j j (occurrences_in_expression (syntax_of_expr e))
  call_lies (g.suffixed_call d suffixes) = by (ap occurrences_in_expression (eq.suffixed_syntax _ _ _ _)) (head_lies d ⨾ suffixes_lie suffixes)

  paren_lies : {toks : List Tok} {i j : ℕ} {e : Expr} → IsParen toks i j e → AreOrdered i j j (occurrences_in_expression (syntax_of_expr e))
  paren_lies (g.paren t d u) = by (ap occurrences_in_expression (eq.paren_syntax _ _ _)) (skip t (end (expr_lies d) u))

  head_lies : {toks : List Tok} {i j : ℕ} {e : Expr} → IsHead toks i j e → AreOrdered i j j (occurrences_in_expression (syntax_of_expr e))
  head_lies (g.name_head {i = i} t) = by (ap occurrences_in_expression (eq.name_syntax _ _)) (says (Reads i) refl (refl, refl, tt) refl refl t)
  head_lies (g.paren_head d) = paren_lies d

  suffixes_lie : {toks : List Tok} {calls : Bool} {i j : ℕ} {suffixes : List Suffix} → AreSuffixes toks calls i j suffixes → AreOrdered i j j (occurrences_in_suffixes (suffixes_of (map syntax_of_suffix suffixes)))
  suffixes_lie (g.one_suffix d) = suffix_lies d ⨾ none
  suffixes_lie (g.more_suffixes d rest) = suffix_lies d ⨾ suffixes_lie rest

  suffix_lies : {toks : List Tok} {calls : Bool} {i j : ℕ} {s : Suffix} → IsSuffix toks calls i j s → AreOrdered i j j (occurrences_in_suffix (syntax_of_suffix s))
  suffix_lies (g.dot_suffix {j = j} t u) = by (ap occurrences_in_suffix (eq.dot_syntax _)) (skip t (says (occurrence.Field j) refl (refl, refl, tt) refl refl u))
  suffix_lies (g.index_suffix t d u) = by (ap occurrences_in_suffix (eq.index_syntax _)) (skip t (end (expr_lies d) u))
  suffix_lies (g.call_suffix d) = by (ap occurrences_in_suffix (eq.call_suffix_syntax _)) (args_lie d)
  suffix_lies (g.method_suffix {j = j} t u d) = by (ap occurrences_in_suffix (eq.method_syntax _ _)) (skip t (says (occurrence.Field j) refl (refl, refl, tt) refl refl u ⨾ args_lie d))

  args_lie : {toks : List Tok} {i j : ℕ} {args : Args} → IsArgs toks i j args → AreOrdered i j j (occurrences_in_arguments (syntax_of_args args))
  args_lie (g.no_args t u) = by (ap occurrences_in_arguments (eq.args_of_syntax _ _ _ _)) (skip t (lone u))
  args_lie (g.list_args t d u) = by (ap occurrences_in_arguments (eq.args_of_syntax _ _ _ _)) (skip t (end (exprs_lie d) u))
  args_lie (g.string_args d) = by (ap occurrences_in_arguments (eq.args_of_syntax _ _ _ _) ∙ ap (λ x. occurrences_in_expression x ++ []) (eq.string_syntax _ _)) (string_lone d)
  args_lie (g.table_args d) = by (ap occurrences_in_arguments (eq.args_of_syntax _ _ _ _) ∙ ap (λ x. occurrences_in_expression x ++ []) (eq.table_syntax _ _ _)) (table_lies d ⨾ none)

  exprs_lie : {toks : List Tok} {i j : ℕ} {es : List Expr} → AreExprs toks i j es → AreOrdered i j j (occurrences_in_expressions (expressions_of (map syntax_of_expr es)))
  exprs_lie (g.one_expr d) = expr_lies d ⨾ none
  exprs_lie (g.more_exprs d t rest) = expr_lies d ⨾ skip t (exprs_lie rest)

  table_lies : {toks : List Tok} {i j : ℕ} {fields : List Field} → IsTable toks i j fields → AreOrdered i j j (occurrences_in_fields (fields_of (map syntax_of_field fields)))
  table_lies (g.table t d u) = skip t (end (table_fields_lie d) u)

  table_fields_lie : {toks : List Tok} {i j : ℕ} {fields : List Field} → AreFields toks i j fields → AreOrdered i j j (occurrences_in_fields (fields_of (map syntax_of_field fields)))
  table_fields_lie g.no_fields = none
  table_fields_lie (g.last_field d) = field_lies d ⨾ none
  table_fields_lie (g.more_fields d (inl t) rest) = field_lies d ⨾ skip t (table_fields_lie rest)
  table_fields_lie (g.more_fields d (inr t) rest) = field_lies d ⨾ skip t (table_fields_lie rest)

  field_lies : {toks : List Tok} {i j : ℕ} {f : Field} → IsField toks i j f → AreOrdered i j j (occurrences_in_field (syntax_of_field f))
  field_lies (g.keyed_field t key u v value) = by (ap occurrences_in_field (eq.keyed_syntax _ _)) (skip t (expr_lies key) ⨾ skip u (skip v (expr_lies value)))
  field_lies (g.named_field {i = i} t u value) = by (ap occurrences_in_field (eq.named_syntax _ _)) (says (occurrence.Field i) refl (refl, refl, tt) refl refl t ⨾ skip u (expr_lies value))
  field_lies (g.item_field d) = by (ap occurrences_in_field (eq.item_syntax _)) (expr_lies d)

  body_lies : {toks : List Tok} {i j : ℕ} {f : FuncBody} → IsFuncBody toks i j f → BodyLies i j f
  body_lies (g.func_body t d u b v) = body_round t d u b v (block_lies b)

  pub block_lies : {toks : List Tok} {i j : ℕ} {b : Block} → IsBlock toks i j b → AreOrdered i j j (occurrences_in_block (syntax_of_block b))
  block_lies (g.block {i = i} {j = j} {stats = stats} d) = by (ap occurrences_in_block (eq.block_of_syntax i j stats)) (stats_lie (record { span = from_to i j; end = j; until = false }) d (record { low = omega arith; high = omega arith; up = omega arith }))

  repeated_lies : {toks : List Tok} {i j : ℕ} {b : Block} (e : ℕ) → IsBlock toks i j b → j ≤ e → AreOrdered i j e (loop_of (span_of (syntax_of_block b)) ∷ occurrences_in_repeated e (syntax_of_block b))
  repeated_lies e (g.block {i = i} {j = j} {stats = stats} d) up =
      by (ap (λ b. loop_of (span_of b) ∷ occurrences_in_repeated e b) (eq.block_of_syntax i j stats))
      (one_first i i j e (Loop i j) (occurrences_in_statements (record { span = from_to i j; end = e; until = true }) (statements_of (map syntax_of_stat stats))) refl (loop_placed i j) (omega arith) (omega arith) (stats_lie (record { span = from_to i j; end = e; until = true }) d (record { low = omega arith; high = omega arith; up = up })))

  stats_lie : {toks : List Tok} {i j : ℕ} {stats : List Stat} (h : Holder) → AreStats toks i j stats → Fits h i j → AreOrdered i j h.end (occurrences_in_statements h (statements_of (map syntax_of_stat stats)))
  stats_lie {i = i} h g.no_stats fits = nothing_lies i i h.end (omega arith) (fit_end fits)
  stats_lie {i = i} {j = j} h (g.last_stat {s = s} d) fits =
      joins i j j h.end (occurrences_in_statement h true (syntax_of_stat s)) [] (return_lies h true d fits) (nothing_lies j j h.end (omega arith) (fit_end fits))
  stats_lie {i = i} {j = e} h (g.more_stats {j = m} {s = s} {stats = rest} d more) fits =
      let on = (stat_lies (loose m) true d (fits_loose i m)).on in
      let low = fits.low in
      let second = stats_lie h more (record { low = omega (arith, low, on); high = fits.high; up = fits.up }) in
      let above = second.on in
      let high = fits.high in
      joins i m e h.end (occurrences_in_statement h (are_void (statements_of (map syntax_of_stat rest))) (syntax_of_stat s)) (occurrences_in_statements h (statements_of (map syntax_of_stat rest)))
      (stat_lies h (are_void (statements_of (map syntax_of_stat rest))) d (record { low = low; high = omega (arith, above, high); up = fits.up })) second

  return_lies : {toks : List Tok} {i j : ℕ} {s : Stat} (h : Holder) (ended : Bool) → IsReturn toks i j s → Fits h i j → AreOrdered i j h.end (occurrences_in_statement h ended (syntax_of_stat s))
  return_lies h ended (g.return_nothing t s) fits = by (ap (occurrences_in_statement h ended) (eq.return_syntax _ _ _)) (in_block (fit_end fits) (longer (semicolon_on s) (lone t)))
  return_lies h ended (g.return_values t es s) fits = by (ap (occurrences_in_statement h ended) (eq.return_syntax _ _ _)) (in_block (fit_end fits) (longer (semicolon_on s) (skip t (exprs_lie es))))

  stat_lies : {toks : List Tok} {i j : ℕ} {s : Stat} (h : Holder) (ended : Bool) → IsStat toks i j s → Fits h i j → AreOrdered i j h.end (occurrences_in_statement h ended (syntax_of_stat s))
  stat_lies h ended (g.empty_stat t) fits = by (ap (occurrences_in_statement h ended) (eq.empty_syntax _ _)) (in_block (fit_end fits) (lone t))
  stat_lies h ended (g.local_stat {k = k} t d) fits = by (ap (occurrences_in_statement h ended) (eq.local_syntax _ _ _ _)) (skip t (row_lies (declared_row k h.end d) none (omega arith) (fit_end fits)))
  stat_lies h ended (g.local_values_stat {o = o} t d u es) fits = by (ap (occurrences_in_statement h ended) (eq.local_syntax _ _ _ _)) (skip t (row_lies (declared_row o h.end d) (skip u (exprs_lie es)) (omega arith) (fit_end fits)))
  stat_lies h ended (g.assign_stat d t es) fits = by (ap (occurrences_in_statement h ended) (eq.assign_syntax _ _ _ _)) (in_block (fit_end fits) (targets_lie d ⨾ skip t (exprs_lie es)))
  stat_lies h ended (g.call_stat d _) fits = by (ap (occurrences_in_statement h ended) (eq.call_syntax _ _ _)) (in_block (fit_end fits) (call_lies d))
  stat_lies h ended (g.do_stat t d u) fits = by (ap (occurrences_in_statement h ended) (eq.do_syntax _ _ _)) (in_block (fit_end fits) (skip t (end (block_lies d) u)))
  stat_lies h ended (g.while_stat t d u b v) fits = by (ap (occurrences_in_statement h ended) (eq.while_syntax _ _ _ _)) (in_block (fit_end fits) (skip t (expr_lies d ⨾ skip u (end (loop_round b (block_lies b)) v))))
  stat_lies h ended (g.repeat_stat {j = j} {k = k} {o = o} {body = body} {e = e} t b u d) fits =
      let test = skip u (expr_lies d) in
      by (ap (occurrences_in_statement h ended) (eq.repeat_syntax _ _ _ _))
      (in_block (fit_end fits) (skip t (joins j k o o (loop_of (span_of (syntax_of_block body)) ∷ occurrences_in_repeated o (syntax_of_block body)) (occurrences_in_expression (syntax_of_expr e)) (repeated_lies o b test.on) test)))
  stat_lies h ended (g.if_stat t arms last u) fits = by (ap (occurrences_in_statement h ended) (eq.if_syntax _ _ _ _)) (in_block (fit_end fits) (skip t (end (arms_lie arms ⨾ else_lies last) u)))
  stat_lies h ended (g.for_stat {j = j} {q = q} {r = r} {first = first} {limit = limit} {step = step} {body = body} t n a x c y z d b e) fits =
      let loop = loop_round b (block_lies b) in
      let next = n.next in
      let A = occurrences_in_expression (syntax_of_expr first) in
      let B = occurrences_in_expression (syntax_of_expr limit) in
      let C = occurrences_in_optional_expression (optional_expression_of (option_map syntax_of_expr step)) in
      let D = loop_of (span_of (syntax_of_block body)) ∷ occurrences_in_block (syntax_of_block body) in
      by (ap (occurrences_in_statement h ended) (eq.for_syntax _ _ _ _ _ _ _)
      ∙ ap (λ s. (((loop_variables_of s (j ∷ []) ++ A) ++ B) ++ C) ++ D) (block_span b)
      ∙ ap (λ os. os ++ D) (swap3 (loop_variables_of (from_to q r) (j ∷ [])) A B C))
      (in_block (fit_end fits) (skip t (end
      (joins j q r r (loop_variables_of (from_to q r) (j ∷ []) ++ ((A ++ B) ++ C)) D
      (row_lies (loop_row q r (g.one_name n)) (end ((skip a (expr_lies x) ⨾ skip c (expr_lies y)) ⨾ step_lies z) d) (omega arith) loop.on) loop) e)))
  stat_lies h ended (g.for_in_stat {j = j} {p = p} {q = q} {names = names} {es = es} {body = body} t n a x d b e) fits =
      let loop = loop_round b (block_lies b) in
      let A = occurrences_in_expressions (expressions_of (map syntax_of_expr es)) in
      let D = loop_of (span_of (syntax_of_block body)) ∷ occurrences_in_block (syntax_of_block body) in
      by (ap (occurrences_in_statement h ended) (eq.for_in_syntax _ _ _ _ _)
      ∙ ap (λ s. (loop_variables_of s names ++ A) ++ D) (block_span b))
      (in_block (fit_end fits) (skip t (end
      (joins j p q q (loop_variables_of (from_to p q) names ++ A) D
      (row_lies (loop_row p q n) (end (skip a (exprs_lie x)) d) (omega arith) loop.on) loop) e)))
  stat_lies h ended (g.function_stat {path = path} {method = method} {f = f} t p m d) fits =
      by (ap (occurrences_in_statement h ended) (eq.function_stat_syntax _ _ _ _ _)
      ∙ append_assoc (path_of (first_of_path path) (rest_of_path path) method) (method_of (span_of (body_of (syntax_of_body f))) method) (occurrences_in_body (syntax_of_body f)))
      (in_block (fit_end fits) (skip t (path_lies method p ⨾ method_round m (body_lies d))))
  stat_lies h ended (g.local_function_stat {k = k} {l = l} {o = o} {f = f} t u n d) fits =
      let body = body_whole (body_lies d) in
      let next = n.next in
      by (ap (occurrences_in_statement h ended) (eq.local_function_syntax _ _ _ _) ∙ ap (λ from. LocalFunction k from h.end ∷ occurrences_in_body (syntax_of_body f)) (whole_body_span d))
      (skip t (skip u (round_first k l o l h.end h.end (LocalFunction k l h.end) (occurrences_in_body (syntax_of_body f)) (refl, refl, tt) (omega arith) (omega arith) (omega arith) (omega arith) (refl, refl) body.on (fit_end fits) (omega arith) (inl refl) (begin_in l o o (occurrences_in_body (syntax_of_body f)) body) body)))
  stat_lies h ended (g.label_stat {i = i} {j = j} {l = l} t n u) fits =
      let a = t.next in let b = n.next in let c = u.next in let low = fits.low in let high = fits.high in
      by (ap (occurrences_in_statement h ended) (eq.label_syntax _ _ _))
      (in_block (fit_end fits) (one_alone i l l (Label j h.span.from h.span.to (not h.until && ended)) refl (label_placed j h.span.from h.span.to (not h.until && ended) (omega (arith, low)) (omega (arith, high))) (omega arith) (omega arith) (omega arith)))
  stat_lies h ended (g.goto_stat {i = i} {j = j} {k = k} t n) fits =
      let a = t.next in let b = n.next in
      by (ap (occurrences_in_statement h ended) (eq.goto_syntax _ _ _)) (in_block (fit_end fits) (one_alone i k k (Goto i j) refl (plain_placed (Goto i j) (refl, refl, tt) (omega arith)) (omega arith) (omega arith) (omega arith)))
  stat_lies h ended (g.break_stat {i = i} t) fits = by (ap (occurrences_in_statement h ended) (eq.break_syntax _ _)) (in_block (fit_end fits) (says (Break i) refl (refl, refl, tt) refl refl t))

  targets_lie : {toks : List Tok} {i j : ℕ} {es : List Expr} → AreTargets toks i j es → AreOrdered i j j (occurrences_in_targets (expressions_of (map syntax_of_expr es)))
  targets_lie (g.one_target d) = target_lies d ⨾ none
  targets_lie (g.more_targets d t rest) = target_lies d ⨾ skip t (targets_lie rest)

  target_lies : {toks : List Tok} {i j : ℕ} {e : Expr} → IsVariable toks i j e → AreOrdered i j j (target_of (syntax_of_expr e) (occurrences_in_expression (syntax_of_expr e)))
  target_lies (g.name_variable {i = i} t) = by (ap (λ x. target_of x (occurrences_in_expression x)) (eq.name_syntax _ _)) (says (Assigns i) refl (refl, refl, tt) refl refl t)
  target_lies (g.suffixed_variable d suffixes) = by (ap (λ x. target_of x (occurrences_in_expression x)) (eq.suffixed_syntax _ _ _ _)) (head_lies d ⨾ suffixes_lie suffixes)

  arms_lie : {toks : List Tok} {i j : ℕ} {arms : List Arm} → AreArms toks i j arms → AreOrdered i j j (occurrences_in_arms (arms_of (map syntax_of_arm arms)))
  arms_lie (g.one_arm d) = arm_lies d ⨾ none
  arms_lie (g.more_arms d t rest) = arm_lies d ⨾ skip t (arms_lie rest)

  arm_lies : {toks : List Tok} {i j : ℕ} {a : Arm} → IsArm toks i j a → AreOrdered i j j (occurrences_in_arm (syntax_of_arm a))
  arm_lies (g.arm d t b) = by (ap occurrences_in_arm (eq.arm_of_syntax _ _)) (expr_lies d ⨾ skip t (block_lies b))

  else_lies : {toks : List Tok} {i j : ℕ} {last : Option Block} → IsElse toks i j last → AreOrdered i j j (occurrences_in_optional_block (optional_block_of (option_map syntax_of_block last)))
  else_lies g.no_else = none
  else_lies (g.an_else t b) = skip t (block_lies b)

  step_lies : {toks : List Tok} {i j : ℕ} {step : Option Expr} → IsForStep toks i j step → AreOrdered i j j (occurrences_in_optional_expression (optional_expression_of (option_map syntax_of_expr step)))
  step_lies g.no_for_step = none
  step_lies (g.a_for_step t d) = skip t (expr_lies d)

-- ---- that a part ends at its begin or behind it

pub declared_on : {toks : List Tok} {i j : ℕ} {declared : List Declared} → AreDeclared toks i j declared → i ≤ j
declared_on d = row_on (declared_row 0 0 d)

pub names_on : {toks : List Tok} {i j : ℕ} {names : List ℕ} → AreNames toks i j names → i ≤ j
names_on d = row_on (loop_row 0 0 d)

pub parameters_on : {toks : List Tok} {i j : ℕ} {names : List ℕ} {vararg : Bool} → AreParams toks i j names vararg → i ≤ j
parameters_on d = row_on (parameters_row 0 0 d)

pub path_on : {toks : List Tok} {i j : ℕ} {path : List ℕ} → IsPath toks i j path → i ≤ j
path_on d = (fields_lie d).on

pub method_on : {toks : List Tok} {i j : ℕ} {method : Option ℕ} → IsMethod toks i j method → i ≤ j
method_on g.no_method = omega arith
method_on (g.a_method t u) = let colon = t.next in let name = u.next in omega arith

pub stat_on : {toks : List Tok} {i j : ℕ} {s : Stat} → IsStat toks i j s → i ≤ j
stat_on {i = i} {j = j} d = (stat_lies (loose j) true d (fits_loose i j)).on

pub stats_on : {toks : List Tok} {i j : ℕ} {stats : List Stat} → AreStats toks i j stats → i ≤ j
stats_on {i = i} {j = j} d = (stats_lie (loose j) d (fits_loose i j)).on
