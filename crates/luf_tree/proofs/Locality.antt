-- What a list of tokens derives depends on the tokens of the part alone, and on whether a `(` stands behind it.
use Rattle.std.proofs.Common.{◌≡◌, ℕ, ◌<◌, ◌≤◌, ◌⊎◌, inl, inr, Bool, Option, Some, List, ◌∙◌, sym, subst, arith}
use Rattle.std.specs.Prelude.{slice_get}
use Rattle.std.proofs.lemmas.Bool.{cases_lt}
use Rattle.luf_lex.specs.declared.token.Tok.{Tok}
use Rattle.luf_lex.specs.declared.token.Tok.TheVariants.{Sign}
use Rattle.luf_lex.specs.declared.token.Sign.TheVariants as sign
use Rattle.luf_tree.specs.declared.tree.Block.{Block}
use Rattle.luf_tree.specs.declared.tree.Stat.{Stat}
use Rattle.luf_tree.specs.declared.tree.Declared.{Declared}
use Rattle.luf_tree.specs.declared.tree.Arm.{Arm}
use Rattle.luf_tree.specs.declared.tree.FuncBody.{FuncBody}
use Rattle.luf_tree.specs.declared.tree.Expr.{Expr}
use Rattle.luf_tree.specs.declared.tree.Step.{Step}
use Rattle.luf_tree.specs.declared.tree.Suffix.{Suffix}
use Rattle.luf_tree.specs.declared.tree.Args.{Args}
use Rattle.luf_tree.specs.declared.tree.Field.{Field}
use Rattle.luf_tree.specs.Grammar as g
use Rattle.luf_tree.specs.Grammar.{IsToken, NoParenFollows}
use Rattle.luf_tree.specs.Agree.{AgreeBefore, IsLocal}

record Both (A B : Type 0) : Type 0 where
  a : A
  b : B

nothing : {toks : List Tok} {i : ℕ} {D : List Tok → Type 0} → ((l : List Tok) → D l) → IsLocal toks i i D
nothing f = record { forward = omega arith; at = λ l below closes. f l }

by : {toks : List Tok} {i j : ℕ} {C D : List Tok → Type 0} → ((l : List Tok) → C l → D l) → IsLocal toks i j C → IsLocal toks i j D
by f h = record { forward = h.forward; at = λ l below closes. f l (h.at l below closes) }

token : {toks : List Tok} {i j : ℕ} {t : Tok} → IsToken toks i t j → IsLocal toks i j (λ l. IsToken l i t j)
token {i = i} t = let n = t.next in record { forward = omega arith; at = λ l below closes. record { there = below.same i (omega arith) ∙ t.there; next = n } }

either_token : {toks : List Tok} {i j : ℕ} {t u : Tok} → IsToken toks i t j ⊎ IsToken toks i u j → IsLocal toks i j (λ l. IsToken l i t j ⊎ IsToken l i u j)
either_token (inl t) = by (λ l p. inl p) (token t)
either_token (inr t) = by (λ l p. inr p) (token t)

closed : {toks : List Tok} {j : ℕ} → NoParenFollows toks j → IsLocal toks j j (λ l. NoParenFollows l j)
closed c = record { forward = omega arith; at = λ l below closes. closes c }

infixl 5 ◌⨾◌
◌⨾◌ : {toks : List Tok} {i j k : ℕ} {C D : List Tok → Type 0} → IsLocal toks i j C → IsLocal toks j k D → IsLocal toks i k (λ l. Both (C l) (D l))
◌⨾◌ {toks} {i} {j} {k} f h =
    let a = f.forward in
    let b = h.forward in
    record { forward = omega arith; at = λ l below closes. record { a = f.at l (record { same = λ n lt. below.same n (omega arith) }) (seam l below closes (cases_lt j k)); b = h.at l below closes } }
  where
    seam : (l : List Tok) → AgreeBefore toks l k → (NoParenFollows toks k → NoParenFollows l k) → (j < k) ⊎ (k ≤ j) → NoParenFollows toks j → NoParenFollows l j
    seam l below closes (inl lt) c there = c (sym (below.same j lt) ∙ there)
    seam l below closes (inr le) c there = let b = h.forward in closes (subst (NoParenFollows toks) (omega arith) c) (subst (λ q. slice_get l q ≡ Some (Sign sign.LeftParen)) (omega arith) there)

pub local_names : {toks : List Tok} {i j : ℕ} {part : List ℕ} → g.AreNames toks i j part → IsLocal toks i j (λ l. g.AreNames l i j part)
local_names (g.one_name d0) = by (λ l p. g.one_name p) (token d0)
local_names (g.more_names d0 d1 d2) = by (λ l p. g.more_names p.a.a p.a.b p.b) (token d0 ⨾ token d1 ⨾ local_names d2)

pub local_params : {toks : List Tok} {i j : ℕ} {part : List ℕ} {vararg : Bool} → g.AreParams toks i j part vararg → IsLocal toks i j (λ l. g.AreParams l i j part vararg)
local_params g.no_params = nothing (λ l. g.no_params)
local_params (g.dots_alone d0) = by (λ l p. g.dots_alone p) (token d0)
local_params (g.names_alone d0) = by (λ l p. g.names_alone p) (local_names d0)
local_params (g.names_and_dots d0 d1 d2) = by (λ l p. g.names_and_dots p.a.a p.a.b p.b) (local_names d0 ⨾ token d1 ⨾ token d2)

pub local_attribute : {toks : List Tok} {i j : ℕ} {part : Option ℕ} → g.IsAttribute toks i j part → IsLocal toks i j (λ l. g.IsAttribute l i j part)
local_attribute g.no_attribute = nothing (λ l. g.no_attribute)
local_attribute (g.an_attribute d0 d1 d2) = by (λ l p. g.an_attribute p.a.a p.a.b p.b) (token d0 ⨾ token d1 ⨾ token d2)

pub local_declared : {toks : List Tok} {i j : ℕ} {part : List Declared} → g.AreDeclared toks i j part → IsLocal toks i j (λ l. g.AreDeclared l i j part)
local_declared (g.one_declared d0 d1) = by (λ l p. g.one_declared p.a p.b) (token d0 ⨾ local_attribute d1)
local_declared (g.more_declared d0 d1 d2 d3) = by (λ l p. g.more_declared p.a.a.a p.a.a.b p.a.b p.b) (token d0 ⨾ local_attribute d1 ⨾ token d2 ⨾ local_declared d3)

pub local_path : {toks : List Tok} {i j : ℕ} {part : List ℕ} → g.IsPath toks i j part → IsLocal toks i j (λ l. g.IsPath l i j part)
local_path (g.path_end d0) = by (λ l p. g.path_end p) (token d0)
local_path (g.path_more d0 d1 d2) = by (λ l p. g.path_more p.a.a p.a.b p.b) (token d0 ⨾ token d1 ⨾ local_path d2)

pub local_method : {toks : List Tok} {i j : ℕ} {part : Option ℕ} → g.IsMethod toks i j part → IsLocal toks i j (λ l. g.IsMethod l i j part)
local_method g.no_method = nothing (λ l. g.no_method)
local_method (g.a_method d0 d1) = by (λ l p. g.a_method p.a p.b) (token d0 ⨾ token d1)

pub local_semicolon : {toks : List Tok} {i j : ℕ} → g.IsSemicolon toks i j → IsLocal toks i j (λ l. g.IsSemicolon l i j)
local_semicolon g.no_semicolon = nothing (λ l. g.no_semicolon)
local_semicolon (g.a_semicolon d0) = by (λ l p. g.a_semicolon p) (token d0)

mutual
  pub local_expr : {toks : List Tok} {n i j : ℕ} {part : Expr} → g.IsExpr toks n i j part → IsLocal toks i j (λ l. g.IsExpr l n i j part)
  local_expr (g.operand_expr d0) = by (λ l p. g.operand_expr p) (local_operand d0)
  local_expr (g.chain_expr d0 d1 d2 d3) = by (λ l p. g.chain_expr d0 d1 p.a p.b) (local_expr d2 ⨾ local_steps d3)

  pub local_steps : {toks : List Tok} {n i j : ℕ} {part : List Step} → g.AreSteps toks n i j part → IsLocal toks i j (λ l. g.AreSteps l n i j part)
  local_steps (g.one_step d0 d1 d2) = by (λ l p. g.one_step p.a d1 p.b) (token d0 ⨾ local_expr d2)
  local_steps (g.more_steps d0 d1 d2 d3) = by (λ l p. g.more_steps p.a.a d1 p.a.b p.b) (token d0 ⨾ local_expr d2 ⨾ local_steps d3)

  pub local_operand : {toks : List Tok} {i j : ℕ} {part : Expr} → g.IsOperand toks i j part → IsLocal toks i j (λ l. g.IsOperand l i j part)
  local_operand (g.unary_operand d0 d1 d2) = by (λ l p. g.unary_operand p.a d1 p.b) (token d0 ⨾ local_operand d2)
  local_operand (g.power_operand d0 d1 d2) = by (λ l p. g.power_operand p.a.a p.a.b p.b) (local_simple d0 ⨾ token d1 ⨾ local_operand d2)
  local_operand (g.simple_operand d0) = by (λ l p. g.simple_operand p) (local_simple d0)

  pub local_simple : {toks : List Tok} {i j : ℕ} {part : Expr} → g.IsSimple toks i j part → IsLocal toks i j (λ l. g.IsSimple l i j part)
  local_simple (g.nil_simple d0) = by (λ l p. g.nil_simple p) (token d0)
  local_simple (g.true_simple d0) = by (λ l p. g.true_simple p) (token d0)
  local_simple (g.false_simple d0) = by (λ l p. g.false_simple p) (token d0)
  local_simple (g.number_simple d0) = by (λ l p. g.number_simple p) (token d0)
  local_simple (g.string_simple d0) = by (λ l p. g.string_simple p) (either_token d0)
  local_simple (g.vararg_simple d0) = by (λ l p. g.vararg_simple p) (token d0)
  local_simple (g.function_simple d0 d1) = by (λ l p. g.function_simple p.a p.b) (token d0 ⨾ local_func_body d1)
  local_simple (g.table_simple d0) = by (λ l p. g.table_simple p) (local_table d0)
  local_simple (g.prefix_simple d0 d1) = by (λ l p. g.prefix_simple p.a p.b) (local_prefix d0 ⨾ closed d1)

  pub local_prefix : {toks : List Tok} {i j : ℕ} {part : Expr} → g.IsPrefix toks i j part → IsLocal toks i j (λ l. g.IsPrefix l i j part)
  local_prefix (g.variable_prefix d0) = by (λ l p. g.variable_prefix p) (local_variable d0)
  local_prefix (g.call_prefix d0) = by (λ l p. g.call_prefix p) (local_call d0)
  local_prefix (g.paren_prefix d0) = by (λ l p. g.paren_prefix p) (local_paren d0)

  pub local_variable : {toks : List Tok} {i j : ℕ} {part : Expr} → g.IsVariable toks i j part → IsLocal toks i j (λ l. g.IsVariable l i j part)
  local_variable (g.name_variable d0) = by (λ l p. g.name_variable p) (token d0)
  local_variable (g.suffixed_variable d0 d1) = by (λ l p. g.suffixed_variable p.a p.b) (local_head d0 ⨾ local_suffixes d1)

  pub local_call : {toks : List Tok} {i j : ℕ} {part : Expr} → g.IsCall toks i j part → IsLocal toks i j (λ l. g.IsCall l i j part)
  local_call (g.suffixed_call d0 d1) = by (λ l p. g.suffixed_call p.a p.b) (local_head d0 ⨾ local_suffixes d1)

  pub local_paren : {toks : List Tok} {i j : ℕ} {part : Expr} → g.IsParen toks i j part → IsLocal toks i j (λ l. g.IsParen l i j part)
  local_paren (g.paren d0 d1 d2) = by (λ l p. g.paren p.a.a p.a.b p.b) (token d0 ⨾ local_expr d1 ⨾ token d2)

  pub local_head : {toks : List Tok} {i j : ℕ} {part : Expr} → g.IsHead toks i j part → IsLocal toks i j (λ l. g.IsHead l i j part)
  local_head (g.name_head d0) = by (λ l p. g.name_head p) (token d0)
  local_head (g.paren_head d0) = by (λ l p. g.paren_head p) (local_paren d0)

  pub local_suffixes : {toks : List Tok} {calls : Bool} {i j : ℕ} {part : List Suffix} → g.AreSuffixes toks calls i j part → IsLocal toks i j (λ l. g.AreSuffixes l calls i j part)
  local_suffixes (g.one_suffix d0) = by (λ l p. g.one_suffix p) (local_suffix d0)
  local_suffixes (g.more_suffixes d0 d1) = by (λ l p. g.more_suffixes p.a p.b) (local_suffix d0 ⨾ local_suffixes d1)

  pub local_suffix : {toks : List Tok} {calls : Bool} {i j : ℕ} {part : Suffix} → g.IsSuffix toks calls i j part → IsLocal toks i j (λ l. g.IsSuffix l calls i j part)
  local_suffix (g.dot_suffix d0 d1) = by (λ l p. g.dot_suffix p.a p.b) (token d0 ⨾ token d1)
  local_suffix (g.index_suffix d0 d1 d2) = by (λ l p. g.index_suffix p.a.a p.a.b p.b) (token d0 ⨾ local_expr d1 ⨾ token d2)
  local_suffix (g.call_suffix d0) = by (λ l p. g.call_suffix p) (local_args d0)
  local_suffix (g.method_suffix d0 d1 d2) = by (λ l p. g.method_suffix p.a.a p.a.b p.b) (token d0 ⨾ token d1 ⨾ local_args d2)

  pub local_args : {toks : List Tok} {i j : ℕ} {part : Args} → g.IsArgs toks i j part → IsLocal toks i j (λ l. g.IsArgs l i j part)
  local_args (g.no_args d0 d1) = by (λ l p. g.no_args p.a p.b) (token d0 ⨾ token d1)
  local_args (g.list_args d0 d1 d2) = by (λ l p. g.list_args p.a.a p.a.b p.b) (token d0 ⨾ local_exprs d1 ⨾ token d2)
  local_args (g.string_args d0) = by (λ l p. g.string_args p) (either_token d0)
  local_args (g.table_args d0) = by (λ l p. g.table_args p) (local_table d0)

  pub local_exprs : {toks : List Tok} {i j : ℕ} {part : List Expr} → g.AreExprs toks i j part → IsLocal toks i j (λ l. g.AreExprs l i j part)
  local_exprs (g.one_expr d0) = by (λ l p. g.one_expr p) (local_expr d0)
  local_exprs (g.more_exprs d0 d1 d2) = by (λ l p. g.more_exprs p.a.a p.a.b p.b) (local_expr d0 ⨾ token d1 ⨾ local_exprs d2)

  pub local_table : {toks : List Tok} {i j : ℕ} {part : List Field} → g.IsTable toks i j part → IsLocal toks i j (λ l. g.IsTable l i j part)
  local_table (g.table d0 d1 d2) = by (λ l p. g.table p.a.a p.a.b p.b) (token d0 ⨾ local_fields d1 ⨾ token d2)

  pub local_fields : {toks : List Tok} {i j : ℕ} {part : List Field} → g.AreFields toks i j part → IsLocal toks i j (λ l. g.AreFields l i j part)
  local_fields g.no_fields = nothing (λ l. g.no_fields)
  local_fields (g.last_field d0) = by (λ l p. g.last_field p) (local_field d0)
  local_fields (g.more_fields d0 d1 d2) = by (λ l p. g.more_fields p.a.a p.a.b p.b) (local_field d0 ⨾ either_token d1 ⨾ local_fields d2)

  pub local_field : {toks : List Tok} {i j : ℕ} {part : Field} → g.IsField toks i j part → IsLocal toks i j (λ l. g.IsField l i j part)
  local_field (g.keyed_field d0 d1 d2 d3 d4) = by (λ l p. g.keyed_field p.a.a.a.a p.a.a.a.b p.a.a.b p.a.b p.b) (token d0 ⨾ local_expr d1 ⨾ token d2 ⨾ token d3 ⨾ local_expr d4)
  local_field (g.named_field d0 d1 d2) = by (λ l p. g.named_field p.a.a p.a.b p.b) (token d0 ⨾ token d1 ⨾ local_expr d2)
  local_field (g.item_field d0) = by (λ l p. g.item_field p) (local_expr d0)

  pub local_func_body : {toks : List Tok} {i j : ℕ} {part : FuncBody} → g.IsFuncBody toks i j part → IsLocal toks i j (λ l. g.IsFuncBody l i j part)
  local_func_body (g.func_body d0 d1 d2 d3 d4) = by (λ l p. g.func_body p.a.a.a.a p.a.a.a.b p.a.a.b p.a.b p.b) (token d0 ⨾ local_params d1 ⨾ token d2 ⨾ local_block d3 ⨾ token d4)

  pub local_block : {toks : List Tok} {i j : ℕ} {part : Block} → g.IsBlock toks i j part → IsLocal toks i j (λ l. g.IsBlock l i j part)
  local_block (g.block d0) = by (λ l p. g.block p) (local_stats d0)

  pub local_stats : {toks : List Tok} {i j : ℕ} {part : List Stat} → g.AreStats toks i j part → IsLocal toks i j (λ l. g.AreStats l i j part)
  local_stats g.no_stats = nothing (λ l. g.no_stats)
  local_stats (g.last_stat d0) = by (λ l p. g.last_stat p) (local_return d0)
  local_stats (g.more_stats d0 d1) = by (λ l p. g.more_stats p.a p.b) (local_stat d0 ⨾ local_stats d1)

  pub local_return : {toks : List Tok} {i j : ℕ} {part : Stat} → g.IsReturn toks i j part → IsLocal toks i j (λ l. g.IsReturn l i j part)
  local_return (g.return_nothing d0 d1) = by (λ l p. g.return_nothing p.a p.b) (token d0 ⨾ local_semicolon d1)
  local_return (g.return_values d0 d1 d2) = by (λ l p. g.return_values p.a.a p.a.b p.b) (token d0 ⨾ local_exprs d1 ⨾ local_semicolon d2)

  pub local_stat : {toks : List Tok} {i j : ℕ} {part : Stat} → g.IsStat toks i j part → IsLocal toks i j (λ l. g.IsStat l i j part)
  local_stat (g.empty_stat d0) = by (λ l p. g.empty_stat p) (token d0)
  local_stat (g.local_stat d0 d1) = by (λ l p. g.local_stat p.a p.b) (token d0 ⨾ local_declared d1)
  local_stat (g.local_values_stat d0 d1 d2 d3) = by (λ l p. g.local_values_stat p.a.a.a p.a.a.b p.a.b p.b) (token d0 ⨾ local_declared d1 ⨾ token d2 ⨾ local_exprs d3)
  local_stat (g.assign_stat d0 d1 d2) = by (λ l p. g.assign_stat p.a.a p.a.b p.b) (local_targets d0 ⨾ token d1 ⨾ local_exprs d2)
  local_stat (g.call_stat d0 d1) = by (λ l p. g.call_stat p.a p.b) (local_call d0 ⨾ closed d1)
  local_stat (g.do_stat d0 d1 d2) = by (λ l p. g.do_stat p.a.a p.a.b p.b) (token d0 ⨾ local_block d1 ⨾ token d2)
  local_stat (g.while_stat d0 d1 d2 d3 d4) = by (λ l p. g.while_stat p.a.a.a.a p.a.a.a.b p.a.a.b p.a.b p.b) (token d0 ⨾ local_expr d1 ⨾ token d2 ⨾ local_block d3 ⨾ token d4)
  local_stat (g.repeat_stat d0 d1 d2 d3) = by (λ l p. g.repeat_stat p.a.a.a p.a.a.b p.a.b p.b) (token d0 ⨾ local_block d1 ⨾ token d2 ⨾ local_expr d3)
  local_stat (g.if_stat d0 d1 d2 d3) = by (λ l p. g.if_stat p.a.a.a p.a.a.b p.a.b p.b) (token d0 ⨾ local_arms d1 ⨾ local_else d2 ⨾ token d3)
  local_stat (g.for_stat d0 d1 d2 d3 d4 d5 d6 d7 d8 d9) = by (λ l p. g.for_stat p.a.a.a.a.a.a.a.a.a p.a.a.a.a.a.a.a.a.b p.a.a.a.a.a.a.a.b p.a.a.a.a.a.a.b p.a.a.a.a.a.b p.a.a.a.a.b p.a.a.a.b p.a.a.b p.a.b p.b) (token d0 ⨾ token d1 ⨾ token d2 ⨾ local_expr d3 ⨾ token d4 ⨾ local_expr d5 ⨾ local_for_step d6 ⨾ token d7 ⨾ local_block d8 ⨾ token d9)
  local_stat (g.for_in_stat d0 d1 d2 d3 d4 d5 d6) = by (λ l p. g.for_in_stat p.a.a.a.a.a.a p.a.a.a.a.a.b p.a.a.a.a.b p.a.a.a.b p.a.a.b p.a.b p.b) (token d0 ⨾ local_names d1 ⨾ token d2 ⨾ local_exprs d3 ⨾ token d4 ⨾ local_block d5 ⨾ token d6)
  local_stat (g.function_stat d0 d1 d2 d3) = by (λ l p. g.function_stat p.a.a.a p.a.a.b p.a.b p.b) (token d0 ⨾ local_path d1 ⨾ local_method d2 ⨾ local_func_body d3)
  local_stat (g.local_function_stat d0 d1 d2 d3) = by (λ l p. g.local_function_stat p.a.a.a p.a.a.b p.a.b p.b) (token d0 ⨾ token d1 ⨾ token d2 ⨾ local_func_body d3)
  local_stat (g.label_stat d0 d1 d2) = by (λ l p. g.label_stat p.a.a p.a.b p.b) (token d0 ⨾ token d1 ⨾ token d2)
  local_stat (g.goto_stat d0 d1) = by (λ l p. g.goto_stat p.a p.b) (token d0 ⨾ token d1)
  local_stat (g.break_stat d0) = by (λ l p. g.break_stat p) (token d0)

  pub local_targets : {toks : List Tok} {i j : ℕ} {part : List Expr} → g.AreTargets toks i j part → IsLocal toks i j (λ l. g.AreTargets l i j part)
  local_targets (g.one_target d0) = by (λ l p. g.one_target p) (local_variable d0)
  local_targets (g.more_targets d0 d1 d2) = by (λ l p. g.more_targets p.a.a p.a.b p.b) (local_variable d0 ⨾ token d1 ⨾ local_targets d2)

  pub local_arm : {toks : List Tok} {i j : ℕ} {part : Arm} → g.IsArm toks i j part → IsLocal toks i j (λ l. g.IsArm l i j part)
  local_arm (g.arm d0 d1 d2) = by (λ l p. g.arm p.a.a p.a.b p.b) (local_expr d0 ⨾ token d1 ⨾ local_block d2)

  pub local_arms : {toks : List Tok} {i j : ℕ} {part : List Arm} → g.AreArms toks i j part → IsLocal toks i j (λ l. g.AreArms l i j part)
  local_arms (g.one_arm d0) = by (λ l p. g.one_arm p) (local_arm d0)
  local_arms (g.more_arms d0 d1 d2) = by (λ l p. g.more_arms p.a.a p.a.b p.b) (local_arm d0 ⨾ token d1 ⨾ local_arms d2)

  pub local_else : {toks : List Tok} {i j : ℕ} {part : Option Block} → g.IsElse toks i j part → IsLocal toks i j (λ l. g.IsElse l i j part)
  local_else g.no_else = nothing (λ l. g.no_else)
  local_else (g.an_else d0 d1) = by (λ l p. g.an_else p.a p.b) (token d0 ⨾ local_block d1)

  pub local_for_step : {toks : List Tok} {i j : ℕ} {part : Option Expr} → g.IsForStep toks i j part → IsLocal toks i j (λ l. g.IsForStep l i j part)
  local_for_step g.no_for_step = nothing (λ l. g.no_for_step)
  local_for_step (g.a_for_step d0 d1) = by (λ l p. g.a_for_step p.a p.b) (token d0 ⨾ local_expr d1)
