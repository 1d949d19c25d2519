-- A text of a program is read as that program, with parentheses round the same arguments.
use Rattle.std.proofs.Common.{◌≡◌, ℕ, ◌+◌, ◌-◌, ◌<◌, ◌≤◌, ◌⊎◌, inl, inr, Bool, true, false, Option, Some, None, List, [], ◌∷◌, ◌++◌, map, ap, sym, refl, subst, ◌∙◌, arith}
use Rattle.std.specs.Option.{option_map}
use Rattle.luf_lex.specs.declared.token.Tok.{Tok}
use Rattle.luf_lex.specs.declared.token.Tok.TheVariants.{Short, Long, Sign}
use Rattle.luf_lex.specs.declared.token.Sign.TheVariants as sign
use Rattle.luf_tree.specs.declared.tree.Block.{Block}
use Rattle.luf_tree.specs.declared.tree.Stat.{Stat}
use Rattle.luf_tree.specs.declared.tree.Declared.{Declared}
use Rattle.luf_tree.specs.declared.tree.Arm.{Arm}
use Rattle.luf_tree.specs.declared.tree.FuncBody.{FuncBody}
use Rattle.luf_tree.specs.declared.tree.Expr.{Expr}
use Rattle.luf_tree.specs.declared.tree.ExprKind.TheVariants as expr
use Rattle.luf_tree.specs.declared.tree.Step.{Step}
use Rattle.luf_tree.specs.declared.tree.Suffix.{Suffix}
use Rattle.luf_tree.specs.declared.tree.Args.{Args}
use Rattle.luf_tree.specs.declared.tree.Field.{Field}
use Rattle.luf_tree.specs.Operator.{binary_precedence}
use Rattle.luf_tree.specs.Grammar as g
use Rattle.luf_tree.specs.Grammar.{At, IsToken, IsString, NoParenFollows, expression, statement, AreNames, AreParams, IsAttribute, AreDeclared, IsPath, IsMethod, IsSemicolon, IsExpr, AreSteps, IsOperand, IsSimple, IsPrefix, IsVariable, IsCall, IsParen, IsHead, AreSuffixes, IsSuffix, IsArgs, AreExprs, IsTable, AreFields, IsField, IsFuncBody, IsBlock, AreStats, IsReturn, IsStat, AreTargets, IsArm, AreArms, IsElse, IsForStep, IsChunk}
use Rattle.luf_tree.specs.Syntax as syntax
use Rattle.luf_tree.specs.SyntaxOf.{expressions_of, operations_of, suffixes_of, fields_of, statements_of, arms_of, optional_expression_of, optional_block_of, declared_of, first_of_path, rest_of_path, syntax_of_expr, syntax_of_block, syntax_of_stat, syntax_of_field, syntax_of_suffix, syntax_of_step, syntax_of_arm, syntax_of_args, syntax_of_body}
use Rattle.luf_bare.specs.Bare.{Bare, words_of, as_here, before, chosen_declared, chosen_expression, chosen_optional_expression, chosen_expressions, chosen_operation, chosen_operations, chosen_suffix, chosen_suffixes, chosen_arguments, chosen_field, chosen_fields, chosen_statement, chosen_statements, chosen_arm, chosen_arms, chosen_block, chosen_optional_block, chosen_function_body}
use Rattle.luf_bare.specs.Texts as w
use Rattle.luf_bare.specs.Writing.{opens}
use Rattle.luf_bare.proofs.Ends.{between_none, between_one, place_before, exprs_end, field_end}
use Rattle.luf_bare.specs.Lone.{is_lone}
use Rattle.luf_bare.proofs.LoneLaws.{lone_chosen}
use Rattle.luf_bare.specs.Dropped.{between, if_dropped, dropped_expression, dropped_for_step, dropped_expressions, dropped_operation, dropped_operations, dropped_suffix, dropped_suffixes, dropped_arguments, dropped_field, dropped_fields, dropped_statement, dropped_statements, dropped_arm, dropped_arms, dropped_block, dropped_else, dropped_body}
use Rattle.luf_bare.specs.Texts.{NoParenFirst, IsStringWord, WritesNames, WritesParams, WritesAttribute, WritesDeclared, WritesPath, WritesMethod, WritesSemicolon, WritesExpr, WritesSteps, WritesOperand, WritesSimple, WritesPrefix, WritesVariable, WritesCall, WritesParen, WritesHead, WritesSuffixes, WritesSuffix, WritesArgs, WritesExprs, WritesTable, WritesFields, WritesField, WritesFuncBody, WritesBlock, WritesStats, WritesReturn, WritesStat, WritesTargets, WritesArm, WritesArms, WritesElse, WritesForStep}
use Rattle.luf_tree.proofs.SyntaxEquations.{nil_syntax, true_syntax, false_syntax, number_syntax, string_syntax, vararg_syntax, name_syntax, paren_syntax, function_syntax, table_syntax, unary_syntax, chain_syntax, power_syntax, suffixed_syntax, empty_syntax, local_syntax, assign_syntax, call_syntax, do_syntax, while_syntax, repeat_syntax, if_syntax, for_syntax, for_in_syntax, function_stat_syntax, local_function_syntax, label_syntax, goto_syntax, break_syntax, return_syntax, item_syntax, named_syntax, keyed_syntax, dot_syntax, index_syntax, call_suffix_syntax, method_syntax, step_of_syntax, arm_of_syntax, args_of_syntax, block_of_syntax, body_of_syntax}

-- a part of the tree that is derived, with this form, and with these dropped tokens up to those behind it
pub record Is {T B : Type 0} (Derives : T → Type 0) (form : T → B) (dropped : T → List ℕ → List ℕ) (b : B) (ds after : List ℕ) : Type 0 where
  pub tree : T
  pub derived : Derives tree
  pub same : form tree ≡ b
  pub drops : dropped tree after ≡ ds

made : {T B : Type 0} {Derives : T → Type 0} {form : T → B} {dropped : T → List ℕ → List ℕ} {b : B} {ds after : List ℕ} (tree : T) → Derives tree → form tree ≡ b → dropped tree after ≡ ds → Is Derives form dropped b ds after
made tree derived same drops = record { tree = tree; derived = derived; same = same; drops = drops }

abbrev drop_none : {T : Type 0} → T → List ℕ → List ℕ
drop_none part more = more

abbrev drop_expr : Expr → List ℕ → List ℕ
drop_expr e more = dropped_expression (syntax_of_expr e) more

abbrev drop_exprs : List Expr → List ℕ → List ℕ
drop_exprs es more = dropped_expressions (expressions_of (map syntax_of_expr es)) more

abbrev drop_steps : List Step → List ℕ → List ℕ
drop_steps ss more = dropped_operations (operations_of (map syntax_of_step ss)) more

abbrev drop_suffix : Suffix → List ℕ → List ℕ
drop_suffix s more = dropped_suffix (syntax_of_suffix s) more

abbrev drop_suffixes : List Suffix → List ℕ → List ℕ
drop_suffixes ss more = dropped_suffixes (suffixes_of (map syntax_of_suffix ss)) more

abbrev drop_args : Args → List ℕ → List ℕ
drop_args a more = dropped_arguments (syntax_of_args a) more

abbrev drop_field : Field → List ℕ → List ℕ
drop_field f more = dropped_field (syntax_of_field f) more

abbrev drop_fields : ℕ → List Field → List ℕ → List ℕ
drop_fields last fs more = dropped_fields (fields_of (map syntax_of_field fs)) last more

abbrev drop_block : Block → List ℕ → List ℕ
drop_block b more = dropped_block (syntax_of_block b) more

abbrev drop_body : FuncBody → List ℕ → List ℕ
drop_body f more = dropped_body (syntax_of_body f) more

abbrev drop_stat : Stat → List ℕ → List ℕ
drop_stat s more = dropped_statement (syntax_of_stat s) more

abbrev drop_stats : List Stat → List ℕ → List ℕ
drop_stats ss more = dropped_statements (statements_of (map syntax_of_stat ss)) more

abbrev drop_arm : Arm → List ℕ → List ℕ
drop_arm a more = dropped_arm (syntax_of_arm a) more

abbrev drop_arms : List Arm → List ℕ → List ℕ
drop_arms arms more = dropped_arms (arms_of (map syntax_of_arm arms)) more

abbrev drop_else : Option Block → List ℕ → List ℕ
drop_else b more = dropped_else (optional_block_of (option_map syntax_of_block b)) more

abbrev drop_for_step : Option Expr → List ℕ → List ℕ
drop_for_step e more = dropped_for_step (optional_expression_of (option_map syntax_of_expr e)) more

abbrev some_opens : Option Tok → Bool
some_opens None = false
some_opens (Some t) = opens t

never : true ≡ false → ⊥
never e = cc

not_open : {toks : List Tok} {i j : ℕ} {t : Tok} → IsToken toks i t j → opens t ≡ false → NoParenFollows toks i
not_open token no_paren paren = never (sym (ap some_opens paren) ∙ ap some_opens token.there ∙ no_paren)

abbrev tok_or : Tok → Option Tok → Tok
tok_or t None = t
tok_or _ (Some t) = t

pub some_is : {s t : Tok} → Some s ≡ Some t → s ≡ t
some_is {s} same = ap (tok_or s) same

no_operator : {t : Tok} {m : ℕ} → t ≡ Sign sign.LeftParen → binary_precedence t ≡ m → 0 < m → ⊥
no_operator paren is pos = omega (arith, sym (ap binary_precedence paren) ∙ is, pos)

module _ {X : Type 0} (kind : X → Tok) (added : X → Bool) (toks : List Tok) (says : ℕ → X) where
  -- these words stand from i to k, and the added ones are at the first places up to those that are left
  pub data Stand : List X → ℕ → ℕ → List ℕ → List ℕ → Type 0 where
    none : {i : ℕ} {ds : List ℕ} → Stand [] i i ds ds
    kept : {x : X} {words : List X} {i j k : ℕ} {ds after : List ℕ} → IsToken toks i (kind x) j → says i ≡ x → added x ≡ false → Stand words j k ds after → Stand (x ∷ words) i k ds after
    lost : {x : X} {words : List X} {i j k : ℕ} {ds after : List ℕ} → IsToken toks i (kind x) j → says i ≡ x → added x ≡ true → Stand words j k ds after → Stand (x ∷ words) i k (i ∷ ds) after

  record Token (x : X) (i : ℕ) : Type 0 where
    place : ℕ
    token : IsToken toks i (kind x) place

  head_token : {x : X} {words : List X} {i k : ℕ} {ds after : List ℕ} → Stand (x ∷ words) i k ds after → Token x i
  head_token (kept {j} token _ _ _) = record { place = j; token = token }
  head_token (lost {j} token _ _ _) = record { place = j; token = token }

  record First (x : X) (words : List X) (i k : ℕ) (ds after : List ℕ) : Type 0 where
    place : ℕ
    token : IsToken toks i (kind x) place
    told : says i ≡ x
    rest : Stand words place k ds after

  first : {x : X} {words : List X} {i k : ℕ} {ds after : List ℕ} → added x ≡ false → Stand (x ∷ words) i k ds after → First x words i k ds after
  first keep (kept {j} token told _ rest) = record { place = j; token = token; told = told; rest = rest }
  first keep (lost _ _ add _) = absurd (never (sym add ∙ keep))

  record FirstLost (x : X) (words : List X) (i k : ℕ) (ds after : List ℕ) : Type 0 where
    place : ℕ
    token : IsToken toks i (kind x) place
    left : List ℕ
    rest : Stand words place k left after
    is_lost : i ∷ left ≡ ds

  first_lost : {x : X} {words : List X} {i k : ℕ} {ds after : List ℕ} → added x ≡ true → Stand (x ∷ words) i k ds after → FirstLost x words i k ds after
  first_lost add (kept _ _ keep _) = absurd (never (sym add ∙ keep))
  first_lost add (lost {j} {ds} token _ _ rest) = record { place = j; token = token; left = ds; rest = rest; is_lost = refl }

  record Single (x : X) (i k : ℕ) (ds after : List ℕ) : Type 0 where
    token : IsToken toks i (kind x) k
    told : says i ≡ x
    none_lost : after ≡ ds

  last : {x : X} {i k : ℕ} {ds after : List ℕ} → added x ≡ false → Stand (x ∷ []) i k ds after → Single x i k ds after
  last keep (kept token told _ none) = record { token = token; told = told; none_lost = refl }
  last keep (lost _ _ add none) = absurd (never (sym add ∙ keep))

  record SingleLost (x : X) (i k : ℕ) (ds after : List ℕ) : Type 0 where
    token : IsToken toks i (kind x) k
    is_lost : i ∷ after ≡ ds

  last_lost : {x : X} {i k : ℕ} {ds after : List ℕ} → added x ≡ true → Stand (x ∷ []) i k ds after → SingleLost x i k ds after
  last_lost add (kept _ _ keep none) = absurd (never (sym add ∙ keep))
  last_lost add (lost token _ _ none) = record { token = token; is_lost = refl }

  record Parted (words more : List X) (i k : ℕ) (ds after : List ℕ) : Type 0 where
    place : ℕ
    middle : List ℕ
    left : Stand words i place ds middle
    right : Stand more place k middle after

  part : (words more : List X) {i k : ℕ} {ds after : List ℕ} → Stand (words ++ more) i k ds after → Parted words more i k ds after
  part [] more {i} {ds} stand = record { place = i; middle = ds; left = none; right = stand }
  part (x ∷ words) more (kept token told keep rest) =
      let p = part words more rest in
      record { place = p.place; middle = p.middle; left = kept token told keep p.left; right = p.right }
  part (x ∷ words) more (lost token told add rest) =
      let p = part words more rest in
      record { place = p.place; middle = p.middle; left = lost token told add p.left; right = p.right }

  stand_le : {words : List X} {i k : ℕ} {ds after : List ℕ} → Stand words i k ds after → i ≤ k
  stand_le none = omega arith
  stand_le (kept token _ _ rest) = omega (arith, token.next, stand_le rest)
  stand_le (lost token _ _ rest) = omega (arith, token.next, stand_le rest)

  this : {x : X} {i j : ℕ} {t : Tok} → kind x ≡ t → IsToken toks i (kind x) j → IsToken toks i t j
  this {i} {j} is token = subst (λ z. IsToken toks i z j) is token

  as_string : {x : X} {i j : ℕ} → kind x ≡ Short ⊎ kind x ≡ Long → IsToken toks i (kind x) j → IsString toks i j
  as_string (inl is) token = inl (this is token)
  as_string (inr is) token = inr (this is token)

  as_one : {x : X} {i j : ℕ} {t u : Tok} → kind x ≡ t ⊎ kind x ≡ u → IsToken toks i (kind x) j → IsToken toks i t j ⊎ IsToken toks i u j
  as_one (inl is) token = inl (this is token)
  as_one (inr is) token = inr (this is token)

  shut_by : {x : X} {words : List X} {i k : ℕ} {t : Tok} {ds after : List ℕ} → kind x ≡ t → opens t ≡ false → Stand (x ∷ words) i k ds after → NoParenFollows toks i
  shut_by is no_paren stand = not_open ((head_token stand).token) (ap opens is ∙ no_paren)

  shut_by_one : {x : X} {words : List X} {i k : ℕ} {t u : Tok} {ds after : List ℕ} → kind x ≡ t ⊎ kind x ≡ u → opens t ≡ false → opens u ≡ false → Stand (x ∷ words) i k ds after → NoParenFollows toks i
  shut_by_one (inl is) first_no other_no stand = shut_by is first_no stand
  shut_by_one (inr is) first_no other_no stand = shut_by is other_no stand

  abbrev own_names : List ℕ → List X
  own_names = map says

  abbrev own_name_if_there : Option ℕ → Option X
  own_name_if_there = option_map says

  abbrev own_declared_names : List Declared → List (syntax.DeclaredName (Bare X))
  own_declared_names ds = map (chosen_declared (words_of says) as_here) (map declared_of ds)

  abbrev own_expr : Expr → syntax.Expression (Bare X)
  own_expr e = chosen_expression (words_of says) as_here (syntax_of_expr e)

  abbrev own_exprs : List Expr → syntax.Expressions (Bare X)
  own_exprs es = chosen_expressions (words_of says) as_here (expressions_of (map syntax_of_expr es))

  abbrev own_steps : List Step → syntax.Operations (Bare X)
  own_steps ss = chosen_operations (words_of says) as_here (operations_of (map syntax_of_step ss))

  abbrev own_a_suffix : Suffix → syntax.Suffix (Bare X)
  own_a_suffix s = chosen_suffix (words_of says) as_here (syntax_of_suffix s)

  abbrev own_all_suffixes : List Suffix → syntax.Suffixes (Bare X)
  own_all_suffixes ss = chosen_suffixes (words_of says) as_here (suffixes_of (map syntax_of_suffix ss))

  abbrev own_args : Args → syntax.Arguments (Bare X)
  own_args a = chosen_arguments (words_of says) as_here (syntax_of_args a)

  abbrev own_a_field : Field → syntax.Field (Bare X)
  own_a_field f = chosen_field (words_of says) as_here (syntax_of_field f)

  abbrev own_all_fields : List Field → syntax.Fields (Bare X)
  own_all_fields fs = chosen_fields (words_of says) as_here (fields_of (map syntax_of_field fs))

  abbrev own_a_block : Block → syntax.Block (Bare X)
  own_a_block b = chosen_block (words_of says) as_here (syntax_of_block b)

  abbrev own_body : FuncBody → syntax.FunctionBody (Bare X)
  own_body f = chosen_function_body (words_of says) as_here (syntax_of_body f)

  abbrev own_stat : Stat → Option (syntax.Statement (Bare X))
  own_stat s = chosen_statement (words_of says) as_here (syntax_of_stat s)

  abbrev own_stats : List Stat → syntax.Statements (Bare X)
  own_stats ss = chosen_statements (words_of says) as_here (statements_of (map syntax_of_stat ss))

  abbrev own_an_arm : Arm → syntax.Arm (Bare X)
  own_an_arm a = chosen_arm (words_of says) as_here (syntax_of_arm a)

  abbrev own_all_arms : List Arm → syntax.Arms (Bare X)
  own_all_arms arms = chosen_arms (words_of says) as_here (arms_of (map syntax_of_arm arms))

  abbrev own_else : Option Block → syntax.OptionalBlock (Bare X)
  own_else b = chosen_optional_block (words_of says) as_here (optional_block_of (option_map syntax_of_block b))

  abbrev own_for_step : Option Expr → syntax.OptionalExpression (Bare X)
  own_for_step e = chosen_optional_expression (words_of says) as_here (optional_expression_of (option_map syntax_of_expr e))

  first_says : (path : List ℕ) → option_map says (first_of_path path) ≡ first_of_path (map says path)
  first_says [] = refl
  first_says (name ∷ fields) = refl

  rest_says : (path : List ℕ) → map says (rest_of_path path) ≡ rest_of_path (map says path)
  rest_says [] = refl
  rest_says (name ∷ fields) = refl

  read_names : {b : List X} {words : List X} {i k : ℕ} {ds after : List ℕ} → WritesNames kind added b words → Stand words i k ds after → Is (AreNames toks i k) own_names drop_none b ds after
  read_names {i} {k} {after} (w.one_name h_x) stand =
      let f_x = last h_x.1 stand in
      made _ (g.one_name (this h_x.0 f_x.token)) (λ t. (f_x.told t) ∷ []) f_x.none_lost
  read_names {i} {k} {after} (w.more_names h_x h_c w_names) stand =
      let f_x = first h_x.1 stand in
      let f_c = first h_c.1 f_x.rest in
      let names = read_names w_names f_c.rest in
      made _ (g.more_names (this h_x.0 f_x.token) (this h_c.0 f_c.token) names.derived) (λ t. (f_x.told t) ∷ (names.same t)) names.drops

  read_params : {names : List X} {vararg : Bool} {words : List X} {i k : ℕ} {ds after : List ℕ} → WritesParams kind added names vararg words → Stand words i k ds after → Is (λ (ps : List ℕ). AreParams toks i k ps vararg) own_names drop_none names ds after
  read_params w.no_params none =
      made _ g.no_params (λ t. []) refl
  read_params {i} {k} {after} (w.dots_alone h_d) stand =
      let f_d = last h_d.1 stand in
      made _ (g.dots_alone (this h_d.0 f_d.token)) (λ t. []) f_d.none_lost
  read_params {i} {k} {after} (w.names_alone w_names) stand =
      let names = read_names w_names stand in
      made _ (g.names_alone names.derived) (λ t. (names.same t)) names.drops
  read_params {i} {k} {after} (w.names_and_dots {names_words} w_names h_c h_d) stand =
      let p_names = part names_words _ stand in
      let names = read_names w_names p_names.left in
      let f_c = first h_c.1 p_names.right in
      let f_d = last h_d.1 f_c.rest in
      made _ (g.names_and_dots names.derived (this h_c.0 f_c.token) (this h_d.0 f_d.token)) (λ t. (names.same t)) (f_d.none_lost ∙ names.drops)

  read_attribute : {b : Option X} {words : List X} {i k : ℕ} {ds after : List ℕ} → WritesAttribute kind added b words → Stand words i k ds after → Is (IsAttribute toks i k) own_name_if_there drop_none b ds after
  read_attribute w.no_attribute none =
      made _ g.no_attribute (λ t. None) refl
  read_attribute {i} {k} {after} (w.an_attribute h_l h_x h_r) stand =
      let f_l = first h_l.1 stand in
      let f_x = first h_x.1 f_l.rest in
      let f_r = last h_r.1 f_x.rest in
      made _ (g.an_attribute (this h_l.0 f_l.token) (this h_x.0 f_x.token) (this h_r.0 f_r.token)) (λ t. Some (f_x.told t)) f_r.none_lost

  read_declared : {b : List (syntax.DeclaredName (Bare X))} {words : List X} {i k : ℕ} {ds after : List ℕ} → WritesDeclared kind added b words → Stand words i k ds after → Is (AreDeclared toks i k) own_declared_names drop_none b ds after
  read_declared {i} {k} {after} (w.one_declared h_x w_a) stand =
      let f_x = first h_x.1 stand in
      let a = read_attribute w_a f_x.rest in
      made _ (g.one_declared (this h_x.0 f_x.token) a.derived) (λ t. record { name = (f_x.told t); attribute = (a.same t) } ∷ []) a.drops
  read_declared {i} {k} {after} (w.more_declared {a_words} h_x w_a h_c w_declared) stand =
      let f_x = first h_x.1 stand in
      let p_a = part a_words _ f_x.rest in
      let a = read_attribute w_a p_a.left in
      let f_c = first h_c.1 p_a.right in
      let declared = read_declared w_declared f_c.rest in
      made _ (g.more_declared (this h_x.0 f_x.token) a.derived (this h_c.0 f_c.token) declared.derived) (λ t. record { name = (f_x.told t); attribute = (a.same t) } ∷ (declared.same t)) (declared.drops ∙ a.drops)

  read_path : {b : List X} {words : List X} {i k : ℕ} {ds after : List ℕ} → WritesPath kind added b words → Stand words i k ds after → Is (IsPath toks i k) own_names drop_none b ds after
  read_path {i} {k} {after} (w.path_end h_x) stand =
      let f_x = last h_x.1 stand in
      made _ (g.path_end (this h_x.0 f_x.token)) (λ t. (f_x.told t) ∷ []) f_x.none_lost
  read_path {i} {k} {after} (w.path_more h_x h_d w_path) stand =
      let f_x = first h_x.1 stand in
      let f_d = first h_d.1 f_x.rest in
      let path = read_path w_path f_d.rest in
      made _ (g.path_more (this h_x.0 f_x.token) (this h_d.0 f_d.token) path.derived) (λ t. (f_x.told t) ∷ (path.same t)) path.drops

  read_method : {b : Option X} {words : List X} {i k : ℕ} {ds after : List ℕ} → WritesMethod kind added b words → Stand words i k ds after → Is (IsMethod toks i k) own_name_if_there drop_none b ds after
  read_method w.no_method none =
      made _ g.no_method (λ t. None) refl
  read_method {i} {k} {after} (w.a_method h_c h_x) stand =
      let f_c = first h_c.1 stand in
      let f_x = last h_x.1 f_c.rest in
      made _ (g.a_method (this h_c.0 f_c.token) (this h_x.0 f_x.token)) (λ t. Some (f_x.told t)) f_x.none_lost

  read_semicolon : {words : List X} {i k : ℕ} {ds after : List ℕ} → WritesSemicolon kind added words → Stand words i k ds after → IsSemicolon toks i k
  read_semicolon w.no_semicolon none = g.no_semicolon
  read_semicolon (w.a_semicolon is) stand = g.a_semicolon (this is.0 (last_lost is.1 stand).token)

  semicolon_shut : {words : List X} {i k : ℕ} {ds after : List ℕ} → WritesSemicolon kind added words → Stand words i k ds after → NoParenFollows toks k → NoParenFollows toks i
  semicolon_shut w.no_semicolon none c = c
  semicolon_shut (w.a_semicolon is) stand c = shut_by is.0 refl stand

  words_shut : (words : List X) {i k : ℕ} {ds after : List ℕ} → NoParenFirst kind added words → Stand words i k ds after → NoParenFollows toks k → NoParenFollows toks i
  words_shut [] shut none c = c
  words_shut (x ∷ words) shut stand c = λ paren. shut (some_is (sym (head_token stand).token.there ∙ paren))

  else_shut : {b : syntax.OptionalBlock (Bare X)} {words : List X} {i k : ℕ} {ds after : List ℕ} → WritesElse kind added b words → Stand words i k ds after → NoParenFollows toks k → NoParenFollows toks i
  else_shut w.no_else none c = c
  else_shut (w.an_else is body) stand c = shut_by is.0 refl stand

  for_step_shut : {b : syntax.OptionalExpression (Bare X)} {words : List X} {i k : ℕ} {ds after : List ℕ} → WritesForStep kind added b words → Stand words i k ds after → NoParenFollows toks k → NoParenFollows toks i
  for_step_shut w.no_for_step none c = c
  for_step_shut (w.a_for_step is e) stand c = shut_by is.0 refl stand

  operator_shut : {x : X} {words : List X} {m i k : ℕ} {ds after : List ℕ} → binary_precedence (kind x) ≡ m → 0 < m → Stand (x ∷ words) i k ds after → NoParenFollows toks i
  operator_shut {x} is pos stand = λ paren. no_operator (some_is (sym (head_token stand).token.there ∙ paren)) is pos

  steps_shut : {m : ℕ} {b : syntax.Operations (Bare X)} {words : List X} {i k : ℕ} {ds after : List ℕ} → WritesSteps kind added m b words → 0 < m → Stand words i k ds after → NoParenFollows toks i
  steps_shut (w.one_step is e) pos stand = operator_shut is.0 pos stand
  steps_shut (w.more_steps is e rest) pos stand = operator_shut is.0 pos stand

  semicolon_drops : {words : List X} {i k : ℕ} {ds after : List ℕ} → WritesSemicolon kind added words → Stand words i k ds after → between i k after ≡ ds
  semicolon_drops w.no_semicolon (none {i} {ds}) = between_none i ds
  semicolon_drops {i} {k} {after} (w.a_semicolon is) stand =
      let f = last_lost is.1 stand in
      between_one i k after (omega (arith, f.token.next)) ∙ f.is_lost

  is_lone_tree : (es : List Expr) {b : syntax.Expressions (Bare X)} {lone : Bool} → own_exprs es ≡ b → is_lone b ≡ lone → is_lone (expressions_of (map syntax_of_expr es)) ≡ lone
  is_lone_tree es same is = sym (lone_chosen (words_of says) as_here (expressions_of (map syntax_of_expr es))) ∙ ap is_lone same ∙ is

  mutual
    read_expr : {n : ℕ} {b : syntax.Expression (Bare X)} {words : List X} {i k : ℕ} {ds after : List ℕ} → WritesExpr kind added n b words → Stand words i k ds after → NoParenFollows toks k → Is (IsExpr toks n i k) own_expr drop_expr b ds after
    read_expr {i} {k} {after} (w.operand_expr w_e) stand c =
        let e = read_operand w_e stand c in
        made _ (g.operand_expr e.derived) (λ t. (e.same t)) e.drops
    read_expr {i} {k} {after} (w.chain_expr {e_words} pos le w_e w_rest) stand c =
        let p_e = part e_words _ stand in
        let e = read_expr w_e p_e.left (steps_shut w_rest pos p_e.right) in
        let rest = read_steps w_rest pos p_e.right c in
        made _ (g.chain_expr pos le e.derived rest.derived) (ap (chosen_expression (words_of says) as_here) (chain_syntax i k e.tree rest.tree) ∙ (λ t. syntax.chain tt (e.same t) (rest.same t))) (ap (λ z. dropped_expression z after) (chain_syntax i k e.tree rest.tree) ∙ (ap (drop_expr e.tree) rest.drops ∙ e.drops))

    read_steps : {m : ℕ} {b : syntax.Operations (Bare X)} {words : List X} {i k : ℕ} {ds after : List ℕ} → WritesSteps kind added m b words → 0 < m → Stand words i k ds after → NoParenFollows toks k → Is (AreSteps toks m i k) own_steps drop_steps b ds after
    read_steps {i} {k} {after} (w.one_step h_x w_e) pos stand c =
        let f_x = first h_x.1 stand in
        let e = read_expr w_e f_x.rest c in
        made _ (g.one_step f_x.token h_x.0 e.derived) (ap (λ z. syntax.more_operations (chosen_operation (words_of says) as_here z) syntax.no_operations) (step_of_syntax i e.tree) ∙ (λ t. syntax.more_operations (syntax.operation (f_x.told t) (e.same t)) syntax.no_operations)) (ap (λ z. dropped_operation z after) (step_of_syntax i e.tree) ∙ e.drops)
    read_steps {i} {k} {after} (w.more_steps {e_words} h_x w_e w_rest) pos stand c =
        let f_x = first h_x.1 stand in
        let p_e = part e_words _ f_x.rest in
        let e = read_expr w_e p_e.left (steps_shut w_rest pos p_e.right) in
        let rest = read_steps w_rest pos p_e.right c in
        made _ (g.more_steps f_x.token h_x.0 e.derived rest.derived) (ap (λ z. syntax.more_operations (chosen_operation (words_of says) as_here z) (own_steps rest.tree)) (step_of_syntax i e.tree) ∙ (λ t. syntax.more_operations (syntax.operation (f_x.told t) (e.same t)) (rest.same t))) (ap (λ z. dropped_operation z (drop_steps rest.tree after)) (step_of_syntax i e.tree) ∙ (ap (drop_expr e.tree) rest.drops ∙ e.drops))

    read_operand : {b : syntax.Expression (Bare X)} {words : List X} {i k : ℕ} {ds after : List ℕ} → WritesOperand kind added b words → Stand words i k ds after → NoParenFollows toks k → Is (IsOperand toks i k) own_expr drop_expr b ds after
    read_operand {i} {k} {after} (w.unary_operand h_x w_e) stand c =
        let f_x = first h_x.1 stand in
        let e = read_operand w_e f_x.rest c in
        made _ (g.unary_operand f_x.token h_x.0 e.derived) (ap (chosen_expression (words_of says) as_here) (unary_syntax i k e.tree) ∙ (λ t. syntax.unary tt (f_x.told t) (e.same t))) (ap (λ z. dropped_expression z after) (unary_syntax i k e.tree) ∙ e.drops)
    read_operand {i} {k} {after} (w.power_operand {e_words} w_e h_x w_exponent) stand c =
        let p_e = part e_words _ stand in
        let e = read_simple w_e p_e.left (shut_by h_x.0 refl p_e.right) in
        let f_x = first h_x.1 p_e.right in
        let exponent = read_operand w_exponent f_x.rest c in
        made _ (g.power_operand e.derived (this h_x.0 f_x.token) exponent.derived) (ap (chosen_expression (words_of says) as_here) (power_syntax i k e.tree _ exponent.tree) ∙ (λ t. syntax.power tt (e.same t) (f_x.told t) (exponent.same t))) (ap (λ z. dropped_expression z after) (power_syntax i k e.tree _ exponent.tree) ∙ (ap (drop_expr e.tree) exponent.drops ∙ e.drops))
    read_operand {i} {k} {after} (w.simple_operand w_e) stand c =
        let e = read_simple w_e stand c in
        made _ (g.simple_operand e.derived) (λ t. (e.same t)) e.drops

    read_simple : {b : syntax.Expression (Bare X)} {words : List X} {i k : ℕ} {ds after : List ℕ} → WritesSimple kind added b words → Stand words i k ds after → NoParenFollows toks k → Is (IsSimple toks i k) own_expr drop_expr b ds after
    read_simple {i} {k} {after} (w.nil_simple h_x) stand c =
        let f_x = last h_x.1 stand in
        made _ (g.nil_simple (this h_x.0 f_x.token)) (ap (chosen_expression (words_of says) as_here) (nil_syntax i k) ∙ (λ t. syntax.nil_value tt)) (ap (λ z. dropped_expression z after) (nil_syntax i k) ∙ f_x.none_lost)
    read_simple {i} {k} {after} (w.true_simple h_x) stand c =
        let f_x = last h_x.1 stand in
        made _ (g.true_simple (this h_x.0 f_x.token)) (ap (chosen_expression (words_of says) as_here) (true_syntax i k) ∙ (λ t. syntax.true_value tt)) (ap (λ z. dropped_expression z after) (true_syntax i k) ∙ f_x.none_lost)
    read_simple {i} {k} {after} (w.false_simple h_x) stand c =
        let f_x = last h_x.1 stand in
        made _ (g.false_simple (this h_x.0 f_x.token)) (ap (chosen_expression (words_of says) as_here) (false_syntax i k) ∙ (λ t. syntax.false_value tt)) (ap (λ z. dropped_expression z after) (false_syntax i k) ∙ f_x.none_lost)
    read_simple {i} {k} {after} (w.number_simple h_x) stand c =
        let f_x = last h_x.1 stand in
        made _ (g.number_simple (this h_x.0 f_x.token)) (ap (chosen_expression (words_of says) as_here) (number_syntax i k) ∙ (λ t. syntax.numeral tt (f_x.told t))) (ap (λ z. dropped_expression z after) (number_syntax i k) ∙ f_x.none_lost)
    read_simple {i} {k} {after} (w.string_simple h_x) stand c =
        let f_x = last h_x.1 stand in
        made _ (g.string_simple (as_string h_x.0 f_x.token)) (ap (chosen_expression (words_of says) as_here) (string_syntax i k) ∙ (λ t. syntax.string tt (f_x.told t))) (ap (λ z. dropped_expression z after) (string_syntax i k) ∙ f_x.none_lost)
    read_simple {i} {k} {after} (w.vararg_simple h_x) stand c =
        let f_x = last h_x.1 stand in
        made _ (g.vararg_simple (this h_x.0 f_x.token)) (ap (chosen_expression (words_of says) as_here) (vararg_syntax i k) ∙ (λ t. syntax.varargs tt)) (ap (λ z. dropped_expression z after) (vararg_syntax i k) ∙ f_x.none_lost)
    read_simple {i} {k} {after} (w.function_simple h_x w_f) stand c =
        let f_x = first h_x.1 stand in
        let f = read_func_body w_f f_x.rest in
        made _ (g.function_simple (this h_x.0 f_x.token) f.derived) (ap (chosen_expression (words_of says) as_here) (function_syntax i k f.tree) ∙ (λ t. syntax.function tt (f.same t))) (ap (λ z. dropped_expression z after) (function_syntax i k f.tree) ∙ f.drops)
    read_simple {i} {k} {after} (w.table_simple w_fields) stand c =
        let fields = read_table w_fields stand in
        made _ (g.table_simple fields.derived) (ap (chosen_expression (words_of says) as_here) (table_syntax i k fields.tree) ∙ (λ t. syntax.table tt (fields.same t))) (ap (λ z. dropped_expression z after) (table_syntax i k fields.tree) ∙ fields.drops)
    read_simple {i} {k} {after} (w.prefix_simple w_e) stand c =
        let e = read_prefix w_e stand in
        made _ (g.prefix_simple e.derived c) (λ t. (e.same t)) e.drops

    read_prefix : {b : syntax.Expression (Bare X)} {words : List X} {i k : ℕ} {ds after : List ℕ} → WritesPrefix kind added b words → Stand words i k ds after → Is (IsPrefix toks i k) own_expr drop_expr b ds after
    read_prefix {i} {k} {after} (w.variable_prefix w_e) stand =
        let e = read_variable w_e stand in
        made _ (g.variable_prefix e.derived) (λ t. (e.same t)) e.drops
    read_prefix {i} {k} {after} (w.call_prefix w_e) stand =
        let e = read_call w_e stand in
        made _ (g.call_prefix e.derived) (λ t. (e.same t)) e.drops
    read_prefix {i} {k} {after} (w.paren_prefix w_e) stand =
        let e = read_paren w_e stand in
        made _ (g.paren_prefix e.derived) (λ t. (e.same t)) e.drops

    read_variable : {b : syntax.Expression (Bare X)} {words : List X} {i k : ℕ} {ds after : List ℕ} → WritesVariable kind added b words → Stand words i k ds after → Is (IsVariable toks i k) own_expr drop_expr b ds after
    read_variable {i} {k} {after} (w.name_variable h_x) stand =
        let f_x = last h_x.1 stand in
        made _ (g.name_variable (this h_x.0 f_x.token)) (ap (chosen_expression (words_of says) as_here) (name_syntax i k) ∙ (λ t. syntax.variable tt (f_x.told t))) (ap (λ z. dropped_expression z after) (name_syntax i k) ∙ f_x.none_lost)
    read_variable {i} {k} {after} (w.suffixed_variable {e_words} w_e w_suffixes) stand =
        let p_e = part e_words _ stand in
        let e = read_head w_e p_e.left in
        let suffixes = read_suffixes w_suffixes p_e.right in
        made _ (g.suffixed_variable e.derived suffixes.derived) (ap (chosen_expression (words_of says) as_here) (suffixed_syntax i k e.tree suffixes.tree) ∙ (λ t. syntax.suffixed tt (e.same t) (suffixes.same t))) (ap (λ z. dropped_expression z after) (suffixed_syntax i k e.tree suffixes.tree) ∙ (ap (drop_expr e.tree) suffixes.drops ∙ e.drops))

    read_call : {b : syntax.Expression (Bare X)} {words : List X} {i k : ℕ} {ds after : List ℕ} → WritesCall kind added b words → Stand words i k ds after → Is (IsCall toks i k) own_expr drop_expr b ds after
    read_call {i} {k} {after} (w.suffixed_call {e_words} w_e w_suffixes) stand =
        let p_e = part e_words _ stand in
        let e = read_head w_e p_e.left in
        let suffixes = read_suffixes w_suffixes p_e.right in
        made _ (g.suffixed_call e.derived suffixes.derived) (ap (chosen_expression (words_of says) as_here) (suffixed_syntax i k e.tree suffixes.tree) ∙ (λ t. syntax.suffixed tt (e.same t) (suffixes.same t))) (ap (λ z. dropped_expression z after) (suffixed_syntax i k e.tree suffixes.tree) ∙ (ap (drop_expr e.tree) suffixes.drops ∙ e.drops))

    read_paren : {b : syntax.Expression (Bare X)} {words : List X} {i k : ℕ} {ds after : List ℕ} → WritesParen kind added b words → Stand words i k ds after → Is (IsParen toks i k) own_expr drop_expr b ds after
    read_paren {i} {k} {after} (w.paren {e_words} h_l w_e h_r) stand =
        let f_l = first h_l.1 stand in
        let p_e = part e_words _ f_l.rest in
        let e = read_expr w_e p_e.left (shut_by h_r.0 refl p_e.right) in
        let f_r = last h_r.1 p_e.right in
        made _ (g.paren (this h_l.0 f_l.token) e.derived (this h_r.0 f_r.token)) (ap (chosen_expression (words_of says) as_here) (paren_syntax i k e.tree) ∙ (λ t. syntax.parenthesised tt (e.same t))) (ap (λ z. dropped_expression z after) (paren_syntax i k e.tree) ∙ (ap (drop_expr e.tree) f_r.none_lost ∙ e.drops))

    read_head : {b : syntax.Expression (Bare X)} {words : List X} {i k : ℕ} {ds after : List ℕ} → WritesHead kind added b words → Stand words i k ds after → Is (IsHead toks i k) own_expr drop_expr b ds after
    read_head {i} {k} {after} (w.name_head h_x) stand =
        let f_x = last h_x.1 stand in
        made _ (g.name_head (this h_x.0 f_x.token)) (ap (chosen_expression (words_of says) as_here) (name_syntax i k) ∙ (λ t. syntax.variable tt (f_x.told t))) (ap (λ z. dropped_expression z after) (name_syntax i k) ∙ f_x.none_lost)
    read_head {i} {k} {after} (w.paren_head w_e) stand =
        let e = read_paren w_e stand in
        made _ (g.paren_head e.derived) (λ t. (e.same t)) e.drops

    read_suffixes : {calls : Bool} {b : syntax.Suffixes (Bare X)} {words : List X} {i k : ℕ} {ds after : List ℕ} → WritesSuffixes kind added calls b words → Stand words i k ds after → Is (AreSuffixes toks calls i k) own_all_suffixes drop_suffixes b ds after
    read_suffixes {i} {k} {after} (w.one_suffix w_s) stand =
        let s = read_suffix w_s stand in
        made _ (g.one_suffix s.derived) (λ t. syntax.more_suffixes (s.same t) syntax.no_suffixes) s.drops
    read_suffixes {i} {k} {after} (w.more_suffixes {s_words} w_s w_rest) stand =
        let p_s = part s_words _ stand in
        let s = read_suffix w_s p_s.left in
        let rest = read_suffixes w_rest p_s.right in
        made _ (g.more_suffixes s.derived rest.derived) (λ t. syntax.more_suffixes (s.same t) (rest.same t)) (ap (drop_suffix s.tree) rest.drops ∙ s.drops)

    read_suffix : {calls : Bool} {b : syntax.Suffix (Bare X)} {words : List X} {i k : ℕ} {ds after : List ℕ} → WritesSuffix kind added calls b words → Stand words i k ds after → Is (IsSuffix toks calls i k) own_a_suffix drop_suffix b ds after
    read_suffix {i} {k} {after} (w.dot_suffix h_d h_x) stand =
        let f_d = first h_d.1 stand in
        let f_x = last h_x.1 f_d.rest in
        made _ (g.dot_suffix (this h_d.0 f_d.token) (this h_x.0 f_x.token)) (ap (chosen_suffix (words_of says) as_here) (dot_syntax _) ∙ (λ t. syntax.name_suffix (f_x.told t))) (ap (λ z. dropped_suffix z after) (dot_syntax _) ∙ f_x.none_lost)
    read_suffix {i} {k} {after} (w.index_suffix {e_words} h_l w_e h_r) stand =
        let f_l = first h_l.1 stand in
        let p_e = part e_words _ f_l.rest in
        let e = read_expr w_e p_e.left (shut_by h_r.0 refl p_e.right) in
        let f_r = last h_r.1 p_e.right in
        made _ (g.index_suffix (this h_l.0 f_l.token) e.derived (this h_r.0 f_r.token)) (ap (chosen_suffix (words_of says) as_here) (index_syntax e.tree) ∙ (λ t. syntax.index_suffix (e.same t))) (ap (λ z. dropped_suffix z after) (index_syntax e.tree) ∙ (ap (drop_expr e.tree) f_r.none_lost ∙ e.drops))
    read_suffix {i} {k} {after} (w.call_suffix w_args) stand =
        let args = read_args w_args stand in
        made _ (g.call_suffix args.derived) (ap (chosen_suffix (words_of says) as_here) (call_suffix_syntax args.tree) ∙ (λ t. syntax.call_suffix (args.same t))) (ap (λ z. dropped_suffix z after) (call_suffix_syntax args.tree) ∙ args.drops)
    read_suffix {i} {k} {after} (w.method_suffix h_c h_x w_args) stand =
        let f_c = first h_c.1 stand in
        let f_x = first h_x.1 f_c.rest in
        let args = read_args w_args f_x.rest in
        made _ (g.method_suffix (this h_c.0 f_c.token) (this h_x.0 f_x.token) args.derived) (ap (chosen_suffix (words_of says) as_here) (method_syntax _ args.tree) ∙ (λ t. syntax.method_suffix (f_x.told t) (args.same t))) (ap (λ z. dropped_suffix z after) (method_syntax _ args.tree) ∙ args.drops)

    read_args : {b : syntax.Arguments (Bare X)} {words : List X} {i k : ℕ} {ds after : List ℕ} → WritesArgs kind added b words → Stand words i k ds after → Is (IsArgs toks i k) own_args drop_args b ds after
    read_args {i} {k} {after} (w.no_args h_l h_r) stand =
        let f_l = first h_l.1 stand in
        let f_r = last h_r.1 f_l.rest in
        made _ (g.no_args (this h_l.0 f_l.token) (this h_r.0 f_r.token)) (ap (chosen_arguments (words_of says) as_here) (args_of_syntax i k true []) ∙ (λ t. syntax.arguments tt true syntax.no_expressions)) (ap (λ z. dropped_arguments z after) (args_of_syntax i k true []) ∙ f_r.none_lost)
    read_args {i} {k} {after} (w.list_args {es_words} h_l w_es h_r lone) stand =
        let f_l = first h_l.1 stand in
        let p_es = part es_words _ f_l.rest in
        let es = read_exprs w_es p_es.left (shut_by h_r.0 refl p_es.right) in
        let f_r = last h_r.1 p_es.right in
        made _ (g.list_args (this h_l.0 f_l.token) es.derived (this h_r.0 f_r.token)) (ap (chosen_arguments (words_of says) as_here) (args_of_syntax i k true es.tree) ∙ (λ t. syntax.arguments tt true (es.same t))) (ap (λ z. dropped_arguments z after) (args_of_syntax i k true es.tree) ∙ ap (λ z. if_dropped z i (drop_exprs es.tree (if_dropped z (k - 1) after))) (is_lone_tree es.tree es.same lone) ∙ (ap (drop_exprs es.tree) f_r.none_lost ∙ es.drops))
    read_args {i} {k} {after} (w.lone_args {es_words} h_l w_es h_r lone) stand =
        let f_l = first_lost h_l.1 stand in
        let p_es = part es_words _ f_l.rest in
        let es = read_exprs w_es p_es.left (shut_by h_r.0 refl p_es.right) in
        let f_r = last_lost h_r.1 p_es.right in
        made _ (g.list_args (this h_l.0 f_l.token) es.derived (this h_r.0 f_r.token)) (ap (chosen_arguments (words_of says) as_here) (args_of_syntax i k true es.tree) ∙ (λ t. syntax.arguments tt true (es.same t))) (ap (λ z. dropped_arguments z after) (args_of_syntax i k true es.tree) ∙ ap (λ z. if_dropped z i (drop_exprs es.tree (if_dropped z (k - 1) after))) (is_lone_tree es.tree es.same lone) ∙ ap (λ z. i ∷ drop_exprs es.tree (z ∷ after)) (place_before f_r.token.next) ∙ ap (λ z. i ∷ drop_exprs es.tree z) f_r.is_lost ∙ ap (λ z. i ∷ z) es.drops ∙ f_l.is_lost)
    read_args {i} {k} {after} (w.string_args h_x) stand =
        let f_x = last h_x.1 stand in
        made _ (g.string_args (as_string h_x.0 f_x.token)) (ap (chosen_arguments (words_of says) as_here) (args_of_syntax i k false (expression i k expr.Str ∷ [])) ∙ ap (λ z. syntax.arguments tt false (syntax.more_expressions (chosen_expression (words_of says) as_here z) syntax.no_expressions)) (string_syntax i k) ∙ (λ t. syntax.arguments tt false (syntax.more_expressions (syntax.string tt (f_x.told t)) syntax.no_expressions))) (ap (λ z. dropped_arguments z after) (args_of_syntax i k false (expression i k expr.Str ∷ [])) ∙ ap (λ z. dropped_expression z after) (string_syntax i k) ∙ f_x.none_lost)
    read_args {i} {k} {after} (w.table_args w_fields) stand =
        let fields = read_table w_fields stand in
        made _ (g.table_args fields.derived) (ap (chosen_arguments (words_of says) as_here) (args_of_syntax i k false (expression i k (expr.Table fields.tree) ∷ [])) ∙ ap (λ z. syntax.arguments tt false (syntax.more_expressions (chosen_expression (words_of says) as_here z) syntax.no_expressions)) (table_syntax i k fields.tree) ∙ (λ t. syntax.arguments tt false (syntax.more_expressions (syntax.table tt (fields.same t)) syntax.no_expressions))) (ap (λ z. dropped_arguments z after) (args_of_syntax i k false (expression i k (expr.Table fields.tree) ∷ [])) ∙ ap (λ z. dropped_expression z after) (table_syntax i k fields.tree) ∙ fields.drops)

    read_exprs : {b : syntax.Expressions (Bare X)} {words : List X} {i k : ℕ} {ds after : List ℕ} → WritesExprs kind added b words → Stand words i k ds after → NoParenFollows toks k → Is (AreExprs toks i k) own_exprs drop_exprs b ds after
    read_exprs {i} {k} {after} (w.one_expr w_e) stand c =
        let e = read_expr w_e stand c in
        made _ (g.one_expr e.derived) (λ t. syntax.more_expressions (e.same t) syntax.no_expressions) e.drops
    read_exprs {i} {k} {after} (w.more_exprs {e_words} w_e h_c w_es) stand c =
        let p_e = part e_words _ stand in
        let e = read_expr w_e p_e.left (shut_by h_c.0 refl p_e.right) in
        let f_c = first h_c.1 p_e.right in
        let es = read_exprs w_es f_c.rest c in
        made _ (g.more_exprs e.derived (this h_c.0 f_c.token) es.derived) (λ t. syntax.more_expressions (e.same t) (es.same t)) (ap (drop_expr e.tree) es.drops ∙ e.drops)

    read_table : {b : syntax.Fields (Bare X)} {words : List X} {i k : ℕ} {ds after : List ℕ} → WritesTable kind added b words → Stand words i k ds after → Is (IsTable toks i k) own_all_fields (drop_fields (k - 1)) b ds after
    read_table {i} {k} {after} (w.table {fields_words} h_l w_fields h_r) stand =
        let f_l = first h_l.1 stand in
        let p_fields = part fields_words _ f_l.rest in
        let fields = read_fields w_fields p_fields.left (shut_by h_r.0 refl p_fields.right) in
        let f_r = last h_r.1 p_fields.right in
        made _ (g.table (this h_l.0 f_l.token) fields.derived (this h_r.0 f_r.token)) (λ t. (fields.same t)) (ap (λ z. drop_fields z fields.tree after) (place_before f_r.token.next) ∙ (ap ((drop_fields p_fields.place) fields.tree) f_r.none_lost ∙ fields.drops))

    read_fields : {b : syntax.Fields (Bare X)} {words : List X} {i k : ℕ} {ds after : List ℕ} → WritesFields kind added b words → Stand words i k ds after → NoParenFollows toks k → Is (AreFields toks i k) own_all_fields (drop_fields k) b ds after
    read_fields w.no_fields none c =
        made _ g.no_fields (λ t. syntax.no_fields) refl
    read_fields {i} {k} {after} (w.last_field w_f) stand c =
        let f = read_field w_f stand c in
        made _ (g.last_field f.derived) (λ t. syntax.more_fields (f.same t) syntax.no_fields) (ap (λ z. drop_field f.tree (between z k after)) (field_end f.derived) ∙ ap (drop_field f.tree) (between_none k after) ∙ f.drops)
    read_fields {i} {k} {after} (w.more_fields {f_words} w_f h_c w_fields) stand c =
        let p_f = part f_words _ stand in
        let f = read_field w_f p_f.left (shut_by_one h_c.0 refl refl p_f.right) in
        let f_c = first_lost h_c.1 p_f.right in
        let fields = read_fields w_fields f_c.rest c in
        made _ (g.more_fields f.derived (as_one h_c.0 f_c.token) fields.derived) (λ t. syntax.more_fields (f.same t) (fields.same t)) (ap (λ z. drop_field f.tree (between z k (drop_fields k fields.tree after))) (field_end f.derived) ∙ ap (drop_field f.tree) (between_one p_f.place k (drop_fields k fields.tree after) (omega (arith, f_c.token.next, stand_le f_c.rest)) ∙ ap (λ z. p_f.place ∷ z) fields.drops ∙ f_c.is_lost) ∙ f.drops)

    read_field : {b : syntax.Field (Bare X)} {words : List X} {i k : ℕ} {ds after : List ℕ} → WritesField kind added b words → Stand words i k ds after → NoParenFollows toks k → Is (IsField toks i k) own_a_field drop_field b ds after
    read_field {i} {k} {after} (w.keyed_field {key_words} h_l w_key h_r h_a w_value) stand c =
        let f_l = first h_l.1 stand in
        let p_key = part key_words _ f_l.rest in
        let key = read_expr w_key p_key.left (shut_by h_r.0 refl p_key.right) in
        let f_r = first h_r.1 p_key.right in
        let f_a = first h_a.1 f_r.rest in
        let value = read_expr w_value f_a.rest c in
        made _ (g.keyed_field (this h_l.0 f_l.token) key.derived (this h_r.0 f_r.token) (this h_a.0 f_a.token) value.derived) (ap (chosen_field (words_of says) as_here) (keyed_syntax key.tree value.tree) ∙ (λ t. syntax.keyed_field (key.same t) (value.same t))) (ap (λ z. dropped_field z after) (keyed_syntax key.tree value.tree) ∙ (ap (drop_expr key.tree) value.drops ∙ key.drops))
    read_field {i} {k} {after} (w.named_field h_x h_a w_value) stand c =
        let f_x = first h_x.1 stand in
        let f_a = first h_a.1 f_x.rest in
        let value = read_expr w_value f_a.rest c in
        made _ (g.named_field (this h_x.0 f_x.token) (this h_a.0 f_a.token) value.derived) (ap (chosen_field (words_of says) as_here) (named_syntax _ value.tree) ∙ (λ t. syntax.named_field (f_x.told t) (value.same t))) (ap (λ z. dropped_field z after) (named_syntax _ value.tree) ∙ value.drops)
    read_field {i} {k} {after} (w.item_field w_e) stand c =
        let e = read_expr w_e stand c in
        made _ (g.item_field e.derived) (ap (chosen_field (words_of says) as_here) (item_syntax e.tree) ∙ (λ t. syntax.item_field (e.same t))) (ap (λ z. dropped_field z after) (item_syntax e.tree) ∙ e.drops)

    read_func_body : {b : syntax.FunctionBody (Bare X)} {words : List X} {i k : ℕ} {ds after : List ℕ} → WritesFuncBody kind added b words → Stand words i k ds after → Is (IsFuncBody toks i k) own_body drop_body b ds after
    read_func_body {i} {k} {after} (w.func_body {vararg} {left} {right} {end_word} {params} {body = b} {params_words} {body_words} h_l w_params h_r w_body h_z) stand =
        let f_l = first h_l.1 stand in
        let p_params = part params_words (right ∷ (body_words ++ end_word ∷ [])) f_l.rest in
        let params = read_params w_params p_params.left in
        let f_r = first h_r.1 p_params.right in
        let p_body = part body_words _ f_r.rest in
        let body = read_block w_body p_body.left (shut_by h_z.0 refl p_body.right) in
        let f_z = last h_z.1 p_body.right in
        made _ (g.func_body (this h_l.0 f_l.token) params.derived (this h_r.0 f_r.token) body.derived (this h_z.0 f_z.token)) (ap (chosen_function_body (words_of says) as_here) (body_of_syntax i k params.tree vararg body.tree) ∙ (λ t. syntax.function_body tt (params.same t) vararg (body.same t))) (ap (λ z. dropped_body z after) (body_of_syntax i k params.tree vararg body.tree) ∙ ((ap (drop_block body.tree) f_z.none_lost ∙ body.drops) ∙ params.drops))

    pub read_block : {b : syntax.Block (Bare X)} {words : List X} {i k : ℕ} {ds after : List ℕ} → WritesBlock kind added b words → Stand words i k ds after → NoParenFollows toks k → Is (IsBlock toks i k) own_a_block drop_block b ds after
    read_block {i} {k} {after} (w.block w_stats) stand c =
        let stats = read_stats w_stats stand c in
        made _ (g.block stats.derived) (ap (chosen_block (words_of says) as_here) (block_of_syntax i k stats.tree) ∙ (λ t. syntax.block tt (stats.same t))) (ap (λ z. dropped_block z after) (block_of_syntax i k stats.tree) ∙ stats.drops)

    read_stats : {b : syntax.Statements (Bare X)} {words : List X} {i k : ℕ} {ds after : List ℕ} → WritesStats kind added b words → Stand words i k ds after → NoParenFollows toks k → Is (AreStats toks i k) own_stats drop_stats b ds after
    read_stats w.no_stats none c =
        made _ g.no_stats (λ t. syntax.no_statements) refl
    read_stats {i} {k} {after} (w.last_stat w_s) stand c =
        let s = read_return w_s stand c in
        made _ (g.last_stat s.derived) (λ t. before (s.same t) syntax.no_statements) s.drops
    read_stats {i} {k} {after} (w.empty_stat h_x w_stats) stand c =
        let f_x = first_lost h_x.1 stand in
        let stats = read_stats w_stats f_x.rest c in
        made _ (g.more_stats (g.empty_stat (this h_x.0 f_x.token)) stats.derived) (ap (λ z. before (chosen_statement (words_of says) as_here z) (own_stats stats.tree)) (empty_syntax i f_x.place) ∙ stats.same) (ap (λ z. dropped_statement z (drop_stats stats.tree after)) (empty_syntax i f_x.place) ∙ ap (λ z. i ∷ z) stats.drops ∙ f_x.is_lost)
    read_stats {i} {k} {after} (w.more_stats {s_words} {stats_words} w_s shut_words w_stats) stand c =
        let p_s = part s_words _ stand in
        let s = read_stat w_s p_s.left (words_shut stats_words shut_words p_s.right c) in
        let stats = read_stats w_stats p_s.right c in
        made _ (g.more_stats s.derived stats.derived) (λ t. before (s.same t) (stats.same t)) (ap (drop_stat s.tree) stats.drops ∙ s.drops)

    read_return : {b : syntax.Statement (Bare X)} {words : List X} {i k : ℕ} {ds after : List ℕ} → WritesReturn kind added b words → Stand words i k ds after → NoParenFollows toks k → Is (IsReturn toks i k) own_stat drop_stat (Some b) ds after
    read_return {i} {k} {after} (w.return_nothing h_x w_y) stand c =
        let f_x = first h_x.1 stand in
        made _ (g.return_nothing (this h_x.0 f_x.token) (read_semicolon w_y f_x.rest)) (ap (chosen_statement (words_of says) as_here) (return_syntax i k []) ∙ (λ t. Some (syntax.return_statement tt syntax.no_expressions))) (ap (λ z. dropped_statement z after) (return_syntax i k []) ∙ ap (λ z. between z k after) (sym f_x.token.next) ∙ semicolon_drops w_y f_x.rest)
    read_return {i} {k} {after} (w.return_values {es_words} h_x w_es w_y) stand c =
        let f_x = first h_x.1 stand in
        let p_es = part es_words _ f_x.rest in
        let es = read_exprs w_es p_es.left (semicolon_shut w_y p_es.right c) in
        made _ (g.return_values (this h_x.0 f_x.token) es.derived (read_semicolon w_y p_es.right)) (ap (chosen_statement (words_of says) as_here) (return_syntax i k es.tree) ∙ (λ t. Some (syntax.return_statement tt (es.same t)))) (ap (λ z. dropped_statement z after) (return_syntax i k es.tree) ∙ ap (λ z. drop_exprs es.tree (between z k after)) (exprs_end (i + 1) es.derived) ∙ ap (drop_exprs es.tree) (semicolon_drops w_y p_es.right) ∙ es.drops)

    read_stat : {b : syntax.Statement (Bare X)} {words : List X} {i k : ℕ} {ds after : List ℕ} → WritesStat kind added b words → Stand words i k ds after → NoParenFollows toks k → Is (IsStat toks i k) own_stat drop_stat (Some b) ds after
    read_stat {i} {k} {after} (w.local_stat h_x w_declared) stand c =
        let f_x = first h_x.1 stand in
        let declared = read_declared w_declared f_x.rest in
        made _ (g.local_stat (this h_x.0 f_x.token) declared.derived) (ap (chosen_statement (words_of says) as_here) (local_syntax i k declared.tree []) ∙ (λ t. Some (syntax.local_statement tt (declared.same t) syntax.no_expressions))) (ap (λ z. dropped_statement z after) (local_syntax i k declared.tree []) ∙ declared.drops)
    read_stat {i} {k} {after} (w.local_values_stat {declared_words} h_x w_declared h_a w_es) stand c =
        let f_x = first h_x.1 stand in
        let p_declared = part declared_words _ f_x.rest in
        let declared = read_declared w_declared p_declared.left in
        let f_a = first h_a.1 p_declared.right in
        let es = read_exprs w_es f_a.rest c in
        made _ (g.local_values_stat (this h_x.0 f_x.token) declared.derived (this h_a.0 f_a.token) es.derived) (ap (chosen_statement (words_of says) as_here) (local_syntax i k declared.tree es.tree) ∙ (λ t. Some (syntax.local_statement tt (declared.same t) (es.same t)))) (ap (λ z. dropped_statement z after) (local_syntax i k declared.tree es.tree) ∙ (es.drops ∙ declared.drops))
    read_stat {i} {k} {after} (w.assign_stat {targets_words} w_targets h_a w_es) stand c =
        let p_targets = part targets_words _ stand in
        let targets = read_targets w_targets p_targets.left in
        let f_a = first h_a.1 p_targets.right in
        let es = read_exprs w_es f_a.rest c in
        made _ (g.assign_stat targets.derived (this h_a.0 f_a.token) es.derived) (ap (chosen_statement (words_of says) as_here) (assign_syntax i k targets.tree es.tree) ∙ (λ t. Some (syntax.assignment tt (targets.same t) (es.same t)))) (ap (λ z. dropped_statement z after) (assign_syntax i k targets.tree es.tree) ∙ (ap (drop_exprs targets.tree) es.drops ∙ targets.drops))
    read_stat {i} {k} {after} (w.call_stat w_e) stand c =
        let e = read_call w_e stand in
        made _ (g.call_stat e.derived c) (ap (chosen_statement (words_of says) as_here) (call_syntax i k e.tree) ∙ (λ t. Some (syntax.call_statement tt (e.same t)))) (ap (λ z. dropped_statement z after) (call_syntax i k e.tree) ∙ e.drops)
    read_stat {i} {k} {after} (w.do_stat {body_words} h_x w_body h_z) stand c =
        let f_x = first h_x.1 stand in
        let p_body = part body_words _ f_x.rest in
        let body = read_block w_body p_body.left (shut_by h_z.0 refl p_body.right) in
        let f_z = last h_z.1 p_body.right in
        made _ (g.do_stat (this h_x.0 f_x.token) body.derived (this h_z.0 f_z.token)) (ap (chosen_statement (words_of says) as_here) (do_syntax i k body.tree) ∙ (λ t. Some (syntax.do_statement tt (body.same t)))) (ap (λ z. dropped_statement z after) (do_syntax i k body.tree) ∙ (ap (drop_block body.tree) f_z.none_lost ∙ body.drops))
    read_stat {i} {k} {after} (w.while_stat {e_words} {body_words} h_x w_e h_y w_body h_z) stand c =
        let f_x = first h_x.1 stand in
        let p_e = part e_words _ f_x.rest in
        let e = read_expr w_e p_e.left (shut_by h_y.0 refl p_e.right) in
        let f_y = first h_y.1 p_e.right in
        let p_body = part body_words _ f_y.rest in
        let body = read_block w_body p_body.left (shut_by h_z.0 refl p_body.right) in
        let f_z = last h_z.1 p_body.right in
        made _ (g.while_stat (this h_x.0 f_x.token) e.derived (this h_y.0 f_y.token) body.derived (this h_z.0 f_z.token)) (ap (chosen_statement (words_of says) as_here) (while_syntax i k e.tree body.tree) ∙ (λ t. Some (syntax.while_statement tt (e.same t) (body.same t)))) (ap (λ z. dropped_statement z after) (while_syntax i k e.tree body.tree) ∙ (ap (drop_expr e.tree) (ap (drop_block body.tree) f_z.none_lost ∙ body.drops) ∙ e.drops))
    read_stat {i} {k} {after} (w.repeat_stat {body_words} h_x w_body h_y w_e) stand c =
        let f_x = first h_x.1 stand in
        let p_body = part body_words _ f_x.rest in
        let body = read_block w_body p_body.left (shut_by h_y.0 refl p_body.right) in
        let f_y = first h_y.1 p_body.right in
        let e = read_expr w_e f_y.rest c in
        made _ (g.repeat_stat (this h_x.0 f_x.token) body.derived (this h_y.0 f_y.token) e.derived) (ap (chosen_statement (words_of says) as_here) (repeat_syntax i k body.tree e.tree) ∙ (λ t. Some (syntax.repeat_statement tt (body.same t) (e.same t)))) (ap (λ z. dropped_statement z after) (repeat_syntax i k body.tree e.tree) ∙ (ap (drop_block body.tree) e.drops ∙ body.drops))
    read_stat {i} {k} {after} (w.if_stat {arms_words} {other_words} h_x w_arms w_other h_z) stand c =
        let f_x = first h_x.1 stand in
        let p_arms = part arms_words _ f_x.rest in
        let p_other = part other_words _ p_arms.right in
        let arms = read_arms w_arms p_arms.left (else_shut w_other p_other.left (shut_by h_z.0 refl p_other.right)) in
        let other = read_else w_other p_other.left (shut_by h_z.0 refl p_other.right) in
        let f_z = last h_z.1 p_other.right in
        made _ (g.if_stat (this h_x.0 f_x.token) arms.derived other.derived (this h_z.0 f_z.token)) (ap (chosen_statement (words_of says) as_here) (if_syntax i k arms.tree other.tree) ∙ (λ t. Some (syntax.if_statement tt (arms.same t) (other.same t)))) (ap (λ z. dropped_statement z after) (if_syntax i k arms.tree other.tree) ∙ (ap (drop_arms arms.tree) (ap (drop_else other.tree) f_z.none_lost ∙ other.drops) ∙ arms.drops))
    read_stat {i} {k} {after} (w.for_stat {start_words} {limit_words} {step_words} {body_words} h_x h_name h_a w_start h_c w_limit w_step h_y w_body h_z) stand c =
        let f_x = first h_x.1 stand in
        let f_name = first h_name.1 f_x.rest in
        let f_a = first h_a.1 f_name.rest in
        let p_start = part start_words _ f_a.rest in
        let start = read_expr w_start p_start.left (shut_by h_c.0 refl p_start.right) in
        let f_c = first h_c.1 p_start.right in
        let p_limit = part limit_words _ f_c.rest in
        let p_step = part step_words _ p_limit.right in
        let limit = read_expr w_limit p_limit.left (for_step_shut w_step p_step.left (shut_by h_y.0 refl p_step.right)) in
        let step = read_for_step w_step p_step.left (shut_by h_y.0 refl p_step.right) in
        let f_y = first h_y.1 p_step.right in
        let p_body = part body_words _ f_y.rest in
        let body = read_block w_body p_body.left (shut_by h_z.0 refl p_body.right) in
        let f_z = last h_z.1 p_body.right in
        made _ (g.for_stat (this h_x.0 f_x.token) (this h_name.0 f_name.token) (this h_a.0 f_a.token) start.derived (this h_c.0 f_c.token) limit.derived step.derived (this h_y.0 f_y.token) body.derived (this h_z.0 f_z.token)) (ap (chosen_statement (words_of says) as_here) (for_syntax i k _ start.tree limit.tree step.tree body.tree) ∙ (λ t. Some (syntax.for_statement tt (f_name.told t) (start.same t) (limit.same t) (step.same t) (body.same t)))) (ap (λ z. dropped_statement z after) (for_syntax i k _ start.tree limit.tree step.tree body.tree) ∙ (ap (drop_expr start.tree) (ap (drop_expr limit.tree) (ap (drop_for_step step.tree) (ap (drop_block body.tree) f_z.none_lost ∙ body.drops) ∙ step.drops) ∙ limit.drops) ∙ start.drops))
    read_stat {i} {k} {after} (w.for_in_stat {names_words} {es_words} {body_words} h_x w_names h_y w_es h_d w_body h_z) stand c =
        let f_x = first h_x.1 stand in
        let p_names = part names_words _ f_x.rest in
        let names = read_names w_names p_names.left in
        let f_y = first h_y.1 p_names.right in
        let p_es = part es_words _ f_y.rest in
        let es = read_exprs w_es p_es.left (shut_by h_d.0 refl p_es.right) in
        let f_d = first h_d.1 p_es.right in
        let p_body = part body_words _ f_d.rest in
        let body = read_block w_body p_body.left (shut_by h_z.0 refl p_body.right) in
        let f_z = last h_z.1 p_body.right in
        made _ (g.for_in_stat (this h_x.0 f_x.token) names.derived (this h_y.0 f_y.token) es.derived (this h_d.0 f_d.token) body.derived (this h_z.0 f_z.token)) (ap (chosen_statement (words_of says) as_here) (for_in_syntax i k names.tree es.tree body.tree) ∙ (λ t. Some (syntax.for_in_statement tt (names.same t) (es.same t) (body.same t)))) (ap (λ z. dropped_statement z after) (for_in_syntax i k names.tree es.tree body.tree) ∙ ((ap (drop_exprs es.tree) (ap (drop_block body.tree) f_z.none_lost ∙ body.drops) ∙ es.drops) ∙ names.drops))
    read_stat {i} {k} {after} (w.function_stat {path_words} {method_words} h_x w_path w_method w_f) stand c =
        let f_x = first h_x.1 stand in
        let p_path = part path_words _ f_x.rest in
        let path = read_path w_path p_path.left in
        let p_method = part method_words _ p_path.right in
        let method = read_method w_method p_method.left in
        let f = read_func_body w_f p_method.right in
        made _ (g.function_stat (this h_x.0 f_x.token) path.derived method.derived f.derived) (ap (chosen_statement (words_of says) as_here) (function_stat_syntax i k path.tree method.tree f.tree) ∙ (λ t. Some (syntax.function_statement tt (first_says path.tree t) (rest_says path.tree t) (own_name_if_there method.tree) (own_body f.tree))) ∙ (λ t. Some (syntax.function_statement tt (first_of_path (path.same t)) (rest_of_path (path.same t)) (method.same t) (f.same t)))) (ap (λ z. dropped_statement z after) (function_stat_syntax i k path.tree method.tree f.tree) ∙ ((f.drops ∙ method.drops) ∙ path.drops))
    read_stat {i} {k} {after} (w.local_function_stat h_x h_y h_name w_f) stand c =
        let f_x = first h_x.1 stand in
        let f_y = first h_y.1 f_x.rest in
        let f_name = first h_name.1 f_y.rest in
        let f = read_func_body w_f f_name.rest in
        made _ (g.local_function_stat (this h_x.0 f_x.token) (this h_y.0 f_y.token) (this h_name.0 f_name.token) f.derived) (ap (chosen_statement (words_of says) as_here) (local_function_syntax i k _ f.tree) ∙ (λ t. Some (syntax.local_function_statement tt (f_name.told t) (f.same t)))) (ap (λ z. dropped_statement z after) (local_function_syntax i k _ f.tree) ∙ f.drops)
    read_stat {i} {k} {after} (w.label_stat h_x h_name h_y) stand c =
        let f_x = first h_x.1 stand in
        let f_name = first h_name.1 f_x.rest in
        let f_y = last h_y.1 f_name.rest in
        made _ (g.label_stat (this h_x.0 f_x.token) (this h_name.0 f_name.token) (this h_y.0 f_y.token)) (ap (chosen_statement (words_of says) as_here) (label_syntax i k _) ∙ (λ t. Some (syntax.label tt (f_name.told t)))) (ap (λ z. dropped_statement z after) (label_syntax i k _) ∙ f_y.none_lost)
    read_stat {i} {k} {after} (w.goto_stat h_x h_name) stand c =
        let f_x = first h_x.1 stand in
        let f_name = last h_name.1 f_x.rest in
        made _ (g.goto_stat (this h_x.0 f_x.token) (this h_name.0 f_name.token)) (ap (chosen_statement (words_of says) as_here) (goto_syntax i k _) ∙ (λ t. Some (syntax.goto_statement tt (f_name.told t)))) (ap (λ z. dropped_statement z after) (goto_syntax i k _) ∙ f_name.none_lost)
    read_stat {i} {k} {after} (w.break_stat h_x) stand c =
        let f_x = last h_x.1 stand in
        made _ (g.break_stat (this h_x.0 f_x.token)) (ap (chosen_statement (words_of says) as_here) (break_syntax i k) ∙ (λ t. Some (syntax.break_statement tt))) (ap (λ z. dropped_statement z after) (break_syntax i k) ∙ f_x.none_lost)

    read_targets : {b : syntax.Expressions (Bare X)} {words : List X} {i k : ℕ} {ds after : List ℕ} → WritesTargets kind added b words → Stand words i k ds after → Is (AreTargets toks i k) own_exprs drop_exprs b ds after
    read_targets {i} {k} {after} (w.one_target w_e) stand =
        let e = read_variable w_e stand in
        made _ (g.one_target e.derived) (λ t. syntax.more_expressions (e.same t) syntax.no_expressions) e.drops
    read_targets {i} {k} {after} (w.more_targets {e_words} w_e h_c w_targets) stand =
        let p_e = part e_words _ stand in
        let e = read_variable w_e p_e.left in
        let f_c = first h_c.1 p_e.right in
        let targets = read_targets w_targets f_c.rest in
        made _ (g.more_targets e.derived (this h_c.0 f_c.token) targets.derived) (λ t. syntax.more_expressions (e.same t) (targets.same t)) (ap (drop_expr e.tree) targets.drops ∙ e.drops)

    read_arm : {b : syntax.Arm (Bare X)} {words : List X} {i k : ℕ} {ds after : List ℕ} → WritesArm kind added b words → Stand words i k ds after → NoParenFollows toks k → Is (IsArm toks i k) own_an_arm drop_arm b ds after
    read_arm {i} {k} {after} (w.arm {e_words} w_e h_x w_body) stand c =
        let p_e = part e_words _ stand in
        let e = read_expr w_e p_e.left (shut_by h_x.0 refl p_e.right) in
        let f_x = first h_x.1 p_e.right in
        let body = read_block w_body f_x.rest c in
        made _ (g.arm e.derived (this h_x.0 f_x.token) body.derived) (ap (chosen_arm (words_of says) as_here) (arm_of_syntax e.tree body.tree) ∙ (λ t. syntax.arm (e.same t) (body.same t))) (ap (λ z. dropped_arm z after) (arm_of_syntax e.tree body.tree) ∙ (ap (drop_expr e.tree) body.drops ∙ e.drops))

    read_arms : {b : syntax.Arms (Bare X)} {words : List X} {i k : ℕ} {ds after : List ℕ} → WritesArms kind added b words → Stand words i k ds after → NoParenFollows toks k → Is (AreArms toks i k) own_all_arms drop_arms b ds after
    read_arms {i} {k} {after} (w.one_arm w_head) stand c =
        let head = read_arm w_head stand c in
        made _ (g.one_arm head.derived) (λ t. syntax.more_arms (head.same t) syntax.no_arms) head.drops
    read_arms {i} {k} {after} (w.more_arms {head_words} w_head h_x w_arms) stand c =
        let p_head = part head_words _ stand in
        let head = read_arm w_head p_head.left (shut_by h_x.0 refl p_head.right) in
        let f_x = first h_x.1 p_head.right in
        let arms = read_arms w_arms f_x.rest c in
        made _ (g.more_arms head.derived (this h_x.0 f_x.token) arms.derived) (λ t. syntax.more_arms (head.same t) (arms.same t)) (ap (drop_arm head.tree) arms.drops ∙ head.drops)

    read_else : {b : syntax.OptionalBlock (Bare X)} {words : List X} {i k : ℕ} {ds after : List ℕ} → WritesElse kind added b words → Stand words i k ds after → NoParenFollows toks k → Is (IsElse toks i k) own_else drop_else b ds after
    read_else w.no_else none c =
        made _ g.no_else (λ t. syntax.no_block) refl
    read_else {i} {k} {after} (w.an_else h_x w_body) stand c =
        let f_x = first h_x.1 stand in
        let body = read_block w_body f_x.rest c in
        made _ (g.an_else (this h_x.0 f_x.token) body.derived) (λ t. syntax.a_block (body.same t)) body.drops

    read_for_step : {b : syntax.OptionalExpression (Bare X)} {words : List X} {i k : ℕ} {ds after : List ℕ} → WritesForStep kind added b words → Stand words i k ds after → NoParenFollows toks k → Is (IsForStep toks i k) own_for_step drop_for_step b ds after
    read_for_step w.no_for_step none c =
        made _ g.no_for_step (λ t. syntax.no_expression) refl
    read_for_step {i} {k} {after} (w.a_for_step h_c w_e) stand c =
        let f_c = first h_c.1 stand in
        let e = read_expr w_e f_c.rest c in
        made _ (g.a_for_step (this h_c.0 f_c.token) e.derived) (λ t. syntax.an_expression (e.same t)) e.drops
