-- The significant tokens of a chunk are what is written of its bare program with nothing added.
use Rattle.std.proofs.Common.{◌≡◌, ℕ, ◌+◌, ◌-◌, ◌≤◌, ◌⊎◌, inl, inr, Bool, true, false, Option, Some, None, List, [], ◌∷◌, ◌++◌, slice_get, map, ap, sym, refl, subst, ◌∙◌, arith}
use Rattle.std.specs.Option.{option_map}
use Rattle.luf_lex.specs.declared.token.Tok.{Tok}
use Rattle.luf_lex.specs.declared.token.Tok.TheVariants.{Word, Sign}
use Rattle.luf_lex.specs.declared.token.Word.TheVariants as word
use Rattle.luf_lex.specs.declared.token.Sign.TheVariants as sign
use Rattle.luf_tree.specs.declared.tree.Block.{Block}
use Rattle.luf_tree.specs.declared.tree.Stat.{Stat}
use Rattle.luf_tree.specs.declared.tree.Declared.{Declared}
use Rattle.luf_tree.specs.declared.tree.Arm.{Arm}
use Rattle.luf_tree.specs.declared.tree.FuncBody.{FuncBody}
use Rattle.luf_tree.specs.declared.tree.Expr.{Expr}
use Rattle.luf_tree.specs.declared.tree.ExprKind.TheVariants as expr
use Rattle.luf_tree.specs.declared.tree.Step.{Step}
use Rattle.luf_tree.specs.declared.tree.Suffix.{Suffix}
use Rattle.luf_tree.specs.declared.tree.Args.{Args}
use Rattle.luf_tree.specs.declared.tree.Field.{Field}
use Rattle.luf_tree.specs.Grammar as g
use Rattle.luf_tree.specs.Grammar.{At, IsToken, IsString, NoParenFollows, expression, statement, AreNames, AreParams, IsAttribute, AreDeclared, IsPath, IsMethod, IsSemicolon, IsExpr, AreSteps, IsOperand, IsSimple, IsPrefix, IsVariable, IsCall, IsParen, IsHead, AreSuffixes, IsSuffix, IsArgs, AreExprs, IsTable, AreFields, IsField, IsFuncBody, IsBlock, AreStats, IsReturn, IsStat, AreTargets, IsArm, AreArms, IsElse, IsForStep, IsChunk}
use Rattle.luf_tree.specs.Syntax as syntax
use Rattle.luf_tree.specs.TokenSyntax as tokens
use Rattle.luf_tree.specs.TokenSyntax.{from_to}
use Rattle.std.proofs.lemmas.List.{append-nil}
use Rattle.luf_bare.proofs.Ends.{between_none, between_one, place_before, exprs_end, field_end}
use Rattle.luf_bare.specs.Significant.{IsFixed}
use Rattle.luf_bare.specs.Writing.{opens, guarded_if, after_guard, enclosed, written_more_names, written_names, written_parameters, written_attribute, written_declared, written_fields_of_path, written_path, written_method, written_expression, written_for_step, written_more_expressions, written_expressions, written_operation, written_operations, written_suffix, written_suffixes, written_arguments, written_field, written_more_fields, written_fields, written_statement, written_statements, written_arm, written_more_arms, written_arms, written_block, written_else, written_body}
use Rattle.luf_tree.specs.SyntaxOf.{expressions_of, operations_of, suffixes_of, fields_of, statements_of, arms_of, optional_expression_of, optional_block_of, declared_of, first_of_path, rest_of_path, syntax_of_expr, syntax_of_block, syntax_of_stat, syntax_of_field, syntax_of_suffix, syntax_of_step, syntax_of_arm, syntax_of_args, syntax_of_body}
use Rattle.luf_bare.specs.Bare.{Bare, words_of, always, before, bare_declared, bare_expression, bare_optional_expression, bare_expressions, bare_operation, bare_operations, bare_suffix, bare_suffixes, bare_arguments, bare_field, bare_fields, bare_statement, bare_statements, bare_arm, bare_arms, bare_block, bare_optional_block, bare_function_body}
use Rattle.luf_bare.specs.Lone.{is_lone}
use Rattle.luf_bare.proofs.LoneLaws.{lone_chosen}
use Rattle.luf_bare.specs.Dropped.{between, if_dropped, dropped_expression, dropped_for_step, dropped_expressions, dropped_operation, dropped_operations, dropped_suffix, dropped_suffixes, dropped_arguments, dropped_field, dropped_fields, dropped_statement, dropped_statements, dropped_arm, dropped_arms, dropped_block, dropped_else, dropped_body}
use Rattle.luf_tree.proofs.SyntaxEquations.{nil_syntax, true_syntax, false_syntax, number_syntax, string_syntax, vararg_syntax, name_syntax, paren_syntax, function_syntax, table_syntax, unary_syntax, chain_syntax, power_syntax, suffixed_syntax, empty_syntax, local_syntax, assign_syntax, call_syntax, do_syntax, while_syntax, repeat_syntax, if_syntax, for_syntax, for_in_syntax, function_stat_syntax, local_function_syntax, label_syntax, goto_syntax, break_syntax, return_syntax, item_syntax, named_syntax, keyed_syntax, dot_syntax, index_syntax, call_suffix_syntax, method_syntax, step_of_syntax, arm_of_syntax, args_of_syntax, block_of_syntax, body_of_syntax}

-- the tokens from i to k are these words, in order, and between them dropped tokens, at the first places up to those
-- that are left
pub data AreSignificant {X : Type 0} (toks : List Tok) (says : ℕ → X) : List X → ℕ → ℕ → List ℕ → List ℕ → Type 0 where
  none : {i : ℕ} {ds : List ℕ} → AreSignificant toks says [] i i ds ds
  kept : {t : Tok} {x : X} {words : List X} {i j k : ℕ} {ds after : List ℕ} → IsToken toks i t j → says i ≡ x → AreSignificant toks says words j k ds after → AreSignificant toks says (x ∷ words) i k ds after
  lost : {t : Tok} {words : List X} {i j k : ℕ} {ds after : List ℕ} → IsToken toks i t j → AreSignificant toks says words j k ds after → AreSignificant toks says words i k (i ∷ ds) after

pub in_order : {X : Type 0} {toks : List Tok} {says : ℕ → X} {words : List X} {i k : ℕ} {ds after : List ℕ} → AreSignificant toks says words i k ds after → i ≤ k
in_order none = omega arith
in_order (kept t _ rest) = omega (arith, t.next, in_order rest)
in_order (lost t rest) = omega (arith, t.next, in_order rest)

module _ {X : Type 0} (kind : X → Tok) (put : Tok → X) (toks : List Tok) (says : ℕ → X) (fixed_says : (i : ℕ) (t : Tok) → IsFixed t → slice_get toks i ≡ Some t → says i ≡ put t) where
  -- what is written with nothing added

  abbrev nothing : Tok → List X
  nothing _ = []

  abbrev no_trail : Unit {0} → Bool
  no_trail _ = false

  abbrev own_more_names : List X → List X
  own_more_names = written_more_names kind put nothing no_trail

  abbrev own_names : List X → List X
  own_names = written_names kind put nothing no_trail

  abbrev own_parameters : List X → Bool → List X
  own_parameters = written_parameters kind put nothing no_trail

  abbrev own_attribute : Option X → List X
  own_attribute = written_attribute kind put nothing no_trail

  abbrev own_declared : List (syntax.DeclaredName (Bare X)) → List X
  own_declared = written_declared kind put nothing no_trail

  abbrev own_fields_of_path : List X → List X
  own_fields_of_path = written_fields_of_path kind put nothing no_trail

  abbrev own_path : Option X → List X → List X
  own_path = written_path kind put nothing no_trail

  abbrev own_method : Option X → List X
  own_method = written_method kind put nothing no_trail

  abbrev own_expression : syntax.Expression (Bare X) → List X
  own_expression = written_expression kind put nothing no_trail

  abbrev own_for_step : syntax.OptionalExpression (Bare X) → List X
  own_for_step = written_for_step kind put nothing no_trail

  abbrev own_more_expressions : syntax.Expressions (Bare X) → List X
  own_more_expressions = written_more_expressions kind put nothing no_trail

  abbrev own_expressions : syntax.Expressions (Bare X) → List X
  own_expressions = written_expressions kind put nothing no_trail

  abbrev own_operation : syntax.Operation (Bare X) → List X
  own_operation = written_operation kind put nothing no_trail

  abbrev own_operations : syntax.Operations (Bare X) → List X
  own_operations = written_operations kind put nothing no_trail

  abbrev own_suffix : syntax.Suffix (Bare X) → List X
  own_suffix = written_suffix kind put nothing no_trail

  abbrev own_suffixes : syntax.Suffixes (Bare X) → List X
  own_suffixes = written_suffixes kind put nothing no_trail

  abbrev own_arguments : syntax.Arguments (Bare X) → List X
  own_arguments = written_arguments kind put nothing no_trail

  abbrev own_field : syntax.Field (Bare X) → List X
  own_field = written_field kind put nothing no_trail

  abbrev own_statement : syntax.Statement (Bare X) → List X
  own_statement = written_statement kind put nothing no_trail

  abbrev own_arm : syntax.Arm (Bare X) → List X
  own_arm = written_arm kind put nothing no_trail

  abbrev own_more_arms : syntax.Arms (Bare X) → List X
  own_more_arms = written_more_arms kind put nothing no_trail

  abbrev own_arms : syntax.Arms (Bare X) → List X
  own_arms = written_arms kind put nothing no_trail

  abbrev own_block : syntax.Block (Bare X) → List X
  own_block = written_block kind put nothing no_trail

  abbrev own_else : syntax.OptionalBlock (Bare X) → List X
  own_else = written_else kind put nothing no_trail

  abbrev own_body : syntax.FunctionBody (Bare X) → List X
  own_body = written_body kind put nothing no_trail

  abbrev own_fields : syntax.Fields (Bare X) → List X
  own_fields = written_more_fields kind put nothing no_trail false

  abbrev own_statements : Bool → syntax.Statements (Bare X) → List X
  own_statements = written_statements kind put nothing no_trail

  abbrev own_if : Option (syntax.Statement (Bare X)) → List X
  own_if None = []
  own_if (Some s) = own_statement s

  first_field : (fields : syntax.Fields (Bare X)) → own_fields fields ≡ written_fields kind put nothing no_trail false fields
  first_field syntax.no_fields = refl
  first_field (syntax.more_fields first rest) = refl

  no_guard_if : (paren : Bool) (words : List X) → guarded_if kind put nothing no_trail paren words ≡ words
  no_guard_if true words = refl
  no_guard_if false words = refl

  no_guard : (others : Bool) (words : List X) → after_guard kind put nothing no_trail others words ≡ words
  no_guard true [] = refl
  no_guard true (x ∷ words) = no_guard_if (opens (kind x)) (x ∷ words)
  no_guard false words = refl

  same_for_first : (others : Bool) (ss : syntax.Statements (Bare X)) → own_statements true ss ≡ own_statements others ss
  same_for_first true ss = refl
  same_for_first false syntax.no_statements = refl
  same_for_first false (syntax.more_statements first rest) = ap (λ z. z ++ own_statements true rest) (no_guard true (own_statement first))

  -- ---- what is significant, part after part

  join : {us vs : List X} {i j k : ℕ} {ds mid after : List ℕ} → AreSignificant toks says us i j ds mid → AreSignificant toks says vs j k mid after → AreSignificant toks says (us ++ vs) i k ds after
  join none rest = rest
  join (kept t is more) rest = kept t is (join more rest)
  join (lost t more) rest = lost t (join more rest)

  kept_fixed : {t : Tok} {words : List X} {i j k : ℕ} {ds after : List ℕ} → IsToken toks i t j → IsFixed t → AreSignificant toks says words j k ds after → AreSignificant toks says (put t ∷ words) i k ds after
  kept_fixed {t} {i} token is rest = kept token (fixed_says i t is token.there) rest

  end_nil : {us : List X} {i k : ℕ} {ds after : List ℕ} → AreSignificant toks says us i k ds after → AreSignificant toks says (us ++ []) i k ds after
  end_nil {us} {i} {k} {ds} {after} rest = subst (λ z. AreSignificant toks says z i k ds after) (sym (append-nil us)) rest

  no_end : {us : List X} {i k : ℕ} {ds after : List ℕ} → AreSignificant toks says (us ++ []) i k ds after → AreSignificant toks says us i k ds after
  no_end {us} {i} {k} {ds} {after} rest = subst (λ z. AreSignificant toks says z i k ds after) (append-nil us) rest

  kept_string : {x : X} {us : List X} {i j k : ℕ} {ds after : List ℕ} → IsString toks i j → says i ≡ x → AreSignificant toks says us j k ds after → AreSignificant toks says (x ∷ us) i k ds after
  kept_string (inl t) is rest = kept t is rest
  kept_string (inr t) is rest = kept t is rest

  lost_one : {t u : Tok} {us : List X} {i j k : ℕ} {ds after : List ℕ} → IsToken toks i t j ⊎ IsToken toks i u j → AreSignificant toks says us j k ds after → AreSignificant toks says us i k (i ∷ ds) after
  lost_one (inl t) rest = lost t rest
  lost_one (inr t) rest = lost t rest

  separator_next : {t u : Tok} {i j : ℕ} → IsToken toks i t j ⊎ IsToken toks i u j → j ≡ i + 1
  separator_next (inl t) = t.next
  separator_next (inr t) = t.next

  abbrev fixed_table : List X → List X
  fixed_table items = put (Sign sign.LeftBrace) ∷ (items ++ (put (Sign sign.RightBrace) ∷ []))

  before_own : (s : Option (syntax.Statement (Bare X))) (rest : syntax.Statements (Bare X)) → own_if s ++ own_statements true rest ≡ own_statements true (before s rest)
  before_own None rest = refl
  before_own (Some s) rest = ap (λ z. z ++ own_statements true rest) (sym (no_guard true (own_statement s)))

  keep_semicolon : {i k : ℕ} → IsSemicolon toks i k → (after : List ℕ) → AreSignificant toks says [] i k (between i k after) after
  keep_semicolon (g.no_semicolon {i}) after = subst (λ z. AreSignificant toks says [] i i z after) (sym (between_none i after)) none
  keep_semicolon (g.a_semicolon {i} {j} t) after = subst (λ z. AreSignificant toks says [] i j z after) (sym (between_one i j after (omega (arith, t.next)))) (lost t none)

  abbrev enclosed_own : Bool → List X → List X
  enclosed_own lone words = enclosed kind put nothing no_trail lone true words

  -- arguments in parentheses, which are dropped from a lone one
  enclosed_by : (lone : Bool) {us : List X} {i j k l : ℕ} {drop : List ℕ → List ℕ} → IsToken toks i (Sign sign.LeftParen) j → ((more : List ℕ) → AreSignificant toks says us j k (drop more) more) → IsToken toks k (Sign sign.RightParen) l
      → (after : List ℕ) → AreSignificant toks says (enclosed_own lone us) i l (if_dropped lone i (drop (if_dropped lone k after))) after
  enclosed_by true t_l inner t_r after = lost t_l (join (inner _) (lost t_r none))
  enclosed_by false t_l inner t_r after = kept_fixed t_l tt (join (inner _) (kept_fixed t_r tt none))

  enclosed_keep : (lone : Bool) {bare_lone : Bool} {us : List X} {i j k l : ℕ} {drop : List ℕ → List ℕ} → bare_lone ≡ lone → IsToken toks i (Sign sign.LeftParen) j → ((more : List ℕ) → AreSignificant toks says us j k (drop more) more) → IsToken toks k (Sign sign.RightParen) l
      → (after : List ℕ) → AreSignificant toks says (enclosed_own bare_lone us) i l (if_dropped lone i (drop (if_dropped lone (l - 1) after))) after
  enclosed_keep lone {us} {i} {k} {l} {drop} is t_l inner t_r after =
      subst (λ z. AreSignificant toks says (enclosed_own z us) i l (if_dropped lone i (drop (if_dropped lone (l - 1) after))) after) (sym is)
      (subst (λ z. AreSignificant toks says (enclosed_own lone us) i l (if_dropped lone i (drop (if_dropped lone z after))) after) (sym (place_before t_r.next)) (enclosed_by lone {drop = drop} t_l inner t_r after))

  -- ---- lists with separators

  comma_names : {i k : ℕ} {names : List ℕ} → AreNames toks i k names → own_more_names (map says names) ≡ put (Sign sign.Comma) ∷ own_names (map says names)
  comma_names (g.one_name _) = refl
  comma_names (g.more_names _ _ _) = refl

  comma_exprs : {i k : ℕ} {es : List Expr} → AreExprs toks i k es → own_more_expressions (bare_expressions (words_of says) (expressions_of (map syntax_of_expr es))) ≡ put (Sign sign.Comma) ∷ own_expressions (bare_expressions (words_of says) (expressions_of (map syntax_of_expr es)))
  comma_exprs (g.one_expr _) = refl
  comma_exprs (g.more_exprs _ _ _) = refl

  comma_targets : {i k : ℕ} {es : List Expr} → AreTargets toks i k es → own_more_expressions (bare_expressions (words_of says) (expressions_of (map syntax_of_expr es))) ≡ put (Sign sign.Comma) ∷ own_expressions (bare_expressions (words_of says) (expressions_of (map syntax_of_expr es)))
  comma_targets (g.one_target _) = refl
  comma_targets (g.more_targets _ _ _) = refl

  elseif_arms : {i k : ℕ} {arms : List Arm} → AreArms toks i k arms → own_more_arms (bare_arms (words_of says) (arms_of (map syntax_of_arm arms))) ≡ put (Word word.ElseIf) ∷ own_arms (bare_arms (words_of says) (arms_of (map syntax_of_arm arms)))
  elseif_arms (g.one_arm _) = refl
  elseif_arms (g.more_arms _ _ _) = refl

  dot_path : {i k : ℕ} {path : List ℕ} → IsPath toks i k path → own_fields_of_path (map says path) ≡ put (Sign sign.Dot) ∷ own_path (option_map says (first_of_path path)) (map says (rest_of_path path))
  dot_path (g.path_end _) = refl
  dot_path (g.path_more _ _ _) = refl

  comma_declared : (d : syntax.DeclaredName (Bare X)) {i k : ℕ} {ds : List Declared} → AreDeclared toks i k ds → own_declared (d ∷ map (bare_declared (words_of says)) (map declared_of ds)) ≡ d.name ∷ (own_attribute d.attribute ++ (put (Sign sign.Comma) ∷ own_declared (map (bare_declared (words_of says)) (map declared_of ds))))
  comma_declared d (g.one_declared _ _) = refl
  comma_declared d (g.more_declared _ _ _ _) = refl

  local_values : (names : List (syntax.DeclaredName (Bare X))) {i k : ℕ} {es : List Expr} → AreExprs toks i k es → own_statement (syntax.local_statement tt names (bare_expressions (words_of says) (expressions_of (map syntax_of_expr es)))) ≡ put (Word word.Local) ∷ (own_declared names ++ (put (Sign sign.Assign) ∷ own_expressions (bare_expressions (words_of says) (expressions_of (map syntax_of_expr es)))))
  local_values names (g.one_expr _) = refl
  local_values names (g.more_exprs _ _ _) = refl

  -- ---- names

  keep_names : {i k : ℕ} {names : List ℕ} → AreNames toks i k names → (after : List ℕ) → AreSignificant toks says (own_names (map says names)) i k after after
  keep_names (g.one_name t) after = kept t refl none
  keep_names (g.more_names {i} {l} {names} t c d) after = subst (λ z. AreSignificant toks says ((says i) ∷ z) i l after after) (sym (comma_names d)) (kept t refl (kept_fixed c tt (keep_names d after)))

  alone_parameters : {i k : ℕ} {names : List ℕ} → AreNames toks i k names → own_parameters (map says names) false ≡ own_names (map says names)
  alone_parameters (g.one_name _) = refl
  alone_parameters (g.more_names _ _ _) = refl

  dotted_parameters : {i k : ℕ} {names : List ℕ} → AreNames toks i k names → own_parameters (map says names) true ≡ own_names (map says names) ++ (put (Sign sign.Comma) ∷ put (Sign sign.Dots) ∷ [])
  dotted_parameters (g.one_name _) = refl
  dotted_parameters (g.more_names _ _ _) = refl

  keep_params : {i k : ℕ} {names : List ℕ} {vararg : Bool} → AreParams toks i k names vararg → (after : List ℕ) → AreSignificant toks says (own_parameters (map says names) vararg) i k after after
  keep_params g.no_params after = none
  keep_params (g.dots_alone t) after = kept_fixed t tt none
  keep_params (g.names_alone {i} {j} d) after = subst (λ z. AreSignificant toks says z i j after after) (sym (alone_parameters d)) (keep_names d after)
  keep_params (g.names_and_dots {i} {l} d c t) after = subst (λ z. AreSignificant toks says z i l after after) (sym (dotted_parameters d)) (join (keep_names d after) (kept_fixed c tt (kept_fixed t tt none)))

  keep_attribute : {i k : ℕ} {a : Option ℕ} → IsAttribute toks i k a → (after : List ℕ) → AreSignificant toks says (own_attribute (option_map says a)) i k after after
  keep_attribute g.no_attribute after = none
  keep_attribute (g.an_attribute l t r) after = kept_fixed l tt (kept t refl (kept_fixed r tt none))

  keep_declared : {i k : ℕ} {ds : List Declared} → AreDeclared toks i k ds → (after : List ℕ) → AreSignificant toks says (own_declared (map (bare_declared (words_of says)) (map declared_of ds))) i k after after
  keep_declared (g.one_declared t a) after = kept t refl (keep_attribute a after)
  keep_declared (g.more_declared {i} {o} {a} {declared} t d_a c d) after = subst (λ z. AreSignificant toks says z i o after after) (sym (comma_declared (bare_declared (words_of says) (declared_of (record { name = i; attribute = a }))) d)) (kept t refl (join (keep_attribute d_a after) (kept_fixed c tt (keep_declared d after))))

  keep_path : {i k : ℕ} {path : List ℕ} → IsPath toks i k path → (after : List ℕ) → AreSignificant toks says (own_path (option_map says (first_of_path path)) (map says (rest_of_path path))) i k after after
  keep_path (g.path_end t) after = kept t refl none
  keep_path (g.path_more {i} {l} {path} t c d) after = subst (λ z. AreSignificant toks says ((says i) ∷ z) i l after after) (sym (dot_path d)) (kept t refl (kept_fixed c tt (keep_path d after)))

  keep_method : {i k : ℕ} {m : Option ℕ} → IsMethod toks i k m → (after : List ℕ) → AreSignificant toks says (own_method (option_map says m)) i k after after
  keep_method g.no_method after = none
  keep_method (g.a_method c t) after = kept_fixed c tt (kept t refl none)

  abbrev KeptExpression : ℕ → ℕ → List ℕ → tokens.Expression → Type 0
  KeptExpression i k after s = AreSignificant toks says (own_expression (bare_expression (words_of says) s)) i k (dropped_expression s after) after

  abbrev KeptSuffix : ℕ → ℕ → List ℕ → tokens.Suffix → Type 0
  KeptSuffix i k after s = AreSignificant toks says (own_suffix (bare_suffix (words_of says) s)) i k (dropped_suffix s after) after

  abbrev KeptSuffixes : ℕ → ℕ → List ℕ → tokens.Suffixes → Type 0
  KeptSuffixes i k after s = AreSignificant toks says (own_suffixes (bare_suffixes (words_of says) s)) i k (dropped_suffixes s after) after

  abbrev KeptOperations : ℕ → ℕ → List ℕ → tokens.Operations → Type 0
  KeptOperations i k after s = AreSignificant toks says (own_operations (bare_operations (words_of says) s)) i k (dropped_operations s after) after

  abbrev KeptArguments : ℕ → ℕ → List ℕ → tokens.Arguments → Type 0
  KeptArguments i k after s = AreSignificant toks says (own_arguments (bare_arguments (words_of says) s)) i k (dropped_arguments s after) after

  abbrev KeptExpressions : ℕ → ℕ → List ℕ → tokens.Expressions → Type 0
  KeptExpressions i k after s = AreSignificant toks says (own_expressions (bare_expressions (words_of says) s)) i k (dropped_expressions s after) after

  abbrev KeptTable : ℕ → ℕ → ℕ → List ℕ → tokens.Fields → Type 0
  KeptTable end i k after s = AreSignificant toks says (fixed_table (written_fields kind put nothing no_trail false (bare_fields (words_of says) s))) i k (dropped_fields s end after) after

  abbrev KeptFields : ℕ → ℕ → ℕ → List ℕ → tokens.Fields → Type 0
  KeptFields end i k after s = AreSignificant toks says (own_fields (bare_fields (words_of says) s)) i k (dropped_fields s end after) after

  abbrev KeptField : ℕ → ℕ → List ℕ → tokens.Field → Type 0
  KeptField i k after s = AreSignificant toks says (own_field (bare_field (words_of says) s)) i k (dropped_field s after) after

  abbrev KeptBody : ℕ → ℕ → List ℕ → tokens.FunctionBody → Type 0
  KeptBody i k after s = AreSignificant toks says (own_body (bare_function_body (words_of says) s)) i k (dropped_body s after) after

  abbrev KeptBlock : ℕ → ℕ → List ℕ → tokens.Block → Type 0
  KeptBlock i k after s = AreSignificant toks says (own_block (bare_block (words_of says) s)) i k (dropped_block s after) after

  abbrev KeptStatements : ℕ → ℕ → List ℕ → tokens.Statements → Type 0
  KeptStatements i k after s = AreSignificant toks says (own_statements true (bare_statements (words_of says) s)) i k (dropped_statements s after) after

  abbrev KeptArm : ℕ → ℕ → List ℕ → tokens.Arm → Type 0
  KeptArm i k after s = AreSignificant toks says (own_arm (bare_arm (words_of says) s)) i k (dropped_arm s after) after

  abbrev KeptArms : ℕ → ℕ → List ℕ → tokens.Arms → Type 0
  KeptArms i k after s = AreSignificant toks says (own_arms (bare_arms (words_of says) s)) i k (dropped_arms s after) after

  abbrev KeptElse : ℕ → ℕ → List ℕ → tokens.OptionalBlock → Type 0
  KeptElse i k after s = AreSignificant toks says (own_else (bare_optional_block (words_of says) s)) i k (dropped_else s after) after

  abbrev KeptForStep : ℕ → ℕ → List ℕ → tokens.OptionalExpression → Type 0
  KeptForStep i k after s = AreSignificant toks says (own_for_step (bare_optional_expression (words_of says) s)) i k (dropped_for_step s after) after

  abbrev KeptStatement : ℕ → ℕ → List ℕ → tokens.Statement → Type 0
  KeptStatement i k after s = AreSignificant toks says (own_if (bare_statement (words_of says) s)) i k (dropped_statement s after) after

  mutual
    keep_expr : {n : ℕ} {i k : ℕ} {x : Expr} → IsExpr toks n i k x → (after : List ℕ) → KeptExpression i k after (syntax_of_expr x)
    keep_expr (g.operand_expr d_e) after = keep_operand d_e after
    keep_expr (g.chain_expr {i} {k} {first} {rest} _ _ d_e d_rest) after = subst (KeptExpression i k after) (sym (chain_syntax i k first rest)) (join (keep_expr d_e _) (keep_steps d_rest after))

    keep_steps : {m : ℕ} {i k : ℕ} {x : List Step} → AreSteps toks m i k x → (after : List ℕ) → KeptOperations i k after (operations_of (map syntax_of_step x))
    keep_steps (g.one_step {i} {k} {e} t_x _ d_e) after = subst (λ z. AreSignificant toks says (own_operation (bare_operation (words_of says) z) ++ []) i k (dropped_operation z after) after) (sym (step_of_syntax i e)) (end_nil (kept t_x refl (keep_expr d_e after)))
    keep_steps (g.more_steps {i} {l} {e} {rest} t_x _ d_e d_rest) after = subst (λ z. AreSignificant toks says (own_operation (bare_operation (words_of says) z) ++ own_operations (bare_operations (words_of says) (operations_of (map syntax_of_step rest)))) i l (dropped_operation z (dropped_operations (operations_of (map syntax_of_step rest)) after)) after) (sym (step_of_syntax i e)) (kept t_x refl (join (keep_expr d_e _) (keep_steps d_rest after)))

    keep_operand : {i k : ℕ} {x : Expr} → IsOperand toks i k x → (after : List ℕ) → KeptExpression i k after (syntax_of_expr x)
    keep_operand (g.unary_operand {i} {k} {e} t_x _ d_e) after = subst (KeptExpression i k after) (sym (unary_syntax i k e)) (kept t_x refl (keep_operand d_e after))
    keep_operand (g.power_operand {i} {j} {l} {base} {exponent} d_e t_x d_exponent) after = subst (KeptExpression i l after) (sym (power_syntax i l base j exponent)) (join (keep_simple d_e _) (kept t_x refl (keep_operand d_exponent after)))
    keep_operand (g.simple_operand d_e) after = keep_simple d_e after

    keep_simple : {i k : ℕ} {x : Expr} → IsSimple toks i k x → (after : List ℕ) → KeptExpression i k after (syntax_of_expr x)
    keep_simple (g.nil_simple {i} {j} t_x) after = subst (KeptExpression i j after) (sym (nil_syntax i j)) (kept_fixed t_x tt none)
    keep_simple (g.true_simple {i} {j} t_x) after = subst (KeptExpression i j after) (sym (true_syntax i j)) (kept_fixed t_x tt none)
    keep_simple (g.false_simple {i} {j} t_x) after = subst (KeptExpression i j after) (sym (false_syntax i j)) (kept_fixed t_x tt none)
    keep_simple (g.number_simple {i} {j} t_x) after = subst (KeptExpression i j after) (sym (number_syntax i j)) (kept t_x refl none)
    keep_simple (g.string_simple {i} {j} t_x) after = subst (KeptExpression i j after) (sym (string_syntax i j)) (kept_string t_x refl none)
    keep_simple (g.vararg_simple {i} {j} t_x) after = subst (KeptExpression i j after) (sym (vararg_syntax i j)) (kept_fixed t_x tt none)
    keep_simple (g.function_simple {i} {k} {f} t_x d_f) after = subst (KeptExpression i k after) (sym (function_syntax i k f)) (kept_fixed t_x tt (keep_func_body d_f after))
    keep_simple (g.table_simple {i} {j} {fields} d) after = subst (KeptExpression i j after) (sym (table_syntax i j fields)) (keep_table d after)
    keep_simple (g.prefix_simple d_e _) after = keep_prefix d_e after

    keep_prefix : {i k : ℕ} {x : Expr} → IsPrefix toks i k x → (after : List ℕ) → KeptExpression i k after (syntax_of_expr x)
    keep_prefix (g.variable_prefix d_e) after = keep_variable d_e after
    keep_prefix (g.call_prefix d_e) after = keep_call d_e after
    keep_prefix (g.paren_prefix d_e) after = keep_paren d_e after

    keep_variable : {i k : ℕ} {x : Expr} → IsVariable toks i k x → (after : List ℕ) → KeptExpression i k after (syntax_of_expr x)
    keep_variable (g.name_variable {i} {j} t_x) after = subst (KeptExpression i j after) (sym (name_syntax i j)) (kept t_x refl none)
    keep_variable (g.suffixed_variable {i} {k} {head} {suffixes} d_e d_suffixes) after = subst (KeptExpression i k after) (sym (suffixed_syntax i k head suffixes)) (join (keep_head d_e _) (keep_suffixes d_suffixes after))

    keep_call : {i k : ℕ} {x : Expr} → IsCall toks i k x → (after : List ℕ) → KeptExpression i k after (syntax_of_expr x)
    keep_call (g.suffixed_call {i} {k} {head} {suffixes} d_e d_suffixes) after = subst (KeptExpression i k after) (sym (suffixed_syntax i k head suffixes)) (join (keep_head d_e _) (keep_suffixes d_suffixes after))

    keep_paren : {i k : ℕ} {x : Expr} → IsParen toks i k x → (after : List ℕ) → KeptExpression i k after (syntax_of_expr x)
    keep_paren (g.paren {i} {l} {e} t_l d_e t_r) after = subst (KeptExpression i l after) (sym (paren_syntax i l e)) (kept_fixed t_l tt (join (keep_expr d_e _) (kept_fixed t_r tt none)))

    keep_head : {i k : ℕ} {x : Expr} → IsHead toks i k x → (after : List ℕ) → KeptExpression i k after (syntax_of_expr x)
    keep_head (g.name_head {i} {j} t_x) after = subst (KeptExpression i j after) (sym (name_syntax i j)) (kept t_x refl none)
    keep_head (g.paren_head d_e) after = keep_paren d_e after

    keep_suffixes : {calls : Bool} {i k : ℕ} {x : List Suffix} → AreSuffixes toks calls i k x → (after : List ℕ) → KeptSuffixes i k after (suffixes_of (map syntax_of_suffix x))
    keep_suffixes (g.one_suffix d_s) after = end_nil (keep_suffix d_s after)
    keep_suffixes (g.more_suffixes d_s d_rest) after = join (keep_suffix d_s _) (keep_suffixes d_rest after)

    keep_suffix : {calls : Bool} {i k : ℕ} {x : Suffix} → IsSuffix toks calls i k x → (after : List ℕ) → KeptSuffix i k after (syntax_of_suffix x)
    keep_suffix (g.dot_suffix {i} {j} {k} t_d t_x) after = subst (KeptSuffix i k after) (sym (dot_syntax j)) (kept_fixed t_d tt (kept t_x refl none))
    keep_suffix (g.index_suffix {i} {l} {e} t_l d_e t_r) after = subst (KeptSuffix i l after) (sym (index_syntax e)) (kept_fixed t_l tt (join (keep_expr d_e _) (kept_fixed t_r tt none)))
    keep_suffix (g.call_suffix {i} {j} {args} d_args) after = subst (KeptSuffix i j after) (sym (call_suffix_syntax args)) (keep_args d_args after)
    keep_suffix (g.method_suffix {i} {j} {l} {args} t_c t_x d_args) after = subst (KeptSuffix i l after) (sym (method_syntax j args)) (kept_fixed t_c tt (kept t_x refl (keep_args d_args after)))

    keep_args : {i k : ℕ} {x : Args} → IsArgs toks i k x → (after : List ℕ) → KeptArguments i k after (syntax_of_args x)
    keep_args (g.no_args {i} {k} t_l t_r) after = subst (KeptArguments i k after) (sym (args_of_syntax i k true [])) (kept_fixed t_l tt (kept_fixed t_r tt none))
    keep_args (g.list_args {i} {l} {es} t_l d t_r) after = subst (KeptArguments i l after) (sym (args_of_syntax i l true es)) (enclosed_keep (is_lone (expressions_of (map syntax_of_expr es))) (lone_chosen (words_of says) always (expressions_of (map syntax_of_expr es))) t_l (λ more. keep_exprs d more) t_r after)
    keep_args (g.string_args {i} {j} t_x) after = subst (KeptArguments i j after) (sym (args_of_syntax i j false (expression i j expr.Str ∷ []) ∙ ap (λ z. syntax.arguments (from_to i j) false (syntax.more_expressions z syntax.no_expressions)) (string_syntax i j))) (kept_string t_x refl none)
    keep_args (g.table_args {i} {j} {fields} d) after = subst (KeptArguments i j after) (sym (args_of_syntax i j false (expression i j (expr.Table fields) ∷ []) ∙ ap (λ z. syntax.arguments (from_to i j) false (syntax.more_expressions z syntax.no_expressions)) (table_syntax i j fields))) (end_nil (end_nil (keep_table d after)))

    keep_exprs : {i k : ℕ} {x : List Expr} → AreExprs toks i k x → (after : List ℕ) → KeptExpressions i k after (expressions_of (map syntax_of_expr x))
    keep_exprs (g.one_expr d_e) after = end_nil (keep_expr d_e after)
    keep_exprs (g.more_exprs {i} {l} {e} {es} d_e t d_es) after = subst (λ z. AreSignificant toks says (own_expression (bare_expression (words_of says) (syntax_of_expr e)) ++ z) i l (dropped_expressions (expressions_of (map syntax_of_expr (e ∷ es))) after) after) (sym (comma_exprs d_es)) (join (keep_expr d_e _) (kept_fixed t tt (keep_exprs d_es after)))

    keep_table : {i k : ℕ} {x : List Field} → IsTable toks i k x → (after : List ℕ) → KeptTable (k - 1) i k after (fields_of (map syntax_of_field x))
    keep_table (g.table {i} {k} {l} {fields} t_l d t_r) after =
        subst (λ z. AreSignificant toks says (fixed_table z) i l (dropped_fields (fields_of (map syntax_of_field fields)) (l - 1) after) after) (first_field (bare_fields (words_of says) (fields_of (map syntax_of_field fields))))
        (subst (λ z. AreSignificant toks says (fixed_table (own_fields (bare_fields (words_of says) (fields_of (map syntax_of_field fields))))) i l (dropped_fields (fields_of (map syntax_of_field fields)) z after) after) (sym (place_before t_r.next)) (kept_fixed t_l tt (join (keep_fields d _) (kept_fixed t_r tt none))))

    keep_fields : {i k : ℕ} {x : List Field} → AreFields toks i k x → (after : List ℕ) → KeptFields k i k after (fields_of (map syntax_of_field x))
    keep_fields g.no_fields after = none
    keep_fields (g.last_field {i} {j} {f} d) after = subst (λ z. AreSignificant toks says (own_field (bare_field (words_of says) (syntax_of_field f)) ++ []) i j (dropped_field (syntax_of_field f) z) after) (sym (ap (λ z. between z j after) (field_end d) ∙ between_none j after)) (end_nil (keep_field d after))
    keep_fields (g.more_fields {i} {j} {l} {f} {fields} d t d_fields) after = subst (λ z. AreSignificant toks says (own_fields (bare_fields (words_of says) (fields_of (map syntax_of_field (f ∷ fields))))) i l (dropped_field (syntax_of_field f) z) after) (sym (ap (λ z. between z l (dropped_fields (fields_of (map syntax_of_field fields)) l after)) (field_end d) ∙ between_one j l _ (omega (arith, separator_next t, in_order (keep_fields d_fields after))))) (join (keep_field d _) (lost_one t (keep_fields d_fields after)))

    keep_field : {i k : ℕ} {x : Field} → IsField toks i k x → (after : List ℕ) → KeptField i k after (syntax_of_field x)
    keep_field (g.keyed_field {i} {p} {key} {value} t_l d_key t_r t_a d_value) after = subst (KeptField i p after) (sym (keyed_syntax key value)) (kept_fixed t_l tt (join (keep_expr d_key _) (kept_fixed t_r tt (kept_fixed t_a tt (keep_expr d_value after)))))
    keep_field (g.named_field {i} {l} {value} t_x t_a d_value) after = subst (KeptField i l after) (sym (named_syntax i value)) (kept t_x refl (kept_fixed t_a tt (keep_expr d_value after)))
    keep_field (g.item_field {i} {j} {e} d_e) after = subst (KeptField i j after) (sym (item_syntax e)) (keep_expr d_e after)

    keep_func_body : {i k : ℕ} {x : FuncBody} → IsFuncBody toks i k x → (after : List ℕ) → KeptBody i k after (syntax_of_body x)
    keep_func_body (g.func_body {i} {p} {params} {vararg} {body} t_l d_params t_r d_body t_z) after = subst (KeptBody i p after) (sym (body_of_syntax i p params vararg body)) (kept_fixed t_l tt (join (keep_params d_params _) (kept_fixed t_r tt (join (keep_block d_body _) (kept_fixed t_z tt none)))))

    pub keep_block : {i k : ℕ} {x : Block} → IsBlock toks i k x → (after : List ℕ) → KeptBlock i k after (syntax_of_block x)
    keep_block (g.block {i} {j} {stats} d_stats) after = subst (KeptBlock i j after) (sym (block_of_syntax i j stats)) (subst (λ z. AreSignificant toks says z i j (dropped_statements (statements_of (map syntax_of_stat stats)) after) after) (same_for_first false (bare_statements (words_of says) (statements_of (map syntax_of_stat stats)))) (keep_stats d_stats after))

    keep_stats : {i k : ℕ} {x : List Stat} → AreStats toks i k x → (after : List ℕ) → KeptStatements i k after (statements_of (map syntax_of_stat x))
    keep_stats g.no_stats after = none
    keep_stats (g.last_stat {i} {j} {s} d) after = subst (λ z. AreSignificant toks says z i j (dropped_statement (syntax_of_stat s) after) after) (before_own (bare_statement (words_of says) (syntax_of_stat s)) syntax.no_statements) (end_nil (keep_return d after))
    keep_stats (g.more_stats {i} {k} {s} {stats} d rest) after = subst (λ z. AreSignificant toks says z i k (dropped_statements (statements_of (map syntax_of_stat (s ∷ stats))) after) after) (before_own (bare_statement (words_of says) (syntax_of_stat s)) (bare_statements (words_of says) (statements_of (map syntax_of_stat stats)))) (join (keep_stat d _) (keep_stats rest after))

    keep_return : {i k : ℕ} {x : Stat} → IsReturn toks i k x → (after : List ℕ) → KeptStatement i k after (syntax_of_stat x)
    keep_return (g.return_nothing {i} {j} {k} t s) after = subst (KeptStatement i k after) (sym (return_syntax i k [])) (subst (λ z. AreSignificant toks says (put (Word word.Return) ∷ []) i k (between z k after) after) t.next (kept_fixed t tt (keep_semicolon s after)))
    keep_return (g.return_values {i} {l} {es} t d s) after = subst (KeptStatement i l after) (sym (return_syntax i l es)) (subst (λ z. AreSignificant toks says (put (Word word.Return) ∷ own_expressions (bare_expressions (words_of says) (expressions_of (map syntax_of_expr es)))) i l (dropped_expressions (expressions_of (map syntax_of_expr es)) (between z l after)) after) (sym (exprs_end (i + 1) d)) (kept_fixed t tt (no_end (join (keep_exprs d _) (keep_semicolon s after)))))

    keep_stat : {i k : ℕ} {x : Stat} → IsStat toks i k x → (after : List ℕ) → KeptStatement i k after (syntax_of_stat x)
    keep_stat (g.local_stat {i} {k} {declared} t_x d_declared) after = subst (KeptStatement i k after) (sym (local_syntax i k declared [])) (kept_fixed t_x tt (keep_declared d_declared after))
    keep_stat (g.local_values_stat {i} {o} {declared} {es} t d_declared t_a d_es) after = subst (KeptStatement i o after) (sym (local_syntax i o declared es)) (subst (λ z. AreSignificant toks says z i o (dropped_expressions (expressions_of (map syntax_of_expr es)) after) after) (sym (local_values (map (bare_declared (words_of says)) (map declared_of declared)) d_es)) (kept_fixed t tt (join (keep_declared d_declared _) (kept_fixed t_a tt (keep_exprs d_es after)))))
    keep_stat (g.assign_stat {i} {l} {targets} {es} d_targets t_a d_es) after = subst (KeptStatement i l after) (sym (assign_syntax i l targets es)) (join (keep_targets d_targets _) (kept_fixed t_a tt (keep_exprs d_es after)))
    keep_stat (g.call_stat {i} {j} {e} d_e _) after = subst (KeptStatement i j after) (sym (call_syntax i j e)) (keep_call d_e after)
    keep_stat (g.do_stat {i} {l} {body} t_x d_body t_z) after = subst (KeptStatement i l after) (sym (do_syntax i l body)) (kept_fixed t_x tt (join (keep_block d_body _) (kept_fixed t_z tt none)))
    keep_stat (g.while_stat {i} {p} {e} {body} t_x d_e t_y d_body t_z) after = subst (KeptStatement i p after) (sym (while_syntax i p e body)) (kept_fixed t_x tt (join (keep_expr d_e _) (kept_fixed t_y tt (join (keep_block d_body _) (kept_fixed t_z tt none)))))
    keep_stat (g.repeat_stat {i} {o} {body} {e} t_x d_body t_y d_e) after = subst (KeptStatement i o after) (sym (repeat_syntax i o body e)) (kept_fixed t_x tt (join (keep_block d_body _) (kept_fixed t_y tt (keep_expr d_e after))))
    keep_stat (g.if_stat {i} {o} {arms} {last} t_x d_arms d_other t_z) after = subst (KeptStatement i o after) (sym (if_syntax i o arms last)) (kept_fixed t_x tt (join (keep_arms d_arms _) (join (keep_else d_other _) (kept_fixed t_z tt none))))
    keep_stat (g.for_stat {i} {j} {s} {first} {limit} {step} {body} t_x t_name t_a d_start t_c d_limit d_step t_y d_body t_z) after = subst (KeptStatement i s after) (sym (for_syntax i s j first limit step body)) (kept_fixed t_x tt (kept t_name refl (kept_fixed t_a tt (join (keep_expr d_start _) (kept_fixed t_c tt (join (keep_expr d_limit _) (join (keep_for_step d_step _) (kept_fixed t_y tt (join (keep_block d_body _) (kept_fixed t_z tt none))))))))))
    keep_stat (g.for_in_stat {i} {r} {names} {es} {body} t_x d_names t_y d_es t_d d_body t_z) after = subst (KeptStatement i r after) (sym (for_in_syntax i r names es body)) (kept_fixed t_x tt (join (keep_names d_names _) (kept_fixed t_y tt (join (keep_exprs d_es _) (kept_fixed t_d tt (join (keep_block d_body _) (kept_fixed t_z tt none)))))))
    keep_stat (g.function_stat {i} {o} {path} {method} {f} t d_path d_method d_f) after = subst (KeptStatement i o after) (sym (function_stat_syntax i o path method f)) (kept_fixed t tt (join (keep_path d_path _) (join (keep_method d_method _) (keep_func_body d_f after))))
    keep_stat (g.local_function_stat {i} {k} {o} {f} t_x t_y t_name d_f) after = subst (KeptStatement i o after) (sym (local_function_syntax i o k f)) (kept_fixed t_x tt (kept_fixed t_y tt (kept t_name refl (keep_func_body d_f after))))
    keep_stat (g.label_stat {i} {j} {l} t_x t_name t_y) after = subst (KeptStatement i l after) (sym (label_syntax i l j)) (kept_fixed t_x tt (kept t_name refl (kept_fixed t_y tt none)))
    keep_stat (g.goto_stat {i} {j} {k} t_x t_name) after = subst (KeptStatement i k after) (sym (goto_syntax i k j)) (kept_fixed t_x tt (kept t_name refl none))
    keep_stat (g.break_stat {i} {j} t_x) after = subst (KeptStatement i j after) (sym (break_syntax i j)) (kept_fixed t_x tt none)
    keep_stat (g.empty_stat {i} {j} t) after = subst (KeptStatement i j after) (sym (empty_syntax i j)) (lost t none)

    keep_targets : {i k : ℕ} {x : List Expr} → AreTargets toks i k x → (after : List ℕ) → KeptExpressions i k after (expressions_of (map syntax_of_expr x))
    keep_targets (g.one_target d_e) after = end_nil (keep_variable d_e after)
    keep_targets (g.more_targets {i} {l} {e} {targets} d_e t d_es) after = subst (λ z. AreSignificant toks says (own_expression (bare_expression (words_of says) (syntax_of_expr e)) ++ z) i l (dropped_expressions (expressions_of (map syntax_of_expr (e ∷ targets))) after) after) (sym (comma_targets d_es)) (join (keep_variable d_e _) (kept_fixed t tt (keep_targets d_es after)))

    keep_arm : {i k : ℕ} {x : Arm} → IsArm toks i k x → (after : List ℕ) → KeptArm i k after (syntax_of_arm x)
    keep_arm (g.arm {i} {l} {e} {body} d_e t_x d_body) after = subst (KeptArm i l after) (sym (arm_of_syntax e body)) (join (keep_expr d_e _) (kept_fixed t_x tt (keep_block d_body after)))

    keep_arms : {i k : ℕ} {x : List Arm} → AreArms toks i k x → (after : List ℕ) → KeptArms i k after (arms_of (map syntax_of_arm x))
    keep_arms (g.one_arm d_head) after = end_nil (keep_arm d_head after)
    keep_arms (g.more_arms {i} {l} {first} {arms} d_e t d_es) after = subst (λ z. AreSignificant toks says (own_arm (bare_arm (words_of says) (syntax_of_arm first)) ++ z) i l (dropped_arms (arms_of (map syntax_of_arm (first ∷ arms))) after) after) (sym (elseif_arms d_es)) (join (keep_arm d_e _) (kept_fixed t tt (keep_arms d_es after)))

    keep_else : {i k : ℕ} {x : Option Block} → IsElse toks i k x → (after : List ℕ) → KeptElse i k after (optional_block_of (option_map syntax_of_block x))
    keep_else g.no_else after = none
    keep_else (g.an_else t_x d_body) after = kept_fixed t_x tt (keep_block d_body after)

    keep_for_step : {i k : ℕ} {x : Option Expr} → IsForStep toks i k x → (after : List ℕ) → KeptForStep i k after (optional_expression_of (option_map syntax_of_expr x))
    keep_for_step g.no_for_step after = none
    keep_for_step (g.a_for_step t_c d_e) after = kept_fixed t_c tt (keep_expr d_e after)
