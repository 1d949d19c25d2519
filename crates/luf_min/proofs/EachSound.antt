-- Of the words that are written of a program, those that are its own are no `;`: each `;` is added.
use Rattle.std.proofs.Common.{◌≡◌, ℕ, ◌<◌, ◌⊎◌, inl, inr, Bool, true, false, Option, List, ◌++◌, refl, sym, ap, ◌∙◌, arith}
use Rattle.luf_lex.specs.declared.token.Tok.{Tok}
use Rattle.luf_lex.specs.declared.token.Tok.TheVariants as tok
use Rattle.luf_lex.specs.declared.token.Sign as token_sign
use Rattle.luf_lex.specs.declared.token.Sign.TheVariants as sign
use Rattle.luf_tree.specs.Operator.{binary_precedence, is_unary, sign_precedence, is_unary_sign}
use Rattle.std.proofs.lemmas.Bool.{false≢true}
use Rattle.luf_tree.specs.Syntax as syntax
use Rattle.luf_bare.specs.Bare.{Bare}
use Rattle.luf_bare.proofs.EachWritten.{Each, all_none, all_more}
use Rattle.luf_bare.specs.Texts as t
use Rattle.luf_bare.specs.Texts.{WritesNames, WritesParams, WritesAttribute, WritesDeclared, WritesPath, WritesMethod, WritesSemicolon, WritesExpr, WritesSteps, WritesOperand, WritesSimple, WritesPrefix, WritesVariable, WritesCall, WritesParen, WritesHead, WritesSuffixes, WritesSuffix, WritesArgs, WritesExprs, WritesTable, WritesFields, WritesField, WritesFuncBody, WritesBlock, WritesStats, WritesReturn, WritesStat, WritesTargets, WritesArm, WritesArms, WritesElse, WritesForStep}

each_append : {X : Type 0} {Fits : X → Type 0} {xs ys : List X} → Each Fits xs → Each Fits ys → Each Fits (xs ++ ys)
each_append all_none more = more
each_append (all_more fits all) more = all_more fits (each_append all more)

abbrev sign_is_semicolon : token_sign.Sign → Bool
sign_is_semicolon sign.Semicolon = true
sign_is_semicolon _ = false

abbrev pub is_semicolon : Tok → Bool
is_semicolon (tok.Sign s) = sign_is_semicolon s
is_semicolon _ = false

string_is : (t : Tok) → t ≡ tok.Short ⊎ t ≡ tok.Long → is_semicolon t ≡ false
string_is t (inl short) = ap is_semicolon short
string_is t (inr long) = ap is_semicolon long

sign_binary_is : (s : token_sign.Sign) → 0 < sign_precedence s → sign_is_semicolon s ≡ false
sign_binary_is sign.Semicolon above = absurd (omega (arith, above))
sign_binary_is _ above = refl

binary_is : (t : Tok) → 0 < binary_precedence t → is_semicolon t ≡ false
binary_is (tok.Sign s) above = sign_binary_is s above
binary_is _ above = refl

sign_unary_is : (s : token_sign.Sign) → is_unary_sign s ≡ true → sign_is_semicolon s ≡ false
sign_unary_is sign.Semicolon one = absurd (false≢true one)
sign_unary_is _ one = refl

unary_is : (t : Tok) → is_unary t ≡ true → is_semicolon t ≡ false
unary_is (tok.Sign s) one = sign_unary_is s one
unary_is _ one = refl

module _ {X : Type 0} (kind : X → Tok) (added : X → Bool) where
  -- a word that is not added is no `;`
  abbrev pub Sound : X → Type 0
  Sound x = added x ≡ false → is_semicolon (kind x) ≡ false

  kept : {x : X} {t : Tok} → (kind x ≡ t) × (added x ≡ false) → is_semicolon t ≡ false → Sound x
  kept keeps other _ = ap is_semicolon keeps.0 ∙ other

  put_in : {x : X} {P : Type 0} → P × (added x ≡ true) → Sound x
  put_in adds own = absurd (false≢true (sym own ∙ adds.1))

  kept_string : {x : X} → (kind x ≡ tok.Short ⊎ kind x ≡ tok.Long) × (added x ≡ false) → Sound x
  kept_string keeps own = string_is _ keeps.0

  kept_binary : {x : X} {m : ℕ} → 0 < m → (binary_precedence (kind x) ≡ m) × (added x ≡ false) → Sound x
  kept_binary {x} above keeps own = binary_is (kind x) (omega (arith, above, keeps.0))

  kept_unary : {x : X} → (is_unary (kind x) ≡ true) × (added x ≡ false) → Sound x
  kept_unary {x} keeps own = unary_is (kind x) keeps.0

  sound_names : {a : List X} {words : List X} → WritesNames kind added a words → Each Sound words
  sound_names (t.one_name d0) = all_more (kept d0 refl) all_none
  sound_names (t.more_names d0 d1 d2) = all_more (kept d0 refl) (all_more (kept d1 refl) (sound_names d2))

  sound_params : {a : List X} {b : Bool} {words : List X} → WritesParams kind added a b words → Each Sound words
  sound_params t.no_params = all_none
  sound_params (t.dots_alone d0) = all_more (kept d0 refl) all_none
  sound_params (t.names_alone d0) = sound_names d0
  sound_params (t.names_and_dots d0 d1 d2) = each_append (sound_names d0) (all_more (kept d1 refl) (all_more (kept d2 refl) all_none))

  sound_attribute : {a : Option X} {words : List X} → WritesAttribute kind added a words → Each Sound words
  sound_attribute t.no_attribute = all_none
  sound_attribute (t.an_attribute d0 d1 d2) = all_more (kept d0 refl) (all_more (kept d1 refl) (all_more (kept d2 refl) all_none))

  sound_declared : {a : List (syntax.DeclaredName (Bare X))} {words : List X} → WritesDeclared kind added a words → Each Sound words
  sound_declared (t.one_declared d0 d1) = all_more (kept d0 refl) (sound_attribute d1)
  sound_declared (t.more_declared d0 d1 d2 d3) = all_more (kept d0 refl) (each_append (sound_attribute d1) (all_more (kept d2 refl) (sound_declared d3)))

  sound_path : {a : List X} {words : List X} → WritesPath kind added a words → Each Sound words
  sound_path (t.path_end d0) = all_more (kept d0 refl) all_none
  sound_path (t.path_more d0 d1 d2) = all_more (kept d0 refl) (all_more (kept d1 refl) (sound_path d2))

  sound_method : {a : Option X} {words : List X} → WritesMethod kind added a words → Each Sound words
  sound_method t.no_method = all_none
  sound_method (t.a_method d0 d1) = all_more (kept d0 refl) (all_more (kept d1 refl) all_none)

  sound_semicolon : {words : List X} → WritesSemicolon kind added words → Each Sound words
  sound_semicolon t.no_semicolon = all_none
  sound_semicolon (t.a_semicolon d0) = all_more (put_in d0) all_none

  mutual
    sound_expr : {a : ℕ} {b : syntax.Expression (Bare X)} {words : List X} → WritesExpr kind added a b words → Each Sound words
    sound_expr (t.operand_expr d0) = sound_operand d0
    sound_expr (t.chain_expr d0 _ d2 d3) = each_append (sound_expr d2) (sound_steps d0 d3)

    sound_steps : {a : ℕ} {b : syntax.Operations (Bare X)} {words : List X} → 0 < a → WritesSteps kind added a b words → Each Sound words
    sound_steps above (t.one_step d0 d1) = all_more (kept_binary above d0) (sound_expr d1)
    sound_steps above (t.more_steps d0 d1 d2) = all_more (kept_binary above d0) (each_append (sound_expr d1) (sound_steps above d2))

    sound_operand : {a : syntax.Expression (Bare X)} {words : List X} → WritesOperand kind added a words → Each Sound words
    sound_operand (t.unary_operand d0 d1) = all_more (kept_unary d0) (sound_operand d1)
    sound_operand (t.power_operand d0 d1 d2) = each_append (sound_simple d0) (all_more (kept d1 refl) (sound_operand d2))
    sound_operand (t.simple_operand d0) = sound_simple d0

    sound_simple : {a : syntax.Expression (Bare X)} {words : List X} → WritesSimple kind added a words → Each Sound words
    sound_simple (t.nil_simple d0) = all_more (kept d0 refl) all_none
    sound_simple (t.true_simple d0) = all_more (kept d0 refl) all_none
    sound_simple (t.false_simple d0) = all_more (kept d0 refl) all_none
    sound_simple (t.number_simple d0) = all_more (kept d0 refl) all_none
    sound_simple (t.string_simple d0) = all_more (kept_string d0) all_none
    sound_simple (t.vararg_simple d0) = all_more (kept d0 refl) all_none
    sound_simple (t.function_simple d0 d1) = all_more (kept d0 refl) (sound_func_body d1)
    sound_simple (t.table_simple d0) = sound_table d0
    sound_simple (t.prefix_simple d0) = sound_prefix d0

    sound_prefix : {a : syntax.Expression (Bare X)} {words : List X} → WritesPrefix kind added a words → Each Sound words
    sound_prefix (t.variable_prefix d0) = sound_variable d0
    sound_prefix (t.call_prefix d0) = sound_call d0
    sound_prefix (t.paren_prefix d0) = sound_paren d0

    sound_variable : {a : syntax.Expression (Bare X)} {words : List X} → WritesVariable kind added a words → Each Sound words
    sound_variable (t.name_variable d0) = all_more (kept d0 refl) all_none
    sound_variable (t.suffixed_variable d0 d1) = each_append (sound_head d0) (sound_suffixes d1)

    sound_call : {a : syntax.Expression (Bare X)} {words : List X} → WritesCall kind added a words → Each Sound words
    sound_call (t.suffixed_call d0 d1) = each_append (sound_head d0) (sound_suffixes d1)

    sound_paren : {a : syntax.Expression (Bare X)} {words : List X} → WritesParen kind added a words → Each Sound words
    sound_paren (t.paren d0 d1 d2) = all_more (kept d0 refl) (each_append (sound_expr d1) (all_more (kept d2 refl) all_none))

    sound_head : {a : syntax.Expression (Bare X)} {words : List X} → WritesHead kind added a words → Each Sound words
    sound_head (t.name_head d0) = all_more (kept d0 refl) all_none
    sound_head (t.paren_head d0) = sound_paren d0

    sound_suffixes : {a : Bool} {b : syntax.Suffixes (Bare X)} {words : List X} → WritesSuffixes kind added a b words → Each Sound words
    sound_suffixes (t.one_suffix d0) = sound_suffix d0
    sound_suffixes (t.more_suffixes d0 d1) = each_append (sound_suffix d0) (sound_suffixes d1)

    sound_suffix : {a : Bool} {b : syntax.Suffix (Bare X)} {words : List X} → WritesSuffix kind added a b words → Each Sound words
    sound_suffix (t.dot_suffix d0 d1) = all_more (kept d0 refl) (all_more (kept d1 refl) all_none)
    sound_suffix (t.index_suffix d0 d1 d2) = all_more (kept d0 refl) (each_append (sound_expr d1) (all_more (kept d2 refl) all_none))
    sound_suffix (t.call_suffix d0) = sound_args d0
    sound_suffix (t.method_suffix d0 d1 d2) = all_more (kept d0 refl) (all_more (kept d1 refl) (sound_args d2))

    sound_args : {a : syntax.Arguments (Bare X)} {words : List X} → WritesArgs kind added a words → Each Sound words
    sound_args (t.no_args d0 d1) = all_more (kept d0 refl) (all_more (kept d1 refl) all_none)
    sound_args (t.list_args d0 d1 d2 _) = all_more (kept d0 refl) (each_append (sound_exprs d1) (all_more (kept d2 refl) all_none))
    sound_args (t.lone_args d0 d1 d2 _) = all_more (put_in d0) (each_append (sound_exprs d1) (all_more (put_in d2) all_none))
    sound_args (t.string_args d0) = all_more (kept_string d0) all_none
    sound_args (t.table_args d0) = sound_table d0

    sound_exprs : {a : syntax.Expressions (Bare X)} {words : List X} → WritesExprs kind added a words → Each Sound words
    sound_exprs (t.one_expr d0) = sound_expr d0
    sound_exprs (t.more_exprs d0 d1 d2) = each_append (sound_expr d0) (all_more (kept d1 refl) (sound_exprs d2))

    sound_table : {a : syntax.Fields (Bare X)} {words : List X} → WritesTable kind added a words → Each Sound words
    sound_table (t.table d0 d1 d2) = all_more (kept d0 refl) (each_append (sound_fields d1) (all_more (kept d2 refl) all_none))

    sound_fields : {a : syntax.Fields (Bare X)} {words : List X} → WritesFields kind added a words → Each Sound words
    sound_fields t.no_fields = all_none
    sound_fields (t.last_field d0) = sound_field d0
    sound_fields (t.more_fields d0 d1 d2) = each_append (sound_field d0) (all_more (put_in d1) (sound_fields d2))

    sound_field : {a : syntax.Field (Bare X)} {words : List X} → WritesField kind added a words → Each Sound words
    sound_field (t.keyed_field d0 d1 d2 d3 d4) = all_more (kept d0 refl) (each_append (sound_expr d1) (all_more (kept d2 refl) (all_more (kept d3 refl) (sound_expr d4))))
    sound_field (t.named_field d0 d1 d2) = all_more (kept d0 refl) (all_more (kept d1 refl) (sound_expr d2))
    sound_field (t.item_field d0) = sound_expr d0

    sound_func_body : {a : syntax.FunctionBody (Bare X)} {words : List X} → WritesFuncBody kind added a words → Each Sound words
    sound_func_body (t.func_body d0 d1 d2 d3 d4) = all_more (kept d0 refl) (each_append (sound_params d1) (all_more (kept d2 refl) (each_append (sound_block d3) (all_more (kept d4 refl) all_none))))

    pub sound_block : {a : syntax.Block (Bare X)} {words : List X} → WritesBlock kind added a words → Each Sound words
    sound_block (t.block d0) = sound_stats d0

    sound_stats : {a : syntax.Statements (Bare X)} {words : List X} → WritesStats kind added a words → Each Sound words
    sound_stats t.no_stats = all_none
    sound_stats (t.last_stat d0) = sound_return d0
    sound_stats (t.empty_stat d0 d1) = all_more (put_in d0) (sound_stats d1)
    sound_stats (t.more_stats d0 _ d2) = each_append (sound_stat d0) (sound_stats d2)

    sound_return : {a : syntax.Statement (Bare X)} {words : List X} → WritesReturn kind added a words → Each Sound words
    sound_return (t.return_nothing d0 d1) = all_more (kept d0 refl) (sound_semicolon d1)
    sound_return (t.return_values d0 d1 d2) = all_more (kept d0 refl) (each_append (sound_exprs d1) (sound_semicolon d2))

    sound_stat : {a : syntax.Statement (Bare X)} {words : List X} → WritesStat kind added a words → Each Sound words
    sound_stat (t.local_stat d0 d1) = all_more (kept d0 refl) (sound_declared d1)
    sound_stat (t.local_values_stat d0 d1 d2 d3) = all_more (kept d0 refl) (each_append (sound_declared d1) (all_more (kept d2 refl) (sound_exprs d3)))
    sound_stat (t.assign_stat d0 d1 d2) = each_append (sound_targets d0) (all_more (kept d1 refl) (sound_exprs d2))
    sound_stat (t.call_stat d0) = sound_call d0
    sound_stat (t.do_stat d0 d1 d2) = all_more (kept d0 refl) (each_append (sound_block d1) (all_more (kept d2 refl) all_none))
    sound_stat (t.while_stat d0 d1 d2 d3 d4) = all_more (kept d0 refl) (each_append (sound_expr d1) (all_more (kept d2 refl) (each_append (sound_block d3) (all_more (kept d4 refl) all_none))))
    sound_stat (t.repeat_stat d0 d1 d2 d3) = all_more (kept d0 refl) (each_append (sound_block d1) (all_more (kept d2 refl) (sound_expr d3)))
    sound_stat (t.if_stat d0 d1 d2 d3) = all_more (kept d0 refl) (each_append (sound_arms d1) (each_append (sound_else d2) (all_more (kept d3 refl) all_none)))
    sound_stat (t.for_stat d0 d1 d2 d3 d4 d5 d6 d7 d8 d9) = all_more (kept d0 refl) (all_more (kept d1 refl) (all_more (kept d2 refl) (each_append (sound_expr d3) (all_more (kept d4 refl) (each_append (sound_expr d5) (each_append (sound_for_step d6) (all_more (kept d7 refl) (each_append (sound_block d8) (all_more (kept d9 refl) all_none)))))))))
    sound_stat (t.for_in_stat d0 d1 d2 d3 d4 d5 d6) = all_more (kept d0 refl) (each_append (sound_names d1) (all_more (kept d2 refl) (each_append (sound_exprs d3) (all_more (kept d4 refl) (each_append (sound_block d5) (all_more (kept d6 refl) all_none))))))
    sound_stat (t.function_stat d0 d1 d2 d3) = all_more (kept d0 refl) (each_append (sound_path d1) (each_append (sound_method d2) (sound_func_body d3)))
    sound_stat (t.local_function_stat d0 d1 d2 d3) = all_more (kept d0 refl) (all_more (kept d1 refl) (all_more (kept d2 refl) (sound_func_body d3)))
    sound_stat (t.label_stat d0 d1 d2) = all_more (kept d0 refl) (all_more (kept d1 refl) (all_more (kept d2 refl) all_none))
    sound_stat (t.goto_stat d0 d1) = all_more (kept d0 refl) (all_more (kept d1 refl) all_none)
    sound_stat (t.break_stat d0) = all_more (kept d0 refl) all_none

    sound_targets : {a : syntax.Expressions (Bare X)} {words : List X} → WritesTargets kind added a words → Each Sound words
    sound_targets (t.one_target d0) = sound_variable d0
    sound_targets (t.more_targets d0 d1 d2) = each_append (sound_variable d0) (all_more (kept d1 refl) (sound_targets d2))

    sound_arm : {a : syntax.Arm (Bare X)} {words : List X} → WritesArm kind added a words → Each Sound words
    sound_arm (t.arm d0 d1 d2) = each_append (sound_expr d0) (all_more (kept d1 refl) (sound_block d2))

    sound_arms : {a : syntax.Arms (Bare X)} {words : List X} → WritesArms kind added a words → Each Sound words
    sound_arms (t.one_arm d0) = sound_arm d0
    sound_arms (t.more_arms d0 d1 d2) = each_append (sound_arm d0) (all_more (kept d1 refl) (sound_arms d2))

    sound_else : {a : syntax.OptionalBlock (Bare X)} {words : List X} → WritesElse kind added a words → Each Sound words
    sound_else t.no_else = all_none
    sound_else (t.an_else d0 d1) = all_more (kept d0 refl) (sound_block d1)

    sound_for_step : {a : syntax.OptionalExpression (Bare X)} {words : List X} → WritesForStep kind added a words → Each Sound words
    sound_for_step t.no_for_step = all_none
    sound_for_step (t.a_for_step d0 d1) = all_more (kept d0 refl) (sound_expr d1)
