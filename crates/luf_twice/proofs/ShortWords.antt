-- Of the words of a text of a program, those that are short strings are the program's: what is added is a sign.
use Rattle.std.proofs.Common.{◌≡◌, ℕ, ◌⊎◌, inl, inr, Bool, true, false, Option, List, ◌++◌, sym, ◌∙◌}
use Rattle.luf_lex.specs.declared.token.Tok.{Tok}
use Rattle.luf_lex.specs.declared.token.Tok.TheVariants as tok
use Rattle.luf_lex.specs.declared.token.Sign.{Sign as Mark}
use Rattle.luf_lex.specs.declared.token.Sign.TheVariants as sign
use Rattle.luf_tree.specs.Syntax as syntax
use Rattle.luf_bare.specs.Bare.{Bare}
use Rattle.luf_bare.proofs.EachWritten.{Each, all_none, all_more}
use Rattle.luf_bare.specs.Texts as t
use Rattle.luf_bare.specs.Texts.{WritesNames, WritesParams, WritesAttribute, WritesDeclared, WritesPath, WritesMethod, WritesSemicolon, WritesExpr, WritesSteps, WritesOperand, WritesSimple, WritesPrefix, WritesVariable, WritesCall, WritesParen, WritesHead, WritesSuffixes, WritesSuffix, WritesArgs, WritesExprs, WritesTable, WritesFields, WritesField, WritesFuncBody, WritesBlock, WritesStats, WritesReturn, WritesStat, WritesTargets, WritesArm, WritesArms, WritesElse, WritesForStep}

both : {X : Type 0} {Fits : X → Type 0} {xs ys : List X} → Each Fits xs → Each Fits ys → Each Fits (xs ++ ys)
both all_none more = more
both (all_more fits all) more = all_more fits (both all more)

no_sign : (s : Mark) → tok.Sign s ≡ tok.Short → ⊥
no_sign s same = absurd cc

module _ {X : Type 0} (kind : X → Tok) (added : X → Bool) where
  -- a short string is not added
  abbrev pub Fits : X → Type 0
  Fits x = kind x ≡ tok.Short → added x ≡ false

  own : {x : X} → added x ≡ false → Fits x
  own is short = is

  extra : {x : X} {s : Mark} → kind x ≡ tok.Sign s → added x ≡ true → Fits x
  extra {s = s} sign is short = absurd (no_sign s (sym sign ∙ short))

  extra_separator : {x : X} → kind x ≡ tok.Sign sign.Comma ⊎ kind x ≡ tok.Sign sign.Semicolon → added x ≡ true → Fits x
  extra_separator (inl comma) is = extra comma is
  extra_separator (inr semicolon) is = extra semicolon is

  each_names : {a : List X} {words : List X} → WritesNames kind added a words → Each Fits words
  each_names (t.one_name d0) = all_more (own d0.1) all_none
  each_names (t.more_names d0 d1 d2) = all_more (own d0.1) (all_more (own d1.1) (each_names d2))

  each_params : {a : List X} {b : Bool} {words : List X} → WritesParams kind added a b words → Each Fits words
  each_params t.no_params = all_none
  each_params (t.dots_alone d0) = all_more (own d0.1) all_none
  each_params (t.names_alone d0) = each_names d0
  each_params (t.names_and_dots d0 d1 d2) = both (each_names d0) (all_more (own d1.1) (all_more (own d2.1) all_none))

  each_attribute : {a : Option X} {words : List X} → WritesAttribute kind added a words → Each Fits words
  each_attribute t.no_attribute = all_none
  each_attribute (t.an_attribute d0 d1 d2) = all_more (own d0.1) (all_more (own d1.1) (all_more (own d2.1) all_none))

  each_declared : {a : List (syntax.DeclaredName (Bare X))} {words : List X} → WritesDeclared kind added a words → Each Fits words
  each_declared (t.one_declared d0 d1) = all_more (own d0.1) (each_attribute d1)
  each_declared (t.more_declared d0 d1 d2 d3) = all_more (own d0.1) (both (each_attribute d1) (all_more (own d2.1) (each_declared d3)))

  each_path : {a : List X} {words : List X} → WritesPath kind added a words → Each Fits words
  each_path (t.path_end d0) = all_more (own d0.1) all_none
  each_path (t.path_more d0 d1 d2) = all_more (own d0.1) (all_more (own d1.1) (each_path d2))

  each_method : {a : Option X} {words : List X} → WritesMethod kind added a words → Each Fits words
  each_method t.no_method = all_none
  each_method (t.a_method d0 d1) = all_more (own d0.1) (all_more (own d1.1) all_none)

  each_semicolon : {words : List X} → WritesSemicolon kind added words → Each Fits words
  each_semicolon t.no_semicolon = all_none
  each_semicolon (t.a_semicolon d0) = all_more (extra d0.0 d0.1) all_none

  mutual
    each_expr : {a : ℕ} {b : syntax.Expression (Bare X)} {words : List X} → WritesExpr kind added a b words → Each Fits words
    each_expr (t.operand_expr d0) = each_operand d0
    each_expr (t.chain_expr _ _ d2 d3) = both (each_expr d2) (each_steps d3)

    each_steps : {a : ℕ} {b : syntax.Operations (Bare X)} {words : List X} → WritesSteps kind added a b words → Each Fits words
    each_steps (t.one_step d0 d1) = all_more (own d0.1) (each_expr d1)
    each_steps (t.more_steps d0 d1 d2) = all_more (own d0.1) (both (each_expr d1) (each_steps d2))

    each_operand : {a : syntax.Expression (Bare X)} {words : List X} → WritesOperand kind added a words → Each Fits words
    each_operand (t.unary_operand d0 d1) = all_more (own d0.1) (each_operand d1)
    each_operand (t.power_operand d0 d1 d2) = both (each_simple d0) (all_more (own d1.1) (each_operand d2))
    each_operand (t.simple_operand d0) = each_simple d0

    each_simple : {a : syntax.Expression (Bare X)} {words : List X} → WritesSimple kind added a words → Each Fits words
    each_simple (t.nil_simple d0) = all_more (own d0.1) all_none
    each_simple (t.true_simple d0) = all_more (own d0.1) all_none
    each_simple (t.false_simple d0) = all_more (own d0.1) all_none
    each_simple (t.number_simple d0) = all_more (own d0.1) all_none
    each_simple (t.string_simple d0) = all_more (own d0.1) all_none
    each_simple (t.vararg_simple d0) = all_more (own d0.1) all_none
    each_simple (t.function_simple d0 d1) = all_more (own d0.1) (each_func_body d1)
    each_simple (t.table_simple d0) = each_table d0
    each_simple (t.prefix_simple d0) = each_prefix d0

    each_prefix : {a : syntax.Expression (Bare X)} {words : List X} → WritesPrefix kind added a words → Each Fits words
    each_prefix (t.variable_prefix d0) = each_variable d0
    each_prefix (t.call_prefix d0) = each_call d0
    each_prefix (t.paren_prefix d0) = each_paren d0

    each_variable : {a : syntax.Expression (Bare X)} {words : List X} → WritesVariable kind added a words → Each Fits words
    each_variable (t.name_variable d0) = all_more (own d0.1) all_none
    each_variable (t.suffixed_variable d0 d1) = both (each_head d0) (each_suffixes d1)

    each_call : {a : syntax.Expression (Bare X)} {words : List X} → WritesCall kind added a words → Each Fits words
    each_call (t.suffixed_call d0 d1) = both (each_head d0) (each_suffixes d1)

    each_paren : {a : syntax.Expression (Bare X)} {words : List X} → WritesParen kind added a words → Each Fits words
    each_paren (t.paren d0 d1 d2) = all_more (own d0.1) (both (each_expr d1) (all_more (own d2.1) all_none))

    each_head : {a : syntax.Expression (Bare X)} {words : List X} → WritesHead kind added a words → Each Fits words
    each_head (t.name_head d0) = all_more (own d0.1) all_none
    each_head (t.paren_head d0) = each_paren d0

    each_suffixes : {a : Bool} {b : syntax.Suffixes (Bare X)} {words : List X} → WritesSuffixes kind added a b words → Each Fits words
    each_suffixes (t.one_suffix d0) = each_suffix d0
    each_suffixes (t.more_suffixes d0 d1) = both (each_suffix d0) (each_suffixes d1)

    each_suffix : {a : Bool} {b : syntax.Suffix (Bare X)} {words : List X} → WritesSuffix kind added a b words → Each Fits words
    each_suffix (t.dot_suffix d0 d1) = all_more (own d0.1) (all_more (own d1.1) all_none)
    each_suffix (t.index_suffix d0 d1 d2) = all_more (own d0.1) (both (each_expr d1) (all_more (own d2.1) all_none))
    each_suffix (t.call_suffix d0) = each_args d0
    each_suffix (t.method_suffix d0 d1 d2) = all_more (own d0.1) (all_more (own d1.1) (each_args d2))

    each_args : {a : syntax.Arguments (Bare X)} {words : List X} → WritesArgs kind added a words → Each Fits words
    each_args (t.no_args d0 d1) = all_more (own d0.1) (all_more (own d1.1) all_none)
    each_args (t.list_args d0 d1 d2 _) = all_more (own d0.1) (both (each_exprs d1) (all_more (own d2.1) all_none))
    each_args (t.lone_args d0 d1 d2 _) = all_more (extra d0.0 d0.1) (both (each_exprs d1) (all_more (extra d2.0 d2.1) all_none))
    each_args (t.string_args d0) = all_more (own d0.1) all_none
    each_args (t.table_args d0) = each_table d0

    each_exprs : {a : syntax.Expressions (Bare X)} {words : List X} → WritesExprs kind added a words → Each Fits words
    each_exprs (t.one_expr d0) = each_expr d0
    each_exprs (t.more_exprs d0 d1 d2) = both (each_expr d0) (all_more (own d1.1) (each_exprs d2))

    each_table : {a : syntax.Fields (Bare X)} {words : List X} → WritesTable kind added a words → Each Fits words
    each_table (t.table d0 d1 d2) = all_more (own d0.1) (both (each_fields d1) (all_more (own d2.1) all_none))

    each_fields : {a : syntax.Fields (Bare X)} {words : List X} → WritesFields kind added a words → Each Fits words
    each_fields t.no_fields = all_none
    each_fields (t.last_field d0) = each_field d0
    each_fields (t.more_fields d0 d1 d2) = both (each_field d0) (all_more (extra_separator d1.0 d1.1) (each_fields d2))

    each_field : {a : syntax.Field (Bare X)} {words : List X} → WritesField kind added a words → Each Fits words
    each_field (t.keyed_field d0 d1 d2 d3 d4) = all_more (own d0.1) (both (each_expr d1) (all_more (own d2.1) (all_more (own d3.1) (each_expr d4))))
    each_field (t.named_field d0 d1 d2) = all_more (own d0.1) (all_more (own d1.1) (each_expr d2))
    each_field (t.item_field d0) = each_expr d0

    each_func_body : {a : syntax.FunctionBody (Bare X)} {words : List X} → WritesFuncBody kind added a words → Each Fits words
    each_func_body (t.func_body d0 d1 d2 d3 d4) = all_more (own d0.1) (both (each_params d1) (all_more (own d2.1) (both (each_block d3) (all_more (own d4.1) all_none))))

    pub each_block : {a : syntax.Block (Bare X)} {words : List X} → WritesBlock kind added a words → Each Fits words
    each_block (t.block d0) = each_stats d0

    each_stats : {a : syntax.Statements (Bare X)} {words : List X} → WritesStats kind added a words → Each Fits words
    each_stats t.no_stats = all_none
    each_stats (t.last_stat d0) = each_return d0
    each_stats (t.empty_stat d0 d1) = all_more (extra d0.0 d0.1) (each_stats d1)
    each_stats (t.more_stats d0 _ d2) = both (each_stat d0) (each_stats d2)

    each_return : {a : syntax.Statement (Bare X)} {words : List X} → WritesReturn kind added a words → Each Fits words
    each_return (t.return_nothing d0 d1) = all_more (own d0.1) (each_semicolon d1)
    each_return (t.return_values d0 d1 d2) = all_more (own d0.1) (both (each_exprs d1) (each_semicolon d2))

    each_stat : {a : syntax.Statement (Bare X)} {words : List X} → WritesStat kind added a words → Each Fits words
    each_stat (t.local_stat d0 d1) = all_more (own d0.1) (each_declared d1)
    each_stat (t.local_values_stat d0 d1 d2 d3) = all_more (own d0.1) (both (each_declared d1) (all_more (own d2.1) (each_exprs d3)))
    each_stat (t.assign_stat d0 d1 d2) = both (each_targets d0) (all_more (own d1.1) (each_exprs d2))
    each_stat (t.call_stat d0) = each_call d0
    each_stat (t.do_stat d0 d1 d2) = all_more (own d0.1) (both (each_block d1) (all_more (own d2.1) all_none))
    each_stat (t.while_stat d0 d1 d2 d3 d4) = all_more (own d0.1) (both (each_expr d1) (all_more (own d2.1) (both (each_block d3) (all_more (own d4.1) all_none))))
    each_stat (t.repeat_stat d0 d1 d2 d3) = all_more (own d0.1) (both (each_block d1) (all_more (own d2.1) (each_expr d3)))
    each_stat (t.if_stat d0 d1 d2 d3) = all_more (own d0.1) (both (each_arms d1) (both (each_else d2) (all_more (own d3.1) all_none)))
    each_stat (t.for_stat d0 d1 d2 d3 d4 d5 d6 d7 d8 d9) = all_more (own d0.1) (all_more (own d1.1) (all_more (own d2.1) (both (each_expr d3) (all_more (own d4.1) (both (each_expr d5) (both (each_for_step d6) (all_more (own d7.1) (both (each_block d8) (all_more (own d9.1) all_none)))))))))
    each_stat (t.for_in_stat d0 d1 d2 d3 d4 d5 d6) = all_more (own d0.1) (both (each_names d1) (all_more (own d2.1) (both (each_exprs d3) (all_more (own d4.1) (both (each_block d5) (all_more (own d6.1) all_none))))))
    each_stat (t.function_stat d0 d1 d2 d3) = all_more (own d0.1) (both (each_path d1) (both (each_method d2) (each_func_body d3)))
    each_stat (t.local_function_stat d0 d1 d2 d3) = all_more (own d0.1) (all_more (own d1.1) (all_more (own d2.1) (each_func_body d3)))
    each_stat (t.label_stat d0 d1 d2) = all_more (own d0.1) (all_more (own d1.1) (all_more (own d2.1) all_none))
    each_stat (t.goto_stat d0 d1) = all_more (own d0.1) (all_more (own d1.1) all_none)
    each_stat (t.break_stat d0) = all_more (own d0.1) all_none

    each_targets : {a : syntax.Expressions (Bare X)} {words : List X} → WritesTargets kind added a words → Each Fits words
    each_targets (t.one_target d0) = each_variable d0
    each_targets (t.more_targets d0 d1 d2) = both (each_variable d0) (all_more (own d1.1) (each_targets d2))

    each_arm : {a : syntax.Arm (Bare X)} {words : List X} → WritesArm kind added a words → Each Fits words
    each_arm (t.arm d0 d1 d2) = both (each_expr d0) (all_more (own d1.1) (each_block d2))

    each_arms : {a : syntax.Arms (Bare X)} {words : List X} → WritesArms kind added a words → Each Fits words
    each_arms (t.one_arm d0) = each_arm d0
    each_arms (t.more_arms d0 d1 d2) = both (each_arm d0) (all_more (own d1.1) (each_arms d2))

    each_else : {a : syntax.OptionalBlock (Bare X)} {words : List X} → WritesElse kind added a words → Each Fits words
    each_else t.no_else = all_none
    each_else (t.an_else d0 d1) = all_more (own d0.1) (each_block d1)

    each_for_step : {a : syntax.OptionalExpression (Bare X)} {words : List X} → WritesForStep kind added a words → Each Fits words
    each_for_step t.no_for_step = all_none
    each_for_step (t.a_for_step d0 d1) = all_more (own d0.1) (each_expr d1)
