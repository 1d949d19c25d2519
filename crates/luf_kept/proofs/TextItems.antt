-- Arguments, tables, statements and blocks: texts of what holds others, from those of what they hold.
use Rattle.std.proofs.Common.{◌≡◌, ℕ, inl, Bool, true, false, Option, Some, None, List, [], ◌∷◌, ◌++◌, codes, refl}
use Rattle.luf_lex.specs.declared.token.Tok.TheVariants as tok
use Rattle.luf_lex.specs.declared.token.Word.TheVariants as word_is
use Rattle.luf_lex.specs.declared.token.Sign.TheVariants as sign_is
use Rattle.luf_tree.specs.Syntax as syntax
use Rattle.luf_tree.specs.TokenSyntax as tokens
use Rattle.luf_bare.specs.Bare.{Bare, words_of, as_here, before, chosen_expression, chosen_expressions, chosen_field, chosen_fields}
use Rattle.luf_bare.specs.Lone.{is_lone, is_lone_item, item_enclosed, items_enclosed, by_kind}
use Rattle.luf_bare.specs.ReadBack.{TextWord, token_of, is_added}
use Rattle.luf_bare.specs.Texts as w
use Rattle.luf_bare.specs.Texts.{WritesExpr, WritesSimple, WritesArgs, WritesExprs, WritesTable, WritesFields, WritesField, WritesBlock, WritesStats, WritesReturn, WritesStat, WritesElse}
use Rattle.luf_draft.specs.Draft.{Draft, word, trail, nothing, drafts, before_statement, source_ends}
use Rattle.luf_draft.specs.Form.{Items, lone_string, lone_table, with_block, plain_items, items_of, kind_of_one, kind_of_last, last_kind, Words, lone, arguments_as, expression, field, more_fields, statement, statements, body, main, opens, first_word}
use Rattle.luf_kept.proofs.TextParts.{own, Stands, Reads, done, sign, extra_sign, gap, may_trail, part, lead, follow, last, whole, grouped, nested, lone_gap, opened, to_end}
use Rattle.luf_kept.proofs.TextNames.{Leads}
use Rattle.luf_kept.proofs.TextGuards.{Later, GoesOn, tell_guarded}

-- ---- arguments

-- which of them are lone, and which stand in parentheses, by whether one string does and whether one table does
pub data Fits : Items → Bool → (Bool → Bool → Bool) → Type 0 where
  string_fits : Fits lone_string true (λ of_string of_table. of_string)
  table_fits : Fits lone_table true (λ of_string of_table. of_table)
  block_fits : Fits with_block false (λ of_string of_table. true)
  plain_fits : Fits plain_items false (λ of_string of_table. true)

module _ (bytes : ℕ → List ℕ) (says : ℕ → TextWord) (encloses : tokens.Expressions → Bool → Bool) where
  abbrev as_written : tokens.Expression → syntax.Expression Words
  as_written e = chosen_expression (words_of bytes) as_here e

  abbrev of_text : tokens.Expression → syntax.Expression (Bare TextWord)
  of_text e = chosen_expression (words_of says) encloses e

  fits_last : (e : tokens.Expression) → Fits (last_kind (as_written e)) false (λ of_string of_table. true)
  fits_last (syntax.function span inner) = block_fits
  fits_last (syntax.table span items) = block_fits
  fits_last _ = plain_fits

  fits_one : (e : tokens.Expression) → Fits (kind_of_one (as_written e)) (is_lone_item (of_text e)) (λ of_string of_table. item_enclosed of_string of_table e)
  fits_one (syntax.string span value) = string_fits
  fits_one (syntax.table span items) = table_fits
  fits_one (syntax.function span inner) = block_fits
  fits_one _ = plain_fits

  fits_behind : (last : tokens.Expression) (rest : tokens.Expressions) → Fits (kind_of_last (as_written last) (chosen_expressions (words_of bytes) as_here rest)) false (λ of_string of_table. true)
  fits_behind last syntax.no_expressions = fits_last last
  fits_behind last (syntax.more_expressions e rest) = fits_behind e rest

  pub fits : (e : tokens.Expression) (rest : tokens.Expressions)
      → Fits (items_of (chosen_expressions (words_of bytes) as_here (syntax.more_expressions e rest))) (is_lone (chosen_expressions (words_of says) encloses (syntax.more_expressions e rest)))
      (λ of_string of_table. items_enclosed of_string of_table (syntax.more_expressions e rest))
  fits e syntax.no_expressions = fits_one e
  fits e (syntax.more_expressions f rest) = fits_behind f rest

-- a lone argument without parentheses
lone_simple : {e : syntax.Expression (Bare TextWord)} {words : List TextWord} → WritesSimple token_of is_added e words → is_lone_item e ≡ true
    → WritesArgs token_of is_added (syntax.arguments tt false (syntax.more_expressions e syntax.no_expressions)) words
lone_simple (w.string_simple t) lone = w.string_args t
lone_simple (w.table_simple t) lone = w.table_args t
lone_simple (w.prefix_simple (w.variable_prefix (w.name_variable _))) lone = absurd cc
lone_simple (w.prefix_simple (w.variable_prefix (w.suffixed_variable _ _))) lone = absurd cc
lone_simple (w.prefix_simple (w.call_prefix (w.suffixed_call _ _))) lone = absurd cc
lone_simple (w.prefix_simple (w.paren_prefix (w.paren _ _ _))) lone = absurd cc
lone_simple _ lone = absurd cc

lone_expr : {n : ℕ} {e : syntax.Expression (Bare TextWord)} {words : List TextWord} → WritesExpr token_of is_added n e words → is_lone_item e ≡ true
    → WritesArgs token_of is_added (syntax.arguments tt false (syntax.more_expressions e syntax.no_expressions)) words
lone_expr (w.operand_expr (w.simple_operand e)) lone = lone_simple e lone
lone_expr (w.operand_expr (w.unary_operand _ _)) lone = absurd cc
lone_expr (w.operand_expr (w.power_operand _ _ _)) lone = absurd cc
lone_expr (w.chain_expr _ _ _ _) lone = absurd cc

lone_words : {es : syntax.Expressions (Bare TextWord)} {words : List TextWord} → WritesExprs token_of is_added es words → is_lone es ≡ true → WritesArgs token_of is_added (syntax.arguments tt false es) words
lone_words (w.one_expr e) lone = lone_expr e lone
lone_words (w.more_exprs _ _ (w.one_expr _)) lone = absurd cc
lone_words (w.more_exprs _ _ (w.more_exprs _ _ _)) lone = absurd cc

module _ (string_has table_has : Bool → Bool) (es : syntax.Expressions (Bare TextWord)) where
  tell_lone : (paren : Bool) (listed : List Draft → List Draft) → is_lone es ≡ true → Leads true false (WritesExprs token_of is_added es) listed
      → Leads false false (WritesArgs token_of is_added (syntax.arguments tt paren es)) (lone string_has table_has paren listed)
  tell_lone true listed is told = λ more. extra_sign sign_is.LeftParen (gap (lead (told (word (codes ")") ∷ more)) (λ t wrote. extra_sign sign_is.RightParen (done (w.lone_args (refl, refl) wrote (refl, refl) is)))))
  tell_lone false listed is told = λ more. gap (follow (told more) (λ t wrote. lone_words wrote is))

  pub tell_items : {items : Items} {is_one : Bool} {encloses : Bool → Bool → Bool} → Fits items is_one encloses → (had : Bool) (listed broken : List Draft → List Draft) → is_lone es ≡ is_one
      → Leads true false (WritesExprs token_of is_added es) listed → Leads true false (WritesExprs token_of is_added es) broken
      → Leads false false (WritesArgs token_of is_added (syntax.arguments tt (encloses (string_has had) (table_has had)) es)) (arguments_as string_has table_has items had listed broken)
  tell_items string_fits had listed broken is told told_broken = λ more. tell_lone (string_has had) listed is told more
  tell_items table_fits had listed broken is told told_broken = λ more. tell_lone (table_has had) listed is told more
  tell_items block_fits had listed broken is told told_broken =
      λ more. gap (sign sign_is.LeftParen (gap (lead (told _) (λ t wrote. gap (sign sign_is.RightParen (done (w.list_args (refl, refl) wrote (refl, refl) is)))))))
  tell_items plain_fits had listed broken is told told_broken =
      λ more. gap (opened (sign sign_is.LeftParen (part (nested (whole (gap (told_broken [])))) (λ t wrote. gap (sign sign_is.RightParen (done (w.list_args (refl, refl) wrote (refl, refl) is)))))))

-- ---- tables

module _ (string_has table_has : Bool → Bool) (bytes : ℕ → List ℕ) (says : ℕ → TextWord) where
  abbrev fields_form : syntax.Fields Words → List Draft
  fields_form syntax.no_fields = []
  fields_form (syntax.more_fields first rest) = field string_has table_has first (more_fields string_has table_has rest)

  abbrev pub TellsField : tokens.Field → Type 0
  TellsField s = Leads true false (WritesField token_of is_added (chosen_field (words_of says) (by_kind string_has table_has) s)) (field string_has table_has (chosen_field (words_of bytes) as_here s))

  -- where there are any
  abbrev pub TellsFields : tokens.Fields → Type 0
  TellsFields syntax.no_fields = Unit {0}
  TellsFields (syntax.more_fields first rest) =
      Reads true false (WritesFields token_of is_added (chosen_fields (words_of says) (by_kind string_has table_has) (syntax.more_fields first rest))) (drafts (fields_form (chosen_fields (words_of bytes) as_here (syntax.more_fields first rest)))) nothing

  abbrev pub TellsTable : tokens.Fields → Type 0
  TellsTable s = Stands true false (WritesTable token_of is_added (chosen_fields (words_of says) (by_kind string_has table_has) s)) (expression string_has table_has (syntax.table tt (chosen_fields (words_of bytes) as_here s)))

  pub tell_more_fields : (first : tokens.Field) (rest : tokens.Fields) → TellsField first → TellsFields rest → TellsFields (syntax.more_fields first rest)
  tell_more_fields first syntax.no_fields told told_rest =
      lead (told (trail ∷ [])) (λ t wrote. may_trail (done (to_end (WritesFields token_of is_added _) t (w.last_field wrote))) (done (w.more_fields wrote (inl refl, refl) w.no_fields)))
  tell_more_fields first (syntax.more_fields second rest) told told_rest =
      lead (told _) (λ t wrote. extra_sign sign_is.Comma (gap (follow told_rest (λ u wrote_rest. w.more_fields wrote (inl refl, refl) wrote_rest))))

  pub tell_table_of : (s : tokens.Fields) → TellsFields s → TellsTable s
  tell_table_of syntax.no_fields told = whole (sign sign_is.LeftBrace (gap (sign sign_is.RightBrace (done (w.table (refl, refl) w.no_fields (refl, refl))))))
  tell_table_of (syntax.more_fields first rest) told =
      grouped (whole (sign sign_is.LeftBrace (part (nested (whole (gap told))) (λ t wrote. gap (sign sign_is.RightBrace (done (w.table (refl, refl) wrote (refl, refl))))))))

-- ---- statements and blocks

module _ (string_has table_has : Bool → Bool) where
  -- a statement that is none of the program has no text
  pub data TellsStat : Option (syntax.Statement (Bare TextWord)) → Option (syntax.Statement Words) → Type 0 where
    silent : TellsStat None None
    tells : {b : syntax.Statement (Bare TextWord)} {s : syntax.Statement Words} → Stands true false (WritesStat token_of is_added b) (statement string_has table_has s) → TellsStat (Some b) (Some s)

  pub data TellsReturn : Option (syntax.Statement (Bare TextWord)) → Option (syntax.Statement Words) → Type 0 where
    tells_return : {b : syntax.Statement (Bare TextWord)} {s : syntax.Statement Words} → Stands true false (WritesReturn token_of is_added b) (statement string_has table_has s) → TellsReturn (Some b) (Some s)

  -- the statements of a block, with the gap before the first
  abbrev pub starting : syntax.Statements Words → List Draft → List Draft
  starting syntax.no_statements more = more
  starting (syntax.more_statements s rest) more = before_statement true ∷ statement string_has table_has s ∷ statements string_has table_has rest more

  abbrev pub TellsFirst : syntax.Statements (Bare TextWord) → syntax.Statements Words → Type 0
  TellsFirst bs syntax.no_statements = WritesStats token_of is_added bs []
  TellsFirst bs (syntax.more_statements s rest) = Leads false false (WritesStats token_of is_added bs) (starting (syntax.more_statements s rest))

  abbrev pub TellsLater : syntax.Statements (Bare TextWord) → syntax.Statements Words → Type 0
  TellsLater bs cs = Leads false false (Later bs) (statements string_has table_has cs)

  last_goes : {b : syntax.Statement (Bare TextWord)} (t : List TextWord) → WritesReturn token_of is_added b t → GoesOn (syntax.more_statements b syntax.no_statements) t []
  last_goes t wrote = record { wrote = to_end (WritesStats token_of is_added _) t (w.last_stat wrote); shut = tt }

  more_goes : {b : syntax.Statement (Bare TextWord)} {bs : syntax.Statements (Bare TextWord)} (t u : List TextWord) → WritesStat token_of is_added b t → Later bs u → GoesOn (syntax.more_statements b bs) t u
  more_goes t u wrote later = record { wrote = w.more_stats wrote later.shut later.wrote; shut = later.shut }

  pub tell_last_first : {b : Option (syntax.Statement (Bare TextWord))} {s : Option (syntax.Statement Words)} → TellsReturn b s → TellsFirst (before b syntax.no_statements) (before s syntax.no_statements)
  tell_last_first (tells_return stands) = λ more. gap (last stands (λ t wrote. w.last_stat wrote))

  pub tell_last_later : {b : Option (syntax.Statement (Bare TextWord))} {s : Option (syntax.Statement Words)} → TellsReturn b s → TellsLater (before b syntax.no_statements) (before s syntax.no_statements)
  tell_last_later (tells_return {s} stands) =
      λ more. gap (tell_guarded (statement string_has table_has s) more (opens (first_word (statement string_has table_has s) None)) refl stands (λ t wrote. done (last_goes t wrote)))

  pub tell_more_first : {b : Option (syntax.Statement (Bare TextWord))} {s : Option (syntax.Statement Words)} {bs : syntax.Statements (Bare TextWord)} (cs : syntax.Statements Words)
      → TellsStat b s → TellsFirst bs cs → TellsLater bs cs → TellsFirst (before b bs) (before s cs)
  tell_more_first cs silent first later = first
  tell_more_first cs (tells stands) first later = λ more. gap (part stands (λ t wrote. follow (later more) (λ u wrote_later. w.more_stats wrote wrote_later.shut wrote_later.wrote)))

  pub tell_more_later : {b : Option (syntax.Statement (Bare TextWord))} {s : Option (syntax.Statement Words)} {bs : syntax.Statements (Bare TextWord)} (cs : syntax.Statements Words)
      → TellsStat b s → TellsLater bs cs → TellsLater (before b bs) (before s cs)
  tell_more_later cs silent later = later
  tell_more_later cs (tells {s} stands) later =
      λ more. gap (tell_guarded (statement string_has table_has s) (statements string_has table_has cs more) (opens (first_word (statement string_has table_has s) None)) refl stands
      (λ t wrote. follow (later more) (λ u wrote_later. more_goes t u wrote wrote_later)))

  pub tell_inner : {bs : syntax.Statements (Bare TextWord)} (cs : syntax.Statements Words) → TellsFirst bs cs → Leads false true (WritesBlock token_of is_added (syntax.block tt bs)) (body string_has table_has (syntax.block tt cs))
  tell_inner syntax.no_statements told = λ more. gap (done (w.block told))
  tell_inner (syntax.more_statements s rest) told = λ more. part (nested (whole (told []))) (λ t wrote. gap (done (to_end (WritesBlock token_of is_added _) t (w.block wrote))))

  pub tell_source : {bs : syntax.Statements (Bare TextWord)} (cs : syntax.Statements Words) → TellsFirst bs cs → Stands false true (WritesBlock token_of is_added (syntax.block tt bs)) (main string_has table_has (syntax.block tt cs))
  tell_source syntax.no_statements told = lone_gap (done (w.block told))
  tell_source (syntax.more_statements s rest) told = whole (lead (told (source_ends ∷ [])) (λ t wrote. gap (done (to_end (WritesBlock token_of is_added _) t (w.block wrote)))))

  pub data TellsElse (e : syntax.OptionalBlock (Bare TextWord)) : List TextWord → Type 0 where
    else_end : {t : List TextWord} → WritesElse token_of is_added e t → TellsElse e (t ++ (own (tok.Word word_is.End) ∷ []))
