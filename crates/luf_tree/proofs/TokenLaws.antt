-- What the grammar says of single tokens: which begin a part, and which stand nowhere.
use Rattle.std.proofs.Common.{◌≡◌, ℕ, ◌+◌, ◌<◌, ◌≤◌, ◌⊎◌, Bool, true, false, Option, Some, None, List, length, slice_get, inl, inr, ap, refl, ◌∙◌, arith}
use Rattle.std.proofs.lemmas.Option.{slice_get_within}
use Rattle.std.proofs.lemmas.Bool.{cases_lt}
use Rattle.luf_lex.specs.declared.token.Tok.{Tok}
use Rattle.luf_lex.specs.declared.token.Tok.TheVariants as tok
use Rattle.luf_lex.specs.declared.token.Word.{Word}
use Rattle.luf_lex.specs.declared.token.Word.TheVariants as word
use Rattle.luf_lex.specs.declared.token.Sign.{Sign}
use Rattle.luf_lex.specs.declared.token.Sign.TheVariants as sign
use Rattle.luf_tree.specs.declared.tree.Chunk.{Chunk}
use Rattle.luf_tree.specs.declared.tree.Block.{Block}
use Rattle.luf_tree.specs.declared.tree.Stat.{Stat}
use Rattle.luf_tree.specs.declared.tree.Declared.{Declared}
use Rattle.luf_tree.specs.declared.tree.Arm.{Arm}
use Rattle.luf_tree.specs.declared.tree.FuncBody.{FuncBody}
use Rattle.luf_tree.specs.declared.tree.Expr.{Expr}
use Rattle.luf_tree.specs.declared.tree.Step.{Step}
use Rattle.luf_tree.specs.declared.tree.Suffix.{Suffix}
use Rattle.luf_tree.specs.declared.tree.Args.{Args}
use Rattle.luf_tree.specs.declared.tree.Field.{Field}
use Rattle.luf_tree.specs.Operator.{sign_precedence, binary_precedence, is_unary_word, is_unary_sign, is_unary}
use Rattle.luf_tree.specs.First.{word_starts_expr, sign_starts_expr, token_starts_expr, starts_expr, starts_stat}
use Rattle.luf_tree.specs.Grammar as g
use Rattle.luf_tree.specs.Grammar.{At, IsToken, IsString, AreNames, AreParams, IsAttribute, AreDeclared, IsPath, IsMethod, IsSemicolon, IsExpr, AreSteps, IsOperand, IsSimple, IsPrefix, IsVariable, IsCall, IsParen, IsHead, AreSuffixes, IsSuffix, IsArgs, AreExprs, IsTable, AreFields, IsField, IsFuncBody, IsBlock, AreStats, IsReturn, IsStat, AreTargets, IsArm, AreArms, IsElse, IsForStep, IsChunk}

unary_word_starts : (w : Word) → is_unary_word w ≡ true → word_starts_expr w ≡ true
unary_word_starts word.Not h = refl
unary_word_starts _ h = absurd cc

unary_sign_starts : (s : Sign) → is_unary_sign s ≡ true → sign_starts_expr s ≡ true
unary_sign_starts sign.Minus h = refl
unary_sign_starts sign.Hash h = refl
unary_sign_starts sign.Tilde h = refl
unary_sign_starts _ h = absurd cc

unary_starts : (t : Tok) → is_unary t ≡ true → token_starts_expr t ≡ true
unary_starts (tok.Word w) h = unary_word_starts w h
unary_starts (tok.Sign s) h = unary_sign_starts s h
unary_starts _ h = absurd cc

string_starts : {toks : List Tok} {i j : ℕ} → IsString toks i j → starts_expr (slice_get toks i) ≡ true
string_starts (inl t) = ap starts_expr t.there
string_starts (inr t) = ap starts_expr t.there

-- a prefix expression begins with a name or a `(`
data BeginsPrefix (toks : List Tok) (i : ℕ) : Type 0 where
  by_name : At toks i tok.Name → BeginsPrefix toks i
  by_paren : At toks i (tok.Sign sign.LeftParen) → BeginsPrefix toks i

prefix_starts_expr : {toks : List Tok} {i : ℕ} → BeginsPrefix toks i → starts_expr (slice_get toks i) ≡ true
prefix_starts_expr (by_name there) = ap starts_expr there
prefix_starts_expr (by_paren there) = ap starts_expr there

prefix_starts_stat : {toks : List Tok} {i : ℕ} → BeginsPrefix toks i → starts_stat (slice_get toks i) ≡ true
prefix_starts_stat (by_name there) = ap starts_stat there
prefix_starts_stat (by_paren there) = ap starts_stat there

paren_begins : {toks : List Tok} {i j : ℕ} {e : Expr} → IsParen toks i j e → BeginsPrefix toks i
paren_begins (g.paren t _ _) = by_paren t.there

head_begins : {toks : List Tok} {i j : ℕ} {e : Expr} → IsHead toks i j e → BeginsPrefix toks i
head_begins (g.name_head t) = by_name t.there
head_begins (g.paren_head d) = paren_begins d

variable_begins : {toks : List Tok} {i j : ℕ} {e : Expr} → IsVariable toks i j e → BeginsPrefix toks i
variable_begins (g.name_variable t) = by_name t.there
variable_begins (g.suffixed_variable d _) = head_begins d

call_begins : {toks : List Tok} {i j : ℕ} {e : Expr} → IsCall toks i j e → BeginsPrefix toks i
call_begins (g.suffixed_call d _) = head_begins d

prefix_begins : {toks : List Tok} {i j : ℕ} {e : Expr} → IsPrefix toks i j e → BeginsPrefix toks i
prefix_begins (g.variable_prefix d) = variable_begins d
prefix_begins (g.call_prefix d) = call_begins d
prefix_begins (g.paren_prefix d) = paren_begins d

targets_begin : {toks : List Tok} {i j : ℕ} {es : List Expr} → AreTargets toks i j es → BeginsPrefix toks i
targets_begin (g.one_target d) = variable_begins d
targets_begin (g.more_targets d _ _) = variable_begins d

table_starts : {toks : List Tok} {i j : ℕ} {fields : List Field} → IsTable toks i j fields → starts_expr (slice_get toks i) ≡ true
table_starts (g.table t _ _) = ap starts_expr t.there

simple_starts : {toks : List Tok} {i j : ℕ} {e : Expr} → IsSimple toks i j e → starts_expr (slice_get toks i) ≡ true
simple_starts (g.nil_simple t) = ap starts_expr t.there
simple_starts (g.true_simple t) = ap starts_expr t.there
simple_starts (g.false_simple t) = ap starts_expr t.there
simple_starts (g.number_simple t) = ap starts_expr t.there
simple_starts (g.string_simple s) = string_starts s
simple_starts (g.vararg_simple t) = ap starts_expr t.there
simple_starts (g.function_simple t _) = ap starts_expr t.there
simple_starts (g.table_simple d) = table_starts d
simple_starts (g.prefix_simple d _) = prefix_starts_expr (prefix_begins d)

operand_starts : {toks : List Tok} {i j : ℕ} {e : Expr} → IsOperand toks i j e → starts_expr (slice_get toks i) ≡ true
operand_starts (g.unary_operand {tok = u} t h _) = ap starts_expr t.there ∙ unary_starts u h
operand_starts (g.power_operand d _ _) = simple_starts d
operand_starts (g.simple_operand d) = simple_starts d

-- an expression begins with a token that may begin one
pub expr_starts : {toks : List Tok} {n i j : ℕ} {e : Expr} → IsExpr toks n i j e → starts_expr (slice_get toks i) ≡ true
expr_starts (g.operand_expr d) = operand_starts d
expr_starts (g.chain_expr _ _ d _) = expr_starts d

-- a statement begins with a token that may begin one
pub stat_starts : {toks : List Tok} {i j : ℕ} {s : Stat} → IsStat toks i j s → starts_stat (slice_get toks i) ≡ true
stat_starts (g.empty_stat t) = ap starts_stat t.there
stat_starts (g.local_stat t _) = ap starts_stat t.there
stat_starts (g.local_values_stat t _ _ _) = ap starts_stat t.there
stat_starts (g.assign_stat d _ _) = prefix_starts_stat (targets_begin d)
stat_starts (g.call_stat d _) = prefix_starts_stat (call_begins d)
stat_starts (g.do_stat t _ _) = ap starts_stat t.there
stat_starts (g.while_stat t _ _ _ _) = ap starts_stat t.there
stat_starts (g.repeat_stat t _ _ _) = ap starts_stat t.there
stat_starts (g.if_stat t _ _ _) = ap starts_stat t.there
stat_starts (g.for_stat t _ _ _ _ _ _ _ _ _) = ap starts_stat t.there
stat_starts (g.for_in_stat t _ _ _ _ _ _) = ap starts_stat t.there
stat_starts (g.function_stat t _ _ _) = ap starts_stat t.there
stat_starts (g.local_function_stat t _ _ _) = ap starts_stat t.there
stat_starts (g.label_stat t _ _) = ap starts_stat t.there
stat_starts (g.goto_stat t _) = ap starts_stat t.there
stat_starts (g.break_stat t) = ap starts_stat t.there

stats_no_hash : {toks : List Tok} {i j : ℕ} {stats : List Stat} → AreStats toks i j stats → j ≡ length toks → At toks i (tok.Sign sign.Hash) → ⊥
stats_no_hash {toks} (g.no_stats {i}) e there = omega (arith, slice_get_within toks i _ there)
stats_no_hash (g.last_stat d) e there = return_no_hash d there
  where
    return_no_hash : {toks : List Tok} {i j : ℕ} {s : Stat} → IsReturn toks i j s → At toks i (tok.Sign sign.Hash) → ⊥
    return_no_hash (g.return_nothing t _) there = let begins = t.there in absurd cc
    return_no_hash (g.return_values t _ _) there = let begins = t.there in absurd cc
stats_no_hash (g.more_stats d _) e there = let begins = stat_starts d in let none = ap starts_stat there in absurd cc

block_no_hash : {toks : List Tok} {i j : ℕ} {b : Block} → IsBlock toks i j b → j ≡ length toks → At toks i (tok.Sign sign.Hash) → ⊥
block_no_hash (g.block d) = stats_no_hash d

-- no chunk begins with a `#`
pub chunk_no_hash : (toks : List Tok) (c : Chunk) → IsChunk toks c → At toks 0 (tok.Sign sign.Hash) → ⊥
chunk_no_hash toks c d = block_no_hash d refl

-- A part lies in order, and an expression begins behind each of its `[`. This joins over neighbours.
record Brackets (toks : List Tok) (i j : ℕ) : Type 0 where
  forward : i ≤ j
  opens : (k : ℕ) → i ≤ k → k < j → At toks k (tok.Sign sign.LeftBracket) → starts_expr (slice_get toks (k + 1)) ≡ true

none : {toks : List Tok} {i : ℕ} → Brackets toks i i
none = record { forward = omega arith; opens = λ k from to there. absurd (omega arith) }

-- a part, and the part behind it
infixr 5 ◌⨾◌
◌⨾◌ : {toks : List Tok} {i j k : ℕ} → Brackets toks i j → Brackets toks j k → Brackets toks i k
◌⨾◌ {toks} {i} {j} {k} a b = record { forward = omega (arith, a.forward, b.forward); opens = λ p from to there. here p from to there (cases_lt p j) }
  where
    here : (p : ℕ) → i ≤ p → p < k → At toks p (tok.Sign sign.LeftBracket) → (p < j) ⊎ (j ≤ p) → starts_expr (slice_get toks (p + 1)) ≡ true
    here p from to there (inl before) = a.opens p from before there
    here p from to there (inr behind) = b.opens p behind to there

abbrev is_bracket : Tok → Bool
is_bracket (tok.Sign sign.LeftBracket) = true
is_bracket _ = false

abbrev bracket_at : Option Tok → Bool
bracket_at None = false
bracket_at (Some t) = is_bracket t

-- a token other than `[`
one : {toks : List Tok} {i j : ℕ} {t : Tok} → IsToken toks i t j → is_bracket t ≡ false → Brackets toks i j
one {toks} {i} {j} {t} h other = let next = h.next in record { forward = omega arith; opens = λ p from to there. elsewhere p (omega arith) there }
  where
    elsewhere : (p : ℕ) → p ≡ i → At toks p (tok.Sign sign.LeftBracket) → starts_expr (slice_get toks (p + 1)) ≡ true
    elsewhere p e there = let bracket = ap bracket_at there in let none = ap bracket_at h.there in absurd cc

-- a `[` and the expression in it
key : {toks : List Tok} {n i j k : ℕ} {e : Expr} → IsToken toks i (tok.Sign sign.LeftBracket) j → IsExpr toks n j k e → Brackets toks j k → Brackets toks i k
key {toks} {n} {i} {j} {k} t d inner = opening ⨾ inner
  where
    opening : Brackets toks i j
    opening = let next = t.next in record { forward = omega arith; opens = λ p from to there. ap (λ q. starts_expr (slice_get toks q)) (omega arith) ∙ expr_starts d }

binary_sign_other : (s : Sign) → 0 < sign_precedence s → is_bracket (tok.Sign s) ≡ false
binary_sign_other sign.LeftBracket h = absurd (omega arith)
binary_sign_other _ h = refl

binary_other : (t : Tok) → 0 < binary_precedence t → is_bracket t ≡ false
binary_other (tok.Sign s) h = binary_sign_other s h
binary_other _ h = refl

unary_sign_other : (s : Sign) → is_unary_sign s ≡ true → is_bracket (tok.Sign s) ≡ false
unary_sign_other sign.LeftBracket h = absurd cc
unary_sign_other _ h = refl

unary_other : (t : Tok) → is_unary t ≡ true → is_bracket t ≡ false
unary_other (tok.Sign s) h = unary_sign_other s h
unary_other _ h = refl

in_string : {toks : List Tok} {i j : ℕ} → IsString toks i j → Brackets toks i j
in_string (inl t) = one t refl
in_string (inr t) = one t refl

in_names : {toks : List Tok} {i j : ℕ} {names : List ℕ} → AreNames toks i j names → Brackets toks i j
in_names (g.one_name t) = one t refl
in_names (g.more_names t u d) = one t refl ⨾ one u refl ⨾ in_names d

in_params : {toks : List Tok} {i j : ℕ} {names : List ℕ} {vararg : Bool} → AreParams toks i j names vararg → Brackets toks i j
in_params g.no_params = none
in_params (g.dots_alone t) = one t refl
in_params (g.names_alone d) = in_names d
in_params (g.names_and_dots d t u) = in_names d ⨾ one t refl ⨾ one u refl

in_attribute : {toks : List Tok} {i j : ℕ} {a : Option ℕ} → IsAttribute toks i j a → Brackets toks i j
in_attribute g.no_attribute = none
in_attribute (g.an_attribute t u v) = one t refl ⨾ one u refl ⨾ one v refl

in_declared : {toks : List Tok} {i j : ℕ} {declared : List Declared} → AreDeclared toks i j declared → Brackets toks i j
in_declared (g.one_declared t a) = one t refl ⨾ in_attribute a
in_declared (g.more_declared t a u d) = one t refl ⨾ in_attribute a ⨾ one u refl ⨾ in_declared d

in_path : {toks : List Tok} {i j : ℕ} {path : List ℕ} → IsPath toks i j path → Brackets toks i j
in_path (g.path_end t) = one t refl
in_path (g.path_more t u d) = one t refl ⨾ one u refl ⨾ in_path d

in_method : {toks : List Tok} {i j : ℕ} {method : Option ℕ} → IsMethod toks i j method → Brackets toks i j
in_method g.no_method = none
in_method (g.a_method t u) = one t refl ⨾ one u refl

in_semicolon : {toks : List Tok} {i j : ℕ} → IsSemicolon toks i j → Brackets toks i j
in_semicolon g.no_semicolon = none
in_semicolon (g.a_semicolon t) = one t refl

in_separator : {toks : List Tok} {i j : ℕ} → IsToken toks i (tok.Sign sign.Comma) j ⊎ IsToken toks i (tok.Sign sign.Semicolon) j → Brackets toks i j
in_separator (inl t) = one t refl
in_separator (inr t) = one t refl

mutual
  in_expr : {toks : List Tok} {n i j : ℕ} {e : Expr} → IsExpr toks n i j e → Brackets toks i j
  in_expr (g.operand_expr d) = in_operand d
  in_expr (g.chain_expr some _ d steps) = in_expr d ⨾ in_steps steps some

  in_steps : {toks : List Tok} {m i j : ℕ} {steps : List Step} → AreSteps toks m i j steps → 0 < m → Brackets toks i j
  in_steps (g.one_step {tok = t} op level d) some = one op (binary_other t (omega (arith, level))) ⨾ in_expr d
  in_steps (g.more_steps {tok = t} op level d rest) some = one op (binary_other t (omega (arith, level))) ⨾ in_expr d ⨾ in_steps rest some

  in_operand : {toks : List Tok} {i j : ℕ} {e : Expr} → IsOperand toks i j e → Brackets toks i j
  in_operand (g.unary_operand {tok = t} op unary d) = one op (unary_other t unary) ⨾ in_operand d
  in_operand (g.power_operand base t d) = in_simple base ⨾ one t refl ⨾ in_operand d
  in_operand (g.simple_operand d) = in_simple d

  in_simple : {toks : List Tok} {i j : ℕ} {e : Expr} → IsSimple toks i j e → Brackets toks i j
  in_simple (g.nil_simple t) = one t refl
  in_simple (g.true_simple t) = one t refl
  in_simple (g.false_simple t) = one t refl
  in_simple (g.number_simple t) = one t refl
  in_simple (g.string_simple d) = in_string d
  in_simple (g.vararg_simple t) = one t refl
  in_simple (g.function_simple t d) = one t refl ⨾ in_body d
  in_simple (g.table_simple d) = in_table d
  in_simple (g.prefix_simple d _) = in_prefix d

  in_prefix : {toks : List Tok} {i j : ℕ} {e : Expr} → IsPrefix toks i j e → Brackets toks i j
  in_prefix (g.variable_prefix d) = in_variable d
  in_prefix (g.call_prefix d) = in_call d
  in_prefix (g.paren_prefix d) = in_paren d

  in_variable : {toks : List Tok} {i j : ℕ} {e : Expr} → IsVariable toks i j e → Brackets toks i j
  in_variable (g.name_variable t) = one t refl
  in_variable (g.suffixed_variable d suffixes) = in_head d ⨾ in_suffixes suffixes

  in_call : {toks : List Tok} {i j : ℕ} {e : Expr} → IsCall toks i j e → Brackets toks i j
  in_call (g.suffixed_call d suffixes) = in_head d ⨾ in_suffixes suffixes

  in_paren : {toks : List Tok} {i j : ℕ} {e : Expr} → IsParen toks i j e → Brackets toks i j
  in_paren (g.paren t d u) = one t refl ⨾ in_expr d ⨾ one u refl

  in_head : {toks : List Tok} {i j : ℕ} {e : Expr} → IsHead toks i j e → Brackets toks i j
  in_head (g.name_head t) = one t refl
  in_head (g.paren_head d) = in_paren d

  in_suffixes : {toks : List Tok} {calls : Bool} {i j : ℕ} {suffixes : List Suffix} → AreSuffixes toks calls i j suffixes → Brackets toks i j
  in_suffixes (g.one_suffix d) = in_suffix d
  in_suffixes (g.more_suffixes d rest) = in_suffix d ⨾ in_suffixes rest

  in_suffix : {toks : List Tok} {calls : Bool} {i j : ℕ} {s : Suffix} → IsSuffix toks calls i j s → Brackets toks i j
  in_suffix (g.dot_suffix t u) = one t refl ⨾ one u refl
  in_suffix (g.index_suffix t d u) = key t d (in_expr d) ⨾ one u refl
  in_suffix (g.call_suffix d) = in_args d
  in_suffix (g.method_suffix t u d) = one t refl ⨾ one u refl ⨾ in_args d

  in_args : {toks : List Tok} {i j : ℕ} {args : Args} → IsArgs toks i j args → Brackets toks i j
  in_args (g.no_args t u) = one t refl ⨾ one u refl
  in_args (g.list_args t d u) = one t refl ⨾ in_exprs d ⨾ one u refl
  in_args (g.string_args d) = in_string d
  in_args (g.table_args d) = in_table d

  in_exprs : {toks : List Tok} {i j : ℕ} {es : List Expr} → AreExprs toks i j es → Brackets toks i j
  in_exprs (g.one_expr d) = in_expr d
  in_exprs (g.more_exprs d t rest) = in_expr d ⨾ one t refl ⨾ in_exprs rest

  in_table : {toks : List Tok} {i j : ℕ} {fields : List Field} → IsTable toks i j fields → Brackets toks i j
  in_table (g.table t d u) = one t refl ⨾ in_fields d ⨾ one u refl

  in_fields : {toks : List Tok} {i j : ℕ} {fields : List Field} → AreFields toks i j fields → Brackets toks i j
  in_fields g.no_fields = none
  in_fields (g.last_field d) = in_field d
  in_fields (g.more_fields d t rest) = in_field d ⨾ in_separator t ⨾ in_fields rest

  in_field : {toks : List Tok} {i j : ℕ} {f : Field} → IsField toks i j f → Brackets toks i j
  in_field (g.keyed_field t d u v value) = key t d (in_expr d) ⨾ one u refl ⨾ one v refl ⨾ in_expr value
  in_field (g.named_field t u d) = one t refl ⨾ one u refl ⨾ in_expr d
  in_field (g.item_field d) = in_expr d

  in_body : {toks : List Tok} {i j : ℕ} {f : FuncBody} → IsFuncBody toks i j f → Brackets toks i j
  in_body (g.func_body t params u d v) = one t refl ⨾ in_params params ⨾ one u refl ⨾ in_block d ⨾ one v refl

  in_block : {toks : List Tok} {i j : ℕ} {b : Block} → IsBlock toks i j b → Brackets toks i j
  in_block (g.block d) = in_stats d

  in_stats : {toks : List Tok} {i j : ℕ} {stats : List Stat} → AreStats toks i j stats → Brackets toks i j
  in_stats g.no_stats = none
  in_stats (g.last_stat d) = in_return d
  in_stats (g.more_stats d rest) = in_stat d ⨾ in_stats rest

  in_return : {toks : List Tok} {i j : ℕ} {s : Stat} → IsReturn toks i j s → Brackets toks i j
  in_return (g.return_nothing t u) = one t refl ⨾ in_semicolon u
  in_return (g.return_values t d u) = one t refl ⨾ in_exprs d ⨾ in_semicolon u

  in_stat : {toks : List Tok} {i j : ℕ} {s : Stat} → IsStat toks i j s → Brackets toks i j
  in_stat (g.empty_stat t) = one t refl
  in_stat (g.local_stat t d) = one t refl ⨾ in_declared d
  in_stat (g.local_values_stat t d u values) = one t refl ⨾ in_declared d ⨾ one u refl ⨾ in_exprs values
  in_stat (g.assign_stat d t values) = in_targets d ⨾ one t refl ⨾ in_exprs values
  in_stat (g.call_stat d _) = in_call d
  in_stat (g.do_stat t d u) = one t refl ⨾ in_block d ⨾ one u refl
  in_stat (g.while_stat t test u d v) = one t refl ⨾ in_expr test ⨾ one u refl ⨾ in_block d ⨾ one v refl
  in_stat (g.repeat_stat t d u test) = one t refl ⨾ in_block d ⨾ one u refl ⨾ in_expr test
  in_stat (g.if_stat t arms last u) = one t refl ⨾ in_arms arms ⨾ in_else last ⨾ one u refl
  in_stat (g.for_stat t u v first w limit step x d y) = one t refl ⨾ one u refl ⨾ one v refl ⨾ in_expr first ⨾ one w refl ⨾ in_expr limit ⨾ in_step step ⨾ one x refl ⨾ in_block d ⨾ one y refl
  in_stat (g.for_in_stat t names u values v d w) = one t refl ⨾ in_names names ⨾ one u refl ⨾ in_exprs values ⨾ one v refl ⨾ in_block d ⨾ one w refl
  in_stat (g.function_stat t path method d) = one t refl ⨾ in_path path ⨾ in_method method ⨾ in_body d
  in_stat (g.local_function_stat t u v d) = one t refl ⨾ one u refl ⨾ one v refl ⨾ in_body d
  in_stat (g.label_stat t u v) = one t refl ⨾ one u refl ⨾ one v refl
  in_stat (g.goto_stat t u) = one t refl ⨾ one u refl
  in_stat (g.break_stat t) = one t refl

  in_targets : {toks : List Tok} {i j : ℕ} {es : List Expr} → AreTargets toks i j es → Brackets toks i j
  in_targets (g.one_target d) = in_variable d
  in_targets (g.more_targets d t rest) = in_variable d ⨾ one t refl ⨾ in_targets rest

  in_arm : {toks : List Tok} {i j : ℕ} {a : Arm} → IsArm toks i j a → Brackets toks i j
  in_arm (g.arm test t d) = in_expr test ⨾ one t refl ⨾ in_block d

  in_arms : {toks : List Tok} {i j : ℕ} {arms : List Arm} → AreArms toks i j arms → Brackets toks i j
  in_arms (g.one_arm d) = in_arm d
  in_arms (g.more_arms d t rest) = in_arm d ⨾ one t refl ⨾ in_arms rest

  in_else : {toks : List Tok} {i j : ℕ} {last : Option Block} → IsElse toks i j last → Brackets toks i j
  in_else g.no_else = none
  in_else (g.an_else t d) = one t refl ⨾ in_block d

  in_step : {toks : List Tok} {i j : ℕ} {step : Option Expr} → IsForStep toks i j step → Brackets toks i j
  in_step g.no_for_step = none
  in_step (g.a_for_step t d) = one t refl ⨾ in_expr d

-- no `=` or `==` follows a `[`
pub bracket_no_equal : (toks : List Tok) (c : Chunk) → IsChunk toks c → (k : ℕ) → At toks k (tok.Sign sign.LeftBracket)
    → (At toks (k + 1) (tok.Sign sign.Assign) → ⊥) × (At toks (k + 1) (tok.Sign sign.Equal) → ⊥)
bracket_no_equal toks c d k there = (λ equal. let none = ap starts_expr equal in let some = begins in absurd cc, λ equal. let none = ap starts_expr equal in let some = begins in absurd cc)
  where
    begins : starts_expr (slice_get toks (k + 1)) ≡ true
    begins = (in_block d).opens k (omega arith) (slice_get_within toks k _ there) there
