-- A part that is derived up to a place, behind which it does not go on, is one that is looked for; and what may follow
-- a statement.
use Rattle.std.proofs.Common.{◌≡◌, ℕ, ◌+◌, ◌-◌, ◌≤◌, true, false, Option, Some, None, List, refl, sym, ap, subst, arith}
use Rattle.std.specs.Prelude.{slice_get}
use Rattle.luf_lex.specs.declared.token.Tok.{Tok}
use Rattle.luf_lex.specs.declared.token.Tok.TheVariants as tok
use Rattle.luf_lex.specs.declared.token.Word.{Word}
use Rattle.luf_lex.specs.declared.token.Word.TheVariants as word
use Rattle.luf_lex.specs.declared.token.Sign.{Sign}
use Rattle.luf_lex.specs.declared.token.Sign.TheVariants as sign
use Rattle.luf_tree.specs.declared.tree.Block.{Block}
use Rattle.luf_tree.specs.declared.tree.Stat.{Stat}
use Rattle.luf_tree.specs.declared.tree.Expr.{Expr}
use Rattle.luf_tree.specs.First.{word_starts_stat, sign_starts_stat, starts_stat, word_starts_expr, sign_starts_expr, starts_expr}
use Rattle.luf_tree.specs.Level.{expr_levels, stat_levels, block_levels}
use Rattle.luf_tree.specs.Grammar as g
use Rattle.luf_tree.specs.Grammar.{IsToken, IsVariable, IsBlock, AreStats, IsReturn, IsStat, AreExprs, IsSemicolon}
use Rattle.luf_tree.proofs.TokenLaws.{expr_starts, stat_starts}
use Rattle.luf_descent.specs.Exact.{Then}
use Rattle.luf_descent.specs.Follow.{NotAt, EndsExprs, ends_block, word_stops_stats, stops_stats, ends_return, EndsBlock, follows_stat, EndsStat, sign_continues, continues_prefix}
use Rattle.luf_descent.specs.Parts.{ReadBlock, ReadEnded, ReadStat, ReadReturn, ReadVariable}
use Rattle.luf_descent.specs.Reads.{Part, begins_suffix}
use Rattle.luf_descent.proofs.Ends.{moved, variable_to, block_to, return_to, stat_to}
use Rattle.luf_descent.proofs.Following.{block_ends_stat, stat_ends_exprs, closed_suffix}

-- a part, and then the rest
pub reads : {A B : Type 0} {First : A → Type 0} {Rest : A → B → Type 0} {whole : B} (part : A) → First part → Rest part whole → Then First Rest whole
reads part first rest = record { part = part; first = first; rest = rest }

-- parts that are derived

pub read_variable : {toks : List Tok} {left i j : ℕ} {e : Expr} → IsVariable toks i j e → begins_suffix toks j ≡ false → expr_levels e ≤ left → ReadVariable toks left i e
read_variable {toks} {left} {i} {j} {e} d ends level = subst (λ p. Part (IsVariable toks i p e) (begins_suffix toks p ≡ false) (expr_levels e) left) (sym (variable_to d)) (record { is = d; ends = ends; level = level })

pub read_block : {toks : List Tok} {left i j : ℕ} {b : Block} → IsBlock toks i j b → EndsBlock toks j → block_levels b ≤ left → ReadBlock toks left i b
read_block {toks} {left} {i} {j} {b} d ends level = subst (λ p. Part (IsBlock toks i p b) (EndsBlock toks p) (block_levels b) left) (sym (block_to d)) (record { is = d; ends = ends; level = level })

pub read_return : {toks : List Tok} {left i j : ℕ} {s : Stat} → IsReturn toks i j s → EndsBlock toks j → stat_levels s ≤ left → ReadReturn toks left i s
read_return {toks} {left} {i} {j} {s} d ends level = subst (λ p. Part (IsReturn toks i p s) (EndsBlock toks p) (stat_levels s) left) (sym (return_to d)) (record { is = d; ends = ends; level = level })

pub read_stat : {toks : List Tok} {left i j : ℕ} {s : Stat} → IsStat toks i j s → EndsStat toks j → stat_levels s ≤ left → ReadStat toks left i s
read_stat {toks} {left} {i} {j} {s} d ends level = subst (λ p. Part (IsStat toks i p s) (EndsStat toks p) (stat_levels s) left) (sym (stat_to d)) (record { is = d; ends = ends; level = level })

-- a block that its first token enters, and its `end`
pub read_ended : {toks : List Tok} {left i j k : ℕ} {b : Block} → IsBlock toks i j b → IsToken toks j (tok.Word word.End) k → block_levels b + 1 ≤ left → ReadEnded toks left i (b, k)
read_ended {toks} {left} {i} {j} {k} {b} d t level = reads (left - 1) (omega arith) (reads b (read_block d (ap ends_block t.there) (omega arith)) (reads k (moved (block_to d) t) refl))

-- what may follow a statement

word_starts_follows : (w : Word) → word_starts_stat w ≡ true → follows_stat (Some (tok.Word w)) ≡ true
word_starts_follows word.Break h = refl
word_starts_follows word.Do h = refl
word_starts_follows word.For h = refl
word_starts_follows word.Function h = refl
word_starts_follows word.Goto h = refl
word_starts_follows word.If h = refl
word_starts_follows word.Local h = refl
word_starts_follows word.Repeat h = refl
word_starts_follows word.While h = refl
word_starts_follows _ h = absurd cc

starts_follows : (t : Option Tok) → starts_stat t ≡ true → follows_stat t ≡ true
starts_follows (Some tok.Name) h = refl
starts_follows (Some (tok.Word w)) h = word_starts_follows w h
starts_follows (Some (tok.Sign s)) h = h
starts_follows _ h = absurd cc

-- where a statement may begin or a `return`, or a block ends, the statement before ends
pub stats_follow : {toks : List Tok} {i j : ℕ} {stats : List Stat} → AreStats toks i j stats → EndsBlock toks j → EndsStat toks i
stats_follow {toks} {i} g.no_stats ends = block_ends_stat toks i ends
stats_follow (g.last_stat (g.return_nothing t _)) ends = ap follows_stat t.there
stats_follow (g.last_stat (g.return_values t _ _)) ends = ap follows_stat t.there
stats_follow {toks} {i} (g.more_stats d _) ends = starts_follows (slice_get toks i) (stat_starts d)

word_starts_goes : (w : Word) → word_starts_stat w ≡ true → word_stops_stats w ≡ false
word_starts_goes word.Break h = refl
word_starts_goes word.Do h = refl
word_starts_goes word.For h = refl
word_starts_goes word.Function h = refl
word_starts_goes word.Goto h = refl
word_starts_goes word.If h = refl
word_starts_goes word.Local h = refl
word_starts_goes word.Repeat h = refl
word_starts_goes word.While h = refl
word_starts_goes _ h = absurd cc

starts_goes : (t : Option Tok) → starts_stat t ≡ true → stops_stats t ≡ false
starts_goes (Some tok.Name) h = refl
starts_goes (Some (tok.Word w)) h = word_starts_goes w h
starts_goes (Some (tok.Sign s)) h = refl
starts_goes _ h = absurd cc

-- no statement begins where they stop
pub stat_goes : {toks : List Tok} {i j : ℕ} {s : Stat} → IsStat toks i j s → stops_stats (slice_get toks i) ≡ false
stat_goes {toks} {i} d = starts_goes (slice_get toks i) (stat_starts d)

word_stops_none : (w : Word) → word_stops_stats w ≡ true → word_starts_expr w ≡ false
word_stops_none word.Return h = refl
word_stops_none word.End h = refl
word_stops_none word.Else h = refl
word_stops_none word.ElseIf h = refl
word_stops_none word.Until h = refl
word_stops_none _ h = absurd cc

sign_return_none : (s : Sign) → ends_return (Some (tok.Sign s)) ≡ true → sign_starts_expr s ≡ false
sign_return_none sign.Semicolon h = refl
sign_return_none _ h = absurd cc

return_none : (t : Option Tok) → ends_return t ≡ true → starts_expr t ≡ false
return_none None h = refl
return_none (Some (tok.Word w)) h = word_stops_none w h
return_none (Some (tok.Sign s)) h = sign_return_none s h
return_none _ h = absurd cc

-- values begin where a `return` does not end
pub values_go : {toks : List Tok} {i j : ℕ} {es : List Expr} → AreExprs toks i j es → ends_return (slice_get toks i) ≡ true → ⊥
values_go {toks} {i} (g.one_expr d) ends = let begins = expr_starts d in let none = return_none (slice_get toks i) ends in absurd cc
values_go {toks} {i} (g.more_exprs d _ _) ends = let begins = expr_starts d in let none = return_none (slice_get toks i) ends in absurd cc

block_return : (t : Option Tok) → ends_block t ≡ true → ends_return t ≡ true
block_return None h = refl
block_return (Some (tok.Word word.Return)) h = refl
block_return (Some (tok.Word w)) h = word_block_return w h
  where
    word_block_return : (w : Word) → ends_block (Some (tok.Word w)) ≡ true → word_stops_stats w ≡ true
    word_block_return word.Return h = refl
    word_block_return _ h = h
block_return _ h = absurd cc

-- a `return` ends before a `;` and before the end of a block
pub semicolon_ends_return : {toks : List Tok} {i j : ℕ} → IsSemicolon toks i j → EndsBlock toks j → ends_return (slice_get toks i) ≡ true
semicolon_ends_return {toks} {i} g.no_semicolon ends = block_return (slice_get toks i) ends
semicolon_ends_return (g.a_semicolon t) ends = ap ends_return t.there

-- the values of a `return` end before a `;` and before the end of a block
pub semicolon_ends_exprs : {toks : List Tok} {i j : ℕ} → IsSemicolon toks i j → EndsBlock toks j → EndsExprs toks i
semicolon_ends_exprs {toks} {i} g.no_semicolon ends = stat_ends_exprs (block_ends_stat toks i ends)
semicolon_ends_exprs (g.a_semicolon t) ends = stat_ends_exprs (ap follows_stat t.there)

-- what may follow a statement goes on with a prefix expression by a `(` alone
sign_follows_suffix : (s : Sign) → sign_starts_stat s ≡ true → sign_continues s ≡ false
sign_follows_suffix sign.Semicolon h = refl
sign_follows_suffix sign.DoubleColon h = refl
sign_follows_suffix sign.LeftParen h = refl
sign_follows_suffix _ h = absurd cc

follows_suffix : (t : Option Tok) → follows_stat t ≡ true → continues_prefix t ≡ false
follows_suffix (Some (tok.Sign s)) h = sign_follows_suffix s h
follows_suffix (Some tok.Short) h = absurd cc
follows_suffix (Some tok.Long) h = absurd cc
follows_suffix _ h = refl

pub stat_ends_prefix : (toks : List Tok) (i : ℕ) → EndsStat toks i → NotAt toks i (tok.Sign sign.LeftParen) → begins_suffix toks i ≡ false
stat_ends_prefix toks i ends closed = closed_suffix toks i (follows_suffix (slice_get toks i) ends) closed
