-- Each statement and block that is looked for at a place, in the form in which it is read: from the token that stands
-- there, one part after another.
use Rattle.std.proofs.Common.{◌≡◌, ℕ, ◌+◌, ◌-◌, ◌≤◌, ◌⊎◌, inl, inr, true, false, Option, Some, None, List, [], ◌∷◌, map, refl, sym, ap, ◌∙◌, subst, arith}
use Rattle.std.specs.Prelude.{slice_get}
use Rattle.std.specs.Option.{option_map}
use Rattle.luf_lex.specs.declared.token.Tok.{Tok}
use Rattle.luf_lex.specs.declared.token.Tok.TheVariants.{Name, Word, Sign}
use Rattle.luf_lex.specs.declared.token.Word.{Word as Keyword}
use Rattle.luf_lex.specs.declared.token.Word.TheVariants as word
use Rattle.luf_lex.specs.declared.token.Sign.{Sign as Mark}
use Rattle.luf_lex.specs.declared.token.Sign.TheVariants as sign
use Rattle.luf_tree.specs.declared.tree.Block.{Block, roll-Block, out-Block}
use Rattle.luf_tree.specs.declared.tree.Stat.{Stat, out-Stat}
use Rattle.luf_tree.specs.declared.tree.StatKind.TheVariants as stat
use Rattle.luf_tree.specs.declared.tree.Declared.{Declared}
use Rattle.luf_tree.specs.declared.tree.Arm.{Arm, roll-Arm}
use Rattle.luf_tree.specs.declared.tree.FuncBody.{FuncBody, roll-FuncBody, out-FuncBody}
use Rattle.luf_tree.specs.declared.tree.Expr.{Expr, out-Expr}
use Rattle.luf_tree.specs.Level.{deepest, expr_levels, stat_levels, block_levels, arm_levels, body_levels, if_there, block_if_there}
use Rattle.luf_tree.specs.Grammar as g
use Rattle.luf_tree.specs.Grammar.{At, expression, statement, IsToken, NoParenFollows, AreNames, AreDeclared, IsPath, IsMethod, IsSemicolon, IsExpr, IsVariable, IsCall, IsHead, AreExprs, IsFuncBody, IsBlock, AreStats, IsReturn, IsStat, AreTargets, IsArm, AreArms, IsElse, IsForStep}
use Rattle.luf_tree.proofs.LevelEquations as lv
use Rattle.luf_descent.specs.Exact.{Alone, Then, Enters}
use Rattle.luf_descent.specs.Follow.{NotAt, EndsExpr, ends_block, stops_stats, ends_arms, follows_stat, ends_return, begins_prefix, EndsBlock, EndsStat, EndsArms}
use Rattle.luf_descent.specs.Parts.{ReadExpr, ReadExprs, ReadFuncBody, ReadParams, ReadBlock, ReadStats, ReadSemicolon, ReadReturn, ReadShort, ReadStat, ReadLabel, ReadGoto, ReadDo, ReadWhile, ReadRepeat, ReadArms, ReadArm, ReadElse, ReadIf, ReadForStep, ReadCount, ReadFor, ReadFunctionStat, ReadLocalFunction, ReadLocal, ReadVariable, ReadMoreTargets, ReadExprStat, ReadPrefix}
use Rattle.luf_descent.specs.Reads.{Part, token_begins_suffix, begins_suffix}
use Rattle.luf_descent.specs.declared.prefixes.Shape.TheVariants.{Variable, Call}
use Rattle.luf_tree.specs.First.{starts_stat}
use Rattle.luf_tree.proofs.TokenLaws.{stat_starts}
use Rattle.luf_descent.proofs.Exactness.{ListRest}
use Rattle.luf_descent.proofs.NameForms.{same_end, second_end}
use Rattle.luf_descent.proofs.Ends.{read_expr, read_body, moved, expr_to, variable_to, call_to, body_to, block_to, return_to, stat_to}
use Rattle.luf_descent.proofs.Following.{not_at, token_closes, stat_ends_expr, stat_ends_exprs, arms_end_block, block_ends_stats}
use Rattle.luf_descent.proofs.Reading.{reads, read_variable, read_block, read_return, read_stat, read_ended, stats_follow, stat_goes, values_go, semicolon_ends_return, semicolon_ends_exprs, stat_ends_prefix}

-- functions and blocks

abbrev pub FuncBodyForm : List Tok → ℕ → ℕ → FuncBody → Type 0
FuncBodyForm toks left i =
    Then (IsToken toks i (Sign sign.LeftParen)) (λ first. Then (ReadParams toks first) (λ p. Then (IsToken toks p.2 (Sign sign.RightParen)) (λ inside. Then (ReadBlock toks left inside) (λ body. Then (IsToken toks (out-Block body).to (Word word.End))
    (λ to f. f ≡ roll-FuncBody (record { from = i; to = to; params = p.0; vararg = p.1; body = body }))))))

pub func_body_form : {toks : List Tok} {left i : ℕ} → (f : FuncBody) → ReadFuncBody toks left i f → FuncBodyForm toks left i f
func_body_form {toks} {left} {i} f h = form (out-FuncBody f).to f h.is h.level
  where
    form : (j : ℕ) (f : FuncBody) → IsFuncBody toks i j f → body_levels f ≤ left → FuncBodyForm toks left i f
    form _ _ (g.func_body {j = j} {k = k} {l = l} {p = p} {params = params} {vararg = vararg} {body = body} t ps u d v) level =
        reads j t (reads (params, vararg, k) (record { is = ps; ends = u.there; level = omega arith }) (reads l u (reads body (read_block d (ap ends_block v.there) (omega (arith, lv.body_of_levels i p params vararg body)))
        (reads p (moved (block_to d) v) refl))))

abbrev pub BlockForm : List Tok → ℕ → ℕ → Block → Type 0
BlockForm toks left i = Then (ReadStats toks left i) (λ r b. b ≡ roll-Block (record { from = i; to = r.1; stats = r.0 }))

pub block_form : {toks : List Tok} {left i : ℕ} → (b : Block) → ReadBlock toks left i b → BlockForm toks left i b
block_form {toks} {left} {i} b h = form (out-Block b).to b h.is h.ends h.level
  where
    form : (j : ℕ) (b : Block) → IsBlock toks i j b → EndsBlock toks j → block_levels b ≤ left → BlockForm toks left i b
    form j _ (g.block {stats = stats} d) ends level = record { part = (stats, j); first = record { is = d; ends = ends; level = omega (arith, lv.block_of_levels i j stats) }; rest = refl }

-- a statement, and the rest of them
abbrev pub StatsForm : List Tok → ℕ → ℕ → (List Stat × ℕ) → Type 0
StatsForm toks left i = Then (ReadStat toks left i) (λ s r. (rest : List Stat × ℕ) × ReadStats toks left (out-Stat s).to rest × (r ≡ (s ∷ rest.0, rest.1)))

pub stats_form : {toks : List Tok} {left i : ℕ} → stops_stats (slice_get toks i) ≡ false → (r : List Stat × ℕ) → ReadStats toks left i r → StatsForm toks left i r
stats_form {toks} {left} {i} goes r h = form r.0 r.1 h.is h.ends h.level
  where
    form : (stats : List Stat) (k : ℕ) → AreStats toks i k stats → EndsBlock toks k → deepest (map stat_levels stats) ≤ left → StatsForm toks left i (stats, k)
    form _ _ g.no_stats ends level = let stops = block_ends_stats toks i ends in absurd cc
    form _ _ (g.last_stat (g.return_nothing t _)) ends level = let stops = ap stops_stats t.there in absurd cc
    form _ _ (g.last_stat (g.return_values t _ _)) ends level = let stops = ap stops_stats t.there in absurd cc
    form _ k (g.more_stats {s = s} {stats = stats} d rest) ends level = record {
      part = s;
      first = read_stat d (stats_follow rest ends) (omega arith);
      rest = ((stats, k), subst (λ p. ReadStats toks left p (stats, k)) (sym (stat_to d)) (record { is = rest; ends = ends; level = omega arith }), refl);
    }

abbrev pub LastForm : List Tok → ℕ → ℕ → (List Stat × ℕ) → Type 0
LastForm toks left i = Then (ReadReturn toks left i) (λ s r. r ≡ (s ∷ [], (out-Stat s).to))

pub last_form : {toks : List Tok} {left i : ℕ} → At toks i (Word word.Return) → (r : List Stat × ℕ) → ReadStats toks left i r → LastForm toks left i r
last_form {toks} {left} {i} t r h = form r.0 r.1 h.is h.ends h.level
  where
    form : (stats : List Stat) (j : ℕ) → AreStats toks i j stats → EndsBlock toks j → deepest (map stat_levels stats) ≤ left → LastForm toks left i (stats, j)
    form _ _ g.no_stats ends level = let here = ap ends_block t in absurd cc
    form _ j (g.last_stat {s = s} d) ends level = record { part = s; first = read_return d ends (omega arith); rest = ap (λ p. (s ∷ [], p)) (sym (return_to d)) }
    form _ _ (g.more_stats d _) ends level = let here = ap stops_stats t in let goes = stat_goes d in absurd cc

pub stats_end : {toks : List Tok} {left i : ℕ} → stops_stats (slice_get toks i) ≡ true → NotAt toks i (Word word.Return) → (r : List Stat × ℕ) → ReadStats toks left i r → r ≡ ([], i)
stats_end {toks} {left} {i} stops other r h = form r.0 r.1 h.is
  where
    form : (stats : List Stat) (j : ℕ) → AreStats toks i j stats → ◌≡◌ {A = List Stat × ℕ} (stats, j) ([], i)
    form _ _ g.no_stats = refl
    form _ _ (g.last_stat (g.return_nothing t _)) = absurd (other t.there)
    form _ _ (g.last_stat (g.return_values t _ _)) = absurd (other t.there)
    form _ _ (g.more_stats d _) = let goes = stat_goes d in absurd cc

abbrev pub EmptyReturnForm : List Tok → ℕ → ℕ → Stat → Type 0
EmptyReturnForm toks i next = Then (ReadSemicolon toks next) (λ to s. s ≡ statement i to (stat.Return []))

abbrev pub ValuesReturnForm : List Tok → ℕ → ℕ → ℕ → Stat → Type 0
ValuesReturnForm toks left i next = Then (ReadExprs toks left next) (λ r. Then (ReadSemicolon toks r.1) (λ to s. s ≡ statement i to (stat.Return r.0)))

-- what stands behind a `return`
pub record ReturnRest (toks : List Tok) (left i next : ℕ) (s : Stat) : Type 0 where
  pub empty : ends_return (slice_get toks next) ≡ true → EmptyReturnForm toks i next s
  pub values : ends_return (slice_get toks next) ≡ false → ValuesReturnForm toks left i next s

abbrev pub ReturnForm : List Tok → ℕ → ℕ → Stat → Type 0
ReturnForm toks left i = Then (IsToken toks i (Word word.Return)) (λ next. ReturnRest toks left i next)

pub return_form : {toks : List Tok} {left i : ℕ} → (s : Stat) → ReadReturn toks left i s → ReturnForm toks left i s
return_form {toks} {left} {i} s h = form (out-Stat s).to s h.is h.ends h.level
  where
    form : (j : ℕ) (s : Stat) → IsReturn toks i j s → EndsBlock toks j → stat_levels s ≤ left → ReturnForm toks left i s
    form _ _ (g.return_nothing {j = j} {k = k} t d) ends level = record {
      part = j;
      first = t;
      rest = record {
        empty = λ here. record { part = k; first = (d, ends); rest = refl };
        values = λ none. let here = semicolon_ends_return d ends in absurd cc;
      };
    }
    form _ _ (g.return_values {j = j} {k = k} {l = l} {es = es} t values d) ends level = record {
      part = j;
      first = t;
      rest = record {
        empty = λ here. absurd (values_go values here);
        values = λ none. record {
          part = (es, k);
          first = record { is = values; ends = semicolon_ends_exprs d ends; level = omega (arith, lv.return_levels i l es) };
          rest = record { part = l; first = (d, ends); rest = refl };
        };
      };
    }

pub semicolon_some : {toks : List Tok} {i next : ℕ} → IsToken toks i (Sign sign.Semicolon) next → Alone (ReadSemicolon toks i) next
semicolon_some {toks} {i} {next} t j h = form j h.0 h.1
  where
    form : (j : ℕ) → IsSemicolon toks i j → EndsBlock toks j → j ≡ next
    form _ g.no_semicolon ends = let here = ap ends_block t.there in absurd cc
    form _ (g.a_semicolon u) ends = same_end u t

pub semicolon_none : {toks : List Tok} {i : ℕ} → NotAt toks i (Sign sign.Semicolon) → Alone (ReadSemicolon toks i) i
semicolon_none {toks} {i} other j h = form j h.0
  where
    form : (j : ℕ) → IsSemicolon toks i j → j ≡ i
    form _ g.no_semicolon = refl
    form _ (g.a_semicolon u) = absurd (other u.there)

-- parts of statements

abbrev pub ArmsForm : List Tok → ℕ → ℕ → (List Arm × ℕ) → Type 0
ArmsForm toks left i = Then (ReadArm toks left i) (λ a. ListRest (IsToken toks a.1 (Word word.ElseIf)) (λ next. ReadArms toks left next) a.0 a.1)

pub arms_form : {toks : List Tok} {left i : ℕ} → (r : List Arm × ℕ) → ReadArms toks left i r → ArmsForm toks left i r
arms_form {toks} {left} {i} r h = form r.0 r.1 h.is h.ends h.level
  where
    form : (arms : List Arm) (j : ℕ) → AreArms toks i j arms → EndsArms toks j → deepest (map arm_levels arms) ≤ left → ArmsForm toks left i (arms, j)
    form _ j (g.one_arm {first = first} d) ends level = record {
      part = (first, j);
      first = record { is = d; ends = arms_end_block toks j ends; level = omega arith };
      rest = record { more = λ next u. let here = ap ends_arms u.there in absurd cc; last = λ none. refl };
    }
    form _ l (g.more_arms {j = j} {first = first} {arms = arms} d t rest) ends level = record {
      part = (first, j);
      first = record { is = d; ends = ap ends_block t.there; level = omega arith };
      rest = record {
        more = λ next u. ((arms, l), subst (λ p. ReadArms toks left p (arms, l)) (same_end t u) (record { is = rest; ends = ends; level = omega arith }), refl);
        last = λ none. absurd (none _ t);
      };
    }

abbrev pub ArmForm : List Tok → ℕ → ℕ → (Arm × ℕ) → Type 0
ArmForm toks left i =
    Then (ReadExpr toks 1 left i) (λ test. Then (IsToken toks (out-Expr test).to (Word word.Then)) (λ inside. Then (Enters left) (λ inner. Then (ReadBlock toks inner inside)
    (λ body r. r ≡ (roll-Arm (record { test = test; body = body }), (out-Block body).to)))))

pub arm_form : {toks : List Tok} {left i : ℕ} → (r : Arm × ℕ) → ReadArm toks left i r → ArmForm toks left i r
arm_form {toks} {left} {i} r h = form r.0 r.1 h.is h.ends h.level
  where
    form : (a : Arm) (j : ℕ) → IsArm toks i j a → EndsBlock toks j → arm_levels a ≤ left → ArmForm toks left i (a, j)
    form _ l (g.arm {k = k} {e = e} {body = body} test t d) ends level = let levels = lv.arm_of_levels e body in
        reads e (read_expr test (token_closes t.there refl refl refl) (omega arith)) (reads k (moved (expr_to test) t) (reads (left - 1) (omega arith)
        (reads body (read_block d ends (omega arith)) (ap (λ p. (roll-Arm (record { test = e; body = body }), p)) (sym (block_to d))))))

abbrev pub ElseForm : List Tok → ℕ → ℕ → (Option Block × ℕ) → Type 0
ElseForm toks left inside = Then (Enters left) (λ inner. Then (ReadBlock toks inner inside) (λ body r. r ≡ (Some body, (out-Block body).to)))

pub else_form : {toks : List Tok} {left i inside : ℕ} → IsToken toks i (Word word.Else) inside → (r : Option Block × ℕ) → ReadElse toks left i r → ElseForm toks left inside r
else_form {toks} {left} {i} {inside} t r h = form r.0 r.1 h.is h.ends h.level
  where
    form : (last : Option Block) (j : ℕ) → IsElse toks i j last → At toks j (Word word.End) → block_if_there (option_map block_levels last) ≤ left → ElseForm toks left inside (last, j)
    form None _ g.no_else ends level = let here = t.there in absurd cc
    form (Some body) k (g.an_else u d) ends level = record {
      part = left - 1;
      first = omega arith;
      rest = record { part = body; first = read_block (subst (λ p. IsBlock toks p k body) (same_end u t) d) (ap ends_block ends) (omega arith); rest = ap (λ p. (Some body, p)) (sym (block_to d)) };
    }

abbrev pub ForStepForm : List Tok → ℕ → ℕ → (Option Expr × ℕ) → Type 0
ForStepForm toks left from = Then (ReadExpr toks 1 left from) (λ e r. r ≡ (Some e, (out-Expr e).to))

pub for_step_form : {toks : List Tok} {left i from : ℕ} → IsToken toks i (Sign sign.Comma) from → (r : Option Expr × ℕ) → ReadForStep toks left i r → ForStepForm toks left from r
for_step_form {toks} {left} {i} {from} t r h = form r.0 r.1 h.is h.ends h.level
  where
    form : (step : Option Expr) (j : ℕ) → IsForStep toks i j step → At toks j (Word word.Do) → if_there (option_map expr_levels step) ≤ left → ForStepForm toks left from (step, j)
    form None _ g.no_for_step ends level = let here = t.there in absurd cc
    form (Some e) k (g.a_for_step u d) ends level = record {
      part = e;
      first = read_expr (subst (λ p. IsExpr toks 1 p k e) (same_end u t) d) (token_closes ends refl refl refl) (omega arith);
      rest = ap (λ p. (Some e, p)) (sym (expr_to d));
    }

-- targets of an assignment

pub variable_prefix : {toks : List Tok} {left i : ℕ} → (e : Expr) → ReadVariable toks left i e → ReadPrefix toks left i (record { shape = Variable; expr = e })
variable_prefix {toks} {left} {i} e h = record { is = h.is; ends = h.ends; level = h.level }

pub targets_last : {toks : List Tok} {left i : ℕ} {one : Expr} → NotAt toks (out-Expr one).to (Sign sign.Comma) → (r : List Expr × ℕ) → ReadMoreTargets toks left i one r → r ≡ (one ∷ [], (out-Expr one).to)
targets_last {toks} {left} {i} {one} other r h = form r.0 r.1 h.targets.is h.begins
  where
    form : (es : List Expr) (j : ℕ) → AreTargets toks i j es → es ≡ one ∷ h.others → ◌≡◌ {A = List Expr × ℕ} (es, j) (one ∷ [], (out-Expr one).to)
    form _ j (g.one_target {e = e} d) begins = let same : e ≡ one = cc in subst (λ x. ◌≡◌ {A = List Expr × ℕ} (e ∷ [], j) (x ∷ [], (out-Expr x).to)) same (ap (λ p. (e ∷ [], p)) (sym (variable_to d)))
    form _ _ (g.more_targets {e = e} d u _) begins = let same : e ≡ one = cc in absurd (other (subst (λ x. At toks (out-Expr x).to (Sign sign.Comma)) same (subst (λ p. At toks p (Sign sign.Comma)) (sym (variable_to d)) u.there)))

-- another target, and the rest from it on
abbrev pub NextTargetForm : List Tok → ℕ → Expr → ℕ → (List Expr × ℕ) → Type 0
NextTargetForm toks left one next = Then (ReadVariable toks left next) (λ two r. (rest : List Expr × ℕ) × ReadMoreTargets toks left next two rest × (r ≡ (one ∷ rest.0, rest.1)))

pub targets_form : {toks : List Tok} {left i next : ℕ} {one : Expr} → IsToken toks (out-Expr one).to (Sign sign.Comma) next → (r : List Expr × ℕ) → ReadMoreTargets toks left i one r → NextTargetForm toks left one next r
targets_form {toks} {left} {i} {next} {one} t r h = form r.1 r.0 h.targets.is h.begins h.targets.ends h.targets.level
  where
    -- the targets behind the `,`
    others : (p l : ℕ) (es : List Expr) → p ≡ next → AreTargets toks p l es → At toks l (Sign sign.Assign) → deepest (map expr_levels es) ≤ left → NextTargetForm toks left one next (one ∷ es, l)
    others p l _ at (g.one_target {e = e} d) ends level = subst (λ p. NextTargetForm toks left one p (one ∷ e ∷ [], l)) at
        (record { part = e; first = read_variable d (ap token_begins_suffix ends) (omega arith); rest = ((e ∷ [], l), record { others = []; begins = refl; targets = record { is = g.one_target d; ends = ends; level = level } }, refl) })
    others p l _ at (g.more_targets {e = e} {targets = es} d u rest) ends level = subst (λ p. NextTargetForm toks left one p (one ∷ e ∷ es, l)) at
        (record { part = e; first = read_variable d (ap token_begins_suffix u.there) (omega arith); rest = ((e ∷ es, l), record { others = es; begins = refl; targets = record { is = g.more_targets d u rest; ends = ends; level = level } }, refl) })

    form : (j : ℕ) (es : List Expr) → AreTargets toks i j es → es ≡ one ∷ h.others → At toks j (Sign sign.Assign) → deepest (map expr_levels es) ≤ left → NextTargetForm toks left one next (es, j)
    form j _ (g.one_target {e = e} d) begins ends level = let same : e ≡ one = cc in let comma = subst (λ p. At toks p (Sign sign.Comma)) (ap (λ x. (out-Expr x).to) (sym same) ∙ variable_to d) t.there in absurd cc
    form l _ (g.more_targets {e = e} {targets = es} d u rest) begins ends level = let same : e ≡ one = cc in
        subst (λ x. NextTargetForm toks left one next (x ∷ es, l)) (sym same) (others _ l es (same_end (moved (ap (λ x. (out-Expr x).to) (sym same) ∙ variable_to d) u) t) rest ends (omega arith))

-- statements

-- what a statement is that begins with a word at i
abbrev pub WordForm : List Tok → ℕ → ℕ → ℕ → Keyword → Stat → Type 0
WordForm toks left i next word.If s = ReadIf toks left i next s
WordForm toks left i next word.While s = ReadWhile toks left i next s
WordForm toks left i next word.Do s = ReadDo toks left i next s
WordForm toks left i next word.For s = ReadFor toks left i next s
WordForm toks left i next word.Repeat s = ReadRepeat toks left i next s
WordForm toks left i next word.Function s = ReadFunctionStat toks left i next s
WordForm toks left i next word.Local s = ReadLocal toks left i next s
WordForm toks left i next word.Goto s = ReadGoto toks i next s
WordForm toks left i next word.Break s = s ≡ statement i next stat.Break
WordForm toks left i next _ s = ReadExprStat toks left i s

abbrev pub SignForm : List Tok → ℕ → ℕ → ℕ → Mark → Stat → Type 0
SignForm toks left i next sign.DoubleColon s = ReadLabel toks i next s
SignForm toks left i next sign.Semicolon s = s ≡ statement i next stat.Empty
SignForm toks left i next _ s = ReadExprStat toks left i s

-- what a statement is, by its first token
abbrev pub StatForm : List Tok → ℕ → ℕ → ℕ → Option Tok → Stat → Type 0
StatForm toks left i next (Some (Word w)) s = WordForm toks left i next w s
StatForm toks left i next (Some (Sign m)) s = SignForm toks left i next m s
StatForm toks left i next _ s = ReadExprStat toks left i s

-- what a statement is that begins at a place
abbrev Formed : List Tok → ℕ → ℕ → Stat → Type 0
Formed toks left i s = StatForm toks left i (i + 1) (slice_get toks i) s

-- behind a word or a sign
word_stat : {toks : List Tok} {i j : ℕ} {w : Keyword} (left : ℕ) (s : Stat) → IsToken toks i (Word w) j → WordForm toks left i j w s → Formed toks left i s
word_stat {toks} {i} {j} {w} left s t h = subst (λ o. StatForm toks left i (i + 1) o s) (sym t.there) (subst (λ p. WordForm toks left i p w s) t.next h)

sign_stat : {toks : List Tok} {i j : ℕ} {m : Mark} (left : ℕ) (s : Stat) → IsToken toks i (Sign m) j → SignForm toks left i j m s → Formed toks left i s
sign_stat {toks} {i} {j} {m} left s t h = subst (λ o. StatForm toks left i (i + 1) o s) (sym t.there) (subst (λ p. SignForm toks left i p m s) t.next h)

-- a prefix expression begins with a name or a `(`
abbrev BeginsPrefix : List Tok → ℕ → Type 0
BeginsPrefix toks i = At toks i Name ⊎ At toks i (Sign sign.LeftParen)

head_begins : {toks : List Tok} {i j : ℕ} {e : Expr} → IsHead toks i j e → BeginsPrefix toks i
head_begins (g.name_head t) = inl t.there
head_begins (g.paren_head (g.paren t _ _)) = inr t.there

variable_begins : {toks : List Tok} {i j : ℕ} {e : Expr} → IsVariable toks i j e → BeginsPrefix toks i
variable_begins (g.name_variable t) = inl t.there
variable_begins (g.suffixed_variable d _) = head_begins d

expr_stat : {toks : List Tok} {i : ℕ} (left : ℕ) (s : Stat) → BeginsPrefix toks i → ReadExprStat toks left i s → Formed toks left i s
expr_stat {toks} {i} left s (inl t) h = subst (λ o. StatForm toks left i (i + 1) o s) (sym t) h
expr_stat {toks} {i} left s (inr t) h = subst (λ o. StatForm toks left i (i + 1) o s) (sym t) h

-- an assignment, with the first of its targets, which ends at p
assign_form : {toks : List Tok} {left i j k l : ℕ} {one : Expr} {others es : List Expr} (p : ℕ) → IsVariable toks i p one → begins_suffix toks p ≡ false → AreTargets toks i j (one ∷ others) → IsToken toks j (Sign sign.Assign) k
    → AreExprs toks k l es → EndsStat toks l → stat_levels (statement i l (stat.Assign (one ∷ others) es)) ≤ left → Formed toks left i (statement i l (stat.Assign (one ∷ others) es))
assign_form {toks} {left} {i} {j} {k} {l} {one} {others} {es} p first closed targets t values ends level = let levels = lv.assign_levels i l (one ∷ others) es in
    expr_stat left (statement i l (stat.Assign (one ∷ others) es)) (variable_begins first)
    (reads (record { shape = Variable; expr = one }) (variable_prefix one (read_variable first closed (omega arith)))
    (reads (one ∷ others, j) (record { others = others; begins = refl; targets = record { is = targets; ends = t.there; level = omega arith } })
    (reads k t (reads (es, l) (record { is = values; ends = stat_ends_exprs ends; level = omega arith }) refl))))

call_form : {toks : List Tok} {left i j : ℕ} {e : Expr} → IsCall toks i j e → NoParenFollows toks j → EndsStat toks j → stat_levels (statement i j (stat.Call e)) ≤ left → Formed toks left i (statement i j (stat.Call e))
call_form {toks} {left} {i} {j} {e} d closed ends level = let levels = lv.call_levels i j e in
    expr_stat left (statement i j (stat.Call e)) (begins d)
    (reads (record { shape = Call; expr = e }) (subst (λ p. Part (IsCall toks i p e) (begins_suffix toks p ≡ false) (expr_levels e) left) (sym (call_to d)) (record { is = d; ends = stat_ends_prefix toks j ends closed; level = omega arith }))
    (ap (λ p. statement i p (stat.Call e)) (sym (call_to d))))
  where
    begins : {e : Expr} → IsCall toks i j e → BeginsPrefix toks i
    begins (g.suffixed_call head _) = head_begins head

-- names that are declared begin with a name
pub declared_begins : {toks : List Tok} {i j : ℕ} {declared : List Declared} → AreDeclared toks i j declared → At toks i Name
declared_begins (g.one_declared t _) = t.there
declared_begins (g.more_declared t _ _ _) = t.there

local_form : {toks : List Tok} {i j k : ℕ} {declared : List Declared} (left : ℕ) → IsToken toks i (Word word.Local) j → AreDeclared toks j k declared → EndsStat toks k → Formed toks left i (statement i k (stat.Local declared []))
local_form {toks} {i} {j} {k} {declared} left t d ends = word_stat left (statement i k (stat.Local declared [])) t (record {
  function = λ name u. let here = u.there in let begins = declared_begins d in absurd cc;
  named = λ other. reads (declared, k) (record { is = d; ends = record { comma = not_at toks k follows_stat ends refl; less = not_at toks k follows_stat ends refl }; level = omega arith })
      (record { values = λ from u. absurd (not_at toks k follows_stat ends refl u.there); none = λ none. refl });
})

local_values_form : {toks : List Tok} {left i j k l o : ℕ} {declared : List Declared} {es : List Expr} → IsToken toks i (Word word.Local) j → AreDeclared toks j k declared → IsToken toks k (Sign sign.Assign) l → AreExprs toks l o es → EndsStat toks o
    → stat_levels (statement i o (stat.Local declared es)) ≤ left → Formed toks left i (statement i o (stat.Local declared es))
local_values_form {toks} {left} {i} {j} {k} {l} {o} {declared} {es} t d u values ends level = word_stat left (statement i o (stat.Local declared es)) t (record {
  function = λ name v. let here = v.there in let begins = declared_begins d in absurd cc;
  named = λ other. reads (declared, k) (record { is = d; ends = record { comma = λ comma. let here = u.there in absurd cc; less = λ less. let here = u.there in absurd cc }; level = omega arith }) (record {
    values = λ from v. reads (es, o) (subst (λ p. ReadExprs toks left p (es, o)) (same_end u v) (record { is = values; ends = stat_ends_exprs ends; level = omega (arith, lv.local_levels i o declared es) })) refl;
    none = λ none. absurd (none u.there);
  });
})

while_form : {toks : List Tok} {left i j k l o p : ℕ} {e : Expr} {body : Block} → IsToken toks i (Word word.While) j → IsExpr toks 1 j k e → IsToken toks k (Word word.Do) l → IsBlock toks l o body → IsToken toks o (Word word.End) p
    → stat_levels (statement i p (stat.While e body)) ≤ left → Formed toks left i (statement i p (stat.While e body))
while_form {toks} {left} {i} {j} {k} {l} {o} {p} {e} {body} t d u b v level = let levels = lv.while_levels i p e body in
    word_stat left (statement i p (stat.While e body)) t (reads e (read_expr d (token_closes u.there refl refl refl) (omega arith)) (reads l (moved (expr_to d) u) (reads (body, p) (read_ended b v (omega arith)) refl)))

repeat_form : {toks : List Tok} {left i j k l o : ℕ} {body : Block} {e : Expr} → IsToken toks i (Word word.Repeat) j → IsBlock toks j k body → IsToken toks k (Word word.Until) l → IsExpr toks 1 l o e → EndsStat toks o
    → stat_levels (statement i o (stat.Repeat body e)) ≤ left → Formed toks left i (statement i o (stat.Repeat body e))
repeat_form {toks} {left} {i} {j} {k} {l} {o} {body} {e} t b u d ends level = let levels = lv.repeat_levels i o body e in
    word_stat left (statement i o (stat.Repeat body e)) t (reads (left - 1) (omega arith) (reads body (read_block b (ap ends_block u.there) (omega arith)) (reads l (moved (block_to b) u)
    (reads e (read_expr d (stat_ends_expr ends) (omega arith)) (ap (λ p. statement i p (stat.Repeat body e)) (sym (expr_to d)))))))

if_form : {toks : List Tok} {left i j k l o : ℕ} {arms : List Arm} {last : Option Block} → IsToken toks i (Word word.If) j → AreArms toks j k arms → IsElse toks k l last → IsToken toks l (Word word.End) o
    → stat_levels (statement i o (stat.If arms last)) ≤ left → Formed toks left i (statement i o (stat.If arms last))
if_form {toks} {left} {i} {j} {k} {l} {o} {arms} {last} t d e u level = let levels = lv.if_levels i o arms last in
    word_stat left (statement i o (stat.If arms last)) t (reads (arms, k) (record { is = d; ends = ends_arms_at e; level = omega arith }) (reads (last, l) (record { is = e; ends = u.there; level = omega arith }) (reads o u refl)))
  where
    ends_arms_at : {k : ℕ} {last : Option Block} → IsElse toks k l last → EndsArms toks k
    ends_arms_at g.no_else = ap ends_arms u.there
    ends_arms_at (g.an_else v _) = ap ends_arms v.there

-- behind the `=` of a `for` with a count
count_form : {toks : List Tok} {left i l m n o p q r s : ℕ} {first limit : Expr} {step : Option Expr} {body : Block} (name : ℕ) → IsExpr toks 1 l m first → IsToken toks m (Sign sign.Comma) n → IsExpr toks 1 n o limit → IsForStep toks o p step
    → IsToken toks p (Word word.Do) q → IsBlock toks q r body → IsToken toks r (Word word.End) s → stat_levels (statement i s (stat.For name first limit step body)) ≤ left → ReadCount toks left i name l (statement i s (stat.For name first limit step body))
count_form {toks} {left} {i} {l} {m} {n} {o} {p} {q} {r} {s} {first} {limit} {step} {body} name a t b c u d v level = let levels = lv.for_levels i s name first limit step body in
    reads first (read_expr a (token_closes t.there refl refl refl) (omega arith)) (reads n (moved (expr_to a) t) (reads limit (read_expr b (closes c) (omega arith))
    (reads (step, p) (subst (λ z. ReadForStep toks left z (step, p)) (sym (expr_to b)) (record { is = c; ends = u.there; level = omega arith })) (reads q u (reads (body, s) (read_ended d v (omega arith)) refl)))))
  where
    closes : {o : ℕ} {step : Option Expr} → IsForStep toks o p step → EndsExpr toks 1 o
    closes g.no_for_step = token_closes u.there refl refl refl
    closes (g.a_for_step w _) = token_closes w.there refl refl refl

-- no `=` stands behind the first of several names, of which `in` stands behind the last
pub names_assigned : {toks : List Tok} {i j k after from : ℕ} {names : List ℕ} → AreNames toks i j names → IsToken toks j (Word word.In) k → IsToken toks i Name after → IsToken toks after (Sign sign.Assign) from → ⊥
names_assigned (g.one_name t) u n assign = let here = u.there in let mark = assign.there in let e = same_end t n in absurd cc
names_assigned (g.more_names t comma _) u n assign = let here = comma.there in let mark = assign.there in let e = same_end t n in absurd cc

for_in_form : {toks : List Tok} {left i j k l o p q r : ℕ} {names : List ℕ} {es : List Expr} {body : Block} → IsToken toks i (Word word.For) j → AreNames toks j k names → IsToken toks k (Word word.In) l → AreExprs toks l o es
    → IsToken toks o (Word word.Do) p → IsBlock toks p q body → IsToken toks q (Word word.End) r → stat_levels (statement i r (stat.ForIn names es body)) ≤ left → Formed toks left i (statement i r (stat.ForIn names es body))
for_in_form {toks} {left} {i} {j} {k} {l} {o} {p} {q} {r} {names} {es} {body} t d u values v b w level = let levels = lv.for_in_levels i r names es body in word_stat left (statement i r (stat.ForIn names es body)) t (record {
  count = λ from z. absurd (names_assigned d u z.name z.sign);
  names = λ none. reads (names, k) (record { is = d; ends = λ comma. let here = u.there in absurd cc; level = omega arith }) (reads l u
      (reads (es, o) (record { is = values; ends = record { expr = token_closes v.there refl refl refl; comma = λ comma. let here = v.there in absurd cc }; level = omega arith }) (reads p v (reads (body, r) (read_ended b w (omega arith)) refl))));
})

pub body_begins : {toks : List Tok} {i j : ℕ} {f : FuncBody} → IsFuncBody toks i j f → At toks i (Sign sign.LeftParen)
body_begins (g.func_body t _ _ _ _) = t.there

-- no `.` stands behind the path of a function's name
pub method_no_dot : {toks : List Tok} {i j : ℕ} {method : Option ℕ} → IsMethod toks i j method → At toks j (Sign sign.LeftParen) → NotAt toks i (Sign sign.Dot)
method_no_dot g.no_method paren dot = absurd cc
method_no_dot (g.a_method t _) paren dot = let colon = t.there in absurd cc

function_form : {toks : List Tok} {left i j k l o : ℕ} {path : List ℕ} {method : Option ℕ} {f : FuncBody} → IsToken toks i (Word word.Function) j → IsPath toks j k path → IsMethod toks k l method → IsFuncBody toks l o f
    → stat_levels (statement i o (stat.Function path method f)) ≤ left → Formed toks left i (statement i o (stat.Function path method f))
function_form {toks} {left} {i} {j} {k} {l} {o} {path} {method} {f} t d m b level = let levels = lv.function_stat_levels i o path method f in
    word_stat left (statement i o (stat.Function path method f)) t (reads (left - 1) (omega arith) (reads (path, k) (record { is = d; ends = method_no_dot m (body_begins b); level = omega arith })
    (reads (method, l) (record { is = m; ends = body_begins b; level = omega arith }) (reads f (read_body b (omega arith)) (ap (λ p. statement i p (stat.Function path method f)) (sym (body_to b)))))))

local_function_form : {toks : List Tok} {left i j k l o : ℕ} {f : FuncBody} → IsToken toks i (Word word.Local) j → IsToken toks j (Word word.Function) k → IsToken toks k Name l → IsFuncBody toks l o f
    → stat_levels (statement i o (stat.LocalFunction k f)) ≤ left → Formed toks left i (statement i o (stat.LocalFunction k f))
local_function_form {toks} {left} {i} {j} {k} {l} {o} {f} t u n b level = let levels = lv.local_function_levels i o k f in word_stat left (statement i o (stat.LocalFunction k f)) t (record {
  function = λ name v. subst (λ p. ReadLocalFunction toks left i p (statement i o (stat.LocalFunction k f))) (same_end u v)
      (reads (left - 1) (omega arith) (reads l n (reads f (read_body b (omega arith)) (ap (λ p. statement i p (stat.LocalFunction k f)) (sym (body_to b))))));
  named = λ other. absurd (other u.there);
})

pub stat_form : {toks : List Tok} {left i : ℕ} → (s : Stat) → ReadStat toks left i s → StatForm toks left i (i + 1) (slice_get toks i) s
stat_form {toks} {left} {i} s h = form (out-Stat s).to s h.is h.ends h.level
  where
    form : (j : ℕ) (s : Stat) → IsStat toks i j s → EndsStat toks j → stat_levels s ≤ left → Formed toks left i s
    form j _ (g.empty_stat t) ends level = sign_stat left (statement i j stat.Empty) t refl
    form _ _ (g.local_stat t d) ends level = local_form left t d ends
    form _ _ (g.local_values_stat t d u values) ends level = local_values_form t d u values ends level
    form _ _ (g.assign_stat (g.one_target d) t values) ends level = assign_form _ d (ap token_begins_suffix t.there) (g.one_target d) t values ends level
    form _ _ (g.assign_stat (g.more_targets d u rest) t values) ends level = assign_form _ d (ap token_begins_suffix u.there) (g.more_targets d u rest) t values ends level
    form _ _ (g.call_stat d closed) ends level = call_form d closed ends level
    form l _ (g.do_stat {body = body} t d u) ends level = word_stat left (statement i l (stat.Do body)) t (reads (body, l) (read_ended d u (omega (arith, lv.do_levels i l body))) refl)
    form _ _ (g.while_stat t d u b v) ends level = while_form t d u b v level
    form _ _ (g.repeat_stat t b u d) ends level = repeat_form t b u d ends level
    form _ _ (g.if_stat t d e u) ends level = if_form t d e u level
    form s _ (g.for_stat {j = j} {first = first} {limit = limit} {step = step} {body = body} t name assign a comma b c u d v) ends level = word_stat left (statement i s (stat.For j first limit step body)) t (record {
      count = λ from z. subst (λ p. ReadCount toks left i j p (statement i s (stat.For j first limit step body))) (second_end name assign z.name z.sign) (count_form j a comma b c u d v level);
      names = λ none. absurd (none _ (record { after = _; name = name; sign = assign }));
    })
    form _ _ (g.for_in_stat t d u values v b w) ends level = for_in_form t d u values v b w level
    form _ _ (g.function_stat t d m b) ends level = function_form t d m b level
    form _ _ (g.local_function_stat t u n b) ends level = local_function_form t u n b level
    form l _ (g.label_stat {j = j} {k = k} t n u) ends level = sign_stat left (statement i l (stat.Label j)) t (reads k n (reads l u refl))
    form k _ (g.goto_stat {j = j} t n) ends level = word_stat left (statement i k (stat.Goto j)) t (reads k n refl)
    form j _ (g.break_stat t) ends level = word_stat left (statement i j stat.Break) t refl

-- by its first token, as it was taken
pub begins_word : {toks : List Tok} {left i next : ℕ} {w : Keyword} → IsToken toks i (Word w) next → (s : Stat) → ReadStat toks left i s → WordForm toks left i next w s
begins_word {toks} {left} {i} {next} {w} t s h =
    subst (λ n. WordForm toks left i n w s) (sym t.next) (subst (λ (o : Option Tok). StatForm toks left i (i + 1) o s) t.there (stat_form s h))

pub begins_sign : {toks : List Tok} {left i next : ℕ} {m : Mark} → IsToken toks i (Sign m) next → (s : Stat) → ReadStat toks left i s → SignForm toks left i next m s
begins_sign {toks} {left} {i} {next} {m} t s h =
    subst (λ n. SignForm toks left i n m s) (sym t.next) (subst (λ (o : Option Tok). StatForm toks left i (i + 1) o s) t.there (stat_form s h))

expr_stat_from : {toks : List Tok} {left i : ℕ} (next : ℕ) {s : Stat} (o : Option Tok) → begins_prefix o ≡ true → StatForm toks left i next o s → ReadExprStat toks left i s
expr_stat_from next None h form = absurd cc
expr_stat_from next (Some Name) h form = form
expr_stat_from next (Some (Sign sign.LeftParen)) h form = form
expr_stat_from next (Some (Sign _)) h form = absurd cc
expr_stat_from next (Some _) h form = absurd cc

pub expr_stat_form : {toks : List Tok} {left i : ℕ} → begins_prefix (slice_get toks i) ≡ true → (s : Stat) → ReadStat toks left i s → ReadExprStat toks left i s
expr_stat_form {toks} {left} {i} begins s h = expr_stat_from (i + 1) (slice_get toks i) begins (stat_form s h)

-- behind none of the longer statements' first tokens
pub short_form : {toks : List Tok} {left i : ℕ} → begins_prefix (slice_get toks i) ≡ false → NotAt toks i (Word word.Local) → NotAt toks i (Word word.If) → NotAt toks i (Word word.For) → NotAt toks i (Word word.Function)
    → NotAt toks i (Word word.While) → NotAt toks i (Word word.Do) → NotAt toks i (Word word.Repeat) → (s : Stat) → ReadStat toks left i s → ReadShort toks i s
short_form {toks} {left} {i} prefix local_ if_ for_ function_ while_ do_ repeat_ s h = record {
  break = λ to t. begins_word t s h;
  empty = λ to t. begins_sign t s h;
  goto = λ name t. begins_word t s h;
  label = λ name t. begins_sign t s h;
  other = λ b e g l. none (slice_get toks i) (stat_starts h.is) prefix local_ if_ for_ function_ while_ do_ repeat_ b e g l;
}
  where
    none : (o : Option Tok) → starts_stat o ≡ true → begins_prefix o ≡ false → (o ≡ Some (Word word.Local) → ⊥) → (o ≡ Some (Word word.If) → ⊥) → (o ≡ Some (Word word.For) → ⊥) → (o ≡ Some (Word word.Function) → ⊥)
        → (o ≡ Some (Word word.While) → ⊥) → (o ≡ Some (Word word.Do) → ⊥) → (o ≡ Some (Word word.Repeat) → ⊥) → (o ≡ Some (Word word.Break) → ⊥) → (o ≡ Some (Sign sign.Semicolon) → ⊥) → (o ≡ Some (Word word.Goto) → ⊥) → (o ≡ Some (Sign sign.DoubleColon) → ⊥) → ⊥
    none None starts p h1 h2 h3 h4 h5 h6 h7 b e g l = cc
    none (Some Name) starts p h1 h2 h3 h4 h5 h6 h7 b e g l = cc
    none (Some (Word word.Local)) starts p h1 h2 h3 h4 h5 h6 h7 b e g l = h1 refl
    none (Some (Word word.If)) starts p h1 h2 h3 h4 h5 h6 h7 b e g l = h2 refl
    none (Some (Word word.For)) starts p h1 h2 h3 h4 h5 h6 h7 b e g l = h3 refl
    none (Some (Word word.Function)) starts p h1 h2 h3 h4 h5 h6 h7 b e g l = h4 refl
    none (Some (Word word.While)) starts p h1 h2 h3 h4 h5 h6 h7 b e g l = h5 refl
    none (Some (Word word.Do)) starts p h1 h2 h3 h4 h5 h6 h7 b e g l = h6 refl
    none (Some (Word word.Repeat)) starts p h1 h2 h3 h4 h5 h6 h7 b e g l = h7 refl
    none (Some (Word word.Break)) starts p h1 h2 h3 h4 h5 h6 h7 b e g l = b refl
    none (Some (Word word.Goto)) starts p h1 h2 h3 h4 h5 h6 h7 b e g l = g refl
    none (Some (Word _)) starts p h1 h2 h3 h4 h5 h6 h7 b e g l = cc
    none (Some (Sign sign.Semicolon)) starts p h1 h2 h3 h4 h5 h6 h7 b e g l = e refl
    none (Some (Sign sign.DoubleColon)) starts p h1 h2 h3 h4 h5 h6 h7 b e g l = l refl
    none (Some (Sign sign.LeftParen)) starts p h1 h2 h3 h4 h5 h6 h7 b e g l = cc
    none (Some (Sign _)) starts p h1 h2 h3 h4 h5 h6 h7 b e g l = cc
    none (Some _) starts p h1 h2 h3 h4 h5 h6 h7 b e g l = cc
