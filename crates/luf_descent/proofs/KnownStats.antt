-- Parts of statements in each list of tokens that agrees: that what was read is the only one.
use Rattle.std.proofs.Common.{◌≡◌, ℕ, ◌+◌, ◌≤◌, Bool, true, false, Option, None, Some, List, [], map, refl, sym, ap, ◌∙◌, subst, arith}
use Rattle.std.specs.Prelude.{slice_get}
use Rattle.std.specs.Option.{option_map}
use Rattle.luf_lex.specs.declared.token.Tok.{Tok}
use Rattle.luf_lex.specs.declared.token.Tok.TheVariants.{Name, Word, Sign}
use Rattle.luf_lex.specs.declared.token.Word.{Word as Keyword}
use Rattle.luf_lex.specs.declared.token.Word.TheVariants as word
use Rattle.luf_lex.specs.declared.token.Sign.TheVariants as sign
use Rattle.luf_tree.specs.declared.tree.Block.{Block, out-Block}
use Rattle.luf_tree.specs.declared.tree.Stat.{Stat, out-Stat}
use Rattle.luf_tree.specs.declared.tree.StatKind.TheVariants as stat
use Rattle.luf_tree.specs.declared.tree.Declared.{Declared}
use Rattle.luf_tree.specs.declared.tree.Arm.{Arm, roll-Arm}
use Rattle.luf_tree.specs.declared.tree.Expr.{Expr, out-Expr}
use Rattle.luf_tree.specs.declared.tree.FuncBody.{FuncBody, out-FuncBody, roll-FuncBody}
use Rattle.luf_tree.specs.Level.{deepest, expr_levels, block_levels, body_levels, block_if_there, if_there}
use Rattle.luf_tree.specs.Grammar as g
use Rattle.luf_tree.specs.Grammar.{At, statement, IsToken, IsExpr, IsBlock, AreExprs, AreParams, AreNames, AreDeclared, IsPath, IsMethod, IsFuncBody, AreArms, IsElse, IsForStep, AreTargets, IsSemicolon, IsVariable}
use Rattle.luf_descent.specs.Follow.{NotAt, NotAssigned, IsAssigned, ends_return, begins_prefix}
use Rattle.luf_descent.specs.Parts as p
use Rattle.luf_descent.specs.Reads.{Found}
use Rattle.luf_descent.specs.Stops.{Known}
use Rattle.luf_descent.specs.declared.prefixes.PrefixExpr.{PrefixExpr}
use Rattle.luf_descent.specs.declared.prefixes.Shape.{Shape}
use Rattle.luf_descent.specs.declared.prefixes.Shape.TheVariants as shape
use Rattle.luf_descent.proofs.Exactness.{then_rest, token_only}
use Rattle.luf_descent.proofs.StatForms.{func_body_form, return_form, semicolon_some, semicolon_none, arm_form, else_form, for_step_form, variable_prefix, WordForm, begins_word, expr_stat_form, short_form}
use Rattle.luf_descent.proofs.Completing.{agree_less, token_agrees}
use Rattle.luf_descent.proofs.ExprStops.{not_here}
use Rattle.luf_descent.proofs.ForStops.{not_assigned}
use Rattle.luf_descent.proofs.Knowing.{token_at, known_form, known_is}

-- what is made of parts

abbrev block_at : Block → ℕ → Block × ℕ
block_at b to = (b, to)

abbrev else_at : Block → ℕ → Option Block × ℕ
else_at b to = (Some b, to)

abbrev step_at : Expr → ℕ → Option Expr × ℕ
step_at e to = (Some e, to)

-- ---- bodies and returns

pub body_known : {toks : List Tok} {at inside close from to left : ℕ} {ps : List ℕ} {vararg : Bool} {body : Block} → IsToken toks at (Sign sign.LeftParen) inside → Found toks inside close 0 0 (AreParams toks inside close ps vararg)
    → Known toks close (λ l n. p.ReadParams l inside) (ps, vararg, close) → IsToken toks close (Sign sign.RightParen) from → Found toks from (out-Block body).to left (block_levels body) (IsBlock toks from (out-Block body).to body)
    → Known toks (out-Block body).to (λ l n. p.ReadBlock l n from) body → IsToken toks (out-Block body).to (Word word.End) to
    → Known toks to (λ l n. p.ReadFuncBody l n at) (roll-FuncBody (record { from = at; to = to; params = ps; vararg = vararg; body = body }))
body_known t ok known u ok2 known2 v =
    let n = t.next in
    let o = u.next in
    let q = v.next in
    let f = ok.ends.forward in
    let f2 = ok2.ends.forward in
    record {
      only = λ l agree n y d.
          let r = then_rest (token_only (token_agrees agree (omega arith) t)) (func_body_form y d) in
          let z = then_rest (known.only l (agree_less agree (omega arith)) n) r in
          let w = then_rest (token_only (token_agrees agree (omega arith) u)) z in
          let x = then_rest (known2.only l (agree_less agree (omega arith)) n) w in
          then_rest (token_only (token_agrees agree (omega arith) v)) x;
    }

pub semicolon_known : {toks : List Tok} {at to : ℕ} → IsToken toks at (Sign sign.Semicolon) to → Known toks to (λ l n. p.ReadSemicolon l at) to
semicolon_known t =
    let n = t.next in
    record { only = λ l agree n. semicolon_some (token_agrees agree (omega arith) t) }

pub no_semicolon_known : {toks : List Tok} {at : ℕ} → NotAt toks at (Sign sign.Semicolon) → Known toks at (λ l n. p.ReadSemicolon l at) at
no_semicolon_known {at = at} none = record { only = λ l agree n. semicolon_none (not_here at agree none) }

pub return_empty_known : {toks : List Tok} {at next to : ℕ} {es : List Expr} → IsToken toks at (Word word.Return) next → ends_return (slice_get toks next) ≡ true → Found toks next to 0 0 (IsSemicolon toks next to) → Known toks to (λ l n. p.ReadSemicolon l next) to → es ≡ []
    → Known toks to (λ l n. p.ReadReturn l n at) (statement at to (stat.Return es))
return_empty_known {at = at} {next = next} {to = to} t ends ok known e =
    let n = t.next in
    let f = ok.ends.forward in
    known_is (ap (λ es. statement at to (stat.Return es)) e) (record {
      only = λ l agree n y d.
          let r = (then_rest (token_only (token_agrees agree (omega arith) t)) (return_form y d)).empty (ap ends_return (agree.same next (omega arith)) ∙ ends) in
          then_rest (known.only l agree n) r;
    })

pub return_known : {toks : List Tok} {at next place to left : ℕ} {es : List Expr} → IsToken toks at (Word word.Return) next → ends_return (slice_get toks next) ≡ false → Found toks (next + 1) place left (deepest (map expr_levels es)) (AreExprs toks next place es)
    → Known toks place (λ l n. p.ReadExprs l n next) (es, place) → Found toks place to 0 0 (IsSemicolon toks place to) → Known toks to (λ l n. p.ReadSemicolon l place) to → Known toks to (λ l n. p.ReadReturn l n at) (statement at to (stat.Return es))
return_known {next = next} t goes ok known ok2 known2 =
    let n = t.next in
    let f = ok.ends.forward in
    let f2 = ok2.ends.forward in
    record {
      only = λ l agree n y d.
          let r = (then_rest (token_only (token_agrees agree (omega arith) t)) (return_form y d)).values (ap ends_return (agree.same next (omega arith)) ∙ goes) in
          let z = then_rest (known.only l (agree_less agree (omega arith)) n) r in
          then_rest (known2.only l agree n) z;
    }

pub ended_known : {toks : List Tok} {from to left : ℕ} {body boxed : Block} → Found toks from (out-Block body).to left (block_levels body) (IsBlock toks from (out-Block body).to body) → Known toks (out-Block body).to (λ l n. p.ReadBlock l n from) body
    → IsToken toks (out-Block body).to (Word word.End) to → boxed ≡ body → Known toks to (λ l n. p.ReadEnded l n from) (boxed, to)
ended_known {to = to} ok known u same =
    let o = u.next in
    record {
      only = λ l agree n y d.
          let r = then_rest (known.only l (agree_less agree (omega arith)) d.part) d.rest in
          then_rest (token_only (token_agrees agree (omega arith) u)) r ∙ ap (λ (b : Block). block_at b to) (sym same);
    }

-- ---- statements of words and names alone

pub break_known : {toks : List Tok} {at to : ℕ} → IsToken toks at (Word word.Break) to → Known toks to (λ l n. p.ReadShort l at) (statement at to stat.Break)
break_known {to = to} t =
    let n = t.next in
    record { only = λ l agree n y d. d.break to (token_agrees agree (omega arith) t) }

pub empty_known : {toks : List Tok} {at to : ℕ} → IsToken toks at (Sign sign.Semicolon) to → Known toks to (λ l n. p.ReadShort l at) (statement at to stat.Empty)
empty_known {to = to} t =
    let n = t.next in
    record { only = λ l agree n y d. d.empty to (token_agrees agree (omega arith) t) }

pub label_known : {toks : List Tok} {at name close to : ℕ} → IsToken toks name Name close → IsToken toks close (Sign sign.DoubleColon) to → Known toks to (λ l n. p.ReadLabel l at name) (statement at to (stat.Label name))
label_known t u =
    let n = t.next in
    let o = u.next in
    record {
      only = λ l agree n y d.
          let r = then_rest (token_only (token_agrees agree (omega arith) t)) d in
          then_rest (token_only (token_agrees agree (omega arith) u)) r;
    }

pub goto_known : {toks : List Tok} {at name to : ℕ} → IsToken toks name Name to → Known toks to (λ l n. p.ReadGoto l at name) (statement at to (stat.Goto name))
goto_known t =
    let n = t.next in
    record { only = λ l agree n y d. then_rest (token_only (token_agrees agree (omega arith) t)) d }

-- ---- `while`, `repeat`, `if`

pub while_known : {toks : List Tok} {at next inside to left : ℕ} {test : Expr} {body : Block} → Found toks (next + 1) (out-Expr test).to left (expr_levels test) (IsExpr toks 1 next (out-Expr test).to test) → Known toks (out-Expr test).to (λ l n. p.ReadExpr l 1 n next) test
    → IsToken toks (out-Expr test).to (Word word.Do) inside → inside ≤ to → Known toks to (λ l n. p.ReadEnded l n inside) (body, to) → Known toks to (λ l n. p.ReadWhile l n at next) (statement at to (stat.While test body))
while_known ok known u le known2 =
    let o = u.next in
    record {
      only = λ l agree n y d.
          let r = then_rest (known.only l (agree_less agree (omega arith)) n) d in
          let z = then_rest (token_only (token_agrees agree (omega arith) u)) r in
          then_rest (known2.only l agree n) z;
    }

pub repeat_known : {toks : List Tok} {at next from left : ℕ} {body : Block} {test : Expr} → Known toks (out-Block body).to (λ l n. p.ReadBlock l n next) body → IsToken toks (out-Block body).to (Word word.Until) from
    → Found toks (from + 1) (out-Expr test).to left (expr_levels test) (IsExpr toks 1 from (out-Expr test).to test) → Known toks (out-Expr test).to (λ l n. p.ReadExpr l 1 n from) test
    → Known toks (out-Expr test).to (λ l n. p.ReadRepeat l n at next) (statement at (out-Expr test).to (stat.Repeat body test))
repeat_known known u ok known2 =
    let o = u.next in
    let f = ok.ends.forward in
    record {
      only = λ l agree n y d.
          let r = then_rest (known.only l (agree_less agree (omega arith)) d.part) d.rest in
          let z = then_rest (token_only (token_agrees agree (omega arith) u)) r in
          then_rest (known2.only l agree n) z;
    }

pub if_known : {toks : List Tok} {at next after close to left : ℕ} {arms : List Arm} {last : Option Block} → Known toks after (λ l n. p.ReadArms l n next) (arms, after) → Found toks after close left (block_if_there (option_map block_levels last)) (IsElse toks after close last)
    → Known toks close (λ l n. p.ReadElse l n after) (last, close) → IsToken toks close (Word word.End) to → Known toks to (λ l n. p.ReadIf l n at next) (statement at to (stat.If arms last))
if_known known ok known2 u =
    let o = u.next in
    let f = ok.ends.forward in
    record {
      only = λ l agree n y d.
          let r = then_rest (known.only l (agree_less agree (omega arith)) n) d in
          let z = then_rest (known2.only l (agree_less agree (omega arith)) n) r in
          then_rest (token_only (token_agrees agree (omega arith) u)) z;
    }

pub arm_known : {toks : List Tok} {at inside inner : ℕ} {test : Expr} {body : Block} → Known toks (out-Expr test).to (λ l n. p.ReadExpr l 1 n at) test → IsToken toks (out-Expr test).to (Word word.Then) inside
    → Found toks inside (out-Block body).to inner (block_levels body) (IsBlock toks inside (out-Block body).to body) → Known toks (out-Block body).to (λ l n. p.ReadBlock l n inside) body
    → Known toks (out-Block body).to (λ l n. p.ReadArm l n at) (roll-Arm (record { test = test; body = body }), (out-Block body).to)
arm_known known u ok known2 =
    let o = u.next in
    let f = ok.ends.forward in
    record {
      only = λ l agree n y d.
          let r = then_rest (known.only l (agree_less agree (omega arith)) n) (arm_form y d) in
          let z = then_rest (token_only (token_agrees agree (omega arith) u)) r in
          then_rest (known2.only l agree z.part) z.rest;
    }

pub else_known : {toks : List Tok} {at inside inner : ℕ} {body boxed : Block} → IsToken toks at (Word word.Else) inside → Found toks inside (out-Block body).to inner (block_levels body) (IsBlock toks inside (out-Block body).to body)
    → Known toks (out-Block body).to (λ l n. p.ReadBlock l n inside) body → boxed ≡ body → Known toks (out-Block body).to (λ l n. p.ReadElse l n at) (Some boxed, (out-Block body).to)
else_known {body = body} t ok known same =
    let n = t.next in
    let f = ok.ends.forward in
    record {
      only = λ l agree n y d.
          let r = else_form (token_agrees agree (omega arith) t) y d in
          then_rest (known.only l agree r.part) r.rest ∙ ap (λ (b : Block). else_at b (out-Block body).to) (sym same);
    }

else_none : {l : List Tok} {i j : ℕ} {last : Option Block} → NotAt l i (Word word.Else) → IsElse l i j last → ◌≡◌ {A = Option Block × ℕ} (last, j) (None, i)
else_none none g.no_else = refl
else_none none (g.an_else t d) = absurd (none t.there)

pub no_else_known : {toks : List Tok} {at : ℕ} → NotAt toks at (Word word.Else) → Known toks at (λ l n. p.ReadElse l n at) (None, at)
no_else_known {at = at} none = record { only = λ l agree n y d. else_none (not_here at agree none) d.is }

-- ---- functions and `local`

pub function_stat_known : {toks : List Tok} {at next dot inside left : ℕ} {path : List ℕ} {method : Option ℕ} {f : FuncBody} → Known toks dot (λ l n. p.ReadPath l next) (path, dot) → Found toks dot inside 0 0 (IsMethod toks dot inside method)
    → Known toks inside (λ l n. p.ReadMethod l dot) (method, inside) → Found toks (inside + 1) (out-FuncBody f).to left (body_levels f) (IsFuncBody toks inside (out-FuncBody f).to f) → Known toks (out-FuncBody f).to (λ l n. p.ReadFuncBody l n inside) f
    → Known toks (out-FuncBody f).to (λ l n. p.ReadFunctionStat l n at next) (statement at (out-FuncBody f).to (stat.Function path method f))
function_stat_known known ok known2 ok2 known3 =
    let f = ok.ends.forward in
    let f2 = ok2.ends.forward in
    record {
      only = λ l agree n y d.
          let r = then_rest (known.only l (agree_less agree (omega arith)) n) d.rest in
          let z = then_rest (known2.only l (agree_less agree (omega arith)) n) r in
          then_rest (known3.only l agree d.part) z;
    }

pub local_function_known : {toks : List Tok} {at next name inside left : ℕ} {f : FuncBody} → IsToken toks next (Word word.Function) name → IsToken toks name Name inside → Found toks (inside + 1) (out-FuncBody f).to left (body_levels f) (IsFuncBody toks inside (out-FuncBody f).to f)
    → Known toks (out-FuncBody f).to (λ l n. p.ReadFuncBody l n inside) f → Known toks (out-FuncBody f).to (λ l n. p.ReadLocal l n at next) (statement at (out-FuncBody f).to (stat.LocalFunction name f))
local_function_known {name = name} t u ok known =
    let n = t.next in
    let o = u.next in
    let f = ok.ends.forward in
    record {
      only = λ l agree n y d.
          let r = d.function name (token_agrees agree (omega arith) t) in
          let z = then_rest (token_only (token_agrees agree (omega arith) u)) r.rest in
          then_rest (known.only l agree r.part) z;
    }

pub local_known : {toks : List Tok} {at next end : ℕ} {names : List Declared} {values : List Expr} → NotAt toks next (Word word.Function) → Found toks (next + 1) end 0 0 (AreDeclared toks next end names) → Known toks end (λ l n. p.ReadDeclared l next) (names, end)
    → NotAt toks end (Sign sign.Assign) → values ≡ [] → Known toks end (λ l n. p.ReadLocal l n at next) (statement at end (stat.Local names values))
local_known {at = at} {next = next} {end = end} {names = names} other ok known none e =
    let f = ok.ends.forward in
    known_is (ap (λ es. statement at end (stat.Local names es)) e) (record {
      only = λ l agree n y d. let r : p.ReadValues l n at names end y = then_rest (known.only l agree n) (d.named (not_here next (agree_less agree (omega arith)) other)) in r.none (not_here end agree none);
    })

pub local_values_known : {toks : List Tok} {at next end from to left : ℕ} {names : List Declared} {values : List Expr} → NotAt toks next (Word word.Function) → Found toks (next + 1) end 0 0 (AreDeclared toks next end names)
    → Known toks end (λ l n. p.ReadDeclared l next) (names, end) → IsToken toks end (Sign sign.Assign) from → Found toks (from + 1) to left (deepest (map expr_levels values)) (AreExprs toks from to values) → Known toks to (λ l n. p.ReadExprs l n from) (values, to)
    → Known toks to (λ l n. p.ReadLocal l n at next) (statement at to (stat.Local names values))
local_values_known {next = next} {from = from} other ok known u ok2 known2 =
    let f = ok.ends.forward in
    let f2 = ok2.ends.forward in
    let o = u.next in
    record {
      only = λ l agree n y d.
          let r = (then_rest (known.only l (agree_less agree (omega arith)) n) (d.named (not_here next (agree_less agree (omega arith)) other))).values from (token_agrees agree (omega arith) u) in
          then_rest (known2.only l agree n) r;
    }

-- ---- `for`

pub for_in_known : {toks : List Tok} {at next close from place inside to left : ℕ} {names : List ℕ} {values : List Expr} {body : Block} → NotAssigned toks next → Found toks (next + 1) close 0 0 (AreNames toks next close names)
    → Known toks close (λ l n. p.ReadNames l next) (names, close) → IsToken toks close (Word word.In) from → Found toks (from + 1) place left (deepest (map expr_levels values)) (AreExprs toks from place values) → Known toks place (λ l n. p.ReadExprs l n from) (values, place)
    → IsToken toks place (Word word.Do) inside → inside ≤ to → Known toks to (λ l n. p.ReadEnded l n inside) (body, to) → Known toks to (λ l n. p.ReadFor l n at next) (statement at to (stat.ForIn names values body))
for_in_known none ok known u ok2 known2 v le known3 =
    let f = ok.ends.forward in
    let f2 = ok2.ends.forward in
    let o = u.next in
    let q = v.next in
    record {
      only = λ l agree n y d.
          let r = then_rest (known.only l (agree_less agree (omega arith)) n) (d.names (not_assigned none agree (omega arith))) in
          let z = then_rest (token_only (token_agrees agree (omega arith) u)) r in
          let w = then_rest (known2.only l (agree_less agree (omega arith)) n) z in
          let x = then_rest (token_only (token_agrees agree (omega arith) v)) w in
          then_rest (known3.only l agree n) x;
    }

pub for_count_known : {toks : List Tok} {at next from : ℕ} {x : Stat} → IsAssigned toks next from → from ≤ (out-Stat x).to → Known toks (out-Stat x).to (λ l n. p.ReadCount l n at next from) x → Known toks (out-Stat x).to (λ l n. p.ReadFor l n at next) x
for_count_known {from = from} {x = x} a le known =
    let m = a.name.next in
    let o = a.sign.next in
    record { only = λ l agree n y d. known.only l agree n y (d.count from (record { after = a.after; name = token_agrees agree (omega arith) a.name; sign = token_agrees agree (omega arith) a.sign })) }

pub count_known : {toks : List Tok} {at name from second opener inside to left : ℕ} {first limit : Expr} {step : Option Expr} {body : Block} → Known toks (out-Expr first).to (λ l n. p.ReadExpr l 1 n from) first → IsToken toks (out-Expr first).to (Sign sign.Comma) second
    → Found toks (second + 1) (out-Expr limit).to left (expr_levels limit) (IsExpr toks 1 second (out-Expr limit).to limit) → Known toks (out-Expr limit).to (λ l n. p.ReadExpr l 1 n second) limit
    → Found toks (out-Expr limit).to opener left (if_there (option_map expr_levels step)) (IsForStep toks (out-Expr limit).to opener step) → Known toks opener (λ l n. p.ReadForStep l n (out-Expr limit).to) (step, opener)
    → IsToken toks opener (Word word.Do) inside → inside ≤ to → Known toks to (λ l n. p.ReadEnded l n inside) (body, to) → Known toks to (λ l n. p.ReadCount l n at name from) (statement at to (stat.For name first limit step body))
count_known known u ok known2 ok2 known3 v le known4 =
    let f = ok.ends.forward in
    let f2 = ok2.ends.forward in
    let o = u.next in
    let q = v.next in
    record {
      only = λ l agree n y d.
          let r = then_rest (known.only l (agree_less agree (omega arith)) n) d in
          let z = then_rest (token_only (token_agrees agree (omega arith) u)) r in
          let w = then_rest (known2.only l (agree_less agree (omega arith)) n) z in
          let x = then_rest (known3.only l (agree_less agree (omega arith)) n) w in
          let k = then_rest (token_only (token_agrees agree (omega arith) v)) x in
          then_rest (known4.only l agree n) k;
    }

pub step_known : {toks : List Tok} {at from left : ℕ} {x boxed : Expr} → IsToken toks at (Sign sign.Comma) from → Found toks (from + 1) (out-Expr x).to left (expr_levels x) (IsExpr toks 1 from (out-Expr x).to x) → Known toks (out-Expr x).to (λ l n. p.ReadExpr l 1 n from) x
    → boxed ≡ x → Known toks (out-Expr x).to (λ l n. p.ReadForStep l n at) (Some boxed, (out-Expr x).to)
step_known {x = x} t ok known same =
    let n = t.next in
    let f = ok.ends.forward in
    record {
      only = λ l agree n y d. then_rest (known.only l agree n) (for_step_form (token_agrees agree (omega arith) t) y d) ∙ ap (λ (b : Expr). step_at b (out-Expr x).to) (sym same);
    }

step_none : {l : List Tok} {i j : ℕ} {step : Option Expr} → NotAt l i (Sign sign.Comma) → IsForStep l i j step → ◌≡◌ {A = Option Expr × ℕ} (step, j) (None, i)
step_none none g.no_for_step = refl
step_none none (g.a_for_step t d) = absurd (none t.there)

pub no_step_known : {toks : List Tok} {at : ℕ} → NotAt toks at (Sign sign.Comma) → Known toks at (λ l n. p.ReadForStep l n at) (None, at)
no_step_known {at = at} none = record { only = λ l agree n y d. step_none (not_here at agree none) d.is }

-- ---- calls and assignments

pub call_stat_known : {toks : List Tok} {at : ℕ} {found : PrefixExpr} → Known toks (out-Expr found.expr).to (λ l n. p.ReadPrefix l n at) found → found.shape ≡ shape.Call
    → Known toks (out-Expr found.expr).to (λ l n. p.ReadExprStat l n at) (statement at (out-Expr found.expr).to (stat.Call found.expr))
call_stat_known {at = at} {found = found} known is =
    record { only = λ l agree n y d. let r = then_rest (known.only l agree n) d in subst (λ (q : Shape). p.ReadShaped l n at q found.expr y) is r }

pub assign_stat_known : {toks : List Tok} {at : ℕ} {found : PrefixExpr} {x : Stat} → Known toks (out-Expr found.expr).to (λ l n. p.ReadPrefix l n at) found → found.shape ≡ shape.Variable → (out-Expr found.expr).to ≤ (out-Stat x).to
    → Known toks (out-Stat x).to (λ l n. p.ReadAssign l n at found.expr) x → Known toks (out-Stat x).to (λ l n. p.ReadExprStat l n at) x
assign_stat_known {at = at} {found = found} known is le known2 = record {
  only = λ l agree n y d.
      let r = then_rest (known.only l (agree_less agree (omega arith)) n) d in
      known2.only l agree n y (subst (λ (q : Shape). p.ReadShaped l n at q found.expr y) is r);
}

pub assign_known : {toks : List Tok} {at place from to left : ℕ} {first : Expr} {targets values : List Expr} → Known toks place (λ l n. p.ReadMoreTargets l n at first) (targets, place) → IsToken toks place (Sign sign.Assign) from
    → Found toks (from + 1) to left (deepest (map expr_levels values)) (AreExprs toks from to values) → Known toks to (λ l n. p.ReadExprs l n from) (values, to) → Known toks to (λ l n. p.ReadAssign l n at first) (statement at to (stat.Assign targets values))
assign_known known u ok known2 =
    let o = u.next in
    let f = ok.ends.forward in
    record {
      only = λ l agree n y d.
          let r = then_rest (known.only l (agree_less agree (omega arith)) n) d in
          let z = then_rest (token_only (token_agrees agree (omega arith) u)) r in
          then_rest (known2.only l agree n) z;
    }

pub assign_further : {toks : List Tok} {start place from to left levels : ℕ} {t : Tok} {D : Type 0} → start ≤ place → IsToken toks place t from → Found toks (from + 1) to left levels D → start ≤ to
assign_further le u ok =
    let o = u.next in
    let f = ok.ends.forward in
    omega arith

pub variable_known : {toks : List Tok} {at : ℕ} {found : PrefixExpr} → Known toks (out-Expr found.expr).to (λ l n. p.ReadPrefix l n at) found → found.shape ≡ shape.Variable → Known toks (out-Expr found.expr).to (λ l n. p.ReadVariable l n at) found.expr
variable_known known is = record { only = λ l agree n y d. ap (λ (q : PrefixExpr). q.expr) (known.only l agree n (record { shape = shape.Variable; expr = y }) (variable_prefix y d)) }

-- ---- what a call looks for in the caller's place

pub word_known : {toks : List Tok} {at next to : ℕ} {x : Stat} (w : Keyword) → IsToken toks at (Word w) next → at ≤ to → Known toks to (λ l n. WordForm l n at next w) x → Known toks to (λ l n. p.ReadStat l n at) x
word_known w t le known = known_form le (λ l agree n. begins_word (token_at agree t)) known

pub expr_stat_known : {toks : List Tok} {at to : ℕ} {x : Stat} → begins_prefix (slice_get toks at) ≡ true → at ≤ to → Known toks to (λ l n. p.ReadExprStat l n at) x → Known toks to (λ l n. p.ReadStat l n at) x
expr_stat_known {at = at} is le known = known_form le (λ l agree n. expr_stat_form (ap begins_prefix (agree.same at (omega arith)) ∙ is)) known

pub short_known : {toks : List Tok} {at to : ℕ} {x : Stat} → begins_prefix (slice_get toks at) ≡ false → NotAt toks at (Word word.Local) → NotAt toks at (Word word.If) → NotAt toks at (Word word.For) → NotAt toks at (Word word.Function) → NotAt toks at (Word word.While)
    → NotAt toks at (Word word.Do) → NotAt toks at (Word word.Repeat) → at ≤ to → Known toks to (λ l n. p.ReadShort l at) x → Known toks to (λ l n. p.ReadStat l n at) x
short_known {at = at} is a b c d e f g le known =
    known_form le (λ l agree n. short_form (ap begins_prefix (agree.same at (omega arith)) ∙ is) (not_here at agree a) (not_here at agree b) (not_here at agree c) (not_here at agree d) (not_here at agree e) (not_here at agree f) (not_here at agree g)) known

pub short_goto_known : {toks : List Tok} {at name to : ℕ} {x : Stat} → IsToken toks at (Word word.Goto) name → at ≤ to → Known toks to (λ l n. p.ReadGoto l at name) x → Known toks to (λ l n. p.ReadShort l at) x
short_goto_known {name = name} t le known = record { only = λ l agree n y d. known.only l agree n y (d.goto name (token_agrees agree (omega arith) t)) }

pub short_label_known : {toks : List Tok} {at name to : ℕ} {x : Stat} → IsToken toks at (Sign sign.DoubleColon) name → at ≤ to → Known toks to (λ l n. p.ReadLabel l at name) x → Known toks to (λ l n. p.ReadShort l at) x
short_label_known {name = name} t le known = record { only = λ l agree n y d. known.only l agree n y (d.label name (token_agrees agree (omega arith) t)) }

pub do_known : {toks : List Tok} {at next to : ℕ} {body : Block} → Known toks to (λ l n. p.ReadEnded l n next) (body, to) → Known toks to (λ l n. p.ReadDo l n at next) (statement at to (stat.Do body))
do_known known = record { only = λ l agree n y d. then_rest (known.only l agree n) d }
