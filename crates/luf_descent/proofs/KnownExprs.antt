-- Parts of expressions in each list of tokens that agrees: that what was read is the only one.
use Rattle.std.proofs.Common.{◌≡◌, ℕ, ◌+◌, ◌≤◌, Bool, true, false, None, Some, List, [], ◌∷◌, map, sym, ap, ◌∙◌, arith}
use Rattle.luf_lex.specs.declared.token.Tok.{Tok}
use Rattle.luf_lex.specs.declared.token.Tok.TheVariants.{Name, Word, Sign}
use Rattle.luf_lex.specs.declared.token.Word.TheVariants as word
use Rattle.luf_lex.specs.declared.token.Sign.TheVariants as sign
use Rattle.luf_tree.specs.declared.tree.Expr.{Expr, out-Expr}
use Rattle.luf_tree.specs.declared.tree.ExprKind.{ExprKind}
use Rattle.luf_tree.specs.declared.tree.ExprKind.TheVariants as expr
use Rattle.luf_tree.specs.declared.tree.Field.{Field}
use Rattle.luf_tree.specs.declared.tree.Field.TheVariants as field
use Rattle.luf_tree.specs.declared.tree.Suffix.{Suffix}
use Rattle.luf_tree.specs.declared.tree.Suffix.TheVariants as suffix
use Rattle.luf_tree.specs.declared.tree.Args.{Args, out-Args, roll-Args}
use Rattle.luf_tree.specs.declared.tree.FuncBody.{FuncBody, out-FuncBody}
use Rattle.luf_tree.specs.Operator.{is_unary}
use Rattle.luf_tree.specs.Level.{deepest, expr_levels, field_levels, suffix_levels, args_levels}
use Rattle.luf_tree.specs.Grammar.{At, expression, IsToken, IsString, IsExpr, IsOperand, AreSuffixes, IsArgs, AreExprs, AreFields, suffixed}
use Rattle.luf_descent.specs.Follow.{NotAt, NotAssigned, NotString}
use Rattle.luf_descent.specs.Parts as p
use Rattle.luf_descent.specs.Reads.{Found, begins_suffix}
use Rattle.luf_descent.specs.Shapes.{suffixed_shape, lone_args, leaf_kind}
use Rattle.luf_descent.specs.Stops.{Known}
use Rattle.luf_descent.specs.declared.prefixes.PrefixExpr.{PrefixExpr}
use Rattle.luf_descent.specs.declared.prefixes.Shape.TheVariants as shape
use Rattle.luf_descent.proofs.Exactness.{then_rest, token_only}
use Rattle.luf_descent.proofs.ExprForms.{unary_form, power_form, function_form, table_expr_form, leaf_only, prefixed_form, table_form, keyed_form, named_form, item_form, prefix_form, head_name, head_form, paren_form, dot_form, index_form, method_form, call_form, args_list, args_lone, lone_string, lone_table}
use Rattle.luf_descent.proofs.Completing.{agree_less, token_agrees}
use Rattle.luf_descent.proofs.ExprStops.{not_here}
use Rattle.luf_descent.proofs.FieldStops.{item_assigned}
use Rattle.luf_descent.proofs.ArgStops.{no_string, string_agrees}
use Rattle.luf_descent.proofs.SoFar.{begins_agrees}
use Rattle.luf_descent.proofs.Knowing.{token_at, known_form, known_made, known_enters, known_is}

-- what is made of parts

abbrev keyed_at : Expr → Expr → Field × ℕ
keyed_at key x = (field.Keyed key x, (out-Expr x).to)

abbrev prefix_at : Expr → PrefixExpr
prefix_at e = record { shape = shape.Paren; expr = e }

abbrev index_at : Expr → ℕ → Suffix × Bool × ℕ
index_at key to = (suffix.Index key, false, to)

abbrev call_at : Args → Suffix × Bool × ℕ
call_at a = (suffix.Call a, true, (out-Args a).to)

-- ---- operands

pub unary_known : {toks : List Tok} {at next left : ℕ} {tok : Tok} {x : Expr} → IsToken toks at tok next → is_unary tok ≡ true → Found toks (next + 1) (out-Expr x).to left (expr_levels x) (IsOperand toks next (out-Expr x).to x)
    → Known toks (out-Expr x).to (λ l n. p.ReadOperand l n next) x → Known toks (out-Expr x).to (λ l n. p.ReadOperand l n at) (expression at (out-Expr x).to (expr.Unary x))
unary_known t u ok known =
    let n = t.next in
    let f = ok.ends.forward in
    record { only = λ l agree n y d. let r = unary_form (token_agrees agree (omega arith) t) u y d in then_rest (known.only l agree r.part) r.rest }

pub base_known : {toks : List Tok} {at : ℕ} {x : Expr} → NotAt toks (out-Expr x).to (Sign sign.Caret) → Known toks (out-Expr x).to (λ l n. p.ReadSimple l n at) x → Known toks (out-Expr x).to (λ l n. p.ReadPower l n at) x
base_known {x = x} none known = record { only = λ l agree n y d. (then_rest (known.only l agree n) d).none (not_here (out-Expr x).to agree none) }

pub power_known : {toks : List Tok} {at next left : ℕ} {base x : Expr} → Known toks (out-Expr base).to (λ l n. p.ReadSimple l n at) base → IsToken toks (out-Expr base).to (Sign sign.Caret) next
    → Found toks (next + 1) (out-Expr x).to left (expr_levels x) (IsOperand toks next (out-Expr x).to x) → Known toks (out-Expr x).to (λ l n. p.ReadOperand l n next) x
    → Known toks (out-Expr x).to (λ l n. p.ReadPower l n at) (expression at (out-Expr x).to (expr.Power base (out-Expr base).to x))
power_known {next = next} known t ok known2 =
    let n = t.next in
    let f = ok.ends.forward in
    record {
      only = λ l agree n y d.
          let r = (then_rest (known.only l (agree_less agree (omega arith)) n) d).power next (token_agrees agree (omega arith) t) in
          then_rest (known2.only l agree r.part) r.rest;
    }

pub leaf_known : {toks : List Tok} {at to : ℕ} {tok : Tok} {kind : ExprKind} → IsToken toks at tok to → leaf_kind tok ≡ Some kind → Known toks to (λ l n. p.ReadSimple l n at) (expression at to kind)
leaf_known t k =
    let n = t.next in
    record { only = λ l agree n. leaf_only (token_agrees agree (omega arith) t) k }

pub prefixed_known : {toks : List Tok} {at next to : ℕ} {tok : Tok} {x : PrefixExpr} → IsToken toks at tok next → leaf_kind tok ≡ None → NotAt toks at (Word word.Function) → NotAt toks at (Sign sign.LeftBrace) → at ≤ to
    → Known toks to (λ l n. p.ReadPrefix l n at) x → Known toks to (λ l n. p.ReadSimple l n at) x.expr
prefixed_known {at = at} t k f b le known =
    known_form le (λ l agree n. prefixed_form (token_at agree t) k (not_here at agree f) (not_here at agree b)) (known_made (λ (q : PrefixExpr). q.expr) known)

-- ---- tables and fields

pub table_known : {toks : List Tok} {at next close to left : ℕ} {fields : List Field} → IsToken toks at (Sign sign.LeftBrace) next → Found toks next close left (deepest (map field_levels fields)) (AreFields toks next close fields)
    → Known toks close (λ l n. p.ReadFields l n next) (fields, close) → IsToken toks close (Sign sign.RightBrace) to → Known toks to (λ l n. p.ReadTable l n at) (fields, to)
table_known t ok known u =
    let n = t.next in
    let o = u.next in
    let f = ok.ends.forward in
    record {
      only = λ l agree n y d.
          let r = then_rest (token_only (token_agrees agree (omega arith) t)) (table_form y d) in
          let z = then_rest (known.only l (agree_less agree (omega arith)) r.part) r.rest in
          then_rest (token_only (token_agrees agree (omega arith) u)) z;
    }

pub named_known : {toks : List Tok} {at after from left : ℕ} {x : Expr} → IsToken toks at Name after → IsToken toks after (Sign sign.Assign) from → Found toks (from + 1) (out-Expr x).to left (expr_levels x) (IsExpr toks 1 from (out-Expr x).to x)
    → Known toks (out-Expr x).to (λ l n. p.ReadExpr l 1 n from) x → Known toks (out-Expr x).to (λ l n. p.ReadField l n at) (field.Named at x, (out-Expr x).to)
named_known t u ok known =
    let n = t.next in
    let o = u.next in
    let f = ok.ends.forward in
    record { only = λ l agree n y d. then_rest (known.only l agree n) (named_form (token_agrees agree (omega arith) t) (token_agrees agree (omega arith) u) y d) }

-- an expression in an agreeing list stands where no name and `=` stand
pub item_known : {toks : List Tok} {at left : ℕ} {x : Expr} → NotAt toks at (Sign sign.LeftBracket) → NotAssigned toks at → Found toks (at + 1) (out-Expr x).to left (expr_levels x) (IsExpr toks 1 at (out-Expr x).to x)
    → Known toks (out-Expr x).to (λ l n. p.ReadExpr l 1 n at) x → Known toks (out-Expr x).to (λ l n. p.ReadField l n at) (field.Item x, (out-Expr x).to)
item_known {at = at} bracket none ok known =
    let f = ok.ends.forward in
    record { only = λ l agree n y d. then_rest (known.only l agree n) (item_form (not_here at (agree_less agree (omega arith)) bracket) (item_assigned none agree f) y d) }

pub keyed_known : {toks : List Tok} {at inside from place left inner : ℕ} {key x k : Expr} → IsToken toks at (Sign sign.LeftBracket) inside → Found toks (inside + 1) (out-Expr key).to inner (expr_levels key) (IsExpr toks 1 inside (out-Expr key).to key)
    → Known toks (out-Expr key).to (λ l n. p.ReadExpr l 1 n inside) key → IsToken toks (out-Expr key).to (Sign sign.RightBracket) from → IsToken toks from (Sign sign.Assign) place
    → Found toks (place + 1) (out-Expr x).to left (expr_levels x) (IsExpr toks 1 place (out-Expr x).to x) → Known toks (out-Expr x).to (λ l n. p.ReadExpr l 1 n place) x → k ≡ key
    → Known toks (out-Expr x).to (λ l n. p.ReadKeyed l n inside) (field.Keyed k x, (out-Expr x).to)
keyed_known {x = x} t ok known u v ok2 known2 same =
    let n = t.next in
    let o = u.next in
    let q = v.next in
    let f = ok.ends.forward in
    let f2 = ok2.ends.forward in
    record {
      only = λ l agree n y d.
          let r = then_rest (known.only l (agree_less agree (omega arith)) d.part) d.rest in
          let z = then_rest (token_only (token_agrees agree (omega arith) u)) r in
          let w = then_rest (token_only (token_agrees agree (omega arith) v)) z in
          then_rest (known2.only l agree n) w ∙ ap (λ (k : Expr). keyed_at k x) (sym same);
    }

-- ---- prefix expressions

pub prefix_known : {toks : List Tok} {at : ℕ} {head : PrefixExpr} → Known toks (out-Expr head.expr).to (λ l n. p.ReadHead l n at) head → begins_suffix toks (out-Expr head.expr).to ≡ false → Known toks (out-Expr head.expr).to (λ l n. p.ReadPrefix l n at) head
prefix_known {head = head} known none = record { only = λ l agree n y d. (then_rest (known.only l agree n) (prefix_form y d)).alone (begins_agrees (out-Expr head.expr).to agree none) }

pub suffixed_known : {toks : List Tok} {at to left : ℕ} {calls : Bool} {head : PrefixExpr} {found : List Suffix} → Known toks (out-Expr head.expr).to (λ l n. p.ReadHead l n at) head → begins_suffix toks (out-Expr head.expr).to ≡ true
    → Found toks ((out-Expr head.expr).to + 1) to left (deepest (map suffix_levels found)) (AreSuffixes toks calls (out-Expr head.expr).to to found) → Known toks to (λ l n. p.ReadSuffixes l n (out-Expr head.expr).to) (found, calls, to)
    → Known toks to (λ l n. p.ReadPrefix l n at) (record { shape = suffixed_shape calls; expr = suffixed at to head.expr found })
suffixed_known {head = head} known begins ok known2 =
    let f = ok.ends.forward in
    record {
      only = λ l agree n y d.
          let r = (then_rest (known.only l (agree_less agree (omega arith)) n) (prefix_form y d)).more (begins_agrees (out-Expr head.expr).to (agree_less agree (omega arith)) begins) in
          then_rest (known2.only l agree n) r;
    }

pub name_known : {toks : List Tok} {at to : ℕ} → IsToken toks at Name to → Known toks to (λ l n. p.ReadHead l n at) (record { shape = shape.Variable; expr = expression at to expr.Name })
name_known t =
    let n = t.next in
    record { only = λ l agree n. head_name (token_agrees agree (omega arith) t) }

pub paren_head_known : {toks : List Tok} {at to : ℕ} {x : Expr} → NotAt toks at Name → at ≤ to → Known toks to (λ l n. p.ReadParen l n at) x → Known toks to (λ l n. p.ReadHead l n at) (record { shape = shape.Paren; expr = x })
paren_head_known {at = at} none le known = known_form le (λ l agree n. head_form (not_here at agree none)) (known_made (λ (e : Expr). prefix_at e) known)

pub paren_known : {toks : List Tok} {at next to left : ℕ} {x : Expr} → IsToken toks at (Sign sign.LeftParen) next → Found toks (next + 1) (out-Expr x).to left (expr_levels x) (IsExpr toks 1 next (out-Expr x).to x)
    → Known toks (out-Expr x).to (λ l n. p.ReadExpr l 1 n next) x → IsToken toks (out-Expr x).to (Sign sign.RightParen) to → Known toks to (λ l n. p.ReadParen l n at) (expression at to (expr.Paren x))
paren_known t ok known u =
    let n = t.next in
    let o = u.next in
    let f = ok.ends.forward in
    record {
      only = λ l agree n y d.
          let r = then_rest (token_only (token_agrees agree (omega arith) t)) (paren_form y d) in
          let z = then_rest (known.only l (agree_less agree (omega arith)) r.part) r.rest in
          then_rest (token_only (token_agrees agree (omega arith) u)) z;
    }

-- ---- suffixes and arguments

pub dot_known : {toks : List Tok} {at name to : ℕ} → IsToken toks at (Sign sign.Dot) name → IsToken toks name Name to → Known toks to (λ l n. p.ReadSuffix l n at) (suffix.Dot name, false, to)
dot_known t u =
    let n = t.next in
    let o = u.next in
    record { only = λ l agree n y d. then_rest (token_only (token_agrees agree (omega arith) u)) (dot_form (token_agrees agree (omega arith) t) y d) }

pub index_known : {toks : List Tok} {at inside to left : ℕ} {x k : Expr} → IsToken toks at (Sign sign.LeftBracket) inside → Found toks (inside + 1) (out-Expr x).to left (expr_levels x) (IsExpr toks 1 inside (out-Expr x).to x)
    → Known toks (out-Expr x).to (λ l n. p.ReadExpr l 1 n inside) x → IsToken toks (out-Expr x).to (Sign sign.RightBracket) to → k ≡ x → Known toks to (λ l n. p.ReadSuffix l n at) (suffix.Index k, false, to)
index_known {to = to} t ok known u same =
    let n = t.next in
    let o = u.next in
    let f = ok.ends.forward in
    record {
      only = λ l agree n y d.
          let r = index_form (token_agrees agree (omega arith) t) y d in
          let z = then_rest (known.only l (agree_less agree (omega arith)) r.part) r.rest in
          then_rest (token_only (token_agrees agree (omega arith) u)) z ∙ ap (λ (k : Expr). index_at k to) (sym same);
    }

pub method_known : {toks : List Tok} {at name after left : ℕ} {args : Args} → IsToken toks at (Sign sign.Colon) name → IsToken toks name Name after → Found toks (after + 1) (out-Args args).to left (args_levels args) (IsArgs toks after (out-Args args).to args)
    → Known toks (out-Args args).to (λ l n. p.ReadArgs l n after) args → Known toks (out-Args args).to (λ l n. p.ReadSuffix l n at) (suffix.Method name args, true, (out-Args args).to)
method_known t u ok known =
    let n = t.next in
    let o = u.next in
    let f = ok.ends.forward in
    record {
      only = λ l agree n y d.
          let r = then_rest (token_only (token_agrees agree (omega arith) u)) (method_form (token_agrees agree (omega arith) t) y d) in
          then_rest (known.only l agree n) r;
    }

pub call_known : {toks : List Tok} {at : ℕ} {args : Args} → NotAt toks at (Sign sign.Dot) → NotAt toks at (Sign sign.LeftBracket) → NotAt toks at (Sign sign.Colon) → at ≤ (out-Args args).to → Known toks (out-Args args).to (λ l n. p.ReadArgs l n at) args
    → Known toks (out-Args args).to (λ l n. p.ReadSuffix l n at) (suffix.Call args, true, (out-Args args).to)
call_known {at = at} dot bracket colon le known =
    known_form le (λ l agree n. call_form (not_here at agree dot) (not_here at agree bracket) (not_here at agree colon)) (known_made (λ (a : Args). call_at a) known)

pub lone_known : {toks : List Tok} {at : ℕ} {x : Expr} {items : List Expr} → NotAt toks at (Sign sign.LeftParen) → at ≤ (out-Expr x).to → Known toks (out-Expr x).to (λ l n. p.ReadLoneArg l n at) x → items ≡ x ∷ []
    → Known toks (out-Expr x).to (λ l n. p.ReadArgs l n at) (roll-Args (record { from = at; to = (out-Expr x).to; parens = false; items = items }))
lone_known {at = at} {x = x} other le known e =
    known_is (ap (λ es. roll-Args (record { from = at; to = (out-Expr x).to; parens = false; items = es })) e) (known_form le (λ l agree n. args_lone (not_here at agree other)) (known_made (λ (e : Expr). lone_args at e) known))

pub no_args_known : {toks : List Tok} {at inside to : ℕ} {items : List Expr} → IsToken toks at (Sign sign.LeftParen) inside → IsToken toks inside (Sign sign.RightParen) to → items ≡ []
    → Known toks to (λ l n. p.ReadListArgs l n at inside) (roll-Args (record { from = at; to = to; parens = true; items = items }))
no_args_known {at = at} {to = to} t u e =
    let n = t.next in
    let o = u.next in
    record { only = λ l agree n y d. d.rest.empty to (token_agrees agree (omega arith) u) ∙ ap (λ es. p.list_args at to es) (sym e) }

pub list_args_known : {toks : List Tok} {at inside close to left : ℕ} {items : List Expr} → NotAt toks inside (Sign sign.RightParen) → Found toks (inside + 1) close left (deepest (map expr_levels items)) (AreExprs toks inside close items)
    → Known toks close (λ l n. p.ReadExprs l n inside) (items, close) → IsToken toks close (Sign sign.RightParen) to → Known toks to (λ l n. p.ReadListArgs l n at inside) (roll-Args (record { from = at; to = to; parens = true; items = items }))
list_args_known {inside = inside} other ok known u =
    let o = u.next in
    let f = ok.ends.forward in
    record {
      only = λ l agree n y d.
          let r = d.rest.list (not_here inside (agree_less agree (omega arith)) other) in
          let z = then_rest (known.only l (agree_less agree (omega arith)) d.part) r in
          then_rest (token_only (token_agrees agree (omega arith) u)) z;
    }

pub lone_string_known : {toks : List Tok} {at to : ℕ} → IsString toks at to → to ≡ at + 1 → Known toks to (λ l n. p.ReadLoneArg l n at) (expression at to expr.Str)
lone_string_known t next = record { only = λ l agree n y d. (lone_string (string_agrees agree (omega arith) t) y d).rest }

pub lone_table_known : {toks : List Tok} {at to : ℕ} {fields : List Field} → NotString toks at → at ≤ to → Known toks to (λ l n. p.ReadTable l n at) (fields, to) → Known toks to (λ l n. p.ReadLoneArg l n at) (expression at to (expr.Table fields))
lone_table_known {at = at} string le known =
    record { only = λ l agree n y d. let r = lone_table (no_string at agree (omega arith) string) y d in then_rest (known.only l agree r.rest.part) r.rest.rest }

-- ---- what a call looks for in the caller's place

pub operand_known : {toks : List Tok} {at next to : ℕ} {tok : Tok} {x : Expr} → IsToken toks at tok next → is_unary tok ≡ false → at ≤ to → Known toks to (λ l n. p.ReadPower l n at) x → Known toks to (λ l n. p.ReadOperand l n at) x
operand_known t u le known = known_form le (λ l agree n. power_form (token_at agree t) u) known

pub function_known : {toks : List Tok} {at next to : ℕ} {x : Expr} → IsToken toks at (Word word.Function) next → at ≤ to → Known toks to (λ l n. p.ReadFunction l n at next) x → Known toks to (λ l n. p.ReadSimple l n at) x
function_known t le known = known_form le (λ l agree n. function_form (token_at agree t)) known

pub table_expr_known : {toks : List Tok} {at to : ℕ} {x : Expr} → At toks at (Sign sign.LeftBrace) → at ≤ to → Known toks to (λ l n. p.ReadTableExpr l n at) x → Known toks to (λ l n. p.ReadSimple l n at) x
table_expr_known {at = at} here le known = known_form le (λ l agree n. table_expr_form (agree.same at (omega arith) ∙ here)) known

pub field_known : {toks : List Tok} {at inside to : ℕ} {x : Field × ℕ} → IsToken toks at (Sign sign.LeftBracket) inside → at ≤ to → Known toks to (λ l n. p.ReadKeyed l n inside) x → Known toks to (λ l n. p.ReadField l n at) x
field_known t le known = known_form le (λ l agree n. keyed_form (token_at agree t)) known

pub args_known : {toks : List Tok} {at inside to : ℕ} {x : Args} → IsToken toks at (Sign sign.LeftParen) inside → at ≤ to → Known toks to (λ l n. p.ReadListArgs l n at inside) x → Known toks to (λ l n. p.ReadArgs l n at) x
args_known t le known = known_form le (λ l agree n. args_list (token_at agree t)) known

-- what is made of a part

pub function_made : {toks : List Tok} {at next to : ℕ} {f : FuncBody} → Known toks to (λ l n. p.ReadFuncBody l n next) f → Known toks to (λ l n. p.ReadFunction l n at next) (expression at (out-FuncBody f).to (expr.Function f))
function_made {at = at} known = known_enters (known_made (λ (f : FuncBody). expression at (out-FuncBody f).to (expr.Function f)) known)

pub table_made : {toks : List Tok} {at to : ℕ} {fields : List Field} → Known toks to (λ l n. p.ReadTable l n at) (fields, to) → Known toks to (λ l n. p.ReadTableExpr l n at) (expression at to (expr.Table fields))
table_made {at = at} known = record { only = λ l agree n y d. then_rest (known.only l agree n) d }
