-- Where fields of a table and simple expressions stop, and what completes them.
use Rattle.std.proofs.Common.{◌≡◌, ℕ, ◌+◌, ◌<◌, ◌≤◌, ◌⊎◌, inl, inr, None, List, [], ◌∷◌, ◌++◌, take, refl, sym, ap, ◌∙◌, subst, arith, append-nil}
use Rattle.std.specs.Prelude.{slice_get}
use Rattle.std.proofs.lemmas.Bool.{cases_lt}
use Rattle.std.proofs.lemmas.List.{length-take}
use Rattle.std.proofs.lemmas.Option.{slice_get_past}
use Rattle.luf_lex.specs.declared.token.Tok.{Tok}
use Rattle.luf_lex.specs.declared.token.Tok.TheVariants.{Name, Word, Sign}
use Rattle.luf_lex.specs.declared.token.Word.TheVariants as word
use Rattle.luf_lex.specs.declared.token.Sign.TheVariants as sign
use Rattle.luf_tree.specs.declared.tree.Expr.{Expr, out-Expr}
use Rattle.luf_tree.specs.declared.tree.ExprKind.TheVariants as expr
use Rattle.luf_tree.specs.declared.tree.Field.{Field}
use Rattle.luf_tree.specs.declared.tree.Field.TheVariants as field
use Rattle.luf_tree.specs.Agree.{AgreeBefore}
use Rattle.luf_tree.specs.Level.{expr_levels}
use Rattle.luf_tree.specs.Entry.{entered, entries_of_expression, entries_of_field}
use Rattle.luf_tree.specs.Grammar as g
use Rattle.luf_tree.specs.Grammar.{At, expression, IsToken, IsExpr}
use Rattle.luf_tree.proofs.SyntaxEquations as eq
use Rattle.luf_tree.proofs.LevelEquations.{name_levels}
use Rattle.luf_tree.proofs.Alone.{cut_agrees}
use Rattle.luf_tree.proofs.Locality.{local_expr}
use Rattle.luf_descent.specs.Follow.{NotAt, NotAssigned, continues_prefix, precedence_of, EndsExpr}
use Rattle.luf_descent.specs.Parts as p
use Rattle.luf_descent.specs.PartEntries.{expr_entries}
use Rattle.luf_descent.specs.PartStops.{StopsToken, StopsExpr, StopsField, StopsSimple, StopsTable}
use Rattle.luf_descent.specs.Stops.{Known, wrong}
use Rattle.luf_descent.specs.declared.error.ParseErr.{ParseErr}
use Rattle.luf_descent.specs.declared.error.ParseErr.TheVariants as error
use Rattle.luf_descent.proofs.Ends.{moved}
use Rattle.luf_descent.proofs.EntryOpeners.{expr_opener}
use Rattle.luf_descent.proofs.Exactness.{then_rest, token_only}
use Rattle.luf_descent.proofs.ExprForms.{keyed_form, item_form, function_form, table_expr_form}
use Rattle.luf_descent.proofs.Completing.{agree_less, token_agrees, carried, carried_token, within_first, within_entered, within_as, within_spelled, within_low}
use Rattle.luf_descent.proofs.Frames.{stops_after, stops_last, stops_form, one, two}
use Rattle.luf_descent.proofs.Low.{low_expr}
use Rattle.luf_descent.proofs.ExprStops.{not_here, nil_at}
use Rattle.luf_descent.proofs.StatStops.{low_entered}
use Rattle.luf_descent.proofs.ForStops.{not_assigned}

-- where nothing but the end stands, an expression does not go on
ends_there : {l : List Tok} {i : ℕ} → slice_get l i ≡ None → EndsExpr l 1 i
ends_there {l} {i} none =
    let a = ap precedence_of none in
    record { precedence = omega arith; operand = record { suffix = ap continues_prefix none; power = λ there. absurd cc } }

-- a list that agrees up to and with a wrong token at which an expression begins does not begin with a name
expr_wrong : {toks : List Tok} {at left : ℕ} → StopsExpr toks 1 left at (error.Syntax at) → NotAt toks at Name
expr_wrong {toks} {at} h here = h.nothing at refl cut (cut_agrees toks (at + 1)) 0 (expression at (at + 1) expr.Name)
    (record { is = g.operand_expr (g.simple_operand (g.prefix_simple (g.variable_prefix (g.name_variable name)) closed)); ends = ends_there none; level = omega (arith, name_levels at (at + 1)) })
  where
    cut : List Tok
    cut = take (at + 1) toks

    name : IsToken cut at Name (at + 1)
    name = record { there = (cut_agrees toks (at + 1)).same at (omega arith) ∙ here; next = refl }

    none : slice_get cut (at + 1) ≡ None
    none = slice_get_past cut (at + 1) (omega (arith, length-take (at + 1) toks))

    closed : At cut (at + 1) (Sign sign.LeftParen) → ⊥
    closed there = let a = none in absurd cc

-- no name and `=` stand in a list that agrees up to a place behind the name
pub item_assigned : {toks l : List Tok} {at to : ℕ} → NotAssigned toks at → AgreeBefore toks l (to + 1) → at + 1 ≤ to → NotAssigned l at
item_assigned none agree le from a = not_assigned none agree (omega arith) from a

item_complete : {toks : List Tok} {at left : ℕ} {e : ParseErr} → StopsExpr toks 1 left at e → StopsField {B = Field × ℕ} toks left at (λ l n y. ⊥) e
item_complete h =
    stops_last (omega arith) h
    (λ kind w l k le b. record { part = field.Item b.made.part; derived = g.item_field b.made.derived; levels = λ level. within_spelled (entries_of_field level) (eq.item_syntax b.made.part) (b.made.levels level) })
    (λ w l le agree n y d. absurd d)

pub item_value : {toks : List Tok} {at left : ℕ} {e : ParseErr} → NotAt toks at (Sign sign.LeftBracket) → NotAssigned toks at → StopsExpr toks 1 left at e → StopsField toks left at (λ l n. p.ReadField l n at) e
item_value {toks} {at} {left} {e} bracket none h = record {
  completes = (item_complete h).completes;
  nothing = λ w is l agree n y d.
      let low = (h.completes wrong w is).forward in
      let f = item_form (not_here at (agree_less agree (omega arith)) bracket) (either w is l agree low (cases_lt at w)) y d in
      h.nothing w is l agree n f.part f.first;
}
  where
    either : (w : ℕ) → e ≡ error.Syntax w → (l : List Tok) → AgreeBefore toks l (w + 1) → at ≤ w → (at < w) ⊎ (w ≤ at) → NotAssigned l at
    either w is l agree le (inl low) from a = not_assigned none agree (omega arith) from a
    either w is l agree le (inr high) from a =
        let same : w ≡ at = omega arith in
        expr_wrong (subst (λ (x : ParseErr). StopsExpr toks 1 left at x) (is ∙ ap error.Syntax same) h) (sym (agree.same at (omega arith)) ∙ a.name.there)

pub field_keyed : {toks : List Tok} {at inside left : ℕ} {e : ParseErr} → IsToken toks at (Sign sign.LeftBracket) inside → StopsField toks left at (λ l n. p.ReadKeyed l n inside) e → StopsField toks left at (λ l n. p.ReadField l n at) e
field_keyed t h = stops_form h (λ w l le agree n y d. record { left = n; part = y; is = keyed_form (token_agrees agree (omega arith) t) y d })

pub keyed_close : {toks : List Tok} {at inside close left inner : ℕ} {key : Expr} {e : ParseErr} → IsToken toks at (Sign sign.LeftBracket) inside → left ≡ inner + 1 → IsExpr toks 1 inside close key → inside ≤ close → (out-Expr key).to ≡ close
    → expr_levels key ≤ inner → Known toks close (λ l n. p.ReadExpr l 1 n inside) key → StopsToken toks inner close (Sign sign.RightBracket) e → StopsField toks left at (λ l n. p.ReadKeyed l n inside) e
keyed_close {at = at} {key = key} t enter d forward to low known h =
    let n = t.next in
    stops_after (Sign sign.Assign ∷ Word word.Nil ∷ []) refl (omega arith) h
    (λ kind w l m k le b.
    let s = two b.stand in
    let y = nil_at {n = 1} s.second in
    let u = carried_token b.room t (omega arith) in
    let d = carried b.room (local_expr d) (omega arith) in
    record {
      part = field.Keyed key y.part;
      derived = g.keyed_field u d b.made.derived s.first y.derived;
      levels = λ level. within_spelled (entries_of_field level) (eq.keyed_syntax key y.part) (within_spelled (λ q. entered q level (expr_entries (level + 1) key) ++ expr_entries level y.part) (expr_opener u d)
          (within_as (ap (λ es. entered at level (expr_entries (level + 1) key) ++ es) (y.none level) ∙ append-nil (entered at level (expr_entries (level + 1) key)))
          (within_entered at enter (within_low (expr_entries (level + 1) key) (low_expr (level + 1) key low) (b.made.levels (level + 1))))));
    })
    (λ w l le agree n y d. let r = then_rest (known.only l (agree_less agree (omega arith)) d.part) d.rest in record { left = d.part; part = r.part; is = subst (λ (q : ℕ). IsToken l q (Sign sign.RightBracket) r.part) to r.first })

pub keyed_equal : {toks : List Tok} {at inside close from left inner : ℕ} {key : Expr} {e : ParseErr} → IsToken toks at (Sign sign.LeftBracket) inside → left ≡ inner + 1 → IsExpr toks 1 inside close key → inside ≤ close → (out-Expr key).to ≡ close
    → expr_levels key ≤ inner → Known toks close (λ l n. p.ReadExpr l 1 n inside) key → IsToken toks close (Sign sign.RightBracket) from → StopsToken toks left from (Sign sign.Assign) e → StopsField toks left at (λ l n. p.ReadKeyed l n inside) e
keyed_equal {at = at} {inner = inner} {key = key} t enter d forward to low known c h =
    let n = t.next in
    let o = c.next in
    stops_after (Word word.Nil ∷ []) refl (omega arith) h
    (λ kind w l m k le b.
    let y = nil_at {n = 1} (one b.stand) in
    let u = carried_token b.room t (omega arith) in
    let d = carried b.room (local_expr d) (omega arith) in
    record {
      part = field.Keyed key y.part;
      derived = g.keyed_field u d (carried_token b.room c (omega arith)) b.made.derived y.derived;
      levels = λ level. within_spelled (entries_of_field level) (eq.keyed_syntax key y.part) (within_spelled (λ q. entered q level (expr_entries (level + 1) key) ++ expr_entries level y.part) (expr_opener u d)
          (within_as (ap (λ es. entered at level (expr_entries (level + 1) key) ++ es) (y.none level) ∙ append-nil (entered at level (expr_entries (level + 1) key)))
          (within_low (entered at level (expr_entries (level + 1) key)) (low_entered at level inner (expr_entries (level + 1) key) enter (low_expr (level + 1) key low)) (b.made.levels level))));
    })
    (λ w l le agree n y d.
    let r = then_rest (known.only l (agree_less agree (omega arith)) d.part) d.rest in
    let z = then_rest (token_only (moved to (token_agrees agree (omega arith) c))) r in
    record { left = n; part = z.part; is = z.first })

pub keyed_value : {toks : List Tok} {at inside close from place left inner : ℕ} {key : Expr} {e : ParseErr} → IsToken toks at (Sign sign.LeftBracket) inside → left ≡ inner + 1 → IsExpr toks 1 inside close key → inside ≤ close → (out-Expr key).to ≡ close
    → expr_levels key ≤ inner → Known toks close (λ l n. p.ReadExpr l 1 n inside) key → IsToken toks close (Sign sign.RightBracket) from → IsToken toks from (Sign sign.Assign) place → StopsExpr toks 1 left place e
    → StopsField toks left at (λ l n. p.ReadKeyed l n inside) e
keyed_value {at = at} {inner = inner} {key = key} t enter d forward to low known c v h =
    let n = t.next in
    let o = c.next in
    let q = v.next in
    stops_last (omega arith) h
    (λ kind w l k le b.
    let u = carried_token b.room t (omega arith) in
    let d = carried b.room (local_expr d) (omega arith) in
    record {
      part = field.Keyed key b.made.part;
      derived = g.keyed_field u d (carried_token b.room c (omega arith)) (carried_token b.room v (omega arith)) b.made.derived;
      levels = λ level. within_spelled (entries_of_field level) (eq.keyed_syntax key b.made.part) (within_spelled (λ q. entered q level (expr_entries (level + 1) key) ++ expr_entries level b.made.part) (expr_opener u d)
          (within_first (entered at level (expr_entries (level + 1) key)) (low_entered at level inner (expr_entries (level + 1) key) enter (low_expr (level + 1) key low)) (b.made.levels level)));
    })
    (λ w l le agree n y d.
    let r = then_rest (known.only l (agree_less agree (omega arith)) d.part) d.rest in
    let z = then_rest (token_only (moved to (token_agrees agree (omega arith) c))) r in
    let x = then_rest (token_only (token_agrees agree (omega arith) v)) z in
    record { left = n; part = x.part; is = x.first })

-- ---- simple expressions by their first token

pub simple_function : {toks : List Tok} {at next left : ℕ} {e : ParseErr} → IsToken toks at (Word word.Function) next → StopsSimple toks left at (λ l n. p.ReadFunction l n at next) e → StopsSimple toks left at (λ l n. p.ReadSimple l n at) e
simple_function t h = stops_form h (λ w l le agree n y d. record { left = n; part = y; is = function_form (token_agrees agree (omega arith) t) y d })

pub simple_table : {toks : List Tok} {at left : ℕ} {e : ParseErr} → At toks at (Sign sign.LeftBrace) → StopsSimple toks left at (λ l n. p.ReadTableExpr l n at) e → StopsSimple toks left at (λ l n. p.ReadSimple l n at) e
simple_table {at = at} here h = stops_form h (λ w l le agree n y d. record { left = n; part = y; is = table_expr_form (agree.same at (omega arith) ∙ here) y d })

pub table_expr_stops : {toks : List Tok} {at left : ℕ} {e : ParseErr} → StopsTable toks left at e → StopsSimple toks left at (λ l n. p.ReadTableExpr l n at) e
table_expr_stops {at = at} h =
    stops_last (omega arith) h
    (λ kind w l k le b. record {
      part = expression at k (expr.Table b.made.part);
      derived = g.table_simple b.made.derived;
      levels = λ level. within_spelled (entries_of_expression level) (eq.table_syntax at k b.made.part) (b.made.levels level);
    })
    (λ w l le agree n y d. record { left = n; part = d.part; is = d.first })
