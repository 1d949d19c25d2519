-- Where a lone argument stops, and what completes it; suffixes in lists that agree.
use Rattle.std.proofs.Common.{◌≡◌, ℕ, ◌+◌, ◌<◌, ◌≤◌, inl, inr, Bool, false, List, [], ◌∷◌, length, refl, sym, ap, ◌∙◌, subst, arith, append-nil}
use Rattle.luf_lex.specs.declared.token.Tok.{Tok}
use Rattle.luf_lex.specs.declared.token.Tok.TheVariants.{Short, Sign}
use Rattle.luf_lex.specs.declared.token.Sign.TheVariants as sign
use Rattle.luf_tree.specs.declared.tree.Expr.{Expr}
use Rattle.luf_tree.specs.declared.tree.ExprKind.TheVariants as expr
use Rattle.luf_tree.specs.declared.tree.Field.{Field}
use Rattle.luf_tree.specs.declared.tree.Suffix.{Suffix}
use Rattle.luf_tree.specs.declared.tree.Args.{Args, roll-Args}
use Rattle.luf_tree.specs.Agree.{AgreeBefore}
use Rattle.luf_tree.specs.Entry.{entered, entries_of_expression, entries_of_arguments}
use Rattle.luf_tree.specs.Grammar as g
use Rattle.luf_tree.specs.Grammar.{At, expression, IsToken, IsString, IsSuffix, IsArgs, IsTable}
use Rattle.luf_tree.proofs.SyntaxEquations as eq
use Rattle.luf_tree.proofs.Locality.{local_expr, local_exprs, local_fields, local_args}
use Rattle.luf_descent.specs.Follow.{NotAt, NotString}
use Rattle.luf_descent.specs.Parts as p
use Rattle.luf_descent.specs.PartEntries.{expr_entries, args_entries}
use Rattle.luf_descent.specs.PartStops.{StopsTable, StopsArgs, table_entries}
use Rattle.luf_descent.specs.declared.error.ParseErr.{ParseErr}
use Rattle.luf_descent.specs.declared.error.ParseErr.TheVariants as error
use Rattle.luf_descent.proofs.ExprForms.{lone_table}
use Rattle.luf_descent.proofs.Completing.{agree_less, token_agrees, within_entered, within_later, within_deep, within_as}
use Rattle.luf_descent.proofs.Frames.{stops_beside, stops_wrong, stops_deep, no_stand, one}
use Rattle.luf_descent.proofs.ExprStops.{not_here, token_here, none_later}
use Rattle.luf_descent.proofs.BracketStops.{one_later}
use Rattle.luf_descent.proofs.StatStops.{entered_later}

-- a string in a list that agrees
pub string_agrees : {toks l : List Tok} {n i j : ℕ} → AgreeBefore toks l n → i < n → IsString toks i j → IsString l i j
string_agrees agree low (inl t) = inl (token_agrees agree low t)
string_agrees agree low (inr t) = inr (token_agrees agree low t)

string_next : {toks : List Tok} {i j : ℕ} → IsString toks i j → j ≡ i + 1
string_next (inl t) = t.next
string_next (inr t) = t.next

pub no_string : {toks l : List Tok} {n : ℕ} (i : ℕ) → AgreeBefore toks l n → i < n → NotString toks i → NotString l i
no_string {toks} {l} {n} i agree low none to s = none to (string_agrees (back agree) low s)
  where
    back : AgreeBefore toks l n → AgreeBefore l toks n
    back a = record { same = λ k less. sym (a.same k less) }

-- the entries of a lone argument
lone_entries : (level i k : ℕ) (x : Expr) → args_entries level (roll-Args (record { from = i; to = k; parens = false; items = x ∷ [] })) ≡ entered i level (expr_entries (level + 1) x)
lone_entries level i k x = ap (entries_of_arguments level) (eq.args_of_syntax i k false (x ∷ [])) ∙ ap (λ es. entered i level es) (append-nil (expr_entries (level + 1) x))

string_entries : (level i k : ℕ) → expr_entries level (expression i k expr.Str) ≡ []
string_entries level i k = ap (entries_of_expression level) (eq.string_syntax i k)

table_is : (level i k : ℕ) (fields : List Field) → expr_entries level (expression i k (expr.Table fields)) ≡ table_entries i level fields
table_is level i k fields = ap (entries_of_expression level) (eq.table_syntax i k fields)

-- a string where no level is left
pub lone_string_deep : {toks : List Tok} {at to left : ℕ} → IsString toks at to → to ≤ length toks → left ≡ 0 → StopsArgs toks left at (λ l n. p.ReadLoneArg l n at) (error.TooDeep at)
lone_string_deep {at = at} {to = to} t within none =
    let n = string_next t in
    stops_deep [] (omega arith) (omega arith) (λ _ _. refl)
    (λ l k agree stand closes.
    let same = no_stand stand in
    let e : to ≡ k = omega arith in
    record {
      part = _;
      derived = g.string_args (subst (λ (q : ℕ). IsString l at q) e (string_agrees agree (omega arith) t));
      levels = λ level. within_as (lone_entries level at k (expression at k expr.Str)) (within_deep (expr_entries (level + 1) (expression at k expr.Str)) none (none_later (string_entries (level + 1) at k)));
    })

-- neither a string nor a table
pub lone_missing : {toks : List Tok} {at left : ℕ} → at ≤ length toks → NotString toks at → NotAt toks at (Sign sign.LeftBrace) → StopsArgs toks left at (λ l n. p.ReadLoneArg l n at) (error.Syntax at)
lone_missing {at = at} within string brace =
    stops_wrong (Short ∷ []) (omega arith) within (λ _ _. refl)
    (λ l k agree stand closes. record {
      part = _;
      derived = g.string_args (inl (one stand));
      levels = λ level. within_as (lone_entries level at k (expression at k expr.Str)) (within_later (entered at level (expr_entries (level + 1) (expression at k expr.Str))) (entered_later level (string_entries (level + 1) at k) (omega arith)));
    })
    (λ l agree n y d. let f = lone_table (no_string at agree (omega arith) string) y d in not_here at agree brace f.first.there)

-- a table where no level is left
pub lone_table_deep : {toks : List Tok} {at next left : ℕ} → IsToken toks at (Sign sign.LeftBrace) next → next ≤ length toks → left ≡ 0 → StopsArgs toks left at (λ l n. p.ReadLoneArg l n at) (error.TooDeep at)
lone_table_deep {at = at} t within none =
    let n = t.next in
    stops_deep (Sign sign.RightBrace ∷ []) (omega arith) (omega arith) (λ _ _. refl)
    (λ l k agree stand closes. record {
      part = _;
      derived = g.table_args (g.table (token_here agree (omega arith) t) g.no_fields (one stand));
      levels = λ level. within_as (lone_entries level at k (expression at k (expr.Table [])) ∙ ap (λ es. entered at level es) (table_is (level + 1) at k [])) (within_deep (table_entries at (level + 1) []) none (one_later (level + 1) at));
    })

pub lone_fields : {toks : List Tok} {at left inner : ℕ} {e : ParseErr} → NotString toks at → left ≡ inner + 1 → StopsTable toks inner at e → StopsArgs toks left at (λ l n. p.ReadLoneArg l n at) e
lone_fields {at = at} string enter h =
    stops_beside (omega arith) h
    (λ kind w l k le agree x. record {
      part = _;
      derived = g.table_args x.derived;
      levels = λ level. within_as (lone_entries level at k (expression at k (expr.Table x.part)) ∙ ap (λ es. entered at level es) (table_is (level + 1) at k x.part)) (within_entered at enter (x.levels (level + 1)));
    })
    (λ w l le agree n y d. let f = lone_table (no_string at agree (omega arith) string) y d in record { left = f.rest.part; part = f.rest.rest.part; is = f.rest.rest.first })

-- ---- a suffix ends with a token of its own, so that it stands in each list that agrees

closes_bracket : {l : List Tok} {i j : ℕ} → IsToken l i (Sign sign.RightBracket) j → At l i (Sign sign.LeftParen) → ⊥
closes_bracket t there = let a = t.there in absurd cc

closes_paren : {l : List Tok} {i j : ℕ} → IsToken l i (Sign sign.RightParen) j → At l i (Sign sign.LeftParen) → ⊥
closes_paren t there = let a = t.there in absurd cc

closes_brace : {l : List Tok} {i j : ℕ} → IsToken l i (Sign sign.RightBrace) j → At l i (Sign sign.LeftParen) → ⊥
closes_brace t there = let a = t.there in absurd cc

table_agrees : {toks l : List Tok} {i j : ℕ} {fields : List Field} → IsTable toks i j fields → AgreeBefore toks l j → IsTable l i j fields
table_agrees (g.table t d c) agree =
    let part = local_fields d in
    let a = t.next in
    let b = c.next in
    let f = part.forward in
    let close = token_agrees agree (omega arith) c in
    g.table (token_agrees agree (omega arith) t) (part.at _ (agree_less agree (omega arith)) (λ _. closes_brace close)) close

args_agrees : {toks l : List Tok} {i j : ℕ} {args : Args} → IsArgs toks i j args → AgreeBefore toks l j → IsArgs l i j args
args_agrees (g.no_args t c) agree = let a = t.next in let b = c.next in g.no_args (token_agrees agree (omega arith) t) (token_agrees agree (omega arith) c)
args_agrees (g.list_args t d c) agree =
    let part = local_exprs d in
    let a = t.next in
    let b = c.next in
    let f = part.forward in
    let close = token_agrees agree (omega arith) c in
    g.list_args (token_agrees agree (omega arith) t) (part.at _ (agree_less agree (omega arith)) (λ _. closes_paren close)) close
args_agrees (g.string_args d) agree = let a = string_next d in g.string_args (string_agrees agree (omega arith) d)
args_agrees (g.table_args d) agree = g.table_args (table_agrees d agree)

args_further : {toks : List Tok} {i j : ℕ} {args : Args} → IsArgs toks i j args → i ≤ j
args_further d = (local_args d).forward

pub suffix_agrees : {toks l : List Tok} {calls : Bool} {i j : ℕ} {s : Suffix} → IsSuffix toks calls i j s → AgreeBefore toks l j → IsSuffix l calls i j s
suffix_agrees (g.dot_suffix t n) agree = let a = t.next in let b = n.next in g.dot_suffix (token_agrees agree (omega arith) t) (token_agrees agree (omega arith) n)
suffix_agrees (g.index_suffix t d c) agree =
    let part = local_expr d in
    let a = t.next in
    let b = c.next in
    let f = part.forward in
    let close = token_agrees agree (omega arith) c in
    g.index_suffix (token_agrees agree (omega arith) t) (part.at _ (agree_less agree (omega arith)) (λ _. closes_bracket close)) close
suffix_agrees (g.call_suffix d) agree = g.call_suffix (args_agrees d agree)
suffix_agrees (g.method_suffix t n d) agree =
    let a = t.next in
    let b = n.next in
    let f = args_further d in
    g.method_suffix (token_agrees agree (omega arith) t) (token_agrees agree (omega arith) n) (args_agrees d agree)
