-- Where functions, tables, parentheses and suffixes stop, and what completes them.
use Rattle.std.proofs.Common.{◌≡◌, ℕ, ◌+◌, ◌≤◌, ◌⊎◌, inl, inr, Bool, List, [], ◌∷◌, length, map, refl, ap, subst, arith}
use Rattle.std.specs.Prelude.{Contains}
use Rattle.luf_lex.specs.declared.token.Tok.{Tok}
use Rattle.luf_lex.specs.declared.token.Tok.TheVariants.{Name, Word, Sign}
use Rattle.luf_lex.specs.declared.token.Word.TheVariants as word
use Rattle.luf_lex.specs.declared.token.Sign.TheVariants as sign
use Rattle.luf_tree.specs.declared.tree.Block.{Block, out-Block}
use Rattle.luf_tree.specs.declared.tree.Expr.{Expr, out-Expr}
use Rattle.luf_tree.specs.declared.tree.ExprKind.TheVariants as expr
use Rattle.luf_tree.specs.declared.tree.Field.{Field}
use Rattle.luf_tree.specs.Level.{deepest, expr_levels, field_levels, block_levels}
use Rattle.luf_tree.specs.Entry.{Entry, entered, entries_of_expression, entries_of_function_body}
use Rattle.luf_tree.specs.Grammar as g
use Rattle.luf_tree.specs.Grammar.{expression, IsToken, IsExpr, IsBlock, AreFields, AreParams}
use Rattle.luf_tree.proofs.SyntaxEquations as eq
use Rattle.luf_tree.proofs.Locality.{local_params, local_expr, local_fields, local_block}
use Rattle.luf_descent.specs.Follow.{NotAt}
use Rattle.luf_descent.specs.Parts as p
use Rattle.luf_descent.specs.PartEntries.{expr_entries, fields_entries, block_entries}
use Rattle.luf_descent.specs.PartStops.{StopsToken, StopsExpr, StopsFuncBody, StopsTable, StopsFields, StopsHead, StopsParen, StopsBlock, StopsParams}
use Rattle.luf_descent.specs.Stops.{Known}
use Rattle.luf_descent.specs.declared.error.ParseErr.{ParseErr}
use Rattle.luf_descent.specs.declared.error.ParseErr.TheVariants as error
use Rattle.luf_descent.proofs.Exactness.{then_rest, token_only}
use Rattle.luf_descent.proofs.ExprForms.{table_form, paren_form, head_form}
use Rattle.luf_descent.proofs.StatForms.{func_body_form}
use Rattle.luf_descent.proofs.Completing.{agree_less, token_agrees, carried, carried_token, none_in, cons_in, within_entered, within_none, within_later, within_deep, within_as, within_spelled, within_any, within_low}
use Rattle.luf_descent.proofs.Frames.{stops_after, stops_last, stops_wrong, stops_deep, stops_open, one, two, three}
use Rattle.luf_descent.proofs.Low.{low_expr, low_fields, low_block}
use Rattle.luf_descent.proofs.ExprStops.{not_here, token_here, nil_at, empty_block, empty_body, none_later}

-- ---- bodies of functions

pub body_open : {toks : List Tok} {at left : ℕ} → at ≤ length toks → NotAt toks at (Sign sign.LeftParen) → StopsFuncBody toks left at (error.Syntax at)
body_open {at = at} within none =
    stops_wrong (Sign sign.LeftParen ∷ Sign sign.RightParen ∷ Word word.End ∷ []) (omega arith) within (λ closed _. absurd cc)
    (λ l k agree stand closes. let x = empty_body (three stand) in record { part = x.part; derived = x.derived; levels = λ level. within_as (x.none level) within_none })
    (λ l agree n y d. let f = func_body_form y d in not_here at agree none f.first.there)

pub body_params : {toks : List Tok} {at inside left : ℕ} {e : ParseErr} → IsToken toks at (Sign sign.LeftParen) inside → StopsParams toks 0 inside e → StopsFuncBody toks left at e
body_params {at = at} t h =
    let n = t.next in
    stops_after (Sign sign.RightParen ∷ Word word.End ∷ []) refl (omega arith) h
    (λ kind w l m k le b. let s = two b.stand in let body = empty_block l s.middle in record {
      part = _;
      derived = g.func_body (carried_token b.room t (omega arith)) b.made.derived s.first body.derived s.second;
      levels = λ level. within_spelled (entries_of_function_body level) (eq.body_of_syntax at k b.made.part.0 b.made.part.1 body.part) (within_as (body.none level) (within_any (b.made.levels level)));
    })
    (λ w l le agree n y d. let f = then_rest (token_only (token_agrees agree (omega arith) t)) (func_body_form y d) in record { left = n; part = f.part; is = f.first })

pub body_close : {toks : List Tok} {at inside close left : ℕ} {ps : List ℕ} {vararg : Bool} {e : ParseErr} → IsToken toks at (Sign sign.LeftParen) inside → AreParams toks inside close ps vararg → inside ≤ close
    → Known toks close (λ l n. p.ReadParams l inside) (ps, vararg, close) → StopsToken toks left close (Sign sign.RightParen) e → StopsFuncBody toks left at e
body_close {at = at} {close = close} {ps = ps} {vararg = vararg} t d forward known h =
    let n = t.next in
    stops_after (Word word.End ∷ []) refl (omega arith) h
    (λ kind w l m k le b. let body = empty_block l m in record {
      part = _;
      derived = g.func_body (carried_token b.room t (omega arith)) (carried b.room (local_params d) (omega arith)) b.made.derived body.derived (one b.stand);
      levels = λ level. within_spelled (entries_of_function_body level) (eq.body_of_syntax at k ps vararg body.part) (within_as (body.none level) (b.made.levels level));
    })
    (λ w l le agree n y d. let f = then_rest (token_only (token_agrees agree (omega arith) t)) (func_body_form y d) in let r = then_rest (known.only l (agree_less agree (omega arith)) n) f in record { left = n; part = r.part; is = r.first })

pub body_block : {toks : List Tok} {at inside close from left : ℕ} {ps : List ℕ} {vararg : Bool} {e : ParseErr} → IsToken toks at (Sign sign.LeftParen) inside → AreParams toks inside close ps vararg → inside ≤ close
    → Known toks close (λ l n. p.ReadParams l inside) (ps, vararg, close) → IsToken toks close (Sign sign.RightParen) from → StopsBlock toks left from e → StopsFuncBody toks left at e
body_block {at = at} {close = close} {ps = ps} {vararg = vararg} t d forward known u h =
    let n = t.next in
    let o = u.next in
    stops_after (Word word.End ∷ []) refl (omega arith) h
    (λ kind w l m k le b. record {
      part = _;
      derived = g.func_body (carried_token b.room t (omega arith)) ((local_params d).at l (agree_less b.room.agree (omega arith)) (b.room.fits close (omega arith))) (carried_token b.room u (omega arith)) b.made.derived (one b.stand);
      levels = λ level. within_spelled (entries_of_function_body level) (eq.body_of_syntax at k ps vararg b.made.part) (b.made.levels level);
    })
    (λ w l le agree n y d. let f = then_rest (token_only (token_agrees agree (omega arith) t)) (func_body_form y d) in let r = then_rest (known.only l (agree_less agree (omega arith)) n) f in
    let z = then_rest (token_only (token_agrees agree (omega arith) u)) r in record { left = n; part = z.part; is = z.first })

pub body_end : {toks : List Tok} {at inside close from place left : ℕ} {ps : List ℕ} {vararg : Bool} {body : Block} {e : ParseErr} → IsToken toks at (Sign sign.LeftParen) inside → AreParams toks inside close ps vararg → inside ≤ close
    → Known toks close (λ l n. p.ReadParams l inside) (ps, vararg, close) → IsToken toks close (Sign sign.RightParen) from → IsBlock toks from place body → from ≤ place → (out-Block body).to ≡ place → block_levels body ≤ left
    → Known toks place (λ l n. p.ReadBlock l n from) body → StopsToken toks left place (Word word.End) e → StopsFuncBody toks left at e
body_end {at = at} {close = close} {ps = ps} {vararg = vararg} {body = body} t d forward known u block further to low known2 h =
    let n = t.next in
    let o = u.next in
    stops_open (stops_last (omega arith) h
    (λ kind w l k le b. record {
      part = _;
      derived = g.func_body (carried_token b.room t (omega arith)) (carried b.room (local_params d) (omega arith)) (carried_token b.room u (omega arith)) (carried b.room (local_block block) (omega arith)) b.made.derived;
      levels = λ level. within_spelled (entries_of_function_body level) (eq.body_of_syntax at k ps vararg body) (within_low (block_entries level body) (low_block level body low) (b.made.levels level));
    })
    (λ w l le agree n y d. let f = then_rest (token_only (token_agrees agree (omega arith) t)) (func_body_form y d) in let r = then_rest (known.only l (agree_less agree (omega arith)) n) f in
    let z = then_rest (token_only (token_agrees agree (omega arith) u)) r in
    let q = then_rest (known2.only l (agree_less agree (omega arith)) n) z in record { left = n; part = q.part; is = subst (λ (m : ℕ). IsToken l m (Word word.End) q.part) to q.first }))

-- ---- tables

-- an entry of the token itself
pub one_later : (level at : ℕ) (e : Entry) → Contains (entered at level []) e → at ≤ e.token
one_later level at e c = either (cons_in _ [] c) refl
  where
    either : {x : Entry} → (x ≡ e) ⊎ Contains [] e → x.token ≡ at → at ≤ e.token
    either (inl a) is = let b = ap (λ (e : Entry). e.token) a in omega arith
    either (inr a) is = absurd (none_in a)

pub table_open : {toks : List Tok} {at left : ℕ} → at ≤ length toks → NotAt toks at (Sign sign.LeftBrace) → StopsTable toks left at (error.Syntax at)
table_open {at = at} within none =
    stops_wrong (Sign sign.LeftBrace ∷ Sign sign.RightBrace ∷ []) (omega arith) within (λ _ _. refl)
    (λ l k agree stand closes. let s = two stand in record { part = []; derived = g.table s.first g.no_fields s.second; levels = λ level. within_later (entered at level []) (one_later level at) })
    (λ l agree n y d. let f = table_form y d in not_here at agree none f.first.there)

pub table_deep : {toks : List Tok} {at next left : ℕ} → IsToken toks at (Sign sign.LeftBrace) next → next ≤ length toks → left ≡ 0 → StopsTable toks left at (error.TooDeep at)
table_deep {at = at} t within none =
    let n = t.next in
    stops_deep (Sign sign.RightBrace ∷ []) (omega arith) (omega arith) (λ _ _. refl)
    (λ l k agree stand closes. record { part = []; derived = g.table (token_here agree (omega arith) t) g.no_fields (one stand); levels = λ level. within_deep [] none (none_later refl) })

pub table_fields : {toks : List Tok} {at next left inner : ℕ} {e : ParseErr} → IsToken toks at (Sign sign.LeftBrace) next → left ≡ inner + 1 → StopsFields toks inner next e → StopsTable toks left at e
table_fields {at = at} t enter h =
    let n = t.next in
    stops_after (Sign sign.RightBrace ∷ []) refl (omega arith) h
    (λ kind w l m k le b. record { part = b.made.part; derived = g.table (carried_token b.room t (omega arith)) b.made.derived (one b.stand); levels = λ level. within_entered at enter (b.made.levels (level + 1)) })
    (λ w l le agree n y d. let f = then_rest (token_only (token_agrees agree (omega arith) t)) (table_form y d) in record { left = f.part; part = f.rest.part; is = f.rest.first })

pub table_close : {toks : List Tok} {at next close left inner : ℕ} {fields : List Field} {e : ParseErr} → IsToken toks at (Sign sign.LeftBrace) next → left ≡ inner + 1 → AreFields toks next close fields → next ≤ close
    → deepest (map field_levels fields) ≤ inner → Known toks close (λ l n. p.ReadFields l n next) (fields, close) → StopsToken toks inner close (Sign sign.RightBrace) e → StopsTable toks left at e
table_close {at = at} {fields = fields} t enter d forward low known h =
    let n = t.next in
    stops_last (omega arith) h
    (λ kind w l k le b. record {
      part = fields;
      derived = g.table (carried_token b.room t (omega arith)) (carried b.room (local_fields d) (omega arith)) b.made.derived;
      levels = λ level. within_entered at enter (within_low (fields_entries (level + 1) fields) (low_fields (level + 1) fields low) (b.made.levels (level + 1)));
    })
    (λ w l le agree n y d. let f = then_rest (token_only (token_agrees agree (omega arith) t)) (table_form y d) in let r = then_rest (known.only l (agree_less agree (omega arith)) f.part) f.rest in record { left = f.part; part = r.part; is = r.first })

-- ---- parentheses

pub paren_deep : {toks : List Tok} {at next left : ℕ} → IsToken toks at (Sign sign.LeftParen) next → next ≤ length toks → left ≡ 0 → StopsParen toks left at (error.TooDeep at)
paren_deep {at = at} t within none =
    let n = t.next in
    stops_deep (Word word.Nil ∷ Sign sign.RightParen ∷ []) (omega arith) (omega arith) (λ _ _. refl)
    (λ l k agree stand closes. let s = two stand in let x = nil_at s.first in record {
      part = expression at k (expr.Paren x.part);
      derived = g.paren (token_here agree (omega arith) t) x.derived s.second;
      levels = λ level. within_spelled (entries_of_expression level) (eq.paren_syntax at k x.part) (within_deep (expr_entries (level + 1) x.part) none (none_later (x.none (level + 1))));
    })

pub paren_inside : {toks : List Tok} {at next left inner : ℕ} {e : ParseErr} → IsToken toks at (Sign sign.LeftParen) next → left ≡ inner + 1 → StopsExpr toks 1 inner next e → StopsParen toks left at e
paren_inside {at = at} t enter h =
    let n = t.next in
    stops_after (Sign sign.RightParen ∷ []) refl (omega arith) h
    (λ kind w l m k le b. record {
      part = expression at k (expr.Paren b.made.part);
      derived = g.paren (carried_token b.room t (omega arith)) b.made.derived (one b.stand);
      levels = λ level. within_spelled (entries_of_expression level) (eq.paren_syntax at k b.made.part) (within_entered at enter (b.made.levels (level + 1)));
    })
    (λ w l le agree n y d. let f = then_rest (token_only (token_agrees agree (omega arith) t)) (paren_form y d) in record { left = f.part; part = f.rest.part; is = f.rest.first })

pub paren_close : {toks : List Tok} {at next close left inner : ℕ} {x : Expr} {e : ParseErr} → IsToken toks at (Sign sign.LeftParen) next → left ≡ inner + 1 → IsExpr toks 1 next close x → next ≤ close → (out-Expr x).to ≡ close
    → expr_levels x ≤ inner → Known toks close (λ l n. p.ReadExpr l 1 n next) x → StopsToken toks inner close (Sign sign.RightParen) e → StopsParen toks left at e
paren_close {at = at} {close = close} {x = x} t enter d forward to low known h =
    let n = t.next in
    stops_last (omega arith) h
    (λ kind w l k le b. record {
      part = expression at k (expr.Paren x);
      derived = g.paren (carried_token b.room t (omega arith)) (carried b.room (local_expr d) (omega arith)) b.made.derived;
      levels = λ level. within_spelled (entries_of_expression level) (eq.paren_syntax at k x) (within_entered at enter (within_low (expr_entries (level + 1) x) (low_expr (level + 1) x low) (b.made.levels (level + 1))));
    })
    (λ w l le agree n y d. let f = then_rest (token_only (token_agrees agree (omega arith) t)) (paren_form y d) in let r = then_rest (known.only l (agree_less agree (omega arith)) f.part) f.rest in
    record { left = f.part; part = r.part; is = subst (λ (q : ℕ). IsToken l q (Sign sign.RightParen) r.part) to r.first })

-- a name, or an expression in parentheses
pub head_missing : {toks : List Tok} {at left : ℕ} → at ≤ length toks → NotAt toks at Name → NotAt toks at (Sign sign.LeftParen) → StopsHead toks left at (error.Syntax at)
head_missing {at = at} within name paren =
    stops_wrong (Name ∷ []) (omega arith) within (λ _ _. refl)
    (λ l k agree stand closes. record { part = expression at k expr.Name; derived = g.name_head (one stand); levels = λ level. within_as (ap (entries_of_expression level) (eq.name_syntax at k)) within_none })
    (λ l agree n y d. let f = head_form (not_here at agree name) y d in let r = paren_form f.part f.first in not_here at agree paren r.first.there)
