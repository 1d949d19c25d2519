-- Where an expression stops, and what completes it.
use Rattle.std.proofs.Common.{◌≡◌, ℕ, zero, suc, ◌+◌, ◌<◌, ◌≤◌, true, false, None, List, [], ◌∷◌, length, slice_get, refl, sym, ap, ◌∙◌, subst, arith}
use Rattle.std.specs.Prelude.{Contains}
use Rattle.std.proofs.lemmas.Option.{slice_get_past}
use Rattle.luf_lex.specs.declared.token.Tok.{Tok}
use Rattle.luf_lex.specs.declared.token.Tok.TheVariants.{Word, Sign}
use Rattle.luf_lex.specs.declared.token.Word.TheVariants as word
use Rattle.luf_lex.specs.declared.token.Sign.TheVariants as sign
use Rattle.luf_tree.specs.declared.tree.Expr.{Expr, out-Expr}
use Rattle.luf_tree.specs.declared.tree.ExprKind.TheVariants as expr
use Rattle.luf_tree.specs.Agree.{AgreeBefore}
use Rattle.luf_tree.specs.Operator.{is_unary}
use Rattle.luf_tree.specs.Level.{expr_levels}
use Rattle.luf_tree.specs.Entry.{Entry, entries_of_expression, entries_of_block, entries_of_function_body}
use Rattle.luf_tree.specs.Grammar as g
use Rattle.luf_tree.specs.Grammar.{expression, IsToken, IsExpr, IsOperand, IsSimple, IsFuncBody, IsBlock}
use Rattle.luf_tree.proofs.SyntaxEquations as eq
use Rattle.luf_tree.proofs.Locality.{local_simple}
use Rattle.luf_descent.specs.Follow.{NotAt}
use Rattle.luf_descent.specs.Parts as p
use Rattle.luf_descent.specs.PartEntries.{expr_entries, body_entries, block_entries}
use Rattle.luf_descent.specs.PartStops.{StopsToken, StopsOperand, StopsSimple, StopsFuncBody}
use Rattle.luf_descent.specs.Stops.{Known}
use Rattle.luf_descent.specs.declared.error.ParseErr.{ParseErr}
use Rattle.luf_descent.specs.declared.error.ParseErr.TheVariants as error
use Rattle.luf_descent.proofs.Exactness.{then_rest}
use Rattle.luf_descent.proofs.Ends.{moved}
use Rattle.luf_descent.proofs.ExprForms.{operand_inside, unary_form, power_form, simple_inside}
use Rattle.luf_descent.proofs.Completing.{agree_less, token_agrees, carried, carried_token, none_in, within_first, within_entered, within_none, within_deep, within_as, within_spelled}
use Rattle.luf_descent.proofs.Frames.{stops_behind, stops_last, stops_form, stops_wrong, stops_deep, one, Three, three}
use Rattle.luf_descent.proofs.Low.{low_expr}

-- what is wanted at a place is not there, in each list that agrees up to and with it
pub not_here : {toks l : List Tok} {t : Tok} (i : ℕ) → AgreeBefore toks l (i + 1) → NotAt toks i t → NotAt l i t
not_here i agree none there = none (sym (agree.same i (omega arith)) ∙ there)

-- the token at a place, in a list that agrees with it
pub token_here : {toks l : List Tok} {n i j : ℕ} {t : Tok} → AgreeBefore toks l n → i < n → IsToken toks i t j → IsToken l i t (i + 1)
token_here {i = i} agree low d = record { there = agree.same i low ∙ d.there; next = refl }

-- a token that is missing
pub token_missing : {toks : List Tok} {at left : ℕ} (t : Tok) → at ≤ length toks → NotAt toks at t → StopsToken toks left at t (error.Syntax at)
token_missing {toks} {at} {left} t within none =
    stops_wrong (t ∷ []) (omega arith) within (λ closed _. closed) (λ l k agree stand closes. record { part = 0; derived = one stand; levels = λ level. within_none }) (λ l agree n y d. not_here at agree none d.there)

no_more : (xs : List Tok) (k : ℕ) → slice_get xs k ≡ None → length xs ≤ k
no_more [] k none = omega arith
no_more (x ∷ xs) zero none = absurd cc
no_more (x ∷ xs) (suc k) none = let h = no_more xs k none in omega arith

-- the end is the end of each list that agrees up to and with it
pub end_here : {toks l : List Tok} (i : ℕ) → AgreeBefore toks l (i + 1) → length toks ≤ i → length l ≤ i
end_here {toks} {l} i agree end = no_more l i (agree.same i (omega arith) ∙ slice_get_past toks i end)

-- ---- parts that enter no level, by which others are completed

pub record Empty {A : Type 0} (D : A → Type 0) (E : ℕ → A → List Entry) : Type 0 where
  pub part : A
  pub derived : D part
  pub none : (level : ℕ) → E level part ≡ []

pub nil_at : {l : List Tok} {n i j : ℕ} → IsToken l i (Word word.Nil) j → Empty (λ e. IsExpr l n i j e) expr_entries
nil_at {i = i} {j = j} t = record { part = expression i j expr.Nil; derived = g.operand_expr (g.simple_operand (g.nil_simple t)); none = λ level. ap (entries_of_expression level) (eq.nil_syntax i j) }

pub nil_operand : {l : List Tok} {i j : ℕ} → IsToken l i (Word word.Nil) j → Empty (λ e. IsOperand l i j e) expr_entries
nil_operand {i = i} {j = j} t = record { part = expression i j expr.Nil; derived = g.simple_operand (g.nil_simple t); none = λ level. ap (entries_of_expression level) (eq.nil_syntax i j) }

pub empty_block : (l : List Tok) (i : ℕ) → Empty (λ b. IsBlock l i i b) block_entries
empty_block l i = record { part = _; derived = g.block g.no_stats; none = λ level. ap (entries_of_block level) (eq.block_of_syntax i i []) }

pub empty_body : {l : List Tok} {i k : ℕ} → Three l i (Sign sign.LeftParen) (Sign sign.RightParen) (Word word.End) k → Empty (λ f. IsFuncBody l i k f) body_entries
empty_body {l} {i} {k} t =
    let b = empty_block l t.rest.middle in
    record {
      part = _;
      derived = g.func_body t.first g.no_params t.rest.first b.derived t.rest.second;
      none = λ level. ap (entries_of_function_body level) (eq.body_of_syntax i k [] false b.part) ∙ b.none level;
    }

-- entries that there are none of
pub none_later : {t : ℕ} {es : List Entry} → es ≡ [] → (e : Entry) → Contains es e → t ≤ e.token
none_later is e c = absurd (none_in (subst (λ (es : List Entry). Contains es e) is c))

-- ---- operands

pub operand_end : {toks : List Tok} {at left : ℕ} → length toks ≤ at → at ≤ length toks → StopsOperand toks left at (λ l n. p.ReadOperand l n at) (error.Syntax at)
operand_end {at = at} end within =
    stops_wrong (Word word.Nil ∷ []) (omega arith) within (λ _ _. refl) (λ l k agree stand closes. let x = nil_operand (one stand) in record { part = x.part; derived = x.derived; levels = λ level. within_as (x.none level) within_none })
    (λ l agree n y d. operand_inside (end_here at agree end) y d)

pub unary_deep : {toks : List Tok} {at next left : ℕ} {tok : Tok} → IsToken toks at tok next → is_unary tok ≡ true → next ≤ length toks → left ≡ 0 → StopsOperand toks left at (λ l n. p.ReadOperand l n at) (error.TooDeep at)
unary_deep {at = at} t u within none =
    let n = t.next in
    stops_deep (Word word.Nil ∷ []) (omega arith) (omega arith) (λ _ _. refl)
    (λ l k agree stand closes. let x = nil_operand (one stand) in record {
      part = expression at k (expr.Unary x.part);
      derived = g.unary_operand (token_here agree (omega arith) t) u x.derived;
      levels = λ level. within_spelled (entries_of_expression level) (eq.unary_syntax at k x.part) (within_deep (expr_entries (level + 1) x.part) none (none_later (x.none (level + 1))));
    })

pub unary_operand : {toks : List Tok} {at next left inner : ℕ} {tok : Tok} {e : ParseErr} → IsToken toks at tok next → is_unary tok ≡ true → left ≡ inner + 1
    → StopsOperand toks inner next (λ l n. p.ReadOperand l n next) e → StopsOperand toks left at (λ l n. p.ReadOperand l n at) e
unary_operand {at = at} t u enter h =
    let n = t.next in
    stops_last (omega arith) h
    (λ kind w l k le b. record {
      part = expression at k (expr.Unary b.made.part);
      derived = g.unary_operand (carried_token b.room t (omega arith)) u b.made.derived;
      levels = λ level. within_spelled (entries_of_expression level) (eq.unary_syntax at k b.made.part) (within_entered at enter (b.made.levels (level + 1)));
    })
    (λ w l le agree n y d. let f = unary_form (token_agrees agree (omega arith) t) u y d in record { left = f.part; part = f.rest.part; is = f.rest.first })

-- an operand that does not begin with a unary operator
pub operand_power : {toks : List Tok} {at next left : ℕ} {tok : Tok} {e : ParseErr} → IsToken toks at tok next → is_unary tok ≡ false → StopsOperand toks left at (λ l n. p.ReadPower l n at) e
    → StopsOperand toks left at (λ l n. p.ReadOperand l n at) e
operand_power {at = at} t u h = stops_form h (λ w l le agree n y d. record { left = n; part = y; is = power_form (token_agrees agree (omega arith) t) u y d })

pub power_base : {toks : List Tok} {at left : ℕ} {e : ParseErr} → StopsSimple toks left at (λ l n. p.ReadSimple l n at) e → StopsOperand toks left at (λ l n. p.ReadPower l n at) e
power_base h =
    stops_last (omega arith) h (λ kind w l k le b. record { part = b.made.part; derived = g.simple_operand b.made.derived; levels = b.made.levels }) (λ w l le agree n y d. record { left = n; part = d.part; is = d.first })

pub exponent_deep : {toks : List Tok} {at j next left : ℕ} {base : Expr} → IsSimple toks at j base → at ≤ j → expr_levels base ≤ left → IsToken toks j (Sign sign.Caret) next → next ≤ length toks → left ≡ 0
    → StopsOperand toks left at (λ l n. p.ReadPower l n at) (error.TooDeep j)
exponent_deep {at = at} {j = j} {base = base} d forward low t within none =
    let n = t.next in
    stops_deep (Word word.Nil ∷ []) (omega arith) (omega arith) (λ _ _. refl)
    (λ l k agree stand closes. let x = nil_operand (one stand) in record {
      part = expression at k (expr.Power base j x.part);
      derived = g.power_operand ((local_simple d).at l (agree_less agree (omega arith)) (λ none there. none (sym (agree.same j (omega arith)) ∙ there))) (token_here agree (omega arith) t) x.derived;
      levels = λ level. within_spelled (entries_of_expression level) (eq.power_syntax at k base j x.part)
          (within_first (expr_entries level base) (low_expr level base low) (within_deep (expr_entries (level + 1) x.part) none (none_later (x.none (level + 1)))));
    })

pub exponent_stops : {toks : List Tok} {at j next left inner : ℕ} {base : Expr} {e : ParseErr} → IsSimple toks at j base → at ≤ j → (out-Expr base).to ≡ j → expr_levels base ≤ left → Known toks j (λ l n. p.ReadSimple l n at) base → IsToken toks j (Sign sign.Caret) next
    → left ≡ inner + 1 → StopsOperand toks inner next (λ l n. p.ReadOperand l n next) e → StopsOperand toks left at (λ l n. p.ReadPower l n at) e
exponent_stops {at = at} {j = j} {next = next} {base = base} d forward to low known t enter h =
    let n = t.next in
    stops_last (omega arith) h
    (λ kind w l k le b. record {
      part = expression at k (expr.Power base j b.made.part);
      derived = g.power_operand (carried b.room (local_simple d) (omega arith)) (carried_token b.room t (omega arith)) b.made.derived;
      levels = λ level. within_spelled (entries_of_expression level) (eq.power_syntax at k base j b.made.part) (within_first (expr_entries level base) (low_expr level base low) (within_entered j enter (b.made.levels (level + 1))));
    })
    (λ w l le agree n y d. let r = then_rest (known.only l (agree_less agree (omega arith)) n) d in let f = r.power next (moved to (token_agrees agree (omega arith) t)) in record { left = f.part; part = f.rest.part; is = f.rest.first })

-- ---- simple expressions

pub simple_end : {toks : List Tok} {at left : ℕ} → length toks ≤ at → at ≤ length toks → StopsSimple toks left at (λ l n. p.ReadSimple l n at) (error.Syntax at)
simple_end {at = at} end within =
    stops_wrong (Word word.Nil ∷ []) (omega arith) within (λ _ _. refl)
    (λ l k agree stand closes. record { part = expression at k expr.Nil; derived = g.nil_simple (one stand); levels = λ level. within_as (ap (entries_of_expression level) (eq.nil_syntax at k)) within_none })
    (λ l agree n y d. simple_inside (end_here at agree end) y d)

pub function_deep : {toks : List Tok} {at next left : ℕ} → IsToken toks at (Word word.Function) next → next ≤ length toks → left ≡ 0 → StopsSimple toks left at (λ l n. p.ReadFunction l n at next) (error.TooDeep at)
function_deep {at = at} t within none =
    let n = t.next in
    stops_deep (Sign sign.LeftParen ∷ Sign sign.RightParen ∷ Word word.End ∷ []) (omega arith) (omega arith) (λ _ same. absurd (omega arith))
    (λ l k agree stand closes. let x = empty_body (three stand) in record {
      part = expression at k (expr.Function x.part);
      derived = g.function_simple (token_here agree (omega arith) t) x.derived;
      levels = λ level. within_spelled (entries_of_expression level) (eq.function_syntax at k x.part) (within_deep (body_entries (level + 1) x.part) none (none_later (x.none (level + 1))));
    })

pub function_body : {toks : List Tok} {at next left inner : ℕ} {e : ParseErr} → IsToken toks at (Word word.Function) next → left ≡ inner + 1 → StopsFuncBody toks inner next e → StopsSimple toks left at (λ l n. p.ReadFunction l n at next) e
function_body {at = at} t enter h =
    let n = t.next in
    stops_behind (omega arith) h
    (λ kind w l k le agree x. record {
      part = expression at k (expr.Function x.part);
      derived = g.function_simple (token_agrees agree (omega arith) t) x.derived;
      levels = λ level. within_spelled (entries_of_expression level) (eq.function_syntax at k x.part) (within_entered at enter (x.levels (level + 1)));
    })
    (λ w l le agree n y d. record { left = d.part; part = d.rest.part; is = d.rest.first })
