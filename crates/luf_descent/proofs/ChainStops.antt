-- Where operators and their operands stop, and what completes them.
use Rattle.std.proofs.Common.{◌≡◌, ℕ, ◌+◌, ◌<◌, ◌≤◌, List, [], ◌∷◌, ◌++◌, map, refl, sym, ap, ◌∙◌, arith, append-nil, append_assoc, length}
use Rattle.std.proofs.lemmas.Option.{slice_get_past}
use Rattle.luf_lex.specs.declared.token.Tok.{Tok}
use Rattle.luf_tree.specs.declared.tree.Expr.{Expr, out-Expr}
use Rattle.luf_tree.specs.declared.tree.ExprKind.TheVariants as expr
use Rattle.luf_tree.specs.declared.tree.Step.{Step, roll-Step}
use Rattle.luf_tree.specs.Agree.{AgreeBefore}
use Rattle.luf_tree.specs.SyntaxOf.{syntax_of_step}
use Rattle.luf_tree.specs.Level.{deepest, expr_levels, step_levels}
use Rattle.luf_tree.specs.Entry.{Entry, entries_of_expression, entries_of_operation}
use Rattle.luf_tree.specs.Grammar as g
use Rattle.luf_tree.specs.Grammar.{expression, IsToken, IsExpr, AreSteps}
use Rattle.luf_tree.proofs.SyntaxEquations as eq
use Rattle.luf_tree.proofs.Locality.{local_expr}
use Rattle.luf_descent.specs.Follow.{precedence_of, precedence_at}
use Rattle.luf_descent.specs.Parts as p
use Rattle.luf_descent.specs.Reads.{Found}
use Rattle.luf_descent.specs.PartEntries.{expr_entries, steps_entries}
use Rattle.luf_descent.specs.PartStops.{StopsExpr, StopsOperand, StopsChain}
use Rattle.luf_descent.specs.Stops.{Known}
use Rattle.luf_descent.specs.declared.error.ParseErr.{ParseErr}
use Rattle.luf_descent.proofs.Exactness.{then_rest, Ahead}
use Rattle.luf_descent.proofs.Joining.{Joins}
use Rattle.luf_descent.proofs.ExprForms.{Grown, grown_form, grown_end, operand_form, steps_form}
use Rattle.luf_descent.proofs.ExprParts.{weaken, operator_at}
use Rattle.luf_descent.proofs.Completing.{agree_less, token_agrees, carried, carried_token, Room, within_first, within_as, within_spelled}
use Rattle.luf_descent.proofs.Frames.{stops_last}
use Rattle.luf_descent.proofs.Knowing.{room_less}
use Rattle.luf_descent.proofs.Low.{low_expr, low_steps}

steps_joined : (level : ℕ) (found : List Step) (s : Step) → steps_entries level (found ++ s ∷ []) ≡ steps_entries level found ++ steps_entries level (s ∷ [])
steps_joined level [] s = refl
steps_joined level (x ∷ found) s = join (steps_joined level found s)
  where
    first : List Entry
    first = entries_of_operation level (syntax_of_step x)

    join : steps_entries level (found ++ s ∷ []) ≡ steps_entries level found ++ steps_entries level (s ∷ []) → first ++ steps_entries level (found ++ s ∷ []) ≡ (first ++ steps_entries level found) ++ steps_entries level (s ∷ [])
    join e = ap (λ es. first ++ es) e ∙ sym (append_assoc first (steps_entries level found) (steps_entries level (s ∷ [])))

one_step_entries : (level sign : ℕ) (right : Expr) → steps_entries level (roll-Step (record { sign = sign; right = right }) ∷ []) ≡ expr_entries level right
one_step_entries level sign right = ap (λ o. entries_of_operation level o ++ []) (eq.step_of_syntax sign right) ∙ append-nil (expr_entries level right)

-- the operand with which an expression begins
pub expr_operand : {toks : List Tok} {least at left : ℕ} {e : ParseErr} → StopsOperand toks left at (λ l n. p.ReadOperand l n at) e → StopsExpr toks least left at e
expr_operand h =
    stops_last (omega arith) h (λ kind w l k le b. record { part = b.made.part; derived = g.operand_expr b.made.derived; levels = b.made.levels })
    (λ w l le agree n y d. let f = operand_form y d in record { left = n; part = f.part; is = f.first })

-- the right operand of a chain
pub chain_item : {toks : List Tok} {at sign next left precedence : ℕ} {tok : Tok} {first : Expr} {e : ParseErr} (found : List Step) → 0 < precedence
    → Found toks (at + 1) (out-Expr first).to left (expr_levels first) (IsExpr toks (precedence + 1) at (out-Expr first).to first)
    → (out-Expr first).to ≤ sign → ((l : List Tok) → Room toks l sign → Joins (AreSteps l precedence) (out-Expr first).to sign found) → deepest (map step_levels found) ≤ left
    → ((l : List Tok) → AgreeBefore toks l (sign + 1) → (n : ℕ) → Ahead (p.ReadSteps l precedence n (out-Expr first).to) found (p.ReadSteps l precedence n sign))
    → IsToken toks sign tok next → precedence_at toks sign ≡ precedence → StopsExpr toks (precedence + 1) left next e → StopsChain toks precedence left at first e
chain_item {at = at} {sign = sign} {precedence = precedence} {first = first} found positive ok forward joins low ahead t is h =
    let n = t.next in
    stops_last (omega arith) h
    (λ kind w l k le b. let step = roll-Step (record { sign = sign; right = b.made.part }) in record {
      part = expression at k (expr.Chain first (found ++ step ∷ []));
      derived = g.chain_expr positive (omega arith) (carried b.room (local_expr ok.is) (omega arith)) (joins l (room_less b.room (omega arith)) k (step ∷ []) (g.one_step (carried_token b.room t (omega arith)) (operator_at precedence t is) b.made.derived));
      levels = λ level. within_spelled (entries_of_expression level) (eq.chain_syntax at k first (found ++ step ∷ []))
          (within_first (expr_entries level first) (low_expr level first ok.level)
          (within_as (steps_joined level found step) (within_first (steps_entries level found) (low_steps level found low) (within_as (one_step_entries level sign b.made.part) (b.made.levels level)))));
    })
    (λ w l le agree n y d.
    let a = ahead l (agree_less agree (omega arith)) n d.part d.first in
    let f = steps_form positive (token_agrees agree (omega arith) t) a.0 a.1 in
    record { left = n; part = f.part; is = f.first })

-- the precedence of an operator at a place, in a list that agrees
pub precedence_agrees : {toks l : List Tok} {m : ℕ} (i : ℕ) → AgreeBefore toks l (i + 1) → precedence_at toks i ≡ m → precedence_at l i ≡ m
precedence_agrees i agree is = ap precedence_of (agree.same i (omega arith)) ∙ is

-- a chain that an expression goes on with
pub expr_chain : {toks : List Tok} {least at left precedence : ℕ} {whole : Expr} {e : ParseErr}
    → ((l : List Tok) → AgreeBefore toks l ((out-Expr whole).to + 1) → (n : ℕ) (y : Expr) → p.ReadExpr l least n at y → Grown l n at whole least y)
    → at ≤ (out-Expr whole).to → precedence_at toks (out-Expr whole).to ≡ precedence → least ≤ precedence → StopsChain toks precedence left at whole e → StopsExpr toks least left at e
expr_chain {toks} {least} {at} {left} {precedence} {whole} grown forward is low h =
    stops_last forward h
    (λ kind w l k le b. record { part = b.made.part; derived = weaken least low b.made.derived; levels = b.made.levels })
    (λ w l le agree n y d.
    let f = grown_form (precedence_agrees (out-Expr whole).to (agree_less agree (omega arith)) is) low y (grown l (agree_less agree (omega arith)) n y d) in
    record { left = n; part = f.part; is = f.first })

-- an operator stands where a precedence is
pub no_precedence : (toks : List Tok) (i : ℕ) {m : ℕ} → length toks ≤ i → 0 < m → precedence_at toks i ≡ m → ⊥
no_precedence toks i end positive is = let a = ap precedence_of (slice_get_past toks i end) in omega arith

-- ---- what is known

pub expr_grown : {toks : List Tok} {least at : ℕ} {whole : Expr} → Known toks (out-Expr whole).to (λ l n. p.ReadOperand l n at) whole
    → (l : List Tok) → AgreeBefore toks l ((out-Expr whole).to + 1) → (n : ℕ) (y : Expr) → p.ReadExpr l least n at y → Grown l n at whole least y
expr_grown known l agree n y d = then_rest (known.only l agree n) (operand_form y d)

pub expr_grows : {toks : List Tok} {least at precedence : ℕ} {whole longer : Expr}
    → ((l : List Tok) → AgreeBefore toks l ((out-Expr whole).to + 1) → (n : ℕ) (y : Expr) → p.ReadExpr l least n at y → Grown l n at whole least y)
    → precedence_at toks (out-Expr whole).to ≡ precedence → least ≤ precedence → (out-Expr whole).to ≤ (out-Expr longer).to → Known toks (out-Expr longer).to (λ l n. p.ReadChain l precedence n at whole) longer
    → (l : List Tok) → AgreeBefore toks l ((out-Expr longer).to + 1) → (n : ℕ) (y : Expr) → p.ReadExpr l least n at y → Grown l n at longer least y
expr_grows {whole = whole} grown is low forward known l agree n y d =
    then_rest (known.only l agree n) (grown_form (precedence_agrees (out-Expr whole).to (agree_less agree (omega arith)) is) low y (grown l (agree_less agree (omega arith)) n y d))

pub expr_known : {toks : List Tok} {least at : ℕ} {whole : Expr}
    → ((l : List Tok) → AgreeBefore toks l ((out-Expr whole).to + 1) → (n : ℕ) (y : Expr) → p.ReadExpr l least n at y → Grown l n at whole least y)
    → precedence_at toks (out-Expr whole).to < least → Known toks (out-Expr whole).to (λ l n. p.ReadExpr l least n at) whole
expr_known {toks} {least} {at} {whole} grown low = record {
  only = λ l agree n y d. let same = precedence_agrees (out-Expr whole).to agree refl in grown_end (omega arith) y (grown l agree n y d);
}
