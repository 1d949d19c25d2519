-- Where prefix expressions and assignments stop, and what completes them.
use Rattle.std.proofs.Common.{◌≡◌, ℕ, ◌<◌, ◌≤◌, Bool, true, false, None, List, [], ◌∷◌, ◌++◌, length, map, refl, sym, ap, ◌∙◌, subst, arith, append-nil, append_assoc}
use Rattle.luf_lex.specs.declared.token.Tok.{Tok}
use Rattle.luf_lex.specs.declared.token.Tok.TheVariants.{Name, Word, Sign}
use Rattle.luf_lex.specs.declared.token.Word.TheVariants as word
use Rattle.luf_lex.specs.declared.token.Sign.TheVariants as sign
use Rattle.luf_tree.specs.declared.tree.StatKind.TheVariants as stat
use Rattle.luf_tree.specs.declared.tree.Expr.{Expr, out-Expr}
use Rattle.luf_tree.specs.declared.tree.ExprKind.TheVariants as expr
use Rattle.luf_tree.specs.declared.tree.Suffix.{Suffix}
use Rattle.luf_tree.specs.declared.tree.Suffix.TheVariants as suffix
use Rattle.luf_tree.specs.Agree.{AgreeBefore}
use Rattle.luf_tree.specs.Level.{deepest, expr_levels}
use Rattle.luf_tree.specs.Entry.{entries_of_suffix, entries_of_expression, entries_of_statement}
use Rattle.luf_tree.specs.Grammar as g
use Rattle.luf_tree.specs.Grammar.{expression, AreTargets, statement, IsVariable, IsPrefix, IsHead, AreSuffixes, IsSuffix, IsToken, NoParenFollows, suffixed}
use Rattle.luf_tree.proofs.SyntaxEquations as eq
use Rattle.luf_tree.proofs.Locality.{local_prefix, local_targets, local_expr}
use Rattle.luf_descent.specs.Follow.{NotAt}
use Rattle.luf_descent.specs.Parts as p
use Rattle.luf_descent.specs.PartEntries.{suffix_entries, suffixes_entries, expr_entries, exprs_entries, stat_entries}
use Rattle.luf_descent.specs.PartStops.{StopsParen, StopsHead, StopsPrefix, StopsSuffixes, StopsSimple, StopsVariable, StopsToken, StopsExprs, StopsStat, StopsAssign, StopsTargets}
use Rattle.luf_descent.specs.Stops.{Known, Stops}
use Rattle.luf_descent.specs.declared.error.ParseErr.{ParseErr}
use Rattle.luf_descent.specs.declared.error.ParseErr.TheVariants as error
use Rattle.luf_descent.specs.Reads.{token_begins_suffix, begins_suffix}
use Rattle.luf_descent.specs.Shapes.{leaf_kind}
use Rattle.luf_descent.specs.declared.prefixes.PrefixExpr.{PrefixExpr}
use Rattle.luf_descent.specs.declared.prefixes.Shape.{Shape}
use Rattle.luf_descent.specs.declared.prefixes.Shape.TheVariants as shape
use Rattle.luf_descent.proofs.ExprForms.{head_form, prefix_form, prefixed_form}
use Rattle.luf_descent.proofs.Joining.{Joins}
use Rattle.luf_descent.proofs.Exactness.{then_rest, token_only}
use Rattle.luf_descent.proofs.StatForms.{variable_prefix}
use Rattle.luf_descent.proofs.Completing.{agree_less, token_agrees, carried, carried_token, Room, within_first, within_none, within_as, within_spelled, within_low}
use Rattle.luf_descent.proofs.Frames.{Seen, stops_after, stops_behind, stops_last, stops_map, stops_wrong, one, two, four}
use Rattle.luf_descent.proofs.Low.{low_expr, low_exprs}
use Rattle.luf_descent.proofs.ExprStops.{not_here, nil_at}

targets_joined : (level : ℕ) (found rest : List Expr) → exprs_entries level (found ++ rest) ≡ exprs_entries level found ++ exprs_entries level rest
targets_joined level [] rest = refl
targets_joined level (x ∷ found) rest = ap (λ es. expr_entries level x ++ es) (targets_joined level found rest) ∙ sym (append_assoc (expr_entries level x) (exprs_entries level found) (exprs_entries level rest))

-- a prefix expression with a name behind it is a variable
record Variable (l : List Tok) (i k : ℕ) (e : Expr) : Type 0 where
  part : Expr
  derived : IsVariable l i k part
  same : (level : ℕ) → expr_entries level part ≡ expr_entries level e

snoc : {l : List Tok} {calls : Bool} {i j k : ℕ} {ss : List Suffix} {s : Suffix} → AreSuffixes l calls i j ss → IsSuffix l false j k s → AreSuffixes l false i k (ss ++ s ∷ [])
snoc (g.one_suffix d) s = g.more_suffixes d (g.one_suffix s)
snoc (g.more_suffixes d rest) s = g.more_suffixes d (snoc rest s)

snoc_entries : (level name : ℕ) (ss : List Suffix) → suffixes_entries level (ss ++ suffix.Dot name ∷ []) ≡ suffixes_entries level ss
snoc_entries level name [] = ap (λ s. entries_of_suffix level s ++ []) (eq.dot_syntax name)
snoc_entries level name (s ∷ ss) = ap (λ es. suffix_entries level s ++ es) (snoc_entries level name ss)

head_variable : {l : List Tok} {i j n k : ℕ} {head : Expr} → IsHead l i j head → IsToken l j (Sign sign.Dot) n → IsToken l n Name k → Variable l i k head
head_variable {i = i} {n = n} {k = k} {head = head} d t u = record {
  part = suffixed i k head (suffix.Dot n ∷ []);
  derived = g.suffixed_variable d (g.one_suffix (g.dot_suffix t u));
  same = λ level. ap (entries_of_expression level) (eq.suffixed_syntax i k head (suffix.Dot n ∷ [])) ∙ ap (λ es. expr_entries level head ++ es) (snoc_entries level n []) ∙ append-nil (expr_entries level head);
}

suffixed_more : {l : List Tok} {calls : Bool} {i j m n k : ℕ} {head : Expr} {ss : List Suffix} → IsHead l i j head → AreSuffixes l calls j m ss → IsToken l m (Sign sign.Dot) n → IsToken l n Name k → Variable l i k (suffixed i m head ss)
suffixed_more {i = i} {m = m} {n = n} {k = k} {head = head} {ss = ss} d rest t u = record {
  part = suffixed i k head (ss ++ suffix.Dot n ∷ []);
  derived = g.suffixed_variable d (snoc rest (g.dot_suffix t u));
  same = λ level. ap (entries_of_expression level) (eq.suffixed_syntax i k head (ss ++ suffix.Dot n ∷ [])) ∙ ap (λ es. expr_entries level head ++ es) (snoc_entries level n ss) ∙ sym (ap (entries_of_expression level) (eq.suffixed_syntax i m head ss));
}

variable_of : {l : List Tok} {i m n k : ℕ} {e : Expr} → IsPrefix l i m e → IsToken l m (Sign sign.Dot) n → IsToken l n Name k → Variable l i k e
variable_of (g.variable_prefix (g.name_variable d)) t u = head_variable (g.name_head d) t u
variable_of (g.variable_prefix (g.suffixed_variable d rest)) t u = suffixed_more d rest t u
variable_of (g.call_prefix (g.suffixed_call d rest)) t u = suffixed_more d rest t u
variable_of (g.paren_prefix d) t u = head_variable (g.paren_head d) t u

-- ---- prefix expressions

pub head_paren : {toks : List Tok} {at left : ℕ} {e : ParseErr} → NotAt toks at Name → StopsParen toks left at e → StopsHead toks left at e
head_paren {at = at} name h =
    stops_map h (λ kind w l k le closes x. record { part = x.part; derived = g.paren_head x.derived; levels = x.levels })
    (λ w l le agree n y d. let f = head_form (not_here at (agree_less agree (omega arith)) name) y d in record { left = n; part = f.part; is = f.first })

head_prefix : {l : List Tok} {i j : ℕ} {head : Expr} → IsHead l i j head → IsPrefix l i j head
head_prefix (g.name_head t) = g.variable_prefix (g.name_variable t)
head_prefix (g.paren_head d) = g.paren_prefix d

pub prefix_head : {toks : List Tok} {at left : ℕ} {e : ParseErr} → StopsHead toks left at e → StopsPrefix toks left at e
prefix_head h =
    stops_map h (λ kind w l k le closes x. record { part = x.part; derived = head_prefix x.derived; levels = x.levels })
    (λ w l le agree n y d. let f = prefix_form y d in record { left = n; part = f.part; is = f.first })

head_agrees : {toks l : List Tok} {i j : ℕ} {head : Expr} → IsHead toks i j head → AgreeBefore toks l j → IsHead l i j head
head_agrees (g.name_head t) agree = let a = t.next in g.name_head (token_agrees agree (omega arith) t)
head_agrees {toks} {l} (g.paren_head (g.paren {k = k} t d u)) agree =
    let a = t.next in
    let b = u.next in
    let c = (local_expr d).forward in
    g.paren_head (g.paren (token_agrees agree (omega arith) t) ((local_expr d).at l (agree_less agree (omega arith)) (λ none there. none (sym (agree.same k (omega arith)) ∙ there))) (token_agrees agree (omega arith) u))

suffixed_prefix : {l : List Tok} {i j k : ℕ} {head : Expr} {ss : List Suffix} (calls : Bool) → IsHead l i j head → AreSuffixes l calls j k ss → IsPrefix l i k (suffixed i k head ss)
suffixed_prefix true head rest = g.call_prefix (g.suffixed_call head rest)
suffixed_prefix false head rest = g.variable_prefix (g.suffixed_variable head rest)

pub prefix_suffixes : {toks : List Tok} {at place left : ℕ} {head : PrefixExpr} {e : ParseErr} → IsHead toks at place head.expr → at < place → (out-Expr head.expr).to ≡ place → expr_levels head.expr ≤ left
    → Known toks place (λ l n. p.ReadHead l n at) head → begins_suffix toks place ≡ true → StopsSuffixes toks left place e → StopsPrefix toks left at e
prefix_suffixes {at = at} {place = place} {head = head} d forward to low known begins h =
    stops_behind forward h
    (λ kind w l k le agree x. record {
      part = suffixed at k head.expr x.part.1;
      derived = suffixed_prefix x.part.0 (head_agrees d agree) x.derived;
      levels = λ level. within_spelled (entries_of_expression level) (eq.suffixed_syntax at k head.expr x.part.1) (within_first (expr_entries level head.expr) (low_expr level head.expr low) (x.levels level));
    })
    (λ w l le agree n y d.
    let r = then_rest (known.only l (agree_less agree (omega arith)) n) (prefix_form y d) in
    let here = ap token_begins_suffix (agree.same place (omega arith)) ∙ begins in
    let f = r.more (subst (λ (q : ℕ). begins_suffix l q ≡ true) (sym to) here) in
    record { left = n; part = f.part; is = subst (λ (q : ℕ). p.ReadSuffixes l n q f.part) to f.first })

pub simple_prefix : {toks : List Tok} {at next left : ℕ} {tok : Tok} {e : ParseErr} → IsToken toks at tok next → leaf_kind tok ≡ None → NotAt toks at (Word word.Function) → NotAt toks at (Sign sign.LeftBrace) → StopsPrefix toks left at e
    → StopsSimple toks left at (λ l n. p.ReadSimple l n at) e
simple_prefix {at = at} t leaf function brace h =
    stops_map h (λ kind w l k le closes x. record { part = x.part; derived = g.prefix_simple x.derived closes; levels = x.levels })
    (λ w l le agree n y d.
    let less = agree_less agree (omega arith) in
    let f = prefixed_form (token_agrees agree (omega arith) t) leaf (not_here at less function) (not_here at less brace) y d in
    record { left = n; part = f.part; is = f.first })

dot_no_paren : {l : List Tok} {m n : ℕ} → IsToken l m (Sign sign.Dot) n → NotAt l m (Sign sign.LeftParen)
dot_no_paren t there = let a = t.there in absurd cc

-- the entries of an assignment of a value that enters none
assigned_entries : (level i k : ℕ) (v x : Expr) → expr_entries level x ≡ [] → stat_entries level (statement i k (stat.Assign (v ∷ []) (x ∷ []))) ≡ expr_entries level v
assigned_entries level i k v x none =
    ap (entries_of_statement level) (eq.assign_syntax i k (v ∷ []) (x ∷ [])) ∙ ap (λ es. (expr_entries level v ++ []) ++ (es ++ [])) none ∙ append-nil (expr_entries level v ++ []) ∙ append-nil (expr_entries level v)

-- ---- variables and assignments

pub variable_stops : {toks : List Tok} {at left : ℕ} {e : ParseErr} → StopsPrefix toks left at e → StopsVariable toks left at e
variable_stops h =
    stops_after (Sign sign.Dot ∷ Name ∷ []) refl (omega arith) h
    (λ kind w l m k le b. let s = two b.stand in let v = variable_of b.made.derived s.first s.second in record { part = v.part; derived = v.derived; levels = λ level. within_as (v.same level) (b.made.levels level) })
    (λ w l le agree n y d. record { left = n; part = record { shape = shape.Variable; expr = y }; is = variable_prefix y d })

pub stat_prefix : {toks : List Tok} {at left : ℕ} {e : ParseErr} → StopsPrefix toks left at e → StopsStat toks left at (λ l n. p.ReadExprStat l n at) e
stat_prefix {at = at} h =
    stops_after (Sign sign.Dot ∷ Name ∷ Sign sign.Assign ∷ Word word.Nil ∷ []) refl (omega arith) h
    (λ kind w l m k le b.
    let s = four b.stand in
    let v = variable_of b.made.derived s.first s.rest.first in
    let x = nil_at {n = 1} s.rest.rest.second in
    record {
      part = statement at k (stat.Assign (v.part ∷ []) (x.part ∷ []));
      derived = g.assign_stat (g.one_target v.derived) s.rest.rest.first (g.one_expr x.derived);
      levels = λ level. within_as (assigned_entries level at k v.part x.part (x.none level) ∙ v.same level) (b.made.levels level);
    })
    (λ w l le agree n y d. record { left = n; part = d.part; is = d.first })

-- behind a whole prefix expression that is no variable
pub variable_refused : {toks : List Tok} {at place left : ℕ} {found : PrefixExpr} → IsPrefix toks at place found.expr → at ≤ place → place ≤ length toks → NoParenFollows toks place → expr_levels found.expr ≤ left
    → Known toks place (λ l n. p.ReadPrefix l n at) found → (found.shape ≡ shape.Variable → ⊥) → StopsVariable toks left at (error.Syntax place)
variable_refused {found = found} d forward within closed low known other =
    stops_wrong (Sign sign.Dot ∷ Name ∷ []) forward within (λ _ _. refl)
    (λ l k agree stand closes.
    let s = two stand in
    let v = variable_of ((local_prefix d).at l agree (λ _ there. dot_no_paren s.first there)) s.first s.second in
    record { part = v.part; derived = v.derived; levels = λ level. within_as (v.same level) (within_low (expr_entries level found.expr) (low_expr level found.expr low) within_none) })
    (λ l agree n y d. let e = known.only l agree n (record { shape = shape.Variable; expr = y }) (variable_prefix y d) in other (ap (λ (q : PrefixExpr). q.shape) (sym e)))

-- an expression in parentheses is no statement
pub stat_refused : {toks : List Tok} {at place left : ℕ} {found : PrefixExpr} → IsPrefix toks at place found.expr → at ≤ place → place ≤ length toks → expr_levels found.expr ≤ left → Known toks place (λ l n. p.ReadPrefix l n at) found
    → found.shape ≡ shape.Paren → StopsStat toks left at (λ l n. p.ReadExprStat l n at) (error.Syntax place)
stat_refused {at = at} {found = found} d forward within low known is =
    stops_wrong (Sign sign.Dot ∷ Name ∷ Sign sign.Assign ∷ Word word.Nil ∷ []) forward within (λ _ _. refl)
    (λ l k agree stand closes.
    let s = four stand in
    let v = variable_of ((local_prefix d).at l agree (λ _ there. dot_no_paren s.first there)) s.first s.rest.first in
    let x = nil_at {n = 1} s.rest.rest.second in
    record {
      part = statement at k (stat.Assign (v.part ∷ []) (x.part ∷ []));
      derived = g.assign_stat (g.one_target v.derived) s.rest.rest.first (g.one_expr x.derived);
      levels = λ level. within_as (assigned_entries level at k v.part x.part (x.none level) ∙ v.same level) (within_low (expr_entries level found.expr) (low_expr level found.expr low) within_none);
    })
    (λ l agree n y d. let r = then_rest (known.only l agree n) d in subst (λ (q : Shape). p.ReadShaped l n at q found.expr y) is r)

-- ---- the targets of an assignment

pub targets_item : {toks : List Tok} {i from place left : ℕ} {first : Expr} {e : ParseErr} (found : List Expr) → i ≤ place → ((l : List Tok) → Room toks l place → Joins (AreTargets l) from place found) → deepest (map expr_levels found) ≤ left
    → ((l : List Tok) → AgreeBefore toks l place → (n : ℕ) (y : List Expr × ℕ) → p.ReadMoreTargets l n from first y → Seen (λ n. p.ReadVariable l n place)) → StopsVariable toks left place e
    → Stops toks i left false (λ l k x. AreTargets l from k x) exprs_entries (λ l n. p.ReadMoreTargets l n from first) e
targets_item found forward joins low form h =
    stops_last forward h
    (λ kind w l k le b. record {
      part = found ++ b.made.part ∷ [];
      derived = joins l b.room k (b.made.part ∷ []) (g.one_target b.made.derived);
      levels = λ level. within_as (targets_joined level found (b.made.part ∷ [])) (within_first (exprs_entries level found) (low_exprs level found low) (within_as (append-nil (expr_entries level b.made.part)) (b.made.levels level)));
    })
    (λ w l le agree n y d. form l (agree_less agree (omega arith)) n y d)

pub assign_targets : {toks : List Tok} {at left : ℕ} {first : Expr} {e : ParseErr} → StopsTargets toks left at first e → StopsAssign toks left at first e
assign_targets {at = at} h =
    stops_after (Sign sign.Assign ∷ Word word.Nil ∷ []) refl (omega arith) h
    (λ kind w l m k le b.
    let s = two b.stand in
    let x = nil_at {n = 1} s.second in
    record {
      part = statement at k (stat.Assign b.made.part (x.part ∷ []));
      derived = g.assign_stat b.made.derived s.first (g.one_expr x.derived);
      levels = λ level. within_as (ap (entries_of_statement level) (eq.assign_syntax at k b.made.part (x.part ∷ [])) ∙ ap (λ es. exprs_entries level b.made.part ++ (es ++ [])) (x.none level) ∙ append-nil (exprs_entries level b.made.part)) (b.made.levels level);
    })
    (λ w l le agree n y d. record { left = n; part = d.part; is = d.first })

pub assign_sign : {toks : List Tok} {at place left : ℕ} {first : Expr} {targets : List Expr} {e : ParseErr} → AreTargets toks at place targets → (out-Expr first).to ≤ place → deepest (map expr_levels targets) ≤ left
    → Known toks place (λ l n. p.ReadMoreTargets l n at first) (targets, place) → StopsToken toks left place (Sign sign.Assign) e → StopsAssign toks left at first e
assign_sign {at = at} {targets = targets} d forward low known h =
    stops_after (Word word.Nil ∷ []) refl forward h
    (λ kind w l m k le b.
    let x = nil_at {n = 1} (one b.stand) in
    record {
      part = statement at k (stat.Assign targets (x.part ∷ []));
      derived = g.assign_stat (carried b.room (local_targets d) (omega arith)) b.made.derived (g.one_expr x.derived);
      levels = λ level. within_as (ap (entries_of_statement level) (eq.assign_syntax at k targets (x.part ∷ [])) ∙ ap (λ es. exprs_entries level targets ++ (es ++ [])) (x.none level) ∙ append-nil (exprs_entries level targets))
          (within_low (exprs_entries level targets) (low_exprs level targets low) (b.made.levels level));
    })
    (λ w l le agree n y d. let r = then_rest (known.only l (agree_less agree (omega arith)) n) d in record { left = n; part = r.part; is = r.first })

pub assign_values : {toks : List Tok} {at place from left : ℕ} {first : Expr} {targets : List Expr} {e : ParseErr} → AreTargets toks at place targets → (out-Expr first).to ≤ place → deepest (map expr_levels targets) ≤ left
    → Known toks place (λ l n. p.ReadMoreTargets l n at first) (targets, place) → IsToken toks place (Sign sign.Assign) from → StopsExprs toks left from e → StopsAssign toks left at first e
assign_values {at = at} {targets = targets} d forward low known u h =
    let o = u.next in
    stops_last (omega arith) h
    (λ kind w l k le b. record {
      part = statement at k (stat.Assign targets b.made.part);
      derived = g.assign_stat (carried b.room (local_targets d) (omega arith)) (carried_token b.room u (omega arith)) b.made.derived;
      levels = λ level. within_spelled (entries_of_statement level) (eq.assign_syntax at k targets b.made.part) (within_first (exprs_entries level targets) (low_exprs level targets low) (b.made.levels level));
    })
    (λ w l le agree n y d.
    let r = then_rest (known.only l (agree_less agree (omega arith)) n) d in
    let z = then_rest (token_only (token_agrees agree (omega arith) u)) r in
    record { left = n; part = z.part; is = z.first })

-- a statement that begins with a variable is an assignment
pub stat_assign : {toks : List Tok} {at left : ℕ} {found : PrefixExpr} {e : ParseErr} → Known toks (out-Expr found.expr).to (λ l n. p.ReadPrefix l n at) found → found.shape ≡ shape.Variable → at ≤ (out-Expr found.expr).to
    → StopsAssign toks left at found.expr e → StopsStat toks left at (λ l n. p.ReadExprStat l n at) e
stat_assign {at = at} {found = found} known is forward h =
    stops_last forward h (λ kind w l k le b. b.made)
    (λ w l le agree n y d.
    let r = then_rest (known.only l (agree_less agree (omega arith)) n) d in
    record { left = n; part = y; is = subst (λ (q : Shape). p.ReadShaped l n at q found.expr y) is r })
