-- Where statements stop, and what completes them.
use Rattle.std.proofs.Common.{◌≡◌, ℕ, ◌+◌, ◌≤◌, ◌⊎◌, inl, inr, List, [], ◌∷◌, ◌++◌, length, refl, ap, ◌∙◌, subst, arith, append-nil}
use Rattle.std.specs.Prelude.{Contains}
use Rattle.luf_lex.specs.declared.token.Tok.{Tok}
use Rattle.luf_lex.specs.declared.token.Tok.TheVariants.{Word, Sign}
use Rattle.luf_lex.specs.declared.token.Word.TheVariants as word
use Rattle.luf_lex.specs.declared.token.Sign.TheVariants as sign
use Rattle.luf_tree.specs.declared.tree.Block.{Block, out-Block}
use Rattle.luf_tree.specs.declared.tree.StatKind.TheVariants as stat
use Rattle.luf_tree.specs.declared.tree.Expr.{Expr, out-Expr}
use Rattle.luf_tree.specs.Level.{expr_levels, block_levels}
use Rattle.luf_tree.specs.Entry.{Entry, entered, entries_of_statement}
use Rattle.luf_tree.specs.Grammar as g
use Rattle.luf_tree.specs.Grammar.{At, statement, IsToken, IsExpr, IsBlock}
use Rattle.luf_tree.proofs.SyntaxEquations as eq
use Rattle.luf_descent.proofs.EntryOpeners.{block_opener}
use Rattle.luf_tree.proofs.Locality.{local_expr, local_block}
use Rattle.luf_descent.specs.Follow.{NotAt}
use Rattle.luf_descent.specs.Parts as p
use Rattle.luf_descent.specs.PartEntries.{expr_entries, block_entries}
use Rattle.luf_descent.specs.PartStops.{StopsToken, StopsExpr, StopsBlock, StopsStat, StopsEnded}
use Rattle.luf_descent.specs.Stops.{Known}
use Rattle.luf_descent.specs.declared.error.ParseErr.{ParseErr}
use Rattle.luf_descent.specs.declared.error.ParseErr.TheVariants as error
use Rattle.luf_descent.proofs.Exactness.{then_rest, token_only}
use Rattle.luf_descent.proofs.Ends.{moved}
use Rattle.luf_descent.proofs.Completing.{agree_less, token_agrees, carried, carried_token, cons_in, within_first, within_last, within_entered, within_later, within_deep, within_as, within_spelled, within_low}
use Rattle.luf_descent.proofs.Frames.{stops_after, stops_last, stops_wrong, stops_deep, one, two}
use Rattle.luf_descent.proofs.Low.{Low, low_expr, low_block}
use Rattle.luf_descent.proofs.ExprStops.{not_here, token_here, nil_at, empty_block, none_later}

-- entries of an empty part, and of the token before it
pub entered_later : {t place : ℕ} {es : List Entry} (level : ℕ) → es ≡ [] → t ≤ place → (e : Entry) → Contains (entered place level es) e → t ≤ e.token
entered_later {t} {place} {es} level none le e c = either (cons_in _ es c) refl
  where
    either : {x : Entry} → (x ≡ e) ⊎ Contains es e → x.token ≡ place → t ≤ e.token
    either (inl a) is = let b = ap (λ (e : Entry). e.token) a in omega arith
    either (inr a) is = none_later none e a

-- a level round low entries
pub low_entered : {left : ℕ} (at level inner : ℕ) (es : List Entry) → left ≡ inner + 1 → Low (level + 1) inner es → Low level left (entered at level es)
low_entered {left} at level inner es enter low e c = either (cons_in _ es c) refl (low e)
  where
    either : {x : Entry} → (x ≡ e) ⊎ Contains es e → x.level ≡ level + 1 → (Contains es e → e.level ≤ level + 1 + inner) → e.level ≤ level + left
    either (inl a) is f = let b = ap (λ (e : Entry). e.level) a in omega arith
    either (inr a) is f = let b = f a in omega arith

-- ---- a block that its first token enters, and its `end`

pub ended_deep : {toks : List Tok} {opener from left : ℕ} → from ≡ opener + 1 → from ≤ length toks → left ≡ 0 → StopsEnded toks left opener from (error.TooDeep opener)
ended_deep {opener = opener} {from = from} n within none =
    stops_deep (Word word.End ∷ []) (omega arith) (omega arith) (λ _ _. refl)
    (λ l k agree stand closes. let b = empty_block l from in record {
      part = (b.part, from);
      derived = (b.derived, moved n (one stand));
      levels = λ level. within_deep (block_entries (level + 1) b.part) none (none_later (b.none (level + 1)));
    })

pub ended_body : {toks : List Tok} {opener from left inner : ℕ} {e : ParseErr} → left ≡ inner + 1 → StopsBlock toks inner from e → StopsEnded toks left opener from e
ended_body {opener = opener} enter h =
    stops_after (Word word.End ∷ []) refl (omega arith) h
    (λ kind w l m k le b. record { part = (b.made.part, m); derived = (b.made.derived, one b.stand); levels = λ level. within_entered opener enter (b.made.levels (level + 1)) })
    (λ w l le agree n y d. record { left = d.part; part = d.rest.part; is = d.rest.first })

pub ended_close : {toks : List Tok} {opener from to left inner : ℕ} {body : Block} {e : ParseErr} → left ≡ inner + 1 → IsBlock toks from to body → from ≤ to → (out-Block body).to ≡ to → block_levels body ≤ inner
    → Known toks to (λ l n. p.ReadBlock l n from) body → StopsToken toks inner to (Word word.End) e → StopsEnded toks left opener from e
ended_close {opener = opener} {to = to} {body = body} enter d forward same low known h =
    stops_last forward h
    (λ kind w l k le b. record {
      part = (body, to);
      derived = (carried b.room (local_block d) (omega arith), b.made.derived);
      levels = λ level. within_entered opener enter (within_low (block_entries (level + 1) body) (low_block (level + 1) body low) (b.made.levels (level + 1)));
    })
    (λ w l le agree n y d. let r = then_rest (known.only l (agree_less agree (omega arith)) d.part) d.rest in record { left = d.part; part = r.part; is = subst (λ (q : ℕ). IsToken l q (Word word.End) r.part) same r.first })

-- ---- `do`, `while` and `repeat`

pub do_stops : {toks : List Tok} {at next left : ℕ} {e : ParseErr} → IsToken toks at (Word word.Do) next → StopsEnded toks left at next e → StopsStat toks left at (λ l n. p.ReadDo l n at next) e
do_stops {at = at} t h =
    let n = t.next in
    stops_last (omega arith) h
    (λ kind w l k le b. record {
      part = statement at k (stat.Do b.made.part.0);
      derived = g.do_stat (carried_token b.room t (omega arith)) b.made.derived.0 b.made.derived.1;
      levels = λ level. within_spelled (entries_of_statement level) (eq.do_syntax at k b.made.part.0) (b.made.levels level);
    })
    (λ w l le agree n y d. record { left = n; part = d.part; is = d.first })

pub while_test : {toks : List Tok} {at next left : ℕ} {e : ParseErr} → IsToken toks at (Word word.While) next → StopsExpr toks 1 left next e → StopsStat toks left at (λ l n. p.ReadWhile l n at next) e
while_test {at = at} t h =
    let n = t.next in
    stops_after (Word word.Do ∷ Word word.End ∷ []) refl (omega arith) h
    (λ kind w l m k le b.
    let s = two b.stand in
    let body = empty_block l s.middle in
    let x = b.made.part in
    let late = b.late in
    record {
      part = statement at k (stat.While x body.part);
      derived = g.while_stat (carried_token b.room t (omega arith)) b.made.derived s.first body.derived s.second;
      levels = λ level. within_spelled (entries_of_statement level) (eq.while_syntax at k x body.part)
          (within_spelled (λ q. expr_entries level x ++ entered q level (block_entries (level + 1) body.part)) (block_opener s.first body.derived)
          (within_last (entered m level (block_entries (level + 1) body.part)) (entered_later level (body.none (level + 1)) late) (b.made.levels level)));
    })
    (λ w l le agree n y d. record { left = n; part = d.part; is = d.first })

pub while_do : {toks : List Tok} {at next place left : ℕ} {x : Expr} → IsToken toks at (Word word.While) next → IsExpr toks 1 next place x → next ≤ place → (out-Expr x).to ≡ place → expr_levels x ≤ left
    → Known toks place (λ l n. p.ReadExpr l 1 n next) x → place ≤ length toks → NotAt toks place (Word word.Do) → StopsStat toks left at (λ l n. p.ReadWhile l n at next) (error.Syntax place)
while_do {toks} {at = at} {place = place} {x = x} t d forward to low known within none =
    let n = t.next in
    stops_wrong (Word word.Do ∷ Word word.End ∷ []) (omega arith) within (λ _ _. refl)
    (λ l k agree stand closes.
    let s = two stand in
    let body = empty_block l s.middle in
    let d = (local_expr d).at l agree (λ _ there. let a = s.first.there in absurd (do_no_paren l a there)) in
    record {
      part = statement at k (stat.While x body.part);
      derived = g.while_stat (token_agrees agree (omega arith) t) d s.first body.derived s.second;
      levels = λ level. within_spelled (entries_of_statement level) (eq.while_syntax at k x body.part)
          (within_spelled (λ q. expr_entries level x ++ entered q level (block_entries (level + 1) body.part)) (block_opener s.first body.derived)
          (within_first (expr_entries level x) (low_expr level x low) (within_later (entered place level (block_entries (level + 1) body.part)) (entered_later level (body.none (level + 1)) (omega arith)))));
    })
    (λ l agree n y d. let r = then_rest (known.only l agree n) d in not_here place agree none (subst (λ (q : ℕ). At l q (Word word.Do)) to r.first.there))
  where
    do_no_paren : (l : List Tok) → At l place (Word word.Do) → At l place (Sign sign.LeftParen) → ⊥
    do_no_paren l a b = cc

pub while_ended : {toks : List Tok} {at next place inside left : ℕ} {x : Expr} {e : ParseErr} → IsToken toks at (Word word.While) next → IsExpr toks 1 next place x → next ≤ place → (out-Expr x).to ≡ place → expr_levels x ≤ left
    → Known toks place (λ l n. p.ReadExpr l 1 n next) x → IsToken toks place (Word word.Do) inside → StopsEnded toks left place inside e → StopsStat toks left at (λ l n. p.ReadWhile l n at next) e
while_ended {at = at} {place = place} {x = x} t d forward to low known u h =
    let n = t.next in
    let o = u.next in
    stops_last (omega arith) h
    (λ kind w l k le b.
    let u = carried_token b.room u (omega arith) in
    let body = b.made.part.0 in
    record {
      part = statement at k (stat.While x body);
      derived = g.while_stat (carried_token b.room t (omega arith)) (carried b.room (local_expr d) (omega arith)) u b.made.derived.0 b.made.derived.1;
      levels = λ level. within_spelled (entries_of_statement level) (eq.while_syntax at k x body) (within_spelled (λ q. expr_entries level x ++ entered q level (block_entries (level + 1) body)) (block_opener u b.made.derived.0)
          (within_first (expr_entries level x) (low_expr level x low) (b.made.levels level)));
    })
    (λ w l le agree n y d.
    let r = then_rest (known.only l (agree_less agree (omega arith)) n) d in
    let z = then_rest (token_only (moved to (token_agrees agree (omega arith) u))) r in
    record { left = n; part = z.part; is = z.first })

pub repeat_deep : {toks : List Tok} {at next left : ℕ} → IsToken toks at (Word word.Repeat) next → next ≤ length toks → left ≡ 0 → StopsStat toks left at (λ l n. p.ReadRepeat l n at next) (error.TooDeep at)
repeat_deep {at = at} t within none =
    let n = t.next in
    stops_deep (Word word.Until ∷ Word word.Nil ∷ []) (omega arith) (omega arith) (λ _ _. refl)
    (λ l k agree stand closes.
    let s = two stand in
    let body = empty_block l (at + 1) in
    let x = nil_at {n = 1} s.second in
    record {
      part = statement at k (stat.Repeat body.part x.part);
      derived = g.repeat_stat (token_here agree (omega arith) t) body.derived s.first x.derived;
      levels = λ level. within_spelled (entries_of_statement level) (eq.repeat_syntax at k body.part x.part)
          (within_as (ap (λ es. entered at level (block_entries (level + 1) body.part) ++ es) (x.none level) ∙ append-nil (entered at level (block_entries (level + 1) body.part)))
          (within_deep (block_entries (level + 1) body.part) none (none_later (body.none (level + 1)))));
    })

pub repeat_body : {toks : List Tok} {at next left inner : ℕ} {e : ParseErr} → IsToken toks at (Word word.Repeat) next → left ≡ inner + 1 → StopsBlock toks inner next e → StopsStat toks left at (λ l n. p.ReadRepeat l n at next) e
repeat_body {at = at} t enter h =
    let n = t.next in
    stops_after (Word word.Until ∷ Word word.Nil ∷ []) refl (omega arith) h
    (λ kind w l m k le b.
    let s = two b.stand in
    let x = nil_at {n = 1} s.second in
    let body = b.made.part in
    record {
      part = statement at k (stat.Repeat body x.part);
      derived = g.repeat_stat (carried_token b.room t (omega arith)) b.made.derived s.first x.derived;
      levels = λ level. within_spelled (entries_of_statement level) (eq.repeat_syntax at k body x.part)
          (within_as (ap (λ es. entered at level (block_entries (level + 1) body) ++ es) (x.none level) ∙ append-nil (entered at level (block_entries (level + 1) body)))
          (within_entered at enter (b.made.levels (level + 1))));
    })
    (λ w l le agree n y d. record { left = d.part; part = d.rest.part; is = d.rest.first })

pub repeat_until : {toks : List Tok} {at next place left inner : ℕ} {body : Block} {e : ParseErr} → IsToken toks at (Word word.Repeat) next → left ≡ inner + 1 → IsBlock toks next place body → next ≤ place → (out-Block body).to ≡ place
    → block_levels body ≤ inner → Known toks place (λ l n. p.ReadBlock l n next) body → StopsToken toks inner place (Word word.Until) e → StopsStat toks left at (λ l n. p.ReadRepeat l n at next) e
repeat_until {at = at} {body = body} t enter d forward to low known h =
    let n = t.next in
    stops_after (Word word.Nil ∷ []) refl (omega arith) h
    (λ kind w l m k le b.
    let x = nil_at {n = 1} (one b.stand) in
    record {
      part = statement at k (stat.Repeat body x.part);
      derived = g.repeat_stat (carried_token b.room t (omega arith)) (carried b.room (local_block d) (omega arith)) b.made.derived x.derived;
      levels = λ level. within_spelled (entries_of_statement level) (eq.repeat_syntax at k body x.part)
          (within_as (ap (λ es. entered at level (block_entries (level + 1) body) ++ es) (x.none level) ∙ append-nil (entered at level (block_entries (level + 1) body)))
          (within_entered at enter (within_low (block_entries (level + 1) body) (low_block (level + 1) body low) (b.made.levels (level + 1)))));
    })
    (λ w l le agree n y d. let r = then_rest (known.only l (agree_less agree (omega arith)) d.part) d.rest in record { left = d.part; part = r.part; is = subst (λ (q : ℕ). IsToken l q (Word word.Until) r.part) to r.first })

pub repeat_test : {toks : List Tok} {at next place from left inner : ℕ} {body : Block} {e : ParseErr} → IsToken toks at (Word word.Repeat) next → left ≡ inner + 1 → IsBlock toks next place body → next ≤ place → (out-Block body).to ≡ place
    → block_levels body ≤ inner → Known toks place (λ l n. p.ReadBlock l n next) body → IsToken toks place (Word word.Until) from → StopsExpr toks 1 left from e → StopsStat toks left at (λ l n. p.ReadRepeat l n at next) e
repeat_test {at = at} {place = place} {inner = inner} {body = body} t enter d forward to low known u h =
    let n = t.next in
    let o = u.next in
    stops_last (omega arith) h
    (λ kind w l k le b.
    let x = b.made.part in
    record {
      part = statement at k (stat.Repeat body x);
      derived = g.repeat_stat (carried_token b.room t (omega arith)) (carried b.room (local_block d) (omega arith)) (carried_token b.room u (omega arith)) b.made.derived;
      levels = λ level. within_spelled (entries_of_statement level) (eq.repeat_syntax at k body x) (within_first (entered at level (block_entries (level + 1) body)) (low_entered at level inner (block_entries (level + 1) body) enter (low_block (level + 1) body low)) (b.made.levels level));
    })
    (λ w l le agree n y d.
    let r = then_rest (known.only l (agree_less agree (omega arith)) d.part) d.rest in
    let z = then_rest (token_only (moved to (token_agrees agree (omega arith) u))) r in
    record { left = n; part = z.part; is = z.first })
