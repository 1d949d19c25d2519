-- Where a `for` with a count stops, and what completes it.
use Rattle.std.proofs.Common.{◌≡◌, ℕ, ◌+◌, ◌<◌, ◌≤◌, ◌⊎◌, inl, inr, Option, None, List, [], ◌∷◌, ◌++◌, length, refl, sym, ap, ◌∙◌, subst, arith}
use Rattle.std.specs.Prelude.{Contains}
use Rattle.std.specs.Option.{option_map}
use Rattle.std.proofs.lemmas.Bool.{cases_lt}
use Rattle.std.proofs.lemmas.List.Elements.{Contains-append_cases}
use Rattle.luf_lex.specs.declared.token.Tok.{Tok}
use Rattle.luf_lex.specs.declared.token.Tok.TheVariants.{Name, Word, Sign}
use Rattle.luf_lex.specs.declared.token.Word.TheVariants as word
use Rattle.luf_lex.specs.declared.token.Sign.TheVariants as sign
use Rattle.luf_tree.specs.declared.tree.Block.{Block}
use Rattle.luf_tree.specs.declared.tree.Stat.{Stat}
use Rattle.luf_tree.specs.declared.tree.StatKind.TheVariants as stat
use Rattle.luf_tree.specs.declared.tree.Expr.{Expr, out-Expr}
use Rattle.luf_tree.specs.Agree.{AgreeBefore}
use Rattle.luf_tree.specs.Level.{expr_levels, if_there}
use Rattle.luf_tree.specs.Entry.{Entry, entered, entries_of_statement}
use Rattle.luf_tree.specs.Grammar as g
use Rattle.luf_tree.specs.Grammar.{At, statement, IsToken, IsExpr, IsBlock, IsForStep, NoParenFollows}
use Rattle.luf_tree.proofs.SyntaxEquations as eq
use Rattle.luf_tree.proofs.Locality.{local_expr, local_for_step}
use Rattle.luf_descent.specs.Exact.{Then}
use Rattle.luf_descent.specs.Follow.{NotAt, IsAssigned}
use Rattle.luf_descent.specs.Parts as p
use Rattle.luf_descent.specs.PartEntries.{expr_entries, step_entries, block_entries, stat_entries}
use Rattle.luf_descent.specs.PartStops.{StopsToken, StopsExpr, StopsForStep, StopsEnded, StopsCount}
use Rattle.luf_descent.specs.Stops.{Known}
use Rattle.luf_descent.specs.declared.error.ParseErr.{ParseErr}
use Rattle.luf_descent.specs.declared.error.ParseErr.TheVariants as error
use Rattle.luf_descent.proofs.Ends.{moved}
use Rattle.luf_descent.proofs.EntryOpeners.{block_opener}
use Rattle.luf_descent.proofs.Exactness.{then_rest, token_only}
use Rattle.luf_descent.proofs.Completing.{agree_less, token_agrees, carried, carried_token, within_first, within_last, within_later, within_as, within_low}
use Rattle.luf_descent.proofs.Frames.{stops_after, stops_last, stops_wrong, two, three, four}
use Rattle.luf_descent.proofs.Low.{Low, low_expr, low_step}
use Rattle.luf_descent.proofs.ExprStops.{not_here, nil_at, empty_block, none_later}
use Rattle.luf_descent.proofs.StatStops.{entered_later}
use Rattle.luf_descent.proofs.ForStops.{do_no_paren}

-- the step of such a statement at a place, and what stands behind it
abbrev StepForm : List Tok → ℕ → ℕ → ℕ → Expr → Expr → ℕ → Stat → Type 0
StepForm l n at name first limit place =
    Then (p.ReadForStep l n place) (λ step. Then (IsToken l step.1 (Word word.Do)) (λ inside. Then (p.ReadEnded l n inside) (λ r s. s ≡ statement at r.1 (stat.For name first limit step.0 r.0))))

low_append : (level left : ℕ) (xs ys : List Entry) → Low level left xs → Low level left ys → Low level left (xs ++ ys)
low_append level left xs ys a b e c = either (Contains-append_cases xs ys e c)
  where
    either : Contains xs e ⊎ Contains ys e → e.level ≤ level + left
    either (inl x) = a e x
    either (inr y) = b e y

-- the entries of such a statement, whose `do` stands at a place
for_entries : {l : List Tok} {p q r : ℕ} {body : Block} (level i k name : ℕ) (first limit : Expr) (step : Option Expr) → IsToken l p (Word word.Do) q → IsBlock l q r body
    → stat_entries level (statement i k (stat.For name first limit step body)) ≡ (expr_entries level first ++ expr_entries level limit) ++ (step_entries level step ++ entered p level (block_entries (level + 1) body))
for_entries {body = body} level i k name first limit step t d =
    ap (entries_of_statement level) (eq.for_syntax i k name first limit step body) ∙ ap (λ q. (expr_entries level first ++ expr_entries level limit) ++ (step_entries level step ++ entered q level (block_entries (level + 1) body))) (block_opener t d)

-- `for`, a name and a `=` stand there
record Counts (l : List Tok) (at name from : ℕ) : Type 0 where
  after : ℕ
  for : IsToken l at (Word word.For) name
  name_there : IsToken l name Name after
  sign : IsToken l after (Sign sign.Assign) from
  low : at < from

counts : {toks l : List Tok} {n at name from : ℕ} → IsToken toks at (Word word.For) name → IsAssigned toks name from → AgreeBefore toks l n → from ≤ n → Counts l at name from
counts t a agree le =
    let n = t.next in
    let m = a.name.next in
    let o = a.sign.next in
    record { after = a.after; for = token_agrees agree (omega arith) t; name_there = token_agrees agree (omega arith) a.name; sign = token_agrees agree (omega arith) a.sign; low = omega arith }

pub count_first : {toks : List Tok} {at name from left : ℕ} {e : ParseErr} → IsToken toks at (Word word.For) name → IsAssigned toks name from → StopsExpr toks 1 left from e → StopsCount toks left at name from e
count_first {at = at} {name = name} t a h =
    stops_after (Sign sign.Comma ∷ Word word.Nil ∷ Word word.Do ∷ Word word.End ∷ []) refl (omega arith) h
    (λ kind w l m k le b.
    let s = four b.stand in
    let x = nil_at {n = 1} s.rest.first in
    let body = empty_block l s.rest.rest.middle in
    let c = counts t a b.room.agree (omega arith) in
    let late = b.late in
    let u1 = s.first.next in
    let u2 = s.rest.first.next in
    record {
      part = statement at k (stat.For name b.made.part x.part None body.part);
      derived = g.for_stat c.for c.name_there c.sign b.made.derived s.first x.derived g.no_for_step s.rest.rest.first body.derived s.rest.rest.second;
      levels = λ level. within_as (for_entries level at k name b.made.part x.part None s.rest.rest.first body.derived)
          (within_last (entered s.rest.middle level (block_entries (level + 1) body.part)) (entered_later level (body.none (level + 1)) (omega arith))
          (within_last (expr_entries level x.part) (none_later (x.none level)) (b.made.levels level)));
    })
    (λ w l le agree n y d. record { left = n; part = d.part; is = d.first })

pub count_second : {toks : List Tok} {at name from place left : ℕ} {first : Expr} {e : ParseErr} → IsToken toks at (Word word.For) name → IsAssigned toks name from → IsExpr toks 1 from place first → from ≤ place → (out-Expr first).to ≡ place → expr_levels first ≤ left
    → Known toks place (λ l n. p.ReadExpr l 1 n from) first → StopsToken toks left place (Sign sign.Comma) e → StopsCount toks left at name from e
count_second {at = at} {name = name} {first = first} t a d forward to low known h =
    stops_after (Word word.Nil ∷ Word word.Do ∷ Word word.End ∷ []) refl forward h
    (λ kind w l m k le b.
    let s = three b.stand in
    let x = nil_at {n = 1} s.first in
    let body = empty_block l s.rest.middle in
    let c = counts t a b.room.agree forward in
    let late = b.late in
    let u1 = s.first.next in
    record {
      part = statement at k (stat.For name first x.part None body.part);
      derived = g.for_stat c.for c.name_there c.sign (carried b.room (local_expr d) (omega arith)) b.made.derived x.derived g.no_for_step s.rest.first body.derived s.rest.second;
      levels = λ level. within_as (for_entries level at k name first x.part None s.rest.first body.derived)
          (within_last (entered s.middle level (block_entries (level + 1) body.part)) (entered_later level (body.none (level + 1)) (omega arith))
          (within_last (expr_entries level x.part) (none_later (x.none level)) (within_low (expr_entries level first) (low_expr level first low) (b.made.levels level))));
    })
    (λ w l le agree n y d. let r = then_rest (known.only l (agree_less agree (omega arith)) n) d in record { left = n; part = r.part; is = subst (λ (q : ℕ). IsToken l q (Sign sign.Comma) r.part) to r.first })

pub count_limit : {toks : List Tok} {at name from place second left : ℕ} {first : Expr} {e : ParseErr} → IsToken toks at (Word word.For) name → IsAssigned toks name from → IsExpr toks 1 from place first → from ≤ place → (out-Expr first).to ≡ place → expr_levels first ≤ left
    → Known toks place (λ l n. p.ReadExpr l 1 n from) first → IsToken toks place (Sign sign.Comma) second → StopsExpr toks 1 left second e → StopsCount toks left at name from e
count_limit {at = at} {name = name} {first = first} t a d forward to low known u h =
    let v = u.next in
    stops_after (Word word.Do ∷ Word word.End ∷ []) refl (omega arith) h
    (λ kind w l m k le b.
    let s = two b.stand in
    let body = empty_block l s.middle in
    let c = counts t a b.room.agree (omega arith) in
    let late = b.late in
    record {
      part = statement at k (stat.For name first b.made.part None body.part);
      derived = g.for_stat c.for c.name_there c.sign (carried b.room (local_expr d) (omega arith)) (carried_token b.room u (omega arith)) b.made.derived g.no_for_step s.first body.derived s.second;
      levels = λ level. within_as (for_entries level at k name first b.made.part None s.first body.derived)
          (within_last (entered m level (block_entries (level + 1) body.part)) (entered_later level (body.none (level + 1)) late) (within_first (expr_entries level first) (low_expr level first low) (b.made.levels level)));
    })
    (λ w l le agree n y d.
    let r = then_rest (known.only l (agree_less agree (omega arith)) n) d in
    let z = then_rest (token_only (moved to (token_agrees agree (omega arith) u))) r in
    record { left = n; part = z.part; is = z.first })

pub count_step : {toks : List Tok} {at name from place second after left : ℕ} {first limit : Expr} {e : ParseErr} → IsToken toks at (Word word.For) name → IsAssigned toks name from → IsExpr toks 1 from place first → from ≤ place → (out-Expr first).to ≡ place → expr_levels first ≤ left
    → Known toks place (λ l n. p.ReadExpr l 1 n from) first → IsToken toks place (Sign sign.Comma) second → IsExpr toks 1 second after limit → second ≤ after → (out-Expr limit).to ≡ after → expr_levels limit ≤ left
    → Known toks after (λ l n. p.ReadExpr l 1 n second) limit → StopsForStep toks left after e → StopsCount toks left at name from e
count_step {at = at} {name = name} {after = after} {first = first} {limit = limit} t a d forward to low known u d2 further to2 low2 known2 h =
    let v = u.next in
    stops_after (Word word.Do ∷ Word word.End ∷ []) refl (omega arith) h
    (λ kind w l m k le b.
    let s = two b.stand in
    let body = empty_block l s.middle in
    let c = counts t a b.room.agree (omega arith) in
    let late = b.late in
    record {
      part = statement at k (stat.For name first limit b.made.part body.part);
      derived = g.for_stat c.for c.name_there c.sign (carried b.room (local_expr d) (omega arith)) (carried_token b.room u (omega arith)) (carried b.room (local_expr d2) (omega arith)) b.made.derived s.first body.derived s.second;
      levels = λ level. within_as (for_entries level at k name first limit b.made.part s.first body.derived)
          (within_first (expr_entries level first ++ expr_entries level limit) (low_append level _ (expr_entries level first) (expr_entries level limit) (low_expr level first low) (low_expr level limit low2))
          (within_last (entered m level (block_entries (level + 1) body.part)) (entered_later level (body.none (level + 1)) late) (b.made.levels level)));
    })
    (λ w l le agree n y d.
    let r = then_rest (known.only l (agree_less agree (omega arith)) n) d in
    let z = then_rest (token_only (moved to (token_agrees agree (omega arith) u))) r in
    let r2 = then_rest (known2.only l (agree_less agree (omega arith)) n) z in
    record { left = n; part = r2.part; is = subst (λ (q : ℕ). p.ReadForStep l n q r2.part) to2 r2.first })

-- the levels of what stands before the `do`
low_head : {left : ℕ} (level : ℕ) (first limit : Expr) → expr_levels first ≤ left → expr_levels limit ≤ left → Low level left (expr_entries level first ++ expr_entries level limit)
low_head level first limit low low2 = low_append level _ (expr_entries level first) (expr_entries level limit) (low_expr level first low) (low_expr level limit low2)

pub count_do : {toks : List Tok} {at name from place second after opener left : ℕ} {first limit : Expr} {step : Option Expr} → IsToken toks at (Word word.For) name → IsAssigned toks name from → IsExpr toks 1 from place first → from ≤ place → (out-Expr first).to ≡ place
    → expr_levels first ≤ left → Known toks place (λ l n. p.ReadExpr l 1 n from) first → IsToken toks place (Sign sign.Comma) second → IsExpr toks 1 second after limit → second ≤ after → (out-Expr limit).to ≡ after → expr_levels limit ≤ left
    → Known toks after (λ l n. p.ReadExpr l 1 n second) limit → IsForStep toks after opener step → after ≤ opener → if_there (option_map expr_levels step) ≤ left → Known toks opener (λ l n. p.ReadForStep l n after) (step, opener)
    → opener ≤ length toks → NotAt toks opener (Word word.Do) → StopsCount toks left at name from (error.Syntax opener)
count_do {toks} {at = at} {name = name} {place = place} {after = after} {opener = opener} {first = first} {limit = limit} {step = step} t a d forward to low known u d2 further to2 low2 known2 d3 last low3 known3 within other =
    let v = u.next in
    stops_wrong (Word word.Do ∷ Word word.End ∷ []) (omega arith) within (λ _ _. refl)
    (λ l k agree stand closes.
    let s = two stand in
    let body = empty_block l s.middle in
    let c = counts t a agree (omega arith) in
    let step_there = (local_for_step d3).at l agree (λ _ there. do_no_paren s.first there) in
    let limit_there = (local_expr d2).at l (agree_less agree last) (fits l s.middle agree s.first (cases_lt after opener)) in
    let first_there = (local_expr d).at l (agree_less agree (omega arith)) (λ closed there. closed (sym (agree.same place (omega arith)) ∙ there)) in
    record {
      part = statement at k (stat.For name first limit step body.part);
      derived = g.for_stat c.for c.name_there c.sign first_there (token_agrees agree (omega arith) u) limit_there step_there s.first body.derived s.second;
      levels = λ level. within_as (for_entries level at k name first limit step s.first body.derived)
          (within_first (expr_entries level first ++ expr_entries level limit) (low_head level first limit low low2)
          (within_first (step_entries level step) (low_step level step low3) (within_later (entered opener level (block_entries (level + 1) body.part)) (entered_later level (body.none (level + 1)) (omega arith)))));
    })
    (λ l agree n y d.
    let r = then_rest (known.only l (agree_less agree (omega arith)) n) d in
    let z = then_rest (token_only (moved to (token_agrees agree (omega arith) u))) r in
    let r2 = then_rest (known2.only l (agree_less agree (omega arith)) n) z in
    let r3 = then_rest (known3.only l agree n) (subst (λ (q : ℕ). StepForm l n at name first limit q y) to2 r2) in
    not_here opener agree other r3.first.there)
  where
    fits : (l : List Tok) (j : ℕ) → AgreeBefore toks l opener → IsToken l opener (Word word.Do) j → (after < opener) ⊎ (opener ≤ after) → NoParenFollows toks after → NoParenFollows l after
    fits l j agree v (inl less) closed there = closed (sym (agree.same after less) ∙ there)
    fits l j agree v (inr same) closed there = let e : opener ≡ after = omega arith in do_no_paren v (subst (λ (q : ℕ). At l q (Sign sign.LeftParen)) (sym e) there)

pub count_ended : {toks : List Tok} {at name from place second after opener inside left : ℕ} {first limit : Expr} {step : Option Expr} {e : ParseErr} → IsToken toks at (Word word.For) name → IsAssigned toks name from → IsExpr toks 1 from place first → from ≤ place
    → (out-Expr first).to ≡ place → expr_levels first ≤ left → Known toks place (λ l n. p.ReadExpr l 1 n from) first → IsToken toks place (Sign sign.Comma) second → IsExpr toks 1 second after limit → second ≤ after → (out-Expr limit).to ≡ after
    → expr_levels limit ≤ left → Known toks after (λ l n. p.ReadExpr l 1 n second) limit → IsForStep toks after opener step → after ≤ opener → if_there (option_map expr_levels step) ≤ left → Known toks opener (λ l n. p.ReadForStep l n after) (step, opener)
    → IsToken toks opener (Word word.Do) inside → StopsEnded toks left opener inside e → StopsCount toks left at name from e
count_ended {at = at} {name = name} {first = first} {limit = limit} {step = step} t a d forward to low known u d2 further to2 low2 known2 d3 last low3 known3 v h =
    let o = u.next in
    let q = v.next in
    stops_last (omega arith) h
    (λ kind w l k le b.
    let body = b.made.part.0 in
    let c = counts t a b.room.agree (omega arith) in
    let do_there = carried_token b.room v (omega arith) in
    record {
      part = statement at k (stat.For name first limit step body);
      derived = g.for_stat c.for c.name_there c.sign (carried b.room (local_expr d) (omega arith)) (carried_token b.room u (omega arith)) (carried b.room (local_expr d2) (omega arith)) (carried b.room (local_for_step d3) (omega arith)) do_there b.made.derived.0 b.made.derived.1;
      levels = λ level. within_as (for_entries level at k name first limit step do_there b.made.derived.0)
          (within_first (expr_entries level first ++ expr_entries level limit) (low_head level first limit low low2)
          (within_first (step_entries level step) (low_step level step low3) (b.made.levels level)));
    })
    (λ w l le agree n y d.
    let r = then_rest (known.only l (agree_less agree (omega arith)) n) d in
    let z = then_rest (token_only (moved to (token_agrees agree (omega arith) u))) r in
    let r2 = then_rest (known2.only l (agree_less agree (omega arith)) n) z in
    let r3 = then_rest (known3.only l (agree_less agree (omega arith)) n) (subst (λ (q : ℕ). StepForm l n at name first limit q y) to2 r2) in
    let r4 = then_rest (token_only (token_agrees agree (omega arith) v)) r3 in
    record { left = n; part = r4.part; is = r4.first })
