-- Where a `for` stops, and what completes it.
use Rattle.std.proofs.Common.{◌≡◌, ℕ, ◌+◌, ◌<◌, ◌≤◌, ◌⊎◌, inl, inr, Some, List, [], ◌∷◌, ◌++◌, length, take, map, refl, sym, ap, ◌∙◌, subst, arith}
use Rattle.std.proofs.lemmas.Bool.{cases_lt}
use Rattle.std.proofs.lemmas.List.{length-take}
use Rattle.std.proofs.lemmas.Option.{slice_get_within}
use Rattle.luf_lex.specs.declared.token.Tok.{Tok}
use Rattle.luf_lex.specs.declared.token.Tok.TheVariants.{Name, Word, Sign}
use Rattle.luf_lex.specs.declared.token.Word.TheVariants as word
use Rattle.luf_lex.specs.declared.token.Sign.TheVariants as sign
use Rattle.luf_tree.specs.declared.tree.Stat.{Stat}
use Rattle.luf_tree.specs.declared.tree.StatKind.TheVariants as stat
use Rattle.luf_tree.specs.declared.tree.Expr.{Expr}
use Rattle.luf_tree.specs.Agree.{AgreeBefore}
use Rattle.luf_tree.specs.Level.{deepest, expr_levels}
use Rattle.luf_tree.specs.Entry.{entered, entries_of_statement}
use Rattle.luf_tree.specs.Grammar as g
use Rattle.luf_tree.specs.Grammar.{statement, AreNames, IsToken, AreExprs}
use Rattle.luf_tree.proofs.SyntaxEquations as eq
use Rattle.luf_tree.proofs.Alone.{cut_agrees}
use Rattle.luf_descent.proofs.EntryOpeners.{block_opener}
use Rattle.luf_tree.proofs.Locality.{local_names, local_exprs}
use Rattle.luf_descent.specs.Follow.{NotAt, IsAssigned, NotAssigned}
use Rattle.luf_descent.specs.Parts as p
use Rattle.luf_descent.specs.PartEntries.{exprs_entries, block_entries}
use Rattle.luf_descent.specs.PartStops.{StopsNames, StopsForStep, StopsToken, StopsExpr, StopsExprs, StopsStat, StopsEnded, StopsCount}
use Rattle.luf_descent.specs.Stops.{Known, wrong}
use Rattle.luf_descent.specs.declared.error.ParseErr.{ParseErr}
use Rattle.luf_descent.specs.declared.error.ParseErr.TheVariants as error
use Rattle.luf_descent.proofs.Exactness.{then_rest, token_only}
use Rattle.luf_descent.proofs.StatForms.{for_step_form}
use Rattle.luf_descent.proofs.Completing.{agree_less, token_agrees, carried, carried_token, within_first, within_last, within_later, within_as, within_spelled}
use Rattle.luf_descent.proofs.Frames.{stops_after, stops_last, stops_wrong, two, three, four}
use Rattle.luf_descent.proofs.Low.{low_exprs}
use Rattle.luf_descent.proofs.ExprStops.{not_here, nil_at, empty_block}
use Rattle.luf_descent.proofs.StatStops.{entered_later}

-- a list that agrees up to and with a wrong token at which names begin does not begin with a name
names_wrong : {toks : List Tok} {next left : ℕ} → StopsNames toks left next (error.Syntax next) → NotAt toks next Name
names_wrong {toks} {next} h here = h.nothing next refl (take (next + 1) toks) (cut_agrees toks (next + 1)) 0 (next ∷ [], next + 1) (record { is = g.one_name name; ends = none; level = omega arith })
  where
    name : IsToken (take (next + 1) toks) next Name (next + 1)
    name = record { there = (cut_agrees toks (next + 1)).same next (omega arith) ∙ here; next = refl }

    none : NotAt (take (next + 1) toks) (next + 1) (Sign sign.Comma)
    none there = let a = slice_get_within (take (next + 1) toks) (next + 1) (Sign sign.Comma) there in let b = length-take (next + 1) toks in omega arith

-- no name and `=` stand there
pub not_assigned : {toks l : List Tok} {next n : ℕ} → NotAssigned toks next → AgreeBefore toks l n → next + 1 < n → NotAssigned l next
not_assigned {toks} {l} {next} none agree low from a =
    let x = a.name.next in
    none from (record {
      after = a.after;
      name = record { there = sym (agree.same next (omega arith)) ∙ a.name.there; next = a.name.next };
      sign = record { there = sym (agree.same a.after (omega arith)) ∙ a.sign.there; next = a.sign.next };
    })

pub do_no_paren : {l : List Tok} {i j : ℕ} → IsToken l i (Word word.Do) j → NotAt l i (Sign sign.LeftParen)
do_no_paren t there = let a = t.there in absurd cc

-- what completes the names of a `for`
names_complete : {toks : List Tok} {at next left : ℕ} {e : ParseErr} → IsToken toks at (Word word.For) next → StopsNames toks left next e → StopsStat {B = Stat} toks left at (λ l n y. ⊥) e
names_complete {at = at} t h =
    let n = t.next in
    stops_after (Word word.In ∷ Word word.Nil ∷ Word word.Do ∷ Word word.End ∷ []) refl (omega arith) h
    (λ kind w l m k le b.
    let s = four b.stand in
    let x = nil_at {n = 1} s.rest.first in
    let body = empty_block l s.rest.rest.middle in
    let late = b.late in
    let u1 = s.first.next in
    let u2 = s.rest.first.next in
    record {
      part = statement at k (stat.ForIn b.made.part (x.part ∷ []) body.part);
      derived = g.for_in_stat (carried_token b.room t (omega arith)) b.made.derived s.first (g.one_expr x.derived) s.rest.rest.first body.derived s.rest.rest.second;
      levels = λ level. within_spelled (entries_of_statement level) (eq.for_in_syntax at k b.made.part (x.part ∷ []) body.part)
          (within_spelled (λ q. exprs_entries level (x.part ∷ []) ++ entered q level (block_entries (level + 1) body.part)) (block_opener s.rest.rest.first body.derived)
          (within_last (entered s.rest.middle level (block_entries (level + 1) body.part)) (entered_later level (body.none (level + 1)) (omega arith))
          (within_as (ap (λ es. es ++ []) (x.none level)) (b.made.levels level))));
    })
    (λ w l le agree n y d. absurd d)

pub for_names : {toks : List Tok} {at next left : ℕ} {e : ParseErr} → IsToken toks at (Word word.For) next → NotAssigned toks next → StopsNames toks left next e → StopsStat toks left at (λ l n. p.ReadFor l n at next) e
for_names {toks} {at} {next} {left} {e} t none h = record {
  completes = (names_complete t h).completes;
  nothing = λ w is l agree n y d.
      let low = (h.completes wrong w is).forward in
      let f = d.names (either w is l agree low (cases_lt next w)) in
      h.nothing w is l agree n f.part f.first;
}
  where
    either : (w : ℕ) → e ≡ error.Syntax w → (l : List Tok) → AgreeBefore toks l (w + 1) → next ≤ w → (next < w) ⊎ (w ≤ next) → NotAssigned l next
    either w is l agree le (inl low) from a = not_assigned none agree (omega arith) from a
    either w is l agree le (inr high) from a =
        let same : w ≡ next = omega arith in
        names_wrong (subst (λ (x : ParseErr). StopsNames toks left next x) (is ∙ ap error.Syntax same) h) (sym (agree.same next (omega arith)) ∙ a.name.there)

-- `for` with names, behind them
pub for_in : {toks : List Tok} {at next close left : ℕ} {names : List ℕ} {e : ParseErr} → IsToken toks at (Word word.For) next → NotAssigned toks next → AreNames toks next close names → next < close
    → Known toks close (λ l n. p.ReadNames l next) (names, close) → StopsToken toks left close (Word word.In) e → StopsStat toks left at (λ l n. p.ReadFor l n at next) e
for_in {at = at} {names = names} t none d forward known h =
    let n = t.next in
    stops_after (Word word.Nil ∷ Word word.Do ∷ Word word.End ∷ []) refl (omega arith) h
    (λ kind w l m k le b.
    let s = three b.stand in
    let x = nil_at {n = 1} s.first in
    let body = empty_block l s.rest.middle in
    let late = b.late in
    let u1 = s.first.next in
    record {
      part = statement at k (stat.ForIn names (x.part ∷ []) body.part);
      derived = g.for_in_stat (carried_token b.room t (omega arith)) (carried b.room (local_names d) (omega arith)) b.made.derived (g.one_expr x.derived) s.rest.first body.derived s.rest.second;
      levels = λ level. within_spelled (entries_of_statement level) (eq.for_in_syntax at k names (x.part ∷ []) body.part)
          (within_spelled (λ q. exprs_entries level (x.part ∷ []) ++ entered q level (block_entries (level + 1) body.part)) (block_opener s.rest.first body.derived)
          (within_last (entered s.middle level (block_entries (level + 1) body.part)) (entered_later level (body.none (level + 1)) (omega arith))
          (within_as (ap (λ es. es ++ []) (x.none level)) (b.made.levels level))));
    })
    (λ w l le agree n y d. let r = then_rest (known.only l (agree_less agree (omega arith)) n) (d.names (not_assigned none agree (omega arith))) in record { left = n; part = r.part; is = r.first })

pub for_values : {toks : List Tok} {at next close from left : ℕ} {names : List ℕ} {e : ParseErr} → IsToken toks at (Word word.For) next → NotAssigned toks next → AreNames toks next close names → next < close
    → Known toks close (λ l n. p.ReadNames l next) (names, close) → IsToken toks close (Word word.In) from → StopsExprs toks left from e → StopsStat toks left at (λ l n. p.ReadFor l n at next) e
for_values {at = at} {names = names} t none d forward known u h =
    let n = t.next in
    let o = u.next in
    stops_after (Word word.Do ∷ Word word.End ∷ []) refl (omega arith) h
    (λ kind w l m k le b.
    let s = two b.stand in
    let body = empty_block l s.middle in
    let late = b.late in
    let es = b.made.part in
    record {
      part = statement at k (stat.ForIn names es body.part);
      derived = g.for_in_stat (carried_token b.room t (omega arith)) (carried b.room (local_names d) (omega arith)) (carried_token b.room u (omega arith)) b.made.derived s.first body.derived s.second;
      levels = λ level. within_spelled (entries_of_statement level) (eq.for_in_syntax at k names es body.part)
          (within_spelled (λ q. exprs_entries level es ++ entered q level (block_entries (level + 1) body.part)) (block_opener s.first body.derived)
          (within_last (entered m level (block_entries (level + 1) body.part)) (entered_later level (body.none (level + 1)) late) (b.made.levels level)));
    })
    (λ w l le agree n y d.
    let r = then_rest (known.only l (agree_less agree (omega arith)) n) (d.names (not_assigned none agree (omega arith))) in
    let z = then_rest (token_only (token_agrees agree (omega arith) u)) r in
    record { left = n; part = z.part; is = z.first })

pub for_ended : {toks : List Tok} {at next close from place inside left : ℕ} {names : List ℕ} {es : List Expr} {e : ParseErr} → IsToken toks at (Word word.For) next → NotAssigned toks next → AreNames toks next close names → next < close
    → Known toks close (λ l n. p.ReadNames l next) (names, close) → IsToken toks close (Word word.In) from → AreExprs toks from place es → from ≤ place → deepest (map expr_levels es) ≤ left → Known toks place (λ l n. p.ReadExprs l n from) (es, place)
    → IsToken toks place (Word word.Do) inside → StopsEnded toks left place inside e → StopsStat toks left at (λ l n. p.ReadFor l n at next) e
for_ended {at = at} {names = names} {es = es} t none d forward known u values further low known2 v h =
    let n = t.next in
    let o = u.next in
    let q = v.next in
    stops_last (omega arith) h
    (λ kind w l k le b.
    let body = b.made.part.0 in
    let v = carried_token b.room v (omega arith) in
    record {
      part = statement at k (stat.ForIn names es body);
      derived = g.for_in_stat (carried_token b.room t (omega arith)) (carried b.room (local_names d) (omega arith)) (carried_token b.room u (omega arith)) (carried b.room (local_exprs values) (omega arith)) v b.made.derived.0 b.made.derived.1;
      levels = λ level. within_spelled (entries_of_statement level) (eq.for_in_syntax at k names es body)
          (within_spelled (λ q. exprs_entries level es ++ entered q level (block_entries (level + 1) body)) (block_opener v b.made.derived.0) (within_first (exprs_entries level es) (low_exprs level es low) (b.made.levels level)));
    })
    (λ w l le agree n y d.
    let r = then_rest (known.only l (agree_less agree (omega arith)) n) (d.names (not_assigned none agree (omega arith))) in
    let z = then_rest (token_only (token_agrees agree (omega arith) u)) r in
    let r2 = then_rest (known2.only l (agree_less agree (omega arith)) n) z in
    let z2 = then_rest (token_only (token_agrees agree (omega arith) v)) r2 in
    record { left = n; part = z2.part; is = z2.first })

-- where the `do` is missing
pub for_do : {toks : List Tok} {at next close from place left : ℕ} {names : List ℕ} {es : List Expr} → IsToken toks at (Word word.For) next → NotAssigned toks next → AreNames toks next close names → next < close
    → Known toks close (λ l n. p.ReadNames l next) (names, close) → IsToken toks close (Word word.In) from → AreExprs toks from place es → from ≤ place → deepest (map expr_levels es) ≤ left → Known toks place (λ l n. p.ReadExprs l n from) (es, place)
    → place ≤ length toks → NotAt toks place (Word word.Do) → StopsStat toks left at (λ l n. p.ReadFor l n at next) (error.Syntax place)
for_do {at = at} {close = close} {place = place} {names = names} {es = es} t none d forward known u values further low known2 within other =
    let n = t.next in
    let o = u.next in
    stops_wrong (Word word.Do ∷ Word word.End ∷ []) (omega arith) within (λ _ _. refl)
    (λ l k agree stand closes.
    let s = two stand in
    let body = empty_block l s.middle in
    let values = (local_exprs values).at l agree (λ _ there. do_no_paren s.first there) in
    let d = (local_names d).at l (agree_less agree (omega arith)) (λ closed there. closed (sym (agree.same close (omega arith)) ∙ there)) in
    record {
      part = statement at k (stat.ForIn names es body.part);
      derived = g.for_in_stat (token_agrees agree (omega arith) t) d (token_agrees agree (omega arith) u) values s.first body.derived s.second;
      levels = λ level. within_spelled (entries_of_statement level) (eq.for_in_syntax at k names es body.part)
          (within_spelled (λ q. exprs_entries level es ++ entered q level (block_entries (level + 1) body.part)) (block_opener s.first body.derived)
          (within_first (exprs_entries level es) (low_exprs level es low) (within_later (entered place level (block_entries (level + 1) body.part)) (entered_later level (body.none (level + 1)) (omega arith)))));
    })
    (λ l agree n y d.
    let r = then_rest (known.only l (agree_less agree (omega arith)) n) (d.names (not_assigned none agree (omega arith))) in
    let z = then_rest (token_only (token_agrees agree (omega arith) u)) r in
    let r2 = then_rest (known2.only l agree n) z in
    not_here place agree other r2.first.there)

-- a `for` with a count
pub for_count : {toks : List Tok} {at next from left : ℕ} {e : ParseErr} → IsToken toks at (Word word.For) next → IsAssigned toks next from → StopsCount toks left at next from e → StopsStat toks left at (λ l n. p.ReadFor l n at next) e
for_count {from = from} t a h =
    let n = t.next in
    let m = a.name.next in
    let o = a.sign.next in
    stops_last (omega arith) h (λ kind w l k le b. b.made)
    (λ w l le agree n y d. record { left = n; part = y; is = d.count from (record { after = a.after; name = token_agrees agree (omega arith) a.name; sign = token_agrees agree (omega arith) a.sign }) })

-- the step of a `for` with a count
pub step_value : {toks : List Tok} {at from left : ℕ} {e : ParseErr} → IsToken toks at (Sign sign.Comma) from → StopsExpr toks 1 left from e → StopsForStep toks left at e
step_value t h =
    let n = t.next in
    stops_last (omega arith) h
    (λ kind w l k le b. record { part = Some b.made.part; derived = g.a_for_step (carried_token b.room t (omega arith)) b.made.derived; levels = b.made.levels })
    (λ w l le agree n y d. let f = for_step_form (token_agrees agree (omega arith) t) y d in record { left = n; part = f.part; is = f.first })
