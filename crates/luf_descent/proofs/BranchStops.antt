-- Where an `if` stops, and what completes it.
use Rattle.std.proofs.Common.{◌≡◌, ℕ, ◌+◌, ◌≤◌, Option, Some, None, List, [], ◌∷◌, ◌++◌, length, map, refl, sym, ap, ◌∙◌, subst, arith, append-nil, append_assoc}
use Rattle.std.specs.Option.{option_map}
use Rattle.luf_lex.specs.declared.token.Tok.{Tok}
use Rattle.luf_lex.specs.declared.token.Tok.TheVariants.{Word, Sign}
use Rattle.luf_lex.specs.declared.token.Word.TheVariants as word
use Rattle.luf_lex.specs.declared.token.Sign.TheVariants as sign
use Rattle.luf_tree.specs.declared.tree.Block.{Block}
use Rattle.luf_tree.specs.declared.tree.StatKind.TheVariants as stat
use Rattle.luf_tree.specs.declared.tree.Arm.{Arm, roll-Arm}
use Rattle.luf_tree.specs.declared.tree.Expr.{Expr, out-Expr}
use Rattle.luf_tree.specs.Agree.{AgreeBefore}
use Rattle.luf_tree.specs.Level.{deepest, expr_levels, block_levels, arm_levels, block_if_there}
use Rattle.luf_tree.specs.Entry.{entered, entries_of_statement, entries_of_arm}
use Rattle.luf_tree.specs.Grammar as g
use Rattle.luf_tree.specs.Grammar.{At, statement, IsToken, IsExpr, IsBlock, AreArms, IsElse}
use Rattle.luf_tree.proofs.SyntaxEquations as eq
use Rattle.luf_descent.proofs.EntryOpeners.{block_opener}
use Rattle.luf_tree.proofs.Locality.{local_expr, local_arms, local_else}
use Rattle.luf_descent.specs.Follow.{NotAt}
use Rattle.luf_descent.specs.Parts as p
use Rattle.luf_descent.specs.PartEntries.{expr_entries, block_entries, arm_entries, arms_entries, else_entries}
use Rattle.luf_descent.specs.PartStops.{StopsToken, StopsExpr, StopsBlock, StopsStat, StopsArm, StopsArms, StopsElse}
use Rattle.luf_descent.specs.Stops.{Known}
use Rattle.luf_descent.specs.declared.error.ParseErr.{ParseErr}
use Rattle.luf_descent.specs.declared.error.ParseErr.TheVariants as error
use Rattle.luf_descent.proofs.Joining.{Joins}
use Rattle.luf_descent.proofs.Exactness.{then_rest, token_only, Ahead}
use Rattle.luf_descent.proofs.Ends.{moved}
use Rattle.luf_descent.proofs.StatForms.{arms_form, arm_form, else_form}
use Rattle.luf_descent.proofs.Completing.{agree_less, token_agrees, carried, carried_token, Room, within_first, within_last, within_entered, within_later, within_deep, within_as, within_spelled, within_low}
use Rattle.luf_descent.proofs.Frames.{stops_after, stops_last, stops_wrong, stops_deep, no_stand, one}
use Rattle.luf_descent.proofs.Low.{low_expr, low_arms, low_else}
use Rattle.luf_descent.proofs.ExprStops.{not_here, token_here, empty_block, none_later}
use Rattle.luf_descent.proofs.StatStops.{entered_later}

arms_joined : (level : ℕ) (found rest : List Arm) → arms_entries level (found ++ rest) ≡ arms_entries level found ++ arms_entries level rest
arms_joined level [] rest = refl
arms_joined level (x ∷ found) rest = ap (λ es. arm_entries level x ++ es) (arms_joined level found rest) ∙ sym (append_assoc (arm_entries level x) (arms_entries level found) (arms_entries level rest))

pub arms_item : {toks : List Tok} {from at left : ℕ} {e : ParseErr} (found : List Arm) → from ≤ at → ((l : List Tok) → Room toks l at → Joins (AreArms l) from at found) → deepest (map arm_levels found) ≤ left
    → ((l : List Tok) → AgreeBefore toks l (at + 1) → (n : ℕ) → Ahead (p.ReadArms l n from) found (p.ReadArms l n at)) → StopsArm toks left at e → StopsArms toks left from e
arms_item found forward joins low ahead h =
    stops_last forward h
    (λ kind w l k le b. record {
      part = found ++ b.made.part ∷ [];
      derived = joins l b.room k (b.made.part ∷ []) (g.one_arm b.made.derived);
      levels = λ level. within_as (arms_joined level found (b.made.part ∷ [])) (within_first (arms_entries level found) (low_arms level found low) (within_as (append-nil (arm_entries level b.made.part)) (b.made.levels level)));
    })
    (λ w l le agree n y d. let a = ahead l (agree_less agree (omega arith)) n y d in let f = arms_form a.0 a.1 in record { left = n; part = f.part; is = f.first })

pub arm_test : {toks : List Tok} {at left : ℕ} {e : ParseErr} → StopsExpr toks 1 left at e → StopsArm toks left at e
arm_test h =
    stops_after (Word word.Then ∷ []) refl (omega arith) h
    (λ kind w l m k le b.
    let t = one b.stand in
    let body = empty_block l k in
    let x = b.made.part in
    let late = b.late in
    record {
      part = roll-Arm (record { test = x; body = body.part });
      derived = g.arm b.made.derived t body.derived;
      levels = λ level. within_spelled (entries_of_arm level) (eq.arm_of_syntax x body.part) (within_spelled (λ q. expr_entries level x ++ entered q level (block_entries (level + 1) body.part)) (block_opener t body.derived)
          (within_last (entered m level (block_entries (level + 1) body.part)) (entered_later level (body.none (level + 1)) late) (b.made.levels level)));
    })
    (λ w l le agree n y d. let f = arm_form y d in record { left = n; part = f.part; is = f.first })

pub arm_then : {toks : List Tok} {at place left : ℕ} {x : Expr} → IsExpr toks 1 at place x → at ≤ place → (out-Expr x).to ≡ place → expr_levels x ≤ left → Known toks place (λ l n. p.ReadExpr l 1 n at) x → place ≤ length toks
    → NotAt toks place (Word word.Then) → StopsArm toks left at (error.Syntax place)
arm_then {toks} {place = place} {x = x} d forward to low known within none =
    stops_wrong (Word word.Then ∷ []) forward within (λ _ _. refl)
    (λ l k agree stand closes.
    let t = one stand in
    let body = empty_block l k in
    let d = (local_expr d).at l agree (λ _ there. let a = t.there in absurd (then_no_paren l a there)) in
    record {
      part = roll-Arm (record { test = x; body = body.part });
      derived = g.arm d t body.derived;
      levels = λ level. within_spelled (entries_of_arm level) (eq.arm_of_syntax x body.part) (within_spelled (λ q. expr_entries level x ++ entered q level (block_entries (level + 1) body.part)) (block_opener t body.derived)
          (within_first (expr_entries level x) (low_expr level x low) (within_later (entered place level (block_entries (level + 1) body.part)) (entered_later level (body.none (level + 1)) (omega arith)))));
    })
    (λ l agree n y d. let r = then_rest (known.only l agree n) (arm_form y d) in not_here place agree none (subst (λ (q : ℕ). At l q (Word word.Then)) to r.first.there))
  where
    then_no_paren : (l : List Tok) → At l place (Word word.Then) → At l place (Sign sign.LeftParen) → ⊥
    then_no_paren l a b = cc

pub arm_deep : {toks : List Tok} {at place inside left : ℕ} {x : Expr} → IsExpr toks 1 at place x → at ≤ place → expr_levels x ≤ left → IsToken toks place (Word word.Then) inside → inside ≤ length toks → left ≡ 0
    → StopsArm toks left at (error.TooDeep place)
arm_deep {at = at} {place = place} {x = x} d forward low t within none =
    let n = t.next in
    stops_deep [] (omega arith) (omega arith) (λ _ _. refl)
    (λ l k agree stand closes.
    let body = empty_block l (place + 1) in
    let same = no_stand stand in
    let u = token_here agree (omega arith) t in
    let d = (local_expr d).at l (agree_less agree (omega arith)) (λ none there. none (sym (agree.same place (omega arith)) ∙ there)) in
    record {
      part = roll-Arm (record { test = x; body = body.part });
      derived = g.arm d u (subst (λ (q : ℕ). IsBlock l (place + 1) q body.part) same body.derived);
      levels = λ level. within_spelled (entries_of_arm level) (eq.arm_of_syntax x body.part) (within_spelled (λ q. expr_entries level x ++ entered q level (block_entries (level + 1) body.part)) (block_opener u body.derived)
          (within_first (expr_entries level x) (low_expr level x low) (within_deep (block_entries (level + 1) body.part) none (none_later (body.none (level + 1))))));
    })

pub arm_block : {toks : List Tok} {at place inside left inner : ℕ} {x : Expr} {e : ParseErr} → IsExpr toks 1 at place x → at ≤ place → (out-Expr x).to ≡ place → expr_levels x ≤ left → Known toks place (λ l n. p.ReadExpr l 1 n at) x
    → IsToken toks place (Word word.Then) inside → left ≡ inner + 1 → StopsBlock toks inner inside e → StopsArm toks left at e
arm_block {at = at} {place = place} {x = x} d forward to low known t enter h =
    let n = t.next in
    stops_last (omega arith) h
    (λ kind w l k le b.
    let u = carried_token b.room t (omega arith) in
    let body = b.made.part in
    record {
      part = roll-Arm (record { test = x; body = body });
      derived = g.arm (carried b.room (local_expr d) (omega arith)) u b.made.derived;
      levels = λ level. within_spelled (entries_of_arm level) (eq.arm_of_syntax x body) (within_spelled (λ q. expr_entries level x ++ entered q level (block_entries (level + 1) body)) (block_opener u b.made.derived)
          (within_first (expr_entries level x) (low_expr level x low) (within_entered place enter (b.made.levels (level + 1)))));
    })
    (λ w l le agree n y d.
    let r = then_rest (known.only l (agree_less agree (omega arith)) n) (arm_form y d) in
    let z = then_rest (token_only (moved to (token_agrees agree (omega arith) t))) r in
    record { left = z.part; part = z.rest.part; is = z.rest.first })

pub else_deep : {toks : List Tok} {at inside left : ℕ} → IsToken toks at (Word word.Else) inside → inside ≤ length toks → left ≡ 0 → StopsElse toks left at (error.TooDeep at)
else_deep {at = at} t within none =
    let n = t.next in
    stops_deep [] (omega arith) (omega arith) (λ _ _. refl)
    (λ l k agree stand closes.
    let body = empty_block l (at + 1) in
    let u = token_here agree (omega arith) t in
    record {
      part = Some body.part;
      derived = g.an_else u (subst (λ (q : ℕ). IsBlock l (at + 1) q body.part) (no_stand stand) body.derived);
      levels = λ level. within_spelled (λ q. entered q level (block_entries (level + 1) body.part)) (block_opener u body.derived) (within_deep (block_entries (level + 1) body.part) none (none_later (body.none (level + 1))));
    })

pub else_block : {toks : List Tok} {at inside left inner : ℕ} {e : ParseErr} → IsToken toks at (Word word.Else) inside → left ≡ inner + 1 → StopsBlock toks inner inside e → StopsElse toks left at e
else_block {at = at} t enter h =
    let n = t.next in
    stops_last (omega arith) h
    (λ kind w l k le b.
    let u = carried_token b.room t (omega arith) in
    let body = b.made.part in
    record {
      part = Some body;
      derived = g.an_else u b.made.derived;
      levels = λ level. within_spelled (λ q. entered q level (block_entries (level + 1) body)) (block_opener u b.made.derived) (within_entered at enter (b.made.levels (level + 1)));
    })
    (λ w l le agree n y d. let f = else_form (token_agrees agree (omega arith) t) y d in record { left = f.part; part = f.rest.part; is = f.rest.first })

pub if_arms : {toks : List Tok} {at next left : ℕ} {e : ParseErr} → IsToken toks at (Word word.If) next → StopsArms toks left next e → StopsStat toks left at (λ l n. p.ReadIf l n at next) e
if_arms {at = at} t h =
    let n = t.next in
    stops_after (Word word.End ∷ []) refl (omega arith) h
    (λ kind w l m k le b. record {
      part = statement at k (stat.If b.made.part None);
      derived = g.if_stat (carried_token b.room t (omega arith)) b.made.derived g.no_else (one b.stand);
      levels = λ level. within_spelled (entries_of_statement level) (eq.if_syntax at k b.made.part None) (within_as (append-nil (arms_entries level b.made.part)) (b.made.levels level));
    })
    (λ w l le agree n y d. record { left = n; part = d.part; is = d.first })

pub if_else : {toks : List Tok} {at next place left : ℕ} {arms : List Arm} {e : ParseErr} → IsToken toks at (Word word.If) next → AreArms toks next place arms → next ≤ place → deepest (map arm_levels arms) ≤ left
    → Known toks place (λ l n. p.ReadArms l n next) (arms, place) → StopsElse toks left place e → StopsStat toks left at (λ l n. p.ReadIf l n at next) e
if_else {at = at} {arms = arms} t d forward low known h =
    let n = t.next in
    stops_after (Word word.End ∷ []) refl (omega arith) h
    (λ kind w l m k le b. record {
      part = statement at k (stat.If arms b.made.part);
      derived = g.if_stat (carried_token b.room t (omega arith)) (carried b.room (local_arms d) (omega arith)) b.made.derived (one b.stand);
      levels = λ level. within_spelled (entries_of_statement level) (eq.if_syntax at k arms b.made.part) (within_first (arms_entries level arms) (low_arms level arms low) (b.made.levels level));
    })
    (λ w l le agree n y d. let r = then_rest (known.only l (agree_less agree (omega arith)) n) d in record { left = n; part = r.part; is = r.first })

pub if_end : {toks : List Tok} {at next place close left : ℕ} {arms : List Arm} {last : Option Block} {e : ParseErr} → IsToken toks at (Word word.If) next → AreArms toks next place arms → next ≤ place → deepest (map arm_levels arms) ≤ left
    → Known toks place (λ l n. p.ReadArms l n next) (arms, place) → IsElse toks place close last → place ≤ close → block_if_there (option_map block_levels last) ≤ left → Known toks close (λ l n. p.ReadElse l n place) (last, close)
    → StopsToken toks left close (Word word.End) e → StopsStat toks left at (λ l n. p.ReadIf l n at next) e
if_end {at = at} {arms = arms} {last = last} t d forward low known x further small known2 h =
    let n = t.next in
    stops_last (omega arith) h
    (λ kind w l k le b. record {
      part = statement at k (stat.If arms last);
      derived = g.if_stat (carried_token b.room t (omega arith)) (carried b.room (local_arms d) (omega arith)) (carried b.room (local_else x) (omega arith)) b.made.derived;
      levels = λ level. within_spelled (entries_of_statement level) (eq.if_syntax at k arms last) (within_first (arms_entries level arms) (low_arms level arms low) (within_low (else_entries level last) (low_else level last small) (b.made.levels level)));
    })
    (λ w l le agree n y d.
    let r = then_rest (known.only l (agree_less agree (omega arith)) n) d in
    let z = then_rest (known2.only l (agree_less agree (omega arith)) n) r in
    record { left = n; part = z.part; is = z.first })
