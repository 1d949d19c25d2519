-- Where lists of expressions, fields, suffixes and arguments stop, and what completes them.
use Rattle.std.proofs.Common.{◌≡◌, ℕ, ◌+◌, ◌≤◌, Bool, true, false, List, [], ◌∷◌, ◌++◌, length, map, refl, sym, ap, ◌∙◌, subst, arith, append-nil, append_assoc}
use Rattle.luf_lex.specs.declared.token.Tok.{Tok}
use Rattle.luf_lex.specs.declared.token.Tok.TheVariants.{Name, Word, Sign}
use Rattle.luf_lex.specs.declared.token.Word.TheVariants as word
use Rattle.luf_lex.specs.declared.token.Sign.TheVariants as sign
use Rattle.luf_tree.specs.declared.tree.Expr.{Expr, out-Expr}
use Rattle.luf_tree.specs.declared.tree.Field.{Field}
use Rattle.luf_tree.specs.declared.tree.Field.TheVariants as field
use Rattle.luf_tree.specs.declared.tree.Suffix.{Suffix}
use Rattle.luf_tree.specs.declared.tree.Suffix.TheVariants as suffix
use Rattle.luf_tree.specs.Agree.{AgreeBefore}
use Rattle.luf_tree.specs.Level.{deepest, expr_levels, field_levels, suffix_levels}
use Rattle.luf_tree.specs.Entry.{entered, entries_of_field, entries_of_suffix, entries_of_arguments}
use Rattle.luf_tree.specs.Grammar as g
use Rattle.luf_tree.specs.Grammar.{IsToken, IsExpr, AreSuffixes, AreExprs, AreFields}
use Rattle.luf_tree.proofs.SyntaxEquations as eq
use Rattle.luf_descent.proofs.EntryOpeners.{expr_opener}
use Rattle.luf_tree.proofs.Locality.{local_exprs, local_expr}
use Rattle.luf_descent.specs.Follow.{NotAt}
use Rattle.luf_descent.specs.Parts as p
use Rattle.luf_descent.specs.PartEntries.{expr_entries, exprs_entries, fields_entries, field_entries, suffixes_entries, suffix_entries}
use Rattle.luf_descent.specs.PartStops.{StopsToken, StopsExpr, StopsFields, StopsField, StopsExprs, StopsSuffixes, StopsSuffix, StopsArgs}
use Rattle.luf_descent.specs.Stops.{Known}
use Rattle.luf_descent.specs.declared.error.ParseErr.{ParseErr}
use Rattle.luf_descent.specs.declared.error.ParseErr.TheVariants as error
use Rattle.luf_descent.proofs.Joining.{Joins}
use Rattle.luf_descent.proofs.Exactness.{then_rest, token_only, Ahead}
use Rattle.luf_descent.proofs.ExprForms.{exprs_form, fields_form, named_form, dot_form, index_form, method_form, call_form, args_list, args_lone, SuffixesRead, suffixes_form}
use Rattle.luf_descent.proofs.Completing.{agree_less, token_agrees, carried, carried_token, Room, within_first, within_entered, within_later, within_deep, within_as, within_spelled, within_low}
use Rattle.luf_descent.proofs.Frames.{stops_after, stops_behind, stops_beside, stops_last, stops_map, stops_form, stops_wrong, stops_deep, one, two, three, four}
use Rattle.luf_descent.proofs.Low.{low_expr, low_exprs, low_fields, low_suffixes}
use Rattle.luf_descent.proofs.ExprStops.{not_here, token_here, nil_at, none_later}
use Rattle.luf_descent.proofs.BracketStops.{one_later}

-- ---- a list that is read part by part: what was read stands before what is left, in each list that agrees so far

exprs_joined : (level : ℕ) (found rest : List Expr) → exprs_entries level (found ++ rest) ≡ exprs_entries level found ++ exprs_entries level rest
exprs_joined level [] rest = refl
exprs_joined level (x ∷ found) rest = ap (λ es. expr_entries level x ++ es) (exprs_joined level found rest) ∙ sym (append_assoc (expr_entries level x) (exprs_entries level found) (exprs_entries level rest))

fields_joined : (level : ℕ) (found rest : List Field) → fields_entries level (found ++ rest) ≡ fields_entries level found ++ fields_entries level rest
fields_joined level [] rest = refl
fields_joined level (x ∷ found) rest = ap (λ es. field_entries level x ++ es) (fields_joined level found rest) ∙ sym (append_assoc (field_entries level x) (fields_entries level found) (fields_entries level rest))

suffixes_joined : (level : ℕ) (found rest : List Suffix) → suffixes_entries level (found ++ rest) ≡ suffixes_entries level found ++ suffixes_entries level rest
suffixes_joined level [] rest = refl
suffixes_joined level (x ∷ found) rest = ap (λ es. suffix_entries level x ++ es) (suffixes_joined level found rest) ∙ sym (append_assoc (suffix_entries level x) (suffixes_entries level found) (suffixes_entries level rest))

pub exprs_item : {toks : List Tok} {from at left : ℕ} {e : ParseErr} (found : List Expr) → from ≤ at → ((l : List Tok) → Room toks l at → Joins (AreExprs l) from at found) → deepest (map expr_levels found) ≤ left
    → ((l : List Tok) → AgreeBefore toks l (at + 1) → (n : ℕ) → Ahead (p.ReadExprs l n from) found (p.ReadExprs l n at)) → StopsExpr toks 1 left at e → StopsExprs toks left from e
exprs_item found forward joins low ahead h =
    stops_last forward h
    (λ kind w l k le b. record {
      part = found ++ b.made.part ∷ [];
      derived = joins l b.room k (b.made.part ∷ []) (g.one_expr b.made.derived);
      levels = λ level. within_as (exprs_joined level found (b.made.part ∷ [])) (within_first (exprs_entries level found) (low_exprs level found low) (within_as (append-nil (expr_entries level b.made.part)) (b.made.levels level)));
    })
    (λ w l le agree n y d. let a = ahead l (agree_less agree (omega arith)) n y d in let f = exprs_form a.0 a.1 in record { left = n; part = f.part; is = f.first })

pub fields_item : {toks : List Tok} {from at left : ℕ} {e : ParseErr} (found : List Field) → from ≤ at → ((l : List Tok) → Room toks l at → Joins (AreFields l) from at found) → deepest (map field_levels found) ≤ left
    → ((l : List Tok) → AgreeBefore toks l (at + 1) → (n : ℕ) → Ahead (p.ReadFields l n from) found (p.ReadFields l n at)) → NotAt toks at (Sign sign.RightBrace)
    → StopsField toks left at (λ l n. p.ReadField l n at) e → StopsFields toks left from e
fields_item {at = at} found forward joins low ahead other h =
    stops_last forward h
    (λ kind w l k le b. record {
      part = found ++ b.made.part ∷ [];
      derived = joins l b.room k (b.made.part ∷ []) (g.last_field b.made.derived);
      levels = λ level. within_as (fields_joined level found (b.made.part ∷ [])) (within_first (fields_entries level found) (low_fields level found low) (within_as (append-nil (field_entries level b.made.part)) (b.made.levels level)));
    })
    (λ w l le agree n y d. let a = ahead l (agree_less agree (omega arith)) n y d in let f = fields_form (not_here at (agree_less agree (omega arith)) other) a.0 a.1 in record { left = n; part = f.part; is = f.first })

-- ---- fields

pub named_value : {toks : List Tok} {at after from left : ℕ} {e : ParseErr} → IsToken toks at Name after → IsToken toks after (Sign sign.Assign) from → StopsExpr toks 1 left from e → StopsField toks left at (λ l n. p.ReadField l n at) e
named_value {at = at} t u h =
    let n = t.next in
    let o = u.next in
    stops_last (omega arith) h
    (λ kind w l k le b. record {
      part = field.Named at b.made.part;
      derived = g.named_field (carried_token b.room t (omega arith)) (carried_token b.room u (omega arith)) b.made.derived;
      levels = λ level. within_spelled (entries_of_field level) (eq.named_syntax at b.made.part) (b.made.levels level);
    })
    (λ w l le agree n y d. let f = named_form (token_agrees agree (omega arith) t) (token_agrees agree (omega arith) u) y d in record { left = n; part = f.part; is = f.first })

pub keyed_deep : {toks : List Tok} {at inside left : ℕ} → IsToken toks at (Sign sign.LeftBracket) inside → inside ≤ length toks → left ≡ 0 → StopsField toks left at (λ l n. p.ReadKeyed l n inside) (error.TooDeep at)
keyed_deep {at = at} t within none =
    let n = t.next in
    stops_deep (Word word.Nil ∷ Sign sign.RightBracket ∷ Sign sign.Assign ∷ Word word.Nil ∷ []) (omega arith) (omega arith) (λ _ _. refl)
    (λ l k agree stand closes.
    let s = four stand in
    let x = nil_at {n = 1} s.first in
    let y = nil_at {n = 1} s.rest.rest.second in
    let u = token_here agree (omega arith) t in
    record {
      part = field.Keyed x.part y.part;
      derived = g.keyed_field u x.derived s.rest.first s.rest.rest.first y.derived;
      levels = λ level. within_spelled (entries_of_field level) (eq.keyed_syntax x.part y.part) (within_spelled (λ q. entered q level (expr_entries (level + 1) x.part) ++ expr_entries level y.part) (expr_opener u x.derived)
          (within_as (ap (λ es. entered at level (expr_entries (level + 1) x.part) ++ es) (y.none level) ∙ append-nil (entered at level (expr_entries (level + 1) x.part)))
          (within_deep (expr_entries (level + 1) x.part) none (none_later (x.none (level + 1))))));
    })

pub keyed_key : {toks : List Tok} {at inside left inner : ℕ} {e : ParseErr} → IsToken toks at (Sign sign.LeftBracket) inside → left ≡ inner + 1 → StopsExpr toks 1 inner inside e → StopsField toks left at (λ l n. p.ReadKeyed l n inside) e
keyed_key {at = at} t enter h =
    let n = t.next in
    stops_after (Sign sign.RightBracket ∷ Sign sign.Assign ∷ Word word.Nil ∷ []) refl (omega arith) h
    (λ kind w l m k le b.
    let s = three b.stand in
    let y = nil_at {n = 1} s.rest.second in
    let u = carried_token b.room t (omega arith) in
    record {
      part = field.Keyed b.made.part y.part;
      derived = g.keyed_field u b.made.derived s.first s.rest.first y.derived;
      levels = λ level. within_spelled (entries_of_field level) (eq.keyed_syntax b.made.part y.part) (within_spelled (λ q. entered q level (expr_entries (level + 1) b.made.part) ++ expr_entries level y.part) (expr_opener u b.made.derived)
          (within_as (ap (λ es. entered at level (expr_entries (level + 1) b.made.part) ++ es) (y.none level) ∙ append-nil (entered at level (expr_entries (level + 1) b.made.part)))
          (within_entered at enter (b.made.levels (level + 1)))));
    })
    (λ w l le agree n y d. record { left = d.part; part = d.rest.part; is = d.rest.first })

-- ---- suffixes and arguments

pub suffixes_item : {toks : List Tok} {from at left : ℕ} {e : ParseErr} (found : List Suffix) → from ≤ at → ((l : List Tok) (calls : Bool) → AgreeBefore toks l at → Joins (AreSuffixes l calls) from at found) → deepest (map suffix_levels found) ≤ left
    → ((l : List Tok) → AgreeBefore toks l (at + 1) → (n : ℕ) → Ahead (SuffixesRead l n from) found (SuffixesRead l n at)) → StopsSuffix toks left at e → StopsSuffixes toks left from e
suffixes_item found forward joins low ahead h =
    stops_beside forward h
    (λ kind w l k le agree x. record {
      part = (x.part.0, found ++ x.part.1 ∷ []);
      derived = joins l x.part.0 agree k (x.part.1 ∷ []) (g.one_suffix x.derived);
      levels = λ level. within_as (suffixes_joined level found (x.part.1 ∷ [])) (within_first (suffixes_entries level found) (low_suffixes level found low) (within_as (append-nil (suffix_entries level x.part.1)) (x.levels level)));
    })
    (λ w l le agree n y d. let a = ahead l (agree_less agree (omega arith)) n (y.0, (y.1, y.2)) d in let f = suffixes_form a.0 a.1 in record { left = n; part = f.part; is = f.first })

pub dot_name : {toks : List Tok} {at name left : ℕ} {e : ParseErr} → IsToken toks at (Sign sign.Dot) name → StopsToken toks left name Name e → StopsSuffix toks left at e
dot_name {name = name} t h =
    let n = t.next in
    stops_last (omega arith) h
    (λ kind w l k le b. record { part = (false, suffix.Dot name); derived = g.dot_suffix (carried_token b.room t (omega arith)) b.made.derived; levels = λ level. within_as (ap (entries_of_suffix level) (eq.dot_syntax name)) (b.made.levels level) })
    (λ w l le agree n y d. let f = dot_form (token_agrees agree (omega arith) t) y d in record { left = n; part = f.part; is = f.first })

pub index_deep : {toks : List Tok} {at inside left : ℕ} → IsToken toks at (Sign sign.LeftBracket) inside → inside ≤ length toks → left ≡ 0 → StopsSuffix toks left at (error.TooDeep at)
index_deep {at = at} t within none =
    let n = t.next in
    stops_deep (Word word.Nil ∷ Sign sign.RightBracket ∷ []) (omega arith) (omega arith) (λ _ _. refl)
    (λ l k agree stand closes.
    let s = two stand in
    let x = nil_at {n = 1} s.first in
    let u = token_here agree (omega arith) t in
    record {
      part = (false, suffix.Index x.part);
      derived = g.index_suffix u x.derived s.second;
      levels = λ level. within_spelled (entries_of_suffix level) (eq.index_syntax x.part) (within_spelled (λ q. entered q level (expr_entries (level + 1) x.part)) (expr_opener u x.derived) (within_deep (expr_entries (level + 1) x.part) none (none_later (x.none (level + 1)))));
    })

pub index_key : {toks : List Tok} {at inside left inner : ℕ} {e : ParseErr} → IsToken toks at (Sign sign.LeftBracket) inside → left ≡ inner + 1 → StopsExpr toks 1 inner inside e → StopsSuffix toks left at e
index_key {at = at} t enter h =
    let n = t.next in
    stops_after (Sign sign.RightBracket ∷ []) refl (omega arith) h
    (λ kind w l m k le b.
    let u = carried_token b.room t (omega arith) in
    record {
      part = (false, suffix.Index b.made.part);
      derived = g.index_suffix u b.made.derived (one b.stand);
      levels = λ level. within_spelled (entries_of_suffix level) (eq.index_syntax b.made.part) (within_spelled (λ q. entered q level (expr_entries (level + 1) b.made.part)) (expr_opener u b.made.derived) (within_entered at enter (b.made.levels (level + 1))));
    })
    (λ w l le agree n y d. let f = index_form (token_agrees agree (omega arith) t) y d in record { left = f.part; part = f.rest.part; is = f.rest.first })

pub index_close : {toks : List Tok} {at inside close left inner : ℕ} {x : Expr} {e : ParseErr} → IsToken toks at (Sign sign.LeftBracket) inside → left ≡ inner + 1 → IsExpr toks 1 inside close x → inside ≤ close → (out-Expr x).to ≡ close
    → expr_levels x ≤ inner → Known toks close (λ l n. p.ReadExpr l 1 n inside) x → StopsToken toks inner close (Sign sign.RightBracket) e → StopsSuffix toks left at e
index_close {at = at} {close = close} {x = x} t enter d forward to low known h =
    let n = t.next in
    stops_last (omega arith) h
    (λ kind w l k le b.
    let u = carried_token b.room t (omega arith) in
    let d = carried b.room (local_expr d) (omega arith) in
    record {
      part = (false, suffix.Index x);
      derived = g.index_suffix u d b.made.derived;
      levels = λ level. within_spelled (entries_of_suffix level) (eq.index_syntax x) (within_spelled (λ q. entered q level (expr_entries (level + 1) x)) (expr_opener u d)
          (within_entered at enter (within_low (expr_entries (level + 1) x) (low_expr (level + 1) x low) (b.made.levels (level + 1)))));
    })
    (λ w l le agree n y d. let f = index_form (token_agrees agree (omega arith) t) y d in let r = then_rest (known.only l (agree_less agree (omega arith)) f.part) f.rest in
    record { left = f.part; part = r.part; is = subst (λ (q : ℕ). IsToken l q (Sign sign.RightBracket) r.part) to r.first })

-- where the name of a method is missing
pub method_name : {toks : List Tok} {at name left : ℕ} → IsToken toks at (Sign sign.Colon) name → name ≤ length toks → NotAt toks name Name → StopsSuffix toks left at (error.Syntax name)
method_name {at = at} {name = name} t within none =
    let n = t.next in
    stops_wrong (Name ∷ Sign sign.LeftParen ∷ Sign sign.RightParen ∷ []) (omega arith) within (λ _ same. absurd (omega arith))
    (λ l k agree stand closes.
    let s = three stand in
    let low = s.first.next in
    record {
      part = (true, suffix.Method name _);
      derived = g.method_suffix (token_agrees agree (omega arith) t) s.first (g.no_args s.rest.first s.rest.second);
      levels = λ level. within_spelled (entries_of_suffix level) (eq.method_syntax name _) (within_spelled (entries_of_arguments level) (eq.args_of_syntax s.middle k true []) (within_later (entered s.middle level []) (λ e c. let b = one_later level s.middle e c in omega arith)));
    })
    (λ l agree n y d. let f = method_form (token_agrees agree (omega arith) t) y d in not_here name agree none f.first.there)

pub method_args : {toks : List Tok} {at name after left : ℕ} {e : ParseErr} → IsToken toks at (Sign sign.Colon) name → IsToken toks name Name after → StopsArgs toks left after (λ l n. p.ReadArgs l n after) e → StopsSuffix toks left at e
method_args {name = name} t u h =
    let n = t.next in
    let o = u.next in
    stops_behind (omega arith) h
    (λ kind w l k le agree x. record {
      part = (true, suffix.Method name x.part);
      derived = g.method_suffix (token_agrees agree (omega arith) t) (token_agrees agree (omega arith) u) x.derived;
      levels = λ level. within_spelled (entries_of_suffix level) (eq.method_syntax name x.part) (x.levels level);
    })
    (λ w l le agree n y d. let f = then_rest (token_only (token_agrees agree (omega arith) u)) (method_form (token_agrees agree (omega arith) t) y d) in record { left = n; part = f.part; is = f.first })

pub call_args : {toks : List Tok} {at left : ℕ} {e : ParseErr} → NotAt toks at (Sign sign.Dot) → NotAt toks at (Sign sign.LeftBracket) → NotAt toks at (Sign sign.Colon) → StopsArgs toks left at (λ l n. p.ReadArgs l n at) e → StopsSuffix toks left at e
call_args {at = at} dot bracket colon h =
    stops_map h
    (λ kind w l k le closes x. record { part = (true, suffix.Call x.part); derived = g.call_suffix x.derived; levels = λ level. within_spelled (entries_of_suffix level) (eq.call_suffix_syntax x.part) (x.levels level) })
    (λ w l le agree n y d.
    let less = agree_less agree (omega arith) in
    let f = call_form (not_here at less dot) (not_here at less bracket) (not_here at less colon) y d in record { left = n; part = f.part; is = f.first })

pub list_deep : {toks : List Tok} {at inside left : ℕ} → IsToken toks at (Sign sign.LeftParen) inside → inside ≤ length toks → left ≡ 0 → StopsArgs toks left at (λ l n. p.ReadListArgs l n at inside) (error.TooDeep at)
list_deep {at = at} t within none =
    let n = t.next in
    stops_deep (Sign sign.RightParen ∷ []) (omega arith) (omega arith) (λ _ _. refl)
    (λ l k agree stand closes. record {
      part = _;
      derived = g.no_args (token_here agree (omega arith) t) (one stand);
      levels = λ level. within_spelled (entries_of_arguments level) (eq.args_of_syntax at k true []) (within_deep [] none (none_later refl));
    })

pub list_exprs : {toks : List Tok} {at inside left inner : ℕ} {e : ParseErr} → IsToken toks at (Sign sign.LeftParen) inside → NotAt toks inside (Sign sign.RightParen) → left ≡ inner + 1 → StopsExprs toks inner inside e
    → StopsArgs toks left at (λ l n. p.ReadListArgs l n at inside) e
list_exprs {at = at} {inside = inside} t other enter h =
    let n = t.next in
    stops_after (Sign sign.RightParen ∷ []) refl (omega arith) h
    (λ kind w l m k le b. record {
      part = _;
      derived = g.list_args (carried_token b.room t (omega arith)) b.made.derived (one b.stand);
      levels = λ level. within_spelled (entries_of_arguments level) (eq.args_of_syntax at k true b.made.part) (within_entered at enter (b.made.levels (level + 1)));
    })
    (λ w l le agree n y d. let f = d.rest.list (not_here inside (agree_less agree (omega arith)) other) in record { left = d.part; part = f.part; is = f.first })

pub list_close : {toks : List Tok} {at inside close left inner : ℕ} {es : List Expr} {e : ParseErr} → IsToken toks at (Sign sign.LeftParen) inside → NotAt toks inside (Sign sign.RightParen) → left ≡ inner + 1 → AreExprs toks inside close es → inside ≤ close
    → deepest (map expr_levels es) ≤ inner → Known toks close (λ l n. p.ReadExprs l n inside) (es, close) → StopsToken toks inner close (Sign sign.RightParen) e → StopsArgs toks left at (λ l n. p.ReadListArgs l n at inside) e
list_close {at = at} {inside = inside} {es = es} t other enter d forward low known h =
    let n = t.next in
    stops_last (omega arith) h
    (λ kind w l k le b. record {
      part = _;
      derived = g.list_args (carried_token b.room t (omega arith)) (carried b.room (local_exprs d) (omega arith)) b.made.derived;
      levels = λ level. within_spelled (entries_of_arguments level) (eq.args_of_syntax at k true es) (within_entered at enter (within_low (exprs_entries (level + 1) es) (low_exprs (level + 1) es low) (b.made.levels (level + 1))));
    })
    (λ w l le agree n y d. let f = d.rest.list (not_here inside (agree_less agree (omega arith)) other) in let r = then_rest (known.only l (agree_less agree (omega arith)) d.part) f in record { left = d.part; part = r.part; is = r.first })

pub args_listed : {toks : List Tok} {at inside left : ℕ} {e : ParseErr} → IsToken toks at (Sign sign.LeftParen) inside → StopsArgs toks left at (λ l n. p.ReadListArgs l n at inside) e → StopsArgs toks left at (λ l n. p.ReadArgs l n at) e
args_listed {at = at} t h = stops_form h (λ w l le agree n y d. record { left = n; part = y; is = args_list (token_agrees agree (omega arith) t) y d })

pub args_single : {toks : List Tok} {at left : ℕ} {e : ParseErr} → NotAt toks at (Sign sign.LeftParen) → StopsArgs toks left at (λ l n. p.ReadLoneArg l n at) e → StopsArgs toks left at (λ l n. p.ReadArgs l n at) e
args_single {at = at} other h = stops_form h (λ w l le agree n y d. let f = args_lone (not_here at (agree_less agree (omega arith)) other) y d in record { left = n; part = f.part; is = f.first })
