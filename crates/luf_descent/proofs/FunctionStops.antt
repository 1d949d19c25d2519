-- Where functions and `local` stop as statements, and what completes them.
use Rattle.std.proofs.Common.{◌≡◌, ℕ, ◌+◌, ◌≤◌, inl, inr, Option, Some, None, List, [], ◌∷◌, ◌++◌, length, refl, sym, ap, subst, arith}
use Rattle.luf_lex.specs.declared.token.Tok.{Tok}
use Rattle.luf_lex.specs.declared.token.Tok.TheVariants.{Name, Word, Sign}
use Rattle.luf_lex.specs.declared.token.Word.TheVariants as word
use Rattle.luf_lex.specs.declared.token.Sign.TheVariants as sign
use Rattle.luf_tree.specs.declared.tree.Stat.{Stat}
use Rattle.luf_tree.specs.declared.tree.StatKind.TheVariants as stat
use Rattle.luf_tree.specs.declared.tree.Declared.{Declared}
use Rattle.luf_tree.specs.Agree.{AgreeBefore}
use Rattle.luf_tree.specs.Entry.{entered, entries_of_statement}
use Rattle.luf_tree.specs.Grammar as g
use Rattle.luf_tree.specs.Grammar.{At, statement, AreDeclared, IsPath, IsMethod, IsToken}
use Rattle.luf_tree.proofs.SyntaxEquations as eq
use Rattle.luf_tree.proofs.Locality.{local_path, local_declared}
use Rattle.luf_descent.specs.Follow.{NotAt}
use Rattle.luf_descent.specs.Parts as p
use Rattle.luf_descent.specs.PartEntries.{body_entries}
use Rattle.luf_descent.specs.PartStops.{StopsFuncBody, StopsDeclared, StopsExprs, StopsStat, StopsPath, StopsMethod}
use Rattle.luf_descent.specs.Stops.{Known, Missing, NameMissing}
use Rattle.luf_descent.specs.declared.error.ParseErr.{ParseErr}
use Rattle.luf_descent.specs.declared.error.ParseErr.TheVariants as error
use Rattle.luf_descent.proofs.Exactness.{then_rest, token_only, Ahead}
use Rattle.luf_descent.proofs.Joining.{Joins}
use Rattle.luf_descent.proofs.NameForms.{same_end, path_form}
use Rattle.luf_descent.proofs.Knowing.{memory_stops, here_stops}
use Rattle.luf_descent.proofs.Completing.{agree_less, token_agrees, carried, carried_token, within_entered, within_none, within_deep, within_as, within_spelled}
use Rattle.luf_descent.proofs.Frames.{stops_behind, stops_last, stops_wrong, stops_deep, four}
use Rattle.luf_descent.proofs.ExprStops.{not_here, token_here, empty_body, none_later}

-- what is derived of names has no part in what stands behind it

pub path_agrees : {toks l : List Tok} {i j : ℕ} {path : List ℕ} → IsPath toks i j path → AgreeBefore toks l j → IsPath l i j path
path_agrees (g.path_end t) agree = let a = t.next in g.path_end (token_agrees agree (omega arith) t)
path_agrees (g.path_more t u d) agree = let a = t.next in let b = u.next in let c = (local_path d).forward in g.path_more (token_agrees agree (omega arith) t) (token_agrees agree (omega arith) u) (path_agrees d agree)

pub method_agrees : {toks l : List Tok} {i j : ℕ} {method : Option ℕ} → IsMethod toks i j method → AgreeBefore toks l j → IsMethod l i j method
method_agrees g.no_method agree = g.no_method
method_agrees (g.a_method t n) agree = let a = t.next in let b = n.next in g.a_method (token_agrees agree (omega arith) t) (token_agrees agree (omega arith) n)

pub function_stat_deep : {toks : List Tok} {at next left : ℕ} → IsToken toks at (Word word.Function) next → next ≤ length toks → left ≡ 0 → StopsStat toks left at (λ l n. p.ReadFunctionStat l n at next) (error.TooDeep at)
function_stat_deep {at = at} t within none =
    let n = t.next in
    stops_deep (Name ∷ Sign sign.LeftParen ∷ Sign sign.RightParen ∷ Word word.End ∷ []) (omega arith) (omega arith) (λ _ _. refl)
    (λ l k agree stand closes. let s = four stand in let x = empty_body s.rest in record {
      part = statement at k (stat.Function ((at + 1) ∷ []) None x.part);
      derived = g.function_stat (token_here agree (omega arith) t) (g.path_end s.first) g.no_method x.derived;
      levels = λ level. within_spelled (entries_of_statement level) (eq.function_stat_syntax at k ((at + 1) ∷ []) None x.part) (within_deep (body_entries (level + 1) x.part) none (none_later (x.none (level + 1))));
    })

-- the next name of the path, or the name of the method, is missing: `begun` says of what was read that a name completes it
pub function_stat_name : {toks : List Tok} {at next place left : ℕ} (inner : ℕ) → IsToken toks at (Word word.Function) next → left ≡ inner + 1 → next ≤ place → place ≤ length toks
    → ((l : List Tok) (k : ℕ) → AgreeBefore toks l place → IsToken l place Name k → (path : List ℕ) × (method : Option ℕ) × (middle : ℕ) × IsPath l next middle path × IsMethod l middle k method)
    → ((l : List Tok) → AgreeBefore toks l (place + 1) → (n : ℕ) (y : Stat) → p.ReadFunctionStat l n at next y → ⊥) → StopsStat toks left at (λ l n. p.ReadFunctionStat l n at next) (error.Syntax place)
function_stat_name {at = at} inner t enter forward within begun nothing =
    let n = t.next in
    stops_wrong (Name ∷ Sign sign.LeftParen ∷ Sign sign.RightParen ∷ Word word.End ∷ []) (omega arith) within (λ _ same. absurd (omega arith))
    (λ l k agree stand closes. let s = four stand in let x = empty_body s.rest in let b = begun l s.middle agree s.first in record {
      part = statement at k (stat.Function b.0 b.1 x.part);
      derived = g.function_stat (token_agrees agree (omega arith) t) b.3 b.4 x.derived;
      levels = λ level. within_spelled (entries_of_statement level) (eq.function_stat_syntax at k b.0 b.1 x.part) (within_entered at enter (within_as (x.none (level + 1)) within_none));
    })
    nothing

-- the next name of a path, and the name of a method
pub path_item : {toks : List Tok} {from at : ℕ} {e : ParseErr} (found : List ℕ) → from ≤ at → at ≤ length toks → ((l : List Tok) → AgreeBefore toks l at → Joins (IsPath l) from at found)
    → ((l : List Tok) → AgreeBefore toks l (at + 1) → Ahead (p.ReadPath l from) found (p.ReadPath l at)) → Missing toks at Name e → NameMissing toks from (λ l k x. IsPath l from k x) (λ l. p.ReadPath l from) e
path_item {at = at} found forward within joins ahead h = record {
  place = at;
  is = h.is;
  forward = forward;
  within = within;
  begun = λ l k agree name. (found ++ at ∷ [], joins l agree k (at ∷ []) (g.path_end name));
  nothing = λ l agree y d. let a = ahead l (agree_less agree (omega arith)) y d in let f = path_form a.0 a.1 in not_here at agree h.other f.first.there;
}

method_named : {l : List Tok} {i name j : ℕ} {method : Option ℕ} → IsToken l i (Sign sign.Colon) name → IsMethod l i j method → At l j (Sign sign.LeftParen) → At l name Name
method_named {name = name} t g.no_method paren = let a = t.there in absurd cc
method_named {l} {name = name} t (g.a_method u n) paren = subst (λ (q : ℕ). At l q Name) (same_end u t) n.there

pub method_item : {toks : List Tok} {at name : ℕ} {e : ParseErr} → IsToken toks at (Sign sign.Colon) name → name ≤ length toks → Missing toks name Name e → NameMissing toks at (λ l k x. IsMethod l at k x) (λ l. p.ReadMethod l at) e
method_item {name = name} t within h =
    let n = t.next in
    record {
      place = name;
      is = h.is;
      forward = omega arith;
      within = within;
      begun = λ l k agree u. (Some name, g.a_method (token_agrees agree (omega arith) t) u);
      nothing = λ l agree y d. not_here name agree h.other (method_named (token_agrees agree (omega arith) t) d.is d.ends);
    }

pub function_stat_path : {toks : List Tok} {at next left : ℕ} {e : ParseErr} (inner : ℕ) → IsToken toks at (Word word.Function) next → left ≡ inner + 1 → StopsPath toks next e → StopsStat toks left at (λ l n. p.ReadFunctionStat l n at next) e
function_stat_path inner t enter (inl none) = memory_stops none
function_stat_path inner t enter (inr h) =
    here_stops h.is (function_stat_name inner t enter h.forward h.within (λ l k agree name. let b = h.begun l k agree name in (b.0, None, k, b.1, g.no_method)) (λ l agree n y d. h.nothing l agree d.rest.part d.rest.first))

pub function_stat_method : {toks : List Tok} {at next dot left : ℕ} {path : List ℕ} {e : ParseErr} (inner : ℕ) → IsToken toks at (Word word.Function) next → left ≡ inner + 1 → IsPath toks next dot path → next ≤ dot
    → Known toks dot (λ l n. p.ReadPath l next) (path, dot) → StopsMethod toks dot e → StopsStat toks left at (λ l n. p.ReadFunctionStat l n at next) e
function_stat_method inner t enter d forward known (inl none) = memory_stops none
function_stat_method {dot = dot} {path = path} inner t enter d forward known (inr h) =
    let further = h.forward in
    here_stops h.is (function_stat_name inner t enter (omega arith) h.within
    (λ l k agree name. let b = h.begun l k agree name in (path, b.0, dot, path_agrees d (agree_less agree further), b.1))
    (λ l agree n y d. let r = then_rest (known.only l (agree_less agree (omega arith)) n) d.rest in h.nothing l agree r.part r.first))

pub function_stat_body : {toks : List Tok} {at next dot inside left inner : ℕ} {path : List ℕ} {method : Option ℕ} {e : ParseErr} → IsToken toks at (Word word.Function) next → left ≡ inner + 1 → IsPath toks next dot path → next ≤ dot
    → Known toks dot (λ l n. p.ReadPath l next) (path, dot) → IsMethod toks dot inside method → dot ≤ inside → Known toks inside (λ l n. p.ReadMethod l dot) (method, inside) → StopsFuncBody toks inner inside e
    → StopsStat toks left at (λ l n. p.ReadFunctionStat l n at next) e
function_stat_body {at = at} {path = path} {method = method} t enter d forward known m further known2 h =
    let n = t.next in
    stops_behind (omega arith) h
    (λ kind w l k le agree x. record {
      part = statement at k (stat.Function path method x.part);
      derived = g.function_stat (token_agrees agree (omega arith) t) (path_agrees d (agree_less agree further)) (method_agrees m agree) x.derived;
      levels = λ level. within_spelled (entries_of_statement level) (eq.function_stat_syntax at k path method x.part) (within_entered at enter (x.levels (level + 1)));
    })
    (λ w l le agree n y d.
    let r = then_rest (known.only l (agree_less agree (omega arith)) n) d.rest in
    let z = then_rest (known2.only l (agree_less agree (omega arith)) n) r in
    record { left = d.part; part = z.part; is = z.first })

-- ---- `local function`

pub local_function_deep : {toks : List Tok} {at next name left : ℕ} → IsToken toks at (Word word.Local) next → IsToken toks next (Word word.Function) name → name ≤ length toks → left ≡ 0
    → StopsStat toks left at (λ l n. p.ReadLocal l n at next) (error.TooDeep next)
local_function_deep {at = at} {next = next} t u within none =
    let n = t.next in
    let o = u.next in
    stops_deep (Name ∷ Sign sign.LeftParen ∷ Sign sign.RightParen ∷ Word word.End ∷ []) (omega arith) (omega arith) (λ _ _. refl)
    (λ l k agree stand closes. let s = four stand in let x = empty_body s.rest in record {
      part = statement at k (stat.LocalFunction (next + 1) x.part);
      derived = g.local_function_stat (token_agrees agree (omega arith) t) (token_here agree (omega arith) u) s.first x.derived;
      levels = λ level. within_spelled (entries_of_statement level) (eq.local_function_syntax at k (next + 1) x.part)
          (within_spelled (λ q. entered q level (body_entries (level + 1) x.part)) (sym n) (within_deep (body_entries (level + 1) x.part) none (none_later (x.none (level + 1)))));
    })

pub local_function_name : {toks : List Tok} {at next name left : ℕ} (inner : ℕ) → IsToken toks at (Word word.Local) next → IsToken toks next (Word word.Function) name → left ≡ inner + 1 → name ≤ length toks → NotAt toks name Name
    → StopsStat toks left at (λ l n. p.ReadLocal l n at next) (error.Syntax name)
local_function_name {at = at} {next = next} {name = name} inner t u enter within none =
    let n = t.next in
    let o = u.next in
    stops_wrong (Name ∷ Sign sign.LeftParen ∷ Sign sign.RightParen ∷ Word word.End ∷ []) (omega arith) within (λ _ same. absurd (omega arith))
    (λ l k agree stand closes. let s = four stand in let x = empty_body s.rest in record {
      part = statement at k (stat.LocalFunction name x.part);
      derived = g.local_function_stat (token_agrees agree (omega arith) t) (token_agrees agree (omega arith) u) s.first x.derived;
      levels = λ level. within_spelled (entries_of_statement level) (eq.local_function_syntax at k name x.part)
          (within_spelled (λ q. entered q level (body_entries (level + 1) x.part)) (sym n) (within_entered next enter (within_as (x.none (level + 1)) within_none)));
    })
    (λ l agree n y d. let f = d.function name (token_agrees agree (omega arith) u) in not_here name agree none f.rest.first.there)

pub local_function_body : {toks : List Tok} {at next name inside left inner : ℕ} {e : ParseErr} → IsToken toks at (Word word.Local) next → IsToken toks next (Word word.Function) name → left ≡ inner + 1 → IsToken toks name Name inside
    → StopsFuncBody toks inner inside e → StopsStat toks left at (λ l n. p.ReadLocal l n at next) e
local_function_body {at = at} {next = next} {name = name} t u enter v h =
    let n = t.next in
    let o = u.next in
    let q = v.next in
    stops_behind (omega arith) h
    (λ kind w l k le agree x. record {
      part = statement at k (stat.LocalFunction name x.part);
      derived = g.local_function_stat (token_agrees agree (omega arith) t) (token_agrees agree (omega arith) u) (token_agrees agree (omega arith) v) x.derived;
      levels = λ level. within_spelled (entries_of_statement level) (eq.local_function_syntax at k name x.part)
          (within_spelled (λ q. entered q level (body_entries (level + 1) x.part)) (sym n) (within_entered next enter (x.levels (level + 1))));
    })
    (λ w l le agree n y d.
    let f = d.function name (token_agrees agree (omega arith) u) in
    let r = then_rest (token_only (token_agrees agree (omega arith) v)) f.rest in
    record { left = f.part; part = r.part; is = r.first })

-- ---- `local` with names

pub local_names_stop : {toks : List Tok} {at next left : ℕ} {e : ParseErr} → IsToken toks at (Word word.Local) next → NotAt toks next (Word word.Function) → StopsDeclared toks left next e → StopsStat toks left at (λ l n. p.ReadLocal l n at next) e
local_names_stop {at = at} {next = next} t other h =
    let n = t.next in
    stops_last (omega arith) h
    (λ kind w l k le b. record {
      part = statement at k (stat.Local b.made.part []);
      derived = g.local_stat (carried_token b.room t (omega arith)) b.made.derived;
      levels = λ level. within_as (ap (entries_of_statement level) (eq.local_syntax at k b.made.part [])) (b.made.levels level);
    })
    (λ w l le agree n y d. let f = d.named (not_here next (agree_less agree (omega arith)) other) in record { left = n; part = f.part; is = f.first })

pub local_values_stop : {toks : List Tok} {at next place from left : ℕ} {names : List Declared} {e : ParseErr} → IsToken toks at (Word word.Local) next → NotAt toks next (Word word.Function) → AreDeclared toks next place names → next ≤ place
    → Known toks place (λ l n. p.ReadDeclared l next) (names, place) → IsToken toks place (Sign sign.Assign) from → StopsExprs toks left from e → StopsStat toks left at (λ l n. p.ReadLocal l n at next) e
local_values_stop {at = at} {next = next} {from = from} {names = names} t other d forward known u h =
    let n = t.next in
    let o = u.next in
    stops_last (omega arith) h
    (λ kind w l k le b. record {
      part = statement at k (stat.Local names b.made.part);
      derived = g.local_values_stat (carried_token b.room t (omega arith)) (carried b.room (local_declared d) (omega arith)) (carried_token b.room u (omega arith)) b.made.derived;
      levels = λ level. within_spelled (entries_of_statement level) (eq.local_syntax at k names b.made.part) (b.made.levels level);
    })
    (λ w l le agree n y d.
    let f = d.named (not_here next (agree_less agree (omega arith)) other) in
    let r = then_rest (known.only l (agree_less agree (omega arith)) n) f in
    let z = r.values from (token_agrees agree (omega arith) u) in
    record { left = n; part = z.part; is = z.first })
