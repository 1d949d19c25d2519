-- Where a block stops, and what completes it.
use Rattle.std.proofs.Common.{◌≡◌, ℕ, ◌+◌, ◌≤◌, true, false, List, [], ◌∷◌, ◌++◌, length, slice_get, map, refl, sym, ap, ◌∙◌, arith, append-nil, append_assoc}
use Rattle.luf_lex.specs.declared.token.Tok.{Tok}
use Rattle.luf_lex.specs.declared.token.Tok.TheVariants.{Name, Word, Sign}
use Rattle.luf_lex.specs.declared.token.Word.{Word as Keyword}
use Rattle.luf_lex.specs.declared.token.Word.TheVariants as word
use Rattle.luf_lex.specs.declared.token.Sign.TheVariants as sign
use Rattle.luf_tree.specs.declared.tree.Block.{roll-Block}
use Rattle.luf_tree.specs.declared.tree.Stat.{Stat}
use Rattle.luf_tree.specs.declared.tree.StatKind.TheVariants as stat
use Rattle.luf_tree.specs.Agree.{AgreeBefore}
use Rattle.luf_tree.specs.Level.{deepest, stat_levels}
use Rattle.luf_tree.specs.Entry.{entries_of_statement, entries_of_block}
use Rattle.luf_tree.specs.Grammar as g
use Rattle.luf_tree.specs.Grammar.{At, statement, IsToken, AreStats}
use Rattle.luf_tree.proofs.SyntaxEquations as eq
use Rattle.luf_descent.specs.Follow.{NotAt, stops_stats, ends_return, begins_prefix}
use Rattle.luf_descent.specs.Parts as p
use Rattle.luf_descent.specs.PartEntries.{block_entries, stat_entries, stats_entries}
use Rattle.luf_descent.specs.PartStops.{StopsToken, StopsExprs, StopsBlock, StopsReturn, StopsStat}
use Rattle.luf_descent.specs.declared.error.ParseErr.{ParseErr}
use Rattle.luf_descent.specs.declared.error.ParseErr.TheVariants as error
use Rattle.luf_descent.proofs.Joining.{Joins}
use Rattle.luf_descent.proofs.Exactness.{then_rest, token_only, Ahead}
use Rattle.luf_descent.proofs.StatForms.{block_form, stats_form, last_form, return_form, begins_word, WordForm, expr_stat_form, short_form}
use Rattle.luf_descent.proofs.Completing.{agree_less, token_agrees, carried_token, Room, within_first, within_none, within_as, within_spelled}
use Rattle.luf_descent.proofs.Frames.{stops_after, stops_last, stops_form, stops_wrong, one}
use Rattle.luf_descent.proofs.Low.{low_stats}
use Rattle.luf_descent.proofs.ExprStops.{not_here}

stats_joined : (level : ℕ) (found rest : List Stat) → stats_entries level (found ++ rest) ≡ stats_entries level found ++ stats_entries level rest
stats_joined level [] rest = refl
stats_joined level (x ∷ found) rest = ap (λ es. stat_entries level x ++ es) (stats_joined level found rest) ∙ sym (append_assoc (stat_entries level x) (stats_entries level found) (stats_entries level rest))

-- the entries of a block that ends with one more statement
block_joined : (level i k : ℕ) (found : List Stat) (s : Stat) → block_entries level (roll-Block (record { from = i; to = k; stats = found ++ s ∷ [] })) ≡ stats_entries level found ++ stat_entries level s
block_joined level i k found s =
    ap (entries_of_block level) (eq.block_of_syntax i k (found ++ s ∷ [])) ∙ stats_joined level found (s ∷ []) ∙ ap (λ es. stats_entries level found ++ es) (append-nil (stat_entries level s))

pub block_stat : {toks : List Tok} {from at left : ℕ} {e : ParseErr} (found : List Stat) → from ≤ at → ((l : List Tok) → Room toks l at → Joins (AreStats l) from at found) → deepest (map stat_levels found) ≤ left
    → ((l : List Tok) → AgreeBefore toks l (at + 1) → (n : ℕ) → Ahead (p.ReadStats l n from) found (p.ReadStats l n at)) → stops_stats (slice_get toks at) ≡ false → StopsStat toks left at (λ l n. p.ReadStat l n at) e → StopsBlock toks left from e
block_stat {from = from} {at = at} found forward joins low ahead goes h =
    stops_last forward h
    (λ kind w l k le b. record {
      part = roll-Block (record { from = from; to = k; stats = found ++ b.made.part ∷ [] });
      derived = g.block (joins l b.room k (b.made.part ∷ []) (g.more_stats b.made.derived g.no_stats));
      levels = λ level. within_as (block_joined level from k found b.made.part) (within_first (stats_entries level found) (low_stats level found low) (b.made.levels level));
    })
    (λ w l le agree n y d.
    let f = block_form y d in
    let a = ahead l (agree_less agree (omega arith)) n f.part f.first in
    let r = stats_form (ap stops_stats (agree.same at (omega arith)) ∙ goes) a.0 a.1 in
    record { left = n; part = r.part; is = r.first })

pub block_last : {toks : List Tok} {from at left : ℕ} {e : ParseErr} (found : List Stat) → from ≤ at → ((l : List Tok) → Room toks l at → Joins (AreStats l) from at found) → deepest (map stat_levels found) ≤ left
    → ((l : List Tok) → AgreeBefore toks l (at + 1) → (n : ℕ) → Ahead (p.ReadStats l n from) found (p.ReadStats l n at)) → At toks at (Word word.Return) → StopsReturn toks left at e → StopsBlock toks left from e
block_last {from = from} {at = at} found forward joins low ahead here h =
    stops_last forward h
    (λ kind w l k le b. record {
      part = roll-Block (record { from = from; to = k; stats = found ++ b.made.part ∷ [] });
      derived = g.block (joins l b.room k (b.made.part ∷ []) (g.last_stat b.made.derived));
      levels = λ level. within_as (block_joined level from k found b.made.part) (within_first (stats_entries level found) (low_stats level found low) (b.made.levels level));
    })
    (λ w l le agree n y d.
    let f = block_form y d in
    let a = ahead l (agree_less agree (omega arith)) n f.part f.first in
    let r = last_form (agree.same at (omega arith) ∙ here) a.0 a.1 in
    record { left = n; part = r.part; is = r.first })

pub return_missing : {toks : List Tok} {at left : ℕ} → at ≤ length toks → NotAt toks at (Word word.Return) → StopsReturn toks left at (error.Syntax at)
return_missing {at = at} within none =
    stops_wrong (Word word.Return ∷ []) (omega arith) within (λ _ _. refl)
    (λ l k agree stand closes. record {
      part = statement at k (stat.Return []);
      derived = g.return_nothing (one stand) g.no_semicolon;
      levels = λ level. within_as (ap (entries_of_statement level) (eq.return_syntax at k [])) within_none;
    })
    (λ l agree n y d. let f = return_form y d in not_here at agree none f.first.there)

pub return_exprs : {toks : List Tok} {at next left : ℕ} {e : ParseErr} → IsToken toks at (Word word.Return) next → ends_return (slice_get toks next) ≡ false → StopsExprs toks left next e → StopsReturn toks left at e
return_exprs {at = at} {next = next} t goes h =
    let n = t.next in
    stops_last (omega arith) h
    (λ kind w l k le b. record {
      part = statement at k (stat.Return b.made.part);
      derived = g.return_values (carried_token b.room t (omega arith)) b.made.derived g.no_semicolon;
      levels = λ level. within_spelled (entries_of_statement level) (eq.return_syntax at k b.made.part) (b.made.levels level);
    })
    (λ w l le agree n y d.
    let f = then_rest (token_only (token_agrees agree (omega arith) t)) (return_form y d) in
    let r = f.values (ap ends_return (agree.same next (omega arith)) ∙ goes) in
    record { left = n; part = r.part; is = r.first })

-- ---- statements of words and names alone

pub label_name : {toks : List Tok} {at name left : ℕ} {e : ParseErr} → IsToken toks at (Sign sign.DoubleColon) name → StopsToken toks left name Name e → StopsStat toks left at (λ l n. p.ReadLabel l at name) e
label_name {at = at} {name = name} t h =
    let n = t.next in
    stops_after (Sign sign.DoubleColon ∷ []) refl (omega arith) h
    (λ kind w l m k le b. record {
      part = statement at k (stat.Label name);
      derived = g.label_stat (carried_token b.room t (omega arith)) b.made.derived (one b.stand);
      levels = λ level. within_as (ap (entries_of_statement level) (eq.label_syntax at k name)) (b.made.levels level);
    })
    (λ w l le agree n y d. record { left = n; part = d.part; is = d.first })

pub label_close : {toks : List Tok} {at name close left : ℕ} {e : ParseErr} → IsToken toks at (Sign sign.DoubleColon) name → IsToken toks name Name close → StopsToken toks left close (Sign sign.DoubleColon) e
    → StopsStat toks left at (λ l n. p.ReadLabel l at name) e
label_close {at = at} {name = name} t u h =
    let n = t.next in
    let o = u.next in
    stops_last (omega arith) h
    (λ kind w l k le b. record {
      part = statement at k (stat.Label name);
      derived = g.label_stat (carried_token b.room t (omega arith)) (carried_token b.room u (omega arith)) b.made.derived;
      levels = λ level. within_as (ap (entries_of_statement level) (eq.label_syntax at k name)) (b.made.levels level);
    })
    (λ w l le agree n y d. let r = then_rest (token_only (token_agrees agree (omega arith) u)) d in record { left = n; part = r.part; is = r.first })

pub goto_name : {toks : List Tok} {at name left : ℕ} {e : ParseErr} → IsToken toks at (Word word.Goto) name → StopsToken toks left name Name e → StopsStat toks left at (λ l n. p.ReadGoto l at name) e
goto_name {at = at} {name = name} t h =
    let n = t.next in
    stops_last (omega arith) h
    (λ kind w l k le b. record {
      part = statement at k (stat.Goto name);
      derived = g.goto_stat (carried_token b.room t (omega arith)) b.made.derived;
      levels = λ level. within_as (ap (entries_of_statement level) (eq.goto_syntax at k name)) (b.made.levels level);
    })
    (λ w l le agree n y d. record { left = n; part = d.part; is = d.first })

-- no statement begins with this token
pub short_other : {toks : List Tok} {at left : ℕ} → at ≤ length toks → NotAt toks at (Word word.Break) → NotAt toks at (Sign sign.Semicolon) → NotAt toks at (Word word.Goto) → NotAt toks at (Sign sign.DoubleColon)
    → StopsStat toks left at (λ l n. p.ReadShort l at) (error.Syntax at)
short_other {at = at} within break empty goto label =
    stops_wrong (Sign sign.Semicolon ∷ []) (omega arith) within (λ _ _. refl)
    (λ l k agree stand closes. record { part = statement at k stat.Empty; derived = g.empty_stat (one stand); levels = λ level. within_as (ap (entries_of_statement level) (eq.empty_syntax at k)) within_none })
    (λ l agree n y d. d.other (not_here at agree break) (not_here at agree empty) (not_here at agree goto) (not_here at agree label))

pub short_goto : {toks : List Tok} {at name left : ℕ} {e : ParseErr} → IsToken toks at (Word word.Goto) name → StopsStat toks left at (λ l n. p.ReadGoto l at name) e → StopsStat toks left at (λ l n. p.ReadShort l at) e
short_goto {name = name} t h = stops_form h (λ w l le agree n y d. record { left = n; part = y; is = d.goto name (token_agrees agree (omega arith) t) })

pub short_label : {toks : List Tok} {at name left : ℕ} {e : ParseErr} → IsToken toks at (Sign sign.DoubleColon) name → StopsStat toks left at (λ l n. p.ReadLabel l at name) e → StopsStat toks left at (λ l n. p.ReadShort l at) e
short_label {name = name} t h = stops_form h (λ w l le agree n y d. record { left = n; part = y; is = d.label name (token_agrees agree (omega arith) t) })

-- ---- a statement by its first token

pub stat_word : {toks : List Tok} {at next left : ℕ} {e : ParseErr} (w : Keyword) → IsToken toks at (Word w) next → StopsStat toks left at (λ l n. WordForm l n at next w) e → StopsStat toks left at (λ l n. p.ReadStat l n at) e
stat_word w t h = stops_form h (λ u l le agree n y d. record { left = n; part = y; is = begins_word (token_agrees agree (omega arith) t) y d })

pub stat_expr : {toks : List Tok} {at left : ℕ} {e : ParseErr} → begins_prefix (slice_get toks at) ≡ true → StopsStat toks left at (λ l n. p.ReadExprStat l n at) e → StopsStat toks left at (λ l n. p.ReadStat l n at) e
stat_expr {at = at} begins h = stops_form h (λ u l le agree n y d. record { left = n; part = y; is = expr_stat_form (ap begins_prefix (agree.same at (omega arith)) ∙ begins) y d })

pub stat_short : {toks : List Tok} {at left : ℕ} {e : ParseErr} → begins_prefix (slice_get toks at) ≡ false → NotAt toks at (Word word.Local) → NotAt toks at (Word word.If) → NotAt toks at (Word word.For) → NotAt toks at (Word word.Function)
    → NotAt toks at (Word word.While) → NotAt toks at (Word word.Do) → NotAt toks at (Word word.Repeat) → StopsStat toks left at (λ l n. p.ReadShort l at) e → StopsStat toks left at (λ l n. p.ReadStat l n at) e
stat_short {at = at} none a b c d f g i h = stops_form h (λ u l le agree n y x.
    let less = agree_less agree (omega arith) in
    record {
      left = n;
      part = y;
      is = short_form (ap begins_prefix (agree.same at (omega arith)) ∙ none) (not_here at less a) (not_here at less b) (not_here at less c) (not_here at less d) (not_here at less f) (not_here at less g) (not_here at less i) y x;
    })
