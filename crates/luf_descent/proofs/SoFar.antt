-- A list that is read part by part, in each list of tokens that agrees so far: what was read stands before what is left,
-- and each whole has what was read and then a rest.
use Rattle.std.proofs.Common.{◌≡◌, ℕ, ◌+◌, ◌<◌, ◌≤◌, inl, inr, Bool, true, false, List, [], ◌∷◌, ◌++◌, map, refl, sym, ap, ◌∙◌, arith}
use Rattle.std.specs.Prelude.{slice_get}
use Rattle.luf_lex.specs.declared.token.Tok.{Tok}
use Rattle.luf_lex.specs.declared.token.Tok.TheVariants.{Word, Sign}
use Rattle.luf_lex.specs.declared.token.Word.TheVariants as word
use Rattle.luf_lex.specs.declared.token.Sign.TheVariants as sign
use Rattle.luf_tree.specs.declared.tree.Block.{roll-Block}
use Rattle.luf_tree.specs.declared.tree.Stat.{Stat, out-Stat}
use Rattle.luf_tree.specs.declared.tree.Arm.{Arm}
use Rattle.luf_tree.specs.declared.tree.Expr.{Expr, out-Expr}
use Rattle.luf_tree.specs.declared.tree.ExprKind.TheVariants as expr
use Rattle.luf_tree.specs.declared.tree.Step.{Step, roll-Step}
use Rattle.luf_tree.specs.declared.tree.Suffix.{Suffix}
use Rattle.luf_tree.specs.declared.tree.Field.{Field}
use Rattle.luf_tree.specs.Agree.{AgreeBefore}
use Rattle.luf_tree.specs.Level.{deepest, expr_levels, field_levels, suffix_levels, step_levels, stat_levels, arm_levels}
use Rattle.luf_tree.specs.Grammar as g
use Rattle.luf_tree.specs.Grammar.{At, expression, IsToken, IsExpr, AreSteps, AreSuffixes, IsSuffix, AreExprs, AreFields, IsField, AreStats, IsStat, IsReturn, AreArms, IsArm, AreTargets, IsVariable}
use Rattle.luf_tree.proofs.Locality.{local_expr, local_field, local_stat, local_arm, local_variable}
use Rattle.luf_descent.specs.Follow.{NotAt, IsSeparator, stops_stats, precedence_at}
use Rattle.luf_descent.specs.Parts as p
use Rattle.luf_descent.specs.Reads.{Found, token_begins_suffix, begins_suffix}
use Rattle.luf_descent.specs.PartStops.{StopsExpr, StopsExprs, StopsField, StopsFields, StopsSuffix, StopsSuffixes, StopsStat, StopsReturn, StopsBlock, StopsArm, StopsArms, StopsChain, StopsVariable, StopsTargets}
use Rattle.luf_descent.specs.Stops.{Known}
use Rattle.luf_descent.specs.declared.error.ParseErr.{ParseErr}
use Rattle.luf_descent.proofs.Exactness.{then_rest, Ahead, ahead_none, ahead_more, ahead_last, ahead_end, list_more, list_last, alone_triple}
use Rattle.luf_descent.proofs.Joining.{Joins, joins_none, joins_more}
use Rattle.luf_descent.proofs.ExprForms.{exprs_form, fields_form, fields_end, SuffixesRead, suffixes_form, steps_form}
use Rattle.luf_descent.proofs.StatForms.{block_form, stats_form, last_form, stats_end, arms_form, targets_form, targets_last}
use Rattle.luf_descent.proofs.ExprParts.{operator_at}
use Rattle.luf_descent.proofs.Completing.{Room, agree_less, token_agrees, carried, carried_token}
use Rattle.luf_descent.proofs.Knowing.{room_less}
use Rattle.luf_descent.proofs.ExprStops.{not_here}
use Rattle.luf_descent.proofs.ArgStops.{suffix_agrees}
use Rattle.luf_descent.proofs.ChainStops.{precedence_agrees, chain_item}
use Rattle.luf_descent.proofs.ListStops.{exprs_item, fields_item, suffixes_item}
use Rattle.luf_descent.proofs.BlockStops.{block_stat, block_last}
use Rattle.luf_descent.proofs.BranchStops.{arms_item}
use Rattle.luf_descent.proofs.TargetStops.{targets_item}

-- The token at the place is the same too, where it says that the list goes on. `Has` is what a list has before the place:
-- the same tokens, or room.
pub record SoFar {X T : Type 0} (toks : List Tok) (Has : List Tok → ℕ → Type 0) (P : List Tok → ℕ → ℕ → (List X × T) → Type 0) (F : List Tok → ℕ → ℕ → List X → Type 0) (from at : ℕ) (found : List X) : Type 0 where
  pub ahead : (l : List Tok) → AgreeBefore toks l (at + 1) → (n : ℕ) → Ahead (P l n from) found (P l n at)
  pub joins : (l : List Tok) → Has l at → Joins (F l) from at found
  pub forward : from ≤ at

pub so_far_start : {X T : Type 0} {toks : List Tok} {Has : List Tok → ℕ → Type 0} {P : List Tok → ℕ → ℕ → (List X × T) → Type 0} {F : List Tok → ℕ → ℕ → List X → Type 0} {from : ℕ} {found : List X} → found ≡ [] → SoFar toks Has P F from from found
so_far_start {F = F} {from = from} {found = found} e = record { ahead = λ l agree n. ahead_none e; joins = λ l has. joins_none (F l) from found e; forward = omega arith }

pub so_far_more : {X T : Type 0} {toks : List Tok} {Has : List Tok → ℕ → Type 0} {P : List Tok → ℕ → ℕ → (List X × T) → Type 0} {F : List Tok → ℕ → ℕ → List X → Type 0} {from at next : ℕ} {found new : List X} {x : X}
    → SoFar toks Has P F from at found → new ≡ found ++ x ∷ [] → at ≤ next
    → ((l : List Tok) → AgreeBefore toks l (next + 1) → (n : ℕ) (r : List X × T) → P l n at r → (s : List X × T) × P l n next s × (r ≡ (x ∷ s.0, s.1)))
    → ((l : List Tok) → Has l next → Has l at)
    → ((l : List Tok) → Has l next → (k : ℕ) (rest : List X) → F l next k rest → F l at k (x ∷ rest))
    → SoFar toks Has P F from next new
so_far_more {X} {T} {toks} {Has} {P} {F} {from} {at} {next} {found} {new} {x} h e le step less join =
    let f = h.forward in
    record {
      ahead = λ l agree n. ahead_more found (h.ahead l (agree_less agree (omega arith)) n) e (step l agree n);
      joins = λ l has. joins_more (F l) from at next found new x (h.joins l (less l has)) e (join l has);
      forward = omega arith;
    }

pub so_far_last : {X T : Type 0} {toks : List Tok} {Has : List Tok → ℕ → Type 0} {P : List Tok → ℕ → ℕ → (List X × T) → Type 0} {F : List Tok → ℕ → ℕ → List X → Type 0} {from at : ℕ} {found all : List X} {x : X} {end : T} (to : ℕ)
    → SoFar toks Has P F from at found → all ≡ found ++ x ∷ [] → at ≤ to
    → ((l : List Tok) → AgreeBefore toks l (to + 1) → (n : ℕ) (r : List X × T) → P l n at r → r ≡ (x ∷ [], end))
    → Known toks to (λ l n. P l n from) (all, end)
so_far_last {found = found} to h e le last = record { only = λ l agree n. ahead_last found (h.ahead l (agree_less agree (omega arith)) n) e (last l agree n) }

pub so_far_end : {X T : Type 0} {toks : List Tok} {Has : List Tok → ℕ → Type 0} {P : List Tok → ℕ → ℕ → (List X × T) → Type 0} {F : List Tok → ℕ → ℕ → List X → Type 0} {from at : ℕ} {found all : List X} {end : T} (to : ℕ)
    → SoFar toks Has P F from at found → all ≡ found → at ≤ to
    → ((l : List Tok) → AgreeBefore toks l (to + 1) → (n : ℕ) (r : List X × T) → P l n at r → r ≡ ([], end))
    → Known toks to (λ l n. P l n from) (all, end)
so_far_end {found = found} to h e le last = record { only = λ l agree n. ahead_end (h.ahead l (agree_less agree (omega arith)) n) e (last l agree n) }

-- ---- lists of expressions

abbrev pub ExprsSoFar : List Tok → ℕ → ℕ → List Expr → Type 0
ExprsSoFar toks from at found = SoFar toks (λ l i. Room toks l i) (λ l n i. p.ReadExprs l n i) (λ l i k x. AreExprs l i k x) from at found

pub exprs_more : {toks : List Tok} {from at next left : ℕ} {found new : List Expr} {x : Expr} → ExprsSoFar toks from at found → new ≡ found ++ x ∷ [] → Found toks (at + 1) (out-Expr x).to left (expr_levels x) (IsExpr toks 1 at (out-Expr x).to x)
    → Known toks (out-Expr x).to (λ l n. p.ReadExpr l 1 n at) x → IsToken toks (out-Expr x).to (Sign sign.Comma) next → ExprsSoFar toks from next new
exprs_more h e ok known u =
    let f = ok.ends.forward in
    let o = u.next in
    so_far_more h e (omega arith) (λ l agree n. list_more exprs_form (known.only l (agree_less agree (omega arith)) n) (token_agrees agree (omega arith) u)) (λ l room. room_less room (omega arith))
    (λ l room k rest d. g.more_exprs (carried room (local_expr ok.is) (omega arith)) (carried_token room u (omega arith)) d)

pub exprs_known : {toks : List Tok} {from at left : ℕ} {found all : List Expr} {x : Expr} → ExprsSoFar toks from at found → all ≡ found ++ x ∷ [] → Found toks (at + 1) (out-Expr x).to left (expr_levels x) (IsExpr toks 1 at (out-Expr x).to x)
    → Known toks (out-Expr x).to (λ l n. p.ReadExpr l 1 n at) x → NotAt toks (out-Expr x).to (Sign sign.Comma) → Known toks (out-Expr x).to (λ l n. p.ReadExprs l n from) (all, (out-Expr x).to)
exprs_known {x = x} h e ok known none =
    let f = ok.ends.forward in
    so_far_last (out-Expr x).to h e (omega arith) (λ l agree n. list_last exprs_form (known.only l agree n) (λ next u. not_here (out-Expr x).to agree none u.there))

pub exprs_stop : {toks : List Tok} {from at left : ℕ} {found : List Expr} {e : ParseErr} → ExprsSoFar toks from at found → deepest (map expr_levels found) ≤ left → StopsExpr toks 1 left at e → StopsExprs toks left from e
exprs_stop {found = found} h low s = exprs_item found h.forward h.joins low h.ahead s

-- ---- fields

abbrev pub FieldsSoFar : List Tok → ℕ → ℕ → List Field → Type 0
FieldsSoFar toks from at found = SoFar toks (λ l i. Room toks l i) (λ l n i. p.ReadFields l n i) (λ l i k x. AreFields l i k x) from at found

separator_agrees : {toks l : List Tok} {n i j : ℕ} → AgreeBefore toks l n → i < n → IsSeparator toks i j → IsSeparator l i j
separator_agrees agree low (inl t) = inl (token_agrees agree low t)
separator_agrees agree low (inr t) = inr (token_agrees agree low t)

no_separator : {toks l : List Tok} (i : ℕ) → AgreeBefore toks l (i + 1) → ((next : ℕ) → IsSeparator toks i next → ⊥) → (next : ℕ) → IsSeparator l i next → ⊥
no_separator {toks} {l} i agree none next s = none next (separator_agrees (record { same = λ k less. sym (agree.same k less) }) (omega arith) s)

separator_next : {toks : List Tok} {i j : ℕ} → IsSeparator toks i j → j ≡ i + 1
separator_next (inl t) = t.next
separator_next (inr t) = t.next

pub fields_more : {toks : List Tok} {from at to next left : ℕ} {found new : List Field} {x : Field} → FieldsSoFar toks from at found → new ≡ found ++ x ∷ [] → NotAt toks at (Sign sign.RightBrace)
    → Found toks (at + 1) to left (field_levels x) (IsField toks at to x) → Known toks to (λ l n. p.ReadField l n at) (x, to) → IsSeparator toks to next → FieldsSoFar toks from next new
fields_more {at = at} h e none ok known u =
    let f = ok.ends.forward in
    let o = separator_next u in
    so_far_more h e (omega arith)
    (λ l agree n. list_more (fields_form (not_here at (agree_less agree (omega arith)) none)) (known.only l (agree_less agree (omega arith)) n) (separator_agrees agree (omega arith) u)) (λ l room. room_less room (omega arith))
    (λ l room k rest d. g.more_fields (carried room (local_field ok.is) (omega arith)) (separator_agrees room.agree (omega arith) u) d)

pub fields_known : {toks : List Tok} {from at to left : ℕ} {found all : List Field} {x : Field} → FieldsSoFar toks from at found → all ≡ found ++ x ∷ [] → NotAt toks at (Sign sign.RightBrace)
    → Found toks (at + 1) to left (field_levels x) (IsField toks at to x) → Known toks to (λ l n. p.ReadField l n at) (x, to) → ((next : ℕ) → IsSeparator toks to next → ⊥) → Known toks to (λ l n. p.ReadFields l n from) (all, to)
fields_known {at = at} {to = to} h e none ok known last =
    let f = ok.ends.forward in
    so_far_last to h e (omega arith) (λ l agree n. list_last (fields_form (not_here at (agree_less agree (omega arith)) none)) (known.only l agree n) (no_separator to agree last))

pub fields_all : {toks : List Tok} {from at : ℕ} {found all : List Field} → FieldsSoFar toks from at found → all ≡ found → At toks at (Sign sign.RightBrace) → Known toks at (λ l n. p.ReadFields l n from) (all, at)
fields_all {at = at} h e here = so_far_end at h e (omega arith) (λ l agree n. fields_end (agree.same at (omega arith) ∙ here))

pub fields_stop : {toks : List Tok} {from at left : ℕ} {found : List Field} {e : ParseErr} → FieldsSoFar toks from at found → deepest (map field_levels found) ≤ left → NotAt toks at (Sign sign.RightBrace)
    → StopsField toks left at (λ l n. p.ReadField l n at) e → StopsFields toks left from e
fields_stop {found = found} h low none s = fields_item found h.forward h.joins low h.ahead none s

-- ---- suffixes

-- the token at the place is known, by which a suffix begins there
pub record SuffixesSoFar (toks : List Tok) (from at : ℕ) (found : List Suffix) : Type 0 where
  pub ahead : (l : List Tok) → AgreeBefore toks l (at + 1) → (n : ℕ) → Ahead (SuffixesRead l n from) found (SuffixesRead l n at)
  pub joins : (l : List Tok) (calls : Bool) → AgreeBefore toks l at → Joins (AreSuffixes l calls) from at found
  pub forward : from ≤ at

pub suffixes_start : {toks : List Tok} {from : ℕ} {found : List Suffix} → found ≡ [] → SuffixesSoFar toks from from found
suffixes_start {from = from} {found = found} e = record { ahead = λ l agree n. ahead_none e; joins = λ l calls agree. joins_none (AreSuffixes l calls) from found e; forward = omega arith }

pub begins_agrees : {toks l : List Tok} {b : Bool} (i : ℕ) → AgreeBefore toks l (i + 1) → begins_suffix toks i ≡ b → begins_suffix l i ≡ b
begins_agrees i agree is = ap token_begins_suffix (agree.same i (omega arith)) ∙ is

not_both : {b : Bool} → b ≡ true → b ≡ false → ⊥
not_both x y = cc

pub suffixes_more : {toks : List Tok} {from at to left : ℕ} {calls : Bool} {found new : List Suffix} {x : Suffix} → SuffixesSoFar toks from at found → new ≡ found ++ x ∷ [] → Found toks (at + 1) to left (suffix_levels x) (IsSuffix toks calls at to x)
    → Known toks to (λ l n. p.ReadSuffix l n at) (x, calls, to) → begins_suffix toks to ≡ true → SuffixesSoFar toks from to new
suffixes_more {toks} {from} {at} {to} {left} {calls} {found} {new} {x} h e ok known begins =
    let f = ok.ends.forward in
    let o = h.forward in
    record {
      ahead = λ l agree n. ahead_more found (h.ahead l (agree_less agree (omega arith)) n) e (list_more suffixes_form (known.only l agree n) (begins_agrees to agree begins, refl));
      joins = λ l all agree. joins_more (AreSuffixes l all) from at to found new x (h.joins l all (agree_less agree (omega arith))) e (λ k rest d. g.more_suffixes (suffix_agrees ok.is agree) d);
      forward = omega arith;
    }

pub suffixes_known : {toks : List Tok} {from at to left : ℕ} {calls : Bool} {found all : List Suffix} {x : Suffix} → SuffixesSoFar toks from at found → all ≡ found ++ x ∷ [] → Found toks (at + 1) to left (suffix_levels x) (IsSuffix toks calls at to x)
    → Known toks to (λ l n. p.ReadSuffix l n at) (x, calls, to) → begins_suffix toks to ≡ false → Known toks to (λ l n. p.ReadSuffixes l n from) (all, calls, to)
suffixes_known {from = from} {to = to} {found = found} h e ok known none =
    let f = ok.ends.forward in
    record { only = λ l agree n. alone_triple (p.ReadSuffixes l n from) (ahead_last found (h.ahead l (agree_less agree (omega arith)) n) e (list_last suffixes_form (known.only l agree n) (λ next s. not_both s.0 (begins_agrees to agree none)))) }

pub suffixes_stop : {toks : List Tok} {from at left : ℕ} {found : List Suffix} {e : ParseErr} → SuffixesSoFar toks from at found → deepest (map suffix_levels found) ≤ left → StopsSuffix toks left at e → StopsSuffixes toks left from e
suffixes_stop {found = found} h low s = suffixes_item found h.forward h.joins low h.ahead s

-- ---- the statements of a block

abbrev pub StatsSoFar : List Tok → ℕ → ℕ → List Stat → Type 0
StatsSoFar toks from at found = SoFar toks (λ l i. Room toks l i) (λ l n i. p.ReadStats l n i) (λ l i k x. AreStats l i k x) from at found

block_of : {toks : List Tok} {from to : ℕ} {all : List Stat} → Known toks to (λ l n. p.ReadStats l n from) (all, to) → Known toks to (λ l n. p.ReadBlock l n from) (roll-Block (record { from = from; to = to; stats = all }))
block_of known = record { only = λ l agree n y d. then_rest (known.only l agree n) (block_form y d) }

pub stats_more : {toks : List Tok} {from at left : ℕ} {found new : List Stat} {x : Stat} → StatsSoFar toks from at found → new ≡ found ++ x ∷ [] → stops_stats (slice_get toks at) ≡ false → Found toks (at + 1) (out-Stat x).to left (stat_levels x) (IsStat toks at (out-Stat x).to x)
    → Known toks (out-Stat x).to (λ l n. p.ReadStat l n at) x → StatsSoFar toks from (out-Stat x).to new
stats_more {at = at} {x = x} h e goes ok known =
    let f = ok.ends.forward in
    so_far_more h e (omega arith) (λ l agree n r q. then_rest (known.only l agree n) (stats_form (ap stops_stats (agree.same at (omega arith)) ∙ goes) r q))
    (λ l room. room_less room (omega arith))
    (λ l room k rest d. g.more_stats (carried room (local_stat ok.is) (omega arith)) d)

-- a block whose last statement was read, and one that ends where no statement goes on
pub block_last_known : {toks : List Tok} {from at left : ℕ} {found all : List Stat} {x : Stat} → StatsSoFar toks from at found → all ≡ found ++ x ∷ [] → At toks at (Word word.Return) → Found toks (at + 1) (out-Stat x).to left (stat_levels x) (IsReturn toks at (out-Stat x).to x)
    → Known toks (out-Stat x).to (λ l n. p.ReadReturn l n at) x → Known toks (out-Stat x).to (λ l n. p.ReadBlock l n from) (roll-Block (record { from = from; to = (out-Stat x).to; stats = all }))
block_last_known {from = from} {at = at} {x = x} h e here ok known =
    let f = ok.ends.forward in
    block_of (so_far_last (out-Stat x).to h e (omega arith) (λ l agree n r q. then_rest (known.only l agree n) (last_form (agree.same at (omega arith) ∙ here) r q)))

pub block_end_known : {toks : List Tok} {from at : ℕ} {found all : List Stat} → StatsSoFar toks from at found → all ≡ found → stops_stats (slice_get toks at) ≡ true → NotAt toks at (Word word.Return)
    → Known toks at (λ l n. p.ReadBlock l n from) (roll-Block (record { from = from; to = at; stats = all }))
block_end_known {at = at} h e ends none = block_of (so_far_end at h e (omega arith) (λ l agree n. stats_end (ap stops_stats (agree.same at (omega arith)) ∙ ends) (not_here at agree none)))

pub block_stop : {toks : List Tok} {from at left : ℕ} {found : List Stat} {e : ParseErr} → StatsSoFar toks from at found → deepest (map stat_levels found) ≤ left → stops_stats (slice_get toks at) ≡ false → StopsStat toks left at (λ l n. p.ReadStat l n at) e
    → StopsBlock toks left from e
block_stop {found = found} h low goes s = block_stat found h.forward h.joins low h.ahead goes s

pub block_return : {toks : List Tok} {from at left : ℕ} {found : List Stat} {e : ParseErr} → StatsSoFar toks from at found → deepest (map stat_levels found) ≤ left → At toks at (Word word.Return) → StopsReturn toks left at e → StopsBlock toks left from e
block_return {found = found} h low here s = block_last found h.forward h.joins low h.ahead here s

-- ---- the arms of an `if`

abbrev pub ArmsSoFar : List Tok → ℕ → ℕ → List Arm → Type 0
ArmsSoFar toks from at found = SoFar toks (λ l i. Room toks l i) (λ l n i. p.ReadArms l n i) (λ l i k x. AreArms l i k x) from at found

pub arms_more : {toks : List Tok} {from at to next left : ℕ} {found new : List Arm} {x : Arm} → ArmsSoFar toks from at found → new ≡ found ++ x ∷ [] → Found toks (at + 1) to left (arm_levels x) (IsArm toks at to x)
    → Known toks to (λ l n. p.ReadArm l n at) (x, to) → IsToken toks to (Word word.ElseIf) next → ArmsSoFar toks from next new
arms_more h e ok known u =
    let f = ok.ends.forward in
    let o = u.next in
    so_far_more h e (omega arith) (λ l agree n. list_more arms_form (known.only l (agree_less agree (omega arith)) n) (token_agrees agree (omega arith) u)) (λ l room. room_less room (omega arith))
    (λ l room k rest d. g.more_arms (carried room (local_arm ok.is) (omega arith)) (carried_token room u (omega arith)) d)

pub arms_known : {toks : List Tok} {from at to left : ℕ} {found all : List Arm} {x : Arm} → ArmsSoFar toks from at found → all ≡ found ++ x ∷ [] → Found toks (at + 1) to left (arm_levels x) (IsArm toks at to x)
    → Known toks to (λ l n. p.ReadArm l n at) (x, to) → NotAt toks to (Word word.ElseIf) → Known toks to (λ l n. p.ReadArms l n from) (all, to)
arms_known {to = to} h e ok known none =
    let f = ok.ends.forward in
    so_far_last to h e (omega arith) (λ l agree n. list_last arms_form (known.only l agree n) (λ next u. not_here to agree none u.there))

pub arms_stop : {toks : List Tok} {from at left : ℕ} {found : List Arm} {e : ParseErr} → ArmsSoFar toks from at found → deepest (map arm_levels found) ≤ left → StopsArm toks left at e → StopsArms toks left from e
arms_stop {found = found} h low s = arms_item found h.forward h.joins low h.ahead s

-- ---- the steps of a chain, from the operator at `at`, which is known

pub record StepsSoFar (toks : List Tok) (precedence from at : ℕ) (found : List Step) : Type 0 where
  pub ahead : (l : List Tok) → AgreeBefore toks l (at + 1) → (n : ℕ) → Ahead (p.ReadSteps l precedence n from) found (p.ReadSteps l precedence n at)
  pub joins : (l : List Tok) → Room toks l at → Joins (AreSteps l precedence) from at found
  pub forward : from ≤ at
  pub operator : precedence_at toks at ≡ precedence

pub steps_start : {toks : List Tok} {precedence from : ℕ} {found : List Step} → found ≡ [] → precedence_at toks from ≡ precedence → StepsSoFar toks precedence from from found
steps_start {precedence = precedence} {from = from} {found = found} e is = record { ahead = λ l agree n. ahead_none e; joins = λ l room. joins_none (AreSteps l precedence) from found e; forward = omega arith; operator = is }

pub steps_more : {toks : List Tok} {precedence from at next left : ℕ} {tok : Tok} {found new : List Step} {x : Expr} → StepsSoFar toks precedence from at found → 0 < precedence → new ≡ found ++ roll-Step (record { sign = at; right = x }) ∷ [] → IsToken toks at tok next
    → Found toks (next + 1) (out-Expr x).to left (expr_levels x) (IsExpr toks (precedence + 1) next (out-Expr x).to x) → Known toks (out-Expr x).to (λ l n. p.ReadExpr l (precedence + 1) n next) x → precedence_at toks (out-Expr x).to ≡ precedence
    → StepsSoFar toks precedence from (out-Expr x).to new
steps_more {precedence = precedence} {from = from} {at = at} {found = found} {new = new} {x = x} h positive e t ok known is =
    let f = ok.ends.forward in
    let n = t.next in
    let o = h.forward in
    record {
      ahead = λ l agree n. ahead_more found (h.ahead l (agree_less agree (omega arith)) n) e (list_more (steps_form positive (token_agrees agree (omega arith) t)) (known.only l agree n) (precedence_agrees (out-Expr x).to agree is, refl));
      joins = λ l room. joins_more (AreSteps l precedence) from at (out-Expr x).to found new (roll-Step (record { sign = at; right = x })) (h.joins l (room_less room (omega arith))) e
          (λ k rest d. g.more_steps (carried_token room t (omega arith)) (operator_at precedence t h.operator) (carried room (local_expr ok.is) (omega arith)) d);
      forward = omega arith;
      operator = is;
    }

steps_known : {toks : List Tok} {precedence from at next left : ℕ} {tok : Tok} {found all : List Step} {x : Expr} → StepsSoFar toks precedence from at found → 0 < precedence → all ≡ found ++ roll-Step (record { sign = at; right = x }) ∷ []
    → IsToken toks at tok next → Found toks (next + 1) (out-Expr x).to left (expr_levels x) (IsExpr toks (precedence + 1) next (out-Expr x).to x) → Known toks (out-Expr x).to (λ l n. p.ReadExpr l (precedence + 1) n next) x
    → (precedence_at toks (out-Expr x).to ≡ precedence → ⊥) → Known toks (out-Expr x).to (λ l n. p.ReadSteps l precedence n from) (all, (out-Expr x).to)
steps_known {toks} {found = found} {x = x} h positive e t ok known other =
    let f = ok.ends.forward in
    let n = t.next in
    record {
      only = λ l agree n. ahead_last found (h.ahead l (agree_less agree (omega arith)) n) e
          (list_last (steps_form positive (token_agrees agree (omega arith) t)) (known.only l agree n) (λ next s. other (sym (precedence_agrees (out-Expr x).to agree refl) ∙ s.0)));
    }

pub chain_known : {toks : List Tok} {precedence at next left : ℕ} {tok : Tok} {found all : List Step} {x : Expr} (start : ℕ) (first : Expr) → StepsSoFar toks precedence (out-Expr first).to at found → 0 < precedence → all ≡ found ++ roll-Step (record { sign = at; right = x }) ∷ []
    → IsToken toks at tok next → Found toks (next + 1) (out-Expr x).to left (expr_levels x) (IsExpr toks (precedence + 1) next (out-Expr x).to x) → Known toks (out-Expr x).to (λ l n. p.ReadExpr l (precedence + 1) n next) x
    → (precedence_at toks (out-Expr x).to ≡ precedence → ⊥) → Known toks (out-Expr x).to (λ l n. p.ReadChain l precedence n start first) (expression start (out-Expr x).to (expr.Chain first all))
chain_known start first h positive e t ok known other =
    let steps = steps_known h positive e t ok known other in
    record { only = λ l agree n y d. then_rest (steps.only l agree n) d }

pub chain_stop : {toks : List Tok} {precedence at sign next left : ℕ} {tok : Tok} {found : List Step} {first : Expr} {e : ParseErr} → StepsSoFar toks precedence (out-Expr first).to sign found → 0 < precedence
    → Found toks (at + 1) (out-Expr first).to left (expr_levels first) (IsExpr toks (precedence + 1) at (out-Expr first).to first) → deepest (map step_levels found) ≤ left → IsToken toks sign tok next → StopsExpr toks (precedence + 1) left next e
    → StopsChain toks precedence left at first e
chain_stop {found = found} h positive ok low t s = chain_item found positive ok h.forward h.joins low h.ahead t h.operator s

-- ---- targets, the next of which was read and is not among those before

pub record TargetsSoFar (toks : List Tok) (from : ℕ) (first : Expr) (at : ℕ) (one : Expr) (found : List Expr) : Type 0 where
  pub ahead : (l : List Tok) → AgreeBefore toks l ((out-Expr one).to + 1) → (n : ℕ) → Ahead (p.ReadMoreTargets l n from first) found (p.ReadMoreTargets l n at one)
  pub joins : (l : List Tok) → Room toks l at → Joins (AreTargets l) from at found
  pub forward : (out-Expr first).to ≤ (out-Expr one).to

pub targets_start : {toks : List Tok} {from : ℕ} {first : Expr} {found : List Expr} → found ≡ [] → TargetsSoFar toks from first from first found
targets_start {from = from} {found = found} e = record { ahead = λ l agree n. ahead_none e; joins = λ l room. joins_none (AreTargets l) from found e; forward = omega arith }

-- the targets so far and the next, before the place of another
joins_target : {toks : List Tok} {from at next left : ℕ} {first one : Expr} {found new : List Expr} → TargetsSoFar toks from first at one found → new ≡ found ++ one ∷ [] → Found toks (at + 1) (out-Expr one).to left (expr_levels one) (IsVariable toks at (out-Expr one).to one)
    → IsToken toks (out-Expr one).to (Sign sign.Comma) next → (l : List Tok) → Room toks l next → Joins (AreTargets l) from next new
joins_target {from = from} {at = at} {next = next} {one = one} {found = found} {new = new} h e ok u l room =
    let f = ok.ends.forward in
    let o = u.next in
    joins_more (AreTargets l) from at next found new one (h.joins l (room_less room (omega arith))) e (λ k rest d. g.more_targets (carried room (local_variable ok.is) (omega arith)) (carried_token room u (omega arith)) d)

pub targets_more : {toks : List Tok} {from at next left : ℕ} {first one other : Expr} {found new : List Expr} → TargetsSoFar toks from first at one found → new ≡ found ++ one ∷ [] → Found toks (at + 1) (out-Expr one).to left (expr_levels one) (IsVariable toks at (out-Expr one).to one)
    → IsToken toks (out-Expr one).to (Sign sign.Comma) next → Found toks (next + 1) (out-Expr other).to left (expr_levels other) (IsVariable toks next (out-Expr other).to other) → Known toks (out-Expr other).to (λ l n. p.ReadVariable l n next) other
    → TargetsSoFar toks from first next other new
targets_more {found = found} h e ok u ok2 known =
    let f = ok.ends.forward in
    let f2 = ok2.ends.forward in
    let o = u.next in
    let w = h.forward in
    record {
      ahead = λ l agree n. ahead_more found (h.ahead l (agree_less agree (omega arith)) n) e (λ r q. then_rest (known.only l agree n) (targets_form (token_agrees agree (omega arith) u) r q));
      joins = joins_target h e ok u;
      forward = omega arith;
    }

pub targets_known : {toks : List Tok} {from at : ℕ} {first one : Expr} {found all : List Expr} → TargetsSoFar toks from first at one found → all ≡ found ++ one ∷ [] → NotAt toks (out-Expr one).to (Sign sign.Comma)
    → Known toks (out-Expr one).to (λ l n. p.ReadMoreTargets l n from first) (all, (out-Expr one).to)
targets_known {one = one} {found = found} h e none = record { only = λ l agree n. ahead_last found (h.ahead l agree n) e (targets_last (not_here (out-Expr one).to agree none)) }

pub targets_stop : {toks : List Tok} {from at next left : ℕ} {first one : Expr} {found new : List Expr} {e : ParseErr} → TargetsSoFar toks from first at one found → new ≡ found ++ one ∷ [] → Found toks (at + 1) (out-Expr one).to left (expr_levels one) (IsVariable toks at (out-Expr one).to one)
    → IsToken toks (out-Expr one).to (Sign sign.Comma) next → deepest (map expr_levels new) ≤ left → StopsVariable toks left next e → StopsTargets toks left from first e
targets_stop {new = new} h e ok u low s =
    let f = ok.ends.forward in
    let o = u.next in
    let w = h.forward in
    targets_item new (omega arith) (joins_target h e ok u) low
    (λ l agree n y d. let a = h.ahead l (agree_less agree (omega arith)) n y d in let f = targets_form (token_agrees agree (omega arith) u) a.0 a.1 in record { left = n; part = f.part; is = f.first }) s
