-- What the answers of the descent share: places within the list, and what a call makes.
use Rattle.std.proofs.Common.{◌≡◌, ℕ, ◌+◌, ◌<◌, ◌≤◌, Bool, List, [], ◌∷◌, ◌++◌, length, map, sym, ap, subst, arith, Ok, Err}
use Rattle.std.specs.Prelude.{Result, IfOk}
use Rattle.std.proofs.lemmas.Option.{slice_get_within}
use Rattle.luf_lex.specs.declared.token.Tok.{Tok}
use Rattle.luf_lex.specs.declared.token.Tok.TheVariants.{Sign}
use Rattle.luf_lex.specs.declared.token.Sign.TheVariants as sign
use Rattle.luf_tree.specs.declared.tree.Block.{Block, roll-Block, out-Block}
use Rattle.luf_tree.specs.declared.tree.Stat.{Stat}
use Rattle.luf_tree.specs.declared.tree.Arm.{Arm}
use Rattle.luf_tree.specs.declared.tree.Expr.{Expr, out-Expr}
use Rattle.luf_tree.specs.declared.tree.Step.{Step}
use Rattle.luf_tree.specs.declared.tree.Args.{Args, roll-Args, out-Args}
use Rattle.luf_tree.specs.declared.tree.Field.{Field}
use Rattle.luf_tree.specs.declared.tree.Suffix.{Suffix}
use Rattle.luf_tree.specs.declared.tree.FuncBody.{FuncBody, roll-FuncBody, out-FuncBody}
use Rattle.luf_tree.specs.declared.tree.ExprKind.TheViews.{out-roll-Block, out-roll-FuncBody, out-roll-Args}
use Rattle.luf_tree.specs.Level.{deepest, expr_levels, field_levels, suffix_levels, arm_levels}
use Rattle.luf_tree.specs.Grammar as g
use Rattle.luf_tree.specs.Grammar.{At, IsToken, IsString, IsExpr, AreExprs, IsField, AreFields, IsSuffix, AreSuffixes, IsArm, AreArms, IsVariable, AreTargets, IsForStep}
use Rattle.luf_descent.specs.Follow.{IsAssigned}
use Rattle.luf_descent.specs.Reads.{Found}
use Rattle.luf_descent.specs.Stops.{Known}
use Rattle.luf_descent.proofs.Joining.{joins_last, joins_end, level_more, level_end}
use Rattle.luf_descent.proofs.Knowing.{agree_self, room_self}
use Rattle.luf_descent.proofs.SoFar.{ExprsSoFar, FieldsSoFar, SuffixesSoFar, ArmsSoFar, StepsSoFar, TargetsSoFar}

-- places

pub token_within : {toks : List Tok} {i j : ℕ} {t : Tok} → IsToken toks i t j → j ≤ length toks → i < length toks
token_within t within = let n = t.next in omega arith

pub string_within : (toks : List Tok) {i j : ℕ} → j ≡ i + 1 → j ≤ length toks → i < length toks
string_within toks next within = omega arith

pub assigned_within : {toks : List Tok} {i from : ℕ} → IsAssigned toks i from → from ≤ length toks
assigned_within {toks} a =
    let n = a.sign.next in
    let w = slice_get_within toks a.after (Sign sign.Assign) a.sign.there in
    omega arith

-- what a call makes, where it finds memory
pub known_from_made : {A E : Type 0} {toks : List Tok} {P : List Tok → ℕ → A → Type 0} {v : A} (place : A → ℕ) (r : Result A E) → IfOk r (λ x. x ≡ v) → Known toks (place v) P v → IfOk r (λ x. Known toks (place x) P x)
known_from_made {toks = toks} {P = P} place (Ok x) is known = subst (λ y. Known toks (place y) P y) (sym is) known
known_from_made place (Err e) is known = cc

-- its end is the one that it was made with

pub made_block_known : {toks : List Tok} {P : List Tok → ℕ → Block → Type 0} (i j : ℕ) (stats : List Stat) → Known toks j P (roll-Block (record { from = i; to = j; stats = stats })) → Known toks (out-Block (roll-Block (record { from = i; to = j; stats = stats }))).to P (roll-Block (record { from = i; to = j; stats = stats }))
made_block_known {toks} {P} i j stats known = subst (λ (z : ℕ). Known toks z P (roll-Block (record { from = i; to = j; stats = stats }))) (sym (ap (λ r. r.to) (out-roll-Block (record { from = i; to = j; stats = stats })))) known

pub made_body_known : {toks : List Tok} {P : List Tok → ℕ → FuncBody → Type 0} (i j : ℕ) (params : List ℕ) (vararg : Bool) (body : Block) → Known toks j P (roll-FuncBody (record { from = i; to = j; params = params; vararg = vararg; body = body }))
    → Known toks (out-FuncBody (roll-FuncBody (record { from = i; to = j; params = params; vararg = vararg; body = body }))).to P (roll-FuncBody (record { from = i; to = j; params = params; vararg = vararg; body = body }))
made_body_known {toks} {P} i j params vararg body known =
    subst (λ (z : ℕ). Known toks z P (roll-FuncBody (record { from = i; to = j; params = params; vararg = vararg; body = body }))) (sym (ap (λ r. r.to) (out-roll-FuncBody (record { from = i; to = j; params = params; vararg = vararg; body = body })))) known

pub made_args_known : {toks : List Tok} {P : List Tok → ℕ → Args → Type 0} (i j : ℕ) (parens : Bool) (items : List Expr) → Known toks j P (roll-Args (record { from = i; to = j; parens = parens; items = items }))
    → Known toks (out-Args (roll-Args (record { from = i; to = j; parens = parens; items = items }))).to P (roll-Args (record { from = i; to = j; parens = parens; items = items }))
made_args_known {toks} {P} i j parens items known =
    subst (λ (z : ℕ). Known toks z P (roll-Args (record { from = i; to = j; parens = parens; items = items }))) (sym (ap (λ r. r.to) (out-roll-Args (record { from = i; to = j; parens = parens; items = items })))) known

-- lists that were read

pub exprs_found : {toks : List Tok} {from at left : ℕ} {found all : List Expr} {x : Expr} → ExprsSoFar toks from at found → all ≡ found ++ x ∷ [] → Found toks (at + 1) (out-Expr x).to left (expr_levels x) (IsExpr toks 1 at (out-Expr x).to x) → deepest (map expr_levels found) ≤ left
    → Found toks (from + 1) (out-Expr x).to left (deepest (map expr_levels all)) (AreExprs toks from (out-Expr x).to all)
exprs_found {toks} {from} {at} {left} {found} {all} {x} h e ok low =
    let f = ok.ends.forward in
    let o = h.forward in
    record {
      is = joins_last (AreExprs toks) from at (out-Expr x).to found all x (h.joins toks (room_self toks at)) e (g.one_expr ok.is);
      ends = record { forward = omega arith; within = ok.ends.within };
      level = level_more expr_levels found all x left low e ok.level;
    }

pub fields_found : {toks : List Tok} {from at to left : ℕ} {found all : List Field} {x : Field} → FieldsSoFar toks from at found → all ≡ found ++ x ∷ [] → Found toks (at + 1) to left (field_levels x) (IsField toks at to x) → deepest (map field_levels found) ≤ left
    → Found toks from to left (deepest (map field_levels all)) (AreFields toks from to all)
fields_found {toks} {from} {at} {to} {left} {found} {all} {x} h e ok low =
    let f = ok.ends.forward in
    let o = h.forward in
    record {
      is = joins_last (AreFields toks) from at to found all x (h.joins toks (room_self toks at)) e (g.last_field ok.is);
      ends = record { forward = omega arith; within = ok.ends.within };
      level = level_more field_levels found all x left low e ok.level;
    }

pub fields_end_found : {toks : List Tok} {from at left : ℕ} {found all : List Field} → FieldsSoFar toks from at found → all ≡ found → at ≤ length toks → deepest (map field_levels found) ≤ left → Found toks from at left (deepest (map field_levels all)) (AreFields toks from at all)
fields_end_found {toks} {from} {at} {left} {found} {all} h e within low = record {
  is = joins_end (AreFields toks) from at found all (h.joins toks (room_self toks at)) e g.no_fields;
  ends = record { forward = h.forward; within = within };
  level = level_end field_levels found all left low e;
}

pub suffixes_found : {toks : List Tok} {from at to left : ℕ} {calls : Bool} {found all : List Suffix} {x : Suffix} → SuffixesSoFar toks from at found → all ≡ found ++ x ∷ [] → Found toks (at + 1) to left (suffix_levels x) (IsSuffix toks calls at to x) → deepest (map suffix_levels found) ≤ left
    → Found toks (from + 1) to left (deepest (map suffix_levels all)) (AreSuffixes toks calls from to all)
suffixes_found {toks} {from} {at} {to} {left} {calls} {found} {all} {x} h e ok low =
    let f = ok.ends.forward in
    let o = h.forward in
    record {
      is = joins_last (AreSuffixes toks calls) from at to found all x (h.joins toks calls (agree_self toks at)) e (g.one_suffix ok.is);
      ends = record { forward = omega arith; within = ok.ends.within };
      level = level_more suffix_levels found all x left low e ok.level;
    }

pub arms_found : {toks : List Tok} {from at to left : ℕ} {found all : List Arm} {x : Arm} → ArmsSoFar toks from at found → all ≡ found ++ x ∷ [] → Found toks (at + 1) to left (arm_levels x) (IsArm toks at to x) → deepest (map arm_levels found) ≤ left
    → Found toks (from + 1) to left (deepest (map arm_levels all)) (AreArms toks from to all)
arms_found {toks} {from} {at} {to} {left} {found} {all} {x} h e ok low =
    let f = ok.ends.forward in
    let o = h.forward in
    record {
      is = joins_last (AreArms toks) from at to found all x (h.joins toks (room_self toks at)) e (g.one_arm ok.is);
      ends = record { forward = omega arith; within = ok.ends.within };
      level = level_more arm_levels found all x left low e ok.level;
    }

pub targets_found : {toks : List Tok} {from at left : ℕ} {first one : Expr} {found all : List Expr} → TargetsSoFar toks from first at one found → all ≡ found ++ one ∷ [] → from ≤ at → Found toks (at + 1) (out-Expr one).to left (expr_levels one) (IsVariable toks at (out-Expr one).to one)
    → deepest (map expr_levels found) ≤ left → Found toks (from + 1) (out-Expr one).to left (deepest (map expr_levels all)) (AreTargets toks from (out-Expr one).to all)
targets_found {toks} {from} {at} {left} {first} {one} {found} {all} h e forward ok low =
    let f = ok.ends.forward in
    record {
      is = joins_last (AreTargets toks) from at (out-Expr one).to found all one (h.joins toks (room_self toks at)) e (g.one_target ok.is);
      ends = record { forward = omega arith; within = ok.ends.within };
      level = level_more expr_levels found all one left low e ok.level;
    }

-- ends behind the first of the parts

pub steps_further : {toks : List Tok} {precedence from at next to left levels : ℕ} {t : Tok} {found : List Step} {D : Type 0} → StepsSoFar toks precedence from at found → IsToken toks at t next → Found toks (next + 1) to left levels D → from ≤ to
steps_further h t ok =
    let f = h.forward in
    let n = t.next in
    let o = ok.ends.forward in
    omega arith

pub count_further : {toks : List Tok} {from first second after opener inside to left levels limit_levels step_levels body_levels : ℕ} {t u : Tok} {Start Limit Stride Body : Type 0} → Found toks (from + 1) first left levels Start → IsToken toks first t second → Found toks (second + 1) after left limit_levels Limit
    → Found toks after opener left step_levels Stride → IsToken toks opener u inside → Found toks (inside + 1) to left body_levels Body → from ≤ to
count_further a t b c u d =
    let f = a.ends.forward in
    let g = b.ends.forward in
    let h = c.ends.forward in
    let i = d.ends.forward in
    let n = t.next in
    let o = u.next in
    omega arith
