-- Parts by themselves: in the tokens that are cut off at their end.
use Rattle.std.proofs.Common.{◌≡◌, ℕ, zero, suc, ◌≤◌, ◌<◌, Bool, true, false, List, [], ◌∷◌, ◌++◌, take, slice_get, refl, arith}
use Rattle.std.proofs.lemmas.List.{length-take}
use Rattle.std.proofs.lemmas.Option.{slice_get_within}
use Rattle.luf_lex.specs.declared.token.Tok.{Tok}
use Rattle.luf_tree.specs.declared.tree.Expr.{Expr}
use Rattle.luf_tree.specs.declared.tree.Suffix.{Suffix}
use Rattle.luf_tree.specs.Grammar as g
use Rattle.luf_tree.specs.Grammar.{NoParenFollows, IsHead, IsPrefix, IsExpr, AreSuffixes}
use Rattle.luf_tree.specs.Agree.{AgreeBefore, IsLocal, Front, front_of}
use Rattle.luf_tree.proofs.Locality.{local_prefix, local_suffixes}

same_before : (toks : List Tok) (j k : ℕ) → k < j → slice_get (take j toks) k ≡ slice_get toks k
same_before toks zero k less = absurd (omega (arith, less))
same_before [] (suc j) k less = refl
same_before (t ∷ toks) (suc j) zero less = refl
same_before (t ∷ toks) (suc j) (suc k) less = same_before toks j k (omega (arith, less))

pub cut_agrees : (toks : List Tok) (j : ℕ) → AgreeBefore toks (take j toks) j
cut_agrees toks j = record { same = λ k less. same_before toks j k less }

-- in the tokens that are cut off at a place, none stands there
cut_closed : (toks : List Tok) (j : ℕ) → NoParenFollows (take j toks) j
cut_closed toks j there = omega (arith, slice_get_within (take j toks) j _ there, length-take j toks)

-- what is local is derived in the tokens that are cut off at its end
pub cut_off : {toks : List Tok} {i j : ℕ} {Derived : List Tok → Type 0} → IsLocal toks i j Derived → Derived (take j toks)
cut_off {toks} {j} part = part.at (take j toks) (cut_agrees toks j) (λ _. cut_closed toks j)

-- a prefix expression is an expression by itself, where the tokens are cut off at its end
pub prefix_alone : {toks : List Tok} {i j : ℕ} {e : Expr} → IsPrefix toks i j e → IsExpr (take j toks) 1 i j e
prefix_alone {toks} {j} d = g.operand_expr (g.simple_operand (g.prefix_simple (cut_off (local_prefix d)) (cut_closed toks j)))

head_prefix : {toks : List Tok} {i j : ℕ} {head : Expr} → IsHead toks i j head → IsPrefix toks i j head
head_prefix (g.name_head t) = g.variable_prefix (g.name_variable t)
head_prefix (g.paren_head d) = g.paren_prefix d

record SomeSuffixes (toks : List Tok) (j k : ℕ) (front : List Suffix) : Type 0 where
  calls : Bool
  to : ℕ
  within : to ≤ k
  derived : AreSuffixes toks calls j to front

-- the first of some suffixes are suffixes
first_suffixes : {toks : List Tok} {calls : Bool} {j k : ℕ} (s : Suffix) (front rest : List Suffix) → AreSuffixes toks calls j k (s ∷ (front ++ rest)) → SomeSuffixes toks j k (s ∷ front)
first_suffixes s [] rest (g.one_suffix d) = record { calls = _; to = _; within = omega arith; derived = g.one_suffix d }
first_suffixes s [] rest (g.more_suffixes d more) = record { calls = _; to = _; within = (local_suffixes more).forward; derived = g.one_suffix d }
first_suffixes s (t ∷ front) rest (g.more_suffixes d more) =
    let f = first_suffixes t front rest more in
    record { calls = f.calls; to = f.to; within = f.within; derived = g.more_suffixes d f.derived }

suffixed_prefix : (calls : Bool) {toks : List Tok} {i j k : ℕ} {head : Expr} {s : Suffix} {front : List Suffix} → IsHead toks i j head → AreSuffixes toks calls j k (s ∷ front) → IsPrefix toks i k (front_of i k head (s ∷ front))
suffixed_prefix true head suffixes = g.call_prefix (g.suffixed_call head suffixes)
suffixed_prefix false head suffixes = g.variable_prefix (g.suffixed_variable head suffixes)

pub front_alone : (toks : List Tok) (calls : Bool) (i j k : ℕ) (head : Expr) (front rest : List Suffix) → IsHead toks i j head → AreSuffixes toks calls j k (front ++ rest) → Front toks i k head front
front_alone toks calls i j k head [] rest d suffixes = record { to = j; within = (local_suffixes suffixes).forward; is_prefix = head_prefix d; alone = prefix_alone (head_prefix d) }
front_alone toks calls i j k head (s ∷ front) rest d suffixes =
    let f = first_suffixes s front rest suffixes in
    let prefix : IsPrefix toks i f.to (front_of i f.to head (s ∷ front)) = suffixed_prefix f.calls d f.derived in
    record { to = f.to; within = f.within; is_prefix = prefix; alone = prefix_alone prefix }
