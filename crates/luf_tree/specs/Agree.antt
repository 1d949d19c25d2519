-- Lists of tokens that agree, and what depends only on that.
use Rattle.std.specs.Prelude.{◌≡◌, ℕ, ◌<◌, ◌≤◌, List, [], ◌∷◌, slice_get, take}
use Rattle.luf_lex.specs.declared.token.Tok.{Tok}
use Rattle.luf_tree.specs.declared.tree.Expr.{Expr}
use Rattle.luf_tree.specs.declared.tree.Suffix.{Suffix}
use Rattle.luf_tree.specs.Grammar.{NoParenFollows, IsPrefix, IsExpr, suffixed}

-- the other list has the same tokens before a place
pub record AgreeBefore (toks other : List Tok) (place : ℕ) : Type 0 where
  pub same : (k : ℕ) → k < place → slice_get other k ≡ slice_get toks k

-- What is derived from one place to another is derived in each list that agrees before the other place, and has no `(`
-- there that was not there.
pub record IsLocal (toks : List Tok) (i j : ℕ) (Derived : List Tok → Type 0) : Type 0 where
  pub forward : i ≤ j
  pub at : (other : List Tok) → AgreeBefore toks other j → (NoParenFollows toks j → NoParenFollows other j) → Derived other

-- a head with the first of its suffixes
abbrev pub front_of : ℕ → ℕ → Expr → List Suffix → Expr
front_of i j head [] = head
front_of i j head (s ∷ front) = suffixed i j head (s ∷ front)

-- The front of a suffixed expression ends somewhere within it. It is a prefix expression there, and an expression by
-- itself where the tokens are cut off at its end.
pub record Front (toks : List Tok) (i k : ℕ) (head : Expr) (front : List Suffix) : Type 0 where
  pub to : ℕ
  pub within : to ≤ k
  pub is_prefix : IsPrefix toks i to (front_of i to head front)
  pub alone : IsExpr (take to toks) 1 i to (front_of i to head front)
