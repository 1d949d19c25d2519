-- What kind of prefix expression was read.
use Rattle.std.specs.Prelude.{◌≡◌, ℕ, Bool, true, false, Option, Some, None, List, [], ◌∷◌}
use Rattle.luf_lex.specs.declared.token.Tok.{Tok}
use Rattle.luf_lex.specs.declared.token.Tok.TheVariants as tok
use Rattle.luf_lex.specs.declared.token.Word.{Word}
use Rattle.luf_lex.specs.declared.token.Word.TheVariants as word
use Rattle.luf_lex.specs.declared.token.Sign.{Sign}
use Rattle.luf_lex.specs.declared.token.Sign.TheVariants as sign
use Rattle.luf_tree.specs.declared.tree.Expr.{Expr, out-Expr}
use Rattle.luf_tree.specs.declared.tree.Args.{Args, roll-Args}
use Rattle.luf_tree.specs.Grammar.{expression, IsToken, IsSimple, IsVariable, IsCall, IsParen}
use Rattle.luf_tree.specs.Level.{expr_levels}
use Rattle.luf_tree.specs.declared.tree.ExprKind.{ExprKind}
use Rattle.luf_tree.specs.declared.tree.ExprKind.TheVariants as expr
use Rattle.luf_descent.specs.declared.prefixes.Shape.{Shape}
use Rattle.luf_descent.specs.declared.prefixes.Shape.TheVariants.{Variable, Call, Paren}

-- the tokens from i to j are a prefix expression of this shape
abbrev pub IsShaped : List Tok → ℕ → ℕ → Shape → Expr → Type 0
IsShaped toks i j Variable e = IsVariable toks i j e
IsShaped toks i j Call e = IsCall toks i j e
IsShaped toks i j Paren e = IsParen toks i j e

-- the shape of a head with suffixes, the last of which makes a call or not
abbrev pub suffixed_shape : Bool → Shape
suffixed_shape true = Call
suffixed_shape false = Variable

-- a lone argument without parentheses
abbrev pub lone_args : ℕ → Expr → Args
lone_args at e = roll-Args (record { from = at; to = (out-Expr e).to; parens = false; items = e ∷ [] })

-- a token of this kind is an expression by itself, and enters no level
abbrev pub IsLeaf : Tok → ExprKind → Type 0
IsLeaf tok kind = (toks : List Tok) (i j : ℕ) → IsToken toks i tok j → (IsSimple toks i j (expression i j kind) × (expr_levels (expression i j kind) ≡ 0))

abbrev pub word_leaf : Word → Option ExprKind
word_leaf word.Nil = Some expr.Nil
word_leaf word.True = Some expr.True
word_leaf word.False = Some expr.False
word_leaf _ = None

abbrev pub sign_leaf : Sign → Option ExprKind
sign_leaf sign.Dots = Some expr.Vararg
sign_leaf _ = None

-- what a token is that is an expression by itself
abbrev pub leaf_kind : Tok → Option ExprKind
leaf_kind tok.Number = Some expr.Number
leaf_kind tok.Short = Some expr.Str
leaf_kind tok.Long = Some expr.Str
leaf_kind (tok.Word w) = word_leaf w
leaf_kind (tok.Sign s) = sign_leaf s
leaf_kind tok.Name = None
