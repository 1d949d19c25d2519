-- What the functions of the parser look for at a place: the parts of the grammar behind which no part goes on, and
-- which enter no more levels than are left.
use Rattle.std.specs.Prelude.{◌≡◌, ℕ, ◌+◌, Bool, true, false, Option, List, [], ◌∷◌, map, slice_get}
use Rattle.std.specs.Option.{option_map}
use Rattle.luf_lex.specs.declared.token.Tok.{Tok}
use Rattle.luf_lex.specs.declared.token.Tok.TheVariants.{Name, Word, Sign}
use Rattle.luf_lex.specs.declared.token.Word.TheVariants as word
use Rattle.luf_lex.specs.declared.token.Sign.TheVariants as sign
use Rattle.luf_tree.specs.declared.tree.Block.{Block, out-Block}
use Rattle.luf_tree.specs.declared.tree.Stat.{Stat, out-Stat}
use Rattle.luf_tree.specs.declared.tree.StatKind.TheVariants as stat
use Rattle.luf_tree.specs.declared.tree.Declared.{Declared}
use Rattle.luf_tree.specs.declared.tree.Arm.{Arm}
use Rattle.luf_tree.specs.declared.tree.FuncBody.{FuncBody, out-FuncBody}
use Rattle.luf_tree.specs.declared.tree.Expr.{Expr, out-Expr}
use Rattle.luf_tree.specs.declared.tree.ExprKind.TheVariants as expr
use Rattle.luf_tree.specs.declared.tree.Step.{Step}
use Rattle.luf_tree.specs.declared.tree.Suffix.{Suffix}
use Rattle.luf_tree.specs.declared.tree.Args.{Args, out-Args, roll-Args}
use Rattle.luf_tree.specs.declared.tree.Field.{Field}
use Rattle.luf_tree.specs.declared.tree.Field.TheVariants as field
use Rattle.luf_tree.specs.Level.{deepest, expr_levels, field_levels, suffix_levels, step_levels, stat_levels, block_levels, arm_levels, args_levels, body_levels, if_there, block_if_there}
use Rattle.luf_tree.specs.Grammar.{At, expression, statement, IsToken, AreNames, AreParams, IsAttribute, AreDeclared, IsPath, IsMethod, IsSemicolon, IsExpr, AreSteps, IsOperand, IsSimple, IsVariable, IsParen, IsHead, AreSuffixes, IsSuffix, IsArgs, AreExprs, IsTable, AreFields, IsField, IsFuncBody, IsBlock, AreStats, IsReturn, IsStat, AreTargets, IsArm, AreArms, IsElse, IsForStep}
use Rattle.luf_descent.specs.Exact.{Then, Enters}
use Rattle.luf_descent.specs.Follow.{NotAt, IsAssigned, NotAssigned, continues_prefix, EndsOperand, EndsExpr, EndsExprs, EndsBlock, EndsStat, EndsArms, EndsField}
use Rattle.luf_descent.specs.Reads.{Part, begins_suffix}
use Rattle.luf_descent.specs.Shapes.{IsShaped, lone_args}
use Rattle.luf_descent.specs.declared.prefixes.PrefixExpr.{PrefixExpr}
use Rattle.luf_descent.specs.declared.prefixes.Shape.{Shape}
use Rattle.luf_descent.specs.declared.prefixes.Shape.TheVariants.{Variable, Call, Paren}

-- lists of names

abbrev pub ReadNames : List Tok → ℕ → (List ℕ × ℕ) → Type 0
ReadNames toks i r = Part (AreNames toks i r.1 r.0) (NotAt toks r.1 (Sign sign.Comma)) 0 0

abbrev pub ReadPath : List Tok → ℕ → (List ℕ × ℕ) → Type 0
ReadPath toks i r = Part (IsPath toks i r.1 r.0) (NotAt toks r.1 (Sign sign.Dot)) 0 0

abbrev pub ReadMethod : List Tok → ℕ → (Option ℕ × ℕ) → Type 0
ReadMethod toks i r = Part (IsMethod toks i r.1 r.0) (At toks r.1 (Sign sign.LeftParen)) 0 0

abbrev pub ReadParams : List Tok → ℕ → (List ℕ × Bool × ℕ) → Type 0
ReadParams toks i r = Part (AreParams toks i r.2 r.0 r.1) (At toks r.2 (Sign sign.RightParen)) 0 0

abbrev pub ReadAttribute : List Tok → ℕ → (Option ℕ × ℕ) → Type 0
ReadAttribute toks i r = Part (IsAttribute toks i r.1 r.0) (NotAt toks r.1 (Sign sign.Less)) 0 0

pub record EndsDeclared (toks : List Tok) (i : ℕ) : Type 0 where
  pub comma : NotAt toks i (Sign sign.Comma)
  pub less : NotAt toks i (Sign sign.Less)

abbrev pub ReadDeclared : List Tok → ℕ → (List Declared × ℕ) → Type 0
ReadDeclared toks i r = Part (AreDeclared toks i r.1 r.0) (EndsDeclared toks r.1) 0 0

-- expressions

abbrev pub ReadExpr : List Tok → ℕ → ℕ → ℕ → Expr → Type 0
ReadExpr toks least left i e = Part (IsExpr toks least i (out-Expr e).to e) (EndsExpr toks least (out-Expr e).to) (expr_levels e) left

-- the steps of a chain, up to a place
abbrev pub ReadSteps : List Tok → ℕ → ℕ → ℕ → (List Step × ℕ) → Type 0
ReadSteps toks level left i r = Part (AreSteps toks level i r.1 r.0) (EndsExpr toks level r.1) (deepest (map step_levels r.0)) left

-- a chain that goes on from its first operand
abbrev pub ReadChain : List Tok → ℕ → ℕ → ℕ → Expr → Expr → Type 0
ReadChain toks level left i first = Then (ReadSteps toks level left (out-Expr first).to) (λ r e. e ≡ expression i r.1 (expr.Chain first r.0))

abbrev pub ReadOperand : List Tok → ℕ → ℕ → Expr → Type 0
ReadOperand toks left i e = Part (IsOperand toks i (out-Expr e).to e) (EndsOperand toks (out-Expr e).to) (expr_levels e) left

abbrev pub ReadSimple : List Tok → ℕ → ℕ → Expr → Type 0
ReadSimple toks left i e = Part (IsSimple toks i (out-Expr e).to e) (continues_prefix (slice_get toks (out-Expr e).to) ≡ false) (expr_levels e) left

-- a unary operator, and its operand from a place
abbrev pub ReadUnary : List Tok → ℕ → ℕ → ℕ → Expr → Type 0
ReadUnary toks left i next = Then (Enters left) (λ inner. Then (ReadOperand toks inner next) (λ operand e. e ≡ expression i (out-Expr operand).to (expr.Unary operand)))

-- a `^` behind a base, and its exponent
abbrev pub ReadExponent : List Tok → ℕ → ℕ → Expr → ℕ → Expr → Type 0
ReadExponent toks left i base next = Then (Enters left) (λ inner. Then (ReadOperand toks inner next) (λ exponent e. e ≡ expression i (out-Expr exponent).to (expr.Power base (out-Expr base).to exponent)))

-- what stands behind a base: a `^` and an exponent, if a `^` is there
pub record ReadPowerRest (toks : List Tok) (left i : ℕ) (base e : Expr) : Type 0 where
  pub power : (next : ℕ) → IsToken toks (out-Expr base).to (Sign sign.Caret) next → ReadExponent toks left i base next e
  pub none : NotAt toks (out-Expr base).to (Sign sign.Caret) → e ≡ base

-- a simple expression, or its power
abbrev pub ReadPower : List Tok → ℕ → ℕ → Expr → Type 0
ReadPower toks left i = Then (ReadSimple toks left i) (λ base. ReadPowerRest toks left i base)

-- a function from its `(`
abbrev pub ReadFuncBody : List Tok → ℕ → ℕ → FuncBody → Type 0
ReadFuncBody toks left i f = Part (IsFuncBody toks i (out-FuncBody f).to f) (Unit {0}) (body_levels f) left

-- `function` and a body from a place
abbrev pub ReadFunction : List Tok → ℕ → ℕ → ℕ → Expr → Type 0
ReadFunction toks left i next = Then (Enters left) (λ inner. Then (ReadFuncBody toks inner next) (λ f e. e ≡ expression i (out-FuncBody f).to (expr.Function f)))

abbrev pub ReadTable : List Tok → ℕ → ℕ → (List Field × ℕ) → Type 0
ReadTable toks left i r = Part (IsTable toks i r.1 r.0) (Unit {0}) (deepest (map field_levels r.0) + 1) left

abbrev pub ReadTableExpr : List Tok → ℕ → ℕ → Expr → Type 0
ReadTableExpr toks left i = Then (ReadTable toks left i) (λ r e. e ≡ expression i r.1 (expr.Table r.0))

abbrev pub ReadFields : List Tok → ℕ → ℕ → (List Field × ℕ) → Type 0
ReadFields toks left i r = Part (AreFields toks i r.1 r.0) (At toks r.1 (Sign sign.RightBrace)) (deepest (map field_levels r.0)) left

abbrev pub ReadField : List Tok → ℕ → ℕ → (Field × ℕ) → Type 0
ReadField toks left i r = Part (IsField toks i r.1 r.0) (EndsField toks r.1) (field_levels r.0) left

-- a field with a key, behind its `[`
abbrev pub ReadKeyed : List Tok → ℕ → ℕ → (Field × ℕ) → Type 0
ReadKeyed toks left inside =
    Then (Enters left) (λ inner. Then (ReadExpr toks 1 inner inside) (λ key. Then (IsToken toks (out-Expr key).to (Sign sign.RightBracket)) (λ close. Then (IsToken toks close (Sign sign.Assign)) (λ from.
    Then (ReadExpr toks 1 left from) (λ value r. r ≡ (field.Keyed key value, (out-Expr value).to))))))

abbrev pub ReadExprs : List Tok → ℕ → ℕ → (List Expr × ℕ) → Type 0
ReadExprs toks left i r = Part (AreExprs toks i r.1 r.0) (EndsExprs toks r.1) (deepest (map expr_levels r.0)) left

abbrev pub ReadPrefix : List Tok → ℕ → ℕ → PrefixExpr → Type 0
ReadPrefix toks left i p = Part (IsShaped toks i (out-Expr p.expr).to p.shape p.expr) (begins_suffix toks (out-Expr p.expr).to ≡ false) (expr_levels p.expr) left

-- a name or an expression in parentheses, by itself
abbrev pub ReadHead : List Tok → ℕ → ℕ → PrefixExpr → Type 0
ReadHead toks left i p = Part (IsHead toks i (out-Expr p.expr).to p.expr) (IsShaped toks i (out-Expr p.expr).to p.shape p.expr) (expr_levels p.expr) left

abbrev pub ReadParen : List Tok → ℕ → ℕ → Expr → Type 0
ReadParen toks left i e = Part (IsParen toks i (out-Expr e).to e) (Unit {0}) (expr_levels e) left

abbrev pub ReadSuffixes : List Tok → ℕ → ℕ → (List Suffix × Bool × ℕ) → Type 0
ReadSuffixes toks left i r = Part (AreSuffixes toks r.1 i r.2 r.0) (begins_suffix toks r.2 ≡ false) (deepest (map suffix_levels r.0)) left

abbrev pub ReadSuffix : List Tok → ℕ → ℕ → (Suffix × Bool × ℕ) → Type 0
ReadSuffix toks left i r = Part (IsSuffix toks r.1 i r.2 r.0) (Unit {0}) (suffix_levels r.0) left

abbrev pub ReadArgs : List Tok → ℕ → ℕ → Args → Type 0
ReadArgs toks left i a = Part (IsArgs toks i (out-Args a).to a) (Unit {0}) (args_levels a) left

-- arguments in parentheses
abbrev pub list_args : ℕ → ℕ → List Expr → Args
list_args i j es = roll-Args (record { from = i; to = j; parens = true; items = es })

-- arguments in parentheses, behind the `(`
pub record ReadListRest (toks : List Tok) (inner i inside : ℕ) (a : Args) : Type 0 where
  pub empty : (to : ℕ) → IsToken toks inside (Sign sign.RightParen) to → a ≡ list_args i to []
  pub list : NotAt toks inside (Sign sign.RightParen) → Then (ReadExprs toks inner inside) (λ r. Then (IsToken toks r.1 (Sign sign.RightParen)) (λ to a. a ≡ list_args i to r.0)) a

abbrev pub ReadListArgs : List Tok → ℕ → ℕ → ℕ → Args → Type 0
ReadListArgs toks left i inside = Then (Enters left) (λ inner. ReadListRest toks inner i inside)

abbrev pub ReadLoneArg : List Tok → ℕ → ℕ → Expr → Type 0
ReadLoneArg toks left i e = Part (IsArgs toks i (out-Expr e).to (lone_args i e)) (Unit {0}) (expr_levels e + 1) left

-- functions and blocks

abbrev pub ReadBlock : List Tok → ℕ → ℕ → Block → Type 0
ReadBlock toks left i b = Part (IsBlock toks i (out-Block b).to b) (EndsBlock toks (out-Block b).to) (block_levels b) left

abbrev pub ReadStats : List Tok → ℕ → ℕ → (List Stat × ℕ) → Type 0
ReadStats toks left i r = Part (AreStats toks i r.1 r.0) (EndsBlock toks r.1) (deepest (map stat_levels r.0)) left

abbrev pub ReadSemicolon : List Tok → ℕ → ℕ → Type 0
ReadSemicolon toks i j = IsSemicolon toks i j × EndsBlock toks j

abbrev pub ReadReturn : List Tok → ℕ → ℕ → Stat → Type 0
ReadReturn toks left i s = Part (IsReturn toks i (out-Stat s).to s) (EndsBlock toks (out-Stat s).to) (stat_levels s) left

-- a block that its first token enters, and its `end`
abbrev pub ReadEnded : List Tok → ℕ → ℕ → (Block × ℕ) → Type 0
ReadEnded toks left from = Then (Enters left) (λ inner. Then (ReadBlock toks inner from) (λ body. Then (IsToken toks (out-Block body).to (Word word.End)) (λ to r. r ≡ (body, to))))

-- statements

abbrev pub ReadStat : List Tok → ℕ → ℕ → Stat → Type 0
ReadStat toks left i s = Part (IsStat toks i (out-Stat s).to s) (EndsStat toks (out-Stat s).to) (stat_levels s) left

abbrev pub ReadLabel : List Tok → ℕ → ℕ → Stat → Type 0
ReadLabel toks i name = Then (IsToken toks name Name) (λ close. Then (IsToken toks close (Sign sign.DoubleColon)) (λ to s. s ≡ statement i to (stat.Label name)))

abbrev pub ReadGoto : List Tok → ℕ → ℕ → Stat → Type 0
ReadGoto toks i name = Then (IsToken toks name Name) (λ to s. s ≡ statement i to (stat.Goto name))

abbrev pub ReadDo : List Tok → ℕ → ℕ → ℕ → Stat → Type 0
ReadDo toks left i next = Then (ReadEnded toks left next) (λ r s. s ≡ statement i r.1 (stat.Do r.0))

abbrev pub ReadWhile : List Tok → ℕ → ℕ → ℕ → Stat → Type 0
ReadWhile toks left i next =
    Then (ReadExpr toks 1 left next) (λ test. Then (IsToken toks (out-Expr test).to (Word word.Do)) (λ inside. Then (ReadEnded toks left inside) (λ r s. s ≡ statement i r.1 (stat.While test r.0))))

abbrev pub ReadRepeat : List Tok → ℕ → ℕ → ℕ → Stat → Type 0
ReadRepeat toks left i next =
    Then (Enters left) (λ inner. Then (ReadBlock toks inner next) (λ body. Then (IsToken toks (out-Block body).to (Word word.Until)) (λ from. Then (ReadExpr toks 1 left from)
    (λ test s. s ≡ statement i (out-Expr test).to (stat.Repeat body test)))))

abbrev pub ReadArms : List Tok → ℕ → ℕ → (List Arm × ℕ) → Type 0
ReadArms toks left i r = Part (AreArms toks i r.1 r.0) (EndsArms toks r.1) (deepest (map arm_levels r.0)) left

abbrev pub ReadArm : List Tok → ℕ → ℕ → (Arm × ℕ) → Type 0
ReadArm toks left i r = Part (IsArm toks i r.1 r.0) (EndsBlock toks r.1) (arm_levels r.0) left

abbrev pub ReadElse : List Tok → ℕ → ℕ → (Option Block × ℕ) → Type 0
ReadElse toks left i r = Part (IsElse toks i r.1 r.0) (At toks r.1 (Word word.End)) (block_if_there (option_map block_levels r.0)) left

abbrev pub ReadIf : List Tok → ℕ → ℕ → ℕ → Stat → Type 0
ReadIf toks left i next =
    Then (ReadArms toks left next) (λ arms. Then (ReadElse toks left arms.1) (λ last. Then (IsToken toks last.1 (Word word.End)) (λ to s. s ≡ statement i to (stat.If arms.0 last.0))))

abbrev pub ReadForStep : List Tok → ℕ → ℕ → (Option Expr × ℕ) → Type 0
ReadForStep toks left i r = Part (IsForStep toks i r.1 r.0) (At toks r.1 (Word word.Do)) (if_there (option_map expr_levels r.0)) left

-- `for` with a count, behind its `=`
abbrev pub ReadCount : List Tok → ℕ → ℕ → ℕ → ℕ → Stat → Type 0
ReadCount toks left i name from =
    Then (ReadExpr toks 1 left from) (λ first. Then (IsToken toks (out-Expr first).to (Sign sign.Comma)) (λ second. Then (ReadExpr toks 1 left second) (λ limit. Then (ReadForStep toks left (out-Expr limit).to) (λ step.
    Then (IsToken toks step.1 (Word word.Do)) (λ inside. Then (ReadEnded toks left inside) (λ r s. s ≡ statement i r.1 (stat.For name first limit step.0 r.0)))))))

-- `for` with names, behind its `for`
abbrev pub ReadForIn : List Tok → ℕ → ℕ → ℕ → Stat → Type 0
ReadForIn toks left i next =
    Then (ReadNames toks next) (λ names. Then (IsToken toks names.1 (Word word.In)) (λ from. Then (ReadExprs toks left from) (λ values. Then (IsToken toks values.1 (Word word.Do)) (λ inside.
    Then (ReadEnded toks left inside) (λ r s. s ≡ statement i r.1 (stat.ForIn names.0 values.0 r.0))))))

-- a `for` statement behind its `for`: with a count where a name and `=` stand there, else with names
pub record ReadFor (toks : List Tok) (left i next : ℕ) (s : Stat) : Type 0 where
  pub count : (from : ℕ) → IsAssigned toks next from → ReadCount toks left i next from s
  pub names : NotAssigned toks next → ReadForIn toks left i next s

abbrev pub ReadFunctionStat : List Tok → ℕ → ℕ → ℕ → Stat → Type 0
ReadFunctionStat toks left i next =
    Then (Enters left) (λ inner. Then (ReadPath toks next) (λ path. Then (ReadMethod toks path.1) (λ method. Then (ReadFuncBody toks inner method.1)
    (λ f s. s ≡ statement i (out-FuncBody f).to (stat.Function path.0 method.0 f)))))

-- `local function` behind its `function`
abbrev pub ReadLocalFunction : List Tok → ℕ → ℕ → ℕ → Stat → Type 0
ReadLocalFunction toks left i name =
    Then (Enters left) (λ inner. Then (IsToken toks name Name) (λ inside. Then (ReadFuncBody toks inner inside) (λ f s. s ≡ statement i (out-FuncBody f).to (stat.LocalFunction name f))))

-- names behind `local`, and their values if there are any
pub record ReadValues (toks : List Tok) (left i : ℕ) (declared : List Declared) (end : ℕ) (s : Stat) : Type 0 where
  pub values : (from : ℕ) → IsToken toks end (Sign sign.Assign) from → Then (ReadExprs toks left from) (λ r s. s ≡ statement i r.1 (stat.Local declared r.0)) s
  pub none : NotAt toks end (Sign sign.Assign) → s ≡ statement i end (stat.Local declared [])

abbrev pub ReadNamed : List Tok → ℕ → ℕ → ℕ → Stat → Type 0
ReadNamed toks left i next = Then (ReadDeclared toks next) (λ r. ReadValues toks left i r.0 r.1)

-- a `local` statement behind its `local`
pub record ReadLocal (toks : List Tok) (left i next : ℕ) (s : Stat) : Type 0 where
  pub function : (name : ℕ) → IsToken toks next (Word word.Function) name → ReadLocalFunction toks left i name s
  pub named : NotAt toks next (Word word.Function) → ReadNamed toks left i next s

abbrev pub ReadVariable : List Tok → ℕ → ℕ → Expr → Type 0
ReadVariable toks left i e = Part (IsVariable toks i (out-Expr e).to e) (begins_suffix toks (out-Expr e).to ≡ false) (expr_levels e) left

abbrev pub ReadTargets : List Tok → ℕ → ℕ → (List Expr × ℕ) → Type 0
ReadTargets toks left i r = Part (AreTargets toks i r.1 r.0) (At toks r.1 (Sign sign.Assign)) (deepest (map expr_levels r.0)) left

-- the targets of an assignment, the first of which is this one
pub record ReadMoreTargets (toks : List Tok) (left i : ℕ) (first : Expr) (r : List Expr × ℕ) : Type 0 where
  pub others : List Expr
  pub begins : r.0 ≡ first ∷ others
  pub targets : ReadTargets toks left i r

-- an assignment with this first target
abbrev pub ReadAssign : List Tok → ℕ → ℕ → Expr → Stat → Type 0
ReadAssign toks left i first =
    Then (ReadMoreTargets toks left i first) (λ targets. Then (IsToken toks targets.1 (Sign sign.Assign)) (λ from. Then (ReadExprs toks left from) (λ values s. s ≡ statement i values.1 (stat.Assign targets.0 values.0))))

-- what a statement that begins with a prefix expression is, by the shape of that
abbrev pub ReadShaped : List Tok → ℕ → ℕ → Shape → Expr → Stat → Type 0
ReadShaped toks left i Call e s = s ≡ statement i (out-Expr e).to (stat.Call e)
ReadShaped toks left i Variable e s = ReadAssign toks left i e s
ReadShaped toks left i Paren e s = ⊥

-- a call or an assignment
abbrev pub ReadExprStat : List Tok → ℕ → ℕ → Stat → Type 0
ReadExprStat toks left i = Then (ReadPrefix toks left i) (λ p. ReadShaped toks left i p.shape p.expr)

-- `break`, `;`, `goto` or a label, by the token that stands there
pub record ReadShort (toks : List Tok) (i : ℕ) (s : Stat) : Type 0 where
  pub break : (to : ℕ) → IsToken toks i (Word word.Break) to → s ≡ statement i to stat.Break
  pub empty : (to : ℕ) → IsToken toks i (Sign sign.Semicolon) to → s ≡ statement i to stat.Empty
  pub goto : (name : ℕ) → IsToken toks i (Word word.Goto) name → ReadGoto toks i name s
  pub label : (name : ℕ) → IsToken toks i (Sign sign.DoubleColon) name → ReadLabel toks i name s
  pub other : NotAt toks i (Word word.Break) → NotAt toks i (Sign sign.Semicolon) → NotAt toks i (Word word.Goto) → NotAt toks i (Sign sign.DoubleColon) → ⊥
