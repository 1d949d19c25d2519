-- Why each part is refused.
use Rattle.std.specs.Prelude.{ℕ, ◌+◌, Bool, true, false, List, []}
use Rattle.luf_lex.specs.declared.token.Tok.{Tok}
use Rattle.luf_lex.specs.declared.token.Tok.TheVariants.{Word}
use Rattle.luf_lex.specs.declared.token.Word.TheVariants as word
use Rattle.luf_tree.specs.declared.tree.Block.{Block}
use Rattle.luf_tree.specs.declared.tree.Suffix.{Suffix}
use Rattle.luf_tree.specs.declared.tree.Field.{Field}
use Rattle.luf_tree.specs.declared.tree.Expr.{Expr, out-Expr}
use Rattle.luf_tree.specs.Entry.{Entry, entered}
use Rattle.luf_tree.specs.Grammar.{IsToken, AreNames, AreParams, IsAttribute, AreDeclared, IsPath, IsMethod, IsExpr, IsOperand, IsSimple, IsPrefix, IsVariable, IsParen, IsHead, AreSuffixes, IsSuffix, IsArgs, AreExprs, IsTable, AreFields, IsField, IsFuncBody, IsBlock, IsReturn, IsStat, AreTargets, IsArm, AreArms, IsElse, IsForStep}
use Rattle.luf_descent.specs.Parts as p
use Rattle.luf_descent.specs.PartEntries as entries
use Rattle.luf_descent.specs.Stops.{opens_token, Stops, StopsName}
use Rattle.luf_descent.specs.declared.error.ParseErr.{ParseErr}

abbrev pub no_entries : {A : Type 0} → ℕ → A → List Entry
no_entries level x = []

-- one token, which is its own completion
abbrev pub StopsToken : List Tok → ℕ → ℕ → Tok → ParseErr → Type 0
StopsToken toks left i t = Stops {A = ℕ} {B = ℕ} toks i left (opens_token t) (λ l k n. IsToken l i t k) no_entries (λ l n. IsToken l i t)

abbrev pub StopsExpr : List Tok → ℕ → ℕ → ℕ → ParseErr → Type 0
StopsExpr toks least left i = Stops toks i left false (λ l k x. IsExpr l least i k x) entries.expr_entries (λ l n. p.ReadExpr l least n i)

-- an operand, of which this is said
abbrev pub StopsOperand : {B : Type 0} → List Tok → ℕ → ℕ → (List Tok → ℕ → B → Type 0) → ParseErr → Type 0
StopsOperand toks left i P = Stops toks i left false (λ l k x. IsOperand l i k x) entries.expr_entries P

abbrev pub StopsSimple : {B : Type 0} → List Tok → ℕ → ℕ → (List Tok → ℕ → B → Type 0) → ParseErr → Type 0
StopsSimple toks left i P = Stops toks i left false (λ l k x. IsSimple l i k x) entries.expr_entries P

abbrev pub StopsFuncBody : List Tok → ℕ → ℕ → ParseErr → Type 0
StopsFuncBody toks left i = Stops toks i left true (λ l k x. IsFuncBody l i k x) entries.body_entries (λ l n. p.ReadFuncBody l n i)

-- a table enters a level at its `{`
abbrev pub table_entries : ℕ → ℕ → List Field → List Entry
table_entries i level fields = entered i level (entries.fields_entries (level + 1) fields)

abbrev pub StopsTable : List Tok → ℕ → ℕ → ParseErr → Type 0
StopsTable toks left i = Stops toks i left false (λ l k x. IsTable l i k x) (table_entries i) (λ l n. p.ReadTable l n i)

abbrev pub StopsFields : List Tok → ℕ → ℕ → ParseErr → Type 0
StopsFields toks left i = Stops toks i left false (λ l k x. AreFields l i k x) entries.fields_entries (λ l n. p.ReadFields l n i)

abbrev pub StopsField : {B : Type 0} → List Tok → ℕ → ℕ → (List Tok → ℕ → B → Type 0) → ParseErr → Type 0
StopsField toks left i P = Stops toks i left false (λ l k x. IsField l i k x) entries.field_entries P

abbrev pub StopsExprs : List Tok → ℕ → ℕ → ParseErr → Type 0
StopsExprs toks left i = Stops toks i left false (λ l k x. AreExprs l i k x) entries.exprs_entries (λ l n. p.ReadExprs l n i)

abbrev pub StopsPrefix : List Tok → ℕ → ℕ → ParseErr → Type 0
StopsPrefix toks left i = Stops toks i left false (λ l k x. IsPrefix l i k x) entries.expr_entries (λ l n. p.ReadPrefix l n i)

abbrev pub StopsHead : List Tok → ℕ → ℕ → ParseErr → Type 0
StopsHead toks left i = Stops toks i left false (λ l k x. IsHead l i k x) entries.expr_entries (λ l n. p.ReadHead l n i)

abbrev pub StopsParen : List Tok → ℕ → ℕ → ParseErr → Type 0
StopsParen toks left i = Stops toks i left false (λ l k x. IsParen l i k x) entries.expr_entries (λ l n. p.ReadParen l n i)

-- suffixes, and one suffix, the last of which makes a call or not
abbrev pub StopsSuffixes : List Tok → ℕ → ℕ → ParseErr → Type 0
StopsSuffixes toks left i = Stops {A = Bool × List Suffix} toks i left true (λ l k x. AreSuffixes l x.0 i k x.1) (λ level x. entries.suffixes_entries level x.1) (λ l n. p.ReadSuffixes l n i)

abbrev pub StopsSuffix : List Tok → ℕ → ℕ → ParseErr → Type 0
StopsSuffix toks left i = Stops {A = Bool × Suffix} toks i left true (λ l k x. IsSuffix l x.0 i k x.1) (λ level x. entries.suffix_entries level x.1) (λ l n. p.ReadSuffix l n i)

abbrev pub StopsArgs : {B : Type 0} → List Tok → ℕ → ℕ → (List Tok → ℕ → B → Type 0) → ParseErr → Type 0
StopsArgs toks left i P = Stops toks i left true (λ l k x. IsArgs l i k x) entries.args_entries P

abbrev pub StopsBlock : List Tok → ℕ → ℕ → ParseErr → Type 0
StopsBlock toks left i = Stops toks i left false (λ l k x. IsBlock l i k x) entries.block_entries (λ l n. p.ReadBlock l n i)

abbrev pub StopsReturn : List Tok → ℕ → ℕ → ParseErr → Type 0
StopsReturn toks left i = Stops toks i left false (λ l k x. IsReturn l i k x) entries.stat_entries (λ l n. p.ReadReturn l n i)

abbrev pub StopsStat : {B : Type 0} → List Tok → ℕ → ℕ → (List Tok → ℕ → B → Type 0) → ParseErr → Type 0
StopsStat toks left i P = Stops toks i left false (λ l k x. IsStat l i k x) entries.stat_entries P

-- lists of names enter no level

abbrev pub StopsNames : List Tok → ℕ → ℕ → ParseErr → Type 0
StopsNames toks left i = Stops toks i left false (λ l k x. AreNames l i k x) no_entries (λ l n. p.ReadNames l i)

-- the path and the method of a function, behind which a `(` stands
abbrev pub StopsPath : List Tok → ℕ → ParseErr → Type 0
StopsPath toks i = StopsName toks i (λ l k x. IsPath l i k x) (λ l. p.ReadPath l i)

abbrev pub StopsMethod : List Tok → ℕ → ParseErr → Type 0
StopsMethod toks i = StopsName toks i (λ l k x. IsMethod l i k x) (λ l. p.ReadMethod l i)

abbrev pub StopsParams : List Tok → ℕ → ℕ → ParseErr → Type 0
StopsParams toks left i = Stops {A = List ℕ × Bool} toks i left false (λ l k x. AreParams l i k x.0 x.1) no_entries (λ l n. p.ReadParams l i)

abbrev pub StopsAttribute : List Tok → ℕ → ℕ → ParseErr → Type 0
StopsAttribute toks left i = Stops toks i left false (λ l k x. IsAttribute l i k x) no_entries (λ l n. p.ReadAttribute l i)

abbrev pub StopsDeclared : List Tok → ℕ → ℕ → ParseErr → Type 0
StopsDeclared toks left i = Stops toks i left false (λ l k x. AreDeclared l i k x) no_entries (λ l n. p.ReadDeclared l i)

-- a block and its `end`
abbrev pub StopsEnded : List Tok → ℕ → ℕ → ℕ → ParseErr → Type 0
StopsEnded toks left opener i = Stops {A = Block × ℕ} toks i left false (λ l k x. IsBlock l i x.1 x.0 × IsToken l x.1 (Word word.End) k) (λ level x. entered opener level (entries.block_entries (level + 1) x.0)) (λ l n. p.ReadEnded l n i)

abbrev pub StopsArm : List Tok → ℕ → ℕ → ParseErr → Type 0
StopsArm toks left i = Stops toks i left false (λ l k x. IsArm l i k x) entries.arm_entries (λ l n. p.ReadArm l n i)

abbrev pub StopsArms : List Tok → ℕ → ℕ → ParseErr → Type 0
StopsArms toks left i = Stops toks i left false (λ l k x. AreArms l i k x) entries.arms_entries (λ l n. p.ReadArms l n i)

abbrev pub StopsElse : List Tok → ℕ → ℕ → ParseErr → Type 0
StopsElse toks left i = Stops toks i left false (λ l k x. IsElse l i k x) entries.else_entries (λ l n. p.ReadElse l n i)

abbrev pub StopsForStep : List Tok → ℕ → ℕ → ParseErr → Type 0
StopsForStep toks left i = Stops toks i left false (λ l k x. IsForStep l i k x) entries.step_entries (λ l n. p.ReadForStep l n i)

abbrev pub StopsVariable : List Tok → ℕ → ℕ → ParseErr → Type 0
StopsVariable toks left i = Stops toks i left false (λ l k x. IsVariable l i k x) entries.expr_entries (λ l n. p.ReadVariable l n i)

-- parts of which the first was read before the place from which the rest is looked for

-- the rest of a chain
abbrev pub StopsChain : List Tok → ℕ → ℕ → ℕ → Expr → ParseErr → Type 0
StopsChain toks precedence left at first = Stops toks (out-Expr first).to left false (λ l k x. IsExpr l precedence at k x) entries.expr_entries (λ l n. p.ReadChain l precedence n at first)

-- the rest of an assignment, and its targets
abbrev pub StopsAssign : List Tok → ℕ → ℕ → Expr → ParseErr → Type 0
StopsAssign toks left at first = Stops toks (out-Expr first).to left false (λ l k x. IsStat l at k x) entries.stat_entries (λ l n. p.ReadAssign l n at first)

abbrev pub StopsTargets : List Tok → ℕ → ℕ → Expr → ParseErr → Type 0
StopsTargets toks left at first = Stops toks (out-Expr first).to left false (λ l k x. AreTargets l at k x) entries.exprs_entries (λ l n. p.ReadMoreTargets l n at first)

-- a `for` with a count, behind its `=`
abbrev pub StopsCount : List Tok → ℕ → ℕ → ℕ → ℕ → ParseErr → Type 0
StopsCount toks left at name from = Stops toks from left false (λ l k x. IsStat l at k x) entries.stat_entries (λ l n. p.ReadCount l n at name from)
