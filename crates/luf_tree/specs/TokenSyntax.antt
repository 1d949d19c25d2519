-- The syntax by token numbers: of a part its first token and one past its last, of a word the token itself.
use Rattle.std.specs.Prelude.{ℕ}
use Rattle.luf_tree.specs.Syntax as syntax

pub record Span : Type 0 where
  pub from : ℕ
  pub to : ℕ

abbrev pub from_to : ℕ → ℕ → Span
from_to i j = record { from = i; to = j }

abbrev pub Tokens : syntax.Shape
Tokens = record { Span = Span; Name = ℕ; Label = ℕ; Leaf = ℕ }

abbrev pub DeclaredName : Type 0
DeclaredName = syntax.DeclaredName Tokens

abbrev pub Expression : Type 0
Expression = syntax.Expression Tokens

abbrev pub OptionalExpression : Type 0
OptionalExpression = syntax.OptionalExpression Tokens

abbrev pub Expressions : Type 0
Expressions = syntax.Expressions Tokens

abbrev pub Operation : Type 0
Operation = syntax.Operation Tokens

abbrev pub Operations : Type 0
Operations = syntax.Operations Tokens

abbrev pub Suffix : Type 0
Suffix = syntax.Suffix Tokens

abbrev pub Suffixes : Type 0
Suffixes = syntax.Suffixes Tokens

abbrev pub Arguments : Type 0
Arguments = syntax.Arguments Tokens

abbrev pub Field : Type 0
Field = syntax.Field Tokens

abbrev pub Fields : Type 0
Fields = syntax.Fields Tokens

abbrev pub Statement : Type 0
Statement = syntax.Statement Tokens

abbrev pub Statements : Type 0
Statements = syntax.Statements Tokens

abbrev pub Arm : Type 0
Arm = syntax.Arm Tokens

abbrev pub Arms : Type 0
Arms = syntax.Arms Tokens

abbrev pub Block : Type 0
Block = syntax.Block Tokens

abbrev pub OptionalBlock : Type 0
OptionalBlock = syntax.OptionalBlock Tokens

abbrev pub FunctionBody : Type 0
FunctionBody = syntax.FunctionBody Tokens
