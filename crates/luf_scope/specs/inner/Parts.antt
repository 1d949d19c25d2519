-- What the functions that read a tree look for in its parts.
use Rattle.std.specs.Prelude.{ℕ, Bool, not, Option, Some, None}
use Rattle.luf_tree.specs.Syntax as syntax
use Rattle.luf_tree.specs.TokenSyntax as tokens
use Rattle.luf_tree.specs.TokenSyntax.{from_to}
use Rattle.luf_tree.specs.declared.tree.Stat.{Stat}
use Rattle.luf_tree.specs.SyntaxOf.{syntax_of_stat}
use Rattle.luf_scope.specs.Occurrences.{is_void}
use Rattle.luf_scope.specs.Occurrences as occurrences
use Rattle.luf_scope.specs.declared.reading.Holder.{Holder}

-- the name of a variable by itself, which is assigned as the target of an assignment
abbrev pub plain_variable : tokens.Expression → Option ℕ
plain_variable (syntax.variable span name) = Some name
plain_variable _ = None

-- a statement that does something
abbrev pub is_solid : Stat → Bool
is_solid s = not (is_void (syntax_of_stat s))

-- the block that holds a statement, as the code has it
abbrev pub held_by : Holder → occurrences.Holder
held_by h = record { span = from_to h.from h.to; end = h.end; until = h.until }
