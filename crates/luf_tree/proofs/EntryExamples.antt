-- The entries of small pieces of Lua, computed. Tokens are numbered from 0.
use Rattle.std.proofs.Common.{◌≡◌, ℕ, ◌+◌, false, [], ◌∷◌, refl}
use Rattle.luf_tree.specs.Syntax as syntax
use Rattle.luf_tree.specs.TokenSyntax as tokens
use Rattle.luf_tree.specs.TokenSyntax.{from_to}
use Rattle.luf_tree.specs.Entry.{Entry, entries_of_statement, entries_of_expression}

abbrev enters : ℕ → ℕ → Entry
enters token level = record { token = token; level = level }

abbrev name_at : ℕ → tokens.Expression
name_at i = syntax.variable (from_to i (i + 1)) i

abbrev empty_block_at : ℕ → tokens.Block
empty_block_at i = syntax.block (from_to i i) syntax.no_statements

-- `f {[a] = b}`
lone_table : entries_of_expression 0 (syntax.suffixed (from_to 0 8) (name_at 0) (syntax.more_suffixes (syntax.call_suffix (syntax.arguments (from_to 1 8) false (syntax.more_expressions (syntax.table (from_to 1 8) (syntax.more_fields (syntax.keyed_field (name_at 3) (name_at 6)) syntax.no_fields)) syntax.no_expressions))) syntax.no_suffixes))
    ≡ enters 1 1 ∷ enters 1 2 ∷ enters 2 3 ∷ []
lone_table = refl

-- `if a then elseif (b) then else end`
arms : entries_of_statement 0 (syntax.if_statement (from_to 0 10) (syntax.more_arms (syntax.arm (name_at 1) (empty_block_at 3)) (syntax.more_arms (syntax.arm (syntax.parenthesised (from_to 4 7) (name_at 5)) (empty_block_at 8)) syntax.no_arms)) (syntax.a_block (empty_block_at 9)))
    ≡ enters 2 1 ∷ enters 4 1 ∷ enters 7 1 ∷ enters 8 1 ∷ []
arms = refl

-- `local function f() return -a ^ b end`
local_function : entries_of_statement 0 (syntax.local_function_statement (from_to 0 11) 2 (syntax.function_body (from_to 3 11) [] false (syntax.block (from_to 5 10) (syntax.more_statements (syntax.return_statement (from_to 5 10) (syntax.more_expressions (syntax.unary (from_to 6 10) 6 (syntax.power (from_to 7 10) (name_at 7) 8 (name_at 9))) syntax.no_expressions)) syntax.no_statements))))
    ≡ enters 1 1 ∷ enters 6 2 ∷ enters 8 3 ∷ []
local_function = refl
