-- Small chunks, each with the roles of its tokens, by computation.
use Rattle.std.specs.Prelude.{◌≡◌, ℕ, ◌+◌, false, Some, None, List, [], ◌∷◌, slice_get, unwrap_or, map, codes}
use Rattle.std.proofs.Common.{refl}
use Rattle.luf_tree.specs.Syntax as syntax
use Rattle.luf_tree.specs.TokenSyntax.{from_to}
use Rattle.luf_tree.specs.TokenSyntax as tokens
use Rattle.luf_scope.specs.Occurrences.{occurrences_in_block}
use Rattle.luf_scope.specs.Role.{role_of}
use Rattle.luf_scope.specs.declared.binder.Role.{Role}
use Rattle.luf_scope.specs.declared.binder.Role.TheVariants.{Plain, Declares, Refers, Global, Field}

-- the roles of these tokens of a chunk whose words these are
abbrev roles : List (List ℕ) → tokens.Block → List ℕ → List Role
roles words b places = map (role_of (λ n. unwrap_or (slice_get words n) []) (occurrences_in_block b)) places

abbrev one : tokens.Statement → tokens.Statements
one s = syntax.more_statements s syntax.no_statements

abbrev two : tokens.Statement → tokens.Statement → tokens.Statements
two s t = syntax.more_statements s (one t)

abbrev alone : tokens.Expression → tokens.Expressions
alone e = syntax.more_expressions e syntax.no_expressions

abbrev named : ℕ → tokens.Expression
named n = syntax.variable (from_to n (n + 1)) n

abbrev plain : ℕ → tokens.DeclaredName
plain name = record { name = name; attribute = None }

-- local x = x
initialiser_row :
    roles (codes "local" ∷ codes "x" ∷ codes "=" ∷ codes "x" ∷ [])
    (syntax.block (from_to 0 4) (one (syntax.local_statement (from_to 0 4) (plain 1 ∷ []) (alone (named 3)))))
    (0 ∷ 1 ∷ 2 ∷ 3 ∷ [])
    ≡ Plain ∷ Declares 0 ∷ Plain ∷ Global ∷ []
initialiser_row = refl

-- repeat local x until x
repeat_row :
    roles (codes "repeat" ∷ codes "local" ∷ codes "x" ∷ codes "until" ∷ codes "x" ∷ [])
    (syntax.block (from_to 0 5) (one (syntax.repeat_statement (from_to 0 5) (syntax.block (from_to 1 3) (one (syntax.local_statement (from_to 1 3) (plain 2 ∷ []) syntax.no_expressions))) (named 4))))
    (2 ∷ 4 ∷ [])
    ≡ Declares 0 ∷ Refers 0 ∷ []
repeat_row = refl

-- local function f() return f end
recursion_row :
    roles (codes "local" ∷ codes "function" ∷ codes "f" ∷ codes "(" ∷ codes ")" ∷ codes "return" ∷ codes "f" ∷ codes "end" ∷ [])
    (syntax.block (from_to 0 8) (one (syntax.local_function_statement (from_to 0 8) 2
    (syntax.function_body (from_to 3 8) [] false (syntax.block (from_to 5 7) (one (syntax.return_statement (from_to 5 7) (alone (named 6)))))))))
    (2 ∷ 6 ∷ [])
    ≡ Declares 0 ∷ Refers 0 ∷ []
recursion_row = refl

-- function o:m(self) return self end
method_row :
    roles (codes "function" ∷ codes "o" ∷ codes ":" ∷ codes "m" ∷ codes "(" ∷ codes "self" ∷ codes ")" ∷ codes "return" ∷ codes "self" ∷ codes "end" ∷ [])
    (syntax.block (from_to 0 10) (one (syntax.function_statement (from_to 0 10) (Some 1) [] (Some 3)
    (syntax.function_body (from_to 4 10) (5 ∷ []) false (syntax.block (from_to 7 9) (one (syntax.return_statement (from_to 7 9) (alone (named 8)))))))))
    (1 ∷ 2 ∷ 3 ∷ 5 ∷ 8 ∷ [])
    ≡ Global ∷ Declares 0 ∷ Field ∷ Declares 1 ∷ Refers 1 ∷ []
method_row = refl

-- local a, a = 1 return a
shadowing_row :
    roles (codes "local" ∷ codes "a" ∷ codes "," ∷ codes "a" ∷ codes "=" ∷ codes "1" ∷ codes "return" ∷ codes "a" ∷ [])
    (syntax.block (from_to 0 8) (two (syntax.local_statement (from_to 0 6) (plain 1 ∷ plain 3 ∷ []) (alone (syntax.numeral (from_to 5 6) 5)))
    (syntax.return_statement (from_to 6 8) (alone (named 7)))))
    (1 ∷ 3 ∷ 7 ∷ [])
    ≡ Declares 0 ∷ Declares 1 ∷ Refers 1 ∷ []
shadowing_row = refl

-- for i = i, i do end
loop_row :
    roles (codes "for" ∷ codes "i" ∷ codes "=" ∷ codes "i" ∷ codes "," ∷ codes "i" ∷ codes "do" ∷ codes "end" ∷ [])
    (syntax.block (from_to 0 8) (one (syntax.for_statement (from_to 0 8) 1 (named 3) (named 5) syntax.no_expression (syntax.block (from_to 7 7) syntax.no_statements))))
    (1 ∷ 3 ∷ 5 ∷ [])
    ≡ Declares 0 ∷ Global ∷ Global ∷ []
loop_row = refl

-- local _ENV = {} y = _ENV
environment_row :
    roles (codes "local" ∷ codes "_ENV" ∷ codes "=" ∷ codes "{" ∷ codes "}" ∷ codes "y" ∷ codes "=" ∷ codes "_ENV" ∷ [])
    (syntax.block (from_to 0 8) (two (syntax.local_statement (from_to 0 5) (plain 1 ∷ []) (alone (syntax.table (from_to 3 5) syntax.no_fields)))
    (syntax.assignment (from_to 5 8) (alone (named 5)) (alone (named 7)))))
    (1 ∷ 5 ∷ 7 ∷ [])
    ≡ Declares 0 ∷ Global ∷ Refers 0 ∷ []
environment_row = refl
