-- Small chunks, each with its first fault, or none, by computation.
use Rattle.std.specs.Prelude.{◌≡◌, ℕ, false, Option, Some, None, List, [], ◌∷◌, slice_get, unwrap_or, codes}
use Rattle.std.proofs.Common.{refl}
use Rattle.luf_tree.specs.Syntax as syntax
use Rattle.luf_tree.specs.TokenSyntax.{from_to}
use Rattle.luf_tree.specs.TokenSyntax as tokens
use Rattle.luf_scope.specs.Occurrences.{occurrences_in_block}
use Rattle.luf_scope.specs.Fault.{name_faults, jump_faults, first_fault}
use Rattle.luf_scope.specs.declared.fault.ScopeBad.{ScopeBad}
use Rattle.luf_scope.specs.declared.fault.ScopeWhat.{ScopeWhat}
use Rattle.luf_scope.specs.declared.fault.ScopeWhat.TheVariants.{UnknownAttribute, TwoClose, ConstAssign, VarargOutside, LabelTwice, NoLabel, JumpIntoScope, BreakOutside}

-- the first name fault, and the first jump fault
abbrev first_name_fault : List (List ℕ) → tokens.Block → Option ScopeBad
first_name_fault words b = first_fault (name_faults (λ n. unwrap_or (slice_get words n) []) (occurrences_in_block b))

abbrev first_jump_fault : List (List ℕ) → tokens.Block → Option ScopeBad
first_jump_fault words b = first_fault (jump_faults (λ n. unwrap_or (slice_get words n) []) (occurrences_in_block b))

abbrev bad : ℕ → ScopeWhat → Option ScopeBad
bad token what = Some (record { token = token; what = what })

abbrev one : tokens.Statement → tokens.Statements
one s = syntax.more_statements s syntax.no_statements

abbrev two : tokens.Statement → tokens.Statement → tokens.Statements
two s t = syntax.more_statements s (one t)

abbrev three : tokens.Statement → tokens.Statement → tokens.Statement → tokens.Statements
three s t u = syntax.more_statements s (two t u)

abbrev declared : ℕ → Option ℕ → tokens.DeclaredName
declared name attribute = record { name = name; attribute = attribute }

abbrev alone : tokens.Expression → tokens.Expressions
alone e = syntax.more_expressions e syntax.no_expressions

-- local x <foo> = 1
unknown_attribute_row :
    first_name_fault (codes "local" ∷ codes "x" ∷ codes "<" ∷ codes "foo" ∷ codes ">" ∷ codes "=" ∷ codes "1" ∷ [])
    (syntax.block (from_to 0 7) (one (syntax.local_statement (from_to 0 7) (declared 1 (Some 3) ∷ []) (alone (syntax.numeral (from_to 6 7) 6)))))
    ≡ bad 3 UnknownAttribute
unknown_attribute_row = refl

-- local a <close>, b <close>
two_close_row :
    first_name_fault (codes "local" ∷ codes "a" ∷ codes "<" ∷ codes "close" ∷ codes ">" ∷ codes "," ∷ codes "b" ∷ codes "<" ∷ codes "close" ∷ codes ">" ∷ [])
    (syntax.block (from_to 0 10) (one (syntax.local_statement (from_to 0 10) (declared 1 (Some 3) ∷ declared 6 (Some 8) ∷ []) syntax.no_expressions)))
    ≡ bad 8 TwoClose
two_close_row = refl

-- function f() return ... end
varargs_row :
    first_name_fault (codes "function" ∷ codes "f" ∷ codes "(" ∷ codes ")" ∷ codes "return" ∷ codes "..." ∷ codes "end" ∷ [])
    (syntax.block (from_to 0 7) (one (syntax.function_statement (from_to 0 7) (Some 1) [] None
    (syntax.function_body (from_to 2 7) [] false (syntax.block (from_to 4 6) (one (syntax.return_statement (from_to 4 6) (alone (syntax.varargs (from_to 5 6))))))))))
    ≡ bad 5 VarargOutside
varargs_row = refl

-- local x <const> = 1 x = 2
constant_row :
    first_name_fault (codes "local" ∷ codes "x" ∷ codes "<" ∷ codes "const" ∷ codes ">" ∷ codes "=" ∷ codes "1" ∷ codes "x" ∷ codes "=" ∷ codes "2" ∷ [])
    (syntax.block (from_to 0 10) (two (syntax.local_statement (from_to 0 7) (declared 1 (Some 3) ∷ []) (alone (syntax.numeral (from_to 6 7) 6)))
    (syntax.assignment (from_to 7 10) (alone (syntax.variable (from_to 7 8) 7)) (alone (syntax.numeral (from_to 9 10) 9)))))
    ≡ bad 7 ConstAssign
constant_row = refl

-- break
break_row : first_jump_fault (codes "break" ∷ []) (syntax.block (from_to 0 1) (one (syntax.break_statement (from_to 0 1)))) ≡ bad 0 BreakOutside
break_row = refl

-- ::a:: do ::a:: end
label_twice_row :
    first_jump_fault (codes "::" ∷ codes "a" ∷ codes "::" ∷ codes "do" ∷ codes "::" ∷ codes "a" ∷ codes "::" ∷ codes "end" ∷ [])
    (syntax.block (from_to 0 8) (two (syntax.label (from_to 0 3) 1)
    (syntax.do_statement (from_to 3 8) (syntax.block (from_to 4 7) (one (syntax.label (from_to 4 7) 5))))))
    ≡ bad 5 LabelTwice
label_twice_row = refl

-- do ::a:: end ::a::
label_after_row :
    first_jump_fault (codes "do" ∷ codes "::" ∷ codes "a" ∷ codes "::" ∷ codes "end" ∷ codes "::" ∷ codes "a" ∷ codes "::" ∷ [])
    (syntax.block (from_to 0 8) (two (syntax.do_statement (from_to 0 5) (syntax.block (from_to 1 4) (one (syntax.label (from_to 1 4) 2)))) (syntax.label (from_to 5 8) 6)))
    ≡ None
label_after_row = refl

-- do goto l local x ::l:: end
jump_to_end_row :
    first_jump_fault (codes "do" ∷ codes "goto" ∷ codes "l" ∷ codes "local" ∷ codes "x" ∷ codes "::" ∷ codes "l" ∷ codes "::" ∷ codes "end" ∷ [])
    (syntax.block (from_to 0 9) (one (syntax.do_statement (from_to 0 9) (syntax.block (from_to 1 8)
    (three (syntax.goto_statement (from_to 1 3) 2) (syntax.local_statement (from_to 3 5) (declared 4 None ∷ []) syntax.no_expressions) (syntax.label (from_to 5 8) 6))))))
    ≡ None
jump_to_end_row = refl

-- repeat goto l local x ::l:: until x
jump_to_until_row :
    first_jump_fault (codes "repeat" ∷ codes "goto" ∷ codes "l" ∷ codes "local" ∷ codes "x" ∷ codes "::" ∷ codes "l" ∷ codes "::" ∷ codes "until" ∷ codes "x" ∷ [])
    (syntax.block (from_to 0 10) (one (syntax.repeat_statement (from_to 0 10) (syntax.block (from_to 1 8)
    (three (syntax.goto_statement (from_to 1 3) 2) (syntax.local_statement (from_to 3 5) (declared 4 None ∷ []) syntax.no_expressions) (syntax.label (from_to 5 8) 6)))
    (syntax.variable (from_to 9 10) 9))))
    ≡ bad 1 JumpIntoScope
jump_to_until_row = refl

-- goto l
no_label_row : first_jump_fault (codes "goto" ∷ codes "l" ∷ []) (syntax.block (from_to 0 2) (one (syntax.goto_statement (from_to 0 2) 1))) ≡ bad 0 NoLabel
no_label_row = refl
