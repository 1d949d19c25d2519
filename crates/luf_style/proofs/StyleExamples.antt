-- Small programs with their comments, formatted: computed by the definitions.
use Rattle.std.proofs.Common.{◌≡◌, ℕ, Bool, true, false, Some, List, [], ◌∷◌, ◌++◌, refl, codes}
use Rattle.luf_tree.specs.Syntax as syntax
use Rattle.luf_draft.specs.Form.{Words, main}
use Rattle.luf_draft.specs.Openings.{openings}
use Rattle.luf_style.proofs.ExamplePrograms.{name, number, string, list, table, block, function_of, arguments, call, set, local, plain, noted, then_empty, empty_line, amid, behind, alone, apart, always, never, as_it_is, chosen_text, text_of, lines, indented}

-- ---- guards

-- local x=1;(f)(x)
abbrev with_guard : syntax.Block Words
with_guard = block (local (codes "x") (number (codes "1")) ∷ call (syntax.parenthesised tt (name (codes "f"))) (name (codes "x") ∷ []) ∷ [])

guard : text_of 120 with_guard (plain 11) ≡ lines (codes "local x = 1" ∷ codes ";(f)(x)" ∷ [])
guard = refl

-- a gap before each of the ten tokens, and one at the end
guard_gaps : openings (main always always with_guard) ≡ 11
guard_gaps = refl

-- a comment between two statements stands before the guard
comment_before_guard : text_of 120 with_guard (plain 4 ++ noted (alone (codes "--c") ∷ []) ∷ plain 6) ≡ lines (codes "local x = 1" ∷ codes "--c" ∷ codes ";(f)(x)" ∷ [])
comment_before_guard = refl

-- the first statement of a block has none
no_guard : text_of 120 (block (call (syntax.parenthesised tt (name (codes "f"))) [] ∷ [])) (plain 6) ≡ lines (codes "(f)()" ∷ [])
no_guard = refl

-- ---- operators

abbrev return_of : syntax.Expression Words → syntax.Block Words
return_of e = block (syntax.return_statement tt (list (e ∷ [])) ∷ [])

abbrev unary : List ℕ → syntax.Expression Words → syntax.Expression Words
unary sign e = syntax.unary tt sign e

abbrev chain : syntax.Expression Words → List ℕ → syntax.Expression Words → syntax.Expression Words
chain a sign b = syntax.chain tt a (syntax.more_operations (syntax.operation sign b) syntax.no_operations)

two_minuses : text_of 120 (return_of (unary (codes "-") (unary (codes "-") (name (codes "x"))))) (plain 5) ≡ lines (codes "return - -x" ∷ [])
two_minuses = refl

not_and_length : text_of 120 (return_of (unary (codes "not") (unary (codes "#") (name (codes "x"))))) (plain 5) ≡ lines (codes "return not #x" ∷ [])
not_and_length = refl

joined_numbers : text_of 120 (return_of (chain (number (codes "1")) (codes "..") (number (codes "2")))) (plain 5) ≡ lines (codes "return 1 .. 2" ∷ [])
joined_numbers = refl

power : text_of 120 (return_of (syntax.power tt (name (codes "x")) (codes "^") (unary (codes "-") (number (codes "2"))))) (plain 6) ≡ lines (codes "return x ^ -2" ∷ [])
power = refl

broken_chain : text_of 12 (return_of (chain (name (codes "aaaa")) (codes "or") (name (codes "bbbb")))) (plain 5) ≡ lines (codes "return aaaa" ∷ indented (codes "or bbbb") ∷ [])
broken_chain = refl

-- ---- tables

-- x={aaaa,bbbb,cccc}
abbrev with_table : syntax.Block Words
with_table = block (set (codes "x") (table (name (codes "aaaa") ∷ name (codes "bbbb") ∷ name (codes "cccc") ∷ [])) ∷ [])

flat_table : text_of 120 with_table (plain 8) ≡ lines (codes "x = { aaaa, bbbb, cccc }" ∷ [])
flat_table = refl

abbrev broken_table : List (List ℕ) → List ℕ
broken_table first = lines (first ++ indented (codes "aaaa,") ∷ indented (codes "bbbb,") ∷ indented (codes "cccc,") ∷ codes "}" ∷ [])

-- a comment behind `{` in the source, and the same text read again: there the comment ends its line
comment_in_table : text_of 20 with_table (plain 3 ++ noted (amid (codes "--[[c]]") ∷ []) ∷ plain 4) ≡ broken_table (codes "x = { --[[c]]" ∷ [])
comment_in_table = refl

comment_in_table_again : text_of 20 with_table (plain 3 ++ noted (behind (codes "--[[c]]") ∷ []) ∷ plain 4) ≡ broken_table (codes "x = { --[[c]]" ∷ [])
comment_in_table_again = refl

-- a comment before `}` stands as deep as the fields, behind the `,` of the last
comment_at_table_end : text_of 120 with_table (plain 6 ++ noted (behind (codes "--c") ∷ alone (codes "--d") ∷ []) ∷ plain 1)
    ≡ lines (codes "x = {" ∷ indented (codes "aaaa,") ∷ indented (codes "bbbb,") ∷ indented (codes "cccc, --c") ∷ indented (codes "--d") ∷ codes "}" ∷ [])
comment_at_table_end = refl

empty_table : text_of 120 (block (set (codes "x") (table []) ∷ [])) (plain 5) ≡ lines (codes "x = {}" ∷ [])
empty_table = refl

comment_in_empty_table : text_of 120 (block (set (codes "x") (table []) ∷ [])) (plain 3 ++ noted (alone (codes "--c") ∷ []) ∷ plain 1)
    ≡ lines (codes "x = {" ∷ indented (codes "--c") ∷ codes "}" ∷ [])
comment_in_empty_table = refl

-- ---- lone arguments

-- f({1}):g("x"), with parentheses in the source or without
abbrev with_lone : Bool → syntax.Block Words
with_lone had =
    block (syntax.call_statement tt (syntax.suffixed tt (name (codes "f")) (syntax.more_suffixes (syntax.call_suffix (arguments had (table (number (codes "1") ∷ []) ∷ [])))
    (syntax.more_suffixes (syntax.method_suffix (codes "g") (arguments had (string (codes "\"x\"") ∷ []))) syntax.no_suffixes))) ∷ [])

lone_always : chosen_text always always (with_lone false) (plain 8) ≡ lines (codes "f({ 1 }):g(\"x\")" ∷ [])
lone_always = refl

lone_never : chosen_text never never (with_lone true) (plain 8) ≡ lines (codes "f { 1 }:g \"x\"" ∷ [])
lone_never = refl

lone_table_only : chosen_text never always (with_lone true) (plain 8) ≡ lines (codes "f({ 1 }):g \"x\"" ∷ [])
lone_table_only = refl

lone_string_only : chosen_text always never (with_lone true) (plain 8) ≡ lines (codes "f { 1 }:g(\"x\")" ∷ [])
lone_string_only = refl

lone_as_it_had : chosen_text as_it_is as_it_is (with_lone true) (plain 8) ≡ lines (codes "f({ 1 }):g(\"x\")" ∷ [])
lone_as_it_had = refl

lone_as_it_had_not : chosen_text as_it_is as_it_is (with_lone false) (plain 8) ≡ lines (codes "f { 1 }:g \"x\"" ∷ [])
lone_as_it_had_not = refl

-- the parentheses of a lone argument have no gap of their own
lone_gaps : openings (main always always (with_lone true)) ≡ 8
lone_gaps = refl

-- a comment on either side of the `(` stands behind it, one before the `)` behind that
comment_at_lone : chosen_text always always (with_lone true) (plain 1 ++ noted (amid (codes "--[[c]]") ∷ []) ∷ plain 2 ++ noted (amid (codes "--[[d]]") ∷ []) ∷ plain 3)
    ≡ lines (codes "f( --[[c]] { 1 }) --[[d]] :g(\"x\")" ∷ [])
comment_at_lone = refl

comment_at_bare_lone : chosen_text never never (with_lone true) (plain 1 ++ noted (amid (codes "--[[c]]") ∷ []) ∷ plain 6) ≡ lines (codes "f --[[c]] { 1 }:g \"x\"" ∷ [])
comment_at_bare_lone = refl

-- ---- other arguments

broken_arguments : text_of 8 (block (call (name (codes "f")) (name (codes "aaaa") ∷ name (codes "bbbb") ∷ []) ∷ [])) (plain 7)
    ≡ lines (codes "f(" ∷ indented (codes "aaaa,") ∷ indented (codes "bbbb") ∷ codes ")" ∷ [])
broken_arguments = refl

comment_without_arguments : text_of 120 (block (call (name (codes "f")) [] ∷ [])) (plain 2 ++ noted (alone (codes "--c") ∷ []) ∷ plain 1) ≡ lines (codes "f(" ∷ indented (codes "--c") ∷ codes ")" ∷ [])
comment_without_arguments = refl

-- f(x,function() a() end): such a list is never broken
last_is_function : text_of 1 (block (call (name (codes "f")) (name (codes "x") ∷ syntax.function tt (function_of [] (call (name (codes "a")) [] ∷ [])) ∷ []) ∷ [])) (plain 13)
    ≡ lines (codes "f(x, function()" ∷ indented (codes "a()") ∷ codes "end)" ∷ [])
last_is_function = refl

-- ---- blocks

abbrev do_block : List (syntax.Statement Words) → syntax.Block Words
do_block ss = block (syntax.do_statement tt (block ss) ∷ [])

empty_block : text_of 120 (do_block []) (plain 3) ≡ lines (codes "do end" ∷ [])
empty_block = refl

comment_behind_do : text_of 120 (do_block []) (plain 1 ++ noted (behind (codes "--c") ∷ []) ∷ plain 1) ≡ lines (codes "do --c" ∷ codes "end" ∷ [])
comment_behind_do = refl

comment_amid_block : text_of 120 (do_block []) (plain 1 ++ noted (amid (codes "--[[c]]") ∷ []) ∷ plain 1) ≡ lines (codes "do --[[c]]" ∷ codes "end" ∷ [])
comment_amid_block = refl

comments_in_block : text_of 120 (do_block []) (plain 1 ++ then_empty (apart (codes "--c") ∷ apart (codes "--d") ∷ []) ∷ plain 1)
    ≡ lines (codes "do" ∷ indented (codes "--c") ∷ [] ∷ indented (codes "--d") ∷ codes "end" ∷ [])
comments_in_block = refl

-- empty lines stay, but none at the first break of a block and none before its end
empty_lines : text_of 120 (do_block (call (name (codes "a")) [] ∷ call (name (codes "b")) [] ∷ []))
    (plain 1 ++ then_empty (apart (codes "--c") ∷ []) ∷ plain 2 ++ empty_line ∷ plain 2 ++ then_empty (apart (codes "--d") ∷ []) ∷ empty_line ∷ [])
    ≡ lines (codes "do" ∷ indented (codes "--c") ∷ [] ∷ indented (codes "a()") ∷ [] ∷ indented (codes "b()") ∷ [] ∷ indented (codes "--d") ∷ codes "end" ∷ [])
empty_lines = refl

-- a comment behind `do`: the first break stands behind it
empty_line_behind_comment : text_of 120 (do_block (call (name (codes "a")) [] ∷ [])) (plain 1 ++ then_empty (behind (codes "--c") ∷ []) ∷ plain 4)
    ≡ lines (codes "do --c" ∷ indented (codes "a()") ∷ codes "end" ∷ [])
empty_line_behind_comment = refl

-- comments and nothing else
comments_alone : text_of 120 (block []) (then_empty (apart (codes "--c") ∷ apart (codes "--d") ∷ []) ∷ []) ≡ lines (codes "--c" ∷ [] ∷ codes "--d" ∷ [])
comments_alone = refl

nothing_at_all : text_of 120 (block []) (plain 1) ≡ []
nothing_at_all = refl

-- ---- other statements

-- local x<const> =1 return x
attribute : text_of 120 (block (syntax.local_statement tt (record { name = codes "x"; attribute = Some (codes "const") } ∷ []) (list (number (codes "1") ∷ [])) ∷ syntax.return_statement tt (list (name (codes "x") ∷ [])) ∷ [])) (plain 10)
    ≡ lines (codes "local x <const> = 1" ∷ codes "return x" ∷ [])
attribute = refl

arms : text_of 120 (block (syntax.if_statement tt (syntax.more_arms (syntax.arm (name (codes "a")) (block (call (name (codes "b")) [] ∷ []))) (syntax.more_arms (syntax.arm (name (codes "c")) (block [])) syntax.no_arms)) (syntax.a_block (block (syntax.break_statement tt ∷ []))) ∷ [])) (plain 13)
    ≡ lines (codes "if a then" ∷ indented (codes "b()") ∷ codes "elseif c then else" ∷ indented (codes "break") ∷ codes "end" ∷ [])
arms = refl

loop : text_of 120 (block (syntax.for_statement tt (codes "i") (number (codes "1")) (number (codes "9")) (syntax.an_expression (number (codes "2"))) (block []) ∷ [])) (plain 11)
    ≡ lines (codes "for i = 1, 9, 2 do end" ∷ [])
loop = refl

-- function a.b:c(x,...) end
method : text_of 120 (block (syntax.function_statement tt (Some (codes "a")) (codes "b" ∷ []) (Some (codes "c")) (syntax.function_body tt (codes "x" ∷ []) true (block [])) ∷ [])) (plain 13)
    ≡ lines (codes "function a.b:c(x, ...) end" ∷ [])
method = refl
