-- What a chunk resolves to: its bare program, where what names and labels mean stands in their places, and nothing
-- stands for the places of parts.
--
-- Words other than names and labels stand as they are spelled: strings by their values and numerals by their numbers come
-- with code.
use Rattle.std.specs.Prelude.{ℕ, Option, Some, None, List, map, bytes_eq, codes, if◌then◌else◌}
use Rattle.luf_tree.specs.Syntax as syntax
use Rattle.luf_tree.specs.SyntaxMap.{ShapeMap}
use Rattle.luf_tree.specs.TokenSyntax as tokens
use Rattle.luf_bare.specs.Bare.{bare_block}
use Rattle.luf_scope.specs.Occurrences.{occurrences_in_block}
use Rattle.luf_scope.specs.Local.{Spelling, locals_of, meaning}
use Rattle.luf_scope.specs.Role.{role_of}
use Rattle.luf_scope.specs.Jump.{jump_role_of}
use Rattle.luf_scope.specs.declared.binder.BinderKind.{BinderKind}
use Rattle.luf_scope.specs.declared.binder.Role.{Role}
use Rattle.luf_scope.specs.declared.binder.Role.TheVariants as role
use Rattle.luf_scope.specs.declared.jump.JumpRole.{JumpRole}
use Rattle.luf_scope.specs.declared.jump.JumpRole.TheVariants as jump
use Rattle.luf_scope.specs.declared.occurrence.Occurrence.{Occurrence}

-- what a name means, where it is declared or used
pub data NameMeaning : Type 0 where
  -- a local variable, by its number
  variable : (number : ℕ) → NameMeaning
  -- the chunk's own `_ENV`
  own_environment : NameMeaning
  -- a field, by its spelling, of the local variable `_ENV` of this number, or of the chunk's own `_ENV`
  global : (environment : Option ℕ) (spelling : List ℕ) → NameMeaning

-- a name that no local variable has (2.2), where `_ENV` means this
abbrev pub free_name : Option ℕ → List ℕ → NameMeaning
free_name environment spelling = if bytes_eq spelling (codes "_ENV") then own_environment else global environment spelling

-- a name of this role, where `_ENV` means this
abbrev pub name_meaning : Role → Option ℕ → List ℕ → NameMeaning
name_meaning (role.Declares n) environment spelling = variable n
name_meaning (role.Refers n) environment spelling = variable n
name_meaning _ environment spelling = free_name environment spelling

-- the number of a label, at the label or at a goto; none where a goto has no label
abbrev pub label_number : Option JumpRole → Option ℕ
label_number (Some (jump.Label n)) = Some n
label_number (Some (jump.Goto n)) = Some n
label_number None = None

-- names by what they mean, labels by their numbers, other words by their spelling, and no places
abbrev pub Meant : syntax.Shape
Meant = record { Span = Unit {0}; Name = NameMeaning; Label = Option ℕ; Leaf = List ℕ }

abbrev pub meanings : Spelling → List Occurrence → ShapeMap tokens.Tokens Meant
meanings spelled occurrences = record {
  span = λ _. tt;
  name = λ token. name_meaning (role_of spelled occurrences token) (meaning (locals_of spelled occurrences) token (codes "_ENV")) (spelled token);
  label = λ token. label_number (jump_role_of spelled occurrences token);
  leaf = spelled;
}

-- how each local variable is declared, by their numbers (an implicit `self` has no place in the syntax), and the program
pub record ResolvedProgram : Type 0 where
  pub kinds : List BinderKind
  pub program : syntax.Block Meant

abbrev pub kinds_of : Spelling → List Occurrence → List BinderKind
kinds_of spelled occurrences = map (λ v. v.kind) (locals_of spelled occurrences)

-- what a chunk resolves to, where its tokens are spelled so
abbrev pub resolved : Spelling → tokens.Block → ResolvedProgram
resolved spelled chunk = record {
  kinds = kinds_of spelled (occurrences_in_block chunk);
  program = bare_block (meanings spelled (occurrences_in_block chunk)) chunk;
}
