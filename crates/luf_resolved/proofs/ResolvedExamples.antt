-- Small chunks, each with what it resolves to, by computation.
use Rattle.std.specs.Prelude.{◌≡◌, ℕ, Some, None, List, [], ◌∷◌, slice_get, unwrap_or, codes}
use Rattle.std.proofs.Common.{refl}
use Rattle.luf_tree.specs.Syntax as syntax
use Rattle.luf_tree.specs.TokenSyntax.{from_to}
use Rattle.luf_tree.specs.TokenSyntax as tokens
use Rattle.luf_scope.specs.declared.binder.BinderKind.TheVariants as kind
use Rattle.luf_resolved.specs.Resolved.{NameMeaning, variable, global, own_environment, Meant, ResolvedProgram, resolved}

abbrev resolved_words : List (List ℕ) → tokens.Block → ResolvedProgram
resolved_words words b = resolved (λ n. unwrap_or (slice_get words n) []) b

abbrev alone : {K : syntax.Shape} → syntax.Expression K → syntax.Expressions K
alone e = syntax.more_expressions e syntax.no_expressions

abbrev two : {K : syntax.Shape} → syntax.Statement K → syntax.Statement K → syntax.Statements K
two s t = syntax.more_statements s (syntax.more_statements t syntax.no_statements)

abbrev meant : NameMeaning → syntax.Expression Meant
meant name = syntax.variable tt name

-- local x = x ; x = y
shadowed_row :
    resolved_words (codes "local" ∷ codes "x" ∷ codes "=" ∷ codes "x" ∷ codes ";" ∷ codes "x" ∷ codes "=" ∷ codes "y" ∷ [])
    (syntax.block (from_to 0 8) (syntax.more_statements
    (syntax.local_statement (from_to 0 4) (record { name = 1; attribute = None } ∷ []) (alone (syntax.variable (from_to 3 4) 3)))
    (two (syntax.empty_statement (from_to 4 5)) (syntax.assignment (from_to 5 8) (alone (syntax.variable (from_to 5 6) 5)) (alone (syntax.variable (from_to 7 8) 7))))))
    ≡ record {
      kinds = kind.Local ∷ [];
      program = syntax.block tt (two
          (syntax.local_statement tt (record { name = variable 0; attribute = None } ∷ []) (alone (meant (global None (codes "x")))))
          (syntax.assignment tt (alone (meant (variable 0))) (alone (meant (global None (codes "y"))))));
    }
shadowed_row = refl

-- local _ENV <const> = _ENV x = _ENV
environment_row :
    resolved_words (codes "local" ∷ codes "_ENV" ∷ codes "<" ∷ codes "const" ∷ codes ">" ∷ codes "=" ∷ codes "_ENV" ∷ codes "x" ∷ codes "=" ∷ codes "_ENV" ∷ [])
    (syntax.block (from_to 0 10) (two
    (syntax.local_statement (from_to 0 7) (record { name = 1; attribute = Some 3 } ∷ []) (alone (syntax.variable (from_to 6 7) 6)))
    (syntax.assignment (from_to 7 10) (alone (syntax.variable (from_to 7 8) 7)) (alone (syntax.variable (from_to 9 10) 9)))))
    ≡ record {
      kinds = kind.Const ∷ [];
      program = syntax.block tt (two
          (syntax.local_statement tt (record { name = variable 0; attribute = Some (codes "const") } ∷ []) (alone (meant own_environment)))
          (syntax.assignment tt (alone (meant (global (Some 0) (codes "x")))) (alone (meant (variable 0)))));
    }
environment_row = refl

-- ::a:: goto a
label_row :
    resolved_words (codes "::" ∷ codes "a" ∷ codes "::" ∷ codes "goto" ∷ codes "a" ∷ [])
    (syntax.block (from_to 0 5) (two (syntax.label (from_to 0 3) 1) (syntax.goto_statement (from_to 3 5) 4)))
    ≡ record { kinds = []; program = syntax.block tt (two (syntax.label tt (Some 0)) (syntax.goto_statement tt (Some 0))) }
label_row = refl
