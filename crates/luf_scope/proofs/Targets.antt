-- What is assigned, by the form of a target.
use Rattle.std.proofs.Common.{◌≡◌, ℕ, Some, None, List, [], ◌∷◌, refl, ap}
use Rattle.luf_tree.specs.Syntax as syntax
use Rattle.luf_tree.specs.TokenSyntax as tokens
use Rattle.luf_scope.specs.Occurrences.{target_of}
use Rattle.luf_scope.specs.declared.occurrence.Occurrence.{Occurrence}
use Rattle.luf_scope.specs.declared.occurrence.Occurrence.TheVariants.{Assigns}
use Rattle.luf_scope.specs.inner.Parts.{plain_variable}

pub assigned : (e : tokens.Expression) (read : List Occurrence) (name : ℕ) → Some name ≡ plain_variable e → target_of e read ≡ Assigns name ∷ []
assigned (syntax.variable span other) read name is = let same : other ≡ name = cc in ap (λ n. Assigns n ∷ []) same
assigned _ read name is = absurd cc

pub only_read : (e : tokens.Expression) (read : List Occurrence) → None ≡ plain_variable e → target_of e read ≡ read
only_read (syntax.variable span other) read is = absurd cc
only_read _ read is = refl
