-- How the occurrences of a chunk lie: by their places, and of what is declared the scopes.
use Rattle.std.specs.Prelude.{◌≡◌, ℕ, ◌+◌, ◌<◌, ◌≤◌, ◌⊎◌, Bool, true, false, Some, None, List, length, All, AllPairs}
use Rattle.luf_lex.specs.declared.token.Tok.{Tok}
use Rattle.luf_tree.specs.declared.tree.Chunk.{Chunk}
use Rattle.luf_tree.specs.Grammar.{IsChunk}
use Rattle.luf_tree.specs.SyntaxOf.{syntax_of}
use Rattle.luf_scope.specs.Occurrences.{occurrences_in_block}
use Rattle.luf_scope.specs.declared.occurrence.Occurrence.{Occurrence}
use Rattle.luf_scope.specs.declared.occurrence.Occurrence.TheVariants.{Local, LocalFunction, Parameter, ImplicitSelf, LoopVariable, Reads, Assigns, Field, Varargs, Function, Loop, Label, Goto, Break}

-- the token at which it stands; a loop stands at the first of its block
abbrev pub place : Occurrence → ℕ
place (Local name attribute from to) = name
place (LocalFunction name from to) = name
place (Parameter name from to) = name
place (ImplicitSelf colon from to) = colon
place (LoopVariable name from to) = name
place (Reads name) = name
place (Assigns name) = name
place (Field name) = name
place (Varargs token) = token
place (Function from to vararg) = from
place (Loop from to) = from
place (Label name from to at_end) = name
place (Goto token name) = token
place (Break token) = token

-- one past the token up to which it stands; a loop has no token of its own
abbrev pub behind : Occurrence → ℕ
behind (Local name (Some attribute) from to) = attribute + 1
behind (Local name None from to) = name + 1
behind (LocalFunction name from to) = name + 1
behind (Parameter name from to) = name + 1
behind (ImplicitSelf colon from to) = colon + 1
behind (LoopVariable name from to) = name + 1
behind (Reads name) = name + 1
behind (Assigns name) = name + 1
behind (Field name) = name + 1
behind (Varargs token) = token + 1
behind (Function from to vararg) = from + 1
behind (Loop from to) = from
behind (Label name from to at_end) = name + 1
behind (Goto token name) = name + 1
behind (Break token) = token + 1

-- it declares a local variable, that is active from there, up to there
abbrev pub declares : Occurrence → Bool
declares (Local name attribute from to) = true
declares (LocalFunction name from to) = true
declares (Parameter name from to) = true
declares (ImplicitSelf colon from to) = true
declares (LoopVariable name from to) = true
declares _ = false

abbrev pub from_of : Occurrence → ℕ
from_of (Local name attribute from to) = from
from_of (LocalFunction name from to) = from
from_of (Parameter name from to) = from
from_of (ImplicitSelf colon from to) = from
from_of (LoopVariable name from to) = from
from_of _ = 0

abbrev pub to_of : Occurrence → ℕ
to_of (Local name attribute from to) = to
to_of (LocalFunction name from to) = to
to_of (Parameter name from to) = to
to_of (ImplicitSelf colon from to) = to
to_of (LoopVariable name from to) = to
to_of _ = 0

abbrev pub is_loop : Occurrence → Bool
is_loop (Loop from to) = true
is_loop _ = false

abbrev pub is_label : Occurrence → Bool
is_label (Label name from to at_end) = true
is_label _ = false

-- the block that holds a label
abbrev pub block_from : Occurrence → ℕ
block_from (Label name from to at_end) = from
block_from _ = 0

abbrev pub block_to : Occurrence → ℕ
block_to (Label name from to at_end) = to
block_to _ = 0

-- a block holds the token of its label
pub record StandsInBlock (u : Occurrence) : Type 0 where
  pub begun : block_from u ≤ place u
  pub ends : place u < block_to u

-- an attribute stands behind its name
abbrev pub AttributeBehind : Occurrence → Type 0
AttributeBehind (Local name (Some attribute) from to) = name < attribute
AttributeBehind _ = Unit {0}

-- what holds of an occurrence by itself: but a loop stands at one token at least
pub record IsPlaced (u : Occurrence) : Type 0 where
  pub long : place u ≤ behind u
  pub some : is_loop u ≡ false → place u < behind u
  pub attribute : AttributeBehind u
  pub block : is_label u ≡ true → StandsInBlock u

-- Of two scopes, that of the earlier declaration first: the later one ends before the earlier begins, as in an
-- initialiser; or it begins in the earlier one and ends in it; or it begins behind it.
pub record AreNested (u v : Occurrence) : Type 0 where
  pub before : from_of v < from_of u → to_of v ≤ from_of u
  pub inside : from_of u ≤ from_of v → (to_of v ≤ to_of u) ⊎ (to_of u ≤ from_of v)

-- one occurrence, and one that comes later in the list
pub record Follows (u v : Occurrence) : Type 0 where
  pub later : behind u ≤ place v
  pub nested : declares u ≡ true → declares v ≡ true → AreNested u v

-- the scope of what is declared in a part that ends at e, in a block that ends at c
pub record Opens (e c : ℕ) (u : Occurrence) : Type 0 where
  pub after : place u < from_of u
  pub within : from_of u ≤ e
  pub forward : from_of u ≤ to_of u
  pub ends : (to_of u ≡ c) ⊎ (to_of u ≤ e)

-- an occurrence of a part from a to e, in a block that ends at c
pub record Within (a e c : ℕ) (u : Occurrence) : Type 0 where
  pub own : IsPlaced u
  pub low : a ≤ place u
  pub high : behind u ≤ e
  pub opens : declares u ≡ true → Opens e c u

-- the occurrences of a part from a to e, in a block that ends at c
pub record AreOrdered (a e c : ℕ) (os : List Occurrence) : Type 0 where
  pub on : a ≤ e
  pub up_to : e ≤ c
  pub pairs : AllPairs Follows os
  pub within : All (Within a e c) os

-- so lies all that a chunk says
abbrev pub OccurrencesAreOrdered : Type 0
OccurrencesAreOrdered = (toks : List Tok) (c : Chunk) → IsChunk toks c → AreOrdered 0 (length toks) (length toks) (occurrences_in_block (syntax_of c))
