-- How the blocks that hold the labels of a chunk lie, to each other and to its functions.
use Rattle.std.specs.Prelude.{◌≡◌, ℕ, ◌<◌, ◌≤◌, ◌⊎◌, Bool, true, false, List, All}
use Rattle.luf_lex.specs.declared.token.Tok.{Tok}
use Rattle.luf_tree.specs.declared.tree.Chunk.{Chunk}
use Rattle.luf_tree.specs.Grammar.{IsChunk}
use Rattle.luf_tree.specs.SyntaxOf.{syntax_of}
use Rattle.luf_scope.specs.Occurrences.{occurrences_in_block}
use Rattle.luf_scope.specs.Order.{place, is_label, block_from, block_to}
use Rattle.luf_scope.specs.declared.occurrence.Occurrence.{Occurrence}
use Rattle.luf_scope.specs.declared.occurrence.Occurrence.TheVariants.{Function}

abbrev pub is_function : Occurrence → Bool
is_function (Function from to vararg) = true
is_function _ = false

abbrev pub function_from : Occurrence → ℕ
function_from (Function from to vararg) = from
function_from _ = 0

abbrev pub function_to : Occurrence → ℕ
function_to (Function from to vararg) = to
function_to _ = 0

-- a label, and another or a function
pub record AreNestedBlocks (u v : Occurrence) : Type 0 where
  -- a block that holds the label's token holds its block
  pub block : is_label u ≡ true → is_label v ≡ true → block_from v ≤ place u → place u < block_to v → (block_from v ≤ block_from u) × (block_to u ≤ block_to v)
  -- a function that holds the label's token holds its block, behind its `(`
  pub function : is_label u ≡ true → is_function v ≡ true → function_from v ≤ place u → place u < function_to v → (function_from v < block_from u) × (block_to u ≤ function_to v)
  -- of two blocks the one that begins later ends in the other, or begins behind it
  pub apart : is_label u ≡ true → is_label v ≡ true → block_from v < block_from u → (block_to u ≤ block_to v) ⊎ (block_to v ≤ block_from u)

-- so lie the blocks of the labels of a chunk
abbrev pub LabelBlocksAreNested : Type 0
LabelBlocksAreNested = (toks : List Tok) (c : Chunk) → IsChunk toks c → All (λ u. All (AreNestedBlocks u) (occurrences_in_block (syntax_of c))) (occurrences_in_block (syntax_of c))
