-- A tree is a block of all tokens.
use Rattle.std.proofs.Common.{ℕ, ◌≤◌, List, length, sym, ap, subst, arith}
use Rattle.std.proofs.lemmas.Option.{slice_get_past}
use Rattle.luf_lex.specs.declared.token.Tok.{Tok}
use Rattle.luf_tree.specs.declared.tree.Chunk.{Chunk}
use Rattle.luf_tree.specs.Grammar.{IsBlock, IsChunk}
use Rattle.luf_tree.specs.Level.{depth_of}
use Rattle.luf_descent.specs.Follow.{ends_block, EndsBlock}
use Rattle.luf_descent.specs.Parts.{ReadBlock}
use Rattle.luf_descent.proofs.Ends.{block_to}

-- a block ends behind the last token
pub end_ends_block : (toks : List Tok) → EndsBlock toks (length toks)
end_ends_block toks = ap ends_block (slice_get_past toks (length toks) (omega arith))

pub chunk_read : {toks : List Tok} {left : ℕ} (c : Chunk) → IsChunk toks c → depth_of c ≤ left → ReadBlock toks left 0 c.block
chunk_read {toks} c tree depth = record {
  is = subst (λ p. IsBlock toks 0 p c.block) (sym (block_to tree)) tree;
  ends = subst (λ p. EndsBlock toks p) (sym (block_to tree)) (end_ends_block toks);
  level = depth;
}
