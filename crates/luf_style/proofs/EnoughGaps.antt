-- A source has as many gaps as the draft of its program: filled with them, none is left.
use Rattle.std.proofs.Common.{◌≡◌, ℕ, Bool, List, [], length, drop, ap, sym, ◌∙◌}
use Rattle.std.proofs.Math.Seq.{drop-length}
use Rattle.luf_lex.specs.Tokens.{toks_of}
use Rattle.luf_lex.specs.declared.token.Piece.{Piece}
use Rattle.luf_tree.specs.Grammar.{IsChunk}
use Rattle.luf_tree.specs.SyntaxOf.{syntax_of}
use Rattle.luf_tree.specs.declared.tree.Chunk.{Chunk}
use Rattle.luf_bare.specs.Dropped.{dropped_block}
use Rattle.luf_draft.specs.Form.{main, written_program}
use Rattle.luf_draft.specs.Openings.{openings}
use Rattle.luf_draft.proofs.Counts.{gap_before_each_token}
use Rattle.luf_gaps.specs.Gaps.{gaps}
use Rattle.luf_gaps.proofs.GapCounts.{gaps_are_counted}

pub enough_gaps : (source : List ℕ) (pieces : List Piece) (string_has table_has : Bool → Bool) (written : List (List ℕ)) (chunk : Chunk) → IsChunk (toks_of pieces) chunk
    → length (gaps source pieces (dropped_block (syntax_of chunk) [])) ≡ openings (main string_has table_has (written_program written chunk))
enough_gaps source pieces string_has table_has written chunk tree =
    gaps_are_counted source pieces (dropped_block (syntax_of chunk) []) ∙ sym (gap_before_each_token (toks_of pieces) string_has table_has written chunk tree)

-- none is left behind the last gap of the draft
pub no_gap_left : (source : List ℕ) (pieces : List Piece) (string_has table_has : Bool → Bool) (written : List (List ℕ)) (chunk : Chunk) → IsChunk (toks_of pieces) chunk
    → drop (openings (main string_has table_has (written_program written chunk))) (gaps source pieces (dropped_block (syntax_of chunk) [])) ≡ []
no_gap_left source pieces string_has table_has written chunk tree =
    let all = gaps source pieces (dropped_block (syntax_of chunk) []) in
    ap (λ n. drop n all) (sym (enough_gaps source pieces string_has table_has written chunk tree)) ∙ drop-length all
