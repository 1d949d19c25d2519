-- A text under names that are written down is the minified text.
use Rattle.std.proofs.Common.{◌≡◌, ℕ, List, subst}
use Rattle.luf_lex.specs.declared.token.Piece.{Piece}
use Rattle.luf_tree.specs.declared.tree.Chunk.{Chunk}
use Rattle.luf_scope.specs.Links.{spelling_in, occurrences_of}
use Rattle.luf_scope.specs.Local.{Spelling}
use Rattle.luf_resolved.specs.Source.{IsSource}
use Rattle.luf_interf.specs.NewNames.{AreNames, renamed}
use Rattle.luf_interf.proofs.NewWords.{written_words}
use Rattle.luf_min.specs.Minified.{IsMinified, IsMinifiedSo, spelled_under}

-- under such names each token is spelled as under the naming
pub spelled_so : (source : List ℕ) (pieces : List Piece) (chunk : Chunk) (names : List (ℕ × List ℕ)) (are : AreNames (spelling_in source pieces) (occurrences_of chunk) names) (token : ℕ)
    → spelled_under names (spelling_in source pieces) token ≡ renamed (spelling_in source pieces) (occurrences_of chunk) are.naming are.label_naming token
spelled_so source pieces chunk names are token = written_words (spelling_in source pieces) (occurrences_of chunk) names are token

pub minified_under : (source : List ℕ) (pieces : List Piece) (chunk : Chunk) (names : List (ℕ × List ℕ)) (text : List ℕ) → IsSource source pieces chunk → AreNames (spelling_in source pieces) (occurrences_of chunk) names
    → IsMinifiedSo source pieces chunk (spelled_under names (spelling_in source pieces)) text → IsMinified source text
minified_under source pieces chunk names text is are minified = record {
  pieces = pieces;
  chunk = chunk;
  is = is;
  naming = are.naming;
  label_naming = are.label_naming;
  least = are.least;
  minified = subst (λ (told : Spelling). IsMinifiedSo source pieces chunk told text) (λ i token. spelled_so source pieces chunk names are token i) minified;
}
