-- A chunk resolves to what its bare program by ranks resolves to.
use Rattle.std.proofs.Common.{◌≡◌, ℕ, inl, List, [], length, slice_get, map, ap, sym, refl, ◌∙◌}
use Rattle.std.specs.Prelude.{unwrap_or}
use Rattle.std.specs.Option.{option_map}
use Rattle.luf_lex.specs.declared.token.Tok.{Tok}
use Rattle.luf_tree.specs.declared.tree.Chunk.{Chunk}
use Rattle.luf_tree.specs.Grammar.{IsChunk}
use Rattle.luf_tree.specs.SyntaxOf.{syntax_of}
use Rattle.luf_tree.specs.SyntaxMap.{ShapeMap}
use Rattle.luf_tree.specs.TokenSyntax as tokens
use Rattle.luf_bare.specs.Bare.{Bare, words_of}
use Rattle.luf_bare.specs.Dropped.{dropped_block}
use Rattle.luf_bare.specs.Rank.{rank, ranked}
use Rattle.luf_bare.proofs.RankedParts.{claimed}
use Rattle.luf_scope.specs.Occurrences.{occurrences_in_block}
use Rattle.std.proofs.lemmas.List.{length-map}
use Rattle.std.proofs.lemmas.Option.{slice_get-map}
use Rattle.luf_tree.proofs.SyntaxMapLaws.{option_after}
use Rattle.luf_bare.specs.ReadBack.{SpelledToken, TextWord, token_of, IsReadBack, spelled_at, word_at}
use Rattle.luf_bare.specs.Significant.{significant}
use Rattle.luf_bare.proofs.RankedLaws.{ranked_again}
use Rattle.luf_scope.specs.Local.{Spelling}
use Rattle.luf_resolved.specs.Resolved.{meanings, resolved}
use Rattle.luf_resolved.specs.ResolvedLaws.{by_rank, BareResolvesAlike, WrittenResolvesAlike}
use Rattle.luf_resolved.proofs.Ranking.{Solid, Ranked}
use Rattle.luf_resolved.proofs.RankOrder.{significant_at_rank}
use Rattle.luf_resolved.proofs.AlikeParts.{block_part}
use Rattle.luf_resolved.proofs.MeaningsAlike.{kinds_alike, name_alike, number_alike}

-- no words at all
abbrev forgetful : ShapeMap tokens.Tokens (Bare (Unit {0}))
forgetful = words_of (λ _. tt)

pub occurrences_ranked : (toks : List Tok) (chunk : Chunk) → IsChunk toks chunk → Ranked toks (dropped_block (syntax_of chunk) []) (occurrences_in_block (syntax_of chunk)) (occurrences_in_block (ranked (syntax_of chunk)))
occurrences_ranked toks chunk derived =
    (claimed (block_part toks (dropped_block (syntax_of chunk) []) forgetful forgetful (λ s. refl) (λ i s. refl) (λ i s. refl) (λ i s. refl) derived [])).1 (inl refl)

pub bare_resolves_alike : BareResolvesAlike
bare_resolves_alike toks chunk spelled derived =
    let all : List ℕ = dropped_block (syntax_of chunk) [] in
    let told : Spelling = by_rank spelled (syntax_of chunk) (length toks) in
    let tells : (i : ℕ) → Solid toks all i → told (rank all i) ≡ spelled i = λ i s. ap (λ z. unwrap_or (option_map spelled z) []) (significant_at_rank s) in
    let occur : Ranked toks all (occurrences_in_block (syntax_of chunk)) (occurrences_in_block (ranked (syntax_of chunk))) = occurrences_ranked toks chunk derived in
    let kinds = kinds_alike toks all spelled told tells occur in
    let program =
    (claimed (block_part toks all (meanings spelled (occurrences_in_block (syntax_of chunk))) (meanings told (occurrences_in_block (ranked (syntax_of chunk)))) (λ s. refl)
    (name_alike toks all spelled told tells occur) (number_alike toks all spelled told tells occur) (λ i s. sym (tells i s)) derived [])).0 in
    λ t. record { kinds = sym kinds t; program = program t }

-- ---- of a text that is written of a chunk

-- what is told by rank, by the significant words
told_by_words : (says : ℕ → SpelledToken) (chunk : tokens.Block) (n rank : ℕ)
    → by_rank (λ i. (says i).spelling) chunk n rank ≡ unwrap_or (option_map (λ (w : SpelledToken). w.spelling) (slice_get (map says (significant chunk n)) rank)) []
told_by_words says chunk n rank =
    ap (λ z. unwrap_or z []) (sym (option_after says (λ (w : SpelledToken). w.spelling) (slice_get (significant chunk n) rank)) ∙ ap (option_map (λ (w : SpelledToken). w.spelling)) (sym (slice_get-map says (significant chunk n) rank)))

pub told_alike : (source : List SpelledToken) (chunk : Chunk) (text : List TextWord) (back : IsReadBack source chunk text) (rank : ℕ)
    → by_rank (λ i. (word_at text i).spelled.spelling) (syntax_of back.read.tree) (length (map token_of text)) rank
    ≡ by_rank (λ i. (spelled_at source i).spelling) (syntax_of chunk) (length (map (λ (w : SpelledToken). w.token) source)) rank
told_alike source chunk text back rank =
    ap (λ n. by_rank (λ i. (word_at text i).spelled.spelling) (syntax_of back.read.tree) n rank) (length-map text token_of)
    ∙ told_by_words (λ i. (word_at text i).spelled) (syntax_of back.read.tree) (length text) rank
    ∙ ap (λ z. unwrap_or (option_map (λ (w : SpelledToken). w.spelling) (slice_get z rank)) []) back.significant
    ∙ sym (told_by_words (spelled_at source) (syntax_of chunk) (length source) rank)
    ∙ sym (ap (λ n. by_rank (λ i. (spelled_at source i).spelling) (syntax_of chunk) n rank) (length-map source (λ (w : SpelledToken). w.token)))

pub written_resolves_alike : WrittenResolvesAlike
written_resolves_alike source chunk text derived back =
    bare_resolves_alike (map token_of text) back.read.tree (λ i. (word_at text i).spelled.spelling) back.read.is_tree
    ∙ (λ t. resolved (λ rank. told_alike source chunk text back rank t) (ranked_again source chunk text derived back t))
    ∙ sym (bare_resolves_alike (map (λ (w : SpelledToken). w.token) source) chunk (λ i. (spelled_at source i).spelling) derived)
