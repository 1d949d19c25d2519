-- A text that is written of a chunk without scope faults has none, as it is read.
use Rattle.std.proofs.Common.{◌≡◌, ℕ, List, [], All, length, map, ap, ◌∙◌}
use Rattle.std.specs.Prelude.{unwrap_or}
use Rattle.std.specs.Option.{option_map}
use Rattle.std.proofs.lemmas.List.Elements.{All-nil, All-cons}
use Rattle.luf_lex.specs.declared.token.Tok.{Tok}
use Rattle.luf_tree.specs.declared.tree.Chunk.{Chunk}
use Rattle.luf_tree.specs.Grammar.{IsChunk}
use Rattle.luf_tree.specs.SyntaxOf.{syntax_of}
use Rattle.luf_bare.specs.Dropped.{dropped_block}
use Rattle.luf_bare.specs.Rank.{rank, ranked}
use Rattle.luf_bare.specs.ReadBack.{SpelledToken, token_of, spelled_at, word_at}
use Rattle.luf_bare.proofs.RankedLaws.{ranked_again}
use Rattle.luf_scope.specs.Fault.{scope_fault}
use Rattle.luf_scope.specs.Local.{Spelling}
use Rattle.luf_scope.specs.Links.{occurrences_of}
use Rattle.luf_scope.specs.Occurrences.{occurrences_in_block}
use Rattle.luf_scope.specs.declared.occurrence.Occurrence.{Occurrence}
use Rattle.luf_resolved.specs.ResolvedLaws.{by_rank, WrittenHasNoFault}
use Rattle.luf_resolved.proofs.Paired.{PairedOption, Any, nothing, more}
use Rattle.luf_resolved.proofs.Ranking.{Solid, Sound, Ranked}
use Rattle.luf_resolved.proofs.RankOrder.{significant_at_rank}
use Rattle.luf_resolved.proofs.EndsByGrammar.{one_end}
use Rattle.luf_resolved.proofs.FaultsAlike.{fault_alike, none_in_first, none_in_second}
use Rattle.luf_resolved.proofs.ResolvedAlike.{occurrences_ranked, told_alike}

all_sound : (toks : List Tok) (all : List ℕ) {us vs : List Occurrence} → Ranked toks all us vs → All (Sound toks all) us
all_sound toks all nothing = All-nil (Sound toks all)
all_sound toks all (more {x} {xs = xs} r rest) = All-cons (Sound toks all) x xs r.sound (all_sound toks all rest)

-- a chunk has a fault where its bare program by ranks has one
bare_fault : (toks : List Tok) (chunk : Chunk) (spelled : Spelling) → IsChunk toks chunk
    → PairedOption Any (scope_fault spelled (occurrences_of chunk)) (scope_fault (by_rank spelled (syntax_of chunk) (length toks)) (occurrences_in_block (ranked (syntax_of chunk))))
bare_fault toks chunk spelled derived =
    let all : List ℕ = dropped_block (syntax_of chunk) [] in
    let told : Spelling = by_rank spelled (syntax_of chunk) (length toks) in
    let tells : (i : ℕ) → Solid toks all i → told (rank all i) ≡ spelled i = λ i s. ap (λ z. unwrap_or (option_map spelled z) []) (significant_at_rank s) in
    let occur : Ranked toks all (occurrences_of chunk) (occurrences_in_block (ranked (syntax_of chunk))) = occurrences_ranked toks chunk derived in
    fault_alike toks all spelled told tells occur (one_end all derived (all_sound toks all occur))

pub written_has_no_fault : WrittenHasNoFault
written_has_no_fault source chunk text derived back none =
    none_in_first (bare_fault (map token_of text) back.read.tree (λ i. (word_at text i).spelled.spelling) back.read.is_tree)
    ((λ t. scope_fault (λ rank. told_alike source chunk text back rank t) (occurrences_in_block (ranked_again source chunk text derived back t)))
    ∙ none_in_second (bare_fault (map (λ (w : SpelledToken). w.token) source) chunk (λ i. (spelled_at source i).spelling) derived) none)
