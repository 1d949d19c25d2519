-- The pieces of a cut, joined, are the source.
use Rattle.std.proofs.Common.{◌≡◌, ℕ, ◌≤◌, Bool, true, false, cond, eqb, List, [], ◌∷◌, ◌++◌, length, drop, append-nil, append_assoc, refl, sym, ap, ◌∙◌, arith}
use Rattle.std.specs.Prelude.{flat_map, slice_range}
use Rattle.std.proofs.Math.Seq.{drop-length}
use Rattle.std.proofs.lemmas.Bool.{eqb-true}
use Rattle.std.proofs.lemmas.Grind.{flat_map-append}
use Rattle.std.proofs.lemmas.List.Folds.{drop_split}
use Rattle.luf_lex.specs.Cut.{Cuts, IsCut, mark_length, head_of, head_end}
use Rattle.luf_lex.specs.declared.token.Kind.TheVariants.{HashLine, Mark}
use Rattle.luf_lex.specs.declared.token.Piece.{Piece}

abbrev bytes_of : List ℕ → Piece → List ℕ
bytes_of source p = slice_range source p.span.from p.span.to

-- the pieces, and what is left behind them, are what there was
cuts_joined : (source : List ℕ) (at : ℕ) (pieces : List Piece) (to : ℕ) → Cuts source at pieces to → flat_map (bytes_of source) pieces ++ drop to source ≡ drop at source
cuts_joined source at [] to cut = ap (λ i. drop i source) (sym cut)
cuts_joined source at (p ∷ pieces) to cut =
    append_assoc (bytes_of source p) (flat_map (bytes_of source) pieces) (drop to source)
    ∙ ap (λ t. bytes_of source p ++ t) (cuts_joined source p.span.to pieces to cut.3)
    ∙ sym (drop_split source p.span.from p.span.to cut.1)
    ∙ ap (λ i. drop i source) cut.0

-- so are the head and what is left behind it
head_joined : (source : List ℕ) (m n : ℕ) → m ≤ n → (v w : Bool) → eqb m 0 ≡ v → eqb n m ≡ w
    → flat_map (bytes_of source) (cond v [] (record { kind = Mark; span = record { from = 0; to = m } } ∷ []) ++ cond w [] (record { kind = HashLine; span = record { from = m; to = n } } ∷ [])) ++ drop n source ≡ source
head_joined source m n le true true none same = ap (λ i. drop i source) (eqb-true n m same ∙ eqb-true m 0 none)
head_joined source m n le true false none other =
    ap (λ t. t ++ drop n source) (append-nil (slice_range source m n)) ∙ sym (drop_split source m n le) ∙ ap (λ i. drop i source) (eqb-true m 0 none)
head_joined source m n le false true some same =
    ap (λ t. t ++ drop n source) (append-nil (slice_range source 0 m)) ∙ ap (λ i. slice_range source 0 m ++ drop i source) (eqb-true n m same) ∙ sym (drop_split source 0 m (omega arith))
head_joined source m n le false false some other =
    ap (λ t. (slice_range source 0 m ++ t) ++ drop n source) (append-nil (slice_range source m n))
    ∙ append_assoc (slice_range source 0 m) (slice_range source m n) (drop n source)
    ∙ ap (λ t. slice_range source 0 m ++ t) (sym (drop_split source m n le))
    ∙ sym (drop_split source 0 m (omega arith))

pub joined : (source : List ℕ) (pieces : List Piece) → IsCut source pieces → flat_map (bytes_of source) pieces ≡ source
joined source pieces cut =
    let front : List ℕ = flat_map (bytes_of source) (head_of source) in
    let rest : List ℕ = flat_map (bytes_of source) cut.rest in
    let behind : rest ≡ drop (head_end source) source =
    sym (append-nil rest) ∙ ap (λ t. rest ++ t) (sym (drop-length source)) ∙ cuts_joined source (head_end source) cut.rest (length source) cut.cut in
    ap (flat_map (bytes_of source)) cut.head
    ∙ flat_map-append (bytes_of source) (head_of source) cut.rest
    ∙ ap (λ t. front ++ t) behind
    ∙ head_joined source (mark_length source) (head_end source) (omega arith) (eqb (mark_length source) 0) (eqb (head_end source) (mark_length source)) refl refl
