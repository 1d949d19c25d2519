-- A stack of documents that are still to be added: what stands above its lowest ones.
use Rattle.std.proofs.Common.{◌≡◌, ℕ, ◌<◌, ◌≤◌, List, [], ◌∷◌, ◌++◌, length, take, drop, map, reverse, sym, ap, ◌∙◌, arith, append-nil, length-append}
use Rattle.std.proofs.Math.ListN.{drop_of_length-le}
use Rattle.std.proofs.Math.Seq.{drop-append_seam, take-append_seam}
use Rattle.std.proofs.lemmas.List.{reverse-append, reverse-reverse, take-append-drop, drop-append-le, take-append-le}
use Rattle.luf_doc.specs.declared.doc.Doc.{Doc}
use Rattle.luf_doc.specs.Document.{nothing, also, documents, document_of}
use Rattle.luf_doc.specs.inner.Above.{above}

-- nothing stands above all of them
pub none_above : (left : List Doc) (n : ℕ) → length left ≤ n → above n left ≡ nothing
none_above left n all = ap (λ (ds : List Doc). documents (map document_of (reverse ds))) (drop_of_length-le left all)

pub all_around : (left : List Doc) (n : ℕ) → length left ≤ n → take n left ≡ left
all_around left n all = sym (append-nil (take n left)) ∙ ap (λ (ds : List Doc). take n left ++ ds) (sym (drop_of_length-le left all)) ∙ take-append-drop n left

-- some are put on top, the last one first
pub put_above : (left more now : List Doc) (n : ℕ) → n ≡ length left → now ≡ left ++ reverse more → above n now ≡ documents (map document_of more)
put_above left more now n is now_is =
    (λ i. above (is i) (now_is i))
    ∙ ap (λ (ds : List Doc). documents (map document_of (reverse ds))) (drop-append_seam left (reverse more))
    ∙ ap (λ (ds : List Doc). documents (map document_of ds)) (reverse-reverse more)

pub put_around : (left more now : List Doc) (n : ℕ) → n ≡ length left → now ≡ left ++ more → take n now ≡ left
put_around left more now n is now_is = (λ i. take (is i) (now_is i)) ∙ take-append_seam left more

-- the one on top is taken
pub next_above : (left rest : List Doc) (next : Doc) (n : ℕ) → n < length left → left ≡ rest ++ next ∷ [] → above n left ≡ also (document_of next) (above n rest)
next_above left rest next n more is =
    let both = length-append rest (next ∷ []) in
    let same : length left ≡ length (rest ++ next ∷ []) = ap length is in
    ap (above n) is
    ∙ ap (λ (ds : List Doc). documents (map document_of (reverse ds))) (drop-append-le n rest (next ∷ []) (omega (arith, both, same, more)))
    ∙ ap (λ (ds : List Doc). documents (map document_of ds)) (reverse-append (drop n rest) (next ∷ []))

pub rest_around : (left rest : List Doc) (next : Doc) (n : ℕ) → n < length left → left ≡ rest ++ next ∷ [] → take n left ≡ take n rest
rest_around left rest next n more is =
    let both = length-append rest (next ∷ []) in
    let same : length left ≡ length (rest ++ next ∷ []) = ap length is in
    ap (take n) is ∙ take-append-le n rest (next ∷ []) (omega (arith, both, same, more))
