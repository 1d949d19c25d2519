-- How many nodes a document has, as far as they are counted.
use Rattle.std.proofs.Common.{◌≡◌, ◌<◌, ◌≤◌, ◌+◌, ◌∙◌, ℕ, List, ◌∷◌, ap, sym, arith, min, drop, map, length, get_or}
use Rattle.std.proofs.lemmas.List.{drop_more, drop_all}
use Rattle.luf_doc.specs.declared.doc.Doc.{Doc}
use Rattle.luf_doc.specs.declared.doc.Doc.TheVariants as doc
use Rattle.luf_doc.specs.Document.{documents, document_of}
use Rattle.luf_doc.specs.Table.{node_count, all_count}
use Rattle.luf_doc.proofs.DocumentLaws.{sequence_document}

abbrev pub count_of : List Doc → ℕ
count_of items = all_count (documents (map document_of items))

pub count_first : (d : Doc) (items seen : List Doc) → d ≡ doc.Seq items → seen ≡ items → min (node_count (document_of d)) 4294967295 ≡ min (1 + count_of (drop 0 seen)) 4294967295
count_first d items seen is same =
    ap (λ (d : Doc). min (node_count (document_of d)) 4294967295) is ∙ ap (λ x. min (node_count x) 4294967295) (sequence_document items)
    ∙ ap (λ (ds : List Doc). min (1 + count_of ds) 4294967295) (sym same)

pub count_more : (items : List Doc) (at : ℕ) (item : Doc) (whole count more next : ℕ) → at < length items → item ≡ get_or items at item → whole ≡ min (count + count_of (drop at items)) 4294967295
    → more ≡ min (node_count (document_of item)) 4294967295 → next ≡ min (count + more) 4294967295 → whole ≡ min (next + count_of (drop (at + 1) items)) 4294967295
count_more items at item whole count more next within item_is so_far more_is next_is =
    let left : drop at items ≡ item ∷ drop (at + 1) items = drop_more items at item within ∙ ap (λ (d : Doc). d ∷ drop (at + 1) items) (sym item_is) in
    let counts = ap count_of left in
    omega (arith, counts, so_far, more_is, next_is)

pub count_last : (items : List Doc) (at whole count : ℕ) → length items ≤ at → count ≤ 4294967295 → whole ≡ min (count + count_of (drop at items)) 4294967295 → count ≡ whole
count_last items at whole count past fits so_far =
    let none = ap count_of (drop_all at items past) in
    omega (arith, none, so_far, fits)
