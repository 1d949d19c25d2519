-- What is written and what is left, after one more line or one more function.
use Rattle.std.proofs.Common.{◌≡◌, ◌∙◌, ap, sym, ℕ, ◌+◌, ◌<◌, suc, List, ◌∷◌, ◌++◌, map, drop, length, get_or, drop-cons, add-one, append_assoc}
use Rattle.luf_list.specs.Listing.{constant_line, constant_lines, inner_listings, inner_path, listing_at}
use Rattle.luf_proto.specs.FunctionOf.{function_of, functions_of}
use Rattle.luf_proto.specs.declared.proto.Const.{Const}
use Rattle.luf_proto.specs.declared.proto.Proto.{Proto}

-- an element and what is behind it
drop_at : {A : Type 0} (xs : List A) (i : ℕ) (x : A) → i < length xs → x ≡ get_or xs i x → drop i xs ≡ x ∷ drop (i + 1) xs
drop_at xs i x within at = rw add-one (drop-cons xs i x within ∙ ap (λ y. y ∷ drop (suc i) xs) (sym at))

-- a piece is written, and the rest is left
piece_written : (all into now piece rest left : List ℕ) → now ≡ into ++ piece → left ≡ piece ++ rest → into ++ left ≡ all → now ++ rest ≡ all
piece_written all into now piece rest left is opened before =
    ap (λ xs. xs ++ rest) is ∙ append_assoc into piece rest ∙ ap (λ xs. into ++ xs) (sym opened) ∙ before

pub constant_written : (all into now : List ℕ) (cs : List Const) (i : ℕ) (c : Const) → i < length cs → c ≡ get_or cs i c → now ≡ into ++ constant_line i c → into ++ constant_lines i (drop i cs) ≡ all → now ++ constant_lines (i + 1) (drop (i + 1) cs) ≡ all
constant_written all into now cs i c within at is before =
    piece_written all into now (constant_line i c) (constant_lines (i + 1) (drop (i + 1) cs)) (constant_lines i (drop i cs)) is (ap (constant_lines i) (drop_at cs i c within at)) before

pub inner_written : (all into now path inner : List ℕ) (ps : List Proto) (i : ℕ) (p : Proto) → i < length ps → p ≡ get_or ps i p → inner ≡ inner_path path i → now ≡ into ++ listing_at inner (function_of p) → into ++ inner_listings path i (functions_of (map function_of (drop i ps))) ≡ all → now ++ inner_listings path (i + 1) (functions_of (map function_of (drop (i + 1) ps))) ≡ all
inner_written all into now path inner ps i p within at path_is is before =
    piece_written all into now (listing_at (inner_path path i) (function_of p)) (inner_listings path (i + 1) (functions_of (map function_of (drop (i + 1) ps)))) (inner_listings path i (functions_of (map function_of (drop i ps))))
    (is ∙ ap (λ at_path. into ++ listing_at at_path (function_of p)) path_is)
    (ap (λ (qs : List Proto). inner_listings path i (functions_of (map function_of qs))) (drop_at ps i p within at))
    before
