-- The comments of a neat list of pieces.
use Rattle.std.proofs.Common.{◌≡◌, ℕ, ◌+◌, cond, List, [], ◌∷◌, ◌++◌, length, take, drop, refl, sym, ap, ◌∙◌, arith}
use Rattle.std.specs.Prelude.{slice_range}
use Rattle.std.proofs.Math.Seq.{take-append_seam, drop-append_seam, drop-drop}
use Rattle.luf_lex.specs.Note.{is_comment}
use Rattle.luf_neat.specs.Pieces.{Bit, joined, pieces_at}
use Rattle.luf_kept.specs.Kept.{comments_in}

abbrev pub bit_comments : List Bit → List (List ℕ)
bit_comments [] = []
bit_comments (p ∷ bits) = cond (is_comment p.kind) (p.bytes ∷ bit_comments bits) (bit_comments bits)

-- what stands behind a front is the rest, and the front is its own slice
pub drop_front : (text a x : List ℕ) (at : ℕ) → drop at text ≡ a ++ x → drop (at + length a) text ≡ x
drop_front text a x at e = sym (drop-drop (length a) at text) ∙ ap (drop (length a)) e ∙ drop-append_seam a x

pub take_front : (text a x : List ℕ) (at : ℕ) → drop at text ≡ a ++ x → slice_range text at (at + length a) ≡ a
take_front text a x at e = ap (λ n. take n (drop at text)) (omega arith) ∙ ap (take (length a)) e ∙ take-append_seam a x

pub neat_comments : (text : List ℕ) (at : ℕ) (bits : List Bit) → drop at text ≡ joined bits → comments_in text (pieces_at at bits) ≡ bit_comments bits
neat_comments text at [] e = refl
neat_comments text at (p ∷ bits) e =
    let rest : List (List ℕ) = comments_in text (pieces_at (at + length p.bytes) bits) in
    ap (λ (b : List ℕ). cond (is_comment p.kind) (b ∷ rest) rest) (take_front text p.bytes (joined bits) at e)
    ∙ ap (λ (cs : List (List ℕ)). cond (is_comment p.kind) (p.bytes ∷ cs) cs) (neat_comments text (at + length p.bytes) bits (drop_front text p.bytes (joined bits) at e))
