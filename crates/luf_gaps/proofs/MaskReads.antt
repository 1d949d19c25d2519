-- What is read of a mask: whether a token is among those that were marked.
use Rattle.std.proofs.Common.{◌≡◌, ℕ, zero, suc, ◌<◌, Bool, true, false, ◌||◌, eqb, List, [], ◌∷◌, length, get_or, replicate, refl, sym, ap, ◌∙◌, arith}
use Rattle.std.proofs.Math.Dec.{eqb-zero-suc, eqb-suc-zero, eqb-suc-suc}
use Rattle.std.proofs.Math.ListN.{set}
use Rattle.std.proofs.lemmas.List.{length-set}
use Rattle.luf_bare.specs.Significant.{is_among}
use Rattle.luf_gaps.specs.inner.Marked.{marked}

length_marked : (ds : List ℕ) (mask : List Bool) → length (marked ds mask) ≡ length mask
length_marked [] mask = refl
length_marked (d ∷ ds) mask = length_marked ds (set mask d true) ∙ length-set mask d true

or_true : (b : Bool) → true ≡ (b || true)
or_true true = refl
or_true false = refl

or_false : (b : Bool) → b ≡ (b || false)
or_false true = refl
or_false false = refl

or_assoc : (a b c : Bool) → ((a || b) || c) ≡ (a || (b || c))
or_assoc true b c = refl
or_assoc false b c = refl

read_set : (mask : List Bool) (d n : ℕ) → n < length mask → get_or (set mask d true) n false ≡ (get_or mask n false || eqb n d)
read_set [] d n inside = absurd (omega arith)
read_set (b ∷ mask) zero zero inside = or_true b
read_set (b ∷ mask) zero (suc n) inside = or_false (get_or mask n false) ∙ ap (λ t. get_or mask n false || t) (sym (eqb-suc-zero n))
read_set (b ∷ mask) (suc d) zero inside = or_false b ∙ ap (λ t. b || t) (sym (eqb-zero-suc d))
read_set (b ∷ mask) (suc d) (suc n) inside = read_set mask d n (omega arith) ∙ ap (λ t. get_or mask n false || t) (sym (eqb-suc-suc n d))

read_marked : (ds : List ℕ) (mask : List Bool) (n : ℕ) → n < length mask → get_or (marked ds mask) n false ≡ (get_or mask n false || is_among n ds)
read_marked [] mask n inside = or_false (get_or mask n false)
read_marked (d ∷ ds) mask n inside =
    read_marked ds (set mask d true) n (omega (arith, length-set mask d true))
    ∙ ap (λ b. b || is_among n ds) (read_set mask d n inside)
    ∙ or_assoc (get_or mask n false) (eqb n d) (is_among n ds)

length_none : (count : ℕ) → length (replicate count false) ≡ count
length_none zero = refl
length_none (suc count) = ap suc (length_none count)

read_none : (count n : ℕ) → get_or (replicate count false) n false ≡ false
read_none zero n = refl
read_none (suc count) zero = refl
read_none (suc count) (suc n) = read_none count n

-- the mask of so many tokens, in which these were marked
pub mask_length : (ds : List ℕ) (count : ℕ) (mask : List Bool) → mask ≡ marked ds (replicate count false) → length mask ≡ count
mask_length ds count mask is = ap length is ∙ length_marked ds (replicate count false) ∙ length_none count

pub mask_at : (ds : List ℕ) (count n : ℕ) (mask : List Bool) → mask ≡ marked ds (replicate count false) → n < count → get_or mask n false ≡ is_among n ds
mask_at ds count n mask is inside =
    ap (λ m. get_or m n false) is
    ∙ read_marked ds (replicate count false) n (omega (arith, length_none count))
    ∙ ap (λ b. b || is_among n ds) (read_none count n)
