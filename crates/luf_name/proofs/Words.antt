-- The longest of the words, which the search over all words does not reach.
use Rattle.std.proofs.Common.{◌≡◌, ℕ, List, [], ◌∷◌, length, get_or, codes, arith}
use Rattle.luf_name.specs.Barred.{IsBarred, word_function}

eight : (name : List ℕ) → length name ≡ 8 → get_or name 0 0 ≡ 102 → get_or name 1 0 ≡ 117 → get_or name 2 0 ≡ 110 → get_or name 3 0 ≡ 99 → get_or name 4 0 ≡ 116 → get_or name 5 0 ≡ 105 → get_or name 6 0 ≡ 111 → get_or name 7 0 ≡ 110 → name ≡ codes "function"
eight [] size i1 i2 i3 i4 i5 i6 i7 i8 = absurd (omega (arith, size))
eight (a ∷ []) size i1 i2 i3 i4 i5 i6 i7 i8 = absurd (omega (arith, size))
eight (a ∷ b ∷ []) size i1 i2 i3 i4 i5 i6 i7 i8 = absurd (omega (arith, size))
eight (a ∷ b ∷ c ∷ []) size i1 i2 i3 i4 i5 i6 i7 i8 = absurd (omega (arith, size))
eight (a ∷ b ∷ c ∷ d ∷ []) size i1 i2 i3 i4 i5 i6 i7 i8 = absurd (omega (arith, size))
eight (a ∷ b ∷ c ∷ d ∷ e ∷ []) size i1 i2 i3 i4 i5 i6 i7 i8 = absurd (omega (arith, size))
eight (a ∷ b ∷ c ∷ d ∷ e ∷ f ∷ []) size i1 i2 i3 i4 i5 i6 i7 i8 = absurd (omega (arith, size))
eight (a ∷ b ∷ c ∷ d ∷ e ∷ f ∷ g ∷ []) size i1 i2 i3 i4 i5 i6 i7 i8 = absurd (omega (arith, size))
eight (a ∷ b ∷ c ∷ d ∷ e ∷ f ∷ g ∷ h ∷ []) size i1 i2 i3 i4 i5 i6 i7 i8 = cc
eight (a ∷ b ∷ c ∷ d ∷ e ∷ f ∷ g ∷ h ∷ i ∷ rest) size i1 i2 i3 i4 i5 i6 i7 i8 = absurd (omega (arith, size))

pub function_is_barred : (name : List ℕ) → length name ≡ 8 → get_or name 0 0 ≡ 102 → get_or name 1 0 ≡ 117 → get_or name 2 0 ≡ 110 → get_or name 3 0 ≡ 99 → get_or name 4 0 ≡ 116 → get_or name 5 0 ≡ 105 → get_or name 6 0 ≡ 111 → get_or name 7 0 ≡ 110 → IsBarred name
function_is_barred name size a b c d e f g h = word_function (eight name size a b c d e f g h)
