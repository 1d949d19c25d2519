-- Texts in one buffer: one more, and one of them.
use Rattle.std.specs.Prelude.{slice_range}
use Rattle.std.proofs.Common.{◌≡◌, ℕ, ◌+◌, ◌-◌, ◌≤◌, ◌<◌, zero, suc, List, [], ◌∷◌, ◌++◌, length, get_or, take, drop, refl, sym, ap, ◌∙◌, arith, length-append, length-drop, subst}
use Rattle.std.proofs.lemmas.List.{drop-append-le, get_or_default, take-append-le}
use Rattle.std.proofs.Math.Seq.{drop-append_seam, take-length}
use Rattle.luf_style.specs.inner.Texts.{texts_from, AreEnds}

-- no end is behind the bytes
pub end_within : (from : ℕ) (ends : List ℕ) (total : ℕ) → AreEnds from ends total → from ≤ total
end_within from [] total is = omega (arith, is)
end_within from (end ∷ ends) total (le, more) = let rest = end_within end ends total more in omega (arith, le, rest)

pub texts_length : (from : ℕ) (ends bytes : List ℕ) → length (texts_from from ends bytes) ≡ length ends
texts_length from [] bytes = refl
texts_length from (end ∷ ends) bytes = let rest = texts_length end ends bytes in omega (arith, rest)

-- ---- one more

pub ends_more : (from : ℕ) (ends : List ℕ) (total more : ℕ) → AreEnds from ends total → AreEnds from (ends ++ (total + more) ∷ []) (total + more)
ends_more from [] total more is = (omega (arith, is), refl)
ends_more from (end ∷ ends) total more (le, rest) = (le, ends_more end ends total more rest)

range_before : (bytes more : List ℕ) (from to : ℕ) → from ≤ to → to ≤ length bytes → slice_range (bytes ++ more) from to ≡ slice_range bytes from to
range_before bytes more from to le within =
    let count : to - from ≤ length (drop from bytes) = omega (arith, length-drop from bytes) in
    ap (take (to - from)) (drop-append-le from bytes more (omega arith)) ∙ take-append-le (to - from) (drop from bytes) more count

range_behind : (bytes more : List ℕ) (from : ℕ) → from ≡ length bytes → slice_range (bytes ++ more) from (length bytes + length more) ≡ more
range_behind bytes more from is =
    let count : length bytes + length more - from ≡ length more = omega (arith, is) in
    ap (λ n. take (length bytes + length more - from) (drop n (bytes ++ more))) is
    ∙ (λ i. take (count i) (drop-append_seam bytes more i))
    ∙ take-length more

pub texts_more : (from : ℕ) (ends bytes more : List ℕ) → AreEnds from ends (length bytes) → texts_from from (ends ++ (length bytes + length more) ∷ []) (bytes ++ more) ≡ texts_from from ends bytes ++ more ∷ []
texts_more from [] bytes more is = ap (λ (t : List ℕ). t ∷ []) (range_behind bytes more from is)
texts_more from (end ∷ ends) bytes more (le, rest) =
    let first = range_before bytes more from end le (end_within end ends (length bytes) rest) in
    let later = texts_more end ends bytes more rest in
    λ i. first i ∷ later i

-- ---- one of them

pub text_first : (ends bytes : List ℕ) (n end : ℕ) → n ≡ 0 → n < length ends → end ≡ get_or ends 0 end → take end bytes ≡ get_or (texts_from 0 ends bytes) n []
text_first [] bytes n end none some is = absurd (omega arith)
text_first (e ∷ ends) bytes n end none some is =
    let same : end ≡ e - 0 = omega (arith, is) in
    ap (λ k. take k bytes) same ∙ ap (λ k. get_or (texts_from 0 (e ∷ ends) bytes) k []) (sym none)

later_text : (from : ℕ) (ends bytes : List ℕ) (n : ℕ) → suc n < length ends → slice_range bytes (get_or ends n 0) (get_or ends (suc n) 0) ≡ get_or (texts_from from ends bytes) (suc n) []
later_text from [] bytes n within = absurd (omega arith)
later_text from (e ∷ []) bytes n within = absurd (omega arith)
later_text from (e ∷ f ∷ ends) bytes zero within = refl
later_text from (e ∷ f ∷ ends) bytes (suc n) within = later_text e (f ∷ ends) bytes n (omega arith)

later_ends : (from : ℕ) (ends : List ℕ) (total n : ℕ) → AreEnds from ends total → suc n < length ends → (get_or ends n 0 ≤ get_or ends (suc n) 0) × (get_or ends (suc n) 0 ≤ total)
later_ends from [] total n are within = absurd (omega arith)
later_ends from (e ∷ []) total n are within = absurd (omega arith)
later_ends from (e ∷ f ∷ ends) total zero (le, (more, rest)) within = (more, end_within f ends total rest)
later_ends from (e ∷ f ∷ ends) total (suc n) (le, rest) within = later_ends e (f ∷ ends) total n rest (omega arith)

pub first_end : (ends : List ℕ) (total end : ℕ) → AreEnds 0 ends total → 0 < length ends → end ≡ get_or ends 0 end → end ≤ total
first_end [] total end are some is = absurd (omega arith)
first_end (e ∷ ends) total end (le, rest) some is = let within = end_within e ends total rest in omega (arith, is, within)

-- by the number of the text
pub text_behind : (ends bytes : List ℕ) (n from end : ℕ) → 0 < n → n < length ends → from ≡ get_or ends (n - 1) from → end ≡ get_or ends n end → slice_range bytes from end ≡ get_or (texts_from 0 ends bytes) n []
text_behind ends bytes zero from end some within is_from is_end = absurd (omega arith)
text_behind ends bytes (suc n) from end some within is_from is_end =
    let back : suc n - 1 ≡ n = omega arith in
    let from_is : from ≡ get_or ends n 0 = is_from ∙ ap (λ k. get_or ends k from) back ∙ get_or_default ends n from 0 (omega arith) in
    let end_is : end ≡ get_or ends (suc n) 0 = is_end ∙ get_or_default ends (suc n) end 0 within in
    (λ i. slice_range bytes (from_is i) (end_is i)) ∙ later_text 0 ends bytes n within

pub ends_rise : (ends : List ℕ) (total n from end : ℕ) → AreEnds 0 ends total → 0 < n → n < length ends → from ≡ get_or ends (n - 1) from → end ≡ get_or ends n end → (from ≤ end) × (end ≤ total)
ends_rise ends total zero from end are some within is_from is_end = absurd (omega arith)
ends_rise ends total (suc n) from end are some within is_from is_end =
    let back : suc n - 1 ≡ n = omega arith in
    let from_is : from ≡ get_or ends n 0 = is_from ∙ ap (λ k. get_or ends k from) back ∙ get_or_default ends n from 0 (omega arith) in
    let end_is : end ≡ get_or ends (suc n) 0 = is_end ∙ get_or_default ends (suc n) end 0 within in
    let both = later_ends 0 ends total n are within in
    let first = both.0 in
    let second = both.1 in (omega (arith, from_is, end_is, first), omega (arith, end_is, second))

pub no_text : (from : ℕ) (ends bytes : List ℕ) (n : ℕ) → length ends ≤ n → get_or (texts_from from ends bytes) n [] ≡ []
no_text from [] bytes n past = refl
no_text from (e ∷ ends) bytes zero past = absurd (omega arith)
no_text from (e ∷ ends) bytes (suc n) past = no_text e ends bytes n (omega arith)

-- ---- as the program has them

pub pushed_ends : (ends bytes more ends' bytes' : List ℕ) (end : ℕ) → AreEnds 0 ends (length bytes) → bytes' ≡ bytes ++ more → end ≡ length bytes' → ends' ≡ ends ++ end ∷ [] → AreEnds 0 ends' (length bytes')
pushed_ends ends bytes more ends' bytes' end are bytes_are end_is ends_are =
    let count : length bytes' ≡ length bytes + length more = ap length bytes_are ∙ length-append bytes more in
    subst (AreEnds 0 ends') (sym count) (subst (λ es. AreEnds 0 es (length bytes + length more)) (sym (ends_are ∙ ap (λ e. ends ++ e ∷ []) (end_is ∙ count))) (ends_more 0 ends (length bytes) (length more) are))

pub pushed_texts : (ends bytes more ends' bytes' : List ℕ) (end : ℕ) → AreEnds 0 ends (length bytes) → bytes' ≡ bytes ++ more → end ≡ length bytes' → ends' ≡ ends ++ end ∷ []
    → texts_from 0 ends' bytes' ≡ texts_from 0 ends bytes ++ more ∷ []
pushed_texts ends bytes more ends' bytes' end are bytes_are end_is ends_are =
    let count : length bytes' ≡ length bytes + length more = ap length bytes_are ∙ length-append bytes more in
    (λ i. texts_from 0 ((ends_are ∙ ap (λ e. ends ++ e ∷ []) (end_is ∙ count)) i) (bytes_are i)) ∙ texts_more 0 ends bytes more are
