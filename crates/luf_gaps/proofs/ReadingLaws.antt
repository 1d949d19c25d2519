-- The last note of a source ends its line.
use Rattle.std.proofs.Common.{◌≡◌, true, List, [], ◌∷◌, ◌++◌, refl, sym, ap, ◌∙◌}
use Rattle.luf_doc.specs.declared.doc.Remark.{Remark}
use Rattle.luf_gaps.specs.Gaps.{last_ends}

last_of : (notes : List Remark) (last : Remark) → last_ends (notes ++ last ∷ []) ≡ notes ++ record last { ends_line = true } ∷ []
last_of [] last = refl
last_of (a ∷ []) last = refl
last_of (a ∷ b ∷ notes) last = ap (λ xs. a ∷ xs) (last_of (b ∷ notes) last)

pub ended : (old rest new : List Remark) (last made : Remark) → old ≡ rest ++ last ∷ [] → made ≡ record last { ends_line = true } → new ≡ rest ++ made ∷ [] → new ≡ last_ends old
ended old rest new last made is_old is_made is_new =
    is_new
    ∙ ap (λ x. rest ++ x ∷ []) is_made
    ∙ sym (last_of rest last)
    ∙ ap last_ends (sym is_old)
