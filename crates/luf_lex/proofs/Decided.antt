-- Equations between lists are decided.
use Rattle.std.proofs.Common.{◌≡◌, ℕ, ◌⊎◌, eqb, List, [], ◌∷◌, ◌++◌, length, take, drop, refl, sym, ap, ◌∙◌, inl, inr, eq-eqb, take-append-drop}
use Rattle.std.proofs.lemmas.Bool.{cases_Bool, eqb-true, false≢true}
use Rattle.std.proofs.lemmas.List.{take_at}

abbrev pub Decided : Type 0 → Type 0
Decided P = P ⊎ (P → ⊥)

behind_first : (a b : ℕ) (m n : List ℕ) → a ∷ m ≡ b ∷ n → (a ≡ b) × (m ≡ n)
behind_first a b m n e = (cc, cc)

pub same_or_not : (a b : List ℕ) → Decided (a ≡ b)
same_or_not [] [] = inl refl
same_or_not [] (y ∷ b) = inr (λ e. cc)
same_or_not (x ∷ a) [] = inr (λ e. cc)
same_or_not (x ∷ a) (y ∷ b) =
    elim (cases_Bool (eqb x y)) [
      | inr fails ↦ inr (λ e. false≢true (sym fails ∙ eq-eqb x y (behind_first x y a b e).0))
      | inl holds ↦ elim (same_or_not a b) [
        | inl e ↦ inl (ap (λ z. z ∷ a) (eqb-true x y holds) ∙ ap (λ t. y ∷ t) e)
        | inr fails ↦ inr (λ e. fails (behind_first x y a b e).1)
      ]
    ]

-- what stands behind a front of the text
abbrev pub Behind : List ℕ → List ℕ → Type 0
Behind front text = (behind : List ℕ) × (text ≡ front ++ behind)

pub front_or_not : (front text : List ℕ) → Decided (Behind front text)
front_or_not front text =
    elim (same_or_not (take (length front) text) front) [
      | inl e ↦ inl (drop (length front) text, sym (take-append-drop (length front) text) ∙ ap (λ t. t ++ drop (length front) text) e)
      | inr fails ↦ inr (λ h. fails (ap (take (length front)) h.1 ∙ take_at front h.0 (length front) refl))
    ]
