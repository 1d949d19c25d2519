-- Pieces in place, one more at the end.
use Rattle.std.proofs.Common.{◌≡◌, ℕ, List, [], ◌∷◌, ◌++◌, length, take, drop, refl, sym, ap, subst, ◌∙◌, append_assoc}
use Rattle.std.specs.List.{flat_map}
use Rattle.std.proofs.lemmas.List.{take_at, drop_at, append-nil}
use Rattle.std.proofs.lemmas.Grind.{flat_map-append}
use Rattle.luf_str.specs.Pieces.{AllInPlace}

pub in_place_join : {X : Type 0} (P : X → List ℕ → Type 0) (bytes : X → List ℕ) (xs ys : List X) (next : List ℕ)
    → AllInPlace P bytes xs (flat_map bytes ys ++ next) → AllInPlace P bytes ys next → AllInPlace P bytes (xs ++ ys) next
in_place_join P bytes [] ys next front back = back
in_place_join P bytes (x ∷ xs) ys next front back =
    let e : flat_map bytes xs ++ (flat_map bytes ys ++ next) ≡ flat_map bytes (xs ++ ys) ++ next = sym (append_assoc (flat_map bytes xs) (flat_map bytes ys) next) ∙ ap (λ t. t ++ next) (sym (flat_map-append bytes xs ys)) in
    (subst (P x) e front.0, in_place_join P bytes xs ys next front.1 back)

pub in_place_push : {X : Type 0} (P : X → List ℕ → Type 0) (bytes : X → List ℕ) (xs : List X) (x : X) (next : List ℕ)
    → AllInPlace P bytes xs (bytes x ++ next) → P x next → AllInPlace P bytes (xs ++ x ∷ []) next
in_place_push P bytes xs x next front last =
    in_place_join P bytes xs (x ∷ []) next (subst (λ t. AllInPlace P bytes xs (t ++ next)) (sym (append-nil (bytes x))) front) (last, tt)

pub behind_first : (q : ℕ) (m n : List ℕ) → q ∷ m ≡ q ∷ n → m ≡ n
behind_first q m n e = cc

-- two ways to cut a text at one place are one
pub same_cut : (a b c d : List ℕ) → a ++ b ≡ c ++ d → length a ≡ length c → (a ≡ c) × (b ≡ d)
same_cut a b c d e len =
    (sym (take_at a b _ refl) ∙ ap (take (length a)) e ∙ take_at c d _ (sym len), sym (drop_at a b _ refl) ∙ ap (drop (length a)) e ∙ drop_at c d _ (sym len))

-- ---- at most one way

-- which piece stands at the front of a text is determined
abbrev pub IsDetermined : {X : Type 0} → (X → List ℕ → Type 0) → (X → List ℕ) → Type 0
IsDetermined {X} P bytes = (x y : X) (m n : List ℕ) → P x m → P y n → bytes x ++ m ≡ bytes y ++ n → (x ≡ y) × (m ≡ n)

-- no piece stands at the front of a text
abbrev pub NoPiece : {X : Type 0} → (X → List ℕ → Type 0) → (X → List ℕ) → List ℕ → Type 0
NoPiece {X} P bytes next = (x : X) (m : List ℕ) → P x m → bytes x ++ m ≡ next → ⊥

cons_is : {X : Type 0} (x y : X) (xs ys : List X) → x ≡ y → xs ≡ ys → x ∷ xs ≡ y ∷ ys
cons_is x y xs ys e f = cc

pub same_pieces : {X : Type 0} (P : X → List ℕ → Type 0) (bytes : X → List ℕ) → IsDetermined P bytes → (xs ys : List X) (m n : List ℕ)
    → AllInPlace P bytes xs m → AllInPlace P bytes ys n → NoPiece P bytes m → NoPiece P bytes n → flat_map bytes xs ++ m ≡ flat_map bytes ys ++ n → (xs ≡ ys) × (m ≡ n)
same_pieces P bytes det [] [] m n all others stop stop' e = (refl, e)
same_pieces P bytes det [] (y ∷ ys) m n all others stop stop' e = absurd (stop y (flat_map bytes ys ++ n) others.0 (sym (e ∙ append_assoc (bytes y) (flat_map bytes ys) n)))
same_pieces P bytes det (x ∷ xs) [] m n all others stop stop' e = absurd (stop' x (flat_map bytes xs ++ m) all.0 (sym (append_assoc (bytes x) (flat_map bytes xs) m) ∙ e))
same_pieces P bytes det (x ∷ xs) (y ∷ ys) m n all others stop stop' e =
    let cut : bytes x ++ (flat_map bytes xs ++ m) ≡ bytes y ++ (flat_map bytes ys ++ n) = sym (append_assoc (bytes x) (flat_map bytes xs) m) ∙ e ∙ append_assoc (bytes y) (flat_map bytes ys) n in
    let first = det x y (flat_map bytes xs ++ m) (flat_map bytes ys ++ n) all.0 others.0 cut in
    let rest = same_pieces P bytes det xs ys m n all.1 others.1 stop stop' first.1 in
    (cons_is x y xs ys first.0 rest.0, rest.1)

-- ---- texts that grow

-- what is appended twice is appended once
pub appended : (start done old new value : List ℕ) → old ≡ start ++ done → new ≡ old ++ value → new ≡ start ++ (done ++ value)
appended start done old new value before after = after ∙ ap (λ t. t ++ value) before ∙ append_assoc start done value
