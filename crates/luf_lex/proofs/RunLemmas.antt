-- Fronts of a text whose bytes pass a test.
use Rattle.std.proofs.Common.{◌≡◌, ℕ, zero, suc, ◌+◌, ◌-◌, ◌<◌, ◌≤◌, Bool, true, false, cond, ◌&&◌, List, [], ◌∷◌, length, take, drop, length-drop, get_or, refl, sym, ap, ◌∙◌, arith, one-add}
use Rattle.std.specs.List.{list_all, prefix_len}
use Rattle.std.proofs.lemmas.Bool.{and_parts, and_from, cond-true}
use Rattle.std.proofs.Math.Seq.{take-length}
use Rattle.luf_byte.specs.Front.{begins}

-- a front that passes is within the longest one
passing_cons : (p : ℕ → Bool) (b : ℕ) (text : List ℕ) (m : ℕ) → (list_all p (take m text) ≡ true → m ≤ prefix_len p text) → (p b && list_all p (take m text)) ≡ true → suc m ≤ cond (p b) (1 + prefix_len p text) 0
passing_cons p b text m ih each =
    let parts = and_parts (p b) (list_all p (take m text)) each in
    let e : cond (p b) (1 + prefix_len p text) 0 ≡ 1 + prefix_len p text = cond-true (p b) _ _ parts.0 in
    omega (arith, ih parts.1, e)

pub passing_front : (p : ℕ → Bool) (text : List ℕ) (m : ℕ) → m ≤ length text → list_all p (take m text) ≡ true → m ≤ prefix_len p text
passing_front p text zero within each = omega arith
passing_front p [] (suc m) within each = absurd (omega arith)
passing_front p (b ∷ text) (suc m) within each = passing_cons p b text m (passing_front p text m (omega arith)) each

-- the longest front that passes does
front_cons : (p : ℕ → Bool) (b : ℕ) (text : List ℕ) → (v : Bool) → p b ≡ v → list_all p (take (prefix_len p text) text) ≡ true → list_all p (take (cond v (1 + prefix_len p text) 0) (b ∷ text)) ≡ true
front_cons p b text true e ih = rw one-add (and_from (p b) _ e ih)
front_cons p b text false e ih = refl

pub front_passes : (p : ℕ → Bool) (text : List ℕ) → list_all p (take (prefix_len p text) text) ≡ true
front_passes p [] = refl
front_passes p (b ∷ text) = front_cons p b text (p b) refl (front_passes p text)

pub begins_take : (p : ℕ → Bool) (text : List ℕ) (m : ℕ) → 0 < m → begins p (take m text) ≡ begins p text
begins_take p text zero some = absurd (omega arith)
begins_take p [] (suc m) some = refl
begins_take p (b ∷ text) (suc m) some = refl

pub all_weaker : (p q : ℕ → Bool) → ((b : ℕ) → p b ≡ true → q b ≡ true) → (text : List ℕ) → list_all p text ≡ true → list_all q text ≡ true
all_weaker p q weaker [] h = refl
all_weaker p q weaker (b ∷ text) h =
    let parts = and_parts (p b) (list_all p text) h in
    and_from (q b) (list_all q text) (weaker b parts.0) (all_weaker p q weaker text parts.1)

pub begins_weaker : (p q : ℕ → Bool) → ((b : ℕ) → p b ≡ true → q b ≡ true) → (text : List ℕ) → begins p text ≡ true → begins q text ≡ true
begins_weaker p q weaker [] h = h
begins_weaker p q weaker (b ∷ text) h = weaker b h

pub begins_apart : (p q : ℕ → Bool) → ((b : ℕ) → p b ≡ true → q b ≡ true → ⊥) → (text : List ℕ) → begins p text ≡ true → begins q text ≡ true → ⊥
begins_apart p q apart [] h g = cc
begins_apart p q apart (b ∷ text) h g = apart b h g

pub run_some : (p : ℕ → Bool) (text : List ℕ) → begins p text ≡ true → 0 < prefix_len p text
run_some p [] h = cc
run_some p (b ∷ text) h = let e : cond (p b) (1 + prefix_len p text) 0 ≡ 1 + prefix_len p text = cond-true (p b) _ _ h in omega (arith, e)

-- the first byte decides
pub begins_with : (p : ℕ → Bool) (text : List ℕ) (v : Bool) → 0 < length text → p (get_or text 0 0) ≡ v → begins p text ≡ v
begins_with p [] v some e = absurd (omega arith)
begins_with p (c ∷ text) v some e = e

-- all of a list's tail
pub tail_is : (xs : List ℕ) (i : ℕ) → take (length xs - i) (drop i xs) ≡ drop i xs
tail_is xs i = ap (λ n. take n (drop i xs)) (sym (length-drop i xs)) ∙ take-length (drop i xs)
