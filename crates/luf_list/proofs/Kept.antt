-- What is appended leaves what was there.
use Rattle.std.proofs.Common.{Result, Ok, Err, ◌≡◌, ℕ, List, ◌++◌, length, take, drop, refl, sym, ap, ◌∙◌, append_assoc, take-append-drop}
use Rattle.std.specs.Prelude.{OnErr}
use Rattle.std.proofs.lemmas.List.{take_at}

-- what begins with the old bytes keeps them
kept_front : (old new more : List ℕ) → new ≡ old ++ more → take (length old) new ≡ old
kept_front old new more is = rw is (take_at old more (length old) refl)

-- and so does what begins with what keeps them
kept_through : (old mid new : List ℕ) → take (length old) mid ≡ old → take (length mid) new ≡ mid → take (length old) new ≡ old
kept_through old mid new kept kept_mid =
    let mid_is : mid ≡ old ++ drop (length old) mid = sym (take-append-drop (length old) mid) ∙ ap (λ t. t ++ drop (length old) mid) kept in
    let new_is : new ≡ mid ++ drop (length mid) new = sym (take-append-drop (length mid) new) ∙ ap (λ t. t ++ drop (length mid) new) kept_mid in
    kept_front old new (drop (length old) mid ++ drop (length mid) new)
    (new_is ∙ ap (λ t. t ++ drop (length mid) new) mid_is ∙ append_assoc old (drop (length old) mid) (drop (length mid) new))

pub kept_more : (old mid new more : List ℕ) → take (length old) mid ≡ old → new ≡ mid ++ more → take (length old) new ≡ old
kept_more old mid new more kept is = kept_through old mid new kept (kept_front mid new more is)

pub kept_behind : (old mid new more : List ℕ) → mid ≡ old ++ more → take (length mid) new ≡ mid → take (length old) new ≡ old
kept_behind old mid new more is kept = kept_through old mid new (kept_front old mid more is) kept

-- what an error leaves
pub on_err : {T E : Type 0} (r : Result T E) (P : Type 0) → P → OnErr r P
on_err (Ok x) P p = tt
on_err (Err e) P p = p

pub kept_on_err : {T E : Type 0} (r : Result T E) (old mid new more : List ℕ) → mid ≡ old ++ more → OnErr r (take (length mid) new ≡ mid) → OnErr r (take (length old) new ≡ old)
kept_on_err (Ok x) old mid new more is kept = tt
kept_on_err (Err e) old mid new more is kept = kept_behind old mid new more is kept
