-- What holds of each name of a list of marks holds of the one at a token.
use Rattle.std.proofs.Common.{ℕ, Bool, true, false, Option, Some, cond, List, [], ◌∷◌, IfSome}
use Rattle.std.specs.Prelude.{nat_eq}
use Rattle.std.specs.List.{All}
use Rattle.std.proofs.lemmas.List.Elements.{All-head, All-tail}
use Rattle.luf_scope.specs.Marks.{mark_at}

chosen : {T : Type 0} (P : T → Type 0) (b : Bool) (here : T) (later : Option T) → P here → IfSome later P → IfSome (cond b (Some here) later) P
chosen P true here later fits rest = fits
chosen P false here later fits rest = rest

pub mark_fits : {T : Type 0} (P : T → Type 0) (marks : List (ℕ × T)) → All {X = ℕ × T} (λ m. P m.1) marks → (token : ℕ) → IfSome (mark_at marks token) P
mark_fits P [] all token = tt
mark_fits {T} P (m ∷ marks) all token = chosen P (nat_eq m.0 token) m.1 (mark_at marks token) (All-head (λ (n : ℕ × T). P n.1) m marks all) (mark_fits P marks (All-tail (λ (n : ℕ × T). P n.1) m marks all) token)
