-- Truth values.
use Rattle.std.proofs.Common.{◌≡◌, Bool, true, false, ◌&&◌, ◌||◌, refl, ap, ◌∙◌}
use Rattle.std.proofs.Math.Bool.{or-true}

pub or_at : (a b : Bool) → a ≡ true → (a || b) ≡ true
or_at a b is = ap (λ (x : Bool). x || b) is

pub or_on : (a b c : Bool) → (b ≡ true → c ≡ true) → (a || b) ≡ true → (a || c) ≡ true
or_on true b c onward is = refl
or_on false b c onward is = onward is

pub or_both : (a b c d : Bool) → (a ≡ true → c ≡ true) → (b ≡ true → d ≡ true) → (a || b) ≡ true → (c || d) ≡ true
or_both true b c d left right is = or_at c d (left refl)
or_both false b c d left right is = ap (λ (x : Bool). c || x) (right is) ∙ or-true c

pub none_or : (a b : Bool) → a ≡ false → b ≡ false → (a || b) ≡ false
none_or a b is at = ap (λ (x : Bool). x || b) is ∙ at

pub both : (a b : Bool) → a ≡ true → b ≡ true → (a && b) ≡ true
both a b is at = ap (λ (x : Bool). x && b) is ∙ at

pub moved : (a b c : Bool) → ((a || b) || c) ≡ true → (b || (a || c)) ≡ true
moved true b c is = or-true b
moved false b c is = is
