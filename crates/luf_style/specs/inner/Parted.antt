-- What a vector held before, and what has been written behind it.
use Rattle.std.specs.Prelude.{ℕ, List, refl}
use Rattle.std.specs.Coded.{Coded, code_by, coded×, coded_list, coded_ℕ}

pub record Parted : Type 0 where
  pub before : List ℕ
  pub behind : List ℕ

-- it is stored as the pair of its fields
abbrev pub parted_code : Coded Parted
parted_code =
    code_by (List ℕ × List ℕ) (coded× (coded_list coded_ℕ) (coded_list coded_ℕ)) (λ p. (p.before, p.behind)) (λ p. record { before = p.0; behind = p.1 }) (λ _. refl)
