-- What the functions of the descent answer: the token that an error names, and that an answer is the only one.
use Rattle.std.specs.Prelude.{◌≡◌, ℕ, ◌+◌}
use Rattle.luf_descent.specs.declared.error.ParseErr.{ParseErr}
use Rattle.luf_descent.specs.declared.error.ParseErr.TheVariants as error

-- what is said of the token that an error names; want of memory names none
abbrev pub OfToken : (ℕ → Type 0) → ParseErr → Type 0
OfToken P (error.Syntax token) = P token
OfToken P (error.TooDeep token) = P token
OfToken P error.Memory = Unit {0}

-- of nothing but this it is said
abbrev pub Alone : {A : Type 0} → (A → Type 0) → A → Type 0
Alone {A} P x = (y : A) → P y → y ≡ x

-- a part is read, and then, from what it is, the whole
pub record Then {A B : Type 0} (First : A → Type 0) (Rest : A → B → Type 0) (whole : B) : Type 0 where
  pub part : A
  pub first : First part
  pub rest : Rest part whole

-- a level is entered
abbrev pub Enters : ℕ → ℕ → Type 0
Enters left inner = left ≡ inner + 1
