-- What a call that goes wrong says of its caller's part, and what is known in each list that agrees.
use Rattle.std.proofs.Common.{◌≡◌, ℕ, ◌+◌, ◌<◌, ◌≤◌, inr, Bool, List, length, refl, sym, subst, arith, Ok, Err}
use Rattle.std.specs.Prelude.{Result, IfOk, IfErr}
use Rattle.std.specs.Result.{IsErrAnd}
use Rattle.luf_lex.specs.declared.token.Tok.{Tok}
use Rattle.luf_tree.specs.Agree.{AgreeBefore}
use Rattle.luf_tree.specs.Entry.{Entry}
use Rattle.luf_tree.specs.Grammar.{IsToken}
use Rattle.luf_descent.specs.Exact.{Then, Enters}
use Rattle.luf_descent.specs.Reads.{Found}
use Rattle.luf_descent.specs.Stops.{Known, Kind, wrong, deep, Says, Completes, Stops, Missing, NameMissing, StopsName}
use Rattle.luf_descent.specs.PartStops.{StopsToken}
use Rattle.luf_descent.specs.declared.error.ParseErr.{ParseErr}
use Rattle.luf_descent.specs.declared.error.ParseErr.TheVariants as error
use Rattle.luf_descent.proofs.Exactness.{passed, then_rest}
use Rattle.luf_descent.proofs.Completing.{Room, agree_less, token_agrees}
use Rattle.luf_descent.proofs.ExprStops.{token_missing}

-- where a part that was read ends

pub on : {toks : List Tok} {i j levels left : ℕ} {D : Type 0} → Found toks (i + 1) j left levels D → i ≤ j
on h = let f = h.ends.forward in omega arith

pub beyond : {toks : List Tok} {i j levels left : ℕ} {D : Type 0} → Found toks (i + 1) j left levels D → i < j
beyond h = let f = h.ends.forward in omega arith

-- a list agrees with itself, and has room for what was read of it

pub agree_self : (toks : List Tok) (n : ℕ) → AgreeBefore toks toks n
agree_self toks n = record { same = λ k low. refl }

pub room_self : (toks : List Tok) (n : ℕ) → Room toks toks n
room_self toks n = record { agree = agree_self toks n; fits = λ p le none. none }

pub room_less : {toks l : List Tok} {n m : ℕ} → Room toks l n → m ≤ n → Room toks l m
room_less room le = record { agree = agree_less room.agree le; fits = λ p low none. room.fits p (omega arith) none }

-- errors that are passed on

pub stopped : {R A B : Type 0} {toks : List Tok} {i left : ℕ} {paren : Bool} {D : List Tok → ℕ → A → Type 0} {E : ℕ → A → List Entry} {P : List Tok → ℕ → B → Type 0} {e : ParseErr}
    (r : Result R ParseErr) → IsErrAnd r (λ x. x ≡ e) → Stops toks i left paren D E P e → IfErr r (Stops toks i left paren D E P)
stopped {R} {A} {B} {toks} {i} {left} {paren} {D} {E} {P} {e} r is h = passed (Stops toks i left paren D E P) r is h

-- no memory was found
pub memory_stops : {A B : Type 0} {toks : List Tok} {i left : ℕ} {paren : Bool} {D : List Tok → ℕ → A → Type 0} {E : ℕ → A → List Entry} {P : List Tok → ℕ → B → Type 0} {e : ParseErr}
    → e ≡ error.Memory → Stops toks i left paren D E P e
memory_stops {A} {B} {toks} {i} {left} {paren} {D} {E} {P} {e} is = record { completes = λ kind t says. none kind t says; nothing = λ t same. absurd (wrong_memory (sym same) is) }
  where
    wrong_memory : {t : ℕ} → error.Syntax t ≡ e → e ≡ error.Memory → ⊥
    wrong_memory a b = cc

    deep_memory : {t : ℕ} → error.TooDeep t ≡ e → e ≡ error.Memory → ⊥
    deep_memory a b = cc

    none : (kind : Kind) (t : ℕ) → Says kind t e → Completes kind toks i left t paren D E
    none wrong t says = absurd (wrong_memory (sym says) is)
    none deep t says = absurd (deep_memory (sym says) is)

pub made_memory : {R : Type 0} (Q : ParseErr → Type 0) (r : Result R ParseErr) → IfErr r (λ e. e ≡ error.Memory) → Q error.Memory → IfErr r Q
made_memory Q (Ok x) is h = cc
made_memory Q (Err e) is h = subst Q (sym is) h

-- what a call answers in the caller's place
pub err_map : {R : Type 0} {P Q : ParseErr → Type 0} (r : Result R ParseErr) → IfErr r P → ((e : ParseErr) → P e → Q e) → IfErr r Q
err_map (Ok x) h f = cc
err_map (Err e) h f = f e h

pub ok_map : {A E : Type 0} {P Q R : A → Type 0} (r : Result A E) → IfOk r P → IfOk r Q → ((x : A) → P x → Q x → R x) → IfOk r R
ok_map (Ok x) h k f = f x h k
ok_map (Err e) h k f = cc

-- a missing token, and a level too many

pub token_stops : {toks : List Tok} {at left : ℕ} {t : Tok} {e : ParseErr} → at ≤ length toks → Missing toks at t e → StopsToken toks left at t e
token_stops {toks} {at} {left} {t} {e} within h = subst (λ (x : ParseErr). StopsToken toks left at t x) (sym h.is) (token_missing t within h.other)

pub here_stops : {A B : Type 0} {toks : List Tok} {i left : ℕ} {paren : Bool} {D : List Tok → ℕ → A → Type 0} {E : ℕ → A → List Entry} {P : List Tok → ℕ → B → Type 0} {e x : ParseErr}
    → e ≡ x → Stops toks i left paren D E P x → Stops toks i left paren D E P e
here_stops {A} {B} {toks} {i} {left} {paren} {D} {E} {P} {e} {x} is h = subst (λ (y : ParseErr). Stops toks i left paren D E P y) (sym is) h

-- names

pub name_stopped : {R A B : Type 0} {toks : List Tok} {i : ℕ} {D : List Tok → ℕ → A → Type 0} {P : List Tok → B → Type 0} {e : ParseErr}
    (r : Result R ParseErr) → IsErrAnd r (λ x. x ≡ e) → NameMissing toks i D P e → IfErr r (StopsName toks i D P)
name_stopped {R} {A} {B} {toks} {i} {D} {P} {e} r is h = passed (StopsName toks i D P) r is (inr h)

-- ---- what is known, of a whole by its parts

pub token_at : {toks l : List Tok} {i j : ℕ} {t : Tok} → AgreeBefore toks l (i + 1) → IsToken toks i t j → IsToken l i t j
token_at agree t = token_agrees agree (omega arith) t

-- what is said in another form
pub known_form : {A : Type 0} {toks : List Tok} {at to : ℕ} {P Q : List Tok → ℕ → A → Type 0} {x : A} → at ≤ to → ((l : List Tok) → AgreeBefore toks l (at + 1) → (n : ℕ) (y : A) → P l n y → Q l n y) → Known toks to Q x → Known toks to P x
known_form le f known = record { only = λ l agree n y d. known.only l agree n y (f l (agree_less agree (omega arith)) n y d) }

-- what is made of a part
pub known_made : {A B : Type 0} {toks : List Tok} {to : ℕ} {P : List Tok → ℕ → A → Type 0} {x : A} (f : A → B) → Known toks to P x → Known toks to (λ l n. Then (P l n) (λ a y. y ≡ f a)) (f x)
known_made f known = record { only = λ l agree n y d. then_rest (known.only l agree n) d }

-- a part at a level more
pub known_enters : {A : Type 0} {toks : List Tok} {to : ℕ} {Q : List Tok → ℕ → A → Type 0} {x : A} → Known toks to Q x → Known toks to (λ l n. Then (Enters n) (λ inner. Q l inner)) x
known_enters known = record { only = λ l agree n y d. known.only l agree d.part y d.rest }

-- the same thing, made in another way
pub known_is : {A : Type 0} {toks : List Tok} {to : ℕ} {P : List Tok → ℕ → A → Type 0} {x v : A} → v ≡ x → Known toks to P x → Known toks to P v
known_is {A} {toks} {to} {P} e known = subst (λ (z : A). Known toks to P z) (sym e) known
