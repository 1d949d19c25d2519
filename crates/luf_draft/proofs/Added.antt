-- How what is added part by part is what the whole says.
use Rattle.std.proofs.Common.{◌≡◌, ℕ, suc, ◌+◌, ◌<◌, ◌≤◌, Bool, false, List, [], ◌∷◌, ◌++◌, Result, Ok, Err, length, get_or, drop, sym, ap, ◌∙◌, append_assoc, append-nil, add-one, drop-cons}
use Rattle.std.specs.Prelude.{OnOk}
use Rattle.std.proofs.lemmas.List.{drop_all}
use Rattle.luf_memory.specs.declared.Memory.{Memory}
use Rattle.luf_draft.specs.declared.mark.Mark.{Mark}
use Rattle.luf_draft.specs.inner.Marks.{before_part, listed}

abbrev pub Done : Type 0
Done = Result (Unit {0}) Memory

pub on_ok : {P Q : Type 0} (r : Done) → (P → Q) → OnOk r P → OnOk r Q
on_ok (Ok _) f p = f p
on_ok (Err _) f p = tt

-- the whole is that
pub whole : (old new part all : List Mark) (r : Done) → all ≡ part → OnOk r (new ≡ old ++ part) → OnOk r (new ≡ old ++ all)
whole old new part all r is = on_ok r (λ (h : new ≡ old ++ part). h ∙ ap (λ x. old ++ x) (sym is))

-- where a function answers Ok, a part was added
pub record Adds (r : Done) (old new part : List Mark) : Type 0 where
  pub added : OnOk r (new ≡ old ++ part)

-- the last part of a function
pub ends : (old new part : List Mark) (r : Done) → OnOk r (new ≡ old ++ part) → Adds r old new part
ends old new part r last = record { added = last }

-- a part, and what is behind it
pub then : (old mid new a b : List Mark) (r : Done) → mid ≡ old ++ a → Adds r mid new b → Adds r old new (a ++ b)
then old mid new a b r first last = record { added = on_ok r (λ (h : new ≡ mid ++ b). h ∙ ap (λ x. x ++ b) first ∙ append_assoc old a b) last.added }

-- the whole is these parts
pub all_of : (old new part all : List Mark) (r : Done) → all ≡ part → Adds r old new part → OnOk r (new ≡ old ++ all)
all_of old new part all r is parts = whole old new part all r is parts.added

pub then_on : (old mid new a b : List Mark) → mid ≡ old ++ a → new ≡ mid ++ b → new ≡ old ++ (a ++ b)
then_on old mid new a b first last = last ∙ ap (λ x. x ++ b) first ∙ append_assoc old a b

pub whole_on : (old new part all : List Mark) → all ≡ part → new ≡ old ++ part → new ≡ old ++ all
whole_on old new part all is h = h ∙ ap (λ x. old ++ x) (sym is)

-- what a call says of what it was lent
pub lent : {X : Type 0} (f : X → List Mark) (x y : X) (old new : List Mark) (r : Done) → y ≡ x → OnOk r (new ≡ old ++ f y) → OnOk r (new ≡ old ++ f x)
lent f x y old new r is = on_ok r (λ (h : new ≡ old ++ f y). h ∙ ap (λ v. old ++ f v) is)

pub lent_on : {X : Type 0} (f : X → List Mark) (x y : X) (old new : List Mark) → y ≡ x → new ≡ old ++ f y → new ≡ old ++ f x
lent_on f x y old new is h = h ∙ ap (λ v. old ++ f v) is

-- nothing is added
pub nothing : (old all : List Mark) → all ≡ [] → old ≡ old ++ all
nothing old all is = sym (ap (λ x. old ++ x) is ∙ append-nil old)

pub front : {X : Type 0} (xs : List X) (i : ℕ) (x : X) → i < length xs → x ≡ get_or xs i x → drop i xs ≡ x ∷ drop (i + 1) xs
front xs i x inside is = drop-cons xs i x inside ∙ ap (λ y. y ∷ drop (suc i) xs) (sym is) ∙ ap (λ n. x ∷ drop n xs) (sym (add-one i))

-- a loop that adds what each part says: one step
pub one_more : {X : Type 0} (F : List X → List Mark) (xs : List X) (i : ℕ) (x : X) (part old new all : List Mark) → F (x ∷ drop (i + 1) xs) ≡ part ++ F (drop (i + 1) xs) → i < length xs → x ≡ get_or xs i x → old ++ F (drop i xs) ≡ all → new ≡ old ++ part → new ++ F (drop (i + 1) xs) ≡ all
one_more F xs i x part old new all each inside is before added =
    ap (λ n. n ++ F (drop (i + 1) xs)) added
    ∙ append_assoc old part (F (drop (i + 1) xs))
    ∙ ap (λ ys. old ++ ys) (sym each)
    ∙ ap (λ ys. old ++ F ys) (sym (front xs i x inside is))
    ∙ before

-- a loop that adds parts with something between them: one step
pub one_listed : {X : Type 0} (between : List Mark) (says : X → List Mark) (xs : List X) (i : ℕ) (x : X) (first : Bool) (old mid new all : List Mark) → i < length xs → x ≡ get_or xs i x → old ++ listed between says first (drop i xs) ≡ all
    → mid ≡ old ++ before_part between first → new ≡ mid ++ says x → new ++ listed between says false (drop (i + 1) xs) ≡ all
one_listed between says xs i x first old mid new all inside is before parted added =
    ap (λ n. n ++ rest) (then_on old mid new (before_part between first) (says x) parted added)
    ∙ append_assoc old (before_part between first ++ says x) rest
    ∙ ap (λ ys. old ++ ys) (append_assoc (before_part between first) (says x) rest)
    ∙ ap (λ ys. old ++ listed between says first ys) (sym (front xs i x inside is))
    ∙ before
  where
    rest : List Mark
    rest = listed between says false (drop (i + 1) xs)

-- and its end
pub all_listed : {X : Type 0} (between : List Mark) (says : X → List Mark) (first : Bool) (xs : List X) (i : ℕ) (new all : List Mark) → length xs ≤ i → new ++ listed between says first (drop i xs) ≡ all → new ≡ all
all_listed between says first xs i new all behind is = sym (ap (λ ys. new ++ listed between says first ys) (drop_all i xs behind) ∙ append-nil new) ∙ is
