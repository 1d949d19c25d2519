-- How what is added part by part is what the whole says.
use Rattle.std.proofs.Common.{◌≡◌, ℕ, ◌+◌, ◌<◌, ◌≤◌, suc, Bool, true, false, ◌||◌, List, [], ◌∷◌, ◌++◌, Result, Ok, Err, length, get_or, drop, refl, sym, ap, ◌∙◌, append_assoc, add-one, drop-cons}
use Rattle.std.specs.Prelude.{OnOk}
use Rattle.std.specs.List.{filter}
use Rattle.std.proofs.lemmas.List.{append-nil, drop_all}
use Rattle.std.proofs.lemmas.List.Elements.{filter-append, filter_agree}
use Rattle.luf_memory.specs.declared.Memory.{Memory}
use Rattle.luf_scope.specs.Outline.{is_outline, outlined}
use Rattle.luf_scope.specs.declared.occurrence.Occurrence.{Occurrence}
use Rattle.luf_scope.specs.inner.Kept.{is_kept, kept, Adds}

abbrev pub Done : Type 0
Done = Result (Unit {0}) Memory

pub on_ok : {P Q : Type 0} (r : Done) → (P → Q) → OnOk r P → OnOk r Q
on_ok (Ok _) f p = f p
on_ok (Err _) f p = tt

-- what is kept of two parts
both_kept : (k : Bool) (old a b : List Occurrence) → (old ++ kept k a) ++ kept k b ≡ old ++ kept k (a ++ b)
both_kept k old a b = append_assoc old (kept k a) (kept k b) ∙ ap (λ xs. old ++ xs) (sym (filter-append (is_kept k) a b))

-- a part in between
pub also : {k : Bool} (old mid new a b : List Occurrence) → Adds k old mid a → Adds k mid new b → Adds k old new (a ++ b)
also {k} old mid new a b first last = record { is = last.is ∙ ap (λ xs. xs ++ kept k b) first.is ∙ both_kept k old a b }

-- a last part behind what was added
pub then : {k : Bool} (old mid new a b : List Occurrence) (r : Done) → Adds k old mid a → OnOk r (Adds k mid new b) → OnOk r (Adds k old new (a ++ b))
then {k} old mid new a b r first last = on_ok r (λ (h : Adds k mid new b). also old mid new a b first h) last

-- the whole is that
pub whole_on : {k : Bool} (old new part all : List Occurrence) → all ≡ part → Adds k old new part → Adds k old new all
whole_on {k} old new part all is h = record { is = h.is ∙ ap (λ xs. old ++ kept k xs) (sym is) }

pub whole : (k : Bool) (old new part all : List Occurrence) (r : Done) → all ≡ part → OnOk r (Adds k old new part) → OnOk r (Adds k old new all)
whole k old new part all r is = on_ok r (λ (h : Adds k old new part). whole_on old new part all is h)

-- what a call says of what it was lent
pub lent_on : {k : Bool} {X : Type 0} (f : X → List Occurrence) (x y : X) (old new : List Occurrence) → y ≡ x → Adds k old new (f y) → Adds k old new (f x)
lent_on f x y old new is h = whole_on old new (f y) (f x) (ap f (sym is)) h

pub lent : (k : Bool) {X : Type 0} (f : X → List Occurrence) (x y : X) (old new : List Occurrence) (r : Done) → y ≡ x → OnOk r (Adds k old new (f y)) → OnOk r (Adds k old new (f x))
lent k f x y old new r is = on_ok r (λ (h : Adds k old new (f y)). lent_on f x y old new is h)

-- nothing is added
pub nothing : {k : Bool} (old all : List Occurrence) → all ≡ [] → Adds k old old all
nothing {k} old all is = record { is = sym (ap (λ xs. old ++ kept k xs) is ∙ append-nil old) }

front : {X : Type 0} (xs : List X) (i : ℕ) (x : X) → i < length xs → x ≡ get_or xs i x → drop i xs ≡ x ∷ drop (i + 1) xs
front xs i x inside is = drop-cons xs i x inside ∙ ap (λ y. y ∷ drop (suc i) xs) (sym is) ∙ ap (λ n. x ∷ drop n xs) (sym (add-one i))

-- a loop that adds what each item says: one step
pub one_more : {k : Bool} {X : Type 0} (F : List X → List Occurrence) (xs : List X) (i : ℕ) (x : X) (part old new all : List Occurrence) → F (x ∷ drop (i + 1) xs) ≡ part ++ F (drop (i + 1) xs) → i < length xs → x ≡ get_or xs i x → old ++ kept k (F (drop i xs)) ≡ all → Adds k old new part → new ++ kept k (F (drop (i + 1) xs)) ≡ all
one_more {k} F xs i x part old new all each inside is before added =
    ap (λ n. n ++ kept k (F (drop (i + 1) xs))) added.is
    ∙ both_kept k old part (F (drop (i + 1) xs))
    ∙ ap (λ ys. old ++ kept k ys) (sym each)
    ∙ ap (λ ys. old ++ kept k (F ys)) (sym (front xs i x inside is))
    ∙ before

-- and its end
pub no_more : {k : Bool} {X : Type 0} (F : List X → List Occurrence) → F [] ≡ [] → (xs : List X) (i : ℕ) (old new all : List Occurrence) → length xs ≤ i → new ++ kept k (F (drop i xs)) ≡ old ++ kept k all → Adds k old new all
no_more {k} F none xs i old new all behind is = record { is = sym (ap (λ ys. new ++ kept k (F ys)) (drop_all i xs behind) ∙ ap (λ ys. new ++ kept k ys) none ∙ append-nil new) ∙ is }

-- what is read of a whole chunk
always : (b : Bool) → (b || true) ≡ true
always true = refl
always false = refl

alone : (b : Bool) → (b || false) ≡ b
alone true = refl
alone false = refl

all_pass : (os : List Occurrence) → filter (λ o. true) os ≡ os
all_pass [] = refl
all_pass (o ∷ os) = ap (λ xs. o ∷ xs) (all_pass os)

pub all_read : (old new part : List Occurrence) → old ≡ [] → Adds true old new part → new ≡ part
all_read old new part is h = h.is ∙ ap (λ xs. xs ++ kept true part) is ∙ filter_agree (is_kept true) (λ o. true) (λ o. always (is_outline o)) part ∙ all_pass part

pub outline_read : (old new part : List Occurrence) → old ≡ [] → Adds false old new part → new ≡ outlined part
outline_read old new part is h = h.is ∙ ap (λ xs. xs ++ kept false part) is ∙ filter_agree (is_kept false) is_outline (λ o. alone (is_outline o)) part
