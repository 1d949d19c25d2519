-- How exact answers of parts make exact answers of a whole.
use Rattle.std.proofs.Common.{◌≡◌, ◌↔◌, ℕ, Bool, true, false, List, [], ◌∷◌, ◌++◌, append_assoc, append-nil, sym, ap, ◌∙◌, subst, arith, Ok, Err}
use Rattle.std.specs.Prelude.{Result, IfOk, IfErr, IsTrue}
use Rattle.std.specs.Result.{IsErrAnd}
use Rattle.luf_lex.specs.declared.token.Tok.{Tok}
use Rattle.luf_tree.specs.Grammar.{IsToken}
use Rattle.luf_descent.specs.Exact.{Alone, Then}
use Rattle.luf_descent.specs.declared.error.ParseErr.{ParseErr}

-- an error that is passed on is the same
pub passed : {R : Type 0} (P : ParseErr → Type 0) {e : ParseErr} (r : Result R ParseErr) → IsErrAnd r (λ x. x ≡ e) → P e → IfErr r P
passed P (Ok x) is h = cc
passed P (Err x) is h = subst P (sym is) h

pub alone_form : {A : Type 0} {P Q : A → Type 0} {x : A} → ((y : A) → P y → Q y) → Alone Q x → Alone P x
alone_form f h y p = h y (f y p)

pub alone_next : {A B : Type 0} {P : A → Type 0} {Q : A → B → Type 0} {x : A} {y : B} → Alone P x → Alone (Q x) y → Alone (Then P Q) y
alone_next {A} {B} {P} {Q} {x} {y} only h z p = h z (subst (λ (a : A). Q a z) (only p.part p.first) p.rest)

-- the rest behind a part that is known
pub then_rest : {A B : Type 0} {P : A → Type 0} {Q : A → B → Type 0} {x : A} {y : B} → Alone P x → Then P Q y → Q x y
then_rest {A} {B} {P} {Q} {x} {y} only h = subst (λ (a : A). Q a y) (only h.part h.first) h.rest

-- the same thing, made in another way
pub alone_is : {A : Type 0} {x v : A} → x ≡ v → Alone (λ y. y ≡ x) v
alone_is e y h = h ∙ e

-- what a call makes, where it finds memory
pub ok_made : {A E : Type 0} (P : A → Type 0) {v : A} (r : Result A E) → IfOk r (λ x. x ≡ v) → P v → IfOk r P
ok_made P (Ok x) e h = subst P (sym e) h
ok_made P (Err x) e h = cc

-- one token stands at a place, and ends at one
pub token_only : {toks : List Tok} {i j : ℕ} {t : Tok} → IsToken toks i t j → Alone (IsToken toks i t) j
token_only t k u = let a = t.next in let b = u.next in omega arith

-- a list that is read part by part: each whole has what was read, and then a rest
abbrev pub Ahead : {X T : Type 0} → ((List X × T) → Type 0) → List X → ((List X × T) → Type 0) → Type 0
Ahead {X} {T} P found Q = (y : List X × T) → P y → (r : List X × T) × Q r × (y ≡ (found ++ r.0, r.1))

pub ahead_start : {X T : Type 0} {P Q : (List X × T) → Type 0} {found : List X} → found ≡ [] → ((y : List X × T) → P y → Q y) → Ahead P found Q
ahead_start {X} {T} {P} {Q} {found} e f y p = (y, f y p, ap (λ xs. (xs ++ y.0, y.1)) (sym e))

pub ahead_none : {X T : Type 0} {P : (List X × T) → Type 0} {found : List X} → found ≡ [] → Ahead P found P
ahead_none e = ahead_start e (λ y p. p)

pub ahead_more : {X T : Type 0} {P Q R : (List X × T) → Type 0} (found : List X) {new : List X} {x : X} → Ahead P found Q → new ≡ found ++ x ∷ []
    → ((r : List X × T) → Q r → (s : List X × T) × R s × (r ≡ (x ∷ s.0, s.1))) → Ahead P new R
ahead_more {X} {T} {P} {Q} {R} found {new} {x} ahead e step y p =
    let a = ahead y p in
    let s = step a.0 a.1 in
    (s.0, s.1, a.2 ∙ ap (λ (z : List X × T). (found ++ z.0, z.1)) s.2 ∙ ap (λ xs. (xs, s.0.1)) (sym (append_assoc found (x ∷ []) s.0.0)) ∙ ap (λ xs. (xs ++ s.0.0, s.0.1)) (sym e))

pub ahead_last : {X T : Type 0} {P Q : (List X × T) → Type 0} (found : List X) {new : List X} {x : X} {end : T} → Ahead P found Q → new ≡ found ++ x ∷ []
    → ((r : List X × T) → Q r → r ≡ (x ∷ [], end)) → Alone P (new, end)
ahead_last {X} {T} {P} {Q} found {new} {x} {end} ahead e last y p =
    let a = ahead y p in
    a.2 ∙ ap (λ (z : List X × T). (found ++ z.0, z.1)) (last a.0 a.1) ∙ ap (λ xs. (xs, end)) (sym e)

pub ahead_end : {X T : Type 0} {P Q : (List X × T) → Type 0} {found all : List X} {end : T} → Ahead P found Q → all ≡ found
    → ((r : List X × T) → Q r → r ≡ ([], end)) → Alone P (all, end)
ahead_end {X} {T} {P} {Q} {found} {all} {end} ahead e last y p =
    let a = ahead y p in
    a.2 ∙ ap (λ (z : List X × T). (found ++ z.0, z.1)) (last a.0 a.1) ∙ ap (λ xs. (xs, end)) (append-nil found ∙ sym e)

-- behind a part of a list: the rest, where a separator stands there, else nothing
pub record ListRest {X T : Type 0} (Sep : ℕ → Type 0) (Rest : ℕ → (List X × T) → Type 0) (x : X) (end : T) (r : List X × T) : Type 0 where
  pub more : (next : ℕ) → Sep next → (s : List X × T) × Rest next s × (r ≡ (x ∷ s.0, s.1))
  pub last : ((next : ℕ) → Sep next → ⊥) → r ≡ (x ∷ [], end)

pub list_more : {A X T : Type 0} {Q : (List X × T) → Type 0} {Item : A → Type 0} {Sep : A → ℕ → Type 0} {Rest : ℕ → (List X × T) → Type 0} {value : A → X} {end : A → T} {a : A} {next : ℕ}
    → ((r : List X × T) → Q r → Then Item (λ a. ListRest (Sep a) Rest (value a) (end a)) r) → Alone Item a → Sep a next
    → (r : List X × T) → Q r → (s : List X × T) × Rest next s × (r ≡ (value a ∷ s.0, s.1))
list_more {A} {X} {T} {Q} {Item} {Sep} {Rest} {value} {end} {a} {next} form only sep r q =
    let f = form r q in
    let h : ListRest (Sep a) Rest (value a) (end a) r = subst (λ (b : A). ListRest (Sep b) Rest (value b) (end b) r) (only f.part f.first) f.rest in
    h.more next sep

pub list_last : {A X T : Type 0} {Q : (List X × T) → Type 0} {Item : A → Type 0} {Sep : A → ℕ → Type 0} {Rest : ℕ → (List X × T) → Type 0} {value : A → X} {end : A → T} {a : A}
    → ((r : List X × T) → Q r → Then Item (λ a. ListRest (Sep a) Rest (value a) (end a)) r) → Alone Item a → ((next : ℕ) → Sep a next → ⊥)
    → (r : List X × T) → Q r → r ≡ (value a ∷ [], end a)
list_last {A} {X} {T} {Q} {Item} {Sep} {Rest} {value} {end} {a} form only none r q =
    let f = form r q in
    let h : ListRest (Sep a) Rest (value a) (end a) r = subst (λ (b : A). ListRest (Sep b) Rest (value b) (end b) r) (only f.part f.first) f.rest in
    h.last none

-- a triple as a pair whose second part is a pair
pub alone_triple : {X S T : Type 0} (P : (X × S × T) → Type 0) {x : X} {s : S} {t : T} → Alone {A = X × (S × T)} (λ r. P (r.0, r.1.0, r.1.1)) (x, (s, t)) → Alone P (x, s, t)
alone_triple {X} {S} {T} P h y p = ap (λ (r : X × (S × T)). (r.0, r.1.0, r.1.1)) (h (y.0, (y.1, y.2)) p)

-- what a test answers
pub is_at : {A : Type 0} (r : Bool) → (IsTrue r ↔ A) → r ≡ true → A
is_at true h e = h.0 cc
is_at false h e = absurd cc

pub not_at : {A : Type 0} (r : Bool) → (IsTrue r ↔ A) → r ≡ false → A → ⊥
not_at true h e a = cc
not_at false h e a = let i = h.1 a in cc
