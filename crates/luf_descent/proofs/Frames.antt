-- A part that stops within a whole: the tokens that complete the part, and then those that complete the whole.
use Rattle.std.proofs.Common.{◌≡◌, ℕ, ◌+◌, ◌<◌, ◌≤◌, Bool, true, false, List, [], ◌∷◌, ◌++◌, length, refl, sym, subst, arith}
use Rattle.luf_lex.specs.declared.token.Tok.{Tok}
use Rattle.luf_tree.specs.Agree.{AgreeBefore}
use Rattle.luf_tree.specs.Entry.{Entry}
use Rattle.luf_tree.specs.Grammar.{IsToken, NoParenFollows}
use Rattle.luf_descent.specs.Stops.{Kind, wrong, deep, Says, behind, Stand, stand_none, stand_more, opens, Made, Completes, Stops}
use Rattle.luf_descent.specs.declared.error.ParseErr.{ParseErr}
use Rattle.luf_descent.specs.declared.error.ParseErr.TheVariants as error
use Rattle.luf_descent.proofs.Completing.{agree_less, stand_forward, stand_split, stand_closes, opens_append, Room, room_for, behind_least}

-- of something it is said
pub record Seen {B : Type 0} (P : ℕ → B → Type 0) : Type 0 where
  pub left : ℕ
  pub part : B
  pub is : P left part

-- what is known where the tokens of a part are complete, and the rest of the whole stands behind it
pub record Behind {A : Type 0} (kind : Kind) (toks l : List Tok) (j t inner m k : ℕ) (rest : List Tok) (D : A → Type 0) (E : ℕ → A → List Entry) : Type 0 where
  pub room : Room toks l j
  pub late : t ≤ m
  pub stand : Stand l m rest k
  pub closes : NoParenFollows l k
  pub made : Made kind t inner D E

-- a part that stops behind others
pub stops_after : {A B C F : Type 0} {toks : List Tok} {i j left inner : ℕ} {paren : Bool} {D : List Tok → ℕ → A → Type 0} {E : ℕ → A → List Entry} {P : List Tok → ℕ → B → Type 0} {e : ParseErr}
    {Whole : List Tok → ℕ → C → Type 0} {Enters : ℕ → C → List Entry} {Wanted : List Tok → ℕ → F → Type 0} (rest : List Tok) → opens rest ≡ false → i ≤ j → Stops toks j inner false D E P e
    → ((kind : Kind) (t : ℕ) (l : List Tok) (m k : ℕ) → j ≤ behind kind t → Behind kind toks l j t inner m k rest (D l m) E → Made kind t left (Whole l k) Enters)
    → ((t : ℕ) (l : List Tok) → j ≤ t → AgreeBefore toks l (t + 1) → (n : ℕ) (y : F) → Wanted l n y → Seen (P l))
    → Stops toks i left paren Whole Enters Wanted e
stops_after {A} {B} {C} {F} {toks} {i} {j} {left} {inner} {paren} {D} {E} {P} {e} {Whole} {Enters} {Wanted} rest closed low h build form = record {
  completes = λ kind t says. grow kind t (h.completes kind t says);
  nothing = λ t is l agree n y p. let f = form t l (h.completes wrong t is).forward agree n y p in h.nothing t is l agree f.left f.part f.is;
}
  where
    grow : (kind : Kind) (t : ℕ) → Completes kind toks j inner t false D E → Completes kind toks i left t paren Whole Enters
    grow kind t c =
        let fw = c.forward in
        record {
          forward = omega arith;
          within = c.within;
          more = c.more ++ rest;
          starts = λ _ same. opens_append c.more rest (c.starts refl (omega arith)) closed;
          made = λ l k agree stand closes.
              let s = stand_split c.more rest stand in
              let shut = stand_closes rest closed s.second closes in
              let a = stand_forward s.first in
              let b = behind_least kind t in
              build kind t l s.middle k c.forward (record { room = room_for c.more c.forward (c.starts refl) agree s.first shut; late = omega arith; stand = s.second; closes = closes; made = c.made l s.middle agree s.first shut });
        }

-- a part that stops and may begin with a `(`, behind one token
pub stops_behind : {A B C F : Type 0} {toks : List Tok} {i j left inner : ℕ} {paren round : Bool} {D : List Tok → ℕ → A → Type 0} {E : ℕ → A → List Entry} {P : List Tok → ℕ → B → Type 0} {e : ParseErr}
    {Whole : List Tok → ℕ → C → Type 0} {Enters : ℕ → C → List Entry} {Wanted : List Tok → ℕ → F → Type 0} → i < j → Stops toks j inner round D E P e
    → ((kind : Kind) (t : ℕ) (l : List Tok) (k : ℕ) → j ≤ behind kind t → AgreeBefore toks l j → Made kind t inner (D l k) E → Made kind t left (Whole l k) Enters)
    → ((t : ℕ) (l : List Tok) → j ≤ t → AgreeBefore toks l (t + 1) → (n : ℕ) (y : F) → Wanted l n y → Seen (P l))
    → Stops toks i left paren Whole Enters Wanted e
stops_behind {A} {B} {C} {F} {toks} {i} {j} {left} {inner} {paren} {round} {D} {E} {P} {e} {Whole} {Enters} {Wanted} low h build form = record {
  completes = λ kind t says. grow kind t (h.completes kind t says);
  nothing = λ t is l agree n y p. let f = form t l (h.completes wrong t is).forward agree n y p in h.nothing t is l agree f.left f.part f.is;
}
  where
    grow : (kind : Kind) (t : ℕ) → Completes kind toks j inner t round D E → Completes kind toks i left t paren Whole Enters
    grow kind t c =
        let fw = c.forward in
        let b = behind_least kind t in
        record {
          forward = omega arith;
          within = c.within;
          more = c.more;
          starts = λ _ same. absurd (omega arith);
          made = λ l k agree stand closes. build kind t l k c.forward (agree_less agree (omega arith)) (c.made l k agree stand closes);
        }

-- a part that stops and may begin with a `(`, in a whole that may begin with one
pub stops_beside : {A B C F : Type 0} {toks : List Tok} {i j left inner : ℕ} {round : Bool} {D : List Tok → ℕ → A → Type 0} {E : ℕ → A → List Entry} {P : List Tok → ℕ → B → Type 0} {e : ParseErr}
    {Whole : List Tok → ℕ → C → Type 0} {Enters : ℕ → C → List Entry} {Wanted : List Tok → ℕ → F → Type 0} → i ≤ j → Stops toks j inner round D E P e
    → ((kind : Kind) (t : ℕ) (l : List Tok) (k : ℕ) → j ≤ behind kind t → AgreeBefore toks l j → Made kind t inner (D l k) E → Made kind t left (Whole l k) Enters)
    → ((t : ℕ) (l : List Tok) → j ≤ t → AgreeBefore toks l (t + 1) → (n : ℕ) (y : F) → Wanted l n y → Seen (P l))
    → Stops toks i left true Whole Enters Wanted e
stops_beside {A} {B} {C} {F} {toks} {i} {j} {left} {inner} {round} {D} {E} {P} {e} {Whole} {Enters} {Wanted} low h build form = record {
  completes = λ kind t says. grow kind t (h.completes kind t says);
  nothing = λ t is l agree n y p. let f = form t l (h.completes wrong t is).forward agree n y p in h.nothing t is l agree f.left f.part f.is;
}
  where
    round_not : true ≡ false → ⊥
    round_not e = cc

    grow : (kind : Kind) (t : ℕ) → Completes kind toks j inner t round D E → Completes kind toks i left t true Whole Enters
    grow kind t c =
        let fw = c.forward in
        record {
          forward = omega arith;
          within = c.within;
          more = c.more;
          starts = λ is same. absurd (round_not is);
          made = λ l k agree stand closes. build kind t l k c.forward (agree_less agree c.forward) (c.made l k agree stand closes);
        }

-- the same part, of which something else is said
pub stops_form : {A B F : Type 0} {toks : List Tok} {i left : ℕ} {paren : Bool} {D : List Tok → ℕ → A → Type 0} {E : ℕ → A → List Entry} {P : List Tok → ℕ → B → Type 0} {e : ParseErr} {Wanted : List Tok → ℕ → F → Type 0}
    → Stops toks i left paren D E P e → ((t : ℕ) (l : List Tok) → i ≤ t → AgreeBefore toks l (t + 1) → (n : ℕ) (y : F) → Wanted l n y → Seen (P l)) → Stops toks i left paren D E Wanted e
stops_form h form = record {
  completes = h.completes;
  nothing = λ t is l agree n y p. let f = form t l (h.completes wrong t is).forward agree n y p in h.nothing t is l agree f.left f.part f.is;
}

-- an error that names a wrong token, and one that names a token that enters a level too many

wrong_place : {a b : ℕ} → error.Syntax a ≡ error.Syntax b → a ≡ b
wrong_place e = cc

deep_place : {a b : ℕ} → error.TooDeep a ≡ error.TooDeep b → a ≡ b
deep_place e = cc

wrong_not_deep : {a b : ℕ} → error.Syntax a ≡ error.TooDeep b → ⊥
wrong_not_deep e = cc

-- what is wanted at a place is missing there
pub stops_wrong : {A B : Type 0} {toks : List Tok} {left at : ℕ} {i : ℕ} {paren : Bool} {D : List Tok → ℕ → A → Type 0} {E : ℕ → A → List Entry} {P : List Tok → ℕ → B → Type 0} (more : List Tok)
    → i ≤ at → at ≤ length toks → (paren ≡ false → at ≡ i → opens more ≡ false)
    → ((l : List Tok) (k : ℕ) → AgreeBefore toks l at → Stand l at more k → NoParenFollows l k → Made wrong at left (D l k) E)
    → ((l : List Tok) → AgreeBefore toks l (at + 1) → (n : ℕ) (y : B) → P l n y → ⊥)
    → Stops toks i left paren D E P (error.Syntax at)
stops_wrong {A} {B} {toks} {left} {at} {i} {paren} {D} {E} {P} more forward within starts build none = record {
  completes = λ kind t says. found kind t says;
  nothing = λ t is l agree n y p. let e = wrong_place is in none l (agree_less agree (omega arith)) n y p;
}
  where
    here : Completes wrong toks i left at paren D E
    here = record { forward = forward; within = within; more = more; starts = starts; made = λ l k agree stand closes. build l k agree stand closes }

    found : (kind : Kind) (t : ℕ) → Says kind t (error.Syntax at) → Completes kind toks i left t paren D E
    found wrong t says = subst (λ (p : ℕ). Completes wrong toks i left p paren D E) (wrong_place says) here
    found deep t says = absurd (wrong_not_deep says)

pub stops_deep : {A B : Type 0} {toks : List Tok} {left at i : ℕ} {paren : Bool} {D : List Tok → ℕ → A → Type 0} {E : ℕ → A → List Entry} {P : List Tok → ℕ → B → Type 0} (more : List Tok)
    → i ≤ at + 1 → at < length toks → (paren ≡ false → at + 1 ≡ i → opens more ≡ false)
    → ((l : List Tok) (k : ℕ) → AgreeBefore toks l (at + 1) → Stand l (at + 1) more k → NoParenFollows l k → Made deep at left (D l k) E)
    → Stops toks i left paren D E P (error.TooDeep at)
stops_deep {A} {B} {toks} {left} {at} {i} {paren} {D} {E} {P} more forward within starts build = record {
  completes = λ kind t says. found kind t says;
  nothing = λ t is l agree n y p. absurd (wrong_not_deep (sym is));
}
  where
    here : Completes deep toks i left at paren D E
    here = record { forward = forward; within = omega arith; more = more; starts = starts; made = λ l k agree stand closes. build l k agree stand closes }

    found : (kind : Kind) (t : ℕ) → Says kind t (error.TooDeep at) → Completes kind toks i left t paren D E
    found wrong t says = absurd (wrong_not_deep (sym says))
    found deep t says = subst (λ (p : ℕ). Completes deep toks i left p paren D E) (deep_place says) here

-- tokens that stand one behind the other

pub one : {l : List Tok} {m k : ℕ} {t : Tok} → Stand l m (t ∷ []) k → IsToken l m t k
one (stand_more d stand_none) = d

pub record Two (l : List Tok) (m : ℕ) (t u : Tok) (k : ℕ) : Type 0 where
  pub middle : ℕ
  pub first : IsToken l m t middle
  pub second : IsToken l middle u k

pub two : {l : List Tok} {m k : ℕ} {t u : Tok} → Stand l m (t ∷ u ∷ []) k → Two l m t u k
two (stand_more d (stand_more e stand_none)) = record { middle = _; first = d; second = e }

pub record Three (l : List Tok) (m : ℕ) (t u v : Tok) (k : ℕ) : Type 0 where
  pub middle : ℕ
  pub first : IsToken l m t middle
  pub rest : Two l middle u v k

pub three : {l : List Tok} {m k : ℕ} {t u v : Tok} → Stand l m (t ∷ u ∷ v ∷ []) k → Three l m t u v k
three (stand_more d rest) = record { middle = _; first = d; rest = two rest }

-- a part that stops behind others, and ends the whole
pub record Last {A : Type 0} (kind : Kind) (toks l : List Tok) (j t inner k : ℕ) (D : A → Type 0) (E : ℕ → A → List Entry) : Type 0 where
  pub room : Room toks l j
  pub closes : NoParenFollows l k
  pub made : Made kind t inner D E

pub stops_last : {A B C F : Type 0} {toks : List Tok} {i j left inner : ℕ} {paren : Bool} {D : List Tok → ℕ → A → Type 0} {E : ℕ → A → List Entry} {P : List Tok → ℕ → B → Type 0} {e : ParseErr}
    {Whole : List Tok → ℕ → C → Type 0} {Enters : ℕ → C → List Entry} {Wanted : List Tok → ℕ → F → Type 0} → i ≤ j → Stops toks j inner false D E P e
    → ((kind : Kind) (t : ℕ) (l : List Tok) (k : ℕ) → j ≤ behind kind t → Last kind toks l j t inner k (D l k) E → Made kind t left (Whole l k) Enters)
    → ((t : ℕ) (l : List Tok) → j ≤ t → AgreeBefore toks l (t + 1) → (n : ℕ) (y : F) → Wanted l n y → Seen (P l))
    → Stops toks i left paren Whole Enters Wanted e
stops_last {A} {B} {C} {F} {toks} {i} {j} {left} {inner} {paren} {D} {E} {P} {e} {Whole} {Enters} {Wanted} low h build form = record {
  completes = λ kind t says. grow kind t (h.completes kind t says);
  nothing = λ t is l agree n y p. let f = form t l (h.completes wrong t is).forward agree n y p in h.nothing t is l agree f.left f.part f.is;
}
  where
    grow : (kind : Kind) (t : ℕ) → Completes kind toks j inner t false D E → Completes kind toks i left t paren Whole Enters
    grow kind t c =
        let fw = c.forward in
        record {
          forward = omega arith;
          within = c.within;
          more = c.more;
          starts = λ _ same. c.starts refl (omega arith);
          made = λ l k agree stand closes. build kind t l k c.forward (record { room = room_for c.more c.forward (c.starts refl) agree stand closes; closes = closes; made = c.made l k agree stand closes });
        }

pub record Four (l : List Tok) (m : ℕ) (t u v w : Tok) (k : ℕ) : Type 0 where
  pub middle : ℕ
  pub first : IsToken l m t middle
  pub rest : Three l middle u v w k

pub four : {l : List Tok} {m k : ℕ} {t u v w : Tok} → Stand l m (t ∷ u ∷ v ∷ w ∷ []) k → Four l m t u v w k
four (stand_more d rest) = record { middle = _; first = d; rest = three rest }

-- the same tokens, which complete something else too
pub stops_map : {A B C F : Type 0} {toks : List Tok} {i left inner : ℕ} {paren : Bool} {D : List Tok → ℕ → A → Type 0} {E : ℕ → A → List Entry} {P : List Tok → ℕ → B → Type 0} {e : ParseErr}
    {Whole : List Tok → ℕ → C → Type 0} {Enters : ℕ → C → List Entry} {Wanted : List Tok → ℕ → F → Type 0} → Stops toks i inner paren D E P e
    → ((kind : Kind) (t : ℕ) (l : List Tok) (k : ℕ) → i ≤ behind kind t → NoParenFollows l k → Made kind t inner (D l k) E → Made kind t left (Whole l k) Enters)
    → ((t : ℕ) (l : List Tok) → i ≤ t → AgreeBefore toks l (t + 1) → (n : ℕ) (y : F) → Wanted l n y → Seen (P l))
    → Stops toks i left paren Whole Enters Wanted e
stops_map {A} {B} {C} {F} {toks} {i} {left} {inner} {paren} {D} {E} {P} {e} {Whole} {Enters} {Wanted} h build form = record {
  completes = λ kind t says. grow kind t (h.completes kind t says);
  nothing = λ t is l agree n y p. let f = form t l (h.completes wrong t is).forward agree n y p in h.nothing t is l agree f.left f.part f.is;
}
  where
    grow : (kind : Kind) (t : ℕ) → Completes kind toks i inner t paren D E → Completes kind toks i left t paren Whole Enters
    grow kind t c = record {
      forward = c.forward;
      within = c.within;
      more = c.more;
      starts = c.starts;
      made = λ l k agree stand closes. build kind t l k c.forward closes (c.made l k agree stand closes);
    }

-- no tokens end where they begin
pub no_stand : {l : List Tok} {m k : ℕ} → Stand l m [] k → m ≡ k
no_stand stand_none = refl

-- what need not begin with a `(`
pub stops_open : {A B : Type 0} {toks : List Tok} {i left : ℕ} {paren : Bool} {D : List Tok → ℕ → A → Type 0} {E : ℕ → A → List Entry} {P : List Tok → ℕ → B → Type 0} {e : ParseErr} → Stops toks i left false D E P e → Stops toks i left paren D E P e
stops_open {A} {B} {toks} {i} {left} {paren} {D} {E} {P} {e} h = record { completes = λ kind t says. grow kind t (h.completes kind t says); nothing = h.nothing }
  where
    grow : (kind : Kind) (t : ℕ) → Completes kind toks i left t false D E → Completes kind toks i left t paren D E
    grow kind t c = record { forward = c.forward; within = c.within; more = c.more; starts = λ _ same. c.starts refl same; made = c.made }
