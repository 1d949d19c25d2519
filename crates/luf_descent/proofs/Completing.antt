-- Parts that are completed: lists that agree, tokens that stand behind, and levels.
use Rattle.std.proofs.Common.{◌≡◌, ℕ, zero, suc, ◌+◌, ◌<◌, ◌≤◌, ◌⊎◌, inl, inr, false, List, [], ◌∷◌, ◌++◌, refl, sym, ap, ◌∙◌, subst, arith, append-nil}
use Rattle.std.specs.Prelude.{Contains}
use Rattle.std.proofs.lemmas.Bool.{cases_lt}
use Rattle.std.proofs.lemmas.Option.{same_Some}
use Rattle.std.proofs.lemmas.List.Elements.{Contains-append_left, Contains-append_right, Contains-append_cases}
use Rattle.luf_lex.specs.declared.token.Tok.{Tok}
use Rattle.luf_lex.specs.declared.token.Tok.TheVariants as tok
use Rattle.luf_lex.specs.declared.token.Sign.TheVariants as sign
use Rattle.luf_tree.specs.Agree.{AgreeBefore, IsLocal}
use Rattle.luf_tree.specs.Entry.{Entry, entered, greatest_level}
use Rattle.luf_tree.specs.Grammar.{At, IsToken, NoParenFollows}
use Rattle.luf_tree.proofs.EntryLevels.{Reaches}
use Rattle.luf_descent.specs.Stops.{Kind, wrong, deep, behind, Stand, stand_none, stand_more, opens_token, opens, Within}

-- lists that agree

pub agree_less : {toks l : List Tok} {n m : ℕ} → AgreeBefore toks l n → m ≤ n → AgreeBefore toks l m
agree_less agree le = record { same = λ k low. agree.same k (omega arith) }

pub token_agrees : {toks l : List Tok} {n i j : ℕ} {t : Tok} → AgreeBefore toks l n → i < n → IsToken toks i t j → IsToken l i t j
token_agrees {i = i} agree low d = record { there = agree.same i low ∙ d.there; next = d.next }

-- tokens that stand somewhere

pub stand_forward : {l : List Tok} {i k : ℕ} {ts : List Tok} → Stand l i ts k → i ≤ k
stand_forward stand_none = omega arith
stand_forward (stand_more d rest) = let a = d.next in let b = stand_forward rest in omega arith

pub record Stands (l : List Tok) (i : ℕ) (xs ys : List Tok) (k : ℕ) : Type 0 where
  pub middle : ℕ
  pub first : Stand l i xs middle
  pub second : Stand l middle ys k

pub stand_split : {l : List Tok} {i k : ℕ} (xs ys : List Tok) → Stand l i (xs ++ ys) k → Stands l i xs ys k
stand_split [] ys h = record { middle = _; first = stand_none; second = h }
stand_split (x ∷ xs) ys (stand_more d rest) = let s = stand_split xs ys rest in record { middle = s.middle; first = stand_more d s.first; second = s.second }

-- no `(` stands before tokens that do not begin with one
pub stand_closes : {l : List Tok} {i k : ℕ} (ts : List Tok) → opens ts ≡ false → Stand l i ts k → NoParenFollows l k → NoParenFollows l i
stand_closes [] none stand_none closes = closes
stand_closes {l} {i} (t ∷ ts) none (stand_more d rest) closes = λ there. let a = same_Some t (tok.Sign sign.LeftParen) (sym d.there ∙ there) in let b = ap opens_token a in absurd cc

pub opens_append : (xs ys : List Tok) → opens xs ≡ false → opens ys ≡ false → opens (xs ++ ys) ≡ false
opens_append [] ys a b = b
opens_append (x ∷ xs) ys a b = a

-- A list in which what was read stands, and no `(` behind a part that was read but where one stood there.
abbrev ParenAt : List Tok → ℕ → Type 0
ParenAt l p = At l p (tok.Sign sign.LeftParen)

pub record Room (toks l : List Tok) (to : ℕ) : Type 0 where
  pub agree : AgreeBefore toks l to
  pub fits : (p : ℕ) → p ≤ to → NoParenFollows toks p → NoParenFollows l p

pub carried : {toks l : List Tok} {to i j : ℕ} {F : List Tok → Type 0} → Room toks l to → IsLocal toks i j F → j ≤ to → F l
carried {l = l} {j = j} room part le = part.at l (agree_less room.agree le) (room.fits j le)

pub carried_token : {toks l : List Tok} {to i j : ℕ} {t : Tok} → Room toks l to → IsToken toks i t j → j ≤ to → IsToken l i t j
carried_token room d le = let a = d.next in token_agrees room.agree (omega arith) d

pub behind_least : (kind : Kind) (t : ℕ) → t ≤ behind kind t
behind_least wrong t = omega arith
behind_least deep t = omega arith

-- the room for what stands before a part that is completed
pub room_for : {toks l : List Tok} {i b k : ℕ} (more : List Tok) → i ≤ b → (b ≡ i → opens more ≡ false) → AgreeBefore toks l b → Stand l b more k → NoParenFollows l k → Room toks l i
room_for {toks} {l} {i} {b} {k} more le starts agree stand closes = record { agree = agree_less agree le; fits = λ p low none. fit p (cases_lt p b) low none }
  where
    fit : (p : ℕ) → (p < b) ⊎ (b ≤ p) → p ≤ i → NoParenFollows toks p → NoParenFollows l p
    fit p (inl low) below none there = none (sym (agree.same p low) ∙ there)
    fit p (inr high) below none there = let here : b ≡ p = omega arith in stand_closes more (starts (omega arith)) stand closes (subst (λ (q : ℕ). ParenAt l q) (sym here) there)

-- levels

pub none_in : {e : Entry} → Contains [] e → ⊥
none_in (k, low, is) = omega arith

pub first_in : (x : Entry) (es : List Entry) → Contains (x ∷ es) x
first_in x es = (zero, omega arith, refl)

pub later_in : {e : Entry} (x : Entry) (es : List Entry) → Contains es e → Contains (x ∷ es) e
later_in x es (k, low, is) = (suc k, omega arith, is)

pub cons_in : {e : Entry} (x : Entry) (es : List Entry) → Contains (x ∷ es) e → (x ≡ e) ⊎ Contains es e
cons_in x es (zero, low, is) = inl is
cons_in x es (suc k, low, is) = inr (k, omega arith, is)

greatest_in : (es : List Entry) (e : Entry) → Contains es e → e.level ≤ greatest_level es
greatest_in [] e h = absurd (none_in h)
greatest_in (x ∷ es) e (zero, low, is) = let a = ap (λ (e : Entry). e.level) is in omega arith
greatest_in (x ∷ es) e (suc k, low, is) = let a = greatest_in es e (k, omega arith, is) in omega arith

-- a part that enters no more levels than are left
pub low_levels : {level deeper left : ℕ} {es : List Entry} → Reaches level es deeper → deeper ≤ left → (e : Entry) → Contains es e → e.level ≤ level + left
low_levels {es = es} reach le e h = let a = greatest_in es e h in let b = reach.is in omega arith

-- a part before it
pub within_first : {kind : Kind} {t left level : ℕ} (xs : List Entry) {ys : List Entry} → ((e : Entry) → Contains xs e → e.level ≤ level + left) → Within kind t left level ys → Within kind t left level (xs ++ ys)
within_first {kind} {t} {left} {level} xs {ys} low h = record { before = λ e c less. either e less (Contains-append_cases xs ys e c); enters = λ is. Contains-append_right xs ys _ (h.enters is) }
  where
    either : (e : Entry) → e.token < t → Contains xs e ⊎ Contains ys e → e.level ≤ level + left
    either e less (inl a) = low e a
    either e less (inr a) = h.before e a less

-- what completes it behind it
pub within_last : {kind : Kind} {t left level : ℕ} {xs : List Entry} (ys : List Entry) → ((e : Entry) → Contains ys e → t ≤ e.token) → Within kind t left level xs → Within kind t left level (xs ++ ys)
within_last {kind} {t} {left} {level} {xs} ys later h = record { before = λ e c less. either e less (Contains-append_cases xs ys e c); enters = λ is. Contains-append_left xs ys _ (h.enters is) }
  where
    either : (e : Entry) → e.token < t → Contains xs e ⊎ Contains ys e → e.level ≤ level + left
    either e less (inl a) = h.before e a less
    either e less (inr a) = let b = later e a in absurd (omega arith)

-- a level round it
pub within_entered : {kind : Kind} {t left inner level : ℕ} {es : List Entry} (p : ℕ) → left ≡ inner + 1 → Within kind t inner (level + 1) es → Within kind t left level (entered p level es)
within_entered {kind} {t} {left} {inner} {level} {es} p enter h = record {
  before = λ e c less. either e less (cons_in _ es c);
  enters = λ is. later_in _ es (subst (λ (n : ℕ). Contains es (record { token = t; level = n })) (omega arith) (h.enters is));
}
  where
    either : (e : Entry) → e.token < t → (record { token = p; level = level + 1 } ≡ e) ⊎ Contains es e → e.level ≤ level + left
    either e less (inl a) = let b = ap (λ (e : Entry). e.level) a in omega arith
    either e less (inr a) = let b = h.before e a less in omega arith

-- a wrong token at which nothing was entered
pub within_none : {t left level : ℕ} → Within wrong t left level []
within_none = record { before = λ e c less. absurd (none_in c); enters = λ is. absurd (apart is) }
  where
    apart : wrong ≡ deep → ⊥
    apart e = cc

-- all of it stands at the token or behind it
pub within_later : {t left level : ℕ} (es : List Entry) → ((e : Entry) → Contains es e → t ≤ e.token) → Within wrong t left level es
within_later es later = within_last es later within_none

-- a token that enters a level too many, and what completes it
pub within_deep : {t left level : ℕ} (es : List Entry) → left ≡ 0 → ((e : Entry) → Contains es e → t ≤ e.token) → Within deep t left level (entered t level es)
within_deep {t} {left} {level} es none later = record {
  before = λ e c less. either e less (cons_in _ es c);
  enters = λ is. subst (λ (n : ℕ). Contains (entered t level es) (record { token = t; level = n })) (omega arith) (first_in _ es);
}
  where
    either : (e : Entry) → e.token < t → (record { token = t; level = level + 1 } ≡ e) ⊎ Contains es e → e.level ≤ level + left
    either e less (inl a) = let b = ap (λ (e : Entry). e.token) a in absurd (omega arith)
    either e less (inr a) = let b = later e a in absurd (omega arith)

pub within_as : {kind : Kind} {t left level : ℕ} {es fs : List Entry} → es ≡ fs → Within kind t left level fs → Within kind t left level es
within_as {kind} {t} {left} {level} e h = subst (λ (es : List Entry). Within kind t left level es) (sym e) h

-- the same levels, of a part and of its syntax
pub within_spelled : {X : Type 0} {kind : Kind} {t left level : ℕ} {x y : X} (f : X → List Entry) → x ≡ y → Within kind t left level (f y) → Within kind t left level (f x)
within_spelled f e h = within_as (ap f e) h

-- where no level is entered
pub within_any : {kind : Kind} {t left other level place : ℕ} → Within kind t left level [] → Within kind t other place []
within_any h = record { before = λ e c less. absurd (none_in c); enters = λ is. absurd (none_in (h.enters is)) }

pub within_low : {kind : Kind} {t left level : ℕ} (es : List Entry) → ((e : Entry) → Contains es e → e.level ≤ level + left) → Within kind t left level [] → Within kind t left level es
within_low es low h = within_as (sym (append-nil es)) (within_first es low h)
