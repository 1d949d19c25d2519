-- Why a part is refused at a token: what was read before it begins a part, and what was read with it begins none, or it
-- enters a level too many. What completes a part need not keep to the levels that are left.
use Rattle.std.specs.Prelude.{◌≡◌, ℕ, ◌+◌, ◌<◌, ◌≤◌, ◌⊎◌, Bool, true, false, List, [], ◌∷◌, length, Contains}
use Rattle.luf_lex.specs.declared.token.Tok.{Tok}
use Rattle.luf_lex.specs.declared.token.Tok.TheVariants as tok
use Rattle.luf_lex.specs.declared.token.Sign.{Sign}
use Rattle.luf_lex.specs.declared.token.Sign.TheVariants as sign
use Rattle.luf_tree.specs.Agree.{AgreeBefore}
use Rattle.luf_tree.specs.Entry.{Entry}
use Rattle.luf_tree.specs.Grammar.{At, IsToken, NoParenFollows}
use Rattle.luf_descent.specs.Exact.{Alone}
use Rattle.luf_descent.specs.declared.error.ParseErr.{ParseErr}
use Rattle.luf_descent.specs.declared.error.ParseErr.TheVariants as error

-- in each list that agrees up to and with the token at a place, of nothing but this it is said, at any number of levels
pub record Known {A : Type 0} (toks : List Tok) (to : ℕ) (P : List Tok → ℕ → A → Type 0) (x : A) : Type 0 where
  pub only : (other : List Tok) → AgreeBefore toks other (to + 1) → (left : ℕ) → Alone (P other left) x

-- a part stops at a token that it does not go on with, or at one that enters a level too many
pub data Kind : Type 0 where
  wrong : Kind
  deep : Kind

abbrev pub Says : Kind → ℕ → ParseErr → Type 0
Says wrong token e = e ≡ error.Syntax token
Says deep token e = e ≡ error.TooDeep token

-- the place behind what is kept
abbrev pub behind : Kind → ℕ → ℕ
behind wrong token = token
behind deep token = token + 1

-- these tokens stand from one place to another
pub data Stand (toks : List Tok) : ℕ → List Tok → ℕ → Type 0 where
  stand_none : {i : ℕ} → Stand toks i [] i
  stand_more : {i j k : ℕ} {t : Tok} {ts : List Tok} → IsToken toks i t j → Stand toks j ts k → Stand toks i (t ∷ ts) k

abbrev pub is_left_paren : Sign → Bool
is_left_paren sign.LeftParen = true
is_left_paren _ = false

abbrev pub opens_token : Tok → Bool
opens_token (tok.Sign s) = is_left_paren s
opens_token _ = false

-- the first of these tokens is a `(`
abbrev pub opens : List Tok → Bool
opens [] = false
opens (t ∷ ts) = opens_token t

-- the tokens before this one enter no more levels than are left, and where it is one too deep, it enters the next
pub record Within (kind : Kind) (token left level : ℕ) (es : List Entry) : Type 0 where
  pub before : (e : Entry) → Contains es e → e.token < token → e.level ≤ level + left
  pub enters : kind ≡ deep → Contains es (record { token = token; level = level + left + 1 })

-- a part that was completed
pub record Made {A : Type 0} (kind : Kind) (token left : ℕ) (D : A → Type 0) (E : ℕ → A → List Entry) : Type 0 where
  pub part : A
  pub derived : D part
  pub levels : (level : ℕ) → Within kind token left level (E level part)

-- Some tokens complete what was read to a part, in each list in which they stand behind it and no `(` behind them.
-- Where nothing was read, they begin with a `(` at most for what has to begin with one.
pub record Completes {A : Type 0} (kind : Kind) (toks : List Tok) (i left token : ℕ) (paren : Bool) (D : List Tok → ℕ → A → Type 0) (E : ℕ → A → List Entry) : Type 0 where
  pub forward : i ≤ behind kind token
  pub within : behind kind token ≤ length toks
  pub more : List Tok
  pub starts : paren ≡ false → behind kind token ≡ i → opens more ≡ false
  pub made : (other : List Tok) (k : ℕ) → AgreeBefore toks other (behind kind token) → Stand other (behind kind token) more k → NoParenFollows other k → Made kind token left (D other k) E

-- a part that is refused
pub record Stops {A B : Type 0} (toks : List Tok) (i left : ℕ) (paren : Bool) (D : List Tok → ℕ → A → Type 0) (E : ℕ → A → List Entry) (P : List Tok → ℕ → B → Type 0) (e : ParseErr) : Type 0 where
  pub completes : (kind : Kind) (token : ℕ) → Says kind token e → Completes kind toks i left token paren D E
  pub nothing : (token : ℕ) → e ≡ error.Syntax token → (other : List Tok) → AgreeBefore toks other (token + 1) → (n : ℕ) (y : B) → P other n y → ⊥

-- a token that is wanted at a place is missing there
pub record Missing (toks : List Tok) (at : ℕ) (t : Tok) (e : ParseErr) : Type 0 where
  pub is : e ≡ error.Syntax at
  pub other : At toks at t → ⊥

-- a token enters a level, and none is left
pub record NoLevel (left at : ℕ) (e : ParseErr) : Type 0 where
  pub is : e ≡ error.TooDeep at
  pub none : left ≡ 0

-- a name is missing at a place, and completes what was read before it; or no memory was found
pub record NameMissing {A B : Type 0} (toks : List Tok) (i : ℕ) (D : List Tok → ℕ → A → Type 0) (P : List Tok → B → Type 0) (e : ParseErr) : Type 0 where
  pub place : ℕ
  pub is : e ≡ error.Syntax place
  pub forward : i ≤ place
  pub within : place ≤ length toks
  pub begun : (other : List Tok) (k : ℕ) → AgreeBefore toks other place → IsToken other place tok.Name k → (part : A) × D other k part
  pub nothing : (other : List Tok) → AgreeBefore toks other (place + 1) → (y : B) → P other y → ⊥

abbrev pub StopsName : {A B : Type 0} → List Tok → ℕ → (List Tok → ℕ → A → Type 0) → (List Tok → B → Type 0) → ParseErr → Type 0
StopsName toks i D P e = (e ≡ error.Memory) ⊎ NameMissing toks i D P e
