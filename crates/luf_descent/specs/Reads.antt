-- What the functions of the parser answer.
use Rattle.std.specs.Prelude.{ℕ, ◌≤◌, Bool, true, Option, Some, List, length, slice_get}
use Rattle.luf_lex.specs.declared.token.Tok.{Tok}
use Rattle.luf_lex.specs.declared.token.Tok.TheVariants as tok
use Rattle.luf_lex.specs.declared.token.Sign.{Sign}
use Rattle.luf_lex.specs.declared.token.Sign.TheVariants as sign
use Rattle.luf_descent.specs.Follow.{sign_continues, continues_prefix}

-- a part that is derived, at whose end this holds, and which enters no more levels than are left
pub record Part (Derived Ends : Type 0) (levels left : ℕ) : Type 0 where
  pub is : Derived
  pub ends : Ends
  pub level : levels ≤ left

-- a part ends at a place or behind it, among the tokens
pub record EndsWithin (toks : List Tok) (from to : ℕ) : Type 0 where
  pub forward : from ≤ to
  pub within : to ≤ length toks

-- a part that ends at a place was read
abbrev pub Found : List Tok → ℕ → ℕ → ℕ → ℕ → Type 0 → Type 0
Found toks from to left levels Derived = Part Derived (EndsWithin toks from to) levels left

abbrev pub sign_begins_suffix : Sign → Bool
sign_begins_suffix sign.LeftParen = true
sign_begins_suffix s = sign_continues s

-- a suffix begins with this token
abbrev pub token_begins_suffix : Option Tok → Bool
token_begins_suffix (Some (tok.Sign s)) = sign_begins_suffix s
token_begins_suffix t = continues_prefix t

-- a suffix begins at a place
abbrev pub begins_suffix : List Tok → ℕ → Bool
begins_suffix toks i = token_begins_suffix (slice_get toks i)
