-- Which levels are open at a place is told by the tokens before it alone, one after another. A level that a unary
-- operator or a `^` enters ends with its operand, at the first token that does not go on with that; each other one ends
-- with a token of its own.
use Rattle.std.proofs.Common.{◌≡◌, ℕ, ◌+◌, List, [], ◌∷◌, ◌++◌, sym, subst, append_assoc, append-nil}
use Rattle.luf_lex.specs.declared.token.Tok.{Tok}
use Rattle.luf_lex.specs.declared.token.Tok.TheVariants as tok
use Rattle.luf_lex.specs.declared.token.Word.{Word}
use Rattle.luf_lex.specs.declared.token.Word.TheVariants as word
use Rattle.luf_lex.specs.declared.token.Sign.{Sign}
use Rattle.luf_lex.specs.declared.token.Sign.TheVariants as sign
use Rattle.luf_tree.specs.Grammar.{IsToken}
use Rattle.luf_tree.specs.Entry.{Entry}

-- What stands directly before a place: nothing that goes on, a prefix expression, another expression or statement that
-- is whole, the `function` and the name of a function, some of its parameters.
pub data Before : Type 0 where
  fresh : Before
  prefix : Before
  whole : Before
  head : Before
  params : Before

-- What is open, innermost first: a level that ends with its operand, one that a token ends, and the two of a lone table.
pub data Hold : Type 0 where
  soft : Hold
  hard : Hold
  twin : Hold

pub record Nest : Type 0 where
  pub holds : List Hold
  pub before : Before

abbrev pub nest : List Hold → Before → Nest
nest s b = record { holds = s; before = b }

abbrev pub level : List Hold → ℕ
level [] = 0
level (soft ∷ s) = level s + 1
level (hard ∷ s) = level s + 1
level (twin ∷ s) = level s + 1 + 1

-- what is open where operands have ended
abbrev pub settle : List Hold → List Hold
settle [] = []
settle (soft ∷ s) = settle s
settle (hard ∷ s) = hard ∷ s
settle (twin ∷ s) = twin ∷ s

abbrev pub pop : List Hold → List Hold
pop [] = []
pop (h ∷ s) = s

abbrev pub behind_brace : List Hold → Before
behind_brace [] = whole
behind_brace (soft ∷ s) = whole
behind_brace (hard ∷ s) = whole
behind_brace (twin ∷ s) = prefix

-- what a token does
pub data Move : Type 0 where
  stays : Before → Move
  settles : Before → Move
  softens : Move
  lone : Move
  enters : Before → Move
  enters_two : Move
  settles_enters : Before → Move
  closes : Before → Move
  braces : Move
  turns : Move

abbrev pub after : Move → List Hold → Nest
after (stays b) s = nest s b
after (settles b) s = nest (settle s) b
after softens s = nest (soft ∷ s) fresh
after lone s = nest s prefix
after (enters b) s = nest (hard ∷ s) b
after enters_two s = nest (twin ∷ s) fresh
after (settles_enters b) s = nest (hard ∷ settle s) b
after (closes b) s = nest (pop (settle s)) b
after braces s = nest (pop (settle s)) (behind_brace (settle s))
after turns s = nest (hard ∷ pop (settle s)) fresh

abbrev pub entry_at : ℕ → ℕ → Entry
entry_at i n = record { token = i; level = n + 1 }

abbrev pub emits : Move → ℕ → List Hold → List Entry
emits (stays b) i s = []
emits (settles b) i s = []
emits softens i s = entry_at i (level s) ∷ []
emits lone i s = entry_at i (level s) ∷ []
emits (enters b) i s = entry_at i (level s) ∷ []
emits enters_two i s = entry_at i (level s) ∷ entry_at i (level s + 1) ∷ []
emits (settles_enters b) i s = entry_at i (level (settle s)) ∷ []
emits (closes b) i s = []
emits braces i s = []
emits turns i s = entry_at i (level (pop (settle s))) ∷ []

-- what each token does, by what stands before it

abbrev pub word_move : Word → Move
word_move word.Do = settles_enters fresh
word_move word.Then = settles_enters fresh
word_move word.Repeat = settles_enters fresh
word_move word.Function = settles_enters head
word_move word.Else = turns
word_move word.ElseIf = closes fresh
word_move word.Until = closes fresh
word_move word.End = closes whole
word_move word.Nil = stays whole
word_move word.True = stays whole
word_move word.False = stays whole
word_move word.Not = softens
word_move _ = settles fresh

abbrev pub fresh_word : Word → Move
fresh_word word.Function = enters head
fresh_word w = word_move w

abbrev pub sign_move : Sign → Move
sign_move sign.RightParen = closes prefix
sign_move sign.RightBracket = closes prefix
sign_move sign.RightBrace = braces
sign_move sign.LeftBracket = enters fresh
sign_move sign.Caret = softens
sign_move _ = settles fresh

abbrev pub fresh_sign : Sign → Move
fresh_sign sign.Minus = softens
fresh_sign sign.Tilde = softens
fresh_sign sign.Hash = softens
fresh_sign sign.Dots = stays whole
fresh_sign sign.LeftParen = enters fresh
fresh_sign sign.LeftBrace = enters fresh
fresh_sign s = sign_move s

abbrev pub prefix_sign : Sign → Move
prefix_sign sign.LeftParen = enters fresh
prefix_sign sign.LeftBrace = enters_two
prefix_sign sign.Dot = stays fresh
prefix_sign sign.Colon = stays fresh
prefix_sign s = sign_move s

abbrev pub whole_sign : Sign → Move
whole_sign sign.LeftParen = settles_enters fresh
whole_sign s = sign_move s

abbrev pub head_sign : Sign → Move
head_sign sign.LeftParen = stays params
head_sign _ = stays head

abbrev pub params_sign : Sign → Move
params_sign sign.RightParen = stays fresh
params_sign _ = stays params

abbrev pub fresh_move : Tok → Move
fresh_move tok.Name = stays prefix
fresh_move tok.Number = stays whole
fresh_move tok.Short = stays whole
fresh_move tok.Long = stays whole
fresh_move (tok.Word w) = fresh_word w
fresh_move (tok.Sign s) = fresh_sign s

abbrev pub prefix_move : Tok → Move
prefix_move tok.Name = settles prefix
prefix_move tok.Number = stays whole
prefix_move tok.Short = lone
prefix_move tok.Long = lone
prefix_move (tok.Word w) = word_move w
prefix_move (tok.Sign s) = prefix_sign s

abbrev pub whole_move : Tok → Move
whole_move tok.Name = settles prefix
whole_move tok.Number = stays whole
whole_move tok.Short = stays whole
whole_move tok.Long = stays whole
whole_move (tok.Word w) = word_move w
whole_move (tok.Sign s) = whole_sign s

abbrev pub head_move : Tok → Move
head_move (tok.Sign s) = head_sign s
head_move _ = stays head

abbrev pub params_move : Tok → Move
params_move (tok.Sign s) = params_sign s
params_move _ = stays params

abbrev pub move : Before → Tok → Move
move fresh t = fresh_move t
move prefix t = prefix_move t
move whole t = whole_move t
move head t = head_move t
move params t = params_move t

abbrev pub next : Nest → Tok → Nest
next n t = after (move n.before t) n.holds

-- from one place to another what is open becomes something else, and these levels are entered on the way
pub data Runs (toks : List Tok) : ℕ → Nest → ℕ → Nest → List Entry → Type 0 where
  halt : {i : ℕ} {n : Nest} → Runs toks i n i n []
  go : {i j k : ℕ} {n m : Nest} {t : Tok} {es : List Entry} → IsToken toks i t j → Runs toks j (next n t) k m es → Runs toks i n k m (emits (move n.before t) i n.holds ++ es)

pub runs_as : {toks : List Tok} {i k : ℕ} {n m : Nest} {es fs : List Entry} → es ≡ fs → Runs toks i n k m es → Runs toks i n k m fs
runs_as {toks} {i} {k} {n} {m} e r = subst (λ (es : List Entry). Runs toks i n k m es) e r

pub runs_to : {toks : List Tok} {i k : ℕ} {n m o : Nest} {es : List Entry} → m ≡ o → Runs toks i n k m es → Runs toks i n k o es
runs_to {toks} {i} {k} {n} {es = es} e r = subst (λ (m : Nest). Runs toks i n k m es) e r

-- one token
pub token_run : {toks : List Tok} {i j : ℕ} {t : Tok} (n : Nest) → IsToken toks i t j → Runs toks i n j (next n t) (emits (move n.before t) i n.holds)
token_run {i = i} {t = t} n d = runs_as (append-nil (emits (move n.before t) i n.holds)) (go d halt)

-- one token whose move is known
pub move_run : {toks : List Tok} {i j : ℕ} {t : Tok} {m : Move} (n : Nest) → IsToken toks i t j → move n.before t ≡ m → Runs toks i n j (after m n.holds) (emits m i n.holds)
move_run {toks} {i} {j} n d e = subst (λ (m : Move). Runs toks i n j (after m n.holds) (emits m i n.holds)) e (token_run n d)

infixl 5 ◌⨾◌
pub ◌⨾◌ : {toks : List Tok} {i j k : ℕ} {n m o : Nest} {xs ys : List Entry} → Runs toks i n j m xs → Runs toks j m k o ys → Runs toks i n k o (xs ++ ys)
◌⨾◌ halt b = b
◌⨾◌ {ys = ys} (go {i = i} {n = n} {t = t} {es = es} d a) b = runs_as (sym (append_assoc (emits (move n.before t) i n.holds) es ys)) (go d (a ⨾ b))

-- a run behind which no level is entered
infixl 5 ◌⊳◌
pub ◌⊳◌ : {toks : List Tok} {i j k : ℕ} {n m o : Nest} {xs : List Entry} → Runs toks i n j m xs → Runs toks j m k o [] → Runs toks i n k o xs
◌⊳◌ {xs = xs} a b = runs_as (append-nil xs) (a ⨾ b)
