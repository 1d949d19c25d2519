-- What stands open at the ends of parts, and the tokens that end it.
use Rattle.std.proofs.Common.{◌≡◌, ℕ, zero, suc, true, List, [], ◌∷◌, refl, sym, ap, ◌∙◌, subst}
use Rattle.luf_lex.specs.declared.token.Tok.{Tok}
use Rattle.luf_lex.specs.declared.token.Tok.TheVariants as tok
use Rattle.luf_lex.specs.declared.token.Word.{Word}
use Rattle.luf_lex.specs.declared.token.Word.TheVariants as word
use Rattle.luf_lex.specs.declared.token.Sign.{Sign}
use Rattle.luf_lex.specs.declared.token.Sign.TheVariants as sign
use Rattle.luf_tree.specs.Grammar.{IsToken, NoParenFollows}
use Rattle.luf_tree.specs.Operator.{is_unary_word, is_unary_sign, is_unary, word_precedence, sign_precedence, binary_precedence}
use Rattle.luf_tree.specs.Entry.{Entry}
use Rattle.luf_exact.proofs.Nesting.{Before, fresh, prefix, whole, head, Hold, soft, hard, twin, Nest, nest, level, settle, pop, Move, settles, softens, settles_enters, closes, braces, turns, entry_at, behind_brace, word_move, fresh_word, prefix_sign, whole_sign, fresh_sign, move, fresh_move, prefix_move, whole_move, Runs, runs_as, runs_to, token_run, move_run}

-- some levels that end with their operands
abbrev pub softened : ℕ → List Hold → List Hold
softened zero s = s
softened (suc n) s = soft ∷ softened n s

settle_softened : (n : ℕ) (s : List Hold) → settle (softened n s) ≡ settle s
settle_softened zero s = refl
settle_softened (suc n) s = settle_softened n s

softened_one : (n : ℕ) (s : List Hold) → softened n (soft ∷ s) ≡ soft ∷ softened n s
softened_one zero s = refl
softened_one (suc n) s = ap (λ h. soft ∷ h) (softened_one n s)

-- an expression stands before a place, and no `(` that would go on with it stands there
pub data Stops (toks : List Tok) (i : ℕ) : Before → Type 0 where
  prefix_stops : NoParenFollows toks i → Stops toks i prefix
  whole_stops : Stops toks i whole

-- and what is open over what was before it
pub data Ended (toks : List Tok) (s : List Hold) (i : ℕ) : Nest → Type 0 where
  ended : {b : Before} (n : ℕ) → Stops toks i b → Ended toks s i (nest (softened n s) b)

-- where a statement may end: nothing, or a name, or an expression stands before the place
pub data Pending (toks : List Tok) (s : List Hold) (i : ℕ) : Nest → Type 0 where
  clear : Pending toks s i (nest s fresh)
  named : Pending toks s i (nest s prefix)
  pending : {m : Nest} → Ended toks s i m → Pending toks s i m

-- the run of an expression, and of a statement
pub record Finishes (toks : List Tok) (i : ℕ) (n : Nest) (j : ℕ) (s : List Hold) (es : List Entry) : Type 0 where
  pub end : Nest
  pub runs : Runs toks i n j end es
  pub ends : Ended toks s j end

pub record Passes (toks : List Tok) (i : ℕ) (n : Nest) (j : ℕ) (s : List Hold) (es : List Entry) : Type 0 where
  pub end : Nest
  pub runs : Runs toks i n j end es
  pub ends : Pending toks s j end

-- the run of a simple expression
pub record Simply (toks : List Tok) (i : ℕ) (j : ℕ) (s : List Hold) (es : List Entry) : Type 0 where
  pub before : Before
  pub runs : Runs toks i (nest s fresh) j (nest s before) es
  pub stops : Stops toks j before

pub finishes_as : {toks : List Tok} {i j : ℕ} {n : Nest} {s : List Hold} {es fs : List Entry} → es ≡ fs → Finishes toks i n j s es → Finishes toks i n j s fs
finishes_as e h = record { end = h.end; runs = runs_as e h.runs; ends = h.ends }

pub passes_as : {toks : List Tok} {i j : ℕ} {n : Nest} {s : List Hold} {es fs : List Entry} → es ≡ fs → Passes toks i n j s es → Passes toks i n j s fs
passes_as e h = record { end = h.end; runs = runs_as e h.runs; ends = h.ends }

pub passing : {toks : List Tok} {i j : ℕ} {n : Nest} {s : List Hold} {es : List Entry} → Finishes toks i n j s es → Passes toks i n j s es
passing h = record { end = h.end; runs = h.runs; ends = pending h.ends }

-- what ends within an operator's operand ends the whole
pub ended_out : {toks : List Tok} {s : List Hold} {i : ℕ} {m : Nest} → Ended toks (soft ∷ s) i m → Ended toks s i m
ended_out {toks} {s} {i} (ended {b = b} n h) = subst (λ (t : List Hold). Ended toks s i (nest t b)) (sym (softened_one n s)) (ended (suc n) h)

stopped : {toks : List Tok} {i : ℕ} {b : Before} {m : Move} (t : Tok) → Stops toks i b → prefix_move t ≡ m → whole_move t ≡ m → move b t ≡ m
stopped t (prefix_stops c) p w = p
stopped t whole_stops p w = w

-- a token behind softened levels

settled_at : {toks : List Tok} {i j : ℕ} {t : Tok} {s : List Hold} {b : Before} (n : ℕ) (a : Before) → settle s ≡ s → IsToken toks i t j → move a t ≡ settles b → Runs toks i (nest (softened n s) a) j (nest s b) []
settled_at {s = s} {b = b} n a base d e = runs_to (ap (λ (h : List Hold). nest h b) (settle_softened n s ∙ base)) (move_run (nest (softened n s) a) d e)

closed_at : {toks : List Tok} {i j : ℕ} {t : Tok} {s : List Hold} {b : Before} (n : ℕ) (a : Before) → IsToken toks i t j → move a t ≡ closes b → Runs toks i (nest (softened n (hard ∷ s)) a) j (nest s b) []
closed_at {s = s} {b = b} n a d e = runs_to (ap (λ (h : List Hold). nest (pop h) b) (settle_softened n (hard ∷ s))) (move_run (nest (softened n (hard ∷ s)) a) d e)

braced_at : {toks : List Tok} {i j : ℕ} {t : Tok} {s : List Hold} (n : ℕ) (a : Before) → IsToken toks i t j → move a t ≡ braces → Runs toks i (nest (softened n (hard ∷ s)) a) j (nest s whole) []
braced_at {s = s} n a d e = runs_to (ap (λ (h : List Hold). nest (pop h) (behind_brace h)) (settle_softened n (hard ∷ s))) (move_run (nest (softened n (hard ∷ s)) a) d e)

twinned_at : {toks : List Tok} {i j : ℕ} {t : Tok} {s : List Hold} (n : ℕ) (a : Before) → IsToken toks i t j → move a t ≡ braces → Runs toks i (nest (softened n (twin ∷ s)) a) j (nest s prefix) []
twinned_at {s = s} n a d e = runs_to (ap (λ (h : List Hold). nest (pop h) (behind_brace h)) (settle_softened n (twin ∷ s))) (move_run (nest (softened n (twin ∷ s)) a) d e)

opened_at : {toks : List Tok} {i j : ℕ} {t : Tok} {s : List Hold} {b : Before} (n : ℕ) (a : Before) → settle s ≡ s → IsToken toks i t j → move a t ≡ settles_enters b
    → Runs toks i (nest (softened n s) a) j (nest (hard ∷ s) b) (entry_at i (level s) ∷ [])
opened_at {toks} {i} {j} {s = s} {b = b} n a base d e =
    subst (λ (h : List Hold). Runs toks i (nest (softened n s) a) j (nest (hard ∷ h) b) (entry_at i (level h) ∷ [])) (settle_softened n s ∙ base) (move_run (nest (softened n s) a) d e)

turned_at : {toks : List Tok} {i j : ℕ} {t : Tok} {s : List Hold} (n : ℕ) (a : Before) → IsToken toks i t j → move a t ≡ turns
    → Runs toks i (nest (softened n (hard ∷ s)) a) j (nest (hard ∷ s) fresh) (entry_at i (level s) ∷ [])
turned_at {toks} {i} {j} {s = s} n a d e =
    subst (λ (h : List Hold). Runs toks i (nest (softened n (hard ∷ s)) a) j (nest (hard ∷ pop h) fresh) (entry_at i (level (pop h)) ∷ [])) (settle_softened n (hard ∷ s)) (move_run (nest (softened n (hard ∷ s)) a) d e)

-- a token that does the same wherever a statement may end

pub settled : {toks : List Tok} {i j : ℕ} {t : Tok} {s : List Hold} {m : Nest} {b : Before} → settle s ≡ s → Pending toks s i m → IsToken toks i t j
    → fresh_move t ≡ settles b → prefix_move t ≡ settles b → whole_move t ≡ settles b → Runs toks i m j (nest s b) []
settled base clear d f p w = settled_at zero fresh base d f
settled base named d f p w = settled_at zero prefix base d p
settled base (pending (ended {b = b} n h)) d f p w = settled_at n b base d (stopped _ h p w)

pub closed : {toks : List Tok} {i j : ℕ} {t : Tok} {s : List Hold} {m : Nest} {b : Before} → Pending toks (hard ∷ s) i m → IsToken toks i t j
    → fresh_move t ≡ closes b → prefix_move t ≡ closes b → whole_move t ≡ closes b → Runs toks i m j (nest s b) []
closed clear d f p w = closed_at zero fresh d f
closed named d f p w = closed_at zero prefix d p
closed (pending (ended {b = b} n h)) d f p w = closed_at n b d (stopped _ h p w)

pub braced : {toks : List Tok} {i j : ℕ} {s : List Hold} {m : Nest} → Pending toks (hard ∷ s) i m → IsToken toks i (tok.Sign sign.RightBrace) j → Runs toks i m j (nest s whole) []
braced clear d = braced_at zero fresh d refl
braced named d = braced_at zero prefix d refl
braced (pending (ended {b = b} n h)) d = braced_at n b d (stopped _ h refl refl)

pub twinned : {toks : List Tok} {i j : ℕ} {s : List Hold} {m : Nest} → Pending toks (twin ∷ s) i m → IsToken toks i (tok.Sign sign.RightBrace) j → Runs toks i m j (nest s prefix) []
twinned clear d = twinned_at zero fresh d refl
twinned named d = twinned_at zero prefix d refl
twinned (pending (ended {b = b} n h)) d = twinned_at n b d (stopped _ h refl refl)

pub opened : {toks : List Tok} {i j : ℕ} {t : Tok} {s : List Hold} {m : Nest} → settle s ≡ s → Pending toks s i m → IsToken toks i t j
    → fresh_move t ≡ settles_enters fresh → prefix_move t ≡ settles_enters fresh → whole_move t ≡ settles_enters fresh → Runs toks i m j (nest (hard ∷ s) fresh) (entry_at i (level s) ∷ [])
opened base clear d f p w = opened_at zero fresh base d f
opened base named d f p w = opened_at zero prefix base d p
opened base (pending (ended {b = b} n h)) d f p w = opened_at n b base d (stopped _ h p w)

pub turned : {toks : List Tok} {i j : ℕ} {s : List Hold} {m : Nest} → Pending toks (hard ∷ s) i m → IsToken toks i (tok.Word word.Else) j → Runs toks i m j (nest (hard ∷ s) fresh) (entry_at i (level s) ∷ [])
turned clear d = turned_at zero fresh d refl
turned named d = turned_at zero prefix d refl
turned (pending (ended {b = b} n h)) d = turned_at n b d (stopped _ h refl refl)

pub function_opened : {toks : List Tok} {i j : ℕ} {s : List Hold} {m : Nest} → settle s ≡ s → Pending toks s i m → IsToken toks i (tok.Word word.Function) j → Runs toks i m j (nest (hard ∷ s) head) (entry_at i (level s) ∷ [])
function_opened {s = s} base clear d = token_run (nest s fresh) d
function_opened base named d = opened_at zero prefix base d refl
function_opened base (pending (ended {b = b} n h)) d = opened_at n b base d (stopped _ h refl refl)

-- what begins a prefix expression: a name, or a `(`
pub record Starts (toks : List Tok) (s : List Hold) (i : ℕ) (m : Nest) : Type 0 where
  pub name : {j : ℕ} → IsToken toks i tok.Name j → Runs toks i m j (nest s prefix) []
  pub paren : {j : ℕ} → IsToken toks i (tok.Sign sign.LeftParen) j → Runs toks i m j (nest (hard ∷ s) fresh) (entry_at i (level s) ∷ [])

pub fresh_starts : (toks : List Tok) (s : List Hold) (i : ℕ) → Starts toks s i (nest s fresh)
fresh_starts toks s i = record { name = λ d. token_run (nest s fresh) d; paren = λ d. token_run (nest s fresh) d }

ended_starts : {toks : List Tok} {s : List Hold} {i : ℕ} {b : Before} (n : ℕ) → settle s ≡ s → Stops toks i b → Starts toks s i (nest (softened n s) b)
ended_starts n base (prefix_stops none) = record { name = λ d. settled_at n prefix base d refl; paren = λ d. absurd (none d.there) }
ended_starts n base whole_stops = record { name = λ d. settled_at n whole base d refl; paren = λ d. opened_at n whole base d refl }

pub pending_starts : {toks : List Tok} {s : List Hold} {i : ℕ} {m : Nest} → settle s ≡ s → Pending toks s i m → Starts toks s i m
pending_starts {toks} {s} {i} base clear = fresh_starts toks s i
pending_starts {toks} {s} {i} base named = record { name = λ d. settled_at zero prefix base d refl; paren = λ d. token_run (nest s prefix) d }
pending_starts base (pending (ended n h)) = ended_starts n base h

-- operators

binary_word : (w : Word) → (word_precedence w ≡ 0 → ⊥) → word_move w ≡ settles fresh
binary_word word.Or h = refl
binary_word word.And h = refl
binary_word _ h = absurd (h refl)

binary_prefix_sign : (s : Sign) → (sign_precedence s ≡ 0 → ⊥) → prefix_sign s ≡ settles fresh
binary_prefix_sign sign.Less h = refl
binary_prefix_sign sign.Greater h = refl
binary_prefix_sign sign.LessEqual h = refl
binary_prefix_sign sign.GreaterEqual h = refl
binary_prefix_sign sign.NotEqual h = refl
binary_prefix_sign sign.Equal h = refl
binary_prefix_sign sign.Bar h = refl
binary_prefix_sign sign.Tilde h = refl
binary_prefix_sign sign.Amp h = refl
binary_prefix_sign sign.ShiftLeft h = refl
binary_prefix_sign sign.ShiftRight h = refl
binary_prefix_sign sign.DotDot h = refl
binary_prefix_sign sign.Plus h = refl
binary_prefix_sign sign.Minus h = refl
binary_prefix_sign sign.Star h = refl
binary_prefix_sign sign.Slash h = refl
binary_prefix_sign sign.SlashSlash h = refl
binary_prefix_sign sign.Percent h = refl
binary_prefix_sign _ h = absurd (h refl)

binary_whole_sign : (s : Sign) → (sign_precedence s ≡ 0 → ⊥) → whole_sign s ≡ settles fresh
binary_whole_sign sign.Less h = refl
binary_whole_sign sign.Greater h = refl
binary_whole_sign sign.LessEqual h = refl
binary_whole_sign sign.GreaterEqual h = refl
binary_whole_sign sign.NotEqual h = refl
binary_whole_sign sign.Equal h = refl
binary_whole_sign sign.Bar h = refl
binary_whole_sign sign.Tilde h = refl
binary_whole_sign sign.Amp h = refl
binary_whole_sign sign.ShiftLeft h = refl
binary_whole_sign sign.ShiftRight h = refl
binary_whole_sign sign.DotDot h = refl
binary_whole_sign sign.Plus h = refl
binary_whole_sign sign.Minus h = refl
binary_whole_sign sign.Star h = refl
binary_whole_sign sign.Slash h = refl
binary_whole_sign sign.SlashSlash h = refl
binary_whole_sign sign.Percent h = refl
binary_whole_sign _ h = absurd (h refl)

binary_prefix : (t : Tok) → (binary_precedence t ≡ 0 → ⊥) → prefix_move t ≡ settles fresh
binary_prefix (tok.Word w) h = binary_word w h
binary_prefix (tok.Sign s) h = binary_prefix_sign s h
binary_prefix _ h = absurd (h refl)

binary_whole : (t : Tok) → (binary_precedence t ≡ 0 → ⊥) → whole_move t ≡ settles fresh
binary_whole (tok.Word w) h = binary_word w h
binary_whole (tok.Sign s) h = binary_whole_sign s h
binary_whole _ h = absurd (h refl)

-- a binary operator ends the operand before it
pub operator_run : {toks : List Tok} {i j : ℕ} {t : Tok} {s : List Hold} {m : Nest} → settle s ≡ s → Ended toks s i m → IsToken toks i t j → (binary_precedence t ≡ 0 → ⊥) → Runs toks i m j (nest s fresh) []
operator_run {t = t} base (ended {b = b} n h) d some = settled_at n b base d (stopped t h (binary_prefix t some) (binary_whole t some))

unary_word : (w : Word) → is_unary_word w ≡ true → fresh_word w ≡ softens
unary_word word.Not h = refl
unary_word _ h = absurd cc

unary_sign : (s : Sign) → is_unary_sign s ≡ true → fresh_sign s ≡ softens
unary_sign sign.Hash h = refl
unary_sign sign.Minus h = refl
unary_sign sign.Tilde h = refl
unary_sign _ h = absurd cc

pub unary_softens : (t : Tok) → is_unary t ≡ true → fresh_move t ≡ softens
unary_softens (tok.Word w) h = unary_word w h
unary_softens (tok.Sign s) h = unary_sign s h
unary_softens _ h = absurd cc
