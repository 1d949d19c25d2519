-- A list of tokens has at most one exact cause, and none beside a tree within the limit; its token is one of the list,
-- or the end.
use Rattle.std.proofs.Common.{◌≡◌, ℕ, zero, suc, ◌+◌, ◌<◌, ◌≤◌, ◌⊎◌, inl, inr, List, [], ◌∷◌, length, slice_get, refl, sym, ap, ◌∙◌, subst, arith}
use Rattle.std.specs.Prelude.{Contains}
use Rattle.std.proofs.lemmas.Bool.{cases_lt}
use Rattle.std.proofs.lemmas.Option.{same_Some}
use Rattle.luf_lex.specs.declared.token.Tok.{Tok}
use Rattle.luf_tree.specs.declared.tree.Chunk.{Chunk}
use Rattle.luf_tree.specs.Agree.{AgreeBefore}
use Rattle.luf_tree.specs.Entry.{Entry, entries, greatest_level}
use Rattle.luf_tree.specs.Grammar.{IsChunk}
use Rattle.luf_tree.specs.Level.{depth_of, level_limit}
use Rattle.luf_tree.proofs.EntryLevels.{depth_is_greatest}
use Rattle.luf_exact.proofs.SameEntries.{same_entries}
use Rattle.luf_descent.specs.declared.error.ParseErr.{ParseErr}
use Rattle.luf_descent.specs.declared.error.ParseErr.TheVariants as error
use Rattle.luf_descent.specs.Exact.{OfToken}
use Rattle.luf_exact.specs.Exact.{Begins, EntersTooDeep, IsTooDeepAt, IsSyntaxAt, IsExactCause}

-- lists that agree up to and with the end are one
all_agree : (xs ys : List Tok) → ((k : ℕ) → k < length xs + 1 → slice_get ys k ≡ slice_get xs k) → ys ≡ xs
all_agree [] [] same = refl
all_agree [] (y ∷ ys) same = let h = same zero (omega arith) in absurd cc
all_agree (x ∷ xs) [] same = let h = same zero (omega arith) in absurd cc
all_agree (x ∷ xs) (y ∷ ys) same =
    ap (λ (z : Tok). z ∷ ys) (same_Some y x (same zero (omega arith))) ∙ ap (λ (zs : List Tok). x ∷ zs) (all_agree xs ys (λ k low. same (suc k) (omega arith)))

-- what begins a list up to and with the end is that list
whole_begins : {toks : List Tok} → (b : Begins toks (length toks + 1)) → IsChunk toks b.chunk
whole_begins {toks} b = subst (λ (l : List Tok). IsChunk l b.chunk) (all_agree toks b.other b.agrees.same) b.derived

-- the place of a syntax refusal
pub syntax_within : {toks : List Tok} {t : ℕ} → IsSyntaxAt toks t → t ≤ length toks
syntax_within {toks} {t} h = either (cases_lt (length toks) t)
  where
    either : (length toks < t) ⊎ (t ≤ length toks) → t ≤ length toks
    either (inl low) = let b = h.first (length toks) low in absurd (h.no_tree b.chunk (whole_begins b))
    either (inr le) = le

in_greatest : (es : List Entry) (e : Entry) → Contains es e → e.level ≤ greatest_level es
in_greatest [] e (k, low, is) = absurd (omega arith)
in_greatest (x ∷ es) e (zero, low, is) = let a = ap (λ (e : Entry). e.level) is in omega arith
in_greatest (x ∷ es) e (suc k, low, is) = let a = in_greatest es e (k, omega arith, is) in omega arith

-- a token that enters a level too many leaves no tree within the limit
pub deep_no_tree : {toks : List Tok} {t : ℕ} → EntersTooDeep toks t → (chunk : Chunk) → IsChunk toks chunk → depth_of chunk ≤ level_limit → ⊥
deep_no_tree {toks} {t} h chunk tree depth =
    let b = h.begins in
    let back : AgreeBefore b.other toks (t + 1) = record { same = λ k low. sym (b.agrees.same k low) } in
    let here = same_entries b.other toks b.chunk chunk (t + 1) b.derived tree back (record { token = t; level = level_limit + 1 }) (omega arith) h.enters in
    let greatest = in_greatest (entries chunk) (record { token = t; level = level_limit + 1 }) here in
    let is = depth_is_greatest chunk in
    omega arith

pub cause_no_tree : (toks : List Tok) (e : ParseErr) (chunk : Chunk) → IsExactCause toks e → (e ≡ error.Memory → ⊥) → IsChunk toks chunk → depth_of chunk ≤ level_limit → ⊥
cause_no_tree toks (error.Syntax t) chunk h known tree depth = h.no_tree chunk tree
cause_no_tree toks (error.TooDeep t) chunk h known tree depth = deep_no_tree h.enters chunk tree depth
cause_no_tree toks error.Memory chunk h known tree depth = known refl

pub cause_within : (toks : List Tok) (e : ParseErr) → IsExactCause toks e → OfToken (λ token. token ≤ length toks) e
cause_within toks (error.Syntax t) h = syntax_within h
cause_within toks (error.TooDeep t) h = let a = h.enters.within in omega arith
cause_within toks error.Memory h = tt

syntax_not_less : {toks : List Tok} {t u : ℕ} → IsSyntaxAt toks t → IsSyntaxAt toks u → t < u → ⊥
syntax_not_less {t = t} a b low = a.stops (b.first t low)

deep_not_less : {toks : List Tok} {t u : ℕ} → IsTooDeepAt toks t → IsTooDeepAt toks u → t < u → ⊥
deep_not_less {t = t} a b low = b.first t low a.enters

one_place : {t u : ℕ} → (t < u → ⊥) → (u < t → ⊥) → t ≡ u
one_place {t} {u} a b = either (cases_lt t u) (cases_lt u t)
  where
    either : (t < u) ⊎ (u ≤ t) → (u < t) ⊎ (t ≤ u) → t ≡ u
    either (inl low) q = absurd (a low)
    either (inr le) (inl low) = absurd (b low)
    either (inr le) (inr ge) = omega arith

pub one_cause : (toks : List Tok) (e other : ParseErr) → IsExactCause toks e → IsExactCause toks other → (e ≡ error.Memory → ⊥) → (other ≡ error.Memory → ⊥) → e ≡ other
one_cause toks (error.Syntax t) (error.Syntax u) a b known also = ap error.Syntax (one_place (syntax_not_less a b) (syntax_not_less b a))
one_cause toks (error.Syntax t) (error.TooDeep u) a b known also = absurd (a.not_deep u b.enters)
one_cause toks (error.Syntax t) error.Memory a b known also = absurd (also refl)
one_cause toks (error.TooDeep t) (error.Syntax u) a b known also = absurd (b.not_deep t a.enters)
one_cause toks (error.TooDeep t) (error.TooDeep u) a b known also = ap error.TooDeep (one_place (deep_not_less a b) (deep_not_less b a))
one_cause toks (error.TooDeep t) error.Memory a b known also = absurd (also refl)
one_cause toks error.Memory other a b known also = absurd (known refl)
