-- A part of a chunk among all that the chunk drops, and what is claimed of its ranks, joined from part to part.
use Rattle.std.proofs.Common.{◌≡◌, ℕ, suc, ◌+◌, ◌<◌, ◌≤◌, ◌⊎◌, ◌||◌, inl, inr, true, false, List, [], ◌∷◌, eq-eqb, ne_eqb, ap, refl, ◌∙◌, arith}
use Rattle.luf_lex.specs.declared.token.Tok.{Tok}
use Rattle.luf_tree.specs.Grammar.{IsToken, IsString}
use Rattle.luf_bare.specs.Significant.{is_among}
use Rattle.luf_bare.specs.Rank.{rank}
use Rattle.luf_bare.proofs.Ranks.{rank_of_next, rank_of_dropped}

-- the tokens from i to k and those behind them drop these, where those behind drop the latter
pub record Drops (i k : ℕ) (ds after : List ℕ) : Type 0 where
  pub on : i ≤ k
  pub beyond : (p : ℕ) → k ≤ p → is_among p ds ≡ is_among p after
  pub before : ((p : ℕ) → p < k → is_among p after ≡ false) → (p : ℕ) → p < i → is_among p ds ≡ false

-- a significant token, and a dropped one
pub record Step (all : List ℕ) (i j : ℕ) : Type 0 where
  pub solid : is_among i all ≡ false
  pub next : rank all j ≡ rank all i + 1

pub record Same (all : List ℕ) (i j : ℕ) : Type 0 where
  pub same : rank all j ≡ rank all i

-- a claim of a part, where the chunk drops all these: from i on those of the part and of what follows
pub record Part (all : List ℕ) (i k : ℕ) (ds after : List ℕ) (C : Type 0) : Type 0 where
  pub drops : Drops i k ds after
  pub claim : ((p : ℕ) → i ≤ p → is_among p all ≡ is_among p ds) → ((p : ℕ) → p < k → is_among p after ≡ false) → C

among_other : (p d : ℕ) (ds : List ℕ) → (p ≡ d → ⊥) → is_among p (d ∷ ds) ≡ is_among p ds
among_other p d ds differ = ap (λ b. b || is_among p ds) (ne_eqb p d differ)

among_first : (d : ℕ) (ds : List ℕ) → is_among d (d ∷ ds) ≡ true
among_first d ds = ap (λ b. b || is_among d ds) (eq-eqb d d refl)

module _ {all : List ℕ} where
  pub to : {i k : ℕ} {ds after : List ℕ} {C E : Type 0} → Part all i k ds after C → (C → E) → Part all i k ds after E
  to part f = record { drops = part.drops; claim = λ fits above. f (part.claim fits above) }

  pub none : {i : ℕ} {ds : List ℕ} → Part all i i ds ds (Unit {0})
  none = record { drops = record { on = omega arith; beyond = λ p le. refl; before = λ below p less. below p less }; claim = λ fits above. tt }

  pub seq : {i j k : ℕ} {ds mid after : List ℕ} {C E : Type 0} → Part all i j ds mid C → Part all j k mid after E → Part all i k ds after (C × E)
  seq {i} {j} {k} a b =
      let ij : i ≤ j = a.drops.on in
      let jk : j ≤ k = b.drops.on in
      record {
        drops = record {
          on = omega arith;
          beyond = λ p le. a.drops.beyond p (omega (arith, le, jk)) ∙ b.drops.beyond p le;
          before = λ below. a.drops.before (b.drops.before below);
        };
        claim = λ fits above. (a.claim fits (b.drops.before above), b.claim (λ p le. fits p (omega (arith, le, ij)) ∙ a.drops.beyond p le) above);
      }

  kept_next : {i j k : ℕ} {ds after : List ℕ} {C : Type 0} → j ≡ i + 1 → Part all j k ds after C → Part all i k ds after (Step all i j × C)
  kept_next {i} {j} {k} next rest =
      let jk : j ≤ k = rest.drops.on in
      let after_i : j ≡ suc i = omega (arith, next) in
      record {
        drops = record { on = omega (arith, jk, next); beyond = rest.drops.beyond; before = λ below p less. rest.drops.before below p (omega (arith, less, next)) };
        claim = λ fits above.
            let solid : is_among i all ≡ false = fits i (omega arith) ∙ rest.drops.before above i (omega (arith, next)) in
            (record { solid = solid; next = ap (rank all) after_i ∙ rank_of_next all i solid }, rest.claim (λ p le. fits p (omega (arith, le, next))) above);
      }

  lost_next : {i j k : ℕ} {ds after : List ℕ} {C : Type 0} → j ≡ i + 1 → Part all j k ds after C → Part all i k (i ∷ ds) after (Same all i j × C)
  lost_next {i} {j} {k} {ds} next rest =
      let jk : j ≤ k = rest.drops.on in
      let after_i : j ≡ suc i = omega (arith, next) in
      record {
        drops = record {
          on = omega (arith, jk, next);
          beyond = λ p le. among_other p i ds (λ same. omega (arith, same, le, jk, next)) ∙ rest.drops.beyond p le;
          before = λ below p less. among_other p i ds (λ same. omega (arith, same, less)) ∙ rest.drops.before below p (omega (arith, less, next));
        };
        claim = λ fits above. (
          record { same = ap (rank all) after_i ∙ rank_of_dropped all i (fits i (omega arith) ∙ among_first i ds) },
          rest.claim (λ p le. fits p (omega (arith, le, next)) ∙ among_other p i ds (λ same. omega (arith, same, le, next))) above,
        );
      }

  pub kept : {toks : List Tok} {t : Tok} {i j k : ℕ} {ds after : List ℕ} {C : Type 0} → IsToken toks i t j → Part all j k ds after C → Part all i k ds after (Step all i j × C)
  kept token rest = kept_next token.next rest

  pub lost : {toks : List Tok} {t : Tok} {i j k : ℕ} {ds after : List ℕ} {C : Type 0} → IsToken toks i t j → Part all j k ds after C → Part all i k (i ∷ ds) after (Same all i j × C)
  lost token rest = lost_next token.next rest

  pub kept_string : {toks : List Tok} {i j k : ℕ} {ds after : List ℕ} {C : Type 0} → IsString toks i j → Part all j k ds after C → Part all i k ds after (Step all i j × C)
  kept_string (inl token) rest = kept_next token.next rest
  kept_string (inr token) rest = kept_next token.next rest

  pub lost_one : {toks : List Tok} {t u : Tok} {i j k : ℕ} {ds after : List ℕ} {C : Type 0} → IsToken toks i t j ⊎ IsToken toks i u j → Part all j k ds after C → Part all i k (i ∷ ds) after (Same all i j × C)
  lost_one (inl token) rest = lost_next token.next rest
  lost_one (inr token) rest = lost_next token.next rest

  -- there is room for a token before a part
  pub between_room : {i j k : ℕ} {ds after : List ℕ} {C : Type 0} → j ≡ i + 1 → Part all j k ds after C → i < k
  between_room next part = omega (arith, next, part.drops.on)

pub separator_next : {toks : List Tok} {t u : Tok} {i j : ℕ} → IsToken toks i t j ⊎ IsToken toks i u j → j ≡ i + 1
separator_next (inl token) = token.next
separator_next (inr token) = token.next

-- the claim of a whole chunk
pub claimed : {all : List ℕ} {n : ℕ} {C : Type 0} → Part all 0 n all [] C → C
claimed part = part.claim (λ p le. refl) (λ p less. refl)
