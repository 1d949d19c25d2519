-- An answer is want of memory, or another.
use Rattle.std.proofs.Common.{◌≡◌, ◌≢◌, ◌⊎◌, inl, inr, refl}
use Rattle.luf_work.specs.declared.refusal.Refusal.{Refusal}
use Rattle.luf_work.specs.declared.refusal.Refusal.TheVariants.{TooLarge, Lexical, Syntax, TooDeep, Scope, Chunk, ResultTooLarge, Memory}

pub memory_or_other : (refusal : Refusal) → (refusal ≡ Memory) ⊎ (refusal ≢ Memory)
memory_or_other Memory = inl refl
memory_or_other TooLarge = inr (λ e. cc)
memory_or_other (Lexical p w) = inr (λ e. cc)
memory_or_other (Syntax p) = inr (λ e. cc)
memory_or_other (TooDeep p) = inr (λ e. cc)
memory_or_other (Scope p w) = inr (λ e. cc)
memory_or_other (Chunk at w) = inr (λ e. cc)
memory_or_other ResultTooLarge = inr (λ e. cc)
