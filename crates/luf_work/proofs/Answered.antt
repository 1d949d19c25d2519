-- What a job answers, by the causes of its refusals.
use Rattle.std.proofs.Common.{◌≡◌, ◌≢◌, ◌⊎◌, inl, inr, Ok, Err, sym, ap, ◌∙◌, subst}
use Rattle.std.specs.Prelude.{Result, IfErr, IsErrAnd}
use Rattle.luf_work.specs.declared.refusal.Refusal.{Refusal}
use Rattle.luf_work.specs.declared.refusal.Refusal.TheVariants.{Memory}
use Rattle.luf_work.proofs.WantOfMemory.{memory_or_other}

-- what is no text of what it accepts is want of memory
pub answered_by : (Accepted : Type 0) (Cause : Refusal → Type 0) → ((refusal : Refusal) → Accepted → Cause refusal → ⊥) → (r : Result (Unit {0}) Refusal) → IsErrAnd r (λ e. e ≢ Memory → Cause e) → Accepted → (r ≡ Ok tt) ⊎ (r ≡ Err Memory)
answered_by Accepted Cause never (Ok u) cause a = absurd cause
answered_by Accepted Cause never (Err e) cause a = elim (memory_or_other e) [ inl memory ↦ inr (ap Err memory) | inr other ↦ absurd (never e a (cause other)) ]

-- a refusal that has its cause is the one that is answered, or want of memory is
pub told_by : (Cause : Refusal → Type 0) → ((refusal other : Refusal) → Cause refusal → Cause other → refusal ≡ other) → (r : Result (Unit {0}) Refusal) → IsErrAnd r (λ e. e ≢ Memory → Cause e) → (refusal : Refusal) → Cause refusal
    → (r ≡ Err refusal) ⊎ (r ≡ Err Memory)
told_by Cause one (Ok u) cause refusal h = absurd cause
told_by Cause one (Err e) cause refusal h = elim (memory_or_other e) [ inl memory ↦ inr (ap Err memory) | inr other ↦ inl (ap Err (one e refusal (cause other) h)) ]

-- an error that is passed on is the same, and has its cause here too
pub passed_by : (Cause Other : Refusal → Type 0) → ((x : Refusal) → Cause x → Other x) → {e : Refusal} (r : Result (Unit {0}) Refusal) → IsErrAnd r (λ x. x ≡ e) → (e ≢ Memory → Cause e) → IsErrAnd r (λ x. x ≢ Memory → Other x)
passed_by Cause Other more (Ok u) is h = absurd is
passed_by Cause Other more (Err x) is h = λ other. more x (subst Cause (sym is) (h (λ e. other (is ∙ e))))

pub passed_on_by : (Cause Other : Refusal → Type 0) → ((x : Refusal) → Cause x → Other x) → {e : Refusal} (r : Result (Unit {0}) Refusal) → IsErrAnd r (λ x. x ≡ e) → (e ≢ Memory → Cause e) → IfErr r (λ x. x ≢ Memory → Other x)
passed_on_by Cause Other more (Ok u) is h = absurd is
passed_on_by Cause Other more (Err x) is h = passed_by Cause Other more (Err x) is h
