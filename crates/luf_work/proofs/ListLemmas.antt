-- When an input has a listing, and which, and when it has a cause of a refusal by `list`, and which.
use Rattle.std.proofs.Common.{◌≡◌, ◌≢◌, ◌⊎◌, ℕ, List, Ok, Err, refl, sym, ap, ◌∙◌, arith}
use Rattle.std.specs.Prelude.{Result, IfErr, IsErrAnd}
use Rattle.luf_list.specs.Listing.{listing}
use Rattle.luf_undump.specs.declared.error.ChunkWhat.{ChunkWhat}
use Rattle.luf_undump.proofs.OneAnswer.{chunk_not_refused, one_cause, one_function}
use Rattle.luf_work.specs.List.{IsListing, IsListAccepted, IsListRefusal}
use Rattle.luf_work.specs.declared.refusal.Refusal.{Refusal}
use Rattle.luf_work.specs.declared.refusal.Refusal.TheVariants.{TooLarge, Lexical, Syntax, TooDeep, Scope, Chunk, ResultTooLarge, Memory}
use Rattle.luf_work.proofs.Answered.{answered_by, told_by, passed_by, passed_on_by}

pub one_listing : (source text other : List ℕ) → IsListing source text → IsListing source other → text ≡ other
one_listing source text other h g = h.text_is ∙ ap listing (one_function source h.main g.main h.is g.is) ∙ sym g.text_is

pub list_accepted_not_refused : (source : List ℕ) (refusal : Refusal) → IsListAccepted source → IsListRefusal source refusal → ⊥
list_accepted_not_refused source TooLarge a h = omega (arith, h, a.within)
list_accepted_not_refused source (Chunk at what) a h = chunk_not_refused source a.main at what a.is h.1
list_accepted_not_refused source (Lexical p w) a h = h
list_accepted_not_refused source (Syntax p) a h = h
list_accepted_not_refused source (TooDeep p) a h = h
list_accepted_not_refused source (Scope p w) a h = h
list_accepted_not_refused source ResultTooLarge a h = h
list_accepted_not_refused source Memory a h = h

pub one_list_refusal : (source : List ℕ) (refusal other : Refusal) → IsListRefusal source refusal → IsListRefusal source other → refusal ≡ other
one_list_refusal source (Lexical p w) other h g = absurd h
one_list_refusal source (Syntax p) other h g = absurd h
one_list_refusal source (TooDeep p) other h g = absurd h
one_list_refusal source (Scope p w) other h g = absurd h
one_list_refusal source ResultTooLarge other h g = absurd h
one_list_refusal source Memory other h g = absurd h
one_list_refusal source TooLarge TooLarge h g = refl
one_list_refusal source TooLarge (Chunk at what) h g = absurd (omega (arith, h, g.0))
one_list_refusal source TooLarge (Lexical p w) h g = absurd g
one_list_refusal source TooLarge (Syntax p) h g = absurd g
one_list_refusal source TooLarge (TooDeep p) h g = absurd g
one_list_refusal source TooLarge (Scope p w) h g = absurd g
one_list_refusal source TooLarge ResultTooLarge h g = absurd g
one_list_refusal source TooLarge Memory h g = absurd g
one_list_refusal source (Chunk at what) TooLarge h g = absurd (omega (arith, g, h.0))
one_list_refusal source (Chunk at what) (Chunk other kind) h g =
    let same = one_cause source at other what kind h.1 g.1 in
    ap (λ (n : ℕ). Chunk n what) same.0 ∙ ap (λ (w : ChunkWhat). Chunk other w) same.1
one_list_refusal source (Chunk at what) (Lexical p w) h g = absurd g
one_list_refusal source (Chunk at what) (Syntax p) h g = absurd g
one_list_refusal source (Chunk at what) (TooDeep p) h g = absurd g
one_list_refusal source (Chunk at what) (Scope p w) h g = absurd g
one_list_refusal source (Chunk at what) ResultTooLarge h g = absurd g
one_list_refusal source (Chunk at what) Memory h g = absurd g

-- ---- what is answered

-- what is no listing of an accepted input is want of memory
pub list_answered : (source : List ℕ) (r : Result (Unit {0}) Refusal) → IsErrAnd r (λ e. e ≢ Memory → IsListRefusal source e) → IsListAccepted source → (r ≡ Ok tt) ⊎ (r ≡ Err Memory)
list_answered source r cause a = answered_by (IsListAccepted source) (IsListRefusal source) (list_accepted_not_refused source) r cause a

-- a refusal that has its cause is answered, or want of memory is
pub list_told : (source : List ℕ) (r : Result (Unit {0}) Refusal) → IsErrAnd r (λ e. e ≢ Memory → IsListRefusal source e) → (refusal : Refusal) → IsListRefusal source refusal → (r ≡ Err refusal) ⊎ (r ≡ Err Memory)
list_told source r cause refusal h = told_by (IsListRefusal source) (one_list_refusal source) r cause refusal h

-- an error that is passed on is the same
pub list_passed : (source : List ℕ) {e : Refusal} (r : Result (Unit {0}) Refusal) → IsErrAnd r (λ x. x ≡ e) → (e ≢ Memory → IsListRefusal source e) → IsErrAnd r (λ x. x ≢ Memory → IsListRefusal source x)
list_passed source r is h = passed_by (IsListRefusal source) (IsListRefusal source) (λ x cause. cause) r is h

pub list_passed_on : (source : List ℕ) {e : Refusal} (r : Result (Unit {0}) Refusal) → IsErrAnd r (λ x. x ≡ e) → (e ≢ Memory → IsListRefusal source e) → IfErr r (λ x. x ≢ Memory → IsListRefusal source x)
list_passed_on source r is h = passed_on_by (IsListRefusal source) (IsListRefusal source) (λ x cause. cause) r is h
