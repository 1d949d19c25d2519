-- What the bytes read as is one thing, so they have one answer.
use Rattle.std.proofs.Common.{◌≡◌, ℕ, List, Result, Ok, Err, ap, arith}
use Rattle.luf_proto.specs.Function.{Function}
use Rattle.luf_undump.specs.Answers.{HasCause}
use Rattle.luf_undump.specs.Grammar.{IsChunkOf}
use Rattle.luf_undump.specs.Reading.{Wrong, chunk_at}
use Rattle.luf_undump.specs.declared.error.ChunkWhat.{ChunkWhat}
use Rattle.luf_undump.specs.declared.error.UndumpErr.TheVariants.{Bad}
use Rattle.luf_undump.proofs.Complete.{chunk_complete}

pub same_value : (f g : Function) (r : Result Function Wrong) → r ≡ Ok f → r ≡ Ok g → f ≡ g
same_value f g r is also = cc

pub never_both : (f : Function) (e : Wrong) (r : Result Function Wrong) → r ≡ Ok f → r ≡ Err e → ⊥
never_both f e r is also = cc

same_wrong : (d e : Wrong) (r : Result Function Wrong) → r ≡ Err d → r ≡ Err e → d ≡ e
same_wrong d e r is also = cc

pub one_function : (bytes : List ℕ) (f g : Function) → IsChunkOf bytes f → IsChunkOf bytes g → f ≡ g
one_function bytes f g is also = same_value f g (chunk_at bytes) (chunk_complete bytes f is) (chunk_complete bytes g also)

pub chunk_not_refused : (bytes : List ℕ) (f : Function) (at : ℕ) (what : ChunkWhat) → IsChunkOf bytes f → HasCause bytes (Bad at what) → ⊥
chunk_not_refused bytes f at what is cause = never_both f _ (chunk_at bytes) (chunk_complete bytes f is) cause.2

pub one_cause : (bytes : List ℕ) (at other : ℕ) (what kind : ChunkWhat) → HasCause bytes (Bad at what) → HasCause bytes (Bad other kind) → (at ≡ other) × (what ≡ kind)
one_cause bytes at other what kind one two =
    let same = same_wrong _ _ (chunk_at bytes) one.2 two.2 in
    let left : one.0 ≡ two.0 = ap (λ (w : Wrong). w.left) same in
    (omega (arith, left, one.1, two.1), ap (λ (w : Wrong). w.what) same)
