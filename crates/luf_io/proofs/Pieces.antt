-- Pieces of bytes that are taken from the front and put at the end.
use Rattle.std.proofs.Common.{◌≡◌, ℕ, ◌+◌, ◌≤◌, List, ◌++◌, length, take, drop, sym, ap, subst, ◌∙◌, arith, Option, Some, None, append_assoc, length-drop, length-append, Err}
use Rattle.std.proofs.Math.Seq.{take-add}
use Rattle.std.proofs.lemmas.List.{take_at, length-take-le}
use Rattle.std.proofs.lemmas.Simd.{chunk-drop}
use Rattle.luf_io.specs.Source.{Taken}
use Rattle.luf_io.specs.Sink.{Appends}
use Rattle.luf_io.specs.Read.{PullsWithin}
use Rattle.luf_io.specs.declared.read.ReadErr.{ReadErr}
use Rattle.luf_io.specs.declared.read.ReadErr.TheVariants.{Fault, TooLarge, Memory}

-- the front of a buffer is a part of the bytes, and then come the bytes past it
pub drop-part : (bytes part rest : List ℕ) (at count : ℕ) → at + count ≤ length bytes → part ≡ take count (drop at bytes) → drop at bytes ≡ take count (part ++ rest) ++ drop (at + count) bytes
drop-part bytes part rest at count within is =
    let fits : count ≤ length (drop at bytes) = simp length-drop (omega arith) in
    let long : length part ≡ count = ap length is ∙ length-take-le count (drop at bytes) fits in
    let front = take_at part rest count long in
    let whole = chunk-drop at count bytes in
    cc

-- two pieces one after the other
pub Taken-append : (before : Option (List ℕ)) (p : List ℕ) (between : Option (List ℕ)) (q : List ℕ) (after : Option (List ℕ)) → Taken before p between → Taken between q after → Taken before (p ++ q) after
Taken-append before p between q None first second = cc
Taken-append before p between q (Some rest) first second = let e = append_assoc p q rest in cc

pub Appends-append : (before : Option (List ℕ)) (p : List ℕ) (between : Option (List ℕ)) (q : List ℕ) (after : Option (List ℕ)) → Appends before p between → Appends between q after → Appends before (p ++ q) after
Appends-append None p between q after first second = cc
Appends-append (Some written) p between q after first second = let e = append_assoc written p q in cc

-- the next piece of the bytes, after their front
pub Appends-take : (before : Option (List ℕ)) (bytes : List ℕ) (done taken : ℕ) (between after : Option (List ℕ)) → Appends before (take done bytes) between → Appends between (take taken (drop done bytes)) after → Appends before (take (done + taken) bytes) after
Appends-take before bytes done taken between after first second =
    subst (λ piece. Appends before piece after) (sym (take-add done taken bytes)) (Appends-append before _ between _ after first second)

-- an error after some pieces: the pieces before, and what was pulled in the last call
pub PullsWithin-append : (e : ReadErr) (p q : List ℕ) (room most : ℕ) → length p + room ≡ most → PullsWithin {T = ℕ} (Err e) room (length q) → PullsWithin {T = Unit {0}} (Err e) most (length (p ++ q))
PullsWithin-append Fault p q room most limit last = simp length-append (omega arith)
PullsWithin-append TooLarge p q room most limit last = simp length-append (omega arith)
PullsWithin-append Memory p q room most limit last = simp length-append (omega arith)
