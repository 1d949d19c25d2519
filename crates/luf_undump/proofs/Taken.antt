-- What a part of the reader takes, whatever stands behind it, is what the grammar says of that part.
use Rattle.std.proofs.Common.{◌≡◌, ℕ, ◌≤◌, Bool, List, [], ◌++◌, length, Option, Result, sym, ◌∙◌, subst, arith}
use Rattle.std.proofs.lemmas.List.{append-nil}
use Rattle.luf_undump.specs.Field.{IsByte, IsFlag}
use Rattle.luf_undump.specs.Grammar.{IsCountOf, IsDebugList, IsListOf, IsSizeOf}
use Rattle.luf_undump.specs.Grammar as grammar
use Rattle.luf_undump.specs.Reading.{◌>>=◌, Wrong, byte_at, count_at, flag_at, many_at, size_at, skip_at, upvalue_count_at}
use Rattle.luf_undump.proofs.Sound.{Reads, Skips, Writes, andthen, behind, byte_reads, count_reads, flag_reads, itself, many_reads, size_reads, skip_reads, under, upvalue_count_reads}
use Rattle.luf_undump.proofs.Told.{Takes, alone, pair}

pub taken : {A : Type 0} (Is : List ℕ → A → Type 0) (r : List ℕ → Result (A × List ℕ) Wrong)
    → ((limit : ℕ) (bytes : List ℕ) → length bytes ≤ limit → Reads behind (Writes Is) limit [] bytes (r bytes))
    → (x : A) (front : List ℕ) → Takes pair r x front → Is front x
taken Is r reads x front takes =
    let s = (reads (length (front ++ [])) (front ++ []) (omega arith)).sound (x, []) (takes []) in
    let same : s.0 ≡ front = sym (append-nil s.0) ∙ sym s.1 ∙ append-nil front in
    subst (λ b. Is b x) same s.2

pub skipped : {Is : List ℕ → Type 0} (r : List ℕ → Result (List ℕ) Wrong)
    → ((limit : ℕ) (bytes : List ℕ) → length bytes ≤ limit → Reads itself (Skips Is) limit [] bytes (r bytes))
    → (x : Unit {0}) (front : List ℕ) → Takes alone r x front → Is front
skipped {Is = Is} r reads x front takes =
    let s = (reads (length (front ++ [])) (front ++ []) (omega arith)).sound [] (takes []) in
    let same : s.0 ≡ front = sym (append-nil s.0) ∙ sym s.1 ∙ append-nil front in
    subst Is same s.2

pub byte_taken : (x : ℕ) (front : List ℕ) → Takes pair byte_at x front → IsByte front x
byte_taken = taken IsByte byte_at byte_reads

pub flag_taken : (x : Bool) (front : List ℕ) → Takes pair flag_at x front → IsFlag front x
flag_taken = taken IsFlag flag_at flag_reads

pub size_taken : (x : ℕ) (front : List ℕ) → Takes pair size_at x front → IsSizeOf front x
size_taken = taken IsSizeOf size_at size_reads

pub count_taken : (x : ℕ) (front : List ℕ) → Takes pair count_at x front → IsCountOf front x
count_taken = taken IsCountOf count_at count_reads

-- ---- lists

-- so many as are counted
abbrev pub list_at : {A : Type 0} → (List ℕ → Result (ℕ × List ℕ) Wrong) → (List ℕ → Result (A × List ℕ) Wrong) → List ℕ → Result (List A × List ℕ) Wrong
list_at count item bytes = count bytes >>= λ n. many_at item n.0 n.1

abbrev pub skip_list_at : (List ℕ → Result (List ℕ) Wrong) → List ℕ → Result (List ℕ) Wrong
skip_list_at item bytes = count_at bytes >>= λ n. skip_at item n.0 n.1

pub list_reads : {A : Type 0} (Is : List ℕ → A → Type 0) (count : List ℕ → Result (ℕ × List ℕ) Wrong) (item : List ℕ → Result (A × List ℕ) Wrong)
    → ((limit : ℕ) (bytes : List ℕ) → length bytes ≤ limit → Reads behind (Writes IsCountOf) limit [] bytes (count bytes))
    → ((limit : ℕ) (bytes : List ℕ) → length bytes ≤ limit → Reads behind (Writes Is) limit [] bytes (item bytes))
    → (limit : ℕ) (bytes : List ℕ) → length bytes ≤ limit → Reads behind (Writes (IsListOf Is)) limit [] bytes (list_at count item bytes)
list_reads Is count item counts items limit bytes le =
    andthen limit [] bytes (count bytes) _ le (counts limit bytes le) (λ n front within is.
    under limit front n.1 (many_at item n.0 n.1) (many_reads Is item limit (items limit) n.0 n.1 within)
    (λ xs back are. grammar.counted front back xs.0 (subst (λ k. IsCountOf front k) (sym are.1) is) are.0))

pub skip_list_reads : (Is : List ℕ → Type 0) (item : List ℕ → Result (List ℕ) Wrong)
    → ((limit : ℕ) (bytes : List ℕ) → length bytes ≤ limit → Reads itself (Skips Is) limit [] bytes (item bytes))
    → (limit : ℕ) (bytes : List ℕ) → length bytes ≤ limit → Reads itself (Skips (IsDebugList Is)) limit [] bytes (skip_list_at item bytes)
skip_list_reads Is item items limit bytes le =
    andthen limit [] bytes (count_at bytes) _ le (count_reads limit bytes le) (λ n front within is.
    under limit front n.1 (skip_at item n.0 n.1) (skip_reads Is item limit (items limit) n.0 n.1 within) (λ rest back are. grammar.debug_list n.0 front back is are))

pub upvalue_count_is : (main : Option ℕ) (limit : ℕ) (bytes : List ℕ) → length bytes ≤ limit → Reads behind (Writes IsCountOf) limit [] bytes (upvalue_count_at main bytes)
upvalue_count_is main limit bytes le = under limit [] bytes (upvalue_count_at main bytes) (upvalue_count_reads main limit bytes le) (λ x front is. is.0)
