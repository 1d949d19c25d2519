-- The field that the reader refuses is the first with which no chunk goes on.
use Rattle.std.proofs.Common.{◌≡◌, ℕ, suc, ◌+◌, ◌≤◌, ◌==◌, Bool, true, false, if◌then◌else◌, List, [], ◌∷◌, ◌++◌, length, Some, Result, Ok, Err, refl, sym, ap, ◌∙◌, subst, append_assoc, length-append, arith}
use Rattle.std.proofs.lemmas.Bool.{eq-eqb, eqb-false, eqb-true, ne_eqb}
use Rattle.std.proofs.lemmas.List.{append-nil}
use Rattle.luf_proto.specs.Chunk.{header}
use Rattle.luf_proto.specs.Function.{Function}
use Rattle.luf_undump.specs.Answers.{HasCause}
use Rattle.luf_undump.specs.Field.{InBytes, InChunk, Kind, a_size, some_bytes}
use Rattle.luf_undump.specs.Field as field
use Rattle.luf_undump.specs.FirstWrong.{AreBytes, Begins, BeginsDeeper, BeginsNone, IsDeeperChunkOf, IsFirstWrong}
use Rattle.luf_undump.specs.FirstWrong as spec
use Rattle.luf_undump.specs.Grammar.{IsChunkOf, IsFunctionOf}
use Rattle.luf_undump.specs.Reading.{◌>>=◌, Wrong, wrong, byte_at, fixed_byte_at, fixed_at, function_at, chunk_at, most_levels}
use Rattle.luf_undump.specs.declared.error.ChunkWhat.{ChunkWhat}
use Rattle.luf_undump.specs.declared.error.ChunkWhat.TheVariants.{BadHeader, Short, BadSize, BadTag, Nested, Trailing}
use Rattle.luf_undump.specs.declared.error.UndumpErr.TheVariants.{Bad}
use Rattle.luf_undump.proofs.Complete.{chunk_complete, false_test, fixed_complete, true_test}
use Rattle.luf_undump.proofs.OneAnswer.{never_both}
use Rattle.luf_undump.proofs.Sound.{Reads, Writes, andthen_told, byte_reads, chunk_sound, function_reads, under}
use Rattle.luf_undump.proofs.Sound as sound
use Rattle.luf_undump.proofs.Told.{Ends, Told, pair, bytes_join}
use Rattle.luf_undump.proofs.Told as told
use Rattle.luf_undump.proofs.ToldFields.{bind_assoc, only_empty}
use Rattle.luf_undump.proofs.ToldFunctions.{InBody, body_at, body_opens, body_told}

-- ---- all of a chunk, by what stands behind its header

-- main is all that there is
all_read : Function × List ℕ → Result Function Wrong
all_read main = if length main.1 == 0 then Ok main.0 else wrong main.1 Trailing

by_body : (bytes : List ℕ) → chunk_at (header ++ bytes) ≡ (body_at most_levels bytes >>= all_read)
unfolding chunk_at body_at all_read
by_body bytes =
    ap (λ b. b >>= λ rest. byte_at rest >>= λ n. function_at most_levels (Some n.0) n.1 >>= all_read) (fixed_complete header bytes)
    ∙ sym (bind_assoc (byte_at bytes) (λ n. function_at most_levels (Some n.0) n.1) all_read)

body_reads : (levels limit : ℕ) (bytes : List ℕ) → length bytes ≤ limit
    → Reads sound.behind (Writes (λ front f. (upvalues : ℕ) × (main : List ℕ) × (front ≡ upvalues ∷ main) × IsFunctionOf levels (Some upvalues) main f)) limit [] bytes (body_at levels bytes)
unfolding body_at
body_reads levels limit bytes le =
    andthen_told limit [] bytes (byte_at bytes) _ (λ x. x.0 ∷ []) le (byte_reads limit bytes le) (λ upvalues in_count.
    under limit (upvalues.0 ∷ []) upvalues.1 (function_at levels (Some upvalues.0) upvalues.1) (function_reads levels (Some upvalues.0) limit upvalues.1 in_count)
    (λ x front is. (upvalues.0, front, refl, is)))

whole_chunk : (bytes : List ℕ) (f : Function) → body_at most_levels bytes ≡ Ok (f, []) → IsChunkOf (header ++ bytes) f
unfolding all_read
whole_chunk bytes f is = chunk_sound (header ++ bytes) f (by_body bytes ∙ ap (λ y. y >>= all_read) is)

deeper_chunk : (bytes : List ℕ) (f : Function) → body_at (suc most_levels) bytes ≡ Ok (f, []) → IsDeeperChunkOf (header ++ bytes) f
deeper_chunk bytes f is =
    let s = (body_reads (suc most_levels) (length bytes) bytes (omega arith)).sound (f, []) is in
    let same : s.2.0 ∷ s.2.1 ≡ bytes = sym s.2.2 ∙ sym (append-nil s.0) ∙ sym s.1 in
    subst (λ b. IsDeeperChunkOf (header ++ b) f) same (spec.deeper_chunk s.2.0 s.2.1 f s.2.3)

-- main with a byte behind it
byte_more : (front : List ℕ) (f : Function) (byte : ℕ) → ((more : List ℕ) → body_at most_levels (front ++ more) ≡ Ok (f, more)) → (more : List ℕ)
    → chunk_at (header ++ (front ++ (byte ∷ more))) ≡ wrong (byte ∷ more) Trailing
unfolding all_read
byte_more front f byte takes more =
    by_body (front ++ (byte ∷ more)) ∙ ap (λ y. y >>= all_read) (takes (byte ∷ more))
    ∙ false_test (length (byte ∷ more) == 0) _ _ (ne_eqb (length (byte ∷ more)) 0 (λ e. omega (arith, e)))

-- ---- what begins a chunk, and what begins none

begins : (front : List ℕ) → Ends pair (body_at most_levels) front → Begins (header ++ front)
begins front e =
    let whole = whole_chunk (front ++ e.more) e.value (ap (λ b. body_at most_levels (front ++ b)) (sym (append-nil e.more)) ∙ e.ends []) in
    (e.more, e.value, e.are, subst (λ b. IsChunkOf b e.value) (sym (append_assoc header front e.more)) whole)

begins_with : (front back : List ℕ) → Ends pair (body_at most_levels) (front ++ back) → Begins (header ++ front ++ back)
begins_with front back e = subst Begins (sym (append_assoc header front back)) (begins (front ++ back) e)

begins_deeper : (front back : List ℕ) → Ends pair (body_at (suc most_levels)) (front ++ back) → BeginsDeeper (header ++ front ++ back)
begins_deeper front back e =
    let all = front ++ back in
    let whole = deeper_chunk (all ++ e.more) e.value (ap (λ b. body_at (suc most_levels) (all ++ b)) (sym (append-nil e.more)) ∙ e.ends []) in
    subst BeginsDeeper (sym (append_assoc header front back)) (e.more, e.value, e.are, subst (λ b. IsDeeperChunkOf b e.value) (sym (append_assoc header all e.more)) whole)

not_in_header : (front : List ℕ) → length header ≤ length (header ++ front)
not_in_header front = omega (arith, length-append header front)

-- bytes of which main is not read are no chunk
no_chunk : (bytes same : List ℕ) (e : Wrong) (f : Function) → bytes ≡ header ++ same → body_at most_levels same ≡ Err e → IsChunkOf bytes f → ⊥
no_chunk bytes same e f whole stops is =
    never_both f e (chunk_at bytes) (chunk_complete bytes f is) (ap chunk_at whole ∙ by_body same ∙ ap (λ y. y >>= all_read) stops)

regroup : (a b c d : List ℕ) → a ++ b ++ c ++ d ≡ a ++ (b ++ (c ++ d))
regroup a b c d = simp append_assoc

begins_none : (front field : List ℕ) (e : List ℕ → Wrong) → ((more : List ℕ) → body_at most_levels (front ++ (field ++ more)) ≡ Err (e more)) → BeginsNone (header ++ front ++ field)
begins_none front field e stops more f is = no_chunk (header ++ front ++ field ++ more) (front ++ (field ++ more)) (e more) f (regroup header front field more) (stops more) is

-- ---- the fields

in_body : (front : List ℕ) (kind : Kind) → InBody most_levels front kind → InChunk (header ++ front) kind
in_body front kind (field.in_first same_front same_kind is) = in_byte front kind is
  where
    in_byte : (front : List ℕ) (kind : Kind) → InBytes 1 front kind → InChunk (header ++ front) kind
    in_byte front kind field.begins = subst (λ b. InChunk b (some_bytes 1)) (sym (append-nil header)) field.upvalue_byte
in_body front kind (field.in_second first back n same_kind is next) = subst (λ b. InChunk (header ++ (b ++ back)) kind) (sym is) (field.in_main n back kind next)

-- ---- the header

data Compared (wanted bytes : List ℕ) : Type 0 where
  same : (rest : List ℕ) → bytes ≡ wanted ++ rest → Compared wanted bytes
  differs : (front others rest : List ℕ) (byte other : ℕ) → wanted ≡ front ++ other ∷ others → bytes ≡ front ++ byte ∷ rest → (byte ≡ other → ⊥) → Compared wanted bytes
  ends_early : (others : List ℕ) (next : ℕ) → wanted ≡ bytes ++ next ∷ others → Compared wanted bytes

compared : (wanted bytes : List ℕ) → Compared wanted bytes
compared [] bytes = same bytes refl
compared (next ∷ wanted) [] = ends_early wanted next refl
compared (next ∷ wanted) (byte ∷ bytes) = by_test (byte == next) refl (compared wanted bytes)
  where
    by_test : (b : Bool) → (byte == next) ≡ b → Compared wanted bytes → Compared (next ∷ wanted) (byte ∷ bytes)
    by_test true is (same rest e) = same rest (ap (λ b. b ∷ bytes) (eqb-true byte next is) ∙ ap (λ b. next ∷ b) e)
    by_test true is (differs front others rest found other e d unlike) =
        differs (next ∷ front) others rest found other (ap (λ b. next ∷ b) e) (ap (λ b. b ∷ bytes) (eqb-true byte next is) ∙ ap (λ b. next ∷ b) d) unlike
    by_test true is (ends_early others behind e) = ends_early others behind (ap (λ b. b ∷ wanted) (sym (eqb-true byte next is)) ∙ ap (λ b. byte ∷ b) e)
    by_test false is others = differs [] wanted bytes byte next refl refl (eqb-false byte next is)

fixed_differs : (front others more : List ℕ) (byte other : ℕ) → (byte ≡ other → ⊥) → fixed_at (front ++ other ∷ others) (front ++ byte ∷ more) ≡ wrong (byte ∷ more) BadHeader
unfolding fixed_at fixed_byte_at
fixed_differs [] others more byte other unlike = ap (λ y. y >>= fixed_at others) (false_test (byte == other) _ _ (ne_eqb byte other unlike))
fixed_differs (first ∷ front) others more byte other unlike =
    ap (λ y. y >>= fixed_at (front ++ other ∷ others)) (true_test (first == first) _ _ (eq-eqb first first refl)) ∙ fixed_differs front others more byte other unlike

fixed_cut : (bytes others : List ℕ) (next : ℕ) → fixed_at (bytes ++ next ∷ others) bytes ≡ wrong [] Short
unfolding fixed_at fixed_byte_at
fixed_cut [] others next = refl
fixed_cut (first ∷ bytes) others next = ap (λ y. y >>= fixed_at (bytes ++ next ∷ others)) (true_test (first == first) _ _ (eq-eqb first first refl)) ∙ fixed_cut bytes others next

header_stops : (bytes : List ℕ) (e : Wrong) → fixed_at header bytes ≡ Err e → chunk_at bytes ≡ Err e
unfolding chunk_at all_read
header_stops bytes e h = ap (λ b. b >>= λ rest. byte_at rest >>= λ n. function_at most_levels (Some n.0) n.1 >>= all_read) h

header_are : AreBytes header
header_are = omega arith

behind_are : (front rest : List ℕ) → AreBytes (front ++ rest) → AreBytes rest
behind_are [] rest are = are
behind_are (byte ∷ front) rest are = behind_are front rest are.1

-- a front of the header begins a chunk
header_begins : (front back : List ℕ) → header ≡ front ++ back → Begins front
header_begins front back whole =
    let e = body_opens 200 in
    let all : header ++ e.more ≡ front ++ (back ++ e.more) = ap (λ b. b ++ e.more) whole ∙ append_assoc front back e.more in (
      back ++ e.more,
      e.value,
      bytes_join back e.more (behind_are front back (subst AreBytes whole header_are)) e.are,
      subst (λ b. IsChunkOf b e.value) all (whole_chunk e.more e.value (ap (body_at most_levels) (sym (append-nil e.more)) ∙ e.ends [])),
    )

-- ---- the law

same_wrong : (d e : Wrong) (r : Result Function Wrong) → r ≡ Err d → r ≡ Err e → d ≡ e
same_wrong d e r is also = cc

-- the answer is what the reading says
concluded : (bytes front rest : List ℕ) (at : ℕ) (what said : ChunkWhat) → HasCause bytes (Bad at what) → bytes ≡ front ++ rest → chunk_at bytes ≡ wrong rest said
    → IsFirstWrong (front ++ rest) (length front) said → IsFirstWrong bytes at what
concluded bytes front rest at what said cause whole stops first =
    let same = same_wrong (record { left = length rest; what = said }) (record { left = cause.0; what = what }) (chunk_at bytes) stops cause.2 in
    let left : length rest ≡ cause.0 = ap (λ (w : Wrong). w.left) same in
    let len : length bytes ≡ length front + length rest = ap length whole ∙ length-append front rest in
    let sum : at + cause.0 ≡ length bytes = cause.1 in
    let place : length front ≡ at = omega (arith, left, len, sum) in
    subst (λ b. IsFirstWrong b at what) (sym whole) (subst (λ n. IsFirstWrong (front ++ rest) n what) place (subst (IsFirstWrong (front ++ rest) (length front)) (ap (λ (w : Wrong). w.what) same) first))

-- by what is told of the bytes behind the header
module _ (bytes inner : List ℕ) (at : ℕ) (what : ChunkWhat) (cause : HasCause bytes (Bad at what)) (behind_header : bytes ≡ header ++ inner) where
  answer : (front rest : List ℕ) (said : ChunkWhat) → inner ≡ front ++ rest → body_at most_levels (front ++ rest) ≡ wrong rest said
      → IsFirstWrong (header ++ front ++ rest) (length (header ++ front)) said → IsFirstWrong bytes at what
  answer front rest said whole stops first =
      let all : bytes ≡ header ++ (front ++ rest) = behind_header ∙ ap (λ b. header ++ b) whole in
      concluded bytes (header ++ front) rest at what said cause (all ∙ sym (append_assoc header front rest))
      (ap chunk_at all ∙ by_body (front ++ rest) ∙ ap (λ y. y >>= all_read) stops) first

  trailing : (front rest : List ℕ) (f : Function) → inner ≡ front ++ rest → ((more : List ℕ) → body_at most_levels (front ++ more) ≡ Ok (f, more)) → IsFirstWrong bytes at what
  trailing front [] f whole takes =
      let is : IsChunkOf (header ++ (front ++ [])) f = whole_chunk (front ++ []) f (takes []) in
      let all : bytes ≡ header ++ (front ++ []) = behind_header ∙ ap (λ b. header ++ b) whole in
      absurd (never_both f _ (chunk_at bytes) (ap chunk_at all ∙ chunk_complete (header ++ (front ++ [])) f is) cause.2)
  trailing front (byte ∷ rest) f whole takes =
      let all : bytes ≡ header ++ (front ++ (byte ∷ rest)) = behind_header ∙ ap (λ b. header ++ b) whole in
      concluded bytes (header ++ front) (byte ∷ rest) at what Trailing cause (all ∙ sym (append_assoc header front (byte ∷ rest))) (ap chunk_at all ∙ byte_more front f byte takes rest)
      (spec.byte_behind (header ++ front) rest byte f (whole_chunk front f (ap (body_at most_levels) (sym (append-nil front)) ∙ takes []))
      (λ more g is. never_both g _ (chunk_at (header ++ front ++ byte ∷ [] ++ more)) (chunk_complete (header ++ front ++ byte ∷ [] ++ more) g is)
      (ap chunk_at (regroup header front (byte ∷ []) more) ∙ byte_more front f byte takes more)))

  by_told : Told pair (InBody most_levels) (body_at most_levels) (body_at (suc most_levels)) inner → IsFirstWrong bytes at what
  by_told (told.read f front rest whole takes goes) = trailing front rest f whole takes
  by_told (told.tag byte front rest whole next ends stops) =
      answer front (byte ∷ rest) BadTag whole (stops rest)
      (spec.bad_tag (header ++ front) rest byte (not_in_header front) (in_body front (some_bytes 1) next) (begins_with front (0 ∷ []) ends) (begins_none front (byte ∷ []) _ stops))
  by_told (told.size groups last front rest whole next low mark ends stops) =
      answer front ((groups ++ last ∷ []) ++ rest) BadSize whole (stops rest)
      (subst (λ b. IsFirstWrong b (length (header ++ front)) BadSize) (regrouped (header ++ front) groups last rest)
      (spec.bad_size (header ++ front) groups rest last low mark (in_body front a_size next) (begins front ends)
      (subst BeginsNone (sym (append_assoc (header ++ front) groups (last ∷ []))) (begins_none front (groups ++ last ∷ []) _ stops))))
    where
      regrouped : (front groups : List ℕ) (last : ℕ) (rest : List ℕ) → front ++ groups ++ last ∷ rest ≡ front ++ ((groups ++ last ∷ []) ++ rest)
      regrouped front groups last rest = simp append_assoc
  by_told (told.cut front groups whole next low ends stops) =
      answer front groups Short whole stops (spec.short_size (header ++ front) groups low (in_body front a_size next) (begins front ends))
  by_told (told.short n front rest whole next few ends stops) =
      answer front rest Short whole (stops rest (omega arith))
      (spec.short_bytes (header ++ front) rest n few (in_body front (some_bytes n) next) (λ others le. begins_with front others (ends others le))
      (λ others f le is. no_chunk (header ++ front ++ others) (front ++ others) _ f (append_assoc header front others) (stops others le) is))
  by_told (told.nested n front count rest whole next counted ends deep stops) =
      let all : inner ≡ front ++ count ++ rest = whole ∙ sym (append_assoc front count rest) in
      let place : header ++ (front ++ count) ≡ header ++ front ++ count = sym (append_assoc header front count) in
      answer (front ++ count) rest Nested all (ap (body_at most_levels) (append_assoc front count rest) ∙ stops rest)
      (subst (λ b. IsFirstWrong (b ++ rest) (length b) Nested) (sym place)
      (spec.too_deep (header ++ front) count rest n counted (in_body front a_size next) (begins front ends) (begins_none front count _ stops) (begins_deeper front count deep)))

pub refused_is_first : (bytes : List ℕ) (at : ℕ) (what : ChunkWhat) → AreBytes bytes → HasCause bytes (Bad at what) → IsFirstWrong bytes at what
refused_is_first bytes at what are cause = by_header (compared header bytes)
  where
    by_header : Compared header bytes → IsFirstWrong bytes at what
    by_header (same rest e) = by_told bytes rest at what cause e (body_told 200 rest (behind_are header rest (subst AreBytes e are)))
    by_header (differs front others rest byte other e d unlike) =
        let stops : (more : List ℕ) → chunk_at (front ++ byte ∷ more) ≡ wrong (byte ∷ more) BadHeader =
        λ more. header_stops (front ++ byte ∷ more) _ (ap (λ h. fixed_at h (front ++ byte ∷ more)) e ∙ fixed_differs front others more byte other unlike) in
        concluded bytes front (byte ∷ rest) at what BadHeader cause d (ap chunk_at d ∙ stops rest)
        (spec.bad_header front others rest byte other e unlike (header_begins front (other ∷ others) e)
        (λ more f is. never_both f _ (chunk_at (front ++ byte ∷ [] ++ more)) (chunk_complete (front ++ byte ∷ [] ++ more) f is) (ap chunk_at (append_assoc front (byte ∷ []) more) ∙ stops more)))
    by_header (ends_early others next e) =
        let stops : chunk_at bytes ≡ wrong [] Short = header_stops bytes _ (ap (λ h. fixed_at h bytes) e ∙ fixed_cut bytes others next) in
        let all : bytes ++ [] ≡ bytes = append-nil bytes in
        concluded bytes bytes [] at what Short cause (sym all) stops
        (spec.short_bytes bytes [] 1 (omega arith) (field.in_header bytes others next e) (only_empty (λ o. Begins (bytes ++ o)) (subst Begins (sym all) (header_begins bytes (next ∷ others) e)))
        (λ o f le is. only_empty (λ o. (f : Function) → IsChunkOf (bytes ++ o) f → ⊥)
        (λ f is. never_both f _ (chunk_at (bytes ++ [])) (chunk_complete (bytes ++ []) f is) (ap chunk_at all ∙ stops)) o le f is))
