-- Least names of two small programs.
use Rattle.std.proofs.Common.{◌≡◌, ℕ, zero, suc, ◌⊎◌, inl, inr, false, Some, None, List, [], ◌∷◌, get_or, slice_get, length, refl, sym, ap, subst, ◌∙◌, ⊎_elim, codes, nat_eq, arith}
use Rattle.std.specs.Prelude.{unwrap_or}
use Rattle.std.proofs.lemmas.Option.{none-some, same_Some}
use Rattle.std.proofs.lemmas.Bool.{or_cases, eqb-true, false≢true}
use Rattle.luf_name.specs.Barred.{IsBarred, word_and, word_break, word_do, word_else, word_elseif, word_end, word_false, word_for, word_function, word_goto, word_if, word_in, word_local, word_nil, word_not, word_or, word_repeat, word_return, word_then, word_true, word_until, word_while, name_self, name_ENV}
use Rattle.luf_name.specs.Order.{alphabet, rank, IsName, IsBefore}
use Rattle.luf_name.proofs.Ranks.{same_rank}
use Rattle.luf_scope.specs.declared.occurrence.Occurrence.{Occurrence}
use Rattle.luf_scope.specs.declared.occurrence.Occurrence.TheVariants.{Local, Reads, Assigns, Field, Function}
use Rattle.luf_scope.specs.Local.{Spelling, LocalVariable, is_active}
use Rattle.luf_interf.specs.Interference.{IsLocal, IsReference, Interferes, IsGlobalAt, meant}
use Rattle.luf_interf.specs.NewNames.{Naming, IsFirstFree, IsFree, AreLeast, renamed}

-- ---- the first names

rank_a : rank 97 ≡ 0
unfolding alphabet rank
rank_a = refl

rank_b : rank 98 ≡ 1
unfolding alphabet rank
rank_b = refl

name_a : IsName (codes "a")
name_a = let first = rank_a in (omega (arith, first), λ i d within. absurd (omega (arith, within)))

name_b : IsName (codes "b")
name_b = let first = rank_b in (omega (arith, first), λ i d within. absurd (omega (arith, within)))

none_before_a : (name : List ℕ) → IsName name → IsBefore name (codes "a") → ⊥
none_before_a [] is before = is
none_before_a (x ∷ rest) is (inl below) = omega (arith, below)
none_before_a (x ∷ []) is (inr (one, inl below)) = let first = rank_a in omega (arith, below, first)
none_before_a (x ∷ []) is (inr (one, inr later)) = later.1
none_before_a (x ∷ y ∷ rest) is (inr (one, lower)) = omega (arith, one)

a_before_b : (name : List ℕ) → IsName name → IsBefore name (codes "b") → codes "a" ≡ name
a_before_b [] is before = absurd is
a_before_b (x ∷ rest) is (inl below) = absurd (omega (arith, below))
a_before_b (x ∷ []) is (inr (one, inl below)) =
    let first = rank_a in let second = rank_b in
    let same : rank x ≡ rank 97 = omega (arith, below, first, second) in
    ap (λ (k : ℕ). k ∷ []) (sym (same_rank x 97 (omega (arith, same, first)) same))
a_before_b (x ∷ []) is (inr (one, inr later)) = absurd later.1
a_before_b (x ∷ y ∷ rest) is (inr (one, lower)) = absurd (omega (arith, one))

not_barred : (name : List ℕ) → length name ≡ 1 → IsBarred name → ⊥
not_barred name one (word_and is) = let long : length name ≡ 3 = ap length is in omega (arith, one, long)
not_barred name one (word_break is) = let long : length name ≡ 5 = ap length is in omega (arith, one, long)
not_barred name one (word_do is) = let long : length name ≡ 2 = ap length is in omega (arith, one, long)
not_barred name one (word_else is) = let long : length name ≡ 4 = ap length is in omega (arith, one, long)
not_barred name one (word_elseif is) = let long : length name ≡ 6 = ap length is in omega (arith, one, long)
not_barred name one (word_end is) = let long : length name ≡ 3 = ap length is in omega (arith, one, long)
not_barred name one (word_false is) = let long : length name ≡ 5 = ap length is in omega (arith, one, long)
not_barred name one (word_for is) = let long : length name ≡ 3 = ap length is in omega (arith, one, long)
not_barred name one (word_function is) = let long : length name ≡ 8 = ap length is in omega (arith, one, long)
not_barred name one (word_goto is) = let long : length name ≡ 4 = ap length is in omega (arith, one, long)
not_barred name one (word_if is) = let long : length name ≡ 2 = ap length is in omega (arith, one, long)
not_barred name one (word_in is) = let long : length name ≡ 2 = ap length is in omega (arith, one, long)
not_barred name one (word_local is) = let long : length name ≡ 5 = ap length is in omega (arith, one, long)
not_barred name one (word_nil is) = let long : length name ≡ 3 = ap length is in omega (arith, one, long)
not_barred name one (word_not is) = let long : length name ≡ 3 = ap length is in omega (arith, one, long)
not_barred name one (word_or is) = let long : length name ≡ 2 = ap length is in omega (arith, one, long)
not_barred name one (word_repeat is) = let long : length name ≡ 6 = ap length is in omega (arith, one, long)
not_barred name one (word_return is) = let long : length name ≡ 6 = ap length is in omega (arith, one, long)
not_barred name one (word_then is) = let long : length name ≡ 4 = ap length is in omega (arith, one, long)
not_barred name one (word_true is) = let long : length name ≡ 4 = ap length is in omega (arith, one, long)
not_barred name one (word_until is) = let long : length name ≡ 5 = ap length is in omega (arith, one, long)
not_barred name one (word_while is) = let long : length name ≡ 5 = ap length is in omega (arith, one, long)
not_barred name one (name_self is) = let long : length name ≡ 4 = ap length is in omega (arith, one, long)
not_barred name one (name_ENV is) = let long : length name ≡ 4 = ap length is in omega (arith, one, long)

abbrev spelled_by : List (List ℕ) → Spelling
spelled_by words n = unwrap_or (slice_get words n) []

-- ---- local a, b = 1, 2 print(b): the second has no reference where the first is referred to, so both are named `a`

abbrev pair_words : Spelling
pair_words = spelled_by (codes "local" ∷ codes "a" ∷ codes "," ∷ codes "b" ∷ codes "=" ∷ codes "1" ∷ codes "," ∷ codes "2" ∷ codes "print" ∷ codes "(" ∷ codes "b" ∷ codes ")" ∷ [])

abbrev pair_says : List Occurrence
pair_says = Local 1 None 8 12 ∷ Local 3 None 8 12 ∷ Reads 8 ∷ Reads 10 ∷ []

abbrev named_a : Naming
named_a n = codes "a"

pair_references : (t : ℕ) → IsReference pair_words pair_says t → (t ≡ 8) ⊎ (t ≡ 10)
pair_references t is = ⊎_elim (λ one. inl (eqb-true t 8 one)) (λ rest. ⊎_elim (λ two. inr (eqb-true t 10 two)) (λ none. absurd (false≢true none)) (or_cases (nat_eq t 10) false rest)) (or_cases (nat_eq t 8) _ is)

pair_no_global : (v : LocalVariable) → IsGlobalAt pair_words pair_says v (codes "a") → ⊥
pair_no_global v g = ⊎_elim
    (λ at. let is : codes "print" ≡ codes "a" = ap pair_words (sym at) ∙ g.spelling in let long : 5 ≡ 1 = ap length is in omega (arith, long))
    (λ at. let is : Some 1 ≡ None = ap (meant pair_words pair_says) (sym at) ∙ g.free in none-some 1 (sym is))
    (pair_references g.token g.reference)

pair_apart : (v : LocalVariable) → Interferes pair_words pair_says 0 v → ⊥
pair_apart v i = ⊎_elim
    (λ at. let is : None ≡ Some 0 = ap (meant pair_words pair_says) (sym at) ∙ i.means in none-some 0 is)
    (λ at. let is : Some 1 ≡ Some 0 = ap (meant pair_words pair_says) (sym at) ∙ i.means in let same : 1 ≡ 0 = same_Some 1 0 is in omega (arith, same))
    (pair_references i.token i.reference)

pair_local : (n : ℕ) (v : LocalVariable) → IsLocal pair_words pair_says n v → IsFirstFree (IsFree pair_words pair_says named_a n v) (codes "a")
pair_local zero v is = record {
  is_name = name_a;
  free = record { allowed = not_barred (codes "a") refl; no_global = pair_no_global v; no_earlier = λ m u below there renames meets same. omega (arith, below) };
  first = λ other its before free. none_before_a other its before;
}
pair_local (suc zero) v is = record {
  is_name = name_a;
  free = record {
    allowed = not_barred (codes "a") refl;
    no_global = pair_no_global v;
    no_earlier = λ m u below there renames meets same. let first : m ≡ 0 = omega (arith, below) in pair_apart v (subst (λ k. Interferes pair_words pair_says k v) first meets);
  };
  first = λ other its before free. none_before_a other its before;
}
pair_local (suc (suc n)) v is = absurd (none-some v is)

pair_row : AreLeast pair_words pair_says named_a named_a
pair_row = record { locals = λ n v is renames. pair_local n v is; labels = λ n l is. absurd (none-some l is) }

-- ---- local t = {} function g() return a + t.x end: `a` is free where the local variable is active, so it is named `b`

abbrev global_words : Spelling
global_words = spelled_by (codes "local" ∷ codes "t" ∷ codes "=" ∷ codes "{" ∷ codes "}" ∷ codes "function" ∷ codes "g" ∷ codes "(" ∷ codes ")" ∷ codes "return" ∷ codes "a" ∷ codes "+" ∷ codes "t" ∷ codes "." ∷ codes "x" ∷ codes "end" ∷ [])

abbrev global_says : List Occurrence
global_says = Local 1 None 5 16 ∷ Assigns 6 ∷ Function 7 16 false ∷ Reads 10 ∷ Reads 12 ∷ Field 14 ∷ []

abbrev named_b : Naming
named_b n = codes "b"

global_references : (t : ℕ) → IsReference global_words global_says t → (t ≡ 6) ⊎ ((t ≡ 10) ⊎ (t ≡ 12))
global_references t is = ⊎_elim (λ one. inl (eqb-true t 6 one))
    (λ rest. ⊎_elim (λ two. inr (inl (eqb-true t 10 two))) (λ last. ⊎_elim (λ three. inr (inr (eqb-true t 12 three))) (λ none. absurd (false≢true none)) (or_cases (nat_eq t 12) _ last)) (or_cases (nat_eq t 10) _ rest))
    (or_cases (nat_eq t 6) _ is)

global_no_global : (v : LocalVariable) → IsGlobalAt global_words global_says v (codes "b") → ⊥
global_no_global v g = ⊎_elim
    (λ at. let is : codes "g" ≡ codes "b" = ap global_words (sym at) ∙ g.spelling in let first : 103 ≡ 98 = ap (λ (k : List ℕ). get_or k 0 0) is in omega (arith, first))
    (λ rest. ⊎_elim (λ at. let is : codes "a" ≡ codes "b" = ap global_words (sym at) ∙ g.spelling in let first : 97 ≡ 98 = ap (λ (k : List ℕ). get_or k 0 0) is in omega (arith, first))
    (λ at. let is : Some 0 ≡ None = ap (meant global_words global_says) (sym at) ∙ g.free in none-some 0 (sym is)) rest)
    (global_references g.token g.reference)

global_local : (n : ℕ) (v : LocalVariable) → IsLocal global_words global_says n v → IsFirstFree (IsFree global_words global_says named_b n v) (codes "b")
global_local zero v is = record {
  is_name = name_b;
  free = record { allowed = not_barred (codes "b") refl; no_global = global_no_global v; no_earlier = λ m u below there renames meets same. omega (arith, below) };
  first = λ other its before free.
      free.no_global (record { token = 10; reference = refl; free = refl; active = ap (is_active 10) (sym (same_Some _ v is)); spelling = a_before_b other its before });
}
global_local (suc n) v is = absurd (none-some v is)

global_row : AreLeast global_words global_says named_b named_b
global_row = record { locals = λ n v is renames. global_local n v is; labels = λ n l is. absurd (none-some l is) }

-- how the name is spelled, where it is declared and where it is used
global_respelled : renamed global_words global_says named_b named_b 12 ≡ codes "b"
global_respelled = refl

global_kept : renamed global_words global_says named_b named_b 10 ≡ codes "a"
global_kept = refl
