-- The numbers of barred names, word by word, and in the end of all.
use Rattle.std.proofs.Common.{◌≡◌, ℕ, ◌<◌, inl, inr, List, [], ◌∷◌, get_or, set, replicate, sym, ap, subst, ◌∙◌, ⊎_elim, arith, get_or-set_same, get_or-set_other}
use Rattle.std.proofs.lemmas.Bool.{cases_eq}
use Rattle.std.proofs.lemmas.List.{get_or-replicate, length-replicate, length-set}
use Rattle.luf_name.specs.Order.{IsNth}
use Rattle.luf_interf.specs.inner.Barring.{IsNumbered, AreBarredBy}
use Rattle.luf_interf.specs.inner.Uses.{nowhere, AreBarred}
use Rattle.luf_interf.specs.inner.Among.{Among, here, there}
use Rattle.luf_interf.proofs.BarredWords.{barred_words, barred_among, among_barred}

-- no word yet
pub barred_by_none : (size : ℕ) (heads : List ℕ) → heads ≡ replicate size nowhere → AreBarredBy [] size heads
barred_by_none size heads is = subst (AreBarredBy [] size) (sym is) (record {
  count = length-replicate size nowhere;
  told = λ k below. inr ((λ n. elim n.among [ ]), get_or-replicate size k nowhere 0 below);
})

-- a word whose number, if it has one, is none of these
pub word_without : (words : List (List ℕ)) (size : ℕ) (heads after : List ℕ) (word : List ℕ) → AreBarredBy words size heads → ((k : ℕ) → k < size → IsNth word k → ⊥) → after ≡ heads → AreBarredBy (word ∷ words) size after
word_without words size heads after word are apart is = subst (AreBarredBy (word ∷ words) size) (sym is) (record {
  count = are.count;
  told = λ k below. ⊎_elim
      (λ found. inl (record { name = found.0.name; is = found.0.is; among = there found.0.among }, found.1))
      (λ none. inr ((λ n. by k n.name n.is n.among below none.0), none.1))
      (are.told k below);
})
  where
    by : (k : ℕ) (name : List ℕ) → IsNth name k → Among name (word ∷ words) → k < size → (IsNumbered words k → ⊥) → ⊥
    by k name nth here below none = apart k below nth
    by k name nth (there m) below none = none (record { name = name; is = nth; among = m })

-- a word and its number
pub word_with : (words : List (List ℕ)) (size n : ℕ) (heads after : List ℕ) (word : List ℕ) → AreBarredBy words size heads → n < size → IsNth word n → after ≡ set heads n 0 → AreBarredBy (word ∷ words) size after
word_with words size n heads after word are below nth is = subst (AreBarredBy (word ∷ words) size) (sym is) (record {
  count = length-set heads n 0 ∙ are.count;
  told = λ k within. ⊎_elim
      (λ same. inl (record { name = word; is = (nth.0, nth.1 ∙ sym same); among = here }, ap (λ m. get_or (set heads n 0) m 0) same ∙ get_or-set_same heads n 0 0 (let count = are.count in omega (arith, count, below))))
      (λ other. ⊎_elim
      (λ found. inl (record { name = found.0.name; is = found.0.is; among = there found.0.among }, get_or-set_other heads n k 0 0 other ∙ found.1))
      (λ none. inr ((λ m. by k m.name m.is m.among other none.0), get_or-set_other heads n k 0 0 other ∙ none.1))
      (are.told k within))
      (cases_eq k n);
})
  where
    by : (k : ℕ) (name : List ℕ) → IsNth name k → Among name (word ∷ words) → (k ≡ n → ⊥) → (IsNumbered words k → ⊥) → ⊥
    by k name one here other none = other (sym one.1 ∙ nth.1)
    by k name one (there m) other none = none (record { name = name; is = one; among = m })

-- all words
pub barred_by_all : (size : ℕ) (heads : List ℕ) → AreBarredBy barred_words size heads → AreBarred size heads
barred_by_all size heads are = record {
  count = are.count;
  told = λ k below. ⊎_elim
      (λ found. inl (record { name = found.0.name; is = found.0.is; barred = among_barred found.0.name found.0.among }, found.1))
      (λ none. inr ((λ b. none.0 (record { name = b.name; is = b.is; among = barred_among b.name b.barred })), none.1))
      (are.told k below);
}
