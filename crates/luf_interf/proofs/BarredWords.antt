-- The barred names as a list.
use Rattle.std.proofs.Common.{List, [], ◌∷◌, refl, sym, subst, codes, ℕ}
use Rattle.luf_name.specs.Barred.{IsBarred, word_and, word_break, word_do, word_else, word_elseif, word_end, word_false, word_for, word_function, word_goto, word_if, word_in, word_local, word_nil, word_not, word_or, word_repeat, word_return, word_then, word_true, word_until, word_while, name_self, name_ENV}
use Rattle.luf_interf.specs.inner.Among.{Among, here, there}

abbrev pub barred_words : List (List ℕ)
barred_words = codes "and" ∷ codes "break" ∷ codes "do" ∷ codes "else" ∷ codes "elseif" ∷ codes "end" ∷ codes "false" ∷ codes "for" ∷ codes "function" ∷ codes "goto" ∷ codes "if" ∷ codes "in" ∷ codes "local" ∷ codes "nil" ∷ codes "not" ∷ codes "or" ∷ codes "repeat" ∷ codes "return" ∷ codes "then" ∷ codes "true" ∷ codes "until" ∷ codes "while" ∷ codes "self" ∷ codes "_ENV" ∷ []

pub barred_among : (name : List ℕ) → IsBarred name → Among name barred_words
barred_among name (word_and is) = subst (λ k. Among k barred_words) (sym is) (here)
barred_among name (word_break is) = subst (λ k. Among k barred_words) (sym is) (there (here))
barred_among name (word_do is) = subst (λ k. Among k barred_words) (sym is) (there (there (here)))
barred_among name (word_else is) = subst (λ k. Among k barred_words) (sym is) (there (there (there (here))))
barred_among name (word_elseif is) = subst (λ k. Among k barred_words) (sym is) (there (there (there (there (here)))))
barred_among name (word_end is) = subst (λ k. Among k barred_words) (sym is) (there (there (there (there (there (here))))))
barred_among name (word_false is) = subst (λ k. Among k barred_words) (sym is) (there (there (there (there (there (there (here)))))))
barred_among name (word_for is) = subst (λ k. Among k barred_words) (sym is) (there (there (there (there (there (there (there (here))))))))
barred_among name (word_function is) = subst (λ k. Among k barred_words) (sym is) (there (there (there (there (there (there (there (there (here)))))))))
barred_among name (word_goto is) = subst (λ k. Among k barred_words) (sym is) (there (there (there (there (there (there (there (there (there (here))))))))))
barred_among name (word_if is) = subst (λ k. Among k barred_words) (sym is) (there (there (there (there (there (there (there (there (there (there (here)))))))))))
barred_among name (word_in is) = subst (λ k. Among k barred_words) (sym is) (there (there (there (there (there (there (there (there (there (there (there (here))))))))))))
barred_among name (word_local is) = subst (λ k. Among k barred_words) (sym is) (there (there (there (there (there (there (there (there (there (there (there (there (here)))))))))))))
barred_among name (word_nil is) = subst (λ k. Among k barred_words) (sym is) (there (there (there (there (there (there (there (there (there (there (there (there (there (here))))))))))))))
barred_among name (word_not is) = subst (λ k. Among k barred_words) (sym is) (there (there (there (there (there (there (there (there (there (there (there (there (there (there (here)))))))))))))))
barred_among name (word_or is) = subst (λ k. Among k barred_words) (sym is) (there (there (there (there (there (there (there (there (there (there (there (there (there (there (there (here))))))))))))))))
barred_among name (word_repeat is) = subst (λ k. Among k barred_words) (sym is) (there (there (there (there (there (there (there (there (there (there (there (there (there (there (there (there (here)))))))))))))))))
barred_among name (word_return is) = subst (λ k. Among k barred_words) (sym is) (there (there (there (there (there (there (there (there (there (there (there (there (there (there (there (there (there (here))))))))))))))))))
barred_among name (word_then is) = subst (λ k. Among k barred_words) (sym is) (there (there (there (there (there (there (there (there (there (there (there (there (there (there (there (there (there (there (here)))))))))))))))))))
barred_among name (word_true is) = subst (λ k. Among k barred_words) (sym is) (there (there (there (there (there (there (there (there (there (there (there (there (there (there (there (there (there (there (there (here))))))))))))))))))))
barred_among name (word_until is) = subst (λ k. Among k barred_words) (sym is) (there (there (there (there (there (there (there (there (there (there (there (there (there (there (there (there (there (there (there (there (here)))))))))))))))))))))
barred_among name (word_while is) = subst (λ k. Among k barred_words) (sym is) (there (there (there (there (there (there (there (there (there (there (there (there (there (there (there (there (there (there (there (there (there (here))))))))))))))))))))))
barred_among name (name_self is) = subst (λ k. Among k barred_words) (sym is) (there (there (there (there (there (there (there (there (there (there (there (there (there (there (there (there (there (there (there (there (there (there (here)))))))))))))))))))))))
barred_among name (name_ENV is) = subst (λ k. Among k barred_words) (sym is) (there (there (there (there (there (there (there (there (there (there (there (there (there (there (there (there (there (there (there (there (there (there (there (here))))))))))))))))))))))))

pub among_barred : (name : List ℕ) → Among name barred_words → IsBarred name
among_barred name' here = word_and refl
among_barred name' (there (here)) = word_break refl
among_barred name' (there (there (here))) = word_do refl
among_barred name' (there (there (there (here)))) = word_else refl
among_barred name' (there (there (there (there (here))))) = word_elseif refl
among_barred name' (there (there (there (there (there (here)))))) = word_end refl
among_barred name' (there (there (there (there (there (there (here))))))) = word_false refl
among_barred name' (there (there (there (there (there (there (there (here)))))))) = word_for refl
among_barred name' (there (there (there (there (there (there (there (there (here))))))))) = word_function refl
among_barred name' (there (there (there (there (there (there (there (there (there (here)))))))))) = word_goto refl
among_barred name' (there (there (there (there (there (there (there (there (there (there (here))))))))))) = word_if refl
among_barred name' (there (there (there (there (there (there (there (there (there (there (there (here)))))))))))) = word_in refl
among_barred name' (there (there (there (there (there (there (there (there (there (there (there (there (here))))))))))))) = word_local refl
among_barred name' (there (there (there (there (there (there (there (there (there (there (there (there (there (here)))))))))))))) = word_nil refl
among_barred name' (there (there (there (there (there (there (there (there (there (there (there (there (there (there (here))))))))))))))) = word_not refl
among_barred name' (there (there (there (there (there (there (there (there (there (there (there (there (there (there (there (here)))))))))))))))) = word_or refl
among_barred name' (there (there (there (there (there (there (there (there (there (there (there (there (there (there (there (there (here))))))))))))))))) = word_repeat refl
among_barred name' (there (there (there (there (there (there (there (there (there (there (there (there (there (there (there (there (there (here)))))))))))))))))) = word_return refl
among_barred name' (there (there (there (there (there (there (there (there (there (there (there (there (there (there (there (there (there (there (here))))))))))))))))))) = word_then refl
among_barred name' (there (there (there (there (there (there (there (there (there (there (there (there (there (there (there (there (there (there (there (here)))))))))))))))))))) = word_true refl
among_barred name' (there (there (there (there (there (there (there (there (there (there (there (there (there (there (there (there (there (there (there (there (here))))))))))))))))))))) = word_until refl
among_barred name' (there (there (there (there (there (there (there (there (there (there (there (there (there (there (there (there (there (there (there (there (there (here)))))))))))))))))))))) = word_while refl
among_barred name' (there (there (there (there (there (there (there (there (there (there (there (there (there (there (there (there (there (there (there (there (there (there (here))))))))))))))))))))))) = name_self refl
among_barred name' (there (there (there (there (there (there (there (there (there (there (there (there (there (there (there (there (there (there (there (there (there (there (there (here)))))))))))))))))))))))) = name_ENV refl
among_barred name (there (there (there (there (there (there (there (there (there (there (there (there (there (there (there (there (there (there (there (there (there (there (there (there (m))))))))))))))))))))))))) = elim m [ ]
