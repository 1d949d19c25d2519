-- The number of a name, letter by letter.
use Rattle.std.proofs.Common.{◌≡◌, ℕ, ◌+◌, ◌*◌, ◌<◌, ◌≤◌, List, length, get_or, take, drop, sym, ap, ◌∙◌, add-one, drop-cons, arith}
use Rattle.std.specs.List.{All}
use Rattle.std.proofs.lemmas.List.{take_all, drop_all}
use Rattle.std.proofs.lemmas.List.Elements.{All-more}
use Rattle.luf_name.specs.Order.{rank, IsLetter, number_from}
use Rattle.luf_name.proofs.Rising.{number_grows}

module _ (xs : List ℕ) (i : ℕ) (inside : i < length xs) where
  -- the next letter of what is left
  pub next_letter : (n : ℕ) → number_from n (drop i xs) ≡ number_from (n * 63 + 53 + rank (get_or xs i 0)) (drop (i + 1) xs)
  next_letter n = ap (number_from n) (drop-cons xs i 0 inside) ∙ ap (λ k. number_from (n * 63 + 53 + rank (get_or xs i 0)) (drop k xs)) (sym (add-one i))

  pub letter_counted : (n m whole : ℕ) → n * 63 + 53 + rank (get_or xs i 0) ≡ m → number_from n (drop i xs) ≡ whole → number_from m (drop (i + 1) xs) ≡ whole
  letter_counted n m whole is so_far = ap (λ k. number_from k (drop (i + 1) xs)) (sym is) ∙ sym (next_letter n) ∙ so_far

  -- the number is no less with all letters than with this one
  pub letter_grows : (n whole : ℕ) → number_from n (drop i xs) ≡ whole → n * 63 + 53 + rank (get_or xs i 0) ≤ whole
  letter_grows n whole so_far =
      let grown = number_grows (n * 63 + 53 + rank (get_or xs i 0)) (drop (i + 1) xs) in
      let same : number_from (n * 63 + 53 + rank (get_or xs i 0)) (drop (i + 1) xs) ≡ whole = sym (next_letter n) ∙ so_far in
      omega (arith, grown, same)

  pub letters_more : All IsLetter (take i xs) → IsLetter (get_or xs i 0) → All IsLetter (take (i + 1) xs)
  letters_more letters one = All-more IsLetter xs i 0 inside letters one

pub all_counted : (xs : List ℕ) (i n whole : ℕ) → length xs ≤ i → number_from n (drop i xs) ≡ whole → whole ≡ n
all_counted xs i n whole behind so_far = sym so_far ∙ ap (number_from n) (drop_all i xs behind)

pub all_letters : (xs : List ℕ) (i : ℕ) → length xs ≤ i → All IsLetter (take i xs) → All IsLetter xs
all_letters xs i behind letters = rw (← take_all i xs behind) letters
