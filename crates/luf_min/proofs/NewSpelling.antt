-- A name of the order that is not barred is spelled as a name.
use Rattle.std.proofs.Common.{◌≡◌, ℕ, zero, suc, ◌<◌, Bool, true, List, [], ◌∷◌, All, length, take, get_or, refl, sym, ap, ◌∙◌, arith}
use Rattle.std.specs.List.{list_all}
use Rattle.std.proofs.lemmas.Bool.{and_parts, and_from}
use Rattle.std.proofs.lemmas.List.{get_or-take}
use Rattle.std.proofs.lemmas.List.Elements.{All-head, All-tail}
use Rattle.luf_byte.specs.Class.{is_letter, is_word_byte}
use Rattle.luf_lex.specs.Spelling.{IsName as IsNameSpelling}
use Rattle.luf_lex.specs.Word.{word_spelling}
use Rattle.luf_lex.specs.declared.token.Word.{Word}
use Rattle.luf_lex.specs.declared.token.Word.TheVariants.{And, Break, Do, Else, ElseIf, End, False, For, Function, Goto, If, In, Local, Nil, Not, Or, Repeat, Return, Then, True, Until, While}
use Rattle.luf_name.specs.Barred.{IsBarred, word_and, word_break, word_do, word_else, word_elseif, word_end, word_false, word_for, word_function, word_goto, word_if, word_in, word_local, word_nil, word_not, word_or, word_repeat, word_return, word_then, word_true, word_until, word_while}
use Rattle.luf_name.specs.Order.{alphabet, rank, IsLetter, IsName}
use Rattle.luf_name.proofs.Ranks.{letter_at_rank}

-- what passes for all members passes for one
passes_at : (p : ℕ → Bool) (xs : List ℕ) (k : ℕ) → list_all p xs ≡ true → k < length xs → p (get_or xs k 0) ≡ true
passes_at p [] k all within = absurd (omega (arith, within))
passes_at p (x ∷ xs) zero all within = (and_parts (p x) (list_all p xs) all).0
passes_at p (x ∷ xs) (suc k) all within = passes_at p xs k (and_parts (p x) (list_all p xs) all).1 (omega (arith, within))

letter_passes : (k : ℕ) → k < 53 → is_letter (get_or alphabet k 0) ≡ true
unfolding alphabet
letter_passes k within = ap is_letter (sym (get_or-take 53 alphabet k 0 within)) ∙ passes_at is_letter (take 53 alphabet) k refl within

byte_passes : (k : ℕ) → k < 63 → is_word_byte (get_or alphabet k 0) ≡ true
unfolding alphabet
byte_passes k within = passes_at is_word_byte alphabet k refl within

first_letter : (a : ℕ) → rank a < 53 → is_letter a ≡ true
first_letter a low = ap is_letter (sym (letter_at_rank a (omega (arith, low)))) ∙ letter_passes (rank a) low

word_byte : (a : ℕ) → IsLetter a → is_word_byte a ≡ true
word_byte a letter = ap is_word_byte (sym (letter_at_rank a letter)) ∙ byte_passes (rank a) letter

word_bytes : (name : List ℕ) → All IsLetter name → list_all is_word_byte name ≡ true
word_bytes [] all = refl
word_bytes (a ∷ name) all = and_from (is_word_byte a) (list_all is_word_byte name) (word_byte a (All-head IsLetter a name all)) (word_bytes name (All-tail IsLetter a name all))

barred : (w : Word) (name : List ℕ) → word_spelling w ≡ name → IsBarred name
barred And name is = word_and (sym is)
barred Break name is = word_break (sym is)
barred Do name is = word_do (sym is)
barred Else name is = word_else (sym is)
barred ElseIf name is = word_elseif (sym is)
barred End name is = word_end (sym is)
barred False name is = word_false (sym is)
barred For name is = word_for (sym is)
barred Function name is = word_function (sym is)
barred Goto name is = word_goto (sym is)
barred If name is = word_if (sym is)
barred In name is = word_in (sym is)
barred Local name is = word_local (sym is)
barred Nil name is = word_nil (sym is)
barred Not name is = word_not (sym is)
barred Or name is = word_or (sym is)
barred Repeat name is = word_repeat (sym is)
barred Return name is = word_return (sym is)
barred Then name is = word_then (sym is)
barred True name is = word_true (sym is)
barred Until name is = word_until (sym is)
barred While name is = word_while (sym is)

pub name_spelling : (name : List ℕ) → IsName name → (IsBarred name → ⊥) → IsNameSpelling name
name_spelling [] is allowed = absurd is
name_spelling (a ∷ name) is allowed = record {
  first = first_letter a is.0;
  each = and_from (is_word_byte a) (list_all is_word_byte name) (word_byte a (omega (arith, is.0))) (word_bytes name is.1);
  no_keyword = λ w spelled. allowed (barred w (a ∷ name) spelled);
}
