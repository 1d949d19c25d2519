-- What one more word adds to a text: what the loop that writes the words goes by, and `IsJoined` is what it comes to.
use Rattle.std.specs.Prelude.{◌≡◌, ◌≤◌, ℕ, Bool, true, false, Option, Some, None, List, ◌++◌, codes, length, drop}
use Rattle.luf_guard.specs.Space.{StandApart, NeedSpace, IsTokenSpelling}

-- what one more spelling adds behind the one before, if there is one
pub data IsNext : Option (List ℕ) → List ℕ → List ℕ → Type 0 where
  first : {b : List ℕ} → IsNext None b b
  next_apart : {a b : List ℕ} → StandApart a b → IsNext (Some a) b b
  next_spaced : {a b : List ℕ} → NeedSpace a b → IsNext (Some a) b (codes " " ++ b)

-- a word, behind a space or not
abbrev pub spaced : Bool → List ℕ → List ℕ
spaced true word = codes " " ++ word
spaced false word = word

-- the last word of a text, which begins there, if there is one
abbrev pub last_word : Option ℕ → List ℕ → Option (List ℕ)
last_word None text = None
last_word (Some from) text = Some (drop from text)

-- a word was added, and begins there
pub record IsWritten (before : Option (List ℕ)) (word old new : List ℕ) (from : ℕ) : Type 0 where
  pub more : List ℕ
  pub next : IsNext before word more
  pub written : new ≡ old ++ more
  pub inside : from ≤ length new
  pub last : drop from new ≡ word
  pub token : IsTokenSpelling word
