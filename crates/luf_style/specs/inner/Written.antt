-- How the tokens of a source are written, one by one; and what the texts of a document are.
use Rattle.std.specs.Prelude.{◌≡◌, ℕ, ◌==◌, ◌≤◌, ◌<◌, ◌+◌, Some, List, [], ◌∷◌, length, slice_get, get_or, count_by}
use Rattle.std.specs.Str.{byte}
use Rattle.luf_str.specs.Requote.{IsRequoted, inside, quote_byte}
use Rattle.luf_quote.specs.Chosen.{chosen}
use Rattle.luf_quote.specs.declared.quotes.QuoteStyle.{QuoteStyle}
use Rattle.luf_lex.specs.declared.token.Tok.{Tok}
use Rattle.luf_lex.specs.declared.token.Tok.TheVariants.{Short}
use Rattle.luf_guard.specs.Space.{IsTokenSpelling}

-- the quotes that a style wants for a short string that is spelled so
abbrev pub quote_in : QuoteStyle → List ℕ → ℕ
quote_in style spelling = quote_byte (chosen style (record { single = count_by (λ b. b == byte "'") (inside spelling); double = count_by (λ b. b == byte "\"") (inside spelling) }))

-- one token, how it is spelled, and how it is written
pub data IsWritten (quote : List ℕ → ℕ) : Tok → List ℕ → List ℕ → Type 0 where
  requoted : {spelling written : List ℕ} → IsRequoted spelling (quote spelling) written → IsWritten quote Short spelling written
  kept : {t : Tok} {spelling : List ℕ} → (t ≡ Short → ⊥) → IsWritten quote t spelling spelling

-- ---- what is made anew

-- the text that was made for a token, or how it is spelled if none was
abbrev pub or_spelled : List ℕ → List ℕ → List ℕ
or_spelled [] spelling = spelling
or_spelled (b ∷ text) spelling = b ∷ text

-- the tokens that are spelled so, where these were made for the first of them
abbrev pub over : List (List ℕ) → List (List ℕ) → List (List ℕ)
over [] spellings = spellings
over (text ∷ made) [] = text ∷ made
over (text ∷ made) (spelling ∷ spellings) = or_spelled text spelling ∷ over made spellings

-- What was made for the tokens before token n, and then for that one too.
pub record IsMade (quote : List ℕ → ℕ) (toks : List Tok) (spellings : List (List ℕ)) (n : ℕ) (before behind : List (List ℕ)) : Type 0 where
  pub few : length behind ≤ n + 1
  pub same : (i : ℕ) → i < n → get_or behind i [] ≡ get_or before i []
  pub is : (t : Tok) (spelling : List ℕ) → slice_get toks n ≡ Some t → slice_get spellings n ≡ Some spelling → IsWritten quote t spelling (or_spelled (get_or behind n []) spelling)

-- ---- texts

-- a text of a document: a token, or none yet
pub data IsText : List ℕ → Type 0 where
  none : IsText []
  spelled : {text : List ℕ} → IsTokenSpelling text → IsText text

-- all of these are
pub record AreTexts (texts : List (List ℕ)) : Type 0 where
  pub each : (n : ℕ) → IsText (get_or texts n [])
