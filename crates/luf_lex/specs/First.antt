-- The first piece of a text, and why a text has none.
use Rattle.std.specs.Prelude.{◌≡◌, ◌≢◌, ℕ, ◌+◌, ◌<◌, ◌≤◌, Bool, true, false, ◌==◌, ◌&&◌, ◌||◌, List, [], ◌∷◌, ◌++◌, length, take, drop, codes, if◌then◌else◌, IsTrue}
use Rattle.std.specs.Str.{byte}
use Rattle.luf_byte.specs.Class.{is_digit, is_hex_digit, is_letter}
use Rattle.luf_num.specs.Numeral.{is_decimal_mark, is_binary_mark, HasNumeralForm}
use Rattle.luf_str.specs.Bytes.{is_quote}
use Rattle.luf_str.specs.ShortEnd.{IsShortEnd}
use Rattle.luf_str.specs.declared.ends.ShortEnd.TheVariants as end
use Rattle.luf_byte.specs.Front.{begins}
use Rattle.luf_lex.specs.Spelling.{Spells, IsLongComment}
use Rattle.luf_str.specs.LongEnd.{opens_long, IsOpenLong}
use Rattle.luf_lex.specs.declared.group.Group.{Group}
use Rattle.luf_lex.specs.declared.group.Group.TheVariants.{Quoted, Bracketed, Commented, Numeric, Other}
use Rattle.luf_lex.specs.declared.fault.LexWhat.{LexWhat}
use Rattle.luf_lex.specs.declared.fault.LexWhat.TheVariants.{NoToken, BadNumeral, BadEscape, OpenString, OpenLong}
use Rattle.luf_lex.specs.declared.token.Tok.TheVariants.{Name, Number, Short, Long, Word, Sign}
use Rattle.luf_lex.specs.declared.token.Kind.{Kind}
use Rattle.luf_lex.specs.declared.token.Kind.TheVariants.{Token, Comment, Blank, LineEnd}

-- two dashes
abbrev pub begins_comment : List ℕ → Bool
begins_comment text = begins (λ b. b == byte "-") text && begins (λ b. b == byte "-") (drop 1 text)

-- a digit, or a point and a digit
abbrev pub begins_numeral : List ℕ → Bool
begins_numeral text = begins is_digit text || (begins (λ b. b == byte ".") text && begins is_digit (drop 1 text))

-- What is tried at a place. Where a short string, a long bracket, a comment or a numeral begins, nothing else is.
abbrev pub group_of : List ℕ → Group
group_of text =
    if begins is_quote text then Quoted
    else if opens_long text then Bracketed
    else if begins_comment text then Commented
    else if begins_numeral text then Numeric
    else Other

-- the kinds that are tried. A mark and a `#` line stand only at the start of a source.
abbrev pub is_tried : Group → Kind → Bool
is_tried Quoted (Token Short) = true
is_tried Bracketed (Token Long) = true
is_tried Commented Comment = true
is_tried Numeric (Token Number) = true
is_tried Other (Token Name) = true
is_tried Other (Token (Word w)) = true
is_tried Other (Token (Sign s)) = true
is_tried Other Blank = true
is_tried Other LineEnd = true
is_tried _ _ = false

-- How many bytes a numeral goes on for, after the Lua 5.4 scanner: hexadecimal digits, points, and marks of an
-- exponent, each with a sign where one follows; and then one letter or `_`, with which it has no numeral form.
abbrev pub numeral_tail : (ℕ → Bool) → List ℕ → ℕ
numeral_tail mark [] = 0
numeral_tail mark (b ∷ []) = if is_hex_digit b || (b == byte "." || is_letter b) then 1 else 0
numeral_tail mark (b ∷ c ∷ rest) =
    if mark b && (c == byte "+" || c == byte "-") then 2 + numeral_tail mark rest
    else if mark b || (is_hex_digit b || b == byte ".") then 1 + numeral_tail mark (c ∷ rest)
    else if is_letter b then 1 else 0

-- whether a text begins with `0x` or `0X`
abbrev pub begins_hexadecimal : List ℕ → Bool
begins_hexadecimal text = begins (λ b. b == byte "0") text && begins (λ b. b == byte "x" || b == byte "X") (drop 1 text)

-- how many bytes the numeral has that a text begins with
abbrev pub numeral_length : List ℕ → ℕ
numeral_length text =
    if begins_hexadecimal text then 2 + numeral_tail is_binary_mark (drop 2 text)
    else 1 + numeral_tail is_decimal_mark (drop 1 text)

-- The first n bytes of a text are its first piece: they spell this kind, which is tried there, and no longer front of
-- the text spells any that is. But a numeral is as long as the scan goes, and a comment is a long one where a long
-- bracket directly follows its dashes.
pub record IsFirst (text : List ℕ) (kind : Kind) (n : ℕ) : Type 0 where
  pub some : 0 < n
  pub within : n ≤ length text
  pub tried : IsTrue (is_tried (group_of text) kind)
  pub spelled : Spells kind (take n text)
  pub longest : group_of text ≢ Numeric → (other : Kind) (m : ℕ) → IsTrue (is_tried (group_of text) other) → n < m → m ≤ length text → Spells other (take m text) → ⊥
  pub numeral : group_of text ≡ Numeric → n ≡ numeral_length text
  pub long : group_of text ≡ Commented → IsTrue (opens_long (drop 2 text)) → IsLongComment (take n text)

-- no piece begins the text
abbrev pub HasNone : List ℕ → Type 0
HasNone text = (kind : Kind) (n : ℕ) → IsFirst text kind n → ⊥

-- Why a text has no first piece.
pub data IsFault : List ℕ → LexWhat → Type 0 where
  -- the first byte begins no piece
  no_token : (text : List ℕ) → group_of text ≡ Other → HasNone text → IsFault text NoToken
  -- what was scanned has not the form of a numeral
  bad_numeral : (text : List ℕ) → group_of text ≡ Numeric → (HasNumeralForm (take (numeral_length text) text) → ⊥) → IsFault text BadNumeral
  -- the string in quotes has a bad escape before its end
  bad_escape : (text : List ℕ) (at : ℕ) → IsShortEnd text (end.Bad at) → IsFault text BadEscape
  -- it stays open
  open_string : (text : List ℕ) → IsShortEnd text end.Open → IsFault text OpenString
  open_long : (text : List ℕ) → IsOpenLong text → IsFault text OpenLong
  open_comment : (rest : List ℕ) → IsOpenLong rest → IsFault (codes "--" ++ rest) OpenLong
