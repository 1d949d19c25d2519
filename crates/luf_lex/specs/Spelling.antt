-- How a piece of each kind may be spelled: a test of a whole piece (Lua 5.4 manual, 3.1).
use Rattle.std.specs.Prelude.{◌≡◌, ℕ, ◌⊎◌, Bool, ◌==◌, List, [], ◌∷◌, ◌++◌, codes, IsTrue, IsFalse}
use Rattle.std.specs.List.{list_all}
use Rattle.std.specs.Str.{byte}
use Rattle.luf_num.specs.Numeral.{HasNumeralForm}
use Rattle.luf_str.specs.Spelling.{IsLongSpelling}
use Rattle.luf_str.specs.LongEnd.{opens_long}
use Rattle.luf_str.specs.Value.{IsShortValue}
use Rattle.luf_byte.specs.Class.{is_letter, is_word_byte, is_blank, in_line}
use Rattle.luf_byte.specs.Front.{begins}
use Rattle.luf_byte.specs.LineEnd.{IsLineEnd}
use Rattle.luf_lex.specs.Word.{word_spelling}
use Rattle.luf_lex.specs.Sign.{sign_spelling}
use Rattle.luf_lex.specs.declared.token.Word.{Word as Keyword}
use Rattle.luf_lex.specs.declared.token.Tok.TheVariants.{Name, Number, Short, Long, Word, Sign}
use Rattle.luf_lex.specs.declared.token.Kind.{Kind}
use Rattle.luf_lex.specs.declared.token.Kind.TheVariants.{Token, Comment, Blank, LineEnd, HashLine, Mark}

-- letters and digits that begin with a letter, and are no keyword
pub record IsName (text : List ℕ) : Type 0 where
  pub first : IsTrue (begins is_letter text)
  pub each : IsTrue (list_all is_word_byte text)
  pub no_keyword : (w : Keyword) → word_spelling w ≡ text → ⊥

-- a string in quotes, in which each backslash begins an escape
abbrev pub IsShortString : List ℕ → Type 0
IsShortString text = (value : List ℕ) × IsShortValue text value

-- one or more bytes, each of which passes the test
pub record IsRun (test : ℕ → Bool) (text : List ℕ) : Type 0 where
  pub first : IsTrue (begins test text)
  pub each : IsTrue (list_all test text)

-- `--` and then no long bracket, and no line end
pub record IsShortComment (text : List ℕ) : Type 0 where
  pub rest : List ℕ
  pub spelled : text ≡ codes "--" ++ rest
  pub plain : IsFalse (opens_long rest)
  pub each : IsTrue (list_all in_line rest)

-- `--` directly followed by a long bracket, up to the bracket that closes it
pub record IsLongComment (text : List ℕ) : Type 0 where
  pub rest : List ℕ
  pub spelled : text ≡ codes "--" ++ rest
  pub long : IsLongSpelling rest

-- `#`, and then no line end
pub record IsHashLine (text : List ℕ) : Type 0 where
  pub first : IsTrue (begins (λ b. b == byte "#") text)
  pub each : IsTrue (list_all in_line text)

-- the byte order mark of UTF-8
abbrev pub byte_order_mark : List ℕ
byte_order_mark = 0xEF ∷ 0xBB ∷ 0xBF ∷ []

-- the spellings of each kind
abbrev pub Spells : Kind → List ℕ → Type 0
Spells (Token Name) text = IsName text
Spells (Token Number) text = HasNumeralForm text
Spells (Token Short) text = IsShortString text
Spells (Token Long) text = IsLongSpelling text
Spells (Token (Word w)) text = word_spelling w ≡ text
Spells (Token (Sign s)) text = sign_spelling s ≡ text
Spells Comment text = IsShortComment text ⊎ IsLongComment text
Spells Blank text = IsRun is_blank text
Spells LineEnd text = IsLineEnd text
Spells HashLine text = IsHashLine text
Spells Mark text = text ≡ byte_order_mark
