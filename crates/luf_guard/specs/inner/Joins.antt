-- What a token would go on over, as functions; the laws in proofs/ tie them to the cut.
use Rattle.std.specs.Prelude.{ℕ, Bool, false, ◌||◌, ◌&&◌, ◌==◌, List, [], ◌∷◌, if◌then◌else◌}
use Rattle.std.specs.Str.{byte}
use Rattle.luf_byte.specs.Class.{is_digit, is_letter, is_word_byte}
use Rattle.luf_byte.specs.Front.{begins}
use Rattle.luf_lex.specs.First.{begins_numeral}
use Rattle.luf_lex.specs.declared.token.Tok.{Tok}
use Rattle.luf_lex.specs.declared.token.Tok.TheVariants.{Name, Number, Word, Sign}
use Rattle.luf_lex.specs.declared.token.Sign.{Sign as Mark}
use Rattle.luf_lex.specs.declared.token.Sign.TheVariants.{Minus, Slash, Tilde, Less, Greater, Assign, LeftBracket, Colon, Dot, DotDot}

-- a letter, a digit, `_` or a point
abbrev pub goes_word : ℕ → Bool
goes_word c = is_word_byte c || c == byte "."

-- with which next byte a sign begins something longer
abbrev pub sign_goes_on : Mark → ℕ → Bool
sign_goes_on Minus c = c == byte "-"
sign_goes_on Slash c = c == byte "/"
sign_goes_on Tilde c = c == byte "="
sign_goes_on Less c = c == byte "<" || c == byte "="
sign_goes_on Greater c = c == byte ">" || c == byte "="
sign_goes_on Assign c = c == byte "="
sign_goes_on LeftBracket c = c == byte "["
sign_goes_on Colon c = c == byte ":"
sign_goes_on Dot c = c == byte "." || is_digit c
sign_goes_on DotDot c = c == byte "."
sign_goes_on _ c = false

-- with which next byte a token begins something longer
abbrev pub goes_on : Tok → ℕ → Bool
goes_on Name c = is_word_byte c
goes_on (Word w) c = is_word_byte c
goes_on Number c = goes_word c
goes_on (Sign s) c = sign_goes_on s c
goes_on _ c = false

-- the same for a sign by its bytes
abbrev pub sign_joins : List ℕ → ℕ → Bool
sign_joins (a ∷ []) c =
    if a == byte "-" then c == byte "-"
    else if a == byte "/" then c == byte "/"
    else if a == byte "~" then c == byte "="
    else if a == byte "<" then c == byte "<" || c == byte "="
    else if a == byte ">" then c == byte ">" || c == byte "="
    else if a == byte "=" then c == byte "="
    else if a == byte "[" then c == byte "["
    else if a == byte ":" then c == byte ":"
    else if a == byte "." then c == byte "." || is_digit c
    else false
sign_joins (a ∷ b ∷ []) c = a == byte "." && (b == byte "." && c == byte ".")
sign_joins _ c = false

-- and for a token by its bytes
abbrev pub joins : List ℕ → ℕ → Bool
joins a c =
    if begins_numeral a then goes_word c
    else if begins is_letter a then is_word_byte c
    else sign_joins a c

-- whether a space is needed
abbrev pub is_needed : List ℕ → List ℕ → Bool
is_needed a b = begins (joins a) b
