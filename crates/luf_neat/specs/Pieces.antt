-- A text that is pieces: each is spelled as its kind is, and the first byte of the next one does not lengthen it. Rules of our
-- own, over the lexis of Lua 5.4 (3.1).
use Rattle.std.specs.Prelude.{◌≡◌, ℕ, ◌+◌, Bool, true, false, not, ◌==◌, ◌||◌, ◌&&◌, List, [], ◌∷◌, ◌++◌, length, drop}
use Rattle.luf_byte.specs.Class.{is_blank, in_line}
use Rattle.luf_byte.specs.Front.{begins}
use Rattle.luf_str.specs.LongEnd.{opens_long}
use Rattle.luf_guard.specs.inner.Joins.{goes_on}
use Rattle.luf_lex.specs.Spelling.{Spells}
use Rattle.luf_lex.specs.declared.token.Tok.{Tok}
use Rattle.luf_lex.specs.declared.token.Tok.TheVariants.{Sign}
use Rattle.luf_lex.specs.declared.token.Sign.TheVariants.{LeftBracket, Hash}
use Rattle.luf_lex.specs.declared.token.Kind.{Kind}
use Rattle.luf_lex.specs.declared.token.Kind.TheVariants.{Token, Comment, Blank, LineEnd, HashLine, Mark}
use Rattle.luf_lex.specs.declared.token.Piece.{Piece}

-- ---- with which next byte a piece would go on

abbrev pub is_bracket : Tok → Bool
is_bracket (Sign LeftBracket) = true
is_bracket _ = false

-- a line end of one byte goes on with the other byte
abbrev pub line_goes_on : List ℕ → ℕ → Bool
line_goes_on (a ∷ []) c = ((a == 10) && (c == 13)) || ((a == 13) && (c == 10))
line_goes_on _ c = false

-- A long comment and a line end of two bytes go on with nothing. A `[` is kept from `=` too: whether `[=` begins a long
-- bracket only later bytes show.
abbrev pub lengthens : Kind → List ℕ → ℕ → Bool
lengthens (Token t) a c = goes_on t c || (is_bracket t && (c == 61))
lengthens Comment a c = not (opens_long (drop 2 a)) && in_line c
lengthens Blank a c = is_blank c
lengthens LineEnd a c = line_goes_on a c
lengthens _ a c = in_line c

-- the kinds that stand behind the head
abbrev pub is_loose : Kind → Bool
is_loose HashLine = false
is_loose Mark = false
is_loose _ = true

-- a kind and the bytes of a piece of it
pub record Bit : Type 0 where
  pub kind : Kind
  pub bytes : List ℕ

abbrev pub joined : List Bit → List ℕ
joined [] = []
joined (p ∷ bits) = p.bytes ++ joined bits

-- the bytes of the next piece
abbrev pub next_bytes : List Bit → List ℕ
next_bytes [] = []
next_bytes (p ∷ bits) = p.bytes

-- Each is spelled as its kind is, and the first byte of the next one does not lengthen it.
abbrev pub Neat : List Bit → Type 0
Neat [] = Unit {0}
Neat (p ∷ bits) = (is_loose p.kind ≡ true) × Spells p.kind p.bytes × (begins (lengthens p.kind p.bytes) (next_bytes bits) ≡ false) × Neat bits

-- the pieces, one after another from a place
abbrev pub pieces_at : ℕ → List Bit → List Piece
pieces_at at [] = []
pieces_at at (p ∷ bits) = record { kind = p.kind; span = record { from = at; to = at + length p.bytes } } ∷ pieces_at (at + length p.bytes) bits

-- the sign `#` is not the first of all
abbrev pub NoHashFirst : List Bit → Type 0
NoHashFirst [] = Unit {0}
NoHashFirst (p ∷ bits) = p.kind ≡ Token (Sign Hash) → ⊥
