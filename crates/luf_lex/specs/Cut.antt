-- The cut of a source into pieces, and its lexical fault.
use Rattle.std.specs.Prelude.{◌≡◌, ℕ, ◌+◌, ◌-◌, ◌<◌, ◌≤◌, ◌==◌, Option, None, Some, List, [], ◌∷◌, ◌++◌, length, drop, slice_range, if◌then◌else◌, nat_eq}
use Rattle.std.specs.List.{prefix_len, starts_with}
use Rattle.std.specs.Str.{byte}
use Rattle.luf_byte.specs.Class.{in_line}
use Rattle.luf_byte.specs.Front.{begins}
use Rattle.luf_lex.specs.Spelling.{byte_order_mark}
use Rattle.luf_lex.specs.First.{IsFirst, IsFault}
use Rattle.luf_lex.specs.declared.fault.LexWhat.{LexWhat}
use Rattle.luf_lex.specs.declared.fault.LexErr.{LexErr}
use Rattle.luf_lex.specs.declared.fault.LexErr.TheVariants.{Bad, Memory}
use Rattle.luf_lex.specs.declared.token.Kind.TheVariants.{HashLine, Mark}
use Rattle.luf_lex.specs.declared.token.Piece.{Piece}

-- how many bytes the byte order mark has that a source begins with
abbrev pub mark_length : List ℕ → ℕ
mark_length source = if starts_with nat_eq source byte_order_mark then length byte_order_mark else 0

-- how many bytes a first line has that begins with `#`
abbrev pub hash_length : List ℕ → ℕ
hash_length text = if begins (λ b. b == byte "#") text then prefix_len in_line text else 0

-- where the pieces begin that may stand anywhere
abbrev pub head_end : List ℕ → ℕ
head_end source = mark_length source + hash_length (drop (mark_length source) source)

-- a mark and a `#` line at the start
abbrev pub head_of : List ℕ → List Piece
head_of source =
    (if mark_length source == 0 then [] else record { kind = Mark; span = record { from = 0; to = mark_length source } } ∷ [])
    ++ (if head_end source == mark_length source then [] else record { kind = HashLine; span = record { from = mark_length source; to = head_end source } } ∷ [])

-- a first line that begins with `#`, without its line end
abbrev pub hash_line_of : List ℕ → Option (List ℕ)
hash_line_of source = if head_end source == mark_length source then None else Some (slice_range source (mark_length source) (head_end source))

-- these pieces, one after another, are the bytes of a source from one place to another
abbrev pub Cuts : List ℕ → ℕ → List Piece → ℕ → Type 0
Cuts source at [] to = at ≡ to
Cuts source at (p ∷ pieces) to = (p.span.from ≡ at) × (p.span.from ≤ p.span.to) × IsFirst (drop at source) p.kind (p.span.to - p.span.from) × Cuts source p.span.to pieces to

-- the cut of a source: its pieces are all of it
pub record IsCut (source : List ℕ) (pieces : List Piece) : Type 0 where
  pub rest : List Piece
  pub head : pieces ≡ head_of source ++ rest
  pub cut : Cuts source (head_end source) rest (length source)

-- the lexical fault of a source: its first place that has no piece, and why
pub record IsLexFault (source : List ℕ) (at : ℕ) (what : LexWhat) : Type 0 where
  pub inside : at < length source
  pub pieces : List Piece
  pub before : Cuts source (head_end source) pieces at
  pub fault : IsFault (drop at source) what

-- the cause of an error
abbrev pub IsCause : List ℕ → LexErr → Type 0
IsCause source (Bad at what) = IsLexFault source at what
IsCause source Memory = Unit {0}
