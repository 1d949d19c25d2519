-- The text of tokens, and of the `#` line. Our own rules.
use Rattle.std.specs.Prelude.{ℕ, Bool, true, false, List, [], ◌∷◌, ◌++◌, if◌then◌else◌, codes, flat_map, slice_range}
use Rattle.luf_lex.specs.declared.token.Kind.{Kind}
use Rattle.luf_lex.specs.declared.token.Kind.TheVariants.{HashLine}
use Rattle.luf_lex.specs.declared.token.Piece.{Piece}
use Rattle.luf_guard.specs.Space.{StandApart, NeedSpace}

-- Spellings joined with the fewest spaces: one exactly where two neighbours need it.
pub data IsJoined : List (List ℕ) → List ℕ → Type 0 where
  nothing : IsJoined [] []
  alone : {a : List ℕ} → IsJoined (a ∷ []) a
  apart : {a b text : List ℕ} {rest : List (List ℕ)} → StandApart a b → IsJoined (b ∷ rest) text → IsJoined (a ∷ b ∷ rest) (a ++ text)
  spaced : {a b text : List ℕ} {rest : List (List ℕ)} → NeedSpace a b → IsJoined (b ∷ rest) text → IsJoined (a ∷ b ∷ rest) (a ++ (codes " " ++ text))

abbrev pub is_hash_line : Kind → Bool
is_hash_line HashLine = true
is_hash_line _ = false

-- the bytes of a piece and one line feed, if it is a `#` line
abbrev pub hash_line : List ℕ → Piece → List ℕ
hash_line source p = if is_hash_line p.kind then slice_range source p.span.from p.span.to ++ codes "\n" else []

-- the bytes of the `#` line among these pieces, if there is one, and one line feed
abbrev pub hash_text : List ℕ → List Piece → List ℕ
hash_text source pieces = flat_map (hash_line source) pieces
