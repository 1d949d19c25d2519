-- What is kept of the pieces of a source while it is cut.
use Rattle.std.specs.Prelude.{◌≡◌, ℕ, ◌+◌, ◌-◌, ◌<◌, ◌≤◌, ◌⊎◌, List, [], ◌∷◌, ◌++◌, length, drop, if◌then◌else◌, ⊤}
use Rattle.luf_lex.specs.Cut.{Cuts}
use Rattle.luf_lex.specs.First.{IsFirst, IsFault}
use Rattle.luf_lex.specs.Note.{is_comment}
use Rattle.luf_lex.specs.inner.Filled.{blank_between, filled, last_end}
use Rattle.luf_lex.specs.Tokens.{token_places}
use Rattle.luf_lex.specs.declared.fault.LexErr.{LexErr}
use Rattle.luf_lex.specs.declared.fault.LexErr.TheVariants.{Bad, Memory}
use Rattle.luf_lex.specs.declared.token.Kind.{Kind}
use Rattle.luf_lex.specs.declared.token.Piece.{Piece}

-- where the comments stand among the pieces, the first of which has this place
abbrev pub comment_places : ℕ → List Piece → List ℕ
comment_places at [] = []
comment_places at (p ∷ pieces) = if is_comment p.kind then at ∷ comment_places (at + 1) pieces else comment_places (at + 1) pieces

-- the places of the tokens and of the comments of these pieces
pub record IsGrown (tokens comments : List ℕ) (pieces : List Piece) : Type 0 where
  pub tokens_at : tokens ≡ token_places 0 pieces
  pub comments_at : comments ≡ comment_places 0 pieces

-- one more piece, which is the first of what is left of a source from a place on
pub record IsPushed (source : List ℕ) (at end : ℕ) (old new : List Piece) : Type 0 where
  pub kind : Kind
  pub pieces : new ≡ old ++ record { kind = kind; span = record { from = at; to = end } } ∷ []
  pub first : IsFirst (drop at source) kind (end - at)

-- one more piece behind the blanks from a place on, or none where only blanks are left
pub record IsNext (source : List ℕ) (at end : ℕ) (old new : List Piece) : Type 0 where
  pub more : List Piece
  pub pieces : new ≡ old ++ more
  pub cut : Cuts source at (filled at more end) end
  pub behind : at < end
  pub within : end ≤ length source
  pub few : length more ≤ 1
  pub last : (last_end at more ≡ end) ⊎ (end ≡ length source)

-- what is left of a source from a place on has no first piece
abbrev pub IsFaultAt : List ℕ → ℕ → LexErr → Type 0
IsFaultAt source at (Bad place what) = (place ≡ at) × IsFault (drop at source) what
IsFaultAt source at Memory = ⊤

-- behind the blanks from a place on, what is left of a source has no first piece
abbrev pub IsFaultFrom : List ℕ → ℕ → LexErr → Type 0
IsFaultFrom source at (Bad place what) = (place < length source) × Cuts source at (blank_between at place) place × IsFault (drop place source) what
IsFaultFrom source at Memory = ⊤
