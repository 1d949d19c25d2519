-- Why a source is refused by every job that reads it as one, in the order in which the causes are looked for. Our own rules.
use Rattle.std.specs.Prelude.{◌≡◌, ℕ, ◌<◌, ◌≤◌, Some, List, length, map, slice_index_or}
use Rattle.luf_text.specs.Place.{place_in}
use Rattle.luf_text.specs.declared.place.Place.{Place}
use Rattle.luf_lex.specs.Cut.{IsCut, IsLexFault}
use Rattle.luf_lex.specs.Tokens.{toks_of, spans_of}
use Rattle.luf_lex.specs.declared.fault.LexWhat.{LexWhat}
use Rattle.luf_lex.specs.declared.token.Piece.{Piece}
use Rattle.luf_descent.specs.declared.error.ParseErr.{ParseErr}
use Rattle.luf_descent.specs.declared.error.ParseErr.TheVariants as error
use Rattle.luf_exact.specs.Exact.{IsExactCause}
use Rattle.luf_scope.specs.declared.fault.ScopeWhat.{ScopeWhat}
use Rattle.luf_tree.specs.declared.tree.Chunk.{Chunk}
use Rattle.luf_work.specs.Limits.{source_limit}
use Rattle.luf_resolved.specs.Source.{IsSource, scope_fault_of}
use Rattle.luf_work.specs.declared.refusal.Refusal.{Refusal}
use Rattle.luf_work.specs.declared.refusal.Refusal.TheVariants.{TooLarge, Lexical, Syntax, TooDeep, Scope, Chunk as BadChunk, ResultTooLarge, Memory}

-- the lexical fault of a source, by its line and column
pub record IsLexicalAt (source : List ℕ) (place : Place) (what : LexWhat) : Type 0 where
  pub at : ℕ
  pub fault : IsLexFault source at what
  pub place_is : place ≡ place_in source at

-- where a token starts; the end of the source where there are not so many tokens
abbrev pub start_of : List ℕ → List Piece → ℕ → ℕ
start_of source pieces token = slice_index_or (map (λ s. s.from) (spans_of pieces)) token (length source)

-- A source that has a cut, but no tree of at most 200 levels, told at the line and column of the token that the exact cause
-- names, or of the end. The cause is by one of the parser's two words.
pub record HasNoTreeAt (source : List ℕ) (word : ℕ → ParseErr) (place : Place) : Type 0 where
  pub pieces : List Piece
  pub cut : IsCut source pieces
  pub token : ℕ
  pub cause : IsExactCause (toks_of pieces) (word token)
  pub place_is : place ≡ place_in source (start_of source pieces token)

-- A source with a tree whose first scope fault this is, told at the line and column of its token.
pub record HasScopeFaultAt (source : List ℕ) (place : Place) (what : ScopeWhat) : Type 0 where
  pub pieces : List Piece
  pub chunk : Chunk
  pub is : IsSource source pieces chunk
  pub token : ℕ
  pub fault : scope_fault_of source pieces chunk ≡ Some (record { token = token; what = what })
  pub place_is : place ≡ place_in source (start_of source pieces token)

-- The cause of a refusal by every job that reads a source. The limit of the source is looked at first. A chunk that is
-- wrong and a text that is too large are the causes of single jobs, and want of memory has no cause in the source.
abbrev pub IsSourceRefusal : List ℕ → Refusal → Type 0
IsSourceRefusal source TooLarge = source_limit < length source
IsSourceRefusal source (Lexical place what) = length source ≤ source_limit × IsLexicalAt source place what
IsSourceRefusal source (Syntax place) = length source ≤ source_limit × HasNoTreeAt source error.Syntax place
IsSourceRefusal source (TooDeep place) = length source ≤ source_limit × HasNoTreeAt source error.TooDeep place
IsSourceRefusal source (Scope place what) = length source ≤ source_limit × HasScopeFaultAt source place what
IsSourceRefusal source (BadChunk at what) = ⊥
IsSourceRefusal source ResultTooLarge = ⊥
IsSourceRefusal source Memory = ⊥
