-- The lines that a run writes to errs. Our own rule.
use Rattle.std.specs.Prelude.{ℕ, List, [], ◌∷◌, ◌++◌, codes, decimal, Option, Some, None}
use Rattle.luf_lex.specs.declared.fault.LexWhat.{LexWhat}
use Rattle.luf_lex.specs.declared.fault.LexWhat.TheVariants.{NoToken, BadNumeral, BadEscape, OpenString, OpenLong}
use Rattle.luf_work.specs.declared.refusal.Refusal.{Refusal}
use Rattle.luf_work.specs.declared.refusal.Refusal.TheVariants.{TooLarge, Lexical, Syntax, TooDeep, Scope, Chunk, ResultTooLarge, Memory}
use Rattle.luf_text.specs.declared.place.Place.{Place}
use Rattle.luf_scope.specs.declared.fault.ScopeWhat.{ScopeWhat}
use Rattle.luf_scope.specs.declared.fault.ScopeWhat.TheVariants.{UnknownAttribute, TwoClose, ConstAssign, VarargOutside, LabelTwice, NoLabel, JumpIntoScope, BreakOutside}
use Rattle.luf_conf.specs.declared.error.ConfErr.{ConfErr}
use Rattle.luf_conf.specs.declared.error.ConfErr.TheVariants as conf
use Rattle.luf_undump.specs.declared.error.ChunkWhat.{ChunkWhat}
use Rattle.luf_undump.specs.declared.error.ChunkWhat.TheVariants.{BadHeader, Short, BadSize, BadTag, Nested, Trailing}

-- a line of errs, ended by LF
abbrev pub line_of : List ℕ → List ℕ
line_of text = text ++ 10 ∷ []

-- the word of a lexical fault
abbrev pub word_of : LexWhat → List ℕ
word_of NoToken = codes "NoToken"
word_of BadNumeral = codes "BadNumeral"
word_of BadEscape = codes "BadEscape"
word_of OpenString = codes "OpenString"
word_of OpenLong = codes "OpenLong"

-- a word behind the name of a source
abbrev pub named : List ℕ → List ℕ → List ℕ
named name word = name ++ codes ": " ++ word

-- a word with its place: line and column in decimal
abbrev pub placed : List ℕ → Place → List ℕ → List ℕ
placed name place word = name ++ codes ":" ++ decimal place.line ++ codes ":" ++ decimal place.column ++ codes ": " ++ word

-- the word of a scope fault
abbrev pub scope_word : ScopeWhat → List ℕ
scope_word UnknownAttribute = codes "UnknownAttribute"
scope_word TwoClose = codes "TwoClose"
scope_word ConstAssign = codes "ConstAssign"
scope_word VarargOutside = codes "VarargOutside"
scope_word LabelTwice = codes "LabelTwice"
scope_word NoLabel = codes "NoLabel"
scope_word JumpIntoScope = codes "JumpIntoScope"
scope_word BreakOutside = codes "BreakOutside"

-- the word of a field of a chunk that is wrong
abbrev pub chunk_word : ChunkWhat → List ℕ
chunk_word BadHeader = codes "BadHeader"
chunk_word Short = codes "Short"
chunk_word BadSize = codes "BadSize"
chunk_word BadTag = codes "BadTag"
chunk_word Nested = codes "Nested"
chunk_word Trailing = codes "Trailing"

-- a word with its place in a chunk: the first byte of a field, in decimal
abbrev pub at_byte : List ℕ → ℕ → List ℕ → List ℕ
at_byte name at word = name ++ codes ":" ++ decimal at ++ codes ": " ++ word

-- What tells a refusal of a source: its name, its place, where it has one, and its word. Want of memory has no line.
abbrev pub refusal_line : List ℕ → Refusal → Option (List ℕ)
refusal_line name TooLarge = Some (named name (codes "TooLarge"))
refusal_line name (Lexical place what) = Some (placed name place (word_of what))
refusal_line name (Syntax place) = Some (placed name place (codes "Syntax"))
refusal_line name (TooDeep place) = Some (placed name place (codes "TooDeep"))
refusal_line name (Scope place what) = Some (placed name place (scope_word what))
refusal_line name (Chunk at what) = Some (at_byte name at (chunk_word what))
refusal_line name ResultTooLarge = Some (named name (codes "ResultTooLarge"))
refusal_line name Memory = None

-- what tells that a source is not its own text
abbrev pub differs_line : List ℕ → List ℕ
differs_line name = named name (codes "Differs")

-- What tells a refusal of a file of options: its name, and the key that is refused. Want of memory has no line.
abbrev pub config_line : List ℕ → ConfErr → Option (List ℕ)
config_line name conf.NotToml = Some (named name (codes "NotToml"))
config_line name (conf.UnknownKey key) = Some (named name (codes "UnknownKey " ++ key))
config_line name (conf.BadValue key) = Some (named name (codes "BadValue " ++ key))
config_line name conf.Memory = None

-- what tells words that mean no plan
abbrev pub usage_line : List ℕ
usage_line = line_of (codes "luafmt: Usage")
