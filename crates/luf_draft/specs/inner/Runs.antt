-- Runs of marks that are added at once, and what stands round a part that has several forms. What the functions that
-- enter no part of the tree go by.
use Rattle.std.specs.Prelude.{ℕ, Bool, true, false, List, [], ◌∷◌}
use Rattle.luf_lex.specs.declared.token.Tok.{Tok}
use Rattle.luf_lex.specs.declared.token.Sign.TheVariants as sign
use Rattle.luf_lex.specs.declared.token.Word as token_word
use Rattle.luf_lex.specs.declared.token.Word.TheVariants as word
use Rattle.luf_tree.specs.declared.tree.Declared.{Declared}
use Rattle.luf_tree.specs.SyntaxOf.{declared_of}
use Rattle.luf_draft.specs.Flat.{token_at}
use Rattle.luf_draft.specs.declared.mark.Mark.{Mark}
use Rattle.luf_draft.specs.declared.mark.Mark.TheVariants.{Token, Word, Sign, Gap, Trail, Open, Close}
use Rattle.luf_draft.specs.declared.mark.Part.TheVariants.{Nest, Group, Sequence}
use Rattle.luf_draft.specs.declared.mark.GapKind.TheVariants as kind
use Rattle.luf_draft.specs.inner.Marks.{listed, comma_and, dot_marks, token_mark, name_marks, declared_mark, parameter_marks, behind_sign}

-- ---- between the parts of a list

abbrev pub comma_line : List Mark
comma_line = Sign sign.Comma ∷ Gap kind.Line ∷ []

abbrev pub elseif_word : List Mark
elseif_word = Word word.ElseIf ∷ []

-- ---- what opens a part and what closes one

abbrev pub word_opened : token_word.Word → List Mark
word_opened w = Open Sequence ∷ Word w ∷ []

-- _ behind the word
abbrev pub word_spaced : token_word.Word → List Mark
word_spaced w = Open Sequence ∷ Word w ∷ Gap kind.Space ∷ []

abbrev pub word_closed : token_word.Word → List Mark
word_closed w = Word w ∷ Close ∷ []

-- _word
abbrev pub space_word : token_word.Word → List Mark
space_word w = Gap kind.Space ∷ Word w ∷ []

-- word_
abbrev pub word_space : token_word.Word → List Mark
word_space w = Word w ∷ Gap kind.Space ∷ []

-- _word_
abbrev pub word_between : token_word.Word → List Mark
word_between w = Gap kind.Space ∷ Word w ∷ Gap kind.Space ∷ []

-- _=_
abbrev pub equals : List Mark
equals = Gap kind.Space ∷ Sign sign.Assign ∷ Gap kind.Space ∷ []

abbrev pub paren_opened : List Mark
paren_opened = Open Sequence ∷ Sign sign.LeftParen ∷ Gap kind.Tight ∷ []

abbrev pub paren_closed : List Mark
paren_closed = Gap kind.Tight ∷ Sign sign.RightParen ∷ Close ∷ []

abbrev pub bracket_opened : List Mark
bracket_opened = Sign sign.LeftBracket ∷ Gap kind.Tight ∷ []

abbrev pub bracket_closed : List Mark
bracket_closed = Gap kind.Tight ∷ Sign sign.RightBracket ∷ []

abbrev pub group_opened : List Mark
group_opened = Open Group ∷ Open Sequence ∷ []

abbrev pub nest_opened : List Mark
nest_opened = Open Nest ∷ Open Sequence ∷ []

abbrev pub all_closed : List Mark
all_closed = Close ∷ Close ∷ Close ∷ Close ∷ []

-- a unary operator
abbrev pub unary_opened : List Tok → ℕ → List Mark
unary_opened toks n = Open Sequence ∷ Token n ∷ Gap (behind_sign (token_at toks n)) ∷ []

-- _^_
abbrev pub power_sign : ℕ → List Mark
power_sign n = Gap kind.Space ∷ Token n ∷ Gap kind.Space ∷ []

-- an operator of a chain
abbrev pub step_sign : ℕ → List Mark
step_sign n = Gap kind.Line ∷ Token n ∷ Gap kind.Space ∷ []

-- x_=_
abbrev pub named_field : ℕ → List Mark
named_field name = Token name ∷ equals

-- .x
abbrev pub dot_suffix : ℕ → List Mark
dot_suffix name = Gap kind.Tight ∷ Sign sign.Dot ∷ Gap kind.Tight ∷ Token name ∷ []

-- :x
abbrev pub method_suffix : ℕ → List Mark
method_suffix name = Gap kind.Tight ∷ Sign sign.Colon ∷ Gap kind.Tight ∷ Token name ∷ []

-- ---- what a statement begins with, up to its first part

abbrev pub declared_listed : List Declared → List Mark
declared_listed names = listed (comma_and kind.Space) (λ d. declared_mark (declared_of d)) true names

abbrev pub local_opened : List Declared → List Mark
local_opened names = Open Sequence ∷ Word word.Local ∷ Gap kind.Space ∷ declared_listed names

abbrev pub for_opened : ℕ → List Mark
for_opened name = Open Sequence ∷ Word word.For ∷ Gap kind.Space ∷ Token name ∷ equals

abbrev pub for_in_opened : List ℕ → List Mark
for_in_opened names = Open Sequence ∷ Word word.For ∷ Gap kind.Space ∷ name_marks names

abbrev pub path_listed : List ℕ → List Mark
path_listed path = listed dot_marks token_mark true path

abbrev pub function_opened : List ℕ → List Mark
function_opened path = Open Sequence ∷ Word word.Function ∷ Gap kind.Space ∷ path_listed path

abbrev pub local_function_opened : ℕ → List Mark
local_function_opened name = Open Sequence ∷ Word word.Local ∷ Gap kind.Space ∷ Word word.Function ∷ Gap kind.Space ∷ Token name ∷ []

abbrev pub label_of : ℕ → List Mark
label_of name = Open Sequence ∷ Sign sign.DoubleColon ∷ Gap kind.Tight ∷ Token name ∷ Gap kind.Tight ∷ Sign sign.DoubleColon ∷ Close ∷ []

abbrev pub goto_of : ℕ → List Mark
goto_of name = Open Sequence ∷ Word word.Goto ∷ Gap kind.Space ∷ Token name ∷ Close ∷ []

-- ---- parameters

-- neither a name nor `...`
abbrev pub no_parameters : List ℕ → Bool → Bool
no_parameters [] false = true
no_parameters [] true = false
no_parameters (_ ∷ _) vararg = false

-- with the gap before them
abbrev pub parameters_before : List ℕ → Bool → List Mark
parameters_before names vararg = Gap kind.Tight ∷ parameter_marks names vararg

abbrev pub parameters_opened : Bool → List Mark
parameters_opened true = Gap kind.Tight ∷ Sign sign.LeftParen ∷ Gap kind.TightEnd ∷ []
parameters_opened false = Gap kind.Tight ∷ Open Group ∷ Open Sequence ∷ Sign sign.LeftParen ∷ Open Nest ∷ Open Sequence ∷ Gap kind.Soft ∷ []

abbrev pub parameters_closed : Bool → List Mark
parameters_closed true = Sign sign.RightParen ∷ []
parameters_closed false = Close ∷ Close ∷ Gap kind.SoftEnd ∷ Sign sign.RightParen ∷ Close ∷ Close ∷ []

-- ---- what stands round a table, a block, the source: it has no parts, or some

abbrev pub table_opened : Bool → List Mark
table_opened true = Open Sequence ∷ Sign sign.LeftBrace ∷ Gap kind.TightEnd ∷ []
table_opened false = Open Group ∷ Open Sequence ∷ Sign sign.LeftBrace ∷ Open Nest ∷ Open Sequence ∷ Gap kind.Line ∷ []

abbrev pub table_closed : Bool → List Mark
table_closed true = Sign sign.RightBrace ∷ Close ∷ []
table_closed false = Trail ∷ Close ∷ Close ∷ Gap kind.LineEnd ∷ Sign sign.RightBrace ∷ Close ∷ Close ∷ []

abbrev pub body_opened : Bool → List Mark
body_opened true = Gap kind.EmptyBlock ∷ []
body_opened false = nest_opened

abbrev pub body_closed : Bool → List Mark
body_closed true = []
body_closed false = Close ∷ Close ∷ Gap kind.BlockEnd ∷ []

abbrev pub source_opened : Bool → List Mark
source_opened true = Gap kind.EmptySource ∷ []
source_opened false = Open Sequence ∷ []

abbrev pub source_closed : Bool → List Mark
source_closed true = []
source_closed false = Gap kind.SourceEnd ∷ Close ∷ []

-- a list of values, behind `=`
abbrev pub values_opened : Bool → List Mark
values_opened true = []
values_opened false = equals

-- `return`, and a list behind it
abbrev pub return_opened : Bool → List Mark
return_opened true = Word word.Return ∷ []
return_opened false = word_spaced word.Return

abbrev pub return_closed : Bool → List Mark
return_closed true = []
return_closed false = Close ∷ []
