-- What small programs are made of, and their text.
use Rattle.std.proofs.Common.{ℕ, Bool, true, false, None, List, [], ◌∷◌, ◌++◌, codes, replicate}
use Rattle.std.specs.Prelude.{◌&&◌, bytes_eq}
use Rattle.luf_doc.specs.declared.doc.Remark.{Remark}
use Rattle.luf_doc.specs.declared.page.Page.{Page}
use Rattle.luf_doc.specs.Layout.{layout}
use Rattle.luf_tree.specs.Syntax as syntax
use Rattle.luf_draft.specs.Form.{Words, main}
use Rattle.luf_gaps.specs.Gaps.{empty_gap}
use Rattle.luf_gaps.specs.declared.notes.GapNotes.{GapNotes}
use Rattle.luf_style.proofs.Fill.{fill}

-- ---- programs

abbrev pub name : List ℕ → syntax.Expression Words
name bytes = syntax.variable tt bytes

abbrev pub number : List ℕ → syntax.Expression Words
number bytes = syntax.numeral tt bytes

abbrev pub string : List ℕ → syntax.Expression Words
string bytes = syntax.string tt bytes

abbrev pub list : List (syntax.Expression Words) → syntax.Expressions Words
list [] = syntax.no_expressions
list (e ∷ es) = syntax.more_expressions e (list es)

abbrev pub items : List (syntax.Expression Words) → syntax.Fields Words
items [] = syntax.no_fields
items (e ∷ es) = syntax.more_fields (syntax.item_field e) (items es)

abbrev pub table : List (syntax.Expression Words) → syntax.Expression Words
table es = syntax.table tt (items es)

abbrev pub statements : List (syntax.Statement Words) → syntax.Statements Words
statements [] = syntax.no_statements
statements (s ∷ ss) = syntax.more_statements s (statements ss)

abbrev pub block : List (syntax.Statement Words) → syntax.Block Words
block ss = syntax.block tt (statements ss)

abbrev pub function_of : List (List ℕ) → List (syntax.Statement Words) → syntax.FunctionBody Words
function_of names ss = syntax.function_body tt names false (block ss)

abbrev pub arguments : Bool → List (syntax.Expression Words) → syntax.Arguments Words
arguments had es = syntax.arguments tt had (list es)

-- f(..), with parentheses in the source or without
abbrev pub call_of : syntax.Expression Words → Bool → List (syntax.Expression Words) → syntax.Expression Words
call_of f had es = syntax.suffixed tt f (syntax.more_suffixes (syntax.call_suffix (arguments had es)) syntax.no_suffixes)

abbrev pub call : syntax.Expression Words → List (syntax.Expression Words) → syntax.Statement Words
call f es = syntax.call_statement tt (call_of f true es)

-- x = e
abbrev pub set : List ℕ → syntax.Expression Words → syntax.Statement Words
set x e = syntax.assignment tt (list (name x ∷ [])) (list (e ∷ []))

-- local x = e
abbrev pub local : List ℕ → syntax.Expression Words → syntax.Statement Words
local x e = syntax.local_statement tt (record { name = x; attribute = None } ∷ []) (list (e ∷ []))

-- ---- the comments in the gaps

-- so many gaps without
abbrev pub plain : ℕ → List GapNotes
plain n = replicate n empty_gap

abbrev pub noted : List Remark → GapNotes
noted notes = record { notes = notes; blank = false }

-- an empty line stands behind them
abbrev pub then_empty : List Remark → GapNotes
then_empty notes = record { notes = notes; blank = true }

abbrev pub empty_line : GapNotes
empty_line = then_empty []

-- a comment that others follow on its line; one that is the last on its line; one of its own line; and one behind an empty line
abbrev pub amid : List ℕ → Remark
amid bytes = record { text = bytes; own_line = false; ends_line = false; blank = false }

abbrev pub behind : List ℕ → Remark
behind bytes = record { text = bytes; own_line = false; ends_line = true; blank = false }

abbrev pub alone : List ℕ → Remark
alone bytes = record { text = bytes; own_line = true; ends_line = true; blank = false }

abbrev pub apart : List ℕ → Remark
apart bytes = record { text = bytes; own_line = true; ends_line = true; blank = true }

-- ---- the text

-- of the texts that meet here only two `-` need a space
abbrev pub needs : List ℕ → List ℕ → Bool
needs a b = bytes_eq a (codes "-") && bytes_eq b (codes "-")

abbrev pub always : Bool → Bool
always had = true

abbrev pub never : Bool → Bool
never had = false

abbrev pub as_it_is : Bool → Bool
as_it_is had = had

abbrev pub page : ℕ → Page
page width = record { width = width; tabs = true; unit = 4 }

-- the text of a program with these gaps, where lone strings and tables have parentheses or not
abbrev pub chosen_text : (string_has table_has : Bool → Bool) → syntax.Block Words → List GapNotes → List ℕ
chosen_text string_has table_has program gaps = layout (page 120) (fill needs [] [] (main string_has table_has program) gaps)

-- the text on a page, where all have
abbrev pub text_of : ℕ → syntax.Block Words → List GapNotes → List ℕ
text_of width program gaps = layout (page width) (fill needs [] [] (main always always program) gaps)

abbrev pub lines : List (List ℕ) → List ℕ
lines [] = []
lines (l ∷ ls) = l ++ 10 ∷ lines ls

-- one level deeper
abbrev pub indented : List ℕ → List ℕ
indented l = 9 ∷ l
