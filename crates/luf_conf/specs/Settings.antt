-- What each key of a file of options says. The names of keys and values are those of StyLua; the numbers that are allowed,
-- and what is usual, are our own.
use Rattle.std.specs.Prelude.{◌≡◌, ℕ, ◌≤◌, Bool, true, false, List, codes, pos}
use Rattle.toml.specs.Data.{Data, integer, string}
use Rattle.luf_quote.specs.declared.calls.CallStyle.{CallStyle}
use Rattle.luf_quote.specs.declared.calls.CallStyle.TheVariants as calls
use Rattle.luf_quote.specs.declared.quotes.QuoteStyle.{QuoteStyle}
use Rattle.luf_quote.specs.declared.quotes.QuoteStyle.TheVariants as quotes
use Rattle.luf_conf.specs.declared.keys.Key.{Key}
use Rattle.luf_conf.specs.declared.keys.Key.TheVariants as key
use Rattle.luf_conf.specs.declared.settings.Options.{Options}

-- how a key is named
abbrev pub key_name : Key → List ℕ
key_name key.ColumnWidth = codes "column_width"
key_name key.IndentType = codes "indent_type"
key_name key.IndentWidth = codes "indent_width"
key_name key.QuoteStyle = codes "quote_style"
key_name key.CallParentheses = codes "call_parentheses"
key_name key.LineEndings = codes "line_endings"
key_name key.CollapseSimpleStatement = codes "collapse_simple_statement"

-- the name of some key
abbrev pub IsKnown : List ℕ → Type 0
IsKnown name = (k : Key) × (key_name k ≡ name)

-- the value that a key has where a file does not give it
abbrev pub usual_value : Key → Data
usual_value key.ColumnWidth = integer (pos 120)
usual_value key.IndentType = string (codes "Tabs")
usual_value key.IndentWidth = integer (pos 4)
usual_value key.QuoteStyle = string (codes "AutoPreferDouble")
usual_value key.CallParentheses = string (codes "Always")
usual_value key.LineEndings = string (codes "Unix")
usual_value key.CollapseSimpleStatement = string (codes "Never")

-- how it is named whether a level is a tab
abbrev pub indent_name : Bool → List ℕ
indent_name true = codes "Tabs"
indent_name false = codes "Spaces"

abbrev pub quote_name : QuoteStyle → List ℕ
quote_name quotes.AutoPreferDouble = codes "AutoPreferDouble"
quote_name quotes.AutoPreferSingle = codes "AutoPreferSingle"
quote_name quotes.ForceDouble = codes "ForceDouble"
quote_name quotes.ForceSingle = codes "ForceSingle"

abbrev pub call_name : CallStyle → List ℕ
call_name calls.Always = codes "Always"
call_name calls.NoSingleString = codes "NoSingleString"
call_name calls.NoSingleTable = codes "NoSingleTable"
call_name calls.None = codes "None"
call_name calls.Input = codes "Input"

-- the greatest column width and the greatest indent width
abbrev pub most_columns : ℕ
most_columns = 10000

abbrev pub most_indent : ℕ
most_indent = 16

-- the value is this whole number, from 1 to `most`
abbrev pub IsNumberTo : ℕ → Data → ℕ → Type 0
IsNumberTo most d n = (d ≡ integer (pos n)) × (1 ≤ n) × (n ≤ most)

-- The key may have this value, and these options are as it says. Of the last two keys there is one value each, and the
-- options need not say it.
abbrev pub Sets : Key → Data → Options → Type 0
Sets key.ColumnWidth d o = IsNumberTo most_columns d o.column_width
Sets key.IndentType d o = d ≡ string (indent_name o.tabs)
Sets key.IndentWidth d o = IsNumberTo most_indent d o.indent_width
Sets key.QuoteStyle d o = d ≡ string (quote_name o.quotes)
Sets key.CallParentheses d o = d ≡ string (call_name o.calls)
Sets key.LineEndings d o = d ≡ string (codes "Unix")
Sets key.CollapseSimpleStatement d o = d ≡ string (codes "Never")

-- options whose numbers are within their limits
abbrev pub AreInRange : Options → Type 0
AreInRange o = (1 ≤ o.column_width) × (o.column_width ≤ most_columns) × (1 ≤ o.indent_width) × (o.indent_width ≤ most_indent)
