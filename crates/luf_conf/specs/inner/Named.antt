-- What names name, one test after another.
use Rattle.std.specs.Prelude.{ℕ, Bool, true, false, List, Option, Some, None, codes, bytes_eq, if◌then◌else◌}
use Rattle.luf_quote.specs.declared.calls.CallStyle.{CallStyle}
use Rattle.luf_quote.specs.declared.calls.CallStyle.TheVariants as calls
use Rattle.luf_quote.specs.declared.quotes.QuoteStyle.{QuoteStyle}
use Rattle.luf_quote.specs.declared.quotes.QuoteStyle.TheVariants as quotes
use Rattle.luf_conf.specs.declared.keys.Key.{Key}
use Rattle.luf_conf.specs.declared.keys.Key.TheVariants as key

abbrev pub key_named : List ℕ → Option Key
key_named name =
    if bytes_eq name (codes "column_width") then Some key.ColumnWidth
    else if bytes_eq name (codes "indent_type") then Some key.IndentType
    else if bytes_eq name (codes "indent_width") then Some key.IndentWidth
    else if bytes_eq name (codes "quote_style") then Some key.QuoteStyle
    else if bytes_eq name (codes "call_parentheses") then Some key.CallParentheses
    else if bytes_eq name (codes "line_endings") then Some key.LineEndings
    else if bytes_eq name (codes "collapse_simple_statement") then Some key.CollapseSimpleStatement
    else None

abbrev pub tabs_named : List ℕ → Option Bool
tabs_named word =
    if bytes_eq word (codes "Tabs") then Some true
    else if bytes_eq word (codes "Spaces") then Some false
    else None

abbrev pub quotes_named : List ℕ → Option QuoteStyle
quotes_named word =
    if bytes_eq word (codes "AutoPreferDouble") then Some quotes.AutoPreferDouble
    else if bytes_eq word (codes "AutoPreferSingle") then Some quotes.AutoPreferSingle
    else if bytes_eq word (codes "ForceDouble") then Some quotes.ForceDouble
    else if bytes_eq word (codes "ForceSingle") then Some quotes.ForceSingle
    else None

abbrev pub calls_named : List ℕ → Option CallStyle
calls_named word =
    if bytes_eq word (codes "Always") then Some calls.Always
    else if bytes_eq word (codes "NoSingleString") then Some calls.NoSingleString
    else if bytes_eq word (codes "NoSingleTable") then Some calls.NoSingleTable
    else if bytes_eq word (codes "None") then Some calls.None
    else if bytes_eq word (codes "Input") then Some calls.Input
    else None
