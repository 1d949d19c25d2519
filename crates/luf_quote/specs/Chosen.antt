-- The quotes of a short string (our own rule, by names of StyLua).
use Rattle.std.specs.Prelude.{nat_lt, if◌then◌else◌}
use Rattle.luf_str.specs.declared.quoting.Counts.{Counts}
use Rattle.luf_str.specs.declared.quoting.Quote.{Quote}
use Rattle.luf_str.specs.declared.quoting.Quote.TheVariants.{Single, Double}
use Rattle.luf_quote.specs.declared.quotes.QuoteStyle.{QuoteStyle}
use Rattle.luf_quote.specs.declared.quotes.QuoteStyle.TheVariants.{AutoPreferDouble, AutoPreferSingle, ForceDouble, ForceSingle}

-- the quotes that a style wants, by how many quotes of each kind stand inside: the other ones where those it prefers
-- are more
abbrev pub chosen : QuoteStyle → Counts → Quote
chosen AutoPreferDouble counts = if nat_lt counts.single counts.double then Single else Double
chosen AutoPreferSingle counts = if nat_lt counts.double counts.single then Double else Single
chosen ForceDouble counts = Double
chosen ForceSingle counts = Single
