-- The parentheses round a lone argument (our own rule, by names of StyLua).
use Rattle.std.specs.Prelude.{Bool, true, false}
use Rattle.luf_quote.specs.declared.calls.CallStyle.{CallStyle}
use Rattle.luf_quote.specs.declared.calls.CallStyle.TheVariants as style
use Rattle.luf_quote.specs.declared.calls.Lone.{Lone}
use Rattle.luf_quote.specs.declared.calls.Lone.TheVariants as lone

-- whether a lone string has its parentheses in a text, by whether the source has them
abbrev pub keeps_round_string : CallStyle → Bool → Bool
keeps_round_string style.Always had = true
keeps_round_string style.NoSingleString had = false
keeps_round_string style.NoSingleTable had = true
keeps_round_string style.None had = false
keeps_round_string style.Input had = had

-- the same of a lone table
abbrev pub keeps_round_table : CallStyle → Bool → Bool
keeps_round_table style.Always had = true
keeps_round_table style.NoSingleString had = true
keeps_round_table style.NoSingleTable had = false
keeps_round_table style.None had = false
keeps_round_table style.Input had = had

-- Arguments that are no lone string and no lone table always have them.
abbrev pub keeps_parens : CallStyle → Lone → Bool → Bool
keeps_parens chosen lone.None had = true
keeps_parens chosen lone.Str had = keeps_round_string chosen had
keeps_parens chosen lone.Table had = keeps_round_table chosen had
