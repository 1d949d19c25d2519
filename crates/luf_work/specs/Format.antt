-- What `format` writes, accepts and refuses, under options. Our own rules.
use Rattle.std.specs.Prelude.{ℕ, ◌<◌, ◌≤◌, List, length}
use Rattle.luf_conf.specs.declared.settings.Options.{Options}
use Rattle.luf_style.specs.Styled.{IsFormatted, choices_of}
use Rattle.luf_kept.specs.Kept.{IsKept}
use Rattle.luf_work.specs.Limits.{text_limit}
use Rattle.luf_work.specs.Refusals.{IsSourceRefusal}
use Rattle.luf_work.specs.Source.{IsAccepted}
use Rattle.luf_work.specs.declared.refusal.Refusal.{Refusal}
use Rattle.luf_work.specs.declared.refusal.Refusal.TheVariants.{ResultTooLarge}

-- what `format` accepts: what every job accepts, with a formatted text within its limit of 4 MiB
pub record IsFormatAccepted (o : Options) (source : List ℕ) : Type 0 where
  pub accepted : IsAccepted source
  pub text : List ℕ
  pub formatted : IsFormatted (choices_of o) source text
  pub fits : length text ≤ text_limit

-- a source whose formatted text has more bytes than the limit
pub record HasLargeLayout (o : Options) (source : List ℕ) : Type 0 where
  pub text : List ℕ
  pub formatted : IsFormatted (choices_of o) source text
  pub large : text_limit < length text

-- the cause of each refusal of `format`: that of every job, and after these a text that is too large
abbrev pub IsFormatRefusal : Options → List ℕ → Refusal → Type 0
IsFormatRefusal o source ResultTooLarge = IsAccepted source × HasLargeLayout o source
IsFormatRefusal o source refusal = IsSourceRefusal source refusal

-- What is written of a source keeps it: the text is accepted by every job, and it is the same program. And it is its own
-- formatted text.
pub record KeepsSource (o : Options) (source text : List ℕ) : Type 0 where
  pub accepted : IsAccepted text
  pub same : IsKept o source text
  pub once : IsFormatted (choices_of o) text text
