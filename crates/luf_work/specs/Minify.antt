-- What `minify` writes, accepts and refuses. Our own rules.
use Rattle.std.specs.Prelude.{ℕ, ◌<◌, ◌≤◌, List, length}
use Rattle.luf_min.specs.Minified.{IsMinified, IsSameProgram}
use Rattle.luf_work.specs.Limits.{text_limit}
use Rattle.luf_work.specs.Refusals.{IsSourceRefusal}
use Rattle.luf_work.specs.Source.{IsAccepted}
use Rattle.luf_work.specs.declared.refusal.Refusal.{Refusal}
use Rattle.luf_work.specs.declared.refusal.Refusal.TheVariants.{ResultTooLarge}

-- what `minify` accepts: what every job accepts, with a minified text within its limit of 4 MiB
pub record IsMinifyAccepted (source : List ℕ) : Type 0 where
  pub accepted : IsAccepted source
  pub text : List ℕ
  pub minified : IsMinified source text
  pub fits : length text ≤ text_limit

-- a source whose minified text has more bytes than the limit
pub record HasLargeText (source : List ℕ) : Type 0 where
  pub text : List ℕ
  pub minified : IsMinified source text
  pub large : text_limit < length text

-- the cause of each refusal of `minify`: that of every job, and after these a text that is too large
abbrev pub IsMinifyRefusal : List ℕ → Refusal → Type 0
IsMinifyRefusal source ResultTooLarge = IsAccepted source × HasLargeText source
IsMinifyRefusal source refusal = IsSourceRefusal source refusal

-- what is written of a source keeps its program: the text is accepted by every job, and it is the same program
pub record KeepsProgram (source text : List ℕ) : Type 0 where
  pub accepted : IsAccepted text
  pub same : IsSameProgram source text
