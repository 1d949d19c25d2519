-- The jobs: what becomes of the text of each, and what each accepts, writes and refuses. Our own rules.
use Rattle.std.specs.Prelude.{◌≡◌, ℕ, ◌≤◌, List, [], length}
use Rattle.luf_min.specs.Minified.{IsMinified}
use Rattle.luf_style.specs.Styled.{IsFormatted, choices_of}
use Rattle.luf_plan.specs.declared.command.Manner.{Manner}
use Rattle.luf_plan.specs.declared.command.Manner.TheVariants as manner
use Rattle.luf_work.specs.Format.{IsFormatAccepted, IsFormatRefusal}
use Rattle.luf_work.specs.Limits.{source_limit, text_limit}
use Rattle.luf_work.specs.List.{IsListing, IsListAccepted, IsListRefusal}
use Rattle.luf_work.specs.Minify.{IsMinifyAccepted, IsMinifyRefusal}
use Rattle.luf_work.specs.Refusals.{IsSourceRefusal}
use Rattle.luf_work.specs.Source.{IsAccepted}
use Rattle.luf_work.specs.declared.refusal.Refusal.{Refusal}
use Rattle.luafmt.specs.declared.job.Job.{Job}
use Rattle.luafmt.specs.declared.job.Job.TheVariants as job

-- what becomes of the text of a job
abbrev pub manner_of : Job → Manner
manner_of (job.Format o m) = m
manner_of job.Minify = manner.Show
manner_of job.Check = manner.Show
manner_of job.List = manner.Show

-- what a job accepts
abbrev pub Accepts : Job → List ℕ → Type 0
Accepts (job.Format o m) = IsFormatAccepted o
Accepts job.Minify = IsMinifyAccepted
Accepts job.Check = IsAccepted
Accepts job.List = IsListAccepted

-- the text of a source that it accepts
abbrev pub Writes : Job → List ℕ → List ℕ → Type 0
Writes (job.Format o m) source text = IsAccepted source × IsFormatted (choices_of o) source text × length text ≤ text_limit
Writes job.Minify source text = IsAccepted source × IsMinified source text × length text ≤ text_limit
Writes job.Check source text = IsAccepted source × (text ≡ [])
Writes job.List source text = length source ≤ source_limit × IsListing source text

-- why it refuses a source
abbrev pub Refuses : Job → List ℕ → Refusal → Type 0
Refuses (job.Format o m) = IsFormatRefusal o
Refuses job.Minify = IsMinifyRefusal
Refuses job.Check = IsSourceRefusal
Refuses job.List = IsListRefusal
