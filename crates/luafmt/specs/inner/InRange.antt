-- A job under options that a run can have.
use Rattle.luf_conf.specs.Settings.{AreInRange}
use Rattle.luafmt.specs.declared.job.Job.{Job}
use Rattle.luafmt.specs.declared.job.Job.TheVariants as job

-- a job whose options are within their limits
abbrev pub IsInRange : Job → Type 0
IsInRange (job.Format o m) = AreInRange o
IsInRange _ = Unit {0}
