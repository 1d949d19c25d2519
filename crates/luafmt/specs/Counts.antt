-- The counts of faults of a run's objects, and the causes of its answers of a fault. Our own rules.
use Rattle.std.specs.Prelude.{◌≡◌, ◌≢◌, ◌⊎◌, ℕ, List, [], Option, IsSome}
use Rattle.luf_io.specs.Count.{Rose}
use Rattle.luf_io.specs.Files.{FileMap}
use Rattle.luf_plan.specs.Plan.{Plan, Mean}
use Rattle.luf_plan.specs.declared.command.Manner.TheVariants.{Rewrite}
use Rattle.luafmt.specs.Outcome.{IsMissingAtTurn}

-- the counts of the input, of the two calls on files, of out and of errs
pub record Counts : Type 0 where
  pub input : ℕ
  pub fetches : ℕ
  pub replaces : ℕ
  pub out : ℕ
  pub errs : ℕ

abbrev pub counts : ℕ → ℕ → ℕ → ℕ → ℕ → Counts
counts input fetches replaces out errs = record { input = input; fetches = fetches; replaces = replaces; out = out; errs = errs }

-- Why a source could not be read: the count of the input rose, and the words mean a plan that reads it; or that of `fetch`
-- rose, and they name a file, of options or of a source; or a file that they name is missing at its turn.
pub data CouldNotRead (words : List (List ℕ)) (left : Option (List ℕ)) (told : Option FileMap) (before after : Counts) : Type 0 where
  of_input : (plan : Plan) → Mean words plan → plan.files ≡ [] → Rose before.input after.input → CouldNotRead words left told before after
  of_fetch : (plan : Plan) → Mean words plan → IsSome plan.config ⊎ (plan.files ≢ []) → Rose before.fetches after.fetches → CouldNotRead words left told before after
  of_missing : IsMissingAtTurn words left told → CouldNotRead words left told before after

-- Why something could not be written: the count of out rose, or that of errs; or that of `replace` rose, and the words say
-- that texts take the place of their sources.
pub data CouldNotWrite (words : List (List ℕ)) (before after : Counts) : Type 0 where
  of_out : Rose before.out after.out → CouldNotWrite words before after
  of_errs : Rose before.errs after.errs → CouldNotWrite words before after
  of_replace : (plan : Plan) → Mean words plan → plan.manner ≡ Rewrite → Rose before.replaces after.replaces → CouldNotWrite words before after

-- the counts of reading are as before
abbrev pub ReadsAreCalm : Counts → Counts → Type 0
ReadsAreCalm before after = (after.input ≡ before.input) × (after.fetches ≡ before.fetches)

-- the counts of writing are as before
abbrev pub WritesAreCalm : Counts → Counts → Type 0
WritesAreCalm before after = (after.replaces ≡ before.replaces) × (after.out ≡ before.out) × (after.errs ≡ before.errs)

-- no count rose
pub record NoneRose (before after : Counts) : Type 0 where
  pub input : Rose before.input after.input → ⊥
  pub fetches : Rose before.fetches after.fetches → ⊥
  pub replaces : Rose before.replaces after.replaces → ⊥
  pub out : Rose before.out after.out → ⊥
  pub errs : Rose before.errs after.errs → ⊥
