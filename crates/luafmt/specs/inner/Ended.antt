-- How the turns of some sources end, between two states of what a run acts on.
use Rattle.std.specs.Prelude.{◌≡◌, ◌⊎◌, ℕ, List, ◌∷◌, ◌++◌, take, Option, Some}
use Rattle.luf_io.specs.Count.{Rose}
use Rattle.luf_io.specs.Files.{FileMap, IsMissing}
use Rattle.luf_io.specs.Sink.{Appends}
use Rattle.luf_plan.specs.Plan.{Plan}
use Rattle.luf_plan.specs.declared.command.Manner.TheVariants.{Rewrite}
use Rattle.luafmt.specs.Job.{manner_of}
use Rattle.luafmt.specs.Config.{IsJob, IsRefusedConfig}
use Rattle.luafmt.specs.Counts.{Counts, ReadsAreCalm, WritesAreCalm}
use Rattle.luafmt.specs.Line.{line_of}
use Rattle.luafmt.specs.Outcome.{Origin, input, file, Turn, InTurn, origins, status_of, out_of, errs_of}
use Rattle.luafmt.specs.declared.job.Job.{Job}
use Rattle.luafmt.specs.declared.status.Status.{Status}
use Rattle.luafmt.specs.declared.status.Status.TheVariants.{ReadFault, WriteFault, NoMemory, Config}

-- what the files tell, what out and errs tell, and the counts
pub record World : Type 0 where
  pub told : Option FileMap
  pub out : Option (List ℕ)
  pub errs : Option (List ℕ)
  pub counts : Counts

abbrev pub world : Option FileMap → Option (List ℕ) → Option (List ℕ) → Counts → World
world told out errs counts = record { told = told; out = out; errs = errs; counts = counts }

-- all the sources came to their turns
pub record Through (job : Job) (left : Option (List ℕ)) (sources : List Origin) (before after : World) (status : Status) : Type 0 where
  pub turns : List Turn
  pub in_turn : InTurn job left before.told sources turns after.told
  pub status_is : status ≡ status_of turns
  pub out : Appends before.out (out_of turns) after.out
  pub errs : Appends before.errs (errs_of turns) after.errs
  pub counts : after.counts ≡ before.counts

-- why this source could not be read
abbrev pub CannotRead : Origin → Option FileMap → Counts → Counts → Type 0
CannotRead input told before after = Rose before.input after.input
CannotRead (file name) told before after = IsMissing told name ⊎ Rose before.fetches after.fetches

-- why something could not be written
abbrev pub CannotWrite : Job → Counts → Counts → Type 0
CannotWrite job before after = Rose before.out after.out ⊎ Rose before.errs after.errs ⊎ ((manner_of job ≡ Rewrite) × Rose before.replaces after.replaces)

-- the sources up to this one came to their turns, and it could not be read
pub record Unread (job : Job) (left : Option (List ℕ)) (sources : List Origin) (before after : World) : Type 0 where
  pub first : List Origin
  pub origin : Origin
  pub later : List Origin
  pub is : sources ≡ first ++ origin ∷ later
  pub turns : List Turn
  pub in_turn : InTurn job left before.told first turns after.told
  pub out : Appends before.out (out_of turns) after.out
  pub errs : Appends before.errs (errs_of turns) after.errs
  pub calm : WritesAreCalm before.counts after.counts
  pub cause : CannotRead origin after.told before.counts after.counts

-- the first sources came to their turns, and then no memory was found
pub record Starved (job : Job) (left : Option (List ℕ)) (sources : List Origin) (before after : World) : Type 0 where
  pub first : List Origin
  pub later : List Origin
  pub is : sources ≡ first ++ later
  pub turns : List Turn
  pub in_turn : InTurn job left before.told first turns after.told
  pub out : Appends before.out (out_of turns) after.out
  pub errs : Appends before.errs (errs_of turns) after.errs
  pub counts : after.counts ≡ before.counts

-- of what the first sources came to, a part was written
pub record Unwritten (job : Job) (left : Option (List ℕ)) (sources : List Origin) (before after : World) : Type 0 where
  pub first : List Origin
  pub later : List Origin
  pub is : sources ≡ first ++ later
  pub turns : List Turn
  pub in_turn : InTurn job left before.told first turns after.told
  pub out_bytes : ℕ
  pub errs_bytes : ℕ
  pub out : Appends before.out (take out_bytes (out_of turns)) after.out
  pub errs : Appends before.errs (take errs_bytes (errs_of turns)) after.errs
  pub calm : ReadsAreCalm before.counts after.counts
  pub cause : CannotWrite job before.counts after.counts

-- the turns ended before the last source was done
pub data Halted (job : Job) (left : Option (List ℕ)) (sources : List Origin) (before after : World) : Status → Type 0 where
  unread : Unread job left sources before after → Halted job left sources before after ReadFault
  starved : Starved job left sources before after → Halted job left sources before after NoMemory
  unwritten : Unwritten job left sources before after → Halted job left sources before after WriteFault

-- they ended, with all sources or before
abbrev pub Ended : Job → Option (List ℕ) → List Origin → World → World → Status → Type 0
Ended job left sources before after status = Through job left sources before after status ⊎ Halted job left sources before after status

-- the line of a file of options that is refused was written
pub record Told (plan : Plan) (before after : World) : Type 0 where
  pub line : List ℕ
  pub refused : IsRefusedConfig before.told plan.config line
  pub told : after.told ≡ before.told
  pub out : after.out ≡ before.out
  pub errs : Appends before.errs (line_of line) after.errs
  pub counts : after.counts ≡ before.counts

-- a part of it was
pub record Untold (plan : Plan) (before after : World) : Type 0 where
  pub line : List ℕ
  pub refused : IsRefusedConfig before.told plan.config line
  pub told : after.told ≡ before.told
  pub out : after.out ≡ before.out
  pub bytes : ℕ
  pub errs : Appends before.errs (take bytes (line_of line)) after.errs
  pub calm : ReadsAreCalm before.counts after.counts
  pub cause : Rose before.counts.errs after.counts.errs

-- the file of options could not be read
pub record Unfetched (plan : Plan) (before after : World) : Type 0 where
  pub name : List ℕ
  pub is : plan.config ≡ Some name
  pub told : after.told ≡ before.told
  pub out : after.out ≡ before.out
  pub errs : after.errs ≡ before.errs
  pub calm : WritesAreCalm before.counts after.counts
  pub cause : IsMissing before.told name ⊎ Rose before.counts.fetches after.counts.fetches

-- How the run of a plan ends: by its turns, or at its file of options.
pub data RunEnded (plan : Plan) (left : Option (List ℕ)) (before after : World) : Status → Type 0 where
  by_turns : (job : Job) (status : Status) → IsJob plan before.told job → Ended job left (origins plan.files) before after status → RunEnded plan left before after status
  by_config : Told plan before after → RunEnded plan left before after Config
  by_line : Untold plan before after → RunEnded plan left before after WriteFault
  by_fetch : Unfetched plan before after → RunEnded plan left before after ReadFault
  by_memory : after ≡ before → RunEnded plan left before after NoMemory
