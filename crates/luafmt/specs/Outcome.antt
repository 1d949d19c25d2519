-- What a run comes to, by its words, the contents of its input and its files. Our own rules.
use Rattle.std.specs.Prelude.{◌≡◌, ◌≢◌, ◌⊎◌, ℕ, List, [], ◌∷◌, ◌++◌, map, codes, Option, Some, None, option_map, IsSome}
use Rattle.std.specs.List.{All}
use Rattle.std.specs.Option.{ForSome}
use Rattle.std.specs.FinMap.{get, insert}
use Rattle.luf_io.specs.Files.{FileMap, IsMissing}
use Rattle.luf_plan.specs.Plan.{Plan, Mean, AreNoCommand}
use Rattle.luf_plan.specs.declared.command.Manner.TheVariants.{Show, Compare, Rewrite}
use Rattle.luf_work.specs.declared.refusal.Refusal.{Refusal}
use Rattle.luafmt.specs.Job.{manner_of, Writes, Refuses}
use Rattle.luafmt.specs.Config.{IsJob, IsRefusedConfig}
use Rattle.luafmt.specs.Line.{line_of, refusal_line, differs_line, usage_line}
use Rattle.luafmt.specs.declared.job.Job.{Job}
use Rattle.luafmt.specs.declared.status.Status.{Status}
use Rattle.luafmt.specs.declared.status.Status.TheVariants.{Done, Differs, Usage, Refused, ReadFault, WriteFault, NoMemory, Config}

-- ---- one source

-- a source of a run: its input, or a file by its name
pub data Origin : Type 0 where
  input : Origin
  file : List ℕ → Origin

-- what a source is called in lines
abbrev pub name_of : Origin → List ℕ
name_of input = codes "-"
name_of (file name) = name

-- These are the contents of a source: those of the input, or those of the file, where they are told.
abbrev pub Holds : Option (List ℕ) → Option FileMap → Origin → List ℕ → Type 0
Holds left told input contents = ForSome left (λ bytes. bytes ≡ contents)
Holds left told (file name) contents = ForSome told (λ files. get files name ≡ Some contents)

-- the contents of a source are told
abbrev pub IsTold : Option (List ℕ) → Option FileMap → Origin → Type 0
IsTold left told input = IsSome left
IsTold left told (file name) = IsSome told

-- What a source comes to: a status, what goes to out and to errs, and what its file is to hold, where that is to change.
pub record Turn : Type 0 where
  pub status : Status
  pub out : List ℕ
  pub errs : List ℕ
  pub rewritten : Option (List ℕ)

-- The table of answers: what a source of this name with these contents comes to. A source is either accepted or refused by
-- a job. What becomes of the text of one that is accepted, its manner says: it is shown, or compared with the contents, or it
-- takes their place.
pub data Comes : Job → List ℕ → List ℕ → Turn → Type 0 where
  refused : (job : Job) (name contents line : List ℕ) (refusal : Refusal) → Refuses job contents refusal → refusal_line name refusal ≡ Some line
      → Comes job name contents (record { status = Refused; out = []; errs = line_of line; rewritten = None })
  shown : (job : Job) (name contents text : List ℕ) → manner_of job ≡ Show → Writes job contents text
      → Comes job name contents (record { status = Done; out = text; errs = []; rewritten = None })
  unchanged : (job : Job) (name contents : List ℕ) → manner_of job ≢ Show → Writes job contents contents
      → Comes job name contents (record { status = Done; out = []; errs = []; rewritten = None })
  differs : (job : Job) (name contents text : List ℕ) → manner_of job ≡ Compare → Writes job contents text → text ≢ contents
      → Comes job name contents (record { status = Differs; out = []; errs = line_of (differs_line name); rewritten = None })
  replaced : (job : Job) (name contents text : List ℕ) → manner_of job ≡ Rewrite → Writes job contents text → text ≢ contents
      → Comes job name contents (record { status = Done; out = []; errs = []; rewritten = Some text })

-- ---- sources in turn

-- the files after a turn, where files are told
abbrev pub rewritten_by : Origin → Option (List ℕ) → Option FileMap → Option FileMap
rewritten_by (file name) (Some bytes) told = option_map (λ files. insert files name bytes) told
rewritten_by _ _ told = told

-- Sources one after another come to these turns. Each file is taken as it is at its turn: the first files are those before
-- all turns, the last those after them.
pub data InTurn : Job → Option (List ℕ) → Option FileMap → List Origin → List Turn → Option FileMap → Type 0 where
  no_more : (job : Job) (left : Option (List ℕ)) (told : Option FileMap) → InTurn job left told [] [] told
  one_more : (job : Job) (left : Option (List ℕ)) (told after : Option FileMap) (origin : Origin) (origins : List Origin) (contents : List ℕ) (first : Turn) (turns : List Turn)
      → Holds left told origin contents → Comes job (name_of origin) contents first
      → InTurn job left (rewritten_by origin first.rewritten told) origins turns after
      → InTurn job left told (origin ∷ origins) (first ∷ turns) after

-- the sources of a plan: its files, or the input
abbrev pub origins : List (List ℕ) → List Origin
origins [] = input ∷ []
origins (name ∷ names) = file name ∷ map file names

-- the first status that is not `Done`
abbrev pub or_next : Status → Status → Status
or_next Done next = next
or_next status next = status

abbrev pub status_of : List Turn → Status
status_of [] = Done
status_of (turn ∷ turns) = or_next turn.status (status_of turns)

-- all that goes to out, and to errs
abbrev pub out_of : List Turn → List ℕ
out_of [] = []
out_of (turn ∷ turns) = turn.out ++ out_of turns

abbrev pub errs_of : List Turn → List ℕ
errs_of [] = []
errs_of (turn ∷ turns) = turn.errs ++ errs_of turns

-- ---- a run

-- the status, what goes to out and to errs, and the files after the run, where they are told
pub record Outcome : Type 0 where
  pub status : Status
  pub out : List ℕ
  pub errs : List ℕ
  pub files : Option FileMap

abbrev pub outcome_of : List Turn → Option FileMap → Outcome
outcome_of turns files = record { status = status_of turns; out = out_of turns; errs = errs_of turns; files = files }

-- words that mean no plan
abbrev pub usage_outcome : Option FileMap → Outcome
usage_outcome told = record { status = Usage; out = []; errs = usage_line; files = told }

-- a file of options that is refused
abbrev pub config_outcome : List ℕ → Option FileMap → Outcome
config_outcome line told = record { status = Config; out = []; errs = line_of line; files = told }

-- The outcome of a run with these words, over an input with this left and over these files. The file of options is looked
-- at before any source.
pub data IsOutcome : List (List ℕ) → Option (List ℕ) → Option FileMap → Outcome → Type 0 where
  of_usage : (words : List (List ℕ)) (left : Option (List ℕ)) (told : Option FileMap) → AreNoCommand words → IsOutcome words left told (usage_outcome told)
  of_config : (words : List (List ℕ)) (left : Option (List ℕ)) (told : Option FileMap) (plan : Plan) (line : List ℕ) → Mean words plan
      → IsRefusedConfig told plan.config line → IsOutcome words left told (config_outcome line told)
  of_turns : (words : List (List ℕ)) (left : Option (List ℕ)) (told after : Option FileMap) (plan : Plan) (job : Job) (turns : List Turn) → Mean words plan → IsJob plan told job
      → InTurn job left told (origins plan.files) turns after → IsOutcome words left told (outcome_of turns after)

-- What a run that is cut short may have come to before: nothing, the line of `Usage` or of `Config`, or the turns of its
-- first sources.
pub data IsBegun : List (List ℕ) → Option (List ℕ) → Option FileMap → Outcome → Type 0 where
  begun_nothing : (words : List (List ℕ)) (left : Option (List ℕ)) (told : Option FileMap) → IsBegun words left told (outcome_of [] told)
  begun_usage : (words : List (List ℕ)) (left : Option (List ℕ)) (told : Option FileMap) → AreNoCommand words → IsBegun words left told (usage_outcome told)
  begun_config : (words : List (List ℕ)) (left : Option (List ℕ)) (told : Option FileMap) (plan : Plan) (line : List ℕ) → Mean words plan
      → IsRefusedConfig told plan.config line → IsBegun words left told (config_outcome line told)
  begun_turns : (words : List (List ℕ)) (left : Option (List ℕ)) (told after : Option FileMap) (plan : Plan) (job : Job) (first later : List Origin) (turns : List Turn) → Mean words plan → IsJob plan told job
      → origins plan.files ≡ first ++ later → InTurn job left told first turns after → IsBegun words left told (outcome_of turns after)

-- the contents of the file of options, if one is named, and of all sources are told
abbrev pub AreTold : List (List ℕ) → Option (List ℕ) → Option FileMap → Type 0
AreTold words left told = (plan : Plan) → Mean words plan → (IsSome plan.config → IsSome told) × All (IsTold left told) (origins plan.files)

-- a file that the words name as a source is missing among the told files, at its turn
pub record IsFileMissing (words : List (List ℕ)) (left : Option (List ℕ)) (told : Option FileMap) : Type 0 where
  pub plan : Plan
  pub job : Job
  pub mean : Mean words plan
  pub is_job : IsJob plan told job
  pub first : List Origin
  pub name : List ℕ
  pub later : List Origin
  pub is : origins plan.files ≡ first ++ file name ∷ later
  pub turns : List Turn
  pub before : Option FileMap
  pub in_turn : InTurn job left told first turns before
  pub missing : IsMissing before name

-- the file of options that they name is
pub record IsConfigMissing (words : List (List ℕ)) (told : Option FileMap) : Type 0 where
  pub plan : Plan
  pub mean : Mean words plan
  pub name : List ℕ
  pub is : plan.config ≡ Some name
  pub missing : IsMissing told name

-- a file that the words name is missing at its turn
abbrev pub IsMissingAtTurn : List (List ℕ) → Option (List ℕ) → Option FileMap → Type 0
IsMissingAtTurn words left told = IsConfigMissing words told ⊎ IsFileMissing words left told

-- nothing cut the run short: no fault, and no want of memory
abbrev pub RanThrough : Status → Type 0
RanThrough Done = Unit {0}
RanThrough Differs = Unit {0}
RanThrough Usage = Unit {0}
RanThrough Refused = Unit {0}
RanThrough ReadFault = ⊥
RanThrough WriteFault = ⊥
RanThrough NoMemory = ⊥
RanThrough Config = Unit {0}
