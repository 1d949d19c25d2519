-- What a run comes to, from the plan of its words and the end of its turns.
use Rattle.std.proofs.Common.{◌≡◌, ◌≢◌, ◌⊎◌, inl, inr, ℕ, ◌≤◌, List, [], ◌∷◌, ◌++◌, map, length, take, Option, Some, IsSome, refl, sym, ap, ◌∙◌, subst, append-nil, arith}
use Rattle.std.specs.List.{All}
use Rattle.luf_io.specs.Count.{Rose}
use Rattle.luf_io.specs.Files.{FileMap, IsMissing}
use Rattle.luf_io.specs.Sink.{Appends}
use Rattle.luf_plan.specs.Command.{TakesFiles}
use Rattle.luf_plan.specs.Plan.{Plan, Mean, AreNoCommand}
use Rattle.luf_plan.specs.declared.command.Command.TheVariants as command
use Rattle.luf_plan.specs.declared.command.Manner.TheVariants.{Show, Rewrite}
use Rattle.luf_plan.proofs.OnePlan.{one_plan}
use Rattle.luf_work.specs.Minify.{KeepsProgram}
use Rattle.luf_work.proofs.MinifyLemmas.{keeps_program}
use Rattle.luafmt.specs.Config.{IsJob, IsRefusedConfig}
use Rattle.luafmt.specs.Counts.{Counts, CouldNotRead, of_input, of_fetch, of_missing, CouldNotWrite, of_out, of_errs, of_replace, ReadsAreCalm, WritesAreCalm, NoneRose}
use Rattle.luafmt.specs.Outcome.{Origin, input, file, Holds, IsTold, Turn, refused, shown, unchanged, differs, replaced, InTurn, no_more, one_more, origins, status_of, out_of, Outcome, outcome_of, config_outcome, IsOutcome, of_usage, of_config, of_turns, IsBegun, begun_nothing, begun_config, begun_turns, AreTold, IsMissingAtTurn, RanThrough}
use Rattle.luafmt.specs.declared.job.Job.{Job}
use Rattle.luafmt.specs.declared.job.Job.TheVariants as job
use Rattle.luafmt.specs.declared.status.Status.{Status}
use Rattle.luafmt.specs.declared.status.Status.TheVariants.{Done, Usage, ReadFault, WriteFault, NoMemory, Config}
use Rattle.luafmt.specs.inner.Ended.{World, Through, CannotRead, CannotWrite, unread, starved, unwritten, Ended, RunEnded, by_turns, by_config, by_line, by_fetch, by_memory}
use Rattle.luafmt.proofs.Once.{one_job, refused_no_job, config_held, same_status, IsOfTurn, turns_status, there, told_back, files_told}
use Rattle.luafmt.proofs.Turns.{nothing_put}

-- ---- the status

through_status : (j : Job) (left : Option (List ℕ)) (sources : List Origin) (before after : World) (s : Status) → Through j left sources before after s → IsOfTurn s
through_status j left sources before after s t = subst IsOfTurn (sym t.status_is) (turns_status j left before.told after.told sources t.turns t.in_turn)

-- the statuses that turns do not have
not_of_turns : (j : Job) (left : Option (List ℕ)) (sources : List Origin) (before after : World) (s other : Status) → Through j left sources before after s → s ≡ other → IsOfTurn other
not_of_turns j left sources before after s other t e = subst IsOfTurn e (through_status j left sources before after s t)

pub turns_no_config : (j : Job) (left : Option (List ℕ)) (sources : List Origin) (before after : World) (s : Status) → Ended j left sources before after s → s ≢ Config
turns_no_config j left sources before after s (inl t) e = not_of_turns j left sources before after s Config t e
turns_no_config j left sources before after s (inr (unread u)) e = absurd cc
turns_no_config j left sources before after s (inr (starved u)) e = absurd cc
turns_no_config j left sources before after s (inr (unwritten u)) e = absurd cc

turns_no_usage : (j : Job) (left : Option (List ℕ)) (sources : List Origin) (before after : World) (s : Status) → Ended j left sources before after s → s ≢ Usage
turns_no_usage j left sources before after s (inl t) e = not_of_turns j left sources before after s Usage t e
turns_no_usage j left sources before after s (inr (unread u)) e = absurd cc
turns_no_usage j left sources before after s (inr (starved u)) e = absurd cc
turns_no_usage j left sources before after s (inr (unwritten u)) e = absurd cc

pub no_usage : (plan : Plan) (left : Option (List ℕ)) (before after : World) (s : Status) → RunEnded plan left before after s → s ≢ Usage
no_usage plan left before after s (by_turns j _ is ended) e = turns_no_usage j left (origins plan.files) before after s ended e
no_usage plan left before after s (by_config t) e = absurd cc
no_usage plan left before after s (by_line u) e = absurd cc
no_usage plan left before after s (by_fetch u) e = absurd cc
no_usage plan left before after s (by_memory u) e = absurd cc

-- ---- the outcome

module _ (words : List (List ℕ)) (left : Option (List ℕ)) (plan : Plan) (before after : World) (m : Mean words plan) where
  -- what a run has written that nothing cut short
  abbrev HasOutcome : Status → Type 0
  HasOutcome s = (w : Outcome) × IsOutcome words left before.told w × (s ≡ w.status) × Appends before.out w.out after.out × Appends before.errs w.errs after.errs × (after.told ≡ w.files)

  outcome_turns : (j : Job) (s : Status) → IsJob plan before.told j → Ended j left (origins plan.files) before after s → RanThrough s → HasOutcome s
  outcome_turns j s is (inl t) ran = (outcome_of t.turns after.told, of_turns words left before.told after.told plan j t.turns m is t.in_turn, t.status_is, t.out, t.errs, refl)
  outcome_turns j s is (inr (unread u)) ran = absurd ran
  outcome_turns j s is (inr (starved u)) ran = absurd ran
  outcome_turns j s is (inr (unwritten u)) ran = absurd ran

  pub outcome_ended : (s : Status) → RunEnded plan left before after s → RanThrough s → HasOutcome s
  outcome_ended s (by_turns j _ is ended) ran = outcome_turns j s is ended ran
  outcome_ended s (by_config t) ran = (config_outcome t.line before.told, of_config words left before.told plan t.line m t.refused, refl, nothing_put before.out after.out t.out, t.errs, t.told)
  outcome_ended s (by_line u) ran = absurd ran
  outcome_ended s (by_fetch u) ran = absurd ran
  outcome_ended s (by_memory u) ran = absurd ran

  -- what a run that was cut short has written before
  abbrev HasBegun : Type 0
  HasBegun = (w : Outcome) × IsBegun words left before.told w × Appends before.out w.out after.out × Appends before.errs w.errs after.errs × (after.told ≡ w.files)

  stopped_turns : (j : Job) (s : Status) → IsJob plan before.told j → Ended j left (origins plan.files) before after s → (s ≡ ReadFault) ⊎ (s ≡ NoMemory) → HasBegun
  stopped_turns j s is (inl t) (inl e) = absurd (not_of_turns j left (origins plan.files) before after s ReadFault t e)
  stopped_turns j s is (inl t) (inr e) = absurd (not_of_turns j left (origins plan.files) before after s NoMemory t e)
  stopped_turns j s is (inr (unread u)) e = (outcome_of u.turns after.told, begun_turns words left before.told after.told plan j u.first (u.origin ∷ u.later) u.turns m is u.is u.in_turn, u.out, u.errs, refl)
  stopped_turns j s is (inr (starved u)) e = (outcome_of u.turns after.told, begun_turns words left before.told after.told plan j u.first u.later u.turns m is u.is u.in_turn, u.out, u.errs, refl)
  stopped_turns j s is (inr (unwritten u)) (inl e) = absurd cc
  stopped_turns j s is (inr (unwritten u)) (inr e) = absurd cc

  pub stopped_ended : (s : Status) → RunEnded plan left before after s → (s ≡ ReadFault) ⊎ (s ≡ NoMemory) → HasBegun
  stopped_ended s (by_turns j _ is ended) e = stopped_turns j s is ended e
  stopped_ended s (by_config t) (inl e) = absurd cc
  stopped_ended s (by_config t) (inr e) = absurd cc
  stopped_ended s (by_line u) (inl e) = absurd cc
  stopped_ended s (by_line u) (inr e) = absurd cc
  stopped_ended s (by_fetch u) e = (outcome_of [] before.told, begun_nothing words left before.told, nothing_put before.out after.out u.out, nothing_put before.errs after.errs u.errs, u.told)
  stopped_ended s (by_memory u) e =
      (outcome_of [] before.told, begun_nothing words left before.told, nothing_put before.out after.out (ap (λ (v : World). v.out) u), nothing_put before.errs after.errs (ap (λ (v : World). v.errs) u), ap (λ (v : World). v.told) u)

  -- and of what a part was written
  abbrev HasPart : Type 0
  HasPart = (w : Outcome) × (n : ℕ) × (k : ℕ) × IsBegun words left before.told w × Appends before.out (take n w.out) after.out × Appends before.errs (take k w.errs) after.errs × (after.told ≡ w.files)

  part_turns : (j : Job) (s : Status) → IsJob plan before.told j → Ended j left (origins plan.files) before after s → s ≡ WriteFault → HasPart
  part_turns j s is (inl t) e = absurd (not_of_turns j left (origins plan.files) before after s WriteFault t e)
  part_turns j s is (inr (unread u)) e = absurd cc
  part_turns j s is (inr (starved u)) e = absurd cc
  part_turns j s is (inr (unwritten u)) e = (outcome_of u.turns after.told, u.out_bytes, u.errs_bytes, begun_turns words left before.told after.told plan j u.first u.later u.turns m is u.is u.in_turn, u.out, u.errs, refl)

  pub part_ended : (s : Status) → RunEnded plan left before after s → s ≡ WriteFault → HasPart
  part_ended s (by_turns j _ is ended) e = part_turns j s is ended e
  part_ended s (by_config t) e = absurd cc
  part_ended s (by_line u) e = (config_outcome u.line before.told, 0, u.bytes, begun_config words left before.told plan u.line m u.refused, nothing_put before.out after.out u.out, u.errs, u.told)
  part_ended s (by_fetch u) e = absurd cc
  part_ended s (by_memory u) e = absurd cc

-- ---- causes

-- a source that is named stands for a file, and one that is not for the input
no_input : (names : List (List ℕ)) (first later : List Origin) → map file names ≡ first ++ input ∷ later → ⊥
no_input [] [] later e = absurd cc
no_input [] (x ∷ first) later e = absurd cc
no_input (name ∷ names) [] later e = absurd cc
no_input (name ∷ names) (x ∷ first) later e = no_input names first later cc

reads_input : (files : List (List ℕ)) (first later : List Origin) → origins files ≡ first ++ input ∷ later → files ≡ []
reads_input [] first later e = refl
reads_input (name ∷ names) first later e = absurd (no_input (name ∷ names) first later e)

reads_file : (files : List (List ℕ)) (first later : List Origin) (name : List ℕ) → origins files ≡ first ++ file name ∷ later → files ≢ []
reads_file [] [] later name e none = absurd cc
reads_file [] (x ∷ []) later name e none = absurd cc
reads_file [] (x ∷ y ∷ first) later name e none = absurd cc
reads_file (n ∷ names) first later name e none = absurd cc

module _ (words : List (List ℕ)) (left : Option (List ℕ)) (plan : Plan) (before after : World) (m : Mean words plan) where
  could_not_read : (j : Job) (origin : Origin) (first later : List Origin) (turns : List Turn) → IsJob plan before.told j
      → origins plan.files ≡ first ++ origin ∷ later → InTurn j left before.told first turns after.told → CannotRead origin after.told before.counts after.counts → CouldNotRead words left before.told before.counts after.counts
  could_not_read j input first later turns is_job is in_turn rose = of_input plan m (reads_input plan.files first later is) rose
  could_not_read j (file name) first later turns is_job is in_turn (inl missing) = of_missing (inr (record {
    plan = plan;
    job = j;
    mean = m;
    is_job = is_job;
    first = first;
    name = name;
    later = later;
    is = is;
    turns = turns;
    before = after.told;
    in_turn = in_turn;
    missing = missing;
  }))
  could_not_read j (file name) first later turns is_job is in_turn (inr rose) = of_fetch plan m (inr (reads_file plan.files first later name is)) rose

  could_not_fetch : (name : List ℕ) → plan.config ≡ Some name → IsMissing before.told name ⊎ Rose before.counts.fetches after.counts.fetches → CouldNotRead words left before.told before.counts after.counts
  could_not_fetch name is (inl missing) = of_missing (inl (record { plan = plan; mean = m; name = name; is = is; missing = missing }))
  could_not_fetch name is (inr rose) = of_fetch plan m (inl (subst (λ (c : Option (List ℕ)). IsSome c) (sym is) refl)) rose

  read_fault_turns : (j : Job) (s : Status) → IsJob plan before.told j → Ended j left (origins plan.files) before after s → s ≡ ReadFault → CouldNotRead words left before.told before.counts after.counts
  read_fault_turns j s is (inl t) e = absurd (not_of_turns j left (origins plan.files) before after s ReadFault t e)
  read_fault_turns j s is (inr (unread u)) e = could_not_read j u.origin u.first u.later u.turns is u.is u.in_turn u.cause
  read_fault_turns j s is (inr (starved u)) e = absurd cc
  read_fault_turns j s is (inr (unwritten u)) e = absurd cc

  pub read_fault_ended : (s : Status) → RunEnded plan left before after s → s ≡ ReadFault → CouldNotRead words left before.told before.counts after.counts
  read_fault_ended s (by_turns j _ is ended) e = read_fault_turns j s is ended e
  read_fault_ended s (by_config t) e = absurd cc
  read_fault_ended s (by_line u) e = absurd cc
  read_fault_ended s (by_fetch u) e = could_not_fetch u.name u.is u.cause
  read_fault_ended s (by_memory u) e = absurd cc

  could_not_write : (j : Job) → IsJob plan before.told j → CannotWrite j before.counts after.counts → CouldNotWrite words before.counts after.counts
  could_not_write j is (inl rose) = of_out rose
  could_not_write j is (inr (inl rose)) = of_errs rose
  could_not_write (job.Format o x) is (inr (inr h)) = of_replace plan m (is.1 ∙ h.0) h.1
  could_not_write job.Minify is (inr (inr h)) = let e : Show ≡ Rewrite = h.0 in absurd cc
  could_not_write job.Check is (inr (inr h)) = let e : Show ≡ Rewrite = h.0 in absurd cc
  could_not_write job.List is (inr (inr h)) = let e : Show ≡ Rewrite = h.0 in absurd cc

  write_fault_turns : (j : Job) (s : Status) → IsJob plan before.told j → Ended j left (origins plan.files) before after s → s ≡ WriteFault → CouldNotWrite words before.counts after.counts
  write_fault_turns j s is (inl t) e = absurd (not_of_turns j left (origins plan.files) before after s WriteFault t e)
  write_fault_turns j s is (inr (unread u)) e = absurd cc
  write_fault_turns j s is (inr (starved u)) e = absurd cc
  write_fault_turns j s is (inr (unwritten u)) e = could_not_write j is u.cause

  pub write_fault_ended : (s : Status) → RunEnded plan left before after s → s ≡ WriteFault → CouldNotWrite words before.counts after.counts
  write_fault_ended s (by_turns j _ is ended) e = write_fault_turns j s is ended e
  write_fault_ended s (by_config t) e = absurd cc
  write_fault_ended s (by_line u) e = of_errs u.cause
  write_fault_ended s (by_fetch u) e = absurd cc
  write_fault_ended s (by_memory u) e = absurd cc

calm_reads : (before after : Counts) → after ≡ before → ReadsAreCalm before after
calm_reads before after e = (ap (λ (k : Counts). k.input) e, ap (λ (k : Counts). k.fetches) e)

calm_writes : (before after : Counts) → after ≡ before → WritesAreCalm before after
calm_writes before after e = (ap (λ (k : Counts). k.replaces) e, ap (λ (k : Counts). k.out) e, ap (λ (k : Counts). k.errs) e)

module _ (plan : Plan) (left : Option (List ℕ)) (before after : World) where
  read_calm_turns : (j : Job) (s : Status) → Ended j left (origins plan.files) before after s → s ≢ ReadFault → ReadsAreCalm before.counts after.counts
  read_calm_turns j s (inl t) no_fault = calm_reads before.counts after.counts t.counts
  read_calm_turns j s (inr (unread u)) no_fault = absurd (no_fault refl)
  read_calm_turns j s (inr (starved u)) no_fault = calm_reads before.counts after.counts u.counts
  read_calm_turns j s (inr (unwritten u)) no_fault = u.calm

  pub read_calm_ended : (s : Status) → RunEnded plan left before after s → s ≢ ReadFault → ReadsAreCalm before.counts after.counts
  read_calm_ended s (by_turns j _ is ended) no_fault = read_calm_turns j s ended no_fault
  read_calm_ended s (by_config t) no_fault = calm_reads before.counts after.counts t.counts
  read_calm_ended s (by_line u) no_fault = u.calm
  read_calm_ended s (by_fetch u) no_fault = absurd (no_fault refl)
  read_calm_ended s (by_memory u) no_fault = calm_reads before.counts after.counts (ap (λ (v : World). v.counts) u)

  write_calm_turns : (j : Job) (s : Status) → Ended j left (origins plan.files) before after s → s ≢ WriteFault → WritesAreCalm before.counts after.counts
  write_calm_turns j s (inl t) no_fault = calm_writes before.counts after.counts t.counts
  write_calm_turns j s (inr (unread u)) no_fault = u.calm
  write_calm_turns j s (inr (starved u)) no_fault = calm_writes before.counts after.counts u.counts
  write_calm_turns j s (inr (unwritten u)) no_fault = absurd (no_fault refl)

  pub write_calm_ended : (s : Status) → RunEnded plan left before after s → s ≢ WriteFault → WritesAreCalm before.counts after.counts
  write_calm_ended s (by_turns j _ is ended) no_fault = write_calm_turns j s ended no_fault
  write_calm_ended s (by_config t) no_fault = calm_writes before.counts after.counts t.counts
  write_calm_ended s (by_line u) no_fault = absurd (no_fault refl)
  write_calm_ended s (by_fetch u) no_fault = u.calm
  write_calm_ended s (by_memory u) no_fault = calm_writes before.counts after.counts (ap (λ (v : World). v.counts) u)

-- ---- a run that has every outcome that there is

not_missing : (left : Option (List ℕ)) (told : Option FileMap) (name contents : List ℕ) → Holds left told (file name) contents → IsMissing told name → ⊥
not_missing left told name contents holds missing = let found = holds missing.0 missing.1 in let none = missing.2 in absurd cc

-- a source whose turn is among others was there
no_cause : (left : Option (List ℕ)) (told : Option FileMap) (origin : Origin) (before after : Counts) (contents : List ℕ) → Holds left told origin contents → NoneRose before after → CannotRead origin told before after → ⊥
no_cause left told input before after contents holds calm rose = calm.input rose
no_cause left told (file name) before after contents holds calm (inl missing) = not_missing left told name contents holds missing
no_cause left told (file name) before after contents holds calm (inr rose) = calm.fetches rose

no_write_cause : (j : Job) (before after : Counts) → NoneRose before after → CannotWrite j before after → ⊥
no_write_cause j before after calm (inl rose) = calm.out rose
no_write_cause j before after calm (inr (inl rose)) = calm.errs rose
no_write_cause j before after calm (inr (inr h)) = calm.replaces h.1

complete_turns : (j : Job) (left : Option (List ℕ)) (sources : List Origin) (before after : World) (s : Status) (last : Option FileMap) (turns : List Turn) → Ended j left sources before after s → InTurn j left before.told sources turns last
    → All (IsTold left before.told) sources → NoneRose before.counts after.counts → (s ≡ status_of turns) ⊎ (s ≡ NoMemory)
complete_turns j left sources before after s last turns (inl t) in_turn all calm = inl (t.status_is ∙ same_status j left before.told before.told after.told last sources t.turns turns refl all t.in_turn in_turn)
complete_turns j left sources before after s last turns (inr (unread u)) in_turn all calm =
    let is_there = there j left before.told before.told last after.told u.first u.later u.origin turns u.turns refl (subst (All (IsTold left before.told)) u.is all) (subst (λ (xs : List Origin). InTurn j left before.told xs turns last) u.is in_turn) u.in_turn in
    absurd (no_cause left after.told u.origin before.counts after.counts is_there.0 is_there.1 calm u.cause)
complete_turns j left sources before after s last turns (inr (starved u)) in_turn all calm = inr refl
complete_turns j left sources before after s last turns (inr (unwritten u)) in_turn all calm = absurd (no_write_cause j before.counts after.counts calm u.cause)

missing_turns : (j : Job) (left : Option (List ℕ)) (sources first later : List Origin) (name : List ℕ) (before after : World) (s : Status) (mid : Option FileMap) (turns : List Turn) → Ended j left sources before after s → sources ≡ first ++ file name ∷ later
    → InTurn j left before.told first turns mid → IsMissing mid name → All (IsTold left before.told) sources → NoneRose before.counts after.counts → (s ≡ ReadFault) ⊎ (s ≡ NoMemory)
missing_turns j left sources first later name before after s mid turns (inl t) is in_turn missing all calm =
    let is_there = there j left before.told before.told after.told mid first later (file name) t.turns turns refl (subst (All (IsTold left before.told)) is all) (subst (λ (xs : List Origin). InTurn j left before.told xs t.turns after.told) is t.in_turn) in_turn in
    absurd (not_missing left mid name is_there.0 is_there.1 missing)
missing_turns j left sources first later name before after s mid turns (inr (unread u)) is in_turn missing all calm = inl refl
missing_turns j left sources first later name before after s mid turns (inr (starved u)) is in_turn missing all calm = inr refl
missing_turns j left sources first later name before after s mid turns (inr (unwritten u)) is in_turn missing all calm = absurd (no_write_cause j before.counts after.counts calm u.cause)

-- the files of a plan whose files are told
plan_told : (files : List (List ℕ)) (left : Option (List ℕ)) (told : Option FileMap) → files ≢ [] → IsSome told → All (IsTold left told) (origins files)
plan_told [] left told some is = absurd (some refl)
plan_told (name ∷ names) left told some is = files_told left told (name ∷ names) is

missing_told : (told : Option FileMap) (name : List ℕ) → IsMissing told name → IsSome told
missing_told told name missing = subst (λ (o : Option FileMap). IsSome o) (sym missing.1) refl

module _ (words : List (List ℕ)) (left : Option (List ℕ)) (plan : Plan) (before after : World) (m : Mean words plan) (calm : NoneRose before.counts after.counts) where
  -- where the file of options is there, it was fetched
  no_fetch_cause : (name : List ℕ) → plan.config ≡ Some name → (IsMissing before.told name → ⊥) → IsMissing before.told name ⊎ Rose before.counts.fetches after.counts.fetches → ⊥
  no_fetch_cause name is there (inl missing) = there missing
  no_fetch_cause name is there (inr rose) = calm.fetches rose

  config_complete : (line : List ℕ) (s : Status) → RunEnded plan left before after s → (IsSome plan.config → IsSome before.told) → IsRefusedConfig before.told plan.config line → (s ≡ Config) ⊎ (s ≡ NoMemory)
  config_complete line s (by_turns j _ is ended) told why = absurd (refused_no_job words plan before.told line j m told why is)
  config_complete line s (by_config t) told why = inl refl
  config_complete line s (by_line u) told why = absurd (calm.errs u.cause)
  config_complete line s (by_fetch u) told why = absurd (no_fetch_cause u.name u.is (λ missing. config_held words plan before.told u.name m u.is missing (inl (line, why))) u.cause)
  config_complete line s (by_memory u) told why = inr refl

  turns_complete : (j : Job) (last : Option FileMap) (turns : List Turn) (s : Status) → RunEnded plan left before after s → (IsSome plan.config → IsSome before.told) → All (IsTold left before.told) (origins plan.files)
      → IsJob plan before.told j → InTurn j left before.told (origins plan.files) turns last → (s ≡ status_of turns) ⊎ (s ≡ NoMemory)
  turns_complete j last turns s (by_turns k _ is ended) told all is_job in_turn =
      complete_turns k left (origins plan.files) before after s last turns ended (subst (λ (x : Job). InTurn x left before.told (origins plan.files) turns last) (one_job plan before.told j k told is_job is) in_turn) all calm
  turns_complete j last turns s (by_config t) told all is_job in_turn = absurd (refused_no_job words plan before.told t.line j m told t.refused is_job)
  turns_complete j last turns s (by_line u) told all is_job in_turn = absurd (calm.errs u.cause)
  turns_complete j last turns s (by_fetch u) told all is_job in_turn = absurd (no_fetch_cause u.name u.is (λ missing. config_held words plan before.told u.name m u.is missing (inr (j, is_job))) u.cause)
  turns_complete j last turns s (by_memory u) told all is_job in_turn = inr refl

  pub complete_ended : (s : Status) → RunEnded plan left before after s → (w : Outcome) → IsOutcome words left before.told w → AreTold words left before.told → (s ≡ w.status) ⊎ (s ≡ NoMemory)
  complete_ended s ended w (of_usage _ _ _ other) told = absurd (other plan m)
  complete_ended s ended w (of_config _ _ _ planned line n why) told =
      config_complete line s ended (told plan m).0 (subst (λ (p : Plan). IsRefusedConfig before.told p.config line) (one_plan words planned plan n m) why)
  complete_ended s ended w (of_turns _ _ _ last planned j turns n is_job in_turn) told =
      let same : planned ≡ plan = one_plan words planned plan n m in
      turns_complete j last turns s ended (told plan m).0 (told plan m).1 (subst (λ (p : Plan). IsJob p before.told j) same is_job) (subst (λ (p : Plan). InTurn j left before.told (origins p.files) turns last) same in_turn)

  config_missing : (name : List ℕ) (s : Status) → plan.config ≡ Some name → IsMissing before.told name → RunEnded plan left before after s → (s ≡ ReadFault) ⊎ (s ≡ NoMemory)
  config_missing name s is missing (by_turns j _ is_job ended) = absurd (config_held words plan before.told name m is missing (inr (j, is_job)))
  config_missing name s is missing (by_config t) = absurd (config_held words plan before.told name m is missing (inl (t.line, t.refused)))
  config_missing name s is missing (by_line u) = absurd (calm.errs u.cause)
  config_missing name s is missing (by_fetch u) = inl refl
  config_missing name s is missing (by_memory u) = inr refl

  file_missing : (j : Job) (first later : List Origin) (name : List ℕ) (turns : List Turn) (mid : Option FileMap) (s : Status) → IsJob plan before.told j → origins plan.files ≡ first ++ file name ∷ later
      → InTurn j left before.told first turns mid → IsMissing mid name → RunEnded plan left before after s → (s ≡ ReadFault) ⊎ (s ≡ NoMemory)
  file_missing j first later name turns mid s is_job is in_turn missing (by_turns k _ is_too ended) =
      let told : IsSome before.told = told_back j left before.told mid first turns in_turn (missing_told mid name missing) in
      let same : j ≡ k = one_job plan before.told j k (λ _. told) is_job is_too in
      missing_turns k left (origins plan.files) first later name before after s mid turns ended is (subst (λ (x : Job). InTurn x left before.told first turns mid) same in_turn) missing
      (plan_told plan.files left before.told (reads_file plan.files first later name is) told) calm
  file_missing j first later name turns mid s is_job is in_turn missing (by_config t) =
      let told : IsSome before.told = told_back j left before.told mid first turns in_turn (missing_told mid name missing) in
      absurd (refused_no_job words plan before.told t.line j m (λ _. told) t.refused is_job)
  file_missing j first later name turns mid s is_job is in_turn missing (by_line u) = absurd (calm.errs u.cause)
  file_missing j first later name turns mid s is_job is in_turn missing (by_fetch u) = inl refl
  file_missing j first later name turns mid s is_job is in_turn missing (by_memory u) = inr refl

  pub missing_ended : (s : Status) → RunEnded plan left before after s → IsMissingAtTurn words left before.told → (s ≡ ReadFault) ⊎ (s ≡ NoMemory)
  missing_ended s ended (inl h) = config_missing h.name s (subst (λ (p : Plan). p.config ≡ Some h.name) (one_plan words h.plan plan h.mean m) h.is) h.missing ended
  missing_ended s ended (inr h) =
      let same : h.plan ≡ plan = one_plan words h.plan plan h.mean m in
      file_missing h.job h.first h.later h.name h.turns h.before s (subst (λ (p : Plan). IsJob p before.told h.job) same h.is_job) (subst (λ (p : Plan). origins p.files ≡ h.first ++ file h.name ∷ h.later) same h.is) h.in_turn h.missing ended

-- ---- what `minify` writes

-- a plan of one file at most has one source
pub one_origin : (files : List (List ℕ)) → length files ≤ 1 → (source : Origin) × (origins files ≡ source ∷ [])
one_origin [] few = (input, refl)
one_origin (name ∷ []) few = (file name, refl)
one_origin (name ∷ other ∷ names) few = absurd (omega arith)

minified : (left : Option (List ℕ)) (told after : Option FileMap) (source : Origin) (turns : List Turn) → InTurn job.Minify left told (source ∷ []) turns after → status_of turns ≡ Done
    → (contents : List ℕ) × (text : List ℕ) × Holds left told source contents × KeepsProgram contents text × (out_of turns ≡ text)
minified left told after source turns (one_more _ _ _ _ _ _ contents t others holds (refused _ _ _ _ _ _ _) rest) is = absurd cc
minified left told after source turns (one_more _ _ _ _ _ _ contents t others holds (shown _ _ _ text _ w) (no_more _ _ _)) is = (contents, text, holds, keeps_program contents text w.0 w.1 w.2, append-nil text)
minified left told after source turns (one_more _ _ _ _ _ _ contents t others holds (unchanged _ _ _ other _) rest) is = absurd (other refl)
minified left told after source turns (one_more _ _ _ _ _ _ contents t others holds (differs _ _ _ _ e _ _) rest) is = absurd cc
minified left told after source turns (one_more _ _ _ _ _ _ contents t others holds (replaced _ _ _ _ e _ _) rest) is = absurd cc

-- the job of a plan of `minify`
is_minify : (plan : Plan) (told : Option FileMap) (j : Job) → IsJob plan told j → plan.command ≡ command.Minify → j ≡ job.Minify
is_minify plan told (job.Format o x) is e = let a = is.0 in absurd cc
is_minify plan told job.Minify is e = refl
is_minify plan told job.Check is e = absurd cc
is_minify plan told job.List is e = absurd cc

module _ (words : List (List ℕ)) (left : Option (List ℕ)) (plan : Plan) (before after : World) (m : Mean words plan) (is : plan.command ≡ command.Minify) where
  -- what it has written of its source
  abbrev HasText : Type 0
  HasText = (source : Origin) × (contents : List ℕ) × (text : List ℕ) × (origins plan.files ≡ source ∷ []) × Holds left before.told source contents × KeepsProgram contents text × Appends before.out text after.out

  text_turns : (j : Job) (s : Status) → IsJob plan before.told j → Ended j left (origins plan.files) before after s → s ≡ Done → HasText
  text_turns j s is_job (inl t) e =
      let few : length plan.files ≤ 1 = subst (λ c. TakesFiles c plan.manner (length plan.files)) is m.allowed in
      let one = one_origin plan.files few in
      let of_one : InTurn j left before.told (one.0 ∷ []) t.turns after.told = subst (λ (xs : List Origin). InTurn j left before.told xs t.turns after.told) one.1 t.in_turn in
      let of_minify : InTurn job.Minify left before.told (one.0 ∷ []) t.turns after.told = subst (λ (x : Job). InTurn x left before.told (one.0 ∷ []) t.turns after.told) (is_minify plan before.told j is_job is) of_one in
      let made = minified left before.told after.told one.0 t.turns of_minify (sym t.status_is ∙ e) in
      (one.0, made.0, made.1, one.1, made.2, made.3, subst (λ (piece : List ℕ). Appends before.out piece after.out) made.4 t.out)
  text_turns j s is_job (inr (unread u)) e = absurd cc
  text_turns j s is_job (inr (starved u)) e = absurd cc
  text_turns j s is_job (inr (unwritten u)) e = absurd cc

  text_plan : (s : Status) → RunEnded plan left before after s → s ≡ Done → HasText
  text_plan s (by_turns j _ is_job ended) e = text_turns j s is_job ended e
  text_plan s (by_config t) e = absurd cc
  text_plan s (by_line u) e = absurd cc
  text_plan s (by_fetch u) e = absurd cc
  text_plan s (by_memory u) e = absurd cc

pub text_ended : (words : List (List ℕ)) (left : Option (List ℕ)) (plan : Plan) (before after : World) (s : Status) → Mean words plan → RunEnded plan left before after s
    → s ≡ Done → (other : Plan) → Mean words other → other.command ≡ command.Minify
    → (source : Origin) × (contents : List ℕ) × (text : List ℕ) × (origins other.files ≡ source ∷ []) × Holds left before.told source contents × KeepsProgram contents text × Appends before.out text after.out
text_ended words left plan before after s m ended e other n is =
    text_plan words left other before after n is s (subst (λ (p : Plan). RunEnded p left before after s) (one_plan words plan other m n) ended) e

-- ---- words that mean no plan

pub usage_complete : (words : List (List ℕ)) (left : Option (List ℕ)) (told : Option FileMap) (w : Outcome) → AreNoCommand words → IsOutcome words left told w → Usage ≡ w.status
usage_complete words left told w other (of_usage _ _ _ _) = refl
usage_complete words left told w other (of_config _ _ _ plan _ m _) = absurd (other plan m)
usage_complete words left told w other (of_turns _ _ _ _ plan _ _ m _ _) = absurd (other plan m)

pub usage_missing : (words : List (List ℕ)) (left : Option (List ℕ)) (told : Option FileMap) → AreNoCommand words → IsMissingAtTurn words left told → ⊥
usage_missing words left told other (inl h) = other h.plan h.mean
usage_missing words left told other (inr h) = other h.plan h.mean
