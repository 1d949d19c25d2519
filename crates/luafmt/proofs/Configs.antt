-- The job of a plan, from what its file of options tells; and how a run ends there.
use Rattle.std.proofs.Common.{◌≡◌, ℕ, List, [], ◌++◌, ◌≤◌, length, take, Option, Some, None, Result, Ok, Err, IfOk, IfErr, option_map, sym, ap, ◌∙◌, subst}
use Rattle.luf_conf.specs.Settings.{AreInRange}
use Rattle.luf_conf.specs.declared.error.ConfErr.{ConfErr}
use Rattle.luf_conf.specs.declared.settings.Options.{Options}
use Rattle.luf_conf.proofs.OneAnswer.{options_in_range}
use Rattle.luf_io.specs.Count.{Rose}
use Rattle.luf_io.specs.Files.{FileMap, AppendsFile}
use Rattle.luf_io.specs.Sink.{Appends}
use Rattle.luf_plan.specs.Plan.{Plan}
use Rattle.luafmt.specs.Config.{AreOptionsOf, HoldsFile, IsJob, IsRefusedConfig, no_options, options_limit}
use Rattle.luafmt.specs.Counts.{Counts, ReadsAreCalm}
use Rattle.luafmt.specs.Line.{line_of, config_line}
use Rattle.luafmt.specs.Outcome.{origins}
use Rattle.luafmt.specs.declared.job.Job.{Job}
use Rattle.luafmt.specs.declared.config.NoJob.{NoJob}
use Rattle.luafmt.specs.declared.config.NoJob.TheVariants.{Refused, Fault, NoMemory as Starving}
use Rattle.luafmt.specs.declared.status.Status.{Status}
use Rattle.luafmt.specs.declared.status.Status.TheVariants.{WriteFault, Config}
use Rattle.luafmt.specs.inner.Ended.{World, world, Ended, RunEnded, by_turns, by_config, by_line}
use Rattle.luafmt.specs.inner.NoJob.{IsNoJob, IsToldWhy}

-- the line of a refusal, where there is one
pub config_said : {L E : Type 0} (items : L → List ℕ) (r : Result L E) (name text : List ℕ) (e : ConfErr) → config_line name e ≡ Some text → IfOk r (λ line. items line ≡ line_of text) → IfOk r (λ line. option_map line_of (config_line name e) ≡ Some (items line))
config_said items (Ok line) name text e said is = ap (option_map line_of) said ∙ ap Some (sym is)
config_said items (Err x) name text e said is = tt

-- options of a file, and the usual ones, are within their limits
pub in_range : (config : Option (List ℕ)) (told : Option FileMap) (o : Options) → AreOptionsOf config told o → AreInRange o
in_range None told o are = options_in_range _ o are
in_range (Some name) told o are = options_in_range _ o are.3.2

pub all_in_range : {E : Type 0} (config : Option (List ℕ)) (told : Option FileMap) (r : Result Options E) → IfOk r (AreOptionsOf config told) → IfOk r AreInRange
all_in_range config told (Ok o) are = in_range config told o are
all_in_range config told (Err e) are = tt

-- the bytes that were put behind nothing are the text
file_text : (told : Option FileMap) (name old new text : List ℕ) (a : AppendsFile told name options_limit old new) → old ≡ [] → text ≡ new → a.bytes ≡ text
file_text told name old new text a none is = sym (is ∙ a.appended ∙ ap (λ (bytes : List ℕ). bytes ++ a.bytes) none)

-- a file that was fetched whole and tells no options is why there is no job
pub told_no_job : {O : Type 0} (r : Result O NoJob) (told : Option FileMap) (name old new text : List ℕ) (before after : ℕ) → AppendsFile told name options_limit old new → old ≡ [] → text ≡ new → after ≡ before → IfErr r (IsToldWhy name text) → IfErr r (IsNoJob told (Some name) before after)
told_no_job (Ok o) told name old new text before after a none is calm h = tt
told_no_job (Err (Refused bytes)) told name old new text before after a none is calm h =
    let same : a.bytes ≡ text = file_text told name old new text a none is in
    (h.0, no_options name text h.0 h.1 (subst (HoldsFile told name) same a.of_file) (subst (λ (t : List ℕ). length t ≤ options_limit) same a.within) h.2 h.3, h.4, calm)
told_no_job (Err Fault) told name old new text before after a none is calm h = absurd h
told_no_job (Err Starving) told name old new text before after a none is calm h = calm

-- ---- how a run ends at it

pub same_world : {told other : Option FileMap} {out errs : Option (List ℕ)} {k l : Counts} → told ≡ other → k ≡ l → world told out errs k ≡ world other out errs l
same_world {told} {other} {out} {errs} p q = λ i. world (p i) out errs (q i)

pub turned : (plan : Plan) (left : Option (List ℕ)) (before middle after : World) (j : Job) (s : Status) → IsJob plan before.told j → middle ≡ before → Ended j left (origins plan.files) middle after s → RunEnded plan left before after s
turned plan left before middle after j s is same ended = by_turns j s is (subst (λ (w : World). Ended j left (origins plan.files) w after s) same ended)

pub told_config : (plan : Plan) (left : Option (List ℕ)) (before after : World) (line piece : List ℕ) → IsRefusedConfig before.told plan.config line → piece ≡ line_of line
    → after.told ≡ before.told → after.out ≡ before.out → Appends before.errs piece after.errs → after.counts ≡ before.counts → RunEnded plan left before after Config
told_config plan left before after line piece why is told out errs counts = by_config (record {
  line = line;
  refused = why;
  told = told;
  out = out;
  errs = subst (λ (p : List ℕ). Appends before.errs p after.errs) is errs;
  counts = counts;
})

pub untold_config : (plan : Plan) (left : Option (List ℕ)) (before after : World) (line piece : List ℕ) (n : ℕ) → IsRefusedConfig before.told plan.config line → piece ≡ line_of line
    → after.told ≡ before.told → after.out ≡ before.out → Appends before.errs (take n piece) after.errs → ReadsAreCalm before.counts after.counts → Rose before.counts.errs after.counts.errs → RunEnded plan left before after WriteFault
untold_config plan left before after line piece n why is told out errs calm cause = by_line (record {
  line = line;
  refused = why;
  told = told;
  out = out;
  bytes = n;
  errs = subst (λ (p : List ℕ). Appends before.errs (take n p) after.errs) is errs;
  calm = calm;
  cause = cause;
})
