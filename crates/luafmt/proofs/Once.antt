-- That a plan has one job at most, and a source comes to one status and one text.
use Rattle.std.proofs.Common.{◌≡◌, ◌≢◌, ◌⊎◌, inl, inr, ℕ, suc, List, [], ◌∷◌, ◌++◌, map, length, Option, Some, None, IsSome, refl, sym, ap, ap₂, ◌∙◌, subst, arith}
use Rattle.std.specs.List.{All}
use Rattle.std.proofs.lemmas.List.Elements.{All-cons, All-nil}
use Rattle.std.specs.FinMap.{get}
use Rattle.luf_conf.specs.Answers.{TellsOptions}
use Rattle.luf_conf.specs.declared.settings.Options.{Options}
use Rattle.luf_conf.proofs.OneAnswer.{options_once, one_options, options_not_refused}
use Rattle.luf_io.specs.Files.{FileMap, IsMissing}
use Rattle.luf_plan.specs.Plan.{Plan, Mean}
use Rattle.luf_plan.specs.declared.command.Command.TheVariants as command
use Rattle.luf_plan.specs.declared.command.Manner.{Manner}
use Rattle.luf_plan.specs.declared.command.Manner.TheVariants.{Show, Compare, Rewrite}
use Rattle.luf_plan.proofs.OnePlan.{no_config}
use Rattle.luf_work.specs.declared.refusal.Refusal.{Refusal}
use Rattle.luf_work.proofs.FormatLemmas.{one_formatted_text, accepted_not_refused as format_not_refused}
use Rattle.luf_work.proofs.RefusalLemmas.{accepted_not_refused, source_not_refused}
use Rattle.luf_work.proofs.ListLemmas.{list_accepted_not_refused}
use Rattle.luafmt.specs.Job.{manner_of, Writes, Refuses}
use Rattle.luafmt.specs.Config.{AreOptionsOf, HoldsFile, IsJob, IsRefusedConfig, too_large, no_options}
use Rattle.luafmt.specs.Outcome.{Origin, input, file, name_of, Holds, IsTold, Turn, Comes, refused, shown, unchanged, differs, replaced, rewritten_by, InTurn, no_more, one_more, or_next, status_of}
use Rattle.luafmt.specs.declared.job.Job.{Job}
use Rattle.luafmt.specs.declared.job.Job.TheVariants as job
use Rattle.luafmt.specs.declared.status.Status.{Status}
use Rattle.luafmt.specs.declared.status.Status.TheVariants.{Done, Differs, Usage, Refused, ReadFault, WriteFault, NoMemory, Config}

-- ---- the job of a plan

told_of : {X : Type 0} (o : Option X) → IsSome o → (x : X) × (o ≡ Some x)
told_of None is = absurd cc
told_of (Some x) is = (x, refl)

same_some : {X : Type 0} (o : Option X) (a b : X) → o ≡ Some a → o ≡ Some b → a ≡ b
same_some o a b e f = cc

-- a file that is told has one content
one_file : (told : Option FileMap) (name a b : List ℕ) → IsSome told → HoldsFile told name a → HoldsFile told name b → a ≡ b
one_file told name a b is h k = let x = told_of told is in same_some (get x.0 name) a b (h x.0 x.1) (k x.0 x.1)

one_choice : (config : Option (List ℕ)) (told : Option FileMap) (o p : Options) → (IsSome config → IsSome told) → AreOptionsOf config told o → AreOptionsOf config told p → o ≡ p
one_choice None told o p is a b = options_once _ o p a b
one_choice (Some name) told o p is a b =
    let same : a.0 ≡ b.0 = one_file told name a.0 b.0 (is refl) a.1 b.1 in
    one_options b.0 o p (subst (λ (text : List ℕ). TellsOptions text o) same a.3) b.3

pub one_job : (plan : Plan) (told : Option FileMap) (a b : Job) → (IsSome plan.config → IsSome told) → IsJob plan told a → IsJob plan told b → a ≡ b
one_job plan told (job.Format o x) (job.Format p y) is a b =
    let same : o ≡ p = one_choice plan.config told o p is a.2 b.2 in
    let manner : x ≡ y = sym a.1 ∙ b.1 in
    ap₂ job.Format same manner
one_job plan told (job.Format o x) job.Minify is a b = let e = a.0 in absurd cc
one_job plan told (job.Format o x) job.Check is a b = let e = a.0 in absurd cc
one_job plan told (job.Format o x) job.List is a b = let e = a.0 in absurd cc
one_job plan told job.Minify (job.Format o x) is a b = let e = b.0 in absurd cc
one_job plan told job.Minify job.Minify is a b = refl
one_job plan told job.Minify job.Check is a b = absurd cc
one_job plan told job.Minify job.List is a b = absurd cc
one_job plan told job.Check (job.Format o x) is a b = let e = b.0 in absurd cc
one_job plan told job.Check job.Minify is a b = absurd cc
one_job plan told job.Check job.Check is a b = refl
one_job plan told job.Check job.List is a b = absurd cc
one_job plan told job.List (job.Format o x) is a b = let e = b.0 in absurd cc
one_job plan told job.List job.Minify is a b = absurd cc
one_job plan told job.List job.Check is a b = absurd cc
one_job plan told job.List job.List is a b = refl

-- a file of options that is refused tells no options
refused_no_choice : (config : Option (List ℕ)) (told : Option FileMap) (line : List ℕ) (o : Options) → (IsSome config → IsSome told) → IsRefusedConfig told config line → AreOptionsOf config told o → ⊥
refused_no_choice _ told _ o is (too_large name contents holds large) a =
    let same : contents ≡ a.0 = one_file told name contents a.0 (is refl) holds a.1 in
    omega (arith, large, a.2, ap length same)
refused_no_choice _ told line o is (no_options name contents _ e holds within why _) a =
    let same : a.0 ≡ contents = one_file told name a.0 contents (is refl) a.1 holds in
    options_not_refused contents o e (subst (λ (text : List ℕ). TellsOptions text o) same a.3) why

-- and only a file that is named can be
refused_named : (told : Option FileMap) (config : Option (List ℕ)) (line : List ℕ) → IsRefusedConfig told config line → config ≡ None → ⊥
refused_named told _ _ (too_large name contents holds large) e = absurd cc
refused_named told _ line (no_options name contents _ cause holds within why _) e = absurd cc

pub refused_no_job : (words : List (List ℕ)) (plan : Plan) (told : Option FileMap) (line : List ℕ) (j : Job) → Mean words plan → (IsSome plan.config → IsSome told) → IsRefusedConfig told plan.config line → IsJob plan told j → ⊥
refused_no_job words plan told line (job.Format o x) m is why a = refused_no_choice plan.config told line o is why a.2
refused_no_job words plan told line job.Minify m is why a = refused_named told plan.config line why (no_config words plan command.Minify m a refl)
refused_no_job words plan told line job.Check m is why a = refused_named told plan.config line why (no_config words plan command.Check m a refl)
refused_no_job words plan told line job.List m is why a = refused_named told plan.config line why (no_config words plan command.List m a refl)

-- ---- a file of options that is missing

held_not_missing : (told : Option FileMap) (name contents : List ℕ) → HoldsFile told name contents → IsMissing told name → ⊥
held_not_missing told name contents holds missing = let found = holds missing.0 missing.1 in let none = missing.2 in absurd cc

-- of a file that is refused, or that tells options, the contents are there
refused_held : (told : Option FileMap) (config : Option (List ℕ)) (name line : List ℕ) → config ≡ Some name → IsRefusedConfig told config line → (contents : List ℕ) × HoldsFile told name contents
refused_held told _ name _ e (too_large other contents holds large) = let same : other ≡ name = cc in (contents, subst (λ (n : List ℕ). HoldsFile told n contents) same holds)
refused_held told _ name line e (no_options other contents _ cause holds within why _) = let same : other ≡ name = cc in (contents, subst (λ (n : List ℕ). HoldsFile told n contents) same holds)

choice_held : (told : Option FileMap) (config : Option (List ℕ)) (name : List ℕ) (o : Options) → config ≡ Some name → AreOptionsOf config told o → (contents : List ℕ) × HoldsFile told name contents
choice_held told config name o e a = let b = subst (λ (c : Option (List ℕ)). AreOptionsOf c told o) e a in (b.0, b.1)

named_none : (config : Option (List ℕ)) (name : List ℕ) → config ≡ Some name → config ≡ None → ⊥
named_none config name e none = absurd cc

pub config_held : (words : List (List ℕ)) (plan : Plan) (told : Option FileMap) (name : List ℕ) → Mean words plan → plan.config ≡ Some name → IsMissing told name → ((line : List ℕ) × IsRefusedConfig told plan.config line) ⊎ ((j : Job) × IsJob plan told j) → ⊥
config_held words plan told name m is missing (inl h) = let held = refused_held told plan.config name h.0 is h.1 in held_not_missing told name held.0 held.1 missing
config_held words plan told name m is missing (inr h) = of_job h.0 h.1
  where
    of_job : (j : Job) → IsJob plan told j → ⊥
    of_job (job.Format o x) a = let held = choice_held told plan.config name o is a.2 in held_not_missing told name held.0 held.1 missing
    of_job job.Minify a = named_none plan.config name is (no_config words plan command.Minify m a refl)
    of_job job.Check a = named_none plan.config name is (no_config words plan command.Check m a refl)
    of_job job.List a = named_none plan.config name is (no_config words plan command.List m a refl)

-- ---- one source

-- a source that a job writes of, it does not refuse
not_both : (j : Job) (contents text : List ℕ) (refusal : Refusal) → Writes j contents text → Refuses j contents refusal → ⊥
not_both (job.Format o m) contents text refusal w r = format_not_refused o contents refusal (record { accepted = w.0; text = text; formatted = w.1; fits = w.2 }) r
not_both job.Minify contents text refusal w r = accepted_not_refused contents refusal (record { accepted = w.0; text = text; minified = w.1; fits = w.2 }) r
not_both job.Check contents text refusal w r = source_not_refused contents refusal w.0 r
not_both job.List contents text refusal w r = list_accepted_not_refused contents refusal (record { within = w.0; main = w.1.main; is = w.1.is }) r

-- of a source there is one formatted text
one_written : (j : Job) (contents a b : List ℕ) → manner_of j ≢ Show → Writes j contents a → Writes j contents b → a ≡ b
one_written (job.Format o m) contents a b other v w = one_formatted_text o contents a b v.1 w.1
one_written job.Minify contents a b other v w = absurd (other refl)
one_written job.Check contents a b other v w = absurd (other refl)
one_written job.List contents a b other v w = absurd (other refl)

compare_not_show : (j : Job) → manner_of j ≡ Compare → manner_of j ≢ Show
compare_not_show j is show = let e : Compare ≡ Show = sym is ∙ show in absurd cc

rewrite_not_show : (j : Job) → manner_of j ≡ Rewrite → manner_of j ≢ Show
rewrite_not_show j is show = let e : Rewrite ≡ Show = sym is ∙ show in absurd cc

compare_not_rewrite : (j : Job) → manner_of j ≡ Compare → manner_of j ≡ Rewrite → ⊥
compare_not_rewrite j is other = let e : Compare ≡ Rewrite = sym is ∙ other in absurd cc

-- so two answers to a source have one status, and leave one file
abbrev AreAlike : Turn → Turn → Type 0
AreAlike a b = (a.status ≡ b.status) × (a.rewritten ≡ b.rewritten)

alike : (j : Job) (name contents : List ℕ) (a b : Turn) → Comes j name contents a → Comes j name contents b → AreAlike a b
alike j name contents a b (refused _ _ _ _ _ _ _) (refused _ _ _ _ _ _ _) = (refl, refl)
alike j name contents a b (refused _ _ _ _ refusal r _) (shown _ _ _ text _ w) = absurd (not_both j contents text refusal w r)
alike j name contents a b (refused _ _ _ _ refusal r _) (unchanged _ _ _ _ w) = absurd (not_both j contents contents refusal w r)
alike j name contents a b (refused _ _ _ _ refusal r _) (differs _ _ _ text _ w _) = absurd (not_both j contents text refusal w r)
alike j name contents a b (refused _ _ _ _ refusal r _) (replaced _ _ _ text _ w _) = absurd (not_both j contents text refusal w r)
alike j name contents a b (shown _ _ _ text _ w) (refused _ _ _ _ refusal r _) = absurd (not_both j contents text refusal w r)
alike j name contents a b (shown _ _ _ _ _ _) (shown _ _ _ _ _ _) = (refl, refl)
alike j name contents a b (shown _ _ _ _ m _) (unchanged _ _ _ other _) = absurd (other m)
alike j name contents a b (shown _ _ _ _ m _) (differs _ _ _ _ n _ _) = absurd (compare_not_show j n m)
alike j name contents a b (shown _ _ _ _ m _) (replaced _ _ _ _ n _ _) = absurd (rewrite_not_show j n m)
alike j name contents a b (unchanged _ _ _ _ w) (refused _ _ _ _ refusal r _) = absurd (not_both j contents contents refusal w r)
alike j name contents a b (unchanged _ _ _ other _) (shown _ _ _ _ m _) = absurd (other m)
alike j name contents a b (unchanged _ _ _ _ _) (unchanged _ _ _ _ _) = (refl, refl)
alike j name contents a b (unchanged _ _ _ other v) (differs _ _ _ text _ w change) = absurd (change (one_written j contents text contents other w v))
alike j name contents a b (unchanged _ _ _ other v) (replaced _ _ _ text _ w change) = absurd (change (one_written j contents text contents other w v))
alike j name contents a b (differs _ _ _ text _ w _) (refused _ _ _ _ refusal r _) = absurd (not_both j contents text refusal w r)
alike j name contents a b (differs _ _ _ _ m _ _) (shown _ _ _ _ n _) = absurd (compare_not_show j m n)
alike j name contents a b (differs _ _ _ text _ w change) (unchanged _ _ _ other v) = absurd (change (one_written j contents text contents other w v))
alike j name contents a b (differs _ _ _ _ _ _ _) (differs _ _ _ _ _ _ _) = (refl, refl)
alike j name contents a b (differs _ _ _ _ m _ _) (replaced _ _ _ _ n _ _) = absurd (compare_not_rewrite j m n)
alike j name contents a b (replaced _ _ _ text _ w _) (refused _ _ _ _ refusal r _) = absurd (not_both j contents text refusal w r)
alike j name contents a b (replaced _ _ _ _ m _ _) (shown _ _ _ _ n _) = absurd (rewrite_not_show j m n)
alike j name contents a b (replaced _ _ _ text _ w change) (unchanged _ _ _ other v) = absurd (change (one_written j contents text contents other w v))
alike j name contents a b (replaced _ _ _ _ m _ _) (differs _ _ _ _ n _ _) = absurd (compare_not_rewrite j n m)
alike j name contents a b (replaced _ _ _ text m w _) (replaced _ _ _ other _ v _) = (refl, ap Some (one_written j contents text other (rewrite_not_show j m) w v))

-- ---- sources in turn

-- the statuses of turns
abbrev pub IsOfTurn : Status → Type 0
IsOfTurn Done = Unit {0}
IsOfTurn Differs = Unit {0}
IsOfTurn Usage = ⊥
IsOfTurn Refused = Unit {0}
IsOfTurn ReadFault = ⊥
IsOfTurn WriteFault = ⊥
IsOfTurn NoMemory = ⊥
IsOfTurn Config = ⊥

turn_status : (j : Job) (name contents : List ℕ) (t : Turn) → Comes j name contents t → IsOfTurn t.status
turn_status j name contents t (refused _ _ _ _ _ _ _) = tt
turn_status j name contents t (shown _ _ _ _ _ _) = tt
turn_status j name contents t (unchanged _ _ _ _ _) = tt
turn_status j name contents t (differs _ _ _ _ _ _ _) = tt
turn_status j name contents t (replaced _ _ _ _ _ _ _) = tt

next_status : (s next : Status) → IsOfTurn s → IsOfTurn next → IsOfTurn (or_next s next)
next_status Done next a b = b
next_status Differs next a b = tt
next_status Usage next a b = absurd a
next_status Refused next a b = tt
next_status ReadFault next a b = absurd a
next_status WriteFault next a b = absurd a
next_status NoMemory next a b = absurd a
next_status Config next a b = absurd a

pub turns_status : (j : Job) (left : Option (List ℕ)) (told after : Option FileMap) (sources : List Origin) (turns : List Turn) → InTurn j left told sources turns after → IsOfTurn (status_of turns)
turns_status j left told after sources turns (no_more _ _ _) = tt
turns_status j left told after sources turns (one_more _ _ _ _ origin later contents t others holds comes rest) =
    next_status t.status (status_of others) (turn_status j (name_of origin) contents t comes) (turns_status j left _ after later others rest)

-- files that are told stay told, and they were told before
rewritten_told : (by : Origin) (r : Option (List ℕ)) (told : Option FileMap) → IsSome told → IsSome (rewritten_by by r told)
rewritten_told input r told is = is
rewritten_told (file name) None told is = is
rewritten_told (file name) (Some bytes) None is = absurd cc
rewritten_told (file name) (Some bytes) (Some files) is = refl

told_before : (by : Origin) (r : Option (List ℕ)) (told : Option FileMap) → IsSome (rewritten_by by r told) → IsSome told
told_before input r told is = is
told_before (file name) None told is = is
told_before (file name) (Some bytes) None is = absurd cc
told_before (file name) (Some bytes) (Some files) is = refl

pub told_back : (j : Job) (left : Option (List ℕ)) (told after : Option FileMap) (sources : List Origin) (turns : List Turn) → InTurn j left told sources turns after → IsSome after → IsSome told
told_back j left told after sources turns (no_more _ _ _) is = is
told_back j left told after sources turns (one_more _ _ _ _ origin later contents t others holds comes rest) is =
    told_before origin t.rewritten told (told_back j left (rewritten_by origin t.rewritten told) after later others rest is)

still_told : (left : Option (List ℕ)) (told : Option FileMap) (by : Origin) (r : Option (List ℕ)) (o : Origin) → IsTold left told o → IsTold left (rewritten_by by r told) o
still_told left told by r input is = is
still_told left told by r (file name) is = rewritten_told by r told is

first_told : (P : Origin → Type 0) (x : Origin) (xs : List Origin) → All P (x ∷ xs) → P x
first_told P x xs all = all 0 x (omega arith)

later_told : (left : Option (List ℕ)) (told : Option FileMap) (r : Option (List ℕ)) (x : Origin) (xs : List Origin) → All (IsTold left told) (x ∷ xs) → All (IsTold left (rewritten_by x r told)) xs
later_told left told r x xs all = λ k d more. still_told left told x r _ (all (suc k) d (omega arith))

pub files_told : (left : Option (List ℕ)) (told : Option FileMap) (names : List (List ℕ)) → IsSome told → All (IsTold left told) (map file names)
files_told left told [] is = All-nil (IsTold left told)
files_told left told (name ∷ names) is = All-cons (IsTold left told) (file name) (map file names) is (files_told left told names is)

one_contents : (left : Option (List ℕ)) (told : Option FileMap) (origin : Origin) (a b : List ℕ) → IsTold left told origin → Holds left told origin a → Holds left told origin b → a ≡ b
one_contents left told input a b is h k = let x = told_of left is in sym (h x.0 x.1) ∙ k x.0 x.1
one_contents left told (file name) a b is h k = one_file told name a b is h k

-- turns of one source, over the same files
one_answer : (j : Job) (left : Option (List ℕ)) (one other : Option FileMap) (origin : Origin) (contents again : List ℕ) (t u : Turn) → one ≡ other → IsTold left one origin
    → Holds left one origin contents → Holds left other origin again → Comes j (name_of origin) contents t → Comes j (name_of origin) again u → AreAlike t u
one_answer j left one other origin contents again t u e is holds holds_too comes comes_too =
    let same : contents ≡ again = one_contents left one origin contents again is holds (subst (λ (files : Option FileMap). Holds left files origin again) (sym e) holds_too) in
    alike j (name_of origin) again t u (subst (λ (bytes : List ℕ). Comes j (name_of origin) bytes t) same comes) comes_too

-- turns of the same sources, over the same files, have the same status
pub same_status : (j : Job) (left : Option (List ℕ)) (one other after last : Option FileMap) (sources : List Origin) (turns others : List Turn) → one ≡ other → All (IsTold left one) sources
    → InTurn j left one sources turns after → InTurn j left other sources others last → status_of turns ≡ status_of others
same_status j left one other after last sources turns others e all (no_more _ _ _) (no_more _ _ _) = refl
same_status j left one other after last sources turns others e all (one_more _ _ _ _ origin later contents t ts holds comes rest) (one_more _ _ _ _ _ _ again u us holds_too comes_too rest_too) =
    let same = one_answer j left one other origin contents again t u e (first_told (IsTold left one) origin later all) holds holds_too comes comes_too in
    ap₂ or_next same.0 (same_status j left (rewritten_by origin t.rewritten one) (rewritten_by origin u.rewritten other) after last later ts us (ap₂ (rewritten_by origin) same.1 e) (later_told left one t.rewritten origin later all) rest rest_too)

-- each source of turns has contents, over the files as other turns of those before it leave them
pub there : (j : Job) (left : Option (List ℕ)) (one other after mid : Option FileMap) (first later : List Origin) (origin : Origin) (turns others : List Turn) → one ≡ other → All (IsTold left one) (first ++ origin ∷ later)
    → InTurn j left one (first ++ origin ∷ later) turns after → InTurn j left other first others mid → (contents : List ℕ) × Holds left mid origin contents
there j left one other after mid [] later origin turns others e all (one_more _ _ _ _ _ _ contents t ts holds comes rest) (no_more _ _ _) = (contents, subst (λ (files : Option FileMap). Holds left files origin contents) e holds)
there j left one other after mid (x ∷ first) later origin turns others e all (one_more _ _ _ _ _ _ contents t ts holds comes rest) (one_more _ _ _ _ _ _ again u us holds_too comes_too rest_too) =
    let same = one_answer j left one other x contents again t u e (first_told (IsTold left one) x (first ++ origin ∷ later) all) holds holds_too comes comes_too in
    there j left (rewritten_by x t.rewritten one) (rewritten_by x u.rewritten other) after mid first later origin ts us (ap₂ (rewritten_by x) same.1 e) (later_told left one t.rewritten x (first ++ origin ∷ later) all) rest rest_too
