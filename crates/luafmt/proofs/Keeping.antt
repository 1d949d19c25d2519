-- What `format` shows, or puts in the place of a file, keeps its source.
use Rattle.std.proofs.Common.{◌≡◌, inl, inr, ℕ, ◌≤◌, List, [], ◌∷◌, length, Option, Some, None, refl, sym, ap, ◌∙◌, subst, append-nil}
use Rattle.luf_conf.specs.declared.settings.Options.{Options}
use Rattle.luf_io.specs.Files.{FileMap}
use Rattle.luf_io.specs.Sink.{Appends}
use Rattle.luf_plan.specs.Command.{TakesFiles}
use Rattle.luf_plan.specs.Plan.{Plan, Mean}
use Rattle.luf_plan.specs.declared.command.Command.TheVariants as command
use Rattle.luf_plan.specs.declared.command.Manner.{Manner}
use Rattle.luf_plan.specs.declared.command.Manner.TheVariants.{Show}
use Rattle.luf_plan.proofs.OnePlan.{one_plan}
use Rattle.luf_work.specs.Format.{KeepsSource}
use Rattle.luf_work.proofs.FormatLemmas.{keeps_source}
use Rattle.luafmt.specs.Job.{Writes}
use Rattle.luafmt.specs.Config.{AreOptionsOf, IsJob}
use Rattle.luafmt.specs.Keeps.{Keeps}
use Rattle.luafmt.specs.Outcome.{Origin, Holds, Turn, Comes, refused, shown, unchanged, differs, replaced, InTurn, no_more, one_more, origins, status_of, out_of}
use Rattle.luafmt.specs.declared.job.Job.{Job}
use Rattle.luafmt.specs.declared.job.Job.TheVariants as job
use Rattle.luafmt.specs.declared.status.Status.{Status}
use Rattle.luafmt.specs.declared.status.Status.TheVariants.{Done}
use Rattle.luafmt.specs.inner.Ended.{World, unread, starved, unwritten, Ended, RunEnded, by_turns, by_config, by_line, by_fetch, by_memory}
use Rattle.luafmt.proofs.Runs.{one_origin}

-- ---- one source

-- a text of a source keeps it
keeps_text : (o : Options) (m : Manner) (contents text : List ℕ) → Writes (job.Format o m) contents text → KeepsSource o contents text
keeps_text o m contents text w = keeps_source o contents text w.0 w.1 w.2

-- a turn that neither shows nor places a text
keeps_nothing : (o : Options) (contents : List ℕ) (turn : Turn) → turn.out ≡ [] → turn.rewritten ≡ None → Keeps o contents turn
keeps_nothing o contents turn out none = record { shown = inl out; placed = λ text e. let other : None ≡ Some text = sym none ∙ e in absurd cc }

keeps_shown : (o : Options) (contents text : List ℕ) (turn : Turn) → KeepsSource o contents text → turn.out ≡ text → turn.rewritten ≡ None → Keeps o contents turn
keeps_shown o contents text turn kept is none = record { shown = inr (subst (KeepsSource o contents) (sym is) kept); placed = λ other e. let no_text : None ≡ Some other = sym none ∙ e in absurd cc }

keeps_placed : (o : Options) (contents text : List ℕ) (turn : Turn) → KeepsSource o contents text → turn.out ≡ [] → turn.rewritten ≡ Some text → Keeps o contents turn
keeps_placed o contents text turn kept out is = record { shown = inl out; placed = λ other e. let both : Some text ≡ Some other = sym is ∙ e in let same : text ≡ other = cc in subst (KeepsSource o contents) same kept }

pub keeps_turn : (o : Options) (m : Manner) (name contents : List ℕ) (turn : Turn) → Comes (job.Format o m) name contents turn → Keeps o contents turn
keeps_turn o m name contents turn (refused _ _ _ _ _ _ _) = keeps_nothing o contents turn refl refl
keeps_turn o m name contents turn (shown _ _ _ text _ w) = keeps_shown o contents text turn (keeps_text o m contents text w) refl refl
keeps_turn o m name contents turn (unchanged _ _ _ _ _) = keeps_nothing o contents turn refl refl
keeps_turn o m name contents turn (differs _ _ _ _ _ _ _) = keeps_nothing o contents turn refl refl
keeps_turn o m name contents turn (replaced _ _ _ text _ w _) = keeps_placed o contents text turn (keeps_text o m contents text w) refl refl

-- ---- a run that shows

formatted : (o : Options) (left : Option (List ℕ)) (told after : Option FileMap) (source : Origin) (turns : List Turn) → InTurn (job.Format o Show) left told (source ∷ []) turns after → status_of turns ≡ Done
    → (contents : List ℕ) × (text : List ℕ) × Holds left told source contents × KeepsSource o contents text × (out_of turns ≡ text)
formatted o left told after source turns (one_more _ _ _ _ _ _ contents t others holds (refused _ _ _ _ _ _ _) rest) is = absurd cc
formatted o left told after source turns (one_more _ _ _ _ _ _ contents t others holds (shown _ _ _ text _ w) (no_more _ _ _)) is = (contents, text, holds, keeps_text o Show contents text w, append-nil text)
formatted o left told after source turns (one_more _ _ _ _ _ _ contents t others holds (unchanged _ _ _ other _) rest) is = absurd (other refl)
formatted o left told after source turns (one_more _ _ _ _ _ _ contents t others holds (differs _ _ _ _ e _ _) rest) is = absurd cc
formatted o left told after source turns (one_more _ _ _ _ _ _ contents t others holds (replaced _ _ _ _ e _ _) rest) is = absurd cc

-- the job of a plan of `format` that shows
is_format : (plan : Plan) (told : Option FileMap) (j : Job) → IsJob plan told j → plan.command ≡ command.Format → plan.manner ≡ Show → (o : Options) × AreOptionsOf plan.config told o × (j ≡ job.Format o Show)
is_format plan told (job.Format o m) is e shows = (o, is.2, ap (job.Format o) (sym is.1 ∙ shows))
is_format plan told job.Minify is e shows = absurd cc
is_format plan told job.Check is e shows = absurd cc
is_format plan told job.List is e shows = absurd cc

module _ (words : List (List ℕ)) (left : Option (List ℕ)) (plan : Plan) (before after : World) (m : Mean words plan) (is : plan.command ≡ command.Format) (shows : plan.manner ≡ Show) where
  -- what it has written of its source
  abbrev HasText : Type 0
  HasText = (o : Options) × (source : Origin) × (contents : List ℕ) × (text : List ℕ) × AreOptionsOf plan.config before.told o × (origins plan.files ≡ source ∷ []) × Holds left before.told source contents × KeepsSource o contents text × Appends before.out text after.out

  formatted_turns : (j : Job) (s : Status) → IsJob plan before.told j → Ended j left (origins plan.files) before after s → s ≡ Done → HasText
  formatted_turns j s is_job (inl t) e =
      let few : length plan.files ≤ 1 = subst (λ x. TakesFiles command.Format x (length plan.files)) shows (subst (λ c. TakesFiles c plan.manner (length plan.files)) is m.allowed) in
      let one = one_origin plan.files few in
      let format = is_format plan before.told j is_job is shows in
      let of_one : InTurn j left before.told (one.0 ∷ []) t.turns after.told = subst (λ (xs : List Origin). InTurn j left before.told xs t.turns after.told) one.1 t.in_turn in
      let of_format : InTurn (job.Format format.0 Show) left before.told (one.0 ∷ []) t.turns after.told = subst (λ (x : Job). InTurn x left before.told (one.0 ∷ []) t.turns after.told) format.2 of_one in
      let made = formatted format.0 left before.told after.told one.0 t.turns of_format (sym t.status_is ∙ e) in
      (format.0, one.0, made.0, made.1, format.1, one.1, made.2, made.3, subst (λ (piece : List ℕ). Appends before.out piece after.out) made.4 t.out)
  formatted_turns j s is_job (inr (unread u)) e = absurd cc
  formatted_turns j s is_job (inr (starved u)) e = absurd cc
  formatted_turns j s is_job (inr (unwritten u)) e = absurd cc

  formatted_plan : (s : Status) → RunEnded plan left before after s → s ≡ Done → HasText
  formatted_plan s (by_turns j _ is_job ended) e = formatted_turns j s is_job ended e
  formatted_plan s (by_config t) e = absurd cc
  formatted_plan s (by_line u) e = absurd cc
  formatted_plan s (by_fetch u) e = absurd cc
  formatted_plan s (by_memory u) e = absurd cc

pub formatted_ended : (words : List (List ℕ)) (left : Option (List ℕ)) (plan : Plan) (before after : World) (s : Status) → Mean words plan → RunEnded plan left before after s
    → s ≡ Done → (other : Plan) → Mean words other → other.command ≡ command.Format → other.manner ≡ Show
    → (o : Options) × (source : Origin) × (contents : List ℕ) × (text : List ℕ) × AreOptionsOf other.config before.told o × (origins other.files ≡ source ∷ []) × Holds left before.told source contents × KeepsSource o contents text × Appends before.out text after.out
formatted_ended words left plan before after s m ended e other n is shows =
    formatted_plan words left other before after n is shows s (subst (λ (p : Plan). RunEnded p left before after s) (one_plan words plan other m n) ended) e
