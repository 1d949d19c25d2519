-- What one source comes to, from the answer to it; and the counts and causes of its turn.
use Rattle.std.proofs.Common.{◌≡◌, ◌≢◌, ◌⊎◌, inl, inr, ℕ, zero, suc, ◌+◌, ◌<◌, List, [], ◌∷◌, ◌++◌, length, Option, Some, None, Result, Ok, Err, IfOk, refl, sym, ap, ◌∙◌, subst, arith, length-append}
use Rattle.std.specs.Option.{ForSome}
use Rattle.std.specs.FinMap.{get}
use Rattle.luf_io.specs.Files.{FileMap, IsTooLong}
use Rattle.luf_io.specs.Source.{Taken}
use Rattle.luf_io.specs.Read.{PullsWithin}
use Rattle.luf_io.specs.declared.read.ReadErr.{ReadErr}
use Rattle.luf_io.specs.declared.read.ReadErr.TheVariants as read
use Rattle.luf_plan.specs.declared.command.Manner.TheVariants.{Show, Compare, Rewrite}
use Rattle.luf_work.specs.Limits.{source_limit}
use Rattle.luf_work.specs.declared.refusal.Refusal.{Refusal}
use Rattle.luf_work.specs.declared.refusal.Refusal.TheVariants.{TooLarge, Memory}
use Rattle.luafmt.specs.Job.{manner_of, Writes, Refuses}
use Rattle.luafmt.specs.Counts.{counts}
use Rattle.luafmt.specs.Line.{line_of, refusal_line, differs_line}
use Rattle.luafmt.specs.Outcome.{Turn, Comes, refused, shown, unchanged, differs, replaced}
use Rattle.luafmt.specs.declared.job.Job.{Job}
use Rattle.luafmt.specs.declared.job.Job.TheVariants as job
use Rattle.luafmt.specs.declared.status.Status.TheVariants.{Done, Differs, Refused}

-- the row of a source that is refused, with its line
pub refused_comes : (j : Job) (name contents : List ℕ) (t : Turn) (refusal : Refusal) → (refusal ≢ Memory → Refuses j contents refusal) → ((line : List ℕ) × (refusal_line name refusal ≡ Some line) × (t ≡ record { status = Refused; out = []; errs = line_of line; rewritten = None })) → Comes j name contents t
refused_comes j name contents t refusal cause h = subst (λ (v : Turn). Comes j name contents v) (sym h.2) (refused j name contents h.0 refusal (cause other) h.1)
  where
    other : refusal ≡ Memory → ⊥
    other e = let none : None ≡ Some h.0 = ap (refusal_line name) (sym e) ∙ h.1 in cc

-- a source that is done
abbrev pub done_turn : List ℕ → Option (List ℕ) → Turn
done_turn out rewritten = record { status = Done; out = out; errs = []; rewritten = rewritten }

-- the rows of an accepted source
pub shown_comes : (j : Job) (name contents text : List ℕ) (t : Turn) → manner_of j ≡ Show → Writes j contents text → t ≡ done_turn text None → Comes j name contents t
shown_comes j name contents text t m written is = subst (λ (v : Turn). Comes j name contents v) (sym is) (shown j name contents text m written)

not_shown : (j : Job) → (manner_of j ≡ Compare) ⊎ (manner_of j ≡ Rewrite) → manner_of j ≢ Show
not_shown j (inl is) show = let e : Compare ≡ Show = sym is ∙ show in absurd cc
not_shown j (inr is) show = let e : Rewrite ≡ Show = sym is ∙ show in absurd cc

pub unchanged_comes : (j : Job) (name contents text out : List ℕ) (t : Turn) → (manner_of j ≡ Compare) ⊎ (manner_of j ≡ Rewrite) → Writes j contents text → text ≡ contents → out ≡ [] → t ≡ done_turn out None → Comes j name contents t
unchanged_comes j name contents text out t m written same none is =
    subst (λ (v : Turn). Comes j name contents v) (sym (is ∙ ap (λ (o : List ℕ). done_turn o None) none)) (unchanged j name contents (not_shown j m) (subst (Writes j contents) same written))

pub differs_comes : (j : Job) (name contents text out errs : List ℕ) → manner_of j ≡ Compare → Writes j contents text → text ≢ contents → out ≡ [] → errs ≡ line_of (differs_line name) → Comes j name contents (record { status = Differs; out = out; errs = errs; rewritten = None })
differs_comes j name contents text out errs m written other none is =
    subst (λ (line : List ℕ). Comes j name contents (record { status = Differs; out = out; errs = line; rewritten = None })) (sym is)
    (subst (λ (bytes : List ℕ). Comes j name contents (record { status = Differs; out = bytes; errs = line_of (differs_line name); rewritten = None })) (sym none) (differs j name contents text m written other))

pub replaced_comes : (j : Job) (name contents text out : List ℕ) (t : Turn) → manner_of j ≡ Rewrite → Writes j contents text → text ≢ contents → out ≡ [] → t ≡ done_turn out (Some text) → Comes j name contents t
replaced_comes j name contents text out t m written other none is =
    subst (λ (v : Turn). Comes j name contents v) (sym (is ∙ ap (λ (o : List ℕ). done_turn o (Some text)) none)) (replaced j name contents text m written other)

-- the answer to a source that is refused, where there is one
pub refused_answer : {E : Type 0} (j : Job) (name contents : List ℕ) (r : Result Turn E) (refusal : Refusal) → (refusal ≢ Memory → Refuses j contents refusal)
    → IfOk r (λ t. (line : List ℕ) × (refusal_line name refusal ≡ Some line) × (t ≡ record { status = Refused; out = []; errs = line_of line; rewritten = None })) → IfOk r (Comes j name contents)
refused_answer j name contents (Ok t) refusal cause h = refused_comes j name contents t refusal cause h
refused_answer j name contents (Err e) refusal cause h = tt

-- a turn that rewrites its file is one of a job that does so
pub rewrites : (j : Job) (name contents : List ℕ) (t : Turn) → Comes j name contents t → t.rewritten ≢ None → manner_of j ≡ Rewrite
rewrites j name contents t (refused _ _ _ _ _ _ _) some = absurd (some refl)
rewrites j name contents t (shown _ _ _ _ _ _) some = absurd (some refl)
rewrites j name contents t (unchanged _ _ _ _ _) some = absurd (some refl)
rewrites j name contents t (differs _ _ _ _ _ _ _) some = absurd (some refl)
rewrites j name contents t (replaced _ _ _ _ m _ _) some = m

-- each job refuses a source that is too large
pub too_large : (j : Job) (contents : List ℕ) → source_limit < length contents → Refuses j contents TooLarge
too_large (job.Format o m) contents large = large
too_large job.Minify contents large = large
too_large job.Check contents large = large
too_large job.List contents large = large

-- some list is longer than a number
longer : (n : ℕ) → (xs : List ℕ) × (n < length xs)
longer zero = (0 ∷ [], omega arith)
longer (suc n) = let xs = longer n in let long = xs.1 in (0 ∷ xs.0, omega arith)

same_told : (files others : FileMap) (name bytes : List ℕ) → Some files ≡ Some others → get files name ≡ Some bytes → get others name ≡ Some bytes
same_told files others name bytes same found = cc

-- a file that is too long has such contents, those that are told or any
pub too_long_file : (told : Option FileMap) (name : List ℕ) (most : ℕ) → IsTooLong told name most → (contents : List ℕ) × ForSome told (λ files. get files name ≡ Some contents) × (most < length contents)
too_long_file None name most long = let any = longer most in (any.0, λ files e. absurd cc, any.1)
too_long_file (Some files) name most long = let file = long files refl in (file.0, λ others e. same_told files others name file.0 e file.1, file.2)

contents_pulled : (left : Option (List ℕ)) (pulled : List ℕ) (after : Option (List ℕ)) → Taken left pulled after → source_limit < length pulled → (contents : List ℕ) × ForSome left (λ bytes. bytes ≡ contents) × (source_limit < length contents)
contents_pulled left pulled None taken large = (pulled, λ told e. cc, large)
contents_pulled left pulled (Some rest) taken large = (pulled ++ rest, λ told e. cc, simp length-append (omega arith))

-- where more was pulled than a source may have, the contents have more too
pub too_long_input : (left after : Option (List ℕ)) (pulled : List ℕ) (e : ReadErr) → e ≡ read.TooLarge → Taken left pulled after → PullsWithin {T = Unit {0}} (Err e) source_limit (length pulled) → (contents : List ℕ) × ForSome left (λ bytes. bytes ≡ contents) × (source_limit < length contents)
too_long_input left after pulled e word taken limit =
    let over : length pulled ≡ source_limit + 1 = subst (λ (r : ReadErr). PullsWithin {T = Unit {0}} (Err r) source_limit (length pulled)) word limit in
    contents_pulled left pulled after taken (omega arith)

-- ---- counts and causes

pub same_counts : {a b c d e v w x y z : ℕ} → a ≡ v → b ≡ w → c ≡ x → d ≡ y → e ≡ z → counts a b c d e ≡ counts v w x y z
same_counts p q r s t = λ i. counts (p i) (q i) (r i) (s i) (t i)

-- a cause of the first two
pub first_two : {A B C : Type 0} → A ⊎ B → A ⊎ B ⊎ C
first_two (inl rose) = inl rose
first_two (inr rose) = inr (inl rose)
