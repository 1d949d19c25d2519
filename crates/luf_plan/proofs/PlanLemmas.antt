-- The plan of words, from what `clap` reads in them, and why they mean none.
use Rattle.std.proofs.Common.{◌≡◌, ℕ, Bool, true, false, List, [], ◌∷◌, map, drop, length, codes, Option, Some, option_map, slice_get, sym, ap, ◌∙◌, subst}
use Rattle.std.specs.Prelude.{◌↔◌, IsTrue}
use Rattle.std.specs.Borrow.{Bor}
use Rattle.std.proofs.lemmas.List.{length-map}
use Rattle.clap.specs.Faults.{fault_of}
use Rattle.luf_plan.specs.Command.{command_word, TakesFiles}
use Rattle.luf_plan.specs.Plan.{planned, Mean, AreNoCommand, IsManner, shows, compares, rewrites, HasFlag, config_in, files_in, simple_command}
use Rattle.luf_plan.specs.declared.command.Command.{Command}
use Rattle.luf_plan.specs.declared.command.Manner.{Manner}
use Rattle.luf_plan.specs.declared.command.Manner.TheVariants.{Show, Compare, Rewrite}
use Rattle.luf_plan.specs.inner.Chosen.{IsChosen, NothingChosen}
use Rattle.luf_plan.proofs.OnePlan.{one_word, one_manner}

abbrev first_of_words : List (List ℕ) → List ℕ
first_of_words [] = []
first_of_words (word ∷ words) = word

-- words begin with one command at most
pub same_command : (words rest other : List (List ℕ)) (a b : Command) → words ≡ command_word a ∷ rest → words ≡ command_word b ∷ other → a ≡ b
same_command words rest other a b e f = one_word a b (ap first_of_words (sym e ∙ f))

pub true_false : (b : Bool) → b ≡ true → b ≡ false → ⊥
true_false b e f = let bad : true ≡ false = sym e ∙ f in absurd cc

module _ (words rest : List (List ℕ)) (c : Command) (check write : Bool) (first : words ≡ command_word c ∷ rest) (has_check : IsTrue check ↔ HasFlag c words (codes "check")) (has_write : IsTrue write ↔ HasFlag c words (codes "write")) where
  -- what becomes of the texts, by the flags
  manner_by : (k : Manner) → IsChosen check write k → IsManner c words k
  manner_by Show is = shows (λ has. true_false check (has_check.1 has) is.0) (λ has. true_false write (has_write.1 has) is.1)
  manner_by Compare is = compares (has_check.0 is.0) (λ has. true_false write (has_write.1 has) is.1)
  manner_by Rewrite is = rewrites (λ has. true_false check (has_check.1 has) is.0) (has_write.0 is.1)

  pub meant : (k : Manner) (config : Option (Bor (List ℕ))) (files : List (Bor (List ℕ))) → fault_of (simple_command c) words ≡ [] → IsChosen check write k
      → option_map (λ s. s.now) config ≡ config_in c words → map (λ s. s.now) files ≡ files_in c words → TakesFiles c k (length files) → Mean words (planned c k config files)
  meant k config files taken chosen config_is files_is takes = record {
    rest = rest;
    first = first;
    taken = taken;
    manner = manner_by k chosen;
    config = config_is;
    files = files_is;
    allowed = subst (TakesFiles c k) (sym (length-map files (λ (s : Bor (List ℕ)). s.now))) takes;
  }

  no_manner : (k : Manner) → NothingChosen check write → IsManner c words k → ⊥
  no_manner k both (shows no_check _) = no_check (has_check.0 both.0)
  no_manner k both (compares _ no_write) = no_write (has_write.0 both.1)
  no_manner k both (rewrites no_check _) = no_check (has_check.0 both.0)

  -- with both flags they mean no plan
  pub both_given : NothingChosen check write → AreNoCommand words
  both_given both plan m = no_manner plan.manner both (subst (λ (x : Command). IsManner x words plan.manner) (same_command words m.rest rest plan.command c m.first first) m.manner)

  -- nor with a number of files that the command does not take
  pub not_taken : (k : Manner) (files : List (Bor (List ℕ))) → IsChosen check write k → map (λ s. s.now) files ≡ files_in c words → (TakesFiles c k (length files) → ⊥) → AreNoCommand words
  not_taken k files chosen files_is none plan m =
      let same : plan.command ≡ c = same_command words m.rest rest plan.command c m.first first in
      let manner : plan.manner ≡ k = one_manner c words plan.manner k (subst (λ (x : Command). IsManner x words plan.manner) same m.manner) (manner_by k chosen) in
      let names : plan.files ≡ map (λ s. s.now) files = m.files ∙ ap (λ (x : Command). files_in x words) same ∙ sym files_is in
      let count : length plan.files ≡ length files = ap length names ∙ length-map files (λ (s : Bor (List ℕ)). s.now) in
      none (subst (TakesFiles c k) count (subst (λ (x : Manner). TakesFiles c x (length plan.files)) manner (subst (λ (x : Command). TakesFiles x plan.manner (length plan.files)) same m.allowed)))

-- words that begin with this one
pub words_begin : {W : Type 0} (f : W → List ℕ) (words : List W) (word : W) (first : List ℕ) → Some word ≡ slice_get words 0 → f word ≡ first → map f words ≡ first ∷ drop 1 (map f words)
words_begin f [] word first is e = absurd cc
words_begin {W} f (w ∷ words) word first is e =
    let same : w ≡ word = cc in
    ap (λ (x : W). f x ∷ map f words) same ∙ ap (λ (bytes : List ℕ). bytes ∷ map f words) e
