-- That words mean one plan at most.
use Rattle.std.proofs.Common.{◌≡◌, ℕ, List, [], ◌∷◌, None, refl, sym, ap, ◌∙◌, subst, arith}
use Rattle.luf_plan.specs.Command.{command_word}
use Rattle.luf_plan.specs.Plan.{Plan, Mean, IsManner, shows, compares, rewrites, config_in, files_in}
use Rattle.luf_plan.specs.declared.command.Command.{Command}
use Rattle.luf_plan.specs.declared.command.Command.TheVariants as command
use Rattle.luf_plan.specs.declared.command.Manner.{Manner}
use Rattle.luf_plan.specs.declared.command.Manner.TheVariants.{Show, Compare, Rewrite}

abbrev first_byte : List ℕ → ℕ
first_byte [] = 0
first_byte (b ∷ bytes) = b

-- they begin with letters of their own
pub one_word : (a b : Command) → command_word a ≡ command_word b → a ≡ b
one_word command.Format command.Format e = refl
one_word command.Format command.Minify e = let bad : ◌≡◌ {A = ℕ} 102 109 = ap first_byte e in absurd (omega arith)
one_word command.Format command.Check e = let bad : ◌≡◌ {A = ℕ} 102 99 = ap first_byte e in absurd (omega arith)
one_word command.Format command.List e = let bad : ◌≡◌ {A = ℕ} 102 108 = ap first_byte e in absurd (omega arith)
one_word command.Minify command.Format e = let bad : ◌≡◌ {A = ℕ} 109 102 = ap first_byte e in absurd (omega arith)
one_word command.Minify command.Minify e = refl
one_word command.Minify command.Check e = let bad : ◌≡◌ {A = ℕ} 109 99 = ap first_byte e in absurd (omega arith)
one_word command.Minify command.List e = let bad : ◌≡◌ {A = ℕ} 109 108 = ap first_byte e in absurd (omega arith)
one_word command.Check command.Format e = let bad : ◌≡◌ {A = ℕ} 99 102 = ap first_byte e in absurd (omega arith)
one_word command.Check command.Minify e = let bad : ◌≡◌ {A = ℕ} 99 109 = ap first_byte e in absurd (omega arith)
one_word command.Check command.Check e = refl
one_word command.Check command.List e = let bad : ◌≡◌ {A = ℕ} 99 108 = ap first_byte e in absurd (omega arith)
one_word command.List command.Format e = let bad : ◌≡◌ {A = ℕ} 108 102 = ap first_byte e in absurd (omega arith)
one_word command.List command.Minify e = let bad : ◌≡◌ {A = ℕ} 108 109 = ap first_byte e in absurd (omega arith)
one_word command.List command.Check e = let bad : ◌≡◌ {A = ℕ} 108 99 = ap first_byte e in absurd (omega arith)
one_word command.List command.List e = refl

abbrev first_word : List (List ℕ) → List ℕ
first_word [] = []
first_word (word ∷ words) = word

pub one_command : (words : List (List ℕ)) (a b : Plan) → Mean words a → Mean words b → a.command ≡ b.command
one_command words a b m n = one_word a.command b.command (ap first_word (sym m.first ∙ n.first))

-- the flags say one manner at most
pub one_manner : (c : Command) (words : List (List ℕ)) (a b : Manner) → IsManner c words a → IsManner c words b → a ≡ b
one_manner c words Show Show (shows f g) (shows h k) = refl
one_manner c words Show Compare (shows f g) (compares h k) = absurd (f h)
one_manner c words Show Rewrite (shows f g) (rewrites h k) = absurd (g k)
one_manner c words Compare Show (compares f g) (shows h k) = absurd (h f)
one_manner c words Compare Compare (compares f g) (compares h k) = refl
one_manner c words Compare Rewrite (compares f g) (rewrites h k) = absurd (h f)
one_manner c words Rewrite Show (rewrites f g) (shows h k) = absurd (k g)
one_manner c words Rewrite Compare (rewrites f g) (compares h k) = absurd (f h)
one_manner c words Rewrite Rewrite (rewrites f g) (rewrites h k) = refl

-- the words mean one plan at most
pub one_plan : (words : List (List ℕ)) (a b : Plan) → Mean words a → Mean words b → a ≡ b
one_plan words a b m n =
    let same : a.command ≡ b.command = one_command words a b m n in
    let manner : a.manner ≡ b.manner = one_manner b.command words a.manner b.manner (subst (λ (c : Command). IsManner c words a.manner) same m.manner) n.manner in
    let config : a.config ≡ b.config = m.config ∙ ap (λ (c : Command). config_in c words) same ∙ sym n.config in
    let files : a.files ≡ b.files = m.files ∙ ap (λ (c : Command). files_in c words) same ∙ sym n.files in
    λ i. record { command = same i; manner = manner i; config = config i; files = files i }

-- only `format` has options
pub no_config : (words : List (List ℕ)) (plan : Plan) (c : Command) → Mean words plan → plan.command ≡ c → config_in c words ≡ None → plan.config ≡ None
no_config words plan c m e none = m.config ∙ ap (λ (x : Command). config_in x words) e ∙ none
