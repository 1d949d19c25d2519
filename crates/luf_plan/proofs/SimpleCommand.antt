-- What `clap` reads at the simple command of a command.
use Rattle.std.proofs.Common.{◌≡◌, inl, inr, ℕ, true, false, List, [], Option, Some, None, option_map, map, unwrap_or, codes, refl, sym, ap, ap₂, ◌∙◌, subst}
use Rattle.std.specs.Prelude.{◌↔◌, Bool, IsTrue, Result, Ok, Err, IfOk}
use Rattle.std.specs.Borrow.{Bor}
use Rattle.std.specs.Option.{IsSomeAnd}
use Rattle.clap.specs.Walk.{Rule, all_of, first_of, rule_of}
use Rattle.clap.specs.Simple.{App, HasMatchesOf, app_of, is_simple, new_rule, with_rule}
use Rattle.clap.specs.Built.{AddsArg}
use Rattle.clap.specs.Faults.{fault_of, is_simple_and_free}
use Rattle.clap.specs.Kinds.{HasKind, IsAmong, Kinds}
use Rattle.clap.specs.Lexer.{usize_max}
use Rattle.clap.specs.Matches.{found_of, first_value, matched_of, raw_values}
use Rattle.clap.specs.Values.{kind_of}
use Rattle.clap.specs.declared.builder.action.ArgAction.TheVariants.{SetTrue}
use Rattle.clap.specs.declared.builder.arg.Arg.{Arg}
use Rattle.clap.specs.declared.builder.command.Command.{Command as Simple}
use Rattle.clap.specs.declared.builder.range.ValueRange.{ValueRange}
use Rattle.clap.specs.declared.error.Error.{Error}
use Rattle.clap.specs.declared.error.kind.ErrorKind.TheVariants as kind
use Rattle.clap.specs.declared.parser.matches.ArgMatches.{ArgMatches}
use Rattle.clap.proofs.OnLiterals.{clap_on_literals}
use Rattle.clap.proofs.WalkLemmas.{first_value-rows, raw_values-rows}
use Rattle.luf_plan.specs.Plan.{file_rule, flag_rule, simple_command, files_in, of_format, value_in, HasFlag, with_flags}
use Rattle.luf_plan.specs.declared.command.Command.{Command}
use Rattle.luf_plan.specs.declared.command.Command.TheVariants as command

-- each such command is simple, and FILE has no rule on another argument
pub simple : (c : Command) → is_simple (simple_command c) ≡ true
unfolding clap_on_literals
simple command.Format = refl
simple command.Minify = refl
simple command.Check = refl
simple command.List = refl

pub simple_and_free : (c : Command) → is_simple_and_free (simple_command c) ≡ true
unfolding clap_on_literals
simple_and_free command.Format = refl
simple_and_free command.Minify = refl
simple_and_free command.Check = refl
simple_and_free command.List = refl

-- `clap` has found no fault
pub taken_by : (c : Command) (app : App) (words : List (List ℕ)) → app ≡ simple_command c → (is_simple_and_free app ≡ true → fault_of app words ≡ []) → fault_of (simple_command c) words ≡ []
taken_by c app words is none = subst (λ (a : App). fault_of a words ≡ []) is (none (ap is_simple_and_free is ∙ simple_and_free c))

-- an error of another kind than want of memory has a fault
pub refused_by : (c : Command) (app : App) (words : List (List ℕ)) (e : Error) → app ≡ simple_command c → (is_simple_and_free app ≡ true → HasKind (fault_of app words) e) → (kind_of e ≡ kind.OutOfMemory → ⊥) → fault_of (simple_command c) words ≡ [] → ⊥
refused_by c app words e is has other none = has_fault (fault_of (simple_command c) words) e (subst (λ (a : App). HasKind (fault_of a words) e) is (has (ap is_simple_and_free is ∙ simple_and_free c))) other none
  where
    has_fault : (faults : Kinds) (e : Error) → HasKind faults e → (kind_of e ≡ kind.OutOfMemory → ⊥) → faults ≡ [] → ⊥
    has_fault faults e (inl memory) other none = other memory
    has_fault faults e (inr among) other none = subst (λ (ks : Kinds). IsAmong (kind_of e) ks) none among

-- the values of FILE are those that `clap` reads
pub files_by : (c : Command) (app : App) (words : List (List ℕ)) (m : ArgMatches) (o : Option (List (List ℕ))) → app ≡ simple_command c → HasMatchesOf app words m → o ≡ option_map raw_values (matched_of (found_of m) (codes "FILE")) → unwrap_or o [] ≡ files_in c words
files_by c app words m o same has is =
    let rows = (subst (λ (a : App). HasMatchesOf a words m) same has (simple c)).0 in
    ap (λ (p : Option (List (List ℕ))). unwrap_or p []) (is ∙ raw_values-rows (found_of m) (codes "FILE") ∙ ap (all_of (codes "FILE")) rows)

-- so is the first value of an argument
pub value_by : (c : Command) (app : App) (words : List (List ℕ)) (m : ArgMatches) (id : List ℕ) (o : Option (List ℕ)) → app ≡ simple_command c → HasMatchesOf app words m → o ≡ of_format c (first_value (found_of m) id) → o ≡ value_in c words id
value_by c app words m id o same has is =
    let rows = (subst (λ (a : App). HasMatchesOf a words m) same has (simple c)).0 in
    is ∙ ap (of_format c) (first_value-rows (found_of m) id ∙ ap (first_of id) rows)

-- and so whether a flag is given
pub flag_by : (c : Command) (app : App) (words : List (List ℕ)) (m : ArgMatches) (id : List ℕ) (o : Option (List ℕ)) (b : Bool) → app ≡ simple_command c → HasMatchesOf app words m → o ≡ of_format c (first_value (found_of m) id) → (IsTrue b ↔ (o ≡ Some (codes "true"))) → (IsTrue b ↔ HasFlag c words id)
flag_by c app words m id o b same has is given = subst (λ (v : Option (List ℕ)). IsTrue b ↔ (v ≡ Some (codes "true"))) (value_by c app words m id o same has is) given

some_and : {X : Type 0} (o : Option X) (x : X) → IsSomeAnd o (λ y. y ≡ x) → o ≡ Some x
some_and None x h = absurd h
some_and (Some y) x h = ap Some h

-- FILE, once it takes any number of values
pub ranged : (a b : Arg) → rule_of a ≡ new_rule (codes "FILE") → b ≡ record a { num_vals = b.num_vals } → IsSomeAnd b.num_vals (λ r. r ≡ record { start_inclusive = 0; end_inclusive = usize_max }) → rule_of b ≡ file_rule
ranged a b rule is range =
    ap rule_of is
    ∙ ap (λ (r : Rule). record r { range = b.num_vals }) rule
    ∙ ap (λ (n : Option ValueRange). record (new_rule (codes "FILE")) { range = n }) (some_and b.num_vals _ range)

-- an option, and a flag
pub long_by : (a b : Arg) (id : List ℕ) (name : Bor (List ℕ)) → rule_of a ≡ new_rule id → b ≡ record a { long = Some name } → rule_of b ≡ record (new_rule id) { long = Some name.now }
long_by a b id name rule is = ap rule_of is ∙ ap (λ (r : Rule). record r { long = Some name.now }) rule

pub flag_rule_by : (a b c : Arg) (name : Bor (List ℕ)) → rule_of a ≡ new_rule name.now → b ≡ record a { long = Some name } → c ≡ record b { action = Some SetTrue } → rule_of c ≡ flag_rule name.now
flag_rule_by a b c name rule long action =
    ap rule_of action ∙ ap (λ (r : Rule). record r { action = Some SetTrue }) (long_by a b name.now name rule long)

-- what the values come to, where there are some, and where there are none
pub some_read : (got : Option (Bor (List (Bor (List ℕ))))) (files : Bor (List (Bor (List ℕ)))) → got ≡ Some files → map (λ s. s.now) files.now ≡ unwrap_or (option_map (λ s. map (λ v. v.now) s.now) got) []
some_read got files is = ap (λ (o : Option (Bor (List (Bor (List ℕ))))). unwrap_or (option_map (λ s. map (λ v. v.now) s.now) o) []) (sym is)

pub none_read : (got : Option (Bor (List (Bor (List ℕ))))) → got ≡ None → [] ≡ unwrap_or (option_map (λ s. map (λ v. v.now) s.now) got) []
none_read got is = ap (λ (o : Option (Bor (List (Bor (List ℕ))))). unwrap_or (option_map (λ s. map (λ v. v.now) s.now) o) []) (sym is)

-- FILE behind the option and the flags of `format`
pub flags_and_files : {E : Type 0} (c : Command) (result : Result Simple E) (old flagged : Simple) (arg : Arg) → c ≡ command.Format → app_of flagged ≡ with_flags command.Format (app_of old) → rule_of arg ≡ file_rule → arg.global ≡ false → IfOk result (AddsArg flagged arg)
    → IfOk result (λ more. app_of more ≡ with_rule (with_flags c (app_of old)) file_rule)
flags_and_files c (Ok more) old flagged arg is flags rule local adds = adds.shape local ∙ ap₂ with_rule (flags ∙ ap (λ (x : Command). with_flags x (app_of old)) (sym is)) rule
flags_and_files c (Err e) old flagged arg is flags rule local adds = tt
