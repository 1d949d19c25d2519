-- The minified text of a source, from what is written under its least names.
use Rattle.std.proofs.Common.{ℕ, ◌≤◌, List, Ok, Err, length, ◌∙◌}
use Rattle.std.specs.Prelude.{Result, OnOk}
use Rattle.luf_min.specs.Minified.{IsMinified, IsSameProgram}
use Rattle.luf_min.proofs.Same.{minified_is_same}
use Rattle.luf_work.specs.Limits.{text_limit}
use Rattle.luf_work.specs.Minify.{KeepsProgram}
use Rattle.luf_work.specs.Source.{IsAccepted}
use Rattle.luf_work.proofs.RefusalLemmas.{one_scope_fault}

-- what is written of an accepted source is accepted, and it is the same program
pub keeps_program : (source text : List ℕ) → IsAccepted source → IsMinified source text → length text ≤ text_limit → KeepsProgram source text
keeps_program source text a m fits =
    let same : IsSameProgram source text = minified_is_same source text m (one_scope_fault source m.pieces a.pieces m.chunk a.chunk m.is a.is ∙ a.scopes) in
    record {
      accepted = record { within = fits; pieces = same.others; chunk = same.other; is = same.read; scopes = same.no_fault };
      same = same;
    }

-- what holds where a call was Ok, said otherwise
pub said_otherwise : {A E P Q : Type 0} (r : Result A E) → (P → Q) → OnOk r P → OnOk r Q
said_otherwise (Ok a) f h = f h
said_otherwise (Err e) f h = tt
