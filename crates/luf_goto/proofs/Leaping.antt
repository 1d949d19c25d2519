-- Gotos whose target fails a test: one after another, and what they say of labels and local variables.
use Rattle.std.proofs.Common.{◌≡◌, ℕ, ◌+◌, ◌<◌, Bool, false, List, ◌∷◌, Option, None, length, get_or, drop, ap, ◌∙◌}
use Rattle.std.proofs.lemmas.Bool.{cond-false}
use Rattle.std.proofs.lemmas.List.{drop_more}
use Rattle.luf_goto.specs.declared.sites.GotoRow.{GotoRow}
use Rattle.luf_goto.specs.inner.Leaps.{first_failing}
use Rattle.luf_goto.specs.inner.Rows.{goto_at}

-- the goto at i does not fail
pub goes_on : (test : ℕ → Option ℕ → Bool) (gotos : List GotoRow) (targets : List (Option ℕ)) (i : ℕ) → i < length gotos → i < length targets → test (goto_at gotos i).token (get_or targets i None) ≡ false → first_failing test (drop i gotos) (drop i targets) ≡ first_failing test (drop (i + 1) gotos) (drop (i + 1) targets)
goes_on test gotos targets i inside within no_fault =
    ap (λ gs. first_failing test gs (drop i targets)) (drop_more gotos i (record { token = 0; name = 0; class = 0 }) inside)
    ∙ ap (λ ts. first_failing test (goto_at gotos i ∷ drop (i + 1) gotos) ts) (drop_more targets i None within)
    ∙ cond-false _ _ _ no_fault
