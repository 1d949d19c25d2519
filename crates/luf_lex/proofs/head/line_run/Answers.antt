use Rattle.std.proofs.Common.{ℕ, List, length, arith}
use Rattle.luf_lex.proofs.CommentLemmas.{all_in_line, not_all_in_line, line_run}
use Rattle.luf_lex.proofs.head.line_run.Goals as goal

pub returns-in-Some-clause-run : goal.returns-in-Some-clause-run
returns-in-Some-clause-run c =
    let text : List ℕ = c.args.text.now in
    let found = c.in-Some.ensures in
    line_run text c.in-Some.end (omega (arith, found.0.high)) (all_in_line text c.in-Some.end (omega (arith, found.0.high)) (λ i below. found.0.before i (omega arith) below)) (λ m more within. not_all_in_line text c.in-Some.end m more within found.1)

pub returns-in-None-clause-run : goal.returns-in-None-clause-run
returns-in-None-clause-run c =
    let text : List ℕ = c.args.text.now in
    line_run text (length text) (omega arith) (all_in_line text (length text) (omega arith) (λ i below. c.in-None.ensures i (omega arith) below)) (λ m more within each. omega arith)
