use Rattle.std.proofs.Common.{ℕ, List, map, take, Option}
use Rattle.luafmt.specs.Counts.{counts}
use Rattle.luafmt.specs.Outcome.{file}
use Rattle.luafmt.specs.inner.Ended.{world, Through}
use Rattle.luafmt.proofs.turn.take_files.Given as goal

-- the files so far came to their turns
abbrev pub invariant-loop-name : goal.invariant-loop-name
invariant-loop-name g l =
    (left : Option (List ℕ)) (faults : ℕ) → Through l.job left (map file (map (λ s. s.now) (take l.name-index l.names)))
    (world (g.F.Files.told l.initial.files) (g.O.Sink.written l.initial.out) (g.E.Sink.written l.initial.errs) (counts faults (g.F.Files.fetch_faults l.initial.files) (g.F.Files.replace_faults l.initial.files) (g.O.Sink.faults l.initial.out) (g.E.Sink.faults l.initial.errs)))
    (world (g.F.Files.told l.files) (g.O.Sink.written l.out) (g.E.Sink.written l.errs) (counts faults (g.F.Files.fetch_faults l.files) (g.F.Files.replace_faults l.files) (g.O.Sink.faults l.out) (g.E.Sink.faults l.errs)))
    l.status
