use Rattle.std.specs.Io.KnownBytes.{Keeps}
use Rattle.luafmt.proofs.streams.read_some.Given as goal

-- the reads so far were interrupted, and took nothing
abbrev pub invariant-loop : goal.invariant-loop
invariant-loop g l = Keeps (g.R.Read.remaining l.initial.reader) (g.R.Read.remaining l.reader)
