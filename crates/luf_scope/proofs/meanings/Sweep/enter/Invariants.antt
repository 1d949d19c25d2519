use Rattle.std.proofs.Common.{◌-◌, length}
use Rattle.luf_scope.specs.inner.Sweep.{IsSweep}
use Rattle.luf_scope.proofs.meanings.Sweep.enter.Given as goal

abbrev pub invariant-loop-self : goal.invariant-loop-self
invariant-loop-self l = IsSweep l.scopes l.place l.self.entered l.self.stacks.items

abbrev pub decreases-loop-self : goal.decreases-loop-self
decreases-loop-self l = length l.scopes - l.self.entered
