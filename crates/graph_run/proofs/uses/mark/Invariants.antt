use Rattle.std.proofs.Common.{take}
use Rattle.graph_run.specs.Writes.{IsWritten}
use Rattle.graph_run.proofs.uses.mark.Given as goal

abbrev pub invariant-loop-dep : goal.invariant-loop-dep
invariant-loop-dep l = IsWritten (λ d. Unit {0}) 0 l.key (take l.dep-index l.deps) l.initial.last l.last
