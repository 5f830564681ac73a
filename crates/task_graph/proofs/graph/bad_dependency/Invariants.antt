use Rattle.std.proofs.Common.{◌≡◌, drop}
use Rattle.task_graph.specs.Pushes.{first_bad}
use Rattle.task_graph.proofs.graph.bad_dependency.Given as goal

abbrev pub invariant-loop-dep : goal.invariant-loop-dep
invariant-loop-dep l = first_bad l.key 0 l.deps ≡ first_bad l.key l.least (drop l.dep-index l.deps)
