use Rattle.cluster_msgs.specs.Shape.{deps_of}
use Rattle.graph_run.specs.Uses.{AreLastUses}
use Rattle.graph_run.proofs.uses.last_uses.Given as goal

abbrev pub invariant-loop-key : goal.invariant-loop-key
invariant-loop-key l = AreLastUses (deps_of l.graph) l.key l.last.items
