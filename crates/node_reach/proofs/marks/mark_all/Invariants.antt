use Rattle.std.proofs.Common.{take, eqb}
use Rattle.std.specs.List.{list_any}
use Rattle.node_reach.specs.Marks.{Marks}
use Rattle.node_reach.proofs.marks.mark_all.Given as goal

abbrev pub invariant-loop-node : goal.invariant-loop-node
invariant-loop-node l = Marks (λ k. list_any (λ j. eqb j k) (take l.node-index l.nodes)) l.initial.marks l.marks
