use Rattle.std.proofs.Common.{length, ◌-◌}
use Rattle.node_reach.specs.Marks.{Grows, HasOperands, marked}
use Rattle.node_reach.proofs.marks.mark_needed.Given as goal

abbrev pub invariant-loop-done : goal.invariant-loop-done
invariant-loop-done l = record {
  grows : Grows l.nodes l.initial.marks l.marks;
  operands : HasOperands l.nodes (length l.nodes - l.done) (marked l.marks);
}
