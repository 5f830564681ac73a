use Rattle.std.proofs.Common.{◌≡◌, length}
use Rattle.std.specs.List.{filter, range_with_len}
use Rattle.task_graph.specs.Culls.{mark_at}
use Rattle.task_graph.proofs.culls.marked.Given as goal

abbrev pub invariant-loop-key : goal.invariant-loop-key
invariant-loop-key l = record {
  whole : l.numbers.keys ≡ length l.marks;
  same : l.numbers.order ≡ filter (mark_at l.marks) (range_with_len 0 l.key);
}
