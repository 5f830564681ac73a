use Rattle.std.proofs.Common.{◌≡◌, ◌++◌, length, map}
use Rattle.std.specs.List.{range_with_len}
use Rattle.nd_shape.specs.Index.{index_at}
use Rattle.block_lowering.proofs.growing.push_blocks.Given as goal

abbrev pub invariant-loop-place : goal.invariant-loop-place
invariant-loop-place g l = record {
  axes : length l.numbers.items ≡ length l.counts;
  tasks : l.graph ≡ l.initial.graph ++ map (λ c. g.S.Stage.task_of l.stage (index_at l.counts c)) (range_with_len 0 l.place);
}
