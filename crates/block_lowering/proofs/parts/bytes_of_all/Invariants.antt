use Rattle.std.proofs.Common.{◌≡◌, ◌≤◌, ◌*◌, ◌^◌, map, take}
use Rattle.nd_shape.specs.Chunk.{total}
use Rattle.task_graph.specs.Graphs.{bytes}
use Rattle.block_lowering.proofs.parts.bytes_of_all.Given as goal

abbrev pub invariant-loop-shape : goal.invariant-loop-shape
invariant-loop-shape l = record {
  value : l.sum ≡ total (map bytes (take l.shape-index l.shapes));
  small : l.sum ≤ 2 ^ 34 * l.shape-index;
}
