use Rattle.std.proofs.Common.{◌≡◌, ◌++◌, length}
use Rattle.std.specs.List.{range_with_len, flat_map}
use Rattle.nd_shape.specs.Shape.{elements}
use Rattle.nd_shape.specs.Index.{index_at}
use Rattle.lowering_laws.specs.Stages.{block_tasks}
use Rattle.block_lowering.proofs.folds.push_folded.Given as goal

abbrev pub invariant-loop-place : goal.invariant-loop-place
invariant-loop-place g l =
    l.graph ≡ l.initial.graph ++ flat_map (block_tasks l.fn.fold (elements l.parts) l.split l.fn.layout (λ bs p. g.P.Parted.part_of l.of bs (index_at l.parts p)) (length l.initial.graph)) (range_with_len 0 l.place)
