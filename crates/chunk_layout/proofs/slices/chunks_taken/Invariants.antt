use Rattle.std.proofs.Common.{◌≡◌, ◌≤◌, ◌-◌, ◌++◌, map}
use Rattle.std.specs.List.{range_with_len}
use Rattle.nd_shape.specs.Slice.{coordinate}
use Rattle.chunk_layout.specs.Layouts.{chunk_of}
use Rattle.chunk_layout.specs.Slices.{runs, taken_from}
use Rattle.chunk_layout.proofs.slices.chunks_taken.Given as goal

abbrev pub invariant-loop-at : goal.invariant-loop-at
invariant-loop-at l = record {
  there : l.at ≤ l.steps.count;
  value : l.list.items ++ taken_from l.cuts l.steps l.at (runs (map (λ t. chunk_of l.cuts (coordinate l.steps t)) (range_with_len l.at (l.steps.count - l.at))))
      ≡ taken_from l.cuts l.steps 0 (runs (map (λ t. chunk_of l.cuts (coordinate l.steps t)) (range_with_len 0 l.steps.count)));
}

abbrev pub decreases-loop-at : goal.decreases-loop-at
decreases-loop-at l = l.steps.count - l.at
