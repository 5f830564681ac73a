use Rattle.std.proofs.Common.{◌≡◌, ◌≤◌, ◌++◌}
use Rattle.chunk_layout.specs.Trees.{tree}
use Rattle.chunk_layout.proofs.fold_tree.tree.Given as goal

abbrev pub invariant-loop-left : goal.invariant-loop-left
invariant-loop-left l = record { few : l.left ≤ l.partials; value : l.levels ++ tree l.left l.split ≡ tree l.partials l.split }

abbrev pub decreases-loop-left : goal.decreases-loop-left
decreases-loop-left l = l.left
