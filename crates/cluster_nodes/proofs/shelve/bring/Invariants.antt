use Rattle.std.proofs.Common.{◌≡◌, ℕ, None, ◌&&◌, cond}
use Rattle.std.specs.Prelude.{◌==◌}
use Rattle.fact_rows.specs.Rows.{cell, height, width}
use Rattle.cluster_laws.specs.Moves.{either}
use Rattle.cluster_nodes.specs.Turns.{first_at}
use Rattle.cluster_nodes.proofs.shelve.bring.Given as goal

abbrev pub invariant-loop-pair : goal.invariant-loop-pair
invariant-loop-pair g l = record {
  done : (w k : ℕ) → cell l.shelf None w k ≡ cond (w == l.node && g.H.Holder.counted l.holder k) (either (cell l.fn.shelf None w k) (first_at l.yielded k)) (cell l.fn.shelf None w k);
  high : height l.shelf ≡ height l.fn.shelf;
  wide : width l.shelf ≡ width l.fn.shelf;
}
