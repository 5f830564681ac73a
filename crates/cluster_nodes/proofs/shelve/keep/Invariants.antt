use Rattle.std.proofs.Common.{◌≡◌, ℕ, None, ◌&&◌, cond, take}
use Rattle.std.specs.Prelude.{◌==◌}
use Rattle.cluster_rules.specs.Derived.{is_in}
use Rattle.fact_rows.specs.Rows.{cell, height, width}
use Rattle.cluster_nodes.proofs.shelve.keep.Given as goal

abbrev pub invariant-loop-key : goal.invariant-loop-key
invariant-loop-key g l = record {
  done : (w k : ℕ) → cell l.shelf None w k ≡ cond (w == l.node && is_in k (take l.key-index l.lost)) (cond (g.H.Holder.counted l.holder k) (cell l.fn.shelf None w k) None) (cell l.fn.shelf None w k);
  high : height l.shelf ≡ height l.fn.shelf;
  wide : width l.shelf ≡ width l.fn.shelf;
}
