use Rattle.std.proofs.Common.{◌≡◌, ℕ, false, ◌&&◌, cond, take}
use Rattle.std.specs.Prelude.{◌==◌}
use Rattle.cluster_rules.specs.Derived.{is_in}
use Rattle.fact_rows.specs.Rows.{cell, height, width}
use Rattle.worker_core.specs.Core.{facts}
use Rattle.cluster_nodes.proofs.cores.unspill_lost.Given as goal

abbrev pub invariant-loop-key : goal.invariant-loop-key
invariant-loop-key l = record {
  done : (w k : ℕ) → cell l.spilled false w k ≡ cond (w == l.worker && is_in k (take l.key-index l.lost)) (cell l.fn.spilled false w k && (facts l.core).mem k) (cell l.fn.spilled false w k);
  high : height l.spilled ≡ height l.fn.spilled;
  wide : width l.spilled ≡ width l.fn.spilled;
}
