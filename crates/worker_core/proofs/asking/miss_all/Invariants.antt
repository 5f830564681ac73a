use Rattle.std.proofs.Common.{◌≡◌, take}
use Rattle.cluster_msgs.specs.Shape.{key_count}
use Rattle.cluster_rules.specs.WorkerStep.{each_key, not_found}
use Rattle.worker_facts.specs.Stored.{facts_of}
use Rattle.worker_core.specs.Core.{step_of}
use Rattle.worker_core.proofs.asking.miss_all.Given as goal

abbrev pub invariant-loop-item : goal.invariant-loop-item
invariant-loop-item l = record {
  step : step_of l.table l.made ≡ each_key (not_found l.peer) (step_of l.fn.table l.fn.made) (take l.item-index l.items);
  keys : key_count (facts_of l.table).shape ≡ key_count (facts_of l.fn.table).shape;
}
