use Rattle.std.proofs.Common.{◌≡◌, take, fold, []}
use Rattle.cluster_msgs.specs.Shape.{key_count}
use Rattle.cluster_rules.specs.WorkerStep.{arrive}
use Rattle.worker_facts.specs.Stored.{facts_of}
use Rattle.worker_core.specs.Core.{arrivals_of}
use Rattle.worker_core.proofs.arrivals.arrive_all.Given as goal

abbrev pub invariant-loop-key : goal.invariant-loop-key
invariant-loop-key l = record {
  arrivals : arrivals_of l.table l.made l.added ≡ fold arrive (arrivals_of l.fn.table [] []) (take l.key-index l.keys);
  keys : key_count (facts_of l.table).shape ≡ key_count (facts_of l.fn.table).shape;
}
