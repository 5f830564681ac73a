use Rattle.std.proofs.Common.{◌≡◌, take}
use Rattle.cluster_msgs.specs.Shape.{key_count}
use Rattle.cluster_rules.specs.WorkerStep.{ask_holders}
use Rattle.worker_facts.specs.Stored.{facts_of}
use Rattle.worker_core.specs.Core.{step_of}
use Rattle.worker_core.proofs.step.ask_holders.Given as goal

abbrev pub invariant-loop-key : goal.invariant-loop-key
invariant-loop-key l = record {
  step : step_of l.table l.made ≡ ask_holders (step_of l.fn.table l.fn.made) (take l.key-index l.keys);
  keys : key_count (facts_of l.table).shape ≡ key_count (facts_of l.fn.table).shape;
}
