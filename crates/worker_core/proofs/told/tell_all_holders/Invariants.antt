use Rattle.std.proofs.Common.{◌≡◌, take, fold}
use Rattle.cluster_msgs.specs.Shape.{key_count}
use Rattle.cluster_rules.specs.WorkerStep.{set_holders}
use Rattle.worker_facts.specs.Stored.{facts_of}
use Rattle.worker_core.proofs.told.tell_all_holders.Given as goal

abbrev pub invariant-loop-pair : goal.invariant-loop-pair
invariant-loop-pair l = record {
  facts : facts_of l.table ≡ fold set_holders (facts_of l.fn.table) (take l.pair-index l.who_has);
  keys : key_count (facts_of l.table).shape ≡ key_count (facts_of l.fn.table).shape;
}
