use Rattle.std.proofs.Common.{◌∙◌, ap, get_or}
use Rattle.cluster_msgs.specs.Shape.{key_count}
use Rattle.cluster_rules.specs.WorkerStep.{quiet, remove_replica}
use Rattle.worker_core.proofs.CoreLemmas.{pushed_step}
use Rattle.worker_core.proofs.CountLemmas.{same_remove}
use Rattle.worker_facts.specs.Stored.{facts_of}
use Rattle.worker_core.proofs.told.remove_each.Goals as goal

pub loop-key-preserved : goal.loop-key-preserved
loop-key-preserved c =
    let i = c.loop-key.key-index in
    record {
      step = pushed_step remove_replica (quiet (facts_of c.args.table.now)) c.args.keys.now i 0 (facts_of c.loop-key.table) (facts_of c.remove_replica.new.table) c.loop-key.made c.remove_replica.new.made c.loop-key-test.true
          c.loop-key.invariant.step c.in_ok-remove_replica.ensures.facts c.in_ok-remove_replica.ensures.out;
      keys = ap (λ f. key_count f.shape) c.in_ok-remove_replica.ensures.facts ∙ ap key_count (same_remove (facts_of c.loop-key.table) (get_or c.args.keys.now i 0)).shape ∙ c.loop-key.invariant.keys;
    }
