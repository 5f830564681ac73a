use Rattle.std.proofs.Common.{◌∙◌, ap}
use Rattle.cluster_msgs.specs.Shape.{key_count}
use Rattle.cluster_rules.specs.WorkerStep.{quiet, free_key}
use Rattle.worker_core.proofs.CoreLemmas.{pushed_step}
use Rattle.worker_facts.specs.Stored.{facts_of}
use Rattle.worker_core.proofs.told.free_keys.Goals as goal

pub loop-key-preserved : goal.loop-key-preserved
loop-key-preserved c =
    let i = c.loop-key.key-index in
    record {
      step = pushed_step free_key (quiet (facts_of c.args.table.now)) c.args.keys.now i 0 (facts_of c.loop-key.table) (facts_of c.free_key.new.table) c.loop-key.made c.free_key.new.made c.loop-key-test.true
          c.loop-key.invariant.step c.in_ok-free_key.ensures.facts c.in_ok-free_key.ensures.out;
      keys = ap (λ f. key_count f.shape) c.in_ok-free_key.ensures.facts ∙ c.loop-key.invariant.keys;
    }
