use Rattle.std.proofs.Common.{◌∙◌, ap, get_or}
use Rattle.cluster_msgs.specs.Shape.{key_count}
use Rattle.cluster_rules.specs.WorkerStep.{not_found}
use Rattle.worker_core.proofs.CoreLemmas.{pushed_step}
use Rattle.worker_core.proofs.CountLemmas.{same_missed}
use Rattle.worker_facts.specs.Stored.{facts_of}
use Rattle.worker_core.specs.Core.{step_of}
use Rattle.worker_core.proofs.asking.miss_all.Goals as goal

pub loop-item-preserved : goal.loop-item-preserved
loop-item-preserved c =
    let i = c.loop-item.item-index in
    record {
      step = pushed_step (not_found c.args.peer) (step_of c.args.table.now c.args.made.now) c.args.items.now i (0, 0) (facts_of c.loop-item.table) (facts_of c.miss.new.table) c.loop-item.made c.miss.new.made c.loop-item-test.true
          c.loop-item.invariant.step c.in_ok-miss.ensures.facts c.in_ok-miss.ensures.out;
      keys = ap (λ f. key_count f.shape) c.in_ok-miss.ensures.facts ∙ ap key_count (same_missed c.args.peer (facts_of c.loop-item.table) (get_or c.args.items.now i (0, 0))).shape ∙ c.loop-item.invariant.keys;
    }
