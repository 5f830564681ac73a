use Rattle.std.proofs.Common.{◌<◌, ℕ, List, sym, subst}
use Rattle.cluster_msgs.specs.Shape.{key_count}
use Rattle.worker_facts.specs.Stored.{facts_of}
use Rattle.worker_core.proofs.told.refresh_all.Goals as goal

pub refresh-requires : goal.refresh-requires
refresh-requires c =
    let n = key_count (facts_of c.args.table.now).shape in
    rw c.loop-pair.invariant.keys (subst (λ (p : ℕ × List (ℕ × ℕ)). p.0 < n) (sym c.pair-item.is) (c.requires c.loop-pair.pair-index c.pair-item.result c.loop-pair-test.true))
