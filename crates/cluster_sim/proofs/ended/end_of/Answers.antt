use Rattle.std.proofs.Common.{◌∙◌, sym, ap, length}
use Rattle.cluster_sim.proofs.EndLemmas.{over_failed, all_here, some_missing}
use Rattle.cluster_sim.proofs.ended.end_of.Goals as goal

pub returns-in-Some : goal.returns-in-Some
returns-in-Some c d seen wants keys = over_failed d c.in-Some.blame (sym c.in-Some.is ∙ seen.failure)

pub returns-then-seen-as_slice : goal.returns-then-seen-as_slice
returns-then-seen-as_slice c d seen wants keys = all_here d c.args.wanted.now c.args.seen.now _ seen wants keys c.in-None.is (ap length c.as_slice.ensures) c.if-seen-as_slice.true

pub returns-else-seen-as_slice : goal.returns-else-seen-as_slice
returns-else-seen-as_slice c d seen wants keys = some_missing d c.args.wanted.now c.args.seen.now _ seen wants keys c.in-None.is (ap length c.as_slice.ensures) c.if-seen-as_slice.false
