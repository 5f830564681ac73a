use Rattle.std.proofs.Common.{◌≡◌, [], replicate}
use Rattle.cluster_msgs.specs.declared.events.Event.TheVariants.{Join}
use Rattle.cluster_sim.specs.Acts.{Stays}
use Rattle.cluster_sim.specs.Openings.{HasOpened}
use Rattle.cluster_sim.proofs.opening.join_all.Given as goal

abbrev pub invariant-loop-number : goal.invariant-loop-number
invariant-loop-number g l = record {
  opened : HasOpened g.J.JobSpec.operation g.J.JobSpec.feed_tells [] l._number (replicate l._number (Join l.plan.threads)) l.fn.world l.world l.tally;
  stays : Stays g.J.JobSpec.feed_tells l.fn.world l.world;
  faults : g.J.JobSpec.fault_count l.world.feed ≡ g.J.JobSpec.fault_count l.fn.world.feed;
}
