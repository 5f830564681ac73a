use Rattle.std.proofs.Common.{◌≡◌, ℕ, ◌-◌}
use Rattle.cluster_rules.specs.Runs.{event_limit}
use Rattle.cluster_sim.specs.Acts.{Stays}
use Rattle.cluster_sim.specs.Plans.{plan_of}
use Rattle.cluster_sim.specs.Turns.{IsBetween, IsDrawn}
use Rattle.cluster_sim.proofs.whole.play.Given as goal

abbrev pub invariant-turns : goal.invariant-turns
invariant-turns g l = record {
  between : IsBetween (plan_of l.plan) l.wanted l.world l.run;
  stays : Stays g.J.JobSpec.feed_tells l.fn.world l.world;
  faults : g.J.JobSpec.fault_count l.world.feed ≡ g.J.JobSpec.fault_count l.fn.world.feed;
  drawn : (number : ℕ) → IsDrawn g.J.JobSpec.operation g.J.JobSpec.feed_tells (plan_of l.plan) l.wanted number l.fn.world l.fn.run
      → IsDrawn g.J.JobSpec.operation g.J.JobSpec.feed_tells (plan_of l.plan) l.wanted number l.world l.run;
}

abbrev pub decreases-turns : goal.decreases-turns
decreases-turns g l = event_limit - l.world.events
