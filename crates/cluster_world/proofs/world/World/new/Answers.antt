use Rattle.std.proofs.Common.{◌∙◌, ap, subst}
use Rattle.cluster_msgs.specs.Shape.{Shape, IsShape}
use Rattle.cluster_laws.specs.Blocks.{setting_of, opening_cluster}
use Rattle.cluster_world.proofs.Beginning.{begun_cluster, begun_made, begun_ready, begun_world}
use Rattle.cluster_world.proofs.world.World.new.Goals as goal

pub invariant_of-result : goal.invariant_of-result
invariant_of-result g c =
    begun_world c.args.job c.args.feed c.in_ok-shape.shape c.args.clients c.args.saturation c.args.allowed c.in_ok-state.state c.in_ok-state.ensures
    g.J.JobSpec.graph g.J.JobSpec.key_dims g.J.JobSpec.block_dims g.J.JobSpec.operation g.J.JobSpec.feed_fits g.J.JobSpec.feed_tells (c.in_ok-shape.ensures ∙ c.shape-graph.ensures) (subst IsShape c.shape-graph.ensures c.sound.ensures) c.requires.feed

pub returns-clause-opening : goal.returns-clause-opening
returns-clause-opening g c =
    begun_cluster c.args.job c.args.feed c.in_ok-shape.shape c.args.clients c.args.saturation c.args.allowed c.in_ok-state.state c.in_ok-state.ensures (g.J.JobSpec.operation c.args.job)
    ∙ ap (λ (z : Shape). opening_cluster (setting_of z c.args.clients c.args.saturation c.args.allowed) (g.J.JobSpec.operation c.args.job)) (c.in_ok-shape.ensures ∙ c.shape-graph.ensures)

pub returns-clause-ready : goal.returns-clause-ready
returns-clause-ready g c = begun_ready c.args.job c.args.feed c.in_ok-shape.shape c.args.clients c.args.saturation c.args.allowed c.in_ok-state.state c.in_ok-state.ensures

pub returns-clause-events : goal.returns-clause-events
returns-clause-events g c = c.in_ok-state.ensures.events

pub returns-clause-job : goal.returns-clause-job
returns-clause-job g c = c.in_ok-state.ensures.job_is

pub returns-clause-feed : goal.returns-clause-feed
returns-clause-feed g c = c.in_ok-state.ensures.feed_is

pub returns-clause-made : goal.returns-clause-made
returns-clause-made g c = begun_made c.args.job c.args.feed c.in_ok-shape.shape c.args.clients c.args.saturation c.args.allowed c.in_ok-state.state c.in_ok-state.ensures g.J.JobSpec.operation
