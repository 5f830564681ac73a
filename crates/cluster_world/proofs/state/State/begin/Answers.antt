use Rattle.std.proofs.Common.{◌∙◌, sym}
use Rattle.cluster_laws.specs.Blocks.{setting_of}
use Rattle.cluster_world.proofs.Beginning.{begun_by}
use Rattle.cluster_world.proofs.state.State.begin.Goals as goal

pub returns : goal.returns
returns g c =
    begun_by c.args.job c.args.feed c.args.shape c.args.clients c.args.saturation c.args.allowed c.of_parts.result c.in_ok-sched.sched c.in-Ok.nodes
    c.of_parts.ensures.job c.of_parts.ensures.feed c.of_parts.ensures.clients c.of_parts.ensures.sched c.of_parts.ensures.nodes c.of_parts.ensures.course c.of_parts.ensures.events
    c.in_ok-sched.ensures.facts c.in-Ok.ensures.nodes (c.in-Ok.ensures.shape ∙ c.in_ok-again.ensures) c.in-Ok.ensures.workers c.in-Ok.ensures.clients c.in-Ok.ensures.few c.in_ok-sched.ensures.taken
    (c.in-Ok.ensures.cluster (setting_of c.args.shape c.args.clients c.args.saturation c.args.allowed) (sym c.in_ok-again.ensures))
