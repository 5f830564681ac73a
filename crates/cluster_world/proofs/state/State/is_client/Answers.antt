use Rattle.std.proofs.Common.{◌&&◌, ap}
use Rattle.std.specs.Prelude.{nat_le}
use Rattle.cluster_nodes.specs.Nodes.{world_of}
use Rattle.cluster_world.proofs.state.State.is_client.Goals as goal

pub returns : goal.returns
unfolding world_of
returns g c = ap (λ n. nat_le 1 c.args.client && nat_le c.args.client n) c.requires
