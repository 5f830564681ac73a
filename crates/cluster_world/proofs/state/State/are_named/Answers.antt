use Rattle.std.proofs.Common.{not, ◌&&◌, ap, ◌∙◌}
use Rattle.std.specs.Prelude.{nat_lt}
use Rattle.std.specs.List.{list_all}
use Rattle.cluster_msgs.specs.Shape.{key_count}
use Rattle.cluster_nodes.specs.Nodes.{world_of}
use Rattle.cluster_world.proofs.state.State.are_named.Goals as goal
use Rattle.gather_client.proofs.TableLemmas.{any_is}

pub returns : goal.returns
unfolding world_of
returns g c =
    let n = c.keys.ensures ∙ ap key_count c.requires in
    (λ t. not (c.is_empty-some.ensures t) && c.are_below.ensures t)
    ∙ (λ t. any_is c.args.keys.now t && list_all (λ k. nat_lt k (n t)) (c.as_slice.ensures t))
