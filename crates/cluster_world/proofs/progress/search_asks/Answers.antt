use Rattle.std.proofs.Common.{ap, ◌∙◌}
use Rattle.std.specs.List.{flat_map}
use Rattle.cluster_msgs.specs.declared.events.Asker.TheVariants.{Client}
use Rattle.cluster_rules.specs.World.{all_clients}
use Rattle.cluster_rules.specs.Enabled.{enabled}
use Rattle.cluster_world.specs.Searching.{searched, asks_of}
use Rattle.cluster_world.proofs.Searches.{askers_are}
use Rattle.cluster_world.proofs.progress.search_asks.Goals as goal

pub returns : goal.returns
returns g c =
    let w = g.C.Choices.world c.args.world.now in
    c.search_client_asks.ensures ∙ ap (λ s. searched (enabled w) s (flat_map (λ x. asks_of w c.args.failing (Client x)) (all_clients w))) c.search_worker_asks-workers.ensures
    ∙ askers_are w (enabled w) c.args.search c.args.failing
