use Rattle.std.proofs.Common.{◌+◌, sym, ap, ◌∙◌}
use Rattle.cluster_rules.specs.Enabled.{enabled}
use Rattle.cluster_world.specs.Searching.{searched, node_events}
use Rattle.cluster_world.proofs.Searches.{searched_more}
use Rattle.cluster_world.proofs.progress.search_kind.Goals as goal

pub loop-before-preserved : goal.loop-before-preserved
loop-before-preserved g c =
    let w = g.C.Choices.world c.args.world.now in
    c.search_node-search.ensures ∙ ap (λ s. searched (enabled w) s (node_events w c.args.kind (c.loop-before.before + 1))) c.loop-before.invariant
    ∙ sym (searched_more (enabled w) c.args.search (node_events w c.args.kind) c.loop-before.before)
