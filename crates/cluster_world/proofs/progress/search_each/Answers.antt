use Rattle.std.proofs.Common.{◌+◌, sym, ap, ◌∙◌}
use Rattle.cluster_rules.specs.Enabled.{enabled}
use Rattle.cluster_world.specs.Searching.{searched, ask_events}
use Rattle.cluster_world.proofs.Searches.{searched_more}
use Rattle.cluster_world.proofs.progress.search_each.Goals as goal

pub loop-before-preserved : goal.loop-before-preserved
loop-before-preserved g c =
    let w = g.C.Choices.world c.args.world.now in
    c.search_ask-search.ensures ∙ ap (λ s. searched (enabled w) s (ask_events w c.args.failing c.args.asker (c.loop-before.before + 1))) c.loop-before.invariant
    ∙ sym (searched_more (enabled w) c.args.search (ask_events w c.args.failing c.args.asker) c.loop-before.before)
