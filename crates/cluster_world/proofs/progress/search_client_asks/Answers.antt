use Rattle.std.proofs.Common.{◌+◌, sym, ap, ◌∙◌}
use Rattle.cluster_msgs.specs.declared.events.Asker.TheVariants.{Client}
use Rattle.cluster_rules.specs.Enabled.{enabled}
use Rattle.cluster_world.specs.Searching.{searched, asks_of}
use Rattle.cluster_world.proofs.Searches.{searched_more}
use Rattle.cluster_world.proofs.progress.search_client_asks.Goals as goal

pub loop-before-preserved : goal.loop-before-preserved
loop-before-preserved g c =
    let w = g.C.Choices.world c.args.world.now in
    c.search_asks_of-search.ensures ∙ ap (λ s. searched (enabled w) s (asks_of w c.args.failing (Client (c.loop-before.before + 1)))) c.loop-before.invariant
    ∙ sym (searched_more (enabled w) c.args.search (λ x. asks_of w c.args.failing (Client x)) c.loop-before.before)
