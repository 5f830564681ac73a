use Rattle.std.proofs.Common.{sym, ◌∙◌}
use Rattle.cluster_rules.specs.Enabled.{enabled}
use Rattle.cluster_world.specs.Searching.{finish_events}
use Rattle.cluster_world.proofs.Searches.{found_stays}
use Rattle.cluster_world.proofs.progress.search_finishes_of.Goals as goal

pub returns-then-is_found : goal.returns-then-is_found
returns-then-is_found g c =
    let w = g.C.Choices.world c.args.world.now in
    found_stays (enabled w) c.args.search (finish_events w c.args.worker) (sym c.is_found.ensures ∙ c.if-is_found.true)
