use Rattle.std.proofs.Common.{sym, ap}
use Rattle.cluster_rules.specs.Enabled.{enabled, quiet_askers}
use Rattle.cluster_world.specs.Searching.{searched}
use Rattle.cluster_world.proofs.Searches.{none_fails}
use Rattle.cluster_world.proofs.progress.search_fails.Goals as goal

pub returns-else-some_died : goal.returns-else-some_died
returns-else-some_died g c =
    let w = g.C.Choices.world c.args.world.now in
    ap (λ es. searched (enabled w) c.args.search es) (sym (none_fails w (quiet_askers w) (c.some_died.ensures c.if-some_died.false)))
