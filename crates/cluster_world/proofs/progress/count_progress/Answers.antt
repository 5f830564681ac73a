use Rattle.std.proofs.Common.{arith}
use Rattle.std.specs.List.{flat_map}
use Rattle.cluster_rules.specs.Enabled.{enabled, progress, progress_kinds}
use Rattle.cluster_world.proofs.Searches.{passed_is}
use Rattle.cluster_world.proofs.progress.count_progress.Goals as goal

pub returns : goal.returns
unfolding progress
returns g c =
    let w = g.C.Choices.world c.args.world.now in
    let h = passed_is (enabled w) (flat_map (λ es. es) (progress_kinds w)) 18446744073709551615 c.search.result c.search.ensures in
    let e = c.left.ensures in
    omega (arith, h, e)
