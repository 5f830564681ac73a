use Rattle.std.proofs.Common.{sym, ap, ◌∙◌}
use Rattle.std.specs.List.{flat_map}
use Rattle.cluster_rules.specs.Enabled.{enabled, progress, progress_kinds}
use Rattle.cluster_world.specs.Searching.{found}
use Rattle.cluster_world.proofs.Searches.{found_is_at}
use Rattle.cluster_world.proofs.progress.nth_progress.Goals as goal

pub returns-in-Passing : goal.returns-in-Passing
unfolding progress
returns-in-Passing g c =
    let w = g.C.Choices.world c.args.world.now in
    sym (sym (found_is_at (enabled w) (flat_map (λ es. es) (progress_kinds w)) c.args.n) ∙ ap found (sym c.in-Passing.ensures))

pub returns-in-Found : goal.returns-in-Found
unfolding progress
returns-in-Found g c =
    let w = g.C.Choices.world c.args.world.now in
    ap found c.in-Found.ensures ∙ found_is_at (enabled w) (flat_map (λ es. es) (progress_kinds w)) c.args.n
