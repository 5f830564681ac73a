-- searched as far as the loop has come
use Rattle.std.proofs.Common.{◌≡◌}
use Rattle.std.specs.List.{flat_map, range_with_len}
use Rattle.cluster_rules.specs.Enabled.{enabled}
use Rattle.cluster_world.specs.Searching.{searched, ask_events}
use Rattle.cluster_world.proofs.progress.search_each.Given as goal

abbrev pub invariant-loop-before : goal.invariant-loop-before
invariant-loop-before g l = let w = g.C.Choices.world l.world in l.search ≡ searched (enabled w) l.fn.search (flat_map (ask_events w l.failing l.asker) (range_with_len 1 l.before))
