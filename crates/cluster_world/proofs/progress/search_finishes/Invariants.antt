-- searched as far as the loop has come
use Rattle.std.proofs.Common.{◌≡◌}
use Rattle.std.specs.List.{flat_map, range_with_len}
use Rattle.cluster_rules.specs.Enabled.{enabled}
use Rattle.cluster_world.specs.Searching.{searched, finish_events}
use Rattle.cluster_world.proofs.progress.search_finishes.Given as goal

abbrev pub invariant-loop-before : goal.invariant-loop-before
invariant-loop-before g l = let w = g.C.Choices.world l.world in l.search ≡ searched (enabled w) l.fn.search (flat_map (finish_events w) (range_with_len 1 l.before))
