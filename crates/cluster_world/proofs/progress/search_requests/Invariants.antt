-- searched as far as the loop has come
use Rattle.std.proofs.Common.{◌≡◌, map, take}
use Rattle.std.specs.List.{flat_map}
use Rattle.cluster_rules.specs.Enabled.{enabled}
use Rattle.cluster_world.specs.Searching.{searched, name_of, serve_events}
use Rattle.cluster_world.proofs.progress.search_requests.Given as goal

abbrev pub invariant-loop-place : goal.invariant-loop-place
invariant-loop-place g l = let w = g.C.Choices.world l.world in l.search ≡ searched (enabled w) l.fn.search (flat_map serve_events (take l.place (map name_of w.requests)))
