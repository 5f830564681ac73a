-- searched as far as the loop has come
use Rattle.std.proofs.Common.{◌≡◌, ◌≤◌, ◌-◌, map}
use Rattle.std.specs.List.{range_with_len}
use Rattle.cluster_msgs.specs.Shape.{key_count}
use Rattle.cluster_msgs.specs.declared.events.Event.TheVariants as event
use Rattle.cluster_rules.specs.Enabled.{enabled}
use Rattle.cluster_rules.specs.World.{shape_of}
use Rattle.cluster_world.specs.Searching.{searched}
use Rattle.cluster_world.proofs.progress.search_runs.Given as goal

abbrev pub invariant-loop-key : goal.invariant-loop-key
invariant-loop-key g l = record {
  within : l.first ≤ key_count (shape_of (g.C.Choices.world l.world));
  searched : l.search ≡ searched (enabled (g.C.Choices.world l.world)) l.fn.search (map (λ k. event.Finish l.worker k) (range_with_len 0 l.first));
}

abbrev pub decreases-loop-key : goal.decreases-loop-key
decreases-loop-key g l = key_count (shape_of (g.C.Choices.world l.world)) - l.first
