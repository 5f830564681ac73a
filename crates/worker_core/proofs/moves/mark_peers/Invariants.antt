use Rattle.std.proofs.Common.{◌≡◌, ◌<◌, ◌≤◌, ◌-◌, ℕ, false, length, get_or, filter}
use Rattle.std.specs.List.{filter_map}
use Rattle.cluster_msgs.specs.Shape.{key_count}
use Rattle.cluster_rules.specs.Derived.{below}
use Rattle.cluster_rules.specs.Worker.{wstate, is_fetch_state, item_at, has_any}
use Rattle.worker_facts.specs.Stored.{facts_of}
use Rattle.worker_core.proofs.moves.mark_peers.Given as goal

-- the peers that hold one of the keys so far
abbrev pub invariant-keys : goal.invariant-keys
invariant-keys l = record {
  marked : (p : ℕ) → p < length l.fn.row → get_or l.row p false ≡ has_any (filter_map (λ k. item_at p k ((facts_of l.table).holders k)) (filter (λ k. is_fetch_state (wstate (facts_of l.table) k)) (below l.from)));
  long : length l.row ≡ length l.fn.row;
  low : l.from ≤ key_count (facts_of l.table).shape;
}

abbrev pub decreases-keys : goal.decreases-keys
decreases-keys l = key_count (facts_of l.table).shape - l.from
