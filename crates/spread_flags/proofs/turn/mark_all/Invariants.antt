use Rattle.std.proofs.Common.{◌≡◌, ℕ, take, ◌||◌}
use Rattle.cluster_rules.specs.Derived.{is_in}
use Rattle.key_sets.specs.Sets.{has, room}
use Rattle.spread_flags.proofs.turn.mark_all.Given as goal

abbrev pub invariant-loop-key : goal.invariant-loop-key
invariant-loop-key l = record {
  marked : (k : ℕ) → has l.stale k ≡ (has l.fn.stale k || is_in k (take l.key-index l.keys));
  rooms : room l.stale ≡ room l.fn.stale;
}
