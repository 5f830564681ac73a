use Rattle.std.proofs.Common.{◌≡◌, ◌||◌, ℕ, take}
use Rattle.cluster_rules.specs.Derived.{is_in}
use Rattle.key_sets.specs.Sets.{has, room}
use Rattle.worker_core.proofs.told.name_all.Given as goal

abbrev pub invariant-loop-key : goal.invariant-loop-key
invariant-loop-key l = record {
  named : (k : ℕ) → has l.set k ≡ (has l.fn.set k || is_in k (take l.key-index l.keys));
  room : room l.set ≡ room l.fn.set;
}
