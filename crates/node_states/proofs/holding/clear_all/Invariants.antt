use Rattle.std.proofs.Common.{◌≡◌, ℕ, true, false, take}
use Rattle.cluster_rules.specs.Derived.{is_in}
use Rattle.worker_core.specs.Core.{facts}
use Rattle.node_states.specs.Stores.{GoesOn}
use Rattle.node_states.proofs.holding.clear_all.Given as goal

abbrev pub invariant-loop-key : goal.invariant-loop-key
invariant-loop-key g l = ((k : ℕ) → (facts l.core).mem k ≡ false → is_in k (take l.key-index l.keys) ≡ true → (g.S.BlockStore.stock l.store).aside k ≡ false)
    × GoesOn (g.S.BlockStore.stock l.initial.store) (g.S.BlockStore.stock l.store)
