use Rattle.std.proofs.Common.{◌≡◌, ℕ, true, false, take}
use Rattle.cluster_rules.specs.Derived.{is_in}
use Rattle.worker_core.specs.Core.{facts}
use Rattle.node_states.specs.Spills.{is_marked}
use Rattle.node_states.proofs.history.forget_all.Given as goal

abbrev pub invariant-loop-key : goal.invariant-loop-key
invariant-loop-key l = ((k : ℕ) → (facts l.core).mem k ≡ true → is_marked l.marks k ≡ is_marked l.initial.marks k)
    × ((k : ℕ) → (facts l.core).mem k ≡ false → is_in k (take l.key-index l.keys) ≡ true → is_marked l.marks k ≡ false)
    × (l.marks.keys ≡ l.initial.marks.keys)
