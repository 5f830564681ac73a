use Rattle.std.proofs.Common.{◌≡◌, map, take}
use Rattle.node_states.specs.Stores.{GoesOn}
use Rattle.node_states.proofs.holding.inputs.Given as goal

abbrev pub invariant-loop-key : goal.invariant-loop-key
invariant-loop-key g l = (map (λ k. k.key) l.inputs.items ≡ take l.key-index l.keys) × GoesOn (g.S.BlockStore.stock l.initial.store) (g.S.BlockStore.stock l.store)
