use Rattle.std.proofs.Common.{◌≡◌, filter, take}
use Rattle.worker_core.specs.Core.{facts}
use Rattle.node_states.specs.Stores.{GoesOn}
use Rattle.node_states.proofs.holding.parcel.Given as goal

abbrev pub invariant-loop-key : goal.invariant-loop-key
invariant-loop-key g l = (l.parcel.0 ≡ filter (facts l.core).mem (take l.key-index l.keys)) × GoesOn (g.S.BlockStore.stock l.initial.store) (g.S.BlockStore.stock l.store)
